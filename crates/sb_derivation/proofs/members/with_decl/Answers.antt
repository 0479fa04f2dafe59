use Rattle.std.proofs.Common.{◌≡◌, ◌∙◌, [], ◌∷◌, ◌++◌, max, sym, ap}
use Rattle.sb_tree.specs.Plain.{plain_decl, plain_decls, decl_list}
use Rattle.sb_tree.specs.Trees.{depth_of_decls}
use Rattle.sb_specifier.proofs.Growing.{more_decls, depth_of_more_decls}
use Rattle.sb_derivation.proofs.members.with_decl.Goals as goal

pub returns-clause-list : goal.returns-clause-list
returns-clause-list c = ap plain_decls c.in_ok-push.ensures.items ∙ more_decls c.args.so_far.list.items c.args.next.tree

pub returns-clause-known : goal.returns-clause-known
returns-clause-known c =
    let list : plain_decls c.push.new.self.items ≡ plain_decls c.args.so_far.list.items ++ (plain_decl c.args.next.tree ∷ []) = ap plain_decls c.in_ok-push.ensures.items ∙ more_decls c.args.so_far.list.items c.args.next.tree in
    c.max.ensures ∙ ap (λ n. max n c.args.next.depth) c.requires.list ∙ ap (λ n. max (depth_of_decls (decl_list (plain_decls c.args.so_far.list.items))) n) c.requires.next
    ∙ sym (depth_of_more_decls (plain_decls c.args.so_far.list.items) (plain_decl c.args.next.tree)) ∙ ap (λ l. depth_of_decls (decl_list l)) (sym list)
