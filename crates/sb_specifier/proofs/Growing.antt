-- Lists of nodes with one more at the end, and how deep they are.
use Rattle.std.proofs.Common.{◌≡◌, ◌+◌, List, [], ◌∷◌, ◌++◌, max, refl, ap, ◌∙◌, arith}
use Rattle.sb_tree.specs.declared.syntax.Decl.{Decl}
use Rattle.sb_tree.specs.declared.syntax.Init.{Init}
use Rattle.sb_tree.specs.declared.syntax.Item.{Item}
use Rattle.sb_tree.specs.Plain.{plain_init, plain_inits, plain_item, plain_items, plain_decl, plain_decls, init_list, item_list, decl_list}
use Rattle.sb_tree.specs.Trees.{InitTree, ItemTree, DeclTree, depth_of_init, depth_of_inits, depth_of_item, depth_of_items, depth_of_decl, depth_of_decls, depth_of_type}
use Rattle.sb_lexicon.specs.Words.{Said, Nothing, Words, Whole}
use Rattle.sb_specifier.specs.declared.specified.Said as declared_said
use Rattle.sb_specifier.specs.Meaning.{plain_said, named_by}
use Rattle.sb_specifier.specs.Specified.{depth_said}

pub more_inits : (is : List Init) (i : Init) → plain_inits (is ++ (i ∷ [])) ≡ plain_inits is ++ (plain_init i ∷ [])
more_inits [] i = refl
more_inits (x ∷ is) i = ap (λ l. plain_init x ∷ l) (more_inits is i)

pub depth_of_more_inits : (is : List InitTree) (i : InitTree) → depth_of_inits (init_list (is ++ (i ∷ []))) ≡ max (depth_of_inits (init_list is)) (depth_of_init i)
depth_of_more_inits [] i = omega arith
depth_of_more_inits (x ∷ is) i = ap (λ n. max (depth_of_init x) n) (depth_of_more_inits is i) ∙ (omega arith)

pub more_items : (is : List Item) (i : Item) → plain_items (is ++ (i ∷ [])) ≡ plain_items is ++ (plain_item i ∷ [])
more_items [] i = refl
more_items (x ∷ is) i = ap (λ l. plain_item x ∷ l) (more_items is i)

pub depth_of_more_items : (is : List ItemTree) (i : ItemTree) → depth_of_items (item_list (is ++ (i ∷ []))) ≡ max (depth_of_items (item_list is)) (depth_of_item i)
depth_of_more_items [] i = omega arith
depth_of_more_items (x ∷ is) i = ap (λ n. max (depth_of_item x) n) (depth_of_more_items is i) ∙ (omega arith)

pub more_decls : (ds : List Decl) (d : Decl) → plain_decls (ds ++ (d ∷ [])) ≡ plain_decls ds ++ (plain_decl d ∷ [])
more_decls [] d = refl
more_decls (x ∷ ds) d = ap (λ l. plain_decl x ∷ l) (more_decls ds d)

pub depth_of_more_decls : (ds : List DeclTree) (d : DeclTree) → depth_of_decls (decl_list (ds ++ (d ∷ []))) ≡ max (depth_of_decls (decl_list ds)) (depth_of_decl d)
depth_of_more_decls [] d = omega arith
depth_of_more_decls (x ∷ ds) d = ap (λ n. max (depth_of_decl x) n) (depth_of_more_decls ds d) ∙ (omega arith)

pub joined_decls : (ds es : List Decl) → plain_decls (ds ++ es) ≡ plain_decls ds ++ plain_decls es
joined_decls [] es = refl
joined_decls (x ∷ ds) es = ap (λ l. plain_decl x ∷ l) (joined_decls ds es)

pub depth_of_joined_decls : (ds es : List DeclTree) → depth_of_decls (decl_list (ds ++ es)) ≡ max (depth_of_decls (decl_list ds)) (depth_of_decls (decl_list es))
depth_of_joined_decls [] es = omega arith
depth_of_joined_decls (x ∷ ds) es = ap (λ n. max (depth_of_decl x) n) (depth_of_joined_decls ds es) ∙ (omega arith)

-- the type of specifiers without `const`
pub depth_of_said : (s : declared_said.Said) → depth_of_type (named_by (plain_said s)) ≡ depth_said (plain_said s)
depth_of_said s = by_said (plain_said s)
  where
    by_said : (said : Said) → depth_of_type (named_by said) ≡ depth_said said
    by_said Nothing = refl
    by_said (Words v place) = refl
    by_said (Whole t) = refl
