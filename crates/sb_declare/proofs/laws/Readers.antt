-- The readers of declarations of each depth keep the laws, and what that comes to in the grammar's words.
use Rattle.std.proofs.Common.{◌≡◌, ◌≤◌, ◌<◌, ◌-◌, ℕ, zero, suc, max, List, [], ◌∷◌, ◌++◌, length, None, refl, sym, ◌∙◌, inl, inr, arith}
use Rattle.std.proofs.Math.Nat.{le-max_left, le-max_right}
use Rattle.sb_base.specs.declared.interning.Name.{Name}
use Rattle.sb_base.specs.declared.tokens.Token.{Token}
use Rattle.sb_parse.specs.Parser.{done, stop, never}
use Rattle.sb_parse.specs.Lawful.{Lawful}
use Rattle.sb_parse.specs.Read.{HasOneTree, IsLongest}
use Rattle.sb_parse.proofs.Reading.{one_tree, longest, refused}
use Rattle.sb_tree.specs.Plain.{decl_list}
use Rattle.sb_tree.specs.Trees as tree
use Rattle.sb_tree.specs.Trees.{NoteTree, TypeTree, OptionalInit, depth_of_type, depth_of_decl, depth_of_decls}
use Rattle.sb_lexicon.specs.Lexicon.{Lexicon}
use Rattle.sb_operand.specs.Pieces.{typed}
use Rattle.sb_lexicon.specs.Outcomes.{IsRefusedThere}
use Rattle.sb_lexicon.proofs.Depths.{some_type_depth}
use Rattle.sb_specifier.specs.declared.seat.Seat.{Seat}
use Rattle.sb_specifier.specs.declared.seat.Seat.TheVariants as seat
use Rattle.sb_specifier.specs.Specified.{reading, Specified, again}
use Rattle.sb_declare.specs.Declaration.{IsDeclaration, is_nameless, is_declaration, is_declared, AreDeclared, first_declared, declared_behind, declaration_of}
use Rattle.sb_declare.specs.Reads.{FitsDeclaration}
use Rattle.sb_specifier.specs.Readers.{Declarator, Declarations, barred}
use Rattle.sb_declarator.specs.Readers.{parts}
use Rattle.sb_declare.specs.Readers.{declaration_reader}
use Rattle.sb_specifier.proofs.laws.Barring.{barred_refuses}
use Rattle.sb_declarator.proofs.laws.Calls.{last_depth}
use Rattle.sb_declare.proofs.laws.Declarations.{declaration_law}
use Rattle.sb_declare.proofs.laws.Listed.{fits_declared}
use Rattle.sb_declarator.proofs.laws.Parts.{members_below, parameters_below}

module _ (texts : List (List ℕ)) where
  pub lawful_declaration : (left : ℕ) → 2 ≤ left → (types : List Name) → Lawful (FitsDeclaration texts left types) (λ _. never) (declaration_reader texts left types)
  lawful_declaration zero le types = absurd (omega arith)
  lawful_declaration (suc zero) le types = absurd (omega arith)
  lawful_declaration (suc (suc m)) le types = declaration_law texts (suc m) (parts texts (suc m)) (members_below texts (suc m)) (parameters_below texts (suc m)) (omega arith) types

  -- each declaration is a tree of depth 2 at least
  tree_depth : (notes : List NoteTree) (s : Specified) (base : TypeTree) (d : Declarator) (init : OptionalInit) → 2 ≤ depth_of_decl (declaration_of notes s base d init tree.NoStmt)
  tree_depth notes s base d init =
      let flat : 1 ≤ depth_of_type (typed base d.pieces) = some_type_depth (typed base d.pieces) in
      let fits = fits_declared (depth_of_decl (declaration_of notes s base d init tree.NoStmt) - 1) notes s base d init (omega arith) in
      let deep : depth_of_type (typed base d.pieces) ≤ depth_of_decl (declaration_of notes s base d init tree.NoStmt) - 1 = fits.1 in
      omega arith

  list_depth : (noted : List Token) (notes : List NoteTree) (s : Specified) (base : TypeTree) (ts : List Token) (ds : Declarations) → AreDeclared texts noted notes s base ts ds → 2 ≤ depth_of_decls (decl_list ds.list)
  list_depth noted notes s base _ _ (first_declared _ _ _ (is_declared types xs js ys d init is judged inits)) =
      let deep = tree_depth notes s base d init in
      let last : depth_of_decl (declaration_of notes s base d init tree.NoStmt) ≤ depth_of_decls (decl_list (declaration_of notes s base d init tree.NoStmt ∷ [])) = last_depth [] (declaration_of notes s base d init tree.NoStmt) in
      omega arith
  list_depth noted notes s base _ _ (declared_behind _ _ c ds _ _ comma are (is_declared types xs js ys d init is judged inits)) =
      let deep = tree_depth notes s (again base) d init in
      let last : depth_of_decl (declaration_of notes s (again base) d init tree.NoStmt) ≤ depth_of_decls (decl_list (ds.list ++ (declaration_of notes s (again base) d init tree.NoStmt ∷ []))) = last_depth ds.list (declaration_of notes s (again base) d init tree.NoStmt) in
      omega arith

  pub declaration_depth : (types : List Name) (ts : List Token) (ds : Declarations) → IsDeclaration texts types ts ds → 2 ≤ depth_of_decls (decl_list ds.list)
  declaration_depth types _ _ (is_nameless _ xs ys js c notes s base begins judged closes) =
      let unnamed : Declarator = record { pieces = []; name = None; inner = types } in
      let deep : 2 ≤ depth_of_decl (declaration_of notes s base (record { pieces = []; name = None; inner = types }) tree.NoInit tree.NoStmt) = tree_depth notes s base (record { pieces = []; name = None; inner = types }) tree.NoInit in
      let last : depth_of_decl (declaration_of notes s base (record { pieces = []; name = None; inner = types }) tree.NoInit tree.NoStmt)
      ≤ depth_of_decls (decl_list (declaration_of notes s base (record { pieces = []; name = None; inner = types }) tree.NoInit tree.NoStmt ∷ [])) =
      last_depth [] (declaration_of notes s base (record { pieces = []; name = None; inner = types }) tree.NoInit tree.NoStmt) in
      omega arith
  declaration_depth types _ _ (is_declaration _ xs ys zs c notes s base ds begins are closes) = list_depth xs notes s base zs ds are

  pub none_declared : (left : ℕ) (types : List Name) → left < 2 → (ts : List Token) (ds : Declarations) → FitsDeclaration texts left types ts ds → ⊥
  none_declared left types few ts ds f = let least : 2 ≤ depth_of_decls (decl_list ds.list) = declaration_depth types ts ds f.0 in let most : depth_of_decls (decl_list ds.list) ≤ left = f.1 in absurd (omega arith)

  barred_there : {A : Type 0} (w : Lexicon) (at : Seat) (ts : List Token) (n k : ℕ) → barred {A = A} w at ts ≡ stop n k → k ≡ length ts
  barred_there {A} w at ts n k e =
      let it = barred_refuses w at {A = A} ts in
      let halt : stop it.number (length ts) ≡ stop n k = sym (it.halts ts refl) ∙ e in
      cc halt

  pub declaration_longest : (left : ℕ) (types : List Name) (ts : List Token) (ds : Declarations) (rest : List Token) → declaration_reader texts left types ts ≡ done ds rest → IsLongest (FitsDeclaration texts left types) ts ds rest
  declaration_longest zero types ts ds rest e = let halt = (barred_refuses (reading texts types) seat.Scope ts).halts ts refl in let both = sym halt ∙ e in absurd (cc both)
  declaration_longest (suc zero) types ts ds rest e = let halt = (barred_refuses (reading texts types) seat.Scope ts).halts ts refl in let both = sym halt ∙ e in absurd (cc both)
  declaration_longest (suc (suc m)) types ts ds rest e = longest (lawful_declaration (suc (suc m)) (omega arith) types) ts ds rest e

  pub declaration_refused : (left : ℕ) (types : List Name) (ts : List Token) (n k : ℕ) → declaration_reader texts left types ts ≡ stop n k → IsRefusedThere (FitsDeclaration texts left types) ts k
  declaration_refused zero types ts n k e = inr (record { left_is = barred_there {A = Declarations} (reading texts types) seat.Scope ts n k e; none = none_declared zero types (omega arith) })
  declaration_refused (suc zero) types ts n k e = inr (record { left_is = barred_there {A = Declarations} (reading texts types) seat.Scope ts n k e; none = none_declared 1 types (omega arith) })
  declaration_refused (suc (suc m)) types ts n k e = inl (refused (lawful_declaration (suc (suc m)) (omega arith) types) ts n k e)

  pub one_declaration : (types : List Name) → HasOneTree (IsDeclaration texts types)
  one_declaration types ts ds es is also =
      let first : depth_of_decls (decl_list ds.list) ≤ max (depth_of_decls (decl_list ds.list)) (depth_of_decls (decl_list es.list)) = le-max_left (depth_of_decls (decl_list ds.list)) (depth_of_decls (decl_list es.list)) in
      let second : depth_of_decls (decl_list es.list) ≤ max (depth_of_decls (decl_list ds.list)) (depth_of_decls (decl_list es.list)) = le-max_right (depth_of_decls (decl_list ds.list)) (depth_of_decls (decl_list es.list)) in
      let least : 2 ≤ depth_of_decls (decl_list ds.list) = declaration_depth types ts ds is in
      one_tree (lawful_declaration (max (depth_of_decls (decl_list ds.list)) (depth_of_decls (decl_list es.list))) (omega arith) types) ts ds es (is, first) (also, second)
