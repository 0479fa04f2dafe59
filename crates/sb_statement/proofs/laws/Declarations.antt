-- The readers of declarations in blocks keep the laws.
use Rattle.std.proofs.Common.{◌≡◌, ◌≤◌, ◌<◌, ℕ, zero, suc, Bool, true, false, List, [], ◌∷◌, ◌++◌, nat_lt, refl, sym, ap, subst, arith}
use Rattle.std.proofs.lemmas.Bool.{ltb-false, ltb-true}
use Rattle.sb_base.specs.declared.interning.Name.{Name}
use Rattle.sb_base.specs.declared.tokens.Token.{Token}
use Rattle.sb_parse.specs.Parser.{Outcome, done, stop, at_next, never, and_then, pure}
use Rattle.sb_parse.specs.Lawful.{Lawful, OnHead, Mapped}
use Rattle.sb_parse.proofs.Joining.{via, map_of}
use Rattle.sb_parse.proofs.Heads.{headed}
use Rattle.sb_tree.specs.Plain.{decl_list}
use Rattle.sb_tree.specs.Trees as tree
use Rattle.sb_tree.specs.Trees.{StmtTree, depth_of_stmt, depth_of_decls}
use Rattle.sb_parse.proofs.Ways.{Refuses}
use Rattle.sb_specifier.specs.declared.seat.Seat.TheVariants as seat
use Rattle.sb_specifier.specs.Specified.{reading}
use Rattle.sb_declare.specs.Reads.{FitsDeclaration}
use Rattle.sb_specifier.specs.Readers.{Declarations, begins_declaration}
use Rattle.sb_parse.specs.Texts.{with_front, with_text}
use Rattle.sb_declare.specs.Readers.{declaration_reader}
use Rattle.sb_specifier.proofs.laws.Barring.{barred_refuses}
use Rattle.sb_parse.proofs.Choices.{refusing}
use Rattle.sb_parse.proofs.Texts.{WithText, text_law}
use Rattle.sb_declare.proofs.laws.Readers.{lawful_declaration, none_declared}
use Rattle.sb_statement.specs.Readers.{Body, Parts, first_place, declared, declaration_item}
use Rattle.sb_statement.specs.Statement.{IsDeclared, is_declared}
use Rattle.sb_statement.proofs.laws.Fits.{more_body}
use Rattle.sb_statement.proofs.laws.Fits.{last_more}
use Rattle.sb_statement.proofs.tokens.Begins.{declared_begins}

module _ (texts : List (List ℕ)) (below : ℕ) (part : Parts) where
  abbrev pub value_of : Declarations × List Token → StmtTree × List Name
  value_of d = (tree.Declare (decl_list d.0.list) (first_place d.1), d.0.types)

  -- a declaration as a statement, with the typedef names in force behind it
  abbrev pub DeclaredText : List Name → List Token → StmtTree × List Name → Type 0
  DeclaredText types = Mapped value_of (WithText (FitsDeclaration texts below types))

  abbrev pub with_item : Body → StmtTree × List Name → Body
  with_item b d = record { list = b.list ++ (d.0 ∷ []); types = d.1 }

  abbrev pub DeclarationItem : Body → List Token → Body → Type 0
  DeclarationItem b = Mapped (λ d. with_item b (value_of d)) (WithText (FitsDeclaration texts below b.types))

  -- ---- where there is room

  module _ (some : 2 ≤ below) where
    pub declared_law : (types : List Name) → Lawful (DeclaredText types) (λ d. never) (declared texts below part types)
    unfolding declared
    declared_law types = map_of (text_law (lawful_declaration texts below some types)) value_of (λ d. never) (λ d t. refl)

    last_ends : (b : Body) (d : Declarations × List Token) (t : Token) → more_body texts (with_item b (value_of d)) t ≡ false
    last_ends b d t = last_more texts b.list (tree.Declare (decl_list d.0.list) (first_place d.1)) t

    pub declaration_law : (b : Body) → Lawful (DeclarationItem b) (more_body texts) (declaration_item texts below part b)
    unfolding declared declaration_item
    declaration_law b =
        via (map_of (text_law (lawful_declaration texts below some b.types)) (λ d. with_item b (value_of d)) (more_body texts) (λ d t. last_ends b d t)) (λ ts c m. m) (λ ts c m. m) (declaration_item texts below part b)
        (λ ts. by_outcome (with_text (declaration_reader texts below b.types) ts))
      where
        by_outcome : (o : Outcome Token (Declarations × List Token)) → and_then (and_then o (λ d. pure (value_of d))) (λ d. pure (with_item b d)) ≡ and_then o (λ d. pure (with_item b (value_of d)))
        by_outcome (done d rest) = refl
        by_outcome (stop n left) = refl

  -- ---- where there is none

  reader_refuses : (types : List Name) → below < 2 → (ts : List Token) → Refuses (declaration_reader texts below types) ts
  reader_refuses types few ts = by_room below few
    where
      by_room : (n : ℕ) → n < 2 → Refuses (declaration_reader texts n types) ts
      by_room zero h = barred_refuses (reading texts types) seat.Scope ts
      by_room (suc zero) h = barred_refuses (reading texts types) seat.Scope ts
      by_room (suc (suc n)) h = absurd (omega arith)

  pub declared_refuses : (types : List Name) → below < 2 → (ts : List Token) → Refuses (declared texts below part types) ts
  unfolding declared
  declared_refuses types few ts = record { number = it.number; halts = λ x e. ap (λ o. and_then (with_front x o) (λ d. pure (value_of d))) (it.halts x e) }
    where
      it : Refuses (declaration_reader texts below types) ts
      it = reader_refuses types few ts

  pub item_refuses : (b : Body) → below < 2 → (ts : List Token) → Refuses (declaration_item texts below part b) ts
  unfolding declaration_item
  item_refuses b few ts = record { number = it.number; halts = λ x e. ap (λ o. and_then o (λ d. pure (with_item b d))) (it.halts x e) }
    where
      it : Refuses (declared texts below part b.types) ts
      it = declared_refuses b.types few ts

  none_item : (b : Body) → below < 2 → (ts : List Token) (c : Body) → DeclarationItem b ts c → ⊥
  none_item b few ts c m = none_declared texts below b.types few ts m.value.0 m.is.0

  pub item_begins : (b : Body) (ts : List Token) (c : Body) → DeclarationItem b ts c → at_next (begins_declaration (reading texts b.types)) ts ≡ true
  item_begins b ts c m = declared_begins texts b.types ts m.value.0 m.is.0.0

  pub text_begins : (types : List Name) (ts : List Token) (d : StmtTree × List Name) → DeclaredText types ts d → at_next (begins_declaration (reading texts types)) ts ≡ true
  text_begins types ts d m = declared_begins texts types ts m.value.0 m.is.0.0

  -- ---- in either case

  pub item_head : (b : Body) → OnHead (begins_declaration (reading texts b.types)) (DeclarationItem b) (more_body texts) (declaration_item texts below part b)
  item_head b = by_room (nat_lt below 2) refl
    where
      by_room : (few : Bool) → nat_lt below 2 ≡ few → OnHead (begins_declaration (reading texts b.types)) (DeclarationItem b) (more_body texts) (declaration_item texts below part b)
      by_room true h = refusing (begins_declaration (reading texts b.types)) (DeclarationItem b) (more_body texts) (declaration_item texts below part b) (item_refuses b (ltb-true below 2 h)) (none_item b (ltb-true below 2 h))
      by_room false h = headed (declaration_law (ltb-false below 2 h) b) (begins_declaration (reading texts b.types)) (item_begins b)

  pub declared_head : (types : List Name) → OnHead (begins_declaration (reading texts types)) (DeclaredText types) (λ d. never) (declared texts below part types)
  declared_head types = by_room (nat_lt below 2) refl
    where
      by_room : (few : Bool) → nat_lt below 2 ≡ few → OnHead (begins_declaration (reading texts types)) (DeclaredText types) (λ d. never) (declared texts below part types)
      by_room true h =
          refusing (begins_declaration (reading texts types)) (DeclaredText types) (λ d. never) (declared texts below part types) (declared_refuses types (ltb-true below 2 h)) (λ ts d m. none_declared texts below types (ltb-true below 2 h) ts m.value.0 m.is.0)
      by_room false h = headed (declared_law (ltb-false below 2 h) types) (begins_declaration (reading texts types)) (text_begins types)

  -- ---- in the grammar's words

  pub to_declared : (types : List Name) (ts : List Token) (d : StmtTree × List Name) → DeclaredText types ts d → IsDeclared texts types ts d.0 d.1 × (depth_of_stmt d.0 ≤ suc below)
  to_declared types ts d m =
      let ds = m.value.0 in
      let deep : depth_of_decls (decl_list ds.list) ≤ below = m.is.0.1 in
      subst (λ z. IsDeclared texts types ts z.0 z.1 × (depth_of_stmt z.0 ≤ suc below)) (sym m.same)
      (subst (λ z. IsDeclared texts types ts (tree.Declare (decl_list ds.list) (first_place z)) ds.types) (sym m.is.1) (is_declared types ts ds m.is.0.0), omega arith)

  pub from_declared : (types : List Name) (ts : List Token) (s : StmtTree) (now : List Name) → IsDeclared texts types ts s now → depth_of_stmt s ≤ suc below → DeclaredText types ts (s, now)
  from_declared _ _ _ _ (is_declared types ts ds is) le =
      let deep : depth_of_decls (decl_list ds.list) ≤ below = omega arith in
      record { value = (ds, ts); is = ((is, deep), refl); same = refl }
