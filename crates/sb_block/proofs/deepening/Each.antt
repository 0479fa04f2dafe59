-- The readers of statements of each depth: where they stop for want of depth, deeper ones get past that token.
use Rattle.std.proofs.Common.{◌≡◌, ◌≤◌, ℕ, zero, suc, Bool, true, false, ◌&&◌, List, [], ◌∷◌, length, if◌then◌else◌, refl, sym, ap, ◌∙◌, subst, arith}
use Rattle.sb_base.specs.declared.interning.Name.{Name}
use Rattle.sb_base.specs.declared.tokens.Token.{Token}
use Rattle.sb_parse.specs.Parser.{Outcome, Parser, stop, at_next, and_then, choose, refuse}
use Rattle.sb_sign.specs.declared.sign.Keyword.{Keyword}
use Rattle.sb_sign.specs.declared.sign.Keyword.TheVariants as keyword
use Rattle.sb_tree.specs.Trees.{StmtTree}
use Rattle.sb_lexicon.specs.Lexicon.{Lexicon, is_keyword}
use Rattle.sb_lexicon.specs.Tokens.{unexpected, too_deep, is_open_brace}
use Rattle.sb_parse.proofs.Ways.{and_second, first_fails, second_fails, and_fails}
use Rattle.sb_sal.proofs.Deepening.{Past}
use Rattle.sb_sal.proofs.Lowered.{raised}
use Rattle.sb_specifier.specs.declared.seat.Seat.TheVariants as seat
use Rattle.sb_specifier.specs.Readers.{Declarations, is_semicolon, is_name, begins_declaration, barred}
use Rattle.sb_declare.specs.Readers.{declaration_reader}
use Rattle.sb_specifier.specs.Specified.{reading}
use Rattle.sb_specifier.proofs.laws.Barring.{barred_then}
use Rattle.sb_declare.proofs.deepening.Readers.{declaration_reader_deepens}
use Rattle.sb_statement.specs.Readers.{Body, begins_keyword_statement, is_label_keyword, begins_statement, names_declaration, item, declaration_item, statement_item, named_item, statements}
use Rattle.sb_statement.proofs.laws.Chains.{heads_of, heads_no_declaration}
use Rattle.sb_statement.proofs.tokens.Begins.{signs}
use Rattle.sb_statement.proofs.widening.Crowded.{first_so}
use Rattle.sb_statement.proofs.widening.Starts.{second_so, barred_starts}
use Rattle.sb_block.proofs.widening.Statements.{statements_wider}
use Rattle.sb_block.proofs.deepening.Shrinks.{block_past}
use Rattle.sb_block.proofs.deepening.Entering.{none_begins, name_begins, statement_enters, statements_shrink, item_past, statement_item_past, named_item_past, one_few}
use Rattle.sb_block.proofs.deepening.Statements.{DeepParts, statement_deepens, block_deepens}
use Rattle.sb_block.proofs.deepening.Items.{first_deepens, item_deepens}

-- ---- what begins a statement and is no name begins no declaration

module _ (texts : List (List ℕ)) (types : List Name) (cases : Bool) (t : Token) where
  abbrev w : Lexicon
  w = reading texts types

  no_head : heads_of w signs t ≡ false → is_name w t ≡ false → begins_statement w cases t ≡ false
  no_head h named =
      let a = second_fails (is_open_brace w t) _ h in
      let b = second_fails (is_semicolon w t) _ a in
      let c = second_fails (is_keyword w keyword.If t) _ b in
      let d = second_fails (is_keyword w keyword.While t) _ c in
      let e = second_fails (is_keyword w keyword.Do t) _ d in
      let f = second_fails (is_keyword w keyword.For t) _ e in
      let g = second_fails (is_keyword w keyword.Switch t) _ f in
      let i = second_fails (is_keyword w keyword.Goto t) _ g in
      let j = second_fails (is_keyword w keyword.Break t) _ i in
      let k = second_fails (is_keyword w keyword.Continue t) _ j in
      let l = second_fails (is_keyword w keyword.Return t) _ k in
      let m = second_fails (is_keyword w keyword.Case t) _ l in
      none_begins w cases t
      (words (first_fails _ _ b) (first_fails _ _ c) (first_fails _ _ d) (first_fails _ _ e) (first_fails _ _ f) (first_fails _ _ g) (first_fails _ _ i) (first_fails _ _ j) (first_fails _ _ k))
      (labels (first_fails _ _ l) (first_fails _ _ m)) (first_fails (is_open_brace w t) _ h) (first_fails (is_semicolon w t) _ a) named (second_fails (is_keyword w keyword.Default t) _ m)
    where
      words : is_keyword w keyword.If t ≡ false → is_keyword w keyword.While t ≡ false → is_keyword w keyword.Do t ≡ false → is_keyword w keyword.For t ≡ false → is_keyword w keyword.Switch t ≡ false → is_keyword w keyword.Goto t ≡ false
          → is_keyword w keyword.Break t ≡ false → is_keyword w keyword.Continue t ≡ false → is_keyword w keyword.Return t ≡ false → (k : Keyword) → begins_keyword_statement k ≡ true → is_keyword w k t ≡ false
      words a b c d e f g h i keyword.If is = a
      words a b c d e f g h i keyword.While is = b
      words a b c d e f g h i keyword.Do is = c
      words a b c d e f g h i keyword.For is = d
      words a b c d e f g h i keyword.Switch is = e
      words a b c d e f g h i keyword.Goto is = f
      words a b c d e f g h i keyword.Break is = g
      words a b c d e f g h i keyword.Continue is = h
      words a b c d e f g h i keyword.Return is = i
      words a b c d e f g h i _ is = absurd (cc is)

      labels : is_keyword w keyword.Case t ≡ false → is_keyword w keyword.Default t ≡ false → (k : Keyword) → is_label_keyword k ≡ true → (cases && is_keyword w k t) ≡ false
      labels a b keyword.Case is = and_fails cases (is_keyword w keyword.Case t) a
      labels a b keyword.Default is = and_fails cases (is_keyword w keyword.Default t) b
      labels a b _ is = absurd (cc is)

  declares_none : begins_statement w cases t ≡ true → names_declaration w t ≡ false → begins_declaration w t ≡ false
  declares_none begins names = by_name (is_name w t) refl
    where
      drop : (b c : Bool) → c ≡ true → (b && c) ≡ false → b ≡ false
      drop false c h k = refl
      drop true c h k = absurd (let both : true ≡ false = sym h ∙ k in cc both)

      by_head : (b : Bool) → heads_of w signs t ≡ b → is_name w t ≡ false → begins_declaration w t ≡ false
      by_head true h named = heads_no_declaration texts types signs refl t named h
      by_head false h named = absurd (let both : true ≡ false = sym begins ∙ no_head h named in cc both)

      by_name : (b : Bool) → is_name w t ≡ b → begins_declaration w t ≡ false
      by_name true named = drop (begins_declaration w t) (is_name w t) named names
      by_name false named = by_head (heads_of w signs t) refl named

module _ (texts : List (List ℕ)) where
  -- ---- without room

  nothing_shut : {A : Type 0} (n left : ℕ) → Path (Outcome Token A) (stop unexpected n) (stop too_deep left) → ⊥
  nothing_shut n left e = let both : Path ℕ 31 32 = cc e in omega arith

  no_statement_deeper : (cases : Bool) (types : List Name) (ts : List Token) (left : ℕ) → (statements texts 0).statement cases types ts ≡ stop too_deep left → (m : ℕ) × (0 ≤ m) × Past left ((statements texts m).statement cases types ts)
  unfolding statements
  no_statement_deeper cases types ts left = by_test (at_next (begins_statement (reading texts types) cases) ts) refl
    where
      by_test : (b : Bool) → at_next (begins_statement (reading texts types) cases) ts ≡ b → Path (Outcome Token StmtTree) (if b then stop too_deep (length ts) else stop unexpected (length ts)) (stop too_deep left)
          → (m : ℕ) × (0 ≤ m) × Past left ((statements texts m).statement cases types ts)
      by_test true h e =
          let lefts : length ts ≡ left = cc e in
          let d = statement_enters texts cases types ts h in
          (suc d.0, omega arith, subst (λ z. Past z ((statements texts (suc d.0)).statement cases types ts)) lefts (d.2 (statements texts d.0) (statements_shrink texts d.0)))
      by_test false h e = absurd (nothing_shut (length ts) left e)

  no_block_deeper : (cases : Bool) (types : List Name) (ts : List Token) (left : ℕ) → (statements texts 0).block cases types ts ≡ stop too_deep left → (m : ℕ) × (0 ≤ m) × Past left ((statements texts m).block cases types ts)
  unfolding statements
  no_block_deeper cases types ts left = by_test (at_next (is_open_brace (reading texts types)) ts) refl
    where
      by_test : (b : Bool) → at_next (is_open_brace (reading texts types)) ts ≡ b → Path (Outcome Token StmtTree) (if b then stop too_deep (length ts) else stop unexpected (length ts)) (stop too_deep left)
          → (m : ℕ) × (0 ≤ m) × Past left ((statements texts m).block cases types ts)
      by_test true h e =
          let lefts : length ts ≡ left = cc e in
          (1, omega arith, subst (λ z. Past z ((statements texts 1).block cases types ts)) lefts (block_past texts 0 (statements texts 0) (statements_shrink texts 0) types cases ts h))
      by_test false h e = absurd (nothing_shut (length ts) left e)

  module _ (cases : Bool) (b : Body) (ts : List Token) where
    abbrev here : Lexicon
    here = reading texts b.types

    abbrev Deeper : ℕ → Type 0
    Deeper left = (m : ℕ) × (0 ≤ m) × Past left ((statements texts m).item cases b ts)

    -- a statement
    begun_deeper : at_next (begins_statement here cases) ts ≡ true → Deeper (length ts)
    unfolding statements item
    begun_deeper begins = by_names (at_next (names_declaration here) ts) refl
      where
        names_named : (ts : List Token) → at_next (names_declaration here) ts ≡ true → at_next (is_name here) ts ≡ true
        names_named [] h = h
        names_named (t ∷ ts) h = and_second (begins_declaration here t) (is_name here t) h

        undeclared : (ts : List Token) → at_next (begins_statement here cases) ts ≡ true → at_next (names_declaration here) ts ≡ false → at_next (begins_declaration here) ts ≡ false
        undeclared [] h k = refl
        undeclared (t ∷ ts) h k = declares_none texts b.types cases t h k

        by_names : (c : Bool) → at_next (names_declaration here) ts ≡ c → Deeper (length ts)
        by_names true names =
            let named : at_next (is_name here) ts ≡ true = names_named ts names in (
              2,
              omega arith,
              subst (λ c. Past (length ts) (if c then named_item texts 1 (statements texts 1) cases b ts
                  else choose (begins_declaration here) (declaration_item texts 1 (statements texts 1) b) (statement_item texts 1 (statements texts 1) cases b) ts))
                  (sym names) (named_item_past texts 1 (statements texts 1) (statements_shrink texts 1) cases b refl ts named (one_few here ts named)),
            )
        by_names false names =
            let d = statement_enters texts cases b.types ts begins in (
              suc d.0,
              omega arith,
              subst (Past (length ts)) (sym (second_so _ _ _ _ names (second_so _ _ _ _ (undeclared ts begins names) refl)))
                  (statement_item_past texts d.0 (statements texts d.0) (statements_shrink texts d.0) cases b ts (d.2 (statements texts d.0) (statements_shrink texts d.0))),
            )

    -- a declaration
    barred_deeper : at_next (begins_statement here cases) ts ≡ false → (left : ℕ) → barred {A = Body} here seat.Scope ts ≡ stop too_deep left → Deeper left
    unfolding statements item
    barred_deeper none left e = by_declares (at_next (begins_declaration here) ts) refl
      where
        nothing : Body → Parser Token Declarations
        nothing c = refuse unexpected

        declares : (m : ℕ) × (0 ≤ m) × Past left (declaration_reader texts m b.types ts)
        declares = (declaration_reader_deepens texts 0 b.types).deeper ts left (sym (barred_then here seat.Scope {A = Body} nothing ts) ∙ ap (λ o. and_then o nothing) e)

        no_names : (ts : List Token) → at_next (begins_statement here cases) ts ≡ false → at_next (names_declaration here) ts ≡ false
        no_names [] h = refl
        no_names (t ∷ ts) h = by_name (is_name here t) refl
          where
            by_name : (c : Bool) → is_name here t ≡ c → names_declaration here t ≡ false
            by_name true k = absurd (let both : true ≡ false = sym (name_begins here cases (t ∷ ts) k) ∙ h in cc both)
            by_name false k = and_fails (begins_declaration here t) (is_name here t) k

        by_declares : (c : Bool) → at_next (begins_declaration here) ts ≡ c → Deeper left
        by_declares true h = (
          suc declares.0,
          omega arith,
          subst (Past left) (sym (second_so _ _ _ _ (no_names ts none) (first_so _ _ _ _ h refl)))
              (item_past texts declares.0 (statements texts declares.0) (statements_shrink texts declares.0) cases b left ts declares.2),
        )
        by_declares false h = absurd (nothing_shut (length ts) left (sym (barred_starts {A = Body} here ts h) ∙ e))

    no_item_deeper : (left : ℕ) → (statements texts 0).item cases b ts ≡ stop too_deep left → Deeper left
    unfolding statements
    no_item_deeper left = by_test (at_next (begins_statement here cases) ts) refl
      where
        by_test : (c : Bool) → at_next (begins_statement here cases) ts ≡ c → Path (Outcome Token Body) (if c then stop too_deep (length ts) else barred here seat.Scope ts) (stop too_deep left) → Deeper left
        by_test true h e = let lefts : length ts ≡ left = cc e in subst Deeper lefts (begun_deeper h)
        by_test false h e = barred_deeper h left e

  -- ---- each depth

  pub statements_deepen : (n : ℕ) → DeepParts n (statements texts)
  unfolding statements
  statements_deepen zero = record {
    statement = λ cases types. record { wide = λ m le. (statements_wider texts 0 m le).statement cases types; shrinks = λ m le. (statements_shrink texts m).statement cases types; deeper = no_statement_deeper cases types };
    block = λ cases types. record { wide = λ m le. (statements_wider texts 0 m le).block cases types; shrinks = λ m le. (statements_shrink texts m).block cases types; deeper = no_block_deeper cases types };
    item = λ cases b. record { wide = λ m le. (statements_wider texts 0 m le).item cases b; shrinks = λ m le. (statements_shrink texts m).item cases b; deeper = no_item_deeper cases b };
    first = λ h types. absurd (cc h);
    first_shrinks = λ m le types. (statements_shrink texts m).first types;
  }
  statements_deepen (suc n) =
      let Inner : DeepParts n (statements texts) = statements_deepen n in
      record {
        statement = λ cases types. raised n (λ m. (statements texts m).statement cases types) (statement_deepens texts n (statements texts) Inner cases types);
        block = λ cases types. raised n (λ m. (statements texts m).block cases types) (block_deepens texts n (statements texts) Inner types cases);
        item = λ cases b. raised n (λ m. (statements texts m).item cases b)
            (item_deepens texts n (statements texts) Inner b cases (λ m le. (statements_wider texts (suc n) (suc m) (omega (arith, le))).item cases b));
        first = λ h types. raised n (λ m. (statements texts m).first types) (first_deepens texts n (statements texts) Inner types);
        first_shrinks = λ m le types. (statements_shrink texts m).first types;
      }
