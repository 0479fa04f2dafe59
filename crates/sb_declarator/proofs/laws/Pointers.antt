-- The reader of a pointer and of the declarator behind it keeps the laws.
use Rattle.std.proofs.Common.{◌≡◌, ◌≤◌, ◌-◌, ℕ, zero, suc, Bool, true, false, ◌||◌, ◌&&◌, not, List, [], ◌∷◌, ◌++◌, length, nat_lt, Option, Some, None, if◌then◌else◌, refl, sym, ap, ◌∙◌, arith}
use Rattle.std.proofs.lemmas.Bool.{ltb-false, le-ltb}
use Rattle.sb_base.specs.declared.interning.Name.{Name}
use Rattle.sb_base.specs.declared.refusals.Place.{Place}
use Rattle.sb_base.specs.declared.tokens.Token.{Token}
use Rattle.sb_parse.specs.Parser.{Parser, at_next, ◌>>=◌, pure, token, looped}
use Rattle.sb_parse.specs.Lawful.{Lawful, OnHead, Follows, Joined, Opened, Mapped}
use Rattle.sb_parse.proofs.Joining.{from_there}
use Rattle.sb_parse.proofs.Heads.{opened, opened_heads, at_head, head_of_append}
use Rattle.sb_lexicon.specs.Lexicon.{Lexicon}
use Rattle.sb_operand.specs.Pieces.{Piece, Pointed, constant_if}
use Rattle.sb_operand.specs.Readers.{begins_abstract}
use Rattle.sb_lexicon.specs.Tokens.{unexpected, is_zero, is_star, is_qualifier}
use Rattle.sb_expr.proofs.tokens.More.{behind_pointers, is_empty}
use Rattle.sb_operand.proofs.Putting.{InnerFits}
use Rattle.sb_parse.proofs.Ways.{first_fails, second_fails, following_where, follows_map}
use Rattle.sb_specifier.specs.Specified.{reading, one_if}
use Rattle.sb_specifier.specs.Declaration.{IsDeclarator}
use Rattle.sb_specifier.specs.Readers as reader
use Rattle.sb_specifier.specs.Readers.{Declarator, Parts, with_pieces}
use Rattle.sb_declarator.specs.Readers.{qualifier, pointed}
use Rattle.sb_specifier.proofs.laws.More.{is_suffix, more_pointers, more_pieces, more_declarator, FitsDeclarator}
use Rattle.sb_derivation.proofs.laws.Beginnings.{is_nothing_by, is_nothing, begins_any, no_declarator, some_begins, unqualified, head_fails}
use Rattle.sb_declarator.proofs.laws.Tokens.{QualifierTexts, qualifiers_law, has_room}

-- ---- where there is room for a pointer

pub some_room : (room : ℕ) → is_zero room ≡ false → 1 ≤ room
some_room zero h = absurd (cc h)
some_room (suc n) h = omega arith

module _ (below room : ℕ) where
  pub pointed_count : (c : Bool) (t : Token) (d : Declarator) → is_zero room ≡ false → (c ≡ true → nat_lt room 2 ≡ false) → length d.pieces ≤ room - suc (one_if c) → InnerFits (below - 1) d.pieces
      → (length (Pointed t.place ∷ constant_if c d.pieces) ≤ room) × InnerFits (below - 1) (Pointed t.place ∷ constant_if c d.pieces)
  pointed_count true t d some enough few sizes =
      let two : 2 ≤ room = ltb-false room 2 (enough refl) in
      let le : length d.pieces ≤ room - 2 = few in
      let count : suc (suc (length d.pieces)) ≤ room = omega arith in
      let none : 0 ≤ (below - 1) - suc (length d.pieces) = omega arith in
      let zero_fits : 0 ≤ (below - 1) - length d.pieces = omega arith in
      (count, (none, (zero_fits, sizes)))
  pointed_count false t d some enough few sizes =
      let one : 1 ≤ room = some_room room some in
      let le : length d.pieces ≤ room - 1 = few in
      let count : suc (length d.pieces) ≤ room = omega arith in
      let none : 0 ≤ (below - 1) - length d.pieces = omega arith in
      (count, (none, sizes))

  pub pointed_room : (c : Bool) (t : Token) (d : Declarator) → length (Pointed t.place ∷ constant_if c d.pieces) ≤ room → InnerFits (below - 1) (Pointed t.place ∷ constant_if c d.pieces)
      → (1 ≤ room) × (length d.pieces ≤ room - suc (one_if c)) × (c ≡ true → nat_lt room 2 ≡ false) × InnerFits (below - 1) d.pieces
  pointed_room true t d count sizes =
      let le : suc (suc (length d.pieces)) ≤ room = count in
      let one : 1 ≤ room = omega arith in
      let few : length d.pieces ≤ room - 2 = omega arith in
      (one, few, (λ e. le-ltb room 2 (omega arith)), sizes.1.1)
  pointed_room false t d count sizes =
      let le : suc (length d.pieces) ≤ room = count in
      let one : 1 ≤ room = omega arith in
      let few : length d.pieces ≤ room - 1 = omega arith in
      (one, few, (λ e. cc e), sizes.1)

-- ---- its texts

module _ (texts : List (List ℕ)) (types : List Name) (functions may_lack : Bool) (below : ℕ) (part : ℕ → Parts) (room : ℕ) (rest : ℕ → Parser Token Declarator) where
  abbrev w : Lexicon
  w = reading texts types

  abbrev Fits : ℕ → List Token → Declarator → Type 0
  Fits = FitsDeclarator texts types functions may_lack below

  abbrev pub pointing : Token → Bool → Declarator → Declarator
  pointing t c d = with_pieces (Pointed t.place ∷ constant_if c d.pieces) d

  abbrev BehindStar : Token → Bool → List Token → Declarator → Type 0
  BehindStar t c = Mapped (pointing t c) (Fits (room - suc (one_if c)))

  abbrev Qualifiers : List Token → Bool → Type 0
  Qualifiers = QualifierTexts w functions may_lack below part room rest

  abbrev pub StarText : List Token → Declarator → Type 0
  StarText = Opened (is_star w) (λ t. Joined Qualifiers (BehindStar t))

  module _ (R : (k : ℕ) → suc k ≤ room → Lawful (FitsDeclarator texts types functions may_lack below (room - suc k)) (more_declarator (reading texts types)) (rest k)) where
    -- what goes on behind a pointer and its qualifiers
    abbrev more_pointed : Option (Name × Place) → List Piece → Token → Bool
    more_pointed (Some n) ps u = is_suffix w u
    more_pointed None ps u = if is_empty (behind_pointers ps) then (begins_abstract w u || reader.is_name w u) || is_qualifier w u else is_suffix w u

    pointed_more : (t : Token) (c : Bool) (d : Declarator) (u : Token) → more_declarator w (pointing t c d) u ≡ more_pointed d.name d.pieces u
    pointed_more t c d u = by_parts c d.name
      where
        by_parts : (c : Bool) (n : Option (Name × Place)) → more_pieces w n (Pointed t.place ∷ constant_if c d.pieces) u ≡ more_pointed n d.pieces u
        by_parts c (Some n) = refl
        by_parts true None = refl
        by_parts false None = refl

    fewer_behind : (n : Option (Name × Place)) (ps : List Piece) (u : Token) → more_pointed n ps u ≡ false → more_pieces w n ps u ≡ false
    fewer_behind (Some n) ps u h = h
    fewer_behind None ps u h = by_test (is_empty (behind_pointers ps)) h
      where
        narrower : (x y z : Bool) → (x || y) ≡ false → (x || (z && y)) ≡ false
        narrower true y z h = absurd (cc h)
        narrower false y true h = h
        narrower false y false h = refl

        by_test : (e : Bool) → (if e then (begins_abstract w u || reader.is_name w u) || is_qualifier w u else is_suffix w u) ≡ false → (if e then more_pointers w ps u else is_suffix w u) ≡ false
        by_test true h = narrower (begins_abstract w u || reader.is_name w u) (is_qualifier w u) (not (is_empty ps)) h
        by_test false h = h

    enough_behind : (ts : List Token) (d : Declarator) (later : List Token) → IsDeclarator texts types functions may_lack ts d → at_next (is_qualifier w) (ts ++ later) ≡ false
        → at_next (more_declarator w d) later ≡ false → at_next (more_pointed d.name d.pieces) later ≡ false
    enough_behind ts d [] is off h = refl
    enough_behind ts d (u ∷ later) is off h = by_parts d.name d.pieces (no_declarator texts types functions may_lack ts d is) h
      where
        by_parts : (n : Option (Name × Place)) (ps : List Piece) → (is_nothing_by n ps ≡ true → ts ≡ []) → more_pieces w n ps u ≡ false → more_pointed n ps u ≡ false
        by_parts (Some n) ps none h = h
        by_parts None (p ∷ ps) none h = h
        by_parts None [] none h =
            let plain : is_qualifier w u ≡ false = sym (ap (λ l. at_next (is_qualifier w) (l ++ (u ∷ later))) (none refl)) ∙ off in
            ap (λ z. z || is_qualifier w u) (first_fails (begins_abstract w u || reader.is_name w u) false h) ∙ plain

    one_fits : (c : Bool) → is_zero room ≡ false → (c ≡ true → nat_lt room 2 ≡ false) → suc (one_if c) ≤ room
    one_fits false some enough = some_room room some
    one_fits true some enough = ltb-false room 2 (enough refl)

    behind_star : (t : Token) (c : Bool) → is_zero room ≡ false → (c ≡ true → nat_lt room 2 ≡ false) → Follows (is_qualifier w) (BehindStar t c) (more_declarator w) (rest (one_if c) >>= (λ d. pure (pointing t c d)))
    behind_star t c some enough =
        follows_map (following_where (R (one_if c) (one_fits c some enough)) (is_qualifier w) (λ d. more_pointed d.name d.pieces) (λ ts d f u h. fewer_behind d.name d.pieces u h)
        (λ ts d later f off h. enough_behind ts d later f.is off h)) (pointing t c) (more_declarator w) (pointed_more t c)

    star_apart : (t : Token) (c : Bool) (ys : List Token) (e : Declarator) (later : List Token) → BehindStar t c ys e → at_next (more_declarator w e) later ≡ false → at_next (is_qualifier w) (ys ++ later) ≡ false
    star_apart t c ys e later m h = by_nothing (is_nothing m.value) refl (sym (next_as later) ∙ ap (λ z. at_next (more_declarator w z) later) (sym m.same) ∙ h)
      where
        next_as : (later : List Token) → at_next (more_declarator w (pointing t c m.value)) later ≡ at_next (more_pointed m.value.name m.value.pieces) later
        next_as [] = refl
        next_as (u ∷ later) = pointed_more t c m.value u

        not_qualified : (n : Option (Name × Place)) (ps : List Piece) (later : List Token) → is_nothing_by n ps ≡ true → at_next (more_pointed n ps) later ≡ false → at_next (is_qualifier w) later ≡ false
        not_qualified n ps [] e k = refl
        not_qualified (Some n) ps (u ∷ later) e k = absurd (cc e)
        not_qualified None (p ∷ ps) (u ∷ later) e k = absurd (cc e)
        not_qualified None [] (u ∷ later) e k = second_fails (begins_abstract w u || reader.is_name w u) (is_qualifier w u) k

        by_nothing : (b : Bool) → is_nothing m.value ≡ b → at_next (more_pointed m.value.name m.value.pieces) later ≡ false → at_next (is_qualifier w) (ys ++ later) ≡ false
        by_nothing true e k =
            ap (λ l. at_next (is_qualifier w) (l ++ later)) (no_declarator texts types functions may_lack ys m.value m.is.is e) ∙ not_qualified m.value.name m.value.pieces later e k
        by_nothing false e k = head_fails w (begins_any w) (is_qualifier w) (unqualified w) (ys ++ later) (head_of_append (begins_any w) ys later (some_begins texts types functions may_lack ys m.value m.is.is e))

    pub star_head : is_zero room ≡ false → OnHead (is_star w) StarText (more_declarator w) (pointed w functions may_lack below part room rest)
    unfolding pointed
    star_head some = at_head (is_star w) law opened_heads
      where
        law : (t : Token) → is_star w t ≡ true
            → Lawful StarText (more_declarator w) (token unexpected (is_star w) >>= (λ t. looped (is_qualifier w) (qualifier w functions may_lack below part room rest) false >>= (λ c. rest (one_if c) >>= (λ d. pure (pointing t c d)))))
        law t h = opened {Is = λ s. Joined Qualifiers (BehindStar s)} unexpected (is_star w) t h (λ s passes.
            from_there {Second = BehindStar s} {q = λ c. rest (one_if c) >>= (λ d. pure (pointing s c d))} (qualifiers_law w functions may_lack below part room rest)
            (λ xs c is. behind_star s c some (has_room w functions may_lack below part room rest false c xs is (λ e. cc e))) (λ xs c ys d later is second e. star_apart s c ys d later second e))
