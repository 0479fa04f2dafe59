-- Declarators with room for so many pieces, by those with less room.
use Rattle.std.proofs.Common.{◌≡◌, ◌≤◌, ◌<◌, ◌-◌, ◌&&◌, ℕ, length, zero, suc, Bool, true, false, List, ◌∷◌, nat_lt, refl, sym, ap, ◌∙◌, arith}
use Rattle.sb_base.specs.declared.refusals.Place.{Place}
use Rattle.sb_base.specs.declared.tokens.Token.{Token}
use Rattle.sb_parse.specs.Parser.{Outcome, Parser, done, stop, and_then, at_next, ◌>>=◌, pure, refuse, token, choose, guard, looped}
use Rattle.sb_sign.specs.declared.sign.Keyword.TheVariants as keyword
use Rattle.sb_tree.specs.Plain.{decl_list}
use Rattle.sb_tree.specs.Trees.{OptionalExpr}
use Rattle.sb_parse.specs.Descent.{descent}
use Rattle.sb_lexicon.specs.Lexicon.{Lexicon, is_keyword}
use Rattle.sb_operand.specs.Readers as qualifiers
use Rattle.sb_operand.specs.Pieces.{Pointed, Arrayed, Called, Grouped, constant_if}
use Rattle.sb_operand.specs.Readers.{one_if}
use Rattle.sb_lexicon.specs.Tokens.{unexpected, too_deep, volatile, is_zero, is_star, is_open, is_close, is_qualifier, is_open_bracket, is_close_bracket}
use Rattle.sb_parse.proofs.Descending.{descent_from}
use Rattle.sb_derivation.specs.Declarators.{array_piece}
use Rattle.sb_declarator.specs.Declarators as part
use Rattle.sb_specifier.specs.Sizes.{array_size}
use Rattle.sb_declarator.specs.Declarators.{rest_of, roomy}
use Rattle.sb_specifier.specs.Readers.{Declarator, with_pieces}
use Rattle.sb_declarator.specs.Readers.{parts, declarators, declarator_at, pointed, qualifier, arrayed, sized, size, size_word, outermost_size, called, parameters, some_parameters, only_void, behind_void, void_parameters, inside, in_parentheses, suffixed}
use Rattle.sb_specifier.specs.Specified.{is_bare, is_function}

pub some_room : (room : ℕ) → 1 ≤ room → is_zero room ≡ false
some_room zero some = absurd (omega arith)
some_room (suc n) some = refl

module _ (w : Lexicon) (functions may_lack : Bool) (below : ℕ) where
  abbrev reading : (room : ℕ) → Parser Token Declarator
  reading room = declarators w functions may_lack below (parts w.texts below) room 0

  pub at_room : (room : ℕ) (ts : List Token) → declarators w functions may_lack below (parts w.texts below) room 0 ts ≡ roomy declarator_at w functions may_lack below room ts
  unfolding descent
  at_room zero ts = refl
  at_room (suc n) ts = ap (λ j. declarator_at w functions may_lack below (parts w.texts below) (suc n) (λ k. declarators w functions may_lack below (parts w.texts below) j k) ts) (let same : n ≡ suc n - 1 = omega arith in same)

  lower : (room k : ℕ) → 1 ≤ room → rest_of w functions may_lack below room k ≡ reading (room - 1 - k)
  lower zero k some = absurd (omega arith)
  lower (suc n) k some =
      descent_from (declarator_at w functions may_lack below (parts w.texts below) 0 (λ k. refuse unexpected)) (λ n rest. declarator_at w functions may_lack below (parts w.texts below) (suc n) rest) (suc n - 1) k

  same_test : (room : ℕ) → 1 ≤ room → nat_lt room 2 ≡ is_zero (room - 1)
  same_test zero some = absurd (omega arith)
  same_test (suc zero) some = refl
  same_test (suc (suc n)) some =
      let less : suc (suc n) - 1 ≡ suc n = omega arith in
      let more : nat_lt (suc (suc n)) 2 ≡ false = grind arith in
      rw (less, more) refl

  pub pointed_by : (room : ℕ) (ts : List Token) → 1 ≤ room → roomy pointed w functions may_lack below room ts ≡ part.pointed w functions may_lack below room ts
  unfolding pointed qualifier
  pointed_by room ts some =
      ap (λ (bar : Bool). (token unexpected (is_star w) >>= (λ t. looped (is_qualifier w) (λ c.
      choose (is_keyword w keyword.Const) (guard bar too_deep (token unexpected (is_keyword w keyword.Const) >>= (λ t. pure true)))
      (choose (is_keyword w keyword.Restrict) (token unexpected (is_keyword w keyword.Restrict) >>= (λ t. pure c))
      (refuse volatile))) false >>= (λ c. rest_of w functions may_lack below room (one_if c) >>= (λ d. pure (with_pieces (Pointed t.place ∷ constant_if c d.pieces) d))))) ts) (same_test room some)
      ∙ ap (λ (rest : ℕ → Parser Token Declarator). (token unexpected (is_star w) >>= (λ t. looped (is_qualifier w) (λ c.
      choose (is_keyword w keyword.Const) (guard (is_zero (room - 1)) too_deep (token unexpected (is_keyword w keyword.Const) >>= (λ t. pure true)))
      (choose (is_keyword w keyword.Restrict) (token unexpected (is_keyword w keyword.Restrict) >>= (λ t. pure c))
      (refuse volatile))) false >>= (λ c. rest (one_if c) >>= (λ d. pure (with_pieces (Pointed t.place ∷ constant_if c d.pieces) d))))) ts)
      (λ i. λ k. lower room k some i)

  closed : (d : Declarator) (place : Place) (e : OptionalExpr) (o : Outcome Token Token)
      → and_then (and_then o (λ c. pure (Arrayed e place))) (λ p. pure (with_pieces (p ∷ d.pieces) d)) ≡ and_then o (λ c. pure (with_pieces (Arrayed e place ∷ d.pieces) d))
  closed d place e (done c rest) = refl
  closed d place e (stop n left) = refl

  sized_then : (d : Declarator) (place : Place) (o : Outcome Token OptionalExpr)
      → and_then (and_then o (λ e. token unexpected (is_close_bracket w) >>= (λ c. pure (Arrayed e place)))) (λ p. pure (with_pieces (p ∷ d.pieces) d))
      ≡ and_then o (λ e. token unexpected (is_close_bracket w) >>= (λ c. pure (with_pieces (Arrayed e place ∷ d.pieces) d)))
  sized_then d place (done e rest) = closed d place e (token unexpected (is_close_bracket w) rest)
  sized_then d place (stop n left) = refl

  opened_then : (count : ℕ) (outermost : Bool) (d : Declarator) (o : Outcome Token Token)
      → and_then (and_then o (λ t. array_size w outermost below count >>= (λ e. token unexpected (is_close_bracket w) >>= (λ c. pure (Arrayed e t.place))))) (λ p. pure (with_pieces (p ∷ d.pieces) d))
      ≡ and_then o (λ t. array_size w outermost below count >>= (λ e. token unexpected (is_close_bracket w) >>= (λ c. pure (with_pieces (Arrayed e t.place ∷ d.pieces) d))))
  opened_then count outermost d (done t rest) = sized_then d t.place (array_size w outermost below count rest)
  opened_then count outermost d (stop n left) = refl

  -- an array under so many pieces
  pub arrayed_at : (room count : ℕ) (d : Declarator) (outermost : Bool) (ts : List Token) → length d.pieces ≡ count → outermost ≡ (may_lack && is_bare d.pieces) → count < room
      → roomy arrayed w functions may_lack below room d ts ≡ and_then (array_piece w outermost below count ts) (λ p. pure (with_pieces (p ∷ d.pieces) d))
  unfolding arrayed sized size size_word outermost_size
  arrayed_at room count d outermost ts counted out few =
      let free : nat_lt room (suc count) ≡ false = grind (arith, few) in
      rw (counted, free, out) (sym (opened_then count (may_lack && is_bare d.pieces) d (token unexpected (is_open_bracket w) ts)))

  -- a function under so many pieces
  pub called_at : (room count : ℕ) (d : Declarator) (ts : List Token) (o : Token) (mid : List Token) → length d.pieces ≡ count → is_bare d.pieces ≡ true → count < room → token unexpected (is_open w) ts ≡ done o mid
      → roomy called w functions may_lack below room d ts ≡ and_then (part.parameters w below count mid) (λ ps. token unexpected (is_close w) >>= (λ c. pure (record { pieces = Called (decl_list ps.list) o.place ∷ d.pieces; name = d.name; inner = ps.types })))
  unfolding called parameters some_parameters only_void behind_void void_parameters
  called_at room count d ts o mid counted bare few opened =
      let free : nat_lt room (suc count) ≡ false = grind (arith, few) in
      rw (counted, free, opened, bare) refl

  pub inside_at : (room : ℕ) (o : Token) (ts : List Token) → 1 ≤ room
      → roomy inside w functions may_lack below room o ts ≡ and_then (reading (room - 1) ts) (λ d. token unexpected (is_close w) >>= (λ c. pure (with_pieces (Grouped o.place ∷ d.pieces) d)))
  unfolding inside
  inside_at room o ts some = rw (some_room room some) refl

  pub behind_open : (room : ℕ) (ts : List Token) (o : Token) (mid : List Token) → may_lack ≡ false → token unexpected (is_open w) ts ≡ done o mid
      → roomy in_parentheses w functions may_lack below room ts ≡ roomy inside w functions may_lack below room o mid
  unfolding in_parentheses
  behind_open room ts o mid named opened = rw (opened, named) refl

  pub starred_at : (room : ℕ) (ts : List Token) → 1 ≤ room → at_next (is_star w) ts ≡ true → roomy declarator_at w functions may_lack below room ts ≡ part.pointed w functions may_lack below room ts
  unfolding declarator_at
  starred_at room ts some star = rw (star, some_room room some) (pointed_by room ts some)

  pub pointed_at : (room left : ℕ) (constant : Bool) (ts : List Token) (t : Token) (mid rest : List Token) → left ≡ room - 1 - one_if constant → token unexpected (is_star w) ts ≡ done t mid
      → looped (is_qualifier w) (qualifiers.qualifier w (room - 1)) false mid ≡ done constant rest
      → part.pointed w functions may_lack below room ts ≡ and_then (reading left rest) (λ d. pure (with_pieces (Pointed t.place ∷ constant_if constant d.pieces) d))
  pointed_at room left constant ts t mid rest is starred read = rw (starred, read, is) refl

  pub suffixed_by : (room : ℕ) (d : Declarator) (ts : List Token) → at_next (is_open_bracket w) ts ≡ true → is_function d.pieces ≡ false → roomy suffixed w functions may_lack below room d ts ≡ roomy arrayed w functions may_lack below room d ts
  unfolding suffixed
  suffixed_by room d ts bracket none = rw (bracket, none) refl
