-- Readers of type names with more room, by what is known of the readers of expressions.
use Rattle.std.proofs.Common.{◌≡◌, ◌≤◌, ◌-◌, ℕ, zero, suc, Bool, true, false, ◌||◌, List, [], ◌∷◌, length, nat_lt, if◌then◌else◌, refl, arith}
use Rattle.sb_base.specs.declared.tokens.Token.{Token}
use Rattle.sb_parse.specs.Parser.{Parser, done, stop, at_next, ◌>>=◌, pure, token, loop}
use Rattle.sb_tree.specs.Trees.{ExprTree, depth_of_type}
use Rattle.sb_parse.specs.Descent.{descent}
use Rattle.sb_lexicon.specs.Lexicon.{Lexicon, is_type_word}
use Rattle.sb_operand.specs.Pieces.{Piece}
use Rattle.sb_lexicon.specs.Words.{Specifiers, unspecified, type_specified}
use Rattle.sb_operand.specs.Readers.{PieceReader, begins_abstract, no_declarator}
use Rattle.sb_expr.specs.Readers.{qualifier, pointed, inside, in_parentheses, sized, arrayed, direct, abstract_declarator, declarators, Parts, size_at, type_named}
use Rattle.sb_lexicon.specs.SpecifierReaders.{specified, names_type, keyword_specifiers, defined, completed, base_type}
use Rattle.sb_lexicon.specs.Tokens.{unexpected, too_deep, is_zero, is_open, is_open_bracket, is_star, is_qualifier}
use Rattle.sb_parse.proofs.Ways.{first_fails, second_fails}
use Rattle.sb_lexicon.proofs.Wider.{Held, short, same, Wider, alike, one_by_one, behind, before, guarding, choosing, turning, zero_wider, room_wider}

-- ---- specifiers

module _ (w : Lexicon) (bar other : Bool) (room : bar ≡ false → other ≡ false) where
  specified_wider : (s : Specifiers) → Wider (specified w bar s) (specified w other s)
  unfolding specified
  specified_wider s = choosing _ _ _ _ _ (guarding bar other _ _ room (alike _)) (alike _)

  keywords_wider : (s : Specifiers) → Wider (keyword_specifiers w bar s) (keyword_specifiers w other s)
  unfolding keyword_specifiers
  keywords_wider s = turning (is_type_word w) (specified w bar) (specified w other) specified_wider s

  defined_wider : (s : Specifiers) → Wider (defined w bar s) (defined w other s)
  unfolding defined
  defined_wider s = choosing (names_type w bar s) _ _ _ _ (behind _ _ _ (λ t. keywords_wider _)) (alike (pure s))

  pub base_wider : Wider (base_type w bar) (base_type w other)
  unfolding base_type
  base_wider =
      before (keyword_specifiers w bar unspecified >>= defined w bar) (keyword_specifiers w other unspecified >>= defined w other) (λ s. completed w bar (type_specified s))
      (one_by_one (keyword_specifiers w bar unspecified) (keyword_specifiers w other unspecified) (defined w bar) (defined w other) (keywords_wider unspecified) defined_wider)

-- ---- declarators

module _ (w : Lexicon) (size more_size : ℕ → Parser Token ExprTree) (Size : (n : ℕ) → Wider (size n) (more_size n)) where
  module _ (n m : ℕ) (le : n ≤ m) (rest more : ℕ → PieceReader) (Rest : (k : ℕ) → Wider (rest k) (more k)) where
    qualifier_wider : (c : Bool) → Wider (qualifier w size n rest c) (qualifier w more_size m more c)
    unfolding qualifier
    qualifier_wider c = choosing _ _ _ _ _ (guarding (is_zero n) (is_zero m) _ _ (zero_wider n m le) (alike _)) (alike _)

    pointed_wider : Wider (pointed w size n rest) (pointed w more_size m more)
    unfolding pointed
    pointed_wider = behind _ _ _ (λ t. one_by_one _ _ _ _ (turning (is_qualifier w) (qualifier w size n rest) (qualifier w more_size m more) qualifier_wider false) (λ c. before _ _ _ (Rest _)))

    parentheses_wider : Wider (in_parentheses w size n rest) (in_parentheses w more_size m more)
    unfolding in_parentheses inside
    parentheses_wider = behind (token unexpected (is_open w)) _ _ (λ o. choosing (begins_abstract w) (inside w size n rest o) (inside w more_size m more o) _ _ (before (rest 0) (more 0) _ (Rest 0)) (alike _))

    sized_wider : (k : ℕ) → Wider (sized w size n rest k) (sized w more_size m more k)
    unfolding sized
    sized_wider k = choosing _ _ _ _ _ (alike _) (before _ _ _ (Size k))

    arrayed_wider : (ps : List Piece) → Wider (arrayed w size n rest ps) (arrayed w more_size m more ps)
    unfolding arrayed
    arrayed_wider ps = guarding (nat_lt n (length ps)) (nat_lt m (length ps)) _ _ (room_wider n m (length ps) le) (behind _ _ _ (λ o. before _ _ _ (sized_wider (length ps))))

    direct_wider : Wider (direct w size n rest) (direct w more_size m more)
    unfolding direct
    direct_wider =
        before _ _ _
        (one_by_one _ _ _ _ (choosing (is_open w) _ _ _ _ (guarding (is_zero n) (is_zero m) _ _ (zero_wider n m le) parentheses_wider) (alike (pure [])))
        (turning (is_open_bracket w) (arrayed w size n rest) (arrayed w more_size m more) arrayed_wider))

    abstract_wider : Wider (abstract_declarator w size n rest) (abstract_declarator w more_size m more)
    unfolding abstract_declarator
    abstract_wider = choosing (is_star w) _ _ _ _ pointed_wider direct_wider

  -- without room there is no declarator, as there is none with room before the same token
  empty_there : (n : ℕ) (rest : ℕ → PieceReader) (ts : List Token) → at_next (begins_abstract w) ts ≡ false → abstract_declarator w more_size n rest ts ≡ done [] ts
  unfolding abstract_declarator direct loop
  empty_there n rest [] h = refl
  empty_there n rest (t ∷ ts) h =
      let star : is_star w t ≡ false = first_fails (is_star w t) (is_open w t || is_open_bracket w t) h in
      let others : (is_open w t || is_open_bracket w t) ≡ false = second_fails (is_star w t) (is_open w t || is_open_bracket w t) h in
      let opens : is_open w t ≡ false = first_fails (is_open w t) (is_open_bracket w t) others in
      let brackets : is_open_bracket w t ≡ false = second_fails (is_open w t) (is_open_bracket w t) others in
      rw (star, opens, brackets) refl

  none_wider : (n : ℕ) (rest : ℕ → PieceReader) → Wider (no_declarator w) (abstract_declarator w more_size n rest)
  none_wider n rest ts = by_test (at_next (begins_abstract w) ts) refl
    where
      by_test : (b : Bool) → at_next (begins_abstract w) ts ≡ b → Held (if b then stop too_deep (length ts) else done [] ts) (abstract_declarator w more_size n rest ts)
      by_test true h = short (length ts) refl
      by_test false h = same (empty_there n rest ts h)

  pub declarators_wider : (n m k : ℕ) → n ≤ m → Wider (declarators w size n k) (declarators w more_size m k)
  unfolding descent
  declarators_wider zero zero k le = alike (no_declarator w)
  declarators_wider zero (suc m) zero le = none_wider m (declarators w more_size m)
  declarators_wider zero (suc m) (suc k) le = declarators_wider zero m k (omega arith)
  declarators_wider (suc n) zero k le = absurd (omega arith)
  declarators_wider (suc n) (suc m) zero le = abstract_wider n m (omega arith) (declarators w size n) (declarators w more_size m) (λ k. declarators_wider n m k (omega arith))
  declarators_wider (suc n) (suc m) (suc k) le = declarators_wider n m k (omega arith)

-- ---- type names

pub type_wider : (w : Lexicon) (n m : ℕ) → n ≤ m → (part more : ℕ → Parts) → ((k : ℕ) → Wider (size_at w n part k) (size_at w m more k)) → Wider (type_named w n part) (type_named w m more)
unfolding type_named
type_wider w n m le part more Size =
    one_by_one (base_type w (is_zero n)) (base_type w (is_zero m)) _ _ (base_wider w (is_zero n) (is_zero m) (zero_wider n m le))
    (λ t. before _ _ _ (declarators_wider w (size_at w n part) (size_at w m more) Size (suc n - depth_of_type t) (suc m - depth_of_type t) 0 (omega arith)))
