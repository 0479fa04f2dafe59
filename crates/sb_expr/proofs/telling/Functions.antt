-- A token that goes on from the tree of a type name makes a longer one, but for a word of a type and the `(` of a function; and that one is refused as such.
use Rattle.std.proofs.Common.{◌≡◌, ◌⊎◌, ◌≤◌, ◌<◌, ◌-◌, ℕ, zero, suc, Bool, true, false, ◌||◌, ◌&&◌, not, List, [], ◌∷◌, ◌++◌, length, if◌then◌else◌, refl, sym, ap, ◌∙◌, subst, append_assoc, inl, inr, arith}
use Rattle.std.specs.Option.{option_map_or}
use Rattle.sb_base.specs.declared.tokens.Token.{Token}
use Rattle.sb_parse.specs.Parser.{Parser, done, stop, at_next, and_then, ◌>>=◌, pure, choose, refuse, looped}
use Rattle.sb_parse.specs.Lawful.{Lawful}
use Rattle.sb_parse.specs.Read.{CanBegin}
use Rattle.sb_parse.proofs.Descending.{descent_from, descent_step}
use Rattle.sb_parse.proofs.Heads.{chosen, head_of_append}
use Rattle.sb_parse.proofs.Looping.{looping}
use Rattle.sb_parse.proofs.Ways.{first_fails, or_false, and_second, and_fails}
use Rattle.sb_sign.specs.declared.sign.Keyword.{Keyword}
use Rattle.sb_sign.specs.declared.sign.Keyword.TheVariants as keyword
use Rattle.sb_sign.specs.declared.sign.Mark.TheVariants as mark
use Rattle.sb_tree.specs.Trees as tree
use Rattle.sb_tree.specs.Trees.{ExprTree, depth_of_type}
use Rattle.sb_lexicon.specs.Lexicon.{Lexicon, is_keyword, is_type_keyword, is_type_word}
use Rattle.sb_lexicon.specs.SpecifierReaders.{base_type}
use Rattle.sb_lexicon.specs.Tokens.{function_pointer, is_zero, is_open, is_open_bracket, is_star, is_qualifier}
use Rattle.sb_lexicon.proofs.Depths.{some_type_depth}
use Rattle.sb_lexicon.proofs.Lexemes.{keyword_is, mark_is, mark_alone, close_bracket_token}
use Rattle.sb_lexicon.proofs.laws.Specifiers.{base_depth, base_law}
use Rattle.sb_operand.specs.Pieces.{Piece, Pointed, Arrayed, points, constant_if, Declared, type_of}
use Rattle.sb_operand.specs.Readers.{begins_abstract, calls, one_if, PieceReader, no_declarator}
use Rattle.sb_operand.proofs.Putting.{InnerFits}
use Rattle.sb_expr.specs.Expression.{Assignment, IsType, is_type, IsAbstract, is_direct, is_pointer, IsDirect, is_nothing_more, is_in_parentheses, is_array}
use Rattle.sb_expr.specs.Reads.{FitsExpr}
use Rattle.sb_expr.specs.Readers.{qualifier, pointed, direct, abstract_declarator, declarators, Parts, size_at, type_named, whole_parts, no_parts, parts, type_reader}
use Rattle.sb_expr.specs.Reasons.{behind_pointers, is_empty, shows_other_type}
use Rattle.sb_expr.proofs.Tying.{lawful_parts}
use Rattle.sb_expr.proofs.laws.Declarators.{FitsPieces, pieces_begin, unqualified, head_fails, pieces_unworded, qualifiers_law, from_qualifiers, one_fits, base_law as pieces_law, array_head, bracket_apart, from_direct, pointed_room, declarators_law}
use Rattle.sb_expr.proofs.laws.TypeNames as named
use Rattle.sb_expr.proofs.telling.TypeNames.{begins_text, an_array, direct_empty}
use Rattle.sb_expr.proofs.tokens.More.{LawfulParts, more, more_direct, more_abstract, more_type}

either : (b c : Bool) → (b || c) ≡ true → (b ≡ true) ⊎ (c ≡ true)
either true c h = inl refl
either false c h = inr h

-- ---- the tokens that go on

module _ (w : Lexicon) (t : Token) where
  -- no qualifier is another token than a word of a type
  no_keyword : (k : Keyword) → is_type_keyword k ≡ true → is_type_word w t ≡ false → is_keyword w k t ≡ false
  no_keyword k good off = by_test (is_keyword w k t) refl
    where
      by_test : (b : Bool) → is_keyword w k t ≡ b → is_keyword w k t ≡ false
      by_test false h = h
      by_test true h = absurd (let both : true ≡ false = sym (ap (λ o. option_map_or is_type_keyword o false) (keyword_is w k t h) ∙ good) ∙ off in cc both)

  no_qualifier : is_type_word w t ≡ false → is_qualifier w t ≡ false
  no_qualifier off =
      ap (λ b. b || (is_keyword w keyword.Restrict t || is_keyword w keyword.Volatile t)) (no_keyword keyword.Const refl off)
      ∙ ap (λ b. b || is_keyword w keyword.Volatile t) (no_keyword keyword.Restrict refl off) ∙ no_keyword keyword.Volatile refl off

  array_goes : (xs : List Token) (ps : List Piece) → IsDirect w xs ps → is_open_bracket w t ≡ true → CanBegin (IsAbstract w) (xs ++ (t ∷ []))
  array_goes xs ps is h = record {
    rest = close_bracket_token ∷ [];
    tree = Arrayed tree.NoExpr t.place ∷ ps;
    is = subst (λ z. IsAbstract w z (Arrayed tree.NoExpr t.place ∷ ps)) (sym (append_assoc xs (t ∷ []) (close_bracket_token ∷ []))) (is_direct _ _ (an_array w xs ps t h is));
  }

  behind_direct : (xs : List Token) (ps : List Piece) → IsDirect w xs ps → more_direct w ps t ≡ true → CanBegin (IsAbstract w) (xs ++ (t ∷ [])) ⊎ (calls w ps t ≡ true)
  behind_direct xs ps is h = by_case (either (is_open_bracket w t) (calls w ps t) h)
    where
      by_case : (is_open_bracket w t ≡ true) ⊎ (calls w ps t ≡ true) → CanBegin (IsAbstract w) (xs ++ (t ∷ [])) ⊎ (calls w ps t ≡ true)
      by_case (inl k) = inl (array_goes xs ps is k)
      by_case (inr k) = inr k

  direct_goes : (xs : List Token) (ps : List Piece) → IsDirect w xs ps → more_abstract w ps t ≡ true → CanBegin (IsAbstract w) (xs ++ (t ∷ [])) ⊎ (calls w (behind_pointers ps) t ≡ true)
  direct_goes _ _ is_nothing_more h = inl (begins_text w t (sym (or_false (begins_abstract w t)) ∙ h))
  direct_goes _ _ (is_in_parentheses o c xs p ps opens closes is) h = behind_direct _ _ (is_in_parentheses o c xs p ps opens closes is) h
  direct_goes _ _ (is_array o c xs ys ps size opens closes is fits) h = behind_direct _ _ (is_array o c xs ys ps size opens closes is fits) h

  -- what goes on behind a pointer goes on behind what follows it
  fewer : (b e q : Bool) → q ≡ false → (b || q) ≡ true → (b || (e && q)) ≡ true
  fewer true e q off h = refl
  fewer false e q off h = absurd (let both : true ≡ false = sym h ∙ off in cc both)

  behind_pointer : (c : Bool) (s : Token) (ps : List Piece) → is_qualifier w t ≡ false → more_abstract w (Pointed s.place ∷ constant_if c ps) t ≡ true → more_abstract w ps t ≡ true
  behind_pointer c s ps off h = by_test (is_empty (behind_pointers ps)) (same c ∙ h)
    where
      same : (c : Bool) → (if is_empty (behind_pointers ps) then begins_abstract w t || is_qualifier w t else more_direct w (behind_pointers ps) t) ≡ more_abstract w (Pointed s.place ∷ constant_if c ps) t
      same true = refl
      same false = refl

      by_test : (e : Bool) → (if e then begins_abstract w t || is_qualifier w t else more_direct w (behind_pointers ps) t) ≡ true
          → (if e then begins_abstract w t || (not (is_empty ps) && is_qualifier w t) else more_direct w (behind_pointers ps) t) ≡ true
      by_test true k = fewer (begins_abstract w t) (not (is_empty ps)) (is_qualifier w t) off k
      by_test false k = k

  abstract_goes : (xs : List Token) (ps : List Piece) → IsAbstract w xs ps → is_qualifier w t ≡ false → more_abstract w ps t ≡ true → CanBegin (IsAbstract w) (xs ++ (t ∷ [])) ⊎ (calls w (behind_pointers ps) t ≡ true)
  abstract_goes _ _ (is_direct xs ps is) off h = direct_goes xs ps is h
  abstract_goes _ _ (is_pointer s c xs ys ps star quals is) off h = by_case (abstract_goes ys ps is off (behind_pointer c s ps off h))
    where
      called : (c : Bool) → calls w (behind_pointers ps) t ≡ calls w (behind_pointers (Pointed s.place ∷ constant_if c ps)) t
      called true = refl
      called false = refl

      tokens : (rest : List Token) → s ∷ (xs ++ ((ys ++ (t ∷ [])) ++ rest)) ≡ ((s ∷ (xs ++ ys)) ++ (t ∷ [])) ++ rest
      tokens rest = ap (λ l. s ∷ l) (ap (λ l. xs ++ l) (append_assoc ys (t ∷ []) rest) ∙ sym (append_assoc xs ys (t ∷ rest)) ∙ sym (append_assoc (xs ++ ys) (t ∷ []) rest))

      by_case : CanBegin (IsAbstract w) (ys ++ (t ∷ [])) ⊎ (calls w (behind_pointers ps) t ≡ true)
          → CanBegin (IsAbstract w) ((s ∷ (xs ++ ys)) ++ (t ∷ [])) ⊎ (calls w (behind_pointers (Pointed s.place ∷ constant_if c ps)) t ≡ true)
      by_case (inr k) = inr (sym (called c) ∙ k)
      by_case (inl d) = inl (record {
        rest = d.rest;
        tree = Pointed s.place ∷ constant_if c d.tree;
        is = subst (λ z. IsAbstract w z (Pointed s.place ∷ constant_if c d.tree)) (tokens d.rest) (is_pointer s c xs ((ys ++ (t ∷ [])) ++ d.rest) d.tree star quals d.is);
      })

  pub type_goes : (xs : List Token) (d : Declared) → IsType w xs d → is_type_word w t ≡ false → more_type w d t ≡ true → CanBegin (IsType w) (xs ++ (t ∷ [])) ⊎ (calls w (behind_pointers d.pieces) t ≡ true)
  type_goes _ _ (is_type xs ys s base ps are gives is) off h = by_case (abstract_goes ys ps is (no_qualifier off) (sym (ap (λ b. b || more_abstract w ps t) (and_fails (is_empty ps) (is_type_word w t) off)) ∙ h))
    where
      by_case : CanBegin (IsAbstract w) (ys ++ (t ∷ [])) ⊎ (calls w (behind_pointers ps) t ≡ true) → CanBegin (IsType w) ((xs ++ ys) ++ (t ∷ [])) ⊎ (calls w (behind_pointers ps) t ≡ true)
      by_case (inr k) = inr k
      by_case (inl c) = inl (record {
        rest = c.rest;
        tree = record { base = base; pieces = c.tree };
        is = subst (λ z. IsType w z (record { base = base; pieces = c.tree }))
            (ap (λ l. xs ++ l) (append_assoc ys (t ∷ []) c.rest) ∙ sym (append_assoc xs ys (t ∷ c.rest)) ∙ sym (append_assoc (xs ++ ys) (t ∷ []) c.rest)) (is_type xs ((ys ++ (t ∷ [])) ++ c.rest) s base c.tree are gives c.is);
      })

  -- what goes on from no tree shows no other type either
  clear : (ps : List Piece) → ((is_empty ps && is_type_word w t) || more_abstract w ps t) ≡ false → ((is_empty ps && is_type_word w t) || ((is_empty (behind_pointers ps) && is_keyword w keyword.Volatile t) || calls w (behind_pointers ps) t)) ≡ false
  clear ps h = ap (λ b. b || ((is_empty (behind_pointers ps) && is_keyword w keyword.Volatile t) || calls w (behind_pointers ps) t)) words ∙ by_pieces ps words (second (is_empty ps && is_type_word w t) (more_abstract w ps t) h)
    where
      second : (b c : Bool) → (b || c) ≡ false → c ≡ false
      second true c h = absurd (cc h)
      second false c h = h

      words : (is_empty ps && is_type_word w t) ≡ false
      words = first_fails (is_empty ps && is_type_word w t) (more_abstract w ps t) h

      -- the last of the qualifiers
      volatile_off : is_qualifier w t ≡ false → is_keyword w keyword.Volatile t ≡ false
      volatile_off q = second (is_keyword w keyword.Restrict t) (is_keyword w keyword.Volatile t) (second (is_keyword w keyword.Const t) (is_keyword w keyword.Restrict t || is_keyword w keyword.Volatile t) q)

      no_calls : (qs : List Piece) → is_empty qs ≡ true → calls w qs t ≡ false
      no_calls [] e = refl
      no_calls (q ∷ qs) e = absurd (cc e)

      by_pieces : (ps : List Piece) → (is_empty ps && is_type_word w t) ≡ false → more_abstract w ps t ≡ false → ((is_empty (behind_pointers ps) && is_keyword w keyword.Volatile t) || calls w (behind_pointers ps) t) ≡ false
      by_pieces [] off m = ap (λ b. b || false) (no_keyword keyword.Volatile refl off)
      by_pieces (p ∷ ps) off m = by_test (is_empty (behind_pointers (p ∷ ps))) refl
        where
          by_test : (e : Bool) → is_empty (behind_pointers (p ∷ ps)) ≡ e → ((is_empty (behind_pointers (p ∷ ps)) && is_keyword w keyword.Volatile t) || calls w (behind_pointers (p ∷ ps)) t) ≡ false
          by_test true e =
              let next : (begins_abstract w t || is_qualifier w t) ≡ false = sym (ap (λ z. if z then begins_abstract w t || is_qualifier w t else more_direct w (behind_pointers (p ∷ ps)) t) e) ∙ m in
              ap (λ z. (z && is_keyword w keyword.Volatile t) || calls w (behind_pointers (p ∷ ps)) t) e ∙ ap (λ z. z || calls w (behind_pointers (p ∷ ps)) t) (volatile_off (second (begins_abstract w t) (is_qualifier w t) next))
              ∙ no_calls (behind_pointers (p ∷ ps)) e
          by_test false e =
              let next : more_direct w (behind_pointers (p ∷ ps)) t ≡ false = sym (ap (λ z. if z then begins_abstract w t || is_qualifier w t else more_direct w (behind_pointers (p ∷ ps)) t) e) ∙ m in
              ap (λ z. (z && is_keyword w keyword.Volatile t) || calls w (behind_pointers (p ∷ ps)) t) e ∙ second (is_open_bracket w t) (calls w (behind_pointers (p ∷ ps)) t) next

  pub no_other_type : (d : Declared) → more_type w d t ≡ false → shows_other_type w d t ≡ false
  no_other_type d h = clear d.pieces h

-- ---- the `(` of a function

module _ (w : Lexicon) where
  direct_no_star : (xs : List Token) (ps : List Piece) → IsDirect w xs ps → is_empty ps ≡ false → (later : List Token) → at_next (is_star w) (xs ++ later) ≡ false
  direct_no_star _ _ is_nothing_more some later = absurd (cc some)
  direct_no_star _ _ (is_in_parentheses o c xs p ps opens closes is) some later = mark_alone w mark.OpenParenthesis mark.Star o (mark_is w mark.OpenParenthesis o opens) refl
  direct_no_star _ _ (is_array o c xs ys [] size opens closes is fits) some later =
      ap (λ l. at_next (is_star w) ((l ++ (o ∷ (ys ++ (c ∷ [])))) ++ later)) (direct_empty w xs [] is refl) ∙ mark_alone w mark.OpenBracket mark.Star o (mark_is w mark.OpenBracket o opens) refl
  direct_no_star _ _ (is_array o c xs ys (p ∷ ps) size opens closes is fits) some later =
      ap (at_next (is_star w)) (append_assoc xs (o ∷ (ys ++ (c ∷ []))) later) ∙ direct_no_star xs (p ∷ ps) is refl ((o ∷ (ys ++ (c ∷ []))) ++ later)

  -- no pointer stands in front
  direct_behind : (xs : List Token) (ps : List Piece) → IsDirect w xs ps → behind_pointers ps ≡ ps
  direct_behind _ _ is_nothing_more = refl
  direct_behind _ _ (is_in_parentheses o c xs p ps opens closes is) = refl
  direct_behind _ _ (is_array o c xs ys ps size opens closes is fits) = refl

  some_called : (ps : List Piece) (later : List Token) → at_next (calls w (behind_pointers ps)) later ≡ true → is_empty ps ≡ false
  some_called ps [] h = absurd (cc h)
  some_called [] (t ∷ later) h = absurd (cc h)
  some_called (p ∷ ps) (t ∷ later) h = refl

module _ (w : Lexicon) (below : ℕ) (size : ℕ → Parser Token ExprTree) (S : (n : ℕ) → suc n ≤ below → Lawful (FitsExpr w (below - n) Assignment) (more w Assignment) (size n))
    (b : ℕ) (small : suc b ≤ below) (rest : ℕ → PieceReader) (R : (k : ℕ) → k ≤ b → Lawful (FitsPieces w below (b - k)) (more_abstract w) (rest k))
    (Inner : (k : ℕ) → k ≤ b → (xs : List Token) (ps : List Piece) (later : List Token) → IsAbstract w xs ps → length ps ≤ b - k → InnerFits below ps → at_next (calls w (behind_pointers ps)) later ≡ true
    → rest k (xs ++ later) ≡ stop function_pointer (length later)) where
  direct_halts : (xs : List Token) (ps : List Piece) (later : List Token) → IsDirect w xs ps → length ps ≤ suc b → InnerFits below ps → at_next (calls w ps) later ≡ true
      → direct w size b rest (xs ++ later) ≡ stop function_pointer (length later)
  unfolding direct
  direct_halts xs ps later is count sizes h =
      ap (λ o. and_then o (λ ps. choose (calls w ps) (refuse function_pointer) (pure ps)))
      ((looping (array_head w below size S b small rest R) (bracket_apart w below size S b small rest R) (pieces_law w below size S b small rest R)).complete xs ps later (from_direct w below size S b small rest R xs ps is count sizes) (ends ps later h))
      ∙ chosen (calls w ps) (refuse function_pointer) (pure ps) later true h
    where
      ends : (ps : List Piece) (later : List Token) → at_next (calls w ps) later ≡ true → at_next (λ t. is_open_bracket w t || (is_empty ps && is_open w t)) later ≡ false
      ends ps [] h = refl
      ends [] (t ∷ later) h = absurd (cc h)
      ends (p ∷ ps) (t ∷ later) h = or_false (is_open_bracket w t) ∙ mark_alone w mark.OpenParenthesis mark.OpenBracket t (mark_is w mark.OpenParenthesis t (and_second (points (p ∷ ps)) (is_open w t) h)) refl

  abstract_halts : (xs : List Token) (ps : List Piece) (later : List Token) → IsAbstract w xs ps → length ps ≤ suc b → InnerFits below ps → at_next (calls w (behind_pointers ps)) later ≡ true
      → abstract_declarator w size b rest (xs ++ later) ≡ stop function_pointer (length later)
  unfolding abstract_declarator pointed
  abstract_halts _ _ later (is_direct xs ps is) count sizes h =
      chosen (is_star w) (pointed w size b rest) (direct w size b rest) (xs ++ later) false (direct_no_star w xs ps is (some_called w ps later h) later)
      ∙ direct_halts xs ps later is count sizes (ap (λ qs. at_next (calls w qs) later) (sym (direct_behind w xs ps is)) ∙ h)
  abstract_halts _ _ later (is_pointer t c xs ys ps star quals is) count sizes h =
      let room = pointed_room w below size S b small rest R t c ps count sizes in
      let called : at_next (calls w (behind_pointers ps)) later ≡ true = behind c h in
      let off : at_next (is_qualifier w) (ys ++ later) ≡ false =
      head_fails w (begins_abstract w) (is_qualifier w) (unqualified w) (ys ++ later) (head_of_append (begins_abstract w) ys later (pieces_begin w ys ps is (some_called w ps later called))) in
      let reads : looped (is_qualifier w) (qualifier w size b rest) false ((xs ++ ys) ++ later) ≡ done c (ys ++ later) =
      ap (looped (is_qualifier w) (qualifier w size b rest) false) (append_assoc xs ys later)
      ∙ (qualifiers_law w below size S b small rest R).complete xs c (ys ++ later) (from_qualifiers w below size S b small rest R false c xs quals room.1.0) off in
      rw (star, reads, Inner (one_if c) (one_fits w below size S b small rest R c room.1.0) ys ps later is room.0 room.1.1 called) refl
    where
      behind : (c : Bool) → at_next (calls w (behind_pointers (Pointed t.place ∷ constant_if c ps))) later ≡ true → at_next (calls w (behind_pointers ps)) later ≡ true
      behind true k = k
      behind false k = k

module _ (w : Lexicon) (below : ℕ) (size : ℕ → Parser Token ExprTree) (S : (n : ℕ) → suc n ≤ below → Lawful (FitsExpr w (below - n) Assignment) (more w Assignment) (size n)) where
  with_room : (most room : ℕ) → room ≤ most → room ≤ below → (xs : List Token) (ps : List Piece) (later : List Token) → IsAbstract w xs ps → length ps ≤ room → InnerFits below ps
      → at_next (calls w (behind_pointers ps)) later ≡ true → declarators w size room 0 (xs ++ later) ≡ stop function_pointer (length later)
  with_room most zero le small xs [] later is count sizes h = absurd (let some : true ≡ false = some_called w [] later h in cc some)
  with_room most zero le small xs (p ∷ ps) later is count sizes h = absurd (let few : suc (length ps) ≤ 0 = count in omega arith)
  with_room zero (suc b) le small xs ps later is count sizes h = absurd (omega arith)
  with_room (suc most) (suc b) le small xs ps later is count sizes h =
      ap (λ p. p (xs ++ later)) (descent_step (no_declarator w) (abstract_declarator w size) b)
      ∙ abstract_halts w below size S b small (declarators w size b)
      (λ k few. subst (Lawful (FitsPieces w below (b - k)) (more_abstract w)) (sym (descent_from (no_declarator w) (abstract_declarator w size) b k)) (declarators_law w below size S (b - k) (omega arith)))
      (λ k few ys qs rest inner fewer fits called. ap (λ p. p (ys ++ rest)) (descent_from (no_declarator w) (abstract_declarator w size) b k)
      ∙ with_room most (b - k) (omega arith) (omega arith) ys qs rest inner fewer fits called) xs ps later is count sizes h

type_halts : (w : Lexicon) (below : ℕ) (part : ℕ → Parts) (P : (k : ℕ) → k < below → LawfulParts w (below - k) (part k)) (ts : List Token) (d : Declared) (later : List Token) → IsType w ts d → depth_of_type (type_of d) ≤ suc below
    → at_next (calls w (behind_pointers d.pieces)) later ≡ true → type_named w below part (ts ++ later) ≡ stop function_pointer (length later)
unfolding type_named
type_halts w below part P ts d later is deep h =
    let j = named.from w below part P ts d is deep in
    let called : at_next (calls w (behind_pointers j.second.value)) later ≡ true = ap (λ e. at_next (calls w (behind_pointers e.pieces)) later) (sym j.second.same) ∙ h in
    let flat : 1 ≤ depth_of_type j.value = base_depth w below j.before j.value j.first in
    let read : base_type w (is_zero below) (j.before ++ (j.after ++ later)) ≡ done j.value (j.after ++ later) =
    (base_law w below).complete j.before j.value (j.after ++ later) j.first (pieces_unworded w j.after j.second.value later j.second.is.is (some_called w j.second.value later called)) in
    ap (λ l. type_named w below part (l ++ later)) j.split ∙ ap (type_named w below part) (append_assoc j.before j.after later)
    ∙ ap (λ o. and_then o (λ t. declarators w (size_at w below part) (suc below - depth_of_type t) 0 >>= (λ ps. pure (record { base = t; pieces = ps })))) read
    ∙ ap (λ o. and_then o (λ ps. pure (record { base = j.value; pieces = ps })))
    (with_room w below (size_at w below part) (λ n le. (P n le).expr Assignment) (suc below - depth_of_type j.value) (suc below - depth_of_type j.value) (omega arith) (omega arith) j.after j.second.value later j.second.is.is j.second.is.count j.second.is.sizes called)

-- with any room that is enough
pub function_refused : (w : Lexicon) (left : ℕ) (ts : List Token) (d : Declared) (later : List Token) → IsType w ts d → depth_of_type (type_of d) ≤ left → at_next (calls w (behind_pointers d.pieces)) later ≡ true
    → type_reader w left (ts ++ later) ≡ stop function_pointer (length later)
function_refused w zero ts d later is deep h = absurd (let some : 1 ≤ depth_of_type (type_of d) = some_type_depth (type_of d) in omega arith)
function_refused w (suc n) ts d later is deep h =
    ap (λ p. p.type_name (ts ++ later)) (descent_step (no_parts w) (whole_parts w) n)
    ∙ type_halts w n (parts w n) (λ k lt. subst (LawfulParts w (n - k)) (sym (descent_from (no_parts w) (whole_parts w) n k)) (lawful_parts w (n - k) (omega arith))) ts d later is deep h
