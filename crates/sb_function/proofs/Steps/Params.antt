-- What the reader of a parameter computes, by the next word or mark.
use Rattle.std.proofs.Common.{◌≡◌, ◌<◌, ◌≤◌, ◌-◌, not, arith, ℕ, zero, suc, true, false, ◌||◌, List, [], ◌∷◌, length, nat_lt, refl, ap, ◌∙◌, lt-ltb, le-ltb}
use Rattle.sb_parse.specs.Parser.{stop, at_next, ◌>>=◌, pure, choose, guard, refuse}
use Rattle.sb_parse.proofs.Heads.{passes_first, passes_second, chosen}
use Rattle.sb_function.specs.declared.lexeme.Lexeme.TheVariants as sign
use Rattle.sb_function.specs.declared.lexeme.Piece.{Piece}
use Rattle.sb_function.specs.declared.written.Written.{Written}
use Rattle.sb_function.specs.declared.written.WrittenKind.TheVariants.{Int, Unsigned}
use Rattle.sb_function.specs.Marks.{Reader, misplaced, is_mark, mark}
use Rattle.sb_function.specs.Params.{Seen, number_param, pointer_param, begins_param, param, is_zero, goes_on, closing, params_after, params_behind}

module _ (room : ℕ) (seen : Seen) (ts : List Piece) where
  abbrev last : Reader Seen
  last = guard (nat_lt room (length seen.pending)) misplaced (pointer_param room seen)

  abbrev middle : Reader Seen
  middle = choose (is_mark sign.Unsigned) (mark sign.Unsigned (mark sign.Int (number_param room seen Unsigned))) last

  abbrev whole : Reader Seen
  whole = choose (is_mark sign.Int) (mark sign.Int (number_param room seen Int)) middle

  begun_so : at_next begins_param ts ≡ true → param room seen ts ≡ whole ts
  unfolding param
  begun_so h = chosen begins_param whole (refuse misplaced) ts true h

  pub an_int : at_next (is_mark sign.Int) ts ≡ true → param room seen ts ≡ mark sign.Int (number_param room seen Int) ts
  an_int h =
      begun_so (passes_first (is_mark sign.Int) (λ t. is_mark sign.Unsigned t || is_mark sign.OutWrites t) ts h)
      ∙ chosen (is_mark sign.Int) (mark sign.Int (number_param room seen Int)) middle ts true h

  pub an_unsigned : at_next (is_mark sign.Int) ts ≡ false → at_next (is_mark sign.Unsigned) ts ≡ true → param room seen ts ≡ mark sign.Unsigned (mark sign.Int (number_param room seen Unsigned)) ts
  an_unsigned no_int h =
      begun_so (passes_second (is_mark sign.Int) (λ t. is_mark sign.Unsigned t || is_mark sign.OutWrites t) ts (passes_first (is_mark sign.Unsigned) (is_mark sign.OutWrites) ts h))
      ∙ chosen (is_mark sign.Int) (mark sign.Int (number_param room seen Int)) middle ts false no_int
      ∙ chosen (is_mark sign.Unsigned) (mark sign.Unsigned (mark sign.Int (number_param room seen Unsigned))) last ts true h

  to_last : at_next (is_mark sign.Int) ts ≡ false → at_next (is_mark sign.Unsigned) ts ≡ false → at_next (is_mark sign.OutWrites) ts ≡ true → param room seen ts ≡ last ts
  to_last no_int no_unsigned h =
      begun_so (passes_second (is_mark sign.Int) (λ t. is_mark sign.Unsigned t || is_mark sign.OutWrites t) ts (passes_second (is_mark sign.Unsigned) (is_mark sign.OutWrites) ts h))
      ∙ chosen (is_mark sign.Int) (mark sign.Int (number_param room seen Int)) middle ts false no_int
      ∙ chosen (is_mark sign.Unsigned) (mark sign.Unsigned (mark sign.Int (number_param room seen Unsigned))) last ts false no_unsigned

  pub a_pointer : at_next (is_mark sign.Int) ts ≡ false → at_next (is_mark sign.Unsigned) ts ≡ false → at_next (is_mark sign.OutWrites) ts ≡ true → length seen.pending ≤ room → param room seen ts ≡ pointer_param room seen ts
  a_pointer no_int no_unsigned h fits = to_last no_int no_unsigned h ∙ ap (λ b. guard b misplaced (pointer_param room seen) ts) (le-ltb room (length seen.pending) fits)

  pub no_pointer : at_next (is_mark sign.Int) ts ≡ false → at_next (is_mark sign.Unsigned) ts ≡ false → at_next (is_mark sign.OutWrites) ts ≡ true → room < length seen.pending → param room seen ts ≡ stop misplaced (length ts)
  no_pointer no_int no_unsigned h more = to_last no_int no_unsigned h ∙ ap (λ b. guard b misplaced (pointer_param room seen) ts) (lt-ltb room (length seen.pending) more)

  nothing_begins : (us : List Piece) → at_next (is_mark sign.Int) us ≡ false → at_next (is_mark sign.Unsigned) us ≡ false → at_next (is_mark sign.OutWrites) us ≡ false → at_next begins_param us ≡ false
  nothing_begins [] a b c = refl
  nothing_begins (t ∷ us) a b c = ap (λ z. z || (is_mark sign.Unsigned t || is_mark sign.OutWrites t)) a ∙ ap (λ z. z || is_mark sign.OutWrites t) b ∙ c

  pub no_param : at_next (is_mark sign.Int) ts ≡ false → at_next (is_mark sign.Unsigned) ts ≡ false → at_next (is_mark sign.OutWrites) ts ≡ false → param room seen ts ≡ stop misplaced (length ts)
  unfolding param
  no_param a b c = chosen begins_param whole (refuse misplaced) ts false (nothing_begins ts a b c)

-- ---- what follows a parameter

module _ (seen : Seen) (ts : List Piece) where
  abbrev more_of : ℕ → Reader (List Written)
  more_of zero = guard true misplaced (pure seen.written)
  more_of (suc room) = mark sign.Comma (param room seen >>= params_after room)

  abbrev chosen_of : ℕ → Reader (List Written)
  chosen_of room = choose (is_mark sign.Comma) (more_of room) (closing seen)

  opened_so : (room : ℕ) → at_next goes_on ts ≡ true → params_after room seen ts ≡ chosen_of room ts
  unfolding params_after
  opened_so zero h = chosen goes_on (chosen_of zero) (refuse misplaced) ts true h
  opened_so (suc room) h = chosen goes_on (chosen_of (suc room)) (refuse misplaced) ts true h

  at_comma : (room : ℕ) → at_next (is_mark sign.Comma) ts ≡ true → params_after room seen ts ≡ more_of room ts
  at_comma room h = opened_so room (passes_first (is_mark sign.Comma) (is_mark sign.CloseParenthesis) ts h) ∙ chosen (is_mark sign.Comma) (more_of room) (closing seen) ts true h

  pub no_room : (room : ℕ) → at_next (is_mark sign.Comma) ts ≡ true → room ≡ 0 → params_after room seen ts ≡ stop misplaced (length ts)
  no_room room h none = at_comma room h ∙ ap (λ z. more_of z ts) none

  pub one_more : (room : ℕ) → at_next (is_mark sign.Comma) ts ≡ true → (room ≡ 0 → ⊥) → params_after room seen ts ≡ params_behind (room - 1) seen ts
  unfolding params_behind
  one_more zero h some = absurd (some refl)
  one_more (suc room) h some = at_comma (suc room) h ∙ ap (λ z. mark sign.Comma (param z seen >>= params_after z) ts) (let less : room ≡ suc room - 1 = omega arith in less)

  to_close : (room : ℕ) → at_next (is_mark sign.Comma) ts ≡ false → at_next (is_mark sign.CloseParenthesis) ts ≡ true → params_after room seen ts ≡ closing seen ts
  to_close room no_comma h = opened_so room (passes_second (is_mark sign.Comma) (is_mark sign.CloseParenthesis) ts h) ∙ chosen (is_mark sign.Comma) (more_of room) (closing seen) ts false no_comma

  pub the_end : (room : ℕ) → at_next (is_mark sign.Comma) ts ≡ false → at_next (is_mark sign.CloseParenthesis) ts ≡ true → length seen.pending ≡ 0 → params_after room seen ts ≡ mark sign.CloseParenthesis (pure seen.written) ts
  the_end room no_comma h none = to_close room no_comma h ∙ ap (λ z. guard (not (is_zero z)) misplaced (mark sign.CloseParenthesis (pure seen.written)) ts) none

  pub no_end : (room : ℕ) → at_next (is_mark sign.Comma) ts ≡ false → at_next (is_mark sign.CloseParenthesis) ts ≡ true → (length seen.pending ≡ 0 → ⊥) → params_after room seen ts ≡ stop misplaced (length ts)
  no_end room no_comma h some = to_close room no_comma h ∙ go (length seen.pending) some
    where
      go : (k : ℕ) → (k ≡ 0 → ⊥) → guard (not (is_zero k)) misplaced (mark sign.CloseParenthesis (pure seen.written)) ts ≡ stop misplaced (length ts)
      go zero h = absurd (h refl)
      go (suc k) h = refl

  neither : (us : List Piece) → at_next (is_mark sign.Comma) us ≡ false → at_next (is_mark sign.CloseParenthesis) us ≡ false → at_next goes_on us ≡ false
  neither [] a b = refl
  neither (t ∷ us) a b = ap (λ z. z || is_mark sign.CloseParenthesis t) a ∙ b

  pub nothing_goes : (room : ℕ) → at_next (is_mark sign.Comma) ts ≡ false → at_next (is_mark sign.CloseParenthesis) ts ≡ false → params_after room seen ts ≡ stop misplaced (length ts)
  unfolding params_after
  nothing_goes zero a b = chosen goes_on (chosen_of zero) (refuse misplaced) ts false (neither ts a b)
  nothing_goes (suc room) a b = chosen goes_on (chosen_of (suc room)) (refuse misplaced) ts false (neither ts a b)
