-- What the reader of a statement computes, by the next word or mark.
use Rattle.std.proofs.Common.{◌≡◌, ◌-◌, ◌+◌, ◌<◌, ◌≤◌, ℕ, zero, suc, true, false, ◌||◌, List, [], ◌∷◌, length, refl, sym, ap, ◌∙◌, arith}
use Rattle.sb_parse.specs.Parser.{Outcome, done, stop, at_next, and_then, pure, choose, guard, refuse, loop}
use Rattle.sb_parse.proofs.Heads.{passes_first, passes_second, chosen}
use Rattle.sb_function.specs.declared.reading.ReadFault.{ReadFault}
use Rattle.sb_function.specs.declared.reading.ReadFault.TheVariants.{Refused, Memory}
use Rattle.sb_function.specs.Reads.{IsFault}
use Rattle.sb_function.proofs.Steps.Loops.{loop_off, loop_on, loop_over}
use Rattle.sb_function.specs.declared.lexeme.Lexeme.TheVariants as sign
use Rattle.sb_function.specs.declared.lexeme.Piece.{Piece}
use Rattle.sb_function.specs.declared.syntax.Param.{Param}
use Rattle.sb_function.specs.Syntax.{Plain}
use Rattle.sb_function.specs.Marks.{Reader, misplaced, is_mark}
use Rattle.sb_function.specs.Params.{is_zero}
use Rattle.sb_function.specs.Statements.{begins_store, begins_statement, store, conditional, braced, statement, statements, statement_more, in_order}

module _ (params : List Param) (ts : List Piece) where
  abbrev third : ℕ → Reader Plain
  third left = choose (is_mark sign.If) (guard (is_zero left) misplaced (conditional params (statement params left))) (store params)

  opened : (left : ℕ) → at_next (begins_statement params) ts ≡ true → statement params (suc left) ts ≡ choose (is_mark sign.OpenBrace) (braced params (statement params left)) (third left) ts
  unfolding statement
  opened left h = chosen (begins_statement params) (choose (is_mark sign.OpenBrace) (braced params (statement params left)) (third left)) (refuse misplaced) ts true h

  pub no_depth : (left : ℕ) → left ≡ 0 → statement params left ts ≡ stop misplaced (length ts)
  unfolding statement
  no_depth left h = ap (λ z. statement params z ts) h

  less_one : (left : ℕ) → suc left - 1 ≡ left
  less_one left = omega arith

  pub a_block : (left : ℕ) → (left ≡ 0 → ⊥) → at_next (is_mark sign.OpenBrace) ts ≡ true → statement params left ts ≡ braced params (statement params (left - 1)) ts
  a_block zero d h = absurd (d refl)
  a_block (suc left) d h =
      opened left (passes_first (is_mark sign.OpenBrace) (λ t. is_mark sign.If t || begins_store params t) ts h)
      ∙ chosen (is_mark sign.OpenBrace) (braced params (statement params left)) (third left) ts true h
      ∙ ap (λ z. braced params (statement params z) ts) (sym (less_one left))

  to_if : (left : ℕ) → at_next (is_mark sign.OpenBrace) ts ≡ false → at_next (is_mark sign.If) ts ≡ true → statement params (suc left) ts ≡ guard (is_zero left) misplaced (conditional params (statement params left)) ts
  to_if left no_brace h =
      opened left (passes_second (is_mark sign.OpenBrace) (λ t. is_mark sign.If t || begins_store params t) ts (passes_first (is_mark sign.If) (begins_store params) ts h))
      ∙ chosen (is_mark sign.OpenBrace) (braced params (statement params left)) (third left) ts false no_brace
      ∙ chosen (is_mark sign.If) (guard (is_zero left) misplaced (conditional params (statement params left))) (store params) ts true h

  pub no_if : (left : ℕ) → (left ≡ 0 → ⊥) → at_next (is_mark sign.OpenBrace) ts ≡ false → at_next (is_mark sign.If) ts ≡ true → left ≡ 1 → statement params left ts ≡ stop misplaced (length ts)
  no_if zero d no_brace h one = absurd (d refl)
  no_if (suc left) d no_brace h one =
      to_if left no_brace h ∙ ap (λ z. guard (is_zero z) misplaced (conditional params (statement params left)) ts) (let none : left ≡ 0 = (let same : suc left ≡ 1 = one in omega arith) in none)

  pub an_if : (left : ℕ) → (left ≡ 0 → ⊥) → at_next (is_mark sign.OpenBrace) ts ≡ false → at_next (is_mark sign.If) ts ≡ true → (left ≡ 1 → ⊥) → statement params left ts ≡ conditional params (statement params (left - 1)) ts
  an_if zero d no_brace h more = absurd (d refl)
  an_if (suc zero) d no_brace h more = absurd (more refl)
  an_if (suc (suc left)) d no_brace h more = to_if (suc left) no_brace h ∙ ap (λ z. conditional params (statement params z) ts) (sym (less_one (suc left)))

  pub a_store : (left : ℕ) → (left ≡ 0 → ⊥) → at_next (is_mark sign.OpenBrace) ts ≡ false → at_next (is_mark sign.If) ts ≡ false → at_next (begins_store params) ts ≡ true → statement params left ts ≡ store params ts
  a_store zero d no_brace none h = absurd (d refl)
  a_store (suc left) d no_brace none h =
      opened left (passes_second (is_mark sign.OpenBrace) (λ t. is_mark sign.If t || begins_store params t) ts (passes_second (is_mark sign.If) (begins_store params) ts h))
      ∙ chosen (is_mark sign.OpenBrace) (braced params (statement params left)) (third left) ts false no_brace
      ∙ chosen (is_mark sign.If) (guard (is_zero left) misplaced (conditional params (statement params left))) (store params) ts false none

  none_begins : (us : List Piece) → at_next (is_mark sign.OpenBrace) us ≡ false → at_next (is_mark sign.If) us ≡ false → at_next (begins_store params) us ≡ false → at_next (begins_statement params) us ≡ false
  none_begins [] a b c = refl
  none_begins (t ∷ us) a b c = ap (λ z. z || (is_mark sign.If t || begins_store params t)) a ∙ ap (λ z. z || begins_store params t) b ∙ c

  pub no_statement : (left : ℕ) → (left ≡ 0 → ⊥) → at_next (is_mark sign.OpenBrace) ts ≡ false → at_next (is_mark sign.If) ts ≡ false → at_next (begins_store params) ts ≡ false → statement params left ts ≡ stop misplaced (length ts)
  unfolding statement
  no_statement zero d a b c = absurd (d refl)
  no_statement (suc left) d a b c = chosen (begins_statement params) (choose (is_mark sign.OpenBrace) (braced params (statement params left)) (third left)) (refuse misplaced) ts false (none_begins ts a b c)

-- statements are the turns of a loop
pub as_loop : (params : List Param) (part : Reader Plain) (ts : List Piece) (o : Outcome Piece (List Plain)) → loop (begins_statement params) (statement_more params part) (length ts) [] ts ≡ o
    → statements params part ts ≡ and_then o (λ list. pure (in_order list))
unfolding statements
as_loop params part ts o h = ap (λ z. and_then z (λ list. pure (in_order list))) h

-- ---- the loop of statements, at a turn

module _ (params : List Param) (part : Reader Plain) (pieces : List Piece) (i end : ℕ) (list : List Plain) (rest : List Piece)
    (so_far : loop (begins_statement params) (statement_more params part) (length pieces) [] pieces ≡ loop (begins_statement params) (statement_more params part) (end - i) list rest) where
  pub list_ends : at_next (begins_statement params) rest ≡ false → statements params part pieces ≡ done (in_order list) rest
  list_ends h = as_loop params part pieces (done list rest) (so_far ∙ loop_off (begins_statement params) (statement_more params part) (end - i) list rest h)

  pub list_over : end ≤ i → statements params part pieces ≡ done (in_order list) rest
  list_over most = as_loop params part pieces (done list rest) (so_far ∙ loop_over (begins_statement params) (statement_more params part) i end list rest most)

  pub list_goes : i < end → at_next (begins_statement params) rest ≡ true → (longer : List Plain) (after : List Piece) → statement_more params part list rest ≡ done longer after
      → loop (begins_statement params) (statement_more params part) (length pieces) [] pieces ≡ loop (begins_statement params) (statement_more params part) (end - (i + 1)) longer after
  list_goes less h longer after e =
      so_far ∙ loop_on (begins_statement params) (statement_more params part) i end list rest less h
      ∙ ap (λ o. and_then o (loop (begins_statement params) (statement_more params part) (end - (i + 1)))) e

  pub list_fault : i < end → at_next (begins_statement params) rest ≡ true → (e : ReadFault) → IsFault (statement_more params part list rest) e → IsFault (statements params part pieces) e
  list_fault less h Memory f = tt
  list_fault less h (Refused left) f = as_loop params part pieces (stop misplaced left) (so_far ∙ loop_on (begins_statement params) (statement_more params part) i end list rest less h
      ∙ ap (λ o. and_then o (loop (begins_statement params) (statement_more params part) (end - (i + 1)))) f)
