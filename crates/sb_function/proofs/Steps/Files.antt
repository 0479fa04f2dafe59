-- What the reader of a file computes, at a turn of its loop.
use Rattle.std.proofs.Common.{◌≡◌, ◌-◌, ◌+◌, ◌<◌, ◌≤◌, ℕ, true, false, List, [], length, ap, ◌∙◌}
use Rattle.sb_parse.specs.Parser.{done, at_next, and_then, loop}
use Rattle.sb_function.specs.declared.lexeme.Lexeme.TheVariants as sign
use Rattle.sb_function.specs.declared.lexeme.Piece.{Piece}
use Rattle.sb_function.specs.declared.reading.ReadFault.{ReadFault}
use Rattle.sb_function.specs.declared.reading.ReadFault.TheVariants.{Refused, Memory}
use Rattle.sb_function.specs.Syntax.{FunctionTree}
use Rattle.sb_function.specs.Marks.{is_mark}
use Rattle.sb_function.specs.Reads.{IsFault}
use Rattle.sb_function.specs.Files.{function_more, functions}
use Rattle.sb_function.proofs.Steps.Loops.{loop_off, loop_on, loop_over}

module _ (pieces : List Piece) (i end : ℕ) (list : List FunctionTree) (rest : List Piece)
    (so_far : loop (is_mark sign.Void) function_more (length pieces) [] pieces ≡ loop (is_mark sign.Void) function_more (end - i) list rest) where
  pub list_ends : at_next (is_mark sign.Void) rest ≡ false → functions pieces ≡ done list rest
  unfolding functions
  list_ends h = so_far ∙ loop_off (is_mark sign.Void) function_more (end - i) list rest h

  pub list_over : end ≤ i → functions pieces ≡ done list rest
  unfolding functions
  list_over most = so_far ∙ loop_over (is_mark sign.Void) function_more i end list rest most

  pub list_goes : i < end → at_next (is_mark sign.Void) rest ≡ true → (longer : List FunctionTree) (after : List Piece) → function_more list rest ≡ done longer after
      → loop (is_mark sign.Void) function_more (length pieces) [] pieces ≡ loop (is_mark sign.Void) function_more (end - (i + 1)) longer after
  list_goes less h longer after e = so_far ∙ loop_on (is_mark sign.Void) function_more i end list rest less h ∙ ap (λ o. and_then o (loop (is_mark sign.Void) function_more (end - (i + 1)))) e

  pub list_fault : i < end → at_next (is_mark sign.Void) rest ≡ true → (e : ReadFault) → IsFault (function_more list rest) e → IsFault (functions pieces) e
  unfolding functions
  list_fault less h Memory f = tt
  list_fault less h (Refused left) f = so_far ∙ loop_on (is_mark sign.Void) function_more i end list rest less h ∙ ap (λ o. and_then o (loop (is_mark sign.Void) function_more (end - (i + 1)))) f
