use Rattle.std.proofs.Common.{ℕ, List, ◌↔◌, length}
use Rattle.sb_lex.specs.Values.{Characters}
use Rattle.sb_lex.proofs.values.are_characters.Given as goal

abbrev pub invariant-characters : goal.invariant-characters
invariant-characters l = ((bytes : List ℕ) × Characters l.rest bytes) ↔ ((bytes : List ℕ) × Characters l.text bytes)

abbrev pub decreases-characters : goal.decreases-characters
decreases-characters l = length l.rest
