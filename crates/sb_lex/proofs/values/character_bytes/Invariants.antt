use Rattle.std.proofs.Common.{◌++◌, ℕ, List, length}
use Rattle.sb_lex.specs.Values.{Characters}
use Rattle.sb_lex.proofs.values.character_bytes.Given as goal

abbrev pub invariant-characters : goal.invariant-characters
invariant-characters l = record {
  goes : (more : List ℕ) → Characters l.rest more → Characters l.text (l.bytes.items ++ more);
  only : (all : List ℕ) → Characters l.text all → (more : List ℕ) × Characters l.rest more;
}

abbrev pub decreases-characters : goal.decreases-characters
decreases-characters l = length l.rest
