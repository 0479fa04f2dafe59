use Rattle.std.proofs.Common.{◌≡◌, ℕ, Some, length, slice_get}
use Rattle.sb_lex.specs.declared.piece.PpToken.{PpToken}
use Rattle.sb_cond.specs.declared.sign.ConditionToken.{ConditionToken}
use Rattle.sb_cond.specs.Condition.{IsTokenOf}
use Rattle.sb_cond.proofs.line.tokens_of.Given as goal

abbrev pub invariant-loop-index : goal.invariant-loop-index
invariant-loop-index l = record {
  count : length l.tokens.items ≡ l.index;
  each : (k : ℕ) (piece : PpToken) (token : ConditionToken) → slice_get l.line k ≡ Some piece → slice_get l.tokens.items k ≡ Some token → IsTokenOf l.names.texts k piece token;
}
