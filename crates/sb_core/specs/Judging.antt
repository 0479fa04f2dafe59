-- What judging the core of a set finds.
use Rattle.std.specs.Prelude.{◌≡◌, ℕ, Result, Ok, Err}
use Rattle.sb_base.specs.declared.refusals.Refusal.{Refusal}
use Rattle.sb_base.specs.declared.refusals.Stop.{Stop}
use Rattle.sb_base.specs.declared.refusals.Stop.TheVariants as stop

-- a number of warnings, or why there is none
pub data Judgement : Type 0 where
  Counted : (warnings : ℕ) → Judgement
  Refused : Refusal → Judgement

-- the answer is what the judgement says, but for want of memory
abbrev pub IsJudged : Judgement → Result ℕ Stop → Type 0
IsJudged j (Ok warnings) = j ≡ Counted warnings
IsJudged j (Err (stop.Refused refusal)) = j ≡ Refused refusal
IsJudged j (Err stop.Memory) = Unit {0}
