-- the answer of the written elimination
use Rattle.std.specs.Prelude.{◌+◌, Bool, false, ◌&&◌, List, [], negsuc, Option, Some, None, length, if◌then◌else◌}
use Rattle.std.specs.List.{list_all}
use Rattle.sb_term.specs.Ratio.{Ratio, ratio_le}
use Rattle.sb_term.specs.Refutes.{symbols_of, value_under}
use Rattle.sb_term.specs.Elimination.{Progress, going, proved, too_many_rows, too_many_digits, on_going, start, eliminate_all}
use Rattle.sb_term.specs.Pruning.{pruned}
use Rattle.sb_term.specs.Bounds.{zero_ratio, values, in_order}
use Rattle.sb_term.specs.declared.sym.Sym.{Sym}
use Rattle.sb_term.specs.declared.row.Row.{Row}
use Rattle.sb_term.specs.declared.query.Query.{Query}
use Rattle.sb_term.specs.declared.answer.Answer.{Answer}
use Rattle.sb_term.specs.declared.answer.Answer.TheVariants.{Proved, Refuted, LimitRows, LimitDigits}

abbrev pub is_from_zero : Option Ratio → Bool
is_from_zero None = false
is_from_zero (Some v) = ratio_le zero_ratio v

abbrev pub is_up_to_minus_one : Option Ratio → Bool
is_up_to_minus_one None = false
is_up_to_minus_one (Some v) = ratio_le v (record { num = negsuc 0; den = 1 })

abbrev pub facts_stand : List (Sym × Ratio) → List Row → Bool
facts_stand a rs = list_all (λ r. is_from_zero (value_under a r.term)) rs

-- the values put into each fact and the goal
abbrev pub is_refuted_by : Query → List (Sym × Ratio) → Bool
is_refuted_by q a = facts_stand a q.facts && is_up_to_minus_one (value_under a q.goal.term)

-- LimitDigits where a value passes a limit. A fact below 0 or a goal above -1 would give it too, but by the theorem of
-- Fourier and Motzkin no elimination of terms leaves such values: `limit_digits` of proofs/Backward/Refuting.
abbrev pub refuted : Query → Option (List (Sym × Ratio)) → Answer
refuted q None = LimitDigits
refuted q (Some known) =
    let a = in_order known (symbols_of q) in if is_refuted_by q a then Refuted (record { list = a }) else LimitDigits

abbrev pub answer_from : Query → Progress → Answer
answer_from q (going st) = refuted q (values st.asides [])
answer_from q (proved steps) = Proved (record { list = pruned (length q.facts + 1) steps })
answer_from q too_many_rows = LimitRows
answer_from q too_many_digits = LimitDigits

-- the rows are placed, then one symbol after another is eliminated
abbrev pub answer_of : Query → Answer
answer_of q = answer_from q (on_going (start q) (λ st. eliminate_all (length (symbols_of q)) (symbols_of q) st))
