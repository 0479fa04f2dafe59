use Rattle.std.proofs.Common.{ap, subst, sym, List}
use Rattle.sb_base.specs.declared.refusals.Place.{Place}
use Rattle.sb_cond.specs.declared.sign.ConditionToken.{ConditionToken}
use Rattle.sb_cond.specs.Condition.{AreTokens}
use Rattle.sb_cond.proofs.Answering.{one_answer, never_refused}
use Rattle.sb_cond.proofs.Faults.{one_line_refusal}
use Rattle.sb_cond.proofs.line.condition.Goals as goal

pub returns-in-Ok-judge-clause-only : goal.returns-in-Ok-judge-clause-only
returns-in-Ok-judge-clause-only c = λ holds line. one_answer c.args.names.now.texts c.args.line.now c.in-Ok-judge.holds holds (record {
  tokens = c.as_slice.result.now;
  are = subst (λ (l : List ConditionToken). AreTokens c.args.names.now.texts c.args.line.now l) (sym c.as_slice.ensures.value) c.in-Ok.ensures.tokens;
  truth = c.in-Ok-judge.ensures.holds;
}) line

pub returns-clause-only : goal.returns-clause-only
returns-clause-only c = λ holds line. never_refused c.args.names.now.texts c.args.line.now c.args.end holds (record { number = 26; place = c.place_in.result; feature = 0 }) line (record {
  tokens = c.as_slice.result.now;
  at = c.in-Err.at;
  are = subst (λ (l : List ConditionToken). AreTokens c.args.names.now.texts c.args.line.now l) (sym c.as_slice.ensures.value) c.in-Ok.ensures.tokens;
  refused = c.in-Err.ensures.refused;
  is = ap (λ (p : Place). record { number = 26; place = p; feature = 0 }) c.place_in.ensures.place;
})

pub returns-in-Ok-judge-clause-only_refused : goal.returns-in-Ok-judge-clause-only_refused
returns-in-Ok-judge-clause-only_refused c = λ refusal line. never_refused c.args.names.now.texts c.args.line.now c.args.end c.in-Ok-judge.holds refusal (record {
  tokens = c.as_slice.result.now;
  are = subst (λ (l : List ConditionToken). AreTokens c.args.names.now.texts c.args.line.now l) (sym c.as_slice.ensures.value) c.in-Ok.ensures.tokens;
  truth = c.in-Ok-judge.ensures.holds;
}) line

pub returns-clause-only_refused : goal.returns-clause-only_refused
returns-clause-only_refused c = λ refusal line. one_line_refusal c.args.names.now.texts c.args.line.now c.args.end (record { number = 26; place = c.place_in.result; feature = 0 }) refusal (record {
  tokens = c.as_slice.result.now;
  at = c.in-Err.at;
  are = subst (λ (l : List ConditionToken). AreTokens c.args.names.now.texts c.args.line.now l) (sym c.as_slice.ensures.value) c.in-Ok.ensures.tokens;
  refused = c.in-Err.ensures.refused;
  is = ap (λ (p : Place). record { number = 26; place = p; feature = 0 }) c.place_in.ensures.place;
}) line
