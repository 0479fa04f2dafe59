use Rattle.std.proofs.Common.{Some, None, ap, refl, subst, sym, List}
use Rattle.sb_base.specs.declared.refusals.Place.{Place}
use Rattle.sb_cond.specs.declared.sign.ConditionToken.{ConditionToken}
use Rattle.sb_cond.specs.Condition.{AreTokens}
use Rattle.sb_cond.proofs.Faults.{one_front}
use Rattle.sb_cond.proofs.front.front_refusal.Goals as goal

pub returns-in-Some-clause-only : goal.returns-in-Some-clause-only
returns-in-Some-clause-only c = λ other line. one_front c.args.names.now.texts c.args.front.now c.args.end other (Some c.place_in.result) line (record {
  tokens = c.as_slice.result.now;
  at = Some c.in-Some.at;
  are = subst (λ (l : List ConditionToken). AreTokens c.args.names.now.texts c.args.front.now l) (sym c.as_slice.ensures.value) c.in_ok-tokens.ensures.tokens;
  refused = c.in-Some.ensures.refused;
  is = ap (λ (p : Place). Some p) c.place_in.ensures.place;
})

pub returns-clause-only : goal.returns-clause-only
returns-clause-only c = λ other line. one_front c.args.names.now.texts c.args.front.now c.args.end other None line (record {
  tokens = c.as_slice.result.now;
  at = None;
  are = subst (λ (l : List ConditionToken). AreTokens c.args.names.now.texts c.args.front.now l) (sym c.as_slice.ensures.value) c.in_ok-tokens.ensures.tokens;
  refused = c.in-None.ensures.refused;
  is = refl;
})
