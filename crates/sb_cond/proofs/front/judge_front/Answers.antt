use Rattle.std.proofs.Common.{ap, sym, ◌∙◌, length, subst, Option, ℕ}
use Rattle.sb_cond.specs.Front.{IsRefusedIn, refusal_in}
use Rattle.sb_cond.proofs.Fronts.{front_is}
use Rattle.sb_cond.proofs.Stops.{fault_in_number}
use Rattle.sb_cond.proofs.front.judge_front.Goals as goal

pub returns-in-Ok : goal.returns-in-Ok
returns-in-Ok c =
    let is = c.refusal_in.ensures.at ∙ ap (λ (f : Option ℕ). refusal_in f (length c.args.tokens.now) (length c.in-Ok.read.rest.now)) c.fault_of.ensures.fault in
    record { refused = subst (IsRefusedIn c.args.tokens.now) (sym is) (front_is c.args.tokens.now _ c.in-Ok.ensures.read) }

pub returns-in-Err : goal.returns-in-Err
returns-in-Err c =
    let is = c.refusal_in-in-Err.ensures.at ∙ ap (λ (f : Option ℕ). refusal_in f (length c.args.tokens.now) c.in-Err.stop.left) (sym (fault_in_number c.in-Err.stop.fault)) in
    record { refused = subst (IsRefusedIn c.args.tokens.now) (sym is) (front_is c.args.tokens.now _ c.in-Err.ensures.read) }
