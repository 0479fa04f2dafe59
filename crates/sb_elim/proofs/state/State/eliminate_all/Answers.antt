use Rattle.std.proofs.Common.{◌≡◌, ℕ, List, None, Some, ◌-◌, sym, ap, ◌∙◌}
use Rattle.sb_term.specs.Elimination.{going, without, eliminate, eliminate_all}
use Rattle.sb_elim.specs.declared.outcome.Outcome.{Outcome}
use Rattle.sb_elim.specs.Outcomes.{progress, next_of}
use Rattle.sb_elim.proofs.Turns.{eliminate_all-none, eliminate_all-some, on_going-over}
use Rattle.sb_elim.proofs.state.State.eliminate_all.Goals as goal

pub returns-in-None : goal.returns-in-None
returns-in-None c =
    let st = c.loop-turn.self in
    let e : next_of st.rows c.loop-turn.left.items ≡ None = ap (next_of st.rows) (sym c.deref.ensures.value) ∙ sym c.in-None.ensures in
    sym (eliminate_all-none c.loop-turn.turn c.loop-turn.left.items st e) ∙ c.loop-turn.invariant

pub loop-turn-preserved : goal.loop-turn-preserved
loop-turn-preserved c =
    let st = c.loop-turn.self in
    let left = c.loop-turn.left.items in
    let s = c.in-Some.symbol in
    let e : next_of st.rows left ≡ Some s = ap (next_of st.rows) (sym c.deref.ensures.value) ∙ sym c.in-Some.ensures in
    let f : going c.eliminate.new.self ≡ eliminate s st = ap (λ (o : Outcome). progress o c.eliminate.new.self) (sym c.in-Going.is) ∙ c.in_ok-other-in-Some.ensures in
    let l = c.in_ok-left-in-Going.ensures ∙ ap (without s) c.deref-in-Going.ensures.value in
    ap (λ (xs : List ℕ). eliminate_all (c.loop-turn.turn - 1) xs c.eliminate.new.self) l
    ∙ sym (eliminate_all-some c.loop-turn.turn left st s (going c.eliminate.new.self) c.loop-turn-test.true e f) ∙ c.loop-turn.invariant

pub returns-in_default : goal.returns-in_default
returns-in_default c =
    let st = c.loop-turn.self in
    let left = c.loop-turn.left.items in
    let s = c.in-Some.symbol in
    let o = c.in_ok-other-in-Some.other in
    let e : next_of st.rows left ≡ Some s = ap (next_of st.rows) (sym c.deref.ensures.value) ∙ sym c.in-Some.ensures in
    sym (eliminate_all-some c.loop-turn.turn left st s (progress o c.eliminate.new.self) c.loop-turn-test.true e c.in_ok-other-in-Some.ensures
    ∙ on_going-over o c.eliminate.new.self (λ next. eliminate_all (c.loop-turn.turn - 1) (without s left) next) c.in_default.not-Going) ∙ c.loop-turn.invariant
