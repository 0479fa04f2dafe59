use Rattle.std.proofs.Common.{◌≡◌, ℕ, suc, ◌+◌, ◌-◌, ◌<◌, List, length, sym, ap, ◌∙◌, arith}
use Rattle.sb_picture.specs.Asking.{closed}
use Rattle.sb_picture.proofs.Steps.Closing.{closed-still, closed-goes}
use Rattle.sb_picture.proofs.asking.close.Goals as goal

pub returns-then-len-before : goal.returns-then-len-before
returns-then-len-before c =
    let left : 0 < length c.args.facts.now - c.loop-turn._turn = omega arith in
    let same = sym (ap length c.in_ok-spread.ensures) ∙ (sym c.len.ensures ∙ (c.if-len-before.true ∙ c.len-before.ensures)) in
    c.in_ok-spread.ensures ∙ (sym (closed-still (length c.args.facts.now - c.loop-turn._turn) c.args.facts.now c.loop-turn.symbols left same) ∙ c.loop-turn.invariant)

pub loop-turn-preserved : goal.loop-turn-preserved
loop-turn-preserved c =
    let one : length c.args.facts.now - c.loop-turn._turn ≡ suc (length c.args.facts.now - (c.loop-turn._turn + 1)) = omega arith in
    let goes = closed-goes (length c.args.facts.now - c.loop-turn._turn) (length c.args.facts.now - (c.loop-turn._turn + 1)) c.args.facts.now c.loop-turn.symbols one
    (λ same. c.if-len-before.false (c.len.ensures ∙ (ap length c.in_ok-spread.ensures ∙ (same ∙ sym c.len-before.ensures)))) in
    ap (λ (ss : List ℕ). closed (length c.args.facts.now - (c.loop-turn._turn + 1)) c.args.facts.now ss) c.in_ok-spread.ensures ∙ (sym goes ∙ c.loop-turn.invariant)
