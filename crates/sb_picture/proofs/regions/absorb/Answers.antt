use Rattle.std.proofs.Common.{◌≡◌, suc, ◌+◌, ◌-◌, List, length, position, ap, sym, ◌∙◌, arith}
use Rattle.sb_picture.specs.declared.picture.Island.{Island}
use Rattle.sb_picture.specs.Regions.{absorbed, is_next}
use Rattle.sb_picture.proofs.Steps.Absorbing.{absorbed-some}
use Rattle.sb_picture.proofs.regions.absorb.Goals as goal

pub loop-turn-preserved : goal.loop-turn-preserved
loop-turn-preserved c =
    let one : length c.args.region.now.islands - c.loop-turn._turn ≡ suc (length c.args.region.now.islands - (c.loop-turn._turn + 1)) = omega (arith, c.len-turn-end.ensures, c.loop-turn-test.true) in
    let turn = absorbed-some (length c.args.region.now.islands - c.loop-turn._turn) (length c.args.region.now.islands - (c.loop-turn._turn + 1)) c.in-Some.at c.loop-turn.region c.remove-end.result
    one (sym c.in-Some.is ∙ (c.in_ok-next.ensures.first ∙ ap (λ (xs : List Island). position (is_next c.loop-turn.region.written) xs) c.as_slice.ensures)) c.remove-end.ensures.item in
    ap (λ (islands : List Island). absorbed (length c.args.region.now.islands - (c.loop-turn._turn + 1)) (record { name = c.loop-turn.region.name; presence = c.loop-turn.region.presence; extent = c.loop-turn.region.extent; written = c.remove-end.result.end; islands = islands })) c.remove-end.ensures.rest
    ∙ (turn ∙ c.loop-turn.invariant)
