use Rattle.std.proofs.Common.{arith, ◌∙◌, sym, ◌≡◌, ◌+◌, ap, drop}
use Rattle.std.proofs.lemmas.List.{take_rest}
use Rattle.sb_core.specs.Layout.{next_align}
use Rattle.sb_layout.proofs.Rounding.{end_step, member_ends, spots_step}
use Rattle.sb_layout.proofs.spots.spots_from.Goals as goal

pub loop-i-preserved : goal.loop-i-preserved
loop-i-preserved c =
    let next : c.next_align-next.result ≡ next_align c.args.whole (drop (c.loop-i.i + 1) c.args.bases.now) = c.next_align-next.ensures.gives ∙ ap (next_align c.args.whole) (take_rest c.args.bases.now (c.loop-i.i + 1)) in
    let spots = spots_step c.args.whole c.loop-i.at c.args.bases.now c.loop-i.i (record { size = 0; align = 0 }) c.loop-i.spots.items c.spot_at.result c.next_align-next.result (omega arith) next c.spot_at.ensures in
    let end = end_step c.loop-i.at c.args.bases.now c.loop-i.i (record { size = 0; align = 0 }) (omega arith) in
    let past = member_ends c.loop-i.at c.args.bases.now c.loop-i.i (record { size = 0; align = 0 }) c.requires.small (omega arith) in (
      rw (c.in_ok-push.ensures.items, c.rounded.ensures.gives) (spots ∙ c.loop-i.invariant.0),
      rw c.rounded.ensures.gives (sym end ∙ c.loop-i.invariant.1),
      omega (arith, past, c.loop-i.invariant.1, c.rounded.ensures.gives),
    )
