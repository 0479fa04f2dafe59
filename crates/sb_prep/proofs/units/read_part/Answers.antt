use Rattle.std.proofs.Common.{sym, ◌∙◌}
use Rattle.std.proofs.lemmas.Result.{err_from_is_err_and}
use Rattle.sb_prep.specs.Unit.{IsFront}
use Rattle.sb_prep.proofs.Parts.{late_part, directive_read, directive_refused, beyond, fits}
use Rattle.sb_prep.proofs.units.read_part.Goals as goal
use Rattle.sb_prep.proofs.units.read_part.Goals.{After-unread-unread}

front : (g : _) (c : After-unread-unread g) → IsFront c.args.state.now.at c.args.pieces.now c.part_size-size.result
front g c = record { some = c.part_size-size.ensures.some c.requires.some; size_is = c.part_size-size.ensures.size }

pub returns-then-size-unread-clause-part : goal.returns-then-size-unread-clause-part
returns-then-size-unread-clause-part g c =
    let here = front g (goal.at.returns-then-size-unread-clause-part g c).After-unread-unread in
    rw c.into.ensures (late_part (g.L.Library.held c.args.lib.now) c.args.here.depth c.args.here.file c.args.branches.now c.args.state.now c.args.pieces.now c.part_size-size.result here c.overflow.result c.overflow.new.state
    (c.overflow.ensures.refused (g.L.Library.held c.args.lib.now) c.args.here.depth c.args.here.file c.part_size-size.result here
    (beyond c.args.state.now.at.read c.part_size-size.result c.unread-unread.result c.unread-unread.ensures.unread c.unread-unread.ensures.within c.if-size-unread.true)))

pub returns-in_err-inner-clause-part : goal.returns-in_err-inner-clause-part
returns-in_err-inner-clause-part g c =
    let here = front g (goal.at.returns-in_err-inner-clause-part g c).After-unread-unread in
    let p = err_from_is_err_and c.from_residual.result c.from_residual.ensures.1 in
    rw (p.1, p.2) (directive_refused (g.L.Library.held c.args.lib.now) c.args.here.depth c.args.here.file c.args.branches.now c.args.state.now c.args.pieces.now c.part_size-size.result here
    (sym c.begins_directive.ensures.begins ∙ c.if-begins_directive.true)
    (fits c.args.state.now.at.read c.part_size-size.result c.unread-unread.result c.unread-unread.ensures.unread c.unread-unread.ensures.within c.if-size-unread.false)
    _ c.directive.new.state (rw c.count.ensures.counted at c.in_err-inner.ensures.directive))

pub returns-then-begins_directive-clause-part : goal.returns-then-begins_directive-clause-part
returns-then-begins_directive-clause-part g c =
    let here = front g (goal.at.returns-then-begins_directive-clause-part g c).After-unread-unread in
    directive_read (g.L.Library.held c.args.lib.now) c.args.here.depth c.args.here.file c.args.branches.now c.args.state.now c.args.pieces.now c.part_size-size.result here
    (sym c.begins_directive.ensures.begins ∙ c.if-begins_directive.true)
    (fits c.args.state.now.at.read c.part_size-size.result c.unread-unread.result c.unread-unread.ensures.unread c.unread-unread.ensures.within c.if-size-unread.false)
    c.directive.new.branches c.directive.new.state c.in_ok-inner.inner (rw c.count.ensures.counted at c.directive.ensures.moved) (rw c.count.ensures.counted at c.in_ok-inner.ensures.directive)

pub returns-in_err-text-clause-part : goal.returns-in_err-text-clause-part
returns-in_err-text-clause-part g c =
    let here = front g (goal.at.returns-in_err-text-clause-part g c).After-unread-unread in
    let p = err_from_is_err_and c.from_residual-in_err-text.result c.from_residual-in_err-text.ensures.1 in
    rw (p.1, p.2) (late_part (g.L.Library.held c.args.lib.now) c.args.here.depth c.args.here.file c.args.branches.now c.args.state.now c.args.pieces.now c.part_size-size.result here _ c.text.new.state
    (c.in_err-text.ensures.read (g.L.Library.held c.args.lib.now) c.args.here.depth c.args.here.file))
