use Rattle.std.proofs.Common.{sym, ◌∙◌}
use Rattle.std.proofs.lemmas.Result.{err_from_is_err_and}
use Rattle.sb_prep.proofs.Parts.{skips, gives, stops}
use Rattle.sb_prep.proofs.units.text.Goals as goal

pub returns-then-not-is_read-clause-read : goal.returns-then-not-is_read-clause-read
returns-then-not-is_read-clause-read c = λ held depth file.
    skips held depth file c.args.branches.now c.args.state.now c.args.pieces.now c.args.size c.requires.front c.requires.text c.requires.room c.count.new.self (sym c.is_read.ensures.read ∙ c.if-not-is_read.true) c.count.ensures.counted

pub returns-in_err-give-clause-read : goal.returns-in_err-give-clause-read
returns-in_err-give-clause-read c = λ held depth file.
    let p = err_from_is_err_and c.from_residual.result c.from_residual.ensures.1 in
    rw (p.1, p.2) (stops held depth file c.args.branches.now c.args.state.now c.args.pieces.now c.args.size c.requires.front c.requires.text c.requires.room _ c.give.new.self
    (sym c.is_read.ensures.read ∙ c.if-not-is_read.false) c.requires.held c.in_err-give.ensures.err c.in_err-give.ensures.given)

pub returns-clause-read : goal.returns-clause-read
returns-clause-read c = λ held depth file.
    gives held depth file c.args.branches.now c.args.state.now c.args.pieces.now c.args.size c.requires.front c.requires.text c.requires.room c.give.new.self c.count-2.new.self
    (sym c.is_read.ensures.read ∙ c.if-not-is_read.false) c.in_ok-give.ensures.given c.count-2.ensures.counted
