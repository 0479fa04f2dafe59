use Rattle.std.proofs.Common.{◌<◌, arith}
use Rattle.sb_lexicon.specs.Meaning.{meant}
use Rattle.sb_sal.proofs.Depths.{one_note, no_notes}
use Rattle.sb_sal.proofs.nested.+annotation.Goals as goal

pub note_within-returns-clause-read : goal.note_within-returns-clause-read
note_within-returns-clause-read t c =
    let some : 0 < c.args.left = omega (arith, c.if-left-eq0.false) in
    rw (one_note (meant c.args.lexicon.now) c.args.bearer c.args.left c.args.tokens.now some) c.annotation.ensures.read

pub note_within-returns-then-left-eq0-clause-read : goal.note_within-returns-then-left-eq0-clause-read
note_within-returns-then-left-eq0-clause-read t c = rw (no_notes (meant c.args.lexicon.now) c.args.bearer c.args.left c.args.tokens.now c.if-left-eq0.true) c.no_room.ensures

pub arguments_by-returns-in-GuardedNote-clause-read : goal.arguments_by-returns-in-GuardedNote-clause-read
arguments_by-returns-in-GuardedNote-clause-read t c = rw c.in-GuardedNote.is c.guarded.ensures.read

pub arguments_by-returns-in-LocatedNote-clause-read : goal.arguments_by-returns-in-LocatedNote-clause-read
arguments_by-returns-in-LocatedNote-clause-read t c = rw c.in-LocatedNote.is c.located.ensures.read
