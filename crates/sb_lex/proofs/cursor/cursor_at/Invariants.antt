use Rattle.std.proofs.Common.{◌≡◌, length}
use Rattle.sb_lex.specs.Splicing.{spliced}
use Rattle.sb_lex.specs.Cursors.{IsNear}
use Rattle.sb_lex.proofs.cursor.cursor_at.Given as goal

abbrev pub invariant-joints : goal.invariant-joints
invariant-joints l = record {
  same : spliced l.line l.col l.rest ≡ spliced l.initial.line l.initial.col l.bytes;
  near : IsNear l.line l.col l.rest;
}

abbrev pub decreases-joints : goal.decreases-joints
decreases-joints l = length l.rest
