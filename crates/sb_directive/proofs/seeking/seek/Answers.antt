use Rattle.std.proofs.Common.{◌∙◌, sym}
use Rattle.sb_directive.specs.Sources.{beginning_seen}
use Rattle.sb_directive.proofs.Sought.{stands, replaced}
use Rattle.sb_directive.proofs.seeking.seek.Goals as goal

pub returns-then-is_header : goal.returns-then-is_header
returns-then-is_header c = record {
  sought = stands c.args.names.now.texts c.args.rules.now c.args.behind.now _ (beginning_seen c.in-Ok.begins) c.sought_in.result c.requires.some (sym c.is_header.ensures.header ∙ c.if-is_header.true)
      c.in-Ok.ensures.beginning c.sought_in.ensures.sought;
}

pub returns : goal.returns
returns c =
    record {
      sought = replaced c.args.names.now.texts c.args.rules.now c.args.behind.now c.in-Ok-given.given.pieces.items c.in-Ok-given.given.end _ (beginning_seen c.in-Ok-beginning_of.begins) c.sought_by.result
          c.requires.some (sym c.is_header.ensures.header ∙ c.if-is_header.false) c.in-Ok-given.ensures.given c.in-Ok-given.ensures.among.0 c.in-Ok-given.ensures.among.1
          (rw c.as_slice.ensures.value at c.in-Ok-beginning_of.ensures.beginning) (rw c.end_of.ensures.place at c.sought_by.ensures.sought);
    }
