use Rattle.std.proofs.Common.{ap}
use Rattle.sb_directive.specs.Sources.{source_by_text}
use Rattle.sb_prep.proofs.including.content.Goals as goal

pub returns-in_ok-from_slice-in-Some-clause-within : goal.returns-in_ok-from_slice-in-Some-clause-within
returns-in_ok-from_slice-in-Some-clause-within g c = rw (c.in_ok-from_slice-in-Some.ensures.items, c.deref.ensures.value) (c.requires.short c.args.source.now.name.items c.in-Some.text.items (ap (source_by_text c.args.source.now.name.items) c.in-Some.is))
