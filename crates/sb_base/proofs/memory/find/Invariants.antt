use Rattle.std.proofs.Common.{◌≡◌, drop}
use Rattle.sb_base.specs.Memory.{contents, held_in}
use Rattle.sb_base.proofs.memory.find.Given as goal

-- none of the files before has the name
abbrev pub invariant-loop-held : goal.invariant-loop-held
invariant-loop-held l = held_in (contents (drop l.held-index l.files)) l.name ≡ held_in (contents l.files) l.name
