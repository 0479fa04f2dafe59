use Rattle.std.proofs.Common.{◌≡◌, ◌++◌, drop}
use Rattle.sb_top.specs.Texts as text
use Rattle.sb_top.proofs.texts.append_assignment.Given as goal

abbrev pub invariant-loop-entry : goal.invariant-loop-entry
invariant-loop-entry l =
    l.out.items ++ text.assignment_rest l.names.texts l.labels (drop l.entry-index l.more) ≡ l.initial.out.items ++ text.assignment_rest l.names.texts l.labels l.more
