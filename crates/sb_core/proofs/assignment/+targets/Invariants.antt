-- What the loops over lists keep: the locals of the parts so far stand behind those that were there.
use Rattle.std.proofs.Common.{◌≡◌, ◌++◌, take}
use Rattle.sb_core.specs.Assigned.{targets_in, targets_behind}
use Rattle.sb_core.specs.Plain.{plain_statements, plain_sections, statement_list, section_list}
use Rattle.sb_core.proofs.assignment.+targets.Given as goal

abbrev pub invariant-push_targets_in-loop-statement : goal.invariant-push_targets_in-loop-statement
invariant-push_targets_in-loop-statement l = l.found.items ≡ l.fn.found.items ++ targets_in (statement_list (plain_statements (take l.statement-index l.list)))

abbrev pub invariant-push_targets_behind-loop-section : goal.invariant-push_targets_behind-loop-section
invariant-push_targets_behind-loop-section l = l.found.items ≡ l.fn.found.items ++ targets_behind (section_list (plain_sections (take l.section-index l.list)))
