-- A block has the locals of its sections, and a section those of its list; one more turn of a loop adds those of one part.
use Rattle.std.proofs.Common.{ℕ, List, ◌++◌, take, ap, refl, sym, ◌∙◌, arith, append_assoc}
use Rattle.std.proofs.lemmas.List.{append-nil}
use Rattle.sb_core.specs.declared.statement.CoreStmt.{CoreStmt}
use Rattle.sb_core.specs.declared.statement.Section.{Section}
use Rattle.sb_core.specs.Assigned.{targets, targets_in, targets_behind, targets_of}
use Rattle.sb_core.specs.Plain.{plain_statement, plain_statements, plain_section, plain_sections, statement_list, section_list}
use Rattle.sb_core.proofs.Gathering.{with_one}
use Rattle.sb_core.proofs.Nodes.{plain_block, plain_section_is}
use Rattle.sb_core.proofs.assignment.+targets.Goals as goal

abbrev gathered : CoreStmt → List ℕ
gathered s = targets (plain_statement s)

abbrev gathered_in : List CoreStmt → List ℕ
gathered_in list = targets_in (statement_list (plain_statements list))

abbrev gathered_of : Section → List ℕ
gathered_of s = targets_of (plain_section s)

abbrev gathered_behind : List Section → List ℕ
gathered_behind list = targets_behind (section_list (plain_sections list))

pub push_targets-returns-in-Block : goal.push_targets-returns-in-Block
unfolding targets
push_targets-returns-in-Block t c = rw (c.in-Block.is, plain_block c.in-Block.locals c.in-Block.sections, ← c.deref-in-Block.ensures.value) c.push_targets_behind.ensures

pub push_targets_of-returns : goal.push_targets_of-returns
unfolding targets_of
push_targets_of-returns t c = rw (plain_section_is c.args.section.now, ← c.deref.ensures.value) c.push_targets_in.ensures

pub push_targets_in-loop-statement-init : goal.push_targets_in-loop-statement-init
unfolding targets_in
push_targets_in-loop-statement-init t c = sym (append-nil c.args.found.now.items)

pub push_targets_behind-loop-section-init : goal.push_targets_behind-loop-section-init
unfolding targets_behind
push_targets_behind-loop-section-init t c = sym (append-nil c.args.found.now.items)

pub push_targets_in-loop-statement-preserved : goal.push_targets_in-loop-statement-preserved
unfolding targets_in
push_targets_in-loop-statement-preserved t c =
    c.in_ok-push_targets.ensures ∙ (ap (λ l. l ++ gathered c.statement-item.result) c.loop-statement.invariant
    ∙ (append_assoc c.args.found.now.items (gathered_in (take c.loop-statement.statement-index c.args.list.now)) (gathered c.statement-item.result)
    ∙ ap (λ l. c.args.found.now.items ++ l) (sym (with_one gathered_in gathered refl (λ _ _. refl) c.args.list.now c.loop-statement.statement-index c.statement-item.result (omega arith) c.statement-item.is))))

pub push_targets_behind-loop-section-preserved : goal.push_targets_behind-loop-section-preserved
unfolding targets_behind
push_targets_behind-loop-section-preserved t c =
    c.in_ok-push_targets_of.ensures ∙ (ap (λ l. l ++ gathered_of c.section-item.result) c.loop-section.invariant
    ∙ (append_assoc c.args.found.now.items (gathered_behind (take c.loop-section.section-index c.args.list.now)) (gathered_of c.section-item.result)
    ∙ ap (λ l. c.args.found.now.items ++ l) (sym (with_one gathered_behind gathered_of refl (λ _ _. refl) c.args.list.now c.loop-section.section-index c.section-item.result (omega arith) c.section-item.is))))
