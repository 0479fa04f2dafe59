use Rattle.std.proofs.Common.{codes}
use Rattle.sb_top.proofs.Appending.{extended, extended_thrice}
use Rattle.sb_top.proofs.texts.append_reason.Goals as goal

pub returns-in_ok-append_assignment-in-Refuted : goal.returns-in_ok-append_assignment-in-Refuted
returns-in_ok-append_assignment-in-Refuted c =
    let last = extended c.extend_from_slice-in-Refuted.result c.append_assignment.new.out.items c.extend_from_slice-in-Refuted.new.self.items (codes "\n") c.extend_from_slice-in-Refuted.ensures.items in
    rw (c.in-Refuted.is, ← c.as_slice.ensures) (extended_thrice c.extend_from_slice-in-Refuted.result c.args.out.now.items c.extend_from_slice.new.self.items c.append_assignment.new.out.items c.extend_from_slice-in-Refuted.new.self.items
    _ _ (codes "\n") c.in_ok-extend_from_slice-in-Refuted.ensures.items c.in_ok-append_assignment-in-Refuted.ensures last)

pub returns-in-LimitRows : goal.returns-in-LimitRows
returns-in-LimitRows c =
    rw c.in-LimitRows.is (extended c.extend_from_slice-in-LimitRows.result c.args.out.now.items c.extend_from_slice-in-LimitRows.new.self.items (codes "  limit: rows\n") c.extend_from_slice-in-LimitRows.ensures.items)
