use Rattle.std.proofs.Common.{◌≡◌, ◌↔◌, IsTrue}
use lib.Pointwise.{pointwise_decides}
use Rattle.sb_term.proofs.Kept.{entries_decide}
use Rattle.sb_term.proofs.SameList.{is_same_list-decided}
use Rattle.sb_term.proofs.term.same_entries.Goals as goal

pub returns : goal.returns
returns c =
    let xs = c.args.xs.now in
    let ys = c.args.ys.now in
    let equal : IsTrue c.eq.result ↔ (xs ≡ ys) = rw c.eq.ensures (pointwise_decides entries_decide xs ys) in
    record { equal = equal; value = is_same_list-decided xs ys c.eq.result equal }
