use Rattle.std.proofs.Common.{◌≡◌, ◌+◌, length, take}
use Rattle.sb_base.proofs.Reading.{IsOnTheWay}
use Rattle.sb_base.proofs.host.read_on.Given as goal

-- what was there stays, what was read and the room left make the limit, and what is left comes next
abbrev pub invariant-loop-count : goal.invariant-loop-count
invariant-loop-count g l =
    (take (length l.initial.into.items) l.into.items ≡ l.initial.into.items) ×
    (length l.into.items + l.room ≡ length l.initial.into.items + l.limit) ×
    IsOnTheWay (g.F.Read.remaining l.initial.file) (g.F.Read.remaining l.file) l.initial.into.items l.into.items

abbrev pub decreases-loop-count : goal.decreases-loop-count
decreases-loop-count g l = l.room
