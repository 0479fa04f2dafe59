use Rattle.std.proofs.Common.{◌<◌, ◌≤◌, ◌+◌, ℕ, arith, length, take}
use Rattle.std.proofs.lemmas.List.{length-take, length-drop}
use Rattle.sb_base.proofs.Reading.{too_long, no_further, nothing_further}
use Rattle.sb_base.proofs.host.read_on.Goals as goal

pub returns-in_default-clause-no_further : goal.returns-in_default-clause-no_further
returns-in_default-clause-no_further g c =
    nothing_further _ _ _ _ _ c.loop-count.room c.args.limit c.loop-count.invariant.2 c.in_default.ensures.bytes c.loop-count.invariant.1

pub returns-then-count-room-clause-whole : goal.returns-then-count-room-clause-whole
returns-then-count-room-clause-whole g c =
    let more : c.loop-count.room < length (take c.in-Ok.count c.read.new.buf) = omega (arith, c.in-Ok.ensures.bound.1) in
    too_long _ _ _ _ _ _ c.loop-count.room c.args.limit c.loop-count.invariant.2 c.in-Ok.ensures.bytes.0 more c.loop-count.invariant.1

pub returns-then-count-room-clause-no_further : goal.returns-then-count-room-clause-no_further
returns-then-count-room-clause-no_further g c =
    let most : length (take c.in-Ok.count c.read.new.buf) ≤ c.loop-count.room + 1 = omega (arith, c.in-Ok.ensures.bound.0, c.in-Ok.ensures.bound.1, c.read.auto.buf, length-take {A = ℕ}, length-drop {A = ℕ}) in
    no_further _ _ _ _ _ _ c.loop-count.room c.args.limit c.loop-count.invariant.2 c.in-Ok.ensures.bytes.0 most c.loop-count.invariant.1

pub returns-in_err-extend_from_slice-clause-no_further : goal.returns-in_err-extend_from_slice-clause-no_further
returns-in_err-extend_from_slice-clause-no_further g c =
    let most : length (take c.in-Ok.count c.read.new.buf) ≤ c.loop-count.room + 1 = omega (arith, c.in-Ok.ensures.bound.1) in
    no_further _ _ _ _ _ _ c.loop-count.room c.args.limit c.loop-count.invariant.2 c.in-Ok.ensures.bytes.0 most c.loop-count.invariant.1
