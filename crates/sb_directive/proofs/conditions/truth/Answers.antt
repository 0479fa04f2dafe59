use Rattle.std.proofs.Common.{sym}
use Rattle.sb_directive.proofs.Truths.{refused, judged_whole}
use Rattle.sb_directive.proofs.conditions.truth.Goals as goal

pub returns-in-Some-clause-truth : goal.returns-in-Some-clause-truth
returns-in-Some-clause-truth c =
    let ended = rw c.deref.ensures.value at c.in-Ok-given.ensures.given in
    let among = rw c.deref.ensures.value at c.in-Ok-given.ensures.among in
    let is = rw (c.end_of.ensures.place, c.deref-2.ensures.value) at c.in-Some.ensures.refusal in
    let first = rw c.deref-in-Some.ensures.value at c.first_refusal.ensures.first in
    refused _ _ _ _ _ _ _ _ c.in-Ok.made.refusal c.in-Ok-given.given.end c.in-Some.refusal c.first_refusal.result c.in-Ok.ensures.prepared ended among (sym is) first

pub returns-clause-truth : goal.returns-clause-truth
returns-clause-truth c =
    let ended = rw c.deref.ensures.value at c.in-Ok-given.ensures.given in
    let among = rw c.deref.ensures.value at c.in-Ok-given.ensures.among in
    let is = rw (c.end_of.ensures.place, c.deref-2.ensures.value) at c.in-None.ensures.refusal in
    let good = rw c.deref-in-None.ensures.value at c.condition.ensures.holds in
    let bad = rw (c.deref-in-None.ensures.value, c.end_of-in-None.ensures.place) at c.condition.ensures.fault in
    judged_whole _ _ _ _ _ _ _ _ c.in-Ok.made.refusal c.in-Ok-given.given.end c.condition.result c.in-Ok.ensures.prepared ended among (sym is) good bad
