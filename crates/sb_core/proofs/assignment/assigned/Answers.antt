-- Sorted and without doubles, the locals that were found are those that are assigned.
use Rattle.std.specs.Prelude.{◌≡◌, ℕ, List}
use Rattle.std.specs.List.{Contains, dedup}
use Rattle.std.proofs.Math.Dec.{eqb}
use Rattle.std.proofs.Common.{refl, sym, subst}
use Rattle.std.proofs.lemmas.List.Filters.{dedup_is}
use Rattle.sb_core.specs.Assigned.{targets}
use Rattle.sb_core.specs.Plain.{plain_statement}
use Rattle.sb_core.proofs.Sorting.{rising, stays, was_there}
use Rattle.sb_core.proofs.assignment.assigned.Goals as goal

pub returns : goal.returns
returns c =
    let found : List ℕ = c.push_targets.new.found.items in
    let sorted : List ℕ = c.sort_unstable.new.self.items in
    let kept : List ℕ = c.dedup.new.self.items in
    let is : kept ≡ dedup eqb sorted = dedup_is eqb sorted kept c.dedup.ensures.filtered in
    let all : found ≡ targets (plain_statement c.args.body.now) = rw c.in_ok-push_targets.ensures (rw c.new-locals.ensures.items refl) in
    record {
      assigned = (
        rising found sorted kept c.sort_unstable.ensures.permutation is c.sort_unstable.ensures.sorted,
        λ x h. stays found sorted kept c.sort_unstable.ensures.permutation is x (subst (λ l. Contains l x) (sym all) h),
        λ x h. subst (λ l. Contains l x) all (was_there found sorted kept c.sort_unstable.ensures.permutation is x h),
      );
    }
