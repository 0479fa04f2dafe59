-- Numbers that are sorted, with one of equal neighbours each, are those that were there, rising.
use Rattle.std.specs.Prelude.{◌≡◌, ℕ, List}
use Rattle.std.specs.List.{Contains, dedup}
use Rattle.std.specs.List.Sorted.{IsPermutation, IsSorted, IsStrictlyIncreasing}
use Rattle.std.specs.Ordering.{nat_cmp}
use Rattle.std.proofs.Math.Dec.{eqb}
use Rattle.std.proofs.Common.{sym, subst}
use Rattle.std.proofs.lemmas.List.Kept.{Contains-dedup_nat, Contains-from_dedup}
use Rattle.std.proofs.lemmas.List.Sorted.{Contains-permutation, IsPermutation-sym}
use Rattle.std.proofs.lemmas.Map.Keys.{IsStrictlyIncreasing-dedup}

module _ (found sorted kept : List ℕ) (moved : IsPermutation found sorted) (is : kept ≡ dedup eqb sorted) where
  pub rising : IsSorted nat_cmp sorted → IsStrictlyIncreasing kept
  rising orders = subst IsStrictlyIncreasing (sym is) (IsStrictlyIncreasing-dedup sorted orders)

  pub stays : (x : ℕ) → Contains found x → Contains kept x
  stays x h = subst (λ l. Contains l x) (sym is) (Contains-dedup_nat sorted x (Contains-permutation found sorted x moved h))

  pub was_there : (x : ℕ) → Contains kept x → Contains found x
  was_there x h = Contains-permutation sorted found x (IsPermutation-sym found sorted moved) (Contains-from_dedup eqb sorted x (subst (λ l. Contains l x) is h))
