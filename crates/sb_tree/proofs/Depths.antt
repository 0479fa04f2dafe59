-- Lists whose depth is the greatest of their items': each item's is within it, and one more item adds its own.
use Rattle.std.specs.Prelude.{ℕ, ◌+◌, ◌≡◌, ◌<◌, ◌≤◌, max, List, [], ◌∷◌, take, length, get_or}
use Rattle.std.proofs.Common.{ap, arith, sym, ◌∙◌, add-one}
use Rattle.std.proofs.Math.Seq.{take-suc}
use Rattle.std.proofs.lemmas.List.Recursion.{max_bounds, max_push}

module _ {A : Type 0} (whole : List A → ℕ) (one : A → ℕ) (none : whole [] ≡ 0) (more : (x : A) (xs : List A) → whole (x ∷ xs) ≡ max (one x) (whole xs)) where
  pub one_within : (xs : List A) (k : ℕ) (x : A) → k < length xs → x ≡ get_or xs k x → one x ≤ whole xs
  one_within xs k x within here = let same : one x ≡ one (get_or xs k x) = ap one here in omega (arith, same, max_bounds whole one none more xs k x within)

  pub with_one : (xs : List A) (k : ℕ) (x : A) → k < length xs → x ≡ get_or xs k x → whole (take (k + 1) xs) ≡ max (whole (take k xs)) (one x)
  with_one xs k x within here =
      ap (λ n. whole (take n xs)) (add-one k) ∙ ap whole (take-suc xs k x within) ∙ max_push whole one none more (take k xs) (get_or xs k x) ∙ ap (λ y. max (whole (take k xs)) (one y)) (sym here)
