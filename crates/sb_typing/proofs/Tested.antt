-- A test that holds for each number below a bound, computed, holds for one of them.
use Rattle.std.proofs.Common.{◌≡◌, ℕ, zero, suc, ◌<◌, Bool, true, false, refl, arith, inl, inr, ap, ◌∙◌}
use Rattle.std.specs.Prelude.{◌&&◌, not, ◌⊎◌, if◌then◌else◌}

pub both : (a b : Bool) → a && b ≡ true → (a ≡ true) × (b ≡ true)
both true b h = (refl, h)
both false b h = absurd (cc)

pub implied : (a b : Bool) → (if not a then true else b) ≡ true → a ≡ true → b ≡ true
implied true b h e = h
implied false b h e = absurd (cc)

-- each number below a bound passes
abbrev pub below : (ℕ → Bool) → ℕ → Bool
below p zero = true
below p (suc n) = p n && below p n

last_or_before : (k n : ℕ) → k < suc n → (k ≡ n) ⊎ (k < n)
last_or_before k n h = grind arith

pub below_passes : (p : ℕ → Bool) (n k : ℕ) → below p n ≡ true → k < n → p k ≡ true
below_passes p zero k h l = absurd (omega arith)
below_passes p (suc n) k h l = elim (last_or_before k n l) as (λ _. p k ≡ true) [
  | inl same ↦ ap p same ∙ (both (p n) (below p n) h).0
  | inr less ↦ below_passes p n k (both (p n) (below p n) h).1 less
]

-- each pair of numbers below a bound passes
pub pairs_pass : (p : ℕ → ℕ → Bool) (n : ℕ) → below (λ a. below (p a) n) n ≡ true → (a b : ℕ) → a < n → b < n → p a b ≡ true
pairs_pass p n h a b l m = below_passes (p a) n b (below_passes (λ c. below (p c) n) n a h l) m
