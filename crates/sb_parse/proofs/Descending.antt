-- Readers by descent: that of depth n after k turns is that of depth n - k.
use Rattle.std.proofs.Common.{◌≡◌, ℕ, zero, suc, ◌-◌, refl, ap, ◌∙◌, arith}
use Rattle.sb_parse.specs.Descent.{descent}

pub descent_from : {P : Type 0} (bottom : P) (step : ℕ → (ℕ → P) → P) (n k : ℕ) → descent bottom step n k ≡ descent bottom step (n - k) 0
unfolding descent
descent_from bottom step zero k = let none : 0 ≡ 0 - k = omega arith in ap (λ m. descent bottom step m 0) none
descent_from bottom step (suc n) zero = let all : suc n ≡ suc n - 0 = omega arith in ap (λ m. descent bottom step m 0) all
descent_from bottom step (suc n) (suc k) = let same : n - k ≡ suc n - suc k = omega arith in descent_from bottom step n k ∙ ap (λ m. descent bottom step m 0) same

pub descent_step : {P : Type 0} (bottom : P) (step : ℕ → (ℕ → P) → P) (n : ℕ) → descent bottom step (suc n) 0 ≡ step n (descent bottom step n)
unfolding descent
descent_step bottom step n = refl

pub descent_bottom : {P : Type 0} (bottom : P) (step : ℕ → (ℕ → P) → P) → descent bottom step 0 0 ≡ bottom
unfolding descent
descent_bottom bottom step = refl
