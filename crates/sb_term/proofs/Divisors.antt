-- greatest common divisors: Euclid's algorithm gives them, and his lemma
use Rattle.std.proofs.Common.{◌≡◌, ℕ, zero, suc, ◌+◌, ◌*◌, ◌/◌, ◌%◌, ◌<◌, ◌≤◌, refl, sym, ap, subst, ◌∙◌, arith}
use Rattle.std.proofs.Math.Nat.{eq-zero_of_zero-dvd, eq_of_mul-eq-mul_left, dvd-mul_left, dvd_trans, dvd-zero, eq-one_of_dvd-one, mul-add-mod_self_left, mod-eq_of_lt, mul-le-mul_left, mul-lt-mul_of_pos_left, mul-div_cancel', mul-div_cancel_left}
use Rattle.std.proofs.lemmas.Nat.Gcd.{IsGcd-from_zero, IsGcd-from_mod}
use Rattle.std.specs.Int.{IsGcd, ◌∣◌}
use Rattle.sb_term.specs.Ratio.{gcd_within, gcd}

gcd_within-step : (n x y : ℕ) → 0 < y → gcd_within (suc n) x y ≡ gcd_within n y (x % y)
gcd_within-step n x zero h = absurd (omega arith)
gcd_within-step n x (suc y) h = refl

-- more turns than b change nothing
gcd_within-fuel : (n m a b : ℕ) → b < n → b < m → gcd_within n a b ≡ gcd_within m a b
gcd_within-fuel zero m a b h k = absurd (omega arith)
gcd_within-fuel (suc n) zero a b h k = absurd (omega arith)
gcd_within-fuel (suc n) (suc m) a zero h k = refl
gcd_within-fuel (suc n) (suc m) a (suc b) h k =
    let r : a % suc b < suc b = omega arith in
    gcd_within-fuel n m (suc b) (a % suc b) (omega arith) (omega arith)

pub gcd-step : (a b : ℕ) → 0 < b → gcd a b ≡ gcd b (a % b)
gcd-step a b h =
    let r : a % b < b = omega arith in
    gcd_within-step b a b h ∙ gcd_within-fuel b (suc (a % b)) b (a % b) (omega arith) (omega arith)

IsGcd-gcd_within : (n a b : ℕ) → b < n → IsGcd a b (gcd_within n a b)
IsGcd-gcd_within zero a b h = absurd (omega arith)
IsGcd-gcd_within (suc n) a zero h = IsGcd-from_zero a 0 refl
IsGcd-gcd_within (suc n) a (suc b) h =
    let r : a % suc b < suc b = omega arith in
    IsGcd-from_mod a (suc b) (gcd_within n (suc b) (a % suc b)) (IsGcd-gcd_within n (suc b) (a % suc b) (omega arith))

pub IsGcd-gcd : (a b : ℕ) → IsGcd a b (gcd a b)
IsGcd-gcd a b = IsGcd-gcd_within (suc b) a b (omega arith)

mod-mul : (c a b : ℕ) → 0 < c → 0 < b → (c * a) % (c * b) ≡ c * (a % b)
mod-mul c a b hc hb =
    let split : b * (a / b) + a % b ≡ a = omega arith in
    let whole : c * a ≡ (c * b) * (a / b) + c * (a % b) = omega (arith, ap (λ n. c * n) split) in
    let less : a % b < b = omega arith in
    ap (λ n. n % (c * b)) whole
    ∙ mul-add-mod_self_left (c * b) (a / b) (c * (a % b))
    ∙ mod-eq_of_lt (mul-lt-mul_of_pos_left less hc)

gcd_within-mul : (c n a b : ℕ) → 0 < c → gcd_within n (c * a) (c * b) ≡ c * gcd_within n a b
gcd_within-mul c zero a b h = refl
gcd_within-mul c (suc n) a zero h = let e : c * 0 ≡ 0 = omega arith in ap (gcd_within (suc n) (c * a)) e
gcd_within-mul c (suc n) a (suc b) h =
    let some : 0 < c * suc b = omega (arith, mul-le-mul_left c (let k : 1 ≤ suc b = omega arith in k)) in
    gcd_within-step n (c * a) (c * suc b) some
    ∙ ap (gcd_within n (c * suc b)) (mod-mul c a (suc b) h (omega arith))
    ∙ gcd_within-mul c n (suc b) (a % suc b) h

pub gcd-mul : (c a b : ℕ) → 0 < c → gcd (c * a) (c * b) ≡ c * gcd a b
gcd-mul c a b h =
    let le : b ≤ c * b = omega (arith, mul-le-mul_left b h) in
    gcd_within-mul c (suc (c * b)) a b h ∙ ap (λ n. c * n) (gcd_within-fuel (suc (c * b)) (suc b) a b (omega arith) (omega arith))

-- Euclid's lemma
pub dvd_of_coprime : (a b c : ℕ) → gcd a b ≡ 1 → a ∣ (c * b) → a ∣ c
dvd_of_coprime a b zero e d = dvd-zero a
dvd_of_coprime a b (suc c) e d =
    let P : ℕ → Type 0 = λ n. a ∣ n in
    let g : gcd (suc c * a) (suc c * b) ≡ suc c = omega (arith, gcd-mul (suc c) a b (omega arith), ap (λ n. suc c * n) e) in
    subst P g ((IsGcd-gcd (suc c * a) (suc c * b)).2 a (dvd-mul_left a (suc c)) d)

-- a common divisor of two numbers without one is 1
one_alone : (d x y : ℕ) → gcd x y ≡ 1 → d ∣ x → d ∣ y → d ≡ 1
one_alone d x y e p q =
    let P : ℕ → Type 0 = λ n. d ∣ n in
    eq-one_of_dvd-one (subst P e ((IsGcd-gcd x y).2 d p q))

pub coprime_parts : (x y u v : ℕ) → gcd x y ≡ 1 → u ∣ x → v ∣ y → gcd u v ≡ 1
coprime_parts x y u v e p q =
    let g = IsGcd-gcd u v in
    one_alone (gcd u v) x y e (dvd_trans (gcd u v) g.0 p) (dvd_trans (gcd u v) g.1 q)

pub coprime-swap : (x y : ℕ) → gcd x y ≡ 1 → gcd y x ≡ 1
coprime-swap x y e = let g = IsGcd-gcd y x in one_alone (gcd y x) x y e g.1 g.0

pub coprime-mul : (x y b : ℕ) → gcd x b ≡ 1 → gcd y b ≡ 1 → gcd (x * y) b ≡ 1
coprime-mul x y b ex ey =
    let g = IsGcd-gcd (x * y) b in
    let h = IsGcd-gcd (gcd (x * y) b) x in
    let apart : gcd (gcd (x * y) b) x ≡ 1 =
    one_alone (gcd (gcd (x * y) b) x) x b ex h.1 (dvd_trans (gcd (gcd (x * y) b) x) h.0 g.1) in
    let P : ℕ → Type 0 = λ n. gcd (x * y) b ∣ n in
    let swapped : x * y ≡ y * x = omega arith in
    one_alone (gcd (x * y) b) y b ey (dvd_of_coprime (gcd (x * y) b) x y apart (subst P swapped g.0)) g.1

pub gcd_positive : (a b : ℕ) → 0 < b → 0 < gcd a b
gcd_positive a b h = by (gcd a b) (IsGcd-gcd a b).1
  where
    by : (g : ℕ) → g ∣ b → 0 < g
    by zero d = absurd (let e = eq-zero_of_zero-dvd d in omega arith)
    by (suc g) d = omega arith

pub quotient_positive : (g n : ℕ) → 0 < n → g ∣ n → 0 < n / g
quotient_positive g n h d = by (n / g) (mul-div_cancel' g d)
  where
    by : (q : ℕ) → g * q ≡ n → 0 < q
    by zero e = absurd (omega arith)
    by (suc q) e = omega arith

-- what is left of two numbers when their greatest common divisor is taken out
pub gcd-reduced : (a b : ℕ) → 0 < b → gcd (a / gcd a b) (b / gcd a b) ≡ 1
gcd-reduced a b h =
    let g = IsGcd-gcd a b in
    let some = gcd_positive a b h in
    let ea = mul-div_cancel' (gcd a b) g.0 in
    let eb = mul-div_cancel' (gcd a b) g.1 in
    let m = gcd-mul (gcd a b) (a / gcd a b) (b / gcd a b) some in
    let e : gcd a b * gcd (a / gcd a b) (b / gcd a b) ≡ gcd a b * 1 = sym m ∙ ap (λ n. gcd n (gcd a b * (b / gcd a b))) ea ∙ ap (gcd a) eb ∙ (omega arith) in
    eq_of_mul-eq-mul_left (gcd a b) some (gcd (a / gcd a b) (b / gcd a b)) 1 e

dvd_by_quotient : (g n : ℕ) → g ∣ n → (n / g) ∣ n
dvd_by_quotient g n d = let P : ℕ → Type 0 = λ m. (n / g) ∣ m in subst P (mul-div_cancel' g d) (dvd-mul_left (n / g) g)

-- a product of two fractions in lowest terms, cancelled crosswise, is in lowest terms
module _ (a b c d : ℕ) (hb : 0 < b) (hd : 0 < d) (ab : gcd a b ≡ 1) (cd : gcd c d ≡ 1) where
  pub cross_coprime : gcd ((a / gcd a d) * (c / gcd c b)) ((b / gcd c b) * (d / gcd a d)) ≡ 1
  cross_coprime =
      let g = IsGcd-gcd a d in
      let h = IsGcd-gcd c b in
      let a' = a / gcd a d in
      let d' = d / gcd a d in
      let c' = c / gcd c b in
      let b' = b / gcd c b in
      let a'd' : gcd a' d' ≡ 1 = gcd-reduced a d hd in
      let c'b' : gcd c' b' ≡ 1 = gcd-reduced c b hb in
      let a'b' : gcd a' b' ≡ 1 = coprime_parts a b a' b' ab (dvd_by_quotient (gcd a d) a g.0) (dvd_by_quotient (gcd c b) b h.1) in
      let c'd' : gcd c' d' ≡ 1 = coprime_parts c d c' d' cd (dvd_by_quotient (gcd c b) c h.0) (dvd_by_quotient (gcd a d) d g.1) in
      let bottom : (x : ℕ) → gcd x b' ≡ 1 → gcd x d' ≡ 1 → gcd x (b' * d') ≡ 1 =
      λ (x : ℕ) (p : gcd x b' ≡ 1) (q : gcd x d' ≡ 1). coprime-swap (b' * d') x (coprime-mul b' d' x (coprime-swap x b' p) (coprime-swap x d' q)) in
      coprime-mul a' c' (b' * d') (bottom a' a'b' a'd') (bottom c' c'b' c'd')

  taken_out : ℕ
  taken_out = gcd a d * gcd c b

  top_is : a * c ≡ taken_out * ((a / gcd a d) * (c / gcd c b))
  unfolding taken_out
  top_is =
      let ea = mul-div_cancel' (gcd a d) (IsGcd-gcd a d).0 in
      let ec = mul-div_cancel' (gcd c b) (IsGcd-gcd c b).0 in
      ap (λ n. n * c) (sym ea) ∙ ap (λ n. gcd a d * (a / gcd a d) * n) (sym ec) ∙ (omega arith)

  bottom_is : b * d ≡ taken_out * ((b / gcd c b) * (d / gcd a d))
  unfolding taken_out
  bottom_is =
      let eb = mul-div_cancel' (gcd c b) (IsGcd-gcd c b).1 in
      let ed = mul-div_cancel' (gcd a d) (IsGcd-gcd a d).1 in
      ap (λ n. n * d) (sym eb) ∙ ap (λ n. gcd c b * (b / gcd c b) * n) (sym ed) ∙ (omega arith)

  some_taken : 0 < taken_out
  unfolding taken_out
  some_taken = let g = gcd_positive a d hd in let h = gcd_positive c b hb in omega (arith, mul-le-mul_left (gcd a d) h)

  gcd-product : gcd (a * c) (b * d) ≡ taken_out
  gcd-product =
      ap (λ n. gcd n (b * d)) top_is
      ∙ ap (gcd (taken_out * ((a / gcd a d) * (c / gcd c b)))) bottom_is
      ∙ gcd-mul taken_out ((a / gcd a d) * (c / gcd c b)) ((b / gcd c b) * (d / gcd a d)) some_taken
      ∙ ap (λ n. taken_out * n) cross_coprime
      ∙ (omega arith)

  pub cross_top : (a * c) / gcd (a * c) (b * d) ≡ (a / gcd a d) * (c / gcd c b)
  cross_top =
      ap (λ n. (a * c) / n) gcd-product
      ∙ ap (λ n. n / taken_out) top_is
      ∙ mul-div_cancel_left ((a / gcd a d) * (c / gcd c b)) some_taken

  pub cross_bottom : (b * d) / gcd (a * c) (b * d) ≡ (b / gcd c b) * (d / gcd a d)
  cross_bottom =
      ap (λ n. (b * d) / n) gcd-product
      ∙ ap (λ n. n / taken_out) bottom_is
      ∙ mul-div_cancel_left ((b / gcd c b) * (d / gcd a d)) some_taken
