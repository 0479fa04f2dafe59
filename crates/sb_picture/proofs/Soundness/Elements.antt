-- what holds of each element of a list, and what a write, an append and a filter leave
use Rattle.std.proofs.Common.{◌≡◌, ◌≢◌, ℕ, zero, suc, ◌<◌, List, [], ◌∷◌, ◌++◌, length, slice_get, slice_set, take, drop, remove, filter, cond, Bool, true, false, Some, ◌⊎◌, inl, inr, refl, ap, subst, arith}

abbrev pub Each : {X : Type 0} → (X → Type 0) → List X → Type 0
Each {X} P xs = (at : ℕ) (x : X) → slice_get xs at ≡ Some x → P x

pub each-cons : {X : Type 0} (P : X → Type 0) (x : X) (xs : List X) → P x → Each P xs → Each P (x ∷ xs)
each-cons P x xs h hs zero y e = let s : x ≡ y = cc in subst P s h
each-cons P x xs h hs (suc at) y e = hs at y e

pub each-append : {X : Type 0} (P : X → Type 0) (xs ys : List X) → Each P xs → Each P ys → Each P (xs ++ ys)
each-append P [] ys hx hy at y e = hy at y e
each-append P (x ∷ xs) ys hx hy zero y e = hx zero y e
each-append P (x ∷ xs) ys hx hy (suc at) y e = each-append P xs ys (λ k z h. hx (suc k) z h) hy at y e

pub each-one : {X : Type 0} (P : X → Type 0) (x : X) → P x → Each P (x ∷ [])
each-one P x h = each-cons P x [] h (λ at y e. let no_one : ⊥ = cc in absurd no_one)

pub each-set : {X : Type 0} (P : X → Type 0) (xs : List X) (i : ℕ) (y : X) → Each P xs → P y → Each P (slice_set xs i y)
each-set P [] i y hs h at x e = hs at x e
each-set P (z ∷ xs) zero y hs h at x e = each-cons P y xs h (λ k w g. hs (suc k) w g) at x e
each-set P (z ∷ xs) (suc i) y hs h at x e = each-cons P z (slice_set xs i y) (hs zero z refl) (each-set P xs i y (λ k w g. hs (suc k) w g) h) at x e

pub each-filter : {X : Type 0} (P : X → Type 0) (test : X → Bool) (xs : List X) → Each P xs → Each (λ x. P x × (test x ≡ true)) (filter test xs)
each-filter P test [] hs at x e = let no_one : ⊥ = cc in absurd no_one
each-filter P test (y ∷ xs) hs at x e = by (test y) refl (each-filter P test xs (λ k w h. hs (suc k) w h)) e
  where
    by : (b : Bool) → test y ≡ b → Each (λ z. P z × (test z ≡ true)) (filter test xs) → slice_get (cond b (y ∷ filter test xs) (filter test xs)) at ≡ Some x → P x × (test x ≡ true)
    by true t more g = each-cons (λ z. P z × (test z ≡ true)) y (filter test xs) (hs zero y refl, t) more at x g
    by false t more g = more at x g

pub each-take : {X : Type 0} (P : X → Type 0) (n : ℕ) (xs : List X) → Each P xs → Each P (take n xs)
each-take P zero xs hs at x e = let no_one : ⊥ = cc in absurd no_one
each-take P (suc n) [] hs at x e = hs at x e
each-take P (suc n) (y ∷ xs) hs at x e = each-cons P y (take n xs) (hs zero y refl) (each-take P n xs (λ k w h. hs (suc k) w h)) at x e

pub each-drop : {X : Type 0} (P : X → Type 0) (n : ℕ) (xs : List X) → Each P xs → Each P (drop n xs)
each-drop P zero xs hs at x e = hs at x e
each-drop P (suc n) [] hs at x e = hs at x e
each-drop P (suc n) (y ∷ xs) hs at x e = each-drop P n xs (λ k w h. hs (suc k) w h) at x e

pub each-remove : {X : Type 0} (P : X → Type 0) (n : ℕ) (xs : List X) → Each P xs → Each P (remove xs n)
each-remove P n xs hs = each-append P (take n xs) (drop (suc n) xs) (each-take P n xs hs) (each-drop P (suc n) xs hs)

pub get-set_same : {X : Type 0} (xs : List X) (i : ℕ) (x y : X) → slice_get xs i ≡ Some x → slice_get (slice_set xs i y) i ≡ Some y
get-set_same [] i x y e = cc
get-set_same (z ∷ xs) zero x y e = refl
get-set_same (z ∷ xs) (suc i) x y e = get-set_same xs i x y e

pub get-set_other : {X : Type 0} (xs : List X) (i j : ℕ) (y : X) → j ≢ i → slice_get (slice_set xs i y) j ≡ slice_get xs j
get-set_other [] i j y ne = refl
get-set_other (z ∷ xs) zero zero y ne = absurd (ne refl)
get-set_other (z ∷ xs) zero (suc j) y ne = refl
get-set_other (z ∷ xs) (suc i) zero y ne = refl
get-set_other (z ∷ xs) (suc i) (suc j) y ne = get-set_other xs i j y (λ e. ne (ap suc e))

-- an element after a write at i is the one written, or another and as before
pub get-set_cases : {X : Type 0} (xs : List X) (i j : ℕ) (x y : X) → slice_get (slice_set xs i y) j ≡ Some x
    → (j ≡ i) × (x ≡ y) ⊎ (j ≢ i) × (slice_get xs j ≡ Some x)
get-set_cases [] i j x y e = let no_one : ⊥ = cc in absurd no_one
get-set_cases (z ∷ xs) zero zero x y e = inl (refl, cc)
get-set_cases (z ∷ xs) zero (suc j) x y e = inr (omega arith, e)
get-set_cases (z ∷ xs) (suc i) zero x y e = inr (omega arith, e)
get-set_cases (z ∷ xs) (suc i) (suc j) x y e =
    elim (get-set_cases xs i j x y e) [ inl h ↦ inl (ap suc h.0, h.1) | inr h ↦ inr (let ne = h.0 in omega arith, h.1) ]

pub get-append : {X : Type 0} (xs ys : List X) (i : ℕ) (x : X) → slice_get xs i ≡ Some x → slice_get (xs ++ ys) i ≡ Some x
get-append [] ys i x e = cc
get-append (z ∷ xs) ys zero x e = e
get-append (z ∷ xs) ys (suc i) x e = get-append xs ys i x e

pub get-append_last : {X : Type 0} (xs : List X) (y : X) → slice_get (xs ++ y ∷ []) (length xs) ≡ Some y
get-append_last [] y = refl
get-append_last (x ∷ xs) y = get-append_last xs y

-- an element of a list with one more is one of the list, or the last
pub get-append_cases : {X : Type 0} (xs : List X) (y : X) (i : ℕ) (x : X) → slice_get (xs ++ y ∷ []) i ≡ Some x
    → (slice_get xs i ≡ Some x) ⊎ (i ≡ length xs) × (x ≡ y)
get-append_cases [] y zero x e = inr (refl, cc)
get-append_cases [] y (suc i) x e = let no_one : ⊥ = cc in absurd no_one
get-append_cases (z ∷ xs) y zero x e = inl e
get-append_cases (z ∷ xs) y (suc i) x e =
    elim (get-append_cases xs y i x e) [ inl h ↦ inl h | inr h ↦ inr (ap suc h.0, h.1) ]

pub get_below : {X : Type 0} (xs : List X) (i : ℕ) (x : X) → slice_get xs i ≡ Some x → i < length xs
get_below [] i x e = let no_one : ⊥ = cc in absurd no_one
get_below (z ∷ xs) zero x e = omega arith
get_below (z ∷ xs) (suc i) x e = let h = get_below xs i x e in omega arith
