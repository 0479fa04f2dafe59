-- Places of lists with one more item.
use Rattle.std.proofs.Common.{◌≡◌, ℕ, zero, suc, ◌<◌, List, [], ◌∷◌, ◌++◌, length, set, Option, Some, None, slice_get, refl, ap, arith, inl, inr}
use Rattle.std.specs.Prelude.{slice_index_or, ◌⊎◌}

-- what stands at a place, where something does
abbrev pub found : {A : Type 0} → List (Option A) → ℕ → Option A
found xs i = slice_index_or xs i None

pub stays : {A : Type 0} (xs : List A) (y x : A) (i : ℕ) → slice_get xs i ≡ Some x → slice_get (xs ++ y ∷ []) i ≡ Some x
stays [] y x i h = absurd (cc)
stays (z ∷ xs) y x zero h = h
stays (z ∷ xs) y x (suc i) h = stays xs y x i h

pub found_stays : {A : Type 0} (xs : List (Option A)) (y : Option A) (x : A) (i : ℕ) → found xs i ≡ Some x → found (xs ++ y ∷ []) i ≡ Some x
found_stays [] y x i h = absurd (cc)
found_stays (z ∷ xs) y x zero h = h
found_stays (z ∷ xs) y x (suc i) h = found_stays xs y x i h

-- before the last place nothing has changed
pub found_before : {A : Type 0} (xs : List (Option A)) (y : Option A) (i : ℕ) → i < length xs → found (xs ++ y ∷ []) i ≡ found xs i
found_before [] y i h = absurd (omega arith)
found_before (z ∷ xs) y zero h = refl
found_before (z ∷ xs) y (suc i) h = found_before xs y i (omega arith)

pub found_last : {A : Type 0} (xs : List (Option A)) (y : Option A) (i : ℕ) → i ≡ length xs → found (xs ++ y ∷ []) i ≡ y
found_last [] y zero h = refl
found_last [] y (suc i) h = absurd (omega arith)
found_last (z ∷ xs) y zero h = absurd (omega arith)
found_last (z ∷ xs) y (suc i) h = found_last xs y i (omega arith)

-- nothing stands behind a list
pub found_within : {A : Type 0} (xs : List (Option A)) (i : ℕ) (x : A) → found xs i ≡ Some x → i < length xs
found_within [] i x h = absurd (cc)
found_within (z ∷ xs) zero x h = omega arith
found_within (z ∷ xs) (suc i) x h = let rest : i < length xs = found_within xs i x h in omega arith

pub found_set : {A : Type 0} (xs : List (Option A)) (y : Option A) (i : ℕ) → i < length xs → found (set xs i y) i ≡ y
found_set [] y i h = absurd (omega arith)
found_set (z ∷ xs) y zero h = refl
found_set (z ∷ xs) y (suc i) h = found_set xs y i (omega arith)

pub found_other : {A : Type 0} (xs : List (Option A)) (y : Option A) (i j : ℕ) → (i ≡ j → ⊥) → found (set xs i y) j ≡ found xs j
found_other [] y i j h = refl
found_other (z ∷ xs) y zero zero h = absurd (h refl)
found_other (z ∷ xs) y zero (suc j) h = refl
found_other (z ∷ xs) y (suc i) zero h = refl
found_other (z ∷ xs) y (suc i) (suc j) h = found_other xs y i j (λ e. h (ap suc e))

pub same_length : {A B : Type 0} (xs : List A) (ys : List B) (x : A) (y : B) → length xs ≡ length ys → length (xs ++ x ∷ []) ≡ length (ys ++ y ∷ [])
same_length [] [] x y h = refl
same_length [] (w ∷ ys) x y h = absurd (omega arith)
same_length (z ∷ xs) [] x y h = absurd (omega arith)
same_length (z ∷ xs) (w ∷ ys) x y h = ap suc (same_length xs ys x y (omega arith))

-- where nothing is added, all that is found was there
pub found_still : {A : Type 0} (xs : List (Option A)) (x : A) (i : ℕ) → found (xs ++ None ∷ []) i ≡ Some x → found xs i ≡ Some x
found_still [] x zero h = absurd (cc)
found_still [] x (suc i) h = absurd (cc)
found_still (z ∷ xs) x zero h = h
found_still (z ∷ xs) x (suc i) h = found_still xs x i h

-- what is found with one more item was found before, or is the item
pub found_places : {A : Type 0} (xs : List (Option A)) (y : Option A) (x : A) (i : ℕ) → found (xs ++ y ∷ []) i ≡ Some x → (found xs i ≡ Some x) ⊎ (y ≡ Some x)
found_places [] y x zero h = inr h
found_places [] y x (suc i) h = absurd (cc)
found_places (z ∷ xs) y x zero h = inl h
found_places (z ∷ xs) y x (suc i) h = found_places xs y x i h

pub length_more : {A : Type 0} (xs : List A) (x : A) → length (xs ++ x ∷ []) ≡ suc (length xs)
length_more [] x = refl
length_more (y ∷ xs) x = ap suc (length_more xs x)

pub length_set : {A : Type 0} (xs : List A) (x : A) (i : ℕ) → length (set xs i x) ≡ length xs
length_set [] x i = refl
length_set (y ∷ xs) x zero = refl
length_set (y ∷ xs) x (suc i) = ap suc (length_set xs x i)
