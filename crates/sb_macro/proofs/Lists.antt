-- Steps along lists.
use Rattle.std.proofs.Common.{◌≡◌, ◌<◌, ◌+◌, ℕ, zero, suc, ◌⊎◌, inl, inr, drop, List, [], ◌∷◌, ◌++◌, Some, refl, sym, ap, ◌∙◌, length, take, get_or, set, arith}
use Rattle.std.specs.List.{flat_map, slice_get}
use Rattle.std.proofs.lemmas.List.{flat_map_more, take_more}

module _ {X : Type 0} where
  pub flat_map_take : {A : Type 0} (f : X → List A) (xs : List X) (i : ℕ) (d : X) → i < length xs → flat_map f (take (i + 1) xs) ≡ flat_map f (take i xs) ++ f (get_or xs i d)
  flat_map_take f xs i d inside = ap (flat_map f) (take_more xs i d inside) ∙ sym (flat_map_more f [] (take i xs) (get_or xs i d))

  -- a list that goes on keeps what it has
  pub get_before : (xs ys : List X) (i : ℕ) (x : X) → slice_get xs i ≡ Some x → slice_get (xs ++ ys) i ≡ Some x
  get_before [] ys i x got = absurd (cc)
  get_before (y ∷ xs) ys zero x got = got
  get_before (y ∷ xs) ys (suc i) x got = get_before xs ys i x got

  -- what stands at the places of a list in which one was written
  pub get_set : (xs : List X) (i : ℕ) (x : X) → i < length xs → slice_get (set xs i x) i ≡ Some x
  get_set [] i x inside = absurd (omega (arith, inside))
  get_set (y ∷ xs) zero x inside = refl
  get_set (y ∷ xs) (suc i) x inside = get_set xs i x (omega (arith, inside))

  pub get_set_other : (xs : List X) (i j : ℕ) (x y : X) → (i ≡ j → ⊥) → slice_get xs j ≡ Some y → slice_get (set xs i x) j ≡ Some y
  get_set_other [] i j x y differ got = absurd (cc)
  get_set_other (z ∷ xs) zero zero x y differ got = absurd (differ refl)
  get_set_other (z ∷ xs) zero (suc j) x y differ got = got
  get_set_other (z ∷ xs) (suc i) zero x y differ got = got
  get_set_other (z ∷ xs) (suc i) (suc j) x y differ got = get_set_other xs i j x y (λ e. differ (ap suc e)) got

  -- the element at which what is left of a list begins, and what is left behind it
  pub drop_front : (xs : List X) (n : ℕ) (y : X) (ys : List X) → y ∷ ys ≡ drop n xs → (slice_get xs n ≡ Some y) × (ys ≡ drop (suc n) xs)
  drop_front [] zero y ys e = absurd (cc)
  drop_front [] (suc n) y ys e = absurd (cc)
  drop_front (x ∷ xs) zero y ys e = let same : y ≡ x = cc in let rest : ys ≡ xs = cc in (ap Some (sym same), rest)
  drop_front (x ∷ xs) (suc n) y ys e = drop_front xs n y ys e

  -- a place of a list with one more element is one of the list's, or the last
  pub push_places : (xs : List X) (x y : X) (i : ℕ) → slice_get (xs ++ x ∷ []) i ≡ Some y → (slice_get xs i ≡ Some y) ⊎ ((i ≡ length xs) × (x ≡ y))
  push_places [] x y zero got = inr (refl, cc)
  push_places [] x y (suc i) got = absurd (cc)
  push_places (z ∷ xs) x y zero got = inl got
  push_places (z ∷ xs) x y (suc i) got =
      elim (push_places xs x y i got) [ inl there ↦ inl there | inr last ↦ inr (ap suc last.0, last.1) ]
