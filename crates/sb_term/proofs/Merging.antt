-- the turns of a merge
use Rattle.std.proofs.Common.{◌≡◌, ℕ, zero, suc, ◌+◌, ◌-◌, ◌<◌, List, [], ◌∷◌, ◌++◌, length, get_or, take, drop, drop-cons, add-one, length-drop, Bool, true, false, ◌&&◌, Err, IsErrOf, ℤ, pos, negsuc, ◌*ℤ◌, refl, sym, ap, ◌∙◌, subst, arith}
use Rattle.std.proofs.lemmas.List.{append_assoc, append-nil}
use Rattle.std.proofs.lemmas.Grind.{common_steps}
use Rattle.std.proofs.lemmas.Bool.{and_left, and_parts}
use Rattle.sb_term.specs.declared.entry.Entry.{Entry}
use Rattle.sb_term.specs.Linear.{keep, scaled_entries, merged, is_narrow, are_narrow}
use Rattle.sb_term.specs.Fronts.{IsFront, IsMerging}

pub keep-append : (s : ℕ) (c : ℤ) (es : List Entry) → keep s c [] ++ es ≡ keep s c es
keep-append s (pos zero) es = refl
keep-append s (pos (suc n)) es = refl
keep-append s (negsuc n) es = refl

-- the same error of a result with another value
pub err_elsewhere : {T U E : Type 0} (x y : E) → IsErrOf {T = T} (Err x) y → IsErrOf {T = U} (Err x) y
err_elsewhere x y h = let e : x ≡ y = cc in ap Err e

and-left : (a b : Bool) → a ≡ true → (a && b) ≡ b
and-left true b h = refl
and-left false b h = cc

pub are_narrow-keep : (s : ℕ) (c : ℤ) (es : List Entry) → is_narrow c ≡ true → are_narrow (keep s c es) ≡ are_narrow es
are_narrow-keep s (pos zero) es h = refl
are_narrow-keep s (pos (suc n)) es h = and-left (is_narrow (pos (suc n))) (are_narrow es) h
are_narrow-keep s (negsuc n) es h = and-left (is_narrow (negsuc n)) (are_narrow es) h

pub are_narrow-keep_wide : (s : ℕ) (c : ℤ) (es : List Entry) → is_narrow c ≡ false → are_narrow (keep s c es) ≡ false
are_narrow-keep_wide s (pos zero) es h = absurd (let e : true ≡ false = h in cc)
are_narrow-keep_wide s (pos (suc n)) es h = and_left (is_narrow (pos (suc n))) (are_narrow es) h
are_narrow-keep_wide s (negsuc n) es h = and_left (is_narrow (negsuc n)) (are_narrow es) h

module _ (a b : ℤ) (xs ys left right out : List Entry) (m : IsMerging a b xs ys left right out) where
  module _ (s : ℕ) (c : ℤ) (more_left more_right : List Entry) (f : IsFront a b left right s c more_left more_right) where
    pub merging_on : (more_out : List Entry) → is_narrow c ≡ true → more_out ≡ out ++ keep s c []
        → are_narrow more_left ≡ true → are_narrow more_right ≡ true → IsMerging a b xs ys more_left more_right more_out
    merging_on more_out narrow e l r = record {
      is =
          ap (λ zs. zs ++ merged a b more_left more_right) e
          ∙ append_assoc out (keep s c []) (merged a b more_left more_right)
          ∙ ap (λ zs. out ++ zs) (keep-append s c (merged a b more_left more_right) ∙ sym f.is)
          ∙ m.is;
      same = sym (are_narrow-keep s c (merged a b more_left more_right) narrow) ∙ ap are_narrow (sym f.is) ∙ m.same;
      left_narrow = l;
      right_narrow = r;
    }

    pub merging_wide : is_narrow c ≡ false → are_narrow (merged a b xs ys) ≡ false
    merging_wide wide = sym m.same ∙ ap are_narrow f.is ∙ are_narrow-keep_wide s c (merged a b more_left more_right) wide

  pub merging_items : merged a b left right ≡ [] → out ≡ merged a b xs ys
  merging_items e = sym (append-nil out) ∙ ap (λ zs. out ++ zs) (sym e) ∙ m.is

  pub merging_within : merged a b left right ≡ [] → are_narrow (merged a b xs ys) ≡ true
  merging_within e = sym m.same ∙ ap are_narrow e

-- the same where the factors are equal to those of the merge
module _ (a b a' b' : ℤ) (xs ys left right out : List Entry) (ea : a' ≡ a) (eb : b' ≡ b) (m : IsMerging a' b' xs ys left right out) where
  factors : merged a' b' xs ys ≡ merged a b xs ys
  factors = ap (λ z. merged z b' xs ys) ea ∙ ap (λ z. merged a z xs ys) eb

  pub items_at_end : merged a' b' left right ≡ [] → out ≡ merged a b xs ys
  unfolding factors
  items_at_end e = merging_items a' b' xs ys left right out m e ∙ factors

  pub within_at_end : merged a' b' left right ≡ [] → are_narrow (merged a b xs ys) ≡ true
  within_at_end e = ap are_narrow (sym factors) ∙ merging_within a' b' xs ys left right out m e

  pub wide_at : (s : ℕ) (c : ℤ) (more_left more_right : List Entry) → IsFront a' b' left right s c more_left more_right
      → is_narrow c ≡ false → are_narrow (merged a b xs ys) ≡ false
  wide_at s c more_left more_right f wide =
      ap are_narrow (sym factors) ∙ merging_wide a' b' xs ys left right out m s c more_left more_right f wide

pub merging_begins : (a b : ℤ) (xs ys : List Entry) → are_narrow xs ≡ true → are_narrow ys ≡ true → IsMerging a b xs ys xs ys []
merging_begins a b xs ys l r = record { is = refl; same = refl; left_narrow = l; right_narrow = r }

-- a list that is not empty is its first element and what stands behind it
front_and_rest : (xs : List Entry) (d : Entry) → 0 < length xs → get_or xs 0 d ∷ take (length xs - 1) (drop 1 xs) ≡ xs
front_and_rest [] d h = absurd (omega arith)
front_and_rest (x ∷ xs) d h = ap (λ zs. x ∷ zs) (grind (arith, common_steps))

pub front_at : (a b a' b' : ℤ) (xs ys : List Entry) (d : Entry) (s : ℕ) (c : ℤ) (more_xs more_ys : List Entry) → a' ≡ a → b' ≡ b → 0 < length xs → 0 < length ys
    → IsFront a' b' (get_or xs 0 d ∷ take (length xs - 1) (drop 1 xs)) (get_or ys 0 d ∷ take (length ys - 1) (drop 1 ys)) s c more_xs more_ys
    → IsFront a b xs ys s c more_xs more_ys
front_at a b a' b' xs ys d s c more_xs more_ys ea eb hx hy f =
    let A : ℤ → Type 0 = λ z. IsFront z b' (get_or xs 0 d ∷ take (length xs - 1) (drop 1 xs)) (get_or ys 0 d ∷ take (length ys - 1) (drop 1 ys)) s c more_xs more_ys in
    let B : ℤ → Type 0 = λ z. IsFront a z (get_or xs 0 d ∷ take (length xs - 1) (drop 1 xs)) (get_or ys 0 d ∷ take (length ys - 1) (drop 1 ys)) s c more_xs more_ys in
    let P : List Entry → Type 0 = λ zs. IsFront a b zs (get_or ys 0 d ∷ take (length ys - 1) (drop 1 ys)) s c more_xs more_ys in
    let Q : List Entry → Type 0 = λ zs. IsFront a b xs zs s c more_xs more_ys in
    subst Q (front_and_rest ys d hy) (subst P (front_and_rest xs d hx) (subst B eb (subst A ea f)))

-- the front of the entries c times, which are a merge with no entries
pub scaled_front : (c : ℤ) (xs : List Entry) (i : ℕ) (d : Entry) → i < length xs
    → IsFront (pos 0) c [] (drop i xs) (get_or xs i d).symbol (c *ℤ (get_or xs i d).coefficient) [] (drop (i + 1) xs)
scaled_front c xs i d within =
    let e : drop i xs ≡ get_or xs i d ∷ drop (i + 1) xs = rw (add-one, drop-cons xs i d) refl in
    record {
      is = ap (λ zs. scaled_entries c zs) e;
      fewer = omega (arith, length-drop i xs, length-drop (i + 1) xs);
    }

narrow_behind : (xs : List Entry) (i : ℕ) → are_narrow xs ≡ true → are_narrow (drop i xs) ≡ true
narrow_behind [] zero h = h
narrow_behind [] (suc i) h = h
narrow_behind (x ∷ xs) zero h = h
narrow_behind (x ∷ xs) (suc i) h = narrow_behind xs i (and_parts (is_narrow x.coefficient) (are_narrow xs) h).1

-- one more entry c times
pub scaling_on : (c : ℤ) (xs out more_out : List Entry) (i : ℕ) (d : Entry) → i < length xs → are_narrow xs ≡ true
    → IsMerging (pos 0) c [] xs [] (drop i xs) out → is_narrow (c *ℤ (get_or xs i d).coefficient) ≡ true
    → more_out ≡ out ++ keep (get_or xs i d).symbol (c *ℤ (get_or xs i d).coefficient) []
    → IsMerging (pos 0) c [] xs [] (drop (i + 1) xs) more_out
scaling_on c xs out more_out i d within narrow m here e =
    merging_on (pos 0) c [] xs [] (drop i xs) out m (get_or xs i d).symbol (c *ℤ (get_or xs i d).coefficient) [] (drop (i + 1) xs)
    (scaled_front c xs i d within) more_out here e refl (narrow_behind xs (i + 1) narrow)

pub scaling_wide : (c : ℤ) (xs out : List Entry) (i : ℕ) (d : Entry) → i < length xs
    → IsMerging (pos 0) c [] xs [] (drop i xs) out → is_narrow (c *ℤ (get_or xs i d).coefficient) ≡ false
    → are_narrow (scaled_entries c xs) ≡ false
scaling_wide c xs out i d within m wide =
    merging_wide (pos 0) c [] xs [] (drop i xs) out m (get_or xs i d).symbol (c *ℤ (get_or xs i d).coefficient) [] (drop (i + 1) xs)
    (scaled_front c xs i d within) wide

nothing_behind : (xs : List Entry) → drop (length xs) xs ≡ []
nothing_behind [] = refl
nothing_behind (x ∷ xs) = nothing_behind xs

pub scaling_ends : (c : ℤ) (xs out : List Entry) (i : ℕ) → i ≡ length xs → IsMerging (pos 0) c [] xs [] (drop i xs) out
    → (out ≡ scaled_entries c xs) × (are_narrow (scaled_entries c xs) ≡ true)
scaling_ends c xs out i e m =
    let none : scaled_entries c (drop i xs) ≡ [] = ap (λ n. scaled_entries c (drop n xs)) e ∙ ap (λ zs. scaled_entries c zs) (nothing_behind xs) in
    (merging_items (pos 0) c [] xs [] (drop i xs) out m none, merging_within (pos 0) c [] xs [] (drop i xs) out m none)
