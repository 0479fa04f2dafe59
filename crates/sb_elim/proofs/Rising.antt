-- where a symbol goes among others in rising number
use Rattle.std.proofs.Common.{◌≡◌, ℕ, suc, ◌+◌, ◌<◌, ◌≤◌, Bool, true, false, cond, List, [], ◌∷◌, length, get_or, refl, sym, ap, ◌∙◌, arith, ⊎_elim}
use Rattle.std.specs.Prelude.{nat_lt, insert}
use Rattle.std.specs.List.{prefix_len}
use Rattle.std.proofs.lemmas.Bool.{cases_lt, lt-ltb}
use Rattle.std.proofs.lemmas.List.Sums.{prefix_len-le-length}
use Rattle.sb_term.specs.Refutes.{with_symbol}
use Rattle.sb_elim.specs.Outcomes.{stands_in}

abbrev below : ℕ → List ℕ → ℕ
below s xs = prefix_len (λ x. nat_lt x s) xs

not_less : (m n : ℕ) → n ≤ m → nat_lt m n ≡ false
not_less m n h = grind arith

-- the cases of a first element: below s, s itself, above s
module _ (s x : ℕ) (xs : List ℕ) where
  below-less : x < s → below s (x ∷ xs) ≡ suc (below s xs)
  below-less h = let e : nat_lt x s ≡ true = lt-ltb x s h in ap (λ (b : Bool). cond b (1 + below s xs) 0) e ∙ (let k : 1 + below s xs ≡ suc (below s xs) = omega arith in k)

  below-more : s ≤ x → below s (x ∷ xs) ≡ 0
  below-more h = let e : nat_lt x s ≡ false = not_less x s h in ap (λ (b : Bool). cond b (1 + below s xs) 0) e

  with_symbol-less : x < s → with_symbol s (x ∷ xs) ≡ x ∷ with_symbol s xs
  with_symbol-less h =
      let e : nat_lt x s ≡ true = lt-ltb x s h in
      let f : nat_lt s x ≡ false = not_less s x (omega arith) in
      ap (λ (b : Bool). cond b (s ∷ (x ∷ xs)) (cond (nat_lt x s) (x ∷ with_symbol s xs) (x ∷ xs))) f
      ∙ ap (λ (b : Bool). cond b (x ∷ with_symbol s xs) (x ∷ xs)) e

  with_symbol-same : x ≡ s → with_symbol s (x ∷ xs) ≡ x ∷ xs
  with_symbol-same h =
      let e : nat_lt x s ≡ false = not_less x s (omega arith) in
      let f : nat_lt s x ≡ false = not_less s x (omega arith) in
      ap (λ (b : Bool). cond b (s ∷ (x ∷ xs)) (cond (nat_lt x s) (x ∷ with_symbol s xs) (x ∷ xs))) f
      ∙ ap (λ (b : Bool). cond b (x ∷ with_symbol s xs) (x ∷ xs)) e

  with_symbol-more : s < x → with_symbol s (x ∷ xs) ≡ s ∷ (x ∷ xs)
  with_symbol-more h =
      ap (λ (b : Bool). cond b (s ∷ (x ∷ xs)) (cond (nat_lt x s) (x ∷ with_symbol s xs) (x ∷ xs))) (let f : nat_lt s x ≡ true = lt-ltb s x h in f)

standing : (s : ℕ) (xs : List ℕ) → below s xs < length xs → get_or xs (below s xs) 0 ≡ s → with_symbol s xs ≡ xs
standing s [] h e = absurd (omega arith)
standing s (x ∷ xs) h e =
    ⊎_elim
    (λ (l : x < s).
    let n = below-less s x xs l in
    let g = ap (λ (k : ℕ). get_or (x ∷ xs) k 0) n in
    with_symbol-less s x xs l ∙ ap (λ (ys : List ℕ). x ∷ ys) (standing s xs (omega arith) (sym g ∙ e)))
    (λ (m : s ≤ x).
    let g = ap (λ (k : ℕ). get_or (x ∷ xs) k 0) (below-more s x xs m) in
    with_symbol-same s x xs (sym g ∙ e))
    (cases_lt x s)

inserted : (s : ℕ) (xs : List ℕ) → (below s xs < length xs → get_or xs (below s xs) 0 ≡ s → ⊥) → with_symbol s xs ≡ insert xs (below s xs) s
inserted s [] h = refl
inserted s (x ∷ xs) h =
    ⊎_elim
    (λ (l : x < s).
    let n = below-less s x xs l in
    let g = ap (λ (k : ℕ). get_or (x ∷ xs) k 0) n in
    with_symbol-less s x xs l
    ∙ ap (λ (ys : List ℕ). x ∷ ys) (inserted s xs (λ k e. h (omega arith) (g ∙ e)))
    ∙ sym (ap (λ (k : ℕ). insert (x ∷ xs) k s) n))
    (λ (m : s ≤ x).
    let n = below-more s x xs m in
    let g = ap (λ (k : ℕ). get_or (x ∷ xs) k 0) n in
    let less : s < x = ⊎_elim (λ (l : s < x). l) (λ (l : x ≤ s). absurd (h (omega arith) (g ∙ (let e : x ≡ s = omega arith in e)))) (cases_lt s x) in
    with_symbol-more s x xs less ∙ sym (ap (λ (k : ℕ). insert (x ∷ xs) k s) n))
    (cases_lt x s)

pub with_symbol_standing : (s at : ℕ) (xs : List ℕ) → at ≡ prefix_len (λ x. nat_lt x s) xs → stands_in xs at s ≡ true → with_symbol s xs ≡ xs
with_symbol_standing s at xs e h =
    let l : at < length xs = grind arith in
    let g : get_or xs at 0 ≡ s = grind arith in
    standing s xs (omega arith) (ap (λ (k : ℕ). get_or xs k 0) (sym e) ∙ g)

pub with_symbol_inserted : (s at : ℕ) (xs : List ℕ) → at ≡ prefix_len (λ x. nat_lt x s) xs → stands_in xs at s ≡ false → with_symbol s xs ≡ insert xs at s
with_symbol_inserted s at xs e h =
    inserted s xs (λ l g.
    let m : at < length xs = omega arith in
    let n : get_or xs at 0 ≡ s = ap (λ (k : ℕ). get_or xs k 0) e ∙ g in
    grind arith) ∙ ap (λ (k : ℕ). insert xs k s) (sym e)

pub place_within : (s at : ℕ) (xs : List ℕ) → at ≡ prefix_len (λ x. nat_lt x s) xs → at ≤ length xs
place_within s at xs e = omega (arith, prefix_len-le-length (λ (x : ℕ). nat_lt x s) xs)

pub ruleset places = (with_symbol_standing, with_symbol_inserted, place_within)
