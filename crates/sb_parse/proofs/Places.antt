-- A list is refused at one place, and no text is refused: for any relation between texts and their values.
use Rattle.std.proofs.Common.{◌≡◌, ℕ, List, [], ◌∷◌, ◌++◌, length, refl, sym, ap, ◌∙◌, append_assoc, append-nil, subst}
use Rattle.sb_parse.specs.Read.{CanBegin, IsRefused}

-- no text goes on from the front with the first token behind it
abbrev Halts : {T A : Type 0} → (List T → A → Type 0) → List T → List T → Type 0
Halts {T} Is front bad = (t : T) (tail : List T) → bad ≡ t ∷ tail → CanBegin Is (front ++ (t ∷ [])) → ⊥

-- the texts that go on from a token
abbrev behind : {T A : Type 0} → T → (List T → A → Type 0) → List T → A → Type 0
behind x Is ts a = Is (x ∷ ts) a

behind_front : {T A : Type 0} (Is : List T → A → Type 0) (x : T) (xs : List T) → CanBegin Is (x ∷ xs) → CanBegin (behind x Is) xs
behind_front Is x xs c = record { rest = c.rest; tree = c.tree; is = c.is }

behind_halts : {T A : Type 0} (Is : List T → A → Type 0) (x : T) (xs bad : List T) → Halts Is (x ∷ xs) bad → Halts (behind x Is) xs bad
behind_halts Is x xs bad halts t tail e c = halts t tail e (record { rest = c.rest; tree = c.tree; is = c.is })

-- a front that a longer one goes on from does not halt before it
goes_on : {T A : Type 0} (Is : List T → A → Type 0) (y : T) (ys bad other : List T) → bad ≡ y ∷ (ys ++ other) → CanBegin Is (y ∷ ys) → Halts Is [] bad → ⊥
goes_on Is y ys bad other e c halts = halts y (ys ++ other) e (record { rest = ys ++ c.rest; tree = c.tree; is = c.is })

same_place : {T A : Type 0} (Is : List T → A → Type 0) (front back bad other : List T) → front ++ bad ≡ back ++ other → CanBegin Is front → CanBegin Is back
    → Halts Is front bad → Halts Is back other → length bad ≡ length other
same_place Is [] [] bad other e c d h k = ap length e
same_place Is [] (y ∷ ys) bad other e c d h k = absurd (goes_on Is y ys bad other e d h)
same_place Is (x ∷ xs) [] bad other e c d h k = absurd (goes_on Is x xs other bad (sym e) c k)
same_place Is (x ∷ xs) (y ∷ ys) bad other e c d h k =
    let head : x ≡ y = cc e in
    let tail : xs ++ bad ≡ ys ++ other = cc e in
    same_place (behind x Is) xs ys bad other tail (behind_front Is x xs c) (behind_front Is x ys (subst (λ z. CanBegin Is (z ∷ ys)) (sym head) d)) (behind_halts Is x xs bad h)
    (behind_halts Is x ys other (subst (λ z. Halts Is (z ∷ ys) other) (sym head) k))

pub one_place : {T A : Type 0} (Is : List T → A → Type 0) (ts : List T) (left other : ℕ) → IsRefused Is ts left → IsRefused Is ts other → left ≡ other
one_place Is ts left other r s = r.left_is ∙ same_place Is r.front s.front r.bad s.bad (sym r.split ∙ s.split) r.good s.good r.first s.first ∙ sym s.left_is

pub none_is_refused : {T A : Type 0} (Is : List T → A → Type 0) (ts : List T) (left : ℕ) (a : A) → IsRefused Is ts left → Is ts a → ⊥
none_is_refused {T} {A} Is ts left a r is = go r.bad refl
  where
    go : (bad : List T) → r.bad ≡ bad → ⊥
    go [] e = r.short a e (subst (λ z. Is z a) (r.split ∙ ap (λ z. r.front ++ z) e ∙ append-nil r.front) is)
    go (t ∷ tail) e =
        r.first t tail e (record { rest = tail; tree = a; is = subst (λ z. Is z a) (r.split ∙ ap (λ z. r.front ++ z) e ∙ sym (append_assoc r.front (t ∷ []) tail)) is })
