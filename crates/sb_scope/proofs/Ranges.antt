-- What parts hold of their ranges, and what a name changes in one half alone.
use Rattle.std.proofs.Common.{◌≡◌, ◌≤◌, ◌<◌, ◌-◌, ◌/◌, ◌||◌, ◌&&◌, ℕ, suc, Bool, true, false, not, cond, List, [], ◌∷◌, ◌++◌, filter, nat_lt, nat_eq, if◌then◌else◌, refl, sym, ap, ◌∙◌, arith, le_refl, lt-ltb, le-ltb, ltb-true, ne_eqb, eq-eqb, eqb-true, inl, inr, div-le_self, append-nil, append_assoc}
use Rattle.std.proofs.lemmas.List.Elements.{filter-append}
use Rattle.std.proofs.lemmas.List.Folds.{list_any-append}
use Rattle.std.proofs.Math.Bool.{or-false}
use Rattle.std.proofs.lemmas.Map.Views.{any-filter_same}
use Rattle.std.proofs.lemmas.Bool.{or_parts, eqb-false, cases_order}
use Rattle.sb_base.specs.declared.interning.Name.{Name}
use Rattle.sb_scope.specs.declared.typedefs.Part.{Part}
use Rattle.sb_scope.specs.declared.typedefs.Part.TheVariants.{None, Lowest, Halves'}
use Rattle.sb_scope.specs.Names.{is_among, without, including}
use Rattle.sb_scope.specs.Parts.{middle, names_between, put}

-- ---- bounds

abbrev Below : ℕ → List Name → Type 0
Below to [] = Unit {0}
Below to (n ∷ ns) = (n.0 < to) × Below to ns

abbrev AtLeast : ℕ → List Name → Type 0
AtLeast from [] = Unit {0}
AtLeast from (n ∷ ns) = (from ≤ n.0) × AtLeast from ns

below_append : (to : ℕ) (xs ys : List Name) → Below to xs → Below to ys → Below to (xs ++ ys)
below_append to [] ys a b = b
below_append to (x ∷ xs) ys a b = (a.0, below_append to xs ys a.1 b)

least_append : (from : ℕ) (xs ys : List Name) → AtLeast from xs → AtLeast from ys → AtLeast from (xs ++ ys)
least_append from [] ys a b = b
least_append from (x ∷ xs) ys a b = (a.0, least_append from xs ys a.1 b)

below_wider : (a b : ℕ) (xs : List Name) → a ≤ b → Below a xs → Below b xs
below_wider a b [] le h = tt
below_wider a b (x ∷ xs) le h = let one : x.0 < a = h.0 in (omega arith, below_wider a b xs le h.1)

least_wider : (a b : ℕ) (xs : List Name) → a ≤ b → AtLeast b xs → AtLeast a xs
least_wider a b [] le h = tt
least_wider a b (x ∷ xs) le h = let one : b ≤ x.0 = h.0 in (omega arith, least_wider a b xs le h.1)

-- ---- ranges

pub middle_from : (from to : ℕ) → from ≤ middle from to
middle_from from to = omega arith

pub middle_to : (from to : ℕ) → from ≤ to → middle from to ≤ to
middle_to from to le = let h : (to - from) / 2 ≤ to - from = div-le_self (to - from) 2 in omega arith

part_below : (p : Part) (from to : ℕ) → from ≤ to → Below to (names_between from to p)
part_below None from to le = tt
part_below Lowest from to le = go (nat_lt from to) refl
  where
    go : (b : Bool) → nat_lt from to ≡ b → Below to (if b then record { 0 = from } ∷ [] else [])
    go true e = (ltb-true from to e, tt)
    go false e = tt
part_below (Halves' p low q high) from to le =
    below_append to (names_between from (middle from to) low) (names_between (middle from to) to high)
    (below_wider (middle from to) to (names_between from (middle from to) low) (middle_to from to le) (part_below low from (middle from to) (middle_from from to)))
    (part_below high (middle from to) to (middle_to from to le))

part_least : (p : Part) (from to : ℕ) → AtLeast from (names_between from to p)
part_least None from to = tt
part_least Lowest from to = go (nat_lt from to)
  where
    go : (b : Bool) → AtLeast from (if b then record { 0 = from } ∷ [] else [])
    go true = (le_refl from, tt)
    go false = tt
part_least (Halves' p low q high) from to =
    least_append from (names_between from (middle from to) low) (names_between (middle from to) to high)
    (part_least low from (middle from to))
    (least_wider from (middle from to) (names_between (middle from to) to high) (middle_from from to) (part_least high (middle from to) to))

-- ---- a name and a list that is past it

not_below : (n : Name) (xs : List Name) → Below n.0 xs → is_among n xs ≡ false
not_below n [] h = refl
not_below n (x ∷ xs) h =
    let one : x.0 < n.0 = h.0 in
    ap (λ b. b || is_among n xs) (ne_eqb n.0 x.0 (λ e. omega arith)) ∙ not_below n xs h.1

not_above : (n : Name) (xs : List Name) → AtLeast (suc n.0) xs → is_among n xs ≡ false
not_above n [] h = refl
not_above n (x ∷ xs) h =
    let one : suc n.0 ≤ x.0 = h.0 in
    ap (λ b. b || is_among n xs) (ne_eqb n.0 x.0 (λ e. omega arith)) ∙ not_above n xs h.1

among_low : (n : Name) (xs ys : List Name) → AtLeast (suc n.0) ys → is_among n (xs ++ ys) ≡ is_among n xs
among_low n xs ys h =
    list_any-append (λ m. nat_eq n.0 m.0) xs ys ∙ ap (λ b. is_among n xs || b) (not_above n ys h) ∙ or-false (is_among n xs)

among_high : (n : Name) (xs ys : List Name) → Below n.0 xs → is_among n (xs ++ ys) ≡ is_among n ys
among_high n xs ys h =
    list_any-append (λ m. nat_eq n.0 m.0) xs ys ∙ ap (λ b. b || is_among n ys) (not_below n xs h)

-- ---- a test that all of a list pass, or none

keeps_below : (p : Name → Bool) (a : ℕ) → ((m : Name) → m.0 < a → p m ≡ true) → (xs : List Name) → Below a xs → filter p xs ≡ xs
keeps_below p a t [] h = refl
keeps_below p a t (x ∷ xs) h =
    ap (λ b. cond b (x ∷ filter p xs) (filter p xs)) (t x h.0) ∙ ap (λ l. x ∷ l) (keeps_below p a t xs h.1)

keeps_least : (p : Name → Bool) (a : ℕ) → ((m : Name) → a ≤ m.0 → p m ≡ true) → (xs : List Name) → AtLeast a xs → filter p xs ≡ xs
keeps_least p a t [] h = refl
keeps_least p a t (x ∷ xs) h =
    ap (λ b. cond b (x ∷ filter p xs) (filter p xs)) (t x h.0) ∙ ap (λ l. x ∷ l) (keeps_least p a t xs h.1)

drops_below : (p : Name → Bool) (a : ℕ) → ((m : Name) → m.0 < a → p m ≡ false) → (xs : List Name) → Below a xs → filter p xs ≡ []
drops_below p a t [] h = refl
drops_below p a t (x ∷ xs) h = ap (λ b. cond b (x ∷ filter p xs) (filter p xs)) (t x h.0) ∙ drops_below p a t xs h.1

drops_least : (p : Name → Bool) (a : ℕ) → ((m : Name) → a ≤ m.0 → p m ≡ false) → (xs : List Name) → AtLeast a xs → filter p xs ≡ []
drops_least p a t [] h = refl
drops_least p a t (x ∷ xs) h = ap (λ b. cond b (x ∷ filter p xs) (filter p xs)) (t x h.0) ∙ drops_least p a t xs h.1

-- ---- a name put into one half

under : Name → Name → Bool
under n m = nat_lt m.0 n.0

over : Name → Name → Bool
over n m = nat_lt n.0 m.0

other : Name → Name → Bool
other n m = not (nat_eq m.0 n.0)

put_low : (b : Bool) (n : Name) (xs ys : List Name) → AtLeast (suc n.0) ys → put b n (xs ++ ys) ≡ put b n xs ++ ys
unfolding under over other
put_low true n xs ys h =
    ap (λ l. l ++ n ∷ filter (over n) (xs ++ ys))
    (filter-append (under n) xs ys ∙ ap (λ l. filter (under n) xs ++ l) (drops_least (under n) (suc n.0) (λ m le. le-ltb m.0 n.0 (omega arith)) ys h) ∙ append-nil (filter (under n) xs))
    ∙ ap (λ l. filter (under n) xs ++ n ∷ l)
    (filter-append (over n) xs ys ∙ ap (λ l. filter (over n) xs ++ l) (keeps_least (over n) (suc n.0) (λ m le. lt-ltb n.0 m.0 (omega arith)) ys h))
    ∙ sym (append_assoc (filter (under n) xs) (n ∷ filter (over n) xs) ys)
put_low false n xs ys h =
    filter-append (other n) xs ys
    ∙ ap (λ l. filter (other n) xs ++ l) (keeps_least (other n) (suc n.0) (λ m le. ap not (ne_eqb m.0 n.0 (λ e. omega arith))) ys h)

put_high : (b : Bool) (n : Name) (xs ys : List Name) → Below n.0 xs → put b n (xs ++ ys) ≡ xs ++ put b n ys
unfolding under over other
put_high true n xs ys h =
    ap (λ l. l ++ n ∷ filter (over n) (xs ++ ys))
    (filter-append (under n) xs ys ∙ ap (λ l. l ++ filter (under n) ys) (keeps_below (under n) n.0 (λ m lt. lt-ltb m.0 n.0 lt) xs h))
    ∙ ap (λ l. (xs ++ filter (under n) ys) ++ n ∷ l)
    (filter-append (over n) xs ys ∙ ap (λ l. l ++ filter (over n) ys) (drops_below (over n) n.0 (λ m lt. le-ltb n.0 m.0 (omega arith)) xs h))
    ∙ append_assoc xs (filter (under n) ys) (n ∷ filter (over n) ys)
put_high false n xs ys h =
    filter-append (other n) xs ys
    ∙ ap (λ l. l ++ filter (other n) ys) (keeps_below (other n) n.0 (λ m lt. ap not (ne_eqb m.0 n.0 (λ e. omega arith))) xs h)

-- ---- in a range of one number

without_only : (n : Name) (xs : List Name) → Below (suc n.0) xs → AtLeast n.0 xs → without n xs ≡ []
without_only n [] b l = refl
without_only n (x ∷ xs) b l =
    let high : x.0 < suc n.0 = b.0 in
    let low : n.0 ≤ x.0 = l.0 in
    ap (λ t. cond (not t) (x ∷ without n xs) (without n xs)) (eq-eqb x.0 n.0 (omega arith)) ∙ without_only n xs b.1 l.1

put_only : (b : Bool) (n : Name) (xs : List Name) → Below (suc n.0) xs → AtLeast n.0 xs → put b n xs ≡ (if b then n ∷ [] else [])
unfolding under over
put_only true n xs b l =
    ap (λ k. k ++ n ∷ filter (over n) xs) (drops_least (under n) n.0 (λ m le. le-ltb m.0 n.0 le) xs l)
    ∙ ap (λ k. n ∷ k) (drops_below (over n) (suc n.0) (λ m lt. le-ltb n.0 m.0 (omega arith)) xs b)
put_only false n xs b l = without_only n xs b l

-- ---- what the functions say

pub has_low : (n : Name) (from to : ℕ) (low high : Part) → n.0 < middle from to
    → is_among n (names_between from (middle from to) low ++ names_between (middle from to) to high) ≡ is_among n (names_between from (middle from to) low)
has_low n from to low high lt =
    among_low n (names_between from (middle from to) low) (names_between (middle from to) to high)
    (least_wider (suc n.0) (middle from to) (names_between (middle from to) to high) lt (part_least high (middle from to) to))

pub has_high : (n : Name) (from to : ℕ) (low high : Part) → middle from to ≤ n.0
    → is_among n (names_between from (middle from to) low ++ names_between (middle from to) to high) ≡ is_among n (names_between (middle from to) to high)
has_high n from to low high le =
    among_high n (names_between from (middle from to) low) (names_between (middle from to) to high)
    (below_wider (middle from to) n.0 (names_between from (middle from to) low) le (part_below low from (middle from to) (middle_from from to)))

pub has_lowest : (n : Name) (from to : ℕ) → from ≤ n.0 → n.0 < to → is_among n (names_between from to Lowest) ≡ nat_eq n.0 from
has_lowest n from to le lt =
    ap (λ b. is_among n (if b then record { 0 = from } ∷ [] else [])) (lt-ltb from to (omega arith)) ∙ or-false (nat_eq n.0 from)

pub puts_low : (b : Bool) (n : Name) (from to : ℕ) (low high : Part) → n.0 < middle from to
    → put b n (names_between from (middle from to) low ++ names_between (middle from to) to high) ≡ put b n (names_between from (middle from to) low) ++ names_between (middle from to) to high
puts_low b n from to low high lt =
    put_low b n (names_between from (middle from to) low) (names_between (middle from to) to high)
    (least_wider (suc n.0) (middle from to) (names_between (middle from to) to high) lt (part_least high (middle from to) to))

pub puts_high : (b : Bool) (n : Name) (from to : ℕ) (low high : Part) → middle from to ≤ n.0
    → put b n (names_between from (middle from to) low ++ names_between (middle from to) to high) ≡ names_between from (middle from to) low ++ put b n (names_between (middle from to) to high)
puts_high b n from to low high le =
    put_high b n (names_between from (middle from to) low) (names_between (middle from to) to high)
    (below_wider (middle from to) n.0 (names_between from (middle from to) low) le (part_below low from (middle from to) (middle_from from to)))

pub puts_only : (b : Bool) (n : Name) (from to : ℕ) (p : Part) → from ≤ n.0 → n.0 < to → to - from ≡ 1 → put b n (names_between from to p) ≡ (if b then n ∷ [] else [])
puts_only b n from to p le lt one =
    put_only b n (names_between from to p)
    (below_wider to (suc n.0) (names_between from to p) (omega arith) (part_below p from to (omega arith)))
    (least_wider n.0 from (names_between from to p) (omega arith) (part_least p from to))

-- the lowest name of a range that has only this one
pub lowest_is : (n : Name) (from to : ℕ) → from ≤ n.0 → n.0 < to → to - from ≡ 1 → names_between from to Lowest ≡ n ∷ []
lowest_is n from to le lt one =
    ap (λ b. if b then record { 0 = from } ∷ [] else []) (lt-ltb from to (omega arith)) ∙ ap (λ (k : ℕ). record { 0 = k } ∷ []) same
  where
    same : from ≡ n.0
    same = omega arith

-- the lowest name of a range of two numbers or more is in its lower half
pub lowest_in_half : (from to : ℕ) → suc from < to → names_between from (middle from to) Lowest ++ [] ≡ names_between from to Lowest
lowest_in_half from to lt =
    append-nil (names_between from (middle from to) Lowest)
    ∙ ap (λ b. if b then record { 0 = from } ∷ [] else []) (lt-ltb from (middle from to) (omega (arith, lt)) ∙ sym (lt-ltb from to (omega (arith, lt))))

-- a name that is not there need not go
pub without_absent : (n : Name) (ns : List Name) → is_among n ns ≡ false → without n ns ≡ ns
without_absent n [] h = refl
without_absent n (x ∷ xs) h =
    let parts = or_parts (nat_eq n.0 x.0) (is_among n xs) h in
    ap (λ b. cond (not b) (x ∷ without n xs) (without n xs)) (ne_eqb x.0 n.0 (λ e. eqb-false n.0 x.0 parts.0 (sym e)))
    ∙ ap (λ l. x ∷ l) (without_absent n xs parts.1)

-- the names in force once one comes into force: that one, and those that were
pub among_including : (m n : Name) (ns : List Name) → is_among m (including n ns) ≡ (nat_eq m.0 n.0 || is_among m ns)
unfolding under over
among_including m n ns =
    list_any-append (λ k. nat_eq m.0 k.0) (filter (under n) ns) (n ∷ filter (over n) ns)
    ∙ ap (λ b. b || (nat_eq m.0 n.0 || is_among m (filter (over n) ns))) (any-filter_same (λ k. nat_eq m.0 k.0) (under n) (nat_lt m.0 n.0) (λ k e. ap (λ z. nat_lt z n.0) (sym (eqb-true m.0 k.0 e))) ns)
    ∙ ap (λ b. (nat_lt m.0 n.0 && is_among m ns) || (nat_eq m.0 n.0 || b)) (any-filter_same (λ k. nat_eq m.0 k.0) (over n) (nat_lt n.0 m.0) (λ k e. ap (λ z. nat_lt n.0 z) (sym (eqb-true m.0 k.0 e))) ns)
    ∙ elim (cases_order m.0 n.0) [
      | inl e ↦ rw (eq-eqb m.0 n.0 e, le-ltb m.0 n.0 (omega (arith, e))) refl
      | inr o ↦ elim o [
        | inl lt ↦ rw (lt-ltb m.0 n.0 lt, ne_eqb m.0 n.0 (λ e. omega (arith, lt)), le-ltb n.0 m.0 (omega (arith, lt))) (or-false (is_among m ns))
        | inr gt ↦ rw (le-ltb m.0 n.0 (omega (arith, gt)), ne_eqb m.0 n.0 (λ e. omega (arith, gt)), lt-ltb n.0 m.0 gt) refl
      ]
    ]
