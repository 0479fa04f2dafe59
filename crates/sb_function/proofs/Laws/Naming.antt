-- Lists of names: what is among them, which differ, and a name that is new.
use Rattle.std.proofs.Common.{◌≡◌, ◌⊎◌, ◌≤◌, ℕ, suc, max, Bool, true, false, not, ◌||◌, ◌&&◌, List, [], ◌∷◌, ◌++◌, length, nat_eq, if◌then◌else◌, refl, sym, ap, ◌∙◌, inl, inr, ne_eqb, subst, true≢false, arith}
use Rattle.sb_base.specs.declared.interning.Name.{Name}
use Rattle.sb_function.specs.Grammar.{same_name, is_among, AreDistinct}
use Rattle.sb_function.specs.Params.{without}
use Rattle.sb_function.proofs.Laws.Distinct.{same_name_is, same_name_refl}

-- ---- tests

pub both_true : (a b : Bool) → (a && b) ≡ true → (a ≡ true) × (b ≡ true)
both_true true b h = (refl, h)
both_true false b h = absurd (cc h)

pub not_true : (a : Bool) → not a ≡ true → a ≡ false
not_true true h = absurd (cc h)
not_true false h = refl

pub not_false : (a : Bool) → not a ≡ false → a ≡ true
not_false true h = refl
not_false false h = absurd (cc h)

pub one_of : (a b : Bool) → (a || b) ≡ true → (a ≡ true) ⊎ (b ≡ true)
one_of true b h = inl refl
one_of false b h = inr h

pub or_first : (a b : Bool) → a ≡ true → (a || b) ≡ true
or_first a b h = ap (λ z. z || b) h

pub or_second : (a b : Bool) → b ≡ true → (a || b) ≡ true
or_second true b h = refl
or_second false b h = h

pub and_both : (a b : Bool) → a ≡ true → b ≡ true → (a && b) ≡ true
and_both a b h k = ap (λ z. z && b) h ∙ k

pub or_neither : (a b : Bool) → (a || b) ≡ false → (a ≡ false) × (b ≡ false)
or_neither true b h = absurd (cc h)
or_neither false b h = (refl, h)

pub true_or_false : (a : Bool) → (a ≡ true) ⊎ (a ≡ false)
true_or_false true = inl refl
true_or_false false = inr refl

pub never_both : {A : Type 0} (a : Bool) → a ≡ true → a ≡ false → A
never_both a h k = absurd (true≢false (sym h ∙ k))

pub false_if : (a : Bool) → (a ≡ true → ⊥) → a ≡ false
false_if true h = absurd (h refl)
false_if false h = refl

-- ---- what is among names

pub same_name_sym : (a b : Name) → same_name a b ≡ true → same_name b a ≡ true
same_name_sym a b h = ap (λ z. same_name b z) (same_name_is a b h) ∙ same_name_refl b

pub among_append : (n : Name) (xs ys : List Name) → is_among n xs ≡ true → is_among n (xs ++ ys) ≡ true
among_append n [] ys h = absurd (cc h)
among_append n (x ∷ xs) ys h = elim (one_of (same_name n x) (is_among n xs) h) [ inl e ↦ or_first (same_name n x) (is_among n (xs ++ ys)) e | inr e ↦ or_second (same_name n x) (is_among n (xs ++ ys)) (among_append n xs ys e) ]

pub among_later : (n : Name) (xs ys : List Name) → is_among n ys ≡ true → is_among n (xs ++ ys) ≡ true
among_later n [] ys h = h
among_later n (x ∷ xs) ys h = or_second (same_name n x) (is_among n (xs ++ ys)) (among_later n xs ys h)

pub among_either : (n : Name) (xs ys : List Name) → is_among n (xs ++ ys) ≡ true → (is_among n xs ≡ true) ⊎ (is_among n ys ≡ true)
among_either n [] ys h = inr h
among_either n (x ∷ xs) ys h = elim (one_of (same_name n x) (is_among n (xs ++ ys)) h) [
  | inl e ↦ inl (or_first (same_name n x) (is_among n xs) e)
  | inr e ↦ elim (among_either n xs ys e) [ inl f ↦ inl (or_second (same_name n x) (is_among n xs) f) | inr f ↦ inr f ]
]

pub among_one : (n m : Name) → is_among n (m ∷ []) ≡ true → n ≡ m
among_one n m h = elim (one_of (same_name n m) false h) [ inl e ↦ same_name_is n m e | inr e ↦ absurd (cc e) ]

pub among_head : (n : Name) (xs : List Name) → is_among n (n ∷ xs) ≡ true
among_head n xs = or_first (same_name n n) (is_among n xs) (same_name_refl n)

-- ---- names that differ

pub distinct_append : (xs : List Name) (n : Name) → AreDistinct xs → is_among n xs ≡ false → AreDistinct (xs ++ (n ∷ []))
distinct_append [] n d h = (refl, tt)
distinct_append (x ∷ xs) n d h =
    let two : (same_name n x ≡ false) × (is_among n xs ≡ false) = or_neither (same_name n x) (is_among n xs) h in (
      false_if (is_among x (xs ++ (n ∷ []))) (λ e. elim (among_either x xs (n ∷ []) e) [
        | inl f ↦ never_both (is_among x xs) f d.0
        | inr f ↦ never_both (same_name n x) (ap (λ z. same_name n z) (among_one x n f) ∙ same_name_refl n) two.0
      ]),
      distinct_append xs n d.1 two.1,
    )

-- no name of the first part comes in the second
pub apart_in : (xs ys : List Name) (n : Name) → AreDistinct (xs ++ ys) → is_among n xs ≡ true → is_among n ys ≡ false
apart_in [] ys n d h = absurd (cc h)
apart_in (x ∷ xs) ys n d h = elim (one_of (same_name n x) (is_among n xs) h) [
  | inl e ↦ false_if (is_among n ys) (λ f. never_both (is_among x (xs ++ ys)) (ap (λ z. is_among z (xs ++ ys)) (sym (same_name_is n x e)) ∙ among_later n xs ys f) d.0)
  | inr e ↦ apart_in xs ys n d.1 e
]

pub apart_back : (xs ys : List Name) (n : Name) → AreDistinct (xs ++ ys) → is_among n ys ≡ true → is_among n xs ≡ false
apart_back xs ys n d h = false_if (is_among n xs) (λ e. never_both (is_among n ys) h (apart_in xs ys n d e))

pub distinct_later : (xs ys : List Name) → AreDistinct (xs ++ ys) → AreDistinct ys
distinct_later [] ys d = d
distinct_later (x ∷ xs) ys d = distinct_later xs ys d.1

-- ---- a list without a name

pub without_in : (n m : Name) (xs : List Name) → is_among m (without n xs) ≡ true → is_among m xs ≡ true
without_in n m [] h = h
without_in n m (x ∷ xs) h = go (same_name n x) h (without_in n m xs)
  where
    later : is_among m xs ≡ true → (same_name m x || is_among m xs) ≡ true
    later e = or_second (same_name m x) (is_among m xs) e

    go : (b : Bool) → is_among m (if b then xs else x ∷ without n xs) ≡ true → (is_among m (without n xs) ≡ true → is_among m xs ≡ true) → (same_name m x || is_among m xs) ≡ true
    go true k more = later k
    go false k more = elim (one_of (same_name m x) (is_among m (without n xs)) k) [ inl e ↦ or_first (same_name m x) (is_among m xs) e | inr e ↦ later (more e) ]

pub distinct_without : (n : Name) (xs : List Name) → AreDistinct xs → AreDistinct (without n xs)
distinct_without n [] d = tt
distinct_without n (x ∷ xs) d = go (same_name n x) (distinct_without n xs d.1)
  where
    go : (b : Bool) → AreDistinct (without n xs) → AreDistinct (if b then xs else x ∷ without n xs)
    go true k = d.1
    go false k = (false_if (is_among x (without n xs)) (λ e. never_both (is_among x xs) (without_in n x xs e) d.0), k)

pub gone_without : (n : Name) (xs : List Name) → AreDistinct xs → is_among n (without n xs) ≡ false
gone_without n [] d = refl
gone_without n (x ∷ xs) d = go (same_name n x) refl (gone_without n xs d.1)
  where
    go : (b : Bool) → same_name n x ≡ b → is_among n (without n xs) ≡ false → is_among n (if b then xs else x ∷ without n xs) ≡ false
    go true e k = ap (λ z. is_among z xs) (same_name_is n x e) ∙ d.0
    go false e k = ap (λ b. b || is_among n (without n xs)) e ∙ k

pub stays_without : (n m : Name) (xs : List Name) → is_among m xs ≡ true → same_name n m ≡ false → is_among m (without n xs) ≡ true
stays_without n m [] h k = h
stays_without n m (x ∷ xs) h k = go (same_name n x) refl (one_of (same_name m x) (is_among m xs) h) (λ f. stays_without n m xs f k)
  where
    go : (b : Bool) → same_name n x ≡ b → (same_name m x ≡ true) ⊎ (is_among m xs ≡ true) → (is_among m xs ≡ true → is_among m (without n xs) ≡ true) → is_among m (if b then xs else x ∷ without n xs) ≡ true
    go true e (inl f) more = never_both (same_name n m) (ap (same_name n) (same_name_is m x f) ∙ e) k
    go true e (inr f) more = f
    go false e (inl f) more = or_first (same_name m x) (is_among m (without n xs)) f
    go false e (inr f) more = or_second (same_name m x) (is_among m (without n xs)) (more f)

-- at most one goes
pub length_without : (n : Name) (xs : List Name) → length xs ≤ suc (length (without n xs))
length_without n [] = omega arith
length_without n (x ∷ xs) = go (same_name n x) (length_without n xs)
  where
    go : (b : Bool) → length xs ≤ suc (length (without n xs)) → suc (length xs) ≤ suc (length (if b then xs else x ∷ without n xs))
    go true h = omega arith
    go false h = omega arith

-- one goes if it is there
pub shorter_without : (n : Name) (xs : List Name) → is_among n xs ≡ true → suc (length (without n xs)) ≡ length xs
shorter_without n [] h = absurd (cc h)
shorter_without n (x ∷ xs) h = go (same_name n x) refl h (shorter_without n xs)
  where
    go : (b : Bool) → same_name n x ≡ b → (same_name n x || is_among n xs) ≡ true → (is_among n xs ≡ true → suc (length (without n xs)) ≡ length xs) → suc (length (if b then xs else x ∷ without n xs)) ≡ suc (length xs)
    go true e k more = refl
    go false e k more = elim (one_of (same_name n x) (is_among n xs) k) [
      | inl f ↦ never_both (same_name n x) f e
      | inr f ↦ ap suc (more f)
    ]

pub same_without : (n : Name) (xs : List Name) → is_among n xs ≡ false → length (without n xs) ≡ length xs
same_without n [] h = refl
same_without n (x ∷ xs) h =
    let two : (same_name n x ≡ false) × (is_among n xs ≡ false) = or_neither (same_name n x) (is_among n xs) h in
    ap (λ b. length (if b then xs else x ∷ without n xs)) two.0 ∙ ap suc (same_without n xs two.1)

-- ---- a name that is new

abbrev above : List Name → ℕ
above [] = 0
above (n ∷ rest) = max (suc (n).0) (above rest)

above_all : (k : ℕ) (ns : List Name) → above ns ≤ k → is_among (record { 0 = k }) ns ≡ false
above_all k [] h = refl
above_all k (n ∷ rest) h =
    let here : suc (n).0 ≤ k = omega arith in
    let later : above rest ≤ k = omega arith in
    let other : nat_eq k (n).0 ≡ false = ne_eqb k (n).0 (λ e. (let less : suc (n).0 ≤ (n).0 = subst (λ z. suc (n).0 ≤ z) e here in omega arith)) in
    ap (λ b. b || is_among (record { 0 = k }) rest) other ∙ above_all k rest later

abbrev pub new_to : List Name → Name
new_to ns = record { 0 = above ns }

pub is_new : (ns : List Name) → is_among (new_to ns) ns ≡ false
is_new ns = above_all (above ns) ns (omega arith)
