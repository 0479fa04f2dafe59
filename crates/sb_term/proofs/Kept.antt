-- what terms keep when they are made from others
use Rattle.std.proofs.Common.{◌≡◌, ◌↔◌, IsTrue, ℕ, zero, suc, ◌≤◌, List, [], ◌∷◌, Bool, true, false, nat_lt, ◌&&◌, ◌==◌, ℤ, pos, negsuc, ◌+ℤ◌, ◌*ℤ◌, if◌then◌else◌, refl, ap, ◌∙◌, arith}
use Rattle.std.proofs.lemmas.Bool.{ltb-true, ltb-false, and_parts, and_from}
use Rattle.std.proofs.lemmas.Bool.Decides.{Decides-eqb, Decides-int_eq}
use Rattle.std.specs.Ordering.{int_eq}
use Rattle.sb_term.specs.declared.entry.Entry.{Entry}
use Rattle.sb_term.specs.Linear.{Linear, keep, scaled_entries, merge_one, merged, is_short, are_narrow, AreRising, HaveNoZero, IsTerm}

pub HaveNoZero-keep : (s : ℕ) (c : ℤ) (es : List Entry) → HaveNoZero es → HaveNoZero (keep s c es)
HaveNoZero-keep s (pos zero) es h = h
HaveNoZero-keep s (pos (suc n)) es h = ((λ e. cc), h)
HaveNoZero-keep s (negsuc n) es h = ((λ e. cc), h)

pub HaveNoZero-scaled_entries : (c : ℤ) (es : List Entry) → HaveNoZero (scaled_entries c es)
HaveNoZero-scaled_entries c [] = tt
HaveNoZero-scaled_entries c (e ∷ es) = HaveNoZero-keep e.symbol (c *ℤ e.coefficient) (scaled_entries c es) (HaveNoZero-scaled_entries c es)

HaveNoZero-merge_one : (a b : ℤ) (e : Entry) (more : List Entry → List Entry) → ((gs : List Entry) → HaveNoZero (more gs))
    → (fs : List Entry) → HaveNoZero (merge_one a b e more fs)
HaveNoZero-merge_one a b e more h [] = HaveNoZero-keep e.symbol (a *ℤ e.coefficient) (more []) (h [])
HaveNoZero-merge_one a b e more h (f ∷ fs) =
    by (nat_lt e.symbol f.symbol) (nat_lt f.symbol e.symbol) (HaveNoZero-merge_one a b e more h fs)
  where
    by : (v w : Bool) → HaveNoZero (merge_one a b e more fs)
        → HaveNoZero (if v then keep e.symbol (a *ℤ e.coefficient) (more (f ∷ fs))
        else (if w then keep f.symbol (b *ℤ f.coefficient) (merge_one a b e more fs)
        else keep e.symbol ((a *ℤ e.coefficient) +ℤ (b *ℤ f.coefficient)) (more fs)))
    by true w r = HaveNoZero-keep e.symbol (a *ℤ e.coefficient) (more (f ∷ fs)) (h (f ∷ fs))
    by false true r = HaveNoZero-keep f.symbol (b *ℤ f.coefficient) (merge_one a b e more fs) r
    by false false r = HaveNoZero-keep e.symbol ((a *ℤ e.coefficient) +ℤ (b *ℤ f.coefficient)) (more fs) (h fs)

pub HaveNoZero-merged : (a b : ℤ) (es fs : List Entry) → HaveNoZero (merged a b es fs)
HaveNoZero-merged a b [] fs = HaveNoZero-scaled_entries b fs
HaveNoZero-merged a b (e ∷ es) fs = HaveNoZero-merge_one a b e (λ gs. merged a b es gs) (λ gs. HaveNoZero-merged a b es gs) fs

pub AreRising-lower : (m n : ℕ) → m ≤ n → (es : List Entry) → AreRising n es → AreRising m es
AreRising-lower m n le [] h = tt
AreRising-lower m n le (e ∷ es) h = let k : n ≤ e.symbol = h.0 in (omega arith, h.1)

pub AreRising-keep : (m s : ℕ) (c : ℤ) (es : List Entry) → m ≤ s → AreRising (suc s) es → AreRising m (keep s c es)
AreRising-keep m s (pos zero) es le h = AreRising-lower m (suc s) (omega arith) es h
AreRising-keep m s (pos (suc n)) es le h = (le, h)
AreRising-keep m s (negsuc n) es le h = (le, h)

pub AreRising-scaled_entries : (m : ℕ) (c : ℤ) (es : List Entry) → AreRising m es → AreRising m (scaled_entries c es)
AreRising-scaled_entries m c [] h = tt
AreRising-scaled_entries m c (e ∷ es) h =
    AreRising-keep m e.symbol (c *ℤ e.coefficient) (scaled_entries c es) h.0 (AreRising-scaled_entries (suc e.symbol) c es h.1)

AreRising-merge_one : (m : ℕ) (a b : ℤ) (e : Entry) (more : List Entry → List Entry) → m ≤ e.symbol
    → ((gs : List Entry) → AreRising (suc e.symbol) gs → AreRising (suc e.symbol) (more gs))
    → (fs : List Entry) → AreRising m fs → AreRising m (merge_one a b e more fs)
AreRising-merge_one m a b e more le h [] r = AreRising-keep m e.symbol (a *ℤ e.coefficient) (more []) le (h [] tt)
AreRising-merge_one m a b e more le h (f ∷ fs) r =
    by (nat_lt e.symbol f.symbol) (nat_lt f.symbol e.symbol) refl refl
    (λ k. AreRising-merge_one (suc f.symbol) a b e more k h fs r.1)
  where
    by : (v w : Bool) → nat_lt e.symbol f.symbol ≡ v → nat_lt f.symbol e.symbol ≡ w
        → (suc f.symbol ≤ e.symbol → AreRising (suc f.symbol) (merge_one a b e more fs))
        → AreRising m (if v then keep e.symbol (a *ℤ e.coefficient) (more (f ∷ fs))
        else (if w then keep f.symbol (b *ℤ f.coefficient) (merge_one a b e more fs)
        else keep e.symbol ((a *ℤ e.coefficient) +ℤ (b *ℤ f.coefficient)) (more fs)))
    by true w tv tw k =
        let lt = ltb-true e.symbol f.symbol tv in
        AreRising-keep m e.symbol (a *ℤ e.coefficient) (more (f ∷ fs)) le (h (f ∷ fs) (omega arith, r.1))
    by false true tv tw k =
        let lt = ltb-true f.symbol e.symbol tw in
        AreRising-keep m f.symbol (b *ℤ f.coefficient) (merge_one a b e more fs) r.0 (k (omega arith))
    by false false tv tw k =
        let ge = ltb-false f.symbol e.symbol tw in
        AreRising-keep m e.symbol ((a *ℤ e.coefficient) +ℤ (b *ℤ f.coefficient)) (more fs) le
        (h fs (AreRising-lower (suc e.symbol) (suc f.symbol) (omega arith) fs r.1))

pub AreRising-merged : (m : ℕ) (a b : ℤ) (es fs : List Entry) → AreRising m es → AreRising m fs → AreRising m (merged a b es fs)
AreRising-merged m a b [] fs re rf = AreRising-scaled_entries m b fs rf
AreRising-merged m a b (e ∷ es) fs re rf =
    AreRising-merge_one m a b e (λ gs. merged a b es gs) re.0 (λ gs rg. AreRising-merged (suc e.symbol) a b es gs re.1 rg) fs rf

pub merged_term : (a b : ℤ) (xs ys items : List Entry) (rest : ℤ) → AreRising 0 xs → AreRising 0 ys → items ≡ merged a b xs ys
    → are_narrow (merged a b xs ys) ≡ true → is_short rest ≡ true → IsTerm (record { entries = items; rest = rest })
merged_term a b xs ys items rest rx ry e narrow short = record {
  rising = rw e (AreRising-merged 0 a b xs ys rx ry);
  no_zero = rw e (HaveNoZero-merged a b xs ys);
  narrow = ap are_narrow e ∙ narrow;
  short = short;
}

pub scaled_term : (c : ℤ) (xs items : List Entry) (rest : ℤ) → AreRising 0 xs → items ≡ scaled_entries c xs
    → are_narrow (scaled_entries c xs) ≡ true → is_short rest ≡ true → IsTerm (record { entries = items; rest = rest })
scaled_term c xs items rest rx e narrow short = record {
  rising = rw e (AreRising-scaled_entries 0 c xs rx);
  no_zero = rw e (HaveNoZero-scaled_entries c xs);
  narrow = ap are_narrow e ∙ narrow;
  short = short;
}

-- two terms are one exactly where entries and constants are
pub same_terms : (t u : Linear) (b : Bool) → t.rest ≡ u.rest → (IsTrue b ↔ (t.entries ≡ u.entries)) → IsTrue b ↔ (t ≡ u)
same_terms t u b r h =
    let both : t.entries ≡ u.entries → t ≡ u =
    λ (e : t.entries ≡ u.entries). ap (λ es. record { entries = es; rest = t.rest }) e ∙ ap (λ z. record { entries = u.entries; rest = z }) r in
    (λ is. both (h.0 is), λ e. h.1 (ap (λ (v : Linear). v.entries) e))

-- the derived test decides whether two entries are one
pub entries_decide : (x y : Entry)
    → (((x.symbol == y.symbol) && int_eq x.coefficient y.coefficient) ≡ true → x ≡ y)
    × (x ≡ y → ((x.symbol == y.symbol) && int_eq x.coefficient y.coefficient) ≡ true)
entries_decide x y = (
  λ h. one (and_parts (x.symbol == y.symbol) (int_eq x.coefficient y.coefficient) h),
  λ e. and_from (x.symbol == y.symbol) (int_eq x.coefficient y.coefficient)
      ((Decides-eqb x.symbol y.symbol).1 (ap (λ (z : Entry). z.symbol) e)) ((Decides-int_eq x.coefficient y.coefficient).1 (ap (λ (z : Entry). z.coefficient) e)),
)
  where
    one : ((x.symbol == y.symbol) ≡ true) × (int_eq x.coefficient y.coefficient ≡ true) → x ≡ y
    one p =
        ap (λ n. record { symbol = n; coefficient = x.coefficient }) ((Decides-eqb x.symbol y.symbol).0 p.0)
        ∙ ap (λ z. record { symbol = y.symbol; coefficient = z }) ((Decides-int_eq x.coefficient y.coefficient).0 p.1)
