-- A table with one more type.
use Rattle.std.proofs.Common.{◌≡◌, ℕ, ◌<◌, ◌≤◌, Bool, true, false, List, [], ◌∷◌, ◌++◌, length, get_or, set, Option, Some, None, slice_get, refl, sym, ap, ◌∙◌, arith, inl, inr}
use Rattle.std.specs.Prelude.{is_some, ◌⊎◌, if◌then◌else◌}
use Rattle.std.proofs.lemmas.Bool.Decides.{nat_tests}
use Rattle.std.proofs.lemmas.Option.{slice_get_within}
use Rattle.std.proofs.lemmas.Bool.{cases_eq}
use Rattle.sb_base.proofs.Texts.{slice_get-push_last, push_places}
use Rattle.sb_core.specs.declared.layout.Base.{Base}
use Rattle.sb_core.specs.declared.types.Kind.{Kind}
use Rattle.sb_core.specs.declared.types.Kind.TheVariants as kind
use Rattle.sb_core.specs.declared.types.TypeId.{TypeId}
use Rattle.sb_core.specs.Layout.{base_at, base_of}
use Rattle.sb_layout.specs.Faults.{IsSmall, Extends}
use Rattle.sb_layout.proofs.Knowing.{base_of_later}
use Rattle.sb_typing.specs.Classes.{is_complete, is_complete_kind}
use Rattle.sb_types.specs.Arrays.{same_pair}
use Rattle.sb_types.specs.Table.{IsTable, AreArrays, IsLaid, pointer_at}
use Rattle.sb_types.proofs.Places.{stays, found_stays, found_before, found_last, found_set, found_other, found_still, found_places, same_length, length_more, length_set}

extends : (bs : List (Option Base)) (o : Option Base) → Extends bs (bs ++ o ∷ [])
extends bs o t b h = found_stays bs o b t h

at_kind : (known : List (Option Base)) (k l : Kind) (b : Base) → k ≡ l → base_of known k ≡ Some b → base_of known l ≡ Some b
at_kind known k l b e h = rw (← e) h

laid_more : (ks : List Kind) (bs : List (Option Base)) (k : Kind) (o : Option Base) → length bs ≡ length ks
    → ((t : ℕ) (k : Kind) (b : Base) → slice_get ks t ≡ Some k → base_at bs t ≡ Some b → base_of bs k ≡ Some b) → IsLaid bs k o
    → (t : ℕ) (l : Kind) (b : Base) → slice_get (ks ++ k ∷ []) t ≡ Some l → base_at (bs ++ o ∷ []) t ≡ Some b → base_of (bs ++ o ∷ []) l ≡ Some b
laid_more ks bs k o e h new t l b at is = elim (push_places ks k l t at) [
  | inl there ↦
      let within : t < length ks = slice_get_within ks t l there in
      base_of_later bs (bs ++ o ∷ []) (extends bs o) l b (h t l b there (sym (found_before bs o t (omega arith)) ∙ is))
  | inr last ↦
      let here : o ≡ Some b = sym (found_last bs o t (last.0 ∙ sym e)) ∙ is in
      base_of_later bs (bs ++ o ∷ []) (extends bs o) l b (at_kind bs k l b last.1 (new b here).0)
]

complete_more : (ks : List Kind) (bs : List (Option Base)) (k : Kind) (o : Option Base) → length bs ≡ length ks
    → ((t : ℕ) (k : Kind) → slice_get ks t ≡ Some k → is_some (base_at bs t) ≡ is_complete_kind (Some k)) → is_some o ≡ is_complete_kind (Some k)
    → (t : ℕ) (l : Kind) → slice_get (ks ++ k ∷ []) t ≡ Some l → is_some (base_at (bs ++ o ∷ []) t) ≡ is_complete_kind (Some l)
complete_more ks bs k o e h new t l at = elim (push_places ks k l t at) [
  | inl there ↦
      let within : t < length ks = slice_get_within ks t l there in
      ap (λ (b : Option Base). is_some b) (found_before bs o t (omega arith)) ∙ h t l there
  | inr last ↦
      ap (λ (b : Option Base). is_some b) (found_last bs o t (last.0 ∙ sym e)) ∙ new ∙ ap (λ (x : Kind). is_complete_kind (Some x)) last.1
]

small_more : (bs : List (Option Base)) (k : Kind) (o : Option Base) → ((t : ℕ) (b : Base) → base_at bs t ≡ Some b → IsSmall b) → IsLaid bs k o
    → (t : ℕ) (b : Base) → base_at (bs ++ o ∷ []) t ≡ Some b → IsSmall b
small_more bs k o h new t b is = elim (found_places bs o b t is) [ inl there ↦ h t b there | inr here ↦ (new b here).1 ]

-- a type that is no pointer
pub added : (ks : List Kind) (bs : List (Option Base)) (ps : List (Option TypeId)) → IsTable ks bs ps → (k : Kind) (o : Option Base) → IsLaid bs k o
    → is_some o ≡ is_complete_kind (Some k) → ((t : TypeId) → k ≡ kind.Pointer t → ⊥) → IsTable (ks ++ k ∷ []) (bs ++ o ∷ []) (ps ++ None ∷ [])
added ks bs ps h k o laid complete other = record {
  bases_beside = same_length bs ks o k h.bases_beside;
  pointers_beside = same_length ps ks None k h.pointers_beside;
  laid_out = laid_more ks bs k o h.bases_beside h.laid_out laid;
  complete = complete_more ks bs k o h.bases_beside h.complete complete;
  small = small_more bs k o h.small laid;
  pointer = λ t p e. stays ks k (kind.Pointer (record { 0 = t })) p.0 (h.pointer t p (found_still ps p t e));
  once = λ t p e. elim (push_places ks k (kind.Pointer (record { 0 = t })) p e) [
    | inl there ↦ found_stays ps None (record { 0 = p }) t (h.once t p there)
    | inr last ↦ absurd (other (record { 0 = t }) last.1)
  ];
}

-- ---- a pointer

same_target : (t u : TypeId) → kind.Pointer t ≡ kind.Pointer u → t.0 ≡ u.0
same_target t u e = let same : t ≡ u = cc in ap (λ (x : TypeId). x.0) same

same_pointer : (p q : TypeId) → Some p ≡ Some q → p.0 ≡ q.0
same_pointer p q e = let same : p ≡ q = cc in ap (λ (x : TypeId). x.0) same

abbrev type_at : ℕ → TypeId
type_at n = record { 0 = n }

with_pointer : (ps : List (Option TypeId)) (t : ℕ) (p : TypeId) → t < length ps → pointer_at (set (ps ++ None ∷ []) t (Some p)) t ≡ Some p
with_pointer ps t p l = found_set (ps ++ None ∷ []) (Some p) t (omega (arith, length_more ps None))

pointer_more : (ks : List Kind) (ps : List (Option TypeId)) (t p : TypeId) → t.0 < length ps → p.0 ≡ length ks
    → ((u : ℕ) (q : TypeId) → pointer_at ps u ≡ Some q → slice_get ks q.0 ≡ Some (kind.Pointer (type_at u)))
    → (u : ℕ) (q : TypeId) → pointer_at (set (ps ++ None ∷ []) t.0 (Some p)) u ≡ Some q → slice_get (ks ++ kind.Pointer t ∷ []) q.0 ≡ Some (kind.Pointer (type_at u))
pointer_more ks ps t p l e h u q at = elim (cases_eq t.0 u) [
  | inl same ↦
      let found_p : Some p ≡ Some q = sym (with_pointer ps t.0 p l) ∙ ap (λ n. pointer_at (set (ps ++ None ∷ []) t.0 (Some p)) n) same ∙ at in
      ap (λ n. slice_get (ks ++ kind.Pointer t ∷ []) n) (sym (same_pointer p q found_p) ∙ e) ∙ slice_get-push_last ks (kind.Pointer t)
      ∙ ap (λ n. Some (kind.Pointer (type_at n))) same
  | inr apart ↦
      stays ks (kind.Pointer t) (kind.Pointer (type_at u)) q.0
      (h u q (found_still ps q u (sym (found_other (ps ++ None ∷ []) (Some p) t.0 u apart) ∙ at)))
]

once_more : (ks : List Kind) (ps : List (Option TypeId)) (t p : TypeId) → t.0 < length ps → p.0 ≡ length ks → pointer_at ps t.0 ≡ None
    → ((u q : ℕ) → slice_get ks q ≡ Some (kind.Pointer (type_at u)) → pointer_at ps u ≡ Some (type_at q))
    → (u q : ℕ) → slice_get (ks ++ kind.Pointer t ∷ []) q ≡ Some (kind.Pointer (type_at u)) → pointer_at (set (ps ++ None ∷ []) t.0 (Some p)) u ≡ Some (type_at q)
once_more ks ps t p l e absent h u q at = elim (push_places ks (kind.Pointer t) (kind.Pointer (type_at u)) q at) [
  | inl there ↦
      let before : pointer_at ps u ≡ Some (type_at q) = h u q there in
      let apart : t.0 ≡ u → ⊥ = λ same. (let both : None ≡ Some (type_at q) = sym absent ∙ ap (pointer_at ps) same ∙ before in cc) in
      found_other (ps ++ None ∷ []) (Some p) t.0 u apart ∙ found_stays ps None (type_at q) u before
  | inr last ↦
      let same : t.0 ≡ u = same_target t (type_at u) last.1 in
      ap (λ n. pointer_at (set (ps ++ None ∷ []) t.0 (Some p)) n) (sym same) ∙ with_pointer ps t.0 p l ∙ ap (λ n. Some (type_at n)) (e ∙ sym last.0)
]

abbrev pointer_base : Base
pointer_base = record { size = 8; align = 8 }

pointer_small : IsSmall pointer_base
pointer_small = record { size = omega arith; positive = omega arith; most = omega arith }

small_along : (b : Base) → pointer_base ≡ b → IsSmall b
small_along b e = rw (← e) pointer_small

same_base : (a b : Base) → Some a ≡ Some b → a ≡ b
same_base a b e = cc

pub pointer_added : (ks : List Kind) (bs : List (Option Base)) (ps : List (Option TypeId)) → IsTable ks bs ps → (t p : TypeId) → t.0 < length ks → p.0 ≡ length ks
    → pointer_at ps t.0 ≡ None → IsTable (ks ++ kind.Pointer t ∷ []) (bs ++ Some pointer_base ∷ []) (set (ps ++ None ∷ []) t.0 (Some p))
pointer_added ks bs ps h t p l e absent =
    let laid : IsLaid bs (kind.Pointer t) (Some pointer_base) = λ b is. (is, small_along b (same_base pointer_base b is)) in
    let within : t.0 < length ps = omega (arith, h.pointers_beside) in
    record {
      bases_beside = same_length bs ks (Some pointer_base) (kind.Pointer t) h.bases_beside;
      pointers_beside = length_set (ps ++ None ∷ []) (Some p) t.0 ∙ same_length ps ks None (kind.Pointer t) h.pointers_beside;
      laid_out = laid_more ks bs (kind.Pointer t) (Some pointer_base) h.bases_beside h.laid_out laid;
      complete = complete_more ks bs (kind.Pointer t) (Some pointer_base) h.bases_beside h.complete refl;
      small = small_more bs (kind.Pointer t) (Some pointer_base) h.small laid;
      pointer = pointer_more ks ps t p within e h.pointer;
      once = once_more ks ps t p within e absent h.once;
    }

pub absent_at : (o : Option TypeId) (ps : List (Option TypeId)) (t : ℕ) → o ≡ get_or ps t o → o ≡ None → pointer_at ps t ≡ None
absent_at None ps t e h = sym e
absent_at (Some p) ps t e h = absurd (cc)

-- ---- arrays

pub arrays_stay : (ks : List Kind) (k : Kind) (f : ℕ → ℕ → Option TypeId) → AreArrays ks f → ((t : TypeId) (n : ℕ) → k ≡ kind.Array t n → ⊥) → AreArrays (ks ++ k ∷ []) f
arrays_stay ks k f h other = record {
  found = λ of count t e. stays ks k (kind.Array (type_at of) count) t.0 (h.found of count t e);
  once = λ of count t e. elim (push_places ks k (kind.Array (type_at of) count) t e) [
    | inl there ↦ h.once of count t there
    | inr last ↦ absurd (other (type_at of) count last.1)
  ];
}

same_pairs : (a b c d : ℕ) → a ≡ c → b ≡ d → same_pair (a, b) (c, d) ≡ true
same_pairs a b c d h k = grind (arith, nat_tests)

pairs_same : (a b c d : ℕ) → same_pair (a, b) (c, d) ≡ true → (a ≡ c) × (b ≡ d)
pairs_same a b c d h = (grind (arith, nat_tests), grind (arith, nat_tests))

chosen_yes : (x : Bool) (p q : Option TypeId) → x ≡ true → (if x then p else q) ≡ p
chosen_yes true p q h = refl
chosen_yes false p q h = absurd (cc)

chosen_no : (x : Bool) (p q : Option TypeId) → x ≡ false → (if x then p else q) ≡ q
chosen_no true p q h = absurd (cc)
chosen_no false p q h = refl

test_cases : (x : Bool) → (x ≡ true) ⊎ (x ≡ false)
test_cases true = inl refl
test_cases false = inr refl

element_of : (t u : TypeId) (m n : ℕ) → kind.Array t m ≡ kind.Array u n → (t.0 ≡ u.0) × (m ≡ n)
element_of t u m n e = let same : t ≡ u = cc in (ap (λ (x : TypeId). x.0) same, cc)

-- the function with one more array
abbrev pub IsMore : (f g : ℕ → ℕ → Option TypeId) → ℕ × ℕ → TypeId → Type 0
IsMore f g pair t = (of count : ℕ) → g of count ≡ (if same_pair pair (of, count) then Some t else f of count)

array_found : (ks : List Kind) (f g : ℕ → ℕ → Option TypeId) (e t : TypeId) (n : ℕ) → AreArrays ks f → IsMore f g (e.0, n) t → t.0 ≡ length ks
    → (of count : ℕ) (s : TypeId) → g of count ≡ Some s → slice_get (ks ++ kind.Array e n ∷ []) s.0 ≡ Some (kind.Array (type_at of) count)
array_found ks f g e t n h more last of count s at = elim (test_cases (same_pair (e.0, n) (of, count))) [
  | inl one ↦
      let there : Some t ≡ Some s = sym (chosen_yes (same_pair (e.0, n) (of, count)) (Some t) (f of count) one) ∙ sym (more of count) ∙ at in
      let parts = pairs_same e.0 n of count one in
      ap (λ i. slice_get (ks ++ kind.Array e n ∷ []) i) (sym (same_pointer t s there) ∙ last) ∙ slice_get-push_last ks (kind.Array e n)
      ∙ ap (λ i. Some (kind.Array (type_at i) n)) parts.0 ∙ ap (λ i. Some (kind.Array (type_at of) i)) parts.1
  | inr apart ↦
      stays ks (kind.Array e n) (kind.Array (type_at of) count) s.0
      (h.found of count s (sym (chosen_no (same_pair (e.0, n) (of, count)) (Some t) (f of count) apart) ∙ sym (more of count) ∙ at))
]

array_once : (ks : List Kind) (f g : ℕ → ℕ → Option TypeId) (e t : TypeId) (n : ℕ) → AreArrays ks f → IsMore f g (e.0, n) t → t.0 ≡ length ks → f e.0 n ≡ None
    → (of count s : ℕ) → slice_get (ks ++ kind.Array e n ∷ []) s ≡ Some (kind.Array (type_at of) count) → g of count ≡ Some (type_at s)
array_once ks f g e t n h more last absent of count s at = elim (push_places ks (kind.Array e n) (kind.Array (type_at of) count) s at) [
  | inl there ↦
      let before : f of count ≡ Some (type_at s) = h.once of count s there in
      elim (test_cases (same_pair (e.0, n) (of, count))) [
        | inl one ↦
            let parts = pairs_same e.0 n of count one in
            let both : None ≡ Some (type_at s) = sym absent ∙ ap (λ i. f i n) parts.0 ∙ ap (f of) parts.1 ∙ before in absurd (cc)
        | inr apart ↦ more of count ∙ chosen_no (same_pair (e.0, n) (of, count)) (Some t) (f of count) apart ∙ before
      ]
  | inr new ↦
      let parts = element_of e (type_at of) n count new.1 in
      more of count ∙ chosen_yes (same_pair (e.0, n) (of, count)) (Some t) (f of count) (same_pairs e.0 n of count parts.0 parts.1)
      ∙ ap (λ i. Some (type_at i)) (last ∙ sym new.0)
]

pub array_added : (ks : List Kind) (f g : ℕ → ℕ → Option TypeId) (e t : TypeId) (n : ℕ) → AreArrays ks f → IsMore f g (e.0, n) t → t.0 ≡ length ks → f e.0 n ≡ None
    → AreArrays (ks ++ kind.Array e n ∷ []) g
array_added ks f g e t n h more last absent = record {
  found = array_found ks f g e t n h more last;
  once = array_once ks f g e t n h more last absent;
}

-- a complete type has a base
pub has_base : (ks : List Kind) (bs : List (Option Base)) (ps : List (Option TypeId)) → IsTable ks bs ps → (t : TypeId) → is_complete ks t ≡ true → base_at bs t.0 ≡ None → ⊥
has_base ks bs ps h t complete none = by (slice_get ks t.0) refl
  where
    by : (k : Option Kind) → slice_get ks t.0 ≡ k → ⊥
    by None e = let no_type : false ≡ true = sym (ap is_complete_kind e) ∙ complete in cc
    by (Some k) e =
        let there : false ≡ true = sym (ap (λ (b : Option Base). is_some b) none) ∙ h.complete t.0 k e ∙ sym (ap is_complete_kind e) ∙ complete in cc

pub few_more : (ks : List Kind) (k : Kind) (t : ℕ) → t ≡ length ks → t < 16777216 → length (ks ++ k ∷ []) ≤ 16777216
few_more ks k t e h = omega (arith, length_more ks k)

pub complete_within : (ks : List Kind) (t : TypeId) → is_complete ks t ≡ true → t.0 < length ks
complete_within ks t h = by (slice_get ks t.0) refl
  where
    by : (k : Option Kind) → slice_get ks t.0 ≡ k → t.0 < length ks
    by None e = let no_type : false ≡ true = sym (ap is_complete_kind e) ∙ h in absurd (cc)
    by (Some k) e = slice_get_within ks t.0 k e
