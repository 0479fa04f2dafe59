-- A table with a struct completed.
use Rattle.std.proofs.Common.{◌≡◌, ℕ, zero, suc, ◌<◌, ◌≤◌, Bool, true, false, List, [], ◌∷◌, length, set, Option, Some, None, slice_get, refl, sym, ap, ◌∙◌, arith, inl, inr}
use Rattle.std.specs.Prelude.{is_some, ◌&&◌}
use Rattle.std.specs.List.{All, AllByRecursion}
use Rattle.std.specs.Option.{option_map}
use Rattle.std.proofs.lemmas.Option.{slice_get_within}
use Rattle.std.proofs.lemmas.Bool.{cases_eq}
use Rattle.std.proofs.lemmas.List.Elements.{All-from_recursion}
use Rattle.sb_base.specs.declared.interning.Name.{Name}
use Rattle.sb_core.specs.declared.layout.Base.{Base}
use Rattle.sb_core.specs.declared.types.Kind.{Kind}
use Rattle.sb_core.specs.declared.types.Kind.TheVariants as kind
use Rattle.sb_core.specs.declared.types.Member.{Member}
use Rattle.sb_core.specs.declared.types.TypeId.{TypeId}
use Rattle.sb_core.specs.Layout.{base_at, base_of, bases_of, plus_base, struct_of}
use Rattle.sb_layout.specs.Faults.{IsSmall, IsSmallIf, Extends}
use Rattle.sb_layout.proofs.Knowing.{base_of_later}
use Rattle.sb_typing.specs.Classes.{has_some, is_complete, is_complete_kind}
use Rattle.sb_types.specs.Table.{IsTable, AreArrays, IsStruct, are_complete}
use Rattle.sb_types.proofs.Places.{found_set, found_other, length_set}

-- ---- what is known is small

small_by_place : (bs : List (Option Base)) → ((t : ℕ) (b : Base) → base_at bs t ≡ Some b → IsSmall b) → AllByRecursion IsSmallIf bs
small_by_place [] h = tt
small_by_place (None ∷ bs) h = (tt, small_by_place bs (λ t b e. h (suc t) b e))
small_by_place (Some b ∷ bs) h = (h zero b refl, small_by_place bs (λ t c e. h (suc t) c e))

pub all_small : (ks : List Kind) (bs : List (Option Base)) (ps : List (Option TypeId)) → IsTable ks bs ps → All IsSmallIf bs
all_small ks bs ps h = All-from_recursion IsSmallIf bs (small_by_place bs h.small)

-- ---- members of complete types have bases

both : (a b : Bool) → a && b ≡ true → (a ≡ true) × (b ≡ true)
both true b h = (refl, h)
both false b h = absurd (cc)

plus_some : (o : Option Base) (p : Option (List Base)) → is_some o ≡ true → is_some p ≡ true → is_some (plus_base o p) ≡ true
plus_some None p h k = absurd (cc)
plus_some (Some b) None h k = absurd (cc)
plus_some (Some b) (Some bs) h k = refl

base_there : (ks : List Kind) (bs : List (Option Base)) (ps : List (Option TypeId)) → IsTable ks bs ps → (t : TypeId) → is_complete ks t ≡ true → is_some (base_at bs t.0) ≡ true
base_there ks bs ps h t complete = by (slice_get ks t.0) refl
  where
    by : (k : Option Kind) → slice_get ks t.0 ≡ k → is_some (base_at bs t.0) ≡ true
    by None e = let no_type : false ≡ true = sym (ap is_complete_kind e) ∙ complete in absurd (cc)
    by (Some k) e = h.complete t.0 k e ∙ sym (ap is_complete_kind e) ∙ complete

members_known : (ks : List Kind) (bs : List (Option Base)) (ps : List (Option TypeId)) → IsTable ks bs ps → (ms : List Member) → are_complete ks ms ≡ true
    → is_some (bases_of bs ms) ≡ true
members_known ks bs ps h [] e = refl
members_known ks bs ps h (m ∷ ms) e =
    let parts = both (is_complete ks m.type_id) (are_complete ks ms) e in
    plus_some (base_at bs m.type_id.0) (bases_of bs ms) (base_there ks bs ps h m.type_id parts.0) (members_known ks bs ps h ms parts.1)

mapped_some : (f : List Base → Base) (o : Option (List Base)) → is_some o ≡ true → is_some (option_map f o) ≡ true
mapped_some f None h = absurd (cc)
mapped_some f (Some bs) h = refl

pub struct_known : (ks : List Kind) (bs : List (Option Base)) (ps : List (Option TypeId)) → IsTable ks bs ps → (ms : List Member) → are_complete ks ms ≡ true
    → is_some (option_map struct_of (bases_of bs ms)) ≡ true
struct_known ks bs ps h ms e = mapped_some struct_of (bases_of bs ms) (members_known ks bs ps h ms e)

-- ---- places

pub got_set : {A : Type 0} (xs : List A) (y x : A) (i : ℕ) → slice_get xs i ≡ Some x → slice_get (set xs i y) i ≡ Some y
got_set [] y x i h = absurd (cc)
got_set (z ∷ xs) y x zero h = refl
got_set (z ∷ xs) y x (suc i) h = got_set xs y x i h

pub got_other : {A : Type 0} (xs : List A) (y : A) (i j : ℕ) → (i ≡ j → ⊥) → slice_get (set xs i y) j ≡ slice_get xs j
got_other [] y i j h = refl
got_other (z ∷ xs) y zero zero h = absurd (h refl)
got_other (z ∷ xs) y zero (suc j) h = refl
got_other (z ∷ xs) y (suc i) zero h = refl
got_other (z ∷ xs) y (suc i) (suc j) h = got_other xs y i j (λ e. h (ap suc e))

-- ---- the table

none_of : (o : Option Base) → is_some o ≡ false → o ≡ None
none_of None h = refl
none_of (Some b) h = absurd (cc)

-- a place that had no base gets one
learns : (bs : List (Option Base)) (t : ℕ) (o : Option Base) → base_at bs t ≡ None → Extends bs (set bs t o)
learns bs t o none u b e =
    let apart : t ≡ u → ⊥ = λ same. (let there : None ≡ Some b = sym none ∙ ap (base_at bs) same ∙ e in cc) in
    found_other bs o t u apart ∙ e

abbrev pub IsOpen : Kind → Type 0
IsOpen k = is_complete_kind (Some k) ≡ false

-- two kinds of one place
one_kind : (x : Option Kind) (k l : Kind) → x ≡ Some k → x ≡ Some l → k ≡ l
one_kind x k l h e = let same : Some k ≡ Some l = sym h ∙ e in cc

laid_along : (known : List (Option Base)) (k l : Kind) (o : Option Base) (b : Base) → k ≡ l → o ≡ base_of known k → o ≡ Some b → base_of known l ≡ Some b
laid_along known k l o b same e h = rw (← same) (sym e ∙ h)

small_along : (o : Option Base) (b : Base) → o ≡ Some b → IsSmallIf o → IsSmall b
small_along None b e h = absurd (cc)
small_along (Some a) b e h = let same : a ≡ b = cc in rw (← same) h

pub completed : (ks : List Kind) (bs : List (Option Base)) (ps : List (Option TypeId)) → IsTable ks bs ps → (t : ℕ) (old new : Kind) (o : Option Base)
    → slice_get ks t ≡ Some old → IsOpen old → ((u : TypeId) → old ≡ kind.Pointer u → ⊥) → ((u : TypeId) → new ≡ kind.Pointer u → ⊥)
    → o ≡ base_of bs new → is_some o ≡ is_complete_kind (Some new) → IsSmallIf o → IsTable (set ks t new) (set bs t o) ps
completed ks bs ps h t old new o at opened no_pointer still_none laid complete small =
    let within : t < length bs = omega (arith, h.bases_beside, slice_get_within ks t old at) in
    let none : base_at bs t ≡ None = none_of (base_at bs t) (h.complete t old at ∙ opened) in
    let later : Extends bs (set bs t o) = learns bs t o none in
    record {
      bases_beside = length_set bs o t ∙ h.bases_beside ∙ sym (length_set ks new t);
      pointers_beside = h.pointers_beside ∙ sym (length_set ks new t);
      laid_out = λ u k b there is. elim (cases_eq t u) [
        | inl same ↦
            let here : slice_get (set ks t new) t ≡ Some k = ap (slice_get (set ks t new)) same ∙ there in
            let base : base_at (set bs t o) t ≡ Some b = ap (base_at (set bs t o)) same ∙ is in
            base_of_later bs (set bs t o) later k b
            (laid_along bs new k o b (one_kind (slice_get (set ks t new) t) new k (got_set ks new old t at) here) laid (sym (found_set bs o t within) ∙ base))
        | inr apart ↦
            base_of_later bs (set bs t o) later k b (h.laid_out u k b (sym (got_other ks new t u apart) ∙ there) (sym (found_other bs o t u apart) ∙ is))
      ];
      complete = λ u k there. elim (cases_eq t u) [
        | inl same ↦
            let here : slice_get (set ks t new) t ≡ Some k = ap (slice_get (set ks t new)) same ∙ there in
            ap (λ n. is_some (base_at (set bs t o) n)) (sym same) ∙ ap (λ (x : Option Base). is_some x) (found_set bs o t within) ∙ complete
            ∙ ap (λ (x : Kind). is_complete_kind (Some x)) (one_kind (slice_get (set ks t new) t) new k (got_set ks new old t at) here)
        | inr apart ↦
            ap (λ (x : Option Base). is_some x) (found_other bs o t u apart) ∙ h.complete u k (sym (got_other ks new t u apart) ∙ there)
      ];
      small = λ u b is. elim (cases_eq t u) [
        | inl same ↦ small_along o b (sym (found_set bs o t within) ∙ ap (base_at (set bs t o)) same ∙ is) small
        | inr apart ↦ h.small u b (sym (found_other bs o t u apart) ∙ is)
      ];
      pointer = λ u p is.
          let there : slice_get ks p.0 ≡ Some (kind.Pointer (record { 0 = u })) = h.pointer u p is in
          let apart : t ≡ p.0 → ⊥ = λ same. no_pointer (record { 0 = u }) (one_kind (slice_get ks t) old (kind.Pointer (record { 0 = u })) at (ap (slice_get ks) same ∙ there)) in
          got_other ks new t p.0 apart ∙ there;
      once = λ u p there.
          let apart : t ≡ p → ⊥ = λ same. still_none (record { 0 = u })
          (one_kind (slice_get (set ks t new) t) new (kind.Pointer (record { 0 = u })) (got_set ks new old t at) (ap (slice_get (set ks t new)) same ∙ there)) in
          h.once u p (sym (got_other ks new t p apart) ∙ there);
    }

pub arrays_completed : (ks : List Kind) (f : ℕ → ℕ → Option TypeId) → AreArrays ks f → (t : ℕ) (old new : Kind) → slice_get ks t ≡ Some old
    → ((u : TypeId) (n : ℕ) → old ≡ kind.Array u n → ⊥) → ((u : TypeId) (n : ℕ) → new ≡ kind.Array u n → ⊥) → AreArrays (set ks t new) f
arrays_completed ks f h t old new at no_array still_none = record {
  found = λ of n s is.
      let there : slice_get ks s.0 ≡ Some (kind.Array (record { 0 = of }) n) = h.found of n s is in
      let apart : t ≡ s.0 → ⊥ = λ same. no_array (record { 0 = of }) n (one_kind (slice_get ks t) old (kind.Array (record { 0 = of }) n) at (ap (slice_get ks) same ∙ there)) in
      got_other ks new t s.0 apart ∙ there;
  once = λ of n s there.
      let apart : t ≡ s → ⊥ = λ same. still_none (record { 0 = of }) n
      (one_kind (slice_get (set ks t new) t) new (kind.Array (record { 0 = of }) n) (got_set ks new old t at) (ap (slice_get (set ks t new)) same ∙ there)) in
      h.once of n s (sym (got_other ks new t s apart) ∙ there);
}

-- ---- a struct that is not completed

pub record Opened (o : Option Kind) : Type 0 where
  pub kind_there : Kind
  pub is : o ≡ Some kind_there
  pub incomplete : IsOpen kind_there
  pub no_pointer : (u : TypeId) → kind_there ≡ kind.Pointer u → ⊥
  pub no_array : (u : TypeId) (n : ℕ) → kind_there ≡ kind.Array u n → ⊥

pub opened_by : (o : Option Kind) (tag : Option Name) → IsStruct o tag [] → Opened o
opened_by None tag h = absurd h
opened_by (Some kind.Void) tag h = absurd h
opened_by (Some (kind.Number bits signed)) tag h = absurd h
opened_by (Some (kind.Pointer t)) tag h = absurd h
opened_by (Some (kind.Array t count)) tag h = absurd h
opened_by (Some (kind.Struct g ms)) tag h = record {
  kind_there = kind.Struct g ms;
  is = refl;
  incomplete = ap (λ (xs : List Member). has_some xs) h.1;
  no_pointer = λ u e. absurd (cc);
  no_array = λ u n e. absurd (cc);
}

pub opened_within : (ks : List Kind) (t : ℕ) → Opened (slice_get ks t) → t < length ks
opened_within ks t h = slice_get_within ks t h.kind_there h.is

pub few_still : (ks : List Kind) (k : Kind) (t : ℕ) → length ks ≤ 16777216 → length (set ks t k) ≤ 16777216
few_still ks k t h = rw (length_set ks k t) h
