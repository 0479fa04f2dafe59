-- Elements of arrays are of complete types.
use Rattle.std.proofs.Common.{◌≡◌, ℕ, true, false, List, [], ◌∷◌, ◌++◌, set, Option, Some, None, slice_get, refl, sym, ap, ◌∙◌, inl, inr}
use Rattle.std.proofs.lemmas.Bool.{cases_eq}
use Rattle.sb_base.proofs.Texts.{push_places}
use Rattle.sb_core.specs.declared.types.Kind.{Kind}
use Rattle.sb_core.specs.declared.types.Kind.TheVariants as kind
use Rattle.sb_core.specs.declared.types.TypeId.{TypeId}
use Rattle.sb_core.specs.Beginning.{first_types}
use Rattle.sb_typing.specs.Classes.{is_complete, is_complete_kind}
use Rattle.sb_types.specs.Table.{HaveElements}
use Rattle.sb_types.proofs.Places.{stays}
use Rattle.sb_types.proofs.Completed.{got_set, got_other}
use Rattle.sb_types.proofs.FirstTypes.{no_array}

-- a complete type has a kind
pub record Complete (ks : List Kind) (t : TypeId) : Type 0 where
  pub kind_there : Kind
  pub is : slice_get ks t.0 ≡ Some kind_there
  pub complete : is_complete_kind (Some kind_there) ≡ true

pub complete_by : (ks : List Kind) (t : TypeId) → is_complete ks t ≡ true → Complete ks t
complete_by ks t h = by (slice_get ks t.0) refl
  where
    by : (k : Option Kind) → slice_get ks t.0 ≡ k → Complete ks t
    by None e = let none : false ≡ true = sym (ap is_complete_kind e) ∙ h in absurd (cc)
    by (Some k) e = record { kind_there = k; is = e; complete = sym (ap is_complete_kind e) ∙ h }

pub complete_at : (ks : List Kind) (t : TypeId) (k : Kind) → slice_get ks t.0 ≡ Some k → is_complete_kind (Some k) ≡ true → is_complete ks t ≡ true
complete_at ks t k e h = ap is_complete_kind e ∙ h

pub elements_more : (ks : List Kind) (k : Kind) → HaveElements ks → ((of : TypeId) (count : ℕ) → k ≡ kind.Array of count → is_complete ks of ≡ true) → HaveElements (ks ++ k ∷ [])
elements_more ks k h new t of count e = more (elim (push_places ks k (kind.Array of count) t e) [
  | inl there ↦ h t of count there
  | inr last ↦ new of count last.1
])
  where
    more : is_complete ks of ≡ true → is_complete (ks ++ k ∷ []) of ≡ true
    more complete = let c = complete_by ks of complete in complete_at (ks ++ k ∷ []) of c.kind_there (stays ks k c.kind_there of.0 c.is) c.complete

pub elements_set : (ks : List Kind) (t : ℕ) (old new : Kind) → slice_get ks t ≡ Some old → is_complete_kind (Some old) ≡ false
    → ((of : TypeId) (count : ℕ) → new ≡ kind.Array of count → ⊥) → HaveElements ks → HaveElements (set ks t new)
elements_set ks t old new at incomplete none h u of count e = elim (cases_eq t u) [
  | inl same ↦
      let one : Some new ≡ Some (kind.Array of count) = sym (got_set ks new old t at) ∙ ap (slice_get (set ks t new)) same ∙ e in
      absurd (none of count (cc))
  | inr apart ↦
      let complete = h u of count (sym (got_other ks new t u apart) ∙ e) in
      elim (cases_eq t of.0) [
        | inl same ↦
            let there : false ≡ true = sym incomplete ∙ sym (ap is_complete_kind (sym (ap (slice_get ks) same) ∙ at)) ∙ complete in absurd (cc)
        | inr other ↦ ap is_complete_kind (got_other ks new t of.0 other) ∙ complete
      ]
]

pub first_elements : HaveElements first_types
first_elements t of count e = absurd (no_array first_types refl t of count e)

pub element_complete : (ks : List Kind) (of : TypeId) (count : ℕ) → is_complete ks of ≡ true → (u : TypeId) (n : ℕ) → kind.Array of count ≡ kind.Array u n
    → is_complete ks u ≡ true
element_complete ks of count h u n e = let same : of ≡ u = cc in ap (is_complete ks) (sym same) ∙ h
