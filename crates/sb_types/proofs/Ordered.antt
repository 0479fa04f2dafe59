-- What a pointer points to, and the elements of an array, stand before it.
use Rattle.std.proofs.Common.{◌≡◌, ℕ, zero, suc, Bool, true, false, List, [], ◌∷◌, ◌++◌, length, set, Option, Some, None, slice_get, refl, sym, ap, subst, ◌∙◌, inl, inr}
use Rattle.std.specs.Prelude.{◌&&◌}
use Rattle.std.specs.List.{list_all}
use Rattle.std.proofs.lemmas.Bool.{cases_eq}
use Rattle.sb_base.proofs.Texts.{push_places}
use Rattle.sb_core.specs.declared.types.Kind.{Kind}
use Rattle.sb_core.specs.declared.types.Kind.TheVariants as kind
use Rattle.sb_core.specs.Beginning.{first_types}
use Rattle.sb_typing.specs.TypeLaws.{IsBehind, IsOrdered}
use Rattle.sb_types.proofs.Completed.{got_set, got_other}

behind_along : (m n : ℕ) (k l : Kind) → m ≡ n → k ≡ l → IsBehind n (Some k) → IsBehind m (Some l)
behind_along m n k l e same h = subst (λ (i : ℕ). IsBehind i (Some l)) (sym e) (subst (λ (x : Kind). IsBehind n (Some x)) same h)

pub behind_by : (n : ℕ) (x y : Option Kind) → x ≡ y → IsBehind n x → IsBehind n y
behind_by n x y e h = subst (λ (o : Option Kind). IsBehind n o) e h

pub ordered_more : (ks : List Kind) (k : Kind) → IsOrdered ks → IsBehind (length ks) (Some k) → IsOrdered (ks ++ k ∷ [])
ordered_more ks k h new n = by (slice_get (ks ++ k ∷ []) n) refl
  where
    by : (x : Option Kind) → slice_get (ks ++ k ∷ []) n ≡ x → IsBehind n x
    by None e = tt
    by (Some l) e = elim (push_places ks k l n e) [
      | inl there ↦ behind_by n (slice_get ks n) (Some l) there (h n)
      | inr last ↦ behind_along n (length ks) k l last.0 last.1 new
    ]

pub ordered_set : (ks : List Kind) (t : ℕ) (old new : Kind) → slice_get ks t ≡ Some old → IsOrdered ks → IsBehind t (Some new) → IsOrdered (set ks t new)
ordered_set ks t old new at h there n = elim (cases_eq t n) as (λ _. IsBehind n (slice_get (set ks t new) n)) [
  | inl same ↦
      behind_by n (Some new) (slice_get (set ks t new) n) (sym (got_set ks new old t at) ∙ ap (slice_get (set ks t new)) same)
      (behind_along n t new new (sym same) refl there)
  | inr apart ↦ behind_by n (slice_get ks n) (slice_get (set ks t new) n) (sym (got_other ks new t n apart)) (h n)
]

abbrev is_flat : Kind → Bool
is_flat (kind.Pointer t) = false
is_flat (kind.Array t count) = false
is_flat k = true

both : (a b : Bool) → a && b ≡ true → (a ≡ true) × (b ≡ true)
both true b h = (refl, h)
both false b h = absurd (cc)

flat_behind : (n : ℕ) (k : Kind) → is_flat k ≡ true → IsBehind n (Some k)
flat_behind n (kind.Pointer t) h = absurd (cc)
flat_behind n (kind.Array t count) h = absurd (cc)
flat_behind n k h = tt

all_flat : (ks : List Kind) → list_all is_flat ks ≡ true → (m n : ℕ) → IsBehind m (slice_get ks n)
all_flat [] h m n = tt
all_flat (k ∷ ks) h m zero = flat_behind m k (both (is_flat k) (list_all is_flat ks) h).0
all_flat (k ∷ ks) h m (suc n) = all_flat ks (both (is_flat k) (list_all is_flat ks) h).1 m n

pub first_ordered : IsOrdered first_types
first_ordered n = all_flat first_types refl n n
