-- The types 0 to 12 with their sizes are a table.
use Rattle.std.proofs.Common.{◌≡◌, ℕ, zero, suc, Bool, true, false, nat_lt, nat_le, List, [], ◌∷◌, map, Option, Some, None, slice_get, refl, sym, ap, ◌∙◌, arith}
use Rattle.std.specs.Prelude.{is_some, ◌&&◌}
use Rattle.std.specs.List.{list_all}
use Rattle.std.proofs.lemmas.Bool.Decides.{nat_tests}
use Rattle.sb_core.specs.declared.layout.Base.{Base}
use Rattle.sb_core.specs.declared.types.Kind.{Kind}
use Rattle.sb_core.specs.declared.types.Kind.TheVariants as kind
use Rattle.sb_core.specs.declared.types.TypeId.{TypeId}
use Rattle.sb_core.specs.Beginning.{first_types}
use Rattle.sb_core.specs.Layout.{base_at, base_of}
use Rattle.sb_layout.specs.Faults.{IsSmall}
use Rattle.sb_typing.specs.Classes.{is_complete_kind}
use Rattle.sb_types.specs.Table.{IsTable, AreArrays, pointer_at, first_bases, first_pointers}

-- what is complete is laid out by what is known
abbrev base_now : List (Option Base) → Kind → Option Base
base_now known kind.Void = None
base_now known k = base_of known k

laid : (known : List (Option Base)) (k : Kind) (o : Option Base) (b : Base) → o ≡ base_now known k → o ≡ Some b → base_of known k ≡ Some b
laid known kind.Void o b e h = absurd (cc)
laid known (kind.Number bits signed) o b e h = sym e ∙ h
laid known (kind.Pointer t) o b e h = sym e ∙ h
laid known (kind.Array t count) o b e h = sym e ∙ h
laid known (kind.Struct tag members) o b e h = sym e ∙ h

same_kind : {k l : Kind} → Some k ≡ Some l → k ≡ l
same_kind e = cc

all_laid : (known bs : List (Option Base)) (ks : List Kind) → bs ≡ map (base_now known) ks → (t : ℕ) (k : Kind) (b : Base)
    → slice_get ks t ≡ Some k → base_at bs t ≡ Some b → base_of known k ≡ Some b
all_laid known bs [] e t k b h g = absurd (cc)
all_laid known [] (l ∷ ks) e t k b h g = absurd (cc)
all_laid known (o ∷ bs) (l ∷ ks) e zero k b h g =
    let same : l ≡ k = cc in
    let here : o ≡ base_now known l = cc in
    laid known k o b (here ∙ ap (base_now known) same) g
all_laid known (o ∷ bs) (l ∷ ks) e (suc t) k b h g = let rest : bs ≡ map (base_now known) ks = cc in all_laid known bs ks rest t k b h g

abbrev completes : Kind → Bool
completes k = is_complete_kind (Some k)

all_complete : (bs : List (Option Base)) (ks : List Kind) → map (λ b. is_some b) bs ≡ map completes ks → (t : ℕ) (k : Kind)
    → slice_get ks t ≡ Some k → is_some (base_at bs t) ≡ is_complete_kind (Some k)
all_complete bs [] e t k h = absurd (cc)
all_complete [] (l ∷ ks) e t k h = absurd (cc)
all_complete (o ∷ bs) (l ∷ ks) e zero k h =
    let same : l ≡ k = cc in
    let here : is_some o ≡ completes l = cc in
    here ∙ ap completes same
all_complete (o ∷ bs) (l ∷ ks) e (suc t) k h = let rest : map (λ b. is_some b) bs ≡ map completes ks = cc in all_complete bs ks rest t k h

abbrev is_small : Option Base → Bool
is_small None = true
is_small (Some b) = nat_lt b.size 2147483648 && (nat_lt 0 b.align && nat_le b.align 32)

both : (a b : Bool) → a && b ≡ true → (a ≡ true) × (b ≡ true)
both true b h = (refl, h)
both false b h = absurd (cc)

one_small : (b : Base) → is_small (Some b) ≡ true → IsSmall b
one_small b h =
    let first = both (nat_lt b.size 2147483648) (nat_lt 0 b.align && nat_le b.align 32) h in
    let rest = both (nat_lt 0 b.align) (nat_le b.align 32) first.1 in
    let size : nat_lt b.size 2147483648 ≡ true = first.0 in
    let low : nat_lt 0 b.align ≡ true = rest.0 in
    let high : nat_le b.align 32 ≡ true = rest.1 in
    record { size = grind (arith, nat_tests); positive = grind (arith, nat_tests); most = grind (arith, nat_tests) }

all_small : (bs : List (Option Base)) → list_all is_small bs ≡ true → (t : ℕ) (b : Base) → base_at bs t ≡ Some b → IsSmall b
all_small [] e t b h = absurd (cc)
all_small (o ∷ bs) e zero b h = let first = both (is_small o) (list_all is_small bs) e in one_small b (sym (ap is_small h) ∙ first.0)
all_small (o ∷ bs) e (suc t) b h = all_small bs (both (is_small o) (list_all is_small bs) e).1 t b h

abbrev is_no_pointer : Kind → Bool
is_no_pointer (kind.Pointer t) = false
is_no_pointer k = true

no_pointer : (ks : List Kind) → list_all is_no_pointer ks ≡ true → (p : ℕ) (t : TypeId) → slice_get ks p ≡ Some (kind.Pointer t) → ⊥
no_pointer [] e p t h = absurd (cc)
no_pointer (k ∷ ks) e zero t h =
    let same : k ≡ kind.Pointer t = cc in
    let first = both (is_no_pointer k) (list_all is_no_pointer ks) e in
    let here : false ≡ true = sym (ap is_no_pointer same) ∙ first.0 in absurd (cc)
no_pointer (k ∷ ks) e (suc p) t h = no_pointer ks (both (is_no_pointer k) (list_all is_no_pointer ks) e).1 p t h

abbrev is_nothing : Option TypeId → Bool
is_nothing None = true
is_nothing (Some t) = false

nothing_there : (ps : List (Option TypeId)) → list_all is_nothing ps ≡ true → (t : ℕ) (p : TypeId) → pointer_at ps t ≡ Some p → ⊥
nothing_there [] e t p h = absurd (cc)
nothing_there (o ∷ ps) e zero p h =
    let first = both (is_nothing o) (list_all is_nothing ps) e in
    let here : false ≡ true = sym (ap is_nothing h) ∙ first.0 in absurd (cc)
nothing_there (o ∷ ps) e (suc t) p h = nothing_there ps (both (is_nothing o) (list_all is_nothing ps) e).1 t p h

pub first_table : IsTable first_types first_bases first_pointers
first_table = record {
  bases_beside = refl;
  pointers_beside = refl;
  laid_out = all_laid first_bases first_bases first_types refl;
  complete = all_complete first_bases first_types refl;
  small = all_small first_bases refl;
  pointer = λ t p h. absurd (nothing_there first_pointers refl t p h);
  once = λ t p h. absurd (no_pointer first_types refl p (record { 0 = t }) h);
}

-- no arrays are among them
abbrev pub is_no_array : Kind → Bool
is_no_array (kind.Array t count) = false
is_no_array k = true

pub no_array : (ks : List Kind) → list_all is_no_array ks ≡ true → (i : ℕ) (t : TypeId) (n : ℕ) → slice_get ks i ≡ Some (kind.Array t n) → ⊥
no_array [] e i t n h = absurd (cc)
no_array (k ∷ ks) e zero t n h =
    let same : k ≡ kind.Array t n = cc in
    let first = both (is_no_array k) (list_all is_no_array ks) e in
    let here : false ≡ true = sym (ap is_no_array same) ∙ first.0 in absurd (cc)
no_array (k ∷ ks) e (suc i) t n h = no_array ks (both (is_no_array k) (list_all is_no_array ks) e).1 i t n h

pub first_arrays : (f : ℕ → ℕ → Option TypeId) → ((of count : ℕ) → f of count ≡ None) → AreArrays first_types f
first_arrays f h = record {
  found = λ of count t e. let both_ways : None ≡ Some t = sym (h of count) ∙ e in absurd (cc);
  once = λ of count t e. absurd (no_array first_types refl t (record { 0 = of }) count e);
}
