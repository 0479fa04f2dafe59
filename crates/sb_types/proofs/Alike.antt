-- A composite of complete types has their size, so that the arrays of it are none that are too big.
use Rattle.std.proofs.Common.{◌≡◌, ℕ, zero, suc, ◌<◌, ◌≤◌, Bool, true, false, nat_eq, nat_lt, List, ◌∷◌, Option, Some, None, slice_get, refl, sym, ap, ◌∙◌, arith, inl, inr}
use Rattle.std.specs.Option.{option_map}
use Rattle.std.specs.Prelude.{is_some, ◌⊎◌, if◌then◌else◌}
use Rattle.std.proofs.lemmas.Bool.Decides.{nat_tests}
use Rattle.sb_core.specs.declared.layout.Base.{Base}
use Rattle.sb_core.specs.declared.types.Kind.{Kind}
use Rattle.sb_core.specs.declared.types.Kind.TheVariants as kind
use Rattle.sb_core.specs.declared.types.TypeId.{TypeId}
use Rattle.sb_core.specs.Layout.{base_at, base_of, array_of}
use Rattle.sb_layout.specs.Faults.{IsSmall, size_if}
use Rattle.sb_typing.specs.Classes.{is_complete, is_complete_kind, lengths_agree}
use Rattle.sb_types.specs.declared.composite.Step.{Step}
use Rattle.sb_types.specs.declared.composite.Step.TheVariants as step
use Rattle.sb_types.specs.declared.table.TypeTable.{TypeTable}
use Rattle.sb_types.specs.Composite.{known_length, IsComposite, of_one, of_pointers, of_arrays}
use Rattle.sb_types.specs.Steps.{IsStep, HasRoom, IsRising}
use Rattle.sb_types.specs.Table.{IsTable, IsTypeTable, HaveElements, kinds_of}
use Rattle.sb_types.proofs.Elements.{complete_at}
use Rattle.sb_types.proofs.Composed.{last_step}

-- a complete type is laid out by its parts
laid : (ks : List Kind) (bs : List (Option Base)) (ps : List (Option TypeId)) → IsTable ks bs ps → (t : ℕ) (k : Kind) → slice_get ks t ≡ Some k
    → is_complete_kind (Some k) ≡ true → base_at bs t ≡ base_of bs k
laid ks bs ps h t k e complete = by (base_at bs t) refl
  where
    by : (o : Option Base) → base_at bs t ≡ o → base_at bs t ≡ base_of bs k
    by None none = let there : false ≡ true = sym (ap (λ (o : Option Base). is_some o) none) ∙ h.complete t k e ∙ complete in absurd (cc)
    by (Some b) some = some ∙ sym (h.laid_out t k b e some)

-- what is complete of a composite, and its base
record Alike (ks : List Kind) (bs : List (Option Base)) (a b c : TypeId) : Type 0 where
  complete : is_complete ks c ≡ true
  first : base_at bs c.0 ≡ base_at bs a.0
  second : base_at bs c.0 ≡ base_at bs b.0

complete_kind : (ks : List Kind) (t : TypeId) (k : Kind) → slice_get ks t.0 ≡ Some k → is_complete ks t ≡ true → is_complete_kind (Some k) ≡ true
complete_kind ks t k e h = sym (ap is_complete_kind e) ∙ h

known_first : (m n : ℕ) → nat_lt 0 m ≡ true → known_length m n ≡ m
known_first m n h = grind (arith, nat_tests)

known_second : (m n : ℕ) → nat_lt 0 m ≡ true → nat_lt 0 n ≡ true → lengths_agree m n ≡ true → known_length m n ≡ n
known_second m n h k l = grind (arith, nat_tests)

along : (bs : List (Option Base)) (a c : TypeId) (m n : ℕ) → n ≡ m → base_at bs c.0 ≡ base_at bs a.0
    → base_of bs (kind.Array c n) ≡ base_of bs (kind.Array a m)
along bs a c m n e h = ap (λ (o : Option Base). option_map (array_of n) o) h ∙ ap (λ i. option_map (array_of i) (base_at bs a.0)) e

alike : (ks : List Kind) (bs : List (Option Base)) (ps : List (Option TypeId)) → IsTable ks bs ps → HaveElements ks → (a b c : TypeId) → IsComposite ks a b c
    → is_complete ks a ≡ true → is_complete ks b ≡ true → Alike ks bs a b c
alike ks bs ps h all _ _ _ (of_one t u e) first second = record { complete = first; first = refl; second = ap (base_at bs) e }
alike ks bs ps h all _ _ _ (of_pointers t u p a b c e f g below) first second = record {
  complete = complete_at ks p (kind.Pointer c) g refl;
  first = laid ks bs ps h p.0 (kind.Pointer c) g refl ∙ sym (laid ks bs ps h t.0 (kind.Pointer a) e refl);
  second = laid ks bs ps h p.0 (kind.Pointer c) g refl ∙ sym (laid ks bs ps h u.0 (kind.Pointer b) f refl);
}
alike ks bs ps h all _ _ _ (of_arrays t u p a b c m n e f g agree below) first second =
    let parts = alike ks bs ps h all a b c below (all t.0 a m e) (all u.0 b n f) in
    let some_m : nat_lt 0 m ≡ true = complete_kind ks t (kind.Array a m) e first in
    let some_n : nat_lt 0 n ≡ true = complete_kind ks u (kind.Array b n) f second in
    let is_m : known_length m n ≡ m = known_first m n some_m in
    let is_n : known_length m n ≡ n = known_second m n some_m some_n agree in
    let whole : is_complete_kind (Some (kind.Array c (known_length m n))) ≡ true = ap (nat_lt 0) is_m ∙ some_m in
    record {
      complete = complete_at ks p (kind.Array c (known_length m n)) g whole;
      first = laid ks bs ps h p.0 (kind.Array c (known_length m n)) g whole ∙ along bs a c m (known_length m n) is_m parts.first ∙ sym (laid ks bs ps h t.0 (kind.Array a m) e some_m);
      second = laid ks bs ps h p.0 (kind.Array c (known_length m n)) g whole ∙ along bs b c n (known_length m n) is_n parts.second ∙ sym (laid ks bs ps h u.0 (kind.Array b n) f some_n);
    }

-- ---- no array that is too big

size_small : (o : Option Base) → ((b : Base) → o ≡ Some b → IsSmall b) → size_if o < 2147483648
size_small None h = omega arith
size_small (Some b) h = (h b refl).size

none_of_none : (o : Option Base) → size_if (option_map (array_of 0) o) ≡ 0
none_of_none None = refl
none_of_none (Some b) = omega arith

some_suc : (m : ℕ) → nat_lt 0 (suc m) ≡ true
some_suc m = grind (arith, nat_tests)

array_small : (ks : List Kind) (bs : List (Option Base)) (ps : List (Option TypeId)) → IsTable ks bs ps → (t : ℕ) (a : TypeId) (m : ℕ)
    → slice_get ks t ≡ Some (kind.Array a m) → size_if (option_map (array_of m) (base_at bs a.0)) < 2147483648
array_small ks bs ps h t a zero e = let nothing : size_if (option_map (array_of 0) (base_at bs a.0)) ≡ 0 = none_of_none (base_at bs a.0) in omega arith
array_small ks bs ps h t a (suc m) e =
    size_small (option_map (array_of (suc m)) (base_at bs a.0)) (λ b is. h.small t b (laid ks bs ps h t (kind.Array a (suc m)) e (some_suc m) ∙ is))

known_cases : (m n : ℕ) → (known_length m n ≡ m) ⊎ (known_length m n ≡ n)
known_cases m n = by (nat_eq m 0)
  where
    by : (x : Bool) → ((if x then n else m) ≡ m) ⊎ ((if x then n else m) ≡ n)
    by true = inr refl
    by false = inl refl

no_room : (o p : Option Base) (k m : ℕ) → k ≡ m → o ≡ p → size_if (option_map (array_of m) p) < 2147483648 → 2147483648 ≤ size_if (option_map (array_of k) o) → ⊥
no_room o p k m e f small big =
    let same : size_if (option_map (array_of k) o) ≡ size_if (option_map (array_of m) p) =
    ap (λ (x : Option Base). size_if (option_map (array_of k) x)) f ∙ ap (λ i. size_if (option_map (array_of i) p)) e in
    omega arith

room_by : (table : TypeTable) → IsTypeTable table → (s : Step) (t u a b c : TypeId) → IsStep (kinds_of table) s t u a b → IsComposite (kinds_of table) a b c
    → HasRoom table s c
room_by table h step.Pointer t u a b c s below = tt
room_by table h (step.Array count) t u a b c s below =
    let ks = kinds_of table in
    let bs = table.bases.items in
    let ps = table.pointers.items in
    let parts = alike ks bs ps h.types h.elements a b c below (h.elements t.0 a s.m s.left) (h.elements u.0 b s.n s.right) in (
      parts.complete,
      elim (known_cases s.m s.n) [
        | inl first ↦ no_room (base_at bs c.0) (base_at bs a.0) count s.m (s.known ∙ first) parts.first (array_small ks bs ps h.types t.0 a s.m s.left)
        | inr second ↦ no_room (base_at bs c.0) (base_at bs b.0) count s.n (s.known ∙ second) parts.second (array_small ks bs ps h.types u.0 b s.n s.right)
      ],
    )

pub rising_room : (before after : TypeTable) (s : Step) (rest : List Step) (a b c : TypeId) → IsRising before after (s ∷ rest) a b c → HasRoom after s c
rising_room before after s rest a b c h =
    let last = last_step (kinds_of after) a b s rest h.left h.right h.leads in
    room_by after h.table s last.left last.right h.left h.right c last.step h.composite
