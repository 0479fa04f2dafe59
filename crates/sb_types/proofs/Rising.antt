-- Down from two compatible types to the parts of theirs that are one, and up again to their composite.
use Rattle.std.proofs.Common.{◌≡◌, ℕ, ◌<◌, Bool, true, false, nat_eq, List, Option, Some, None, slice_get, refl, sym, ap, ◌∙◌, arith}
use Rattle.std.specs.Prelude.{◌||◌, if◌then◌else◌}
use Rattle.std.proofs.lemmas.Bool.Decides.{nat_tests}
use Rattle.sb_core.specs.declared.types.Kind.{Kind}
use Rattle.sb_core.specs.declared.types.Kind.TheVariants as kind
use Rattle.sb_core.specs.declared.types.TypeId.{TypeId}
use Rattle.sb_typing.specs.Classes.{is_complete, lengths_agree, parts_are, compatible}
use Rattle.sb_typing.specs.Classes as classes
use Rattle.sb_typing.specs.TypeLaws.{IsOrdered, IsBehind}
use Rattle.sb_typing.proofs.TypeLaws.{by_parts}
use Rattle.sb_types.proofs.Ordered.{behind_by}
use Rattle.sb_types.specs.declared.composite.Parts.{Parts}
use Rattle.sb_types.specs.Steps.{parts_of_kinds, parts_of, IsStep}

-- ---- one step down

-- what is known of the parts
pub record Stepped (ks : List Kind) (t u : TypeId) (p : Parts) : Type 0 where
  pub step : IsStep ks p.step t u p.left p.right
  pub compatible : compatible ks p.left p.right ≡ true
  pub less : p.left.0 < t.0

no_test : (b c : Bool) → b ≡ false → b || c ≡ true → c ≡ true
no_test true c e h = absurd (cc)
no_test false c e h = h

agreed : (f : TypeId → TypeId → Bool) (a b : TypeId) (x : Bool) → parts_are f (if x then Some (a, b) else None) ≡ true → (x ≡ true) × (f a b ≡ true)
agreed f a b true h = (refl, h)
agreed f a b false h = absurd (cc)

pub before_kind : (ks : List Kind) → IsOrdered ks → (t : ℕ) (k : Kind) → slice_get ks t ≡ Some k → IsBehind t (Some k)
before_kind ks o t k e = behind_by t (slice_get ks t) (Some k) e (o t)

abbrev Stepping : List Kind → TypeId → TypeId → Option Parts → Type 0
Stepping ks t u None = Unit {0}
Stepping ks t u (Some p) = Stepped ks t u p

by_kinds : (ks : List Kind) → IsOrdered ks → (t u : TypeId) (k l : Option Kind) → slice_get ks t.0 ≡ k → slice_get ks u.0 ≡ l
    → parts_are (compatible ks) (classes.parts_of_kinds k l) ≡ true → Stepping ks t u (parts_of_kinds k l)
by_kinds ks o t u (Some (kind.Pointer a)) (Some (kind.Pointer b)) e f h = record {
  step = (e, f);
  compatible = h;
  less = before_kind ks o t.0 (kind.Pointer a) e;
}
by_kinds ks o t u (Some (kind.Array a m)) (Some (kind.Array b n)) e f h =
    let parts = agreed (compatible ks) a b (lengths_agree m n) h in
    record {
      step = record { m = m; n = n; left = e; right = f; agree = parts.0; known = refl };
      compatible = parts.1;
      less = before_kind ks o t.0 (kind.Array a m) e;
    }
by_kinds ks o t u k l e f h = tt

by_test : (ks : List Kind) → IsOrdered ks → (t u : TypeId) (same : Bool) → nat_eq t.0 u.0 ≡ same → compatible ks t u ≡ true
    → Stepping ks t u (if same then None else parts_of_kinds (slice_get ks t.0) (slice_get ks u.0))
by_test ks o t u true e h = tt
by_test ks o t u false e h =
    by_kinds ks o t u (slice_get ks t.0) (slice_get ks u.0) refl refl
    (no_test (nat_eq t.0 u.0) (parts_are (compatible ks) (classes.parts_of ks t u)) e (sym (by_parts ks o t u) ∙ h))

stepping_along : (ks : List Kind) (t u : TypeId) (x : Option Parts) (p : Parts) → x ≡ Some p → Stepping ks t u x → Stepped ks t u p
stepping_along ks t u x p e h = rw e at h

pub stepped : (ks : List Kind) → IsOrdered ks → (t u : TypeId) (p : Parts) → compatible ks t u ≡ true → parts_of ks t u ≡ Some p → Stepped ks t u p
stepped ks o t u p h e = stepping_along ks t u (parts_of ks t u) p e (by_test ks o t u (nat_eq t.0 u.0) refl h)

-- without parts compatible types are one
none_left : (f : TypeId → TypeId → Bool) (k l : Option Kind) → parts_of_kinds k l ≡ None → parts_are f (classes.parts_of_kinds k l) ≡ true → ⊥
none_left f (Some (kind.Pointer a)) (Some (kind.Pointer b)) e h = cc
none_left f (Some (kind.Array a m)) (Some (kind.Array b n)) e h = cc
none_left f k l e h = cc

equal_by : (m n : ℕ) → nat_eq m n ≡ true → m ≡ n
equal_by m n h = grind (arith, nat_tests)

pub one_at_end : (ks : List Kind) → IsOrdered ks → (t u : TypeId) → compatible ks t u ≡ true → parts_of ks t u ≡ None → t.0 ≡ u.0
one_at_end ks o t u h e = by (nat_eq t.0 u.0) refl
  where
    by : (same : Bool) → nat_eq t.0 u.0 ≡ same → t.0 ≡ u.0
    by true same = equal_by t.0 u.0 same
    by false same =
        absurd (none_left (compatible ks) (slice_get ks t.0) (slice_get ks u.0)
        (sym (ap (λ b. if◌then◌else◌ {A = Option Parts} b None (parts_of_kinds (slice_get ks t.0) (slice_get ks u.0))) same) ∙ e)
        (no_test (nat_eq t.0 u.0) (parts_are (compatible ks) (classes.parts_of ks t u)) same (sym (by_parts ks o t u) ∙ h)))
