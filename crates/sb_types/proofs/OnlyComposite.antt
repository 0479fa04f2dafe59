-- Two types of a table have one composite.
use Rattle.std.proofs.Common.{◌≡◌, ℕ, List, Option, Some, slice_get, subst, refl, sym, ap, ◌∙◌, arith}
use Rattle.std.proofs.lemmas.Bool.Decides.{nat_tests}
use Rattle.sb_core.specs.declared.types.Kind.{Kind}
use Rattle.sb_core.specs.declared.types.Kind.TheVariants as kind
use Rattle.sb_core.specs.declared.types.TypeId.{TypeId}
use Rattle.sb_types.specs.declared.table.TypeTable.{TypeTable}
use Rattle.sb_types.specs.Arrays.{array_in}
use Rattle.sb_types.specs.Composite.{known_length, IsComposite, of_one, of_pointers, of_arrays}
use Rattle.sb_types.specs.CompositeLaws.{IsOnly}
use Rattle.sb_types.specs.Table.{IsTypeTable, kinds_of, pointer_at}

same_place : (p q : TypeId) → Some p ≡ Some q → p.0 ≡ q.0
same_place p q e = let same : p ≡ q = cc in ap (λ (x : TypeId). x.0) same

abbrev at : ℕ → TypeId
at n = record { 0 = n }

-- a pointer and an array stand once
one_pointer : (table : TypeTable) → IsTypeTable table → (p q c d : TypeId) → slice_get (kinds_of table) p.0 ≡ Some (kind.Pointer c)
    → slice_get (kinds_of table) q.0 ≡ Some (kind.Pointer d) → c.0 ≡ d.0 → p.0 ≡ q.0
one_pointer table h p q c d e f same =
    same_place (at p.0) (at q.0) (sym (h.types.once c.0 p.0 e) ∙ ap (pointer_at table.pointers.items) same ∙ h.types.once d.0 q.0 f)

one_array : (table : TypeTable) → IsTypeTable table → (p q c d : TypeId) (m n : ℕ) → slice_get (kinds_of table) p.0 ≡ Some (kind.Array c m)
    → slice_get (kinds_of table) q.0 ≡ Some (kind.Array d n) → c.0 ≡ d.0 → m ≡ n → p.0 ≡ q.0
one_array table h p q c d m n e f same length =
    same_place (at p.0) (at q.0)
    (sym (h.arrays.once c.0 m p.0 e) ∙ ap (λ i. array_in table.arrays i m) same ∙ ap (λ i. array_in table.arrays d.0 i) length ∙ h.arrays.once d.0 n q.0 f)

target : (x : Option Kind) (a b : TypeId) → x ≡ Some (kind.Pointer a) → x ≡ Some (kind.Pointer b) → a ≡ b
target x a b e f = cc

element : (x : Option Kind) (a b : TypeId) (m n : ℕ) → x ≡ Some (kind.Array a m) → x ≡ Some (kind.Array b n) → (a ≡ b) × (m ≡ n)
element x a b m n e f = (cc, cc)

number : (a b : TypeId) → a ≡ b → a.0 ≡ b.0
number a b e = ap (λ (x : TypeId). x.0) e

known_of_one : (m n : ℕ) → m ≡ n → known_length m n ≡ m
known_of_one m n e = grind (arith, nat_tests)

-- the composite of one type is the type
of_same : (table : TypeTable) → IsTypeTable table → (a b c : TypeId) → IsComposite (kinds_of table) a b c → a.0 ≡ b.0 → c.0 ≡ a.0
of_same table h _ _ _ (of_one t u e) same = refl
of_same table h _ _ _ (of_pointers t u p a b c e f g below) same =
    let parts : a ≡ b = target (slice_get (kinds_of table) u.0) a b (sym (ap (slice_get (kinds_of table)) same) ∙ e) f in
    one_pointer table h p t c a g e (of_same table h a b c below (number a b parts))
of_same table h _ _ _ (of_arrays t u p a b c m n e f g agree below) same =
    let parts = element (slice_get (kinds_of table) u.0) a b m n (sym (ap (slice_get (kinds_of table)) same) ∙ e) f in
    one_array table h p t c a (known_length m n) m g e (of_same table h a b c below (number a b parts.0)) (known_of_one m n parts.1)

composite_along : (ks : List Kind) (a b c d e : TypeId) → a ≡ c → b ≡ d → IsComposite ks a b e → IsComposite ks c d e
composite_along ks a b c d e f g h = subst (λ (x : TypeId). IsComposite ks c x e) g (subst (λ (x : TypeId). IsComposite ks x b e) f h)

one_composite : (table : TypeTable) → IsTypeTable table → (a b c d : TypeId) → IsComposite (kinds_of table) a b c → IsComposite (kinds_of table) a b d → c.0 ≡ d.0
one_composite table h _ _ _ d (of_one t u e) other = sym (of_same table h t u d other e)
one_composite table h _ _ _ _ (of_pointers t u p a b c e f g below) (of_one _ _ same) =
    of_same table h t u p (of_pointers t u p a b c e f g below) same
one_composite table h _ _ _ _ (of_pointers t u p a b c e f g below) (of_pointers _ _ q x y d i j k beside) =
    let left = target (slice_get (kinds_of table) t.0) x a i e in
    let right = target (slice_get (kinds_of table) u.0) y b j f in
    one_pointer table h p q c d g k (one_composite table h a b c d below (composite_along (kinds_of table) x y a b d left right beside))
one_composite table h _ _ _ _ (of_pointers t u p a b c e f g below) (of_arrays _ _ q x y d m n i j k agree beside) =
    absurd (let clash : Some (kind.Pointer a) ≡ Some (kind.Array x m) = sym e ∙ i in cc)
one_composite table h _ _ _ _ (of_arrays t u p a b c m n e f g agree below) (of_one _ _ same) =
    of_same table h t u p (of_arrays t u p a b c m n e f g agree below) same
one_composite table h _ _ _ _ (of_arrays t u p a b c m n e f g agree below) (of_pointers _ _ q x y d i j k beside) =
    absurd (let clash : Some (kind.Array a m) ≡ Some (kind.Pointer x) = sym e ∙ i in cc)
one_composite table h _ _ _ _ (of_arrays t u p a b c m n e f g agree below) (of_arrays _ _ q x y d v w i j k agree_too beside) =
    let left = element (slice_get (kinds_of table) t.0) x a v m i e in
    let right = element (slice_get (kinds_of table) u.0) y b w n j f in
    one_array table h p q c d (known_length m n) (known_length v w) g k
    (one_composite table h a b c d below (composite_along (kinds_of table) x y a b d left.0 right.0 beside))
    (ap (λ l. known_length l n) (sym left.1) ∙ ap (known_length v) (sym right.1))

pub is_only : IsOnly
is_only table h a b c d one other = ap (λ n. at n) (one_composite table h a b c d one other)
