-- What sums come to.
use Rattle.std.proofs.Common.{◌≡◌, ◌⊎◌, true, ℤ, pos, negsuc, ◌+ℤ◌, ◌-ℤ◌, ◌*ℤ◌, inl, inr, sym, ap, ◌∙◌, arith}
use Rattle.std.specs.Prelude.{Option, Some}
use Rattle.std.specs.Int.{w128, int_bit_not}
use Rattle.std.proofs.lemmas.Int.{ints}
use Rattle.sb_base.specs.declared.refusals.Place.{Place}
use Rattle.sb_core.specs.declared.contract.Atom.{Atom}
use Rattle.sb_core.specs.declared.operator.NumOp.TheVariants as num
use Rattle.sb_core.specs.declared.operator.SizeBinary.{SizeBinary}
use Rattle.sb_core.specs.declared.operator.SizeBinary.TheVariants as binary
use Rattle.sb_core.specs.declared.operator.SizeUnary.{SizeUnary}
use Rattle.sb_core.specs.declared.operator.SizeUnary.TheVariants as unary
use Rattle.sb_core.specs.Trees.{Amount, NullPointer, Identifier, Target, Field, Result, Old, Prefixed, Joined, Other}
use Rattle.sb_sum.specs.Lines.{Line, constant_line, sum_in, value_in, is_zero, combined, scaled, is_constant}
use Rattle.sb_linear.specs.Sizes.{pointer_in, Sized, Sum, truth, linear, constant_of, between_constants, product, joined_lines, prefixed_sum}
use Rattle.sb_linear.specs.Laws.{KeepsValue, value_if, prefixed_number, joined_numbers, number_in}
use Rattle.sb_sum.proofs.Products.{exchange, over_sum}
use Rattle.sb_sum.proofs.Values.{adds, nothing_left, times_come}
use Rattle.sb_linear.proofs.Results.{IsJoinedOf, IsPrefixedOf, sum_is, some_is, held_sum, joined_of, prefixed_of, tree_of, no_parts, between, constant_only, product_of}

-- ---- sums

constant_comes : (v : Atom → ℤ) (z : ℤ) → value_in v (constant_line z) ≡ z
constant_comes v z = sym (nothing_left z)

only_constant : (v : Atom → ℤ) (a : Line) → is_constant a ≡ true → value_in v a ≡ a.constant
only_constant v a h = ap (λ ps. sum_in v ps +ℤ a.constant) (no_parts a.parts h) ∙ sym (nothing_left a.constant)

sum_with : (c s r a b : ℤ) → (s +ℤ (c *ℤ r)) +ℤ (a +ℤ (c *ℤ b)) ≡ (s +ℤ a) +ℤ (c *ℤ (r +ℤ b))
sum_with c s r a b = exchange s (c *ℤ r) a (c *ℤ b) ∙ ap (λ z. (s +ℤ a) +ℤ z) (sym (over_sum c r b))

combined_comes : (v : Atom → ℤ) (a : Line) (c : ℤ) (b : Line) → value_in v (combined a c b) ≡ value_in v a +ℤ (c *ℤ value_in v b)
combined_comes v a c b =
    ap (λ s. s +ℤ (a.constant +ℤ (c *ℤ b.constant))) (adds v c a.parts b.parts) ∙ sum_with c (sum_in v a.parts) (sum_in v b.parts) a.constant b.constant

scaled_with : (c s a : ℤ) → (c *ℤ s) +ℤ (c *ℤ a) ≡ c *ℤ (s +ℤ a)
scaled_with c s a = sym (over_sum c s a)

scaled_comes : (v : Atom → ℤ) (c : ℤ) (a : Line) → value_in v (scaled c a) ≡ c *ℤ value_in v a
scaled_comes v c a = ap (λ s. s +ℤ (c *ℤ a.constant)) (times_come v c a.parts) ∙ scaled_with c (sum_in v a.parts) a.constant

once : (x y : ℤ) → x +ℤ y ≡ x +ℤ (pos 1 *ℤ y)
once x y = omega (arith, ints)

less_once : (x y : ℤ) → x -ℤ y ≡ x +ℤ (negsuc 0 *ℤ y)
less_once x y = omega (arith, ints)

other_way : (x y : ℤ) → x *ℤ y ≡ y *ℤ x
other_way x y = omega (arith, ints)

-- ---- operators

between_comes : (v : Atom → ℤ) (op : SizeBinary) (a b l : Line) → between_constants op a b ≡ Some l
    → constant_of op (value_in v a) (value_in v b) ≡ Some (value_in v l)
between_comes v op a b l e =
    let of = between op a b l e in
    ap (λ x. constant_of op x (value_in v b)) (only_constant v a of.left)
    ∙ ap (λ y. constant_of op a.constant y) (only_constant v b of.right)
    ∙ of.value_is ∙ ap Some (sym (ap (value_in v) of.is ∙ constant_comes v of.value))

product_comes : (v : Atom → ℤ) (a b l : Line) → product a b ≡ Some l → value_in v a *ℤ value_in v b ≡ value_in v l
product_comes v a b l e = by_side (product_of a b l e)
  where
    by_side : (is_constant a ≡ true) × (l ≡ scaled a.constant b) ⊎ (is_constant b ≡ true) × (l ≡ scaled b.constant a)
        → value_in v a *ℤ value_in v b ≡ value_in v l
    by_side (inl h) =
        ap (λ x. x *ℤ value_in v b) (only_constant v a h.0) ∙ sym (ap (value_in v) h.1 ∙ scaled_comes v a.constant b)
    by_side (inr h) =
        ap (λ y. value_in v a *ℤ y) (only_constant v b h.0) ∙ other_way (value_in v a) b.constant
        ∙ sym (ap (value_in v) h.1 ∙ scaled_comes v b.constant a)

joined_comes : (v : Atom → ℤ) (op : SizeBinary) (a b l : Line) → joined_lines op a b ≡ Some l
    → constant_of op (value_in v a) (value_in v b) ≡ Some (value_in v l)
joined_comes v (binary.Num num.Add) a b l e =
    ap Some (once (value_in v a) (value_in v b) ∙ sym (combined_comes v a (pos 1) b) ∙ ap (value_in v) (some_is (combined a (pos 1) b) l e))
joined_comes v (binary.Num num.Sub) a b l e =
    ap Some (less_once (value_in v a) (value_in v b) ∙ sym (combined_comes v a (negsuc 0) b) ∙ ap (value_in v) (some_is (combined a (negsuc 0) b) l e))
joined_comes v (binary.Num num.Mul) a b l e = ap Some (product_comes v a b l e)
joined_comes v (binary.Num num.Div) a b l e = between_comes v (binary.Num num.Div) a b l e
joined_comes v (binary.Num num.Rem) a b l e = between_comes v (binary.Num num.Rem) a b l e
joined_comes v (binary.Num num.Shl) a b l e = between_comes v (binary.Num num.Shl) a b l e
joined_comes v (binary.Num num.Shr) a b l e = between_comes v (binary.Num num.Shr) a b l e
joined_comes v (binary.Num num.And) a b l e = between_comes v (binary.Num num.And) a b l e
joined_comes v (binary.Num num.Xor) a b l e = between_comes v (binary.Num num.Xor) a b l e
joined_comes v (binary.Num num.Or) a b l e = between_comes v (binary.Num num.Or) a b l e
joined_comes v (binary.Compare op) a b l e = between_comes v (binary.Compare op) a b l e
joined_comes v binary.And a b l e = between_comes v binary.And a b l e
joined_comes v binary.Or a b l e = between_comes v binary.Or a b l e

-- a number that is made of a constant alone
of_constant : (v : Atom → ℤ) (f : ℤ → ℤ) (a l : Line) → is_constant a ≡ true → l ≡ constant_line (f a.constant) → f (value_in v a) ≡ value_in v l
of_constant v f a l h e = ap f (only_constant v a h) ∙ sym (ap (value_in v) e ∙ constant_comes v (f a.constant))

prefixed_comes : (v : Atom → ℤ) (op : SizeUnary) (place : Place) (a l : Line) → prefixed_sum op place a ≡ Sum l
    → prefixed_number op (Some (value_in v a)) ≡ Some (value_in v l)
prefixed_comes v unary.Plus place a l e = ap (λ k. Some (value_in v k)) (sum_is a l e)
prefixed_comes v unary.Minus place a l e =
    let parts = held_sum place (Some (scaled (negsuc 0) a)) l e in
    ap Some (sym (scaled_comes v (negsuc 0) a) ∙ ap (value_in v) (some_is (scaled (negsuc 0) a) l parts.0))
prefixed_comes v unary.Invert place a l e =
    let parts = constant_only place a (int_bit_not w128 a.constant) l e in
    ap Some (of_constant v (λ z. int_bit_not w128 z) a l parts.0 parts.1)
prefixed_comes v unary.Not place a l e =
    let parts = constant_only place a (truth (is_zero a.constant)) l e in
    ap Some (of_constant v (λ z. truth (is_zero z)) a l parts.0 parts.1)

-- ---- sizes

unary_comes : (v : Atom → ℤ) (op : SizeUnary) (place : Place) (x : Sized) (n : Option ℤ) (l : Line) → IsPrefixedOf op place x l
    → ((k : Line) → x ≡ Sum k → n ≡ Some (value_in v k)) → prefixed_number op n ≡ Some (value_in v l)
unary_comes v op place x n l of more = ap (prefixed_number op) (more of.of of.of_is) ∙ prefixed_comes v op place of.of l of.made

binary_comes : (v : Atom → ℤ) (op : SizeBinary) (x y : Sized) (n m : Option ℤ) (l : Line) → IsJoinedOf op x y l
    → ((k : Line) → x ≡ Sum k → n ≡ Some (value_in v k)) → ((k : Line) → y ≡ Sum k → m ≡ Some (value_in v k))
    → joined_numbers op n m ≡ Some (value_in v l)
binary_comes v op x y n m l of left right =
    ap (λ a. joined_numbers op a m) (left of.left of.left_is) ∙ ap (joined_numbers op (Some (value_in v of.left))) (right of.right of.right_is)
    ∙ joined_comes v op of.left of.right l of.made

pub keeps_value : KeepsValue
unfolding linear number_in
keeps_value s m (Amount z place) l e v =
    let parts = held_sum place (Some (constant_line z)) l e in
    ap Some (sym (constant_comes v z) ∙ ap (value_in v) (some_is (constant_line z) l parts.0))
keeps_value s m (NullPointer place) l e v = absurd (cc)
keeps_value s m (Identifier n place) l e v = ap (value_if v) e
keeps_value s m (Target n name_place place) l e v = ap (value_if v) e
keeps_value s m (Field n name_place f field_place place) l e v = ap (value_if v) e
keeps_value s m (Result place) l e v = ap (value_if v) e
keeps_value s m (Old of place) l e v = ap (value_if v) e
keeps_value s m (Prefixed op of place) l e v =
    unary_comes v op place (linear s m of) (number_in s m v of) l (prefixed_of op place (linear s m of) l (tree_of (pointer_in s of) op place (linear s m of) l e)) (λ k f. keeps_value s m of k f v)
keeps_value s m (Joined op left right place) l e v =
    binary_comes v op (linear s m left) (linear s m right) (number_in s m v left) (number_in s m v right) l
    (joined_of op place (linear s m left) (linear s m right) l e)
    (λ k f. keeps_value s m left k f v) (λ k f. keeps_value s m right k f v)
keeps_value s m (Other place) l e v = absurd (cc)
