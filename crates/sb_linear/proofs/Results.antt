-- What a sum that was made was made of.
use Rattle.std.proofs.Common.{◌≡◌, ℕ, ◌⊎◌, Bool, true, false, ◌&&◌, if◌then◌else◌, List, [], ◌∷◌, ℤ, inl, inr, refl, sym, ap, ◌∙◌}
use Rattle.std.specs.Prelude.{Option, Some, None}
use Rattle.std.specs.Option.{option_map}
use Rattle.sb_base.specs.declared.refusals.Place.{Place}
use Rattle.sb_core.specs.declared.contract.Atom.{Atom}
use Rattle.sb_core.specs.declared.operator.SizeBinary.{SizeBinary}
use Rattle.sb_core.specs.declared.operator.SizeUnary.{SizeUnary}
use Rattle.sb_core.specs.declared.operator.SizeUnary.TheVariants as unary
use Rattle.sb_sum.specs.Lines.{Line, constant_line, is_constant, has_no_parts, are_held, scaled}
use Rattle.sb_linear.specs.Sizes.{Sized, Sum, Unfit, constant_of, between_constants, product, sum_or, held, joined, joined_lines, prefixed, prefixed_sum, prefixed_tree}

pub sum_is : (k l : Line) → Sum k ≡ Sum l → k ≡ l
sum_is k l e = cc

pub some_is : {A : Type 0} (x y : A) → Some x ≡ Some y → x ≡ y
some_is x y e = cc

pub held_sum : (place : Place) (o : Option Line) (l : Line) → held place o ≡ Sum l → (o ≡ Some l) × (are_held l ≡ true)
held_sum place None l e = absurd (cc)
held_sum place (Some k) l e = by_test (are_held k) refl e
  where
    by_test : (b : Bool) → are_held k ≡ b → sum_or place (if b then Some k else None) ≡ Sum l → (Some k ≡ Some l) × (are_held l ≡ true)
    by_test true h s = let same = sum_is k l s in (ap Some same, ap are_held (sym same) ∙ h)
    by_test false h s = absurd (cc)

-- ---- operators

pub record IsJoinedOf (op : SizeBinary) (x y : Sized) (l : Line) : Type 0 where
  pub left : Line
  pub right : Line
  pub left_is : x ≡ Sum left
  pub right_is : y ≡ Sum right
  pub made : joined_lines op left right ≡ Some l
  pub held : are_held l ≡ true

pub joined_of : (op : SizeBinary) (place : Place) (x y : Sized) (l : Line) → joined op place x y ≡ Sum l → IsJoinedOf op x y l
joined_of op place (Unfit number at) y l e = absurd (cc)
joined_of op place (Sum a) (Unfit number at) l e = absurd (cc)
joined_of op place (Sum a) (Sum b) l e =
    let parts = held_sum place (joined_lines op a b) l e in
    record { left = a; right = b; left_is = refl; right_is = refl; made = parts.0; held = parts.1 }

pub record IsPrefixedOf (op : SizeUnary) (place : Place) (x : Sized) (l : Line) : Type 0 where
  pub of : Line
  pub of_is : x ≡ Sum of
  pub made : prefixed_sum op place of ≡ Sum l

pub prefixed_of : (op : SizeUnary) (place : Place) (x : Sized) (l : Line) → prefixed op place x ≡ Sum l → IsPrefixedOf op place x l
prefixed_of op place (Unfit number at) l e = absurd (cc)
prefixed_of op place (Sum a) l e = record { of = a; of_is = refl; made = e }

-- ---- constants

pub no_parts : (ps : List (ℤ × Atom)) → has_no_parts ps ≡ true → ps ≡ []
no_parts [] h = refl
no_parts (p ∷ ps) h = absurd (cc)

pub record AreBetween (op : SizeBinary) (a b l : Line) : Type 0 where
  pub left : is_constant a ≡ true
  pub right : is_constant b ≡ true
  pub value : ℤ
  pub value_is : constant_of op a.constant b.constant ≡ Some value
  pub is : l ≡ constant_line value

pub between : (op : SizeBinary) (a b l : Line) → between_constants op a b ≡ Some l → AreBetween op a b l
between op a b l e = by_tests (is_constant a) (is_constant b) refl refl e
  where
    of_value : (o : Option ℤ) → option_map constant_line o ≡ Some l → (z : ℤ) × (o ≡ Some z) × (l ≡ constant_line z)
    of_value None s = absurd (cc)
    of_value (Some z) s = (z, refl, sym (some_is (constant_line z) l s))

    by_tests : (x y : Bool) → is_constant a ≡ x → is_constant b ≡ y
        → (if x && y then option_map constant_line (constant_of op a.constant b.constant) else None) ≡ Some l → AreBetween op a b l
    by_tests true true h k s =
        let v = of_value (constant_of op a.constant b.constant) s in
        record { left = h; right = k; value = v.0; value_is = v.1; is = v.2 }
    by_tests true false h k s = absurd (cc)
    by_tests false true h k s = absurd (cc)
    by_tests false false h k s = absurd (cc)

-- a constant that is tested, and what it gives
pub constant_only : (place : Place) (a : Line) (z : ℤ) (l : Line)
    → (if is_constant a then held place (Some (constant_line z)) else Unfit 61 place) ≡ Sum l
    → (is_constant a ≡ true) × (l ≡ constant_line z) × (are_held l ≡ true)
constant_only place a z l e = by_test (is_constant a) e
  where
    by_test : (b : Bool) → (if b then held place (Some (constant_line z)) else Unfit 61 place) ≡ Sum l → (b ≡ true) × (l ≡ constant_line z) × (are_held l ≡ true)
    by_test true s = let parts = held_sum place (Some (constant_line z)) l s in (refl, sym (some_is (constant_line z) l parts.0), parts.1)
    by_test false s = absurd (cc)

-- ---- products

pub product_of : (a b l : Line) → product a b ≡ Some l
    → (is_constant a ≡ true) × (l ≡ scaled a.constant b) ⊎ (is_constant b ≡ true) × (l ≡ scaled b.constant a)
product_of a b l e = by_tests (is_constant a) (is_constant b) e
  where
    by_tests : (x y : Bool) → (if x then Some (scaled a.constant b) else if y then Some (scaled b.constant a) else None) ≡ Some l
        → (x ≡ true) × (l ≡ scaled a.constant b) ⊎ (y ≡ true) × (l ≡ scaled b.constant a)
    by_tests true y s = inl (refl, sym (some_is (scaled a.constant b) l s))
    by_tests false true s = inr (refl, sym (some_is (scaled b.constant a) l s))
    by_tests false false s = absurd (cc)

-- what is refused as a whole is no sum
pub tree_of : (o : Option ℕ) (op : SizeUnary) (place : Place) (x : Sized) (l : Line) → prefixed_tree o op place x ≡ Sum l → prefixed op place x ≡ Sum l
tree_of None op place x l e = e
tree_of (Some k) unary.Plus place x l e = e
tree_of (Some k) unary.Minus place x l e = e
tree_of (Some k) unary.Invert place x l e = e
tree_of (Some k) unary.Not place x l e = absurd (cc)
