-- The form of the sum that a size stands for.
use Rattle.std.proofs.Common.{◌≡◌, ◌≢◌, ◌⊎◌, Bool, true, false, if◌then◌else◌, List, [], ◌∷◌, ℤ, pos, negsuc, inl, inr, refl, sym, subst}
use Rattle.std.specs.Prelude.{ℕ, Option, Some, None}
use Rattle.std.specs.Int.{w128, int_bit_not}
use Rattle.sb_base.specs.declared.interning.Name.{Name}
use Rattle.sb_base.specs.declared.refusals.Place.{Place}
use Rattle.sb_core.specs.declared.contract.Location.{Location}
use Rattle.sb_core.specs.declared.contract.Location.TheVariants as location
use Rattle.sb_core.specs.declared.operator.NumOp.TheVariants as num
use Rattle.sb_core.specs.declared.operator.SizeBinary.{SizeBinary}
use Rattle.sb_core.specs.declared.operator.SizeBinary.TheVariants as binary
use Rattle.sb_core.specs.declared.operator.SizeUnary.{SizeUnary}
use Rattle.sb_core.specs.declared.operator.SizeUnary.TheVariants as unary
use Rattle.sb_core.specs.declared.types.Member.{Member}
use Rattle.sb_core.specs.declared.types.TypeId.{TypeId}
use Rattle.sb_core.specs.Trees.{SizeTree, Amount, NullPointer, Identifier, Target, Field, Result, Old, Prefixed, Joined, Other}
use Rattle.sb_linear.specs.declared.moment.Moment.{Moment}
use Rattle.sb_linear.specs.declared.moment.Moment.TheVariants as moment
use Rattle.sb_sum.specs.Lines.{Line, AreOrdered, constant_line, single, is_zero, is_constant, are_held, combined, scaled}
use Rattle.sb_linear.specs.Scopes.{Scope, Inside, param_named, member_named, param_type, member_type, is_number_type, target_type, members_of}
use Rattle.sb_linear.specs.Sizes.{pointer_in, Sized, Sum, Unfit, truth, is_old, value_at, param_value, member_value, name_value, target_of_param, target_of_member, target_value, field_among, field_of_param, field_value, result_value, may_be_old, old_value, between_constants, product, joined_lines, prefixed_sum, linear}
use Rattle.sb_sum.specs.Laws.{HaveNoZero, IsFormed}
use Rattle.sb_linear.specs.Laws.{Forms}
use Rattle.sb_sum.proofs.Ordering.{ordered_times, ordered_merged, some_times, some_merged}
use Rattle.sb_linear.proofs.Results.{IsJoinedOf, IsPrefixedOf, sum_is, some_is, held_sum, joined_of, prefixed_of, tree_of, between, constant_only, product_of}

-- ---- values

one_is_some : pos 1 ≢ pos 0
one_is_some e = cc

value_form : (m : Moment) (at : Location) (t : Option TypeId) (place : Place) (l : Line) → value_at m at t place ≡ Sum l → IsFormed l
value_form m at t place l e = by_type (is_number_type t) e
  where
    by_type : (b : Bool) → (if b then Sum (single (record { at = at; old = is_old m at })) else Unfit 61 place) ≡ Sum l → IsFormed l
    by_type true s =
        subst IsFormed (sum_is (single (record { at = at; old = is_old m at })) l s)
        (record { ordered = (tt, tt); no_zero = (one_is_some, tt); narrow = refl })
    by_type false s = absurd (cc)

param_form : (s : Scope) (m : Moment) (k : Option ℕ) (place : Place) (l : Line) → param_value s m k place ≡ Sum l → IsFormed l
param_form s m None place l e = absurd (cc)
param_form s m (Some k) place l e = value_form m (location.Param k) (param_type s k) place l e

member_form : (i : Inside) (m : Moment) (k : Option ℕ) (place : Place) (l : Line) → member_value i m k place ≡ Sum l → IsFormed l
member_form i m None place l e = absurd (cc)
member_form i m (Some k) place l e = value_form m (location.Field i.param k) (member_type i.members k) place l e

name_form : (i : Option Inside) (s : Scope) (m : Moment) (n : Name) (place : Place) (l : Line) → name_value i s m n place ≡ Sum l → IsFormed l
name_form None s m n place l e = param_form s m (param_named s n) place l e
name_form (Some i) s m n place l e = member_form i m (member_named i.members n) place l e

target_of_param_form : (s : Scope) (m : Moment) (k : Option ℕ) (name_place place : Place) (l : Line)
    → target_of_param s m k name_place place ≡ Sum l → IsFormed l
target_of_param_form s m None name_place place l e = absurd (cc)
target_of_param_form s m (Some k) name_place place l e =
    value_form m (location.Target k) (target_type s.types (param_type s k)) place l e

-- what a member points to is no sum
no_sum : (k : Option ℕ) (name_place place : Place) (l : Line) → target_of_member k name_place place ≡ Sum l → IsFormed l
no_sum None name_place place l e = absurd (cc)
no_sum (Some k) name_place place l e = absurd (cc)

target_form : (i : Option Inside) (s : Scope) (m : Moment) (n : Name) (name_place place : Place) (l : Line)
    → target_value i s m n name_place place ≡ Sum l → IsFormed l
target_form None s m n name_place place l e = target_of_param_form s m (param_named s n) name_place place l e
target_form (Some i) s m n name_place place l e = no_sum (member_named i.members n) name_place place l e

among_form : (k : ℕ) (members : List Member) (m : Moment) (j : Option ℕ) (field_place place : Place) (l : Line)
    → field_among k members m j field_place place ≡ Sum l → IsFormed l
among_form k [] m j field_place place l e = absurd (cc)
among_form k (first ∷ more) m None field_place place l e = absurd (cc)
among_form k (first ∷ more) m (Some j) field_place place l e = value_form m (location.Field k j) (member_type (first ∷ more) j) place l e

field_of_param_form : (s : Scope) (m : Moment) (k : Option ℕ) (f : Name) (name_place field_place place : Place) (l : Line)
    → field_of_param s m k f name_place field_place place ≡ Sum l → IsFormed l
field_of_param_form s m None f name_place field_place place l e = absurd (cc)
field_of_param_form s m (Some k) f name_place field_place place l e =
    let members = members_of s.types (target_type s.types (param_type s k)) in
    among_form k members m (member_named members f) field_place place l e

field_form : (i : Option Inside) (s : Scope) (m : Moment) (n f : Name) (name_place field_place place : Place) (l : Line)
    → field_value i s m n f name_place field_place place ≡ Sum l → IsFormed l
field_form None s m n f name_place field_place place l e = field_of_param_form s m (param_named s n) f name_place field_place place l e
field_form (Some i) s m n f name_place field_place place l e = no_sum (member_named i.members n) name_place place l e

result_form : (s : Scope) (m : Moment) (place : Place) (l : Line) → result_value s m place ≡ Sum l → IsFormed l
result_form s moment.AtEntry place l e = by_type (is_number_type (Some s.result)) e
  where
    by_type : (b : Bool) → (if b then Unfit 65 place else Unfit 61 place) ≡ Sum l → IsFormed l
    by_type true h = absurd (cc)
    by_type false h = absurd (cc)
result_form s moment.AtExit place l e = value_form moment.AtExit location.Result (Some s.result) place l e
result_form s moment.TakenAtEntry place l e = value_form moment.TakenAtEntry location.Result (Some s.result) place l e

-- what is `_Old_` is the size that it stands around
old_form : (m : Moment) (t : SizeTree) (place : Place) (of : Sized) (l : Line) → old_value m t place of ≡ Sum l → of ≡ Sum l
old_form moment.AtEntry t place of l e = by_test (may_be_old t) e
  where
    by_test : (b : Bool) → (if b then Unfit 65 place else Unfit 61 place) ≡ Sum l → of ≡ Sum l
    by_test true h = absurd (cc)
    by_test false h = absurd (cc)
old_form moment.AtExit t place of l e = by_test (may_be_old t) e
  where
    by_test : (b : Bool) → (if b then of else Unfit 61 place) ≡ Sum l → of ≡ Sum l
    by_test true h = h
    by_test false h = absurd (cc)
old_form moment.TakenAtEntry t place of l e = by_test (may_be_old t) e
  where
    by_test : (b : Bool) → (if b then of else Unfit 61 place) ≡ Sum l → of ≡ Sum l
    by_test true h = h
    by_test false h = absurd (cc)

-- ---- operators

constant_form : (z : ℤ) (l : Line) → l ≡ constant_line z → are_held l ≡ true → IsFormed l
constant_form z l e h = record {
  ordered = subst (λ k. AreOrdered k.parts) (sym e) tt;
  no_zero = subst (λ k. HaveNoZero k.parts) (sym e) tt;
  narrow = h;
}

combined_form : (c : ℤ) (a b l : Line) → IsFormed a → IsFormed b → combined a c b ≡ l → are_held l ≡ true → IsFormed l
combined_form c a b l f g e h = record {
  ordered = subst (λ k. AreOrdered k.parts) e (ordered_merged c a.parts b.parts f.ordered g.ordered);
  no_zero = subst (λ k. HaveNoZero k.parts) e (some_merged c a.parts b.parts);
  narrow = h;
}

scaled_form : (c : ℤ) (a l : Line) → IsFormed a → l ≡ scaled c a → are_held l ≡ true → IsFormed l
scaled_form c a l f e h = record {
  ordered = subst (λ k. AreOrdered k.parts) (sym e) (ordered_times c a.parts f.ordered);
  no_zero = subst (λ k. HaveNoZero k.parts) (sym e) (some_times c a.parts);
  narrow = h;
}

product_form : (a b l : Line) → IsFormed a → IsFormed b → product a b ≡ Some l → are_held l ≡ true → IsFormed l
product_form a b l f g e h = by_side (product_of a b l e)
  where
    by_side : (is_constant a ≡ true) × (l ≡ scaled a.constant b) ⊎ (is_constant b ≡ true) × (l ≡ scaled b.constant a) → IsFormed l
    by_side (inl of) = scaled_form a.constant b l g of.1 h
    by_side (inr of) = scaled_form b.constant a l f of.1 h

between_form : (op : SizeBinary) (a b l : Line) → between_constants op a b ≡ Some l → are_held l ≡ true → IsFormed l
between_form op a b l e h = let of = between op a b l e in constant_form of.value l of.is h

joined_form : (op : SizeBinary) (a b l : Line) → IsFormed a → IsFormed b → joined_lines op a b ≡ Some l → are_held l ≡ true → IsFormed l
joined_form (binary.Num num.Add) a b l f g e h = combined_form (pos 1) a b l f g (some_is (combined a (pos 1) b) l e) h
joined_form (binary.Num num.Sub) a b l f g e h = combined_form (negsuc 0) a b l f g (some_is (combined a (negsuc 0) b) l e) h
joined_form (binary.Num num.Mul) a b l f g e h = product_form a b l f g e h
joined_form (binary.Num num.Div) a b l f g e h = between_form (binary.Num num.Div) a b l e h
joined_form (binary.Num num.Rem) a b l f g e h = between_form (binary.Num num.Rem) a b l e h
joined_form (binary.Num num.Shl) a b l f g e h = between_form (binary.Num num.Shl) a b l e h
joined_form (binary.Num num.Shr) a b l f g e h = between_form (binary.Num num.Shr) a b l e h
joined_form (binary.Num num.And) a b l f g e h = between_form (binary.Num num.And) a b l e h
joined_form (binary.Num num.Xor) a b l f g e h = between_form (binary.Num num.Xor) a b l e h
joined_form (binary.Num num.Or) a b l f g e h = between_form (binary.Num num.Or) a b l e h
joined_form (binary.Compare op) a b l f g e h = between_form (binary.Compare op) a b l e h
joined_form binary.And a b l f g e h = between_form binary.And a b l e h
joined_form binary.Or a b l f g e h = between_form binary.Or a b l e h

prefixed_form : (op : SizeUnary) (place : Place) (a l : Line) → IsFormed a → prefixed_sum op place a ≡ Sum l → IsFormed l
prefixed_form unary.Plus place a l f e = subst IsFormed (sum_is a l e) f
prefixed_form unary.Minus place a l f e =
    let parts = held_sum place (Some (scaled (negsuc 0) a)) l e in
    scaled_form (negsuc 0) a l f (sym (some_is (scaled (negsuc 0) a) l parts.0)) parts.1
prefixed_form unary.Invert place a l f e =
    let parts = constant_only place a (int_bit_not w128 a.constant) l e in
    constant_form (int_bit_not w128 a.constant) l parts.1 parts.2
prefixed_form unary.Not place a l f e =
    let parts = constant_only place a (truth (is_zero a.constant)) l e in
    constant_form (truth (is_zero a.constant)) l parts.1 parts.2

-- ---- sizes

unary_form : (op : SizeUnary) (place : Place) (x : Sized) (l : Line) → IsPrefixedOf op place x l → ((k : Line) → x ≡ Sum k → IsFormed k) → IsFormed l
unary_form op place x l of more = prefixed_form op place of.of l (more of.of of.of_is) of.made

binary_form : (op : SizeBinary) (x y : Sized) (l : Line) → IsJoinedOf op x y l
    → ((k : Line) → x ≡ Sum k → IsFormed k) → ((k : Line) → y ≡ Sum k → IsFormed k) → IsFormed l
binary_form op x y l of left right =
    joined_form op of.left of.right l (left of.left of.left_is) (right of.right of.right_is) of.made of.held

pub forms : Forms
unfolding linear
forms s m (Amount z place) l e =
    let parts = held_sum place (Some (constant_line z)) l e in
    constant_form z l (sym (some_is (constant_line z) l parts.0)) parts.1
forms s m (NullPointer place) l e = absurd (cc)
forms s m (Identifier n place) l e = name_form s.inside s m n place l e
forms s m (Target n name_place place) l e = target_form s.inside s m n name_place place l e
forms s m (Field n name_place f field_place place) l e = field_form s.inside s m n f name_place field_place place l e
forms s m (Result place) l e = result_form s m place l e
forms s m (Old of place) l e = forms s moment.TakenAtEntry of l (old_form m of place (linear s moment.TakenAtEntry of) l e)
forms s m (Prefixed op of place) l e =
    unary_form op place (linear s m of) l (prefixed_of op place (linear s m of) l (tree_of (pointer_in s of) op place (linear s m of) l e)) (λ k f. forms s m of k f)
forms s m (Joined op left right place) l e =
    binary_form op (linear s m left) (linear s m right) l (joined_of op place (linear s m left) (linear s m right) l e)
    (λ k f. forms s m left k f) (λ k f. forms s m right k f)
forms s m (Other place) l e = absurd (cc)
