-- How deep trees of expressions are, and where there is room for one more node.
use Rattle.std.proofs.Common.{◌≡◌, ◌≤◌, ℕ, zero, suc, Bool, true, false, max, nat_lt, nat_eq, eqb-true, Option, Some, None, if◌then◌else◌, refl, sym, ap, ◌∙◌, arith}
use Rattle.std.proofs.lemmas.Bool.{ltb-false, le-ltb}
use Rattle.std.proofs.Math.Nat.{le-max_left, le-max_right, max-le}
use Rattle.sb_base.specs.declared.interning.Name.{Name}
use Rattle.sb_base.specs.declared.refusals.Place.{Place}
use Rattle.sb_base.specs.declared.tokens.Token.{Token}
use Rattle.sb_sign.specs.Signs as sign
use Rattle.sb_tree.specs.Trees as tree
use Rattle.sb_tree.specs.Trees.{ExprTree, TypeTree, depth_of_expr, depth_of_type}
use Rattle.sb_lexicon.specs.Lexicon.{Lexicon, is_among, name_of, operand_of, is_returned, named_operand}
use Rattle.sb_lexicon.specs.Tokens.{is_zero}

pub some_depth : (e : ExprTree) → 1 ≤ depth_of_expr e
some_depth (tree.Number text value place) = omega arith
some_depth _ = omega arith

pub some_type_depth : (t : TypeTree) → 1 ≤ depth_of_type t
some_type_depth (tree.Base code place) = omega arith
some_type_depth _ = omega arith

pub within_room : (n d : ℕ) → nat_lt n d ≡ false → d ≤ n
within_room n d h = ltb-false n d h

pub room_within : (n d : ℕ) → d ≤ n → nat_lt n d ≡ false
room_within n d h = le-ltb n d h

pub some_room : (n d : ℕ) → 1 ≤ d → d ≤ n → is_zero n ≡ false
some_room zero d one le = absurd (omega arith)
some_room (suc n) d one le = refl

pub room_for : (n : ℕ) (e : ExprTree) → depth_of_expr e ≤ n → is_zero n ≡ false
room_for n e le = some_room n (depth_of_expr e) (some_depth e) le

pub room_beside : (n : ℕ) (e : ExprTree) → nat_lt n (depth_of_expr e) ≡ false → is_zero n ≡ false
room_beside n e h = room_for n e (within_room n (depth_of_expr e) h)

pub room_is : (n : ℕ) → is_zero n ≡ false → 1 ≤ n
room_is zero h = absurd (cc h)
room_is (suc n) h = omega arith

-- ---- the deeper of two

pub both_fit : (a b n : ℕ) → a ≤ n → b ≤ n → suc (max a b) ≤ suc n
both_fit a b n h k = let deeper : max a b ≤ n = max-le h k in omega arith

pub first_fits : (a b n : ℕ) → suc (max a b) ≤ suc n → a ≤ n
first_fits a b n h = let less : a ≤ max a b = le-max_left a b in omega arith

pub second_fits : (a b n : ℕ) → suc (max a b) ≤ suc n → b ≤ n
second_fits a b n h = let less : b ≤ max a b = le-max_right a b in omega arith

-- ---- the trees of operands

-- what holds of numbers, strings and names holds of operands
pub operand_passes : (w : Lexicon) (t : Token) (e : ExprTree) (test : ExprTree → Bool) → ((n : Name) (value : ℕ) (at : Place) → test (tree.Number n value at) ≡ true) → ((n : Name) (at : Place) → test (tree.Text n at) ≡ true)
    → ((n : Name) (at : Place) → test (tree.Identifier n at) ≡ true) → operand_of w t ≡ Some e → test e ≡ true
operand_passes w t e test number text name h = by_kind (sign.is_number t) (sign.is_text t) (is_returned w t) h
  where
    by_name : (o : Option Name) → named_operand w t.place o ≡ Some e → test e ≡ true
    by_name None h = absurd (cc h)
    by_name (Some n) h = go (is_among n w.types) h
      where
        go : (b : Bool) → (if b then None else Some (tree.Identifier n t.place)) ≡ Some e → test e ≡ true
        go true h = absurd (cc h)
        go false h = let same : tree.Identifier n t.place ≡ e = cc h in ap test (sym same) ∙ name n t.place

    by_kind : (a b c : Bool)
        → (if a then Some (tree.Number t.text t.value t.place) else (if b then Some (tree.Text t.text t.place) else (if c then Some (tree.Identifier t.text t.place) else named_operand w t.place (name_of w t)))) ≡ Some e
        → test e ≡ true
    by_kind true b c h = let same : tree.Number t.text t.value t.place ≡ e = cc h in ap test (sym same) ∙ number t.text t.value t.place
    by_kind false true c h = let same : tree.Text t.text t.place ≡ e = cc h in ap test (sym same) ∙ text t.text t.place
    by_kind false false true h = let same : tree.Identifier t.text t.place ≡ e = cc h in ap test (sym same) ∙ name t.text t.place
    by_kind false false false h = by_name (name_of w t) h

pub operand_flat : (w : Lexicon) (t : Token) (e : ExprTree) → operand_of w t ≡ Some e → depth_of_expr e ≡ 1
operand_flat w t e h = eqb-true (depth_of_expr e) 1 (operand_passes w t e (λ f. nat_eq (depth_of_expr f) 1) (λ n v at. refl) (λ n at. refl) (λ n at. refl) h)
