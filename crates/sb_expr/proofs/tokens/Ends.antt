-- Which tokens do not go on from an expression of each level.
use Rattle.std.proofs.Common.{◌≡◌, ◌≤◌, ◌<◌, ℕ, zero, suc, Bool, true, false, ◌||◌, ◌&&◌, not, Option, Some, None, is_some, nat_eq, if◌then◌else◌, refl, sym, ap, ◌∙◌, arith, eqb-true}
use Rattle.std.proofs.lemmas.Bool.{ne_eqb}
use Rattle.std.specs.Option.{option_map_or}
use Rattle.sb_base.specs.declared.refusals.Place.{Place}
use Rattle.sb_base.specs.declared.tokens.Token.{Token}
use Rattle.sb_tree.specs.declared.operator.BinaryOp.{BinaryOp}
use Rattle.sb_tree.specs.declared.operator.BinaryOp.TheVariants as binary
use Rattle.sb_sign.specs.declared.sign.Mark.{Mark}
use Rattle.sb_sign.specs.declared.sign.Mark.TheVariants as mark
use Rattle.sb_sign.specs.Signs as sign
use Rattle.sb_sign.specs.Signs.{is_same_mark}
use Rattle.sb_tree.specs.Trees.{ExprTree}
use Rattle.sb_expr.specs.Expression.{Sequence}
use Rattle.sb_lexicon.specs.Lexicon.{Lexicon, rank, binary_at, assignment_at, suffix_at, of_rank, assignment_of}
use Rattle.sb_lexicon.specs.Tokens.{is_close, is_close_bracket, is_colon, is_comma, is_question, is_operator, is_open_brace, is_suffix}
use Rattle.sb_lexicon.proofs.Lexemes.{mark_is}
use Rattle.sb_lexicon.proofs.Marks.{if_so, both_false, by_its_mark, has_mark}
use Rattle.sb_expr.proofs.tokens.More.{ends_in_type, ends_unary, last_of, more_operand, more_infix, more_conditional, more_assignment, more}

-- ---- behind an operand

-- the mark goes on from no operand
abbrev pub Leaves : Place → Mark → Type 0
Leaves place m = (is_some (suffix_at place m) ≡ false) × (is_same_mark mark.OpenBrace m ≡ false)

assignment_leaves : (place : Place) (m : Mark) → (if is_some (assignment_at m) then not (is_some (suffix_at place m) || is_same_mark mark.OpenBrace m) else true) ≡ true
assignment_leaves place mark.Assign = refl
assignment_leaves place _ = refl

operator_leaves : (place : Place) (m : Mark) → (if is_some (binary_at m) then not (is_some (suffix_at place m) || is_same_mark mark.OpenBrace m) else true) ≡ true
operator_leaves place mark.Star = refl
operator_leaves place _ = refl

-- an assignment is no other operator, and no `?`
assignment_alone : (m : Mark) → (if is_some (assignment_at m) then not (is_some (binary_at m) || is_same_mark mark.Question m) else true) ≡ true
assignment_alone mark.Assign = refl
assignment_alone _ = refl

-- ---- ranks

-- no operator of these ranks
abbrev pub NoneOf : ℕ → Mark → Type 0
NoneOf k m = (j : ℕ) → j ≤ k → is_some (of_rank j m) ≡ false

none_of_none : (k : ℕ) (m : Mark) → is_some (binary_at m) ≡ false → NoneOf k m
none_of_none k m h j le = go (binary_at m) h
  where
    go : (o : Option BinaryOp) → is_some o ≡ false → is_some (option_map_or (λ op. if nat_eq (rank op) j then Some op else None) o None) ≡ false
    go None h = refl
    go (Some op) h = absurd (cc h)

tested : (b : Bool) (op : BinaryOp) → is_some (if b then Some op else None) ≡ b
tested true op = refl
tested false op = refl

-- its rank, and that it leaves tighter ones
pub ranked : (k : ℕ) (m : Mark) → is_some (of_rank k m) ≡ true → (is_some (binary_at m) ≡ true) × ((j : ℕ) → j < k → is_some (of_rank j m) ≡ false)
ranked k m h = go (binary_at m) h
  where
    go : (o : Option BinaryOp) → is_some (option_map_or (λ op. if nat_eq (rank op) k then Some op else None) o None) ≡ true
        → (is_some o ≡ true) × ((j : ℕ) → j < k → is_some (option_map_or (λ op. if nat_eq (rank op) j then Some op else None) o None) ≡ false)
    go None h = absurd (cc h)
    go (Some op) h =
        let same : rank op ≡ k = eqb-true (rank op) k (sym (tested (nat_eq (rank op) k) op) ∙ h) in
        (refl, λ j less. tested (nat_eq (rank op) j) op ∙ ne_eqb (rank op) j (λ e. omega arith))

pub has_rank : (k : ℕ) (m : Mark) (op : BinaryOp) → of_rank k m ≡ Some op → rank op ≡ k
has_rank k m op h = go (binary_at m) h
  where
    by_test : (b : Bool) (found : BinaryOp) → nat_eq (rank found) k ≡ b → (if b then Some found else None) ≡ Some op → rank op ≡ k
    by_test true found e h = let same : found ≡ op = cc h in ap rank (sym same) ∙ eqb-true (rank found) k e
    by_test false found e h = absurd (cc h)

    go : (o : Option BinaryOp) → option_map_or (λ op. if nat_eq (rank op) k then Some op else None) o None ≡ Some op → rank op ≡ k
    go None h = absurd (cc h)
    go (Some found) h = by_test (nat_eq (rank found) k) found refl h

comma_ranked : NoneOf 10 mark.Comma
comma_ranked j le = tested (nat_eq 11 j) binary.Comma ∙ ne_eqb 11 j (λ e. omega arith)

-- ---- what a token with such a mark ends

module _ (w : Lexicon) (t : Token) (m : Mark) (is : sign.mark_of w.texts t ≡ Some m) where
  pub operand_ends : Leaves t.place m → (e : ExprTree) → more_operand w e t ≡ false
  operand_ends leaves e = by_test (ends_in_type e)
    where
      by_test : (b : Bool) → (if b then is_open_brace w t else is_suffix w t) ≡ false
      by_test true = ap (λ o. option_map_or (is_same_mark mark.OpenBrace) o false) is ∙ leaves.1
      by_test false = ap (λ o. is_some (option_map_or (suffix_at t.place) o None)) is ∙ leaves.0

  pub infix_ends : Leaves t.place m → (k : ℕ) → NoneOf k m → (e : ExprTree) → more_infix w k e t ≡ false
  infix_ends leaves zero none e = operand_ends leaves e
  infix_ends leaves (suc k) none e =
      ap (λ b. b || more_infix w k e t) (by_its_mark (of_rank (suc k)) t.place (sign.mark_of w.texts t) m is ∙ none (suc k) (omega arith)) ∙ infix_ends leaves k (λ j le. none j (omega arith)) e

  pub conditional_ends : Leaves t.place m → NoneOf 10 m → is_same_mark mark.Question m ≡ false → (e : ExprTree) → more_conditional w e t ≡ false
  conditional_ends leaves none question e = ap (λ o. option_map_or (is_same_mark mark.Question) o false || more_infix w 10 e t) is ∙ ap (λ b. b || more_infix w 10 e t) question ∙ infix_ends leaves 10 none e

  pub assignment_ends : Leaves t.place m → NoneOf 10 m → is_same_mark mark.Question m ≡ false → is_some (assignment_at m) ≡ false → (e : ExprTree) → more_assignment w e t ≡ false
  assignment_ends leaves none question assigns e = ap (λ b. (ends_unary e && b) || more_conditional w e t) (by_its_mark assignment_at t.place (sign.mark_of w.texts t) m is ∙ assigns) ∙ by_test (ends_unary e)
    where
      by_test : (b : Bool) → ((b && false) || more_conditional w e t) ≡ false
      by_test true = conditional_ends leaves none question e
      by_test false = conditional_ends leaves none question e

  pub sequence_ends : Leaves t.place m → NoneOf 10 m → is_same_mark mark.Question m ≡ false → is_some (assignment_at m) ≡ false → is_same_mark mark.Comma m ≡ false
      → (e : ExprTree) → more w Sequence e t ≡ false
  sequence_ends leaves none question assigns comma e =
      ap (λ o. option_map_or (is_same_mark mark.Comma) o false || more_assignment w (last_of e) t) is ∙ ap (λ b. b || more_assignment w (last_of e) t) comma
      ∙ assignment_ends leaves none question assigns (last_of e)

module _ (w : Lexicon) (t : Token) where
  pub close_ends : is_close w t ≡ true → (e : ExprTree) → more w Sequence e t ≡ false
  close_ends h e = sequence_ends w t mark.CloseParenthesis (mark_is w mark.CloseParenthesis t h) (refl, refl) (λ j le. refl) refl refl refl e

  pub bracket_ends : is_close_bracket w t ≡ true → (e : ExprTree) → more w Sequence e t ≡ false
  bracket_ends h e = sequence_ends w t mark.CloseBracket (mark_is w mark.CloseBracket t h) (refl, refl) (λ j le. refl) refl refl refl e

  pub colon_ends : is_colon w t ≡ true → (e : ExprTree) → more w Sequence e t ≡ false
  colon_ends h e = sequence_ends w t mark.Colon (mark_is w mark.Colon t h) (refl, refl) (λ j le. refl) refl refl refl e

  pub close_ends_assignment : is_close w t ≡ true → (e : ExprTree) → more_assignment w e t ≡ false
  close_ends_assignment h e = assignment_ends w t mark.CloseParenthesis (mark_is w mark.CloseParenthesis t h) (refl, refl) (λ j le. refl) refl refl e

  pub comma_ends : is_comma w t ≡ true → (e : ExprTree) → more_assignment w e t ≡ false
  comma_ends h e = assignment_ends w t mark.Comma (mark_is w mark.Comma t h) (refl, refl) comma_ranked refl refl e

  pub question_ends : is_question w t ≡ true → (e : ExprTree) → more_infix w 10 e t ≡ false
  question_ends h e = infix_ends w t mark.Question (mark_is w mark.Question t h) (refl, refl) 10 (λ j le. refl) e

  pub assigns_ends : is_some (assignment_of w t) ≡ true → (e : ExprTree) → more_conditional w e t ≡ false
  assigns_ends h e =
      let m : (m : Mark) × (sign.mark_of w.texts t ≡ Some m) × (is_some (assignment_at m) ≡ true) = has_mark assignment_at t.place (sign.mark_of w.texts t) h in
      let leaves : Leaves t.place m.0 = both_false (is_some (suffix_at t.place m.0)) (is_same_mark mark.OpenBrace m.0) (if_so (is_some (assignment_at m.0)) (not (is_some (suffix_at t.place m.0) || is_same_mark mark.OpenBrace m.0)) (assignment_leaves t.place m.0) m.2) in
      let alone : (is_some (binary_at m.0) ≡ false) × (is_same_mark mark.Question m.0 ≡ false) = both_false (is_some (binary_at m.0)) (is_same_mark mark.Question m.0) (if_so (is_some (assignment_at m.0)) (not (is_some (binary_at m.0) || is_same_mark mark.Question m.0)) (assignment_alone m.0) m.2) in
      conditional_ends w t m.0 m.1 leaves (none_of_none 10 m.0 alone.0) alone.1 e

  pub operator_ends : (k : ℕ) → is_operator w (suc k) t ≡ true → (e : ExprTree) → more_infix w k e t ≡ false
  operator_ends k h e =
      let m : (m : Mark) × (sign.mark_of w.texts t ≡ Some m) × (is_some (of_rank (suc k) m) ≡ true) = has_mark (of_rank (suc k)) t.place (sign.mark_of w.texts t) h in
      let r : (is_some (binary_at m.0) ≡ true) × ((j : ℕ) → j < suc k → is_some (of_rank j m.0) ≡ false) = ranked (suc k) m.0 m.2 in
      let leaves : Leaves t.place m.0 = both_false (is_some (suffix_at t.place m.0)) (is_same_mark mark.OpenBrace m.0) (if_so (is_some (binary_at m.0)) (not (is_some (suffix_at t.place m.0) || is_same_mark mark.OpenBrace m.0)) (operator_leaves t.place m.0) r.0) in
      infix_ends w t m.0 m.1 leaves k (λ j le. r.1 j (omega arith)) e
