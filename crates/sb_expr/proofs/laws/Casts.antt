-- The reader of casts keeps the laws.
use Rattle.std.proofs.Common.{◌≡◌, ◌≤◌, ◌⊎◌, ℕ, suc, true, false, List, [], ◌∷◌, ◌++◌, refl, sym, ap, ◌∙◌, subst₂, inl, inr, arith}
use Rattle.sb_base.specs.declared.tokens.Token.{Token}
use Rattle.sb_parse.specs.Parser.{at_next, ◌>>=◌, pure, refuse, choose}
use Rattle.sb_parse.specs.Lawful.{Lawful, OnHead, Mapped, Unbarred, Either}
use Rattle.sb_parse.proofs.Joining.{via, map_of}
use Rattle.sb_parse.proofs.Heads.{opened_heads, barred, guarded, choice_of}
use Rattle.sb_tree.specs.Trees as tree
use Rattle.sb_tree.specs.Trees.{ExprTree, depth_of_expr, depth_of_type}
use Rattle.sb_parse.specs.Descent.{choose_second}
use Rattle.sb_expr.specs.Expression.{Prefix, Infix, IsExpr, is_uncast, is_cast}
use Rattle.sb_lexicon.specs.Lexicon.{Lexicon, begins_type}
use Rattle.sb_operand.specs.Pieces.{Declared, type_of}
use Rattle.sb_expr.specs.Readers.{Parts, ExprReader, prefix_expr, cast, cast_expr}
use Rattle.sb_lexicon.specs.Tokens.{too_deep, compound_literal, is_zero, is_open, is_open_brace}
use Rattle.sb_expr.specs.Reads.{FitsExpr}
use Rattle.sb_expr.proofs.tokens.More.{more_operand, more, LawfulParts}
use Rattle.sb_lexicon.proofs.Lexemes.{close_token}
use Rattle.sb_lexicon.proofs.Marks.{number_token, number_tree, flat_number}
use Rattle.sb_expr.proofs.tokens.Begins.{expr_begins, begins_with_no_brace}
use Rattle.sb_lexicon.proofs.Depths.{room_for, room_is, some_room, both_fit, first_fits, second_fits}
use Rattle.sb_parse.proofs.Seconds.{behind, Behind, behind_law, second_of, overlapping_of}
use Rattle.sb_expr.proofs.laws.Parenthesized.{first_of, prefix_is_deep, prefix_no_type, number_inside, TypedText, typed_head}
use Rattle.sb_expr.proofs.laws.Primary.{LawfulInside}
use Rattle.sb_expr.proofs.laws.Prefix.{NoText, prefix_law}

module _ (w : Lexicon) (below : ℕ) where
  abbrev CastRest : Token → Declared → List Token → ExprTree → Type 0
  CastRest o a = Either (NoText w) (Mapped (λ e. tree.Cast (type_of a) e o.place) (FitsExpr w below (Infix 0)))

  abbrev CastText : List Token → ExprTree → Type 0
  CastText = TypedText w below CastRest

  -- the texts that begin with `(`
  abbrev FirstText : List Token → ExprTree → Type 0
  FirstText ts e = CastText ts e ⊎ (FitsExpr w (suc below) Prefix ts e × (at_next (is_open w) ts ≡ true))

  abbrev WholeText : List Token → ExprTree → Type 0
  WholeText = Either (Unbarred (is_zero below) FirstText) (FitsExpr w (suc below) Prefix)

  abbrev Fits : List Token → ExprTree → Type 0
  Fits = FitsExpr w (suc below) (Infix 0)

  to_cast : (ts : List Token) (e : ExprTree) → CastText ts e → Fits ts e
  to_cast ts e text = go text.is.second.is
    where
      go : CastRest text.opening text.is.value text.is.second.rest e → Fits ts e
      go (inl none) = absurd none
      go (inr m) =
          let split : ts ≡ text.opening ∷ (text.is.before ++ (text.is.second.opening ∷ text.is.second.rest)) =
          text.split ∙ ap (λ l. text.opening ∷ l) (text.is.split ∙ ap (λ l. text.is.before ++ l) text.is.second.split) in
          subst₂ Fits (sym split) (sym m.same) (
            is_cast text.opening text.is.second.opening text.is.before text.is.second.rest text.is.value m.value text.passes text.is.second.passes text.is.first.0 m.is.0,
            both_fit (depth_of_type (type_of text.is.value)) (depth_of_expr m.value) below text.is.first.1 m.is.1,
          )

  to : (ts : List Token) (e : ExprTree) → WholeText ts e → Fits ts e
  to ts e (inr f) = (is_uncast ts e f.0, f.1)
  to ts e (inl u) = go u.is
    where
      go : FirstText ts e → Fits ts e
      go (inl text) = to_cast ts e text
      go (inr f) = (is_uncast ts e f.0.0, f.0.1)

  from : (ts : List Token) (e : ExprTree) → IsExpr w (Infix 0) ts e → depth_of_expr e ≤ suc below → WholeText ts e
  from _ _ (is_uncast xs e is) deep = inr (is, deep)
  from _ _ (is_cast o c xs ys a e opens closes type is) deep =
      let inside : depth_of_expr e ≤ below = second_fits (depth_of_type (type_of a)) (depth_of_expr e) below deep in
      inl (record {
        open_way = room_for below e inside;
        is = inl (record {
          opening = o;
          rest = xs ++ (c ∷ ys);
          split = refl;
          passes = opens;
          is = record {
            before = xs;
            after = c ∷ ys;
            value = a;
            split = refl;
            first = (type, first_fits (depth_of_type (type_of a)) (depth_of_expr e) below deep);
            second = record { opening = c; rest = ys; split = refl; passes = closes; is = inr (record { value = e; is = (is, inside); same = refl }) };
          };
        });
      })

  module _ (part : ℕ → Parts) (P : LawfulInside w below part) where
    abbrev cast_behind : Token → Declared → ExprReader
    cast_behind o a = choose (is_open_brace w) (refuse compound_literal) ((part 0).expr (Infix 0) >>= (λ e. pure (tree.Cast (type_of a) e o.place)))

    rest_law : LawfulParts w below (part 0) → (o : Token) (a : Declared) → Lawful (CastRest o a) (more_operand w) (cast_behind o a)
    rest_law L o a =
        choice_of (barred (is_open_brace w) (NoText w) (more_operand w) compound_literal (λ ts e none. none)) (map_of (L.expr (Infix 0)) (λ e. tree.Cast (type_of a) e o.place) (more_operand w) (λ e t. refl))
        (λ ts e rest m k. begins_with_no_brace w (Infix 0) ts m.value rest m.is.0)

    no_empty : (e : ExprTree) → FitsExpr w (suc below) Prefix [] e → ⊥
    no_empty e f = cc (expr_begins w Prefix [] e f.0)

    first_head : is_zero below ≡ false → OnHead (is_open w) FirstText (more_operand w) (choose_second (begins_type w) (cast w below part) (prefix_expr w below part))
    unfolding cast
    first_head deep = second_of law heads
      where
        number_fits : suc (depth_of_expr number_tree) ≤ suc below
        number_fits = let flat : depth_of_expr number_tree ≡ 1 = flat_number in let one : 1 ≤ below = room_is below deep in omega arith

        heads : (ts : List Token) (e : ExprTree) → FirstText ts e → at_next (is_open w) ts ≡ true
        heads ts e (inl text) = opened_heads ts e text
        heads ts e (inr f) = f.1

        there : (o : Token) → is_open w o ≡ true → (ts : List Token) (e : ExprTree) → Either (Behind o CastText) (Behind o (FitsExpr w (suc below) Prefix)) ts e → Behind o FirstText ts e
        there o h ts e (inl text) = inl text
        there o h ts e (inr f) = inr (f, h)

        back : (o : Token) (ts : List Token) (e : ExprTree) → Behind o FirstText ts e → Either (Behind o CastText) (Behind o (FitsExpr w (suc below) Prefix)) ts e
        back o ts e (inl text) = inl text
        back o ts e (inr f) = inr f.0

        law : (o : Token) → is_open w o ≡ true → Lawful (Behind o FirstText) (more_operand w) (choose (begins_type w) (behind o (cast w below part)) (behind o (prefix_expr w below part)))
        law o h =
            via (choice_of (typed_head w below CastRest part (P deep) cast_behind (rest_law (P deep)) o h)
            (behind_law (prefix_law w below part P) no_empty o (number_token ∷ (close_token ∷ [])) (tree.Paren number_tree o.place) (number_inside w o h, number_fits))
            (λ ts e rest f k. prefix_no_type w (o ∷ ts) e rest f.0 h)) (there o h) (back o)
            (choose (begins_type w) (behind o (cast w below part)) (behind o (prefix_expr w below part))) (λ ts. refl)

    pub cast_law : Lawful Fits (more w (Infix 0)) (cast_expr w below part)
    unfolding cast_expr
    cast_law = via (overlapping_of (guarded (is_zero below) too_deep first_head) (prefix_law w below part P) within) to (λ ts e f. from ts e f.0 f.1) (cast_expr w below part) (λ ts. refl)
      where
        within : (ts : List Token) (e : ExprTree) (rest : List Token) → FitsExpr w (suc below) Prefix ts e → at_next (is_open w) (ts ++ rest) ≡ true → Unbarred (is_zero below) FirstText ts e
        within ts e rest f k =
            let begins : at_next (is_open w) ts ≡ true = first_of w (is_open w) ts rest (expr_begins w Prefix ts e f.0) k in
            let two : 2 ≤ depth_of_expr e = prefix_is_deep w ts e f.0 begins in
            let fits : depth_of_expr e ≤ suc below = f.1 in
            record { open_way = some_room below 1 (omega arith) (omega arith); is = inr (f, begins) }
