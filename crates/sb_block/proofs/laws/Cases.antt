-- The readers of the labels of a `switch` keep the laws.
use Rattle.std.proofs.Common.{◌≡◌, ◌≤◌, ℕ, suc, max, Bool, true, false, ◌&&◌, List, ◌∷◌, ◌++◌, refl, sym, ap, ◌∙◌, subst, subst₂, arith}
use Rattle.std.proofs.Math.Nat.{max-le}
use Rattle.sb_base.specs.declared.interning.Name.{Name}
use Rattle.sb_base.specs.declared.tokens.Token.{Token}
use Rattle.sb_parse.specs.Parser.{at_next}
use Rattle.sb_parse.specs.Lawful.{OnHead, Joined, Opened, Mapped}
use Rattle.sb_parse.proofs.Joining.{map_of, in_order}
use Rattle.sb_parse.proofs.Heads.{opened}
use Rattle.sb_sign.specs.declared.sign.Keyword.TheVariants as keyword
use Rattle.sb_sign.specs.declared.sign.Mark.TheVariants as mark
use Rattle.sb_tree.specs.Trees as tree
use Rattle.sb_tree.specs.Trees.{ExprTree, StmtTree, depth_of_expr, depth_of_stmt}
use Rattle.sb_expr.specs.Expression.{Conditional}
use Rattle.sb_lexicon.specs.Lexicon.{Lexicon, is_keyword}
use Rattle.sb_lexicon.specs.Tokens.{unexpected, is_colon}
use Rattle.sb_expr.specs.Reads.{FitsExpr}
use Rattle.sb_expr.proofs.tokens.Ends.{conditional_ends}
use Rattle.sb_lexicon.proofs.Lexemes.{mark_is}
use Rattle.sb_lexicon.proofs.Marks.{colon_token, colon_token_is}
use Rattle.sb_expr.proofs.tokens.More.{more}
use Rattle.sb_parse.proofs.Ways.{and_first, and_second}
use Rattle.sb_parse.proofs.Partly.{opened_head}
use Rattle.sb_specifier.specs.Specified.{reading}
use Rattle.sb_statement.specs.Readers.{Parts, case_of, default_of}
use Rattle.sb_statement.specs.Statement.{is_case, is_default, IsStatement}
use Rattle.sb_statement.proofs.laws.Fits.{more_statement, FitsStatement, LawfulStatements}
use Rattle.sb_statement.proofs.laws.Expressions.{expr_law}

module _ (texts : List (List ℕ)) (below : ℕ) (part : Parts) (types : List Name) (cases : Bool) where
  abbrev w : Lexicon
  w = reading texts types

  abbrev pub is_case_here : Token → Bool
  is_case_here t = cases && is_keyword w keyword.Case t

  abbrev pub is_default_here : Token → Bool
  is_default_here t = cases && is_keyword w keyword.Default t

  abbrev Body : List Token → StmtTree → Type 0
  Body = FitsStatement texts below true types

  abbrev pub CaseText : List Token → StmtTree → Type 0
  CaseText = Opened is_case_here (λ t. Joined (FitsExpr w below Conditional) (λ e. Opened (is_colon w) (λ c. Mapped (λ s. tree.Case e s t.place) Body)))

  abbrev pub DefaultText : List Token → StmtTree → Type 0
  DefaultText = Opened is_default_here (λ t. Opened (is_colon w) (λ c. Mapped (λ s. tree.Default s t.place) Body))

  colon_ends : (t : Token) → is_colon w t ≡ true → (e : ExprTree) → more w Conditional e t ≡ false
  colon_ends t h e = conditional_ends w t mark.Colon (mark_is w mark.Colon t h) (refl, refl) (λ j le. refl) refl e

  module _ (some : 1 ≤ below) (S : LawfulStatements texts below part) where
    pub case_head : OnHead is_case_here CaseText (more_statement texts) (case_of texts below part types)
    unfolding case_of
    case_head =
        opened_head unexpected is_case_here (is_keyword w keyword.Case) (λ t h. and_second cases (is_keyword w keyword.Case t) h)
        (λ t h. in_order (expr_law w below Conditional some) (λ xs e is. opened unexpected (is_colon w) colon_token (colon_token_is w) (λ c k. map_of (S.statement true types) (λ s. tree.Case e s t.place) (more_statement texts) (λ s u. refl)))
        (λ xs e ys s rest is second off. ap (λ z. at_next (more w Conditional e) (z ++ rest)) second.split ∙ colon_ends second.opening second.passes e))

    pub default_head : OnHead is_default_here DefaultText (more_statement texts) (default_of texts below part types)
    unfolding default_of
    default_head =
        opened_head unexpected is_default_here (is_keyword w keyword.Default) (λ t h. and_second cases (is_keyword w keyword.Default t) h)
        (λ t h. opened unexpected (is_colon w) colon_token (colon_token_is w) (λ c k. map_of (S.statement true types) (λ s. tree.Default s t.place) (more_statement texts) (λ s u. refl)))

  -- ---- in the grammar's words

  abbrev Fits : List Token → StmtTree → Type 0
  Fits = FitsStatement texts (suc below) cases types

  pub to_case : (ts : List Token) (s : StmtTree) → CaseText ts s → Fits ts s
  to_case ts s o =
      let j = o.is in
      let c = j.second in
      let m = c.is in
      let here : true ≡ cases = sym (and_first cases (is_keyword w keyword.Case o.opening) o.passes) in
      let both : max (depth_of_expr j.value) (depth_of_stmt m.value) ≤ below = max-le j.first.1 m.is.1 in
      subst₂ Fits (sym (o.split ∙ ap (λ z. o.opening ∷ z) (j.split ∙ ap (λ z. j.before ++ z) c.split))) (sym m.same) (
        subst (λ b. IsStatement texts b types (o.opening ∷ (j.before ++ (c.opening ∷ c.rest))) (tree.Case j.value m.value o.opening.place)) here
            (is_case types o.opening c.opening j.before c.rest j.value m.value (and_second cases (is_keyword w keyword.Case o.opening) o.passes) c.passes j.first.0 m.is.0),
        omega arith,
      )

  pub to_default : (ts : List Token) (s : StmtTree) → DefaultText ts s → Fits ts s
  to_default ts s o =
      let c = o.is in
      let m = c.is in
      let here : true ≡ cases = sym (and_first cases (is_keyword w keyword.Default o.opening) o.passes) in
      let deep : depth_of_stmt m.value ≤ below = m.is.1 in
      subst₂ Fits (sym (o.split ∙ ap (λ z. o.opening ∷ z) c.split)) (sym m.same) (
        subst (λ b. IsStatement texts b types (o.opening ∷ (c.opening ∷ c.rest)) (tree.Default m.value o.opening.place)) here
            (is_default types o.opening c.opening c.rest m.value (and_second cases (is_keyword w keyword.Default o.opening) o.passes) c.passes m.is.0),
        omega arith,
      )

-- labels of a `switch` stand in its block alone
module _ (texts : List (List ℕ)) (below : ℕ) (part : Parts) (types : List Name) where
  pub from_case : (t c : Token) (xs ys : List Token) (e : ExprTree) (s : StmtTree) → is_keyword (reading texts types) keyword.Case t ≡ true → is_colon (reading texts types) c ≡ true → FitsExpr (reading texts types) below Conditional xs e
      → FitsStatement texts below true types ys s → CaseText texts below part types true (t ∷ (xs ++ (c ∷ ys))) (tree.Case e s t.place)
  from_case t c xs ys e s word colon is body = record {
    opening = t;
    rest = xs ++ (c ∷ ys);
    split = refl;
    passes = word;
    is = record { before = xs; after = c ∷ ys; value = e; split = refl; first = is; second = record { opening = c; rest = ys; split = refl; passes = colon; is = record { value = s; is = body; same = refl } } };
  }

  pub from_default : (t c : Token) (ts : List Token) (s : StmtTree) → is_keyword (reading texts types) keyword.Default t ≡ true → is_colon (reading texts types) c ≡ true → FitsStatement texts below true types ts s
      → DefaultText texts below part types true (t ∷ (c ∷ ts)) (tree.Default s t.place)
  from_default t c ts s word colon body =
      record { opening = t; rest = c ∷ ts; split = refl; passes = word; is = record { opening = c; rest = ts; split = refl; passes = colon; is = record { value = s; is = body; same = refl } } }
