-- Why expressions and type names are refused: the number of a refusal tells whether a deeper text goes on there, one with a feature that is left out, or none.
use Rattle.std.proofs.Common.{◌≡◌, ◌≤◌, ◌+◌, ℕ, suc, max, Bool, List, [], ◌∷◌, ◌++◌, length, drop, Result, Ok, Err, refl, sym, ap, ◌∙◌, subst, append_assoc, arith, ◌⊎◌, inl, inr, true, false}
use Rattle.std.proofs.Math.Nat.{le-max_left, le-max_right}
use Rattle.sb_base.specs.declared.refusals.Stop.{Stop}
use Rattle.sb_base.specs.declared.refusals.Stop.TheVariants.{Refused, Memory}
use Rattle.sb_base.specs.declared.tokens.Token.{Token}
use Rattle.sb_parse.specs.Parser.{Outcome, Parser, done, stop, at_next, never}
use Rattle.sb_parse.specs.Lawful.{Stuck, Lawful}
use Rattle.sb_parse.specs.Read.{CanBegin, IsLongest}
use Rattle.sb_parse.proofs.Reading.{none_goes_on}
use Rattle.sb_parse.proofs.Ways.{and_first, and_second}
use Rattle.sb_tree.specs.declared.syntax.Expr.{Expr}
use Rattle.sb_tree.specs.declared.syntax.TypeName.{TypeName}
use Rattle.sb_tree.specs.Trees.{ExprTree, depth_of_expr, depth_of_type}
use Rattle.sb_expr.specs.Expression.{Level, Sequence, IsExpr, IsType}
use Rattle.sb_lexicon.specs.Lexicon.{Lexicon, is_type_word}
use Rattle.sb_operand.specs.Pieces.{Declared, type_of}
use Rattle.sb_operand.specs.Readers.{calls}
use Rattle.sb_expr.specs.Readers.{expr_reader, type_reader}
use Rattle.sb_lexicon.specs.Tokens.{unexpected, too_deep, lacks, function_pointer, compound_literal, is_open_brace}
use Rattle.sb_expr.specs.Reads.{FitsExpr, IsExprRead, IsTypeRead}
use Rattle.sb_expr.specs.Reasons.{ends_in_type, shows_literal, HasExprReason, behind_pointers, shows_other_type, HasTypeReason}
use Rattle.sb_lexicon.specs.Reasons.{IsReason, ends, no_text, deeper, feature, IsRefusedFor}
use Rattle.sb_expr.proofs.tokens.More.{more, more_type}
use Rattle.sb_expr.proofs.Tying.{lawful_parts, expr_longest, expr_refused, type_refused}
use Rattle.sb_lexicon.proofs.Grounds.{Texts, Why, plain, deep, lacking, Fair, Grounded}
use Rattle.sb_lexicon.proofs.Wider.{Held, short, same, Wider}
use Rattle.sb_expr.proofs.telling.AnyDepth.{same_front, longest_of_all}
use Rattle.sb_expr.proofs.telling.EachDepth.{parts_grounded}
use Rattle.sb_expr.proofs.telling.Functions.{type_goes, no_other_type, function_refused}
use Rattle.sb_expr.proofs.telling.Literals.{literal_refused}
use Rattle.sb_expr.proofs.telling.Longer.{Goes, IsLiteral, goes_on}
use Rattle.sb_expr.proofs.widening.EachDepth.{parts_wider}

-- behind a text of this tree the readers with room for it stop for another reason than a 31
record StopsOtherwise {A : Type 0} (depth : A → ℕ) (reader : ℕ → Parser Token A) (a : A) (ts : List Token) : Type 0 where
  number : ℕ
  other : number ≡ unexpected → ⊥
  left : ℕ
  stops : (most : ℕ) → depth a ≤ most → reader most ts ≡ stop number left

-- ---- readers of some depth

module _ {A : Type 0} (w : Lexicon) (Is : Texts A) (depth : A → ℕ) (more : A → Token → Bool) (reader : ℕ → Parser Token A) (Law : (left : ℕ) → 1 ≤ left → Lawful (λ ts a. Is ts a × (depth a ≤ left)) more (reader left))
    (Wide : (n m : ℕ) → n ≤ m → Wider (reader n) (reader m)) (Ground : (left : ℕ) → Grounded w Is (reader left)) where
  held : (n k : ℕ) (o other : Outcome Token A) → Held o other → o ≡ stop n k → (n ≡ too_deep → ⊥) → other ≡ stop n k
  held n k o other (short left e) h not_deep = absurd (not_deep (let both : Path (Outcome Token A) (stop n k) (stop too_deep left) = sym h ∙ e in cc both))
  held n k o other (same e) h not_deep = e ∙ h

  -- what stops otherwise than for want of depth stops so at every greater depth, and no text that fits there goes on
  hopeless_at : (most left : ℕ) → left ≤ most → 1 ≤ most → (ts : List Token) (n k : ℕ) → reader left ts ≡ stop n k → (n ≡ too_deep → ⊥)
      → (front : List Token) (t : Token) (rest : List Token) → ts ≡ front ++ (t ∷ rest) → k ≡ length (t ∷ rest) → (c : CanBegin Is (front ++ (t ∷ []))) → depth c.tree ≤ most → ⊥
  hopeless_at most left le some ts n k e not_deep front t rest split left_is c fits =
      let s : Stuck (λ ts a. Is ts a × (depth a ≤ most)) (reader most) ts n k = (Law most some).stuck ts n k (held n k (reader left ts) (reader most ts) (Wide left most le ts) e not_deep) in
      let at : (front ≡ s.front) × (t ∷ rest ≡ s.bad) = same_front front s.front (t ∷ rest) s.bad (sym split ∙ s.split) (sym left_is ∙ s.left_is) in
      none_goes_on (Law most some) ts n k s t rest (sym at.1) (record { rest = c.rest; tree = c.tree; is = (subst (λ z. Is ((z ++ (t ∷ [])) ++ c.rest) c.tree) at.0 c.is, fits) })

  hopeless : (left : ℕ) (ts : List Token) (n k : ℕ) → reader left ts ≡ stop n k → (n ≡ too_deep → ⊥) → (front : List Token) (t : Token) (rest : List Token) → ts ≡ front ++ (t ∷ rest) → k ≡ length (t ∷ rest)
      → CanBegin Is (front ++ (t ∷ [])) → ⊥
  hopeless left ts n k e not_deep front t rest split left_is c =
      let enough : suc left ≤ max (suc left) (depth c.tree) = le-max_left (suc left) (depth c.tree) in
      hopeless_at (max (suc left) (depth c.tree)) left (omega arith) (omega arith) ts n k e not_deep front t rest split left_is c (le-max_right (suc left) (depth c.tree))

  refused_for : (ts : List Token) (n k m : ℕ) → n ≡ m → (front bad : List Token) → ts ≡ front ++ bad → k ≡ length bad → CanBegin Is front → IsReason w Is front bad m → IsRefusedFor w Is ts n k
  refused_for ts n k m number front bad split left_is good reason = record { front = front; bad = bad; split = split; left_is = left_is; good = good; reason = subst (IsReason w Is front bad) (sym number) reason }

  -- where a reader stops some text begins
  begins : (left : ℕ) (ts : List Token) (n k : ℕ) → (s : Stuck (λ ts a. Is ts a × (depth a ≤ left)) (reader left) ts n k) → CanBegin Is s.front
  begins left ts n k s = record { rest = s.rest; tree = s.tree; is = s.can.0 }

  begins_there : (left : ℕ) (ts : List Token) (n k : ℕ) → reader left ts ≡ stop n k → (n ≡ too_deep → ⊥) → (front : List Token) (t : Token) (rest : List Token) → ts ≡ front ++ (t ∷ rest) → k ≡ length (t ∷ rest) → CanBegin Is front
  begins_there left ts n k e not_deep front t rest split left_is =
      let s : Stuck (λ ts a. Is ts a × (depth a ≤ suc left)) (reader (suc left)) ts n k = (Law (suc left) (omega arith)).stuck ts n k (held n k (reader left ts) (reader (suc left) ts) (Wide left (suc left) (omega arith) ts) e not_deep) in
      subst (CanBegin Is) (sym (same_front front s.front (t ∷ rest) s.bad (sym split ∙ s.split) (sym left_is ∙ s.left_is)).0) (begins (suc left) ts n k s)

  -- a text that goes on with a token begins before it
  before : (front : List Token) (t : Token) → CanBegin Is (front ++ (t ∷ [])) → CanBegin Is front
  before front t c = record { rest = t ∷ c.rest; tree = c.tree; is = subst (λ z. Is z c.tree) (append_assoc front (t ∷ []) c.rest) c.is }

  unexpected_there : (left : ℕ) (ts : List Token) (n k : ℕ) → reader left ts ≡ stop n k → n ≡ unexpected → IsRefusedFor w Is ts n k
  unexpected_there left ts n k e number =
      let stops : reader (suc left) ts ≡ stop n k = held n k (reader left ts) (reader (suc left) ts) (Wide left (suc left) (omega arith) ts) e not_deep in
      let s : Stuck (λ ts a. Is ts a × (depth a ≤ suc left)) (reader (suc left)) ts n k = (Law (suc left) (omega arith)).stuck ts n k stops in
      by_rest s.front s.bad s.split s.left_is (begins (suc left) ts n k s)
    where
      not_deep : n ≡ too_deep → ⊥
      not_deep h = let both : Path ℕ 31 32 = sym number ∙ h in omega arith

      by_rest : (front bad : List Token) → ts ≡ front ++ bad → k ≡ length bad → CanBegin Is front → IsRefusedFor w Is ts n k
      by_rest front [] split left_is good = refused_for ts n k unexpected number front [] split left_is good ends
      by_rest front (t ∷ rest) split left_is good = refused_for ts n k unexpected number front (t ∷ rest) split left_is good (no_text t rest (hopeless left ts n k e not_deep front t rest split left_is))

  pub reasoned : (left : ℕ) (ts : List Token) (n k : ℕ) → reader left ts ≡ stop n k → IsRefusedFor w Is ts n k
  reasoned left ts n k e = by_why (subst (Fair w Is ts) e (Ground left ts))
    where
      by_why : Why w Is ts n k → IsRefusedFor w Is ts n k
      by_why (plain number) = unexpected_there left ts n k e number
      by_why (deep front t number at c) = refused_for ts n k too_deep number front (t ∷ at.rest) at.split at.left_is (before front t c) (deeper t at.rest c)
      by_why (lacking f front t number at shown) =
          let not_deep : n ≡ too_deep → ⊥ = λ h. let both : 100 + f ≡ 32 = sym number ∙ h in omega arith in
          refused_for ts n k (lacks f) number front (t ∷ at.rest) at.split at.left_is (begins_there left ts n k e not_deep front t at.rest at.split at.left_is) (feature t at.rest f shown (hopeless left ts n k e not_deep front t at.rest at.split at.left_is))

  -- ---- whole texts

  -- what stands before a 31 is no text, but before a token that is spared
  unfinished : (spares : Token → Bool)
      → ((front : List Token) (a : A) (t : Token) (rest : List Token) → Is front a → spares t ≡ false → more a t ≡ true → CanBegin Is (front ++ (t ∷ [])) ⊎ StopsOtherwise depth reader a (front ++ (t ∷ rest)))
      → (left : ℕ) (ts : List Token) (k : ℕ) → reader left ts ≡ stop unexpected k → (front bad : List Token) → ts ≡ front ++ bad → k ≡ length bad → at_next spares bad ≡ false → (a : A) → Is front a → ⊥
  unfinished spares Next left ts k e front bad split left_is spared a is = by_next bad split left_is spared
    where
      not_deep : unexpected ≡ too_deep → ⊥
      not_deep h = let both : Path ℕ 31 32 = h in omega arith

      stops_at : (most : ℕ) → left ≤ most → reader most ts ≡ stop unexpected k
      stops_at most le = held unexpected k (reader left ts) (reader most ts) (Wide left most le ts) e not_deep

      ended : (bad : List Token) → ts ≡ front ++ bad → at_next (more a) bad ≡ false → ⊥
      ended bad split off =
          let enough : suc left ≤ max (suc left) (depth a) = le-max_left (suc left) (depth a) in
          let reads : reader (max (suc left) (depth a)) ts ≡ done a bad =
          ap (reader (max (suc left) (depth a))) split ∙ (Law (max (suc left) (depth a)) (omega arith)).complete front a bad (is, le-max_right (suc left) (depth a)) off in
          let both : Path (Outcome Token A) (done a bad) (stop unexpected k) = sym reads ∙ stops_at (max (suc left) (depth a)) (omega arith) in
          cc both

      going_on : (t : Token) (rest : List Token) → ts ≡ front ++ (t ∷ rest) → k ≡ length (t ∷ rest) → CanBegin Is (front ++ (t ∷ [])) ⊎ StopsOtherwise depth reader a (front ++ (t ∷ rest)) → ⊥
      going_on t rest split left_is (inl c) = hopeless left ts unexpected k e not_deep front t rest split left_is c
      going_on t rest split left_is (inr o) =
          let enough : suc left ≤ max (suc left) (depth a) = le-max_left (suc left) (depth a) in
          let both : Path (Outcome Token A) (stop o.number o.left) (stop unexpected k) =
          sym (o.stops (max (suc left) (depth a)) (le-max_right (suc left) (depth a))) ∙ sym (ap (reader (max (suc left) (depth a))) split) ∙ stops_at (max (suc left) (depth a)) (omega arith) in
          o.other (cc both)

      by_next : (bad : List Token) → ts ≡ front ++ bad → k ≡ length bad → at_next spares bad ≡ false → ⊥
      by_next [] split left_is spared = ended [] split refl
      by_next (t ∷ rest) split left_is spared = by_more (more a t) refl
        where
          by_more : (b : Bool) → more a t ≡ b → ⊥
          by_more false m = ended (t ∷ rest) split m
          by_more true m = going_on t rest split left_is (Next front a t rest is spared m)

-- ---- expressions and type names

module _ (w : Lexicon) where
  pub expr_reason : (left : ℕ) (level : Level) (ts : List Token) (n k : ℕ) → expr_reader w left level ts ≡ stop n k → IsRefusedFor w (IsExpr w level) ts n k
  expr_reason left level ts n k e =
      reasoned w (IsExpr w level) depth_of_expr (more w level) (λ left. expr_reader w left level) (λ left some. (lawful_parts w left some).expr level) (λ n m le. (parts_wider w n m 0 le).0 level)
      (λ left. (parts_grounded w left 0).0 level) left ts n k e

  pub type_reason : (left : ℕ) (ts : List Token) (n k : ℕ) → type_reader w left ts ≡ stop n k → IsRefusedFor w (IsType w) ts n k
  type_reason left ts n k e =
      reasoned w (IsType w) (λ d. depth_of_type (type_of d)) (more_type w) (type_reader w) (λ left some. (lawful_parts w left some).type_name) (λ n m le. (parts_wider w n m 0 le).1) (λ left. (parts_grounded w left 0).1) left ts n k e

  -- a token that goes on from the tree of an expression makes a longer one, or shows a compound literal
  expr_next : (level : Level) (front : List Token) (e : ExprTree) (t : Token) (rest : List Token) → IsExpr w level front e → never t ≡ false → more w level e t ≡ true
      → CanBegin (IsExpr w level) (front ++ (t ∷ [])) ⊎ StopsOtherwise depth_of_expr (λ left. expr_reader w left level) e (front ++ (t ∷ rest))
  expr_next level front e t rest is spared m = by_case (goes_on w t level front e is m)
    where
      by_case : Goes w t level front ⊎ IsLiteral w t e → CanBegin (IsExpr w level) (front ++ (t ∷ [])) ⊎ StopsOtherwise depth_of_expr (λ left. expr_reader w left level) e (front ++ (t ∷ rest))
      by_case (inl c) = inl c
      by_case (inr l) = inr (record {
        number = compound_literal;
        other = λ h. let both : Path ℕ 116 31 = h in omega arith;
        left = length (t ∷ rest);
        stops = λ most fits. literal_refused w most level front e (t ∷ rest) is fits l.0 l.1;
      })

  expr_unfinished : (left : ℕ) (level : Level) (ts : List Token) (k : ℕ) → expr_reader w left level ts ≡ stop unexpected k → (front bad : List Token) → ts ≡ front ++ bad → k ≡ length bad → at_next never bad ≡ false
      → (e : ExprTree) → IsExpr w level front e → ⊥
  expr_unfinished left level ts k e front bad split left_is spared a is =
      unfinished w (IsExpr w level) depth_of_expr (more w level) (λ left. expr_reader w left level) (λ left some. (lawful_parts w left some).expr level) (λ n m le. (parts_wider w n m 0 le).0 level)
      (λ left. (parts_grounded w left 0).0 level) never (λ front a t rest is spared m. expr_next level front a t rest is spared m) left ts k e front bad split left_is spared a is

  expr_longest_of_all : (left : ℕ) (level : Level) (ts : List Token) (e : ExprTree) (rest : List Token) → expr_reader w left level ts ≡ done e rest → IsLongest (IsExpr w level) ts e rest
  expr_longest_of_all left level ts e rest h =
      (longest_of_all (IsExpr w level) depth_of_expr (more w level) (λ left. expr_reader w left level) (λ left some. (lawful_parts w left some).expr level) (λ n m le. (parts_wider w n m 0 le).0 level) left ts e rest h).0

  -- no compound literal stands behind what is read
  no_literal : (left : ℕ) (level : Level) (ts : List Token) (e : ExprTree) (rest : List Token) → expr_reader w left level ts ≡ done e rest → at_next (shows_literal w e) rest ≡ false
  no_literal left level ts e [] h = refl
  no_literal left level ts e (t ∷ rest) h = by_test (shows_literal w e t) refl
    where
      by_test : (b : Bool) → shows_literal w e t ≡ b → shows_literal w e t ≡ false
      by_test false k = k
      by_test true k =
          let l : IsLongest (FitsExpr w left level) ts e (t ∷ rest) = expr_longest w left level ts e (t ∷ rest) h in
          let stops : expr_reader w left level (l.front ++ (t ∷ rest)) ≡ stop compound_literal (length (t ∷ rest)) =
          literal_refused w left level l.front e (t ∷ rest) l.is.0 l.is.1 (and_first (ends_in_type e) (is_open_brace w t) k) (and_second (ends_in_type e) (is_open_brace w t) k) in
          let both : Path (Outcome Token ExprTree) (done e (t ∷ rest)) (stop compound_literal (length (t ∷ rest))) = sym h ∙ ap (expr_reader w left level) l.split ∙ stops in
          absurd (cc both)

  pub expr_has_reason : (tokens : List Token) (next left now : ℕ) (result : Result Expr Stop) → IsExprRead w tokens next left now result → HasExprReason w tokens next left now result
  expr_has_reason tokens next left now (Ok e) is =
      (is.0, expr_longest_of_all left Sequence (drop next tokens) is.0 (drop now tokens) is.1, no_literal left Sequence (drop next tokens) is.0 (drop now tokens) is.1, is.2)
  expr_has_reason tokens next left now (Err (Refused r)) is =
      let because : IsRefusedFor w (IsExpr w Sequence) (drop next tokens) is.number is.left = expr_reason left Sequence (drop next tokens) is.number is.left is.stops in
      record {
        number = is.number;
        left = is.left;
        is = is.is;
        stops = is.stops;
        refused = expr_refused w left Sequence (drop next tokens) is.number is.left is.stops;
        because = because;
        unfinished = λ number spared a text.
            expr_unfinished left Sequence (drop next tokens) is.left (is.stops ∙ ap (λ n. stop n is.left) number) because.front because.bad because.split because.left_is spared a text;
      }
  expr_has_reason tokens next left now (Err Memory) is = tt

  -- a token that goes on from the tree of a type name makes a longer one, or shows a function, but for a word of a type
  type_next : (front : List Token) (d : Declared) (t : Token) (rest : List Token) → IsType w front d → is_type_word w t ≡ false → more_type w d t ≡ true
      → CanBegin (IsType w) (front ++ (t ∷ [])) ⊎ StopsOtherwise (λ d. depth_of_type (type_of d)) (type_reader w) d (front ++ (t ∷ rest))
  type_next front d t rest is off m = by_case (type_goes w t front d is off m)
    where
      by_case : CanBegin (IsType w) (front ++ (t ∷ [])) ⊎ (calls w (behind_pointers d.pieces) t ≡ true)
          → CanBegin (IsType w) (front ++ (t ∷ [])) ⊎ StopsOtherwise (λ d. depth_of_type (type_of d)) (type_reader w) d (front ++ (t ∷ rest))
      by_case (inl c) = inl c
      by_case (inr k) = inr (record {
        number = function_pointer;
        other = λ h. let both : Path ℕ 104 31 = h in omega arith;
        left = length (t ∷ rest);
        stops = λ most fits. function_refused w most front d (t ∷ rest) is fits k;
      })

  type_unfinished : (left : ℕ) (ts : List Token) (k : ℕ) → type_reader w left ts ≡ stop unexpected k → (front bad : List Token) → ts ≡ front ++ bad → k ≡ length bad → at_next (is_type_word w) bad ≡ false
      → (d : Declared) → IsType w front d → ⊥
  type_unfinished left ts k e front bad split left_is spared d is =
      unfinished w (IsType w) (λ d. depth_of_type (type_of d)) (more_type w) (type_reader w) (λ left some. (lawful_parts w left some).type_name) (λ n m le. (parts_wider w n m 0 le).1) (λ left. (parts_grounded w left 0).1)
      (is_type_word w) (λ front a t rest is spared m. type_next front a t rest is spared m) left ts k e front bad split left_is spared d is

  -- the longest type name of all, behind which no token shows another type
  type_longest_of_all : (left : ℕ) (ts : List Token) (d : Declared) (rest : List Token) → type_reader w left ts ≡ done d rest → IsLongest (IsType w) ts d rest × (at_next (shows_other_type w d) rest ≡ false)
  type_longest_of_all left ts d rest h =
      let all = longest_of_all (IsType w) (λ d. depth_of_type (type_of d)) (more_type w) (type_reader w) (λ left some. (lawful_parts w left some).type_name) (λ n m le. (parts_wider w n m 0 le).1) left ts d rest h in
      (all.0, none rest all.1)
    where
      none : (rest : List Token) → at_next (more_type w d) rest ≡ false → at_next (shows_other_type w d) rest ≡ false
      none [] k = refl
      none (t ∷ rest) k = no_other_type w t d k

  pub type_has_reason : (tokens : List Token) (next left now : ℕ) (result : Result TypeName Stop) → IsTypeRead w tokens next left now result → HasTypeReason w tokens next left now result
  type_has_reason tokens next left now (Ok t) is =
      let all : IsLongest (IsType w) (drop next tokens) is.0 (drop now tokens) × (at_next (shows_other_type w is.0) (drop now tokens) ≡ false) = type_longest_of_all left (drop next tokens) is.0 (drop now tokens) is.1 in
      (is.0, all.0, all.1, is.2)
  type_has_reason tokens next left now (Err (Refused r)) is =
      let because : IsRefusedFor w (IsType w) (drop next tokens) is.number is.left = type_reason left (drop next tokens) is.number is.left is.stops in
      record {
        number = is.number;
        left = is.left;
        is = is.is;
        stops = is.stops;
        refused = type_refused w left (drop next tokens) is.number is.left is.stops;
        because = because;
        unfinished = λ number spared d text.
            type_unfinished left (drop next tokens) is.left (is.stops ∙ ap (λ n. stop n is.left) number) because.front because.bad because.split because.left_is spared d text;
      }
  type_has_reason tokens next left now (Err Memory) is = tt
