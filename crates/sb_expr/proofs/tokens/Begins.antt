-- With which tokens expressions begin, and what else these tokens are not.
use Rattle.std.proofs.Common.{◌≡◌, ◌⊎◌, inl, inr, ℕ, Bool, true, false, ◌||◌, ◌&&◌, not, List, [], ◌∷◌, ◌++◌, Option, Some, None, is_some, if◌then◌else◌, refl, sym, ap, ◌∙◌, subst, append_assoc}
use Rattle.std.specs.Option.{option_map_or}
use Rattle.sb_base.specs.declared.interning.Name.{Name}
use Rattle.sb_base.specs.declared.refusals.Place.{Place}
use Rattle.sb_base.specs.declared.tokens.PpKind.{PpKind}
use Rattle.sb_base.specs.declared.tokens.PpKind.TheVariants as kind
use Rattle.sb_base.specs.declared.tokens.Token.{Token}
use Rattle.sb_parse.specs.Parser.{at_next}
use Rattle.sb_parse.proofs.Heads.{head_of_append, passes_first, passes_second}
use Rattle.sb_sign.specs.declared.sign.Keyword.{Keyword}
use Rattle.sb_sign.specs.declared.sign.Keyword.TheVariants as keyword
use Rattle.sb_sign.specs.declared.sign.Mark.{Mark}
use Rattle.sb_sign.specs.declared.sign.Mark.TheVariants as mark
use Rattle.sb_sign.specs.Signs as sign
use Rattle.sb_sign.specs.Signs.{is_same_mark, is_same_keyword, mark_by, keyword_by, keyword_in, name_by, is_number_kind, is_text_kind}
use Rattle.sb_tree.specs.Trees.{ExprTree, Number, Text, Identifier}
use Rattle.sb_expr.specs.Expression.{Level, Postfix, IsExpr, is_operand, is_grouped, is_primary, is_indexed, is_called, is_member, is_stepped, is_postfix, is_prefixed, is_stepping, is_size_of_expr, is_size_of_type, is_uncast, is_cast, is_tighter, is_binary, is_infix, is_conditional, is_chosen, is_assignment, is_assigned, is_sequence}
use Rattle.sb_lexicon.specs.Lexicon.{Lexicon, is_among, operand_of, named_operand, is_type_keyword, begins_type, prefix_at, step_at, by_mark}
use Rattle.sb_lexicon.specs.Tokens.{is_open, is_close, is_comma, is_open_brace, is_prefix, is_step, is_size_of, begins_expr}
use Rattle.sb_lexicon.proofs.Lexemes.{mark_is, mark_no_keyword, keyword_no_mark}
use Rattle.sb_lexicon.proofs.Marks.{if_so, flipped, both_false, has_mark, by_its_mark}

-- ---- names are words, and marks are none

no_name : (k : PpKind) (n : Name) (o : Option Keyword) (text : List ℕ) (m : Mark) → mark_by k text ≡ Some m → name_by k n o ≡ None
no_name kind.Word n o text m h = absurd (cc h)
no_name _ n o text m h = refl

keyword_no_name : (k : PpKind) (n : Name) (s : Keyword) → name_by k n (Some s) ≡ None
keyword_no_name kind.Word n s = refl
keyword_no_name _ n s = refl

-- what begins a type, by a keyword and a name
abbrev type_by : Lexicon → Option Keyword → Option Name → Bool
type_by w o n = option_map_or is_type_keyword o false || option_map_or (λ n. is_among n w.types) n false

abbrev size_by : Option Keyword → Bool
size_by o = option_map_or (is_same_keyword keyword.SizeOf) o false

-- ---- operands

return_alone : (s : Keyword) → (if is_same_keyword keyword.Return s then not (is_type_keyword s || is_same_keyword keyword.SizeOf s) else true) ≡ true
return_alone keyword.Return = refl
return_alone _ = refl

size_no_type : (s : Keyword) → (if is_same_keyword keyword.SizeOf s then not (is_type_keyword s) else true) ≡ true
size_no_type keyword.SizeOf = refl
size_no_type _ = refl

abbrev word_operand : Lexicon → Name → Place → Option Keyword → Option ExprTree
word_operand w n place o = if w.in_note && option_map_or (is_same_keyword keyword.Return) o false then Some (Identifier n place) else named_operand w place (name_by kind.Word n o)

word_no_type : (w : Lexicon) (n : Name) (place : Place) (e : ExprTree) (o : Option Keyword) → word_operand w n place o ≡ Some e → (type_by w o (name_by kind.Word n o) ≡ false) × (size_by o ≡ false)
word_no_type w n place e (Some s) h = by_test w.in_note (is_same_keyword keyword.Return s) refl h
  where
    by_test : (b c : Bool) → is_same_keyword keyword.Return s ≡ c → (if b && c then Some (Identifier n place) else None) ≡ Some e → ((is_type_keyword s || false) ≡ false) × (is_same_keyword keyword.SizeOf s ≡ false)
    by_test true true k h =
        let alone : (is_type_keyword s ≡ false) × (is_same_keyword keyword.SizeOf s ≡ false) = both_false (is_type_keyword s) (is_same_keyword keyword.SizeOf s) (if_so (is_same_keyword keyword.Return s) (not (is_type_keyword s || is_same_keyword keyword.SizeOf s)) (return_alone s) k) in
        (ap (λ b. b || false) alone.0, alone.1)
    by_test true false k h = absurd (cc h)
    by_test false c k h = absurd (cc h)
word_no_type w n place e None h = by_test w.in_note (is_among n w.types) h
  where
    by_test : (b c : Bool) → (if b && false then Some (Identifier n place) else (if c then None else Some (Identifier n place))) ≡ Some e → (c ≡ false) × (false ≡ false)
    by_test true true h = absurd (cc h)
    by_test false true h = absurd (cc h)
    by_test b false h = (refl, refl)

-- an operand is no mark, begins no type and is no `sizeof`
abbrev pub IsNoMark : Lexicon → Token → Type 0
IsNoMark w t = (sign.mark_of w.texts t ≡ None) × (begins_type w t ≡ false) × (is_size_of w t ≡ false)

pub operand_is_no_mark : (w : Lexicon) (t : Token) (e : ExprTree) → operand_of w t ≡ Some e → IsNoMark w t
operand_is_no_mark w t e h = go t.kind h
  where
    text : List ℕ
    text = sign.spelling_of w.texts t

    go : (k : PpKind)
        → (if is_number_kind k then Some (Number t.text t.value t.place)
        else (if is_text_kind k then Some (Text t.text t.place)
        else (if w.in_note && option_map_or (is_same_keyword keyword.Return) (keyword_by k text) false then Some (Identifier t.text t.place)
        else named_operand w t.place (name_by k t.text (keyword_by k text))))) ≡ Some e
        → (mark_by k text ≡ None) × (type_by w (keyword_by k text) (name_by k t.text (keyword_by k text)) ≡ false) × (size_by (keyword_by k text) ≡ false)
    go kind.Word h = let plain : (type_by w (keyword_in text) (name_by kind.Word t.text (keyword_in text)) ≡ false) × (size_by (keyword_in text) ≡ false) = word_no_type w t.text t.place e (keyword_in text) h in (refl, plain.0, plain.1)
    go kind.Punct h = absurd (cc (sym (none w.in_note) ∙ h))
      where
        none : (b : Bool) → (if b && false then Some (Identifier t.text t.place) else None) ≡ None
        none true = refl
        none false = refl
    go _ h = (refl, refl, refl)

-- ---- marks

-- a mark begins no type and is no `sizeof`
pub mark_is_no_word : (w : Lexicon) (t : Token) (m : Mark) → sign.mark_of w.texts t ≡ Some m → (begins_type w t ≡ false) × (is_size_of w t ≡ false)
mark_is_no_word w t m h =
    let no_key : sign.keyword_of w.texts t ≡ None = mark_no_keyword w m t h in
    let nameless : sign.name_of w.texts t ≡ None = no_name t.kind t.text (sign.keyword_of w.texts t) (sign.spelling_of w.texts t) m h in
    (ap (λ o. type_by w o (sign.name_of w.texts t)) no_key ∙ ap (type_by w None) nameless, ap size_by no_key)

-- ---- `sizeof`

size_key : (w : Lexicon) (t : Token) → is_size_of w t ≡ true → (s : Keyword) × (sign.keyword_of w.texts t ≡ Some s) × (is_same_keyword keyword.SizeOf s ≡ true)
size_key w t h = go (sign.keyword_of w.texts t) h
  where
    go : (o : Option Keyword) → size_by o ≡ true → (s : Keyword) × (o ≡ Some s) × (is_same_keyword keyword.SizeOf s ≡ true)
    go None h = absurd (cc h)
    go (Some s) h = (s, refl, h)

-- `sizeof` is no mark and begins no type
pub size_is_no_mark : (w : Lexicon) (t : Token) → is_size_of w t ≡ true → (sign.mark_of w.texts t ≡ None) × (begins_type w t ≡ false)
size_is_no_mark w t h =
    let s : (s : Keyword) × (sign.keyword_of w.texts t ≡ Some s) × (is_same_keyword keyword.SizeOf s ≡ true) = size_key w t h in
    let nameless : sign.name_of w.texts t ≡ None = ap (name_by t.kind t.text) s.1 ∙ keyword_no_name t.kind t.text s.0 in (
      keyword_no_mark w s.0 t s.1,
      ap (λ o. type_by w o (sign.name_of w.texts t)) s.1 ∙ ap (type_by w (Some s.0)) nameless
          ∙ ap (λ b. b || false) (flipped (is_type_keyword s.0) (if_so (is_same_keyword keyword.SizeOf s.0) (not (is_type_keyword s.0)) (size_no_type s.0) s.2)),
    )

-- ---- what a token is not that begins an expression

abbrev may_begin : Mark → Bool
may_begin m = is_same_mark mark.OpenParenthesis m || (is_some (prefix_at m) || is_some (step_at m))

begins_alone : (m : Mark) → (if may_begin m then not (is_same_mark mark.CloseParenthesis m || is_same_mark mark.OpenBrace m) else true) ≡ true
begins_alone mark.Star = refl
begins_alone _ = refl

prefix_may : (m : Mark) → (if is_some (prefix_at m) then may_begin m else true) ≡ true
prefix_may mark.Star = refl
prefix_may _ = refl

step_may : (m : Mark) → (if is_some (step_at m) then may_begin m else true) ≡ true
step_may mark.Star = refl
step_may _ = refl

step_alone : (m : Mark) → (if is_some (step_at m) then not (is_some (prefix_at m) || false) else true) ≡ true
step_alone mark.Star = refl
step_alone _ = refl

module _ (w : Lexicon) (t : Token) where
  abbrev Kinds : Type 0
  Kinds = ((sign.mark_of w.texts t ≡ None) × (begins_type w t ≡ false)) ⊎ ((m : Mark) × (sign.mark_of w.texts t ≡ Some m) × (may_begin m ≡ true))

  kinds : begins_expr w t ≡ true → Kinds
  kinds h = by_operand (operand_of w t) refl h
    where
      by_step : (b : Bool) → is_step w t ≡ b → (b || is_size_of w t) ≡ true → Kinds
      by_step true k h = let m : (m : Mark) × (sign.mark_of w.texts t ≡ Some m) × (is_some (step_at m) ≡ true) = has_mark step_at t.place (sign.mark_of w.texts t) k in inr (m.0, m.1, if_so (is_some (step_at m.0)) (may_begin m.0) (step_may m.0) m.2)
      by_step false k h = inl (size_is_no_mark w t h)

      by_prefix : (b : Bool) → is_prefix w t ≡ b → (b || (is_step w t || is_size_of w t)) ≡ true → Kinds
      by_prefix true k h = let m : (m : Mark) × (sign.mark_of w.texts t ≡ Some m) × (is_some (prefix_at m) ≡ true) = has_mark prefix_at t.place (sign.mark_of w.texts t) k in inr (m.0, m.1, if_so (is_some (prefix_at m.0)) (may_begin m.0) (prefix_may m.0) m.2)
      by_prefix false k h = by_step (is_step w t) refl h

      by_open : (b : Bool) → is_open w t ≡ b → (b || (is_prefix w t || (is_step w t || is_size_of w t))) ≡ true → Kinds
      by_open true k h = inr (mark.OpenParenthesis, mark_is w mark.OpenParenthesis t k, refl)
      by_open false k h = by_prefix (is_prefix w t) refl h

      by_operand : (o : Option ExprTree) → operand_of w t ≡ o → (is_some o || (is_open w t || (is_prefix w t || (is_step w t || is_size_of w t)))) ≡ true → Kinds
      by_operand None k h = by_open (is_open w t) refl h
      by_operand (Some e) k h = let plain : IsNoMark w t = operand_is_no_mark w t e k in inl (plain.0, plain.1)

  begins_no_end : begins_expr w t ≡ true → (is_close w t ≡ false) × (is_open_brace w t ≡ false)
  begins_no_end h = go (kinds h)
    where
      go : Kinds → (is_close w t ≡ false) × (is_open_brace w t ≡ false)
      go (inl plain) = (ap (λ o. option_map_or (is_same_mark mark.CloseParenthesis) o false) plain.0, ap (λ o. option_map_or (is_same_mark mark.OpenBrace) o false) plain.0)
      go (inr m) =
          let alone : (is_same_mark mark.CloseParenthesis m.0 ≡ false) × (is_same_mark mark.OpenBrace m.0 ≡ false) = both_false (is_same_mark mark.CloseParenthesis m.0) (is_same_mark mark.OpenBrace m.0) (if_so (may_begin m.0) (not (is_same_mark mark.CloseParenthesis m.0 || is_same_mark mark.OpenBrace m.0)) (begins_alone m.0) m.2) in
          (ap (λ o. option_map_or (is_same_mark mark.CloseParenthesis) o false) m.1 ∙ alone.0, ap (λ o. option_map_or (is_same_mark mark.OpenBrace) o false) m.1 ∙ alone.1)

  begins_no_type : begins_expr w t ≡ true → begins_type w t ≡ false
  begins_no_type h = go (kinds h)
    where
      go : Kinds → begins_type w t ≡ false
      go (inl plain) = plain.1
      go (inr m) = (mark_is_no_word w t m.0 m.1).0

  pub close_no_comma : is_close w t ≡ true → is_comma w t ≡ false
  close_no_comma h = ap (λ o. option_map_or (is_same_mark mark.Comma) o false) (mark_is w mark.CloseParenthesis t h)

  pub operand_not_open : (e : ExprTree) → operand_of w t ≡ Some e → is_open w t ≡ false
  operand_not_open e h = ap (λ o. option_map_or (is_same_mark mark.OpenParenthesis) o false) (operand_is_no_mark w t e h).0

  pub step_no_prefix : is_step w t ≡ true → is_prefix w t ≡ false
  step_no_prefix h =
      let m : (m : Mark) × (sign.mark_of w.texts t ≡ Some m) × (is_some (step_at m) ≡ true) = has_mark step_at t.place (sign.mark_of w.texts t) h in
      by_its_mark prefix_at t.place (sign.mark_of w.texts t) m.0 m.1 ∙ (both_false (is_some (prefix_at m.0)) false (if_so (is_some (step_at m.0)) (not (is_some (prefix_at m.0) || false)) (step_alone m.0) m.2)).0

  pub size_no_sign : is_size_of w t ≡ true → (is_prefix w t ≡ false) × (is_step w t ≡ false)
  size_no_sign h = (ap (λ o. is_some (by_mark prefix_at t.place o)) (size_is_no_mark w t h).0, ap (λ o. is_some (by_mark step_at t.place o)) (size_is_no_mark w t h).0)

  -- an operand or `(` begins no prefix
  abbrev pub NoPrefix : Type 0
  NoPrefix = (is_prefix w t ≡ false) × (is_step w t ≡ false) × (is_size_of w t ≡ false)

  pub operand_no_prefix : (e : ExprTree) → operand_of w t ≡ Some e → NoPrefix
  operand_no_prefix e h =
      let plain : IsNoMark w t = operand_is_no_mark w t e h in
      (ap (λ o. is_some (by_mark prefix_at t.place o)) plain.0, ap (λ o. is_some (by_mark step_at t.place o)) plain.0, plain.2)

  pub open_no_prefix : is_open w t ≡ true → NoPrefix
  open_no_prefix h =
      let m : sign.mark_of w.texts t ≡ Some mark.OpenParenthesis = mark_is w mark.OpenParenthesis t h in
      (ap (λ o. is_some (by_mark prefix_at t.place o)) m, ap (λ o. is_some (by_mark step_at t.place o)) m, (mark_is_no_word w t mark.OpenParenthesis m).1)

-- ---- the first tokens of texts

module _ (w : Lexicon) where
  sign_begins : (ts : List Token) → at_next (λ t. is_open w t || (is_prefix w t || (is_step w t || is_size_of w t))) ts ≡ true → at_next (begins_expr w) ts ≡ true
  sign_begins ts h = passes_second (λ t. is_some (operand_of w t)) (λ t. is_open w t || (is_prefix w t || (is_step w t || is_size_of w t))) ts h

  open_begins : (t : Token) (ts : List Token) → is_open w t ≡ true → at_next (begins_expr w) (t ∷ ts) ≡ true
  open_begins t ts h = sign_begins (t ∷ ts) (passes_first (is_open w) (λ t. is_prefix w t || (is_step w t || is_size_of w t)) (t ∷ ts) h)

  behind_open : (ts : List Token) → at_next (λ t. is_prefix w t || (is_step w t || is_size_of w t)) ts ≡ true → at_next (begins_expr w) ts ≡ true
  behind_open ts h = sign_begins ts (passes_second (is_open w) (λ t. is_prefix w t || (is_step w t || is_size_of w t)) ts h)

  pub expr_begins : (level : Level) (ts : List Token) (e : ExprTree) → IsExpr w level ts e → at_next (begins_expr w) ts ≡ true
  expr_begins _ _ _ (is_operand t e h) = passes_first (λ t. is_some (operand_of w t)) (λ t. is_open w t || (is_prefix w t || (is_step w t || is_size_of w t))) (t ∷ []) (ap is_some h)
  expr_begins _ _ _ (is_grouped o c xs e opens closes is) = open_begins o (xs ++ (c ∷ [])) opens
  expr_begins _ _ _ (is_primary xs e is) = expr_begins _ xs e is
  expr_begins _ _ _ (is_indexed o c at xs ys e f s closes first second) = head_of_append (begins_expr w) xs (o ∷ (ys ++ (c ∷ []))) (expr_begins _ xs e first)
  expr_begins _ _ _ (is_called o c at xs ys e args s closes first second) = head_of_append (begins_expr w) xs (o ∷ (ys ++ (c ∷ []))) (expr_begins _ xs e first)
  expr_begins _ _ _ (is_member o n arrow at name xs e s named first) = head_of_append (begins_expr w) xs (o ∷ (n ∷ [])) (expr_begins _ xs e first)
  expr_begins _ _ _ (is_stepped t op at xs e s first) = head_of_append (begins_expr w) xs (t ∷ []) (expr_begins _ xs e first)
  expr_begins _ _ _ (is_postfix xs e is) = expr_begins _ xs e is
  expr_begins _ _ _ (is_prefixed t op at xs e h is) = behind_open (t ∷ xs) (passes_first (is_prefix w) (λ t. is_step w t || is_size_of w t) (t ∷ xs) (ap is_some h))
  expr_begins _ _ _ (is_stepping t op at xs e h is) = behind_open (t ∷ xs) (passes_second (is_prefix w) (λ t. is_step w t || is_size_of w t) (t ∷ xs) (passes_first (is_step w) (is_size_of w) (t ∷ xs) (ap is_some h)))
  expr_begins _ _ _ (is_size_of_expr t xs e h is) = behind_open (t ∷ xs) (passes_second (is_prefix w) (λ t. is_step w t || is_size_of w t) (t ∷ xs) (passes_second (is_step w) (is_size_of w) (t ∷ xs) h))
  expr_begins _ _ _ (is_size_of_type t o c xs a h opens closes is) =
      behind_open (t ∷ (o ∷ (xs ++ (c ∷ [])))) (passes_second (is_prefix w) (λ t. is_step w t || is_size_of w t) (t ∷ (o ∷ (xs ++ (c ∷ [])))) (passes_second (is_step w) (is_size_of w) (t ∷ (o ∷ (xs ++ (c ∷ [])))) h))
  expr_begins _ _ _ (is_uncast xs e is) = expr_begins _ xs e is
  expr_begins _ _ _ (is_cast o c xs ys a e opens closes type is) = open_begins o (xs ++ (c ∷ ys)) opens
  expr_begins _ _ _ (is_tighter k xs e is) = expr_begins _ xs e is
  expr_begins _ _ _ (is_binary k t op at xs ys e f h first second) = head_of_append (begins_expr w) xs (t ∷ ys) (expr_begins _ xs e first)
  expr_begins _ _ _ (is_infix xs e is) = expr_begins _ xs e is
  expr_begins _ _ _ (is_conditional q c xs ys zs e f g question colon first second third) = head_of_append (begins_expr w) xs (q ∷ (ys ++ (c ∷ zs))) (expr_begins _ xs e first)
  expr_begins _ _ _ (is_chosen xs e is) = expr_begins _ xs e is
  expr_begins _ _ _ (is_assignment t op at xs ys e f h first second) = head_of_append (begins_expr w) xs (t ∷ ys) (expr_begins _ xs e first)
  expr_begins _ _ _ (is_assigned xs e is) = expr_begins _ xs e is
  expr_begins _ _ _ (is_sequence t xs ys e f h first second) = head_of_append (begins_expr w) xs (t ∷ ys) (expr_begins _ xs e first)

  -- a test that no first token passes
  at_none : (test : Token → Bool) → ((t : Token) → begins_expr w t ≡ true → test t ≡ false) → (ts rest : List Token) → at_next (begins_expr w) ts ≡ true → at_next test (ts ++ rest) ≡ false
  at_none test fails [] rest h = absurd (cc h)
  at_none test fails (t ∷ ts) rest h = fails t h

  pub begins_with_no_close : (level : Level) (ts : List Token) (e : ExprTree) (rest : List Token) → IsExpr w level ts e → at_next (is_close w) (ts ++ rest) ≡ false
  begins_with_no_close level ts e rest is = at_none (is_close w) (λ t h. (begins_no_end w t h).0) ts rest (expr_begins level ts e is)

  pub begins_with_no_brace : (level : Level) (ts : List Token) (e : ExprTree) (rest : List Token) → IsExpr w level ts e → at_next (is_open_brace w) (ts ++ rest) ≡ false
  begins_with_no_brace level ts e rest is = at_none (is_open_brace w) (λ t h. (begins_no_end w t h).1) ts rest (expr_begins level ts e is)

  pub begins_with_no_type : (level : Level) (ts : List Token) (e : ExprTree) (rest : List Token) → IsExpr w level ts e → at_next (begins_type w) (ts ++ rest) ≡ false
  begins_with_no_type level ts e rest is = at_none (begins_type w) (λ t h. begins_no_type w t h) ts rest (expr_begins level ts e is)

  abbrev WithoutPrefix : List Token → Type 0
  WithoutPrefix ts = (at_next (is_prefix w) ts ≡ false) × (at_next (is_step w) ts ≡ false) × (at_next (is_size_of w) ts ≡ false)

  longer : (xs ys rest : List Token) → WithoutPrefix (xs ++ (ys ++ rest)) → WithoutPrefix ((xs ++ ys) ++ rest)
  longer xs ys rest h = subst WithoutPrefix (sym (append_assoc xs ys rest)) h

  -- no token that stands before an operand
  pub begins_with_no_prefix : (ts : List Token) (e : ExprTree) (rest : List Token) → IsExpr w Postfix ts e
      → (at_next (is_prefix w) (ts ++ rest) ≡ false) × (at_next (is_step w) (ts ++ rest) ≡ false) × (at_next (is_size_of w) (ts ++ rest) ≡ false)
  begins_with_no_prefix _ _ rest (is_primary _ _ (is_operand t e h)) = operand_no_prefix w t e h
  begins_with_no_prefix _ _ rest (is_primary _ _ (is_grouped o c xs e opens closes is)) = open_no_prefix w o opens
  begins_with_no_prefix _ _ rest (is_indexed o c at xs ys e f s closes first second) = longer xs (o ∷ (ys ++ (c ∷ []))) rest (begins_with_no_prefix xs e ((o ∷ (ys ++ (c ∷ []))) ++ rest) first)
  begins_with_no_prefix _ _ rest (is_called o c at xs ys e args s closes first second) = longer xs (o ∷ (ys ++ (c ∷ []))) rest (begins_with_no_prefix xs e ((o ∷ (ys ++ (c ∷ []))) ++ rest) first)
  begins_with_no_prefix _ _ rest (is_member o n arrow at name xs e s named first) = longer xs (o ∷ (n ∷ [])) rest (begins_with_no_prefix xs e ((o ∷ (n ∷ [])) ++ rest) first)
  begins_with_no_prefix _ _ rest (is_stepped t op at xs e s first) = longer xs (t ∷ []) rest (begins_with_no_prefix xs e ((t ∷ []) ++ rest) first)
