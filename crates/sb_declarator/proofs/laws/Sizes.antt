-- The readers of the sizes of arrays keep the laws.
use Rattle.std.proofs.Common.{◌≡◌, ◌≤◌, ◌-◌, ℕ, suc, Bool, true, false, ◌||◌, ◌&&◌, List, [], ◌∷◌, ◌++◌, length, nat_lt, Option, Some, None, if◌then◌else◌, refl, sym, ap, ◌∙◌, append_assoc, inl, inr, arith}
use Rattle.std.proofs.lemmas.Bool.{ltb-false}
use Rattle.std.specs.Option.{option_map_or}
use Rattle.sb_base.specs.declared.interning.Name.{Name}
use Rattle.sb_base.specs.declared.tokens.PpKind.{PpKind}
use Rattle.sb_base.specs.declared.tokens.PpKind.TheVariants as kind
use Rattle.sb_base.specs.declared.tokens.Token.{Token}
use Rattle.sb_parse.specs.Parser.{Outcome, Parser, done, stop, at_next, never, and_then, ◌>>=◌, pure, token}
use Rattle.sb_parse.specs.Lawful.{Lawful, OnHead, Joined, IsToken, Opened, Closed, Mapped, Unbarred, Either}
use Rattle.sb_parse.proofs.Joining.{in_order, via, one_token, map_of}
use Rattle.sb_parse.proofs.Heads.{opened, opened_heads, at_head, guarded, choice_of}
use Rattle.sb_sign.specs.declared.sign.Keyword.{Keyword}
use Rattle.sb_sign.specs.declared.sign.Keyword.TheVariants as keyword
use Rattle.sb_sign.specs.declared.sign.Mark.TheVariants as mark
use Rattle.sb_sign.specs.Signs as sign
use Rattle.sb_tree.specs.Trees as tree
use Rattle.sb_tree.specs.Trees.{ExprTree, OptionalExpr, depth_of_optional_expr}
use Rattle.sb_expr.specs.Expression.{Assignment, IsSize, no_size, a_size}
use Rattle.sb_lexicon.specs.Lexicon.{Lexicon, operand_of, name_of}
use Rattle.sb_operand.specs.Pieces.{Arrayed}
use Rattle.sb_expr.specs.Readers.{expr_reader}
use Rattle.sb_lexicon.specs.Tokens.{unexpected, too_deep, is_open_bracket, is_close_bracket, begins_expr}
use Rattle.sb_expr.specs.Reads.{FitsExpr}
use Rattle.sb_expr.proofs.tokens.Begins.{expr_begins}
use Rattle.sb_expr.proofs.tokens.Bracketed.{no_more_at_bracket, no_bracket_first}
use Rattle.sb_lexicon.proofs.Lexemes.{same_keyword, keyword_no_mark, mark_is, mark_no_keyword, close_bracket_token, close_bracket_token_is}
use Rattle.sb_expr.proofs.Tying.{lawful_parts}
use Rattle.sb_parse.proofs.Ways.{closing}
use Rattle.sb_specifier.specs.Specified.{reading, is_bare}
use Rattle.sb_specifier.specs.Declaration.{IsSizeOf, a_fixed, a_free}
use Rattle.sb_specifier.specs.Readers.{Declarator, Parts, with_pieces}
use Rattle.sb_declarator.specs.Readers.{size, sized, outermost_size, arrayed, is_size_word}
use Rattle.sb_parse.proofs.Choices.{and_then_assoc}
use Rattle.sb_declarator.proofs.laws.Tokens.{WordTexts, words_law}

-- ---- no expression begins with a keyword but `sizeof`

keyword_no_operand_by : (k : PpKind) (text : List ℕ) (j : Keyword) → sign.keyword_by k text ≡ Some j → (sign.is_number_kind k ≡ false) × (sign.is_text_kind k ≡ false) × ((n : Name) → sign.name_by k n (sign.keyword_by k text) ≡ None)
keyword_no_operand_by kind.Word text j e = (refl, refl, λ n. ap (λ o. sign.name_by kind.Word n o) e)
keyword_no_operand_by _ text j e = absurd (cc e)

keyword_begins_none : (texts : List (List ℕ)) (types : List Name) (j : Keyword) (t : Token) → sign.keyword_of texts t ≡ Some j → sign.is_same_keyword keyword.SizeOf j ≡ false → begins_expr (reading texts types) t ≡ false
keyword_begins_none texts types j t e other =
    let kinds = keyword_no_operand_by t.kind (sign.spelling_of texts t) j e in
    let named : name_of (reading texts types) t ≡ None = kinds.2 t.text in
    let no_mark : sign.mark_of texts t ≡ None = keyword_no_mark (reading texts types) j t e in
    let no_operand : operand_of (reading texts types) t ≡ None = rw (kinds.0, kinds.1, named) refl in
    rw (no_operand, no_mark, e, other) refl

module _ (texts : List (List ℕ)) (types : List Name) (functions may_lack : Bool) (below : ℕ) (part : ℕ → Parts) (room : ℕ) (rest : ℕ → Parser Token Declarator) where
  abbrev w : Lexicon
  w = reading texts types

  -- ---- no size begins with a word before it

  word_begins_none : (t : Token) → begins_expr w t ≡ true → is_size_word w functions may_lack below part room rest t ≡ false
  word_begins_none t h = by_keyword (sign.keyword_of texts t) refl
    where
      by_keyword : (o : Option Keyword) → sign.keyword_of texts t ≡ o → is_size_word w functions may_lack below part room rest t ≡ false
      by_keyword None k =
          ap (λ o. option_map_or (sign.is_same_keyword keyword.Static) o false || (option_map_or (sign.is_same_keyword keyword.Const) o false || (option_map_or (sign.is_same_keyword keyword.Restrict) o false || option_map_or (sign.is_same_keyword keyword.Volatile) o false))) k
      by_keyword (Some j) k =
          ap (λ o. option_map_or (sign.is_same_keyword keyword.Static) o false || (option_map_or (sign.is_same_keyword keyword.Const) o false || (option_map_or (sign.is_same_keyword keyword.Restrict) o false || option_map_or (sign.is_same_keyword keyword.Volatile) o false))) k
          ∙ by_size (sign.is_same_keyword keyword.SizeOf j) refl
        where
          by_size : (b : Bool) → sign.is_same_keyword keyword.SizeOf j ≡ b
              → (sign.is_same_keyword keyword.Static j || (sign.is_same_keyword keyword.Const j || (sign.is_same_keyword keyword.Restrict j || sign.is_same_keyword keyword.Volatile j))) ≡ false
          by_size false other = absurd (let both : true ≡ false = sym h ∙ keyword_begins_none texts types j t k other in cc both)
          by_size true same = ap (λ i. sign.is_same_keyword keyword.Static i || (sign.is_same_keyword keyword.Const i || (sign.is_same_keyword keyword.Restrict i || sign.is_same_keyword keyword.Volatile i))) (sym (same_keyword keyword.SizeOf j same))

  bracket_no_word : (t : Token) → is_close_bracket w t ≡ true → is_size_word w functions may_lack below part room rest t ≡ false
  bracket_no_word t h =
      ap (λ o. option_map_or (sign.is_same_keyword keyword.Static) o false || (option_map_or (sign.is_same_keyword keyword.Const) o false || (option_map_or (sign.is_same_keyword keyword.Restrict) o false || option_map_or (sign.is_same_keyword keyword.Volatile) o false)))
      (mark_no_keyword w mark.CloseBracket t (mark_is w mark.CloseBracket t h))

  -- ---- sizes

  abbrev pub FitsSize : ℕ → List Token → OptionalExpr → Type 0
  FitsSize n ts e = IsSize w ts e × (depth_of_optional_expr e ≤ below - suc n)

  abbrev pub FitsSizeOf : Bool → ℕ → List Token → OptionalExpr → Type 0
  FitsSizeOf fixed n ts e = IsSizeOf w fixed ts e × (depth_of_optional_expr e ≤ below - suc n)

  abbrev closed_as : (OptionalExpr → Declarator) → OptionalExpr → Parser Token Declarator
  closed_as f e = token unexpected (is_close_bracket w) >>= (λ c. pure (f e))

  abbrev NoText : (OptionalExpr → Declarator) → List Token → Declarator → Type 0
  NoText f = Mapped (λ c. f tree.NoExpr) (IsToken (is_close_bracket w))

  abbrev ExprText : ℕ → (OptionalExpr → Declarator) → List Token → Declarator → Type 0
  ExprText n f = Mapped (λ e. f (tree.AnExpr e)) (Closed (is_close_bracket w) (FitsExpr w (below - suc n) Assignment))

  expr_law : (n : ℕ) → suc (suc n) ≤ below → (f : OptionalExpr → Declarator)
      → Lawful (ExprText n f) (λ _. never) (expr_reader w (below - suc n) Assignment >>= (λ e. token unexpected (is_close_bracket w) >>= (λ c. pure (f (tree.AnExpr e)))))
  expr_law n le f =
      closing unexpected (is_close_bracket w) close_bracket_token (close_bracket_token_is w) ((lawful_parts w (below - suc n) (omega arith)).expr Assignment) (no_more_at_bracket w) (λ e. f (tree.AnExpr e))

  no_text_first : (n : ℕ) (f : OptionalExpr → Declarator) (ts : List Token) (d : Declarator) (later : List Token) → ExprText n f ts d → at_next (is_close_bracket w) (ts ++ later) ≡ false
  no_text_first n f ts d later m =
      ap (λ l. at_next (is_close_bracket w) (l ++ later)) m.is.split ∙ ap (at_next (is_close_bracket w)) (append_assoc m.is.front (m.is.closing ∷ []) later)
      ∙ no_bracket_first w Assignment m.is.front m.value ((m.is.closing ∷ []) ++ later) m.is.is.0

  size_law : (n : ℕ) → suc (suc n) ≤ below → (f : OptionalExpr → Declarator)
      → Lawful (Mapped f (Closed (is_close_bracket w) (FitsSize n))) (λ _. never) (sized w functions may_lack below part room rest n >>= closed_as f)
  unfolding sized size
  size_law n le f =
      via (choice_of (at_head (is_close_bracket w) (λ t h. map_of (one_token unexpected (is_close_bracket w) t h) (λ c. f tree.NoExpr) (λ _. never) (λ a t. refl)) (λ ts a m. ap (at_next (is_close_bracket w)) m.is.alone ∙ m.is.passes))
      (expr_law n le f) (λ ts d later m e. no_text_first n f ts d later m)) to from (sized w functions may_lack below part room rest n >>= closed_as f)
      (λ ts. same (at_next (is_close_bracket w) ts) ts (expr_reader w (below - suc n) Assignment ts))
    where
      to : (ts : List Token) (d : Declarator) → Either (NoText f) (ExprText n f) ts d → Mapped f (Closed (is_close_bracket w) (FitsSize n)) ts d
      to ts d (inl m) =
          let none : 0 ≤ below - suc n = omega arith in
          record { value = tree.NoExpr; is = record { front = []; closing = m.value; split = m.is.alone; is = (no_size, none); passes = m.is.passes }; same = m.same }
      to ts d (inr m) = record { value = tree.AnExpr m.value; is = record { front = m.is.front; closing = m.is.closing; split = m.is.split; is = (a_size m.is.front m.value m.is.is.0, m.is.is.1); passes = m.is.passes }; same = m.same }

      from : (ts : List Token) (d : Declarator) → Mapped f (Closed (is_close_bracket w) (FitsSize n)) ts d → Either (NoText f) (ExprText n f) ts d
      from ts d m = by_size m.is.front m.value m.is.is.0 m.is.is.1 m.is.split m.same
        where
          by_size : (front : List Token) (e : OptionalExpr) → IsSize w front e → depth_of_optional_expr e ≤ below - suc n → ts ≡ front ++ (m.is.closing ∷ []) → d ≡ f e → Either (NoText f) (ExprText n f) ts d
          by_size _ _ no_size le split same = inl (record { value = m.is.closing; is = record { alone = split; passes = m.is.passes }; same = same })
          by_size _ _ (a_size xs e is) le split same = inr (record { value = e; is = record { front = xs; closing = m.is.closing; split = split; is = (is, le); passes = m.is.passes }; same = same })

      same : (closes : Bool) (ts : List Token) (o : Outcome Token ExprTree)
          → and_then (if closes then done tree.NoExpr ts else and_then o (λ e. pure (tree.AnExpr e))) (closed_as f) ≡ (if closes then closed_as f tree.NoExpr ts else and_then o (λ e. closed_as f (tree.AnExpr e)))
      same true ts o = refl
      same false ts (done e r) = refl
      same false ts (stop m left) = refl

  abbrev SizeText : Bool → ℕ → (OptionalExpr → Declarator) → List Token → Declarator → Type 0
  SizeText fixed n f = Mapped f (Closed (is_close_bracket w) (FitsSizeOf fixed n))

  -- behind the words
  size_of_law : (fixed : Bool) (n : ℕ) → suc (suc n) ≤ below → (f : OptionalExpr → Declarator)
      → Lawful (SizeText fixed n f) (λ _. never) ((if fixed then size w functions may_lack below part room rest n else sized w functions may_lack below part room rest n) >>= closed_as f)
  unfolding size
  size_of_law true n le f =
      via (expr_law n le f) to from (size w functions may_lack below part room rest n >>= closed_as f) (λ ts. and_then_assoc (expr_reader w (below - suc n) Assignment ts) (λ e. pure (tree.AnExpr e)) (closed_as f))
    where
      to : (ts : List Token) (d : Declarator) → ExprText n f ts d → SizeText true n f ts d
      to ts d m = record { value = tree.AnExpr m.value; is = record { front = m.is.front; closing = m.is.closing; split = m.is.split; is = (a_fixed m.is.front m.value m.is.is.0, m.is.is.1); passes = m.is.passes }; same = m.same }

      from : (ts : List Token) (d : Declarator) → SizeText true n f ts d → ExprText n f ts d
      from ts d m = by_size m.is.front m.value m.is.is.0 m.is.is.1 m.is.split m.same
        where
          by_size : (front : List Token) (e : OptionalExpr) → IsSizeOf w true front e → depth_of_optional_expr e ≤ below - suc n → ts ≡ front ++ (m.is.closing ∷ []) → d ≡ f e → ExprText n f ts d
          by_size _ _ (a_fixed xs e is) le split same = record { value = e; is = record { front = xs; closing = m.is.closing; split = split; is = (is, le); passes = m.is.passes }; same = same }
  size_of_law false n le f = via (size_law n le f) to from (sized w functions may_lack below part room rest n >>= closed_as f) (λ ts. refl)
    where
      to : (ts : List Token) (d : Declarator) → Mapped f (Closed (is_close_bracket w) (FitsSize n)) ts d → SizeText false n f ts d
      to ts d m = record { value = m.value; is = record { front = m.is.front; closing = m.is.closing; split = m.is.split; is = (a_free m.is.front m.value m.is.is.0, m.is.is.1); passes = m.is.passes }; same = m.same }

      from : (ts : List Token) (d : Declarator) → SizeText false n f ts d → Mapped f (Closed (is_close_bracket w) (FitsSize n)) ts d
      from ts d m = record { value = m.value; is = record { front = m.is.front; closing = m.is.closing; split = m.is.split; is = (free m.is.front m.value m.is.is.0, m.is.is.1); passes = m.is.passes }; same = m.same }
        where
          free : (front : List Token) (e : OptionalExpr) → IsSizeOf w false front e → IsSize w front e
          free _ _ (a_free xs e is) = is

  -- no text behind the words begins with one
  size_unworded : (fixed : Bool) (n : ℕ) (f : OptionalExpr → Declarator) (ts : List Token) (d : Declarator) (later : List Token) → SizeText fixed n f ts d
      → at_next (is_size_word w functions may_lack below part room rest) (ts ++ later) ≡ false
  size_unworded fixed n f ts d later m = ap (λ l. at_next (is_size_word w functions may_lack below part room rest) (l ++ later)) m.is.split ∙ by_size fixed m.is.front m.value m.is.is.0
    where
      by_begin : (front : List Token) → at_next (begins_expr w) front ≡ true → at_next (is_size_word w functions may_lack below part room rest) ((front ++ (m.is.closing ∷ [])) ++ later) ≡ false
      by_begin [] h = absurd (cc h)
      by_begin (t ∷ front) h = word_begins_none t h

      by_size : (fixed : Bool) (front : List Token) (e : OptionalExpr) → IsSizeOf w fixed front e → at_next (is_size_word w functions may_lack below part room rest) ((front ++ (m.is.closing ∷ [])) ++ later) ≡ false
      by_size _ _ _ (a_fixed xs e is) = by_begin xs (expr_begins w Assignment xs e is)
      by_size _ _ _ (a_free _ _ no_size) = bracket_no_word m.is.closing m.is.passes
      by_size _ _ _ (a_free _ _ (a_size xs e is)) = by_begin xs (expr_begins w Assignment xs e is)

  abbrev pub OutermostText : ℕ → (OptionalExpr → Declarator) → List Token → Declarator → Type 0
  OutermostText n f = Joined (WordTexts w functions may_lack below part room rest) (λ found. SizeText found.1 n f)

  outermost_law : (n : ℕ) → suc (suc n) ≤ below → (f : OptionalExpr → Declarator) → Lawful (OutermostText n f) (λ _. never) (outermost_size w functions may_lack below part room rest n >>= closed_as f)
  unfolding outermost_size
  outermost_law n le f =
      via (in_order {Second = λ found. SizeText found.1 n f} {q = λ found. (if found.1 then size w functions may_lack below part room rest n else sized w functions may_lack below part room rest n) >>= closed_as f}
      (words_law w functions may_lack below part room rest) (λ xs found is. size_of_law found.1 n le f) (λ xs found ys d later first second e. size_unworded found.1 n f ys d later second)) (λ ts d j. j) (λ ts d j. j)
      (outermost_size w functions may_lack below part room rest n >>= closed_as f) (λ ts. and_then_assoc {A = Bool × Bool} _ (λ found. if found.1 then size w functions may_lack below part room rest n else sized w functions may_lack below part room rest n) (closed_as f))

  -- ---- an array

  abbrev pub ArrayedText : Bool → ℕ → (OptionalExpr → Declarator) → List Token → Declarator → Type 0
  ArrayedText true n f = OutermostText n f
  ArrayedText false n f = Mapped f (Closed (is_close_bracket w) (FitsSize n))

  arrayed_law : (outermost : Bool) (n : ℕ) → suc (suc n) ≤ below → (f : OptionalExpr → Declarator)
      → Lawful (ArrayedText outermost n f) (λ _. never) ((if outermost then outermost_size w functions may_lack below part room rest n else sized w functions may_lack below part room rest n) >>= closed_as f)
  arrayed_law true n le f = outermost_law n le f
  arrayed_law false n le f = size_law n le f

  abbrev pub array_on : Declarator → Token → OptionalExpr → Declarator
  array_on d o e = with_pieces (Arrayed e o.place ∷ d.pieces) d

  abbrev pub ArrayText : Declarator → List Token → Declarator → Type 0
  ArrayText d = Unbarred (nat_lt room (suc (length d.pieces))) (Opened (is_open_bracket w) (λ o. ArrayedText (may_lack && is_bare d.pieces) (length d.pieces) (array_on d o)))

  pub array_head : suc room ≤ below → (d : Declarator) → OnHead (is_open_bracket w) (ArrayText d) (λ _. never) (arrayed w functions may_lack below part room rest d)
  unfolding arrayed
  array_head small d = guarded (nat_lt room (suc (length d.pieces))) too_deep (λ open_way. at_head (is_open_bracket w) (law open_way) opened_heads)
    where
      law : nat_lt room (suc (length d.pieces)) ≡ false → (t : Token) → is_open_bracket w t ≡ true
          → Lawful (Opened (is_open_bracket w) (λ o. ArrayedText (may_lack && is_bare d.pieces) (length d.pieces) (array_on d o))) (λ _. never)
          (token unexpected (is_open_bracket w) >>= (λ o.
          (if may_lack && is_bare d.pieces then outermost_size w functions may_lack below part room rest (length d.pieces) else sized w functions may_lack below part room rest (length d.pieces)) >>= closed_as (array_on d o)))
      law open_way t h =
          let few : suc (length d.pieces) ≤ room = ltb-false room (suc (length d.pieces)) open_way in
          opened {Is = λ o. ArrayedText (may_lack && is_bare d.pieces) (length d.pieces) (array_on d o)} unexpected (is_open_bracket w) t h
          (λ o passes. arrayed_law (may_lack && is_bare d.pieces) (length d.pieces) (omega arith) (array_on d o))
