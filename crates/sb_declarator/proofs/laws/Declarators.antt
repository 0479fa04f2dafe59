-- The readers of declarators keep the laws, if those of parameters do, by descent over the room for pieces.
use Rattle.std.proofs.Common.{◌≡◌, ◌⊎◌, ◌≤◌, ◌-◌, ℕ, zero, suc, Bool, true, false, ◌||◌, ◌&&◌, not, List, [], ◌∷◌, ◌++◌, length, Option, Some, None, is_some, if◌then◌else◌, refl, sym, ap, ◌∙◌, subst, subst₂, append_assoc, append-nil, inl, inr, arith}
use Rattle.std.proofs.lemmas.Bool.{ltb-false, le-ltb}
use Rattle.std.specs.Option.{option_map_or}
use Rattle.sb_base.specs.declared.interning.Name.{Name}
use Rattle.sb_base.specs.declared.refusals.Place.{Place}
use Rattle.sb_base.specs.declared.tokens.Token.{Token}
use Rattle.sb_parse.specs.Parser.{Parser, at_next, never, ◌>>=◌, pure, token, taken, choose, guard, refuse, looped}
use Rattle.sb_parse.specs.Lawful.{Lawful, OnHead, Follows, Joined, IsValue, IsEmpty, Opened, Closed, Mapped, Unbarred, Either, Turns, over, turn}
use Rattle.sb_parse.proofs.Joining.{from_there, via, one_value, map_of}
use Rattle.sb_parse.proofs.Heads.{opened, opened_heads, at_head, head_of_append, guarded, either_of, choice_of}
use Rattle.sb_sign.specs.declared.sign.Mark.{Mark}
use Rattle.sb_sign.specs.declared.sign.Mark.TheVariants as mark
use Rattle.sb_tree.specs.Plain.{decl_list}
use Rattle.sb_sign.specs.Signs as sign
use Rattle.sb_tree.specs.Trees.{OptionalExpr, depth_of_optional_expr, depth_of_decls}
use Rattle.sb_expr.specs.Expression.{IsSize}
use Rattle.sb_lexicon.specs.Lexicon.{Lexicon, is_mark, name_of, is_type_name}
use Rattle.sb_operand.specs.Pieces.{Piece, Constant, Pointed, Arrayed, Called, Grouped, points}
use Rattle.sb_lexicon.specs.Tokens as expr
use Rattle.sb_operand.specs.Readers.{begins_abstract}
use Rattle.sb_lexicon.specs.Tokens.{unexpected, too_deep, is_zero, is_star, is_open, is_close, is_open_bracket, is_close_bracket}
use Rattle.sb_parse.proofs.Descending.{descent_from, descent_step, descent_bottom}
use Rattle.sb_lexicon.proofs.Lexemes.{mark_is, mark_alone, close_token, close_token_is}
use Rattle.sb_operand.proofs.Putting.{InnerFits}
use Rattle.sb_parse.proofs.Ways.{first_fails, second_fails, or_false, and_first, and_second, goes_on_where, following_where, perhaps_there, choice_else, Refuses, one_refuses, both_refuse, only_else, where_begun, closing, turns_law, turned_once_more}
use Rattle.sb_sal.specs.Spellings.{arguments_in, begins_note, is_listed, word_of}
use Rattle.sb_specifier.specs.Specified.{reading, is_function, is_bare}
use Rattle.sb_specifier.specs.Declaration.{IsDeclarator, is_direct, is_pointer, IsDirect, is_name, is_nameless, is_in_parentheses, is_array, is_outermost, is_function_of, BeginsDeclarator, has_name, may_have_none, AreSizeWords, no_static, static_first, static_last, IsSizeOf, a_fixed, a_free}
use Rattle.sb_specifier.specs.Readers as reader
use Rattle.sb_specifier.specs.Readers.{Declarator, Declarations, Parts, with_pieces, name_at, begins_parameter}
use Rattle.sb_declarator.specs.Readers.{pointed, inside, begins_inner, in_parentheses, name_or_none, first, suffixed, direct, declarator_at, declarators}
use Rattle.sb_specifier.proofs.laws.More.{is_suffix, more_pieces, more_declarator, FitsDeclarator, ParametersLaws}
use Rattle.sb_derivation.proofs.laws.Fresh.{fresh_token, fresh_is_name, fresh_is_free, fresh_no_note}
use Rattle.sb_derivation.proofs.laws.Beginnings.{is_nothing_by, is_nothing, begins_direct, begins_any, Empty, Begins, Starts, direct_begins, declarator_begins, head_fails, mark_no_type_name, mark_no_note, mark_is_no_name, no_more_at_close}
use Rattle.sb_parse.proofs.Choices.{unless, Allowed, only_if}
use Rattle.sb_declarator.proofs.laws.Tokens.{are_qualifiers, has_room, from_qualifiers, are_words, from_words}
use Rattle.sb_declarator.proofs.laws.Sizes.{ArrayedText, array_on, ArrayText, array_head}
use Rattle.sb_declarator.proofs.laws.Pointers.{some_room, pointed_count, pointed_room, StarText, star_head}
use Rattle.sb_declarator.proofs.laws.Calls.{function_on, CalledText, called_head}

-- ---- one declarator, with room for so many pieces

module _ (texts : List (List ℕ)) (types : List Name) (functions may_lack : Bool) (not_both : (functions && may_lack) ≡ false) (below : ℕ) (part : ℕ → Parts)
    (P : functions ≡ true → ParametersLaws texts below part) (room : ℕ) (small : suc room ≤ below) (rest : ℕ → Parser Token Declarator)
    (R : (k : ℕ) → suc k ≤ room → Lawful (FitsDeclarator texts types functions may_lack below (room - suc k)) (more_declarator (reading texts types)) (rest k)) where
  abbrev w : Lexicon
  w = reading texts types

  abbrev Fits : ℕ → List Token → Declarator → Type 0
  Fits = FitsDeclarator texts types functions may_lack below

  not_zero : (n : ℕ) → 1 ≤ n → is_zero n ≡ false
  not_zero zero le = absurd (omega arith)
  not_zero (suc n) le = refl

  -- ---- a pointer

  abbrev PointedText : List Token → Declarator → Type 0
  PointedText = Unbarred (is_zero room) (StarText texts types functions may_lack below part room rest)

  pointed_head : OnHead (is_star w) PointedText (more_declarator w) (guard (is_zero room) too_deep (pointed w functions may_lack below part room rest))
  pointed_head = guarded (is_zero room) too_deep (star_head texts types functions may_lack below part room rest R)

  -- ---- parentheses

  abbrev grouping : Token → Declarator → Declarator
  grouping o d = with_pieces (Grouped o.place ∷ d.pieces) d

  abbrev FitsInside : Bool → List Token → Declarator → Type 0
  FitsInside lacks ts d = Fits (room - 1) ts d × BeginsDeclarator w lacks ts

  abbrev InsideText : Bool → Token → List Token → Declarator → Type 0
  InsideText lacks o = Mapped (grouping o) (Closed (is_close w) (FitsInside lacks))

  abbrev AnyInside : Token → List Token → Declarator → Type 0
  AnyInside o = Mapped (grouping o) (Closed (is_close w) (Fits (room - 1)))

  any_inside : is_zero room ≡ false → (o : Token) → Lawful (AnyInside o) (λ _. never) (inside w functions may_lack below part room rest o)
  unfolding inside
  any_inside some o = closing unexpected (is_close w) close_token (close_token_is w) (R 0 (some_room room some)) (no_more_at_close w) (grouping o)

  abbrev inner_begins : Token → Bool
  inner_begins = begins_inner w functions may_lack below part room rest

  no_note_no_annotation : (t : Token) → begins_note w t ≡ false → is_listed w t ≡ false
  no_note_no_annotation t h = ap (λ b. is_some (if b then arguments_in (word_of w.texts t) else None)) h

  -- what begins a declarator without a name is no type and no listed annotation
  inner_free : (t : Token) → inner_begins t ≡ true → (is_type_name w t ≡ false) × (is_listed w t ≡ false)
  inner_free t h = by_star (is_star w t) refl h
    where
      marked : (m : Mark) → is_mark w m t ≡ true → (is_type_name w t ≡ false) × (is_listed w t ≡ false)
      marked m k = (mark_no_type_name w m t k, no_note_no_annotation t (mark_no_note w m t k))

      by_name : (b c d : Bool) → (b && not (c || d)) ≡ true → (c ≡ false) × (d ≡ false)
      by_name true true d e = absurd (cc e)
      by_name true false true e = absurd (cc e)
      by_name true false false e = (refl, refl)
      by_name false c d e = absurd (cc e)

      by_bracket : (b : Bool) → is_open_bracket w t ≡ b → (b || (reader.is_name w t && not (is_type_name w t || is_listed w t))) ≡ true → (is_type_name w t ≡ false) × (is_listed w t ≡ false)
      by_bracket true k e = marked mark.OpenBracket k
      by_bracket false k e = by_name (reader.is_name w t) (is_type_name w t) (is_listed w t) e

      by_open : (b : Bool) → is_open w t ≡ b → ((b || is_open_bracket w t) || (reader.is_name w t && not (is_type_name w t || is_listed w t))) ≡ true → (is_type_name w t ≡ false) × (is_listed w t ≡ false)
      by_open true k e = marked mark.OpenParenthesis k
      by_open false k e = by_bracket (is_open_bracket w t) refl e

      by_star : (b : Bool) → is_star w t ≡ b → ((b || (is_open w t || is_open_bracket w t)) || (reader.is_name w t && not (is_type_name w t || is_listed w t))) ≡ true
          → (is_type_name w t ≡ false) × (is_listed w t ≡ false)
      by_star true k e = marked mark.Star k
      by_star false k e = by_open (is_open w t) refl e

  free_inner : (t : Token) → begins_any w t ≡ true → is_type_name w t ≡ false → is_listed w t ≡ false → inner_begins t ≡ true
  free_inner t h free plain = by_test (begins_abstract w t) (reader.is_name w t) (is_type_name w t) (is_listed w t) h free plain
    where
      by_test : (a b c d : Bool) → (a || b) ≡ true → c ≡ false → d ≡ false → (a || (b && not (c || d))) ≡ true
      by_test true b c d e f g = refl
      by_test false true true d e f g = absurd (cc f)
      by_test false true false true e f g = absurd (cc g)
      by_test false true false false e f g = refl
      by_test false false c d e f g = absurd (cc e)

  not_none : (front : List Token) (c : Token) → [] ≡ front ++ (c ∷ []) → ⊥
  not_none [] c e = cc e
  not_none (t ∷ front) c e = cc e

  close_not_inner : (t : Token) → is_close w t ≡ true → inner_begins t ≡ false
  close_not_inner t h =
      let off : (n : Mark) → sign.is_same_mark n mark.CloseParenthesis ≡ false → is_mark w n t ≡ false = λ n apart. mark_alone w mark.CloseParenthesis n t (mark_is w mark.CloseParenthesis t h) apart in
      ap (λ b. (b || (is_open w t || is_open_bracket w t)) || (reader.is_name w t && not (is_type_name w t || is_listed w t))) (off mark.Star refl)
      ∙ ap (λ b. (b || is_open_bracket w t) || (reader.is_name w t && not (is_type_name w t || is_listed w t))) (off mark.OpenParenthesis refl)
      ∙ ap (λ b. b || (reader.is_name w t && not (is_type_name w t || is_listed w t))) (off mark.OpenBracket refl) ∙ ap (λ b. b && not (is_type_name w t || is_listed w t)) (mark_is_no_name w mark.CloseParenthesis t h)

  inside_head : is_zero room ≡ false → (o : Token) → OnHead inner_begins (InsideText true o) (λ _. never) (inside w functions may_lack below part room rest o)
  inside_head some o = where_begun (any_inside some o) inner_begins (InsideText true o) to from own heads
    where
      to : (ts : List Token) (e : Declarator) → AnyInside o ts e → at_next inner_begins ts ≡ true → InsideText true o ts e
      to ts e m h = record { value = m.value; is = record { front = m.is.front; closing = m.is.closing; split = m.is.split; is = (m.is.is, begins m.is.front m.is.split); passes = m.is.passes }; same = m.same }
        where
          begins : (front : List Token) → ts ≡ front ++ (m.is.closing ∷ []) → BeginsDeclarator w true front
          begins [] split = absurd (let both : true ≡ false = sym h ∙ ap (at_next inner_begins) split ∙ close_not_inner m.is.closing m.is.passes in cc both)
          begins (t ∷ front) split = let free = inner_free t (sym (ap (at_next inner_begins) split) ∙ h) in may_have_none t front free.0 free.1

      from : (ts : List Token) (e : Declarator) → InsideText true o ts e → AnyInside o ts e
      from ts e m = record { value = m.value; is = record { front = m.is.front; closing = m.is.closing; split = m.is.split; is = m.is.is.0; passes = m.is.passes }; same = m.same }

      own : (ts : List Token) (e : Declarator) (later : List Token) → AnyInside o ts e → at_next inner_begins (ts ++ later) ≡ true → at_next inner_begins ts ≡ true
      own [] e later m h = absurd (not_none m.is.front m.is.closing m.is.split)
      own (t ∷ ts) e later m h = h

      heads : (ts : List Token) (e : Declarator) → InsideText true o ts e → at_next inner_begins ts ≡ true
      heads ts e m = ap (at_next inner_begins) m.is.split ∙ by_front m.is.front m.is.is.1 m.is.is.0.is
        where
          by_front : (front : List Token) → BeginsDeclarator w true front → IsDeclarator texts types functions may_lack front m.value → at_next inner_begins (front ++ (m.is.closing ∷ [])) ≡ true
          by_front _ (may_have_none t front free plain) is = by_case (declarator_begins texts types functions may_lack (t ∷ front) m.value is)
            where
              by_case : Empty (t ∷ front) m.value ⊎ Starts w (t ∷ front) m.value → inner_begins t ≡ true
              by_case (inl none) = let no : t ∷ front ≡ [] = none.no_token in absurd (cc no)
              by_case (inr s) = free_inner t s.head free plain

  -- a name that is no type
  abbrev free_name : Token
  free_name = fresh_token types

  abbrev so_named : Declarator
  so_named = record { pieces = []; name = Some (free_name.text, free_name.place); inner = types }

  inside_example : (o : Token) → InsideText true o (free_name ∷ (close_token ∷ [])) (grouping o so_named)
  inside_example o =
      let none : 0 ≤ room - 1 = omega arith in
      record {
        value = so_named;
        is = record {
          front = free_name ∷ [];
          closing = close_token;
          split = refl;
          is = (
            record { is = is_direct types functions may_lack (free_name ∷ []) so_named (is_name types functions may_lack free_name free_name.text (fresh_is_name w types)); count = none; sizes = tt },
            may_have_none free_name [] (fresh_is_free w) (no_note_no_annotation free_name (fresh_no_note w)),
          );
          passes = close_token_is w;
        };
        same = refl;
      }

  abbrev inner_reader : Bool → Token → Parser Token Declarator
  inner_reader lacks o =
      if lacks then choose inner_begins (inside w functions may_lack below part room rest o) (choose (λ t. is_close w t || begins_parameter w t) (refuse expr.function_pointer) (refuse unexpected))
      else inside w functions may_lack below part room rest o

  inner_law : is_zero room ≡ false → (lacks : Bool) (o : Token) → Lawful (InsideText lacks o) (λ _. never) (inner_reader lacks o)
  inner_law some true o =
      only_else (choose (λ t. is_close w t || begins_parameter w t) (refuse expr.function_pointer) (refuse unexpected)) (inside_head some o)
      (λ ts. both_refuse (λ t. is_close w t || begins_parameter w t) (refuse expr.function_pointer) (refuse unexpected) ts (one_refuses expr.function_pointer ts) (one_refuses unexpected ts))
      (free_name ∷ (close_token ∷ [])) (grouping o so_named) (inside_example o)
  inner_law some false o = via (any_inside some o) to from (inside w functions may_lack below part room rest o) (λ ts. refl)
    where
      to : (ts : List Token) (e : Declarator) → AnyInside o ts e → InsideText false o ts e
      to ts e m = record { value = m.value; is = record { front = m.is.front; closing = m.is.closing; split = m.is.split; is = (m.is.is, has_name m.is.front); passes = m.is.passes }; same = m.same }

      from : (ts : List Token) (e : Declarator) → InsideText false o ts e → AnyInside o ts e
      from ts e m = record { value = m.value; is = record { front = m.is.front; closing = m.is.closing; split = m.is.split; is = m.is.is.0; passes = m.is.passes }; same = m.same }

  -- ---- the base: a declarator in parentheses, a name, or nothing

  -- behind nothing a name or a parenthesis would be it
  abbrev more_base : Declarator → Token → Bool
  more_base d t = is_nothing d && (reader.is_name w t || is_open w t)

  abbrev GroupText : List Token → Declarator → Type 0
  GroupText = Opened (is_open w) (InsideText may_lack)

  grouped_some : (o : Token) (d : Declarator) → is_nothing (grouping o d) ≡ false
  grouped_some o d = by_name d.name
    where
      by_name : (n : Option (Name × Place)) → is_nothing_by n (Grouped o.place ∷ d.pieces) ≡ false
      by_name (Some n) = refl
      by_name None = refl

  group_head : is_zero room ≡ false → OnHead (is_open w) GroupText more_base (in_parentheses w functions may_lack below part room rest)
  unfolding in_parentheses
  group_head some = at_head (is_open w) (λ t h. goes_on_where (law t h) more_base (λ ts d o u. ap (λ b. b && (reader.is_name w u || is_open w u)) (ap is_nothing o.is.same ∙ grouped_some o.opening o.is.value))) opened_heads
    where
      law : (t : Token) → is_open w t ≡ true → Lawful GroupText (λ _. never) (token unexpected (is_open w) >>= inner_reader may_lack)
      law t h = opened {Is = InsideText may_lack} unexpected (is_open w) t h (λ o passes. inner_law some may_lack o)

  abbrev ParenText : List Token → Declarator → Type 0
  ParenText = Unbarred (is_zero room) GroupText

  paren_head : OnHead (is_open w) ParenText more_base (guard (is_zero room) too_deep (in_parentheses w functions may_lack below part room rest))
  paren_head = guarded (is_zero room) too_deep group_head

  abbrev with_name : Name × Place → Declarator
  with_name n = record { pieces = []; name = Some n; inner = types }

  abbrev no_name : Declarator
  no_name = record { pieces = []; name = None; inner = types }

  abbrev NamedText : List Token → Declarator → Type 0
  NamedText = Mapped with_name (IsValue (name_at w))

  abbrev NameText : Bool → List Token → Declarator → Type 0
  NameText true = Either NamedText (IsEmpty no_name)
  NameText false = NamedText

  named_law : (t : Token) (v : Name × Place) → name_at w t ≡ Some v → Lawful NamedText more_base (taken unexpected (name_at w) >>= (λ n. pure (with_name n)))
  named_law t v h = map_of (one_value unexpected (name_at w) t v h) with_name more_base (λ a u. refl)

  name_gives : (t : Token) → reader.is_name w t ≡ true → (v : Name × Place) × (name_at w t ≡ Some v)
  name_gives t h = by_value (name_of w t) refl
    where
      by_value : (o : Option Name) → name_of w t ≡ o → (v : Name × Place) × (name_at w t ≡ Some v)
      by_value (Some n) k = ((n, t.place), ap (λ o. option_map_or (λ n. Some (n, t.place)) o None) k)
      by_value None k = absurd (let both : false ≡ true = sym (ap is_some k) ∙ h in cc both)

  -- the name that is given
  given_name : (t : Token) (v : Name × Place) → name_at w t ≡ Some v → (name_of w t ≡ Some v.0) × (v.1 ≡ t.place)
  given_name t v h = by_value (name_of w t) refl h
    where
      by_value : (o : Option Name) → name_of w t ≡ o → option_map_or {U = Option (Name × Place)} (λ n. Some (n, t.place)) o None ≡ Some v → (name_of w t ≡ Some v.0) × (v.1 ≡ t.place)
      by_value None k e = absurd (cc e)
      by_value (Some n) k e = let same : Path (Name × Place) (n, t.place) v = cc e in (k ∙ ap (λ x. Some x.0) same, ap (λ x. x.1) (sym same))

  named_head : OnHead (reader.is_name w) NamedText more_base (taken unexpected (name_at w) >>= (λ n. pure (with_name n)))
  named_head = at_head (reader.is_name w) (λ t h. let v = name_gives t h in named_law t v.0 v.1) heads
    where
      heads : (ts : List Token) (d : Declarator) → NamedText ts d → at_next (reader.is_name w) ts ≡ true
      heads ts d m = ap (at_next (reader.is_name w)) m.is.alone ∙ ap is_some (given_name m.is.token m.value m.is.is).0

  abbrev name_reader : Bool → Parser Token Declarator
  name_reader lacks = if lacks then choose (reader.is_name w) (taken unexpected (name_at w) >>= (λ n. pure (with_name n))) (pure no_name) else taken unexpected (name_at w) >>= (λ n. pure (with_name n))

  name_not_open : (t : Token) (v : Name × Place) → name_at w t ≡ Some v → is_open w t ≡ false
  name_not_open t v h = by_test (is_open w t) refl
    where
      by_test : (b : Bool) → is_open w t ≡ b → b ≡ false
      by_test false k = refl
      by_test true k = absurd (let both : false ≡ true = sym (mark_is_no_name w mark.OpenParenthesis t k) ∙ ap is_some (given_name t v h).0 in cc both)

  abbrev BaseText : List Token → Declarator → Type 0
  BaseText = Either ParenText (NameText may_lack)

  base_by : (lacks : Bool) → Lawful (Either ParenText (NameText lacks)) more_base (choose (is_open w) (guard (is_zero room) too_deep (in_parentheses w functions may_lack below part room rest)) (name_reader lacks))
  base_by false = choice_of paren_head (named_law free_name (free_name.text, free_name.place) (ap (λ o. option_map_or (λ n. Some (n, free_name.place)) o None) (fresh_is_name w types))) apart
    where
      apart : (ts : List Token) (d : Declarator) (later : List Token) → NamedText ts d → at_next (more_base d) later ≡ false → at_next (is_open w) (ts ++ later) ≡ false
      apart ts d later m h = ap (λ l. at_next (is_open w) (l ++ later)) m.is.alone ∙ name_not_open m.is.token m.value m.is.is
  base_by true = choice_else paren_head (perhaps_there no_name named_head (λ t. refl)) apart
    where
      not_open : (later : List Token) → at_next (more_base no_name) later ≡ false → at_next (is_open w) later ≡ false
      not_open [] h = refl
      not_open (u ∷ later) h = second_fails (reader.is_name w u) (is_open w u) h

      apart : (ts : List Token) (d : Declarator) (later : List Token) → Either NamedText (IsEmpty no_name) ts d → at_next (more_base d) later ≡ false → at_next (is_open w) (ts ++ later) ≡ false
      apart ts d later (inl m) h = ap (λ l. at_next (is_open w) (l ++ later)) m.is.alone ∙ name_not_open m.is.token m.value m.is.is
      apart ts d later (inr e) h = ap (λ l. at_next (is_open w) (l ++ later)) e.none ∙ not_open later (ap (λ z. at_next (more_base z) later) (sym e.same) ∙ h)

  base_law : Lawful BaseText more_base (first w functions may_lack below part room rest)
  unfolding first name_or_none
  base_law = base_by may_lack

  -- ---- arrays and functions

  abbrev SuffixText : Declarator → List Token → Declarator → Type 0
  SuffixText d =
      Either (Unbarred (is_function d.pieces) (ArrayText texts types functions may_lack below part room rest d)) (Allowed (is_bare d.pieces && functions) (CalledText texts types functions may_lack below part room rest d))

  open_no_bracket : (t : Token) → is_open w t ≡ true → is_open_bracket w t ≡ false
  open_no_bracket t h = mark_alone w mark.OpenParenthesis mark.OpenBracket t (mark_is w mark.OpenParenthesis t h) refl

  suffix_head : (d : Declarator) → OnHead (is_suffix w) (SuffixText d) (λ _. never) (suffixed w functions may_lack below part room rest d)
  unfolding suffixed
  suffix_head d =
      either_of (unless (is_function d.pieces) unexpected (λ no. array_head texts types functions may_lack below part room rest small d))
      (only_if (is_bare d.pieces && functions) (if is_bare d.pieces || points d.pieces then refuse expr.function_pointer else refuse unexpected)
      (λ may. called_head texts types functions may_lack below part room rest (P (and_second (is_bare d.pieces) functions may)) d) (refuses (is_bare d.pieces || points d.pieces))) open_no_bracket
    where
      refuses : (b : Bool) (ts : List Token) → Refuses {A = Declarator} (if b then refuse expr.function_pointer else refuse unexpected) ts
      refuses true ts = one_refuses expr.function_pointer ts
      refuses false ts = one_refuses unexpected ts

  some_by : (n : Option (Name × Place)) (p : Piece) (ps : List Piece) → is_nothing_by n (p ∷ ps) ≡ false
  some_by None p ps = refl
  some_by (Some n) p ps = refl

  array_some : (outermost : Bool) (n : ℕ) (d : Declarator) (o : Token) (ts : List Token) (e : Declarator) → ArrayedText texts types functions may_lack below part room rest outermost n (array_on texts types functions may_lack below part room rest d o) ts e
      → is_nothing e ≡ false
  array_some true n d o ts e j = ap is_nothing j.second.same ∙ some_by d.name (Arrayed j.second.value o.place) d.pieces
  array_some false n d o ts e m = ap is_nothing m.same ∙ some_by d.name (Arrayed m.value o.place) d.pieces

  suffix_some : (d : Declarator) (ts : List Token) (e : Declarator) → SuffixText d ts e → is_nothing e ≡ false
  suffix_some d ts e (inl u) = array_some (may_lack && is_bare d.pieces) (length d.pieces) d u.is.is.opening u.is.is.rest e u.is.is.is
  suffix_some d ts e (inr a) = ap is_nothing a.1.is.is.same ∙ some_by d.name (Called (decl_list a.1.is.is.value.list) a.1.is.opening.place) d.pieces

  abbrev SuffixTexts : Declarator → List Token → Declarator → Type 0
  SuffixTexts = Turns SuffixText

  -- behind a suffix there is something
  turned : (d : Declarator) (ts : List Token) (e : Declarator) → SuffixTexts d ts e → ((ts ≡ []) × (e ≡ d)) ⊎ (is_nothing e ≡ false)
  turned _ _ _ (over d) = inl (refl, refl)
  turned _ _ _ (turn d m e xs ys one later) = by_case (turned m ys e later)
    where
      by_case : ((ys ≡ []) × (e ≡ m)) ⊎ (is_nothing e ≡ false) → ((xs ++ ys ≡ []) × (e ≡ d)) ⊎ (is_nothing e ≡ false)
      by_case (inl h) = inr (ap is_nothing h.1 ∙ suffix_some d xs m one)
      by_case (inr h) = inr h

  abbrev more_after : Declarator → Token → Bool
  more_after d t = is_suffix w t || more_base d t

  after_base : (d : Declarator) → Follows (more_base d) (SuffixTexts d) more_after (looped (is_suffix w) (suffixed w functions may_lack below part room rest) d)
  after_base d = following_where (turns_law suffix_head d) (more_base d) more_after (λ ts e is u h. first_fails (is_suffix w u) (more_base e u) h) enough
    where
      nothing_more : (e : Declarator) (later : List Token) → is_nothing e ≡ false → at_next (is_suffix w) later ≡ false → at_next (more_after e) later ≡ false
      nothing_more e [] some h = refl
      nothing_more e (u ∷ later) some h = ap (λ b. b || more_base e u) h ∙ ap (λ b. b && (reader.is_name w u || is_open w u)) some

      both_off : (e : Declarator) (later : List Token) → at_next (more_base e) later ≡ false → at_next (is_suffix w) later ≡ false → at_next (more_after e) later ≡ false
      both_off e [] off h = refl
      both_off e (u ∷ later) off h = ap (λ b. b || more_base e u) h ∙ off

      enough : (ts : List Token) (e : Declarator) (later : List Token) → SuffixTexts d ts e → at_next (more_base d) (ts ++ later) ≡ false → at_next (is_suffix w) later ≡ false → at_next (more_after e) later ≡ false
      enough ts e later is off h = by_case (turned d ts e is)
        where
          by_case : ((ts ≡ []) × (e ≡ d)) ⊎ (is_nothing e ≡ false) → at_next (more_after e) later ≡ false
          by_case (inl k) = both_off e later (ap (λ z. at_next (more_base z) later) k.1 ∙ sym (ap (λ l. at_next (more_base d) (l ++ later)) k.0) ∙ off) h
          by_case (inr some) = nothing_more e later some h

  abbrev DirectText : List Token → Declarator → Type 0
  DirectText = Joined BaseText SuffixTexts

  -- nothing stands only where a name may be left out
  nothing_lacks : (lacks : Bool) (ts : List Token) (d : Declarator) → Either ParenText (NameText lacks) ts d → is_nothing d ≡ true → lacks ≡ true
  nothing_lacks true ts d is h = refl
  nothing_lacks false ts d (inl u) h = absurd (let both : false ≡ true = sym (ap is_nothing u.is.is.same ∙ grouped_some u.is.opening u.is.is.value) ∙ h in cc both)
  nothing_lacks false ts d (inr m) h = absurd (let both : false ≡ true = sym (ap is_nothing m.same) ∙ h in cc both)

  bracket_no_base : (d : Declarator) (t : Token) → is_open_bracket w t ≡ true → more_base d t ≡ false
  bracket_no_base d t h = by_test (is_nothing d)
    where
      by_test : (b : Bool) → (b && (reader.is_name w t || is_open w t)) ≡ false
      by_test false = refl
      by_test true = ap (λ b. b || is_open w t) (mark_is_no_name w mark.OpenBracket t h) ∙ mark_alone w mark.OpenBracket mark.OpenParenthesis t (mark_is w mark.OpenBracket t h) refl

  base_apart : (xs : List Token) (d : Declarator) (ys : List Token) (e : Declarator) (later : List Token) → BaseText xs d → SuffixTexts d ys e → at_next (more_after e) later ≡ false → at_next (more_base d) (ys ++ later) ≡ false
  base_apart xs _ _ _ later base (over d) h = off later h
    where
      off : (later : List Token) → at_next (more_after d) later ≡ false → at_next (more_base d) later ≡ false
      off [] k = refl
      off (u ∷ later) k = second_fails (is_suffix w u) (more_base d u) k
  base_apart xs _ _ _ later base (turn d m e us vs one rest_of) h = by_nothing (is_nothing d) refl
    where
      some_off : (ts : List Token) → is_nothing d ≡ false → at_next (more_base d) ts ≡ false
      some_off [] k = refl
      some_off (t ∷ ts) k = ap (λ b. b && (reader.is_name w t || is_open w t)) k

      by_suffix : SuffixText d us m → is_nothing d ≡ true → at_next (more_base d) ((us ++ vs) ++ later) ≡ false
      by_suffix (inl u) k = ap (λ l. at_next (more_base d) ((l ++ vs) ++ later)) u.is.is.split ∙ bracket_no_base d u.is.is.opening u.is.is.passes
      by_suffix (inr a) k =
          let may : functions ≡ true = and_second (is_bare d.pieces) functions a.0 in
          let lacks : may_lack ≡ true = nothing_lacks may_lack xs d base k in
          absurd (let both : true ≡ false = sym (ap (λ b. b && may_lack) may ∙ lacks) ∙ not_both in cc both)

      by_nothing : (b : Bool) → is_nothing d ≡ b → at_next (more_base d) ((us ++ vs) ++ later) ≡ false
      by_nothing true k = by_suffix one k
      by_nothing false k = some_off ((us ++ vs) ++ later) k

  -- ---- the relation of what stands behind the pointers

  record FitsDirect (ts : List Token) (d : Declarator) : Type 0 where
    is : IsDirect texts types functions may_lack ts d
    count : length d.pieces ≤ room
    sizes : InnerFits (below - 1) d.pieces

  paren_fits : (ts : List Token) (d : Declarator) → ParenText ts d → FitsDirect ts d
  paren_fits ts d u =
      let o = u.is in
      let m = u.is.is in
      let some : 1 ≤ room = some_room room u.open_way in
      let few : length m.value.pieces ≤ room - 1 = m.is.is.0.count in
      let count : suc (length m.value.pieces) ≤ room = omega arith in
      let none : 0 ≤ (below - 1) - length m.value.pieces = omega arith in
      subst₂ FitsDirect (sym (o.split ∙ ap (λ l. o.opening ∷ l) m.is.split)) (sym m.same) (record {
        is = is_in_parentheses types functions may_lack o.opening m.is.closing m.is.front m.value o.passes m.is.passes m.is.is.0.is m.is.is.1;
        count = count;
        sizes = (none, m.is.is.0.sizes);
      })

  name_fits : (ts : List Token) (d : Declarator) → NamedText ts d → FitsDirect ts d
  name_fits ts d m =
      let given = given_name m.is.token m.value m.is.is in
      let none : 0 ≤ room = omega arith in
      let value : (m.value.0, m.is.token.place) ≡ m.value = ap (λ z. (m.value.0, z)) (sym given.1) in
      subst₂ FitsDirect (sym m.is.alone) (ap with_name value ∙ sym m.same) (record { is = is_name types functions may_lack m.is.token m.value.0 given.0; count = none; sizes = tt })

  base_fits : (lacks : Bool) → may_lack ≡ lacks → (ts : List Token) (d : Declarator) → Either ParenText (NameText lacks) ts d → FitsDirect ts d
  base_fits lacks h ts d (inl u) = paren_fits ts d u
  base_fits false h ts d (inr m) = name_fits ts d m
  base_fits true h ts d (inr (inl m)) = name_fits ts d m
  base_fits true h ts d (inr (inr e)) =
      let none : 0 ≤ room = omega arith in
      subst₂ FitsDirect (sym e.none) (sym e.same) (record { is = is_nameless types functions may_lack h; count = none; sizes = tt })

  bare_no_function : (ps : List Piece) → is_bare ps ≡ true → is_function ps ≡ false
  bare_no_function [] h = refl
  bare_no_function (Grouped place ∷ ps) h = bare_no_function ps h
  bare_no_function (Constant ∷ ps) h = refl
  bare_no_function (Pointed place ∷ ps) h = refl
  bare_no_function (Arrayed size place ∷ ps) h = refl
  bare_no_function (Called params place ∷ ps) h = absurd (cc h)

  no_words_free : (ts : List Token) (fixed : Bool) → AreSizeWords w ts fixed → ts ≡ [] → fixed ≡ false
  no_words_free _ _ (no_static ts c are) e = refl
  no_words_free _ _ (static_first t ts c is are) e = absurd (cc e)
  no_words_free _ _ (static_last t ts c are is) e = absurd (not_none ts t (sym e))

  free_size : (fixed : Bool) (ts : List Token) (size : OptionalExpr) → IsSizeOf w fixed ts size → fixed ≡ false → IsSize w ts size
  free_size _ _ _ (a_free ts size is) h = is
  free_size _ _ _ (a_fixed ts e is) h = absurd (cc h)

  abbrev Arrayed_as : Bool → ℕ → (OptionalExpr → Declarator) → List Token → Declarator → Type 0
  Arrayed_as = ArrayedText texts types functions may_lack below part room rest

  inner_room : (n : ℕ) (k : ℕ) → k ≤ below - suc n → k ≤ (below - 1) - n
  inner_room n k le = omega arith

  array_fits : (xs : List Token) (d : Declarator) (o : Token) (ts : List Token) (e : Declarator) → FitsDirect xs d → is_open_bracket w o ≡ true → is_function d.pieces ≡ false → suc (length d.pieces) ≤ room
      → (outermost : Bool) → (may_lack && is_bare d.pieces) ≡ outermost → Arrayed_as outermost (length d.pieces) (array_on texts types functions may_lack below part room rest d o) ts e → FitsDirect (xs ++ (o ∷ ts)) e
  array_fits xs d o ts e f opens no_function few false h m =
      subst₂ FitsDirect (sym (ap (λ l. xs ++ (o ∷ l)) m.is.split)) (sym m.same) (record {
        is = is_array types functions may_lack o m.is.closing xs m.is.front m.value d opens m.is.passes no_function f.is m.is.is.0;
        count = few;
        sizes = (inner_room (length d.pieces) (depth_of_optional_expr m.value) m.is.is.1, f.sizes);
      })
  array_fits xs d o ts e f opens no_function few true h j = by_words j.before refl
    where
      are : AreSizeWords w j.before j.value.1
      are = are_words w functions may_lack below part room rest j.value j.before j.first

      sizes : InnerFits (below - 1) (Arrayed j.second.value o.place ∷ d.pieces)
      sizes = (inner_room (length d.pieces) (depth_of_optional_expr j.second.value) j.second.is.is.1, f.sizes)

      by_words : (before : List Token) → j.before ≡ before → FitsDirect (xs ++ (o ∷ ts)) e
      by_words [] none =
          let free : IsSize w j.second.is.front j.second.value = free_size j.value.1 j.second.is.front j.second.value j.second.is.is.0 (no_words_free j.before j.value.1 are none) in
          subst₂ FitsDirect (sym (ap (λ l. xs ++ (o ∷ l)) (j.split ∙ ap (λ l. l ++ j.after) none ∙ j.second.is.split))) (sym j.second.same) (record {
            is = is_array types functions may_lack o j.second.is.closing xs j.second.is.front j.second.value d opens j.second.is.passes no_function f.is free;
            count = few;
            sizes = sizes;
          })
      by_words (t ∷ before) some =
          let tokens : ts ≡ (j.before ++ j.second.is.front) ++ (j.second.is.closing ∷ []) = j.split ∙ ap (λ l. j.before ++ l) j.second.is.split ∙ sym (append_assoc j.before j.second.is.front (j.second.is.closing ∷ [])) in
          subst₂ FitsDirect (sym (ap (λ l. xs ++ (o ∷ l)) tokens)) (sym j.second.same) (record {
            is = is_outermost types functions may_lack o j.second.is.closing xs j.before j.second.is.front j.second.value d j.value.1 opens j.second.is.passes (and_first may_lack (is_bare d.pieces) h)
                (and_second may_lack (is_bare d.pieces) h) f.is are j.second.is.is.0 (λ none. let no : t ∷ before ≡ [] = sym some ∙ none in cc no);
            count = few;
            sizes = sizes;
          })

  function_is : (d : Declarator) (o : Token) (ps : Declarations) → is_bare d.pieces ≡ true
      → Path Declarator (record { pieces = Called (decl_list ps.list) o.place ∷ d.pieces; name = d.name; inner = ps.types }) (function_on texts types functions may_lack below part room rest d o ps)
  function_is d o ps bare = sym (ap (λ b. record { pieces = Called (decl_list ps.list) o.place ∷ d.pieces; name = d.name; inner = if b then ps.types else d.inner }) bare)

  suffix_fits : (xs : List Token) (d : Declarator) (ys : List Token) (e : Declarator) → FitsDirect xs d → SuffixText d ys e → FitsDirect (xs ++ ys) e
  suffix_fits xs d ys e f (inl u) =
      let few : suc (length d.pieces) ≤ room = ltb-false room (suc (length d.pieces)) u.is.open_way in
      subst (λ l. FitsDirect (xs ++ l) e) (sym u.is.is.split) (array_fits xs d u.is.is.opening u.is.is.rest e f u.is.is.passes u.open_way few (may_lack && is_bare d.pieces) refl u.is.is.is)
  suffix_fits xs d ys e f (inr a) =
      let o = a.1.is in
      let m = a.1.is.is in
      let bare : is_bare d.pieces ≡ true = and_first (is_bare d.pieces) functions a.0 in
      let few : suc (length d.pieces) ≤ room = ltb-false room (suc (length d.pieces)) a.1.open_way in
      subst₂ FitsDirect (sym (ap (λ l. xs ++ l) (o.split ∙ ap (λ l. o.opening ∷ l) m.is.split))) (function_is d o.opening m.value bare ∙ sym m.same) (record {
        is = is_function_of types functions may_lack o.opening m.is.closing xs m.is.front d m.value o.passes m.is.passes (and_second (is_bare d.pieces) functions a.0) bare f.is m.is.is.0;
        count = few;
        sizes = (inner_room (length d.pieces) (depth_of_decls (decl_list m.value.list)) m.is.is.1, f.sizes);
      })

  turns_fit : (xs : List Token) (d : Declarator) (ys : List Token) (e : Declarator) → FitsDirect xs d → SuffixTexts d ys e → FitsDirect (xs ++ ys) e
  turns_fit xs _ _ _ f (over d) = subst (λ l. FitsDirect l d) (sym (append-nil xs)) f
  turns_fit xs _ _ _ f (turn d m e us vs one later) = subst (λ l. FitsDirect l e) (append_assoc xs us vs) (turns_fit (xs ++ us) m vs e (suffix_fits xs d us m f one) later)

  to_direct : (ts : List Token) (d : Declarator) → DirectText ts d → FitsDirect ts d
  to_direct ts d j = subst (λ l. FitsDirect l d) (sym j.split) (turns_fit j.before j.value j.after d (base_fits may_lack refl j.before j.value j.first) j.second)

  name_text : (lacks : Bool) (t : Token) (n : Name) → name_of w t ≡ Some n → NameText lacks (t ∷ []) (with_name (n, t.place))
  name_text true t n h = inl (record { value = (n, t.place); is = record { token = t; alone = refl; is = ap (λ o. option_map_or (λ n. Some (n, t.place)) o None) h }; same = refl })
  name_text false t n h = record { value = (n, t.place); is = record { token = t; alone = refl; is = ap (λ o. option_map_or (λ n. Some (n, t.place)) o None) h }; same = refl }

  no_text : (lacks : Bool) → lacks ≡ true → NameText lacks [] no_name
  no_text true h = inr (record { none = refl; same = refl })
  no_text false h = absurd (cc h)

  array_text : (outermost : Bool) (n : ℕ) (f : OptionalExpr → Declarator) (c : Token) (ys : List Token) (size : OptionalExpr) → is_close_bracket w c ≡ true → IsSize w ys size → depth_of_optional_expr size ≤ below - suc n
      → Arrayed_as outermost n f (ys ++ (c ∷ [])) (f size)
  array_text true n f c ys size closes is deep = record {
    before = [];
    after = ys ++ (c ∷ []);
    value = (false, false);
    split = refl;
    first = over (false, false);
    second = record { value = size; is = record { front = ys; closing = c; split = refl; is = (a_free ys size is, deep); passes = closes }; same = refl };
  }
  array_text false n f c ys size closes is deep = record { value = size; is = record { front = ys; closing = c; split = refl; is = (is, deep); passes = closes }; same = refl }

  outermost_text : (outermost : Bool) → outermost ≡ true → (n : ℕ) (f : OptionalExpr → Declarator) (c : Token) (ys zs : List Token) (fixed : Bool) (size : OptionalExpr) → is_close_bracket w c ≡ true → AreSizeWords w ys fixed
      → IsSizeOf w fixed zs size → depth_of_optional_expr size ≤ below - suc n → Arrayed_as outermost n f ((ys ++ zs) ++ (c ∷ [])) (f size)
  outermost_text false h n f c ys zs fixed size closes are is deep = absurd (cc h)
  outermost_text true h n f c ys zs fixed size closes are is deep = let words = from_words w functions may_lack below part room rest fixed ys are in record {
    before = ys;
    after = zs ++ (c ∷ []);
    value = (words.0, fixed);
    split = append_assoc ys zs (c ∷ []);
    first = words.1;
    second = record { value = size; is = record { front = zs; closing = c; split = refl; is = (is, deep); passes = closes }; same = refl };
  }

  outer_room : (n : ℕ) (k : ℕ) → k ≤ (below - 1) - n → k ≤ below - suc n
  outer_room n k le = omega arith

  one_more_turn : (xs ys : List Token) (d e : Declarator) → DirectText xs d → SuffixText d ys e → DirectText (xs ++ ys) e
  one_more_turn xs ys d e j s = record {
    before = j.before;
    after = j.after ++ ys;
    value = j.value;
    split = ap (λ l. l ++ ys) j.split ∙ append_assoc j.before j.after ys;
    first = j.first;
    second = turned_once_more j.value d e j.after ys j.second s;
  }

  from_direct : (ts : List Token) (d : Declarator) → IsDirect texts types functions may_lack ts d → length d.pieces ≤ room → InnerFits (below - 1) d.pieces → DirectText ts d
  from_direct _ _ (is_name _ _ _ t n h) count sizes = record { before = t ∷ []; after = []; value = with_name (n, t.place); split = refl; first = inr (name_text may_lack t n h); second = over (with_name (n, t.place)) }
  from_direct _ _ (is_nameless _ _ _ h) count sizes = record { before = []; after = []; value = no_name; split = refl; first = inr (no_text may_lack h); second = over no_name }
  from_direct _ _ (is_in_parentheses _ _ _ o c xs d opens closes is begins) count sizes =
      let all : suc (length d.pieces) ≤ room = count in
      let few : length d.pieces ≤ room - 1 = omega arith in
      record {
        before = o ∷ (xs ++ (c ∷ []));
        after = [];
        value = grouping o d;
        split = sym (append-nil (o ∷ (xs ++ (c ∷ []))));
        first = inl (record {
          open_way = not_zero room (omega arith);
          is = record {
            opening = o;
            rest = xs ++ (c ∷ []);
            split = refl;
            passes = opens;
            is = record { value = d; is = record { front = xs; closing = c; split = refl; is = (record { is = is; count = few; sizes = sizes.1 }, begins); passes = closes }; same = refl };
          };
        });
        second = over (grouping o d);
      }
  from_direct _ _ (is_array _ _ _ o c xs ys size d opens closes no_function is fits) count sizes =
      let all : suc (length d.pieces) ≤ room = count in
      one_more_turn xs (o ∷ (ys ++ (c ∷ []))) d (array_on texts types functions may_lack below part room rest d o size) (from_direct xs d is (omega arith) sizes.1) (inl (record {
        open_way = no_function;
        is = record {
          open_way = le-ltb room (suc (length d.pieces)) all;
          is = record {
            opening = o;
            rest = ys ++ (c ∷ []);
            split = refl;
            passes = opens;
            is = array_text (may_lack && is_bare d.pieces) (length d.pieces) (array_on texts types functions may_lack below part room rest d o) c ys size closes fits (outer_room (length d.pieces) (depth_of_optional_expr size) sizes.0);
          };
        };
      }))
  from_direct _ _ (is_outermost _ _ _ o c xs ys zs size d fixed opens closes lacks bare is are fits some) count sizes =
      let all : suc (length d.pieces) ≤ room = count in
      one_more_turn xs (o ∷ ((ys ++ zs) ++ (c ∷ []))) d (array_on texts types functions may_lack below part room rest d o size) (from_direct xs d is (omega arith) sizes.1) (inl (record {
        open_way = bare_no_function d.pieces bare;
        is = record {
          open_way = le-ltb room (suc (length d.pieces)) all;
          is = record {
            opening = o;
            rest = (ys ++ zs) ++ (c ∷ []);
            split = refl;
            passes = opens;
            is = outermost_text (may_lack && is_bare d.pieces) (ap (λ b. b && is_bare d.pieces) lacks ∙ bare) (length d.pieces) (array_on texts types functions may_lack below part room rest d o) c ys zs fixed size closes are fits
                (outer_room (length d.pieces) (depth_of_optional_expr size) sizes.0);
          };
        };
      }))
  from_direct _ _ (is_function_of _ _ _ o c xs ys d ps opens closes may bare is are) count sizes =
      let all : suc (length d.pieces) ≤ room = count in
      let deep : depth_of_decls (decl_list ps.list) ≤ (below - 1) - length d.pieces = sizes.0 in
      subst (DirectText (xs ++ (o ∷ (ys ++ (c ∷ []))))) (sym (function_is d o ps bare))
      (one_more_turn xs (o ∷ (ys ++ (c ∷ []))) d (function_on texts types functions may_lack below part room rest d o ps) (from_direct xs d is (omega arith) sizes.1) (inr (
        (ap (λ b. b && functions) bare ∙ may),
        record {
          open_way = le-ltb room (suc (length d.pieces)) all;
          is = record {
            opening = o;
            rest = ys ++ (c ∷ []);
            split = refl;
            passes = opens;
            is = record { value = ps; is = record { front = ys; closing = c; split = refl; is = (are, outer_room (length d.pieces) (depth_of_decls (decl_list ps.list)) deep); passes = closes }; same = refl };
          };
        },
      )))

  direct_law : Lawful FitsDirect more_after (direct w functions may_lack below part room rest)
  unfolding direct
  direct_law =
      via (from_there {Second = SuffixTexts} {q = looped (is_suffix w) (suffixed w functions may_lack below part room rest)} base_law (λ xs d is. after_base d) base_apart) to_direct
      (λ ts d f. from_direct ts d f.is f.count f.sizes) (first w functions may_lack below part room rest >>= looped (is_suffix w) (suffixed w functions may_lack below part room rest)) (λ ts. refl)

  -- ---- all declarators

  -- by whether it is empty
  direct_more : (ts : List Token) (d : Declarator) → FitsDirect ts d → (t : Token) → ((ts ≡ []) × (more_declarator w d t ≡ ((begins_abstract w t || reader.is_name w t) || false)) × (more_after d t ≡ (is_suffix w t || (reader.is_name w t || is_open w t))))
      ⊎ (more_declarator w d t ≡ more_after d t)
  direct_more ts d f t = by_case (direct_begins texts types functions may_lack ts d f.is)
    where
      by_case : Empty ts d ⊎ Begins w ts d → ((ts ≡ []) × (more_declarator w d t ≡ ((begins_abstract w t || reader.is_name w t) || false)) × (more_after d t ≡ (is_suffix w t || (reader.is_name w t || is_open w t))))
          ⊎ (more_declarator w d t ≡ more_after d t)
      by_case (inl e) = inl (
        e.no_token,
        ap (λ n. more_pieces w n d.pieces t) e.no_name ∙ ap (λ ps. more_pieces w None ps t) e.no_piece,
        ap (λ n. is_suffix w t || (is_nothing_by n d.pieces && (reader.is_name w t || is_open w t))) e.no_name ∙ ap (λ ps. is_suffix w t || (is_nothing_by None ps && (reader.is_name w t || is_open w t))) e.no_piece,
      )
      by_case (inr b) = inr (b.more_is t ∙ sym (or_false (is_suffix w t)) ∙ sym (ap (λ z. is_suffix w t || (z && (reader.is_name w t || is_open w t))) b.some))

  without_star : (s o b n : Bool) → (((s || (o || b)) || n) || false) ≡ false → ((b || o) || (n || o)) ≡ false
  without_star true o b n h = absurd (cc h)
  without_star false true b n h = absurd (cc h)
  without_star false false true n h = absurd (cc h)
  without_star false false false true h = absurd (cc h)
  without_star false false false false h = refl

  with_star : (s o b n : Bool) → s ≡ false → ((b || o) || (n || o)) ≡ false → (((s || (o || b)) || n) || false) ≡ false
  with_star true o b n off h = absurd (cc off)
  with_star false o true n off h = absurd (cc h)
  with_star false true false n off h = absurd (cc h)
  with_star false false false true off h = absurd (cc h)
  with_star false false false false off h = refl

  star_fails : (s o b n : Bool) → (((s || (o || b)) || n) || false) ≡ false → s ≡ false
  star_fails true o b n h = absurd (cc h)
  star_fails false o b n h = refl

  direct_fewer : (ts : List Token) (d : Declarator) → FitsDirect ts d → (t : Token) → more_declarator w d t ≡ false → more_after d t ≡ false
  direct_fewer ts d f t h = by_case (direct_more ts d f t)
    where
      by_case : ((ts ≡ []) × (more_declarator w d t ≡ ((begins_abstract w t || reader.is_name w t) || false)) × (more_after d t ≡ (is_suffix w t || (reader.is_name w t || is_open w t)))) ⊎ (more_declarator w d t ≡ more_after d t)
          → more_after d t ≡ false
      by_case (inl e) = e.2 ∙ without_star (is_star w t) (is_open w t) (is_open_bracket w t) (reader.is_name w t) (sym e.1 ∙ h)
      by_case (inr e) = sym e ∙ h

  direct_enough : (ts : List Token) (d : Declarator) (later : List Token) → FitsDirect ts d → at_next (is_star w) (ts ++ later) ≡ false → at_next (more_after d) later ≡ false → at_next (more_declarator w d) later ≡ false
  direct_enough ts d [] f off h = refl
  direct_enough ts d (t ∷ later) f off h = by_case (direct_more ts d f t)
    where
      by_case : ((ts ≡ []) × (more_declarator w d t ≡ ((begins_abstract w t || reader.is_name w t) || false)) × (more_after d t ≡ (is_suffix w t || (reader.is_name w t || is_open w t)))) ⊎ (more_declarator w d t ≡ more_after d t)
          → more_declarator w d t ≡ false
      by_case (inl e) = e.1 ∙ with_star (is_star w t) (is_open w t) (is_open_bracket w t) (reader.is_name w t) (sym (ap (λ l. at_next (is_star w) (l ++ (t ∷ later))) e.0) ∙ off) (sym e.2 ∙ h)
      by_case (inr e) = e ∙ h

  no_star : (t : Token) → begins_direct w t ≡ true → is_star w t ≡ false
  no_star t h = by_test (is_star w t) refl
    where
      by_test : (b : Bool) → is_star w t ≡ b → b ≡ false
      by_test false k = refl
      by_test true k =
          let off : (n : Mark) → sign.is_same_mark n mark.Star ≡ false → is_mark w n t ≡ false = λ n apart. mark_alone w mark.Star n t (mark_is w mark.Star t k) apart in
          let none : begins_direct w t ≡ false =
          ap (λ b. (b || is_open w t) || reader.is_name w t) (off mark.OpenBracket refl) ∙ ap (λ b. b || reader.is_name w t) (off mark.OpenParenthesis refl) ∙ mark_is_no_name w mark.Star t k in
          absurd (let both : true ≡ false = sym h ∙ none in cc both)

  direct_apart : (ts : List Token) (d : Declarator) (later : List Token) → FitsDirect ts d → at_next (more_declarator w d) later ≡ false → at_next (is_star w) (ts ++ later) ≡ false
  direct_apart ts d later f h = by_case (direct_begins texts types functions may_lack ts d f.is)
    where
      star_next : (later : List Token) → at_next (more_pieces w None []) later ≡ false → at_next (is_star w) later ≡ false
      star_next [] k = refl
      star_next (t ∷ later) k = star_fails (is_star w t) (is_open w t) (is_open_bracket w t) (reader.is_name w t) k

      by_case : Empty ts d ⊎ Begins w ts d → at_next (is_star w) (ts ++ later) ≡ false
      by_case (inl e) =
          ap (λ l. at_next (is_star w) (l ++ later)) e.no_token
          ∙ star_next later (sym (ap (λ n. at_next (more_pieces w n d.pieces) later) e.no_name ∙ ap (λ ps. at_next (more_pieces w None ps) later) e.no_piece) ∙ h)
      by_case (inr b) = head_fails w (begins_direct w) (is_star w) no_star (ts ++ later) (head_of_append (begins_direct w) ts later b.head)

  to_declarator : (ts : List Token) (d : Declarator) → Either PointedText FitsDirect ts d → Fits room ts d
  to_declarator ts d (inr f) = record { is = is_direct types functions may_lack ts d f.is; count = f.count; sizes = f.sizes }
  to_declarator ts d (inl u) =
      let o = u.is in
      let j = u.is.is in
      let m = u.is.is.second in
      let fits = pointed_count below room j.value o.opening m.value u.open_way (has_room w functions may_lack below part room rest false j.value j.before j.first (λ e. cc e)) m.is.count m.is.sizes in
      subst₂ (Fits room) (sym (o.split ∙ ap (λ l. o.opening ∷ l) j.split)) (sym m.same) (record {
        is = is_pointer types functions may_lack o.opening j.value j.before j.after m.value o.passes (are_qualifiers w functions may_lack below part room rest false j.value j.before j.first) m.is.is;
        count = fits.0;
        sizes = fits.1;
      })

  from_declarator : (ts : List Token) (d : Declarator) → IsDeclarator texts types functions may_lack ts d → length d.pieces ≤ room → InnerFits (below - 1) d.pieces → Either PointedText FitsDirect ts d
  from_declarator _ _ (is_direct _ _ _ ts d is) count sizes = inr (record { is = is; count = count; sizes = sizes })
  from_declarator _ _ (is_pointer _ _ _ t c xs ys d star quals is) count sizes =
      let fits = pointed_room below room c t d count sizes in
      inl (record {
        open_way = not_zero room fits.0;
        is = record {
          opening = t;
          rest = xs ++ ys;
          split = refl;
          passes = star;
          is = record {
            before = xs;
            after = ys;
            value = c;
            split = refl;
            first = from_qualifiers w functions may_lack below part room rest false c xs quals fits.2;
            second = record { value = d; is = record { is = is; count = fits.1; sizes = fits.3 }; same = refl };
          };
        };
      })

  declarator_law : Lawful (Fits room) (more_declarator w) (declarator_at w functions may_lack below part room rest)
  unfolding declarator_at
  declarator_law =
      via (choice_else pointed_head (following_where direct_law (is_star w) (more_declarator w) direct_fewer direct_enough) direct_apart) to_declarator
      (λ ts d f. from_declarator ts d f.is f.count f.sizes)
      (choose (is_star w) (guard (is_zero room) too_deep (pointed w functions may_lack below part room rest)) (direct w functions may_lack below part room rest)) (λ ts. refl)

-- ---- with any room

module _ (texts : List (List ℕ)) (types : List Name) (functions may_lack : Bool) (not_both : (functions && may_lack) ≡ false) (below : ℕ) (part : ℕ → Parts)
    (P : functions ≡ true → ParametersLaws texts below part) where
  abbrev Law : ℕ → Parser Token Declarator → Type 0
  Law room p = Lawful (FitsDeclarator texts types functions may_lack below room) (more_declarator (reading texts types)) p

  abbrev bottom : Parser Token Declarator
  bottom = declarator_at (reading texts types) functions may_lack below part 0 (λ k. refuse unexpected)

  abbrev step : ℕ → (ℕ → Parser Token Declarator) → Parser Token Declarator
  step n rest = declarator_at (reading texts types) functions may_lack below part (suc n) rest

  up_to : (most room : ℕ) → room ≤ most → suc room ≤ below → Law room (declarators (reading texts types) functions may_lack below part room 0)
  up_to most zero le small =
      subst (Law 0) (sym (descent_bottom bottom step)) (declarator_law texts types functions may_lack not_both below part P 0 small (λ k. refuse unexpected) (λ k few. absurd (let none : suc k ≤ 0 = few in omega arith)))
  up_to zero (suc b) le small = absurd (omega arith)
  up_to (suc most) (suc b) le small =
      subst (Law (suc b)) (sym (descent_step bottom step b))
      (declarator_law texts types functions may_lack not_both below part P (suc b) small (declarators (reading texts types) functions may_lack below part b) (λ k few.
      let same : b - k ≡ suc b - suc k = omega arith in
      subst (λ n. Law n (declarators (reading texts types) functions may_lack below part b k)) same
      (subst (Law (b - k)) (sym (descent_from bottom step b k)) (up_to most (b - k) (omega arith) (omega arith)))))

  pub declarators_law : (room : ℕ) → suc room ≤ below → Law room (declarators (reading texts types) functions may_lack below part room 0)
  declarators_law room small = up_to room room (omega arith) small
