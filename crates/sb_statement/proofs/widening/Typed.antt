-- A declaration that begins with a typedef name: behind the name it stops as a reader does that has no room for it.
use Rattle.std.proofs.Common.{◌≡◌, ◌-◌, ◌+◌, ℕ, zero, suc, Bool, true, false, ◌&&◌, ◌||◌, not, List, [], ◌∷◌, length, take, Option, Some, None, is_some, if◌then◌else◌, refl, ap, ◌∙◌, arith}
use Rattle.std.specs.Option.{option_map_or}
use Rattle.sb_base.specs.declared.interning.Name.{Name}
use Rattle.sb_base.specs.declared.refusals.Place.{Place}
use Rattle.sb_base.specs.declared.tokens.Token.{Token}
use Rattle.sb_parse.specs.Parser.{Outcome, Parser, done, stop, at_next, and_then, ◌>>=◌, pure, token, taken, taken_as, choose, refuse, loop, looped}
use Rattle.sb_sign.specs.declared.sign.Keyword.{Keyword}
use Rattle.sb_sign.specs.declared.sign.Keyword.TheVariants as keyword
use Rattle.sb_sign.specs.Signs as sign
use Rattle.sb_tree.specs.Trees as tree
use Rattle.sb_tree.specs.Trees.{TypeTree}
use Rattle.sb_parse.specs.Descent.{descent}
use Rattle.sb_lexicon.specs.Lexicon.{Lexicon, name_of, is_keyword, is_type_name, is_type_keyword}
use Rattle.sb_lexicon.specs.Tokens.{unexpected, too_deep, volatile, is_open, is_star}
use Rattle.sb_lexicon.specs.Words.{Whole}
use Rattle.sb_lexicon.proofs.Lexemes.{type_name_no_keyword}
use Rattle.sb_parse.proofs.Ways.{first_fails, second_fails}
use Rattle.sb_sal.specs.declared.bearer.Bearer.TheVariants as bearer
use Rattle.sb_sal.specs.Readers.{notes_reader}
use Rattle.sb_sal.specs.Spellings.{may_stand}
use Rattle.sb_sal.proofs.NoteWider.{no_notes}
use Rattle.sb_specifier.specs.declared.seat.Seat.TheVariants as seat
use Rattle.sb_specifier.specs.Specified.{reading, Specified, unspecified, saying, base_of, declares_function}
use Rattle.sb_specifier.specs.Readers.{Parts, completed, Declarator, is_semicolon, is_name, name_at, is_storage_keyword, is_specifier_word, ends_nameless, specified, keyword_specifiers, defined, specifiers, names_type}
use Rattle.sb_declarator.specs.Readers as declaring
use Rattle.sb_declare.specs.Readers.{judged, nameless_of, Opening, nameless, declarator_in, rest_of_declaration, declaration_at}
use Rattle.sb_parse.specs.Texts.{with_front}
use Rattle.sb_declarator.specs.Readers.{declarators, declarator_at}
use Rattle.sb_declare.proofs.widening.Barred.{is_word, specified_by, by_specifier}
use Rattle.sb_statement.specs.Readers.{goes_on_type}
use Rattle.sb_statement.proofs.widening.Starts.{second_so}
use Rattle.sb_statement.proofs.widening.Crowded.{Alike, deep, stops, first_so, go_on, behind_specifiers, stops_in_specifiers}

-- ---- a declarator begins with a star, a parenthesis or a name

module _ (w : Lexicon) (ts : List Token) (star : at_next (is_star w) ts ≡ false) (opens : at_next (is_open w) ts ≡ false) (named : at_next (is_name w) ts ≡ false) where
  no_name : (ts : List Token) → at_next (is_name w) ts ≡ false → taken unexpected (name_at w) ts ≡ stop unexpected (length ts)
  no_name [] h = refl
  no_name (u ∷ us) h = by_value (name_of w u) h
    where
      by_value : (o : Option Name) → is_some o ≡ false → taken_as {A = Name × Place} unexpected (option_map_or (λ n. Some (n, u.place)) o None) us ≡ stop unexpected (suc (length us))
      by_value None h = refl
      by_value (Some n) h = absurd (cc h)

  module _ (functions : Bool) (below : ℕ) (part : ℕ → Parts) where
    one_starts : (room : ℕ) (rest : ℕ → Parser Token Declarator) → declarator_at w functions false below part room rest ts ≡ stop unexpected (length ts)
    unfolding declarator_at declaring.direct declaring.first declaring.name_or_none
    one_starts room rest =
        second_so _ _ _ _ star
        (ap (λ o. and_then o (looped (declaring.is_suffix w functions false below part room rest) (declaring.suffixed w functions false below part room rest)))
        (second_so _ _ _ _ opens (ap (λ o. and_then o (λ n. pure (declaring.named w functions false below part room rest n))) (no_name ts named))))

    declarators_start : (room : ℕ) → declarators w functions false below part room 0 ts ≡ stop unexpected (length ts)
    unfolding descent
    declarators_start zero = one_starts 0 (λ k. refuse unexpected)
    declarators_start (suc n) = one_starts (suc n) (declarators w functions false below part n)

-- ---- specifiers that begin with a typedef name

module _ (texts : List (List ℕ)) (types : List Name) (k : ℕ) (part : ℕ → Parts) (t : Token) (is : is_type_name (reading texts types) t ≡ true) where
  abbrev w : Lexicon
  w = reading texts types

  abbrev base : TypeTree
  base = tree.Defined t.text t.place

  abbrev so_far : Specified
  so_far = saying (Whole base) (unspecified types)

  abbrev complete : Specified → Parser Token (Specified × TypeTree)
  complete s = completed texts seat.Scope (suc k) part s (base_of s)

  abbrev with_name : Token → Parser Token Specified
  with_name t = keyword_specifiers texts seat.Scope (suc k) part (saying (Whole (tree.Defined t.text t.place)) (unspecified types))

  no_keyword : sign.keyword_of texts t ≡ None
  no_keyword = type_name_no_keyword w t is

  specifiers_there : (ts : List Token) → specifiers texts seat.Scope (suc k) part types (t ∷ ts) ≡ and_then (keyword_specifiers texts seat.Scope (suc k) part so_far ts) complete
  unfolding specifiers keyword_specifiers defined loop
  specifiers_there ts =
      ap (λ b. and_then (and_then (if b then and_then (specified texts seat.Scope (suc k) part (unspecified types) (t ∷ ts)) (loop (is_specifier_word (reading texts [])) (specified texts seat.Scope (suc k) part) (length ts))
      else done (unspecified types) (t ∷ ts)) (defined texts seat.Scope (suc k) part)) complete) (ap (λ o. option_map_or is_type_keyword o false || option_map_or is_storage_keyword o false) no_keyword)
      ∙ ap (λ b. and_then (if b then (token unexpected (names_type texts seat.Scope (suc k) part (unspecified types)) >>= with_name) (t ∷ ts)
      else done (unspecified types) (t ∷ ts)) complete) is
      ∙ ap (λ b. and_then (and_then (if b then done t ts else stop unexpected (suc (length ts))) with_name) complete) is

  no_more : (ts : List Token) → at_next (is_specifier_word (reading texts [])) ts ≡ false → keyword_specifiers texts seat.Scope (suc k) part so_far ts ≡ done so_far ts
  unfolding keyword_specifiers loop
  no_more [] h = refl
  no_more (u ∷ us) h = second_so _ _ _ _ h refl

  one_more : (u : Token) (us : List Token) (i l : ℕ) → is_specifier_word (reading texts []) u ≡ true
      → specified texts seat.Scope (suc k) part so_far (u ∷ us) ≡ stop i l → keyword_specifiers texts seat.Scope (suc k) part so_far (u ∷ us) ≡ stop i l
  unfolding keyword_specifiers loop
  one_more u us i l h e = first_so _ _ _ _ h (ap (λ o. and_then o (loop (is_specifier_word (reading texts [])) (specified texts seat.Scope (suc k) part) (length us))) e)

  unnoted : (ts : List Token) → notes_reader w (suc k) (may_stand w bearer.Function) (t ∷ ts) ≡ done [] (t ∷ ts)
  unnoted ts = no_notes w (suc k) (may_stand w bearer.Function) (t ∷ ts) (no_note (is_some (name_of w t)) (is_type_name w t) _ is)
    where
      no_note : (a b c : Bool) → b ≡ true → (a && (not b && c)) ≡ false
      no_note true true c h = refl
      no_note false b c h = refl
      no_note true false c h = absurd (cc h)

  -- another word of a type
  word_stops : (u : Token) (us : List Token) (i l : ℕ) → is_specifier_word (reading texts []) u ≡ true → specified texts seat.Scope (suc k) part so_far (u ∷ us) ≡ stop i l → declaration_at texts (suc k) part types (t ∷ (u ∷ us)) ≡ stop i l
  word_stops u us i l h e =
      stops_in_specifiers texts types (suc k) part (t ∷ (u ∷ us)) (t ∷ (u ∷ us)) [] i l (unnoted (u ∷ us)) (specifiers_there (u ∷ us) ∙ ap (λ o. and_then o complete) (one_more u us i l h e))

  -- ---- behind the specifiers

  module _ (ts : List Token) (star : at_next (is_star w) ts ≡ false) (opens : at_next (is_open w) ts ≡ false) (named : at_next (is_name w) ts ≡ false) (ends : at_next (is_semicolon w) ts ≡ false) where
    abbrev opened_so : List Token → List Token → Opening
    opened_so noted shown = record { outer = types; notes = []; noted = noted; specified = so_far; base = base; count = length shown }

    abbrev judging : List Token → Declarator × List Token → Parser Token Declarator
    judging shown d = judged texts (suc k) part (opened_so [] shown) (declares_function d.0.pieces) (length shown + length d.1) d.0

    declarator_stops : (shown : List Token) → declarator_in texts (suc k) part (opened_so [] shown) types base (length shown) ts ≡ stop unexpected (length ts)
    unfolding declarator_in
    declarator_stops shown = ap (λ o. and_then (with_front ts (and_then (with_front ts o) (judging shown))) (λ (d : Declarator × List Token). pure (d.0, length shown + length d.1))) (declarators_start w ts star opens named _ (suc k) part _)

    nameless_stops : (shown : List Token) → nameless texts (suc k) part (opened_so [] shown) t.place ts ≡ stop unexpected (length ts)
    unfolding nameless loop
    nameless_stops shown = no_semicolon ts ends
      where
        no_semicolon : (ts : List Token) → at_next (is_semicolon w) ts ≡ false
            → and_then (token unexpected (is_semicolon w) ts) (λ c. pure (nameless_of texts (suc k) part (opened_so [] shown) t.place)) ≡ stop unexpected (length ts)
        no_semicolon [] h = refl
        no_semicolon (u ∷ us) h = ap (λ b. and_then (if b then done u us else stop unexpected (suc (length us))) (λ c. pure (nameless_of texts (suc k) part (opened_so [] shown) t.place))) h

    behind_stops : (shown : List Token) → go_on texts types (suc k) part (opened_so [] shown) ts ≡ stop unexpected (length ts)
    behind_stops shown = by_test (at_next (ends_nameless w) ts)
      where
        by_test : (b : Bool) → (if b then nameless texts (suc k) part (opened_so [] shown) t.place ts
            else (declarator_in texts (suc k) part (opened_so [] shown) types base (length shown) >>= rest_of_declaration texts (suc k) part (opened_so [] shown)) ts) ≡ stop unexpected (length ts)
        by_test true = nameless_stops shown
        by_test false = ap (λ o. and_then o (rest_of_declaration texts (suc k) part (opened_so [] shown))) (declarator_stops shown)

    none_left : (n : ℕ) (xs : List Token) → take (n - n) xs ≡ []
    none_left n xs = ap (λ i. take i xs) (let same : n - n ≡ 0 = omega arith in same)

    type_alone : at_next (is_specifier_word (reading texts [])) ts ≡ false → declaration_at texts (suc k) part types (t ∷ ts) ≡ stop unexpected (length ts)
    type_alone h =
        behind_specifiers texts types (suc k) part (t ∷ ts) (t ∷ ts) ts [] (so_far, base) (unnoted ts) (specifiers_there ts ∙ ap (λ o. and_then o complete) (no_more ts h))
        ∙ ap (λ z. go_on texts types (suc k) part (opened_so z (take (length (t ∷ ts) - length ts) (t ∷ ts))) ts) (none_left (length (t ∷ ts)) (t ∷ ts)) ∙ behind_stops (take (length (t ∷ ts) - length ts) (t ∷ ts))

-- ---- behind a typedef name

module _ (A : Type 0) (texts : List (List ℕ)) (types : List Name) (k : ℕ) (part : ℕ → Parts) (t : Token) (is : is_type_name (reading texts types) t ≡ true) where
  abbrev here : Lexicon
  here = reading texts types

  abbrev Behind : Outcome Token A → List Token → Type 0
  Behind o ts = Alike {A = A} o (declaration_at texts (suc k) part types (t ∷ ts))

  module _ (u : Token) (us : List Token) where
    abbrev by_sign : Bool
    by_sign = is_star here u || (is_open here u || (is_name here u || is_semicolon here u))

    abbrev refused : Bool → Outcome Token A
    refused b = if b then stop too_deep (length (u ∷ us)) else stop unexpected (length (u ∷ us))

    -- where no word of a type is next
    no_word : is_specifier_word (reading texts []) u ≡ false → Behind (refused by_sign) (u ∷ us)
    no_word h = by_test by_sign refl
      where
        by_test : (b : Bool) → by_sign ≡ b → Behind (refused b) (u ∷ us)
        by_test true e = deep (length (u ∷ us)) refl
        by_test false e =
            let others : (is_open here u || (is_name here u || is_semicolon here u)) ≡ false = second_fails (is_star here u) (is_open here u || (is_name here u || is_semicolon here u)) e in
            let last : (is_name here u || is_semicolon here u) ≡ false = second_fails (is_open here u) (is_name here u || is_semicolon here u) others in
            stops unexpected (length (u ∷ us)) refl
            (type_alone texts types k part t is (u ∷ us) (first_fails (is_star here u) (is_open here u || (is_name here u || is_semicolon here u)) e) (first_fails (is_open here u) (is_name here u || is_semicolon here u) others)
            (first_fails (is_name here u) (is_semicolon here u) last) (second_fails (is_name here u) (is_semicolon here u) last) h)

    -- another word of a type
    other_word : (j : Keyword) → sign.keyword_of texts u ≡ Some j → is_type_keyword j ≡ true
        → specified_by texts seat.Scope (suc k) part (so_far texts types k part t is) u us (Some j) ≡ stop unexpected (length (u ∷ us)) → Behind (refused by_sign) (u ∷ us)
    other_word j h word e = by_test by_sign
      where
        by_test : (b : Bool) → Behind (refused b) (u ∷ us)
        by_test true = deep (length (u ∷ us)) refl
        by_test false =
            stops unexpected (length (u ∷ us)) refl
            (word_stops texts types k part t is u us unexpected (length (u ∷ us))
            (ap (λ o. option_map_or is_type_keyword o false || option_map_or is_storage_keyword o false) h ∙ ap (λ b. b || option_map_or is_storage_keyword (Some j) false) word)
            (by_specifier texts seat.Scope (suc k) part (so_far texts types k part t is) u us (Some j) h ∙ e))

    abbrev refused_by : Option Keyword → Outcome Token A
    refused_by o =
        if is_word keyword.Volatile o then stop volatile (length (u ∷ us))
        else (if is_word keyword.Const o || (is_word keyword.Restrict o || (option_map_or is_storage_keyword o false || by_sign)) then stop too_deep (length (u ∷ us)) else stop unexpected (length (u ∷ us)))

    by_keyword : (o : Option Keyword) → sign.keyword_of texts u ≡ o → Behind (refused_by o) (u ∷ us)
    by_keyword None h = no_word (ap (λ o. option_map_or is_type_keyword o false || option_map_or is_storage_keyword o false) h)
    by_keyword (Some keyword.Volatile) h =
        stops volatile (length (u ∷ us)) refl
        (word_stops texts types k part t is u us volatile (length (u ∷ us)) (ap (λ o. option_map_or is_type_keyword o false || option_map_or is_storage_keyword o false) h)
        (by_specifier texts seat.Scope (suc k) part (so_far texts types k part t is) u us (Some keyword.Volatile) h))
    by_keyword (Some keyword.Const) h = deep (length (u ∷ us)) refl
    by_keyword (Some keyword.Restrict) h = deep (length (u ∷ us)) refl
    by_keyword (Some keyword.Typedef) h = deep (length (u ∷ us)) refl
    by_keyword (Some keyword.Extern) h = deep (length (u ∷ us)) refl
    by_keyword (Some keyword.Static) h = deep (length (u ∷ us)) refl
    by_keyword (Some keyword.Register) h = deep (length (u ∷ us)) refl
    by_keyword (Some keyword.Inline) h = deep (length (u ∷ us)) refl
    by_keyword (Some keyword.Void) h = other_word keyword.Void h refl refl
    by_keyword (Some keyword.Bool) h = other_word keyword.Bool h refl refl
    by_keyword (Some keyword.Char) h = other_word keyword.Char h refl refl
    by_keyword (Some keyword.Short) h = other_word keyword.Short h refl refl
    by_keyword (Some keyword.Int) h = other_word keyword.Int h refl refl
    by_keyword (Some keyword.Long) h = other_word keyword.Long h refl refl
    by_keyword (Some keyword.Signed) h = other_word keyword.Signed h refl refl
    by_keyword (Some keyword.Unsigned) h = other_word keyword.Unsigned h refl refl
    by_keyword (Some keyword.Float) h = other_word keyword.Float h refl refl
    by_keyword (Some keyword.Double) h = other_word keyword.Double h refl refl
    by_keyword (Some keyword.Complex) h = other_word keyword.Complex h refl refl
    by_keyword (Some keyword.Imaginary) h = other_word keyword.Imaginary h refl refl
    by_keyword (Some keyword.Struct) h = other_word keyword.Struct h refl refl
    by_keyword (Some keyword.Union) h = other_word keyword.Union h refl refl
    by_keyword (Some keyword.Enum) h = other_word keyword.Enum h refl refl
    by_keyword (Some _) h = no_word (ap (λ o. option_map_or is_type_keyword o false || option_map_or is_storage_keyword o false) h)

  pub behind_type : (ts : List Token) → Behind (choose (is_keyword here keyword.Volatile) (refuse volatile) (choose (goes_on_type here) (refuse too_deep) (refuse unexpected)) ts) ts
  behind_type [] = stops unexpected 0 refl (type_alone texts types k part t is [] refl refl refl refl refl)
  behind_type (u ∷ us) = by_keyword u us (sign.keyword_of texts u) refl
