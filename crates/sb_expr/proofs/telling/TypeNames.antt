-- Why the readers of type names stop, by what is known of the readers of expressions.
use Rattle.std.proofs.Common.{◌≡◌, ℕ, zero, suc, ◌-◌, Bool, true, false, ◌||◌, ◌&&◌, List, [], ◌∷◌, ◌++◌, length, nat_lt, Option, Some, None, if◌then◌else◌, refl, sym, ap, ◌∙◌, append-nil, subst}
use Rattle.sb_base.specs.declared.tokens.Token.{Token}
use Rattle.sb_parse.specs.Parser.{Outcome, Parser, done, stop, at_next, and_then, ◌>>=◌, pure, token, taken, looped}
use Rattle.sb_parse.specs.Read.{CanBegin}
use Rattle.sb_sign.specs.declared.sign.Keyword.{Keyword}
use Rattle.sb_sign.specs.declared.sign.Keyword.TheVariants as keyword
use Rattle.sb_sign.specs.Signs as sign
use Rattle.sb_tree.specs.Trees as tree
use Rattle.sb_tree.specs.Trees.{ExprTree, TypeTree, depth_of_type}
use Rattle.sb_parse.specs.Descent.{descent}
use Rattle.sb_lexicon.specs.Lexicon.{Lexicon, is_keyword, is_type_name, is_type_word}
use Rattle.sb_operand.specs.Pieces.{Piece, Pointed, Arrayed, Grouped, constant_if, points}
use Rattle.sb_lexicon.specs.Words.{Said, Nothing, Specifiers, unspecified, constantly, is_nothing, type_specified}
use Rattle.sb_expr.specs.Expression.{Assignment, IsExpr, AreQualifiers, no_qualifiers, constant, restricted, IsType, is_type, IsAbstract, is_direct, is_pointer, IsDirect, is_nothing_more, is_in_parentheses, is_array, IsSize, no_size, a_size}
use Rattle.sb_lexicon.specs.Specifiers.{IsSpecifier, is_word, is_constant, is_restricted, is_structure, is_enumeration, is_defined, AreSpecifiers, no_specifiers, more_specifiers}
use Rattle.sb_operand.specs.Readers.{PieceReader, begins_abstract, begins_parameters, calls, one_if, no_declarator}
use Rattle.sb_expr.specs.Readers.{qualifier, pointed, inside, in_parentheses, sized, arrayed, direct, abstract_declarator, declarators, Parts, size_at, type_named}
use Rattle.sb_lexicon.specs.SpecifierReaders.{is_floating, is_union, is_complex, may_be_floating, word_after, structure_named, enumeration_named, defined_by, is_tag_word, names_type, specified, keyword_specifiers, defined, completed, base_type}
use Rattle.sb_lexicon.specs.Tokens.{unexpected, is_zero, is_open, is_close, is_open_bracket, is_close_bracket, is_star, is_qualifier}
use Rattle.sb_parse.proofs.Ways.{Completed, first_fails, or_first, or_second, and_first, and_second}
use Rattle.sb_lexicon.proofs.Lexemes.{close_token, close_token_is, close_bracket_token, close_bracket_token_is, star_token, star_token_is}
use Rattle.sb_expr.proofs.tokens.Bracketed.{no_more_at_close}
use Rattle.sb_lexicon.proofs.laws.Specifiers.{nothing_said, by_word, by_name, are_append, more_behind}
use Rattle.sb_lexicon.proofs.Grounds.{Texts, plain, After, Fair, Grounded, GroundedAt, whole_text, why_as, fair_as, grounded_as, in_turn, one_by_one, mapping, after_both, giving, refusing_plain, opening, taking, closing, refusing_deep, refusing_feature, barring, choosing, choosing_either, turning}

-- ---- specifiers

module _ (w : Lexicon) (bar : Bool) where
  tag_said : (said : Said) (k : Keyword) (ts : List Token) → at_next (is_tag_word w said k) ts ≡ true → said ≡ Nothing
  tag_said said k [] h = absurd (cc h)
  tag_said said k (t ∷ ts) h = nothing_said said (and_second (is_keyword w k t) (is_nothing said) h)

  either_shown : (a b c d : Bool) → ((a && b) || (c && d)) ≡ true → (a || c) ≡ true
  either_shown true b c d h = refl
  either_shown false b c d h = and_first c d h

  -- `struct` or `enum`, and a tag
  tagged : (s : Specifiers) (k : Keyword) (named : Specifiers → Token → Option Specifiers) → (s.said ≡ Nothing → (t n : Token) (r : Specifiers) → is_keyword w k t ≡ true → named s n ≡ Some r → IsSpecifier w s (t ∷ (n ∷ [])) r)
      → GroundedAt w (is_tag_word w s.said k) (IsSpecifier w s) (token unexpected (is_keyword w k) >>= (λ t. taken unexpected (named s)))
  tagged s k named to ts h =
      opening w (IsSpecifier w s) (is_keyword w k) (λ t. taken unexpected (named s))
      (λ t i. taking w (After (t ∷ []) (IsSpecifier w s)) (named s) (λ n r e. to (tag_said s.said k ts h) t n r i e)) ts

  specified_grounded : (s : Specifiers) → Grounded w (IsSpecifier w s) (specified w bar s)
  unfolding specified
  specified_grounded s =
      choosing w (IsSpecifier w s) (is_keyword w keyword.Const) _ _
      (barring w (IsSpecifier w s) (is_keyword w keyword.Const) bar _ (λ t h. whole_text (IsSpecifier w s) (t ∷ []) (constantly s) (is_constant s t h))
      (opening w (IsSpecifier w s) (is_keyword w keyword.Const) _ (λ t h. giving w (After (t ∷ []) (IsSpecifier w s)) (constantly s) (is_constant s t h))))
      (choosing w (IsSpecifier w s) (is_keyword w keyword.Restrict) _ _
      (λ ts i. opening w (IsSpecifier w s) (is_keyword w keyword.Restrict) _ (λ t h. giving w (After (t ∷ []) (IsSpecifier w s)) s (is_restricted s t h)) ts)
      (choosing w (IsSpecifier w s) (is_tag_word w s.said keyword.Struct) _ _
      (tagged s keyword.Struct (structure_named w) (λ said t n r i e. let it = by_name _ r _ e in subst (IsSpecifier w s (t ∷ (n ∷ []))) (sym it.2) (is_structure s t n it.0 i said it.1)))
      (choosing w (IsSpecifier w s) (is_tag_word w s.said keyword.Enum) _ _
      (tagged s keyword.Enum (enumeration_named w) (λ said t n r i e. let it = by_name _ r _ e in subst (IsSpecifier w s (t ∷ (n ∷ []))) (sym it.2) (is_enumeration s t n it.0 i said it.1)))
      (choosing w (IsSpecifier w s) (is_floating w s.said) _ _
      (refusing_feature w (IsSpecifier w s) (is_floating w s.said) 1 (λ t h. either_shown (is_keyword w keyword.Float t) (is_nothing s.said) (is_keyword w keyword.Double t) (may_be_floating s.said) h))
      (choosing w (IsSpecifier w s) (is_union w s.said) _ _
      (refusing_feature w (IsSpecifier w s) (is_union w s.said) 2 (λ t h. and_first (is_keyword w keyword.Union t) (is_nothing s.said) h))
      (choosing w (IsSpecifier w s) (is_keyword w keyword.Volatile) _ _ (refusing_feature w (IsSpecifier w s) (is_keyword w keyword.Volatile) 7 (λ t h. h))
      (choosing w (IsSpecifier w s) (is_complex w s.said) _ _
      (refusing_feature w (IsSpecifier w s) (is_complex w s.said) 8 (λ t h. and_first (is_keyword w keyword.Complex t || is_keyword w keyword.Imaginary t) (may_be_floating s.said) h))
      (taking w (IsSpecifier w s) (word_after w s) (λ t r e. let it = by_word t.place s r (sign.keyword_of w.texts t) e in subst (IsSpecifier w s (t ∷ [])) (sym it.2.2) (is_word s t it.0 it.2.0 it.1 it.2.1))))))))))

  abbrev pub Named : Texts Specifiers
  Named = AreSpecifiers w unspecified

  and_one : (s r : Specifiers) (xs ys : List Token) → Named xs s → IsSpecifier w s ys r → Named (xs ++ ys) r
  and_one s r xs ys are is = are_append w bar unspecified s r xs ys are (subst (λ z. AreSpecifiers w s z r) (append-nil ys) (more_specifiers s r r ys [] is (no_specifiers r)))

  keywords_grounded : (xs : List Token) (s : Specifiers) → Named xs s → Grounded w (After xs Named) (keyword_specifiers w bar s)
  unfolding keyword_specifiers
  keywords_grounded xs s are =
      turning w Named (is_type_word w) (specified w bar) (λ xs s are ts h. fair_as w (IsSpecifier w s) (After xs Named) (λ ys r is. and_one s r xs ys are is) ts (specified w bar s ts) (specified_grounded s ts)) xs s are

  defined_grounded : (xs : List Token) (s : Specifiers) → Named xs s → Grounded w (After xs Named) (defined w bar s)
  unfolding defined
  defined_grounded xs s are =
      choosing w (After xs Named) (names_type w bar s) _ _
      (λ ts h. opening w (After xs Named) (is_type_name w) (λ t. keyword_specifiers w bar (defined_by s t))
      (λ t i. after_both w Named xs (t ∷ []) (keyword_specifiers w bar (defined_by s t))
      (keywords_grounded (xs ++ (t ∷ [])) (defined_by s t) (and_one s (defined_by s t) xs (t ∷ []) are (is_defined s t i (said ts h))))) ts)
      (giving w (After xs Named) s (subst (λ z. Named z s) (sym (append-nil xs)) are))
    where
      said : (ts : List Token) → at_next (names_type w bar s) ts ≡ true → s.said ≡ Nothing
      said [] h = absurd (cc h)
      said (t ∷ ts) h = nothing_said s.said (and_first (is_nothing s.said) (is_type_name w t) h)

  -- a type by its specifiers
  abbrev pub Based : Texts TypeTree
  Based = Completed Named type_specified

  pub based : (xs : List Token) (s : Specifiers) → Named xs s → CanBegin Based xs
  based xs s are = by_type (type_specified s) refl
    where
      by_type : (o : Option TypeTree) → type_specified s ≡ o → CanBegin Based xs
      by_type (Some t) h = whole_text Based xs t (record { value = s; is = are; gives_it = h })
      by_type None h =
          let it = more_behind w false xs s (are, λ none. absurd (cc none)) h in
          record { rest = it.0; tree = it.1; is = record { value = it.2.value; is = it.2.is.0; gives_it = it.2.gives_it } }

  pub base_grounded : Grounded w Based (base_type w bar)
  unfolding base_type
  base_grounded =
      one_by_one w Named Based (keyword_specifiers w bar unspecified >>= defined w bar) (λ s. completed w bar (type_specified s))
      (one_by_one w Named Named (keyword_specifiers w bar unspecified) (defined w bar) (keywords_grounded [] unspecified (no_specifiers unspecified)) (λ xs s are. whole_text Named xs s are) defined_grounded)
      based complete
    where
      complete : (xs : List Token) (s : Specifiers) → Named xs s → Grounded w (After xs Based) (completed w bar (type_specified s))
      complete xs s are = by_type (type_specified s) refl
        where
          by_type : (o : Option TypeTree) → type_specified s ≡ o → Grounded w (After xs Based) (completed w bar o)
          by_type None h = refusing_plain w (After xs Based)
          by_type (Some t) h = giving w (After xs Based) t (subst (λ z. Based z t) (sym (append-nil xs)) (record { value = s; is = are; gives_it = h }))

-- ---- declarators

-- the pieces of some text are some pieces
pub direct_empty : (w : Lexicon) (xs : List Token) (ps : List Piece) → IsDirect w xs ps → ps ≡ [] → xs ≡ []
direct_empty w _ _ is_nothing_more e = refl
direct_empty w _ _ (is_in_parentheses o c xs p ps opens closes is) e = absurd (cc e)
direct_empty w _ _ (is_array o c xs ys ps size opens closes first second) e = absurd (cc e)

abstract_empty : (w : Lexicon) (xs : List Token) (ps : List Piece) → IsAbstract w xs ps → ps ≡ [] → xs ≡ []
abstract_empty w _ _ (is_direct xs ps is) e = direct_empty w xs ps is e
abstract_empty w _ _ (is_pointer t c xs ys ps star qualified is) e = absurd (cc e)

module _ (w : Lexicon) where
  -- `*`, and `*` in parentheses
  a_pointer : (t : Token) → is_star w t ≡ true → IsAbstract w (t ∷ []) (Pointed t.place ∷ [])
  a_pointer t h = is_pointer t false [] [] [] h (no_qualifiers false) (is_direct [] [] is_nothing_more)

  parenthesised : (o : Token) → is_open w o ≡ true → IsDirect w (o ∷ (star_token ∷ (close_token ∷ []))) (Grouped o.place ∷ (Pointed star_token.place ∷ []))
  parenthesised o h = is_in_parentheses o close_token (star_token ∷ []) (Pointed star_token.place) [] h (close_token_is w) (a_pointer star_token (star_token_is w))

  pub an_array : (xs : List Token) (ps : List Piece) (o : Token) → is_open_bracket w o ≡ true → IsDirect w xs ps → IsDirect w (xs ++ (o ∷ (close_bracket_token ∷ []))) (Arrayed tree.NoExpr o.place ∷ ps)
  an_array xs ps o h is = is_array o close_bracket_token xs [] ps tree.NoExpr h (close_bracket_token_is w) is no_size

  -- with each of these tokens a declarator begins
  pub begins_text : (t : Token) → begins_abstract w t ≡ true → CanBegin (IsAbstract w) (t ∷ [])
  begins_text t h = by_star (is_star w t) refl h
    where
      by_open : (b : Bool) → is_open w t ≡ b → (b || is_open_bracket w t) ≡ true → CanBegin (IsAbstract w) (t ∷ [])
      by_open true k h = record { rest = star_token ∷ (close_token ∷ []); tree = Grouped t.place ∷ (Pointed star_token.place ∷ []); is = is_direct _ _ (parenthesised t k) }
      by_open false k h = record { rest = close_bracket_token ∷ []; tree = Arrayed tree.NoExpr t.place ∷ []; is = is_direct _ _ (an_array [] [] t h is_nothing_more) }

      by_star : (b : Bool) → is_star w t ≡ b → (b || (is_open w t || is_open_bracket w t)) ≡ true → CanBegin (IsAbstract w) (t ∷ [])
      by_star true k h = whole_text (IsAbstract w) (t ∷ []) (Pointed t.place ∷ []) (a_pointer t k)
      by_star false k h = by_open (is_open w t) refl h

  none_grounded : Grounded w (IsAbstract w) (no_declarator w)
  none_grounded = choosing w (IsAbstract w) (begins_abstract w) _ _ (refusing_deep w (IsAbstract w) (begins_abstract w) begins_text) (giving w (IsAbstract w) [] (is_direct [] [] is_nothing_more))

  closes_begin_none : (t : Token) → is_close w t ≡ true → begins_abstract w t ≡ false
  closes_begin_none t h = first_fails (begins_abstract w t) false (no_more_at_close w [] t h)

  abbrev Qualified : Texts Bool
  Qualified = AreQualifiers w false

  and_constant : (c d : Bool) (xs : List Token) (t : Token) → AreQualifiers w c xs d → is_keyword w keyword.Const t ≡ true → AreQualifiers w c (xs ++ (t ∷ [])) true
  and_constant c _ _ t (no_qualifiers d) h = constant c true t [] h (no_qualifiers true)
  and_constant c d _ t (constant e _ s ts k are) h = constant e true s (ts ++ (t ∷ [])) k (and_constant true d ts t are h)
  and_constant c d _ t (restricted e _ s ts k are) h = restricted e true s (ts ++ (t ∷ [])) k (and_constant e d ts t are h)

  and_restricted : (c d : Bool) (xs : List Token) (t : Token) → AreQualifiers w c xs d → is_keyword w keyword.Restrict t ≡ true → AreQualifiers w c (xs ++ (t ∷ [])) d
  and_restricted c _ _ t (no_qualifiers d) h = restricted d d t [] h (no_qualifiers d)
  and_restricted c d _ t (constant e _ s ts k are) h = constant e d s (ts ++ (t ∷ [])) k (and_restricted true d ts t are h)
  and_restricted c d _ t (restricted e _ s ts k are) h = restricted e d s (ts ++ (t ∷ [])) k (and_restricted e d ts t are h)

module _ (w : Lexicon) (size : ℕ → Parser Token ExprTree) (Size : (n : ℕ) → Grounded w (IsExpr w Assignment) (size n)) (below : ℕ) (rest : ℕ → PieceReader) (Rest : (k : ℕ) → Grounded w (IsAbstract w) (rest k)) where
  qualifier_grounded : (xs : List Token) (c : Bool) → Qualified w xs c → GroundedAt w (is_qualifier w) (After xs (Qualified w)) (qualifier w size below rest c)
  unfolding qualifier
  qualifier_grounded xs c are =
      choosing_either w (After xs (Qualified w)) (is_keyword w keyword.Const) (λ t. is_keyword w keyword.Restrict t || is_keyword w keyword.Volatile t) _ _
      (barring w (After xs (Qualified w)) (is_keyword w keyword.Const) (is_zero below) _ (λ t i. whole_text (After xs (Qualified w)) (t ∷ []) true (and_constant w false c xs t are i))
      (opening w (After xs (Qualified w)) (is_keyword w keyword.Const) _ (λ t i. giving w (After (t ∷ []) (After xs (Qualified w))) true (and_constant w false c xs t are i))))
      (choosing_either w (After xs (Qualified w)) (is_keyword w keyword.Restrict) (is_keyword w keyword.Volatile) _ _
      (λ ts h. opening w (After xs (Qualified w)) (is_keyword w keyword.Restrict) (λ t. pure c) (λ t i. giving w (After (t ∷ []) (After xs (Qualified w))) c (and_restricted w false c xs t are i)) ts)
      (refusing_feature w (After xs (Qualified w)) (is_keyword w keyword.Volatile) 7 (λ t i. i)))

  pointed_grounded : Grounded w (IsAbstract w) (pointed w size below rest)
  unfolding pointed
  pointed_grounded =
      opening w (IsAbstract w) (is_star w) _
      (λ t h. one_by_one w (Qualified w) (After (t ∷ []) (IsAbstract w)) (looped (is_qualifier w) (qualifier w size below rest) false) _
      (turning w (Qualified w) (is_qualifier w) (qualifier w size below rest) qualifier_grounded [] false (no_qualifiers false))
      (λ xs c are. record { rest = []; tree = Pointed t.place ∷ constant_if c []; is = is_pointer t c xs [] [] h are (is_direct [] [] is_nothing_more) })
      (λ xs c are. mapping w (IsAbstract w) (After xs (After (t ∷ []) (IsAbstract w))) (rest (one_if c)) (λ ps. Pointed t.place ∷ constant_if c ps) (Rest (one_if c)) (λ ys ps is. is_pointer t c xs ys ps h are is)))

  -- what stands in parentheses, and is some declarator
  within_parentheses : (o : Token) → is_open w o ≡ true → (ts : List Token) → at_next (begins_abstract w) ts ≡ true → (r : Outcome Token (List Piece)) → Fair w (IsAbstract w) ts r
      → Fair w (After (o ∷ []) (IsDirect w)) ts (and_then r (λ ps. token unexpected (is_close w) >>= (λ c. pure (Grouped o.place ∷ ps))))
  within_parentheses o opens ts h (stop n left) y = why_as w (IsAbstract w) (After (o ∷ []) (IsDirect w)) some ts n left y
    where
      some : (xs : List Token) (ps : List Piece) → IsAbstract w xs ps → CanBegin (After (o ∷ []) (IsDirect w)) xs
      some xs [] is = record { rest = star_token ∷ (close_token ∷ []); tree = Grouped o.place ∷ (Pointed star_token.place ∷ []); is = subst (λ z. IsDirect w (o ∷ (z ++ (star_token ∷ (close_token ∷ [])))) (Grouped o.place ∷ (Pointed star_token.place ∷ []))) (sym (abstract_empty w xs [] is refl)) (parenthesised w o opens) }
      some xs (p ∷ ps) is = record { rest = close_token ∷ []; tree = Grouped o.place ∷ (p ∷ ps); is = is_in_parentheses o close_token xs p ps opens (close_token_is w) is }
  within_parentheses o opens ts h (done (p ∷ ps) later) r =
      in_turn w (λ xs qs. IsAbstract w xs qs × (qs ≡ p ∷ ps)) (After (o ∷ []) (IsDirect w)) (λ qs. token unexpected (is_close w) >>= (λ c. pure (Grouped o.place ∷ qs))) ts (done (p ∷ ps) later)
      (record { front = r.front; split = r.split; is = (r.is, refl) })
      (λ xs qs is. record { rest = close_token ∷ []; tree = Grouped o.place ∷ qs; is = closed xs qs is close_token (close_token_is w) })
      (λ xs qs is. opening w (After xs (After (o ∷ []) (IsDirect w))) (is_close w) (λ c. pure (Grouped o.place ∷ qs))
      (λ c k. giving w (After (c ∷ []) (After xs (After (o ∷ []) (IsDirect w)))) (Grouped o.place ∷ qs) (closed xs qs is c k)))
    where
      closed : (xs : List Token) (qs : List Piece) → IsAbstract w xs qs × (qs ≡ p ∷ ps) → (c : Token) → is_close w c ≡ true → IsDirect w (o ∷ (xs ++ (c ∷ []))) (Grouped o.place ∷ qs)
      closed xs qs is c k = subst (λ z. IsDirect w (o ∷ (xs ++ (c ∷ []))) (Grouped o.place ∷ z)) (sym is.1) (is_in_parentheses o c xs p ps opens k (subst (IsAbstract w xs) is.1 is.0))
  within_parentheses o opens ts h (done [] later) r =
      let same : later ≡ ts = sym (r.split ∙ ap (λ z. z ++ later) (abstract_empty w r.front [] r.is refl)) in
      subst (λ z. Fair w (After (o ∷ []) (IsDirect w)) ts (and_then (token unexpected (is_close w) z) (λ c. pure (Grouped o.place ∷ [])))) (sym same) (halt ts h)
    where
      halt : (ts : List Token) → at_next (begins_abstract w) ts ≡ true → Fair w (After (o ∷ []) (IsDirect w)) ts (and_then (token unexpected (is_close w) ts) (λ c. pure (Grouped o.place ∷ [])))
      halt [] h = plain refl
      halt (t ∷ ts) h = by_test (is_close w t) refl
        where
          by_test : (b : Bool) → is_close w t ≡ b → Fair w (After (o ∷ []) (IsDirect w)) (t ∷ ts) (and_then (if b then done t ts else stop unexpected (suc (length ts))) (λ c. pure (Grouped o.place ∷ [])))
          by_test false k = plain refl
          by_test true k = absurd (let both : true ≡ false = sym h ∙ closes_begin_none w t k in cc both)

  parentheses_grounded : Grounded w (IsDirect w) (in_parentheses w size below rest)
  unfolding in_parentheses inside
  parentheses_grounded =
      opening w (IsDirect w) (is_open w) _
      (λ o opens. choosing w (After (o ∷ []) (IsDirect w)) (begins_abstract w) _ _
      (λ ts h. within_parentheses o opens ts h (rest 0 ts) (Rest 0 ts))
      (choosing w (After (o ∷ []) (IsDirect w)) (begins_parameters w) _ _
      (refusing_feature w (After (o ∷ []) (IsDirect w)) (begins_parameters w) 4 (λ t h. or_second (is_open w t) (begins_parameters w t) h))
      (refusing_plain w (After (o ∷ []) (IsDirect w)))))

  size_grounded : (n : ℕ) → Grounded w (IsSize w) (sized w size below rest n)
  unfolding sized
  size_grounded n =
      choosing w (IsSize w) (is_close_bracket w) _ _ (λ ts h. giving w (IsSize w) tree.NoExpr no_size ts)
      (mapping w (IsExpr w Assignment) (IsSize w) (size n) tree.AnExpr (Size n) (λ xs e is. a_size xs e is))

  array_grounded : (xs : List Token) (ps : List Piece) → IsDirect w xs ps → GroundedAt w (is_open_bracket w) (After xs (IsDirect w)) (arrayed w size below rest ps)
  unfolding arrayed
  array_grounded xs ps is =
      barring w (After xs (IsDirect w)) (is_open_bracket w) (nat_lt below (length ps)) _
      (λ o h. record { rest = close_bracket_token ∷ []; tree = Arrayed tree.NoExpr o.place ∷ ps; is = an_array w xs ps o h is })
      (opening w (After xs (IsDirect w)) (is_open_bracket w) _
      (λ o h. closing w (IsSize w) (After (o ∷ []) (After xs (IsDirect w))) (is_close_bracket w) close_bracket_token (sized w size below rest (length ps)) (λ e c. Arrayed e o.place ∷ ps) (close_bracket_token_is w)
      (size_grounded (length ps)) (λ ys e c sizes closes. is_array o c xs ys ps e h closes is sizes)))

  direct_grounded : Grounded w (IsDirect w) (direct w size below rest)
  unfolding direct
  direct_grounded =
      one_by_one w (IsDirect w) (IsDirect w) _ _
      (one_by_one w (IsDirect w) (IsDirect w) _ _
      (choosing w (IsDirect w) (is_open w) _ _
      (barring w (IsDirect w) (is_open w) (is_zero below) _ (λ t h. record { rest = star_token ∷ (close_token ∷ []); tree = Grouped t.place ∷ (Pointed star_token.place ∷ []); is = parenthesised w t h }) parentheses_grounded)
      (giving w (IsDirect w) [] is_nothing_more))
      (λ xs ps is. whole_text (IsDirect w) xs ps is)
      (λ xs ps is. turning w (IsDirect w) (is_open_bracket w) (arrayed w size below rest) array_grounded xs ps is))
      (λ xs ps is. whole_text (IsDirect w) xs ps is)
      (λ xs ps is. choosing w (After xs (IsDirect w)) (calls w ps) _ _
      (refusing_feature w (After xs (IsDirect w)) (calls w ps) 4 (λ t h. or_first (is_open w t) (begins_parameters w t) (and_second (points ps) (is_open w t) h)))
      (giving w (After xs (IsDirect w)) ps (subst (λ z. IsDirect w z ps) (sym (append-nil xs)) is)))

  abstract_grounded : Grounded w (IsAbstract w) (abstract_declarator w size below rest)
  unfolding abstract_declarator
  abstract_grounded =
      choosing w (IsAbstract w) (is_star w) _ _ (λ ts h. pointed_grounded ts) (grounded_as w (IsDirect w) (IsAbstract w) (direct w size below rest) is_direct direct_grounded)

pub declarators_grounded : (w : Lexicon) (size : ℕ → Parser Token ExprTree) → ((n : ℕ) → Grounded w (IsExpr w Assignment) (size n)) → (room k : ℕ) → Grounded w (IsAbstract w) (declarators w size room k)
unfolding descent
declarators_grounded w size Size zero k = none_grounded w
declarators_grounded w size Size (suc room) zero = abstract_grounded w size Size room (declarators w size room) (λ k. declarators_grounded w size Size room k)
declarators_grounded w size Size (suc room) (suc k) = declarators_grounded w size Size room k

-- ---- type names

pub type_grounded : (w : Lexicon) (below : ℕ) (part : ℕ → Parts) → ((n : ℕ) → Grounded w (IsExpr w Assignment) (size_at w below part n)) → Grounded w (IsType w) (type_named w below part)
unfolding type_named
type_grounded w below part Size =
    one_by_one w (Based w (is_zero below)) (IsType w) (base_type w (is_zero below)) _ (base_grounded w (is_zero below))
    (λ xs t is. record { rest = []; tree = record { base = t; pieces = [] }; is = is_type xs [] is.value t [] is.is is.gives_it (is_direct [] [] is_nothing_more) })
    (λ xs t is. mapping w (IsAbstract w) (After xs (IsType w)) (declarators w (size_at w below part) (suc below - depth_of_type t) 0) (λ ps. record { base = t; pieces = ps })
    (declarators_grounded w (size_at w below part) Size (suc below - depth_of_type t) 0) (λ ys ps pieces. is_type xs ys is.value t ps is.is is.gives_it pieces))
