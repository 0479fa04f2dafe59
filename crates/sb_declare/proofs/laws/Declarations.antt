-- The readers of declarations in a scope keep the laws at every depth, and what that comes to in the grammar's words.
use Rattle.std.proofs.Common.{◌≡◌, ◌≤◌, ◌+◌, ℕ, suc, Bool, true, false, ◌||◌, ◌&&◌, List, [], ◌∷◌, ◌++◌, length, None, is_some, refl, sym, ap, ◌∙◌, subst, subst₂, append_assoc, inl, inr, arith}
use Rattle.std.specs.Option.{option_map_or}
use Rattle.sb_base.specs.declared.interning.Name.{Name}
use Rattle.sb_base.specs.declared.tokens.Token.{Token}
use Rattle.sb_parse.specs.Parser.{Parser, at_next, never, ◌>>=◌, choose}
use Rattle.sb_parse.specs.Lawful.{Lawful, OnHead, Joined, Closed, Mapped, Either}
use Rattle.sb_parse.proofs.Joining.{in_order, via}
use Rattle.sb_parse.proofs.Heads.{choice_of, headed, head_of_append}
use Rattle.sb_sign.specs.declared.sign.Mark.{Mark}
use Rattle.sb_sign.specs.declared.sign.Mark.TheVariants as mark
use Rattle.sb_tree.specs.Plain.{decl_list, note_list}
use Rattle.sb_sign.specs.Signs as sign
use Rattle.sb_tree.specs.Trees as tree
use Rattle.sb_tree.specs.Trees.{TypeTree, depth_of_notes, depth_of_type, depth_of_decls}
use Rattle.sb_lexicon.specs.Lexicon.{Lexicon, is_mark, is_type_keyword}
use Rattle.sb_lexicon.specs.Tokens.{unexpected, is_open_brace, is_star, is_open, is_open_bracket}
use Rattle.sb_lexicon.proofs.Lexemes.{mark_is, mark_alone, mark_no_keyword}
use Rattle.sb_parse.proofs.Ways.{closing, or_first, or_second, and_fails}
use Rattle.sb_specifier.specs.Specified.{reading, declares_function, names_tag}
use Rattle.sb_declare.specs.Declaration.{IsDeclaration, is_nameless, is_declaration, is_declared, AreDeclared, first_declared, declared_behind, no_initialiser, an_initialiser, IsJudged, may_stand_there, is_pardoned, declaration_of}
use Rattle.sb_declare.specs.Reads.{FitsDeclaration}
use Rattle.sb_specifier.specs.Readers.{Declarator, Declarations, Parts, is_semicolon, is_pardon, is_storage_keyword, is_name, ends_nameless, place_of_base}
use Rattle.sb_declare.specs.Readers.{Opening, judged, declarator_in, rest_of_declaration, nameless, declaration_at}
use Rattle.sb_specifier.proofs.laws.More.{is_suffix, MembersLaws, ParametersLaws, more_specified}
use Rattle.sb_derivation.proofs.laws.Beginnings.{begins_any, head_fails, mark_is_no_name}
use Rattle.sb_declare.proofs.laws.Judging.{pardon_no_mark, pardon_no_keyword, pardon_no_name, JudgedText, judged_law}
use Rattle.sb_declare.proofs.laws.Listed.{declared_fits, fits_declared}
use Rattle.sb_declarator.proofs.laws.Members.{semicolon_token, semicolon_token_is, deep_both, one_deep, deep_one}
use Rattle.sb_declare.proofs.laws.Scoping.{FitsOpening, more_opening, FitsFirst, more_in, IsRest, an_end, another, FitsRest, FitsNameless, nameless_tree}
use Rattle.sb_declare.proofs.laws.Scoped.{plain, no_suffix, no_first, noted, opening_law, first_law, first_begins}
use Rattle.sb_declare.proofs.laws.Rests.{rest_law}
use Rattle.sb_declarator.proofs.laws.Typed.{declarator_no_word, fits_typed}

module _ (texts : List (List ℕ)) where
  -- ---- tokens that go on from no specifiers and begin no declarator

  no_word : (t : Token) → sign.keyword_of texts t ≡ None → is_open_brace (plain texts) t ≡ false → (base : TypeTree) → more_specified (plain texts) base t ≡ false
  no_word t h k base =
      ap (λ o. (option_map_or is_type_keyword o false || option_map_or is_storage_keyword o false) || (names_tag base && is_open_brace (plain texts) t)) h ∙ and_fails (names_tag base) (is_open_brace (plain texts) t) k

  semicolon_no_word : (t : Token) → is_semicolon (plain texts) t ≡ true → (base : TypeTree) → more_specified (plain texts) base t ≡ false
  semicolon_no_word t h =
      no_word t (mark_no_keyword (plain texts) mark.Semicolon t (mark_is (plain texts) mark.Semicolon t h)) (mark_alone (plain texts) mark.Semicolon mark.OpenBrace t (mark_is (plain texts) mark.Semicolon t h) refl)

  pardon_no_word : (t : Token) → is_pardon t ≡ true → (base : TypeTree) → more_specified (plain texts) base t ≡ false
  pardon_no_word t h = no_word t (pardon_no_keyword (plain texts) t h) (pardon_no_mark (plain texts) mark.OpenBrace t h)

  unbegun : (w : Lexicon) (t : Token) → is_star w t ≡ false → is_open w t ≡ false → is_open_bracket w t ≡ false → is_name w t ≡ false → begins_any w t ≡ false
  unbegun w t a b c d = ap (λ z. (z || (is_open w t || is_open_bracket w t)) || is_name w t) a ∙ ap (λ z. (z || is_open_bracket w t) || is_name w t) b ∙ ap (λ z. z || is_name w t) c ∙ d

  begun_no_end : (w : Lexicon) (t : Token) → begins_any w t ≡ true → (is_semicolon w t || is_pardon t) ≡ false
  begun_no_end w t h = by_semicolon (is_semicolon w t) refl
    where
      by_pardon : (b : Bool) → is_pardon t ≡ b → b ≡ false
      by_pardon false k = refl
      by_pardon true k =
          let none = unbegun w t (pardon_no_mark w mark.Star t k) (pardon_no_mark w mark.OpenParenthesis t k) (pardon_no_mark w mark.OpenBracket t k) (ap is_some (pardon_no_name w t k)) in
          absurd (let both : true ≡ false = sym h ∙ none in cc both)

      by_semicolon : (b : Bool) → is_semicolon w t ≡ b → (b || is_pardon t) ≡ false
      by_semicolon false k = by_pardon (is_pardon t) refl
      by_semicolon true k =
          let off : (n : Mark) → sign.is_same_mark n mark.Semicolon ≡ false → is_mark w n t ≡ false = λ n apart. mark_alone w mark.Semicolon n t (mark_is w mark.Semicolon t k) apart in
          let none = unbegun w t (off mark.Star refl) (off mark.OpenParenthesis refl) (off mark.OpenBracket refl) (mark_is_no_name w mark.Semicolon t k) in
          absurd (let both : true ≡ false = sym h ∙ none in cc both)

module _ (texts : List (List ℕ)) (below : ℕ) (part : ℕ → Parts) (M : MembersLaws texts below part) (P : ParametersLaws texts below part) (some : 1 ≤ below) (types : List Name) where
  abbrev w : Lexicon
  w = reading texts types

  abbrev pub ends : Token → Bool
  ends = ends_nameless w

  -- ---- what follows an opening

  module _ (start : List Token) (o : Opening) (f : FitsOpening texts below types start o) where
    -- ---- nothing but an end

    abbrev FitsEnd : List Token → Declarations → Type 0
    FitsEnd = FitsNameless texts below o (place_of_base o.base)

    abbrev nameless_value : Declarations
    nameless_value = nameless_tree texts below o (place_of_base o.base)

    abbrev EndText : List Token → Declarations → Type 0
    EndText = Mapped (λ ds. ds) (Closed (is_semicolon (plain texts)) (JudgedText texts false o.noted nameless_value))

    end_law : Lawful EndText (λ _. never) (nameless texts below part o (place_of_base o.base))
    unfolding nameless
    end_law =
        closing unexpected (is_semicolon (plain texts)) semicolon_token (semicolon_token_is (plain texts))
        (judged_law texts false o.noted o.count nameless_value) (λ ds t h. refl) (λ ds. ds)

    to_end : (ts : List Token) (ds : Declarations) → EndText ts ds → FitsEnd ts ds
    to_end ts ds m = record { judged = m.is.front; closing = m.is.closing; split = m.is.split; judged_is = m.is.is.0; closes = m.is.passes; same = m.same ∙ m.is.is.1 }

    from_end : (ts : List Token) (ds : Declarations) → FitsEnd ts ds → EndText ts ds
    from_end ts ds n = record { value = nameless_value; is = record { front = n.judged; closing = n.closing; split = n.split; is = (n.judged_is, refl); passes = n.closes }; same = n.same }

    end_begins : (ts : List Token) (ds : Declarations) → FitsEnd ts ds → at_next ends ts ≡ true
    end_begins ts ds n = ap (at_next ends) n.split ∙ by_case n.judged n.judged_is
      where
        by_case : (js : List Token) → IsJudged false o.noted js → at_next ends (js ++ (n.closing ∷ [])) ≡ true
        by_case _ (may_stand_there are) = or_first (is_semicolon w n.closing) (is_pardon n.closing) n.closes
        by_case _ (is_pardoned t none h) = or_second (is_semicolon w t) (is_pardon t) h

    pub nameless_head : OnHead ends FitsEnd (λ _. never) (nameless texts below part o (place_of_base o.base))
    nameless_head = headed (via end_law to_end from_end (nameless texts below part o (place_of_base o.base)) (λ ts. refl)) ends end_begins

    pub opening_nameless : (ts : List Token) (ds : Declarations) (later : List Token) → FitsEnd ts ds → at_next (more_opening texts below o) (ts ++ later) ≡ false
    opening_nameless ts ds later n = ap (λ l. at_next (more_opening texts below o) (l ++ later)) n.split ∙ by_case n.judged n.judged_is
      where
        by_case : (js : List Token) → IsJudged false o.noted js → at_next (more_opening texts below o) ((js ++ (n.closing ∷ [])) ++ later) ≡ false
        by_case _ (may_stand_there are) = semicolon_no_word texts n.closing n.closes o.base
        by_case _ (is_pardoned t none h) = pardon_no_word texts t h o.base

    -- ---- a declarator, and the rest

    abbrev pub FirstText : List Token → Declarator × ℕ → Type 0
    FirstText = FitsFirst texts below o o.specified.types o.base o.count

    abbrev here : Lexicon
    here = reading texts o.specified.types

    first_head : (ts : List Token) (v : Declarator × ℕ) → FirstText ts v → at_next (begins_any here) ts ≡ true
    first_head ts v g = first_begins texts below part M P some types start o f o.specified.types o.base f.base_deep o.count ts v g

    pub nameless_off : (ts : List Token) (v : Declarator × ℕ) (later : List Token) → FirstText ts v → at_next ends (ts ++ later) ≡ false
    nameless_off ts v later g = head_fails here (begins_any here) ends (begun_no_end texts here) (ts ++ later) (head_of_append (begins_any here) ts later (first_head ts v g))

    pub opening_first : (ts : List Token) (v : Declarator × ℕ) (later : List Token) → FirstText ts v → at_next (more_opening texts below o) (ts ++ later) ≡ false
    opening_first ts v later g =
        head_fails here (begins_any here) (more_opening texts below o) (declarator_no_word here o.base) (ts ++ later) (head_of_append (begins_any here) ts later (first_head ts v g))

    -- the rest begins with `=`, `,` or `;`
    rest_begins : (d : Declarator) (ts : List Token) (ds : Declarations) → IsRest texts below o d ts ds → (us : List Token) → at_next (is_suffix (plain texts)) us ≡ false → at_next (is_suffix (plain texts)) (ts ++ us) ≡ false
    rest_begins d _ _ (an_end _ _ no_initialiser) us h = h
    rest_begins d _ _ (an_end _ _ (an_initialiser a ts i assigns is)) us h = no_suffix texts mark.Assign refl refl a assigns
    rest_begins d _ _ (another xs ys c ds e now comma is declares) us h =
        ap (at_next (is_suffix (plain texts))) (append_assoc xs (c ∷ ys) us) ∙ rest_begins d xs ds is (c ∷ (ys ++ us)) (no_suffix texts mark.Comma refl refl c comma)

    pub rest_apart : (d : Declarator) (ts : List Token) (ds : Declarations) → FitsRest texts below o d ts ds → (v : Declarator × ℕ) (later : List Token) → at_next (more_in texts below o v) (ts ++ later) ≡ false
    rest_apart d ts ds r v later =
        next_off (ts ++ later)
        (ap (λ l. at_next (is_suffix (plain texts)) (l ++ later)) r.split ∙ ap (at_next (is_suffix (plain texts))) (append_assoc r.front (r.closing ∷ []) later)
        ∙ rest_begins d r.front ds r.is (r.closing ∷ later) (no_suffix texts mark.Semicolon refl refl r.closing r.closes))
      where
        next_off : (us : List Token) → at_next (is_suffix (plain texts)) us ≡ false → at_next (more_in texts below o v) us ≡ false
        next_off [] h = refl
        next_off (u ∷ us) h = no_first texts below o (declares_function v.0.pieces) u h

    abbrev pub RestText : Declarator × ℕ → List Token → Declarations → Type 0
    RestText v = FitsRest texts below o v.0

    abbrev rest_reader : Declarator × ℕ → Parser Token Declarations
    rest_reader v = rest_of_declaration texts below part o v

    named_law : Lawful (Joined FirstText RestText) (λ _. never) (declarator_in texts below part o o.specified.types o.base o.count >>= rest_reader)
    named_law =
        in_order {Second = RestText} {q = rest_reader} (first_law texts below part M P some types start o f o.specified.types o.base f.base_deep o.count) (λ ts v g. rest_law texts below part M P some types start o f ts v g)
        (λ xs v ys ds later first r h. rest_apart v.0 ys ds r v later)

    abbrev pub AfterOpening : List Token → Declarations → Type 0
    AfterOpening = Either FitsEnd (Joined FirstText RestText)

    abbrev after_reader : Parser Token Declarations
    after_reader = choose ends (nameless texts below part o (place_of_base o.base)) (declarator_in texts below part o o.specified.types o.base o.count >>= rest_reader)

    named_apart : (test : Token → Bool) → ((ts : List Token) (v : Declarator × ℕ) (later : List Token) → FirstText ts v → at_next test (ts ++ later) ≡ false) → (ts : List Token) (ds : Declarations) (later : List Token)
        → Joined FirstText RestText ts ds → at_next test (ts ++ later) ≡ false
    named_apart test off ts ds later j = ap (λ l. at_next test (l ++ later)) j.split ∙ ap (at_next test) (append_assoc j.before j.after later) ∙ off j.before j.value (j.after ++ later) j.first

    after_law : Lawful AfterOpening (λ _. never) after_reader
    after_law = choice_of nameless_head named_law (λ ts ds later j h. named_apart ends nameless_off ts ds later j)

    after_apart : (ts : List Token) (ds : Declarations) (later : List Token) → AfterOpening ts ds → at_next (more_opening texts below o) (ts ++ later) ≡ false
    after_apart ts ds later (inl n) = opening_nameless ts ds later n
    after_apart ts ds later (inr j) = named_apart (more_opening texts below o) opening_first ts ds later j

  -- ---- the whole declaration

  abbrev pub After : Opening → List Token → Declarations → Type 0
  After o = Either (FitsNameless texts below o (place_of_base o.base)) (Joined (FitsFirst texts below o o.specified.types o.base o.count) (λ v. FitsRest texts below o v.0))

  abbrev behind_opening : Opening → Parser Token Declarations
  behind_opening o = choose ends (nameless texts below part o (place_of_base o.base)) (declarator_in texts below part o o.specified.types o.base o.count >>= rest_of_declaration texts below part o)

  -- the declarators with what stands behind them
  declarators_are : (o : Opening) (count : ℕ) (xs : List Token) (v : Declarator × ℕ) (g : FitsFirst texts below o o.specified.types o.base count xs v) (ts : List Token) (ds : Declarations) → IsRest texts below o v.0 ts ds
      → AreDeclared texts o.noted o.notes o.specified o.base (g.front ++ (g.judged ++ ts)) ds
  declarators_are o count xs v g _ _ (an_end ts init is) = first_declared (g.front ++ (g.judged ++ ts)) _ _ (is_declared o.specified.types g.front g.judged ts v.0 init g.is.is g.judged_is is)
  declarators_are o count xs v g _ _ (another us ys c ds e now comma is declares) =
      let text : (g.front ++ (g.judged ++ us)) ++ (c ∷ ys) ≡ g.front ++ (g.judged ++ (us ++ (c ∷ ys))) = append_assoc g.front (g.judged ++ us) (c ∷ ys) ∙ ap (λ l. g.front ++ l) (append_assoc g.judged us (c ∷ ys)) in
      subst (λ l. AreDeclared texts o.noted o.notes o.specified o.base l (record { list = ds.list ++ (e ∷ []); types = now })) text
      (declared_behind (g.front ++ (g.judged ++ us)) ys c ds e now comma (declarators_are o count xs v g us ds is) declares)

  record Cut (o : Opening) (ts : List Token) (ds : Declarations) : Type 0 where
    before : List Token
    after : List Token
    value : Declarator × ℕ
    split : ts ≡ before ++ after
    first : FitsFirst texts below o o.specified.types o.base o.count before value
    rest : IsRest texts below o value.0 after ds

  record FitsParts (o : Opening) : Type 0 where
    notes_deep : depth_of_notes (note_list o.notes) ≤ below
    base_deep : depth_of_type o.base ≤ below

  cut : (o : Opening) (ts : List Token) (ds : Declarations) → AreDeclared texts o.noted o.notes o.specified o.base ts ds → depth_of_decls (decl_list ds.list) ≤ suc below → Cut o ts ds × FitsParts o
  cut o _ _ (first_declared _ _ _ (is_declared _ xs js ys d init is judged inits)) deep =
      let fits = fits_declared below o.notes o.specified o.base d init (deep_one (declaration_of o.notes o.specified o.base d init tree.NoStmt) (suc below) deep) in
      let room = fits_typed below o.base d.pieces fits.1 in (
        record {
          before = xs ++ js;
          after = ys;
          value = (d, o.count + length (xs ++ js));
          split = sym (append_assoc xs js ys);
          first = record { front = xs; judged = js; split = refl; is = record { is = is; count = room.1; sizes = room.2 }; judged_is = judged; count_is = refl };
          rest = an_end ys init inits;
        },
        record { notes_deep = fits.0; base_deep = room.0 },
      )
  cut o _ _ (declared_behind xs ys c ds d now comma are declares) deep =
      let both = deep_both ds.list (d ∷ []) (suc below) deep in
      let k = cut o xs ds are both.0 in
      let n = k.0 in (
        record {
          before = n.before;
          after = n.after ++ (c ∷ ys);
          value = n.value;
          split = ap (λ l. l ++ (c ∷ ys)) n.split ∙ append_assoc n.before n.after (c ∷ ys);
          first = n.first;
          rest = another n.after ys c ds d now comma n.rest declares;
        },
        k.1,
      )

  nothing_named : Opening → Declarator
  nothing_named o = record { pieces = []; name = None; inner = types }

  pub to_declaration : (ts : List Token) (ds : Declarations) → Joined (FitsOpening texts below types) After ts ds → FitsDeclaration texts (suc below) types ts ds
  unfolding nothing_named
  to_declaration ts ds j = by_case j.second
    where
      o : Opening
      o = j.value

      f : FitsOpening texts below types j.before j.value
      f = j.first

      by_case : After j.value j.after ds → FitsDeclaration texts (suc below) types ts ds
      by_case (inl n) =
          let text : f.noted ++ (f.specified ++ (n.judged ++ (n.closing ∷ []))) ≡ ts = sym (j.split ∙ ap (λ l. l ++ j.after) f.split ∙ append_assoc f.noted f.specified j.after ∙ ap (λ l. f.noted ++ (f.specified ++ l)) n.split) in
          let whole : nameless_tree texts below j.value (place_of_base j.value.base) ≡ ds = sym n.same in
          let judged_is : IsJudged false f.noted n.judged = subst (λ l. IsJudged false l n.judged) f.noted_is n.judged_is in
          let deep : depth_of_decls (decl_list (nameless_tree texts below j.value (place_of_base j.value.base)).list) ≤ suc below =
          one_deep (declaration_of j.value.notes j.value.specified j.value.base (nothing_named j.value) tree.NoInit tree.NoStmt) (suc below)
          (declared_fits below j.value.notes j.value.specified j.value.base (nothing_named j.value) tree.NoInit f.notes_deep f.base_deep (let none : 0 ≤ below = omega arith in none)) in
          subst₂ (FitsDeclaration texts (suc below) types) text whole
          (is_nameless types f.noted f.specified n.judged n.closing j.value.notes j.value.specified j.value.base f.begins judged_is n.closes, deep)
      by_case (inr k) =
          let g = k.first in
          let r = k.second in
          let are = declarators_are j.value j.value.count k.before k.value g r.front ds r.is in
          let moved : AreDeclared texts f.noted j.value.notes j.value.specified j.value.base (g.front ++ (g.judged ++ r.front)) ds =
          subst (λ l. AreDeclared texts l j.value.notes j.value.specified j.value.base (g.front ++ (g.judged ++ r.front)) ds) f.noted_is are in
          let inner : (g.front ++ (g.judged ++ r.front)) ++ (r.closing ∷ []) ≡ j.after =
          append_assoc g.front (g.judged ++ r.front) (r.closing ∷ []) ∙ ap (λ l. g.front ++ l) (append_assoc g.judged r.front (r.closing ∷ []))
          ∙ sym (k.split ∙ ap (λ l. l ++ k.after) g.split ∙ append_assoc g.front g.judged k.after ∙ ap (λ l. g.front ++ (g.judged ++ l)) r.split) in
          let text : f.noted ++ (f.specified ++ ((g.front ++ (g.judged ++ r.front)) ++ (r.closing ∷ []))) ≡ ts =
          ap (λ l. f.noted ++ (f.specified ++ l)) inner ∙ sym (j.split ∙ ap (λ l. l ++ j.after) f.split ∙ append_assoc f.noted f.specified j.after) in
          subst (λ l. FitsDeclaration texts (suc below) types l ds) text
          (is_declaration types f.noted f.specified (g.front ++ (g.judged ++ r.front)) r.closing j.value.notes j.value.specified j.value.base ds f.begins moved r.closes, r.deep)

  pub from_declaration : (ts : List Token) (ds : Declarations) → IsDeclaration texts types ts ds → depth_of_decls (decl_list ds.list) ≤ suc below → Joined (FitsOpening texts below types) After ts ds
  unfolding nothing_named
  from_declaration _ _ (is_nameless _ xs ys js c notes s base begins judged closes) deep =
      let value : Opening = record { outer = types; notes = notes; noted = xs; specified = s; base = base; count = length ys } in
      let fits = fits_declared below notes s base (nothing_named value) tree.NoInit (deep_one (declaration_of notes s base (nothing_named value) tree.NoInit tree.NoStmt) (suc below) deep) in
      record {
        before = xs ++ ys;
        after = js ++ (c ∷ []);
        value = record { outer = types; notes = notes; noted = xs; specified = s; base = base; count = length ys };
        split = sym (append_assoc xs ys (js ++ (c ∷ [])));
        first = record { noted = xs; specified = ys; split = refl; begins = begins; outer_is = refl; noted_is = refl; count_is = refl; notes_deep = fits.0; base_deep = fits.1 };
        second = inl (record { judged = js; closing = c; split = refl; judged_is = judged; closes = closes; same = refl });
      }
  from_declaration _ _ (is_declaration _ xs ys zs c notes s base ds begins are closes) deep =
      let k = cut (record { outer = types; notes = notes; noted = xs; specified = s; base = base; count = length ys }) zs ds are deep in
      let n = k.0 in
      record {
        before = xs ++ ys;
        after = zs ++ (c ∷ []);
        value = record { outer = types; notes = notes; noted = xs; specified = s; base = base; count = length ys };
        split = sym (append_assoc xs ys (zs ++ (c ∷ [])));
        first = record { noted = xs; specified = ys; split = refl; begins = begins; outer_is = refl; noted_is = refl; count_is = refl; notes_deep = k.1.notes_deep; base_deep = k.1.base_deep };
        second = inr (record {
          before = n.before;
          after = n.after ++ (c ∷ []);
          value = n.value;
          split = ap (λ l. l ++ (c ∷ [])) n.split ∙ append_assoc n.before n.after (c ∷ []);
          first = n.first;
          second = record { front = n.after; closing = c; split = refl; is = n.rest; closes = closes; deep = deep };
        });
      }

  pub declaration_law : Lawful (FitsDeclaration texts (suc below) types) (λ _. never) (declaration_at texts below part types)
  unfolding declaration_at
  declaration_law =
      via (in_order {Second = After} {q = behind_opening} (opening_law texts below part M P some types) (λ start o f. after_law start o f) (λ start o ts ds later f a h. after_apart start o f ts ds later a)) to_declaration
      (λ ts ds f. from_declaration ts ds f.0 f.1) (declaration_at texts below part types) (λ ts. refl)
