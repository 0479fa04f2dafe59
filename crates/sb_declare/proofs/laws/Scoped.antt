-- The readers of the parts of a declaration in a scope keep the laws.
use Rattle.std.proofs.Common.{◌≡◌, ◌≤◌, ◌+◌, ◌-◌, ℕ, Bool, true, false, ◌||◌, List, [], ◌∷◌, ◌++◌, length, if◌then◌else◌, refl, sym, ap, ◌∙◌, subst, subst₂, arith}
use Rattle.sb_base.specs.declared.interning.Name.{Name}
use Rattle.sb_base.specs.declared.tokens.Token.{Token}
use Rattle.sb_parse.specs.Parser.{Parser, at_next, ◌>>=◌, pure}
use Rattle.sb_parse.specs.Lawful.{Lawful, Follows, Joined, Mapped}
use Rattle.sb_parse.proofs.Joining.{from_there, in_order, via, map_of}
use Rattle.sb_parse.proofs.Heads.{head_of_append}
use Rattle.sb_sign.specs.declared.sign.Mark.{Mark}
use Rattle.sb_sign.specs.declared.sign.Mark.TheVariants as mark
use Rattle.sb_sign.specs.Signs as sign
use Rattle.sb_tree.specs.Trees as tree
use Rattle.sb_tree.specs.Trees.{TypeTree, NoteTree, OptionalInit, DeclTree, depth_of_type}
use Rattle.sb_lexicon.specs.Lexicon.{Lexicon, is_mark}
use Rattle.sb_lexicon.specs.Tokens.{is_open}
use Rattle.sb_lexicon.proofs.Depths.{some_type_depth}
use Rattle.sb_lexicon.proofs.Lexemes.{mark_is, mark_alone}
use Rattle.sb_parse.proofs.Ways.{first_fails, second_fails, and_fails, goes_on_where, following_where, follows_map}
use Rattle.sb_sal.specs.declared.bearer.Bearer.TheVariants as bearer
use Rattle.sb_sal.specs.Notes.{AreNotes}
use Rattle.sb_sal.specs.Reads.{FitsNotes}
use Rattle.sb_sal.specs.Spellings.{may_stand}
use Rattle.sb_sal.proofs.Annotations.{more_notes_behind, lawful_notes}
use Rattle.sb_sal.proofs.Filled.{filled}
use Rattle.sb_specifier.specs.declared.seat.Seat.TheVariants as seat
use Rattle.sb_specifier.specs.Specified.{reading, Specified, declares_function}
use Rattle.sb_declare.specs.Declaration.{IsInitialised, no_initialiser, an_initialiser, IsJudged, may_stand_there, is_pardoned}
use Rattle.sb_declare.specs.Readers as reader
use Rattle.sb_specifier.specs.Readers.{Declarator, Parts, is_assign, is_pardon, specifiers}
use Rattle.sb_declare.specs.Readers.{Opening, Listing, all_stand, opening, judged, declarator_in, initialised, behind, functions_in}
use Rattle.sb_parse.specs.Texts.{with_text}
use Rattle.sb_declarator.specs.Readers.{declarators}
use Rattle.sb_specifier.proofs.laws.More.{is_suffix, more_pieces, more_declarator, FitsDeclarator, MembersLaws, ParametersLaws}
use Rattle.sb_parse.proofs.Texts.{WithText, text_law, text_follows}
use Rattle.sb_declare.proofs.laws.Initialised.{more_initialised, FitsInitialised, initialised_law}
use Rattle.sb_derivation.proofs.laws.Beginnings.{is_nothing_by, begins_any, some_begins}
use Rattle.sb_declarator.proofs.laws.Declarators.{declarators_law}
use Rattle.sb_derivation.proofs.laws.Heads.{begins_specifier, specifiers_begin}
use Rattle.sb_declare.proofs.laws.Judging.{pardon_no_mark, JudgedText, judged_law}
use Rattle.sb_declare.proofs.laws.Listed.{function_of, base_no_function, more_behind, more_listed, is_none, listed_later}
use Rattle.sb_declarator.proofs.laws.Parameter.{after_notes}
use Rattle.sb_declare.proofs.laws.Scoping.{FitsOpening, more_opening, FitsFirst, more_first, more_in}
use Rattle.sb_specifier.proofs.laws.Specifiers.{FitsSpecifiers, specifiers_law}
use Rattle.sb_declarator.proofs.laws.Typed.{is_base, specified_base, has_its_name}

-- ---- marks that go on from no declarator

module _ (texts : List (List ℕ)) where
  abbrev pub plain : Lexicon
  plain = reading texts []

  pub no_suffix : (m : Mark) → sign.is_same_mark mark.OpenBracket m ≡ false → sign.is_same_mark mark.OpenParenthesis m ≡ false → (t : Token) → is_mark plain m t ≡ true → is_suffix plain t ≡ false
  no_suffix m x y t h = ap (λ b. b || is_open plain t) (mark_alone plain m mark.OpenBracket t (mark_is plain m t h) x) ∙ mark_alone plain m mark.OpenParenthesis t (mark_is plain m t h) y

  pub pardon_no_suffix : (t : Token) → is_pardon t ≡ true → is_suffix plain t ≡ false
  pardon_no_suffix t h = ap (λ b. b || is_open plain t) (pardon_no_mark plain mark.OpenBracket t h) ∙ pardon_no_mark plain mark.OpenParenthesis t h

  pub no_first : (below : ℕ) (o : Opening) (function : Bool) (t : Token) → is_suffix plain t ≡ false → more_first texts below o function t ≡ false
  no_first below o function t h = by_test (all_stand function o.noted)
    where
      by_test : (b : Bool) → (if b then is_suffix plain t else false) ≡ false
      by_test true = h
      by_test false = refl

module _ (texts : List (List ℕ)) (below : ℕ) (part : ℕ → Parts) (M : MembersLaws texts below part) (P : ParametersLaws texts below part) (some : 1 ≤ below) where
  -- ---- annotations and specifiers

  module _ (types : List Name) where
    abbrev w : Lexicon
    w = reading texts types

    abbrev Notes : List Token → List NoteTree × List Token → Type 0
    Notes = WithText (FitsNotes w below (may_stand w bearer.Function))

    abbrev opened_so : List NoteTree × List Token → (Specified × TypeTree) × List Token → Opening
    opened_so notes s = record { outer = types; notes = notes.0; noted = notes.1; specified = s.0.0; base = s.0.1; count = length s.1 }

    abbrev SpecifiersText : List NoteTree × List Token → List Token → Opening → Type 0
    SpecifiersText notes = Mapped (opened_so notes) (WithText (FitsSpecifiers texts seat.Scope below types))

    abbrev specifiers_reader : List NoteTree × List Token → Parser Token Opening
    specifiers_reader notes = with_text (specifiers texts seat.Scope below part types) >>= (λ s. pure (opened_so notes s))

    behind_notes : (notes : List NoteTree × List Token) → Lawful (SpecifiersText notes) (more_opening texts below) (specifiers_reader notes)
    behind_notes notes = map_of (text_law (specifiers_law texts seat.Scope below part M types some)) (opened_so notes) (more_opening texts below) (λ s t. refl)

    notes_apart : (notes : List NoteTree × List Token) (ys : List Token) (o : Opening) (later : List Token) → SpecifiersText notes ys o → at_next (more_notes_behind w notes.0) (ys ++ later) ≡ false
    notes_apart notes ys o later m =
        after_notes w notes.0 (ys ++ later) (head_of_append (begins_specifier w) ys later (specifiers_begin texts seat.Scope types ys m.value.0.0 m.value.0.1 m.is.0.are m.is.0.named))

    to_opening : (ts : List Token) (o : Opening) → Joined Notes SpecifiersText ts o → FitsOpening texts below types ts o
    to_opening ts o j =
        let m = j.second in
        subst (FitsOpening texts below types ts) (sym m.same) (record {
          noted = j.before;
          specified = j.after;
          split = j.split;
          begins = record { are_notes = j.first.0.0; are_specifiers = m.is.0.are; names = m.is.0.named };
          outer_is = refl;
          noted_is = j.first.1;
          count_is = ap length m.is.1;
          notes_deep = j.first.0.1;
          base_deep = m.is.0.deep_enough;
        })

    opening_as : (o : Opening) (noted : List Token) (count : ℕ) → o.outer ≡ types → o.noted ≡ noted → o.count ≡ count → o ≡ record { outer = types; notes = o.notes; noted = noted; specified = o.specified; base = o.base; count = count }
    opening_as o noted count e f g =
        ap (λ z. record { outer = z; notes = o.notes; noted = o.noted; specified = o.specified; base = o.base; count = o.count }) e
        ∙ ap (λ z. record { outer = types; notes = o.notes; noted = z; specified = o.specified; base = o.base; count = o.count }) f
        ∙ ap (λ z. record { outer = types; notes = o.notes; noted = noted; specified = o.specified; base = o.base; count = z }) g

    from_opening : (ts : List Token) (o : Opening) → FitsOpening texts below types ts o → Joined Notes SpecifiersText ts o
    from_opening ts o f = record {
      before = f.noted;
      after = f.specified;
      value = (o.notes, f.noted);
      split = f.split;
      first = ((f.begins.are_notes, f.notes_deep), refl);
      second = record {
        value = ((o.specified, o.base), f.specified);
        is = (record { are = f.begins.are_specifiers; named = f.begins.names; deep_enough = f.base_deep }, refl);
        same = opening_as o f.noted (length f.specified) f.outer_is f.noted_is f.count_is;
      };
    }

    pub opening_law : Lawful (FitsOpening texts below types) (more_opening texts below) (opening texts below part types)
    unfolding opening
    opening_law =
        via (in_order {Second = SpecifiersText} {q = specifiers_reader} (text_law (lawful_notes w below (may_stand w bearer.Function) (filled w bearer.Function))) (λ xs notes is. behind_notes notes)
        (λ xs notes ys o later first second h. notes_apart notes ys o later second)) to_opening from_opening (opening texts below part types) (λ ts. refl)

  -- ---- what follows an opening

  module _ (types : List Name) (start : List Token) (o : Opening) (f : FitsOpening texts below types start o) where
    pub noted : FitsNotes (reading texts o.outer) below (may_stand (reading texts o.outer) bearer.Function) o.noted o.notes
    noted = (subst₂ (λ n l. AreNotes (reading texts n) (may_stand (reading texts n) bearer.Function) l o.notes) (sym f.outer_is) (sym f.noted_is) f.begins.are_notes, f.notes_deep)

    pub base_is : is_base o.base ≡ true
    base_is = specified_base texts seat.Scope types f.specified o.specified o.base f.begins.are_specifiers f.begins.names

    -- ---- a declarator

    module _ (now : List Name) (base : TypeTree) (deep : depth_of_type base ≤ below) (count : ℕ) where
      abbrev here : Lexicon
      here = reading texts now

      abbrev Fits : List Token → Declarator → Type 0
      Fits = FitsDeclarator texts now (functions_in o.specified) false below (below - depth_of_type base)

      abbrev Judgement : Declarator × List Token → List Token → Declarator → Type 0
      Judgement v = JudgedText texts (declares_function v.0.pieces) o.noted v.0

      abbrev judging : Declarator × List Token → Parser Token Declarator
      judging v = judged texts below part o (declares_function v.0.pieces) (count + length v.1) v.0

      abbrev more_of : Declarator → Token → Bool
      more_of d = more_first texts below o (declares_function d.pieces)

      named_more : (ts : List Token) (d : Declarator) → Fits ts d → (u : Token) → is_suffix (plain texts) u ≡ more_declarator here d u
      named_more ts d g u = let n = has_its_name texts now (functions_in o.specified) ts d g.is in sym (ap (λ m. more_pieces here m d.pieces u) n.1)

      pub declarator_law : Lawful Fits (λ d. is_suffix (plain texts)) (declarators here (functions_in o.specified) false below part (below - depth_of_type base) 0)
      declarator_law =
          let flat : 1 ≤ depth_of_type base = some_type_depth base in
          goes_on_where (declarators_law texts now (functions_in o.specified) false (and_fails (functions_in o.specified) false refl) below part (λ h. P) (below - depth_of_type base) (omega arith)) (λ d. is_suffix (plain texts)) named_more

      stands_more : (v : Declarator × List Token) → all_stand (declares_function v.0.pieces) o.noted ≡ true → (d : Declarator) → d ≡ v.0 → (t : Token) → more_of d t ≡ is_suffix (plain texts) t
      stands_more v are d same t = ap (λ z. more_of z t) same ∙ ap (λ b. if b then is_suffix (plain texts) t else false) are

      falls_more : (v : Declarator × List Token) → all_stand (declares_function v.0.pieces) o.noted ≡ false → (d : Declarator) → d ≡ v.0 → (t : Token) → more_of d t ≡ false
      falls_more v none d same t = ap (λ z. more_of z t) same ∙ ap (λ b. if b then is_suffix (plain texts) t else false) none

      next_as : (test other : Token → Bool) → ((t : Token) → test t ≡ other t) → (ts : List Token) → at_next test ts ≡ at_next other ts
      next_as test other each [] = refl
      next_as test other each (t ∷ ts) = each t

      next_off : (test : Token → Bool) → ((t : Token) → test t ≡ false) → (ts : List Token) → at_next test ts ≡ false
      next_off test each [] = refl
      next_off test each (t ∷ ts) = each t

      judging_follows : (v : Declarator × List Token) → Follows (is_suffix (plain texts)) (Judgement v) more_of (judging v)
      judging_follows v =
          following_where (judged_law texts (declares_function v.0.pieces) o.noted (count + length v.1) v.0) (is_suffix (plain texts)) more_of (λ ts d is t h. refl)
          (λ ts d later is off h. enough ts d later is.0 is.1 off)
        where
          enough : (ts : List Token) (d : Declarator) (later : List Token) → IsJudged (declares_function v.0.pieces) o.noted ts → d ≡ v.0
              → at_next (is_suffix (plain texts)) (ts ++ later) ≡ false → at_next (more_of d) later ≡ false
          enough _ d later (may_stand_there are) same off = next_as (more_of d) (is_suffix (plain texts)) (stands_more v are d same) later ∙ off
          enough _ d later (is_pardoned t none h) same off = next_off (more_of d) (falls_more v none d same) later

      judgement_apart : (v : Declarator × List Token) (ys : List Token) (d : Declarator) (later : List Token) → IsJudged (declares_function v.0.pieces) o.noted ys → d ≡ v.0
          → at_next (more_of d) later ≡ false → at_next (is_suffix (plain texts)) (ys ++ later) ≡ false
      judgement_apart v _ d later (may_stand_there are) same h = sym (next_as (more_of d) (is_suffix (plain texts)) (stands_more v are d same) later) ∙ h
      judgement_apart v _ d later (is_pardoned t none k) same h = pardon_no_suffix texts t k

      inner_law : Lawful (Joined (WithText Fits) Judgement) more_of (with_text (declarators here (functions_in o.specified) false below part (below - depth_of_type base) 0) >>= judging)
      inner_law = from_there {Second = Judgement} {q = judging} (text_law declarator_law) (λ xs v is. judging_follows v) (λ xs v ys d later first second h. judgement_apart v ys d later second.0 second.1 h)

      abbrev counted : Declarator × List Token → Declarator × ℕ
      counted v = (v.0, count + length v.1)

      to_first : (ts : List Token) (u : Declarator × ℕ) → Mapped counted (WithText (Joined (WithText Fits) Judgement)) ts u → FitsFirst texts below o now base count ts u
      to_first ts u m =
          let j = m.is.0 in
          let is : FitsDeclarator texts now (functions_in o.specified) false below (below - depth_of_type base) j.before m.value.0 = subst (Fits j.before) (sym j.second.1) j.first.0 in
          let judged_is : IsJudged (declares_function m.value.0.pieces) o.noted j.after =
          subst (λ d. IsJudged (declares_function d.pieces) o.noted j.after) (sym j.second.1) j.second.0 in
          subst (FitsFirst texts below o now base count ts) (sym m.same) (record { front = j.before; judged = j.after; split = j.split; is = is; judged_is = judged_is; count_is = ap (λ l. count + length l) m.is.1 })

      from_first : (ts : List Token) (u : Declarator × ℕ) → FitsFirst texts below o now base count ts u → Mapped counted (WithText (Joined (WithText Fits) Judgement)) ts u
      from_first ts u g = record {
        value = (u.0, ts);
        is = (record { before = g.front; after = g.judged; value = (u.0, g.front); split = g.split; first = (g.is, refl); second = (g.judged_is, refl) }, refl);
        same = ap (λ z. (u.0, z)) g.count_is;
      }

      pub first_law : Lawful (FitsFirst texts below o now base count) (more_in texts below o) (declarator_in texts below part o now base count)
      unfolding declarator_in
      first_law =
          via (map_of (text_law inner_law) counted (more_in texts below o) (λ v t. refl)) to_first from_first (declarator_in texts below part o now base count) (λ ts. refl)

      -- with what a declarator begins
      pub first_begins : (ts : List Token) (u : Declarator × ℕ) → FitsFirst texts below o now base count ts u → at_next (begins_any here) ts ≡ true
      first_begins ts u g =
          let n = has_its_name texts now (functions_in o.specified) g.front u.0 g.is.is in
          ap (at_next (begins_any here)) g.split ∙ head_of_append (begins_any here) g.front g.judged (some_begins texts now (functions_in o.specified) false g.front u.0 g.is.is (ap (λ m. is_nothing_by m u.0.pieces) n.1))

      -- ---- what may follow it

      module _ (ds : List DeclTree) where
        abbrev pub inner : Declarator × ℕ → List Name
        inner v = reader.declared_by texts below part o v.0.name now

        abbrev pub listing : Declarator × ℕ → OptionalInit × List Token → Listing
        listing v i = record { list = ds ++ (reader.declaration_of texts below part o base v.0 i.0 tree.NoStmt ∷ []); types = inner v; count = v.1 + length i.1 }

        abbrev pub BehindText : Declarator × ℕ → List Token → Listing → Type 0
        BehindText v = Mapped (listing v) (WithText (FitsInitialised (reading texts (inner v)) below))

        abbrev pub more_listing : Listing → Token → Bool
        more_listing l = more_listed texts below o (reading texts l.types) l.list

        init_law : (v : Declarator × ℕ) → Lawful (FitsInitialised (reading texts (inner v)) below) (more_initialised (reading texts (inner v))) (initialised texts below part (inner v))
        init_law v = initialised_law texts below part (inner v)

        -- behind the first declarator
        pub alone_law : ds ≡ [] → (v : Declarator × ℕ) → Lawful (BehindText v) more_listing (behind texts below part o base ds now v)
        unfolding behind
        alone_law none v = map_of (text_law (init_law v)) (listing v) more_listing (λ i t. same i.0 t)
          where
            same : (init : OptionalInit) (t : Token) → more_listed texts below o (reading texts (inner v)) (ds ++ (reader.declaration_of texts below part o base v.0 init tree.NoStmt ∷ [])) t ≡ more_initialised (reading texts (inner v)) init t
            same init t = ap (λ l. more_listed texts below o (reading texts (inner v)) (l ++ (reader.declaration_of texts below part o base v.0 init tree.NoStmt ∷ [])) t) none

        -- behind a later one
        module _ (plainly : is_base base ≡ true) (later : is_none texts below o ds ≡ false) where
          listing_more : (v : Declarator × ℕ) (init : OptionalInit) (t : Token)
              → more_listed texts below o (reading texts (inner v)) (ds ++ (reader.declaration_of texts below part o base v.0 init tree.NoStmt ∷ [])) t ≡ more_behind texts below o (reading texts (inner v)) (declares_function v.0.pieces) init t
          listing_more v init t =
              listed_later texts below o (reading texts (inner v)) ds (reader.declaration_of texts below part o base v.0 init tree.NoStmt) t later
              ∙ ap (λ b. more_behind texts below o (reading texts (inner v)) b init t) (function_of v.0.pieces base (base_no_function base plainly))

          listing_next : (v : Declarator × ℕ) (i : OptionalInit × List Token) (later : List Token) → at_next (more_listing (listing v i)) later ≡ at_next (more_behind texts below o (reading texts (inner v)) (declares_function v.0.pieces) i.0) later
          listing_next v i [] = refl
          listing_next v i (t ∷ later) = listing_more v i.0 t

          assign_off : (t : Token) → is_assign (plain texts) t ≡ true → (function : Bool) → more_first texts below o function t ≡ false
          assign_off t h function = no_first texts below o function t (no_suffix texts mark.Assign refl refl t h)

          later_follows : (v : Declarator × ℕ) → Follows (more_in texts below o v) (BehindText v) more_listing (behind texts below part o base ds now v)
          unfolding behind
          later_follows v =
              follows_map (text_follows (following_where (init_law v) (more_in texts below o v) (more_behind texts below o (reading texts (inner v)) (declares_function v.0.pieces)) (λ ts init is t h. fewer init t h) (λ ts init rest is off h. enough ts init rest is.0 off h)))
              (listing v) more_listing (λ i t. listing_more v i.0 t)
            where
              fewer : (init : OptionalInit) (t : Token) → more_behind texts below o (reading texts (inner v)) (declares_function v.0.pieces) init t ≡ false → more_initialised (reading texts (inner v)) init t ≡ false
              fewer tree.NoInit t h = first_fails (is_assign (plain texts) t) (more_first texts below o (declares_function v.0.pieces) t) h
              fewer (tree.AnInit i) t h = h

              neither : (rest : List Token) → at_next (more_in texts below o v) rest ≡ false → at_next (is_assign (plain texts)) rest ≡ false
                  → at_next (more_behind texts below o (reading texts (inner v)) (declares_function v.0.pieces) tree.NoInit) rest ≡ false
              neither [] off h = refl
              neither (t ∷ rest) off h = ap (λ b. b || more_first texts below o (declares_function v.0.pieces) t) h ∙ off

              enough : (ts : List Token) (init : OptionalInit) (rest : List Token) → IsInitialised (reading texts (inner v)) ts init → at_next (more_in texts below o v) (ts ++ rest) ≡ false
                  → at_next (more_initialised (reading texts (inner v)) init) rest ≡ false → at_next (more_behind texts below o (reading texts (inner v)) (declares_function v.0.pieces) init) rest ≡ false
              enough _ _ rest no_initialiser off h = neither rest off h
              enough _ _ rest (an_initialiser a ts i assigns is) off h = h

          behind_apart : (v : Declarator × ℕ) (ys : List Token) (l : Listing) (rest : List Token) → BehindText v ys l → at_next (more_listing l) rest ≡ false → at_next (more_in texts below o v) (ys ++ rest) ≡ false
          behind_apart v ys l rest m h = by_case ys m.value.0 m.is.0.0 (sym (listing_next v m.value rest) ∙ sym (ap (λ z. at_next (more_listing z) rest) m.same) ∙ h)
            where
              second : (rest : List Token) → at_next (more_behind texts below o (reading texts (inner v)) (declares_function v.0.pieces) tree.NoInit) rest ≡ false → at_next (more_in texts below o v) rest ≡ false
              second [] h = refl
              second (t ∷ rest) h = second_fails (is_assign (plain texts) t) (more_first texts below o (declares_function v.0.pieces) t) h

              by_case : (ys : List Token) (init : OptionalInit) → IsInitialised (reading texts (inner v)) ys init → at_next (more_behind texts below o (reading texts (inner v)) (declares_function v.0.pieces) init) rest ≡ false
                  → at_next (more_in texts below o v) (ys ++ rest) ≡ false
              by_case _ _ no_initialiser h = second rest h
              by_case _ _ (an_initialiser a ts i assigns is) h = assign_off a assigns (declares_function v.0.pieces)

          abbrev pub LaterText : List Token → Listing → Type 0
          LaterText = Joined (FitsFirst texts below o now base count) BehindText

          pub later_law : Lawful LaterText more_listing (declarator_in texts below part o now base count >>= behind texts below part o base ds now)
          later_law = from_there {Second = BehindText} {q = behind texts below part o base ds now} first_law (λ xs v is. later_follows v) (λ xs v ys l rest is m h. behind_apart v ys l rest m h)
