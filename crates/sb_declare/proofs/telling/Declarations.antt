-- Why the readers of declarations in a scope stop.
use Rattle.std.proofs.Common.{◌≡◌, ◌⊎◌, ◌≤◌, ◌+◌, ◌-◌, ℕ, zero, suc, Bool, true, false, ◌||◌, List, [], ◌∷◌, ◌++◌, length, is_some, if◌then◌else◌, refl, sym, ap, ◌∙◌, subst, append_assoc, length-append, inl, inr, arith}
use Rattle.std.specs.Prelude.{take}
use Rattle.sb_base.specs.declared.interning.Name.{Name}
use Rattle.sb_base.specs.declared.tokens.Token.{Token}
use Rattle.sb_parse.specs.Parser.{Outcome, Parser, done, stop, at_next, and_then, ◌>>=◌, pure, token, choose, loop, looped}
use Rattle.sb_parse.specs.Lawful.{Part}
use Rattle.sb_tree.specs.Trees as tree
use Rattle.sb_tree.specs.Trees.{NoteTree, TypeTree, OptionalInit, DeclTree, depth_of_type}
use Rattle.sb_lexicon.specs.Lexicon.{Lexicon}
use Rattle.sb_lexicon.specs.Tokens.{unexpected, misplaced_before, is_comma}
use Rattle.sb_sal.specs.declared.bearer.Bearer.TheVariants as bearer
use Rattle.sb_sal.specs.Notes.{IsNote, is_bare, has_arguments, AreNotes, no_notes, more_notes}
use Rattle.sb_sal.specs.Readers.{notes_reader}
use Rattle.sb_sal.specs.Spellings.{is_listed, may_stand}
use Rattle.sb_parse.proofs.Explaining.{Stops}
use Rattle.sb_specifier.specs.declared.seat.Seat.TheVariants as seat
use Rattle.sb_specifier.specs.Specified.{reading, again, declares_function, bearer_of}
use Rattle.sb_declare.specs.Readers as reader
use Rattle.sb_specifier.specs.Readers.{place_of_base, Declarator, Declarations, Parts, is_pardon, is_semicolon, shows_object, specifiers, ends_nameless}
use Rattle.sb_declare.specs.Readers.{Opening, Listing, all_stand, pardoned, opening, judged, declarator_in, initialised, behind, next_declarator, rest_of_declaration, nameless, declaration_at, declaration_reader, functions_in}
use Rattle.sb_parse.specs.Texts.{with_front, with_text}
use Rattle.sb_declarator.specs.Readers.{on, parts}
use Rattle.sb_specifier.specs.Reasons.{IsMisplaced, Declares, a_name, no_name, misplaced, no_text, IsDeclarationReason, IsRefusedDeclaration}
use Rattle.sb_specifier.specs.Declaration.{IsDeclarator}
use Rattle.sb_specifier.proofs.laws.More.{MembersLaws, ParametersLaws}
use Rattle.sb_parse.proofs.Texts.{front_taken}
use Rattle.sb_declare.proofs.laws.Judging.{pardon_shows_nothing}
use Rattle.sb_declarator.proofs.laws.Members.{again_fits}
use Rattle.sb_declare.proofs.laws.Scoping.{FitsOpening, more_opening, FitsFirst, more_in}
use Rattle.sb_declare.proofs.laws.Scoped.{noted, opening_law, declarator_law, first_law}
use Rattle.sb_specifier.proofs.telling.Shown.{barred_telling}
use Rattle.sb_specifier.proofs.telling.Specifiers.{specifiers_telling}
use Rattle.sb_declare.proofs.telling.Initialised.{initialised_telling}
use Rattle.sb_declarator.proofs.telling.Parts.{TellingParts, on_telling, parts_telling}
use Rattle.sb_specifier.proofs.telling.Reasons.{reasons, notes_telling}
use Rattle.sb_parse.proofs.Telling.{still, Tells, Telling, tells_behind, in_turn, by_choice, one_by_one, stopping, a_token, text_telling}
use Rattle.sb_declarator.proofs.laws.Parts.{members_below, parameters_below}

-- ---- annotations begin with a word that is listed

first_of_note : (w : Lexicon) (may : Token → Bool) (ts : List Token) (n : NoteTree) → IsNote w may ts n → (t : Token) (us : List Token) → ts ≡ t ∷ us → is_listed w t ≡ true
first_of_note w may _ _ (is_bare _ s stands takes) t us e = let same : s ≡ t = cc e in ap (is_listed w) (sym same) ∙ ap is_some takes
first_of_note w may _ _ (has_arguments _ s o c a ts args stands takes opens closes are) t us e = let same : s ≡ t = cc e in ap (is_listed w) (sym same) ∙ ap is_some takes

first_of_notes : (w : Lexicon) (may : Token → Bool) (ts : List Token) (ns : List NoteTree) → AreNotes w may ts ns → (t : Token) (us : List Token) → ts ≡ t ∷ us → is_listed w t ≡ true
first_of_notes w may _ _ no_notes t us e = absurd (cc e)
first_of_notes w may _ _ (more_notes [] ys ns n are is) t us e = first_of_note w may ys n is t us e
first_of_notes w may _ _ (more_notes (x ∷ xs) ys ns n are is) t us e = let same : x ≡ t = cc e in ap (is_listed w) (sym same) ∙ first_of_notes w may (x ∷ xs) ns are x xs refl

module _ (texts : List (List ℕ)) (below : ℕ) (part : ℕ → Parts) (T : (k : ℕ) → TellingParts texts (part k)) (M : MembersLaws texts below part) (P : ParametersLaws texts below part) (some : 1 ≤ below) where
  pub opening_telling : (types : List Name) → Telling (reasons texts) (opening texts below part types)
  unfolding opening
  opening_telling types =
      one_by_one (reasons texts) (with_text (notes_reader (reading texts types) below (may_stand (reading texts types) bearer.Function))) _
      (text_telling (reasons texts) (notes_reader (reading texts types) below (may_stand (reading texts types) bearer.Function)) (notes_telling texts types below bearer.Function)) (λ notes.
      one_by_one (reasons texts) (with_text (specifiers texts seat.Scope below part types)) _
      (text_telling (reasons texts) (specifiers texts seat.Scope below part types) (specifiers_telling texts seat.Scope below part (λ k types. (T k types).0) types)) (λ s. still))

  module _ (types : List Name) (start : List Token) (o : Opening) (f : FitsOpening texts below types start o) where
    -- ---- annotations judged, behind so many tokens

    abbrev plain : Lexicon
    plain = reading texts []

    -- the first of the annotations is misplaced
    first_misplaced : (function : Bool) (count : ℕ) (shown ts : List Token) → count ≡ length shown → Declares texts (bearer_of function) shown ts → all_stand function o.noted ≡ false
        → IsMisplaced texts (o.noted ++ shown) ts (length o.noted + count)
    first_misplaced function count shown ts counted declares = by_tokens o.noted refl
      where
        by_tokens : (us : List Token) → o.noted ≡ us → all_stand function us ≡ false → IsMisplaced texts (o.noted ++ shown) ts (length o.noted + count)
        by_tokens [] e h = absurd (cc h)
        by_tokens (t ∷ us) e h =
            let fits = noted texts below part M P some types start o f in
            let sizes : length o.noted ≡ suc (length us) = ap length e in
            record {
              before = [];
              ahead = [];
              note = t;
              others = us;
              shown = shown;
              outer = o.outer;
              notes = o.notes;
              declared = bearer_of function;
              split = ap (λ z. z ++ shown) e;
              counted = omega arith;
              are_notes = subst (λ z. AreNotes (reading texts o.outer) (may_stand (reading texts o.outer) bearer.Function) z o.notes) e fits.0;
              listed = first_of_notes (reading texts o.outer) (may_stand (reading texts o.outer) bearer.Function) o.noted o.notes fits.0 t us e;
              not_there = ap (λ b. may_stand (reading texts o.outer) (bearer_of b) t) h;
              declares = declares;
            }

    judged_tells : {A : Type 0} (function : Bool) (count : ℕ) (a : A) (shown : List Token) → count ≡ length shown → (ts : List Token) → (at_next (shows_object plain) ts ≡ true → Declares texts (bearer_of function) shown ts)
        → Tells (reasons texts) ((o.noted ++ shown) ++ ts) (judged texts below part o function count a ts)
    judged_tells {A = A} function count a shown counted ts declares = by_stand (all_stand function o.noted) refl
      where
        waits : Telling (reasons texts) (token unexpected is_pardon >>= (λ t. pure a))
        waits = one_by_one (reasons texts) (token unexpected is_pardon) (λ t. pure a) (a_token (reasons texts) is_pardon) (λ t. still)

        by_stand : (b : Bool) → all_stand function o.noted ≡ b → Tells (reasons texts) ((o.noted ++ shown) ++ ts) ((if b then pure a else pardoned texts (length o.noted + count) a) ts)
        by_stand true h = record { front = o.noted ++ shown; split = refl }
        by_stand false h =
            by_choice (reasons texts) (at_next (shows_object plain) ts) (stop (misplaced_before (length o.noted + count)) (length ts)) (and_then (token unexpected is_pardon ts) (λ t. pure a)) ((o.noted ++ shown) ++ ts)
            (λ k. record { front = o.noted ++ shown; bad = ts; split = refl; left_is = refl; why = misplaced (length o.noted + count) (first_misplaced function count shown ts counted (declares k) h) })
            (λ k. tells_behind (reasons texts) {A = A} (o.noted ++ shown) ts (and_then (token unexpected is_pardon ts) (λ t. pure a)) (waits ts))

    -- ---- with how many tokens stand behind the annotations

    pub record CountedFront (all : List Token) (count : ℕ) (rest : List Token) : Type 0 where
      pub shown : List Token
      pub split : all ≡ (o.noted ++ shown) ++ rest
      pub counted : count ≡ length shown

    abbrev pub Counted : {A : Type 0} → (A → ℕ) → List Token → Outcome Token A → Type 0
    Counted count_of all (done a rest) = CountedFront all (count_of a) rest
    Counted count_of all (stop n left) = Stops (IsDeclarationReason texts) all n left

    abbrev pub list_count : Listing → ℕ
    list_count l = l.count

    abbrev pub first_count : Declarator × ℕ → ℕ
    first_count v = v.1

    pub counted_turn : {A B : Type 0} (count_of : A → ℕ) (count_after : B → ℕ) (all : List Token) (q : Outcome Token A) (r : A → Parser Token B) → Counted count_of all q
        → ((a : A) (shown rest : List Token) → all ≡ (o.noted ++ shown) ++ rest → count_of a ≡ length shown → Counted count_after ((o.noted ++ shown) ++ rest) (r a rest)) → Counted count_after all (and_then q r)
    counted_turn count_of count_after all (done a rest) r c R = subst (λ z. Counted count_after z (r a rest)) (sym c.split) (R a c.shown rest c.split c.counted)
    counted_turn count_of count_after all (stop n left) r s R = s

    further_on : (shown front rest ts : List Token) → ts ≡ front ++ rest → (o.noted ++ shown) ++ ts ≡ (o.noted ++ (shown ++ front)) ++ rest
    further_on shown front rest ts split =
        ap (λ z. (o.noted ++ shown) ++ z) split ∙ sym (append_assoc (o.noted ++ shown) front rest) ∙ ap (λ z. z ++ rest) (append_assoc o.noted shown front)

    counted_more : (count : ℕ) (shown front : List Token) → count ≡ length shown → count + length front ≡ length (shown ++ front)
    counted_more count shown front h = let sizes : length (shown ++ front) ≡ length shown + length front = length-append shown front in omega arith

    text_is : (ts front rest : List Token) → ts ≡ front ++ rest → take (length ts - length rest) ts ≡ front
    text_is ts front rest split = ap (λ z. take (length z - length rest) z) split ∙ front_taken front rest

    -- ---- a declarator

    module _ (now : List Name) (base : TypeTree) (deep : depth_of_type base ≤ below) (count : ℕ) (shown : List Token) (counted : count ≡ length shown) (ts : List Token) where
      abbrev functions : Bool
      functions = functions_in o.specified

      abbrev all : List Token
      all = (o.noted ++ shown) ++ ts

      abbrev judging : Declarator × List Token → Parser Token Declarator
      judging d = judged texts below part o (declares_function d.0.pieces) (count + length d.1) d.0

      named_there : (before front rest : List Token) (d : Declarator) → IsDeclarator texts now functions false front d → at_next (shows_object plain) rest ≡ true → Declares texts (bearer_of (declares_function d.pieces)) (before ++ front) rest
      named_there before front [] d is h = absurd (cc h)
      named_there before front (c ∷ rest) d is h = a_name now functions before front rest c d is h

      inner_tells : Tells (reasons texts) all (and_then (with_front ts (on texts below part now functions false base ts)) judging)
      inner_tells = go (on texts below part now functions false base ts) refl (on_telling texts below part T now functions false base ts)
        where
          go : (q : Outcome Token Declarator) → on texts below part now functions false base ts ≡ q → Tells (reasons texts) ts q → Tells (reasons texts) all (and_then (with_front ts q) judging)
          go (stop n left) e s = tells_behind (reasons texts) {A = Declarator} (o.noted ++ shown) ts (stop n left) s
          go (done d rest) e x =
              let u = (declarator_law texts below part M P some types start o f now base deep count).sound ts d rest e in
              let text : take (length ts - length rest) ts ≡ u.front = text_is ts u.front rest u.split in
              subst (λ z. Tells (reasons texts) z (judging (d, take (length ts - length rest) ts) rest)) (sym (further_on shown u.front rest ts u.split))
              (judged_tells (declares_function d.pieces) (count + length (take (length ts - length rest) ts)) d (shown ++ u.front) (ap (λ z. count + length z) text ∙ counted_more count shown u.front counted) rest
              (λ k. named_there shown u.front rest d u.is.is k))

      wrapped : (q : Outcome Token Declarator) → Tells (reasons texts) all q → Tells (reasons texts) {A = Declarator × ℕ} all (and_then (with_front ts q) (λ d. pure (d.0, count + length d.1)))
      wrapped (done d rest) f = f
      wrapped (stop n left) s = s

      pub declarator_counted : Counted first_count all (declarator_in texts below part o now base count ts)
      unfolding declarator_in
      declarator_counted = go (declarator_in texts below part o now base count ts) refl (wrapped (and_then (with_front ts (on texts below part now functions false base ts)) judging) inner_tells)
        where
          go : (q : Outcome Token (Declarator × ℕ)) → declarator_in texts below part o now base count ts ≡ q → Tells (reasons texts) all q → Counted first_count all q
          go (stop n left) e s = s
          go (done v rest) e x =
              let u : Part (FitsFirst texts below o now base count) (more_in texts below o) v ts rest = (first_law texts below part M P some types start o f now base deep count).sound ts v rest e in
              record { shown = shown ++ u.front; split = further_on shown u.front rest ts u.split; counted = u.is.count_is ∙ counted_more count shown u.front counted }

    -- ---- an initialiser behind it

    behind_counted : (now : List Name) (base : TypeTree) (ds : List DeclTree) (v : Declarator × ℕ) (shown : List Token) → v.1 ≡ length shown → (ts : List Token)
        → Counted list_count ((o.noted ++ shown) ++ ts) (behind texts below part o base ds now v ts)
    unfolding behind
    behind_counted now base ds v shown counted ts = go (initialised texts below part inner ts) (initialised_telling texts inner below part ts)
      where
        inner : List Name
        inner = reader.declared_by texts below part o v.0.name now

        go : (q : Outcome Token OptionalInit) → Tells (reasons texts) ts q
            → Counted list_count ((o.noted ++ shown) ++ ts) (and_then (with_front ts q) (λ i. pure (record { list = ds ++ (reader.declaration_of texts below part o base v.0 i.0 tree.NoStmt ∷ []); types = inner; count = v.1 + length i.1 })))
        go (stop n left) s = tells_behind (reasons texts) {A = OptionalInit} (o.noted ++ shown) ts (stop n left) s
        go (done i rest) x =
            record {
              shown = shown ++ x.front;
              split = further_on shown x.front rest ts x.split;
              counted = ap (λ z. v.1 + length z) (text_is ts x.front rest x.split) ∙ counted_more v.1 shown x.front counted;
            }

    -- ---- later declarators

    next_counted : (l : Listing) (shown : List Token) → l.count ≡ length shown → (ts : List Token) → Counted list_count ((o.noted ++ shown) ++ ts) (next_declarator texts below part o l ts)
    unfolding next_declarator
    next_counted l shown counted [] = tells_behind (reasons texts) {A = Listing} (o.noted ++ shown) [] (stop unexpected 0) (stopping (reasons texts) Listing unexpected [] no_text)
    next_counted l shown counted (t ∷ ts) = by_test (is_comma (reading texts l.types) t)
      where
        more : Parser Token Listing
        more = declarator_in texts below part o l.types (again o.base) (suc l.count) >>= behind texts below part o (again o.base) l.list l.types

        counted_so : suc l.count ≡ length (shown ++ (t ∷ []))
        counted_so = let sizes : length (shown ++ (t ∷ [])) ≡ length shown + 1 = length-append shown (t ∷ []) in omega arith

        by_test : (b : Bool) → Counted list_count ((o.noted ++ shown) ++ (t ∷ ts)) (and_then (if b then done t ts else stop unexpected (suc (length ts))) (λ c. more))
        by_test false = tells_behind (reasons texts) {A = Listing} (o.noted ++ shown) (t ∷ ts) (stop unexpected (suc (length ts))) (stopping (reasons texts) Listing unexpected (t ∷ ts) no_text)
        by_test true =
            subst (λ z. Counted list_count z (more ts)) (sym (further_on shown (t ∷ []) ts (t ∷ ts) refl))
            (counted_turn first_count list_count ((o.noted ++ (shown ++ (t ∷ []))) ++ ts) (declarator_in texts below part o l.types (again o.base) (suc l.count) ts) (behind texts below part o (again o.base) l.list l.types)
            (declarator_counted l.types (again o.base) (again_fits below o.base some f.base_deep) (suc l.count) (shown ++ (t ∷ [])) counted_so ts)
            (λ v shown rest split counted. behind_counted l.types (again o.base) l.list v shown counted rest))

    turns_counted : (n : ℕ) (l : Listing) (shown : List Token) → l.count ≡ length shown → (ts : List Token)
        → Counted list_count ((o.noted ++ shown) ++ ts) (loop (is_comma (reading texts o.specified.types)) (next_declarator texts below part o) n l ts)
    unfolding loop
    turns_counted zero l shown counted ts = record { shown = shown; split = refl; counted = counted }
    turns_counted (suc n) l shown counted ts = by_test (at_next (is_comma (reading texts o.specified.types)) ts) (turns_counted n)
      where
        by_test : (b : Bool) → ((l : Listing) (shown : List Token) → l.count ≡ length shown → (ts : List Token)
            → Counted list_count ((o.noted ++ shown) ++ ts) (loop (is_comma (reading texts o.specified.types)) (next_declarator texts below part o) n l ts))
            → Counted list_count ((o.noted ++ shown) ++ ts) (if b then and_then (next_declarator texts below part o l ts) (loop (is_comma (reading texts o.specified.types)) (next_declarator texts below part o) n) else done l ts)
        by_test false later = record { shown = shown; split = refl; counted = counted }
        by_test true later =
            counted_turn list_count list_count ((o.noted ++ shown) ++ ts) (next_declarator texts below part o l ts) (loop (is_comma (reading texts o.specified.types)) (next_declarator texts below part o) n) (next_counted l shown counted ts)
            (λ m shown rest split counted. later m shown counted rest)

    -- ---- the rest, and a declaration without a name

    abbrev finish : Listing → Parser Token Declarations
    finish l = token unexpected (is_semicolon (reading texts o.specified.types)) >>= (λ c. pure (record { list = l.list; types = l.types }))

    finish_telling : (l : Listing) → Telling (reasons texts) (finish l)
    finish_telling l = one_by_one (reasons texts) (token unexpected (is_semicolon (reading texts o.specified.types))) _ (a_token (reasons texts) (is_semicolon (reading texts o.specified.types))) (λ c. still)

    pub rest_tells : (v : Declarator × ℕ) (shown : List Token) → v.1 ≡ length shown → (ts : List Token) → Tells (reasons texts) ((o.noted ++ shown) ++ ts) (rest_of_declaration texts below part o v ts)
    unfolding rest_of_declaration
    rest_tells v shown counted ts =
        finished (and_then (behind texts below part o o.base [] o.specified.types v ts) (looped (is_comma (reading texts o.specified.types)) (next_declarator texts below part o)))
        (counted_turn list_count list_count ((o.noted ++ shown) ++ ts) (behind texts below part o o.base [] o.specified.types v ts) (looped (is_comma (reading texts o.specified.types)) (next_declarator texts below part o))
        (behind_counted o.specified.types o.base [] v shown counted ts) (λ l shown rest split counted. turns_counted (length rest) l shown counted rest))
      where
        finished : (q : Outcome Token Listing) → Counted list_count ((o.noted ++ shown) ++ ts) q → Tells (reasons texts) ((o.noted ++ shown) ++ ts) (and_then q finish)
        finished (stop n left) s = s
        finished (done l rest) c = subst (λ z. Tells (reasons texts) z (finish l rest)) (sym c.split) (tells_behind (reasons texts) (o.noted ++ c.shown) rest (finish l rest) (finish_telling l rest))

    abbrev ends : Token → Bool
    ends = ends_nameless (reading texts types)

    pub nameless_tells : (ts : List Token) → at_next ends ts ≡ true → Tells (reasons texts) ((o.noted ++ f.specified) ++ ts) (nameless texts below part o (place_of_base o.base) ts)
    unfolding nameless
    nameless_tells ts h =
        in_turn (reasons texts) (judged texts below part o false o.count value ts) ending ((o.noted ++ f.specified) ++ ts) (judged_tells false o.count value f.specified f.count_is ts (declares ts h))
        (λ ds rest e xs split. tells_behind (reasons texts) xs rest (ending ds rest) (ending_telling ds rest))
      where
        value : Declarations
        value = reader.nameless_of texts below part o (place_of_base o.base)

        ending : Declarations → Parser Token Declarations
        ending ds = token unexpected (is_semicolon (reading texts o.specified.types)) >>= (λ c. pure ds)

        ending_telling : (ds : Declarations) → Telling (reasons texts) (ending ds)
        ending_telling ds = one_by_one (reasons texts) (token unexpected (is_semicolon (reading texts o.specified.types))) (λ c. pure ds) (a_token (reasons texts) (is_semicolon (reading texts o.specified.types))) (λ c. still)

        declares : (ts : List Token) → at_next ends ts ≡ true → at_next (shows_object plain) ts ≡ true → Declares texts bearer.Object f.specified ts
        declares [] h k = absurd (cc h)
        declares (t ∷ ts) h k = no_name f.specified ts t (one_of (is_semicolon (reading texts types) t) (is_pardon t) refl h)
          where
            one_of : (b c : Bool) → is_pardon t ≡ c → (b || c) ≡ true → b ≡ true
            one_of true c p h = refl
            one_of false true p h = let both : true ≡ false = sym k ∙ pardon_shows_nothing texts t p in absurd (cc both)
            one_of false false p h = absurd (cc h)

    -- ---- what follows an opening

    pub named_tells : (ts : List Token) → Tells (reasons texts) ((o.noted ++ f.specified) ++ ts) (and_then (declarator_in texts below part o o.specified.types o.base o.count ts) (rest_of_declaration texts below part o))
    named_tells ts = go (declarator_in texts below part o o.specified.types o.base o.count ts) (declarator_counted o.specified.types o.base f.base_deep o.count f.specified f.count_is ts)
      where
        go : (q : Outcome Token (Declarator × ℕ)) → Counted first_count ((o.noted ++ f.specified) ++ ts) q → Tells (reasons texts) ((o.noted ++ f.specified) ++ ts) (and_then q (rest_of_declaration texts below part o))
        go (stop n left) s = s
        go (done v rest) c = subst (λ z. Tells (reasons texts) z (rest_of_declaration texts below part o v rest)) (sym c.split) (rest_tells v c.shown c.counted rest)

    pub after_tells : (ts : List Token) → Tells (reasons texts) ((o.noted ++ f.specified) ++ ts) (choose ends (nameless texts below part o (place_of_base o.base))
        (declarator_in texts below part o o.specified.types o.base o.count >>= rest_of_declaration texts below part o) ts)
    after_tells ts = by_choice (reasons texts) (at_next ends ts) _ _ ((o.noted ++ f.specified) ++ ts) (λ h. nameless_tells ts h) (λ h. named_tells ts)

  pub declaration_telling : (types : List Name) → Telling (reasons texts) (declaration_at texts below part types)
  unfolding declaration_at
  declaration_telling types ts = go (opening texts below part types ts) refl (opening_telling types ts)
    where
      after : Opening → Parser Token Declarations
      after o = choose (ends_nameless (reading texts types)) (nameless texts below part o (place_of_base o.base)) (declarator_in texts below part o o.specified.types o.base o.count >>= rest_of_declaration texts below part o)

      go : (q : Outcome Token Opening) → opening texts below part types ts ≡ q → Tells (reasons texts) ts q → Tells (reasons texts) ts (and_then q after)
      go (stop n left) e s = s
      go (done o rest) e x =
          let u : Part (FitsOpening texts below types) (more_opening texts below) o ts rest = (opening_law texts below part M P some types).sound ts o rest e in
          subst (λ z. Tells (reasons texts) z (after o rest)) (sym (u.split ∙ ap (λ z. z ++ rest) (u.is.split ∙ ap (λ z. z ++ u.is.specified) (sym u.is.noted_is)))) (after_tells types u.front o u.is rest)

-- ---- each depth

module _ (texts : List (List ℕ)) where
  pub declarations_telling : (left : ℕ) (types : List Name) → Telling (reasons texts) (declaration_reader texts left types)
  declarations_telling zero types = barred_telling texts types Declarations seat.Scope
  declarations_telling (suc zero) types = barred_telling texts types Declarations seat.Scope
  declarations_telling (suc (suc m)) types = declaration_telling texts (suc m) (parts texts (suc m)) (parts_telling texts (suc m)) (members_below texts (suc m)) (parameters_below texts (suc m)) (omega arith) types

  -- what a declaration is refused for
  pub declaration_reason : (left : ℕ) (types : List Name) (ts : List Token) (n k : ℕ) → declaration_reader texts left types ts ≡ stop n k → IsRefusedDeclaration texts ts n k
  declaration_reason left types ts n k e =
      let s : Stops (IsDeclarationReason texts) ts n k = subst (Tells (reasons texts) ts) e (declarations_telling left types ts) in
      record { front = s.front; bad = s.bad; split = s.split; left_is = s.left_is; reason = s.why }
