-- Where the readers of declarations in a scope stop for want of depth, those of a greater depth go on, by what is known of specifiers, declarators and initialisers.
use Rattle.std.proofs.Common.{◌≡◌, ◌≤◌, ◌+◌, ℕ, suc, Bool, true, false, List, [], ◌∷◌, ◌++◌, length, nat_lt, Option, Some, None, if◌then◌else◌, refl, sym, subst, arith}
use Rattle.sb_base.specs.declared.interning.Name.{Name}
use Rattle.sb_base.specs.declared.refusals.Place.{Place}
use Rattle.sb_base.specs.declared.tokens.Token.{Token}
use Rattle.sb_parse.specs.Parser.{Parser, ◌>>=◌, pure, refuse, token, choose, looped}
use Rattle.sb_tree.specs.Trees as tree
use Rattle.sb_tree.specs.Trees.{TypeTree, OptionalInit, DeclTree, NoteTree}
use Rattle.sb_lexicon.specs.Lexicon.{Lexicon}
use Rattle.sb_lexicon.specs.Tokens.{unexpected, too_deep, misplaced_before, is_comma}
use Rattle.sb_lexicon.proofs.Wider.{Wider, room_wider}
use Rattle.sb_sal.specs.declared.bearer.Bearer.TheVariants as bearer
use Rattle.sb_sal.specs.Readers.{notes_reader}
use Rattle.sb_sal.specs.Spellings.{may_stand}
use Rattle.sb_sal.proofs.Deepening.{Past, Shrinks, Deepens, shrinks_pure, shrinks_token, shrinks_refuse, shrinks_then, shrinks_choose, shrinks_looped, past_bind, still_pure, still_token, still_refuse, in_order, choosing, turning, guarded, enters, open_room}
use Rattle.sb_sal.proofs.Lowered.{not_unexpected}
use Rattle.sb_sal.proofs.NoteDeepening.{notes_deepen}
use Rattle.sb_specifier.specs.declared.seat.Seat.TheVariants as seat
use Rattle.sb_specifier.specs.Specified.{reading, again, Specified, declares_function}
use Rattle.sb_declare.specs.Readers as reader
use Rattle.sb_specifier.specs.Readers.{place_of_base, is_assign, is_semicolon, is_pardon, shows_object, ends_nameless, Declarator, Declarations, Parts, specifiers}
use Rattle.sb_parse.specs.Texts.{with_text}
use Rattle.sb_initialiser.specs.Readers.{initialiser}
use Rattle.sb_declare.specs.Readers.{Opening, Listing, all_stand, pardoned, opening, judged, declarator_in, initialised, next_declarator, rest_of_declaration, nameless, declaration_at}
use Rattle.sb_declarator.specs.Readers.{on}
use Rattle.sb_declarator.proofs.deepening.Members.{shrinks_text, text_deepens}

pardon_not_deep : (k : ℕ) → misplaced_before k ≡ too_deep → ⊥
pardon_not_deep k h = let both : 3000 + k ≡ 32 = h in omega arith

-- ---- readers of something that is the same at each depth

along : {A B : Type 0} (n : ℕ) (f : ℕ → B) (p : ℕ → B → Parser Token A) → ((m : ℕ) → n ≤ m → f m ≡ f n) → Deepens n (λ m. p m (f n)) → Deepens n (λ m. p m (f m))
along n f p E P = record {
  wide = λ m le. subst (λ z. Wider (p n (f n)) (p m z)) (sym (E m le)) (P.wide m le);
  shrinks = λ m le. subst (λ z. Shrinks (p m z)) (sym (E m le)) (P.shrinks m le);
  deeper = λ ts left e.
      let d : (m : ℕ) × (n ≤ m) × Past left (p m (f n) ts) = P.deeper ts left e in
      (d.0, d.1, subst (λ z. Past left (p d.0 z ts)) (sym (E d.0 d.1)) d.2);
}

module _ (texts : List (List ℕ)) (n : ℕ) (part : ℕ → ℕ → Parts)
    (Specifiers : (types : List Name) → Deepens n (λ m. specifiers texts seat.Scope m (part m) types))
    (Declarators : (types : List Name) (functions : Bool) (base : TypeTree) → Deepens n (λ m. on texts m (part m) types functions false base))
    (Initial : (types : List Name) → Deepens n (λ m. initialiser (reading texts types) m)) where
  the_token : (test : Token → Bool) → Deepens n (λ m. token unexpected test)
  the_token test = still_token n unexpected test not_unexpected

  -- ---- annotations and specifiers

  module _ (types : List Name) where
    abbrev w : Lexicon
    w = reading texts types

    abbrev notes_at : ℕ → Parser Token (List NoteTree)
    notes_at k = notes_reader w k (may_stand w bearer.Function)

    abbrev opened_so : List NoteTree × List Token → (Specified × TypeTree) × List Token → Opening
    opened_so notes s = record { outer = types; notes = notes.0; noted = notes.1; specified = s.0.0; base = s.0.1; count = length s.1 }

    abbrev specifiers_at : ℕ → List NoteTree × List Token → Parser Token Opening
    specifiers_at k notes = with_text (specifiers texts seat.Scope k (part k) types) >>= (λ s. pure (opened_so notes s))

    pub opening_deepens : Deepens n (λ m. opening texts m (part m) types)
    unfolding opening
    opening_deepens =
        in_order n (λ m. with_text (notes_at m)) specifiers_at (text_deepens n notes_at (notes_deepen w (may_stand w bearer.Function) n))
        (λ notes. in_order n (λ m. with_text (specifiers texts seat.Scope m (part m) types)) (λ m s. pure (opened_so notes s)) (text_deepens n (λ m. specifiers texts seat.Scope m (part m) types) (Specifiers types))
        (λ s. still_pure n (opened_so notes s)))

    pub opening_deepens_then : {A : Type 0} (q : ℕ → Opening → Parser Token A) → ((o : Opening) → Deepens n (λ m. q m o)) → Deepens n (λ m. opening texts m (part m) types >>= q m)
    opening_deepens_then q Q = in_order n (λ m. opening texts m (part m) types) q opening_deepens Q

  -- ---- the same at each depth

  declared_alike : (o : Opening) (name : Option (Name × Place)) (types : List Name) (m : ℕ) → reader.declared_by texts m (part m) o name types ≡ reader.declared_by texts n (part n) o name types
  declared_alike o None types m = refl
  declared_alike o (Some p) types m = refl

  -- ---- initialisers

  abbrev valued : ℕ → List Name → Token → Parser Token OptionalInit
  valued m types t = initialiser (reading texts types) m >>= (λ i. pure (tree.AnInit i))

  valued_deepens : (types : List Name) (t : Token) → Deepens n (λ m. valued m types t)
  valued_deepens types t = in_order n (λ m. initialiser (reading texts types) m) (λ m i. pure (tree.AnInit i)) (Initial types) (λ i. still_pure n (tree.AnInit i))

  abbrev assigned : ℕ → List Name → Parser Token OptionalInit
  assigned m types = token unexpected (is_assign (reading texts types)) >>= valued m types

  assigned_deepens : (types : List Name) → Deepens n (λ m. assigned m types)
  assigned_deepens types = in_order n (λ m. token unexpected (is_assign (reading texts types))) (λ m. valued m types) (the_token (is_assign (reading texts types))) (valued_deepens types)

  initialised_deepens : (types : List Name) → Deepens n (λ m. initialised texts m (part m) types)
  unfolding initialised
  initialised_deepens types =
      guarded n (is_assign (reading texts types)) (λ m. nat_lt m 2) (λ m. assigned m types) (λ m. pure tree.NoInit) (λ m le h. room_wider n m 2 le h) (open_room n 2) (λ h. assigned_deepens types)
      (λ m le h. (assigned_deepens types).shrinks m le) (λ m le h ts k. enters unexpected (is_assign (reading texts types)) (valued m types) (λ t. (valued_deepens types t).shrinks m le) ts k) (still_pure n tree.NoInit)

  module _ (o : Opening) (base : TypeTree) (ds : List DeclTree) (types : List Name) (d : Declarator × ℕ) where
    -- with the typedef names in force behind the declarator
    abbrev ending_with : ℕ → List Name → Parser Token Listing
    ending_with k now = with_text (initialised texts k (part k) now) >>= (λ i. pure (record { list = ds ++ (reader.declaration_of texts k (part k) o base d.0 i.0 tree.NoStmt ∷ []); types = now; count = d.1 + length i.1 }))

    ending_deepens : (now : List Name) → Deepens n (λ m. ending_with m now)
    ending_deepens now =
        in_order n (λ m. with_text (initialised texts m (part m) now)) (λ m i. pure (record { list = ds ++ (reader.declaration_of texts m (part m) o base d.0 i.0 tree.NoStmt ∷ []); types = now; count = d.1 + length i.1 }))
        (text_deepens n (λ m. initialised texts m (part m) now) (initialised_deepens now))
        (λ i. still_pure n (record { list = ds ++ (reader.declaration_of texts n (part n) o base d.0 i.0 tree.NoStmt ∷ []); types = now; count = d.1 + length i.1 }))

    pub behind_deepens : Deepens n (λ m. reader.behind texts m (part m) o base ds types d)
    unfolding reader.behind
    behind_deepens =
        along n (λ m. reader.declared_by texts m (part m) o d.0.name types) ending_with (λ m le. declared_alike o d.0.name types m) (ending_deepens (reader.declared_by texts n (part n) o d.0.name types))

  -- ---- what follows an opening leaves no more than there was

  module _ (o : Opening) where
    judged_shrinks : {A : Type 0} (m : ℕ) (function : Bool) (count : ℕ) (a : A) → Shrinks (judged texts m (part m) o function count a)
    judged_shrinks {A} m function count a = by_case (all_stand function o.noted)
      where
        by_case : (b : Bool) → Shrinks (if b then pure a else pardoned texts (length o.noted + count) a)
        by_case true = shrinks_pure a
        by_case false =
            shrinks_choose (shows_object (reading texts [])) (refuse (misplaced_before (length o.noted + count))) (token unexpected is_pardon >>= (λ t. pure a)) (shrinks_refuse (misplaced_before (length o.noted + count)))
            (shrinks_then (token unexpected is_pardon) (λ t. pure a) (shrinks_token unexpected is_pardon) (λ t. shrinks_pure a))

    abbrev here : ℕ → List Name → TypeTree → Bool → Parser Token Declarator
    here m types base functions = on texts m (part m) types functions false base

    abbrev judging : ℕ → ℕ → Declarator × List Token → Parser Token Declarator
    judging m count d = judged texts m (part m) o (declares_function d.0.pieces) (count + length d.1) d.0

    -- a declarator, behind which the annotations are judged
    abbrev named_at : ℕ → List Name → TypeTree → ℕ → Bool → Parser Token Declarator
    named_at m types base count functions = with_text (here m types base functions) >>= judging m count

    pub declarator_in_shrinks : (types : List Name) (base : TypeTree) (count m : ℕ) → n ≤ m → Shrinks (declarator_in texts m (part m) o types base count)
    unfolding declarator_in
    declarator_in_shrinks types base count m le =
        let functions : Bool = reader.functions_in o.specified in
        shrinks_then (with_text (named_at m types base count functions)) (λ d. pure (d.0, count + length d.1))
        (shrinks_text (named_at m types base count functions) (shrinks_then (with_text (here m types base functions)) (judging m count) (shrinks_text (here m types base functions) ((Declarators types functions base).shrinks m le))
        (λ d. judged_shrinks m (declares_function d.0.pieces) (count + length d.1) d.0)))
        (λ d. shrinks_pure (d.0, count + length d.1))

    abbrev next_named : ℕ → Listing → Token → Parser Token Listing
    next_named m l t = declarator_in texts m (part m) o l.types (again o.base) (suc l.count) >>= reader.behind texts m (part m) o (again o.base) l.list l.types

    next_named_shrinks : (l : Listing) (t : Token) (m : ℕ) → n ≤ m → Shrinks (next_named m l t)
    next_named_shrinks l t m le =
        shrinks_then (declarator_in texts m (part m) o l.types (again o.base) (suc l.count)) (reader.behind texts m (part m) o (again o.base) l.list l.types) (declarator_in_shrinks l.types (again o.base) (suc l.count) m le)
        (λ d. (behind_deepens o (again o.base) l.list l.types d).shrinks m le)

    next_shrinks : (l : Listing) (m : ℕ) → n ≤ m → Shrinks (next_declarator texts m (part m) o l)
    unfolding next_declarator
    next_shrinks l m le = shrinks_then (token unexpected (is_comma (reading texts l.types))) (next_named m l) (shrinks_token unexpected (is_comma (reading texts l.types))) (λ t. next_named_shrinks l t m le)

    abbrev listing : ℕ → Declarator × ℕ → Parser Token Listing
    listing m d = reader.behind texts m (part m) o o.base [] o.specified.types d >>= looped (is_comma (reading texts o.specified.types)) (next_declarator texts m (part m) o)

    abbrev closing : Listing → Parser Token Declarations
    closing l = token unexpected (is_semicolon (reading texts o.specified.types)) >>= (λ c. pure (record { list = l.list; types = l.types }))

    closing_deepens : (l : Listing) → Deepens n (λ m. closing l)
    closing_deepens l =
        in_order n (λ m. token unexpected (is_semicolon (reading texts o.specified.types))) (λ m c. pure (record { list = l.list; types = l.types })) (the_token (is_semicolon (reading texts o.specified.types)))
        (λ c. still_pure n (record { list = l.list; types = l.types }))

    pub rest_shrinks : (d : Declarator × ℕ) (m : ℕ) → n ≤ m → Shrinks (rest_of_declaration texts m (part m) o d)
    unfolding rest_of_declaration
    rest_shrinks d m le =
        shrinks_then (listing m d) closing
        (shrinks_then (reader.behind texts m (part m) o o.base [] o.specified.types d) (looped (is_comma (reading texts o.specified.types)) (next_declarator texts m (part m) o))
        ((behind_deepens o o.base [] o.specified.types d).shrinks m le) (shrinks_looped (is_comma (reading texts o.specified.types)) (next_declarator texts m (part m) o) (λ l. next_shrinks l m le)))
        (λ l. (closing_deepens l).shrinks m le)

    abbrev ending : Declarations → Parser Token Declarations
    ending ds = token unexpected (is_semicolon (reading texts o.specified.types)) >>= (λ c. pure ds)

    ending_deepens_so : (ds : Declarations) → Deepens n (λ m. ending ds)
    ending_deepens_so ds = in_order n (λ m. token unexpected (is_semicolon (reading texts o.specified.types))) (λ m c. pure ds) (the_token (is_semicolon (reading texts o.specified.types))) (λ c. still_pure n ds)

    pub nameless_shrinks : (place : Place) (m : ℕ) → n ≤ m → Shrinks (nameless texts m (part m) o place)
    unfolding nameless
    nameless_shrinks place m le =
        shrinks_then (judged texts m (part m) o false o.count (reader.nameless_of texts m (part m) o place)) ending (judged_shrinks m false o.count (reader.nameless_of texts m (part m) o place))
        (λ ds. (ending_deepens_so ds).shrinks m le)

  -- ---- what follows an opening that is read at this depth

  module _ (o : Opening) where
    pub judged_deepens : {A : Type 0} (function : Bool) (count : ℕ) (a : A) → Deepens n (λ m. judged texts m (part m) o function count a)
    judged_deepens {A} function count a = by_case (all_stand function o.noted)
      where
        by_case : (b : Bool) → Deepens n (λ m. if b then pure a else pardoned texts (length o.noted + count) a)
        by_case true = still_pure n a
        by_case false =
            choosing n (shows_object (reading texts [])) (λ m. refuse (misplaced_before (length o.noted + count))) (λ m. token unexpected is_pardon >>= (λ t. pure a))
            (still_refuse n (misplaced_before (length o.noted + count)) (pardon_not_deep (length o.noted + count)))
            (in_order n (λ m. token unexpected is_pardon) (λ m t. pure a) (the_token is_pardon) (λ t. still_pure n a))

    pub declarator_in_deepens : (types : List Name) (base : TypeTree) (count : ℕ) → Deepens n (λ m. declarator_in texts m (part m) o types base count)
    unfolding declarator_in
    declarator_in_deepens types base count =
        in_order n (λ m. with_text (named_at o m types base count (reader.functions_in o.specified))) (λ m d. pure (d.0, count + length d.1))
        (text_deepens n (λ m. named_at o m types base count (reader.functions_in o.specified)) named_deepens)
        (λ d. still_pure n (d.0, count + length d.1))
      where
        functions : Bool
        functions = reader.functions_in o.specified

        named_deepens : Deepens n (λ m. named_at o m types base count functions)
        named_deepens =
            in_order n (λ m. with_text (here o m types base functions)) (λ m. judging o m count) (text_deepens n (λ m. here o m types base functions) (Declarators types functions base))
            (λ d. judged_deepens (declares_function d.0.pieces) (count + length d.1) d.0)

    next_deepens : (l : Listing) → Deepens n (λ m. next_declarator texts m (part m) o l)
    unfolding next_declarator
    next_deepens l =
        in_order n (λ m. token unexpected (is_comma (reading texts l.types))) (λ m. next_named o m l) (the_token (is_comma (reading texts l.types)))
        (λ t. in_order n (λ m. declarator_in texts m (part m) o l.types (again o.base) (suc l.count)) (λ m. reader.behind texts m (part m) o (again o.base) l.list l.types)
        (declarator_in_deepens l.types (again o.base) (suc l.count)) (λ d. behind_deepens o (again o.base) l.list l.types d))

    pub rest_deepens : (d : Declarator × ℕ) → Deepens n (λ m. rest_of_declaration texts m (part m) o d)
    unfolding rest_of_declaration
    rest_deepens d =
        in_order n (λ m. listing o m d) (λ m. closing o)
        (in_order n (λ m. reader.behind texts m (part m) o o.base [] o.specified.types d) (λ m. looped (is_comma (reading texts o.specified.types)) (next_declarator texts m (part m) o))
        (behind_deepens o o.base [] o.specified.types d) (turning n (is_comma (reading texts o.specified.types)) (λ m. next_declarator texts m (part m) o) next_deepens))
        (closing_deepens o)

    pub nameless_deepens : (place : Place) → Deepens n (λ m. nameless texts m (part m) o place)
    unfolding nameless
    nameless_deepens place =
        in_order n (λ m. judged texts m (part m) o false o.count (reader.nameless_of texts m (part m) o place)) (λ m. ending o)
        (judged_deepens false o.count (reader.nameless_of texts n (part n) o place)) (ending_deepens_so o)

  -- ---- the whole declaration

  abbrev pub after : List Name → ℕ → Opening → Parser Token Declarations
  after types m o = choose (ends_nameless (reading texts types)) (nameless texts m (part m) o (place_of_base o.base))
      (declarator_in texts m (part m) o o.specified.types o.base o.count >>= rest_of_declaration texts m (part m) o)

  pub after_shrinks : (types : List Name) (m : ℕ) → n ≤ m → (o : Opening) → Shrinks (after types m o)
  after_shrinks types m le o =
      shrinks_choose (ends_nameless (reading texts types)) (nameless texts m (part m) o (place_of_base o.base))
      (declarator_in texts m (part m) o o.specified.types o.base o.count >>= rest_of_declaration texts m (part m) o) (nameless_shrinks o (place_of_base o.base) m le)
      (shrinks_then (declarator_in texts m (part m) o o.specified.types o.base o.count) (rest_of_declaration texts m (part m) o) (declarator_in_shrinks o o.specified.types o.base o.count m le) (λ d. rest_shrinks o d m le))

  pub declaration_deepens : (types : List Name) → Deepens n (λ m. declaration_at texts m (part m) types)
  unfolding declaration_at
  declaration_deepens types = opening_deepens_then types (after types)
      (λ o. choosing n (ends_nameless (reading texts types)) (λ m. nameless texts m (part m) o (place_of_base o.base))
      (λ m. declarator_in texts m (part m) o o.specified.types o.base o.count >>= rest_of_declaration texts m (part m) o)
      (nameless_deepens o (place_of_base o.base))
      (in_order n (λ m. declarator_in texts m (part m) o o.specified.types o.base o.count) (λ m. rest_of_declaration texts m (part m) o) (declarator_in_deepens o o.specified.types o.base o.count) (rest_deepens o)))

  -- where an opening is read past its first token, so is the declaration
  pub declaration_past : (types : List Name) (m : ℕ) → n ≤ m → (left : ℕ) (ts : List Token) → Past left (opening texts m (part m) types ts) → Past left (declaration_at texts m (part m) types ts)
  unfolding declaration_at
  declaration_past types m le left ts P = past_bind (opening texts m (part m) types) (after types m) left ts P (after_shrinks types m le)
