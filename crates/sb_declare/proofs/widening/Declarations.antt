-- Readers of declarations in a scope with more room, by what is known of specifiers, declarators and initialisers.
use Rattle.std.proofs.Common.{◌≡◌, ◌≤◌, ◌+◌, ℕ, suc, Bool, false, List, [], ◌∷◌, ◌++◌, length, nat_lt, Option, Some, None, refl, subst}
use Rattle.sb_base.specs.declared.interning.Name.{Name}
use Rattle.sb_base.specs.declared.refusals.Place.{Place}
use Rattle.sb_base.specs.declared.tokens.Token.{Token}
use Rattle.sb_parse.specs.Parser.{Parser, ◌>>=◌, pure, token, choose, looped}
use Rattle.sb_tree.specs.Trees as tree
use Rattle.sb_tree.specs.Trees.{TypeTree, DeclTree, NoteTree}
use Rattle.sb_lexicon.specs.Lexicon.{Lexicon}
use Rattle.sb_lexicon.specs.Tokens.{unexpected, is_comma}
use Rattle.sb_lexicon.proofs.Wider.{Wider, alike, one_by_one, behind, before, guarding, choosing, turning, room_wider}
use Rattle.sb_sal.specs.declared.bearer.Bearer.TheVariants as bearer
use Rattle.sb_sal.specs.Readers.{notes_reader}
use Rattle.sb_sal.specs.Spellings.{may_stand}
use Rattle.sb_sal.proofs.NoteWider.{notes_wider}
use Rattle.sb_specifier.specs.declared.seat.Seat.TheVariants as seat
use Rattle.sb_specifier.specs.Specified.{reading, again, Specified, declares_function}
use Rattle.sb_declare.specs.Readers as reader
use Rattle.sb_specifier.specs.Readers.{place_of_base, is_assign, ends_nameless, Declarator, Declarations, Parts, specifiers}
use Rattle.sb_parse.specs.Texts.{with_text}
use Rattle.sb_initialiser.specs.Readers.{initialiser}
use Rattle.sb_declare.specs.Readers.{Opening, Listing, opening, judged, declarator_in, initialised, next_declarator, rest_of_declaration, nameless, declaration_at}
use Rattle.sb_declarator.specs.Readers.{on}
use Rattle.sb_declarator.proofs.widening.Members.{text_wider}

module _ (texts : List (List ℕ)) (n m : ℕ) (le : n ≤ m) (part more : ℕ → Parts)
    (Specifiers : (types : List Name) → Wider (specifiers texts seat.Scope n part types) (specifiers texts seat.Scope m more types))
    (Declarators : (types : List Name) (functions : Bool) (base : TypeTree) → Wider (on texts n part types functions false base) (on texts m more types functions false base))
    (Initial : (types : List Name) → Wider (initialiser (reading texts types) n) (initialiser (reading texts types) m)) where
  -- ---- annotations and specifiers

  module _ (types : List Name) where
    abbrev w : Lexicon
    w = reading texts types

    abbrev notes_at : ℕ → Parser Token (List NoteTree)
    notes_at k = notes_reader w k (may_stand w bearer.Function)

    abbrev opened_so : List NoteTree × List Token → (Specified × TypeTree) × List Token → Opening
    opened_so notes s = record { outer = types; notes = notes.0; noted = notes.1; specified = s.0.0; base = s.0.1; count = length s.1 }

    abbrev specifiers_at : (k : ℕ) → (ℕ → Parts) → List NoteTree × List Token → Parser Token Opening
    specifiers_at k parts notes = with_text (specifiers texts seat.Scope k parts types) >>= (λ s. pure (opened_so notes s))

    opening_wider : Wider (opening texts n part types) (opening texts m more types)
    unfolding opening
    opening_wider =
        one_by_one (with_text (notes_at n)) (with_text (notes_at m)) (specifiers_at n part) (specifiers_at m more) (text_wider (notes_at n) (notes_at m) (notes_wider w n m le (may_stand w bearer.Function)))
        (λ notes. before (with_text (specifiers texts seat.Scope n part types)) (with_text (specifiers texts seat.Scope m more types)) (λ s. pure (opened_so notes s))
        (text_wider (specifiers texts seat.Scope n part types) (specifiers texts seat.Scope m more types) (Specifiers types)))

    pub opening_then : {A : Type 0} (q r : Opening → Parser Token A) → ((o : Opening) → Wider (q o) (r o)) → Wider (opening texts n part types >>= q) (opening texts m more types >>= r)
    opening_then q r Q = one_by_one (opening texts n part types) (opening texts m more types) q r opening_wider Q

  -- ---- the same at each depth

  declared_alike : (o : Opening) (name : Option (Name × Place)) (types : List Name) → reader.declared_by texts n part o name types ≡ reader.declared_by texts m more o name types
  declared_alike o None types = refl
  declared_alike o (Some p) types = refl

  -- ---- initialisers

  initialised_wider : (types : List Name) → Wider (initialised texts n part types) (initialised texts m more types)
  unfolding initialised
  initialised_wider types =
      choosing (is_assign (reading texts types)) _ _ _ _
      (guarding (nat_lt n 2) (nat_lt m 2) _ _ (room_wider n m 2 le)
      (behind (token unexpected (is_assign (reading texts types))) _ _ (λ t. before (initialiser (reading texts types) n) (initialiser (reading texts types) m) _ (Initial types))))
      (alike (pure tree.NoInit))

  module _ (o : Opening) (base : TypeTree) (ds : List DeclTree) (types : List Name) (d : Declarator × ℕ) where
    -- with the typedef names in force behind the declarator
    abbrev ending_with : (k : ℕ) → (ℕ → Parts) → List Name → Parser Token Listing
    ending_with k parts now = with_text (initialised texts k parts now) >>= (λ i. pure (record { list = ds ++ (reader.declaration_of texts k parts o base d.0 i.0 tree.NoStmt ∷ []); types = now; count = d.1 + length i.1 }))

    ending_wider : (now : List Name) → Wider (ending_with n part now) (ending_with m more now)
    ending_wider now =
        before (with_text (initialised texts n part now)) (with_text (initialised texts m more now))
        (λ i. pure (record { list = ds ++ (reader.declaration_of texts n part o base d.0 i.0 tree.NoStmt ∷ []); types = now; count = d.1 + length i.1 }))
        (text_wider (initialised texts n part now) (initialised texts m more now) (initialised_wider now))

    pub behind_wider : Wider (reader.behind texts n part o base ds types d) (reader.behind texts m more o base ds types d)
    unfolding reader.behind
    behind_wider =
        subst (λ z. Wider (ending_with n part (reader.declared_by texts n part o d.0.name types)) (ending_with m more z)) (declared_alike o d.0.name types) (ending_wider (reader.declared_by texts n part o d.0.name types))

  -- ---- what follows an opening

  module _ (o : Opening) where
    pub judged_wider : {A : Type 0} (function : Bool) (count : ℕ) (a : A) → Wider (judged texts n part o function count a) (judged texts m more o function count a)
    judged_wider function count a = alike (reader.judged_by texts function o.noted count a)

    module _ (types : List Name) (base : TypeTree) (count : ℕ) where
      abbrev here : (k : ℕ) → (ℕ → Parts) → Bool → Parser Token Declarator
      here k parts functions = on texts k parts types functions false base

      abbrev judging : (k : ℕ) → (ℕ → Parts) → Declarator × List Token → Parser Token Declarator
      judging k parts d = judged texts k parts o (declares_function d.0.pieces) (count + length d.1) d.0

      pub declarator_in_wider : Wider (declarator_in texts n part o types base count) (declarator_in texts m more o types base count)
      unfolding declarator_in
      declarator_in_wider =
          before (with_text (with_text (here n part (reader.functions_in o.specified)) >>= judging n part)) (with_text (with_text (here m more (reader.functions_in o.specified)) >>= judging m more))
          (λ d. pure (d.0, count + length d.1))
          (text_wider (with_text (here n part (reader.functions_in o.specified)) >>= judging n part) (with_text (here m more (reader.functions_in o.specified)) >>= judging m more)
          (one_by_one (with_text (here n part (reader.functions_in o.specified))) (with_text (here m more (reader.functions_in o.specified))) (judging n part) (judging m more)
          (text_wider (here n part (reader.functions_in o.specified)) (here m more (reader.functions_in o.specified)) (Declarators types (reader.functions_in o.specified) base))
          (λ d. judged_wider (declares_function d.0.pieces) (count + length d.1) d.0)))

    next_wider : (l : Listing) → Wider (next_declarator texts n part o l) (next_declarator texts m more o l)
    unfolding next_declarator
    next_wider l =
        behind (token unexpected (is_comma (reading texts l.types))) _ _
        (λ t. one_by_one (declarator_in texts n part o l.types (again o.base) (suc l.count)) (declarator_in texts m more o l.types (again o.base) (suc l.count))
        (reader.behind texts n part o (again o.base) l.list l.types) (reader.behind texts m more o (again o.base) l.list l.types)
        (declarator_in_wider l.types (again o.base) (suc l.count)) (λ d. behind_wider o (again o.base) l.list l.types d))

    abbrev listing : (k : ℕ) → (ℕ → Parts) → Declarator × ℕ → Parser Token Listing
    listing k parts d = reader.behind texts k parts o o.base [] o.specified.types d >>= looped (is_comma (reading texts o.specified.types)) (next_declarator texts k parts o)

    pub rest_wider : (d : Declarator × ℕ) → Wider (rest_of_declaration texts n part o d) (rest_of_declaration texts m more o d)
    unfolding rest_of_declaration
    rest_wider d =
        before (listing n part d) (listing m more d) _
        (one_by_one (reader.behind texts n part o o.base [] o.specified.types d) (reader.behind texts m more o o.base [] o.specified.types d)
        (looped (is_comma (reading texts o.specified.types)) (next_declarator texts n part o)) (looped (is_comma (reading texts o.specified.types)) (next_declarator texts m more o))
        (behind_wider o o.base [] o.specified.types d) (turning (is_comma (reading texts o.specified.types)) (next_declarator texts n part o) (next_declarator texts m more o) next_wider))

    pub nameless_wider : (place : Place) → Wider (nameless texts n part o place) (nameless texts m more o place)
    unfolding nameless
    nameless_wider place =
        before (judged texts n part o false o.count (reader.nameless_of texts n part o place)) (judged texts m more o false o.count (reader.nameless_of texts m more o place)) _
        (judged_wider false o.count (reader.nameless_of texts n part o place))

  -- ---- the whole declaration

  abbrev after : List Name → (k : ℕ) → (ℕ → Parts) → Opening → Parser Token Declarations
  after types k parts o = choose (ends_nameless (reading texts types)) (nameless texts k parts o (place_of_base o.base))
      (declarator_in texts k parts o o.specified.types o.base o.count >>= rest_of_declaration texts k parts o)

  pub declaration_wider : (types : List Name) → Wider (declaration_at texts n part types) (declaration_at texts m more types)
  unfolding declaration_at
  declaration_wider types = opening_then types (after types n part) (after types m more) (λ o.
      choosing (ends_nameless (reading texts types)) (nameless texts n part o (place_of_base o.base)) (nameless texts m more o (place_of_base o.base)) _ _
      (nameless_wider o (place_of_base o.base))
      (one_by_one (declarator_in texts n part o o.specified.types o.base o.count) (declarator_in texts m more o o.specified.types o.base o.count) (rest_of_declaration texts n part o) (rest_of_declaration texts m more o)
      (declarator_in_wider o o.specified.types o.base o.count) (rest_wider o)))
