-- The readers of structures and enumerations keep the laws, if those of members do.
use Rattle.std.proofs.Common.{◌≡◌, ◌≤◌, ◌+◌, ◌-◌, ℕ, suc, Bool, true, false, ◌&&◌, not, max, List, [], ◌∷◌, ◌++◌, nat_lt, Option, Some, None, is_some, refl, sym, ap, ◌∙◌, subst, inl, inr, arith}
use Rattle.std.proofs.Math.Nat.{le-max_left, le-max_right, max-le}
use Rattle.sb_base.specs.declared.interning.Name.{Name}
use Rattle.sb_base.specs.declared.refusals.Place.{Place}
use Rattle.sb_base.specs.declared.tokens.Token.{Token}
use Rattle.sb_parse.specs.Parser.{Parser, at_next, ◌>>=◌, pure, token, taken, choose}
use Rattle.sb_parse.specs.Lawful.{Lawful, OnHead, Begun, IsEmpty, Mapped, Opened, Closed, Unbarred, Either}
use Rattle.sb_parse.proofs.Joining.{via}
use Rattle.sb_parse.proofs.Heads.{opened, opened_heads, begun, at_head, guarded, choice_of, perhaps_of}
use Rattle.sb_sign.specs.declared.sign.Keyword.{Keyword}
use Rattle.sb_sign.specs.declared.sign.Mark.TheVariants as mark
use Rattle.sb_tree.specs.Plain.{decl_list, item_list, note_list}
use Rattle.sb_tree.specs.Trees as tree
use Rattle.sb_tree.specs.Trees.{TypeTree, DeclTree, NoteTree, depth_of_notes, depth_of_type, depth_of_decl, depth_of_decls}
use Rattle.sb_lexicon.specs.Lexicon.{Lexicon, is_keyword}
use Rattle.sb_operand.specs.Pieces.{typed}
use Rattle.sb_lexicon.specs.Tokens.{unexpected, too_deep, is_open_brace}
use Rattle.sb_lexicon.specs.Words.{Whole, is_nothing}
use Rattle.sb_lexicon.proofs.Depths.{some_type_depth, within_room}
use Rattle.sb_lexicon.proofs.Lexemes.{name_token, name_token_is}
use Rattle.sb_parse.proofs.Ways.{and_first, and_second, closing, goes_on_where}
use Rattle.sb_specifier.specs.declared.seat.Seat.{Seat}
use Rattle.sb_specifier.specs.Specified.{Specified, reading, saying, scoped, one_if, names_tag, is_tag_alone, again}
use Rattle.sb_specifier.specs.Declaration.{IsTag, is_untagged, is_tagged, AreMembers, first_members, members_behind, IsMember, is_member, AreMemberDeclarators, first_member, member_behind, simple_decl, nowhere}
use Rattle.sb_specifier.specs.Readers.{Parts, Items, Declarator, Declarations, is_close_brace, name_at, items, structure, enumeration, tagged, begins_tag}
use Rattle.sb_specifier.proofs.laws.Enumerations.{FitsItems, items_law, brace_ends_items}
use Rattle.sb_specifier.proofs.laws.Names.{close_brace_token, close_brace_token_is, named_at, at_name, name_off}
use Rattle.sb_specifier.proofs.laws.More.{FitsMembers, more_members}

-- ---- members are at least two deep

front_deep : (xs ys : List DeclTree) → depth_of_decls (decl_list xs) ≤ depth_of_decls (decl_list (xs ++ ys))
front_deep [] ys = omega arith
front_deep (d ∷ xs) ys =
    let rest : depth_of_decls (decl_list xs) ≤ depth_of_decls (decl_list (xs ++ ys)) = front_deep xs ys in
    let first : depth_of_decl d ≤ max (depth_of_decl d) (depth_of_decls (decl_list (xs ++ ys))) = le-max_left (depth_of_decl d) (depth_of_decls (decl_list (xs ++ ys))) in
    let second : depth_of_decls (decl_list (xs ++ ys)) ≤ max (depth_of_decl d) (depth_of_decls (decl_list (xs ++ ys))) = le-max_right (depth_of_decl d) (depth_of_decls (decl_list (xs ++ ys))) in
    max-le first (omega arith)

decl_deep : (place : Place) (notes : List NoteTree) (base : TypeTree) (d : Declarator) → 2 ≤ depth_of_decls (decl_list (simple_decl place notes base d ∷ []))
decl_deep place notes base d =
    let some : 1 ≤ depth_of_type (typed base d.pieces) = some_type_depth (typed base d.pieces) in
    let inner : depth_of_type (typed base d.pieces) ≤ max (depth_of_type (typed base d.pieces)) (max 0 0) = le-max_left (depth_of_type (typed base d.pieces)) (max 0 0) in
    let outer : max (depth_of_type (typed base d.pieces)) (max 0 0) ≤ max (depth_of_notes (note_list notes)) (max (depth_of_type (typed base d.pieces)) (max 0 0)) = le-max_right (depth_of_notes (note_list notes)) (max (depth_of_type (typed base d.pieces)) (max 0 0)) in
    let whole : depth_of_decl (simple_decl place notes base d) ≤ max (depth_of_decl (simple_decl place notes base d)) 0 = le-max_left (depth_of_decl (simple_decl place notes base d)) 0 in
    omega arith

declarators_deep : (texts : List (List ℕ)) (types : List Name) (notes : List NoteTree) (base : TypeTree) (ts : List Token) (ds : List DeclTree) → AreMemberDeclarators texts types notes base ts ds → 2 ≤ depth_of_decls (decl_list ds)
declarators_deep texts _ _ _ _ _ (first_member types notes base ts d is) = decl_deep nowhere notes base d
declarators_deep texts _ _ _ _ _ (member_behind types notes base xs ys c ds d comma are is) =
    let some : 2 ≤ depth_of_decls (decl_list ds) = declarators_deep texts types notes base xs ds are in
    let more : depth_of_decls (decl_list ds) ≤ depth_of_decls (decl_list (ds ++ (simple_decl nowhere notes (again base) d ∷ []))) = front_deep ds (simple_decl nowhere notes (again base) d ∷ []) in
    omega arith

member_deep : (texts : List (List ℕ)) (types : List Name) (ts : List Token) (ds : Declarations) → IsMember texts types ts ds → 2 ≤ depth_of_decls (decl_list ds.list)
member_deep texts _ _ _ (is_member types xs ys zs c notes s base ds noted specified named are ends) = declarators_deep texts s.types notes base zs ds are

pub members_deep : (texts : List (List ℕ)) (types : List Name) (ts : List Token) (ds : Declarations) → AreMembers texts types ts ds → 2 ≤ depth_of_decls (decl_list ds.list)
members_deep texts _ _ _ (first_members types ts ds is) = member_deep texts types ts ds is
members_deep texts _ _ _ (members_behind types xs ys ds es are is) =
    let some : 2 ≤ depth_of_decls (decl_list ds.list) = members_deep texts types xs ds are in
    let more : depth_of_decls (decl_list ds.list) ≤ depth_of_decls (decl_list (ds.list ++ es.list)) = front_deep ds.list es.list in
    omega arith

-- ---- what a tag is followed by

-- a brace goes on from a tag
abbrev pub more_tag : List (List ℕ) → Specified → Token → Bool
more_tag texts r t = is_tag_alone r.said && is_open_brace (reading texts []) t

module _ (texts : List (List ℕ)) (seat : Seat) (below : ℕ) (part : ℕ → Parts) where
  abbrev plain : Lexicon
  plain = reading texts []

  abbrev pub structure_value : Specified → Option Name → Place → Declarations → Specified
  structure_value s tag place ds = scoped ds.types (saying (Whole (tree.Struct tag (tree.Declared (decl_list ds.list)) place)) s)

  abbrev pub StructureText : Specified → Option Name → Place → List Token → Specified → Type 0
  StructureText s tag place = Unbarred (nat_lt below (3 + one_if s.constant))
      (Opened (is_open_brace plain) (λ o. Mapped (structure_value s tag place) (Closed (is_close_brace plain) (FitsMembers texts (below - suc (one_if s.constant)) s.types))))

  abbrev pub enumeration_value : Specified → Option Name → Place → Items → Specified
  enumeration_value s tag place is = scoped is.types (saying (Whole (tree.Enum tag (tree.Listed (item_list is.list)) place)) s)

  abbrev pub EnumerationText : Specified → Option Name → Place → List Token → Specified → Type 0
  EnumerationText s tag place =
      Opened (is_open_brace plain) (λ o. Mapped (enumeration_value s tag place) (Closed (is_close_brace plain) (FitsItems texts seat below part (below - suc (one_if s.constant)) s.types)))

  room_inside : (b c : ℕ) → 3 + c ≤ b → 2 ≤ b - suc c
  room_inside b c le = omega arith

  pub enumeration_head : (s : Specified) (tag : Option Name) (place : Place) → OnHead (is_open_brace plain) (EnumerationText s tag place) (more_tag texts) (enumeration texts seat below part s tag place)
  unfolding enumeration
  enumeration_head s tag place =
      at_head (is_open_brace plain)
      (λ t h. opened {Is = λ o. Mapped (enumeration_value s tag place) (Closed (is_close_brace plain) (FitsItems texts seat below part (below - suc (one_if s.constant)) s.types))}
      {q = λ o. items texts seat below part (below - suc (one_if s.constant)) s.types >>= (λ is. token unexpected (is_close_brace plain) >>= (λ c. pure (enumeration_value s tag place is)))} unexpected (is_open_brace plain) t h
      (λ o passes. goes_on_where (closing unexpected (is_close_brace plain) close_brace_token (close_brace_token_is plain) (items_law texts seat below part (below - suc (one_if s.constant)) s.types) (brace_ends_items texts) (enumeration_value s tag place)) (more_tag texts)
      (λ ts r m u. ap (λ z. more_tag texts z u) m.same)))
      (λ ts r o. opened_heads ts r o)

  pub structure_head : ((k : ℕ) → 2 ≤ below - k → (types : List Name) → Lawful (FitsMembers texts (below - k) types) (more_members texts) ((part k).members types))
      → (s : Specified) (tag : Option Name) (place : Place) → OnHead (is_open_brace plain) (StructureText s tag place) (more_tag texts) (structure texts seat below part s tag place)
  unfolding structure
  structure_head M s tag place =
      guarded (nat_lt below (3 + one_if s.constant)) too_deep (λ room. at_head (is_open_brace plain)
      (λ t h. opened {Is = λ o. Mapped (structure_value s tag place) (Closed (is_close_brace plain) (FitsMembers texts (below - suc (one_if s.constant)) s.types))}
      {q = λ o. (part (suc (one_if s.constant))).members s.types >>= (λ ds. token unexpected (is_close_brace plain) >>= (λ c. pure (structure_value s tag place ds)))} unexpected (is_open_brace plain) t h
      (λ o passes. goes_on_where (closing unexpected (is_close_brace plain) close_brace_token (close_brace_token_is plain)
      (M (suc (one_if s.constant)) (room_inside below (one_if s.constant) (within_room below (3 + one_if s.constant) room)) s.types) (λ ds u e. ap not e) (structure_value s tag place)) (more_tag texts)
      (λ ts r m u. ap (λ z. more_tag texts z u) m.same)))
      (λ ts r o. opened_heads ts r o))

  -- a tag, or what is defined with or without one
  abbrev pub TaggedText : (Option Name → Place → List Token → Specified → Type 0) → (Name → Place → TypeTree) → Keyword → Specified → List Token → Specified → Type 0
  TaggedText Defined names k s ts r = (is_nothing s.said ≡ true)
      × Opened (is_keyword plain k) (λ t. Either (Defined None t.place) (Begun (name_at plain) (λ n. Either (Defined (Some n.0) n.1) (IsEmpty (saying (Whole (names n.0 n.1)) s))))) ts r

  pub tagged_head : (Defined : Option Name → Place → List Token → Specified → Type 0) (names : Name → Place → TypeTree) (k : Keyword) (s : Specified) (defines : Option Name → Place → Parser Token Specified)
      → ((tag : Option Name) (place : Place) → OnHead (is_open_brace plain) (Defined tag place) (more_tag texts) (defines tag place)) → ((n : Name) (place : Place) → names_tag (names n place) ≡ true)
      → OnHead (begins_tag texts seat below part s k) (TaggedText Defined names k s) (more_tag texts) (tagged texts seat below part defines names k s)
  unfolding tagged
  tagged_head Defined names k s defines D alone = at_head (begins_tag texts seat below part s k) law heads
    where
      named : Name × Place → Specified
      named n = saying (Whole (names n.0 n.1)) s

      NamedText : List Token → Specified → Type 0
      NamedText = Begun (name_at plain) (λ n. Either (Defined (Some n.0) n.1) (IsEmpty (saying (Whole (names n.0 n.1)) s)))

      named_reader : Parser Token Specified
      named_reader = taken unexpected (name_at plain) >>= (λ n. choose (is_open_brace plain) (defines (Some n.0) n.1) (pure (saying (Whole (names n.0 n.1)) s)))

      named_law : Lawful NamedText (more_tag texts) named_reader
      named_law =
          begun {Is = λ n. Either (Defined (Some n.0) n.1) (IsEmpty (saying (Whole (names n.0 n.1)) s))} {q = λ n. choose (is_open_brace plain) (defines (Some n.0) n.1) (pure (saying (Whole (names n.0 n.1)) s))}
          unexpected (name_at plain) name_token (name_token.text, name_token.place) (at_name plain name_token name_token.text (name_token_is plain))
          (λ u n gives. perhaps_of (saying (Whole (names n.0 n.1)) s) (D (Some n.0) n.1) (λ v. ap (λ b. b && is_open_brace plain v) (alone n.0 n.1)))

      apart : (ts : List Token) (r : Specified) (rest : List Token) → NamedText ts r → at_next (more_tag texts r) rest ≡ false → at_next (is_open_brace plain) (ts ++ rest) ≡ false
      apart ts r rest b e = ap (λ l. at_next (is_open_brace plain) (l ++ rest)) b.split ∙ name_off plain b.opening mark.OpenBrace (ap is_some (named_at plain b.opening b.value b.gives_it).0)

      law : (t : Token) → begins_tag texts seat below part s k t ≡ true → Lawful (TaggedText Defined names k s) (more_tag texts) (tagged texts seat below part defines names k s)
      law t h =
          via (opened {Is = λ t. Either (Defined None t.place) NamedText} {q = λ t. choose (is_open_brace plain) (defines None t.place) named_reader} unexpected (is_keyword plain k) t (and_first (is_keyword plain k t) (is_nothing s.said) h)
          (λ u passes. choice_of (D None u.place) named_law apart)) (λ ts r is. (and_second (is_keyword plain k t) (is_nothing s.said) h, is)) (λ ts r is. is.1) (tagged texts seat below part defines names k s) (λ ts. refl)

      heads : (ts : List Token) (r : Specified) → TaggedText Defined names k s ts r → at_next (begins_tag texts seat below part s k) ts ≡ true
      heads ts r is = ap (at_next (begins_tag texts seat below part s k)) is.1.split ∙ ap (λ b. b && is_nothing s.said) is.1.passes ∙ is.0

  -- ---- in the grammar's words

  pub of_tagged : (Defined : Option Name → Place → List Token → Specified → Type 0) (names : Name → Place → TypeTree) (k : Keyword) (s : Specified) (Goal : List Token → Specified → Type 0)
      → ((xs : List Token) (tag : Option Name) (place : Place) (ys : List Token) (r : Specified) → IsTag (reading texts s.types) k xs tag place → Defined tag place ys r → Goal (xs ++ ys) r)
      → ((xs : List Token) (n : Name) (place : Place) → IsTag (reading texts s.types) k xs (Some n) place → Goal xs (saying (Whole (names n place)) s))
      → (ts : List Token) (r : Specified) → TaggedText Defined names k s ts r → Goal ts r
  of_tagged Defined names k s Goal defined alone ts r is = go is.1.rest is.1.is (λ g. subst (λ l. Goal l r) (sym is.1.split) g)
    where
      go : (us : List Token) → Either (Defined None is.1.opening.place) (Begun (name_at plain) (λ n. Either (Defined (Some n.0) n.1) (IsEmpty (saying (Whole (names n.0 n.1)) s)))) us r
          → (Goal (is.1.opening ∷ us) r → Goal ts r) → Goal ts r
      go us (inl d) back = back (defined (is.1.opening ∷ []) None is.1.opening.place us r (is_untagged is.1.opening is.1.passes) d)
      go us (inr b) back = by_name b.is
        where
          tag : IsTag (reading texts s.types) k (is.1.opening ∷ (b.opening ∷ [])) (Some b.value.0) b.value.1
          tag =
              let named = named_at plain b.opening b.value b.gives_it in
              subst (IsTag (reading texts s.types) k (is.1.opening ∷ (b.opening ∷ [])) (Some b.value.0)) (sym named.1) (is_tagged is.1.opening b.opening b.value.0 is.1.passes named.0)

          by_name : Either (Defined (Some b.value.0) b.value.1) (IsEmpty (saying (Whole (names b.value.0 b.value.1)) s)) b.rest r → Goal ts r
          by_name (inl d) = back (subst (λ l. Goal (is.1.opening ∷ l) r) (sym b.split) (defined (is.1.opening ∷ (b.opening ∷ [])) (Some b.value.0) b.value.1 b.rest r tag d))
          by_name (inr e) =
              back (subst (λ l. Goal (is.1.opening ∷ l) r) (sym b.split) (subst (λ l. Goal (is.1.opening ∷ (b.opening ∷ l)) r) (sym e.none) (subst (Goal (is.1.opening ∷ (b.opening ∷ []))) (sym e.same) (alone (is.1.opening ∷ (b.opening ∷ [])) b.value.0 b.value.1 tag))))

  pub tagged_defined : (Defined : Option Name → Place → List Token → Specified → Type 0) (names : Name → Place → TypeTree) (k : Keyword) (s : Specified) → is_nothing s.said ≡ true
      → (xs : List Token) (tag : Option Name) (place : Place) (ys : List Token) (r : Specified) → IsTag (reading texts s.types) k xs tag place → Defined tag place ys r → TaggedText Defined names k s (xs ++ ys) r
  tagged_defined Defined names k s none _ _ _ ys r (is_untagged t e) d = (none, record { opening = t; rest = ys; split = refl; passes = e; is = inl d })
  tagged_defined Defined names k s none _ _ _ ys r (is_tagged t n tag e named) d =
      (none, record { opening = t; rest = n ∷ ys; split = refl; passes = e; is = inr (record { opening = n; value = (tag, n.place); rest = ys; split = refl; gives_it = at_name plain n tag named; is = inl d }) })

  pub tagged_alone : (Defined : Option Name → Place → List Token → Specified → Type 0) (names : Name → Place → TypeTree) (k : Keyword) (s : Specified) → is_nothing s.said ≡ true
      → (xs : List Token) (tag : Name) (place : Place) → IsTag (reading texts s.types) k xs (Some tag) place → TaggedText Defined names k s xs (saying (Whole (names tag place)) s)
  tagged_alone Defined names k s none _ _ _ (is_tagged t n tag e named) =
      (none, record { opening = t; rest = n ∷ []; split = refl; passes = e; is = inr (record { opening = n; value = (tag, n.place); rest = []; split = refl; gives_it = at_name plain n tag named; is = inr (record { none = refl; same = refl }) }) })
