-- The reader of one parameter keeps the laws, if those of members of less depth do.
use Rattle.std.proofs.Common.{◌≡◌, ◌≤◌, ◌-◌, ℕ, suc, max, Bool, true, false, ◌||◌, ◌&&◌, not, List, [], ◌∷◌, ◌++◌, Option, Some, None, is_some, refl, sym, ap, ◌∙◌, subst, arith}
use Rattle.std.proofs.Math.Nat.{le-max_left, le-max_right, max-le}
use Rattle.std.specs.Option.{option_map_or}
use Rattle.sb_base.specs.declared.interning.Name.{Name}
use Rattle.sb_base.specs.declared.refusals.Place.{Place}
use Rattle.sb_base.specs.declared.tokens.Token.{Token}
use Rattle.sb_parse.specs.Parser.{at_next, ◌>>=◌, pure}
use Rattle.sb_parse.specs.Lawful.{Lawful, Follows, Joined, Mapped}
use Rattle.sb_parse.proofs.Joining.{in_order, from_there, via}
use Rattle.sb_parse.proofs.Heads.{head_of_append}
use Rattle.sb_sign.specs.declared.sign.Mark.{Mark}
use Rattle.sb_sign.specs.declared.sign.Mark.TheVariants as mark
use Rattle.sb_tree.specs.declared.syntax.Storage.TheVariants as storage
use Rattle.sb_tree.specs.Plain.{note_list}
use Rattle.sb_tree.specs.Trees as tree
use Rattle.sb_tree.specs.Trees.{NoteTree, DeclTree, TypeTree, depth_of_decl, depth_of_notes, depth_of_type}
use Rattle.sb_lexicon.specs.Lexicon.{Lexicon, is_mark, name_of, is_type_name, is_type_keyword}
use Rattle.sb_operand.specs.Pieces.{typed}
use Rattle.sb_lexicon.proofs.Lexemes.{mark_is, mark_no_keyword, name_no_keyword}
use Rattle.sb_parse.proofs.Ways.{follows_map}
use Rattle.sb_sal.specs.declared.bearer.Bearer.TheVariants as bearer
use Rattle.sb_sal.specs.Reads.{FitsNotes}
use Rattle.sb_sal.specs.Spellings.{begins_note, looks_like_note, word_of, may_stand}
use Rattle.sb_sal.proofs.Annotations.{more_notes_behind, lawful_notes}
use Rattle.sb_sal.proofs.Filled.{filled}
use Rattle.sb_sal.proofs.Inside.{more_note, at_end, ends_with}
use Rattle.sb_specifier.specs.declared.seat.Seat.TheVariants as seat
use Rattle.sb_specifier.specs.Specified.{reading, Specified, without}
use Rattle.sb_specifier.specs.Declaration.{first_place, nowhere, simple_decl, hidden_by, IsParameter, is_parameter}
use Rattle.sb_declarator.specs.Readers as reader
use Rattle.sb_specifier.specs.Readers.{Declarator, Declarations, Parts, one_more, is_storage_keyword, specifiers, name_in, place_in}
use Rattle.sb_parse.specs.Texts.{with_text}
use Rattle.sb_declarator.specs.Readers.{on, parameter}
use Rattle.sb_specifier.proofs.laws.More.{more_specified, more_parameter, more_last, FitsDeclarator, MembersLaws}
use Rattle.sb_derivation.proofs.laws.Beginnings.{mark_no_type_name}
use Rattle.sb_parse.proofs.Texts.{WithText, text_law}
use Rattle.sb_derivation.proofs.laws.Heads.{begins_specifier, specifiers_begin}
use Rattle.sb_specifier.proofs.laws.Specifiers.{FitsSpecifiers, specifiers_law}
use Rattle.sb_declarator.proofs.laws.Typed.{is_base, specified_base, more_typed, more_on, on_law, on_apart, typed_fits, fits_typed}

-- ---- specifiers go on from no annotations

module _ (w : Lexicon) where
  specifier_no_note : (t : Token) → begins_specifier w t ≡ true → begins_note w t ≡ false
  specifier_no_note t h = by_name (name_of w t) refl
    where
      by_type : (b : Bool) → b ≡ true → (not b && looks_like_note (word_of w.texts t)) ≡ false
      by_type true k = refl
      by_type false k = absurd (cc k)

      by_name : (o : Option Name) → name_of w t ≡ o → begins_note w t ≡ false
      by_name None k = ap (λ o. is_some o && (not (is_type_name w t) && looks_like_note (word_of w.texts t))) k
      by_name (Some n) k =
          let is_type : is_type_name w t ≡ true = sym (ap (λ o. (option_map_or is_type_keyword o false || option_map_or is_storage_keyword o false) || is_type_name w t) (name_no_keyword w n t k)) ∙ h in
          ap (λ o. is_some o && (not (is_type_name w t) && looks_like_note (word_of w.texts t))) k ∙ by_type (is_type_name w t) is_type

  specifier_no_mark : (m : Mark) (t : Token) → begins_specifier w t ≡ true → is_mark w m t ≡ false
  specifier_no_mark m t h = by_test (is_mark w m t) refl
    where
      by_test : (b : Bool) → is_mark w m t ≡ b → b ≡ false
      by_test false k = refl
      by_test true k =
          let none : begins_specifier w t ≡ false =
          ap (λ o. (option_map_or is_type_keyword o false || option_map_or is_storage_keyword o false) || is_type_name w t) (mark_no_keyword w m t (mark_is w m t k)) ∙ mark_no_type_name w m t k in
          absurd (let both : true ≡ false = sym h ∙ none in cc both)

  specifier_after_notes : (ns : List NoteTree) (t : Token) → begins_specifier w t ≡ true → more_notes_behind w ns t ≡ false
  specifier_after_notes ns t h = ap (λ b. b || at_end (more_note w) ns t) (specifier_no_note t h) ∙ ends_with (more_note w) t each ns
    where
      each : (n : NoteTree) → more_note w n t ≡ false
      each (tree.Note name tree.NoArgs place) = specifier_no_mark mark.OpenParenthesis t h
      each (tree.Note name (tree.MoreArgs a rest) place) = refl

  pub after_notes : (ns : List NoteTree) (ts : List Token) → at_next (begins_specifier w) ts ≡ true → at_next (more_notes_behind w ns) ts ≡ false
  after_notes ns [] h = refl
  after_notes ns (t ∷ ts) h = specifier_after_notes ns t h

-- ---- the tree of a parameter or a member

pub last_more : (w : Lexicon) (ds : List DeclTree) (d : DeclTree) (u : Token) → more_last w (ds ++ (d ∷ [])) u ≡ more_parameter w d u
last_more w [] d u = refl
last_more w (e ∷ []) d u = refl
last_more w (e ∷ (f ∷ ds)) d u = last_more w (f ∷ ds) d u

-- of annotations and a type that fit, and no deeper
pub decl_fits : (below : ℕ) (place : Place) (ns : List NoteTree) (t : TypeTree) (d : Declarator) → depth_of_notes (note_list ns) ≤ below → depth_of_type (typed t d.pieces) ≤ below → depth_of_decl (simple_decl place ns t d) ≤ suc below
decl_fits below place ns t d noted deep =
    let none : 0 ≤ below = omega arith in
    let most : max (depth_of_notes (note_list ns)) (max (depth_of_type (typed t d.pieces)) 0) ≤ below = max-le noted (max-le deep none) in
    omega arith

pub fits_decl : (below : ℕ) (place : Place) (ns : List NoteTree) (t : TypeTree) (d : Declarator) → depth_of_decl (simple_decl place ns t d) ≤ suc below → (depth_of_notes (note_list ns) ≤ below) × (depth_of_type (typed t d.pieces) ≤ below)
fits_decl below place ns t d le =
    let all : suc (max (depth_of_notes (note_list ns)) (max (depth_of_type (typed t d.pieces)) 0)) ≤ suc below = le in
    let first : depth_of_notes (note_list ns) ≤ max (depth_of_notes (note_list ns)) (max (depth_of_type (typed t d.pieces)) 0) = le-max_left (depth_of_notes (note_list ns)) (max (depth_of_type (typed t d.pieces)) 0) in
    let second : max (depth_of_type (typed t d.pieces)) 0 ≤ max (depth_of_notes (note_list ns)) (max (depth_of_type (typed t d.pieces)) 0) = le-max_right (depth_of_notes (note_list ns)) (max (depth_of_type (typed t d.pieces)) 0) in
    let third : depth_of_type (typed t d.pieces) ≤ max (depth_of_type (typed t d.pieces)) 0 = le-max_left (depth_of_type (typed t d.pieces)) 0 in
    (omega arith, omega arith)

module _ (texts : List (List ℕ)) (below : ℕ) (part : ℕ → Parts) where
  -- the reader's words for it
  pub member_is : (ns : List NoteTree) (t : TypeTree) (d : Declarator) (place : Place) → reader.member_of texts below part ns t d place ≡ simple_decl place ns t d
  member_is ns t d place = refl

  first_place_is : (ts : List Token) → reader.first_place texts below part ts ≡ first_place nowhere ts
  first_place_is [] = refl
  first_place_is (t ∷ ts) = refl

  hidden_is : (n : Option (Name × Place)) (types : List Name) → option_map_or (λ m. without m.0 types) n types ≡ hidden_by n types
  hidden_is None types = refl
  hidden_is (Some n) types = refl

-- ---- one parameter

module _ (texts : List (List ℕ)) (below : ℕ) (part : ℕ → Parts) (M : MembersLaws texts below part) (some : 1 ≤ below) where
  abbrev plain : Lexicon
  plain = reading texts []

  -- a parameter more, of at most this depth
  pub record FitsOne (ds : Declarations) (ts : List Token) (es : Declarations) : Type 0 where
    pub decl : DeclTree
    pub now : List Name
    pub is : IsParameter texts ds.types ts decl now
    pub deep : depth_of_decl decl ≤ suc below
    pub same : es ≡ one_more ds decl now

  module _ (ds : Declarations) where
    abbrev w : Lexicon
    w = reading texts ds.types

    abbrev Notes : List Token → List NoteTree × List Token → Type 0
    Notes = WithText (FitsNotes w below (may_stand w bearer.Parameter))

    abbrev Specs : List Token → (Specified × TypeTree) × List Token → Type 0
    Specs = WithText (FitsSpecifiers texts seat.Prototype below ds.types)

    abbrev value : List NoteTree × List Token → (Specified × TypeTree) × List Token → Declarator → Declarations
    value notes s d =
        one_more ds (reader.member_of texts below part notes.0 s.0.1 d (reader.first_place texts below part (notes.1 ++ s.1))) (option_map_or (λ n. without n.0 s.0.0.types) d.name s.0.0.types)

    abbrev DeclaratorText : List NoteTree × List Token → (Specified × TypeTree) × List Token → List Token → Declarations → Type 0
    DeclaratorText notes s = Mapped (value notes s) (FitsDeclarator texts s.0.0.types false true below (below - depth_of_type s.0.1))

    abbrev BehindNotes : List NoteTree × List Token → List Token → Declarations → Type 0
    BehindNotes notes = Joined Specs (DeclaratorText notes)

    abbrev more_value : Declarations → Token → Bool
    more_value e u = more_last plain e.list u

    base_of_text : (ys : List Token) (s : (Specified × TypeTree) × List Token) → Specs ys s → is_base s.0.1 ≡ true
    base_of_text ys s is = specified_base texts seat.Prototype ds.types ys s.0.0 s.0.1 is.0.are is.0.named

    value_more : (notes : List NoteTree × List Token) (s : (Specified × TypeTree) × List Token) (d : Declarator) (u : Token) → more_value (value notes s d) u ≡ more_on (reading texts s.0.0.types) s.0.1 d u
    value_more notes s d u = last_more plain ds.list (reader.member_of texts below part notes.0 s.0.1 d (reader.first_place texts below part (notes.1 ++ s.1))) u ∙ by_name d.name
      where
        by_name : (n : Option (Name × Place))
            → more_parameter plain (tree.Decl (note_list notes.0) storage.Plain (typed s.0.1 d.pieces) (name_in n)
            (place_in (reader.first_place texts below part (notes.1 ++ s.1)) n) tree.NoInit tree.NoStmt) u ≡ more_typed (reading texts s.0.0.types) n (typed s.0.1 d.pieces) u
        by_name None = refl
        by_name (Some n) = refl

    declarator_follows : (notes : List NoteTree × List Token) (ys : List Token) (s : (Specified × TypeTree) × List Token) → Specs ys s
        → Follows (more_specified plain s.0.1) (DeclaratorText notes s) more_value (on texts below part s.0.0.types false true s.0.1 >>= (λ d. pure (value notes s d)))
    declarator_follows notes ys s is =
        follows_map (on_law texts s.0.0.types false true refl below part (λ h. cc h) s.0.1 (base_of_text ys s is) is.0.deep_enough) (value notes s) more_value (λ d u. value_more notes s d u)

    declarator_apart : (notes : List NoteTree × List Token) (ys : List Token) (s : (Specified × TypeTree) × List Token) (zs : List Token) (e : Declarations) (later : List Token) → Specs ys s → DeclaratorText notes s zs e
        → at_next (more_value e) later ≡ false → at_next (more_specified plain s.0.1) (zs ++ later) ≡ false
    declarator_apart notes ys s zs e later is m h =
        on_apart texts s.0.0.types false true s.0.1 zs m.value later (base_of_text ys s is) m.is.is (sym (next_as later) ∙ ap (λ z. at_next (more_value z) later) (sym m.same) ∙ h)
      where
        next_as : (later : List Token) → at_next (more_value (value notes s m.value)) later ≡ at_next (more_on (reading texts s.0.0.types) s.0.1 m.value) later
        next_as [] = refl
        next_as (u ∷ later) = value_more notes s m.value u

    behind_notes : (notes : List NoteTree × List Token)
        → Lawful (BehindNotes notes) more_value (with_text (specifiers texts seat.Prototype below part ds.types) >>= (λ s. on texts below part s.0.0.types false true s.0.1 >>= (λ d. pure (value notes s d))))
    behind_notes notes =
        from_there {Second = DeclaratorText notes} {q = λ s. on texts below part s.0.0.types false true s.0.1 >>= (λ d. pure (value notes s d))}
        (text_law (specifiers_law texts seat.Prototype below part M ds.types some)) (λ ys s is. declarator_follows notes ys s is)
        (λ ys s zs e later first second h. declarator_apart notes ys s zs e later first second h)

    notes_apart : (xs : List Token) (notes : List NoteTree × List Token) (ys : List Token) (e : Declarations) (later : List Token) → BehindNotes notes ys e → at_next (more_notes_behind w notes.0) (ys ++ later) ≡ false
    notes_apart xs notes ys e later j =
        after_notes w notes.0 (ys ++ later)
        (head_of_append (begins_specifier w) ys later (ap (at_next (begins_specifier w)) j.split ∙ head_of_append (begins_specifier w) j.before j.after (specifiers_begin texts seat.Prototype ds.types j.before j.value.0.0 j.value.0.1 j.first.0.are j.first.0.named)))

    to_one : (ts : List Token) (e : Declarations) → Joined Notes BehindNotes ts e → FitsOne ds ts e
    to_one ts e j =
        let k = j.second in
        let m = j.second.second in
        let s = j.second.value in
        let place : reader.first_place texts below part (j.value.1 ++ j.second.value.1) ≡ first_place nowhere (j.before ++ j.second.before) =
        first_place_is texts below part (j.value.1 ++ j.second.value.1) ∙ ap (λ l. first_place nowhere (l ++ j.second.value.1)) j.first.1 ∙ ap (λ l. first_place nowhere (j.before ++ l)) j.second.first.1 in
        let decl : reader.member_of texts below part j.value.0 s.0.1 m.value (reader.first_place texts below part (j.value.1 ++ j.second.value.1)) ≡ simple_decl (first_place nowhere (j.before ++ j.second.before)) j.value.0 s.0.1 m.value =
        member_is texts below part j.value.0 s.0.1 m.value (reader.first_place texts below part (j.value.1 ++ j.second.value.1)) ∙ ap (λ p. simple_decl p j.value.0 s.0.1 m.value) place in
        record {
          decl = simple_decl (first_place nowhere (j.before ++ k.before)) j.value.0 s.0.1 m.value;
          now = hidden_by m.value.name s.0.0.types;
          is = subst (λ l. IsParameter texts ds.types l (simple_decl (first_place nowhere (j.before ++ k.before)) j.value.0 s.0.1 m.value) (hidden_by m.value.name s.0.0.types)) (sym (j.split ∙ ap (λ l. j.before ++ l) k.split))
              (is_parameter ds.types j.before k.before k.after j.value.0 s.0.0 s.0.1 m.value j.first.0.0 k.first.0.are k.first.0.named m.is.is);
          deep = decl_fits below (first_place nowhere (j.before ++ k.before)) j.value.0 s.0.1 m.value j.first.0.1 (typed_fits below s.0.1 m.value.pieces k.first.0.deep_enough m.is.count m.is.sizes);
          same = m.same ∙ ap (λ z. one_more ds z (option_map_or (λ n. without n.0 s.0.0.types) m.value.name s.0.0.types)) decl
              ∙ ap (λ z. one_more ds (simple_decl (first_place nowhere (j.before ++ k.before)) j.value.0 s.0.1 m.value) z) (hidden_is texts below part m.value.name s.0.0.types);
        }

    from_one : (ts : List Token) (decl : DeclTree) (now : List Name) → IsParameter texts ds.types ts decl now → depth_of_decl decl ≤ suc below → (e : Declarations) → e ≡ one_more ds decl now → Joined Notes BehindNotes ts e
    from_one _ _ _ (is_parameter _ xs ys zs ns s t d noted are named is) deep e same =
        let both = fits_decl below (first_place nowhere (xs ++ ys)) ns t d deep in
        let fits = fits_typed below t d.pieces both.1 in
        let decl : simple_decl (first_place nowhere (xs ++ ys)) ns t d ≡ reader.member_of texts below part ns t d (reader.first_place texts below part (xs ++ ys)) =
        sym (member_is texts below part ns t d (reader.first_place texts below part (xs ++ ys)) ∙ ap (λ p. simple_decl p ns t d) (first_place_is texts below part (xs ++ ys))) in
        record {
          before = xs;
          after = ys ++ zs;
          value = (ns, xs);
          split = refl;
          first = ((noted, both.0), refl);
          second = record {
            before = ys;
            after = zs;
            value = ((s, t), ys);
            split = refl;
            first = (record { are = are; named = named; deep_enough = fits.0 }, refl);
            second = record {
              value = d;
              is = record { is = is; count = fits.1; sizes = fits.2 };
              same = same ∙ ap (λ z. one_more ds z (hidden_by d.name s.types)) decl
                  ∙ ap (λ z. one_more ds (reader.member_of texts below part ns t d (reader.first_place texts below part (xs ++ ys))) z) (sym (hidden_is texts below part d.name s.types));
            };
          };
        }

    pub parameter_law : Lawful (FitsOne ds) more_value (parameter texts below part ds)
    unfolding parameter
    parameter_law =
        via (in_order {Second = BehindNotes} {q = λ notes. with_text (specifiers texts seat.Prototype below part ds.types) >>= (λ s. on texts below part s.0.0.types false true s.0.1 >>= (λ d. pure (value notes s d)))}
        (text_law (lawful_notes w below (may_stand w bearer.Parameter) (filled w bearer.Parameter))) (λ xs notes is. behind_notes notes) (λ xs notes ys e later first second h. notes_apart xs notes ys e later second)) to_one
        (λ ts e f. from_one ts f.decl f.now f.is f.deep e f.same) (parameter texts below part ds) (λ ts. refl)
