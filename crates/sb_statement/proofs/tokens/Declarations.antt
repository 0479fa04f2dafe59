-- Declarations that begin with a name, a typedef name or an annotation: how deep they are, and what stands behind the name.
use Rattle.std.proofs.Common.{◌≡◌, ◌≤◌, ◌⊎◌, ℕ, suc, max, Bool, true, false, ◌&&◌, ◌||◌, not, List, [], ◌∷◌, ◌++◌, Option, Some, None, is_some, if◌then◌else◌, refl, sym, ap, ◌∙◌, subst, inl, inr, append-nil, le_trans, arith}
use Rattle.std.proofs.Math.Nat.{le-max_left, le-max_right, max-le}
use Rattle.std.specs.Option.{option_map_or}
use Rattle.sb_base.specs.declared.interning.Name.{Name}
use Rattle.sb_base.specs.declared.refusals.Place.{Place}
use Rattle.sb_base.specs.declared.tokens.Token.{Token}
use Rattle.sb_parse.specs.Parser.{at_next}
use Rattle.sb_sign.specs.declared.sign.Keyword.{Keyword}
use Rattle.sb_sign.specs.declared.sign.Keyword.TheVariants as keyword
use Rattle.sb_sign.specs.declared.sign.Mark.TheVariants as mark
use Rattle.sb_tree.specs.Plain.{arg_list, note_list, decl_list}
use Rattle.sb_sign.specs.Signs as sign
use Rattle.sb_tree.specs.Trees as tree
use Rattle.sb_tree.specs.Trees.{ArgTree, ExprArg, NoteArg, NoteTree, TypeTree, OptionalInit, depth_of_arg, depth_of_args, depth_of_note, depth_of_notes, depth_of_decl, depth_of_decls, depth_of_type, depth_of_optional_init}
use Rattle.sb_lexicon.specs.Lexicon.{Lexicon, is_mark, is_keyword, is_type_name, name_of}
use Rattle.sb_lexicon.specs.Tokens.{is_open, is_colon}
use Rattle.sb_lexicon.proofs.Depths.{some_depth}
use Rattle.sb_lexicon.proofs.Lexemes.{keyword_is, mark_is, mark_alone}
use Rattle.sb_operand.specs.Pieces.{typed}
use Rattle.sb_sign.specs.declared.spelling.Arguments.{Arguments}
use Rattle.sb_sign.specs.declared.spelling.Arguments.TheVariants as arguments
use Rattle.sb_sal.specs.Notes.{IsNote, is_bare, has_arguments, AreArguments, one_size, two_sizes, a_condition, memory, a_note, guarded, located, AreNotes, no_notes, more_notes}
use Rattle.sb_sal.specs.Readers.{is_nothing}
use Rattle.sb_sal.specs.declared.bearer.Bearer.TheVariants as bearer
use Rattle.sb_parse.proofs.Ways.{and_fails}
use Rattle.sb_statement.specs.Readers.{is_misplaced}
use Rattle.sb_sal.specs.Spellings.{begins_note, arguments_of, arguments_in, is_listed, looks_like_note, may_stand, word_of}
use Rattle.sb_sal.proofs.Noting.{some_note, note_begins}
use Rattle.sb_sal.proofs.Tokens.{mark_no_note}
use Rattle.sb_specifier.specs.declared.seat.Seat.{Seat}
use Rattle.sb_specifier.specs.declared.seat.Seat.TheVariants as seat
use Rattle.sb_specifier.specs.Specified.{reading, Specified, unspecified, again, storage_of}
use Rattle.sb_specifier.specs.Declaration.{IsTag, is_untagged, is_tagged, IsSpecifier, is_word, is_constant, is_restricted, is_inline, is_stored, is_defined, names_structure, names_enumeration, defines_structure, defines_enumeration, AreSpecifiers, no_specifiers, more_specifiers, IsDeclarator}
use Rattle.sb_declare.specs.Declaration.{IsJudged, may_stand_there, is_pardoned, is_declared, AreDeclared, first_declared, declared_behind, Begins, IsDeclaration, is_nameless, is_declaration, declaration_of}
use Rattle.sb_specifier.specs.Readers.{is_specifier_word, Declarations, Declarator, is_name, place_of_base}
use Rattle.sb_declare.specs.Readers.{functions_in}
use Rattle.sb_declarator.proofs.laws.Calls.{last_depth}
use Rattle.sb_derivation.proofs.laws.Beginnings.{is_nothing_by, begins_any, some_begins}
use Rattle.sb_derivation.proofs.laws.Heads.{begins_specifier, specifier_begins, specifiers_begin, declaration_no_mark}
use Rattle.sb_declare.proofs.laws.Judging.{pardon_no_mark}
use Rattle.sb_declarator.proofs.laws.Members.{no_colon}
use Rattle.sb_declarator.proofs.laws.Typed.{has_its_name}
use Rattle.sb_statement.proofs.laws.Chains.{same_as_itself, keyword_no_name}

-- ---- lists

off_append : (test : Token → Bool) (xs ys : List Token) → at_next test xs ≡ false → at_next test ys ≡ false → at_next test (xs ++ ys) ≡ false
off_append test [] ys h k = k
off_append test (x ∷ xs) ys h k = h

-- ---- annotations

module _ (w : Lexicon) where
  note_off : (t : Token) → begins_note w t ≡ true → is_colon w t ≡ false
  note_off t h = by_test (is_colon w t) refl
    where
      by_test : (b : Bool) → is_colon w t ≡ b → b ≡ false
      by_test false k = refl
      by_test true k = let both : true ≡ false = sym h ∙ mark_no_note w mark.Colon t k in absurd (cc both)

  list_off : (ts : List Token) → at_next (begins_note w) ts ≡ true → at_next (is_colon w) ts ≡ false
  list_off [] h = refl
  list_off (t ∷ ts) h = note_off t h

  open_off : (o : Token) → is_open w o ≡ true → is_colon w o ≡ false
  open_off o h = mark_alone w mark.OpenParenthesis mark.Colon o (mark_is w mark.OpenParenthesis o h) refl

  some_arg : (a : ArgTree) → 1 ≤ depth_of_arg a
  some_arg (ExprArg e) = some_depth e
  some_arg (NoteArg n) = some_note n

  first_deep : (a : ArgTree) (rest : List ArgTree) → 1 ≤ depth_of_args (arg_list (a ∷ rest))
  first_deep a rest =
      let one : 1 ≤ depth_of_arg a = some_arg a in
      let less : depth_of_arg a ≤ max (depth_of_arg a) (depth_of_args (arg_list rest)) = le-max_left (depth_of_arg a) (depth_of_args (arg_list rest)) in
      omega arith

  args_deep : (may : Token → Bool) (a : Arguments) (ts : List Token) (args : List ArgTree) → AreArguments w may a ts args → 1 ≤ depth_of_args (arg_list args)
  args_deep _ _ _ _ (one_size may ts a is) = first_deep a []
  args_deep _ _ _ _ (two_sizes may xs ys c a b h is also) = first_deep a (b ∷ [])
  args_deep _ _ _ _ (a_condition may ts a is) = first_deep a []
  args_deep _ _ _ _ (memory may t is) = first_deep (ExprArg (tree.Identifier t.text t.place)) []
  args_deep _ _ _ _ (a_note may ts n is) = first_deep (NoteArg n) []
  args_deep _ _ _ _ (guarded may xs ys c a n h is also) = first_deep a (NoteArg n ∷ [])
  args_deep _ _ _ _ (located may xs ys c e n h is also) = first_deep (ExprArg e) (NoteArg n ∷ [])

  -- what an annotation is that begins with a token
  pub record Noted (may : Token → Bool) (o : Token) (rest : List Token) (depth : ℕ) : Type 0 where
    pub kind : Arguments
    pub takes : arguments_of w o ≡ Some kind
    pub stands : may o ≡ true
    pub deep : is_nothing kind ≡ false → 2 ≤ depth
    pub off : at_next (is_colon w) rest ≡ false

  note_noted : (may : Token → Bool) (ts : List Token) (n : NoteTree) → IsNote w may ts n → (o : Token) (rest : List Token) → ts ≡ o ∷ rest → Noted may o rest (depth_of_note n)
  note_noted _ _ _ (is_bare may t stands nothing) o rest e =
      let head : t ≡ o = cc e in
      let tail : rest ≡ [] = cc e in
      record { kind = arguments.Nothing; takes = sym (ap (arguments_of w) head) ∙ nothing; stands = sym (ap may head) ∙ stands; deep = λ k. absurd (let both : true ≡ false = k in cc both); off = ap (at_next (is_colon w)) tail }
  note_noted _ _ _ (has_arguments may t p c a ts args stands takes opens closes are) o rest e =
      let head : t ≡ o = cc e in
      let tail : rest ≡ p ∷ (ts ++ (c ∷ [])) = cc e in
      let one : 1 ≤ depth_of_args (arg_list args) = args_deep may a ts args are in
      record { kind = a; takes = sym (ap (arguments_of w) head) ∙ takes; stands = sym (ap may head) ∙ stands; deep = λ k. omega arith; off = ap (at_next (is_colon w)) tail ∙ open_off p opens }

  -- the first of two lists begins with the token, or is empty
  abbrev Split : List Token → List Token → Token → List Token → Type 0
  Split xs ys o rest = ((xs ≡ []) × (ys ≡ o ∷ rest)) ⊎ ((front : List Token) × (xs ≡ o ∷ front) × (rest ≡ front ++ ys))

  in_two : (xs ys : List Token) (o : Token) (rest : List Token) → xs ++ ys ≡ o ∷ rest → Split xs ys o rest
  in_two [] ys o rest e = inl (refl, e)
  in_two (x ∷ xs) ys o rest e =
      let head : x ≡ o = cc e in
      let tail : rest ≡ xs ++ ys = cc e in
      inr (xs, ap (λ z. z ∷ xs) head, tail)

  deeper_with : (ns : List NoteTree) (n : NoteTree) → depth_of_notes (note_list ns) ≤ depth_of_notes (note_list (ns ++ (n ∷ [])))
  deeper_with [] n = let none : 0 ≤ depth_of_notes (note_list (n ∷ [])) = omega arith in none
  deeper_with (m ∷ ns) n =
      let first : depth_of_note m ≤ max (depth_of_note m) (depth_of_notes (note_list (ns ++ (n ∷ [])))) = le-max_left (depth_of_note m) (depth_of_notes (note_list (ns ++ (n ∷ [])))) in
      let later : depth_of_notes (note_list (ns ++ (n ∷ []))) ≤ max (depth_of_note m) (depth_of_notes (note_list (ns ++ (n ∷ [])))) = le-max_right (depth_of_note m) (depth_of_notes (note_list (ns ++ (n ∷ [])))) in
      let inner : depth_of_notes (note_list ns) ≤ depth_of_notes (note_list (ns ++ (n ∷ []))) = deeper_with ns n in
      max-le first (le_trans inner later)

  deep_with : (ns : List NoteTree) (n : NoteTree) → depth_of_note n ≤ depth_of_notes (note_list (ns ++ (n ∷ [])))
  deep_with [] n = le-max_left (depth_of_note n) 0
  deep_with (m ∷ ns) n =
      let later : depth_of_notes (note_list (ns ++ (n ∷ []))) ≤ max (depth_of_note m) (depth_of_notes (note_list (ns ++ (n ∷ [])))) = le-max_right (depth_of_note m) (depth_of_notes (note_list (ns ++ (n ∷ [])))) in
      le_trans (deep_with ns n) later

  -- a list of annotations by its first token
  notes_noted : (may : Token → Bool) (ts : List Token) (ns : List NoteTree) → AreNotes w may ts ns → (o : Token) (rest : List Token) → ts ≡ o ∷ rest → Noted may o rest (depth_of_notes (note_list ns))
  notes_noted may _ _ no_notes o rest e = absurd (cc e)
  notes_noted may _ _ (more_notes xs ys ns n are is) o rest e = by_split (in_two xs ys o rest e) (notes_noted may xs ns are o)
    where
      by_split : Split xs ys o rest → ((front : List Token) → xs ≡ o ∷ front → Noted may o front (depth_of_notes (note_list ns))) → Noted may o rest (depth_of_notes (note_list (ns ++ (n ∷ []))))
      by_split (inl first) before =
          let it : Noted may o rest (depth_of_note n) = note_noted may ys n is o rest first.1 in
          record { kind = it.kind; takes = it.takes; stands = it.stands; deep = λ k. le_trans (it.deep k) (deep_with ns n); off = it.off }
      by_split (inr later) before =
          let it : Noted may o later.0 (depth_of_notes (note_list ns)) = before later.0 later.1 in
          record {
            kind = it.kind;
            takes = it.takes;
            stands = it.stands;
            deep = λ k. le_trans (it.deep k) (deeper_with ns n);
            off = ap (at_next (is_colon w)) later.2 ∙ off_append (is_colon w) later.0 ys it.off (list_off ys (note_begins w may ys n is));
          }

-- ---- specifiers

module _ (texts : List (List ℕ)) where
  specifier_off : (types : List Name) (ts : List Token) → at_next (begins_specifier (reading texts types)) ts ≡ true → at_next (is_colon (reading texts types)) ts ≡ false
  specifier_off types [] h = refl
  specifier_off types (t ∷ ts) h = declaration_no_mark texts types mark.Colon t (with_notes (is_specifier_word (reading texts types) t) (is_type_name (reading texts types) t) h)
    where
      with_notes : (b c : Bool) → (b || c) ≡ true → (b || (c || begins_note (reading texts types) t)) ≡ true
      with_notes true c e = refl
      with_notes false true e = refl
      with_notes false false e = absurd (cc e)

  specifiers_off : (at : Seat) (s r : Specified) (ts : List Token) → AreSpecifiers texts at s ts r → at_next (is_colon (reading texts [])) ts ≡ false
  specifiers_off _ _ _ _ (no_specifiers at s) = refl
  specifiers_off _ _ _ _ (more_specifiers at s r u xs ys is are) =
      by_head s xs ys (specifier_begins texts at s xs r is)
    where
      by_head : (s : Specified) (xs ys : List Token) → at_next (begins_specifier (reading texts s.types)) xs ≡ true → at_next (is_colon (reading texts [])) (xs ++ ys) ≡ false
      by_head s [] ys h = absurd (cc h)
      by_head s (x ∷ xs) ys h = specifier_off s.types (x ∷ xs) h

  -- a name is a specifier as that of a type alone
  pub record NamesType (types : List Name) (o : Token) (rest : List Token) : Type 0 where
    pub type_name : is_type_name (reading texts types) o ≡ true
    pub alone : rest ≡ []

  module _ (types : List Name) (o : Token) (named : is_name (reading texts types) o ≡ true) where
    no_keyword : (k : Keyword) (t : Token) → t ≡ o → sign.keyword_of texts t ≡ Some k → ⊥
    no_keyword k t same h =
        let word : is_keyword (reading texts types) k o ≡ true = ap (is_keyword (reading texts types) k) (sym same) ∙ ap (λ z. option_map_or (sign.is_same_keyword k) z false) h ∙ same_as_itself k in
        let none : true ≡ false = sym named ∙ ap is_some (keyword_no_name texts types k o word) in
        cc none

    tag_first : (k : Keyword) (ts : List Token) (tag : Option Name) (place : Place) → IsTag (reading texts types) k ts tag place → (rest later : List Token) → ts ++ later ≡ o ∷ rest → ⊥
    tag_first k _ _ _ (is_untagged t h) rest later e = let head : t ≡ o = cc e in no_keyword k t head (keyword_is (reading texts types) k t h)
    tag_first k _ _ _ (is_tagged t n tag h also) rest later e = let head : t ≡ o = cc e in no_keyword k t head (keyword_is (reading texts types) k t h)

    specifier_named : (at : Seat) (s r : Specified) (ts : List Token) → s.types ≡ types → IsSpecifier texts at s ts r → (rest : List Token) → ts ≡ o ∷ rest → NamesType types o rest
    specifier_named _ _ _ _ now (is_word at s t k said h e) rest split = let head : t ≡ o = cc split in absurd (no_keyword k t head h)
    specifier_named _ _ _ _ now (is_constant at s t h) rest split = let head : t ≡ o = cc split in absurd (no_keyword keyword.Const t head (keyword_is (reading texts s.types) keyword.Const t h))
    specifier_named _ _ _ _ now (is_restricted at s t h) rest split = let head : t ≡ o = cc split in absurd (no_keyword keyword.Restrict t head (keyword_is (reading texts s.types) keyword.Restrict t h))
    specifier_named _ _ _ _ now (is_inline at s t h e) rest split = let head : t ≡ o = cc split in absurd (no_keyword keyword.Inline t head (keyword_is (reading texts s.types) keyword.Inline t h))
    specifier_named _ _ _ _ now (is_stored at s t k storage h e) rest split = let head : t ≡ o = cc split in absurd (no_keyword k t head h)
    specifier_named _ _ _ _ now (is_defined at s t h e) rest split =
        let head : t ≡ o = cc split in
        let tail : rest ≡ [] = cc split in
        record { type_name = sym (ap (λ z. is_type_name (reading texts z) t) now ∙ ap (is_type_name (reading texts types)) head) ∙ h; alone = tail }
    specifier_named _ _ _ _ now (names_structure at s ts n place e is) rest split =
        absurd (tag_first keyword.Struct ts (Some n) place (subst (λ z. IsTag (reading texts z) keyword.Struct ts (Some n) place) now is) rest [] (append-nil ts ∙ split))
    specifier_named _ _ _ _ now (names_enumeration at s ts n place e is) rest split =
        absurd (tag_first keyword.Enum ts (Some n) place (subst (λ z. IsTag (reading texts z) keyword.Enum ts (Some n) place) now is) rest [] (append-nil ts ∙ split))
    specifier_named _ _ _ _ now (defines_structure at s xs ys p c tag place ds e is opens closes are) rest split =
        absurd (tag_first keyword.Struct xs tag place (subst (λ z. IsTag (reading texts z) keyword.Struct xs tag place) now is) rest (p ∷ (ys ++ (c ∷ []))) split)
    specifier_named _ _ _ _ now (defines_enumeration at s xs ys p c tag place is current comma e tagged opens closes are) rest split =
        absurd (tag_first keyword.Enum xs tag place (subst (λ z. IsTag (reading texts z) keyword.Enum xs tag place) now tagged) rest (p ∷ (ys ++ (c ∷ []))) split)

    -- specifiers that begin with a name
    pub record Typed (rest : List Token) : Type 0 where
      pub type_name : is_type_name (reading texts types) o ≡ true
      pub off : at_next (is_colon (reading texts types)) rest ≡ false

    specifiers_named : (at : Seat) (s r : Specified) (ts : List Token) → s.types ≡ types → AreSpecifiers texts at s ts r → (rest : List Token) → ts ≡ o ∷ rest → Typed rest
    specifiers_named _ _ _ _ now (no_specifiers at s) rest split = absurd (cc split)
    specifiers_named _ _ _ _ now (more_specifiers at s r u xs ys is are) rest split = by_split (in_two (reading texts types) xs ys o rest split)
      where
        filled : at_next (begins_specifier (reading texts s.types)) xs ≡ true → xs ≡ [] → ⊥
        filled h none = let both : true ≡ false = sym h ∙ ap (at_next (begins_specifier (reading texts s.types))) none in cc both

        by_split : ((xs ≡ []) × (ys ≡ o ∷ rest)) ⊎ ((front : List Token) × (xs ≡ o ∷ front) × (rest ≡ front ++ ys)) → Typed rest
        by_split (inl first) = absurd (filled (specifier_begins texts at s xs r is) first.0)
        by_split (inr later) =
            let it : NamesType types o later.0 = specifier_named at s r xs now is later.0 later.1 in
            record {
              type_name = it.type_name;
              off = ap (at_next (is_colon (reading texts types))) (later.2 ∙ ap (λ z. z ++ ys) it.alone) ∙ specifiers_off at r u ys are;
            }

  -- ---- declarations

  decl_deep : (notes : List NoteTree) (s : Specified) (base : TypeTree) (d : Declarator) (init : OptionalInit) → suc (depth_of_notes (note_list notes)) ≤ depth_of_decl (declaration_of notes s base d init tree.NoStmt)
  decl_deep notes s base d init =
      let less : depth_of_notes (note_list notes) ≤ max (depth_of_notes (note_list notes)) (max (depth_of_type (typed base d.pieces)) (max (depth_of_optional_init init) 0)) = le-max_left _ _ in
      omega arith

  declared_deep : (noted : List Token) (notes : List NoteTree) (s : Specified) (base : TypeTree) (ts : List Token) (ds : Declarations) → AreDeclared texts noted notes s base ts ds
      → suc (depth_of_notes (note_list notes)) ≤ depth_of_decls (decl_list ds.list)
  declared_deep noted notes s base _ _ (first_declared _ _ _ (is_declared types xs js ys d init is judged inits)) =
      le_trans (decl_deep notes s base d init) (last_depth [] (declaration_of notes s base d init tree.NoStmt))
  declared_deep noted notes s base _ _ (declared_behind _ _ c ds _ _ comma are (is_declared types xs js ys d init is judged inits)) =
      le_trans (decl_deep notes s (again base) d init) (last_depth ds.list (declaration_of notes s (again base) d init tree.NoStmt))

  declarator_off : (types : List Name) (functions : Bool) (ts later : List Token) (d : Declarator) → IsDeclarator texts types functions false ts d → at_next (is_colon (reading texts [])) (ts ++ later) ≡ false
  declarator_off types functions ts later d is =
      let n = has_its_name texts types functions ts d is in
      go ts (some_begins texts types functions false ts d is (ap (λ m. is_nothing_by m d.pieces) n.1))
    where
      go : (ts : List Token) → at_next (begins_any (reading texts types)) ts ≡ true → at_next (is_colon (reading texts [])) (ts ++ later) ≡ false
      go [] h = absurd (cc h)
      go (t ∷ ts) h = no_colon (reading texts types) t h

  declared_off : (noted : List Token) (notes : List NoteTree) (s : Specified) (base : TypeTree) (ts : List Token) (ds : Declarations) → AreDeclared texts noted notes s base ts ds
      → at_next (is_colon (reading texts [])) ts ≡ false
  declared_off noted notes s base _ _ (first_declared _ _ _ (is_declared types xs js ys d init is judged inits)) = declarator_off types (functions_in s) xs (js ++ ys) d is
  declared_off noted notes s base _ _ (declared_behind xs ys c ds d now comma are is) =
      off_append (is_colon (reading texts [])) xs (c ∷ ys) (declared_off noted notes s base xs ds are) (mark_alone (reading texts []) mark.Comma mark.Colon c (mark_is (reading texts []) mark.Comma c comma) refl)

  judged_off : (w : Lexicon) (function : Bool) (noted : List Token) (js : List Token) → IsJudged function noted js → at_next (is_colon w) js ≡ false
  judged_off w function noted _ (may_stand_there are) = refl
  judged_off w function noted _ (is_pardoned t none h) = pardon_no_mark w mark.Colon t h

  semicolon_off : (c : Token) → is_mark (reading texts []) mark.Semicolon c ≡ true → is_colon (reading texts []) c ≡ false
  semicolon_off c h = mark_alone (reading texts []) mark.Semicolon mark.Colon c (mark_is (reading texts []) mark.Semicolon c h) refl

  pub record NamedDeclaration (types : List Name) (o : Token) (rest : List Token) (depth : ℕ) : Type 0 where
    pub which : (is_type_name (reading texts types) o ≡ true) ⊎ ((a : Arguments) × (arguments_of (reading texts types) o ≡ Some a) × (is_nothing a ≡ false → 3 ≤ depth))
    pub placed : is_misplaced (reading texts types) o ≡ false
    pub off : at_next (is_colon (reading texts types)) rest ≡ false

  -- a typedef name is no annotation
  type_placed : (types : List Name) (o : Token) → is_type_name (reading texts types) o ≡ true → is_misplaced (reading texts types) o ≡ false
  type_placed types o h =
      ap (λ b. is_some (if b then arguments_in (word_of texts o) else None) && not (may_stand (reading texts types) bearer.Function o))
      (ap (λ b. is_some (name_of (reading texts types) o) && (not b && looks_like_note (word_of texts o))) h ∙ and_fails (is_some (name_of (reading texts types) o)) false refl)

  note_placed : (types : List Name) (o : Token) → may_stand (reading texts types) bearer.Function o ≡ true → is_misplaced (reading texts types) o ≡ false
  note_placed types o h = ap (λ b. is_listed (reading texts types) o && not b) h ∙ and_fails (is_listed (reading texts types) o) false refl

  module _ (types : List Name) (o : Token) (named : is_name (reading texts types) o ≡ true) where
    begun_named : (xs ys tail : List Token) (notes : List NoteTree) (s : Specified) (base : TypeTree) → Begins texts types xs ys notes s base → at_next (is_colon (reading texts [])) tail ≡ false
        → (depth : ℕ) → suc (depth_of_notes (note_list notes)) ≤ depth → (rest : List Token) → xs ++ (ys ++ tail) ≡ o ∷ rest → NamedDeclaration types o rest depth
    begun_named xs ys tail notes s base b off depth deep rest split = by_split (in_two (reading texts types) xs (ys ++ tail) o rest split)
      where
        some : ys ≡ [] → ⊥
        some none = let both : true ≡ false = sym (specifiers_begin texts seat.Scope types ys s base b.are_specifiers b.names) ∙ ap (at_next (begins_specifier (reading texts types))) none in cc both

        by_type : ((ys ≡ []) × (tail ≡ o ∷ rest)) ⊎ ((front : List Token) × (ys ≡ o ∷ front) × (rest ≡ front ++ tail)) → NamedDeclaration types o rest depth
        by_type (inl none) = absurd (some none.0)
        by_type (inr later) =
            let it : Typed types o named later.0 = specifiers_named types o named seat.Scope (unspecified types) s ys refl b.are_specifiers later.0 later.1 in
            record { which = inl it.type_name; placed = type_placed types o it.type_name; off = ap (at_next (is_colon (reading texts types))) later.2 ∙ off_append (is_colon (reading texts [])) later.0 tail it.off off }

        by_split : ((xs ≡ []) × (ys ++ tail ≡ o ∷ rest)) ⊎ ((front : List Token) × (xs ≡ o ∷ front) × (rest ≡ front ++ (ys ++ tail))) → NamedDeclaration types o rest depth
        by_split (inl none) = by_type (in_two (reading texts types) ys tail o rest none.1)
        by_split (inr later) =
            let it = notes_noted (reading texts types) (may_stand (reading texts types) bearer.Function) xs notes b.are_notes o later.0 later.1 in
            record {
              which = inr (it.kind, it.takes, λ k. let two : 2 ≤ depth_of_notes (note_list notes) = it.deep k in omega arith);
              placed = note_placed types o it.stands;
              off = ap (at_next (is_colon (reading texts types))) later.2
                  ∙ off_append (is_colon (reading texts [])) later.0 (ys ++ tail) it.off (off_append (is_colon (reading texts [])) ys tail (specifiers_off seat.Scope (unspecified types) s ys b.are_specifiers) off);
            }

    pub declaration_named : (ts : List Token) (ds : Declarations) → IsDeclaration texts types ts ds → (rest : List Token) → ts ≡ o ∷ rest → NamedDeclaration types o rest (depth_of_decls (decl_list ds.list))
    declaration_named _ _ (is_nameless _ xs ys js c notes s base b judged ends) rest split =
        begun_named xs ys (js ++ (c ∷ [])) notes s base b (off_append (is_colon (reading texts [])) js (c ∷ []) (judged_off (reading texts types) false xs js judged) (semicolon_off c ends))
        (depth_of_decls (decl_list (tree.Decl (note_list notes) (storage_of s) base None (place_of_base base) tree.NoInit tree.NoStmt ∷ [])))
        (le_trans (decl_deep notes s base (record { pieces = []; name = None; inner = types }) tree.NoInit) (last_depth [] (tree.Decl (note_list notes) (storage_of s) base None (place_of_base base) tree.NoInit tree.NoStmt))) rest split
    declaration_named _ _ (is_declaration _ xs ys zs c notes s base ds b are ends) rest split =
        begun_named xs ys (zs ++ (c ∷ [])) notes s base b (off_append (is_colon (reading texts [])) zs (c ∷ []) (declared_off xs notes s base zs ds are) (semicolon_off c ends)) (depth_of_decls (decl_list ds.list))
        (declared_deep xs notes s base zs ds are) rest split

    -- a declaration is more than one token
    long_list : (xs ys tail : List Token) (c : Token) → (ys ≡ [] → ⊥) → xs ++ (ys ++ (tail ++ (c ∷ []))) ≡ o ∷ [] → ⊥
    long_list [] [] tail c some e = some refl
    long_list [] (y ∷ []) [] c some e = cc e
    long_list [] (y ∷ []) (t ∷ tail) c some e = cc e
    long_list [] (y ∷ (z ∷ ys)) tail c some e = cc e
    long_list (x ∷ []) [] tail c some e = some refl
    long_list (x ∷ []) (y ∷ ys) tail c some e = cc e
    long_list (x ∷ (z ∷ xs)) ys tail c some e = cc e

    some_specified : (xs ys : List Token) (notes : List NoteTree) (s : Specified) (base : TypeTree) → Begins texts types xs ys notes s base → ys ≡ [] → ⊥
    some_specified xs ys notes s base b none = let both : true ≡ false = sym (specifiers_begin texts seat.Scope types ys s base b.are_specifiers b.names) ∙ ap (at_next (begins_specifier (reading texts types))) none in cc both

    pub ends_alone : (ts : List Token) (ds : Declarations) → IsDeclaration texts types ts ds → ts ≡ o ∷ [] → ⊥
    ends_alone _ _ (is_nameless _ xs ys js c notes s base b judged ends) e = long_list xs ys js c (some_specified xs ys notes s base b) e
    ends_alone _ _ (is_declaration _ xs ys zs c notes s base ds b are ends) e = long_list xs ys zs c (some_specified xs ys notes s base b) e
