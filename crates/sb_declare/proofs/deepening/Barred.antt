-- Where no declaration has room, and the readers of some greater depth: they get past the first token of a declaration.
use Rattle.std.proofs.Common.{◌≡◌, ◌≤◌, ◌⊎◌, ◌-◌, ℕ, suc, Bool, true, false, ◌||◌, ◌&&◌, not, List, [], ◌∷◌, ◌++◌, length, take, Option, Some, None, if◌then◌else◌, refl, sym, ap, ◌∙◌, subst, inl, inr, arith}
use Rattle.std.specs.Option.{option_map_or}
use Rattle.sb_base.specs.declared.interning.Name.{Name}
use Rattle.sb_base.specs.declared.tokens.Token.{Token}
use Rattle.sb_parse.specs.Parser.{Outcome, Parser, done, stop, and_then, ◌>>=◌, pure, refuse, token, choose, loop, looped}
use Rattle.sb_parse.specs.Read.{CanBegin}
use Rattle.sb_parse.proofs.Heads.{chosen}
use Rattle.sb_sign.specs.declared.sign.Keyword.{Keyword}
use Rattle.sb_sign.specs.declared.sign.Keyword.TheVariants as keyword
use Rattle.sb_tree.specs.Plain.{note_list}
use Rattle.sb_sign.specs.Signs as sign
use Rattle.sb_tree.specs.Trees as tree
use Rattle.sb_tree.specs.Trees.{TypeTree, NoteTree, depth_of_notes}
use Rattle.sb_lexicon.specs.Lexicon.{Lexicon, is_keyword, is_type_name, is_type_keyword}
use Rattle.sb_lexicon.specs.Words.{Nothing, Whole}
use Rattle.sb_lexicon.specs.Tokens as expr
use Rattle.sb_lexicon.specs.SpecifierReaders.{is_floating, is_union, is_complex}
use Rattle.sb_lexicon.specs.Tokens.{unexpected, too_deep, unknown, misplaced, is_comma}
use Rattle.sb_lexicon.proofs.Depths.{room_within}
use Rattle.sb_parse.proofs.Ways.{first_fails, second_fails}
use Rattle.sb_sal.specs.declared.bearer.Bearer as bearer
use Rattle.sb_sal.specs.Notes.{AreNotes}
use Rattle.sb_sal.specs.Reads.{FitsNotes}
use Rattle.sb_sal.specs.Readers.{note_reader, next_note, notes_reader}
use Rattle.sb_sal.specs.Spellings.{begins_note, is_listed, is_unlisted, may_stand}
use Rattle.sb_sal.proofs.Annotations.{more_notes_behind, lawful_notes}
use Rattle.sb_sal.proofs.Deepening.{Past, Shrinks, past_most, past_then, past_bind, enters, most_at, shrinks_pure, shrinks_then, shrinks_looped}
use Rattle.sb_sal.proofs.ExprDeepening.{past_by_text}
use Rattle.sb_sal.proofs.Filled.{filled}
use Rattle.sb_sal.proofs.Lowered.{not_unexpected, not_unknown, not_misplaced, not_lacking}
use Rattle.sb_sal.proofs.NoteDeepening.{notes_deepen}
use Rattle.sb_sal.proofs.NoteWider.{no_notes}
use Rattle.sb_sal.proofs.SomeDepth.{at_some_depth}
use Rattle.sb_specifier.specs.declared.seat.Seat.{Seat}
use Rattle.sb_specifier.specs.declared.seat.Seat.TheVariants as seat
use Rattle.sb_specifier.specs.Specified.{reading, Specified, unspecified, saying, constantly, base_of, bearer_at}
use Rattle.sb_parse.specs.Texts.{with_front, with_text}
use Rattle.sb_specifier.specs.Readers.{is_storage_keyword, is_specifier_word, barred, Parts, is_inline, past_tag, specified, keyword_specifiers, names_type, defined, completed, specifiers}
use Rattle.sb_declarator.specs.Readers.{on, parameter, next_parameter, parameters_at}
use Rattle.sb_declare.specs.Readers.{opening}
use Rattle.sb_declare.proofs.widening.Barred.{is_word, begins_by, begins_as, none_begins, specified_by, by_specifier, by_word, behind_one, later, notes_at}
use Rattle.sb_specifier.proofs.laws.Keywords.{type_name_specifies_none}
use Rattle.sb_declarator.proofs.deepening.Members.{past_front, shrinks_text}
use Rattle.sb_declarator.proofs.deepening.Shrinking.{shrinks_loop, past_tag_shrinks, specified_shrinks, structure_enters, enumeration_enters, keywords_shrink, defined_shrinks, completed_shrinks, specifiers_shrink, on_shrinks, next_parameter_shrinks}

-- ---- outcomes by a test

not_deep : {A : Type 0} (i k left : ℕ) → (i ≡ too_deep → ⊥) → Path (Outcome Token A) (stop i k) (stop too_deep left) → ⊥
not_deep i k left other e = other (cc e)

-- another refusal, or what stands behind the test
behind_test : {A : Type 0} (b : Bool) (i k left : ℕ) (o : Outcome Token A) → (i ≡ too_deep → ⊥) → (if b then stop i k else o) ≡ stop too_deep left → (b ≡ false) × (o ≡ stop too_deep left)
behind_test true i k left o other e = absurd (not_deep i k left other e)
behind_test false i k left o other e = (refl, e)

-- the readers of members leave no more than there was
abbrev pub MembersShrink : ℕ → (ℕ → Parts) → Type 0
MembersShrink m part = (k : ℕ) → 2 ≤ m - k → (types : List Name) → Shrinks ((part k).members types)

abbrev pub ParametersShrink : ℕ → (ℕ → Parts) → Type 0
ParametersShrink m part = (k : ℕ) → 2 ≤ m - k → (types : List Name) → Shrinks ((part k).parameters types)

-- ---- the first specifier

module _ (texts : List (List ℕ)) (types : List Name) (at : Seat) (m : ℕ) (part : ℕ → Parts) (Members : MembersShrink m part) (t : Token) (ts : List Token) where
  abbrev none : Specified
  none = unspecified types

  abbrev all : ℕ
  all = suc (length ts)

  abbrev tag_past : Specified → Parser Token Specified
  tag_past = past_tag texts at m part

  pub by_done : (s : Specified) → Past all (tag_past s ts)
  by_done s = past_most all (length ts) (tag_past s ts) (most_at (tag_past s) (past_tag_shrinks texts at m part Members s) ts) (omega arith)

  pub by_token : (test : Token → Bool) (s : Specified) → test t ≡ true → Past all (and_then ((token unexpected test >>= (λ t. pure s)) (t ∷ ts)) tag_past)
  by_token test s h =
      past_then all ((token unexpected test >>= (λ t. pure s)) (t ∷ ts)) tag_past (enters unexpected test (λ t. pure s) (λ t. shrinks_pure s) (t ∷ ts) h) (λ a rest e. most_at (tag_past a) (past_tag_shrinks texts at m part Members a) rest)

  by_const : 2 ≤ m → sign.keyword_of texts t ≡ Some keyword.Const → Past all (specified_by texts at m part none t ts (Some keyword.Const))
  by_const enough h =
      subst (λ b. Past all (and_then (if b then stop too_deep all else (token unexpected (is_keyword (reading texts types) keyword.Const) >>= (λ t. pure (constantly none))) (t ∷ ts)) tag_past)) (sym (room_within m 2 enough))
      (by_token (is_keyword (reading texts types) keyword.Const) (constantly none) (ap (is_word keyword.Const) h))

  -- behind it
  later_past : is_specifier_word (reading texts types) t ≡ true → Past all (specified texts at m part none (t ∷ ts)) → Past all (specifiers texts at m part types (t ∷ ts))
  later_past h P =
      subst (Past all) (sym (by_word texts types m part at t ts h))
      (past_then all _ (λ s. completed texts at m part s (base_of s))
      (past_then all _ (defined texts at m part)
      (past_then all (specified texts at m part none (t ∷ ts)) (behind_one texts types m part at t ts) P
      (λ a rest e. most_at (behind_one texts types m part at t ts a) (shrinks_loop (is_specifier_word (reading texts [])) (specified texts at m part) (specified_shrinks texts at m part Members) (length ts) a) rest))
      (λ a rest e. most_at (defined texts at m part a) (defined_shrinks texts at m part Members a) rest))
      (λ a rest e. most_at (completed texts at m part a (base_of a)) (completed_shrinks texts at m part Members a (base_of a)) rest))

  -- a typedef name
  named_past : is_type_name (reading texts types) t ≡ true → Past all (specifiers texts at m part types (t ∷ ts))
  unfolding specifiers keyword_specifiers defined loop
  named_past h =
      subst (λ b. Past all (later texts types m part at t ts (if b then and_then (specified texts at m part none (t ∷ ts)) (behind_one texts types m part at t ts) else done none (t ∷ ts))))
      (sym (type_name_specifies_none (reading texts types) t h))
      (subst (λ b. Past all (and_then (if b then and_then (token unexpected (names_type texts at m part none) (t ∷ ts)) behind_name else done none (t ∷ ts)) (λ s. completed texts at m part s (base_of s)))) (sym h)
      (past_then all (and_then (token unexpected (names_type texts at m part none) (t ∷ ts)) behind_name) (λ s. completed texts at m part s (base_of s))
      (enters unexpected (names_type texts at m part none) behind_name (λ u. keywords_shrink texts at m part Members (saying (Whole (tree.Defined u.text u.place)) none)) (t ∷ ts) h)
      (λ a rest e. most_at (completed texts at m part a (base_of a)) (completed_shrinks texts at m part Members a (base_of a)) rest)))
    where
      behind_name : Token → Parser Token Specified
      behind_name u = keyword_specifiers texts at m part (saying (Whole (tree.Defined u.text u.place)) none)

-- ---- the first token where there is no room

module _ (A : Type 0) (texts : List (List ℕ)) (types : List Name) (t : Token) (ts : List Token) where
  abbrev w : Lexicon
  w = reading texts types

  abbrev whole : ℕ
  whole = suc (length ts)

  -- what stands where there is no room, behind the tests for annotations
  abbrev by_room : Bool → Outcome Token A
  by_room b = if b then stop too_deep whole else stop unexpected whole

  abbrev from_complex : Seat → Option Keyword → (named note : Bool) → Outcome Token A
  from_complex at o named note = if (is_word keyword.Complex o || is_word keyword.Imaginary o) && true then stop expr.complex whole else by_room (begins_by at o named note)

  abbrev from_volatile : Seat → Option Keyword → (named note : Bool) → Outcome Token A
  from_volatile at o named note = if is_word keyword.Volatile o then stop expr.volatile whole else from_complex at o named note

  abbrev from_union : Seat → Option Keyword → (named note : Bool) → Outcome Token A
  from_union at o named note = if is_word keyword.Union o && true then stop expr.union whole else from_volatile at o named note

  abbrev barred_by : Seat → Option Keyword → (named note : Bool) → Outcome Token A
  barred_by at o named note = if (is_word keyword.Float o && true) || (is_word keyword.Double o && true) then stop expr.floating whole else from_union at o named note

  record Needs (at : Seat) (left : ℕ) : Type 0 where
    pub known : is_unlisted w t ≡ false
    pub placed : (is_listed w t && not (may_stand w (bearer_at at) t)) ≡ false
    pub begun : barred_by at (sign.keyword_of texts t) (is_type_name w t) (begins_note w t) ≡ stop too_deep left

  is_barred : (at : Seat) → barred {A = A} w at (t ∷ ts) ≡ (if is_unlisted w t then stop unknown whole else (if is_listed w t && not (may_stand w (bearer_at at) t) then stop misplaced whole
      else barred_by at (sign.keyword_of texts t) (is_type_name w t) (begins_note w t)))
  is_barred at =
      ap (λ b. if is_unlisted w t then stop unknown whole else (if is_listed w t && not (may_stand w (bearer_at at) t) then stop misplaced whole
      else (if is_floating w Nothing t then stop expr.floating whole else (if is_union w Nothing t then stop expr.union whole else (if is_keyword w keyword.Volatile t then stop expr.volatile whole
      else (if is_complex w Nothing t then stop expr.complex whole else (if b then stop too_deep whole else stop unexpected whole))))))) (begins_as w at t)

  needed : (at : Seat) (left : ℕ) → barred {A = A} w at (t ∷ ts) ≡ stop too_deep left → Needs at left
  needed at left e =
      let one = behind_test (is_unlisted w t) unknown whole left
      (if is_listed w t && not (may_stand w (bearer_at at) t) then stop misplaced whole else barred_by at (sign.keyword_of texts t) (is_type_name w t) (begins_note w t)) not_unknown (sym (is_barred at) ∙ e) in
      let two = behind_test (is_listed w t && not (may_stand w (bearer_at at) t)) misplaced whole left (barred_by at (sign.keyword_of texts t) (is_type_name w t) (begins_note w t)) not_misplaced one.1 in
      record { known = one.0; placed = two.0; begun = two.1 }

  -- behind the features that are left out
  room_is : (at : Seat) (o : Option Keyword) (named note : Bool) (left : ℕ) → barred_by at o named note ≡ stop too_deep left → by_room (begins_by at o named note) ≡ stop too_deep left
  room_is at o named note left e =
      let one = behind_test ((is_word keyword.Float o && true) || (is_word keyword.Double o && true)) expr.floating whole left (from_union at o named note) (not_lacking 1) e in
      let two = behind_test (is_word keyword.Union o && true) expr.union whole left (from_volatile at o named note) (not_lacking 2) one.1 in
      let three = behind_test (is_word keyword.Volatile o) expr.volatile whole left (from_complex at o named note) (not_lacking 7) two.1 in
      (behind_test ((is_word keyword.Complex o || is_word keyword.Imaginary o) && true) expr.complex whole left (by_room (begins_by at o named note)) (not_lacking 8) three.1).1

  all_left : (b : Bool) (left : ℕ) → by_room b ≡ stop too_deep left → left ≡ whole
  all_left true left f = sym (cc f)
  all_left false left f = absurd (not_deep unexpected whole left not_unexpected f)

  no_room : (left : ℕ) (at : Seat) (o : Option Keyword) → option_map_or is_type_keyword o false ≡ false → option_map_or is_storage_keyword o false ≡ false → is_word keyword.Register o ≡ false → is_word keyword.Inline o ≡ false
      → by_room (begins_by at o false false) ≡ stop too_deep left → ⊥
  no_room left at o type storage register inline e = not_deep unexpected whole left not_unexpected (sym (ap by_room (none_begins at o type storage register inline)) ∙ e)

  -- ---- an annotation

  module _ (b : bearer.Bearer) (known : is_unlisted w t ≡ false) (placed : (is_listed w t && not (may_stand w b t)) ≡ false) (h : begins_note w t ≡ true) where
    abbrev may : Token → Bool
    may = may_stand w b

    note_zero : note_reader w 0 may (t ∷ ts) ≡ stop too_deep whole
    unfolding note_reader
    note_zero =
        chosen (is_unlisted w) (refuse unknown) (choose (λ t. is_listed w t && not (may t)) (refuse misplaced) (choose (begins_note w) (refuse too_deep) (refuse unexpected))) (t ∷ ts) false known
        ∙ chosen (λ t. is_listed w t && not (may t)) (refuse misplaced) (choose (begins_note w) (refuse too_deep) (refuse unexpected)) (t ∷ ts) false placed
        ∙ chosen (begins_note w) (refuse too_deep) (refuse unexpected) (t ∷ ts) true h

    notes_zero : notes_reader w 0 may (t ∷ ts) ≡ stop too_deep whole
    unfolding loop next_note
    notes_zero =
        ap (λ b. if b then and_then (next_note w 0 may [] (t ∷ ts)) (loop (begins_note w) (next_note w 0 may) (length ts)) else done [] (t ∷ ts)) h
        ∙ ap (λ o. and_then (and_then o (λ n. pure ([] ++ (n ∷ [])))) (loop (begins_note w) (next_note w 0 may) (length ts))) note_zero

    -- some annotations begin so
    abbrev begin_so : CanBegin (AreNotes w may) (t ∷ [])
    begin_so =
        at_some_depth (AreNotes w may) (λ ns. depth_of_notes (note_list ns)) (more_notes_behind w) 0 (λ left. notes_reader w left may) (λ left some. lawful_notes w left may (filled w b)) 0 (omega arith) (notes_deepen w may 0) (t ∷ ts)
        whole notes_zero [] (t ∷ ts) refl refl

    abbrev least_depth : ℕ
    least_depth = depth_of_notes (note_list begin_so.tree)

    note_past : (m : ℕ) → least_depth ≤ m → Past whole (notes_reader w m may (t ∷ ts))
    note_past m le =
        past_by_text (FitsNotes w m may) (more_notes_behind w) (notes_reader w m may) (lawful_notes w m may (filled w b)) [] t ts (record { rest = begin_so.rest; tree = begin_so.tree; is = (begin_so.is, le) })

  -- ---- a keyword

  module _ (m : ℕ) (part : ℕ → Parts) (Members : MembersShrink m part) (enough : 2 ≤ m) (left : ℕ) where
    abbrev Read : Seat → Keyword → Type 0
    Read at k = Past whole (specified_by texts at m part (unspecified types) t ts (Some k))

    abbrev Barred : Seat → Keyword → Type 0
    Barred at k = barred_by at (Some k) false false ≡ stop too_deep left

    by_typedef : (at : Seat) → Barred at keyword.Typedef → Read at keyword.Typedef
    by_typedef seat.Scope e = by_done texts types seat.Scope m part Members t ts _
    by_typedef seat.Structure e = absurd (not_deep unexpected whole left not_unexpected e)
    by_typedef seat.Prototype e = absurd (not_deep unexpected whole left not_unexpected e)

    by_extern : (at : Seat) → Barred at keyword.Extern → Read at keyword.Extern
    by_extern seat.Scope e = by_done texts types seat.Scope m part Members t ts _
    by_extern seat.Structure e = absurd (not_deep unexpected whole left not_unexpected e)
    by_extern seat.Prototype e = absurd (not_deep unexpected whole left not_unexpected e)

    by_static : (at : Seat) → Barred at keyword.Static → Read at keyword.Static
    by_static seat.Scope e = by_done texts types seat.Scope m part Members t ts _
    by_static seat.Structure e = absurd (not_deep unexpected whole left not_unexpected e)
    by_static seat.Prototype e = absurd (not_deep unexpected whole left not_unexpected e)

    by_register : (at : Seat) → Barred at keyword.Register → Read at keyword.Register
    by_register seat.Scope e = by_done texts types seat.Scope m part Members t ts _
    by_register seat.Structure e = absurd (not_deep unexpected whole left not_unexpected e)
    by_register seat.Prototype e = by_done texts types seat.Prototype m part Members t ts _

    by_inline : (at : Seat) → sign.keyword_of texts t ≡ Some keyword.Inline → Barred at keyword.Inline → Read at keyword.Inline
    by_inline seat.Scope h e = by_token texts types seat.Scope m part Members t ts (is_inline texts seat.Scope m part (unspecified types)) (unspecified types) (ap (λ o. is_word keyword.Inline o && true) h)
    by_inline seat.Structure h e = absurd (not_deep unexpected whole left not_unexpected e)
    by_inline seat.Prototype h e =
        by_token texts types seat.Prototype m part Members t ts (is_inline texts seat.Prototype m part (unspecified types)) (unspecified types) (ap (λ o. is_word keyword.Inline o && true) h)

    by_keyword : (at : Seat) (k : Keyword) → sign.keyword_of texts t ≡ Some k → Barred at k → Read at k
    by_keyword at keyword.Void h e = by_done texts types at m part Members t ts _
    by_keyword at keyword.Bool h e = by_done texts types at m part Members t ts _
    by_keyword at keyword.Char h e = by_done texts types at m part Members t ts _
    by_keyword at keyword.Short h e = by_done texts types at m part Members t ts _
    by_keyword at keyword.Int h e = by_done texts types at m part Members t ts _
    by_keyword at keyword.Long h e = by_done texts types at m part Members t ts _
    by_keyword at keyword.Signed h e = by_done texts types at m part Members t ts _
    by_keyword at keyword.Unsigned h e = by_done texts types at m part Members t ts _
    by_keyword at keyword.Struct h e = structure_enters texts at m part Members (unspecified types) (λ n place. tree.Struct (Some n) tree.Undeclared place) keyword.Struct (t ∷ ts) (ap (is_word keyword.Struct) h)
    by_keyword at keyword.Enum h e = enumeration_enters texts at m part Members (unspecified types) (λ n place. tree.Enum (Some n) tree.Unlisted place) keyword.Enum (t ∷ ts) (ap (is_word keyword.Enum) h)
    by_keyword at keyword.Const h e = by_const texts types at m part Members t ts enough h
    by_keyword at keyword.Restrict h e = by_token texts types at m part Members t ts (is_keyword w keyword.Restrict) (unspecified types) (ap (is_word keyword.Restrict) h)
    by_keyword at keyword.Typedef h e = by_typedef at e
    by_keyword at keyword.Extern h e = by_extern at e
    by_keyword at keyword.Static h e = by_static at e
    by_keyword at keyword.Register h e = by_register at e
    by_keyword at keyword.Inline h e = by_inline at h e
    by_keyword at keyword.Float h e = absurd (not_deep expr.floating whole left (not_lacking 1) e)
    by_keyword at keyword.Double h e = absurd (not_deep expr.floating whole left (not_lacking 1) e)
    by_keyword at keyword.Union h e = absurd (not_deep expr.union whole left (not_lacking 2) e)
    by_keyword at keyword.Volatile h e = absurd (not_deep expr.volatile whole left (not_lacking 7) e)
    by_keyword at keyword.Complex h e = absurd (not_deep expr.complex whole left (not_lacking 8) e)
    by_keyword at keyword.Imaginary h e = absurd (not_deep expr.complex whole left (not_lacking 8) e)
    by_keyword at _ h e = absurd (no_room left at (Some _) refl refl refl refl e)

-- ---- how a declaration begins at these tokens

-- annotations are read past the first token, or there are none and specifiers are
abbrev pub Enters : List (List ℕ) → List Name → Seat → ℕ → (ℕ → Parts) → List Token → Type 0
Enters texts types at m part ts = Past (length ts) (notes_at texts types m at ts) ⊎ ((notes_at texts types m at ts ≡ done [] ts) × Past (length ts) (specifiers texts at m part types ts))

-- from some depth on
abbrev pub FromDepth : List (List ℕ) → List Name → Seat → List Token → Type 0
FromDepth texts types at ts = (least : ℕ) × ((m : ℕ) → least ≤ m → (part : ℕ → Parts) → MembersShrink m part → Enters texts types at m part ts)

register_stores : (o : Option Keyword) → option_map_or is_storage_keyword o false ≡ false → is_word keyword.Register o ≡ false
register_stores None h = refl
register_stores (Some keyword.Register) h = absurd (cc h)
register_stores (Some _) h = refl

inline_stores : (o : Option Keyword) → option_map_or is_storage_keyword o false ≡ false → is_word keyword.Inline o ≡ false
inline_stores None h = refl
inline_stores (Some keyword.Inline) h = absurd (cc h)
inline_stores (Some _) h = refl

module _ (A : Type 0) (texts : List (List ℕ)) (types : List Name) (at : Seat) (t : Token) (ts : List Token) (left : ℕ) (N : Needs A texts types t ts at left) where
  abbrev here : Lexicon
  here = reading texts types

  unnamed_by : is_type_name here t ≡ false → begins_note here t ≡ false → barred_by A texts types t ts at (sign.keyword_of texts t) false false ≡ stop too_deep left
  unnamed_by k h = sym (ap (λ b. barred_by A texts types t ts at (sign.keyword_of texts t) b (begins_note here t)) k ∙ ap (barred_by A texts types t ts at (sign.keyword_of texts t) false) h) ∙ N.begun

  -- a keyword of a specifier
  some_word : (o : Option Keyword) → (option_map_or is_type_keyword o false || option_map_or is_storage_keyword o false) ≡ false → barred_by A texts types t ts at o false false ≡ stop too_deep left → ⊥
  some_word o off e =
      let type : option_map_or is_type_keyword o false ≡ false = first_fails (option_map_or is_type_keyword o false) (option_map_or is_storage_keyword o false) off in
      let storage : option_map_or is_storage_keyword o false ≡ false = second_fails (option_map_or is_type_keyword o false) (option_map_or is_storage_keyword o false) off in
      no_room A texts types t ts left at o type storage (register_stores o storage) (inline_stores o storage) (room_is A texts types t ts at o false false left e)

  module _ (m : ℕ) (part : ℕ → Parts) (Members : MembersShrink m part) (enough : 2 ≤ m) where
    by_key : (o : Option Keyword) → sign.keyword_of texts t ≡ o → is_specifier_word here t ≡ true → barred_by A texts types t ts at o false false ≡ stop too_deep left → Past (suc (length ts)) (specifiers texts at m part types (t ∷ ts))
    by_key None h word e = absurd (some_word None refl e)
    by_key (Some k) h word e =
        later_past texts types at m part Members t ts word
        (subst (Past (suc (length ts))) (sym (by_specifier texts at m part (unspecified types) t ts (Some k) h)) (by_keyword A texts types t ts m part Members enough left at k h e))

    by_word_there : (b : Bool) → is_specifier_word here t ≡ b → barred_by A texts types t ts at (sign.keyword_of texts t) false false ≡ stop too_deep left → Past (suc (length ts)) (specifiers texts at m part types (t ∷ ts))
    by_word_there true word e = by_key (sign.keyword_of texts t) refl word e
    by_word_there false word e = absurd (some_word (sign.keyword_of texts t) word e)

    by_name : (b : Bool) → is_type_name here t ≡ b → begins_note here t ≡ false → Past (suc (length ts)) (specifiers texts at m part types (t ∷ ts))
    by_name true k h = named_past texts types at m part Members t ts k
    by_name false k h = by_word_there (is_specifier_word here t) refl (unnamed_by k h)

  by_note : (b : Bool) → begins_note here t ≡ b → FromDepth texts types at (t ∷ ts)
  by_note true h = (least_depth A texts types t ts (bearer_at at) N.known N.placed h, λ m le part Members. inl (note_past A texts types t ts (bearer_at at) N.known N.placed h m le))
  by_note false h = (2, λ m le part Members. inr (no_notes here m (may_stand here (bearer_at at)) (t ∷ ts) h, by_name m part Members le (is_type_name here t) refl h))

pub begins : (A : Type 0) (texts : List (List ℕ)) (types : List Name) (at : Seat) (ts : List Token) (left : ℕ) → barred {A = A} (reading texts types) at ts ≡ stop too_deep left → (left ≡ length ts) × FromDepth texts types at ts
begins A texts types at [] left e = absurd (not_deep unexpected 0 left not_unexpected e)
begins A texts types at (t ∷ ts) left e =
    let N = needed A texts types t ts at left e in
    let o = sign.keyword_of texts t in (
      all_left A texts types t ts (begins_by at o (is_type_name (reading texts types) t) (begins_note (reading texts types) t)) left
          (room_is A texts types t ts at o (is_type_name (reading texts types) t) (begins_note (reading texts types) t) left N.begun),
      by_note A texts types at t ts left N (begins_note (reading texts types) t) refl,
    )

-- ---- whatever follows the specifiers

module _ {A : Type 0} (texts : List (List ℕ)) (types : List Name) (at : Seat) (m : ℕ) (part : ℕ → Parts) (Members : MembersShrink m part) where
  pub text_past : (f : List NoteTree × List Token → (Specified × TypeTree) × List Token → Parser Token A) → ((ns : List NoteTree × List Token) (s : (Specified × TypeTree) × List Token) → Shrinks (f ns s)) → (ts : List Token)
      → Enters texts types at m part ts → Past (length ts) ((with_text (notes_at texts types m at) >>= (λ ns. with_text (specifiers texts at m part types) >>= f ns)) ts)
  text_past f F ts (inl P) =
      past_bind (with_text (notes_at texts types m at)) (λ ns. with_text (specifiers texts at m part types) >>= f ns) (length ts) ts (past_front (length ts) ts (notes_at texts types m at ts) P)
      (λ ns. shrinks_then (with_text (specifiers texts at m part types)) (f ns) (shrinks_text (specifiers texts at m part types) (specifiers_shrink texts at m part Members types)) (F ns))
  text_past f F ts (inr E) =
      subst (λ o. Past (length ts) (and_then (with_front ts o) (λ ns. with_text (specifiers texts at m part types) >>= f ns))) (sym E.0)
      (past_bind (with_text (specifiers texts at m part types)) (f ([], take (length ts - length ts) ts)) (length ts) ts (past_front (length ts) ts (specifiers texts at m part types ts) E.1) (F ([], take (length ts - length ts) ts)))

module _ (texts : List (List ℕ)) (types : List Name) (m : ℕ) (part : ℕ → Parts) (Members : MembersShrink m part) (Parameters : ParametersShrink m part) where
  pub parameters_past : (ts : List Token) → Enters texts types seat.Prototype m part ts → Past (length ts) (parameters_at texts m part types ts)
  unfolding parameters_at parameter
  parameters_past ts E =
      past_bind (parameter texts m part (record { list = []; types = types })) (looped (is_comma (reading texts types)) (next_parameter texts m part)) (length ts) ts
      (text_past texts types seat.Prototype m part Members _ (λ ns s. shrinks_then (on texts m part s.0.0.types false true s.0.1) _ (on_shrinks texts m part Members Parameters s.0.0.types false true s.0.1) (λ d. shrinks_pure _)) ts E)
      (λ ds. shrinks_looped (is_comma (reading texts types)) (next_parameter texts m part) (next_parameter_shrinks texts m part Members Parameters) ds)

  pub opening_past : (ts : List Token) → Enters texts types seat.Scope m part ts → Past (length ts) (opening texts m part types ts)
  unfolding opening
  opening_past ts E = text_past texts types seat.Scope m part Members _ (λ ns s. shrinks_pure _) ts E
