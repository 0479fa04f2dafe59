-- Why the readers of annotations stop.
use Rattle.std.proofs.Common.{◌≡◌, ◌≤◌, ℕ, zero, suc, Bool, true, false, ◌||◌, ◌&&◌, not, List, [], ◌∷◌, ◌++◌, length, Some, refl, sym, ap, ◌∙◌, subst, arith}
use Rattle.sb_base.specs.declared.tokens.Token.{Token}
use Rattle.sb_parse.specs.Parser.{Parser, done, stop, at_next, and_then, ◌>>=◌, pure, refuse, token, taken, choose, loop}
use Rattle.sb_parse.specs.Lawful.{OnHead}
use Rattle.sb_parse.proofs.Joining.{map_of}
use Rattle.sb_tree.specs.Plain.{arg_list, note_list}
use Rattle.sb_tree.specs.Trees as tree
use Rattle.sb_tree.specs.Trees.{NoteTree, ArgTree, ExprArg, depth_of_notes}
use Rattle.sb_lexicon.specs.Lexicon.{Lexicon}
use Rattle.sb_lexicon.specs.Tokens.{unexpected, too_deep, is_zero, is_open, is_star, bad_arguments, unknown, misplaced}
use Rattle.sb_lexicon.proofs.Depths.{room_is}
use Rattle.sb_parse.proofs.Ways.{and_first, and_second, or_first}
use Rattle.sb_sign.specs.declared.spelling.Arguments.{Arguments}
use Rattle.sb_sign.specs.declared.spelling.Arguments.TheVariants as arguments
use Rattle.sb_sal.specs.Notes.{AreNotes, anywhere}
use Rattle.sb_sal.specs.Readers.{is_nothing, is_bare, is_arrow, Head, head_of, continues, value, memory, location, inner, one, closing, arguments_by, in_parentheses, lacking, applied, bare, note, note_reader, next_note, notes_reader}
use Rattle.sb_sal.specs.Reads.{FitsNote, IsFillable}
use Rattle.sb_sal.specs.Reasons.{AValue, ANote, first, close, takes_nothing, takes_something, IsNoteReason, no_annotation, no_place, other_arguments, deeper, no_text, IsRefusedNote}
use Rattle.sb_sal.specs.Reasons as reason
use Rattle.sb_sal.specs.Spellings.{begins_note, arguments_of, is_listed, is_unlisted}
use Rattle.sb_parse.proofs.Explaining.{Explained, behind, at_once, not_done, at_choice, at_token, at_taken, Goes, in_turn, token_was, taken_was, next_is, mapped, reworded}
use Rattle.sb_sal.proofs.Tokens.{bare_by}
use Rattle.sb_sal.proofs.Values.{value_law, location_law}
use Rattle.sb_sal.proofs.Filled.{anywhere_filled}
use Rattle.sb_sal.proofs.Inside.{more_note}
use Rattle.sb_sal.proofs.Noting.{enclosed, is_head}
use Rattle.sb_sal.proofs.Annotations.{note_at, next_head, more_notes_behind, lawful_notes}
use Rattle.sb_sal.proofs.NoteWider.{notes_wider}
use Rattle.sb_sal.proofs.EveryDepth.{at_every_depth, at_end}
use Rattle.sb_sal.proofs.SomeDepth.{at_some_depth}
use Rattle.sb_sal.proofs.Whole.{unfinished}
use Rattle.sb_sal.proofs.NoteDeepening.{notes_deepen}
use Rattle.sb_sal.proofs.ArgumentReasons.{further, deeper_by, wherever, Within, closing_why, value_why, inner_why, FirstRead, two_why, location_why, memory_why}

-- ---- truth values

-- what is known behind the tests of an annotation with arguments
with_arguments : (l b m z : Bool) → (z && (l && not b)) ≡ false → (l && not m) ≡ false → b ≡ false → l ≡ true → (m ≡ true) × (z ≡ false)
with_arguments true false true false h k p q = (refl, refl)
with_arguments true false true true h k p q = absurd (cc h)
with_arguments true false false z h k p q = absurd (cc k)
with_arguments true true m z h k p q = absurd (cc p)
with_arguments false b m z h k p q = absurd (cc q)

misplaced_by : (l m : Bool) → (l && not m) ≡ true → (l ≡ true) × (m ≡ false)
misplaced_by true false h = (refl, refl)
misplaced_by true true h = absurd (cc h)
misplaced_by false m h = absurd (cc h)

-- an annotation that is listed
known_why : (w : Lexicon) (may : Token → Bool) (ts : List Token) → at_next (is_unlisted w) ts ≡ false → at_next (begins_note w) ts ≡ true → IsNoteReason w may [] ts too_deep
known_why w may [] h k = absurd (cc k)
known_why w may (t ∷ ts) h k = deeper t ts refl (or_first (is_listed w t) (is_star w t || is_arrow w t) (go (begins_note w t) (is_listed w t) h k))
  where
    go : (b l : Bool) → (b && not l) ≡ false → b ≡ true → l ≡ true
    go true true h k = refl
    go true false h k = absurd (cc h)
    go false l h k = absurd (cc k)

unlisted_why : (w : Lexicon) (may : Token → Bool) (ts : List Token) → at_next (is_unlisted w) ts ≡ true → IsNoteReason w may [] ts unknown
unlisted_why w may ts h = let t = next_is (is_unlisted w) ts h in no_annotation t.0 t.1 t.2 t.3

misplaced_why : (w : Lexicon) (may : Token → Bool) (ts : List Token) → at_next (λ t. is_listed w t && not (may t)) ts ≡ true → IsNoteReason w may [] ts misplaced
misplaced_why w may ts h =
    let t = next_is (λ t. is_listed w t && not (may t)) ts h in
    let it = misplaced_by (is_listed w t.0) (may t.0) t.3 in
    no_place t.0 t.1 t.2 it.0 it.1

module _ (w : Lexicon) (below : ℕ) (part : (Token → Bool) → Parser Token NoteTree) (may : Token → Bool)
    (N : (m : Token → Bool) → IsFillable w m → OnHead (begins_note w) (FitsNote w below m) (more_note w) (part m)) (F : IsFillable w may)
    (P : (m : Token → Bool) → IsFillable w m → (ts : List Token) → Explained (IsNoteReason w m) ts (part m ts)) where
  -- ---- arguments

  module _ (t o : Token) (a : Arguments) (some : 1 ≤ below) (stands : may t ≡ true) (takes : arguments_of w t ≡ Some a) (opens : is_open w o ≡ true) where
    first_value : (ts : List Token) (b : ArgTree) (rest : List Token) → value w below ts ≡ done b rest → reason.first_of a ≡ AValue → FirstRead w below may t o a takes opens ts rest
    first_value ts b rest e kind =
        let u = (value_law w below some).sound ts b rest e in
        record { tokens = u.front; split = u.split; is = subst (λ z. reason.IsFirst w z u.front) (sym kind) (reason.value u.front b u.is.0) }

    first_location : (ts : List Token) (b : ArgTree) (rest : List Token) → and_then (location w below ts) (λ e. pure (ExprArg e)) ≡ done b rest → reason.first_of a ≡ reason.ALocation → FirstRead w below may t o a takes opens ts rest
    first_location ts b rest e kind =
        let u = (map_of (location_law w below some) ExprArg (λ c. continues w) (λ c s. refl)).sound ts b rest e in
        record { tokens = u.front; split = u.split; is = subst (λ z. reason.IsFirst w z u.front) (sym kind) (reason.location u.front u.is.value u.is.is.0) }

  arguments_why : (t o : Token) (a : Arguments) → 1 ≤ below → may t ≡ true → (takes : arguments_of w t ≡ Some a) (opens : is_open w o ≡ true) → is_nothing a ≡ false
      → (ts : List Token) → Explained (Within w below may t o) ts (arguments_by w below part may a ts)
  unfolding one
  arguments_why t o arguments.Nothing some stands takes opens h ts = absurd (cc h)
  arguments_why t o arguments.Size some stands takes opens h ts =
      mapped (value w below ts) (λ b. b ∷ []) ts (value_why w below may t o arguments.Size takes opens [] (first arguments.Size) ts)
  arguments_why t o arguments.Condition some stands takes opens h ts =
      mapped (value w below ts) (λ b. b ∷ []) ts (value_why w below may t o arguments.Condition takes opens [] (first arguments.Condition) ts)
  arguments_why t o arguments.Memory some stands takes opens h ts = mapped (memory w below ts) (λ b. b ∷ []) ts (memory_why w below may t o takes opens ts)
  arguments_why t o arguments.Note some stands takes opens h ts =
      mapped (inner w below part may may ts) (λ b. b ∷ []) ts
      (inner_why w below may t o arguments.Note takes opens part may (λ front bad n r. r) (P may F) [] (first arguments.Note) ts)
  arguments_why t o arguments.Sizes some stands takes opens h ts =
      two_why w below may t o arguments.Sizes takes opens part (value w below) (value w below) AValue refl ts (value_why w below may t o arguments.Sizes takes opens [] (first arguments.Sizes) ts)
      (λ b rest e. first_value t o arguments.Sizes some stands takes opens ts b rest e refl) (λ args awaits us. value_why w below may t o arguments.Sizes takes opens args awaits us)
  arguments_why t o arguments.GuardedNote some stands takes opens h ts =
      two_why w below may t o arguments.GuardedNote takes opens part (value w below) (inner w below part may may) ANote refl ts
      (value_why w below may t o arguments.GuardedNote takes opens [] (first arguments.GuardedNote) ts)
      (λ b rest e. first_value t o arguments.GuardedNote some stands takes opens ts b rest e refl)
      (λ args awaits us. inner_why w below may t o arguments.GuardedNote takes opens part may (λ front bad n r. r) (P may F) args awaits us)
  arguments_why t o arguments.LocatedNote some stands takes opens h ts =
      two_why w below may t o arguments.LocatedNote takes opens part (location w below >>= (λ e. pure (ExprArg e))) (inner w below part may anywhere) ANote refl ts
      (mapped (location w below ts) ExprArg ts (location_why w below may t o takes opens ts))
      (λ b rest e. first_location t o arguments.LocatedNote some stands takes opens ts b rest e refl)
      (λ args awaits us.
      inner_why w below may t o arguments.LocatedNote takes opens part anywhere (wherever w may) (P anywhere (anywhere_filled w)) args awaits us)

  -- ---- one annotation

  parentheses_why : (t : Token) (h : Head) → 1 ≤ below → may t ≡ true → arguments_of w t ≡ Some h.arguments → is_nothing h.arguments ≡ false
      → (ts : List Token) → Explained (behind (t ∷ []) (IsNoteReason w may)) ts (in_parentheses w below part may h ts)
  unfolding in_parentheses
  parentheses_why t h some stands takes kind ts = in_turn (token unexpected (is_open w)) behind_open ts (at_token unexpected (is_open w) ts (λ k. no_text)) later
    where
      behind_arguments : List ArgTree → Parser Token NoteTree
      behind_arguments args = closing w below >>= (λ c. pure (tree.Note h.name (arg_list args) h.place))

      behind_open : Token → Parser Token NoteTree
      behind_open o = arguments_by w below part may h.arguments >>= behind_arguments

      later : (o : Token) (rest : List Token) → token unexpected (is_open w) ts ≡ done o rest → Goes (behind (t ∷ []) (IsNoteReason w may)) ts rest (behind_open o rest)
      later o rest e =
          let it = token_was unexpected (is_open w) ts o rest e in
          record { before = o ∷ []; split = it.0; then_so = in_turn (arguments_by w below part may h.arguments) behind_arguments rest (arguments_why t o h.arguments some stands takes it.1 kind rest) (last it.1) }
        where
          last : is_open w o ≡ true → (args : List ArgTree) (us : List Token) → arguments_by w below part may h.arguments rest ≡ done args us
              → Goes (Within w below may t o) rest us (behind_arguments args us)
          last opens args us k =
              let u = (enclosed w below part may N F t h.arguments some stands takes kind).law.sound rest args us k in
              record {
                before = u.front;
                split = u.split;
                then_so = mapped (closing w below us) (λ c. tree.Note h.name (arg_list args) h.place) us
                    (closing_why w below may t o h.arguments takes opens u.front (close may h.arguments u.front args u.is.are) us);
              }

  lacking_why : (t : Token) (ts : List Token) → is_listed w t ≡ true → is_bare w t ≡ false → at_next (is_open w) ts ≡ false
      → Explained (behind (t ∷ []) (IsNoteReason w may)) ts (lacking w below part may ts)
  lacking_why t [] listed not_bare h = at_once {A = NoteTree} unexpected [] no_text
  lacking_why t (s ∷ ts) listed not_bare h = at_once {A = NoteTree} bad_arguments (s ∷ ts) (other_arguments (takes_something [] ts t s refl refl listed not_bare h))

  applied_why : (t : Token) (rest : List Token) → is_listed w t ≡ true → is_bare w t ≡ false → may t ≡ true → is_zero below ≡ false → Explained (IsNoteReason w may) (t ∷ rest) (applied w below part may (t ∷ rest))
  unfolding applied
  applied_why t rest listed not_bare stands zero_ = in_turn (taken unexpected (head_of w)) behind_head (t ∷ rest) (at_taken unexpected (head_of w) (t ∷ rest) no_text) later
    where
      behind_head : Head → Parser Token NoteTree
      behind_head h = choose (is_open w) (in_parentheses w below part may h) (lacking w below part may)

      later : (h : Head) (us : List Token) → taken unexpected (head_of w) (t ∷ rest) ≡ done h us → Goes (IsNoteReason w may) (t ∷ rest) us (behind_head h us)
      later h us e =
          let u = taken_was unexpected (head_of w) (t ∷ rest) h us e in
          let same : u.token ≡ t = cc u.split in
          let head = is_head w below part may N F t h (sym (ap (head_of w) same) ∙ u.gives_it) in
          record {
            before = t ∷ [];
            split = u.split ∙ ap (λ z. z ∷ us) same;
            then_so = at_choice (is_open w) (in_parentheses w below part may h) (lacking w below part may) us
                (λ k. parentheses_why t h (room_is below zero_) stands head.gives_arguments (sym (bare_by w t h.arguments head.gives_arguments) ∙ not_bare) us)
                (λ k. lacking_why t us listed not_bare k);
          }

  bare_why : (ts : List Token) → Explained (IsNoteReason w may) ts (bare w below part may ts)
  unfolding bare
  bare_why ts = in_turn (token unexpected (is_bare w)) behind_name ts (at_token unexpected (is_bare w) ts (λ h. no_text)) later
    where
      behind_name : Token → Parser Token NoteTree
      behind_name t = choose (is_open w) (refuse bad_arguments) (pure (tree.Note t.text tree.NoArgs t.place))

      opened_why : (t : Token) (rest : List Token) → is_bare w t ≡ true → at_next (is_open w) rest ≡ true → behind (t ∷ []) (IsNoteReason w may) [] rest bad_arguments
      opened_why t rest h k = let o = next_is (is_open w) rest k in other_arguments (takes_nothing [] o.1 t o.0 refl o.2 h o.3)

      later : (t : Token) (rest : List Token) → token unexpected (is_bare w) ts ≡ done t rest → Goes (IsNoteReason w may) ts rest (behind_name t rest)
      later t rest e =
          let it = token_was unexpected (is_bare w) ts t rest e in
          record {
            before = t ∷ [];
            split = it.0;
            then_so = at_choice (is_open w) (refuse bad_arguments) (pure (tree.Note t.text tree.NoArgs t.place)) rest
                (λ k. at_once {A = NoteTree} bad_arguments rest (opened_why t rest it.1 k)) (λ k. not_done rest (tree.Note t.text tree.NoArgs t.place) rest);
          }

  abbrev is_deep : Token → Bool
  is_deep t = is_zero below && (is_listed w t && not (is_bare w t))

  abbrev is_misplaced : Token → Bool
  is_misplaced t = is_listed w t && not (may t)

  is_deep_listed : (t : Token) → is_deep t ≡ true → (is_listed w t || (is_star w t || is_arrow w t)) ≡ true
  is_deep_listed t h =
      or_first (is_listed w t) (is_star w t || is_arrow w t) (and_first (is_listed w t) (not (is_bare w t)) (and_second (is_zero below) (is_listed w t && not (is_bare w t)) h))

  -- an annotation that is no other one
  rest_why : (ts : List Token) → at_next is_deep ts ≡ false → at_next is_misplaced ts ≡ false → at_next (is_bare w) ts ≡ false → at_next (is_listed w) ts ≡ true
      → Explained (IsNoteReason w may) ts (applied w below part may ts)
  rest_why [] deep placed not_bare listed = absurd (cc listed)
  rest_why (t ∷ ts) deep placed not_bare listed =
      let it = with_arguments (is_listed w t) (is_bare w t) (may t) (is_zero below) deep placed not_bare listed in
      applied_why t ts listed not_bare it.0 it.1

  pub note_why : (ts : List Token) → Explained (IsNoteReason w may) ts (note w below part may ts)
  unfolding note
  note_why ts =
      at_choice (is_unlisted w) (refuse unknown) from_misplaced ts (λ h. at_once {A = NoteTree} unknown ts (unlisted_why w may ts h)) (λ h.
      at_choice is_misplaced (refuse misplaced) from_deep ts (λ k. at_once {A = NoteTree} misplaced ts (misplaced_why w may ts k)) (λ k.
      at_choice is_deep (refuse too_deep) from_bare ts (λ l. at_once {A = NoteTree} too_deep ts (deeper_by w may [] is_deep is_deep_listed ts l)) (λ l.
      at_choice (is_bare w) (bare w below part may) from_listed ts (λ m. bare_why ts) (λ m.
      at_choice (is_listed w) (applied w below part may) (refuse unexpected) ts (λ p. rest_why ts l k m p) (λ p. at_once {A = NoteTree} unexpected ts no_text)))))
    where
      from_listed : Parser Token NoteTree
      from_listed = choose (is_listed w) (applied w below part may) (refuse unexpected)

      from_bare : Parser Token NoteTree
      from_bare = choose (is_bare w) (bare w below part may) from_listed

      from_deep : Parser Token NoteTree
      from_deep = choose is_deep (refuse too_deep) from_bare

      from_misplaced : Parser Token NoteTree
      from_misplaced = choose is_misplaced (refuse misplaced) from_deep

-- ---- annotations of each depth

module _ (w : Lexicon) where
  reader_why : (left : ℕ) (may : Token → Bool) → IsFillable w may → (ts : List Token) → Explained (IsNoteReason w may) ts (note_reader w left may ts)
  unfolding note_reader
  reader_why zero may F ts =
      at_choice (is_unlisted w) (refuse unknown) (choose (λ t. is_listed w t && not (may t)) (refuse misplaced) (choose (begins_note w) (refuse too_deep) (refuse unexpected))) ts
      (λ h. at_once {A = NoteTree} unknown ts (unlisted_why w may ts h))
      (λ h. at_choice (λ t. is_listed w t && not (may t)) (refuse misplaced) (choose (begins_note w) (refuse too_deep) (refuse unexpected)) ts (λ k. at_once {A = NoteTree} misplaced ts (misplaced_why w may ts k))
      (λ k. at_choice (begins_note w) (refuse too_deep) (refuse unexpected) ts (λ l. at_once {A = NoteTree} too_deep ts (known_why w may ts h l)) (λ l. at_once {A = NoteTree} unexpected ts no_text)))
  reader_why (suc below) may F ts = note_why w below (note_reader w below) may (λ m G. note_at w below m G) F (λ m G us. reader_why below m G us) ts

  module _ (left : ℕ) (may : Token → Bool) (F : IsFillable w may) where
    next_why : (ns : List NoteTree) (ts : List Token) → Explained (IsNoteReason w may) ts (next_note w left may ns ts)
    unfolding next_note
    next_why ns ts = mapped (note_reader w left may ts) (λ n. ns ++ (n ∷ [])) ts (reader_why left may F ts)

    turns_why : (fuel : ℕ) (ns : List NoteTree) (ts : List Token) → Explained (IsNoteReason w may) ts (loop (begins_note w) (next_note w left may) fuel ns ts)
    unfolding loop
    turns_why zero ns ts = not_done ts ns ts
    turns_why (suc fuel) ns ts =
        at_choice (begins_note w) (next_note w left may ns >>= loop (begins_note w) (next_note w left may) fuel) (pure ns) ts
        (λ h. in_turn (next_note w left may ns) (loop (begins_note w) (next_note w left may) fuel) ts (next_why ns ts) (λ ms rest e.
        let u = (next_head w left may F ns).sound ts ms rest h e in
        record { before = u.front; split = u.split; then_so = reworded (λ front bad n r. further w may u.front front bad n r) (turns_why fuel ms rest) }))
        (λ h. not_done ts ns ts)

    -- what a list of annotations is refused for
    pub notes_reason : (ts : List Token) (n k : ℕ) → notes_reader w left may ts ≡ stop n k → IsRefusedNote w may ts n k
    notes_reason ts n k e =
        let s = turns_why (length ts) [] ts n k e in
        let some : 0 ≤ left = omega arith in
        record {
          front = s.front;
          bad = s.bad;
          split = s.split;
          left_is = s.left_is;
          reason = s.why;
          at_every_depth = λ not_deep. at_every_depth (AreNotes w may) (λ ns. depth_of_notes (note_list ns)) (more_notes_behind w) 0 (λ left. notes_reader w left may) (λ left some. lawful_notes w left may F)
              (λ n m some le. notes_wider w n m le may) left some ts n k e not_deep s.front s.bad s.split s.left_is;
          at_end = λ not_deep. at_end (AreNotes w may) (λ ns. depth_of_notes (note_list ns)) (more_notes_behind w) 0 (λ left. notes_reader w left may) (λ left some. lawful_notes w left may F)
              (λ n m some le. notes_wider w n m le may) left some ts n k e not_deep s.front s.bad s.split;
          unfinished = λ number. unfinished w may F left ts k (e ∙ ap (λ z. stop z k) number) s.front s.bad s.split s.left_is;
          at_some_depth = λ deep. at_some_depth (AreNotes w may) (λ ns. depth_of_notes (note_list ns)) (more_notes_behind w) 0 (λ left. notes_reader w left may) (λ left some. lawful_notes w left may F) left some (notes_deepen w may left)
              ts k (e ∙ ap (λ z. stop z k) deep) s.front s.bad s.split s.left_is;
        }
