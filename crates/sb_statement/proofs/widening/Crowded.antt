-- A declaration that begins with a name: where there is no room for it, and where there is.
use Rattle.std.proofs.Common.{◌≡◌, ◌-◌, ℕ, zero, suc, Bool, true, false, ◌&&◌, not, List, [], ◌∷◌, ◌++◌, length, take, Some, None, if◌then◌else◌, refl, ap, ◌∙◌, append_assoc}
use Rattle.std.specs.Option.{option_map_or}
use Rattle.sb_base.specs.declared.interning.Name.{Name}
use Rattle.sb_base.specs.declared.tokens.Token.{Token}
use Rattle.sb_parse.specs.Parser.{Outcome, Parser, done, stop, at_next, and_then, ◌>>=◌, pure, taken_as, choose, refuse, loop}
use Rattle.sb_tree.specs.Trees as tree
use Rattle.sb_tree.specs.Trees.{NoteTree, TypeTree}
use Rattle.sb_lexicon.specs.Lexicon.{Lexicon}
use Rattle.sb_lexicon.specs.Tokens.{unexpected, too_deep, bad_arguments, is_zero, is_open}
use Rattle.sb_parse.proofs.Ways.{and_fails}
use Rattle.sb_sal.specs.declared.bearer.Bearer.TheVariants as bearer
use Rattle.sb_sal.specs.Readers.{Head, is_bare, note, note_reader, next_note, notes_reader, in_parentheses, applied, bare, lacking}
use Rattle.sb_statement.specs.Readers.{is_misplaced}
use Rattle.sb_sal.specs.Spellings.{begins_note, is_listed, is_unlisted, may_stand}
use Rattle.sb_sal.proofs.Tokens.{listed_begins, has_arguments_of, bare_listed}
use Rattle.sb_specifier.specs.declared.seat.Seat.TheVariants as seat
use Rattle.sb_specifier.specs.Specified.{reading, Specified}
use Rattle.sb_specifier.specs.Readers as declaring
use Rattle.sb_specifier.specs.Readers.{Declarations, ends_nameless, barred, specifiers}
use Rattle.sb_declare.specs.Readers.{Opening, opening, nameless, declarator_in, rest_of_declaration, declaration_at}
use Rattle.sb_parse.specs.Texts.{with_front, with_text}
use Rattle.sb_declare.proofs.widening.Barred.{Begun, needs, in_notes, in_specifiers, begun}
use Rattle.sb_statement.proofs.widening.Starts.{second_so}

pub first_so : {A : Type 0} (b : Bool) (x y o : Outcome Token A) → b ≡ true → x ≡ o → (if b then x else y) ≡ o
first_so b x y o h e = ap (λ b. if b then x else y) h ∙ e

-- ---- annotations one after the other

module _ (w : Lexicon) (left : ℕ) (may : Token → Bool) where
  behind_notes : List NoteTree → Outcome Token (List NoteTree) → Outcome Token (List NoteTree)
  behind_notes ns (done ms rest) = done (ns ++ ms) rest
  behind_notes ns (stop i l) = stop i l

  -- those behind others are read as they are alone
  notes_behind : (fuel : ℕ) (ns ms : List NoteTree) (ts : List Token)
      → loop (begins_note w) (next_note w left may) fuel (ns ++ ms) ts ≡ behind_notes ns (loop (begins_note w) (next_note w left may) fuel ms ts)
  unfolding loop next_note behind_notes
  notes_behind zero ns ms ts = refl
  notes_behind (suc fuel) ns ms ts = by_test (λ n rest. notes_behind fuel ns (ms ++ (n ∷ [])) rest) (at_next (begins_note w) ts)
    where
      further : (n : NoteTree) (rest : List Token) → loop (begins_note w) (next_note w left may) fuel (ns ++ (ms ++ (n ∷ []))) rest ≡ behind_notes ns (loop (begins_note w) (next_note w left may) fuel (ms ++ (n ∷ [])) rest)
          → loop (begins_note w) (next_note w left may) fuel ((ns ++ ms) ++ (n ∷ [])) rest ≡ behind_notes ns (loop (begins_note w) (next_note w left may) fuel (ms ++ (n ∷ [])) rest)
      further n rest e = ap (λ z. loop (begins_note w) (next_note w left may) fuel z rest) (append_assoc ns ms (n ∷ [])) ∙ e

      go : ((n : NoteTree) (rest : List Token) → loop (begins_note w) (next_note w left may) fuel (ns ++ (ms ++ (n ∷ []))) rest ≡ behind_notes ns (loop (begins_note w) (next_note w left may) fuel (ms ++ (n ∷ [])) rest))
          → (o : Outcome Token NoteTree) → and_then (and_then o (λ n. pure ((ns ++ ms) ++ (n ∷ [])))) (loop (begins_note w) (next_note w left may) fuel)
          ≡ behind_notes ns (and_then (and_then o (λ n. pure (ms ++ (n ∷ [])))) (loop (begins_note w) (next_note w left may) fuel))
      go IH (stop i l) = refl
      go IH (done n rest) = further n rest (IH n rest)

      by_test : ((n : NoteTree) (rest : List Token) → loop (begins_note w) (next_note w left may) fuel (ns ++ (ms ++ (n ∷ []))) rest ≡ behind_notes ns (loop (begins_note w) (next_note w left may) fuel (ms ++ (n ∷ [])) rest))
          → (b : Bool) → (if b then (next_note w left may (ns ++ ms) >>= loop (begins_note w) (next_note w left may) fuel) ts else done (ns ++ ms) ts)
          ≡ behind_notes ns (if b then (next_note w left may ms >>= loop (begins_note w) (next_note w left may) fuel) ts else done ms ts)
      by_test IH true = go IH (note_reader w left may ts)
      by_test IH false = refl

-- ---- the first annotation, which may stand on functions

module _ (w : Lexicon) (k : ℕ) (t : Token) (ts : List Token) (listed : is_listed w t ≡ true) (placed : is_misplaced w t ≡ false) where
  abbrev may : Token → Bool
  may = may_stand w bearer.Function

  unlisted_off : is_unlisted w t ≡ false
  unlisted_off = and_fails (begins_note w t) (not (is_listed w t)) (ap not listed)

  bare_read : is_bare w t ≡ true → (o : Outcome Token NoteTree) → (if at_next (is_open w) ts then stop bad_arguments (length ts) else done (tree.Note t.text tree.NoArgs t.place) ts) ≡ o → note_reader w (suc k) may (t ∷ ts) ≡ o
  unfolding note_reader note bare
  bare_read h o e =
      second_so _ _ _ _ unlisted_off
      (second_so _ _ _ _ placed
      (second_so _ _ _ _ (and_fails (is_zero k) (is_listed w t && not (is_bare w t)) (and_fails (is_listed w t) (not (is_bare w t)) (ap not h)))
      (first_so _ _ _ _ h
      (ap (λ b. and_then (if b then done t ts else stop unexpected (suc (length ts))) (λ t. choose (is_open w) (refuse bad_arguments) (pure (tree.Note t.text tree.NoArgs t.place)))) h ∙ e))))

  arguments_lack : at_next (is_open w) ts ≡ false → applied w k (note_reader w k) may (t ∷ ts) ≡ (if at_next (λ s. true) ts then stop bad_arguments (length ts) else stop unexpected (length ts))
  unfolding applied
  arguments_lack opens =
      ap (λ o. and_then (taken_as unexpected (option_map_or (λ a. Some (record { name = t.text; place = t.place; arguments = a })) o None) ts)
      (λ (h : Head). choose (is_open w) (in_parentheses w k (note_reader w k) may h) (lacking w k (note_reader w k) may))) (has_arguments_of w t listed).1
      ∙ second_so _ _ _ _ opens refl

  applied_read : is_zero k ≡ false → is_bare w t ≡ false → at_next (is_open w) ts ≡ false → note_reader w (suc k) may (t ∷ ts) ≡ (if at_next (λ s. true) ts then stop bad_arguments (length ts) else stop unexpected (length ts))
  unfolding note_reader note
  applied_read some h opens =
      second_so _ _ _ _ unlisted_off
      (second_so _ _ _ _ placed
      (second_so _ _ _ _ (ap (λ b. b && (is_listed w t && not (is_bare w t))) some)
      (second_so _ _ _ _ h
      (first_so _ _ _ _ listed (arguments_lack opens)))))

  notes_begin : notes_reader w (suc k) may (t ∷ ts) ≡ and_then (and_then (note_reader w (suc k) may (t ∷ ts)) (λ n. pure (n ∷ []))) (loop (begins_note w) (next_note w (suc k) may) (length ts))
  unfolding loop next_note
  notes_begin = first_so _ _ _ _ (listed_begins w t listed) refl

  notes_stop : (i l : ℕ) → note_reader w (suc k) may (t ∷ ts) ≡ stop i l → notes_reader w (suc k) may (t ∷ ts) ≡ stop i l
  notes_stop i l e = notes_begin ∙ ap (λ o. and_then (and_then o (λ n. pure (n ∷ []))) (loop (begins_note w) (next_note w (suc k) may) (length ts))) e

  notes_go_on : (n : NoteTree) → note_reader w (suc k) may (t ∷ ts) ≡ done n ts → notes_reader w (suc k) may (t ∷ ts) ≡ behind_notes w (suc k) may (n ∷ []) (notes_reader w (suc k) may ts)
  notes_go_on n e =
      notes_begin ∙ ap (λ o. and_then (and_then o (λ n. pure (n ∷ []))) (loop (begins_note w) (next_note w (suc k) may) (length ts))) e ∙ notes_behind w (suc k) may (length ts) (n ∷ []) [] ts

-- where there is room, the outcome is the same as where there is none, unless that one says that there is none
pub data Alike {A : Type 0} (o : Outcome Token A) (other : Outcome Token Declarations) : Type 0 where
  deep : (l : ℕ) → o ≡ stop too_deep l → Alike o other
  stops : (i l : ℕ) → o ≡ stop i l → other ≡ stop i l → Alike o other

-- ---- a declaration that stops in its annotations or its specifiers

module _ (texts : List (List ℕ)) (types : List Name) (below : ℕ) (part : ℕ → declaring.Parts) where
  abbrev w : Lexicon
  w = reading texts types

  abbrev pub opened : List NoteTree × List Token → (Specified × TypeTree) × List Token → Opening
  opened notes s = record { outer = types; notes = notes.0; noted = notes.1; specified = s.0.0; base = s.0.1; count = length s.1 }

  abbrev specify : List NoteTree × List Token → Parser Token Opening
  specify notes = with_text (specifiers texts seat.Scope below part types) >>= (λ s. pure (opened notes s))

  abbrev pub go_on : Opening → Parser Token Declarations
  go_on o = choose (ends_nameless w) (nameless texts below part o (declaring.place_of_base o.base))
      (declarator_in texts below part o o.specified.types o.base o.count >>= rest_of_declaration texts below part o)

  abbrev notes_of : Parser Token (List NoteTree)
  notes_of = notes_reader w below (may_stand w bearer.Function)

  pub stops_in_notes : (ts : List Token) (i l : ℕ) → notes_of ts ≡ stop i l → declaration_at texts below part types ts ≡ stop i l
  unfolding declaration_at opening
  stops_in_notes ts i l e = ap (λ o. and_then (and_then (with_front ts o) specify) go_on) e

  pub stops_in_specifiers : (ts rest : List Token) (ns : List NoteTree) (i l : ℕ) → notes_of ts ≡ done ns rest → specifiers texts seat.Scope below part types rest ≡ stop i l → declaration_at texts below part types ts ≡ stop i l
  unfolding declaration_at opening
  stops_in_specifiers ts rest ns i l e s =
      ap (λ o. and_then (and_then (with_front ts o) specify) go_on) e ∙ ap (λ o. and_then (and_then (with_front rest o) (λ s. pure (opened (ns, take (length ts - length rest) ts) s))) go_on) s

  -- what stands behind the specifiers
  pub behind_specifiers : (ts rest after : List Token) (ns : List NoteTree) (s : Specified × TypeTree) → notes_of ts ≡ done ns rest → specifiers texts seat.Scope below part types rest ≡ done s after
      → declaration_at texts below part types ts ≡ go_on (opened (ns, take (length ts - length rest) ts) (s, take (length rest - length after) rest)) after
  unfolding declaration_at opening
  behind_specifiers ts rest after ns s e f =
      ap (λ o. and_then (and_then (with_front ts o) specify) go_on) e ∙ ap (λ o. and_then (and_then (with_front rest o) (λ s. pure (opened (ns, take (length ts - length rest) ts) s))) go_on) f

-- ---- behind an annotation without arguments

module _ (A : Type 0) (texts : List (List ℕ)) (types : List Name) (k : ℕ) (part : ℕ → declaring.Parts) (t : Token) (ts : List Token) (is : is_bare (reading texts types) t ≡ true) (placed : is_misplaced (reading texts types) t ≡ false) where
  abbrev listed : is_listed (reading texts types) t ≡ true
  listed = bare_listed (reading texts types) t is

  abbrev a_note : NoteTree
  a_note = tree.Note t.text tree.NoArgs t.place

  pub behind_bare : Alike {A = A} (choose (is_open (reading texts types)) (refuse bad_arguments) (barred (reading texts types) seat.Scope) ts) (declaration_at texts (suc k) part types (t ∷ ts))
  unfolding behind_notes
  behind_bare = by_open (at_next (is_open (reading texts types)) ts) refl
    where
      reads : (b : Bool) → at_next (is_open (reading texts types)) ts ≡ b
          → note_reader (reading texts types) (suc k) (may_stand (reading texts types) bearer.Function) (t ∷ ts) ≡ (if b then stop bad_arguments (length ts) else done a_note ts)
      reads b h = bare_read (reading texts types) k t ts listed placed is _ (ap (λ b. if b then stop bad_arguments (length ts) else done a_note ts) h)

      by_case : at_next (is_open (reading texts types)) ts ≡ false → Begun A texts types (suc k) part seat.Scope ts → Alike {A = A} (barred (reading texts types) seat.Scope ts) (declaration_at texts (suc k) part types (t ∷ ts))
      by_case h (needs e) = deep (length ts) e
      by_case h (in_notes i e noted) =
          stops i (length ts) e (stops_in_notes texts types (suc k) part (t ∷ ts) i (length ts)
          (notes_go_on (reading texts types) k t ts listed placed a_note (reads false h) ∙ ap (behind_notes (reading texts types) (suc k) (may_stand (reading texts types) bearer.Function) (a_note ∷ [])) noted))
      by_case h (in_specifiers i e noted said) =
          stops i (length ts) e (stops_in_specifiers texts types (suc k) part (t ∷ ts) ts (a_note ∷ []) i (length ts)
          (notes_go_on (reading texts types) k t ts listed placed a_note (reads false h) ∙ ap (behind_notes (reading texts types) (suc k) (may_stand (reading texts types) bearer.Function) (a_note ∷ [])) noted) said)

      by_open : (b : Bool) → at_next (is_open (reading texts types)) ts ≡ b → Alike {A = A} (if b then stop bad_arguments (length ts) else barred (reading texts types) seat.Scope ts) (declaration_at texts (suc k) part types (t ∷ ts))
      by_open true h = stops bad_arguments (length ts) refl (stops_in_notes texts types (suc k) part (t ∷ ts) bad_arguments (length ts) (notes_stop (reading texts types) k t ts listed placed bad_arguments (length ts) (reads true h)))
      by_open false h = by_case h (begun A texts types (suc k) part seat.Scope ts)

-- ---- behind an annotation with arguments

pub behind_applied : (A : Type 0) (texts : List (List ℕ)) (types : List Name) (k : ℕ) (part : ℕ → declaring.Parts) (t : Token) (ts : List Token)
    → is_zero k ≡ false → is_listed (reading texts types) t ≡ true → is_misplaced (reading texts types) t ≡ false → is_bare (reading texts types) t ≡ false
    → Alike {A = A} (choose (is_open (reading texts types)) (refuse too_deep) (choose (λ s. true) (refuse bad_arguments) (refuse unexpected)) ts) (declaration_at texts (suc k) part types (t ∷ ts))
behind_applied A texts types k part t ts some note placed is = by_open (at_next (is_open (reading texts types)) ts) refl
  where
    numbered : {B : Type 0} (b : Bool) → at_next (λ s. true) ts ≡ b
        → Path (Outcome Token B) (if at_next (λ s. true) ts then stop bad_arguments (length ts) else stop unexpected (length ts)) (stop (if b then bad_arguments else unexpected) (length ts))
    numbered true e = ap (λ b. if b then stop bad_arguments (length ts) else stop unexpected (length ts)) e
    numbered false e = ap (λ b. if b then stop bad_arguments (length ts) else stop unexpected (length ts)) e

    by_open : (b : Bool) → at_next (is_open (reading texts types)) ts ≡ b
        → Alike {A = A} (if b then stop too_deep (length ts) else (if at_next (λ s. true) ts then stop bad_arguments (length ts) else stop unexpected (length ts))) (declaration_at texts (suc k) part types (t ∷ ts))
    by_open true h = deep (length ts) refl
    by_open false h =
        stops (if at_next (λ s. true) ts then bad_arguments else unexpected) (length ts) (numbered {B = A} (at_next (λ s. true) ts) refl)
        (stops_in_notes texts types (suc k) part (t ∷ ts) _ (length ts)
        (notes_stop (reading texts types) k t ts note placed _ (length ts) (applied_read (reading texts types) k t ts note placed some is h ∙ numbered {B = NoteTree} (at_next (λ s. true) ts) refl)))
