-- Where no declaration has room, and the readers with room: by the first token of a declaration.
use Rattle.std.proofs.Common.{◌≡◌, ℕ, Bool, true, false, ◌||◌, ◌&&◌, not, List, [], ◌∷◌, length, take, ◌-◌, Option, Some, None, is_some, if◌then◌else◌, refl, sym, ap, ◌∙◌, subst}
use Rattle.std.specs.Option.{option_map_or}
use Rattle.sb_base.specs.declared.interning.Name.{Name}
use Rattle.sb_base.specs.declared.tokens.Token.{Token}
use Rattle.sb_parse.specs.Parser.{Outcome, Parser, done, stop, and_then, ◌>>=◌, pure, token, taken_as, guard, loop}
use Rattle.sb_sign.specs.declared.sign.Keyword.{Keyword}
use Rattle.sb_sign.specs.declared.sign.Keyword.TheVariants as keyword
use Rattle.sb_sign.specs.Signs as sign
use Rattle.sb_tree.specs.Trees as tree
use Rattle.sb_tree.specs.Trees.{TypeTree, NoteTree}
use Rattle.sb_lexicon.specs.Lexicon.{Lexicon, is_keyword, name_of, is_type_name, is_type_keyword}
use Rattle.sb_lexicon.specs.Words.{Nothing, Whole, is_nothing}
use Rattle.sb_lexicon.specs.Tokens as expr
use Rattle.sb_lexicon.specs.SpecifierReaders.{may_be_floating, is_floating, is_union, is_complex}
use Rattle.sb_lexicon.specs.Tokens.{unexpected, too_deep, unknown, misplaced}
use Rattle.sb_lexicon.proofs.Lexemes.{name_no_keyword}
use Rattle.sb_parse.proofs.Ways.{and_first, and_second}
use Rattle.sb_lexicon.proofs.Wider.{Held, short, same, Wider, before}
use Rattle.sb_sal.specs.Readers.{notes_reader}
use Rattle.sb_sal.specs.Spellings.{begins_note, is_listed, is_unlisted, may_stand, looks_like_note, word_of}
use Rattle.sb_sal.proofs.NoteWider.{no_notes, notes_unlisted, notes_out_of_place}
use Rattle.sb_specifier.specs.declared.seat.Seat.{Seat}
use Rattle.sb_specifier.specs.declared.seat.Seat.TheVariants as seat
use Rattle.sb_specifier.specs.Specified.{reading, Specified, unspecified, saying, constantly, base_of, bearer_at}
use Rattle.sb_specifier.specs.Readers as reader
use Rattle.sb_parse.specs.Texts.{with_front, with_text}
use Rattle.sb_specifier.specs.Readers.{is_storage_keyword, is_specifier_word, is_structure, begins_at, barred, Parts, structure, enumeration, tagged, is_inline, no_room_for_const, past_tag, tagless, specified, keyword_specifiers, names_type, defined, completed, specifiers}
use Rattle.sb_declarator.specs.Readers.{parameter, parameters_at}
use Rattle.sb_declare.specs.Readers.{opening, declaration_at}
use Rattle.sb_specifier.proofs.laws.Barring.{barred_then}

-- ---- tests by the keyword that a token is

abbrev pub is_word : Keyword → Option Keyword → Bool
is_word k o = option_map_or (sign.is_same_keyword k) o false

-- a declaration at this seat can begin so
abbrev pub begins_by : Seat → Option Keyword → (named note : Bool) → Bool
begins_by seat.Scope o named note = (option_map_or is_type_keyword o false || option_map_or is_storage_keyword o false) || (named || note)
begins_by seat.Structure o named note = (option_map_or is_type_keyword o false || named) || note
begins_by seat.Prototype o named note = (option_map_or is_type_keyword o false || named) || (is_word keyword.Register o || (is_word keyword.Inline o || note))

pub begins_as : (w : Lexicon) (at : Seat) (t : Token) → begins_at w at t ≡ begins_by at (sign.keyword_of w.texts t) (is_type_name w t) (begins_note w t)
begins_as w seat.Scope t = refl
begins_as w seat.Structure t = refl
begins_as w seat.Prototype t = refl

-- what may name a type, and notes, begin a declaration everywhere
type_begins : (at : Seat) (k : Keyword) (named note : Bool) → is_type_keyword k ≡ true → begins_by at (Some k) named note ≡ true
type_begins seat.Scope k named note h = rw (h) refl
type_begins seat.Structure k named note h = rw (h) refl
type_begins seat.Prototype k named note h = rw (h) refl

name_begins : (at : Seat) (o : Option Keyword) (note : Bool) → begins_by at o true note ≡ true
name_begins seat.Scope o note = by_word (option_map_or is_type_keyword o false || option_map_or is_storage_keyword o false)
  where
    by_word : (b : Bool) → (b || true) ≡ true
    by_word true = refl
    by_word false = refl
name_begins seat.Structure o note = by_word (option_map_or is_type_keyword o false)
  where
    by_word : (b : Bool) → ((b || true) || note) ≡ true
    by_word true = refl
    by_word false = refl
name_begins seat.Prototype o note = by_word (option_map_or is_type_keyword o false)
  where
    by_word : (b : Bool) → ((b || true) || (is_word keyword.Register o || (is_word keyword.Inline o || note))) ≡ true
    by_word true = refl
    by_word false = refl

either : (b : Bool) → (b || true) ≡ true
either true = refl
either false = refl

note_begins : (at : Seat) (named : Bool) → begins_by at None named true ≡ true
note_begins seat.Scope true = refl
note_begins seat.Scope false = refl
note_begins seat.Structure true = refl
note_begins seat.Structure false = refl
note_begins seat.Prototype true = refl
note_begins seat.Prototype false = refl

pub none_begins : (at : Seat) (o : Option Keyword) → option_map_or is_type_keyword o false ≡ false → option_map_or is_storage_keyword o false ≡ false → is_word keyword.Register o ≡ false → is_word keyword.Inline o ≡ false
    → begins_by at o false false ≡ false
none_begins seat.Scope o type storage register inline = rw (type, storage) refl
none_begins seat.Structure o type storage register inline = rw (type) refl
none_begins seat.Prototype o type storage register inline = rw (type, register, inline) refl

-- an annotation is no keyword
noted_is_no_keyword : (w : Lexicon) (t : Token) → begins_note w t ≡ true → sign.keyword_of w.texts t ≡ None
noted_is_no_keyword w t h = go (name_of w t) refl
  where
    go : (o : Option Name) → name_of w t ≡ o → sign.keyword_of w.texts t ≡ None
    go (Some n) k = name_no_keyword w n t k
    go None k = absurd (let both : false ≡ true = sym (ap (λ o. is_some o && (not (is_type_name w t) && looks_like_note (word_of w.texts t))) k) ∙ h in cc both)

flipped : (b : Bool) → not b ≡ true → b ≡ false
flipped false h = refl
flipped true h = absurd (cc h)

-- ---- one specifier by its keyword

module _ (texts : List (List ℕ)) (at : Seat) (m : ℕ) (more : ℕ → Parts) (s : Specified) (t : Token) (ts : List Token) where
  abbrev here : Lexicon
  here = reading texts s.types

  abbrev pub tagless_by : Option Keyword → Outcome Token Specified
  tagless_by o =
      if is_word keyword.Const o then guard (no_room_for_const texts at m more s) too_deep (token unexpected (is_keyword here keyword.Const) >>= (λ t. pure (constantly s))) (t ∷ ts)
      else (if is_word keyword.Restrict o then (token unexpected (is_keyword here keyword.Restrict) >>= (λ t. pure s)) (t ∷ ts)
      else (if is_word keyword.Inline o && not (is_structure at) then (token unexpected (is_inline texts at m more s) >>= (λ t. pure s)) (t ∷ ts)
      else (if option_map_or is_storage_keyword o false then taken_as unexpected (reader.storage_by at s o) ts
      else (if (is_word keyword.Float o && is_nothing s.said) || (is_word keyword.Double o && may_be_floating s.said) then stop expr.floating (length (t ∷ ts))
      else (if is_word keyword.Union o && is_nothing s.said then stop expr.union (length (t ∷ ts))
      else (if is_word keyword.Volatile o then stop expr.volatile (length (t ∷ ts))
      else (if (is_word keyword.Complex o || is_word keyword.Imaginary o) && may_be_floating s.said then stop expr.complex (length (t ∷ ts))
      else taken_as unexpected (reader.word_by t.place s o) ts)))))))

  abbrev pub specified_by : Option Keyword → Outcome Token Specified
  specified_by o =
      if is_word keyword.Struct o && is_nothing s.said then tagged texts at m more (structure texts at m more s) (λ n place. tree.Struct (Some n) tree.Undeclared place) keyword.Struct s (t ∷ ts)
      else (if is_word keyword.Enum o && is_nothing s.said then tagged texts at m more (enumeration texts at m more s) (λ n place. tree.Enum (Some n) tree.Unlisted place) keyword.Enum s (t ∷ ts)
      else and_then (tagless_by o) (past_tag texts at m more))

  pub by_specifier : (o : Option Keyword) → sign.keyword_of texts t ≡ o → specified texts at m more s (t ∷ ts) ≡ specified_by o
  unfolding specified tagless
  by_specifier o h = ap specified_by h

-- ---- specifiers by their first token

module _ (texts : List (List ℕ)) (types : List Name) (m : ℕ) (more : ℕ → Parts) (at : Seat) (t : Token) (ts : List Token) where
  abbrev pub later : Outcome Token Specified → Outcome Token (Specified × TypeTree)
  later o = and_then (and_then o (defined texts at m more)) (λ s. completed texts at m more s (base_of s))

  abbrev one : Outcome Token Specified
  one = specified texts at m more (unspecified types) (t ∷ ts)

  -- the specifiers behind the first one
  abbrev pub behind_one : Specified → Parser Token Specified
  behind_one = loop (is_specifier_word (reading texts [])) (specified texts at m more) (length ts)

  pub by_word : is_specifier_word (reading texts types) t ≡ true → specifiers texts at m more types (t ∷ ts) ≡ later (and_then one behind_one)
  unfolding specifiers keyword_specifiers loop
  by_word h = ap (λ b. later (if b then and_then one behind_one else done (unspecified types) (t ∷ ts))) h

  by_none : is_specifier_word (reading texts types) t ≡ false → is_type_name (reading texts types) t ≡ false → specifiers texts at m more types (t ∷ ts) ≡ stop unexpected (length (t ∷ ts))
  unfolding specifiers keyword_specifiers defined loop
  by_none h k =
      ap (λ b. later (if b then and_then one behind_one else done (unspecified types) (t ∷ ts))) h
      ∙ ap (λ b. and_then (if b then (token unexpected (names_type texts at m more (unspecified types)) >>= (λ t. keyword_specifiers texts at m more (saying (Whole (tree.Defined t.text t.place)) (unspecified types)))) (t ∷ ts)
      else done (unspecified types) (t ∷ ts)) (λ s. completed texts at m more s (base_of s))) k

no_specifiers : (texts : List (List ℕ)) (types : List Name) (m : ℕ) (more : ℕ → Parts) (at : Seat) → specifiers texts at m more types [] ≡ stop unexpected 0
unfolding specifiers keyword_specifiers defined loop
no_specifiers texts types m more at = refl

-- ---- how a declaration begins at these tokens: it needs room, its annotations are refused, or its specifiers are

pub data Begun (A : Type 0) (texts : List (List ℕ)) (types : List Name) (m : ℕ) (more : ℕ → Parts) (at : Seat) (ts : List Token) : Type 0 where
  needs : barred {A = A} (reading texts types) at ts ≡ stop too_deep (length ts) → Begun A texts types m more at ts
  in_notes : (i : ℕ) → barred {A = A} (reading texts types) at ts ≡ stop i (length ts) → notes_reader (reading texts types) m (may_stand (reading texts types) (bearer_at at)) ts ≡ stop i (length ts) → Begun A texts types m more at ts
  in_specifiers : (i : ℕ) → barred {A = A} (reading texts types) at ts ≡ stop i (length ts) → notes_reader (reading texts types) m (may_stand (reading texts types) (bearer_at at)) ts ≡ done [] ts
      → specifiers texts at m more types ts ≡ stop i (length ts) → Begun A texts types m more at ts

module _ (A : Type 0) (texts : List (List ℕ)) (types : List Name) (m : ℕ) (more : ℕ → Parts) (t : Token) (ts : List Token) where
  abbrev w : Lexicon
  w = reading texts types

  abbrev Here : Seat → Type 0
  Here at = Begun A texts types m more at (t ∷ ts)

  -- by whether a declaration can begin so
  abbrev by_room : Bool → Outcome Token A
  by_room b = if b then stop too_deep (length (t ∷ ts)) else stop unexpected (length (t ∷ ts))

  -- what stands where there is no room, at a token that is no annotation, or one that may stand there
  abbrev barred_by : Seat → Option Keyword → (named note : Bool) → Outcome Token A
  barred_by at o named note =
      if (is_word keyword.Float o && true) || (is_word keyword.Double o && true) then stop expr.floating (length (t ∷ ts))
      else (if is_word keyword.Union o && true then stop expr.union (length (t ∷ ts))
      else (if is_word keyword.Volatile o then stop expr.volatile (length (t ∷ ts))
      else (if (is_word keyword.Complex o || is_word keyword.Imaginary o) && true then stop expr.complex (length (t ∷ ts))
      else (if begins_by at o named note then stop too_deep (length (t ∷ ts))
      else stop unexpected (length (t ∷ ts))))))

  module _ (at : Seat) (unnoted : notes_reader w m (may_stand w (bearer_at at)) (t ∷ ts) ≡ done [] (t ∷ ts)) where
    in_room : (k : Keyword) → is_type_keyword k ≡ true → barred {A = A} w at (t ∷ ts) ≡ by_room (begins_by at (Some k) (is_type_name w t) false) → Here at
    in_room k h e = needs (e ∙ ap by_room (type_begins at k (is_type_name w t) false h))

    refused_there : (k : Keyword) (i : ℕ) → sign.keyword_of texts t ≡ Some k → (is_type_keyword k || is_storage_keyword k) ≡ true
        → specified_by texts at m more (unspecified types) t ts (Some k) ≡ stop i (length (t ∷ ts)) → barred {A = A} w at (t ∷ ts) ≡ stop i (length (t ∷ ts)) → Here at
    refused_there k i h word e is =
        in_specifiers i is unnoted
        (by_word texts types m more at t ts (ap (λ o. option_map_or is_type_keyword o false || option_map_or is_storage_keyword o false) h ∙ word)
        ∙ ap (λ o. later texts types m more at t ts (and_then o (behind_one texts types m more at t ts))) (by_specifier texts at m more (unspecified types) t ts (Some k) h ∙ e))

    room_there : (k : Keyword) → begins_by at (Some k) (is_type_name w t) false ≡ true → barred {A = A} w at (t ∷ ts) ≡ by_room (begins_by at (Some k) (is_type_name w t) false) → Here at
    room_there k h e = needs (e ∙ ap by_room h)

    -- a storage word that may not stand at this seat
    stored_there : (k : Keyword) → sign.keyword_of texts t ≡ Some k → (is_type_keyword k || is_storage_keyword k) ≡ true → specified_by texts at m more (unspecified types) t ts (Some k) ≡ stop unexpected (length (t ∷ ts))
        → begins_by at (Some k) false false ≡ false → barred {A = A} w at (t ∷ ts) ≡ by_room (begins_by at (Some k) (is_type_name w t) false) → Here at
    stored_there k h word e off is = go (is_type_name w t) is
      where
        go : (named : Bool) → barred {A = A} w at (t ∷ ts) ≡ by_room (begins_by at (Some k) named false) → Here at
        go true f = needs (f ∙ ap by_room (name_begins at (Some k) false))
        go false f = refused_there k unexpected h word e (f ∙ ap by_room off)

    by_name : (o : Option Keyword) → sign.keyword_of texts t ≡ o → option_map_or is_type_keyword o false ≡ false → option_map_or is_storage_keyword o false ≡ false → is_word keyword.Register o ≡ false → is_word keyword.Inline o ≡ false
        → barred {A = A} w at (t ∷ ts) ≡ by_room (begins_by at o (is_type_name w t) false) → Here at
    by_name o h type storage register inline e = go (is_type_name w t) refl e
      where
        go : (named : Bool) → is_type_name w t ≡ named → barred {A = A} w at (t ∷ ts) ≡ by_room (begins_by at o named false) → Here at
        go true k f = needs (f ∙ ap by_room (name_begins at o false))
        go false k f =
            in_specifiers unexpected (f ∙ ap by_room (none_begins at o type storage register inline)) unnoted
            (by_none texts types m more at t ts (ap (λ o. option_map_or is_type_keyword o false || option_map_or is_storage_keyword o false) h ∙ rw (type, storage) refl) k)

  abbrev Unnoted : Seat → Type 0
  Unnoted at = notes_reader w m (may_stand w (bearer_at at)) (t ∷ ts) ≡ done [] (t ∷ ts)

  -- a token that is no annotation
  by_keyword : (at : Seat) (o : Option Keyword) → sign.keyword_of texts t ≡ o → Unnoted at → barred {A = A} w at (t ∷ ts) ≡ barred_by at o (is_type_name w t) false → Here at
  by_keyword at None h u e = by_name at u None h refl refl refl refl e
  by_keyword at (Some keyword.Void) h u e = in_room at u keyword.Void refl e
  by_keyword at (Some keyword.Bool) h u e = in_room at u keyword.Bool refl e
  by_keyword at (Some keyword.Char) h u e = in_room at u keyword.Char refl e
  by_keyword at (Some keyword.Short) h u e = in_room at u keyword.Short refl e
  by_keyword at (Some keyword.Int) h u e = in_room at u keyword.Int refl e
  by_keyword at (Some keyword.Long) h u e = in_room at u keyword.Long refl e
  by_keyword at (Some keyword.Signed) h u e = in_room at u keyword.Signed refl e
  by_keyword at (Some keyword.Unsigned) h u e = in_room at u keyword.Unsigned refl e
  by_keyword at (Some keyword.Struct) h u e = in_room at u keyword.Struct refl e
  by_keyword at (Some keyword.Enum) h u e = in_room at u keyword.Enum refl e
  by_keyword at (Some keyword.Const) h u e = in_room at u keyword.Const refl e
  by_keyword at (Some keyword.Restrict) h u e = in_room at u keyword.Restrict refl e
  by_keyword at (Some keyword.Float) h u e = refused_there at u keyword.Float expr.floating h refl refl e
  by_keyword at (Some keyword.Double) h u e = refused_there at u keyword.Double expr.floating h refl refl e
  by_keyword at (Some keyword.Union) h u e = refused_there at u keyword.Union expr.union h refl refl e
  by_keyword at (Some keyword.Volatile) h u e = refused_there at u keyword.Volatile expr.volatile h refl refl e
  by_keyword at (Some keyword.Complex) h u e = refused_there at u keyword.Complex expr.complex h refl refl e
  by_keyword at (Some keyword.Imaginary) h u e = refused_there at u keyword.Imaginary expr.complex h refl refl e
  by_keyword seat.Scope (Some keyword.Typedef) h u e = needs e
  by_keyword seat.Scope (Some keyword.Extern) h u e = needs e
  by_keyword seat.Scope (Some keyword.Static) h u e = needs e
  by_keyword seat.Scope (Some keyword.Register) h u e = needs e
  by_keyword seat.Scope (Some keyword.Inline) h u e = needs e
  by_keyword seat.Structure (Some keyword.Typedef) h u e = stored_there seat.Structure u keyword.Typedef h refl refl refl e
  by_keyword seat.Structure (Some keyword.Extern) h u e = stored_there seat.Structure u keyword.Extern h refl refl refl e
  by_keyword seat.Structure (Some keyword.Static) h u e = stored_there seat.Structure u keyword.Static h refl refl refl e
  by_keyword seat.Structure (Some keyword.Register) h u e = stored_there seat.Structure u keyword.Register h refl refl refl e
  by_keyword seat.Structure (Some keyword.Inline) h u e = stored_there seat.Structure u keyword.Inline h refl refl refl e
  by_keyword seat.Prototype (Some keyword.Typedef) h u e = stored_there seat.Prototype u keyword.Typedef h refl refl refl e
  by_keyword seat.Prototype (Some keyword.Extern) h u e = stored_there seat.Prototype u keyword.Extern h refl refl refl e
  by_keyword seat.Prototype (Some keyword.Static) h u e = stored_there seat.Prototype u keyword.Static h refl refl refl e
  by_keyword seat.Prototype (Some keyword.Register) h u e = room_there seat.Prototype u keyword.Register (either (is_type_name w t)) e
  by_keyword seat.Prototype (Some keyword.Inline) h u e = room_there seat.Prototype u keyword.Inline (either (is_type_name w t)) e
  by_keyword at (Some _) h u e = by_name at u (Some _) h refl refl refl refl e

  at_first : (at : Seat) → Here at
  at_first at = by_unlisted (is_unlisted w t) refl
    where
      whole : (a b : Bool) → Outcome Token A
      whole a b = if a then stop unknown (length (t ∷ ts)) else (if b then stop misplaced (length (t ∷ ts)) else barred_by at (sign.keyword_of texts t) (is_type_name w t) (begins_note w t))

      is_whole : barred {A = A} w at (t ∷ ts) ≡ whole (is_unlisted w t) (is_listed w t && not (may_stand w (bearer_at at) t))
      is_whole =
          ap (λ b. if is_unlisted w t then stop unknown (length (t ∷ ts)) else (if is_listed w t && not (may_stand w (bearer_at at) t) then stop misplaced (length (t ∷ ts))
          else (if is_floating w Nothing t then stop expr.floating (length (t ∷ ts)) else (if is_union w Nothing t then stop expr.union (length (t ∷ ts)) else (if is_keyword w keyword.Volatile t then stop expr.volatile (length (t ∷ ts))
          else (if is_complex w Nothing t then stop expr.complex (length (t ∷ ts)) else (if b then stop too_deep (length (t ∷ ts)) else stop unexpected (length (t ∷ ts))))))))) (begins_as w at t)

      by_note : (b : Bool) → begins_note w t ≡ b → barred {A = A} w at (t ∷ ts) ≡ barred_by at (sign.keyword_of texts t) (is_type_name w t) (begins_note w t) → Here at
      by_note true h e =
          needs (e ∙ ap (λ o. barred_by at o (is_type_name w t) (begins_note w t)) (noted_is_no_keyword w t h) ∙ ap (barred_by at None (is_type_name w t)) h
          ∙ ap by_room (note_begins at (is_type_name w t)))
      by_note false h e = by_keyword at (sign.keyword_of texts t) refl (no_notes w m (may_stand w (bearer_at at)) (t ∷ ts) h) (e ∙ ap (barred_by at (sign.keyword_of texts t) (is_type_name w t)) h)

      by_place : (b : Bool) → (is_listed w t && not (may_stand w (bearer_at at) t)) ≡ b → is_unlisted w t ≡ false → Here at
      by_place true h k =
          in_notes misplaced (is_whole ∙ ap (λ a. whole a (is_listed w t && not (may_stand w (bearer_at at) t))) k ∙ ap (whole false) h)
          (notes_out_of_place w m (may_stand w (bearer_at at)) t ts (and_first (is_listed w t) (not (may_stand w (bearer_at at) t)) h)
          (flipped (may_stand w (bearer_at at) t) (and_second (is_listed w t) (not (may_stand w (bearer_at at) t)) h)))
      by_place false h k = by_note (begins_note w t) refl (is_whole ∙ ap (λ a. whole a (is_listed w t && not (may_stand w (bearer_at at) t))) k ∙ ap (whole false) h)

      by_unlisted : (a : Bool) → is_unlisted w t ≡ a → Here at
      by_unlisted true h = in_notes unknown (is_whole ∙ ap (λ a. whole a (is_listed w t && not (may_stand w (bearer_at at) t))) h) (notes_unlisted w m (may_stand w (bearer_at at)) t ts h)
      by_unlisted false h = by_place (is_listed w t && not (may_stand w (bearer_at at) t)) refl h

pub begun : (A : Type 0) (texts : List (List ℕ)) (types : List Name) (m : ℕ) (more : ℕ → Parts) (at : Seat) (ts : List Token) → Begun A texts types m more at ts
begun A texts types m more at [] = in_specifiers unexpected refl (no_notes (reading texts types) m (may_stand (reading texts types) (bearer_at at)) [] refl) (no_specifiers texts types m more at)
begun A texts types m more at (t ∷ ts) = at_first A texts types m more t ts at

-- ---- whatever follows the specifiers

abbrev pub notes_at : List (List ℕ) → List Name → ℕ → Seat → Parser Token (List NoteTree)
notes_at texts types m at = notes_reader (reading texts types) m (may_stand (reading texts types) (bearer_at at))

module _ {A : Type 0} (texts : List (List ℕ)) (types : List Name) (m : ℕ) (more : ℕ → Parts) (at : Seat) where
  -- with the tokens that were read
  pub text_barred : (f : List NoteTree × List Token → (Specified × TypeTree) × List Token → Parser Token A)
      → Wider (barred (reading texts types) at) (with_text (notes_at texts types m at) >>= (λ ns. with_text (specifiers texts at m more types) >>= f ns))
  text_barred f ts = by_case (begun A texts types m more at ts)
    where
      behind : List NoteTree × List Token → Parser Token A
      behind ns = with_text (specifiers texts at m more types) >>= f ns

      by_case : Begun A texts types m more at ts → Held (barred (reading texts types) at ts) (and_then (with_front ts (notes_at texts types m at ts)) behind)
      by_case (needs e) = short (length ts) e
      by_case (in_notes i e noted) = same (ap (λ o. and_then (with_front ts o) behind) noted ∙ sym e)
      by_case (in_specifiers i e noted said) = same (ap (λ o. and_then (with_front ts o) behind) noted ∙ ap (λ o. and_then (with_front ts o) (f ([], take (length ts - length ts) ts))) said ∙ sym e)

-- what stands for a reader without room stands for it with others behind it
barred_before : {A B : Type 0} (w : Lexicon) (at : Seat) (p : Parser Token A) (q : A → Parser Token B) → Wider (barred w at) p → Wider (barred w at) (p >>= q)
barred_before {A} {B} w at p q P ts = subst (λ o. Held o (and_then (p ts) q)) (barred_then w at {A = A} {B = B} q ts) (before (barred {A = A} w at) p q P ts)

module _ (texts : List (List ℕ)) (m : ℕ) (more : ℕ → Parts) (types : List Name) where
  pub parameters_barred : Wider (barred (reading texts types) seat.Prototype) (parameters_at texts m more types)
  unfolding parameters_at parameter
  parameters_barred = barred_before (reading texts types) seat.Prototype (parameter texts m more (record { list = []; types = types })) _ (text_barred texts types m more seat.Prototype _)

  pub opening_barred : Wider (barred (reading texts types) seat.Scope) (opening texts m more types)
  unfolding opening
  opening_barred = text_barred texts types m more seat.Scope _

  pub declaration_barred : Wider (barred (reading texts types) seat.Scope) (declaration_at texts m more types)
  unfolding declaration_at
  declaration_barred = barred_before (reading texts types) seat.Scope (opening texts m more types) _ opening_barred
