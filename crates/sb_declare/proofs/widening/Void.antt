-- What parameters with room read behind `void` as their first token, where no parameter goes on: they are done, or stop at the next token.
use Rattle.std.proofs.Common.{◌≡◌, ◌-◌, ℕ, zero, suc, Bool, true, false, ◌||◌, ◌&&◌, not, List, [], ◌∷◌, ◌++◌, length, take, Option, Some, None, is_some, if◌then◌else◌, refl, ap, ◌∙◌, inl, inr}
use Rattle.std.specs.Option.{option_map_or}
use Rattle.sb_base.specs.declared.interning.Name.{Name}
use Rattle.sb_base.specs.declared.tokens.PpKind.{PpKind}
use Rattle.sb_base.specs.declared.tokens.PpKind.TheVariants as kind
use Rattle.sb_base.specs.declared.tokens.Token.{Token}
use Rattle.sb_parse.specs.Descent.{descent}
use Rattle.sb_parse.specs.Parser.{Parser, done, stop, at_next, and_then, ◌>>=◌, pure, token, loop, looped}
use Rattle.sb_parse.proofs.Heads.{chosen}
use Rattle.sb_sign.specs.declared.sign.Keyword.{Keyword}
use Rattle.sb_sign.specs.declared.sign.Keyword.TheVariants as keyword
use Rattle.sb_sign.specs.Signs as sign
use Rattle.sb_tree.specs.Trees as tree
use Rattle.sb_tree.specs.Trees.{TypeTree, NoteTree}
use Rattle.sb_lexicon.specs.declared.words.Kind.TheVariants as kinds
use Rattle.sb_lexicon.specs.Lexicon.{Lexicon, is_keyword, is_type_keyword, is_type_name}
use Rattle.sb_lexicon.specs.Words.{Words, Whole, no_words}
use Rattle.sb_lexicon.specs.Tokens as expr
use Rattle.sb_operand.specs.Readers.{begins_abstract}
use Rattle.sb_lexicon.specs.Tokens.{unexpected, is_close, is_comma, is_star, is_open, is_open_bracket}
use Rattle.sb_lexicon.proofs.Lexemes.{keyword_is}
use Rattle.sb_parse.proofs.Ways.{first_fails, second_fails}
use Rattle.sb_sal.specs.Spellings.{begins_note, may_stand, looks_like_note, word_of}
use Rattle.sb_sal.proofs.NoteWider.{no_notes}
use Rattle.sb_specifier.specs.declared.seat.Seat.TheVariants as seat
use Rattle.sb_specifier.specs.Specified.{reading, Specified, unspecified, saying, base_of, without, bearer_at}
use Rattle.sb_declarator.specs.Readers as reader
use Rattle.sb_parse.specs.Texts.{with_front, with_text}
use Rattle.sb_specifier.specs.Readers.{is_name, is_specifier_word, opens_tag, past_tag, specified, names_type, defined, completed, keyword_specifiers, specifiers, is_storage_keyword, one_more, Declarator, Declarations, Parts, goes_on_void}
use Rattle.sb_declarator.specs.Readers.{member_of, first_place, next_parameter, declarators, declarator_at, direct, first, name_or_none, unnamed, on, parameter, parameters_at}
use Rattle.sb_declare.proofs.widening.Barred.{is_word, by_specifier, by_word, behind_one, later, notes_at}
use Rattle.sb_specifier.proofs.laws.Keywords.{type_specifies}
use Rattle.sb_declarator.proofs.widening.Declarators.{BehindVoid}

-- ---- tests of the next token

never_passes : (test : Token → Bool) → ((t : Token) → test t ≡ false) → (ts : List Token) → at_next test ts ≡ false
never_passes test off [] = refl
never_passes test off (t ∷ ts) = off t

first_off : (a b : Token → Bool) (ts : List Token) → at_next (λ t. a t || b t) ts ≡ false → at_next a ts ≡ false
first_off a b [] h = refl
first_off a b (t ∷ ts) h = first_fails (a t) (b t) h

second_off : (a b : Token → Bool) (ts : List Token) → at_next (λ t. a t || b t) ts ≡ false → at_next b ts ≡ false
second_off a b [] h = refl
second_off a b (t ∷ ts) h = second_fails (a t) (b t) h

either_off : (a b : Token → Bool) (ts : List Token) → at_next a ts ≡ false → at_next b ts ≡ false → at_next (λ t. a t || b t) ts ≡ false
either_off a b [] h k = refl
either_off a b (t ∷ ts) h k = ap (λ z. z || b t) h ∙ k

no_turn : {A : Type 0} (goes : Token → Bool) (op : A → Parser Token A) (a : A) (ts : List Token) → at_next goes ts ≡ false → loop goes op (length ts) a ts ≡ done a ts
unfolding loop
no_turn goes op a [] h = refl
no_turn goes op a (t ∷ ts) h = ap (λ b. if b then and_then (op a (t ∷ ts)) (loop goes op (length ts)) else done a (t ∷ ts)) h

-- a keyword is no name
no_name_by : (k : PpKind) (name : Name) (j : Keyword) (o : Option Keyword) → o ≡ Some j → sign.name_by k name o ≡ None
no_name_by k name j o e = ap (sign.name_by k name) e ∙ by_kind k
  where
    by_kind : (k : PpKind) → sign.name_by k name (Some j) ≡ None
    by_kind kind.Word = refl
    by_kind _ = refl

-- ---- a parameter's declarator that is nothing

module _ (w : Lexicon) (m : ℕ) (more : ℕ → Parts) (ts : List Token) (none : at_next (begins_abstract w) ts ≡ false) (nameless : at_next (is_name w) ts ≡ false) where
  nothing_at : (room : ℕ) (rest : ℕ → Parser Token Declarator) → declarator_at w false true m more room rest ts ≡ done (unnamed w false true m more room rest) ts
  unfolding declarator_at direct first name_or_none
  nothing_at room rest =
      let star : at_next (is_star w) ts ≡ false = first_off (is_star w) (λ t. is_open w t || is_open_bracket w t) ts none in
      let others : at_next (λ t. is_open w t || is_open_bracket w t) ts ≡ false = second_off (is_star w) (λ t. is_open w t || is_open_bracket w t) ts none in
      let opens : at_next (is_open w) ts ≡ false = first_off (is_open w) (is_open_bracket w) ts others in
      let brackets : at_next (is_open_bracket w) ts ≡ false = second_off (is_open w) (is_open_bracket w) ts others in
      rw (star, opens, nameless) (no_turn (reader.is_suffix w false true m more room rest) (reader.suffixed w false true m more room rest) (unnamed w false true m more room rest) ts (neither brackets opens))
    where
      neither : at_next (is_open_bracket w) ts ≡ false → at_next (is_open w) ts ≡ false → at_next (λ t. is_open_bracket w t || is_open w t) ts ≡ false
      neither h k = either_off (is_open_bracket w) (is_open w) ts h k

  pub no_declarator : (room : ℕ) → declarators w false true m more room 0 ts ≡ done (record { pieces = []; name = None; inner = w.types }) ts
  unfolding descent
  no_declarator zero = nothing_at 0 (λ k ts. stop unexpected (length ts))
  no_declarator (suc room) = nothing_at (suc room) (declarators w false true m more room)

module _ (texts : List (List ℕ)) (m : ℕ) (more : ℕ → Parts) (types : List Name) (v : Token) (ts : List Token) (void : is_keyword (reading texts types) keyword.Void v ≡ true) where
  abbrev w : Lexicon
  w = reading texts types

  -- what is said by `void`
  abbrev pub voided : Specified
  voided = saying (Words (record { sign = no_words.sign; length = no_words.length; kind = kinds.Void }) v.place) (unspecified types)

  abbrev pub base : TypeTree
  base = tree.Base 0 v.place

  void_is : sign.keyword_of texts v ≡ Some keyword.Void
  void_is = keyword_is w keyword.Void v void

  -- ---- the first specifier

  first_said : specified texts seat.Prototype m more (unspecified types) (v ∷ ts) ≡ done voided ts
  unfolding past_tag
  first_said =
      by_specifier texts seat.Prototype m more (unspecified types) v ts (Some keyword.Void) void_is
      ∙ ap (λ b. if b then stop unexpected (length ts) else done voided ts) (never_passes (opens_tag texts seat.Prototype m more voided) (λ t. refl) ts)

  pub said : specifiers texts seat.Prototype m more types (v ∷ ts) ≡ later texts types m more seat.Prototype v ts (behind_one texts types m more seat.Prototype v ts voided ts)
  said =
      by_word texts types m more seat.Prototype v ts (ap (λ o. option_map_or is_type_keyword o false || option_map_or is_storage_keyword o false) void_is)
      ∙ ap (λ o. later texts types m more seat.Prototype v ts (and_then o (behind_one texts types m more seat.Prototype v ts))) first_said

  pub said_alone : at_next (is_specifier_word w) ts ≡ false → specifiers texts seat.Prototype m more types (v ∷ ts) ≡ done (voided, base) ts
  unfolding defined
  said_alone h =
      said
      ∙ ap (later texts types m more seat.Prototype v ts) (no_turn (is_specifier_word (reading texts [])) (specified texts seat.Prototype m more) voided ts h)
      ∙ ap (λ o. and_then o (λ s. completed texts seat.Prototype m more s (base_of s)))
      (chosen (names_type texts seat.Prototype m more voided)
      (token unexpected (names_type texts seat.Prototype m more voided) >>= (λ t. keyword_specifiers texts seat.Prototype m more (saying (Whole (tree.Defined t.text t.place)) voided))) (pure voided) ts false
      (never_passes (names_type texts seat.Prototype m more voided) (λ t. refl) ts))

  -- ---- a parameter of it

  no_note : begins_note w v ≡ false
  no_note = ap (λ o. is_some o && (not (is_type_name w v) && looks_like_note (word_of w.texts v))) (no_name_by v.kind v.text keyword.Void (sign.keyword_of texts v) void_is)

  abbrev pub none : Declarations
  none = record { list = []; types = types }

  unnoted : notes_at texts types m seat.Prototype (v ∷ ts) ≡ done [] (v ∷ ts)
  unnoted = no_notes w m (may_stand w (bearer_at seat.Prototype)) (v ∷ ts) no_note

  -- what follows the annotations, and what follows the specifiers
  abbrev pub from_type : List NoteTree × List Token → (Specified × TypeTree) × List Token → Parser Token Declarations
  from_type notes s = on texts m more s.0.0.types false true s.0.1 >>= (λ d.
      pure (one_more none (member_of texts m more notes.0 s.0.1 d (first_place texts m more (notes.1 ++ s.1))) (option_map_or (λ n. without n.0 s.0.0.types) d.name s.0.0.types)))

  abbrev pub no_text : List Token
  no_text = take (length (v ∷ ts) - length (v ∷ ts)) (v ∷ ts)

  pub one_parameter : parameter texts m more none (v ∷ ts) ≡ and_then (with_front (v ∷ ts) (specifiers texts seat.Prototype m more types (v ∷ ts))) (from_type ([], no_text))
  unfolding parameter
  one_parameter = ap (λ o. and_then (with_front (v ∷ ts) o) (λ notes. with_text (specifiers texts seat.Prototype m more types) >>= from_type notes)) unnoted

  stopped : (i left : ℕ) → specifiers texts seat.Prototype m more types (v ∷ ts) ≡ stop i left → parameters_at texts m more types (v ∷ ts) ≡ stop i left
  unfolding parameters_at
  stopped i left e =
      ap (λ o. and_then o (looped (is_comma w) (next_parameter texts m more))) (one_parameter ∙ ap (λ o. and_then (with_front (v ∷ ts) o) (from_type ([], no_text))) e)

  finished : specifiers texts seat.Prototype m more types (v ∷ ts) ≡ done (voided, base) ts → at_next (begins_abstract w) ts ≡ false → at_next (is_name w) ts ≡ false → at_next (is_comma w) ts ≡ false
      → (ds : Declarations) × (parameters_at texts m more types (v ∷ ts) ≡ done ds ts)
  unfolding parameters_at
  finished e abstract nameless comma = (ds, ap (λ o. and_then o (looped (is_comma w) (next_parameter texts m more))) all ∙ no_turn (is_comma w) (next_parameter texts m more) ds ts comma)
    where
      front : List Token
      front = take (length (v ∷ ts) - length ts) (v ∷ ts)

      unnamed_one : Declarator
      unnamed_one = record { pieces = []; name = None; inner = types }

      ds : Declarations
      ds = one_more none (member_of texts m more [] base unnamed_one (first_place texts m more (no_text ++ front))) types

      all : parameter texts m more none (v ∷ ts) ≡ done ds ts
      all =
          one_parameter ∙ ap (λ o. and_then (with_front (v ∷ ts) o) (from_type ([], no_text))) e
          ∙ ap (λ o. and_then o (λ d. pure (one_more none (member_of texts m more [] base d (first_place texts m more (no_text ++ front))) (option_map_or (λ n. without n.0 types) d.name types))))
          (no_declarator w m more ts abstract nameless (m - 1))

  -- ---- one more word behind it

  module _ (u : Token) (us : List Token) where
    another_word : (o : Option Keyword) → sign.keyword_of texts u ≡ o → is_word keyword.Const o ≡ false → is_word keyword.Restrict o ≡ false
        → is_word keyword.Register o ≡ false → is_word keyword.Inline o ≡ false → is_word keyword.Volatile o ≡ false → specified texts seat.Prototype m more voided (u ∷ us) ≡ stop unexpected (length (u ∷ us))
    another_word None h c r g i l = by_specifier texts seat.Prototype m more voided u us None h
    another_word (Some keyword.Const) h c r g i l = absurd (cc c)
    another_word (Some keyword.Restrict) h c r g i l = absurd (cc r)
    another_word (Some keyword.Register) h c r g i l = absurd (cc g)
    another_word (Some keyword.Inline) h c r g i l = absurd (cc i)
    another_word (Some keyword.Volatile) h c r g i l = absurd (cc l)
    another_word (Some _) h c r g i l = by_specifier texts seat.Prototype m more voided u us (Some _) h

    volatile_word : is_keyword w keyword.Volatile u ≡ true → specified texts seat.Prototype m more voided (u ∷ us) ≡ stop expr.volatile (length (u ∷ us))
    volatile_word h = by_specifier texts seat.Prototype m more voided u us (Some keyword.Volatile) (keyword_is w keyword.Volatile u h)

-- ---- `void` and the tokens behind it

module _ (texts : List (List ℕ)) (m : ℕ) (more : ℕ → Parts) (types : List Name) where
  abbrev here : Lexicon
  here = reading texts types

  -- a parameter can go on behind `void` with one of these tokens
  abbrev from_register : Token → Bool
  from_register u = is_keyword here keyword.Register u || is_keyword here keyword.Inline u

  abbrev from_restrict : Token → Bool
  from_restrict u = is_keyword here keyword.Restrict u || from_register u

  abbrev from_const : Token → Bool
  from_const u = is_keyword here keyword.Const u || from_restrict u

  abbrev from_comma : Token → Bool
  from_comma u = is_comma here u || from_const u

  abbrev from_name : Token → Bool
  from_name u = is_name here u || from_comma u

  abbrev one_more_word : Specified → Parser Token Specified
  one_more_word = specified texts seat.Prototype m more

  word_stops : (v u : Token) (us : List Token) (i left : ℕ) → (void : is_keyword here keyword.Void v ≡ true) → is_specifier_word here u ≡ true
      → specified texts seat.Prototype m more (voided texts m more types v (u ∷ us) void) (u ∷ us) ≡ stop i left
      → specifiers texts seat.Prototype m more types (v ∷ (u ∷ us)) ≡ stop i left
  unfolding loop
  word_stops v u us i left void h e =
      said texts m more types v (u ∷ us) void
      ∙ ap (λ b. later texts types m more seat.Prototype v (u ∷ us) (if b then and_then (one_more_word (voided texts m more types v (u ∷ us) void) (u ∷ us)) (loop (is_specifier_word (reading texts [])) one_more_word (length us))
      else done (voided texts m more types v (u ∷ us) void) (u ∷ us))) h
      ∙ ap (λ o. later texts types m more seat.Prototype v (u ∷ us) (and_then o (loop (is_specifier_word (reading texts [])) one_more_word (length us)))) e

  pub behind_void_alone : (v : Token) (ts : List Token) → is_keyword here keyword.Void v ≡ true → at_next (is_close here) ts ≡ false → at_next (is_keyword here keyword.Volatile) ts ≡ false → at_next (goes_on_void here) ts ≡ false
      → BehindVoid (parameters_at texts m more types (v ∷ ts)) ts
  behind_void_alone v [] void unclosed plain off = inl (finished texts m more types v [] void (said_alone texts m more types v [] void refl) refl refl refl)
  behind_void_alone v (u ∷ us) void unclosed plain off = by_word_there (is_specifier_word here u) refl
    where
      named : from_name u ≡ false
      named = second_fails (begins_abstract here u) (from_name u) off

      commas : from_comma u ≡ false
      commas = second_fails (is_name here u) (from_comma u) named

      consts : from_const u ≡ false
      consts = second_fails (is_comma here u) (from_const u) commas

      restricts : from_restrict u ≡ false
      restricts = second_fails (is_keyword here keyword.Const u) (from_restrict u) consts

      registers : from_register u ≡ false
      registers = second_fails (is_keyword here keyword.Restrict u) (from_register u) restricts

      by_word_there : (b : Bool) → is_specifier_word here u ≡ b → BehindVoid (parameters_at texts m more types (v ∷ (u ∷ us))) (u ∷ us)
      by_word_there true h =
          inr (stopped texts m more types v (u ∷ us) void unexpected (length (u ∷ us)) (word_stops v u us unexpected (length (u ∷ us)) void h
          (another_word texts m more types v (u ∷ us) void u us (sign.keyword_of texts u) refl (first_fails (is_keyword here keyword.Const u) (from_restrict u) consts)
          (first_fails (is_keyword here keyword.Restrict u) (from_register u) restricts) (first_fails (is_keyword here keyword.Register u) (is_keyword here keyword.Inline u) registers)
          (second_fails (is_keyword here keyword.Register u) (is_keyword here keyword.Inline u) registers) plain)))
      by_word_there false h =
          inl (finished texts m more types v (u ∷ us) void (said_alone texts m more types v (u ∷ us) void h) (first_fails (begins_abstract here u) (from_name u) off)
          (first_fails (is_name here u) (from_comma u) named) (first_fails (is_comma here u) (from_const u) commas))

  pub volatile_behind_void : (v : Token) (ts : List Token) → is_keyword here keyword.Void v ≡ true → at_next (is_keyword here keyword.Volatile) ts ≡ true → parameters_at texts m more types (v ∷ ts) ≡ stop expr.volatile (length ts)
  volatile_behind_void v [] void h = absurd (cc h)
  volatile_behind_void v (u ∷ us) void h =
      stopped texts m more types v (u ∷ us) void expr.volatile (length (u ∷ us)) (word_stops v u us expr.volatile (length (u ∷ us)) void (type_specifies here keyword.Volatile refl u (keyword_is here keyword.Volatile u h))
      (volatile_word texts m more types v (u ∷ us) void u us h))
