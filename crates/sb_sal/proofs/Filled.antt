-- Wherever annotations may stand there are words enough for their arguments: by the language's own words, and on members because they take none.
use Rattle.std.proofs.Common.{◌≡◌, ◌≤◌, ◌+◌, ◌-◌, ◌^◌, ℕ, suc, Bool, true, false, ◌||◌, ◌&&◌, not, List, [], ◌∷◌, slice_get, Option, Some, None, is_some, codes, if◌then◌else◌, refl, sym, ap, ◌∙◌, le_refl, arith}
use Rattle.std.proofs.lemmas.Bool.{ne_eqb, le-ltb}
use Rattle.std.proofs.lemmas.Option.{slice_get_past}
use Rattle.std.proofs.lemmas.Slice.Eq.{bytes_eq-Decides}
use Rattle.std.specs.Option.{option_map_or}
use Rattle.std.specs.Str.{bytes_eq}
use Rattle.sb_base.specs.declared.interning.Name.{Name}
use Rattle.sb_base.specs.declared.tokens.PpKind.TheVariants as kind
use Rattle.sb_base.specs.declared.tokens.Token.{Token}
use Rattle.sb_sign.specs.Signs.{first_some, spelling_of, own_words, name_by, keyword_in}
use Rattle.sb_lexicon.specs.Lexicon.{Lexicon, is_among, name_of, is_type_name}
use Rattle.sb_lexicon.specs.Outcomes.{nowhere}
use Rattle.sb_sal.specs.declared.bearer.Bearer.{Bearer}
use Rattle.sb_sal.specs.declared.bearer.Bearer.TheVariants as bearer
use Rattle.sb_sign.specs.declared.spelling.Arguments.{Arguments}
use Rattle.sb_sign.specs.declared.spelling.Arguments.TheVariants as arguments
use Rattle.sb_sal.specs.Notes.{anywhere}
use Rattle.sb_sal.specs.Readers.{is_nothing, is_bare}
use Rattle.sb_sal.specs.Reads.{HasBare, IsFillable}
use Rattle.sb_sal.specs.Spellings.{of_input, of_update, of_output, of_result, of_field, of_condition, arguments_in, looks_like_note, own_word, word_of, begins_note, arguments_of, is_mem, is_of_member, on_parameter, on_function, may_stand}

-- ---- words that there are in any case

-- a number that is past all names, and past those that typedefs have defined
past : List Name → ℕ
past [] = 2 ^ 33
past (n ∷ ns) = suc (n.0 + past ns)

past_names : (ns : List Name) → 2 ^ 33 ≤ past ns
unfolding past
past_names [] = le_refl (2 ^ 33)
past_names (n ∷ ns) = let later : 2 ^ 33 ≤ past ns = past_names ns in omega arith

none_among : (ns : List Name) (k : ℕ) → past ns ≤ k → is_among (record { 0 = k }) ns ≡ false
unfolding past
none_among [] k le = refl
none_among (n ∷ ns) k le =
    let some : 2 ^ 33 ≤ past ns = past_names ns in
    ap (λ b. b || is_among (record { 0 = k }) ns) (ne_eqb k n.0 (λ e. omega arith)) ∙ none_among ns k (omega arith)

module _ (w : Lexicon) (value : ℕ) where
  pub own : Token
  own = record { kind = kind.Word; text = record { 0 = past w.types }; place = nowhere; value = value }

  own_is : word_of w.texts own ≡ own_word value
  unfolding own
  own_is = ap (λ b. if b then spelling_of w.texts own else own_word value) (le-ltb (past w.types) (2 ^ 33) (past_names w.types))

  own_named : name_of w own ≡ Some own.text
  unfolding own
  own_named =
      let far : 2 ^ 33 ≤ past w.types = past_names w.types in
      let none : slice_get own_words (past w.types - 2 ^ 32) ≡ None = slice_get_past own_words (past w.types - 2 ^ 32) (omega arith) in
      ap (λ b. name_by kind.Word own.text (keyword_in (option_map_or (λ text. text) (if b then slice_get w.texts (past w.types) else slice_get own_words (past w.types - 2 ^ 32)) []))) (le-ltb (past w.types) (2 ^ 32) (omega arith))
      ∙ ap (λ o. name_by kind.Word own.text (keyword_in (option_map_or (λ text. text) o []))) none

  own_no_type : is_type_name w own ≡ false
  unfolding own
  own_no_type = ap (λ o. option_map_or (λ n. is_among n w.types) o false) own_named ∙ none_among w.types (past w.types) (le_refl (past w.types))

  -- what the word is as an annotation
  own_bare : (word : List ℕ) → own_word value ≡ word → option_map_or is_nothing (if looks_like_note word then arguments_in word else None) false ≡ true → is_bare w own ≡ true
  own_bare word it bare =
      ap (λ o. option_map_or is_nothing (if is_some o && (not (is_type_name w own) && looks_like_note (word_of w.texts own)) then arguments_in (word_of w.texts own) else None) false) own_named
      ∙ ap (λ b. option_map_or is_nothing (if not b && looks_like_note (word_of w.texts own) then arguments_in (word_of w.texts own) else None) false) own_no_type
      ∙ ap (λ z. option_map_or is_nothing (if looks_like_note z then arguments_in z else None) false) (own_is ∙ it) ∙ bare

  pub own_mem : own_word value ≡ codes "Mem" → is_mem w own ≡ true
  own_mem it = ap (λ o. is_some o && bytes_eq (word_of w.texts own) (codes "Mem")) own_named ∙ ap (λ z. bytes_eq z (codes "Mem")) (own_is ∙ it)

pub bare_on_parameter : (w : Lexicon) → HasBare w (may_stand w bearer.Parameter)
bare_on_parameter w = record { token = own w 0; may_stand = ap on_parameter (own_is w 0); alone = own_bare w 0 (codes "_In_") refl refl }

pub bare_on_function : (w : Lexicon) → HasBare w (may_stand w bearer.Function)
bare_on_function w = record { token = own w 1; may_stand = ap on_function (own_is w 1); alone = own_bare w 1 (codes "_Ret_notnull_") refl refl }

pub bare_anywhere : (w : Lexicon) → HasBare w anywhere
bare_anywhere w = record { token = own w 0; may_stand = refl; alone = own_bare w 0 (codes "_In_") refl refl }

-- ---- enough for what may stand there

pub filled_by : (w : Lexicon) (may : Token → Bool) → HasBare w may → IsFillable w may
filled_by w may b = record { note = λ t m e. b; guarded = λ t m e. b }

pub anywhere_filled : (w : Lexicon) → IsFillable w anywhere
anywhere_filled w = filled_by w anywhere (bare_anywhere w)

-- ---- where no annotation takes another one of the same place

abbrev nests : Arguments → Bool
nests arguments.Note = true
nests arguments.GuardedNote = true
nests _ = false

abbrev IsPlain : Option Arguments → Type 0
IsPlain o = option_map_or nests o false ≡ false

plain_filled : (w : Lexicon) (may : Token → Bool) → ((t : Token) → may t ≡ true → IsPlain (arguments_of w t)) → IsFillable w may
plain_filled w may plain = record { note = λ t m e. absurd (never_so t arguments.Note m e refl); guarded = λ t m e. absurd (never_so t arguments.GuardedNote m e refl) }
  where
    never_so : (t : Token) (a : Arguments) → may t ≡ true → arguments_of w t ≡ Some a → nests a ≡ true → ⊥
    never_so t a m e k = let both : true ≡ false = sym k ∙ sym (ap (λ o. option_map_or nests o false) e) ∙ plain t m in cc both

object_filled : (w : Lexicon) → IsFillable w (may_stand w bearer.Object)
object_filled w = plain_filled w (may_stand w bearer.Object) (λ t m. let none : false ≡ true = m in absurd (cc none))

-- ---- members

plain_if : (b : Bool) (a : Arguments) (o : Option Arguments) → nests a ≡ false → IsPlain o → IsPlain (if b then Some a else o)
plain_if true a o h k = h
plain_if false a o h k = k

plain_first : (o other : Option Arguments) → IsPlain o → IsPlain other → IsPlain (first_some o other)
plain_first (Some a) other h k = h
plain_first None other h k = k

module _ (text : List ℕ) where
  plain_input : IsPlain (of_input text)
  plain_input = search plain_if depth 12

  plain_update : IsPlain (of_update text)
  plain_update = search plain_if depth 12

  plain_output : IsPlain (of_output text)
  plain_output = search plain_if depth 16

  plain_result : IsPlain (of_result text)
  plain_result = search plain_if depth 12

  plain_field : IsPlain (of_field text)
  plain_field = search plain_if depth 8

  -- a word of a member is none of the others
  plain_other : (word : List ℕ) (a : Arguments) (o : Option Arguments) → is_of_member text ≡ true → is_of_member word ≡ false → IsPlain o → IsPlain (if bytes_eq text word then Some a else o)
  plain_other word a o h off plain = by_test (bytes_eq text word) refl
    where
      by_test : (b : Bool) → bytes_eq text word ≡ b → IsPlain (if b then Some a else o)
      by_test true e = let both : true ≡ false = sym h ∙ ap is_of_member ((bytes_eq-Decides text word).0 e) ∙ off in absurd (cc both)
      by_test false e = plain

  plain_condition : is_of_member text ≡ true → IsPlain (of_condition text)
  plain_condition h = search (plain_other, h) depth 16

  plain_member : is_of_member text ≡ true → IsPlain (arguments_in text)
  plain_member h =
      plain_first (of_input text) (first_some (of_update text) (first_some (of_output text) (first_some (of_result text) (first_some (of_field text) (of_condition text))))) plain_input
      (plain_first (of_update text) (first_some (of_output text) (first_some (of_result text) (first_some (of_field text) (of_condition text)))) plain_update
      (plain_first (of_output text) (first_some (of_result text) (first_some (of_field text) (of_condition text))) plain_output
      (plain_first (of_result text) (first_some (of_field text) (of_condition text)) plain_result
      (plain_first (of_field text) (of_condition text) plain_field (plain_condition h)))))

member_filled : (w : Lexicon) → IsFillable w (may_stand w bearer.Member)
member_filled w = plain_filled w (may_stand w bearer.Member) (λ t m. by_test t m (begins_note w t))
  where
    by_test : (t : Token) → may_stand w bearer.Member t ≡ true → (b : Bool) → IsPlain (if b then arguments_in (word_of w.texts t) else None)
    by_test t m true = plain_member (word_of w.texts t) m
    by_test t m false = refl

-- ---- on every declaration

pub filled : (w : Lexicon) (b : Bearer) → IsFillable w (may_stand w b)
filled w bearer.Parameter = filled_by w (may_stand w bearer.Parameter) (bare_on_parameter w)
filled w bearer.Member = member_filled w
filled w bearer.Function = filled_by w (may_stand w bearer.Function) (bare_on_function w)
filled w bearer.Object = object_filled w
filled w bearer.Any = anywhere_filled w
