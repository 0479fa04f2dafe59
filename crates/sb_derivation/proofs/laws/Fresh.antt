-- There is a name that no typedef declares: typedef names are finitely many.
use Rattle.std.proofs.Common.{◌≡◌, ◌≤◌, ◌+◌, ◌-◌, ℕ, suc, Bool, true, false, ◌||◌, ◌&&◌, List, [], ◌∷◌, nat_eq, nat_lt, slice_get, not, Some, None, is_some, if◌then◌else◌, refl, ap, ◌∙◌, arith, eqb-true}
use Rattle.std.proofs.lemmas.Bool.{le-ltb}
use Rattle.std.proofs.lemmas.Option.{slice_get_past}
use Rattle.std.specs.Option.{option_map_or}
use Rattle.sb_base.specs.declared.interning.Name.{Name}
use Rattle.sb_base.specs.declared.tokens.PpKind.TheVariants as kind
use Rattle.sb_base.specs.declared.tokens.Token.{Token}
use Rattle.sb_sign.specs.Signs as sign
use Rattle.sb_lexicon.specs.Lexicon.{Lexicon, name_of, is_among, is_type_name}
use Rattle.sb_lexicon.specs.Outcomes.{nowhere}
use Rattle.sb_sal.specs.Spellings.{begins_note, looks_like_note, own_word, word_of}

-- a number above those of all names
abbrev above : List Name → ℕ
above [] = 0
above (n ∷ ns) = n.0 + above ns

past_all : (ns : List Name) (m : ℕ) → suc (above ns) ≤ m → is_among (record { 0 = m }) ns ≡ false
past_all [] m le = refl
past_all (n ∷ ns) m le = by_test (nat_eq m n.0) refl (past_all ns m (omega arith))
  where
    by_test : (b : Bool) → nat_eq m n.0 ≡ b → is_among (record { 0 = m }) ns ≡ false → (nat_eq m n.0 || is_among (record { 0 = m }) ns) ≡ false
    by_test false h later = ap (λ b. b || is_among (record { 0 = m }) ns) h ∙ later
    by_test true h later = absurd (let same : m ≡ n.0 = eqb-true m n.0 h in omega arith)

number : List Name → ℕ
number ns = 4294967296 + (1000 + above ns)

pub fresh_token : List Name → Token
fresh_token ns = record { kind = kind.Word; text = record { 0 = number ns }; place = nowhere; value = 2 }

-- past the table and past the language's own words it is spelled as nothing
unspelled : (texts : List (List ℕ)) (ns : List Name) → sign.spelling_of texts (fresh_token ns) ≡ []
unfolding fresh_token number
unspelled texts ns =
    let large : 4294967296 ≤ 4294967296 + (1000 + above ns) = omega arith in
    let past : nat_lt (4294967296 + (1000 + above ns)) 4294967296 ≡ false = le-ltb (4294967296 + (1000 + above ns)) 4294967296 large in
    let left : (4294967296 + (1000 + above ns)) - 4294967296 ≡ 1000 + above ns = omega arith in
    let none : slice_get sign.own_words (1000 + above ns) ≡ None = slice_get_past sign.own_words (1000 + above ns) (let le : 83 ≤ 1000 + above ns = omega arith in le) in
    ap (λ b. option_map_or (λ text. text) (if b then slice_get texts (4294967296 + (1000 + above ns)) else slice_get sign.own_words ((4294967296 + (1000 + above ns)) - 4294967296)) []) past
    ∙ ap (λ n. option_map_or (λ text. text) (slice_get sign.own_words n) []) left ∙ ap (λ o. option_map_or (λ text. text) o []) none

pub fresh_is_name : (w : Lexicon) (ns : List Name) → name_of w (fresh_token ns) ≡ Some (fresh_token ns).text
unfolding fresh_token number
fresh_is_name w ns = ap (λ text. sign.name_by kind.Word (fresh_token ns).text (sign.keyword_by kind.Word text)) (unspelled w.texts ns)

pub fresh_is_free : (w : Lexicon) → is_type_name w (fresh_token w.types) ≡ false
unfolding fresh_token number
fresh_is_free w =
    ap (λ o. option_map_or (λ n. is_among n w.types) o false) (fresh_is_name w w.types) ∙ past_all w.types (4294967296 + (1000 + above w.types)) (let le : suc (above w.types) ≤ 4294967296 + (1000 + above w.types) = omega arith in le)

-- neither as nothing nor as `Mem` it is spelled as an annotation
unlike_note : (w : Lexicon) → looks_like_note (word_of w.texts (fresh_token w.types)) ≡ false
unfolding fresh_token number
unlike_note w = by_test (nat_lt (fresh_token w.types).text.0 8589934592)
  where
    by_test : (b : Bool) → looks_like_note (if b then sign.spelling_of w.texts (fresh_token w.types) else own_word 2) ≡ false
    by_test true = ap looks_like_note (unspelled w.texts w.types)
    by_test false = refl

pub fresh_no_note : (w : Lexicon) → begins_note w (fresh_token w.types) ≡ false
unfolding fresh_token number
fresh_no_note w =
    ap (λ o. is_some o && (not (is_type_name w (fresh_token w.types)) && looks_like_note (word_of w.texts (fresh_token w.types)))) (fresh_is_name w w.types)
    ∙ ap (λ b. not b && looks_like_note (word_of w.texts (fresh_token w.types))) (fresh_is_free w) ∙ unlike_note w
