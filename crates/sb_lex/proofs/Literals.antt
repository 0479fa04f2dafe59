-- Characters and literals: the first character of a text and those behind it, and that a text has one reading.
use Rattle.std.proofs.Common.{◌≡◌, ◌++◌, ◌∷◌, ◌∙◌, ◌↔◌, [], ℕ, List, true, false, Some, None, arith, ap, sym, refl, eqb-true, length, suc, subst, append_assoc}
use Rattle.std.specs.Bool.{◌==◌}
use Rattle.std.proofs.lemmas.Option.{some_pair_parts}
use Rattle.std.proofs.lemmas.List.{same_from_push}
use Rattle.sb_lex.specs.Values.{character, char_value, Characters, IsCharacter, IsText}
use Rattle.sb_lex.specs.Values.Characters.{none, one}

pub at_end : (text : List ℕ) → true ≡ (length text == 0) → Characters text []
at_end [] empty = none
at_end (b ∷ text) empty = absurd (omega (arith, eqb-true (suc (length text)) 0 (sym empty)))

-- a text that begins with no character is none
pub not_bad : (text bytes : List ℕ) → false ≡ (length text == 0) → None ≡ character text → Characters text bytes → ⊥
not_bad _ _ some bad none = cc
not_bad _ _ some bad (one text rest bytes byte is more) = absurd (cc)

-- what stands behind the first character of a text
pub behind : (text rest bytes : List ℕ) (byte : ℕ) → Some (byte, rest) ≡ character text → Characters text bytes → (more : List ℕ) × (bytes ≡ byte ∷ more) × Characters rest more
behind _ rest _ byte is none = absurd (cc)
behind _ rest _ byte is (one text after bytes first is_first more) =
    let same = some_pair_parts first byte after rest (sym is_first ∙ sym is) in
    (bytes, ap (λ b. b ∷ bytes) same.0, subst (λ (l : List ℕ). Characters l bytes) same.1 more)

empty_names_none : (text bytes : List ℕ) → text ≡ [] → Characters text bytes → [] ≡ bytes
empty_names_none _ _ empty none = refl
empty_names_none _ _ empty (one text rest bytes byte is more) = let bad : character text ≡ None = ap character empty in absurd (cc)

one_reading : (text a b : List ℕ) → Characters text a → Characters text b → a ≡ b
one_reading _ _ b none other = empty_names_none [] b refl other
one_reading _ _ b (one text rest bytes byte is more) other =
    let next = behind text rest b byte (sym is) other in
    ap (λ l. byte ∷ l) (one_reading rest bytes next.0 more next.2) ∙ sym next.1

-- a literal names one list of bytes
pub one_text : (text a b : List ℕ) → IsText text a → IsText text b → a ≡ b
one_text text a b first second =
    let whole : first.body ++ 34 ∷ [] ≡ second.body ++ 34 ∷ [] = cc (first.quoted, second.quoted) in
    let body = (same_from_push first.body second.body 34 34 whole).0 in
    one_reading second.body a b (subst (λ (l : List ℕ). Characters l a) body first.named) second.named

-- reading on from the first character of a text
pub on : (text rest : List ℕ) (byte : ℕ) → Some (byte, rest) ≡ character text → ((bytes : List ℕ) × Characters text bytes) ↔ ((bytes : List ℕ) × Characters rest bytes)
on text rest byte is = (
  λ found. let next = behind text rest found.0 byte is found.1 in (next.0, next.2),
  λ found. (byte ∷ found.0, one text rest found.0 byte (sym is) found.1),
)

-- the bytes so far and those of what is left are those of all
pub goes_on : (text rest behind_it out more : List ℕ) (byte : ℕ) → Some (byte, behind_it) ≡ character rest → ((l : List ℕ) → Characters rest l → Characters text (out ++ l)) → Characters behind_it more → Characters text ((out ++ byte ∷ []) ++ more)
goes_on text rest behind_it out more byte is goes named =
    rw (append_assoc out (byte ∷ []) more) (goes (byte ∷ more) (one rest behind_it more byte (sym is) named))

-- a character constant has one value
pub one_value : (text : List ℕ) (a b : ℕ) → IsCharacter text a → IsCharacter text b → a ≡ b
one_value text a b first second =
    let whole : first.body ++ 39 ∷ [] ≡ second.body ++ 39 ∷ [] = cc (first.quoted, second.quoted) in
    let body = (same_from_push first.body second.body 39 39 whole).0 in
    let same = some_pair_parts first.byte second.byte [] [] (sym first.alone ∙ ap character body ∙ second.alone) in
    first.converted ∙ ap char_value same.0 ∙ sym second.converted
