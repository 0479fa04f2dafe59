-- A condition is prepared in one way: one list of pieces, one table of names behind it, one ending.
use Rattle.std.proofs.Common.{◌≡◌, ◌<◌, ◌∷◌, ◌||◌, inl, inr, [], ℕ, List, Bool, Result, Ok, Err, Some, true, false, codes, nat_lt, length, if◌then◌else◌, arith, sym, refl, slice_get}
use Rattle.std.proofs.Math.Bool.{or-true}
use Rattle.std.proofs.lemmas.Bool.{lt-ltb, le-ltb}
use Rattle.sb_base.specs.Names.{holds_text, with_text, IsDistinct}
use Rattle.sb_base.specs.declared.interning.Name.{Name}
use Rattle.sb_base.specs.declared.refusals.Place.{Place}
use Rattle.sb_base.specs.declared.tokens.PpKind.{PpKind}
use Rattle.sb_base.specs.declared.tokens.PpKind.TheVariants as kind
use Rattle.sb_lex.specs.declared.piece.PpToken.{PpToken}
use Rattle.sb_lex.specs.Lexing.{HasRoom}
use Rattle.sb_directive.proofs.DistinctTexts.{distinct_with}
use Rattle.sb_directive.specs.Defined.{is_mark, is_defined, HasName, HasNoName, digit_of, replaced_by, Prepared, HasOnePreparation}
use Rattle.sb_directive.specs.Defined.HasName.{bare, wrapped}
use Rattle.sb_directive.specs.Ending.{Ending, Ended, Refused}
use Rattle.sb_directive.specs.Lines.{is_word}
use Rattle.sb_directive.specs.Rules.{Table, is_macro}

-- ---- what the pieces behind an operator name

abbrev Found : Type 0
Found = Result (Name × List PpToken) Place

module _ (texts : List (List ℕ)) where
  abbrev closed : Name → Place → List PpToken → Found
  closed name at [] = Err at
  closed name at (t ∷ ts) = if is_mark (codes ")") texts t then Ok (name, ts) else Err t.place

  abbrev inside : Place → List PpToken → Found
  inside at [] = Err at
  inside at (t ∷ ts) = if is_word t then closed t.text t.place ts else Err t.place

  abbrev name_of : Place → List PpToken → Found
  name_of at [] = Err at
  name_of at (t ∷ ts) = if is_word t then Ok (t.text, ts) else (if is_mark (codes "(") texts t then inside t.place ts else Err t.place)

  mark_no_word : (mark : List ℕ) (t : PpToken) → is_mark mark texts t ≡ true → is_word t ≡ false
  mark_no_word mark t is = by_kind t.kind refl
    where
      by_kind : (k : PpKind) → t.kind ≡ k → is_word t ≡ false
      by_kind kind.Word at = absurd (let e = rw at at is in cc)
      by_kind kind.Number at = rw at refl
      by_kind kind.Char at = rw at refl
      by_kind kind.Text at = rw at refl
      by_kind kind.Header at = rw at refl
      by_kind kind.Punct at = rw at refl

  named : (at : Place) {behind rest : List PpToken} {name : Name} → HasName texts behind name rest → name_of at behind ≡ Ok (name, rest)
  named at (bare name rest word) = rw word refl
  named at (wrapped open1 name close rest opens word end) = rw (mark_no_word (codes "(") open1 opens, opens, word, end) refl

  nameless : (at : Place) {behind : List PpToken} {place : Place} → HasNoName texts at behind place → name_of at behind ≡ Err place
  nameless at HasNoName.ends = refl
  nameless at (HasNoName.no_name t ts word opens) = rw (word, opens) refl
  nameless at (HasNoName.ends_inside open1 opens) = rw (mark_no_word (codes "(") open1 opens, opens) refl
  nameless at (HasNoName.no_name_inside open1 t ts opens word) = rw (mark_no_word (codes "(") open1 opens, opens, word) refl
  nameless at (HasNoName.ends_behind open1 name opens word) = rw (mark_no_word (codes "(") open1 opens, opens, word) refl
  nameless at (HasNoName.no_close open1 name t ts opens word end) = rw (mark_no_word (codes "(") open1 opens, opens, word, end) refl

-- ---- the front of the pieces

data Step : Type 0 where
  Same : Step
  Number : Name → List PpToken → Step
  Refusal : ℕ → Place → Step

abbrev has_room : ℕ → List (List ℕ) → List ℕ → Bool
has_room limit texts text = holds_text texts text || nat_lt (length texts) limit

room : (limit : ℕ) (texts : List (List ℕ)) (text : List ℕ) → HasRoom limit texts text → has_room limit texts text ≡ true
room limit texts text (inl held) = rw held refl
room limit texts text (inr below) = rw (lt-ltb (length texts) limit below) (or-true (holds_text texts text))

no_room : (limit : ℕ) (texts : List (List ℕ)) (text : List ℕ) → (HasRoom limit texts text → ⊥) → has_room limit texts text ≡ false
no_room limit texts text lacks = by_test (holds_text texts text) refl
  where
    by_test : (held : Bool) → holds_text texts text ≡ held → has_room limit texts text ≡ false
    by_test true is = absurd (lacks (inl is))
    by_test false is = rw is (le-ltb (length texts) limit (omega (arith, λ (h : length texts < limit). lacks (inr h))))

module _ (limit : ℕ) (table : Table) (texts : List (List ℕ)) where
  abbrev by_room : PpToken → Name → List PpToken → Step
  by_room t name rest = if has_room limit texts (digit_of (is_macro table name)) then Number name rest else Refusal 28 t.place

  abbrev by_name : PpToken → Found → Step
  by_name t (Ok found) = by_room t found.0 found.1
  by_name t (Err place) = Refusal 26 place

  abbrev step_of : PpToken → List PpToken → Step
  step_of t ts = if is_defined texts t then by_name t (name_of texts t.place ts) else Same

  numbers : (t : PpToken) (ts rest : List PpToken) (name : Name) → is_defined texts t ≡ true → HasName texts ts name rest → HasRoom limit texts (digit_of (is_macro table name)) → step_of t ts ≡ Number name rest
  numbers t ts rest name is has some = rw (is, named texts t.place has, room limit texts _ some) refl

  refuses_name : (t : PpToken) (ts : List PpToken) (place : Place) → is_defined texts t ≡ true → HasNoName texts t.place ts place → step_of t ts ≡ Refusal 26 place
  refuses_name t ts place is has = rw (is, nameless texts t.place has) refl

  refuses_room : (t : PpToken) (ts rest : List PpToken) (name : Name) → is_defined texts t ≡ true → HasName texts ts name rest → (HasRoom limit texts (digit_of (is_macro table name)) → ⊥)
      → step_of t ts ≡ Refusal 28 t.place
  refuses_room t ts rest name is has lacks = rw (is, named texts t.place has, no_room limit texts _ lacks) refl

-- ---- what a preparation says of the front and of the rest

module _ (limit : ℕ) (table : Table) (texts : List (List ℕ)) (t : PpToken) (ts : List PpToken) (out : List PpToken) (later : List (List ℕ)) (end : Ending) where
  record Goes_on (piece : PpToken) (behind : List (List ℕ)) (rest : List PpToken) : Type 0 where
    more : List PpToken
    is : out ≡ piece ∷ more
    prepared : Prepared limit table behind rest more later end

  record Numbered (digit : List ℕ) (rest : List PpToken) : Type 0 where
    number : ℕ
    at : slice_get (with_text texts digit) number ≡ Some digit
    on : Goes_on (replaced_by t number) (with_text texts digit) rest

  abbrev Behind : Step → Type 0
  Behind Same = Goes_on t texts ts
  Behind (Number name rest) = Numbered (digit_of (is_macro table name)) rest
  Behind (Refusal number place) = (out ≡ []) × (later ≡ texts) × (end ≡ Refused number place)

module _ (limit : ℕ) (table : Table) where
  opened : {texts : List (List ℕ)} {t : PpToken} {ts out : List PpToken} {later : List (List ℕ)} {end : Ending} → Prepared limit table texts (t ∷ ts) out later end
      → Behind limit table texts t ts out later end (step_of limit table texts t ts)
  opened (Prepared.other texts later t ts out end plain rest) = rw plain record { more = out; is = refl; prepared = rest }
  opened (Prepared.replaced texts later t ts rest out end name number digit is has digit_is some at more) =
      rw (numbers limit table texts t ts rest name is has (rw digit_is at some)) record {
        number = number;
        at = rw digit_is at at;
        on = record { more = out; is = refl; prepared = rw digit_is at more };
      }
  opened (Prepared.no_name texts t ts place is has) = rw (refuses_name limit table texts t ts place is has) (refl, refl, refl)
  opened (Prepared.no_room texts t ts rest name is has lacks) = rw (refuses_room limit table texts t ts rest name is has lacks) (refl, refl, refl)

  at_end : {texts : List (List ℕ)} {out : List PpToken} {later : List (List ℕ)} {end : Ending} → Prepared limit table texts [] out later end → (out ≡ []) × (later ≡ texts) × (end ≡ Ended)
  at_end (Prepared.ended texts) = (refl, refl, refl)

  -- ---- the law

  same_preparation : (texts : List (List ℕ)) (line a b : List PpToken) (later other : List (List ℕ)) (end stop : Ending) → IsDistinct texts
      → Prepared limit table texts line a later end → Prepared limit table texts line b other stop → (a ≡ b) × (later ≡ other) × (end ≡ stop)
  same_preparation _ _ _ b _ other _ stop distinct (Prepared.ended texts) second =
      let last = at_end second in
      (sym last.0, sym last.1, sym last.2)
  same_preparation _ _ _ b _ other _ stop distinct (Prepared.other texts later t ts out end plain rest) second =
      let next = rw plain at (opened second) in
      let same = same_preparation texts ts out next.more later other end stop distinct rest next.prepared in
      (cc (same.0, next.is), same.1, same.2)
  same_preparation _ _ _ b _ other _ stop distinct (Prepared.replaced texts later t ts rest out end name number digit is has digit_is some at more) second =
      let next = rw (numbers limit table texts t ts rest name is has (rw digit_is at some)) at (opened second) in
      let behind = distinct_with texts digit distinct in
      let there = rw (← digit_is) at next.at in
      let numbered : number ≡ next.number = behind number next.number digit at there in
      let same = same_preparation (with_text texts digit) rest out next.on.more later other end stop behind more (rw (← digit_is) at next.on.prepared) in
      (cc (same.0, next.on.is, numbered), same.1, same.2)
  same_preparation _ _ _ b _ other _ stop distinct (Prepared.no_name texts t ts place is has) second =
      let next = rw (refuses_name limit table texts t ts place is has) at (opened second) in
      (sym next.0, sym next.1, sym next.2)
  same_preparation _ _ _ b _ other _ stop distinct (Prepared.no_room texts t ts rest name is has lacks) second =
      let next = rw (refuses_room limit table texts t ts rest name is has lacks) at (opened second) in
      (sym next.0, sym next.1, sym next.2)

-- where no text has two numbers, a condition is prepared in one way
pub one_preparation : (limit : ℕ) (table : Table) (texts : List (List ℕ)) (line : List PpToken) → IsDistinct texts → HasOnePreparation limit table texts line
one_preparation limit table texts line distinct out more later other end stop first second = same_preparation limit table texts line out more later other end stop distinct first second
