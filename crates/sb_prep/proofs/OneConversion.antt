-- Pieces have one conversion: one list of tokens, one table of names behind it, one ending.
use Rattle.std.proofs.Common.{◌≡◌, ◌<◌, ◌++◌, ◌∷◌, ◌∙◌, ◌⊎◌, inl, inr, [], ℕ, List, Some, true, false, arith, ap, sym, refl, subst, zero, suc, take, drop, slice_get}
use Rattle.std.proofs.lemmas.Option.{some_pair_parts}
use Rattle.std.proofs.lemmas.List.{same_from_push}
use Rattle.sb_base.specs.Names.{with_text, IsDistinct}
use Rattle.sb_base.specs.declared.refusals.Place.{Place}
use Rattle.sb_base.specs.declared.tokens.PpKind.{PpKind}
use Rattle.sb_base.specs.declared.tokens.PpKind.TheVariants as kind
use Rattle.sb_base.specs.declared.tokens.Token.{Token}
use Rattle.sb_lex.specs.declared.piece.PpToken.{PpToken}
use Rattle.sb_lex.specs.Lexing.{HasRoom}
use Rattle.sb_lex.specs.Values.{IsCharacter, IsText}
use Rattle.sb_lex.proofs.Literals.{one_text}
use Rattle.sb_directive.proofs.DistinctTexts.{distinct_with}
use Rattle.sb_directive.specs.Lines.{spelling}
use Rattle.sb_directive.specs.Ending.{Ending, Ended, Refused}
use Rattle.sb_prep.specs.Tokens.{is_text_kind, texts_in_front, HasValueOf, NameBytes, Converts, HasOneConversion}
use Rattle.sb_prep.specs.Tokens.NameBytes.{none, one}
use Rattle.sb_prep.specs.Tokens.Converts.{ended, token, no_value, literals, no_bytes, no_room}

-- ---- values and bytes

one_character : (text : List ℕ) (a b : ℕ) → IsCharacter text a → IsCharacter text b → a ≡ b
one_character text a b first second =
    let whole : first.body ++ 39 ∷ [] ≡ second.body ++ 39 ∷ [] = cc (first.quoted, second.quoted) in
    let body = (same_from_push first.body second.body 39 39 whole).0 in
    let byte = (some_pair_parts first.byte second.byte [] [] (sym (rw body at first.alone) ∙ second.alone)).0 in
    cc (first.converted, second.converted, byte)

one_value : (k : PpKind) (text : List ℕ) (a b : ℕ) → HasValueOf k text a → HasValueOf k text b → a ≡ b
one_value kind.Number text a b first second = cc
one_value kind.Char text a b first second = one_character text a b first second
one_value kind.Word text a b first second = cc
one_value kind.Text text a b first second = cc
one_value kind.Header text a b first second = cc
one_value kind.Punct text a b first second = cc

module _ (texts : List (List ℕ)) where
  record Parts (t : PpToken) (ts : List PpToken) (bytes : List ℕ) : Type 0 where
    here : List ℕ
    more : List ℕ
    is : bytes ≡ here ++ more
    named : IsText (spelling texts t) here
    others : NameBytes texts ts more

  parts : {t : PpToken} {ts : List PpToken} {bytes : List ℕ} → NameBytes texts (t ∷ ts) bytes → Parts t ts bytes
  parts (one t ts bytes more named others) = record { here = bytes; more = more; is = refl; named = named; others = others }

  nothing : {bytes : List ℕ} → NameBytes texts [] bytes → bytes ≡ []
  nothing none = refl

  one_naming : (ts : List PpToken) (a b : List ℕ) → NameBytes texts ts a → NameBytes texts ts b → a ≡ b
  one_naming [] a b first second = nothing first ∙ sym (nothing second)
  one_naming (t ∷ ts) a b first second =
      let x = parts first in
      let y = parts second in
      let here = one_text (spelling texts t) x.here y.here x.named y.named in
      let more = one_naming ts x.more y.more x.others y.others in
      cc (x.is, y.is, here, more)

  -- a literal of those that name bytes names some
  names_some : (ts : List PpToken) (n good : ℕ) (u : PpToken) (bytes : List ℕ) → good < n → NameBytes texts (take n ts) bytes → slice_get ts good ≡ Some u → (more : List ℕ) × IsText (spelling texts u) more
  names_some [] n good u bytes below named at = absurd (cc)
  names_some (t ∷ ts) zero good u bytes below named at = absurd (omega arith)
  names_some (t ∷ ts) (suc n) zero u bytes below named at =
      let same : t ≡ u = cc in
      let front = parts named in
      (front.here, subst (λ (x : PpToken). IsText (spelling texts x) front.here) same front.named)
  names_some (t ∷ ts) (suc n) (suc good) u bytes below named at = names_some ts n good u (parts named).more (omega arith) (parts named).others at

-- ---- the front of the pieces

data Step : Type 0 where
  Plain : ℕ → Step
  Literals : List ℕ → Step
  Refusal : ℕ → Place → Step

module _ (limit : ℕ) (texts : List (List ℕ)) (t : PpToken) (ts : List PpToken) where
  record Valueless (number : ℕ) (place : Place) : Type 0 where
    plain : is_text_kind t.kind ≡ false
    lacks : (value : ℕ) → HasValueOf t.kind (spelling texts t) value → ⊥
    number_is : number ≡ 4
    place_is : place ≡ t.place

  record Nameless (number : ℕ) (place : Place) : Type 0 where
    literal : is_text_kind t.kind ≡ true
    good : ℕ
    bytes : List ℕ
    bad : PpToken
    within : good < texts_in_front (t ∷ ts)
    before : NameBytes texts (take good (t ∷ ts)) bytes
    there : slice_get (t ∷ ts) good ≡ Some bad
    lacks : (more : List ℕ) → IsText (spelling texts bad) more → ⊥
    number_is : number ≡ 4
    place_is : place ≡ bad.place

  record Named (bytes : List ℕ) : Type 0 where
    literal : is_text_kind t.kind ≡ true
    all : NameBytes texts (take (texts_in_front (t ∷ ts)) (t ∷ ts)) bytes

  record Full (number : ℕ) (place : Place) : Type 0 where
    bytes : List ℕ
    named : Named bytes
    lacks : HasRoom limit texts bytes → ⊥
    number_is : number ≡ 28
    place_is : place ≡ t.place

  abbrev IsStep : Step → Type 0
  IsStep (Plain value) = (is_text_kind t.kind ≡ false) × HasValueOf t.kind (spelling texts t) value
  IsStep (Literals bytes) = Named bytes × HasRoom limit texts bytes
  IsStep (Refusal number place) = Valueless number place ⊎ Nameless number place ⊎ Full number place

  named_nameless : (bytes : List ℕ) (number : ℕ) (place : Place) → Named bytes → Nameless number place → ⊥
  named_nameless bytes number place named bad = let some = names_some texts (t ∷ ts) (texts_in_front (t ∷ ts)) bad.good bad.bad bytes bad.within named.all bad.there in bad.lacks some.0 some.1

  named_full : (bytes : List ℕ) (number : ℕ) (place : Place) → Named bytes → HasRoom limit texts bytes → Full number place → ⊥
  named_full bytes number place named room full =
      let same = one_naming texts (take (texts_in_front (t ∷ ts)) (t ∷ ts)) bytes full.bytes named.all full.named.all in
      full.lacks (rw same at room)

  not_later : (number other : ℕ) (place at : Place) (a : Nameless number place) (b : Nameless other at) → a.good < b.good → ⊥
  not_later number other place at a b less = let some = names_some texts (t ∷ ts) b.good a.good a.bad b.bytes less b.before a.there in a.lacks some.0 some.1

  one_nameless : (number other : ℕ) (place at : Place) → Nameless number place → Nameless other at → Refusal number place ≡ Refusal other at
  one_nameless number other place at a b =
      let same : a.good ≡ b.good = omega (arith, not_later number other place at a b, not_later other number at place b a) in
      let bad : a.bad ≡ b.bad = cc (same, a.there, b.there) in
      cc (bad, a.number_is, b.number_is, a.place_is, b.place_is)

  one_refusal : (number other : ℕ) (place at : Place) → IsStep (Refusal number place) → IsStep (Refusal other at) → Refusal number place ≡ Refusal other at
  one_refusal number other place at (inl a) (inl b) = cc (a.number_is, b.number_is, a.place_is, b.place_is)
  one_refusal number other place at (inl a) (inr (inl b)) = absurd (cc (a.plain, b.literal))
  one_refusal number other place at (inl a) (inr (inr b)) = absurd (cc (a.plain, b.named.literal))
  one_refusal number other place at (inr (inl a)) (inl b) = absurd (cc (a.literal, b.plain))
  one_refusal number other place at (inr (inl a)) (inr (inl b)) = one_nameless number other place at a b
  one_refusal number other place at (inr (inl a)) (inr (inr b)) = absurd (named_nameless b.bytes number place b.named a)
  one_refusal number other place at (inr (inr a)) (inl b) = absurd (cc (a.named.literal, b.plain))
  one_refusal number other place at (inr (inr a)) (inr (inl b)) = absurd (named_nameless a.bytes other at a.named b)
  one_refusal number other place at (inr (inr a)) (inr (inr b)) = cc (a.number_is, b.number_is, a.place_is, b.place_is)

  plain_refused : (value number : ℕ) (place : Place) → IsStep (Plain value) → IsStep (Refusal number place) → ⊥
  plain_refused value number place a (inl b) = b.lacks value a.1
  plain_refused value number place a (inr (inl b)) = cc (a.0, b.literal)
  plain_refused value number place a (inr (inr b)) = cc (a.0, b.named.literal)

  literals_refused : (bytes : List ℕ) (number : ℕ) (place : Place) → IsStep (Literals bytes) → IsStep (Refusal number place) → ⊥
  literals_refused bytes number place a (inl b) = cc (a.0.literal, b.plain)
  literals_refused bytes number place a (inr (inl b)) = named_nameless bytes number place a.0 b
  literals_refused bytes number place a (inr (inr b)) = named_full bytes number place a.0 a.1 b

  one_step : (step other : Step) → IsStep step → IsStep other → step ≡ other
  one_step (Plain a) (Plain b) first second = ap Plain (one_value t.kind (spelling texts t) a b first.1 second.1)
  one_step (Plain a) (Literals b) first second = absurd (cc (first.0, second.0.literal))
  one_step (Plain a) (Refusal number place) first second = absurd (plain_refused a number place first second)
  one_step (Literals a) (Plain b) first second = absurd (cc (first.0.literal, second.0))
  one_step (Literals a) (Literals b) first second = ap Literals (one_naming texts (take (texts_in_front (t ∷ ts)) (t ∷ ts)) a b first.0.all second.0.all)
  one_step (Literals a) (Refusal number place) first second = absurd (literals_refused a number place first second)
  one_step (Refusal number place) (Plain b) first second = absurd (plain_refused b number place second first)
  one_step (Refusal number place) (Literals b) first second = absurd (literals_refused b number place second first)
  one_step (Refusal number place) (Refusal other at) first second = one_refusal number other place at first second

-- ---- what a conversion says of the front and of the rest

module _ (limit : ℕ) (texts : List (List ℕ)) (t : PpToken) (ts : List PpToken) (out : List Token) (later : List (List ℕ)) (end : Ending) where
  record Goes_on (token : Token) (behind : List (List ℕ)) (rest : List PpToken) : Type 0 where
    more : List Token
    is : out ≡ token ∷ more
    converts : Converts limit behind rest more later end

  abbrev Behind : Step → Type 0
  Behind (Plain value) = Goes_on (record { kind = t.kind; text = t.text; place = t.place; value = value }) texts ts
  Behind (Literals bytes) =
      (number : ℕ) × (slice_get (with_text texts bytes) number ≡ Some bytes)
      × Goes_on (record { kind = kind.Text; text = record { 0 = number }; place = t.place; value = 0 }) (with_text texts bytes) (drop (texts_in_front (t ∷ ts)) (t ∷ ts))
  Behind (Refusal number place) = (out ≡ []) × (later ≡ texts) × (end ≡ Refused number place)

  record Opened : Type 0 where
    step : Step
    is : IsStep limit texts t ts step
    behind : Behind step

module _ (limit : ℕ) where
  opened : {texts : List (List ℕ)} {t : PpToken} {ts : List PpToken} {out : List Token} {later : List (List ℕ)} {end : Ending} → Converts limit texts (t ∷ ts) out later end → Opened limit texts t ts out later end
  opened (token texts later t ts more end value plain has rest) = record { step = Plain value; is = (plain, has); behind = record { more = more; is = refl; converts = rest } }
  opened (no_value texts t ts plain lacks) = record { step = Refusal 4 t.place; is = inl record { plain = plain; lacks = lacks; number_is = refl; place_is = refl }; behind = (refl, refl, refl) }
  opened (literals texts later t ts more end bytes number literal all room at rest) =
      record { step = Literals bytes; is = (record { literal = literal; all = all }, room); behind = (number, at, record { more = more; is = refl; converts = rest }) }
  opened (no_bytes texts t u ts bytes good literal within before there lacks) =
      record {
        step = Refusal 4 u.place;
        is = inr (inl record { literal = literal; good = good; bytes = bytes; bad = u; within = within; before = before; there = there; lacks = lacks; number_is = refl; place_is = refl });
        behind = (refl, refl, refl);
      }
  opened (no_room texts t ts bytes literal all lacks) =
      record {
        step = Refusal 28 t.place;
        is = inr (inr record { bytes = bytes; named = record { literal = literal; all = all }; lacks = lacks; number_is = refl; place_is = refl });
        behind = (refl, refl, refl);
      }

  at_end : {texts : List (List ℕ)} {out : List Token} {later : List (List ℕ)} {end : Ending} → Converts limit texts [] out later end → (out ≡ []) × (later ≡ texts) × (end ≡ Ended)
  at_end (ended texts) = (refl, refl, refl)

  behind_step : {texts : List (List ℕ)} {t : PpToken} {ts : List PpToken} {out : List Token} {later : List (List ℕ)} {end : Ending} (step : Step) → IsStep limit texts t ts step → Converts limit texts (t ∷ ts) out later end → Behind limit texts t ts out later end step
  behind_step {texts} {t} {ts} {out} {later} {end} step is converts =
      let other = opened converts in
      let same = one_step limit texts t ts other.step step other.is is in
      rw same at other.behind

-- ---- the law

same_conversion : (limit : ℕ) (texts : List (List ℕ)) (ps : List PpToken) (a b : List Token) (later other : List (List ℕ)) (end stop : Ending) → IsDistinct texts
    → Converts limit texts ps a later end → Converts limit texts ps b other stop → (a ≡ b) × (later ≡ other) × (end ≡ stop)
same_conversion limit _ _ _ b _ other _ stop distinct (ended texts) second =
    let last = at_end limit second in
    (sym last.0, sym last.1, sym last.2)
same_conversion limit _ _ _ b _ other _ stop distinct (token texts later t ts more end value plain has rest) second =
    let next = behind_step limit (Plain value) (plain, has) second in
    let same = same_conversion limit texts ts more next.more later other end stop distinct rest next.converts in
    (cc (same.0, next.is), same.1, same.2)
same_conversion limit _ _ _ b _ other _ stop distinct (no_value texts t ts plain lacks) second =
    let next = behind_step limit (Refusal 4 t.place) (inl record { plain = plain; lacks = lacks; number_is = refl; place_is = refl }) second in
    (sym next.0, sym next.1, sym next.2)
same_conversion limit _ _ _ b _ other _ stop distinct (literals texts later t ts more end bytes number literal all room at rest) second =
    let next = behind_step limit (Literals bytes) (record { literal = literal; all = all }, room) second in
    let behind = distinct_with texts bytes distinct in
    let numbered : number ≡ next.0 = behind number next.0 bytes at next.1 in
    let same = same_conversion limit (with_text texts bytes) (drop (texts_in_front (t ∷ ts)) (t ∷ ts)) more next.2.more later other end stop behind rest next.2.converts in
    (cc (same.0, next.2.is, numbered), same.1, same.2)
same_conversion limit _ _ _ b _ other _ stop distinct (no_bytes texts t u ts bytes good literal within before there lacks) second =
    let next = behind_step limit (Refusal 4 u.place) (inr (inl record { literal = literal; good = good; bytes = bytes; bad = u; within = within; before = before; there = there; lacks = lacks; number_is = refl; place_is = refl })) second in
    (sym next.0, sym next.1, sym next.2)
same_conversion limit _ _ _ b _ other _ stop distinct (no_room texts t ts bytes literal all lacks) second =
    let next = behind_step limit (Refusal 28 t.place) (inr (inr record { bytes = bytes; named = record { literal = literal; all = all }; lacks = lacks; number_is = refl; place_is = refl })) second in
    (sym next.0, sym next.1, sym next.2)

-- where no text has two numbers, pieces have one conversion
pub one_conversion : (limit : ℕ) (texts : List (List ℕ)) (ps : List PpToken) → IsDistinct texts → HasOneConversion limit texts ps
one_conversion limit texts ps distinct ts us later other end stop first second = same_conversion limit texts ps ts us later other end stop distinct first second
