-- The token that pieces begin with.
use Rattle.std.proofs.Common.{◌≡◌, ◌++◌, ◌∷◌, ◌<◌, ◌≤◌, [], ℕ, List, Bool, Some, true, false, inl, inr, arith, refl, take, drop, length, slice_get, length-drop, zero, suc, append-nil, append_assoc}
use Rattle.std.proofs.lemmas.List.{length-take, take-take}
use Rattle.std.proofs.lemmas.Option.{slice_get_within}
use Rattle.sb_base.specs.Names.{holds_text, with_text}
use Rattle.sb_base.specs.declared.refusals.Stop.{Stop}
use Rattle.sb_base.specs.declared.refusals.Stop.TheVariants as stop
use Rattle.sb_base.specs.declared.tokens.PpKind.TheVariants as kind
use Rattle.sb_base.specs.declared.tokens.Token.{Token}
use Rattle.sb_lex.specs.declared.piece.PpToken.{PpToken}
use Rattle.sb_lex.specs.Lexing.{HasRoom}
use Rattle.sb_directive.specs.Lines.{spelling}
use Rattle.sb_directive.specs.Ending.{Ending, Ended, Refused}
use Rattle.sb_prep.specs.Tokens.{is_text_kind, texts_in_front, HasValueOf, NameBytes, Converts, IsNoTokens}
use Rattle.sb_prep.specs.Tokens.Converts.{ended, token, no_value, literals, no_bytes, no_room}
use Rattle.sb_prep.specs.Converting.{IsBadLiteral, Begins}

-- a text has a number or there is room for it, unless it is new and the table full
pub room_for : (limit : ℕ) (texts : List (List ℕ)) (text : List ℕ) → ((holds_text texts text ≡ false) × (limit ≤ length texts) → ⊥) → HasRoom limit texts text
room_for limit texts text full = by_test (holds_text texts text) refl
  where
    by_test : (held : Bool) → holds_text texts text ≡ held → HasRoom limit texts text
    by_test true is = inl is
    by_test false is = inr (omega (arith, λ (h : limit ≤ length texts). full (is, h)))

pub no_room_for : (limit : ℕ) (texts : List (List ℕ)) (text : List ℕ) → (holds_text texts text ≡ false) × (limit ≤ length texts) → HasRoom limit texts text → ⊥
no_room_for limit texts text full room = elim room [ inl held ↦ absurd (cc) | inr below ↦ absurd (omega (arith, full.1)) ]

some_text : (u : PpToken) (ps : List PpToken) → is_text_kind u.kind ≡ true → 0 < texts_in_front (u ∷ ps)
some_text u ps text = rw text (omega arith)

module _ {A : Type 0} where
  in_front : (xs : List A) (n i : ℕ) (x : A) → slice_get (take n xs) i ≡ Some x → slice_get xs i ≡ Some x
  in_front xs zero i x at = absurd (cc)
  in_front [] (suc n) i x at = at
  in_front (y ∷ xs) (suc n) zero x at = at
  in_front (y ∷ xs) (suc n) (suc i) x at = in_front xs n i x at

module _ (limit : ℕ) (texts : List (List ℕ)) where
  pub Begins-plain : (t : PpToken) (behind : List PpToken) (value : ℕ) → is_text_kind t.kind ≡ false → HasValueOf t.kind (spelling texts t) value
      → Begins limit texts (t ∷ behind) texts (record { kind = t.kind; text = t.text; place = t.place; value = value }) behind
  Begins-plain t behind value plain has = record { on = λ ts last end more. token texts last t behind ts end value plain has more; shorter = omega arith }

  pub refused_value : (t : PpToken) (behind : List PpToken) → is_text_kind t.kind ≡ false → ((value : ℕ) → HasValueOf t.kind (spelling texts t) value → ⊥)
      → IsNoTokens limit texts (t ∷ behind) texts (stop.Refused (record { number = 4; place = t.place; feature = 0 }))
  refused_value t behind plain none = (([], no_value texts t behind plain none), refl)

  pub Begins-literals : (ps : List PpToken) (t : PpToken) (bytes : List ℕ) (number : ℕ) → slice_get ps 0 ≡ Some t → is_text_kind t.kind ≡ true → NameBytes texts (take (texts_in_front ps) ps) bytes
      → HasRoom limit texts bytes → slice_get (with_text texts bytes) number ≡ Some bytes
      → Begins limit texts ps (with_text texts bytes) (record { kind = kind.Text; text = record { 0 = number }; place = t.place; value = 0 }) (drop (texts_in_front ps) ps)
  Begins-literals [] t bytes number first is named room at = absurd (cc)
  Begins-literals (u ∷ ps) t bytes number first is named room at =
      let same : u ≡ t = cc in
      let text : is_text_kind u.kind ≡ true = cc in
      let placed : t.place ≡ u.place = cc in
      rw placed record {
        on = λ ts last end more. literals texts last u ps ts end bytes number text named room at more;
        shorter = omega (arith, length-drop (texts_in_front (u ∷ ps)) (u ∷ ps), some_text u ps text);
      }

  pub refused_room : (ps : List PpToken) (t : PpToken) (bytes : List ℕ) → slice_get ps 0 ≡ Some t → is_text_kind t.kind ≡ true → NameBytes texts (take (texts_in_front ps) ps) bytes
      → (HasRoom limit texts bytes → ⊥) → IsNoTokens limit texts ps texts (stop.Refused (record { number = 28; place = t.place; feature = 0 }))
  refused_room [] t bytes first is named full = absurd (cc)
  refused_room (u ∷ ps) t bytes first is named full =
      let same : u ≡ t = cc in
      let text : is_text_kind u.kind ≡ true = cc in
      let placed : t.place ≡ u.place = cc in
      rw placed (([], no_room texts u ps bytes text named full), refl)

  pub refused_literal : (ps : List PpToken) (t : PpToken) (why : Stop) → slice_get ps 0 ≡ Some t → is_text_kind t.kind ≡ true → IsBadLiteral texts (take (texts_in_front ps) ps) why
      → IsNoTokens limit texts ps texts why
  refused_literal ps t stop.Memory first is bad = tt
  refused_literal [] t (stop.Refused r) first is bad = absurd (cc)
  refused_literal (u ∷ ps) t (stop.Refused r) first is bad =
      let same : u ≡ t = cc in
      let text : is_text_kind u.kind ≡ true = cc in
      let size = texts_in_front (u ∷ ps) in
      let found = bad.0 in
      let within : found.good < size = omega (arith, slice_get_within (take size (u ∷ ps)) found.good found.bad found.there, length-take size (u ∷ ps)) in
      let below : found.good ≤ size = omega (arith, within) in
      let before = rw (take-take found.good size (u ∷ ps) below) at found.before in
      rw (bad.1, found.place_is) (([], no_bytes texts u found.bad ps found.bytes found.good text within before (in_front (u ∷ ps) size found.good found.bad found.there) found.nameless), bad.2)

-- the tokens of the rest go behind those that were found
module _ (limit : ℕ) (before : List (List ℕ)) (all : List PpToken) where
  pub record Goes (found : List Token) (texts : List (List ℕ)) (rest : List PpToken) : Type 0 where
    pub on : (ts : List Token) (last : List (List ℕ)) (end : Ending) → Converts limit texts rest ts last end → Converts limit before all (found ++ ts) last end

  pub Goes-first : (texts later : List (List ℕ)) (found : List Token) (rest behind : List PpToken) (t : Token) → Goes found texts rest → Begins limit texts rest later t behind → Goes (found ++ t ∷ []) later behind
  Goes-first texts later found rest behind t goes begins =
      record { on = λ ts last end more. rw (append_assoc found (t ∷ []) ts) (goes.on (t ∷ ts) last end (begins.on ts last end more)) }

  pub Goes-end : (texts : List (List ℕ)) (found : List Token) (rest : List PpToken) → Goes found texts rest → rest ≡ [] → Converts limit before all found texts Ended
  Goes-end texts found rest goes none =
      let last : Converts limit texts rest [] texts Ended = rw none (ended texts) in
      rw append-nil at (goes.on [] texts Ended last)

  pub Goes-refused : (texts later : List (List ℕ)) (found : List Token) (rest : List PpToken) (why : Stop) → Goes found texts rest → IsNoTokens limit texts rest later why → IsNoTokens limit before all later why
  Goes-refused texts later found rest (stop.Refused r) goes none = ((found ++ none.0.0, goes.on none.0.0 later (Refused r.number r.place) none.0.1), none.1)
  Goes-refused texts later found rest stop.Memory goes none = tt
