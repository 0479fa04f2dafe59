-- What the rest of a file gives goes behind what was found.
use Rattle.std.proofs.Common.{◌≡◌, ◌++◌, ◌∷◌, ◌⊎◌, ◌<◌, ◌≤◌, arith, inl, inr, [], ℕ, List, Bool, true, false, Some, None, Ok, Err, ap, sym, refl, suc, length, take, drop, slice_get, append-nil, append_assoc}
use Rattle.sb_base.specs.declared.interning.Name.{Name}
use Rattle.sb_base.specs.declared.refusals.Place.{Place}
use Rattle.sb_base.specs.declared.refusals.Stop.{Stop}
use Rattle.sb_base.specs.declared.refusals.Stop.TheVariants.{Refused, Memory}
use Rattle.sb_base.specs.declared.tokens.PpKind.{PpKind}
use Rattle.sb_lex.specs.declared.spot.Spot.{Spot}
use Rattle.sb_lex.specs.declared.item.Item.{Item}
use Rattle.sb_lex.specs.declared.item.Line.{Line}
use Rattle.sb_lex.specs.declared.item.Line.TheVariants.{Begin}
use Rattle.sb_lex.specs.declared.item.What.{What}
use Rattle.sb_lex.specs.declared.item.What.TheVariants.{Newline, Gap, Piece}
use Rattle.sb_lex.specs.declared.piece.PpToken.{PpToken}
use Rattle.sb_lex.specs.Splicing.{bytes_of}
use Rattle.sb_lex.specs.Items.{item_at, is_begin, line_after, NoneFits}
use Rattle.sb_lex.specs.Lexing.{End, HasSize, Takes, Lexes, most_pieces}
use Rattle.sb_lex.specs.Lexing.End.{Whole, Stopped}
use Rattle.sb_lex.specs.Lexing.Lexes.{ended, newline, gap, piece, unending, bad, many, full}
use Rattle.sb_lex.specs.Faults.{IsFault, IsNamed, IsRefusal}

counted : (ts : List PpToken) (t : PpToken) → length (ts ++ t ∷ []) ≡ suc (length ts)
counted [] t = refl
counted (u ∷ ts) t = ap suc (counted ts t)

-- one piece more is not too many
pub few_more : (ts now : List PpToken) (t : PpToken) (count : ℕ) → now ≡ ts ++ t ∷ [] → count ≡ length ts → count < most_pieces → length now ≤ most_pieces
few_more ts now t count is same few = omega (arith, ap length is, counted ts t, same, few)

module _ (file limit : ℕ) (before : List (List ℕ)) (all : List Spot) where
  pub record Goes (found : List PpToken) (line : Line) (spaced : Bool) (texts : List (List ℕ)) (rest : List Spot) : Type 0 where
    pub on : (ps : List PpToken) (later : List (List ℕ)) (end : End) → Lexes file limit line spaced (length found) texts rest ps later end → Lexes file limit Begin false 0 before all (found ++ ps) later end

  pub Goes-whole : (found : List PpToken) (line : Line) (spaced : Bool) (texts : List (List ℕ)) (rest : List Spot) → Goes found line spaced texts rest → None ≡ slice_get rest 0
      → Lexes file limit Begin false 0 before all found texts Whole
  Goes-whole found line spaced texts [] goes none = rw append-nil at (goes.on [] texts Whole (ended line spaced (length found) texts))
  Goes-whole found line spaced texts (x ∷ xs) goes none = cc

  -- a newline or a gap
  white : (what : What) → ((kind : PpKind) → what ≡ Piece kind → ⊥) → (what ≡ Newline) ⊎ (what ≡ Gap)
  white Newline other = inl refl
  white Gap other = inr refl
  white (Piece kind) other = absurd (other kind refl)

  pub Goes-space : (found : List PpToken) (line after : Line) (spaced : Bool) (texts : List (List ℕ)) (rest behind : List Spot) (x : Spot) (item : Item) (size : ℕ) → Goes found line spaced texts rest → Some x ≡ slice_get rest 0
      → item ≡ item_at line (bytes_of rest) → HasSize item rest size → behind ≡ drop size rest → ((kind : PpKind) → item.what ≡ Piece kind → ⊥)
      → (item.what ≡ Newline → after ≡ Begin) → ((item.what ≡ Newline → ⊥) → after ≡ line) → Goes found after true texts behind
  Goes-space found line after spaced texts [] behind x item size goes some is sized behind_is other begins stays = cc
  Goes-space found line after spaced texts (y ∷ ys) behind x item size goes some is sized behind_is other begins stays =
      let takes : Takes line (y ∷ ys) item size behind = record { here = sym is; sized = sized; behind_is = behind_is } in
      elim (white item.what other) [
        | inl n ↦ rw (begins n) record { on = λ ps later end lexes. goes.on ps later end (newline line spaced (length found) texts later y ys behind ps end item size takes n lexes) }
        | inr g ↦ rw (stays (λ n. cc)) record { on = λ ps later end lexes. goes.on ps later end (gap line spaced (length found) texts later y ys behind ps end item size takes g lexes) }
      ]

  pub Goes-piece : (found : List PpToken) (line : Line) (spaced : Bool) (texts later : List (List ℕ)) (rest behind : List Spot) (x : Spot) (item : Item) (size : ℕ) (kind : PpKind) (text : List ℕ) (name : Name) (place : Place)
      → Goes found line spaced texts rest → Some x ≡ slice_get rest 0 → item ≡ item_at line (bytes_of rest) → HasSize item rest size → behind ≡ drop size rest → item.what ≡ Piece kind
      → text ≡ take size (bytes_of rest) → IsNamed limit (length found) texts kind text place later (Ok name)
      → Goes (found ++ record { kind = kind; text = name; place = record { file = file; line = x.line; col = x.col }; first = is_begin line; spaced = spaced } ∷ []) (line_after line kind text) false later behind
  Goes-piece found line spaced texts later [] behind x item size kind text name place goes some is sized behind_is what text_is named = cc
  Goes-piece found line spaced texts later (y ∷ ys) behind x item size kind text name place goes some is sized behind_is what text_is named =
      let same : x ≡ y = cc in
      let token : PpToken = record { kind = kind; text = name; place = record { file = file; line = y.line; col = y.col }; first = is_begin line; spaced = spaced } in
      rw (same, named.4) record {
        on = λ ps after end lexes.
            rw append_assoc (goes.on (token ∷ ps) after end
            (piece line spaced (length found) texts after y ys behind ps end item size kind text name.0 (record { here = sym is; sized = sized; behind_is = behind_is }) what text_is named.0 named.1 named.2 (rw named.4 at named.3)
            (rw (counted found token) at lexes)));
      }

  pub Goes-unending : (found : List PpToken) (line : Line) (spaced : Bool) (texts : List (List ℕ)) (rest : List Spot) (x : Spot) (item : Item) → Goes found line spaced texts rest → Some x ≡ slice_get rest 0
      → item ≡ item_at line (bytes_of rest) → NoneFits item.scan (bytes_of (drop item.opening rest))
      → IsFault file limit before all texts (Refused (record { number = item.refusal; place = record { file = file; line = x.line; col = x.col }; feature = 0 }))
  Goes-unending found line spaced texts [] x item goes some is none = cc
  Goes-unending found line spaced texts (y ∷ ys) x item goes some is none =
      let same : x ≡ y = cc in
      rw same (_, goes.on [] texts _ (unending line spaced (length found) texts y ys item (sym is, none)), refl, refl)

  -- a refusal of a piece stands where it begins
  refused_at : (found : List PpToken) (line : Line) (spaced : Bool) (texts : List (List ℕ)) (y : Spot) (ys : List Spot) (item : Item) (size : ℕ) (kind : PpKind) (number : ℕ)
      → Takes line (y ∷ ys) item size (drop size (y ∷ ys)) → item.what ≡ Piece kind → IsRefusal limit (length found) texts kind (take size (bytes_of (y ∷ ys))) number
      → Lexes file limit line spaced (length found) texts (y ∷ ys) [] texts (Stopped number y.line y.col)
  refused_at found line spaced texts y ys item size kind number takes what (inl b) = rw b.0 (bad line spaced (length found) texts y ys _ item size kind takes what b.1)
  refused_at found line spaced texts y ys item size kind number takes what (inr (inl m)) = rw m.0 (many line spaced (length found) texts y ys _ item size kind takes what m.1 m.2)
  refused_at found line spaced texts y ys item size kind number takes what (inr (inr f)) = rw f.0 (full line spaced (length found) texts y ys _ item size kind takes what f.1 f.2 f.3)

  pub Goes-refused : (found : List PpToken) (line : Line) (spaced : Bool) (texts later : List (List ℕ)) (rest : List Spot) (x : Spot) (item : Item) (size : ℕ) (kind : PpKind) (text : List ℕ) (place : Place) (most count : ℕ) (stop : Stop)
      → Goes found line spaced texts rest → Some x ≡ slice_get rest 0 → item ≡ item_at line (bytes_of rest) → HasSize item rest size → item.what ≡ Piece kind → text ≡ take size (bytes_of rest)
      → most ≡ limit → count ≡ length found → place ≡ record { file = file; line = x.line; col = x.col } → IsNamed most count texts kind text place later (Err stop)
      → IsFault file limit before all later stop
  Goes-refused found line spaced texts later [] x item size kind text place most count stop goes some is sized what text_is is_most is_count is_place named = cc
  Goes-refused found line spaced texts later (y ∷ ys) x item size kind text place most count Memory goes some is sized what text_is is_most is_count is_place named = tt
  Goes-refused found line spaced texts later (y ∷ ys) x item size kind text place most count (Refused r) goes some is sized what text_is is_most is_count is_place named =
      let takes : Takes line (y ∷ ys) item size (drop size (y ∷ ys)) = record { here = sym is; sized = sized; behind_is = refl } in
      let same : x ≡ y = cc in
      rw (named.3, named.1, is_place, same) (_, goes.on [] texts _ (refused_at found line spaced texts y ys item size kind r.number takes what (rw (is_most, is_count, text_is) at named.0)), refl, named.2)
