-- places in files that have a number, and tables that keep their texts
use Rattle.std.proofs.Common.{ℕ, ◌<◌, ◌≤◌, Bool, true, false, List, [], ◌∷◌, ◌++◌, length, take, sym, ◌∙◌, ap, subst, arith, if◌then◌else◌, drop}
use Rattle.std.proofs.Math.Seq.{take-append_seam, take-length}
use Rattle.std.proofs.lemmas.List.{length-take, take-take}
use Rattle.std.proofs.lemmas.List.Elements.{All-nil, All-cons, All-take, All-drop, All-weaker, All-contains}
use Rattle.sb_base.specs.Names.{with_text, holds_text}
use Rattle.sb_base.specs.declared.refusals.Place.{Place}
use Rattle.sb_lex.specs.declared.piece.PpToken.{PpToken}
use Rattle.sb_lex.specs.declared.spot.Spot.{Spot}
use Rattle.sb_lex.specs.declared.item.Line.{Line}
use Rattle.sb_lex.specs.Lexing.{Lexes, End}
use Rattle.sb_directive.specs.Stopping.{IsAmong}
use Rattle.sb_prep.specs.Stopping.{IsIn, AreIn, IsKept}

abbrev pub IsPieceIn : ℕ → PpToken → Type 0
IsPieceIn count t = t.place.file < count

pub none_in : (count : ℕ) → AreIn count []
none_in count = record { all = All-nil (IsPieceIn count) }

pub more_in : (count : ℕ) (t : PpToken) (ts : List PpToken) → t.place.file < count → AreIn count ts → AreIn count (t ∷ ts)
more_in count t ts here rest = record { all = All-cons (IsPieceIn count) t ts here rest.all }

pub take_in : (count n : ℕ) (ts : List PpToken) → AreIn count ts → AreIn count (take n ts)
take_in count n ts held = record { all = All-take (IsPieceIn count) n ts held.all }

pub drop_in : (count n : ℕ) (ts : List PpToken) → AreIn count ts → AreIn count (drop n ts)
drop_in count n ts held = record { all = All-drop (IsPieceIn count) n ts held.all }

pub wider_in : (count more : ℕ) (ts : List PpToken) → count ≤ more → AreIn count ts → AreIn more ts
wider_in count more ts le held = record { all = All-weaker (IsPieceIn count) (IsPieceIn more) (λ t h. omega arith) ts held.all }

pub among_in : (count : ℕ) (ts : List PpToken) (place : Place) → AreIn count ts → IsAmong ts place → IsIn count place
among_in count ts place held among =
    subst (λ p. p.file < count) among.here (All-contains (IsPieceIn count) ts among.piece held.all among.contained)

-- the pieces of a file are in it
pub pieces_in : (count file limit : ℕ) {line : Line} {spaced : Bool} {before : ℕ} {texts later : List (List ℕ)} {xs : List Spot} {ps : List PpToken} {end : End}
    → file < count → Lexes file limit line spaced before texts xs ps later end → AreIn count ps
pieces_in count file limit lt (Lexes.ended line spaced n texts) = none_in count
pieces_in count file limit lt (Lexes.newline line spaced n texts later x xs rest ps end item size takes what more) = pieces_in count file limit lt more
pieces_in count file limit lt (Lexes.gap line spaced n texts later x xs rest ps end item size takes what more) = pieces_in count file limit lt more
pieces_in count file limit lt (Lexes.piece line spaced n texts later x xs rest ps end item size kind text number takes what text_is value some room numbered more) =
    more_in count _ ps lt (pieces_in count file limit lt more)
pieces_in count file limit lt _ = none_in count

pub kept_same : (texts : List (List ℕ)) → IsKept texts texts
kept_same texts = record { kept = take-length texts }

kept_by : (texts : List (List ℕ)) (text : List ℕ) (held : Bool) → IsKept texts (if held then texts else (texts ++ (text ∷ [])))
kept_by texts text true = kept_same texts
kept_by texts text false = record { kept = take-append_seam texts (text ∷ []) }

pub kept_with : (texts : List (List ℕ)) (text : List ℕ) → IsKept texts (with_text texts text)
kept_with texts text = kept_by texts text (holds_text texts text)

pub kept_within : (old new : List (List ℕ)) → IsKept old new → length old ≤ length new
kept_within old new kept = omega (arith, ap length kept.kept, length-take (length old) new)

pub kept_on : (old middle new : List (List ℕ)) → IsKept old middle → IsKept middle new → IsKept old new
kept_on old middle new first second = record { kept = sym (take-take (length old) (length middle) new (kept_within old middle first)) ∙ ap (take (length old)) second.kept ∙ first.kept }
