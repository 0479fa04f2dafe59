-- what an `#include` becomes
use Rattle.std.proofs.Common.{◌≡◌, ℕ, ◌<◌, ◌≤◌, true, false, List, length, Option, Some, None, slice_get, nat_eq, refl, sym, ◌∙◌, ap, subst, arith}
use Rattle.std.specs.List.{list_any}
use Rattle.std.specs.declared.alloc.Global.{Global}
use Rattle.std.specs.declared.vec.Vec.{Vec}
use Rattle.std.proofs.lemmas.Option.{slice_get_within}
use Rattle.sb_base.specs.Found.{Found, Whole as Present}
use Rattle.sb_base.specs.Names.{with_text}
use Rattle.sb_base.specs.declared.refusals.Place.{Place}
use Rattle.sb_base.specs.declared.refusals.Stop.{Stop}
use Rattle.sb_base.specs.declared.refusals.Stop.TheVariants as stop
use Rattle.sb_lex.specs.Faults.{IsNoPieces}
use Rattle.sb_lex.specs.Lexing.{PiecesOf, End, Whole, Stopped}
use Rattle.sb_lex.specs.declared.piece.PpToken.{PpToken}
use Rattle.sb_directive.specs.declared.headers.Source.{Source as SourceText}
use Rattle.sb_directive.specs.Headers.{source_of, file_name}
use Rattle.sb_directive.specs.Sources.{header_seen, source_seen, source_by_text}
use Rattle.sb_directive.specs.Stopping.{IsStop, IsAmong}
use Rattle.sb_prep.specs.declared.including.Included.{Included}
use Rattle.sb_directive.specs.declared.seeking.SoughtHeader.{SoughtHeader}
use Rattle.sb_directive.specs.Seeking.{IsHeader}
use Rattle.sb_prep.specs.Reading.{IsOpen, IsShut, IsIncluded, IsBarred}
use Rattle.sb_prep.specs.Standing.{Standing, moved_to}
use Rattle.sb_prep.specs.Stopping.{IsFault, IsIn, AreIn, fault_of_stop}
use Rattle.sb_prep.specs.Unit.{Progress, with_file, with_names, Unnamed, Seeks, IsContent, IsSought, IsNew, Passed, Barred, Opened, Includes, deepest}
use Rattle.sb_prep.proofs.Held.{among_in, pieces_in, kept_with, kept_within}

pub shut_by_pieces : (depth file : ℕ) (old new : Standing) (found : Found) (header : Place) (bytes : List ℕ) (halt : Stop)
    → found ≡ Present bytes → depth < deepest → IsNoPieces file old.limit old.at.texts bytes new.at.texts halt → IsStop (IsShut depth old file found header new) halt
shut_by_pieces depth file old new found header bytes stop.Memory is deep none = tt
shut_by_pieces depth file old new found header bytes (stop.Refused r) is deep none = (
  subst (λ f. IsShut depth old file found header new r.number (record { file = f; line = r.place.line; col = r.place.col })) (sym none.2)
      (IsShut.not_pieces bytes none.0 r.number r.place.line r.place.col is deep none.1),
  none.3,
)

name_by_text : (name : List ℕ) (text : Option (Vec ℕ Global)) → file_name (source_by_text name text) ≡ name
name_by_text name None = refl
name_by_text name (Some text) = refl

name_seen : (source : SourceText) → file_name (source_seen source) ≡ source.name.items
name_seen source = name_by_text source.name.items source.text

-- the source of a header, which was given a number
pub record IsNumbered (s : Progress) (behind : List PpToken) (found : SoughtHeader) (source : SourceText) (number : ℕ) (now : Progress) : Type 0 where
  pub header : IsHeader s.texts s.table behind found
  pub source_is : source_seen source ≡ source_of (header_seen found.header)
  pub numbered : slice_get now.files number ≡ Some source.name.items
  pub now_is : now ≡ with_file s source.name.items

sought_by : (s : Progress) (behind : List PpToken) (found : SoughtHeader) (source : SourceText) (number : ℕ) (now : Progress)
    → IsNumbered s behind found source number now → IsSought s behind (source_seen source) number found.place
sought_by s behind found source number now given = record {
  header = header_seen found.header;
  sought = given.header.sought;
  source_is = sym given.source_is;
  numbered = rw name_seen (rw given.now_is at given.numbered);
}

now_by : (s : Progress) (behind : List PpToken) (found : SoughtHeader) (source : SourceText) (number : ℕ) (now : Progress)
    → IsNumbered s behind found source number now → with_file s (file_name (source_seen source)) ≡ now
now_by s behind found source number now given = rw name_seen (sym given.now_is)

pub passes : (held : Option (List ℕ → Option (List ℕ))) (limit depth : ℕ) (s : Progress) (behind : List PpToken) (found : SoughtHeader) (source : SourceText) (number : ℕ) (now : Progress)
    → IsNumbered s behind found source number now → list_any (nat_eq number) now.once ≡ true → Includes held limit depth behind s Passed now
passes held limit depth s behind found source number now given met =
    subst (λ p. Includes held limit depth behind s Passed p) (now_by s behind found source number now given)
    (Includes.met_before (source_seen source) number found.place (sought_by s behind found source number now given) (rw given.now_is at met))

new_by : (s : Progress) (behind : List PpToken) (found : SoughtHeader) (source : SourceText) (number : ℕ) (now : Progress)
    → IsNumbered s behind found source number now → list_any (nat_eq number) now.once ≡ false → IsNew s behind (source_seen source) number found.place
new_by s behind found source number now given new = record { sought = sought_by s behind found source number now given; counts = rw given.now_is at new }

-- the file of a source was read, or it was not, behind a table of files that gave it a number
module _ (held : Option (List ℕ → Option (List ℕ))) (depth : ℕ) (behind : List PpToken) (found : SoughtHeader) (source : SourceText) (number : ℕ) (content : Found) (first second third : Standing)
    (given : IsNumbered first.at behind found source number second.at) (limit_is : second.limit ≡ first.limit) (new : list_any (nat_eq number) second.at.once ≡ false)
    (had : IsContent held (source_seen source) content) (moved : third ≡ moved_to second (with_names second.at third.at.texts)) where
  is_new : IsNew first.at behind (source_seen source) number found.place
  is_new = new_by first.at behind found source number second.at given new

  files_are : third.at.files ≡ second.at.files
  files_are = ap (λ s. s.at.files) moved

  number_within : number < length third.at.files
  number_within = rw files_are (slice_get_within second.at.files number source.name.items given.numbered)

  within : length first.at.files ≤ length third.at.files
  within = rw (files_are, ap (λ p. p.files) given.now_is) (kept_within first.at.files (with_text first.at.files source.name.items) (kept_with first.at.files source.name.items))

  read_on : with_names (with_file first.at (file_name (source_seen source))) third.at.texts ≡ third.at
  read_on = ap (λ p. with_names p third.at.texts) (now_by first.at behind found source number second.at given) ∙ sym (ap (λ s. s.at) moved)

  stays : third ≡ second → with_file first.at (file_name (source_seen source)) ≡ third.at
  stays same = now_by first.at behind found source number second.at given ∙ sym (ap (λ s. s.at) same)

  read_by : (bytes : List ℕ) (ps : List PpToken) (end : End) → PiecesOf number second.limit second.at.texts bytes ps third.at.texts end → PiecesOf number first.limit first.at.texts bytes ps third.at.texts end
  read_by bytes ps end pieces = rw (limit_is, ap (λ p. p.texts) given.now_is) at pieces

  pub opens : (inner : Included) → IsOpen depth second number content third inner → IsIncluded held depth behind first third (Some inner)
  opens inner o = (
    subst (λ f. Includes held first.limit depth behind first.at (Opened f inner.pieces.items) third.at) (sym o.3)
        (subst (λ p. Includes held first.limit depth behind first.at (Opened number inner.pieces.items) p) read_on
        (Includes.opened (source_seen source) number found.place o.0 inner.pieces.items third.at.texts is_new (rw o.1 at had) o.2 (read_by o.0 inner.pieces.items Whole o.4))),
    record { deep = o.2; numbered = rw o.3 number_within; held = pieces_in (length third.at.files) number second.limit number_within o.4 },
  )

  module _ (in_files : AreIn (length first.at.files) behind) where
    place_in : IsIn (length third.at.files) found.place
    place_in = let here : found.place.file < length first.at.files = among_in (length first.at.files) behind found.place in_files given.header.among in let there = within in omega arith

    bars : (refusal : ℕ) (place : Place) → IsShut depth second number content found.place third refusal place → IsBarred held depth behind first third refusal place
    bars _ _ (IsShut.missing is same) =
        (subst (λ p. Includes held first.limit depth behind first.at (Barred 21 found.place) p) (stays same) (Includes.not_there (source_seen source) number found.place is_new (rw is at had)), place_in)
    bars _ _ (IsShut.too_big is same) =
        (subst (λ p. Includes held first.limit depth behind first.at (Barred 22 found.place) p) (stays same) (Includes.too_long (source_seen source) number found.place is_new (rw is at had)), place_in)
    bars _ _ (IsShut.too_deep bytes is deep same) =
        (subst (λ p. Includes held first.limit depth behind first.at (Barred 23 found.place) p) (stays same) (Includes.too_deep (source_seen source) number found.place bytes is_new (rw is at had) deep), place_in)
    bars _ _ (IsShut.not_pieces bytes ps refusal row col is deep pieces) = (
      subst (λ p. Includes held first.limit depth behind first.at (Barred refusal (record { file = number; line = row; col = col })) p) read_on
          (Includes.not_pieces (source_seen source) number found.place bytes ps third.at.texts refusal row col is_new (rw is at had) deep (read_by bytes ps (Stopped refusal row col) pieces)),
      number_within,
    )

    pub is_barred : (halt : Stop) → IsStop (IsShut depth second number content found.place third) halt → IsFault (IsBarred held depth behind first third) (fault_of_stop halt)
    is_barred stop.Memory told = tt
    is_barred (stop.Refused r) told = (bars r.number r.place told.0, told.1)

pub unnamed : (held : Option (List ℕ → Option (List ℕ))) (depth : ℕ) (behind : List PpToken) (s : Standing) (halt : Stop) → AreIn (length s.at.files) behind
    → IsStop (λ number place. Seeks s.at.texts s.at.table behind (Unnamed number place) × IsAmong behind place) halt → IsFault (IsBarred held depth behind s s) (fault_of_stop halt)
unnamed held depth behind s stop.Memory in_files told = tt
unnamed held depth behind s (stop.Refused r) in_files told =
    ((Includes.no_header r.number r.place told.0.0, among_in (length s.at.files) behind r.place in_files told.0.1), told.1)
