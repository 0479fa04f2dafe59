-- What a unit adds to its tables: what had a number keeps it, no text gets two, and each file that is met takes a piece that is read.
use Rattle.std.proofs.Common.{◌<◌, ◌≤◌, ◌+◌, ℕ, Bool, true, false, List, [], ◌∷◌, ◌++◌, Option, Result, Ok, Err, length, arith, if◌then◌else◌}
use Rattle.std.proofs.lemmas.List.{length-append}
use Rattle.std.specs.Prelude.{IfOk}
use Rattle.std.specs.declared.alloc.Global.{Global}
use Rattle.std.specs.declared.vec.Vec.{Vec}
use Rattle.sb_base.specs.Names.{IsDistinct, holds_text, with_text}
use Rattle.sb_base.specs.declared.refusals.Place.{Place}
use Rattle.sb_base.specs.declared.tokens.Token.{Token}
use Rattle.sb_lex.specs.Lexing.{End, Lexes}
use Rattle.sb_lex.specs.declared.item.Line.{Line}
use Rattle.sb_lex.specs.declared.piece.PpToken.{PpToken}
use Rattle.sb_lex.specs.declared.spot.Spot.{Spot}
use Rattle.sb_directive.specs.declared.directive.Branch.{Branch}
use Rattle.sb_directive.specs.Conditions.{HasTruth}
use Rattle.sb_directive.specs.Defined.{Prepared}
use Rattle.sb_directive.specs.Ending.{Ending}
use Rattle.sb_directive.specs.Headers.{file_name}
use Rattle.sb_directive.specs.Rules.{Table}
use Rattle.sb_directive.proofs.DistinctTexts.{distinct_with, truth_kept}
use Rattle.sb_prep.specs.declared.fault.UnitFault.{UnitFault}
use Rattle.sb_prep.specs.declared.fault.UnitFault.TheVariants as fault
use Rattle.sb_prep.specs.Outcomes.{IfEnded}
use Rattle.sb_prep.specs.Reading.{IsUnitOf}
use Rattle.sb_prep.specs.Stopping.{IsKept}
use Rattle.sb_prep.specs.Tokens.{Converts}
use Rattle.sb_prep.specs.Unit.{Progress, After, GoesOn, Enters, Stops, Carries, Inclusion, Includes, Part, Leaves, IsUnit, most_read, with_read, with_names, with_file}
use Rattle.sb_prep.proofs.DistinctTexts.{reading_kept, conversion_kept}
use Rattle.sb_prep.proofs.Held.{kept_same, kept_with, kept_on}

-- ---- texts that had a number keep it

module _ (file limit : ℕ) where
  reading_goes : {line : Line} {spaced : Bool} {count : ℕ} {texts later : List (List ℕ)} {xs : List Spot} {ps : List PpToken} {end : End}
      → Lexes file limit line spaced count texts xs ps later end → IsKept texts later
  reading_goes (Lexes.ended line spaced count texts) = kept_same texts
  reading_goes (Lexes.newline line spaced count texts later x xs rest ps end item size takes what lexes) = reading_goes lexes
  reading_goes (Lexes.gap line spaced count texts later x xs rest ps end item size takes what lexes) = reading_goes lexes
  reading_goes (Lexes.piece line spaced count texts later x xs rest ps end item size kind text number takes what is valued few room got lexes) =
      kept_on texts (with_text texts text) later (kept_with texts text) (reading_goes lexes)
  reading_goes (Lexes.unending line spaced count texts x xs item never) = kept_same texts
  reading_goes (Lexes.bad line spaced count texts x xs rest item size kind takes what none) = kept_same texts
  reading_goes (Lexes.many line spaced count texts x xs rest item size kind takes what valued most) = kept_same texts
  reading_goes (Lexes.full line spaced count texts x xs rest item size kind takes what valued few none) = kept_same texts

module _ (limit : ℕ) where
  conversion_goes : {texts later : List (List ℕ)} {ps : List PpToken} {ts : List Token} {end : Ending} → Converts limit texts ps ts later end → IsKept texts later
  conversion_goes (Converts.ended texts) = kept_same texts
  conversion_goes (Converts.token texts later t ts more end value plain has rest) = conversion_goes rest
  conversion_goes (Converts.no_value texts t ts plain lacks) = kept_same texts
  conversion_goes (Converts.literals texts later t ts more end bytes number literal all room at rest) = kept_on texts (with_text texts bytes) later (kept_with texts bytes) (conversion_goes rest)
  conversion_goes (Converts.no_bytes texts t u ts bytes good literal within before there lacks) = kept_same texts
  conversion_goes (Converts.no_room texts t ts bytes literal all lacks) = kept_same texts

module _ (limit : ℕ) (table : Table) where
  prepared_goes : {texts later : List (List ℕ)} {line out : List PpToken} {end : Ending} → Prepared limit table texts line out later end → IsKept texts later
  prepared_goes (Prepared.ended texts) = kept_same texts
  prepared_goes (Prepared.other texts later t ts out end plain rest) = prepared_goes rest
  prepared_goes (Prepared.replaced texts later t ts rest out end name number digit is has digit_is some at more) =
      kept_on texts (with_text texts digit) later (kept_with texts digit) (prepared_goes more)
  prepared_goes (Prepared.no_name texts t ts place is has) = kept_same texts
  prepared_goes (Prepared.no_room texts t ts rest name is has lacks) = kept_same texts

  truth_goes : (texts later : List (List ℕ)) (at : Place) (line : List PpToken) (truth : Bool) → HasTruth limit texts table at line truth later → IsKept texts later
  truth_goes texts later at line truth (HasTruth.holds prepared out _ _ made expansion holds) = prepared_goes made

-- ---- progress

-- progress behind other progress
record IsLater (s now : Progress) : Type 0 where
  kept : IsKept s.texts now.texts
  distinct : IsDistinct s.texts → IsDistinct now.texts
  distinct_files : IsDistinct s.files → IsDistinct now.files
  few : length now.files + s.read ≤ length s.files + now.read
  within : s.read ≤ most_read → now.read ≤ most_read

later_same : (s : Progress) → IsLater s s
later_same s = record { kept = kept_same s.texts; distinct = λ d. d; distinct_files = λ d. d; few = omega arith; within = λ h. h }

later_on : (s middle now : Progress) → IsLater s middle → IsLater middle now → IsLater s now
later_on s middle now first second =
    record {
      kept = kept_on s.texts middle.texts now.texts first.kept second.kept;
      distinct = λ d. second.distinct (first.distinct d);
      distinct_files = λ d. second.distinct_files (first.distinct_files d);
      few = omega (arith, first.few, second.few);
      within = λ h. second.within (first.within h);
    }

-- some pieces more were read, and nothing else
later_read : (s : Progress) (size : ℕ) → s.read + size ≤ most_read → IsLater s (with_read s size)
later_read s size room = record { kept = kept_same s.texts; distinct = λ d. d; distinct_files = λ d. d; few = omega arith; within = λ h. room }

longer_by : (texts : List (List ℕ)) (text : List ℕ) (held : Bool) → length (if held then texts else (texts ++ (text ∷ []))) ≤ length texts + 1
longer_by texts text true = omega arith
longer_by texts text false = omega (arith, length-append texts (text ∷ []))

longer_with : (texts : List (List ℕ)) (text : List ℕ) → length (with_text texts text) ≤ length texts + 1
longer_with texts text = longer_by texts text (holds_text texts text)

-- the same, and a file more is met
later_met : (s : Progress) (size : ℕ) (name : List ℕ) → 0 < size → s.read + size ≤ most_read → IsLater s (with_file (with_read s size) name)
later_met s size name some room =
    record {
      kept = kept_same s.texts;
      distinct = λ d. d;
      distinct_files = λ d. distinct_with s.files name d;
      few = omega (arith, some, longer_with s.files name);
      within = λ h. room;
    }

later_named : (s : Progress) (texts : List (List ℕ)) → IsKept s.texts texts → (IsDistinct s.texts → IsDistinct texts) → IsLater s (with_names s texts)
later_named s texts kept distinct = record { kept = kept; distinct = distinct; distinct_files = λ d. d; few = omega arith; within = λ h. h }

module _ (limit : ℕ) (s : Progress) where
  carried : {file : ℕ} {line : List PpToken} {bs after : List Branch} {now : Progress} → Carries limit file line bs s after now → IsLater s now
  carried (Carries.branches after is) = later_same s
  carried (Carries.condition after holds texts is truth) = later_named s texts (truth_goes limit s.table s.texts texts _ _ holds truth) (λ d. truth_kept limit s.table s.texts texts _ _ holds d truth)
  carried (Carries.defines table is defines) = record { kept = kept_same s.texts; distinct = λ d. d; distinct_files = λ d. d; few = omega arith; within = λ h. h }
  carried (Carries.undefines name is) = record { kept = kept_same s.texts; distinct = λ d. d; distinct_files = λ d. d; few = omega arith; within = λ h. h }
  carried (Carries.once is) = record { kept = kept_same s.texts; distinct = λ d. d; distinct_files = λ d. d; few = omega arith; within = λ h. h }

module _ (held : Option (List ℕ → Option (List ℕ))) (limit depth : ℕ) (s : Progress) (size : ℕ) (some : 0 < size) (room : s.read + size ≤ most_read) where
  named_met : (name : List ℕ) (number : ℕ) (bytes : List ℕ) (texts : List (List ℕ)) {line : Line} {spaced : Bool} {count : ℕ} {xs : List Spot} {inner : List PpToken} {end : End}
      → Lexes number limit line spaced count s.texts xs inner texts end → IsLater s (with_names (with_file (with_read s size) name) texts)
  named_met name number bytes texts pieces =
      later_on s (with_file (with_read s size) name) (with_names (with_file (with_read s size) name) texts) (later_met s size name some room)
      (later_named (with_file (with_read s size) name) texts (reading_goes number limit pieces) (λ d. reading_kept number limit d pieces))

  included : {behind : List PpToken} {inclusion : Inclusion} {now : Progress} → Includes held limit depth behind (with_read s size) inclusion now → IsLater s now
  included (Includes.no_header number place seeks) = later_read s size room
  included (Includes.met_before source number place sought once) = later_met s size (file_name source) some room
  included (Includes.not_there source number place new content) = later_met s size (file_name source) some room
  included (Includes.too_long source number place new content) = later_met s size (file_name source) some room
  included (Includes.too_deep source number place bytes new content deep) = later_met s size (file_name source) some room
  included (Includes.not_pieces source number place bytes inner texts refusal row col new content shallow pieces) = named_met (file_name source) number bytes texts pieces
  included (Includes.opened source number place bytes inner texts new content shallow pieces) = named_met (file_name source) number bytes texts pieces

-- ---- parts and files

abbrev AreLater : Progress → After → Type 0
AreLater s (GoesOn given after now) = IsLater s now
AreLater s (Enters file inner now) = IsLater s now
AreLater s (Stops number place now) = IsLater s now

module _ (held : Option (List ℕ → Option (List ℕ))) (limit : ℕ) where
  part_later : {depth file : ℕ} {bs : List Branch} {s : Progress} {ps : List PpToken} {size : ℕ} {after : After} → 0 < size → Part held limit depth file bs s ps size after → AreLater s after
  part_later {depth} {file} {bs} {s} {ps} {size} some (Part.text out begins read room expansion) =
      record { kept = kept_same s.texts; distinct = λ d. d; distinct_files = λ d. d; few = omega arith; within = λ h. room }
  part_later {depth} {file} {bs} {s} {ps} {size} some (Part.text_stopped number place begins read room halt) = later_same s
  part_later {depth} {file} {bs} {s} {ps} {size} some (Part.skipped begins read room) = later_read s size room
  part_later {depth} {file} {bs} {s} {ps} {size} some (Part.too_many t over plain at) = later_same s
  part_later {depth} {file} {bs} {s} {ps} {size} some (Part.too_many_in_text t out over begins read at expansion) = later_same s
  part_later {depth} {file} {bs} {s} {ps} {size} some (Part.too_many_behind_stop number place over begins read halt) = later_same s
  part_later {depth} {file} {bs} {s} {ps} {size} some (Part.carried after now begins room carries) =
      later_on s (with_read s size) now (later_read s size room) (carried limit (with_read s size) carries)
  part_later {depth} {file} {bs} {s} {ps} {size} some (Part.stuck number place begins room halted) = later_same s
  part_later {depth} {file} {bs} {s} {ps} {size} some (Part.passed now begins room asks_it inclusion) = included held limit depth s size some room inclusion
  part_later {depth} {file} {bs} {s} {ps} {size} some (Part.barred number place now begins room asks_it inclusion) = included held limit depth s size some room inclusion
  part_later {depth} {file} {bs} {s} {ps} {size} some (Part.opened number inner now begins room asks_it inclusion) = included held limit depth s size some room inclusion

  leaves_later : {depth file : ℕ} {last : Place} {bs : List Branch} {s later : Progress} {ps given : List PpToken} {end : Ending} → Leaves held limit depth file last bs s ps given later end → IsLater s later
  leaves_later (Leaves.ended depth file last s) = later_same s
  leaves_later (Leaves.unclosed depth file last x bs s) = later_same s
  leaves_later (Leaves.goes_on depth file last bs after s now later ps given more size end part rest) =
      later_on s now later (part_later part.front.some part.follows) (leaves_later rest)
  leaves_later (Leaves.stops depth file last bs s now ps size number place part) = part_later part.front.some part.follows
  leaves_later (Leaves.included depth file last bs s now middle later ps inner given more size number end part inside rest) =
      later_on s now later (part_later part.front.some part.follows) (later_on now middle later (leaves_later inside) (leaves_later rest))
  leaves_later (Leaves.stops_inside depth file last bs s now later ps inner given size number refusal place part inside) =
      later_on s now later (part_later part.front.some part.follows) (leaves_later inside)

-- ---- units

-- what a unit leaves of its tables
record IsBehind (texts files later last : List (List ℕ)) : Type 0 where
  kept : IsKept texts later
  distinct : IsDistinct texts → IsDistinct later
  distinct_files : IsDistinct files → IsDistinct last
  few : length last ≤ length files + 4000001

module _ (held : Option (List ℕ → Option (List ℕ))) (limit : ℕ) (name : List ℕ) (texts files : List (List ℕ)) where
  only_met : IsBehind texts files texts (with_text files name)
  only_met = record { kept = kept_same texts; distinct = λ d. d; distinct_files = λ d. distinct_with files name d; few = omega (arith, longer_with files name) }

  unit_behind : {ts : List Token} {later last : List (List ℕ)} {end : Ending} → IsUnit held limit name texts files ts later last end → IsBehind texts files later last
  unit_behind (IsUnit.not_there number numbered had) = only_met
  unit_behind (IsUnit.too_long number numbered had) = only_met
  unit_behind (IsUnit.not_pieces number refusal row col bytes inner later numbered had pieces) =
      record { kept = reading_goes number limit pieces; distinct = λ d. reading_kept number limit d pieces; distinct_files = only_met.distinct_files; few = only_met.few }
  unit_behind (IsUnit.stops number refusal bytes inner out later s at numbered had pieces leaves) =
      let left = leaves_later held limit leaves in
      record {
        kept = kept_on texts later s.texts (reading_goes number limit pieces) left.kept;
        distinct = λ d. left.distinct (reading_kept number limit d pieces);
        distinct_files = λ d. left.distinct_files (distinct_with files name d);
        few = omega (arith, left.few, left.within (omega arith), longer_with files name);
      }
  unit_behind (IsUnit.tokens number bytes inner out later last s ts end numbered had pieces leaves converts) =
      let left = leaves_later held limit leaves in
      record {
        kept = kept_on texts later last (reading_goes number limit pieces) (kept_on later s.texts last left.kept (conversion_goes limit converts));
        distinct = λ d. conversion_kept limit (left.distinct (reading_kept number limit d pieces)) converts;
        distinct_files = λ d. left.distinct_files (distinct_with files name d);
        few = omega (arith, left.few, left.within (omega arith), longer_with files name);
      }

  module _ (later last : List (List ℕ)) where
    pub names_kept : (result : Result (Vec Token Global) UnitFault) → IsUnitOf held limit name texts files later last result → IfOk result (λ _. IsKept texts later)
    names_kept (Ok tokens) unit = (unit_behind unit).kept
    names_kept (Err e) unit = tt

    pub names_distinct : (result : Result (Vec Token Global) UnitFault) → IsUnitOf held limit name texts files later last result → IfOk result (λ _. IsDistinct texts → IsDistinct later)
    names_distinct (Ok tokens) unit = (unit_behind unit).distinct
    names_distinct (Err e) unit = tt

    pub files_distinct : (result : Result (Vec Token Global) UnitFault) → IsUnitOf held limit name texts files later last result → IfEnded result (IsDistinct files → IsDistinct last)
    files_distinct (Ok tokens) unit = (unit_behind unit).distinct_files
    files_distinct (Err (fault.Refused r)) unit = (unit_behind unit.0.refused).distinct_files
    files_distinct (Err fault.Read) unit = tt
    files_distinct (Err fault.Memory) unit = tt

    pub files_few : (result : Result (Vec Token Global) UnitFault) → IsUnitOf held limit name texts files later last result → IfEnded result (length last ≤ length files + 4000001)
    files_few (Ok tokens) unit = (unit_behind unit).few
    files_few (Err (fault.Refused r)) unit = (unit_behind unit.0.refused).few
    files_few (Err fault.Read) unit = tt
    files_few (Err fault.Memory) unit = tt
