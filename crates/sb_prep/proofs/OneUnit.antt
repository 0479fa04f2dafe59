-- a unit over a library that tells has one outcome, and keeps its tables distinct
use Rattle.std.proofs.Common.{◌≡◌, ℕ, List, Option, Some, Result, Ok, Err, slice_get, refl, ap}
use Rattle.std.specs.declared.alloc.Global.{Global}
use Rattle.std.specs.declared.vec.Vec.{Vec}
use Rattle.sb_base.specs.Found.{Missing, TooBig, Whole as Present, IsFound}
use Rattle.sb_base.specs.Names.{IsDistinct, with_text}
use Rattle.sb_base.specs.declared.tokens.Token.{Token}
use Rattle.sb_lex.specs.Lexing.{PiecesOf, End}
use Rattle.sb_lex.specs.declared.piece.PpToken.{PpToken}
use Rattle.sb_directive.specs.Ending.{Ending, Refused}
use Rattle.sb_directive.proofs.DistinctTexts.{distinct_with}
use Rattle.sb_prep.specs.declared.fault.UnitFault.{UnitFault}
use Rattle.sb_prep.specs.declared.fault.UnitFault.TheVariants as fault
use Rattle.sb_prep.specs.Outcomes.{IsOnlyOutcome}
use Rattle.sb_prep.specs.Reading.{IsUnitOf}
use Rattle.sb_prep.specs.Unit.{file_start, beginning, IsUnit}
use Rattle.sb_prep.proofs.Determined.{AreDistinct, HaveOneAnswer}
use Rattle.sb_prep.proofs.DistinctTexts.{reading_kept, conversion_kept}
use Rattle.sb_prep.proofs.OneAnswer.{parts_have_one_answer}
use Rattle.sb_prep.proofs.OneOutcome.{one_found, keeps, one_leaving}
use Rattle.sb_prep.proofs.Settled.{are_settled}

-- two outcomes of a unit are the same
pub record IsSameUnit (ts ts' : List Token) (later later' last last' : List (List ℕ)) (end end' : Ending) : Type 0 where
  pub tokens : ts' ≡ ts
  pub laters : later' ≡ later
  pub lasts : last' ≡ last
  pub ends : end' ≡ end

module _ (held : List ℕ → Option (List ℕ)) (limit : ℕ) (name : List ℕ) (texts files : List (List ℕ)) (distinct_texts : IsDistinct texts) (distinct_files : IsDistinct files) where
  one_answer : HaveOneAnswer (Some held) limit
  one_answer = parts_have_one_answer limit (are_settled limit) held

  one_number : {number number' : ℕ} → slice_get (with_text files name) number ≡ Some name → slice_get (with_text files name) number' ≡ Some name → number' ≡ number
  one_number {number} {number'} at at' = (distinct_with files name distinct_files) number' number name at' at

  same_bytes : (bytes bytes' : List ℕ) → IsFound (Some held) name (Present bytes) → IsFound (Some held) name (Present bytes') → bytes' ≡ bytes
  same_bytes bytes bytes' had had' = cc (one_found held name (Present bytes) (Present bytes') had had')

  same_reading : (number number' : ℕ) (bytes bytes' : List ℕ) {inner inner' : List PpToken} {later later' : List (List ℕ)} {end end' : End} → number' ≡ number → bytes' ≡ bytes
      → PiecesOf number limit texts bytes inner later end → PiecesOf number' limit texts bytes' inner' later' end' → (inner' ≡ inner) × (later' ≡ later) × (end' ≡ end)
  same_reading number number' bytes bytes' n b first second = (are_settled limit).reading number texts bytes distinct_texts first (rw (n, b) at second)

  begins_distinct : (number : ℕ) (bytes : List ℕ) {inner : List PpToken} {later : List (List ℕ)} {end : End} → PiecesOf number limit texts bytes inner later end → AreDistinct (beginning later (with_text files name))
  begins_distinct number bytes pieces = record { texts = reading_kept number limit distinct_texts pieces; files = distinct_with files name distinct_files }

  pub one_unit : {ts ts' : List Token} {later later' last last' : List (List ℕ)} {end end' : Ending} → IsUnit (Some held) limit name texts files ts later last end → IsUnit (Some held) limit name texts files ts' later' last' end'
      → IsSameUnit ts ts' later later' last last' end end'
  one_unit (IsUnit.not_there number numbered had) (IsUnit.not_there number' numbered' had') = record { tokens = refl; laters = refl; lasts = refl; ends = ap (λ n. Refused 21 (file_start n)) (one_number numbered numbered') }
  one_unit (IsUnit.not_there number numbered had) (IsUnit.too_long number' numbered' had') = absurd (cc (one_found held name Missing TooBig had had'))
  one_unit (IsUnit.not_there number numbered had) (IsUnit.not_pieces number' refusal' row' col' bytes' inner' later' numbered' had' pieces') = absurd (cc (one_found held name Missing (Present bytes') had had'))
  one_unit (IsUnit.not_there number numbered had) (IsUnit.stops number' refusal' bytes' inner' out' later' s' at' numbered' had' pieces' leaves') = absurd (cc (one_found held name Missing (Present bytes') had had'))
  one_unit (IsUnit.not_there number numbered had) (IsUnit.tokens number' bytes' inner' out' later' last' s' ts' end' numbered' had' pieces' leaves' converts') = absurd (cc (one_found held name Missing (Present bytes') had had'))
  one_unit (IsUnit.too_long number numbered had) (IsUnit.not_there number' numbered' had') = absurd (cc (one_found held name TooBig Missing had had'))
  one_unit (IsUnit.too_long number numbered had) (IsUnit.too_long number' numbered' had') = record { tokens = refl; laters = refl; lasts = refl; ends = ap (λ n. Refused 22 (file_start n)) (one_number numbered numbered') }
  one_unit (IsUnit.too_long number numbered had) (IsUnit.not_pieces number' refusal' row' col' bytes' inner' later' numbered' had' pieces') = absurd (cc (one_found held name TooBig (Present bytes') had had'))
  one_unit (IsUnit.too_long number numbered had) (IsUnit.stops number' refusal' bytes' inner' out' later' s' at' numbered' had' pieces' leaves') = absurd (cc (one_found held name TooBig (Present bytes') had had'))
  one_unit (IsUnit.too_long number numbered had) (IsUnit.tokens number' bytes' inner' out' later' last' s' ts' end' numbered' had' pieces' leaves' converts') = absurd (cc (one_found held name TooBig (Present bytes') had had'))
  one_unit (IsUnit.not_pieces number refusal row col bytes inner later numbered had pieces) (IsUnit.not_there number' numbered' had') = absurd (cc (one_found held name (Present bytes) Missing had had'))
  one_unit (IsUnit.not_pieces number refusal row col bytes inner later numbered had pieces) (IsUnit.too_long number' numbered' had') = absurd (cc (one_found held name (Present bytes) TooBig had had'))
  one_unit (IsUnit.not_pieces number refusal row col bytes inner later numbered had pieces) (IsUnit.not_pieces number' refusal' row' col' bytes' inner' later' numbered' had' pieces') =
      let n = one_number numbered numbered' in
      let b = same_bytes bytes bytes' had had' in
      let read = same_reading number number' bytes bytes' n b pieces pieces' in
      record { tokens = refl; laters = read.1; lasts = refl; ends = cc (n, read.2) }
  one_unit (IsUnit.not_pieces number refusal row col bytes inner later numbered had pieces) (IsUnit.stops number' refusal' bytes' inner' out' later' s' at' numbered' had' pieces' leaves') =
      let n = one_number numbered numbered' in
      let b = same_bytes bytes bytes' had had' in
      let read = same_reading number number' bytes bytes' n b pieces pieces' in
      absurd (cc (read.2))
  one_unit (IsUnit.not_pieces number refusal row col bytes inner later numbered had pieces) (IsUnit.tokens number' bytes' inner' out' later' last' s' ts' end' numbered' had' pieces' leaves' converts') =
      let n = one_number numbered numbered' in
      let b = same_bytes bytes bytes' had had' in
      let read = same_reading number number' bytes bytes' n b pieces pieces' in
      absurd (cc (read.2))
  one_unit (IsUnit.stops number refusal bytes inner out later s at numbered had pieces leaves) (IsUnit.not_there number' numbered' had') = absurd (cc (one_found held name (Present bytes) Missing had had'))
  one_unit (IsUnit.stops number refusal bytes inner out later s at numbered had pieces leaves) (IsUnit.too_long number' numbered' had') = absurd (cc (one_found held name (Present bytes) TooBig had had'))
  one_unit (IsUnit.stops number refusal bytes inner out later s at numbered had pieces leaves) (IsUnit.not_pieces number' refusal' row' col' bytes' inner' later' numbered' had' pieces') =
      let n = one_number numbered numbered' in
      let b = same_bytes bytes bytes' had had' in
      let read = same_reading number number' bytes bytes' n b pieces pieces' in
      absurd (cc (read.2))
  one_unit (IsUnit.stops number refusal bytes inner out later s at numbered had pieces leaves) (IsUnit.stops number' refusal' bytes' inner' out' later' s' at' numbered' had' pieces' leaves') =
      let n = one_number numbered numbered' in
      let b = same_bytes bytes bytes' had had' in
      let read = same_reading number number' bytes bytes' n b pieces pieces' in
      let left = one_leaving (Some held) limit one_answer leaves leaves' refl n (cc (n, read.0)) refl (cc (read.1)) read.0 (begins_distinct number bytes pieces) in
      record { tokens = refl; laters = ap (λ p. p.texts) left.laters; lasts = ap (λ p. p.files) left.laters; ends = left.ends }
  one_unit (IsUnit.stops number refusal bytes inner out later s at numbered had pieces leaves) (IsUnit.tokens number' bytes' inner' out' later' last' s' ts' end' numbered' had' pieces' leaves' converts') =
      let n = one_number numbered numbered' in
      let b = same_bytes bytes bytes' had had' in
      let read = same_reading number number' bytes bytes' n b pieces pieces' in
      let left = one_leaving (Some held) limit one_answer leaves leaves' refl n (cc (n, read.0)) refl (cc (read.1)) read.0 (begins_distinct number bytes pieces) in
      absurd (cc (left.ends))
  one_unit (IsUnit.tokens number bytes inner out later last s ts end numbered had pieces leaves converts) (IsUnit.not_there number' numbered' had') = absurd (cc (one_found held name (Present bytes) Missing had had'))
  one_unit (IsUnit.tokens number bytes inner out later last s ts end numbered had pieces leaves converts) (IsUnit.too_long number' numbered' had') = absurd (cc (one_found held name (Present bytes) TooBig had had'))
  one_unit (IsUnit.tokens number bytes inner out later last s ts end numbered had pieces leaves converts) (IsUnit.not_pieces number' refusal' row' col' bytes' inner' later' numbered' had' pieces') =
      let n = one_number numbered numbered' in
      let b = same_bytes bytes bytes' had had' in
      let read = same_reading number number' bytes bytes' n b pieces pieces' in
      absurd (cc (read.2))
  one_unit (IsUnit.tokens number bytes inner out later last s ts end numbered had pieces leaves converts) (IsUnit.stops number' refusal' bytes' inner' out' later' s' at' numbered' had' pieces' leaves') =
      let n = one_number numbered numbered' in
      let b = same_bytes bytes bytes' had had' in
      let read = same_reading number number' bytes bytes' n b pieces pieces' in
      let left = one_leaving (Some held) limit one_answer leaves leaves' refl n (cc (n, read.0)) refl (cc (read.1)) read.0 (begins_distinct number bytes pieces) in
      absurd (cc (left.ends))
  one_unit (IsUnit.tokens number bytes inner out later last s ts end numbered had pieces leaves converts) (IsUnit.tokens number' bytes' inner' out' later' last' s' ts' end' numbered' had' pieces' leaves' converts') =
      let n = one_number numbered numbered' in
      let b = same_bytes bytes bytes' had had' in
      let read = same_reading number number' bytes bytes' n b pieces pieces' in
      let left = one_leaving (Some held) limit one_answer leaves leaves' refl n (cc (n, read.0)) refl (cc (read.1)) read.0 (begins_distinct number bytes pieces) in
      let texts_are : s'.texts ≡ s.texts = ap (λ p. p.texts) left.laters in
      let made = (are_settled limit).conversion (keeps (Some held) limit one_answer leaves (begins_distinct number bytes pieces)).texts converts (rw (texts_are, left.outs) at converts') in
      record { tokens = made.0; laters = made.1; lasts = ap (λ p. p.files) left.laters; ends = made.2 }

  pub unit_keeps : {ts : List Token} {later last : List (List ℕ)} {end : Ending} → IsUnit (Some held) limit name texts files ts later last end → IsDistinct later × IsDistinct last
  unit_keeps (IsUnit.not_there number numbered had) = (distinct_texts, distinct_with files name distinct_files)
  unit_keeps (IsUnit.too_long number numbered had) = (distinct_texts, distinct_with files name distinct_files)
  unit_keeps (IsUnit.not_pieces number refusal row col bytes inner later numbered had pieces) = (reading_kept number limit distinct_texts pieces, distinct_with files name distinct_files)
  unit_keeps (IsUnit.stops number refusal bytes inner out later s at numbered had pieces leaves) = let kept = keeps (Some held) limit one_answer leaves (begins_distinct number bytes pieces) in (kept.texts, kept.files)
  unit_keeps (IsUnit.tokens number bytes inner out later last s ts end numbered had pieces leaves converts) =
      let kept = keeps (Some held) limit one_answer leaves (begins_distinct number bytes pieces) in
      (conversion_kept limit kept.texts converts, kept.files)

pub only_outcome : (held : Option (List ℕ → Option (List ℕ))) (limit : ℕ) (name : List ℕ) (texts files later last : List (List ℕ)) (result : Result (Vec Token Global) UnitFault)
    → IsUnitOf held limit name texts files later last result → IsDistinct texts → IsDistinct files → (told : List ℕ → Option (List ℕ)) → held ≡ Some told
    → IsOnlyOutcome told limit name texts files later last result
only_outcome held limit name texts files later last (Ok tokens) told texts_distinct files_distinct library is =
    λ ts names met end other.
    let same = one_unit library limit name texts files texts_distinct files_distinct (rw is at told) other in
    (same.tokens, same.laters, same.lasts, same.ends)
only_outcome held limit name texts files later last (Err (fault.Refused r)) told texts_distinct files_distinct library is =
    λ ts names met end other.
    let same = one_unit library limit name texts files texts_distinct files_distinct (rw is at told.0.refused) other in
    (same.lasts, same.ends)
only_outcome held limit name texts files later last (Err fault.Read) told texts_distinct files_distinct library is = tt
only_outcome held limit name texts files later last (Err fault.Memory) told texts_distinct files_distinct library is = tt
