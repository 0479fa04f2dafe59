-- what follows a part of a file is one thing, over a library that tells
use Rattle.std.proofs.Common.{◌≡◌, ℕ, inl, inr, Bool, List, take, drop, Option, Some, refl, sym, ◌∙◌, ap, arith}
use Rattle.sb_base.specs.Found.{Found, Missing, TooBig, Whole as Present}
use Rattle.sb_base.specs.Names.{IsDistinct}
use Rattle.sb_base.specs.declared.refusals.Place.{Place}
use Rattle.sb_lex.specs.declared.piece.PpToken.{PpToken}
use Rattle.sb_directive.specs.declared.asks.Asks.{Asks}
use Rattle.sb_directive.specs.declared.asks.Asks.TheVariants as asked
use Rattle.sb_directive.specs.declared.directive.Branch.{Branch}
use Rattle.sb_directive.specs.Asking.{asks, branches_after, branches_if}
use Rattle.sb_directive.specs.Headers.{Source, BuiltIn, File, file_name, source_of}
use Rattle.sb_directive.specs.Rules.{Table, undefined}
use Rattle.sb_directive.proofs.DistinctTexts.{distinct_with}
use Rattle.sb_directive.proofs.SeekingOnce as seeking
use Rattle.sb_prep.specs.Unit.{Progress, with_read, with_file, with_names, with_table, Sought, Seeks, IsContent, IsSought, Inclusion, Barred, Includes, Carries, IsStuck, Part, After, Stops}
use Rattle.sb_prep.proofs.Determined.{AreDistinct, IsDistinctAfter, HaveOneAnswer, AreSettled}
use Rattle.sb_prep.proofs.OneOutcome.{one_found}

apart : (a : Asks) (bs x y : List Branch) (holds : Bool) → branches_after a bs ≡ Some x → branches_if a holds bs ≡ Some y → ⊥
apart asked.Nothing bs x y holds first second = absurd (cc)
apart (asked.Opens b) bs x y holds first second = absurd (cc)
apart (asked.Becomes b) bs x y holds first second = absurd (cc)
apart asked.Closes bs x y holds first second = absurd (cc)
apart asked.OpensIf bs x y holds first second = absurd (cc)
apart (asked.TurnsIf b) bs x y holds first second = absurd (cc)
apart asked.Defines bs x y holds first second = absurd (cc)
apart (asked.Undefines n) bs x y holds first second = absurd (cc)
apart asked.Includes bs x y holds first second = absurd (cc)
apart asked.Once bs x y holds first second = absurd (cc)
apart (asked.Refused n p) bs x y holds first second = absurd (cc)

content_one : (held : List ℕ → Option (List ℕ)) (source : Source) (found found' : Found) → IsContent (Some held) source found → IsContent (Some held) source found' → found' ≡ found
content_one held (BuiltIn name text) found found' first second = second ∙ sym first
content_one held (File name) found found' first second = one_found held name found found' first second

module _ (limit : ℕ) (settled : AreSettled limit) where
  one_sought : {texts : List (List ℕ)} {table : Table} {behind : List PpToken} {sought sought' : Sought} → Seeks texts table behind sought → Seeks texts table behind sought' → sought' ≡ sought
  one_sought first second = seeking.one_sought _ _ _ _ _ second first

  -- ---- directives that include no file

  module _ (file : ℕ) (line : List PpToken) (bs : List Branch) (s : Progress) (distinct : IsDistinct s.texts) where
    one_carried : {after after' : List Branch} {now now' : Progress} → Carries limit file line bs s after now → Carries limit file line bs s after' now' → (after' ≡ after) × (now' ≡ now)
    one_carried (Carries.branches after is) (Carries.branches after' is') = (cc, refl)
    one_carried (Carries.branches after is) (Carries.condition after' holds' texts' is' truth') = absurd (apart (asks s.texts s.table bs line) bs after after' holds' is is')
    one_carried (Carries.branches after is) (Carries.defines table' is' definition') = absurd (cc)
    one_carried (Carries.branches after is) (Carries.undefines name' is') = absurd (cc)
    one_carried (Carries.branches after is) (Carries.once is') = absurd (cc)
    one_carried (Carries.condition after holds texts is truth) (Carries.branches after' is') = absurd (apart (asks s.texts s.table bs line) bs after' after holds is' is)
    one_carried (Carries.condition after holds texts is truth) (Carries.condition after' holds' texts' is' truth') = let same = settled.truth _ _ _ _ _ _ _ _ distinct truth truth' in (cc (same.0), ap (with_names s) (sym same.1))
    one_carried (Carries.condition after holds texts is truth) (Carries.defines table' is' definition') = absurd (cc)
    one_carried (Carries.condition after holds texts is truth) (Carries.undefines name' is') = absurd (cc)
    one_carried (Carries.condition after holds texts is truth) (Carries.once is') = absurd (cc)
    one_carried (Carries.defines table is definition) (Carries.branches after' is') = absurd (cc)
    one_carried (Carries.defines table is definition) (Carries.condition after' holds' texts' is' truth') = absurd (cc)
    one_carried (Carries.defines table is definition) (Carries.defines table' is' definition') = (refl, ap (with_table s) (sym (settled.definition _ _ _ _ _ definition definition')))
    one_carried (Carries.defines table is definition) (Carries.undefines name' is') = absurd (cc)
    one_carried (Carries.defines table is definition) (Carries.once is') = absurd (cc)
    one_carried (Carries.undefines name is) (Carries.branches after' is') = absurd (cc)
    one_carried (Carries.undefines name is) (Carries.condition after' holds' texts' is' truth') = absurd (cc)
    one_carried (Carries.undefines name is) (Carries.defines table' is' definition') = absurd (cc)
    one_carried (Carries.undefines name is) (Carries.undefines name' is') = (refl, ap (λ n. with_table s (undefined s.table n)) (cc))
    one_carried (Carries.undefines name is) (Carries.once is') = absurd (cc)
    one_carried (Carries.once is) (Carries.branches after' is') = absurd (cc)
    one_carried (Carries.once is) (Carries.condition after' holds' texts' is' truth') = absurd (cc)
    one_carried (Carries.once is) (Carries.defines table' is' definition') = absurd (cc)
    one_carried (Carries.once is) (Carries.undefines name' is') = absurd (cc)
    one_carried (Carries.once is) (Carries.once is') = (refl, refl)

    carried_or_stuck : {after : List Branch} {now : Progress} {number' : ℕ} {place' : Place} → Carries limit file line bs s after now → IsStuck limit line bs s number' place' → ⊥
    carried_or_stuck (Carries.branches after is) (IsStuck.no_condition after' holds' number' place' is' untruth') = apart (asks s.texts s.table bs line) bs after after' holds' is is'
    carried_or_stuck (Carries.branches after is) (IsStuck.no_definition number' place' is' refusal') = absurd (cc)
    carried_or_stuck (Carries.branches after is) (IsStuck.refused number' place' is') = absurd (cc)
    carried_or_stuck (Carries.condition after holds texts is truth) (IsStuck.no_condition after' holds' number' place' is' untruth') = settled.no_truth _ _ _ _ _ _ _ _ distinct truth untruth'
    carried_or_stuck (Carries.condition after holds texts is truth) (IsStuck.no_definition number' place' is' refusal') = absurd (cc)
    carried_or_stuck (Carries.condition after holds texts is truth) (IsStuck.refused number' place' is') = absurd (cc)
    carried_or_stuck (Carries.defines table is definition) (IsStuck.no_condition after' holds' number' place' is' untruth') = absurd (cc)
    carried_or_stuck (Carries.defines table is definition) (IsStuck.no_definition number' place' is' refusal') = settled.no_refusal _ _ _ _ _ _ definition refusal'
    carried_or_stuck (Carries.defines table is definition) (IsStuck.refused number' place' is') = absurd (cc)
    carried_or_stuck (Carries.undefines name is) (IsStuck.no_condition after' holds' number' place' is' untruth') = absurd (cc)
    carried_or_stuck (Carries.undefines name is) (IsStuck.no_definition number' place' is' refusal') = absurd (cc)
    carried_or_stuck (Carries.undefines name is) (IsStuck.refused number' place' is') = absurd (cc)
    carried_or_stuck (Carries.once is) (IsStuck.no_condition after' holds' number' place' is' untruth') = absurd (cc)
    carried_or_stuck (Carries.once is) (IsStuck.no_definition number' place' is' refusal') = absurd (cc)
    carried_or_stuck (Carries.once is) (IsStuck.refused number' place' is') = absurd (cc)

    one_stuck : {number number' : ℕ} {place place' : Place} → IsStuck limit line bs s number place → IsStuck limit line bs s number' place' → (number' ≡ number) × (place' ≡ place)
    one_stuck (IsStuck.no_condition after holds number place is untruth) (IsStuck.no_condition after' holds' number' place' is' untruth') = let same = settled.untruth _ _ _ _ _ _ _ _ distinct untruth untruth' in (sym same.0, sym same.1)
    one_stuck (IsStuck.no_condition after holds number place is untruth) (IsStuck.no_definition number' place' is' refusal') = absurd (cc)
    one_stuck (IsStuck.no_condition after holds number place is untruth) (IsStuck.refused number' place' is') = absurd (cc)
    one_stuck (IsStuck.no_definition number place is refusal) (IsStuck.no_condition after' holds' number' place' is' untruth') = absurd (cc)
    one_stuck (IsStuck.no_definition number place is refusal) (IsStuck.no_definition number' place' is' refusal') = let same = settled.refusal _ _ _ _ _ _ _ refusal refusal' in (sym same.0, sym same.1)
    one_stuck (IsStuck.no_definition number place is refusal) (IsStuck.refused number' place' is') = absurd (cc)
    one_stuck (IsStuck.refused number place is) (IsStuck.no_condition after' holds' number' place' is' untruth') = absurd (cc)
    one_stuck (IsStuck.refused number place is) (IsStuck.no_definition number' place' is' refusal') = absurd (cc)
    one_stuck (IsStuck.refused number place is) (IsStuck.refused number' place' is') = (cc, cc)

    carries_no_file : {after : List Branch} {now : Progress} → Carries limit file line bs s after now → asks s.texts s.table bs line ≡ asked.Includes → ⊥
    carries_no_file (Carries.branches after is) includes = absurd (cc)
    carries_no_file (Carries.condition after holds texts is truth) includes = absurd (cc)
    carries_no_file (Carries.defines table is definition) includes = absurd (cc)
    carries_no_file (Carries.undefines name is) includes = absurd (cc)
    carries_no_file (Carries.once is) includes = absurd (cc)

    stuck_without_file : {number : ℕ} {place : Place} → IsStuck limit line bs s number place → asks s.texts s.table bs line ≡ asked.Includes → ⊥
    stuck_without_file (IsStuck.no_condition after holds number place is untruth) includes = absurd (cc)
    stuck_without_file (IsStuck.no_definition number place is refusal) includes = absurd (cc)
    stuck_without_file (IsStuck.refused number place is) includes = absurd (cc)

    carried_distinct : {after : List Branch} {now : Progress} → IsDistinct s.files → Carries limit file line bs s after now → AreDistinct now
    carried_distinct files (Carries.branches after is) = record { texts = distinct; files = files }
    carried_distinct files (Carries.condition after holds texts is truth) = record { texts = settled.truth_kept _ _ _ _ _ _ distinct truth; files = files }
    carried_distinct files (Carries.defines table is definition) = record { texts = distinct; files = files }
    carried_distinct files (Carries.undefines name is) = record { texts = distinct; files = files }
    carried_distinct files (Carries.once is) = record { texts = distinct; files = files }

  -- ---- files that are included

  module _ (held : List ℕ → Option (List ℕ)) (depth : ℕ) (behind : List PpToken) (s : Progress) (distinct : AreDistinct s) where
    same_source : {source source' : Source} {number number' : ℕ} {place place' : Place} → IsSought s behind source number place → IsSought s behind source' number' place' → (source' ≡ source) × (number' ≡ number) × (place' ≡ place)
    same_source {source} {source'} {number} {number'} first second =
        let same = one_sought first.sought second.sought in
        let headers : second.header ≡ first.header = cc (same) in
        let sources : source' ≡ source = sym second.source_is ∙ ap source_of headers ∙ first.source_is in
        let there = rw sources at second.numbered in
        (sources, (distinct_with s.files (file_name source) distinct.files) number' number (file_name source) there first.numbered, cc (same))

    same_content : {source source' : Source} (found found' : Found) → source' ≡ source → IsContent (Some held) source found → IsContent (Some held) source' found' → found' ≡ found
    same_content {source} found found' sources first second = content_one held source found found' first (rw sources at second)

    one_inclusion : {inclusion inclusion' : Inclusion} {now now' : Progress} → Includes (Some held) limit depth behind s inclusion now → Includes (Some held) limit depth behind s inclusion' now' → (inclusion' ≡ inclusion) × (now' ≡ now)
    one_inclusion (Includes.no_header number place sought) (Includes.no_header number' place' sought') = let same = one_sought sought sought' in (cc (same), refl)
    one_inclusion (Includes.no_header number place sought) (Includes.met_before source' number' place' sought' met') = absurd (cc (one_sought sought sought'.sought))
    one_inclusion (Includes.no_header number place sought) (Includes.not_there source' number' place' new' had') = absurd (cc (one_sought sought new'.sought.sought))
    one_inclusion (Includes.no_header number place sought) (Includes.too_long source' number' place' new' had') = absurd (cc (one_sought sought new'.sought.sought))
    one_inclusion (Includes.no_header number place sought) (Includes.too_deep source' number' place' bytes' new' had' deep') = absurd (cc (one_sought sought new'.sought.sought))
    one_inclusion (Includes.no_header number place sought) (Includes.not_pieces source' number' place' bytes' inner' texts' refusal' row' col' new' had' deep' pieces') = absurd (cc (one_sought sought new'.sought.sought))
    one_inclusion (Includes.no_header number place sought) (Includes.opened source' number' place' bytes' inner' texts' new' had' deep' pieces') = absurd (cc (one_sought sought new'.sought.sought))
    one_inclusion (Includes.met_before source number place sought met) (Includes.no_header number' place' sought') = absurd (cc (one_sought sought.sought sought'))
    one_inclusion (Includes.met_before source number place sought met) (Includes.met_before source' number' place' sought' met') = let same = same_source sought sought' in (refl, ap (λ x. with_file s (file_name x)) same.0)
    one_inclusion (Includes.met_before source number place sought met) (Includes.not_there source' number' place' new' had') = let same = same_source sought new'.sought in absurd (cc (same.1, met, new'.counts))
    one_inclusion (Includes.met_before source number place sought met) (Includes.too_long source' number' place' new' had') = let same = same_source sought new'.sought in absurd (cc (same.1, met, new'.counts))
    one_inclusion (Includes.met_before source number place sought met) (Includes.too_deep source' number' place' bytes' new' had' deep') = let same = same_source sought new'.sought in absurd (cc (same.1, met, new'.counts))
    one_inclusion (Includes.met_before source number place sought met) (Includes.not_pieces source' number' place' bytes' inner' texts' refusal' row' col' new' had' deep' pieces') = let same = same_source sought new'.sought in absurd (cc (same.1, met, new'.counts))
    one_inclusion (Includes.met_before source number place sought met) (Includes.opened source' number' place' bytes' inner' texts' new' had' deep' pieces') = let same = same_source sought new'.sought in absurd (cc (same.1, met, new'.counts))
    one_inclusion (Includes.not_there source number place new had) (Includes.no_header number' place' sought') = absurd (cc (one_sought new.sought.sought sought'))
    one_inclusion (Includes.not_there source number place new had) (Includes.met_before source' number' place' sought' met') = let same = same_source new.sought sought' in absurd (cc (same.1, met', new.counts))
    one_inclusion (Includes.not_there source number place new had) (Includes.not_there source' number' place' new' had') = let same = same_source new.sought new'.sought in let founds = same_content Missing Missing same.0 had had' in (ap (Barred 21) same.2, ap (λ x. with_file s (file_name x)) same.0)
    one_inclusion (Includes.not_there source number place new had) (Includes.too_long source' number' place' new' had') = let same = same_source new.sought new'.sought in let founds = same_content Missing TooBig same.0 had had' in absurd (cc (founds))
    one_inclusion (Includes.not_there source number place new had) (Includes.too_deep source' number' place' bytes' new' had' deep') = let same = same_source new.sought new'.sought in let founds = same_content Missing (Present bytes') same.0 had had' in absurd (cc (founds))
    one_inclusion (Includes.not_there source number place new had) (Includes.not_pieces source' number' place' bytes' inner' texts' refusal' row' col' new' had' deep' pieces') = let same = same_source new.sought new'.sought in let founds = same_content Missing (Present bytes') same.0 had had' in absurd (cc (founds))
    one_inclusion (Includes.not_there source number place new had) (Includes.opened source' number' place' bytes' inner' texts' new' had' deep' pieces') = let same = same_source new.sought new'.sought in let founds = same_content Missing (Present bytes') same.0 had had' in absurd (cc (founds))
    one_inclusion (Includes.too_long source number place new had) (Includes.no_header number' place' sought') = absurd (cc (one_sought new.sought.sought sought'))
    one_inclusion (Includes.too_long source number place new had) (Includes.met_before source' number' place' sought' met') = let same = same_source new.sought sought' in absurd (cc (same.1, met', new.counts))
    one_inclusion (Includes.too_long source number place new had) (Includes.not_there source' number' place' new' had') = let same = same_source new.sought new'.sought in let founds = same_content TooBig Missing same.0 had had' in absurd (cc (founds))
    one_inclusion (Includes.too_long source number place new had) (Includes.too_long source' number' place' new' had') = let same = same_source new.sought new'.sought in let founds = same_content TooBig TooBig same.0 had had' in (ap (Barred 22) same.2, ap (λ x. with_file s (file_name x)) same.0)
    one_inclusion (Includes.too_long source number place new had) (Includes.too_deep source' number' place' bytes' new' had' deep') = let same = same_source new.sought new'.sought in let founds = same_content TooBig (Present bytes') same.0 had had' in absurd (cc (founds))
    one_inclusion (Includes.too_long source number place new had) (Includes.not_pieces source' number' place' bytes' inner' texts' refusal' row' col' new' had' deep' pieces') = let same = same_source new.sought new'.sought in let founds = same_content TooBig (Present bytes') same.0 had had' in absurd (cc (founds))
    one_inclusion (Includes.too_long source number place new had) (Includes.opened source' number' place' bytes' inner' texts' new' had' deep' pieces') = let same = same_source new.sought new'.sought in let founds = same_content TooBig (Present bytes') same.0 had had' in absurd (cc (founds))
    one_inclusion (Includes.too_deep source number place bytes new had deep) (Includes.no_header number' place' sought') = absurd (cc (one_sought new.sought.sought sought'))
    one_inclusion (Includes.too_deep source number place bytes new had deep) (Includes.met_before source' number' place' sought' met') = let same = same_source new.sought sought' in absurd (cc (same.1, met', new.counts))
    one_inclusion (Includes.too_deep source number place bytes new had deep) (Includes.not_there source' number' place' new' had') = let same = same_source new.sought new'.sought in let founds = same_content (Present bytes) Missing same.0 had had' in absurd (cc (founds))
    one_inclusion (Includes.too_deep source number place bytes new had deep) (Includes.too_long source' number' place' new' had') = let same = same_source new.sought new'.sought in let founds = same_content (Present bytes) TooBig same.0 had had' in absurd (cc (founds))
    one_inclusion (Includes.too_deep source number place bytes new had deep) (Includes.too_deep source' number' place' bytes' new' had' deep') = let same = same_source new.sought new'.sought in let founds = same_content (Present bytes) (Present bytes') same.0 had had' in (ap (Barred 23) same.2, ap (λ x. with_file s (file_name x)) same.0)
    one_inclusion (Includes.too_deep source number place bytes new had deep) (Includes.not_pieces source' number' place' bytes' inner' texts' refusal' row' col' new' had' deep' pieces') = let same = same_source new.sought new'.sought in let founds = same_content (Present bytes) (Present bytes') same.0 had had' in absurd (omega arith)
    one_inclusion (Includes.too_deep source number place bytes new had deep) (Includes.opened source' number' place' bytes' inner' texts' new' had' deep' pieces') = let same = same_source new.sought new'.sought in let founds = same_content (Present bytes) (Present bytes') same.0 had had' in absurd (omega arith)
    one_inclusion (Includes.not_pieces source number place bytes inner texts refusal row col new had deep pieces) (Includes.no_header number' place' sought') = absurd (cc (one_sought new.sought.sought sought'))
    one_inclusion (Includes.not_pieces source number place bytes inner texts refusal row col new had deep pieces) (Includes.met_before source' number' place' sought' met') = let same = same_source new.sought sought' in absurd (cc (same.1, met', new.counts))
    one_inclusion (Includes.not_pieces source number place bytes inner texts refusal row col new had deep pieces) (Includes.not_there source' number' place' new' had') = let same = same_source new.sought new'.sought in let founds = same_content (Present bytes) Missing same.0 had had' in absurd (cc (founds))
    one_inclusion (Includes.not_pieces source number place bytes inner texts refusal row col new had deep pieces) (Includes.too_long source' number' place' new' had') = let same = same_source new.sought new'.sought in let founds = same_content (Present bytes) TooBig same.0 had had' in absurd (cc (founds))
    one_inclusion (Includes.not_pieces source number place bytes inner texts refusal row col new had deep pieces) (Includes.too_deep source' number' place' bytes' new' had' deep') = let same = same_source new.sought new'.sought in let founds = same_content (Present bytes) (Present bytes') same.0 had had' in absurd (omega arith)
    one_inclusion (Includes.not_pieces source number place bytes inner texts refusal row col new had deep pieces) (Includes.not_pieces source' number' place' bytes' inner' texts' refusal' row' col' new' had' deep' pieces') = let same = same_source new.sought new'.sought in let founds = same_content (Present bytes) (Present bytes') same.0 had had' in let bytes_are : bytes' ≡ bytes = cc (founds) in let read = settled.reading number s.texts bytes distinct.texts pieces (rw (same.1, bytes_are) at pieces') in (cc (same.1, read.2), cc (same.0, read.1))
    one_inclusion (Includes.not_pieces source number place bytes inner texts refusal row col new had deep pieces) (Includes.opened source' number' place' bytes' inner' texts' new' had' deep' pieces') = let same = same_source new.sought new'.sought in let founds = same_content (Present bytes) (Present bytes') same.0 had had' in let bytes_are : bytes' ≡ bytes = cc (founds) in let read = settled.reading number s.texts bytes distinct.texts pieces (rw (same.1, bytes_are) at pieces') in absurd (cc (read.2))
    one_inclusion (Includes.opened source number place bytes inner texts new had deep pieces) (Includes.no_header number' place' sought') = absurd (cc (one_sought new.sought.sought sought'))
    one_inclusion (Includes.opened source number place bytes inner texts new had deep pieces) (Includes.met_before source' number' place' sought' met') = let same = same_source new.sought sought' in absurd (cc (same.1, met', new.counts))
    one_inclusion (Includes.opened source number place bytes inner texts new had deep pieces) (Includes.not_there source' number' place' new' had') = let same = same_source new.sought new'.sought in let founds = same_content (Present bytes) Missing same.0 had had' in absurd (cc (founds))
    one_inclusion (Includes.opened source number place bytes inner texts new had deep pieces) (Includes.too_long source' number' place' new' had') = let same = same_source new.sought new'.sought in let founds = same_content (Present bytes) TooBig same.0 had had' in absurd (cc (founds))
    one_inclusion (Includes.opened source number place bytes inner texts new had deep pieces) (Includes.too_deep source' number' place' bytes' new' had' deep') = let same = same_source new.sought new'.sought in let founds = same_content (Present bytes) (Present bytes') same.0 had had' in absurd (omega arith)
    one_inclusion (Includes.opened source number place bytes inner texts new had deep pieces) (Includes.not_pieces source' number' place' bytes' inner' texts' refusal' row' col' new' had' deep' pieces') = let same = same_source new.sought new'.sought in let founds = same_content (Present bytes) (Present bytes') same.0 had had' in let bytes_are : bytes' ≡ bytes = cc (founds) in let read = settled.reading number s.texts bytes distinct.texts pieces (rw (same.1, bytes_are) at pieces') in absurd (cc (read.2))
    one_inclusion (Includes.opened source number place bytes inner texts new had deep pieces) (Includes.opened source' number' place' bytes' inner' texts' new' had' deep' pieces') = let same = same_source new.sought new'.sought in let founds = same_content (Present bytes) (Present bytes') same.0 had had' in let bytes_are : bytes' ≡ bytes = cc (founds) in let read = settled.reading number s.texts bytes distinct.texts pieces (rw (same.1, bytes_are) at pieces') in (cc (same.1, read.0), cc (same.0, read.1))

    included_distinct : {inclusion : Inclusion} {now : Progress} → Includes (Some held) limit depth behind s inclusion now → AreDistinct now
    included_distinct (Includes.no_header number place sought) = record { texts = distinct.texts; files = distinct.files }
    included_distinct (Includes.met_before source number place sought met) = record { texts = distinct.texts; files = distinct_with s.files (file_name source) distinct.files }
    included_distinct (Includes.not_there source number place new had) = record { texts = distinct.texts; files = distinct_with s.files (file_name source) distinct.files }
    included_distinct (Includes.too_long source number place new had) = record { texts = distinct.texts; files = distinct_with s.files (file_name source) distinct.files }
    included_distinct (Includes.too_deep source number place bytes new had deep) = record { texts = distinct.texts; files = distinct_with s.files (file_name source) distinct.files }
    included_distinct (Includes.not_pieces source number place bytes inner texts refusal row col new had deep pieces) = record { texts = settled.reading_kept number s.texts bytes distinct.texts pieces; files = distinct_with s.files (file_name source) distinct.files }
    included_distinct (Includes.opened source number place bytes inner texts new had deep pieces) = record { texts = settled.reading_kept number s.texts bytes distinct.texts pieces; files = distinct_with s.files (file_name source) distinct.files }

  -- ---- parts

  module _ (held : List ℕ → Option (List ℕ)) (depth file : ℕ) (bs : List Branch) (s : Progress) (ps : List PpToken) (size : ℕ) (distinct : AreDistinct s) where
    read_distinct : AreDistinct (with_read s size)
    read_distinct = record { texts = distinct.texts; files = distinct.files }

    one_after : {after after' : After} → Part (Some held) limit depth file bs s ps size after → Part (Some held) limit depth file bs s ps size after' → after' ≡ after
    one_after (Part.text out begins read room expansion) (Part.text out' begins' read' room' expansion') = let outs = settled.expansion _ _ _ _ _ _ expansion expansion' in cc (outs)
    one_after (Part.text out begins read room expansion) (Part.text_stopped number' place' begins' read' room' halt') = absurd (settled.no_stop _ _ _ _ _ _ _ expansion halt')
    one_after (Part.text out begins read room expansion) (Part.skipped begins' read' room') = absurd (cc)
    one_after (Part.text out begins read room expansion) (Part.too_many t' over' plain' at') = absurd (omega arith)
    one_after (Part.text out begins read room expansion) (Part.too_many_in_text t' out' over' begins' read' at' expansion') = absurd (omega arith)
    one_after (Part.text out begins read room expansion) (Part.too_many_behind_stop number' place' over' begins' read' halt') = absurd (omega arith)
    one_after (Part.text out begins read room expansion) (Part.carried after' now' begins' room' carries') = absurd (cc)
    one_after (Part.text out begins read room expansion) (Part.stuck number' place' begins' room' halted') = absurd (cc)
    one_after (Part.text out begins read room expansion) (Part.passed now' begins' room' asks_it' inclusion') = absurd (cc)
    one_after (Part.text out begins read room expansion) (Part.barred number' place' now' begins' room' asks_it' inclusion') = absurd (cc)
    one_after (Part.text out begins read room expansion) (Part.opened number' inner' now' begins' room' asks_it' inclusion') = absurd (cc)
    one_after (Part.text_stopped number place begins read room halt) (Part.text out' begins' read' room' expansion') = absurd (settled.no_stop _ _ _ _ _ _ _ expansion' halt)
    one_after (Part.text_stopped number place begins read room halt) (Part.text_stopped number' place' begins' read' room' halt') = let same = settled.stop _ _ _ _ _ _ _ _ halt halt' in cc (same.0, same.1)
    one_after (Part.text_stopped number place begins read room halt) (Part.skipped begins' read' room') = absurd (cc)
    one_after (Part.text_stopped number place begins read room halt) (Part.too_many t' over' plain' at') = absurd (omega arith)
    one_after (Part.text_stopped number place begins read room halt) (Part.too_many_in_text t' out' over' begins' read' at' expansion') = absurd (omega arith)
    one_after (Part.text_stopped number place begins read room halt) (Part.too_many_behind_stop number' place' over' begins' read' halt') = absurd (omega arith)
    one_after (Part.text_stopped number place begins read room halt) (Part.carried after' now' begins' room' carries') = absurd (cc)
    one_after (Part.text_stopped number place begins read room halt) (Part.stuck number' place' begins' room' halted') = absurd (cc)
    one_after (Part.text_stopped number place begins read room halt) (Part.passed now' begins' room' asks_it' inclusion') = absurd (cc)
    one_after (Part.text_stopped number place begins read room halt) (Part.barred number' place' now' begins' room' asks_it' inclusion') = absurd (cc)
    one_after (Part.text_stopped number place begins read room halt) (Part.opened number' inner' now' begins' room' asks_it' inclusion') = absurd (cc)
    one_after (Part.skipped begins read room) (Part.text out' begins' read' room' expansion') = absurd (cc)
    one_after (Part.skipped begins read room) (Part.text_stopped number' place' begins' read' room' halt') = absurd (cc)
    one_after (Part.skipped begins read room) (Part.skipped begins' read' room') = refl
    one_after (Part.skipped begins read room) (Part.too_many t' over' plain' at') = absurd (omega arith)
    one_after (Part.skipped begins read room) (Part.too_many_in_text t' out' over' begins' read' at' expansion') = absurd (omega arith)
    one_after (Part.skipped begins read room) (Part.too_many_behind_stop number' place' over' begins' read' halt') = absurd (omega arith)
    one_after (Part.skipped begins read room) (Part.carried after' now' begins' room' carries') = absurd (cc)
    one_after (Part.skipped begins read room) (Part.stuck number' place' begins' room' halted') = absurd (cc)
    one_after (Part.skipped begins read room) (Part.passed now' begins' room' asks_it' inclusion') = absurd (cc)
    one_after (Part.skipped begins read room) (Part.barred number' place' now' begins' room' asks_it' inclusion') = absurd (cc)
    one_after (Part.skipped begins read room) (Part.opened number' inner' now' begins' room' asks_it' inclusion') = absurd (cc)
    one_after (Part.too_many t over plain at) (Part.text out' begins' read' room' expansion') = absurd (omega arith)
    one_after (Part.too_many t over plain at) (Part.text_stopped number' place' begins' read' room' halt') = absurd (omega arith)
    one_after (Part.too_many t over plain at) (Part.skipped begins' read' room') = absurd (omega arith)
    one_after (Part.too_many t over plain at) (Part.too_many t' over' plain' at') = let same : t' ≡ t = cc in ap (λ x. Stops 16 x.place s) same
    one_after (Part.too_many t over plain at) (Part.too_many_in_text t' out' over' begins' read' at' expansion') = elim plain [ inl x ↦ absurd (cc) | inr x ↦ absurd (cc) ]
    one_after (Part.too_many t over plain at) (Part.too_many_behind_stop number' place' over' begins' read' halt') = elim plain [ inl x ↦ absurd (cc) | inr x ↦ absurd (cc) ]
    one_after (Part.too_many t over plain at) (Part.carried after' now' begins' room' carries') = absurd (omega arith)
    one_after (Part.too_many t over plain at) (Part.stuck number' place' begins' room' halted') = absurd (omega arith)
    one_after (Part.too_many t over plain at) (Part.passed now' begins' room' asks_it' inclusion') = absurd (omega arith)
    one_after (Part.too_many t over plain at) (Part.barred number' place' now' begins' room' asks_it' inclusion') = absurd (omega arith)
    one_after (Part.too_many t over plain at) (Part.opened number' inner' now' begins' room' asks_it' inclusion') = absurd (omega arith)
    one_after (Part.too_many_in_text t out over begins read at expansion) (Part.text out' begins' read' room' expansion') = absurd (omega arith)
    one_after (Part.too_many_in_text t out over begins read at expansion) (Part.text_stopped number' place' begins' read' room' halt') = absurd (omega arith)
    one_after (Part.too_many_in_text t out over begins read at expansion) (Part.skipped begins' read' room') = absurd (omega arith)
    one_after (Part.too_many_in_text t out over begins read at expansion) (Part.too_many t' over' plain' at') = elim plain' [ inl x ↦ absurd (cc) | inr x ↦ absurd (cc) ]
    one_after (Part.too_many_in_text t out over begins read at expansion) (Part.too_many_in_text t' out' over' begins' read' at' expansion') = let same : t' ≡ t = cc in ap (λ x. Stops 16 x.place s) same
    one_after (Part.too_many_in_text t out over begins read at expansion) (Part.too_many_behind_stop number' place' over' begins' read' halt') = absurd (settled.no_stop _ _ _ _ _ _ _ expansion halt')
    one_after (Part.too_many_in_text t out over begins read at expansion) (Part.carried after' now' begins' room' carries') = absurd (omega arith)
    one_after (Part.too_many_in_text t out over begins read at expansion) (Part.stuck number' place' begins' room' halted') = absurd (omega arith)
    one_after (Part.too_many_in_text t out over begins read at expansion) (Part.passed now' begins' room' asks_it' inclusion') = absurd (omega arith)
    one_after (Part.too_many_in_text t out over begins read at expansion) (Part.barred number' place' now' begins' room' asks_it' inclusion') = absurd (omega arith)
    one_after (Part.too_many_in_text t out over begins read at expansion) (Part.opened number' inner' now' begins' room' asks_it' inclusion') = absurd (omega arith)
    one_after (Part.too_many_behind_stop number place over begins read halt) (Part.text out' begins' read' room' expansion') = absurd (omega arith)
    one_after (Part.too_many_behind_stop number place over begins read halt) (Part.text_stopped number' place' begins' read' room' halt') = absurd (omega arith)
    one_after (Part.too_many_behind_stop number place over begins read halt) (Part.skipped begins' read' room') = absurd (omega arith)
    one_after (Part.too_many_behind_stop number place over begins read halt) (Part.too_many t' over' plain' at') = elim plain' [ inl x ↦ absurd (cc) | inr x ↦ absurd (cc) ]
    one_after (Part.too_many_behind_stop number place over begins read halt) (Part.too_many_in_text t' out' over' begins' read' at' expansion') = absurd (settled.no_stop _ _ _ _ _ _ _ expansion' halt)
    one_after (Part.too_many_behind_stop number place over begins read halt) (Part.too_many_behind_stop number' place' over' begins' read' halt') = let same = settled.stop _ _ _ _ _ _ _ _ halt halt' in cc (same.0, same.1)
    one_after (Part.too_many_behind_stop number place over begins read halt) (Part.carried after' now' begins' room' carries') = absurd (omega arith)
    one_after (Part.too_many_behind_stop number place over begins read halt) (Part.stuck number' place' begins' room' halted') = absurd (omega arith)
    one_after (Part.too_many_behind_stop number place over begins read halt) (Part.passed now' begins' room' asks_it' inclusion') = absurd (omega arith)
    one_after (Part.too_many_behind_stop number place over begins read halt) (Part.barred number' place' now' begins' room' asks_it' inclusion') = absurd (omega arith)
    one_after (Part.too_many_behind_stop number place over begins read halt) (Part.opened number' inner' now' begins' room' asks_it' inclusion') = absurd (omega arith)
    one_after (Part.carried after now begins room carries) (Part.text out' begins' read' room' expansion') = absurd (cc)
    one_after (Part.carried after now begins room carries) (Part.text_stopped number' place' begins' read' room' halt') = absurd (cc)
    one_after (Part.carried after now begins room carries) (Part.skipped begins' read' room') = absurd (cc)
    one_after (Part.carried after now begins room carries) (Part.too_many t' over' plain' at') = absurd (omega arith)
    one_after (Part.carried after now begins room carries) (Part.too_many_in_text t' out' over' begins' read' at' expansion') = absurd (omega arith)
    one_after (Part.carried after now begins room carries) (Part.too_many_behind_stop number' place' over' begins' read' halt') = absurd (omega arith)
    one_after (Part.carried after now begins room carries) (Part.carried after' now' begins' room' carries') = let same = one_carried file (take size ps) bs (with_read s size) distinct.texts carries carries' in cc (same.0, same.1)
    one_after (Part.carried after now begins room carries) (Part.stuck number' place' begins' room' halted') = absurd (carried_or_stuck file (take size ps) bs (with_read s size) distinct.texts carries halted')
    one_after (Part.carried after now begins room carries) (Part.passed now' begins' room' asks_it' inclusion') = absurd (carries_no_file file (take size ps) bs (with_read s size) distinct.texts carries asks_it')
    one_after (Part.carried after now begins room carries) (Part.barred number' place' now' begins' room' asks_it' inclusion') = absurd (carries_no_file file (take size ps) bs (with_read s size) distinct.texts carries asks_it')
    one_after (Part.carried after now begins room carries) (Part.opened number' inner' now' begins' room' asks_it' inclusion') = absurd (carries_no_file file (take size ps) bs (with_read s size) distinct.texts carries asks_it')
    one_after (Part.stuck number place begins room halted) (Part.text out' begins' read' room' expansion') = absurd (cc)
    one_after (Part.stuck number place begins room halted) (Part.text_stopped number' place' begins' read' room' halt') = absurd (cc)
    one_after (Part.stuck number place begins room halted) (Part.skipped begins' read' room') = absurd (cc)
    one_after (Part.stuck number place begins room halted) (Part.too_many t' over' plain' at') = absurd (omega arith)
    one_after (Part.stuck number place begins room halted) (Part.too_many_in_text t' out' over' begins' read' at' expansion') = absurd (omega arith)
    one_after (Part.stuck number place begins room halted) (Part.too_many_behind_stop number' place' over' begins' read' halt') = absurd (omega arith)
    one_after (Part.stuck number place begins room halted) (Part.carried after' now' begins' room' carries') = absurd (carried_or_stuck file (take size ps) bs (with_read s size) distinct.texts carries' halted)
    one_after (Part.stuck number place begins room halted) (Part.stuck number' place' begins' room' halted') = let same = one_stuck file (take size ps) bs (with_read s size) distinct.texts halted halted' in cc (same.0, same.1)
    one_after (Part.stuck number place begins room halted) (Part.passed now' begins' room' asks_it' inclusion') = absurd (stuck_without_file file (take size ps) bs (with_read s size) distinct.texts halted asks_it')
    one_after (Part.stuck number place begins room halted) (Part.barred number' place' now' begins' room' asks_it' inclusion') = absurd (stuck_without_file file (take size ps) bs (with_read s size) distinct.texts halted asks_it')
    one_after (Part.stuck number place begins room halted) (Part.opened number' inner' now' begins' room' asks_it' inclusion') = absurd (stuck_without_file file (take size ps) bs (with_read s size) distinct.texts halted asks_it')
    one_after (Part.passed now begins room asks_it inclusion) (Part.text out' begins' read' room' expansion') = absurd (cc)
    one_after (Part.passed now begins room asks_it inclusion) (Part.text_stopped number' place' begins' read' room' halt') = absurd (cc)
    one_after (Part.passed now begins room asks_it inclusion) (Part.skipped begins' read' room') = absurd (cc)
    one_after (Part.passed now begins room asks_it inclusion) (Part.too_many t' over' plain' at') = absurd (omega arith)
    one_after (Part.passed now begins room asks_it inclusion) (Part.too_many_in_text t' out' over' begins' read' at' expansion') = absurd (omega arith)
    one_after (Part.passed now begins room asks_it inclusion) (Part.too_many_behind_stop number' place' over' begins' read' halt') = absurd (omega arith)
    one_after (Part.passed now begins room asks_it inclusion) (Part.carried after' now' begins' room' carries') = absurd (carries_no_file file (take size ps) bs (with_read s size) distinct.texts carries' asks_it)
    one_after (Part.passed now begins room asks_it inclusion) (Part.stuck number' place' begins' room' halted') = absurd (stuck_without_file file (take size ps) bs (with_read s size) distinct.texts halted' asks_it)
    one_after (Part.passed now begins room asks_it inclusion) (Part.passed now' begins' room' asks_it' inclusion') = let same = one_inclusion held depth (drop 2 (take size ps)) (with_read s size) read_distinct inclusion inclusion' in cc (same.0, same.1)
    one_after (Part.passed now begins room asks_it inclusion) (Part.barred number' place' now' begins' room' asks_it' inclusion') = let same = one_inclusion held depth (drop 2 (take size ps)) (with_read s size) read_distinct inclusion inclusion' in absurd (cc (same.0))
    one_after (Part.passed now begins room asks_it inclusion) (Part.opened number' inner' now' begins' room' asks_it' inclusion') = let same = one_inclusion held depth (drop 2 (take size ps)) (with_read s size) read_distinct inclusion inclusion' in absurd (cc (same.0))
    one_after (Part.barred number place now begins room asks_it inclusion) (Part.text out' begins' read' room' expansion') = absurd (cc)
    one_after (Part.barred number place now begins room asks_it inclusion) (Part.text_stopped number' place' begins' read' room' halt') = absurd (cc)
    one_after (Part.barred number place now begins room asks_it inclusion) (Part.skipped begins' read' room') = absurd (cc)
    one_after (Part.barred number place now begins room asks_it inclusion) (Part.too_many t' over' plain' at') = absurd (omega arith)
    one_after (Part.barred number place now begins room asks_it inclusion) (Part.too_many_in_text t' out' over' begins' read' at' expansion') = absurd (omega arith)
    one_after (Part.barred number place now begins room asks_it inclusion) (Part.too_many_behind_stop number' place' over' begins' read' halt') = absurd (omega arith)
    one_after (Part.barred number place now begins room asks_it inclusion) (Part.carried after' now' begins' room' carries') = absurd (carries_no_file file (take size ps) bs (with_read s size) distinct.texts carries' asks_it)
    one_after (Part.barred number place now begins room asks_it inclusion) (Part.stuck number' place' begins' room' halted') = absurd (stuck_without_file file (take size ps) bs (with_read s size) distinct.texts halted' asks_it)
    one_after (Part.barred number place now begins room asks_it inclusion) (Part.passed now' begins' room' asks_it' inclusion') = let same = one_inclusion held depth (drop 2 (take size ps)) (with_read s size) read_distinct inclusion inclusion' in absurd (cc (same.0))
    one_after (Part.barred number place now begins room asks_it inclusion) (Part.barred number' place' now' begins' room' asks_it' inclusion') = let same = one_inclusion held depth (drop 2 (take size ps)) (with_read s size) read_distinct inclusion inclusion' in cc (same.0, same.1)
    one_after (Part.barred number place now begins room asks_it inclusion) (Part.opened number' inner' now' begins' room' asks_it' inclusion') = let same = one_inclusion held depth (drop 2 (take size ps)) (with_read s size) read_distinct inclusion inclusion' in absurd (cc (same.0))
    one_after (Part.opened number inner now begins room asks_it inclusion) (Part.text out' begins' read' room' expansion') = absurd (cc)
    one_after (Part.opened number inner now begins room asks_it inclusion) (Part.text_stopped number' place' begins' read' room' halt') = absurd (cc)
    one_after (Part.opened number inner now begins room asks_it inclusion) (Part.skipped begins' read' room') = absurd (cc)
    one_after (Part.opened number inner now begins room asks_it inclusion) (Part.too_many t' over' plain' at') = absurd (omega arith)
    one_after (Part.opened number inner now begins room asks_it inclusion) (Part.too_many_in_text t' out' over' begins' read' at' expansion') = absurd (omega arith)
    one_after (Part.opened number inner now begins room asks_it inclusion) (Part.too_many_behind_stop number' place' over' begins' read' halt') = absurd (omega arith)
    one_after (Part.opened number inner now begins room asks_it inclusion) (Part.carried after' now' begins' room' carries') = absurd (carries_no_file file (take size ps) bs (with_read s size) distinct.texts carries' asks_it)
    one_after (Part.opened number inner now begins room asks_it inclusion) (Part.stuck number' place' begins' room' halted') = absurd (stuck_without_file file (take size ps) bs (with_read s size) distinct.texts halted' asks_it)
    one_after (Part.opened number inner now begins room asks_it inclusion) (Part.passed now' begins' room' asks_it' inclusion') = let same = one_inclusion held depth (drop 2 (take size ps)) (with_read s size) read_distinct inclusion inclusion' in absurd (cc (same.0))
    one_after (Part.opened number inner now begins room asks_it inclusion) (Part.barred number' place' now' begins' room' asks_it' inclusion') = let same = one_inclusion held depth (drop 2 (take size ps)) (with_read s size) read_distinct inclusion inclusion' in absurd (cc (same.0))
    one_after (Part.opened number inner now begins room asks_it inclusion) (Part.opened number' inner' now' begins' room' asks_it' inclusion') = let same = one_inclusion held depth (drop 2 (take size ps)) (with_read s size) read_distinct inclusion inclusion' in cc (same.0, same.1)

    after_distinct : {after : After} → Part (Some held) limit depth file bs s ps size after → IsDistinctAfter after
    after_distinct (Part.text out begins read room expansion) = record { texts = distinct.texts; files = distinct.files }
    after_distinct (Part.text_stopped number place begins read room halt) = distinct
    after_distinct (Part.skipped begins read room) = record { texts = distinct.texts; files = distinct.files }
    after_distinct (Part.too_many t over plain at) = distinct
    after_distinct (Part.too_many_in_text t out over begins read at expansion) = distinct
    after_distinct (Part.too_many_behind_stop number place over begins read halt) = distinct
    after_distinct (Part.carried after now begins room carries) = carried_distinct file (take size ps) bs (with_read s size) distinct.texts distinct.files carries
    after_distinct (Part.stuck number place begins room halted) = distinct
    after_distinct (Part.passed now begins room asks_it inclusion) = included_distinct held depth (drop 2 (take size ps)) (with_read s size) read_distinct inclusion
    after_distinct (Part.barred number place now begins room asks_it inclusion) = included_distinct held depth (drop 2 (take size ps)) (with_read s size) read_distinct inclusion
    after_distinct (Part.opened number inner now begins room asks_it inclusion) = included_distinct held depth (drop 2 (take size ps)) (with_read s size) read_distinct inclusion

  pub parts_have_one_answer : (held : List ℕ → Option (List ℕ)) → HaveOneAnswer (Some held) limit
  parts_have_one_answer held = record {
    one = λ {depth} {file} {bs} {s} {ps} {size} distinct first second. one_after held depth file bs s ps size distinct second.follows first.follows;
    kept = λ {depth} {file} {bs} {s} {ps} {size} distinct part. after_distinct held depth file bs s ps size distinct part.follows;
  }
