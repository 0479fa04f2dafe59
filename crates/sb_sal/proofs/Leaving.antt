-- What the reader of annotations leaves is the end of what it was given.
use Rattle.std.proofs.Common.{ℕ}
use Rattle.sb_parse.specs.Read.{IsLongest}
use Rattle.sb_lexicon.specs.Lexicon.{Lexicon}
use Rattle.sb_expr.proofs.Leaving.{Leaves}
use Rattle.sb_sal.specs.declared.bearer.Bearer.{Bearer}
use Rattle.sb_sal.specs.Readers.{notes_reader}
use Rattle.sb_sal.specs.Reads.{FitsNotes}
use Rattle.sb_sal.specs.Spellings.{may_stand}
use Rattle.sb_sal.proofs.Annotations.{notes_longest}
use Rattle.sb_sal.proofs.Filled.{filled}

pub notes_leave : (w : Lexicon) (left : ℕ) (bearer : Bearer) → Leaves (notes_reader w left (may_stand w bearer))
notes_leave w left bearer = record {
  ends = λ ts ns rest read.
      let l : IsLongest (FitsNotes w left (may_stand w bearer)) ts ns rest = notes_longest w left (may_stand w bearer) (filled w bearer) ts ns rest read in
      record { front = l.front; split = l.split };
}
