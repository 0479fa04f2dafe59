-- The reader of annotations of a depth by that of the next lower one.
use Rattle.std.proofs.Common.{◌≡◌, ℕ, zero, suc, ◌-◌, ◌<◌, List, refl, ap, arith}
use Rattle.sb_base.specs.declared.tokens.Token.{Token}
use Rattle.sb_lexicon.specs.Lexicon.{Lexicon}
use Rattle.sb_sal.specs.declared.bearer.Bearer.{Bearer}
use Rattle.sb_sal.specs.Meaning.{noted}
use Rattle.sb_sal.specs.Parts.{no_note}
use Rattle.sb_sal.specs.Readers.{note, note_reader}
use Rattle.sb_sal.specs.Spellings.{may_stand}

pub one_note : (w : Lexicon) (bearer : Bearer) (left : ℕ) (ts : List Token) → 0 < left → note_reader w left (may_stand w bearer) ts ≡ noted note w (left - 1) bearer ts
unfolding note_reader
one_note w bearer zero ts some = absurd (omega arith)
one_note w bearer (suc below) ts some = ap (λ m. noted note w m bearer ts) (let same : below ≡ suc below - 1 = omega arith in same)

pub no_notes : (w : Lexicon) (bearer : Bearer) (left : ℕ) (ts : List Token) → left ≡ 0 → note_reader w left (may_stand w bearer) ts ≡ no_note w (may_stand w bearer) ts
unfolding note_reader
no_notes w bearer zero ts none = refl
no_notes w bearer (suc below) ts none = absurd (omega arith)
