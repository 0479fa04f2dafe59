-- a unit over a library that tells has one outcome, where each part of a file has
use Rattle.std.proofs.Common.{◌≡◌, ℕ, suc, List, [], length, Option, Some, refl, sym, ◌∙◌, ap, arith}
use Rattle.sb_base.specs.Found.{Found, Missing, TooBig, Whole as Present, IsFound}
use Rattle.sb_base.specs.declared.refusals.Place.{Place}
use Rattle.sb_lex.specs.declared.piece.PpToken.{PpToken}
use Rattle.sb_directive.specs.declared.directive.Branch.{Branch}
use Rattle.sb_directive.specs.Ending.{Ending, Refused}
use Rattle.sb_prep.specs.Unit.{Progress, HasPart, After, Leaves}
use Rattle.sb_prep.proofs.Determined.{AreDistinct, HaveOneAnswer}

-- two outcomes are the same
pub record IsSame (out out' : List PpToken) (later later' : Progress) (end end' : Ending) : Type 0 where
  pub outs : out' ≡ out
  pub laters : later' ≡ later
  pub ends : end' ≡ end

module _ (held : Option (List ℕ → Option (List ℕ))) (limit : ℕ) (settled : HaveOneAnswer held limit) where
  nothing_there : {depth file : ℕ} {bs : List Branch} {s : Progress} {ps : List PpToken} {size : ℕ} {after : After} → HasPart held limit depth file bs s ps size after → ps ≡ [] → ⊥
  nothing_there {s = s} part none = let empty = rw none at part.front.size_is in let some = part.front.some in omega arith

  same_part : {depth depth' file file' : ℕ} {bs bs' : List Branch} {s s' : Progress} {ps ps' : List PpToken} {size size' : ℕ} {after after' : After}
      → HasPart held limit depth file bs s ps size after → HasPart held limit depth' file' bs' s' ps' size' after' → depth' ≡ depth → file' ≡ file → bs' ≡ bs → s' ≡ s → ps' ≡ ps → AreDistinct s
      → (after' ≡ after) × (size' ≡ size)
  same_part {depth} {s = s} {ps = ps} {size = size} part part' d f b t p distinct =
      let sizes = rw (t, p) at part'.front.size_is ∙ sym part.front.size_is in
      (settled.one distinct (rw (d, f, b, t, p, sizes) at part') part, sizes)

  pub keeps : {depth file : ℕ} {last : Place} {bs : List Branch} {s later : Progress} {ps out : List PpToken} {end : Ending} → Leaves held limit depth file last bs s ps out later end → AreDistinct s → AreDistinct later
  keeps (Leaves.ended depth file last s) distinct = distinct
  keeps (Leaves.unclosed depth file last b bs s) distinct = distinct
  keeps (Leaves.goes_on depth file last bs after s now later ps given more size end part rest) distinct = keeps rest (settled.kept distinct part)
  keeps (Leaves.stops depth file last bs s now ps size number place part) distinct = settled.kept distinct part
  keeps (Leaves.included depth file last bs s now middle later ps inner given more size number end part inside rest) distinct = keeps rest (keeps inside (settled.kept distinct part))
  keeps (Leaves.stops_inside depth file last bs s now later ps inner given size number refusal place part inside) distinct = keeps inside (settled.kept distinct part)

  pub one_leaving : {depth depth' file file' : ℕ} {last last' : Place} {bs bs' : List Branch} {s s' later later' : Progress} {ps ps' out out' : List PpToken} {end end' : Ending}
      → Leaves held limit depth file last bs s ps out later end → Leaves held limit depth' file' last' bs' s' ps' out' later' end' → depth' ≡ depth → file' ≡ file → last' ≡ last → bs' ≡ bs → s' ≡ s → ps' ≡ ps → AreDistinct s
      → IsSame out out' later later' end end'
  one_leaving (Leaves.ended depth file last s) (Leaves.ended depth' file' last' s') d f l b t p distinct = record { outs = refl; laters = t; ends = refl }
  one_leaving (Leaves.ended depth file last s) (Leaves.unclosed depth' file' last' x' bs' s') d f l b t p distinct = absurd (cc)
  one_leaving (Leaves.ended depth file last s) (Leaves.goes_on depth' file' last' bs' after' s' now' later' ps' given' more' size' end' part' rest') d f l b t p distinct = absurd (nothing_there part' p)
  one_leaving (Leaves.ended depth file last s) (Leaves.stops depth' file' last' bs' s' now' ps' size' number' place' part') d f l b t p distinct = absurd (nothing_there part' p)
  one_leaving (Leaves.ended depth file last s) (Leaves.included depth' file' last' bs' s' now' middle' later' ps' inner' given' more' size' number' end' part' inside' rest') d f l b t p distinct = absurd (nothing_there part' p)
  one_leaving (Leaves.ended depth file last s) (Leaves.stops_inside depth' file' last' bs' s' now' later' ps' inner' given' size' number' refusal' place' part' inside') d f l b t p distinct = absurd (nothing_there part' p)
  one_leaving (Leaves.unclosed depth file last x bs s) (Leaves.ended depth' file' last' s') d f l b t p distinct = absurd (cc)
  one_leaving (Leaves.unclosed depth file last x bs s) (Leaves.unclosed depth' file' last' x' bs' s') d f l e t p distinct = record { outs = refl; laters = t; ends = ap (Refused 25) l }
  one_leaving (Leaves.unclosed depth file last x bs s) (Leaves.goes_on depth' file' last' bs' after' s' now' later' ps' given' more' size' end' part' rest') d f l b t p distinct = absurd (nothing_there part' p)
  one_leaving (Leaves.unclosed depth file last x bs s) (Leaves.stops depth' file' last' bs' s' now' ps' size' number' place' part') d f l b t p distinct = absurd (nothing_there part' p)
  one_leaving (Leaves.unclosed depth file last x bs s) (Leaves.included depth' file' last' bs' s' now' middle' later' ps' inner' given' more' size' number' end' part' inside' rest') d f l b t p distinct = absurd (nothing_there part' p)
  one_leaving (Leaves.unclosed depth file last x bs s) (Leaves.stops_inside depth' file' last' bs' s' now' later' ps' inner' given' size' number' refusal' place' part' inside') d f l b t p distinct = absurd (nothing_there part' p)
  one_leaving (Leaves.goes_on depth file last bs after s now later ps given more size end part rest) (Leaves.ended depth' file' last' s') d f l b t p distinct = absurd (nothing_there part (sym p))
  one_leaving (Leaves.goes_on depth file last bs after s now later ps given more size end part rest) (Leaves.unclosed depth' file' last' x' bs' s') d f l b t p distinct = absurd (nothing_there part (sym p))
  one_leaving (Leaves.goes_on depth file last bs after s now later ps given more size end part rest) (Leaves.goes_on depth' file' last' bs' after' s' now' later' ps' given' more' size' end' part' rest') d f l b t p distinct =
      let same = same_part part part' d f b t p distinct in
      let givens : given' ≡ given = cc (same.0) in
      let tail = one_leaving rest rest' d f l (cc (same.0)) (cc (same.0)) (cc (same.1, p)) (settled.kept distinct part) in
      record { outs = cc (givens, tail.outs); laters = tail.laters; ends = tail.ends }
  one_leaving (Leaves.goes_on depth file last bs after s now later ps given more size end part rest) (Leaves.stops depth' file' last' bs' s' now' ps' size' number' place' part') d f l b t p distinct = absurd (cc (same_part part part' d f b t p distinct).0)
  one_leaving (Leaves.goes_on depth file last bs after s now later ps given more size end part rest) (Leaves.included depth' file' last' bs' s' now' middle' later' ps' inner' given' more' size' number' end' part' inside' rest') d f l b t p distinct = absurd (cc (same_part part part' d f b t p distinct).0)
  one_leaving (Leaves.goes_on depth file last bs after s now later ps given more size end part rest) (Leaves.stops_inside depth' file' last' bs' s' now' later' ps' inner' given' size' number' refusal' place' part' inside') d f l b t p distinct = absurd (cc (same_part part part' d f b t p distinct).0)
  one_leaving (Leaves.stops depth file last bs s now ps size number place part) (Leaves.ended depth' file' last' s') d f l b t p distinct = absurd (nothing_there part (sym p))
  one_leaving (Leaves.stops depth file last bs s now ps size number place part) (Leaves.unclosed depth' file' last' x' bs' s') d f l b t p distinct = absurd (nothing_there part (sym p))
  one_leaving (Leaves.stops depth file last bs s now ps size number place part) (Leaves.goes_on depth' file' last' bs' after' s' now' later' ps' given' more' size' end' part' rest') d f l b t p distinct = absurd (cc (same_part part part' d f b t p distinct).0)
  one_leaving (Leaves.stops depth file last bs s now ps size number place part) (Leaves.stops depth' file' last' bs' s' now' ps' size' number' place' part') d f l b t p distinct =
      let same = same_part part part' d f b t p distinct in
      record { outs = refl; laters = cc (same.0); ends = cc (same.0) }
  one_leaving (Leaves.stops depth file last bs s now ps size number place part) (Leaves.included depth' file' last' bs' s' now' middle' later' ps' inner' given' more' size' number' end' part' inside' rest') d f l b t p distinct = absurd (cc (same_part part part' d f b t p distinct).0)
  one_leaving (Leaves.stops depth file last bs s now ps size number place part) (Leaves.stops_inside depth' file' last' bs' s' now' later' ps' inner' given' size' number' refusal' place' part' inside') d f l b t p distinct = absurd (cc (same_part part part' d f b t p distinct).0)
  one_leaving (Leaves.included depth file last bs s now middle later ps inner given more size number end part inside rest) (Leaves.ended depth' file' last' s') d f l b t p distinct = absurd (nothing_there part (sym p))
  one_leaving (Leaves.included depth file last bs s now middle later ps inner given more size number end part inside rest) (Leaves.unclosed depth' file' last' x' bs' s') d f l b t p distinct = absurd (nothing_there part (sym p))
  one_leaving (Leaves.included depth file last bs s now middle later ps inner given more size number end part inside rest) (Leaves.goes_on depth' file' last' bs' after' s' now' later' ps' given' more' size' end' part' rest') d f l b t p distinct = absurd (cc (same_part part part' d f b t p distinct).0)
  one_leaving (Leaves.included depth file last bs s now middle later ps inner given more size number end part inside rest) (Leaves.stops depth' file' last' bs' s' now' ps' size' number' place' part') d f l b t p distinct = absurd (cc (same_part part part' d f b t p distinct).0)
  one_leaving (Leaves.included depth file last bs s now middle later ps inner given more size number end part inside rest) (Leaves.included depth' file' last' bs' s' now' middle' later' ps' inner' given' more' size' number' end' part' inside' rest') d f l b t p distinct =
      let same = same_part part part' d f b t p distinct in
      let numbers : number' ≡ number = cc (same.0) in
      let inners : inner' ≡ inner = cc (same.0) in
      let inner_same = one_leaving inside inside' (ap suc d) numbers (cc (numbers, inners)) refl (cc (same.0)) inners (settled.kept distinct part) in
      let tail = one_leaving rest rest' d f l b inner_same.laters (cc (same.1, p)) (keeps inside (settled.kept distinct part)) in
      record { outs = cc (inner_same.outs, tail.outs); laters = tail.laters; ends = tail.ends }
  one_leaving (Leaves.included depth file last bs s now middle later ps inner given more size number end part inside rest) (Leaves.stops_inside depth' file' last' bs' s' now' later' ps' inner' given' size' number' refusal' place' part' inside') d f l b t p distinct =
      let same = same_part part part' d f b t p distinct in
      let numbers : number' ≡ number = cc (same.0) in
      let inners : inner' ≡ inner = cc (same.0) in
      let inner_same = one_leaving inside inside' (ap suc d) numbers (cc (numbers, inners)) refl (cc (same.0)) inners (settled.kept distinct part) in
      absurd (cc (inner_same.ends))
  one_leaving (Leaves.stops_inside depth file last bs s now later ps inner given size number refusal place part inside) (Leaves.ended depth' file' last' s') d f l b t p distinct = absurd (nothing_there part (sym p))
  one_leaving (Leaves.stops_inside depth file last bs s now later ps inner given size number refusal place part inside) (Leaves.unclosed depth' file' last' x' bs' s') d f l b t p distinct = absurd (nothing_there part (sym p))
  one_leaving (Leaves.stops_inside depth file last bs s now later ps inner given size number refusal place part inside) (Leaves.goes_on depth' file' last' bs' after' s' now' later' ps' given' more' size' end' part' rest') d f l b t p distinct = absurd (cc (same_part part part' d f b t p distinct).0)
  one_leaving (Leaves.stops_inside depth file last bs s now later ps inner given size number refusal place part inside) (Leaves.stops depth' file' last' bs' s' now' ps' size' number' place' part') d f l b t p distinct = absurd (cc (same_part part part' d f b t p distinct).0)
  one_leaving (Leaves.stops_inside depth file last bs s now later ps inner given size number refusal place part inside) (Leaves.included depth' file' last' bs' s' now' middle' later' ps' inner' given' more' size' number' end' part' inside' rest') d f l b t p distinct =
      let same = same_part part part' d f b t p distinct in
      let numbers : number' ≡ number = cc (same.0) in
      let inners : inner' ≡ inner = cc (same.0) in
      let inner_same = one_leaving inside inside' (ap suc d) numbers (cc (numbers, inners)) refl (cc (same.0)) inners (settled.kept distinct part) in
      absurd (cc (inner_same.ends))
  one_leaving (Leaves.stops_inside depth file last bs s now later ps inner given size number refusal place part inside) (Leaves.stops_inside depth' file' last' bs' s' now' later' ps' inner' given' size' number' refusal' place' part' inside') d f l b t p distinct =
      let same = same_part part part' d f b t p distinct in
      let numbers : number' ≡ number = cc (same.0) in
      let inners : inner' ≡ inner = cc (same.0) in
      let inner_same = one_leaving inside inside' (ap suc d) numbers (cc (numbers, inners)) refl (cc (same.0)) inners (settled.kept distinct part) in
      inner_same

-- ---- files and numbers

pub one_found : (held : List ℕ → Option (List ℕ)) (name : List ℕ) (found found' : Found) → IsFound (Some held) name found → IsFound (Some held) name found' → found' ≡ found
one_found held name Missing Missing first second = refl
one_found held name Missing TooBig first second = absurd (cc (second.1))
one_found held name Missing (Present bytes') first second = absurd (cc (second.0))
one_found held name TooBig Missing first second = absurd (cc (first.1))
one_found held name TooBig TooBig first second = refl
one_found held name TooBig (Present bytes') first second = let same : bytes' ≡ first.0 = cc (first.1, second.0) in absurd (omega (arith, first.2, second.1, ap length same))
one_found held name (Present bytes) Missing first second = absurd (cc (first.0))
one_found held name (Present bytes) TooBig first second = let same : bytes ≡ second.0 = cc (first.0, second.1) in absurd (omega (arith, first.1, second.2, ap length same))
one_found held name (Present bytes) (Present bytes') first second = ap Present (cc (first.0, second.0))
