use Rattle.std.proofs.Common.{◌≡◌, length}
use Rattle.sb_base.specs.Names.{IsDistinct}
use Rattle.sb_prep.proofs.Beginnings.{Goes}
use Rattle.sb_prep.proofs.tokens.tokens.Given as goal

abbrev pub invariant-pieces : goal.invariant-pieces
invariant-pieces l = record {
  goes : Goes l.initial.names.limit l.initial.names.texts l.pieces l.tokens.items l.names.texts l.rest;
  limit : l.names.limit ≡ l.initial.names.limit;
  distinct : IsDistinct l.initial.names.texts → IsDistinct l.names.texts;
}

abbrev pub decreases-pieces : goal.decreases-pieces
decreases-pieces l = length l.rest
