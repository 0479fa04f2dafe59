use Rattle.std.proofs.Common.{◌≡◌, length}
use Rattle.sb_base.specs.Names.{IsDistinct}
use Rattle.sb_directive.proofs.Preparations.{Goes}
use Rattle.sb_directive.proofs.defined.prepare.Given as goal

abbrev pub invariant-turns : goal.invariant-turns
invariant-turns l = record {
  goes : Goes l.initial.names.limit l.rules l.initial.names.texts l.line l.pieces.items l.names.texts l.rest;
  limit : l.names.limit ≡ l.initial.names.limit;
  distinct : IsDistinct l.initial.names.texts → IsDistinct l.names.texts;
}

abbrev pub decreases-turns : goal.decreases-turns
decreases-turns l = length l.rest
