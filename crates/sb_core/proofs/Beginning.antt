-- A core with the first types and nothing else is well formed.
use Rattle.std.proofs.Common.{[], take, refl, ap, sym}
use Rattle.std.proofs.lemmas.List.Elements.{All-same, All-nil}
use Rattle.sb_core.specs.Beginning.{first_types}
use Rattle.sb_core.specs.Formed.{IsFunction, IsTable}
use Rattle.sb_core.specs.Layout.{layout_of, IsFounded, known_after}
use Rattle.sb_core.specs.Laws.{BeginsFormed}

first_are_founded : IsFounded first_types
unfolding known_after
first_are_founded = refl

pub begins_formed : BeginsFormed
begins_formed core b = record {
  first = ap (take 13) b.types;
  founded = rw b.types first_are_founded;
  layout = ap layout_of (sym b.types);
  tables = All-same (IsTable (layout_of first_types) core) core.tables.items [] b.tables (All-nil (IsTable (layout_of first_types) core));
  functions = All-same (IsFunction (layout_of first_types) core) core.functions.items [] b.functions (All-nil (IsFunction (layout_of first_types) core));
}
