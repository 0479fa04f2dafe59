use Rattle.std.proofs.Common.{◌≡◌, ◌≤◌, ◌*◌, [], drop, length, map, string_bytes}
use Rattle.sb_top.specs.Sets.{most_names, tokens_of}
use Rattle.sb_top.proofs.UnitSteps.{Goes}
use Rattle.sb_top.proofs.sets.units_of_words.Given as goal

abbrev pub invariant-loop-name : goal.invariant-loop-name
invariant-loop-name g l = record {
  goes : Goes (g.L.Library.held l.fn.lib) most_names [] [] (map string_bytes l.asked) (tokens_of l.units.items) l.names.texts l.files (map string_bytes (drop l.name-index l.asked));
  held : g.L.Library.held l.lib ≡ g.L.Library.held l.fn.lib;
  faults : g.L.Library.faults l.lib ≡ g.L.Library.faults l.fn.lib;
  limit : l.names.limit ≡ most_names;
  few : length l.files ≤ l.name-index * 4000001;
}
