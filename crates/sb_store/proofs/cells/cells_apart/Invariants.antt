use Rattle.std.proofs.Common.{◌≡◌, ◌++◌, drop}
use Rattle.std.specs.List.{filter}
use Rattle.sb_store.specs.Stores.{is_apart}
use Rattle.sb_store.proofs.cells.cells_apart.Given as goal

abbrev pub invariant-loop-cell : goal.invariant-loop-cell
invariant-loop-cell l = l.left ++ filter (is_apart l.region l.offset) (drop l.cell-index l.cells) ≡ filter (is_apart l.fn.region l.fn.offset) l.fn.cells
