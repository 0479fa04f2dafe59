use Rattle.std.proofs.Common.{rules, ◌<◌, ◌≤◌, length}
use Rattle.std.proofs.lemmas.Result.{err_from_is_err_and}
use Rattle.sb_function.specs.Trees.{trees}
use Rattle.sb_function.proofs.Steps.Whole as steps
use Rattle.sb_function.proofs.files.read_whole.Goals as goal

pub returns : goal.returns
returns c = record { read = steps.whole_ends c.args.pieces.now (trees c.in_ok-found.found.value.items) c.in_ok-found.found.rest.now c.in_ok-found.ensures.read (let none : length c.in_ok-found.found.rest.now ≤ 0 = search rules in none) }

pub returns-then-found-gt0 : goal.returns-then-found-gt0
returns-then-found-gt0 c = record { read = steps.whole_stops c.args.pieces.now (trees c.in_ok-found.found.value.items) c.in_ok-found.found.rest.now c.in_ok-found.ensures.read (let some : 0 < length c.in_ok-found.found.rest.now = search rules in some) }

pub returns-in_err-found : goal.returns-in_err-found
returns-in_err-found c =
    let p = err_from_is_err_and c.from_residual.result c.from_residual.ensures.1 in
    record { read = rw (p.1, p.2) (steps.whole_fault c.args.pieces.now _ c.in_err-found.ensures.read) }
