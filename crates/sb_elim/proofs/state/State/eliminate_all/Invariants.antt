use Rattle.std.proofs.Common.{◌≡◌, length}
use Rattle.sb_term.specs.Elimination.{eliminate_all as all_eliminated}
use Rattle.sb_elim.proofs.state.State.eliminate_all.Given as goal

abbrev pub invariant-loop-turn : goal.invariant-loop-turn
invariant-loop-turn l =
    all_eliminated l.turn l.left.items l.self ≡ all_eliminated (length l.fn.symbols.items) l.fn.symbols.items l.fn.self
