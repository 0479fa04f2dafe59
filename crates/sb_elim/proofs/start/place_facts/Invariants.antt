use Rattle.std.proofs.Common.{◌≡◌, drop}
use Rattle.sb_term.specs.Elimination.{place_facts as facts_placed}
use Rattle.sb_elim.proofs.start.place_facts.Given as goal

abbrev pub invariant-loop-k : goal.invariant-loop-k
invariant-loop-k l = facts_placed l.k (drop l.k l.facts) l.state ≡ facts_placed 0 l.facts l.fn.state
