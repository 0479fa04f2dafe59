use Rattle.std.proofs.Common.{refl, []}
use Rattle.sb_lex.proofs.Literals.{at_end, on}
use Rattle.sb_lex.proofs.values.are_characters.Goals as goal

pub characters-preserved : goal.characters-preserved
characters-preserved c =
    let step = on c.characters.rest.now c.in-Some.behind.now c.in-Some._byte c.in-Some.ensures.byte in
    (λ found. c.characters.invariant.0 (step.1 found), λ found. step.0 (c.characters.invariant.1 found))

pub returns : goal.returns
returns c = record { characters = (λ _. c.characters.invariant.0 ([], at_end c.characters.rest.now c.characters-test.ensures), λ _. refl) }
