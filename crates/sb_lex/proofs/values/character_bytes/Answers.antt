use Rattle.std.proofs.Common.{[]}
use Rattle.std.proofs.lemmas.List.{append-nil}
use Rattle.sb_lex.proofs.Literals.{at_end, not_bad, behind, goes_on}
use Rattle.sb_lex.proofs.values.character_bytes.Goals as goal

pub returns-in_default : goal.returns-in_default
returns-in_default c = record { characters = λ bytes named. let left = c.characters.invariant.only bytes named in not_bad c.characters.rest.now left.0 c.characters-test.ensures c.in_default.ensures.byte left.1 }

pub characters-preserved : goal.characters-preserved
characters-preserved c = record {
  goes = λ more named. rw c.in_ok-push.ensures.items (goes_on c.args.text.now c.characters.rest.now c.in-Some.behind.now c.characters.bytes.items more c.in-Some.byte c.in-Some.ensures.byte c.characters.invariant.goes named);
  only = λ all named. let left = c.characters.invariant.only all named in let next = behind c.characters.rest.now c.in-Some.behind.now left.0 c.in-Some.byte c.in-Some.ensures.byte left.1 in (next.0, next.2);
}

pub returns : goal.returns
returns c = record { characters = rw append-nil at (c.characters.invariant.goes [] (at_end c.characters.rest.now c.characters-test.ensures)) }
