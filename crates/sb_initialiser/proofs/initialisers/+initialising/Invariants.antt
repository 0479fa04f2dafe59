use Rattle.std.proofs.Common.{◌≡◌, ◌≤◌, ◌+◌, ◌*◌, ◌-◌, length, not}
use Rattle.sb_parse.specs.Parser.{loop}
use Rattle.sb_lexicon.specs.Meaning.{meant}
use Rattle.sb_initialiser.specs.Initialisers.{plain_initialisers, AreInitialisersKnown}
use Rattle.sb_initialiser.specs.Readers as spec
use Rattle.sb_specifier.specs.Readers.{is_close_brace}
use Rattle.sb_initialiser.proofs.initialisers.+initialising.Given as goal

abbrev pub decreases-initialiser : goal.decreases-initialiser
decreases-initialiser l = 10 * l.left

abbrev pub decreases-initialiser_at : goal.decreases-initialiser_at
decreases-initialiser_at l = 10 * l.below + 9

abbrev pub decreases-braces : goal.decreases-braces
decreases-braces l = 10 * l.below + 8

abbrev pub decreases-more_initialisers : goal.decreases-more_initialisers
decreases-more_initialisers l = 10 * l.below + 7

abbrev pub decreases-next_initialiser : goal.decreases-next_initialiser
decreases-next_initialiser l = 10 * l.below + 6

abbrev pub decreases-one_initialiser : goal.decreases-one_initialiser
decreases-one_initialiser l = 10 * l.below + 5

abbrev pub invariant-more_initialisers-loop-turn : goal.invariant-more_initialisers-loop-turn
invariant-more_initialisers-loop-turn l =
    let w = meant l.fn.lexicon in
    let turn = spec.next_initialiser w l.fn.below (spec.initialiser w l.fn.below) in
    (loop (λ t. not (is_close_brace w t)) turn (length l.fn.first.rest.now) (plain_initialisers l.fn.first) l.fn.first.rest.now
    ≡ loop (λ t. not (is_close_brace w t)) turn (l.most - l._turn) (plain_initialisers l.found) l.found.rest.now)
    × AreInitialisersKnown l.found
    × (l.found.depth ≤ l.fn.below)
