use Rattle.std.proofs.Common.{◌≡◌, ◌≤◌, ◌-◌, [], length}
use Rattle.sb_parse.specs.Parser.{loop}
use Rattle.sb_tree.specs.Plain.{plain_notes}
use Rattle.sb_lexicon.specs.Meaning.{meant}
use Rattle.sb_sal.specs.Meaning.{AreNotesKnown}
use Rattle.sb_sal.specs.Readers.{next_note}
use Rattle.sb_sal.specs.Spellings.{begins_note, may_stand}
use Rattle.sb_sal.proofs.nested.notes_within.Given as goal

abbrev pub invariant-loop-turn : goal.invariant-loop-turn
invariant-loop-turn l =
    let w = meant l.fn.lexicon in
    let turn = next_note w l.fn.left (may_stand w l.fn.bearer) in
    (loop (begins_note w) turn (length l.fn.tokens) [] l.fn.tokens
    ≡ loop (begins_note w) turn (l._turn-end - l._turn) (plain_notes l.found.list.items) l.found.rest.now)
    × AreNotesKnown l.found
    × (l.found.depth ≤ l.fn.left)
