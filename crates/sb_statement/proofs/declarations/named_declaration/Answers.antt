use Rattle.std.proofs.Common.{sym}
use Rattle.sb_lexicon.specs.Meaning.{meant}
use Rattle.sb_statement.specs.Meaning.{plain_body}
use Rattle.sb_statement.proofs.steps.Declarations.{named_crowded}
use Rattle.sb_statement.proofs.declarations.named_declaration.Goals as goal

pub returns-then-lacks_room : goal.returns-then-lacks_room
returns-then-lacks_room c =
    named_crowded c.args.names.now.texts c.args.below (plain_body c.args.body.value) c.args.body.rest.now c.in_ok-name-3.name.value c.in_ok-name-3.name.rest.now (meant c.reading-lexicon.result)
    c.reading-lexicon.ensures (sym c.if-is_unlisted_next.ensures) (sym c.if-is_misplaced_next.ensures) (sym c.if-lacks_room.ensures) c.in_ok-name-3.ensures _ c.crowded.ensures
