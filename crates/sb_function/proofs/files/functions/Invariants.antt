use Rattle.std.proofs.Common.{◌≡◌, ◌-◌, length, []}
use Rattle.sb_parse.specs.Parser.{loop}
use Rattle.sb_function.specs.declared.lexeme.Lexeme.TheVariants as sign
use Rattle.sb_function.specs.Marks.{is_mark}
use Rattle.sb_function.specs.Files.{function_more}
use Rattle.sb_function.specs.Trees.{trees}
use Rattle.sb_function.proofs.files.functions.Given as goal

abbrev pub invariant-loop-turn : goal.invariant-loop-turn
invariant-loop-turn l = loop (is_mark sign.Void) function_more (length l.fn.pieces) [] l.fn.pieces ≡ loop (is_mark sign.Void) function_more (l._turn-end - l._turn) (trees l.found.value.items) l.found.rest.now
