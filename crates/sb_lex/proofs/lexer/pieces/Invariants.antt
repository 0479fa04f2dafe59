use Rattle.std.proofs.Common.{◌≤◌, length}
use Rattle.sb_lex.specs.Splicing.{text_of_file}
use Rattle.sb_lex.specs.Lexing.{most_pieces}
use Rattle.sb_lex.specs.Tables.{KeepsTable}
use Rattle.sb_lex.proofs.Reading.{Goes}
use Rattle.sb_lex.proofs.lexer.pieces.Given as goal

abbrev pub invariant-items : goal.invariant-items
invariant-items l = record {
  goes : Goes l.file l.initial.names.limit l.initial.names.texts (text_of_file l.bytes) l.pieces.items l.line l.spaced l.names.texts l.rest;
  short : length l.rest ≤ 4194304;
  few : length l.pieces.items ≤ most_pieces;
  table : KeepsTable l.initial.names l.names;
}

abbrev pub decreases-items : goal.decreases-items
decreases-items l = length l.rest
