use Rattle.std.proofs.Common.{◌≡◌, take, drop}
use Rattle.sb_lex.specs.Splicing.{bytes_of}
use Rattle.sb_lex.proofs.cursor.Cursor.take.Given as goal

abbrev pub invariant-taken : goal.invariant-taken
invariant-taken l = record {
  text : l.text.items ≡ take l.counter (bytes_of l.initial.self);
  place : l.self ≡ drop l.counter l.initial.self;
}
