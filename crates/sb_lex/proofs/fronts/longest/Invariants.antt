use Rattle.std.proofs.Common.{◌≡◌, ◌+◌, length}
use Rattle.sb_lex.specs.Splicing.{bytes_of}
use Rattle.sb_lex.proofs.Fitting.{longest_of, or_best}
use Rattle.sb_lex.proofs.fronts.longest.Given as goal

abbrev pub invariant-bytes : goal.invariant-bytes
invariant-bytes l = record {
  place : l.count + length l.ahead ≡ length l.text;
  goes : or_best l.longest l.count (longest_of l.scan (bytes_of l.ahead)) ≡ longest_of l.fn.start (bytes_of l.text);
}

abbrev pub decreases-bytes : goal.decreases-bytes
decreases-bytes l = length l.ahead
