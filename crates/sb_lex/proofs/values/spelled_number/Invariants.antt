use Rattle.std.proofs.Common.{◌≡◌, ◌<◌, ◌^◌, take}
use Rattle.std.specs.Str.Parse.{digits_value, AllDigits}
use Rattle.sb_lex.specs.Values.{radix_of}
use Rattle.sb_lex.proofs.values.spelled_number.Given as goal

abbrev pub invariant-loop-byte : goal.invariant-loop-byte
invariant-loop-byte l = record {
  digits : AllDigits (radix_of l.fn.base) (take l.byte-index l.text);
  number : l.number ≡ digits_value (radix_of l.fn.base) (take l.byte-index l.text);
  small : l.number < 2 ^ 64;
}
