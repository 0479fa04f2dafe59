-- A parser that also gives the tokens that it read.
use Rattle.std.specs.Prelude.{◌-◌, List, length, take}
use Rattle.sb_parse.specs.Parser.{Outcome, Parser, done, stop}

-- ---- what was read, with its tokens

abbrev pub with_front : {T A : Type 0} → List T → Outcome T A → Outcome T (A × List T)
with_front ts (done a rest) = done (a, take (length ts - length rest) ts) rest
with_front ts (stop n left) = stop n left

-- the tokens that a parser read stand beside the value
abbrev pub with_text : {T A : Type 0} → Parser T A → Parser T (A × List T)
with_text p = λ ts. with_front ts (p ts)
