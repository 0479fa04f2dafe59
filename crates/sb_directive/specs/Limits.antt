-- how much a unit may have
use Rattle.std.specs.Prelude.{ℕ}

-- a unit has at most so many tokens, and macros make at most so many of a line
abbrev pub most_tokens : ℕ
most_tokens = 1000000
