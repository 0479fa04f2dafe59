-- how the reading of a unit stands
use Rattle.std.specs.Prelude.{◌≡◌, ℕ, ◌+◌, ◌-◌, ◌≤◌, List, [], ◌++◌, length}
use Rattle.sb_lex.specs.declared.piece.PpToken.{PpToken}
use Rattle.sb_directive.specs.Rules.{IsExpansion}
use Rattle.sb_directive.specs.Limits.{most_tokens}
use Rattle.sb_prep.specs.Stopping.{AreIn}
use Rattle.sb_prep.specs.Unit.{Progress, with_given, beginning, most_read}

-- how far the unit has come, the pieces that were given, and how many texts the table of names may hold
pub record Standing : Type 0 where
  pub limit : ℕ
  pub at : Progress
  pub out : List PpToken

-- the same with other progress
abbrev pub moved_to : Standing → Progress → Standing
moved_to s at = record { limit = s.limit; at = at; out = s.out }

abbrev pub start : ℕ → List (List ℕ) → List (List ℕ) → Standing
start limit texts files = record { limit = limit; at = beginning texts files; out = [] }

-- what holds all along: the counts keep their bounds, each file that was met took a piece to include it, and each piece that was given is of a file that has a number
pub record IsSound (s : Standing) : Type 0 where
  pub read : s.at.read ≤ most_read
  pub given : length s.out ≤ most_tokens
  pub files : length s.at.files ≤ 2147483649 + s.at.read
  pub held : AreIn (length s.at.files) s.out

-- a run of text was expanded, and what it became was given
pub record Gives (old : Standing) (run : List PpToken) (new : Standing) : Type 0 where
  pub out : List PpToken
  pub expansion : IsExpansion old.at.texts old.at.table (most_tokens - old.at.given) run out
  pub new_is : new ≡ record { limit = old.limit; at = with_given old.at (length out); out = old.out ++ out }
