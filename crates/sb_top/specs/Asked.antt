-- the units of the files that the words of a command line ask for
use Rattle.std.specs.Prelude.{◌≡◌, ℕ, List, [], Option, Some, None}
use Rattle.sb_top.specs.declared.sets.Units.{Units}
use Rattle.sb_top.specs.Sets.{most_names, EndAs, HasUnitCause}
use Rattle.sb_top.specs.Words.{files_of_words}

-- the words are no command, or these are the units of the files that they ask for, which begin without names and without files
abbrev pub AreAsked : Option (List ℕ → Option (List ℕ)) → List (List ℕ) → Option Units → Type 0
AreAsked held words None = files_of_words words ≡ None
AreAsked held words (Some u) = (asked : List (List ℕ)) × (files_of_words words ≡ Some asked) × EndAs held most_names [] [] asked u.names.texts u.files u.tokens

-- reading failed only where the count of failures rose, as for units; without a command nothing is read
abbrev pub HasAskedCause : ℕ → ℕ → Option Units → Type 0
HasAskedCause before now None = now ≡ before
HasAskedCause before now (Some u) = HasUnitCause before now u.tokens
