-- the names that a part of the tree holds
use Rattle.std.specs.Prelude.{ℕ, Bool, List, [], ◌∷◌, ◌++◌, ◌+◌, ◌-◌, ◌/◌, ◌^◌, nat_lt, if◌then◌else◌}
use Rattle.sb_base.specs.declared.interning.Name.{Name}
use Rattle.sb_scope.specs.declared.typedefs.Part.{Part}
use Rattle.sb_scope.specs.declared.typedefs.Part.TheVariants.{None, Lowest, Halves'}
use Rattle.sb_scope.specs.Names.{without, including}

-- where the upper half of a range begins
abbrev pub middle : ℕ → ℕ → ℕ
middle from to = from + (to - from) / 2

-- the names of a range that a part holds
abbrev pub names_between : ℕ → ℕ → Part → List Name
names_between from to None = []
names_between from to Lowest = if nat_lt from to then record { 0 = from } ∷ [] else []
names_between from to (Halves' p low q high) = names_between from (middle from to) low ++ names_between (middle from to) to high

abbrev pub all_names : Part → List Name
all_names part = names_between 0 (2 ^ 32) part

-- the names with one or without it
abbrev pub put : Bool → Name → List Name → List Name
put present n types = if present then including n types else without n types
