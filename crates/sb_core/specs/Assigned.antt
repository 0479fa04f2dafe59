-- The locals that a statement or a part of it assigns: they take a value (C99 6.5.16), are initialised (6.7.8) or take the
-- result of a call (6.5.2.2).
use Rattle.std.specs.Prelude.{ℕ, List, [], ◌∷◌, ◌++◌}
use Rattle.std.specs.List.{Contains}
use Rattle.std.specs.List.Sorted.{IsStrictlyIncreasing}
use Rattle.sb_core.specs.Labels.{option_list}
use Rattle.sb_core.specs.Trees.{Statement, Statements, Sections, SectionTree, Set, Store, Copy, Init, Call, If, Loop, Switch, Break, Continue, Goto, Return, Block, End, NoStatements, MoreStatements, NoSections, MoreSections, Section}

unfoldable mutual
  -- in the order of the text, as often as they are assigned there
  pub targets : Statement → List ℕ
  targets (Set local value) = local ∷ []
  targets (Store at value t size pad place) = []
  targets (Copy to from size to_place from_place) = []
  targets (Init local values) = local ∷ []
  targets (Call function args places into place) = option_list into
  targets (If test body other) = targets body ++ targets other
  targets (Loop body_first before test body after) = targets_in before ++ (targets body ++ targets_in after)
  targets (Switch on cases body) = targets body
  targets Break = []
  targets Continue = []
  targets (Goto label) = []
  targets (Return value place) = []
  targets (Block locals sections) = targets_behind sections
  targets (End temporaries) = []

  pub targets_in : Statements → List ℕ
  targets_in NoStatements = []
  targets_in (MoreStatements first rest) = targets first ++ targets_in rest

  pub targets_behind : Sections → List ℕ
  targets_behind NoSections = []
  targets_behind (MoreSections first rest) = targets_of first ++ targets_behind rest

  pub targets_of : SectionTree → List ℕ
  targets_of (Section label list) = targets_in list

-- the numbers of these locals and no others, rising, each once
abbrev pub AreAssigned : Statement → List ℕ → Type 0
AreAssigned s locals =
    IsStrictlyIncreasing locals
    × ((local : ℕ) → Contains (targets s) local → Contains locals local)
    × ((local : ℕ) → Contains locals local → Contains (targets s) local)
