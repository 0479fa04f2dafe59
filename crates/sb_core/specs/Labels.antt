-- The labels of statements (C99 6.8.1): each section of a block may have one.
use Rattle.std.specs.Prelude.{◌≡◌, ℕ, List, [], ◌∷◌, ◌++◌, slice_get, Option, Some, None}
use Rattle.sb_core.specs.Trees.{Statement, Statements, Sections, SectionTree, Set, Store, Copy, Init, Call, If, Loop, Switch, Break, Continue, Goto, Return, Block, End, NoStatements, MoreStatements, NoSections, MoreSections, Section}

abbrev pub option_list : Option ℕ → List ℕ
option_list None = []
option_list (Some label) = label ∷ []

-- the labels of the sections of a block alone
abbrev pub section_label : SectionTree → List ℕ
section_label (Section label list) = option_list label

abbrev pub section_labels : Sections → List ℕ
section_labels NoSections = []
section_labels (MoreSections first rest) = section_label first ++ section_labels rest

abbrev pub IsBlock : Statement → Type 0
IsBlock (Set local value) = ⊥
IsBlock (Store at value t size pad place) = ⊥
IsBlock (Copy to from size to_place from_place) = ⊥
IsBlock (Init local values) = ⊥
IsBlock (Call function args places into place) = ⊥
IsBlock (If test body other) = ⊥
IsBlock (Loop body_first before test body after) = ⊥
IsBlock (Switch on cases body) = ⊥
IsBlock Break = ⊥
IsBlock Continue = ⊥
IsBlock (Goto label) = ⊥
IsBlock (Return value place) = ⊥
IsBlock (Block locals ss) = Unit {0}
IsBlock (End temporaries) = ⊥

abbrev pub labels_of_block : Statement → List ℕ
labels_of_block (Set local value) = []
labels_of_block (Store at value t size pad place) = []
labels_of_block (Copy to from size to_place from_place) = []
labels_of_block (Init local values) = []
labels_of_block (Call function args places into place) = []
labels_of_block (If test body other) = []
labels_of_block (Loop body_first before test body after) = []
labels_of_block (Switch on cases body) = []
labels_of_block Break = []
labels_of_block Continue = []
labels_of_block (Goto label) = []
labels_of_block (Return value place) = []
labels_of_block (Block locals sections) = section_labels sections
labels_of_block (End temporaries) = []

unfoldable mutual
  -- the labels of a statement and of all statements in it, in order
  pub labels_of : Statement → List ℕ
  labels_of (Set local value) = []
  labels_of (Store at value t size pad place) = []
  labels_of (Copy to from size to_place from_place) = []
  labels_of (Init local values) = []
  labels_of (Call function args places into place) = []
  labels_of (If test body other) = labels_of body ++ labels_of other
  labels_of (Loop body_first before test body after) = labels_of_statements before ++ (labels_of body ++ labels_of_statements after)
  labels_of (Switch on cases body) = labels_of body
  labels_of Break = []
  labels_of Continue = []
  labels_of (Goto label) = []
  labels_of (Return value place) = []
  labels_of (Block locals sections) = labels_of_sections sections
  labels_of (End temporaries) = []

  pub labels_of_statements : Statements → List ℕ
  labels_of_statements NoStatements = []
  labels_of_statements (MoreStatements first rest) = labels_of first ++ labels_of_statements rest

  pub labels_of_sections : Sections → List ℕ
  labels_of_sections NoSections = []
  labels_of_sections (MoreSections first rest) = labels_of_section first ++ labels_of_sections rest

  pub labels_of_section : SectionTree → List ℕ
  labels_of_section (Section label list) = option_list label ++ labels_of_statements list

-- each label stands once
abbrev pub IsEachOnce : List ℕ → Type 0
IsEachOnce labels = (i j label : ℕ) → slice_get labels i ≡ Some label → slice_get labels j ≡ Some label → i ≡ j
