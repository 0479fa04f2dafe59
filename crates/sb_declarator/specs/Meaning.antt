-- The readers of one depth, which the readers in code compute.
use Rattle.std.specs.Prelude.{ℕ, List}
use Rattle.sb_base.specs.declared.interning.Name.{Name}
use Rattle.sb_tree.specs.Trees.{TypeTree, NoteTree}
use Rattle.sb_sal.specs.declared.bearer.Bearer.TheVariants as bearer
use Rattle.sb_derivation.specs.declared.members.Heading.{Heading}
use Rattle.sb_specifier.specs.declared.seat.Seat.{Seat}
use Rattle.sb_derivation.specs.Parts.{notes_at}
use Rattle.sb_specifier.specs.Readers.{Parts}
use Rattle.sb_declarator.specs.Readers.{parts}
use Rattle.sb_specifier.specs.Meaning.{plain_later}

-- ---- readers of one depth

-- a reader whose parts may be so deep
abbrev pub nested : {X : Type 0} → (List (List ℕ) → Seat → ℕ → (ℕ → Parts) → X) → List (List ℕ) → Seat → ℕ → X
nested f texts seat below = f texts seat below (parts texts below)

-- the same of one that does not look at where the declaration stands
abbrev pub inside : {X : Type 0} → (List (List ℕ) → ℕ → (ℕ → Parts) → X) → List (List ℕ) → ℕ → X
inside f texts below = f texts below (parts texts below)

-- ---- members

-- the members behind a heading: `f texts below` of its annotations, of the typedef names in force and of the type of a later declarator
abbrev pub heading_members : {X : Type 0} → (List (List ℕ) → ℕ → List NoteTree → List Name → TypeTree → X) → List (List ℕ) → ℕ → Heading → X
heading_members f texts below h = f texts below (notes_at texts h.outer.now bearer.Member below h.noted.now) h.types.now (plain_later h.later)
