-- The typedef names in force in the body of a function.
use Rattle.std.proofs.Common.{◌≡◌, ℕ, List, Option, Some, None, refl}
use Rattle.sb_base.specs.declared.interning.Name.{Name}
use Rattle.sb_base.specs.declared.refusals.Place.{Place}
use Rattle.sb_declarator.specs.Meaning.{inside}
use Rattle.sb_declare.specs.Openings.{declared_as}
use Rattle.sb_declare.specs.Readers.{Opening, declared_by}
use Rattle.sb_specifier.specs.Specified.{storage_of}

pub declared_as_by : (texts : List (List ℕ)) (below : ℕ) (o : Opening) (n : Option (Name × Place)) (types : List Name) → declared_as (storage_of o.specified) n types ≡ inside declared_by texts below o n types
declared_as_by texts below o None types = refl
declared_as_by texts below o (Some n) types = refl
