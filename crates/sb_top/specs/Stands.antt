-- what stands in a sink after a call, by its status
use Rattle.std.specs.Prelude.{◌≡◌, ℕ, ◌⊎◌, List, ◌++◌, take, Option, Some, None}
use Rattle.sb_top.specs.declared.status.Status.{Status}
use Rattle.sb_top.specs.declared.status.Status.TheVariants.{Clean, Warned, Refused, Usage, ReadFault, WriteFault, Memory}

-- a text was appended, or a prefix of it; a sink that tells nothing still tells nothing
abbrev pub HasWritten : Option (List ℕ) → Option (List ℕ) → List ℕ → Type 0
HasWritten None now text = now ≡ None
HasWritten (Some before) now text = now ≡ Some (before ++ text)

abbrev pub HasWrittenPart : Option (List ℕ) → Option (List ℕ) → List ℕ → Type 0
HasWrittenPart None now text = now ≡ None
HasWrittenPart (Some before) now text = (count : ℕ) × (now ≡ Some (before ++ take count text))

-- `IsDefined status text` says which text is written under which status where nothing fails. After a fault of reading nothing
-- stands, and after want of memory or a fault of writing a prefix of a defined text
abbrev pub Stands : (Status → List ℕ → Type 0) → Option (List ℕ) → Option (List ℕ) → Status → Type 0
Stands IsDefined before now Clean = (text : List ℕ) × IsDefined Clean text × HasWritten before now text
Stands IsDefined before now Warned = (text : List ℕ) × IsDefined Warned text × HasWritten before now text
Stands IsDefined before now Refused = (text : List ℕ) × IsDefined Refused text × HasWritten before now text
Stands IsDefined before now Usage = (text : List ℕ) × IsDefined Usage text × HasWritten before now text
Stands IsDefined before now ReadFault = now ≡ before
Stands IsDefined before now WriteFault = (status : Status) × (text : List ℕ) × IsDefined status text × HasWrittenPart before now text
Stands IsDefined before now Memory = (now ≡ before) ⊎ ((status : Status) × (text : List ℕ) × IsDefined status text × HasWrittenPart before now text)
