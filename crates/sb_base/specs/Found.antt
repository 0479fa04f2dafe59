-- what a library has under the name of a file, and what reading the file gives
use Rattle.std.specs.Prelude.{◌≡◌, ℕ, ◌<◌, ◌≤◌, List, length, Option, Some, None, Result, Ok, Err}
use Rattle.sb_base.specs.declared.outside.FetchFault.{FetchFault}
use Rattle.sb_base.specs.declared.outside.FetchFault.TheVariants as fault
use Rattle.sb_base.specs.Outside.{Rose}
use Rattle.sb_base.specs.declared.fetch.Found.{Found as Read}
use Rattle.sb_base.specs.declared.fetch.Found.TheVariants as found

-- a file has at most 4,194,304 bytes
abbrev pub most_bytes : ℕ
most_bytes = 4194304

-- what a library has under a name; one that tells nothing may have anything
pub data Found : Type 0 where
  Missing : Found
  TooBig : Found
  Whole : List ℕ → Found

abbrev pub IsHeld : (List ℕ → Option (List ℕ)) → List ℕ → Found → Type 0
IsHeld held name Missing = held name ≡ None
IsHeld held name TooBig = (bytes : List ℕ) × (held name ≡ Some bytes) × (most_bytes < length bytes)
IsHeld held name (Whole bytes) = (held name ≡ Some bytes) × (length bytes ≤ most_bytes)

abbrev pub IsFound : Option (List ℕ → Option (List ℕ)) → List ℕ → Found → Type 0
IsFound None name found = Unit {0}
IsFound (Some held) name found = IsHeld held name found

-- what was found, with the bytes as a list
abbrev pub seen : Read → Found
seen found.Missing = Missing
seen found.TooBig = TooBig
seen (found.Whole bytes) = Whole bytes.items

-- the bytes of a file are at most as many as a file may have
abbrev pub IsWithinLimit : Read → Type 0
IsWithinLimit found.Missing = Unit {0}
IsWithinLimit found.TooBig = Unit {0}
IsWithinLimit (found.Whole bytes) = length bytes.items ≤ most_bytes

-- reading failed only where the count of failures rose, which never falls; each other answer leaves the count
abbrev pub HasReadCause : {A : Type 0} → ℕ → ℕ → Result A FetchFault → Type 0
HasReadCause before now (Ok found) = now ≡ before
HasReadCause before now (Err fault.Failed) = Rose before now × (before ≤ now)
HasReadCause before now (Err fault.Memory) = now ≡ before
