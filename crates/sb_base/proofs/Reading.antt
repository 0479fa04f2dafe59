-- Reading a file to its end, where the bytes that are left of it are known.
use Rattle.std.proofs.Common.{◌≡◌, ◌<◌, ◌≤◌, ◌+◌, ◌++◌, ℕ, List, Option, Some, None, Ok, arith, ap, length, length-append}
use Rattle.std.specs.Io.KnownBytes.{Consumes, Keeps}
use Rattle.sb_base.specs.Outside.{ReadsWhole, ReadsUpTo}
use Rattle.sb_base.specs.declared.outside.Fetched.TheVariants.{TooLong}

-- what was there and all that the file had is what is there now and all that is left
abbrev pub IsOnTheWay : Option (List ℕ) → Option (List ℕ) → List ℕ → List ℕ → Type 0
IsOnTheWay None rest before now = Unit {0}
IsOnTheWay (Some bytes) None before now = ⊥
IsOnTheWay (Some bytes) (Some rest) before now = before ++ bytes ≡ now ++ rest

-- a piece that is longer than the room left
pub too_long : (whole rest left : Option (List ℕ)) (before now piece : List ℕ) (room limit : ℕ) → IsOnTheWay whole rest before now → Consumes rest left piece → room < length piece → length now + room ≡ length before + limit → ReadsWhole whole limit before now (Ok TooLong)
too_long None rest left before now piece room limit way eaten more count = tt
too_long (Some bytes) None left before now piece room limit way eaten more count = absurd way
too_long (Some bytes) (Some rest) None before now piece room limit way eaten more count = absurd eaten
too_long (Some bytes) (Some rest) (Some left) before now piece room limit way eaten more count =
    omega (arith, ap length way, ap length eaten, length-append before bytes, length-append now rest, length-append piece left)

-- a piece that is at most one byte longer than the room left
pub no_further : (whole rest left : Option (List ℕ)) (before now piece : List ℕ) (room limit : ℕ) → IsOnTheWay whole rest before now → Consumes rest left piece → length piece ≤ room + 1 → length now + room ≡ length before + limit → ReadsUpTo (limit + 1) whole left
no_further None rest left before now piece room limit way eaten most count = tt
no_further (Some bytes) None left before now piece room limit way eaten most count = absurd way
no_further (Some bytes) (Some rest) None before now piece room limit way eaten most count = absurd eaten
no_further (Some bytes) (Some rest) (Some left) before now piece room limit way eaten most count =
    omega (arith, ap length way, ap length eaten, length-append before bytes, length-append now rest, length-append piece left)

-- a read that failed
pub nothing_further : (whole rest left : Option (List ℕ)) (before now : List ℕ) (room limit : ℕ) → IsOnTheWay whole rest before now → Keeps rest left → length now + room ≡ length before + limit → ReadsUpTo (limit + 1) whole left
nothing_further None rest left before now room limit way same count = tt
nothing_further (Some bytes) None left before now room limit way same count = absurd way
nothing_further (Some bytes) (Some rest) None before now room limit way same count = absurd same
nothing_further (Some bytes) (Some rest) (Some left) before now room limit way same count =
    omega (arith, ap length way, ap length same, length-append before bytes, length-append now rest)
