-- What the outside may answer: a library of files, and a sink of bytes.
use Rattle.std.specs.Prelude.{◌≡◌, ℕ, ◌+◌, ◌-◌, ◌^◌, ◌<◌, ◌≤◌, ◌⊎◌, List, ◌++◌, Option, Some, None, Result, Ok, Err, length, take, min}
use Rattle.std.specs.Io.KnownBytes.{Appends as Writes}
use Rattle.sb_base.specs.declared.outside.Fetched.{Fetched}
use Rattle.sb_base.specs.declared.outside.Fetched.TheVariants.{Held, Absent, TooLong}
use Rattle.sb_base.specs.declared.outside.FetchFault.{FetchFault}
use Rattle.sb_base.specs.declared.outside.FetchFault.TheVariants.{Failed, Memory}
use Rattle.sb_base.specs.declared.outside.PutFault.{PutFault}
use Rattle.sb_base.specs.declared.outside.PutFault.TheVariants.{Failed as PutFailed, Memory as PutMemory}

-- the next count, which stands at the last value of a `u64`
abbrev pub counted : ℕ → ℕ
counted count = min (count + 1) (2 ^ 64 - 1)

-- the count of failures rose: it is greater, or it stood at the last value of a `u64`
abbrev pub Rose : ℕ → ℕ → Type 0
Rose before now = (before < now) ⊎ (before ≡ 2 ^ 64 - 1)

-- a fetch failed only where the count rose, which never falls; each other answer leaves it
abbrev pub HasFetchCause : ℕ → ℕ → Result Fetched FetchFault → Type 0
HasFetchCause before now (Ok fetched) = now ≡ before
HasFetchCause before now (Err Failed) = Rose before now × (before ≤ now)
HasFetchCause before now (Err Memory) = now ≡ before

-- a put failed only where the count rose, which never falls; each other answer leaves it
abbrev pub HasPutCause : ℕ → ℕ → Result (Unit {0}) PutFault → Type 0
HasPutCause before now (Ok done) = now ≡ before
HasPutCause before now (Err PutFailed) = Rose before now × (before ≤ now)
HasPutCause before now (Err PutMemory) = now ≡ before

-- where a file was given, at most `limit` bytes were appended, and else nothing
abbrev pub Appends : Result Fetched FetchFault → ℕ → List ℕ → List ℕ → Type 0
Appends (Ok Held) limit before now = (take (length before) now ≡ before) × (length now ≤ length before + limit)
Appends (Ok Absent) limit before now = now ≡ before
Appends (Ok TooLong) limit before now = now ≡ before
Appends (Err fault) limit before now = now ≡ before

-- the answer fits what is told: the file and nothing else was appended, no file of that name is held, or it is
-- longer than the limit. Where nothing is told, nothing is known.
abbrev pub IsExact : Option (List ℕ → Option (List ℕ)) → List ℕ → ℕ → List ℕ → List ℕ → Result Fetched FetchFault → Type 0
IsExact None name limit before now answer = Unit {0}
IsExact (Some held) name limit before now (Ok Held) = (bytes : List ℕ) × (held name ≡ Some bytes) × (length bytes ≤ limit) × (now ≡ before ++ bytes)
IsExact (Some held) name limit before now (Ok Absent) = held name ≡ None
IsExact (Some held) name limit before now (Ok TooLong) = (bytes : List ℕ) × (held name ≡ Some bytes) × (limit < length bytes)
IsExact (Some held) name limit before now (Err fault) = Unit {0}

-- the piece was appended, or after a fault a prefix of it; a sink that tells nothing still tells nothing
abbrev pub PutsPiece : Option (List ℕ) → Option (List ℕ) → List ℕ → Result (Unit {0}) PutFault → Type 0
PutsPiece None now piece answer = now ≡ None
PutsPiece (Some before) now piece (Ok done) = now ≡ Some (before ++ piece)
PutsPiece (Some before) now piece (Err fault) = (count : ℕ) × (now ≡ Some (before ++ take count piece))

-- a file of which these bytes are left was read: they were appended, or there are more than the limit. Where the
-- bytes are not known, nothing is known.
abbrev pub ReadsWhole : Option (List ℕ) → ℕ → List ℕ → List ℕ → Result Fetched FetchFault → Type 0
ReadsWhole None limit before now answer = Unit {0}
ReadsWhole (Some bytes) limit before now (Ok Held) = (now ≡ before ++ bytes) × (length bytes ≤ limit)
ReadsWhole (Some bytes) limit before now (Ok Absent) = ⊥
ReadsWhole (Some bytes) limit before now (Ok TooLong) = limit < length bytes
ReadsWhole (Some bytes) limit before now (Err fault) = Unit {0}

-- the first part of a piece was written, and the rest of it was not
abbrev pub HasPut : Option (List ℕ) → Option (List ℕ) → List ℕ → List ℕ → Type 0
HasPut before now piece rest = (done : List ℕ) × (piece ≡ done ++ rest) × Writes before now done

-- at most this many of the bytes that were left of a file were read
abbrev pub ReadsUpTo : ℕ → Option (List ℕ) → Option (List ℕ) → Type 0
ReadsUpTo most None left = Unit {0}
ReadsUpTo most (Some bytes) None = ⊥
ReadsUpTo most (Some bytes) (Some left) = length bytes ≤ length left + most
