-- when a picture describes a state of the machine
use Rattle.std.specs.Prelude.{◌≡◌, ℕ, ◌+◌, ◌≤◌, ◌<◌, List, [], ◌∷◌, length, slice_get, ℤ, pos, ◌+ℤ◌, ◌≤ℤ◌, ◌<ℤ◌, Option, Some, None}
use Rattle.sb_term.specs.declared.row.Row.{Row}
use Rattle.sb_term.specs.declared.entry.Entry.{Entry}
use Rattle.sb_term.specs.Linear.{Linear, value}
use Rattle.sb_term.specs.Rows.{AllHold}
use Rattle.sb_function.specs.declared.syntax.Param.{Param}
use Rattle.sb_picture.specs.declared.picture.Value.{Value}
use Rattle.sb_picture.specs.declared.picture.Value.TheVariants.{Number, Pointer, Unknown}
use Rattle.sb_picture.specs.declared.picture.Island.{Island}
use Rattle.sb_picture.specs.declared.picture.Region.{Region}
use Rattle.sb_picture.specs.declared.picture.Cell.{Cell}
use Rattle.sb_picture.specs.declared.picture.Picture.{Picture}
use Rattle.sb_picture.specs.Memory.{Memory, Byte, Pointer as Address, Null, At, size_of, byte_at, IsWritten, int_bytes}
use Rattle.sb_picture.specs.Machine.{Held, Count, Leads}
use Rattle.sb_picture.specs.Contract.{Keeps, MayWrite}
use Rattle.sb_picture.specs.Pictures.{next}

-- integers for the symbols, and a place in memory for each region
pub record Spot : Type 0 where
  pub object : ℕ
  pub start : ℤ

pub record Setting : Type 0 where
  pub point : ℕ → ℤ
  pub spots : ℕ → Spot

-- a region is here where its pointer is not null
abbrev pub IsHere : (ℕ → ℤ) → Region → Type 0
IsHere point g = pos 1 ≤ℤ value point g.presence

-- byte k of an object is from offset `from` up to offset `end` of a spot
abbrev pub Within : Spot → ℤ → ℤ → ℕ → ℕ → Type 0
Within spot from end o k = (o ≡ spot.object) × ((spot.start +ℤ from) ≤ℤ pos k) × (pos k <ℤ (spot.start +ℤ end))

-- presence is 0 or 1, and the prefix from 0 to the extent, of an absent region too
pub record HasShape (point : ℕ → ℤ) (g : Region) : Type 0 where
  pub absent : pos 0 ≤ℤ value point g.presence
  pub present : value point g.presence ≤ℤ pos 1
  pub from : pos 0 ≤ℤ value point g.written
  pub within : value point g.written ≤ℤ value point g.extent

-- an island is written, and lies in the extent where it is not empty
pub record IslandIs (point : ℕ → ℤ) (m : Memory) (spot : Spot) (g : Region) (i : Island) : Type 0 where
  pub inside : value point i.start <ℤ value point i.end → (pos 0 ≤ℤ value point i.start) × (value point i.end ≤ℤ value point g.extent)
  pub written : (o k : ℕ) → Within spot (value point i.start) (value point i.end) o k → IsWritten m o k

-- a region that is here has its extent in an object, and its prefix and its islands are written
pub record RegionIs (point : ℕ → ℤ) (m : Memory) (spot : Spot) (g : Region) : Type 0 where
  pub size : ℕ
  pub stands : size_of m spot.object ≡ Some size
  pub inside : pos 1 ≤ℤ value point g.extent → (pos 0 ≤ℤ spot.start) × ((spot.start +ℤ value point g.extent) ≤ℤ pos size)
  pub written : (o k : ℕ) → Within spot (pos 0) (value point g.written) o k → IsWritten m o k
  pub islands : (n : ℕ) (i : Island) → slice_get g.islands n ≡ Some i → IslandIs point m spot g i

-- the bytes of an `int` stand in memory from a byte of an object on
abbrev pub BytesAt : Memory → ℕ → ℕ → List Byte → Type 0
BytesAt m object from [] = Unit {0}
BytesAt m object from (b ∷ bs) = (byte_at m object from ≡ Some b) × BytesAt m object (from + 1) bs

-- a cell lies in the extent of its region, and its value stands there
pub record CellIs (point : ℕ → ℤ) (m : Memory) (spot : Spot) (g : Region) (c : Cell) : Type 0 where
  pub from : pos 0 ≤ℤ value point c.offset
  pub end : (value point c.offset +ℤ pos 4) ≤ℤ value point g.extent
  pub at : ℕ
  pub there : spot.start +ℤ value point c.offset ≡ pos at
  pub holds : BytesAt m spot.object at (int_bytes (value point c.value))

-- a pointer into a region is null where the region is not here
abbrev pub PointsTo : Setting → ℕ → Region → Linear → Address → Type 0
PointsTo σ r g o q = (IsHere σ.point g → q ≡ At (σ.spots r).object ((σ.spots r).start +ℤ value σ.point o)) × (value σ.point g.presence ≤ℤ pos 0 → q ≡ Null)

abbrev pub PointsIn : Setting → ℕ → Option Region → Linear → Address → Type 0
PointsIn σ r None o q = ⊥
PointsIn σ r (Some g) o q = PointsTo σ r g o q

abbrev pub ValueIs : Setting → List Region → Value → Held → Type 0
ValueIs σ gs (Number t) (Count z) = value σ.point t ≡ z
ValueIs σ gs (Number t) (Leads q) = ⊥
ValueIs σ gs (Pointer r o) (Count z) = ⊥
ValueIs σ gs (Pointer r o) (Leads q) = PointsIn σ r (slice_get gs r) o q
ValueIs σ gs Unknown h = Unit {0}

abbrev pub ValuesAre : Setting → List Region → List Value → List Held → Type 0
ValuesAre σ gs [] [] = Unit {0}
ValuesAre σ gs [] (h ∷ hs) = ⊥
ValuesAre σ gs (v ∷ vs) [] = ⊥
ValuesAre σ gs (v ∷ vs) (h ∷ hs) = ValueIs σ gs v h × ValuesAre σ gs vs hs

-- byte k of object o is in the extent of a region that is here
pub record Permits (σ : Setting) (gs : List Region) (o k : ℕ) : Type 0 where
  pub at : ℕ
  pub region : Region
  pub stands : slice_get gs at ≡ Some region
  pub here : IsHere σ.point region
  pub within : Within (σ.spots at) (pos 0) (value σ.point region.extent) o k

-- names only symbols below a number
abbrev pub AreBelow : ℕ → List Entry → Type 0
AreBelow n [] = Unit {0}
AreBelow n (e ∷ es) = (e.symbol < n) × AreBelow n es

abbrev pub IsBelow : ℕ → Linear → Type 0
IsBelow n t = AreBelow n t.entries

abbrev pub ValueIsBelow : ℕ → ℕ → Value → Type 0
ValueIsBelow n count (Number t) = IsBelow n t
ValueIsBelow n count (Pointer r o) = (r < count) × IsBelow n o
ValueIsBelow n count Unknown = Unit {0}

pub record RegionIsBelow (n : ℕ) (g : Region) : Type 0 where
  pub presence : IsBelow n g.presence
  pub extent : IsBelow n g.extent
  pub written : IsBelow n g.written
  pub islands : (at : ℕ) (i : Island) → slice_get g.islands at ≡ Some i → IsBelow n i.start × IsBelow n i.end

-- well formed: symbols below the next number, regions that are there
pub record IsFormed (p : Picture) : Type 0 where
  pub facts : (at : ℕ) (r : Row) → slice_get p.facts at ≡ Some r → IsBelow (next p) r.term
  pub values : (at : ℕ) (v : Value) → slice_get p.values at ≡ Some v → ValueIsBelow (next p) (length p.regions) v
  pub regions : (at : ℕ) (g : Region) → slice_get p.regions at ≡ Some g → RegionIsBelow (next p) g
  pub cells : (at : ℕ) (c : Cell) → slice_get p.cells at ≡ Some c → (c.region < length p.regions) × IsBelow (next p) c.offset × IsBelow (next p) c.value

-- with a setting, a picture describes a memory that stands `now` and stood `before` at the entry, with these arguments
pub record Describes (params : List Param) (args : List Held) (before now : Memory) (p : Picture) (σ : Setting) : Type 0 where
  pub facts : AllHold σ.point p.facts
  pub values : ValuesAre σ p.regions p.values args
  pub shapes : (r : ℕ) (g : Region) → slice_get p.regions r ≡ Some g → HasShape σ.point g
  pub regions : (r : ℕ) (g : Region) → slice_get p.regions r ≡ Some g → IsHere σ.point g → RegionIs σ.point now (σ.spots r) g
  pub cells : (n : ℕ) (c : Cell) (g : Region) → slice_get p.cells n ≡ Some c → slice_get p.regions c.region ≡ Some g → IsHere σ.point g → CellIs σ.point now (σ.spots c.region) g c
  pub apart : (r s : ℕ) (g h : Region) (o k : ℕ) → slice_get p.regions r ≡ Some g → slice_get p.regions s ≡ Some h → IsHere σ.point g → IsHere σ.point h
      → Within (σ.spots r) (pos 0) (value σ.point g.extent) o k → Within (σ.spots s) (pos 0) (value σ.point h.extent) o k → r ≡ s
  pub permitted : (o k : ℕ) → Permits σ p.regions o k → MayWrite params args o k
  pub kept : Keeps (λ o k. MayWrite params args o k) before now
  pub formed : IsFormed p

-- a region that stays keeps its presence and extent, and its prefix does not fall
pub record RegionStays (σ τ : Setting) (g h : Region) : Type 0 where
  pub presence : value τ.point h.presence ≡ value σ.point g.presence
  pub extent : value τ.point h.extent ≡ value σ.point g.extent
  pub written : value σ.point g.written ≤ℤ value τ.point h.written

-- what a step leaves: integers of earlier symbols, places of earlier regions, and memory but for what the earlier picture permits
pub record Since (p : Picture) (σ : Setting) (m : Memory) (q : Picture) (τ : Setting) (now : Memory) : Type 0 where
  pub below : next p ≤ next q
  pub same : (n : ℕ) → n < next p → τ.point n ≡ σ.point n
  pub spots : (r : ℕ) → r < length p.regions → τ.spots r ≡ σ.spots r
  pub frame : Keeps (λ o k. Permits σ p.regions o k) m now
  pub permits : (o k : ℕ) → Permits τ q.regions o k → Permits σ p.regions o k
  pub regions : (r : ℕ) (g : Region) → slice_get p.regions r ≡ Some g → (h : Region) × (slice_get q.regions r ≡ Some h) × RegionStays σ τ g h

-- some picture of a list describes the state, and came from an earlier one
pub record Covered (params : List Param) (args : List Held) (before : Memory) (p : Picture) (σ : Setting) (m now : Memory) (qs : List Picture) : Type 0 where
  pub at : ℕ
  pub picture : Picture
  pub setting : Setting
  pub stands : slice_get qs at ≡ Some picture
  pub describes : Describes params args before now picture setting
  pub since : Since p σ m picture setting now
