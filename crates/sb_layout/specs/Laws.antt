-- What a layout is, and when a table has none.
use Rattle.std.specs.Prelude.{◌≡◌, ℕ, ◌+◌, ◌*◌, ◌/◌, ◌%◌, ◌<◌, ◌≤◌, max, List, [], ◌∷◌, map, Some, slice_get, slice_index_or}
use Rattle.std.specs.List.{All}
use Rattle.sb_base.specs.declared.refusals.Refusal.{Refusal}
use Rattle.sb_base.specs.declared.refusals.Stop.{Stop}
use Rattle.sb_base.specs.declared.refusals.Stop.TheVariants.{Refused, Memory}
use Rattle.sb_core.specs.declared.types.Kind.{Kind}
use Rattle.sb_core.specs.declared.types.Kind.TheVariants as kind
use Rattle.sb_core.specs.declared.types.Member.{Member}
use Rattle.sb_core.specs.declared.layout.Base.{Base}
use Rattle.sb_core.specs.declared.layout.Spot.{Spot}
use Rattle.sb_core.specs.Layout.{Layouts, greatest_align}
use Rattle.sb_core.specs.Looked.{base_in}
use Rattle.sb_layout.specs.Faults.{IsTooBig}

-- the least multiple of an alignment that is not below `at`
abbrev pub IsNext : (at align offset : ℕ) → Type 0
IsNext at align offset = (offset % align ≡ 0) × (at ≤ offset) × (offset < at + align)

-- where the next member stands, or the struct ends
abbrev pub next_start : List Spot → (size : ℕ) → ℕ
next_start [] size = size
next_start (s ∷ ss) size = s.offset

-- members behind `at` in a struct of that alignment and size: each stands at the next multiple of its alignment, its
-- padding goes up to what comes next, and the struct ends at the next multiple of its own alignment
abbrev pub AreInOrder : Layouts → (align at : ℕ) → List Member → List Spot → (size : ℕ) → Type 0
AreInOrder l align at [] [] size = IsNext at align size
AreInOrder l align at [] (s ∷ ss) size = ⊥
AreInOrder l align at (m ∷ ms) [] size = ⊥
AreInOrder l align at (m ∷ ms) (s ∷ ss) size =
    IsNext at (base_in l m.type_id).align s.offset
    × (s.offset + (base_in l m.type_id).size + s.pad ≡ next_start ss size)
    × AreInOrder l align (s.offset + (base_in l m.type_id).size) ms ss size

-- the base and the spots of a type are those that the layout of its parts gives
abbrev pub IsLaidOut : Layouts → Kind → Base → List Spot → Type 0
IsLaidOut l kind.Void b spots = (b.size ≡ 0) × (b.align ≡ 1)
IsLaidOut l (kind.Number bits signed) b spots = (b.size ≡ max 1 (bits / 8)) × (b.align ≡ b.size)
IsLaidOut l (kind.Pointer t) b spots = (b.size ≡ 8) × (b.align ≡ 8)
IsLaidOut l (kind.Array t count) b spots = (b.size ≡ count * (base_in l t).size) × (b.align ≡ (base_in l t).align)
IsLaidOut l (kind.Struct tag members) b spots =
    (b.align ≡ greatest_align 1 (map (λ m. base_in l m.type_id) members.items)) × AreInOrder l b.align 0 members.items spots b.size

-- a layout of a table: each type is laid out by its parts
abbrev pub IsFixed : List Kind → Layouts → Type 0
IsFixed types l = (t : ℕ) (k : Kind) → slice_get types t ≡ Some k → IsLaidOut l k (slice_index_or l.bases t (record { size = 0; align = 1 })) (slice_index_or l.spots t [])

-- each type has less than 2^31 bytes
abbrev pub AreSmallBases : Layouts → Type 0
AreSmallBases l = All (λ b. b.size < 2147483648) l.bases

-- 41, at no place
abbrev pub too_big : Refusal
too_big = record { number = 41; place = record { file = 0; line = 0; col = 0 }; feature = 0 }

abbrev pub IsRefused : List Kind → Stop → Type 0
IsRefused types (Refused refusal) = (refusal ≡ too_big) × IsTooBig types
IsRefused types Memory = Unit {0}
