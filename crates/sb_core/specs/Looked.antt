-- What a layout says of a type and of a member.
use Rattle.std.specs.Prelude.{ℕ, ◌<◌, [], length, slice_index_or}
use Rattle.sb_core.specs.declared.types.TypeId.{TypeId}
use Rattle.sb_core.specs.declared.layout.Base.{Base}
use Rattle.sb_core.specs.declared.layout.Spot.{Spot}
use Rattle.sb_core.specs.Layout.{Layouts}

abbrev pub HasType : Layouts → TypeId → Type 0
HasType l t = t.0 < length l.bases

abbrev pub HasMember : Layouts → TypeId → (member : ℕ) → Type 0
HasMember l t member = member < length (slice_index_or l.spots t.0 [])

abbrev pub base_in : Layouts → TypeId → Base
base_in l t = slice_index_or l.bases t.0 (record { size = 0; align = 1 })

abbrev pub spot_in : Layouts → TypeId → (member : ℕ) → Spot
spot_in l t member = slice_index_or (slice_index_or l.spots t.0 []) member (record { offset = 0; pad = 0 })
