-- what is written of a region: a prefix, and islands past it
use Rattle.std.specs.Prelude.{ℕ, zero, suc, Bool, false, ◌&&◌, not, List, [], ◌∷◌, ◌++◌, length, slice_get, remove, position, pos, int_le, int_lt, Option, Some, None, if◌then◌else◌}
use Rattle.std.specs.List.{list_any}
use Rattle.sb_term.specs.Linear.{Linear, formed}
use Rattle.sb_picture.specs.declared.picture.Island.{Island}
use Rattle.sb_picture.specs.declared.picture.Region.{Region}
use Rattle.sb_picture.specs.Pictures.{minus, same_term, has_symbol}

-- islands that start where the prefix ends, and are not empty by a constant, are taken into it
abbrev pub is_positive : Option Linear → Bool
is_positive None = false
is_positive (Some d) = not (has_symbol d) && int_lt (pos 0) d.rest

abbrev pub is_next : Linear → Island → Bool
is_next w i = same_term i.start w && is_positive (formed (minus i.end i.start (pos 0)))

abbrev pub taken_at : (Region → Region) → Region → ℕ → Option Island → Region
taken_at more g k None = g
taken_at more g k (Some i) = more (record { name = g.name; presence = g.presence; extent = g.extent; written = i.end; islands = remove g.islands k })

abbrev pub taken_in : (Region → Region) → Region → Option ℕ → Region
taken_in more g None = g
taken_in more g (Some k) = taken_at more g k (slice_get g.islands k)

abbrev pub absorbed : ℕ → Region → Region
absorbed zero g = g
absorbed (suc n) g = taken_in (λ h. absorbed n h) g (position (is_next g.written) g.islands)

-- a prefix that ends elsewhere, with the islands that it then meets
abbrev pub with_prefix : Region → Linear → Region
with_prefix g w = absorbed (length g.islands) (record { name = g.name; presence = g.presence; extent = g.extent; written = w; islands = g.islands })

-- one island more, unless it stands
abbrev pub same_island : Island → Island → Bool
same_island i j = same_term j.start i.start && same_term j.end i.end

abbrev pub with_island : Region → Island → Region
with_island g i = record { name = g.name; presence = g.presence; extent = g.extent; written = g.written; islands = if list_any (same_island i) g.islands then g.islands else g.islands ++ i ∷ [] }

-- the greater of two ends whose difference is a constant
abbrev pub greater : Linear → Linear → Option Linear → Option Linear
greater w end None = None
greater w end (Some d) = if has_symbol d then None else (if int_le (pos 0) d.rest then Some w else Some end)

abbrev pub greater_end : Linear → Linear → Option Linear
greater_end w end = greater w end (formed (minus w end (pos 0)))
