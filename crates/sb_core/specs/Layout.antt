-- Sizes, alignments, offsets and padding of types (C99 6.2.5, 6.2.6.1, 6.5.3.4, 6.7.2.1). A pointer has 8 bytes, a
-- number has its bits as bytes, and each is aligned to its size.
use Rattle.std.specs.Prelude.{◌≡◌, ℕ, zero, suc, ◌+◌, ◌-◌, ◌*◌, ◌/◌, max, List, [], ◌∷◌, map, length, slice_index_or, Option, Some, None, is_some, true}
use Rattle.std.specs.List.{list_all}
use Rattle.std.specs.Option.{option_map, unwrap_or}
use Rattle.sb_core.specs.declared.types.Kind.{Kind}
use Rattle.sb_core.specs.declared.types.Kind.TheVariants as kind
use Rattle.sb_core.specs.declared.types.Member.{Member}
use Rattle.sb_core.specs.declared.layout.Base.{Base}
use Rattle.sb_core.specs.declared.layout.Spot.{Spot}

-- ---- one type, of its parts

-- the next multiple of an alignment: that of 4 is 8 from 5 on, 8 from 8 on, and 0 from 0 on
abbrev pub rounded : (at align : ℕ) → ℕ
rounded at align = (at + (align - 1)) / align * align

-- the bytes of a number of so many bits: 4 of 32, and 1 of the one bit of a `_Bool`
abbrev pub bytes_of : (bits : ℕ) → ℕ
bytes_of bits = max 1 (bits / 8)

-- an array of 3 elements of 4 bytes, aligned to 4, has 12 bytes, aligned to 4
abbrev pub array_of : (count : ℕ) → Base → Base
array_of count b = record { size = count * b.size; align = b.align }

-- where members end that begin behind `at`: a `char` and then an `int` end at 8 from 0 on, and at 12 from 4 on
abbrev pub end_from : (at : ℕ) → List Base → ℕ
end_from at [] = at
end_from at (b ∷ bs) = end_from (rounded at b.align + b.size) bs

-- the greatest alignment of members, and of one before them
abbrev pub greatest_align : (most : ℕ) → List Base → ℕ
greatest_align most [] = most
greatest_align most (b ∷ bs) = greatest_align (max most b.align) bs

-- a struct of an `int` and then a `char` has 8 bytes, aligned to 4; one of two `char` has 2, aligned to 1; one that
-- is not completed has none, aligned to 1
abbrev pub struct_of : List Base → Base
struct_of bs = record { size = rounded (end_from 0 bs) (greatest_align 1 bs); align = greatest_align 1 bs }

-- the alignment of what comes next: the next member, or behind the last one the struct itself
abbrev pub next_align : (whole : ℕ) → List Base → ℕ
next_align whole [] = whole
next_align whole (b ∷ bs) = b.align

-- a member of that base behind `at`: where it stands, and the padding up to what comes next
abbrev pub spot_at : (at : ℕ) → Base → (next : ℕ) → Spot
spot_at at b next = record {
  offset = rounded at b.align;
  pad = rounded (rounded at b.align + b.size) next - (rounded at b.align + b.size);
}

-- a `char`, an `int` and a `char` in a struct aligned to 4 stand at 0, 4 and 8, with 3, 0 and 3 bytes of padding
abbrev pub spots_from : (whole at : ℕ) → List Base → List Spot
spots_from whole at [] = []
spots_from whole at (b ∷ bs) = spot_at at b (next_align whole bs) ∷ spots_from whole (rounded at b.align + b.size) bs

-- ---- types of a table, as far as some are known

-- what is known of a type
abbrev pub base_at : List (Option Base) → (t : ℕ) → Option Base
base_at known t = slice_index_or known t None

abbrev pub plus_base : Option Base → Option (List Base) → Option (List Base)
plus_base None bs = None
plus_base (Some b) None = None
plus_base (Some b) (Some bs) = Some (b ∷ bs)

-- the bases of members, where all are known
abbrev pub bases_of : List (Option Base) → List Member → Option (List Base)
bases_of known [] = Some []
bases_of known (m ∷ ms) = plus_base (base_at known m.type_id.0) (bases_of known ms)

-- the base of a type, where those of its parts are known. What a pointer points to is no part. No object is `void`
abbrev pub base_of : List (Option Base) → Kind → Option Base
base_of known kind.Void = Some (record { size = 0; align = 1 })
base_of known (kind.Number bits signed) = Some (record { size = bytes_of bits; align = bytes_of bits })
base_of known (kind.Pointer t) = Some (record { size = 8; align = 8 })
base_of known (kind.Array t count) = option_map (array_of count) (base_at known t.0)
base_of known (kind.Struct tag members) = option_map struct_of (bases_of known members.items)

-- the spots of a struct's members, where their bases are known
abbrev pub spots_among : Option (List Base) → List Spot
spots_among None = []
spots_among (Some bs) = spots_from (greatest_align 1 bs) 0 bs

-- the spots of a type's members: only a struct has any
abbrev pub spots_of : List (Option Base) → Kind → List Spot
spots_of known kind.Void = []
spots_of known (kind.Number bits signed) = []
spots_of known (kind.Pointer t) = []
spots_of known (kind.Array t count) = []
spots_of known (kind.Struct tag members) = spots_among (bases_of known members.items)

-- ---- whole tables

-- what is known after so many rounds: numbers and pointers after one, arrays and structs of these after two. A part may
-- stand behind what it is part of: of `struct S; struct T { int x; }; struct S { struct T t; };` the type `struct T` is
-- known after two rounds and `struct S`, which stands before it, after three
unfoldable pub known_after : List Kind → (rounds : ℕ) → List (Option Base)
known_after types zero = map (λ _. None) types
known_after types (suc n) = map (base_of (known_after types n)) types

-- a round for each type is enough, unless a type is part of itself or of what is no type of the table
abbrev pub known_of : List Kind → List (Option Base)
known_of types = known_after types (length types)

abbrev pub IsFounded : List Kind → Type 0
IsFounded types = list_all is_some (known_of types) ≡ true

-- the layout of a table: the base of each type, and the spot of each member of each
pub record Layouts : Type 0 where
  pub bases : List Base
  pub spots : List (List Spot)

abbrev pub base_or_none : Option Base → Base
base_or_none b = unwrap_or b (record { size = 0; align = 1 })

abbrev pub layout_of : List Kind → Layouts
layout_of types = record { bases = map base_or_none (known_of types); spots = map (spots_of (known_of types)) types }
