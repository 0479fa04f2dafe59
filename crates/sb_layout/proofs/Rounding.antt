-- Rounding goes on to a multiple, and members end no earlier than they begin.
use Rattle.std.proofs.Common.{◌≡◌, ℕ, ◌+◌, ◌-◌, ◌/◌, ◌%◌, ◌<◌, ◌≤◌, List, [], ◌∷◌, ◌++◌, length, drop, get_or, append_assoc, refl, arith, max}
use Rattle.std.specs.List.{All}
use Rattle.std.proofs.lemmas.List.Elements.{All-head, All-tail, All-drop}
use Rattle.std.proofs.lemmas.List.{at_drop_more}
use Rattle.std.proofs.Math.Nat.{mul-mod_left}
use Rattle.sb_core.specs.declared.layout.Base.{Base}
use Rattle.sb_core.specs.Layout.{rounded, end_from, greatest_align, struct_of, next_align, spot_at, spots_from}
use Rattle.sb_core.specs.declared.layout.Spot.{Spot}
use Rattle.sb_layout.specs.Faults.{IsSmall}

pub rounded_grows : (at align : ℕ) → 0 < align → at ≤ rounded at align
rounded_grows at align h = omega arith

pub rounded_multiple : (at align : ℕ) → 0 < align → rounded at align % align ≡ 0
rounded_multiple at align h = mul-mod_left ((at + (align - 1)) / align) align

pub rounded_near : (at align : ℕ) → 0 < align → rounded at align < at + align
rounded_near at align h = omega arith

pub end_grows : (at : ℕ) (bs : List Base) → All IsSmall bs → at ≤ end_from at bs
end_grows at [] h = omega arith
end_grows at (b ∷ bs) h =
    let small : IsSmall b = All-head IsSmall b bs h in
    let here : at ≤ rounded at b.align = rounded_grows at b.align small.positive in
    let rest : rounded at b.align + b.size ≤ end_from (rounded at b.align + b.size) bs = end_grows (rounded at b.align + b.size) bs (All-tail IsSmall b bs h) in
    omega arith

-- one member further on
pub end_step : (at : ℕ) (bs : List Base) (i : ℕ) (d : Base) → i < length bs → end_from at (drop i bs) ≡ end_from (rounded at (get_or bs i d).align + (get_or bs i d).size) (drop (i + 1) bs)
end_step at bs i d h = at_drop_more (end_from at) bs i d h

pub member_ends : (at : ℕ) (bs : List Base) (i : ℕ) (d : Base) → All IsSmall bs → i < length bs → rounded at (get_or bs i d).align + (get_or bs i d).size ≤ end_from at (drop i bs)
member_ends at bs i d small h = rw (end_step at bs i d h) (end_grows (rounded at (get_or bs i d).align + (get_or bs i d).size) (drop (i + 1) bs) (All-drop IsSmall (i + 1) bs small))

pub spots_step : (whole at : ℕ) (bs : List Base) (i : ℕ) (d : Base) (done : List Spot) (s : Spot) (next : ℕ) → i < length bs → next ≡ next_align whole (drop (i + 1) bs) → s ≡ spot_at at (get_or bs i d) next → (done ++ s ∷ []) ++ spots_from whole (rounded at (get_or bs i d).align + (get_or bs i d).size) (drop (i + 1) bs) ≡ done ++ spots_from whole at (drop i bs)
spots_step whole at bs i d done s next h n is =
    let step : spots_from whole at (drop i bs) ≡ spot_at at (get_or bs i d) (next_align whole (drop (i + 1) bs)) ∷ spots_from whole (rounded at (get_or bs i d).align + (get_or bs i d).size) (drop (i + 1) bs) = at_drop_more (spots_from whole at) bs i d h in
    rw (append_assoc, step, is, n) refl

pub align_grows : (most : ℕ) (bs : List Base) → most ≤ greatest_align most bs
align_grows most [] = omega arith
align_grows most (b ∷ bs) =
    let rest : max most b.align ≤ greatest_align (max most b.align) bs = align_grows (max most b.align) bs in
    omega arith

-- a struct ends no earlier than its members
pub struct_ends : (bs : List Base) → end_from 0 bs ≤ (struct_of bs).size
struct_ends bs =
    let one : 1 ≤ greatest_align 1 bs = align_grows 1 bs in
    rounded_grows (end_from 0 bs) (greatest_align 1 bs) (omega arith)
