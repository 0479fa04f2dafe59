-- The laws of promotions and of the usual arithmetic conversions.
use Rattle.std.proofs.Common.{◌≡◌, ℕ, ◌-◌, ◌^◌, ◌<◌, ◌≤◌, Bool, true, false, nat_lt, nat_eq, refl, ap, arith, ℤ}
use Rattle.std.specs.Prelude.{◌&&◌, not, nat_le, max, if◌then◌else◌}
use Rattle.std.proofs.lemmas.Bool.Decides.{nat_tests}
use Rattle.std.proofs.lemmas.Int.{ints}
use Rattle.sb_core.specs.declared.types.TypeId.{TypeId}
use Rattle.sb_core.specs.Sorts.{is_number, IsWithin}
use Rattle.sb_typing.specs.Numbers.{bits_of, is_signed, rank_of, IsHeld, holds_all, promoted, usual}
use Rattle.sb_typing.specs.Folding.{IsWide}
use Rattle.sb_typing.specs.Laws.{HoldsAll, Promotes, IsCommon, KeepsValues, KeepsWidth}
use Rattle.sb_typing.proofs.Powers.{power_grows}
use Rattle.sb_typing.proofs.Tested.{both, implied, below_passes, pairs_pass}

number_below : (t : TypeId) → is_number t ≡ true → t.0 < 13
number_below t h = grind (arith, nat_tests)

-- ---- a type that holds all values of another

pub within_all : (small big : ℕ) (part whole : Bool) → 0 < small
    → (if part then whole && nat_le small big else if whole then nat_lt small big else nat_le small big) ≡ true
    → (z : ℤ) → IsWithin small part z → IsWithin big whole z
within_all small big true true some h z (low, high) =
    let grows : 2 ^ (small - 1) ≤ 2 ^ (big - 1) = power_grows (small - 1) (big - 1) (grind (arith, nat_tests)) in
    (omega (arith, ints), omega (arith, ints))
within_all small big true false some h z (low, high) = absurd (cc)
within_all small big false true some h z (low, high) =
    let grows : 2 ^ small ≤ 2 ^ (big - 1) = power_grows small (big - 1) (grind (arith, nat_tests)) in
    (omega (arith, ints), omega (arith, ints))
within_all small big false false some h z (low, high) =
    let grows : 2 ^ small ≤ 2 ^ big = power_grows small big (grind (arith, nat_tests)) in
    (omega (arith, ints), omega (arith, ints))

some_bits : (t : TypeId) → 0 < bits_of t
some_bits t = grind arith

holds : (whole part : TypeId) → holds_all whole part ≡ true → HoldsAll whole part
holds whole part h z in_part = within_all (bits_of part) (bits_of whole) (is_signed part) (is_signed whole) (some_bits part) h z in_part

-- ---- tests over the types 0 to 12

abbrev at : ℕ → TypeId
at n = record { 0 = n }

abbrev promotes_at : ℕ → Bool
promotes_at n = holds_all (promoted (at n)) (at n) && (nat_le 3 (rank_of (promoted (at n))) && is_number (promoted (at n)))

pub promotes : Promotes
promotes t h =
    let passes : promotes_at t.0 ≡ true = below_passes promotes_at 13 t.0 refl (number_below t h) in
    let parts = both (holds_all (promoted t) t) (nat_le 3 (rank_of (promoted t)) && is_number (promoted t)) passes in
    let rest = both (nat_le 3 (rank_of (promoted t))) (is_number (promoted t)) parts.1 in
    (holds (promoted t) t parts.0, grind (arith, nat_tests), rest.1)

abbrev common_at : ℕ → ℕ → Bool
common_at n m = is_number (usual (at n) (at m)) && nat_eq (usual (at n) (at m)).0 (usual (at m) (at n)).0

same_type : (t u : TypeId) → nat_eq t.0 u.0 ≡ true → t ≡ u
same_type t u h = let same : t.0 ≡ u.0 = grind (arith, nat_tests) in ap at same

pub is_common : IsCommon
is_common t u h k =
    let passes : common_at t.0 u.0 ≡ true = pairs_pass common_at 13 refl t.0 u.0 (number_below t h) (number_below u k) in
    let parts = both (is_number (usual t u)) (nat_eq (usual t u).0 (usual u t).0) passes in
    (parts.0, same_type (usual t u) (usual u t) parts.1)

abbrev values_at : ℕ → ℕ → Bool
values_at n m =
    if not (is_signed (usual (at n) (at m))) then true
    else holds_all (usual (at n) (at m)) (promoted (at n)) && holds_all (usual (at n) (at m)) (promoted (at m))

pub keeps_values : KeepsValues
keeps_values t u h k signed =
    let passes : values_at t.0 u.0 ≡ true = pairs_pass values_at 13 refl t.0 u.0 (number_below t h) (number_below u k) in
    let all = implied (is_signed (usual t u)) (holds_all (usual t u) (promoted t) && holds_all (usual t u) (promoted u)) passes signed in
    let parts = both (holds_all (usual t u) (promoted t)) (holds_all (usual t u) (promoted u)) all in
    (holds (usual t u) (promoted t) parts.0, holds (usual t u) (promoted u) parts.1)

abbrev width_at : ℕ → ℕ → Bool
width_at n m =
    if not (not (is_signed (usual (at n) (at m)))) then true
    else nat_eq (bits_of (usual (at n) (at m))) (max (bits_of (promoted (at n))) (bits_of (promoted (at m))))

same_number : (m n : ℕ) → nat_eq m n ≡ true → m ≡ n
same_number m n h = grind (arith, nat_tests)

pub keeps_width : KeepsWidth
keeps_width t u h k unsigned =
    let passes : width_at t.0 u.0 ≡ true = pairs_pass width_at 13 refl t.0 u.0 (number_below t h) (number_below u k) in
    same_number (bits_of (usual t u)) (max (bits_of (promoted t)) (bits_of (promoted u)))
    (implied (not (is_signed (usual t u))) (nat_eq (bits_of (usual t u)) (max (bits_of (promoted t)) (bits_of (promoted u)))) passes (ap not unsigned))

-- ---- what a type holds has 64 bits

wide_within : (bits : ℕ) (signed : Bool) → 0 < bits → bits ≤ 64 → (z : ℤ) → IsWithin bits signed z → IsWide z
wide_within bits true some most z h =
    let in_64 : IsWithin 64 true z = within_all bits 64 true true some (grind (arith, nat_tests)) z h in
    let low = in_64.0 in let high = in_64.1 in
    (omega (arith, ints), omega (arith, ints))
wide_within bits false some most z h =
    let in_64 : IsWithin 64 false z = within_all bits 64 false false some (grind (arith, nat_tests)) z h in
    let low = in_64.0 in let high = in_64.1 in
    (omega (arith, ints), omega (arith, ints))

most_bits : (t : TypeId) → bits_of t ≤ 64
most_bits t = grind arith

pub wide : (t : TypeId) (z : ℤ) → IsHeld t z → IsWide z
wide t z h = wide_within (bits_of t) (is_signed t) (some_bits t) (most_bits t) z h
