-- What the conversions mean, in the words of C99.
use Rattle.std.specs.Prelude.{◌≡◌, ℕ, ◌<◌, ◌≤◌, ◌^◌, max, ℤ, pos, true, false, slice_get, Some}
use Rattle.sb_core.specs.declared.types.TypeId.{TypeId}
use Rattle.sb_core.specs.declared.types.Kind.TheVariants as kind
use Rattle.sb_core.specs.Beginning.{first_types}
use Rattle.sb_core.specs.Sorts.{is_number}
use Rattle.sb_typing.specs.declared.constants.Spelling.{Spelling}
use Rattle.sb_typing.specs.Numbers.{bits_of, is_signed, rank_of, IsHeld, promoted, usual}
use Rattle.sb_typing.specs.Values.{converted}
use Rattle.sb_typing.specs.Constants.{number_type}

-- bits and sign of a number type are those of the table of types
abbrev pub AgreesWithTable : Type 0
AgreesWithTable = (t : TypeId) → is_number t ≡ true → slice_get first_types t.0 ≡ Some (kind.Number (bits_of t) (is_signed t))

-- a type holds every value of another
abbrev pub HoldsAll : (whole part : TypeId) → Type 0
HoldsAll whole part = (z : ℤ) → IsHeld part z → IsHeld whole z

-- the integer promotions preserve value and sign, and give a type of the rank of `int` or a greater one (6.3.1.1)
abbrev pub Promotes : Type 0
Promotes = (t : TypeId) → is_number t ≡ true → HoldsAll (promoted t) t × (3 ≤ rank_of (promoted t)) × (is_number (promoted t) ≡ true)

-- the common type is a number type, and both operands may change places (6.3.1.8)
abbrev pub IsCommon : Type 0
IsCommon = (t u : TypeId) → is_number t ≡ true → is_number u ≡ true → (is_number (usual t u) ≡ true) × (usual t u ≡ usual u t)

-- where the common type is signed, it holds every value of both promoted types
abbrev pub KeepsValues : Type 0
KeepsValues =
    (t u : TypeId) → is_number t ≡ true → is_number u ≡ true → is_signed (usual t u) ≡ true
    → HoldsAll (usual t u) (promoted t) × HoldsAll (usual t u) (promoted u)

-- and else it has the greater width of both
abbrev pub KeepsWidth : Type 0
KeepsWidth =
    (t u : TypeId) → is_number t ≡ true → is_number u ≡ true → is_signed (usual t u) ≡ false
    → bits_of (usual t u) ≡ max (bits_of (promoted t)) (bits_of (promoted u))

-- a converted number is one of the type, and one that the type holds stays as it is (6.3.1.3)
abbrev pub Converts : Type 0
Converts = (t : TypeId) (z : ℤ) → IsHeld t (converted t z) × (IsHeld t z → converted t z ≡ z)

-- the type of an integer constant holds its value (6.4.4)
abbrev pub HoldsConstant : Type 0
HoldsConstant = (s : Spelling) (n : ℕ) → n < 2 ^ 64 → IsHeld (number_type s n) (pos n)
