-- The composite type of two compatible types (C99 6.2.7 paragraph 3).
use Rattle.std.specs.Prelude.{◌≡◌, ℕ, true, if◌then◌else◌, nat_eq, List, slice_get, Some}
use Rattle.sb_core.specs.declared.types.Kind.{Kind}
use Rattle.sb_core.specs.declared.types.Kind.TheVariants as kind
use Rattle.sb_core.specs.declared.types.TypeId.{TypeId}
use Rattle.sb_typing.specs.Classes.{lengths_agree}

-- of two lengths of arrays the one that is known: 0 is not
abbrev pub known_length : ℕ → ℕ → ℕ
known_length m n = if nat_eq m 0 then n else m

-- a type, of itself; a pointer to the composite of what two pointers point to; an array of the composite of the
-- elements of two arrays, with the length that is known of theirs
pub data IsComposite (types : List Kind) : (a b c : TypeId) → Type 0 where
  of_one : (t u : TypeId) → t.0 ≡ u.0 → IsComposite types t u t
  of_pointers : (t u p a b c : TypeId) → slice_get types t.0 ≡ Some (kind.Pointer a) → slice_get types u.0 ≡ Some (kind.Pointer b)
      → slice_get types p.0 ≡ Some (kind.Pointer c) → IsComposite types a b c → IsComposite types t u p
  of_arrays : (t u p a b c : TypeId) (m n : ℕ) → slice_get types t.0 ≡ Some (kind.Array a m) → slice_get types u.0 ≡ Some (kind.Array b n)
      → slice_get types p.0 ≡ Some (kind.Array c (known_length m n)) → lengths_agree m n ≡ true → IsComposite types a b c → IsComposite types t u p
