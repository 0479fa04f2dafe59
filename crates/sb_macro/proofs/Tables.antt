-- The macros of a table.
use Rattle.std.proofs.Common.{◌≡◌, Bool, true, false, not, List, [], ◌∷◌, ◌++◌, Some, None, ap, refl, if◌then◌else◌, arith}
use Rattle.std.proofs.lemmas.Bool.Decides.{nat_tests}
use Rattle.sb_base.specs.declared.interning.Name.{Name}
use Rattle.sb_macro.specs.Macros.{Macro, IsDistinct, macro_named, same_name, without}

-- a name that no macro of a table has
pub none_first : (m : Macro) (other : Name) (table : List Macro) → macro_named (m ∷ table) other ≡ None → (same_name m.name other ≡ false) × (macro_named table other ≡ None)
none_first m other table = at (same_name m.name other)
  where
    at : (is : Bool) → (if is then Some m else macro_named table other) ≡ None → (is ≡ false) × (macro_named table other ≡ None)
    at true e = absurd (cc)
    at false e = (refl, e)

pub none_with : (m : Macro) (other : Name) (table : List Macro) → same_name m.name other ≡ false → macro_named table other ≡ None → macro_named (m ∷ table) other ≡ None
none_with m other table is none = rw is none

none_without : (name other : Name) (table : List Macro) → macro_named table other ≡ None → macro_named (without table name) other ≡ None
none_without name other [] e = refl
none_without name other (m ∷ table) e =
    let first = none_first m other table e in at (not (same_name m.name name)) first.0 (none_without name other table first.1)
  where
    at : (stays : Bool) → same_name m.name other ≡ false → macro_named (without table name) other ≡ None
        → macro_named (if stays then m ∷ without table name else without table name) other ≡ None
    at true is none = none_with m other (without table name) is none
    at false is none = none

-- a table without a name that it does not have
pub without_none : (name : Name) (table : List Macro) → macro_named table name ≡ None → without table name ≡ table
without_none name [] none = refl
without_none name (m ∷ table) none =
    let first = none_first m name table none in rw first.0 (ap (λ l. m ∷ l) (without_none name table first.1))

pub distinct_without : (name : Name) (table : List Macro) → IsDistinct table → IsDistinct (without table name)
distinct_without name [] d = tt
distinct_without name (m ∷ table) d = at (not (same_name m.name name)) (none_without name m.name table d.0) (distinct_without name table d.1)
  where
    at : (stays : Bool) → macro_named (without table name) m.name ≡ None → IsDistinct (without table name) → IsDistinct (if stays then m ∷ without table name else without table name)
    at true none others = (none, others)
    at false none others = others

turned : (a b : Name) → same_name a b ≡ false → same_name b a ≡ false
turned a b differ = grind (arith, nat_tests)

none_added : (m : Macro) (other : Name) (table : List Macro) → macro_named table other ≡ None → same_name m.name other ≡ false → macro_named (table ++ m ∷ []) other ≡ None
none_added m other [] e is = rw is refl
none_added m other (a ∷ table) e is =
    let first = none_first a other table e in none_with a other (table ++ m ∷ []) first.0 (none_added m other table first.1 is)

pub distinct_added : (m : Macro) (table : List Macro) → IsDistinct table → macro_named table m.name ≡ None → IsDistinct (table ++ m ∷ [])
distinct_added m [] d none = (refl, tt)
distinct_added m (a ∷ table) d none =
    let first = none_first a m.name table none in
    (none_added m a.name table d.0 (turned a.name m.name first.0), distinct_added m table d.1 first.1)
