-- The types that each table begins with (C99 6.2.5), with the sizes of LLP64.
use Rattle.std.specs.Prelude.{◌≡◌, List, [], ◌∷◌, None, true, false}
use Rattle.sb_core.specs.declared.types.Kind.{Kind}
use Rattle.sb_core.specs.declared.types.Kind.TheVariants.{Void, Number}
use Rattle.sb_core.specs.declared.program.Core.{Core}

-- `void`, `_Bool`, `char`, `signed char`, `unsigned char`, `short`, `unsigned short`, `int`, `unsigned int`, `long`,
-- `unsigned long`, `long long` and `unsigned long long`
abbrev pub first_types : List Kind
first_types =
    Void ∷ Number 1 false ∷ Number 8 true ∷ Number 8 true ∷ Number 8 false ∷ Number 16 true ∷ Number 16 false
    ∷ Number 32 true ∷ Number 32 false ∷ Number 32 true ∷ Number 32 false ∷ Number 64 true ∷ Number 64 false ∷ []

-- a core with these types and nothing else
pub record IsBeginning (core : Core) : Type 0 where
  pub types : core.types.list.items ≡ first_types
  pub tables : core.tables.items ≡ []
  pub texts : core.texts.items ≡ []
  pub functions : core.functions.items ≡ []
  pub clash : core.clash ≡ None
