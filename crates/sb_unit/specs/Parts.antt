-- The parts of the longer readers that are functions of their own in code.
use Rattle.std.specs.Prelude.{ℕ, true, List}
use Rattle.sb_base.specs.declared.interning.Name.{Name}
use Rattle.sb_base.specs.declared.tokens.Token.{Token}
use Rattle.sb_parse.specs.Parser.{Parser, ◌>>=◌, choose, looped}
use Rattle.sb_declarator.specs.Meaning.{inside}
use Rattle.sb_declare.specs.Readers as declaring
use Rattle.sb_specifier.specs.Readers.{place_of_base, Declarator, Declarations, ends_nameless}
use Rattle.sb_declare.specs.Readers.{Opening}
use Rattle.sb_specifier.specs.Specified.{reading}
use Rattle.sb_unit.specs.Readers as spec

-- the typedef names in force in the body of a function
abbrev pub names_in : List (List ℕ) → ℕ → Opening → Declarator → List Name
names_in texts below o d = inside declaring.declared_by texts below o d.name d.inner

-- a declaration or a function, where these typedef names are in force
abbrev pub one_external : List (List ℕ) → ℕ → List Name → Parser Token Declarations
one_external texts below types = inside declaring.opening texts below types >>= (λ o.
    choose (ends_nameless (reading texts types)) (inside declaring.nameless texts below o (place_of_base o.base))
    (inside declaring.declarator_in texts below o o.specified.types o.base o.count >>= spec.external_behind texts below o))

-- as many externals as there are
abbrev pub externals : List (List ℕ) → ℕ → Declarations → Parser Token Declarations
externals texts below = looped (λ t. true) (spec.external texts below)
