-- The parts of the readers of declarators and of parameters that are functions of their own in code.
use Rattle.std.specs.Prelude.{◌-◌, ℕ, suc, Bool, true, false, List, [], ◌∷◌, ◌++◌, nat_lt, if◌then◌else◌}
use Rattle.sb_base.specs.declared.refusals.Place.{Place}
use Rattle.sb_base.specs.declared.tokens.Token.{Token}
use Rattle.sb_parse.specs.Parser.{Parser, ◌>>=◌, pure, refuse, token, choose, looped}
use Rattle.sb_sign.specs.declared.sign.Keyword.TheVariants as keyword
use Rattle.sb_tree.specs.Trees.{TypeTree, DeclTree, NoteTree, depth_of_type}
use Rattle.sb_parse.specs.Descent.{choose_second}
use Rattle.sb_lexicon.specs.Lexicon.{Lexicon, is_keyword}
use Rattle.sb_operand.specs.Readers.{qualifier}
use Rattle.sb_operand.specs.Pieces.{Pointed, constant_if}
use Rattle.sb_operand.specs.Readers as expr
use Rattle.sb_lexicon.specs.Tokens.{unexpected, is_zero, is_close, is_star, is_qualifier}
use Rattle.sb_derivation.specs.Declarators.{only_void, void_parameters, begins_old, hidden_by}
use Rattle.sb_derivation.specs.Parts.{simple_decl}
use Rattle.sb_specifier.specs.Readers.{Declarator, Declarations, with_pieces, Parts, old_definition}
use Rattle.sb_declarator.specs.Readers.{parts, declarators}

-- ---- readers with room for so many pieces

-- the declarators inside one that has this room
abbrev pub rest_of : Lexicon → (functions may_lack : Bool) → (below room k : ℕ) → Parser Token Declarator
rest_of w functions may_lack below room k = if is_zero room then refuse unexpected else declarators w functions may_lack below (parts w.texts below) (room - 1) k

abbrev pub roomy : {X : Type 0} → (Lexicon → (functions may_lack : Bool) → ℕ → (ℕ → Parts) → ℕ → (ℕ → Parser Token Declarator) → X) → Lexicon → (functions may_lack : Bool) → (below room : ℕ) → X
roomy f w functions may_lack below room = f w functions may_lack below (parts w.texts below) room (rest_of w functions may_lack below room)

-- behind `*`
abbrev pub pointed : Lexicon → (functions may_lack : Bool) → (below room : ℕ) → Parser Token Declarator
pointed w functions may_lack below room = token unexpected (is_star w) >>= (λ t. looped (is_qualifier w) (qualifier w (room - 1)) false >>= (λ c.
    declarators w functions may_lack below (parts w.texts below) (room - 1 - expr.one_if c) 0 >>= (λ d. pure (with_pieces (Pointed t.place ∷ constant_if c d.pieces) d))))

-- ---- parameters of a function under n pieces

abbrev pub inner_parameters : Lexicon → (below n : ℕ) → Parser Token Declarations
inner_parameters w below n = (parts w.texts below (suc n)).parameters w.types

abbrev pub some_parameters : Lexicon → (below n : ℕ) → Parser Token Declarations
some_parameters w below n = if nat_lt (below - suc n) 2 then only_void w
    else choose (is_keyword w keyword.Void) (choose_second (is_close w) (void_parameters w) (inner_parameters w below n)) (inner_parameters w below n)

abbrev pub parameters : Lexicon → (below n : ℕ) → Parser Token Declarations
parameters w below n = choose (begins_old w) (refuse old_definition) (some_parameters w below n)

-- ---- one parameter

-- a declarator on a type behind the parameters before it
abbrev pub parameter_behind : Lexicon → ℕ → List NoteTree → TypeTree → Place → List DeclTree → Parser Token Declarations
parameter_behind w below notes base place ds = declarators w false true below (parts w.texts below) (below - depth_of_type base) 0 >>= (λ d.
    pure (record { list = ds ++ (simple_decl notes base d place ∷ []); types = hidden_by d.name w.types }))
