-- What the readers of single words in code compute.
use Rattle.std.proofs.Common.{◌≡◌, List, [], ◌∷◌, is_some, refl}
use Rattle.sb_parse.specs.Parser.{at_next, taken}
use Rattle.sb_function.specs.declared.lexeme.Piece.{Piece}
use Rattle.sb_function.specs.declared.syntax.Param.{Param}
use Rattle.sb_function.specs.declared.syntax.Simple.{Simple}
use Rattle.sb_function.specs.Marks.{misplaced, next_lexeme}
use Rattle.sb_function.specs.Reads.{given}
use Rattle.sb_function.specs.Statements.{simple_at, array_at, comparison_at, right_at, value_at, begins_store}
use Rattle.sb_function.proofs.Steps.Marks.{taken_given}

pub simple_given : (params : List Param) (ts : List Piece) → taken misplaced (λ t. simple_at params t.lexeme) ts ≡ given (simple_at params (next_lexeme ts)) ts
unfolding simple_at
simple_given params ts = taken_given (simple_at params) ts refl

pub right_given : (params : List Param) (left : Simple) (ts : List Piece) → taken misplaced (λ t. right_at params left t.lexeme) ts ≡ given (right_at params left (next_lexeme ts)) ts
unfolding right_at simple_at
right_given params left ts = taken_given (right_at params left) ts refl

pub value_given : (params : List Param) (ts : List Piece) → taken misplaced (λ t. value_at params t.lexeme) ts ≡ given (value_at params (next_lexeme ts)) ts
unfolding value_at simple_at
value_given params ts = taken_given (value_at params) ts refl

pub array_given : (params : List Param) (ts : List Piece) → taken misplaced (λ t. array_at params t.lexeme) ts ≡ given (array_at params (next_lexeme ts)) ts
unfolding array_at
array_given params ts = taken_given (array_at params) ts refl

pub comparison_given : (ts : List Piece) → taken misplaced (λ t. comparison_at t.lexeme) ts ≡ given (comparison_at (next_lexeme ts)) ts
unfolding comparison_at
comparison_given ts = taken_given comparison_at ts refl

pub store_next : (params : List Param) (ts : List Piece) → is_some (array_at params (next_lexeme ts)) ≡ at_next (begins_store params) ts
unfolding array_at
store_next params [] = refl
store_next params (t ∷ ts) = refl
