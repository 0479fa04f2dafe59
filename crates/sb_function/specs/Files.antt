-- The readers of functions and files.
use Rattle.std.specs.Prelude.{not, List, [], ◌∷◌, ◌++◌, map, Option, Some, None}
use Rattle.sb_base.specs.declared.interning.Name.{Name}
use Rattle.sb_base.specs.declared.refusals.Place.{Place}
use Rattle.sb_parse.specs.Parser.{◌>>=◌, pure, taken, looped, whole}
use Rattle.sb_function.specs.declared.lexeme.Lexeme.TheVariants as sign
use Rattle.sb_function.specs.declared.lexeme.Piece.{Piece}
use Rattle.sb_function.specs.Syntax.{FunctionTree}
use Rattle.sb_function.specs.Grammar.{is_among}
use Rattle.sb_function.specs.Marks.{Reader, misplaced, is_mark, mark, name_of}
use Rattle.sb_function.specs.Params.{name_if, params}
use Rattle.sb_function.specs.Statements.{block_rest, statement}

abbrev pub function_names : List FunctionTree → List Name
function_names fs = map (λ f. f.name) fs

abbrev pub with_place : Place → Option Name → Option (Name × Place)
with_place p None = None
with_place p (Some n) = Some (n, p)

-- a name that no function so far has, and where it stands
abbrev pub new_name : List FunctionTree → Piece → Option (Name × Place)
new_name fs t = with_place t.place (name_if (λ n. not (is_among n (function_names fs))) (name_of t.lexeme))

unfoldable pub function : List FunctionTree → Reader FunctionTree
function fs =
    mark sign.Void (taken misplaced (new_name fs) >>= (λ named. mark sign.OpenParenthesis (params >>= (λ ps.
    mark sign.OpenBrace (block_rest ps (statement ps 99) >>= (λ body. pure (record { name = named.0; place = named.1; params = ps; body = body })))))))

unfoldable pub function_more : List FunctionTree → Reader (List FunctionTree)
function_more fs = function fs >>= (λ f. pure (fs ++ (f ∷ [])))

-- functions as far as they go
unfoldable pub functions : Reader (List FunctionTree)
functions = pure [] >>= looped (is_mark sign.Void) function_more

-- a whole text
unfoldable pub file : Reader (List FunctionTree)
file = whole misplaced functions
