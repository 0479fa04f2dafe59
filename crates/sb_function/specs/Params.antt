-- The reader of the parameters of a function. A size may be the name of a parameter that stands later, so the reader carries the sizes that no parameter has yet,
-- and refuses the first word or mark after which the places that are left could not give them all.
use Rattle.std.specs.Prelude.{ℕ, zero, suc, Bool, true, false, not, ◌||◌, ◌&&◌, nat_le, nat_lt, List, [], ◌∷◌, ◌++◌, map, length, Option, Some, None, if◌then◌else◌}
use Rattle.sb_base.specs.declared.interning.Name.{Name}
use Rattle.sb_parse.specs.Parser.{◌>>=◌, pure, taken, choose, only, guard}
use Rattle.sb_function.specs.declared.lexeme.Lexeme.TheVariants as sign
use Rattle.sb_function.specs.declared.lexeme.Piece.{Piece}
use Rattle.sb_function.specs.declared.syntax.Param.{Param}
use Rattle.sb_function.specs.declared.syntax.ParamKind.{ParamKind}
use Rattle.sb_function.specs.declared.syntax.ParamKind.TheVariants as kind
use Rattle.sb_function.specs.declared.written.Written.{Written}
use Rattle.sb_function.specs.declared.written.WrittenKind.{WrittenKind}
use Rattle.sb_function.specs.declared.written.WrittenKind.TheVariants.{Int, Unsigned, OutWrites}
use Rattle.sb_function.specs.Grammar.{same_name, is_among}
use Rattle.sb_function.specs.Marks.{Reader, misplaced, is_mark, mark, name_of}

-- the parameters so far, and the sizes that none of them has as its name
pub record Seen : Type 0 where
  pub written : List Written
  pub pending : List Name

abbrev pub written_names : List Written → List Name
written_names ws = map (λ w. w.name) ws

abbrev pub counts : WrittenKind → Bool
counts Int = true
counts Unsigned = true
counts (OutWrites size) = false

-- a number parameter has the name
abbrev pub has_number : Name → List Written → Bool
has_number n [] = false
has_number n (w ∷ rest) = (same_name n w.name && counts w.kind) || has_number n rest

-- the list without the first of this name
abbrev pub without : Name → List Name → List Name
without n [] = []
without n (m ∷ rest) = if same_name n m then rest else m ∷ without n rest

abbrev pub is_known : Seen → Name → Bool
is_known seen n = has_number n seen.written || is_among n seen.pending

abbrev pub pending_with : Seen → Name → List Name
pending_with seen size = if is_known seen size then seen.pending else size ∷ seen.pending

-- ---- what a name may be where `room` more parameters may follow

abbrev pub number_name : ℕ → Seen → Name → Bool
number_name room seen n = not (is_among n (written_names seen.written)) && (is_among n seen.pending || nat_le (length seen.pending) room)

abbrev pub size_name : ℕ → Seen → Name → Bool
size_name room seen n = is_known seen n || (not (is_among n (written_names seen.written)) && nat_lt (length seen.pending) room)

abbrev pub pointer_name : Seen → Name → Name → Bool
pointer_name seen size n = not (is_among n (written_names seen.written)) && not (is_among n (pending_with seen size))

abbrev pub name_if : (Name → Bool) → Option Name → Option Name
name_if test None = None
name_if test (Some n) = if test n then Some n else None

-- a name that passes the test
abbrev pub named : (Name → Bool) → Piece → Option Name
named test t = name_if test (name_of t.lexeme)

-- ---- a parameter

abbrev pub with_number : Seen → WrittenKind → Name → Seen
with_number seen k n = record { written = seen.written ++ (record { name = n; kind = k } ∷ []); pending = without n seen.pending }

abbrev pub with_pointer : Seen → Name → Name → Seen
with_pointer seen size n = record { written = seen.written ++ (record { name = n; kind = OutWrites size } ∷ []); pending = pending_with seen size }

unfoldable pub number_param : ℕ → Seen → WrittenKind → Reader Seen
number_param room seen k = taken misplaced (named (number_name room seen)) >>= (λ n. pure (with_number seen k n))

unfoldable pub pointer_param : ℕ → Seen → Reader Seen
pointer_param room seen =
    mark sign.OutWrites (mark sign.OpenParenthesis (taken misplaced (named (size_name room seen)) >>= (λ size.
    mark sign.CloseParenthesis (mark sign.Int (mark sign.Star (taken misplaced (named (pointer_name seen size)) >>= (λ n. pure (with_pointer seen size n))))))))

-- the same in two parts: the size in its annotation, and the name behind the `*`
unfoldable pub size_part : ℕ → Seen → Reader Name
size_part room seen = mark sign.OutWrites (mark sign.OpenParenthesis (taken misplaced (named (size_name room seen)) >>= (λ size. mark sign.CloseParenthesis (pure size))))

unfoldable pub name_part : Seen → Name → Reader Name
name_part seen size = mark sign.Int (mark sign.Star (taken misplaced (named (pointer_name seen size))))

abbrev pub begins_param : Piece → Bool
begins_param t = is_mark sign.Int t || (is_mark sign.Unsigned t || is_mark sign.OutWrites t)

unfoldable pub param : ℕ → Seen → Reader Seen
param room seen =
    only misplaced begins_param (
    choose (is_mark sign.Int) (mark sign.Int (number_param room seen Int)) (
    choose (is_mark sign.Unsigned) (mark sign.Unsigned (mark sign.Int (number_param room seen Unsigned))) (
    guard (nat_lt room (length seen.pending)) misplaced (pointer_param room seen))))

-- ---- the parameters, up to the parenthesis behind them

abbrev pub is_zero : ℕ → Bool
is_zero zero = true
is_zero (suc n) = false

abbrev pub goes_on : Piece → Bool
goes_on t = is_mark sign.Comma t || is_mark sign.CloseParenthesis t

abbrev pub closing : Seen → Reader (List Written)
closing seen = guard (not (is_zero (length seen.pending))) misplaced (mark sign.CloseParenthesis (pure seen.written))

unfoldable pub params_after : ℕ → Seen → Reader (List Written)
params_after zero seen = only misplaced goes_on (choose (is_mark sign.Comma) (λ ts. guard true misplaced (pure seen.written) ts) (closing seen))
params_after (suc room) seen = only misplaced goes_on (choose (is_mark sign.Comma) (mark sign.Comma (param room seen >>= params_after room)) (closing seen))

-- a comma and the parameters behind it
unfoldable pub params_behind : ℕ → Seen → Reader (List Written)
params_behind room seen = mark sign.Comma (param room seen >>= params_after room)

-- ---- sizes by position

-- where the name stands in the list
abbrev pub place_of : Name → List Name → ℕ
place_of n [] = 0
place_of n (m ∷ rest) = if same_name n m then 0 else suc (place_of n rest)

abbrev pub placed_kind : List Name → WrittenKind → ParamKind
placed_kind names Int = kind.Int
placed_kind names Unsigned = kind.Unsigned
placed_kind names (OutWrites size) = kind.OutWrites (place_of size names)

abbrev pub placed : List Name → Written → Param
placed names w = record { name = w.name; kind = placed_kind names w.kind }

abbrev pub settled : List Written → List Param
settled ws = map (placed (written_names ws)) ws

unfoldable pub params : Reader (List Param)
params = param 31 (record { written = []; pending = [] }) >>= params_after 31 >>= (λ ws. pure (settled ws))
