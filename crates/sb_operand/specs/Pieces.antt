-- What a declarator makes of a type (C99 6.7.5, 6.7.6): pieces in the order in which they are put on the type.
use Rattle.std.specs.Prelude.{ℕ, suc, Bool, true, false, List, [], ◌∷◌, max, if◌then◌else◌}
use Rattle.sb_base.specs.declared.refusals.Place.{Place}
use Rattle.sb_tree.specs.Trees as tree
use Rattle.sb_tree.specs.Trees.{TypeTree, OptionalExpr, DeclTrees, depth_of_optional_expr, depth_of_decls}

pub data Piece : Type 0 where
  Constant : Piece
  Pointed : Place → Piece
  Arrayed : OptionalExpr → Place → Piece
  Called : DeclTrees → Place → Piece
  Grouped : Place → Piece

abbrev pub put_on : Piece → TypeTree → TypeTree
put_on Constant t = tree.Const t
put_on (Pointed place) t = tree.Pointer t place
put_on (Arrayed size place) t = tree.Array t size place
put_on (Called params place) t = tree.Function t params place
put_on (Grouped place) t = tree.ParenType t place

-- a type with pieces put on it
abbrev pub typed : TypeTree → List Piece → TypeTree
typed t [] = t
typed t (p ∷ ps) = typed (put_on p t) ps

abbrev pub depth_with : Piece → ℕ → ℕ
depth_with Constant d = suc d
depth_with (Pointed place) d = suc d
depth_with (Arrayed size place) d = suc (max d (depth_of_optional_expr size))
depth_with (Called params place) d = suc (max d (depth_of_decls params))
depth_with (Grouped place) d = suc d

-- how deep a type of this depth is with pieces put on it
abbrev pub depth_over : ℕ → List Piece → ℕ
depth_over d [] = d
depth_over d (p ∷ ps) = depth_over (depth_with p d) ps

abbrev pub constant_if : Bool → List Piece → List Piece
constant_if constant ps = if constant then Constant ∷ ps else ps

-- what a function with these pieces put on it comes to is a pointer to a function, and no array of functions
abbrev pub points : List Piece → Bool
points [] = false
points (Pointed place ∷ ps) = true
points (Grouped place ∷ ps) = points ps
points (p ∷ ps) = false

-- a type as a declaration writes it: the type of its specifiers, and what the declarator puts on it
pub record Declared : Type 0 where
  pub base : TypeTree
  pub pieces : List Piece

abbrev pub type_of : Declared → TypeTree
type_of d = typed d.base d.pieces
