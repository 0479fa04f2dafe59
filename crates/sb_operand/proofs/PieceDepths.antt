-- How deep pieces make a type.
use Rattle.std.proofs.Common.{◌≡◌, ℕ, suc, ◌+◌, List, [], ◌∷◌, ◌++◌, length, max, refl, ap, sym, ◌∙◌, arith}
use Rattle.sb_tree.specs.Trees.{TypeTree, depth_of_type}
use Rattle.sb_operand.specs.declared.pieces.Piece as declared
use Rattle.sb_operand.specs.Meaning.{plain_piece, plain_pieces, depth_of_piece}
use Rattle.sb_operand.specs.Pieces.{Piece, Constant, Pointed, Arrayed, Called, Grouped, typed, put_on, depth_with, depth_over}
use Rattle.sb_operand.proofs.Lists.{one_more_piece, count_of_pieces}

with_one : (p : Piece) (d : ℕ) → depth_with p d ≡ suc (max d (depth_of_piece p))
with_one Constant d = omega arith
with_one (Pointed place) d = omega arith
with_one (Arrayed size place) d = refl
with_one (Called params place) d = refl
with_one (Grouped place) d = omega arith

-- pieces make a type deeper by their count, and at least as deep as they make one of no depth
pub depth_of_over : (ps : List Piece) (d : ℕ) → depth_over d ps ≡ max (d + length ps) (depth_over 0 ps)
depth_of_over [] d = omega arith
depth_of_over (p ∷ ps) d =
    let a : depth_over (depth_with p d) ps ≡ max (depth_with p d + length ps) (depth_over 0 ps) = depth_of_over ps (depth_with p d) in
    let b : depth_over (depth_with p 0) ps ≡ max (depth_with p 0 + length ps) (depth_over 0 ps) = depth_of_over ps (depth_with p 0) in
    rw (a, b, with_one p d, with_one p 0) (omega arith)

pub depth_of_pushed : (ps : List declared.Piece) (p : declared.Piece) (d size : ℕ) → d ≡ depth_over 0 (plain_pieces ps) → size ≡ depth_of_piece (plain_piece p)
    → depth_over 0 (plain_pieces (ps ++ (p ∷ []))) ≡ max d (size + 1 + length ps)
depth_of_pushed ps p d size known is =
    ap (depth_over 0) (one_more_piece ps p) ∙ depth_of_over (plain_pieces ps) (depth_with (plain_piece p) 0)
    ∙ rw (with_one (plain_piece p) 0, count_of_pieces ps, sym known, sym is) (omega arith)

depth_of_put : (p : Piece) (t : TypeTree) → depth_of_type (put_on p t) ≡ depth_with p (depth_of_type t)
depth_of_put Constant t = refl
depth_of_put (Pointed place) t = refl
depth_of_put (Arrayed size place) t = refl
depth_of_put (Called params place) t = refl
depth_of_put (Grouped place) t = refl

over : (ps : List Piece) (t : TypeTree) → depth_of_type (typed t ps) ≡ depth_over (depth_of_type t) ps
over [] t = refl
over (p ∷ ps) t = over ps (put_on p t) ∙ ap (λ d. depth_over d ps) (depth_of_put p t)

pub depth_of_typed : (t : TypeTree) (ps : List declared.Piece) (d e : ℕ) → d ≡ depth_of_type t → e ≡ depth_over 0 (plain_pieces ps)
    → depth_of_type (typed t (plain_pieces ps)) ≡ max e (d + length ps)
depth_of_typed t ps d e is deep =
    over (plain_pieces ps) t ∙ depth_of_over (plain_pieces ps) (depth_of_type t) ∙ rw (count_of_pieces ps, sym is, sym deep) (omega arith)
