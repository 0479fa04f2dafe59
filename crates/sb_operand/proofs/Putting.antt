-- How deep a type with pieces put on it is: by how many pieces there are, and by what stands inside them.
use Rattle.std.proofs.Common.{◌≡◌, ◌≤◌, ◌+◌, ◌-◌, ℕ, suc, max, List, [], ◌∷◌, length, refl, ap, ◌∙◌, arith}
use Rattle.std.proofs.Math.Nat.{le-max_left, le-max_right, max-le}
use Rattle.sb_tree.specs.Trees.{TypeTree, depth_of_optional_expr, depth_of_decls, depth_of_type}
use Rattle.sb_operand.specs.Pieces.{Piece, Constant, Pointed, Arrayed, Called, Grouped, put_on, typed, depth_with, depth_over}

-- how deep what stands inside a piece is
abbrev pub inner : Piece → ℕ
inner (Arrayed size place) = depth_of_optional_expr size
inner (Called params place) = depth_of_decls params
inner _ = 0

-- What stands inside each piece has the room that the pieces above it leave.
abbrev pub InnerFits : ℕ → List Piece → Type 0
InnerFits below [] = Unit {0}
InnerFits below (p ∷ ps) = (inner p ≤ below - length ps) × InnerFits below ps

put_depth : (p : Piece) (t : TypeTree) → depth_of_type (put_on p t) ≡ depth_with p (depth_of_type t)
put_depth Constant t = refl
put_depth (Pointed place) t = refl
put_depth (Arrayed size place) t = refl
put_depth (Called params place) t = refl
put_depth (Grouped place) t = refl

pub typed_depth : (t : TypeTree) (ps : List Piece) → depth_of_type (typed t ps) ≡ depth_over (depth_of_type t) ps
typed_depth t [] = refl
typed_depth t (p ∷ ps) = typed_depth (put_on p t) ps ∙ ap (λ d. depth_over d ps) (put_depth p t)

deeper : (p : Piece) (d : ℕ) → suc d ≤ depth_with p d
deeper Constant d = omega arith
deeper (Pointed place) d = omega arith
deeper (Arrayed size place) d = let it : d ≤ max d (depth_of_optional_expr size) = le-max_left d (depth_of_optional_expr size) in omega arith
deeper (Called params place) d = let it : d ≤ max d (depth_of_decls params) = le-max_left d (depth_of_decls params) in omega arith
deeper (Grouped place) d = omega arith

deeper_inside : (p : Piece) (d : ℕ) → suc (inner p) ≤ depth_with p d
deeper_inside Constant d = omega arith
deeper_inside (Pointed place) d = omega arith
deeper_inside (Arrayed size place) d = let it : depth_of_optional_expr size ≤ max d (depth_of_optional_expr size) = le-max_right d (depth_of_optional_expr size) in omega arith
deeper_inside (Called params place) d = let it : depth_of_decls params ≤ max d (depth_of_decls params) = le-max_right d (depth_of_decls params) in omega arith
deeper_inside (Grouped place) d = omega arith

no_deeper : (p : Piece) (d m : ℕ) → d ≤ m → inner p ≤ m → depth_with p d ≤ suc m
no_deeper Constant d m le in_le = omega arith
no_deeper (Pointed place) d m le in_le = omega arith
no_deeper (Arrayed size place) d m le in_le = let it : max d (depth_of_optional_expr size) ≤ m = max-le le in_le in omega arith
no_deeper (Called params place) d m le in_le = let it : max d (depth_of_decls params) ≤ m = max-le le in_le in omega arith
no_deeper (Grouped place) d m le in_le = omega arith

pub over_count : (below d : ℕ) (ps : List Piece) → depth_over d ps ≤ suc below → d + length ps ≤ suc below
over_count below d [] le = omega arith
over_count below d (p ∷ ps) le =
    let rest : depth_with p d + length ps ≤ suc below = over_count below (depth_with p d) ps le in
    let more : suc d ≤ depth_with p d = deeper p d in
    omega arith

pub over_inner : (below d : ℕ) (ps : List Piece) → depth_over d ps ≤ suc below → InnerFits below ps
over_inner below d [] le = tt
over_inner below d (p ∷ ps) le =
    let rest : depth_with p d + length ps ≤ suc below = over_count below (depth_with p d) ps le in
    let more : suc (inner p) ≤ depth_with p d = deeper_inside p d in
    (omega arith, over_inner below (depth_with p d) ps le)

pub over_fits : (below d : ℕ) (ps : List Piece) → d + length ps ≤ suc below → InnerFits below ps → depth_over d ps ≤ suc below
over_fits below d [] le fits = omega arith
over_fits below d (p ∷ ps) le fits =
    let room : d + suc (length ps) ≤ suc below = le in
    let inside : inner p ≤ below - length ps = fits.0 in
    let most : depth_with p d ≤ suc (below - length ps) = no_deeper p d (below - length ps) (omega arith) inside in
    over_fits below (depth_with p d) ps (omega arith) fits.1
