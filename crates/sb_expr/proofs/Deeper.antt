-- The readers of a depth that are made of those of the next lower one.
use Rattle.std.proofs.Common.{◌≡◌, ℕ, zero, suc, ◌-◌, ◌<◌, ◌≤◌, Bool, false, nat_lt, List, ◌∷◌, length, refl, ap, sym, ◌∙◌, arith}
use Rattle.sb_base.specs.declared.tokens.Token.{Token}
use Rattle.sb_parse.specs.Parser.{done, and_then, ◌>>=◌, pure, token, looped}
use Rattle.sb_expr.specs.declared.expressions.Level as entries
use Rattle.sb_expr.specs.declared.expressions.Level.TheVariants as entry
use Rattle.sb_operand.specs.declared.pieces.Piece.{Piece}
use Rattle.sb_parse.specs.Descent.{descent}
use Rattle.sb_expr.specs.Expression.{Level, Assignment}
use Rattle.sb_lexicon.specs.Lexicon.{Lexicon}
use Rattle.sb_operand.specs.Meaning.{plain_pieces}
use Rattle.sb_expr.specs.Meaning.{nested, declared, piecewise, plain_level}
use Rattle.sb_operand.specs.Readers.{qualifier}
use Rattle.sb_expr.specs.Parts.{no_expr, sized}
use Rattle.sb_operand.specs.Pieces.{Pointed, Arrayed, constant_if}
use Rattle.sb_expr.specs.Readers as spec
use Rattle.sb_operand.specs.Readers.{no_declarator, one_if}
use Rattle.sb_expr.specs.Readers.{Parts, expr_reader, type_reader, no_type, at_level, type_named, abstract_declarator, size_at, infix_at, cast_expr, operated, arrayed, pointed}
use Rattle.sb_lexicon.specs.Tokens.{is_operator, unexpected, is_open_bracket, is_close_bracket, is_star, is_qualifier}
use Rattle.sb_operand.proofs.Lists.{count_of_pieces}

-- k levels down at once
lower_by : {P : Type 0} (bottom : P) (step : ℕ → (ℕ → P) → P) (n k : ℕ) → descent bottom step n k ≡ descent bottom step (n - k) 0
unfolding descent
lower_by bottom step zero k = ap (λ n. descent bottom step n 0) (let none : 0 ≡ zero - k = omega arith in none)
lower_by bottom step (suc n) zero = ap (λ m. descent bottom step m 0) (let same : suc n ≡ suc n - zero = omega arith in same)
lower_by bottom step (suc n) (suc k) = lower_by bottom step n k ∙ ap (λ m. descent bottom step m 0) (let same : n - k ≡ suc n - suc k = omega arith in same)

pub one_down : {P : Type 0} (bottom : P) (step : ℕ → (ℕ → P) → P) (n : ℕ) → 0 < n → descent bottom step n 0 ≡ step (n - 1) (descent bottom step (n - 1))
unfolding descent
one_down bottom step zero some = absurd (omega arith)
one_down bottom step (suc n) some = ap (λ m. step m (descent bottom step m)) (let same : n ≡ suc n - 1 = omega arith in same)

pub one_declarator : (w : Lexicon) (below room : ℕ) (ts : List Token) → 0 < room → declared w below room 0 ts ≡ piecewise abstract_declarator w below (room - 1) ts
one_declarator w below room ts some = ap (λ p. p ts) (one_down (no_declarator w) (abstract_declarator w (nested size_at w below)) room some)

pub no_declarators : (w : Lexicon) (below room : ℕ) (ts : List Token) → room ≡ 0 → declared w below room 0 ts ≡ no_declarator w ts
unfolding descent
no_declarators w below room ts none = ap (λ n. declared w below n 0 ts) none

pub one_expr : (w : Lexicon) (left : ℕ) (level : Level) (ts : List Token) → 0 < left → expr_reader w left level ts ≡ nested at_level w (left - 1) level ts
one_expr w left level ts some = ap (λ (p : Parts). p.expr level ts) (one_down _ _ left some)

pub no_exprs : (w : Lexicon) (left : ℕ) (level : entries.Level) (ts : List Token) → left ≡ 0 → expr_reader w left (plain_level level) ts ≡ no_expr w ts
unfolding descent
no_exprs w left level ts none = ap (λ n. expr_reader w n (plain_level level) ts) none ∙ begun level
  where
    begun : (level : entries.Level) → expr_reader w 0 (plain_level level) ts ≡ no_expr w ts
    begun entry.Prefix = refl
    begun (entry.Infix rank) = refl
    begun entry.Conditional = refl
    begun entry.Assignment = refl
    begun entry.Sequence = refl

pub one_type : (w : Lexicon) (left : ℕ) (ts : List Token) → 0 < left → type_reader w left ts ≡ nested type_named w (left - 1) ts
one_type w left ts some = ap (λ (p : Parts). p.type_name ts) (one_down _ _ left some)

pub no_types : (w : Lexicon) (left : ℕ) (ts : List Token) → left ≡ 0 → type_reader w left ts ≡ no_type w ts
unfolding descent
no_types w left ts none = ap (λ n. type_reader w n ts) none

-- operators of a rank and of tighter ones
pub no_infix : (w : Lexicon) (below rank : ℕ) (ts : List Token) → rank ≡ 0 → nested infix_at w below rank ts ≡ nested cast_expr w below ts
unfolding infix_at
no_infix w below rank ts none = ap (λ k. nested infix_at w below k ts) none

pub some_infix : (w : Lexicon) (below rank : ℕ) (ts : List Token) → (rank ≡ 0 → ⊥)
    → nested infix_at w below rank ts ≡ and_then (nested infix_at w below (rank - 1) ts) (looped (is_operator w (suc (rank - 1))) (nested operated w below (rank - 1)))
unfolding infix_at
some_infix w below zero ts some = absurd (some refl)
some_infix w below (suc k) ts some =
    ap (λ n. and_then (nested infix_at w below n ts) (looped (is_operator w (suc n)) (nested operated w below n))) (let less : k ≡ suc k - 1 = omega arith in less)

-- behind the opening bracket of an array
pub arrayed_at : (w : Lexicon) (below room count : ℕ) (ps : List Piece) (ts : List Token) (o : Token) (mid : List Token)
    → count ≡ length ps → length ps ≤ room → token unexpected (is_open_bracket w) ts ≡ done o mid
    → piecewise arrayed w below room (plain_pieces ps) ts
    ≡ and_then (sized w (expr_reader w (below - count) Assignment) mid) (λ e. token unexpected (is_close_bracket w) >>= (λ c. pure (Arrayed e o.place ∷ plain_pieces ps)))
unfolding arrayed spec.sized
arrayed_at w below room count ps ts o mid is fits opened =
    let full : nat_lt room (length (plain_pieces ps)) ≡ false = rw (count_of_pieces ps) (grind (arith, fits)) in
    let size : nested size_at w below (length (plain_pieces ps)) ≡ expr_reader w (below - count) Assignment =
    rw (count_of_pieces ps, sym is) (ap (λ (p : Parts). p.expr Assignment) (lower_by _ _ below count)) in
    rw (full, opened) (ap (λ r. and_then (sized w r mid) (λ e. token unexpected (is_close_bracket w) >>= (λ c. pure (Arrayed e o.place ∷ plain_pieces ps)))) size)

-- behind a `*` and its qualifiers
pub pointed_at : (w : Lexicon) (below room left : ℕ) (constant : Bool) (ts : List Token) (t : Token) (mid rest : List Token)
    → left ≡ room - one_if constant → token unexpected (is_star w) ts ≡ done t mid → looped (is_qualifier w) (qualifier w room) false mid ≡ done constant rest
    → piecewise pointed w below room ts ≡ and_then (declared w below left 0 rest) (λ ps. pure (Pointed t.place ∷ constant_if constant ps))
unfolding pointed spec.qualifier
pointed_at w below room left constant ts t mid rest is starred read =
    rw (starred, read) (ap (λ r. and_then (r rest) (λ ps. pure (Pointed t.place ∷ constant_if constant ps)))
    (lower_by (no_declarator w) (abstract_declarator w (nested size_at w below)) room (one_if constant) ∙ ap (λ n. declared w below n 0) (sym is)))
