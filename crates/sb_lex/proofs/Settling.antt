-- The text before and behind a cursor.
use Rattle.std.proofs.Common.{◌≡◌, ◌-◌, ◌≤◌, ◌&&◌, ◌+◌, ◌++◌, ◌∷◌, [], ℕ, List, Bool, true, false, Some, None, arith, ap, refl, suc, zero, length, take, drop, slice_get, nat_eq, cond, add-one, ne_eqb, eqb-true, sym, true≢false}
use Rattle.std.specs.List.{starts_with}
use Rattle.std.proofs.Math.Seq.{take-length}
use Rattle.std.proofs.lemmas.Bool.Decides.{nat_tests}
use Rattle.sb_lex.specs.declared.spot.Spot.{Spot}
use Rattle.sb_lex.specs.Splicing.{begins, placed, without_returns, without_splices, spliced, text_of_file, bytes_of}
use Rattle.sb_lex.specs.Items.{byte_at}
use Rattle.sb_lex.specs.Cursors.{begins_return, splice_length}

behind_byte : (line col b : ℕ) (bs : List ℕ) → begins_return (b ∷ bs) ≡ false → splice_length (b ∷ bs) ≡ 0 → nat_eq b 10 ≡ false → spliced line (col + 1) bs ≡ drop 1 (spliced line col (b ∷ bs))
behind_byte line col b [] no_return no_splice other = grind (arith, nat_tests)
behind_byte line col b (x ∷ []) no_return no_splice other = grind (arith, nat_tests)
behind_byte line col b (x ∷ y ∷ bs) no_return no_splice other = grind (arith, nat_tests)

-- the text behind a byte that is no newline
pub behind : (line col b : ℕ) (rest bs : List ℕ) → begins_return rest ≡ false → splice_length rest ≡ 0 → rest ≡ b ∷ bs → (b ≡ 10 → ⊥) → spliced line (col + 1) bs ≡ drop 1 (spliced line col rest)
behind line col b rest bs no_return no_splice is other =
    rw is (behind_byte line col b bs (rw is at no_return) (rw is at no_splice) (ne_eqb b 10 other))

module _ {A : Type 0} where
  pub drop_more : (xs : List A) (k : ℕ) → drop (k + 1) xs ≡ drop 1 (drop k xs)
  drop_more [] zero = refl
  drop_more [] (suc k) = rw add-one
  drop_more (x ∷ xs) zero = refl
  drop_more (x ∷ xs) (suc k) = rw add-one (rw add-one at (drop_more xs k))

-- no byte stands at the end
pub byte_at_end : (xs : List Spot) → None ≡ slice_get xs 0 → byte_at (bytes_of xs) 0 ≡ 0
byte_at_end [] is = refl
byte_at_end (x ∷ xs) is = cc

-- one more byte
pub taken : (xs : List Spot) (k : ℕ) (x : Spot) → Some x ≡ slice_get (drop k xs) 0 → take (k + 1) (bytes_of xs) ≡ take k (bytes_of xs) ++ x.byte ∷ []
taken [] zero x is = cc
taken [] (suc k) x is = cc
taken (y ∷ ys) zero x is = let same : x ≡ y = cc in rw same
taken (y ∷ ys) (suc k) x is = rw add-one (ap (λ l. y.byte ∷ l) (rw add-one at (taken ys k x is)))

-- at the end there is no more
pub taken_all : (xs : List Spot) (k : ℕ) → None ≡ slice_get (drop k xs) 0 → take (k + 1) (bytes_of xs) ≡ take k (bytes_of xs)
taken_all [] zero is = refl
taken_all [] (suc k) is = rw add-one
taken_all (y ∷ ys) zero is = cc
taken_all (y ∷ ys) (suc k) is = rw add-one (ap (λ l. y.byte ∷ l) (rw add-one at (taken_all ys k is)))

pub dropped_all : (xs : List Spot) (k : ℕ) → None ≡ slice_get (drop k xs) 0 → drop (k + 1) xs ≡ drop k xs
dropped_all [] zero is = refl
dropped_all [] (suc k) is = rw add-one
dropped_all (y ∷ ys) zero is = cc
dropped_all (y ∷ ys) (suc k) is = rw add-one (rw add-one at (dropped_all ys k is))

both_true : (a b : Bool) → a && b ≡ true → (a ≡ true) × (b ≡ true)
both_true true b is = (refl, is)
both_true false b is = cc

-- splicing adds no bytes
placed_length : (line col : ℕ) (bytes : List ℕ) → length (placed line col bytes) ≡ length bytes
placed_length line col [] = refl
placed_length line col (b ∷ bs) = ap suc (placed_length (cond (nat_eq b 10) (line + 1) line) (cond (nat_eq b 10) 1 (col + 1)) bs)

either_short : {A : Type 0} (first : Bool) (n : ℕ) (xs ys : List A) → length xs ≤ n → length ys ≤ n → length (cond first xs ys) ≤ n
either_short true n xs ys short other = short
either_short false n xs ys short other = other

returns_short : (xs : List Spot) → length (without_returns xs) ≤ length xs
returns_short [] = omega arith
returns_short (x ∷ xs) =
    let more = returns_short xs in
    either_short (nat_eq x.byte 13 && begins 10 xs) (length (x ∷ xs)) (without_returns xs) (x ∷ without_returns xs) (omega arith) (omega arith)

splices_short : (joined : Bool) (xs : List Spot) → length (without_splices joined xs) ≤ length xs
splices_short true [] = omega arith
splices_short false [] = omega arith
splices_short true (x ∷ xs) = let more = splices_short false xs in omega arith
splices_short false (x ∷ xs) =
    let more = splices_short false xs in
    let joined = splices_short true xs in
    either_short (nat_eq x.byte 92 && begins 10 xs) (length (x ∷ xs)) (without_splices true xs) (x ∷ without_splices false xs) (omega arith) (omega arith)

pub spliced_short : (line col : ℕ) (bytes : List ℕ) → length (spliced line col bytes) ≤ length bytes
spliced_short line col bytes =
    let bytes_are = placed_length line col bytes in
    let returns = returns_short (placed line col bytes) in
    let splices = splices_short false (without_returns (placed line col bytes)) in
    omega arith

-- the text behind a byte order mark
pub behind_mark : (bytes : List ℕ) → starts_with nat_eq bytes (239 ∷ 187 ∷ 191 ∷ []) ≡ true → spliced 1 4 (take (length bytes - 3) (drop 3 bytes)) ≡ text_of_file bytes
behind_mark [] is = cc
behind_mark (a ∷ []) is = absurd (true≢false (sym ((both_true (nat_eq 239 a) false is).1)))
behind_mark (a ∷ b ∷ []) is = absurd (true≢false (sym ((both_true (nat_eq 187 b) false ((both_true (nat_eq 239 a) (nat_eq 187 b && false) is).1)).1)))
behind_mark (a ∷ b ∷ c ∷ bs) is =
    let left : length (a ∷ b ∷ c ∷ bs) - 3 ≡ length bs = omega arith in
    let first = both_true (nat_eq 239 a) (nat_eq 187 b && (nat_eq 191 c && true)) is in
    let second = both_true (nat_eq 187 b) (nat_eq 191 c && true) first.1 in
    let third = both_true (nat_eq 191 c) true second.1 in
    rw (left, take-length bs, ← eqb-true 239 a first.0, ← eqb-true 187 b second.0, ← eqb-true 191 c third.0)
