-- What stands at the front of a text.
use Rattle.std.proofs.Common.{◌≡◌, ◌∷◌, [], ℕ, List, false, refl, drop, nat_eq, ne_eqb}
use Rattle.sb_lex.specs.declared.spot.Spot.{Spot}
use Rattle.sb_lex.specs.Splicing.{bytes_of}
use Rattle.sb_lex.specs.Items.{byte_at, plain_item, ordinary_item}

-- the bytes behind the first
second : (xs : List Spot) → byte_at (bytes_of (drop 1 xs)) 0 ≡ byte_at (bytes_of xs) 1
second [] = refl
second (x ∷ xs) = refl

third : (xs : List Spot) → byte_at (bytes_of (drop 1 (drop 1 xs))) 0 ≡ byte_at (bytes_of xs) 2
third [] = refl
third (x ∷ []) = refl
third (x ∷ y ∷ xs) = refl

fourth : (xs : List Spot) → byte_at (bytes_of (drop 1 (drop 1 (drop 1 xs)))) 0 ≡ byte_at (bytes_of xs) 3
fourth [] = refl
fourth (x ∷ []) = refl
fourth (x ∷ y ∷ []) = refl
fourth (x ∷ y ∷ z ∷ xs) = refl

-- no backslash stands at the front
pub no_backslash : (xs ys zs ws : List Spot) (a b c d : ℕ) → ys ≡ drop 1 xs → zs ≡ drop 1 ys → ws ≡ drop 1 zs
    → a ≡ byte_at (bytes_of xs) 0 → (a ≡ 92 → ⊥) → b ≡ byte_at (bytes_of ys) 0 → c ≡ byte_at (bytes_of zs) 0 → d ≡ byte_at (bytes_of ws) 0 → plain_item a b c d ≡ ordinary_item (bytes_of xs)
no_backslash xs ys zs ws a b c d is_ys is_zs is_ws first other is_b is_c is_d =
    let plain : nat_eq (byte_at (bytes_of xs) 0) 92 ≡ false = rw (← first) (ne_eqb a 92 other) in
    rw (plain, first, is_b, is_c, is_d, is_ws, is_zs, is_ys, second xs, third xs, fourth xs)
