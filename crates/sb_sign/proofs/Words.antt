-- Texts of words.
use Rattle.std.proofs.Common.{◌≡◌, ℕ, List, [], ◌∷◌, take, length, nat_eq, refl, arith}
use Rattle.std.specs.List.{starts_with}
use Rattle.std.specs.Str.{bytes_eq}
use Rattle.sb_sign.specs.Spellings.{begins_with}

other_way : (xs ys : List ℕ) → bytes_eq xs ys ≡ bytes_eq ys xs
other_way [] [] = refl
other_way [] (y ∷ ys) = refl
other_way (x ∷ xs) [] = refl
other_way (x ∷ xs) (y ∷ ys) =
    let same : nat_eq x y ≡ nat_eq y x = grind arith in
    rw (same, other_way xs ys) refl

pub begins_so : (text front : List ℕ) → starts_with nat_eq text front ≡ begins_with text front
begins_so text front = other_way front (take (length front) text)
