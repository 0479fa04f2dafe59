-- the warnings of a function: by place and number, of equal ones the first that was asked
use Rattle.std.specs.Prelude.{◌≡◌, ℕ, Bool, ◌&&◌, ◌||◌, List, [], ◌∷◌, codes, nat_eq, nat_lt, if◌then◌else◌}
use Rattle.std.specs.List.{AllByRecursion}
use Rattle.std.specs.List.Sorted.{IsStrictlySortedBy}
use Rattle.std.specs.Map.{keys_of}
use Rattle.std.specs.Ordering.{nat_cmp, ordering_then}
use Rattle.std.specs.declared.cmp.Ordering.{Ordering}
use Rattle.sb_store.specs.declared.warning.Need.{Need}
use Rattle.sb_store.specs.declared.warning.Need.TheVariants.{Present, Known, FromStart, BeforeEnd}
use Rattle.sb_store.specs.declared.warning.Warning.{Warning}

-- the number of a warning
abbrev pub number_of : Need → ℕ
number_of Present = 101
number_of Known = 102
number_of FromStart = 103
number_of BeforeEnd = 104

-- its words
abbrev pub text_of : Need → List ℕ
text_of Present = codes "may be null"
text_of Known = codes "target not known"
text_of FromStart = codes "before the start"
text_of BeforeEnd = codes "past the end"

-- the order of two numbers, and what decides where they are equal
abbrev pub is_before_or : ℕ → ℕ → Bool → Bool
is_before_or a b otherwise = nat_lt a b || (nat_eq a b && otherwise)

abbrev pub is_before : Warning → Warning → Bool
is_before w x =
    is_before_or w.place.file x.place.file (is_before_or w.place.line x.place.line (is_before_or w.place.col x.place.col
    (nat_lt (number_of w.need) (number_of x.need))))

abbrev pub is_alike : Warning → Warning → Bool
is_alike w x = nat_eq w.place.file x.place.file && nat_eq w.place.line x.place.line && nat_eq w.place.col x.place.col && nat_eq (number_of w.need) (number_of x.need)

-- one warning more, in its place
abbrev pub noted : Warning → List Warning → List Warning
noted w [] = w ∷ []
noted w (x ∷ xs) = if is_before w x then w ∷ x ∷ xs else (if is_alike w x then x ∷ xs else x ∷ noted w xs)

-- where a warning stands among others: by file, line, column and number
abbrev pub Spot : Type 0
Spot = ℕ × ℕ × ℕ × ℕ

abbrev pub spot_of : Warning → Spot
spot_of w = (w.place.file, w.place.line, w.place.col, number_of w.need)

-- the order of such places
abbrev pub spot_cmp : Spot → Spot → Ordering
spot_cmp a b = ordering_then (ordering_then (ordering_then (nat_cmp a.0 b.0) (nat_cmp a.1 b.1)) (nat_cmp a.2 b.2)) (nat_cmp a.3 b.3)

-- warnings are kept by their places, in the order of these
pub record AreKept (entries : List (Spot × Warning)) : Type 0 where
  pub placed : AllByRecursion (λ e. e.0 ≡ spot_of e.1) entries
  pub ordered : IsStrictlySortedBy spot_cmp (keys_of entries)
