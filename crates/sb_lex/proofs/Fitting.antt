-- The longest front that fits, as a function of the text.
use Rattle.std.proofs.Common.{◌≡◌, ◌+◌, ◌<◌, ◌≤◌, ◌∷◌, [], ℕ, List, Bool, true, false, ◌||◌, Some, None, Option, is_some, MatchOption, arith, ap, sym, ◌∙◌, refl, suc, zero, length, take, slice_get, cond}
use Rattle.sb_lex.specs.declared.scan.Scan.{Scan}
use Rattle.sb_lex.specs.declared.spot.Spot.{Spot}
use Rattle.sb_lex.specs.Splicing.{bytes_of}
use Rattle.sb_lex.specs.Items.{next_of, next_at, is_whole, fits, fits_after, some_front, Longest, NoneFits}

-- the longest front, by that of what is behind the first byte
abbrev pub or_here : Bool → Option ℕ → Option ℕ
or_here whole None = cond whole (Some 0) None
or_here whole (Some n) = Some (suc n)

abbrev pub longest_after : (Scan → Option ℕ) → Option Scan → Option ℕ
longest_after goes None = None
longest_after goes (Some scan) = goes scan

abbrev pub longest_of : Scan → List ℕ → Option ℕ
longest_of scan [] = or_here (is_whole scan) None
longest_of scan (b ∷ bs) = or_here (is_whole scan) (longest_after (λ after. longest_of after bs) (next_of scan b))

-- it is the longest that fits
abbrev pub IsLongest : Scan → List ℕ → Option ℕ → Type 0
IsLongest scan bytes found = MatchOption found (NoneFits scan bytes) (λ n. Longest scan bytes n)

at_end : (scan : Scan) (whole : Bool) → is_whole scan ≡ whole → IsLongest scan [] (or_here whole None)
at_end scan true is = record { within = omega arith; fitting = is; longest = λ m some few. absurd (omega arith) }
at_end scan false is = at_any
  where
    at_any : (m : ℕ) → fits scan (take m []) ≡ false
    at_any zero = is
    at_any (suc m) = is

-- nothing goes on with the first byte
stuck : (scan : Scan) (b : ℕ) (bs : List ℕ) (whole : Bool) → is_whole scan ≡ whole → next_of scan b ≡ None → IsLongest scan (b ∷ bs) (or_here whole None)
stuck scan b bs true is none = record { within = omega arith; fitting = is; longest = at_later }
  where
    at_later : (m : ℕ) → 0 < m → m ≤ length (b ∷ bs) → fits scan (take m (b ∷ bs)) ≡ false
    at_later zero some few = absurd (omega arith)
    at_later (suc m) some few = rw none
stuck scan b bs false is none = at_any
  where
    at_any : (m : ℕ) → fits scan (take m (b ∷ bs)) ≡ false
    at_any zero = is
    at_any (suc m) = rw none

-- it goes on with the first byte
goes_on : (scan after : Scan) (b : ℕ) (bs : List ℕ) (whole : Bool) (found : Option ℕ) → is_whole scan ≡ whole → next_of scan b ≡ Some after → IsLongest after bs found → IsLongest scan (b ∷ bs) (or_here whole found)
goes_on scan after b bs whole (Some n) is next longest = record { within = omega (arith, longest.within); fitting = rw next longest.fitting; longest = at_later }
  where
    at_later : (m : ℕ) → suc n < m → m ≤ length (b ∷ bs) → fits scan (take m (b ∷ bs)) ≡ false
    at_later zero some few = absurd (omega arith)
    at_later (suc m) some few = rw next (longest.longest m (omega arith) (omega arith))
goes_on scan after b bs true None is next none = record { within = omega arith; fitting = is; longest = at_later }
  where
    at_later : (m : ℕ) → 0 < m → m ≤ length (b ∷ bs) → fits scan (take m (b ∷ bs)) ≡ false
    at_later zero some few = absurd (omega arith)
    at_later (suc m) some few = rw next (none m)
goes_on scan after b bs false None is next none = at_any
  where
    at_any : (m : ℕ) → fits scan (take m (b ∷ bs)) ≡ false
    at_any zero = is
    at_any (suc m) = rw next (none m)

by_next : (scan : Scan) (b : ℕ) (bs : List ℕ) (next : Option Scan) → next_of scan b ≡ next → ((after : Scan) → IsLongest after bs (longest_of after bs)) → IsLongest scan (b ∷ bs) (or_here (is_whole scan) (longest_after (λ after. longest_of after bs) next))
by_next scan b bs None is more = stuck scan b bs (is_whole scan) refl is
by_next scan b bs (Some after) is more = goes_on scan after b bs (is_whole scan) (longest_of after bs) refl is (more after)

pub longest_is : (scan : Scan) (bytes : List ℕ) → IsLongest scan bytes (longest_of scan bytes)
longest_is scan [] = at_end scan (is_whole scan) refl
longest_is scan (b ∷ bs) = by_next scan b bs (next_of scan b) refl (λ after. longest_is after bs)

-- some front fits where there is a longest
some_here : (whole : Bool) (found : Option ℕ) → is_some (or_here whole found) ≡ whole || is_some found
some_here true None = refl
some_here false None = refl
some_here true (Some n) = refl
some_here false (Some n) = refl

some_next : (bs : List ℕ) (next : Option Scan) → ((after : Scan) → some_front after bs ≡ is_some (longest_of after bs)) → fits_after (λ after. some_front after bs) next ≡ is_some (longest_after (λ after. longest_of after bs) next)
some_next bs None more = refl
some_next bs (Some after) more = more after

pub some_is : (scan : Scan) (bytes : List ℕ) → some_front scan bytes ≡ is_some (longest_of scan bytes)
some_is scan [] = elim (is_whole scan) as (λ whole. ◌≡◌ {A = Bool} whole (is_some (or_here whole None))) [ true ↦ refl | false ↦ refl ]
some_is scan (b ∷ bs) =
    ap (λ t. is_whole scan || t) (some_next bs (next_of scan b) (λ after. some_is after bs)) ∙ sym (some_here (is_whole scan) (longest_after (λ after. longest_of after bs) (next_of scan b)))

-- the longest front of a text, by the best of its first bytes and the longest front behind them
abbrev pub or_best : Option ℕ → ℕ → Option ℕ → Option ℕ
or_best best count None = best
or_best best count (Some n) = Some (count + n)

best_last : (whole : Bool) (best : Option ℕ) (count : ℕ) → or_best best count (or_here whole None) ≡ cond whole (Some count) best
best_last true best count = ap Some (omega arith)
best_last false best count = refl

best_end : (scan : Scan) (xs : List Spot) (best : Option ℕ) (count : ℕ) → next_at scan (bytes_of xs) ≡ None → or_best best count (longest_of scan (bytes_of xs)) ≡ cond (is_whole scan) (Some count) best
best_end scan [] best count next = best_last (is_whole scan) best count
best_end scan (x ∷ xs) best count next = rw next (best_last (is_whole scan) best count)

-- where it goes on no more, the best so far is the longest front of the whole text
pub longest_at_end : (start scan : Scan) (all xs : List Spot) (best found : Option ℕ) (count : ℕ) → or_best best count (longest_of scan (bytes_of xs)) ≡ longest_of start (bytes_of all)
    → found ≡ cond (is_whole scan) (Some count) best → next_at scan (bytes_of xs) ≡ None → IsLongest start (bytes_of all) found
longest_at_end start scan all xs best found count goes is next =
    let same : found ≡ longest_of start (bytes_of all) = is ∙ sym (best_end scan xs best count next) ∙ goes in rw same (longest_is start (bytes_of all))

same_some : (scan : Scan) (bytes : List ℕ) (found other : Option ℕ) → IsLongest scan bytes found → IsLongest scan bytes other → is_some found ≡ is_some other
same_some scan bytes None None first second = refl
same_some scan bytes None (Some m) first second = absurd (cc (first m, second.fitting))
same_some scan bytes (Some n) None first second = absurd (cc (second n, first.fitting))
same_some scan bytes (Some n) (Some m) first second = refl

-- some front fits where there is a longest
pub some_decides : (scan : Scan) (bytes : List ℕ) (found : Option ℕ) → IsLongest scan bytes found → is_some found ≡ some_front scan bytes
some_decides scan bytes found longest = same_some scan bytes found (longest_of scan bytes) longest (longest_is scan bytes) ∙ sym (some_is scan bytes)

-- how it goes on with the byte that stands at the front
pub next_here : (scan : Scan) (xs : List Spot) (x : Spot) → Some x ≡ slice_get xs 0 → next_of scan x.byte ≡ next_at scan (bytes_of xs)
next_here scan [] x is = cc
next_here scan (y ∷ ys) x is = let same : x ≡ y = cc in rw same
