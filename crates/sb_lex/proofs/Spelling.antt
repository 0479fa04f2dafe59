-- The numbers that digits spell, by the digits read so far.
use Rattle.std.proofs.Common.{◌≡◌, ◌+◌, ◌*◌, ◌<◌, ◌≤◌, ◌∷◌, ◌∙◌, [], ℕ, Bool, List, Option, Some, None, true, false, zero, suc, arith, ap, refl, length, take, get_or, cond}
use Rattle.std.specs.List.{list_all}
use Rattle.std.specs.Char.{digit_value}
use Rattle.std.specs.Str.Parse.{digits_value, digits_value_after, AllDigits}
use Rattle.std.proofs.Math.Nat.{mul-le-mul_left}
use Rattle.std.proofs.lemmas.Bool.{le-ltb, lt-ltb}
use Rattle.std.proofs.lemmas.List.{take_all}
use Rattle.std.proofs.lemmas.Int.Digits.{digits_value_more}
use Rattle.sb_lex.specs.declared.values.Base.{Base}
use Rattle.sb_lex.specs.declared.values.Base.TheVariants.{Octal, Decimal, Hexadecimal}
use Rattle.sb_lex.specs.Values.{radix_of, is_digit_of, spelled, below}

positive : (base : Base) → 0 < radix_of base
positive Octal = omega arith
positive Decimal = omega arith
positive Hexadecimal = omega arith

grows : (base : Base) (n : ℕ) (cs : List ℕ) → n ≤ digits_value_after (radix_of base) n cs
grows base n [] = omega arith
grows base n (c ∷ cs) =
    let more = grows base (n * radix_of base + digit_value c) cs in
    let larger = mul-le-mul_left n (positive base) in
    omega (arith, more, larger)

grows_on : (base : Base) (n k : ℕ) (cs : List ℕ) → digits_value_after (radix_of base) n (take k cs) ≤ digits_value_after (radix_of base) n cs
grows_on base n zero cs = grows base n cs
grows_on base n (suc k) [] = omega arith
grows_on base n (suc k) (c ∷ cs) = grows_on base (n * radix_of base + digit_value c) k cs

-- a text of digits is one
shown : (base : Base) (cs : List ℕ) → AllDigits (radix_of base) cs → list_all (is_digit_of base) cs ≡ true
shown base [] digits = refl
shown base (c ∷ cs) digits = rw (lt-ltb (digit_value c) (radix_of base) digits.0) (shown base cs digits.1)

none_above : (bound n : ℕ) (b : Bool) → bound ≤ n → ◌≡◌ {A = Option ℕ} None (cond b (below bound n) None)
none_above bound n true much = rw (le-ltb n bound much) refl
none_above bound n false much = refl

-- digits of which the front spells too much spell too much
pub too_large : (bound : ℕ) (base : Base) (i number radix : ℕ) (cs : List ℕ) → i < length cs → number ≡ digits_value (radix_of base) (take i cs) → radix ≡ radix_of base → bound ≤ number * radix + digit_value (get_or cs i 0) → None ≡ spelled bound base cs
too_large bound base i number radix cs within is same much =
    let step = digits_value_more (radix_of base) cs i within in
    let product : number * radix ≡ digits_value (radix_of base) (take i cs) * radix_of base = cc in
    let more : bound ≤ digits_value (radix_of base) cs = omega (arith, much, product, step, grows_on base 0 (i + 1) cs) in
    none_above bound (digits_value (radix_of base) cs) (list_all (is_digit_of base) cs) more

-- one more digit
pub one_more : (base : Base) (i number radix digit more : ℕ) (cs : List ℕ) → i < length cs → number ≡ digits_value (radix_of base) (take i cs) → radix ≡ radix_of base → digit ≡ digit_value (get_or cs i 0) → more ≡ number * radix + digit → more ≡ digits_value (radix_of base) (take (i + 1) cs)
one_more base i number radix digit more cs within is same digit_is sum =
    let product : number * radix ≡ digits_value (radix_of base) (take i cs) * radix_of base = cc in
    omega (arith, product, sum, digit_is, digits_value_more (radix_of base) cs i within)

-- digits that were all read
pub read_whole : (bound : ℕ) (base : Base) (i number : ℕ) (cs : List ℕ) → length cs ≤ i → AllDigits (radix_of base) (take i cs) → number ≡ digits_value (radix_of base) (take i cs) → number < bound → Some number ≡ spelled bound base cs
read_whole bound base i number cs all digits is small =
    let digits_all = rw (take_all i cs all) at digits in
    let is_all : number ≡ digits_value (radix_of base) cs = is ∙ ap (digits_value (radix_of base)) (take_all i cs all) in
    rw (shown base cs digits_all, ← is_all, lt-ltb number bound small) refl
