-- Parsers as functions on lists of tokens, and the ways of putting them together. A parser either is done, with a value and the tokens after the text
-- that it read, or stops at a token, with the number of the reason and how many tokens are left there.
use Rattle.std.specs.Prelude.{ℕ, zero, suc, Bool, false, List, [], ◌∷◌, length, Option, Some, None, if◌then◌else◌}

pub data Outcome (T A : Type 0) : Type 0 where
  done : A → List T → Outcome T A
  stop : ℕ → ℕ → Outcome T A

abbrev pub Parser : Type 0 → Type 0 → Type 0
Parser T A = List T → Outcome T A

-- the next token; none at the end
abbrev pub peeked : {T : Type 0} → List T → Option T
peeked [] = None
peeked (t ∷ rest) = Some t

abbrev pub passes : {T : Type 0} → (T → Bool) → Option T → Bool
passes test None = false
passes test (Some t) = test t

-- there is a next token, and it passes the test
abbrev pub at_next : {T : Type 0} → (T → Bool) → List T → Bool
at_next test ts = passes test (peeked ts)

abbrev pub never : {T : Type 0} → T → Bool
never t = false

-- ---- one after the other

abbrev pub and_then : {T A B : Type 0} → Outcome T A → (A → Parser T B) → Outcome T B
and_then (done a rest) f = f a rest
and_then (stop n left) f = stop n left

infixl 10 ◌>>=◌
abbrev pub ◌>>=◌ : {T A B : Type 0} → Parser T A → (A → Parser T B) → Parser T B
p >>= f = λ ts. and_then (p ts) f

infixl 10 ◌>>◌
abbrev pub ◌>>◌ : {T A B : Type 0} → Parser T A → Parser T B → Parser T B
p >> q = p >>= (λ a. q)

abbrev pub pure : {T A : Type 0} → A → Parser T A
pure a = λ ts. done a ts

abbrev pub refuse : {T A : Type 0} → ℕ → Parser T A
refuse n = λ ts. stop n (length ts)

-- ---- one token

-- the next token, which has to pass the test
abbrev pub token : {T : Type 0} → ℕ → (T → Bool) → Parser T T
token n test [] = stop n 0
token n test (t ∷ rest) = if test t then done t rest else stop n (suc (length rest))

abbrev pub taken_as : {T A : Type 0} → ℕ → Option A → List T → Outcome T A
taken_as n None rest = stop n (suc (length rest))
taken_as n (Some a) rest = done a rest

-- what the next token gives, which has to give something
abbrev pub taken : {T A : Type 0} → ℕ → (T → Option A) → Parser T A
taken n gives [] = stop n 0
taken n gives (t ∷ rest) = taken_as n (gives t) rest

-- a token that has to come, and what follows it
abbrev pub expect : {T A : Type 0} → ℕ → (T → Bool) → (T → Parser T A) → Parser T A
expect n test q = token n test >>= q

-- what p reads, and a token that has to come after it
abbrev pub close : {T A : Type 0} → ℕ → (T → Bool) → Parser T A → Parser T A
close n test p = p >>= (λ a. token n test >>= (λ t. pure a))

-- ---- choices by the next token

abbrev pub choose : {T A : Type 0} → (T → Bool) → Parser T A → Parser T A → Parser T A
choose goes p q = λ ts. if at_next goes ts then p ts else q ts

-- p where the next token passes, and a refusal elsewhere
abbrev pub only : {T A : Type 0} → ℕ → (T → Bool) → Parser T A → Parser T A
only n goes p = choose goes p (refuse n)

-- the value so far, or once more on from it where the next token passes
abbrev pub perhaps : {T A : Type 0} → (T → Bool) → (A → Parser T A) → A → Parser T A
perhaps goes op a = choose goes (op a) (pure a)

-- a refusal where the bar is up
abbrev pub guard : {T A : Type 0} → Bool → ℕ → Parser T A → Parser T A
guard bar n p = λ ts. if bar then stop n (length ts) else p ts

-- ---- as often as the next token passes: each turn goes on from the value so far

unfoldable pub loop : {T A : Type 0} → (T → Bool) → (A → Parser T A) → ℕ → A → Parser T A
loop goes op zero a = pure a
loop goes op (suc n) a = choose goes (op a >>= loop goes op n) (pure a)

abbrev pub looped : {T A : Type 0} → (T → Bool) → (A → Parser T A) → A → Parser T A
looped goes op a = λ ts. loop goes op (length ts) a ts

-- ---- the whole of a list

abbrev pub ended : {T A : Type 0} → ℕ → Outcome T A → Outcome T A
ended n (done a []) = done a []
ended n (done a (t ∷ rest)) = stop n (suc (length rest))
ended n (stop m left) = stop m left

-- what p reads, which has to be all
abbrev pub whole : {T A : Type 0} → ℕ → Parser T A → Parser T A
whole n p = λ ts. ended n (p ts)
