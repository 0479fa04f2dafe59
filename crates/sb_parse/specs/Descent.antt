-- Ways of putting parsers together for nested texts: one parser a depth that is left, and a choice by the second token.
use Rattle.std.specs.Prelude.{ℕ, zero, suc, Bool, false, List, [], ◌∷◌, if◌then◌else◌}
use Rattle.sb_parse.specs.Parser.{Parser, at_next}

-- The parsers of depth n, n - 1 and so on, by 0, 1 and so on; that of depth 0 is given, and each other one is made of those below it.
unfoldable pub descent : {P : Type 0} → P → (ℕ → (ℕ → P) → P) → ℕ → ℕ → P
descent bottom step zero k = bottom
descent bottom step (suc n) zero = step n (descent bottom step n)
descent bottom step (suc n) (suc k) = descent bottom step n k

-- there is a second token, and it passes the test
abbrev pub at_second : {T : Type 0} → (T → Bool) → List T → Bool
at_second test [] = false
at_second test (t ∷ rest) = at_next test rest

abbrev pub choose_second : {T A : Type 0} → (T → Bool) → Parser T A → Parser T A → Parser T A
choose_second goes p q = λ ts. if at_second goes ts then p ts else q ts
