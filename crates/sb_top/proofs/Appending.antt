-- texts that are appended one after another
use Rattle.std.proofs.Common.{◌≡◌, ◌++◌, ◌∷◌, [], ℕ, List, Result, Ok, Err, OnOk, append_assoc, cond, is_ok, codes, length, ap, ◌∙◌, drop, ◌≤◌, append-nil}
use Rattle.std.specs.Fmt.{decimal}
use Rattle.std.proofs.Math.ListN.{drop_of_length-le}

-- what is appended stands behind what there was
pub extended : {T E : Type 0} → (r : Result T E) (before now added : List ℕ) → now ≡ cond (is_ok r) (before ++ added) before → OnOk r (now ≡ before ++ added)
extended (Ok x) before now added is = is
extended (Err e) before now added is = tt

-- three texts of which the last may fail
pub extended_thrice : {T E : Type 0} → (r : Result T E) (out one two three first second last : List ℕ) → one ≡ out ++ first → two ≡ one ++ second → OnOk r (three ≡ two ++ last) → OnOk r (three ≡ out ++ (first ++ (second ++ last)))
extended_thrice (Ok x) out one two three first second last is_one is_two is_three = rw (is_three, is_two, is_one) simp append_assoc
extended_thrice (Err e) out one two three first second last is_one is_two is_three = tt

-- a dot, a number and an equals sign between two texts
pub numbered : {T E : Type 0} → (r : Result T E) (out now label middle value : List ℕ) (n : ℕ) → middle ≡ codes "." ++ (decimal n ++ codes "=") → OnOk r (now ≡ out ++ (label ++ (middle ++ value))) → OnOk r (now ≡ out ++ (label ++ (codes "." ++ (decimal n ++ (codes "=" ++ value)))))
numbered (Ok x) out now label middle value n is whole = whole ∙ rw is (ap (λ t. out ++ (label ++ (46 ∷ t))) (append_assoc (decimal n) (codes "=") value))
numbered (Err e) out now label middle value n is whole = tt

-- what stands once nothing is left to append
pub ended : {A : Type 0} → (f : List A → List ℕ) (xs : List A) (i : ℕ) (out whole : List ℕ) → f [] ≡ [] → length xs ≤ i → out ++ f (drop i xs) ≡ whole → out ≡ whole
ended f xs i out whole none past is = rw (drop_of_length-le xs past, none, append-nil) at is
