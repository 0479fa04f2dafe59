-- A loop of a reader, a turn at a time.
use Rattle.std.proofs.Common.{◌≡◌, ◌+◌, ◌-◌, ◌<◌, ◌≤◌, ℕ, zero, suc, Bool, true, false, List, if◌then◌else◌, refl, ap, ◌∙◌, arith}
use Rattle.sb_parse.specs.Parser.{Parser, done, at_next, and_then, loop}

pub loop_off : {T A : Type 0} (goes : T → Bool) (op : A → Parser T A) (n : ℕ) (a : A) (ts : List T) → at_next goes ts ≡ false → loop goes op n a ts ≡ done a ts
unfolding loop
loop_off goes op zero a ts h = refl
loop_off goes op (suc n) a ts h = ap (λ b. if b then and_then (op a ts) (loop goes op n) else done a ts) h

loop_once : {T A : Type 0} (goes : T → Bool) (op : A → Parser T A) (n : ℕ) (a : A) (ts : List T) → at_next goes ts ≡ true → loop goes op (suc n) a ts ≡ and_then (op a ts) (loop goes op n)
unfolding loop
loop_once goes op n a ts h = ap (λ b. if b then and_then (op a ts) (loop goes op n) else done a ts) h

pub loop_on : {T A : Type 0} (goes : T → Bool) (op : A → Parser T A) (i end : ℕ) (a : A) (ts : List T) → i < end → at_next goes ts ≡ true → loop goes op (end - i) a ts ≡ and_then (op a ts) (loop goes op (end - (i + 1)))
loop_on goes op i end a ts less h = ap (λ n. loop goes op n a ts) (let next : end - i ≡ suc (end - (i + 1)) = omega arith in next) ∙ loop_once goes op (end - (i + 1)) a ts h

pub loop_over : {T A : Type 0} (goes : T → Bool) (op : A → Parser T A) (i end : ℕ) (a : A) (ts : List T) → end ≤ i → loop goes op (end - i) a ts ≡ done a ts
unfolding loop
loop_over goes op i end a ts most = ap (λ n. loop goes op n a ts) (let none : end - i ≡ 0 = omega arith in none)
