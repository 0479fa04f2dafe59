-- A loop of a reader, a turn at a time.
use Rattle.std.proofs.Common.{◌≡◌, ◌+◌, ◌-◌, ◌<◌, ◌≤◌, ℕ, zero, suc, Bool, true, false, List, length, if◌then◌else◌, refl, ap, ◌∙◌, arith}
use Rattle.sb_base.specs.declared.tokens.Token.{Token}
use Rattle.sb_parse.specs.Parser.{Outcome, Parser, done, at_next, and_then, loop}
use Rattle.sb_lexicon.specs.declared.reading.ReadFault.{ReadFault}
use Rattle.sb_lexicon.specs.declared.reading.ReadFault.TheVariants.{Refused, Memory}
use Rattle.sb_lexicon.specs.Meaning.{IsFault}

module _ {A : Type 0} (goes : Token → Bool) (op : A → Parser Token A) where
  off : (n : ℕ) (a : A) (ts : List Token) → at_next goes ts ≡ false → loop goes op n a ts ≡ done a ts
  unfolding loop
  off zero a ts h = refl
  off (suc n) a ts h = ap (λ b. if b then and_then (op a ts) (loop goes op n) else done a ts) h

  once : (n : ℕ) (a : A) (ts : List Token) → at_next goes ts ≡ true → loop goes op (suc n) a ts ≡ and_then (op a ts) (loop goes op n)
  unfolding loop
  once n a ts h = ap (λ b. if b then and_then (op a ts) (loop goes op n) else done a ts) h

  none_left : (a : A) (ts : List Token) → loop goes op 0 a ts ≡ done a ts
  unfolding loop
  none_left a ts = refl

  module _ (start : A) (all : List Token) (i end : ℕ) (a : A) (ts : List Token) (so_far : loop goes op (length all) start all ≡ loop goes op (end - i) a ts) where
    pub loop_ends : at_next goes ts ≡ false → loop goes op (length all) start all ≡ done a ts
    loop_ends h = so_far ∙ off (end - i) a ts h

    pub loop_over : end ≤ i → loop goes op (length all) start all ≡ done a ts
    loop_over most = so_far ∙ ap (λ n. loop goes op n a ts) (let none : end - i ≡ 0 = omega arith in none) ∙ none_left a ts

    turned : i < end → at_next goes ts ≡ true → loop goes op (length all) start all ≡ and_then (op a ts) (loop goes op (end - (i + 1)))
    turned less h = so_far ∙ ap (λ n. loop goes op n a ts) (let next : end - i ≡ suc (end - (i + 1)) = omega arith in next) ∙ once (end - (i + 1)) a ts h

    pub loop_goes : i < end → at_next goes ts ≡ true → (b : A) (rest : List Token) → op a ts ≡ done b rest → loop goes op (length all) start all ≡ loop goes op (end - (i + 1)) b rest
    loop_goes less h b rest e = turned less h ∙ ap (λ o. and_then o (loop goes op (end - (i + 1)))) e

    pub loop_faults : i < end → at_next goes ts ≡ true → (e : ReadFault) → IsFault (op a ts) e → IsFault (loop goes op (length all) start all) e
    loop_faults less h (Refused reason left) stops = turned less h ∙ ap (λ o. and_then o (loop goes op (end - (i + 1)))) stops
    loop_faults less h Memory stops = stops

-- a stop of the first of two readers
pub fault_first : {A B : Type 0} (o : Outcome Token A) (f : A → Parser Token B) (e : ReadFault) → IsFault o e → IsFault (and_then o f) e
fault_first o f (Refused reason left) stops = ap (λ p. and_then p f) stops
fault_first o f Memory stops = stops
