-- Loops whose turns are the same wherever they come.
use Rattle.std.proofs.Common.{◌≡◌, ℕ, zero, suc, Bool, true, false, List, length, if◌then◌else◌, refl, ap, ◌∙◌}
use Rattle.sb_parse.specs.Parser.{Outcome, Parser, done, stop, at_next, and_then, loop, looped}

module _ {T A : Type 0} (goes : T → Bool) (op other : A → Parser T A) (Fine : A → Type 0) (same_op : (a : A) → Fine a → (ts : List T) → op a ts ≡ other a ts)
    (stays : (a : A) → Fine a → (ts : List T) (b : A) (rest : List T) → at_next goes ts ≡ true → other a ts ≡ done b rest → Fine b) where
  same_turns : (n : ℕ) (a : A) → Fine a → (ts : List T) → loop goes op n a ts ≡ loop goes other n a ts
  unfolding loop
  same_turns zero a fine ts = refl
  same_turns (suc n) a fine ts = by_test (at_next goes ts) refl (λ b fine rest. same_turns n b fine rest)
    where
      by_outcome : (o : Outcome T A) → other a ts ≡ o → at_next goes ts ≡ true → ((b : A) → Fine b → (rest : List T) → loop goes op n b rest ≡ loop goes other n b rest)
          → and_then o (loop goes op n) ≡ and_then o (loop goes other n)
      by_outcome (done b rest) e h later = later b (stays a fine ts b rest h e) rest
      by_outcome (stop m left) e h later = refl

      by_test : (b : Bool) → at_next goes ts ≡ b → ((b : A) → Fine b → (rest : List T) → loop goes op n b rest ≡ loop goes other n b rest)
          → (if b then and_then (op a ts) (loop goes op n) else done a ts) ≡ (if b then and_then (other a ts) (loop goes other n) else done a ts)
      by_test true h later = ap (λ o. and_then o (loop goes op n)) (same_op a fine ts) ∙ by_outcome (other a ts) refl h later
      by_test false h later = refl

  pub same_loop : (a : A) → Fine a → (ts : List T) → looped goes op a ts ≡ looped goes other a ts
  same_loop a fine ts = same_turns (length ts) a fine ts
