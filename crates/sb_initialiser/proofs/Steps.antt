-- The readers of initialisers of a depth, made of those of the next lower one.
use Rattle.std.proofs.Common.{◌≡◌, ℕ, zero, suc, ◌-◌, ◌<◌, List, ap, arith}
use Rattle.sb_base.specs.declared.tokens.Token.{Token}
use Rattle.sb_lexicon.specs.Lexicon.{Lexicon}
use Rattle.sb_initialiser.specs.Readers.{initialiser, initialiser_at}

pub some_initialiser : (w : Lexicon) (left : ℕ) (ts : List Token) → 0 < left → initialiser w left ts ≡ initialiser_at w (left - 1) (initialiser w (left - 1)) ts
unfolding initialiser
some_initialiser w zero ts some = absurd (omega arith)
some_initialiser w (suc n) ts some = ap (λ m. initialiser_at w m (initialiser w m) ts) (let same : n ≡ suc n - 1 = omega arith in same)
