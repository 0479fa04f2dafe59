-- The readers of a depth by those of the next lower one.
use Rattle.std.proofs.Common.{◌≡◌, ℕ, zero, suc, ◌-◌, ◌<◌, Bool, List, ap, arith}
use Rattle.sb_base.specs.declared.interning.Name.{Name}
use Rattle.sb_base.specs.declared.tokens.Token.{Token}
use Rattle.sb_parse.specs.Parser.{refuse}
use Rattle.sb_lexicon.specs.Tokens.{unexpected}
use Rattle.sb_specifier.specs.Specified.{reading}
use Rattle.sb_statement.specs.Meaning.{nested}
use Rattle.sb_statement.specs.Parts as part
use Rattle.sb_statement.specs.Readers as spec
use Rattle.sb_statement.specs.Readers.{Body, Parts, statements}

module _ (texts : List (List ℕ)) (left : ℕ) where
  lower : 0 < left → statements texts left ≡ nested spec.whole_parts texts (left - 1)
  unfolding statements
  lower = lowered left
    where
      lowered : (n : ℕ) → 0 < n → statements texts n ≡ nested spec.whole_parts texts (n - 1)
      lowered zero some = absurd (omega arith)
      lowered (suc n) some = ap (nested spec.whole_parts texts) (let same : n ≡ suc n - 1 = omega arith in same)

  pub one_statement : (cases : Bool) (types : List Name) (ts : List Token) → 0 < left → (statements texts left).statement cases types ts ≡ nested spec.statement texts (left - 1) cases types ts
  one_statement cases types ts some = ap (λ (p : Parts). p.statement cases types ts) (lower some)

  pub one_block : (cases : Bool) (types : List Name) (ts : List Token) → 0 < left → (statements texts left).block cases types ts ≡ nested spec.block texts (left - 1) types cases ts
  one_block cases types ts some = ap (λ (p : Parts). p.block cases types ts) (lower some)

  pub one_item : (cases : Bool) (b : Body) (ts : List Token) → 0 < left → (statements texts left).item cases b ts ≡ nested spec.item texts (left - 1) cases b ts
  one_item cases b ts some = ap (λ (p : Parts). p.item cases b ts) (lower some)

  pub one_first : (types : List Name) (ts : List Token) → 0 < left → (statements texts left).first types ts ≡ nested spec.first texts (left - 1) types ts
  one_first types ts some = ap (λ (p : Parts). p.first types ts) (lower some)

  pub no_statements : (cases : Bool) (types : List Name) (ts : List Token) → left ≡ 0 → (statements texts left).statement cases types ts ≡ spec.no_statement (reading texts types) cases (refuse unexpected) ts
  unfolding statements
  no_statements cases types ts none = ap (λ n. (statements texts n).statement cases types ts) none

  pub no_blocks : (cases : Bool) (types : List Name) (ts : List Token) → left ≡ 0 → (statements texts left).block cases types ts ≡ part.no_block (reading texts types) ts
  unfolding statements
  no_blocks cases types ts none = ap (λ n. (statements texts n).block cases types ts) none

  pub no_items : (cases : Bool) (b : Body) (ts : List Token) → left ≡ 0 → (statements texts left).item cases b ts ≡ part.no_item (reading texts b.types) cases ts
  unfolding statements
  no_items cases b ts none = ap (λ n. (statements texts n).item cases b ts) none

  pub no_firsts : (types : List Name) (ts : List Token) → left ≡ 0 → (statements texts left).first types ts ≡ part.no_first (reading texts types) ts
  unfolding statements
  no_firsts types ts none = ap (λ n. (statements texts n).first types ts) none
