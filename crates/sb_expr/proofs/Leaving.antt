-- What a reader leaves is the end of what it was given.
use Rattle.std.proofs.Common.{◌≡◌, ℕ, List, ◌++◌}
use Rattle.sb_base.specs.declared.tokens.Token.{Token}
use Rattle.sb_parse.specs.Parser.{Parser, done}
use Rattle.sb_parse.specs.Read.{IsLongest}
use Rattle.sb_expr.specs.Expression.{Level}
use Rattle.sb_lexicon.specs.Lexicon.{Lexicon}
use Rattle.sb_expr.specs.Readers.{expr_reader, type_reader}
use Rattle.sb_expr.proofs.Tying.{expr_longest, type_longest}

pub record Ends (ts rest : List Token) : Type 0 where
  pub front : List Token
  pub split : ts ≡ front ++ rest

pub record Leaves {A : Type 0} (p : Parser Token A) : Type 0 where
  pub ends : (ts : List Token) (a : A) (rest : List Token) → p ts ≡ done a rest → Ends ts rest

end_of : {A : Type 0} {Is : List Token → A → Type 0} {ts rest : List Token} {a : A} → IsLongest Is ts a rest → Ends ts rest
end_of l = record { front = l.front; split = l.split }

pub expr_leaves : (w : Lexicon) (left : ℕ) (level : Level) → Leaves (expr_reader w left level)
expr_leaves w left level = record { ends = λ ts a rest e. end_of (expr_longest w left level ts a rest e) }

pub type_leaves : (w : Lexicon) (left : ℕ) → Leaves (type_reader w left)
type_leaves w left = record { ends = λ ts a rest e. end_of (type_longest w left ts a rest e) }
