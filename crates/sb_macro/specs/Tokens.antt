-- Tokens under expansion (C99 6.10.3.4).
use Rattle.std.specs.Prelude.{not, List, [], ◌++◌, Vec, map, filter}
use Rattle.sb_base.specs.declared.interning.Name.{Name}
use Rattle.sb_lex.specs.declared.piece.PpToken.{PpToken}
use Rattle.std.specs.declared.alloc.Global.{Global}
use Rattle.std.specs.declared.collections.VecDeque.{VecDeque}
use Rattle.sb_macro.specs.declared.marked.Marked.{Marked}
use Rattle.sb_macro.specs.Macros.{holds}

-- a token, and the names that it may no longer expand
pub record Tok : Type 0 where
  pub piece : PpToken
  pub hidden : List Name

abbrev pub tok_of : Marked → Tok
tok_of m = record { piece = m.token; hidden = m.hidden.items }

abbrev pub toks : List Marked → List Tok
toks = map tok_of

-- a text before it is expanded: each name may be expanded
abbrev pub fresh_tok : PpToken → Tok
fresh_tok piece = record { piece = piece; hidden = [] }

abbrev pub fresh : List PpToken → List Tok
fresh = map fresh_tok

-- the lists of arguments
abbrev pub lists : List (VecDeque Marked Global) → List (List Tok)
lists = map (λ arg. toks arg.items)

abbrev pub fulls_of : List (Vec Marked Global) → List (List Tok)
fulls_of = map (λ full. toks full.items)

-- both lists of names, each name of the second only where the first lacks it
abbrev pub all_names : List Name → List Name → List Name
all_names names more = names ++ filter (λ name. not (holds names name)) more
