-- What taking the arguments off a list leaves.
use Rattle.std.specs.Prelude.{◌≡◌, Option, Some, None}
use Rattle.std.specs.declared.alloc.Global.{Global}
use Rattle.std.specs.declared.collections.VecDeque.{VecDeque}
use Rattle.sb_macro.specs.declared.marked.Marked.{Marked}
use Rattle.sb_macro.specs.Arguments.{Split}
use Rattle.sb_macro.specs.Tokens.{toks, lists}

-- the list was split so, and what follows the arguments is left
abbrev pub HasTaken : Option Split → VecDeque Marked Global → Option (VecDeque (VecDeque Marked Global) Global) → Type 0
HasTaken split rest (Some args) = split ≡ Some (lists args.items, toks rest.items)
HasTaken split rest None = split ≡ None
