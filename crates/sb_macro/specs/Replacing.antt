-- What the steps of an expansion leave.
use Rattle.std.specs.Prelude.{◌≡◌, ◌≤◌, ℕ, List, ◌++◌, Option, Some, None, Result, Ok, Err, Vec, length, map, slice_get}
use Rattle.std.specs.declared.alloc.AllocError.{AllocError}
use Rattle.std.specs.declared.alloc.Global.{Global}
use Rattle.std.specs.declared.collections.VecDeque.{VecDeque}
use Rattle.sb_base.specs.declared.refusals.Place.{Place}
use Rattle.sb_macro.specs.declared.halt.Halt.{Halt}
use Rattle.sb_macro.specs.declared.halt.Halt.TheVariants.{Refused, Memory}
use Rattle.sb_macro.specs.declared.ending.End.{End}
use Rattle.sb_macro.specs.declared.ending.End.TheVariants as end
use Rattle.sb_macro.specs.declared.expansion.Expander.{Expander}
use Rattle.sb_macro.specs.declared.expansion.Reached.{Reached}
use Rattle.sb_macro.specs.declared.expansion.Taken.{Taken}
use Rattle.sb_macro.specs.declared.expansion.Taken.TheVariants.{Args, Unclosed, Miscounted}
use Rattle.sb_macro.specs.declared.marked.Marked.{Marked}
use Rattle.sb_macro.specs.Expansion as spec
use Rattle.sb_macro.specs.Endings.{EndsAt}
use Rattle.sb_macro.specs.Expansion.{Scope, Step, Stops, AreSmall, EachGives}
use Rattle.sb_macro.specs.Macros.{Macro, macro_of}
use Rattle.sb_macro.specs.Replacement.{replacement}
use Rattle.sb_macro.specs.Tokens.{Tok, toks, lists}

abbrev pub scope_of : Expander → Scope
scope_of e = record { texts = e.names.now.texts; macros = e.macros.now; room = e.room }

-- what was taken is what the step says
abbrev pub IsTaken : Macro → Step → VecDeque Marked Global → Taken → Type 0
IsTaken m step rest (Args args) = step ≡ spec.Replaced m (lists args.items) (toks rest.items)
IsTaken m step rest Unclosed = step ≡ spec.Unclosed
IsTaken m step rest Miscounted = step ≡ spec.Miscounted

-- the arguments are expanded
pub record AreExpanded (scope : Scope) (args fulls : List (List Tok)) : Type 0 where
  pub all : length fulls ≡ length args
  pub small : AreSmall scope.room fulls
  pub each : EachGives scope args fulls

-- an argument is refused, and those before it are not
pub data StopsInside (scope : Scope) (args : List (List Tok)) (number : ℕ) : Type 0 where
  stops_inside : (fulls : List (List Tok)) → AreSmall scope.room fulls → EachGives scope args fulls → (arg : List Tok) → slice_get args (length fulls) ≡ Some arg
      → (end place : Place) → Stops scope end arg number place → StopsInside scope args number

abbrev pub AreRefused : Scope → List (List Tok) → Halt → Type 0
AreRefused scope args (Refused number place) = StopsInside scope args number
AreRefused scope args Memory = Unit {0}

-- the number by which an argument is refused that ends so
abbrev pub number_of : End → Option ℕ
number_of end.Whole = None
number_of end.Open = Some 14
number_of (end.Refused number place) = Some number

-- all that an argument gives, or the number by which it is refused
abbrev pub IsWhole : Result Reached AllocError → Result (Vec Marked Global) Halt → Type 0
IsWhole (Ok reached) (Ok tokens) = (reached.end ≡ end.Whole) × (tokens ≡ reached.tokens)
IsWhole (Ok reached) (Err (Refused number place)) = number_of reached.end ≡ Some number
IsWhole (Ok reached) (Err Memory) = ⊥
IsWhole (Err fault) (Ok tokens) = ⊥
IsWhole (Err fault) (Err halt) = halt ≡ Memory

-- how the expansion ends at a name at this place whose arguments are refused so
abbrev pub IsEndAt : Halt → Place → Result (Option End) AllocError → Type 0
IsEndAt (Refused number there) place (Ok how) = how ≡ Some (end.Refused number place)
IsEndAt (Refused number there) place (Err fault) = ⊥
IsEndAt Memory place (Ok how) = ⊥
IsEndAt Memory place (Err fault) = Unit {0}

-- how a text is refused whose expansion ends so, where last is the place of its last piece
abbrev pub halt_of : End → Place → Option Halt
halt_of end.Whole last = None
halt_of end.Open last = Some (Refused 14 last)
halt_of (end.Refused number place) last = Some (Refused number place)

-- the name t is replaced, and now is still to be read
pub data Replaces (scope : Scope) (t : Tok) (rest now : List Tok) : Type 0 where
  replaces : (m : Macro) (args fulls : List (List Tok)) (after : List Tok) → spec.step scope t rest ≡ spec.Replaced m args after → AreExpanded scope args fulls
      → now ≡ replacement m fulls t ++ after → Replaces scope t rest now

-- the expansion ends at the name t, however much came before it
abbrev pub EndsThere : Scope → Tok → List Tok → End → Type 0
EndsThere scope t rest how = (count : ℕ) → count ≤ scope.room → EndsAt scope count t rest how

-- the name t is replaced, and now is still to be read, or the expansion ends at it
abbrev pub IsReplaced : Scope → Tok → List Tok → List Tok → Option End → Type 0
IsReplaced scope t rest now None = Replaces scope t rest now
IsReplaced scope t rest now (Some how) = EndsThere scope t rest how

-- the refusal of a list, or want of memory, which may come at any time
abbrev pub StopsWith : Scope → Place → List Tok → Halt → Type 0
StopsWith scope last list (Refused number place) = Stops scope last list number place
StopsWith scope last list Memory = Unit {0}
