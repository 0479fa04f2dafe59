-- runs of a function's body (C99 6.5, 6.8): a relation between a state and how the run ends
use Rattle.std.specs.Prelude.{◌≡◌, ℕ, List, slice_get, slice_set, ℤ, pos, ◌*ℤ◌, Bool, true, false, ◌&&◌, not, int_lt, int_le, Option, Some, None}
use Rattle.sb_base.specs.declared.refusals.Place.{Place}
use Rattle.sb_function.specs.declared.syntax.Simple.{Simple}
use Rattle.sb_function.specs.declared.syntax.Simple.TheVariants.{Number, Param}
use Rattle.sb_function.specs.declared.syntax.Comparison.{Comparison}
use Rattle.sb_function.specs.declared.syntax.Comparison.TheVariants.{Less, AtMost, Greater, AtLeast, Equal, NotEqual}
use Rattle.sb_function.specs.Syntax.{Plain, Skip, Then, Store, Choose}
use Rattle.sb_picture.specs.Memory.{Memory, Byte, Pointer, Wild, moved, Fault, Reach, Reached, Missed, reach, overwrite, int_bytes}

-- what a parameter holds
pub data Held : Type 0 where
  Count : ℤ → Held
  Leads : Pointer → Held

-- a statement lets the next one run, or an access goes wrong at a place
pub data Outcome : Type 0 where
  Next : Memory → Outcome
  Faulted : Fault → Place → Outcome

abbrev pub count_in : Option Held → ℤ
count_in None = pos 0
count_in (Some (Count z)) = z
count_in (Some (Leads q)) = pos 0

abbrev pub number_of : List Held → Simple → ℤ
number_of args (Number n) = pos n
number_of args (Param at) = count_in (slice_get args at)

abbrev pub pointer_in : Option Held → Pointer
pointer_in None = Wild
pointer_in (Some (Count z)) = Wild
pointer_in (Some (Leads q)) = q

abbrev pub pointer_of : List Held → ℕ → Pointer
pointer_of args at = pointer_in (slice_get args at)

-- equality of integers as a test
abbrev pub int_same : ℤ → ℤ → Bool
int_same a b = int_le a b && int_le b a

-- a comparison of two numbers of one type (C99 6.5.8, 6.5.9)
abbrev pub compares : Comparison → ℤ → ℤ → Bool
compares Less a b = int_lt a b
compares AtMost a b = int_le a b
compares Greater a b = int_lt b a
compares AtLeast a b = int_le b a
compares Equal a b = int_same a b
compares NotEqual a b = not (int_same a b)

-- the store of some bytes where an access reached
abbrev pub stored : Memory → List Byte → Place → Reach → Outcome
stored m bytes place (Reached object old from) = Next (slice_set m object (overwrite old from bytes))
stored m bytes place (Missed fault) = Faulted fault place

-- what follows a first part
abbrev pub After : (Memory → Outcome → Type 0) → Outcome → Outcome → Type 0
After Rest (Next m) end = Rest m end
After Rest (Faulted fault place) end = end ≡ Faulted fault place

abbrev pub Branch : Bool → Type 0 → Type 0 → Type 0
Branch true P Q = P
Branch false P Q = Q

-- with `fuel` units, one for each turn of a loop and each call, a statement can end so; no form of this grammar takes one
abbrev pub Runs : ℕ → List Held → Plain → Memory → Outcome → Type 0
Runs fuel args Skip m end = end ≡ Next m
Runs fuel args (Then first rest) m end = (mid : Outcome) × Runs fuel args first m mid × After (λ n e. Runs fuel args rest n e) mid end
Runs fuel args (Store array index value place) m end = end ≡ stored m (int_bytes (number_of args value)) place (reach m (moved (pointer_of args array) (pos 4 *ℤ number_of args index)) 4)
Runs fuel args (Choose left op right body) m end = Branch (compares op (number_of args left) (number_of args right)) (Runs fuel args body m end) (end ≡ Next m)
