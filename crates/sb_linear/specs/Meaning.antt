-- What the answers of calls stand for.
use Rattle.std.specs.Prelude.{◌≡◌, ℕ, map, Result, Ok, Err}
use Rattle.sb_base.specs.declared.refusals.Place.{Place}
use Rattle.std.specs.declared.alloc.Global.{Global}
use Rattle.std.specs.declared.vec.Vec.{Vec}
use Rattle.sb_core.specs.declared.contract.Compare.{Compare}
use Rattle.sb_core.specs.declared.contract.Compare.TheVariants as comparison
use Rattle.sb_core.specs.declared.contract.Size.{Size}
use Rattle.sb_linear.specs.declared.fault.SizeFault.{SizeFault}
use Rattle.sb_linear.specs.declared.fault.SizeFault.TheVariants as fault
use Rattle.sb_sum.specs.Lines.{plain_line}
use Rattle.sb_linear.specs.Sizes.{Sized, Sum, Unfit, Comparison, Order, Presence, Judged, Holds, Misjudged}

abbrev pub plain_comparison : Compare → Comparison
plain_comparison (comparison.Order op left right) = Order op (plain_line left) (plain_line right)
plain_comparison (comparison.Present param holds) = Presence param holds

-- a refusal of that number and place
abbrev pub IsRefused : ℕ → Place → SizeFault → Type 0
IsRefused number place (fault.Refused r) = r ≡ record { number = number; place = place; feature = 0 }
IsRefused number place fault.Memory = ⊥

-- a refusal, or want of memory, which may come at any time
abbrev pub IsFault : ℕ → Place → SizeFault → Type 0
IsFault number place (fault.Refused r) = r ≡ record { number = number; place = place; feature = 0 }
IsFault number place fault.Memory = Unit {0}

abbrev pub IsMemory : SizeFault → Type 0
IsMemory (fault.Refused r) = ⊥
IsMemory fault.Memory = Unit {0}

-- the sum or the refusal of the definition
abbrev pub GivesSum : Sized → Result Size SizeFault → Type 0
GivesSum (Sum l) (Ok size) = plain_line size ≡ l
GivesSum (Sum l) (Err e) = IsMemory e
GivesSum (Unfit number place) (Ok size) = ⊥
GivesSum (Unfit number place) (Err e) = IsFault number place e

-- the comparisons or the refusal of the definition
abbrev pub GivesCondition : Judged → Result (Vec Compare Global) SizeFault → Type 0
GivesCondition (Holds cs) (Ok v) = map plain_comparison v.items ≡ cs
GivesCondition (Holds cs) (Err e) = IsMemory e
GivesCondition (Misjudged number place) (Ok v) = ⊥
GivesCondition (Misjudged number place) (Err e) = IsFault number place e
