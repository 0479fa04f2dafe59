-- What operators give where their operands are given.
use Rattle.std.proofs.Common.{◌≡◌, ℕ, Bool, true, false, if◌then◌else◌, Ok, Err, refl, sym, subst}
use Rattle.std.specs.Option.{option_map}
use Rattle.std.specs.Prelude.{Option, Some, None, Result, [], ◌∷◌, ◌++◌, map, ℤ, pos}
use Rattle.sb_base.specs.declared.refusals.Place.{Place}
use Rattle.sb_core.specs.declared.contract.Size.{Size}
use Rattle.sb_core.specs.declared.operator.SizeUnary.{SizeUnary}
use Rattle.sb_core.specs.declared.operator.SizeBinary.{SizeBinary}
use Rattle.sb_linear.specs.declared.fault.SizeFault.{SizeFault}
use Rattle.sb_linear.specs.declared.fault.SizeFault.TheVariants as fault
use Rattle.sb_sum.specs.Lines.{Line, constant_line, plain_line, scaled, is_constant, is_held}
use Rattle.std.specs.declared.alloc.Global.{Global}
use Rattle.std.specs.declared.vec.Vec.{Vec}
use Rattle.sb_core.specs.declared.contract.Compare.{Compare}
use Rattle.sb_core.specs.declared.operator.CompareOp.{CompareOp}
use Rattle.sb_core.specs.declared.operator.CompareOp.TheVariants as compare
use Rattle.sb_linear.specs.Meaning.{GivesCondition, GivesSum, IsMemory, IsFault, plain_comparison}
use Rattle.sb_linear.specs.Sizes.{Sized, Sum, Unfit, Comparison, Judged, Holds, Misjudged, Order, both, held, in_units, joined, joined_lines, nonzero, one_or, ordered, prefixed, prefixed_sum, between_constants, constant_of, held_if, held_line_if}

-- want of memory may come at any time
memory_of : (number : ℕ) (place : Place) (e : SizeFault) → IsMemory e → IsFault number place e
memory_of number place (fault.Refused r) h = absurd h
memory_of number place fault.Memory h = h

pub memory_anywhere : (d : Sized) (e : SizeFault) → IsMemory e → GivesSum d (Err e)
memory_anywhere (Sum l) e h = h
memory_anywhere (Unfit number place) e h = memory_of number place e h

pub prefixed_gives : (op : SizeUnary) (place : Place) (d : Sized) (size : Size) (r : Result Size SizeFault) → GivesSum d (Ok size)
    → GivesSum (prefixed_sum op place (plain_line size)) r → GivesSum (prefixed op place d) r
prefixed_gives op place (Sum l) size r h k = subst (λ m. GivesSum (prefixed_sum op place m) r) h k
prefixed_gives op place (Unfit number at) size r h k = absurd h

pub joined_gives : (op : SizeBinary) (place : Place) (d e : Sized) (left right : Size) (r : Result Size SizeFault) → GivesSum d (Ok left) → GivesSum e (Ok right)
    → GivesSum (held place (joined_lines op (plain_line left) (plain_line right))) r → GivesSum (joined op place d e) r
joined_gives op place (Sum l) (Sum m) left right r h k give = subst (λ x. GivesSum (held place (joined_lines op x m)) r) h (subst (λ y. GivesSum (held place (joined_lines op (plain_line left) y)) r) k give)
joined_gives op place (Sum l) (Unfit number at) left right r h k give = absurd k
joined_gives op place (Unfit number at) e left right r h k give = absurd h

pub joined_fails : (op : SizeBinary) (place : Place) (d e : Sized) (left : Size) (f : SizeFault) → GivesSum d (Ok left) → GivesSum e (Err f) → GivesSum (joined op place d e) (Err f)
joined_fails op place (Sum l) (Sum m) left f h k = memory_anywhere (held place (joined_lines op l m)) f k
joined_fails op place (Sum l) (Unfit number at) left f h k = k
joined_fails op place (Unfit number at) e left f h k = absurd h

pub prefixed_fails : (op : SizeUnary) (place : Place) (d : Sized) (f : SizeFault) → GivesSum d (Err f) → GivesSum (prefixed op place d) (Err f)
prefixed_fails op place (Sum l) f h = memory_anywhere (prefixed_sum op place l) f h
prefixed_fails op place (Unfit number at) f h = h

pub joined_fails_first : (op : SizeBinary) (place : Place) (d e : Sized) (f : SizeFault) → GivesSum d (Err f) → GivesSum (joined op place d e) (Err f)
joined_fails_first op place (Sum l) (Sum m) f h = memory_anywhere (held place (joined_lines op l m)) f h
joined_fails_first op place (Sum l) (Unfit number at) f h = memory_anywhere (Unfit number at) f h
joined_fails_first op place (Unfit number at) e f h = h

-- ---- conditions

abbrev Found : Type 0
Found = Result (Vec Compare Global) SizeFault

pub condition_anywhere : (j : Judged) (e : SizeFault) → IsMemory e → GivesCondition j (Err e)
condition_anywhere (Holds cs) e h = h
condition_anywhere (Misjudged number place) e h = memory_of number place e h

pub nonzero_gives : (d : Sized) (size : Size) (zero : Line) (r : Found) → GivesSum d (Ok size) → zero ≡ constant_line (pos 0)
    → GivesCondition (Holds (Order compare.NotEqual (plain_line size) zero ∷ [])) r → GivesCondition (nonzero d) r
nonzero_gives (Sum l) size zero r h z give =
    subst (λ m. GivesCondition (Holds (Order compare.NotEqual m (constant_line (pos 0)) ∷ [])) r) h (subst (λ m. GivesCondition (Holds (Order compare.NotEqual (plain_line size) m ∷ [])) r) z give)
nonzero_gives (Unfit number at) size zero r h z give = absurd h

pub nonzero_fails : (d : Sized) (f : SizeFault) → GivesSum d (Err f) → GivesCondition (nonzero d) (Err f)
nonzero_fails (Sum l) f h = h
nonzero_fails (Unfit number at) f h = h

pub ordered_gives : (op : CompareOp) (d e : Sized) (left right : Size) (r : Found) → GivesSum d (Ok left) → GivesSum e (Ok right)
    → GivesCondition (Holds (Order op (plain_line left) (plain_line right) ∷ [])) r → GivesCondition (ordered op d e) r
ordered_gives op (Sum l) (Sum m) left right r h k give =
    subst (λ x. GivesCondition (Holds (Order op x m ∷ [])) r) h (subst (λ y. GivesCondition (Holds (Order op (plain_line left) y ∷ [])) r) k give)
ordered_gives op (Sum l) (Unfit number at) left right r h k give = absurd k
ordered_gives op (Unfit number at) e left right r h k give = absurd h

pub ordered_fails : (op : CompareOp) (d e : Sized) (left : Size) (f : SizeFault) → GivesSum d (Ok left) → GivesSum e (Err f) → GivesCondition (ordered op d e) (Err f)
ordered_fails op (Sum l) (Sum m) left f h k = k
ordered_fails op (Sum l) (Unfit number at) left f h k = k
ordered_fails op (Unfit number at) e left f h k = absurd h

pub ordered_fails_first : (op : CompareOp) (d e : Sized) (f : SizeFault) → GivesSum d (Err f) → GivesCondition (ordered op d e) (Err f)
ordered_fails_first op (Sum l) (Sum m) f h = h
ordered_fails_first op (Sum l) (Unfit number at) f h = memory_of number at f h
ordered_fails_first op (Unfit number at) e f h = h

pub both_gives : (j k : Judged) (left right : Vec Compare Global) (v : Vec Compare Global) → GivesCondition j (Ok left) → GivesCondition k (Ok right)
    → map plain_comparison v.items ≡ map plain_comparison left.items ++ map plain_comparison right.items → GivesCondition (both j k) (Ok v)
both_gives (Holds cs) (Holds ds) left right v h k e = subst (λ x. map plain_comparison v.items ≡ x ++ ds) h (subst (λ y. map plain_comparison v.items ≡ map plain_comparison left.items ++ y) k e)
both_gives (Holds cs) (Misjudged number at) left right v h k e = absurd k
both_gives (Misjudged number at) k left right v h l e = absurd h

pub both_fails : (j k : Judged) (left : Vec Compare Global) (f : SizeFault) → GivesCondition j (Ok left) → GivesCondition k (Err f) → GivesCondition (both j k) (Err f)
both_fails (Holds cs) (Holds ds) left f h k = k
both_fails (Holds cs) (Misjudged number at) left f h k = k
both_fails (Misjudged number at) k left f h l = absurd h

pub both_fails_first : (j k : Judged) (f : SizeFault) → GivesCondition j (Err f) → GivesCondition (both j k) (Err f)
both_fails_first (Holds cs) (Holds ds) f h = h
both_fails_first (Holds cs) (Misjudged number at) f h = memory_of number at f h
both_fails_first (Misjudged number at) k f h = h

pub one_gives : (c : Comparison) (j : Judged) (v : Vec Compare Global) → map plain_comparison v.items ≡ c ∷ [] → GivesCondition (one_or (Some c) j) (Ok v)
one_gives c j v e = e

-- ---- bytes

pub in_units_gives : (unit : ℕ) (place : Place) (d : Sized) (size : Size) (r : Result Size SizeFault) → GivesSum d (Ok size)
    → GivesSum (held place (Some (scaled (pos unit) (plain_line size)))) r → GivesSum (in_units unit place d) r
in_units_gives unit place (Sum l) size r h give = subst (λ m. GivesSum (held place (Some (scaled (pos unit) m))) r) h give
in_units_gives unit place (Unfit number at) size r h give = absurd h

pub in_units_fails : (unit : ℕ) (place : Place) (d : Sized) (f : SizeFault) → GivesSum d (Err f) → GivesSum (in_units unit place d) (Err f)
in_units_fails unit place (Sum l) f h = memory_anywhere (held place (Some (scaled (pos unit) l))) f h
in_units_fails unit place (Unfit number at) f h = h

-- ---- constants

-- a constant is held where its number is
pub constant_held : (o : Option ℤ) → option_map constant_line (held_if o) ≡ held_line_if (option_map constant_line o)
constant_held None = refl
constant_held (Some z) = by_test (is_held z)
  where
    by_test : (b : Bool) → option_map constant_line (if b then Some z else None) ≡ (if b then Some (constant_line z) else None)
    by_test true = refl
    by_test false = refl

pub between_held : (op : SizeBinary) (l r : Line) → true ≡ is_constant l → true ≡ is_constant r
    → option_map constant_line (held_if (constant_of op l.constant r.constant)) ≡ held_line_if (between_constants op l r)
between_held op l r a b = rw (sym a, sym b) (constant_held (constant_of op l.constant r.constant))
