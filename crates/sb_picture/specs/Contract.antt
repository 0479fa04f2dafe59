-- the contract of a function, whom it lets in, what it owes at its end, and when it is safe
use Rattle.std.specs.Prelude.{◌≡◌, ℕ, ◌-◌, ◌*◌, ◌^◌, ◌≤◌, List, [], ◌∷◌, slice_get, ℤ, pos, negsuc, ◌+ℤ◌, ◌≤ℤ◌, ◌<ℤ◌, Some}
use Rattle.sb_function.specs.declared.syntax.ParamKind.{ParamKind}
use Rattle.sb_function.specs.declared.syntax.ParamKind.TheVariants.{Int, Unsigned, OutWrites}
use Rattle.sb_function.specs.declared.syntax.Param.{Param}
use Rattle.sb_function.specs.Syntax.{FunctionTree}
use Rattle.sb_picture.specs.Memory.{Memory, Pointer, Null, At, Wild, size_of, byte_at, IsWritten}
use Rattle.sb_picture.specs.Machine.{Held, Count, Leads, count_in, Outcome, Next, Faulted, Runs}

-- the least and the greatest number of a type: `int` has 32 bits, signed or not
abbrev pub least : ParamKind → ℤ
least Int = negsuc (2 ^ 31 - 1)
least Unsigned = pos 0
least (OutWrites size) = pos 0

abbrev pub greatest : ParamKind → ℤ
greatest Int = pos (2 ^ 31 - 1)
greatest Unsigned = pos (2 ^ 32 - 1)
greatest (OutWrites size) = pos 0

-- how many bytes `_Out_writes_(n) int *` speaks of: 4 n, or none where n is below 0; a number speaks of none
abbrev pub clamped : ℤ → ℕ
clamped (pos n) = n
clamped (negsuc n) = 0

abbrev pub region_size : List Held → ParamKind → ℕ
region_size args Int = 0
region_size args Unsigned = 0
region_size args (OutWrites size) = 4 * clamped (count_in (slice_get args size))

-- a pointer that is not null, to an object in which that many bytes lie from it on
abbrev pub LeadsTo : Memory → Pointer → ℕ → Type 0
LeadsTo m Null size = ⊥
LeadsTo m Wild size = ⊥
LeadsTo m (At object start) size = (length : ℕ) × (size_of m object ≡ Some length) × (1 ≤ size → (pos 0 ≤ℤ start) × ((start +ℤ pos size) ≤ℤ pos length))

-- a number is in the range of its type; a pointer meets its annotation
abbrev pub IsArgument : Memory → List Held → ParamKind → Held → Type 0
IsArgument m args Int (Count z) = (least Int ≤ℤ z) × (z ≤ℤ greatest Int)
IsArgument m args Unsigned (Count z) = (least Unsigned ≤ℤ z) × (z ≤ℤ greatest Unsigned)
IsArgument m args (OutWrites size) (Leads q) = LeadsTo m q (region_size args (OutWrites size))
IsArgument m args Int (Leads q) = ⊥
IsArgument m args Unsigned (Leads q) = ⊥
IsArgument m args (OutWrites size) (Count z) = ⊥

abbrev pub AreArguments : Memory → List Held → List Param → List Held → Type 0
AreArguments m args [] [] = Unit {0}
AreArguments m args [] (h ∷ hs) = ⊥
AreArguments m args (p ∷ ps) [] = ⊥
AreArguments m args (p ∷ ps) (h ∷ hs) = IsArgument m args p.kind h × AreArguments m args ps hs

-- byte k of object o is among the first `size` bytes from a pointer on
abbrev pub Covers : Pointer → ℕ → ℕ → ℕ → Type 0
Covers Null size o k = ⊥
Covers Wild size o k = ⊥
Covers (At object start) size o k = (o ≡ object) × (start ≤ℤ pos k) × (pos k <ℤ (start +ℤ pos size))

-- byte k of object o is in the region of the parameter at a position
pub record IsInRegion (params : List Param) (args : List Held) (at o k : ℕ) : Type 0 where
  pub param : Param
  pub pointer : Pointer
  pub stands : slice_get params at ≡ Some param
  pub leads : slice_get args at ≡ Some (Leads pointer)
  pub covered : Covers pointer (region_size args param.kind) o k

-- the precondition: each argument is of its type and meets its annotation, and no byte is in two regions
pub record Enters (params : List Param) (m : Memory) (args : List Held) : Type 0 where
  pub arguments : AreArguments m args params args
  pub apart : (i j o k : ℕ) → IsInRegion params args i o k → IsInRegion params args j o k → i ≡ j

-- a function may write in the regions of its `_Out_writes_` parameters
abbrev pub MayWrite : List Param → List Held → ℕ → ℕ → Type 0
MayWrite params args o k = (at : ℕ) × IsInRegion params args at o k

-- what stays of a memory where only some bytes may be written: objects keep their sizes, written bytes stay written, and
-- where they may not be written they keep what they hold
pub record Keeps (Touched : ℕ → ℕ → Type 0) (before now : Memory) : Type 0 where
  pub sizes : (o size : ℕ) → size_of before o ≡ Some size → size_of now o ≡ Some size
  pub written : (o k : ℕ) → IsWritten before o k → IsWritten now o k
  pub same : (o k : ℕ) → IsWritten before o k → (Touched o k → ⊥) → byte_at now o k ≡ byte_at before o k

-- the postcondition: `_Out_writes_` has no clause at exit, so only the frame is owed
abbrev pub Leaves : List Param → List Held → Memory → Memory → Type 0
Leaves params args before now = Keeps (λ o k. MayWrite params args o k) before now

abbrev pub EndsWell : List Param → List Held → Memory → Outcome → Type 0
EndsWell params args before (Next now) = Leaves params args before now
EndsWell params args before (Faulted fault place) = ⊥

-- from each state and all arguments that a function lets in, with however many units of fuel: no access goes wrong, and
-- the end meets the postcondition
abbrev pub Safe : FunctionTree → Type 0
Safe f = (fuel : ℕ) (m : Memory) (args : List Held) → Enters f.params m args → (end : Outcome) → Runs fuel args f.body m end → EndsWell f.params args m end

abbrev pub AreSafe : List FunctionTree → Type 0
AreSafe [] = Unit {0}
AreSafe (f ∷ fs) = Safe f × AreSafe fs
