-- what each rule owes the machine, whatever lawful answers come
use Rattle.std.specs.Prelude.{◌≡◌, ℕ, List, [], ◌∷◌, slice_get, Some}
use Rattle.sb_base.specs.declared.refusals.Place.{Place}
use Rattle.sb_term.specs.Asks.{Always}
use Rattle.sb_function.specs.declared.syntax.Simple.{Simple}
use Rattle.sb_function.specs.declared.syntax.Comparison.{Comparison}
use Rattle.sb_function.specs.declared.syntax.Param.{Param}
use Rattle.sb_picture.specs.declared.picture.Picture.{Picture}
use Rattle.sb_store.specs.declared.warning.Warning.{Warning}
use Rattle.sb_function.specs.Syntax.{Plain, Store, FunctionTree}
use Rattle.sb_picture.specs.Memory.{Memory}
use Rattle.sb_picture.specs.Machine.{Held, Outcome, Next, Faulted, number_of, compares, Branch, Runs}
use Rattle.sb_picture.specs.Contract.{Enters, Safe}
use Rattle.sb_store.specs.Stores.{Judged, store_rule}
use Rattle.sb_judge.specs.Splits.{Sides, split}
use Rattle.sb_judge.specs.Entry.{enter}
use Rattle.sb_judge.specs.Walks.{Walked, walk, function_rule}
use Rattle.sb_picture.specs.Describes.{Setting, Describes, Covered}

-- a step goes wrong nowhere, and its memory is described by one of the pictures that the rule gives
abbrev pub IsCovered : List Param → List Held → Memory → Picture → Setting → Memory → List Picture → Outcome → Type 0
IsCovered params args before p σ m qs (Next now) = Covered params args before p σ m now qs
IsCovered params args before p σ m qs (Faulted fault place) = ⊥

-- a store: no warning is lost, and where none was added the step is covered
pub record StoreOwes (array : ℕ) (index value : Simple) (place : Place) (p : Picture) (ws : List Warning) (j : Judged) : Type 0 where
  pub grows : j.warnings ≡ [] → ws ≡ []
  pub covers : (params : List Param) (args : List Held) (before m : Memory) (σ : Setting) → Describes params args before m p σ → j.warnings ≡ []
      → (fuel : ℕ) (end : Outcome) → Runs fuel args (Store array index value place) m end → IsCovered params args before p σ m (j.picture ∷ []) end

abbrev pub StoreLaw : Type 0
StoreLaw = (array : ℕ) (index value : Simple) (place : Place) (p : Picture) (ws : List Warning)
    → Always (StoreOwes array index value place p ws) (store_rule array index value place p ws)

-- a condition: the side that the machine takes is covered
abbrev pub SplitOwes : Simple → Comparison → Simple → Picture → Sides → Type 0
SplitOwes left op right p s = (params : List Param) (args : List Held) (before m : Memory) (σ : Setting) → Describes params args before m p σ
    → Branch (compares op (number_of args left) (number_of args right)) (Covered params args before p σ m m s.trues) (Covered params args before p σ m m s.falses)

abbrev pub SplitLaw : Type 0
SplitLaw = (left : Simple) (op : Comparison) (right : Simple) (p : Picture) → Always (SplitOwes left op right p) (split left op right p)

-- entry: each state that the function lets in is described
pub record Entered (params : List Param) (args : List Held) (m : Memory) (ps : List Picture) : Type 0 where
  pub at : ℕ
  pub picture : Picture
  pub setting : Setting
  pub stands : slice_get ps at ≡ Some picture
  pub describes : Describes params args m m picture setting

abbrev pub EntryLaw : Type 0
EntryLaw = (params : List Param) → Always (λ ps. (args : List Held) (m : Memory) → Enters params m args → Entered params args m ps) (enter params)

-- a statement
pub record WalkOwes (body : Plain) (ps : List Picture) (ws : List Warning) (w : Walked) : Type 0 where
  pub grows : w.warnings ≡ [] → ws ≡ []
  pub covers : (at : ℕ) (p : Picture) (params : List Param) (args : List Held) (before m : Memory) (σ : Setting) → slice_get ps at ≡ Some p
      → Describes params args before m p σ → w.warnings ≡ [] → (fuel : ℕ) (end : Outcome) → Runs fuel args body m end → IsCovered params args before p σ m w.pictures end

abbrev pub WalkLaw : Type 0
WalkLaw = (body : Plain) (ps : List Picture) (ws : List Warning) → Always (WalkOwes body ps ws) (walk body ps ws)

-- a function without a warning is safe
abbrev pub FunctionLaw : Type 0
FunctionLaw = (f : FunctionTree) → Always (λ ws. ws ≡ [] → Safe f) (function_rule f.params f.body)
