-- what the functions that replace `defined` give
use Rattle.std.specs.Prelude.{◌≡◌, ℕ, ◌<◌, List, [], ◌∷◌, Option, Some, None, Result, Ok, Err, length, slice_get}
use Rattle.sb_base.specs.Names.{with_text}
use Rattle.sb_base.specs.declared.refusals.Refusal.{Refusal}
use Rattle.sb_base.specs.declared.refusals.Stop.{Stop}
use Rattle.sb_base.specs.declared.refusals.Stop.TheVariants as stop
use Rattle.sb_lex.specs.declared.piece.PpToken.{PpToken}
use Rattle.sb_lex.specs.Lexing.{HasRoom}
use Rattle.sb_directive.specs.Defined.{replaced_by, Prepared}
use Rattle.sb_directive.specs.Ending.{Ending, Ended, Refused}
use Rattle.sb_directive.specs.Rules.{Table}

-- a number that stands for an operator gets its place in the table of names
pub record IsNumbered (limit : ℕ) (texts : List (List ℕ)) (operator : PpToken) (digit : List ℕ) (later : List (List ℕ)) (piece : PpToken) : Type 0 where
  pub number : ℕ
  pub room : HasRoom limit texts digit
  pub numbered : slice_get later number ≡ Some digit
  pub later_is : later ≡ with_text texts digit
  pub piece_is : piece ≡ replaced_by operator number

-- or there is no room for it
abbrev pub IsDigit : (limit : ℕ) → List (List ℕ) → (operator : PpToken) → (digit : List ℕ) → (later : List (List ℕ)) → Result PpToken Stop → Type 0
IsDigit limit texts operator digit later (Ok piece) = IsNumbered limit texts operator digit later piece
IsDigit limit texts operator digit later (Err (stop.Refused r)) = (HasRoom limit texts digit → ⊥) × (r.number ≡ 28) × (r.place ≡ operator.place) × (r.feature ≡ 0) × (later ≡ texts)
IsDigit limit texts operator digit later (Err stop.Memory) = Unit {0}

-- the pieces of a line become this one and those of the rest
pub record Begins (limit : ℕ) (table : Table) (texts : List (List ℕ)) (line : List PpToken) (later : List (List ℕ)) (piece : PpToken) (rest : List PpToken) : Type 0 where
  pub on : (out : List PpToken) (last : List (List ℕ)) (end : Ending) → Prepared limit table later rest out last end → Prepared limit table texts line (piece ∷ out) last end
  pub shorter : length rest < length line

-- the line is refused at its front; want of memory may come at any time
abbrev pub IsNotBegun : (limit : ℕ) → Table → List (List ℕ) → List PpToken → List (List ℕ) → Stop → Type 0
IsNotBegun limit table texts line later (stop.Refused r) = Prepared limit table texts line [] later (Refused r.number r.place) × (r.feature ≡ 0)
IsNotBegun limit table texts line later stop.Memory = Unit {0}

-- the pieces up to the refusal, if there is one
abbrev pub IsPreparation : (limit : ℕ) → Table → List (List ℕ) → List PpToken → List PpToken → List (List ℕ) → Option Refusal → Type 0
IsPreparation limit table texts line out later None = Prepared limit table texts line out later Ended
IsPreparation limit table texts line out later (Some r) = Prepared limit table texts line out later (Refused r.number r.place) × (r.feature ≡ 0)
