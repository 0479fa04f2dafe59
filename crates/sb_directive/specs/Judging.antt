-- what the functions that judge a condition give
use Rattle.std.specs.Prelude.{◌≡◌, ℕ, List, Option, Some, None}
use Rattle.sb_base.specs.declared.refusals.Place.{Place}
use Rattle.sb_base.specs.declared.refusals.Refusal.{Refusal}
use Rattle.sb_base.specs.declared.refusals.Stop.{Stop}
use Rattle.sb_base.specs.declared.refusals.Stop.TheVariants as stop
use Rattle.sb_lex.specs.declared.piece.PpToken.{PpToken}
use Rattle.sb_macro.specs.declared.ending.End.{End}
use Rattle.sb_macro.specs.declared.ending.End.TheVariants as end
use Rattle.sb_cond.specs.Front.{FrontRefused}
use Rattle.sb_directive.specs.Conditions.{sooner}
use Rattle.sb_directive.specs.Ending.{Ending, Ended, Refused}

-- the refusal by this number at this place, or one that comes before it in the pieces that were given
abbrev pub IsFirstRefusal : List (List ℕ) → List PpToken → ℕ → Place → Stop → Type 0
IsFirstRefusal texts given number place (stop.Refused r) =
    (first : Option Place) × FrontRefused texts given place first × (◌≡◌ {A = ℕ × Place} (sooner number place first) (r.number, r.place)) × (r.feature ≡ 0)
IsFirstRefusal texts given number place stop.Memory = Unit {0}

abbrev pub ending_of : Option Refusal → Ending
ending_of None = Ended
ending_of (Some r) = Refused r.number r.place

-- how a line is refused whose pieces end so, the last one at `last`, and of which macros read so much; nothing where all is read
abbrev pub refusal_of : Ending → End → Place → Option (ℕ × Place)
refusal_of ending (end.Refused number place) last = Some (number, place)
refusal_of (Refused number place) end.Open last = Some (number, place)
refusal_of (Refused number place) end.Whole last = Some (number, place)
refusal_of Ended end.Open last = Some (14, last)
refusal_of Ended end.Whole last = None
