-- what the crate of macros says, in the words of this one
use Rattle.std.proofs.Common.{◌≡◌, ◌<◌, ℕ, List, length, Result, Ok, Err, MatchResult, IfErr, IfOk, Vec, subst}
use Rattle.std.specs.List.{All}
use Rattle.std.specs.declared.alloc.Global.{Global}
use Rattle.sb_base.specs.declared.refusals.Refusal.{Refusal}
use Rattle.sb_base.specs.declared.refusals.Stop.{Stop}
use Rattle.sb_base.specs.declared.refusals.Stop.TheVariants as stop
use Rattle.sb_lex.specs.declared.piece.PpToken.{PpToken}
use Rattle.sb_macro.specs.Defines.{IsDefined, IsRefused, RefusesLine}
use Rattle.std.specs.declared.alloc.AllocError.{AllocError}
use Rattle.sb_macro.specs.declared.ending.Given.{Given}
use Rattle.sb_macro.specs.Endings.{TextEnds}
use Rattle.sb_macro.specs.Expansion as macros
use Rattle.sb_macro.specs.Expansion.{Expanded}
use Rattle.sb_macro.specs.Halts.{refusal}
use Rattle.sb_macro.specs.Places.{StopsAmong}
use Rattle.sb_macro.proofs.LinePlaces.{refused_plain}
use Rattle.sb_directive.specs.Rules.{Table, IsExpansion, HasStopped, HasEnded, IsDefinition, IsNoDefinition, scope_of}
use Rattle.sb_directive.specs.Stopping.{IsStop, IsAmong}

plain : (r : Refusal) → r.feature ≡ 0 → r ≡ refusal r.number r.place
plain r e = λ i. record { number = r.number; place = r.place; feature = e i }

pub defines_so : {A : Type 0} (texts : List (List ℕ)) (table now : Table) (line : List PpToken) (result : Result A Stop)
    → MatchResult result (λ _. IsDefined texts table line now) (RefusesLine texts table line) → IfErr result (λ end. 0 < length line → StopsAmong line end)
    → MatchResult result (λ _. IsDefinition texts table line now) (IsStop (λ number place. IsNoDefinition texts table line number place × (0 < length line → IsAmong line place)))
unfolding IsDefinition IsNoDefinition
defines_so texts table now line (Ok x) says among = says
defines_so texts table now line (Err (stop.Refused r)) says among =
    let feature = refused_plain texts table line r says in ((subst (IsRefused texts table line) (plain r feature) says, among), feature)
defines_so texts table now line (Err stop.Memory) says among = tt

pub expands_so : (texts : List (List ℕ)) (table : Table) (room : ℕ) (list : List PpToken) (result : Result (Vec PpToken Global) Stop)
    → MatchResult result (λ out. Expanded (scope_of texts table room) list out.items) (macros.IsStop (scope_of texts table room) list)
    → MatchResult result (λ out. All (λ t. IsAmong list t.place) out.items) (StopsAmong list)
    → MatchResult result (λ out. IsExpansion texts table room list out.items) (IsStop (λ number place. HasStopped texts table room list number place × IsAmong list place))
unfolding IsExpansion HasStopped
expands_so texts table room list (Ok out) says among = says
expands_so texts table room list (Err (stop.Refused r)) says among = ((says.0, among), says.1)
expands_so texts table room list (Err stop.Memory) says among = tt

pub ends_so : (texts : List (List ℕ)) (table : Table) (room : ℕ) (list : List PpToken) (result : Result Given AllocError)
    → IfOk result (λ given. TextEnds (scope_of texts table room) list given.pieces.items given.end) → IfOk result (λ given. HasEnded texts table room list given.pieces.items given.end)
unfolding HasEnded
ends_so texts table room list (Ok given) says = says
ends_so texts table room list (Err fault) says = tt
