-- What is answered for a text is the only answer.
use Rattle.std.proofs.Common.{◌≡◌, List, Result, Ok, Err, Vec, MatchResult, map, ap, sym, ◌∙◌}
use Rattle.std.specs.declared.alloc.Global.{Global}
use Rattle.sb_base.specs.declared.refusals.Refusal.{Refusal}
use Rattle.sb_base.specs.declared.refusals.Stop.{Stop}
use Rattle.sb_base.specs.declared.refusals.Stop.TheVariants.{Refused, Memory}
use Rattle.sb_lex.specs.declared.piece.PpToken.{PpToken}
use Rattle.sb_macro.specs.declared.halt.Halt.{Halt}
use Rattle.sb_macro.specs.declared.halt.Halt.TheVariants as halts
use Rattle.sb_macro.specs.Halts.{stop_of}
use Rattle.sb_macro.specs.Replacing.{StopsWith}
use Rattle.sb_macro.specs.Expansion.{Scope, Expanded, expands, IsOnlyAnswer, IsStop, place_of_last}
use Rattle.sb_macro.specs.Tokens.{fresh}
use Rattle.sb_macro.proofs.ExpansionLaws.{one_expansion, exclusive, one_stop}

pub one_text : (scope : Scope) (list pieces other : List PpToken) → Expanded scope list pieces → Expanded scope list other → other ≡ pieces
one_text scope list pieces other (expands out gives few is) (expands more also fits is_too) =
    is_too ∙ ap (map (λ t. t.piece)) (one_expansion scope (fresh list) more out also gives) ∙ sym is

pub not_both : (scope : Scope) (list pieces : List PpToken) (r : Refusal) → Expanded scope list pieces → IsStop scope list (Refused r) → ⊥
not_both scope list pieces r (expands out gives few is) stops = exclusive scope (place_of_last list) (fresh list) r.number r.place out stops.0 gives few

one_refusal : (scope : Scope) (list : List PpToken) (r other : Refusal) → IsStop scope list (Refused r) → IsStop scope list (Refused other) → other ≡ r
one_refusal scope list r other stops also =
    let same = one_stop scope (place_of_last list) (place_of_last list) (fresh list) other.number r.number other.place r.place also.0 stops.0 in
    let place = same.1 (λ i. place_of_last list) in
    let feature : other.feature ≡ r.feature = also.1 ∙ sym stops.1 in
    λ i. record { number = same.0 i; place = place i; feature = feature i }

pub only_answer : (scope : Scope) (list : List PpToken) (result : Result (Vec PpToken Global) Stop) → MatchResult result (λ out. Expanded scope list out.items) (IsStop scope list)
    → IsOnlyAnswer scope list result
only_answer scope list (Ok out) expanded = ((λ pieces other. one_text scope list out.items pieces expanded other), λ r stops. not_both scope list out.items r expanded stops)
only_answer scope list (Err (Refused r)) stops = ((λ pieces expanded. not_both scope list pieces r expanded stops), λ other also. one_refusal scope list r other stops also)
only_answer scope list (Err Memory) stops = tt

-- how a list is refused, as callers see it
pub stops_so : (scope : Scope) (list : List PpToken) (halt : Halt) → StopsWith scope (place_of_last list) (fresh list) halt → IsStop scope list (stop_of halt)
stops_so scope list (halts.Refused number place) stops = (stops, λ i. 0)
stops_so scope list halts.Memory stops = tt
