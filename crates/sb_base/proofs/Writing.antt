-- Writing a piece in parts, where the bytes that the writer holds are known.
use Rattle.std.proofs.Common.{◌≡◌, ◌++◌, ◌∙◌, ◌-◌, ℕ, List, Option, Some, None, ap, sym, append_assoc, arith, length, drop, take}
use Rattle.std.proofs.lemmas.Grind.{common_steps}
use Rattle.std.proofs.lemmas.List.{take-append-drop}
use Rattle.std.specs.Io.KnownBytes.{Appends}
use Rattle.sb_base.specs.Outside.{HasPut}

appends_more : (before now next : Option (List ℕ)) (done more : List ℕ) → Appends before now done → Appends now next more → Appends before next (done ++ more)
appends_more None now next done more first second = tt
appends_more (Some b) None next done more first second = absurd first
appends_more (Some b) (Some n) None done more first second = absurd second
appends_more (Some b) (Some n) (Some m) done more first second = second ∙ ap (λ bs. bs ++ more) first ∙ append_assoc b done more

-- a write took the first bytes of the rest
pub puts_more : (before now next : Option (List ℕ)) (piece rest : List ℕ) (count : ℕ) → HasPut before now piece rest → Appends now next (take count rest) → HasPut before next piece (take (length rest - count) (drop count rest))
puts_more before now next piece rest count put more =
    let left : take (length rest - count) (drop count rest) ≡ drop count rest = grind (arith, common_steps) in
    let split : (put.0 ++ take count rest) ++ drop count rest ≡ piece = append_assoc put.0 (take count rest) (drop count rest) ∙ ap (λ bs. put.0 ++ bs) (take-append-drop count rest) ∙ sym put.1 in
    rw left (put.0 ++ take count rest, sym split, appends_more before now next put.0 (take count rest) put.2 more)
