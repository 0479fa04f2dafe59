use Rattle.std.proofs.Common.{◌≡◌, sym, ◌∙◌, rules, tests, bytes_eq}
use Rattle.std.proofs.lemmas.Iterator.{YieldsList-from_slice}
use Rattle.std.proofs.lemmas.Iterator.Search.{position_from_yields_List}
use Rattle.sb_core.specs.Spellings.{position_of}
use Rattle.sb_core.proofs.spelling.spelling_position.Goals.{In-Some, In-None}
use Rattle.sb_core.proofs.spelling.spelling_position.Goals as goal

-- what the search for the text gave
pub returns-in-Some : goal.returns-in-Some
returns-in-Some c =
    let found : c.position.result ≡ position_of c.args.text.now = position_from_yields_List (λ s. bytes_eq s.now c.args.text.now) _ _ c.position.result c.position.ensures.ran (YieldsList-from_slice _ c.iter.ensures.rest) (λ x b q k. search (rules, tests)) in
    sym c.in-Some.is ∙ found

pub returns-in-None : goal.returns-in-None
returns-in-None c =
    let found : c.position.result ≡ position_of c.args.text.now = position_from_yields_List (λ s. bytes_eq s.now c.args.text.now) _ _ c.position.result c.position.ensures.ran (YieldsList-from_slice _ c.iter.ensures.rest) (λ x b q k. search (rules, tests)) in
    sym c.in-None.is ∙ found
