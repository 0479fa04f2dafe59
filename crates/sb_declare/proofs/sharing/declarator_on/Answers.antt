use Rattle.std.proofs.Common.{◌≡◌, ◌∙◌, ◌+◌, ◌-◌, true, false, not, length, take, ap, sym, subst}
use Rattle.std.proofs.lemmas.Result.{err_from_is_err_and}
use Rattle.sb_parse.specs.Parser.{done}
use Rattle.sb_lexicon.specs.Meaning.{meant, IsFault}
use Rattle.sb_derivation.specs.Declarators.{plain_declarator}
use Rattle.sb_declare.specs.Openings as part
use Rattle.sb_declare.specs.Readers.{all_stand, judged_by}
use Rattle.sb_declarator.specs.Readers.{declarators, parts}
use Rattle.sb_specifier.specs.Specified.{reading, declares_function}
use Rattle.sb_declare.proofs.steps.Sharing.{judged_stops, judged_stands}
use Rattle.sb_declare.proofs.sharing.declarator_on.Goals as goal

pub returns-in_err-judged : goal.returns-in_err-judged
returns-in_err-judged c =
    let a = c.args in
    let w = a.lexicon.now in
    let texts = w.names.now.texts in
    let noted = a.shared.now.noted.now in
    let st = a.shared.now.storage in
    let d = plain_declarator w.types.now c.in_ok-found.found.value in
    let rest = c.in_ok-found.found.rest.now in
    let e = c.in_err-judged.field-0.0 in
    let p = err_from_is_err_and c.from_residual-in_err-judged.result c.from_residual-in_err-judged.ensures.1 in
    let same : meant w ≡ reading texts w.types.now = ap (λ b. record { texts = texts; types = w.types.now; in_note = b }) c.requires.outside in
    let read : declarators (reading texts w.types.now) (not (part.is_typedef st)) false a.below (parts texts a.below) (a.below - a.depth) 0 a.tokens.now ≡ done d rest =
    ap (λ l. declarators l (not (part.is_typedef st)) false a.below (parts texts a.below) (a.below - a.depth) 0 a.tokens.now) (sym same)
    ∙ ap (λ b. declarators (meant w) (not b) false a.below (parts texts a.below) (a.below - a.depth) 0 a.tokens.now) (sym c.is_typedef-functions.ensures)
    ∙ c.in_ok-found.ensures.read.0 in
    let count : a.count + length c.front.result.now ≡ a.count + length (take (length a.tokens.now - length rest) a.tokens.now) = ap (λ l. a.count + length l) c.front.ensures.front in
    let stops = subst (λ b. IsFault (judged_by texts b noted (a.count + length c.front.result.now) b rest) e) c.declares_function-function.ensures c.in_err-judged.ensures in
    let there = subst (λ n. IsFault (judged_by texts (declares_function d.pieces) noted n (declares_function d.pieces) rest) e) count stops in
    record { read = rw (p.1, p.2) (judged_stops texts a.below noted st w.types.now a.depth a.count a.tokens.now d rest read e there) }
