use Rattle.std.proofs.Common.{◌≡◌, ◌∙◌, false, [], ap, sym, subst}
use Rattle.std.proofs.lemmas.Result.{err_from_is_err_and}
use Rattle.sb_parse.specs.Parser.{done, token}
use Rattle.sb_sign.specs.declared.sign.Mark.TheVariants as mark
use Rattle.sb_lexicon.specs.Lexicon.{is_mark}
use Rattle.sb_lexicon.specs.Tokens.{unexpected}
use Rattle.sb_specifier.specs.Meaning.{plain_specified}
use Rattle.sb_specifier.specs.Specified.{reading}
use Rattle.sb_declare.specs.Openings as part
use Rattle.sb_declare.specs.Readers.{judged_by}
use Rattle.sb_declare.proofs.steps.Sharing.{ended, ended_faults}
use Rattle.sb_declare.proofs.declarations.nameless_behind.Goals as goal

pub returns-in_err-end : goal.returns-in_err-end
returns-in_err-end c =
    let a = c.args in
    let texts = a.names.now.texts in
    let s = a.shared.now in
    let p = err_from_is_err_and c.from_residual.result c.from_residual.ensures.1 in
    let judged = judged_by texts false s.noted.now a.count false a.tokens.now in
    let whole = part.nameless_of (part.notes_of texts a.below s) s.storage (plain_specified a.specified) in
    record { read = rw (p.1, p.2) (ended_faults judged (token unexpected (is_mark (reading texts []) mark.Semicolon)) whole _ c.in_err-end.ensures.read) }

pub returns : goal.returns
returns c =
    let a = c.args in
    let texts = a.names.now.texts in
    let s = a.shared.now in
    let end = c.in_ok-end.end in
    let judged = judged_by texts false s.noted.now a.count false a.tokens.now in
    let whole = part.nameless_of (part.notes_of texts a.below s) s.storage (plain_specified a.specified) in
    let same = c.in_ok-unnamed.ensures ∙ ap (λ ns. part.nameless_of ns s.storage (plain_specified a.specified)) c.in_ok-end.ensures.notes in
    let read = ended judged (token unexpected (is_mark (reading texts []) mark.Semicolon)) whole end.value.0 end.rest.now c.in_ok-end.ensures.read in
    record { read = subst (λ d. part.nameless_behind texts a.below s (plain_specified a.specified) a.count a.tokens.now ≡ done d end.rest.now) (sym same) read }
