use Rattle.std.proofs.Common.{◌≡◌, [], Some, sym, refl}
use Rattle.std.proofs.lemmas.List.{nil_from_length}
use Rattle.sb_macro.specs.Defines.{malformed, macro_at}
use Rattle.sb_macro.specs.Macros.{macro_of}
use Rattle.sb_macro.proofs.DefiningLaws.{refused_new, compared_line}
use Rattle.sb_macro.proofs.table.addition.Goals as goal

pub returns-in_default : goal.returns-in_default
returns-in_default c =
    let none : c.args.line.now ≡ [] = nil_from_length c.args.line.now c.in_default.ensures.cases in
    rw (none, c.nowhere.ensures) (malformed [] _ refl refl)

pub returns-in-Some-macro_at : goal.returns-in-Some-macro_at
returns-in-Some-macro_at c =
    let texts = c.args.names.now.texts in
    let table = c.args.macros.now in
    let there : Some (macro_of c.in-Some-macro_at.other.now) ≡ macro_at table c.args.line.now = c.in-Some-macro_at.ensures in
    compared_line texts table c.args.line.now c.in-Some.name.now _ c.definition-parsed.result (macro_of c.in-Some-macro_at.other.now) c.addition_beside.result
    (sym c.in-Some.ensures.cases.0) c.definition-parsed.ensures (sym there) c.addition_beside.ensures

pub returns-in-Err : goal.returns-in-Err
returns-in-Err c = refused_new c.args.names.now.texts _ c.args.line.now c.in-Err.halt (sym c.in-None.ensures) c.in-Err.ensures
