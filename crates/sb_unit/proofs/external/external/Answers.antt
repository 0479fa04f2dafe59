use Rattle.std.proofs.Common.{◌∙◌, ap, refl, sym}
use Rattle.std.proofs.lemmas.Result.{err_from_is_err_and}
use Rattle.sb_tree.specs.Plain.{plain_decls}
use Rattle.sb_declare.specs.Openings.{plain_declared}
use Rattle.sb_specifier.proofs.Growing.{joined_decls}
use Rattle.sb_unit.proofs.steps.Externals.{external_gives, external_faults}
use Rattle.sb_unit.proofs.external.external.Goals as goal

pub returns-in_err-new : goal.returns-in_err-new
returns-in_err-new c =
    let p = err_from_is_err_and c.from_residual.result c.from_residual.ensures.1 in
    rw (p.1, p.2) (external_faults c.args.names.now.texts c.args.below (plain_declared c.args.so_far.value) c.args.so_far.rest.now c.args.so_far.value.types refl _ c.in_err-new.ensures)

pub returns : goal.returns
returns c =
    let new = c.in_ok-new.new in
    let listed = ap plain_decls c.in_ok-append.ensures.items ∙ joined_decls c.args.so_far.value.list.items new.value.list.items in
    external_gives c.args.names.now.texts c.args.below (plain_declared c.args.so_far.value) c.args.so_far.rest.now c.args.so_far.value.types refl (plain_declared new.value) new.rest.now
    (plain_decls c.append.new.self.items) (sym listed) c.in_ok-new.ensures
