use Rattle.std.proofs.Common.{Option, refl, sym}
use Rattle.std.proofs.lemmas.Result.{err_from_is_err_and}
use Rattle.sb_prep.specs.declared.including.Included.{Included}
use Rattle.sb_prep.proofs.Directives.{halted, no_cause, includes}
use Rattle.sb_prep.proofs.Held.{kept_same}
use Rattle.sb_prep.proofs.Requests.{include_has_pieces}
use Rattle.sb_prep.proofs.units.directive.Goals as goal

pub returns-in_err-carry_out-in_default : goal.returns-in_err-carry_out-in_default
returns-in_err-carry_out-in_default g c =
    let p = err_from_is_err_and c.from_residual.result c.from_residual.ensures.1 in
    record {
      directive = rw (p.1, p.2) (halted (g.L.Library.held c.args.lib.now) c.args.here.depth c.args.line.now c.args.branches.now c.args.state.now c.carry_out.new.state _ c.carry_out.ensures.files c.in_err-carry_out-in_default.ensures.carried);
      moved = c.carry_out.ensures.moved;
      kept = rw c.carry_out.ensures.files (kept_same c.args.state.now.at.files);
      held = refl;
      cause = rw (p.1, p.2) (no_cause (Option Included) (g.L.Library.faults c.args.lib.now) _);
    }

pub returns-in-Includes-clause-directive : goal.returns-in-Includes-clause-directive
returns-in-Includes-clause-directive g c =
    includes (g.L.Library.held c.args.lib.now) c.args.here.depth c.args.here.file c.args.line.now c.args.branches.now c.args.state.now c.include.new.state c.include.result
    (sym c.in-Includes.ensures.asks) (rw c.behind_word.ensures.behind at c.include.ensures.included)

pub include-requires-clause-some : goal.include-requires-clause-some
include-requires-clause-some g c =
    rw c.behind_word.ensures.behind (include_has_pieces c.args.state.now.at.texts c.args.state.now.at.table c.args.branches.now c.args.line.now (sym c.in-Includes.ensures.asks))
