use Rattle.std.proofs.Common.{refl, ap, ◌∙◌, sym, arith}
use Rattle.std.proofs.lemmas.Int.{to_z-of_z}
use Rattle.std.proofs.lemmas.Result.{err_from_is_err_and}
use mir.Syntax.{w128}
use Rattle.sb_term.specs.Linear.{scaled_entries, are_narrow}
use Rattle.sb_term.proofs.Merging.{merging_begins, scaling_on, scaling_wide, scaling_ends, err_elsewhere}
use Rattle.sb_term.proofs.merge.scaled_entries.Goals as goal

pub loop-entry-init : goal.loop-entry-init
loop-entry-init c = rw c.new-out.ensures.items (merging_begins _ _ _ c.args.xs.now refl c.requires)

pub returns-in_err-scale_entry-clause-wide : goal.returns-in_err-scale_entry-clause-wide
returns-in_err-scale_entry-clause-wide c =
    let by = to_z-of_z w128 c.args.by c.ranges.by in
    let p = err_from_is_err_and c.from_residual.result c.from_residual.ensures.1 in
    rw (p.1, p.2) (λ is. ap (λ z. are_narrow (scaled_entries z c.args.xs.now)) (sym by)
    ∙ scaling_wide _ c.args.xs.now _ _ _ (omega arith) c.loop-entry.invariant (c.in_err-scale_entry.ensures.wide (err_elsewhere _ _ is)))

pub loop-entry-preserved : goal.loop-entry-preserved
loop-entry-preserved c =
    scaling_on _ c.args.xs.now _ _ _ _ (omega arith) c.requires c.loop-entry.invariant
    c.in_ok-scale_entry.ensures.within c.in_ok-scale_entry.ensures.kept

pub returns-clause-items : goal.returns-clause-items
returns-clause-items c =
    let by = to_z-of_z w128 c.args.by c.ranges.by in
    (scaling_ends _ c.args.xs.now _ c.loop-entry.entry-index (omega arith) c.loop-entry.invariant).0
    ∙ ap (λ z. scaled_entries z c.args.xs.now) by

pub returns-clause-within : goal.returns-clause-within
returns-clause-within c =
    let by = to_z-of_z w128 c.args.by c.ranges.by in
    ap (λ z. are_narrow (scaled_entries z c.args.xs.now)) (sym by)
    ∙ (scaling_ends _ c.args.xs.now _ c.loop-entry.entry-index (omega arith) c.loop-entry.invariant).1
