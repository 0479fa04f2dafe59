use Rattle.std.proofs.Common.{inl, inr, ◌∷◌, Some, true, refl, sym, ◌∙◌, ap, drop}
use Rattle.std.proofs.lemmas.Result.{err_from_is_err_and}
use Rattle.sb_directive.specs.declared.asks.Asks.TheVariants as asked
use Rattle.sb_directive.specs.Branches.{new_branch, next_group}
use Rattle.sb_prep.proofs.Directives.{by_branches, by_push, by_condition, by_once, by_undefine, no_truth, by_define, refuses}
use Rattle.sb_prep.proofs.units.carry_out.Goals as goal

pub returns-in-Nothing-clause-carried : goal.returns-in-Nothing-clause-carried
returns-in-Nothing-clause-carried c =
    elim c.in-Nothing.is [
      | inl is ↦ by_branches c.args.file c.args.line.now c.args.branches.now c.args.state.now asked.Nothing c.args.branches.now (sym c.requires.asked ∙ is) refl
      | inr is ↦ absurd (c.requires.other is)
    ]

pub returns-in-Opens-clause-carried : goal.returns-in-Opens-clause-carried
returns-in-Opens-clause-carried c =
    by_push c.args.file c.args.line.now c.args.branches.now c.args.state.now (asked.Opens c.in-Opens.branch) (c.in-Opens.branch ∷ c.args.branches.now) c.open.new.self c.open.result
    (sym c.requires.asked ∙ c.in-Opens.is) refl c.open.ensures.opened

pub returns-in-Becomes-clause-carried : goal.returns-in-Becomes-clause-carried
returns-in-Becomes-clause-carried c =
    by_push c.args.file c.args.line.now c.args.branches.now c.args.state.now (asked.Becomes c.in-Becomes.branch) (c.in-Becomes.branch ∷ drop 1 c.args.branches.now) c.replace.new.self c.replace.result
    (sym c.requires.asked ∙ c.in-Becomes.is) refl c.replace.ensures.replaced

pub returns-in-Closes-clause-carried : goal.returns-in-Closes-clause-carried
returns-in-Closes-clause-carried c =
    by_branches c.args.file c.args.line.now c.args.branches.now c.args.state.now asked.Closes c.close.new.self (sym c.requires.asked ∙ c.in-Closes.is) (ap Some (sym c.close.ensures.closed))

pub returns-in_ok-holds-in-OpensIf-clause-carried : goal.returns-in_ok-holds-in-OpensIf-clause-carried
returns-in_ok-holds-in-OpensIf-clause-carried c =
    by_condition c.args.file c.args.line.now c.args.branches.now c.args.state.now asked.OpensIf (c.new_branch.result ∷ c.args.branches.now) c.open-in-OpensIf.new.self c.in_ok-holds-in-OpensIf.holds c.truth.new.self
    c.open-in-OpensIf.result (sym c.requires.asked ∙ c.in-OpensIf.is) (ap (λ b. Some (b ∷ c.args.branches.now)) (sym c.new_branch.ensures.branch))
    (rw (c.place_of.ensures.place, c.behind_word.ensures.behind) at c.in_ok-holds-in-OpensIf.ensures.truth) c.truth.ensures.moved c.open-in-OpensIf.ensures.opened

pub returns-in_ok-holds-in-TurnsIf-clause-carried : goal.returns-in_ok-holds-in-TurnsIf-clause-carried
returns-in_ok-holds-in-TurnsIf-clause-carried c =
    by_condition c.args.file c.args.line.now c.args.branches.now c.args.state.now (asked.TurnsIf c.in-TurnsIf.branch) (c.next_group.result ∷ drop 1 c.args.branches.now) c.replace-in-TurnsIf.new.self
    c.in_ok-holds-in-TurnsIf.holds c.truth-in-TurnsIf.new.self
    c.replace-in-TurnsIf.result (sym c.requires.asked ∙ c.in-TurnsIf.is) (ap (λ b. Some (b ∷ drop 1 c.args.branches.now)) (sym c.next_group.ensures.branch))
    (rw (c.place_of-in-TurnsIf.ensures.place, c.behind_word-in-TurnsIf.ensures.behind) at c.in_ok-holds-in-TurnsIf.ensures.truth) c.truth-in-TurnsIf.ensures.moved c.replace-in-TurnsIf.ensures.replaced

pub returns-in_err-holds-in-OpensIf-clause-carried : goal.returns-in_err-holds-in-OpensIf-clause-carried
returns-in_err-holds-in-OpensIf-clause-carried c =
    let p = err_from_is_err_and c.from_residual.result c.from_residual.ensures.1 in
    rw (p.1, p.2) (no_truth c.args.file c.args.line.now c.args.branches.now c.args.state.now c.requires.some c.requires.held asked.OpensIf (new_branch true ∷ c.args.branches.now) true _
    (sym c.requires.asked ∙ c.in-OpensIf.is) refl (rw (c.place_of.ensures.place, c.behind_word.ensures.behind) at c.in_err-holds-in-OpensIf.ensures.truth))

pub returns-in_err-holds-in-TurnsIf-clause-carried : goal.returns-in_err-holds-in-TurnsIf-clause-carried
returns-in_err-holds-in-TurnsIf-clause-carried c =
    let p = err_from_is_err_and c.from_residual-in_err-holds-in-TurnsIf.result c.from_residual-in_err-holds-in-TurnsIf.ensures.1 in
    rw (p.1, p.2) (no_truth c.args.file c.args.line.now c.args.branches.now c.args.state.now c.requires.some c.requires.held (asked.TurnsIf c.in-TurnsIf.branch) (next_group c.in-TurnsIf.branch true ∷ drop 1 c.args.branches.now) true _
    (sym c.requires.asked ∙ c.in-TurnsIf.is) refl (rw (c.place_of-in-TurnsIf.ensures.place, c.behind_word-in-TurnsIf.ensures.behind) at c.in_err-holds-in-TurnsIf.ensures.truth))

pub returns-in-Defines-clause-carried : goal.returns-in-Defines-clause-carried
returns-in-Defines-clause-carried c =
    by_define c.args.file c.args.line.now c.args.branches.now c.args.state.now c.requires.some c.requires.held c.define.new.self c.define.result (sym c.requires.asked ∙ c.in-Defines.is) c.define.ensures.moved
    (rw c.behind_word-in-Defines.ensures.behind at c.define.ensures.defined)

pub returns-in-Undefines-clause-carried : goal.returns-in-Undefines-clause-carried
returns-in-Undefines-clause-carried c =
    by_undefine c.args.file c.args.line.now c.args.branches.now c.args.state.now c.in-Undefines.name c.undefine.new.self (sym c.requires.asked ∙ c.in-Undefines.is) c.undefine.ensures.undefined

pub returns-in-Once-clause-carried : goal.returns-in-Once-clause-carried
returns-in-Once-clause-carried c = by_once c.args.file c.args.line.now c.args.branches.now c.args.state.now c.add_once.new.self c.add_once.result (sym c.requires.asked ∙ c.in-Once.is) c.add_once.ensures.added

pub returns-in-Refused-clause-carried : goal.returns-in-Refused-clause-carried
returns-in-Refused-clause-carried c =
    rw c.stop_at.ensures (refuses c.args.file c.args.line.now c.args.branches.now c.args.state.now c.requires.some c.requires.held c.in-Refused.number c.in-Refused.place (sym c.requires.asked ∙ c.in-Refused.is), refl)
