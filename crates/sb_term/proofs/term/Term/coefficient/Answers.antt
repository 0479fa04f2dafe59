use Rattle.std.proofs.Common.{◌≡◌, true, ℤ, rules, sym, ap, ◌∙◌, subst}
use mir.Syntax.{w128}
use mir.Val.{SFits}
use Rattle.std.proofs.lemmas.Int.{to_z-of_z}
use Rattle.sb_term.specs.Linear.{coefficient_of, is_narrow}
use Rattle.sb_term.proofs.Narrow.{coefficient_of-narrow}
use Rattle.sb_term.proofs.term.Term.coefficient.Goals as goal

pub returns-clause-narrow : goal.returns-clause-narrow
returns-clause-narrow c =
    let z = c.coefficient_in.result in
    let fits : SFits w128 z = search rules in
    let s = c.args.s.0 in
    let whole = to_z-of_z w128 z fits ∙ c.coefficient_in.ensures ∙ ap (coefficient_of s) c.as_slice.ensures in
    subst (λ (x : ℤ). is_narrow x ≡ true) (sym whole) (coefficient_of-narrow s c.self.inside.entries.items c.self.invariant.narrow)
