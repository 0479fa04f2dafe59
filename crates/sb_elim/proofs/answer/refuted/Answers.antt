use Rattle.std.proofs.Common.{◌≡◌, List, [], Option, Some, IfOk, sym, ap, ◌∙◌, subst}
use Rattle.std.specs.Option.{option_map}
use Rattle.sb_term.specs.Ratio.{Ratio}
use Rattle.sb_term.specs.Bounds.{values as all_values}
use Rattle.sb_term.specs.AnswerOf.{refuted as refuted_answer}
use Rattle.sb_term.specs.declared.sym.Sym.{Sym}
use Rattle.sb_term.specs.declared.aside.Aside.{Aside}
use Rattle.sb_elim.proofs.answer.refuted.Goals as goal

pub returns-in-Some : goal.returns-in-Some
returns-in-Some c =
    let e : Some c.deref.result.now ≡ all_values c.args.state.asides [] =
    ap (λ (xs : List (Sym × Ratio)). Some xs) c.deref.ensures.value ∙ sym (ap (option_map (λ v. v.items)) c.in-Some.is) ∙ c.in_ok-values.ensures
    ∙ ap (λ (xs : List Aside). all_values xs []) c.into_asides.ensures in
    subst (λ (o : Option (List (Sym × Ratio))). IfOk c.answer_of_values.result (λ x. x ≡ refuted_answer c.args.query.now o)) e c.answer_of_values.ensures
