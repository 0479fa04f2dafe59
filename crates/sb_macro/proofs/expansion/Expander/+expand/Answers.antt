use Rattle.std.proofs.Common.{◌≡◌, [], ◌∷◌, ◌++◌, ap, sym, ◌∙◌, arith, subst}
use Rattle.std.proofs.lemmas.List.{map-append, length-map}
use Rattle.sb_macro.specs.Endings.{in_call, miscounted}
use Rattle.sb_macro.specs.Expansion.{Unclosed, Miscounted}
use Rattle.sb_macro.specs.Macros.{macro_of}
use Rattle.sb_macro.specs.Replacing.{scope_of, replaces}
use Rattle.sb_macro.specs.Tokens.{tok_of, toks, lists, fulls_of}
use Rattle.sb_macro.proofs.Expanding.{IsExpanding, AreExpanding, kept_on, replaced_on, no_room, ends_there, all_given, step_called, ended_inside, argument_goes, argument_halts}
use Rattle.sb_macro.proofs.expansion.Expander.+expand.Goals as goal

pub expand_each-loop-arg-preserved : goal.expand_each-loop-arg-preserved
expand_each-loop-arg-preserved t c =
    let scope = scope_of c.args.self.now in
    let here = subst (λ l. AreExpanding scope (lists c.args.args.items) (fulls_of c.loop-arg.fulls.items) (lists l)) c.in-Some.ensures.items c.loop-arg.invariant.expanding in
    let on = argument_goes scope _ _ _ _ c.expand_list.result c.in-Ok.full here c.expand_list.ensures.reached c.in-Ok.ensures in
    let pushed : fulls_of c.push.new.self.items ≡ fulls_of c.loop-arg.fulls.items ++ toks c.in-Ok.full.items ∷ [] =
    ap fulls_of c.in_ok-push-in-Ok.ensures.items ∙ map-append _ c.loop-arg.fulls.items (c.in-Ok.full ∷ []) in
    record { expanding = rw pushed on; budget = omega (arith, c.expand_list.ensures.budget, c.loop-arg.invariant.budget) }

pub expand_each-returns-in-Err-clause-expanded : goal.expand_each-returns-in-Err-clause-expanded
expand_each-returns-in-Err-clause-expanded t c =
    let scope = scope_of c.args.self.now in
    let here = subst (λ l. AreExpanding scope (lists c.args.args.items) (fulls_of c.loop-arg.fulls.items) (lists l)) c.in-Some.ensures.items c.loop-arg.invariant.expanding in
    argument_halts scope _ _ _ _ c.expand_list.result c.in-Err.halt here c.expand_list.ensures.reached c.in-Err.ensures

pub expand_list-returns-in-Ok-Some : goal.expand_list-returns-in-Ok-Some
expand_list-returns-in-Ok-Some t c =
    let scope = scope_of c.args.self.now in
    let here = subst (λ l. IsExpanding scope (toks c.args.pending.items) (toks c.loop-marked.out.items) (toks l)) c.in-Some.ensures.items c.loop-marked.invariant.expanding in
    let ends = rw c.in-Ok-Some.field-0-is at c.in-Ok-Some.ensures.replaced in
    record { reached = ends_there scope _ _ _ _ c.in-Ok-Some.end here ends; budget = omega (arith, c.replace.ensures.budget, c.loop-marked.invariant.budget) }

pub expand_list-loop-marked-preserved-in-Some-called_macro : goal.expand_list-loop-marked-preserved-in-Some-called_macro
expand_list-loop-marked-preserved-in-Some-called_macro t c =
    let scope = scope_of c.args.self.now in
    let here = subst (λ l. IsExpanding scope (toks c.args.pending.items) (toks c.loop-marked.out.items) (toks l)) c.in-Some.ensures.items c.loop-marked.invariant.expanding in
    let done = rw c.in-Ok-None.field-0-is at c.in-Ok-None.ensures.replaced in
    record { expanding = replaced_on scope _ _ _ _ _ here done; budget = omega (arith, c.replace.ensures.budget, c.loop-marked.invariant.budget) }

pub expand_list-returns-then-len-self-clause-reached : goal.expand_list-returns-then-len-self-clause-reached
expand_list-returns-then-len-self-clause-reached t c =
    let scope = scope_of c.args.self.now in
    let here = subst (λ l. IsExpanding scope (toks c.args.pending.items) (toks c.loop-marked.out.items) (toks l)) c.in-Some.ensures.items c.loop-marked.invariant.expanding in
    no_room scope _ _ _ _ here (sym c.in-None.ensures) (rw length-map (omega (arith, c.if-len-self.true)))

pub expand_list-loop-marked-preserved : goal.expand_list-loop-marked-preserved
expand_list-loop-marked-preserved t c =
    let scope = scope_of c.args.self.now in
    let here = subst (λ l. IsExpanding scope (toks c.args.pending.items) (toks c.loop-marked.out.items) (toks l)) c.in-Some.ensures.items c.loop-marked.invariant.expanding in
    let on = kept_on scope _ _ _ _ here (sym c.in-None.ensures) (rw length-map (omega (arith, c.if-len-self.false))) in
    let pushed : toks c.push.new.self.items ≡ toks c.loop-marked.out.items ++ tok_of c.in-Some.marked ∷ [] =
    ap toks c.in_ok-push-in-None.ensures.items ∙ map-append tok_of c.loop-marked.out.items (c.in-Some.marked ∷ []) in
    record { expanding = rw pushed on; budget = omega arith }

pub expand_list-returns-clause-reached : goal.expand_list-returns-clause-reached
expand_list-returns-clause-reached t c =
    let scope = scope_of c.args.self.now in
    let none : c.loop-marked.pending.items ≡ [] = grind arith in
    let here = subst (λ l. IsExpanding scope (toks c.args.pending.items) (toks c.loop-marked.out.items) (toks l)) none c.loop-marked.invariant.expanding in
    all_given scope _ _ here

pub replace-returns-in-Unclosed-clause-replaced : goal.replace-returns-in-Unclosed-clause-replaced
replace-returns-in-Unclosed-clause-replaced t c =
    let scope = scope_of c.args.self.now in
    let taken = rw c.in-Unclosed.is at c.in_ok-taken.ensures in
    let step = step_called scope (tok_of c.args.name.now) (toks c.args.pending.now.items) (macro_of c.args.stored.now) Unclosed c.requires.called taken in
    λ count room. in_call step room

pub replace-returns-in-Miscounted-clause-replaced : goal.replace-returns-in-Miscounted-clause-replaced
replace-returns-in-Miscounted-clause-replaced t c =
    let scope = scope_of c.args.self.now in
    let taken = rw c.in-Miscounted.is at c.in_ok-taken.ensures in
    let step = step_called scope (tok_of c.args.name.now) (toks c.args.pending.now.items) (macro_of c.args.stored.now) Miscounted c.requires.called taken in
    λ count room. miscounted step room

pub replace-returns-in-Err-clause-replaced : goal.replace-returns-in-Err-clause-replaced
replace-returns-in-Err-clause-replaced t c =
    let scope = scope_of c.args.self.now in
    let taken = rw c.in-Args.is at c.in_ok-taken.ensures in
    let step = step_called scope (tok_of c.args.name.now) (toks c.args.pending.now.items) (macro_of c.args.stored.now) _ c.requires.called taken in
    ended_inside scope (tok_of c.args.name.now) (toks c.args.pending.now.items) _ _ _ _ c.in-Err.halt c.end_at.result step c.in-Err.ensures.expanded c.end_at.ensures

pub replace-returns-clause-replaced : goal.replace-returns-clause-replaced
replace-returns-clause-replaced t c =
    let scope = scope_of c.args.self.now in
    let taken = rw c.in-Args.is at c.in_ok-taken.ensures in
    let step = step_called scope (tok_of c.args.name.now) (toks c.args.pending.now.items) (macro_of c.args.stored.now) _ c.requires.called taken in
    replaces (macro_of c.args.stored.now) _ (fulls_of c.in-Ok.fulls.items) _ step c.in-Ok.ensures.expanded
    (ap toks c.in_ok-put_before.ensures ∙ map-append tok_of c.in_ok-tokens.tokens.items c.take.new.rest.items ∙ ap (λ l. l ++ toks c.take.new.rest.items) (rw c.as_slice.ensures.value at c.in_ok-tokens.ensures))
