use Rattle.std.proofs.Common.{Global, Err, sym, ap, ◌∙◌, drop, ◌+◌, subst}
use Rattle.std.proofs.lemmas.Result.{err_from_is_err_and}
use Rattle.std.proofs.lemmas.List.{map-append}
use Rattle.sb_function.specs.Grammar.{IsFile}
use Rattle.sb_top.specs.Sets.{tokens_of, UnitReadAs}
use Rattle.sb_function.specs.Lexemes.{pieces_of}
use Rattle.sb_function.specs.Trees.{trees, tree_of}
use Rattle.sb_top.proofs.UnitSteps.{ReadsOn, dropped, none_left, reads_stop, reads_next, reads_end}
use Rattle.sb_top.proofs.sets.read_units.Goals as goal

pub returns-in_err-more : goal.returns-in_err-more
returns-in_err-more c =
    let p = err_from_is_err_and c.from_residual.result c.from_residual.ensures.1 in
    rw (p.1, p.2) (reads_stop Global Global c.args.names.now.texts _ _ _ _ c.tokens-item.result.items c.in_err-more.field-0.0 c.loop-tokens.invariant
    (dropped (λ v. v.items) c.args.units.now c.loop-tokens.tokens-index c.tokens-item.result c.loop-tokens-test.true c.tokens-item.is)
    (subst (λ z. UnitReadAs {Z = Global} (pieces_of c.args.names.now.texts z) (Err c.in_err-more.field-0.0)) c.as_slice.ensures.value c.in_err-more.ensures))

pub loop-tokens-preserved : goal.loop-tokens-preserved
loop-tokens-preserved c =
    subst (λ z. ReadsOn c.args.names.now.texts (tokens_of c.args.units.now) z (tokens_of (drop (c.loop-tokens.tokens-index + 1) c.args.units.now)))
    (sym (ap trees c.in_ok-append.ensures.items ∙ map-append tree_of c.loop-tokens.functions.items c.in_ok-more.more.items))
    (reads_next c.args.names.now.texts _ _ _ _ _ c.tokens-item.result.items c.loop-tokens.invariant
    (dropped (λ v. v.items) c.args.units.now c.loop-tokens.tokens-index c.tokens-item.result c.loop-tokens-test.true c.tokens-item.is)
    (subst (λ z. IsFile (pieces_of c.args.names.now.texts z) (trees c.in_ok-more.more.items)) c.as_slice.ensures.value c.in_ok-more.ensures))

pub returns : goal.returns
returns c = reads_end _ _ _ _ c.loop-tokens.invariant (none_left (λ v. v.items) c.args.units.now c.loop-tokens.tokens-index c.loop-tokens-test.false)
