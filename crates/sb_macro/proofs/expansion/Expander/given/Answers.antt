use Rattle.std.proofs.Common.{ap, ◌∙◌, map, subst}
use Rattle.sb_macro.specs.Endings.{Ends, text_ends}
use Rattle.sb_macro.specs.Replacing.{scope_of}
use Rattle.sb_macro.specs.Tokens.{toks}
use Rattle.sb_macro.proofs.expansion.Expander.given.Goals as goal

pub returns : goal.returns
returns c =
    let reached = c.in_ok-reached.reached in
    let out = toks reached.tokens.items in
    text_ends out (subst (λ l. Ends (scope_of c.args.self.now) l out reached.end) c.in_ok-text.ensures c.in_ok-reached.ensures.reached)
    (c.in_ok-given.ensures ∙ ap (λ l. map (λ t. t.piece) (toks l)) c.as_slice.ensures.value)
