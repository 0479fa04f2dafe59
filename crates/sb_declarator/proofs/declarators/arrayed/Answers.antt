use Rattle.std.proofs.Common.{◌≡◌, ◌∙◌, ◌&&◌, length, refl, ap, arith}
use Rattle.std.proofs.lemmas.Result.{err_from_is_err_and}
use Rattle.sb_operand.specs.Meaning.{plain_pieces}
use Rattle.sb_lexicon.specs.Meaning.{meant}
use Rattle.sb_operand.proofs.Lists.{count_of_pieces}
use Rattle.sb_lexicon.proofs.Loops.{fault_first}
use Rattle.sb_derivation.specs.Declarators.{plain_declarator}
use Rattle.sb_specifier.specs.Specified.{is_bare}
use Rattle.sb_declarator.proofs.steps.Declarators.{arrayed_at}
use Rattle.sb_declarator.proofs.declarators.arrayed.Goals as goal

pub returns-in_err-array-clause-read : goal.returns-in_err-array-clause-read
returns-in_err-array-clause-read c =
    let counted : length c.args.so_far.value.pieces.items ≡ c.len-count.result = omega (arith, c.len-count.ensures) in
    let p = err_from_is_err_and c.from_residual.result c.from_residual.ensures.1 in
    rw (
      p.1,
      p.2,
      arrayed_at (meant c.args.lexicon.now) c.args.functions c.args.may_lack c.args.below c.args.room c.len-count.result (plain_declarator c.args.lexicon.now.types.now c.args.so_far.value) c.is_outermost-outermost.result c.args.so_far.rest.now
          (count_of_pieces c.args.so_far.value.pieces.items ∙ counted) (c.is_outermost-outermost.ensures ∙ ap (λ l. c.args.may_lack && is_bare (plain_pieces l)) c.as_slice.ensures.value) (omega (arith, c.len.ensures, c.len-count.ensures, c.if-len-room.false)),
    ) (fault_first _ _ _ c.in_err-array.ensures.read)

pub returns-clause-read : goal.returns-clause-read
returns-clause-read c =
    let counted : length c.args.so_far.value.pieces.items ≡ c.len-count.result = omega (arith, c.len-count.ensures) in (
      rw (
        arrayed_at (meant c.args.lexicon.now) c.args.functions c.args.may_lack c.args.below c.args.room c.len-count.result (plain_declarator c.args.lexicon.now.types.now c.args.so_far.value) c.is_outermost-outermost.result c.args.so_far.rest.now
            (count_of_pieces c.args.so_far.value.pieces.items ∙ counted) (c.is_outermost-outermost.ensures ∙ ap (λ l. c.args.may_lack && is_bare (plain_pieces l)) c.as_slice.ensures.value) (omega (arith, c.len.ensures, c.len-count.ensures, c.if-len-room.false)),
        c.in_ok-array.ensures.read.0,
        c.in_ok-with.ensures.list,
        c.in_ok-with.ensures.name,
        c.in_ok-with.ensures.inner,
      ) refl,
      c.in_ok-with.ensures.known,
    )
