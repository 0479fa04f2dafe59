use Rattle.std.proofs.Common.{arith}
use Rattle.std.proofs.lemmas.List.{length_push}
use Rattle.sb_cond.proofs.Judging.{one_more_token}
use Rattle.sb_cond.proofs.line.tokens_of.Goals as goal

pub loop-index-preserved : goal.loop-index-preserved
loop-index-preserved c = record {
  count = rw c.in_ok-push.ensures.items (omega (arith, length_push c.loop-index.tokens.items (record { sign = c.sign_in.result; at = c.loop-index.index })));
  each = one_more_token c.args.names.now.texts c.args.line.now c.loop-index.tokens.items c.push.new.self.items c.loop-index.index _ c.sign_in.result c.sign_in.ensures.sign c.loop-index-test.true c.loop-index.invariant.count c.in_ok-push.ensures.items c.loop-index.invariant.each;
}
