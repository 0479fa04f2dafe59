use Rattle.std.proofs.Common.{◌≡◌, ◌∷◌, [], length, ◌∙◌, sym, ap, arith}
use Rattle.std.proofs.lemmas.List.{map-append}
use Rattle.sb_macro.specs.declared.arguments.Turn.TheVariants.{Parts, Goes}
use Rattle.sb_macro.specs.Arguments.{turn_of}
use Rattle.sb_macro.specs.Marks.{mark_of}
use Rattle.sb_macro.specs.Tokens.{toks, lists, tok_of}
use Rattle.sb_macro.proofs.Splitting.{comma_read, token_read, deeper_by_one}
use Rattle.sb_macro.proofs.arguments.take_arguments.Goals as goal

pub loop-marked-preserved-in-Parts-1 : goal.loop-marked-preserved-in-Parts-1
loop-marked-preserved-in-Parts-1 c =
    let texts = c.args.names.now.texts in
    let before = c.loop-marked in
    let t = tok_of c.in-Some.marked in
    let is : turn_of (mark_of texts t.piece.text) before.depth ≡ Parts = rw (← c.mark_of.ensures) (sym c.in-Parts.ensures) in
    record {
      split = comma_read texts before.depth _ _ _ t _ _ (ap toks c.in-Some.ensures.items) before.invariant.split is _ _
          (ap lists c.in_ok-push_back-in-Parts.ensures.items ∙ map-append _ before.args.items (before.arg ∷ [])) (ap toks c.new-arg-in-Parts.ensures.items);
      small = omega (arith, ap length c.in-Some.ensures.items);
    }

pub loop-marked-preserved : goal.loop-marked-preserved
loop-marked-preserved c =
    let texts = c.args.names.now.texts in
    let before = c.loop-marked in
    let t = tok_of c.in-Some.marked in
    let is : turn_of (mark_of texts t.piece.text) before.depth ≡ Goes c.in-Goes.deeper = rw (← c.mark_of.ensures) (sym c.in-Goes.ensures) in
    record {
      split = token_read texts before.depth _ _ _ t _ _ c.in-Goes.deeper (ap toks c.in-Some.ensures.items) before.invariant.split is _
          (ap toks c.in_ok-push_back-in-Goes.ensures.items ∙ map-append tok_of before.arg.items (c.in-Some.marked ∷ []));
      small = omega (arith, ap length c.in-Some.ensures.items, deeper_by_one (mark_of texts t.piece.text) before.depth c.in-Goes.deeper is);
    }
