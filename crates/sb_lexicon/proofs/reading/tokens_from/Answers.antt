use Rattle.std.proofs.Common.{◌∙◌, drop, take, sym, ap}
use Rattle.std.proofs.lemmas.List.{length-drop}
use Rattle.std.proofs.Math.Seq.{take-length}
use Rattle.sb_lexicon.proofs.reading.tokens_from.Goals as goal

pub returns : goal.returns
returns c = ap (λ n. take n (drop c.args.next c.args.tokens.now)) (sym (length-drop c.args.next c.args.tokens.now)) ∙ take-length (drop c.args.next c.args.tokens.now)
