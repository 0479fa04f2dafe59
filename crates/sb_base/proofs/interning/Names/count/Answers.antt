use Rattle.std.proofs.Common.{◌<◌, ◌^◌, arith}
use Rattle.std.proofs.Math.Facts.{Fits-of_lt}
use Rattle.std.proofs.lemmas.List.{length-map}
use Rattle.sb_base.proofs.interning.Names.count.Goals as goal

pub overflow_cast-result : goal.overflow_cast-result
overflow_cast-result c =
    let within : c.len.result < 2 ^ 32 = omega (arith, length-map c.self.inside.texts.keys (λ v. v.items)) in
    Fits-of_lt within
