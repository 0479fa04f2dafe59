use Rattle.std.proofs.Common.{◌≡◌, ◌≤◌, ◌<◌, sym, ◌∙◌, arith}
use Rattle.sb_scope.specs.Names.{is_among}
use Rattle.sb_scope.specs.Parts.{names_between, middle}
use Rattle.sb_scope.proofs.Ranges.{has_low, has_high, has_lowest}
use Rattle.sb_scope.proofs.typedefs.Part.+has.Goals as goal

pub returns-in-Lowest : goal.returns-in-Lowest
returns-in-Lowest t c =
    rw (c.in-Lowest.is, c.from-number.ensures) (sym (has_lowest c.args.name c.args.from c.args.to c.requires.low c.requires.high))

pub returns-then-number-middle : goal.returns-then-number-middle
returns-then-number-middle t c =
    let low = c.in-Halves.low.value in
    let high = c.in-Halves.high.value in
    let lower : c.args.name.0 < middle c.args.from c.args.to = omega (arith, c.if-number-middle.true, c.half-middle.ensures, c.from-number.ensures) in
    let found : c.has.result ≡ is_among c.args.name (names_between c.args.from (middle c.args.from c.args.to) low) = grind (arith, c.has.ensures, c.deref.ensures, c.half-middle.ensures) in
    rw c.in-Halves.is (found ∙ sym (has_low c.args.name c.args.from c.args.to low high lower))

pub returns-else-number-middle : goal.returns-else-number-middle
returns-else-number-middle t c =
    let low = c.in-Halves.low.value in
    let high = c.in-Halves.high.value in
    let upper : middle c.args.from c.args.to ≤ c.args.name.0 = omega (arith, c.if-number-middle.false, c.half-middle.ensures, c.from-number.ensures) in
    let found : c.has-else-number-middle.result ≡ is_among c.args.name (names_between (middle c.args.from c.args.to) c.args.to high) = grind (arith, c.has-else-number-middle.ensures, c.deref-else-number-middle.ensures, c.half-middle.ensures) in
    rw c.in-Halves.is (found ∙ sym (has_high c.args.name c.args.from c.args.to low high upper))
