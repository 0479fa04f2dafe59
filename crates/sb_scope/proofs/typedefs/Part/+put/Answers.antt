use Rattle.std.proofs.Common.{◌≡◌, ◌≤◌, ◌<◌, ◌++◌, sym, ap, ◌∙◌, arith}
use Rattle.sb_scope.specs.Parts.{names_between, middle, put}
use Rattle.sb_scope.proofs.Ranges.{puts_low, puts_high}
use Rattle.sb_scope.proofs.typedefs.Part.+put.Goals as goal

pub returns-in_ok-new : goal.returns-in_ok-new
returns-in_ok-new t c =
    let from = c.args.from in
    let to = c.args.to in
    let halves = c.in_ok-low in
    let lower : c.args.name.0 < middle from to = omega (arith, c.if-from-middle.true, c.half-middle.ensures, c.from.ensures) in
    let whole : names_between from (middle from to) halves.low.value ++ names_between (middle from to) to halves.high.value ≡ names_between from to c.args.self.now = halves.ensures in
    let low : names_between from (middle from to) c.in_ok-new.field-0.value ≡ put c.args.present c.args.name (names_between from (middle from to) halves.low.value) = grind (arith, c.in_ok-new.ensures, c.in_ok-low-2.ensures, c.deref.ensures, c.half-middle.ensures) in
    ap (λ ns. ns ++ names_between (middle from to) to halves.high.value) low
    ∙ sym (puts_low c.args.present c.args.name from to halves.low.value halves.high.value lower)
    ∙ ap (put c.args.present c.args.name) whole

pub returns-in_ok-new-2 : goal.returns-in_ok-new-2
returns-in_ok-new-2 t c =
    let from = c.args.from in
    let to = c.args.to in
    let halves = c.in_ok-low in
    let upper : middle from to ≤ c.args.name.0 = omega (arith, c.if-from-middle.false, c.half-middle.ensures, c.from.ensures) in
    let whole : names_between from (middle from to) halves.low.value ++ names_between (middle from to) to halves.high.value ≡ names_between from to c.args.self.now = halves.ensures in
    let high : names_between (middle from to) to c.in_ok-new-2.field-0.value ≡ put c.args.present c.args.name (names_between (middle from to) to halves.high.value) = grind (arith, c.in_ok-new-2.ensures, c.in_ok-high.ensures, c.deref-else-from-middle.ensures, c.half-middle.ensures) in
    ap (λ ns. names_between from (middle from to) halves.low.value ++ ns) high
    ∙ sym (puts_high c.args.present c.args.name from to halves.low.value halves.high.value upper)
    ∙ ap (put c.args.present c.args.name) whole
