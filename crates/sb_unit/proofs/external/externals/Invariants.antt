use Rattle.std.proofs.Common.{◌≡◌, ◌-◌, true, length}
use Rattle.sb_base.specs.declared.tokens.Token.{Token}
use Rattle.sb_parse.specs.Parser.{loop}
use Rattle.sb_declare.specs.Openings.{plain_declared}
use Rattle.sb_unit.specs.Readers as spec
use Rattle.sb_unit.proofs.external.externals.Given as goal

abbrev pub invariant-loop-turn : goal.invariant-loop-turn
invariant-loop-turn l =
    let goes = λ (t : Token). true in
    let turn = spec.external l.fn.names.texts l.fn.below in
    loop goes turn (length l.fn.start.rest.now) (plain_declared l.fn.start.value) l.fn.start.rest.now
    ≡ loop goes turn (l.most - l._turn) (plain_declared l.found.value) l.found.rest.now
