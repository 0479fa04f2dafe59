use Rattle.std.proofs.Common.{Global, ◌∷◌, [], sym, ap, ◌∙◌, drop, map, string_bytes, ◌+◌, subst, arith}
use Rattle.sb_base.proofs.Texts.{map-push}
use Rattle.sb_top.specs.Sets.{most_names, tokens_of}
use Rattle.sb_top.proofs.UnitSteps.{Goes, dropped, none_left, units_stop, units_go, goes_end}
use Rattle.sb_top.proofs.sets.units_of_words.Goals as goal

pub returns-in-Err-clause-units : goal.returns-in-Err-clause-units
returns-in-Err-clause-units g c =
    rw c.stopped-in-Err.ensures (
      map string_bytes c.in_ok-asked.asked.now,
      sym c.in_ok-asked.ensures.files,
      units_stop Global Global _ _ _ _ _ _ _ _ _ _ _ c.whole_unit.new.names.texts _ _ _ c.in-Err.fault c.loop-name.invariant.held c.loop-name.invariant.limit c.loop-name.invariant.goes
          (dropped string_bytes c.in_ok-asked.asked.now c.loop-name.name-index c.name-item.result c.loop-name-test.true c.name-item.is
          ∙ ap (λ z. z ∷ map string_bytes (drop (c.loop-name.name-index + 1) c.in_ok-asked.asked.now)) (sym c.as_bytes.ensures.value))
          c.in-Err.ensures.unit,
    )

pub loop-name-preserved : goal.loop-name-preserved
loop-name-preserved g c = record {
  goes =
      subst (λ z. Goes (g.L.Library.held c.args.lib.now) most_names [] [] (map string_bytes c.in_ok-asked.asked.now) z c.whole_unit.new.names.texts c.whole_unit.new.files
      (map string_bytes (drop (c.loop-name.name-index + 1) c.in_ok-asked.asked.now))) (sym (ap tokens_of c.in-Ok-push.ensures.items ∙ map-push (λ v. v.items) c.loop-name.units.items c.in-Ok.tokens))
      (units_go _ _ _ _ _ _ _ _ _ _ _ _ _ _ _ _ c.loop-name.invariant.held c.loop-name.invariant.limit c.loop-name.invariant.goes
      (dropped string_bytes c.in_ok-asked.asked.now c.loop-name.name-index c.name-item.result c.loop-name-test.true c.name-item.is
      ∙ ap (λ z. z ∷ map string_bytes (drop (c.loop-name.name-index + 1) c.in_ok-asked.asked.now)) (sym c.as_bytes.ensures.value))
      c.in-Ok.ensures.unit);
  held = c.whole_unit.ensures.held ∙ c.loop-name.invariant.held;
  faults = c.in-Ok.ensures.cause ∙ c.loop-name.invariant.faults;
  limit = c.whole_unit.ensures.limit ∙ c.loop-name.invariant.limit;
  few = omega (arith, c.loop-name.invariant.few, c.in-Ok.ensures.few);
}

pub returns-clause-units : goal.returns-clause-units
returns-clause-units g c = (
  map string_bytes c.in_ok-asked.asked.now,
  sym c.in_ok-asked.ensures.files,
  goes_end _ _ _ _ _ _ _ _ _ c.loop-name.invariant.goes (none_left string_bytes c.in_ok-asked.asked.now c.loop-name.name-index c.loop-name-test.false),
)
