use Rattle.std.proofs.Common.{◌≡◌, ap, sym, ◌∙◌, refl}
use Rattle.std.proofs.lemmas.Result.{err_from_is_err_and}
use Rattle.sb_base.specs.Found.{seen}
use Rattle.sb_prep.specs.Standing.{Standing, moved_to}
use Rattle.sb_prep.specs.Unit.{Progress}
use Rattle.sb_prep.proofs.Held.{kept_with}
use Rattle.sb_prep.proofs.Inclusions.{IsNumbered, passes, opens, is_barred, unnamed}
use Rattle.sb_prep.proofs.including.include.Goals as goal
use Rattle.sb_prep.proofs.including.include.Goals.{After-is_once}

given : (g : _) (c : After-is_once g) → IsNumbered c.args.state.now.at c.args.behind.now c.in_ok-sought.sought c.in_ok-source.source c.in_ok-file.file c.number.new.self.at
given g c = record {
  header = c.in_ok-sought.ensures.sought;
  source_is = c.in_ok-source.ensures.source;
  numbered = rw c.deref.ensures.value at c.in_ok-file.ensures.number;
  now_is = rw c.deref.ensures.value at (ap (λ s. s.at) c.in_ok-file.ensures.moved);
}

-- a standing that moved twice moved once
both_moved : (a b c : Standing) (p q : Progress) → b ≡ moved_to a p → c ≡ moved_to b q → c ≡ moved_to a c.at
both_moved a b c p q first second = rw (second, first) refl

pub returns-clause-moved : goal.returns-clause-moved
returns-clause-moved g c = both_moved c.args.state.now c.number.new.self c.included_file.new.state _ _ c.in_ok-file.ensures.moved c.included_file.ensures.moved

pub returns-in_err-inner-clause-moved : goal.returns-in_err-inner-clause-moved
returns-in_err-inner-clause-moved g c = both_moved c.args.state.now c.number.new.self c.included_file.new.state _ _ c.in_ok-file.ensures.moved c.included_file.ensures.moved

pub returns-clause-kept : goal.returns-clause-kept
returns-clause-kept g c = rw (ap (λ s. s.at.files) c.included_file.ensures.moved, ap (λ s. s.at.files) c.in_ok-file.ensures.moved) (kept_with c.args.state.now.at.files c.deref.result.now)

pub returns-in_err-inner-clause-kept : goal.returns-in_err-inner-clause-kept
returns-in_err-inner-clause-kept g c = rw (ap (λ s. s.at.files) c.included_file.ensures.moved, ap (λ s. s.at.files) c.in_ok-file.ensures.moved) (kept_with c.args.state.now.at.files c.deref.result.now)

pub returns-in_err-found-clause-kept : goal.returns-in_err-found-clause-kept
returns-in_err-found-clause-kept g c = rw (ap (λ s. s.at.files) c.in_ok-file.ensures.moved) (kept_with c.args.state.now.at.files c.deref.result.now)

pub returns-in_err-sought-clause-included : goal.returns-in_err-sought-clause-included
returns-in_err-sought-clause-included g c =
    let p = err_from_is_err_and c.from_residual.result c.from_residual.ensures.1 in
    rw (p.1, p.2) (unnamed (g.L.Library.held c.args.lib.now) c.args.depth c.args.behind.now c.args.state.now _ c.requires.held c.in_err-sought.ensures.sought)

pub returns-then-is_once-clause-included : goal.returns-then-is_once-clause-included
returns-then-is_once-clause-included g c =
    passes (g.L.Library.held c.args.lib.now) c.args.state.now.limit c.args.depth c.args.state.now.at c.args.behind.now c.in_ok-sought.sought c.in_ok-source.source c.in_ok-file.file c.number.new.self.at
    (given g (goal.at.returns-then-is_once-clause-included g c).After-is_once) (sym c.is_once.ensures.once ∙ c.if-is_once.true)

pub returns-then-is_once-clause-kept : goal.returns-then-is_once-clause-kept
returns-then-is_once-clause-kept g c = rw (ap (λ s. s.at.files) c.in_ok-file.ensures.moved) (kept_with c.args.state.now.at.files c.deref.result.now)

pub returns-in_err-inner-clause-included : goal.returns-in_err-inner-clause-included
returns-in_err-inner-clause-included g c =
    let p = err_from_is_err_and c.from_residual-in_err-inner.result c.from_residual-in_err-inner.ensures.1 in
    rw (p.1, p.2) (is_barred (g.L.Library.held c.args.lib.now) c.args.depth c.args.behind.now c.in_ok-sought.sought c.in_ok-source.source c.in_ok-file.file (seen c.in_ok-found.found)
    c.args.state.now c.number.new.self c.included_file.new.state (given g (goal.at.returns-in_err-inner-clause-included g c).After-is_once) (ap (λ s. s.limit) c.in_ok-file.ensures.moved)
    (sym c.is_once.ensures.once ∙ c.if-is_once.false) c.in_ok-found.ensures.found c.included_file.ensures.moved c.requires.held _ c.in_err-inner.ensures.opened)

pub returns-clause-included : goal.returns-clause-included
returns-clause-included g c =
    opens (g.L.Library.held c.args.lib.now) c.args.depth c.args.behind.now c.in_ok-sought.sought c.in_ok-source.source c.in_ok-file.file (seen c.in_ok-found.found)
    c.args.state.now c.number.new.self c.included_file.new.state (given g (goal.at.returns-clause-included g c).After-is_once) (ap (λ s. s.limit) c.in_ok-file.ensures.moved)
    (sym c.is_once.ensures.once ∙ c.if-is_once.false) c.in_ok-found.ensures.found c.included_file.ensures.moved c.in_ok-inner.inner c.in_ok-inner.ensures.opened
