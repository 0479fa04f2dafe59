use Rattle.std.proofs.Common.{refl, ◌∙◌, add-one}
use Rattle.std.proofs.lemmas.Result.{err_from_is_err_and}
use Rattle.sb_prep.proofs.Passages.{begins, goes_on, leaves_inner, fault_of_part, fault_inside, none_left, is_read_whole, is_unclosed}
use Rattle.sb_prep.proofs.units.+read_file.Goals as goal
use Rattle.sb_prep.proofs.units.+read_file.Goals.{in-Some+in_ok-read_file-in-Some, in-None}

pub parts-init : goal.parts-init
parts-init g t c = record {
  so_far = rw c.new-branches.ensures.empty (begins (g.L.Library.held c.args.lib.now) c.args.here.depth c.args.here.file c.args.pieces.now c.args.state.now c.requires.held);
  held_is = refl;
  faults_are = refl;
}

pub returns-in_err-size-clause-read : goal.returns-in_err-size-clause-read
returns-in_err-size-clause-read g t c =
    let p = err_from_is_err_and c.from_residual.result c.from_residual.ensures.1 in
    rw (p.1, p.2) (fault_of_part (g.L.Library.held c.args.lib.now) c.args.here.depth c.args.here.file c.args.pieces.now c.args.state.now c.parts.branches c.parts.state c.parts.rest.now c.parts.invariant.so_far
    _ c.read_part.new.state (rw c.parts.invariant.held_is at c.in_err-size.ensures.part))

pub returns-in_err-read_file-in-Some-clause-read : goal.returns-in_err-read_file-in-Some-clause-read
returns-in_err-read_file-in-Some-clause-read g t c =
    let p = err_from_is_err_and c.from_residual-in_err-read_file-in-Some.result c.from_residual-in_err-read_file-in-Some.ensures.1 in
    let held_is = c.in_ok-size.ensures.held ∙ c.parts.invariant.held_is in
    rw (p.1, p.2) (fault_inside (g.L.Library.held c.args.lib.now) c.args.here.depth c.args.here.file c.args.pieces.now c.args.state.now c.parts.branches c.parts.state c.parts.rest.now c.parts.invariant.so_far
    c.in_ok-size.field-0.size c.read_part.new.branches c.read_part.new.state c.in-Some.inner c.in_ok-size.ensures.limit c.in_ok-size.ensures.kept
    (rw (c.parts.invariant.held_is, c.in-Some.is) at c.in_ok-size.ensures.part) _ c.read_file.new.state
    (rw (held_is, c.deref.ensures.value, add-one) at c.in_err-read_file-in-Some.ensures.read))

pub parts-preserved : goal.parts-preserved
parts-preserved g t c =
    elim c.match-inner.branch [
      | in-Some+in_ok-read_file-in-Some w ↦
          let held_is = c.in_ok-size.ensures.held ∙ c.parts.invariant.held_is in
          rw (w.state-is, w.lib-is, c.split_at.ensures.back) (record {
            so_far = leaves_inner (g.L.Library.held c.args.lib.now) c.args.here.depth c.args.here.file c.args.pieces.now c.args.state.now c.parts.branches c.parts.state c.parts.rest.now c.parts.invariant.so_far
                c.in_ok-size.field-0.size c.read_part.new.branches c.read_part.new.state w.in-Some.inner c.in_ok-size.ensures.limit c.in_ok-size.ensures.kept
                (rw (c.parts.invariant.held_is, w.in-Some.is) at c.in_ok-size.ensures.part) w.read_file.new.state w.in_ok-read_file-in-Some.ensures.limit w.in_ok-read_file-in-Some.ensures.kept
                (rw (held_is, w.deref.ensures.value, add-one) at w.in_ok-read_file-in-Some.ensures.read);
            held_is = w.in_ok-read_file-in-Some.ensures.held ∙ held_is;
            faults_are = w.in_ok-read_file-in-Some.ensures.cause ∙ c.in_ok-size.ensures.cause ∙ c.parts.invariant.faults_are;
          })
      | in-None w ↦
          rw (w.state-is, w.lib-is, c.split_at.ensures.back) (record {
            so_far = goes_on (g.L.Library.held c.args.lib.now) c.args.here.depth c.args.here.file c.args.pieces.now c.args.state.now c.parts.branches c.parts.state c.parts.rest.now c.parts.invariant.so_far
                c.in_ok-size.field-0.size c.read_part.new.branches c.read_part.new.state c.in_ok-size.ensures.limit c.in_ok-size.ensures.kept (rw (c.parts.invariant.held_is, w.in-None.is) at c.in_ok-size.ensures.part);
            held_is = c.in_ok-size.ensures.held ∙ c.parts.invariant.held_is;
            faults_are = c.in_ok-size.ensures.cause ∙ c.parts.invariant.faults_are;
          })
    ]

pub returns-in_err-ensure_closed-clause-read : goal.returns-in_err-ensure_closed-clause-read
returns-in_err-ensure_closed-clause-read g t c =
    let p = err_from_is_err_and c.from_residual-in_err-ensure_closed.result c.from_residual-in_err-ensure_closed.ensures.1 in
    rw (p.1, p.2) (is_unclosed (g.L.Library.held c.args.lib.now) c.args.here.depth c.args.here.file c.args.pieces.now c.args.state.now c.parts.branches c.parts.state c.parts.rest.now c.parts.invariant.so_far
    (none_left c.parts.rest.now c.is_empty.result c.is_empty.ensures c.parts-test.false) _ c.requires.numbered c.requires.held c.in_err-ensure_closed.ensures.closed)

pub returns-clause-read : goal.returns-clause-read
returns-clause-read g t c =
    is_read_whole (g.L.Library.held c.args.lib.now) c.args.here.depth c.args.here.file c.args.pieces.now c.args.state.now c.parts.branches c.parts.state c.parts.rest.now c.parts.invariant.so_far
    (none_left c.parts.rest.now c.is_empty.result c.is_empty.ensures c.parts-test.false) c.in_ok-ensure_closed.ensures.closed
