use Rattle.std.proofs.Common.{sym, ap, drop, slice_get, ◌∙◌, ◌++◌, ◌∷◌, []}
use Rattle.sb_lex.proofs.Settling.{drop_more, taken, taken_all, dropped_all}
use Rattle.sb_lex.proofs.cursor.Cursor.take.Goals as goal
use Rattle.sb_lex.proofs.cursor.Cursor.take.Goals.{in-Some+in_ok-push, in_default}

pub taken-preserved : goal.taken-preserved
taken-preserved c =
    let all = c.args.self.now in
    let k = c.taken.counter in
    elim c.match-peek.branch [
      | in-Some+in_ok-push w ↦
          let here = w.in-Some.ensures ∙ ap (λ l. slice_get l 0) c.taken.invariant.place in
          record {
            text = ap (λ v. v.items) w.text-is ∙ w.in_ok-push.ensures.items ∙ ap (λ t. t ++ w.in-Some.spot.byte ∷ []) c.taken.invariant.text ∙ sym (taken all k w.in-Some.spot here);
            place = w.self-is ∙ w.bump.ensures ∙ ap (drop 1) c.taken.invariant.place ∙ sym (drop_more all k);
          }
      | in_default w ↦
          let none = sym w.in_default.is ∙ c.peek.ensures ∙ ap (λ l. slice_get l 0) c.taken.invariant.place in
          record {
            text = ap (λ v. v.items) w.text-is ∙ c.taken.invariant.text ∙ sym (taken_all all k none);
            place = w.self-is ∙ c.taken.invariant.place ∙ sym (dropped_all all k none);
          }
    ]
