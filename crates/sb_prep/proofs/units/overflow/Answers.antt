use Rattle.std.proofs.Common.{false, inl, inr, refl, sym, ◌∙◌}
use Rattle.sb_base.specs.declared.tokens.PpKind.TheVariants as kind
use Rattle.sb_prep.proofs.Parts.{too_many, too_many_in_text, too_many_behind_stop}
use Rattle.sb_prep.proofs.units.overflow.Goals as goal
use Rattle.sb_prep.proofs.units.overflow.Goals.{then-begins_directive-via-then-begins_directive, then-begins_directive-via-else-begins_directive+then-not-is_read}

pub returns-then-begins_directive-clause-refused : goal.returns-then-begins_directive-clause-refused
returns-then-begins_directive-clause-refused c = λ held depth file size front over.
    rw c.stop_at-last.ensures (
      too_many held depth file c.args.branches.now c.args.state.now c.args.pieces.now size front over c.args.unread c.requires.unread c.requires.within c.requires.held _
          (elim c.then-begins_directive.branch [
            | then-begins_directive-via-then-begins_directive w ↦ inl (sym c.begins_directive.ensures.begins ∙ w.if-begins_directive.true)
            | then-begins_directive-via-else-begins_directive+then-not-is_read w ↦ inr (sym w.is_read.ensures.read ∙ w.if-not-is_read.true)
          ]),
      refl,
    )

pub returns-in-Ok-clause-refused : goal.returns-in-Ok-clause-refused
returns-in-Ok-clause-refused c = λ held depth file size front over.
    rw c.stop_at-last.ensures (
      too_many_in_text held depth file c.args.branches.now c.args.state.now c.args.pieces.now size front over c.args.unread c.requires.unread c.requires.within c.requires.held _
          c.give.new.self (sym c.begins_directive.ensures.begins ∙ c.if-begins_directive.false) (sym c.is_read.ensures.read ∙ c.if-not-is_read.false) c.in-Ok.ensures.given,
      refl,
    )

pub returns-in-Err-clause-refused : goal.returns-in-Err-clause-refused
returns-in-Err-clause-refused c = λ held depth file size front over.
    too_many_behind_stop held depth file c.args.branches.now c.args.state.now c.args.pieces.now size front over c.args.unread c.requires.unread c.requires.within c.requires.held
    (record { kind = kind.Word; text = record { 0 = 0 }; place = record { file = 0; line = 0; col = 0 }; first = false; spaced = false }) c.in-Err.stop c.give.new.self
    (sym c.begins_directive.ensures.begins ∙ c.if-begins_directive.false) (sym c.is_read.ensures.read ∙ c.if-not-is_read.false) c.in-Err.ensures.err c.in-Err.ensures.given
