-- the parts of a file: text, and the lines of directives
use Rattle.std.proofs.Common.{◌≡◌, ℕ, ◌+◌, ◌-◌, ◌<◌, ◌≤◌, ◌⊎◌, inl, inr, true, false, List, [], length, take, get_or, Option, Some, None, slice_get, refl, sym, ◌∙◌, ap, subst, arith}
use Rattle.std.proofs.lemmas.List.{append-nil}
use Rattle.std.proofs.lemmas.List.Elements.{All-get_or}
use Rattle.std.proofs.lemmas.Option.{slice_get-get_or}
use Rattle.sb_base.specs.declared.refusals.Place.{Place}
use Rattle.sb_base.specs.declared.refusals.Stop.{Stop}
use Rattle.sb_base.specs.declared.refusals.Stop.TheVariants as stop
use Rattle.sb_lex.specs.declared.piece.PpToken.{PpToken}
use Rattle.sb_directive.specs.declared.directive.Branch.{Branch}
use Rattle.sb_directive.specs.Branches.{is_read}
use Rattle.sb_directive.specs.Lines.{begins_directive}
use Rattle.sb_directive.specs.Rules.{HasStopped}
use Rattle.sb_directive.specs.Stopping.{IsStop, IsAmong}
use Rattle.sb_directive.specs.Limits.{most_tokens}
use Rattle.sb_prep.specs.declared.fault.UnitFault.{UnitFault}
use Rattle.sb_prep.specs.declared.fault.UnitFault.TheVariants as fault
use Rattle.sb_prep.specs.declared.including.Included.{Included}
use Rattle.sb_prep.specs.Reading.{IsDirective, IsNoDirective, IsGoing, IsLate, IsReadPart, IsPartRefused}
use Rattle.sb_prep.specs.Standing.{Standing, moved_to, Gives}
use Rattle.sb_prep.specs.Stopping.{IsFault, AreIn, fault_of_stop}
use Rattle.sb_prep.specs.Unit.{with_read, most_read, IsFront, Part, GoesOn}
use Rattle.sb_prep.proofs.Held.{IsPieceIn, among_in, take_in}

module _ (held : Option (List ℕ → Option (List ℕ))) (depth file : ℕ) (bs : List Branch) (old : Standing) (ps : List PpToken) (size : ℕ) (front : IsFront old.at ps size) where
  -- ---- text

  module _ (text : begins_directive old.at.texts ps ≡ false) (room : old.at.read + size ≤ most_read) where
    pub skips : (new : Standing) → is_read bs ≡ false → new ≡ moved_to old (with_read old.at size) → IsGoing held depth file bs old ps size bs new
    skips new unread moved = record {
      given = [];
      out_is = ap (λ s. s.out) moved ∙ sym (append-nil old.out);
      part = record { front = front; follows = subst (λ p. Part held old.limit depth file bs old.at ps size (GoesOn [] bs p)) (sym (ap (λ s. s.at) moved)) (Part.skipped text unread room) };
    }

    pub gives : (middle new : Standing) → is_read bs ≡ true → Gives old (take size ps) middle → new ≡ moved_to middle (with_read middle.at size) → IsGoing held depth file bs old ps size bs new
    gives middle new read gained moved = record {
      given = gained.out;
      out_is = ap (λ s. s.out) moved ∙ ap (λ s. s.out) gained.new_is;
      part = record {
        front = front;
        follows = subst (λ p. Part held old.limit depth file bs old.at ps size (GoesOn gained.out bs p)) (sym (ap (λ s. s.at) moved ∙ ap (λ s. with_read s.at size) gained.new_is))
            (Part.text gained.out text read room gained.expansion);
      };
    }

    pub stops : (halt : Stop) (new : Standing) → is_read bs ≡ true → AreIn (length old.at.files) ps → new ≡ old
        → IsStop (λ number place. HasStopped old.at.texts old.at.table (most_tokens - old.at.given) (take size ps) number place × IsAmong (take size ps) place) halt
        → IsStop (IsLate held depth file bs old ps size new) halt
    stops stop.Memory new read in_files same told = tt
    stops (stop.Refused r) new read in_files same told = (
      record {
        now = old.at;
        files_are = ap (λ s. s.at.files) (sym same);
        within = subst (λ s. r.place.file < length s.at.files) (sym same) (among_in (length old.at.files) (take size ps) r.place (take_in (length old.at.files) size ps in_files) told.0.1);
        part = record { front = front; follows = Part.text_stopped r.number r.place text read room told.0.0 };
      },
      told.1,
    )

  -- ---- one piece too many

  module _ (over : most_read < old.at.read + size) (unread : ℕ) (unread_is : unread ≡ most_read - old.at.read) (some : unread < length ps) (in_files : AreIn (length old.at.files) ps) (d : PpToken) where
    at : slice_get ps (most_read - old.at.read) ≡ Some (get_or ps unread d)
    at = rw (sym unread_is) (slice_get-get_or ps unread d some)

    at_in : (get_or ps unread d).place.file < length old.at.files
    at_in = All-get_or (IsPieceIn (length old.at.files)) ps unread d some in_files.all

    pub too_many : begins_directive old.at.texts ps ≡ true ⊎ (is_read bs ≡ false) → IsLate held depth file bs old ps size old 16 (get_or ps unread d).place
    too_many plain = record { now = old.at; files_are = refl; within = at_in; part = record { front = front; follows = Part.too_many (get_or ps unread d) over plain at } }

    pub too_many_in_text : (new : Standing) → begins_directive old.at.texts ps ≡ false → is_read bs ≡ true → Gives old (take unread ps) new → IsLate held depth file bs old ps size new 16 (get_or ps unread d).place
    too_many_in_text new text read gained = record {
      now = old.at;
      files_are = sym (ap (λ s. s.at.files) gained.new_is);
      within = rw (ap (λ s. s.at.files) gained.new_is) at_in;
      part = record { front = front; follows = Part.too_many_in_text (get_or ps unread d) gained.out over text read at (rw unread_is at gained.expansion) };
    }

    pub too_many_behind_stop : (halt : Stop) (new : Standing) → begins_directive old.at.texts ps ≡ false → is_read bs ≡ true → new ≡ old
        → IsStop (λ number place. HasStopped old.at.texts old.at.table (most_tokens - old.at.given) (take unread ps) number place × IsAmong (take unread ps) place) halt
        → IsStop (IsLate held depth file bs old ps size new) halt
    too_many_behind_stop stop.Memory new text read same told = tt
    too_many_behind_stop (stop.Refused r) new text read same told = (
      record {
        now = old.at;
        files_are = ap (λ s. s.at.files) (sym same);
        within = subst (λ s. r.place.file < length s.at.files) (sym same) (among_in (length old.at.files) (take unread ps) r.place (take_in (length old.at.files) unread ps in_files) told.0.1);
        part = record { front = front; follows = Part.too_many_behind_stop r.number r.place over text read (rw unread_is at told.0.0) };
      },
      told.1,
    )

  -- ---- the lines of directives

  module _ (begins : begins_directive old.at.texts ps ≡ true) (room : old.at.read + size ≤ most_read) where
    pub directive_read : (after : List Branch) (new : Standing) (inner : Option Included) → new ≡ moved_to (moved_to old (with_read old.at size)) new.at
        → IsDirective held depth file (take size ps) bs (moved_to old (with_read old.at size)) after new inner → IsReadPart held depth file bs old ps after new size inner
    directive_read after new None moved (inl carries) = record {
      given = [];
      out_is = ap (λ s. s.out) moved ∙ sym (append-nil old.out);
      part = record { front = front; follows = Part.carried after new.at begins room carries };
    }
    directive_read after new None moved (inr passed) = record {
      given = [];
      out_is = ap (λ s. s.out) moved ∙ sym (append-nil old.out);
      part = record { front = front; follows = rw passed.1 (Part.passed new.at begins room passed.0 passed.2) };
    }
    directive_read after new (Some inner) moved entered = record {
      out_is = ap (λ s. s.out) moved;
      same = entered.1;
      part = record { front = front; follows = Part.opened inner.file inner.pieces.items new.at begins room entered.0 entered.2.0 };
      opened = entered.2.1;
    }

    refused_at : (number : ℕ) (place : Place) (new : Standing) → IsNoDirective held depth (take size ps) bs (moved_to old (with_read old.at size)) new number place → IsLate held depth file bs old ps size new number place
    refused_at _ _ new (IsNoDirective.stuck number place halted files) = record {
      now = old.at;
      files_are = sym files;
      within = rw files halted.1;
      part = record { front = front; follows = Part.stuck number place begins room halted.0 };
    }
    refused_at _ _ new (IsNoDirective.barred number place asks barred) = record {
      now = new.at;
      files_are = refl;
      within = barred.1;
      part = record { front = front; follows = Part.barred number place new.at begins room asks barred.0 };
    }

    pub directive_refused : (end : UnitFault) (new : Standing) → IsFault (IsNoDirective held depth (take size ps) bs (moved_to old (with_read old.at size)) new) end → IsFault (IsPartRefused held depth file bs old ps new) end
    directive_refused fault.Read new told = tt
    directive_refused fault.Memory new told = tt
    directive_refused (fault.Refused r) new told = (record { size = size; late = refused_at r.number r.place new told.0 }, told.1)

  pub late_part : (halt : Stop) (new : Standing) → IsStop (IsLate held depth file bs old ps size new) halt → IsFault (IsPartRefused held depth file bs old ps new) (fault_of_stop halt)
  late_part stop.Memory new told = tt
  late_part (stop.Refused r) new told = (record { size = size; late = told.0 }, told.1)

-- ---- how many pieces may still be read

pub beyond : (read size unread : ℕ) → unread ≡ most_read - read → read ≤ most_read → unread < size → most_read < read + size
beyond read size unread is within over = omega arith

pub fits : (read size unread : ℕ) → unread ≡ most_read - read → read ≤ most_read → size ≤ unread → read + size ≤ most_read
fits read size unread is within room = omega arith
