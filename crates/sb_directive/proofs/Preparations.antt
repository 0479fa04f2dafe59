-- The piece that the pieces of a condition begin with once `defined` is replaced.
use Rattle.std.proofs.Common.{◌≡◌, ◌++◌, ◌∷◌, ◌<◌, [], ℕ, List, Bool, Some, Err, true, false, arith, ap, sym, subst, refl, length, append-nil, append_assoc}
use Rattle.sb_base.specs.declared.interning.Name.{Name}
use Rattle.sb_base.specs.declared.refusals.Place.{Place}
use Rattle.sb_base.specs.declared.refusals.Refusal.{Refusal}
use Rattle.sb_base.specs.declared.refusals.Stop.{Stop}
use Rattle.sb_base.specs.declared.refusals.Stop.TheVariants as stop
use Rattle.sb_lex.specs.declared.piece.PpToken.{PpToken}
use Rattle.sb_lex.specs.Lexing.{HasRoom}
use Rattle.sb_directive.specs.Defined.{is_defined, HasName, HasNoName, digit_of, Prepared}
use Rattle.sb_directive.specs.Defined.HasName.{bare, wrapped}
use Rattle.sb_directive.specs.Ending.{Ending, Ended, Refused}
use Rattle.sb_directive.specs.Preparing.{Begins, IsNumbered, IsDigit, IsNotBegun, IsPreparation}
use Rattle.sb_directive.specs.Rules.{Table, is_macro}

shorter : (texts : List (List ℕ)) {ts rest : List PpToken} {name : Name} → HasName texts ts name rest → length rest < length ts
shorter texts (bare name rest word) = omega arith
shorter texts (wrapped open1 name close rest opens word end) = omega arith

module _ (limit : ℕ) (table : Table) (texts : List (List ℕ)) where
  pub Begins-other : (t : PpToken) (behind : List PpToken) → is_defined texts t ≡ false → Begins limit table texts (t ∷ behind) texts t behind
  Begins-other t behind plain = record { on = λ out last end more. Prepared.other texts last t behind out end plain more; shorter = omega arith }

  pub Begins-number : (t piece : PpToken) (behind rest : List PpToken) (name : Name) (later : List (List ℕ)) (is_one : Bool) → is_defined texts t ≡ true → HasName texts behind name rest
      → is_one ≡ is_macro table name → IsNumbered limit texts t (digit_of is_one) later piece → Begins limit table texts (t ∷ behind) later piece rest
  Begins-number t piece behind rest name later is_one is has told n =
      rw (n.later_is, n.piece_is) record {
        on = λ out last end more. Prepared.replaced texts last t behind rest out end name n.number (digit_of is_one) is has (ap digit_of told) n.room (rw n.later_is at n.numbered) more;
        shorter = omega (arith, shorter texts has);
      }

  pub refused_name : (t : PpToken) (behind : List PpToken) (place : Place) → is_defined texts t ≡ true → HasNoName texts t.place behind place
      → IsNotBegun limit table texts (t ∷ behind) texts (stop.Refused (record { number = 26; place = place; feature = 0 }))
  refused_name t behind place is has = (Prepared.no_name texts t behind place is has, refl)

  pub refused_digit : (t : PpToken) (behind rest : List PpToken) (name : Name) (later : List (List ℕ)) (is_one : Bool) (why : Stop) → is_defined texts t ≡ true → HasName texts behind name rest
      → is_one ≡ is_macro table name → IsDigit limit texts t (digit_of is_one) later (Err why) → IsNotBegun limit table texts (t ∷ behind) later why
  refused_digit t behind rest name later is_one stop.Memory is has told bad = tt
  refused_digit t behind rest name later is_one (stop.Refused r) is has told bad =
      let lacks = λ (room : HasRoom limit texts (digit_of (is_macro table name))). bad.0 (subst (λ (b : Bool). HasRoom limit texts (digit_of b)) (sym told) room) in
      rw (bad.1, bad.2, bad.4) (Prepared.no_room texts t behind rest name is has lacks, bad.3)

-- the pieces of the rest go behind those that were made
module _ (limit : ℕ) (table : Table) (before : List (List ℕ)) (line : List PpToken) where
  pub record Goes (found : List PpToken) (texts : List (List ℕ)) (rest : List PpToken) : Type 0 where
    pub on : (out : List PpToken) (last : List (List ℕ)) (end : Ending) → Prepared limit table texts rest out last end → Prepared limit table before line (found ++ out) last end

  pub Goes-first : (texts later : List (List ℕ)) (found : List PpToken) (rest behind : List PpToken) (t : PpToken) → Goes found texts rest → Begins limit table texts rest later t behind → Goes (found ++ t ∷ []) later behind
  Goes-first texts later found rest behind t goes begins =
      record { on = λ out last end more. rw (append_assoc found (t ∷ []) out) (goes.on (t ∷ out) last end (begins.on out last end more)) }

  pub Goes-end : (texts : List (List ℕ)) (found : List PpToken) (rest : List PpToken) → Goes found texts rest → rest ≡ [] → Prepared limit table before line found texts Ended
  Goes-end texts found rest goes none =
      let last : Prepared limit table texts rest [] texts Ended = rw none (Prepared.ended texts) in
      rw append-nil at (goes.on [] texts Ended last)

  pub Goes-refused : (texts later : List (List ℕ)) (found rest : List PpToken) (r : Refusal) → Goes found texts rest → IsNotBegun limit table texts rest later (stop.Refused r)
      → IsPreparation limit table before line found later (Some r)
  Goes-refused texts later found rest r goes bad = (rw append-nil at (goes.on [] later (Refused r.number r.place) bad.0), bad.1)
