-- the pieces of a file, read part by part
use Rattle.std.proofs.Common.{◌≡◌, ℕ, suc, Bool, true, nat_eq, ◌-◌, ◌<◌, ◌≤◌, List, [], ◌∷◌, ◌++◌, length, drop, Option, Some, None, slice_get, refl, sym, ◌∙◌, ap, arith, append_assoc}
use Rattle.std.proofs.lemmas.Bool.{eqb-true}
use Rattle.std.proofs.lemmas.List.{append-nil}
use Rattle.std.proofs.lemmas.List.Elements.{All-get_or}
use Rattle.std.proofs.lemmas.Option.{slice_get_within, get_or_from_slice_get}
use Rattle.std.specs.Option.{option_map_or}
use Rattle.sb_base.specs.declared.refusals.Place.{Place}
use Rattle.sb_base.specs.declared.refusals.Stop.{Stop}
use Rattle.sb_base.specs.declared.refusals.Stop.TheVariants as stop
use Rattle.sb_lex.specs.declared.piece.PpToken.{PpToken}
use Rattle.sb_directive.specs.declared.directive.Branch.{Branch}
use Rattle.sb_directive.specs.Ending.{Ended, Refused}
use Rattle.sb_directive.specs.Lines.{end_of}
use Rattle.sb_directive.specs.Stopping.{IsStop}
use Rattle.sb_prep.specs.declared.fault.UnitFault.{UnitFault}
use Rattle.sb_prep.specs.declared.fault.UnitFault.TheVariants as fault
use Rattle.sb_prep.specs.declared.including.Included.{Included}
use Rattle.sb_prep.specs.Reading.{IsGoing, IsEntering, IsPartRefused, IsUnclosed, IsFileRead, IsFileRefused, Reaches}
use Rattle.sb_prep.specs.Standing.{Standing}
use Rattle.sb_prep.specs.Stopping.{IsFault, IsKept, IsIn, AreIn, fault_of_stop}
use Rattle.sb_prep.specs.Unit.{file_start, HasPart, Leaves}
use Rattle.sb_prep.proofs.Held.{IsPieceIn, drop_in, wider_in, kept_same, kept_within, kept_on}

pub none_open : (bs : List Branch) → None ≡ slice_get bs 0 → bs ≡ []
none_open [] none = refl
none_open (b ∷ bs) none = absurd (cc)

pub some_open : (bs : List Branch) (first : Branch) (place last : Place) → Some first ≡ slice_get bs 0 → place ≡ last → IsUnclosed bs last 25 place
some_open [] first place last some same = absurd (cc)
some_open (b ∷ bs) first place last some same = (b, bs, refl, refl, same)

end_by : (count : ℕ) (at : Place) (ps : List PpToken) (found : Option PpToken) → at.file < count → AreIn count ps → slice_get ps (length ps - 1) ≡ found
    → IsIn count (option_map_or (λ t. t.place) found at)
end_by count at ps None here in_files is = here
end_by count at ps (Some t) here in_files is =
    rw (get_or_from_slice_get ps (length ps - 1) t t is) at (All-get_or (IsPieceIn count) ps (length ps - 1) t (slice_get_within ps (length ps - 1) t is) in_files.all)

end_of_in : (count : ℕ) (at : Place) (ps : List PpToken) → at.file < count → AreIn count ps → IsIn count (end_of at ps)
end_of_in count at ps here in_files = end_by count at ps (slice_get ps (length ps - 1)) here in_files refl

module _ (held : Option (List ℕ → Option (List ℕ))) (depth file : ℕ) (ps : List PpToken) (start : Standing) where
  abbrev last : Place
  last = end_of (file_start file) ps

  pub begins : AreIn (length start.at.files) ps → Reaches held depth file ps start [] start ps
  begins in_files = record {
    given = [];
    out_is = sym (append-nil start.out);
    limit_is = refl;
    kept = kept_same start.at.files;
    in_files = in_files;
    goes = λ more later end leaves. leaves;
  }

  module _ (bs : List Branch) (now : Standing) (rest : List PpToken) (so_far : Reaches held depth file ps start bs now rest) where
    part_of : {size : ℕ} {after : _} → HasPart held now.limit depth file bs now.at rest size after → HasPart held start.limit depth file bs now.at rest size after
    part_of part = rw so_far.limit_is at part

    rest_in : (new : Standing) (size : ℕ) → IsKept now.at.files new.at.files → AreIn (length new.at.files) (drop size rest)
    rest_in new size kept = drop_in (length new.at.files) size rest (wider_in (length now.at.files) (length new.at.files) rest (kept_within now.at.files new.at.files kept) so_far.in_files)

    pub goes_on : (size : ℕ) (after : List Branch) (new : Standing) → new.limit ≡ now.limit → IsKept now.at.files new.at.files → IsGoing held depth file bs now rest size after new
        → Reaches held depth file ps start after new (drop size rest)
    goes_on size after new limit_is kept going = record {
      given = so_far.given ++ going.given;
      out_is = going.out_is ∙ ap (λ out. out ++ going.given) so_far.out_is ∙ append_assoc start.out so_far.given going.given;
      limit_is = limit_is ∙ so_far.limit_is;
      kept = kept_on start.at.files now.at.files new.at.files so_far.kept kept;
      in_files = rest_in new size kept;
      goes = λ more later end leaves. rw append_assoc (so_far.goes (going.given ++ more) later end
          (Leaves.goes_on depth file last bs after now.at new.at later rest going.given more size end (part_of going.part) leaves));
    }

    pub late : (new : Standing) (number : ℕ) (place : Place) → IsPartRefused held depth file bs now rest new number place → IsFileRefused held depth file ps start new number place
    late new number place refused = record {
      given = so_far.given ++ [];
      later = refused.late.now;
      files_are = refused.late.files_are;
      within = refused.late.within;
      leaves = so_far.goes [] refused.late.now (Refused number place)
          (Leaves.stops depth file last bs now.at refused.late.now rest refused.size number place (part_of refused.late.part));
    }

    pub fault_of_part : (end : UnitFault) (new : Standing) → IsFault (IsPartRefused held depth file bs now rest new) end → IsFault (IsFileRefused held depth file ps start new) end
    fault_of_part fault.Read new told = tt
    fault_of_part fault.Memory new told = tt
    fault_of_part (fault.Refused r) new told = (late new r.number r.place told.0, told.1)

    module _ (size : ℕ) (after : List Branch) (middle : Standing) (inner : Included) (limit_is : middle.limit ≡ now.limit) (kept_first : IsKept now.at.files middle.at.files)
        (entering : IsEntering held depth file bs now rest size after middle inner) where
      pub leaves_inner : (new : Standing) → new.limit ≡ middle.limit → IsKept middle.at.files new.at.files → IsFileRead held (suc depth) inner.file inner.pieces.items middle new
          → Reaches held depth file ps start after new (drop size rest)
      leaves_inner new same kept_second read = record {
        given = so_far.given ++ read.given;
        out_is = read.out_is ∙ ap (λ out. out ++ read.given) (entering.out_is ∙ so_far.out_is) ∙ append_assoc start.out so_far.given read.given;
        limit_is = same ∙ limit_is ∙ so_far.limit_is;
        kept = kept_on start.at.files now.at.files new.at.files so_far.kept (kept_on now.at.files middle.at.files new.at.files kept_first kept_second);
        in_files = rest_in new size (kept_on now.at.files middle.at.files new.at.files kept_first kept_second);
        goes = λ more later end leaves. rw append_assoc (so_far.goes (read.given ++ more) later end
            (Leaves.included depth file last bs now.at middle.at new.at later rest inner.pieces.items read.given more size inner.file end (part_of entering.part)
            (rw (limit_is ∙ so_far.limit_is) at read.leaves) (rw entering.same at leaves)));
      }

      late_inner : (new : Standing) (number : ℕ) (place : Place) → IsFileRefused held (suc depth) inner.file inner.pieces.items middle new number place → IsFileRefused held depth file ps start new number place
      late_inner new number place refused = record {
        given = so_far.given ++ refused.given;
        later = refused.later;
        files_are = refused.files_are;
        within = refused.within;
        leaves = so_far.goes refused.given refused.later (Refused number place)
            (Leaves.stops_inside depth file last bs now.at middle.at refused.later rest inner.pieces.items refused.given size inner.file number place (part_of entering.part)
            (rw (limit_is ∙ so_far.limit_is) at refused.leaves));
      }

      pub fault_inside : (end : UnitFault) (new : Standing) → IsFault (IsFileRefused held (suc depth) inner.file inner.pieces.items middle new) end → IsFault (IsFileRefused held depth file ps start new) end
      fault_inside fault.Read new told = tt
      fault_inside fault.Memory new told = tt
      fault_inside (fault.Refused r) new told = (late_inner new r.number r.place told.0, told.1)

  pub ends : (now : Standing) → Reaches held depth file ps start [] now [] → IsFileRead held depth file ps start now
  ends now so_far = record {
    given = so_far.given ++ [];
    out_is = so_far.out_is ∙ sym (append-nil (start.out ++ so_far.given)) ∙ append_assoc start.out so_far.given [];
    leaves = so_far.goes [] now.at Ended (Leaves.ended depth file last now.at);
  }

  end_in : (count : ℕ) → file < count → AreIn count ps → IsIn count last
  end_in count here in_files = end_of_in count (file_start file) ps here in_files

  pub unclosed : (bs : List Branch) (now : Standing) (halt : Stop) → file < length now.at.files → AreIn (length now.at.files) ps → Reaches held depth file ps start bs now []
      → IsStop (IsUnclosed bs last) halt → IsFault (IsFileRefused held depth file ps start now) (fault_of_stop halt)
  unclosed bs now stop.Memory here in_files so_far told = tt
  unclosed bs now (stop.Refused r) here in_files so_far ((b, more, is, number_is, place_is), feature) = (
    record {
      given = so_far.given ++ [];
      later = now.at;
      files_are = refl;
      within = rw place_is (end_in (length now.at.files) here in_files);
      leaves = so_far.goes [] now.at (Refused r.number r.place) (rw (is, number_is, place_is) (Leaves.unclosed depth file last b more now.at));
    },
    feature,
  )

pub none_left : (rest : List PpToken) (test : Bool) → test ≡ nat_eq (length rest) 0 → test ≡ true → rest ≡ []
none_left [] test is holds = refl
none_left (t ∷ ts) test is holds = let none : length (t ∷ ts) ≡ 0 = eqb-true (length (t ∷ ts)) 0 (sym is ∙ holds) in absurd (omega arith)

module _ (held : Option (List ℕ → Option (List ℕ))) (depth file : ℕ) (ps : List PpToken) (start : Standing) (bs : List Branch) (now : Standing) (rest : List PpToken)
    (so_far : Reaches held depth file ps start bs now rest) (empty : rest ≡ []) where
  pub is_read_whole : bs ≡ [] → IsFileRead held depth file ps start now
  is_read_whole closed = ends held depth file ps start now (rw (closed, empty) at so_far)

  pub is_unclosed : (halt : Stop) → file < length start.at.files → AreIn (length start.at.files) ps → IsStop (IsUnclosed bs (end_of (file_start file) ps)) halt → IsFault (IsFileRefused held depth file ps start now) (fault_of_stop halt)
  is_unclosed halt here in_files told =
      let grows : length start.at.files ≤ length now.at.files = kept_within start.at.files now.at.files so_far.kept in
      unclosed held depth file ps start bs now halt (omega arith) (wider_in (length start.at.files) (length now.at.files) ps grows in_files) (rw empty at so_far) told

-- the loop over the parts of a file: the library tells what it told, and has not failed
pub record IsPassage (held : Option (List ℕ → Option (List ℕ))) (faults : ℕ) (depth file : ℕ) (ps : List PpToken) (start : Standing) (bs : List Branch) (now : Standing) (rest : List PpToken)
    (held_now : Option (List ℕ → Option (List ℕ))) (faults_now : ℕ) : Type 0 where
  pub so_far : Reaches held depth file ps start bs now rest
  pub held_is : held_now ≡ held
  pub faults_are : faults_now ≡ faults
