use Rattle.std.proofs.Common.{sym}
use Rattle.std.proofs.lemmas.List.{nil_from_length}
use Rattle.sb_directive.specs.Defined.HasName.{bare, wrapped}
use Rattle.sb_directive.specs.Defined.{HasNoName}
use Rattle.sb_directive.proofs.defined.name_behind.Goals as goal

pub returns-in_default : goal.returns-in_default
returns-in_default c = record { named = rw (nil_from_length c.args.behind.now (rw c.in_default.is at c.split_first.ensures.cases)) HasNoName.ends }

pub returns-then-is_word : goal.returns-then-is_word
returns-then-is_word c = record { named = rw c.in-Some.ensures.cases.0 (bare c.in-Some.first.now _ (sym c.if-is_word.ensures.word)) }

pub returns-then-not-is_mark : goal.returns-then-not-is_mark
returns-then-not-is_mark c =
    record { named = rw c.in-Some.ensures.cases.0 (HasNoName.no_name c.in-Some.first.now _ (sym c.if-is_word.ensures.word) (sym c.if-not-is_mark.ensures.mark)) }

pub returns-in_default-split_first : goal.returns-in_default-split_first
returns-in_default-split_first c =
    record {
      named = rw (c.in-Some.ensures.cases.0, nil_from_length c.in-Some.inside.now (rw c.in_default-split_first.is at c.split_first-2.ensures.cases)) (HasNoName.ends_inside c.in-Some.first.now (sym c.if-not-is_mark.ensures.mark));
    }

pub returns-then-not-is_word : goal.returns-then-not-is_word
returns-then-not-is_word c =
    record {
      named =
          rw (c.in-Some.ensures.cases.0, c.in-Some-split_first.ensures.cases.0)
          (HasNoName.no_name_inside c.in-Some.first.now c.in-Some-split_first.name.now _ (sym c.if-not-is_mark.ensures.mark) (sym c.if-not-is_word.ensures.word));
    }

pub returns-in-Some-split_first-2 : goal.returns-in-Some-split_first-2
returns-in-Some-split_first-2 c =
    record {
      named =
          rw (c.in-Some.ensures.cases.0, c.in-Some-split_first.ensures.cases.0, c.in-Some-split_first-2.ensures.cases.0)
          (wrapped c.in-Some.first.now c.in-Some-split_first.name.now c.in-Some-split_first-2.close.now _ (sym c.if-not-is_mark.ensures.mark) (sym c.if-not-is_word.ensures.word) (sym c.if-is_mark.ensures.mark));
    }

pub returns-in-Some-2 : goal.returns-in-Some-2
returns-in-Some-2 c =
    record {
      named =
          rw (c.in-Some.ensures.cases.0, c.in-Some-split_first.ensures.cases.0, c.in-Some-split_first-2.ensures.cases.0)
          (HasNoName.no_close c.in-Some.first.now c.in-Some-split_first.name.now c.in-Some-split_first-2.close.now _ (sym c.if-not-is_mark.ensures.mark) (sym c.if-not-is_word.ensures.word) (sym c.if-is_mark.ensures.mark));
    }

pub returns-in-None : goal.returns-in-None
returns-in-None c =
    record {
      named =
          rw (c.in-Some.ensures.cases.0, c.in-Some-split_first.ensures.cases.0, nil_from_length c.in-Some-split_first.after.now (rw c.in-None.is at c.split_first-3.ensures.cases))
          (HasNoName.ends_behind c.in-Some.first.now c.in-Some-split_first.name.now (sym c.if-not-is_mark.ensures.mark) (sym c.if-not-is_word.ensures.word));
    }
