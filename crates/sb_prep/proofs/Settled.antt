-- what macros, conditions, the reading of a text and the conversion of pieces give is determined, and they keep texts distinct
use Rattle.std.proofs.Common.{ℕ, sym}
use Rattle.sb_lex.proofs.OneReading.{one_reading}
use Rattle.sb_directive.proofs.ConditionsOnce as conditions
use Rattle.sb_directive.proofs.DistinctTexts.{truth_kept}
use Rattle.sb_directive.proofs.RulesOnce as rules
use Rattle.sb_prep.proofs.Determined.{AreSettled}
use Rattle.sb_prep.proofs.DistinctTexts.{reading_kept}
use Rattle.sb_prep.proofs.OneConversion.{one_conversion}

pub are_settled : (limit : ℕ) → AreSettled limit
are_settled limit =
    record {
      expansion = λ texts table room list out other first second. rules.one_expansion texts table room list other out second first;
      no_stop = rules.never_both;
      stop = λ texts table room list number n place p first second. rules.one_stop texts table room list n number p place second first;
      definition = λ texts table new other line first second. rules.one_definition texts table line new other first second;
      no_refusal = λ texts table new line number place defines refused. rules.never_both_definitions texts table line new number place defines refused;
      refusal = rules.one_no_definition;
      truth = λ texts later more table at line holds other distinct first second.
          let same = conditions.one_truth limit texts table at line distinct holds other later more first second in
          (sym same.0, same.1);
      no_truth = λ texts later table at line holds number place distinct truth refused. conditions.never_both limit texts table at line distinct holds later number place truth refused;
      untruth = λ texts table at line number n place p distinct first second. conditions.one_refusal limit texts table at line distinct number n place p first second;
      truth_kept = λ texts later table at line holds distinct truth. truth_kept limit table texts later at line holds distinct truth;
      reading = λ file texts bytes distinct first second. one_reading file limit distinct second first;
      reading_kept = λ file texts bytes distinct pieces. reading_kept file limit distinct pieces;
      conversion = λ {texts} {later} {later'} {ps} {ts} {ts'} {end} {end'} distinct first second. one_conversion limit texts ps distinct ts' ts later' later end' end second first;
    }
