use Rattle.std.proofs.Common.{◌∙◌, arith, refl}
use Rattle.std.proofs.lemmas.Int.Digits.{digits_more}
use Rattle.sb_lex.proofs.Spelling.{too_large, one_more, read_whole}
use Rattle.sb_lex.proofs.values.spelled_number.Goals as goal

pub loop-byte-init : goal.loop-byte-init
loop-byte-init c = record { digits = tt; number = refl; small = omega arith }

pub returns-in_err-checked_mul : goal.returns-in_err-checked_mul
returns-in_err-checked_mul c =
    record { number = c.from_residual-in_err-checked_mul.ensures ∙ too_large _ c.args.base c.loop-byte.byte-index c.loop-byte.number c.radix-radix.result c.args.text.now (omega arith) c.loop-byte.invariant.number c.radix-radix.ensures.radix (omega (arith, c.in_err-checked_mul.ensures)) }

pub returns-in_err-number : goal.returns-in_err-number
returns-in_err-number c =
    record { number = c.from_residual-in_err-number.ensures ∙ too_large _ c.args.base c.loop-byte.byte-index c.loop-byte.number c.radix-radix.result c.args.text.now (omega arith) c.loop-byte.invariant.number c.radix-radix.ensures.radix (omega (arith, c.in_err-number.ensures, c.in_ok-checked_mul.ensures, c.in_ok-digit.ensures.value)) }

pub loop-byte-preserved : goal.loop-byte-preserved
loop-byte-preserved c =
    record {
      digits = digits_more _ c.args.text.now c.loop-byte.byte-index (omega arith) c.loop-byte.invariant.digits (omega (arith, c.in_ok-digit.ensures.value, c.radix-radix.ensures.radix));
      number = one_more c.args.base c.loop-byte.byte-index c.loop-byte.number c.radix-radix.result c.in_ok-digit.digit _ c.args.text.now (omega arith) c.loop-byte.invariant.number c.radix-radix.ensures.radix (c.in_ok-digit.ensures.value.1) (omega (arith, c.in_ok-number.ensures, c.in_ok-checked_mul.ensures));
      small = omega (arith, c.in_ok-number.ensures);
    }

pub returns : goal.returns
returns c = record { number = read_whole _ c.args.base c.loop-byte.byte-index c.loop-byte.number c.args.text.now (omega arith) c.loop-byte.invariant.digits c.loop-byte.invariant.number c.loop-byte.invariant.small }
