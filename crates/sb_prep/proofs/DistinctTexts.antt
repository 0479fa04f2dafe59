-- a table in which no text has two numbers stays so behind the pieces of a text and behind tokens
use Rattle.std.proofs.Common.{ℕ, Bool, List}
use Rattle.sb_base.specs.Names.{IsDistinct}
use Rattle.sb_base.specs.declared.tokens.Token.{Token}
use Rattle.sb_lex.specs.declared.item.Line.{Line}
use Rattle.sb_lex.specs.declared.piece.PpToken.{PpToken}
use Rattle.sb_lex.specs.declared.spot.Spot.{Spot}
use Rattle.sb_lex.specs.Lexing.{End, Lexes}
use Rattle.sb_directive.specs.Ending.{Ending}
use Rattle.sb_directive.proofs.DistinctTexts.{distinct_with}
use Rattle.sb_prep.specs.Tokens.{Converts}

module _ (file limit : ℕ) where
  pub reading_kept : {line : Line} {spaced : Bool} {count : ℕ} {texts later : List (List ℕ)} {xs : List Spot} {ps : List PpToken} {end : End} → IsDistinct texts
      → Lexes file limit line spaced count texts xs ps later end → IsDistinct later
  reading_kept distinct (Lexes.ended line spaced count texts) = distinct
  reading_kept distinct (Lexes.newline line spaced count texts later x xs rest ps end item size takes what lexes) = reading_kept distinct lexes
  reading_kept distinct (Lexes.gap line spaced count texts later x xs rest ps end item size takes what lexes) = reading_kept distinct lexes
  reading_kept distinct (Lexes.piece line spaced count texts later x xs rest ps end item size kind text number takes what is valued few room got lexes) = reading_kept (distinct_with texts text distinct) lexes
  reading_kept distinct (Lexes.unending line spaced count texts x xs item never) = distinct
  reading_kept distinct (Lexes.bad line spaced count texts x xs rest item size kind takes what none) = distinct
  reading_kept distinct (Lexes.many line spaced count texts x xs rest item size kind takes what valued most) = distinct
  reading_kept distinct (Lexes.full line spaced count texts x xs rest item size kind takes what valued few none) = distinct

module _ (limit : ℕ) where
  pub conversion_kept : {texts later : List (List ℕ)} {ps : List PpToken} {ts : List Token} {end : Ending} → IsDistinct texts → Converts limit texts ps ts later end → IsDistinct later
  conversion_kept distinct (Converts.ended texts) = distinct
  conversion_kept distinct (Converts.token texts later t ts more end value plain has rest) = conversion_kept distinct rest
  conversion_kept distinct (Converts.no_value texts t ts plain lacks) = distinct
  conversion_kept distinct (Converts.literals texts later t ts more end bytes number literal all room at rest) = conversion_kept (distinct_with texts bytes distinct) rest
  conversion_kept distinct (Converts.no_bytes texts t u ts bytes good literal within before there lacks) = distinct
  conversion_kept distinct (Converts.no_room texts t ts bytes literal all lacks) = distinct
