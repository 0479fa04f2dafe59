-- Where a reader leaves a list of tokens that it is given from a place on.
use Rattle.std.proofs.Common.{◌≡◌, ℕ, ◌+◌, ◌-◌, ◌≤◌, List, ◌++◌, length, drop, take, Result, Ok, Err, sym, ap, ◌∙◌, arith, append_assoc, length-append}
use Rattle.std.proofs.lemmas.List.{take-append-drop, length-take}
use Rattle.std.proofs.Math.Seq.{drop-append_seam}
use Rattle.std.specs.Prelude.{OnOk}
use Rattle.std.specs.declared.alloc.Global.{Global}
use Rattle.std.specs.declared.boxed.Box.{Box}
use Rattle.std.specs.declared.vec.Vec.{Vec}
use Rattle.sb_base.specs.declared.refusals.Stop.{Stop}
use Rattle.sb_base.specs.declared.refusals.Stop.TheVariants as stop
use Rattle.sb_base.specs.declared.tokens.Token.{Token}
use Rattle.sb_parse.specs.Parser.{Outcome, Parser, done}
use Rattle.sb_lexicon.specs.declared.reading.ReadFault.{ReadFault}
use Rattle.sb_lexicon.specs.declared.reading.ReadFault.TheVariants.{Refused, Memory}
use Rattle.sb_expr.specs.Calls.{MakesType}
use Rattle.sb_lexicon.specs.Outcomes.{IsStopBy, IsOutcome}
use Rattle.sb_operand.specs.declared.pieces.Piece.{Piece}
use Rattle.sb_operand.specs.Pieces.{Declared, typed, type_of}
use Rattle.sb_tree.specs.declared.syntax.TypeName.{TypeName}
use Rattle.sb_tree.specs.Plain.{plain_type}
use Rattle.sb_operand.specs.Meaning.{plain_pieces}
use Rattle.sb_lexicon.specs.Meaning.{IsFault, stop_number}
use Rattle.sb_expr.proofs.Leaving.{Ends, Leaves}

pub record Left (tokens rest : List Token) (next : ℕ) : Type 0 where
  pub few : length rest ≤ length tokens
  pub same : drop (length tokens - length rest) tokens ≡ rest
  pub later : next ≤ length tokens - length rest

pub left_over : {A : Type 0} (p : Parser Token A) → Leaves p → (tokens : List Token) (next : ℕ) (a : A) (rest : List Token) → next ≤ length tokens → p (drop next tokens) ≡ done a rest → Left tokens rest next
left_over p L tokens next a rest within e =
    let u : Ends (drop next tokens) rest = L.ends (drop next tokens) a rest e in
    let before : List Token = take next tokens ++ u.front in
    let whole : tokens ≡ before ++ rest =
    sym (take-append-drop next tokens) ∙ ap (λ l. take next tokens ++ l) u.split ∙ sym (append_assoc (take next tokens) u.front rest) in
    let all : length tokens ≡ length before + length rest = ap length whole ∙ length-append before rest in
    let parts : length before ≡ length (take next tokens) + length u.front = length-append (take next tokens) u.front in
    let count : length tokens - length rest ≡ length before = omega (arith, all) in
    record {
      few = omega (arith, all);
      same = ap (λ n. drop n tokens) count ∙ ap (drop (length before)) whole ∙ drop-append_seam before rest;
      later = omega (arith, all, parts, length-take next tokens, within);
    }

pub refused : {A E : Type 0} (gives : A → E → Type 0) (o : Outcome Token A) (tokens : List Token) (now : ℕ) (fault : ReadFault) (s : Stop) → IsFault o fault → IsStopBy tokens fault s
    → IsOutcome gives o tokens now (Err s)
refused gives o tokens now (Refused reason left) (stop.Refused r) stops is = record { number = stop_number reason; left = left; stops = stops; is = is }
refused gives o tokens now (Refused reason left) stop.Memory stops is = absurd is
refused gives o tokens now Memory (stop.Refused r) stops is = absurd is
refused gives o tokens now Memory stop.Memory stops is = is

pub type_read : (o : Outcome Token Declared) (tokens : List Token) (now : ℕ) (d : Declared) (base : Box TypeName Global) (pieces : Vec Piece Global) (r : Result TypeName Stop)
    → o ≡ done d (drop now tokens) → type_of d ≡ typed (plain_type base.value) (plain_pieces pieces.items) → MakesType base pieces r → IsOutcome (λ a t. type_of a ≡ plain_type t) o tokens now r
type_read o tokens now d base pieces (Ok t) read is made = (d, read, is ∙ sym made)
type_read o tokens now d base pieces (Err (stop.Refused r)) read is made = absurd (cc made)
type_read o tokens now d base pieces (Err stop.Memory) read is made = tt {0}

pub on_ok : {A E P : Type 0} (r : Result A E) → P → OnOk r P
on_ok (Ok a) p = p
on_ok (Err e) p = tt {0}
