-- Where the annotations of a parameter end, and that no token of a unit makes room for a parameter too many.
use Rattle.std.proofs.Common.{◌≡◌, ◌<◌, ◌-◌, ◌+◌, ◌^◌, ℕ, false, List, length, drop, nat_lt, ap, ◌∙◌, arith, length-append}
use Rattle.std.proofs.Math.Seq.{drop-append_seam}
use Rattle.sb_base.specs.declared.tokens.Token.{Token}
use Rattle.sb_parse.specs.Parser.{done}
use Rattle.sb_parse.proofs.Ways.{and_fails}
use Rattle.sb_tree.specs.Trees.{NoteTree}
use Rattle.sb_lexicon.specs.Lexicon.{Lexicon}
use Rattle.sb_expr.proofs.Leaving.{Ends}
use Rattle.sb_sal.specs.declared.bearer.Bearer.TheVariants as bearer
use Rattle.sb_sal.specs.Readers.{notes_reader}
use Rattle.sb_sal.specs.Spellings.{may_stand}
use Rattle.sb_sal.proofs.Leaving.{notes_leave}
use Rattle.sb_specifier.specs.Readers.{is_header, makes_room}
use Rattle.sb_derivation.specs.Declarators.{IsEnd}

end_of : (ts rest : List Token) → Ends ts rest → IsEnd ts rest
end_of ts rest e =
    let all : length ts ≡ length e.front + length rest = ap length e.split ∙ length-append e.front rest in
    let count : length ts - length rest ≡ length e.front = omega (arith, all) in
    (omega (arith, all), ap (λ n. drop n ts) count ∙ ap (drop (length e.front)) e.split ∙ drop-append_seam e.front rest)

pub notes_end : (w : Lexicon) (below : ℕ) (ts : List Token) (ns : List NoteTree) (rest : List Token) → notes_reader w below (may_stand w bearer.Parameter) ts ≡ done ns rest → IsEnd ts rest
notes_end w below ts ns rest read = end_of ts rest ((notes_leave w below bearer.Parameter).ends ts ns rest read)

pub no_room : (t : Token) → t.text.0 < 2 ^ 32 → makes_room t ≡ false
no_room t small =
    let is : nat_lt (2 ^ 33) t.text.0 ≡ false = grind arith in
    and_fails (is_header t.kind) (nat_lt (2 ^ 33) t.text.0) is
