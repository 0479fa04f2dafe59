-- What reading a translation unit comes to, in the subject's words.
use Rattle.std.specs.Prelude.{◌≡◌, ℕ, ◌≤◌, List, [], Result, Ok, Err}
use Rattle.sb_base.specs.declared.refusals.Stop.{Stop}
use Rattle.sb_base.specs.declared.refusals.Stop.TheVariants.{Refused, Memory}
use Rattle.sb_base.specs.declared.tokens.Token.{Token}
use Rattle.sb_parse.specs.Parser.{done}
use Rattle.sb_parse.specs.Read.{IsRefused}
use Rattle.sb_tree.specs.Plain.{decl_list}
use Rattle.sb_tree.specs.Trees.{depth_of_decls}
use Rattle.sb_lexicon.specs.Outcomes.{IsStop, IsRefusedBy}
use Rattle.sb_specifier.specs.Readers.{Declarations}
use Rattle.sb_unit.specs.Readers.{most_depth, unit_reader}
use Rattle.sb_unit.specs.Units.{IsUnit}

-- a translation unit whose declarations are at most so deep
abbrev pub FitsUnit : List (List ℕ) → List Token → Declarations → Type 0
FitsUnit texts ts ds = IsUnit texts ts ds × (depth_of_decls (decl_list ds.list) ≤ most_depth)

-- a list of tokens as the reader answers it; `gives ds e`: e is how the call answers ds
abbrev pub IsUnitRead : {E : Type 0} → (Declarations → E → Type 0) → List (List ℕ) → List Token → Result E Stop → Type 0
IsUnitRead gives texts tokens (Ok e) = (ds : Declarations) × (unit_reader texts tokens ≡ done ds []) × gives ds e
IsUnitRead gives texts tokens (Err (Refused r)) = IsRefusedBy (unit_reader texts tokens) tokens r
IsUnitRead gives texts tokens (Err Memory) = Unit {0}

-- the list is a unit that is at most 200 deep; or it is refused where no unit of at most 200 deep goes on with the token there
abbrev pub IsUnitAnswer : {E : Type 0} → (Declarations → E → Type 0) → List (List ℕ) → List Token → Result E Stop → Type 0
IsUnitAnswer gives texts tokens (Ok e) = (ds : Declarations) × FitsUnit texts tokens ds × gives ds e
IsUnitAnswer gives texts tokens (Err (Refused r)) = (n : ℕ) × (left : ℕ) × IsStop tokens n left r × IsRefused (FitsUnit texts) tokens left
IsUnitAnswer gives texts tokens (Err Memory) = Unit {0}
