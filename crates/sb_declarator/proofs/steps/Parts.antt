-- The readers of members of a depth that are made of those of the next lower one.
use Rattle.std.proofs.Common.{◌≡◌, ℕ, zero, suc, ◌+◌, ◌-◌, ◌<◌, ◌≤◌, false, nat_lt, List, Option, refl, ap, sym, ◌∙◌, arith}
use Rattle.sb_base.specs.declared.interning.Name.{Name}
use Rattle.sb_base.specs.declared.refusals.Place.{Place}
use Rattle.sb_base.specs.declared.tokens.Token.{Token}
use Rattle.sb_parse.specs.Parser.{done, and_then, ◌>>=◌, pure, token}
use Rattle.sb_tree.specs.Plain.{decl_list}
use Rattle.sb_tree.specs.Trees as tree
use Rattle.sb_parse.specs.Descent.{descent}
use Rattle.sb_lexicon.specs.Tokens.{unexpected, is_open_brace}
use Rattle.sb_lexicon.specs.Words.{Whole}
use Rattle.sb_parse.proofs.Descending.{descent_from}
use Rattle.sb_specifier.specs.declared.seat.Seat.TheVariants as seat
use Rattle.sb_declarator.specs.Meaning.{inside}
use Rattle.sb_specifier.specs.Parts as part
use Rattle.sb_declarator.specs.Parts.{structure}
use Rattle.sb_specifier.specs.Specified.{Specified, reading, saying, scoped, one_if}
use Rattle.sb_specifier.specs.Readers.{Parts, is_close_brace}
use Rattle.sb_declarator.specs.Readers.{parts, no_parts, parts_at, members}

-- without room for a declaration
pub no_members : (texts : List (List ℕ)) (left : ℕ) (types : List Name) (ts : List Token) → left < 2 → (parts texts left 0).members types ts ≡ part.no_declaration (reading texts types) seat.Structure ts
unfolding descent
no_members texts zero types ts few = refl
no_members texts (suc zero) types ts few = refl
no_members texts (suc (suc n)) types ts few = absurd (omega arith)

pub some_members : (texts : List (List ℕ)) (left : ℕ) (types : List Name) (ts : List Token) → 2 ≤ left → (parts texts left 0).members types ts ≡ inside members texts (left - 1) types ts
unfolding descent
some_members texts zero types ts some = absurd (omega arith)
some_members texts (suc zero) types ts some = absurd (omega arith)
some_members texts (suc (suc n)) types ts some = ap (λ m. inside members texts m types ts) (let same : suc n ≡ suc (suc n) - 1 = omega arith in same)

-- behind the opening brace of a structure
pub structure_at : (texts : List (List ℕ)) (below left : ℕ) (s : Specified) (tag : Option Name) (place : Place) (ts : List Token) (o : Token) (mid : List Token)
    → left ≡ below - suc (one_if s.constant) → 2 ≤ left → token unexpected (is_open_brace (reading texts s.types)) ts ≡ done o mid
    → structure texts below s tag place ts
    ≡ and_then ((parts texts left 0).members s.types mid) (λ ds. token unexpected (is_close_brace (reading texts s.types)) >>= (λ c.
    pure (scoped ds.types (saying (Whole (tree.Struct tag (tree.Declared (decl_list ds.list)) place)) s))))
structure_at texts below left s tag place ts o mid is some opened =
    let full : nat_lt below (3 + one_if s.constant) ≡ false = grind (arith, is, some) in
    rw (full, opened) (ap (λ (p : Parts). and_then (p.members s.types mid) (λ ds. token unexpected (is_close_brace (reading texts s.types)) >>= (λ c.
    pure (scoped ds.types (saying (Whole (tree.Struct tag (tree.Declared (decl_list ds.list)) place)) s)))))
    (descent_from (no_parts texts) (parts_at texts) below (suc (one_if s.constant)) ∙ ap (λ n. parts texts n 0) (sym is)))
