-- the header that an `#include` asks for (C99 6.10.2), and where the line is refused: at the first piece with which none begins
use Rattle.std.specs.Prelude.{◌≡◌, ℕ, Bool, true, false, ◌&&◌, List, ◌∷◌, Option, Some, None, Result, MatchResult, nat_eq, if◌then◌else◌}
use Rattle.sb_base.specs.declared.refusals.Place.{Place}
use Rattle.sb_base.specs.declared.refusals.Stop.{Stop}
use Rattle.sb_lex.specs.declared.piece.PpToken.{PpToken}
use Rattle.sb_macro.specs.declared.ending.End.{End}
use Rattle.sb_macro.specs.declared.ending.End.TheVariants as end
use Rattle.sb_directive.specs.declared.seeking.SoughtHeader.{SoughtHeader}
use Rattle.sb_directive.specs.Headers.{Header, Beginning, Names, Bad, Ends, beginning, is_header}
use Rattle.sb_directive.specs.Limits.{most_tokens}
use Rattle.sb_directive.specs.Lines.{end_of}
use Rattle.sb_directive.specs.Rules.{Table, HasEnded}
use Rattle.sb_directive.specs.Sources.{header_seen}
use Rattle.sb_directive.specs.Stopping.{IsStop, IsAmong}

-- a header, named at a place, or nothing, with a refusal
pub data Sought : Type 0 where
  Named : Header → Place → Sought
  Unnamed : ℕ → Place → Sought

-- by all that macros give of a line whose last piece stands at `last`. With an empty macro E: `E "a.h"` names the header at
-- `"a.h"`, `E x` is refused at `x`, `<x.h` at `h`, and `E` at `E`
abbrev pub sought_in : Beginning → (last : Place) → Sought
sought_in (Names header place) last = Named header place
sought_in (Bad place) last = Unnamed 24 place
sought_in Ends last = Unnamed 24 last

abbrev pub is_at : Place → Place → Bool
is_at place other = nat_eq place.file other.file && nat_eq place.line other.line && nat_eq place.col other.col

-- the piece at which a line is seen to begin with no header
abbrev pub bad_of : Beginning → Option Place
bad_of (Bad place) = Some place
bad_of _ = None

-- A refusal of macros by this number at this place, before which a line was seen, or not, to begin with no header: by 24 there,
-- unless both stand at one place, where the smaller number stands. With F that takes one argument: `x F(1, 2)` is 24 at `x`,
-- `F(1, 2) x` 13 at `F`, and A that gives `> F(1, 2)` 13 at `A`
abbrev pub sought_before : Option Place → ℕ → Place → Sought
sought_before None number place = Unnamed number place
sought_before (Some bad) number place = if is_at bad place then Unnamed number place else Unnamed 24 bad

-- the same of a line whose last piece stands at `last` and that ends in a call: `"a.h" F(` is 14 at `(` where a macro gives the
-- literal, `x F(` 24 at `x`, and A that gives `> F(1` 24 at `A`
abbrev pub sought_open : Option Place → (last : Place) → Sought
sought_open None last = Unnamed 14 last
sought_open (Some bad) last = Unnamed 24 bad

-- by how what macros give of a line begins, and how they end
abbrev pub sought_by : Beginning → End → (last : Place) → Sought
sought_by beginning end.Whole last = sought_in beginning last
sought_by beginning end.Open last = sought_open (bad_of beginning) last
sought_by beginning (end.Refused number place) last = sought_before (bad_of beginning) number place

-- what the pieces behind `include` ask for
pub data Seeks (texts : List (List ℕ)) (table : Table) : List PpToken → Sought → Type 0 where
  -- a header name as it stands, whatever follows it: `<a.h> F(`
  as_it_stands : (t : PpToken) (ts : List PpToken) (sought : Sought) → is_header t ≡ true → sought ≡ sought_in (beginning texts (t ∷ ts)) t.place → Seeks texts table (t ∷ ts) sought
  -- other pieces by what macros give of them: `E "a.h"`, `E x`, `x F(1, 2)`, `<a.h F(`
  by_macros : (t : PpToken) (ts given : List PpToken) (how : End) (sought : Sought) → is_header t ≡ false → HasEnded texts table most_tokens (t ∷ ts) given how
      → sought ≡ sought_by (beginning texts given) how (end_of t.place (t ∷ ts)) → Seeks texts table (t ∷ ts) sought

-- the pieces name a header, at the place of one of them
pub record IsHeader (texts : List (List ℕ)) (table : Table) (behind : List PpToken) (found : SoughtHeader) : Type 0 where
  pub sought : Seeks texts table behind (Named (header_seen found.header) found.place)
  pub among : IsAmong behind found.place

-- they name a header, or they are refused at one of them
abbrev pub IsSeekResult : List (List ℕ) → Table → List PpToken → Result SoughtHeader Stop → Type 0
IsSeekResult texts table behind result = MatchResult result (IsHeader texts table behind) (IsStop (λ number place. Seeks texts table behind (Unnamed number place) × IsAmong behind place))

-- what is sought, as the code has it
abbrev pub HasSought : Sought → Result SoughtHeader Stop → Type 0
HasSought sought result = MatchResult result (λ found. sought ≡ Named (header_seen found.header) found.place) (IsStop (λ number place. sought ≡ Unnamed number place))
