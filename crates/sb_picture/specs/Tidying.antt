-- after each statement, symbols that occur in facts alone are eliminated where that makes no more rows
use Rattle.std.specs.Prelude.{ℕ, ◌+◌, ◌-◌, ◌*◌, ◌/◌, Bool, true, false, ◌&&◌, ◌||◌, not, List, [], ◌∷◌, ◌++◌, length, take, insert, slice_set, slice_index_or, pos, nat_eq, nat_le, int_lt, unsigned_abs, Option, Some, None, if◌then◌else◌}
use Rattle.std.specs.List.{list_any, filter}
use Rattle.sb_term.specs.declared.entry.Entry.{Entry}
use Rattle.sb_term.specs.declared.row.Row.{Row}
use Rattle.sb_term.specs.Linear.{Linear, combined, formed, coefficient_of}
use Rattle.sb_term.specs.Ratio.{gcd}
use Rattle.sb_term.specs.Refutes.{with_rows}
use Rattle.sb_picture.specs.declared.picture.Value.{Value}
use Rattle.sb_picture.specs.declared.picture.Value.TheVariants.{Number, Pointer, Unknown}
use Rattle.sb_picture.specs.declared.picture.Island.{Island}
use Rattle.sb_picture.specs.declared.picture.Region.{Region}
use Rattle.sb_picture.specs.declared.picture.Cell.{Cell}
use Rattle.sb_picture.specs.declared.picture.Picture.{Picture}
pub use Rattle.sb_picture.specs.declared.tidied.Tidied.{Tidied}
use Rattle.sb_picture.specs.Pictures.{has_symbol, same_entries}

abbrev pub names : ℕ → Entry → Bool
names s e = nat_eq e.symbol s

abbrev pub occurs_in : ℕ → Linear → Bool
occurs_in s t = list_any (names s) t.entries

-- where a symbol is live: in a value, a region or a cell
abbrev pub in_value : ℕ → Value → Bool
in_value s (Number t) = occurs_in s t
in_value s (Pointer r o) = occurs_in s o
in_value s Unknown = false

abbrev pub in_island : ℕ → Island → Bool
in_island s i = occurs_in s i.start || occurs_in s i.end

abbrev pub in_region : ℕ → Region → Bool
in_region s g = occurs_in s g.presence || occurs_in s g.extent || occurs_in s g.written || list_any (in_island s) g.islands

abbrev pub in_cell : ℕ → Cell → Bool
in_cell s c = occurs_in s c.offset || occurs_in s c.value

abbrev pub is_live : Picture → ℕ → Bool
is_live p s = list_any (in_value s) p.values || list_any (in_region s) p.regions || list_any (in_cell s) p.cells

-- the symbols of the facts, rising, each once, that are live nowhere
abbrev pub is_dead : Picture → ℕ → Bool
is_dead p s = not (is_live p s)

abbrev pub dead_symbols : Picture → List ℕ
dead_symbols p = filter (is_dead p) (with_rows p.facts [])

-- rows in which a symbol has a positive or a negative coefficient, and those without it
abbrev pub is_above : ℕ → Row → Bool
is_above s r = int_lt (pos 0) (coefficient_of s r.term.entries)

abbrev pub is_below : ℕ → Row → Bool
is_below s r = int_lt (coefficient_of s r.term.entries) (pos 0)

abbrev pub is_without : ℕ → Row → Bool
is_without s r = not (is_above s r) && not (is_below s r)

-- one row in which the symbol cancels, of one where its coefficient is a and one where it is -b
abbrev pub cancelled_by : ℕ → ℕ → Linear → Linear → Linear
cancelled_by a b above below = combined (pos (b / gcd a b)) above (pos (a / gcd a b)) below (pos 0)

abbrev pub cancelled : ℕ → Row → Row → Linear
cancelled s x y = cancelled_by (unsigned_abs (coefficient_of s x.term.entries)) (unsigned_abs (coefficient_of s y.term.entries)) x.term y.term

-- a row is placed: of two with equal coefficients the one with the lesser constant stays in that position
abbrev pub tighter : Row → Linear → Row
tighter r t = if int_lt t.rest r.term.rest then record { term = t } else r

abbrev pub placed_row : List Row → Linear → List Row
placed_row [] t = record { term = t } ∷ []
placed_row (r ∷ rs) t = if same_entries r.term.entries t.entries then tighter r t ∷ rs else r ∷ placed_row rs t

-- rows past the limits and rows without symbols are left out
abbrev pub placed : List Row → Option Linear → List Row
placed rows None = rows
placed rows (Some t) = if has_symbol t then placed_row rows t else rows

abbrev pub placed_below : ℕ → Row → List Row → List Row → List Row
placed_below s x [] rows = rows
placed_below s x (y ∷ ys) rows = placed_below s x ys (placed rows (formed (cancelled s x y)))

abbrev pub placed_all : ℕ → List Row → List Row → List Row → List Row
placed_all s [] ys rows = rows
placed_all s (x ∷ xs) ys rows = placed_all s xs ys (placed_below s x ys rows)

abbrev pub eliminated : ℕ → List Row → List Row
eliminated s facts = placed_all s (filter (is_above s) facts) (filter (is_below s) facts) (filter (is_without s) facts)

-- p rows above and q below make p q rows of p + q
abbrev pub is_cheap : ℕ → List Row → Bool
is_cheap s facts = nat_le (length (filter (is_above s) facts) * length (filter (is_below s) facts)) (length (filter (is_above s) facts) + length (filter (is_below s) facts))

abbrev pub tidied_by : ℕ → Tidied → Tidied
tidied_by s t = if is_cheap s t.facts then record { facts = eliminated s t.facts; stay = t.stay } else record { facts = t.facts; stay = t.stay ++ s ∷ [] }

abbrev pub tidied_all : List ℕ → Tidied → Tidied
tidied_all [] t = t
tidied_all (s ∷ ss) t = tidied_all ss (tidied_by s t)

-- of more than 256 dead symbols that stay, the smallest go with their facts
abbrev pub names_none : List ℕ → Row → Bool
names_none [] r = true
names_none (s ∷ ss) r = not (occurs_in s r.term) && names_none ss r

abbrev pub most : ℕ
most = 256

abbrev pub kept_facts : Tidied → List Row
kept_facts t = if nat_le (length t.stay) most then t.facts else filter (names_none (take (length t.stay - most) t.stay)) t.facts

abbrev pub with_facts : Picture → List Row → Picture
with_facts p facts = record { values = p.values; facts = facts; labels = p.labels; regions = p.regions; cells = p.cells }

abbrev pub tidied : Picture → Picture
tidied p = with_facts p (kept_facts (tidied_all (dead_symbols p) (record { facts = p.facts; stay = [] })))

-- a symbol at an index of others, or nowhere
abbrev pub put_at : ℕ → List ℕ → Option ℕ → List ℕ
put_at s ss None = ss
put_at s ss (Some at) = insert ss at s

-- a row of the place at an index, where one stands
abbrev pub tightened : List Row → ℕ → Linear → List Row
tightened rows at t = slice_set rows at (tighter (slice_index_or rows at (record { term = t })) t)

-- a row put in the place at an index, or last
abbrev pub placed_at : Linear → List Row → Option ℕ → List Row
placed_at t rows None = rows ++ record { term = t } ∷ []
placed_at t rows (Some at) = tightened rows at t
