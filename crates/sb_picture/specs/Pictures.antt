-- pictures as plain records: the terms that rules form, and how facts are added
use Rattle.std.specs.Prelude.{ℕ, Bool, true, false, ◌&&◌, ◌||◌, not, List, [], ◌∷◌, ◌++◌, length, slice_get, ℤ, pos, negsuc, nat_eq, Option, Some, None, if◌then◌else◌}
use Rattle.std.specs.List.{list_any}
use Rattle.sb_term.specs.declared.entry.Entry.{Entry}
use Rattle.sb_term.specs.declared.row.Row.{Row}
use Rattle.sb_term.specs.Linear.{Linear, constant, combined}
use Rattle.sb_picture.specs.Machine.{int_same}
use Rattle.sb_picture.specs.declared.picture.Value.{Value}
use Rattle.sb_picture.specs.declared.picture.Value.TheVariants.{Number, Pointer, Unknown}
use Rattle.sb_picture.specs.declared.picture.Picture.{Picture}
use Rattle.sb_function.specs.declared.syntax.Simple.{Simple}
use Rattle.sb_function.specs.declared.syntax.Simple.TheVariants as simple

-- first minus second and c more, and first plus second
abbrev pub minus : Linear → Linear → ℤ → Linear
minus t u c = combined (pos 1) t (negsuc 0) u c

abbrev pub plus : Linear → Linear → Linear
plus t u = combined (pos 1) t (pos 1) u (pos 0)

-- equality of terms, as a test
abbrev pub same_entries : List Entry → List Entry → Bool
same_entries [] [] = true
same_entries [] (f ∷ fs) = false
same_entries (e ∷ es) [] = false
same_entries (e ∷ es) (f ∷ fs) = nat_eq e.symbol f.symbol && int_same e.coefficient f.coefficient && same_entries es fs

abbrev pub same_term : Linear → Linear → Bool
same_term t u = same_entries t.entries u.entries && int_same t.rest u.rest

abbrev pub has_entries : List Entry → Bool
has_entries [] = false
has_entries (e ∷ es) = true

abbrev pub has_symbol : Linear → Bool
has_symbol t = has_entries t.entries

-- a fact goes last; one that stands already, one without symbols, and one past the limits is not added
abbrev pub is_fact : Linear → Row → Bool
is_fact t r = same_term r.term t

abbrev pub with_term : List Row → Linear → List Row
with_term facts t = if (not (has_symbol t) || list_any (is_fact t) facts) then facts else facts ++ record { term = t } ∷ []

abbrev pub with_fact : List Row → Option Linear → List Row
with_fact facts None = facts
with_fact facts (Some t) = with_term facts t

-- the number of the next symbol: each has a label
abbrev pub next : Picture → ℕ
next p = length p.labels

-- the number that a side of a comparison, an index or a stored value has
abbrev pub number_in : Option Value → Option Linear
number_in None = None
number_in (Some (Number t)) = Some t
number_in (Some (Pointer r o)) = None
number_in (Some Unknown) = None

abbrev pub number_at : List Value → Simple → Option Linear
number_at values (simple.Number n) = Some (constant (pos n))
number_at values (simple.Param at) = number_in (slice_get values at)
