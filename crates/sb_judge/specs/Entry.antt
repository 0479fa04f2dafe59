-- the pictures at the entry of a function
use Rattle.std.specs.Prelude.{ℕ, ◌+◌, List, [], ◌∷◌, ◌++◌, length, slice_get, pos, Option, Some, None}
use Rattle.sb_base.specs.declared.interning.Name.{Name}
use Rattle.sb_term.specs.declared.row.Row.{Row}
use Rattle.sb_term.specs.Linear.{Linear, constant, symbol, scaled, formed}
use Rattle.sb_term.specs.Asks.{Asks}
use Rattle.sb_function.specs.declared.syntax.ParamKind.{ParamKind}
use Rattle.sb_function.specs.declared.syntax.ParamKind.TheVariants.{Int, Unsigned, OutWrites}
use Rattle.sb_function.specs.declared.syntax.Param.{Param}
use Rattle.sb_picture.specs.declared.picture.Value.{Value}
use Rattle.sb_picture.specs.declared.picture.Value.TheVariants.{Number, Pointer, Unknown}
use Rattle.sb_picture.specs.declared.picture.Region.{Region}
use Rattle.sb_picture.specs.declared.picture.Part.TheVariants as part
use Rattle.sb_picture.specs.declared.picture.Label.{Label}
use Rattle.sb_picture.specs.declared.picture.Picture.{Picture}
use Rattle.sb_picture.specs.Contract.{least, greatest}
use Rattle.sb_picture.specs.Pictures.{minus, with_fact, next, number_in}
use Rattle.sb_picture.specs.Asking.{assume}

abbrev pub empty : Picture
empty = record { values = []; facts = []; labels = []; regions = []; cells = [] }

-- a number parameter is a fresh symbol in the range of its type
abbrev pub with_number : Name → ParamKind → Picture → Picture
with_number name kind p = record {
  values = p.values ++ Number (symbol (next p)) ∷ [];
  facts = with_fact (with_fact p.facts
      (formed (minus (symbol (next p)) (constant (least kind)) (pos 0))))
      (formed (minus (constant (greatest kind)) (symbol (next p)) (pos 0)));
  labels = p.labels ++ record { name = name; part = part.Number } ∷ [];
  regions = p.regions;
  cells = p.cells;
}

-- the same by what is added: a term in the range of a type
abbrev pub with_range : ParamKind → Linear → List Row → List Row
with_range kind t facts = with_fact (with_fact facts (formed (minus t (constant (least kind)) (pos 0)))) (formed (minus (constant (greatest kind)) t (pos 0)))

-- a pointer parameter is the start of a fresh region
abbrev pub with_pointer : Name → Picture → Picture
with_pointer name p = record {
  values = p.values ++ Pointer (length p.regions) (constant (pos 0)) ∷ [];
  facts = with_fact (with_fact (with_fact (with_fact p.facts
      (Some (symbol (next p))))
      (formed (minus (constant (pos 1)) (symbol (next p)) (pos 0))))
      (Some (symbol (next p + 2))))
      (formed (minus (symbol (next p + 1)) (symbol (next p + 2)) (pos 0)));
  labels = p.labels ++ record { name = name; part = part.Present } ∷ record { name = name; part = part.Extent } ∷ record { name = name; part = part.Written } ∷ [];
  regions = p.regions ++ record { name = name; presence = symbol (next p); extent = symbol (next p + 1); written = symbol (next p + 2); islands = [] } ∷ [];
  cells = p.cells;
}

-- the same by what is added: the region and the labels of its symbols, presence that is 0 or 1, and a prefix within the extent
abbrev pub fresh_region : Name → ℕ → Region
fresh_region name n = record { name = name; presence = symbol n; extent = symbol (n + 1); written = symbol (n + 2); islands = [] }

abbrev pub region_labels : Name → List Label
region_labels name = record { name = name; part = part.Present } ∷ record { name = name; part = part.Extent } ∷ record { name = name; part = part.Written } ∷ []

abbrev pub with_presence : Linear → List Row → List Row
with_presence t facts = with_fact (with_fact facts (Some t)) (formed (minus (constant (pos 1)) t (pos 0)))

abbrev pub with_extent : Linear → Linear → List Row → List Row
with_extent extent written facts = with_fact (with_fact facts (Some written)) (formed (minus extent written (pos 0)))

abbrev pub with_param_of : Name → ParamKind → Picture → Picture
with_param_of name Int p = with_number name Int p
with_param_of name Unsigned p = with_number name Unsigned p
with_param_of name (OutWrites size) p = with_pointer name p

abbrev pub with_params : List Param → Picture → Picture
with_params [] p = p
with_params (x ∷ xs) p = with_params xs (with_param_of x.name x.kind p)

-- the clauses of `_Out_writes_(n)`: the pointer is not null, and 4 n bytes lie from it on
abbrev pub presence_in : Option Region → Option Linear
presence_in None = None
presence_in (Some g) = formed (minus g.presence (constant (pos 1)) (pos 0))

abbrev pub presence_of : List Region → Value → List (Option Linear)
presence_of regions (Number t) = []
presence_of regions Unknown = []
presence_of regions (Pointer r o) = presence_in (slice_get regions r) ∷ []

abbrev pub presences : List Region → List Value → List (Option Linear)
presences regions [] = []
presences regions (v ∷ vs) = presence_of regions v ++ presences regions vs

abbrev pub bytes_of : Option Linear → Option Linear
bytes_of None = None
bytes_of (Some n) = formed (scaled (pos 4) n)

abbrev pub extent_less : Region → Option Linear → Option Linear
extent_less g None = None
extent_less g (Some size) = formed (minus g.extent size (pos 0))

abbrev pub extent_in : Option Region → Option Linear → Option Linear
extent_in None size = None
extent_in (Some g) size = extent_less g size

abbrev pub extent_of : Picture → ParamKind → Value → List (Option Linear)
extent_of p Int v = []
extent_of p Unsigned v = []
extent_of p (OutWrites size) (Number t) = []
extent_of p (OutWrites size) Unknown = []
extent_of p (OutWrites size) (Pointer r o) = extent_in (slice_get p.regions r) (bytes_of (number_in (slice_get p.values size))) ∷ []

abbrev pub extents : Picture → List Param → List Value → List (Option Linear)
extents p [] vs = []
extents p (x ∷ xs) [] = []
extents p (x ∷ xs) (v ∷ vs) = extent_of p x.kind v ++ extents p xs vs

-- first each pointer is not null, then each has its extent
abbrev pub clauses : List Param → Picture → List (Option Linear)
clauses params p = presences p.regions p.values ++ extents p params p.values

abbrev pub entered : List Param → Picture
entered params = with_params params empty

abbrev pub enter : List Param → Asks (List Picture)
enter params = assume (clauses params (entered params)) (entered params)
