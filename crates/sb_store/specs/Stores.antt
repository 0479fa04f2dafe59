-- the rule of a store `NAME[INDEX] = VALUE;` of an `int`: what it needs, and the picture after it
use Rattle.std.specs.Prelude.{ℕ, Bool, true, false, ◌&&◌, ◌||◌, not, List, [], ◌∷◌, ◌++◌, slice_get, slice_set, pos, negsuc, nat_eq, int_le, Option, Some, None, if◌then◌else◌}
use Rattle.std.specs.List.{filter}
use Rattle.sb_base.specs.declared.refusals.Place.{Place}
use Rattle.sb_term.specs.declared.query.Query.{Query}
use Rattle.sb_term.specs.declared.answer.Answer.{Answer}
use Rattle.sb_term.specs.declared.row.Row.{Row}
use Rattle.sb_term.specs.Linear.{Linear, constant, symbol, combined, formed}
use Rattle.sb_term.specs.Asks.{Asks, Done, after_it}
use Rattle.sb_function.specs.declared.syntax.Simple.{Simple}
use Rattle.sb_picture.specs.declared.picture.Value.{Value}
use Rattle.sb_picture.specs.declared.picture.Value.TheVariants.{Number, Pointer, Unknown}
use Rattle.sb_picture.specs.declared.picture.Region.{Region}
use Rattle.sb_picture.specs.declared.picture.Cell.{Cell}
use Rattle.sb_picture.specs.declared.picture.Part.TheVariants as part
use Rattle.sb_picture.specs.declared.picture.Picture.{Picture}
use Rattle.sb_store.specs.declared.target.Target.{Target}
use Rattle.sb_store.specs.declared.warning.Need.{Need}
use Rattle.sb_store.specs.declared.warning.Need.TheVariants.{Present, Known, FromStart, BeforeEnd}
use Rattle.sb_store.specs.declared.warning.Warning.{Warning}
use Rattle.sb_picture.specs.Pictures.{minus, plus, has_symbol, with_fact, next, number_at}
use Rattle.sb_picture.specs.Regions.{with_prefix, with_island, greater_end}
use Rattle.sb_picture.specs.Asking.{ask, is_proved, never}
use Rattle.sb_store.specs.Reports.{noted}

-- what is taken up where a need is not proved
abbrev pub told : Place → Need → Picture → List Warning → Query × Answer → List Warning
told place need p ws x = if is_proved x.1 then ws else noted (record { place = place; need = need; query = x.0; answer = x.1; labels = p.labels }) ws

abbrev pub needed : Place → Need → Picture → Option Linear → List Warning → Asks (List Warning)
needed place need p goal ws = after_it (ask p.facts goal) (λ x. Done (told place need p ws x))

-- four bytes at offset o of a region: the pointer is not null, the offset not below 0, and the bytes end within the extent
abbrev pub bounds : Place → Picture → Region → Linear → List Warning → Asks (List Warning)
bounds place p g o ws =
    after_it (needed place Present p (formed (minus g.presence (constant (pos 1)) (pos 0))) ws) (λ present.
    after_it (needed place FromStart p (Some o) present) (λ from.
    needed place BeforeEnd p (formed (minus g.extent o (negsuc 3))) from))

-- each of these needs by itself
abbrev pub ask_present : Place → Picture → Region → List Warning → Asks (List Warning)
ask_present place p g ws = needed place Present p (formed (minus g.presence (constant (pos 1)) (pos 0))) ws

abbrev pub ask_from_start : Place → Picture → Linear → List Warning → Asks (List Warning)
ask_from_start place p o ws = needed place FromStart p (Some o) ws

abbrev pub ask_before_end : Place → Picture → Region → Linear → List Warning → Asks (List Warning)
ask_before_end place p g o ws = needed place BeforeEnd p (formed (minus g.extent o (negsuc 3))) ws

-- a cell of another region stays, and one of this region where a constant shows that the four bytes lie apart
abbrev pub is_far : Option Linear → Bool
is_far None = false
is_far (Some d) = not (has_symbol d) && (int_le (pos 4) d.rest || int_le d.rest (negsuc 3))

abbrev pub is_apart : ℕ → Linear → Cell → Bool
is_apart r o c = not (nat_eq c.region r) || is_far (formed (minus c.offset o (pos 0)))

abbrev pub with_cell : List Cell → ℕ → Linear → Option Linear → List Cell
with_cell cells r o None = cells
with_cell cells r o (Some t) = cells ++ record { region = r; offset = o; value = t } ∷ []

abbrev pub cells_after : ℕ → Linear → Option Linear → List Cell → List Cell
cells_after r o value cells = with_cell (filter (is_apart r o) cells) r o value

abbrev pub with_region : Picture → ℕ → Region → Picture
with_region p r g = record { values = p.values; facts = p.facts; labels = p.labels; regions = slice_set p.regions r g; cells = p.cells }

-- the picture with a fresh prefix, which is neither below the old one nor below the end of the store, nor past the extent
abbrev pub with_fresh_prefix : Picture → ℕ → Region → Linear → Picture
with_fresh_prefix p r g end = record {
  values = p.values;
  facts = with_fact (with_fact (with_fact p.facts
      (formed (minus (symbol (next p)) g.written (pos 0))))
      (formed (minus (symbol (next p)) end (pos 0))))
      (formed (minus g.extent (symbol (next p)) (pos 0)));
  labels = p.labels ++ record { name = g.name; part = part.Written } ∷ [];
  regions = slice_set p.regions r (with_prefix g (symbol (next p)));
  cells = p.cells;
}

-- the same by what is added
abbrev pub with_prefix_facts : Linear → Region → Linear → List Row → List Row
with_prefix_facts fresh g end facts = with_fact (with_fact (with_fact facts
    (formed (minus fresh g.written (pos 0))))
    (formed (minus fresh end (pos 0))))
    (formed (minus g.extent fresh (pos 0)))

abbrev pub with_prefix_known : Picture → Linear → Region → Linear → Picture
with_prefix_known p fresh g end = record {
  values = p.values;
  facts = with_prefix_facts fresh g end p.facts;
  labels = p.labels ++ record { name = g.name; part = part.Written } ∷ [];
  regions = p.regions;
  cells = p.cells;
}

abbrev pub grown_to : Picture → ℕ → Region → Linear → Option Linear → Picture
grown_to p r g end None = with_fresh_prefix p r g end
grown_to p r g end (Some w) = with_region p r (with_prefix g w)

-- where the store does not begin past the prefix, the prefix grows to its end; else its bytes are an island
abbrev pub grown : Picture → ℕ → Region → Linear → Bool → Option Linear → Picture
grown p r g o reaches None = p
grown p r g o true (Some end) = grown_to p r g end (greater_end g.written end)
grown p r g o false (Some end) = with_region p r (with_island g (record { start = o; end = end }))

abbrev pub with_cells : Picture → List Cell → Picture
with_cells p cells = record { values = p.values; facts = p.facts; labels = p.labels; regions = p.regions; cells = cells }

-- where the end of the store cannot be formed, nothing is learnt of it
abbrev pub value_at_end : Option Linear → Option Linear → Option Linear
value_at_end None value = None
value_at_end (Some end) value = value

abbrev pub end_of : Linear → Option Linear
end_of o = formed (plus o (constant (pos 4)))

abbrev pub after_store : Picture → ℕ → Region → Linear → Option Linear → Bool → Picture
after_store p r g o value reaches = with_cells (grown p r g o reaches (end_of o)) (cells_after r o (value_at_end (end_of o) value) p.cells)

-- a picture and the warnings so far
pub record Judged : Type 0 where
  pub picture : Picture
  pub warnings : List Warning

-- a store at an offset of a region: its needs, and whether the prefix reaches it
abbrev pub store_at : Place → Picture → ℕ → Region → Linear → Option Linear → List Warning → Asks Judged
store_at place p r g o value ws =
    after_it (bounds place p g o ws) (λ after.
    after_it (ask p.facts (formed (minus g.written o (pos 0)))) (λ x.
    Done (record { picture = after_store p r g o value (is_proved x.1); warnings = after })))

-- the same up to the picture: what is needed, and whether the prefix reaches the store
pub record Reached : Type 0 where
  pub reaches : Bool
  pub warnings : List Warning

abbrev pub reached : List Warning → Bool → Reached
reached ws b = record { reaches = b; warnings = ws }

abbrev pub reaching : Place → Picture → Region → Linear → List Warning → Asks Reached
reaching place p g o ws =
    after_it (bounds place p g o ws) (λ after.
    after_it (ask p.facts (formed (minus g.written o (pos 0)))) (λ x.
    Done (reached after (is_proved x.1))))

-- a pointer of which nothing is known
abbrev pub store_unknown : Place → Picture → List Warning → Asks Judged
store_unknown place p ws = after_it (needed place Known p (Some never) ws) (λ after. Done (record { picture = p; warnings = after }))

-- the pointer moved by four times the index
abbrev pub offset_of : Linear → Option Linear → Option Linear
offset_of base None = None
offset_of base (Some i) = formed (combined (pos 1) base (pos 4) i (pos 0))

abbrev pub store_in : Place → Picture → ℕ → Option Region → Option Linear → Option Linear → List Warning → Asks Judged
store_in place p r None o value ws = store_unknown place p ws
store_in place p r (Some g) None value ws = store_unknown place p ws
store_in place p r (Some g) (Some o) value ws = store_at place p r g o value ws

abbrev pub store_by : Place → Picture → Option Value → Option Linear → Option Linear → List Warning → Asks Judged
store_by place p None index value ws = store_unknown place p ws
store_by place p (Some (Number t)) index value ws = store_unknown place p ws
store_by place p (Some Unknown) index value ws = store_unknown place p ws
store_by place p (Some (Pointer r base)) index value ws = store_in place p r (slice_get p.regions r) (offset_of base index) value ws

abbrev pub store_rule : ℕ → Simple → Simple → Place → Picture → List Warning → Asks Judged
store_rule array index value place p ws = store_by place p (slice_get p.values array) (number_at p.values index) (number_at p.values value) ws

-- the same rule by the target of the store, where its pointer is known
abbrev pub judged : List Warning → Picture → Judged
judged ws p = record { picture = p; warnings = ws }

abbrev pub target_in : ℕ → Option Region → Option Linear → Option Target
target_in r None o = None
target_in r (Some g) None = None
target_in r (Some g) (Some o) = Some (record { at = r; region = g; offset = o })

abbrev pub target_by : List Region → Option Value → Option Linear → Option Target
target_by regions None index = None
target_by regions (Some (Number t)) index = None
target_by regions (Some Unknown) index = None
target_by regions (Some (Pointer r base)) index = target_in r (slice_get regions r) (offset_of base index)

abbrev pub store_to : Place → Picture → Option Target → Option Linear → List Warning → Asks Judged
store_to place p None value ws = store_unknown place p ws
store_to place p (Some t) value ws = store_at place p t.at t.region t.offset value ws
