-- lists of names
use Rattle.std.specs.Prelude.{Bool, not, List, ◌∷◌, ◌++◌, filter, nat_eq, nat_lt}
use Rattle.std.specs.List.{list_any}
use Rattle.sb_base.specs.declared.interning.Name.{Name}

abbrev pub is_among : Name → List Name → Bool
is_among n ns = list_any (λ m. nat_eq n.0 m.0) ns

abbrev pub without : Name → List Name → List Name
without n types = filter (λ m. not (nat_eq m.0 n.0)) types

-- the names with this one, in the order of their numbers: those below it, itself, and those above
abbrev pub including : Name → List Name → List Name
including n types = filter (λ m. nat_lt m.0 n.0) types ++ n ∷ filter (λ m. nat_lt n.0 m.0) types
