-- The layout of a table is the one that the layouts of parts give.
use Rattle.std.proofs.Common.{◌≡◌, ℕ, zero, suc, ◌+◌, ◌-◌, ◌<◌, ◌≤◌, List, [], ◌∷◌, length, get_or, map, Option, Some, None, true, refl, sym, ap, ◌∙◌, arith}
use Rattle.std.specs.Prelude.{is_some}
use Rattle.std.specs.List.{All, list_all}
use Rattle.std.specs.Option.{option_map}
use Rattle.std.proofs.lemmas.List.{get_or-map}
use Rattle.std.proofs.lemmas.List.Elements.{All-head, All-tail}
use Rattle.std.proofs.lemmas.Option.{slice_get_within, get_or_from_slice_get}
use Rattle.sb_core.specs.declared.layout.Base.{Base}
use Rattle.sb_core.specs.declared.types.Kind.{Kind}
use Rattle.sb_core.specs.declared.types.Kind.TheVariants as kind
use Rattle.sb_core.specs.declared.types.Member.{Member}
use Rattle.sb_core.specs.declared.types.TypeId.{TypeId}
use Rattle.sb_core.specs.Layout.{Layouts, base_at, bases_of, base_of, array_of, struct_of, rounded, end_from, greatest_align, spots_from, spots_of, known_of, IsFounded, base_or_none, layout_of}
use Rattle.sb_core.specs.Looked.{base_in}
use Rattle.sb_layout.specs.Faults.{IsSmallIf}
use Rattle.sb_layout.specs.Laws.{IsNext, AreInOrder, IsLaidOut, IsFixed}
use Rattle.sb_layout.proofs.Rounding.{rounded_grows, rounded_near, rounded_multiple, align_grows}
use Rattle.sb_layout.proofs.Knowing.{plus_parts, known_at, length_known}

next : (at align : ℕ) → 0 < align → IsNext at align (rounded at align)
next at align h = (rounded_multiple at align h, rounded_grows at align h, rounded_near at align h)

-- what a layout says of a type is what is known of it
at_base : (known : List (Option Base)) (t : ℕ) → get_or (map base_or_none known) t (record { size = 0; align = 1 }) ≡ base_or_none (base_at known t)
at_base [] t = refl
at_base (b ∷ bs) zero = refl
at_base (b ∷ bs) (suc t) = at_base bs t

-- a layout that says of each type what is known of it
abbrev pub SaysKnown : Layouts → List (Option Base) → Type 0
SaysKnown l known = (t : TypeId) → base_in l t ≡ base_or_none (base_at known t.0)

bases_are : (l : Layouts) (known : List (Option Base)) → SaysKnown l known → (ms : List Member) (bs : List Base) → bases_of known ms ≡ Some bs → bs ≡ map (λ m. base_in l m.type_id) ms
bases_are l known same [] bs e = cc
bases_are l known same (m ∷ ms) bs e =
    let parts = plus_parts (base_at known m.type_id.0) (bases_of known ms) bs e in
    let rest : parts.rest ≡ map (λ m. base_in l m.type_id) ms = bases_are l known same ms parts.rest parts.rest_is in
    let first : base_in l m.type_id ≡ parts.first = same m.type_id ∙ ap base_or_none parts.first_is in
    rw (first, ← rest) parts.whole

padding : (end next : ℕ) → 0 < next → end + (rounded end next - end) ≡ rounded end next
padding end next h = let grows : end ≤ rounded end next = rounded_grows end next h in omega arith

in_order : (l : Layouts) (align : ℕ) → 0 < align → (at : ℕ) (ms : List Member) → All (λ m. 0 < (base_in l m.type_id).align) ms → AreInOrder l align at ms (spots_from align at (map (λ m. base_in l m.type_id) ms)) (rounded (end_from at (map (λ m. base_in l m.type_id) ms)) align)
in_order l align h at [] positive = next at align h
in_order l align h at (m ∷ []) positive =
    let here : 0 < (base_in l m.type_id).align = All-head (λ m. 0 < (base_in l m.type_id).align) m [] positive in
    let end : ℕ = rounded at (base_in l m.type_id).align + (base_in l m.type_id).size in
    (next at (base_in l m.type_id).align here, padding end align h, next end align h)
in_order l align h at (m ∷ (n ∷ ms)) positive =
    let here : 0 < (base_in l m.type_id).align = All-head (λ m. 0 < (base_in l m.type_id).align) m (n ∷ ms) positive in
    let rest : All (λ m. 0 < (base_in l m.type_id).align) (n ∷ ms) = All-tail (λ m. 0 < (base_in l m.type_id).align) m (n ∷ ms) positive in
    let there : 0 < (base_in l n.type_id).align = All-head (λ m. 0 < (base_in l m.type_id).align) n ms rest in
    let end : ℕ = rounded at (base_in l m.type_id).align + (base_in l m.type_id).size in
    (next at (base_in l m.type_id).align here, padding end (base_in l n.type_id).align there, in_order l align h end (n ∷ ms) rest)

small_align : (o : Option Base) → IsSmallIf o → 0 < (base_or_none o).align
small_align None h = omega arith
small_align (Some b) h = h.positive

at_small : (known : List (Option Base)) → All IsSmallIf known → (t : ℕ) → IsSmallIf (base_at known t)
at_small [] h t = tt
at_small (b ∷ bs) h zero = All-head IsSmallIf b bs h
at_small (b ∷ bs) h (suc t) = at_small bs (All-tail IsSmallIf b bs h) t

pub record MapParts {A : Type 0} (f : A → Base) (o : Option A) (b : Base) : Type 0 where
  pub part : A
  pub part_is : o ≡ Some part
  pub whole : b ≡ f part

map_parts : {A : Type 0} (f : A → Base) (o : Option A) (b : Base) → option_map f o ≡ Some b → MapParts f o b
map_parts f None b e = absurd (cc)
map_parts f (Some x) b e = record { part = x; part_is = refl; whole = cc }

some_at : (known : List (Option Base)) → list_all is_some known ≡ true → (t : ℕ) → t < length known → (b : Base) × (base_at known t ≡ Some b)
some_at [] h t within = absurd (omega arith)
some_at (None ∷ xs) h t within = absurd (cc)
some_at (Some b ∷ xs) h zero within = (b, refl)
some_at (Some b ∷ xs) h (suc t) within = some_at xs h t (omega arith)

laid_out : (l : Layouts) (known : List (Option Base)) → SaysKnown l known → All IsSmallIf known → (k : Kind) (b : Base) → base_of known k ≡ Some b → IsLaidOut l k (base_or_none (base_of known k)) (spots_of known k)
laid_out l known same small kind.Void b e = (refl, refl)
laid_out l known same small (kind.Number bits signed) b e = (refl, refl)
laid_out l known same small (kind.Pointer t) b e = (refl, refl)
laid_out l known same small (kind.Array t count) b e =
    let parts = map_parts (array_of count) (base_at known t.0) b e in
    rw (same t, parts.part_is) (refl, refl)
laid_out l known same small (kind.Struct tag members) b e =
    let parts = map_parts struct_of (bases_of known members.items) b e in
    let are : parts.part ≡ map (λ m. base_in l m.type_id) members.items = bases_are l known same members.items parts.part parts.part_is in
    let positive : All (λ m. 0 < (base_in l m.type_id).align) members.items = λ i d within. rw (same (get_or members.items i d).type_id) (small_align (base_at known (get_or members.items i d).type_id.0) (at_small known small (get_or members.items i d).type_id.0)) in
    let one : 1 ≤ greatest_align 1 (map (λ m. base_in l m.type_id) members.items) = align_grows 1 (map (λ m. base_in l m.type_id) members.items) in
    rw (parts.part_is, are) (refl, in_order l (greatest_align 1 (map (λ m. base_in l m.type_id) members.items)) (omega arith) 0 members.items positive)

pub layout_is_fixed : (types : List Kind) → IsFounded types → All IsSmallIf (known_of types) → IsFixed types (layout_of types)
layout_is_fixed types founded small t k at =
    let within : t < length types = slice_get_within types t k at in
    let inside : t < length (known_of types) = rw (length_known types (length types)) within in
    let some = some_at (known_of types) founded t inside in
    let known : base_at (known_of types) t ≡ base_of (known_of types) k = known_at types founded t k within ∙ ap (base_of (known_of types)) (get_or_from_slice_get types t k k at) in
    let spots : get_or (map (spots_of (known_of types)) types) t [] ≡ spots_of (known_of types) k = get_or-map (spots_of (known_of types)) types t k [] within ∙ ap (spots_of (known_of types)) (get_or_from_slice_get types t k k at) in
    rw (at_base (known_of types) t, known, spots)
    (laid_out (layout_of types) (known_of types) (λ u. at_base (known_of types) u.0) small k some.0 (sym known ∙ some.1))
