-- What is known stays so, and once all is known a further round changes nothing.
use Rattle.std.proofs.Common.{◌≡◌, ℕ, zero, suc, ◌<◌, ◌≤◌, List, [], ◌∷◌, length, get_or, set, map, Option, Some, None, true, refl, sym, ap, ◌∙◌, arith, inl, inr}
use Rattle.std.specs.Prelude.{is_some, ◌⊎◌}
use Rattle.std.specs.List.{All, list_all}
use Rattle.std.specs.Option.{option_map}
use Rattle.std.proofs.lemmas.Bool.{cases_eq}
use Rattle.std.proofs.lemmas.List.{length-map, length-set, get_or-map, get_or-set_same, get_or-set_other}
use Rattle.std.proofs.lemmas.List.Elements.{All-set, All-map, All-weaker}
use Rattle.sb_core.specs.declared.layout.Base.{Base}
use Rattle.sb_core.specs.declared.types.Kind.{Kind}
use Rattle.sb_core.specs.declared.types.Kind.TheVariants as kind
use Rattle.sb_core.specs.declared.types.Member.{Member}
use Rattle.sb_core.specs.Layout.{base_at, plus_base, bases_of, base_of, array_of, struct_of, known_after, known_of, IsFounded, base_or_none}
use Rattle.sb_layout.specs.Faults.{IsSmall, IsSmallIf, size_if, IsTooBig, Extends, Grows, IsPart, IfTooBig}
use Rattle.sb_layout.specs.declared.faults.Fault.{Fault}
use Rattle.sb_layout.specs.declared.faults.Fault.TheVariants.{TooBig, Memory}

pub record PlusParts (o : Option Base) (p : Option (List Base)) (bs : List Base) : Type 0 where
  pub first : Base
  pub rest : List Base
  pub first_is : o ≡ Some first
  pub rest_is : p ≡ Some rest
  pub whole : bs ≡ first ∷ rest

pub plus_parts : (o : Option Base) (p : Option (List Base)) (bs : List Base) → plus_base o p ≡ Some bs → PlusParts o p bs
plus_parts None p bs e = absurd (cc)
plus_parts (Some b) None bs e = absurd (cc)
plus_parts (Some b) (Some rest) bs e = record { first = b; rest = rest; first_is = refl; rest_is = refl; whole = cc }

bases_later : (known later : List (Option Base)) → Extends known later → (ms : List Member) (bs : List Base) → bases_of known ms ≡ Some bs → bases_of later ms ≡ Some bs
bases_later known later h [] bs e = e
bases_later known later h (m ∷ ms) bs e =
    let parts = plus_parts (base_at known m.type_id.0) (bases_of known ms) bs e in
    let here : base_at later m.type_id.0 ≡ Some parts.first = h m.type_id.0 parts.first parts.first_is in
    let rest : bases_of later ms ≡ Some parts.rest = bases_later known later h ms parts.rest parts.rest_is in
    rw (here, rest) (ap Some (sym parts.whole))

mapped_later : {A : Type 0} (f : A → Base) (o p : Option A) → ((x : A) → o ≡ Some x → p ≡ Some x) → (b : Base) → option_map f o ≡ Some b → option_map f p ≡ Some b
mapped_later f None p h b e = absurd (cc)
mapped_later f (Some x) p h b e = rw (h x refl) e

pub base_of_later : (known later : List (Option Base)) → Extends known later → (k : Kind) (b : Base) → base_of known k ≡ Some b → base_of later k ≡ Some b
base_of_later known later h kind.Void b e = e
base_of_later known later h (kind.Number bits signed) b e = e
base_of_later known later h (kind.Pointer t) b e = e
base_of_later known later h (kind.Array t count) b e = mapped_later (array_of count) (base_at known t.0) (base_at later t.0) (h t.0) b e
base_of_later known later h (kind.Struct tag members) b e = mapped_later struct_of (bases_of known members.items) (bases_of later members.items) (bases_later known later h members.items) b e

round_later : (known later : List (Option Base)) → Extends known later → (types : List Kind) → Extends (map (base_of known) types) (map (base_of later) types)
round_later known later h [] t b e = absurd (cc)
round_later known later h (k ∷ rest) zero b e = base_of_later known later h k b e
round_later known later h (k ∷ rest) (suc t) b e = round_later known later h rest t b e

none_known : (types : List Kind) (t : ℕ) → base_at (map (λ _. None) types) t ≡ None
none_known [] t = refl
none_known (k ∷ rest) zero = refl
none_known (k ∷ rest) (suc t) = none_known rest t

known_later : (types : List Kind) (n : ℕ) → Extends (known_after types n) (known_after types (suc n))
unfolding known_after
known_later types zero t b e = absurd (cc (none_known types t))
known_later types (suc n) t b e = round_later (known_after types n) (known_after types (suc n)) (known_later types n) types t b e

pub length_known : (types : List Kind) (n : ℕ) → length (known_after types n) ≡ length types
unfolding known_after
length_known types zero = length-map types (λ _. None)
length_known types (suc n) = length-map types (base_of (known_after types n))

same_if_later : (known later : List (Option Base)) → length known ≡ length later → list_all is_some known ≡ true → Extends known later → later ≡ known
same_if_later [] [] l a h = refl
same_if_later [] (y ∷ ys) l a h = absurd (omega arith)
same_if_later (x ∷ xs) [] l a h = absurd (omega arith)
same_if_later (None ∷ xs) (y ∷ ys) l a h = absurd (cc)
same_if_later (Some b ∷ xs) (y ∷ ys) l a h =
    let here : y ≡ Some b = h 0 b refl in
    let rest : ys ≡ xs = same_if_later xs ys (omega arith) a (λ t c e. h (suc t) c e) in
    cc

-- a further round changes nothing
pub known_is_fixed : (types : List Kind) → IsFounded types → map (base_of (known_of types)) types ≡ known_of types
unfolding known_after
known_is_fixed types founded =
    same_if_later (known_of types) (known_after types (suc (length types)))
    (length_known types (length types) ∙ sym (length_known types (suc (length types)))) founded (known_later types (length types))

pub known_at : (types : List Kind) → IsFounded types → (t : ℕ) (d : Kind) → t < length types → base_at (known_of types) t ≡ base_of (known_of types) (get_or types t d)
known_at types founded t d within =
    ap (λ known. base_at known t) (sym (known_is_fixed types founded)) ∙ get_or-map (base_of (known_of types)) types t d None within

-- where a type's parts are known, what they make of it is its base
pub known_of_parts : (types : List Kind) → IsFounded types → (known : List (Option Base)) → IsPart types known → (t : ℕ) (k : Kind) (b : Base) → t < length types → k ≡ get_or types t k → base_of known k ≡ Some b → base_at (known_of types) t ≡ Some b
known_of_parts types founded known part t k b within is e =
    known_at types founded t k within ∙ (ap (base_of (known_of types)) (sym is) ∙ base_of_later known (known_of types) part.extends k b e)

at_set : (known : List (Option Base)) (t : ℕ) (b : Base) (s : ℕ) (c : Base) → t < length known → base_at (set known t (Some b)) s ≡ Some c → ((s ≡ t) × (b ≡ c)) ⊎ (base_at known s ≡ Some c)
at_set known t b s c within e = grind (arith, get_or-set_same, get_or-set_other, cases_eq s t)

pub with_base : (types : List Kind) → IsFounded types → (known : List (Option Base)) → IsPart types known → (t : ℕ) (k : Kind) (b : Base) → t < length types → k ≡ get_or types t k → base_of known k ≡ Some b → IsSmall b → IsPart types (set known t (Some b))
with_base types founded known part t k b within is e small = record {
  extends = λ s c has. elim (at_set known t b s c (rw part.same_length within) has) as (λ _. base_at (known_of types) s ≡ Some c) [
    | inl same ↦ rw (same.0, ← same.1) (known_of_parts types founded known part t k b within is e)
    | inr old ↦ part.extends s c old
  ];
  small = All-set IsSmallIf known t (Some b) small part.small;
  same_length = length-set known t (Some b) ∙ part.same_length;
}

pub set_grows : (known : List (Option Base)) (t : ℕ) (b : Base) → t < length known → Grows known (set known t (Some b))
set_grows known t b within s has = grind (arith, get_or-set_same, get_or-set_other, cases_eq s t)

some_if_big : (o : Option Base) → 2147483648 ≤ size_if o → (b : Base) × (o ≡ Some b)
some_if_big None h = absurd (omega arith)
some_if_big (Some b) h = (b, refl)

pub too_big_of : (types : List Kind) → IsFounded types → (known : List (Option Base)) → IsPart types known → (t : ℕ) (k : Kind) → t < length types → k ≡ get_or types t k → 2147483648 ≤ size_if (base_of known k) → IsTooBig types
too_big_of types founded known part t k within is big =
    let some = some_if_big (base_of known k) big in
    let same : base_at (known_of types) t ≡ base_of known k = known_of_parts types founded known part t k some.0 within is some.1 ∙ sym some.1 in
    record { t = t; big = rw same big }

pub part_of_none : (types : List Kind) → IsPart types (map (λ _. None) types)
part_of_none types = record {
  extends = λ t b e. absurd (cc (none_known types t));
  small = λ t d within. rw (get_or-map (λ _. None) types t kind.Void d (rw (← length-map types (λ _. None)) within)) tt;
  same_length = length-map types (λ _. None);
}

all_known : (known : List (Option Base)) → ((t : ℕ) → t < length known → is_some (base_at known t) ≡ true) → list_all is_some known ≡ true
all_known [] h = refl
all_known (None ∷ xs) h = absurd (let none : is_some (base_at (None ∷ xs) 0) ≡ true = h 0 (omega arith) in cc)
all_known (Some b ∷ xs) h = all_known xs (λ t within. h (suc t) (omega arith))

-- once all is known, a part is the whole
pub whole_part : (types : List Kind) (known : List (Option Base)) → IsPart types known → ((t : ℕ) → t < length types → is_some (base_at known t) ≡ true) → known ≡ known_of types
whole_part types known part h =
    sym (same_if_later known (known_of types) (part.same_length ∙ sym (length_known types (length types)))
    (all_known known (λ t within. h t (rw (← part.same_length) within))) part.extends)

small_mapped : {A : Type 0} (f : A → Option Base) (xs : List A) → All IsSmallIf (map f xs) → All (λ x. IsSmallIf (f x)) xs
small_mapped f xs h t d within = rw (← get_or-map f xs t d None within) (h t None (rw length-map within))

pub whole_small : (types : List Kind) → IsFounded types → All IsSmallIf (known_of types) → All (λ k. IsSmallIf (base_of (known_of types) k)) types
whole_small types founded small = small_mapped (base_of (known_of types)) types (rw (known_is_fixed types founded) small)

pub if_big : {P Q : Type 0} → (P → Q) → (f : Fault) → IfTooBig P f → IfTooBig Q f
if_big h TooBig p = h p
if_big h Memory p = tt

small_base : (o : Option Base) → IsSmallIf o → (base_or_none o).size < 2147483648
small_base None h = omega arith
small_base (Some b) h = h.size

pub small_bases : (known : List (Option Base)) → All IsSmallIf known → All (λ b. b.size < 2147483648) (map base_or_none known)
small_bases known h = All-map (λ b. b.size < 2147483648) base_or_none known (All-weaker IsSmallIf (λ o. (base_or_none o).size < 2147483648) small_base known h)
