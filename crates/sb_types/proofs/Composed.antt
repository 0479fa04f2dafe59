-- Up from the parts that are one type to the composite.
use Rattle.std.proofs.lemmas.List.{reverse-append}
use Rattle.std.proofs.Common.{◌≡◌, ℕ, ◌<◌, List, [], ◌∷◌, ◌++◌, subst, reverse, length, Some, slice_get, ap, ◌∙◌, arith}
use Rattle.std.proofs.lemmas.Option.{slice_get_within}
use Rattle.sb_core.specs.declared.types.Kind.{Kind}
use Rattle.sb_core.specs.declared.types.Kind.TheVariants as kind
use Rattle.sb_core.specs.declared.types.TypeId.{TypeId}
use Rattle.sb_typing.specs.TypeLaws.{IsOrdered}
use Rattle.sb_types.specs.declared.composite.Step.{Step}
use Rattle.sb_types.specs.declared.composite.Step.TheVariants as step
use Rattle.sb_types.specs.declared.table.TypeTable.{TypeTable}
use Rattle.sb_types.specs.Composite.{known_length, IsComposite, of_one, of_pointers, of_arrays}
use Rattle.sb_types.specs.Steps.{IsStep, Leads, nowhere, further, LeadsToOne, above, IsRising}
use Rattle.sb_types.specs.Table.{IsTypeTable, Keeps, kinds_of}
use Rattle.sb_types.proofs.Rising.{before_kind}

-- ---- types that stay

abbrev Stay : (ks ls : List Kind) → Type 0
Stay ks ls = (t : ℕ) (k : Kind) → slice_get ks t ≡ Some k → slice_get ls t ≡ Some k

step_stays : (ks ls : List Kind) → Stay ks ls → (s : Step) (t u a b : TypeId) → IsStep ks s t u a b → IsStep ls s t u a b
step_stays ks ls h step.Pointer t u a b s = (h t.0 (kind.Pointer a) s.0, h u.0 (kind.Pointer b) s.1)
step_stays ks ls h (step.Array count) t u a b s = record {
  m = s.m;
  n = s.n;
  left = h t.0 (kind.Array a s.m) s.left;
  right = h u.0 (kind.Array b s.n) s.right;
  agree = s.agree;
  known = s.known;
}

leads_stay : (ks ls : List Kind) → Stay ks ls → (a b : TypeId) (steps : List Step) (x y : TypeId) → Leads ks a b steps x y → Leads ls a b steps x y
leads_stay ks ls h a b _ _ _ nowhere = nowhere
leads_stay ks ls h a b _ _ _ (further s rest t u x y l one) = further s rest t u x y (leads_stay ks ls h a b rest t u l) (step_stays ks ls h s t u x y one)

composite_stays : (ks ls : List Kind) → Stay ks ls → (a b c : TypeId) → IsComposite ks a b c → IsComposite ls a b c
composite_stays ks ls h _ _ _ (of_one t u e) = of_one t u e
composite_stays ks ls h _ _ _ (of_pointers t u p a b c e f g below) =
    of_pointers t u p a b c (h t.0 (kind.Pointer a) e) (h u.0 (kind.Pointer b) f) (h p.0 (kind.Pointer c) g) (composite_stays ks ls h a b c below)
composite_stays ks ls h _ _ _ (of_arrays t u p a b c m n e f g agree below) =
    of_arrays t u p a b c m n (h t.0 (kind.Array a m) e) (h u.0 (kind.Array b n) f) (h p.0 (kind.Array c (known_length m n)) g) agree
    (composite_stays ks ls h a b c below)

-- ---- one step up

composed : (ks ls : List Kind) → Stay ks ls → (s : Step) (t u a b c p : TypeId) → IsStep ks s t u a b → IsComposite ks a b c → slice_get ls p.0 ≡ Some (above s c)
    → IsComposite ls t u p
composed ks ls h step.Pointer t u a b c p s below e =
    of_pointers t u p a b c (h t.0 (kind.Pointer a) s.0) (h u.0 (kind.Pointer b) s.1) e (composite_stays ks ls h a b c below)
composed ks ls h (step.Array count) t u a b c p s below e =
    of_arrays t u p a b c s.m s.n (h t.0 (kind.Array a s.m) s.left) (h u.0 (kind.Array b s.n) s.right)
    (e ∙ ap (λ n. Some (kind.Array c n)) s.known) s.agree (composite_stays ks ls h a b c below)

-- the last step down, and what it came from
pub record LastStep (ks : List Kind) (a b : TypeId) (s : Step) (rest : List Step) (x y : TypeId) : Type 0 where
  pub left : TypeId
  pub right : TypeId
  pub leads : Leads ks a b rest left right
  pub step : IsStep ks s left right x y

pub last_step : (ks : List Kind) (a b : TypeId) (s : Step) (rest : List Step) (x y : TypeId) → Leads ks a b (s ∷ rest) x y → LastStep ks a b s rest x y
last_step ks a b s rest x y (further _ _ t u _ _ l one) = record { left = t; right = u; leads = l; step = one }

pub risen : (before between after : TypeTable) (s : Step) (rest : List Step) (a b c p : TypeId) → IsRising before between (s ∷ rest) a b c → Keeps between after
    → IsTypeTable after → slice_get (kinds_of after) p.0 ≡ Some (above s c) → IsRising before after rest a b p
risen before between after s rest a b c p h keeps table e =
    let last = last_step (kinds_of between) a b s rest h.left h.right h.leads in
    record {
      left = last.left;
      right = last.right;
      leads = leads_stay (kinds_of between) (kinds_of after) keeps a b rest last.left last.right last.leads;
      composite = composed (kinds_of between) (kinds_of after) keeps s last.left last.right h.left h.right c p last.step h.composite e;
      table = table;
      keeps = λ t k there. keeps t k (h.keeps t k there);
    }

pub begun : (table : TypeTable) (steps : List Step) (a b end : TypeId) → IsTypeTable table → LeadsToOne (kinds_of table) steps a b end → IsRising table table steps a b end
begun table steps a b end h way = record {
  left = end;
  right = way.other;
  leads = way.leads;
  composite = of_one end way.other way.one;
  table = h;
  keeps = λ t k there. there;
}

at_end : (ks : List Kind) (a b x y c : TypeId) → Leads ks a b [] x y → IsComposite ks x y c → IsComposite ks a b c
at_end ks a b _ _ c nowhere h = h

pub ended : (before after : TypeTable) (a b c : TypeId) → IsRising before after [] a b c → IsComposite (kinds_of after) a b c
ended before after a b c h = at_end (kinds_of after) a b h.left h.right c h.leads h.composite

-- ---- the table holds what a step needs

first_within : (ks : List Kind) → IsOrdered ks → (s : Step) (t u a b : TypeId) → IsStep ks s t u a b → a.0 < length ks
first_within ks o step.Pointer t u a b s =
    let before : a.0 < t.0 = before_kind ks o t.0 (kind.Pointer a) s.0 in
    let within : t.0 < length ks = slice_get_within ks t.0 (kind.Pointer a) s.0 in omega arith
first_within ks o (step.Array count) t u a b s =
    let before : a.0 < t.0 = before_kind ks o t.0 (kind.Array a s.m) s.left in
    let within : t.0 < length ks = slice_get_within ks t.0 (kind.Array a s.m) s.left in omega arith

composite_within : (ks : List Kind) (a b c : TypeId) → IsComposite ks a b c → a.0 < length ks → c.0 < length ks
composite_within ks _ _ _ (of_one t u e) h = h
composite_within ks _ _ _ (of_pointers t u p a b c e f g below) h = slice_get_within ks p.0 (kind.Pointer c) g
composite_within ks _ _ _ (of_arrays t u p a b c m n e f g agree below) h = slice_get_within ks p.0 (kind.Array c (known_length m n)) g

pub rising_within : (before after : TypeTable) (s : Step) (rest : List Step) (a b c : TypeId) → IsRising before after (s ∷ rest) a b c → c.0 < length (kinds_of after)
rising_within before after s rest a b c h =
    let last = last_step (kinds_of after) a b s rest h.left h.right h.leads in
    composite_within (kinds_of after) h.left h.right c h.composite
    (first_within (kinds_of after) h.table.ordered s last.left last.right h.left h.right last.step)

pub rising_along : (before after : TypeTable) (steps more : List Step) (a b c : TypeId) → steps ≡ more → IsRising before after steps a b c → IsRising before after more a b c
rising_along before after steps more a b c e h = subst (λ (xs : List Step). IsRising before after xs a b c) e h

pub turned : (xs ys : List Step) (s : Step) → xs ≡ ys ++ s ∷ [] → reverse xs ≡ s ∷ reverse ys
turned xs ys s e = ap reverse e ∙ reverse-append ys (s ∷ [])

pub leads_along : (ks : List Kind) (a b : TypeId) (steps more : List Step) (x y : TypeId) → steps ≡ more → Leads ks a b steps x y → Leads ks a b more x y
leads_along ks a b steps more x y e h = subst (λ (xs : List Step). Leads ks a b xs x y) e h
