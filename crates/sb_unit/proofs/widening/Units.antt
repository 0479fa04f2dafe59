-- The readers of translation units of each depth, and those of a greater one.
use Rattle.std.proofs.Common.{◌≡◌, ◌≤◌, ℕ, zero, suc, true, false, Option, Some, None, List, [], ◌∷◌, ◌++◌, length, refl, subst, arith}
use Rattle.sb_base.specs.declared.interning.Name.{Name}
use Rattle.sb_base.specs.declared.refusals.Place.{Place}
use Rattle.sb_base.specs.declared.tokens.Token.{Token}
use Rattle.sb_parse.specs.Parser.{Parser, stop, ◌>>=◌, pure, refuse, choose, looped}
use Rattle.sb_parse.specs.Lawful.{Lawful}
use Rattle.sb_tree.specs.Plain.{decl_list}
use Rattle.sb_tree.specs.Trees as tree
use Rattle.sb_tree.specs.Trees.{depth_of_decls}
use Rattle.sb_lexicon.specs.Tokens.{unexpected, too_deep}
use Rattle.sb_lexicon.specs.Outcomes.{GoesOn}
use Rattle.sb_lexicon.proofs.Wider.{Wider, one_by_one, before, choosing, turning}
use Rattle.sb_sal.proofs.EveryDepth.{at_every_depth, at_end}
use Rattle.sb_specifier.specs.declared.seat.Seat.TheVariants as seat
use Rattle.sb_declare.specs.Readers as declaring
use Rattle.sb_specifier.specs.Readers.{specifiers, place_of_base, Declarations, Declarator, ends_nameless}
use Rattle.sb_declare.specs.Readers.{Opening}
use Rattle.sb_declarator.specs.Readers.{parts}
use Rattle.sb_specifier.specs.Specified.{reading}
use Rattle.sb_declare.proofs.widening.Declarations.{opening_then, declarator_in_wider, rest_wider, nameless_wider}
use Rattle.sb_declare.proofs.widening.Each.{each_specifiers, each_declarator}
use Rattle.sb_initialiser.proofs.widening.Initialisers.{initialiser_wider}
use Rattle.sb_unit.specs.Readers.{defines, defined, external_behind, external, unit_reader}
use Rattle.sb_statement.specs.Readers.{statements}
use Rattle.sb_unit.specs.Units.{IsUnit}
use Rattle.sb_block.proofs.widening.Statements.{statements_wider}
use Rattle.sb_unit.proofs.laws.Units.{anything, unit_at, unit_law}

module _ (texts : List (List ℕ)) (n m : ℕ) (le : n ≤ m) where
  -- ---- the same at each depth

  declared_alike : (o : Opening) (name : Option (Name × Place)) (types : List Name) → declaring.declared_by texts n (parts texts n) o name types ≡ declaring.declared_by texts m (parts texts m) o name types
  declared_alike o None types = refl
  declared_alike o (Some p) types = refl

  -- ---- functions with their bodies

  module _ (o : Opening) (d : Declarator × ℕ) where
    -- with the typedef names in force in the body and behind it
    abbrev with_body : ℕ → List Name → List Name → Parser Token Declarations
    with_body k inner now = (statements texts k).block false inner >>= (λ s. pure (record { list = declaring.declaration_of texts k (parts texts k) o o.base d.0 tree.NoInit (tree.AStmt s) ∷ []; types = now }))

    body_wider : (inner now : List Name) → Wider (with_body n inner now) (with_body m inner now)
    body_wider inner now = before ((statements texts n).block false inner) ((statements texts m).block false inner) _ ((statements_wider texts n m le).block false inner)

    defined_wider : Wider (defined texts n o d) (defined texts m o d)
    unfolding defined
    defined_wider =
        subst (λ z. Wider (defined texts n o d) (with_body m z (declaring.declared_by texts m (parts texts m) o d.0.name o.specified.types))) (declared_alike o d.0.name d.0.inner)
        (subst (λ z. Wider (defined texts n o d) (with_body m (declaring.declared_by texts n (parts texts n) o d.0.name d.0.inner) z)) (declared_alike o d.0.name o.specified.types)
        (body_wider (declaring.declared_by texts n (parts texts n) o d.0.name d.0.inner) (declaring.declared_by texts n (parts texts n) o d.0.name o.specified.types)))

  -- ---- what follows an opening

  abbrev Specifiers : (types : List Name) → Wider (specifiers texts seat.Scope n (parts texts n) types) (specifiers texts seat.Scope m (parts texts m) types)
  Specifiers = each_specifiers texts seat.Scope n m le

  module _ (o : Opening) where
    behind_wider : (d : Declarator × ℕ) → Wider (external_behind texts n o d) (external_behind texts m o d)
    unfolding external_behind
    behind_wider d = choosing (defines texts n d.0) _ _ _ _ (defined_wider o d) (rest_there d)
      where
        rest_there : (d : Declarator × ℕ) → Wider (declaring.rest_of_declaration texts n (parts texts n) o d) (declaring.rest_of_declaration texts m (parts texts m) o d)
        rest_there d = rest_wider texts n m le (parts texts n) (parts texts m) Specifiers (λ types functions. each_declarator texts types functions false n m le) (λ types. initialiser_wider (reading texts types) n m le) o d

    abbrev after : List Name → ℕ → Parser Token Declarations
    after types k = choose (ends_nameless (reading texts types)) (declaring.nameless texts k (parts texts k) o (place_of_base o.base))
        (declaring.declarator_in texts k (parts texts k) o o.specified.types o.base o.count >>= external_behind texts k o)

    after_wider : (types : List Name) → Wider (after types n) (after types m)
    after_wider types =
        choosing (ends_nameless (reading texts types)) _ _ _ _
        (nameless_wider texts n m le (parts texts n) (parts texts m) Specifiers (λ types functions. each_declarator texts types functions false n m le) (λ types. initialiser_wider (reading texts types) n m le)
        o (place_of_base o.base))
        (one_by_one (declaring.declarator_in texts n (parts texts n) o o.specified.types o.base o.count) (declaring.declarator_in texts m (parts texts m) o o.specified.types o.base o.count)
        (external_behind texts n o) (external_behind texts m o)
        (declarator_in_wider texts n m le (parts texts n) (parts texts m) Specifiers (λ types functions. each_declarator texts types functions false n m le) (λ types. initialiser_wider (reading texts types) n m le)
        o o.specified.types o.base o.count)
        behind_wider)

  -- ---- declarations outside of functions, and units

  pub external_wider : (ds : Declarations) → Wider (external texts n ds) (external texts m ds)
  unfolding external
  external_wider ds =
      before _ _ _
      (opening_then texts n m le (parts texts n) (parts texts m) Specifiers (λ types functions. each_declarator texts types functions false n m le) (λ types. initialiser_wider (reading texts types) n m le)
      ds.types _ _ (λ o. after_wider o ds.types))

  pub unit_wider : (some : 1 ≤ n) (more : 1 ≤ m) → Wider (unit_at texts n some) (unit_at texts m more)
  unit_wider some more = turning anything (external texts n) (external texts m) external_wider (record { list = []; types = [] })

-- ---- what is refused for another reason than depth is refused at every depth

module _ (texts : List (List ℕ)) where
  -- the reader of units that are at most so deep
  unfoldable pub reader_of : ℕ → Parser Token Declarations
  reader_of zero = refuse unexpected
  reader_of (suc below) = looped anything (external texts below) (record { list = []; types = [] })

  pub law_of : (left : ℕ) → 2 ≤ left → Lawful (λ ts ds. IsUnit texts ts ds × (depth_of_decls (decl_list ds.list) ≤ left)) (λ ds t. true) (reader_of left)
  unfolding reader_of
  law_of zero some = absurd (omega arith)
  law_of (suc below) some = unit_law texts below (omega arith)

  wider_of : (n m : ℕ) → 2 ≤ n → n ≤ m → Wider (reader_of n) (reader_of m)
  unfolding reader_of
  wider_of zero m some le = absurd (omega arith)
  wider_of (suc n) zero some le = absurd (omega arith)
  wider_of (suc n) (suc m) some le = unit_wider texts n m (omega arith) (omega arith) (omega arith)

  pub unit_at_every_depth : (ts : List Token) (n k : ℕ) → unit_reader texts ts ≡ stop n k → (n ≡ too_deep → ⊥) → (front bad : List Token) → ts ≡ front ++ bad → k ≡ length bad → GoesOn (IsUnit texts) front bad → ⊥
  unfolding reader_of
  unit_at_every_depth ts n k e = at_every_depth (IsUnit texts) (λ ds. depth_of_decls (decl_list ds.list)) (λ ds t. true) 2 reader_of law_of wider_of 200 (omega arith) ts n k e

  pub unit_at_end : (ts : List Token) (n k : ℕ) → unit_reader texts ts ≡ stop n k → (n ≡ too_deep → ⊥) → (front bad : List Token) → ts ≡ front ++ bad → bad ≡ [] → (ds : Declarations) → IsUnit texts front ds → ⊥
  unfolding reader_of
  unit_at_end ts n k e = at_end (IsUnit texts) (λ ds. depth_of_decls (decl_list ds.list)) (λ ds t. true) 2 reader_of law_of wider_of 200 (omega arith) ts n k e
