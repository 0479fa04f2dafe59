-- Where the readers of translation units stop for want of depth, deeper readers get past that token, and deeper units go on.
use Rattle.std.proofs.Common.{◌≡◌, ◌≤◌, ℕ, suc, Option, Some, None, true, false, List, [], ◌∷◌, ◌++◌, length, refl, ap, ◌∙◌, arith}
use Rattle.sb_base.specs.declared.interning.Name.{Name}
use Rattle.sb_base.specs.declared.refusals.Place.{Place}
use Rattle.sb_base.specs.declared.tokens.Token.{Token}
use Rattle.sb_parse.specs.Parser.{Parser, stop, ◌>>=◌, pure, choose}
use Rattle.sb_tree.specs.Plain.{decl_list}
use Rattle.sb_tree.specs.Trees as tree
use Rattle.sb_tree.specs.Trees.{depth_of_decls}
use Rattle.sb_lexicon.specs.Tokens.{too_deep}
use Rattle.sb_lexicon.specs.Outcomes.{GoesOn}
use Rattle.sb_sal.proofs.Deepening.{Deepens, still_pure, in_order, choosing, turning}
use Rattle.sb_sal.proofs.Lowered.{raised, same_from}
use Rattle.sb_sal.proofs.SomeDepth.{at_some_depth}
use Rattle.sb_declare.specs.Readers as declaring
use Rattle.sb_initialiser.specs.Readers.{initialiser}
use Rattle.sb_specifier.specs.Readers.{place_of_base, Declarations, Declarator, ends_nameless}
use Rattle.sb_declare.specs.Readers.{Opening}
use Rattle.sb_declarator.specs.Readers.{parts}
use Rattle.sb_specifier.specs.Specified.{reading}
use Rattle.sb_declare.proofs.deepening.Declarations.{opening_deepens_then, declarator_in_deepens, rest_deepens, nameless_deepens}
use Rattle.sb_initialiser.proofs.deepening.Initialisers.{initialiser_deepens}
use Rattle.sb_declare.proofs.deepening.Readers.{scope_specifiers, scope_declarators}
use Rattle.sb_unit.specs.Readers.{defines, defined, external_behind, external, unit_reader}
use Rattle.sb_statement.specs.Readers.{statements}
use Rattle.sb_unit.specs.Units.{IsUnit}
use Rattle.sb_block.proofs.deepening.Each.{statements_deepen}
use Rattle.sb_unit.proofs.widening.Units.{reader_of, law_of}
use Rattle.sb_unit.proofs.laws.Units.{anything}

module _ (texts : List (List ℕ)) where
  abbrev Initial : (n : ℕ) (types : List Name) → Deepens n (λ m. initialiser (reading texts types) m)
  Initial n types = initialiser_deepens (reading texts types) n

  -- ---- the same at each depth

  declared_alike : (n m : ℕ) (o : Opening) (name : Option (Name × Place)) (types : List Name) → declaring.declared_by texts m (parts texts m) o name types ≡ declaring.declared_by texts n (parts texts n) o name types
  declared_alike n m o None types = refl
  declared_alike n m o (Some p) types = refl

  module _ (n : ℕ) (o : Opening) where
    -- ---- functions with their bodies

    module _ (d : Declarator × ℕ) where
      -- with the typedef names in force in the body and behind it
      abbrev with_body : ℕ → List Name → List Name → Parser Token Declarations
      with_body m inner now = (statements texts m).block false inner >>= (λ s. pure (record { list = declaring.declaration_of texts m (parts texts m) o o.base d.0 tree.NoInit (tree.AStmt s) ∷ []; types = now }))

      defined_deepens : Deepens n (λ m. defined texts m o d)
      unfolding defined
      defined_deepens =
          same_from n (λ m. with_body m (declaring.declared_by texts n (parts texts n) o d.0.name d.0.inner) (declaring.declared_by texts n (parts texts n) o d.0.name o.specified.types)) (λ m. defined texts m o d)
          (λ m le. ap (λ z. with_body m z (declaring.declared_by texts m (parts texts m) o d.0.name o.specified.types)) (declared_alike n m o d.0.name d.0.inner)
          ∙ ap (with_body m (declaring.declared_by texts n (parts texts n) o d.0.name d.0.inner)) (declared_alike n m o d.0.name o.specified.types))
          (in_order n _ _ ((statements_deepen texts n).block false (declaring.declared_by texts n (parts texts n) o d.0.name d.0.inner)) (λ s. still_pure n _))

    -- ---- what follows an opening

    -- a declaration without a name, or declarators
    abbrev after : List Name → ℕ → Parser Token Declarations
    after types m = choose (ends_nameless (reading texts types)) (declaring.nameless texts m (parts texts m) o (place_of_base o.base))
        (declaring.declarator_in texts m (parts texts m) o o.specified.types o.base o.count >>= external_behind texts m o)

    behind_deepens : (d : Declarator × ℕ) → Deepens n (λ m. external_behind texts m o d)
    unfolding external_behind
    behind_deepens d =
        choosing n (defines texts n d.0) (λ m. defined texts m o d) (λ m. declaring.rest_of_declaration texts m (parts texts m) o d) (defined_deepens d)
        (rest_deepens texts n (parts texts) (scope_specifiers texts n) (scope_declarators texts n) (Initial n) o d)

    after_deepens : (types : List Name) → Deepens n (λ m. after types m)
    after_deepens types =
        choosing n (ends_nameless (reading texts types)) (λ m. declaring.nameless texts m (parts texts m) o (place_of_base o.base))
        (λ m. declaring.declarator_in texts m (parts texts m) o o.specified.types o.base o.count >>= external_behind texts m o)
        (nameless_deepens texts n (parts texts) (scope_specifiers texts n) (scope_declarators texts n) (Initial n) o (place_of_base o.base))
        (in_order n (λ m. declaring.declarator_in texts m (parts texts m) o o.specified.types o.base o.count) (λ m. external_behind texts m o)
        (declarator_in_deepens texts n (parts texts) (scope_specifiers texts n) (scope_declarators texts n) (Initial n) o o.specified.types o.base o.count) behind_deepens)

  -- ---- declarations outside of functions, and units

  pub external_deepens : (n : ℕ) (ds : Declarations) → Deepens n (λ m. external texts m ds)
  unfolding external
  external_deepens n ds =
      in_order n _ _
      (opening_deepens_then texts n (parts texts) (scope_specifiers texts n) (scope_declarators texts n) (Initial n) ds.types
      (λ m o. after n o ds.types m) (λ o. after_deepens n o ds.types))
      (λ new. still_pure n _)

  units_deepen : (n : ℕ) → Deepens (suc n) (reader_of texts)
  unfolding reader_of
  units_deepen n = raised n (reader_of texts) (turning n anything (λ m. external texts m) (external_deepens n) (record { list = []; types = [] }))

  -- where a unit is refused for want of depth, deeper units go on
  pub unit_at_some_depth : (ts : List Token) (k : ℕ) → unit_reader texts ts ≡ stop too_deep k → (front bad : List Token) → ts ≡ front ++ bad → k ≡ length bad → GoesOn (IsUnit texts) front bad
  unfolding reader_of
  unit_at_some_depth ts k e = at_some_depth (IsUnit texts) (λ ds. depth_of_decls (decl_list ds.list)) (λ ds t. true) 2 (reader_of texts) (law_of texts) 200 (omega arith) (units_deepen 199) ts k e
