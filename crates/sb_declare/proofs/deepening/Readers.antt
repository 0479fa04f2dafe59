-- Where the readers of declarations of a depth stop for want of depth, those of a greater depth go on.
use Rattle.std.proofs.Common.{◌≡◌, ◌≤◌, ℕ, zero, suc, Bool, false, List, length, refl, sym, subst, arith}
use Rattle.sb_base.specs.declared.interning.Name.{Name}
use Rattle.sb_base.specs.declared.tokens.Token.{Token}
use Rattle.sb_parse.specs.Parser.{stop}
use Rattle.sb_tree.specs.Trees.{TypeTree}
use Rattle.sb_lexicon.specs.Lexicon.{Lexicon}
use Rattle.sb_lexicon.specs.Tokens.{too_deep}
use Rattle.sb_sal.proofs.Deepening.{Past, Shrinks, Deepens, shrinks_refuse, shrinks_choose}
use Rattle.sb_sal.proofs.Lowered.{same_from, raised}
use Rattle.sb_specifier.specs.declared.seat.Seat.{Seat}
use Rattle.sb_specifier.specs.declared.seat.Seat.TheVariants as seat
use Rattle.sb_specifier.specs.Specified.{reading}
use Rattle.sb_specifier.specs.Readers.{Declarations, barred, specifiers}
use Rattle.sb_declare.specs.Readers.{opening, declaration_at, declaration_in, declaration_reader}
use Rattle.sb_declarator.specs.Readers.{on, parts}
use Rattle.sb_declare.proofs.widening.Readers.{declaration_reader_wider}
use Rattle.sb_declare.proofs.deepening.Each.{members_shrink_at, parameters_shrink_at, specifiers_deepen_each, declarators_deepen_each}
use Rattle.sb_declare.proofs.deepening.Barred.{FromDepth, begins, opening_past}
use Rattle.sb_initialiser.proofs.deepening.Initialisers.{initialiser_deepens}
use Rattle.sb_declare.proofs.deepening.Declarations.{declaration_deepens, declaration_past}

barred_shrinks : {A : Type 0} (w : Lexicon) (at : Seat) → Shrinks {A = A} (barred w at)
barred_shrinks w at =
    shrinks_choose _ _ _ (shrinks_refuse _) (shrinks_choose _ _ _ (shrinks_refuse _) (shrinks_choose _ _ _ (shrinks_refuse _) (shrinks_choose _ _ _ (shrinks_refuse _)
    (shrinks_choose _ _ _ (shrinks_refuse _) (shrinks_choose _ _ _ (shrinks_refuse _) (shrinks_choose _ _ _ (shrinks_refuse _) (shrinks_refuse _)))))))

module _ (texts : List (List ℕ)) where
  pub scope_specifiers : (n : ℕ) (types : List Name) → Deepens n (λ m. specifiers texts seat.Scope m (parts texts m) types)
  scope_specifiers n types = specifiers_deepen_each texts n seat.Scope types

  pub scope_declarators : (n : ℕ) (types : List Name) (functions : Bool) (base : TypeTree) → Deepens n (λ m. on texts m (parts texts m) types functions false base)
  scope_declarators n types functions base = declarators_deepen_each texts n types functions false base

  -- with room
  pub declaration_deepens_at : (n : ℕ) (types : List Name) → Deepens n (λ m. declaration_at texts m (parts texts m) types)
  declaration_deepens_at n types = declaration_deepens texts n (parts texts) (scope_specifiers n) (scope_declarators n) (λ types. initialiser_deepens (reading texts types) n) types

  reader_shrinks : (m : ℕ) (types : List Name) → Shrinks (declaration_reader texts m types)
  reader_shrinks zero types = barred_shrinks (reading texts types) seat.Scope
  reader_shrinks (suc zero) types = barred_shrinks (reading texts types) seat.Scope
  reader_shrinks (suc (suc m)) types = (declaration_deepens_at 0 types).shrinks (suc m) (omega arith)

  -- without room: some reader gets past the first token
  barred_deeper : (n : ℕ) → n ≤ 2 → (types : List Name) (ts : List Token) (left : ℕ) → barred {A = Declarations} (reading texts types) seat.Scope ts ≡ stop too_deep left
      → (m : ℕ) × (n ≤ m) × Past left (declaration_reader texts m types ts)
  barred_deeper n small types ts left e =
      let it : (left ≡ length ts) × FromDepth texts types seat.Scope ts = begins Declarations texts types seat.Scope ts left e in
      let far : ℕ = suc it.1.0 in
      let enough : it.1.0 ≤ far = omega arith in
      let least : 0 ≤ far = omega arith in
      let P : Past (length ts) (opening texts far (parts texts far) types ts) =
      opening_past texts types far (parts texts far) (members_shrink_at texts far) (parameters_shrink_at texts far) ts (it.1.1 far enough (parts texts far) (members_shrink_at texts far)) in (
        suc far,
        omega (arith, small),
        declaration_past texts 0 (parts texts) (scope_specifiers 0) (scope_declarators 0) (λ types. initialiser_deepens (reading texts types) 0) types far least left ts
            (subst (λ z. Past z (opening texts far (parts texts far) types ts)) (sym it.0) P),
      )

  pub declaration_reader_deepens : (n : ℕ) (types : List Name) → Deepens n (λ m. declaration_reader texts m types)
  declaration_reader_deepens zero types =
      record { wide = λ m le. declaration_reader_wider texts 0 m le types; shrinks = λ m le. reader_shrinks m types; deeper = λ ts left e. barred_deeper 0 (omega arith) types ts left e }
  declaration_reader_deepens (suc zero) types =
      record { wide = λ m le. declaration_reader_wider texts 1 m le types; shrinks = λ m le. reader_shrinks m types; deeper = λ ts left e. barred_deeper 1 (omega arith) types ts left e }
  declaration_reader_deepens (suc (suc n)) types =
      raised (suc n) (λ m. declaration_reader texts m types) (same_from (suc n) (λ m. declaration_at texts m (parts texts m) types) (λ m. declaration_in texts m types) alike (declaration_deepens_at (suc n) types))
    where
      alike : (m : ℕ) → suc n ≤ m → declaration_in texts m types ≡ declaration_at texts m (parts texts m) types
      alike zero le = absurd (omega arith)
      alike (suc m) le = refl
