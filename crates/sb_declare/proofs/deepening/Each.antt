-- Where the readers of members and parameters of a depth stop for want of depth, those of some greater depth get past that token; and so those of specifiers and declarators.
use Rattle.std.proofs.Common.{◌≡◌, ◌≤◌, ◌-◌, ◌+◌, ℕ, zero, suc, Bool, true, List, ◌∷◌, length, refl, sym, ap, ◌∙◌, subst, arith}
use Rattle.sb_base.specs.declared.interning.Name.{Name}
use Rattle.sb_base.specs.declared.tokens.Token.{Token}
use Rattle.sb_parse.specs.Parser.{stop, at_next}
use Rattle.sb_sign.specs.declared.sign.Keyword.TheVariants as keyword
use Rattle.sb_tree.specs.Trees.{TypeTree}
use Rattle.sb_parse.specs.Descent.{descent}
use Rattle.sb_lexicon.specs.Lexicon.{is_keyword}
use Rattle.sb_lexicon.specs.Tokens.{too_deep}
use Rattle.sb_parse.proofs.Descending.{descent_from}
use Rattle.sb_sal.proofs.Deepening.{Past, Shrinks, Deepens, shrinks_by_law}
use Rattle.sb_sal.proofs.Lowered.{same_from, raised}
use Rattle.sb_sal.proofs.NoteDeepening.{notes_deepen}
use Rattle.sb_specifier.specs.declared.seat.Seat.{Seat}
use Rattle.sb_specifier.specs.declared.seat.Seat.TheVariants as seat
use Rattle.sb_specifier.specs.Specified.{reading}
use Rattle.sb_specifier.specs.Readers.{Declarations, barred, specifiers, goes_on_void}
use Rattle.sb_declarator.specs.Readers.{on, members, parameters_at, whole_parts, no_parts, parts_at, parts}
use Rattle.sb_declare.proofs.deepening.Barred.{begins, parameters_past}
use Rattle.sb_declarator.proofs.deepening.Declarators.{on_deepens}
use Rattle.sb_declare.proofs.widening.Each.{barred_below, void_below, volatile_below}
use Rattle.sb_declarator.proofs.deepening.Members.{members_deepen, parameters_deepen}
use Rattle.sb_specifier.proofs.laws.More.{FitsMembers, more_members, FitsParameters, more_parameters}
use Rattle.sb_specifier.proofs.deepening.Specifiers.{specifiers_deepen}
use Rattle.sb_declarator.proofs.laws.Parts.{members_below, parameters_below}
use Rattle.sb_declare.proofs.deepening.Void.{void_past}

module _ (texts : List (List ℕ)) where
  -- ---- what is left

  pub members_shrink_at : (m k : ℕ) → 2 ≤ m - k → (types : List Name) → Shrinks ((parts texts m k).members types)
  members_shrink_at m k enough types = shrinks_by_law (FitsMembers texts (m - k) types) (more_members texts) ((parts texts m k).members types) (members_below texts m k enough types)

  pub parameters_shrink_at : (m k : ℕ) → 2 ≤ m - k → (types : List Name) → Shrinks ((parts texts m k).parameters types)
  parameters_shrink_at m k enough types = shrinks_by_law (FitsParameters texts (m - k) types) (more_parameters texts) ((parts texts m k).parameters types) (parameters_below texts m k enough types)

  -- ---- parameters of some depth, by their first tokens

  -- a depth as great as one likes
  abbrev depth : ℕ → ℕ → ℕ
  depth b k = suc (suc b) + k

  whole_there : (b : ℕ) → parts texts (suc (suc b)) 0 ≡ whole_parts texts (suc b) (parts texts (suc b))
  unfolding descent
  whole_there b = refl

  parts_there : (b k : ℕ) → parts texts (depth b k) k ≡ whole_parts texts (suc b) (parts texts (suc b))
  parts_there b k =
      let same : depth b k - k ≡ suc (suc b) = omega arith in
      descent_from (no_parts texts) (parts_at texts) (depth b k) k ∙ ap (λ n. parts texts n 0) same ∙ whole_there b

  pub parameters_past_barred : (types : List Name) (n k : ℕ) (ts : List Token) (left : ℕ) → barred {A = Declarations} (reading texts types) seat.Prototype ts ≡ stop too_deep left
      → (m : ℕ) × (n ≤ m) × (2 ≤ m - k) × Past left ((parts texts m k).parameters types ts)
  parameters_past_barred types n k ts left e =
      let it = begins Declarations texts types seat.Prototype ts left e in
      let b : ℕ = n + it.1.0 in
      let past : Past (length ts) (parameters_at texts (suc b) (parts texts (suc b)) types ts) =
      parameters_past texts types (suc b) (parts texts (suc b)) (members_shrink_at (suc b)) (parameters_shrink_at (suc b)) ts (it.1.1 (suc b) (omega arith) (parts texts (suc b)) (members_shrink_at (suc b))) in
      (depth b k, omega arith, omega arith, subst (λ p. Past left (p.parameters types ts)) (sym (parts_there b k)) (subst (λ z. Past z (parameters_at texts (suc b) (parts texts (suc b)) types ts)) (sym it.0) past))

  pub parameters_past_void : (types : List Name) (n k : ℕ) (v : Token) (ts : List Token) → is_keyword (reading texts types) keyword.Void v ≡ true → at_next (goes_on_void (reading texts types)) ts ≡ true
      → (m : ℕ) × (n ≤ m) × (2 ≤ m - k) × Past (length ts) ((parts texts m k).parameters types (v ∷ ts))
  parameters_past_void types n k v ts void goes =
      let b : ℕ = suc n in
      let past : Past (length ts) (parameters_at texts (suc b) (parts texts (suc b)) types (v ∷ ts)) =
      void_past texts types (suc b) (parts texts (suc b)) (members_shrink_at (suc b)) (parameters_shrink_at (suc b)) (omega arith) v ts void goes in
      (depth b k, omega arith, omega arith, subst (λ p. Past (length ts) (p.parameters types (v ∷ ts))) (sym (parts_there b k)) past)

  -- ---- each depth

  -- the parts of this depth and of all smaller ones
  abbrev Above : ℕ → Type 0
  Above n = (k : ℕ) → 2 ≤ n - k → (types : List Name) → Deepens n (λ m. (parts texts m k).members types) × Deepens n (λ m. (parts texts m k).parameters types)

  specifiers_above : (seat : Seat) (n : ℕ) → Above n → (types : List Name) → Deepens n (λ m. specifiers texts seat m (parts texts m) types)
  specifiers_above seat n P types = specifiers_deepen texts seat (parts texts) types n members_shrink_at (λ k enough types. (P k enough types).0)

  declarators_above : (n : ℕ) → Above n → (types : List Name) (functions may_lack : Bool) (base : TypeTree) → Deepens n (λ m. on texts m (parts texts m) types functions may_lack base)
  declarators_above n P types functions may_lack base =
      on_deepens texts types functions may_lack (parts texts) (λ m k enough. parameters_shrink_at m k enough types) (λ m k enough. barred_below texts m k enough types) (parameters_past_barred types)
      (λ m k enough. void_below texts m k enough types) (λ m k enough. volatile_below texts m k enough types) (λ n k v ts void unclosed plain goes. parameters_past_void types n k v ts void goes) base n
      (λ k enough. (P k enough types).1)

  members_as : (types : List Name) (n m : ℕ) → suc n ≤ m → (parts texts (suc m) 0).members types ≡ members texts m (parts texts m) types
  unfolding descent
  members_as types n zero le = absurd (omega arith)
  members_as types n (suc m) le = refl

  parameters_as : (types : List Name) (n m : ℕ) → suc n ≤ m → (parts texts (suc m) 0).parameters types ≡ parameters_at texts m (parts texts m) types
  unfolding descent
  parameters_as types n zero le = absurd (omega arith)
  parameters_as types n (suc m) le = refl

  first_members : (n : ℕ) → Above (suc n) → (types : List Name) → Deepens (suc (suc n)) (λ m. (parts texts m 0).members types)
  first_members n P types =
      raised (suc n) (λ m. (parts texts m 0).members types) (same_from (suc n) (λ m. members texts m (parts texts m) types) (λ m. (parts texts (suc m) 0).members types) (members_as types n)
      (members_deepen texts (suc n) (parts texts) (λ types may. notes_deepen (reading texts types) may (suc n)) (λ seat. specifiers_above seat (suc n) P) (declarators_above (suc n) P) types))

  first_parameters : (n : ℕ) → Above (suc n) → (types : List Name) → Deepens (suc (suc n)) (λ m. (parts texts m 0).parameters types)
  first_parameters n P types =
      raised (suc n) (λ m. (parts texts m 0).parameters types) (same_from (suc n) (λ m. parameters_at texts m (parts texts m) types) (λ m. (parts texts (suc m) 0).parameters types) (parameters_as types n)
      (parameters_deepen texts (suc n) (parts texts) (λ types may. notes_deepen (reading texts types) may (suc n)) (λ seat. specifiers_above seat (suc n) P) (declarators_above (suc n) P) types))

  pub each_parts : (n k : ℕ) → 2 ≤ n - k → (types : List Name) → Deepens n (λ m. (parts texts m k).members types) × Deepens n (λ m. (parts texts m k).parameters types)
  unfolding descent
  each_parts zero k enough types = absurd (omega arith)
  each_parts (suc zero) zero enough types = absurd (omega arith)
  each_parts (suc (suc n)) zero enough types = (first_members n (each_parts (suc n)) types, first_parameters n (each_parts (suc n)) types)
  each_parts (suc n) (suc k) enough types =
      let P = each_parts n k (omega arith) types in
      (raised n (λ m. (parts texts m (suc k)).members types) P.0, raised n (λ m. (parts texts m (suc k)).parameters types) P.1)

  -- ---- specifiers and declarators of each depth

  pub specifiers_deepen_each : (n : ℕ) (seat : Seat) (types : List Name) → Deepens n (λ m. specifiers texts seat m (parts texts m) types)
  specifiers_deepen_each n seat = specifiers_above seat n (each_parts n)

  pub declarators_deepen_each : (n : ℕ) (types : List Name) (functions may_lack : Bool) (base : TypeTree) → Deepens n (λ m. on texts m (parts texts m) types functions may_lack base)
  declarators_deepen_each n = declarators_above n (each_parts n)
