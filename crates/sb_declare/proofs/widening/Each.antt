-- The readers of members and parameters of each depth, and those of a greater one; and so those of specifiers and declarators.
use Rattle.std.proofs.Common.{◌≡◌, ◌≤◌, ◌-◌, ℕ, zero, suc, Bool, true, false, List, ◌∷◌, length, arith}
use Rattle.sb_base.specs.declared.interning.Name.{Name}
use Rattle.sb_base.specs.declared.tokens.Token.{Token}
use Rattle.sb_parse.specs.Parser.{stop, at_next}
use Rattle.sb_sign.specs.declared.sign.Keyword.TheVariants as keyword
use Rattle.sb_tree.specs.Trees.{TypeTree}
use Rattle.sb_parse.specs.Descent.{descent}
use Rattle.sb_lexicon.specs.Lexicon.{is_keyword}
use Rattle.sb_lexicon.specs.Tokens as expr
use Rattle.sb_lexicon.specs.Tokens.{is_close}
use Rattle.sb_lexicon.proofs.Wider.{Wider}
use Rattle.sb_sal.proofs.NoteWider.{notes_wider}
use Rattle.sb_specifier.specs.declared.seat.Seat.{Seat}
use Rattle.sb_specifier.specs.declared.seat.Seat.TheVariants as seat
use Rattle.sb_specifier.specs.Specified.{reading}
use Rattle.sb_specifier.specs.Readers.{barred, specifiers, goes_on_void}
use Rattle.sb_declarator.specs.Readers.{on, parts}
use Rattle.sb_declare.proofs.widening.Barred.{parameters_barred}
use Rattle.sb_declarator.proofs.widening.Declarators.{BehindVoid, on_wider}
use Rattle.sb_declarator.proofs.widening.Members.{members_wider, parameters_wider}
use Rattle.sb_specifier.proofs.widening.Specifiers.{specifiers_wider}
use Rattle.sb_declare.proofs.widening.Void.{behind_void_alone, volatile_behind_void}

module _ (texts : List (List ℕ)) where
  -- ---- parameters of each depth with room, by their first tokens

  pub barred_below : (m k : ℕ) → 2 ≤ m - k → (types : List Name) → Wider (barred (reading texts types) seat.Prototype) ((parts texts m k).parameters types)
  unfolding descent
  barred_below zero k enough types = absurd (omega arith)
  barred_below (suc zero) zero enough types = absurd (omega arith)
  barred_below (suc (suc m)) zero enough types = parameters_barred texts (suc m) (parts texts (suc m)) types
  barred_below (suc m) (suc k) enough types = barred_below m k (omega arith) types

  pub void_below : (m k : ℕ) → 2 ≤ m - k → (types : List Name) (v : Token) (ts : List Token) → is_keyword (reading texts types) keyword.Void v ≡ true → at_next (is_close (reading texts types)) ts ≡ false
      → at_next (is_keyword (reading texts types) keyword.Volatile) ts ≡ false → at_next (goes_on_void (reading texts types)) ts ≡ false → BehindVoid ((parts texts m k).parameters types (v ∷ ts)) ts
  unfolding descent
  void_below zero k enough types = absurd (omega arith)
  void_below (suc zero) zero enough types = absurd (omega arith)
  void_below (suc (suc m)) zero enough types = behind_void_alone texts (suc m) (parts texts (suc m)) types
  void_below (suc m) (suc k) enough types = void_below m k (omega arith) types

  pub volatile_below : (m k : ℕ) → 2 ≤ m - k → (types : List Name) (v : Token) (ts : List Token) → is_keyword (reading texts types) keyword.Void v ≡ true → at_next (is_keyword (reading texts types) keyword.Volatile) ts ≡ true
      → (parts texts m k).parameters types (v ∷ ts) ≡ stop expr.volatile (length ts)
  unfolding descent
  volatile_below zero k enough types = absurd (omega arith)
  volatile_below (suc zero) zero enough types = absurd (omega arith)
  volatile_below (suc (suc m)) zero enough types = volatile_behind_void texts (suc m) (parts texts (suc m)) types
  volatile_below (suc m) (suc k) enough types = volatile_below m k (omega arith) types

  -- ---- each depth

  -- the parts of these depths and of all smaller ones
  abbrev Above : ℕ → ℕ → Type 0
  Above n m = (k : ℕ) → 2 ≤ n - k → (types : List Name) → Wider ((parts texts n k).members types) ((parts texts m k).members types) × Wider ((parts texts n k).parameters types) ((parts texts m k).parameters types)

  specifiers_above : (seat : Seat) (n m : ℕ) → n ≤ m → Above n m → (types : List Name) → Wider (specifiers texts seat n (parts texts n) types) (specifiers texts seat m (parts texts m) types)
  specifiers_above seat n m le P = specifiers_wider texts seat n m le (parts texts n) (parts texts m) (λ k enough types. (P k enough types).0)

  declarator_above : (types : List Name) (functions may_lack : Bool) (n m : ℕ) → n ≤ m → Above n m → (base : TypeTree)
      → Wider (on texts n (parts texts n) types functions may_lack base) (on texts m (parts texts m) types functions may_lack base)
  declarator_above types functions may_lack n m le P =
      on_wider texts types functions may_lack n m le (parts texts n) (parts texts m) (λ k enough. (P k enough types).1) (λ k enough. barred_below m k enough types)
      (λ k enough. void_below m k enough types) (λ k enough. volatile_below m k enough types)

  pub parts_wider : (n m k : ℕ) → n ≤ m → 2 ≤ n - k → (types : List Name) → Wider ((parts texts n k).members types) ((parts texts m k).members types) × Wider ((parts texts n k).parameters types) ((parts texts m k).parameters types)
  unfolding descent
  parts_wider zero m k le enough types = absurd (omega arith)
  parts_wider (suc zero) m zero le enough types = absurd (omega arith)
  parts_wider (suc n) zero k le enough types = absurd (omega arith)
  parts_wider (suc (suc n)) (suc zero) k le enough types = absurd (omega arith)
  parts_wider (suc (suc n)) (suc (suc m)) zero le enough types =
      let below : suc n ≤ suc m = omega arith in
      let P : Above (suc n) (suc m) = λ k. parts_wider (suc n) (suc m) k below in (
        members_wider texts (suc n) (suc m) below (parts texts (suc n)) (parts texts (suc m)) (λ types. notes_wider (reading texts types) (suc n) (suc m) below) (λ seat. specifiers_above seat (suc n) (suc m) below P)
            (λ types functions may_lack. declarator_above types functions may_lack (suc n) (suc m) below P) types,
        parameters_wider texts (suc n) (suc m) below (parts texts (suc n)) (parts texts (suc m)) (λ types. notes_wider (reading texts types) (suc n) (suc m) below) (λ seat. specifiers_above seat (suc n) (suc m) below P)
            (λ types functions may_lack. declarator_above types functions may_lack (suc n) (suc m) below P) types,
      )
  parts_wider (suc n) (suc m) (suc k) le enough types = parts_wider n m k (omega arith) (omega arith) types

  -- ---- specifiers and declarators of each depth

  pub each_specifiers : (seat : Seat) (n m : ℕ) → n ≤ m → (types : List Name) → Wider (specifiers texts seat n (parts texts n) types) (specifiers texts seat m (parts texts m) types)
  each_specifiers seat n m le = specifiers_above seat n m le (λ k. parts_wider n m k le)

  pub each_declarator : (types : List Name) (functions may_lack : Bool) (n m : ℕ) → n ≤ m → (base : TypeTree) → Wider (on texts n (parts texts n) types functions may_lack base) (on texts m (parts texts m) types functions may_lack base)
  each_declarator types functions may_lack n m le = declarator_above types functions may_lack n m le (λ k. parts_wider n m k le)
