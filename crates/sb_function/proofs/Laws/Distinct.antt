-- Names that differ, and the positions of the parameters that have them.
use Rattle.std.proofs.Common.{◌≡◌, ℕ, zero, suc, Bool, true, false, ◌||◌, List, [], ◌∷◌, Option, Some, None, slice_get, if◌then◌else◌, refl, sym, ap, ◌∙◌, eq-eqb, eqb-true, true≢false}
use Rattle.sb_base.specs.declared.interning.Name.{Name}
use Rattle.sb_function.specs.declared.syntax.Param.{Param}
use Rattle.sb_function.specs.declared.syntax.ParamKind.{ParamKind}
use Rattle.sb_function.specs.Grammar.{same_name, is_among, AreDistinct, names_of}
use Rattle.sb_function.specs.Statements.{found, one_on}

pub same_name_is : (a b : Name) → same_name a b ≡ true → a ≡ b
same_name_is a b h = ap (λ (z : ℕ). let n : Name = record { 0 = z } in n) (eqb-true _ _ h)

pub same_name_refl : (a : Name) → same_name a a ≡ true
same_name_refl a = eq-eqb (a).0 (a).0 refl

pub either_true : (a b : Bool) → (a || b) ≡ true → a ≡ false → b ≡ true
either_true true b h k = absurd (cc k)
either_true false b h k = h

pub is_among_at : (params : List Param) (k : ℕ) (a : Param) → slice_get params k ≡ Some a → is_among a.name (names_of params) ≡ true
is_among_at [] k a h = absurd (cc h)
is_among_at (p ∷ rest) zero a h =
    let same : p ≡ a = cc h in
    ap (λ b. b || is_among a.name (names_of rest)) (ap (λ z. same_name a.name z.name) same ∙ same_name_refl a.name)
is_among_at (p ∷ rest) (suc k) a h = later (same_name a.name p.name) (is_among_at rest k a h)
  where
    later : (b : Bool) → is_among a.name (names_of rest) ≡ true → (b || is_among a.name (names_of rest)) ≡ true
    later true e = refl
    later false e = e

-- where a parameter is found it stands
pub found_is : (n : Name) (params : List Param) (k : ℕ) (x : ParamKind) → found n params ≡ Some (k, x) → (a : Param) × (slice_get params k ≡ Some a) × (a.name ≡ n) × (a.kind ≡ x)
unfolding found
found_is n [] k x h = absurd (cc h)
found_is n (p ∷ rest) k x h = by_name (same_name n p.name) refl h (found_is n rest)
  where
    by_name : (b : Bool) → same_name n p.name ≡ b → (if b then Some (0, p.kind) else one_on (found n rest)) ≡ Some (k, x)
        → ((j : ℕ) (y : ParamKind) → found n rest ≡ Some (j, y) → (a : Param) × (slice_get rest j ≡ Some a) × (a.name ≡ n) × (a.kind ≡ y))
        → (a : Param) × (slice_get (p ∷ rest) k ≡ Some a) × (a.name ≡ n) × (a.kind ≡ x)
    by_name true e h later =
        let pair : Path (ℕ × ParamKind) (0, p.kind) (k, x) = cc h in
        let at_zero : 0 ≡ k = ap (λ z. z.0) pair in
        (p, ap (slice_get (p ∷ rest)) (sym at_zero), sym (same_name_is n p.name e), ap (λ z. z.1) pair)
    by_name false e h later = further (found n rest) refl h
      where
        further : (o : Option (ℕ × ParamKind)) → found n rest ≡ o → one_on o ≡ Some (k, x) → (a : Param) × (slice_get (p ∷ rest) k ≡ Some a) × (a.name ≡ n) × (a.kind ≡ x)
        further None w h = absurd (cc h)
        further (Some f) w h =
            let pair : Path (ℕ × ParamKind) (suc f.0, f.1) (k, x) = cc h in
            let next : suc f.0 ≡ k = ap (λ z. z.0) pair in
            let kind : f.1 ≡ x = ap (λ z. z.1) pair in
            let there : (a : Param) × (slice_get rest f.0 ≡ Some a) × (a.name ≡ n) × (a.kind ≡ f.1) = later f.0 f.1 w in
            (there.0, ap (slice_get (p ∷ rest)) (sym next) ∙ there.1, there.2, there.3 ∙ kind)

-- where a parameter stands, and names differ, it is found by its name
pub is_found : (params : List Param) → AreDistinct (names_of params) → (k : ℕ) (a : Param) → slice_get params k ≡ Some a → found a.name params ≡ Some (k, a.kind)
unfolding found
is_found [] d k a h = absurd (cc h)
is_found (p ∷ rest) d zero a h =
    let same : p ≡ a = cc h in
    ap (λ b. if b then Some (0, p.kind) else one_on (found a.name rest)) (ap (λ z. same_name a.name z.name) same ∙ same_name_refl a.name) ∙ ap (λ z. Some (0, z.kind)) same
is_found (p ∷ rest) d (suc k) a h =
    ap (λ b. if b then Some (0, p.kind) else one_on (found a.name rest)) (differs (same_name a.name p.name) refl) ∙ ap one_on (is_found rest d.1 k a h)
  where
    differs : (b : Bool) → same_name a.name p.name ≡ b → b ≡ false
    differs false e = refl
    differs true e =
        let clash : is_among p.name (names_of rest) ≡ true = ap (λ z. is_among z (names_of rest)) (sym (same_name_is a.name p.name e)) ∙ is_among_at rest k a h in
        absurd (true≢false (sym clash ∙ d.0))
