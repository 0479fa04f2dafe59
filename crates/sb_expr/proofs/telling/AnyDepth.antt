-- What a reader of some depth reads is the longest text of all, however deep.
use Rattle.std.proofs.Common.{◌≡◌, ◌≤◌, ◌+◌, ℕ, suc, max, Bool, false, List, [], ◌∷◌, ◌++◌, length, refl, sym, ap, ◌∙◌, subst, arith, length-append}
use Rattle.std.proofs.Math.Nat.{le-max_left, le-max_right}
use Rattle.sb_base.specs.declared.tokens.Token.{Token}
use Rattle.sb_parse.specs.Parser.{Outcome, Parser, done, stop, at_next}
use Rattle.sb_parse.specs.Lawful.{Part, Lawful}
use Rattle.sb_parse.specs.Read.{CanBegin, IsLongest}
use Rattle.sb_parse.proofs.Reading.{longest}
use Rattle.sb_lexicon.specs.Tokens.{too_deep}
use Rattle.sb_lexicon.proofs.Wider.{Held, short, same, Wider}

-- ---- the place

longer : (u : Token) (us ys vs : List Token) → ys ≡ u ∷ (us ++ vs) → length ys ≡ length vs → ⊥
longer u us ys vs e h =
    let sizes : length (us ++ vs) ≡ length us + length vs = length-append us vs in
    let all : length ys ≡ suc (length (us ++ vs)) = ap length e in
    omega arith

-- lists that end alike are alike in front
pub same_front : (xs us ys vs : List Token) → xs ++ ys ≡ us ++ vs → length ys ≡ length vs → (xs ≡ us) × (ys ≡ vs)
same_front [] [] ys vs e h = (refl, e)
same_front [] (u ∷ us) ys vs e h = absurd (longer u us ys vs e h)
same_front (x ∷ xs) [] ys vs e h = absurd (longer x xs vs ys (sym e) (sym h))
same_front (x ∷ xs) (u ∷ us) ys vs e h =
    let head : x ≡ u = cc e in
    let tail : xs ++ ys ≡ us ++ vs = cc e in
    let later : (xs ≡ us) × (ys ≡ vs) = same_front xs us ys vs tail h in
    (ap (λ z. z ∷ xs) head ∙ ap (λ z. u ∷ z) later.0, later.1)

-- ---- readers of some depth

module _ {A : Type 0} (Is : List Token → A → Type 0) (depth : A → ℕ) (more : A → Token → Bool) (reader : ℕ → Parser Token A) (Law : (left : ℕ) → 1 ≤ left → Lawful (λ ts a. Is ts a × (depth a ≤ left)) more (reader left))
    (Wide : (n m : ℕ) → n ≤ m → Wider (reader n) (reader m)) where
  done_wider : (n m : ℕ) → n ≤ m → (ts : List Token) (a : A) (rest : List Token) → reader n ts ≡ done a rest → reader m ts ≡ done a rest
  done_wider n m le ts a rest e = by_held (Wide n m le ts)
    where
      by_held : Held (reader n ts) (reader m ts) → reader m ts ≡ done a rest
      by_held (short k h) = absurd (let both : Path (Outcome Token A) (done a rest) (stop too_deep k) = sym e ∙ h in cc both)
      by_held (same h) = h ∙ e

  -- what is read is the longest text of all, and no token goes on from its tree
  pub longest_of_all : (left : ℕ) (ts : List Token) (a : A) (rest : List Token) → reader left ts ≡ done a rest → IsLongest Is ts a rest × (at_next (more a) rest ≡ false)
  longest_of_all left ts a rest e =
      let u : Part (λ ts a. Is ts a × (depth a ≤ suc left)) more a ts rest = (Law (suc left) (omega arith)).sound ts a rest (done_wider left (suc left) (omega arith) ts a rest e) in
      (record { front = u.front; split = u.split; is = u.is.0; ends = λ t tail next c. none u.front u.split t tail next c }, u.ends)
    where
      none : (front : List Token) → ts ≡ front ++ rest → (t : Token) (tail : List Token) → rest ≡ t ∷ tail → CanBegin Is (front ++ (t ∷ [])) → ⊥
      none front split t tail next c =
          let most : ℕ = max (suc left) (depth c.tree) in
          let enough : suc left ≤ max (suc left) (depth c.tree) = le-max_left (suc left) (depth c.tree) in
          let l : IsLongest (λ ts a. Is ts a × (depth a ≤ max (suc left) (depth c.tree))) ts a rest =
          longest (Law (max (suc left) (depth c.tree)) (omega arith)) ts a rest (done_wider left (max (suc left) (depth c.tree)) (omega arith) ts a rest e) in
          let at : (front ≡ l.front) × (rest ≡ rest) = same_front front l.front rest rest (sym split ∙ l.split) refl in
          l.ends t tail next (record { rest = c.rest; tree = c.tree; is = (subst (λ z. Is ((z ++ (t ∷ [])) ++ c.rest) c.tree) at.0 c.is, le-max_right (suc left) (depth c.tree)) })
