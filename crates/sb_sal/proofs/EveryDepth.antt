-- Where a reader that has laws at each depth stops for another reason than depth, no text goes on, however deep.
use Rattle.std.proofs.Common.{◌≡◌, ◌≤◌, ◌+◌, ℕ, suc, max, Bool, List, [], ◌∷◌, ◌++◌, length, refl, sym, ap, ◌∙◌, subst, arith, length-append}
use Rattle.std.proofs.Math.Nat.{le-max_left, le-max_right}
use Rattle.sb_base.specs.declared.tokens.Token.{Token}
use Rattle.sb_parse.specs.Parser.{Outcome, Parser, done, stop}
use Rattle.sb_parse.specs.Lawful.{Stuck, Lawful}
use Rattle.sb_parse.specs.Read.{CanBegin}
use Rattle.sb_parse.proofs.Reading.{none_goes_on}
use Rattle.sb_lexicon.specs.Tokens.{too_deep}
use Rattle.sb_lexicon.specs.Outcomes.{GoesOn}
use Rattle.sb_lexicon.proofs.Wider.{Held, short, same, Wider}

-- ---- the place

longer : (u : Token) (us ys vs : List Token) → ys ≡ u ∷ (us ++ vs) → length ys ≡ length vs → ⊥
longer u us ys vs e h =
    let sizes : length (us ++ vs) ≡ length us + length vs = length-append us vs in
    let all : length ys ≡ suc (length (us ++ vs)) = ap length e in
    omega arith

-- two ways to split a list are one where the ends are of one length
pub same_front : (xs us ys vs : List Token) → xs ++ ys ≡ us ++ vs → length ys ≡ length vs → (xs ≡ us) × (ys ≡ vs)
same_front [] [] ys vs e h = (refl, e)
same_front [] (u ∷ us) ys vs e h = absurd (longer u us ys vs e h)
same_front (x ∷ xs) [] ys vs e h = absurd (longer x xs vs ys (sym e) (sym h))
same_front (x ∷ xs) (u ∷ us) ys vs e h =
    let head : x ≡ u = cc e in
    let tail : xs ++ ys ≡ us ++ vs = cc e in
    let later : (xs ≡ us) × (ys ≡ vs) = same_front xs us ys vs tail h in
    (ap (λ z. z ∷ xs) head ∙ ap (λ z. u ∷ z) later.0, later.1)

-- what stops otherwise than for want of depth stops so where there is more room
pub held : {A : Type 0} (n k : ℕ) (o other : Outcome Token A) → Held o other → o ≡ stop n k → (n ≡ too_deep → ⊥) → other ≡ stop n k
held {A} n k o other (short left e) h not_deep = absurd (not_deep (let both : Path (Outcome Token A) (stop n k) (stop too_deep left) = sym h ∙ e in cc both))
held n k o other (same e) h not_deep = e ∙ h

-- ---- readers of some depth: `low`: the least depth at which the laws hold

module _ {A : Type 0} (Is : List Token → A → Type 0) (depth : A → ℕ) (more : A → Token → Bool) (low : ℕ) (reader : ℕ → Parser Token A)
    (Law : (left : ℕ) → low ≤ left → Lawful (λ ts a. Is ts a × (depth a ≤ left)) more (reader left)) (Wide : (n m : ℕ) → low ≤ n → n ≤ m → Wider (reader n) (reader m)) where
  -- no text that fits at a depth that is as great or greater
  none_at : (most left : ℕ) → low ≤ left → left ≤ most → (ts : List Token) (n k : ℕ) → reader left ts ≡ stop n k → (n ≡ too_deep → ⊥)
      → (front : List Token) (t : Token) (rest : List Token) → ts ≡ front ++ (t ∷ rest) → k ≡ length (t ∷ rest) → (c : CanBegin Is (front ++ (t ∷ []))) → depth c.tree ≤ most → ⊥
  none_at most left enough le ts n k e not_deep front t rest split left_is c fits =
      let some : low ≤ most = omega arith in
      let s : Stuck (λ ts a. Is ts a × (depth a ≤ most)) (reader most) ts n k = (Law most some).stuck ts n k (held n k (reader left ts) (reader most ts) (Wide left most enough le ts) e not_deep) in
      let at : (front ≡ s.front) × (t ∷ rest ≡ s.bad) = same_front front s.front (t ∷ rest) s.bad (sym split ∙ s.split) (sym left_is ∙ s.left_is) in
      none_goes_on (Law most some) ts n k s t rest (sym at.1) (record { rest = c.rest; tree = c.tree; is = (subst (λ z. Is ((z ++ (t ∷ [])) ++ c.rest) c.tree) at.0 c.is, fits) })

  pub at_every_depth : (left : ℕ) → low ≤ left → (ts : List Token) (n k : ℕ) → reader left ts ≡ stop n k → (n ≡ too_deep → ⊥) → (front bad : List Token) → ts ≡ front ++ bad → k ≡ length bad → GoesOn Is front bad → ⊥
  at_every_depth left enough ts n k e not_deep front [] split left_is c = c
  at_every_depth left enough ts n k e not_deep front (t ∷ rest) split left_is c =
      none_at (max left (depth c.tree)) left enough (le-max_left left (depth c.tree)) ts n k e not_deep front t rest split left_is c (le-max_right left (depth c.tree))

  -- where the tokens end, they are no text of any depth
  pub at_end : (left : ℕ) → low ≤ left → (ts : List Token) (n k : ℕ) → reader left ts ≡ stop n k → (n ≡ too_deep → ⊥) → (front bad : List Token) → ts ≡ front ++ bad → bad ≡ [] → (a : A) → Is front a → ⊥
  at_end left enough ts n k e not_deep front bad split none a is =
      let most : ℕ = max left (depth a) in
      let le : left ≤ most = le-max_left left (depth a) in
      let some : low ≤ most = omega arith in
      let halts : reader most ts ≡ stop n k = held n k (reader left ts) (reader most ts) (Wide left most enough le ts) e not_deep in
      let reads : reader most (front ++ []) ≡ done a [] = (Law most some).complete front a [] (is, le-max_right left (depth a)) refl in
      let both : Path (Outcome Token A) (stop n k) (done a []) = sym halts ∙ ap (reader most) (split ∙ ap (λ z. front ++ z) none) ∙ reads in
      cc both
