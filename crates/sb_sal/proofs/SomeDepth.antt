-- Where a reader that has laws at each depth stops for want of depth, deeper texts go on.
use Rattle.std.proofs.Common.{◌≡◌, ◌≤◌, ◌<◌, ℕ, suc, Bool, List, [], ◌∷◌, ◌++◌, length, sym, ap, ◌∙◌, subst, arith, append_assoc, append-nil}
use Rattle.sb_base.specs.declared.tokens.Token.{Token}
use Rattle.sb_parse.specs.Parser.{Outcome, Parser, stop}
use Rattle.sb_parse.specs.Lawful.{Part, Stuck, Lawful}
use Rattle.sb_parse.specs.Read.{CanBegin}
use Rattle.sb_lexicon.specs.Tokens.{too_deep}
use Rattle.sb_lexicon.specs.Outcomes.{GoesOn}
use Rattle.sb_sal.proofs.Deepening.{Past, read_past, stopped_past, Deepens}
use Rattle.sb_sal.proofs.ExprDeepening.{same_middle}

-- ---- the place

-- if some text begins with tokens past this one, some text begins with those up to it
begins_past : {A : Type 0} (Is : List Token → A → Type 0) (front : List Token) (t : Token) (rest us vs : List Token) → front ++ (t ∷ rest) ≡ us ++ vs → length vs < length (t ∷ rest) → CanBegin Is us → CanBegin Is (front ++ (t ∷ []))
begins_past Is front t rest us vs e less c =
    let m : (mid : List Token) × (us ≡ front ++ mid) × (t ∷ rest ≡ mid ++ vs) = same_middle us vs front (t ∷ rest) (sym e) (omega arith) in
    by_middle m.0 m.1 m.2
  where
    by_middle : (mid : List Token) → us ≡ front ++ mid → t ∷ rest ≡ mid ++ vs → CanBegin Is (front ++ (t ∷ []))
    by_middle [] f g = let all : suc (length rest) ≡ length vs = ap length g in absurd (omega arith)
    by_middle (s ∷ mid) f g =
        let head : s ≡ t = sym (cc g) in
        let whole : us ++ c.rest ≡ (front ++ (t ∷ [])) ++ (mid ++ c.rest) =
        ap (λ z. z ++ c.rest) (f ∙ ap (λ z. front ++ (z ∷ mid)) head) ∙ append_assoc front (t ∷ mid) c.rest ∙ sym (append_assoc front (t ∷ []) (mid ++ c.rest)) in
        record { rest = mid ++ c.rest; tree = c.tree; is = subst (λ z. Is z c.tree) whole c.is }

-- ---- readers of some depth

module _ {A : Type 0} (Is : List Token → A → Type 0) (depth : A → ℕ) (more : A → Token → Bool) (low : ℕ) (reader : ℕ → Parser Token A)
    (Law : (left : ℕ) → low ≤ left → Lawful (λ ts a. Is ts a × (depth a ≤ left)) more (reader left)) where
  going_on : (m k : ℕ) → low ≤ m → (ts front : List Token) (t : Token) (rest : List Token) → ts ≡ front ++ (t ∷ rest) → k ≡ length (t ∷ rest) → Past k (reader m ts) → CanBegin Is (front ++ (t ∷ []))
  going_on m k enough ts front t rest split left_is (read_past a r e less) =
      let u : Part (λ ts a. Is ts a × (depth a ≤ m)) more a ts r = (Law m enough).sound ts a r e in
      begins_past Is front t rest u.front r (sym split ∙ u.split) (omega arith) (record { rest = []; tree = a; is = subst (λ z. Is z a) (sym (append-nil u.front)) u.is.0 })
  going_on m k enough ts front t rest split left_is (stopped_past n j e less) =
      let s : Stuck (λ ts a. Is ts a × (depth a ≤ m)) (reader m) ts n j = (Law m enough).stuck ts n j e in
      let lefts : j ≡ length s.bad = s.left_is in
      begins_past Is front t rest s.front s.bad (sym split ∙ s.split) (omega arith) (record { rest = s.rest; tree = s.tree; is = s.can.0 })

  no_less : (k : ℕ) (o : Outcome Token A) → Past k o → k ≡ 0 → ⊥
  no_less k o (read_past a r e less) h = omega arith
  no_less k o (stopped_past n j e less) h = omega arith

  pub at_some_depth : (left : ℕ) → low ≤ left → Deepens left reader → (ts : List Token) (k : ℕ) → reader left ts ≡ stop too_deep k → (front bad : List Token) → ts ≡ front ++ bad → k ≡ length bad → GoesOn Is front bad
  at_some_depth left enough D ts k e front [] split left_is = let d : (m : ℕ) × (left ≤ m) × Past k (reader m ts) = D.deeper ts k e in no_less k (reader d.0 ts) d.2 left_is
  at_some_depth left enough D ts k e front (t ∷ rest) split left_is =
      let d : (m : ℕ) × (left ≤ m) × Past k (reader m ts) = D.deeper ts k e in
      going_on d.0 k (let le : left ≤ d.0 = d.1 in omega arith) ts front t rest split left_is d.2
