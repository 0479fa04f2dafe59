-- Where the readers of expressions and type names stop for want of depth, deeper readers get past that token.
use Rattle.std.proofs.Common.{◌≡◌, ◌≤◌, ◌<◌, ◌+◌, ℕ, zero, suc, Bool, true, false, max, List, [], ◌∷◌, ◌++◌, length, nat_lt, refl, sym, ap, ◌∙◌, subst, arith, length-append, append_assoc, append-nil}
use Rattle.std.proofs.lemmas.Bool.{ltb-true}
use Rattle.std.proofs.Math.Nat.{le-max_left, le-max_right}
use Rattle.sb_base.specs.declared.tokens.Token.{Token}
use Rattle.sb_parse.specs.Parser.{Outcome, Parser, done, stop, peeked, at_next, refuse}
use Rattle.sb_parse.specs.Lawful.{Part, Stuck, Lawful}
use Rattle.sb_parse.specs.Read.{CanBegin}
use Rattle.sb_parse.proofs.Joining.{next_of_append, test_of_append}
use Rattle.sb_tree.specs.Trees.{depth_of_expr}
use Rattle.sb_parse.specs.Descent.{descent}
use Rattle.sb_expr.specs.Expression.{Level, IsExpr}
use Rattle.sb_lexicon.specs.Lexicon.{Lexicon}
use Rattle.sb_expr.specs.Readers.{begins_at, expr_reader}
use Rattle.sb_lexicon.specs.Tokens.{unexpected, too_deep}
use Rattle.sb_lexicon.specs.Reasons.{IsReason, ends, no_text, deeper, feature, IsRefusedFor}
use Rattle.sb_lexicon.proofs.Depths.{within_room}
use Rattle.sb_expr.proofs.tokens.More.{more}
use Rattle.sb_expr.proofs.Tying.{lawful_parts}
use Rattle.sb_expr.proofs.widening.EachDepth.{parts_wider}
use Rattle.sb_expr.proofs.telling.Reasons.{expr_reason}
use Rattle.sb_lexicon.proofs.Wider.{Wider}
use Rattle.sb_sal.proofs.Deepening.{Past, read_past, stopped_past, Shrinks, Deepens, shrinks_choose, shrinks_refuse, shrinks_by_law}

-- ---- past a token with which a text goes on

-- of two ways to split a list the one with the longer end has the shorter front
pub same_middle : (xs ys us vs : List Token) → xs ++ ys ≡ us ++ vs → length ys ≤ length vs → (mid : List Token) × (xs ≡ us ++ mid) × (vs ≡ mid ++ ys)
same_middle xs ys [] vs e le = (xs, refl, sym e)
same_middle [] ys (u ∷ us) vs e le =
    let sizes : length (us ++ vs) ≡ length us + length vs = length-append us vs in
    let all : length ys ≡ suc (length (us ++ vs)) = ap length e in
    absurd (omega arith)
same_middle (x ∷ xs) ys (u ∷ us) vs e le =
    let head : x ≡ u = cc e in
    let tail : xs ++ ys ≡ us ++ vs = cc e in
    let later : (mid : List Token) × (xs ≡ us ++ mid) × (vs ≡ mid ++ ys) = same_middle xs ys us vs tail le in
    (later.0, ap (λ z. z ∷ xs) head ∙ ap (λ z. u ∷ z) later.1, later.2)

pub past_by_text : {A : Type 0} (Is : List Token → A → Type 0) (more : A → Token → Bool) (p : Parser Token A) → Lawful Is more p → (front : List Token) (t : Token) (rest : List Token) → CanBegin Is (front ++ (t ∷ []))
    → Past (length (t ∷ rest)) (p (front ++ (t ∷ rest)))
past_by_text {A = A} Is more p P front t rest c = by_outcome (p (front ++ (t ∷ rest))) refl
  where
    good : p (front ++ (t ∷ c.rest)) ≡ done c.tree []
    good = ap p (sym (append-nil (front ++ (t ∷ c.rest)))) ∙ P.complete (front ++ (t ∷ c.rest)) c.tree [] (subst (λ z. Is z c.tree) (append_assoc front (t ∷ []) c.rest) c.is) refl

    -- the good text behind an earlier place
    behind : (mid us : List Token) → front ≡ us ++ mid → us ++ (mid ++ (t ∷ c.rest)) ≡ front ++ (t ∷ c.rest)
    behind mid us e = sym (append_assoc us mid (t ∷ c.rest)) ∙ ap (λ z. z ++ (t ∷ c.rest)) (sym e)

    some_left : (mid : List Token) → mid ++ (t ∷ c.rest) ≡ [] → ⊥
    some_left [] e = cc e
    some_left (x ∷ mid) e = cc e

    sooner : (n k : ℕ) → (s : Stuck Is p (front ++ (t ∷ rest)) n k) → length (t ∷ rest) ≤ k → ⊥
    sooner n k s le =
        let lefts : k ≡ length s.bad = s.left_is in
        let m : (mid : List Token) × (front ≡ s.front ++ mid) × (s.bad ≡ mid ++ (t ∷ rest)) = same_middle front (t ∷ rest) s.front s.bad s.split (omega arith) in
        let x : List Token = m.0 ++ (t ∷ c.rest) in
        let next : peeked x ≡ peeked s.bad = next_of_append m.0 (t ∷ c.rest) (t ∷ rest) refl ∙ ap peeked (sym m.2) in
        let both : Path (Outcome Token A) (done c.tree []) (stop n (length x)) = sym good ∙ ap p (sym (behind m.0 s.front m.1)) ∙ s.sticks x next in
        cc both

    ended : (a : A) (r : List Token) → Part Is more a (front ++ (t ∷ rest)) r → length (t ∷ rest) ≤ length r → ⊥
    ended a r u le =
        let m : (mid : List Token) × (front ≡ u.front ++ mid) × (r ≡ mid ++ (t ∷ rest)) = same_middle front (t ∷ rest) u.front r u.split le in
        let x : List Token = m.0 ++ (t ∷ c.rest) in
        let next : at_next (more a) x ≡ false = test_of_append (more a) m.0 (t ∷ c.rest) (t ∷ rest) refl ∙ ap (at_next (more a)) (sym m.2) ∙ u.ends in
        let both : Path (Outcome Token A) (done c.tree []) (done a x) = sym good ∙ ap p (sym (behind m.0 u.front m.1)) ∙ P.complete u.front a x u.is next in
        some_left m.0 (sym (cc both))

    by_left : (k : ℕ) → (k < length (t ∷ rest) → Past (length (t ∷ rest)) (p (front ++ (t ∷ rest)))) → (length (t ∷ rest) ≤ k → ⊥) → Past (length (t ∷ rest)) (p (front ++ (t ∷ rest)))
    by_left k less more = by_test (nat_lt k (length (t ∷ rest))) refl
      where
        by_test : (b : Bool) → nat_lt k (length (t ∷ rest)) ≡ b → Past (length (t ∷ rest)) (p (front ++ (t ∷ rest)))
        by_test true h = less (ltb-true k (length (t ∷ rest)) h)
        by_test false h = absurd (more (within_room k (length (t ∷ rest)) h))

    by_outcome : (o : Outcome Token A) → p (front ++ (t ∷ rest)) ≡ o → Past (length (t ∷ rest)) (p (front ++ (t ∷ rest)))
    by_outcome (done a r) e = by_left (length r) (λ less. read_past a r e less) (ended a r (P.sound (front ++ (t ∷ rest)) a r e))
    by_outcome (stop n k) e = by_left k (λ less. stopped_past n k e less) (sooner n k (P.stuck (front ++ (t ∷ rest)) n k e))

-- ---- readers of some depth

module _ {A : Type 0} (w : Lexicon) (Is : List Token → A → Type 0) (depth : A → ℕ) (more : A → Token → Bool) (reader : ℕ → Parser Token A) (Law : (left : ℕ) → 1 ≤ left → Lawful (λ ts a. Is ts a × (depth a ≤ left)) more (reader left))
    (Wide : (n m : ℕ) → n ≤ m → Wider (reader n) (reader m)) (Reason : (left : ℕ) (ts : List Token) (n k : ℕ) → reader left ts ≡ stop n k → IsRefusedFor w Is ts n k) (None : Shrinks (reader 0)) where
  shrinking : (m : ℕ) → Shrinks (reader m)
  shrinking zero = None
  shrinking (suc m) = shrinks_by_law (λ ts a. Is ts a × (depth a ≤ suc m)) more (reader (suc m)) (Law (suc m) (omega arith))

  getting_past : (n left : ℕ) (ts front : List Token) (t : Token) (rest : List Token) → ts ≡ front ++ (t ∷ rest) → left ≡ length (t ∷ rest) → CanBegin Is (front ++ (t ∷ [])) → (m : ℕ) × (n ≤ m) × Past left (reader m ts)
  getting_past n left ts front t rest split left_is c =
      let m : ℕ = max (suc n) (depth c.tree) in
      let enough : suc n ≤ m = le-max_left (suc n) (depth c.tree) in
      let fits : CanBegin (λ ts a. Is ts a × (depth a ≤ m)) (front ++ (t ∷ [])) = record { rest = c.rest; tree = c.tree; is = (c.is, le-max_right (suc n) (depth c.tree)) } in
      let past : Past (length (t ∷ rest)) (reader m (front ++ (t ∷ rest))) = past_by_text (λ ts a. Is ts a × (depth a ≤ m)) more (reader m) (Law m (omega arith)) front t rest fits in
      (m, omega arith, subst (λ z. Past z (reader m ts)) (sym left_is) (subst (λ z. Past (length (t ∷ rest)) (reader m z)) (sym split) past))

  by_reason : (n left : ℕ) (ts front bad : List Token) (i : ℕ) → ts ≡ front ++ bad → left ≡ length bad → IsReason w Is front bad i → i ≡ too_deep → (m : ℕ) × (n ≤ m) × Past left (reader m ts)
  by_reason n left ts front bad i split left_is ends number = absurd (let both : Path ℕ 31 32 = number in omega arith)
  by_reason n left ts front bad i split left_is (no_text t rest none) number = absurd (let both : Path ℕ 31 32 = number in omega arith)
  by_reason n left ts front bad i split left_is (deeper t rest c) number = getting_past n left ts front t rest split left_is c
  by_reason n left ts front bad i split left_is (feature t rest f shown none) number = absurd (let both : 100 + f ≡ 32 = number in omega arith)

  pub deepens_by_reason : (n : ℕ) → Deepens n reader
  deepens_by_reason n = record {
    wide = λ m le. Wide n m le;
    shrinks = λ m le. shrinking m;
    deeper = λ ts left e. (let r : IsRefusedFor w Is ts too_deep left = Reason n ts too_deep left e in by_reason n left ts r.front r.bad too_deep r.split r.left_is r.reason refl);
  }

-- ---- expressions and type names

module _ (w : Lexicon) where
  no_expr_shrinks : (level : Level) → Shrinks (expr_reader w 0 level)
  unfolding descent
  no_expr_shrinks level = shrinks_choose (begins_at w level) (refuse too_deep) (refuse unexpected) (shrinks_refuse too_deep) (shrinks_refuse unexpected)

  pub expr_deepens : (level : Level) (n : ℕ) → Deepens n (λ m. expr_reader w m level)
  expr_deepens level n =
      deepens_by_reason w (IsExpr w level) depth_of_expr (more w level) (λ left. expr_reader w left level) (λ left some. (lawful_parts w left some).expr level) (λ n m le. (parts_wider w n m 0 le).0 level)
      (λ left ts n k e. expr_reason w left level ts n k e) (no_expr_shrinks level) n
