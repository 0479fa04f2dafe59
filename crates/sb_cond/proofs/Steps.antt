-- Ways of putting parsers together that keep the laws, beside those of sb_parse: other numbers for stops, a token that has to come, and what may follow once.
use Rattle.std.proofs.Common.{◌≡◌, ◌⊎◌, ℕ, Bool, true, false, ◌||◌, List, [], ◌∷◌, ◌++◌, length, refl, sym, ap, ◌∙◌, append-nil, append_assoc, inl, inr, subst}
use Rattle.sb_parse.specs.Parser.{Outcome, Parser, done, stop, at_next, never, ◌>>=◌, pure, token, choose}
use Rattle.sb_parse.specs.Lawful.{Part, Stuck, Barred, Lawful, Follows, OnHead, Joined, IsToken, IsEmpty, Mapped, Closed, Either, Turns, over, turn}
use Rattle.sb_parse.proofs.Joining.{test_of_append, same_test, in_order, via, one_token, map_of}
use Rattle.sb_parse.proofs.Heads.{head_of_append, chosen, barred_stuck}
use Rattle.sb_cond.specs.declared.arithmetic.Operand.{Operand}
use Rattle.sb_cond.specs.declared.sign.ConditionToken.{ConditionToken}
use Rattle.sb_cond.specs.Readers.{Reader, renumbered, telling}

-- ---- other numbers

pub told : {Is : List ConditionToken → Operand → Type 0} {more : Operand → ConditionToken → Bool} {p : Reader} → (f : ℕ → ℕ) → Lawful Is more p → Lawful Is more (telling f p)
told {Is = Is} {more = more} {p = p} f P = record { sound = λ ts a rest e. read (p ts) ts refl a rest e; complete = λ ts a rest is e. ap (renumbered f) (P.complete ts a rest is e); stuck = λ ts n left e. halt (p ts) ts refl n left e; some = P.some }
  where
    read : (o : Outcome ConditionToken Operand) (ts : List ConditionToken) → p ts ≡ o → (a : Operand) (rest : List ConditionToken) → renumbered f o ≡ done a rest → Part Is more a ts rest
    read (done b r) ts e a rest h = P.sound ts a rest (e ∙ h)
    read (stop n k) ts e a rest h = absurd (cc h)

    halt : (o : Outcome ConditionToken Operand) (ts : List ConditionToken) → p ts ≡ o → (n left : ℕ) → renumbered f o ≡ stop n left → Stuck Is (telling f p) ts n left
    halt (done b r) ts e n left h = absurd (cc h)
    halt (stop m k) ts e n left h =
        let number : f m ≡ n = cc h in
        let lefts : left ≡ k = cc h in
        let u : Stuck Is p ts m k = P.stuck ts m k e in
        record {
          front = u.front;
          bad = u.bad;
          split = u.split;
          left_is = lefts ∙ u.left_is;
          rest = u.rest;
          tree = u.tree;
          can = u.can;
          sticks = λ x same. ap (renumbered f) (u.sticks x same) ∙ ap (λ i. stop i (length x)) number;
        }

-- ---- a token that has to come behind a value

pub closed_by : {T A : Type 0} {Is : List T → A → Type 0} {more : A → T → Bool} {p : Parser T A} (number : A → ℕ) (test : T → Bool) (t : T) → test t ≡ true
    → Lawful Is more p → ((a : A) (s : T) → test s ≡ true → more a s ≡ false) → Lawful (Closed test Is) (λ _. never) (p >>= (λ a. token (number a) test >>= (λ s. pure a)))
closed_by {T = T} {A = A} {Is = Is} {more = more} {p = p} number test t good P apart =
    via (in_order {Second = λ a. Mapped (λ s. a) (IsToken test)} P (λ xs a is. map_of (one_token (number a) test t good) (λ s. a) (λ _. never) (λ s r. refl)) side) to from
    (p >>= (λ a. token (number a) test >>= (λ s. pure a))) (λ ts. refl)
  where
    side : (xs : List T) (a : A) (ys : List T) (b : A) (rest : List T) → Is xs a → Mapped (λ s. a) (IsToken test) ys b → at_next never rest ≡ false → at_next (more a) (ys ++ rest) ≡ false
    side xs a ys b rest is m e = ap (λ z. at_next (more a) (z ++ rest)) m.is.alone ∙ apart a m.value m.is.passes

    to : (ts : List T) (a : A) → Joined Is (λ a. Mapped (λ s. a) (IsToken test)) ts a → Closed test Is ts a
    to ts a j = record { front = j.before; closing = j.second.value; split = j.split ∙ ap (λ z. j.before ++ z) j.second.is.alone; is = subst (λ z. Is j.before z) (sym j.second.same) j.first; passes = j.second.is.passes }

    from : (ts : List T) (a : A) → Closed test Is ts a → Joined Is (λ a. Mapped (λ s. a) (IsToken test)) ts a
    from ts a c = record { before = c.front; after = c.closing ∷ []; value = a; split = c.split; first = c.is; second = record { value = c.closing; is = record { alone = refl; passes = c.passes }; same = refl } }

-- ---- what may follow a value once

pub perhaps_there : {T A : Type 0} {goes before : T → Bool} {Is : List T → A → Type 0} {more : A → T → Bool} {p : Parser T A} (v : A) → OnHead goes Is more p → ((t : T) → more v t ≡ (goes t || before t))
    → Follows before (Either Is (IsEmpty v)) more (choose goes p (pure v))
perhaps_there {T = T} {A = A} {goes = goes} {before = before} {Is = Is} {more = more} {p = p} v P same = record { sound = sound; complete = complete; stuck = stuck; some = ([], v, inr (record { none = refl; same = refl })) }
  where
    neither : (ts : List T) → at_next goes ts ≡ false → at_next before ts ≡ false → at_next (more v) ts ≡ false
    neither [] h k = refl
    neither (t ∷ ts) h k = same t ∙ ap (λ b. b || before t) h ∙ k

    first_fails : (b c : Bool) → (b || c) ≡ false → b ≡ false
    first_fails true c h = absurd (cc h)
    first_fails false c h = refl

    not_going : (ts : List T) → at_next (more v) ts ≡ false → at_next goes ts ≡ false
    not_going [] h = refl
    not_going (t ∷ ts) h = first_fails (goes t) (before t) (sym (same t) ∙ h)

    sound : (ts : List T) (a : A) (rest : List T) → at_next before ts ≡ false → choose goes p (pure v) ts ≡ done a rest → Part (Either Is (IsEmpty v)) more a ts rest
    sound ts a rest off r = by_test (at_next goes ts) refl
      where
        by_test : (b : Bool) → at_next goes ts ≡ b → Part (Either Is (IsEmpty v)) more a ts rest
        by_test true k = let u : Part Is more a ts rest = P.sound ts a rest k (sym (chosen goes p (pure v) ts true k) ∙ r) in record { front = u.front; split = u.split; is = inl u.is; ends = u.ends }
        by_test false k =
            let stays : done v ts ≡ done a rest = sym (chosen goes p (pure v) ts false k) ∙ r in
            let value : v ≡ a = cc stays in
            let tail : ts ≡ rest = cc stays in
            record { front = []; split = tail; is = inr (record { none = refl; same = sym value }); ends = ap (λ z. at_next (more z) rest) (sym value) ∙ ap (at_next (more v)) (sym tail) ∙ neither ts k off }

    complete : (ts : List T) (a : A) (rest : List T) → Is ts a ⊎ IsEmpty v ts a → at_next (more a) rest ≡ false → choose goes p (pure v) (ts ++ rest) ≡ done a rest
    complete ts a rest (inl is) e = chosen goes p (pure v) (ts ++ rest) true (head_of_append goes ts rest (P.heads ts a is)) ∙ P.complete ts a rest is e
    complete ts a rest (inr is) e =
        ap (λ z. choose goes p (pure v) (z ++ rest)) is.none
        ∙ chosen goes p (pure v) rest false (not_going rest (ap (λ z. at_next (more z) rest) (sym is.same) ∙ e)) ∙ ap (λ z. done z rest) (sym is.same)

    stuck_on : (ts : List T) (n left : ℕ) → at_next goes ts ≡ true → Stuck Is p ts n left ⊎ Barred p ts n left → Stuck (Either Is (IsEmpty v)) (choose goes p (pure v)) ts n left
    stuck_on ts n left k (inl s) = record {
      front = s.front;
      bad = s.bad;
      split = s.split;
      left_is = s.left_is;
      rest = s.rest;
      tree = s.tree;
      can = inl s.can;
      sticks = λ x e. chosen goes p (pure v) (s.front ++ x) true (test_of_append goes s.front x s.bad e ∙ ap (at_next goes) (sym s.split) ∙ k) ∙ s.sticks x e;
    }
    stuck_on ts n left k (inr s) =
        barred_stuck (record { left_is = s.left_is; sticks = λ x e. chosen goes p (pure v) x true (same_test goes x ts e ∙ k) ∙ s.sticks x e }) [] v (inr (record { none = refl; same = refl }))

    stuck : (ts : List T) (n left : ℕ) → choose goes p (pure v) ts ≡ stop n left → Stuck (Either Is (IsEmpty v)) (choose goes p (pure v)) ts n left
    stuck ts n left r = by_test (at_next goes ts) refl
      where
        by_test : (b : Bool) → at_next goes ts ≡ b → Stuck (Either Is (IsEmpty v)) (choose goes p (pure v)) ts n left
        by_test true k = stuck_on ts n left k (P.stuck ts n left k (sym (chosen goes p (pure v) ts true k) ∙ r))
        by_test false k = absurd (cc (sym (chosen goes p (pure v) ts false k) ∙ r))

-- ---- one more turn at the end

pub turned_once_more : {T A : Type 0} {Turn : A → List T → A → Type 0} (a b c : A) (xs ys : List T) → Turns Turn a xs b → Turn b ys c → Turns Turn a (xs ++ ys) c
turned_once_more {Turn = Turn} _ _ c _ ys (over a) is = subst (λ z. Turns Turn a z c) (append-nil ys) (turn a c c ys [] is (over c))
turned_once_more {Turn = Turn} _ b c _ ys (turn a m z us vs first rest) is =
    subst (λ l. Turns Turn a l c) (sym (append_assoc us vs ys)) (turn a m c us (vs ++ ys) first (turned_once_more m z c vs ys rest is))
