-- Parsers that the next token chooses keep the laws: a token and what follows it, bars, choices.
use Rattle.std.proofs.Common.{◌≡◌, ◌⊎◌, ℕ, Bool, true, false, ◌||◌, List, [], ◌∷◌, ◌++◌, length, Option, Some, is_some, if◌then◌else◌, refl, sym, ap, ◌∙◌, subst, inl, inr}
use Rattle.sb_parse.specs.Parser.{Outcome, Parser, and_then, ◌>>=◌, taken, done, stop, at_next, never, pure, expect, close, choose, only, guard, refuse}
use Rattle.sb_parse.specs.Lawful.{Part, Stuck, Barred, Lawful, OnHead, Joined, IsToken, IsValue, Begun, IsEmpty, Mapped, Opened, Closed, Unbarred, Either}
use Rattle.sb_parse.proofs.Joining.{same_test, test_of_append, never_next, in_order, via, one_token, one_value, map_of}

-- ---- a token before or after

pub opened : {T A : Type 0} {Is : T → List T → A → Type 0} {more : A → T → Bool} {q : T → Parser T A} (n : ℕ) (test : T → Bool) (t : T) → test t ≡ true
    → ((s : T) → test s ≡ true → Lawful (Is s) more (q s)) → Lawful (Opened test Is) more (expect n test q)
opened {T = T} {A = A} {Is = Is} {q = q} n test t good Q = via (in_order {Second = Is} (one_token n test t good) (λ xs s is. Q s is.passes) (λ xs s ys b rest u v e. never_next (ys ++ rest))) to from (expect n test q) (λ ts. refl)
  where
    to : (ts : List T) (a : A) → Joined (IsToken test) Is ts a → Opened test Is ts a
    to ts a j = record { opening = j.value; rest = j.after; split = j.split ∙ ap (λ z. z ++ j.after) j.first.alone; passes = j.first.passes; is = j.second }

    from : (ts : List T) (a : A) → Opened test Is ts a → Joined (IsToken test) Is ts a
    from ts a o = record { before = o.opening ∷ []; after = o.rest; value = o.opening; split = o.split; first = record { alone = refl; passes = o.passes }; second = o.is }

pub begun : {T A B : Type 0} {Is : A → List T → B → Type 0} {more : B → T → Bool} {q : A → Parser T B} (n : ℕ) (gives : T → Option A) (t : T) (v : A) → gives t ≡ Some v
    → ((s : T) (a : A) → gives s ≡ Some a → Lawful (Is a) more (q a)) → Lawful (Begun gives Is) more (taken n gives >>= q)
begun {T = T} {A = A} {B = B} {Is = Is} {q = q} n gives t v good Q = via (in_order {Second = Is} (one_value n gives t v good) (λ xs a is. Q is.token a is.is) (λ xs a ys b rest u w e. never_next (ys ++ rest))) to from (taken n gives >>= q) (λ ts. refl)
  where
    to : (ts : List T) (b : B) → Joined (IsValue gives) Is ts b → Begun gives Is ts b
    to ts b j = record { opening = j.first.token; value = j.value; rest = j.after; split = j.split ∙ ap (λ z. z ++ j.after) j.first.alone; gives_it = j.first.is; is = j.second }

    from : (ts : List T) (b : B) → Begun gives Is ts b → Joined (IsValue gives) Is ts b
    from ts b o = record { before = o.opening ∷ []; after = o.rest; value = o.value; split = o.split; first = record { token = o.opening; alone = refl; is = o.gives_it }; second = o.is }

pub closed : {T A : Type 0} {Is : List T → A → Type 0} {more : A → T → Bool} {p : Parser T A} (n : ℕ) (test : T → Bool) (t : T) → test t ≡ true
    → Lawful Is more p → ((a : A) (s : T) → test s ≡ true → more a s ≡ false) → Lawful (Closed test Is) (λ _. never) (close n test p)
closed {T = T} {A = A} {Is = Is} {more = more} {p = p} n test t good P apart =
    via (in_order {Second = λ a. Mapped (λ s. a) (IsToken test)} P (λ xs a is. map_of (one_token n test t good) (λ s. a) (λ _. never) (λ s r. refl)) side) to from (close n test p) (λ ts. refl)
  where
    side : (xs : List T) (a : A) (ys : List T) (b : A) (rest : List T) → Is xs a → Mapped (λ s. a) (IsToken test) ys b → at_next never rest ≡ false → at_next (more a) (ys ++ rest) ≡ false
    side xs a ys b rest is m e = ap (λ z. at_next (more a) (z ++ rest)) m.is.alone ∙ apart a m.value m.is.passes

    to : (ts : List T) (a : A) → Joined Is (λ a. Mapped (λ s. a) (IsToken test)) ts a → Closed test Is ts a
    to ts a j = record { front = j.before; closing = j.second.value; split = j.split ∙ ap (λ z. j.before ++ z) j.second.is.alone; is = subst (λ z. Is j.before z) (sym j.second.same) j.first; passes = j.second.is.passes }

    from : (ts : List T) (a : A) → Closed test Is ts a → Joined Is (λ a. Mapped (λ s. a) (IsToken test)) ts a
    from ts a c = record { before = c.front; after = c.closing ∷ []; value = a; split = c.split; first = c.is; second = record { value = c.closing; is = record { alone = refl; passes = c.passes }; same = refl } }

-- ---- at some tokens alone

pub head_of_append : {T : Type 0} (test : T → Bool) (ts rest : List T) → at_next test ts ≡ true → at_next test (ts ++ rest) ≡ true
head_of_append test [] rest h = absurd (cc h)
head_of_append test (t ∷ ts) rest h = h

pub headed : {T A : Type 0} {Is : List T → A → Type 0} {more : A → T → Bool} {p : Parser T A} → Lawful Is more p
    → (goes : T → Bool) → ((ts : List T) (a : A) → Is ts a → at_next goes ts ≡ true) → OnHead goes Is more p
headed P goes heads = record {
  sound = λ ts a rest h e. P.sound ts a rest e;
  complete = P.complete;
  stuck = λ ts n left h e. inl (P.stuck ts n left e);
  heads = heads;
}

pub opened_heads : {T A : Type 0} {test : T → Bool} {Is : T → List T → A → Type 0} (ts : List T) (a : A) → Opened test Is ts a → at_next test ts ≡ true
opened_heads {test = test} ts a o = ap (at_next test) o.split ∙ o.passes

pub begun_heads : {T A B : Type 0} {gives : T → Option A} {Is : A → List T → B → Type 0} (ts : List T) (b : B) → Begun gives Is ts b → at_next (λ t. is_some (gives t)) ts ≡ true
begun_heads {gives = gives} ts b o = ap (at_next (λ t. is_some (gives t))) o.split ∙ ap is_some o.gives_it

-- a parser that is never asked for what it could read
pub barred : {T A : Type 0} (goes : T → Bool) (Is : List T → A → Type 0) (more : A → T → Bool) (n : ℕ) → ((ts : List T) (a : A) → Is ts a → ⊥) → OnHead goes Is more (refuse n)
barred goes Is more n empty = record {
  sound = λ ts a rest h e. absurd (cc e);
  complete = λ ts a rest is e. absurd (empty ts a is);
  stuck = λ ts m left h e.
      let number : n ≡ m = cc e in
      let lefts : left ≡ length ts = cc e in
      inr (record { left_is = lefts; sticks = λ x same. ap (λ i. stop i (length x)) number });
  heads = λ ts a is. absurd (empty ts a is);
}

pub guarded : {T A : Type 0} {goes : T → Bool} {Is : List T → A → Type 0} {more : A → T → Bool} {p : Parser T A} (bar : Bool) (n : ℕ)
    → (bar ≡ false → OnHead goes Is more p) → OnHead goes (Unbarred bar Is) more (guard bar n p)
guarded true n P = record {
  sound = λ ts a rest h e. absurd (cc e);
  complete = λ ts a rest is e. absurd (cc is.open_way);
  stuck = λ ts m left h e.
      let number : n ≡ m = cc e in
      let lefts : left ≡ length ts = cc e in
      inr (record { left_is = lefts; sticks = λ x same. ap (λ i. stop i (length x)) number });
  heads = λ ts a is. absurd (cc is.open_way);
}
guarded {T = T} {A = A} {Is = Is} {p = p} false n P = record {
  sound = λ ts a rest h e. let u : Part _ _ a ts rest = (P refl).sound ts a rest h e in record { front = u.front; split = u.split; is = record { open_way = refl; is = u.is }; ends = u.ends };
  complete = λ ts a rest is e. (P refl).complete ts a rest is.is e;
  stuck = λ ts m left h e. wrap ts m left ((P refl).stuck ts m left h e);
  heads = λ ts a is. (P refl).heads ts a is.is;
}
  where
    wrap : (ts : List T) (m left : ℕ) → Stuck Is p ts m left ⊎ Barred p ts m left → Stuck (Unbarred false Is) p ts m left ⊎ Barred p ts m left
    wrap ts m left (inl s) = inl (record { front = s.front; bad = s.bad; split = s.split; left_is = s.left_is; rest = s.rest; tree = s.tree; can = record { open_way = refl; is = s.can }; sticks = s.sticks })
    wrap ts m left (inr b) = inr b

-- the same under other words
pub head_via : {T A : Type 0} {goes : T → Bool} {Is Other : List T → A → Type 0} {more : A → T → Bool} {p : Parser T A} → OnHead goes Is more p
    → ((ts : List T) (a : A) → Is ts a → Other ts a) → ((ts : List T) (a : A) → Other ts a → Is ts a) → (q : Parser T A) → ((ts : List T) → q ts ≡ p ts) → OnHead goes Other more q
head_via {T = T} {A = A} {Is = Is} {Other = Other} {p = p} P to from q same = record {
  sound = λ ts a rest h e. let u : Part _ _ a ts rest = P.sound ts a rest h (sym (same ts) ∙ e) in record { front = u.front; split = u.split; is = to u.front a u.is; ends = u.ends };
  complete = λ ts a rest is e. same (ts ++ rest) ∙ P.complete ts a rest (from ts a is) e;
  stuck = λ ts n left h e. wrap ts n left (P.stuck ts n left h (sym (same ts) ∙ e));
  heads = λ ts a is. P.heads ts a (from ts a is);
}
  where
    wrap : (ts : List T) (n left : ℕ) → Stuck Is p ts n left ⊎ Barred p ts n left → Stuck Other q ts n left ⊎ Barred q ts n left
    wrap ts n left (inl u) = inl (record {
      front = u.front;
      bad = u.bad;
      split = u.split;
      left_is = u.left_is;
      rest = u.rest;
      tree = u.tree;
      can = to (u.front ++ u.rest) u.tree u.can;
      sticks = λ x h. same (u.front ++ x) ∙ u.sticks x h;
    })
    wrap ts n left (inr b) = inr (record { left_is = b.left_is; sticks = λ x h. same x ∙ b.sticks x h })

-- lawful as soon as there is a token that passes
pub at_head : {T A : Type 0} {Is : List T → A → Type 0} {more : A → T → Bool} {p : Parser T A} (goes : T → Bool) → ((t : T) → goes t ≡ true → Lawful Is more p)
    → ((ts : List T) (a : A) → Is ts a → at_next goes ts ≡ true) → OnHead goes Is more p
at_head {T = T} {A = A} {Is = Is} {more = more} {p = p} goes P heads = record { sound = sound; complete = λ ts a rest is e. complete ts a rest (heads ts a is) is e; stuck = stuck; heads = heads }
  where
    sound : (ts : List T) (a : A) (rest : List T) → at_next goes ts ≡ true → p ts ≡ done a rest → Part Is more a ts rest
    sound [] a rest h e = absurd (cc h)
    sound (t ∷ ts) a rest h e = (P t h).sound (t ∷ ts) a rest e

    complete : (ts : List T) (a : A) (rest : List T) → at_next goes ts ≡ true → Is ts a → at_next (more a) rest ≡ false → p (ts ++ rest) ≡ done a rest
    complete [] a rest h is e = absurd (cc h)
    complete (t ∷ ts) a rest h is e = (P t h).complete (t ∷ ts) a rest is e

    stuck : (ts : List T) (n left : ℕ) → at_next goes ts ≡ true → p ts ≡ stop n left → Stuck Is p ts n left ⊎ Barred p ts n left
    stuck [] n left h e = absurd (cc h)
    stuck (t ∷ ts) n left h e = inl ((P t h).stuck (t ∷ ts) n left e)

-- a value changed
pub head_map_of : {T A B : Type 0} {goes : T → Bool} {Is : List T → A → Type 0} {more : A → T → Bool} {p : Parser T A} → OnHead goes Is more p
    → (f : A → B) (other : B → T → Bool) → ((a : A) (t : T) → other (f a) t ≡ more a t) → OnHead goes (Mapped f Is) other (p >>= (λ a. pure (f a)))
head_map_of {T = T} {A = A} {B = B} {goes = goes} {Is = Is} {more = more} {p = p} P f other same = record {
  sound = λ ts b rest k e. read (p ts) ts refl b rest k e;
  complete = λ ts b rest is e.
      let ends : at_next (more is.value) rest ≡ false = sym (next_as is.value rest) ∙ ap (λ z. at_next (other z) rest) (sym is.same) ∙ e in
      ap (λ o. and_then o (λ a. pure (f a))) (P.complete ts is.value rest is.is ends) ∙ ap (λ z. done z rest) (sym is.same);
  stuck = λ ts n left k e. halt (p ts) ts refl n left k e;
  heads = λ ts b is. P.heads ts is.value is.is;
}
  where
    next_as : (a : A) (rest : List T) → at_next (other (f a)) rest ≡ at_next (more a) rest
    next_as a [] = refl
    next_as a (t ∷ rest) = same a t

    read : (o : Outcome T A) (ts : List T) → p ts ≡ o → (b : B) (rest : List T) → at_next goes ts ≡ true → and_then o (λ a. pure (f a)) ≡ done b rest → Part (Mapped f Is) other b ts rest
    read (done a r) ts e b rest k h =
        let value : f a ≡ b = cc h in
        let tail : r ≡ rest = cc h in
        let u : Part Is more a ts r = P.sound ts a r k e in
        record {
          front = u.front;
          split = u.split ∙ ap (λ z. u.front ++ z) tail;
          is = record { value = a; is = u.is; same = sym value };
          ends = ap (λ z. at_next (other z) rest) (sym value) ∙ next_as a rest ∙ ap (at_next (more a)) (sym tail) ∙ u.ends;
        }
    read (stop n i) ts e b rest k h = absurd (cc h)

    wrap : (ts : List T) (n left : ℕ) → Stuck Is p ts n left ⊎ Barred p ts n left → Stuck (Mapped f Is) (p >>= (λ a. pure (f a))) ts n left ⊎ Barred (p >>= (λ a. pure (f a))) ts n left
    wrap ts n left (inl u) = inl (record {
      front = u.front;
      bad = u.bad;
      split = u.split;
      left_is = u.left_is;
      rest = u.rest;
      tree = f u.tree;
      can = record { value = u.tree; is = u.can; same = refl };
      sticks = λ x same. ap (λ o. and_then o (λ a. pure (f a))) (u.sticks x same);
    })
    wrap ts n left (inr b) = inr (record { left_is = b.left_is; sticks = λ x same. ap (λ o. and_then o (λ a. pure (f a))) (b.sticks x same) })

    halt : (o : Outcome T A) (ts : List T) → p ts ≡ o → (n left : ℕ) → at_next goes ts ≡ true → and_then o (λ a. pure (f a)) ≡ stop n left
        → Stuck (Mapped f Is) (p >>= (λ a. pure (f a))) ts n left ⊎ Barred (p >>= (λ a. pure (f a))) ts n left
    halt (done a r) ts e n left k h = absurd (cc h)
    halt (stop m i) ts e n left k h =
        let number : m ≡ n = cc h in
        let lefts : i ≡ left = cc h in
        wrap ts n left (P.stuck ts n left k (e ∙ ap (λ z. stop z i) number ∙ ap (stop n) lefts))

-- ---- choices

pub chosen : {T A : Type 0} (goes : T → Bool) (p q : Parser T A) (ts : List T) (b : Bool) → at_next goes ts ≡ b → choose goes p q ts ≡ (if b then p ts else q ts)
chosen goes p q ts b h = ap (λ c. if c then p ts else q ts) h

pub either_passes : {T : Type 0} (g h : T → Bool) (ts : List T) → at_next (λ t. g t || h t) ts ≡ true → at_next g ts ≡ false → at_next h ts ≡ true
either_passes g h [] e off = absurd (cc e)
either_passes g h (t ∷ ts) e off = sym (ap (λ b. b || h t) off) ∙ e

pub passes_first : {T : Type 0} (g h : T → Bool) (ts : List T) → at_next g ts ≡ true → at_next (λ t. g t || h t) ts ≡ true
passes_first g h [] e = absurd (cc e)
passes_first g h (t ∷ ts) e = ap (λ b. b || h t) e

pub passes_second : {T : Type 0} (g h : T → Bool) (ts : List T) → at_next h ts ≡ true → at_next (λ t. g t || h t) ts ≡ true
passes_second g h [] e = absurd (cc e)
passes_second g h (t ∷ ts) e = by_test (g t)
  where
    by_test : (b : Bool) → (b || h t) ≡ true
    by_test true = refl
    by_test false = e

-- What is known of one of two parsers holds of the choice between them, as far as the next token chooses it.
chosen_stuck : {T A : Type 0} {Is Other : List T → A → Type 0} (goes : T → Bool) (p q r : Parser T A) (b : Bool) (ts : List T) (n left : ℕ)
    → at_next goes ts ≡ b → ((x : List T) → (if b then p x else q x) ≡ r x) → ((xs : List T) (a : A) → Is xs a → Other xs a)
    → Stuck Is r ts n left → Stuck Other (choose goes p q) ts n left
chosen_stuck goes p q r b ts n left h same to s = record {
  front = s.front;
  bad = s.bad;
  split = s.split;
  left_is = s.left_is;
  rest = s.rest;
  tree = s.tree;
  can = to (s.front ++ s.rest) s.tree s.can;
  sticks = λ x e. chosen goes p q (s.front ++ x) b (test_of_append goes s.front x s.bad e ∙ ap (at_next goes) (sym s.split) ∙ h) ∙ same (s.front ++ x) ∙ s.sticks x e;
}

chosen_barred : {T A : Type 0} (goes : T → Bool) (p q r : Parser T A) (b : Bool) (ts : List T) (n left : ℕ)
    → at_next goes ts ≡ b → ((x : List T) → (if b then p x else q x) ≡ r x) → Barred r ts n left → Barred (choose goes p q) ts n left
chosen_barred goes p q r b ts n left h same s = record { left_is = s.left_is; sticks = λ x e. chosen goes p q x b (same_test goes x ts e ∙ h) ∙ same x ∙ s.sticks x e }

-- a parser that is barred at its first token is stuck there, if any text there is could stand there
pub barred_stuck : {T A : Type 0} {Is : List T → A → Type 0} {p : Parser T A} {ts : List T} {n left : ℕ} → Barred p ts n left → (xs : List T) (a : A) → Is xs a → Stuck Is p ts n left
barred_stuck {ts = ts} b xs a is = record { front = []; bad = ts; split = refl; left_is = b.left_is; rest = xs; tree = a; can = is; sticks = b.sticks }

module _ {T A : Type 0} {g h : T → Bool} {First Second : List T → A → Type 0} {more : A → T → Bool} {p q : Parser T A} where
  pub either_of : OnHead g First more p → OnHead h Second more q → ((t : T) → h t ≡ true → g t ≡ false) → OnHead (λ t. g t || h t) (Either First Second) more (choose g p q)
  either_of P Q apart = record { sound = sound; complete = complete; stuck = stuck; heads = heads }
    where
      off : (ts : List T) → at_next h ts ≡ true → at_next g ts ≡ false
      off [] e = refl
      off (t ∷ ts) e = apart t e

      sound : (ts : List T) (a : A) (rest : List T) → at_next (λ t. g t || h t) ts ≡ true → choose g p q ts ≡ done a rest → Part (Either First Second) more a ts rest
      sound ts a rest e r = by_test (at_next g ts) refl
        where
          by_test : (b : Bool) → at_next g ts ≡ b → Part (Either First Second) more a ts rest
          by_test true k = let u : Part First more a ts rest = P.sound ts a rest k (sym (chosen g p q ts true k) ∙ r) in record { front = u.front; split = u.split; is = inl u.is; ends = u.ends }
          by_test false k =
              let u : Part Second more a ts rest = Q.sound ts a rest (either_passes g h ts e k) (sym (chosen g p q ts false k) ∙ r) in
              record { front = u.front; split = u.split; is = inr u.is; ends = u.ends }

      complete : (ts : List T) (a : A) (rest : List T) → First ts a ⊎ Second ts a → at_next (more a) rest ≡ false → choose g p q (ts ++ rest) ≡ done a rest
      complete ts a rest (inl is) e = chosen g p q (ts ++ rest) true (head_of_append g ts rest (P.heads ts a is)) ∙ P.complete ts a rest is e
      complete ts a rest (inr is) e = chosen g p q (ts ++ rest) false (off (ts ++ rest) (head_of_append h ts rest (Q.heads ts a is))) ∙ Q.complete ts a rest is e

      first : (ts : List T) (n left : ℕ) → at_next g ts ≡ true → Stuck First p ts n left ⊎ Barred p ts n left → Stuck (Either First Second) (choose g p q) ts n left ⊎ Barred (choose g p q) ts n left
      first ts n left k (inl s) = inl (chosen_stuck g p q p true ts n left k (λ x. refl) (λ xs a is. inl is) s)
      first ts n left k (inr s) = inr (chosen_barred g p q p true ts n left k (λ x. refl) s)

      second : (ts : List T) (n left : ℕ) → at_next g ts ≡ false → Stuck Second q ts n left ⊎ Barred q ts n left → Stuck (Either First Second) (choose g p q) ts n left ⊎ Barred (choose g p q) ts n left
      second ts n left k (inl s) = inl (chosen_stuck g p q q false ts n left k (λ x. refl) (λ xs a is. inr is) s)
      second ts n left k (inr s) = inr (chosen_barred g p q q false ts n left k (λ x. refl) s)

      stuck : (ts : List T) (n left : ℕ) → at_next (λ t. g t || h t) ts ≡ true → choose g p q ts ≡ stop n left → Stuck (Either First Second) (choose g p q) ts n left ⊎ Barred (choose g p q) ts n left
      stuck ts n left e r = by_test (at_next g ts) refl
        where
          by_test : (b : Bool) → at_next g ts ≡ b → Stuck (Either First Second) (choose g p q) ts n left ⊎ Barred (choose g p q) ts n left
          by_test true k = first ts n left k (P.stuck ts n left k (sym (chosen g p q ts true k) ∙ r))
          by_test false k = second ts n left k (Q.stuck ts n left (either_passes g h ts e k) (sym (chosen g p q ts false k) ∙ r))

      heads : (ts : List T) (a : A) → First ts a ⊎ Second ts a → at_next (λ t. g t || h t) ts ≡ true
      heads ts a (inl is) = passes_first g h ts (P.heads ts a is)
      heads ts a (inr is) = passes_second g h ts (Q.heads ts a is)

-- the last alternative: elsewhere there is none
pub only_of : {T A : Type 0} {goes : T → Bool} {Is : List T → A → Type 0} {more : A → T → Bool} {p : Parser T A} (n : ℕ) → OnHead goes Is more p → (xs : List T) (v : A) → Is xs v → Lawful Is more (only n goes p)
only_of {T = T} {A = A} {goes = goes} {Is = Is} {more = more} {p = p} n P xs v can = record { sound = sound; complete = complete; stuck = stuck; some = (xs, v, can) }
  where
    sound : (ts : List T) (a : A) (rest : List T) → only n goes p ts ≡ done a rest → Part Is more a ts rest
    sound ts a rest r = by_test (at_next goes ts) refl
      where
        by_test : (b : Bool) → at_next goes ts ≡ b → Part Is more a ts rest
        by_test true k = P.sound ts a rest k (sym (chosen goes p (refuse n) ts true k) ∙ r)
        by_test false k = absurd (cc (sym (chosen goes p (refuse n) ts false k) ∙ r))

    complete : (ts : List T) (a : A) (rest : List T) → Is ts a → at_next (more a) rest ≡ false → only n goes p (ts ++ rest) ≡ done a rest
    complete ts a rest is e = chosen goes p (refuse n) (ts ++ rest) true (head_of_append goes ts rest (P.heads ts a is)) ∙ P.complete ts a rest is e

    on : (ts : List T) (m left : ℕ) → at_next goes ts ≡ true → Stuck Is p ts m left ⊎ Barred p ts m left → Stuck Is (only n goes p) ts m left
    on ts m left k (inl s) = chosen_stuck goes p (refuse n) p true ts m left k (λ x. refl) (λ xs a is. is) s
    on ts m left k (inr s) = barred_stuck (chosen_barred goes p (refuse n) p true ts m left k (λ x. refl) s) xs v can

    stuck : (ts : List T) (m left : ℕ) → only n goes p ts ≡ stop m left → Stuck Is (only n goes p) ts m left
    stuck ts m left r = by_test (at_next goes ts) refl
      where
        by_test : (b : Bool) → at_next goes ts ≡ b → Stuck Is (only n goes p) ts m left
        by_test true k = on ts m left k (P.stuck ts m left k (sym (chosen goes p (refuse n) ts true k) ∙ r))
        by_test false k =
            let halt : refuse {A = A} n ts ≡ stop m left = sym (chosen goes p (refuse n) ts false k) ∙ r in
            let number : n ≡ m = cc halt in
            let lefts : left ≡ length ts = cc halt in
            barred_stuck (record { left_is = lefts; sticks = λ x e. chosen goes p (refuse n) x false (same_test goes x ts e ∙ k) ∙ ap (λ i. stop i (length x)) number }) xs v can

-- an alternative where the next token passes, and another elsewhere
pub choice_of : {T A : Type 0} {goes : T → Bool} {First Second : List T → A → Type 0} {more : A → T → Bool} {p q : Parser T A} → OnHead goes First more p → Lawful Second more q
    → ((ts : List T) (a : A) (rest : List T) → Second ts a → at_next (more a) rest ≡ false → at_next goes (ts ++ rest) ≡ false) → Lawful (Either First Second) more (choose goes p q)
choice_of {T = T} {A = A} {goes = goes} {First = First} {Second = Second} {more = more} {p = p} {q = q} P Q apart = record { sound = sound; complete = complete; stuck = stuck; some = (Q.some.0, Q.some.1, inr Q.some.2) }
  where
    sound : (ts : List T) (a : A) (rest : List T) → choose goes p q ts ≡ done a rest → Part (Either First Second) more a ts rest
    sound ts a rest r = by_test (at_next goes ts) refl
      where
        by_test : (b : Bool) → at_next goes ts ≡ b → Part (Either First Second) more a ts rest
        by_test true k = let u : Part First more a ts rest = P.sound ts a rest k (sym (chosen goes p q ts true k) ∙ r) in record { front = u.front; split = u.split; is = inl u.is; ends = u.ends }
        by_test false k = let u : Part Second more a ts rest = Q.sound ts a rest (sym (chosen goes p q ts false k) ∙ r) in record { front = u.front; split = u.split; is = inr u.is; ends = u.ends }

    complete : (ts : List T) (a : A) (rest : List T) → First ts a ⊎ Second ts a → at_next (more a) rest ≡ false → choose goes p q (ts ++ rest) ≡ done a rest
    complete ts a rest (inl is) e = chosen goes p q (ts ++ rest) true (head_of_append goes ts rest (P.heads ts a is)) ∙ P.complete ts a rest is e
    complete ts a rest (inr is) e = chosen goes p q (ts ++ rest) false (apart ts a rest is e) ∙ Q.complete ts a rest is e

    on : (ts : List T) (n left : ℕ) → at_next goes ts ≡ true → Stuck First p ts n left ⊎ Barred p ts n left → Stuck (Either First Second) (choose goes p q) ts n left
    on ts n left k (inl s) = chosen_stuck goes p q p true ts n left k (λ x. refl) (λ xs a is. inl is) s
    on ts n left k (inr s) = barred_stuck (chosen_barred goes p q p true ts n left k (λ x. refl) s) Q.some.0 Q.some.1 (inr Q.some.2)

    stuck : (ts : List T) (n left : ℕ) → choose goes p q ts ≡ stop n left → Stuck (Either First Second) (choose goes p q) ts n left
    stuck ts n left r = by_test (at_next goes ts) refl
      where
        by_test : (b : Bool) → at_next goes ts ≡ b → Stuck (Either First Second) (choose goes p q) ts n left
        by_test true k = on ts n left k (P.stuck ts n left k (sym (chosen goes p q ts true k) ∙ r))
        by_test false k = chosen_stuck goes p q q false ts n left k (λ x. refl) (λ xs a is. inr is) (Q.stuck ts n left (sym (chosen goes p q ts false k) ∙ r))

-- the value so far, which goes on exactly where the next token passes, or once more on from it
pub perhaps_of : {T A : Type 0} {goes : T → Bool} {Is : List T → A → Type 0} {more : A → T → Bool} {p : Parser T A} (v : A) → OnHead goes Is more p → ((t : T) → more v t ≡ goes t)
    → Lawful (Either Is (IsEmpty v)) more (choose goes p (pure v))
perhaps_of {T = T} {A = A} {goes = goes} {Is = Is} {more = more} {p = p} v P same = record { sound = sound; complete = complete; stuck = stuck; some = ([], v, inr (record { none = refl; same = refl })) }
  where
    next_as : (ts : List T) → at_next (more v) ts ≡ at_next goes ts
    next_as [] = refl
    next_as (t ∷ ts) = same t

    sound : (ts : List T) (a : A) (rest : List T) → choose goes p (pure v) ts ≡ done a rest → Part (Either Is (IsEmpty v)) more a ts rest
    sound ts a rest r = by_test (at_next goes ts) refl
      where
        by_test : (b : Bool) → at_next goes ts ≡ b → Part (Either Is (IsEmpty v)) more a ts rest
        by_test true k = let u : Part Is more a ts rest = P.sound ts a rest k (sym (chosen goes p (pure v) ts true k) ∙ r) in record { front = u.front; split = u.split; is = inl u.is; ends = u.ends }
        by_test false k =
            let stays : done v ts ≡ done a rest = sym (chosen goes p (pure v) ts false k) ∙ r in
            let value : v ≡ a = cc stays in
            let tail : ts ≡ rest = cc stays in
            record { front = []; split = tail; is = inr (record { none = refl; same = sym value }); ends = ap (λ z. at_next (more z) rest) (sym value) ∙ next_as rest ∙ ap (at_next goes) (sym tail) ∙ k }

    complete : (ts : List T) (a : A) (rest : List T) → Is ts a ⊎ IsEmpty v ts a → at_next (more a) rest ≡ false → choose goes p (pure v) (ts ++ rest) ≡ done a rest
    complete ts a rest (inl is) e = chosen goes p (pure v) (ts ++ rest) true (head_of_append goes ts rest (P.heads ts a is)) ∙ P.complete ts a rest is e
    complete ts a rest (inr is) e =
        ap (λ z. choose goes p (pure v) (z ++ rest)) is.none
        ∙ chosen goes p (pure v) rest false (sym (next_as rest) ∙ ap (λ z. at_next (more z) rest) (sym is.same) ∙ e) ∙ ap (λ z. done z rest) (sym is.same)

    on : (ts : List T) (n left : ℕ) → at_next goes ts ≡ true → Stuck Is p ts n left ⊎ Barred p ts n left → Stuck (Either Is (IsEmpty v)) (choose goes p (pure v)) ts n left
    on ts n left k (inl s) = chosen_stuck goes p (pure v) p true ts n left k (λ x. refl) (λ xs a is. inl is) s
    on ts n left k (inr s) = barred_stuck (chosen_barred goes p (pure v) p true ts n left k (λ x. refl) s) [] v (inr (record { none = refl; same = refl }))

    stuck : (ts : List T) (n left : ℕ) → choose goes p (pure v) ts ≡ stop n left → Stuck (Either Is (IsEmpty v)) (choose goes p (pure v)) ts n left
    stuck ts n left r = by_test (at_next goes ts) refl
      where
        by_test : (b : Bool) → at_next goes ts ≡ b → Stuck (Either Is (IsEmpty v)) (choose goes p (pure v)) ts n left
        by_test true k = on ts n left k (P.stuck ts n left k (sym (chosen goes p (pure v) ts true k) ∙ r))
        by_test false k = absurd (cc (sym (chosen goes p (pure v) ts false k) ∙ r))
