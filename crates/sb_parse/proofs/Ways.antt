-- More ways of putting parsers together that keep the laws: what may follow, what stops at a token, texts that begin so, turns alone.
use Rattle.std.proofs.Common.{◌≡◌, ◌⊎◌, ℕ, Bool, true, false, ◌||◌, ◌&&◌, List, [], ◌∷◌, ◌++◌, length, Option, Some, None, if◌then◌else◌, refl, sym, ap, ◌∙◌, append-nil, append_assoc, inl, inr, subst}
use Rattle.sb_parse.specs.Parser.{Outcome, Parser, done, stop, peeked, at_next, never, and_then, ◌>>=◌, pure, token, taken, taken_as, choose, refuse, looped}
use Rattle.sb_parse.specs.Lawful.{Part, Stuck, Barred, Lawful, Follows, OnHead, Joined, IsToken, IsValue, IsEmpty, Mapped, Closed, Either, Turns, over, turn}
use Rattle.sb_parse.proofs.Joining.{test_of_append, same_test, in_order, via, goes_on_as, one_token, one_value, map_of, nothing}
use Rattle.sb_parse.proofs.Heads.{head_of_append, chosen, barred_stuck}
use Rattle.sb_parse.proofs.Looping.{looping}

-- ---- truth values

pub first_fails : (b c : Bool) → (b || c) ≡ false → b ≡ false
first_fails true c h = absurd (cc h)
first_fails false c h = refl

pub second_fails : (b c : Bool) → (b || c) ≡ false → c ≡ false
second_fails true c h = absurd (cc h)
second_fails false c h = h

pub or_false : (b : Bool) → (b || false) ≡ b
or_false true = refl
or_false false = refl

pub or_first : (b c : Bool) → b ≡ true → (b || c) ≡ true
or_first b c h = ap (λ z. z || c) h

pub or_second : (b c : Bool) → c ≡ true → (b || c) ≡ true
or_second true c h = refl
or_second false c h = h

pub and_first : (b c : Bool) → (b && c) ≡ true → b ≡ true
and_first true c h = refl
and_first false c h = absurd (cc h)

pub and_second : (b c : Bool) → (b && c) ≡ true → c ≡ true
and_second true c h = h
and_second false c h = absurd (cc h)

pub and_fails : (b c : Bool) → c ≡ false → (b && c) ≡ false
and_fails true c h = h
and_fails false c h = refl

-- ---- other words for what may follow

pub goes_on_where : {T A : Type 0} {Is : List T → A → Type 0} {more : A → T → Bool} {p : Parser T A} → Lawful Is more p
    → (other : A → T → Bool) → ((ts : List T) (a : A) → Is ts a → (t : T) → other a t ≡ more a t) → Lawful Is other p
goes_on_where {T = T} {A = A} {Is = Is} {more = more} P other same = record {
  sound = λ ts a rest e. let u : Part Is more a ts rest = P.sound ts a rest e in record { front = u.front; split = u.split; is = u.is; ends = next_as u.front a u.is rest ∙ u.ends };
  complete = λ ts a rest is e. P.complete ts a rest is (sym (next_as ts a is rest) ∙ e);
  stuck = P.stuck;
  some = P.some;
}
  where
    next_as : (ts : List T) (a : A) → Is ts a → (rest : List T) → at_next (other a) rest ≡ at_next (more a) rest
    next_as ts a is [] = refl
    next_as ts a is (t ∷ rest) = same ts a is t

-- where the next token fails a test, more tokens may be said to go on
pub following_where : {T A : Type 0} {Is : List T → A → Type 0} {more : A → T → Bool} {p : Parser T A} → Lawful Is more p → (before : T → Bool) (other : A → T → Bool)
    → ((ts : List T) (a : A) → Is ts a → (t : T) → other a t ≡ false → more a t ≡ false)
    → ((ts : List T) (a : A) (rest : List T) → Is ts a → at_next before (ts ++ rest) ≡ false → at_next (more a) rest ≡ false → at_next (other a) rest ≡ false)
    → Follows before Is other p
following_where {T = T} {A = A} {Is = Is} {more = more} P before other fewer enough = record {
  sound = λ ts a rest h e.
      let u : Part Is more a ts rest = P.sound ts a rest e in
      record { front = u.front; split = u.split; is = u.is; ends = enough u.front a rest u.is (ap (at_next before) (sym u.split) ∙ h) u.ends };
  complete = λ ts a rest is e. P.complete ts a rest is (weaker ts a is rest e);
  stuck = P.stuck;
  some = P.some;
}
  where
    weaker : (ts : List T) (a : A) → Is ts a → (rest : List T) → at_next (other a) rest ≡ false → at_next (more a) rest ≡ false
    weaker ts a is [] e = refl
    weaker ts a is (t ∷ rest) e = fewer ts a is t e

pub follows_map : {T A B : Type 0} {before : T → Bool} {Is : List T → A → Type 0} {more : A → T → Bool} {p : Parser T A} → Follows before Is more p
    → (f : A → B) (other : B → T → Bool) → ((a : A) (t : T) → other (f a) t ≡ more a t) → Follows before (Mapped f Is) other (p >>= (λ a. pure (f a)))
follows_map {T = T} {A = A} {B = B} {before = before} {Is = Is} {more = more} {p = p} P f other same = record {
  sound = λ ts b rest k e. read (p ts) ts refl b rest k e;
  complete = λ ts b rest is e.
      let ends : at_next (more is.value) rest ≡ false = sym (next_as is.value rest) ∙ ap (λ z. at_next (other z) rest) (sym is.same) ∙ e in
      ap (λ o. and_then o (λ a. pure (f a))) (P.complete ts is.value rest is.is ends) ∙ ap (λ z. done z rest) (sym is.same);
  stuck = λ ts n left e. halt (p ts) ts refl n left e;
  some = (P.some.0, f P.some.1, record { value = P.some.1; is = P.some.2; same = refl });
}
  where
    next_as : (a : A) (rest : List T) → at_next (other (f a)) rest ≡ at_next (more a) rest
    next_as a [] = refl
    next_as a (t ∷ rest) = same a t

    read : (o : Outcome T A) (ts : List T) → p ts ≡ o → (b : B) (rest : List T) → at_next before ts ≡ false → and_then o (λ a. pure (f a)) ≡ done b rest → Part (Mapped f Is) other b ts rest
    read (done a r) ts e b rest k h =
        let value : f a ≡ b = cc h in
        let tail : r ≡ rest = cc h in
        let u : Part Is more a ts r = P.sound ts a r k e in
        record {
          front = u.front;
          split = u.split ∙ ap (λ z. u.front ++ z) tail;
          is = record { value = a; is = u.is; same = sym value };
          ends = ap (λ z. at_next (other z) rest) (sym value) ∙ next_as a rest ∙ ap (at_next (more a)) (sym tail) ∙ u.ends;
        }
    read (stop n i) ts e b rest k h = absurd (cc h)

    halt : (o : Outcome T A) (ts : List T) → p ts ≡ o → (n left : ℕ) → and_then o (λ a. pure (f a)) ≡ stop n left → Stuck (Mapped f Is) (p >>= (λ a. pure (f a))) ts n left
    halt (done a r) ts e n left h = absurd (cc h)
    halt (stop m k) ts e n left h =
        let number : m ≡ n = cc h in
        let lefts : left ≡ k = cc h in
        let u : Stuck Is p ts m k = P.stuck ts m k e in
        record {
          front = u.front;
          bad = u.bad;
          split = u.split;
          left_is = lefts ∙ u.left_is;
          rest = u.rest;
          tree = f u.tree;
          can = record { value = u.tree; is = u.can; same = refl };
          sticks = λ x same. ap (λ o. and_then o (λ a. pure (f a))) (u.sticks x same) ∙ ap (λ i. stop i (length x)) number;
        }

-- ---- what is known of one of two parsers holds of the choice between them, as far as the next token chooses it

chosen_stuck : {T A : Type 0} {Is Other : List T → A → Type 0} (goes : T → Bool) (p q r : Parser T A) (b : Bool) (ts : List T) (n left : ℕ)
    → at_next goes ts ≡ b → ((x : List T) → (if b then p x else q x) ≡ r x) → ((xs : List T) (a : A) → Is xs a → Other xs a)
    → Stuck Is r ts n left → Stuck Other (choose goes p q) ts n left
chosen_stuck goes p q r b ts n left h same to s = record {
  front = s.front;
  bad = s.bad;
  split = s.split;
  left_is = s.left_is;
  rest = s.rest;
  tree = s.tree;
  can = to (s.front ++ s.rest) s.tree s.can;
  sticks = λ x e. chosen goes p q (s.front ++ x) b (test_of_append goes s.front x s.bad e ∙ ap (at_next goes) (sym s.split) ∙ h) ∙ same (s.front ++ x) ∙ s.sticks x e;
}

chosen_barred : {T A : Type 0} (goes : T → Bool) (p q r : Parser T A) (b : Bool) (ts : List T) (n left : ℕ)
    → at_next goes ts ≡ b → ((x : List T) → (if b then p x else q x) ≡ r x) → Barred r ts n left → Barred (choose goes p q) ts n left
chosen_barred goes p q r b ts n left h same s = record { left_is = s.left_is; sticks = λ x e. chosen goes p q x b (same_test goes x ts e ∙ h) ∙ same x ∙ s.sticks x e }

-- ---- what may follow a value once

pub perhaps_there : {T A : Type 0} {goes before : T → Bool} {Is : List T → A → Type 0} {more : A → T → Bool} {p : Parser T A} (v : A) → OnHead goes Is more p → ((t : T) → more v t ≡ (goes t || before t))
    → Follows before (Either Is (IsEmpty v)) more (choose goes p (pure v))
perhaps_there {T = T} {A = A} {goes = goes} {before = before} {Is = Is} {more = more} {p = p} v P same = record { sound = sound; complete = complete; stuck = stuck; some = ([], v, inr (record { none = refl; same = refl })) }
  where
    neither : (ts : List T) → at_next goes ts ≡ false → at_next before ts ≡ false → at_next (more v) ts ≡ false
    neither [] h k = refl
    neither (t ∷ ts) h k = same t ∙ ap (λ b. b || before t) h ∙ k

    not_going : (ts : List T) → at_next (more v) ts ≡ false → at_next goes ts ≡ false
    not_going [] h = refl
    not_going (t ∷ ts) h = first_fails (goes t) (before t) (sym (same t) ∙ h)

    sound : (ts : List T) (a : A) (rest : List T) → at_next before ts ≡ false → choose goes p (pure v) ts ≡ done a rest → Part (Either Is (IsEmpty v)) more a ts rest
    sound ts a rest off r = by_test (at_next goes ts) refl
      where
        by_test : (b : Bool) → at_next goes ts ≡ b → Part (Either Is (IsEmpty v)) more a ts rest
        by_test true k = let u : Part Is more a ts rest = P.sound ts a rest k (sym (chosen goes p (pure v) ts true k) ∙ r) in record { front = u.front; split = u.split; is = inl u.is; ends = u.ends }
        by_test false k =
            let stays : done v ts ≡ done a rest = sym (chosen goes p (pure v) ts false k) ∙ r in
            let value : v ≡ a = cc stays in
            let tail : ts ≡ rest = cc stays in
            record { front = []; split = tail; is = inr (record { none = refl; same = sym value }); ends = ap (λ z. at_next (more z) rest) (sym value) ∙ ap (at_next (more v)) (sym tail) ∙ neither ts k off }

    complete : (ts : List T) (a : A) (rest : List T) → Is ts a ⊎ IsEmpty v ts a → at_next (more a) rest ≡ false → choose goes p (pure v) (ts ++ rest) ≡ done a rest
    complete ts a rest (inl is) e = chosen goes p (pure v) (ts ++ rest) true (head_of_append goes ts rest (P.heads ts a is)) ∙ P.complete ts a rest is e
    complete ts a rest (inr is) e =
        ap (λ z. choose goes p (pure v) (z ++ rest)) is.none
        ∙ chosen goes p (pure v) rest false (not_going rest (ap (λ z. at_next (more z) rest) (sym is.same) ∙ e)) ∙ ap (λ z. done z rest) (sym is.same)

    on : (ts : List T) (n left : ℕ) → at_next goes ts ≡ true → Stuck Is p ts n left ⊎ Barred p ts n left → Stuck (Either Is (IsEmpty v)) (choose goes p (pure v)) ts n left
    on ts n left k (inl s) = chosen_stuck goes p (pure v) p true ts n left k (λ x. refl) (λ xs a is. inl is) s
    on ts n left k (inr s) = barred_stuck (chosen_barred goes p (pure v) p true ts n left k (λ x. refl) s) [] v (inr (record { none = refl; same = refl }))

    stuck : (ts : List T) (n left : ℕ) → choose goes p (pure v) ts ≡ stop n left → Stuck (Either Is (IsEmpty v)) (choose goes p (pure v)) ts n left
    stuck ts n left r = by_test (at_next goes ts) refl
      where
        by_test : (b : Bool) → at_next goes ts ≡ b → Stuck (Either Is (IsEmpty v)) (choose goes p (pure v)) ts n left
        by_test true k = on ts n left k (P.stuck ts n left k (sym (chosen goes p (pure v) ts true k) ∙ r))
        by_test false k = absurd (cc (sym (chosen goes p (pure v) ts false k) ∙ r))

-- ---- choices

-- the second of two is asked only where the next token does not choose the first
pub choice_else : {T A : Type 0} {goes : T → Bool} {First Second : List T → A → Type 0} {more : A → T → Bool} {p q : Parser T A} → OnHead goes First more p → Follows goes Second more q
    → ((ts : List T) (a : A) (rest : List T) → Second ts a → at_next (more a) rest ≡ false → at_next goes (ts ++ rest) ≡ false) → Lawful (Either First Second) more (choose goes p q)
choice_else {T = T} {A = A} {goes = goes} {First = First} {Second = Second} {more = more} {p = p} {q = q} P Q apart = record { sound = sound; complete = complete; stuck = stuck; some = (Q.some.0, Q.some.1, inr Q.some.2) }
  where
    sound : (ts : List T) (a : A) (rest : List T) → choose goes p q ts ≡ done a rest → Part (Either First Second) more a ts rest
    sound ts a rest r = by_test (at_next goes ts) refl
      where
        by_test : (b : Bool) → at_next goes ts ≡ b → Part (Either First Second) more a ts rest
        by_test true k = let u : Part First more a ts rest = P.sound ts a rest k (sym (chosen goes p q ts true k) ∙ r) in record { front = u.front; split = u.split; is = inl u.is; ends = u.ends }
        by_test false k = let u : Part Second more a ts rest = Q.sound ts a rest k (sym (chosen goes p q ts false k) ∙ r) in record { front = u.front; split = u.split; is = inr u.is; ends = u.ends }

    complete : (ts : List T) (a : A) (rest : List T) → First ts a ⊎ Second ts a → at_next (more a) rest ≡ false → choose goes p q (ts ++ rest) ≡ done a rest
    complete ts a rest (inl is) e = chosen goes p q (ts ++ rest) true (head_of_append goes ts rest (P.heads ts a is)) ∙ P.complete ts a rest is e
    complete ts a rest (inr is) e = chosen goes p q (ts ++ rest) false (apart ts a rest is e) ∙ Q.complete ts a rest is e

    on : (ts : List T) (n left : ℕ) → at_next goes ts ≡ true → Stuck First p ts n left ⊎ Barred p ts n left → Stuck (Either First Second) (choose goes p q) ts n left
    on ts n left k (inl s) = chosen_stuck goes p q p true ts n left k (λ x. refl) (λ xs a is. inl is) s
    on ts n left k (inr s) = barred_stuck (chosen_barred goes p q p true ts n left k (λ x. refl) s) Q.some.0 Q.some.1 (inr Q.some.2)

    stuck : (ts : List T) (n left : ℕ) → choose goes p q ts ≡ stop n left → Stuck (Either First Second) (choose goes p q) ts n left
    stuck ts n left r = by_test (at_next goes ts) refl
      where
        by_test : (b : Bool) → at_next goes ts ≡ b → Stuck (Either First Second) (choose goes p q) ts n left
        by_test true k = on ts n left k (P.stuck ts n left k (sym (chosen goes p q ts true k) ∙ r))
        by_test false k = chosen_stuck goes p q q false ts n left k (λ x. refl) (λ xs a is. inr is) (Q.stuck ts n left (sym (chosen goes p q ts false k) ∙ r))

-- a parser that reads nothing and refuses, by the next token alone
pub record Refuses {T A : Type 0} (q : Parser T A) (ts : List T) : Type 0 where
  pub number : ℕ
  pub halts : (x : List T) → peeked x ≡ peeked ts → q x ≡ stop number (length x)

pub one_refuses : {T A : Type 0} (n : ℕ) (ts : List T) → Refuses {A = A} (refuse n) ts
one_refuses n ts = record { number = n; halts = λ x same. refl }

pub both_refuse : {T A : Type 0} (goes : T → Bool) (p q : Parser T A) (ts : List T) → Refuses p ts → Refuses q ts → Refuses (choose goes p q) ts
both_refuse {T = T} {A = A} goes p q ts P Q = by_test (at_next goes ts) refl
  where
    by_test : (b : Bool) → at_next goes ts ≡ b → Refuses (choose goes p q) ts
    by_test true k = record { number = P.number; halts = λ x same. chosen goes p q x true (same_test goes x ts same ∙ k) ∙ P.halts x same }
    by_test false k = record { number = Q.number; halts = λ x same. chosen goes p q x false (same_test goes x ts same ∙ k) ∙ Q.halts x same }

-- the last alternative: elsewhere there are refusals alone
pub only_else : {T A : Type 0} {goes : T → Bool} {Is : List T → A → Type 0} {more : A → T → Bool} {p : Parser T A} (q : Parser T A) → OnHead goes Is more p
    → ((ts : List T) → Refuses q ts) → (xs : List T) (v : A) → Is xs v → Lawful Is more (choose goes p q)
only_else {T = T} {A = A} {goes = goes} {Is = Is} {more = more} {p = p} q P Q xs v can = record { sound = sound; complete = complete; stuck = stuck; some = (xs, v, can) }
  where
    sound : (ts : List T) (a : A) (rest : List T) → choose goes p q ts ≡ done a rest → Part Is more a ts rest
    sound ts a rest r = by_test (at_next goes ts) refl
      where
        by_test : (b : Bool) → at_next goes ts ≡ b → Part Is more a ts rest
        by_test true k = P.sound ts a rest k (sym (chosen goes p q ts true k) ∙ r)
        by_test false k =
            let halt : stop (Q ts).number (length ts) ≡ done a rest = sym ((Q ts).halts ts refl) ∙ sym (chosen goes p q ts false k) ∙ r in
            absurd (cc halt)

    complete : (ts : List T) (a : A) (rest : List T) → Is ts a → at_next (more a) rest ≡ false → choose goes p q (ts ++ rest) ≡ done a rest
    complete ts a rest is e = chosen goes p q (ts ++ rest) true (head_of_append goes ts rest (P.heads ts a is)) ∙ P.complete ts a rest is e

    on : (ts : List T) (m left : ℕ) → at_next goes ts ≡ true → Stuck Is p ts m left ⊎ Barred p ts m left → Stuck Is (choose goes p q) ts m left
    on ts m left k (inl s) = chosen_stuck goes p q p true ts m left k (λ x. refl) (λ xs a is. is) s
    on ts m left k (inr s) = barred_stuck (chosen_barred goes p q p true ts m left k (λ x. refl) s) xs v can

    stuck : (ts : List T) (m left : ℕ) → choose goes p q ts ≡ stop m left → Stuck Is (choose goes p q) ts m left
    stuck ts m left r = by_test (at_next goes ts) refl
      where
        by_test : (b : Bool) → at_next goes ts ≡ b → Stuck Is (choose goes p q) ts m left
        by_test true k = on ts m left k (P.stuck ts m left k (sym (chosen goes p q ts true k) ∙ r))
        by_test false k =
            let halt : stop (Q ts).number (length ts) ≡ stop m left = sym ((Q ts).halts ts refl) ∙ sym (chosen goes p q ts false k) ∙ r in
            let number : (Q ts).number ≡ m = cc halt in
            let lefts : left ≡ length ts = cc halt in
            barred_stuck (record { left_is = lefts; sticks = λ x e. chosen goes p q x false (same_test goes x ts e ∙ k) ∙ (Q ts).halts x e ∙ ap (λ i. stop i (length x)) number }) xs v can

-- ---- at some tokens alone

-- of a lawful parser, where the next token passes: the texts that begin so
pub where_begun : {T A : Type 0} {Is : List T → A → Type 0} {more : A → T → Bool} {p : Parser T A} → Lawful Is more p → (goes : T → Bool) (Some_of : List T → A → Type 0)
    → ((ts : List T) (a : A) → Is ts a → at_next goes ts ≡ true → Some_of ts a) → ((ts : List T) (a : A) → Some_of ts a → Is ts a)
    → ((ts : List T) (a : A) (rest : List T) → Is ts a → at_next goes (ts ++ rest) ≡ true → at_next goes ts ≡ true)
    → ((ts : List T) (a : A) → Some_of ts a → at_next goes ts ≡ true) → OnHead goes Some_of more p
where_begun {T = T} {A = A} {Is = Is} {more = more} {p = p} P goes Some_of to from own heads = record {
  sound = λ ts a rest h e.
      let u : Part Is more a ts rest = P.sound ts a rest e in
      record { front = u.front; split = u.split; is = to u.front a u.is (own u.front a rest u.is (ap (at_next goes) (sym u.split) ∙ h)); ends = u.ends };
  complete = λ ts a rest is e. P.complete ts a rest (from ts a is) e;
  stuck = λ ts n left h e. begun ts n left h (P.stuck ts n left e);
  heads = heads;
}
  where
    begun : (ts : List T) (n left : ℕ) → at_next goes ts ≡ true → Stuck Is p ts n left → Stuck Some_of p ts n left ⊎ Barred p ts n left
    begun ts n left h s = by_front s.front refl
      where
        by_front : (front : List T) → s.front ≡ front → Stuck Some_of p ts n left ⊎ Barred p ts n left
        by_front [] k = inr (record {
          left_is = s.left_is ∙ ap length (sym (s.split ∙ ap (λ z. z ++ s.bad) k));
          sticks = λ x same. ap (λ z. p (z ++ x)) (sym k) ∙ s.sticks x (same ∙ ap peeked (s.split ∙ ap (λ z. z ++ s.bad) k));
        })
        by_front (t ∷ front) k =
            let head : at_next goes (s.front ++ s.rest) ≡ true = ap (λ z. at_next goes (z ++ s.rest)) k ∙ sym (ap (at_next goes) (s.split ∙ ap (λ z. z ++ s.bad) k)) ∙ h in
            inl (record { front = s.front; bad = s.bad; split = s.split; left_is = s.left_is; rest = s.rest; tree = s.tree; can = to (s.front ++ s.rest) s.tree s.can head; sticks = s.sticks })

-- an alternative where the next token passes, and another one elsewhere, as far as a wider test allows
pub either_within : {T A : Type 0} {goes wide : T → Bool} {First Second : List T → A → Type 0} {more : A → T → Bool} {p q : Parser T A} → OnHead goes First more p → OnHead wide Second more q
    → ((t : T) → goes t ≡ true → wide t ≡ true) → ((ts : List T) (a : A) → Second ts a → at_next goes ts ≡ false) → OnHead wide (Either First Second) more (choose goes p q)
either_within {T = T} {A = A} {goes = goes} {wide = wide} {First = First} {Second = Second} {more = more} {p = p} {q = q} P Q inside apart =
    record { sound = sound; complete = complete; stuck = stuck; heads = heads }
  where
    off : (ts rest : List T) → at_next wide ts ≡ true → at_next goes ts ≡ false → at_next goes (ts ++ rest) ≡ false
    off [] rest h k = absurd (cc h)
    off (t ∷ ts) rest h k = k

    wider : (ts : List T) → at_next goes ts ≡ true → at_next wide ts ≡ true
    wider [] h = absurd (cc h)
    wider (t ∷ ts) h = inside t h

    sound : (ts : List T) (a : A) (rest : List T) → at_next wide ts ≡ true → choose goes p q ts ≡ done a rest → Part (Either First Second) more a ts rest
    sound ts a rest h r = by_test (at_next goes ts) refl
      where
        by_test : (b : Bool) → at_next goes ts ≡ b → Part (Either First Second) more a ts rest
        by_test true k = let u : Part First more a ts rest = P.sound ts a rest k (sym (chosen goes p q ts true k) ∙ r) in record { front = u.front; split = u.split; is = inl u.is; ends = u.ends }
        by_test false k = let u : Part Second more a ts rest = Q.sound ts a rest h (sym (chosen goes p q ts false k) ∙ r) in record { front = u.front; split = u.split; is = inr u.is; ends = u.ends }

    complete : (ts : List T) (a : A) (rest : List T) → First ts a ⊎ Second ts a → at_next (more a) rest ≡ false → choose goes p q (ts ++ rest) ≡ done a rest
    complete ts a rest (inl is) e = chosen goes p q (ts ++ rest) true (head_of_append goes ts rest (P.heads ts a is)) ∙ P.complete ts a rest is e
    complete ts a rest (inr is) e = chosen goes p q (ts ++ rest) false (off ts rest (Q.heads ts a is) (apart ts a is)) ∙ Q.complete ts a rest is e

    first : (ts : List T) (n left : ℕ) → at_next goes ts ≡ true → Stuck First p ts n left ⊎ Barred p ts n left → Stuck (Either First Second) (choose goes p q) ts n left ⊎ Barred (choose goes p q) ts n left
    first ts n left k (inl s) = inl (chosen_stuck goes p q p true ts n left k (λ x. refl) (λ xs a is. inl is) s)
    first ts n left k (inr s) = inr (chosen_barred goes p q p true ts n left k (λ x. refl) s)

    second : (ts : List T) (n left : ℕ) → at_next goes ts ≡ false → Stuck Second q ts n left ⊎ Barred q ts n left → Stuck (Either First Second) (choose goes p q) ts n left ⊎ Barred (choose goes p q) ts n left
    second ts n left k (inl s) = inl (chosen_stuck goes p q q false ts n left k (λ x. refl) (λ xs a is. inr is) s)
    second ts n left k (inr s) = inr (chosen_barred goes p q q false ts n left k (λ x. refl) s)

    stuck : (ts : List T) (n left : ℕ) → at_next wide ts ≡ true → choose goes p q ts ≡ stop n left → Stuck (Either First Second) (choose goes p q) ts n left ⊎ Barred (choose goes p q) ts n left
    stuck ts n left h r = by_test (at_next goes ts) refl
      where
        by_test : (b : Bool) → at_next goes ts ≡ b → Stuck (Either First Second) (choose goes p q) ts n left ⊎ Barred (choose goes p q) ts n left
        by_test true k = first ts n left k (P.stuck ts n left k (sym (chosen goes p q ts true k) ∙ r))
        by_test false k = second ts n left k (Q.stuck ts n left h (sym (chosen goes p q ts false k) ∙ r))

    heads : (ts : List T) (a : A) → First ts a ⊎ Second ts a → at_next wide ts ≡ true
    heads ts a (inl is) = wider ts (P.heads ts a is)
    heads ts a (inr is) = Q.heads ts a is

-- a refusal at some tokens with which no text begins
pub refused_within : {T A : Type 0} {wide : T → Bool} {Is : List T → A → Type 0} {more : A → T → Bool} {q : Parser T A} (goes : T → Bool) (n : ℕ) → OnHead wide Is more q
    → ((ts : List T) (a : A) → Is ts a → at_next goes ts ≡ false) → OnHead wide Is more (choose goes (refuse n) q)
refused_within {T = T} {A = A} {wide = wide} {Is = Is} {more = more} {q = q} goes n Q apart = record { sound = sound; complete = complete; stuck = stuck; heads = Q.heads }
  where
    off : (ts rest : List T) → at_next wide ts ≡ true → at_next goes ts ≡ false → at_next goes (ts ++ rest) ≡ false
    off [] rest h k = absurd (cc h)
    off (t ∷ ts) rest h k = k

    sound : (ts : List T) (a : A) (rest : List T) → at_next wide ts ≡ true → choose goes (refuse n) q ts ≡ done a rest → Part Is more a ts rest
    sound ts a rest h r = by_test (at_next goes ts) refl
      where
        by_test : (b : Bool) → at_next goes ts ≡ b → Part Is more a ts rest
        by_test true k = absurd (cc (sym (chosen goes (refuse n) q ts true k) ∙ r))
        by_test false k = Q.sound ts a rest h (sym (chosen goes (refuse n) q ts false k) ∙ r)

    complete : (ts : List T) (a : A) (rest : List T) → Is ts a → at_next (more a) rest ≡ false → choose goes (refuse n) q (ts ++ rest) ≡ done a rest
    complete ts a rest is e = chosen goes (refuse n) q (ts ++ rest) false (off ts rest (Q.heads ts a is) (apart ts a is)) ∙ Q.complete ts a rest is e

    second : (ts : List T) (m left : ℕ) → at_next goes ts ≡ false → Stuck Is q ts m left ⊎ Barred q ts m left → Stuck Is (choose goes (refuse n) q) ts m left ⊎ Barred (choose goes (refuse n) q) ts m left
    second ts m left k (inl s) = inl (chosen_stuck goes (refuse n) q q false ts m left k (λ x. refl) (λ xs a is. is) s)
    second ts m left k (inr s) = inr (chosen_barred goes (refuse n) q q false ts m left k (λ x. refl) s)

    stuck : (ts : List T) (m left : ℕ) → at_next wide ts ≡ true → choose goes (refuse n) q ts ≡ stop m left → Stuck Is (choose goes (refuse n) q) ts m left ⊎ Barred (choose goes (refuse n) q) ts m left
    stuck ts m left h r = by_test (at_next goes ts) refl
      where
        by_test : (b : Bool) → at_next goes ts ≡ b → Stuck Is (choose goes (refuse n) q) ts m left ⊎ Barred (choose goes (refuse n) q) ts m left
        by_test true k =
            let halt : stop n (length ts) ≡ stop m left = sym (chosen goes (refuse n) q ts true k) ∙ r in
            let number : n ≡ m = cc halt in
            let lefts : left ≡ length ts = cc halt in
            inr (record { left_is = lefts; sticks = λ x e. chosen goes (refuse n) q x true (same_test goes x ts e ∙ k) ∙ ap (λ i. stop i (length x)) number })
        by_test false k = second ts m left k (Q.stuck ts m left h (sym (chosen goes (refuse n) q ts false k) ∙ r))

-- a token that gives a value, where a wider test passes
pub value_within : {T A : Type 0} (wide : T → Bool) (n : ℕ) (gives : T → Option A) → ((t : T) (a : A) → gives t ≡ Some a → wide t ≡ true) → OnHead wide (IsValue gives) (λ _. never) (taken n gives)
value_within {T = T} {A = A} wide n gives inside = record { sound = sound; complete = complete; stuck = stuck; heads = λ ts a is. ap (at_next wide) is.alone ∙ inside is.token a is.is }
  where
    sound : (ts : List T) (a : A) (rest : List T) → at_next wide ts ≡ true → taken n gives ts ≡ done a rest → Part (IsValue gives) (λ _. never) a ts rest
    sound [] a rest h e = absurd (cc h)
    sound (t ∷ ts) a rest h e = by_value (gives t) refl
      where
        by_value : (o : Option A) → gives t ≡ o → Part (IsValue gives) (λ _. never) a (t ∷ ts) rest
        by_value None k = absurd (let halt : stop n (length (t ∷ ts)) ≡ done a rest = sym (ap (λ o. taken_as n o ts) k) ∙ e in cc halt)
        by_value (Some v) k = (one_value n gives t v k).sound (t ∷ ts) a rest e

    complete : (ts : List T) (a : A) (rest : List T) → IsValue gives ts a → at_next never rest ≡ false → taken n gives (ts ++ rest) ≡ done a rest
    complete ts a rest is e = (one_value n gives is.token a is.is).complete ts a rest is e

    stuck : (ts : List T) (m left : ℕ) → at_next wide ts ≡ true → taken n gives ts ≡ stop m left → Stuck (IsValue gives) (taken n gives) ts m left ⊎ Barred (taken n gives) ts m left
    stuck [] m left h e = absurd (cc h)
    stuck (t ∷ ts) m left h e = by_value (gives t) refl
      where
        at_token : (o : Option A) → gives t ≡ o → o ≡ None → (x : List T) → peeked x ≡ Some t → taken n gives x ≡ stop n (length x)
        at_token o k none [] same = absurd (cc same)
        at_token o k none (s ∷ x) same =
            let it : s ≡ t = cc same in
            ap (λ o. taken_as n o x) (ap gives it ∙ k ∙ none)

        by_value : (o : Option A) → gives t ≡ o → Stuck (IsValue gives) (taken n gives) (t ∷ ts) m left ⊎ Barred (taken n gives) (t ∷ ts) m left
        by_value (Some v) k = inl ((one_value n gives t v k).stuck (t ∷ ts) m left e)
        by_value None k =
            let halt : stop n (length (t ∷ ts)) ≡ stop m left = sym (ap (λ o. taken_as n o ts) k) ∙ e in
            let number : n ≡ m = cc halt in
            let lefts : left ≡ length (t ∷ ts) = cc halt in
            inr (record { left_is = lefts; sticks = λ x same. at_token None k refl x same ∙ ap (λ i. stop i (length x)) number })

-- ---- what must or must not come behind a value

pub closing : {T A B : Type 0} {Is : List T → A → Type 0} {more : A → T → Bool} {p : Parser T A} (n : ℕ) (test : T → Bool) (t : T) → test t ≡ true
    → Lawful Is more p → ((a : A) (s : T) → test s ≡ true → more a s ≡ false) → (f : A → B) → Lawful (Mapped f (Closed test Is)) (λ _. never) (p >>= (λ a. token n test >>= (λ s. pure (f a))))
closing {T = T} {A = A} {B = B} {Is = Is} {more = more} {p = p} n test t good P apart f =
    via (in_order {Second = λ a. Mapped (λ s. f a) (IsToken test)} P (λ xs a is. map_of (one_token n test t good) (λ s. f a) (λ _. never) (λ s r. refl)) side) to from
    (p >>= (λ a. token n test >>= (λ s. pure (f a)))) (λ ts. refl)
  where
    side : (xs : List T) (a : A) (ys : List T) (b : B) (rest : List T) → Is xs a → Mapped (λ s. f a) (IsToken test) ys b → at_next never rest ≡ false → at_next (more a) (ys ++ rest) ≡ false
    side xs a ys b rest is m e = ap (λ z. at_next (more a) (z ++ rest)) m.is.alone ∙ apart a m.value m.is.passes

    to : (ts : List T) (b : B) → Joined Is (λ a. Mapped (λ s. f a) (IsToken test)) ts b → Mapped f (Closed test Is) ts b
    to ts b j = record { value = j.value; is = record { front = j.before; closing = j.second.value; split = j.split ∙ ap (λ z. j.before ++ z) j.second.is.alone; is = j.first; passes = j.second.is.passes }; same = j.second.same }

    from : (ts : List T) (b : B) → Mapped f (Closed test Is) ts b → Joined Is (λ a. Mapped (λ s. f a) (IsToken test)) ts b
    from ts b m = record { before = m.is.front; after = m.is.closing ∷ []; value = m.value; split = m.is.split; first = m.is.is; second = record { value = m.is.closing; is = record { alone = refl; passes = m.is.passes }; same = m.same } }

-- a refusal at some tokens behind a text
pub halted : {T A : Type 0} {Is : List T → A → Type 0} {more : A → T → Bool} {p : Parser T A} → Lawful Is more p → (halts : A → T → Bool) (n : ℕ)
    → Lawful Is (λ a t. more a t || halts a t) (p >>= (λ a. choose (halts a) (refuse n) (pure a)))
halted {T = T} {A = A} {Is = Is} {more = more} {p = p} P halts n = record { sound = λ ts a rest e. read (p ts) ts refl a rest e; complete = complete; stuck = λ ts m left e. halt (p ts) ts refl m left e; some = P.some }
  where
    neither : (a : A) (ts : List T) → at_next (more a) ts ≡ false → at_next (halts a) ts ≡ false → at_next (λ t. more a t || halts a t) ts ≡ false
    neither a [] e h = refl
    neither a (t ∷ ts) e h = ap (λ b. b || halts a t) e ∙ h

    not_more : (a : A) (ts : List T) → at_next (λ t. more a t || halts a t) ts ≡ false → at_next (more a) ts ≡ false
    not_more a [] e = refl
    not_more a (t ∷ ts) e = first_fails (more a t) (halts a t) e

    not_halting : (a : A) (ts : List T) → at_next (λ t. more a t || halts a t) ts ≡ false → at_next (halts a) ts ≡ false
    not_halting a [] e = refl
    not_halting a (t ∷ ts) e = second_fails (more a t) (halts a t) e

    read : (o : Outcome T A) (ts : List T) → p ts ≡ o → (a : A) (rest : List T) → and_then o (λ a. choose (halts a) (refuse n) (pure a)) ≡ done a rest → Part Is (λ a t. more a t || halts a t) a ts rest
    read (stop m k) ts e a rest h = absurd (cc h)
    read (done b r) ts e a rest h = by_test (at_next (halts b) r) refl
      where
        by_test : (c : Bool) → at_next (halts b) r ≡ c → Part Is (λ a t. more a t || halts a t) a ts rest
        by_test true k = absurd (cc (sym (chosen (halts b) (refuse n) (pure b) r true k) ∙ h))
        by_test false k =
            let stays : done b r ≡ done a rest = sym (chosen (halts b) (refuse n) (pure b) r false k) ∙ h in
            let value : b ≡ a = cc stays in
            let tail : r ≡ rest = cc stays in
            let u : Part Is more b ts r = P.sound ts b r e in
            record {
              front = u.front;
              split = u.split ∙ ap (λ z. u.front ++ z) tail;
              is = subst (Is u.front) value u.is;
              ends = ap (λ z. at_next (λ t. more z t || halts z t) rest) (sym value) ∙ ap (at_next (λ t. more b t || halts b t)) (sym tail) ∙ neither b r u.ends k;
            }

    complete : (ts : List T) (a : A) (rest : List T) → Is ts a → at_next (λ t. more a t || halts a t) rest ≡ false → and_then (p (ts ++ rest)) (λ a. choose (halts a) (refuse n) (pure a)) ≡ done a rest
    complete ts a rest is e =
        ap (λ o. and_then o (λ a. choose (halts a) (refuse n) (pure a))) (P.complete ts a rest is (not_more a rest e))
        ∙ chosen (halts a) (refuse n) (pure a) rest false (not_halting a rest e)

    halt : (o : Outcome T A) (ts : List T) → p ts ≡ o → (m left : ℕ) → and_then o (λ a. choose (halts a) (refuse n) (pure a)) ≡ stop m left
        → Stuck Is (p >>= (λ a. choose (halts a) (refuse n) (pure a))) ts m left
    halt (stop i k) ts e m left h =
        let number : i ≡ m = cc h in
        let lefts : left ≡ k = cc h in
        let u : Stuck Is p ts i k = P.stuck ts i k e in
        record {
          front = u.front;
          bad = u.bad;
          split = u.split;
          left_is = lefts ∙ u.left_is;
          rest = u.rest;
          tree = u.tree;
          can = u.can;
          sticks = λ x same. ap (λ o. and_then o (λ a. choose (halts a) (refuse n) (pure a))) (u.sticks x same) ∙ ap (λ i. stop i (length x)) number;
        }
    halt (done b r) ts e m left h = by_test (at_next (halts b) r) refl
      where
        by_test : (c : Bool) → at_next (halts b) r ≡ c → Stuck Is (p >>= (λ a. choose (halts a) (refuse n) (pure a))) ts m left
        by_test false k = absurd (cc (sym (chosen (halts b) (refuse n) (pure b) r false k) ∙ h))
        by_test true k =
            let stops : stop n (length r) ≡ stop m left = sym (chosen (halts b) (refuse n) (pure b) r true k) ∙ h in
            let number : n ≡ m = cc stops in
            let lefts : left ≡ length r = cc stops in
            let u : Part Is more b ts r = P.sound ts b r e in
            record {
              front = u.front;
              bad = r;
              split = u.split;
              left_is = lefts;
              rest = [];
              tree = b;
              can = subst (λ z. Is z b) (sym (append-nil u.front)) u.is;
              sticks = λ x same.
                  ap (λ o. and_then o (λ a. choose (halts a) (refuse n) (pure a))) (P.complete u.front b x u.is (same_test (more b) x r same ∙ u.ends))
                  ∙ chosen (halts b) (refuse n) (pure b) x true (same_test (halts b) x r same ∙ k) ∙ ap (λ i. stop i (length x)) number;
            }

-- ---- what a value comes to in the end, if it is one that can stand

pub record Completed {T A B : Type 0} (Is : List T → A → Type 0) (f : A → Option B) (ts : List T) (b : B) : Type 0 where
  pub value : A
  pub is : Is ts value
  pub gives_it : f value ≡ Some b

-- Each text that cannot stand has one behind it that can.
pub completing : {T A B : Type 0} {Is : List T → A → Type 0} {more : A → T → Bool} {p : Parser T A} → Lawful Is more p
    → (f : A → Option B) (c : Option B → Parser T B) (n : ℕ) (other : B → T → Bool)
    → ((x : List T) → c None x ≡ stop n (length x)) → ((b : B) (x : List T) → c (Some b) x ≡ done b x)
    → ((ts : List T) (a : A) (b : B) → Is ts a → f a ≡ Some b → (t : T) → other b t ≡ more a t)
    → ((ts : List T) (a : A) → Is ts a → f a ≡ None → (rest : List T) × (b : B) × Completed Is f (ts ++ rest) b)
    → Lawful (Completed Is f) other (p >>= (λ a. c (f a)))
completing {T = T} {A = A} {B = B} {Is = Is} {more = more} {p = p} P f c n other on_none on_some same goes_on =
    record { sound = λ ts b rest e. read (p ts) ts refl b rest e; complete = complete; stuck = λ ts m left e. halt (p ts) ts refl m left e; some = example (f P.some.1) refl }
  where
    example : (o : Option B) → f P.some.1 ≡ o → (ts : List T) × (b : B) × Completed Is f ts b
    example (Some b) e = (P.some.0, b, record { value = P.some.1; is = P.some.2; gives_it = e })
    example None e = let more_of = goes_on P.some.0 P.some.1 P.some.2 e in (P.some.0 ++ more_of.0, more_of.1, more_of.2)

    next_as : (ts : List T) (a : A) (b : B) → Is ts a → f a ≡ Some b → (rest : List T) → at_next (other b) rest ≡ at_next (more a) rest
    next_as ts a b is e [] = refl
    next_as ts a b is e (t ∷ rest) = same ts a b is e t

    read : (o : Outcome T A) (ts : List T) → p ts ≡ o → (b : B) (rest : List T) → and_then o (λ a. c (f a)) ≡ done b rest → Part (Completed Is f) other b ts rest
    read (stop m k) ts e b rest h = absurd (cc h)
    read (done a r) ts e b rest h = by_value (f a) refl
      where
        by_value : (o : Option B) → f a ≡ o → Part (Completed Is f) other b ts rest
        by_value None k = absurd (let halt : stop n (length r) ≡ done b rest = sym (on_none r) ∙ sym (ap (λ o. c o r) k) ∙ h in cc halt)
        by_value (Some v) k =
            let stays : done v r ≡ done b rest = sym (on_some v r) ∙ sym (ap (λ o. c o r) k) ∙ h in
            let value : v ≡ b = cc stays in
            let tail : r ≡ rest = cc stays in
            let u : Part Is more a ts r = P.sound ts a r e in
            let gives : f a ≡ Some b = k ∙ ap Some value in
            record {
              front = u.front;
              split = u.split ∙ ap (λ z. u.front ++ z) tail;
              is = record { value = a; is = u.is; gives_it = gives };
              ends = next_as u.front a b u.is gives rest ∙ ap (at_next (more a)) (sym tail) ∙ u.ends;
            }

    complete : (ts : List T) (b : B) (rest : List T) → Completed Is f ts b → at_next (other b) rest ≡ false → and_then (p (ts ++ rest)) (λ a. c (f a)) ≡ done b rest
    complete ts b rest is e =
        ap (λ o. and_then o (λ a. c (f a))) (P.complete ts is.value rest is.is (sym (next_as ts is.value b is.is is.gives_it rest) ∙ e))
        ∙ ap (λ o. c o rest) is.gives_it ∙ on_some b rest

    halt : (o : Outcome T A) (ts : List T) → p ts ≡ o → (m left : ℕ) → and_then o (λ a. c (f a)) ≡ stop m left → Stuck (Completed Is f) (p >>= (λ a. c (f a))) ts m left
    halt (stop i k) ts e m left h =
        let number : i ≡ m = cc h in
        let lefts : left ≡ k = cc h in
        let u : Stuck Is p ts i k = P.stuck ts i k e in
        by_tree u number lefts (f u.tree) refl
      where
        by_tree : (u : Stuck Is p ts i k) → i ≡ m → left ≡ k → (o : Option B) → f u.tree ≡ o → Stuck (Completed Is f) (p >>= (λ a. c (f a))) ts m left
        by_tree u number lefts (Some v) g = record {
          front = u.front;
          bad = u.bad;
          split = u.split;
          left_is = lefts ∙ u.left_is;
          rest = u.rest;
          tree = v;
          can = record { value = u.tree; is = u.can; gives_it = g };
          sticks = λ x same. ap (λ o. and_then o (λ a. c (f a))) (u.sticks x same) ∙ ap (λ i. stop i (length x)) number;
        }
        by_tree u number lefts None g =
            let more_of = goes_on (u.front ++ u.rest) u.tree u.can g in
            record {
              front = u.front;
              bad = u.bad;
              split = u.split;
              left_is = lefts ∙ u.left_is;
              rest = u.rest ++ more_of.0;
              tree = more_of.1;
              can = subst (λ z. Completed Is f z more_of.1) (append_assoc u.front u.rest more_of.0) more_of.2;
              sticks = λ x same. ap (λ o. and_then o (λ a. c (f a))) (u.sticks x same) ∙ ap (λ i. stop i (length x)) number;
            }
    halt (done a r) ts e m left h = by_value (f a) refl
      where
        by_value : (o : Option B) → f a ≡ o → Stuck (Completed Is f) (p >>= (λ a. c (f a))) ts m left
        by_value (Some v) k = absurd (let stays : done v r ≡ stop m left = sym (on_some v r) ∙ sym (ap (λ o. c o r) k) ∙ h in cc stays)
        by_value None k =
            let stops : stop n (length r) ≡ stop m left = sym (on_none r) ∙ sym (ap (λ o. c o r) k) ∙ h in
            let number : n ≡ m = cc stops in
            let lefts : left ≡ length r = cc stops in
            let u : Part Is more a ts r = P.sound ts a r e in
            let more_of = goes_on u.front a u.is k in
            record {
              front = u.front;
              bad = r;
              split = u.split;
              left_is = lefts;
              rest = more_of.0;
              tree = more_of.1;
              can = more_of.2;
              sticks = λ x same.
                  ap (λ o. and_then o (λ a. c (f a))) (P.complete u.front a x u.is (same_test (more a) x r same ∙ u.ends))
                  ∙ ap (λ o. c o x) k ∙ on_none x ∙ ap (λ i. stop i (length x)) number;
            }

-- ---- turns alone

pub turns_law : {T A : Type 0} {goes : T → Bool} {Turn : A → List T → A → Type 0} {op : A → Parser T A} → ((a : A) → OnHead goes (Turn a) (λ _. never) (op a))
    → (a : A) → Lawful (Turns Turn a) (λ b. goes) (looped goes op a)
turns_law {T = T} {A = A} {goes = goes} {Turn = Turn} {op = op} P a =
    goes_on_as (via (looping {Turn = Turn} P (λ b t h. refl) (nothing a)) to from (looped goes op a) (λ ts. refl)) (λ b. goes) (λ b t. sym (or_false (goes t)))
  where
    to : (ts : List T) (b : A) → Joined (IsEmpty a) (Turns Turn) ts b → Turns Turn a ts b
    to ts b j = subst (λ z. Turns Turn z ts b) j.first.same (subst (λ z. Turns Turn j.value z b) (sym (j.split ∙ ap (λ z. z ++ j.after) j.first.none)) j.second)

    from : (ts : List T) (b : A) → Turns Turn a ts b → Joined (IsEmpty a) (Turns Turn) ts b
    from ts b is = record { before = []; after = ts; value = a; split = refl; first = record { none = refl; same = refl }; second = is }

-- one more turn at the end
pub turned_once_more : {T A : Type 0} {Turn : A → List T → A → Type 0} (a b c : A) (xs ys : List T) → Turns Turn a xs b → Turn b ys c → Turns Turn a (xs ++ ys) c
turned_once_more {Turn = Turn} _ _ c _ ys (over a) is = subst (λ z. Turns Turn a z c) (append-nil ys) (turn a c c ys [] is (over c))
turned_once_more {Turn = Turn} _ b c _ ys (turn a m z us vs first rest) is =
    subst (λ l. Turns Turn a l c) (sym (append_assoc us vs ys)) (turn a m c us (vs ++ ys) first (turned_once_more m z c vs ys rest is))
