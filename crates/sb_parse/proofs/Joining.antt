-- The ways of putting parsers together keep the laws: one after the other, a token, a value changed.
use Rattle.std.proofs.Common.{◌≡◌, ℕ, Bool, true, false, List, [], ◌∷◌, ◌++◌, length, Option, if◌then◌else◌, refl, sym, ap, ◌∙◌, append_assoc}
use Rattle.std.specs.Prelude.{Some, None}
use Rattle.sb_parse.specs.Parser.{Outcome, Parser, done, stop, peeked, passes, at_next, never, and_then, ◌>>=◌, pure, token, taken, taken_as}
use Rattle.sb_parse.specs.Lawful.{Part, Stuck, Lawful, Follows, Joined, IsToken, IsValue, IsEmpty, Mapped}

-- ---- what stands next

pub next_of_append : {T : Type 0} → (front x y : List T) → peeked x ≡ peeked y → peeked (front ++ x) ≡ peeked (front ++ y)
next_of_append [] x y h = h
next_of_append (t ∷ front) x y h = refl

pub same_test : {T : Type 0} → (test : T → Bool) (x y : List T) → peeked x ≡ peeked y → at_next test x ≡ at_next test y
same_test test x y h = ap (passes test) h

pub test_of_append : {T : Type 0} → (test : T → Bool) (front x y : List T) → peeked x ≡ peeked y → at_next test (front ++ x) ≡ at_next test (front ++ y)
test_of_append test front x y h = same_test test (front ++ x) (front ++ y) (next_of_append front x y h)

pub never_next : {T : Type 0} (rest : List T) → at_next never rest ≡ false
never_next [] = refl
never_next (t ∷ rest) = refl

-- ---- one after the other

module _ {T A B : Type 0} (First : List T → A → Type 0) (Second : A → List T → B → Type 0) (more : A → T → Bool) (then_more : B → T → Bool) (p : Parser T A) (q : A → Parser T B)
    (P : Lawful First more p) (Q : (xs : List T) (a : A) → First xs a → Follows (more a) (Second a) then_more (q a))
    (apart : (xs : List T) (a : A) (ys : List T) (b : B) (rest : List T) → First xs a → Second a ys b → at_next (then_more b) rest ≡ false → at_next (more a) (ys ++ rest) ≡ false) where
  seq_sound : (ts : List T) (b : B) (rest : List T) → and_then (p ts) q ≡ done b rest → Part (Joined First Second) then_more b ts rest
  seq_sound ts b rest e = go (p ts) refl e
    where
      go : (o : Outcome T A) → p ts ≡ o → and_then o q ≡ done b rest → Part (Joined First Second) then_more b ts rest
      go (done a r) e h =
          let u : Part First more a ts r = P.sound ts a r e in
          let v : Part (Second a) then_more b r rest = (Q u.front a u.is).sound r b rest u.ends h in
          record {
            front = u.front ++ v.front;
            split = u.split ∙ ap (λ z. u.front ++ z) v.split ∙ sym (append_assoc u.front v.front rest);
            is = record { before = u.front; after = v.front; value = a; split = refl; first = u.is; second = v.is };
            ends = v.ends;
          }
      go (stop n k) e h = absurd (cc h)

  seq_complete : (ts : List T) (b : B) (rest : List T) → Joined First Second ts b → at_next (then_more b) rest ≡ false → and_then (p (ts ++ rest)) q ≡ done b rest
  seq_complete ts b rest j e =
      ap (λ z. and_then (p z) q) (ap (λ z. z ++ rest) j.split ∙ append_assoc j.before j.after rest)
      ∙ ap (λ o. and_then o q) (P.complete j.before j.value (j.after ++ rest) j.first (apart j.before j.value j.after b rest j.first j.second e))
      ∙ (Q j.before j.value j.first).complete j.after b rest j.second e

  seq_stuck : (ts : List T) (n left : ℕ) → and_then (p ts) q ≡ stop n left → Stuck (Joined First Second) (λ xs. and_then (p xs) q) ts n left
  seq_stuck ts n left e = go (p ts) refl e
    where
      go : (o : Outcome T A) → p ts ≡ o → and_then o q ≡ stop n left → Stuck (Joined First Second) (λ xs. and_then (p xs) q) ts n left
      go (done a r) e h =
          let u : Part First more a ts r = P.sound ts a r e in
          let s : Stuck (Second a) (q a) r n left = (Q u.front a u.is).stuck r n left h in
          record {
            front = u.front ++ s.front;
            bad = s.bad;
            split = u.split ∙ ap (λ z. u.front ++ z) s.split ∙ sym (append_assoc u.front s.front s.bad);
            left_is = s.left_is;
            rest = s.rest;
            tree = s.tree;
            can = record { before = u.front; after = s.front ++ s.rest; value = a; split = append_assoc u.front s.front s.rest; first = u.is; second = s.can };
            sticks = λ x same.
                ap (λ z. and_then (p z) q) (append_assoc u.front s.front x)
                ∙ ap (λ o. and_then o q) (P.complete u.front a (s.front ++ x) u.is (test_of_append (more a) s.front x s.bad same ∙ ap (at_next (more a)) (sym s.split) ∙ u.ends))
                ∙ s.sticks x same;
          }
      go (stop m k) e h =
          let s : Stuck First p ts m k = P.stuck ts m k e in
          let w : (ys : List T) × (b : B) × Second s.tree ys b = (Q (s.front ++ s.rest) s.tree s.can).some in
          let number : m ≡ n = cc h in
          record {
            front = s.front;
            bad = s.bad;
            split = s.split;
            left_is = (let lefts : left ≡ k = cc h in lefts ∙ s.left_is);
            rest = s.rest ++ w.0;
            tree = w.1;
            can = record { before = s.front ++ s.rest; after = w.0; value = s.tree; split = sym (append_assoc s.front s.rest w.0); first = s.can; second = w.2 };
            sticks = λ x same. ap (λ o. and_then o q) (s.sticks x same) ∙ ap (λ i. stop i (length x)) number;
          }

  seq_some : (ts : List T) × (b : B) × Joined First Second ts b
  seq_some =
      let w : (ys : List T) × (b : B) × Second P.some.1 ys b = (Q P.some.0 P.some.1 P.some.2).some in
      (P.some.0 ++ w.0, w.1, record { before = P.some.0; after = w.0; value = P.some.1; split = refl; first = P.some.2; second = w.2 })

  seq : Lawful (Joined First Second) then_more (p >>= q)
  seq = record { sound = seq_sound; complete = seq_complete; stuck = seq_stuck; some = seq_some }

-- a second parser that goes on from what the first one read
pub from_there : {T A B : Type 0} {First : List T → A → Type 0} {Second : A → List T → B → Type 0} {more : A → T → Bool} {then_more : B → T → Bool} {p : Parser T A} {q : A → Parser T B}
    → Lawful First more p → ((xs : List T) (a : A) → First xs a → Follows (more a) (Second a) then_more (q a))
    → ((xs : List T) (a : A) (ys : List T) (b : B) (rest : List T) → First xs a → Second a ys b → at_next (then_more b) rest ≡ false → at_next (more a) (ys ++ rest) ≡ false)
    → Lawful (Joined First Second) then_more (p >>= q)
from_there {First = First} {Second = Second} {more = more} {then_more = then_more} {p = p} {q = q} P Q apart = seq First Second more then_more p q P Q apart

pub following : {T A : Type 0} {Is : List T → A → Type 0} {more : A → T → Bool} {p : Parser T A} → Lawful Is more p → (before : T → Bool) → Follows before Is more p
following P before = record { sound = λ ts a rest h e. P.sound ts a rest e; complete = P.complete; stuck = P.stuck; some = P.some }

-- A lawful parser and then another, where no text of the second goes on from what the first one read.
pub in_order : {T A B : Type 0} {First : List T → A → Type 0} {Second : A → List T → B → Type 0} {more : A → T → Bool} {then_more : B → T → Bool} {p : Parser T A} {q : A → Parser T B}
    → Lawful First more p → ((xs : List T) (a : A) → First xs a → Lawful (Second a) then_more (q a))
    → ((xs : List T) (a : A) (ys : List T) (b : B) (rest : List T) → First xs a → Second a ys b → at_next (then_more b) rest ≡ false → at_next (more a) (ys ++ rest) ≡ false)
    → Lawful (Joined First Second) then_more (p >>= q)
in_order {Second = Second} {more = more} {q = q} P Q apart = from_there {Second = Second} {q = q} P (λ xs a is. following (Q xs a is) (more a)) apart

-- ---- other words for a law

-- a relation that says the same, and a parser that does the same
pub via : {T A : Type 0} {Is Other : List T → A → Type 0} {more : A → T → Bool} {p : Parser T A} → Lawful Is more p
    → ((ts : List T) (a : A) → Is ts a → Other ts a) → ((ts : List T) (a : A) → Other ts a → Is ts a) → (q : Parser T A) → ((ts : List T) → q ts ≡ p ts) → Lawful Other more q
via P to from q same = record {
  sound = λ ts a rest e. let u : Part _ _ a ts rest = P.sound ts a rest (sym (same ts) ∙ e) in record { front = u.front; split = u.split; is = to u.front a u.is; ends = u.ends };
  complete = λ ts a rest is e. same (ts ++ rest) ∙ P.complete ts a rest (from ts a is) e;
  stuck = λ ts n left e.
      let u : Stuck _ _ ts n left = P.stuck ts n left (sym (same ts) ∙ e) in
      record {
        front = u.front;
        bad = u.bad;
        split = u.split;
        left_is = u.left_is;
        rest = u.rest;
        tree = u.tree;
        can = to (u.front ++ u.rest) u.tree u.can;
        sticks = λ x h. same (u.front ++ x) ∙ u.sticks x h;
      };
  some = (P.some.0, P.some.1, to P.some.0 P.some.1 P.some.2);
}

-- another way to say when a text goes on
pub goes_on_as : {T A : Type 0} {Is : List T → A → Type 0} {more : A → T → Bool} {p : Parser T A} → Lawful Is more p
    → (other : A → T → Bool) → ((a : A) (t : T) → other a t ≡ more a t) → Lawful Is other p
goes_on_as {T = T} {more = more} P other same = record {
  sound = λ ts a rest e. let u : Part _ _ a ts rest = P.sound ts a rest e in record { front = u.front; split = u.split; is = u.is; ends = next_as a rest ∙ u.ends };
  complete = λ ts a rest is e. P.complete ts a rest is (sym (next_as a rest) ∙ e);
  stuck = P.stuck;
  some = P.some;
}
  where
    next_as : (a : _) (rest : List T) → at_next (other a) rest ≡ at_next (more a) rest
    next_as a [] = refl
    next_as a (t ∷ rest) = same a t

-- ---- small parsers

pub one_token : {T : Type 0} (n : ℕ) (test : T → Bool) (t : T) → test t ≡ true → Lawful (IsToken test) (λ _. never) (token n test)
one_token {T = T} n test t good = record {
  sound = λ ts a rest e. read ts a rest e;
  complete = λ ts a rest is e. ap (λ z. token n test (z ++ rest)) is.alone ∙ ap (λ b. if b then done a rest else stop n (length (a ∷ rest))) is.passes;
  stuck = λ ts m left e. halt ts m left e;
  some = (t ∷ [], t, record { alone = refl; passes = good });
}
  where
    read : (ts : List T) (a : T) (rest : List T) → token n test ts ≡ done a rest → Part (IsToken test) (λ _. never) a ts rest
    read [] a rest e = absurd (cc e)
    read (s ∷ after) a rest e = by_test (test s) refl e
      where
        by_test : (b : Bool) → test s ≡ b → (if b then done s after else stop n (length (s ∷ after))) ≡ done a rest → Part (IsToken test) (λ _. never) a (s ∷ after) rest
        by_test true k h =
            let same : s ≡ a = cc h in
            let tail : after ≡ rest = cc h in
            record { front = a ∷ []; split = ap (λ z. z ∷ after) same ∙ ap (λ z. a ∷ z) tail; is = record { alone = refl; passes = sym (ap test same) ∙ k }; ends = never_next rest }
        by_test false k h = absurd (cc h)

    halt : (ts : List T) (m left : ℕ) → token n test ts ≡ stop m left → Stuck (IsToken test) (token n test) ts m left
    halt [] m left e =
        let number : n ≡ m = cc e in
        record {
          front = [];
          bad = [];
          split = refl;
          left_is = (let lefts : left ≡ 0 = cc e in lefts);
          rest = t ∷ [];
          tree = t;
          can = record { alone = refl; passes = good };
          sticks = λ x h. at_end x h ∙ ap (λ i. stop i (length x)) number;
        }
      where
        at_end : (x : List T) → peeked x ≡ None → token n test x ≡ stop n (length x)
        at_end [] h = refl
        at_end (s ∷ x) h = absurd (cc h)
    halt (s ∷ after) m left e = by_test (test s) refl e
      where
        by_test : (b : Bool) → test s ≡ b → (if b then done s after else stop n (length (s ∷ after))) ≡ stop m left → Stuck (IsToken test) (token n test) (s ∷ after) m left
        by_test true k h = absurd (cc h)
        by_test false k h =
            let number : n ≡ m = cc h in
            record {
              front = [];
              bad = s ∷ after;
              split = refl;
              left_is = (let lefts : left ≡ length (s ∷ after) = cc h in lefts);
              rest = t ∷ [];
              tree = t;
              can = record { alone = refl; passes = good };
              sticks = λ x same. at_token x same ∙ ap (λ i. stop i (length x)) number;
            }
          where
            at_token : (x : List T) → peeked x ≡ Some s → token n test x ≡ stop n (length x)
            at_token [] h = absurd (cc h)
            at_token (r ∷ x) h =
                let same : r ≡ s = cc h in
                ap (λ b. if b then done r x else stop n (length (r ∷ x))) (ap test same ∙ k)

pub one_value : {T A : Type 0} (n : ℕ) (gives : T → Option A) (t : T) (v : A) → gives t ≡ Some v → Lawful (IsValue gives) (λ _. never) (taken n gives)
one_value {T = T} {A = A} n gives t v good = record {
  sound = λ ts a rest e. read ts a rest e;
  complete = λ ts a rest is e. ap (λ z. taken n gives (z ++ rest)) is.alone ∙ ap (λ o. taken_as n o rest) is.is;
  stuck = λ ts m left e. halt ts m left e;
  some = (t ∷ [], v, text);
}
  where
    text : IsValue gives (t ∷ []) v
    text = record { token = t; alone = refl; is = good }

    read : (ts : List T) (a : A) (rest : List T) → taken n gives ts ≡ done a rest → Part (IsValue gives) (λ _. never) a ts rest
    read [] a rest e = absurd (cc e)
    read (s ∷ after) a rest e = by_value (gives s) refl e
      where
        by_value : (o : Option A) → gives s ≡ o → taken_as n o after ≡ done a rest → Part (IsValue gives) (λ _. never) a (s ∷ after) rest
        by_value None k h = absurd (cc h)
        by_value (Some b) k h =
            let same : b ≡ a = cc h in
            let tail : after ≡ rest = cc h in
            record { front = s ∷ []; split = ap (λ z. s ∷ z) tail; is = record { token = s; alone = refl; is = k ∙ ap Some same }; ends = never_next rest }

    halt : (ts : List T) (m left : ℕ) → taken n gives ts ≡ stop m left → Stuck (IsValue gives) (taken n gives) ts m left
    halt [] m left e =
        let number : n ≡ m = cc e in
        record {
          front = [];
          bad = [];
          split = refl;
          left_is = (let lefts : left ≡ 0 = cc e in lefts);
          rest = t ∷ [];
          tree = v;
          can = text;
          sticks = λ x h. at_end x h ∙ ap (λ i. stop i (length x)) number;
        }
      where
        at_end : (x : List T) → peeked x ≡ None → taken n gives x ≡ stop n (length x)
        at_end [] h = refl
        at_end (s ∷ x) h = absurd (cc h)
    halt (s ∷ after) m left e = by_value (gives s) refl e
      where
        by_value : (o : Option A) → gives s ≡ o → taken_as n o after ≡ stop m left → Stuck (IsValue gives) (taken n gives) (s ∷ after) m left
        by_value (Some b) k h = absurd (cc h)
        by_value None k h =
            let number : n ≡ m = cc h in
            record {
              front = [];
              bad = s ∷ after;
              split = refl;
              left_is = (let lefts : left ≡ length (s ∷ after) = cc h in lefts);
              rest = t ∷ [];
              tree = v;
              can = text;
              sticks = λ x same. at_token x same ∙ ap (λ i. stop i (length x)) number;
            }
          where
            at_token : (x : List T) → peeked x ≡ Some s → taken n gives x ≡ stop n (length x)
            at_token [] h = absurd (cc h)
            at_token (r ∷ x) h =
                let same : r ≡ s = cc h in
                ap (λ o. taken_as n o x) (ap gives same ∙ k)

pub nothing : {T A : Type 0} (a : A) → Lawful {T = T} (IsEmpty a) (λ _. never) (pure a)
nothing {A = A} a = record {
  sound = λ ts b rest e.
      let same : a ≡ b = cc e in
      let tail : ts ≡ rest = cc e in
      record { front = []; split = tail; is = record { none = refl; same = sym same }; ends = never_next rest };
  complete = λ ts b rest is e. ap (λ z. done a (z ++ rest)) is.none ∙ ap (λ z. done z rest) (sym is.same);
  stuck = λ ts n left e. absurd (cc e);
  some = ([], a, record { none = refl; same = refl });
}

-- ---- a value changed

pub map_of : {T A B : Type 0} {Is : List T → A → Type 0} {more : A → T → Bool} {p : Parser T A} → Lawful Is more p
    → (f : A → B) (other : B → T → Bool) → ((a : A) (t : T) → other (f a) t ≡ more a t) → Lawful (Mapped f Is) other (p >>= (λ a. pure (f a)))
map_of {T = T} {A = A} {B = B} {Is = Is} {more = more} {p = p} P f other same = record {
  sound = λ ts b rest e. read (p ts) ts refl b rest e;
  complete = λ ts b rest is e.
      let ends : at_next (more is.value) rest ≡ false = sym (next_as is.value rest) ∙ ap (λ z. at_next (other z) rest) (sym is.same) ∙ e in
      ap (λ o. and_then o (λ a. pure (f a))) (P.complete ts is.value rest is.is ends) ∙ ap (λ z. done z rest) (sym is.same);
  stuck = λ ts n left e. halt (p ts) ts refl n left e;
  some = (P.some.0, f P.some.1, record { value = P.some.1; is = P.some.2; same = refl });
}
  where
    next_as : (a : A) (rest : List T) → at_next (other (f a)) rest ≡ at_next (more a) rest
    next_as a [] = refl
    next_as a (t ∷ rest) = same a t

    read : (o : Outcome T A) (ts : List T) → p ts ≡ o → (b : B) (rest : List T) → and_then o (λ a. pure (f a)) ≡ done b rest → Part (Mapped f Is) other b ts rest
    read (done a r) ts e b rest h =
        let value : f a ≡ b = cc h in
        let tail : r ≡ rest = cc h in
        let u : Part Is more a ts r = P.sound ts a r e in
        record {
          front = u.front;
          split = u.split ∙ ap (λ z. u.front ++ z) tail;
          is = record { value = a; is = u.is; same = sym value };
          ends = ap (λ z. at_next (other z) rest) (sym value) ∙ next_as a rest ∙ ap (at_next (more a)) (sym tail) ∙ u.ends;
        }
    read (stop n k) ts e b rest h = absurd (cc h)

    halt : (o : Outcome T A) (ts : List T) → p ts ≡ o → (n left : ℕ) → and_then o (λ a. pure (f a)) ≡ stop n left → Stuck (Mapped f Is) (p >>= (λ a. pure (f a))) ts n left
    halt (done a r) ts e n left h = absurd (cc h)
    halt (stop m k) ts e n left h =
        let number : m ≡ n = cc h in
        let lefts : left ≡ k = cc h in
        let u : Stuck Is p ts m k = P.stuck ts m k e in
        record {
          front = u.front;
          bad = u.bad;
          split = u.split;
          left_is = lefts ∙ u.left_is;
          rest = u.rest;
          tree = f u.tree;
          can = record { value = u.tree; is = u.can; same = refl };
          sticks = λ x same. ap (λ o. and_then o (λ a. pure (f a))) (u.sticks x same) ∙ ap (λ i. stop i (length x)) number;
        }
