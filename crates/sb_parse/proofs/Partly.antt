-- Parsers that may have no text at all, and more ways of putting parsers together that keep the laws.
use Rattle.std.proofs.Common.{◌≡◌, ◌⊎◌, ℕ, Bool, true, false, List, [], ◌∷◌, ◌++◌, length, Option, Some, None, if◌then◌else◌, refl, sym, ap, ◌∙◌, inl, inr}
use Rattle.sb_parse.specs.Parser.{Parser, done, stop, peeked, at_next, never, and_then, ◌>>=◌, pure, token, taken, taken_as, choose, refuse}
use Rattle.sb_parse.specs.Lawful.{Part, Stuck, Barred, Lawful, OnHead, Joined, IsToken, Begun, Opened, Closed, Mapped, Either}
use Rattle.sb_parse.proofs.Joining.{test_of_append, same_test, in_order, via, map_of}
use Rattle.sb_parse.proofs.Heads.{head_of_append, chosen, barred_stuck, barred, begun, opened, opened_heads, at_head}
use Rattle.sb_parse.proofs.Ways.{Refuses}

-- no list is a text
abbrev pub Nowhere : {T A : Type 0} → List T → A → Type 0
Nowhere ts a = ⊥

-- p reads the longest text of the relation, and stops where none goes on, or at its first token. There may be no text.
pub record Partly {T A : Type 0} (Is : List T → A → Type 0) (more : A → T → Bool) (p : Parser T A) : Type 0 where
  pub sound : (ts : List T) (a : A) (rest : List T) → p ts ≡ done a rest → Part Is more a ts rest
  pub complete : (ts : List T) (a : A) (rest : List T) → Is ts a → at_next (more a) rest ≡ false → p (ts ++ rest) ≡ done a rest
  pub stuck : (ts : List T) (n left : ℕ) → p ts ≡ stop n left → Stuck Is p ts n left ⊎ Barred p ts n left

-- with one text it is lawful
pub with_text : {T A : Type 0} {Is : List T → A → Type 0} {more : A → T → Bool} {p : Parser T A} → Partly Is more p → (xs : List T) (v : A) → Is xs v → Lawful Is more p
with_text {T = T} {Is = Is} {p = p} P xs v can = record { sound = P.sound; complete = P.complete; stuck = λ ts n left e. by_case ts n left (P.stuck ts n left e); some = (xs, v, can) }
  where
    by_case : (ts : List T) (n left : ℕ) → Stuck Is p ts n left ⊎ Barred p ts n left → Stuck Is p ts n left
    by_case ts n left (inl s) = s
    by_case ts n left (inr b) = barred_stuck b xs v can

pub with_heads : {T A : Type 0} {Is : List T → A → Type 0} {more : A → T → Bool} {p : Parser T A} → Partly Is more p
    → (goes : T → Bool) → ((ts : List T) (a : A) → Is ts a → at_next goes ts ≡ true) → OnHead goes Is more p
with_heads P goes heads = record { sound = λ ts a rest h e. P.sound ts a rest e; complete = P.complete; stuck = λ ts n left h e. P.stuck ts n left e; heads = heads }

pub as_partly : {T A : Type 0} {Is : List T → A → Type 0} {more : A → T → Bool} {p : Parser T A} → Lawful Is more p → Partly Is more p
as_partly P = record { sound = P.sound; complete = P.complete; stuck = λ ts n left e. inl (P.stuck ts n left e) }

-- a relation that says the same, and a parser that does the same
pub partly_via : {T A : Type 0} {Is Other : List T → A → Type 0} {more : A → T → Bool} {p : Parser T A} → Partly Is more p
    → ((ts : List T) (a : A) → Is ts a → Other ts a) → ((ts : List T) (a : A) → Other ts a → Is ts a) → (q : Parser T A) → ((ts : List T) → q ts ≡ p ts) → Partly Other more q
partly_via {T = T} {Is = Is} {Other = Other} {p = p} P to from q same = record {
  sound = λ ts a rest e. let u : Part _ _ a ts rest = P.sound ts a rest (sym (same ts) ∙ e) in record { front = u.front; split = u.split; is = to u.front a u.is; ends = u.ends };
  complete = λ ts a rest is e. same (ts ++ rest) ∙ P.complete ts a rest (from ts a is) e;
  stuck = λ ts n left e. wrap ts n left (P.stuck ts n left (sym (same ts) ∙ e));
}
  where
    wrap : (ts : List T) (n left : ℕ) → Stuck Is p ts n left ⊎ Barred p ts n left → Stuck Other q ts n left ⊎ Barred q ts n left
    wrap ts n left (inl u) = inl (record {
      front = u.front;
      bad = u.bad;
      split = u.split;
      left_is = u.left_is;
      rest = u.rest;
      tree = u.tree;
      can = to (u.front ++ u.rest) u.tree u.can;
      sticks = λ x h. same (u.front ++ x) ∙ u.sticks x h;
    })
    wrap ts n left (inr b) = inr (record { left_is = b.left_is; sticks = λ x h. same x ∙ b.sticks x h })

-- a parser that does nothing but refuse
pub refusing : {T A : Type 0} (more : A → T → Bool) (q : Parser T A) → ((ts : List T) → Refuses q ts) → Partly Nowhere more q
refusing {T = T} {A = A} more q Q = record { sound = sound; complete = λ ts a rest is e. absurd is; stuck = stuck }
  where
    sound : (ts : List T) (a : A) (rest : List T) → q ts ≡ done a rest → Part Nowhere more a ts rest
    sound ts a rest r = let halt : stop (Q ts).number (length ts) ≡ done a rest = sym ((Q ts).halts ts refl) ∙ r in absurd (cc halt)

    stuck : (ts : List T) (n left : ℕ) → q ts ≡ stop n left → Stuck Nowhere q ts n left ⊎ Barred q ts n left
    stuck ts n left r =
        let halt : stop (Q ts).number (length ts) ≡ stop n left = sym ((Q ts).halts ts refl) ∙ r in
        let number : (Q ts).number ≡ n = cc halt in
        let lefts : left ≡ length ts = cc halt in
        inr (record { left_is = lefts; sticks = λ x e. (Q ts).halts x e ∙ ap (λ i. stop i (length x)) number })

-- ---- choices by the next token

chosen_stuck : {T A : Type 0} {Is Other : List T → A → Type 0} (goes : T → Bool) (p q r : Parser T A) (b : Bool) (ts : List T) (n left : ℕ)
    → at_next goes ts ≡ b → ((x : List T) → (if b then p x else q x) ≡ r x) → ((xs : List T) (a : A) → Is xs a → Other xs a)
    → Stuck Is r ts n left → Stuck Other (choose goes p q) ts n left
chosen_stuck goes p q r b ts n left h same to s = record {
  front = s.front;
  bad = s.bad;
  split = s.split;
  left_is = s.left_is;
  rest = s.rest;
  tree = s.tree;
  can = to (s.front ++ s.rest) s.tree s.can;
  sticks = λ x e. chosen goes p q (s.front ++ x) b (test_of_append goes s.front x s.bad e ∙ ap (at_next goes) (sym s.split) ∙ h) ∙ same (s.front ++ x) ∙ s.sticks x e;
}

chosen_barred : {T A : Type 0} (goes : T → Bool) (p q r : Parser T A) (b : Bool) (ts : List T) (n left : ℕ)
    → at_next goes ts ≡ b → ((x : List T) → (if b then p x else q x) ≡ r x) → Barred r ts n left → Barred (choose goes p q) ts n left
chosen_barred goes p q r b ts n left h same s = record { left_is = s.left_is; sticks = λ x e. chosen goes p q x b (same_test goes x ts e ∙ h) ∙ same x ∙ s.sticks x e }

-- an alternative where the next token passes, and another elsewhere
pub choosing : {T A : Type 0} {goes : T → Bool} {First Second : List T → A → Type 0} {more : A → T → Bool} {p q : Parser T A} → OnHead goes First more p → Partly Second more q
    → ((ts : List T) (a : A) (rest : List T) → Second ts a → at_next (more a) rest ≡ false → at_next goes (ts ++ rest) ≡ false) → Partly (Either First Second) more (choose goes p q)
choosing {T = T} {A = A} {goes = goes} {First = First} {Second = Second} {more = more} {p = p} {q = q} P Q apart = record { sound = sound; complete = complete; stuck = stuck }
  where
    sound : (ts : List T) (a : A) (rest : List T) → choose goes p q ts ≡ done a rest → Part (Either First Second) more a ts rest
    sound ts a rest r = by_test (at_next goes ts) refl
      where
        by_test : (b : Bool) → at_next goes ts ≡ b → Part (Either First Second) more a ts rest
        by_test true k = let u : Part First more a ts rest = P.sound ts a rest k (sym (chosen goes p q ts true k) ∙ r) in record { front = u.front; split = u.split; is = inl u.is; ends = u.ends }
        by_test false k = let u : Part Second more a ts rest = Q.sound ts a rest (sym (chosen goes p q ts false k) ∙ r) in record { front = u.front; split = u.split; is = inr u.is; ends = u.ends }

    complete : (ts : List T) (a : A) (rest : List T) → First ts a ⊎ Second ts a → at_next (more a) rest ≡ false → choose goes p q (ts ++ rest) ≡ done a rest
    complete ts a rest (inl is) e = chosen goes p q (ts ++ rest) true (head_of_append goes ts rest (P.heads ts a is)) ∙ P.complete ts a rest is e
    complete ts a rest (inr is) e = chosen goes p q (ts ++ rest) false (apart ts a rest is e) ∙ Q.complete ts a rest is e

    first : (ts : List T) (n left : ℕ) → at_next goes ts ≡ true → Stuck First p ts n left ⊎ Barred p ts n left → Stuck (Either First Second) (choose goes p q) ts n left ⊎ Barred (choose goes p q) ts n left
    first ts n left k (inl s) = inl (chosen_stuck goes p q p true ts n left k (λ x. refl) (λ xs a is. inl is) s)
    first ts n left k (inr s) = inr (chosen_barred goes p q p true ts n left k (λ x. refl) s)

    second : (ts : List T) (n left : ℕ) → at_next goes ts ≡ false → Stuck Second q ts n left ⊎ Barred q ts n left → Stuck (Either First Second) (choose goes p q) ts n left ⊎ Barred (choose goes p q) ts n left
    second ts n left k (inl s) = inl (chosen_stuck goes p q q false ts n left k (λ x. refl) (λ xs a is. inr is) s)
    second ts n left k (inr s) = inr (chosen_barred goes p q q false ts n left k (λ x. refl) s)

    stuck : (ts : List T) (n left : ℕ) → choose goes p q ts ≡ stop n left → Stuck (Either First Second) (choose goes p q) ts n left ⊎ Barred (choose goes p q) ts n left
    stuck ts n left r = by_test (at_next goes ts) refl
      where
        by_test : (b : Bool) → at_next goes ts ≡ b → Stuck (Either First Second) (choose goes p q) ts n left ⊎ Barred (choose goes p q) ts n left
        by_test true k = first ts n left k (P.stuck ts n left k (sym (chosen goes p q ts true k) ∙ r))
        by_test false k = second ts n left k (Q.stuck ts n left (sym (chosen goes p q ts false k) ∙ r))

-- a refusal at some tokens with which no text begins
pub refused_before : {T A : Type 0} {Is : List T → A → Type 0} {more : A → T → Bool} {q : Parser T A} (goes : T → Bool) (n : ℕ) → Lawful Is more q
    → ((ts : List T) (a : A) (rest : List T) → Is ts a → at_next (more a) rest ≡ false → at_next goes (ts ++ rest) ≡ false) → Lawful Is more (choose goes (refuse n) q)
refused_before {T = T} {A = A} {Is = Is} {more = more} {q = q} goes n Q apart =
    with_text (partly_via (choosing (barred goes Nowhere more n (λ ts a e. e)) (as_partly Q) apart) to (λ ts a is. inr is) (choose goes (refuse n) q) (λ ts. refl)) Q.some.0 Q.some.1 Q.some.2
  where
    to : (ts : List T) (a : A) → Either Nowhere Is ts a → Is ts a
    to ts a (inl e) = absurd e
    to ts a (inr is) = is

-- a text that does not begin with some tokens
pub record Unless {T A : Type 0} (goes : T → Bool) (Is : List T → A → Type 0) (ts : List T) (a : A) : Type 0 where
  pub is : Is ts a
  pub off : at_next goes ts ≡ false

-- a refusal at some tokens with which texts could begin, none of which is empty
pub unless : {T A : Type 0} {Is : List T → A → Type 0} {more : A → T → Bool} {q : Parser T A} (goes : T → Bool) (n : ℕ) → Lawful Is more q
    → ((a : A) → Is [] a → ⊥) → (xs : List T) (v : A) → Unless goes Is xs v → Lawful (Unless goes Is) more (choose goes (refuse n) q)
unless {T = T} {A = A} {Is = Is} {more = more} {q = q} goes n Q none xs v can = record { sound = sound; complete = complete; stuck = stuck; some = (xs, v, can) }
  where
    -- the first token is the text's own
    own : (ts : List T) (a : A) (rest : List T) → Is ts a → at_next goes (ts ++ rest) ≡ at_next goes ts
    own [] a rest is = absurd (none a is)
    own (t ∷ ts) a rest is = refl

    sound : (ts : List T) (a : A) (rest : List T) → choose goes (refuse n) q ts ≡ done a rest → Part (Unless goes Is) more a ts rest
    sound ts a rest r = by_test (at_next goes ts) refl
      where
        by_test : (b : Bool) → at_next goes ts ≡ b → Part (Unless goes Is) more a ts rest
        by_test true k = absurd (cc (sym (chosen goes (refuse n) q ts true k) ∙ r))
        by_test false k =
            let u : Part Is more a ts rest = Q.sound ts a rest (sym (chosen goes (refuse n) q ts false k) ∙ r) in
            record { front = u.front; split = u.split; is = record { is = u.is; off = sym (own u.front a rest u.is) ∙ ap (at_next goes) (sym u.split) ∙ k }; ends = u.ends }

    complete : (ts : List T) (a : A) (rest : List T) → Unless goes Is ts a → at_next (more a) rest ≡ false → choose goes (refuse n) q (ts ++ rest) ≡ done a rest
    complete ts a rest is e = chosen goes (refuse n) q (ts ++ rest) false (own ts a rest is.is ∙ is.off) ∙ Q.complete ts a rest is.is e

    stuck : (ts : List T) (m left : ℕ) → choose goes (refuse n) q ts ≡ stop m left → Stuck (Unless goes Is) (choose goes (refuse n) q) ts m left
    stuck ts m left r = by_test (at_next goes ts) refl
      where
        second : at_next goes ts ≡ false → (front bad rest : List T) (a : A) → ts ≡ front ++ bad → left ≡ length bad → Is (front ++ rest) a
            → ((x : List T) → peeked x ≡ peeked bad → q (front ++ x) ≡ stop m (length x)) → Stuck (Unless goes Is) (choose goes (refuse n) q) ts m left
        second k [] bad rest a split lefts is sticks =
            barred_stuck (record { left_is = lefts ∙ ap length (sym split); sticks = λ x e. chosen goes (refuse n) q x false (same_test goes x ts e ∙ k) ∙ sticks x (e ∙ ap peeked split) }) xs v can
        second k (t ∷ front) bad rest a split lefts is sticks =
            let off : goes t ≡ false = sym (ap (at_next goes) split) ∙ k in
            record {
              front = t ∷ front;
              bad = bad;
              split = split;
              left_is = lefts;
              rest = rest;
              tree = a;
              can = record { is = is; off = off };
              sticks = λ x e. chosen goes (refuse n) q (t ∷ (front ++ x)) false off ∙ sticks x e;
            }

        by_test : (b : Bool) → at_next goes ts ≡ b → Stuck (Unless goes Is) (choose goes (refuse n) q) ts m left
        by_test true k =
            let halt : stop n (length ts) ≡ stop m left = sym (chosen goes (refuse n) q ts true k) ∙ r in
            let number : n ≡ m = cc halt in
            let lefts : left ≡ length ts = cc halt in
            barred_stuck (record { left_is = lefts; sticks = λ x e. chosen goes (refuse n) q x true (same_test goes x ts e ∙ k) ∙ ap (λ i. stop i (length x)) number }) xs v can
        by_test false k =
            let s : Stuck Is q ts m left = Q.stuck ts m left (sym (chosen goes (refuse n) q ts false k) ∙ r) in
            second k s.front s.bad s.rest s.tree s.split s.left_is s.can s.sticks

-- ---- at some tokens alone

-- a parser that does the same where the next token passes
pub head_agree : {T A : Type 0} {goes : T → Bool} {Is : List T → A → Type 0} {more : A → T → Bool} {p : Parser T A} → OnHead goes Is more p
    → (q : Parser T A) → ((ts : List T) → at_next goes ts ≡ true → q ts ≡ p ts) → OnHead goes Is more q
head_agree {T = T} {goes = goes} {Is = Is} {p = p} P q same = record {
  sound = λ ts a rest h e. P.sound ts a rest h (sym (same ts h) ∙ e);
  complete = λ ts a rest is e. same (ts ++ rest) (head_of_append goes ts rest (P.heads ts a is)) ∙ P.complete ts a rest is e;
  stuck = λ ts n left h e. wrap ts n left h (P.stuck ts n left h (sym (same ts h) ∙ e));
  heads = P.heads;
}
  where
    wrap : (ts : List T) (n left : ℕ) → at_next goes ts ≡ true → Stuck Is p ts n left ⊎ Barred p ts n left → Stuck Is q ts n left ⊎ Barred q ts n left
    wrap ts n left h (inl u) = inl (record {
      front = u.front;
      bad = u.bad;
      split = u.split;
      left_is = u.left_is;
      rest = u.rest;
      tree = u.tree;
      can = u.can;
      sticks = λ x e. same (u.front ++ x) (test_of_append goes u.front x u.bad e ∙ ap (at_next goes) (sym u.split) ∙ h) ∙ u.sticks x e;
    })
    wrap ts n left h (inr b) = inr (record { left_is = b.left_is; sticks = λ x e. same x (same_test goes x ts e ∙ h) ∙ b.sticks x e })

-- a token that passes, and then a text that may depend on it
pub opened_head : {T A : Type 0} {Is : T → List T → A → Type 0} {more : A → T → Bool} {q : T → Parser T A} (n : ℕ) (goes test : T → Bool)
    → ((t : T) → goes t ≡ true → test t ≡ true) → ((t : T) → goes t ≡ true → Lawful (Is t) more (q t)) → OnHead goes (Opened goes Is) more (token n test >>= q)
opened_head {T = T} {q = q} n goes test within Q = head_agree (at_head goes (λ t h. opened n goes t h Q) opened_heads) (token n test >>= q) same
  where
    same : (ts : List T) → at_next goes ts ≡ true → and_then (token n test ts) q ≡ and_then (token n goes ts) q
    same [] h = absurd (cc h)
    same (t ∷ ts) h =
        ap (λ b. and_then (if b then done t ts else stop n (length (t ∷ ts))) q) (within t h) ∙ sym (ap (λ b. and_then (if b then done t ts else stop n (length (t ∷ ts))) q) h)

-- what a token gives that passes
abbrev pub given : {T A : Type 0} → (T → Bool) → (T → Option A) → T → Option A
given goes gives t = if goes t then gives t else None

pub given_at : {T A : Type 0} (goes : T → Bool) (gives : T → Option A) (t : T) → goes t ≡ true → given goes gives t ≡ gives t
given_at goes gives t h = ap (λ b. if b then gives t else None) h

pub given_by : {T A : Type 0} (goes : T → Bool) (gives : T → Option A) (t : T) (v : A) → given goes gives t ≡ Some v → (goes t ≡ true) × (gives t ≡ Some v)
given_by goes gives t v h = by_test (goes t) refl h
  where
    by_test : (b : Bool) → goes t ≡ b → (if b then gives t else None) ≡ Some v → (goes t ≡ true) × (gives t ≡ Some v)
    by_test true k h = (k, h)
    by_test false k h = absurd (cc h)

pub begun_head : {T A B : Type 0} {Is : A → List T → B → Type 0} {more : B → T → Bool} {q : A → Parser T B} (n : ℕ) (goes : T → Bool) (gives : T → Option A)
    → ((t : T) → goes t ≡ true → (v : A) × (gives t ≡ Some v)) → ((t : T) (v : A) → goes t ≡ true → gives t ≡ Some v → Lawful (Is v) more (q v))
    → OnHead goes (Begun (given goes gives) Is) more (taken n gives >>= q)
begun_head {T = T} {A = A} {B = B} {Is = Is} {more = more} {q = q} n goes gives some Q = head_agree (at_head goes law heads) (taken n gives >>= q) same
  where
    law : (t : T) → goes t ≡ true → Lawful (Begun (given goes gives) Is) more (taken n (given goes gives) >>= q)
    law t h =
        let v : (v : A) × (gives t ≡ Some v) = some t h in
        begun {Is = Is} n (given goes gives) t v.0 (given_at goes gives t h ∙ v.1)
        (λ s a e. let both : (goes s ≡ true) × (gives s ≡ Some a) = given_by goes gives s a e in Q s a both.0 both.1)

    heads : (ts : List T) (b : B) → Begun (given goes gives) Is ts b → at_next goes ts ≡ true
    heads ts b o = ap (at_next goes) o.split ∙ (given_by goes gives o.opening o.value o.gives_it).0

    same : (ts : List T) → at_next goes ts ≡ true → and_then (taken n gives ts) q ≡ and_then (taken n (given goes gives) ts) q
    same [] h = absurd (cc h)
    same (t ∷ ts) h = ap (λ o. and_then (taken_as n o ts) q) (sym (given_at goes gives t h))

-- ---- what must come behind a value

-- a token behind a text
pub closed_by : {T A B : Type 0} {Is : List T → A → Type 0} {more : A → T → Bool} {p : Parser T A} {test : T → Bool} {q : Parser T T} → Lawful (IsToken test) (λ _. never) q
    → Lawful Is more p → ((a : A) (s : T) → test s ≡ true → more a s ≡ false) → (f : A → B) → Lawful (Mapped f (Closed test Is)) (λ _. never) (p >>= (λ a. q >>= (λ s. pure (f a))))
closed_by {T = T} {A = A} {B = B} {Is = Is} {more = more} {p = p} {test = test} {q = q} Q P apart f =
    via (in_order {Second = λ a. Mapped (λ s. f a) (IsToken test)} P (λ xs a is. map_of Q (λ s. f a) (λ _. never) (λ s r. refl)) side) to from
    (p >>= (λ a. q >>= (λ s. pure (f a)))) (λ ts. refl)
  where
    side : (xs : List T) (a : A) (ys : List T) (b : B) (rest : List T) → Is xs a → Mapped (λ s. f a) (IsToken test) ys b → at_next never rest ≡ false → at_next (more a) (ys ++ rest) ≡ false
    side xs a ys b rest is m e = ap (λ z. at_next (more a) (z ++ rest)) m.is.alone ∙ apart a m.value m.is.passes

    to : (ts : List T) (b : B) → Joined Is (λ a. Mapped (λ s. f a) (IsToken test)) ts b → Mapped f (Closed test Is) ts b
    to ts b j = record { value = j.value; is = record { front = j.before; closing = j.second.value; split = j.split ∙ ap (λ z. j.before ++ z) j.second.is.alone; is = j.first; passes = j.second.is.passes }; same = j.second.same }

    from : (ts : List T) (b : B) → Mapped f (Closed test Is) ts b → Joined Is (λ a. Mapped (λ s. f a) (IsToken test)) ts b
    from ts b m = record { before = m.is.front; after = m.is.closing ∷ []; value = m.value; split = m.is.split; first = m.is.is; second = record { value = m.is.closing; is = record { alone = refl; passes = m.is.passes }; same = m.same } }
