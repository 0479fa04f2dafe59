-- Choices that bars, tests and the next token make keep the laws.
use Rattle.std.proofs.Common.{◌≡◌, ◌⊎◌, ℕ, Bool, true, false, List, [], ◌∷◌, ◌++◌, length, if◌then◌else◌, refl, sym, ap, ◌∙◌, inl, inr}
use Rattle.sb_parse.specs.Parser.{Outcome, Parser, done, stop, peeked, at_next, and_then, choose, refuse}
use Rattle.sb_parse.specs.Lawful.{Part, Stuck, Barred, Lawful, OnHead, Unbarred, Either}
use Rattle.sb_parse.proofs.Joining.{test_of_append, same_test, via}
use Rattle.sb_parse.proofs.Heads.{head_of_append, chosen, barred_stuck, barred, head_via, choice_of}
use Rattle.sb_parse.proofs.Ways.{Refuses}
use Rattle.sb_parse.proofs.Partly.{Nowhere}

-- one parser after another is one after the other in either order of parentheses
pub and_then_assoc : {T A B C : Type 0} (o : Outcome T A) (f : A → Parser T B) (g : B → Parser T C) → and_then (and_then o f) g ≡ and_then o (λ a ts. and_then (f a ts) g)
and_then_assoc (done a rest) f g = refl
and_then_assoc (stop n left) f g = refl

-- ---- by a test that is known before

pub unless : {T A : Type 0} {goes : T → Bool} {Is : List T → A → Type 0} {more : A → T → Bool} {p : Parser T A} (bar : Bool) (n : ℕ) → (bar ≡ false → OnHead goes Is more p)
    → OnHead goes (Unbarred bar Is) more (if bar then refuse n else p)
unless {goes = goes} {Is = Is} {more = more} true n P = barred goes (Unbarred true Is) more n (λ ts a u. let both : true ≡ false = u.open_way in cc both)
unless {p = p} false n P = head_via (P refl) (λ ts a is. record { open_way = refl; is = is }) (λ ts a u. u.is) p (λ ts. refl)

-- a parser that refuses whatever is next reads no text
pub refusing : {T A : Type 0} (goes : T → Bool) (Is : List T → A → Type 0) (more : A → T → Bool) (q : Parser T A) → ((ts : List T) → Refuses q ts) → ((ts : List T) (a : A) → Is ts a → ⊥) → OnHead goes Is more q
refusing {T = T} {A = A} goes Is more q Q none = record { sound = sound; complete = λ ts a rest is e. absurd (none ts a is); stuck = stuck; heads = λ ts a is. absurd (none ts a is) }
  where
    sound : (ts : List T) (a : A) (rest : List T) → at_next goes ts ≡ true → q ts ≡ done a rest → Part Is more a ts rest
    sound ts a rest h r = let halt : stop (Q ts).number (length ts) ≡ done a rest = sym ((Q ts).halts ts refl) ∙ r in absurd (cc halt)

    stuck : (ts : List T) (n left : ℕ) → at_next goes ts ≡ true → q ts ≡ stop n left → Stuck Is q ts n left ⊎ Barred q ts n left
    stuck ts n left h r =
        let halt : stop (Q ts).number (length ts) ≡ stop n left = sym ((Q ts).halts ts refl) ∙ r in
        let number : (Q ts).number ≡ n = cc halt in
        let lefts : left ≡ length ts = cc halt in
        inr (record { left_is = lefts; sticks = λ x e. (Q ts).halts x e ∙ ap (λ i. stop i (length x)) number })

abbrev pub Allowed : {T A : Type 0} → Bool → (List T → A → Type 0) → List T → A → Type 0
Allowed allowed Is ts a = (allowed ≡ true) × Is ts a

pub only_if : {T A : Type 0} {goes : T → Bool} {Is : List T → A → Type 0} {more : A → T → Bool} {p : Parser T A} (allowed : Bool) (q : Parser T A) → (allowed ≡ true → OnHead goes Is more p)
    → ((ts : List T) → Refuses q ts) → OnHead goes (Allowed allowed Is) more (if allowed then p else q)
only_if {p = p} true q P Q = head_via (P refl) (λ ts a is. (refl, is)) (λ ts a is. is.1) p (λ ts. refl)
only_if {goes = goes} {Is = Is} {more = more} false q P Q = refusing goes (Allowed false Is) more q Q (λ ts a is. let both : false ≡ true = is.0 in cc both)

-- asked only in some states
pub asked_if : {T A : Type 0} {goes : T → Bool} {Is : List T → A → Type 0} {more : A → T → Bool} {p : Parser T A} (b : Bool) (n : ℕ) → OnHead goes Is more p
    → OnHead goes (λ ts a. (b ≡ true) × Is ts a) more (if b then p else refuse n)
asked_if {p = p} true n P = head_via P (λ ts a is. (refl, is)) (λ ts a is. is.1) p (λ ts. refl)
asked_if {goes = goes} {more = more} false n P = barred goes _ more n (λ ts a is. cc is.0)

-- ---- by the next token

-- a refusal where no text begins
pub refused_first : {T A : Type 0} {Is : List T → A → Type 0} {more : A → T → Bool} {q : Parser T A} (goes : T → Bool) (n : ℕ) → Lawful Is more q
    → ((ts : List T) (a : A) (rest : List T) → Is ts a → at_next goes (ts ++ rest) ≡ false) → Lawful Is more (choose goes (refuse n) q)
refused_first {T = T} {A = A} {Is = Is} {more = more} {q = q} goes n Q apart =
    via (choice_of (barred goes Nowhere more n (λ ts a e. e)) Q (λ ts a rest is e. apart ts a rest is)) to (λ ts a is. inr is) (choose goes (refuse n) q) (λ ts. refl)
  where
    to : (ts : List T) (a : A) → Either Nowhere Is ts a → Is ts a
    to ts a (inl e) = absurd e
    to ts a (inr is) = is

abbrev pub Elsewhere : {T A : Type 0} → (T → Bool) → (List T → A → Type 0) → List T → A → Type 0
Elsewhere goes Is ts a = Is ts a × (at_next goes ts ≡ false)

-- the second of two has texts that begin as those of the first one, which then hides them
pub hiding : {T A : Type 0} {goes : T → Bool} {First Second : List T → A → Type 0} {more : A → T → Bool} {p q : Parser T A} → OnHead goes First more p → Lawful Second more q
    → ((a : A) → Second [] a → ⊥) → (xs : List T) (v : A) → Elsewhere goes Second xs v → Lawful (Either First (Elsewhere goes Second)) more (choose goes p q)
hiding {T = T} {A = A} {goes = goes} {First = First} {Second = Second} {more = more} {p = p} {q = q} P Q filled xs v can = record { sound = sound; complete = complete; stuck = stuck; some = (xs, v, inr can) }
  where
    own : (ts rest : List T) (a : A) → Second ts a → at_next goes (ts ++ rest) ≡ at_next goes ts
    own [] rest a is = absurd (filled a is)
    own (t ∷ ts) rest a is = refl

    sound : (ts : List T) (a : A) (rest : List T) → choose goes p q ts ≡ done a rest → Part (Either First (Elsewhere goes Second)) more a ts rest
    sound ts a rest r = by_test (at_next goes ts) refl
      where
        by_test : (b : Bool) → at_next goes ts ≡ b → Part (Either First (Elsewhere goes Second)) more a ts rest
        by_test true k = let u : Part First more a ts rest = P.sound ts a rest k (sym (chosen goes p q ts true k) ∙ r) in record { front = u.front; split = u.split; is = inl u.is; ends = u.ends }
        by_test false k =
            let u : Part Second more a ts rest = Q.sound ts a rest (sym (chosen goes p q ts false k) ∙ r) in
            record { front = u.front; split = u.split; is = inr (u.is, sym (own u.front rest a u.is) ∙ ap (at_next goes) (sym u.split) ∙ k); ends = u.ends }

    complete : (ts : List T) (a : A) (rest : List T) → First ts a ⊎ Elsewhere goes Second ts a → at_next (more a) rest ≡ false → choose goes p q (ts ++ rest) ≡ done a rest
    complete ts a rest (inl is) e = chosen goes p q (ts ++ rest) true (head_of_append goes ts rest (P.heads ts a is)) ∙ P.complete ts a rest is e
    complete ts a rest (inr is) e = chosen goes p q (ts ++ rest) false (own ts rest a is.0 ∙ is.1) ∙ Q.complete ts a rest is.0 e

    on : (ts : List T) (n left : ℕ) → at_next goes ts ≡ true → Stuck First p ts n left ⊎ Barred p ts n left → Stuck (Either First (Elsewhere goes Second)) (choose goes p q) ts n left
    on ts n left k (inl s) = record {
      front = s.front;
      bad = s.bad;
      split = s.split;
      left_is = s.left_is;
      rest = s.rest;
      tree = s.tree;
      can = inl s.can;
      sticks = λ x e. chosen goes p q (s.front ++ x) true (test_of_append goes s.front x s.bad e ∙ ap (at_next goes) (sym s.split) ∙ k) ∙ s.sticks x e;
    }
    on ts n left k (inr s) = barred_stuck (record { left_is = s.left_is; sticks = λ x e. chosen goes p q x true (same_test goes x ts e ∙ k) ∙ s.sticks x e }) xs v (inr can)

    off : (ts : List T) (n left : ℕ) → at_next goes ts ≡ false → (s : Stuck Second q ts n left) → (front : List T) → s.front ≡ front → Stuck (Either First (Elsewhere goes Second)) (choose goes p q) ts n left
    off ts n left k s [] none =
        let all : ts ≡ s.bad = s.split ∙ ap (λ z. z ++ s.bad) none in
        barred_stuck (record {
          left_is = s.left_is ∙ ap length (sym all);
          sticks = λ x e. chosen goes p q x false (same_test goes x ts e ∙ k) ∙ ap (λ z. q (z ++ x)) (sym none) ∙ s.sticks x (e ∙ ap peeked all);
        }) xs v (inr can)
    off ts n left k s (t ∷ front) some = record {
      front = s.front;
      bad = s.bad;
      split = s.split;
      left_is = s.left_is;
      rest = s.rest;
      tree = s.tree;
      can = inr (s.can, ap (λ z. at_next goes (z ++ s.rest)) some ∙ sym (ap (λ z. at_next goes (z ++ s.bad)) some) ∙ ap (at_next goes) (sym s.split) ∙ k);
      sticks = λ x e. chosen goes p q (s.front ++ x) false (test_of_append goes s.front x s.bad e ∙ ap (at_next goes) (sym s.split) ∙ k) ∙ s.sticks x e;
    }

    stuck : (ts : List T) (n left : ℕ) → choose goes p q ts ≡ stop n left → Stuck (Either First (Elsewhere goes Second)) (choose goes p q) ts n left
    stuck ts n left r = by_test (at_next goes ts) refl
      where
        by_test : (b : Bool) → at_next goes ts ≡ b → Stuck (Either First (Elsewhere goes Second)) (choose goes p q) ts n left
        by_test true k = on ts n left k (P.stuck ts n left k (sym (chosen goes p q ts true k) ∙ r))
        by_test false k = let s : Stuck Second q ts n left = Q.stuck ts n left (sym (chosen goes p q ts false k) ∙ r) in off ts n left k s s.front refl
