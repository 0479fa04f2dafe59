-- Parsers that the second token chooses keep the laws: by the texts behind a first token.
use Rattle.std.proofs.Common.{◌≡◌, ◌⊎◌, ℕ, Bool, true, false, List, [], ◌∷◌, ◌++◌, length, refl, sym, ap, ◌∙◌, append-nil, subst, inl, inr}
use Rattle.sb_parse.specs.Parser.{Parser, done, stop, peeked, at_next, choose}
use Rattle.sb_parse.specs.Lawful.{Part, Stuck, Barred, Lawful, OnHead, Either}
use Rattle.sb_parse.proofs.Joining.{same_test, test_of_append}
use Rattle.sb_parse.proofs.Heads.{head_of_append, chosen, barred_stuck}
use Rattle.sb_parse.specs.Descent.{choose_second}

abbrev pub behind : {T A : Type 0} → T → Parser T A → Parser T A
behind o p ts = p (o ∷ ts)

abbrev pub Behind : {T A : Type 0} → T → (List T → A → Type 0) → List T → A → Type 0
Behind o Is ts a = Is (o ∷ ts) a

-- behind a token with which some text begins a lawful parser is lawful
pub behind_law : {T A : Type 0} {Is : List T → A → Type 0} {more : A → T → Bool} {p : Parser T A} → Lawful Is more p → ((a : A) → Is [] a → ⊥) → (o : T) (xs : List T) (a : A) → Is (o ∷ xs) a
    → Lawful (Behind o Is) more (behind o p)
behind_law {T = T} {A = A} {Is = Is} {more = more} {p = p} P filled o xs v can = record { sound = sound; complete = λ ts a rest is e. P.complete (o ∷ ts) a rest is e; stuck = stuck; some = (xs, v, can) }
  where
    sound : (ts : List T) (a : A) (rest : List T) → p (o ∷ ts) ≡ done a rest → Part (Behind o Is) more a ts rest
    sound ts a rest e = let u : Part Is more a (o ∷ ts) rest = P.sound (o ∷ ts) a rest e in go u.front u.split u.is u.ends
      where
        go : (front : List T) → o ∷ ts ≡ front ++ rest → Is front a → at_next (more a) rest ≡ false → Part (Behind o Is) more a ts rest
        go [] split is ends = absurd (filled a is)
        go (t ∷ front) split is ends =
            let head : t ≡ o = cc split in
            let tail : ts ≡ front ++ rest = cc split in
            record { front = front; split = tail; is = subst (λ z. Is (z ∷ front) a) head is; ends = ends }

    stuck : (ts : List T) (n left : ℕ) → p (o ∷ ts) ≡ stop n left → Stuck (Behind o Is) (behind o p) ts n left
    stuck ts n left e = let s : Stuck Is p (o ∷ ts) n left = P.stuck (o ∷ ts) n left e in go s.front s.bad s.split s.left_is s.rest s.tree s.can s.sticks
      where
        go : (front bad : List T) → o ∷ ts ≡ front ++ bad → left ≡ length bad → (rest : List T) (tree : A) → Is (front ++ rest) tree → ((x : List T) → peeked x ≡ peeked bad → p (front ++ x) ≡ stop n (length x))
            → Stuck (Behind o Is) (behind o p) ts n left
        go [] bad split left_is rest tree is sticks =
            let halts : p (o ∷ xs) ≡ stop n (length (o ∷ xs)) = sticks (o ∷ xs) (ap peeked split) in
            let reads : p (o ∷ xs) ≡ done v [] = ap p (sym (append-nil (o ∷ xs))) ∙ P.complete (o ∷ xs) v [] can refl in
            let both : done v [] ≡ stop n (length (o ∷ xs)) = sym reads ∙ halts in
            absurd (cc both)
        go (t ∷ front) bad split left_is rest tree is sticks =
            let head : t ≡ o = cc split in
            let tail : ts ≡ front ++ bad = cc split in
            record {
              front = front;
              bad = bad;
              split = tail;
              left_is = left_is;
              rest = rest;
              tree = tree;
              can = subst (λ z. Is (z ∷ (front ++ rest)) tree) head is;
              sticks = λ x same. ap (λ z. p (z ∷ (front ++ x))) (sym head) ∙ sticks x same;
            }

-- a parser that is lawful behind each first token
pub in_front : {T A : Type 0} {opens : T → Bool} {Is : List T → A → Type 0} {more : A → T → Bool} {p : Parser T A} → ((o : T) → opens o ≡ true → Lawful (Behind o Is) more (behind o p))
    → ((ts : List T) (a : A) → Is ts a → at_next opens ts ≡ true) → OnHead opens Is more p
in_front {T = T} {A = A} {opens = opens} {Is = Is} {more = more} {p = p} P heads = record { sound = sound; complete = λ ts a rest is e. complete ts a rest (heads ts a is) is e; stuck = stuck; heads = heads }
  where
    sound : (ts : List T) (a : A) (rest : List T) → at_next opens ts ≡ true → p ts ≡ done a rest → Part Is more a ts rest
    sound [] a rest h e = absurd (cc h)
    sound (o ∷ ts) a rest h e = let u : Part (Behind o Is) more a ts rest = (P o h).sound ts a rest e in record { front = o ∷ u.front; split = ap (λ z. o ∷ z) u.split; is = u.is; ends = u.ends }

    complete : (ts : List T) (a : A) (rest : List T) → at_next opens ts ≡ true → Is ts a → at_next (more a) rest ≡ false → p (ts ++ rest) ≡ done a rest
    complete [] a rest h is e = absurd (cc h)
    complete (o ∷ ts) a rest h is e = (P o h).complete ts a rest is e

    stuck : (ts : List T) (n left : ℕ) → at_next opens ts ≡ true → p ts ≡ stop n left → Stuck Is p ts n left ⊎ Barred p ts n left
    stuck [] n left h e = absurd (cc h)
    stuck (o ∷ ts) n left h e =
        let s : Stuck (Behind o Is) (behind o p) ts n left = (P o h).stuck ts n left e in
        inl (record { front = o ∷ s.front; bad = s.bad; split = ap (λ z. o ∷ z) s.split; left_is = s.left_is; rest = s.rest; tree = s.tree; can = s.can; sticks = s.sticks })

-- a choice by the second token is one by the first behind the first token
pub second_of : {T A : Type 0} {opens goes : T → Bool} {Is : List T → A → Type 0} {more : A → T → Bool} {p q : Parser T A}
    → ((o : T) → opens o ≡ true → Lawful (Behind o Is) more (choose goes (behind o p) (behind o q))) → ((ts : List T) (a : A) → Is ts a → at_next opens ts ≡ true) → OnHead opens Is more (choose_second goes p q)
second_of P heads = in_front (λ o h. P o h) heads

-- an alternative where the next token passes, which also has what the other one reads there
pub overlapping_of : {T A : Type 0} {goes : T → Bool} {First Second : List T → A → Type 0} {more : A → T → Bool} {p q : Parser T A} → OnHead goes First more p → Lawful Second more q
    → ((ts : List T) (a : A) (rest : List T) → Second ts a → at_next goes (ts ++ rest) ≡ true → First ts a) → Lawful (Either First Second) more (choose goes p q)
overlapping_of {T = T} {A = A} {goes = goes} {First = First} {Second = Second} {more = more} {p = p} {q = q} P Q within = record { sound = sound; complete = complete; stuck = stuck; some = (Q.some.0, Q.some.1, inr Q.some.2) }
  where
    sound : (ts : List T) (a : A) (rest : List T) → choose goes p q ts ≡ done a rest → Part (Either First Second) more a ts rest
    sound ts a rest r = by_test (at_next goes ts) refl
      where
        by_test : (b : Bool) → at_next goes ts ≡ b → Part (Either First Second) more a ts rest
        by_test true k = let u : Part First more a ts rest = P.sound ts a rest k (sym (chosen goes p q ts true k) ∙ r) in record { front = u.front; split = u.split; is = inl u.is; ends = u.ends }
        by_test false k = let u : Part Second more a ts rest = Q.sound ts a rest (sym (chosen goes p q ts false k) ∙ r) in record { front = u.front; split = u.split; is = inr u.is; ends = u.ends }

    complete : (ts : List T) (a : A) (rest : List T) → First ts a ⊎ Second ts a → at_next (more a) rest ≡ false → choose goes p q (ts ++ rest) ≡ done a rest
    complete ts a rest (inl is) e = chosen goes p q (ts ++ rest) true (head_of_append goes ts rest (P.heads ts a is)) ∙ P.complete ts a rest is e
    complete ts a rest (inr is) e = by_test (at_next goes (ts ++ rest)) refl
      where
        by_test : (b : Bool) → at_next goes (ts ++ rest) ≡ b → choose goes p q (ts ++ rest) ≡ done a rest
        by_test true k = chosen goes p q (ts ++ rest) true k ∙ P.complete ts a rest (within ts a rest is k) e
        by_test false k = chosen goes p q (ts ++ rest) false k ∙ Q.complete ts a rest is e

    on : (ts : List T) (n left : ℕ) → at_next goes ts ≡ true → Stuck First p ts n left ⊎ Barred p ts n left → Stuck (Either First Second) (choose goes p q) ts n left
    on ts n left k (inl s) = record {
      front = s.front;
      bad = s.bad;
      split = s.split;
      left_is = s.left_is;
      rest = s.rest;
      tree = s.tree;
      can = inl s.can;
      sticks = λ x e. chosen goes p q (s.front ++ x) true (test_of_append goes s.front x s.bad e ∙ ap (at_next goes) (sym s.split) ∙ k) ∙ s.sticks x e;
    }
    on ts n left k (inr s) =
        barred_stuck (record { left_is = s.left_is; sticks = λ x e. chosen goes p q x true (same_test goes x ts e ∙ k) ∙ s.sticks x e }) Q.some.0 Q.some.1 (inr Q.some.2)

    stuck : (ts : List T) (n left : ℕ) → choose goes p q ts ≡ stop n left → Stuck (Either First Second) (choose goes p q) ts n left
    stuck ts n left r = by_test (at_next goes ts) refl
      where
        by_test : (b : Bool) → at_next goes ts ≡ b → Stuck (Either First Second) (choose goes p q) ts n left
        by_test true k = on ts n left k (P.stuck ts n left k (sym (chosen goes p q ts true k) ∙ r))
        by_test false k =
            let s : Stuck Second q ts n left = Q.stuck ts n left (sym (chosen goes p q ts false k) ∙ r) in
            record {
              front = s.front;
              bad = s.bad;
              split = s.split;
              left_is = s.left_is;
              rest = s.rest;
              tree = s.tree;
              can = inr s.can;
              sticks = λ x e. chosen goes p q (s.front ++ x) false (test_of_append goes s.front x s.bad e ∙ ap (at_next goes) (sym s.split) ∙ k) ∙ s.sticks x e;
            }
