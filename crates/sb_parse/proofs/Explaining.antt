-- Where a parser stops and why: for reasons that are told by what stands before and behind the place.
use Rattle.std.proofs.Common.{◌≡◌, ℕ, Bool, true, false, List, [], ◌∷◌, ◌++◌, length, Option, Some, None, if◌then◌else◌, refl, sym, ap, ◌∙◌, append_assoc, subst}
use Rattle.sb_parse.specs.Parser.{Outcome, Parser, done, stop, at_next, and_then, pure, token, taken, taken_as, choose, guard}
use Rattle.sb_parse.proofs.Heads.{chosen}

-- a place in the list, with a reason for this number
pub record Stops {T : Type 0} (Why : List T → List T → ℕ → Type 0) (ts : List T) (n left : ℕ) : Type 0 where
  pub front : List T
  pub bad : List T
  pub split : ts ≡ front ++ bad
  pub left_is : left ≡ length bad
  pub why : Why front bad n

-- if this is how reading the list ends, there is a reason
abbrev pub Explained : {T A : Type 0} → (List T → List T → ℕ → Type 0) → List T → Outcome T A → Type 0
Explained Why ts o = (n left : ℕ) → o ≡ stop n left → Stops Why ts n left

-- the reasons behind a front
abbrev pub behind : {T : Type 0} → List T → (List T → List T → ℕ → Type 0) → List T → List T → ℕ → Type 0
behind before Why front bad n = Why (before ++ front) bad n

pub at_once : {T A : Type 0} {Why : List T → List T → ℕ → Type 0} (n : ℕ) (ts : List T) → Why [] ts n → Explained {A = A} Why ts (stop n (length ts))
at_once {Why = Why} n ts why m left e =
    let number : n ≡ m = cc e in
    let lefts : left ≡ length ts = cc e in
    record { front = []; bad = ts; split = refl; left_is = lefts; why = subst (Why [] ts) number why }

pub not_done : {T A : Type 0} {Why : List T → List T → ℕ → Type 0} (ts : List T) (a : A) (rest : List T) → Explained Why ts (done a rest)
not_done ts a rest n left e = absurd (cc e)

pub at_choice : {T A : Type 0} {Why : List T → List T → ℕ → Type 0} (goes : T → Bool) (p q : Parser T A) (ts : List T)
    → (at_next goes ts ≡ true → Explained Why ts (p ts)) → (at_next goes ts ≡ false → Explained Why ts (q ts)) → Explained Why ts (choose goes p q ts)
at_choice {Why = Why} goes p q ts P Q n left e = by_test (at_next goes ts) refl
  where
    by_test : (b : Bool) → at_next goes ts ≡ b → Stops Why ts n left
    by_test true k = P k n left (sym (chosen goes p q ts true k) ∙ e)
    by_test false k = Q k n left (sym (chosen goes p q ts false k) ∙ e)

pub at_guard : {T A : Type 0} {Why : List T → List T → ℕ → Type 0} (bar : Bool) (m : ℕ) (p : Parser T A) (ts : List T) → Why [] ts m → Explained Why ts (p ts) → Explained Why ts (guard bar m p ts)
at_guard {A = A} true m p ts why P = at_once {A = A} m ts why
at_guard false m p ts why P = P

pub at_token : {T : Type 0} {Why : List T → List T → ℕ → Type 0} (m : ℕ) (test : T → Bool) (ts : List T) → (at_next test ts ≡ false → Why [] ts m) → Explained Why ts (token m test ts)
at_token {T = T} m test [] why n left e = at_once {A = T} m [] (why refl) n left e
at_token {T = T} {Why = Why} m test (t ∷ ts) why n left e = by_test (test t) refl e
  where
    by_test : (b : Bool) → test t ≡ b → (if b then done t ts else stop m (length (t ∷ ts))) ≡ stop n left → Stops Why (t ∷ ts) n left
    by_test true k h = absurd (cc h)
    by_test false k h = at_once {A = T} m (t ∷ ts) (why k) n left h

pub at_taken : {T A : Type 0} {Why : List T → List T → ℕ → Type 0} (m : ℕ) (gives : T → Option A) (ts : List T) → Why [] ts m → Explained Why ts (taken m gives ts)
at_taken {A = A} m gives [] why n left e = at_once {A = A} m [] why n left e
at_taken {T = T} {A = A} {Why = Why} m gives (t ∷ ts) why n left e = by_value (gives t) e
  where
    by_value : (o : Option A) → taken_as m o ts ≡ stop n left → Stops Why (t ∷ ts) n left
    by_value (Some a) h = absurd (cc h)
    by_value None h = at_once {A = A} m (t ∷ ts) why n left h

-- what a list begins with, and how what follows is explained
pub record Goes {T B : Type 0} (Why : List T → List T → ℕ → Type 0) (ts rest : List T) (o : Outcome T B) : Type 0 where
  pub before : List T
  pub split : ts ≡ before ++ rest
  pub then_so : Explained (behind before Why) rest o

pub in_turn : {T A B : Type 0} {Why : List T → List T → ℕ → Type 0} (p : Parser T A) (q : A → Parser T B) (ts : List T) → Explained Why ts (p ts)
    → ((a : A) (rest : List T) → p ts ≡ done a rest → Goes Why ts rest (q a rest)) → Explained Why ts (and_then (p ts) q)
in_turn {T = T} {A = A} {Why = Why} p q ts P Q n left e = go (p ts) refl e
  where
    go : (o : Outcome T A) → p ts ≡ o → and_then o q ≡ stop n left → Stops Why ts n left
    go (stop m k) w h =
        let number : m ≡ n = cc h in
        let lefts : k ≡ left = cc h in
        P n left (w ∙ ap (λ z. stop z k) number ∙ ap (stop n) lefts)
    go (done a rest) w h =
        let g = Q a rest w in
        let s = g.then_so n left h in
        record { front = g.before ++ s.front; bad = s.bad; split = g.split ∙ ap (λ z. g.before ++ z) s.split ∙ sym (append_assoc g.before s.front s.bad); left_is = s.left_is; why = s.why }

-- a token that was read
pub token_was : {T : Type 0} (m : ℕ) (test : T → Bool) (ts : List T) (a : T) (rest : List T) → token m test ts ≡ done a rest → (ts ≡ a ∷ rest) × (test a ≡ true)
token_was m test [] a rest e = absurd (cc e)
token_was {T = T} m test (t ∷ ts) a rest e = by_test (test t) refl e
  where
    by_test : (b : Bool) → test t ≡ b → (if b then done t ts else stop m (length (t ∷ ts))) ≡ done a rest → (t ∷ ts ≡ a ∷ rest) × (test a ≡ true)
    by_test false k h = absurd (cc h)
    by_test true k h =
        let same : t ≡ a = cc h in
        let tail : ts ≡ rest = cc h in
        (ap (λ z. z ∷ ts) same ∙ ap (λ z. a ∷ z) tail, sym (ap test same) ∙ k)

-- a token that gave a value
pub record Taken {T A : Type 0} (gives : T → Option A) (ts : List T) (v : A) (rest : List T) : Type 0 where
  pub token : T
  pub split : ts ≡ token ∷ rest
  pub gives_it : gives token ≡ Some v

pub taken_was : {T A : Type 0} (m : ℕ) (gives : T → Option A) (ts : List T) (v : A) (rest : List T) → taken m gives ts ≡ done v rest → Taken gives ts v rest
taken_was m gives [] v rest e = absurd (cc e)
taken_was {T = T} {A = A} m gives (t ∷ ts) v rest e = by_value (gives t) refl e
  where
    by_value : (o : Option A) → gives t ≡ o → taken_as m o ts ≡ done v rest → Taken gives (t ∷ ts) v rest
    by_value None k h = absurd (cc h)
    by_value (Some a) k h =
        let same : a ≡ v = cc h in
        let tail : ts ≡ rest = cc h in
        record { token = t; split = ap (λ z. t ∷ z) tail; gives_it = k ∙ ap Some same }

-- the next token that passes
pub next_is : {T : Type 0} (test : T → Bool) (ts : List T) → at_next test ts ≡ true → (t : T) × (rest : List T) × (ts ≡ t ∷ rest) × (test t ≡ true)
next_is test [] h = absurd (cc h)
next_is test (t ∷ ts) h = (t, ts, refl, h)

-- a value changed
pub mapped : {T A B : Type 0} {Why : List T → List T → ℕ → Type 0} (o : Outcome T A) (f : A → B) (ts : List T) → Explained Why ts o → Explained Why ts (and_then o (λ a. pure (f a)))
mapped (done a rest) f ts P n left e = absurd (cc e)
mapped (stop m k) f ts P n left e =
    let number : m ≡ n = cc e in
    let lefts : k ≡ left = cc e in
    P n left (ap (λ z. stop z k) number ∙ ap (stop n) lefts)

-- the same reasons in other words
pub reworded : {T A : Type 0} {Why Other : List T → List T → ℕ → Type 0} {ts : List T} {o : Outcome T A} → ((front bad : List T) (n : ℕ) → Why front bad n → Other front bad n)
    → Explained Why ts o → Explained Other ts o
reworded to P n left e = let s = P n left e in record { front = s.front; bad = s.bad; split = s.split; left_is = s.left_is; why = to s.front s.bad n s.why }
