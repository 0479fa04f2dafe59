-- laws of rules that ask: how their runs go on after one another, and what holds of their values
use Rattle.std.proofs.Common.{◌≡◌, ℕ, suc, ◌+◌, ◌<◌, length, get_or, drop, drop-cons, add-one, List, [], ◌∷◌, ◌++◌, Option, Some, None, Result, Ok, Err, refl, sym, ap, ◌∙◌, subst}
use Rattle.sb_term.specs.Answers.{IsLawful}
use Rattle.sb_term.specs.Asks.{Asks, Done, Ask, after_it, each_onto, Always, Ended, ended, stopped, asked_on, run, IsDecided, EndsAs}
use Rattle.sb_term.specs.declared.fault.DecideFault.TheVariants.{BadLine, EndOfCert, Memory}
use Rattle.sb_term.specs.declared.query.Query.{Query}
use Rattle.sb_term.specs.declared.answer.Answer.{Answer}
use Rattle.sb_term.specs.declared.fault.DecideFault.{DecideFault}

-- what holds of the value of a run that ends
abbrev pub EndsWith : {S A : Type 0} → (A → Type 0) → Ended S A → Type 0
EndsWith P (ended s a) = P a
EndsWith P (stopped s fault) = Unit {0}

-- the run of a rule that follows another's value, from what the first one's run leaves
abbrev pub run_on : {S A B : Type 0} → (A → S → Ended S B) → Ended S A → Ended S B
run_on f (ended s a) = f a s
run_on f (stopped s fault) = stopped s fault

-- what always holds of a value holds after a rule that follows it
pub always-after_it : {A B : Type 0} (P : A → Type 0) (Q : B → Type 0) (rule : Asks A) (f : A → Asks B)
    → Always P rule → ((a : A) → P a → Always Q (f a)) → Always Q (after_it rule f)
always-after_it P Q (Done a) f h k = k a h
always-after_it P Q (Ask q next) f h k = λ x lawful. always-after_it P Q (next x) f (h x lawful) k

pub always_weaker : {A : Type 0} (P Q : A → Type 0) (rule : Asks A) → ((a : A) → P a → Q a) → Always P rule → Always Q rule
always_weaker P Q (Done a) k h = k a h
always_weaker P Q (Ask q next) k h = λ x lawful. always_weaker P Q (next x) k (h x lawful)

abbrev pub AllOf : {A : Type 0} → (A → Type 0) → List A → Type 0
AllOf I [] = Unit {0}
AllOf I (x ∷ xs) = I x × AllOf I xs

-- a rule for each item: what holds of the results so far goes on holding when the results of an item are joined
pub each_always : {A B : Type 0} (I : A → Type 0) (Q : List B → Type 0) (rule : A → Asks (List B))
    → ((x : A) (out : List B) → I x → Q out → Always (λ ys. Q (out ++ ys)) (rule x))
    → (xs : List A) (out : List B) → AllOf I xs → Q out → Always Q (each_onto out xs rule)
each_always I Q rule step [] out is h = h
each_always I Q rule step (x ∷ xs) out is h =
    always-after_it (λ ys. Q (out ++ ys)) Q (rule x) (λ ys. each_onto (out ++ ys) xs rule) (step x out is.0 h)
    (λ ys k. each_always I Q rule step xs (out ++ ys) is.1 k)

-- what is left of a list from an index on
front_of : {A : Type 0} (xs : List A) (i : ℕ) (x : A) → i < length xs → get_or xs i x ≡ x → drop i xs ≡ x ∷ drop (i + 1) xs
front_of xs i x within is = rw (add-one, drop-cons xs i x) (ap (λ y. y ∷ drop (suc i) xs) is)

module _ {S : Type 0} (stop : S → Option DecideFault) (gives : S → Query → Answer) (after : S → Query → S) where
  -- the run of one rule after another
  pub run-after_it : {A B : Type 0} (rule : Asks A) (f : A → Asks B) (s : S)
      → run stop gives after (after_it rule f) s ≡ run_on (λ a t. run stop gives after (f a) t) (run stop gives after rule s)
  run-after_it (Done a) f s = refl
  run-after_it (Ask q next) f s = by (stop (after s q)) (run-after_it (next (gives s q)) f (after s q))
    where
      by : (o : Option DecideFault)
          → run stop gives after (after_it (next (gives s q)) f) (after s q)
          ≡ run_on (λ a t. run stop gives after (f a) t) (run stop gives after (next (gives s q)) (after s q))
          → asked_on (after s q) o (run stop gives after (after_it (next (gives s q)) f) (after s q))
          ≡ run_on (λ a t. run stop gives after (f a) t) (asked_on (after s q) o (run stop gives after (next (gives s q)) (after s q)))
      by None e = e
      by (Some fault) e = refl

  -- where the decider is lawful, the value of a run that ends has what always holds
  pub always_run : ((s : S) (q : Query) → IsLawful q (gives s q)) → {A : Type 0} (P : A → Type 0) (rule : Asks A) (s : S)
      → Always P rule → EndsWith P (run stop gives after rule s)
  always_run lawful P (Done a) s h = h
  always_run lawful P (Ask q next) s h =
      by (stop (after s q)) (always_run lawful P (next (gives s q)) (after s q) (h (gives s q) (lawful s q)))
    where
      by : (o : Option DecideFault) → EndsWith P (run stop gives after (next (gives s q)) (after s q))
          → EndsWith P (asked_on (after s q) o (run stop gives after (next (gives s q)) (after s q)))
      by None k = k
      by (Some fault) k = tt

  -- one question: what `decide` owes is the run of that question
  pub ends_as_asked : (q : Query) (s t : S) (r : Result Answer DecideFault) → IsDecided stop gives after s q t r
      → EndsAs r t (run stop gives after (Ask q Done) s)
  ends_as_asked q s t (Ok a) h = cc
  ends_as_asked q s t (Err Memory) h = tt
  ends_as_asked q s t (Err (BadLine n)) h = cc
  ends_as_asked q s t (Err (EndOfCert n)) h = cc

  -- a rule after another: the first ended with a value, and what follows goes on from there
  pub ends_as_after : {A B : Type 0} (rule : Asks A) (f : A → Asks B) (s t u : S) (a : A) (r : Result B DecideFault)
      → EndsAs (Ok a) t (run stop gives after rule s)
      → EndsAs r u (run stop gives after (f a) t)
      → EndsAs r u (run stop gives after (after_it rule f) s)
  ends_as_after {B = B} rule f s t u a r h k =
      let P : Ended S B → Type 0 = λ e. EndsAs r u e in
      subst P (sym (run-after_it rule f s ∙ ap (run_on (λ x v. run stop gives after (f x) v)) h)) k

  -- or it was stopped
  pub ends_as_stopped : {A B : Type 0} (rule : Asks A) (f : A → Asks B) (s t : S) (fault : DecideFault)
      → EndsAs {S = S} {A = A} (Err fault) t (run stop gives after rule s)
      → EndsAs {S = S} {A = B} (Err fault) t (run stop gives after (after_it rule f) s)
  ends_as_stopped rule f s t Memory h = tt
  ends_as_stopped rule f s t (BadLine n) h = run-after_it rule f s ∙ ap (run_on (λ x v. run stop gives after (f x) v)) h
  ends_as_stopped rule f s t (EndOfCert n) h = run-after_it rule f s ∙ ap (run_on (λ x v. run stop gives after (f x) v)) h

  -- a run that ends leaves no stop
  pub stop-after_run : {A : Type 0} (rule : Asks A) (s t : S) (a : A) → stop s ≡ None → run stop gives after rule s ≡ ended t a → stop t ≡ None
  stop-after_run (Done b) s t a h e = ap stop (sym (ends_in {a = b} e)) ∙ h
    where
      ends_in : {A : Type 0} {a b : A} {u v : S} → ended u a ≡ ended v b → u ≡ v
      ends_in e = cc
  stop-after_run (Ask q next) s t a h e =
      by (stop (after s q)) refl (λ n k. stop-after_run (next (gives s q)) (after s q) t a n k) e
    where
      by : (o : Option DecideFault) → stop (after s q) ≡ o
          → (stop (after s q) ≡ None → run stop gives after (next (gives s q)) (after s q) ≡ ended t a → stop t ≡ None)
          → asked_on (after s q) o (run stop gives after (next (gives s q)) (after s q)) ≡ ended t a → stop t ≡ None
      by None n more k = more n k
      by (Some fault) n more k = cc

  -- where the first rule ended, what follows it runs from there
  pub goes_on : {A B : Type 0} (rule : Asks A) (f : A → Asks B) (s t : S) (a : A)
      → run stop gives after rule s ≡ ended t a → run stop gives after (after_it rule f) s ≡ run stop gives after (f a) t
  goes_on rule f s t a h = run-after_it rule f s ∙ ap (run_on (λ x v. run stop gives after (f x) v)) h

  -- one turn of a rule for each item
  pub each_step : {A B : Type 0} (out : List B) (x : A) (xs : List A) (rule : A → Asks (List B)) (s : S)
      → run stop gives after (each_onto out (x ∷ xs) rule) s
      ≡ run_on (λ ys t. run stop gives after (each_onto (out ++ ys) xs rule) t) (run stop gives after (rule x) s)
  each_step out x xs rule s = run-after_it (rule x) (λ ys. each_onto (out ++ ys) xs rule) s

  -- the same at an index: the turn ended, or it was stopped
  pub each_goes_on : {A B : Type 0} (out : List B) (xs : List A) (i : ℕ) (x : A) (rule : A → Asks (List B)) (s t : S) (ys : List B)
      → i < length xs → get_or xs i x ≡ x → run stop gives after (rule x) s ≡ ended t ys
      → run stop gives after (each_onto out (drop i xs) rule) s ≡ run stop gives after (each_onto (out ++ ys) (drop (i + 1) xs) rule) t
  each_goes_on {A = A} out xs i x rule s t ys within is h =
      ap (λ zs. run stop gives after (each_onto out zs rule) s) (front_of xs i x within is)
      ∙ goes_on (rule x) (λ zs. each_onto (out ++ zs) (drop (i + 1) xs) rule) s t ys h

  pub each_stops : {A B : Type 0} (out : List B) (xs : List A) (i : ℕ) (x : A) (rule : A → Asks (List B)) (s t : S) (fault : DecideFault)
      → i < length xs → get_or xs i x ≡ x → EndsAs {S = S} {A = List B} (Err fault) t (run stop gives after (rule x) s)
      → EndsAs {S = S} {A = List B} (Err fault) t (run stop gives after (each_onto out (drop i xs) rule) s)
  each_stops {B = B} out xs i x rule s t fault within is h =
      let P : Ended S (List B) → Type 0 = λ e. EndsAs {S = S} {A = List B} (Err fault) t e in
      subst P (sym (ap (λ zs. run stop gives after (each_onto out zs rule) s) (front_of xs i x within is)))
      (ends_as_stopped (rule x) (λ zs. each_onto (out ++ zs) (drop (i + 1) xs) rule) s t fault h)

pub ruleset turns = (each_goes_on, each_stops, stop-after_run)

pub ruleset runs = (run-after_it, stop-after_run, ends_as_stopped)
