-- Where readers that are put together stop.
use Rattle.std.proofs.Common.{◌≡◌, ◌⊎◌, ℕ, suc, Bool, true, false, List, [], ◌∷◌, length, Option, Some, None, is_some, if◌then◌else◌, refl, sym, ap, ◌∙◌, inl, inr}
use Rattle.sb_parse.specs.Parser.{Outcome, Parser, done, stop, at_next, and_then, token, taken, taken_as}
use Rattle.sb_cond.specs.declared.arithmetic.Operand.{Operand}
use Rattle.sb_cond.specs.declared.sign.ConditionToken.{ConditionToken}
use Rattle.sb_cond.specs.Readers.{number_of, fault_in, renumbered}

pub bound_stop : {T A B : Type 0} (o : Outcome T A) (q : A → Parser T B) (n k : ℕ) → and_then o q ≡ stop n k → (o ≡ stop n k) ⊎ ((a : A) × (r : List T) × (o ≡ done a r) × (q a r ≡ stop n k))
bound_stop (done a r) q n k h = inr (a, r, refl, h)
bound_stop (stop m j) q n k h = inl (let number : m ≡ n = cc h in let lefts : j ≡ k = cc h in ap (λ i. stop i j) number ∙ ap (stop n) lefts)

pub bound_done : {T A B : Type 0} (o : Outcome T A) (q : A → Parser T B) (b : B) (s : List T) → and_then o q ≡ done b s → (a : A) × (r : List T) × (o ≡ done a r) × (q a r ≡ done b s)
bound_done (done a r) q b s h = (a, r, refl, h)
bound_done (stop m j) q b s h = absurd (cc h)

pub token_stops : {T : Type 0} (n : ℕ) (test : T → Bool) (ts : List T) (m k : ℕ) → token n test ts ≡ stop m k → (n ≡ m) × (k ≡ length ts)
token_stops n test [] m k h = (cc h, cc h)
token_stops {T} n test (t ∷ ts) m k h = by_test (test t) h
  where
    by_test : (b : Bool) → ◌≡◌ {A = Outcome T T} (if b then done t ts else stop n (suc (length ts))) (stop m k) → (n ≡ m) × (k ≡ length (t ∷ ts))
    by_test true h = absurd (cc h)
    by_test false h = (cc h, cc h)

pub token_reads : {T : Type 0} (n : ℕ) (test : T → Bool) (ts : List T) (t : T) (r : List T) → token n test ts ≡ done t r → (ts ≡ t ∷ r) × (test t ≡ true)
token_reads n test [] t r h = absurd (cc h)
token_reads {T} n test (s ∷ ts) t r h = by_test (test s) refl h
  where
    by_test : (b : Bool) → test s ≡ b → ◌≡◌ {A = Outcome T T} (if b then done s ts else stop n (suc (length ts))) (done t r) → (s ∷ ts ≡ t ∷ r) × (test t ≡ true)
    by_test true e h = let same : s ≡ t = cc h in let tail : ts ≡ r = cc h in (ap (λ x. x ∷ ts) same ∙ ap (λ l. t ∷ l) tail, ap test (sym same) ∙ e)
    by_test false e h = absurd (cc h)

pub taken_stops : {T A : Type 0} (n : ℕ) (gives : T → Option A) (ts : List T) (m k : ℕ) → taken n gives ts ≡ stop m k → (n ≡ m) × (k ≡ length ts)
taken_stops n gives [] m k h = (cc h, cc h)
taken_stops {T} {A} n gives (t ∷ ts) m k h = by_value (gives t) h
  where
    by_value : (o : Option A) → taken_as n o ts ≡ stop m k → (n ≡ m) × (k ≡ length (t ∷ ts))
    by_value None h = (cc h, cc h)
    by_value (Some a) h = absurd (cc h)

pub taken_reads : {T A : Type 0} (n : ℕ) (gives : T → Option A) (ts : List T) (a : A) (r : List T) → taken n gives ts ≡ done a r → (t : T) × (ts ≡ t ∷ r) × (gives t ≡ Some a)
taken_reads n gives [] a r h = absurd (cc h)
taken_reads {T} {A} n gives (t ∷ ts) a r h = by_value (gives t) refl h
  where
    by_value : (o : Option A) → gives t ≡ o → taken_as n o ts ≡ done a r → (s : T) × (t ∷ ts ≡ s ∷ r) × (gives s ≡ Some a)
    by_value None e h = absurd (cc h)
    by_value (Some b) e h = let same : b ≡ a = cc h in let tail : ts ≡ r = cc h in (t, ap (λ l. t ∷ l) tail, e ∙ ap Some same)

-- what stands next and passes is taken
pub token_passes : {T : Type 0} (n : ℕ) (test : T → Bool) (ts : List T) (m k : ℕ) → at_next test ts ≡ true → token n test ts ≡ stop m k → ⊥
token_passes n test [] m k next h = cc next
token_passes {T} n test (t ∷ ts) m k next h = let e : ◌≡◌ {A = Outcome T T} (done t ts) (stop m k) = sym (ap (λ b. if b then done t ts else stop n (suc (length ts))) next) ∙ h in cc e

pub taken_passes : {T A : Type 0} (n : ℕ) (gives : T → Option A) (ts : List T) (m k : ℕ) → at_next (λ t. is_some (gives t)) ts ≡ true → taken n gives ts ≡ stop m k → ⊥
taken_passes n gives [] m k next h = cc next
taken_passes {T} {A} n gives (t ∷ ts) m k next h = by_value (gives t) next h
  where
    by_value : (o : Option A) → is_some o ≡ true → taken_as n o ts ≡ stop m k → ⊥
    by_value None e h = cc e
    by_value (Some b) e h = cc h

pub renumbered_stop : (f : ℕ → ℕ) (o : Outcome ConditionToken Operand) (n k : ℕ) → renumbered f o ≡ stop n k → (m : ℕ) × (o ≡ stop m k) × (f m ≡ n)
renumbered_stop f (done a r) n k h = absurd (cc h)
renumbered_stop f (stop m j) n k h = (m, (let lefts : j ≡ k = cc h in ap (stop m) lefts), (let number : f m ≡ n = cc h in number))

pub renumbered_done : (f : ℕ → ℕ) (o : Outcome ConditionToken Operand) (a : Operand) (r : List ConditionToken) → renumbered f o ≡ done a r → o ≡ done a r
renumbered_done f (done b s) a r h = h
renumbered_done f (stop m j) a r h = absurd (cc h)

pub fault_in_number : (f : Option ℕ) → fault_in (number_of f) ≡ f
fault_in_number None = refl
fault_in_number (Some at) = refl
