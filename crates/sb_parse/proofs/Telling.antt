-- What a reader tells of the tokens: it reads those in front, or stops for a reason. The ways of putting readers together keep it, for reasons that stay so behind more tokens.
use Rattle.std.proofs.Common.{◌≡◌, ℕ, zero, suc, Bool, true, false, List, [], ◌∷◌, ◌++◌, length, Option, Some, None, if◌then◌else◌, refl, sym, ap, ◌∙◌, subst, append_assoc}
use Rattle.sb_parse.specs.Parser.{Outcome, Parser, done, stop, at_next, and_then, ◌>>=◌, pure, refuse, token, taken, taken_as, choose, loop, looped}
use Rattle.sb_parse.specs.Descent.{at_second, choose_second}
use Rattle.sb_parse.proofs.Explaining.{Stops}
use Rattle.sb_parse.specs.Texts.{with_front, with_text}

pub record Front {T : Type 0} (ts rest : List T) : Type 0 where
  pub front : List T
  pub split : ts ≡ front ++ rest

-- nothing is read
pub still : {T : Type 0} (ts : List T) → Front ts ts
still ts = record { front = []; split = refl }

-- reasons for which readers stop: they stay so behind more tokens, and one number says nothing more than that a token is unexpected
pub record Reasons (T : Type 0) : Type 1 where
  pub number : ℕ
  pub why : List T → List T → ℕ → Type 0
  pub further : (xs front bad : List T) (n : ℕ) → why front bad n → why (xs ++ front) bad n
  pub plain : (front bad : List T) → why front bad number

module _ {T : Type 0} (W : Reasons T) where
  -- how reading a list ends
  abbrev pub Tells : {A : Type 0} → List T → Outcome T A → Type 0
  Tells ts (done a rest) = Front ts rest
  Tells ts (stop n left) = Stops W.why ts n left

  abbrev pub Telling : {A : Type 0} → Parser T A → Type 0
  Telling p = (ts : List T) → Tells ts (p ts)

  -- at the tokens that pass a test
  abbrev pub TellingAt : {A : Type 0} → (T → Bool) → Parser T A → Type 0
  TellingAt goes p = (ts : List T) → at_next goes ts ≡ true → Tells ts (p ts)

  pub tells_behind : {A : Type 0} (xs ts : List T) (o : Outcome T A) → Tells ts o → Tells (xs ++ ts) o
  tells_behind xs ts (done a rest) f = record { front = xs ++ f.front; split = ap (λ z. xs ++ z) f.split ∙ sym (append_assoc xs f.front rest) }
  tells_behind xs ts (stop n left) s = record { front = xs ++ s.front; bad = s.bad; split = ap (λ z. xs ++ z) s.split ∙ sym (append_assoc xs s.front s.bad); left_is = s.left_is; why = W.further xs s.front s.bad n s.why }

  -- ---- one after the other

  pub in_turn : {A B : Type 0} (o : Outcome T A) (q : A → Parser T B) (ts : List T) → Tells ts o → ((a : A) (rest : List T) → o ≡ done a rest → (xs : List T) → ts ≡ xs ++ rest → Tells (xs ++ rest) (q a rest)) → Tells ts (and_then o q)
  in_turn (done a rest) q ts f Q = subst (λ z. Tells z (q a rest)) (sym f.split) (Q a rest refl f.front f.split)
  in_turn (stop n left) q ts s Q = s

  pub one_by_one : {A B : Type 0} (p : Parser T A) (q : A → Parser T B) → Telling p → ((a : A) → Telling (q a)) → Telling (p >>= q)
  one_by_one p q P Q ts = in_turn (p ts) q ts (P ts) (λ a rest e xs split. tells_behind xs rest (q a rest) (Q a rest))

  pub one_by_one_at : {A B : Type 0} (goes : T → Bool) (p : Parser T A) (q : A → Parser T B) → TellingAt goes p → ((a : A) → Telling (q a)) → TellingAt goes (p >>= q)
  one_by_one_at goes p q P Q ts h = in_turn (p ts) q ts (P ts h) (λ a rest e xs split. tells_behind xs rest (q a rest) (Q a rest))

  pub giving : {A : Type 0} (a : A) → Telling (pure a)
  giving a ts = still ts

  pub mapping : {A B : Type 0} (p : Parser T A) (f : A → B) → Telling p → Telling (p >>= (λ a. pure (f a)))
  mapping p f P = one_by_one p (λ a. pure (f a)) P (λ a. giving (f a))

  -- ---- refusals

  pub stopping : (A : Type 0) (n : ℕ) (ts : List T) → W.why [] ts n → Tells {A = A} ts (stop n (length ts))
  stopping A n ts why = record { front = []; bad = ts; split = refl; left_is = refl; why = why }

  pub refusing : (A : Type 0) → Telling {A = A} (refuse W.number)
  refusing A ts = stopping A W.number ts (W.plain [] ts)

  -- ---- tokens

  pub a_token : (test : T → Bool) → Telling (token W.number test)
  a_token test [] = stopping T W.number [] (W.plain [] [])
  a_token test (t ∷ ts) = by_test (test t)
    where
      by_test : (b : Bool) → Tells (t ∷ ts) (if b then done t ts else stop W.number (suc (length ts)))
      by_test true = record { front = t ∷ []; split = refl }
      by_test false = stopping T W.number (t ∷ ts) (W.plain [] (t ∷ ts))

  pub token_turn : {A : Type 0} (test : T → Bool) (q : T → Parser T A) → ((t : T) → test t ≡ true → (rest : List T) → Tells (t ∷ rest) (q t rest)) → Telling (token W.number test >>= q)
  token_turn {A = A} test q Q [] = stopping A W.number [] (W.plain [] [])
  token_turn {A = A} test q Q (t ∷ ts) = by_case (test t) refl
    where
      by_case : (b : Bool) → test t ≡ b → Tells (t ∷ ts) (and_then (if b then done t ts else stop W.number (suc (length ts))) q)
      by_case true h = Q t h ts
      by_case false h = stopping A W.number (t ∷ ts) (W.plain [] (t ∷ ts))

  pub a_value : {A : Type 0} (gives : T → Option A) → Telling (taken W.number gives)
  a_value {A = A} gives [] = stopping A W.number [] (W.plain [] [])
  a_value {A = A} gives (t ∷ ts) = by_value (gives t)
    where
      by_value : (o : Option A) → Tells (t ∷ ts) (taken_as W.number o ts)
      by_value (Some a) = record { front = t ∷ []; split = refl }
      by_value None = stopping A W.number (t ∷ ts) (W.plain [] (t ∷ ts))

  -- ---- choices

  pub by_choice : {A : Type 0} (b : Bool) (o x : Outcome T A) (ts : List T) → (b ≡ true → Tells ts o) → (b ≡ false → Tells ts x) → Tells ts (if b then o else x)
  by_choice true o x ts P Q = P refl
  by_choice false o x ts P Q = Q refl

  pub choosing : {A : Type 0} (goes : T → Bool) (p q : Parser T A) → TellingAt goes p → Telling q → Telling (choose goes p q)
  choosing goes p q P Q ts = by_choice (at_next goes ts) (p ts) (q ts) ts (λ h. P ts h) (λ h. Q ts)

  pub choosing_any : {A : Type 0} (goes : T → Bool) (p q : Parser T A) → Telling p → Telling q → Telling (choose goes p q)
  choosing_any goes p q P Q = choosing goes p q (λ ts h. P ts) Q

  pub choosing_second : {A : Type 0} (goes : T → Bool) (p q : Parser T A) → Telling p → Telling q → Telling (choose_second goes p q)
  choosing_second goes p q P Q ts = by_choice (at_second goes ts) (p ts) (q ts) ts (λ h. P ts) (λ h. Q ts)

  -- by a test that is known before
  pub by_test : {A : Type 0} (b : Bool) (p q : Parser T A) → Telling p → Telling q → Telling (if b then p else q)
  by_test true p q P Q = P
  by_test false p q P Q = Q

  -- ---- turns

  turns : {A : Type 0} (goes : T → Bool) (op : A → Parser T A) → ((a : A) → TellingAt goes (op a)) → (n : ℕ) (a : A) → Telling (loop goes op n a)
  unfolding loop
  turns goes op Op zero a = giving a
  turns goes op Op (suc n) a = choosing goes (op a >>= loop goes op n) (pure a) (one_by_one_at goes (op a) (loop goes op n) (Op a) (turns goes op Op n)) (giving a)

  pub turning : {A : Type 0} (goes : T → Bool) (op : A → Parser T A) → ((a : A) → TellingAt goes (op a)) → (a : A) → Telling (looped goes op a)
  turning goes op Op a ts = turns goes op Op (length ts) a ts

  -- ---- with the tokens that were read

  pub text_telling : {A : Type 0} (p : Parser T A) → Telling p → Telling (with_text p)
  text_telling {A = A} p P ts = go (p ts) (P ts)
    where
      go : (o : Outcome T A) → Tells ts o → Tells ts (with_front ts o)
      go (done a rest) f = f
      go (stop n left) s = s
