-- Readers of one token.
use Rattle.std.proofs.Common.{◌≡◌, ◌⊎◌, ℕ, suc, Bool, true, List, [], ◌∷◌, ◌++◌, length, Option, Some, None, refl, sym, ap, ◌∙◌, inr, false}
use Rattle.sb_parse.specs.Parser.{Outcome, Parser, done, stop, peeked, at_next, never}
use Rattle.sb_parse.specs.Lawful.{Part, Stuck, Barred, OnHead, IsValue}
use Rattle.sb_parse.proofs.Joining.{never_next}

-- a reader that takes the next token where it gives a value, and stops at it elsewhere
pub by_token : {T A : Type 0} (wide : T → Bool) (gives : T → Option A) (p : Parser T A)
    → ((t : T) (rest : List T) (a : A) → gives t ≡ Some a → p (t ∷ rest) ≡ done a rest)
    → ((t : T) → gives t ≡ None → wide t ≡ true → (n : ℕ) × ((rest : List T) → p (t ∷ rest) ≡ stop n (suc (length rest))))
    → ((t : T) (a : A) → gives t ≡ Some a → wide t ≡ true) → OnHead wide (IsValue gives) (λ _. never) p
by_token {T = T} {A = A} wide gives p reads stops inside = record { sound = sound; complete = complete; stuck = stuck; heads = λ ts a is. ap (at_next wide) is.alone ∙ inside is.token a is.is }
  where
    sound : (ts : List T) (a : A) (rest : List T) → at_next wide ts ≡ true → p ts ≡ done a rest → Part (IsValue gives) (λ _. never) a ts rest
    sound [] a rest h e = absurd (cc h)
    sound (t ∷ ts) a rest h e = by_value (gives t) refl
      where
        by_value : (o : Option A) → gives t ≡ o → Part (IsValue gives) (λ _. never) a (t ∷ ts) rest
        by_value None k = absurd (let it = stops t k h in let halt : stop it.0 (suc (length ts)) ≡ done a rest = sym (it.1 ts) ∙ e in cc halt)
        by_value (Some v) k =
            let both : done v ts ≡ done a rest = sym (reads t ts v k) ∙ e in
            let value : v ≡ a = cc both in
            let tail : ts ≡ rest = cc both in
            record { front = t ∷ []; split = ap (λ z. t ∷ z) tail; is = record { token = t; alone = refl; is = k ∙ ap Some value }; ends = never_next rest }

    complete : (ts : List T) (a : A) (rest : List T) → IsValue gives ts a → at_next never rest ≡ false → p (ts ++ rest) ≡ done a rest
    complete ts a rest is e = ap (λ z. p (z ++ rest)) is.alone ∙ reads is.token rest a is.is

    stuck : (ts : List T) (n left : ℕ) → at_next wide ts ≡ true → p ts ≡ stop n left → Stuck (IsValue gives) p ts n left ⊎ Barred p ts n left
    stuck [] n left h e = absurd (cc h)
    stuck (t ∷ ts) n left h e = by_value (gives t) refl
      where
        at_token : (m : ℕ) → ((rest : List T) → p (t ∷ rest) ≡ stop m (suc (length rest))) → (x : List T) → peeked x ≡ Some t → p x ≡ stop m (length x)
        at_token m halts [] same = absurd (cc same)
        at_token m halts (s ∷ x) same = let it : s ≡ t = cc same in ap (λ z. p (z ∷ x)) it ∙ halts x

        by_value : (o : Option A) → gives t ≡ o → Stuck (IsValue gives) p (t ∷ ts) n left ⊎ Barred p (t ∷ ts) n left
        by_value (Some v) k = absurd (let both : done v ts ≡ stop n left = sym (reads t ts v k) ∙ e in cc both)
        by_value None k =
            let it = stops t k h in
            let both : stop it.0 (suc (length ts)) ≡ stop n left = sym (it.1 ts) ∙ e in
            let number : it.0 ≡ n = cc both in
            let lefts : left ≡ suc (length ts) = cc both in
            inr (record { left_is = lefts; sticks = λ x same. at_token it.0 it.1 x same ∙ ap (λ i. stop i (length x)) number })
