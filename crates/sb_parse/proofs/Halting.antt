-- A refusal at some tokens behind a text, of a reader that is asked at some tokens alone.
use Rattle.std.proofs.Common.{◌≡◌, ◌⊎◌, ℕ, Bool, true, false, List, [], ◌++◌, length, refl, sym, ap, ◌∙◌, append-nil, subst, inl, inr}
use Rattle.sb_parse.specs.Parser.{Outcome, Parser, done, stop, at_next, never, and_then, ◌>>=◌, pure, choose, refuse}
use Rattle.sb_parse.specs.Lawful.{Part, Stuck, Barred, OnHead}
use Rattle.sb_parse.proofs.Joining.{same_test, never_next}
use Rattle.sb_parse.proofs.Heads.{chosen}

module _ {T A : Type 0} (goes : T → Bool) (Is : List T → A → Type 0) (p : Parser T A) (P : OnHead goes Is (λ _. never) p) (halts : A → T → Bool) (n : ℕ) where
  abbrev past : A → Parser T A
  past a = choose (halts a) (refuse n) (pure a)

  read : (o : Outcome T A) (ts : List T) → p ts ≡ o → (a : A) (rest : List T) → at_next goes ts ≡ true → and_then o past ≡ done a rest → Part Is halts a ts rest
  read (stop m k) ts e a rest g h = absurd (cc h)
  read (done b r) ts e a rest g h = by_test (at_next (halts b) r) refl
    where
      by_test : (c : Bool) → at_next (halts b) r ≡ c → Part Is halts a ts rest
      by_test true k = absurd (cc (sym (chosen (halts b) (refuse n) (pure b) r true k) ∙ h))
      by_test false k =
          let stays : done b r ≡ done a rest = sym (chosen (halts b) (refuse n) (pure b) r false k) ∙ h in
          let value : b ≡ a = cc stays in
          let tail : r ≡ rest = cc stays in
          let u : Part Is (λ _. never) b ts r = P.sound ts b r g e in
          record {
            front = u.front;
            split = u.split ∙ ap (λ z. u.front ++ z) tail;
            is = subst (Is u.front) value u.is;
            ends = ap (λ z. at_next (halts z) rest) (sym value) ∙ ap (at_next (halts b)) (sym tail) ∙ k;
          }

  complete : (ts : List T) (a : A) (rest : List T) → Is ts a → at_next (halts a) rest ≡ false → and_then (p (ts ++ rest)) past ≡ done a rest
  complete ts a rest is e = ap (λ o. and_then o past) (P.complete ts a rest is (never_next rest)) ∙ chosen (halts a) (refuse n) (pure a) rest false e

  wrap : (ts : List T) (m left : ℕ) → Stuck Is p ts m left ⊎ Barred p ts m left → Stuck Is (p >>= past) ts m left ⊎ Barred (p >>= past) ts m left
  wrap ts m left (inl u) = inl (record {
    front = u.front;
    bad = u.bad;
    split = u.split;
    left_is = u.left_is;
    rest = u.rest;
    tree = u.tree;
    can = u.can;
    sticks = λ x same. ap (λ o. and_then o past) (u.sticks x same);
  })
  wrap ts m left (inr b) = inr (record { left_is = b.left_is; sticks = λ x same. ap (λ o. and_then o past) (b.sticks x same) })

  halt : (o : Outcome T A) (ts : List T) → p ts ≡ o → (m left : ℕ) → at_next goes ts ≡ true → and_then o past ≡ stop m left → Stuck Is (p >>= past) ts m left ⊎ Barred (p >>= past) ts m left
  halt (stop i k) ts e m left g h =
      let number : i ≡ m = cc h in
      let lefts : k ≡ left = cc h in
      wrap ts m left (P.stuck ts m left g (e ∙ ap (λ z. stop z k) number ∙ ap (stop m) lefts))
  halt (done b r) ts e m left g h = by_test (at_next (halts b) r) refl
    where
      by_test : (c : Bool) → at_next (halts b) r ≡ c → Stuck Is (p >>= past) ts m left ⊎ Barred (p >>= past) ts m left
      by_test false k = absurd (cc (sym (chosen (halts b) (refuse n) (pure b) r false k) ∙ h))
      by_test true k =
          let stops : stop n (length r) ≡ stop m left = sym (chosen (halts b) (refuse n) (pure b) r true k) ∙ h in
          let number : n ≡ m = cc stops in
          let lefts : left ≡ length r = cc stops in
          let u : Part Is (λ _. never) b ts r = P.sound ts b r g e in
          inl (record {
            front = u.front;
            bad = r;
            split = u.split;
            left_is = lefts;
            rest = [];
            tree = b;
            can = subst (λ z. Is z b) (sym (append-nil u.front)) u.is;
            sticks = λ x same.
                ap (λ o. and_then o past) (P.complete u.front b x u.is (never_next x))
                ∙ chosen (halts b) (refuse n) (pure b) x true (same_test (halts b) x r same ∙ k) ∙ ap (λ i. stop i (length x)) number;
          })

  pub head_halted : OnHead goes Is halts (p >>= past)
  head_halted = record { sound = λ ts a rest g e. read (p ts) ts refl a rest g e; complete = complete; stuck = λ ts m left g e. halt (p ts) ts refl m left g e; heads = P.heads }
