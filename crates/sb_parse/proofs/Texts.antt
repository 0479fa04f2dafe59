-- A reader that also gives the tokens that it read keeps the laws.
use Rattle.std.proofs.Common.{◌≡◌, ℕ, ◌+◌, ◌-◌, Bool, List, ◌++◌, length, refl, sym, ap, ◌∙◌, arith, length-append}
use Rattle.std.specs.Prelude.{take}
use Rattle.std.proofs.Math.Seq.{take-append_seam}
use Rattle.sb_parse.specs.Parser.{Outcome, Parser, done, stop}
use Rattle.sb_parse.specs.Lawful.{Part, Stuck, Lawful, Follows}
use Rattle.sb_parse.specs.Texts.{with_front, with_text}

-- a text beside its value
abbrev pub WithText : {T A : Type 0} → (List T → A → Type 0) → List T → A × List T → Type 0
WithText Is ts v = Is ts v.0 × (v.1 ≡ ts)

pub front_taken : {T : Type 0} (xs ys : List T) → take (length (xs ++ ys) - length ys) (xs ++ ys) ≡ xs
front_taken xs ys =
    let sizes : length (xs ++ ys) ≡ length xs + length ys = length-append xs ys in
    let count : length (xs ++ ys) - length ys ≡ length xs = omega arith in
    ap (λ n. take n (xs ++ ys)) count ∙ take-append_seam xs ys

module _ {T A : Type 0} (Is : List T → A → Type 0) (more : A → T → Bool) (p : Parser T A) where
  read : (ts : List T) (v : A × List T) (rest : List T) → (o : Outcome T A) → p ts ≡ o → ((a : A) → p ts ≡ done a rest → Part Is more a ts rest) → with_front ts o ≡ done v rest
      → Part (WithText Is) (λ v. more v.0) v ts rest
  read ts v rest (done a r) e P h =
      let value : a ≡ v.0 = cc h in
      let tail : r ≡ rest = cc h in
      let text : take (length ts - length r) ts ≡ v.1 = cc h in
      let u : Part Is more v.0 ts rest = P v.0 (e ∙ ap (λ z. done z r) value ∙ ap (done v.0) tail) in
      let front : take (length ts - length rest) ts ≡ u.front = ap (λ z. take (length z - length rest) z) u.split ∙ front_taken u.front rest in
      record { front = u.front; split = u.split; is = (u.is, sym text ∙ ap (λ z. take (length ts - length z) ts) tail ∙ front); ends = u.ends }
  read ts v rest (stop n k) e P h = absurd (cc h)

  complete : (ts : List T) (v : A × List T) (rest : List T) → v.1 ≡ ts → p (ts ++ rest) ≡ done v.0 rest → with_text p (ts ++ rest) ≡ done v rest
  complete ts v rest text e =
      let front : take (length (ts ++ rest) - length rest) (ts ++ rest) ≡ v.1 = front_taken ts rest ∙ sym text in
      ap (with_front (ts ++ rest)) e ∙ ap (λ z. done (v.0, z) rest) front

  stops : (ts : List T) (n left : ℕ) → (o : Outcome T A) → p ts ≡ o → with_front ts o ≡ stop n left → p ts ≡ stop n left
  stops ts n left (done a r) e h = absurd (cc h)
  stops ts n left (stop m k) e h =
      let number : m ≡ n = cc h in
      let lefts : k ≡ left = cc h in
      e ∙ ap (λ z. stop z k) number ∙ ap (stop n) lefts

  halt : (ts : List T) (n left : ℕ) → Stuck Is p ts n left → Stuck (WithText Is) (with_text p) ts n left
  halt ts n left s = record {
    front = s.front;
    bad = s.bad;
    split = s.split;
    left_is = s.left_is;
    rest = s.rest;
    tree = (s.tree, s.front ++ s.rest);
    can = (s.can, refl);
    sticks = λ x same. ap (with_front (s.front ++ x)) (s.sticks x same);
  }

module _ {T A : Type 0} {Is : List T → A → Type 0} {more : A → T → Bool} {p : Parser T A} where
  pub text_law : Lawful Is more p → Lawful (WithText Is) (λ v. more v.0) (with_text p)
  text_law P = record {
    sound = λ ts v rest e. read Is more p ts v rest (p ts) refl (λ a h. P.sound ts a rest h) e;
    complete = λ ts v rest is e. complete Is more p ts v rest is.1 (P.complete ts v.0 rest is.0 e);
    stuck = λ ts n left e. halt Is more p ts n left (P.stuck ts n left (stops Is more p ts n left (p ts) refl e));
    some = (P.some.0, (P.some.1, P.some.0), (P.some.2, refl));
  }

  pub text_follows : {before : T → Bool} → Follows before Is more p → Follows before (WithText Is) (λ v. more v.0) (with_text p)
  text_follows P = record {
    sound = λ ts v rest k e. read Is more p ts v rest (p ts) refl (λ a h. P.sound ts a rest k h) e;
    complete = λ ts v rest is e. complete Is more p ts v rest is.1 (P.complete ts v.0 rest is.0 e);
    stuck = λ ts n left e. halt Is more p ts n left (P.stuck ts n left (stops Is more p ts n left (p ts) refl e));
    some = (P.some.0, (P.some.1, P.some.0), (P.some.2, refl));
  }
