-- A loop goes on behind the turns that it took, and stops where its next turn does.
use Rattle.std.proofs.Common.{◌≡◌, ◌≤◌, ◌+◌, ℕ, zero, suc, Bool, true, false, List, [], ◌∷◌, ◌++◌, length, refl, ap, ◌∙◌, append_assoc, arith, length-append, le_refl, subst}
use Rattle.sb_parse.specs.Parser.{Parser, stop, at_next, and_then, ◌>>=◌, pure, loop, looped}
use Rattle.sb_parse.specs.Lawful.{Lawful, OnHead, Joined, Turns, over, turn}
use Rattle.sb_parse.proofs.Heads.{head_of_append, chosen}

module _ {T A : Type 0} {goes : T → Bool} {Turn : A → List T → A → Type 0} {more : A → T → Bool} {op : A → Parser T A}
    (P : (a : A) → OnHead goes (Turn a) more (op a)) (apart : (a : A) (t : T) → goes t ≡ true → more a t ≡ false) where
  on : (n : ℕ) (a : A) (ts : List T) → at_next goes ts ≡ true → loop goes op (suc n) a ts ≡ and_then (op a ts) (loop goes op n)
  unfolding loop
  on n a ts h = chosen goes (op a >>= loop goes op n) (pure a) ts true h

  past : (n : ℕ) (xs rest : List T) → at_next goes xs ≡ true → length (xs ++ rest) ≤ suc n → length rest ≤ n
  past n [] rest h le = absurd (cc h)
  past n (x ∷ xs) rest h le =
      let sizes : length (xs ++ rest) ≡ length xs + length rest = length-append xs rest in
      let below : length (xs ++ rest) ≤ n = omega arith in
      omega arith

  some_left : (n : ℕ) (ts : List T) → at_next goes ts ≡ true → length ts ≤ n → (m : ℕ) × (n ≡ suc m)
  some_left n [] h le = absurd (cc h)
  some_left zero (t ∷ ts) h le = absurd (let none : suc (length ts) ≤ 0 = le in omega arith)
  some_left (suc m) (t ∷ ts) h le = (m, refl)

  stands_off : (a : A) (ts : List T) → at_next goes ts ≡ true → at_next (more a) ts ≡ false
  stands_off a [] e = refl
  stands_off a (t ∷ ts) e = apart a t e

  goes_next : (b c : A) (ys rest : List T) → Turns Turn b ys c → at_next goes rest ≡ true → at_next goes (ys ++ rest) ≡ true
  goes_next b c ys rest (over a) h = h
  goes_next b c ys rest (turn a m z xs zs is k) h = head_of_append goes (xs ++ zs) rest (head_of_append goes xs zs ((P b).heads xs m is))

  -- the turns that are left are enough for what is left
  pub record Stands (n : ℕ) (a c : A) (ts rest : List T) : Type 0 where
    pub left : ℕ
    pub enough : length rest ≤ left
    pub same : loop goes op n a (ts ++ rest) ≡ loop goes op left c rest

  pub stands : (n : ℕ) (a c : A) (ts rest : List T) → Turns Turn a ts c → at_next goes rest ≡ true → length (ts ++ rest) ≤ n → Stands n a c ts rest
  stands n a c ts rest (over b) h le = record { left = n; enough = le; same = refl }
  stands n a c ts rest (turn b v z xs ys is k) h le = by_size n le (λ j small. stands j v z ys rest k h small)
    where
      heads : at_next goes ((xs ++ ys) ++ rest) ≡ true
      heads = head_of_append goes (xs ++ ys) rest (head_of_append goes xs ys ((P b).heads xs v is))

      by_size : (n : ℕ) → length ((xs ++ ys) ++ rest) ≤ n → ((j : ℕ) → length (ys ++ rest) ≤ j → Stands j v z ys rest) → Stands n b z (xs ++ ys) rest
      by_size n le later =
          let s : (i : ℕ) × (n ≡ suc i) = some_left n ((xs ++ ys) ++ rest) heads le in
          let small : length (ys ++ rest) ≤ s.0 = past s.0 xs (ys ++ rest) ((P b).heads xs v is) (subst (λ w. length w ≤ suc s.0) (append_assoc xs ys rest) (subst (λ w. length ((xs ++ ys) ++ rest) ≤ w) s.1 le)) in
          let next : Stands s.0 v z ys rest = later s.0 small in
          record {
            left = next.left;
            enough = next.enough;
            same = ap (λ w. loop goes op w b ((xs ++ ys) ++ rest)) s.1 ∙ on s.0 b ((xs ++ ys) ++ rest) heads
                ∙ ap (λ w. and_then (op b w) (loop goes op s.0)) (append_assoc xs ys rest)
                ∙ ap (λ o. and_then o (loop goes op s.0)) ((P b).complete xs v (ys ++ rest) is (stands_off v (ys ++ rest) (goes_next v z ys rest k h)))
                ∙ next.same;
          }

  -- one more turn
  pub one_more : (n : ℕ) (c : A) (rest : List T) → at_next goes rest ≡ true → length rest ≤ n → (i : ℕ) × (loop goes op n c rest ≡ and_then (op c rest) (loop goes op i))
  one_more n c rest h le =
      let s : (i : ℕ) × (n ≡ suc i) = some_left n rest h le in
      (s.0, ap (λ z. loop goes op z c rest) s.1 ∙ on s.0 c rest h)

  -- a text, turns from its value, and one more turn that stops
  pub loop_stops : {Base : List T → A → Type 0} {p : Parser T A} → Lawful Base more p → (ts rest : List T) (c : A) → Joined Base (Turns Turn) ts c → at_next goes rest ≡ true → (m left : ℕ) → op c rest ≡ stop m left
      → (p >>= looped goes op) (ts ++ rest) ≡ stop m left
  loop_stops {Base = Base} {p = p} B ts rest c j h m left e =
      let behind : List T = j.after ++ rest in
      let there : Stands (length behind) j.value c j.after rest = stands (length behind) j.value c j.after rest j.second h (le_refl (length behind)) in
      let again : (i : ℕ) × (loop goes op there.left c rest ≡ and_then (op c rest) (loop goes op i)) = one_more there.left c rest h there.enough in
      ap (λ l. (p >>= looped goes op) (l ++ rest)) j.split ∙ ap (p >>= looped goes op) (append_assoc j.before j.after rest)
      ∙ ap (λ o. and_then o (looped goes op)) (B.complete j.before j.value behind j.first (stands_off j.value behind (goes_next j.value c j.after rest j.second h)))
      ∙ there.same ∙ again.1 ∙ ap (λ o. and_then o (loop goes op again.0)) e
