-- Turns, as often as the next token passes, keep the laws also where a value may go on with such a token, if no turn goes on from that value.
use Rattle.std.proofs.Common.{◌≡◌, ◌⊎◌, ◌≤◌, ◌+◌, ℕ, zero, suc, Bool, true, false, ◌||◌, List, [], ◌∷◌, ◌++◌, length, refl, sym, ap, ◌∙◌, append_assoc, append-nil, inl, inr, arith, length-append, le_refl, subst}
use Rattle.sb_parse.specs.Parser.{Outcome, Parser, done, stop, peeked, at_next, and_then, ◌>>=◌, pure, loop, looped}
use Rattle.sb_parse.specs.Lawful.{Part, Stuck, Barred, Lawful, Follows, OnHead, Joined, Turns, over, turn}
use Rattle.sb_parse.proofs.Joining.{same_test, test_of_append, from_there}
use Rattle.sb_parse.proofs.Heads.{head_of_append, chosen}

module _ {T A : Type 0} {goes : T → Bool} {Turn : A → List T → A → Type 0} {more : A → T → Bool} {op : A → Parser T A}
    (P : (a : A) → OnHead goes (Turn a) more (op a)) (apart : (a b : A) (xs : List T) → Turn a xs b → at_next (more a) xs ≡ false) where
  on : (n : ℕ) (a : A) (ts : List T) → at_next goes ts ≡ true → loop goes op (suc n) a ts ≡ and_then (op a ts) (loop goes op n)
  unfolding loop
  on n a ts h = chosen goes (op a >>= loop goes op n) (pure a) ts true h

  off : (n : ℕ) (a : A) (ts : List T) → at_next goes ts ≡ false → loop goes op n a ts ≡ done a ts
  unfolding loop
  off zero a ts h = refl
  off (suc n) a ts h = chosen goes (op a >>= loop goes op n) (pure a) ts false h

  past : (n : ℕ) (xs rest : List T) → at_next goes xs ≡ true → length (xs ++ rest) ≤ suc n → length rest ≤ n
  past n [] rest h le = absurd (cc h)
  past n (x ∷ xs) rest h le =
      let sizes : length (xs ++ rest) ≡ length xs + length rest = length-append xs rest in
      let below : length (xs ++ rest) ≤ n = omega arith in
      omega arith

  some_left : (n : ℕ) (ts : List T) → at_next goes ts ≡ true → length ts ≤ n → (m : ℕ) × (n ≡ suc m)
  some_left n [] h le = absurd (cc h)
  some_left zero (t ∷ ts) h le = absurd (let none : suc (length ts) ≤ 0 = le in omega arith)
  some_left (suc m) (t ∷ ts) h le = (m, refl)

  goes_next : (a : A) (t : T) → (goes t || more a t) ≡ false → goes t ≡ false
  goes_next a t e = by_test (goes t) refl e
    where
      by_test : (b : Bool) → goes t ≡ b → (b || more a t) ≡ false → goes t ≡ false
      by_test true k h = absurd (cc h)
      by_test false k h = k

  more_next : (a : A) (t : T) → (goes t || more a t) ≡ false → more a t ≡ false
  more_next a t e = by_test (goes t) e
    where
      by_test : (b : Bool) → (b || more a t) ≡ false → more a t ≡ false
      by_test true h = absurd (cc h)
      by_test false h = h

  neither_goes : (a : A) (ts : List T) → at_next (λ t. goes t || more a t) ts ≡ false → at_next goes ts ≡ false
  neither_goes a [] e = refl
  neither_goes a (t ∷ ts) e = goes_next a t e

  neither_more : (a : A) (ts : List T) → at_next (λ t. goes t || more a t) ts ≡ false → at_next (more a) ts ≡ false
  neither_more a [] e = refl
  neither_more a (t ∷ ts) e = more_next a t e

  neither : (a : A) (ts : List T) → at_next goes ts ≡ false → at_next (more a) ts ≡ false → at_next (λ t. goes t || more a t) ts ≡ false
  neither a [] e h = refl
  neither a (t ∷ ts) e h = ap (λ b. b || more a t) e ∙ h

  stands_off : (a : A) (xs later : List T) → at_next goes xs ≡ true → at_next (more a) xs ≡ false → at_next (more a) (xs ++ later) ≡ false
  stands_off a [] later h e = absurd (cc h)
  stands_off a (x ∷ xs) later h e = e

  -- what follows a turn does not go on from its value
  after_turn : (b c : A) (ys rest : List T) → Turns Turn b ys c → at_next (λ t. goes t || more c t) rest ≡ false → at_next (more b) (ys ++ rest) ≡ false
  after_turn b c ys rest (over a) e = neither_more a rest e
  after_turn b c ys rest (turn a m z xs zs is k) e = ap (at_next (more b)) (append_assoc xs zs rest) ∙ stands_off b xs (zs ++ rest) ((P b).heads xs m is) (apart b m xs is)

  stays : (n : ℕ) (a : A) (ts : List T) (c : A) (rest : List T) → at_next goes ts ≡ false → at_next (more a) ts ≡ false → loop goes op n a ts ≡ done c rest
      → Part (Turns Turn a) (λ b t. goes t || more b t) c ts rest
  stays n a ts c rest k m e =
      let halt : done a ts ≡ done c rest = sym (off n a ts k) ∙ e in
      let value : a ≡ c = cc halt in
      let tail : ts ≡ rest = cc halt in
      record {
        front = [];
        split = tail;
        is = subst (λ z. Turns Turn a [] z) value (over a);
        ends = ap (λ z. at_next (λ t. goes t || more z t) rest) (sym value) ∙ ap (at_next (λ t. goes t || more a t)) (sym tail) ∙ neither a ts k m;
      }

  turns_sound : (n : ℕ) (a : A) (ts : List T) (c : A) (rest : List T) → length ts ≤ n → at_next (more a) ts ≡ false → loop goes op n a ts ≡ done c rest
      → Part (Turns Turn a) (λ b t. goes t || more b t) c ts rest
  turns_sound zero a [] c rest le m e = stays zero a [] c rest refl m e
  turns_sound zero a (t ∷ ts) c rest le m e = absurd (let none : suc (length ts) ≤ 0 = le in omega arith)
  turns_sound (suc n) a ts c rest le m e = by_test (at_next goes ts) refl (turns_sound n)
    where
      by_test : (b : Bool) → at_next goes ts ≡ b
          → ((b : A) (us : List T) (c : A) (rest : List T) → length us ≤ n → at_next (more b) us ≡ false → loop goes op n b us ≡ done c rest → Part (Turns Turn b) (λ b t. goes t || more b t) c us rest)
          → Part (Turns Turn a) (λ b t. goes t || more b t) c ts rest
      by_test true k later = go (op a ts) refl (sym (on n a ts k) ∙ e)
        where
          go : (o : Outcome T A) → op a ts ≡ o → and_then o (loop goes op n) ≡ done c rest → Part (Turns Turn a) (λ b t. goes t || more b t) c ts rest
          go (done b r) i h =
              let u : Part (Turn a) more b ts r = (P a).sound ts b r k i in
              let v : Part (Turns Turn b) (λ b t. goes t || more b t) c r rest =
              later b r c rest (past n u.front r ((P a).heads u.front b u.is) (subst (λ z. length z ≤ suc n) u.split le)) u.ends h in
              record {
                front = u.front ++ v.front;
                split = u.split ∙ ap (λ z. u.front ++ z) v.split ∙ sym (append_assoc u.front v.front rest);
                is = turn a b c u.front v.front u.is v.is;
                ends = v.ends;
              }
          go (stop i j) w h = absurd (cc h)
      by_test false k later = stays (suc n) a ts c rest k m e

  turns_complete : (n : ℕ) (a c : A) (ts rest : List T) → Turns Turn a ts c → length (ts ++ rest) ≤ n → at_next (λ t. goes t || more c t) rest ≡ false → loop goes op n a (ts ++ rest) ≡ done c rest
  turns_complete n a c ts rest (over b) le e = off n b rest (neither_goes b rest e)
  turns_complete n a c ts rest (turn b m z xs ys is k) le e = by_size n le (λ i small. turns_complete i m z ys rest k small e)
    where
      heads : at_next goes ((xs ++ ys) ++ rest) ≡ true
      heads = head_of_append goes (xs ++ ys) rest (head_of_append goes xs ys ((P b).heads xs m is))

      by_size : (n : ℕ) → length ((xs ++ ys) ++ rest) ≤ n → ((i : ℕ) → length (ys ++ rest) ≤ i → loop goes op i m (ys ++ rest) ≡ done z rest) → loop goes op n b ((xs ++ ys) ++ rest) ≡ done z rest
      by_size n le later =
          let s : (i : ℕ) × (n ≡ suc i) = some_left n ((xs ++ ys) ++ rest) heads le in
          let small : length (ys ++ rest) ≤ s.0 = past s.0 xs (ys ++ rest) ((P b).heads xs m is) (subst (λ w. length w ≤ suc s.0) (append_assoc xs ys rest) (subst (λ w. length ((xs ++ ys) ++ rest) ≤ w) s.1 le)) in
          ap (λ w. loop goes op w b ((xs ++ ys) ++ rest)) s.1 ∙ on s.0 b ((xs ++ ys) ++ rest) heads
          ∙ ap (λ w. and_then (op b w) (loop goes op s.0)) (append_assoc xs ys rest)
          ∙ ap (λ o. and_then o (loop goes op s.0)) ((P b).complete xs m (ys ++ rest) is (after_turn m z ys rest k e))
          ∙ later s.0 small

  -- where a loop stops, it does so with any number of turns that is enough
  record StuckTurns (a : A) (ts : List T) (n left : ℕ) : Type 0 where
    front : List T
    bad : List T
    split : ts ≡ front ++ bad
    left_is : left ≡ length bad
    rest : List T
    tree : A
    can : Turns Turn a (front ++ rest) tree
    sticks : (x : List T) (k : ℕ) → peeked x ≡ peeked bad → length (front ++ x) ≤ k → loop goes op k a (front ++ x) ≡ stop n (length x)

  still : (n : ℕ) (a : A) (ts : List T) (m left : ℕ) → at_next goes ts ≡ false → loop goes op n a ts ≡ stop m left → ⊥
  still n a ts m left k e = let halt : done a ts ≡ stop m left = sym (off n a ts k) ∙ e in cc halt

  turns_stuck : (n : ℕ) (a : A) (ts : List T) (m left : ℕ) → length ts ≤ n → loop goes op n a ts ≡ stop m left → StuckTurns a ts m left
  turns_stuck zero a [] m left le e = absurd (still zero a [] m left refl e)
  turns_stuck zero a (t ∷ ts) m left le e = absurd (let none : suc (length ts) ≤ 0 = le in omega arith)
  turns_stuck (suc n) a ts m left le e = by_test (at_next goes ts) refl (turns_stuck n)
    where
      by_test : (b : Bool) → at_next goes ts ≡ b → ((b : A) (us : List T) (m left : ℕ) → length us ≤ n → loop goes op n b us ≡ stop m left → StuckTurns b us m left) → StuckTurns a ts m left
      by_test false k later = absurd (still (suc n) a ts m left k e)
      by_test true k later = go (op a ts) refl (sym (on n a ts k) ∙ e)
        where
          go : (o : Outcome T A) → op a ts ≡ o → and_then o (loop goes op n) ≡ stop m left → StuckTurns a ts m left
          go (done b r) i h =
              let u : Part (Turn a) more b ts r = (P a).sound ts b r k i in
              let front_heads : at_next goes u.front ≡ true = (P a).heads u.front b u.is in
              let v : StuckTurns b r m left = later b r m left (past n u.front r front_heads (subst (λ z. length z ≤ suc n) u.split le)) h in
              record {
                front = u.front ++ v.front;
                bad = v.bad;
                split = u.split ∙ ap (λ z. u.front ++ z) v.split ∙ sym (append_assoc u.front v.front v.bad);
                left_is = v.left_is;
                rest = v.rest;
                tree = v.tree;
                can = subst (λ z. Turns Turn a z v.tree) (sym (append_assoc u.front v.front v.rest)) (turn a b v.tree u.front (v.front ++ v.rest) u.is v.can);
                sticks = λ x j same le.
                    let heads : at_next goes (u.front ++ (v.front ++ x)) ≡ true = head_of_append goes u.front (v.front ++ x) front_heads in
                    let fits : length (u.front ++ (v.front ++ x)) ≤ j = subst (λ z. length z ≤ j) (append_assoc u.front v.front x) le in
                    let s : (i : ℕ) × (j ≡ suc i) = some_left j (u.front ++ (v.front ++ x)) heads fits in
                    ap (loop goes op j a) (append_assoc u.front v.front x) ∙ ap (λ z. loop goes op z a (u.front ++ (v.front ++ x))) s.1 ∙ on s.0 a (u.front ++ (v.front ++ x)) heads
                    ∙ ap (λ o. and_then o (loop goes op s.0)) ((P a).complete u.front b (v.front ++ x) u.is (test_of_append (more b) v.front x v.bad same ∙ ap (at_next (more b)) (sym v.split) ∙ u.ends))
                    ∙ v.sticks x s.0 same (past s.0 u.front (v.front ++ x) front_heads (subst (λ z. length (u.front ++ (v.front ++ x)) ≤ z) s.1 fits));
              }
          go (stop p q) w h =
              let number : p ≡ m = cc h in
              let lefts : q ≡ left = cc h in
              within ((P a).stuck ts m left k (w ∙ ap (λ z. stop z q) number ∙ ap (stop m) lefts))
            where
              once : (x : List T) (j : ℕ) → at_next goes x ≡ true → length x ≤ j → op a x ≡ stop m (length x) → loop goes op j a x ≡ stop m (length x)
              once x j h le z = let s : (i : ℕ) × (j ≡ suc i) = some_left j x h le in ap (λ i. loop goes op i a x) s.1 ∙ on s.0 a x h ∙ ap (λ o. and_then o (loop goes op s.0)) z

              within : Stuck (Turn a) (op a) ts m left ⊎ Barred (op a) ts m left → StuckTurns a ts m left
              within (inl u) = record {
                front = u.front;
                bad = u.bad;
                split = u.split;
                left_is = u.left_is;
                rest = u.rest;
                tree = u.tree;
                can = subst (λ z. Turns Turn a z u.tree) (append-nil (u.front ++ u.rest)) (turn a u.tree u.tree (u.front ++ u.rest) [] u.can (over u.tree));
                sticks = λ x j same le.
                    let heads : at_next goes (u.front ++ x) ≡ true = test_of_append goes u.front x u.bad same ∙ ap (at_next goes) (sym u.split) ∙ k in
                    let s : (i : ℕ) × (j ≡ suc i) = some_left j (u.front ++ x) heads le in
                    ap (λ i. loop goes op i a (u.front ++ x)) s.1 ∙ on s.0 a (u.front ++ x) heads ∙ ap (λ o. and_then o (loop goes op s.0)) (u.sticks x same);
              }
              within (inr b) = record {
                front = [];
                bad = ts;
                split = refl;
                left_is = b.left_is;
                rest = [];
                tree = a;
                can = over a;
                sticks = λ x j same le. once x j (same_test goes x ts same ∙ k) le (b.sticks x same);
              }

  turns : (a : A) → Follows (more a) (Turns Turn a) (λ b t. goes t || more b t) (looped goes op a)
  turns a = record {
    sound = λ ts c rest m e. turns_sound (length ts) a ts c rest (le_refl (length ts)) m e;
    complete = λ ts c rest is e. turns_complete (length (ts ++ rest)) a c ts rest is (le_refl (length (ts ++ rest))) e;
    stuck = λ ts n left e.
        let s : StuckTurns a ts n left = turns_stuck (length ts) a ts n left (le_refl (length ts)) e in
        record {
          front = s.front;
          bad = s.bad;
          split = s.split;
          left_is = s.left_is;
          rest = s.rest;
          tree = s.tree;
          can = s.can;
          sticks = λ x same. s.sticks x (length (s.front ++ x)) same (le_refl (length (s.front ++ x)));
        };
    some = ([], a, over a);
  }

  -- a text, and turns from its value
  pub turning_from : {Base : List T → A → Type 0} {p : Parser T A} → Lawful Base more p → Lawful (Joined Base (Turns Turn)) (λ a t. goes t || more a t) (p >>= looped goes op)
  turning_from B = from_there B (λ xs a is. turns a) (λ xs a ys b rest is k e. after_turn a b ys rest k e)

-- the same where no turn follows a value that goes on with a token with which turns begin
pub turning : {T A : Type 0} {goes : T → Bool} {Turn : A → List T → A → Type 0} {more : A → T → Bool} {op : A → Parser T A} → ((a : A) → OnHead goes (Turn a) more (op a))
    → ((a b : A) (xs : List T) → Turn a xs b → (t : T) → goes t ≡ true → more a t ≡ false) → {Base : List T → A → Type 0} {p : Parser T A} → Lawful Base more p
    → Lawful (Joined Base (Turns Turn)) (λ a t. goes t || more a t) (p >>= looped goes op)
turning {T = T} {A = A} {goes = goes} {Turn = Turn} {more = more} P apart B = turning_from P (λ a b xs is. by_head a b xs is xs ((P a).heads xs b is)) B
  where
    by_head : (a b : A) (xs : List T) → Turn a xs b → (ts : List T) → at_next goes ts ≡ true → at_next (more a) ts ≡ false
    by_head a b xs is [] h = refl
    by_head a b xs is (t ∷ ts) h = apart a b xs is t h
