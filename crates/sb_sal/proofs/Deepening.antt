-- A parser that stops for want of depth gets past that token at some greater depth. The ways of putting parsers together keep it.
use Rattle.std.proofs.Common.{◌≡◌, ◌≤◌, ◌<◌, ◌+◌, ℕ, zero, suc, Bool, true, false, max, List, [], ◌∷◌, ◌++◌, length, Option, Some, None, is_some, nat_lt, if◌then◌else◌, refl, sym, ap, ◌∙◌, subst, arith, length-append}
use Rattle.std.proofs.Math.Nat.{le-max_left, le-max_right}
use Rattle.sb_base.specs.declared.tokens.Token.{Token}
use Rattle.sb_parse.specs.Parser.{Outcome, Parser, done, stop, at_next, and_then, ◌>>=◌, pure, refuse, token, taken_as, taken, choose, guard, loop, looped}
use Rattle.sb_parse.specs.Lawful.{Part, Stuck, Lawful}
use Rattle.sb_parse.specs.Descent.{at_second, choose_second}
use Rattle.sb_lexicon.specs.Tokens.{too_deep, is_zero}
use Rattle.sb_lexicon.proofs.Depths.{room_within}
use Rattle.sb_lexicon.proofs.Wider.{Held, short, same, Wider, alike}

-- an outcome behind the first of the last `left` tokens
pub data Past {A : Type 0} (left : ℕ) (o : Outcome Token A) : Type 0 where
  read_past : (a : A) (rest : List Token) → o ≡ done a rest → length rest < left → Past left o
  stopped_past : (n k : ℕ) → o ≡ stop n k → k < left → Past left o

-- an outcome that leaves at most so many tokens
pub record AtMost {A : Type 0} (most : ℕ) (o : Outcome Token A) : Type 0 where
  pub read : (a : A) (rest : List Token) → o ≡ done a rest → length rest ≤ most
  pub stopped : (n k : ℕ) → o ≡ stop n k → k ≤ most

-- what is left is never more than there was
pub record Shrinks {A : Type 0} (p : Parser Token A) : Type 0 where
  pub read : (ts : List Token) (a : A) (rest : List Token) → p ts ≡ done a rest → length rest ≤ length ts
  pub stopped : (ts : List Token) (n k : ℕ) → p ts ≡ stop n k → k ≤ length ts

-- at depth n: what stops for another reason than depth, or is done, stays so at every greater depth, what stops for want of depth gets past that token at some greater depth, and none leaves more than there was
pub record Deepens {A : Type 0} (n : ℕ) (p : ℕ → Parser Token A) : Type 0 where
  pub wide : (m : ℕ) → n ≤ m → Wider (p n) (p m)
  pub shrinks : (m : ℕ) → n ≤ m → Shrinks (p m)
  pub deeper : (ts : List Token) (left : ℕ) → p n ts ≡ stop too_deep left → (m : ℕ) × (n ≤ m) × Past left (p m ts)

-- the same of the outcomes at one list, by depth
pub record Deep {A : Type 0} (n most : ℕ) (o : ℕ → Outcome Token A) : Type 0 where
  pub wide : (m : ℕ) → n ≤ m → Held (o n) (o m)
  pub shrinks : (m : ℕ) → n ≤ m → AtMost most (o m)
  pub deeper : (left : ℕ) → o n ≡ stop too_deep left → (m : ℕ) × (n ≤ m) × Past left (o m)

pub at_list : {A : Type 0} (n : ℕ) (p : ℕ → Parser Token A) → Deepens n p → (ts : List Token) → Deep n (length ts) (λ m. p m ts)
at_list n p P ts = record {
  wide = λ m le. P.wide m le ts;
  shrinks = λ m le. record { read = λ a rest e. (P.shrinks m le).read ts a rest e; stopped = λ i k e. (P.shrinks m le).stopped ts i k e };
  deeper = λ left e. P.deeper ts left e;
}

pub at_lists : {A : Type 0} (n : ℕ) (p : ℕ → Parser Token A) → ((ts : List Token) → Deep n (length ts) (λ m. p m ts)) → Deepens n p
at_lists n p P = record {
  wide = λ m le ts. (P ts).wide m le;
  shrinks = λ m le. record { read = λ ts a rest e. ((P ts).shrinks m le).read a rest e; stopped = λ ts i k e. ((P ts).shrinks m le).stopped i k e };
  deeper = λ ts left e. (P ts).deeper left e;
}

-- ---- what is left

pub most_done : {A : Type 0} (most : ℕ) (a : A) (rest : List Token) → length rest ≤ most → AtMost most (done a rest)
most_done most a rest le = record { read = λ b after e. (let tail : rest ≡ after = cc e in subst (λ z. length z ≤ most) tail le); stopped = λ n k e. absurd (cc e) }

pub most_stop : {A : Type 0} (most n k : ℕ) → k ≤ most → AtMost {A = A} most (stop n k)
most_stop most n k le = record { read = λ b after e. absurd (cc e); stopped = λ m j e. (let lefts : k ≡ j = cc e in subst (λ z. z ≤ most) lefts le) }

pub most_more : {A : Type 0} (least most : ℕ) (o : Outcome Token A) → AtMost least o → least ≤ most → AtMost most o
most_more least most o O le = record { read = λ a rest e. (let fits : length rest ≤ least = O.read a rest e in omega arith); stopped = λ n k e. (let fits : k ≤ least = O.stopped n k e in omega arith) }

pub most_then : {A B : Type 0} (most : ℕ) (o : Outcome Token A) (q : A → Parser Token B) → AtMost most o → ((a : A) (rest : List Token) → o ≡ done a rest → AtMost (length rest) (q a rest)) → AtMost most (and_then o q)
most_then most (done a rest) q O Q = most_more (length rest) most (q a rest) (Q a rest refl) (O.read a rest refl)
most_then most (stop n k) q O Q = most_stop most n k (O.stopped n k refl)

pub most_choice : {A : Type 0} (most : ℕ) (b : Bool) (o other : Outcome Token A) → (b ≡ true → AtMost most o) → (b ≡ false → AtMost most other) → AtMost most (if b then o else other)
most_choice most true o other O P = O refl
most_choice most false o other O P = P refl

pub most_at : {A : Type 0} (p : Parser Token A) → Shrinks p → (ts : List Token) → AtMost (length ts) (p ts)
most_at p P ts = record { read = λ a rest e. P.read ts a rest e; stopped = λ i k e. P.stopped ts i k e }

pub shrinks_at : {A : Type 0} (p : Parser Token A) → ((ts : List Token) → AtMost (length ts) (p ts)) → Shrinks p
shrinks_at p P = record { read = λ ts a rest e. (P ts).read a rest e; stopped = λ ts i k e. (P ts).stopped i k e }

pub shrinks_pure : {A : Type 0} (a : A) → Shrinks (pure a)
shrinks_pure a = shrinks_at (pure a) (λ ts. most_done (length ts) a ts (omega arith))

pub shrinks_refuse : {A : Type 0} (n : ℕ) → Shrinks {A = A} (refuse n)
shrinks_refuse n = shrinks_at (refuse n) (λ ts. most_stop (length ts) n (length ts) (omega arith))

pub shrinks_token : (n : ℕ) (test : Token → Bool) → Shrinks (token n test)
shrinks_token n test = shrinks_at (token n test) at
  where
    at : (ts : List Token) → AtMost (length ts) (token n test ts)
    at [] = most_stop 0 n 0 (omega arith)
    at (t ∷ ts) = most_choice (suc (length ts)) (test t) (done t ts) (stop n (suc (length ts))) (λ h. most_done (suc (length ts)) t ts (omega arith)) (λ h. most_stop (suc (length ts)) n (suc (length ts)) (omega arith))

pub shrinks_taken : {A : Type 0} (n : ℕ) (gives : Token → Option A) → Shrinks (taken n gives)
shrinks_taken {A = A} n gives = shrinks_at (taken n gives) at
  where
    by_value : (o : Option A) (ts : List Token) → AtMost (suc (length ts)) (taken_as n o ts)
    by_value None ts = most_stop (suc (length ts)) n (suc (length ts)) (omega arith)
    by_value (Some a) ts = most_done (suc (length ts)) a ts (omega arith)

    at : (ts : List Token) → AtMost (length ts) (taken n gives ts)
    at [] = most_stop 0 n 0 (omega arith)
    at (t ∷ ts) = by_value (gives t) ts

pub shrinks_then : {A B : Type 0} (p : Parser Token A) (q : A → Parser Token B) → Shrinks p → ((a : A) → Shrinks (q a)) → Shrinks (p >>= q)
shrinks_then p q P Q = shrinks_at (p >>= q) (λ ts. most_then (length ts) (p ts) q (most_at p P ts) (λ a rest e. most_at (q a) (Q a) rest))

-- by a test of the whole list: `choose goes` is the test `at_next goes`, `choose_second goes` the test `at_second goes`
pub shrinks_test : {A : Type 0} (test : List Token → Bool) (p q : Parser Token A) → Shrinks p → Shrinks q → Shrinks (λ ts. if test ts then p ts else q ts)
shrinks_test test p q P Q = shrinks_at (λ ts. if test ts then p ts else q ts) (λ ts. most_choice (length ts) (test ts) (p ts) (q ts) (λ h. most_at p P ts) (λ h. most_at q Q ts))

pub shrinks_choose : {A : Type 0} (goes : Token → Bool) (p q : Parser Token A) → Shrinks p → Shrinks q → Shrinks (choose goes p q)
shrinks_choose goes p q P Q = shrinks_test (at_next goes) p q P Q

pub shrinks_second : {A : Type 0} (goes : Token → Bool) (p q : Parser Token A) → Shrinks p → Shrinks q → Shrinks (choose_second goes p q)
shrinks_second goes p q P Q = shrinks_test (at_second goes) p q P Q

pub shrinks_either : {A : Type 0} (b : Bool) (p q : Parser Token A) → (b ≡ true → Shrinks p) → (b ≡ false → Shrinks q) → Shrinks (if b then p else q)
shrinks_either true p q P Q = P refl
shrinks_either false p q P Q = Q refl

pub shrinks_guard : {A : Type 0} (bar : Bool) (n : ℕ) (p : Parser Token A) → (bar ≡ false → Shrinks p) → Shrinks (guard bar n p)
shrinks_guard true n p P = shrinks_refuse n
shrinks_guard false n p P = P refl

pub shrinks_looped : {A : Type 0} (goes : Token → Bool) (op : A → Parser Token A) → ((a : A) → Shrinks (op a)) → (a : A) → Shrinks (looped goes op a)
unfolding loop
shrinks_looped {A = A} goes op Op a = shrinks_at (looped goes op a) (λ ts. most_at (loop goes op (length ts) a) (turns (length ts) a) ts)
  where
    turns : (n : ℕ) (a : A) → Shrinks (loop goes op n a)
    turns zero a = shrinks_pure a
    turns (suc n) a = shrinks_choose goes (op a >>= loop goes op n) (pure a) (shrinks_then (op a) (loop goes op n) (Op a) (turns n)) (shrinks_pure a)

pub shrinks_by_law : {A : Type 0} (Is : List Token → A → Type 0) (more : A → Token → Bool) (p : Parser Token A) → Lawful Is more p → Shrinks p
shrinks_by_law {A = A} Is more p P = record { read = read; stopped = stopped }
  where
    later : (front rest ts : List Token) → ts ≡ front ++ rest → length rest ≤ length ts
    later front rest ts e =
        let sizes : length (front ++ rest) ≡ length front + length rest = length-append front rest in
        let all : length ts ≡ length (front ++ rest) = ap length e in
        omega arith

    read : (ts : List Token) (a : A) (rest : List Token) → p ts ≡ done a rest → length rest ≤ length ts
    read ts a rest e = let u : Part Is more a ts rest = P.sound ts a rest e in later u.front rest ts u.split

    stopped : (ts : List Token) (n k : ℕ) → p ts ≡ stop n k → k ≤ length ts
    stopped ts n k e =
        let u : Stuck Is p ts n k = P.stuck ts n k e in
        let fits : length u.bad ≤ length ts = later u.front u.bad ts u.split in
        let lefts : k ≡ length u.bad = u.left_is in
        omega arith

-- ---- getting past a token

pub past_most : {A : Type 0} (left most : ℕ) (o : Outcome Token A) → AtMost most o → most < left → Past left o
past_most left most (done a rest) O less = read_past a rest refl (let fits : length rest ≤ most = O.read a rest refl in omega arith)
past_most left most (stop n k) O less = stopped_past n k refl (let fits : k ≤ most = O.stopped n k refl in omega arith)

pub past_then : {A B : Type 0} (left : ℕ) (o : Outcome Token A) (q : A → Parser Token B) → Past left o → ((a : A) (rest : List Token) → o ≡ done a rest → AtMost (length rest) (q a rest)) → Past left (and_then o q)
past_then left o q (read_past a rest e less) Q = subst (λ z. Past left (and_then z q)) (sym e) (past_most left (length rest) (q a rest) (Q a rest e) less)
past_then left o q (stopped_past n k e less) Q = stopped_past n k (ap (λ z. and_then z q) e) less

pub past_bind : {A B : Type 0} (p : Parser Token A) (q : A → Parser Token B) (left : ℕ) (ts : List Token) → Past left (p ts) → ((a : A) → Shrinks (q a)) → Past left ((p >>= q) ts)
past_bind p q left ts P Q = past_then left (p ts) q P (λ a rest e. most_at (q a) (Q a) rest)

pub past_token : (n : ℕ) (test : Token → Bool) (ts : List Token) → at_next test ts ≡ true → Past (length ts) (token n test ts)
past_token n test [] h = absurd (cc h)
past_token n test (t ∷ ts) h = read_past t ts (ap (λ b. if b then done t ts else stop n (suc (length ts))) h) (omega arith)

pub past_taken : {A : Type 0} (n : ℕ) (gives : Token → Option A) (ts : List Token) → at_next (λ t. is_some (gives t)) ts ≡ true → Past (length ts) (taken n gives ts)
past_taken n gives [] h = absurd (cc h)
past_taken {A = A} n gives (t ∷ ts) h = by_value (gives t) refl h
  where
    by_value : (o : Option A) → gives t ≡ o → is_some o ≡ true → Past (suc (length ts)) (taken_as n (gives t) ts)
    by_value None e k = absurd (cc k)
    by_value (Some a) e k = read_past a ts (ap (λ o. taken_as n o ts) e) (omega arith)

pub enters : {A : Type 0} (n : ℕ) (test : Token → Bool) (q : Token → Parser Token A) → ((t : Token) → Shrinks (q t)) → (ts : List Token) → at_next test ts ≡ true → Past (length ts) ((token n test >>= q) ts)
enters n test q Q ts h = past_bind (token n test) q (length ts) ts (past_token n test ts h) Q

pub enters_taken : {A B : Type 0} (n : ℕ) (gives : Token → Option A) (q : A → Parser Token B) → ((a : A) → Shrinks (q a)) → (ts : List Token) → at_next (λ t. is_some (gives t)) ts ≡ true
    → Past (length ts) ((taken n gives >>= q) ts)
enters_taken n gives q Q ts h = past_bind (taken n gives) q (length ts) ts (past_taken n gives ts h) Q

-- ---- outcomes at one list

pub moved : {A : Type 0} (o other x y : Outcome Token A) → o ≡ x → other ≡ y → Held x y → Held o other
moved o other x y e f h = subst (λ z. Held z other) (sym e) (subst (Held x) (sym f) h)

pub deep_still : {A : Type 0} (n most : ℕ) (o : Outcome Token A) → ((left : ℕ) → o ≡ stop too_deep left → ⊥) → AtMost most o → Deep n most (λ m. o)
deep_still n most o plain O = record { wide = λ m le. same refl; shrinks = λ m le. O; deeper = λ left e. absurd (plain left e) }

pub deep_then : {A B : Type 0} (n most : ℕ) (o : ℕ → Outcome Token A) (q : ℕ → A → Parser Token B) → Deep n most o
    → ((a : A) (rest : List Token) → o n ≡ done a rest → Deep n (length rest) (λ m. q m a rest))
    → ((m : ℕ) → n ≤ m → (a : A) (rest : List Token) → o m ≡ done a rest → AtMost (length rest) (q m a rest))
    → Deep n most (λ m. and_then (o m) (q m))
deep_then {A = A} {B = B} n most o q O Q S = record { wide = λ m le. wide m le (O.wide m le); shrinks = λ m le. most_then most (o m) (q m) (O.shrinks m le) (S m le); deeper = λ left e. deeper (o n) refl left e }
  where
    wide_by : (m : ℕ) → n ≤ m → o m ≡ o n → (x : Outcome Token A) → o n ≡ x → Held (and_then (o n) (q n)) (and_then (o m) (q m))
    wide_by m le e (done a rest) h = moved _ _ (q n a rest) (q m a rest) (ap (λ z. and_then z (q n)) h) (ap (λ z. and_then z (q m)) (e ∙ h)) ((Q a rest h).wide m le)
    wide_by m le e (stop i k) h = same (ap (λ z. and_then z (q m)) (e ∙ h) ∙ sym (ap (λ z. and_then z (q n)) h))

    wide : (m : ℕ) → n ≤ m → Held (o n) (o m) → Held (and_then (o n) (q n)) (and_then (o m) (q m))
    wide m le (short left e) = short left (ap (λ z. and_then z (q n)) e)
    wide m le (same e) = wide_by m le e (o n) refl

    done_still : (m : ℕ) (a : A) (rest : List Token) → o n ≡ done a rest → Held (o n) (o m) → o m ≡ done a rest
    done_still m a rest h (short left e) = absurd (let both : Path (Outcome Token A) (done a rest) (stop too_deep left) = sym h ∙ e in cc both)
    done_still m a rest h (same e) = e ∙ h

    deeper : (x : Outcome Token A) → o n ≡ x → (left : ℕ) → and_then (o n) (q n) ≡ stop too_deep left → (m : ℕ) × (n ≤ m) × Past left (and_then (o m) (q m))
    deeper (done a rest) h left e =
        let d : (m : ℕ) × (n ≤ m) × Past left (q m a rest) = (Q a rest h).deeper left (sym (ap (λ z. and_then z (q n)) h) ∙ e) in
        (d.0, d.1, subst (λ z. Past left (and_then z (q d.0))) (sym (done_still d.0 a rest h (O.wide d.0 d.1))) d.2)
    deeper (stop i k) h left e =
        let both : Path (Outcome Token B) (stop i k) (stop too_deep left) = sym (ap (λ z. and_then z (q n)) h) ∙ e in
        let number : i ≡ too_deep = cc both in
        let lefts : k ≡ left = cc both in
        let d : (m : ℕ) × (n ≤ m) × Past left (o m) = O.deeper left (h ∙ ap (λ z. stop z k) number ∙ ap (stop too_deep) lefts) in
        (d.0, d.1, past_then left (o d.0) (q d.0) d.2 (S d.0 d.1))

pub deep_choice : {A : Type 0} (n most : ℕ) (b : Bool) (o other : ℕ → Outcome Token A) → (b ≡ true → Deep n most o) → (b ≡ false → Deep n most other) → Deep n most (λ m. if b then o m else other m)
deep_choice n most true o other O P = O refl
deep_choice n most false o other O P = P refl

-- behind a bar, which some depth opens
pub deep_guard : {A : Type 0} (n most : ℕ) (bar : ℕ → Bool) (o : ℕ → Outcome Token A) → ((m : ℕ) → n ≤ m → bar n ≡ false → bar m ≡ false) → (bar n ≡ true → (m : ℕ) × (n ≤ m) × (bar m ≡ false) × Past most (o m))
    → (bar n ≡ false → Deep n most o) → ((m : ℕ) → n ≤ m → bar m ≡ false → AtMost most (o m)) → Deep n most (λ m. if bar m then stop too_deep most else o m)
deep_guard {A = A} n most bar o Mono Opening O S = by_bar (bar n) refl
  where
    opened : (m : ℕ) → bar m ≡ false → (if bar m then stop too_deep most else o m) ≡ o m
    opened m h = ap (λ b. if b then stop too_deep most else o m) h

    shrinks : (m : ℕ) → n ≤ m → AtMost most (if bar m then stop too_deep most else o m)
    shrinks m le = most_choice most (bar m) (stop too_deep most) (o m) (λ h. most_stop most too_deep most (omega arith)) (λ h. S m le h)

    by_bar : (b : Bool) → bar n ≡ b → Deep n most (λ m. if bar m then stop too_deep most else o m)
    by_bar true h =
        let shut : (if bar n then stop too_deep most else o n) ≡ stop too_deep most = ap (λ b. if b then stop too_deep most else o n) h in
        record {
          wide = λ m le. short most shut;
          shrinks = shrinks;
          deeper = λ left e.
              let both : Path (Outcome Token A) (stop too_deep most) (stop too_deep left) = sym shut ∙ e in
              let lefts : most ≡ left = cc both in
              let d : (m : ℕ) × (n ≤ m) × (bar m ≡ false) × Past most (o m) = Opening h in
              (d.0, d.1, subst (λ z. Past z (if bar d.0 then stop too_deep most else o d.0)) lefts (subst (Past most) (sym (opened d.0 d.2)) d.3));
        }
    by_bar false h =
        record {
          wide = λ m le. moved _ _ (o n) (o m) (opened n h) (opened m (Mono m le h)) ((O h).wide m le);
          shrinks = shrinks;
          deeper = λ left e.
              let d : (m : ℕ) × (n ≤ m) × Past left (o m) = (O h).deeper left (sym (opened n h) ∙ e) in
              (d.0, d.1, subst (Past left) (sym (opened d.0 (Mono d.0 d.1 h))) d.2);
        }

-- ---- parsers

pub still : {A : Type 0} (n : ℕ) (p : Parser Token A) → ((ts : List Token) (left : ℕ) → p ts ≡ stop too_deep left → ⊥) → Shrinks p → Deepens n (λ m. p)
still n p plain P = record { wide = λ m le. alike p; shrinks = λ m le. P; deeper = λ ts left e. absurd (plain ts left e) }

pub still_pure : {A : Type 0} (n : ℕ) (a : A) → Deepens n (λ m. pure a)
still_pure n a = still n (pure a) (λ ts left e. absurd (cc e)) (shrinks_pure a)

pub still_refuse : {A : Type 0} (n k : ℕ) → (k ≡ too_deep → ⊥) → Deepens {A = A} n (λ m. refuse k)
still_refuse n k other = still n (refuse k) (λ ts left e. other (cc e)) (shrinks_refuse k)

pub still_token : (n k : ℕ) (test : Token → Bool) → (k ≡ too_deep → ⊥) → Deepens n (λ m. token k test)
still_token n k test other = still n (token k test) plain (shrinks_token k test)
  where
    by_test : (b : Bool) (t : Token) (ts : List Token) (left : ℕ) → (if b then done t ts else stop k (suc (length ts))) ≡ stop too_deep left → ⊥
    by_test true t ts left e = absurd (cc e)
    by_test false t ts left e = other (cc e)

    plain : (ts : List Token) (left : ℕ) → token k test ts ≡ stop too_deep left → ⊥
    plain [] left e = other (cc e)
    plain (t ∷ ts) left e = by_test (test t) t ts left e

pub still_taken : {A : Type 0} (n k : ℕ) (gives : Token → Option A) → (k ≡ too_deep → ⊥) → Deepens n (λ m. taken k gives)
still_taken {A = A} n k gives other = still n (taken k gives) plain (shrinks_taken k gives)
  where
    by_value : (o : Option A) (ts : List Token) (left : ℕ) → taken_as k o ts ≡ stop too_deep left → ⊥
    by_value None ts left e = other (cc e)
    by_value (Some a) ts left e = absurd (cc e)

    plain : (ts : List Token) (left : ℕ) → taken k gives ts ≡ stop too_deep left → ⊥
    plain [] left e = other (cc e)
    plain (t ∷ ts) left e = by_value (gives t) ts left e

-- what follows is known behind what p reads at depth n alone
pub in_order_where : {A B : Type 0} (n : ℕ) (p : ℕ → Parser Token A) (q : ℕ → A → Parser Token B) → Deepens n p
    → ((a : A) (ts rest : List Token) → p n ts ≡ done a rest → Deep n (length rest) (λ m. q m a rest)) → ((m : ℕ) → n ≤ m → (a : A) → Shrinks (q m a)) → Deepens n (λ m. p m >>= q m)
in_order_where n p q P Q S =
    at_lists n (λ m. p m >>= q m) (λ ts. deep_then n (length ts) (λ m. p m ts) q (at_list n p P ts) (λ a rest e. Q a ts rest e) (λ m le a rest e. most_at (q m a) (S m le a) rest))

pub in_order : {A B : Type 0} (n : ℕ) (p : ℕ → Parser Token A) (q : ℕ → A → Parser Token B) → Deepens n p → ((a : A) → Deepens n (λ m. q m a)) → Deepens n (λ m. p m >>= q m)
in_order n p q P Q = in_order_where n p q P (λ a ts rest e. at_list n (λ m. q m a) (Q a) rest) (λ m le a. (Q a).shrinks m le)

-- by a test of the whole list, where each parser is known at the lists that choose it
pub by_test_where : {A : Type 0} (n : ℕ) (test : List Token → Bool) (p q : ℕ → Parser Token A) → ((ts : List Token) → test ts ≡ true → Deep n (length ts) (λ m. p m ts))
    → ((ts : List Token) → test ts ≡ false → Deep n (length ts) (λ m. q m ts)) → Deepens n (λ m ts. if test ts then p m ts else q m ts)
by_test_where n test p q P Q = at_lists n (λ m ts. if test ts then p m ts else q m ts) (λ ts. deep_choice n (length ts) (test ts) (λ m. p m ts) (λ m. q m ts) (P ts) (Q ts))

pub by_test : {A : Type 0} (n : ℕ) (test : List Token → Bool) (p q : ℕ → Parser Token A) → Deepens n p → Deepens n q → Deepens n (λ m ts. if test ts then p m ts else q m ts)
by_test n test p q P Q = by_test_where n test p q (λ ts h. at_list n p P ts) (λ ts h. at_list n q Q ts)

pub choosing : {A : Type 0} (n : ℕ) (goes : Token → Bool) (p q : ℕ → Parser Token A) → Deepens n p → Deepens n q → Deepens n (λ m. choose goes (p m) (q m))
choosing n goes p q P Q = by_test n (at_next goes) p q P Q

pub choosing_where : {A : Type 0} (n : ℕ) (goes : Token → Bool) (p q : ℕ → Parser Token A) → ((ts : List Token) → at_next goes ts ≡ true → Deep n (length ts) (λ m. p m ts))
    → ((ts : List Token) → at_next goes ts ≡ false → Deep n (length ts) (λ m. q m ts)) → Deepens n (λ m. choose goes (p m) (q m))
choosing_where n goes p q P Q = by_test_where n (at_next goes) p q P Q

pub choosing_second : {A : Type 0} (n : ℕ) (goes : Token → Bool) (p q : ℕ → Parser Token A) → Deepens n p → Deepens n q → Deepens n (λ m. choose_second goes (p m) (q m))
choosing_second n goes p q P Q = by_test n (at_second goes) p q P Q

pub either_way : {A : Type 0} (n : ℕ) (b : Bool) (p q : ℕ → Parser Token A) → (b ≡ true → Deepens n p) → (b ≡ false → Deepens n q) → Deepens n (λ m. if b then p m else q m)
either_way n true p q P Q = P refl
either_way n false p q P Q = Q refl

-- turns: each is known at the lists whose next token passes
pub turning_where : {A : Type 0} (n : ℕ) (goes : Token → Bool) (op : ℕ → A → Parser Token A) → ((a : A) (ts : List Token) → at_next goes ts ≡ true → Deep n (length ts) (λ m. op m a ts))
    → ((m : ℕ) → n ≤ m → (a : A) → Shrinks (op m a)) → (a : A) → Deepens n (λ m. looped goes (op m) a)
unfolding loop
turning_where {A = A} n goes op Op S a = at_lists n (λ m. looped goes (op m) a) (λ ts. at_list n (λ m. loop goes (op m) (length ts) a) (turns (length ts) a) ts)
  where
    turns : (k : ℕ) (a : A) → Deepens n (λ m. loop goes (op m) k a)
    turns zero a = still_pure n a
    turns (suc k) a =
        choosing_where n goes (λ m. op m a >>= loop goes (op m) k) (λ m. pure a)
        (λ ts h. deep_then n (length ts) (λ m. op m a ts) (λ m. loop goes (op m) k) (Op a ts h) (λ b rest e. at_list n (λ m. loop goes (op m) k b) (turns k b) rest)
        (λ m le b rest e. most_at (loop goes (op m) k b) ((turns k b).shrinks m le) rest))
        (λ ts h. at_list n (λ m. pure a) (still_pure n a) ts)

pub turning : {A : Type 0} (n : ℕ) (goes : Token → Bool) (op : ℕ → A → Parser Token A) → ((a : A) → Deepens n (λ m. op m a)) → (a : A) → Deepens n (λ m. looped goes (op m) a)
turning n goes op Op a = turning_where n goes op (λ a ts h. at_list n (λ m. op m a) (Op a) ts) (λ m le a. (Op a).shrinks m le) a

-- ---- bars

-- a bar at one list, behind which the parser gets past the first token
pub guarded_at : {A : Type 0} (n : ℕ) (bar : ℕ → Bool) (p : ℕ → Parser Token A) → ((m : ℕ) → n ≤ m → bar n ≡ false → bar m ≡ false) → (m : ℕ) × (n ≤ m) × (bar m ≡ false) → (bar n ≡ false → Deepens n p)
    → ((m : ℕ) → n ≤ m → bar m ≡ false → Shrinks (p m)) → (ts : List Token) → ((m : ℕ) → n ≤ m → bar m ≡ false → Past (length ts) (p m ts)) → Deep n (length ts) (λ m. guard (bar m) too_deep (p m) ts)
guarded_at n bar p Mono opening P S ts Enters =
    deep_guard n (length ts) bar (λ m. p m ts) Mono (λ h. (opening.0, opening.1, opening.2, Enters opening.0 opening.1 opening.2)) (λ h. at_list n p (P h) ts) (λ m le h. most_at (p m) (S m le h) ts)

pub guarded : {A : Type 0} (n : ℕ) (goes : Token → Bool) (bar : ℕ → Bool) (p q : ℕ → Parser Token A) → ((m : ℕ) → n ≤ m → bar n ≡ false → bar m ≡ false) → (m : ℕ) × (n ≤ m) × (bar m ≡ false)
    → (bar n ≡ false → Deepens n p) → ((m : ℕ) → n ≤ m → bar m ≡ false → Shrinks (p m)) → ((m : ℕ) → n ≤ m → bar m ≡ false → (ts : List Token) → at_next goes ts ≡ true → Past (length ts) (p m ts))
    → Deepens n q → Deepens n (λ m. choose goes (guard (bar m) too_deep (p m)) (q m))
guarded n goes bar p q Mono opening P S Enters Q =
    choosing_where n goes (λ m. guard (bar m) too_deep (p m)) q (λ ts h. guarded_at n bar p Mono opening P S ts (λ m le k. Enters m le k ts h)) (λ ts h. at_list n q Q ts)

-- depths that open the bars
pub open_zero : (n : ℕ) → (m : ℕ) × (n ≤ m) × (is_zero m ≡ false)
open_zero n = (suc n, omega arith, refl)

pub open_room : (n d : ℕ) → (m : ℕ) × (n ≤ m) × (nat_lt m d ≡ false)
open_room n d = (max n d, le-max_left n d, room_within (max n d) d (le-max_right n d))
