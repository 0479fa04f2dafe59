-- A parser that is done, or that stops for another reason than depth, does the same where there is more room. The ways of putting parsers together keep it.
use Rattle.std.proofs.Common.{◌≡◌, ◌≤◌, ℕ, zero, suc, Bool, true, false, List, length, nat_lt, if◌then◌else◌, refl, sym, ap, subst, arith}
use Rattle.sb_base.specs.declared.tokens.Token.{Token}
use Rattle.sb_parse.specs.Parser.{Outcome, Parser, done, stop, at_next, and_then, ◌>>=◌, pure, choose, guard, loop, looped}
use Rattle.sb_lexicon.specs.Tokens.{too_deep, is_zero}
use Rattle.sb_lexicon.proofs.Depths.{within_room, room_within}

pub data Held {A : Type 0} (o other : Outcome Token A) : Type 0 where
  short : (left : ℕ) → o ≡ stop too_deep left → Held o other
  same : other ≡ o → Held o other

abbrev pub Wider : {A : Type 0} → Parser Token A → Parser Token A → Type 0
Wider p q = (ts : List Token) → Held (p ts) (q ts)

pub alike : {A : Type 0} (p : Parser Token A) → Wider p p
alike p ts = same refl

in_turn : {A B : Type 0} (o other : Outcome Token A) (q r : A → Parser Token B) → Held o other → ((a : A) → Wider (q a) (r a)) → Held (and_then o q) (and_then other r)
in_turn o other q r (short left e) Q = short left (ap (λ z. and_then z q) e)
in_turn (done a rest) other q r (same e) Q = subst (λ z. Held (q a rest) (and_then z r)) (sym e) (Q a rest)
in_turn (stop n left) other q r (same e) Q = same (ap (λ z. and_then z r) e)

pub one_by_one : {A B : Type 0} (p s : Parser Token A) (q r : A → Parser Token B) → Wider p s → ((a : A) → Wider (q a) (r a)) → Wider (p >>= q) (s >>= r)
one_by_one p s q r P Q ts = in_turn (p ts) (s ts) q r (P ts) Q

-- the same parser, and then others
pub behind : {A B : Type 0} (p : Parser Token A) (q r : A → Parser Token B) → ((a : A) → Wider (q a) (r a)) → Wider (p >>= q) (p >>= r)
behind p q r Q = one_by_one p p q r (alike p) Q

-- others, and then the same parser
pub before : {A B : Type 0} (p s : Parser Token A) (q : A → Parser Token B) → Wider p s → Wider (p >>= q) (s >>= q)
before p s q P = one_by_one p s q q P (λ a. alike (q a))

pub guarding : {A : Type 0} (bar other : Bool) (p q : Parser Token A) → (bar ≡ false → other ≡ false) → Wider p q → Wider (guard bar too_deep p) (guard other too_deep q)
guarding true other p q room P ts = short (length ts) refl
guarding false other p q room P ts = subst (λ b. Held (p ts) (if b then stop too_deep (length ts) else q ts)) (sym (room refl)) (P ts)

pub by_choice : {A : Type 0} (b : Bool) (o other x y : Outcome Token A) → (b ≡ true → Held o other) → (b ≡ false → Held x y) → Held (if b then o else x) (if b then other else y)
by_choice true o other x y P Q = P refl
by_choice false o other x y P Q = Q refl

pub choosing : {A : Type 0} (goes : Token → Bool) (p s q r : Parser Token A) → Wider p s → Wider q r → Wider (choose goes p q) (choose goes s r)
choosing goes p s q r P Q ts = by_choice (at_next goes ts) (p ts) (s ts) (q ts) (r ts) (λ h. P ts) (λ h. Q ts)

pub turning : {A : Type 0} (goes : Token → Bool) (op other : A → Parser Token A) → ((a : A) → Wider (op a) (other a)) → (a : A) → Wider (looped goes op a) (looped goes other a)
unfolding loop
turning {A = A} goes op other Op a ts = turns (length ts) a ts
  where
    turns : (n : ℕ) (a : A) → Wider (loop goes op n a) (loop goes other n a)
    turns zero a = alike (pure a)
    turns (suc n) a = choosing goes _ _ _ _ (one_by_one (op a) (other a) (loop goes op n) (loop goes other n) (Op a) (turns n)) (alike (pure a))

-- ---- room

pub zero_wider : (n m : ℕ) → n ≤ m → is_zero n ≡ false → is_zero m ≡ false
zero_wider zero m le h = absurd (cc h)
zero_wider (suc n) zero le h = absurd (omega arith)
zero_wider (suc n) (suc m) le h = refl

pub room_wider : (n m d : ℕ) → n ≤ m → nat_lt n d ≡ false → nat_lt m d ≡ false
room_wider n m d le h = let fits : d ≤ n = within_room n d h in room_within m d (omega arith)
