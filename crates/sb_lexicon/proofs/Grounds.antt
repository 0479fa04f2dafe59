-- Why a parser stops: at a token that is merely unexpected, at one with which a text goes on, or at one that shows a feature. The ways of putting parsers together keep it.
use Rattle.std.proofs.Common.{◌≡◌, ℕ, zero, suc, Bool, true, false, ◌||◌, List, [], ◌∷◌, ◌++◌, length, Option, Some, None, if◌then◌else◌, refl, sym, ap, ◌∙◌, append_assoc, append-nil, subst}
use Rattle.sb_base.specs.declared.tokens.Token.{Token}
use Rattle.sb_parse.specs.Parser.{Outcome, Parser, done, stop, at_next, and_then, ◌>>=◌, pure, refuse, token, taken, taken_as, choose, guard, loop, looped}
use Rattle.sb_parse.specs.Read.{CanBegin}
use Rattle.sb_parse.proofs.Heads.{either_passes}
use Rattle.sb_parse.specs.Descent.{at_second, choose_second}
use Rattle.sb_lexicon.specs.Lexicon.{Lexicon}
use Rattle.sb_lexicon.specs.Tokens.{unexpected, too_deep, lacks}
use Rattle.sb_lexicon.specs.Reasons.{shows}

-- a relation between texts and values
abbrev pub Texts : Type 0 → Type 1
Texts A = List Token → A → Type 0

-- what may stand behind the first tokens of a text
abbrev pub After : {A : Type 0} → List Token → Texts A → Texts A
After xs Is ys a = Is (xs ++ ys) a

-- the list stands at a token, behind what is before it
pub record StopsAt (ts : List Token) (left : ℕ) (front : List Token) (t : Token) : Type 0 where
  pub rest : List Token
  pub split : ts ≡ front ++ (t ∷ rest)
  pub left_is : left ≡ length (t ∷ rest)

pub data Why {A : Type 0} (w : Lexicon) (Is : Texts A) (ts : List Token) (n left : ℕ) : Type 0 where
  plain : n ≡ unexpected → Why w Is ts n left
  deep : (front : List Token) (t : Token) → n ≡ too_deep → StopsAt ts left front t → CanBegin Is (front ++ (t ∷ [])) → Why w Is ts n left
  lacking : (feature : ℕ) (front : List Token) (t : Token) → n ≡ lacks feature → StopsAt ts left front t → shows w feature t ≡ true → Why w Is ts n left

pub record Reads {A : Type 0} (Is : Texts A) (ts : List Token) (a : A) (rest : List Token) : Type 0 where
  pub front : List Token
  pub split : ts ≡ front ++ rest
  pub is : Is front a

-- the outcome in a list is a text of the relation, or a stop for a reason
abbrev pub Fair : {A : Type 0} → Lexicon → Texts A → List Token → Outcome Token A → Type 0
Fair w Is ts (done a rest) = Reads Is ts a rest
Fair w Is ts (stop n left) = Why w Is ts n left

abbrev pub Grounded : {A : Type 0} → Lexicon → Texts A → Parser Token A → Type 0
Grounded w Is p = (ts : List Token) → Fair w Is ts (p ts)

-- ---- other words

pub begin_as : {A B : Type 0} (Is : Texts A) (Other : Texts B) → ((ts : List Token) (a : A) → Is ts a → CanBegin Other ts) → (xs : List Token) → CanBegin Is xs → CanBegin Other xs
begin_as Is Other to xs c =
    let d : CanBegin Other (xs ++ c.rest) = to (xs ++ c.rest) c.tree c.is in
    record { rest = c.rest ++ d.rest; tree = d.tree; is = subst (λ z. Other z d.tree) (append_assoc xs c.rest d.rest) d.is }

-- a text as the whole of a text
pub whole_text : {A : Type 0} (Is : Texts A) (ts : List Token) (a : A) → Is ts a → CanBegin Is ts
whole_text Is ts a is = record { rest = []; tree = a; is = subst (λ z. Is z a) (sym (append-nil ts)) is }

pub why_as : {A B : Type 0} (w : Lexicon) (Is : Texts A) (Other : Texts B) → ((ts : List Token) (a : A) → Is ts a → CanBegin Other ts) → (ts : List Token) (n left : ℕ) → Why w Is ts n left → Why w Other ts n left
why_as w Is Other to ts n left (plain e) = plain e
why_as w Is Other to ts n left (deep front t e at c) = deep front t e at (begin_as Is Other to (front ++ (t ∷ [])) c)
why_as w Is Other to ts n left (lacking f front t e at h) = lacking f front t e at h

pub fair_as : {A : Type 0} (w : Lexicon) (Is Other : Texts A) → ((ts : List Token) (a : A) → Is ts a → Other ts a) → (ts : List Token) (o : Outcome Token A) → Fair w Is ts o → Fair w Other ts o
fair_as w Is Other to ts (done a rest) r = record { front = r.front; split = r.split; is = to r.front a r.is }
fair_as w Is Other to ts (stop n left) y = why_as w Is Other (λ ts a is. whole_text Other ts a (to ts a is)) ts n left y

pub grounded_as : {A : Type 0} (w : Lexicon) (Is Other : Texts A) (p : Parser Token A) → ((ts : List Token) (a : A) → Is ts a → Other ts a) → Grounded w Is p → Grounded w Other p
grounded_as w Is Other p to P ts = fair_as w Is Other to ts (p ts) (P ts)

-- ---- behind the first tokens

moved : (xs ts : List Token) (left : ℕ) (front : List Token) (t : Token) → StopsAt ts left front t → StopsAt (xs ++ ts) left (xs ++ front) t
moved xs ts left front t at = record { rest = at.rest; split = ap (λ z. xs ++ z) at.split ∙ sym (append_assoc xs front (t ∷ at.rest)); left_is = at.left_is }

why_behind : {A : Type 0} (w : Lexicon) (Is : Texts A) (xs ts : List Token) (n left : ℕ) → Why w (After xs Is) ts n left → Why w Is (xs ++ ts) n left
why_behind w Is xs ts n left (plain e) = plain e
why_behind w Is xs ts n left (deep front t e at c) =
    let d : CanBegin Is (xs ++ (front ++ (t ∷ []))) = record { rest = c.rest; tree = c.tree; is = subst (λ z. Is z c.tree) (sym (append_assoc xs (front ++ (t ∷ [])) c.rest)) c.is } in
    deep (xs ++ front) t e (moved xs ts left front t at) (subst (CanBegin Is) (sym (append_assoc xs front (t ∷ []))) d)
why_behind w Is xs ts n left (lacking f front t e at h) = lacking f (xs ++ front) t e (moved xs ts left front t at) h

pub fair_behind : {A : Type 0} (w : Lexicon) (Is : Texts A) (xs ts : List Token) (o : Outcome Token A) → Fair w (After xs Is) ts o → Fair w Is (xs ++ ts) o
fair_behind w Is xs ts (done a rest) r = record { front = xs ++ r.front; split = ap (λ z. xs ++ z) r.split ∙ sym (append_assoc xs r.front rest); is = r.is }
fair_behind w Is xs ts (stop n left) y = why_behind w Is xs ts n left y

-- ---- without a token

pub giving : {A : Type 0} (w : Lexicon) (Is : Texts A) (a : A) → Is [] a → Grounded w Is (pure a)
giving w Is a is ts = record { front = []; split = refl; is = is }

pub refusing_plain : {A : Type 0} (w : Lexicon) (Is : Texts A) → Grounded w Is (refuse unexpected)
refusing_plain w Is ts = plain refl

-- ---- one after the other

-- A text of the first relation, and then what may stand behind it. Where the first parser finds a text too deep, that text has to go on to one of the whole.
pub in_turn : {A B : Type 0} (w : Lexicon) (First : Texts A) (Is : Texts B) (q : A → Parser Token B) (ts : List Token) (o : Outcome Token A) → Fair w First ts o
    → ((xs : List Token) (a : A) → First xs a → CanBegin Is xs) → ((xs : List Token) (a : A) → First xs a → Grounded w (After xs Is) (q a)) → Fair w Is ts (and_then o q)
in_turn w First Is q ts (done a rest) r some Q = subst (λ z. Fair w Is z (q a rest)) (sym r.split) (fair_behind w Is r.front rest (q a rest) (Q r.front a r.is rest))
in_turn w First Is q ts (stop n left) y some Q = why_as w First Is some ts n left y

pub one_by_one : {A B : Type 0} (w : Lexicon) (First : Texts A) (Is : Texts B) (p : Parser Token A) (q : A → Parser Token B) → Grounded w First p
    → ((xs : List Token) (a : A) → First xs a → CanBegin Is xs) → ((xs : List Token) (a : A) → First xs a → Grounded w (After xs Is) (q a)) → Grounded w Is (p >>= q)
one_by_one w First Is p q P some Q ts = in_turn w First Is q ts (p ts) (P ts) some Q

-- a value changed
pub mapping : {A B : Type 0} (w : Lexicon) (First : Texts A) (Is : Texts B) (p : Parser Token A) (f : A → B) → Grounded w First p → ((xs : List Token) (a : A) → First xs a → Is xs (f a))
    → Grounded w Is (p >>= (λ a. pure (f a)))
mapping w First Is p f P to =
    one_by_one w First Is p (λ a. pure (f a)) P (λ xs a is. whole_text Is xs (f a) (to xs a is))
    (λ xs a is. giving w (After xs Is) (f a) (subst (λ z. Is z (f a)) (sym (append-nil xs)) (to xs a is)))

-- what may stand behind two lists
pub after_both : {A : Type 0} (w : Lexicon) (Is : Texts A) (xs ys : List Token) (p : Parser Token A) → Grounded w (After (xs ++ ys) Is) p → Grounded w (After ys (After xs Is)) p
after_both w Is xs ys p P = grounded_as w (After (xs ++ ys) Is) (After ys (After xs Is)) p (λ ts a is. subst (λ z. Is z a) (append_assoc xs ys ts) is) P

-- ---- one token

pub opening : {A : Type 0} (w : Lexicon) (Is : Texts A) (test : Token → Bool) (q : Token → Parser Token A) → ((t : Token) → test t ≡ true → Grounded w (After (t ∷ []) Is) (q t))
    → Grounded w Is (token unexpected test >>= q)
opening w Is test q Q [] = plain refl
opening w Is test q Q (t ∷ ts) = by_test (test t) refl
  where
    by_test : (b : Bool) → test t ≡ b → Fair w Is (t ∷ ts) (and_then (if b then done t ts else stop unexpected (suc (length ts))) q)
    by_test true h = fair_behind w Is (t ∷ []) ts (q t ts) (Q t h ts)
    by_test false h = plain refl

pub beginning : {A B : Type 0} (w : Lexicon) (Is : Texts B) (gives : Token → Option A) (q : A → Parser Token B) → ((t : Token) (a : A) → gives t ≡ Some a → Grounded w (After (t ∷ []) Is) (q a))
    → Grounded w Is (taken unexpected gives >>= q)
beginning {A = A} w Is gives q Q [] = plain refl
beginning {A = A} w Is gives q Q (t ∷ ts) = by_value (gives t) refl
  where
    by_value : (o : Option A) → gives t ≡ o → Fair w Is (t ∷ ts) (and_then (taken_as unexpected o ts) q)
    by_value None h = plain refl
    by_value (Some a) h = fair_behind w Is (t ∷ []) ts (q a ts) (Q t a h ts)

pub taking : {A : Type 0} (w : Lexicon) (Is : Texts A) (gives : Token → Option A) → ((t : Token) (a : A) → gives t ≡ Some a → Is (t ∷ []) a) → Grounded w Is (taken unexpected gives)
taking {A = A} w Is gives to [] = plain refl
taking {A = A} w Is gives to (t ∷ ts) = by_value (gives t) refl
  where
    by_value : (o : Option A) → gives t ≡ o → Fair w Is (t ∷ ts) (taken_as unexpected o ts)
    by_value None h = plain refl
    by_value (Some a) h = record { front = t ∷ []; split = refl; is = to t a h }

-- a text, and a token that has to come behind it
pub closing : {A B : Type 0} (w : Lexicon) (First : Texts A) (Is : Texts B) (test : Token → Bool) (some : Token) (p : Parser Token A) (f : A → Token → B) → test some ≡ true → Grounded w First p
    → ((xs : List Token) (a : A) (c : Token) → First xs a → test c ≡ true → Is (xs ++ (c ∷ [])) (f a c)) → Grounded w Is (p >>= (λ a. token unexpected test >>= (λ c. pure (f a c))))
closing w First Is test some p f good P to =
    one_by_one w First Is p (λ a. token unexpected test >>= (λ c. pure (f a c))) P (λ xs a is. record { rest = some ∷ []; tree = f a some; is = to xs a some is good })
    (λ xs a is. opening w (After xs Is) test (λ c. pure (f a c)) (λ c h. giving w (After (c ∷ []) (After xs Is)) (f a c) (to xs a c is h)))

-- ---- at some tokens alone

abbrev pub GroundedAt : {A : Type 0} → Lexicon → (Token → Bool) → Texts A → Parser Token A → Type 0
GroundedAt w goes Is p = (ts : List Token) → at_next goes ts ≡ true → Fair w Is ts (p ts)

pub refusing_deep : {A : Type 0} (w : Lexicon) (Is : Texts A) (goes : Token → Bool) → ((t : Token) → goes t ≡ true → CanBegin Is (t ∷ [])) → GroundedAt w goes Is (refuse too_deep)
refusing_deep w Is goes some [] h = absurd (cc h)
refusing_deep w Is goes some (t ∷ ts) h = deep [] t refl (record { rest = ts; split = refl; left_is = refl }) (some t h)

pub refusing_feature : {A : Type 0} (w : Lexicon) (Is : Texts A) (goes : Token → Bool) (feature : ℕ) → ((t : Token) → goes t ≡ true → shows w feature t ≡ true) → GroundedAt w goes Is (refuse (lacks feature))
refusing_feature w Is goes feature some [] h = absurd (cc h)
refusing_feature w Is goes feature some (t ∷ ts) h = lacking feature [] t refl (record { rest = ts; split = refl; left_is = refl }) (some t h)

pub barring : {A : Type 0} (w : Lexicon) (Is : Texts A) (goes : Token → Bool) (bar : Bool) (p : Parser Token A) → ((t : Token) → goes t ≡ true → CanBegin Is (t ∷ [])) → Grounded w Is p
    → GroundedAt w goes Is (guard bar too_deep p)
barring w Is goes true p some P ts h = refusing_deep w Is goes some ts h
barring w Is goes false p some P ts h = P ts

-- ---- choices

by_choice : {A : Type 0} (w : Lexicon) (Is : Texts A) (p q : Parser Token A) (ts : List Token) (b : Bool) → (b ≡ true → Fair w Is ts (p ts)) → (b ≡ false → Fair w Is ts (q ts)) → Fair w Is ts (if b then p ts else q ts)
by_choice w Is p q ts true P Q = P refl
by_choice w Is p q ts false P Q = Q refl

pub choosing : {A : Type 0} (w : Lexicon) (Is : Texts A) (goes : Token → Bool) (p q : Parser Token A) → GroundedAt w goes Is p → Grounded w Is q → Grounded w Is (choose goes p q)
choosing w Is goes p q P Q ts = by_choice w Is p q ts (at_next goes ts) (λ h. P ts h) (λ h. Q ts)

-- the same at the tokens that pass one of the tests
pub choosing_either : {A : Type 0} (w : Lexicon) (Is : Texts A) (goes other : Token → Bool) (p q : Parser Token A) → GroundedAt w goes Is p → GroundedAt w other Is q
    → GroundedAt w (λ t. goes t || other t) Is (choose goes p q)
choosing_either w Is goes other p q P Q ts h = by_choice w Is p q ts (at_next goes ts) (λ k. P ts k) (λ k. Q ts (either_passes goes other ts h k))

pub choosing_second : {A : Type 0} (w : Lexicon) (Is : Texts A) (goes : Token → Bool) (p q : Parser Token A) → Grounded w Is p → Grounded w Is q → Grounded w Is (choose_second goes p q)
choosing_second w Is goes p q P Q ts = by_choice w Is p q ts (at_second goes ts) (λ h. P ts) (λ h. Q ts)

-- ---- turns

module _ {A : Type 0} (w : Lexicon) (Is : Texts A) (goes : Token → Bool) (op : A → Parser Token A) (Op : (xs : List Token) (a : A) → Is xs a → GroundedAt w goes (After xs Is) (op a)) where
  turns : (n : ℕ) (xs : List Token) (a : A) → Is xs a → Grounded w (After xs Is) (loop goes op n a)
  unfolding loop
  turns zero xs a is = giving w (After xs Is) a (subst (λ z. Is z a) (sym (append-nil xs)) is)
  turns (suc n) xs a is =
      choosing w (After xs Is) goes (op a >>= loop goes op n) (pure a)
      (λ ts h. in_turn w (After xs Is) (After xs Is) (loop goes op n) ts (op a ts) (Op xs a is ts h) (λ ys b more. whole_text (After xs Is) ys b more)
      (λ ys b more. after_both w Is xs ys (loop goes op n b) (turns n (xs ++ ys) b more)))
      (giving w (After xs Is) a (subst (λ z. Is z a) (sym (append-nil xs)) is))

  pub turning : (xs : List Token) (a : A) → Is xs a → Grounded w (After xs Is) (looped goes op a)
  turning xs a is ts = turns (length ts) xs a is ts
