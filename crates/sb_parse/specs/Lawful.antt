-- What a parser and a relation between texts and their values owe one another.
use Rattle.std.specs.Prelude.{◌≡◌, ◌⊎◌, ℕ, Bool, true, false, List, [], ◌∷◌, ◌++◌, length, Option, Some}
use Rattle.sb_parse.specs.Parser.{Parser, done, stop, peeked, at_next}

-- A list begins with a text that has this value, and the token after it does not go on from there.
pub record Part {T A : Type 0} (Is : List T → A → Type 0) (more : A → T → Bool) (a : A) (ts rest : List T) : Type 0 where
  pub front : List T
  pub split : ts ≡ front ++ rest
  pub is : Is front a
  pub ends : at_next (more a) rest ≡ false

-- The parser stops behind the tokens with which some text begins, and would stop there whatever followed the token at which it does.
pub record Stuck {T A : Type 0} (Is : List T → A → Type 0) (p : Parser T A) (ts : List T) (n left : ℕ) : Type 0 where
  pub front : List T
  pub bad : List T
  pub split : ts ≡ front ++ bad
  pub left_is : left ≡ length bad
  pub rest : List T
  pub tree : A
  pub can : Is (front ++ rest) tree
  pub sticks : (x : List T) → peeked x ≡ peeked bad → p (front ++ x) ≡ stop n (length x)

-- The parser stops at the first token, whatever follows it.
pub record Barred {T A : Type 0} (p : Parser T A) (ts : List T) (n left : ℕ) : Type 0 where
  pub left_is : left ≡ length ts
  pub sticks : (x : List T) → peeked x ≡ peeked ts → p x ≡ stop n (length x)

-- p reads the longest text of the relation, with its value, and stops where no text goes on. `more a t`: the token t goes on from a text with the value a.
pub record Lawful {T A : Type 0} (Is : List T → A → Type 0) (more : A → T → Bool) (p : Parser T A) : Type 0 where
  pub sound : (ts : List T) (a : A) (rest : List T) → p ts ≡ done a rest → Part Is more a ts rest
  pub complete : (ts : List T) (a : A) (rest : List T) → Is ts a → at_next (more a) rest ≡ false → p (ts ++ rest) ≡ done a rest
  pub stuck : (ts : List T) (n left : ℕ) → p ts ≡ stop n left → Stuck Is p ts n left
  pub some : (ts : List T) × (a : A) × Is ts a

-- The same of a parser that is asked only where the next token fails a test, as one that goes on from what another one read.
pub record Follows {T A : Type 0} (before : T → Bool) (Is : List T → A → Type 0) (more : A → T → Bool) (p : Parser T A) : Type 0 where
  pub sound : (ts : List T) (a : A) (rest : List T) → at_next before ts ≡ false → p ts ≡ done a rest → Part Is more a ts rest
  pub complete : (ts : List T) (a : A) (rest : List T) → Is ts a → at_next (more a) rest ≡ false → p (ts ++ rest) ≡ done a rest
  pub stuck : (ts : List T) (n left : ℕ) → p ts ≡ stop n left → Stuck Is p ts n left
  pub some : (ts : List T) × (a : A) × Is ts a

-- The same of a parser that is asked only where the next token passes a test, with which each of its texts begins. It may have no text.
pub record OnHead {T A : Type 0} (goes : T → Bool) (Is : List T → A → Type 0) (more : A → T → Bool) (p : Parser T A) : Type 0 where
  pub sound : (ts : List T) (a : A) (rest : List T) → at_next goes ts ≡ true → p ts ≡ done a rest → Part Is more a ts rest
  pub complete : (ts : List T) (a : A) (rest : List T) → Is ts a → at_next (more a) rest ≡ false → p (ts ++ rest) ≡ done a rest
  pub stuck : (ts : List T) (n left : ℕ) → at_next goes ts ≡ true → p ts ≡ stop n left → Stuck Is p ts n left ⊎ Barred p ts n left
  pub heads : (ts : List T) (a : A) → Is ts a → at_next goes ts ≡ true

-- ---- relations put together

-- a text of the first relation, and then one of the second
pub record Joined {T A B : Type 0} (First : List T → A → Type 0) (Second : A → List T → B → Type 0) (ts : List T) (b : B) : Type 0 where
  pub before : List T
  pub after : List T
  pub value : A
  pub split : ts ≡ before ++ after
  pub first : First before value
  pub second : Second value after b

pub record IsToken {T : Type 0} (test : T → Bool) (ts : List T) (t : T) : Type 0 where
  pub alone : ts ≡ t ∷ []
  pub passes : test t ≡ true

pub record IsValue {T A : Type 0} (gives : T → Option A) (ts : List T) (a : A) : Type 0 where
  pub token : T
  pub alone : ts ≡ token ∷ []
  pub is : gives token ≡ Some a

pub record IsEmpty {T A : Type 0} (a : A) (ts : List T) (b : A) : Type 0 where
  pub none : ts ≡ []
  pub same : b ≡ a

-- a token, and then a text that may depend on it
pub record Opened {T A : Type 0} (test : T → Bool) (Is : T → List T → A → Type 0) (ts : List T) (a : A) : Type 0 where
  pub opening : T
  pub rest : List T
  pub split : ts ≡ opening ∷ rest
  pub passes : test opening ≡ true
  pub is : Is opening rest a

-- a token that gives a value, and then a text that may depend on it
pub record Begun {T A B : Type 0} (gives : T → Option A) (Is : A → List T → B → Type 0) (ts : List T) (b : B) : Type 0 where
  pub opening : T
  pub value : A
  pub rest : List T
  pub split : ts ≡ opening ∷ rest
  pub gives_it : gives opening ≡ Some value
  pub is : Is value rest b

-- a text, and then a token
pub record Closed {T A : Type 0} (test : T → Bool) (Is : List T → A → Type 0) (ts : List T) (a : A) : Type 0 where
  pub front : List T
  pub closing : T
  pub split : ts ≡ front ++ (closing ∷ [])
  pub is : Is front a
  pub passes : test closing ≡ true

pub record Mapped {T A B : Type 0} (f : A → B) (Is : List T → A → Type 0) (ts : List T) (b : B) : Type 0 where
  pub value : A
  pub is : Is ts value
  pub same : b ≡ f value

pub record Unbarred {T A : Type 0} (bar : Bool) (Is : List T → A → Type 0) (ts : List T) (a : A) : Type 0 where
  pub open_way : bar ≡ false
  pub is : Is ts a

abbrev pub Either : {T A : Type 0} → (List T → A → Type 0) → (List T → A → Type 0) → List T → A → Type 0
Either First Second ts a = First ts a ⊎ Second ts a

-- turns, each of which goes on from the value before it
pub data Turns {T A : Type 0} (Turn : A → List T → A → Type 0) : A → List T → A → Type 0 where
  over : (a : A) → Turns Turn a [] a
  turn : (a b c : A) (xs ys : List T) → Turn a xs b → Turns Turn b ys c → Turns Turn a (xs ++ ys) c
