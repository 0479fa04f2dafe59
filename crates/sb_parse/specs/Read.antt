-- What reading by a relation is, in the subject's words: for any relation between texts, which are lists of tokens, and their values.
use Rattle.std.specs.Prelude.{◌≡◌, ℕ, Bool, true, List, [], ◌∷◌, ◌++◌, length}

-- the relation that a test decides
abbrev pub tested : {T A : Type 0} → (List T → A → Bool) → List T → A → Type 0
tested is ts a = is ts a ≡ true

-- some text begins so
pub record CanBegin {T A : Type 0} (Is : List T → A → Type 0) (front : List T) : Type 0 where
  pub rest : List T
  pub tree : A
  pub is : Is (front ++ rest) tree

-- no text has two values
abbrev pub HasOneTree : {T A : Type 0} → (List T → A → Type 0) → Type 0
HasOneTree {T} {A} Is = (ts : List T) (a b : A) → Is ts a → Is ts b → a ≡ b

-- The list begins with a text that has this value, and no text begins with that text and the token after it.
pub record IsLongest {T A : Type 0} (Is : List T → A → Type 0) (ts : List T) (a : A) (rest : List T) : Type 0 where
  pub front : List T
  pub split : ts ≡ front ++ rest
  pub is : Is front a
  pub ends : (t : T) (tail : List T) → rest ≡ t ∷ tail → CanBegin Is (front ++ (t ∷ [])) → ⊥

-- The list is no text. Some text begins as the list does up to the last `left` tokens, and none goes on with the first of these; with none left, what there is is no text.
pub record IsRefused {T A : Type 0} (Is : List T → A → Type 0) (ts : List T) (left : ℕ) : Type 0 where
  pub front : List T
  pub bad : List T
  pub split : ts ≡ front ++ bad
  pub left_is : left ≡ length bad
  pub good : CanBegin Is front
  pub first : (t : T) (tail : List T) → bad ≡ t ∷ tail → CanBegin Is (front ++ (t ∷ [])) → ⊥
  pub short : (a : A) → bad ≡ [] → Is front a → ⊥
