-- The texts of a table: those behind the keys of a set, and what a new one leaves.
use Rattle.std.proofs.Common.{◌≡◌, ◌<◌, ◌||◌, ◌++◌, ◌∷◌, ◌⊎◌, ◌∙◌, [], ℕ, Bool, List, Vec, Global, option_map, get_or, Some, true, false, arith, ap, sym, inl, inr, refl, length, length-append, map, cond, suc, zero}
use Rattle.std.specs.List.{list_any, slice_get, position}
use Rattle.std.specs.Str.{bytes_eq}
use Rattle.std.proofs.lemmas.List.{length-map}
use Rattle.std.proofs.lemmas.List.Quantifiers.{position-Some}
use Rattle.std.proofs.lemmas.Option.{slice_get-get_or, slice_get-map}
use Rattle.std.proofs.lemmas.Slice.Eq.{bytes_eq-Decides}
use Rattle.std.proofs.Math.Bool.{or-true}
use Rattle.sb_base.specs.Names.{holds_text, with_text, IsDistinct, IsTable}
use Rattle.indexmap.specs.IndexSet.{insert_key}

module _ {A B : Type 0} where
  -- a test of the images
  pub list_any-map : (p : B → Bool) (f : A → B) (xs : List A) → list_any p (map f xs) ≡ list_any (λ x. p (f x)) xs
  list_any-map p f [] = refl
  list_any-map p f (x ∷ xs) = ap (λ b. p (f x) || b) (list_any-map p f xs)

  -- a list and one more element
  pub map-push : (f : A → B) (xs : List A) (x : A) → map f (xs ++ x ∷ []) ≡ map f xs ++ f x ∷ []
  map-push f [] x = refl
  map-push f (y ∷ xs) x = ap (λ l. f y ∷ l) (map-push f xs x)

module _ {A : Type 0} where
  pub slice_get-push_last : (xs : List A) (x : A) → slice_get (xs ++ x ∷ []) (length xs) ≡ Some x
  slice_get-push_last [] x = refl
  slice_get-push_last (y ∷ xs) x = slice_get-push_last xs x

  -- a place of a list with one more element is one of the list's, or the last
  pub push_places : (xs : List A) (x y : A) (i : ℕ) → slice_get (xs ++ x ∷ []) i ≡ Some y → (slice_get xs i ≡ Some y) ⊎ ((i ≡ length xs) × (x ≡ y))
  push_places [] x y zero got = inr (refl, cc)
  push_places [] x y (suc i) got = cc
  push_places (z ∷ xs) x y zero got = inl got
  push_places (z ∷ xs) x y (suc i) got =
      elim (push_places xs x y i got) [ inl there ↦ inl there | inr last ↦ inr (ap suc last.0, last.1) ]

  -- a place where the test passes
  pub place_passes : (p : A → Bool) (xs : List A) (x : A) (i : ℕ) → slice_get xs i ≡ Some x → p x ≡ true → list_any p xs ≡ true
  place_passes p [] x i got passes = cc
  place_passes p (y ∷ xs) x zero got passes = let here : p y ≡ true = cc in rw here
  place_passes p (y ∷ xs) x (suc i) got passes = rw (place_passes p xs x i got passes) (or-true (p y))

-- the text that a text's place holds
pub found_text : (text : List ℕ) (keys : List (Vec ℕ Global)) (i : ℕ) → position (λ k. bytes_eq text k.items) keys ≡ Some i → slice_get (map (λ v. v.items) keys) i ≡ Some text
found_text text [] i at = absurd (cc)
found_text text (key ∷ keys) i at =
    let found = position-Some (λ k. bytes_eq text k.items) (key ∷ keys) i key at in
    let same = (bytes_eq-Decides text (get_or (key ∷ keys) i key).items).0 found.1 in
    slice_get-map (λ v. v.items) (key ∷ keys) i ∙ ap (option_map (λ v. v.items)) (slice_get-get_or (key ∷ keys) i key found.0) ∙ ap Some (sym same)

-- a text that is held is not new
held_and_new : (texts : List (List ℕ)) (text other : List ℕ) (i : ℕ) → holds_text texts text ≡ false → slice_get texts i ≡ Some other → text ≡ other → ⊥
held_and_new texts text other i new got same =
    let held = place_passes (bytes_eq text) texts other i got ((bytes_eq-Decides text other).1 same) in cc

-- a new text keeps the texts apart
pub distinct_with_new : (texts : List (List ℕ)) (text : List ℕ) → IsDistinct texts → holds_text texts text ≡ false → IsDistinct (texts ++ text ∷ [])
distinct_with_new texts text distinct new i j other at_i at_j =
    elim (push_places texts text other i at_i) [
      | inl first ↦ elim (push_places texts text other j at_j) [
        | inl second ↦ distinct i j other first second
        | inr second ↦ absurd (held_and_new texts text other i new first second.1)
      ]
      | inr first ↦ elim (push_places texts text other j at_j) [
        | inl second ↦ absurd (held_and_new texts text other j new second first.1)
        | inr second ↦ cc
      ]
    ]

-- the texts behind keys
abbrev pub texts_of : List (Vec ℕ Global) → List (List ℕ)
texts_of = map (λ v. v.items)

-- whether a key has the text
pub held_behind : (text : List ℕ) (keys : List (Vec ℕ Global)) (held : Bool) → held ≡ list_any (λ k. bytes_eq text k.items) keys → holds_text (texts_of keys) text ≡ held
held_behind text keys held e = list_any-map (bytes_eq text) (λ v. v.items) keys ∙ sym e

with_or_without : (keys : List (Vec ℕ Global)) (key : Vec ℕ Global) (held : Bool) → texts_of (cond held keys (keys ++ key ∷ [])) ≡ cond held (texts_of keys) (texts_of keys ++ key.items ∷ [])
with_or_without keys key true = refl
with_or_without keys key false = map-push (λ v. v.items) keys key

-- the texts once a key was inserted
with_behind : (keys : List (Vec ℕ Global)) (key : Vec ℕ Global) → texts_of (insert_key (λ a b. bytes_eq a.items b.items) keys key) ≡ with_text (texts_of keys) key.items
with_behind keys key = rw (list_any-map (bytes_eq key.items) (λ v. v.items) keys) (with_or_without keys key (list_any (λ k. bytes_eq key.items k.items) keys))

-- a text that is held changes nothing
pub with_held : (texts : List (List ℕ)) (text : List ℕ) → holds_text texts text ≡ true → texts ≡ with_text texts text
with_held texts text held = rw held refl

-- a new text goes last
pub with_new : (texts : List (List ℕ)) (text : List ℕ) → holds_text texts text ≡ false → with_text texts text ≡ texts ++ text ∷ []
with_new texts text new = rw new refl

-- a table takes a new text where it has room
table_with_new : (texts : List (List ℕ)) (text : List ℕ) (limit : ℕ) → IsTable texts limit → holds_text texts text ≡ false → length texts < limit → IsTable (with_text texts text) limit
table_with_new texts text limit table new room = rw (with_new texts text new) record {
  within = omega (arith, length-append texts (text ∷ []));
  fits = table.fits;
  distinct = distinct_with_new texts text table.distinct new;
}

-- and the number of that text is the count before
pub number_of_new : (texts : List (List ℕ)) (text : List ℕ) → holds_text texts text ≡ false → slice_get (with_text texts text) (length texts) ≡ Some text
number_of_new texts text new = rw (with_new texts text new) (slice_get-push_last texts text)

-- the texts once a key with this text was inserted
pub texts_with : (keys new : List (Vec ℕ Global)) (key : Vec ℕ Global) (text : List ℕ) → new ≡ insert_key (λ a b. bytes_eq a.items b.items) keys key → key.items ≡ text → texts_of new ≡ with_text (texts_of keys) text
texts_with keys new key text inserted is = ap texts_of inserted ∙ with_behind keys key ∙ ap (with_text (texts_of keys)) is

-- the table once a key with a new text was inserted, where there was room
pub table_with : (keys new : List (Vec ℕ Global)) (key : Vec ℕ Global) (text : List ℕ) (limit : ℕ) → new ≡ insert_key (λ a b. bytes_eq a.items b.items) keys key → key.items ≡ text → holds_text (texts_of keys) text ≡ false → length keys < limit → IsTable (texts_of keys) limit → IsTable (texts_of new) limit
table_with keys new key text limit inserted is absent room table =
    let shorter : length (texts_of keys) < limit = omega (arith, length-map keys (λ v. v.items)) in
    rw (texts_with keys new key text inserted is) (table_with_new (texts_of keys) text limit table absent shorter)
