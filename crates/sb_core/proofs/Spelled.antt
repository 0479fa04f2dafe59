-- Each spelling of an annotation has the position at which it stands.
use Rattle.std.proofs.Common.{◌≡◌, ℕ, zero, suc, ◌+◌, List, [], ◌∷◌, map, get_or, Option, Some, None, refl, sym, ap, ◌∙◌, arith}
use Rattle.std.specs.Prelude.{slice_get}
use Rattle.std.specs.List.{position}
use Rattle.std.specs.Option.{option_map}
use Rattle.std.specs.Str.{bytes_eq}
use Rattle.std.proofs.lemmas.List.Quantifiers.{position-Some}
use Rattle.std.proofs.lemmas.Option.{slice_get-map, slice_get-get_or}
use Rattle.std.proofs.lemmas.Slice.Eq.{bytes_eq-Decides}
use Rattle.sb_core.specs.declared.spelling.TheConstants.{SPELLINGS}
use Rattle.sb_core.specs.Spellings.{position_of, spelling_at, SpelledOnce}

-- the numbers from `at` on, one for each item
abbrev pub counted : {X : Type 0} → (at : ℕ) → List X → List (Option ℕ)
counted at [] = []
counted at (x ∷ xs) = Some at ∷ counted (at + 1) xs

counted_at : {X : Type 0} → (at : ℕ) (xs : List X) (k : ℕ) (x : X) → slice_get xs k ≡ Some x → slice_get (counted at xs) k ≡ Some (Some (at + k))
counted_at at [] k x e = absurd (cc)
counted_at at (y ∷ ys) zero x e = let sum : at + 0 ≡ at = omega arith in rw sum refl
counted_at at (y ∷ ys) (suc k) x e =
    let sum : at + suc k ≡ at + 1 + k = omega arith in
    rw sum (counted_at (at + 1) ys k x e)

own_positions : map (λ s. position_of s.now) SPELLINGS ≡ counted 0 SPELLINGS
own_positions = refl

pub record MapParts {X Y : Type 0} (f : X → Y) (o : Option X) (y : Y) : Type 0 where
  pub part : X
  pub part_is : o ≡ Some part
  pub whole : f part ≡ y

map_parts : {X Y : Type 0} (f : X → Y) (o : Option X) (y : Y) → option_map f o ≡ Some y → MapParts f o y
map_parts f None y e = absurd (cc)
map_parts f (Some x) y e = record { part = x; part_is = refl; whole = cc }

found : {X : Type 0} (v : X → List ℕ) (xs : List X) (text : List ℕ) (k : ℕ) → position (λ x. bytes_eq (v x) text) xs ≡ Some k → option_map v (slice_get xs k) ≡ Some text
found v [] text k e = absurd (cc)
found v (x ∷ xs) text k e =
    let first = position-Some (λ y. bytes_eq (v y) text) (x ∷ xs) k x e in
    let same : v (get_or (x ∷ xs) k x) ≡ text = (bytes_eq-Decides (v (get_or (x ∷ xs) k x)) text).0 first.1 in
    ap (option_map v) (slice_get-get_or (x ∷ xs) k x first.0) ∙ ap Some same

stands : (text : List ℕ) (k : ℕ) → spelling_at k ≡ Some text → position_of text ≡ Some k
stands text k e =
    let parts = map_parts (λ s. s.now) (slice_get SPELLINGS k) text e in
    let own : slice_get (map (λ s. position_of s.now) SPELLINGS) k ≡ Some (position_of parts.part.now) = slice_get-map (λ s. position_of s.now) SPELLINGS k ∙ ap (option_map (λ s. position_of s.now)) parts.part_is in
    let sum : 0 + k ≡ k = omega arith in
    let counts : slice_get (counted 0 SPELLINGS) k ≡ Some (Some (0 + k)) = counted_at 0 SPELLINGS k parts.part parts.part_is in
    let same : Some (position_of parts.part.now) ≡ Some (Some k) = sym own ∙ (ap (λ l. slice_get l k) own_positions ∙ (counts ∙ ap (λ n. Some (Some n)) sum)) in
    let position : position_of text ≡ position_of parts.part.now = ap position_of (sym parts.whole) in
    cc

pub spelled_once : SpelledOnce
spelled_once text k = (found (λ s. s.now) SPELLINGS text k, stands text k)
