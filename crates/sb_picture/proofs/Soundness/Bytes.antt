-- what a store leaves of memory
use Rattle.std.proofs.Common.{◌≡◌, ◌≢◌, ℕ, zero, suc, ◌+◌, ◌-◌, ◌/◌, ◌%◌, ◌<◌, ◌≤◌, List, [], ◌∷◌, length, slice_get, slice_set, ℤ, Option, Some, ◌⊎◌, inl, inr, refl, sym, ap, ◌∙◌, subst, length-set, arith}
use Rattle.sb_picture.specs.Memory.{Byte, Written, Memory, overwrite, int_code, int_bytes, byte_in, byte_at, IsWritten, size_in, size_of}
use Rattle.sb_picture.specs.Describes.{BytesAt}
use Rattle.sb_picture.proofs.Soundness.Elements.{Each, each-cons, each-one, get-set_same, get-set_other}

-- two numbers are equal or not, and one is at most the other or above it
pub same_or_not : (a b : ℕ) → (a ≡ b) ⊎ (a ≢ b)
same_or_not zero zero = inl refl
same_or_not zero (suc b) = inr (omega arith)
same_or_not (suc a) zero = inr (omega arith)
same_or_not (suc a) (suc b) = elim (same_or_not a b) [ inl e ↦ inl (ap suc e) | inr e ↦ inr (λ h. e (omega arith)) ]

pub le_or_lt : (a b : ℕ) → (a ≤ b) ⊎ (b < a)
le_or_lt zero b = inl (omega arith)
le_or_lt (suc a) zero = inr (omega arith)
le_or_lt (suc a) (suc b) = elim (le_or_lt a b) [ inl e ↦ inl (omega arith) | inr e ↦ inr (omega arith) ]

-- lists of bytes

overwrite_length : (bytes : List Byte) (from : ℕ) (bs : List Byte) → length (overwrite bytes from bs) ≡ length bytes
overwrite_length bytes from [] = refl
overwrite_length bytes from (b ∷ bs) = overwrite_length (slice_set bytes from b) (suc from) bs ∙ length-set bytes from b

overwrite_before : (bytes : List Byte) (from : ℕ) (bs : List Byte) (k : ℕ) → k < from → slice_get (overwrite bytes from bs) k ≡ slice_get bytes k
overwrite_before bytes from [] k lt = refl
overwrite_before bytes from (b ∷ bs) k lt =
    overwrite_before (slice_set bytes from b) (suc from) bs k (omega arith) ∙ get-set_other bytes from k b (omega arith)

overwrite_behind : (bytes : List Byte) (from : ℕ) (bs : List Byte) (k : ℕ) → from + length bs ≤ k → slice_get (overwrite bytes from bs) k ≡ slice_get bytes k
overwrite_behind bytes from [] k le = refl
overwrite_behind bytes from (b ∷ bs) k le =
    overwrite_behind (slice_set bytes from b) (suc from) bs k (omega arith) ∙ get-set_other bytes from k b (omega arith)

get_within : {X : Type 0} (xs : List X) (k : ℕ) → k < length xs → (x : X) × (slice_get xs k ≡ Some x)
get_within [] k lt = absurd (omega arith)
get_within (x ∷ xs) zero lt = (x, refl)
get_within (x ∷ xs) (suc k) lt = get_within xs k (omega arith)

set_within : (bytes : List Byte) (from : ℕ) (b : Byte) → from < length bytes → slice_get (slice_set bytes from b) from ≡ Some b
set_within bytes from b lt = let x = get_within bytes from lt in get-set_same bytes from x.0 b x.1

overwrite_here : (bytes : List Byte) (from : ℕ) (bs : List Byte) → from + length bs ≤ length bytes
    → (j : ℕ) (b : Byte) → slice_get bs j ≡ Some b → slice_get (overwrite bytes from bs) (from + j) ≡ Some b
overwrite_here bytes from [] le j b e = let no_one : ⊥ = cc in absurd no_one
overwrite_here bytes from (c ∷ bs) le zero b e =
    let there : slice_get (overwrite (slice_set bytes from c) (suc from) bs) from ≡ slice_get (slice_set bytes from c) from = overwrite_before (slice_set bytes from c) (suc from) bs from (omega arith) in
    let set = set_within bytes from c (omega arith) in
    let s : Some c ≡ Some b = e in
    let here : from + zero ≡ from = omega arith in
    subst (λ (k : ℕ). slice_get (overwrite (slice_set bytes from c) (suc from) bs) k ≡ Some b) (sym here) (there ∙ (set ∙ s))
overwrite_here bytes from (c ∷ bs) le (suc j) b e =
    let size : length (slice_set bytes from c) ≡ length bytes = length-set bytes from c in
    let h = overwrite_here (slice_set bytes from c) (suc from) bs (omega arith) j b e in
    let here : suc from + j ≡ from + suc j = omega arith in
    subst (λ (k : ℕ). slice_get (overwrite (slice_set bytes from c) (suc from) bs) k ≡ Some b) here h

-- bytes that stand in memory

pub bytes_at : (m : Memory) (object from : ℕ) (bs : List Byte) → ((j : ℕ) (b : Byte) → slice_get bs j ≡ Some b → byte_at m object (from + j) ≡ Some b) → BytesAt m object from bs
bytes_at m object from [] h = tt
bytes_at m object from (b ∷ bs) h =
    let here : from + zero ≡ from = omega arith in (
      subst (λ (k : ℕ). byte_at m object k ≡ Some b) here (h zero b refl),
      bytes_at m object (from + 1) bs (λ j c e. let there : from + suc j ≡ (from + 1) + j = omega arith in subst (λ (k : ℕ). byte_at m object k ≡ Some c) there (h (suc j) c e)),
    )

pub bytes_still : (m now : Memory) (object from : ℕ) (bs : List Byte)
    → ((k : ℕ) → from ≤ k → k < from + length bs → byte_at now object k ≡ byte_at m object k) → BytesAt m object from bs → BytesAt now object from bs
bytes_still m now object from [] same h = tt
bytes_still m now object from (b ∷ bs) same h =
    (same from (omega arith) (omega arith) ∙ h.0, bytes_still m now object (from + 1) bs (λ k le lt. same k (omega arith) (omega arith)) h.1)

-- what a step leaves that writes some bytes from byte `from` of an object on, and nothing else
pub record Changes (m now : Memory) (object from : ℕ) (bytes : List Byte) : Type 0 where
  pub sizes : (o : ℕ) → size_of now o ≡ size_of m o
  pub fresh : BytesAt now object from bytes
  pub same : (o k : ℕ) → ((o ≡ object) × (from ≤ k) × (k < from + length bytes) → ⊥) → byte_at now o k ≡ byte_at m o k
  pub filled : (k : ℕ) → from ≤ k → k < from + length bytes → IsWritten now object k
  pub written : (o k : ℕ) → IsWritten m o k → IsWritten now o k

abbrev pub IsWhole : Byte → Type 0
IsWhole b = (v : ℕ) × (b ≡ Written v)

whole_one : (v : ℕ) (bs : List Byte) → Each IsWhole bs → Each IsWhole (Written v ∷ bs)
whole_one v bs h = each-cons IsWhole (Written v) bs (v, refl) h

whole_four : (a b c d : ℕ) → Each IsWhole (Written a ∷ Written b ∷ Written c ∷ Written d ∷ [])
whole_four a b c d = whole_one a (Written b ∷ Written c ∷ Written d ∷ []) (whole_one b (Written c ∷ Written d ∷ []) (whole_one c (Written d ∷ []) (each-one IsWhole (Written d) (d, refl))))

pub int_whole : (z : ℤ) → Each IsWhole (int_bytes z)
int_whole z = whole_four (int_code z % 256) (int_code z / 256 % 256) (int_code z / 65536 % 256) (int_code z / 16777216 % 256)

-- a byte is among those written, or not
touched_or_not : (object from count o k : ℕ) → (o ≡ object) × (from ≤ k) × (k < from + count) ⊎ ((o ≡ object) × (from ≤ k) × (k < from + count) → ⊥)
touched_or_not object from count o k = by (same_or_not o object) (le_or_lt from k) (le_or_lt (suc k) (from + count))
  where
    by : (o ≡ object) ⊎ (o ≢ object) → (from ≤ k) ⊎ (k < from) → (suc k ≤ from + count) ⊎ (from + count < suc k)
        → (o ≡ object) × (from ≤ k) × (k < from + count) ⊎ ((o ≡ object) × (from ≤ k) × (k < from + count) → ⊥)
    by (inl a) (inl b) (inl c) = inl (a, b, c)
    by (inl a) (inl b) (inr c) = inr (λ h. let d = h.2 in omega arith)
    by (inl a) (inr b) c = inr (λ h. let d = h.1 in omega arith)
    by (inr a) b c = inr (λ h. a h.0)

module _ (m : Memory) (object from : ℕ) (old bytes : List Byte) (there : slice_get m object ≡ Some old) (room : from + length bytes ≤ length old) where
  new : List Byte
  new = overwrite old from bytes

  now : Memory
  unfolding new
  now = slice_set m object new

  stands : slice_get now object ≡ Some new
  unfolding now new
  stands = get-set_same m object old new there

  others : (o : ℕ) → o ≢ object → slice_get now o ≡ slice_get m o
  unfolding now new
  others o ne = get-set_other m object o new ne

  sizes : (o : ℕ) → size_of now o ≡ size_of m o
  unfolding new
  sizes o = elim (same_or_not o object) [
    | inl e ↦ subst (λ (x : ℕ). size_of now x ≡ size_of m x) (sym e) (ap size_in stands ∙ (ap Some (overwrite_length old from bytes) ∙ sym (ap size_in there)))
    | inr ne ↦ ap size_in (others o ne)
  ]

  in_object : (k : ℕ) → byte_at now object k ≡ slice_get (overwrite old from bytes) k
  unfolding new
  in_object k = ap (λ (x : Option (List Byte)). byte_in x k) stands

  was : (k : ℕ) → byte_at m object k ≡ slice_get old k
  was k = ap (λ (x : Option (List Byte)). byte_in x k) there

  same : (o k : ℕ) → ((o ≡ object) × (from ≤ k) × (k < from + length bytes) → ⊥) → byte_at now o k ≡ byte_at m o k
  same o k not_there = elim (same_or_not o object) [
    | inl e ↦ subst (λ (x : ℕ). byte_at now x k ≡ byte_at m x k) (sym e) (in_object k ∙ (by e (le_or_lt from k) (le_or_lt (suc k) (from + length bytes)) ∙ sym (was k)))
    | inr ne ↦ ap (λ (x : Option (List Byte)). byte_in x k) (others o ne)
  ]
    where
      by : o ≡ object → (from ≤ k) ⊎ (k < from) → (suc k ≤ from + length bytes) ⊎ (from + length bytes < suc k) → slice_get (overwrite old from bytes) k ≡ slice_get old k
      by e (inl a) (inl b) = absurd (not_there (e, a, b))
      by e (inl a) (inr b) = overwrite_behind old from bytes k (omega arith)
      by e (inr a) b = overwrite_before old from bytes k a

  here : (j : ℕ) (b : Byte) → slice_get bytes j ≡ Some b → byte_at now object (from + j) ≡ Some b
  here j b e = in_object (from + j) ∙ overwrite_here old from bytes room j b e

  filled : Each IsWhole bytes → (k : ℕ) → from ≤ k → k < from + length bytes → IsWritten now object k
  filled whole k le lt =
      let j : (i : ℕ) × (from + i ≡ k) = (k - from, omega arith) in
      let b = get_within bytes j.0 (let e = j.1 in omega arith) in
      let w = whole j.0 b.0 b.1 in
      (w.0, subst (λ (x : ℕ). byte_at now object x ≡ Some (Written w.0)) j.1 (here j.0 b.0 b.1 ∙ ap Some w.1))

  changes_now : Each IsWhole bytes → Changes m now object from bytes
  changes_now whole = record {
    sizes = sizes;
    fresh = bytes_at now object from bytes here;
    same = same;
    filled = filled whole;
    written = λ o k h. elim (touched_or_not object from (length bytes) o k) [
      | inl t ↦ subst (λ (x : ℕ). IsWritten now x k) (sym t.0) (filled whole k t.1 t.2)
      | inr t ↦ (h.0, same o k t ∙ h.1)
    ];
  }

  pub changes : Each IsWhole bytes → Changes m (slice_set m object (overwrite old from bytes)) object from bytes
  unfolding now new
  changes whole = changes_now whole
