-- What splicing does to the bytes of a text.
use Rattle.std.proofs.Common.{◌≡◌, ◌+◌, ◌&&◌, ◌++◌, ◌∷◌, [], ℕ, List, Bool, true, false, ap, sym, ◌∙◌, refl, nat_eq, cond}
use Rattle.sb_lex.specs.declared.spot.Spot.{Spot}
use Rattle.sb_lex.specs.Splicing.{begins, placed, without_returns, without_splices, spliced, bytes_of}

-- ---- the bytes do not depend on the places

same_begins : (b : ℕ) (xs ys : List Spot) → bytes_of xs ≡ bytes_of ys → begins b xs ≡ begins b ys
same_begins b [] [] e = refl
same_begins b [] (y ∷ ys) e = cc
same_begins b (x ∷ xs) [] e = cc
same_begins b (x ∷ xs) (y ∷ ys) e = let same : x.byte ≡ y.byte = cc in ap (λ z. nat_eq z b) same

either : (first second : Bool) (xs ys us vs : List Spot) → first ≡ second → bytes_of xs ≡ bytes_of us → bytes_of ys ≡ bytes_of vs → bytes_of (cond first xs ys) ≡ bytes_of (cond second us vs)
either true true xs ys us vs same e other = e
either false false xs ys us vs same e other = other
either true false xs ys us vs same e other = cc
either false true xs ys us vs same e other = cc

same_returns : (xs ys : List Spot) → bytes_of xs ≡ bytes_of ys → bytes_of (without_returns xs) ≡ bytes_of (without_returns ys)
same_returns [] [] e = refl
same_returns [] (y ∷ ys) e = cc
same_returns (x ∷ xs) [] e = cc
same_returns (x ∷ xs) (y ∷ ys) e =
    let same : x.byte ≡ y.byte = cc in
    let rest : bytes_of xs ≡ bytes_of ys = cc in
    let more = same_returns xs ys rest in
    either (nat_eq x.byte 13 && begins 10 xs) (nat_eq y.byte 13 && begins 10 ys) (without_returns xs) (x ∷ without_returns xs) (without_returns ys) (y ∷ without_returns ys) (cc (same, same_begins 10 xs ys rest)) more (cc (same, more))

same_splices : (joined : Bool) (xs ys : List Spot) → bytes_of xs ≡ bytes_of ys → bytes_of (without_splices joined xs) ≡ bytes_of (without_splices joined ys)
same_splices true [] [] e = refl
same_splices false [] [] e = refl
same_splices joined [] (y ∷ ys) e = cc
same_splices joined (x ∷ xs) [] e = cc
same_splices true (x ∷ xs) (y ∷ ys) e = let rest : bytes_of xs ≡ bytes_of ys = cc in same_splices false xs ys rest
same_splices false (x ∷ xs) (y ∷ ys) e =
    let same : x.byte ≡ y.byte = cc in
    let rest : bytes_of xs ≡ bytes_of ys = cc in
    let more = same_splices false xs ys rest in
    either (nat_eq x.byte 92 && begins 10 xs) (nat_eq y.byte 92 && begins 10 ys) (without_splices true xs) (x ∷ without_splices false xs) (without_splices true ys) (y ∷ without_splices false ys) (cc (same, same_begins 10 xs ys rest)) (same_splices true xs ys rest) (cc (same, more))

bytes_placed : (line col : ℕ) (bytes : List ℕ) → bytes_of (placed line col bytes) ≡ bytes
bytes_placed line col [] = refl
bytes_placed line col (b ∷ bs) = ap (λ l. b ∷ l) (bytes_placed (cond (nat_eq b 10) (line + 1) line) (cond (nat_eq b 10) 1 (col + 1)) bs)

-- the bytes of a text, by those of its file
of_bytes : (xs ys : List Spot) → bytes_of xs ≡ bytes_of ys → bytes_of (without_splices false (without_returns xs)) ≡ bytes_of (without_splices false (without_returns ys))
of_bytes xs ys e = same_splices false (without_returns xs) (without_returns ys) (same_returns xs ys e)

pub place_free : (line col : ℕ) (bytes : List ℕ) → bytes_of (spliced line col bytes) ≡ bytes_of (spliced 1 1 bytes)
place_free line col bytes = of_bytes (placed line col bytes) (placed 1 1 bytes) (bytes_placed line col bytes ∙ sym (bytes_placed 1 1 bytes))

-- ---- a splice

module _ (back newline : Spot) (is_back : back.byte ≡ 92) (is_newline : newline.byte ≡ 10) (behind : List Spot) where
  begins_before : (xs : List Spot) → begins 10 (xs ++ back ∷ newline ∷ behind) ≡ begins 10 xs
  begins_before [] = rw is_back
  begins_before (x ∷ xs) = refl

  returns_before : (xs : List Spot) → without_returns (xs ++ back ∷ newline ∷ behind) ≡ without_returns xs ++ back ∷ newline ∷ without_returns behind
  returns_before [] = rw (is_back, is_newline)
  returns_before (x ∷ xs) = rw (begins_before xs, returns_before xs) (parted (nat_eq x.byte 13 && begins 10 xs))
    where
      parted : (t : Bool) → cond t (without_returns xs ++ back ∷ newline ∷ without_returns behind) (x ∷ (without_returns xs ++ back ∷ newline ∷ without_returns behind)) ≡ cond t (without_returns xs) (x ∷ without_returns xs) ++ back ∷ newline ∷ without_returns behind
      parted true = refl
      parted false = refl

  spliced_or_kept : (first second : Bool) (x : Spot) (joined kept joined_alone kept_alone : List Spot) → first ≡ second → (first ≡ true → joined ≡ joined_alone ++ without_splices false behind) → kept ≡ kept_alone ++ without_splices false behind
      → cond first joined (x ∷ kept) ≡ cond second joined_alone (x ∷ kept_alone) ++ without_splices false behind
  spliced_or_kept true true x joined kept joined_alone kept_alone same e other = e refl
  spliced_or_kept false false x joined kept joined_alone kept_alone same e other = ap (λ l. x ∷ l) other
  spliced_or_kept true false x joined kept joined_alone kept_alone same e other = cc
  spliced_or_kept false true x joined kept joined_alone kept_alone same e other = cc

  not_both : (a : Bool) → a && false ≡ false
  not_both true = refl
  not_both false = refl

  splices_before : (xs : List Spot) → without_splices false (xs ++ back ∷ newline ∷ behind) ≡ without_splices false xs ++ without_splices false behind
  splices_before [] = rw (is_back, is_newline)
  splices_before (x ∷ []) =
      let other : nat_eq back.byte 10 ≡ false = rw is_back refl in
      let same : nat_eq x.byte 92 && nat_eq back.byte 10 ≡ nat_eq x.byte 92 && false = ap (λ t. nat_eq x.byte 92 && t) other in
      spliced_or_kept (nat_eq x.byte 92 && nat_eq back.byte 10) (nat_eq x.byte 92 && false) x _ _ [] [] same (λ both. cc (same, both, not_both (nat_eq x.byte 92))) (splices_before [])
  splices_before (x ∷ y ∷ xs) =
      spliced_or_kept (nat_eq x.byte 92 && nat_eq y.byte 10) (nat_eq x.byte 92 && nat_eq y.byte 10) x _ _ (without_splices false xs) (without_splices false (y ∷ xs)) refl (λ both. splices_before xs) (splices_before (y ∷ xs))

map_append : (xs ys : List Spot) → bytes_of (xs ++ ys) ≡ bytes_of xs ++ bytes_of ys
map_append [] ys = refl
map_append (x ∷ xs) ys = ap (λ l. x.byte ∷ l) (map_append xs ys)

-- a file in two parts
placed_parts : (line col : ℕ) (before behind : List ℕ) → bytes_of (placed line col (before ++ behind)) ≡ bytes_of (placed 1 1 before ++ placed 1 1 behind)
placed_parts line col before behind =
    bytes_placed line col (before ++ behind) ∙ sym (map_append (placed 1 1 before) (placed 1 1 behind) ∙ ap (λ l. l ++ bytes_of (placed 1 1 behind)) (bytes_placed 1 1 before) ∙ ap (λ l. before ++ l) (bytes_placed 1 1 behind))

pub joins_lines : (line col : ℕ) (before behind : List ℕ) → bytes_of (spliced line col (before ++ 92 ∷ 10 ∷ behind)) ≡ bytes_of (spliced 1 1 before) ++ bytes_of (spliced 1 1 behind)
joins_lines line col before behind =
    let back : Spot = record { byte = 92; line = 1; col = 1 } in
    let newline : Spot = record { byte = 10; line = 1; col = 2 } in
    let rest = placed 2 1 behind in
    let front = placed 1 1 before in
    let text = placed_parts line col before (92 ∷ 10 ∷ behind) in
    of_bytes (placed line col (before ++ 92 ∷ 10 ∷ behind)) (front ++ back ∷ newline ∷ rest) text
    ∙ ap (λ l. bytes_of (without_splices false l)) (returns_before back newline refl refl rest front)
    ∙ ap bytes_of (splices_before back newline refl refl (without_returns rest) (without_returns front))
    ∙ map_append (spliced 1 1 before) (spliced 2 1 behind)
    ∙ ap (λ l. bytes_of (spliced 1 1 before) ++ l) (place_free 2 1 behind)
