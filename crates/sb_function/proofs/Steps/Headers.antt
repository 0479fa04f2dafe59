-- What the steps of the reader of parameters in code compute.
use Rattle.std.proofs.Common.{◌≡◌, ◌<◌, ◌≤◌, ℕ, suc, Bool, true, false, not, ◌||◌, ◌&&◌, List, [], ◌∷◌, ◌++◌, length, take, drop, if◌then◌else◌, refl, ap, ◌∙◌, subst, arith}
use Rattle.sb_base.specs.declared.interning.Name.{Name}
use Rattle.sb_function.specs.Grammar.{same_name, is_among}
use Rattle.sb_parse.specs.Parser.{taken}
use Rattle.sb_function.specs.declared.lexeme.Piece.{Piece}
use Rattle.sb_function.specs.Marks.{misplaced, name_of, next_lexeme}
use Rattle.sb_function.specs.Reads.{given}
use Rattle.sb_function.specs.Params.{Seen, is_known, pending_with, without, place_of, name_if, named}
use Rattle.sb_function.proofs.Steps.Marks.{taken_given}

or_false : (p : Bool) → (p || false) ≡ p
or_false true = refl
or_false false = refl

or_swap : (p s : Bool) → (p || s) ≡ (s || p)
or_swap true true = refl
or_swap true false = refl
or_swap false true = refl
or_swap false false = refl

pub among_with : (seen : Seen) (size n : Name) → (is_among n seen.pending || (not (is_known seen size) && same_name n size)) ≡ is_among n (pending_with seen size)
among_with seen size n = go (is_known seen size)
  where
    go : (k : Bool) → (is_among n seen.pending || (not k && same_name n size)) ≡ is_among n (if k then seen.pending else size ∷ seen.pending)
    go true = or_false (is_among n seen.pending)
    go false = or_swap (is_among n seen.pending) (same_name n size)

pub stays_whole : (n : Name) (xs : List Name) → length xs ≤ place_of n xs → xs ≡ without n xs
stays_whole n [] h = refl
stays_whole n (x ∷ xs) h = go (same_name n x) h (stays_whole n xs)
  where
    go : (b : Bool) → suc (length xs) ≤ (if b then 0 else suc (place_of n xs)) → (length xs ≤ place_of n xs → xs ≡ without n xs) → x ∷ xs ≡ (if b then xs else x ∷ without n xs)
    go true k later = absurd (omega arith)
    go false k later = ap (λ z. x ∷ z) (later (omega arith))

pub one_goes : (n : Name) (xs : List Name) → place_of n xs < length xs → take (place_of n xs) xs ++ drop (suc (place_of n xs)) xs ≡ without n xs
one_goes n [] h = absurd (omega arith)
one_goes n (x ∷ xs) h = go (same_name n x) h (one_goes n xs)
  where
    go : (b : Bool) → (if b then 0 else suc (place_of n xs)) < suc (length xs) → (place_of n xs < length xs → take (place_of n xs) xs ++ drop (suc (place_of n xs)) xs ≡ without n xs)
        → take (if b then 0 else suc (place_of n xs)) (x ∷ xs) ++ drop (suc (if b then 0 else suc (place_of n xs))) (x ∷ xs) ≡ (if b then xs else x ∷ without n xs)
    go true k later = refl
    go false k later = ap (λ z. x ∷ z) (later (omega arith))

pub goes_at : (n : Name) (xs ys : List Name) (k : ℕ) → k ≡ place_of n xs → k < length xs → ys ≡ take k xs ++ drop (suc k) xs → ys ≡ without n xs
goes_at n xs ys k e less items =
    items ∙ ap (λ z. take z xs ++ drop (suc z) xs) e ∙ one_goes n xs (subst (λ z. z < length xs) e less)

pub stays_at : (n : Name) (xs : List Name) (k : ℕ) → k ≡ place_of n xs → length xs ≤ k → xs ≡ without n xs
stays_at n xs k e most = stays_whole n xs (subst (λ z. length xs ≤ z) e most)

-- the name that the next word is, if it passes
pub named_given : (test : Name → Bool) (ts : List Piece) → taken misplaced (named test) ts ≡ given (name_if test (name_of (next_lexeme ts))) ts
named_given test ts = taken_given (λ l. name_if test (name_of l)) ts refl
