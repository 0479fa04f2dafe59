-- a walk over steps from the newest to the oldest
use Rattle.std.proofs.Common.{◌≡◌, ℕ, ◌+◌, ◌-◌, ◌<◌, ◌≤◌, Bool, true, false, cond, List, [], ◌∷◌, ◌++◌, take, reverse, length, get_or, map, refl, sym, ap, ◌∙◌, arith, append_assoc, length-take}
use Rattle.std.proofs.lemmas.List.{take_more, reverse-append, length-reverse, map-append, get_or_default}
use Rattle.std.proofs.lemmas.Grind.{reverse_onto}
use Rattle.sb_term.specs.declared.steps.Step.{Step}
use Rattle.sb_term.specs.Pruning.{is_among, kept, renumbered, all_renumbered, pruned}

pub reverse-take_more : {X : Type 0} (xs : List X) (k : ℕ) (d : X) → k < length xs → reverse (take (k + 1) xs) ≡ get_or xs k d ∷ reverse (take k xs)
reverse-take_more xs k d h = ap reverse (take_more xs k d h) ∙ reverse-append (take k xs) (get_or xs k d ∷ [])

pub map-reverse : {X Y : Type 0} (f : X → Y) (xs : List X) → map f (reverse xs) ≡ reverse (map f xs)
map-reverse f [] = refl
map-reverse f (x ∷ xs) =
    ap (map f) (reverse_onto xs x []) ∙ map-append f (reverse xs) (x ∷ []) ∙ ap (λ ys. ys ++ f x ∷ []) (map-reverse f xs) ∙ sym (reverse_onto (map f xs) (f x) [])

pub kept_more : (base : ℕ) (need : List ℕ) (steps : List Step) (k : ℕ) (d : Step) → k < length steps →
    kept base need (reverse (take (k + 1) steps)) ≡ cond (is_among need (base + k)) ((base + k, get_or steps k d) ∷ kept base (need ++ (get_or steps k d).i ∷ (get_or steps k d).j ∷ []) (reverse (take k steps))) (kept base need (reverse (take k steps)))
kept_more base need steps k d h =
    let s = get_or steps k d in
    let ss = reverse (take k steps) in
    let n : length ss ≡ k = (let a = length-reverse (take k steps) in let b = length-take k steps in omega arith) in
    ap (kept base need) (reverse-take_more steps k d h)
    ∙ ap (λ (m : ℕ). cond (is_among need (base + m)) ((base + m, s) ∷ kept base (need ++ s.i ∷ s.j ∷ []) ss) (kept base need ss)) n

-- the same where k counts the steps that are left
pub kept_left : (base : ℕ) (need : List ℕ) (steps : List Step) (k : ℕ) (s : Step) → 0 < k → k ≤ length steps → s ≡ get_or steps (k - 1) s →
    kept base need (reverse (take k steps)) ≡ cond (is_among need (base + (k - 1))) ((base + (k - 1), s) ∷ kept base (need ++ s.i ∷ s.j ∷ []) (reverse (take (k - 1) steps))) (kept base need (reverse (take (k - 1) steps)))
kept_left base need steps k s p h e =
    let m : k ≡ (k - 1) + 1 = omega arith in
    ap (λ (n : ℕ). kept base need (reverse (take n steps))) m ∙ kept_more base need steps (k - 1) s (omega arith)
    ∙ ap (λ (t : Step). cond (is_among need (base + (k - 1))) ((base + (k - 1), t) ∷ kept base (need ++ t.i ∷ t.j ∷ []) (reverse (take (k - 1) steps))) (kept base need (reverse (take (k - 1) steps)))) (sym e)

pub kept_skipped : (base : ℕ) (need : List ℕ) (steps : List Step) (k : ℕ) → 0 < k → k ≤ length steps → is_among need (base + (k - 1)) ≡ false →
    kept base need (reverse (take k steps)) ≡ kept base need (reverse (take (k - 1) steps))
kept_skipped base need steps k p h e =
    let d : Step = record { a = 0; i = 0; b = 0; j = 0 } in
    let s = get_or steps (k - 1) d in
    kept_left base need steps k s p h (get_or_default steps (k - 1) d s (omega arith))
    ∙ ap (λ (b : Bool). cond b ((base + (k - 1), s) ∷ kept base (need ++ s.i ∷ s.j ∷ []) (reverse (take (k - 1) steps))) (kept base need (reverse (take (k - 1) steps)))) e

pub kept_taken : (base : ℕ) (need : List ℕ) (steps : List Step) (k : ℕ) (s : Step) → 0 < k → k ≤ length steps → s ≡ get_or steps (k - 1) s → is_among need (base + (k - 1)) ≡ true →
    kept base need (reverse (take k steps)) ≡ (base + (k - 1), s) ∷ kept base ((need ++ s.i ∷ []) ++ s.j ∷ []) (reverse (take (k - 1) steps))
kept_taken base need steps k s p h at e =
    kept_left base need steps k s p h at
    ∙ ap (λ (b : Bool). cond b ((base + (k - 1), s) ∷ kept base (need ++ s.i ∷ s.j ∷ []) (reverse (take (k - 1) steps))) (kept base need (reverse (take (k - 1) steps)))) e
    ∙ ap (λ (ns : List ℕ). (base + (k - 1), s) ∷ kept base ns (reverse (take (k - 1) steps))) (sym (append_assoc need (s.i ∷ []) (s.j ∷ [])))

pub length-kept : (base : ℕ) (need : List ℕ) (ss : List Step) → length (kept base need ss) ≤ length ss
length-kept base need [] = omega arith
length-kept base need (s ∷ ss) = by (is_among need (base + length ss)) (length-kept base (need ++ s.i ∷ s.j ∷ []) ss) (length-kept base need ss)
  where
    by : (b : Bool) → length (kept base (need ++ s.i ∷ s.j ∷ []) ss) ≤ length ss → length (kept base need ss) ≤ length ss
        → length (cond b ((base + length ss, s) ∷ kept base (need ++ s.i ∷ s.j ∷ []) ss) (kept base need ss)) ≤ length (s ∷ ss)
    by true h k = omega arith
    by false h k = omega arith

pub kept_fit : (base newest : ℕ) (steps : List Step) (ks : List (ℕ × Step)) → ks ≡ kept base (newest ∷ []) (reverse steps) → length ks ≤ length steps
kept_fit base newest steps ks e = omega (arith, ap length e, length-kept base (newest ∷ []) (reverse steps), length-reverse steps)

pub pruned_from : (base newest : ℕ) (steps : List Step) (ks : List (ℕ × Step)) → newest ≡ (base + length steps) - 1 → ks ≡ kept base (newest ∷ []) (reverse steps)
    → map (renumbered base ks) (reverse ks) ≡ pruned base (reverse steps)
pruned_from base newest steps ks n e =
    let m : newest ≡ (base + length (reverse steps)) - 1 = omega (arith, length-reverse steps) in
    map-reverse (renumbered base ks) ks
    ∙ ap (λ (xs : List (ℕ × Step)). reverse (all_renumbered base xs)) (e ∙ ap (λ (x : ℕ). kept base (x ∷ []) (reverse steps)) m)
