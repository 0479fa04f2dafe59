-- steps of which only those are kept that the last one needs are steps, and end in the same row
use Rattle.std.proofs.Common.{◌≡◌, ℕ, ◌+◌, ◌-◌, ◌<◌, ◌≤◌, Bool, true, false, cond, List, [], ◌∷◌, ◌++◌, map, reverse, length, pos, refl, sym, ap, ◌∙◌, arith, length-append, append_assoc, subst, ⊎_elim}
use Rattle.std.specs.Prelude.{nat_lt, count_by, ◌==◌}
use Rattle.std.proofs.lemmas.Bool.{cases_lt, eq-eqb, lt-ltb}
use Rattle.std.proofs.lemmas.List.{length-map}
use Rattle.std.proofs.lemmas.List.Sums.{sum_by-cons}
use Rattle.std.proofs.lemmas.List.Folds.{list_any-append}
use Rattle.sb_term.specs.declared.steps.Step.{Step}
use Rattle.sb_term.specs.Linear.{Linear, combined, is_within}
use Rattle.sb_term.specs.declared.row.Row.{Row}
use Rattle.sb_term.specs.declared.query.Query.{Query}
use Rattle.sb_term.specs.Rows.{negated}
use Rattle.sb_term.specs.Steps.{row_at, row_of, rows_of, first_rows, IsStep, AreChecked, IsAbsurd, Proves}
use Rattle.sb_term.specs.StepLaws.{length-rows_of, proves_from_newest}
use Rattle.sb_term.specs.Pruning.{is_among, kept, new_number, all_renumbered, pruned}
use Rattle.sb_term.proofs.Tracking.{Ends}
use Rattle.sb_term.proofs.Checked.{row_at-more, row_at-last}

-- each kept step has the number of its row, which is past the base rows and below that of the next newer one
abbrev pub AreFalling : ℕ → ℕ → List (ℕ × Step) → Type 0
AreFalling base bound [] = Unit {0}
AreFalling base bound (k ∷ ks) = (base ≤ k.0) × (k.0 < bound) × AreFalling base k.0 ks

-- kept steps are numbered by their places, the oldest first
abbrev pub AreNumbered : (ℕ → ℕ) → ℕ → List (ℕ × Step) → Type 0
AreNumbered number base [] = Unit {0}
AreNumbered number base (k ∷ ks) = (number k.0 ≡ base + length ks) × AreNumbered number base ks

AreFalling-wider : (base low high : ℕ) (ks : List (ℕ × Step)) → low ≤ high → AreFalling base low ks → AreFalling base high ks
AreFalling-wider base low high [] h f = tt
AreFalling-wider base low high (k ∷ ks) h f = (f.0, (let b : k.0 < low = f.1 in omega arith), f.2)

AreFalling-kept : (base : ℕ) (need : List ℕ) (ss : List Step) → AreFalling base (base + length ss) (kept base need ss)
AreFalling-kept base need [] = tt
AreFalling-kept base need (s ∷ ss) =
    by (is_among need (base + length ss)) (AreFalling-kept base (need ++ s.i ∷ s.j ∷ []) ss) (AreFalling-kept base need ss)
  where
    by : (b : Bool) → AreFalling base (base + length ss) (kept base (need ++ s.i ∷ s.j ∷ []) ss) → AreFalling base (base + length ss) (kept base need ss)
        → AreFalling base (base + length (s ∷ ss)) (cond b ((base + length ss, s) ∷ kept base (need ++ s.i ∷ s.j ∷ []) ss) (kept base need ss))
    by true f g = (omega arith, omega arith, f)
    by false f g = AreFalling-wider base (base + length ss) (base + length (s ∷ ss)) (kept base need ss) (omega arith) g

-- how many numbers are below n
abbrev below : ℕ → List (ℕ × Step) → ℕ
below n ks = count_by (λ k. nat_lt k.0 n) ks

below-cons : (n : ℕ) (k : ℕ × Step) (ks : List (ℕ × Step)) → below n (k ∷ ks) ≡ cond (nat_lt k.0 n) 1 0 + below n ks
below-cons n k ks = sum_by-cons (λ (x : ℕ × Step). cond (nat_lt x.0 n) 1 0) k ks

all_below : (base bound n : ℕ) (ks : List (ℕ × Step)) → AreFalling base bound ks → bound ≤ n → below n ks ≡ length ks
all_below base bound n [] f h = refl
all_below base bound n (k ∷ ks) f h =
    let b : k.0 < bound = f.1 in
    let e = below-cons n k ks in
    let r = all_below base k.0 n ks f.2 (omega arith) in
    grind arith

-- newer steps do not count below an older one
abbrev NoneBelow : ℕ → List (ℕ × Step) → Type 0
NoneBelow n [] = Unit {0}
NoneBelow n (k ∷ ks) = (n ≤ k.0) × NoneBelow n ks

NoneBelow-lower : (m n : ℕ) (ks : List (ℕ × Step)) → m ≤ n → NoneBelow n ks → NoneBelow m ks
NoneBelow-lower m n [] h a = tt
NoneBelow-lower m n (k ∷ ks) h a = ((let b : n ≤ k.0 = a.0 in omega arith), NoneBelow-lower m n ks h a.1)

NoneBelow-push : (n : ℕ) (ks : List (ℕ × Step)) (k : ℕ × Step) → NoneBelow n ks → n ≤ k.0 → NoneBelow n (ks ++ k ∷ [])
NoneBelow-push n [] k a h = (h, tt)
NoneBelow-push n (x ∷ ks) k a h = (a.0, NoneBelow-push n ks k a.1 h)

below-append : (n : ℕ) (newer ks : List (ℕ × Step)) → NoneBelow n newer → below n (newer ++ ks) ≡ below n ks
below-append n [] ks a = refl
below-append n (k ∷ newer) ks a =
    let b : n ≤ k.0 = a.0 in
    let e = below-cons n k (newer ++ ks) in
    let r = below-append n newer ks a.1 in
    grind arith

numbered-from : (base : ℕ) (all newer ks : List (ℕ × Step)) (bound : ℕ) → all ≡ newer ++ ks → NoneBelow bound newer → AreFalling base bound ks → AreNumbered (new_number base all) base ks
numbered-from base all newer [] bound e a f = tt
numbered-from base all newer (k ∷ ks) bound e a f =
    let b : k.0 < bound = f.1 in
    let l : base ≤ k.0 = f.0 in
    let c = ap (below k.0) e in
    let d = below-append k.0 newer (k ∷ ks) (NoneBelow-lower k.0 bound newer (omega arith) a) in
    let n = below-cons k.0 k ks in
    let r = all_below base k.0 k.0 ks f.2 (omega arith) in
    let whole : below k.0 all ≡ length ks = grind arith in (
      (grind arith),
      numbered-from base all (newer ++ k ∷ []) ks k.0 (e ∙ sym (append_assoc newer (k ∷ []) ks)) (NoneBelow-push k.0 newer k (NoneBelow-lower k.0 bound newer (omega arith) a) (omega arith)) f.2,
    )

AreNumbered-kept : (base : ℕ) (need : List ℕ) (ss : List Step) → AreNumbered (new_number base (kept base need ss)) base (kept base need ss)
AreNumbered-kept base need ss = numbered-from base (kept base need ss) [] (kept base need ss) (base + length ss) refl tt (AreFalling-kept base need ss)

module _ (first : List Linear) (number : ℕ → ℕ) (low : (n : ℕ) → n < length first → number n ≡ n) where
  abbrev numbered : ℕ × Step → Step
  numbered k = record { a = k.1.a; i = number k.1.i; b = k.1.b; j = number k.1.j }

  -- the row of a number stands under its new number
  record IsSame (ss ps : List Step) (n : ℕ) : Type 0 where
    stands : number n < length (rows_of first ps)
    is : row_at (rows_of first ps) (number n) ≡ row_at (rows_of first ss) n

  record IsPruned (need : List ℕ) (ss ps : List Step) : Type 0 where
    checked : AreChecked first ps
    same : (n : ℕ) → is_among need n ≡ true → n < length first + length ss → IsSame ss ps n

  among_left : (need more : List ℕ) (n : ℕ) → is_among need n ≡ true → is_among (need ++ more) n ≡ true
  among_left need more n h = let e = list_any-append (λ m. m == n) need more in grind arith

  among_right : (need more : List ℕ) (n : ℕ) → is_among more n ≡ true → is_among (need ++ more) n ≡ true
  among_right need more n h = let e = list_any-append (λ m. m == n) need more in grind arith

  among_first : (i j : ℕ) → is_among (i ∷ j ∷ []) i ≡ true
  among_first i j = let e = eq-eqb i i refl in grind arith

  among_second : (i j : ℕ) → is_among (i ∷ j ∷ []) j ≡ true
  among_second i j = let e = eq-eqb j j refl in grind arith

  IsSame-skipped : (s : Step) (ss ps : List Step) (n : ℕ) → n < length first + length ss → IsSame ss ps n → IsSame (s ∷ ss) ps n
  IsSame-skipped s ss ps n h e = record {
    stands = e.stands;
    is = e.is ∙ sym (row_at-more (rows_of first ss) (row_of (rows_of first ss) s) n (let l = length-rows_of first ss in omega arith));
  }

  IsSame-more : (s t : Step) (ss ps : List Step) (n : ℕ) → n < length first + length ss → IsSame ss ps n → IsSame (s ∷ ss) (t ∷ ps) n
  IsSame-more s t ss ps n h e = record {
    stands = let l = length-append (rows_of first ps) (row_of (rows_of first ps) t ∷ []) in let b = e.stands in omega arith;
    is = row_at-more (rows_of first ps) (row_of (rows_of first ps) t) (number n) e.stands ∙ (IsSame-skipped s ss ps n h e).is;
  }

  IsSame-last : (s t : Step) (ss ps : List Step) (n : ℕ) → n ≡ length first + length ss → number n ≡ length first + length ps → row_of (rows_of first ps) t ≡ row_of (rows_of first ss) s → IsSame (s ∷ ss) (t ∷ ps) n
  IsSame-last s t ss ps n h k e =
      let old = rows_of first ss in
      let new = rows_of first ps in
      let m : number n ≡ length new = (let l = length-rows_of first ps in omega arith) in
      let o : n ≡ length old = (let l = length-rows_of first ss in omega arith) in
      record {
        stands = let l = length-append new (row_of new t ∷ []) in omega arith;
        is = ap (row_at (new ++ row_of new t ∷ [])) m ∙ row_at-last new (row_of new t) ∙ e
            ∙ sym (ap (row_at (old ++ row_of old s ∷ [])) o ∙ row_at-last old (row_of old s));
      }

  row_of-numbered : (s : Step) (ss ps : List Step) (n : ℕ) → IsSame ss ps s.i → IsSame ss ps s.j → row_of (rows_of first ps) (numbered (n, s)) ≡ row_of (rows_of first ss) s
  row_of-numbered s ss ps n ei ej =
      let old = rows_of first ss in
      ap (λ (t : Linear). combined (pos s.a) t (pos s.b) (row_at (rows_of first ps) (number s.j)) (pos 0)) ei.is
      ∙ ap (λ (t : Linear). combined (pos s.a) (row_at old s.i) (pos s.b) t (pos 0)) ej.is

  IsPruned-skipped : (need : List ℕ) (s : Step) (ss ps : List Step) → is_among need (length first + length ss) ≡ false → IsPruned need ss ps → IsPruned need (s ∷ ss) ps
  IsPruned-skipped need s ss ps h p = record {
    checked = p.checked;
    same = λ n a l.
        ⊎_elim (λ (b : n < length first + length ss). IsSame-skipped s ss ps n b (p.same n a b))
        (λ (b : length first + length ss ≤ n). let e : n ≡ length first + length ss = omega arith in let f = ap (is_among need) e in absurd (cc))
        (cases_lt n (length first + length ss));
  }

  IsPruned-kept : (need : List ℕ) (s : Step) (ss ps : List Step) → IsStep (rows_of first ss) s → number (length first + length ss) ≡ length first + length ps → IsPruned (need ++ s.i ∷ s.j ∷ []) ss ps → IsPruned need (s ∷ ss) (numbered (length first + length ss, s) ∷ ps)
  IsPruned-kept need s ss ps h k p =
      let m = length first + length ss in
      let t = numbered (m, s) in
      let l = length-rows_of first ss in
      let bi : s.i < length first + length ss = (let b = h.i_stands in omega arith) in
      let bj : s.j < length first + length ss = (let b = h.j_stands in omega arith) in
      let ei = p.same s.i (among_right need (s.i ∷ s.j ∷ []) s.i (among_first s.i s.j)) bi in
      let ej = p.same s.j (among_right need (s.i ∷ s.j ∷ []) s.j (among_second s.i s.j)) bj in
      let e = row_of-numbered s ss ps m ei ej in
      record {
        checked = (
          record {
            a_positive = h.a_positive;
            a_narrow = h.a_narrow;
            b_positive = h.b_positive;
            b_narrow = h.b_narrow;
            i_stands = ei.stands;
            j_stands = ej.stands;
            within = ap is_within e ∙ h.within;
          },
          p.checked,
        );
        same = λ n a b.
            ⊎_elim (λ (c : n < length first + length ss). IsSame-more s t ss ps n c (p.same n (among_left need (s.i ∷ s.j ∷ []) n a) c))
            (λ (c : length first + length ss ≤ n). let o : n ≡ length first + length ss = omega arith in IsSame-last s t ss ps n o (ap number o ∙ k) e)
            (cases_lt n (length first + length ss));
      }

  prune : (need : List ℕ) (ss : List Step) → AreChecked first ss → AreNumbered number (length first) (kept (length first) need ss) → IsPruned need ss (map numbered (kept (length first) need ss))
  prune need [] c a = record { checked = tt; same = λ n h l. let b : n < length first = omega arith in record { stands = (let e = low n b in omega arith); is = ap (row_at first) (low n b) } }
  prune need (s ∷ ss) c a =
      by (is_among need (length first + length ss)) refl a (prune (need ++ s.i ∷ s.j ∷ []) ss c.1) (prune need ss c.1)
    where
      older : List (ℕ × Step)
      older = kept (length first) (need ++ s.i ∷ s.j ∷ []) ss

      by : (b : Bool) → is_among need (length first + length ss) ≡ b → AreNumbered number (length first) (cond b ((length first + length ss, s) ∷ older) (kept (length first) need ss))
          → (AreNumbered number (length first) older → IsPruned (need ++ s.i ∷ s.j ∷ []) ss (map numbered older))
          → (AreNumbered number (length first) (kept (length first) need ss) → IsPruned need ss (map numbered (kept (length first) need ss)))
          → IsPruned need (s ∷ ss) (map numbered (cond b ((length first + length ss, s) ∷ older) (kept (length first) need ss)))
      by true e a f g = IsPruned-kept need s ss (map numbered older) c.0 (let l = length-map older numbered in let k = a.0 in omega arith) (f a.1)
      by false e a f g = IsPruned-skipped need s ss (map numbered (kept (length first) need ss)) e (g a)

  same_row : (s t : Step) (ss ps : List Step) (n : ℕ) → n ≡ length first + length ss → number n ≡ length first + length ps → IsSame (s ∷ ss) (t ∷ ps) n → row_of (rows_of first ps) t ≡ row_of (rows_of first ss) s
  same_row s t ss ps n h k e =
      let old = rows_of first ss in
      let new = rows_of first ps in
      let m : number n ≡ length new = (let l = length-rows_of first ps in omega arith) in
      let o : n ≡ length old = (let l = length-rows_of first ss in omega arith) in
      sym (ap (row_at (new ++ row_of new t ∷ [])) m ∙ row_at-last new (row_of new t)) ∙ e.is ∙ ap (row_at (old ++ row_of old s ∷ [])) o ∙ row_at-last old (row_of old s)

  -- the newest step is kept, and ends the kept ones in the same row
  pub ends_pruned : (need : List ℕ) (s : Step) (ss : List Step) → is_among need (length first + length ss) ≡ true → Ends first (s ∷ ss)
      → AreNumbered number (length first) (kept (length first) need (s ∷ ss)) → Ends first (map numbered (kept (length first) need (s ∷ ss)))
  ends_pruned need s ss h e a =
      by (is_among need (length first + length ss)) h a (prune need (s ∷ ss) e.0 a)
    where
      older : List (ℕ × Step)
      older = kept (length first) (need ++ s.i ∷ s.j ∷ []) ss

      by : (b : Bool) → b ≡ true → AreNumbered number (length first) (cond b ((length first + length ss, s) ∷ older) (kept (length first) need ss))
          → IsPruned need (s ∷ ss) (map numbered (cond b ((length first + length ss, s) ∷ older) (kept (length first) need ss)))
          → Ends first (map numbered (cond b ((length first + length ss, s) ∷ older) (kept (length first) need ss)))
      by true k a p =
          let n = length first + length ss in
          let ps = map numbered older in
          let m : number n ≡ length first + length ps = (let l = length-map older numbered in let c = a.0 in omega arith) in
          (p.checked, subst IsAbsurd (sym (same_row s (numbered (n, s)) ss ps n refl m (p.same n h (omega arith)))) e.1)
      by false k a p = absurd (cc)

proves_from_ends : (q : Query) (ss : List Step) → is_within (negated q.goal.term) ≡ true → Ends (first_rows q) ss → Proves q (reverse ss)
proves_from_ends q [] w e = absurd e
proves_from_ends q (s ∷ ss) w e = proves_from_newest q s ss w e.0 e.1

low_number : (base : ℕ) (ks : List (ℕ × Step)) (n : ℕ) → n < base → new_number base ks n ≡ n
low_number base ks n h = let e : nat_lt n base ≡ true = lt-ltb n base h in grind arith

pub length-first_rows : (q : Query) → length (first_rows q) ≡ length q.facts + 1
length-first_rows q = omega (arith, length-append (map (λ f. f.term) q.facts) (negated q.goal.term ∷ []), length-map q.facts (λ (f : Row). f.term))

pub proves_pruned : (q : Query) (ss : List Step) → is_within (negated q.goal.term) ≡ true → Ends (first_rows q) ss → Proves q (pruned (length q.facts + 1) ss)
proves_pruned q [] w e = absurd e
proves_pruned q (s ∷ ss) w e =
    let base = length (first_rows q) in
    let need : List ℕ = ((base + length (s ∷ ss)) - 1) ∷ [] in
    let ks = kept base need (s ∷ ss) in
    let last : is_among need (base + length ss) ≡ true = (let k = eq-eqb ((base + length (s ∷ ss)) - 1) (base + length ss) (omega arith) in grind arith) in
    let p : Proves q (pruned base (s ∷ ss)) =
    proves_from_ends q (all_renumbered base ks) w (ends_pruned (first_rows q) (new_number base ks) (low_number base ks) need s ss last e (AreNumbered-kept base need (s ∷ ss))) in
    subst (λ b. Proves q (pruned b (s ∷ ss))) (length-first_rows q) p
