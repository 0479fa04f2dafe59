-- the steps that the last one needs, renumbered
use Rattle.std.specs.Prelude.{ℕ, ◌+◌, ◌-◌, Bool, ◌==◌, List, [], ◌∷◌, ◌++◌, nat_lt, length, map, reverse, count_by, if◌then◌else◌}
use Rattle.std.specs.List.{list_any}
use Rattle.sb_term.specs.declared.steps.Step.{Step}

abbrev pub is_among : List ℕ → ℕ → Bool
is_among need n = list_any (λ m. m == n) need

-- of steps, the newest first, after base rows: those whose row is needed, each with its row's number.
-- A step that is needed needs the two rows that it names.
abbrev pub kept : ℕ → List ℕ → List Step → List (ℕ × Step)
kept base need [] = []
kept base need (s ∷ ss) =
    if is_among need (base + length ss) then (base + length ss, s) ∷ kept base (need ++ s.i ∷ s.j ∷ []) ss
    else kept base need ss

-- the first base rows keep their numbers, and the row of a step comes after those of the kept steps before it
abbrev pub new_number : ℕ → List (ℕ × Step) → ℕ → ℕ
new_number base ks n = if nat_lt n base then n else base + count_by (λ k. nat_lt k.0 n) ks

abbrev pub renumbered : ℕ → List (ℕ × Step) → ℕ × Step → Step
renumbered base ks k = record { a = k.1.a; i = new_number base ks k.1.i; b = k.1.b; j = new_number base ks k.1.j }

abbrev pub all_renumbered : ℕ → List (ℕ × Step) → List Step
all_renumbered base ks = map (renumbered base ks) ks

-- of steps, the newest first, those that the newest one needs, in the order in which they were taken
abbrev pub pruned : ℕ → List Step → List Step
pruned base ss = reverse (all_renumbered base (kept base (((base + length ss) - 1) ∷ []) ss))
