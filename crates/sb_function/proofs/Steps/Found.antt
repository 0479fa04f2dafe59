-- The search of a parameter by its name, from a position on.
use Rattle.std.proofs.Common.{◌≡◌, ◌+◌, ◌<◌, ◌≤◌, ℕ, suc, length, slice_index_or, drop-cons, drop_of_length-le, true, false, List, [], ◌∷◌, drop, Option, Some, None, if◌then◌else◌, refl, sym, ap, ◌∙◌, arith}
use Rattle.sb_base.specs.declared.interning.Name.{Name}
use Rattle.sb_function.specs.declared.syntax.Param.{Param}
use Rattle.sb_function.specs.declared.syntax.ParamKind.{ParamKind}
use Rattle.sb_function.specs.Grammar.{same_name}
use Rattle.sb_function.specs.Statements.{found, one_on}

-- the position counted from further back
abbrev pub shifted : ℕ → Option (ℕ × ParamKind) → Option (ℕ × ParamKind)
shifted n None = None
shifted n (Some f) = Some (n + f.0, f.1)

pub shifted_once : (n : ℕ) (o : Option (ℕ × ParamKind)) → shifted n (one_on o) ≡ shifted (n + 1) o
shifted_once n None = refl
shifted_once n (Some f) = ap (λ z. Some (z, f.1)) (let same : n + suc f.0 ≡ n + 1 + f.0 = omega arith in same)

pub shifted_none : (o : Option (ℕ × ParamKind)) → shifted 0 o ≡ o
shifted_none None = refl
shifted_none (Some f) = ap (λ z. Some (z, f.1)) (let same : 0 + f.0 ≡ f.0 = omega arith in same)

pub found_here : (n : Name) (p : Param) (rest : List Param) → same_name n p.name ≡ true → found n (p ∷ rest) ≡ Some (0, p.kind)
unfolding found
found_here n p rest h = ap (λ b. if b then Some (0, p.kind) else one_on (found n rest)) h

pub found_later : (n : Name) (p : Param) (rest : List Param) → same_name n p.name ≡ false → found n (p ∷ rest) ≡ one_on (found n rest)
unfolding found
found_later n p rest h = ap (λ b. if b then Some (0, p.kind) else one_on (found n rest)) h

pub found_nowhere : (n : Name) → found n [] ≡ None
unfolding found
found_nowhere n = refl

-- ---- the loop that searches

one_off : (ps : List Param) (k : ℕ) (d : Param) → k < length ps → drop k ps ≡ slice_index_or ps k d ∷ drop (k + 1) ps
one_off ps k d less = drop-cons ps k d less ∙ ap (λ z. slice_index_or ps k d ∷ drop z ps) (let next : suc k ≡ k + 1 = omega arith in next)

pub found_hit : (n : Name) (ps : List Param) (k : ℕ) (d : Param) → k < length ps → found n ps ≡ shifted k (found n (drop k ps)) → same_name n (slice_index_or ps k d).name ≡ true → Some (k, (slice_index_or ps k d).kind) ≡ found n ps
found_hit n ps k d less inv h =
    ap (λ z. Some (z, (slice_index_or ps k d).kind)) (let same : k ≡ k + 0 = omega arith in same)
    ∙ ap (shifted k) (sym (ap (found n) (one_off ps k d less) ∙ found_here n (slice_index_or ps k d) (drop (k + 1) ps) h)) ∙ sym inv

pub found_miss : (n : Name) (ps : List Param) (k : ℕ) (d : Param) → k < length ps → found n ps ≡ shifted k (found n (drop k ps)) → same_name n (slice_index_or ps k d).name ≡ false → found n ps ≡ shifted (k + 1) (found n (drop (k + 1) ps))
found_miss n ps k d less inv h =
    inv ∙ ap (shifted k) (ap (found n) (one_off ps k d less) ∙ found_later n (slice_index_or ps k d) (drop (k + 1) ps) h) ∙ shifted_once k (found n (drop (k + 1) ps))

pub found_end : (n : Name) (ps : List Param) (k : ℕ) → length ps ≤ k → found n ps ≡ shifted k (found n (drop k ps)) → None ≡ found n ps
found_end n ps k most inv = ap (shifted k) (sym (ap (found n) (drop_of_length-le ps most) ∙ found_nowhere n)) ∙ sym inv
