-- What a list of parts gives, one part after the other: one more part adds its own.
use Rattle.std.specs.Prelude.{ℕ, ◌+◌, ◌≡◌, ◌<◌, List, [], ◌∷◌, ◌++◌, take, length, get_or}
use Rattle.std.proofs.Common.{ap, sym, ◌∙◌, append_assoc, add-one}
use Rattle.std.proofs.Math.Seq.{take-suc}
use Rattle.std.proofs.lemmas.List.{append-nil}

module _ {A : Type 0} (whole : List A → List ℕ) (one : A → List ℕ) (none : whole [] ≡ []) (more : (x : A) (xs : List A) → whole (x ∷ xs) ≡ one x ++ whole xs) where
  behind_all : (xs : List A) (y : A) → whole (xs ++ y ∷ []) ≡ whole xs ++ one y
  behind_all [] y = more y [] ∙ ap (λ l. one y ++ l) none ∙ append-nil (one y) ∙ sym (ap (λ l. l ++ one y) none)
  behind_all (x ∷ xs) y =
      more x (xs ++ y ∷ []) ∙ ap (λ l. one x ++ l) (behind_all xs y) ∙ sym (append_assoc (one x) (whole xs) (one y)) ∙ sym (ap (λ l. l ++ one y) (more x xs))

  pub with_one : (xs : List A) (k : ℕ) (x : A) → k < length xs → x ≡ get_or xs k x → whole (take (k + 1) xs) ≡ whole (take k xs) ++ one x
  with_one xs k x within here =
      ap (λ n. whole (take n xs)) (add-one k) ∙ ap whole (take-suc xs k x within) ∙ behind_all (take k xs) (get_or xs k x) ∙ ap (λ y. whole (take k xs) ++ one y) (sym here)
