-- What the reader of conditions gives is the truth of a line, or the position at which it is refused; and the tokens of a line, piece by piece.
use Rattle.std.proofs.Common.{◌≡◌, ◌-◌, ℕ, Bool, false, List, [], ◌∷◌, ◌++◌, length, slice_get, get_or, ◌<◌, Some, Result, Ok, Err, unwrap_or, IfOk, IfErr, refl, sym, ap, ◌∙◌, subst, subst₂, append-nil, inl, inr, arith, length-append}
use Rattle.std.proofs.lemmas.Option.{slice_get-get_or}
use Rattle.sb_base.proofs.Texts.{push_places}
use Rattle.sb_lex.specs.declared.piece.PpToken.{PpToken}
use Rattle.sb_parse.specs.Parser.{Outcome, done, stop, ended, whole}
use Rattle.sb_parse.specs.Lawful.{Lawful}
use Rattle.sb_parse.specs.Read.{IsRefused}
use Rattle.sb_parse.proofs.Reading.{refused, whole_refused}
use Rattle.sb_cond.specs.declared.arithmetic.Operand.{Operand}
use Rattle.sb_cond.specs.declared.expression.Entry.TheVariants as entry
use Rattle.sb_cond.specs.declared.sign.ConditionToken.{ConditionToken}
use Rattle.sb_cond.specs.declared.sign.Sign.{Sign}
use Rattle.sb_cond.specs.Arithmetic.{is_true, fault_of}
use Rattle.sb_cond.specs.Condition.{HasSignIn, IsTokenOf, IsCondition, HasTruth, IsRefusedAt, no_value, no_condition, whole as whole_fault, cut, truth_of, judged}
use Rattle.sb_cond.specs.Readers.{Reader, fault_in, sequence, below}
use Rattle.sb_cond.proofs.Cutting.{CutAt, cut_off}
use Rattle.sb_cond.proofs.Laws.{goes, lawful}

abbrev pub reader : Reader
reader = sequence false (below 200)

pub reads : Lawful IsCondition (goes entry.Whole) reader
reads = lawful 200 entry.Whole

-- a text that was read to its end
whole_text : (ts : List ConditionToken) (a : Operand) → reader ts ≡ done a [] → IsCondition ts a
whole_text ts a h = let u = reads.sound ts a [] h in subst (λ l. IsCondition l a) (sym (u.split ∙ append-nil u.front)) u.is

has_truth : (ts : List ConditionToken) (b : Bool) → judged (length ts) (reader ts) ≡ Ok b → HasTruth ts b
has_truth ts b h = go (reader ts) refl h
  where
    valued : (a : Operand) (v : Result ℕ ℕ) → a.value ≡ v → IsCondition ts a → truth_of v [] (length ts) ≡ Ok b → HasTruth ts b
    valued a (Ok n) e is h = record { operand = a; value = n; is = is; valued = e; truth = (let same : is_true n ≡ b = cc h in sym same) }
    valued a (Err at) e is h = absurd (cc h)

    more : (v : Result ℕ ℕ) (t : ConditionToken) (rest : List ConditionToken) → truth_of v (t ∷ rest) (length ts) ≡ Ok b → HasTruth ts b
    more (Ok n) t rest h = absurd (cc h)
    more (Err at) t rest h = absurd (cc h)

    go : (o : Outcome ConditionToken Operand) → reader ts ≡ o → judged (length ts) o ≡ Ok b → HasTruth ts b
    go (done a []) e h = valued a a.value refl (whole_text ts a e) h
    go (done a (t ∷ rest)) e h = more a.value t rest h
    go (stop n left) e h = absurd (cc h)

pub only_truth : (ts : List ConditionToken) (b : Bool) → HasTruth ts b → judged (length ts) (reader ts) ≡ Ok b
only_truth ts b t =
    let all : reader ts ≡ done t.operand [] = ap reader (sym (append-nil ts)) ∙ reads.complete ts t.operand [] t.is refl in
    ap (judged (length ts)) all ∙ ap (λ v. truth_of v [] (length ts)) t.valued ∙ ap Ok (sym t.truth)

-- how much stands before what is left
pub size : (front bad ts : List ConditionToken) → ts ≡ front ++ bad → length ts - length bad ≡ length front
size front bad ts split = omega (arith, ap length split, length-append front bad)

-- what stands behind a condition is refused there, unless the condition has no value
fault_first : (v : Result ℕ ℕ) (t : ConditionToken) (rest : List ConditionToken) (count : ℕ) → truth_of v (t ∷ rest) count ≡ Err (unwrap_or (fault_of v) (count - length (t ∷ rest)))
fault_first (Ok n) t rest count = refl
fault_first (Err at) t rest count = refl

is_refused_at : (ts : List ConditionToken) (at : ℕ) → judged (length ts) (reader ts) ≡ Err at → IsRefusedAt ts at
is_refused_at ts at h = go (reader ts) refl h
  where
    valued : (a : Operand) (v : Result ℕ ℕ) → a.value ≡ v → IsCondition ts a → truth_of v [] (length ts) ≡ Err at → IsRefusedAt ts at
    valued a (Ok n) e is h = absurd (cc h)
    valued a (Err i) e is h = no_value a at is (e ∙ (let same : i ≡ at = cc h in ap Err same))

    go : (o : Outcome ConditionToken Operand) → reader ts ≡ o → judged (length ts) o ≡ Err at → IsRefusedAt ts at
    go (done a []) e h = valued a a.value refl (whole_text ts a e) h
    go (done a (t ∷ rest)) e h =
        let u = reads.sound ts a (t ∷ rest) e in
        let behind : whole 0 reader ts ≡ stop 0 (length (t ∷ rest)) = ap (ended 0) e in
        let same : Err (unwrap_or (fault_of a.value) (length ts - length (t ∷ rest))) ≡ Err at = sym (fault_first a.value t rest (length ts)) ∙ h in
        subst (IsRefusedAt ts) (cc (same, size u.front (t ∷ rest) ts u.split)) (no_condition u.front (t ∷ rest) (fault_of a.value) u.split (whole_refused reads 0 ts 0 (length (t ∷ rest)) behind) (whole_fault u.front a u.is))
    go (stop n left) e h =
        let c : CutAt 200 _ ts n left = cut_off 200 ts n left e in
        let same : Err (unwrap_or (fault_in n) (length ts - left)) ≡ Err at = h in
        subst (IsRefusedAt ts) (cc (same, c.left_is, size c.front c.bad ts c.split))
        (no_condition c.front c.bad (fault_in n) c.split (subst (IsRefused IsCondition ts) c.left_is (refused reads ts n left e)) (cut c.front (fault_in n) c.is))

pub judged_ok : (ts : List ConditionToken) (r : Result Bool ℕ) → r ≡ judged (length ts) (reader ts) → IfOk r (HasTruth ts)
judged_ok ts (Ok b) h = has_truth ts b (sym h)
judged_ok ts (Err at) h = tt

pub judged_err : (ts : List ConditionToken) (r : Result Bool ℕ) → r ≡ judged (length ts) (reader ts) → IfErr r (IsRefusedAt ts)
judged_err ts (Ok b) h = tt
judged_err ts (Err at) h = is_refused_at ts at (sym h)

-- ---- the tokens of a line

-- one token more
pub one_more_token : (texts : List (List ℕ)) (line : List PpToken) (tokens new : List ConditionToken) (i : ℕ) (other : PpToken) (sign : Sign)
    → HasSignIn (get_or line i other).kind (slice_get texts (get_or line i other).text.0) sign → i < length line → length tokens ≡ i → new ≡ tokens ++ record { sign = sign; at = i } ∷ []
    → ((k : ℕ) (p : PpToken) (t : ConditionToken) → slice_get line k ≡ Some p → slice_get tokens k ≡ Some t → IsTokenOf texts k p t)
    → (k : ℕ) (p : PpToken) (t : ConditionToken) → slice_get line k ≡ Some p → slice_get new k ≡ Some t → IsTokenOf texts k p t
one_more_token texts line tokens new i other sign is within count pushed each k p t at_line at_tokens =
    elim (push_places tokens (record { sign = sign; at = i }) t k (ap (λ l. slice_get l k) (sym pushed) ∙ at_tokens)) [
      | inl there ↦ each k p t at_line there
      | inr last ↦
          let place : k ≡ i = last.0 ∙ count in
          let same : Some (get_or line i other) ≡ Some p = sym (slice_get-get_or line i other within) ∙ ap (slice_get line) (sym place) ∙ at_line in
          let token : IsTokenOf texts i (get_or line i other) (record { sign = sign; at = i }) = record { at = refl; sign = is } in
          subst (λ n. IsTokenOf texts n p t) (sym place) (subst₂ (IsTokenOf texts i) (cc same) last.1 token)
    ]
