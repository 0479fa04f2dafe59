-- laws of questions: what a proved answer says at each point where the facts hold
use Rattle.std.proofs.Common.{◌≡◌, ℕ, zero, List, [], ◌∷◌, slice_get, filter, cond, ℤ, pos, ◌≤ℤ◌, Bool, true, false, int_le, if◌then◌else◌, Option, Some, None, refl, arith}
use Rattle.std.proofs.lemmas.Int.{ints}
use Rattle.sb_term.specs.declared.entry.Entry.{Entry}
use Rattle.sb_term.specs.declared.row.Row.{Row}
use Rattle.sb_term.specs.declared.query.Query.{Query}
use Rattle.sb_term.specs.declared.answer.Answer.{Answer}
use Rattle.sb_term.specs.declared.answer.Answer.TheVariants.{Proved, Refuted, LimitRows, LimitDigits}
use Rattle.sb_term.specs.Linear.{Linear, value, formed, is_within}
use Rattle.sb_term.specs.Rows.{AllHold, Follows, negated}
use Rattle.sb_term.specs.Answers.{IsLawful}
use Rattle.sb_term.specs.Asks.{Done, Ask, Always}
use Rattle.sb_term.specs.AskLaws.{always-after_it, always_weaker}
use Rattle.sb_term.specs.Values as values
use Rattle.sb_picture.specs.declared.picture.Picture.{Picture}
use Rattle.sb_picture.specs.Pictures.{has_entries, has_symbol, next}
use Rattle.sb_picture.specs.Asking.{query_of, decided, ask, is_proved, negation, given, assume}
use Rattle.sb_picture.specs.Describes.{IsBelow}
use Rattle.sb_picture.proofs.Soundness.Elements.{Each}
use Rattle.sb_picture.proofs.Soundness.Points.{IfFormed, IsNotBelow0, hold-with_fact, below-with_fact}

-- a goal that was proved: it was formed, and its term is at least 0
abbrev pub IsTold : (ℕ → ℤ) → Option Linear → Type 0
IsTold p None = ⊥
IsTold p (Some t) = pos 0 ≤ℤ value p t

pub told_formed : (p : ℕ → ℤ) (t : Linear) → IsTold p (formed t) → pos 0 ≤ℤ value p t
told_formed p t h = by (is_within t) h
  where
    by : (b : Bool) → IsTold p (if b then Some t else None) → pos 0 ≤ℤ value p t
    by true k = k
    by false k = absurd k

abbrev pub Tells : List Row → Option Linear → Query × Answer → Type 0
Tells facts goal x = is_proved x.1 ≡ true → (p : ℕ → ℤ) → AllHold p facts → IsTold p goal

pub all_hold-filter : (p : ℕ → ℤ) (test : Row → Bool) (rs : List Row) → AllHold p rs → AllHold p (filter test rs)
all_hold-filter p test [] h = tt
all_hold-filter p test (r ∷ rs) h = by (test r) (all_hold-filter p test rs h.1)
  where
    by : (b : Bool) → AllHold p (filter test rs) → AllHold p (cond b (r ∷ filter test rs) (filter test rs))
    by true k = (h.0, k)
    by false k = k

follows : (q : Query) (x : Answer) → IsLawful q x → is_proved x ≡ true → Follows q
follows q (Proved steps) lawful e = lawful.0
follows q (Refuted a) lawful e = let no_one : ⊥ = cc in absurd no_one
follows q LimitRows lawful e = let no_one : ⊥ = cc in absurd no_one
follows q LimitDigits lawful e = let no_one : ⊥ = cc in absurd no_one

-- a term without symbols is its constant at each point
pub value_of_rest : (p : ℕ → ℤ) (t : Linear) → has_symbol t ≡ false → value p t ≡ t.rest
value_of_rest p t e = by t.entries e
  where
    by : (es : List Entry) → has_entries es ≡ false → value p (record { entries = es; rest = t.rest }) ≡ t.rest
    by [] g = values.value-constant p t.rest
    by (x ∷ es) g = cc

decided_tells : (p : ℕ → ℤ) (t : Linear) → has_symbol t ≡ false → is_proved (decided t) ≡ true → pos 0 ≤ℤ value p t
decided_tells p t none e = by (int_le (pos 0) t.rest) refl e
  where
    by : (b : Bool) → int_le (pos 0) t.rest ≡ b → is_proved (if b then Proved (record { list = [] }) else Refuted (record { list = [] })) ≡ true → pos 0 ≤ℤ value p t
    by true le g = let v = value_of_rest p t none in grind (arith, ints)
    by false le g = let no_one : ⊥ = cc in absurd no_one

pub ask_tells : (facts : List Row) (goal : Option Linear) → Always (Tells facts goal) (ask facts goal)
ask_tells facts None = λ e. let no_one : ⊥ = cc in absurd no_one
ask_tells facts (Some t) = by (has_symbol t) refl
  where
    by : (b : Bool) → has_symbol t ≡ b
        → Always (Tells facts (Some t)) (if b then Ask (query_of facts t) (λ x. Done (query_of facts t, x)) else Done (record { facts = []; goal = record { term = t } }, decided t))
    by true e = λ x lawful proved p hold. follows (query_of facts t) x lawful proved p (all_hold-filter p _ facts hold)
    by false e = λ proved p hold. decided_tells p t e proved

-- conditions that hold where they were formed
abbrev pub AllIf : (Linear → Type 0) → List (Option Linear) → Type 0
AllIf P [] = Unit {0}
AllIf P (c ∷ cs) = IfFormed P c × AllIf P cs

-- a picture with other facts
abbrev pub with_facts : Picture → List Row → Picture
with_facts p facts = record { values = p.values; facts = facts; labels = p.labels; regions = p.regions; cells = p.cells }

-- one of the pictures is the first with facts that hold at a point
pub record Assumed (p : Picture) (point : ℕ → ℤ) (ps : List Picture) : Type 0 where
  pub facts : List Row
  pub at : ℕ
  pub stands : slice_get ps at ≡ Some (with_facts p facts)
  pub hold : AllHold point facts
  pub below : Each (λ r. IsBelow (next p) r.term) facts

-- conditions that are assumed: where the facts and the conditions hold, no picture was dropped
abbrev pub AssumeOwes : List (Option Linear) → Picture → List Picture → Type 0
AssumeOwes cs p ps = (point : ℕ → ℤ) → AllHold point p.facts → Each (λ r. IsBelow (next p) r.term) p.facts
    → AllIf (IsNotBelow0 point) cs → AllIf (IsBelow (next p)) cs → Assumed p point ps

not_negated : (p : ℕ → ℤ) (c : Option Linear) → IfFormed (IsNotBelow0 p) c → IsTold p (negation c) → ⊥
not_negated p None h told = told
not_negated p (Some t) h told =
    let v = values.value-negated p t in
    let n : pos 0 ≤ℤ value p (negated t) = told_formed p (negated t) told in
    let m : pos 0 ≤ℤ value p t = h in
    omega (arith, ints)

pub assume_owes : (cs : List (Option Linear)) (p : Picture) → Always (AssumeOwes cs p) (assume cs p)
assume_owes [] p = λ point hold below conditions ranges. record { facts = p.facts; at = zero; stands = refl; hold = hold; below = below }
assume_owes (c ∷ cs) p =
    always-after_it (Tells p.facts (negation c)) (AssumeOwes (c ∷ cs) p) (ask p.facts (negation c)) _ (ask_tells p.facts (negation c))
    (λ x tells. by x tells (is_proved x.1) refl (assume_owes cs (given p c)))
  where
    by : (x : Query × Answer) → Tells p.facts (negation c) x → (b : Bool) → is_proved x.1 ≡ b → Always (AssumeOwes cs (given p c)) (assume cs (given p c))
        → Always (AssumeOwes (c ∷ cs) p) (if b then Done [] else assume cs (given p c))
    by x tells true proved more = λ point hold below conditions ranges. absurd (not_negated point c conditions.0 (tells proved point hold))
    by x tells false proved more =
        always_weaker (AssumeOwes cs (given p c)) (AssumeOwes (c ∷ cs) p) (assume cs (given p c))
        (λ ps owes point hold below conditions ranges.
        let a = owes point (hold-with_fact point p.facts c hold conditions.0) (below-with_fact (next p) p.facts c below ranges.0) conditions.1 ranges.1 in
        record { facts = a.facts; at = a.at; stands = a.stands; hold = a.hold; below = a.below })
        more
