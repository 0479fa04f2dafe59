-- rules as trees of questions: what they give and in which order they ask, before any decider is chosen
use Rattle.std.specs.Prelude.{◌≡◌, Option, Some, None, Result, Ok, Err, List, [], ◌∷◌, ◌++◌}
use Rattle.sb_term.specs.Answers.{IsLawful}
use Rattle.sb_term.specs.declared.query.Query.{Query}
use Rattle.sb_term.specs.declared.answer.Answer.{Answer}
use Rattle.sb_term.specs.declared.fault.DecideFault.{DecideFault}
use Rattle.sb_term.specs.declared.fault.DecideFault.TheVariants.{BadLine, EndOfCert, Memory}

-- a value, or a question and what follows each answer
pub data Asks (A : Type 0) : Type 0 where
  Done : A → Asks A
  Ask : Query → (Answer → Asks A) → Asks A

-- one rule after another
abbrev pub after_it : {A B : Type 0} → Asks A → (A → Asks B) → Asks B
after_it (Done a) f = f a
after_it (Ask q next) f = Ask q (λ x. after_it (next x) f)

-- a rule for each item in turn, the results joined
abbrev pub each_onto : {A B : Type 0} → List B → List A → (A → Asks (List B)) → Asks (List B)
each_onto out [] rule = Done out
each_onto out (x ∷ xs) rule = after_it (rule x) (λ ys. each_onto (out ++ ys) xs rule)

-- what holds of the value, whatever lawful answers come
abbrev pub Always : {A : Type 0} → (A → Type 0) → Asks A → Type 0
Always P (Done a) = P a
Always P (Ask q next) = (x : Answer) → IsLawful q x → Always P (next x)

-- how a run of a rule over a decider ends: with what the decider holds then and a value, or with its stop
pub data Ended (S A : Type 0) : Type 0 where
  ended : S → A → Ended S A
  stopped : S → DecideFault → Ended S A

-- a run goes on where the decider has no stop
abbrev pub asked_on : {S A : Type 0} → S → Option DecideFault → Ended S A → Ended S A
asked_on s None e = e
asked_on s (Some fault) e = stopped s fault

module _ {S : Type 0} (stop : S → Option DecideFault) (gives : S → Query → Answer) (after : S → Query → S) where
  abbrev pub run : {A : Type 0} → Asks A → S → Ended S A
  run (Done a) s = ended s a
  run (Ask q next) s = asked_on (after s q) (stop (after s q)) (run (next (gives s q)) (after s q))

  -- what `decide` owes its caller: the told answer and content, or the stop that is then held, or want of memory
  abbrev pub IsDecided : S → Query → S → Result Answer DecideFault → Type 0
  IsDecided s q t (Ok a) = (a ≡ gives s q) × (t ≡ after s q) × (stop t ≡ None)
  IsDecided s q t (Err Memory) = Unit {0}
  IsDecided s q t (Err (BadLine n)) = (t ≡ after s q) × (stop t ≡ Some (BadLine n))
  IsDecided s q t (Err (EndOfCert n)) = (t ≡ after s q) × (stop t ≡ Some (EndOfCert n))

-- a call that follows a rule: its value and content are those of the rule's run, or its fault is the run's stop
abbrev pub EndsAs : {S A : Type 0} → Result A DecideFault → S → Ended S A → Type 0
EndsAs (Ok a) s e = e ≡ ended s a
EndsAs (Err Memory) s e = Unit {0}
EndsAs (Err (BadLine n)) s e = e ≡ stopped s (BadLine n)
EndsAs (Err (EndOfCert n)) s e = e ≡ stopped s (EndOfCert n)
