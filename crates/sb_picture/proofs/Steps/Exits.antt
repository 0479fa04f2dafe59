-- how a rule that follows another ends: with the fault of the first, or as what follows the first's value
use Rattle.std.proofs.Common.{◌≡◌, Option, Result, Err, sym, ap, ◌∙◌, subst}
use Rattle.sb_term.specs.declared.query.Query.{Query}
use Rattle.sb_term.specs.declared.answer.Answer.{Answer}
use Rattle.sb_term.specs.declared.fault.DecideFault.{DecideFault}
use Rattle.sb_term.specs.declared.fault.DecideFault.TheVariants.{BadLine, EndOfCert, Memory}
use Rattle.sb_term.specs.Asks.{Asks, after_it, Ended, ended, stopped, run, EndsAs}
use Rattle.sb_term.specs.AskLaws.{run_on, run-after_it, goes_on}
use Rattle.sb_picture.specs.Ends.{EndsWith, EndsProved}

-- the fault that ends a run; want of memory may stand in place of any end
abbrev pub Ends : {S A : Type 0} → DecideFault → S → Ended S A → Type 0
Ends Memory s e = Unit {0}
Ends (BadLine n) s e = e ≡ stopped s (BadLine n)
Ends (EndOfCert n) s e = e ≡ stopped s (EndOfCert n)

pub from_as : {S A : Type 0} (fault : DecideFault) (s : S) (e : Ended S A) → EndsAs {A = A} (Err fault) s e → Ends fault s e
from_as Memory s e h = h
from_as (BadLine n) s e h = h
from_as (EndOfCert n) s e h = h

pub to_as : {S A : Type 0} (fault : DecideFault) (s : S) (e : Ended S A) → Ends fault s e → EndsAs {A = A} (Err fault) s e
to_as Memory s e h = h
to_as (BadLine n) s e h = h
to_as (EndOfCert n) s e h = h

pub from_with : {S A B : Type 0} (seen : A → B) (fault : DecideFault) (s : S) (e : Ended S B) → EndsWith {A = A} (Err fault) seen s e → Ends fault s e
from_with seen Memory s e h = h
from_with seen (BadLine n) s e h = h
from_with seen (EndOfCert n) s e h = h

pub to_with : {S A B : Type 0} (seen : A → B) (fault : DecideFault) (s : S) (e : Ended S B) → Ends fault s e → EndsWith {A = A} (Err fault) seen s e
to_with seen Memory s e h = h
to_with seen (BadLine n) s e h = h
to_with seen (EndOfCert n) s e h = h

pub from_proved : {S : Type 0} (fault : DecideFault) (s : S) (e : Ended S (Query × Answer)) → EndsProved (Err fault) s e → Ends fault s e
from_proved Memory s e h = h
from_proved (BadLine n) s e h = h
from_proved (EndOfCert n) s e h = h

run_on-stopped : {S A B : Type 0} (f : A → S → Ended S B) (fault : DecideFault) (t : S) (e : Ended S A) → Ends fault t e → Ends fault t (run_on f e)
run_on-stopped f Memory t e h = tt
run_on-stopped f (BadLine n) t e h = ap (run_on f) h
run_on-stopped f (EndOfCert n) t e h = ap (run_on f) h

module _ {S : Type 0} (stop : S → Option DecideFault) (gives : S → Query → Answer) (after : S → Query → S) where
  -- what follows a rule that is stopped is stopped
  pub stops : {A B : Type 0} (rule : Asks A) (f : A → Asks B) (s t : S) (fault : DecideFault) → Ends fault t (run stop gives after rule s) → Ends fault t (run stop gives after (after_it rule f) s)
  stops {B = B} rule f s t fault h =
      let P : Ended S B → Type 0 = λ e. Ends fault t e in
      subst P (sym (run-after_it stop gives after rule f s)) (run_on-stopped (λ a u. run stop gives after (f a) u) fault t (run stop gives after rule s) h)

  -- a call ends as the rule, whose first part is stopped
  pub stops_as : {A B : Type 0} (rule : Asks A) (f : A → Asks B) (s t : S) (fault y : DecideFault) (r : Result B DecideFault)
      → Ends fault t (run stop gives after rule s) → r ≡ Err y → y ≡ fault → EndsAs r t (run stop gives after (after_it rule f) s)
  stops_as {B = B} rule f s t fault y r asked result cause =
      let R : Result B DecideFault → Type 0 = λ x. EndsAs x t (run stop gives after (after_it rule f) s) in
      subst R (sym (result ∙ ap Err cause)) (to_as fault t (run stop gives after (after_it rule f) s) (stops rule f s t fault asked))

  pub stops_with : {A B U : Type 0} (shown : U → B) (rule : Asks A) (f : A → Asks B) (s t : S) (fault y : DecideFault) (r : Result U DecideFault)
      → Ends fault t (run stop gives after rule s) → r ≡ Err y → y ≡ fault → EndsWith r shown t (run stop gives after (after_it rule f) s)
  stops_with {U = U} shown rule f s t fault y r asked result cause =
      let R : Result U DecideFault → Type 0 = λ x. EndsWith x shown t (run stop gives after (after_it rule f) s) in
      subst R (sym (result ∙ ap Err cause)) (to_with shown fault t (run stop gives after (after_it rule f) s) (stops rule f s t fault asked))

  -- or as what follows the value of the first part
  pub goes_as : {A B : Type 0} (rule : Asks A) (f : A → Asks B) (s t u : S) (a : A) (r : Result B DecideFault)
      → run stop gives after rule s ≡ ended t a → EndsAs r u (run stop gives after (f a) t) → EndsAs r u (run stop gives after (after_it rule f) s)
  goes_as {B = B} rule f s t u a r asked left =
      let P : Ended S B → Type 0 = λ e. EndsAs r u e in
      subst P (sym (goes_on stop gives after rule f s t a asked)) left

  pub goes_with : {A B U : Type 0} (shown : U → B) (rule : Asks A) (f : A → Asks B) (s t u : S) (a : A) (r : Result U DecideFault)
      → run stop gives after rule s ≡ ended t a → EndsWith r shown u (run stop gives after (f a) t) → EndsWith r shown u (run stop gives after (after_it rule f) s)
  goes_with {B = B} shown rule f s t u a r asked left =
      let P : Ended S B → Type 0 = λ e. EndsWith r shown u e in
      subst P (sym (goes_on stop gives after rule f s t a asked)) left
