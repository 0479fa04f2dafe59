-- one turn of the loop that assumes conditions
use Rattle.std.proofs.Common.{◌≡◌, ℕ, suc, ◌+◌, ◌<◌, Bool, true, false, List, [], ◌∷◌, length, drop, get_or, Option, Result, Ok, Err, IfOk, IfErr, OnOk, if◌then◌else◌, sym, ap, ◌∙◌, subst, add-one, drop-cons}
use Rattle.sb_term.specs.declared.query.Query.{Query}
use Rattle.sb_term.specs.declared.answer.Answer.{Answer}
use Rattle.sb_term.specs.declared.fault.DecideFault.{DecideFault}
use Rattle.sb_term.specs.declared.row.Row.{Row}
use Rattle.sb_term.specs.Linear.{Linear}
use Rattle.sb_term.specs.declared.fault.DecideFault.TheVariants.{Memory}
use Rattle.sb_term.specs.Asks.{Asks, Done, Ended, ended, run, EndsAs}
use Rattle.sb_term.specs.AskLaws.{goes_on}
use Rattle.sb_picture.specs.declared.picture.Picture.{Picture}
use Rattle.sb_picture.specs.Pictures.{with_fact}
use Rattle.sb_picture.specs.Ends.{EndsWith, EndsProved}
use Rattle.sb_picture.proofs.Steps.Exits.{Ends, from_proved, from_with, to_as, to_with, stops}
use Rattle.sb_picture.specs.Asking.{ask, is_proved, negation, given, assume, where_held}

-- what is left of a list at an index, given the item there as loops give it
pub left_at : {A : Type 0} (xs : List A) (i : ℕ) (x : A) → i < length xs → x ≡ get_or xs i x → drop i xs ≡ x ∷ drop (i + 1) xs
left_at xs i x lt is = drop-cons xs i x lt ∙ (ap (λ y. y ∷ drop (suc i) xs) (sym is) ∙ ap (λ n. x ∷ drop n xs) (sym (add-one i)))

-- the last step: a picture is given, or memory is wanting
pub held-ends : {S : Type 0} (p : Picture) (holds : Bool) (s : S) (e : Ended S (List Picture)) (r : Result (List Picture) DecideFault)
    → IfOk r (λ ps. ps ≡ where_held p holds) → IfErr r (λ fault. fault ≡ Memory) → e ≡ ended s (where_held p holds) → EndsAs r s e
held-ends {S} p holds s e (Ok ps) is lacks asked = asked ∙ ap (λ (x : List Picture). ended s x) (sym is)
held-ends {S} p holds s e (Err fault) is lacks asked =
    let R : DecideFault → Type 0 = λ f. EndsAs {A = List Picture} (Err f) s e in
    subst R (sym lacks) tt

pub held-stops : {S T : Type 0} (seen : T → List Picture) (fault y : DecideFault) (s : S) (e : Ended S (List Picture)) (r : Result (List Picture) DecideFault)
    → EndsWith {A = T} (Err fault) seen s e → r ≡ Err y → y ≡ fault → EndsAs r s e
held-stops seen fault y s e r asked result cause =
    let R : Result (List Picture) DecideFault → Type 0 = λ x. EndsAs x s e in
    subst R (sym (result ∙ ap Err cause)) (to_as fault s e (from_with seen fault s e asked))

pub on_ok : {A B P : Type 0} (r : Result A B) → P → OnOk r P
on_ok (Ok a) h = h
on_ok (Err b) h = tt

module _ {S : Type 0} (stop : S → Option DecideFault) (gives : S → Query → Answer) (after : S → Query → S) where
  pub assume-turn : (cs : List (Option Linear)) (i : ℕ) (c n : Option Linear) (p : Picture) (facts : List Row) (s t : S) (x : Query × Answer)
      → i < length cs → c ≡ get_or cs i c → n ≡ negation c → run stop gives after (ask p.facts n) s ≡ ended t x → is_proved x.1 ≡ false → facts ≡ with_fact p.facts c
      → run stop gives after (assume (drop (i + 1) cs) (record { values = p.values; facts = facts; labels = p.labels; regions = p.regions; cells = p.cells })) t
      ≡ run stop gives after (assume (drop i cs) p) s
  assume-turn cs i c n p facts s t x lt is negates asked not_proved added =
      let f : Query × Answer → Asks (List Picture) = λ y. if is_proved y.1 then Done [] else assume (drop (i + 1) cs) (given p c) in
      let e = ap (λ m. run stop gives after (ask p.facts m) s) (sym negates) ∙ asked in
      ap (λ fs. run stop gives after (assume (drop (i + 1) cs) (record { values = p.values; facts = fs; labels = p.labels; regions = p.regions; cells = p.cells })) t) added
      ∙ sym (ap (λ l. run stop gives after (assume l p) s) (left_at cs i c lt is)
      ∙ (goes_on stop gives after (ask p.facts (negation c)) f s t x e
      ∙ ap (λ (v : Bool). run stop gives after (if v then Done [] else assume (drop (i + 1) cs) (given p c)) t) not_proved))

  -- the turn at which the negation is proved ends it
  pub assume-excluded : (cs : List (Option Linear)) (i : ℕ) (c : Option Linear) (p : Picture) (s t : S) (x : Query × Answer)
      → i < length cs → c ≡ get_or cs i c → run stop gives after (ask p.facts (negation c)) s ≡ ended t x → is_proved x.1 ≡ true
      → run stop gives after (assume (drop i cs) p) s ≡ ended t []
  assume-excluded cs i c p s t x lt is asked proved =
      let f : Query × Answer → Asks (List Picture) = λ y. if is_proved y.1 then Done [] else assume (drop (i + 1) cs) (given p c) in
      ap (λ l. run stop gives after (assume l p) s) (left_at cs i c lt is)
      ∙ (goes_on stop gives after (ask p.facts (negation c)) f s t x asked
      ∙ ap (λ (v : Bool). run stop gives after (if v then Done [] else assume (drop (i + 1) cs) (given p c)) t) proved)

  -- and so does a fault
  pub assume-stops : {U : Type 0} (shown : U → List Picture) (cs : List (Option Linear)) (i : ℕ) (c : Option Linear) (p : Picture) (facts : List Row) (s t : S) (fault y : DecideFault)
      (r : Result U DecideFault) (whole : Ended S (List Picture)) → i < length cs → c ≡ get_or cs i c → facts ≡ p.facts
      → EndsProved (Err fault) t (run stop gives after (ask facts (negation c)) s) → run stop gives after (assume (drop i cs) p) s ≡ whole
      → r ≡ Err y → y ≡ fault → EndsWith r shown t whole
  assume-stops {U} shown cs i c p facts s t fault y r whole lt is known asked all result cause =
      let P : Ended S (List Picture) → Type 0 = λ e. Ends fault t e in
      let Q : Ended S (Query × Answer) → Type 0 = λ e. Ends fault t e in
      let turn = stops stop gives after (ask p.facts (negation c)) (λ x. if is_proved x.1 then Done [] else assume (drop (i + 1) cs) (given p c)) s t fault
      (subst Q (ap (λ fs. run stop gives after (ask fs (negation c)) s) known) (from_proved fault t (run stop gives after (ask facts (negation c)) s) asked)) in
      let R : Result U DecideFault → Type 0 = λ x. EndsWith x shown t whole in
      subst R (sym (result ∙ ap Err cause))
      (to_with shown fault t whole (subst P (sym (ap (λ l. run stop gives after (assume l p) s) (left_at cs i c lt is)) ∙ all) turn))
