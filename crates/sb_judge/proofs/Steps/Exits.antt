-- a fault inside a turn of a loop that asks is the fault of the whole
use Rattle.std.proofs.Common.{◌≡◌, ℕ, ◌+◌, ◌<◌, List, [], ◌∷◌, ◌++◌, length, drop, get_or, Option, Result, Err, sym, ap, ◌∙◌, subst}
use Rattle.sb_base.specs.declared.refusals.Place.{Place}
use Rattle.sb_term.specs.declared.query.Query.{Query}
use Rattle.sb_term.specs.declared.answer.Answer.{Answer}
use Rattle.sb_term.specs.declared.fault.DecideFault.{DecideFault}
use Rattle.sb_term.specs.Linear.{Linear}
use Rattle.sb_term.specs.Asks.{each_onto, Ended, run, EndsAs}
use Rattle.sb_picture.specs.declared.picture.Picture.{Picture}
use Rattle.sb_function.specs.declared.syntax.Simple.{Simple}
use Rattle.sb_function.specs.declared.syntax.Comparison.{Comparison}
use Rattle.sb_store.specs.declared.warning.Warning.{Warning}
use Rattle.sb_picture.specs.Asking.{assume}
use Rattle.sb_judge.specs.Splits.{Sides, split, split_all, joined, sides}
use Rattle.sb_store.specs.Stores.{Judged, store_rule}
use Rattle.sb_judge.specs.Walks.{Walked, walked, store_all}
use Rattle.sb_picture.specs.Ends.{EndsWith}
use Rattle.sb_picture.proofs.Steps.Assuming.{left_at}
use Rattle.sb_picture.proofs.Steps.Exits.{Ends, from_as, to_as, from_with, to_with, stops}

module _ {S : Type 0} (stop : S → Option DecideFault) (gives : S → Query → Answer) (after : S → Query → S) where
  pub in_ways-stops : (out : List Picture) (cs : List (List (Option Linear))) (i : ℕ) (c w : List (Option Linear)) (p q : Picture) (s t : S) (fault y : DecideFault) (r : Result (List Picture) DecideFault)
      (whole : Ended S (List Picture)) → i < length cs → c ≡ get_or cs i c → w ≡ c → q ≡ p → EndsAs {A = List Picture} (Err fault) t (run stop gives after (assume w q) s)
      → run stop gives after (each_onto out (drop i cs) (λ x. assume x p)) s ≡ whole → r ≡ Err y → y ≡ fault → EndsAs r t whole
  in_ways-stops out cs i c w p q s t fault y r whole lt is same from asked all result cause =
      let P : Ended S (List Picture) → Type 0 = λ e. Ends fault t e in
      let Q : Ended S (List Picture) → Type 0 = λ e. Ends fault t e in
      let turn = subst Q (ap (λ x. run stop gives after (assume x q) s) same ∙ ap (λ x. run stop gives after (assume c x) s) from) (from_as fault t (run stop gives after (assume w q) s) asked) in
      let left = stops stop gives after (assume c p) (λ ys. each_onto (out ++ ys) (drop (i + 1) cs) (λ x. assume x p)) s t fault turn in
      let R : Result (List Picture) DecideFault → Type 0 = λ x. EndsAs x t whole in
      subst R (sym (result ∙ ap Err cause))
      (to_as fault t whole (subst P (sym (ap (λ l. run stop gives after (each_onto out l (λ x. assume x p)) s) (left_at cs i c lt is)) ∙ all) left))

  pub split-stops : {T : Type 0} (seen : T → Sides) (left : Simple) (op : Comparison) (right : Simple) (ps : List Picture) (i : ℕ) (p : Picture) (ts fs : List Picture) (s t : S) (fault y : DecideFault)
      (r : Result T DecideFault) (whole : Ended S Sides) → i < length ps → p ≡ get_or ps i p → EndsWith {A = T} (Err fault) seen t (run stop gives after (split left op right p) s)
      → run stop gives after (split_all left op right (drop i ps) (sides ts fs)) s ≡ whole → r ≡ Err y → y ≡ fault → EndsWith r seen t whole
  split-stops {T} seen left op right ps i p ts fs s t fault y r whole lt is asked all result cause =
      let P : Ended S Sides → Type 0 = λ e. Ends fault t e in
      let turn = stops stop gives after (split left op right p) (λ x. split_all left op right (drop (i + 1) ps) (joined (sides ts fs) x)) s t fault (from_with seen fault t (run stop gives after (split left op right p) s) asked) in
      let R : Result T DecideFault → Type 0 = λ x. EndsWith x seen t whole in
      subst R (sym (result ∙ ap Err cause))
      (to_with seen fault t whole (subst P (sym (ap (λ l. run stop gives after (split_all left op right l (sides ts fs)) s) (left_at ps i p lt is)) ∙ all) turn))

  pub store-stops : {T U : Type 0} (seen : T → Judged) (shown : U → Walked) (array : ℕ) (index value : Simple) (place : Place) (ps : List Picture) (i : ℕ) (p q : Picture) (ws : List Warning) (out : List Picture) (s t : S)
      (fault y : DecideFault) (r : Result U DecideFault) (whole : Ended S Walked) → i < length ps → p ≡ get_or ps i p → q ≡ p
      → EndsWith {A = T} (Err fault) seen t (run stop gives after (store_rule array index value place q ws) s)
      → run stop gives after (store_all array index value place (drop i ps) (walked ws out)) s ≡ whole → r ≡ Err y → y ≡ fault → EndsWith r shown t whole
  store-stops {T} {U} seen shown array index value place ps i p q ws out s t fault y r whole lt is from asked all result cause =
      let P : Ended S Walked → Type 0 = λ e. Ends fault t e in
      let Q : Ended S Judged → Type 0 = λ e. Ends fault t e in
      let one = subst Q (ap (λ x. run stop gives after (store_rule array index value place x ws) s) from) (from_with seen fault t (run stop gives after (store_rule array index value place q ws) s) asked) in
      let turn = stops stop gives after (store_rule array index value place p ws) (λ j. store_all array index value place (drop (i + 1) ps) (walked j.warnings (out ++ j.picture ∷ []))) s t fault one in
      let R : Result U DecideFault → Type 0 = λ x. EndsWith x shown t whole in
      subst R (sym (result ∙ ap Err cause))
      (to_with shown fault t whole (subst P (sym (ap (λ l. run stop gives after (store_all array index value place l (walked ws out)) s) (left_at ps i p lt is)) ∙ all) turn))
