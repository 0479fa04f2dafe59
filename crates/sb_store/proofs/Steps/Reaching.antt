-- a store to a target: its needs in turn, the question whether the prefix reaches it, and the picture
use Rattle.std.proofs.Common.{◌≡◌, ℕ, Bool, List, Option, Result, Err, pos, refl, sym, ap, ◌∙◌, subst}
use Rattle.sb_base.specs.declared.refusals.Place.{Place}
use Rattle.sb_term.specs.declared.row.Row.{Row}
use Rattle.sb_term.specs.declared.query.Query.{Query}
use Rattle.sb_term.specs.declared.answer.Answer.{Answer}
use Rattle.sb_term.specs.declared.fault.DecideFault.{DecideFault}
use Rattle.sb_term.specs.Linear.{Linear, formed}
use Rattle.sb_term.specs.Asks.{Asks, Done, after_it, Ended, ended, stopped, run}
use Rattle.sb_term.specs.AskLaws.{run_on, run-after_it, goes_on}
use Rattle.sb_picture.specs.declared.picture.Cell.{Cell}
use Rattle.sb_picture.specs.declared.picture.Region.{Region}
use Rattle.sb_picture.specs.declared.picture.Picture.{Picture}
use Rattle.sb_picture.specs.Ends.{EndsWith}
use Rattle.sb_picture.specs.Pictures.{minus}
use Rattle.sb_picture.specs.Asking.{ask, is_proved}
use Rattle.sb_picture.proofs.Steps.Exits.{Ends, from_with, to_with, stops_with, goes_with}
use Rattle.sb_store.specs.declared.warning.Warning.{Warning}
use Rattle.sb_store.specs.Stores.{Judged, judged, Reached, reached, bounds, ask_present, ask_from_start, ask_before_end, cells_after, grown, with_cells, value_at_end, end_of, after_store, reaching, store_at}

abbrev goal_of : Region → Linear → Option Linear
goal_of g o = formed (minus g.written o (pos 0))

abbrev asking : Picture → Region → Linear → List Warning → Asks Reached
asking p g o ws = after_it (ask p.facts (goal_of g o)) (λ x. Done (reached ws (is_proved x.1)))

abbrev finish : Picture → ℕ → Region → Linear → Option Linear → Reached → Asks Judged
finish p r g o v y = Done (judged y.warnings (after_store p r g o v y.reaches))

abbrev from_start : Place → Picture → Region → Linear → List Warning → Asks (List Warning)
from_start place p g o ws = after_it (ask_from_start place p o ws) (λ w. ask_before_end place p g o w)

module _ {S : Type 0} (stop : S → Option DecideFault) (gives : S → Query → Answer) (after : S → Query → S) where
  -- the three needs
  pub bounds-goes : {U : Type 0} (shown : U → List Warning) (place : Place) (p : Picture) (g : Region) (o : Linear) (ws present from : List Warning) (s t u v : S) (r : Result U DecideFault)
      → run stop gives after (ask_present place p g ws) s ≡ ended t present → run stop gives after (ask_from_start place p o present) t ≡ ended u from
      → EndsWith r shown v (run stop gives after (ask_before_end place p g o from) u) → EndsWith r shown v (run stop gives after (bounds place p g o ws) s)
  bounds-goes shown place p g o ws present from s t u v r first second third =
      goes_with stop gives after shown (ask_present place p g ws) (λ w. from_start place p g o w) s t v present r first
      (goes_with stop gives after shown (ask_from_start place p o present) (λ w. ask_before_end place p g o w) t u v from r second third)

  pub bounds-stops_first : {T U : Type 0} (seen : T → List Warning) (shown : U → List Warning) (place : Place) (p : Picture) (g : Region) (o : Linear) (ws : List Warning) (s t : S)
      (fault y : DecideFault) (r : Result U DecideFault) → EndsWith {A = T} (Err fault) seen t (run stop gives after (ask_present place p g ws) s) → r ≡ Err y → y ≡ fault
      → EndsWith r shown t (run stop gives after (bounds place p g o ws) s)
  bounds-stops_first seen shown place p g o ws s t fault y r asked result cause =
      stops_with stop gives after shown (ask_present place p g ws) (λ w. from_start place p g o w) s t fault y r
      (from_with seen fault t (run stop gives after (ask_present place p g ws) s) asked) result cause

  pub bounds-stops_second : {T U : Type 0} (seen : T → List Warning) (shown : U → List Warning) (place : Place) (p : Picture) (g : Region) (o : Linear) (ws present : List Warning) (s t u : S)
      (fault y : DecideFault) (r : Result U DecideFault) → run stop gives after (ask_present place p g ws) s ≡ ended t present
      → EndsWith {A = T} (Err fault) seen u (run stop gives after (ask_from_start place p o present) t) → r ≡ Err y → y ≡ fault
      → EndsWith r shown u (run stop gives after (bounds place p g o ws) s)
  bounds-stops_second seen shown place p g o ws present s t u fault y r first asked result cause =
      goes_with stop gives after shown (ask_present place p g ws) (λ w. from_start place p g o w) s t u present r first
      (stops_with stop gives after shown (ask_from_start place p o present) (λ w. ask_before_end place p g o w) t u fault y r
      (from_with seen fault u (run stop gives after (ask_from_start place p o present) t) asked) result cause)

  -- the needs, and then the question
  pub reaching-ends : (place : Place) (p : Picture) (facts : List Row) (g : Region) (o : Linear) (ws noted : List Warning) (s t u : S) (goal : Option Linear) (x : Query × Answer) (reaches : Bool)
      → run stop gives after (bounds place p g o ws) s ≡ ended t noted → goal ≡ goal_of g o → facts ≡ p.facts → run stop gives after (ask facts goal) t ≡ ended u x → reaches ≡ is_proved x.1
      → run stop gives after (reaching place p g o ws) s ≡ ended u (reached noted reaches)
  reaching-ends place p facts g o ws noted s t u goal x reaches needs is known asked proved =
      goes_on stop gives after (bounds place p g o ws) (λ w. asking p g o w) s t noted needs
      ∙ (goes_on stop gives after (ask p.facts (goal_of g o)) (λ y. Done (reached noted (is_proved y.1))) t u x
      (ap (λ m. run stop gives after (ask p.facts m) t) (sym is) ∙ (ap (λ fs. run stop gives after (ask fs goal) t) (sym known) ∙ asked))
      ∙ ap (λ b. ended u (reached noted b)) (sym proved))

  pub reaching-stops_first : {T U : Type 0} (seen : T → List Warning) (shown : U → Reached) (place : Place) (p : Picture) (g : Region) (o : Linear) (ws : List Warning) (s t : S)
      (fault y : DecideFault) (r : Result U DecideFault) → EndsWith {A = T} (Err fault) seen t (run stop gives after (bounds place p g o ws) s) → r ≡ Err y → y ≡ fault
      → EndsWith r shown t (run stop gives after (reaching place p g o ws) s)
  reaching-stops_first seen shown place p g o ws s t fault y r asked result cause =
      stops_with stop gives after shown (bounds place p g o ws) (λ w. asking p g o w) s t fault y r
      (from_with seen fault t (run stop gives after (bounds place p g o ws) s) asked) result cause

  pub reaching-stops_second : {T U : Type 0} (seen : T → Query × Answer) (shown : U → Reached) (place : Place) (p : Picture) (facts : List Row) (g : Region) (o : Linear) (ws noted : List Warning) (s t u : S)
      (goal : Option Linear) (fault y : DecideFault) (r : Result U DecideFault)
      → run stop gives after (bounds place p g o ws) s ≡ ended t noted → goal ≡ goal_of g o → facts ≡ p.facts
      → EndsWith {A = T} (Err fault) seen u (run stop gives after (ask facts goal) t) → r ≡ Err y → y ≡ fault
      → EndsWith r shown u (run stop gives after (reaching place p g o ws) s)
  reaching-stops_second seen shown place p facts g o ws noted s t u goal fault y r needs is known asked result cause =
      let P : Ended S (Query × Answer) → Type 0 = λ e. Ends fault u e in
      let same : run stop gives after (ask facts goal) t ≡ run stop gives after (ask p.facts (goal_of g o)) t =
      ap (λ fs. run stop gives after (ask fs goal) t) known ∙ ap (λ m. run stop gives after (ask p.facts m) t) is in
      goes_with stop gives after shown (bounds place p g o ws) (λ w. asking p g o w) s t u noted r needs
      (stops_with stop gives after shown (ask p.facts (goal_of g o)) (λ y. Done (reached noted (is_proved y.1))) t u fault y r
      (subst P same (from_with seen fault u (run stop gives after (ask facts goal) t) asked)) result cause)

  -- and then the picture: a last step that only forms a value goes into the step before
  last_step : {A B C D : Type 0} (rule : Asks A) (more : A → Asks B) (k : A → B → C) (h : C → D) (s : S)
      → run stop gives after (after_it rule (λ a. after_it (more a) (λ x. Done (h (k a x))))) s
      ≡ run stop gives after (after_it (after_it rule (λ a. after_it (more a) (λ x. Done (k a x)))) (λ y. Done (h y))) s
  last_step {A} {B} {C} {D} rule more k h s =
      run-after_it stop gives after rule (λ a. after_it (more a) (λ x. Done (h (k a x)))) s
      ∙ (by (run stop gives after rule s)
      ∙ sym (run-after_it stop gives after (after_it rule (λ a. after_it (more a) (λ x. Done (k a x)))) (λ y. Done (h y)) s
      ∙ ap (run_on (λ y t. ended t (h y))) (run-after_it stop gives after rule (λ a. after_it (more a) (λ x. Done (k a x))) s)))
    where
      two : (a : A) (e : Ended S B) → run_on {S = S} {A = B} {B = D} (λ x t. ended t (h (k a x))) e ≡ run_on {S = S} {A = C} {B = D} (λ y t. ended t (h y)) (run_on {S = S} {A = B} {B = C} (λ x t. ended t (k a x)) e)
      two a (ended t x) = refl
      two a (stopped t fault) = refl

      by : (e : Ended S A) → run_on {S = S} {A = A} {B = D} (λ a t. run stop gives after (after_it (more a) (λ x. Done (h (k a x)))) t) e
          ≡ run_on {S = S} {A = C} {B = D} (λ y t. ended t (h y)) (run_on {S = S} {A = A} {B = C} (λ a t. run stop gives after (after_it (more a) (λ x. Done (k a x))) t) e)
      by (ended t a) =
          run-after_it stop gives after (more a) (λ x. Done (h (k a x))) t ∙ (two a (run stop gives after (more a) t)
          ∙ sym (ap (run_on {S = S} {A = C} {B = D} (λ y t. ended t (h y))) (run-after_it stop gives after (more a) (λ x. Done (k a x)) t)))
      by (stopped t fault) = refl

  store_at-parts : (place : Place) (p : Picture) (r : ℕ) (g : Region) (o : Linear) (v : Option Linear) (ws : List Warning) (s : S)
      → run stop gives after (store_at place p r g o v ws) s ≡ run stop gives after (after_it (reaching place p g o ws) (finish p r g o v)) s
  store_at-parts place p r g o v ws s =
      let k : List Warning → Query × Answer → Reached = λ w x. reached w (is_proved x.1) in
      let h : Reached → Judged = λ y. judged y.warnings (after_store p r g o v y.reaches) in
      last_step (bounds place p g o ws) (λ w. ask p.facts (goal_of g o)) k h s

  pub store_at-ends : (place : Place) (p : Picture) (r : ℕ) (g : Region) (o : Linear) (v : Option Linear) (ws noted : List Warning) (s u : S) (reaches : Bool) (end : Option Linear) (cells : List Cell) (q : Picture)
      → run stop gives after (reaching place p g o ws) s ≡ ended u (reached noted reaches) → end ≡ end_of o → cells ≡ cells_after r o (value_at_end (end_of o) v) p.cells
      → q ≡ with_cells (grown p r g o reaches end) cells → run stop gives after (store_at place p r g o v ws) s ≡ ended u (judged noted q)
  store_at-ends place p r g o v ws noted s u reaches end cells q asked ends writes left =
      let whole : q ≡ after_store p r g o v reaches =
      left ∙ (ap (λ e. with_cells (grown p r g o reaches e) cells) ends ∙ ap (λ cs. with_cells (grown p r g o reaches (end_of o)) cs) writes) in
      store_at-parts place p r g o v ws s ∙ (goes_on stop gives after (reaching place p g o ws) (finish p r g o v) s u (reached noted reaches) asked ∙ ap (λ y. ended u (judged noted y)) (sym whole))

  pub same-stop : {B T U : Type 0} (seen : T → B) (shown : U → B) (u : S) (e : Ended S B) (fault y : DecideFault) (z : Result U DecideFault)
      → EndsWith {A = T} (Err fault) seen u e → z ≡ Err y → y ≡ fault → EndsWith z shown u e
  same-stop {T = T} {U = U} seen shown u e fault y z asked result cause =
      let R : Result U DecideFault → Type 0 = λ x. EndsWith x shown u e in
      subst R (sym (result ∙ ap Err cause)) (to_with shown fault u e (from_with seen fault u e asked))

  pub store_at-stops : {T U : Type 0} (seen : T → Reached) (shown : U → Judged) (place : Place) (p : Picture) (r : ℕ) (g : Region) (o : Linear) (v : Option Linear) (ws : List Warning) (s u : S)
      (fault y : DecideFault) (z : Result U DecideFault) → EndsWith {A = T} (Err fault) seen u (run stop gives after (reaching place p g o ws) s) → z ≡ Err y → y ≡ fault
      → EndsWith z shown u (run stop gives after (store_at place p r g o v ws) s)
  store_at-stops seen shown place p r g o v ws s u fault y z asked result cause =
      let E : Ended S Judged → Type 0 = λ e. EndsWith z shown u e in
      subst E (sym (store_at-parts place p r g o v ws s))
      (stops_with stop gives after shown (reaching place p g o ws) (finish p r g o v) s u fault y z
      (from_with seen fault u (run stop gives after (reaching place p g o ws) s) asked) result cause)
