-- the two sides of a condition, one after the other
use Rattle.std.proofs.Common.{◌≡◌, List, Option, Some, Result, Err, sym, ap, ◌∙◌, subst}
use Rattle.sb_term.specs.declared.query.Query.{Query}
use Rattle.sb_term.specs.declared.answer.Answer.{Answer}
use Rattle.sb_term.specs.declared.fault.DecideFault.{DecideFault}
use Rattle.sb_term.specs.Linear.{Linear}
use Rattle.sb_term.specs.Asks.{Asks, Done, after_it, ended, run, EndsAs}
use Rattle.sb_term.specs.AskLaws.{goes_on}
use Rattle.sb_function.specs.declared.syntax.Comparison.{Comparison}
use Rattle.sb_function.specs.Comparisons.{opposite}
use Rattle.sb_picture.specs.declared.picture.Picture.{Picture}
use Rattle.sb_picture.specs.Ends.{EndsWith}
use Rattle.sb_picture.proofs.Steps.Exits.{from_as, stops_with, goes_with}
use Rattle.sb_judge.specs.Splits.{Sides, sides, ways, in_ways, split_by}

abbrev otherwise : Comparison → Linear → Linear → Picture → List Picture → Asks Sides
otherwise op a b p ts = after_it (in_ways (ways (opposite op) a b) p) (λ fs. Done (sides ts fs))

module _ {S : Type 0} (stop : S → Option DecideFault) (gives : S → Query → Answer) (after : S → Query → S) where
  pub split-ends : (op o : Comparison) (a b : Linear) (p : Picture) (ts fs : List Picture) (s t u : S) → o ≡ opposite op
      → run stop gives after (in_ways (ways op a b) p) s ≡ ended t ts → run stop gives after (in_ways (ways o a b) p) t ≡ ended u fs
      → run stop gives after (split_by op (Some a) (Some b) p) s ≡ ended u (sides ts fs)
  split-ends op o a b p ts fs s t u other first second =
      goes_on stop gives after (in_ways (ways op a b) p) (otherwise op a b p) s t ts first
      ∙ goes_on stop gives after (in_ways (ways (opposite op) a b) p) (λ xs. Done (sides ts xs)) t u fs (ap (λ x. run stop gives after (in_ways (ways x a b) p) t) (sym other) ∙ second)

  pub split-stops_first : {T : Type 0} (seen : T → Sides) (op : Comparison) (a b : Linear) (p : Picture) (s t : S) (fault y : DecideFault) (r : Result T DecideFault)
      → EndsAs {A = List Picture} (Err fault) t (run stop gives after (in_ways (ways op a b) p) s) → r ≡ Err y → y ≡ fault
      → EndsWith r seen t (run stop gives after (split_by op (Some a) (Some b) p) s)
  split-stops_first seen op a b p s t fault y r asked result cause =
      stops_with stop gives after seen (in_ways (ways op a b) p) (otherwise op a b p) s t fault y r (from_as fault t (run stop gives after (in_ways (ways op a b) p) s) asked) result cause

  pub split-stops_second : {T : Type 0} (seen : T → Sides) (op o : Comparison) (a b : Linear) (p : Picture) (ts : List Picture) (s t u : S) (fault y : DecideFault) (r : Result T DecideFault)
      → o ≡ opposite op → run stop gives after (in_ways (ways op a b) p) s ≡ ended t ts
      → EndsAs {A = List Picture} (Err fault) u (run stop gives after (in_ways (ways o a b) p) t) → r ≡ Err y → y ≡ fault
      → EndsWith r seen u (run stop gives after (split_by op (Some a) (Some b) p) s)
  split-stops_second seen op o a b p ts s t u fault y r other first asked result cause =
      let P : Comparison → Type 0 = λ x. EndsAs {A = List Picture} (Err fault) u (run stop gives after (in_ways (ways x a b) p) t) in
      goes_with stop gives after seen (in_ways (ways op a b) p) (otherwise op a b p) s t u ts r first
      (stops_with stop gives after seen (in_ways (ways (opposite op) a b) p) (λ fs. Done (sides ts fs)) t u fault y r
      (from_as fault u (run stop gives after (in_ways (ways (opposite op) a b) p) t) (subst P other asked)) result cause)
