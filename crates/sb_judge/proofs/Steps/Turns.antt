-- one turn of each loop that asks
use Rattle.std.proofs.Common.{◌≡◌, ℕ, ◌+◌, ◌<◌, List, [], ◌∷◌, ◌++◌, length, drop, get_or, Option, sym, ap, ◌∙◌}
use Rattle.sb_base.specs.declared.refusals.Place.{Place}
use Rattle.sb_term.specs.declared.query.Query.{Query}
use Rattle.sb_term.specs.declared.answer.Answer.{Answer}
use Rattle.sb_term.specs.declared.fault.DecideFault.{DecideFault}
use Rattle.sb_term.specs.Asks.{ended, run}
use Rattle.sb_term.specs.AskLaws.{goes_on}
use Rattle.sb_function.specs.declared.syntax.Simple.{Simple}
use Rattle.sb_function.specs.declared.syntax.Comparison.{Comparison}
use Rattle.sb_picture.specs.declared.picture.Picture.{Picture}
use Rattle.sb_picture.proofs.Steps.Assuming.{left_at}
use Rattle.sb_store.specs.declared.warning.Warning.{Warning}
use Rattle.sb_judge.specs.Splits.{split, split_all, joined, sides}
use Rattle.sb_store.specs.Stores.{store_rule, judged}
use Rattle.sb_judge.specs.Walks.{walked, store_all}

module _ {S : Type 0} (stop : S → Option DecideFault) (gives : S → Query → Answer) (after : S → Query → S) where
  pub split-turn : (left : Simple) (op : Comparison) (right : Simple) (ps : List Picture) (i : ℕ) (p : Picture) (ts fs mts mfs : List Picture) (s t : S)
      → i < length ps → p ≡ get_or ps i p → run stop gives after (split left op right p) s ≡ ended t (sides mts mfs)
      → run stop gives after (split_all left op right (drop (i + 1) ps) (sides (ts ++ mts) (fs ++ mfs))) t
      ≡ run stop gives after (split_all left op right (drop i ps) (sides ts fs)) s
  split-turn left op right ps i p ts fs mts mfs s t lt is asked =
      sym (ap (λ l. run stop gives after (split_all left op right l (sides ts fs)) s) (left_at ps i p lt is)
      ∙ goes_on stop gives after (split left op right p) (λ x. split_all left op right (drop (i + 1) ps) (joined (sides ts fs) x)) s t (sides mts mfs) asked)

  pub store-turn : (array : ℕ) (index value : Simple) (place : Place) (ps : List Picture) (i : ℕ) (p q : Picture) (out : List Picture) (ws more : List Warning) (s t : S)
      → i < length ps → p ≡ get_or ps i p → run stop gives after (store_rule array index value place p ws) s ≡ ended t (judged more q)
      → run stop gives after (store_all array index value place (drop (i + 1) ps) (walked more (out ++ q ∷ []))) t
      ≡ run stop gives after (store_all array index value place (drop i ps) (walked ws out)) s
  store-turn array index value place ps i p q out ws more s t lt is asked =
      sym (ap (λ l. run stop gives after (store_all array index value place l (walked ws out)) s) (left_at ps i p lt is)
      ∙ goes_on stop gives after (store_rule array index value place p ws) (λ j. store_all array index value place (drop (i + 1) ps) (walked j.warnings (out ++ j.picture ∷ []))) s t (judged more q) asked)
