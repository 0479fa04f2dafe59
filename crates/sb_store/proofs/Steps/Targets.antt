-- the rule of a store by its target
use Rattle.std.proofs.Common.{◌≡◌, ℕ, List, Option, Some, None, slice_get, refl, sym, ap, subst, ◌∙◌, Result}
use Rattle.sb_base.specs.declared.refusals.Place.{Place}
use Rattle.sb_term.specs.Linear.{Linear}
use Rattle.sb_picture.specs.declared.picture.Value.{Value}
use Rattle.sb_picture.specs.declared.picture.Value.TheVariants.{Number, Pointer, Unknown}
use Rattle.sb_picture.specs.declared.picture.Region.{Region}
use Rattle.sb_picture.specs.declared.picture.Picture.{Picture}
use Rattle.sb_store.specs.declared.warning.Warning.{Warning}
use Rattle.sb_term.specs.declared.query.Query.{Query}
use Rattle.sb_term.specs.declared.answer.Answer.{Answer}
use Rattle.sb_term.specs.declared.fault.DecideFault.{DecideFault}
use Rattle.sb_term.specs.Asks.{Ended, run}
use Rattle.sb_store.specs.declared.target.Target.{Target}
use Rattle.sb_picture.specs.Ends.{EndsWith}
use Rattle.sb_store.specs.Stores.{Judged, store_in, store_by, store_to, target_in, target_by, offset_of}

store_to-target_in : (place : Place) (p : Picture) (r : ℕ) (g : Option Region) (o v : Option Linear) (ws : List Warning)
    → store_to place p (target_in r g o) v ws ≡ store_in place p r g o v ws
store_to-target_in place p r None o v ws = refl
store_to-target_in place p r (Some g) None v ws = refl
store_to-target_in place p r (Some g) (Some o) v ws = refl

pub store_to-target_by : (place : Place) (p : Picture) (x : Option Value) (index v : Option Linear) (ws : List Warning)
    → store_to place p (target_by p.regions x index) v ws ≡ store_by place p x index v ws
store_to-target_by place p None index v ws = refl
store_to-target_by place p (Some (Number t)) index v ws = refl
store_to-target_by place p (Some (Pointer r base)) index v ws = store_to-target_in place p r (slice_get p.regions r) (offset_of base index) v ws
store_to-target_by place p (Some Unknown) index v ws = refl

module _ {S : Type 0} (stop : S → Option DecideFault) (gives : S → Query → Answer) (after : S → Query → S) where
  pub store_by-known : {U : Type 0} (shown : U → Judged) (place : Place) (p : Picture) (x : Option Value) (index w v : Option Linear) (ws : List Warning) (to : Option Target) (s t : S) (r : Result U DecideFault)
      → to ≡ target_by p.regions x index → w ≡ v
      → EndsWith r shown t (run stop gives after (store_to place p to w ws) s)
      → EndsWith r shown t (run stop gives after (store_by place p x index v ws) s)
  store_by-known shown place p x index w v ws to s t r found same h =
      let E : Ended S Judged → Type 0 = λ e. EndsWith r shown t e in
      subst E (ap (λ y. run stop gives after (store_to place p y w ws) s) found ∙ ap (λ y. run stop gives after (store_to place p (target_by p.regions x index) y ws) s) same
      ∙ ap (λ a. run stop gives after a s) (store_to-target_by place p x index v ws)) h

  pub store_to-known : {U : Type 0} (shown : U → Judged) (place : Place) (p : Picture) (to found : Option Target) (v : Option Linear) (ws : List Warning) (s t : S) (r : Result U DecideFault)
      → to ≡ found → EndsWith r shown t (run stop gives after (store_to place p found v ws) s) → EndsWith r shown t (run stop gives after (store_to place p to v ws) s)
  store_to-known shown place p to found v ws s t r is h =
      let E : Option Target → Type 0 = λ y. EndsWith r shown t (run stop gives after (store_to place p y v ws) s) in
      subst E (sym is) h
