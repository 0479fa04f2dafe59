-- steps after one another: what a step leaves of a picture's state, from the first picture to the last
use Rattle.std.proofs.Common.{◌≡◌, ℕ, ◌+◌, ◌<◌, ◌≤◌, List, ◌++◌, map, length, slice_get, Some, inl, inr, refl, ◌∙◌, arith}
use Rattle.std.proofs.lemmas.Int.{ints}
use Rattle.std.proofs.lemmas.Option.{slice_get_cases}
use Rattle.sb_function.specs.declared.syntax.Param.{Param}
use Rattle.sb_picture.specs.declared.picture.Picture.{Picture}
use Rattle.sb_picture.specs.Memory.{Memory}
use Rattle.sb_picture.specs.Machine.{Held, Outcome, Next, Faulted}
use Rattle.sb_picture.specs.Contract.{Keeps}
use Rattle.sb_picture.specs.Pictures.{next}
use Rattle.sb_picture.specs.Tidying.{tidied}
use Rattle.sb_picture.specs.Describes.{Setting, Describes, Permits, Since, Covered}
use Rattle.sb_picture.specs.Laws.{TidyLaw}
use Rattle.sb_judge.specs.Laws.{IsCovered}
use Rattle.sb_picture.proofs.Soundness.Items.{slice_get-append_right, slice_get-map_at}
use Rattle.sb_picture.proofs.Soundness.Elements.{get-append, get_below}
use Rattle.sb_picture.proofs.Soundness.Stepped.{keeps_then}

-- memory that nothing touches
pub keeps_same : (T : ℕ → ℕ → Type 0) (m : Memory) → Keeps T m m
keeps_same T m = record { sizes = λ o size e. e; written = λ o k w. w; same = λ o k w away. refl }

pub since_same : (p : Picture) (σ : Setting) (m : Memory) → Since p σ m p σ m
since_same p σ m = record {
  below = omega arith;
  same = λ n h. refl;
  spots = λ r h. refl;
  frame = keeps_same (λ o k. Permits σ p.regions o k) m;
  permits = λ o k h. h;
  regions = λ r g e. (g, e, record { presence = refl; extent = refl; written = omega (arith, ints) });
}

-- a region that stood stands after a step
since_stands : (p q : Picture) (σ τ : Setting) (m n : Memory) → Since p σ m q τ n → (r : ℕ) → r < length p.regions → r < length q.regions
since_stands p q σ τ m n s r h =
    elim (slice_get_cases p.regions r).1 [
      | inl x ↦ let k = s.regions r x.0 x.2 in get_below q.regions r k.0 k.1
      | inr x ↦ absurd (omega (arith, x.0))
    ]

pub since_then : (p q r : Picture) (σ τ υ : Setting) (m n l : Memory) → Since p σ m q τ n → Since q τ n r υ l → Since p σ m r υ l
since_then p q r σ τ υ m n l first rest = record {
  below = (let a = first.below in let b = rest.below in omega arith);
  same = λ k h. (let b : next p ≤ next q = first.below in rest.same k (omega arith) ∙ first.same k h);
  spots = λ k h. rest.spots k (since_stands p q σ τ m n first k h) ∙ first.spots k h;
  frame = keeps_then (λ o k. Permits σ p.regions o k) (λ o k. Permits τ q.regions o k) m n l first.permits first.frame rest.frame;
  permits = λ o k h. first.permits o k (rest.permits o k h);
  regions = λ k g e.
      let a = first.regions k g e in
      let b = rest.regions k a.0 a.1 in
      let x = a.2 in
      let y = b.2 in
      (b.0, b.1, record { presence = y.presence ∙ x.presence; extent = y.extent ∙ x.extent; written = (let u = x.written in let v = y.written in omega (arith, ints)) });
}

-- each item of one list is in another
abbrev pub Among : {A : Type 0} → List A → List A → Type 0
Among {A} xs ys = (at : ℕ) (x : A) → slice_get xs at ≡ Some x → (k : ℕ) × (slice_get ys k ≡ Some x)

pub among_same : {A : Type 0} (xs : List A) → Among xs xs
among_same xs at x e = (at, e)

pub among_left : {A : Type 0} (xs ys zs : List A) → Among (xs ++ ys) zs → Among xs zs
among_left xs ys zs h at x e = h at x (get-append xs ys at x e)

pub among_right : {A : Type 0} (xs ys zs : List A) → Among (xs ++ ys) zs → Among ys zs
among_right xs ys zs h at x e = h (length xs + at) x (slice_get-append_right xs ys at ∙ e)

module _ (params : List Param) (args : List Held) (before : Memory) where
  pub covered_among : (p : Picture) (σ : Setting) (m now : Memory) (qs rs : List Picture) → Among qs rs
      → Covered params args before p σ m now qs → Covered params args before p σ m now rs
  covered_among p σ m now qs rs among c =
      let k = among c.at c.picture c.stands in
      record { at = k.0; picture = c.picture; setting = c.setting; stands = k.1; describes = c.describes; since = c.since }

  -- a picture of the list that describes the state covers it
  pub covered_here : (at : ℕ) (p : Picture) (σ : Setting) (m : Memory) (qs : List Picture) → slice_get qs at ≡ Some p
      → Describes params args before m p σ → Covered params args before p σ m m qs
  covered_here at p σ m qs e d = record { at = at; picture = p; setting = σ; stands = e; describes = d; since = since_same p σ m }

  pub covered_then : (p q : Picture) (σ τ : Setting) (m n now : Memory) (rs : List Picture) → Since p σ m q τ n
      → Covered params args before q τ n now rs → Covered params args before p σ m now rs
  covered_then p q σ τ m n now rs s c =
      record {
        at = c.at;
        picture = c.picture;
        setting = c.setting;
        stands = c.stands;
        describes = c.describes;
        since = since_then p q c.picture σ τ c.setting m n now s c.since;
      }

  -- tidying changes neither numbers nor regions
  pub since_tidied : (p q : Picture) (σ τ : Setting) (m now : Memory) → Since p σ m q τ now → Since p σ m (tidied q) τ now
  since_tidied p q σ τ m now s =
      record { below = s.below; same = s.same; spots = s.spots; frame = s.frame; permits = s.permits; regions = s.regions }

  pub covered_tidied : TidyLaw → (p : Picture) (σ : Setting) (m now : Memory) (qs : List Picture)
      → Covered params args before p σ m now qs → Covered params args before p σ m now (map tidied qs)
  covered_tidied tidy p σ m now qs c =
      record {
        at = c.at;
        picture = tidied c.picture;
        setting = c.setting;
        stands = slice_get-map_at tidied qs c.at c.picture c.stands;
        describes = tidy params args before now c.picture c.setting c.describes;
        since = since_tidied p c.picture σ c.setting m now c.since;
      }

  -- the same of how a step ends
  pub ends_among : (p : Picture) (σ : Setting) (m : Memory) (qs rs : List Picture) → Among qs rs → (end : Outcome)
      → IsCovered params args before p σ m qs end → IsCovered params args before p σ m rs end
  ends_among p σ m qs rs among (Next now) c = covered_among p σ m now qs rs among c
  ends_among p σ m qs rs among (Faulted fault place) c = c

  pub ends_then : (p q : Picture) (σ τ : Setting) (m n : Memory) (rs : List Picture) → Since p σ m q τ n → (end : Outcome)
      → IsCovered params args before q τ n rs end → IsCovered params args before p σ m rs end
  ends_then p q σ τ m n rs s (Next now) c = covered_then p q σ τ m n now rs s c
  ends_then p q σ τ m n rs s (Faulted fault place) c = c

  pub ends_tidied : TidyLaw → (p : Picture) (σ : Setting) (m : Memory) (qs : List Picture) → (end : Outcome)
      → IsCovered params args before p σ m qs end → IsCovered params args before p σ m (map tidied qs) end
  ends_tidied tidy p σ m qs (Next now) c = covered_tidied tidy p σ m now qs c
  ends_tidied tidy p σ m qs (Faulted fault place) c = c
