-- elimination of dead symbols: what holds of all facts and of a row formed from two of them holds of the rows that are left
use Rattle.std.proofs.Common.{◌≡◌, ℕ, suc, ◌-◌, ◌/◌, List, [], ◌∷◌, ◌++◌, length, take, ℤ, pos, Option, Some, None, Bool, true, false, refl, subst, arith}
use Rattle.std.specs.Prelude.{filter, nat_le, int_lt, unsigned_abs, if◌then◌else◌}
use Rattle.std.proofs.lemmas.Int.{ints}
use Rattle.sb_term.specs.declared.row.Row.{Row}
use Rattle.sb_term.specs.Linear.{Linear, value, formed, coefficient_of}
use Rattle.sb_term.specs.Ratio.{gcd}
use Rattle.sb_term.specs.Rows.{Holds, AllHold}
use Rattle.sb_term.specs.Ring.{≤ℤ-*ℤ}
use Rattle.sb_term.specs.Values.{value-combined, AreBelow-merged}
use Rattle.sb_picture.specs.declared.picture.Picture.{Picture}
use Rattle.sb_picture.specs.Pictures.{has_symbol, same_entries, next}
use Rattle.sb_picture.specs.Tidying.{is_above, is_below, is_without, cancelled_by, cancelled, tighter, placed_row, placed, placed_below, placed_all, eliminated, is_cheap, Tidied, tidied_by, tidied_all, names_none, most, kept_facts, dead_symbols, tidied}
use Rattle.sb_picture.specs.Describes.{IsBelow}
use Rattle.sb_picture.specs.Laws.{TidyLaw}
use Rattle.sb_picture.proofs.Soundness.Points.{formed_is}
use Rattle.sb_picture.proofs.Soundness.Elements.{Each, each-cons, each-one, each-filter}

-- what holds of each item holds of the rest, and of a filtered list
rest_of : (P : Row → Type 0) (r : Row) (rs : List Row) → Each P (r ∷ rs) → Each P rs
rest_of P r rs h at x e = h (suc at) x e

each_filtered : (P : Row → Type 0) (test : Row → Bool) (rs : List Row) → Each P rs → Each P (filter test rs)
each_filtered P test rs h at x e = (each-filter P test rs h at x e).0

module _ (P : Row → Type 0) (closed : (a b : ℕ) (x y : Row) → P x → P y → P (record { term = cancelled_by a b x.term y.term })) where
  placed_row-each : (rows : List Row) (t : Linear) → Each P rows → P (record { term = t }) → Each P (placed_row rows t)
  placed_row-each [] t h k = each-one P (record { term = t }) k
  placed_row-each (r ∷ rs) t h k = by (same_entries r.term.entries t.entries) (tight (int_lt t.rest r.term.rest)) (placed_row-each rs t (rest_of P r rs h) k)
    where
      tight : (b : Bool) → P (if b then record { term = t } else r)
      tight true = k
      tight false = h 0 r refl

      by : (b : Bool) → P (tighter r t) → Each P (placed_row rs t) → Each P (if b then tighter r t ∷ rs else r ∷ placed_row rs t)
      by true p q = each-cons P (tighter r t) rs p (rest_of P r rs h)
      by false p q = each-cons P r (placed_row rs t) (h 0 r refl) q

  placed-each : (rows : List Row) (c : Option Linear) → Each P rows → ((t : Linear) → c ≡ Some t → P (record { term = t })) → Each P (placed rows c)
  placed-each rows None h k = h
  placed-each rows (Some t) h k = by (has_symbol t) (placed_row-each rows t h (k t refl))
    where
      by : (b : Bool) → Each P (placed_row rows t) → Each P (if b then placed_row rows t else rows)
      by true p = p
      by false p = h

  cancelled-holds : (s : ℕ) (x y : Row) → P x → P y → (t : Linear) → formed (cancelled s x y) ≡ Some t → P (record { term = t })
  cancelled-holds s x y px py t e =
      let Q : Linear → Type 0 = λ u. P (record { term = u }) in
      subst Q (formed_is (cancelled s x y) t e)
      (closed (unsigned_abs (coefficient_of s x.term.entries)) (unsigned_abs (coefficient_of s y.term.entries)) x y px py)

  placed_below-each : (s : ℕ) (x : Row) (ys rows : List Row) → P x → Each P ys → Each P rows → Each P (placed_below s x ys rows)
  placed_below-each s x [] rows px hy h = h
  placed_below-each s x (y ∷ ys) rows px hy h =
      placed_below-each s x ys (placed rows (formed (cancelled s x y))) px (rest_of P y ys hy)
      (placed-each rows (formed (cancelled s x y)) h (cancelled-holds s x y px (hy 0 y refl)))

  placed_all-each : (s : ℕ) (xs ys rows : List Row) → Each P xs → Each P ys → Each P rows → Each P (placed_all s xs ys rows)
  placed_all-each s [] ys rows hx hy h = h
  placed_all-each s (x ∷ xs) ys rows hx hy h =
      placed_all-each s xs ys (placed_below s x ys rows) (rest_of P x xs hx) hy (placed_below-each s x ys rows (hx 0 x refl) hy h)

  eliminated-each : (s : ℕ) (facts : List Row) → Each P facts → Each P (eliminated s facts)
  eliminated-each s facts h =
      placed_all-each s (filter (is_above s) facts) (filter (is_below s) facts) (filter (is_without s) facts)
      (each_filtered P (is_above s) facts h) (each_filtered P (is_below s) facts h) (each_filtered P (is_without s) facts h)

  tidied_by-each : (s : ℕ) (t : Tidied) → Each P t.facts → Each P (tidied_by s t).facts
  tidied_by-each s t h = by (is_cheap s t.facts) (eliminated-each s t.facts h)
    where
      by : (b : Bool) → Each P (eliminated s t.facts)
          → Each P (if◌then◌else◌ {A = Tidied} b (record { facts = eliminated s t.facts; stay = t.stay }) (record { facts = t.facts; stay = t.stay ++ s ∷ [] })).facts
      by true p = p
      by false p = h

  tidied_all-each : (ss : List ℕ) (t : Tidied) → Each P t.facts → Each P (tidied_all ss t).facts
  tidied_all-each [] t h = h
  tidied_all-each (s ∷ ss) t h = tidied_all-each ss (tidied_by s t) (tidied_by-each s t h)

  kept_facts-each : (t : Tidied) → Each P t.facts → Each P (kept_facts t)
  kept_facts-each t h = by (nat_le (length t.stay) most) (each_filtered P (names_none (take (length t.stay - most) t.stay)) t.facts h)
    where
      by : (b : Bool) → Each P (filter (names_none (take (length t.stay - most) t.stay)) t.facts)
          → Each P (if b then t.facts else filter (names_none (take (length t.stay - most) t.stay)) t.facts)
      by true p = h
      by false p = p

  pub tidied-each : (p : Picture) → Each P p.facts → Each P (tidied p).facts
  tidied-each p h =
      let t : Tidied = record { facts = p.facts; stay = [] } in
      kept_facts-each (tidied_all (dead_symbols p) t) (tidied_all-each (dead_symbols p) t h)

-- rows that hold, as a list of which each does
all_each : (point : ℕ → ℤ) (rows : List Row) → AllHold point rows → Each (Holds point) rows
all_each point [] h = λ at r e. let no_one : ⊥ = cc in absurd no_one
all_each point (r ∷ rows) h = each-cons (Holds point) r rows h.0 (all_each point rows h.1)

each_all : (point : ℕ → ℤ) (rows : List Row) → Each (Holds point) rows → AllHold point rows
each_all point [] h = tt
each_all point (r ∷ rows) h = (h 0 r refl, each_all point rows (rest_of (Holds point) r rows h))

cancelled_by-holds : (point : ℕ → ℤ) (a b : ℕ) (x y : Row) → Holds point x → Holds point y → Holds point (record { term = cancelled_by a b x.term y.term })
cancelled_by-holds point a b x y hx hy =
    let v = value-combined point (pos (b / gcd a b)) (pos (a / gcd a b)) (pos 0) x.term y.term in
    let m = ≤ℤ-*ℤ (b / gcd a b) (pos 0) (value point x.term) hx in
    let n = ≤ℤ-*ℤ (a / gcd a b) (pos 0) (value point y.term) hy in
    omega (arith, ints)

cancelled_by-below : (n : ℕ) (a b : ℕ) (x y : Row) → IsBelow n x.term → IsBelow n y.term → IsBelow n (cancelled_by a b x.term y.term)
cancelled_by-below n a b x y hx hy = AreBelow-merged n (pos (b / gcd a b)) (pos (a / gcd a b)) x.term.entries y.term.entries hx hy

pub tidy_law : TidyLaw
tidy_law params args before m p σ d = record {
  facts = each_all σ.point (tidied p).facts (tidied-each (Holds σ.point) (cancelled_by-holds σ.point) p (all_each σ.point p.facts d.facts));
  values = d.values;
  shapes = d.shapes;
  regions = d.regions;
  cells = d.cells;
  apart = d.apart;
  permitted = d.permitted;
  kept = d.kept;
  formed = record {
    facts = tidied-each (λ r. IsBelow (next p) r.term) (cancelled_by-below (next p)) p d.formed.facts;
    values = d.formed.values;
    regions = d.formed.regions;
    cells = d.formed.cells;
  };
}
