-- what a step leaves of a description: values, regions, permission and the frame, from what is shown of each region and cell
use Rattle.std.proofs.Common.{◌≡◌, ℕ, zero, suc, ◌+◌, ◌<◌, ◌≤◌, List, [], ◌∷◌, length, slice_get, ℤ, ◌+ℤ◌, Option, Some, None, refl, sym, ap, ◌∙◌, subst, arith}
use Rattle.std.proofs.lemmas.Int.{ints}
use Rattle.sb_term.specs.Linear.{Linear, value}
use Rattle.sb_term.specs.Rows.{AllHold}
use Rattle.sb_function.specs.declared.syntax.Param.{Param}
use Rattle.sb_picture.specs.declared.picture.Value.{Value}
use Rattle.sb_picture.specs.declared.picture.Value.TheVariants.{Number, Pointer, Unknown}
use Rattle.sb_picture.specs.declared.picture.Region.{Region}
use Rattle.sb_picture.specs.declared.picture.Cell.{Cell}
use Rattle.sb_picture.specs.declared.picture.Picture.{Picture}
use Rattle.sb_picture.specs.Memory.{Memory, Pointer as Address, byte_at, int_bytes}
use Rattle.sb_picture.specs.Machine.{Held, Count, Leads}
use Rattle.sb_picture.specs.Contract.{Keeps, MayWrite}
use Rattle.sb_picture.specs.Pictures.{next}
use Rattle.sb_picture.specs.Describes.{Spot, Setting, IsHere, BytesAt, CellIs, PointsTo, PointsIn, ValueIs, ValuesAre, Permits, IsBelow, ValueIsBelow, RegionIsBelow, IsFormed, Describes, Since}
use Rattle.sb_picture.proofs.Soundness.Elements.{Each}
use Rattle.sb_picture.proofs.Soundness.Points.{below_more}
use Rattle.sb_picture.proofs.Soundness.Bytes.{bytes_still}
use Rattle.sb_picture.proofs.Soundness.Regions.{Stays, value_still, Grown}

-- presence and extent of a region keep their integers
pub presence_still : (n k : ℕ) (σ point : ℕ → ℤ) (m now : Memory) → Stays n σ point m now → (spot : Spot) (g h : Region) → RegionIsBelow n g
    → Grown σ point now spot k g h → value point h.presence ≡ value σ g.presence
presence_still n k σ point m now st spot g h b grown =
    ap (λ (t : Linear). value point t) grown.presence ∙ value_still n σ point m now st g.presence b.presence

pub extent_still : (n k : ℕ) (σ point : ℕ → ℤ) (m now : Memory) → Stays n σ point m now → (spot : Spot) (g h : Region) → RegionIsBelow n g
    → Grown σ point now spot k g h → value point h.extent ≡ value σ g.extent
extent_still n k σ point m now st spot g h b grown =
    ap (λ (t : Linear). value point t) grown.extent ∙ value_still n σ point m now st g.extent b.extent

-- a cell whose bytes stay
pub cell_still : (n : ℕ) (σ point : ℕ → ℤ) (m now : Memory) → Stays n σ point m now → (spot : Spot) (g h : Region) (c : Cell) → value point h.extent ≡ value σ g.extent
    → IsBelow n c.offset → IsBelow n c.value → (old : CellIs σ m spot g c)
    → ((b : ℕ) → old.at ≤ b → b < old.at + 4 → byte_at now spot.object b ≡ byte_at m spot.object b) → CellIs point now spot h c
cell_still n σ point m now st spot g h c e bo bv old same =
    let o = value_still n σ point m now st c.offset bo in
    let v = value_still n σ point m now st c.value bv in
    let from = old.from in
    let end = old.end in
    let there = old.there in
    record {
      from = omega (arith, ints);
      end = omega (arith, ints);
      at = old.at;
      there = omega (arith, ints);
      holds = subst (λ (z : ℤ). BytesAt now spot.object old.at (int_bytes z)) (sym v) (bytes_still m now spot.object old.at (int_bytes (value σ c.value)) same old.holds);
    }

-- a frame that goes on
pub keeps_then : (T U : ℕ → ℕ → Type 0) (a b c : Memory) → ((o k : ℕ) → U o k → T o k) → Keeps T a b → Keeps U b c → Keeps T a c
keeps_then T U a b c wider first rest = record {
  sizes = λ o size h. rest.sizes o size (first.sizes o size h);
  written = λ o k h. rest.written o k (first.written o k h);
  same = λ o k h untouched. rest.same o k (first.written o k h) (λ u. untouched (wider o k u)) ∙ first.same o k h untouched;
}

-- what a step shows of each part of the picture after it
pub record Stepped (p : Picture) (σ : Setting) (m : Memory) (q : Picture) (point : ℕ → ℤ) (now : Memory) : Type 0 where
  pub stays : Stays (next p) σ.point point m now
  pub more : next p ≤ next q
  pub facts : AllHold point q.facts
  pub named : Each (λ r. IsBelow (next q) r.term) q.facts
  pub values : q.values ≡ p.values
  pub count : length q.regions ≡ length p.regions
  pub onto : (j : ℕ) (g : Region) → slice_get p.regions j ≡ Some g → (h : Region) × (slice_get q.regions j ≡ Some h) × Grown σ.point point now (σ.spots j) (next q) g h
  pub back : (j : ℕ) (h : Region) → slice_get q.regions j ≡ Some h → (g : Region) × (slice_get p.regions j ≡ Some g) × Grown σ.point point now (σ.spots j) (next q) g h
  pub cells : (at : ℕ) (c : Cell) (h : Region) → slice_get q.cells at ≡ Some c → slice_get q.regions c.region ≡ Some h → IsHere point h → CellIs point now (σ.spots c.region) h c
  pub placed : Each (λ c. (c.region < length q.regions) × IsBelow (next q) c.offset × IsBelow (next q) c.value) q.cells
  pub frame : Keeps (λ o k. Permits σ p.regions o k) m now

module _ (p : Picture) (σ : Setting) (m : Memory) (q : Picture) (point : ℕ → ℤ) (now : Memory) (s : Stepped p σ m q point now) (formed : IsFormed p) where
  pub setting_after : Setting
  setting_after = record { point = point; spots = σ.spots }

  value_then : (v : Value) (h : Held) → ValueIsBelow (next p) (length p.regions) v → ValueIs σ p.regions v h → ValueIs setting_after q.regions v h
  unfolding setting_after
  value_then (Number t) (Count z) b e = value_still (next p) σ.point point m now s.stays t b ∙ e
  value_then (Number t) (Leads a) b e = e
  value_then (Pointer r o) (Count z) b e = e
  value_then Unknown h b e = tt
  value_then (Pointer r o) (Leads a) b e = by (slice_get p.regions r) refl e
    where
      by : (x : Option Region) → slice_get p.regions r ≡ x → PointsIn σ r x o a → PointsIn setting_after r (slice_get q.regions r) o a
      by None there k = absurd k
      by (Some g) there k =
          let h = s.onto r g there in
          let same = presence_still (next p) (next q) σ.point point m now s.stays (σ.spots r) g h.0 (formed.regions r g there) h.2 in
          let v = value_still (next p) σ.point point m now s.stays o b.1 in
          let ends : PointsTo setting_after r h.0 o a =
          (λ here. subst (λ (z : ℤ). a ≡ Address.At (σ.spots r).object ((σ.spots r).start +ℤ z)) (sym v) (k.0 (omega (arith, ints))), λ gone. k.1 (omega (arith, ints))) in
          subst (λ (x : Option Region). PointsIn setting_after r x o a) (sym h.1) ends

  values_then : (vs : List Value) (hs : List Held) → Each (λ v. ValueIsBelow (next p) (length p.regions) v) vs → ValuesAre σ p.regions vs hs → ValuesAre setting_after q.regions vs hs
  values_then [] [] b e = tt
  values_then [] (h ∷ hs) b e = e
  values_then (v ∷ vs) [] b e = e
  values_then (v ∷ vs) (h ∷ hs) b e = (value_then v h (b zero v refl) e.0, values_then vs hs (λ at x g. b (suc at) x g) e.1)

  permits_then : (o k : ℕ) → Permits setting_after q.regions o k → Permits σ p.regions o k
  unfolding setting_after
  permits_then o k x =
      let g = s.back x.at x.region x.stands in
      let b = formed.regions x.at g.0 g.1 in
      let here = presence_still (next p) (next q) σ.point point m now s.stays (σ.spots x.at) g.0 x.region b g.2 in
      let size = extent_still (next p) (next q) σ.point point m now s.stays (σ.spots x.at) g.0 x.region b g.2 in
      let stands = x.here in
      let w = x.within in
      let w2 = w.2 in
      record { at = x.at; region = g.0; stands = g.1; here = omega (arith, ints); within = (w.0, w.1, omega (arith, ints)) }

  formed_then : IsFormed q
  formed_then = record {
    facts = s.named;
    values = λ at v e. value_below v (formed.values at v (subst (λ (xs : List Value). slice_get xs at ≡ Some v) s.values e));
    regions = λ at h e. let g = s.back at h e in let grown = g.2 in grown.below;
    cells = s.placed;
  }
    where
      value_below : (v : Value) → ValueIsBelow (next p) (length p.regions) v → ValueIsBelow (next q) (length q.regions) v
      value_below (Number t) b = below_more (next p) (next q) t s.more b
      value_below (Pointer r o) b = let lt = b.0 in let count = s.count in (omega arith, below_more (next p) (next q) o s.more b.1)
      value_below Unknown b = tt

  pub stepped_since : Since p σ m q setting_after now
  unfolding setting_after
  stepped_since = record {
    below = s.more;
    same = λ n lt. let st = s.stays in st.same n lt;
    spots = λ r lt. refl;
    frame = s.frame;
    permits = permits_then;
    regions = λ r g e.
        let h = s.onto r g e in
        let b = formed.regions r g e in
        let grown = h.2 in (
          h.0,
          h.1,
          record {
            presence = presence_still (next p) (next q) σ.point point m now s.stays (σ.spots r) g h.0 b grown;
            extent = extent_still (next p) (next q) σ.point point m now s.stays (σ.spots r) g h.0 b grown;
            written = grown.written;
          },
        );
  }

  pub stepped_describes : (params : List Param) (args : List Held) (before : Memory) → Describes params args before m p σ → Describes params args before now q setting_after
  unfolding setting_after
  stepped_describes params args before d = record {
    facts = s.facts;
    values = subst (λ (vs : List Value). ValuesAre setting_after q.regions vs args) (sym s.values) (values_then p.values args formed.values d.values);
    shapes = λ r h e. let g = s.back r h e in let grown = g.2 in grown.shape;
    regions = λ r h e here. let g = s.back r h e in let grown = g.2 in grown.region here;
    cells = s.cells;
    apart = λ i j g h o k at also here there w v.
        let x = s.back i g at in
        let y = s.back j h also in
        let bx = formed.regions i x.0 x.1 in
        let by = formed.regions j y.0 y.1 in
        let px = presence_still (next p) (next q) σ.point point m now s.stays (σ.spots i) x.0 g bx x.2 in
        let py = presence_still (next p) (next q) σ.point point m now s.stays (σ.spots j) y.0 h by y.2 in
        let ex = extent_still (next p) (next q) σ.point point m now s.stays (σ.spots i) x.0 g bx x.2 in
        let ey = extent_still (next p) (next q) σ.point point m now s.stays (σ.spots j) y.0 h by y.2 in
        let w2 = w.2 in
        let v2 = v.2 in
        d.apart i j x.0 y.0 o k x.1 y.1 (omega (arith, ints)) (omega (arith, ints)) (w.0, w.1, omega (arith, ints)) (v.0, v.1, omega (arith, ints));
    permitted = λ o k x. d.permitted o k (permits_then o k x);
    kept = keeps_then (λ o k. MayWrite params args o k) (λ o k. Permits σ p.regions o k) before m now d.permitted d.kept s.frame;
    formed = formed_then;
  }
