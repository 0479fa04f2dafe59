-- the picture after a store describes the memory after it
use Rattle.std.proofs.Common.{◌≡◌, ◌≢◌, ℕ, ◌+◌, ◌<◌, ◌≤◌, List, [], ◌∷◌, length, slice_get, slice_set, filter, ℤ, pos, negsuc, ◌+ℤ◌, ◌-ℤ◌, ◌≤ℤ◌, ◌<ℤ◌, Bool, true, false, not, ◌||◌, nat_eq, int_le, if◌then◌else◌, Option, Some, None, ◌⊎◌, inl, inr, refl, sym, ap, ◌∙◌, subst, length-set, length-append, arith}
use Rattle.std.proofs.lemmas.Int.{ints}
use Rattle.std.proofs.lemmas.Bool.Decides.{nat_tests}
use Rattle.sb_term.specs.Linear.{Linear, constant, symbol, value, formed}
use Rattle.sb_term.specs.Rows.{AllHold}
use Rattle.sb_term.specs.Values.{value-constant, value-symbol}
use Rattle.sb_function.specs.declared.syntax.Param.{Param}
use Rattle.sb_picture.specs.declared.picture.Region.{Region}
use Rattle.sb_picture.specs.declared.picture.Cell.{Cell}
use Rattle.sb_picture.specs.declared.picture.Picture.{Picture}
use Rattle.sb_picture.specs.Memory.{Memory, byte_at, IsWritten, int_bytes}
use Rattle.sb_picture.specs.Machine.{Held}
use Rattle.sb_picture.specs.Contract.{Keeps}
use Rattle.sb_picture.specs.Pictures.{minus, plus, has_symbol, next}
use Rattle.sb_picture.specs.Regions.{with_prefix, with_island, greater, greater_end}
use Rattle.sb_store.specs.Stores.{is_far, is_apart, cells_after, with_fresh_prefix, grown_to, grown, with_cells, end_of, value_at_end, after_store}
use Rattle.sb_picture.specs.Describes.{Setting, IsHere, Within, BytesAt, CellIs, Permits, IsBelow, Describes}
use Rattle.sb_picture.proofs.Soundness.Elements.{Each, each-append, each-one, each-filter, get-set_same, get-set_other, get-set_cases, get_below}
use Rattle.sb_picture.proofs.Soundness.Points.{value-minus, value-plus, formed_is, IfFormed, IsNotBelow0, if_formed, below-minus, below-plus, below-constant, below-symbol, below_more, holds_agrees, hold-with_fact, below-with_fact}
use Rattle.sb_picture.proofs.Soundness.Asked.{value_of_rest}
use Rattle.sb_picture.proofs.Soundness.Bytes.{same_or_not, Changes}
use Rattle.sb_picture.proofs.Soundness.Regions.{int_le_or_lt, not_true, and_true, or_true, Stays, value_still, Grown, stays_grown, prefix_grown, island_grown}
use Rattle.sb_picture.proofs.Soundness.Stepped.{presence_still, extent_still, cell_still, Stepped}

-- a store that lies in the extent of a region that is here, and what it leaves of memory
pub record Placed (p : Picture) (σ : Setting) (m now : Memory) (r : ℕ) (g : Region) (o : Linear) (z : ℤ) : Type 0 where
  pub stands : slice_get p.regions r ≡ Some g
  pub here : IsHere σ.point g
  pub low : pos 0 ≤ℤ value σ.point o
  pub high : (value σ.point o +ℤ pos 4) ≤ℤ value σ.point g.extent
  pub named : IsBelow (next p) o
  pub from : ℕ
  pub there : (σ.spots r).start +ℤ value σ.point o ≡ pos from
  pub changes : Changes m now (σ.spots r).object from (int_bytes z)

-- a constant difference of 4 or more
far_is : (p : ℕ → ℤ) (t u : Linear) → is_far (formed (minus t u (pos 0))) ≡ true → ((value p u +ℤ pos 4) ≤ℤ value p t) ⊎ ((value p t +ℤ pos 4) ≤ℤ value p u)
far_is p t u e = by (formed (minus t u (pos 0))) refl e
  where
    by : (d : Option Linear) → formed (minus t u (pos 0)) ≡ d → is_far d ≡ true → ((value p u +ℤ pos 4) ≤ℤ value p t) ⊎ ((value p t +ℤ pos 4) ≤ℤ value p u)
    by None f g = let no_one : ⊥ = cc in absurd no_one
    by (Some d) f g =
        let h = and_true (not (has_symbol d)) (int_le (pos 4) d.rest || int_le d.rest (negsuc 3)) g in
        let r = value_of_rest p d (not_true (has_symbol d) h.0) in
        let v = value-minus p t u (pos 0) in
        let s : value p (minus t u (pos 0)) ≡ value p d = ap (λ (x : Linear). value p x) (formed_is (minus t u (pos 0)) d f) in
        elim (or_true (int_le (pos 4) d.rest) (int_le d.rest (negsuc 3)) h.1) [
          | inl k ↦ inl (let q : pos 4 ≤ℤ d.rest = grind (arith, ints) in omega (arith, ints))
          | inr k ↦ inr (let q : d.rest ≤ℤ negsuc 3 = grind (arith, ints) in omega (arith, ints))
        ]

not_same : (a b : ℕ) → a ≡ b → not (nat_eq a b) ≡ true → ⊥
not_same a b e h = let f = not_true (nat_eq a b) h in grind (arith, nat_tests)

-- one symbol with an integer of its own
pub put : (ℕ → ℤ) → ℕ → ℤ → ℕ → ℤ
put point n w s = if nat_eq s n then w else point s

pub put_here : (point : ℕ → ℤ) (n : ℕ) (w : ℤ) → put point n w n ≡ w
unfolding put
put_here point n w = by (nat_eq n n) refl
  where
    by : (b : Bool) → nat_eq n n ≡ b → (if b then w else point n) ≡ w
    by true e = refl
    by false e = absurd (grind (arith, nat_tests))

pub put_below : (point : ℕ → ℤ) (n : ℕ) (w : ℤ) (s : ℕ) → s < n → put point n w s ≡ point s
unfolding put
put_below point n w s lt = by (nat_eq s n) refl
  where
    by : (b : Bool) → nat_eq s n ≡ b → (if b then w else point s) ≡ point s
    by true e = absurd (grind (arith, nat_tests))
    by false e = refl

-- the greater of two ends
abbrev IsGreater : (ℕ → ℤ) → Linear → Linear → Linear → Type 0
IsGreater p w end x = (x ≡ w) × (value p end ≤ℤ value p w) ⊎ (x ≡ end) × (value p w ≤ℤ value p end)

greater_is : (p : ℕ → ℤ) (w end x : Linear) → greater_end w end ≡ Some x → IsGreater p w end x
greater_is p w end x e = by (formed (minus w end (pos 0))) refl e
  where
    sides : (d : Linear) → value p d ≡ value p w -ℤ value p end → value p d ≡ d.rest → (b : Bool) → int_le (pos 0) d.rest ≡ b → (if b then Some w else Some end) ≡ Some x → IsGreater p w end x
    sides d v rest true le g = inl (cc, let q : pos 0 ≤ℤ d.rest = grind (arith, ints) in omega (arith, ints))
    sides d v rest false le g = inr (cc, let q : d.rest <ℤ pos 0 = grind (arith, ints) in omega (arith, ints))

    known : (d : Linear) → value p d ≡ value p w -ℤ value p end → (b : Bool) → has_symbol d ≡ b → (if b then None else (if int_le (pos 0) d.rest then Some w else Some end)) ≡ Some x → IsGreater p w end x
    known d v true none g = let no_one : ⊥ = cc in absurd no_one
    known d v false none g = sides d v (value_of_rest p d none) (int_le (pos 0) d.rest) refl g

    by : (d : Option Linear) → formed (minus w end (pos 0)) ≡ d → greater w end d ≡ Some x → IsGreater p w end x
    by None f g = let no_one : ⊥ = cc in absurd no_one
    by (Some d) f g =
        let s : value p (minus w end (pos 0)) ≡ value p d = ap (λ (y : Linear). value p y) (formed_is (minus w end (pos 0)) d f) in
        let v = value-minus p w end (pos 0) in
        known d (omega (arith, ints)) (has_symbol d) refl g

-- a point at which the picture after a step describes what it leaves
pub record Goes (p : Picture) (σ : Setting) (m : Memory) (q : Picture) (now : Memory) : Type 0 where
  pub point : ℕ → ℤ
  pub stepped : Stepped p σ m q point now

-- the regions after the store
record Regioned (p : Picture) (σ : Setting) (now : Memory) (point : ℕ → ℤ) (k : ℕ) (hs : List Region) : Type 0 where
  count : length hs ≡ length p.regions
  onto : (j : ℕ) (g : Region) → slice_get p.regions j ≡ Some g → (h : Region) × (slice_get hs j ≡ Some h) × Grown σ.point point now (σ.spots j) k g h
  back : (j : ℕ) (h : Region) → slice_get hs j ≡ Some h → (g : Region) × (slice_get p.regions j ≡ Some g) × Grown σ.point point now (σ.spots j) k g h

module _ (params : List Param) (args : List Held) (before m : Memory) (p : Picture) (σ : Setting) (d : Describes params args before m p σ)
    (now : Memory) (r : ℕ) (g : Region) (o : Linear) (z : ℤ) (pl : Placed p σ m now r g o z) where
  stays_at : (point : ℕ → ℤ) → ((s : ℕ) → s < next p → point s ≡ σ.point s) → Stays (next p) σ.point point m now
  stays_at point same = let c = pl.changes in record { same = same; sizes = c.sizes; written = c.written }

  each_grown : (k : ℕ) (point : ℕ → ℤ) → next p ≤ k → Stays (next p) σ.point point m now → (j : ℕ) (h : Region) → slice_get p.regions j ≡ Some h
      → Grown σ.point point now (σ.spots j) k h h
  each_grown k point le st j h e =
      let f = d.formed in
      stays_grown (next p) k σ.point point m now le st (σ.spots j) h (f.regions j h e) (d.shapes j h e) (d.regions j h e)

  regioned_same : (k : ℕ) (point : ℕ → ℤ) → next p ≤ k → Stays (next p) σ.point point m now → Regioned p σ now point k p.regions
  regioned_same k point le st = record {
    count = refl;
    onto = λ j h e. (h, e, each_grown k point le st j h e);
    back = λ j h e. (h, e, each_grown k point le st j h e);
  }

  regioned_set : (k : ℕ) (point : ℕ → ℤ) → next p ≤ k → Stays (next p) σ.point point m now → (f : Region) → Grown σ.point point now (σ.spots r) k g f
      → Regioned p σ now point k (slice_set p.regions r f)
  regioned_set k point le st f grown = record {
    count = length-set p.regions r f;
    onto = λ j h e. by j h e (same_or_not j r);
    back = λ j h e. elim (get-set_cases p.regions r j h f e) [
      | inl x ↦ (
        g,
        subst (λ (i : ℕ). slice_get p.regions i ≡ Some g) (sym x.0) pl.stands,
        subst (λ (i : ℕ). Grown σ.point point now (σ.spots i) k g h) (sym x.0) (subst (λ (y : Region). Grown σ.point point now (σ.spots r) k g y) (sym x.1) grown),
      )
      | inr x ↦ (h, x.1, each_grown k point le st j h x.1)
    ];
  }
    where
      by : (j : ℕ) (h : Region) → slice_get p.regions j ≡ Some h → (j ≡ r) ⊎ (j ≢ r)
          → (x : Region) × (slice_get (slice_set p.regions r f) j ≡ Some x) × Grown σ.point point now (σ.spots j) k h x
      by j h e (inl s) =
          let was : slice_get p.regions r ≡ Some h = subst (λ (i : ℕ). slice_get p.regions i ≡ Some h) s e in
          let first = pl.stands in
          let eq : g ≡ h = cc in (
            f,
            subst (λ (i : ℕ). slice_get (slice_set p.regions r f) i ≡ Some f) (sym s) (get-set_same p.regions r h f was),
            subst (λ (i : ℕ). Grown σ.point point now (σ.spots i) k h f) (sym s) (subst (λ (y : Region). Grown σ.point point now (σ.spots r) k y f) eq grown),
          )
      by j h e (inr ne) = (h, get-set_other p.regions r j f ne ∙ e, each_grown k point le st j h e)

  -- a byte that the store writes is in the extent of the region
  within_region : (b : ℕ) → pl.from ≤ b → b < pl.from + 4 → Within (σ.spots r) (pos 0) (value σ.point g.extent) (σ.spots r).object b
  within_region b le lt =
      let there = pl.there in
      let low = pl.low in
      let high = pl.high in
      (refl, omega (arith, ints), omega (arith, ints))

  frame_after : Keeps (λ x k. Permits σ p.regions x k) m now
  frame_after =
      let c = pl.changes in
      record {
        sizes = λ x size h. c.sizes x ∙ h;
        written = c.written;
        same = λ x k h untouched. c.same x k (λ t.
            let w = within_region k t.1 t.2 in
            untouched (record { at = r; region = g; stands = pl.stands; here = pl.here; within = (t.0, w.1, w.2) }));
      }

  -- the bytes of a cell that the store leaves
  cell_apart : (c : Cell) (h : Region) → is_apart r o c ≡ true → slice_get p.regions c.region ≡ Some h → IsHere σ.point h → (old : CellIs σ.point m (σ.spots c.region) h c)
      → (b : ℕ) → old.at ≤ b → b < old.at + 4 → byte_at now (σ.spots c.region).object b ≡ byte_at m (σ.spots c.region).object b
  cell_apart c h test e here old b le lt = let x = pl.changes in x.same (σ.spots c.region).object b (λ t. by t (same_or_not c.region r))
    where
      by : ((σ.spots c.region).object ≡ (σ.spots r).object) × (pl.from ≤ b) × (b < pl.from + 4) → (c.region ≡ r) ⊎ (c.region ≢ r) → ⊥
      by t (inr ne) =
          let w = within_region b t.1 t.2 in
          let there = old.there in
          let low = old.from in
          let high = old.end in
          ne (d.apart c.region r h g (σ.spots c.region).object b e pl.stands here pl.here (refl, omega (arith, ints), omega (arith, ints)) (t.0, w.1, w.2))
      by t (inl s) = elim (or_true (not (nat_eq c.region r)) (is_far (formed (minus c.offset o (pos 0)))) test) [
        | inl n ↦ not_same c.region r s n
        | inr f ↦
            let spot : (σ.spots c.region).start ≡ (σ.spots r).start = ap (λ (i : ℕ). (σ.spots i).start) s in
            let there = old.there in
            let here = pl.there in
            let t1 = t.1 in
            let t2 = t.2 in
            elim (far_is σ.point c.offset o f) [ inl q ↦ omega (arith, ints) | inr q ↦ omega (arith, ints) ]
      ]

  -- what is shown of each cell of the picture
  CellWas : Cell → Type 0
  CellWas c = ((h : Region) → slice_get p.regions c.region ≡ Some h → IsHere σ.point h → CellIs σ.point m (σ.spots c.region) h c)
      × ((c.region < length p.regions) × IsBelow (next p) c.offset × IsBelow (next p) c.value)

  cells_were : Each CellWas p.cells
  unfolding CellWas
  cells_were at c e = let f = d.formed in (λ h there here. d.cells at c h e there here, f.cells at c e)

  module _ (k : ℕ) (point : ℕ → ℤ) (more : next p ≤ k) (st : Stays (next p) σ.point point m now) (hs : List Region) (rs : Regioned p σ now point k hs) where
    CellGoes : Cell → Type 0
    CellGoes c = ((h : Region) → slice_get hs c.region ≡ Some h → IsHere point h → CellIs point now (σ.spots c.region) h c)
        × ((c.region < length hs) × IsBelow k c.offset × IsBelow k c.value)

    cell_goes : (c : Cell) → CellWas c × (is_apart r o c ≡ true) → CellGoes c
    unfolding CellWas CellGoes
    cell_goes c was =
        let f = d.formed in
        let b = was.0.1 in
        let lt = b.0 in
        let count = rs.count in (
          λ h e here.
              let x = rs.back c.region h e in
              let rb = f.regions c.region x.0 x.1 in
              let pe = presence_still (next p) k σ.point point m now st (σ.spots c.region) x.0 h rb x.2 in
              let ee = extent_still (next p) k σ.point point m now st (σ.spots c.region) x.0 h rb x.2 in
              let there : IsHere σ.point x.0 = omega (arith, ints) in
              let old = was.0.0 x.0 x.1 there in
              cell_still (next p) σ.point point m now st (σ.spots c.region) x.0 h c ee b.1 b.2 old (cell_apart c x.0 was.1 x.1 there old),
          (omega arith, below_more (next p) k c.offset more b.1, below_more (next p) k c.value more b.2),
        )

    cell_new : (t : Linear) → IsBelow (next p) t → value σ.point t ≡ z → CellGoes (record { region = r; offset = o; value = t })
    unfolding CellGoes
    cell_new t bt v =
        let f = d.formed in
        let count = rs.count in
        let lt = get_below p.regions r g pl.stands in
        let vo = value_still (next p) σ.point point m now st o pl.named in
        let vt = value_still (next p) σ.point point m now st t bt in
        let there = pl.there in
        let low = pl.low in
        let high = pl.high in
        let c = pl.changes in (
          λ h e here.
              let x = rs.back r h e in
              let first = pl.stands in
              let at = x.1 in
              let eq : x.0 ≡ g = cc in
              let rb = f.regions r x.0 x.1 in
              let ee = extent_still (next p) k σ.point point m now st (σ.spots r) x.0 h rb x.2 in
              let eg : value σ.point x.0.extent ≡ value σ.point g.extent = ap (λ (y : Region). value σ.point y.extent) eq in
              record {
                from = omega (arith, ints);
                end = omega (arith, ints);
                at = pl.from;
                there = omega (arith, ints);
                holds = subst (λ (y : ℤ). BytesAt now (σ.spots r).object pl.from (int_bytes y)) (sym (vt ∙ v)) c.fresh;
              },
          (omega arith, below_more (next p) k o more pl.named, below_more (next p) k t more bt),
        )

    cells_go : (t : Option Linear) → IfFormed (λ u. IsBelow (next p) u × (value σ.point u ≡ z)) t → Each CellGoes (cells_after r o t p.cells)
    cells_go None h = λ at c e. cell_goes c (each-filter CellWas (is_apart r o) p.cells cells_were at c e)
    cells_go (Some u) h = each-append CellGoes (filter (is_apart r o) p.cells) (record { region = r; offset = o; value = u } ∷ [])
        (λ at c e. cell_goes c (each-filter CellWas (is_apart r o) p.cells cells_were at c e)) (each-one CellGoes (record { region = r; offset = o; value = u }) (cell_new u h.0 h.1))

  -- the step, from what is shown of the parts of the picture
  stepped_of : (q : Picture) (point : ℕ → ℤ) (more : next p ≤ next q) (st : Stays (next p) σ.point point m now) (rs : Regioned p σ now point (next q) q.regions)
      → AllHold point q.facts → Each (λ f. IsBelow (next q) f.term) q.facts → q.values ≡ p.values → Each (CellGoes (next q) point more st q.regions rs) q.cells
      → Stepped p σ m q point now
  unfolding CellGoes
  stepped_of q point more st rs facts named same goes = record {
    stays = st;
    more = more;
    facts = facts;
    named = named;
    values = same;
    count = rs.count;
    onto = rs.onto;
    back = rs.back;
    cells = λ at c h e. (goes at c e).0 h;
    placed = λ at c e. (goes at c e).1;
    frame = frame_after;
  }

  -- bytes of the store are written after it
  filled : (x k : ℕ) → Within (σ.spots r) (value σ.point o) (value σ.point o +ℤ pos 4) x k → IsWritten now x k
  filled x k w =
      let c = pl.changes in
      let there = pl.there in
      let w1 = w.1 in
      let w2 = w.2 in
      subst (λ (y : ℕ). IsWritten now y k) (sym w.0) (c.filled k (omega (arith, ints)) (omega (arith, ints)))

  -- a picture of the same symbols, with other regions and cells
  with_parts : List Region → List Cell → Picture
  with_parts hs cs = record { values = p.values; facts = p.facts; labels = p.labels; regions = hs; cells = cs }

  stays_here : Stays (next p) σ.point σ.point m now
  stays_here = stays_at σ.point (λ s lt. refl)

  stepped_here : (hs : List Region) (t : Option Linear) → Regioned p σ now σ.point (next p) hs → IfFormed (λ u. IsBelow (next p) u × (value σ.point u ≡ z)) t
      → Stepped p σ m (with_parts hs (cells_after r o t p.cells)) σ.point now
  unfolding with_parts
  stepped_here hs t rs v =
      let f = d.formed in
      let le : next p ≤ next p = omega arith in
      stepped_of (with_parts hs (cells_after r o t p.cells)) σ.point le stays_here rs d.facts f.facts refl (cells_go (next p) σ.point le stays_here hs rs t v)

  grown_here : Grown σ.point σ.point now (σ.spots r) (next p) g g
  grown_here = each_grown (next p) σ.point (omega arith) stays_here r g pl.stands

  set_here : (f : Region) → Grown σ.point σ.point now (σ.spots r) (next p) g f → Regioned p σ now σ.point (next p) (slice_set p.regions r f)
  set_here f grown = regioned_set (next p) σ.point (omega arith) stays_here f grown

  module _ (end : Linear) (ends : end_of o ≡ Some end) where
    end_is : (point : ℕ → ℤ) → value point end ≡ value point o +ℤ pos 4
    end_is point =
        let e : value point (plus o (constant (pos 4))) ≡ value point end = ap (λ (x : Linear). value point x) (formed_is (plus o (constant (pos 4))) end ends) in
        let v = value-plus point o (constant (pos 4)) in
        let c = value-constant point (pos 4) in
        omega (arith, ints)

    end_below : IsBelow (next p) end
    end_below = subst (λ (x : Linear). IsBelow (next p) x) (formed_is (plus o (constant (pos 4))) end ends)
        (below-plus (next p) o (constant (pos 4)) pl.named (below-constant (next p) (pos 4)))

    -- the bytes are an island
    island_here : Grown σ.point σ.point now (σ.spots r) (next p) g (with_island g (record { start = o; end = end }))
    island_here =
        let e = end_is σ.point in
        let low = pl.low in
        let high = pl.high in
        island_grown σ.point σ.point now (σ.spots r) (next p) g (record { start = o; end = end }) grown_here pl.named end_below
        (λ here. record {
          inside = λ lt. (low, omega (arith, ints));
          written = λ x k w. let w2 = w.2 in filled x k (w.0, w.1, omega (arith, ints));
        })

    -- the prefix reaches the store
    module _ (reach : value σ.point o ≤ℤ value σ.point g.written) where
      past_prefix : (x k : ℕ) (w : ℤ) → (w ≡ value σ.point g.written) ⊎ (w ≡ value σ.point end) → Within (σ.spots r) (value σ.point g.written) w x k → IsWritten now x k
      past_prefix x k w (inl e) t = let t1 = t.1 in let t2 = t.2 in absurd (omega (arith, ints))
      past_prefix x k w (inr e) t = let f = end_is σ.point in let t1 = t.1 in let t2 = t.2 in filled x k (t.0, omega (arith, ints), omega (arith, ints))

      Top : ℤ → Type 0
      Top w = ((w ≡ value σ.point g.written) ⊎ (w ≡ value σ.point end)) × (value σ.point g.written ≤ℤ w) × (value σ.point end ≤ℤ w) × (w ≤ℤ value σ.point g.extent)

      prefix_here : (w : Linear) → IsBelow (next p) w → Top (value σ.point w) → Grown σ.point σ.point now (σ.spots r) (next p) g (with_prefix g w)
      unfolding Top
      prefix_here w b top =
          prefix_grown σ.point σ.point now (σ.spots r) (next p) g w pl.here grown_here b top.1 top.3 (λ x k t. past_prefix x k (value σ.point w) top.0 t)

      top_written : value σ.point end ≤ℤ value σ.point g.written → Top (value σ.point g.written)
      unfolding Top
      top_written le = let s = d.shapes r g pl.stands in (inl refl, omega (arith, ints), le, s.within)

      top_end : value σ.point g.written ≤ℤ value σ.point end → Top (value σ.point end)
      unfolding Top
      top_end le = let e = end_is σ.point in let high = pl.high in (inr refl, le, omega (arith, ints), omega (arith, ints))

      module _ (w : ℤ) (top : Top w) where
        point : ℕ → ℤ
        point = put σ.point (next p) w

        fresh : Picture
        fresh = with_fresh_prefix p r g end

        same_point : (s : ℕ) → s < next p → point s ≡ σ.point s
        unfolding point
        same_point s lt = put_below σ.point (next p) w s lt

        one_more : next fresh ≡ next p + 1
        unfolding fresh
        one_more = length-append p.labels _

        more_symbols : next p ≤ next fresh
        more_symbols = let e = one_more in omega arith

        stays_fresh : Stays (next p) σ.point point m now
        stays_fresh = stays_at point same_point

        top_is : value point (symbol (next p)) ≡ w
        unfolding point
        top_is = value-symbol point (next p) ∙ put_here σ.point (next p) w

        symbol_below : IsBelow (next fresh) (symbol (next p))
        symbol_below = below-symbol (next fresh) (next p) (let e = one_more in omega arith)

        fresh_grown : Grown σ.point point now (σ.spots r) (next fresh) g (with_prefix g (symbol (next p)))
        unfolding Top
        fresh_grown =
            let f = d.formed in
            let b = f.regions r g pl.stands in
            let vp = value_still (next p) σ.point point m now stays_fresh g.presence b.presence in
            let ve = value_still (next p) σ.point point m now stays_fresh g.extent b.extent in
            let vw = value_still (next p) σ.point point m now stays_fresh g.written b.written in
            let here = pl.here in
            let t = top_is in
            let up = top.1 in
            let room = top.3 in
            prefix_grown σ.point point now (σ.spots r) (next fresh) g (symbol (next p)) (omega (arith, ints)) (each_grown (next fresh) point more_symbols stays_fresh r g pl.stands)
            symbol_below (omega (arith, ints)) (omega (arith, ints))
            (λ x k v. let v1 = v.1 in let v2 = v.2 in past_prefix x k w top.0 (v.0, omega (arith, ints), omega (arith, ints)))

        fresh_hold : AllHold point fresh.facts
        unfolding fresh Top
        fresh_hold =
            let f = d.formed in
            let b = f.regions r g pl.stands in
            let ve = value_still (next p) σ.point point m now stays_fresh g.extent b.extent in
            let vw = value_still (next p) σ.point point m now stays_fresh g.written b.written in
            let vn = value_still (next p) σ.point point m now stays_fresh end end_below in
            let t = top_is in
            let up = top.1 in
            let over = top.2 in
            let room = top.3 in
            let first = value-minus point (symbol (next p)) g.written (pos 0) in
            let second = value-minus point (symbol (next p)) end (pos 0) in
            let third = value-minus point g.extent (symbol (next p)) (pos 0) in
            hold-with_fact point _ _
            (hold-with_fact point _ _
            (hold-with_fact point _ _ (holds_agrees (next p) σ.point point (λ s lt. sym (same_point s lt)) p.facts f.facts d.facts)
            (if_formed (IsNotBelow0 point) (minus (symbol (next p)) g.written (pos 0)) (omega (arith, ints))))
            (if_formed (IsNotBelow0 point) (minus (symbol (next p)) end (pos 0)) (omega (arith, ints))))
            (if_formed (IsNotBelow0 point) (minus g.extent (symbol (next p)) (pos 0)) (omega (arith, ints)))

        fresh_named : Each (λ f. IsBelow (next fresh) f.term) fresh.facts
        unfolding fresh
        fresh_named =
            let f = d.formed in
            let b = f.regions r g pl.stands in
            let n = next fresh in
            below-with_fact n _ _
            (below-with_fact n _ _
            (below-with_fact n _ _ (λ at x e. below_more (next p) n x.term more_symbols (f.facts at x e))
            (if_formed (IsBelow n) (minus (symbol (next p)) g.written (pos 0)) (below-minus n (symbol (next p)) g.written (pos 0) symbol_below (below_more (next p) n g.written more_symbols b.written))))
            (if_formed (IsBelow n) (minus (symbol (next p)) end (pos 0)) (below-minus n (symbol (next p)) end (pos 0) symbol_below (below_more (next p) n end more_symbols end_below))))
            (if_formed (IsBelow n) (minus g.extent (symbol (next p)) (pos 0)) (below-minus n g.extent (symbol (next p)) (pos 0) (below_more (next p) n g.extent more_symbols b.extent) symbol_below))

        fresh_goes : (t : Option Linear) → IfFormed (λ u. IsBelow (next p) u × (value σ.point u ≡ z)) t
            → Goes p σ m (with_cells (with_fresh_prefix p r g end) (cells_after r o t p.cells)) now
        unfolding fresh
        fresh_goes t v =
            let rs = regioned_set (next fresh) point more_symbols stays_fresh (with_prefix g (symbol (next p))) fresh_grown in
            record {
              point = point;
              stepped = stepped_of (with_cells (with_fresh_prefix p r g end) (cells_after r o t p.cells)) point more_symbols stays_fresh rs fresh_hold fresh_named refl
                  (cells_go (next fresh) point more_symbols stays_fresh (slice_set p.regions r (with_prefix g (symbol (next p)))) rs t v);
            }

      prefix_goes : (t : Option Linear) → IfFormed (λ u. IsBelow (next p) u × (value σ.point u ≡ z)) t → (x : Option Linear) → greater_end g.written end ≡ x
          → Goes p σ m (with_cells (grown_to p r g end x) (cells_after r o t p.cells)) now
      unfolding Top with_parts
      prefix_goes t v None e = elim (int_le_or_lt (value σ.point g.written) (value σ.point end)) [
        | inl le ↦ fresh_goes (value σ.point end) (top_end le) t v
        | inr lt ↦ fresh_goes (value σ.point g.written) (top_written (omega (arith, ints))) t v
      ]
      prefix_goes t v (Some w) e =
          let f = d.formed in
          let b = f.regions r g pl.stands in
          let good : Grown σ.point σ.point now (σ.spots r) (next p) g (with_prefix g w) =
          elim (greater_is σ.point g.written end w e) [
            | inl k ↦ subst (λ (x : Linear). Grown σ.point σ.point now (σ.spots r) (next p) g (with_prefix g x)) (sym k.0) (prefix_here g.written b.written (top_written k.1))
            | inr k ↦ subst (λ (x : Linear). Grown σ.point σ.point now (σ.spots r) (next p) g (with_prefix g x)) (sym k.0) (prefix_here end end_below (top_end k.1))
          ] in
          record { point = σ.point; stepped = stepped_here (slice_set p.regions r (with_prefix g w)) t (set_here (with_prefix g w) good) v }

  -- the picture after the store
  pub store_goes : (t : Option Linear) → IfFormed (λ u. IsBelow (next p) u × (value σ.point u ≡ z)) t → (reaches : Bool) → (reaches ≡ true → value σ.point o ≤ℤ value σ.point g.written)
      → Goes p σ m (after_store p r g o t reaches) now
  unfolding with_parts
  store_goes t v reaches reach = by (end_of o) refl reaches reach
    where
      by : (x : Option Linear) → end_of o ≡ x → (b : Bool) → (b ≡ true → value σ.point o ≤ℤ value σ.point g.written)
          → Goes p σ m (with_cells (grown p r g o b x) (cells_after r o (value_at_end x t) p.cells)) now
      by None e b h = record { point = σ.point; stepped = stepped_here p.regions None (regioned_same (next p) σ.point (omega arith) stays_here) tt }
      by (Some end) e true h = prefix_goes end e (h refl) t v (greater_end g.written end) refl
      by (Some end) e false h =
          let i : Region = with_island g (record { start = o; end = end }) in
          record { point = σ.point; stepped = stepped_here (slice_set p.regions r i) t (set_here i (island_here end e)) v }
