-- regions after a store: those that stay, a prefix that grows, and an island more
use Rattle.std.proofs.Common.{◌≡◌, ℕ, zero, suc, ◌<◌, ◌≤◌, List, [], ◌∷◌, ◌++◌, length, slice_get, remove, position, ℤ, pos, ◌+ℤ◌, ◌≤ℤ◌, ◌<ℤ◌, Bool, true, false, not, ◌||◌, ◌&&◌, nat_eq, int_le, int_lt, if◌then◌else◌, Option, Some, None, ◌⊎◌, inl, inr, refl, sym, ap, ◌∙◌, subst, arith}
use Rattle.std.specs.List.{list_any}
use Rattle.std.proofs.lemmas.Int.{ints}
use Rattle.std.proofs.lemmas.Bool.Decides.{nat_tests}
use Rattle.std.proofs.lemmas.List.Quantifiers.{position-Some}
use Rattle.std.proofs.lemmas.Option.{get_or_from_slice_get}
use Rattle.sb_term.specs.declared.entry.Entry.{Entry}
use Rattle.sb_term.specs.Linear.{Linear, sum_at, value, formed}
use Rattle.sb_picture.specs.declared.picture.Island.{Island}
use Rattle.sb_picture.specs.declared.picture.Region.{Region}
use Rattle.sb_picture.specs.Memory.{Memory, IsWritten, size_of}
use Rattle.sb_picture.specs.Machine.{int_same}
use Rattle.sb_picture.specs.Pictures.{minus, same_entries, same_term, has_symbol}
use Rattle.sb_picture.specs.Regions.{is_positive, is_next, taken_at, taken_in, absorbed, with_prefix, same_island, with_island}
use Rattle.sb_picture.specs.Describes.{Spot, IsHere, Within, HasShape, IslandIs, RegionIs, IsBelow, RegionIsBelow}
use Rattle.sb_picture.proofs.Soundness.Elements.{Each, each-append, each-one, each-remove}
use Rattle.sb_picture.proofs.Soundness.Points.{value-minus, formed_is, value-agrees, below_more}
use Rattle.sb_picture.proofs.Soundness.Asked.{value_of_rest}

-- tests of terms

pub and_true : (a b : Bool) → (a && b) ≡ true → (a ≡ true) × (b ≡ true)
and_true true b e = (refl, e)
and_true false b e = let no_one : ⊥ = cc in absurd no_one

pub or_true : (a b : Bool) → (a || b) ≡ true → (a ≡ true) ⊎ (b ≡ true)
or_true true b e = inl refl
or_true false b e = inr e

pub not_true : (b : Bool) → not b ≡ true → b ≡ false
not_true true e = let no_one : ⊥ = cc in absurd no_one
not_true false e = refl

pub int_le_or_lt : (a b : ℤ) → (a ≤ℤ b) ⊎ (b <ℤ a)
int_le_or_lt a b = by (int_le a b) refl
  where
    by : (t : Bool) → int_le a b ≡ t → (a ≤ℤ b) ⊎ (b <ℤ a)
    by true e = inl (grind (arith, ints))
    by false e = inr (grind (arith, ints))

pub int_same_is : (a b : ℤ) → int_same a b ≡ true → a ≡ b
int_same_is a b e = let h = and_true (int_le a b) (int_le b a) e in let h0 = h.0 in let h1 = h.1 in grind (arith, ints)

same_sum : (p : ℕ → ℤ) (es fs : List Entry) → same_entries es fs ≡ true → sum_at p es ≡ sum_at p fs
same_sum p [] [] e = refl
same_sum p [] (f ∷ fs) e = let no_one : ⊥ = cc in absurd no_one
same_sum p (x ∷ es) [] e = let no_one : ⊥ = cc in absurd no_one
same_sum p (x ∷ es) (f ∷ fs) e =
    let h = and_true (nat_eq x.symbol f.symbol && int_same x.coefficient f.coefficient) (same_entries es fs) e in
    let k = and_true (nat_eq x.symbol f.symbol) (int_same x.coefficient f.coefficient) h.0 in
    let k0 = k.0 in
    let s : x.symbol ≡ f.symbol = grind (arith, nat_tests) in
    let c : x.coefficient ≡ f.coefficient = int_same_is x.coefficient f.coefficient k.1 in
    let more = same_sum p es fs h.1 in
    cc

same_value : (p : ℕ → ℤ) (t u : Linear) → same_term t u ≡ true → value p t ≡ value p u
same_value p t u e =
    let h = and_true (same_entries t.entries u.entries) (int_same t.rest u.rest) e in
    let s = same_sum p t.entries u.entries h.0 in
    let r = int_same_is t.rest u.rest h.1 in
    cc

-- regions at two points that agree below n, where sizes stay and what is written stays written
pub record Stays (n : ℕ) (σ point : ℕ → ℤ) (m now : Memory) : Type 0 where
  pub same : (s : ℕ) → s < n → point s ≡ σ s
  pub sizes : (o : ℕ) → size_of now o ≡ size_of m o
  pub written : (o k : ℕ) → IsWritten m o k → IsWritten now o k

pub value_still : (n : ℕ) (σ point : ℕ → ℤ) (m now : Memory) → Stays n σ point m now → (t : Linear) → IsBelow n t → value point t ≡ value σ t
value_still n σ point m now st t b = value-agrees n point σ st.same t b

pub shape_still : (n : ℕ) (σ point : ℕ → ℤ) (m now : Memory) → Stays n σ point m now → (h : Region) → RegionIsBelow n h → HasShape σ h → HasShape point h
shape_still n σ point m now st h b s =
    let e = value_still n σ point m now st h.presence b.presence in
    let f = value_still n σ point m now st h.extent b.extent in
    let w = value_still n σ point m now st h.written b.written in
    record { absent = omega (arith, ints); present = omega (arith, ints); from = omega (arith, ints); within = omega (arith, ints) }

island_still : (n : ℕ) (σ point : ℕ → ℤ) (m now : Memory) → Stays n σ point m now → (spot : Spot) (h : Region) (i : Island)
    → IsBelow n h.extent → IsBelow n i.start × IsBelow n i.end → IslandIs σ m spot h i → IslandIs point now spot h i
island_still n σ point m now st spot h i b c old =
    let f = value_still n σ point m now st h.extent b in
    let s = value_still n σ point m now st i.start c.0 in
    let e = value_still n σ point m now st i.end c.1 in
    record {
      inside = λ lt. let k = old.inside (omega (arith, ints)) in let k0 = k.0 in let k1 = k.1 in (omega (arith, ints), omega (arith, ints));
      written = λ o k w. let w1 = w.1 in let w2 = w.2 in st.written o k (old.written o k (w.0, omega (arith, ints), omega (arith, ints)));
    }

pub region_still : (n : ℕ) (σ point : ℕ → ℤ) (m now : Memory) → Stays n σ point m now → (spot : Spot) (h : Region)
    → RegionIsBelow n h → RegionIs σ m spot h → RegionIs point now spot h
region_still n σ point m now st spot h b old =
    let f = value_still n σ point m now st h.extent b.extent in
    let v = value_still n σ point m now st h.written b.written in
    record {
      size = old.size;
      stands = st.sizes spot.object ∙ old.stands;
      inside = λ le. let k = old.inside (omega (arith, ints)) in let k1 = k.1 in (k.0, omega (arith, ints));
      written = λ o k w. let w2 = w.2 in st.written o k (old.written o k (w.0, w.1, omega (arith, ints)));
      islands = λ at i e. island_still n σ point m now st spot h i b.extent (b.islands at i e) (old.islands at i e);
    }

pub region_below : (n k : ℕ) (h : Region) → n ≤ k → RegionIsBelow n h → RegionIsBelow k h
region_below n k h le b = record {
  presence = below_more n k h.presence le b.presence;
  extent = below_more n k h.extent le b.extent;
  written = below_more n k h.written le b.written;
  islands = λ at i e. let c = b.islands at i e in (below_more n k i.start le c.0, below_more n k i.end le c.1);
}

-- a region before and after a step: with the presence and extent that it had, and a prefix that does not fall
pub record Grown (σ point : ℕ → ℤ) (now : Memory) (spot : Spot) (k : ℕ) (g h : Region) : Type 0 where
  pub presence : h.presence ≡ g.presence
  pub extent : h.extent ≡ g.extent
  pub shape : HasShape point h
  pub written : value σ g.written ≤ℤ value point h.written
  pub region : IsHere point h → RegionIs point now spot h
  pub below : RegionIsBelow k h

-- one that no rule touches
pub stays_grown : (n k : ℕ) (σ point : ℕ → ℤ) (m now : Memory) → n ≤ k → Stays n σ point m now → (spot : Spot) (g : Region)
    → RegionIsBelow n g → HasShape σ g → (IsHere σ g → RegionIs σ m spot g) → Grown σ point now spot k g g
stays_grown n k σ point m now le st spot g b s r =
    let e = value_still n σ point m now st g.presence b.presence in
    let w = value_still n σ point m now st g.written b.written in
    record {
      presence = refl;
      extent = refl;
      shape = shape_still n σ point m now st g b s;
      written = omega (arith, ints);
      region = λ here. region_still n σ point m now st spot g b (r (omega (arith, ints)));
      below = region_below n k g le b;
    }

-- an island that begins where the prefix ends is taken into it
positive_is : (p : ℕ → ℤ) (t u : Linear) → is_positive (formed (minus t u (pos 0))) ≡ true → value p u <ℤ value p t
positive_is p t u e = by (formed (minus t u (pos 0))) refl e
  where
    by : (d : Option Linear) → formed (minus t u (pos 0)) ≡ d → is_positive d ≡ true → value p u <ℤ value p t
    by None f g = let no_one : ⊥ = cc in absurd no_one
    by (Some d) f g =
        let h = and_true (not (has_symbol d)) (int_lt (pos 0) d.rest) g in
        let h1 = h.1 in
        let r = value_of_rest p d (not_true (has_symbol d) h.0) in
        let v = value-minus p t u (pos 0) in
        let s : value p (minus t u (pos 0)) ≡ value p d = ap (λ (x : Linear). value p x) (formed_is (minus t u (pos 0)) d f) in
        let q : pos 0 <ℤ d.rest = grind (arith, ints) in
        omega (arith, ints)

island_other : (point : ℕ → ℤ) (now : Memory) (spot : Spot) (h f : Region) → f.extent ≡ h.extent → (i : Island) → IslandIs point now spot h i → IslandIs point now spot f i
island_other point now spot h f e i old =
    let v : value point f.extent ≡ value point h.extent = ap (λ (x : Linear). value point x) e in
    record { inside = λ lt. let k = old.inside lt in let k1 = k.1 in (k.0, omega (arith, ints)); written = old.written }

taken : Region → Island → ℕ → Region
taken h i k = record { name = h.name; presence = h.presence; extent = h.extent; written = i.end; islands = remove h.islands k }

taken_grown : (σ point : ℕ → ℤ) (now : Memory) (spot : Spot) (k : ℕ) (g h : Region) (j : ℕ) (i : Island) → IsHere point g → slice_get h.islands j ≡ Some i
    → is_next h.written i ≡ true → Grown σ point now spot k g h → Grown σ point now spot k g (taken h i j)
unfolding taken
taken_grown σ point now spot k g h j i here there next old =
    let t = and_true (same_term i.start h.written) (is_positive (formed (minus i.end i.start (pos 0)))) next in
    let s = same_value point i.start h.written t.0 in
    let lt = positive_is point i.end i.start t.1 in
    let still : IsHere point h = subst (λ (x : Linear). pos 1 ≤ℤ value point x) (sym old.presence) here in
    let r = old.region still in
    let is = r.islands j i there in
    let inside = is.inside lt in
    let in1 = inside.1 in
    let shape = old.shape in
    let up = old.written in
    let below = old.below in
    record {
      presence = old.presence;
      extent = old.extent;
      shape = record { absent = shape.absent; present = shape.present; from = omega (arith, ints); within = in1 };
      written = omega (arith, ints);
      region = λ same. record {
        size = r.size;
        stands = r.stands;
        inside = r.inside;
        written = λ o b w. let w1 = w.1 in let w2 = w.2 in by o b w.0 w1 w2 (int_le_or_lt (spot.start +ℤ value point h.written) (pos b)) s r is;
        islands = each-remove (λ x. IslandIs point now spot (taken h i j) x) j h.islands (λ n x e. island_other point now spot h (taken h i j) refl x (r.islands n x e));
      };
      below = record {
        presence = below.presence;
        extent = below.extent;
        written = (below.islands j i there).1;
        islands = each-remove (λ x. IsBelow k x.start × IsBelow k x.end) j h.islands below.islands;
      };
    }
  where
    by : (o b : ℕ) → o ≡ spot.object → (spot.start +ℤ pos 0) ≤ℤ pos b → pos b <ℤ (spot.start +ℤ value point i.end)
        → ((spot.start +ℤ value point h.written) ≤ℤ pos b) ⊎ (pos b <ℤ (spot.start +ℤ value point h.written))
        → value point i.start ≡ value point h.written → RegionIs point now spot h → IslandIs point now spot h i → IsWritten now o b
    by o b e low high (inl le) s r is = is.written o b (e, omega (arith, ints), high)
    by o b e low high (inr lt) s r is = r.written o b (e, low, lt)

-- islands that the prefix meets one after another
pub absorbed_grown : (σ point : ℕ → ℤ) (now : Memory) (spot : Spot) (k : ℕ) (g : Region) → IsHere point g → (n : ℕ) (h : Region)
    → Grown σ point now spot k g h → Grown σ point now spot k g (absorbed n h)
unfolding taken
absorbed_grown σ point now spot k g here zero h old = old
absorbed_grown σ point now spot k g here (suc n) h old =
    by (position (is_next h.written) h.islands) refl (λ f new. absorbed_grown σ point now spot k g here n f new)
  where
    at : (j : ℕ) (o : Option Island) → slice_get h.islands j ≡ o → position (is_next h.written) h.islands ≡ Some j
        → ((f : Region) → Grown σ point now spot k g f → Grown σ point now spot k g (absorbed n f))
        → Grown σ point now spot k g (taken_at (λ f. absorbed n f) h j o)
    at j None there found more = old
    at j (Some i) there found more =
        let first = (position-Some (is_next h.written) h.islands j i found).1 in
        let same = get_or_from_slice_get h.islands j i i there in
        more (taken h i j) (taken_grown σ point now spot k g h j i here there (subst (λ (x : Island). is_next h.written x ≡ true) same first) old)

    by : (o : Option ℕ) → position (is_next h.written) h.islands ≡ o
        → ((f : Region) → Grown σ point now spot k g f → Grown σ point now spot k g (absorbed n f))
        → Grown σ point now spot k g (taken_in (λ f. absorbed n f) h o)
    by None found more = old
    by (Some j) found more = at j (slice_get h.islands j) refl found more

prefixed : Region → Linear → Region
prefixed g w = record { name = g.name; presence = g.presence; extent = g.extent; written = w; islands = g.islands }

-- a prefix that ends at a term, where the bytes up to there are written
pub prefix_grown : (σ point : ℕ → ℤ) (now : Memory) (spot : Spot) (k : ℕ) (g : Region) (w : Linear) → IsHere point g → Grown σ point now spot k g g
    → IsBelow k w → value point g.written ≤ℤ value point w → value point w ≤ℤ value point g.extent
    → ((o b : ℕ) → Within spot (value point g.written) (value point w) o b → IsWritten now o b)
    → Grown σ point now spot k g (with_prefix g w)
unfolding prefixed
prefix_grown σ point now spot k g w here old bw up room filled =
    absorbed_grown σ point now spot k g here (length g.islands) (prefixed g w)
    (let shape = old.shape in let below = old.below in let r = old.region here in let le = old.written in
    record {
      presence = refl;
      extent = refl;
      shape = record { absent = shape.absent; present = shape.present; from = omega (arith, ints); within = room };
      written = omega (arith, ints);
      region = λ same. record {
        size = r.size;
        stands = r.stands;
        inside = r.inside;
        written = λ o b v. let v1 = v.1 in let v2 = v.2 in by o b v.0 v1 v2 (int_le_or_lt (spot.start +ℤ value point g.written) (pos b)) r;
        islands = λ n x e. island_other point now spot g (prefixed g w) refl x (r.islands n x e);
      };
      below = record { presence = below.presence; extent = below.extent; written = bw; islands = below.islands };
    })
  where
    by : (o b : ℕ) → o ≡ spot.object → (spot.start +ℤ pos 0) ≤ℤ pos b → pos b <ℤ (spot.start +ℤ value point w)
        → ((spot.start +ℤ value point g.written) ≤ℤ pos b) ⊎ (pos b <ℤ (spot.start +ℤ value point g.written)) → RegionIs point now spot g → IsWritten now o b
    by o b e low high (inl le) r = filled o b (e, le, high)
    by o b e low high (inr lt) r = r.written o b (e, low, lt)

islanded : Region → Island → Bool → Region
islanded g i b = record { name = g.name; presence = g.presence; extent = g.extent; written = g.written; islands = if b then g.islands else g.islands ++ i ∷ [] }

-- one island more
pub island_grown : (σ point : ℕ → ℤ) (now : Memory) (spot : Spot) (k : ℕ) (g : Region) (i : Island) → Grown σ point now spot k g g
    → IsBelow k i.start → IsBelow k i.end → (IsHere point g → IslandIs point now spot g i) → Grown σ point now spot k g (with_island g i)
unfolding islanded
island_grown σ point now spot k g i old bs be new = by (list_any (same_island i) g.islands)
  where
    more : (P : Island → Type 0) (b : Bool) → Each P g.islands → P i → Each P (if b then g.islands else g.islands ++ i ∷ [])
    more P true hs h = hs
    more P false hs h = each-append P g.islands (i ∷ []) hs (each-one P i h)

    by : (b : Bool) → Grown σ point now spot k g (islanded g i b)
    by b =
        let below = old.below in
        let shape = old.shape in
        record {
          presence = refl;
          extent = refl;
          shape = record { absent = shape.absent; present = shape.present; from = shape.from; within = shape.within };
          written = old.written;
          region = λ here. let r = old.region here in record {
            size = r.size;
            stands = r.stands;
            inside = r.inside;
            written = r.written;
            islands = more (λ x. IslandIs point now spot (islanded g i b) x) b (λ n x e. island_other point now spot g (islanded g i b) refl x (r.islands n x e)) (island_other point now spot g (islanded g i b) refl i (new here));
          };
          below = record {
            presence = below.presence;
            extent = below.extent;
            written = below.written;
            islands = more (λ x. IsBelow k x.start × IsBelow k x.end) b below.islands (bs, be);
          };
        }
