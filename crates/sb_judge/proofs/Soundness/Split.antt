-- conditions: the side that the machine takes is covered by the pictures that the rule gives for it
use Rattle.std.proofs.Common.{◌≡◌, ℕ, zero, suc, List, [], ◌∷◌, ◌++◌, slice_get, ℤ, pos, negsuc, ◌+ℤ◌, ◌-ℤ◌, ◌≤ℤ◌, int_lt, int_le, Bool, true, false, not, Option, Some, None, ◌⊎◌, inl, inr, refl, ap, ◌∙◌, subst, arith}
use Rattle.std.proofs.lemmas.Int.{ints}
use Rattle.sb_term.specs.declared.row.Row.{Row}
use Rattle.sb_term.specs.Linear.{Linear, constant, value, formed}
use Rattle.sb_term.specs.Rows.{AllHold}
use Rattle.sb_term.specs.Asks.{Done, after_it, each_onto, Always}
use Rattle.sb_term.specs.AskLaws.{always-after_it, always_weaker}
use Rattle.sb_term.specs.Values.{value-constant}
use Rattle.sb_function.specs.declared.syntax.Simple.{Simple}
use Rattle.sb_function.specs.declared.syntax.Simple.TheVariants as simple
use Rattle.sb_function.specs.declared.syntax.Comparison.{Comparison}
use Rattle.sb_function.specs.declared.syntax.Comparison.TheVariants.{Less, AtMost, Greater, AtLeast, Equal, NotEqual}
use Rattle.sb_function.specs.declared.syntax.Param.{Param}
use Rattle.sb_picture.specs.declared.picture.Value.{Value}
use Rattle.sb_picture.specs.declared.picture.Value.TheVariants.{Number, Pointer, Unknown}
use Rattle.sb_picture.specs.declared.picture.Region.{Region}
use Rattle.sb_picture.specs.declared.picture.Picture.{Picture}
use Rattle.sb_picture.specs.Pictures.{minus, next, number_in, number_at}
use Rattle.sb_picture.specs.Memory.{Memory}
use Rattle.sb_picture.specs.Machine.{Held, Count, Leads, count_in, number_of, int_same, compares, Branch}
use Rattle.sb_picture.specs.Asking.{assume}
use Rattle.sb_function.specs.Comparisons.{opposite}
use Rattle.sb_judge.specs.Splits.{ways, in_ways, split_by}
use Rattle.sb_picture.specs.Describes.{Setting, Describes, ValueIs, ValuesAre, IsBelow, IsFormed, Covered}
use Rattle.sb_judge.specs.Laws.{SplitOwes, SplitLaw}
use Rattle.sb_picture.proofs.Soundness.Elements.{Each}
use Rattle.sb_picture.proofs.Soundness.Points.{IfFormed, IsNotBelow0, if_formed, value-minus, below-minus, below-constant}
use Rattle.sb_picture.proofs.Soundness.Regions.{int_same_is, not_true}
use Rattle.sb_picture.proofs.Soundness.Asked.{AllIf, with_facts, Assumed, AssumeOwes, assume_owes}
use Rattle.sb_judge.proofs.Soundness.Sequel.{Among, among_same, among_left, among_right, since_same, covered_here}

-- what a comparison says, as differences that are at least 0

less_true : (a b : ℤ) → int_lt a b ≡ true → pos 0 ≤ℤ ((b -ℤ a) +ℤ negsuc 0)
less_true a b h = grind (arith, ints)

less_false : (a b : ℤ) → int_lt a b ≡ false → pos 0 ≤ℤ ((a -ℤ b) +ℤ pos 0)
less_false a b h = grind (arith, ints)

at_most_true : (a b : ℤ) → int_le a b ≡ true → pos 0 ≤ℤ ((b -ℤ a) +ℤ pos 0)
at_most_true a b h = grind (arith, ints)

at_most_false : (a b : ℤ) → int_le a b ≡ false → pos 0 ≤ℤ ((a -ℤ b) +ℤ negsuc 0)
at_most_false a b h = grind (arith, ints)

same_false : (a b : ℤ) → int_same a b ≡ false → (pos 0 ≤ℤ ((a -ℤ b) +ℤ negsuc 0)) ⊎ (pos 0 ≤ℤ ((b -ℤ a) +ℤ negsuc 0))
same_false a b h = by (int_le a b) (int_le b a) refl refl
  where
    by : (v w : Bool) → int_le a b ≡ v → int_le b a ≡ w → (pos 0 ≤ℤ ((a -ℤ b) +ℤ negsuc 0)) ⊎ (pos 0 ≤ℤ ((b -ℤ a) +ℤ negsuc 0))
    by false w e f = inl (at_most_false a b e)
    by true false e f = inr (at_most_false b a f)
    by true true e f = let n : ⊥ = grind (arith, ints) in absurd n

not_false : (b : Bool) → not b ≡ false → b ≡ true
not_false true h = refl
not_false false h = cc

-- one of several ways is met at a point, and names symbols below n
record IsMet (point : ℕ → ℤ) (n : ℕ) (cs : List (List (Option Linear))) : Type 0 where
  at : ℕ
  way : List (Option Linear)
  stands : slice_get cs at ≡ Some way
  hold : AllIf (IsNotBelow0 point) way
  below : AllIf (IsBelow n) way

module _ (point : ℕ → ℤ) (n : ℕ) where
  difference : (a b : Linear) (c : ℤ) → pos 0 ≤ℤ ((value point a -ℤ value point b) +ℤ c) → IfFormed (IsNotBelow0 point) (formed (minus a b c))
  difference a b c h = if_formed (IsNotBelow0 point) (minus a b c) (let e = value-minus point a b c in omega (arith, ints))

  ranges : (a b : Linear) (c : ℤ) → IsBelow n a → IsBelow n b → IfFormed (IsBelow n) (formed (minus a b c))
  ranges a b c ha hb = if_formed (IsBelow n) (minus a b c) (below-minus n a b c ha hb)

  one_way : (a b : Linear) (c : ℤ) (more : List (List (Option Linear))) → IsBelow n a → IsBelow n b → pos 0 ≤ℤ ((value point a -ℤ value point b) +ℤ c)
      → IsMet point n ((formed (minus a b c) ∷ []) ∷ more)
  one_way a b c more ha hb h = record { at = 0; way = formed (minus a b c) ∷ []; stands = refl; hold = (difference a b c h, tt); below = (ranges a b c ha hb, tt) }

  met_true : (op : Comparison) (a b : Linear) → IsBelow n a → IsBelow n b → compares op (value point a) (value point b) ≡ true → IsMet point n (ways op a b)
  met_true Less a b ha hb e = one_way b a (negsuc 0) [] hb ha (less_true (value point a) (value point b) e)
  met_true AtMost a b ha hb e = one_way b a (pos 0) [] hb ha (at_most_true (value point a) (value point b) e)
  met_true Greater a b ha hb e = one_way a b (negsuc 0) [] ha hb (less_true (value point b) (value point a) e)
  met_true AtLeast a b ha hb e = one_way a b (pos 0) [] ha hb (at_most_true (value point b) (value point a) e)
  met_true Equal a b ha hb e =
      let s : value point a ≡ value point b = int_same_is (value point a) (value point b) e in
      record {
        at = 0;
        way = formed (minus a b (pos 0)) ∷ formed (minus b a (pos 0)) ∷ [];
        stands = refl;
        hold = (difference a b (pos 0) (omega (arith, ints)), (difference b a (pos 0) (omega (arith, ints)), tt));
        below = (ranges a b (pos 0) ha hb, (ranges b a (pos 0) hb ha, tt));
      }
  met_true NotEqual a b ha hb e =
      elim (same_false (value point a) (value point b) (not_true (int_same (value point a) (value point b)) e)) [
        | inl h ↦ one_way a b (negsuc 0) ((formed (minus b a (negsuc 0)) ∷ []) ∷ []) ha hb h
        | inr h ↦ record { at = 1; way = formed (minus b a (negsuc 0)) ∷ []; stands = refl; hold = (difference b a (negsuc 0) h, tt); below = (ranges b a (negsuc 0) hb ha, tt) }
      ]

  met_false : (op : Comparison) (a b : Linear) → IsBelow n a → IsBelow n b → compares op (value point a) (value point b) ≡ false → IsMet point n (ways (opposite op) a b)
  met_false Less a b ha hb e = one_way a b (pos 0) [] ha hb (less_false (value point a) (value point b) e)
  met_false AtMost a b ha hb e = one_way a b (negsuc 0) [] ha hb (at_most_false (value point a) (value point b) e)
  met_false Greater a b ha hb e = one_way b a (pos 0) [] hb ha (less_false (value point b) (value point a) e)
  met_false AtLeast a b ha hb e = one_way b a (negsuc 0) [] hb ha (at_most_false (value point b) (value point a) e)
  met_false Equal a b ha hb e = met_true NotEqual a b ha hb (ap not e)
  met_false NotEqual a b ha hb e = met_true Equal a b ha hb (not_false (int_same (value point a) (value point b)) e)

-- where each way was tried, a way that is met leaves a picture
assumed_among : (p : Picture) (point : ℕ → ℤ) (qs rs : List Picture) → Among qs rs → Assumed p point qs → Assumed p point rs
assumed_among p point qs rs among a =
    let k = among a.at (with_facts p a.facts) a.stands in
    record { facts = a.facts; at = k.0; stands = k.1; hold = a.hold; below = a.below }

record WaysOwe (p : Picture) (cs : List (List (Option Linear))) (out qs : List Picture) : Type 0 where
  stay : Among out qs
  each : (at : ℕ) (c : List (Option Linear)) → slice_get cs at ≡ Some c → AssumeOwes c p qs

ways_owe : (p : Picture) (cs : List (List (Option Linear))) (out : List Picture) → Always (WaysOwe p cs out) (each_onto out cs (λ c. assume c p))
ways_owe p [] out = record { stay = among_same out; each = λ at c e. absurd (none at c e) }
  where
    none : (at : ℕ) (c : List (Option Linear)) → slice_get [] at ≡ Some c → ⊥
    none at c e = cc
ways_owe p (c ∷ cs) out =
    always-after_it (AssumeOwes c p) (WaysOwe p (c ∷ cs) out) (assume c p) (λ ys. each_onto (out ++ ys) cs (λ x. assume x p)) (assume_owes c p)
    (λ ys owes. always_weaker (WaysOwe p cs (out ++ ys)) (WaysOwe p (c ∷ cs) out) (each_onto (out ++ ys) cs (λ x. assume x p))
    (λ qs more. record { stay = among_left out ys qs more.stay; each = each ys owes qs more }) (ways_owe p cs (out ++ ys)))
  where
    each : (ys : List Picture) → AssumeOwes c p ys → (qs : List Picture) → WaysOwe p cs (out ++ ys) qs
        → (at : ℕ) (x : List (Option Linear)) → slice_get (c ∷ cs) at ≡ Some x → AssumeOwes x p qs
    each ys owes qs more zero x e =
        let P : List (Option Linear) → Type 0 = λ y. AssumeOwes y p qs in
        let same : c ≡ x = cc in
        subst P same (λ point hold below conditions ranges. assumed_among p point ys qs (among_right out ys qs more.stay) (owes point hold below conditions ranges))
    each ys owes qs more (suc at) x e = more.each at x e

-- what the sides of a comparison come to
value_is : (σ : Setting) (gs : List Region) (v : Value) (h : Held) (t : Linear) → ValueIs σ gs v h → number_in (Some v) ≡ Some t → value σ.point t ≡ count_in (Some h)
value_is σ gs (Number u) (Count z) t d e = let s : u ≡ t = cc in subst (λ (x : Linear). value σ.point x ≡ z) s d
value_is σ gs (Number u) (Leads q) t d e = absurd d
value_is σ gs (Pointer r o) h t d e = cc
value_is σ gs Unknown h t d e = cc

pub values_are : (σ : Setting) (gs : List Region) (vs : List Value) (hs : List Held) → ValuesAre σ gs vs hs → (at : ℕ) (t : Linear)
    → number_in (slice_get vs at) ≡ Some t → value σ.point t ≡ count_in (slice_get hs at)
values_are σ gs [] hs d at t e = cc
values_are σ gs (v ∷ vs) [] d at t e = absurd d
values_are σ gs (v ∷ vs) (h ∷ hs) d zero t e = value_is σ gs v h t d.0 e
values_are σ gs (v ∷ vs) (h ∷ hs) d (suc at) t e = values_are σ gs vs hs d.1 at t e

pub number_is : (σ : Setting) (gs : List Region) (vs : List Value) (hs : List Held) → ValuesAre σ gs vs hs → (s : Simple) (t : Linear)
    → number_at vs s ≡ Some t → value σ.point t ≡ number_of hs s
number_is σ gs vs hs d (simple.Number n) t e =
    let s : constant (pos n) ≡ t = cc in
    subst (λ (x : Linear). value σ.point x ≡ pos n) s (value-constant σ.point (pos n))
number_is σ gs vs hs d (simple.Param at) t e = values_are σ gs vs hs d at t e

pub number_below : (p : Picture) → IsFormed p → (s : Simple) (t : Linear) → number_at p.values s ≡ Some t → IsBelow (next p) t
number_below p f (simple.Number n) t e =
    let s : constant (pos n) ≡ t = cc in
    subst (λ (x : Linear). IsBelow (next p) x) s (below-constant (next p) (pos n))
number_below p f (simple.Param at) t e = by (slice_get p.values at) refl e
  where
    by : (o : Option Value) → slice_get p.values at ≡ o → number_in o ≡ Some t → IsBelow (next p) t
    by None g h = cc
    by (Some (Number u)) g h = let s : u ≡ t = cc in subst (λ (x : Linear). IsBelow (next p) x) s (f.values at (Number u) g)
    by (Some (Pointer r o)) g h = cc
    by (Some Unknown) g h = cc

-- a picture with facts that hold describes the same state
pub describes_assumed : (params : List Param) (args : List Held) (before m : Memory) (p : Picture) (σ : Setting) (facts : List Row)
    → Describes params args before m p σ → AllHold σ.point facts → Each (λ r. IsBelow (next p) r.term) facts → Describes params args before m (with_facts p facts) σ
describes_assumed params args before m p σ facts d hold below = record {
  facts = hold;
  values = d.values;
  shapes = d.shapes;
  regions = d.regions;
  cells = d.cells;
  apart = d.apart;
  permitted = d.permitted;
  kept = d.kept;
  formed = record { facts = below; values = d.formed.values; regions = d.formed.regions; cells = d.formed.cells };
}

covered_assumed : (params : List Param) (args : List Held) (before m : Memory) (p : Picture) (σ : Setting) (qs : List Picture)
    → Describes params args before m p σ → Assumed p σ.point qs → Covered params args before p σ m m qs
covered_assumed params args before m p σ qs d a =
    let s = since_same p σ m in
    record {
      at = a.at;
      picture = with_facts p a.facts;
      setting = σ;
      stands = a.stands;
      describes = describes_assumed params args before m p σ a.facts d a.hold a.below;
      since = record { below = s.below; same = s.same; spots = s.spots; frame = s.frame; permits = s.permits; regions = s.regions };
    }

-- a way that is met, of those that were tried
covered_way : (params : List Param) (args : List Held) (before m : Memory) (p : Picture) (σ : Setting) (cs : List (List (Option Linear))) (qs : List Picture)
    → WaysOwe p cs [] qs → Describes params args before m p σ → IsMet σ.point (next p) cs → Covered params args before p σ m m qs
covered_way params args before m p σ cs qs owes d met =
    covered_assumed params args before m p σ qs d (owes.each met.at met.way met.stands σ.point d.facts d.formed.facts met.hold met.below)

branch_both : (b : Bool) (P Q : Type 0) → P → Q → Branch b P Q
branch_both true P Q x y = x
branch_both false P Q x y = y

branch_by : (b : Bool) (P Q : Type 0) → (b ≡ true → P) → (b ≡ false → Q) → Branch b P Q
branch_by true P Q x y = x refl
branch_by false P Q x y = y refl

unsplit : (left : Simple) (op : Comparison) (right : Simple) (p : Picture) → SplitOwes left op right p (record { trues = p ∷ []; falses = p ∷ [] })
unsplit left op right p params args before m σ d =
    branch_both (compares op (number_of args left) (number_of args right)) (Covered params args before p σ m m (p ∷ [])) (Covered params args before p σ m m (p ∷ []))
    (covered_here params args before 0 p σ m (p ∷ []) refl d) (covered_here params args before 0 p σ m (p ∷ []) refl d)

both_sides : (left : Simple) (op : Comparison) (right : Simple) (p : Picture) (a b : Linear) → number_at p.values left ≡ Some a → number_at p.values right ≡ Some b
    → (ts fs : List Picture) → WaysOwe p (ways op a b) [] ts → WaysOwe p (ways (opposite op) a b) [] fs → SplitOwes left op right p (record { trues = ts; falses = fs })
both_sides left op right p a b ea eb ts fs to fo params args before m σ d =
    let x = number_is σ p.regions p.values args d.values left a ea in
    let y = number_is σ p.regions p.values args d.values right b eb in
    let ba = number_below p d.formed left a ea in
    let bb = number_below p d.formed right b eb in
    let e : compares op (value σ.point a) (value σ.point b) ≡ compares op (number_of args left) (number_of args right) = cc in
    branch_by (compares op (number_of args left) (number_of args right)) (Covered params args before p σ m m ts) (Covered params args before p σ m m fs)
    (λ h. covered_way params args before m p σ (ways op a b) ts to d (met_true σ.point (next p) op a b ba bb (e ∙ h)))
    (λ h. covered_way params args before m p σ (ways (opposite op) a b) fs fo d (met_false σ.point (next p) op a b ba bb (e ∙ h)))

pub split_law : SplitLaw
split_law left op right p = by (number_at p.values left) (number_at p.values right) refl refl
  where
    by : (x y : Option Linear) → number_at p.values left ≡ x → number_at p.values right ≡ y → Always (SplitOwes left op right p) (split_by op x y p)
    by None y e f = unsplit left op right p
    by (Some a) None e f = unsplit left op right p
    by (Some a) (Some b) e f =
        always-after_it (WaysOwe p (ways op a b) []) (SplitOwes left op right p) (in_ways (ways op a b) p)
        (λ ts. after_it (in_ways (ways (opposite op) a b) p) (λ fs. Done (record { trues = ts; falses = fs })))
        (ways_owe p (ways op a b) [])
        (λ ts to. always-after_it (WaysOwe p (ways (opposite op) a b) []) (SplitOwes left op right p) (in_ways (ways (opposite op) a b) p)
        (λ fs. Done (record { trues = ts; falses = fs })) (ways_owe p (ways (opposite op) a b) [])
        (λ fs fo. both_sides left op right p a b e f ts fs to fo))
