-- the law of stores: where no warning was added, the machine's store goes well and is described
use Rattle.std.proofs.Common.{◌≡◌, ℕ, zero, suc, ◌+◌, ◌≤◌, List, [], ◌∷◌, length, slice_get, slice_set, ℤ, pos, negsuc, ◌+ℤ◌, ◌*ℤ◌, ◌≤ℤ◌, Bool, true, false, nat_le, if◌then◌else◌, Option, Some, None, refl, sym, ap, ◌∙◌, subst, arith}
use Rattle.std.proofs.lemmas.Int.{ints}
use Rattle.std.proofs.lemmas.Bool.Decides.{nat_tests}
use Rattle.sb_base.specs.declared.refusals.Place.{Place}
use Rattle.sb_term.specs.declared.query.Query.{Query}
use Rattle.sb_term.specs.declared.answer.Answer.{Answer}
use Rattle.sb_term.specs.Linear.{Linear, constant, value, combined, formed}
use Rattle.sb_term.specs.Rows.{AllHold}
use Rattle.sb_term.specs.Asks.{Done, Always}
use Rattle.sb_term.specs.AskLaws.{always-after_it, always_weaker}
use Rattle.sb_term.specs.Values.{value-constant, value-combined}
use Rattle.sb_function.specs.declared.syntax.Param.{Param as Parameter}
use Rattle.sb_function.specs.declared.syntax.Simple.{Simple}
use Rattle.sb_function.specs.declared.syntax.Simple.TheVariants as simple
use Rattle.sb_picture.specs.declared.picture.Value.{Value}
use Rattle.sb_picture.specs.declared.picture.Value.TheVariants.{Number, Pointer, Unknown}
use Rattle.sb_picture.specs.declared.picture.Region.{Region}
use Rattle.sb_picture.specs.declared.picture.Picture.{Picture}
use Rattle.sb_store.specs.declared.warning.Need.{Need}
use Rattle.sb_store.specs.declared.warning.Need.TheVariants.{Present, Known, FromStart, BeforeEnd}
use Rattle.sb_store.specs.declared.warning.Warning.{Warning}
use Rattle.sb_picture.specs.Memory.{Memory, Byte, Pointer as Address, moved, Reach, Outside, Reached, Missed, reach, reach_in, overwrite, int_bytes, size_in, size_of}
use Rattle.sb_picture.specs.Machine.{Held, Count, Leads, Outcome, Next, count_in, number_of, pointer_in, pointer_of, stored}
use Rattle.sb_picture.specs.Pictures.{minus, next, number_in, number_at}
use Rattle.sb_picture.specs.Asking.{ask, is_proved, never}
use Rattle.sb_store.specs.Reports.{noted, is_before, is_alike}
use Rattle.sb_store.specs.Stores.{told, needed, bounds, after_store, store_at, store_unknown, offset_of, store_in, store_by}
use Rattle.sb_picture.specs.Describes.{Setting, IsHere, RegionIs, PointsTo, PointsIn, ValueIs, ValuesAre, IsBelow, IsFormed, Describes}
use Rattle.sb_judge.specs.Laws.{IsCovered, StoreOwes, StoreLaw}
use Rattle.sb_picture.proofs.Soundness.Points.{value-minus, formed_is, IfFormed, below-constant, below-combined}
use Rattle.sb_picture.proofs.Soundness.Asked.{IsTold, told_formed, Tells, ask_tells}
use Rattle.sb_picture.proofs.Soundness.Bytes.{changes, int_whole}
use Rattle.sb_picture.proofs.Soundness.Stepped.{setting_after, stepped_describes, stepped_since}
use Rattle.sb_store.proofs.Stored.{Placed, store_goes}

-- needs: a warning that was taken up stays

noted_some : (w : Warning) (ws : List Warning) → noted w ws ≡ [] → ⊥
noted_some w [] e = cc
noted_some w (x ∷ xs) e = by (is_before w x) (is_alike w x) e
  where
    by : (a b : Bool) → (if a then w ∷ x ∷ xs else (if b then x ∷ xs else x ∷ noted w xs)) ≡ [] → ⊥
    by true b h = cc
    by false true h = cc
    by false false h = cc

-- what a need owes: no warning is lost, and where none was added its goal is at least 0 wherever the facts hold
record NeedOwes (p : Picture) (goal : Option Linear) (ws after : List Warning) : Type 0 where
  grows : after ≡ [] → ws ≡ []
  proved : after ≡ [] → (point : ℕ → ℤ) → AllHold point p.facts → IsTold point goal

told_owes : (place : Place) (need : Need) (p : Picture) (goal : Option Linear) (ws : List Warning) (x : Query × Answer) → Tells p.facts goal x
    → NeedOwes p goal ws (told place need p ws x)
told_owes place need p goal ws x tells = by (is_proved x.1) refl
  where
    by : (b : Bool) → is_proved x.1 ≡ b → NeedOwes p goal ws (if b then ws else noted (record { place = place; need = need; query = x.0; answer = x.1; labels = p.labels }) ws)
    by true e = record { grows = λ h. h; proved = λ h point hold. tells e point hold }
    by false e = record { grows = λ h. absurd (noted_some _ ws h); proved = λ h. absurd (noted_some _ ws h) }

needed_owes : (place : Place) (need : Need) (p : Picture) (goal : Option Linear) (ws : List Warning) → Always (NeedOwes p goal ws) (needed place need p goal ws)
needed_owes place need p goal ws =
    always-after_it (Tells p.facts goal) (NeedOwes p goal ws) (ask p.facts goal) (λ x. Done (told place need p ws x)) (ask_tells p.facts goal)
    (λ x tells. told_owes place need p goal ws x tells)

-- four bytes at an offset
record BoundsOwe (p : Picture) (g : Region) (o : Linear) (ws after : List Warning) : Type 0 where
  grows : after ≡ [] → ws ≡ []
  here : after ≡ [] → (point : ℕ → ℤ) → AllHold point p.facts → IsHere point g
  low : after ≡ [] → (point : ℕ → ℤ) → AllHold point p.facts → pos 0 ≤ℤ value point o
  high : after ≡ [] → (point : ℕ → ℤ) → AllHold point p.facts → (value point o +ℤ pos 4) ≤ℤ value point g.extent

bounds_owe : (place : Place) (p : Picture) (g : Region) (o : Linear) (ws : List Warning) → Always (BoundsOwe p g o ws) (bounds place p g o ws)
bounds_owe place p g o ws =
    always-after_it (NeedOwes p present ws) (BoundsOwe p g o ws) (needed place Present p present ws) _ (needed_owes place Present p present ws) (λ a one.
    always-after_it (NeedOwes p (Some o) a) (BoundsOwe p g o ws) (needed place FromStart p (Some o) a) _ (needed_owes place FromStart p (Some o) a) (λ b two.
    always_weaker (NeedOwes p end b) (BoundsOwe p g o ws) (needed place BeforeEnd p end b) (λ c three. record {
      grows = λ e. one.grows (two.grows (three.grows e));
      here = λ e point hold.
          let h = told_formed point (minus g.presence (constant (pos 1)) (pos 0)) (one.proved (two.grows (three.grows e)) point hold) in
          let v = value-minus point g.presence (constant (pos 1)) (pos 0) in
          let k = value-constant point (pos 1) in
          omega (arith, ints);
      low = λ e point hold. two.proved (three.grows e) point hold;
      high = λ e point hold.
          let h = told_formed point (minus g.extent o (negsuc 3)) (three.proved e point hold) in
          let v = value-minus point g.extent o (negsuc 3) in
          omega (arith, ints);
    }) (needed_owes place BeforeEnd p end b)))
  where
    present : Option Linear
    present = formed (minus g.presence (constant (pos 1)) (pos 0))

    end : Option Linear
    end = formed (minus g.extent o (negsuc 3))

-- the machine

natural : (z : ℤ) → pos 0 ≤ℤ z → (n : ℕ) × (z ≡ pos n)
natural (pos n) h = (n, refl)
natural (negsuc n) h = absurd (omega (arith, ints))

object_of : (m : Memory) (object size : ℕ) → size_of m object ≡ Some size → (bytes : List Byte) × (slice_get m object ≡ Some bytes) × (length bytes ≡ size)
object_of m object size e = by (slice_get m object) refl e
  where
    by : (x : Option (List Byte)) → slice_get m object ≡ x → size_in x ≡ Some size → (bytes : List Byte) × (slice_get m object ≡ Some bytes) × (length bytes ≡ size)
    by None there h = let no_one : ⊥ = cc in absurd no_one
    by (Some bytes) there h = (bytes, there, cc)

reach_is : (m : Memory) (object from : ℕ) (old : List Byte) → slice_get m object ≡ Some old → from + 4 ≤ length old → reach_in object (slice_get m object) from 4 ≡ Reached object old from
reach_is m object from old there room =
    ap (λ (x : Option (List Byte)). reach_in object x from 4) there ∙ by (nat_le (from + 4) (length old)) refl
  where
    by : (b : Bool) → nat_le (from + 4) (length old) ≡ b → (if b then Reached object old from else Missed Outside) ≡ Reached object old from
    by true e = refl
    by false e = absurd (grind (arith, nat_tests))

-- a store in the extent of a region that is here
record Lands (p : Picture) (σ : Setting) (m : Memory) (r : ℕ) (g : Region) (o : Linear) (z : ℤ) : Type 0 where
  now : Memory
  placed : Placed p σ m now r g o z
  lands : (place : Place) → stored m (int_bytes z) place (reach m (Address.At (σ.spots r).object ((σ.spots r).start +ℤ value σ.point o)) 4) ≡ Next now

lands_in : (p : Picture) (σ : Setting) (m : Memory) (r : ℕ) (g : Region) (o : Linear) (z : ℤ) → slice_get p.regions r ≡ Some g → IsHere σ.point g
    → pos 0 ≤ℤ value σ.point o → (value σ.point o +ℤ pos 4) ≤ℤ value σ.point g.extent → IsBelow (next p) o → RegionIs σ.point m (σ.spots r) g → Lands p σ m r g o z
lands_in p σ m r g o z stands here low high named region =
    let inside = region.inside (omega (arith, ints)) in
    let start = inside.0 in
    let room = inside.1 in
    let n = natural ((σ.spots r).start +ℤ value σ.point o) (omega (arith, ints)) in
    let there = n.1 in
    let old = object_of m (σ.spots r).object region.size region.stands in
    let size = old.2 in
    let fits : n.0 + 4 ≤ length old.0 = omega (arith, ints) in
    let reached = reach_is m (σ.spots r).object n.0 old.0 old.1 fits in
    record {
      now = slice_set m (σ.spots r).object (overwrite old.0 n.0 (int_bytes z));
      placed = record {
        stands = stands;
        here = here;
        low = low;
        high = high;
        named = named;
        from = n.0;
        there = there;
        changes = changes m (σ.spots r).object n.0 old.0 (int_bytes z) old.1 fits (int_whole z);
      };
      lands = λ place.
          ap (λ (x : ℤ). stored m (int_bytes z) place (reach m (Address.At (σ.spots r).object x) 4)) there
          ∙ ap (λ (x : Reach). stored m (int_bytes z) place x) reached;
    }

-- what the values of a picture say of the arguments

value_at : (σ : Setting) (gs : List Region) (vs : List Value) (hs : List Held) (k : ℕ) (v : Value) → ValuesAre σ gs vs hs → slice_get vs k ≡ Some v
    → (h : Held) × (slice_get hs k ≡ Some h) × ValueIs σ gs v h
value_at σ gs [] [] k v are e = let no_one : ⊥ = cc in absurd no_one
value_at σ gs [] (h ∷ hs) k v are e = absurd are
value_at σ gs (w ∷ vs) [] k v are e = absurd are
value_at σ gs (w ∷ vs) (h ∷ hs) zero v are e = let s : w ≡ v = cc in (h, refl, subst (λ (x : Value). ValueIs σ gs x h) s are.0)
value_at σ gs (w ∷ vs) (h ∷ hs) (suc k) v are e = value_at σ gs vs hs k v are.1 e

-- a side whose number is known has that number, and names symbols of the picture
pub number_known : (p : Picture) (σ : Setting) (args : List Held) → IsFormed p → ValuesAre σ p.regions p.values args → (s : Simple) (t : Linear) → number_at p.values s ≡ Some t
    → IsBelow (next p) t × (value σ.point t ≡ number_of args s)
number_known p σ args formed are (simple.Number n) t e =
    let same : constant (pos n) ≡ t = cc in
    (subst (λ (x : Linear). IsBelow (next p) x) same (below-constant (next p) (pos n)), ap (λ (x : Linear). value σ.point x) (sym same) ∙ value-constant σ.point (pos n))
number_known p σ args formed are (simple.Param at) t e = by (slice_get p.values at) refl e
  where
    by : (x : Option Value) → slice_get p.values at ≡ x → number_in x ≡ Some t → IsBelow (next p) t × (value σ.point t ≡ number_of args (simple.Param at))
    by None there g = let no_one : ⊥ = cc in absurd no_one
    by (Some Unknown) there g = let no_one : ⊥ = cc in absurd no_one
    by (Some (Pointer r o)) there g = let no_one : ⊥ = cc in absurd no_one
    by (Some (Number u)) there g =
        let same : u ≡ t = cc in
        let h = value_at σ p.regions p.values args at (Number u) are there in
        let below = formed.values at (Number u) there in
        (subst (λ (x : Linear). IsBelow (next p) x) same below, ap (λ (x : Linear). value σ.point x) (sym same) ∙ held h.0 h.1 h.2)
      where
        held : (h : Held) → slice_get args at ≡ Some h → ValueIs σ p.regions (Number u) h → value σ.point u ≡ number_of args (simple.Param at)
        held (Count z) e v = v ∙ sym (ap count_in e)
        held (Leads q) e v = absurd v

if_known : (P : Linear → Type 0) (x : Option Linear) → ((t : Linear) → x ≡ Some t → P t) → IfFormed P x
if_known P None h = tt
if_known P (Some t) h = h t refl

-- the offset of a store
record Offset (base : Linear) (index : Option Linear) (o : Linear) : Type 0 where
  number : Linear
  known : index ≡ Some number
  is : combined (pos 1) base (pos 4) number (pos 0) ≡ o

offset_is : (base : Linear) (index : Option Linear) (o : Linear) → offset_of base index ≡ Some o → Offset base index o
offset_is base None o e = let no_one : ⊥ = cc in absurd no_one
offset_is base (Some i) o e = record { number = i; known = refl; is = formed_is (combined (pos 1) base (pos 4) i (pos 0)) o e }

module _ (array : ℕ) (index value_of : Simple) (place : Place) (p : Picture) (ws : List Warning) where
  unknown_owes : Always (StoreOwes array index value_of place p ws) (store_unknown place p ws)
  unknown_owes =
      always-after_it (NeedOwes p (Some never) ws) (StoreOwes array index value_of place p ws) (needed place Known p (Some never) ws)
      (λ after. Done (record { picture = p; warnings = after })) (needed_owes place Known p (Some never) ws) (λ after need. record {
        grows = need.grows;
        covers = λ params args before m σ d clean fuel end run.
            let h = need.proved clean σ.point d.facts in
            let v = value-constant σ.point (negsuc 0) in
            absurd (omega (arith, ints));
      })

  module _ (r : ℕ) (g : Region) (base o : Linear) (points : slice_get p.values array ≡ Some (Pointer r base)) (stands : slice_get p.regions r ≡ Some g)
      (moves : offset_of base (number_at p.values index) ≡ Some o) where
    offset : Offset base (number_at p.values index) o
    offset = offset_is base (number_at p.values index) o moves

    module _ (params : List Parameter) (args : List Held) (before m : Memory) (σ : Setting) (d : Describes params args before m p σ) (here : IsHere σ.point g) where
      offset_below : IsBelow (next p) o
      offset_below =
          let f = d.formed in
          let b = f.values array (Pointer r base) points in
          let i = number_known p σ args f d.values index offset.number offset.known in
          subst (λ (x : Linear). IsBelow (next p) x) offset.is (below-combined (next p) (pos 1) (pos 4) (pos 0) base offset.number b.1 i.0)

      -- where the machine's pointer leads
      address : moved (pointer_of args array) (pos 4 *ℤ number_of args index) ≡ Address.At (σ.spots r).object ((σ.spots r).start +ℤ value σ.point o)
      address =
          let h = value_at σ p.regions p.values args array (Pointer r base) d.values points in
          by h.0 h.1 h.2
        where
          by : (h : Held) → slice_get args array ≡ Some h → ValueIs σ p.regions (Pointer r base) h
              → moved (pointer_of args array) (pos 4 *ℤ number_of args index) ≡ Address.At (σ.spots r).object ((σ.spots r).start +ℤ value σ.point o)
          by (Count z) e v = absurd v
          by (Leads q) e v =
              let at : PointsTo σ r g base q = subst (λ (x : Option Region). PointsIn σ r x base q) stands v in
              let leads : pointer_of args array ≡ Address.At (σ.spots r).object ((σ.spots r).start +ℤ value σ.point base) = ap pointer_in e ∙ at.0 here in
              let f = d.formed in
              let i = number_known p σ args f d.values index offset.number offset.known in
              let i1 = i.1 in
              let c = value-combined σ.point (pos 1) (pos 4) (pos 0) base offset.number in
              let s : value σ.point (combined (pos 1) base (pos 4) offset.number (pos 0)) ≡ value σ.point o = ap (λ (x : Linear). value σ.point x) offset.is in
              let sum : ((σ.spots r).start +ℤ value σ.point base) +ℤ (pos 4 *ℤ number_of args index) ≡ (σ.spots r).start +ℤ value σ.point o = omega (arith, ints) in
              ap (λ (x : Address). moved x (pos 4 *ℤ number_of args index)) leads ∙ ap (λ (x : ℤ). Address.At (σ.spots r).object x) sum

    at_owes : Always (StoreOwes array index value_of place p ws) (store_at place p r g o (number_at p.values value_of) ws)
    at_owes =
        always-after_it (BoundsOwe p g o ws) (StoreOwes array index value_of place p ws) (bounds place p g o ws) _ (bounds_owe place p g o ws) (λ after b.
        always-after_it (Tells p.facts reached) (StoreOwes array index value_of place p ws) (ask p.facts reached)
        (λ x. Done (record { picture = after_store p r g o (number_at p.values value_of) (is_proved x.1); warnings = after })) (ask_tells p.facts reached) (λ x tells. record {
          grows = b.grows;
          covers = λ params args before m σ d clean fuel end run.
              let here = b.here clean σ.point d.facts in
              let f = d.formed in
              let z : ℤ = number_of args value_of in
              let l = lands_in p σ m r g o z stands here (b.low clean σ.point d.facts) (b.high clean σ.point d.facts) (offset_below params args before m σ d here) (d.regions r g stands here) in
              let ends : end ≡ Next l.now =
              run ∙ (ap (λ (q : Address). stored m (int_bytes z) place (reach m q 4)) (address params args before m σ d here) ∙ l.lands place) in
              let goes = store_goes params args before m p σ d l.now r g o z l.placed (number_at p.values value_of)
              (if_known _ (number_at p.values value_of) (λ t e. number_known p σ args f d.values value_of t e)) (is_proved x.1) (λ e. reaches σ.point (tells e σ.point d.facts)) in
              let q : Picture = after_store p r g o (number_at p.values value_of) (is_proved x.1) in
              subst (λ (e : Outcome). IsCovered params args before p σ m (q ∷ []) e) (sym ends) (record {
                at = zero;
                picture = q;
                setting = setting_after p σ m q goes.point l.now goes.stepped f;
                stands = refl;
                describes = stepped_describes p σ m q goes.point l.now goes.stepped f params args before d;
                since = stepped_since p σ m q goes.point l.now goes.stepped f;
              });
        }))
      where
        reached : Option Linear
        reached = formed (minus g.written o (pos 0))

        reaches : (point : ℕ → ℤ) → IsTold point reached → value point o ≤ℤ value point g.written
        reaches point h =
            let k = told_formed point (minus g.written o (pos 0)) h in
            let v = value-minus point g.written o (pos 0) in
            omega (arith, ints)

  in_owes : (r : ℕ) (base : Linear) → slice_get p.values array ≡ Some (Pointer r base) → (x : Option Region) → slice_get p.regions r ≡ x
      → (y : Option Linear) → offset_of base (number_at p.values index) ≡ y
      → Always (StoreOwes array index value_of place p ws) (store_in place p r x y (number_at p.values value_of) ws)
  in_owes r base points None there y moves = unknown_owes
  in_owes r base points (Some g) there None moves = unknown_owes
  in_owes r base points (Some g) there (Some o) moves = at_owes r g base o points there moves

  by_owes : (x : Option Value) → slice_get p.values array ≡ x
      → Always (StoreOwes array index value_of place p ws) (store_by place p x (number_at p.values index) (number_at p.values value_of) ws)
  by_owes None there = unknown_owes
  by_owes (Some (Number t)) there = unknown_owes
  by_owes (Some Unknown) there = unknown_owes
  by_owes (Some (Pointer r base)) there = in_owes r base there (slice_get p.regions r) refl (offset_of base (number_at p.values index)) refl

pub store_law : StoreLaw
store_law array index value_of place p ws = by_owes array index value_of place p ws (slice_get p.values array) refl
