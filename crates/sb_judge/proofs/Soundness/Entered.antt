-- entry: each state that a function lets in is described, with a number for each symbol and a place for each region
use Rattle.std.proofs.Common.{◌≡◌, ℕ, suc, ◌+◌, ◌*◌, ◌<◌, ◌≤◌, List, [], ◌∷◌, ◌++◌, length, slice_get, get_or, ℤ, pos, negsuc, ◌+ℤ◌, ◌-ℤ◌, ◌*ℤ◌, ◌≤ℤ◌, ◌<ℤ◌, Option, Some, None, inl, inr, refl, sym, ap, ◌∙◌, subst, arith, length-append, append_assoc, append-nil}
use Rattle.std.proofs.lemmas.Int.{ints}
use Rattle.std.proofs.lemmas.Option.{get_or_from_slice_get}
use Rattle.sb_base.specs.declared.interning.Name.{Name}
use Rattle.sb_term.specs.Linear.{Linear, constant, symbol, scaled, value, formed}
use Rattle.sb_term.specs.Rows.{AllHold}
use Rattle.sb_term.specs.AskLaws.{always_weaker}
use Rattle.sb_term.specs.Values.{value-constant, value-symbol, value-scaled}
use Rattle.sb_function.specs.declared.syntax.ParamKind.{ParamKind}
use Rattle.sb_function.specs.declared.syntax.ParamKind.TheVariants.{Int, Unsigned, OutWrites}
use Rattle.sb_function.specs.declared.syntax.Simple.TheVariants as simple
use Rattle.sb_function.specs.declared.syntax.Param.{Param}
use Rattle.sb_picture.specs.declared.picture.Value.{Value}
use Rattle.sb_picture.specs.declared.picture.Value.TheVariants.{Number, Pointer, Unknown}
use Rattle.sb_picture.specs.declared.picture.Region.{Region}
use Rattle.sb_picture.specs.declared.picture.Part.TheVariants as part
use Rattle.sb_picture.specs.declared.picture.Picture.{Picture}
use Rattle.sb_picture.specs.Memory.{Memory, Null, At, Wild}
use Rattle.sb_picture.specs.Machine.{Held, Count, Leads, count_in}
use Rattle.sb_picture.specs.Contract.{least, greatest, clamped, region_size, LeadsTo, IsArgument, AreArguments, IsInRegion, Enters, MayWrite}
use Rattle.sb_picture.specs.Pictures.{minus, with_fact, next, number_in}
use Rattle.sb_judge.specs.Entry.{empty, with_number, with_pointer, with_param_of, with_params, presence_in, presence_of, presences, bytes_of, extent_less, extent_in, extent_of, extents, clauses, entered, enter}
use Rattle.sb_picture.specs.Describes.{Spot, Setting, Within, HasShape, RegionIs, PointsTo, PointsIn, ValueIs, ValuesAre, IsBelow, ValueIsBelow, RegionIsBelow, IsFormed, Describes}
use Rattle.sb_judge.specs.Laws.{Entered, EntryLaw}
use Rattle.sb_picture.proofs.Soundness.Items.{slice_get-seam}
use Rattle.sb_picture.proofs.Soundness.Elements.{each-append, each-one, get-append, get-append_last, get-append_cases}
use Rattle.sb_picture.proofs.Soundness.Points.{IfFormed, IsNotBelow0, if_formed, formed_is, value-minus, below-minus, below-constant, below-symbol, below-scaled, below_more, hold-with_fact, below-with_fact}
use Rattle.sb_picture.proofs.Soundness.Regions.{region_below}
use Rattle.sb_picture.proofs.Soundness.Asked.{AllIf, with_facts, AssumeOwes, assume_owes}
use Rattle.sb_judge.proofs.Soundness.Sequel.{keeps_same}
use Rattle.sb_judge.proofs.Soundness.Split.{values_are, number_below, describes_assumed}

-- an integer for each symbol that a parameter makes, and a place for each region
abbrev all_numbers : List Held → List Param → List Held → List ℤ
all_numbers args [] hs = []
all_numbers args (x ∷ xs) [] = []
all_numbers args (x ∷ xs) (Count z ∷ hs) = z ∷ all_numbers args xs hs
all_numbers args (x ∷ xs) (Leads q ∷ hs) = pos 1 ∷ pos (region_size args x.kind) ∷ pos 0 ∷ all_numbers args xs hs

abbrev all_spots : List Held → List Spot
all_spots [] = []
all_spots (Count z ∷ hs) = all_spots hs
all_spots (Leads Null ∷ hs) = all_spots hs
all_spots (Leads Wild ∷ hs) = all_spots hs
all_spots (Leads (At object start) ∷ hs) = record { object = object; start = start } ∷ all_spots hs

-- a function gives the items of a list from a number on
abbrev Gives : {A : Type 0} → (ℕ → A) → ℕ → List A → Type 0
Gives f n [] = Unit {0}
Gives f n (x ∷ xs) = (f n ≡ x) × Gives f (n + 1) xs

gives_from : {A : Type 0} (f : ℕ → A) (xs : List A) (n : ℕ) → ((k : ℕ) (x : A) → slice_get xs k ≡ Some x → f (n + k) ≡ x) → Gives f n xs
gives_from f [] n h = tt
gives_from f (x ∷ xs) n h =
    (ap f (omega arith) ∙ h 0 x refl, gives_from f xs (n + 1) (λ k y e. ap f (omega arith) ∙ h (suc k) y e))

gives_all : {A : Type 0} (d : A) (xs : List A) → Gives (λ n. get_or xs n d) 0 xs
gives_all d xs = gives_from (λ n. get_or xs n d) xs 0 (λ k x e. ap (λ n. get_or xs n d) (omega arith) ∙ get_or_from_slice_get xs k x d e)

-- values stay what they are where regions are added
value_more : (σ : Setting) (gs hs : List Region) (v : Value) (h : Held) → ValueIs σ gs v h → ValueIs σ (gs ++ hs) v h
value_more σ gs hs (Number t) (Count z) d = d
value_more σ gs hs (Number t) (Leads q) d = d
value_more σ gs hs (Pointer r o) (Count z) d = d
value_more σ gs hs (Pointer r o) (Leads q) d = by (slice_get gs r) refl d
  where
    by : (c : Option Region) → slice_get gs r ≡ c → PointsIn σ r c o q → PointsIn σ r (slice_get (gs ++ hs) r) o q
    by None e p = absurd p
    by (Some g) e p = let P : Option Region → Type 0 = λ c. PointsIn σ r c o q in subst P (sym (get-append gs hs r g e)) p
value_more σ gs hs Unknown h d = d

values_more : (σ : Setting) (gs hs : List Region) (vs : List Value) (ks : List Held) → ValuesAre σ gs vs ks → ValuesAre σ (gs ++ hs) vs ks
values_more σ gs hs [] [] d = d
values_more σ gs hs [] (k ∷ ks) d = d
values_more σ gs hs (v ∷ vs) [] d = d
values_more σ gs hs (v ∷ vs) (k ∷ ks) d = (value_more σ gs hs v k d.0, values_more σ gs hs vs ks d.1)

values_append : (σ : Setting) (gs : List Region) (vs : List Value) (ks : List Held) (v : Value) (k : Held)
    → ValuesAre σ gs vs ks → ValueIs σ gs v k → ValuesAre σ gs (vs ++ v ∷ []) (ks ++ k ∷ [])
values_append σ gs [] [] v k d h = (h, tt)
values_append σ gs [] (l ∷ ks) v k d h = absurd d
values_append σ gs (w ∷ vs) [] v k d h = absurd d
values_append σ gs (w ∷ vs) (l ∷ ks) v k d h = (d.0, values_append σ gs vs ks v k d.1 h)

-- conditions that hold where they were formed
all_if-append : (P : Linear → Type 0) (cs ds : List (Option Linear)) → AllIf P cs → AllIf P ds → AllIf P (cs ++ ds)
all_if-append P [] ds h k = k
all_if-append P (c ∷ cs) ds h k = (h.0, all_if-append P cs ds h.1 k)

all_if_then : (P Q : Linear → Type 0) (cs : List (Option Linear)) → ((t : Linear) → P t → Q t) → AllIf P cs → AllIf Q cs
all_if_then P Q [] k h = tt
all_if_then P Q (None ∷ cs) k h = (tt, all_if_then P Q cs k h.1)
all_if_then P Q (Some t ∷ cs) k h = (k t h.0, all_if_then P Q cs k h.1)

module _ (params : List Param) (args : List Held) (m : Memory) (σ : Setting) where
  -- a region of the entry: it was made for the pointer at a position
  record IsMade (at r : ℕ) (g : Region) : Type 0 where
    presence : value σ.point g.presence ≡ pos 1
    written : value σ.point g.written ≡ pos 0
    islands : g.islands ≡ []
    param : Param
    stands : slice_get params at ≡ Some param
    extent : value σ.point g.extent ≡ pos (region_size args param.kind)
    points : slice_get args at ≡ Some (Leads (At (σ.spots r).object (σ.spots r).start))
    leads : LeadsTo m (At (σ.spots r).object (σ.spots r).start) (region_size args param.kind)

  -- what has been entered of some parameters, where others are left
  record Entering (xs : List Param) (hs : List Held) (p : Picture) : Type 0 where
    done : List Param
    given : List Held
    params_are : params ≡ done ++ xs
    args_are : args ≡ given ++ hs
    done_many : length done ≡ length p.values
    given_many : length given ≡ length p.values
    arguments : AreArguments m args xs hs
    numbers : Gives σ.point (next p) (all_numbers args xs hs)
    spots : Gives σ.spots (length p.regions) (all_spots hs)
    facts : AllHold σ.point p.facts
    values : ValuesAre σ p.regions p.values given
    pointers : (at r : ℕ) (o : Linear) → slice_get p.values at ≡ Some (Pointer r o) → (g : Region) × (slice_get p.regions r ≡ Some g) × IsMade at r g
    owners : (r : ℕ) (g : Region) → slice_get p.regions r ≡ Some g → (at : ℕ) × (o : Linear) × (slice_get p.values at ≡ Some (Pointer r o))
    cells : p.cells ≡ []
    formed : IsFormed p

  -- the item at the next position
  item_next : {A : Type 0} (all done xs : List A) (x : A) (n : ℕ) → all ≡ done ++ x ∷ xs → length done ≡ n → slice_get all n ≡ Some x
  item_next all done xs x n e many =
      ap (λ ys. slice_get ys n) e ∙ ap (λ k. slice_get (done ++ x ∷ xs) k) (sym many) ∙ slice_get-seam done xs x

  more_many : {A B : Type 0} (xs : List A) (ys : List B) (x : A) (y : B) → length xs ≡ length ys → length (xs ++ x ∷ []) ≡ length (ys ++ y ∷ [])
  more_many xs ys x y e = let a = length-append xs (x ∷ []) in let b = length-append ys (y ∷ []) in omega arith

  fact : (t u : Linear) (c a b : ℤ) → value σ.point t ≡ a → value σ.point u ≡ b → pos 0 ≤ℤ ((a -ℤ b) +ℤ c) → IfFormed (IsNotBelow0 σ.point) (formed (minus t u c))
  fact t u c a b ea eb h = if_formed (IsNotBelow0 σ.point) (minus t u c) (let e = value-minus σ.point t u c in omega (arith, ints))

  fact_below : (n : ℕ) (t u : Linear) (c : ℤ) → IsBelow n t → IsBelow n u → IfFormed (IsBelow n) (formed (minus t u c))
  fact_below n t u c ht hu = if_formed (IsBelow n) (minus t u c) (below-minus n t u c ht hu)

  -- what is below a number is below a greater one
  value_below : (n k r s : ℕ) (v : Value) → n ≤ k → r ≤ s → ValueIsBelow n r v → ValueIsBelow k s v
  value_below n k r s (Number t) a b h = below_more n k t a h
  value_below n k r s (Pointer x o) a b h = (let l : x < r = h.0 in omega arith, below_more n k o a h.1)
  value_below n k r s Unknown a b h = h

  no_item : {A : Type 0} (xs : List A) (at : ℕ) (x : A) → xs ≡ [] → slice_get xs at ≡ Some x → ⊥
  no_item xs at x g h = let k = ap (λ ys. slice_get ys at) g in cc

  -- a number parameter
  number_step : (name : Name) (kind : ParamKind) (xs : List Param) (z : ℤ) (hs : List Held) (p : Picture)
      → least kind ≤ℤ z → z ≤ℤ greatest kind → AreArguments m args xs hs
      → Entering (record { name = name; kind = kind } ∷ xs) (Count z ∷ hs) p → Entering xs hs (with_number name kind p)
  number_step name kind xs z hs p low high rest e =
      let q : Picture = with_number name kind p in
      let x : Param = record { name = name; kind = kind } in
      let many : next q ≡ next p + 1 = length-append p.labels (record { name = name; part = part.Number } ∷ []) in
      let below : next p ≤ next q = omega arith in
      let s : Linear = symbol (next p) in
      let is : value σ.point s ≡ z = value-symbol σ.point (next p) ∙ e.numbers.0 in
      let in_range : IsBelow (next q) s = below-symbol (next q) (next p) (omega arith) in
      let lower : Option Linear = formed (minus s (constant (least kind)) (pos 0)) in
      let upper : Option Linear = formed (minus (constant (greatest kind)) s (pos 0)) in
      record {
        done = e.done ++ x ∷ [];
        given = e.given ++ Count z ∷ [];
        params_are = e.params_are ∙ sym (append_assoc e.done (x ∷ []) xs);
        args_are = e.args_are ∙ sym (append_assoc e.given (Count z ∷ []) hs);
        done_many = more_many e.done p.values x (Number s) e.done_many;
        given_many = more_many e.given p.values (Count z) (Number s) e.given_many;
        arguments = rest;
        numbers = subst (λ (n : ℕ). Gives σ.point n (all_numbers args xs hs)) (sym many) e.numbers.1;
        spots = e.spots;
        facts = hold-with_fact σ.point (with_fact p.facts lower) upper
            (hold-with_fact σ.point p.facts lower e.facts
            (fact s (constant (least kind)) (pos 0) z (least kind) is (value-constant σ.point (least kind)) (omega (arith, ints))))
            (fact (constant (greatest kind)) s (pos 0) (greatest kind) z (value-constant σ.point (greatest kind)) is (omega (arith, ints)));
        values = values_append σ p.regions p.values e.given (Number s) (Count z) e.values is;
        pointers = λ at r o h. elim (get-append_cases p.values (Number s) at (Pointer r o) h) [
          | inl l ↦ e.pointers at r o l
          | inr j ↦ (let no_one : ⊥ = (let k : Pointer r o ≡ Number s = j.1 in cc) in absurd no_one)
        ];
        owners = λ r g h. (let w = e.owners r g h in (w.0, w.1, get-append p.values (Number s ∷ []) w.0 (Pointer r w.1) w.2));
        cells = e.cells;
        formed = record {
          facts = below-with_fact (next q) (with_fact p.facts lower) upper
              (below-with_fact (next q) p.facts lower (λ at r h. below_more (next p) (next q) r.term below (e.formed.facts at r h))
              (fact_below (next q) s (constant (least kind)) (pos 0) in_range (below-constant (next q) (least kind))))
              (fact_below (next q) (constant (greatest kind)) s (pos 0) (below-constant (next q) (greatest kind)) in_range);
          values = each-append (ValueIsBelow (next q) (length p.regions)) p.values (Number s ∷ [])
              (λ at v h. value_below (next p) (next q) (length p.regions) (length p.regions) v below (omega arith) (e.formed.values at v h))
              (each-one (ValueIsBelow (next q) (length p.regions)) (Number s) in_range);
          regions = λ at g h. region_below (next p) (next q) g below (e.formed.regions at g h);
          cells = λ at c h. absurd (no_item p.cells at c e.cells h);
        };
      }

  -- a pointer parameter, which leads to an object
  pointer_step : (name : Name) (size : ℕ) (xs : List Param) (object : ℕ) (start : ℤ) (hs : List Held) (p : Picture)
      → LeadsTo m (At object start) (region_size args (OutWrites size)) → AreArguments m args xs hs
      → Entering (record { name = name; kind = OutWrites size } ∷ xs) (Leads (At object start) ∷ hs) p → Entering xs hs (with_pointer name p)
  pointer_step name size xs object start hs p leads rest e =
      let q : Picture = with_pointer name p in
      let x : Param = record { name = name; kind = OutWrites size } in
      let held : Held = Leads (At object start) in
      let a : Linear = symbol (next p) in
      let b : Linear = symbol (next p + 1) in
      let c : Linear = symbol (next p + 2) in
      let r : ℕ = length p.regions in
      let g : Region = record { name = name; presence = a; extent = b; written = c; islands = [] } in
      let v : Value = Pointer r (constant (pos 0)) in
      let many : next q ≡ next p + 3 =
      length-append p.labels (record { name = name; part = part.Present } ∷ record { name = name; part = part.Extent } ∷ record { name = name; part = part.Written } ∷ []) in
      let below : next p ≤ next q = omega arith in
      let regions_many : length (p.regions ++ g ∷ []) ≡ length p.regions + 1 = length-append p.regions (g ∷ []) in
      let is_a : value σ.point a ≡ pos 1 = value-symbol σ.point (next p) ∙ e.numbers.0 in
      let is_b : value σ.point b ≡ pos (region_size args (OutWrites size)) = value-symbol σ.point (next p + 1) ∙ e.numbers.1.0 in
      let is_c : value σ.point c ≡ pos 0 = value-symbol σ.point (next p + 2) ∙ ap σ.point (omega arith) ∙ e.numbers.1.1.0 in
      let in_a : IsBelow (next q) a = below-symbol (next q) (next p) (omega arith) in
      let in_b : IsBelow (next q) b = below-symbol (next q) (next p + 1) (omega arith) in
      let in_c : IsBelow (next q) c = below-symbol (next q) (next p + 2) (omega arith) in
      let lower : Option Linear = formed (minus (constant (pos 1)) a (pos 0)) in
      let upper : Option Linear = formed (minus b c (pos 0)) in
      let made : IsMade (length p.values) r g = record {
        presence = is_a;
        written = is_c;
        islands = refl;
        param = x;
        stands = item_next params e.done xs x (length p.values) e.params_are e.done_many;
        extent = is_b;
        points = subst (λ (s : Spot). slice_get args (length p.values) ≡ Some (Leads (At s.object s.start))) (sym e.spots.0)
            (item_next args e.given hs held (length p.values) e.args_are e.given_many);
        leads = subst (λ (s : Spot). LeadsTo m (At s.object s.start) (region_size args (OutWrites size))) (sym e.spots.0) leads;
      } in
      record {
        done = e.done ++ x ∷ [];
        given = e.given ++ held ∷ [];
        params_are = e.params_are ∙ sym (append_assoc e.done (x ∷ []) xs);
        args_are = e.args_are ∙ sym (append_assoc e.given (held ∷ []) hs);
        done_many = more_many e.done p.values x v e.done_many;
        given_many = more_many e.given p.values held v e.given_many;
        arguments = rest;
        numbers = subst (λ (n : ℕ). Gives σ.point n (all_numbers args xs hs)) (omega arith) e.numbers.1.1.1;
        spots = subst (λ (n : ℕ). Gives σ.spots n (all_spots hs)) (sym regions_many) e.spots.1;
        facts = hold-with_fact σ.point (with_fact (with_fact (with_fact p.facts (Some a)) lower) (Some c)) upper
            (hold-with_fact σ.point (with_fact (with_fact p.facts (Some a)) lower) (Some c)
            (hold-with_fact σ.point (with_fact p.facts (Some a)) lower
            (hold-with_fact σ.point p.facts (Some a) e.facts (omega (arith, ints, is_a)))
            (fact (constant (pos 1)) a (pos 0) (pos 1) (pos 1) (value-constant σ.point (pos 1)) is_a (omega (arith, ints))))
            (omega (arith, ints, is_c)))
            (fact b c (pos 0) (pos (region_size args (OutWrites size))) (pos 0) is_b is_c (omega (arith, ints)));
        values = values_append σ (p.regions ++ g ∷ []) p.values e.given v held (values_more σ p.regions (g ∷ []) p.values e.given e.values)
            (subst (λ (o : Option Region). PointsIn σ r o (constant (pos 0)) (At object start)) (sym (get-append_last p.regions g)) (points r g object start is_a e.spots.0));
        pointers = λ at s o h. elim (get-append_cases p.values v at (Pointer s o) h) [
          | inl l ↦ (let w = e.pointers at s o l in (w.0, get-append p.regions (g ∷ []) s w.0 w.1, w.2))
          | inr j ↦ made_at p.regions g at s (length p.values) j.0 (same_number r s (constant (pos 0)) o (sym j.1)) made
        ];
        owners = λ s h stands. elim (get-append_cases p.regions g s h stands) [
          | inl l ↦ (let w = e.owners s h l in (w.0, w.1, get-append p.values (v ∷ []) w.0 (Pointer s w.1) w.2))
          | inr j ↦ (length p.values, constant (pos 0), get-append_last p.values v ∙ ap (λ n. Some (Pointer n (constant (pos 0)))) (sym j.0))
        ];
        cells = e.cells;
        formed = record {
          facts = below-with_fact (next q) (with_fact (with_fact (with_fact p.facts (Some a)) lower) (Some c)) upper
              (below-with_fact (next q) (with_fact (with_fact p.facts (Some a)) lower) (Some c)
              (below-with_fact (next q) (with_fact p.facts (Some a)) lower
              (below-with_fact (next q) p.facts (Some a) (λ at f h. below_more (next p) (next q) f.term below (e.formed.facts at f h)) in_a)
              (fact_below (next q) (constant (pos 1)) a (pos 0) (below-constant (next q) (pos 1)) in_a))
              in_c)
              (fact_below (next q) b c (pos 0) in_b in_c);
          values = each-append (ValueIsBelow (next q) (length (p.regions ++ g ∷ []))) p.values (v ∷ [])
              (λ at w h. value_below (next p) (next q) (length p.regions) (length (p.regions ++ g ∷ [])) w below (omega arith) (e.formed.values at w h))
              (each-one (ValueIsBelow (next q) (length (p.regions ++ g ∷ []))) v (omega arith, tt));
          regions = each-append (RegionIsBelow (next q)) p.regions (g ∷ [])
              (λ at h stands. region_below (next p) (next q) h below (e.formed.regions at h stands))
              (each-one (RegionIsBelow (next q)) g (record { presence = in_a; extent = in_b; written = in_c; islands = λ at i h. absurd (no_item [] at i refl h) }));
          cells = λ at d h. absurd (no_item p.cells at d e.cells h);
        };
      }
    where
      points : (r : ℕ) (g : Region) (object : ℕ) (start : ℤ) → value σ.point g.presence ≡ pos 1 → σ.spots r ≡ record { object = object; start = start }
          → PointsTo σ r g (constant (pos 0)) (At object start)
      points r g object start here spot =
          let z = value-constant σ.point (pos 0) in
          let o : (σ.spots r).object ≡ object = ap (λ s. s.object) spot in
          let s : (σ.spots r).start ≡ start = ap (λ s. s.start) spot in
          let t : (σ.spots r).start +ℤ value σ.point (constant (pos 0)) ≡ start = omega (arith, ints) in
          (λ h. cc, λ h. absurd (omega (arith, ints)))

      same_number : (r s : ℕ) (t u : Linear) → Pointer r t ≡ Pointer s u → r ≡ s
      same_number r s t u h = cc

      made_at : (gs : List Region) (g : Region) (at s n : ℕ) → at ≡ n → length gs ≡ s → IsMade n (length gs) g
          → (h : Region) × (slice_get (gs ++ g ∷ []) s ≡ Some h) × IsMade at s h
      made_at gs g at s n e same made = (
        g,
        ap (λ k. slice_get (gs ++ g ∷ []) k) (sym same) ∙ get-append_last gs g,
        subst (λ (k : ℕ). IsMade at k g) same (subst (λ (k : ℕ). IsMade k (length gs) g) (sym e) made),
      )

  -- each parameter in turn
  step : (name : Name) (kind : ParamKind) (xs : List Param) (h : Held) (hs : List Held) (p : Picture) → IsArgument m args kind h → AreArguments m args xs hs
      → Entering (record { name = name; kind = kind } ∷ xs) (h ∷ hs) p → Entering xs hs (with_param_of name kind p)
  step name Int xs (Count z) hs p is rest e = number_step name Int xs z hs p is.0 is.1 rest e
  step name Int xs (Leads q) hs p is rest e = absurd is
  step name Unsigned xs (Count z) hs p is rest e = number_step name Unsigned xs z hs p is.0 is.1 rest e
  step name Unsigned xs (Leads q) hs p is rest e = absurd is
  step name (OutWrites size) xs (Count z) hs p is rest e = absurd is
  step name (OutWrites size) xs (Leads Null) hs p is rest e = absurd is
  step name (OutWrites size) xs (Leads Wild) hs p is rest e = absurd is
  step name (OutWrites size) xs (Leads (At object start)) hs p is rest e = pointer_step name size xs object start hs p is rest e

  steps : (xs : List Param) (hs : List Held) (p : Picture) → Entering xs hs p → Entering [] [] (with_params xs p)
  steps [] [] p e = e
  steps [] (h ∷ hs) p e = absurd e.arguments
  steps (x ∷ xs) [] p e = absurd e.arguments
  steps (x ∷ xs) (h ∷ hs) p e =
      steps xs hs (with_param_of x.name x.kind p) (step x.name x.kind xs h hs p (e.arguments).0 (e.arguments).1 e)

  -- the picture of the entry describes the state
  module _ (p : Picture) (e : Entering [] [] p) (apart : (i j o k : ℕ) → IsInRegion params args i o k → IsInRegion params args j o k → i ≡ j) where
    made_for : (r : ℕ) (g : Region) → slice_get p.regions r ≡ Some g → (at : ℕ) × (o : Linear) × (slice_get p.values at ≡ Some (Pointer r o)) × IsMade at r g
    made_for r g stands =
        let w = e.owners r g stands in
        let v = e.pointers w.0 r w.1 w.2 in
        let same : v.0 ≡ g = same_some v.0 g (sym v.1 ∙ stands) in
        (w.0, w.1, w.2, subst (λ (h : Region). IsMade w.0 r h) same v.2)
      where
        same_some : (g h : Region) → Some g ≡ Some h → g ≡ h
        same_some g h k = cc

    in_region : (at r : ℕ) (g : Region) (o k : ℕ) → IsMade at r g → Within (σ.spots r) (pos 0) (value σ.point g.extent) o k → IsInRegion params args at o k
    in_region at r g o k made w =
        let a : o ≡ (σ.spots r).object = w.0 in
        let b : ((σ.spots r).start +ℤ pos 0) ≤ℤ pos k = w.1 in
        let c : pos k <ℤ ((σ.spots r).start +ℤ value σ.point g.extent) = w.2 in
        let d : value σ.point g.extent ≡ pos (region_size args made.param.kind) = made.extent in
        record {
          param = made.param;
          pointer = At (σ.spots r).object (σ.spots r).start;
          stands = made.stands;
          leads = made.points;
          covered = (a, omega (arith, ints), omega (arith, ints));
        }

    region_is : (at r : ℕ) (g : Region) → IsMade at r g → RegionIs σ.point m (σ.spots r) g
    region_is at r g made =
        let d : value σ.point g.extent ≡ pos (region_size args made.param.kind) = made.extent in
        let z : value σ.point g.written ≡ pos 0 = made.written in
        record {
          size = made.leads.0;
          stands = made.leads.1;
          inside = λ h. (let i = made.leads.2 (omega (arith, ints)) in
              let s : ((σ.spots r).start +ℤ pos (region_size args made.param.kind)) ≤ℤ pos made.leads.0 = i.1 in
              (i.0, omega (arith, ints)));
          written = λ o k w. absurd (let b : ((σ.spots r).start +ℤ pos 0) ≤ℤ pos k = w.1 in
              let c : pos k <ℤ ((σ.spots r).start +ℤ value σ.point g.written) = w.2 in omega (arith, ints));
          islands = λ n i h. absurd (no_item g.islands n i made.islands h);
        }

    same_region : (at b r s : ℕ) (t u : Linear) → slice_get p.values at ≡ Some (Pointer r t) → slice_get p.values b ≡ Some (Pointer s u) → at ≡ b → r ≡ s
    same_region at b r s t u ha hb same = let k = ap (λ n. slice_get p.values n) same in cc

    describes : Describes params args m m p σ
    describes = record {
      facts = e.facts;
      values = subst (λ (hs : List Held). ValuesAre σ p.regions p.values hs) (sym (append-nil e.given) ∙ sym e.args_are) e.values;
      shapes = λ r g stands. shape (made_for r g stands).0 r g (made_for r g stands).3;
      regions = λ r g stands here. (let w = made_for r g stands in region_is w.0 r g w.3);
      cells = λ n c g stands there here. absurd (no_item p.cells n c e.cells stands);
      apart = λ r s g h o k gs hs gh hh wg wh.
          (let a = made_for r g gs in
          let b = made_for s h hs in
          same_region a.0 b.0 r s a.1 b.1 a.2 b.2 (apart a.0 b.0 o k (in_region a.0 r g o k a.3 wg) (in_region b.0 s h o k b.3 wh)));
      permitted = λ o k h. (let a = made_for h.at h.region h.stands in (a.0, in_region a.0 h.at h.region o k a.3 h.within));
      kept = keeps_same (λ o k. MayWrite params args o k) m;
      formed = e.formed;
    }
      where
        shape : (at r : ℕ) (g : Region) → IsMade at r g → HasShape σ.point g
        shape at r g made =
            let a : value σ.point g.presence ≡ pos 1 = made.presence in
            let b : value σ.point g.extent ≡ pos (region_size args made.param.kind) = made.extent in
            let c : value σ.point g.written ≡ pos 0 = made.written in
            record { absent = omega (arith, ints); present = omega (arith, ints); from = omega (arith, ints); within = omega (arith, ints) }

    -- what is assumed at entry holds there
    abbrev Holds_here : Linear → Type 0
    Holds_here t = (pos 0 ≤ℤ value σ.point t) × IsBelow (next p) t

    presence_holds : (at r : ℕ) (o : Linear) → slice_get p.values at ≡ Some (Pointer r o) → IfFormed Holds_here (presence_in (slice_get p.regions r))
    presence_holds at r o h =
        let w = e.pointers at r o h in
        let a : value σ.point (w.0).presence ≡ pos 1 = w.2.presence in
        let b = value-minus σ.point (w.0).presence (constant (pos 1)) (pos 0) in
        let c = value-constant σ.point (pos 1) in
        let below = e.formed.regions r w.0 w.1 in
        subst (λ (o : Option Region). IfFormed Holds_here (presence_in o)) (sym w.1)
        (if_formed Holds_here (minus (w.0).presence (constant (pos 1)) (pos 0))
        (omega (arith, ints), below-minus (next p) (w.0).presence (constant (pos 1)) (pos 0) below.presence (below-constant (next p) (pos 1))))

    bytes_hold : (g : Region) (c : Option Linear) (z : ℤ) → ((t : Linear) → c ≡ Some t → (value σ.point t ≡ z) × IsBelow (next p) t)
        → value σ.point g.extent ≡ pos (4 * clamped z) → IsBelow (next p) g.extent → IfFormed Holds_here (extent_less g (bytes_of c))
    bytes_hold g None z h extent below = tt
    bytes_hold g (Some t) z h extent below = by (formed (scaled (pos 4) t)) refl
      where
        at_least : (y : ℤ) → (pos 4 *ℤ y) ≤ℤ pos (4 * clamped y)
        at_least (pos n) = omega (arith, ints)
        at_least (negsuc n) = omega (arith, ints)

        by : (o : Option Linear) → formed (scaled (pos 4) t) ≡ o → IfFormed Holds_here (extent_less g o)
        by None f = tt
        by (Some u) f =
            let k = h t refl in
            let s : scaled (pos 4) t ≡ u = formed_is (scaled (pos 4) t) u f in
            let a : value σ.point t ≡ z = k.0 in
            let b : value σ.point (scaled (pos 4) t) ≡ pos 4 *ℤ value σ.point t = value-scaled σ.point (pos 4) t in
            let c : value σ.point (scaled (pos 4) t) ≡ value σ.point u = ap (λ w. value σ.point w) s in
            let d = value-minus σ.point g.extent u (pos 0) in
            let l = at_least z in
            if_formed Holds_here (minus g.extent u (pos 0)) (
              omega (arith, ints),
              below-minus (next p) g.extent u (pos 0) below (subst (λ (w : Linear). IsBelow (next p) w) s (below-scaled (next p) (pos 4) t k.1)),
            )

    extent_holds : (at r size : ℕ) (o : Linear) (x : Param) → slice_get params at ≡ Some x → x.kind ≡ OutWrites size → slice_get p.values at ≡ Some (Pointer r o)
        → IfFormed Holds_here (extent_in (slice_get p.regions r) (bytes_of (number_in (slice_get p.values size))))
    extent_holds at r size o x stands kind h =
        let w = e.pointers at r o h in
        let g : Region = w.0 in
        let same : (w.2.param).kind ≡ OutWrites size = same_kind w.2.param x (sym w.2.stands ∙ stands) ∙ kind in
        let extent : value σ.point g.extent ≡ pos (region_size args (OutWrites size)) = w.2.extent ∙ ap (λ k. pos (region_size args k)) same in
        let below = e.formed.regions r g w.1 in
        subst (λ (o : Option Region). IfFormed Holds_here (extent_in o (bytes_of (number_in (slice_get p.values size))))) (sym w.1)
        (bytes_hold g (number_in (slice_get p.values size)) (count_in (slice_get args size))
        (λ t f. (values_are σ p.regions p.values args describes.values size t f, number_below p e.formed (simple.Param size) t f))
        extent below.extent)
      where
        same_kind : (x y : Param) → Some x ≡ Some y → x.kind ≡ y.kind
        same_kind x y k = let z : x ≡ y = cc in ap (λ w. w.kind) z

    presences_hold : (vs : List Value) → ((at r : ℕ) (o : Linear) → slice_get vs at ≡ Some (Pointer r o) → IfFormed Holds_here (presence_in (slice_get p.regions r)))
        → AllIf Holds_here (presences p.regions vs)
    presences_hold [] h = tt
    presences_hold (v ∷ vs) h = all_if-append Holds_here (presence_of p.regions v) (presences p.regions vs) (one v (h 0)) (presences_hold vs (λ at. h (suc at)))
      where
        one : (w : Value) → ((r : ℕ) (o : Linear) → Some w ≡ Some (Pointer r o) → IfFormed Holds_here (presence_in (slice_get p.regions r)))
            → AllIf Holds_here (presence_of p.regions w)
        one (Number t) k = tt
        one (Pointer r o) k = (k r o refl, tt)
        one Unknown k = tt

    extents_hold : (xs : List Param) (vs : List Value)
        → ((at r size : ℕ) (o : Linear) (x : Param) → slice_get xs at ≡ Some x → x.kind ≡ OutWrites size → slice_get vs at ≡ Some (Pointer r o)
        → IfFormed Holds_here (extent_in (slice_get p.regions r) (bytes_of (number_in (slice_get p.values size)))))
        → AllIf Holds_here (extents p xs vs)
    extents_hold [] vs h = tt
    extents_hold (x ∷ xs) [] h = tt
    extents_hold (x ∷ xs) (v ∷ vs) h =
        all_if-append Holds_here (extent_of p x.kind v) (extents p xs vs)
        (one x.kind v (λ r size o k f. h 0 r size o x refl k f)) (extents_hold xs vs (λ at r size o y s k f. h (suc at) r size o y s k f))
      where
        one : (kind : ParamKind) (w : Value)
            → ((r size : ℕ) (o : Linear) → kind ≡ OutWrites size → Some w ≡ Some (Pointer r o) → IfFormed Holds_here (extent_in (slice_get p.regions r) (bytes_of (number_in (slice_get p.values size)))))
            → AllIf Holds_here (extent_of p kind w)
        one Int w k = tt
        one Unsigned w k = tt
        one (OutWrites size) (Number t) k = tt
        one (OutWrites size) (Pointer r o) k = (k r size o refl refl, tt)
        one (OutWrites size) Unknown k = tt

    clauses_hold : AllIf Holds_here (clauses params p)
    clauses_hold =
        all_if-append Holds_here (presences p.regions p.values) (extents p params p.values) (presences_hold p.values presence_holds) (extents_hold params p.values extent_holds)

    entered_with : (ps : List Picture) → AssumeOwes (clauses params p) p ps → Entered params args m ps
    entered_with ps owes =
        let d = describes in
        let a = owes σ.point d.facts d.formed.facts
        (all_if_then Holds_here (IsNotBelow0 σ.point) (clauses params p) (λ t h. h.0) clauses_hold)
        (all_if_then Holds_here (IsBelow (next p)) (clauses params p) (λ t h. h.1) clauses_hold) in
        record { at = a.at; picture = with_facts p a.facts; setting = σ; stands = a.stands; describes = describes_assumed params args m m p σ a.facts d a.hold a.below }

-- the integers and places of a state that a function lets in
setting_of : List Param → List Held → Setting
setting_of params args = record {
  point = λ n. get_or (all_numbers args params args) n (pos 0);
  spots = λ n. get_or (all_spots args) n (record { object = 0; start = pos 0 });
}

begins : (params : List Param) (args : List Held) (m : Memory) → AreArguments m args params args → Entering params args m (setting_of params args) params args empty
unfolding setting_of
begins params args m are = record {
  done = [];
  given = [];
  params_are = refl;
  args_are = refl;
  done_many = refl;
  given_many = refl;
  arguments = are;
  numbers = gives_all (pos 0) (all_numbers args params args);
  spots = gives_all (record { object = 0; start = pos 0 }) (all_spots args);
  facts = tt;
  values = tt;
  pointers = λ at r o h. absurd (none at (Pointer r o) h);
  owners = λ r g h. absurd (none r g h);
  cells = refl;
  formed = record { facts = λ at r h. absurd (none at r h); values = λ at v h. absurd (none at v h); regions = λ at g h. absurd (none at g h); cells = λ at c h. absurd (none at c h) };
}
  where
    none : {A : Type 0} (at : ℕ) (x : A) → slice_get [] at ≡ Some x → ⊥
    none at x h = cc

pub entry_law : EntryLaw
entry_law params =
    always_weaker (AssumeOwes (clauses params (entered params)) (entered params)) (λ ps. (args : List Held) (m : Memory) → Enters params m args → Entered params args m ps)
    (enter params)
    (λ ps owes args m enters.
    entered_with params args m (setting_of params args) (entered params)
    (steps params args m (setting_of params args) params args empty (begins params args m enters.arguments)) enters.apart ps owes)
    (assume_owes (clauses params (entered params)) (entered params))
