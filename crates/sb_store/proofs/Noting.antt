-- A report that is kept by place: one warning more, or none where one like it stands.
use Rattle.std.proofs.Common.{◌≡◌, Bool, true, false, ◌&&◌, ◌||◌, List, [], ◌∷◌, Option, Some, None, refl, sym, ap, ◌∙◌, subst, cond, if◌then◌else◌, nat_eq, nat_lt}
use Rattle.std.specs.declared.cmp.Ordering.{Ordering}
use Rattle.std.specs.declared.cmp.Ordering.TheVariants.{Less, Equal, Greater}
use Rattle.std.specs.Ordering.{ordering_then, match_ordering, is_eq}
use Rattle.std.specs.List.{AllByRecursion}
use Rattle.std.specs.Option.{is_some}
use Rattle.std.specs.Cmp.{IsTotalOrder, nat_cmp_total, then_total, on_total}
use Rattle.std.specs.BTreeMap.{insert_entry, is_at}
use Rattle.std.specs.Map.{keys_of, values_of, lookup}
use Rattle.std.specs.List.Sorted.{IsStrictlySortedBy}
use Rattle.std.proofs.lemmas.Map.{lookup-none}
use Rattle.std.proofs.lemmas.Map.Entries.{none_below_head}
use Rattle.std.proofs.lemmas.Map.Keys.{sorted_tail}
use Rattle.sb_store.specs.declared.warning.Warning.{Warning}
use Rattle.sb_store.specs.Reports.{Spot, spot_of, spot_cmp, AreKept, noted, number_of}

abbrev AreInPlace : List (Spot × Warning) → Type 0
AreInPlace entries = AllByRecursion (λ e. e.0 ≡ spot_of e.1) entries

pub spot_total : IsTotalOrder spot_cmp
spot_total =
    then_total (then_total (then_total (on_total (λ (s : Spot). s.0) nat_cmp_total) (on_total (λ (s : Spot). s.1) nat_cmp_total)) (on_total (λ (s : Spot). s.2) nat_cmp_total))
    (on_total (λ (s : Spot). s.3) nat_cmp_total)

-- the order of two numbers, as it is tested
abbrev by_tests : Bool → Bool → Ordering
by_tests less same = cond less Less (cond same Equal Greater)

abbrev before_or : Bool → Bool → Bool → Bool
before_or less same otherwise = less || (same && otherwise)

-- the order by four numbers is that of the tests
by_four : {X : Type 0} (l1 e1 l2 e2 l3 e3 l4 e4 : Bool) (a b c : X)
    → (if before_or l1 e1 (before_or l2 e2 (before_or l3 e3 l4)) then a else (if e1 && e2 && e3 && e4 then b else c))
    ≡ match_ordering (ordering_then (ordering_then (ordering_then (by_tests l1 e1) (by_tests l2 e2)) (by_tests l3 e3)) (by_tests l4 e4)) a b c
by_four true e1 l2 e2 l3 e3 l4 e4 a b c = refl
by_four false false l2 e2 l3 e3 l4 e4 a b c = refl
by_four false true true e2 l3 e3 l4 e4 a b c = refl
by_four false true false false l3 e3 l4 e4 a b c = refl
by_four false true false true true e3 l4 e4 a b c = refl
by_four false true false true false false l4 e4 a b c = refl
by_four false true false true false true true e4 a b c = refl
by_four false true false true false true false true a b c = refl
by_four false true false true false true false false a b c = refl

noted_by : (w x : Warning) (xs : List Warning) → noted w (x ∷ xs) ≡ match_ordering (spot_cmp (spot_of w) (spot_of x)) (w ∷ x ∷ xs) (x ∷ xs) (x ∷ noted w xs)
noted_by w x xs =
    by_four (nat_lt w.place.file x.place.file) (nat_eq w.place.file x.place.file) (nat_lt w.place.line x.place.line) (nat_eq w.place.line x.place.line) (nat_lt w.place.col x.place.col)
    (nat_eq w.place.col x.place.col) (nat_lt (number_of w.need) (number_of x.need)) (nat_eq (number_of w.need) (number_of x.need)) (w ∷ x ∷ xs) (x ∷ xs) (x ∷ noted w xs)

-- the same, by the key at which a warning is kept
noted_at : (w : Warning) (e : Spot × Warning) (xs : List Warning) → e.0 ≡ spot_of e.1
    → match_ordering (spot_cmp (spot_of w) e.0) (w ∷ e.1 ∷ xs) (e.1 ∷ xs) (e.1 ∷ noted w xs) ≡ noted w (e.1 ∷ xs)
noted_at w e xs place =
    ap (λ k. match_ordering (spot_cmp (spot_of w) k) (w ∷ e.1 ∷ xs) (e.1 ∷ xs) (e.1 ∷ noted w xs)) place ∙ sym (noted_by w e.1 xs)

-- a warning that none is like
noted_new : (w : Warning) (es : List (Spot × Warning)) → AreInPlace es → lookup (is_at (spot_cmp (spot_of w))) es ≡ None
    → values_of (insert_entry spot_cmp es (spot_of w) w) ≡ noted w (values_of es)
noted_new w [] places none = refl
noted_new w (e ∷ es) places none =
    at (spot_cmp (spot_of w) e.0) none (noted_new w es places.1) ∙ noted_at w e (values_of es) places.0
  where
    at : (o : Ordering) → cond (is_eq o) (Some e.1) (lookup (is_at (spot_cmp (spot_of w))) es) ≡ None
        → (lookup (is_at (spot_cmp (spot_of w))) es ≡ None → values_of (insert_entry spot_cmp es (spot_of w) w) ≡ noted w (values_of es))
        → values_of (match_ordering o ((spot_of w, w) ∷ e ∷ es) ((e.0, w) ∷ es) (e ∷ insert_entry spot_cmp es (spot_of w) w))
        ≡ match_ordering o (w ∷ e.1 ∷ values_of es) (e.1 ∷ values_of es) (e.1 ∷ noted w (values_of es))
    at Less none more = refl
    at Equal none more = absurd (cc)
    at Greater none more = ap (λ l. e.1 ∷ l) (more none)

-- a warning that one is like
noted_old : (w : Warning) (es : List (Spot × Warning)) → AreInPlace es → IsStrictlySortedBy spot_cmp (keys_of es) → is_some (lookup (is_at (spot_cmp (spot_of w))) es) ≡ true
    → values_of es ≡ noted w (values_of es)
noted_old w [] places sorted some = absurd (cc)
noted_old w (e ∷ es) places sorted some =
    at (spot_cmp (spot_of w) e.0) refl some (noted_old w es places.1 (sorted_tail spot_cmp e.0 (keys_of es) sorted)) ∙ noted_at w e (values_of es) places.0
  where
    at : (o : Ordering) → spot_cmp (spot_of w) e.0 ≡ o → is_some (cond (is_eq o) (Some e.1) (lookup (is_at (spot_cmp (spot_of w))) es)) ≡ true
        → (is_some (lookup (is_at (spot_cmp (spot_of w))) es) ≡ true → values_of es ≡ noted w (values_of es))
        → e.1 ∷ values_of es ≡ match_ordering o (w ∷ e.1 ∷ values_of es) (e.1 ∷ values_of es) (e.1 ∷ noted w (values_of es))
    at Less is some more =
        let none = (none_below_head spot_total (spot_of w) e es sorted is).1 in
        absurd (let gone = ap is_some (lookup-none (is_at (spot_cmp (spot_of w))) es none) in cc)
    at Equal is some more = refl
    at Greater is some more = ap (λ l. e.1 ∷ l) (more some)

-- what is kept by place stays so
placed_still : (w : Warning) (es : List (Spot × Warning)) → AreInPlace es → lookup (is_at (spot_cmp (spot_of w))) es ≡ None
    → AreInPlace (insert_entry spot_cmp es (spot_of w) w)
placed_still w [] places none = (refl, tt)
placed_still w (e ∷ es) places none = at (spot_cmp (spot_of w) e.0) none (placed_still w es places.1)
  where
    at : (o : Ordering) → cond (is_eq o) (Some e.1) (lookup (is_at (spot_cmp (spot_of w))) es) ≡ None
        → (lookup (is_at (spot_cmp (spot_of w))) es ≡ None → AreInPlace (insert_entry spot_cmp es (spot_of w) w))
        → AreInPlace (match_ordering o ((spot_of w, w) ∷ e ∷ es) ((e.0, w) ∷ es) (e ∷ insert_entry spot_cmp es (spot_of w) w))
    at Less none more = (refl, places)
    at Equal none more = absurd (cc)
    at Greater none more = (places.0, more none)

-- ---- as a map answers

module _ (w : Warning) (spot : Spot) (es : List (Spot × Warning)) (at : spot ≡ spot_of w) (kept : AreKept es) where
  found_at : {b : Bool} → b ≡ is_some (lookup (is_at (spot_cmp spot)) es) → is_some (lookup (is_at (spot_cmp (spot_of w))) es) ≡ b
  found_at is = ap (λ k. is_some (lookup (is_at (spot_cmp k)) es)) (sym at) ∙ sym is

  none_at : {b : Bool} → b ≡ is_some (lookup (is_at (spot_cmp spot)) es) → b ≡ false → lookup (is_at (spot_cmp (spot_of w))) es ≡ None
  none_at {b} is absent = gone (lookup (is_at (spot_cmp (spot_of w))) es) b (found_at is) absent
    where
      gone : (o : Option Warning) (b : Bool) → is_some o ≡ b → b ≡ false → o ≡ None
      gone None b e none = refl
      gone (Some x) b e none = absurd (cc)

  -- one more is kept
  pub added_kept : {b : Bool} (now : List (Spot × Warning)) → b ≡ is_some (lookup (is_at (spot_cmp spot)) es) → b ≡ false → now ≡ insert_entry spot_cmp es spot w
      → IsStrictlySortedBy spot_cmp (keys_of now) → AreKept now
  added_kept now is absent put ordered =
      record { placed = subst AreInPlace (sym (put ∙ ap (λ k. insert_entry spot_cmp es k w) at)) (placed_still w es kept.placed (none_at is absent)); ordered = ordered }

  pub added_noted : {b : Bool} (now : List (Spot × Warning)) → b ≡ is_some (lookup (is_at (spot_cmp spot)) es) → b ≡ false → now ≡ insert_entry spot_cmp es spot w
      → values_of now ≡ noted w (values_of es)
  added_noted now is absent put = ap values_of (put ∙ ap (λ k. insert_entry spot_cmp es k w) at) ∙ noted_new w es kept.placed (none_at is absent)

  -- one like it is kept
  pub like_noted : {b : Bool} → b ≡ is_some (lookup (is_at (spot_cmp spot)) es) → b ≡ true → values_of es ≡ noted w (values_of es)
  like_noted is had = noted_old w es kept.placed kept.ordered (found_at is ∙ had)
