-- The slots of a table of macros: which has the macro of a name, and what is left once one is added or taken away.
use Rattle.std.proofs.Common.{◌≡◌, ◌<◌, ◌⊎◌, inl, inr, ℕ, zero, suc, Bool, true, false, List, [], ◌∷◌, ◌++◌, Option, Some, None, ap, refl, sym, ◌∙◌, subst, arith, if◌then◌else◌, length, set, get_or}
use Rattle.std.specs.Option.{option_and_then}
use Rattle.std.specs.List.{slice_get}
use Rattle.std.proofs.lemmas.Option.{slice_get_read}
use Rattle.std.proofs.lemmas.Bool.Decides.{Decides-eqb, nat_tests}
use Rattle.sb_base.specs.declared.interning.Name.{Name}
use Rattle.sb_macro.specs.declared.stored.Stored.{Stored}
use Rattle.sb_macro.specs.Macros.{Macro, IsDistinct, macro_of, macro_named, same_name, without}
use Rattle.sb_macro.specs.Slots.{IsIndex, IsKept, IsSlot, Keeps, is_named, slot_at, standing}
use Rattle.sb_macro.proofs.Lists.{get_set, get_set_other}
use Rattle.sb_macro.proofs.Tables.{none_first, none_with, without_none, distinct_added, distinct_without}

-- a macro of another name
turned_to : (a b c : Name) → same_name a b ≡ false → same_name a c ≡ true → same_name b c ≡ false
turned_to a b c differ same = grind (arith, nat_tests)

names_same : (a b : Name) → same_name a b ≡ true → a ≡ b
names_same a b same = ap {B = Name} (λ n. record { 0 = n }) ((Decides-eqb a.0 b.0).0 same)

numbers_differ : (a b : Name) → same_name a b ≡ false → b.0 ≡ a.0 → ⊥
numbers_differ a b differ same = grind (arith, nat_tests)

-- where the slot of a name is looked for
pub no_place : (slots : List (Option Stored)) (places : List ℕ) (name : Name) → IsIndex slots places → slice_get places name.0 ≡ None → IsSlot slots name None
no_place slots places name index none place stored got = at (same_name stored.name name) refl
  where
    at : (is : Bool) → same_name stored.name name ≡ is → is ≡ false
    at false is = refl
    at true is =
        let there : slice_get places name.0 ≡ Some place = subst (λ n. slice_get places n.0 ≡ Some place) (names_same stored.name name is) (index place stored got) in
        absurd (let e = sym none ∙ there in cc)

pub this_place : (slots : List (Option Stored)) (name : Name) (place : ℕ) → is_named name (slot_at slots place) ≡ true → IsSlot slots name (Some place)
this_place slots name place is = at (slot_at slots place) refl is
  where
    at : (slot : Option Stored) → slot_at slots place ≡ slot → is_named name slot ≡ true → IsSlot slots name (Some place)
    at (Some stored) got is = (stored, got, is)
    at None got is = absurd (cc)

pub other_place : (slots : List (Option Stored)) (places : List ℕ) (name : Name) (place : ℕ) → IsIndex slots places → slice_get places name.0 ≡ Some place
    → is_named name (slot_at slots place) ≡ false → IsSlot slots name None
other_place slots places name place index there differs other stored got = at (same_name stored.name name) refl
  where
    at : (is : Bool) → same_name stored.name name ≡ is → is ≡ false
    at false is = refl
    at true is =
        let found : slice_get places name.0 ≡ Some other = subst (λ n. slice_get places n.0 ≡ Some other) (names_same stored.name name is) (index other stored got) in
        let same : other ≡ place = (let e = sym found ∙ there in cc) in
        let here : slot_at slots place ≡ Some stored = subst (λ p. slot_at slots p ≡ Some stored) same got in
        let named : is_named name (slot_at slots place) ≡ true = rw here is in
        absurd (let e = sym differs ∙ named in cc)

pub slot_within : (slots : List (Option Stored)) (place : ℕ) (stored : Stored) → slot_at slots place ≡ Some stored → place < length slots
slot_within [] place stored got = absurd (cc)
slot_within (slot ∷ slots) zero stored got = omega arith
slot_within (slot ∷ slots) (suc place) stored got = let inside = slot_within slots place stored got in omega (arith, inside)

-- what is read at the place of a slot
pub slot_read : (slots : List (Option Stored)) (place : ℕ) (slot : Option Stored) (stored : Stored) → slot_at slots place ≡ Some stored → slot ≡ get_or slots place slot → slot ≡ Some stored
slot_read slots place slot stored got read =
    let there : slot_at slots place ≡ slot = ap (option_and_then (λ s. s)) (slice_get_read slots (length slots) place slot refl (slot_within slots place stored got) read) in
    sym there ∙ got

-- no slot has a name that no macro has
pub apart : (slots : List (Option Stored)) (name : Name) (place : ℕ) (stored : Stored) → slot_at slots place ≡ Some stored → macro_named (standing slots) name ≡ None
    → same_name stored.name name ≡ false
apart [] name place stored got none = absurd (cc)
apart (None ∷ slots) name zero stored got none = absurd (cc)
apart (None ∷ slots) name (suc place) stored got none = apart slots name place stored got none
apart (Some first ∷ slots) name zero stored got none =
    let same : first ≡ stored = cc in subst (λ s. same_name s.name name ≡ false) same (none_first (macro_of first) name (standing slots) none).0
apart (Some first ∷ slots) name (suc place) stored got none = apart slots name place stored got (none_first (macro_of first) name (standing slots) none).1

-- the macro of a name that no slot has
pub none_named : (slots : List (Option Stored)) (name : Name) → ((place : ℕ) (stored : Stored) → slot_at slots place ≡ Some stored → same_name stored.name name ≡ false)
    → macro_named (standing slots) name ≡ None
none_named [] name all = refl
none_named (None ∷ slots) name all = none_named slots name (λ place stored got. all (suc place) stored got)
none_named (Some first ∷ slots) name all =
    none_with (macro_of first) name (standing slots) (all zero first refl) (none_named slots name (λ place stored got. all (suc place) stored got))

-- the macro of a name that a slot has
pub one_named : (slots : List (Option Stored)) (name : Name) (place : ℕ) (stored : Stored) → slot_at slots place ≡ Some stored → same_name stored.name name ≡ true
    → IsDistinct (standing slots) → macro_named (standing slots) name ≡ Some (macro_of stored)
one_named [] name place stored got is d = absurd (cc)
one_named (None ∷ slots) name zero stored got is d = absurd (cc)
one_named (None ∷ slots) name (suc place) stored got is d = one_named slots name place stored got is d
one_named (Some first ∷ slots) name zero stored got is d =
    let same : stored ≡ first = cc in
    subst (λ s. macro_named (standing (Some s ∷ slots)) name ≡ Some (macro_of stored)) same (rw is refl)
one_named (Some first ∷ slots) name (suc place) stored got is d =
    rw (turned_to stored.name first.name name (apart slots first.name place stored got d.0) is) (one_named slots name place stored got is d.1)

-- the macros that stand once a slot is emptied
pub emptied : (slots : List (Option Stored)) (name : Name) (place : ℕ) (stored : Stored) → slot_at slots place ≡ Some stored → same_name stored.name name ≡ true
    → IsDistinct (standing slots) → standing (set slots place None) ≡ without (standing slots) name
emptied [] name place stored got is d = absurd (cc)
emptied (None ∷ slots) name zero stored got is d = absurd (cc)
emptied (None ∷ slots) name (suc place) stored got is d = emptied slots name place stored got is d
emptied (Some first ∷ slots) name zero stored got is d =
    let same : stored ≡ first = cc in
    let here : same_name first.name name ≡ true = subst (λ s. same_name s.name name ≡ true) same is in
    let none : macro_named (standing slots) name ≡ None = subst (λ n. macro_named (standing slots) n ≡ None) (names_same first.name name here) d.0 in
    rw here (sym (without_none name (standing slots) none))
emptied (Some first ∷ slots) name (suc place) stored got is d =
    rw (turned_to stored.name first.name name (apart slots first.name place stored got d.0) is) (ap (λ l. macro_of first ∷ l) (emptied slots name place stored got is d.1))

still_there : (slots : List (Option Stored)) (place other : ℕ) (stored : Stored) → slot_at (set slots place None) other ≡ Some stored → slot_at slots other ≡ Some stored
still_there [] place other stored got = got
still_there (slot ∷ slots) zero zero stored got = absurd (cc)
still_there (slot ∷ slots) zero (suc other) stored got = got
still_there (slot ∷ slots) (suc place) zero stored got = got
still_there (slot ∷ slots) (suc place) (suc other) stored got = still_there slots place other stored got

pub emptied_kept : (slots : List (Option Stored)) (places : List ℕ) (name : Name) (place : ℕ) (stored : Stored) → slot_at slots place ≡ Some stored → same_name stored.name name ≡ true
    → IsKept slots places → IsKept (set slots place None) places
emptied_kept slots places name place stored got is kept = record {
  index = λ other s there. kept.index other s (still_there slots place other s there);
  distinct = subst IsDistinct (sym (emptied slots name place stored got is kept.distinct)) (distinct_without name (standing slots) kept.distinct);
}

-- a longer list of places
pub longer_kept : (slots : List (Option Stored)) (places now : List ℕ) → Keeps places now → IsKept slots places → IsKept slots now
longer_kept slots places now keeps kept = record {
  index = λ place stored got. keeps stored.name.0 place (kept.index place stored got);
  distinct = kept.distinct;
}

-- the macros that stand once one is added
pub standing_push : (slots : List (Option Stored)) (stored : Stored) → standing (slots ++ Some stored ∷ []) ≡ standing slots ++ macro_of stored ∷ []
standing_push [] stored = refl
standing_push (None ∷ slots) stored = standing_push slots stored
standing_push (Some first ∷ slots) stored = ap (λ l. macro_of first ∷ l) (standing_push slots stored)

pushed : (slots : List (Option Stored)) (stored other : Stored) (place : ℕ) → slot_at (slots ++ Some stored ∷ []) place ≡ Some other
    → (slot_at slots place ≡ Some other) ⊎ ((length slots ≡ place) × (stored ≡ other))
pushed [] stored other zero got = inr (refl, cc)
pushed [] stored other (suc place) got = absurd (cc)
pushed (slot ∷ slots) stored other zero got = inl got
pushed (slot ∷ slots) stored other (suc place) got =
    elim (pushed slots stored other place got) [ inl there ↦ inl there | inr last ↦ inr (ap suc last.0, last.1) ]

pub added_kept : (slots : List (Option Stored)) (places : List ℕ) (stored : Stored) → stored.name.0 < length places → macro_named (standing slots) stored.name ≡ None
    → IsKept slots places → IsKept (slots ++ Some stored ∷ []) (set places stored.name.0 (length slots))
added_kept slots places stored inside none kept = record {
  index = λ place other got. indexed place other (pushed slots stored other place got);
  distinct = subst IsDistinct (sym (standing_push slots stored)) (distinct_added (macro_of stored) (standing slots) kept.distinct none);
}
  where
    indexed : (place : ℕ) (other : Stored) → (slot_at slots place ≡ Some other) ⊎ ((length slots ≡ place) × (stored ≡ other))
        → slice_get (set places stored.name.0 (length slots)) other.name.0 ≡ Some place
    indexed place other (inl there) =
        get_set_other places stored.name.0 other.name.0 (length slots) place (numbers_differ other.name stored.name (apart slots stored.name place other there none)) (kept.index place other there)
    indexed place other (inr last) =
        subst (λ s. slice_get (set places stored.name.0 (length slots)) s.name.0 ≡ Some place) last.1
        (get_set places stored.name.0 (length slots) inside ∙ ap Some last.0)
