-- the test of equal entries decides whether two lists of entries are one
use Rattle.std.proofs.Common.{◌≡◌, ◌↔◌, IsTrue, Bool, true, false, List, [], ◌∷◌, refl, sym, ap, ◌∙◌}
use Rattle.std.specs.Prelude.{◌&&◌, ◌==◌}
use Rattle.std.specs.Ordering.{int_eq}
use Rattle.std.proofs.lemmas.Bool.{and_from, and_parts}
use Rattle.sb_term.specs.declared.entry.Entry.{Entry}
use Rattle.sb_term.specs.Linear.{is_same_list}
use Rattle.sb_term.proofs.Kept.{entries_decide}

abbrev is_same_entry : Entry → Entry → Bool
is_same_entry x y = (x.symbol == y.symbol) && int_eq x.coefficient y.coefficient

pub same_from_test : (xs ys : List Entry) → is_same_list xs ys ≡ true → xs ≡ ys
same_from_test [] [] h = refl
same_from_test [] (y ∷ ys) h = absurd (cc)
same_from_test (x ∷ xs) [] h = absurd (cc)
same_from_test (x ∷ xs) (y ∷ ys) h =
    let e = (entries_decide x y).0 (and_parts (is_same_entry x y) (is_same_list xs ys) h).0 in
    let r = same_from_test xs ys (and_parts (is_same_entry x y) (is_same_list xs ys) h).1 in
    cc

is_same_list-self : (xs : List Entry) → is_same_list xs xs ≡ true
is_same_list-self [] = refl
is_same_list-self (x ∷ xs) = and_from (is_same_entry x x) (is_same_list xs xs) ((entries_decide x x).1 refl) (is_same_list-self xs)

pub is_same_list-decided : (xs ys : List Entry) (b : Bool) → (IsTrue b ↔ (xs ≡ ys)) → b ≡ is_same_list xs ys
is_same_list-decided xs ys b h = by b (is_same_list xs ys) h refl
  where
    by : (b t : Bool) → (IsTrue b ↔ (xs ≡ ys)) → is_same_list xs ys ≡ t → b ≡ t
    by true true h e = refl
    by false false h e = refl
    by true false h e = sym (is_same_list-self xs) ∙ ap (is_same_list xs) (h.0 refl) ∙ e
    by false true h e = h.1 (same_from_test xs ys e)
