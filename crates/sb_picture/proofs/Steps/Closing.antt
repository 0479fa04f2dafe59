-- passes over the facts: what one does to the list of symbols
use Rattle.std.proofs.Common.{◌≡◌, ℕ, zero, suc, ◌<◌, Bool, true, false, List, [], ◌∷◌, ◌++◌, length, nat_eq, if◌then◌else◌, refl, sym, ap, ◌∙◌, append_assoc, length-append, arith}
use Rattle.std.proofs.lemmas.List.{append-nil}
use Rattle.std.proofs.lemmas.Bool.Decides.{nat_tests}
use Rattle.std.specs.List.{list_any}
use Rattle.sb_term.specs.declared.entry.Entry.{Entry}
use Rattle.sb_term.specs.declared.row.Row.{Row}
use Rattle.sb_picture.specs.Asking.{with_met, with_all_met, touches, spread, closed}

-- a list with more at its end
record Longer (ss ts : List ℕ) : Type 0 where
  more : List ℕ
  is : ts ≡ ss ++ more

same : (ss : List ℕ) → Longer ss ss
same ss = record { more = []; is = sym (append-nil ss) }

longer : (ss ts us : List ℕ) → Longer ss ts → Longer ts us → Longer ss us
longer ss ts us a b = record { more = a.more ++ b.more; is = b.is ∙ ap (λ x. x ++ b.more) a.is ∙ append_assoc ss a.more b.more }

with_met-longer : (ss : List ℕ) (s : ℕ) → Longer ss (with_met ss s)
with_met-longer ss s = by (list_any (nat_eq s) ss)
  where
    by : (v : Bool) → Longer ss (if v then ss else ss ++ s ∷ [])
    by true = same ss
    by false = record { more = s ∷ []; is = refl }

with_all_met-longer : (es : List Entry) (ss : List ℕ) → Longer ss (with_all_met ss es)
with_all_met-longer [] ss = same ss
with_all_met-longer (e ∷ es) ss = longer ss (with_met ss e.symbol) (with_all_met (with_met ss e.symbol) es) (with_met-longer ss e.symbol) (with_all_met-longer es (with_met ss e.symbol))

spread-longer : (rs : List Row) (ss : List ℕ) → Longer ss (spread ss rs)
spread-longer [] ss = same ss
spread-longer (r ∷ rs) ss = by (touches ss r) (spread-longer rs (with_all_met ss r.term.entries)) (spread-longer rs ss)
  where
    by : (v : Bool) → Longer (with_all_met ss r.term.entries) (spread (with_all_met ss r.term.entries) rs) → Longer ss (spread ss rs)
        → Longer ss (spread (if v then with_all_met ss r.term.entries else ss) rs)
    by true brought stays = longer ss (with_all_met ss r.term.entries) (spread (with_all_met ss r.term.entries) rs) (with_all_met-longer r.term.entries ss) brought
    by false brought stays = stays

none : (xs : List ℕ) → length xs ≡ 0 → xs ≡ []
none [] e = refl
none (x ∷ xs) e = absurd (omega arith)

-- a pass that makes the list no longer leaves it as it is
spread-still : (rs : List Row) (ss : List ℕ) → length (spread ss rs) ≡ length ss → spread ss rs ≡ ss
spread-still rs ss e =
    let l = spread-longer rs ss in
    let n : length l.more ≡ 0 = omega (arith, ap length l.is, length-append ss l.more) in
    l.is ∙ ap (λ x. ss ++ x) (none l.more n) ∙ append-nil ss

pub closed-still : (n : ℕ) (rs : List Row) (ss : List ℕ) → 0 < n → length (spread ss rs) ≡ length ss → closed n rs ss ≡ spread ss rs
closed-still zero rs ss h e = absurd (omega arith)
closed-still (suc n) rs ss h e = grind (arith, nat_tests, spread-still rs ss e)

pub closed-goes : (n m : ℕ) (rs : List Row) (ss : List ℕ) → n ≡ suc m → (length (spread ss rs) ≡ length ss → ⊥) → closed n rs ss ≡ closed m rs (spread ss rs)
closed-goes zero m rs ss h e = absurd (omega arith)
closed-goes (suc n) m rs ss h e = let p : n ≡ m = omega arith in grind (arith, nat_tests, p)
