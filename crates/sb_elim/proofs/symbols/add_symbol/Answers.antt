use Rattle.std.proofs.Common.{ℕ, List, sym, ap, ◌∙◌, arith}
use Rattle.std.specs.List.{prefix_len}
use Rattle.std.specs.Prelude.{nat_lt}
use Rattle.sb_elim.specs.Outcomes.{stands_in}
use Rattle.sb_elim.proofs.Rising.{with_symbol_standing, with_symbol_inserted, place_within}
use Rattle.sb_elim.proofs.symbols.add_symbol.Goals as goal

pub returns-then-stands_at : goal.returns-then-stands_at
returns-then-stands_at c =
    let s = c.args.symbol in
    let at = c.place_of-at.result in
    let e = c.place_of-at.ensures ∙ ap (λ (xs : List ℕ). prefix_len (λ x. nat_lt x s) xs) c.deref.ensures.value in
    let t = ap (λ (xs : List ℕ). stands_in xs at s) (sym c.deref-2.ensures.value) ∙ sym c.stands_at.ensures ∙ c.if-stands_at.true in
    sym (with_symbol_standing s at c.args.symbols.now.items e t)

pub insert-requires : goal.insert-requires
insert-requires c =
    let s = c.args.symbol in
    let e = c.place_of-at.ensures ∙ ap (λ (xs : List ℕ). prefix_len (λ x. nat_lt x s) xs) c.deref.ensures.value in
    omega (arith, place_within s c.place_of-at.result c.args.symbols.now.items e)

pub returns : goal.returns
returns c =
    let s = c.args.symbol in
    let at = c.place_of-at.result in
    let e = c.place_of-at.ensures ∙ ap (λ (xs : List ℕ). prefix_len (λ x. nat_lt x s) xs) c.deref.ensures.value in
    let t = ap (λ (xs : List ℕ). stands_in xs at s) (sym c.deref-2.ensures.value) ∙ sym c.stands_at.ensures ∙ c.if-stands_at.false in
    c.in_ok-insert.ensures.items ∙ sym (with_symbol_inserted s at c.args.symbols.now.items e t)
