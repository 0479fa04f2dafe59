use Rattle.std.proofs.Common.{◌≡◌, ◌≤◌, ◌<◌, arith, sym, true, false, refl, length}
use Rattle.std.proofs.lemmas.List.{length-map}
use Rattle.sb_base.proofs.Texts.{texts_of, found_text, held_behind, texts_with, with_held, table_with, number_of_new}
use Rattle.sb_base.proofs.interning.Names.intern.Goals as goal

pub returns-in-Some-clause-number : goal.returns-in-Some-clause-number
returns-in-Some-clause-number c =
    rw (← c.self.view_is) (found_text c.args.text.now c.self.inside.texts.keys c.in-Some.index (sym c.in-Some.ensures.index))

pub returns-in-Some-clause-texts : goal.returns-in-Some-clause-texts
returns-in-Some-clause-texts c =
    let held = held_behind c.args.text.now c.self.inside.texts.keys true c.in-Some.ensures.found in
    rw (← c.self.view_is) (with_held (texts_of c.self.inside.texts.keys) c.args.text.now held)

pub returns-in-Some-clause-full : goal.returns-in-Some-clause-full
returns-in-Some-clause-full c =
    let held = held_behind c.args.text.now c.self.inside.texts.keys true c.in-Some.ensures.found in
    rw (← c.self.view_is) (λ e. absurd (cc), λ h. absurd (cc (held, h.0)))

pub returns-then-count-self-clause-full : goal.returns-then-count-self-clause-full
returns-then-count-self-clause-full c =
    let keys = c.self.inside.texts.keys in
    let new = held_behind c.args.text.now keys false c.in_default.ensures.found in
    let full : c.self.inside.limit ≤ length (texts_of keys) = omega (arith, length-map keys (λ v. v.items)) in
    rw (← c.self.view_is) (λ _. (new, full), λ _. refl)

pub invariant_of-self-2 : goal.invariant_of-self-2
invariant_of-self-2 c =
    let keys = c.self.inside.texts.keys in
    let new = held_behind c.args.text.now keys false c.in_default.ensures.found in
    let room : length keys < c.self.inside.limit = omega arith in
    table_with keys c.insert.new.self.keys c.in_ok-owned.owned c.args.text.now c.self.inside.limit c.in_ok-insert.ensures.keys c.in_ok-owned.ensures.items new room c.self.invariant

pub returns-clause-distinct : goal.returns-clause-distinct
returns-clause-distinct c = (invariant_of-self-2 c).distinct

pub returns-clause-number : goal.returns-clause-number
returns-clause-number c =
    let keys = c.self.inside.texts.keys in
    let new = held_behind c.args.text.now keys false c.in_default.ensures.found in
    let count : c.len-count.result ≡ length (texts_of keys) = omega (arith, length-map keys (λ v. v.items)) in
    let texts = texts_with keys c.insert.new.self.keys c.in_ok-owned.owned c.args.text.now c.in_ok-insert.ensures.keys c.in_ok-owned.ensures.items in
    rw (texts, count) (number_of_new (texts_of keys) c.args.text.now new)

pub returns-clause-texts : goal.returns-clause-texts
returns-clause-texts c =
    rw (← c.self.view_is)
    (texts_with c.self.inside.texts.keys c.insert.new.self.keys c.in_ok-owned.owned c.args.text.now c.in_ok-insert.ensures.keys c.in_ok-owned.ensures.items)
