use Rattle.std.proofs.Common.{◌≡◌, ◌∙◌, suc, refl, ap, sym, subst, arith}
use Rattle.std.proofs.lemmas.Result.{err_from_is_err_and}
use Rattle.sb_lexicon.specs.Meaning.{GivesAs}
use Rattle.sb_tree.specs.Plain.{plain_type}
use Rattle.sb_tree.specs.Trees.{depth_of_type}
use Rattle.sb_specifier.specs.Meaning.{plain_later}
use Rattle.sb_declare.specs.Openings as part
use Rattle.sb_declare.specs.Openings.{plain_counted, plain_listing}
use Rattle.sb_declare.proofs.steps.Sharing.{next_faults, next_then}
use Rattle.sb_declare.proofs.sharing.next_declarator.Goals as goal

pub returns-in_err-found : goal.returns-in_err-found
returns-in_err-found c =
    let a = c.args in
    let l = plain_listing a.so_far.value in
    let deep : c.in_ok-base.base.depth ≡ depth_of_type (plain_later a.shared.now.later) = c.in_ok-base.ensures.known ∙ ap depth_of_type c.in_ok-base.ensures.tree in
    let counted : c.in_ok-count.count ≡ suc l.count = omega (arith, c.in_ok-count.ensures.sum) in
    let p = err_from_is_err_and c.from_residual-in_err-found.result c.from_residual-in_err-found.ensures.1 in
    record {
      read = rw (p.1, p.2) (next_faults a.names.now.texts a.below a.shared.now l a.so_far.rest.now c.in_ok-comma.comma.value c.in_ok-comma.comma.rest.now c.in_ok-comma.ensures
          l.types refl c.in_ok-base.base.depth deep c.in_ok-count.count counted _ c.in_err-found.ensures.read);
    }

pub returns : goal.returns
returns c =
    let a = c.args in
    let texts = a.names.now.texts in
    let s = a.shared.now in
    let l = plain_listing a.so_far.value in
    let found = c.in_ok-found.found.value in
    let rest = c.in_ok-found.found.rest.now in
    let deep : c.in_ok-base.base.depth ≡ depth_of_type (plain_later s.later) = c.in_ok-base.ensures.known ∙ ap depth_of_type c.in_ok-base.ensures.tree in
    let counted : c.in_ok-count.count ≡ suc l.count = omega (arith, c.in_ok-count.ensures.sum) in
    let then = next_then texts a.below s l a.so_far.rest.now c.in_ok-comma.comma.value c.in_ok-comma.comma.rest.now c.in_ok-comma.ensures
    l.types refl c.in_ok-base.base.depth deep c.in_ok-count.count counted (plain_counted l.types found) rest c.in_ok-found.ensures.read in
    let based = ap (λ t. part.behind texts a.below (part.notes_of texts a.below s) s.storage t l.list l.types (plain_counted l.types found) rest) (sym c.in_ok-base.ensures.tree) in
    record { read = subst (λ o. GivesAs plain_listing o c.behind.result) (sym (then ∙ based)) c.behind.ensures.read }
