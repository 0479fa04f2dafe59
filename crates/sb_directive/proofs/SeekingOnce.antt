-- the pieces behind `include` ask for one thing
use Rattle.std.proofs.Common.{◌≡◌, ◌∷◌, ℕ, List, true, false, ap, sym, ◌∙◌}
use Rattle.sb_lex.specs.declared.piece.PpToken.{PpToken}
use Rattle.sb_directive.specs.Headers.{beginning}
use Rattle.sb_directive.specs.Limits.{most_tokens}
use Rattle.sb_directive.specs.Lines.{end_of}
use Rattle.sb_directive.specs.Rules.{Table}
use Rattle.sb_directive.specs.Seeking.{Sought, sought_by, Seeks}
use Rattle.sb_directive.proofs.RulesOnce.{one_end}

pub one_sought : (texts : List (List ℕ)) (table : Table) (behind : List PpToken) (sought other : Sought) → Seeks texts table behind sought → Seeks texts table behind other → sought ≡ other
one_sought texts table _ sought other (Seeks.as_it_stands t ts _ kind is) (Seeks.as_it_stands _ _ _ kind2 is2) = is ∙ sym is2
one_sought texts table _ sought other (Seeks.as_it_stands t ts _ kind is) (Seeks.by_macros _ _ given2 how2 _ kind2 ended2 is2) = absurd (let e : true ≡ false = sym kind ∙ kind2 in cc)
one_sought texts table _ sought other (Seeks.by_macros t ts given how _ kind ended is) (Seeks.as_it_stands _ _ _ kind2 is2) = absurd (let e : false ≡ true = sym kind ∙ kind2 in cc)
one_sought texts table _ sought other (Seeks.by_macros t ts given how _ kind ended is) (Seeks.by_macros _ _ given2 how2 _ kind2 ended2 is2) =
    let same = one_end texts table most_tokens (t ∷ ts) given given2 how how2 ended ended2 in
    is ∙ ap (λ l. sought_by (beginning texts l) how (end_of t.place (t ∷ ts))) same.0 ∙ ap (λ e. sought_by (beginning texts given2) e (end_of t.place (t ∷ ts))) same.1 ∙ sym is2
