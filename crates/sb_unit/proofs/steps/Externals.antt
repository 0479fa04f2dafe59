-- One declaration or function behind others.
use Rattle.std.proofs.Common.{◌≡◌, ℕ, List, ◌++◌, refl, sym, ap, ◌∙◌, subst}
use Rattle.sb_base.specs.declared.interning.Name.{Name}
use Rattle.sb_base.specs.declared.tokens.Token.{Token}
use Rattle.sb_parse.specs.Parser.{Parser, done, pure, and_then}
use Rattle.sb_tree.specs.Trees.{DeclTree}
use Rattle.sb_lexicon.specs.declared.reading.ReadFault.{ReadFault}
use Rattle.sb_lexicon.specs.Meaning.{IsFault}
use Rattle.sb_lexicon.proofs.Loops.{fault_first}
use Rattle.sb_specifier.specs.Readers.{Declarations}
use Rattle.sb_unit.specs.Parts.{one_external}
use Rattle.sb_unit.specs.Readers.{external}

module _ (texts : List (List ℕ)) (below : ℕ) (ds : Declarations) (ts : List Token) where
  abbrev joined : Declarations → Declarations
  joined new = record { list = ds.list ++ new.list; types = new.types }

  abbrev behind : Declarations → Parser Token Declarations
  behind new = pure (joined new)

  external_is : external texts below ds ts ≡ and_then (one_external texts below ds.types ts) behind
  unfolding external
  external_is = refl

  module _ (types : List Name) (same : types ≡ ds.types) where
    pub external_gives : (new : Declarations) (rest : List Token) (list : List DeclTree) → ds.list ++ new.list ≡ list → one_external texts below types ts ≡ done new rest
        → external texts below ds ts ≡ done (record { list = list; types = new.types }) rest
    external_gives new rest list listed is =
        subst (λ l. external texts below ds ts ≡ done (record { list = l; types = new.types }) rest) listed
        (external_is ∙ ap (λ o. and_then o behind) (subst (λ l. one_external texts below l ts ≡ done new rest) same is))

    pub external_faults : (fault : ReadFault) → IsFault (one_external texts below types ts) fault → IsFault (external texts below ds ts) fault
    external_faults fault why =
        subst (λ o. IsFault o fault) (sym external_is) (fault_first (one_external texts below ds.types ts) behind fault (subst (λ l. IsFault (one_external texts below l ts) fault) same why))
