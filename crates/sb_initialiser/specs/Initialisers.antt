-- What initialisers in code stand for in the definitions, and what their readers in code owe the readers that they compute.
use Rattle.std.specs.Prelude.{◌≡◌, List, [], ◌∷◌, ◌++◌, Result, Ok, Err, ◌-◌, ◌||◌}
use Rattle.sb_base.specs.declared.tokens.Token.{Token}
use Rattle.sb_parse.specs.Parser.{Outcome, done, Parser, refuse, choose}
use Rattle.sb_tree.specs.Plain.{plain_inits, plain_init, init_list}
use Rattle.sb_tree.specs.Trees.{InitTree, depth_of_init, depth_of_inits}
use Rattle.sb_lexicon.specs.declared.reading.ReadFault.{ReadFault}
use Rattle.sb_lexicon.specs.Meaning.{IsFault}
use Rattle.sb_initialiser.specs.declared.initialisers.Initial.{Initial}
use Rattle.sb_initialiser.specs.declared.initialisers.Initialisers as declared_initialisers
use Rattle.sb_initialiser.specs.declared.initialisers.Listed.{Listed}
use Rattle.sb_initialiser.specs.Readers.{Initialisers}
use Rattle.sb_lexicon.specs.Lexicon.{Lexicon}
use Rattle.sb_lexicon.specs.Tokens as expr
use Rattle.sb_lexicon.specs.Tokens.{unexpected, too_deep, is_open_brace}
use Rattle.sb_specifier.specs.Parts.{items}

-- ---- initialisers

abbrev pub ReadsInitial : Outcome Token InitTree → Result Initial ReadFault → Type 0
ReadsInitial o (Ok i) = (o ≡ done (plain_init i.tree) i.rest.now) × (i.depth ≡ depth_of_init (plain_init i.tree))
ReadsInitial o (Err e) = IsFault o e

abbrev pub plain_initialisers : declared_initialisers.Initialisers → Initialisers
plain_initialisers is = record { list = plain_inits is.list.items; more = is.more }

abbrev pub AreInitialisersKnown : declared_initialisers.Initialisers → Type 0
AreInitialisersKnown is = is.depth ≡ depth_of_inits (init_list (plain_inits is.list.items))

abbrev pub ReadsInitialisers : Outcome Token Initialisers → Result declared_initialisers.Initialisers ReadFault → Type 0
ReadsInitialisers o (Ok is) = (o ≡ done (plain_initialisers is) is.rest.now) × AreInitialisersKnown is
ReadsInitialisers o (Err e) = IsFault o e

-- `before`: the initialisers before this one
abbrev pub ReadsListed : List InitTree → Outcome Token Initialisers → Result Listed ReadFault → Type 0
ReadsListed before o (Ok i) = (o ≡ done (record { list = before ++ (plain_init i.tree ∷ []); more = i.more }) i.rest.now) × (i.depth ≡ depth_of_init (plain_init i.tree))
ReadsListed before o (Err e) = IsFault o e

-- ---- initialisers

-- without room for one
abbrev pub no_initialiser : Lexicon → Parser Token InitTree
no_initialiser w = choose (λ t. is_open_brace w t || expr.begins_expr w t) (refuse too_deep) (refuse unexpected)
