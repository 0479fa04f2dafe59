-- what the line of a directive asks for (C99 6.10)
use Rattle.std.specs.Prelude.{ℕ, Bool, false, not, List, [], ◌∷◌, Option, Some, None, if◌then◌else◌, drop, codes}
use Rattle.sb_base.specs.declared.refusals.Place.{Place}
use Rattle.sb_lex.specs.declared.piece.PpToken.{PpToken}
use Rattle.sb_directive.specs.declared.directive.Branch.{Branch}
use Rattle.sb_directive.specs.declared.directive.Directive.{Directive}
use Rattle.sb_directive.specs.declared.directive.Directive.TheVariants.{Null, If, Ifdef, Ifndef, Elif, Else, Endif, Include, Define, Undef, Line, Error, Pragma, Unknown}
use Rattle.sb_directive.specs.declared.asks.Asks.{Asks}
use Rattle.sb_directive.specs.declared.asks.Asks.TheVariants.{Nothing, Opens, Becomes, Closes, OpensIf, TurnsIf, Defines, Undefines, Includes, Once, Refused}
use Rattle.sb_directive.specs.Lines.{is_spelled, is_word, directive_of, place_of}
use Rattle.sb_directive.specs.Branches.{is_read, new_branch, skipped_branch, may_read, next_group, last_group}
use Rattle.sb_directive.specs.Rules.{Table, is_macro}

-- the word that has to stand behind `ifdef`, `ifndef` and `undef`; further pieces are passed over
abbrev pub on_word : Place → (PpToken → Asks) → List PpToken → Asks
on_word at asks [] = Refused 24 at
on_word at asks (t ∷ ts) = if is_word t then asks t else Refused 24 t.place

-- `#elif` and `#else` have to stand in a branch whose `#else` has not come
abbrev pub on_branch : Place → (Branch → Asks) → List Branch → Asks
on_branch at asks [] = Refused 25 at
on_branch at asks (b ∷ bs) = if b.after_else then Refused 25 at else asks b

abbrev pub on_end : Place → List Branch → Asks
on_end at [] = Refused 25 at
on_end at (b ∷ bs) = Closes

abbrev pub on_define : Place → List PpToken → Asks
on_define at [] = Refused 11 at
on_define at (t ∷ ts) = Defines

abbrev pub on_include : Place → List PpToken → Asks
on_include at [] = Refused 24 at
on_include at (t ∷ ts) = Includes

abbrev pub on_pragma : List (List ℕ) → List PpToken → Asks
on_pragma texts [] = Nothing
on_pragma texts (t ∷ ts) = if is_spelled (codes "once") texts t then Once else Nothing

-- `at` is the place of the directive's word, `rest` what stands behind it
abbrev pub asks_of : List (List ℕ) → Table → List Branch → Place → List PpToken → Directive → Asks
asks_of texts table bs at rest Null = Nothing
asks_of texts table bs at rest If = if is_read bs then OpensIf else Opens skipped_branch
asks_of texts table bs at rest Ifdef = if is_read bs then on_word at (λ t. Opens (new_branch (is_macro table t.text))) rest else Opens skipped_branch
asks_of texts table bs at rest Ifndef = if is_read bs then on_word at (λ t. Opens (new_branch (not (is_macro table t.text)))) rest else Opens skipped_branch
asks_of texts table bs at rest Elif = on_branch at (λ b. if may_read b then TurnsIf b else Becomes (next_group b false)) bs
asks_of texts table bs at rest Else = on_branch at (λ b. Becomes (last_group b)) bs
asks_of texts table bs at rest Endif = on_end at bs
asks_of texts table bs at rest Include = if is_read bs then on_include at rest else Nothing
asks_of texts table bs at rest Define = if is_read bs then on_define at rest else Nothing
asks_of texts table bs at rest Undef = if is_read bs then on_word at (λ t. Undefines t.text) rest else Nothing
asks_of texts table bs at rest Line = if is_read bs then Refused 15 at else Nothing
asks_of texts table bs at rest Error = if is_read bs then Refused 27 at else Nothing
asks_of texts table bs at rest Pragma = if is_read bs then on_pragma texts rest else Nothing
asks_of texts table bs at rest Unknown = if is_read bs then Refused 24 at else Nothing

-- of a line whose pieces begin with its `#`
abbrev pub asks : List (List ℕ) → Table → List Branch → List PpToken → Asks
asks texts table bs line = asks_of texts table bs (place_of line) (drop 2 line) (directive_of texts line)

-- the branches behind a line that asks for nothing but branches
abbrev pub branches_after : Asks → List Branch → Option (List Branch)
branches_after Nothing bs = Some bs
branches_after (Opens b) bs = Some (b ∷ bs)
branches_after (Becomes b) bs = Some (b ∷ drop 1 bs)
branches_after Closes bs = Some (drop 1 bs)
branches_after _ bs = None

-- the branches behind a line whose condition is so
abbrev pub branches_if : Asks → Bool → List Branch → Option (List Branch)
branches_if OpensIf holds bs = Some (new_branch holds ∷ bs)
branches_if (TurnsIf b) holds bs = Some (next_group b holds ∷ drop 1 bs)
branches_if _ holds bs = None
