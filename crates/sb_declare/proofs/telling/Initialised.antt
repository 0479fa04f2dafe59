-- Why the reader of what stands behind a declarator stops.
use Rattle.std.proofs.Common.{◌≤◌, ◌-◌, ℕ, zero, suc, true, false, not, List, [], nat_lt, arith}
use Rattle.sb_base.specs.declared.interning.Name.{Name}
use Rattle.sb_base.specs.declared.tokens.Token.{Token}
use Rattle.sb_parse.specs.Parser.{Parser, ◌>>=◌, pure, refuse, token, choose, looped}
use Rattle.sb_tree.specs.Trees.{InitTree}
use Rattle.sb_expr.specs.Expression.{Assignment}
use Rattle.sb_lexicon.specs.Lexicon.{Lexicon}
use Rattle.sb_expr.specs.Readers.{expr_reader}
use Rattle.sb_lexicon.specs.Tokens.{unexpected, is_open_brace, is_comma}
use Rattle.sb_lexicon.proofs.Depths.{within_room}
use Rattle.sb_specifier.specs.Specified.{reading}
use Rattle.sb_initialiser.specs.Readers.{Initialisers, next_initialiser, braces, initialiser_at, initialiser}
use Rattle.sb_declare.specs.Readers.{initialised}
use Rattle.sb_specifier.specs.Readers.{Parts, is_assign, is_close_brace, begins_designator, designated}
use Rattle.sb_specifier.proofs.telling.Shown.{brace_needs, assign_needs}
use Rattle.sb_specifier.proofs.telling.Reasons.{reasons, refusing_feature, barring, expr_telling}
use Rattle.sb_parse.proofs.Telling.{still, Telling, one_by_one, refusing, a_token, choosing, choosing_any, by_test, turning}
use Rattle.sb_initialiser.proofs.telling.Initialisers.{initialiser_telling}

module _ (texts : List (List ℕ)) (now : List Name) where
  abbrev w : Lexicon
  w = reading texts now

  pub initialised_telling : (below : ℕ) (part : ℕ → Parts) → Telling (reasons texts) (initialised texts below part now)
  unfolding initialised
  initialised_telling below part =
      choosing (reasons texts) (is_assign w) _ _ (barring texts now (is_assign w) (nat_lt below 2) _ (assign_needs w) (λ e ts h. one_by_one (reasons texts) (token unexpected (is_assign w)) _ (a_token (reasons texts) (is_assign w))
      (λ t. one_by_one (reasons texts) (initialiser w below) _ (initialiser_telling texts now below (let two : 2 ≤ below = within_room below 2 e in omega arith)) (λ i. still)) ts)) still
