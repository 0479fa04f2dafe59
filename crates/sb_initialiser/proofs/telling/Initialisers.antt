-- Why the readers of initialisers stop.
use Rattle.std.proofs.Common.{◌≤◌, ◌-◌, ℕ, zero, suc, true, false, not, List, [], nat_lt, arith}
use Rattle.sb_base.specs.declared.interning.Name.{Name}
use Rattle.sb_base.specs.declared.tokens.Token.{Token}
use Rattle.sb_parse.specs.Parser.{Parser, ◌>>=◌, pure, refuse, token, choose, looped}
use Rattle.sb_tree.specs.Trees.{InitTree}
use Rattle.sb_expr.specs.Expression.{Assignment}
use Rattle.sb_lexicon.specs.Lexicon.{Lexicon}
use Rattle.sb_expr.specs.Readers.{expr_reader}
use Rattle.sb_lexicon.specs.Tokens.{unexpected, is_open_brace, is_comma}
use Rattle.sb_lexicon.proofs.Depths.{within_room}
use Rattle.sb_specifier.specs.Specified.{reading}
use Rattle.sb_initialiser.specs.Readers.{Initialisers, next_initialiser, braces, initialiser_at, initialiser}
use Rattle.sb_specifier.specs.Readers.{Parts, is_assign, is_close_brace, begins_designator, designated}
use Rattle.sb_specifier.proofs.telling.Shown.{brace_needs, assign_needs}
use Rattle.sb_specifier.proofs.telling.Reasons.{reasons, refusing_feature, barring, expr_telling}
use Rattle.sb_parse.proofs.Telling.{still, Telling, one_by_one, refusing, a_token, choosing, choosing_any, by_test, turning}

-- ---- initialisers

module _ (texts : List (List ℕ)) (now : List Name) where
  abbrev w : Lexicon
  w = reading texts now

  module _ (below : ℕ) (part : Parser Token InitTree) (P : Telling (reasons texts) part) where
    next_telling : (is : Initialisers) → Telling (reasons texts) (next_initialiser w below part is)
    unfolding next_initialiser
    next_telling is =
        by_test (reasons texts) is.more _ _ (one_by_one (reasons texts) (choose (begins_designator w) (refuse designated) part) _ (choosing (reasons texts) (begins_designator w) (refuse designated) part (refusing_feature texts InitTree now (begins_designator w) 15 (λ t h. h)) P)
        (λ i. one_by_one (reasons texts) (choose (is_comma w) (token unexpected (is_comma w) >>= (λ t. pure true)) (pure false)) _ (choosing_any (reasons texts) (is_comma w) (token unexpected (is_comma w) >>= (λ t. pure true)) (pure false)
        (one_by_one (reasons texts) (token unexpected (is_comma w)) (λ t. pure true) (a_token (reasons texts) (is_comma w)) (λ t. still)) still) (λ more. still))) (refusing (reasons texts) Initialisers)

    braces_telling : Telling (reasons texts) (braces w below part)
    unfolding braces
    braces_telling =
        one_by_one (reasons texts) (token unexpected (is_open_brace w)) _ (a_token (reasons texts) (is_open_brace w)) (λ o.
        one_by_one (reasons texts) (next_initialiser w below part (record { list = []; more = true }) >>= looped (λ t. not (is_close_brace w t)) (next_initialiser w below part)) _
        (one_by_one (reasons texts) (next_initialiser w below part (record { list = []; more = true })) (looped (λ t. not (is_close_brace w t)) (next_initialiser w below part)) (next_telling (record { list = []; more = true }))
        (λ is. turning (reasons texts) (λ t. not (is_close_brace w t)) (next_initialiser w below part) (λ is ts h. next_telling is ts) is)) (λ is. one_by_one (reasons texts) (token unexpected (is_close_brace w)) _ (a_token (reasons texts) (is_close_brace w)) (λ c. still)))

  at_telling : (below : ℕ) (part : Parser Token InitTree) → (2 ≤ below → Telling (reasons texts) part) → Telling (reasons texts) (initialiser_at w below part)
  unfolding initialiser_at
  at_telling below part P =
      choosing (reasons texts) (is_open_brace w) _ _ (barring texts now (is_open_brace w) (nat_lt below 2) (braces w below part) (brace_needs w) (λ e ts h. braces_telling below part (P (within_room below 2 e)) ts))
      (one_by_one (reasons texts) (expr_reader w below Assignment) _ (expr_telling texts now below Assignment) (λ e. still))

  pub initialiser_telling : (below : ℕ) → 1 ≤ below → Telling (reasons texts) (initialiser w below)
  unfolding initialiser
  initialiser_telling zero some = absurd (omega arith)
  initialiser_telling (suc below) some = at_telling below (initialiser w below) (λ two. initialiser_telling below (omega arith))
