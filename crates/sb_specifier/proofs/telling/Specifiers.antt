-- Why the readers of specifiers stop.
use Rattle.std.proofs.Common.{◌+◌, ◌-◌, ℕ, suc, true, List, [], nat_lt, Option, Some, None, refl}
use Rattle.sb_base.specs.declared.interning.Name.{Name}
use Rattle.sb_base.specs.declared.refusals.Place.{Place}
use Rattle.sb_base.specs.declared.tokens.Token.{Token}
use Rattle.sb_parse.specs.Parser.{Parser, ◌>>=◌, pure, refuse, token, taken}
use Rattle.sb_sign.specs.declared.sign.Keyword.{Keyword}
use Rattle.sb_sign.specs.declared.sign.Keyword.TheVariants as keyword
use Rattle.sb_tree.specs.Trees as tree
use Rattle.sb_tree.specs.Trees.{TypeTree}
use Rattle.sb_expr.specs.Expression.{Conditional}
use Rattle.sb_lexicon.specs.Lexicon.{Lexicon, is_keyword}
use Rattle.sb_expr.specs.Readers.{expr_reader}
use Rattle.sb_lexicon.specs.SpecifierReaders.{is_floating, is_complex, is_union}
use Rattle.sb_lexicon.specs.Tokens.{unexpected, is_zero, is_open_brace, is_comma}
use Rattle.sb_lexicon.specs.Words.{Whole}
use Rattle.sb_specifier.specs.declared.seat.Seat.{Seat}
use Rattle.sb_specifier.specs.Specified.{reading, Specified, unspecified, saying, base_of, one_if}
use Rattle.sb_specifier.specs.Readers.{Items, Parts, is_assign, is_close_brace, is_name, is_storage_word, is_specifier_word, name_at, storage_after, word_after, item_value, comma_behind, item, items, enumeration, structure, tagged, begins_tag, is_inline, no_room_for_const, opens_tag, past_tag, tagless, specified, keyword_specifiers, names_type, defined, completed, specifiers}
use Rattle.sb_specifier.proofs.telling.Shown.{brace_needs, assign_needs, word_needs, floating_telling, union_telling, volatile_telling, complex_telling}
use Rattle.sb_specifier.proofs.telling.Reasons.{reasons, barring, expr_telling}
use Rattle.sb_parse.proofs.Telling.{still, Telling, TellingAt, one_by_one, refusing, a_token, a_value, choosing, choosing_any, by_test, turning}

module _ (texts : List (List ℕ)) (seat : Seat) (below : ℕ) (part : ℕ → Parts) (M : (k : ℕ) (types : List Name) → Telling (reasons texts) ((part k).members types)) where
  -- ---- enumerations

  value_telling : (now : List Name) (left : ℕ) → Telling (reasons texts) (item_value texts seat below part (reading texts now) left)
  unfolding item_value
  value_telling now left =
      choosing (reasons texts) (is_assign (reading texts now)) _ _ (barring texts now (is_assign (reading texts now)) (is_zero left) _ (assign_needs (reading texts now)) (λ e ts h.
      one_by_one (reasons texts) (token unexpected (is_assign (reading texts now))) _ (a_token (reasons texts) (is_assign (reading texts now))) (λ t. one_by_one (reasons texts) (expr_reader (reading texts now) left Conditional) _ (expr_telling texts now left Conditional) (λ e. still)) ts))
      still

  comma_telling : (w : Lexicon) → Telling (reasons texts) (comma_behind texts seat below part w)
  unfolding comma_behind
  comma_telling w = choosing_any (reasons texts) (is_comma w) _ _ (one_by_one (reasons texts) (token unexpected (is_comma w)) (λ t. pure true) (a_token (reasons texts) (is_comma w)) (λ t. still)) still

  item_telling : (left : ℕ) (is : Items) → Telling (reasons texts) (item texts seat below part left is)
  unfolding item
  item_telling left is =
      by_test (reasons texts) is.more _ _ (one_by_one (reasons texts) (taken unexpected (name_at (reading texts is.types))) _ (a_value (reasons texts) (name_at (reading texts is.types))) (λ n. one_by_one (reasons texts) (item_value texts seat below part (reading texts is.types) left) _ (value_telling is.types left)
      (λ v. one_by_one (reasons texts) (comma_behind texts seat below part (reading texts is.types)) _ (comma_telling (reading texts is.types)) (λ more. still)))) (refusing (reasons texts) Items)

  items_telling : (left : ℕ) (types : List Name) → Telling (reasons texts) (items texts seat below part left types)
  unfolding items
  items_telling left types =
      one_by_one (reasons texts) (item texts seat below part left (record { list = []; types = types; more = true })) _ (item_telling left (record { list = []; types = types; more = true }))
      (λ is. turning (reasons texts) (is_name (reading texts types)) (item texts seat below part left) (λ is ts h. item_telling left is ts) is)

  enumeration_at : (s : Specified) (tag : Option Name) (place : Place) → TellingAt (reasons texts) (is_open_brace (reading texts s.types)) (enumeration texts seat below part s tag place)
  unfolding enumeration
  enumeration_at s tag place ts h =
      one_by_one (reasons texts) (token unexpected (is_open_brace (reading texts s.types))) _ (a_token (reasons texts) (is_open_brace (reading texts s.types))) (λ o. one_by_one (reasons texts) (items texts seat below part (below - suc (one_if s.constant)) s.types) _
      (items_telling (below - suc (one_if s.constant)) s.types) (λ is. one_by_one (reasons texts) (token unexpected (is_close_brace (reading texts s.types))) _ (a_token (reasons texts) (is_close_brace (reading texts s.types))) (λ c. still))) ts

  -- ---- structures and tags

  structure_at : (s : Specified) (tag : Option Name) (place : Place) → TellingAt (reasons texts) (is_open_brace (reading texts s.types)) (structure texts seat below part s tag place)
  unfolding structure
  structure_at s tag place =
      barring texts s.types (is_open_brace (reading texts s.types)) (nat_lt below (3 + one_if s.constant)) _ (brace_needs (reading texts s.types)) (λ e ts h.
      one_by_one (reasons texts) (token unexpected (is_open_brace (reading texts s.types))) _ (a_token (reasons texts) (is_open_brace (reading texts s.types))) (λ o. one_by_one (reasons texts) ((part (suc (one_if s.constant))).members s.types) _
      (M (suc (one_if s.constant)) s.types) (λ ds. one_by_one (reasons texts) (token unexpected (is_close_brace (reading texts s.types))) _ (a_token (reasons texts) (is_close_brace (reading texts s.types))) (λ c. still))) ts)

  tagged_telling : (defines : Option Name → Place → Parser Token Specified) (names : Name → Place → TypeTree) (k : Keyword) (s : Specified)
      → ((tag : Option Name) (place : Place) → TellingAt (reasons texts) (is_open_brace (reading texts s.types)) (defines tag place)) → Telling (reasons texts) (tagged texts seat below part defines names k s)
  unfolding tagged
  tagged_telling defines names k s D =
      one_by_one (reasons texts) (token unexpected (is_keyword (reading texts s.types) k)) _ (a_token (reasons texts) (is_keyword (reading texts s.types) k)) (λ t. choosing (reasons texts) (is_open_brace (reading texts s.types)) (defines None t.place) _ (D None t.place)
      (one_by_one (reasons texts) (taken unexpected (name_at (reading texts s.types))) _ (a_value (reasons texts) (name_at (reading texts s.types)))
      (λ n. choosing (reasons texts) (is_open_brace (reading texts s.types)) (defines (Some n.0) n.1) (pure (saying (Whole (names n.0 n.1)) s)) (D (Some n.0) n.1) still)))

  past_tag_telling : (s : Specified) → Telling (reasons texts) (past_tag texts seat below part s)
  unfolding past_tag
  past_tag_telling s = choosing_any (reasons texts) (opens_tag texts seat below part s) (refuse unexpected) (pure s) (refusing (reasons texts) Specified) still

  -- ---- specifiers

  tagless_telling : (s : Specified) → Telling (reasons texts) (tagless texts seat below part s)
  unfolding tagless
  tagless_telling s =
      choosing (reasons texts) (is_keyword w keyword.Const) _ _ (barring texts s.types (is_keyword w keyword.Const) (no_room_for_const texts seat below part s) _ (word_needs w keyword.Const refl)
      (λ e ts h. one_by_one (reasons texts) (token unexpected (is_keyword w keyword.Const)) _ (a_token (reasons texts) (is_keyword w keyword.Const)) (λ t. still) ts))
      (choosing_any (reasons texts) (is_keyword w keyword.Restrict) _ _ (one_by_one (reasons texts) (token unexpected (is_keyword w keyword.Restrict)) (λ t. pure s) (a_token (reasons texts) (is_keyword w keyword.Restrict)) (λ t. still))
      (choosing_any (reasons texts) (is_inline texts seat below part s) _ _ (one_by_one (reasons texts) (token unexpected (is_inline texts seat below part s)) (λ t. pure s) (a_token (reasons texts) (is_inline texts seat below part s)) (λ t. still))
      (choosing_any (reasons texts) (is_storage_word w) _ _ (a_value (reasons texts) (storage_after w seat s))
      (choosing (reasons texts) (is_floating w s.said) _ _ (floating_telling texts s.types Specified s.said)
      (choosing (reasons texts) (is_union w s.said) _ _ (union_telling texts s.types Specified s.said)
      (choosing (reasons texts) (is_keyword w keyword.Volatile) _ _ (volatile_telling texts s.types Specified)
      (choosing (reasons texts) (is_complex w s.said) _ _ (complex_telling texts s.types Specified s.said)
      (a_value (reasons texts) (word_after w s)))))))))
    where
      w : Lexicon
      w = reading texts s.types

  specified_telling : (s : Specified) → Telling (reasons texts) (specified texts seat below part s)
  unfolding specified
  specified_telling s =
      choosing_any (reasons texts) (begins_tag texts seat below part s keyword.Struct) _ _ (tagged_telling (structure texts seat below part s) (λ n place. tree.Struct (Some n) tree.Undeclared place) keyword.Struct s (structure_at s))
      (choosing_any (reasons texts) (begins_tag texts seat below part s keyword.Enum) _ _ (tagged_telling (enumeration texts seat below part s) (λ n place. tree.Enum (Some n) tree.Unlisted place) keyword.Enum s (enumeration_at s))
      (one_by_one (reasons texts) (tagless texts seat below part s) (past_tag texts seat below part) (tagless_telling s) past_tag_telling))

  keywords_telling : (s : Specified) → Telling (reasons texts) (keyword_specifiers texts seat below part s)
  unfolding keyword_specifiers
  keywords_telling s = turning (reasons texts) (is_specifier_word (reading texts [])) (specified texts seat below part) (λ s ts h. specified_telling s ts) s

  defined_telling : (s : Specified) → Telling (reasons texts) (defined texts seat below part s)
  unfolding defined
  defined_telling s =
      choosing_any (reasons texts) (names_type texts seat below part s) _ _ (one_by_one (reasons texts) (token unexpected (names_type texts seat below part s)) _ (a_token (reasons texts) (names_type texts seat below part s)) (λ t. keywords_telling _)) still

  completed_telling : (s : Specified) (o : Option TypeTree) → Telling (reasons texts) (completed texts seat below part s o)
  completed_telling s None = refusing (reasons texts) (Specified × TypeTree)
  completed_telling s (Some t) = still

  pub specifiers_telling : (types : List Name) → Telling (reasons texts) (specifiers texts seat below part types)
  unfolding specifiers
  specifiers_telling types =
      one_by_one (reasons texts) (keyword_specifiers texts seat below part (unspecified types) >>= defined texts seat below part) _
      (one_by_one (reasons texts) (keyword_specifiers texts seat below part (unspecified types)) (defined texts seat below part) (keywords_telling (unspecified types)) defined_telling) (λ s. completed_telling s (base_of s))
