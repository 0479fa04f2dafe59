-- Readers of specifiers with more room, by what is known of the readers of members.
use Rattle.std.proofs.Common.{◌≡◌, ◌≤◌, ◌-◌, ◌+◌, ℕ, suc, Bool, true, false, ◌&&◌, not, List, [], length, nat_lt, Option, Some, None, if◌then◌else◌, refl, arith}
use Rattle.sb_base.specs.declared.interning.Name.{Name}
use Rattle.sb_base.specs.declared.refusals.Place.{Place}
use Rattle.sb_base.specs.declared.tokens.Token.{Token}
use Rattle.sb_parse.specs.Parser.{Parser, ◌>>=◌, pure, token, taken, guard}
use Rattle.sb_sign.specs.declared.sign.Keyword.{Keyword}
use Rattle.sb_sign.specs.declared.sign.Keyword.TheVariants as keyword
use Rattle.sb_tree.specs.Trees as tree
use Rattle.sb_tree.specs.Trees.{TypeTree}
use Rattle.sb_expr.specs.Expression.{Conditional}
use Rattle.sb_lexicon.specs.Lexicon.{Lexicon, is_keyword}
use Rattle.sb_expr.specs.Readers.{expr_reader}
use Rattle.sb_lexicon.specs.Tokens.{unexpected, too_deep, is_zero, is_open_brace}
use Rattle.sb_lexicon.proofs.Depths.{within_room}
use Rattle.sb_expr.proofs.widening.EachDepth.{parts_wider}
use Rattle.sb_lexicon.proofs.Wider.{short, Wider, alike, one_by_one, behind, before, guarding, choosing, turning, zero_wider, room_wider}
use Rattle.sb_specifier.specs.declared.seat.Seat.{Seat}
use Rattle.sb_specifier.specs.Specified.{Specified, reading, unspecified, base_of, depth_said, one_if}
use Rattle.sb_specifier.specs.Readers.{Items, Parts, lexicon, is_name, name_at, item_value, comma_behind, item, items, enumeration, structure, tagged, no_room_for_const, past_tag, tagless, specified, is_specifier_word, keyword_specifiers, names_type, defined, completed, specifiers}

-- the same choice of two parsers
pub either_way : {A : Type 0} (b : Bool) (p s q r : Parser Token A) → Wider p s → Wider q r → Wider (if b then p else q) (if b then s else r)
either_way true p s q r P Q = P
either_way false p s q r P Q = Q

-- what stands behind a bar is known to have room
pub where_room : {A : Type 0} (bar other : Bool) (p q : Parser Token A) → (bar ≡ false → other ≡ false) → (bar ≡ false → Wider p q) → Wider (guard bar too_deep p) (guard other too_deep q)
where_room true other p q room P ts = short (length ts) refl
where_room false other p q room P ts = guarding false other p q room (P refl) ts

module _ (texts : List (List ℕ)) (seat : Seat) (n m : ℕ) (le : n ≤ m) (part more : ℕ → Parts) (Members : (k : ℕ) → 2 ≤ n - k → (types : List Name) → Wider ((part k).members types) ((more k).members types)) where
  -- ---- enumerations

  value_wider : (w : Lexicon) (a b : ℕ) → a ≤ b → Wider (item_value texts seat n part w a) (item_value texts seat m more w b)
  unfolding item_value
  value_wider w a b less =
      choosing _ _ _ _ _ (guarding (is_zero a) (is_zero b) _ _ (zero_wider a b less) (behind _ _ _ (λ t. before (expr_reader w a Conditional) (expr_reader w b Conditional) _ ((parts_wider w a b 0 less).0 Conditional)))) (alike _)

  item_wider : (a b : ℕ) → a ≤ b → (is : Items) → Wider (item texts seat n part a is) (item texts seat m more b is)
  unfolding item comma_behind
  item_wider a b less is = either_way is.more _ _ _ _ (behind _ _ _ (λ c. before _ _ _ (value_wider (reading texts is.types) a b less))) (alike _)

  items_wider : (a b : ℕ) → a ≤ b → (types : List Name) → Wider (items texts seat n part a types) (items texts seat m more b types)
  unfolding items
  items_wider a b less types = one_by_one _ _ _ _ (item_wider a b less _) (turning (is_name (reading texts types)) (item texts seat n part a) (item texts seat m more b) (item_wider a b less))

  enumeration_wider : (s : Specified) (tag : Option Name) (place : Place) → Wider (enumeration texts seat n part s tag place) (enumeration texts seat m more s tag place)
  unfolding enumeration
  enumeration_wider s tag place = behind _ _ _ (λ o. before _ _ _ (items_wider (n - suc (one_if s.constant)) (m - suc (one_if s.constant)) (omega arith) s.types))

  -- ---- structures

  structure_wider : (s : Specified) (tag : Option Name) (place : Place) → Wider (structure texts seat n part s tag place) (structure texts seat m more s tag place)
  unfolding structure
  structure_wider s tag place =
      where_room (nat_lt n (3 + one_if s.constant)) (nat_lt m (3 + one_if s.constant)) _ _ (room_wider n m (3 + one_if s.constant) le)
      (λ h. let fits : 3 + one_if s.constant ≤ n = within_room n (3 + one_if s.constant) h in
      behind _ _ _ (λ o. before _ _ _ (Members (suc (one_if s.constant)) (omega (arith, fits)) s.types)))

  -- ---- tags

  tagged_wider : (p q : Option Name → Place → Parser Token Specified) → ((tag : Option Name) (place : Place) → Wider (p tag place) (q tag place)) → (names : Name → Place → TypeTree) (k : Keyword) (s : Specified)
      → Wider (tagged texts seat n part p names k s) (tagged texts seat m more q names k s)
  unfolding tagged
  tagged_wider p q P names k s =
      behind (token unexpected (is_keyword (lexicon texts seat n part s) k)) _ _
      (λ t. choosing (is_open_brace (lexicon texts seat n part s)) _ _ _ _ (P None t.place)
      (behind (taken unexpected (name_at (lexicon texts seat n part s))) _ _ (λ name. choosing (is_open_brace (lexicon texts seat n part s)) _ _ _ _ (P (Some name.0) name.1) (alike _))))

  -- ---- specifiers

  const_room : (s : Specified) → no_room_for_const texts seat n part s ≡ false → no_room_for_const texts seat m more s ≡ false
  const_room s = by_test s.constant
    where
      by_test : (b : Bool) → (not b && nat_lt n (suc (depth_said s.said))) ≡ false → (not b && nat_lt m (suc (depth_said s.said))) ≡ false
      by_test true h = refl
      by_test false h = room_wider n m (suc (depth_said s.said)) le h

  tagless_wider : (s : Specified) → Wider (tagless texts seat n part s) (tagless texts seat m more s)
  unfolding tagless
  tagless_wider s = choosing _ _ _ _ _ (guarding (no_room_for_const texts seat n part s) (no_room_for_const texts seat m more s) _ _ (const_room s) (alike _)) (alike _)

  past_wider : (s : Specified) → Wider (past_tag texts seat n part s) (past_tag texts seat m more s)
  unfolding past_tag
  past_wider s = alike _

  specified_wider : (s : Specified) → Wider (specified texts seat n part s) (specified texts seat m more s)
  unfolding specified
  specified_wider s =
      choosing _ _ _ _ _ (tagged_wider (structure texts seat n part s) (structure texts seat m more s) (structure_wider s) (λ n place. tree.Struct (Some n) tree.Undeclared place) keyword.Struct s)
      (choosing _ _ _ _ _ (tagged_wider (enumeration texts seat n part s) (enumeration texts seat m more s) (enumeration_wider s) (λ n place. tree.Enum (Some n) tree.Unlisted place) keyword.Enum s)
      (one_by_one (tagless texts seat n part s) (tagless texts seat m more s) (past_tag texts seat n part) (past_tag texts seat m more) (tagless_wider s) past_wider))

  keywords_wider : (s : Specified) → Wider (keyword_specifiers texts seat n part s) (keyword_specifiers texts seat m more s)
  unfolding keyword_specifiers
  keywords_wider s = turning (is_specifier_word (reading texts [])) (specified texts seat n part) (specified texts seat m more) specified_wider s

  defined_wider : (s : Specified) → Wider (defined texts seat n part s) (defined texts seat m more s)
  unfolding defined
  defined_wider s = choosing (names_type texts seat n part s) _ _ _ _ (behind _ _ _ (λ t. keywords_wider _)) (alike (pure s))

  completed_wider : (s : Specified) (o : Option TypeTree) → Wider (completed texts seat n part s o) (completed texts seat m more s o)
  completed_wider s None = alike _
  completed_wider s (Some t) = alike _

  pub specifiers_wider : (types : List Name) → Wider (specifiers texts seat n part types) (specifiers texts seat m more types)
  unfolding specifiers
  specifiers_wider types =
      one_by_one (keyword_specifiers texts seat n part (unspecified types) >>= defined texts seat n part) (keyword_specifiers texts seat m more (unspecified types) >>= defined texts seat m more) _ _
      (one_by_one (keyword_specifiers texts seat n part (unspecified types)) (keyword_specifiers texts seat m more (unspecified types)) (defined texts seat n part) (defined texts seat m more)
      (keywords_wider (unspecified types)) defined_wider)
      (λ s. completed_wider s (base_of s))
