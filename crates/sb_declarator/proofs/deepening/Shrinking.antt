-- Readers of declarations leave no more tokens than there are.
use Rattle.std.proofs.Common.{◌≡◌, ◌≤◌, ◌-◌, ◌+◌, ℕ, zero, suc, Bool, true, false, not, List, [], length, nat_lt, Option, Some, None, arith}
use Rattle.sb_base.specs.declared.interning.Name.{Name}
use Rattle.sb_base.specs.declared.refusals.Place.{Place}
use Rattle.sb_base.specs.declared.tokens.Token.{Token}
use Rattle.sb_parse.specs.Parser.{Parser, at_next, ◌>>=◌, pure, token, taken, choose, loop}
use Rattle.sb_sign.specs.declared.sign.Keyword.{Keyword}
use Rattle.sb_sign.specs.declared.sign.Keyword.TheVariants as keyword
use Rattle.sb_tree.specs.Trees.{TypeTree, depth_of_type}
use Rattle.sb_lexicon.specs.Lexicon.{is_keyword}
use Rattle.sb_lexicon.specs.Tokens.{unexpected, too_deep, is_open_brace}
use Rattle.sb_lexicon.specs.Words.{Whole}
use Rattle.sb_lexicon.proofs.Depths.{within_room}
use Rattle.sb_sal.specs.declared.bearer.Bearer.TheVariants as bearer
use Rattle.sb_sal.specs.Readers.{notes_reader}
use Rattle.sb_sal.specs.Spellings.{may_stand}
use Rattle.sb_sal.proofs.Deepening.{Past, Shrinks, enters, shrinks_pure, shrinks_refuse, shrinks_token, shrinks_taken, shrinks_then, shrinks_choose, shrinks_either, shrinks_guard, shrinks_looped, shrinks_by_law}
use Rattle.sb_sal.proofs.NoteDeepening.{notes_deepen}
use Rattle.sb_specifier.specs.declared.seat.Seat.{Seat}
use Rattle.sb_specifier.specs.declared.seat.Seat.TheVariants as seat
use Rattle.sb_specifier.specs.Specified.{Specified, reading, saying, constantly, unspecified, base_of, one_if}
use Rattle.sb_specifier.specs.Readers.{lexicon, name_at, Declarations, Parts, enumeration, structure, tagged, no_room_for_const, past_tag, tagless, specified, is_specifier_word, keyword_specifiers, defined, completed, specifiers}
use Rattle.sb_declarator.specs.Readers.{on, parameter, beyond_limit, another_parameter, next_parameter}
use Rattle.sb_declarator.proofs.deepening.Shrinks.{declarators_shrink}
use Rattle.sb_specifier.proofs.laws.Enumerations.{items_law}
use Rattle.sb_declarator.proofs.deepening.Members.{shrinks_text}

pub shrinks_loop : {A : Type 0} (goes : Token → Bool) (op : A → Parser Token A) → ((a : A) → Shrinks (op a)) → (n : ℕ) (a : A) → Shrinks (loop goes op n a)
unfolding loop
shrinks_loop goes op Op zero a = shrinks_pure a
shrinks_loop goes op Op (suc n) a = shrinks_choose goes (op a >>= loop goes op n) (pure a) (shrinks_then (op a) (loop goes op n) (Op a) (shrinks_loop goes op Op n)) (shrinks_pure a)

-- ---- specifiers

module _ (texts : List (List ℕ)) (at : Seat) (m : ℕ) (part : ℕ → Parts) (Members : (k : ℕ) → 2 ≤ m - k → (types : List Name) → Shrinks ((part k).members types)) where
  enumeration_shrinks : (s : Specified) (tag : Option Name) (place : Place) → Shrinks (enumeration texts at m part s tag place)
  unfolding enumeration
  enumeration_shrinks s tag place =
      shrinks_then _ _ (shrinks_token _ _) (λ o. shrinks_then _ _ (shrinks_by_law _ _ _ (items_law texts at m part (m - suc (one_if s.constant)) s.types)) (λ is. shrinks_then _ _ (shrinks_token _ _) (λ c. shrinks_pure _)))

  structure_shrinks : (s : Specified) (tag : Option Name) (place : Place) → Shrinks (structure texts at m part s tag place)
  unfolding structure
  structure_shrinks s tag place =
      shrinks_guard (nat_lt m (3 + one_if s.constant)) _ _ (λ h. let fits : 3 + one_if s.constant ≤ m = within_room m (3 + one_if s.constant) h in
      shrinks_then _ _ (shrinks_token _ _) (λ o. shrinks_then _ _ (Members (suc (one_if s.constant)) (omega (arith, fits)) s.types) (λ ds. shrinks_then _ _ (shrinks_token _ _) (λ c. shrinks_pure _))))

  -- behind the tag's keyword
  abbrev behind_tag : (Option Name → Place → Parser Token Specified) → (Name → Place → TypeTree) → Specified → Token → Parser Token Specified
  behind_tag defines names s t =
      choose (is_open_brace (lexicon texts at m part s)) (defines None t.place)
      (taken unexpected (name_at (lexicon texts at m part s)) >>= (λ n. choose (is_open_brace (lexicon texts at m part s)) (defines (Some n.0) n.1) (pure (saying (Whole (names n.0 n.1)) s))))

  behind_tag_shrinks : (defines : Option Name → Place → Parser Token Specified) → ((tag : Option Name) (place : Place) → Shrinks (defines tag place)) → (names : Name → Place → TypeTree) (s : Specified) (t : Token)
      → Shrinks (behind_tag defines names s t)
  behind_tag_shrinks defines D names s t =
      shrinks_choose _ _ _ (D None t.place) (shrinks_then _ _ (shrinks_taken _ _) (λ n. shrinks_choose _ _ _ (D (Some n.0) n.1) (shrinks_pure _)))

  tagged_shrinks : (defines : Option Name → Place → Parser Token Specified) → ((tag : Option Name) (place : Place) → Shrinks (defines tag place)) → (names : Name → Place → TypeTree) (k : Keyword) (s : Specified)
      → Shrinks (tagged texts at m part defines names k s)
  unfolding tagged
  tagged_shrinks defines D names k s = shrinks_then _ _ (shrinks_token _ _) (behind_tag_shrinks defines D names s)

  pub past_tag_shrinks : (s : Specified) → Shrinks (past_tag texts at m part s)
  unfolding past_tag
  past_tag_shrinks s = shrinks_choose _ _ _ (shrinks_refuse _) (shrinks_pure _)

  tagless_shrinks : (s : Specified) → Shrinks (tagless texts at m part s)
  unfolding tagless
  tagless_shrinks s =
      shrinks_choose _ _ _
      (shrinks_guard (no_room_for_const texts at m part s) too_deep (token unexpected (is_keyword (lexicon texts at m part s) keyword.Const) >>= (λ t. pure (constantly s))) (λ h. shrinks_then _ _ (shrinks_token _ _) (λ t. shrinks_pure _)))
      (shrinks_choose _ _ _ (shrinks_then _ _ (shrinks_token _ _) (λ t. shrinks_pure _))
      (shrinks_choose _ _ _ (shrinks_then _ _ (shrinks_token _ _) (λ t. shrinks_pure _))
      (shrinks_choose _ _ _ (shrinks_taken _ _)
      (shrinks_choose _ _ _ (shrinks_refuse _)
      (shrinks_choose _ _ _ (shrinks_refuse _)
      (shrinks_choose _ _ _ (shrinks_refuse _)
      (shrinks_choose _ _ _ (shrinks_refuse _)
      (shrinks_taken _ _))))))))

  pub specified_shrinks : (s : Specified) → Shrinks (specified texts at m part s)
  unfolding specified
  specified_shrinks s =
      shrinks_choose _ _ _ (tagged_shrinks (structure texts at m part s) (structure_shrinks s) _ keyword.Struct s)
      (shrinks_choose _ _ _ (tagged_shrinks (enumeration texts at m part s) (enumeration_shrinks s) _ keyword.Enum s)
      (shrinks_then (tagless texts at m part s) (past_tag texts at m part) (tagless_shrinks s) past_tag_shrinks))

  -- behind a tag's keyword that opens a structure or an enumeration
  pub structure_enters : (s : Specified) (names : Name → Place → TypeTree) (k : Keyword) (ts : List Token) → at_next (is_keyword (lexicon texts at m part s) k) ts ≡ true
      → Past (length ts) (tagged texts at m part (structure texts at m part s) names k s ts)
  unfolding tagged
  structure_enters s names k ts h =
      enters unexpected (is_keyword (lexicon texts at m part s) k) (behind_tag (structure texts at m part s) names s) (behind_tag_shrinks (structure texts at m part s) (structure_shrinks s) names s) ts h

  pub enumeration_enters : (s : Specified) (names : Name → Place → TypeTree) (k : Keyword) (ts : List Token) → at_next (is_keyword (lexicon texts at m part s) k) ts ≡ true
      → Past (length ts) (tagged texts at m part (enumeration texts at m part s) names k s ts)
  unfolding tagged
  enumeration_enters s names k ts h =
      enters unexpected (is_keyword (lexicon texts at m part s) k) (behind_tag (enumeration texts at m part s) names s) (behind_tag_shrinks (enumeration texts at m part s) (enumeration_shrinks s) names s) ts h

  pub keywords_shrink : (s : Specified) → Shrinks (keyword_specifiers texts at m part s)
  unfolding keyword_specifiers
  keywords_shrink s = shrinks_looped (is_specifier_word (reading texts [])) (specified texts at m part) specified_shrinks s

  pub defined_shrinks : (s : Specified) → Shrinks (defined texts at m part s)
  unfolding defined
  defined_shrinks s = shrinks_choose _ _ _ (shrinks_then _ _ (shrinks_token _ _) (λ t. keywords_shrink _)) (shrinks_pure s)

  pub completed_shrinks : (s : Specified) (o : Option TypeTree) → Shrinks (completed texts at m part s o)
  completed_shrinks s None = shrinks_refuse _
  completed_shrinks s (Some t) = shrinks_pure _

  pub specifiers_shrink : (types : List Name) → Shrinks (specifiers texts at m part types)
  unfolding specifiers
  specifiers_shrink types =
      shrinks_then (keyword_specifiers texts at m part (unspecified types) >>= defined texts at m part) _
      (shrinks_then (keyword_specifiers texts at m part (unspecified types)) (defined texts at m part) (keywords_shrink (unspecified types)) defined_shrinks) (λ s. completed_shrinks s (base_of s))

-- ---- declarators on a type, and parameters

module _ (texts : List (List ℕ)) (m : ℕ) (part : ℕ → Parts) (Members : (k : ℕ) → 2 ≤ m - k → (types : List Name) → Shrinks ((part k).members types))
    (Parameters : (k : ℕ) → 2 ≤ m - k → (types : List Name) → Shrinks ((part k).parameters types)) where
  pub on_shrinks : (types : List Name) (functions may_lack : Bool) (base : TypeTree) → Shrinks (on texts m part types functions may_lack base)
  on_shrinks types functions may_lack base = declarators_shrink (reading texts types) functions may_lack m part (λ k enough. Parameters k enough types) (m - depth_of_type base) 0

  pub notes_shrink : (types : List Name) (may : Token → Bool) → Shrinks (notes_reader (reading texts types) m may)
  notes_shrink types may = (notes_deepen (reading texts types) may m).shrinks m (omega arith)

  pub parameter_shrinks : (ds : Declarations) → Shrinks (parameter texts m part ds)
  unfolding parameter
  parameter_shrinks ds =
      shrinks_then _ _ (shrinks_text _ (notes_shrink ds.types (may_stand (reading texts ds.types) bearer.Parameter))) (λ notes.
      shrinks_then _ _ (shrinks_text _ (specifiers_shrink texts seat.Prototype m part Members ds.types)) (λ s.
      shrinks_then _ _ (on_shrinks s.0.0.types false true s.0.1) (λ d. shrinks_pure _)))

  beyond_shrinks : (ds : Declarations) → Shrinks (beyond_limit texts m part ds)
  unfolding beyond_limit
  beyond_shrinks ds =
      shrinks_choose _ _ _ (shrinks_then _ _ (shrinks_token _ _) (λ t. parameter_shrinks ds))
      (shrinks_choose _ _ _ (shrinks_refuse _) (shrinks_choose _ _ _ (shrinks_refuse _) (shrinks_choose _ _ _ (shrinks_refuse _) (shrinks_choose _ _ _ (shrinks_refuse _)
      (shrinks_choose _ _ _ (shrinks_refuse _) (shrinks_choose _ _ _ (shrinks_refuse _) (shrinks_choose _ _ _ (shrinks_refuse _) (shrinks_refuse _))))))))

  pub another_shrinks : (ds : Declarations) → Shrinks (another_parameter texts m part ds)
  unfolding another_parameter
  another_shrinks ds = shrinks_either (not (nat_lt (length ds.list) 32)) _ _ (λ h. beyond_shrinks ds) (λ h. parameter_shrinks ds)

  pub next_parameter_shrinks : (ds : Declarations) → Shrinks (next_parameter texts m part ds)
  unfolding next_parameter
  next_parameter_shrinks ds = shrinks_then _ _ (shrinks_token _ _) (λ t. shrinks_choose _ _ _ (shrinks_refuse _) (another_shrinks ds))
