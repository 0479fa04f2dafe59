-- Where readers of specifiers stop for want of depth, deeper readers get past that token, by what is known of the readers of members.
use Rattle.std.proofs.Common.{◌≡◌, ◌≤◌, ◌-◌, ◌+◌, ℕ, suc, Bool, true, false, ◌&&◌, not, List, [], length, nat_lt, Option, Some, None, refl, arith}
use Rattle.sb_base.specs.declared.interning.Name.{Name}
use Rattle.sb_base.specs.declared.refusals.Place.{Place}
use Rattle.sb_base.specs.declared.tokens.Token.{Token}
use Rattle.sb_parse.specs.Parser.{Parser, at_next, ◌>>=◌, pure, token, taken, choose, guard}
use Rattle.sb_sign.specs.declared.sign.Keyword.{Keyword}
use Rattle.sb_sign.specs.declared.sign.Keyword.TheVariants as keyword
use Rattle.sb_tree.specs.Trees as tree
use Rattle.sb_tree.specs.Trees.{TypeTree}
use Rattle.sb_expr.specs.Expression.{Conditional}
use Rattle.sb_lexicon.specs.Lexicon.{Lexicon, is_keyword}
use Rattle.sb_lexicon.specs.Words.{Whole}
use Rattle.sb_expr.specs.Readers.{expr_reader}
use Rattle.sb_lexicon.specs.Tokens.{unexpected, too_deep, is_zero, is_open_brace, is_comma}
use Rattle.sb_lexicon.proofs.Depths.{within_room}
use Rattle.sb_lexicon.proofs.Wider.{room_wider}
use Rattle.sb_sal.proofs.Deepening.{Shrinks, Deepens, Deep, at_list, shrinks_pure, shrinks_token, shrinks_then, enters, guarded_at, in_order, choosing, choosing_where, either_way, turning, still_pure, open_room}
use Rattle.sb_sal.proofs.ExprDeepening.{expr_deepens}
use Rattle.sb_sal.proofs.Lowered.{lowered, zero_mono, zero_open, expects, takes, unexpecting, lacking}
use Rattle.sb_specifier.specs.declared.seat.Seat.{Seat}
use Rattle.sb_specifier.specs.Specified.{Specified, reading, unspecified, saying, constantly, base_of, depth_said, one_if}
use Rattle.sb_specifier.specs.Readers.{Items, Parts, is_close_brace, is_assign, is_name, name_at, storage_after, word_after, item_value, comma_behind, item, items, enumeration, structure, tagged, is_inline, no_room_for_const, past_tag, tagless, specified, is_specifier_word, keyword_specifiers, names_type, defined, completed, specifiers}

-- ---- a token behind a bar

module _ {A : Type 0} (n : ℕ) (test : Token → Bool) (bar : ℕ → Bool) (q : ℕ → Token → Parser Token A) (Mono : (m : ℕ) → n ≤ m → bar n ≡ false → bar m ≡ false) (opening : (m : ℕ) × (n ≤ m) × (bar m ≡ false))
    (Inner : bar n ≡ false → (t : Token) → Deepens n (λ m. q m t)) (Shrink : (m : ℕ) → n ≤ m → bar m ≡ false → (t : Token) → Shrinks (q m t)) where
  abbrev from_token : ℕ → Parser Token A
  from_token m = token unexpected test >>= q m

  pub barred_token_at : (ts : List Token) → at_next test ts ≡ true → Deep n (length ts) (λ m. guard (bar m) too_deep (token unexpected test >>= q m) ts)
  barred_token_at ts h =
      guarded_at n bar from_token Mono opening (λ k. in_order n (λ m. token unexpected test) q (expects n test) (Inner k)) (λ m le k. shrinks_then (token unexpected test) (q m) (shrinks_token unexpected test) (Shrink m le k)) ts
      (λ m le k. enters unexpected test (q m) (Shrink m le k) ts h)

  pub barred_token : (r : ℕ → Parser Token A) → Deepens n r → Deepens n (λ m. choose test (guard (bar m) too_deep (token unexpected test >>= q m)) (r m))
  barred_token r R = choosing_where n test (λ m. guard (bar m) too_deep (from_token m)) r barred_token_at (λ ts h. at_list n r R ts)

-- the same where what follows is known at each depth
pub with_room : {A : Type 0} (n : ℕ) (test : Token → Bool) (bar : ℕ → Bool) (q : ℕ → Token → Parser Token A) → ((m : ℕ) → n ≤ m → bar n ≡ false → bar m ≡ false) → (m : ℕ) × (n ≤ m) × (bar m ≡ false)
    → ((m : ℕ) → bar m ≡ false → (t : Token) → Deepens m (λ k. q k t)) → (r : ℕ → Parser Token A) → Deepens n r → Deepens n (λ m. choose test (guard (bar m) too_deep (token unexpected test >>= q m)) (r m))
with_room n test bar q Mono opening Inner r R = barred_token n test bar q Mono opening (λ k. Inner n k) (λ m le k t. (Inner m k t).shrinks m (omega arith)) r R

module _ (texts : List (List ℕ)) (seat : Seat) (part : ℕ → ℕ → Parts) where
  -- ---- enumerations

  valued_deepens : (w : Lexicon) (c n : ℕ) → Deepens n (λ m. expr_reader w (m - c) Conditional >>= (λ e. pure (tree.AnExpr e)))
  valued_deepens w c n = in_order n (λ m. expr_reader w (m - c) Conditional) (λ m e. pure (tree.AnExpr e)) (lowered c n (λ m. expr_reader w m Conditional) (expr_deepens w Conditional (n - c))) (λ e. still_pure n (tree.AnExpr e))

  value_deepens : (w : Lexicon) (c n : ℕ) → Deepens n (λ m. item_value texts seat m (part m) w (m - c))
  unfolding item_value
  value_deepens w c n =
      with_room n (is_assign w) (λ m. is_zero (m - c)) (λ m t. expr_reader w (m - c) Conditional >>= (λ e. pure (tree.AnExpr e))) (zero_mono c n) (zero_open c n) (λ m k t. valued_deepens w c m) (λ m. pure tree.NoExpr)
      (still_pure n tree.NoExpr)

  comma_deepens : (w : Lexicon) (n : ℕ) → Deepens n (λ m. comma_behind texts seat m (part m) w)
  unfolding comma_behind
  comma_deepens w n = choosing n (is_comma w) (λ m. token unexpected (is_comma w) >>= (λ t. pure true)) (λ m. pure false) (in_order n _ (λ m t. pure true) (expects n (is_comma w)) (λ t. still_pure n true)) (still_pure n false)

  item_deepens : (c n : ℕ) (is : Items) → Deepens n (λ m. item texts seat m (part m) (m - c) is)
  unfolding item
  item_deepens c n is =
      either_way n is.more _ _
      (λ h. in_order n _ _ (takes n (name_at (reading texts is.types))) (λ name. in_order n _ _ (value_deepens (reading texts is.types) c n) (λ v. in_order n _ _ (comma_deepens (reading texts is.types) n) (λ more. still_pure n _))))
      (λ h. unexpecting n)

  items_deepen : (c n : ℕ) (types : List Name) → Deepens n (λ m. items texts seat m (part m) (m - c) types)
  unfolding items
  items_deepen c n types = in_order n _ _ (item_deepens c n _) (turning n (is_name (reading texts types)) (λ m. item texts seat m (part m) (m - c)) (item_deepens c n))

  enumeration_deepens : (n : ℕ) (s : Specified) (tag : Option Name) (place : Place) → Deepens n (λ m. enumeration texts seat m (part m) s tag place)
  unfolding enumeration
  enumeration_deepens n s tag place =
      in_order n _ _ (expects n (is_open_brace (reading texts s.types)))
      (λ o. in_order n _ _ (items_deepen (suc (one_if s.constant)) n s.types) (λ is. in_order n _ _ (expects n (is_close_brace (reading texts s.types))) (λ c. still_pure n _)))

  -- ---- structures

  members_room : (n c : ℕ) → nat_lt n (3 + c) ≡ false → 2 ≤ n - suc c
  members_room n c h = let fits : 3 + c ≤ n = within_room n (3 + c) h in omega arith

  -- what is known of the readers of members: what they leave, and at this depth what more room does
  abbrev MembersShrink : Type 0
  MembersShrink = (m k : ℕ) → 2 ≤ m - k → (types : List Name) → Shrinks ((part m k).members types)

  abbrev MembersDeepen : ℕ → Type 0
  MembersDeepen n = (k : ℕ) → 2 ≤ n - k → (types : List Name) → Deepens n (λ m. (part m k).members types)

  structure_deepens : (n : ℕ) → MembersShrink → MembersDeepen n → (s : Specified) (tag : Option Name) (place : Place) (ts : List Token) → at_next (is_open_brace (reading texts s.types)) ts ≡ true
      → Deep n (length ts) (λ m. structure texts seat m (part m) s tag place ts)
  unfolding structure
  structure_deepens n Small Members s tag place ts h =
      barred_token_at n (is_open_brace (reading texts s.types)) (λ m. nat_lt m (3 + one_if s.constant)) _ (λ m le k. room_wider n m (3 + one_if s.constant) le k) (open_room n (3 + one_if s.constant))
      (λ k o. in_order n (λ m. (part m (suc (one_if s.constant))).members s.types) _ (Members (suc (one_if s.constant)) (members_room n (one_if s.constant) k) s.types)
      (λ ds. in_order n _ _ (expects n (is_close_brace (reading texts s.types))) (λ c. still_pure n _)))
      (λ m le k o. shrinks_then ((part m (suc (one_if s.constant))).members s.types) _ (Small m (suc (one_if s.constant)) (members_room m (one_if s.constant) k) s.types)
      (λ ds. shrinks_then _ _ (shrinks_token _ _) (λ c. shrinks_pure _))) ts h

  -- ---- tags

  tagged_deepens : (n : ℕ) (p : ℕ → Option Name → Place → Parser Token Specified) (names : Name → Place → TypeTree) (k : Keyword) (s : Specified)
      → ((tag : Option Name) (place : Place) (ts : List Token) → at_next (is_open_brace (reading texts s.types)) ts ≡ true → Deep n (length ts) (λ m. p m tag place ts)) → Deepens n (λ m. tagged texts seat m (part m) (p m) names k s)
  unfolding tagged
  tagged_deepens n p names k s P = in_order n _ _ (expects n (is_keyword (reading texts s.types) k)) behind
    where
      behind_name : (name : Name × Place) → Deepens n (λ m. choose (is_open_brace (reading texts s.types)) (p m (Some name.0) name.1) (pure (saying (Whole (names name.0 name.1)) s)))
      behind_name name =
          choosing_where n (is_open_brace (reading texts s.types)) (λ m. p m (Some name.0) name.1) (λ m. pure (saying (Whole (names name.0 name.1)) s)) (P (Some name.0) name.1)
          (λ ts h. at_list n _ (still_pure n (saying (Whole (names name.0 name.1)) s)) ts)

      behind : (t : Token)
          → Deepens n (λ m. choose (is_open_brace (reading texts s.types)) (p m None t.place)
          (taken unexpected (name_at (reading texts s.types)) >>= (λ name. choose (is_open_brace (reading texts s.types)) (p m (Some name.0) name.1) (pure (saying (Whole (names name.0 name.1)) s)))))
      behind t =
          choosing_where n (is_open_brace (reading texts s.types)) (λ m. p m None t.place) _ (P None t.place) (λ ts h. at_list n _ (in_order n _ _ (takes n (name_at (reading texts s.types))) behind_name) ts)

  -- ---- specifiers

  const_mono : (s : Specified) (n m : ℕ) → n ≤ m → no_room_for_const texts seat n (part n) s ≡ false → no_room_for_const texts seat m (part m) s ≡ false
  const_mono s n m le = by_constant s.constant
    where
      by_constant : (b : Bool) → (not b && nat_lt n (suc (depth_said s.said))) ≡ false → (not b && nat_lt m (suc (depth_said s.said))) ≡ false
      by_constant true h = refl
      by_constant false h = room_wider n m (suc (depth_said s.said)) le h

  const_open : (s : Specified) (n : ℕ) → (m : ℕ) × (n ≤ m) × (no_room_for_const texts seat m (part m) s ≡ false)
  const_open s n = by_constant s.constant
    where
      by_constant : (b : Bool) → (m : ℕ) × (n ≤ m) × ((not b && nat_lt m (suc (depth_said s.said))) ≡ false)
      by_constant true = (n, omega arith, refl)
      by_constant false = open_room n (suc (depth_said s.said))

  tagless_deepens : (n : ℕ) (s : Specified) → Deepens n (λ m. tagless texts seat m (part m) s)
  unfolding tagless
  tagless_deepens n s =
      with_room n (is_keyword (reading texts s.types) keyword.Const) (λ m. no_room_for_const texts seat m (part m) s) (λ m t. pure (constantly s)) (const_mono s n) (const_open s n) (λ m k t. still_pure m (constantly s)) _
      (choosing n _ _ _ (in_order n _ _ (expects n (is_keyword (reading texts s.types) keyword.Restrict)) (λ t. still_pure n s))
      (choosing n _ _ _ (in_order n _ _ (expects n (is_inline texts seat n (part n) s)) (λ t. still_pure n s))
      (choosing n _ _ _ (takes n (storage_after (reading texts s.types) seat s))
      (choosing n _ _ _ (lacking n 1)
      (choosing n _ _ _ (lacking n 2)
      (choosing n _ _ _ (lacking n 7)
      (choosing n _ _ _ (lacking n 8)
      (takes n (word_after (reading texts s.types) s)))))))))

  past_deepens : (n : ℕ) (s : Specified) → Deepens n (λ m. past_tag texts seat m (part m) s)
  unfolding past_tag
  past_deepens n s = choosing n _ _ _ (unexpecting n) (still_pure n s)

  specified_deepens : (n : ℕ) → MembersShrink → MembersDeepen n → (s : Specified) → Deepens n (λ m. specified texts seat m (part m) s)
  unfolding specified
  specified_deepens n Small Members s =
      choosing n _ _ _ (tagged_deepens n (λ m. structure texts seat m (part m) s) (λ name place. tree.Struct (Some name) tree.Undeclared place) keyword.Struct s (structure_deepens n Small Members s))
      (choosing n _ _ _
      (tagged_deepens n (λ m. enumeration texts seat m (part m) s) (λ name place. tree.Enum (Some name) tree.Unlisted place) keyword.Enum s (λ tag place ts h. at_list n _ (enumeration_deepens n s tag place) ts))
      (in_order n _ _ (tagless_deepens n s) (past_deepens n)))

  keywords_deepen : (n : ℕ) → MembersShrink → MembersDeepen n → (s : Specified) → Deepens n (λ m. keyword_specifiers texts seat m (part m) s)
  unfolding keyword_specifiers
  keywords_deepen n Small Members s = turning n (is_specifier_word (reading texts [])) (λ m. specified texts seat m (part m)) (specified_deepens n Small Members) s

  defined_deepens : (n : ℕ) → MembersShrink → MembersDeepen n → (s : Specified) → Deepens n (λ m. defined texts seat m (part m) s)
  unfolding defined
  defined_deepens n Small Members s = choosing n _ _ _ (in_order n _ _ (expects n (names_type texts seat n (part n) s)) (λ t. keywords_deepen n Small Members _)) (still_pure n s)

  completed_deepens : (n : ℕ) (s : Specified) (o : Option TypeTree) → Deepens n (λ m. completed texts seat m (part m) s o)
  completed_deepens n s None = unexpecting n
  completed_deepens n s (Some t) = still_pure n (s, t)

  pub specifiers_deepen : (types : List Name) (n : ℕ) → MembersShrink → MembersDeepen n → Deepens n (λ m. specifiers texts seat m (part m) types)
  unfolding specifiers
  specifiers_deepen types n Small Members = in_order n _ _ (in_order n _ _ (keywords_deepen n Small Members (unspecified types)) (defined_deepens n Small Members)) (λ s. completed_deepens n s (base_of s))
