-- The reader of the constants of an enumeration keeps the laws.
use Rattle.std.proofs.Common.{◌≡◌, ◌≤◌, ℕ, Bool, true, false, ◌||◌, max, List, [], ◌∷◌, ◌++◌, Some, is_some, if◌then◌else◌, refl, sym, ap, ◌∙◌, subst, append_assoc, append-nil, inl, inr, arith}
use Rattle.std.proofs.Math.Nat.{le-max_left, le-max_right, max-le}
use Rattle.sb_base.specs.declared.interning.Name.{Name}
use Rattle.sb_base.specs.declared.refusals.Place.{Place}
use Rattle.sb_base.specs.declared.tokens.Token.{Token}
use Rattle.sb_parse.specs.Parser.{Parser, at_next, ◌>>=◌, pure, taken}
use Rattle.sb_parse.specs.Lawful.{Lawful, OnHead, Joined, Begun, IsEmpty, Mapped, Opened, Unbarred, Either, Turns, over, turn}
use Rattle.sb_parse.proofs.Joining.{via, map_of}
use Rattle.sb_parse.proofs.Heads.{opened, opened_heads, begun, at_head, guarded, perhaps_of}
use Rattle.sb_parse.proofs.Looping.{looping}
use Rattle.sb_sign.specs.declared.sign.Mark.TheVariants as mark
use Rattle.sb_tree.specs.Plain.{item_list}
use Rattle.sb_tree.specs.Trees as tree
use Rattle.sb_tree.specs.Trees.{OptionalExpr, ItemTree, depth_of_optional_expr, depth_of_item, depth_of_items}
use Rattle.sb_expr.specs.Expression.{Conditional}
use Rattle.sb_lexicon.specs.Lexicon.{Lexicon, name_of}
use Rattle.sb_expr.specs.Readers.{expr_reader}
use Rattle.sb_lexicon.specs.Tokens.{unexpected, too_deep, is_zero, is_comma}
use Rattle.sb_expr.specs.Reads.{FitsExpr}
use Rattle.sb_lexicon.proofs.Depths.{room_for, room_is}
use Rattle.sb_expr.proofs.tokens.Ends.{comma_ends, conditional_ends}
use Rattle.sb_lexicon.proofs.Lexemes.{mark_is, mark_alone, name_token, name_token_is}
use Rattle.sb_expr.proofs.tokens.More.{more_conditional}
use Rattle.sb_expr.proofs.Tying.{lawful_parts}
use Rattle.sb_parse.proofs.Ways.{second_fails, turned_once_more}
use Rattle.sb_specifier.specs.declared.seat.Seat.{Seat}
use Rattle.sb_specifier.specs.Specified.{reading, without}
use Rattle.sb_specifier.specs.Declaration.{IsItem, is_plain, is_valued, AreItems, first_item, item_behind, item_comma}
use Rattle.sb_specifier.specs.Readers.{Parts, Items, is_assign, is_name, name_at, is_close_brace, item_value, comma_behind, item, items}
use Rattle.sb_specifier.proofs.laws.Commas.{CommaText, comma_or_none, with_comma}
use Rattle.sb_parse.proofs.Choices.{asked_if}
use Rattle.sb_specifier.proofs.laws.Names.{name_no_mark, mark_no_name, name_is, name_off, named_at, at_name, unmarked_conditional}

-- ---- how deep lists are

items_fit : (is : List ItemTree) (i : ItemTree) (n : ℕ) → depth_of_items (item_list is) ≤ n → depth_of_item i ≤ n → depth_of_items (item_list (is ++ (i ∷ []))) ≤ n
items_fit [] i n h k = max-le k (omega arith)
items_fit (f ∷ is) i n h k =
    let first : depth_of_item f ≤ max (depth_of_item f) (depth_of_items (item_list is)) = le-max_left (depth_of_item f) (depth_of_items (item_list is)) in
    let rest : depth_of_items (item_list is) ≤ max (depth_of_item f) (depth_of_items (item_list is)) = le-max_right (depth_of_item f) (depth_of_items (item_list is)) in
    max-le (omega arith) (items_fit is i n (omega arith) k)

front_fits : (is : List ItemTree) (i : ItemTree) (n : ℕ) → depth_of_items (item_list (is ++ (i ∷ []))) ≤ n → (depth_of_items (item_list is) ≤ n) × (depth_of_item i ≤ n)
front_fits [] i n h = let one : depth_of_item i ≤ max (depth_of_item i) 0 = le-max_left (depth_of_item i) 0 in (omega arith, omega arith)
front_fits (f ∷ is) i n h =
    let first : depth_of_item f ≤ max (depth_of_item f) (depth_of_items (item_list (is ++ (i ∷ [])))) = le-max_left (depth_of_item f) (depth_of_items (item_list (is ++ (i ∷ [])))) in
    let rest : depth_of_items (item_list (is ++ (i ∷ []))) ≤ max (depth_of_item f) (depth_of_items (item_list (is ++ (i ∷ [])))) = le-max_right (depth_of_item f) (depth_of_items (item_list (is ++ (i ∷ [])))) in
    let both : (depth_of_items (item_list is) ≤ n) × (depth_of_item i ≤ n) = front_fits is i n (omega arith) in
    (max-le (omega arith) both.0, both.1)

-- ---- what goes on from constants: what does from the last one's value

abbrev more_value : Lexicon → OptionalExpr → Token → Bool
more_value w tree.NoExpr t = is_assign w t
more_value w (tree.AnExpr e) t = more_conditional w e t

abbrev value_of : ItemTree → OptionalExpr
value_of (tree.Item n v place) = v

abbrev last_value : List ItemTree → OptionalExpr
last_value [] = tree.NoExpr
last_value (i ∷ []) = value_of i
last_value (i ∷ (j ∷ is)) = last_value (j ∷ is)

last_added : (is : List ItemTree) (i : ItemTree) → last_value (is ++ (i ∷ [])) ≡ value_of i
last_added [] i = refl
last_added (f ∷ []) i = refl
last_added (f ∷ (g ∷ is)) i = last_added (g ∷ is) i

abbrev more_behind : Lexicon → Items → Token → Bool
more_behind w is t = if is.more then false else (is_comma w t || more_value w (last_value is.list) t)

abbrev pub more_items : List (List ℕ) → Items → Token → Bool
more_items texts is t = is_name (reading texts []) t || more_behind (reading texts []) is t

-- ---- one constant

value_ends : (w : Lexicon) (v : OptionalExpr) (t : Token) → is_comma w t ≡ true → more_value w v t ≡ false
value_ends w tree.NoExpr t h = mark_alone w mark.Comma mark.Assign t (mark_is w mark.Comma t h) refl
value_ends w (tree.AnExpr e) t h = second_fails _ (more_conditional w e t) (comma_ends w t h e)

brace_ends_value : (w : Lexicon) (v : OptionalExpr) (t : Token) → is_close_brace w t ≡ true → more_value w v t ≡ false
brace_ends_value w tree.NoExpr t h = mark_alone w mark.CloseBrace mark.Assign t (mark_is w mark.CloseBrace t h) refl
brace_ends_value w (tree.AnExpr e) t h = conditional_ends w t mark.CloseBrace (mark_is w mark.CloseBrace t h) (refl, refl) (λ j le. refl) refl e

pub brace_ends_items : (texts : List (List ℕ)) (is : Items) (t : Token) → is_close_brace (reading texts []) t ≡ true → more_items texts is t ≡ false
brace_ends_items texts is t h = ap (λ b. b || more_behind (reading texts []) is t) (mark_no_name (reading texts []) t mark.CloseBrace h) ∙ by_test is.more
  where
    by_test : (b : Bool) → (if b then false else (is_comma (reading texts []) t || more_value (reading texts []) (last_value is.list) t)) ≡ false
    by_test true = refl
    by_test false =
        ap (λ b. b || more_value (reading texts []) (last_value is.list) t) (mark_alone (reading texts []) mark.CloseBrace mark.Comma t (mark_is (reading texts []) mark.CloseBrace t h) refl)
        ∙ brace_ends_value (reading texts []) (last_value is.list) t h

-- no name goes on from constants without a comma
name_ends : (w : Lexicon) (is : Items) (t : Token) → is_name w t ≡ true → more_behind w is t ≡ false
name_ends w is t h = by_test is.more
  where
    by_value : (v : OptionalExpr) → more_value w v t ≡ false
    by_value tree.NoExpr = name_off w t mark.Assign h
    by_value (tree.AnExpr e) = let it : (n : Name) × (name_of w t ≡ Some n) = name_is w t h in unmarked_conditional w t (name_no_mark w t it.0 it.1) e

    by_test : (b : Bool) → (if b then false else (is_comma w t || more_value w (last_value is.list) t)) ≡ false
    by_test true = refl
    by_test false = ap (λ b. b || more_value w (last_value is.list) t) (name_off w t mark.Comma h) ∙ by_value (last_value is.list)

module _ (texts : List (List ℕ)) (seat : Seat) (below : ℕ) (part : ℕ → Parts) (left : ℕ) where
  abbrev ValueText : Lexicon → List Token → OptionalExpr → Type 0
  ValueText w = Either (Unbarred (is_zero left) (Opened (is_assign w) (λ t. Mapped tree.AnExpr (FitsExpr w left Conditional)))) (IsEmpty tree.NoExpr)

  value_law : (w : Lexicon) → Lawful (ValueText w) (more_value w) (item_value texts seat below part w left)
  unfolding item_value
  value_law w =
      perhaps_of tree.NoExpr (guarded (is_zero left) too_deep (λ room. at_head (is_assign w)
      (λ t h. opened {Is = λ s. Mapped tree.AnExpr (FitsExpr w left Conditional)} {q = λ s. expr_reader w left Conditional >>= (λ e. pure (tree.AnExpr e))} unexpected (is_assign w) t h
      (λ s passes. map_of ((lawful_parts w left (room_is left room)).expr Conditional) tree.AnExpr (more_value w) (λ e t. refl)))
      (λ ts a o. opened_heads ts a o))) (λ t. refl)

  abbrev plain : Lexicon
  plain = reading texts []

  abbrev with_types : Items → Lexicon
  with_types is = reading texts is.types

  abbrev added : Items → Name × Place → OptionalExpr → Bool → Items
  added is n v m = record { list = is.list ++ (tree.Item n.0 v n.1 ∷ []); types = without n.0 is.types; more = m }

  abbrev ItemText : Items → List Token → Items → Type 0
  ItemText is = Begun (name_at (with_types is)) (λ n. Joined (ValueText (with_types is)) (λ v. Mapped (added is n v) (CommaText (with_types is))))

  abbrev item_reader : Items → Parser Token Items
  item_reader is = taken unexpected (name_at (with_types is)) >>= (λ n. item_value texts seat below part (with_types is) left >>= (λ v. comma_or_none (with_types is) >>= (λ m. pure (added is n v m))))

  added_more : (is : Items) (n : Name × Place) (v : OptionalExpr) (m : Bool) (t : Token) → more_behind plain (added is n v m) t ≡ (if m then false else (is_comma (with_types is) t || more_value (with_types is) v t))
  added_more is n v true t = refl
  added_more is n v false t = ap (λ z. is_comma plain t || more_value plain z t) (last_added is.list (tree.Item n.0 v n.1)) ∙ same_value v
    where
      same_value : (v : OptionalExpr) → (is_comma plain t || more_value plain v t) ≡ (is_comma (with_types is) t || more_value (with_types is) v t)
      same_value tree.NoExpr = refl
      same_value (tree.AnExpr e) = refl

  item_text_law : (is : Items) → Lawful (ItemText is) (more_behind plain) (item_reader is)
  item_text_law is =
      begun {Is = λ n. Joined (ValueText (with_types is)) (λ v. Mapped (added is n v) (CommaText (with_types is)))}
      {q = λ n. item_value texts seat below part (with_types is) left >>= (λ v. comma_or_none (with_types is) >>= (λ m. pure (added is n v m)))}
      unexpected (name_at (with_types is)) name_token (name_token.text, name_token.place) (at_name (with_types is) name_token name_token.text (name_token_is (with_types is)))
      (λ s n gives. with_comma (with_types is) (value_law (with_types is)) (added is n) (more_behind plain) (added_more is n) (value_ends (with_types is)))

  abbrev Turn : Items → List Token → Items → Type 0
  Turn is ts r = (is.more ≡ true) × ItemText is ts r

  item_heads : (is : Items) (ts : List Token) (r : Items) → ItemText is ts r → at_next (is_name plain) ts ≡ true
  item_heads is ts r b =
      ap (at_next (is_name plain)) b.split ∙ ap is_some (named_at (with_types is) b.opening b.value b.gives_it).0

  item_law : (is : Items) → OnHead (is_name plain) (Turn is) (more_behind plain) (item texts seat below part left is)
  unfolding item comma_behind
  item_law is = asked_if is.more unexpected (at_head (is_name plain) (λ t h. item_text_law is) (item_heads is))

  -- ---- in the grammar's words

  abbrev start : List Name → Items
  start types = record { list = []; types = types; more = true }

  abbrev pub FitsItems : List Name → List Token → Items → Type 0
  FitsItems types ts r = AreItems texts types ts r.list r.types r.more × (depth_of_items (item_list r.list) ≤ left)

  -- an item without its comma
  item_of : (w : Lexicon) (t : Token) (n : Name × Place) (ys : List Token) (v : OptionalExpr) → name_at w t ≡ Some n → ValueText w ys v
      → IsItem w (t ∷ ys) (tree.Item n.0 v n.1) n.0 × (depth_of_optional_expr v ≤ left)
  item_of w t n ys v gives (inl u) =
      let o = u.is in
      let named = named_at w t n gives in
      let it : IsItem w (t ∷ (o.opening ∷ o.rest)) (tree.Item n.0 (tree.AnExpr o.is.value) t.place) n.0 = is_valued t o.opening n.0 o.rest o.is.value named.0 o.passes o.is.is.0 in
      rw (o.split, o.is.same, named.1) (it, o.is.is.1)
  item_of w t n ys v gives (inr e) =
      let named = named_at w t n gives in
      let it : IsItem w (t ∷ []) (tree.Item n.0 tree.NoExpr t.place) n.0 = is_plain t n.0 named.0 in
      rw (e.none, e.same, named.1) (it, omega arith)

  comma_added : (types : List Name) (ts cs : List Token) (is : List ItemTree) (now : List Name) (m : Bool) → AreItems texts types ts is now false → CommaText (reading texts now) cs m → AreItems texts types (ts ++ cs) is now m
  comma_added types ts cs is now m are (inl c) = rw (c.is.alone, c.same) (item_comma c.value ts is now c.is.passes are)
  comma_added types ts cs is now m are (inr e) = rw (e.none, e.same, append-nil ts) are

  to_first : (types : List Name) (ts : List Token) (r : Items) → ItemText (start types) ts r → FitsItems types ts r
  to_first types ts r b =
      let j = b.is in
      let one = item_of (reading texts types) b.opening b.value j.before j.value b.gives_it j.first in
      let i : ItemTree = tree.Item b.value.0 j.value b.value.1 in
      let are : AreItems texts types (b.opening ∷ j.before) (i ∷ []) (without b.value.0 types) false = first_item (b.opening ∷ j.before) i b.value.0 one.0 in
      let all : FitsItems types ((b.opening ∷ j.before) ++ j.after) (added (start types) b.value j.value j.second.value) = (comma_added types (b.opening ∷ j.before) j.after (i ∷ []) (without b.value.0 types) j.second.value are j.second.is, items_fit [] i left (omega arith) one.1) in
      rw (b.split, j.split, j.second.same) all

  to_turn : (types : List Name) (xs ys : List Token) (is r : Items) → FitsItems types xs is → Turn is ys r → FitsItems types (xs ++ ys) r
  to_turn types xs ys is r f turned =
      let b = turned.1 in
      let j = b.is in
      let one = item_of (with_types is) b.opening b.value j.before j.value b.gives_it j.first in
      let i : ItemTree = tree.Item b.value.0 j.value b.value.1 in
      let before : AreItems texts types xs is.list is.types true = subst (AreItems texts types xs is.list is.types) turned.0 f.0 in
      let are : AreItems texts types (xs ++ (b.opening ∷ j.before)) (is.list ++ (i ∷ [])) (without b.value.0 is.types) false = item_behind xs (b.opening ∷ j.before) is.list i b.value.0 is.types before one.0 in
      let all : FitsItems types ((xs ++ (b.opening ∷ j.before)) ++ j.after) (added is b.value j.value j.second.value) =
      (comma_added types (xs ++ (b.opening ∷ j.before)) j.after (is.list ++ (i ∷ [])) (without b.value.0 is.types) j.second.value are j.second.is, items_fit is.list i left f.1 one.1) in
      let whole : xs ++ ys ≡ (xs ++ (b.opening ∷ j.before)) ++ j.after = ap (λ l. xs ++ l) (b.split ∙ ap (λ l. b.opening ∷ l) j.split) ∙ sym (append_assoc xs (b.opening ∷ j.before) j.after) in
      rw (whole, j.second.same) all

  turned : (types : List Name) (xs ys : List Token) (is r : Items) → FitsItems types xs is → Turns Turn is ys r → FitsItems types (xs ++ ys) r
  turned types xs _ is _ f (over _) = subst (λ l. FitsItems types l is) (sym (append-nil xs)) f
  turned types xs _ is r f (turn _ m _ us vs first rest) = subst (λ l. FitsItems types l r) (append_assoc xs us vs) (turned types (xs ++ us) vs m r (to_turn types xs us is m f first) rest)

  abbrev Listed : List Name → List Token → Items → Type 0
  Listed types = Joined (ItemText (start types)) (Turns Turn)

  to_items : (types : List Name) (ts : List Token) (r : Items) → Listed types ts r → FitsItems types ts r
  to_items types ts r j = subst (λ l. FitsItems types l r) (sym j.split) (turned types j.before j.after j.value r (to_first types j.before j.value j.first) j.second)

  abbrev grown : Items → ItemTree → Name → Bool → Items
  grown is i n m = record { list = is.list ++ (i ∷ []); types = without n is.types; more = m }

  text_of : (is : Items) (ts : List Token) (i : ItemTree) (n : Name) (cs : List Token) (m : Bool) → IsItem (with_types is) ts i n → depth_of_item i ≤ left → CommaText (with_types is) cs m
      → ItemText is (ts ++ cs) (grown is i n m)
  text_of is _ _ _ cs m (is_plain t n named) deep comma = record {
    opening = t;
    value = (n, t.place);
    rest = cs;
    split = refl;
    gives_it = at_name (with_types is) t n named;
    is = record { before = []; after = cs; value = tree.NoExpr; split = refl; first = inr (record { none = refl; same = refl }); second = record { value = m; is = comma; same = refl } };
  }
  text_of is _ _ _ cs m (is_valued t a n ts e named assigns text) deep comma = record {
    opening = t;
    value = (n, t.place);
    rest = (a ∷ ts) ++ cs;
    split = refl;
    gives_it = at_name (with_types is) t n named;
    is = record {
      before = a ∷ ts;
      after = cs;
      value = tree.AnExpr e;
      split = refl;
      first = inl (record { open_way = room_for left e deep; is = record { opening = a; rest = ts; split = refl; passes = assigns; is = record { value = e; is = (text, deep); same = refl } } });
      second = record { value = m; is = comma; same = refl };
    };
  }

  -- what may still stand behind a list: a comma, where there is none
  abbrev Behind : Lexicon → Bool → List Token → Bool → Type 0
  Behind w true cs c = (cs ≡ []) × (c ≡ true)
  Behind w false cs c = CommaText w cs c

  from_items : (types : List Name) (ts : List Token) (is : List ItemTree) (now : List Name) (m : Bool) (cs : List Token) (c : Bool) → AreItems texts types ts is now m → depth_of_items (item_list is) ≤ left
      → Behind plain m cs c → Listed types (ts ++ cs) (record { list = is; types = now; more = c })
  from_items types _ _ _ _ cs c (first_item ts i n one) deep comma =
      record { before = ts ++ cs; after = []; value = grown (start types) i n c; split = sym (append-nil (ts ++ cs)); first = text_of (start types) ts i n cs c one (front_fits [] i left deep).1 comma; second = over (grown (start types) i n c) }
  from_items types _ _ _ _ cs c (item_behind xs ys is i n now are one) deep comma =
      let fits = front_fits is i left deep in
      let j : Listed types (xs ++ []) (record { list = is; types = now; more = true }) = from_items types xs is now true [] true are fits.0 (refl, refl) in
      let last : Turn (record { list = is; types = now; more = true }) (ys ++ cs) (record { list = is ++ (i ∷ []); types = without n now; more = c }) = (refl, text_of (record { list = is; types = now; more = true }) ys i n cs c one fits.1 comma) in
      record {
        before = j.before;
        after = j.after ++ (ys ++ cs);
        value = j.value;
        split = append_assoc xs ys cs ∙ ap (λ l. l ++ (ys ++ cs)) (sym (append-nil xs) ∙ j.split) ∙ append_assoc j.before j.after (ys ++ cs);
        first = j.first;
        second = turned_once_more j.value (record { list = is; types = now; more = true }) (record { list = is ++ (i ∷ []); types = without n now; more = c }) j.after (ys ++ cs) j.second last;
      }
  from_items types _ _ _ _ cs c (item_comma t ts is now h are) deep comma =
      let j : Listed types (ts ++ (t ∷ [])) (record { list = is; types = now; more = true }) = from_items types ts is now false (t ∷ []) true are deep (inl (record { value = t; is = record { alone = refl; passes = h }; same = refl })) in
      rw (comma.0, comma.1, append-nil (ts ++ (t ∷ []))) j

  from_fits : (types : List Name) (ts : List Token) (r : Items) → FitsItems types ts r → Listed types ts r
  from_fits types ts r f = subst (λ l. Listed types l r) (append-nil ts) (from_items types ts r.list r.types r.more [] r.more f.0 f.1 (none r.more))
    where
      none : (m : Bool) → Behind plain m [] m
      none true = (refl, refl)
      none false = inr (record { none = refl; same = refl })

  pub items_law : (types : List Name) → Lawful (FitsItems types) (more_items texts) (items texts seat below part left types)
  unfolding items item comma_behind
  items_law types =
      via (looping {Turn = Turn} item_law (name_ends plain) (item_text_law (start types))) (to_items types) (from_fits types) (items texts seat below part left types) (λ ts. refl)
