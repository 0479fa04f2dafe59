-- The readers of initialisers keep the laws.
use Rattle.std.proofs.Common.{◌≡◌, ◌≤◌, ℕ, zero, suc, Bool, true, false, ◌||◌, not, max, List, [], ◌∷◌, ◌++◌, if◌then◌else◌, refl, sym, ap, ◌∙◌, subst, append_assoc, append-nil, inl, inr, arith, nat_lt}
use Rattle.std.proofs.Math.Nat.{le-max_left, le-max_right, max-le}
use Rattle.sb_base.specs.declared.interning.Name.{Name}
use Rattle.sb_base.specs.declared.tokens.Token.{Token}
use Rattle.sb_parse.specs.Parser.{Parser, at_next, ◌>>=◌, pure, refuse, token, choose, looped}
use Rattle.sb_parse.specs.Lawful.{Lawful, OnHead, Joined, IsEmpty, Mapped, Opened, Closed, Unbarred, Either, Turns, over, turn}
use Rattle.sb_parse.proofs.Joining.{via, map_of}
use Rattle.sb_parse.proofs.Heads.{opened, opened_heads, at_head, guarded, headed, head_of_append, choice_of, perhaps_of, barred}
use Rattle.sb_sign.specs.declared.sign.Mark.TheVariants as mark
use Rattle.sb_tree.specs.Plain.{init_list}
use Rattle.sb_tree.specs.Trees as tree
use Rattle.sb_tree.specs.Trees.{InitTree, OptionalInit, depth_of_expr, depth_of_init, depth_of_inits, depth_of_optional_init}
use Rattle.sb_expr.specs.Expression.{Assignment}
use Rattle.sb_lexicon.specs.Lexicon.{Lexicon, is_mark}
use Rattle.sb_lexicon.specs.Tokens.{unexpected, too_deep, is_comma, is_open_brace, is_open_bracket, begins_expr}
use Rattle.sb_expr.specs.Reads.{FitsExpr}
use Rattle.sb_expr.proofs.tokens.Begins.{expr_begins, begins_with_no_brace}
use Rattle.sb_lexicon.proofs.Depths.{some_depth, within_room, room_within}
use Rattle.sb_expr.proofs.tokens.Ends.{comma_ends, assignment_ends}
use Rattle.sb_lexicon.proofs.Lexemes.{mark_is, mark_alone}
use Rattle.sb_expr.proofs.tokens.More.{more_assignment}
use Rattle.sb_expr.proofs.Tying.{lawful_parts}
use Rattle.sb_parse.proofs.Ways.{closing, goes_on_where, turned_once_more}
use Rattle.sb_specifier.specs.Specified.{reading}
use Rattle.sb_initialiser.specs.Initialiser.{IsInitialiser, is_value, is_list, AreInitialisers, first_initialiser, initialiser_behind, comma_behind}
use Rattle.sb_specifier.specs.Readers.{is_semicolon, Parts, designated, begins_designator, is_assign, is_close_brace}
use Rattle.sb_initialiser.specs.Readers.{Initialisers, next_initialiser, braces, initialiser_at, initialiser}
use Rattle.sb_specifier.proofs.laws.Commas.{CommaText, comma_or_none, with_comma}
use Rattle.sb_parse.proofs.Choices.{asked_if}
use Rattle.sb_specifier.proofs.laws.Names.{close_brace_token, close_brace_token_is, mark_begins_none}
use Rattle.sb_parse.proofs.Turning.{turning}

-- ---- how deep lists are

some_init_depth : (i : InitTree) → 1 ≤ depth_of_init i
some_init_depth (tree.One e) = omega arith
some_init_depth (tree.Braces is place) = omega arith

inits_fit : (is : List InitTree) (i : InitTree) (n : ℕ) → depth_of_inits (init_list is) ≤ n → depth_of_init i ≤ n → depth_of_inits (init_list (is ++ (i ∷ []))) ≤ n
inits_fit [] i n h k = max-le k (omega arith)
inits_fit (f ∷ is) i n h k =
    let first : depth_of_init f ≤ max (depth_of_init f) (depth_of_inits (init_list is)) = le-max_left (depth_of_init f) (depth_of_inits (init_list is)) in
    let rest : depth_of_inits (init_list is) ≤ max (depth_of_init f) (depth_of_inits (init_list is)) = le-max_right (depth_of_init f) (depth_of_inits (init_list is)) in
    max-le (omega arith) (inits_fit is i n (omega arith) k)

front_fits : (is : List InitTree) (i : InitTree) (n : ℕ) → depth_of_inits (init_list (is ++ (i ∷ []))) ≤ n → (depth_of_inits (init_list is) ≤ n) × (depth_of_init i ≤ n)
front_fits [] i n h = let one : depth_of_init i ≤ max (depth_of_init i) 0 = le-max_left (depth_of_init i) 0 in (omega arith, omega arith)
front_fits (f ∷ is) i n h =
    let first : depth_of_init f ≤ max (depth_of_init f) (depth_of_inits (init_list (is ++ (i ∷ [])))) = le-max_left (depth_of_init f) (depth_of_inits (init_list (is ++ (i ∷ [])))) in
    let rest : depth_of_inits (init_list (is ++ (i ∷ []))) ≤ max (depth_of_init f) (depth_of_inits (init_list (is ++ (i ∷ [])))) = le-max_right (depth_of_init f) (depth_of_inits (init_list (is ++ (i ∷ [])))) in
    let both : (depth_of_inits (init_list is) ≤ n) × (depth_of_init i ≤ n) = front_fits is i n (omega arith) in
    (max-le (omega arith) both.0, both.1)

-- a list is as deep as each of its initialisers
list_depth : (w : Lexicon) (n : ℕ) → ((ts : List Token) (i : InitTree) → IsInitialiser w ts i → n ≤ depth_of_init i) → (ts : List Token) (is : List InitTree) (b : Bool) → AreInitialisers w ts is b → n ≤ depth_of_inits (init_list is)
list_depth w n deep _ _ _ (first_initialiser ts i one) =
    let some : n ≤ depth_of_init i = deep ts i one in
    let most : depth_of_init i ≤ max (depth_of_init i) 0 = le-max_left (depth_of_init i) 0 in
    omega arith
list_depth w n deep _ _ _ (initialiser_behind xs ys is i are one) =
    let some : n ≤ depth_of_init i = deep ys i one in
    let both : (depth_of_inits (init_list is) ≤ depth_of_inits (init_list (is ++ (i ∷ [])))) × (depth_of_init i ≤ depth_of_inits (init_list (is ++ (i ∷ [])))) = front_fits is i (depth_of_inits (init_list (is ++ (i ∷ [])))) (omega arith) in
    let least : depth_of_init i ≤ depth_of_inits (init_list (is ++ (i ∷ []))) = both.1 in
    omega arith
list_depth w n deep _ _ _ (comma_behind c ts is h are) = list_depth w n deep ts is false are

pub deep_init : (w : Lexicon) (ts : List Token) (i : InitTree) → IsInitialiser w ts i → 2 ≤ depth_of_init i
deep_init w _ _ (is_value ts e is) = let some : 1 ≤ depth_of_expr e = some_depth e in omega arith
deep_init w _ _ (is_list o c ts is comma opens closes are) = let some : 1 ≤ depth_of_inits (init_list is) = list_depth w 1 (λ ts i one. some_init_depth i) ts is comma are in omega arith

-- ---- what goes on from initialisers

abbrev pub more_init : Lexicon → InitTree → Token → Bool
more_init w (tree.One e) t = more_assignment w e t
more_init w (tree.Braces is place) t = false

abbrev more_last : Lexicon → List InitTree → Token → Bool
more_last w [] t = false
more_last w (i ∷ []) t = more_init w i t
more_last w (i ∷ (j ∷ is)) t = more_last w (j ∷ is) t

last_added : (w : Lexicon) (is : List InitTree) (i : InitTree) (t : Token) → more_last w (is ++ (i ∷ [])) t ≡ more_init w i t
last_added w [] i t = refl
last_added w (f ∷ []) i t = refl
last_added w (f ∷ (g ∷ is)) i t = last_added w (g ∷ is) i t

abbrev more_behind : Lexicon → Initialisers → Token → Bool
more_behind w is t = if is.more then false else (is_comma w t || more_last w is.list t)

pub init_ends : (w : Lexicon) (i : InitTree) (t : Token) → is_comma w t ≡ true → more_init w i t ≡ false
init_ends w (tree.One e) t h = comma_ends w t h e
init_ends w (tree.Braces is place) t h = refl

pub init_ends_at_semicolon : (w : Lexicon) (i : InitTree) (t : Token) → is_semicolon w t ≡ true → more_init w i t ≡ false
init_ends_at_semicolon w (tree.One e) t h = assignment_ends w t mark.Semicolon (mark_is w mark.Semicolon t h) (refl, refl) (λ j le. refl) refl refl e
init_ends_at_semicolon w (tree.Braces is place) t h = refl

brace_ends_last : (w : Lexicon) (is : List InitTree) (t : Token) → is_close_brace w t ≡ true → more_last w is t ≡ false
brace_ends_last w [] t h = refl
brace_ends_last w (tree.One e ∷ []) t h = assignment_ends w t mark.CloseBrace (mark_is w mark.CloseBrace t h) (refl, refl) (λ j le. refl) refl refl e
brace_ends_last w (tree.Braces is place ∷ []) t h = refl
brace_ends_last w (i ∷ (j ∷ is)) t h = brace_ends_last w (j ∷ is) t h

brace_ends : (w : Lexicon) (is : Initialisers) (t : Token) → is_close_brace w t ≡ true → (not (is_close_brace w t) || more_behind w is t) ≡ false
brace_ends w is t h = ap (λ b. not b || more_behind w is t) h ∙ by_test is.more
  where
    by_test : (b : Bool) → (if b then false else (is_comma w t || more_last w is.list t)) ≡ false
    by_test true = refl
    by_test false = ap (λ b. b || more_last w is.list t) (mark_alone w mark.CloseBrace mark.Comma t (mark_is w mark.CloseBrace t h) refl) ∙ brace_ends_last w is.list t h

-- ---- the first tokens of initialisers

init_begins : (w : Lexicon) (ts : List Token) (i : InitTree) → IsInitialiser w ts i → at_next (λ t. is_open_brace w t || begins_expr w t) ts ≡ true
init_begins w _ _ (is_value ts e is) = go ts (expr_begins w Assignment ts e is)
  where
    go : (ts : List Token) → at_next (begins_expr w) ts ≡ true → at_next (λ t. is_open_brace w t || begins_expr w t) ts ≡ true
    go [] h = absurd (cc h)
    go (t ∷ ts) h = by_test (is_open_brace w t)
      where
        by_test : (b : Bool) → (b || begins_expr w t) ≡ true
        by_test true = refl
        by_test false = h
init_begins w _ _ (is_list o c ts is comma opens closes are) = ap (λ b. b || begins_expr w o) opens

-- no initialiser begins with this punctuator
begins_off : (w : Lexicon) (test : Token → Bool) → ((t : Token) → test t ≡ true → (is_open_brace w t ≡ false) × (begins_expr w t ≡ false)) → (ts : List Token) → at_next (λ t. is_open_brace w t || begins_expr w t) ts ≡ true → at_next test ts ≡ false
begins_off w test off [] h = refl
begins_off w test off (t ∷ ts) h = by_test (test t) refl
  where
    by_test : (b : Bool) → test t ≡ b → test t ≡ false
    by_test false k = k
    by_test true k =
        let both : (is_open_brace w t || begins_expr w t) ≡ false = ap (λ b. b || begins_expr w t) (off t k).0 ∙ (off t k).1 in
        absurd (let clash : true ≡ false = sym h ∙ both in cc clash)

close_off : (w : Lexicon) (t : Token) → is_close_brace w t ≡ true → (is_open_brace w t ≡ false) × (begins_expr w t ≡ false)
close_off w t h = (mark_alone w mark.CloseBrace mark.OpenBrace t (mark_is w mark.CloseBrace t h) refl, mark_begins_none w t mark.CloseBrace h refl refl refl)

designator_off : (w : Lexicon) (t : Token) → begins_designator w t ≡ true → (is_open_brace w t ≡ false) × (begins_expr w t ≡ false)
designator_off w t h = by_test (is_mark w mark.Dot t) refl h
  where
    by_test : (b : Bool) → is_mark w mark.Dot t ≡ b → (b || is_open_bracket w t) ≡ true → (is_open_brace w t ≡ false) × (begins_expr w t ≡ false)
    by_test true k e = (mark_alone w mark.Dot mark.OpenBrace t (mark_is w mark.Dot t k) refl, mark_begins_none w t mark.Dot k refl refl refl)
    by_test false k e = (mark_alone w mark.OpenBracket mark.OpenBrace t (mark_is w mark.OpenBracket t e) refl, mark_begins_none w t mark.OpenBracket e refl refl refl)

abbrev pub FitsInitialiser : Lexicon → ℕ → List Token → InitTree → Type 0
FitsInitialiser w left ts i = IsInitialiser w ts i × (depth_of_init i ≤ left)

-- ---- a list in braces

module _ (w : Lexicon) (below : ℕ) where
  abbrev other : Token → Bool
  other t = not (is_close_brace w t)

  abbrev added : Initialisers → InitTree → Bool → Initialisers
  added is i m = record { list = is.list ++ (i ∷ []); more = m }

  added_more : (is : Initialisers) (i : InitTree) (m : Bool) (t : Token) → more_behind w (added is i m) t ≡ (if m then false else (is_comma w t || more_init w i t))
  added_more is i true t = refl
  added_more is i false t = ap (λ b. is_comma w t || b) (last_added w is.list i t)

  abbrev InitText : Initialisers → List Token → Initialisers → Type 0
  InitText is = Joined (FitsInitialiser w below) (λ i. Mapped (added is i) (CommaText w))

  abbrev Turn : Initialisers → List Token → Initialisers → Type 0
  Turn is ts r = (is.more ≡ true) × InitText is ts r

  begins_other : (ts rest : List Token) → at_next (λ t. is_open_brace w t || begins_expr w t) ts ≡ true → at_next other (ts ++ rest) ≡ true
  begins_other [] rest h = absurd (cc h)
  begins_other (t ∷ ts) rest h = ap not (begins_off w (is_close_brace w) (close_off w) (t ∷ ts) h)

  text_heads : (is : Initialisers) (ts : List Token) (r : Initialisers) → InitText is ts r → at_next other ts ≡ true
  text_heads is ts r j = ap (at_next other) j.split ∙ begins_other j.before j.after (init_begins w j.before j.value j.first.0)

  -- nothing goes on behind a comma but another initialiser
  apart_behind : (is r : Initialisers) (ts : List Token) → Turn is ts r → (t : Token) → other t ≡ true → more_behind w is t ≡ false
  apart_behind is r ts turned t h = ap (λ b. if b then false else (is_comma w t || more_last w is.list t)) turned.0

  abbrev start : Initialisers
  start = record { list = []; more = true }

  abbrev FitsInits : List Token → Initialisers → Type 0
  FitsInits ts r = AreInitialisers w ts r.list r.more × (depth_of_inits (init_list r.list) ≤ below)

  comma_added : (ts cs : List Token) (is : List InitTree) (m : Bool) → AreInitialisers w ts is false → CommaText w cs m → AreInitialisers w (ts ++ cs) is m
  comma_added ts cs is m are (inl c) = rw (c.is.alone, c.same) (comma_behind c.value ts is c.is.passes are)
  comma_added ts cs is m are (inr e) = rw (e.none, e.same, append-nil ts) are

  to_first : (ts : List Token) (r : Initialisers) → InitText start ts r → FitsInits ts r
  to_first ts r j =
      let all : FitsInits (j.before ++ j.after) (added start j.value j.second.value) =
      (comma_added j.before j.after (j.value ∷ []) j.second.value (first_initialiser j.before j.value j.first.0) j.second.is, inits_fit [] j.value below (omega arith) j.first.1) in
      rw (j.split, j.second.same) all

  to_turn : (xs ys : List Token) (is r : Initialisers) → FitsInits xs is → Turn is ys r → FitsInits (xs ++ ys) r
  to_turn xs ys is r f turned =
      let j = turned.1 in
      let before : AreInitialisers w xs is.list true = subst (AreInitialisers w xs is.list) turned.0 f.0 in
      let are : AreInitialisers w (xs ++ j.before) (is.list ++ (j.value ∷ [])) false = initialiser_behind xs j.before is.list j.value before j.first.0 in
      let all : FitsInits ((xs ++ j.before) ++ j.after) (added is j.value j.second.value) =
      (comma_added (xs ++ j.before) j.after (is.list ++ (j.value ∷ [])) j.second.value are j.second.is, inits_fit is.list j.value below f.1 j.first.1) in
      let whole : xs ++ ys ≡ (xs ++ j.before) ++ j.after = ap (λ l. xs ++ l) j.split ∙ sym (append_assoc xs j.before j.after) in
      rw (whole, j.second.same) all

  turned : (xs ys : List Token) (is r : Initialisers) → FitsInits xs is → Turns Turn is ys r → FitsInits (xs ++ ys) r
  turned xs _ is _ f (over _) = subst (λ l. FitsInits l is) (sym (append-nil xs)) f
  turned xs _ is r f (turn _ m _ us vs first rest) = subst (λ l. FitsInits l r) (append_assoc xs us vs) (turned (xs ++ us) vs m r (to_turn xs us is m f first) rest)

  abbrev Listed : List Token → Initialisers → Type 0
  Listed = Joined (InitText start) (Turns Turn)

  to_inits : (ts : List Token) (r : Initialisers) → Listed ts r → FitsInits ts r
  to_inits ts r j = subst (λ l. FitsInits l r) (sym j.split) (turned j.before j.after j.value r (to_first j.before j.value j.first) j.second)

  text_of : (is : Initialisers) (ts : List Token) (i : InitTree) (cs : List Token) (m : Bool) → IsInitialiser w ts i → depth_of_init i ≤ below → CommaText w cs m → InitText is (ts ++ cs) (added is i m)
  text_of is ts i cs m one deep comma = record { before = ts; after = cs; value = i; split = refl; first = (one, deep); second = record { value = m; is = comma; same = refl } }

  -- what may still stand behind a list: a comma, where there is none
  abbrev Behind : Bool → List Token → Bool → Type 0
  Behind true cs c = (cs ≡ []) × (c ≡ true)
  Behind false cs c = CommaText w cs c

  from_inits : (ts : List Token) (is : List InitTree) (m : Bool) (cs : List Token) (c : Bool) → AreInitialisers w ts is m → depth_of_inits (init_list is) ≤ below → Behind m cs c → Listed (ts ++ cs) (record { list = is; more = c })
  from_inits _ _ _ cs c (first_initialiser ts i one) deep comma =
      record { before = ts ++ cs; after = []; value = added start i c; split = sym (append-nil (ts ++ cs)); first = text_of start ts i cs c one (front_fits [] i below deep).1 comma; second = over (added start i c) }
  from_inits _ _ _ cs c (initialiser_behind xs ys is i are one) deep comma =
      let fits = front_fits is i below deep in
      let j : Listed (xs ++ []) (record { list = is; more = true }) = from_inits xs is true [] true are fits.0 (refl, refl) in
      let last : Turn (record { list = is; more = true }) (ys ++ cs) (record { list = is ++ (i ∷ []); more = c }) = (refl, text_of (record { list = is; more = true }) ys i cs c one fits.1 comma) in
      record {
        before = j.before;
        after = j.after ++ (ys ++ cs);
        value = j.value;
        split = append_assoc xs ys cs ∙ ap (λ l. l ++ (ys ++ cs)) (sym (append-nil xs) ∙ j.split) ∙ append_assoc j.before j.after (ys ++ cs);
        first = j.first;
        second = turned_once_more j.value (record { list = is; more = true }) (record { list = is ++ (i ∷ []); more = c }) j.after (ys ++ cs) j.second last;
      }
  from_inits _ _ _ cs c (comma_behind t ts is h are) deep comma =
      let j : Listed (ts ++ (t ∷ [])) (record { list = is; more = true }) = from_inits ts is false (t ∷ []) true are deep (inl (record { value = t; is = record { alone = refl; passes = h }; same = refl })) in
      rw (comma.0, comma.1, append-nil (ts ++ (t ∷ []))) j

  from_fits : (ts : List Token) (r : Initialisers) → FitsInits ts r → Listed ts r
  from_fits ts r f = subst (λ l. Listed l r) (append-nil ts) (from_inits ts r.list r.more [] r.more f.0 f.1 (none r.more))
    where
      none : (m : Bool) → Behind m [] m
      none true = (refl, refl)
      none false = inr (record { none = refl; same = refl })

  abbrev BracesText : List Token → InitTree → Type 0
  BracesText = Opened (is_open_brace w) (λ o. Mapped (λ is. tree.Braces (init_list is.list) o.place) (Closed (is_close_brace w) FitsInits))

module _ (w : Lexicon) (below : ℕ) (part : Parser Token InitTree) (P : Lawful (FitsInitialiser w below) (more_init w) part) where
  abbrev undesignated : Parser Token InitTree
  undesignated = choose (begins_designator w) (refuse designated) part

  undesignated_law : Lawful (FitsInitialiser w below) (more_init w) undesignated
  undesignated_law = via (choice_of (barred (begins_designator w) (λ ts i. ⊥) (more_init w) designated (λ ts i e. e)) P apart) to (λ ts i is. inr is) undesignated (λ ts. refl)
    where
      apart : (ts : List Token) (i : InitTree) (rest : List Token) → FitsInitialiser w below ts i → at_next (more_init w i) rest ≡ false → at_next (begins_designator w) (ts ++ rest) ≡ false
      apart ts i rest f e = begins_off w (begins_designator w) (designator_off w) (ts ++ rest) (head_of_append (λ t. is_open_brace w t || begins_expr w t) ts rest (init_begins w ts i f.0))

      to : (ts : List Token) (i : InitTree) → Either (λ ts i. ⊥) (FitsInitialiser w below) ts i → FitsInitialiser w below ts i
      to ts i (inl e) = absurd e
      to ts i (inr is) = is

  text_law : (is : Initialisers) → Lawful (InitText w below is) (more_behind w) (undesignated >>= (λ i. comma_or_none w >>= (λ m. pure (added w below is i m))))
  text_law is = with_comma w undesignated_law (added w below is) (more_behind w) (added_more w below is) (init_ends w)

  next_law : (is : Initialisers) → OnHead (other w below) (Turn w below is) (more_behind w) (next_initialiser w below part is)
  unfolding next_initialiser
  next_law is = asked_if is.more unexpected (headed (text_law is) (other w below) (text_heads w below is))

  list_law : Lawful (FitsInits w below) (λ is t. (other w below) t || more_behind w is t) (next_initialiser w below part (start w below) >>= looped (other w below) (next_initialiser w below part))
  unfolding next_initialiser
  list_law = via (turning {Turn = Turn w below} next_law (apart_behind w below) (text_law (start w below))) (to_inits w below) (from_fits w below) (next_initialiser w below part (start w below) >>= looped (other w below) (next_initialiser w below part)) (λ ts. refl)

  abbrev rest_of : Token → Parser Token InitTree
  rest_of o = next_initialiser w below part (start w below) >>= looped (other w below) (next_initialiser w below part) >>= (λ is. token unexpected (is_close_brace w) >>= (λ c. pure (tree.Braces (init_list is.list) o.place)))

  braces_head : OnHead (is_open_brace w) (BracesText w below) (more_init w) (braces w below part)
  unfolding braces
  braces_head = at_head (is_open_brace w) law (λ ts i o. opened_heads ts i o)
    where
      law : (t : Token) → is_open_brace w t ≡ true → Lawful (BracesText w below) (more_init w) (token unexpected (is_open_brace w) >>= rest_of)
      law t h =
          opened {Is = λ o. Mapped (λ is. tree.Braces (init_list is.list) o.place) (Closed (is_close_brace w) (FitsInits w below))} {q = rest_of} unexpected (is_open_brace w) t h
          (λ o passes. goes_on_where (closing unexpected (is_close_brace w) close_brace_token (close_brace_token_is w) list_law (brace_ends w) (λ is. tree.Braces (init_list is.list) o.place)) (more_init w)
          (λ ts i m u. ap (λ z. more_init w z u) m.same))

-- ---- initialisers of each depth

module _ (w : Lexicon) (below : ℕ) (part : Parser Token InitTree) (some : 1 ≤ below) (P : 2 ≤ below → Lawful (FitsInitialiser w below) (more_init w) part) where
  abbrev Text : List Token → InitTree → Type 0
  Text = Either (Unbarred (nat_lt below 2) (BracesText w below)) (Mapped tree.One (FitsExpr w below Assignment))

  to_initialiser : (ts : List Token) (i : InitTree) → Text ts i → FitsInitialiser w (suc below) ts i
  to_initialiser ts i (inl u) =
      let o = u.is in
      let m = o.is in
      let it : IsInitialiser w (o.opening ∷ (m.is.front ++ (m.is.closing ∷ []))) (tree.Braces (init_list m.value.list) o.opening.place) = is_list o.opening m.is.closing m.is.front m.value.list m.value.more o.passes m.is.passes m.is.is.0 in
      let deep : depth_of_inits (init_list m.value.list) ≤ below = m.is.is.1 in
      rw (o.split, m.is.split, m.same) (it, omega arith)
  to_initialiser ts i (inr m) = let deep : depth_of_expr m.value ≤ below = m.is.1 in rw m.same (is_value ts m.value m.is.0, omega arith)

  from_initialiser : (ts : List Token) (i : InitTree) → IsInitialiser w ts i → depth_of_init i ≤ suc below → Text ts i
  from_initialiser _ _ (is_value ts e is) deep = inr (record { value = e; is = (is, omega arith); same = refl })
  from_initialiser _ _ (is_list o c ts is comma opens closes are) deep =
      let least : 2 ≤ depth_of_inits (init_list is) = list_depth w 2 (deep_init w) ts is comma are in
      let fits : depth_of_inits (init_list is) ≤ below = omega arith in
      inl (record {
        open_way = room_within below 2 (omega arith);
        is = record {
          opening = o;
          rest = ts ++ (c ∷ []);
          split = refl;
          passes = opens;
          is = record { value = record { list = is; more = comma }; is = record { front = ts; closing = c; split = refl; is = (are, fits); passes = closes }; same = refl };
        };
      })

  at_law : Lawful (FitsInitialiser w (suc below)) (more_init w) (initialiser_at w below part)
  unfolding initialiser_at
  at_law =
      via (choice_of (guarded (nat_lt below 2) too_deep (λ room. braces_head w below part (P (within_room below 2 room)))) (map_of ((lawful_parts w below some).expr Assignment) tree.One (more_init w) (λ e t. refl)) apart)
      to_initialiser (λ ts i f. from_initialiser ts i f.0 f.1) (initialiser_at w below part) (λ ts. refl)
    where
      apart : (ts : List Token) (i : InitTree) (rest : List Token) → Mapped tree.One (FitsExpr w below Assignment) ts i → at_next (more_init w i) rest ≡ false → at_next (is_open_brace w) (ts ++ rest) ≡ false
      apart ts i rest m e = begins_with_no_brace w Assignment ts m.value rest m.is.0

pub initialiser_law : (w : Lexicon) (below : ℕ) → 1 ≤ below → Lawful (FitsInitialiser w (suc below)) (more_init w) (initialiser w (suc below))
unfolding initialiser
initialiser_law w zero some = absurd (omega arith)
initialiser_law w (suc below) some = at_law w (suc below) (initialiser w (suc below)) some (λ two. initialiser_law w below (omega arith))
