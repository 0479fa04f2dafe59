-- The readers of a size or condition, of the word `Mem` and of a location keep the laws.
use Rattle.std.proofs.Common.{◌≡◌, ◌≤◌, ℕ, zero, suc, Bool, true, false, ◌||◌, List, [], ◌∷◌, ◌++◌, Option, Some, None, is_some, nat_lt, refl, sym, ap, ◌∙◌, subst, subst₂, append-nil, inl, inr, arith}
use Rattle.std.proofs.lemmas.Bool.{ltb-false, le-ltb}
use Rattle.std.specs.Option.{option_map_or}
use Rattle.sb_base.specs.declared.interning.Name.{Name}
use Rattle.sb_base.specs.declared.refusals.Place.{Place}
use Rattle.sb_base.specs.declared.tokens.Token.{Token}
use Rattle.sb_parse.specs.Parser.{at_next, ◌>>=◌, pure, token, choose, refuse}
use Rattle.sb_parse.specs.Lawful.{Lawful, OnHead, IsEmpty, Begun, Opened, Mapped, Unbarred, Either}
use Rattle.sb_parse.proofs.Joining.{via, nothing, map_of}
use Rattle.sb_parse.proofs.Heads.{begun, guarded, choice_of}
use Rattle.sb_tree.specs.declared.operator.UnaryOp.TheVariants as unary
use Rattle.sb_tree.specs.Trees as tree
use Rattle.sb_tree.specs.Trees.{ExprTree, ArgTree, ExprArg, NoteArg, depth_of_expr, depth_of_arg}
use Rattle.sb_expr.specs.Expression.{Infix, Assignment, IsExpr, is_operand, is_primary, is_postfix, is_uncast, is_tighter, is_infix, is_chosen}
use Rattle.sb_lexicon.specs.Lexicon.{Lexicon, name_of}
use Rattle.sb_expr.specs.Readers.{expr_reader}
use Rattle.sb_lexicon.specs.Tokens.{unexpected, too_deep, is_close, is_comma, is_star, begins_expr, bad_arguments, bad_kind}
use Rattle.sb_expr.specs.Reads.{FitsExpr}
use Rattle.sb_expr.proofs.tokens.More.{more}
use Rattle.sb_expr.proofs.tokens.Begins.{expr_begins, begins_with_no_close}
use Rattle.sb_expr.proofs.tokens.Ends.{close_ends_assignment, comma_ends}
use Rattle.sb_expr.proofs.Tying.{lawful_parts}
use Rattle.sb_parse.proofs.Ways.{second_fails, Refuses, one_refuses, both_refuse, only_else, halted}
use Rattle.sb_sal.specs.Notes.{inside, place_name, IsLocation, is_result, is_parameter, is_target, is_field, IsValue, is_value}
use Rattle.sb_sal.specs.Readers.{is_arrow, is_return, is_place_name, continues, named, member_of, wrong, ending, result, field, parameter, target, location, value, memory}
use Rattle.sb_sal.specs.Spellings.{is_listed, is_mem}
use Rattle.sb_parse.proofs.Partly.{Nowhere, with_text, refusing, choosing, Unless, unless, opened_head, given, given_at, given_by, begun_head}
use Rattle.sb_sal.proofs.Tokens.{arrow_continues, place_named, named_by, name_not_return, star_not_return, star_not_name, return_token, return_token_is, number_token, number_tree, number_token_is, flat_number, number_begins_value, name_token, name_token_is, place_token_is}

-- what goes on from a size or condition
abbrev pub more_value : Lexicon → ArgTree → Token → Bool
more_value w (ExprArg e) t = more (inside w) Assignment e t
more_value w (NoteArg n) t = false

-- an argument that is an expression of so small a depth
abbrev pub FitsValue : Lexicon → ℕ → List Token → ArgTree → Type 0
FitsValue w below ts a = IsValue w ts a × (depth_of_arg a ≤ below)

abbrev pub FitsLocation : Lexicon → ℕ → List Token → ExprTree → Type 0
FitsLocation w below ts e = IsLocation w ts e × (depth_of_expr e ≤ below)

pub wrong_refuses : {A : Type 0} (w : Lexicon) (ts : List Token) → Refuses (wrong {A = A} w) ts
wrong_refuses {A = A} w ts =
    both_refuse (λ t. is_close w t || begins_expr (inside w) t) (refuse {A = A} bad_arguments) (refuse unexpected) ts (one_refuses bad_arguments ts) (one_refuses unexpected ts)

-- ---- a size or a condition

pub expr_law : (w : Lexicon) (n : ℕ) → 1 ≤ n → Lawful (FitsExpr (inside w) n Assignment) (more (inside w) Assignment) (expr_reader (inside w) n Assignment)
expr_law w n some = (lawful_parts (inside w) n some).expr Assignment

module _ (w : Lexicon) (below : ℕ) (some : 1 ≤ below) where
  abbrev ValueText : List Token → ArgTree → Type 0
  ValueText = Unless (λ t. is_close w t || is_listed w t) (Mapped ExprArg (FitsExpr (inside w) below Assignment))

  tighter : (k : ℕ) → IsExpr (inside w) (Infix k) (number_token ∷ []) number_tree
  tighter zero = is_uncast (number_token ∷ []) number_tree (is_postfix (number_token ∷ []) number_tree (is_primary (number_token ∷ []) number_tree (is_operand number_token number_tree (number_token_is (inside w)))))
  tighter (suc k) = is_tighter k (number_token ∷ []) number_tree (tighter k)

  number_text : ValueText (number_token ∷ []) (ExprArg number_tree)
  number_text =
      let flat : depth_of_expr number_tree ≡ 1 = flat_number in
      record {
        is = record { value = number_tree; is = (is_chosen (number_token ∷ []) number_tree (is_infix (number_token ∷ []) number_tree (tighter 10)), omega arith); same = refl };
        off = number_begins_value w;
      }

  none_empty : (a : ArgTree) → Mapped ExprArg (FitsExpr (inside w) below Assignment) [] a → ⊥
  none_empty a m = let none : false ≡ true = expr_begins (inside w) Assignment [] m.value m.is.0 in cc none

  neither : (ts : List Token) → at_next (λ t. is_close w t || is_listed w t) ts ≡ false → at_next (is_listed w) ts ≡ false
  neither [] h = refl
  neither (t ∷ ts) h = second_fails (is_close w t) (is_listed w t) h

  both_fail : (ts : List Token) → at_next (is_close w) ts ≡ false → at_next (is_listed w) ts ≡ false → at_next (λ t. is_close w t || is_listed w t) ts ≡ false
  both_fail [] h k = refl
  both_fail (t ∷ ts) h k = ap (λ b. b || is_listed w t) h ∙ k

  value_to : (ts : List Token) (a : ArgTree) → ValueText ts a → FitsValue w below ts a
  value_to ts a u = subst (FitsValue w below ts) (sym u.is.same) (is_value ts u.is.value (neither ts u.off) u.is.is.0, u.is.is.1)

  value_from : (ts : List Token) (a : ArgTree) → FitsValue w below ts a → ValueText ts a
  value_from ts a f = go ts a f.0 f.1
    where
      go : (ts : List Token) (a : ArgTree) → IsValue w ts a → depth_of_arg a ≤ below → ValueText ts a
      go _ _ (is_value ts e off is) le = record { is = record { value = e; is = (is, le); same = refl }; off = both_fail ts (ap (at_next (is_close w)) (sym (append-nil ts)) ∙ begins_with_no_close (inside w) Assignment ts e [] is) off }

  pub value_law : Lawful (FitsValue w below) (more_value w) (value w below)
  unfolding value
  value_law =
      via (unless (λ t. is_close w t || is_listed w t) bad_arguments (map_of (expr_law w below some) ExprArg (more_value w) (λ e t. refl)) none_empty (number_token ∷ []) (ExprArg number_tree) number_text)
      value_to value_from (value w below) (λ ts. refl)

pub value_ends_at_close : (w : Lexicon) (a : ArgTree) (t : Token) → is_close w t ≡ true → more_value w a t ≡ false
value_ends_at_close w (ExprArg e) t h = close_ends_assignment (inside w) t h e
value_ends_at_close w (NoteArg n) t h = refl

pub value_ends_at_comma : (w : Lexicon) (a : ArgTree) (t : Token) → is_comma w t ≡ true → more_value w a t ≡ false
value_ends_at_comma w (ExprArg e) t h = comma_ends (inside w) t h e
value_ends_at_comma w (NoteArg n) t h = refl

-- ---- a location

module _ (w : Lexicon) (below : ℕ) (some : 1 ≤ below) where
  pub ending_law : (count : ℕ) (e : ExprTree) → Lawful (IsEmpty e) (λ _. continues w) (ending w count e)
  ending_law count e = halted (nothing e) (λ _. continues w) (bad_kind count)

  abbrev ResultText : List Token → ExprTree → Type 0
  ResultText = Opened (is_return w) (λ t. IsEmpty (tree.Identifier t.text t.place))

  result_head : OnHead (is_return w) ResultText (λ _. continues w) (result w below)
  unfolding result
  result_head = opened_head unexpected (is_return w) (is_return w) (λ t h. h) (λ t h. ending_law 1 (tree.Identifier t.text t.place))

  abbrev MemberText : ExprTree → Token → Name × Place → List Token → ExprTree → Type 0
  MemberText e a m = IsEmpty (tree.Member e true m.0 m.1 a.place)

  abbrev FieldText : ExprTree → List Token → ExprTree → Type 0
  FieldText e = Opened (is_arrow w) (λ a. Begun (member_of w) (MemberText e a))

  a_member : member_of w name_token ≡ Some (name_token.text, name_token.place)
  a_member = ap (λ o. option_map_or (λ n. Some (n, name_token.place)) o None) (name_token_is w)

  field_head : (e : ExprTree) → OnHead (is_arrow w) (FieldText e) (λ _. continues w) (field w below e)
  unfolding field
  field_head e =
      opened_head unexpected (is_arrow w) (is_arrow w) (λ t h. h)
      (λ a h. begun {Is = MemberText e a} unexpected (member_of w) name_token (name_token.text, name_token.place) a_member (λ t m g. ending_law 3 (tree.Member e true m.0 m.1 a.place)))

  abbrev BehindName : ExprTree → List Token → ExprTree → Type 0
  BehindName e = Either (Unbarred (nat_lt below 2) (FieldText e)) (IsEmpty e)

  no_arrow : (e : ExprTree) (ts : List Token) (a : ExprTree) (rest : List Token) → IsEmpty e ts a → at_next (continues w) rest ≡ false → at_next (is_arrow w) (ts ++ rest) ≡ false
  no_arrow e ts a rest is off = ap (λ z. at_next (is_arrow w) (z ++ rest)) is.none ∙ go rest off
    where
      go : (rest : List Token) → at_next (continues w) rest ≡ false → at_next (is_arrow w) rest ≡ false
      go [] h = refl
      go (t ∷ rest) h = by_test (is_arrow w t) refl
        where
          by_test : (b : Bool) → is_arrow w t ≡ b → b ≡ false
          by_test true k = sym (arrow_continues w t k) ∙ h
          by_test false k = refl

  abbrev ParameterText : List Token → ExprTree → Type 0
  ParameterText = Begun (given (is_place_name w) (named w)) BehindName

  a_name : (t : Token) → is_place_name w t ≡ true → (e : ExprTree) × (named w t ≡ Some e)
  a_name t h = let n : (n : Name) × (place_name w t ≡ Some n) = place_named w t h in (tree.Identifier n.0 t.place, named_by w t n.0 n.1)

  parameter_head : OnHead (is_place_name w) ParameterText (λ _. continues w) (parameter w below)
  unfolding parameter
  parameter_head =
      begun_head {Is = BehindName} unexpected (is_place_name w) (named w) a_name
      (λ t e h g. choice_of (guarded (nat_lt below 2) too_deep (λ room. field_head e)) (ending_law 1 e) (no_arrow e))

  abbrev PointedText : Token → List Token → ExprTree → Type 0
  PointedText s = Begun (given (is_place_name w) (named w)) (λ e. IsEmpty (tree.Unary unary.Deref e s.place))

  abbrev TargetText : List Token → ExprTree → Type 0
  TargetText = Opened (is_star w) PointedText

  -- a token that gives something and passes
  gives : (t : Token) (n : Name) → place_name w t ≡ Some n → given (is_place_name w) (named w) t ≡ Some (tree.Identifier n t.place)
  gives t n h = given_at (is_place_name w) (named w) t (ap is_some h) ∙ named_by w t n h

  pointed_text : (s : Token) → PointedText s (name_token ∷ []) (tree.Unary unary.Deref (tree.Identifier name_token.text name_token.place) s.place)
  pointed_text s = record {
    opening = name_token;
    value = tree.Identifier name_token.text name_token.place;
    rest = [];
    split = refl;
    gives_it = gives name_token name_token.text (place_token_is w);
    is = record { none = refl; same = refl };
  }

  target_head : OnHead (is_star w) TargetText (λ _. continues w) (target w below)
  unfolding target
  target_head =
      opened_head unexpected (is_star w) (is_star w) (λ t h. h) (λ s h.
      only_else (choose (begins_expr (inside w)) (refuse (bad_kind 1)) (refuse unexpected))
      (begun_head {Is = λ e. IsEmpty (tree.Unary unary.Deref e s.place)} unexpected (is_place_name w) (named w) a_name (λ t e h g. ending_law 2 (tree.Unary unary.Deref e s.place)))
      (λ ts. both_refuse (begins_expr (inside w)) (refuse (bad_kind 1)) (refuse unexpected) ts (one_refuses (bad_kind 1) ts) (one_refuses unexpected ts))
      (name_token ∷ []) (tree.Unary unary.Deref (tree.Identifier name_token.text name_token.place) s.place) (pointed_text s))

  abbrev LocationText : List Token → ExprTree → Type 0
  LocationText = Either ResultText (Either ParameterText (Either (Unbarred (nat_lt below 2) TargetText) Nowhere))

  -- ---- the alternatives lie apart

  result_apart : (ts : List Token) (e : ExprTree) (rest : List Token) → Either ParameterText (Either (Unbarred (nat_lt below 2) TargetText) Nowhere) ts e → at_next (continues w) rest ≡ false
      → at_next (is_return w) (ts ++ rest) ≡ false
  result_apart ts e rest (inl b) off =
      ap (λ z. at_next (is_return w) (z ++ rest)) b.split ∙ name_not_return w b.opening (given_by (is_place_name w) (named w) b.opening b.value b.gives_it).0
  result_apart ts e rest (inr (inl u)) off = ap (λ z. at_next (is_return w) (z ++ rest)) u.is.split ∙ star_not_return w u.is.opening u.is.passes
  result_apart ts e rest (inr (inr none)) off = absurd none

  parameter_apart : (ts : List Token) (e : ExprTree) (rest : List Token) → Either (Unbarred (nat_lt below 2) TargetText) Nowhere ts e → at_next (continues w) rest ≡ false
      → at_next (is_place_name w) (ts ++ rest) ≡ false
  parameter_apart ts e rest (inl u) off = ap (λ z. at_next (is_place_name w) (z ++ rest)) u.is.split ∙ star_not_name w u.is.opening u.is.passes
  parameter_apart ts e rest (inr none) off = absurd none

  return_text : LocationText (return_token ∷ []) (tree.Identifier return_token.text return_token.place)
  return_text = inl (record { opening = return_token; rest = []; split = refl; passes = return_token_is w; is = record { none = refl; same = refl } })

  -- ---- in the grammar's words

  -- the name that a token gives
  record IsNamed (t : Token) (e : ExprTree) : Type 0 where
    name : Name
    is : place_name w t ≡ Some name
    same : e ≡ tree.Identifier name t.place

  is_named : (t : Token) (e : ExprTree) → given (is_place_name w) (named w) t ≡ Some e → IsNamed t e
  is_named t e h =
      let g : (is_place_name w t ≡ true) × (named w t ≡ Some e) = given_by (is_place_name w) (named w) t e h in
      let n : (n : Name) × (place_name w t ≡ Some n) = place_named w t g.0 in
      let both : Some e ≡ Some (tree.Identifier n.0 t.place) = sym g.1 ∙ named_by w t n.0 n.1 in
      record { name = n.0; is = n.1; same = cc both }

  is_member : (t : Token) (m : Name × Place) → member_of w t ≡ Some m → (name_of w t ≡ Some m.0) × (m.1 ≡ t.place)
  is_member t m h = go (name_of w t) refl h
    where
      go : (o : Option Name) → name_of w t ≡ o → option_map_or {U = Option (Name × Place)} (λ n. Some (n, t.place)) o None ≡ Some m → (name_of w t ≡ Some m.0) × (m.1 ≡ t.place)
      go None e h = absurd (cc h)
      go (Some n) e h =
          let same : (n, t.place) ≡ m = cc h in
          (e ∙ ap (λ z. Some z.0) same, sym (ap (λ z. z.1) same))

  room_for_two : nat_lt below 2 ≡ false → 2 ≤ below
  room_for_two h = ltb-false below 2 h

  location_to : (ts : List Token) (e : ExprTree) → LocationText ts e → FitsLocation w below ts e
  location_to ts e (inl o) = subst₂ (FitsLocation w below) (sym (o.split ∙ ap (λ z. o.opening ∷ z) o.is.none)) (sym o.is.same) (is_result o.opening o.passes, some)
  location_to ts e (inr (inl b)) = behind (is_named b.opening b.value b.gives_it) b.is
    where
      behind : IsNamed b.opening b.value → BehindName b.value b.rest e → FitsLocation w below ts e
      behind n (inr empty) =
          subst₂ (FitsLocation w below) (sym (b.split ∙ ap (λ z. b.opening ∷ z) empty.none)) (sym (empty.same ∙ n.same)) (is_parameter b.opening n.name n.is, some)
      behind n (inl u) =
          let f = u.is.is in
          let m : (name_of w f.opening ≡ Some f.value.0) × (f.value.1 ≡ f.opening.place) = is_member f.opening f.value f.gives_it in
          let a = u.is.opening in
          subst₂ (FitsLocation w below) (sym (b.split ∙ ap (λ z. b.opening ∷ z) (u.is.split ∙ ap (λ z. a ∷ z) (f.split ∙ ap (λ z. f.opening ∷ z) f.is.none))))
          (sym (f.is.same ∙ ap (λ z. tree.Member z true f.value.0 f.value.1 a.place) n.same ∙ ap (λ z. tree.Member (tree.Identifier n.name b.opening.place) true f.value.0 z a.place) m.1))
          (is_field b.opening a f.opening n.name f.value.0 n.is u.is.passes m.0, room_for_two u.open_way)
  location_to ts e (inr (inr (inl u))) =
      let o = u.is in
      let b = o.is in
      let n : IsNamed b.opening b.value = is_named b.opening b.value b.gives_it in
      subst₂ (FitsLocation w below) (sym (o.split ∙ ap (λ z. o.opening ∷ z) (b.split ∙ ap (λ z. b.opening ∷ z) b.is.none))) (sym (b.is.same ∙ ap (λ z. tree.Unary unary.Deref z o.opening.place) n.same))
      (is_target o.opening b.opening n.name o.passes n.is, room_for_two u.open_way)
  location_to ts e (inr (inr (inr none))) = absurd none

  location_from : (ts : List Token) (e : ExprTree) → IsLocation w ts e → depth_of_expr e ≤ below → LocationText ts e
  location_from _ _ (is_result t h) le = inl (record { opening = t; rest = []; split = refl; passes = h; is = record { none = refl; same = refl } })
  location_from _ _ (is_parameter t n h) le =
      inr (inl (record { opening = t; value = tree.Identifier n t.place; rest = []; split = refl; gives_it = gives t n h; is = inr (record { none = refl; same = refl }) }))
  location_from _ _ (is_target s t n star h) le =
      inr (inr (inl (record {
        open_way = le-ltb below 2 le;
        is = record {
          opening = s;
          rest = t ∷ [];
          split = refl;
          passes = star;
          is = record { opening = t; value = tree.Identifier n t.place; rest = []; split = refl; gives_it = gives t n h; is = record { none = refl; same = refl } };
        };
      })))
  location_from _ _ (is_field t a f n m h arrow named_) le =
      inr (inl (record {
        opening = t;
        value = tree.Identifier n t.place;
        rest = a ∷ (f ∷ []);
        split = refl;
        gives_it = gives t n h;
        is = inl (record {
          open_way = le-ltb below 2 le;
          is = record {
            opening = a;
            rest = f ∷ [];
            split = refl;
            passes = arrow;
            is = record { opening = f; value = (m, f.place); rest = []; split = refl; gives_it = ap (λ o. option_map_or (λ n. Some (n, f.place)) o None) named_; is = record { none = refl; same = refl } };
          };
        });
      }))

  pub location_law : Lawful (FitsLocation w below) (λ _. continues w) (location w below)
  unfolding location
  location_law =
      via (with_text (choosing result_head (choosing parameter_head (choosing (guarded (nat_lt below 2) too_deep (λ room. target_head)) (refusing (λ _. continues w) (wrong w) (wrong_refuses w)) (λ ts e rest none off. absurd none)) parameter_apart) result_apart)
      (return_token ∷ []) (tree.Identifier return_token.text return_token.place) return_text) location_to (λ ts e f. location_from ts e f.0 f.1) (location w below) (λ ts. refl)

  -- ---- the word `Mem`

  -- the word as an argument
  pub record IsMemory (ts : List Token) (a : ArgTree) : Type 0 where
    pub token : Token
    pub alone : ts ≡ token ∷ []
    pub is : is_mem w token ≡ true
    pub same : a ≡ ExprArg (tree.Identifier token.text token.place)

  abbrev MemoryText : List Token → ArgTree → Type 0
  MemoryText = Opened (is_mem w) (λ t. Mapped ExprArg (IsEmpty (tree.Identifier t.text t.place)))

  memory_head : OnHead (is_mem w) MemoryText (λ _. continues w) (token unexpected (is_mem w) >>= (λ t. ending w 1 (tree.Identifier t.text t.place) >>= (λ e. pure (ExprArg e))))
  memory_head = opened_head unexpected (is_mem w) (is_mem w) (λ t h. h) (λ t h. map_of (ending_law 1 (tree.Identifier t.text t.place)) ExprArg (λ _. continues w) (λ e u. refl))

  memory_to : (ts : List Token) (a : ArgTree) → MemoryText ts a → IsMemory ts a
  memory_to ts a o = record { token = o.opening; alone = o.split ∙ ap (λ z. o.opening ∷ z) o.is.is.none; is = o.passes; same = o.is.same ∙ ap ExprArg o.is.is.same }

  memory_from : (ts : List Token) (a : ArgTree) → IsMemory ts a → MemoryText ts a
  memory_from ts a m = record { opening = m.token; rest = []; split = m.alone; passes = m.is; is = record { value = tree.Identifier m.token.text m.token.place; is = record { none = refl; same = refl }; same = m.same } }

  pub memory_law : (s : Token) → is_mem w s ≡ true → Lawful IsMemory (λ _. continues w) (memory w below)
  unfolding memory
  memory_law s h =
      let text : IsMemory (s ∷ []) (ExprArg (tree.Identifier s.text s.place)) = record { token = s; alone = refl; is = h; same = refl } in
      via (only_else (wrong w) memory_head (wrong_refuses w) (s ∷ []) (ExprArg (tree.Identifier s.text s.place)) (memory_from (s ∷ []) (ExprArg (tree.Identifier s.text s.place)) text)) memory_to memory_from (memory w below) (λ ts. refl)
