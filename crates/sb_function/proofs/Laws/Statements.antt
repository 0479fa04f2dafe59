-- The readers of statements keep the laws: they read by the grammar's relation, cut to a depth.
use Rattle.std.proofs.Common.{◌≡◌, ◌≤◌, ℕ, zero, suc, Bool, true, false, ◌||◌, List, [], ◌∷◌, ◌++◌, Option, Some, None, slice_get, is_some, nat_eq, refl, sym, ap, ◌∙◌, subst, subst₂, append_assoc, append-nil, inl, inr, arith}
use Rattle.sb_base.specs.declared.refusals.Place.{Place}
use Rattle.sb_parse.specs.Parser.{never, choose, guard}
use Rattle.sb_parse.specs.Lawful.{Lawful, OnHead, Joined, Begun, IsEmpty, Mapped, Closed, Unbarred, Either, Turns, over, turn}
use Rattle.sb_parse.proofs.Joining.{via, nothing, map_of}
use Rattle.sb_parse.proofs.Heads.{begun, begun_heads, headed, head_map_of, at_head, guarded, barred, closed, either_of, only_of}
use Rattle.sb_parse.proofs.Looping.{looping}
use Rattle.sb_function.specs.declared.lexeme.Lexeme.{Lexeme}
use Rattle.sb_function.specs.declared.lexeme.Lexeme.TheVariants as sign
use Rattle.sb_function.specs.declared.lexeme.Piece.{Piece}
use Rattle.sb_function.specs.declared.syntax.Comparison.{Comparison}
use Rattle.sb_function.specs.declared.syntax.Comparison.TheVariants as comparison
use Rattle.sb_function.specs.declared.syntax.Param.{Param}
use Rattle.sb_function.specs.declared.syntax.ParamKind.TheVariants.{Int, OutWrites}
use Rattle.sb_function.specs.declared.syntax.Simple.{Simple}
use Rattle.sb_function.specs.declared.syntax.Simple.TheVariants as simple
use Rattle.sb_function.specs.Syntax.{Plain, Skip, Then, Store, Choose}
use Rattle.sb_function.specs.Grammar.{◌at◌, AreDistinct, names_of, type_of, agree, IsSimple, IsComparison, IsStatement, AreStatements, is_block, is_store, is_if, none, next, depth_of}
use Rattle.sb_function.specs.Marks.{Reader, misplaced, order_of, is_mark, mark}
use Rattle.sb_function.specs.Params.{is_zero}
use Rattle.sb_function.specs.Statements.{simple_at, array_at, comparison_at, right_at, value_at, store, conditional, begins_store, begins_statement, in_order as in_a_row, statement_more, statements, block_rest, braced, statement}
use Rattle.sb_function.proofs.Laws.Pieces.{nowhere, is_itself, mark_is, mark_elsewhere, Marked, marked, marked_at, marked_heads}
use Rattle.sb_function.proofs.Laws.Values.{simple_is, is_simple, array_is, is_array, comparison_is, is_comparison, right_is, is_right, value_is, is_value, zero_is_simple, zero_is_right, zero_is_value, less_is_comparison}

-- nothing that these readers read goes on by itself
abbrev still : {A : Type 0} → A → Piece → Bool
still a = never

abbrev zero_at : Piece
zero_at = sign.Number 0 at nowhere

module _ (params : List Param) where
  -- ---- a store, from the name on

  abbrev StoreText : List Piece → Plain → Type 0
  StoreText =
      Begun (λ t. array_at params t.lexeme) (λ array. Marked sign.OpenBracket (λ bracket. Begun (λ t. simple_at params t.lexeme) (λ index.
      Marked sign.CloseBracket (λ p. Marked sign.Assign (λ q. Begun (λ t. value_at params t.lexeme) (λ value. Marked sign.Semicolon (λ r. IsEmpty (Store array index value bracket))))))))

  store_text : (t : Piece) (k : ℕ) → array_at params t.lexeme ≡ Some k → Lawful StoreText (λ a. never) (store params)
  unfolding store
  store_text t k there =
      begun misplaced (λ t. array_at params t.lexeme) t k there (λ s array is. marked_at sign.OpenBracket refl (λ bracket.
      begun misplaced (λ t. simple_at params t.lexeme) zero_at (simple.Number 0) (zero_is_simple params) (λ i index ok. marked sign.CloseBracket refl (marked sign.Assign refl (
      begun misplaced (λ t. value_at params t.lexeme) zero_at (simple.Number 0) (zero_is_value params) (λ v value fits. marked sign.Semicolon refl (nothing (Store array index value bracket))))))))

  to_store : (ts : List Piece) (a : Plain) → StoreText ts a → IsStatement params ts a
  to_store ts a h =
      let bracket : Marked _ _ h.rest a = h.is in
      let index : Begun _ _ bracket.rest a = bracket.is in
      let close : Marked _ _ index.rest a = index.is in
      let assign : Marked _ _ close.rest a = close.is in
      let value : Begun _ _ assign.rest a = assign.is in
      let semicolon : Marked _ _ value.rest a = value.is in
      let tree : a ≡ Store h.value index.value value.value bracket.place = semicolon.is.same in
      let p : (x : Param) × (size : ℕ) × (h.opening ≡ (sign.Named x.name at h.opening.place)) × (slice_get params h.value ≡ Some x) × (x.kind ≡ OutWrites size) = array_is params h.opening h.value h.gives_it in
      let v : (simple_at params value.opening.lexeme ≡ Some value.value) × (agree (type_of params value.value) (Some Int) ≡ true) = value_is params value.opening.lexeme value.value value.gives_it in
      let text : ts ≡ sign.Named p.0.name at h.opening.place ∷ sign.OpenBracket at bracket.place ∷ ((index.opening ∷ []) ++ (sign.CloseBracket at close.place ∷ sign.Assign at assign.place ∷ ((value.opening ∷ []) ++ (sign.Semicolon at semicolon.place ∷ []))))
      = cc (h.split, p.2, bracket.split, index.split, close.split, assign.split, value.split, semicolon.split, semicolon.is.none) in
      subst₂ (IsStatement params) (sym text) (sym tree)
      (is_store h.value p.0 p.1 (index.opening ∷ []) (value.opening ∷ []) index.value value.value h.opening.place bracket.place close.place assign.place semicolon.place p.3 p.4
      (simple_is params index.opening index.value index.gives_it) (simple_is params value.opening value.value v.0) v.1)

  from_store : AreDistinct (names_of params) → (k : ℕ) (x : Param) (size : ℕ) (xs ys : List Piece) (index value : Simple) (p q r s t : Place) → slice_get params k ≡ Some x → x.kind ≡ OutWrites size
      → IsSimple params xs index → IsSimple params ys value → agree (type_of params value) (Some Int) ≡ true
      → StoreText (sign.Named x.name at p ∷ sign.OpenBracket at q ∷ (xs ++ (sign.CloseBracket at r ∷ sign.Assign at s ∷ (ys ++ (sign.Semicolon at t ∷ []))))) (Store k index value q)
  from_store d k x size xs ys index value p q r s t there points is_index is_it fits =
      let i : (w : Piece) × (xs ≡ w ∷ []) × (simple_at params w.lexeme ≡ Some index) = is_simple params d xs index is_index in
      let v : (w : Piece) × (ys ≡ w ∷ []) × (simple_at params w.lexeme ≡ Some value) = is_simple params d ys value is_it in
      record {
        opening = sign.Named x.name at p;
        value = k;
        rest = sign.OpenBracket at q ∷ (xs ++ (sign.CloseBracket at r ∷ sign.Assign at s ∷ (ys ++ (sign.Semicolon at t ∷ []))));
        split = refl;
        gives_it = is_array params d k x size there points;
        is = record {
          place = q;
          rest = xs ++ (sign.CloseBracket at r ∷ sign.Assign at s ∷ (ys ++ (sign.Semicolon at t ∷ [])));
          split = refl;
          is = record {
            opening = i.0;
            value = index;
            rest = sign.CloseBracket at r ∷ sign.Assign at s ∷ (ys ++ (sign.Semicolon at t ∷ []));
            split = ap (λ z. z ++ (sign.CloseBracket at r ∷ sign.Assign at s ∷ (ys ++ (sign.Semicolon at t ∷ [])))) i.1;
            gives_it = i.2;
            is = record {
              place = r;
              rest = sign.Assign at s ∷ (ys ++ (sign.Semicolon at t ∷ []));
              split = refl;
              is = record {
                place = s;
                rest = ys ++ (sign.Semicolon at t ∷ []);
                split = refl;
                is = record {
                  opening = v.0;
                  value = value;
                  rest = sign.Semicolon at t ∷ [];
                  split = ap (λ z. z ++ (sign.Semicolon at t ∷ [])) v.1;
                  gives_it = is_value params v.0.lexeme value v.2 fits;
                  is = record { place = t; rest = []; split = refl; is = record { none = refl; same = refl } };
                };
              };
            };
          };
        };
      }

  -- ---- statements nested at most so deep

  abbrev Fits : ℕ → List Piece → Plain → Type 0
  Fits left ts a = IsStatement params ts a × (depth_of a ≤ left)

  abbrev ManyFit : ℕ → List Piece → Plain → Type 0
  ManyFit left ts a = AreStatements params ts a × (depth_of a ≤ suc left)

  -- ---- a condition, from `if` on

  abbrev ConditionalText : ℕ → List Piece → Plain → Type 0
  ConditionalText left =
      Marked sign.If (λ p. Marked sign.OpenParenthesis (λ q. Begun (λ t. simple_at params t.lexeme) (λ l. Begun (λ t. comparison_at t.lexeme) (λ op.
      Begun (λ t. right_at params l t.lexeme) (λ r. Marked sign.CloseParenthesis (λ s. Mapped (Choose l op r) (Fits left)))))))

  conditional_text : (left : ℕ) (part : Reader Plain) → Lawful (Fits left) still part → Lawful (ConditionalText left) still (conditional params part)
  unfolding conditional
  conditional_text left part P =
      marked sign.If refl (marked sign.OpenParenthesis refl (
      begun misplaced (λ t. simple_at params t.lexeme) zero_at (simple.Number 0) (zero_is_simple params) (λ x l ok.
      begun misplaced (λ t. comparison_at t.lexeme) (sign.Less at nowhere) comparison.Less less_is_comparison (λ y op right.
      begun misplaced (λ t. right_at params l t.lexeme) zero_at (simple.Number 0) (zero_is_right params l) (λ z r good.
      marked sign.CloseParenthesis refl (map_of P (Choose l op r) still (λ a t. refl)))))))

  to_conditional : (left : ℕ) (ts : List Piece) (a : Plain) → ConditionalText left ts a → Fits (suc left) ts a
  to_conditional left ts a h =
      let parenthesis : Marked _ _ h.rest a = h.is in
      let l : Begun _ _ parenthesis.rest a = parenthesis.is in
      let op : Begun _ _ l.rest a = l.is in
      let r : Begun _ _ op.rest a = op.is in
      let close : Marked _ _ r.rest a = r.is in
      let body : Mapped _ _ close.rest a = close.is in
      let v : (simple_at params r.opening.lexeme ≡ Some r.value) × (agree (type_of params l.value) (type_of params r.value) ≡ true) = right_is params l.value r.opening.lexeme r.value r.gives_it in
      let text : ts ≡ sign.If at h.place ∷ sign.OpenParenthesis at parenthesis.place ∷ ((l.opening ∷ []) ++ (op.opening.lexeme at op.opening.place ∷ ((r.opening ∷ []) ++ (sign.CloseParenthesis at close.place ∷ close.rest))))
      = cc (h.split, parenthesis.split, l.split, op.split, r.split, close.split) in (
        subst₂ (IsStatement params) (sym text) (sym body.same)
            (is_if op.opening.lexeme op.value (l.opening ∷ []) (r.opening ∷ []) close.rest l.value r.value body.value h.place parenthesis.place op.opening.place close.place
            (simple_is params l.opening l.value l.gives_it) (comparison_is op.opening.lexeme op.value op.gives_it) (simple_is params r.opening r.value v.0) v.1 body.is.0),
        subst (λ z. depth_of z ≤ suc left) (sym body.same) (let below : depth_of body.value ≤ left = body.is.1 in omega arith),
      )

  from_conditional : AreDistinct (names_of params) → (left : ℕ) (l : Lexeme) (op : Comparison) (xs ys zs : List Piece) (x y : Simple) (body : Plain) (p q r s : Place) → IsSimple params xs x → IsComparison l op → IsSimple params ys y
      → agree (type_of params x) (type_of params y) ≡ true → IsStatement params zs body → depth_of body ≤ left
      → ConditionalText left (sign.If at p ∷ sign.OpenParenthesis at q ∷ (xs ++ (l at r ∷ (ys ++ (sign.CloseParenthesis at s ∷ zs))))) (Choose x op y body)
  from_conditional d left l op xs ys zs x y body p q r s is_x is_op is_y one_type is_body deep =
      let i : (w : Piece) × (xs ≡ w ∷ []) × (simple_at params w.lexeme ≡ Some x) = is_simple params d xs x is_x in
      let v : (w : Piece) × (ys ≡ w ∷ []) × (simple_at params w.lexeme ≡ Some y) = is_simple params d ys y is_y in
      record {
        place = p;
        rest = sign.OpenParenthesis at q ∷ (xs ++ (l at r ∷ (ys ++ (sign.CloseParenthesis at s ∷ zs))));
        split = refl;
        is = record {
          place = q;
          rest = xs ++ (l at r ∷ (ys ++ (sign.CloseParenthesis at s ∷ zs)));
          split = refl;
          is = record {
            opening = i.0;
            value = x;
            rest = l at r ∷ (ys ++ (sign.CloseParenthesis at s ∷ zs));
            split = ap (λ z. z ++ (l at r ∷ (ys ++ (sign.CloseParenthesis at s ∷ zs)))) i.1;
            gives_it = i.2;
            is = record {
              opening = l at r;
              value = op;
              rest = ys ++ (sign.CloseParenthesis at s ∷ zs);
              split = refl;
              gives_it = is_comparison l op is_op;
              is = record {
                opening = v.0;
                value = y;
                rest = sign.CloseParenthesis at s ∷ zs;
                split = ap (λ z. z ++ (sign.CloseParenthesis at s ∷ zs)) v.1;
                gives_it = is_right params x v.0.lexeme y v.2 one_type;
                is = record { place = s; rest = zs; split = refl; is = record { value = body; is = (is_body, deep); same = refl } };
              };
            };
          };
        };
      }

  -- ---- the statements of a block

  abbrev Turn : ℕ → List Plain → List Piece → List Plain → Type 0
  Turn left list = Mapped (λ s. list ++ (s ∷ [])) (Fits left)

  -- what turns add to a list
  turns_add : (left : ℕ) (list out : List Plain) (ts : List Piece) → Turns (Turn left) list ts out → (added : List Plain) × (out ≡ list ++ added) × ManyFit left ts (in_a_row added)
  turns_add left list out ts (over a) = ([], sym (append-nil a), (none, omega arith))
  turns_add left list out ts (turn a b c xs ys is k) =
      let later : (added : List Plain) × (c ≡ b ++ added) × ManyFit left ys (in_a_row added) = turns_add left b c ys k in
      let below : depth_of is.value ≤ left = is.is.1 in
      let deep : depth_of (in_a_row later.0) ≤ suc left = later.2.1 in
      (is.value ∷ later.0, later.1 ∙ ap (λ z. z ++ later.0) is.same ∙ append_assoc a (is.value ∷ []) later.0, (next xs ys is.value (in_a_row later.0) is.is.0 later.2.0, omega arith))

  adds_turns : (left : ℕ) (ts : List Piece) (a : Plain) → AreStatements params ts a → depth_of a ≤ suc left
      → (added : List Plain) × (a ≡ in_a_row added) × ((list : List Plain) → Turns (Turn left) list ts (list ++ added))
  adds_turns left _ _ none deep = ([], refl, λ list. subst (Turns (Turn left) list []) (sym (append-nil list)) (over list))
  adds_turns left _ _ (next xs ys a rest is are) deep =
      let first : depth_of a ≤ left = omega arith in
      let others : depth_of rest ≤ suc left = omega arith in
      let later : (added : List Plain) × (rest ≡ in_a_row added) × ((list : List Plain) → Turns (Turn left) list ys (list ++ added)) = adds_turns left ys rest are others in (
        a ∷ later.0,
        ap (Then a) later.1,
        λ list. subst (Turns (Turn left) list (xs ++ ys)) (append_assoc list (a ∷ []) later.0)
            (turn list (list ++ (a ∷ [])) ((list ++ (a ∷ [])) ++ later.0) xs ys (record { value = a; is = (is, first); same = refl }) (later.2 (list ++ (a ∷ [])))),
      )

  abbrev goes_on : Plain → Piece → Bool
  goes_on a t = begins_statement params t || never t

  many_law : (left : ℕ) (part : Reader Plain) → OnHead (begins_statement params) (Fits left) still part → Lawful (ManyFit left) goes_on (statements params part)
  unfolding statements statement_more
  many_law left part P =
      via (map_of (looping {Turn = Turn left} {more = still} {op = statement_more params part} (λ list. head_map_of P (λ s. list ++ (s ∷ [])) still (λ a t. refl)) (λ a t h. refl) (nothing [])) (in_a_row) goes_on (λ a t. refl))
      to from (statements params part) (λ ts. refl)
    where
      to : (ts : List Piece) (a : Plain) → Mapped (in_a_row) (Joined (IsEmpty []) (Turns (Turn left))) ts a → ManyFit left ts a
      to ts a m =
          let j : Joined (IsEmpty []) (Turns (Turn left)) ts m.value = m.is in
          let added : (added : List Plain) × (m.value ≡ j.value ++ added) × ManyFit left j.after (in_a_row added) = turns_add left j.value m.value j.after j.second in
          let list : m.value ≡ added.0 = added.1 ∙ ap (λ z. z ++ added.0) j.first.same in
          let text : ts ≡ j.after = j.split ∙ ap (λ z. z ++ j.after) j.first.none in
          subst₂ (ManyFit left) (sym text) (sym (m.same ∙ ap (in_a_row) list)) added.2

      from : (ts : List Piece) (a : Plain) → ManyFit left ts a → Mapped (in_a_row) (Joined (IsEmpty []) (Turns (Turn left))) ts a
      from ts a f =
          let added : (added : List Plain) × (a ≡ in_a_row added) × ((list : List Plain) → Turns (Turn left) list ts (list ++ added)) = adds_turns left ts a f.0 f.1 in
          record { value = added.0; is = record { before = []; after = ts; value = []; split = refl; first = record { none = refl; same = refl }; second = added.2 [] }; same = added.1 }

  -- ---- a block, from after its brace on

  abbrev pub RestText : ℕ → List Piece → Plain → Type 0
  RestText left = Closed (is_mark sign.CloseBrace) (ManyFit left)

  not_begun : (t : Piece) → is_mark sign.CloseBrace t ≡ true → (begins_statement params t || never t) ≡ false
  unfolding array_at is_mark
  not_begun t h = ap (λ z. begins_statement params z || never t) (mark_is sign.CloseBrace t refl h)

  pub rest_law : (left : ℕ) (part : Reader Plain) → OnHead (begins_statement params) (Fits left) still part → Lawful (RestText left) still (block_rest params part)
  unfolding block_rest
  rest_law left part P = closed misplaced (is_mark sign.CloseBrace) (sign.CloseBrace at nowhere) (is_itself sign.CloseBrace nowhere) (many_law left part P) (λ a t h. not_begun t h)

  -- ---- all statements

  store_elsewhere : (l : Lexeme) (t : Piece) → nat_eq (order_of l) 5 ≡ false → begins_store params t ≡ true → is_mark l t ≡ false
  unfolding is_mark
  store_elsewhere l t k h = go (array_at params t.lexeme) refl h
    where
      go : (o : Option ℕ) → array_at params t.lexeme ≡ o → is_some o ≡ true → is_mark l t ≡ false
      go None e w = absurd (cc w)
      go (Some j) e w =
          let there : (x : Param) × (size : ℕ) × (t ≡ (sign.Named x.name at t.place)) × (slice_get params j ≡ Some x) × (x.kind ≡ OutWrites size) = array_is params t j e in
          ap (is_mark l) there.2 ∙ k

  abbrev Choices : ℕ → List Piece → Plain → Type 0
  Choices left = Either (Marked sign.OpenBrace (λ p. RestText left)) (Either (Unbarred (is_zero left) (ConditionalText left)) StoreText)

  abbrev chosen_by : ℕ → Reader Plain → Reader Plain
  chosen_by left part = choose (is_mark sign.OpenBrace) (mark sign.OpenBrace (block_rest params part)) (choose (is_mark sign.If) (guard (is_zero left) misplaced (conditional params part)) (store params))

  choices : (left : ℕ) (part : Reader Plain) → OnHead (begins_statement params) (Fits left) still part → (is_zero left ≡ false → Lawful (Fits left) still part)
      → OnHead (begins_statement params) (Choices left) still (chosen_by left part)
  choices left part P L =
      either_of (headed (marked sign.OpenBrace refl (rest_law left part P)) (is_mark sign.OpenBrace) (marked_heads sign.OpenBrace))
      (either_of (guarded (is_zero left) misplaced (λ w. headed (conditional_text left part (L w)) (is_mark sign.If) (marked_heads sign.If)))
      (at_head (begins_store params) (λ t h. stored t (array_at params t.lexeme) refl h) begun_heads)
      (λ t h. store_elsewhere sign.If t refl h))
      apart
    where
      stored : (t : Piece) (o : Option ℕ) → array_at params t.lexeme ≡ o → is_some o ≡ true → Lawful StoreText still (store params)
      stored t None e h = absurd (cc h)
      stored t (Some k) e h = store_text t k e

      apart : (t : Piece) → (is_mark sign.If t || begins_store params t) ≡ true → is_mark sign.OpenBrace t ≡ false
      apart t h = go (is_mark sign.If t) refl h
        where
          go : (b : Bool) → is_mark sign.If t ≡ b → (b || begins_store params t) ≡ true → is_mark sign.OpenBrace t ≡ false
          go true e w = mark_elsewhere sign.OpenBrace sign.If t refl e
          go false e w = store_elsewhere sign.OpenBrace t refl w

  to_block : (left : ℕ) (ts : List Piece) (a : Plain) → Marked sign.OpenBrace (λ p. RestText left) ts a → Fits (suc left) ts a
  to_block left ts a h =
      let c : RestText left h.rest a = h.is in
      let text : ts ≡ sign.OpenBrace at h.place ∷ (c.front ++ (sign.CloseBrace at c.closing.place ∷ [])) =
      h.split ∙ ap (λ z. sign.OpenBrace at h.place ∷ z) (c.split ∙ ap (λ z. c.front ++ (z ∷ [])) (mark_is sign.CloseBrace c.closing refl c.passes)) in
      (subst (λ z. IsStatement params z a) (sym text) (is_block c.front a h.place c.closing.place c.is.0), c.is.1)

  to_choice : (left : ℕ) (ts : List Piece) (a : Plain) → Choices left ts a → Fits (suc left) ts a
  to_choice left ts a (inl h) = to_block left ts a h
  to_choice left ts a (inr (inl h)) = to_conditional left ts a h.is
  to_choice left ts a (inr (inr h)) = (to_store ts a h, subst (λ z. depth_of z ≤ suc left) (sym h.is.is.is.is.is.is.is.same) (omega arith))

  some_depth : (a : Plain) → 1 ≤ depth_of a
  some_depth Skip = omega arith
  some_depth (Then a rest) = let deep : 1 ≤ depth_of a = some_depth a in omega arith
  some_depth (Store array index value place) = omega arith
  some_depth (Choose l op r body) = omega arith

  some_room : (left : ℕ) (a : Plain) → depth_of a ≤ left → is_zero left ≡ false
  some_room zero a deep = absurd (let some : 1 ≤ depth_of a = some_depth a in omega arith)
  some_room (suc left) a deep = refl

  from_choice : AreDistinct (names_of params) → (left : ℕ) (ts : List Piece) (a : Plain) → IsStatement params ts a → depth_of a ≤ suc left → Choices left ts a
  from_choice d left _ _ (is_block xs list p q are) deep =
      inl (record { place = p; rest = xs ++ (sign.CloseBrace at q ∷ []); split = refl; is = record { front = xs; closing = sign.CloseBrace at q; split = refl; is = (are, deep); passes = is_itself sign.CloseBrace q } })
  from_choice d left _ _ (is_store k x size xs ys index value p q r s t there points is_index is_it fits) deep = inr (inr (from_store d k x size xs ys index value p q r s t there points is_index is_it fits))
  from_choice d left _ _ (is_if l op xs ys zs x y body p q r s is_x is_op is_y one_type is_body) deep =
      let below : depth_of body ≤ left = omega arith in
      inr (inl (record { open_way = some_room left body below; is = from_conditional d left l op xs ys zs x y body p q r s is_x is_op is_y one_type is_body below }))

  module _ (d : AreDistinct (names_of params)) where
    an_empty_block : (left : ℕ) → Choices left (sign.OpenBrace at nowhere ∷ sign.CloseBrace at nowhere ∷ []) Skip
    an_empty_block left = from_choice d left (sign.OpenBrace at nowhere ∷ sign.CloseBrace at nowhere ∷ []) Skip (is_block [] Skip nowhere nowhere none) (omega arith)

    one_deeper : (left : ℕ) → OnHead (begins_statement params) (Fits left) still (statement params left) → (is_zero left ≡ false → Lawful (Fits left) still (statement params left))
        → Lawful (Fits (suc left)) still (statement params (suc left))
    unfolding statement braced
    one_deeper left P L =
        via (only_of misplaced (choices left (statement params left) P L) (sign.OpenBrace at nowhere ∷ sign.CloseBrace at nowhere ∷ []) Skip (an_empty_block left))
        (to_choice left) (λ ts a f. from_choice d left ts a f.0 f.1) (statement params (suc left)) (λ ts. refl)

    -- at every depth
    at_depth : (left : ℕ) → OnHead (begins_statement params) (Fits left) still (statement params left) × (is_zero left ≡ false → Lawful (Fits left) still (statement params left))
    unfolding statement
    at_depth zero = (barred (begins_statement params) (Fits zero) still misplaced (λ ts a f. absurd (let some : 1 ≤ depth_of a = some_depth a in let none : depth_of a ≤ 0 = f.1 in omega arith)), λ h. absurd (cc h))
    at_depth (suc left) =
        let below : OnHead (begins_statement params) (Fits left) still (statement params left) × (is_zero left ≡ false → Lawful (Fits left) still (statement params left)) = at_depth left in
        let law : Lawful (Fits (suc left)) still (statement params (suc left)) = one_deeper left below.0 below.1 in
        (headed law (begins_statement params) (λ ts a f. (choices left (statement params left) below.0 below.1).heads ts a (from_choice d left ts a f.0 f.1)), λ h. law)

    -- the body of a function, from after its brace on
    pub body_law : (left : ℕ) → Lawful (RestText left) still (block_rest params (statement params left))
    body_law left = rest_law left (statement params left) (at_depth left).0
