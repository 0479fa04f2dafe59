-- The reader of the arguments of a call keeps the laws.
use Rattle.std.proofs.Common.{◌≡◌, ◌≤◌, ℕ, Bool, true, false, ◌||◌, max, List, [], ◌∷◌, ◌++◌, if◌then◌else◌, refl, sym, ap, ◌∙◌, subst, subst₂, append-nil, append_assoc, arith}
use Rattle.std.proofs.Math.Nat.{le-max_left, le-max_right, max-le}
use Rattle.sb_base.specs.declared.refusals.Place.{Place}
use Rattle.sb_base.specs.declared.tokens.Token.{Token}
use Rattle.sb_parse.specs.Parser.{Outcome, Parser, done, stop, at_next, never, and_then, ◌>>=◌, pure, token, looped}
use Rattle.sb_parse.specs.Lawful.{Lawful, OnHead, Joined, IsToken, Opened, Closed, Mapped, Either, Turns, over, turn}
use Rattle.sb_parse.proofs.Joining.{via, one_token, map_of}
use Rattle.sb_parse.proofs.Heads.{opened, opened_heads, at_head, headed, choice_of}
use Rattle.sb_parse.proofs.Looping.{looping}
use Rattle.sb_tree.specs.Plain.{expr_list}
use Rattle.sb_tree.specs.Trees as tree
use Rattle.sb_tree.specs.Trees.{ExprTree, depth_of_expr, depth_of_exprs}
use Rattle.sb_expr.specs.Expression.{Assignment, AreSome, one_argument, more_arguments}
use Rattle.sb_lexicon.specs.Lexicon.{Lexicon}
use Rattle.sb_expr.specs.Readers.{Parts, next_argument, some_arguments, arguments, called}
use Rattle.sb_lexicon.specs.Tokens.{unexpected, is_close, is_comma}
use Rattle.sb_expr.specs.Reads.{FitsExpr}
use Rattle.sb_expr.proofs.tokens.More.{more_assignment, LawfulParts}
use Rattle.sb_parse.proofs.Ways.{closing, turned_once_more}
use Rattle.sb_lexicon.proofs.Lexemes.{close_token, close_token_is}
use Rattle.sb_expr.proofs.tokens.Ends.{comma_ends, close_ends_assignment}
use Rattle.sb_expr.proofs.tokens.Begins.{begins_with_no_close, close_no_comma}

-- ---- how deep lists are

abbrev pub depth_of_list : List ExprTree → ℕ
depth_of_list es = depth_of_exprs (expr_list es)

list_fits : (es : List ExprTree) (e : ExprTree) (n : ℕ) → depth_of_list es ≤ n → depth_of_expr e ≤ n → depth_of_list (es ++ (e ∷ [])) ≤ n
list_fits [] e n h k = max-le k (omega arith)
list_fits (f ∷ es) e n h k =
    let first : depth_of_expr f ≤ max (depth_of_expr f) (depth_of_list es) = le-max_left (depth_of_expr f) (depth_of_list es) in
    let rest : depth_of_list es ≤ max (depth_of_expr f) (depth_of_list es) = le-max_right (depth_of_expr f) (depth_of_list es) in
    max-le (omega arith) (list_fits es e n (omega arith) k)

front_fits : (es : List ExprTree) (e : ExprTree) (n : ℕ) → depth_of_list (es ++ (e ∷ [])) ≤ n → (depth_of_list es ≤ n) × (depth_of_expr e ≤ n)
front_fits [] e n h = let one : depth_of_expr e ≤ max (depth_of_expr e) 0 = le-max_left (depth_of_expr e) 0 in (omega arith, omega arith)
front_fits (f ∷ es) e n h =
    let first : depth_of_expr f ≤ max (depth_of_expr f) (depth_of_list (es ++ (e ∷ []))) = le-max_left (depth_of_expr f) (depth_of_list (es ++ (e ∷ []))) in
    let rest : depth_of_list (es ++ (e ∷ [])) ≤ max (depth_of_expr f) (depth_of_list (es ++ (e ∷ []))) = le-max_right (depth_of_expr f) (depth_of_list (es ++ (e ∷ []))) in
    let both : (depth_of_list es ≤ n) × (depth_of_expr e ≤ n) = front_fits es e n (omega arith) in
    (max-le (omega arith) both.0, both.1)

-- ---- what goes on from a list: what does from its last expression

abbrev more_last : Lexicon → List ExprTree → Token → Bool
more_last w [] t = false
more_last w (e ∷ []) t = more_assignment w e t
more_last w (e ∷ (f ∷ es)) t = more_last w (f ∷ es) t

last_added : (w : Lexicon) (es : List ExprTree) (e : ExprTree) (t : Token) → more_last w (es ++ (e ∷ [])) t ≡ more_assignment w e t
last_added w [] e t = refl
last_added w (f ∷ []) e t = refl
last_added w (f ∷ (g ∷ es)) e t = last_added w (g ∷ es) e t

last_ends : (w : Lexicon) (es : List ExprTree) (t : Token) → ((e : ExprTree) → more_assignment w e t ≡ false) → more_last w es t ≡ false
last_ends w [] t h = refl
last_ends w (e ∷ []) t h = h e
last_ends w (e ∷ (f ∷ es)) t h = last_ends w (f ∷ es) t h

some_begin : (w : Lexicon) (xs : List Token) (es : List ExprTree) (rest : List Token) → AreSome w xs es → at_next (is_close w) (xs ++ rest) ≡ false
some_begin w _ _ rest (one_argument xs e is) = begins_with_no_close w Assignment xs e rest is
some_begin w _ _ rest (more_arguments t xs ys es e comma are is) = ap (at_next (is_close w)) (append_assoc xs (t ∷ ys) rest) ∙ some_begin w xs es ((t ∷ ys) ++ rest) are

module _ (w : Lexicon) (below : ℕ) where
  abbrev pub FitsSome : List Token → List ExprTree → Type 0
  FitsSome xs es = AreSome w xs es × (depth_of_list es ≤ below)

  abbrev Turn : List ExprTree → List Token → List ExprTree → Type 0
  Turn es = Opened (is_comma w) (λ t. Mapped (λ e. es ++ (e ∷ [])) (FitsExpr w below Assignment))

  abbrev Single : List Token → List ExprTree → Type 0
  Single = Mapped (λ e. e ∷ []) (FitsExpr w below Assignment)

  turned : (xs ys : List Token) (es fs : List ExprTree) → FitsSome xs es → Turns Turn es ys fs → FitsSome (xs ++ ys) fs
  turned xs _ es _ f (over _) = subst (λ l. FitsSome l es) (sym (append-nil xs)) f
  turned xs _ es fs f (turn _ gs _ us vs first rest) =
      let text : AreSome w (xs ++ (first.opening ∷ first.rest)) (es ++ (first.is.value ∷ [])) = more_arguments first.opening xs first.rest es first.is.value first.passes f.0 first.is.is.0 in
      let once : FitsSome (xs ++ us) gs = subst₂ FitsSome (sym (ap (λ l. xs ++ l) first.split)) (sym first.is.same) (text, list_fits es first.is.value below f.1 first.is.is.1) in
      subst (λ l. FitsSome l fs) (append_assoc xs us vs) (turned (xs ++ us) vs gs fs once rest)

  to_some : (ts : List Token) (es : List ExprTree) → Joined Single (Turns Turn) ts es → FitsSome ts es
  to_some ts es j =
      let deep : depth_of_list (j.first.value ∷ []) ≤ below = max-le j.first.is.1 (omega arith) in
      subst (λ l. FitsSome l es) (sym j.split) (turned j.before j.after j.value es (subst (FitsSome j.before) (sym j.first.same) (one_argument j.before j.first.value j.first.is.0, deep)) j.second)

  from_some : (ts : List Token) (es : List ExprTree) → AreSome w ts es → depth_of_list es ≤ below → Joined Single (Turns Turn) ts es
  from_some _ _ (one_argument xs e is) deep =
      record { before = xs; after = []; value = e ∷ []; split = sym (append-nil xs); first = record { value = e; is = (is, (front_fits [] e below deep).1); same = refl }; second = over (e ∷ []) }
  from_some _ _ (more_arguments t xs ys es e comma are is) deep =
      let fits : (depth_of_list es ≤ below) × (depth_of_expr e ≤ below) = front_fits es e below deep in
      let j : Joined Single (Turns Turn) xs es = from_some xs es are fits.0 in
      record {
        before = j.before;
        after = j.after ++ (t ∷ ys);
        value = j.value;
        split = ap (λ l. l ++ (t ∷ ys)) j.split ∙ append_assoc j.before j.after (t ∷ ys);
        first = j.first;
        second = turned_once_more j.value es (es ++ (e ∷ [])) j.after (t ∷ ys) j.second (record { opening = t; rest = ys; split = refl; passes = comma; is = record { value = e; is = (is, fits.1); same = refl } });
      }

  -- ---- what stands between the parentheses of a call, with the closing one

  abbrev pub CallText : ExprTree → Place → List Token → ExprTree → Type 0
  CallText e at = Either (Mapped (λ c. tree.Call e tree.NoExprs at) (IsToken (is_close w))) (Mapped (λ es. tree.Call e (expr_list es) at) (Closed (is_close w) FitsSome))

  module _ (part : ℕ → Parts) (P : LawfulParts w below (part 0)) where
    next_head : (es : List ExprTree) → OnHead (is_comma w) (Turn es) (more_last w) (next_argument w below part es)
    unfolding next_argument
    next_head es =
        at_head (is_comma w) (λ t h. opened unexpected (is_comma w) t h (λ s passes. map_of (P.expr Assignment) (λ e. es ++ (e ∷ [])) (more_last w) (λ e r. last_added w es e r))) opened_heads

    some_law : Lawful FitsSome (λ es t. is_comma w t || more_last w es t) (some_arguments w below part)
    unfolding some_arguments
    some_law =
        via (looping next_head (λ es t h. last_ends w es t (λ e. comma_ends w t h e)) (map_of (P.expr Assignment) (λ e. e ∷ []) (more_last w) (λ e t. refl))) to_some (λ ts es f. from_some ts es f.0 f.1)
        (some_arguments w below part) (λ ts. same ((part 0).expr Assignment ts))
      where
        same : (o : Outcome Token ExprTree) → and_then o (λ e. looped (is_comma w) (next_argument w below part) (e ∷ [])) ≡ and_then (and_then o (λ e. pure (e ∷ []))) (looped (is_comma w) (next_argument w below part))
        same (done e rest) = refl
        same (stop n left) = refl

    close_ends_some : (es : List ExprTree) (t : Token) → is_close w t ≡ true → (is_comma w t || more_last w es t) ≡ false
    close_ends_some es t h = ap (λ b. b || more_last w es t) (close_no_comma w t h) ∙ last_ends w es t (λ e. close_ends_assignment w t h e)

    abbrev finished : ExprTree → Place → List ExprTree → Parser Token ExprTree
    finished e at es = token unexpected (is_close w) >>= (λ c. pure (tree.Call e (expr_list es) at))

    pub called_law : (e : ExprTree) (at : Place) → Lawful (CallText e at) (λ e. never) (called w below part e at)
    unfolding called arguments
    called_law e at =
        via (choice_of (headed (map_of (one_token unexpected (is_close w) close_token (close_token_is w)) (λ c. tree.Call e tree.NoExprs at) (λ e. never) (λ c t. refl)) (is_close w) (λ ts a m. ap (at_next (is_close w)) m.is.alone ∙ m.is.passes))
        (closing unexpected (is_close w) close_token (close_token_is w) some_law close_ends_some (λ es. tree.Call e (expr_list es) at)) side) (λ ts a is. is) (λ ts a is. is)
        (called w below part e at) (λ ts. same (at_next (is_close w) ts) ts)
      where
        same : (b : Bool) (ts : List Token) → and_then (if b then done [] ts else some_arguments w below part ts) (finished e at) ≡ (if b then finished e at [] ts else and_then (some_arguments w below part ts) (finished e at))
        same true ts = refl
        same false ts = refl

        side : (ts : List Token) (a : ExprTree) (rest : List Token) → Mapped (λ es. tree.Call e (expr_list es) at) (Closed (is_close w) FitsSome) ts a → at_next never rest ≡ false → at_next (is_close w) (ts ++ rest) ≡ false
        side ts a rest m h =
            ap (λ l. at_next (is_close w) (l ++ rest)) m.is.split ∙ ap (at_next (is_close w)) (append_assoc m.is.front (m.is.closing ∷ []) rest)
            ∙ some_begin w m.is.front m.value ((m.is.closing ∷ []) ++ rest) m.is.is.0
