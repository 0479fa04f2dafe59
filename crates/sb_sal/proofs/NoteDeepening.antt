-- Where the readers of annotations stop for want of depth, those of a greater depth go on.
use Rattle.std.proofs.Common.{◌≡◌, ◌≤◌, ℕ, zero, suc, Bool, true, false, ◌+◌, ◌&&◌, ◌||◌, not, List, [], ◌∷◌, ◌++◌, length, nat_lt, Some, None, is_some, if◌then◌else◌, refl, sym, ap, ◌∙◌, subst, arith}
use Rattle.std.specs.Option.{option_map_or}
use Rattle.sb_base.specs.declared.tokens.Token.{Token}
use Rattle.sb_parse.specs.Parser.{Outcome, Parser, stop, at_next, ◌>>=◌, pure, token, taken, choose, guard, refuse}
use Rattle.sb_parse.proofs.Heads.{chosen}
use Rattle.sb_tree.specs.Plain.{arg_list}
use Rattle.sb_tree.specs.declared.operator.UnaryOp.TheVariants as unary
use Rattle.sb_tree.specs.Trees as tree
use Rattle.sb_tree.specs.Trees.{ExprTree, NoteTree, ArgTree, ExprArg, NoteArg}
use Rattle.sb_expr.specs.Expression.{Assignment}
use Rattle.sb_lexicon.specs.Lexicon.{Lexicon}
use Rattle.sb_expr.specs.Readers.{expr_reader}
use Rattle.sb_lexicon.specs.Tokens.{unexpected, too_deep, unknown, misplaced, bad_arguments, bad_kind, is_zero, is_open, is_close, is_comma, is_star, begins_expr}
use Rattle.sb_lexicon.proofs.Wider.{room_wider}
use Rattle.sb_parse.proofs.Ways.{and_first, and_second}
use Rattle.sb_sign.specs.declared.spelling.Arguments.{Arguments}
use Rattle.sb_sign.specs.declared.spelling.Arguments.TheVariants as arguments
use Rattle.sb_sal.specs.Notes.{inside, anywhere}
use Rattle.sb_sal.specs.Readers.{Head, head_of, named, member_of, continues, is_arrow, is_bare, is_return, is_place_name, ending, result, field, parameter, target, location, value, memory, separator, closing, wrong}
use Rattle.sb_sal.specs.Readers.{inner, one, two, arguments_by, in_parentheses, lacking, applied, bare, note, note_reader, next_note, notes_reader}
use Rattle.sb_sal.specs.Spellings.{begins_note, arguments_of, is_listed, is_unlisted, is_mem}
use Rattle.sb_sal.proofs.Tokens.{has_arguments_of}
use Rattle.sb_sal.proofs.NoteWider.{note_wider}
use Rattle.sb_sal.proofs.ExprDeepening.{expr_deepens}
use Rattle.sb_sal.proofs.Lowered.{raised, not_unexpected, not_unknown, not_misplaced, not_bad_arguments}
use Rattle.sb_sal.proofs.Deepening.{Past, Shrinks, Deepens, most_at, shrinks_pure, shrinks_refuse, shrinks_taken, shrinks_then, shrinks_choose, enters, enters_taken}
use Rattle.sb_sal.proofs.Deepening.{at_list, at_lists, deep_guard, still_pure, still_refuse, still_token, still_taken, in_order, choosing, turning, guarded, open_room}

-- ---- numbers

kind_not_deep : (n : ℕ) → bad_kind n ≡ too_deep → ⊥
kind_not_deep n h = let both : 1000 + n ≡ 32 = h in omega arith

module _ (w : Lexicon) where
  -- ---- arguments

  module _ (n : ℕ) where
    the_token : (test : Token → Bool) → Deepens n (λ m. token unexpected test)
    the_token test = still_token n unexpected test not_unexpected

    wrong_deepens : {A : Type 0} → Deepens {A = A} n (λ m. wrong w)
    wrong_deepens {A} =
        choosing n (λ t. is_close w t || begins_expr (inside w) t) (λ m. refuse {A = A} bad_arguments) (λ m. refuse unexpected) (still_refuse n bad_arguments not_bad_arguments) (still_refuse n unexpected not_unexpected)

    ending_deepens : (count : ℕ) (e : ExprTree) → Deepens n (λ m. ending w count e)
    ending_deepens count e = choosing n (continues w) (λ m. refuse (bad_kind count)) (λ m. pure e) (still_refuse n (bad_kind count) (kind_not_deep count)) (still_pure n e)

    value_deepens : Deepens n (λ m. value w m)
    unfolding value
    value_deepens =
        choosing n (λ t. is_close w t || is_listed w t) (λ m. refuse bad_arguments) (λ m. expr_reader (inside w) m Assignment >>= (λ e. pure (ExprArg e))) (still_refuse n bad_arguments not_bad_arguments)
        (in_order n (λ m. expr_reader (inside w) m Assignment) (λ m e. pure (ExprArg e)) (expr_deepens (inside w) Assignment n) (λ e. still_pure n (ExprArg e)))

    result_deepens : Deepens n (λ m. result w m)
    unfolding result
    result_deepens = in_order n (λ m. token unexpected (is_return w)) (λ m t. ending w 1 (tree.Identifier t.text t.place)) (the_token (is_return w)) (λ t. ending_deepens 1 (tree.Identifier t.text t.place))

    behind_arrow : (e : ExprTree) (a : Token) → Deepens n (λ m. taken unexpected (member_of w) >>= (λ m. ending w 3 (tree.Member e true m.0 m.1 a.place)))
    behind_arrow e a =
        in_order n (λ m. taken unexpected (member_of w)) (λ m n. ending w 3 (tree.Member e true n.0 n.1 a.place)) (still_taken n unexpected (member_of w) not_unexpected) (λ m. ending_deepens 3 (tree.Member e true m.0 m.1 a.place))

    field_deepens : (e : ExprTree) → Deepens n (λ m. field w m e)
    unfolding field
    field_deepens e = in_order n (λ m. token unexpected (is_arrow w)) (λ m a. taken unexpected (member_of w) >>= (λ m. ending w 3 (tree.Member e true m.0 m.1 a.place))) (the_token (is_arrow w)) (behind_arrow e)

    field_enters : (e : ExprTree) (m : ℕ) (ts : List Token) → at_next (is_arrow w) ts ≡ true → Past (length ts) (field w m e ts)
    unfolding field
    field_enters e m ts h = enters unexpected (is_arrow w) (λ a. taken unexpected (member_of w) >>= (λ m. ending w 3 (tree.Member e true m.0 m.1 a.place))) (λ a. (behind_arrow e a).shrinks n (omega arith)) ts h

    parameter_deepens : Deepens n (λ m. parameter w m)
    unfolding parameter
    parameter_deepens =
        in_order n (λ m. taken unexpected (named w)) (λ m e. choose (is_arrow w) (guard (nat_lt m 2) too_deep (field w m e)) (ending w 1 e)) (still_taken n unexpected (named w) not_unexpected)
        (λ e. guarded n (is_arrow w) (λ m. nat_lt m 2) (λ m. field w m e) (λ m. ending w 1 e) (λ m le h. room_wider n m 2 le h) (open_room n 2) (λ h. field_deepens e) (λ m le h. (field_deepens e).shrinks m le)
        (λ m le h ts k. field_enters e m ts k) (ending_deepens 1 e))

    abbrev from_star : Token → Parser Token ExprTree
    from_star s = choose (is_place_name w) (taken unexpected (named w) >>= (λ e. ending w 2 (tree.Unary unary.Deref e s.place))) (choose (begins_expr (inside w)) (refuse (bad_kind 1)) (refuse unexpected))

    behind_star : (s : Token) → Deepens n (λ m. from_star s)
    behind_star s =
        choosing n (is_place_name w) (λ m. taken unexpected (named w) >>= (λ e. ending w 2 (tree.Unary unary.Deref e s.place))) (λ m. choose (begins_expr (inside w)) (refuse (bad_kind 1)) (refuse unexpected))
        (in_order n (λ m. taken unexpected (named w)) (λ m e. ending w 2 (tree.Unary unary.Deref e s.place)) (still_taken n unexpected (named w) not_unexpected) (λ e. ending_deepens 2 (tree.Unary unary.Deref e s.place)))
        (choosing n (begins_expr (inside w)) (λ m. refuse (bad_kind 1)) (λ m. refuse unexpected) (still_refuse n (bad_kind 1) (kind_not_deep 1)) (still_refuse n unexpected not_unexpected))

    target_deepens : Deepens n (λ m. target w m)
    unfolding target
    target_deepens = in_order n (λ m. token unexpected (is_star w)) (λ m. from_star) (the_token (is_star w)) behind_star

    target_enters : (m : ℕ) (ts : List Token) → at_next (is_star w) ts ≡ true → Past (length ts) (target w m ts)
    unfolding target
    target_enters m ts h = enters unexpected (is_star w) from_star (λ s. (behind_star s).shrinks n (omega arith)) ts h

    location_deepens : Deepens n (λ m. location w m)
    unfolding location
    location_deepens =
        choosing n (is_return w) (λ m. result w m) (λ m. choose (is_place_name w) (parameter w m) (choose (is_star w) (guard (nat_lt m 2) too_deep (target w m)) (wrong w))) result_deepens
        (choosing n (is_place_name w) (λ m. parameter w m) (λ m. choose (is_star w) (guard (nat_lt m 2) too_deep (target w m)) (wrong w)) parameter_deepens
        (guarded n (is_star w) (λ m. nat_lt m 2) (λ m. target w m) (λ m. wrong w) (λ m le h. room_wider n m 2 le h) (open_room n 2) (λ h. target_deepens) (λ m le h. target_deepens.shrinks m le) (λ m le h ts k. target_enters m ts k)
        wrong_deepens))

    memory_deepens : Deepens n (λ m. memory w m)
    unfolding memory
    memory_deepens =
        choosing n (is_mem w) (λ m. token unexpected (is_mem w) >>= (λ t. ending w 1 (tree.Identifier t.text t.place) >>= (λ e. pure (ExprArg e)))) (λ m. wrong w)
        (in_order n (λ m. token unexpected (is_mem w)) (λ m t. ending w 1 (tree.Identifier t.text t.place) >>= (λ e. pure (ExprArg e))) (the_token (is_mem w))
        (λ t. in_order n (λ m. ending w 1 (tree.Identifier t.text t.place)) (λ m e. pure (ExprArg e)) (ending_deepens 1 (tree.Identifier t.text t.place)) (λ e. still_pure n (ExprArg e)))) wrong_deepens

    separator_deepens : Deepens n (λ m. separator w m)
    unfolding separator
    separator_deepens = choosing n (is_close w) (λ m. refuse bad_arguments) (λ m. token unexpected (is_comma w)) (still_refuse n bad_arguments not_bad_arguments) (the_token (is_comma w))

    closing_deepens : Deepens n (λ m. closing w m)
    unfolding closing
    closing_deepens = choosing n (is_comma w) (λ m. refuse bad_arguments) (λ m. token unexpected (is_close w)) (still_refuse n bad_arguments not_bad_arguments) (the_token (is_close w))

  -- ---- what one annotation leaves

  -- an annotation with arguments, where none has room
  abbrev is_deep : ℕ → Token → Bool
  is_deep m t = is_zero m && (is_listed w t && not (is_bare w t))

  none_above : (n : ℕ) (ts : List Token) → at_next (is_deep (suc n)) ts ≡ false
  none_above n [] = refl
  none_above n (t ∷ ts) = refl

  abbrev is_misplaced : (Token → Bool) → Token → Bool
  is_misplaced may t = is_listed w t && not (may t)

  small : {A : Type 0} (p : ℕ → Parser Token A) → Deepens 0 p → (m : ℕ) → Shrinks (p m)
  small p P m = P.shrinks m (omega arith)

  bare_deepens : (n k : ℕ) (part : (Token → Bool) → Parser Token NoteTree) (may : Token → Bool) → Deepens n (λ m. bare w k part may)
  unfolding bare
  bare_deepens n k part may =
      in_order n (λ m. token unexpected (is_bare w)) (λ m t. choose (is_open w) (refuse bad_arguments) (pure (tree.Note t.text tree.NoArgs t.place))) (the_token n (is_bare w))
      (λ t. choosing n (is_open w) (λ m. refuse bad_arguments) (λ m. pure (tree.Note t.text tree.NoArgs t.place)) (still_refuse n bad_arguments not_bad_arguments) (still_pure n (tree.Note t.text tree.NoArgs t.place)))

  lacking_deepens : (n k : ℕ) (part : (Token → Bool) → Parser Token NoteTree) (may : Token → Bool) → Deepens n (λ m. lacking w k part may)
  lacking_deepens n k part may = choosing n (λ t. true) (λ m. refuse bad_arguments) (λ m. refuse unexpected) (still_refuse n bad_arguments not_bad_arguments) (still_refuse n unexpected not_unexpected)

  module _ (m : ℕ) (part : (Token → Bool) → Parser Token NoteTree) (Part : (may : Token → Bool) → Shrinks (part may)) (may : Token → Bool) where
    inner_shrinks : (other : Token → Bool) → Shrinks (inner w m part may other)
    unfolding inner
    inner_shrinks other =
        shrinks_choose (begins_note w) (part other >>= (λ n. pure (NoteArg n))) (wrong w) (shrinks_then (part other) (λ n. pure (NoteArg n)) (Part other) (λ n. shrinks_pure (NoteArg n)))
        (small (λ m. wrong w) (wrong_deepens 0) m)

    one_shrinks : (p : Parser Token ArgTree) → Shrinks p → Shrinks (one w m part may p)
    unfolding one
    one_shrinks p P = shrinks_then p (λ a. pure (a ∷ [])) P (λ a. shrinks_pure (a ∷ []))

    two_shrinks : (p q : Parser Token ArgTree) → Shrinks p → Shrinks q → Shrinks (two w m part may p q)
    unfolding two
    two_shrinks p q P Q =
        shrinks_then p (λ a. separator w m >>= (λ c. q >>= (λ b. pure (a ∷ (b ∷ []))))) P
        (λ a. shrinks_then (separator w m) (λ c. q >>= (λ b. pure (a ∷ (b ∷ [])))) (small (λ m. separator w m) (separator_deepens 0) m)
        (λ c. shrinks_then q (λ b. pure (a ∷ (b ∷ []))) Q (λ b. shrinks_pure (a ∷ (b ∷ [])))))

    location_shrinks : Shrinks (location w m >>= (λ e. pure (ExprArg e)))
    location_shrinks = shrinks_then (location w m) (λ e. pure (ExprArg e)) (small (λ m. location w m) (location_deepens 0) m) (λ e. shrinks_pure (ExprArg e))

    arguments_shrinks : (a : Arguments) → Shrinks (arguments_by w m part may a)
    arguments_shrinks arguments.Nothing = shrinks_pure []
    arguments_shrinks arguments.Size = one_shrinks (value w m) (small (λ m. value w m) (value_deepens 0) m)
    arguments_shrinks arguments.Sizes = two_shrinks (value w m) (value w m) (small (λ m. value w m) (value_deepens 0) m) (small (λ m. value w m) (value_deepens 0) m)
    arguments_shrinks arguments.Condition = one_shrinks (value w m) (small (λ m. value w m) (value_deepens 0) m)
    arguments_shrinks arguments.Memory = one_shrinks (memory w m) (small (λ m. memory w m) (memory_deepens 0) m)
    arguments_shrinks arguments.Note = one_shrinks (inner w m part may may) (inner_shrinks may)
    arguments_shrinks arguments.GuardedNote = two_shrinks (value w m) (inner w m part may may) (small (λ m. value w m) (value_deepens 0) m) (inner_shrinks may)
    arguments_shrinks arguments.LocatedNote = two_shrinks (location w m >>= (λ e. pure (ExprArg e))) (inner w m part may anywhere) location_shrinks (inner_shrinks anywhere)

    abbrev finished : Head → List ArgTree → Parser Token NoteTree
    finished h args = closing w m >>= (λ c. pure (tree.Note h.name (arg_list args) h.place))

    finished_shrinks : (h : Head) (args : List ArgTree) → Shrinks (finished h args)
    finished_shrinks h args = shrinks_then (closing w m) (λ c. pure (tree.Note h.name (arg_list args) h.place)) (small (λ m. closing w m) (closing_deepens 0) m) (λ c. shrinks_pure (tree.Note h.name (arg_list args) h.place))

    enclosed_shrinks : (h : Head) → Shrinks (in_parentheses w m part may h)
    unfolding in_parentheses
    enclosed_shrinks h =
        shrinks_then (token unexpected (is_open w)) (λ o. arguments_by w m part may h.arguments >>= finished h) (small (λ m. token unexpected (is_open w)) (the_token 0 (is_open w)) m)
        (λ o. shrinks_then (arguments_by w m part may h.arguments) (finished h) (arguments_shrinks h.arguments) (finished_shrinks h))

    abbrev behind_head : Head → Parser Token NoteTree
    behind_head h = choose (is_open w) (in_parentheses w m part may h) (lacking w m part may)

    head_shrinks : (h : Head) → Shrinks (behind_head h)
    head_shrinks h = shrinks_choose (is_open w) (in_parentheses w m part may h) (lacking w m part may) (enclosed_shrinks h) (small (λ k. lacking w m part may) (lacking_deepens 0 m part may) m)

    applied_shrinks : Shrinks (applied w m part may)
    unfolding applied
    applied_shrinks = shrinks_then (taken unexpected (head_of w)) behind_head (shrinks_taken unexpected (head_of w)) head_shrinks

    abbrev from_listed : Parser Token NoteTree
    from_listed = choose (is_listed w) (applied w m part may) (refuse unexpected)

    abbrev from_bare : Parser Token NoteTree
    from_bare = choose (is_bare w) (bare w m part may) from_listed

    from_bare_shrinks : Shrinks from_bare
    from_bare_shrinks =
        shrinks_choose (is_bare w) (bare w m part may) from_listed (small (λ k. bare w m part may) (bare_deepens 0 m part may) m)
        (shrinks_choose (is_listed w) (applied w m part may) (refuse unexpected) applied_shrinks (shrinks_refuse unexpected))

    here_shrinks : Shrinks (note w m part may)
    unfolding note
    here_shrinks =
        shrinks_choose (is_unlisted w) (refuse unknown) (choose (is_misplaced may) (refuse misplaced) (choose (is_deep m) (refuse too_deep) from_bare)) (shrinks_refuse unknown)
        (shrinks_choose (is_misplaced may) (refuse misplaced) (choose (is_deep m) (refuse too_deep) from_bare) (shrinks_refuse misplaced)
        (shrinks_choose (is_deep m) (refuse too_deep) from_bare (shrinks_refuse too_deep) from_bare_shrinks))

    -- ---- behind the first token of a listed annotation

    head_given : (ts : List Token) → at_next (is_listed w) ts ≡ true → at_next (λ t. is_some (head_of w t)) ts ≡ true
    head_given [] h = absurd (cc h)
    head_given (t ∷ ts) h =
        let it : (a : Arguments) × (arguments_of w t ≡ Some a) = has_arguments_of w t h in
        ap (λ o. is_some {T = Head} (option_map_or (λ a. Some (record { name = t.text; place = t.place; arguments = a })) o None)) it.1

    bare_enters : (ts : List Token) → at_next (is_bare w) ts ≡ true → Past (length ts) (bare w m part may ts)
    unfolding bare
    bare_enters ts h =
        enters unexpected (is_bare w) (λ t. choose (is_open w) (refuse bad_arguments) (pure (tree.Note t.text tree.NoArgs t.place)))
        (λ t. shrinks_choose (is_open w) (refuse bad_arguments) (pure (tree.Note t.text tree.NoArgs t.place)) (shrinks_refuse bad_arguments) (shrinks_pure (tree.Note t.text tree.NoArgs t.place))) ts h

    applied_enters : (ts : List Token) → at_next (is_listed w) ts ≡ true → Past (length ts) (applied w m part may ts)
    unfolding applied
    applied_enters ts h = enters_taken unexpected (head_of w) behind_head head_shrinks ts (head_given ts h)

    listed_enters : (ts : List Token) → at_next (is_listed w) ts ≡ true → Past (length ts) (from_bare ts)
    listed_enters ts h = by_test (at_next (is_bare w) ts) refl
      where
        by_test : (b : Bool) → at_next (is_bare w) ts ≡ b → Past (length ts) (if b then bare w m part may ts else from_listed ts)
        by_test true k = bare_enters ts k
        by_test false k = subst (λ b. Past (length ts) (if b then applied w m part may ts else stop unexpected (length ts))) (sym h) (applied_enters ts h)

  -- ---- one annotation

  module _ (n : ℕ) (part : ℕ → (Token → Bool) → Parser Token NoteTree) (Part : (may : Token → Bool) → Deepens n (λ m. part m may)) (may : Token → Bool) where
    inner_deepens : (other : Token → Bool) → Deepens n (λ m. inner w m (part m) may other)
    unfolding inner
    inner_deepens other =
        choosing n (begins_note w) (λ m. part m other >>= (λ n. pure (NoteArg n))) (λ m. wrong w) (in_order n (λ m. part m other) (λ m n. pure (NoteArg n)) (Part other) (λ a. still_pure n (NoteArg a))) (wrong_deepens n)

    one_deepens : (p : ℕ → Parser Token ArgTree) → Deepens n p → Deepens n (λ m. one w m (part m) may (p m))
    unfolding one
    one_deepens p P = in_order n p (λ m a. pure (a ∷ [])) P (λ a. still_pure n (a ∷ []))

    two_deepens : (p q : ℕ → Parser Token ArgTree) → Deepens n p → Deepens n q → Deepens n (λ m. two w m (part m) may (p m) (q m))
    unfolding two
    two_deepens p q P Q =
        in_order n p (λ m a. separator w m >>= (λ c. q m >>= (λ b. pure (a ∷ (b ∷ []))))) P
        (λ a. in_order n (λ m. separator w m) (λ m c. q m >>= (λ b. pure (a ∷ (b ∷ [])))) (separator_deepens n) (λ c. in_order n q (λ m b. pure (a ∷ (b ∷ []))) Q (λ b. still_pure n (a ∷ (b ∷ [])))))

    place_deepens : Deepens n (λ m. location w m >>= (λ e. pure (ExprArg e)))
    place_deepens = in_order n (λ m. location w m) (λ m e. pure (ExprArg e)) (location_deepens n) (λ e. still_pure n (ExprArg e))

    arguments_deepen : (a : Arguments) → Deepens n (λ m. arguments_by w m (part m) may a)
    arguments_deepen arguments.Nothing = still_pure n []
    arguments_deepen arguments.Size = one_deepens (λ m. value w m) (value_deepens n)
    arguments_deepen arguments.Sizes = two_deepens (λ m. value w m) (λ m. value w m) (value_deepens n) (value_deepens n)
    arguments_deepen arguments.Condition = one_deepens (λ m. value w m) (value_deepens n)
    arguments_deepen arguments.Memory = one_deepens (λ m. memory w m) (memory_deepens n)
    arguments_deepen arguments.Note = one_deepens (λ m. inner w m (part m) may may) (inner_deepens may)
    arguments_deepen arguments.GuardedNote = two_deepens (λ m. value w m) (λ m. inner w m (part m) may may) (value_deepens n) (inner_deepens may)
    arguments_deepen arguments.LocatedNote = two_deepens (λ m. location w m >>= (λ e. pure (ExprArg e))) (λ m. inner w m (part m) may anywhere) place_deepens (inner_deepens anywhere)

    abbrev at_end : ℕ → Head → List ArgTree → Parser Token NoteTree
    at_end m h args = closing w m >>= (λ c. pure (tree.Note h.name (arg_list args) h.place))

    at_end_deepens : (h : Head) (args : List ArgTree) → Deepens n (λ m. at_end m h args)
    at_end_deepens h args = in_order n (λ m. closing w m) (λ m c. pure (tree.Note h.name (arg_list args) h.place)) (closing_deepens n) (λ c. still_pure n (tree.Note h.name (arg_list args) h.place))

    enclosed_deepens : (h : Head) → Deepens n (λ m. in_parentheses w m (part m) may h)
    unfolding in_parentheses
    enclosed_deepens h =
        in_order n (λ m. token unexpected (is_open w)) (λ m o. arguments_by w m (part m) may h.arguments >>= at_end m h) (the_token n (is_open w))
        (λ o. in_order n (λ m. arguments_by w m (part m) may h.arguments) (λ m. at_end m h) (arguments_deepen h.arguments) (at_end_deepens h))

    applied_deepens : Deepens n (λ m. applied w m (part m) may)
    unfolding applied
    applied_deepens =
        in_order n (λ m. taken unexpected (head_of w)) (λ m h. choose (is_open w) (in_parentheses w m (part m) may h) (lacking w m (part m) may)) (still_taken n unexpected (head_of w) not_unexpected)
        (λ h. choosing n (is_open w) (λ m. in_parentheses w m (part m) may h) (λ m. lacking w m (part m) may) (enclosed_deepens h) (lacking_deepens n n (part n) may))

    abbrev behind_bare : ℕ → Parser Token NoteTree
    behind_bare m = choose (is_bare w) (bare w m (part m) may) (choose (is_listed w) (applied w m (part m) may) (refuse unexpected))

    behind_bare_deepens : Deepens n behind_bare
    unfolding bare
    behind_bare_deepens =
        choosing n (is_bare w) (λ m. bare w m (part m) may) (λ m. choose (is_listed w) (applied w m (part m) may) (refuse unexpected)) (bare_deepens n n (part n) may)
        (choosing n (is_listed w) (λ m. applied w m (part m) may) (λ m. refuse unexpected) applied_deepens (still_refuse n unexpected not_unexpected))

    deep_off : (m : ℕ) → n ≤ m → (ts : List Token) → at_next (is_deep n) ts ≡ false → at_next (is_deep m) ts ≡ false
    deep_off m le [] h = refl
    deep_off m le (t ∷ ts) h = by_depth n m le h
      where
        by_depth : (n m : ℕ) → n ≤ m → is_deep n t ≡ false → is_deep m t ≡ false
        by_depth zero zero le h = h
        by_depth zero (suc m) le h = refl
        by_depth (suc n) zero le h = absurd (omega arith)
        by_depth (suc n) (suc m) le h = refl

    deep_listed : (ts : List Token) → at_next (is_deep n) ts ≡ true → at_next (is_listed w) ts ≡ true
    deep_listed [] h = absurd (cc h)
    deep_listed (t ∷ ts) h = and_first (is_listed w t) (not (is_bare w t)) (and_second (is_zero n) (is_listed w t && not (is_bare w t)) h)

    behind_place_deepens : Deepens n (λ m. choose (is_deep m) (refuse too_deep) (behind_bare m))
    behind_place_deepens =
        at_lists n (λ m. choose (is_deep m) (refuse too_deep) (behind_bare m))
        (λ ts. let next : n ≤ suc n = omega arith in
        deep_guard n (length ts) (λ m. at_next (is_deep m) ts) (λ m. behind_bare m ts) (λ m le h. deep_off m le ts h)
        (λ h. (suc n, next, none_above n ts, listed_enters (suc n) (part (suc n)) (λ other. (Part other).shrinks (suc n) next) may ts (deep_listed ts h)))
        (λ h. at_list n behind_bare behind_bare_deepens ts) (λ m le h. most_at (behind_bare m) (behind_bare_deepens.shrinks m le) ts))

    here_deepens : Deepens n (λ m. note w m (part m) may)
    unfolding note
    here_deepens =
        choosing n (is_unlisted w) (λ m. refuse unknown) (λ m. choose (λ t. is_listed w t && not (may t)) (refuse misplaced) (choose (is_deep m) (refuse too_deep) (behind_bare m))) (still_refuse n unknown not_unknown)
        (choosing n (λ t. is_listed w t && not (may t)) (λ m. refuse misplaced) (λ m. choose (is_deep m) (refuse too_deep) (behind_bare m)) (still_refuse n misplaced not_misplaced) behind_place_deepens)

  -- ---- annotations of each depth

  note_shrinks : (m : ℕ) (may : Token → Bool) → Shrinks (note_reader w m may)
  unfolding note_reader
  note_shrinks zero may =
      shrinks_choose (is_unlisted w) (refuse unknown) _ (shrinks_refuse unknown)
      (shrinks_choose (λ t. is_listed w t && not (may t)) (refuse misplaced) _ (shrinks_refuse misplaced) (shrinks_choose (begins_note w) (refuse too_deep) (refuse unexpected) (shrinks_refuse too_deep) (shrinks_refuse unexpected)))
  note_shrinks (suc m) may = here_shrinks m (note_reader w m) (note_shrinks m) may

  -- without room: a listed annotation that may stand there is read by the readers of depth 2 and more past its name
  module _ (may : Token → Bool) (ts : List Token) where
    known_listed : (ts : List Token) → at_next (is_unlisted w) ts ≡ false → at_next (begins_note w) ts ≡ true → at_next (is_listed w) ts ≡ true
    known_listed [] h k = absurd (cc k)
    known_listed (t ∷ ts) h k = by_test (begins_note w t) (is_listed w t) h k
      where
        by_test : (b l : Bool) → (b && not l) ≡ false → b ≡ true → l ≡ true
        by_test true true h k = refl
        by_test true false h k = absurd (cc h)
        by_test false l h k = absurd (cc k)

    pub note_enters : (d : ℕ) → at_next (is_unlisted w) ts ≡ false → at_next (is_misplaced may) ts ≡ false → at_next (begins_note w) ts ≡ true → Past (length ts) (note_reader w (suc (suc d)) may ts)
    unfolding note_reader note
    note_enters d h k l = subst (Past (length ts)) (sym reads) (listed_enters (suc d) (note_reader w (suc d)) (note_shrinks (suc d)) may ts (known_listed ts h l))
      where
        from_deep : Parser Token NoteTree
        from_deep = choose (is_deep (suc d)) (refuse too_deep) (from_bare (suc d) (note_reader w (suc d)) (note_shrinks (suc d)) may)

        reads : note_reader w (suc (suc d)) may ts ≡ from_bare (suc d) (note_reader w (suc d)) (note_shrinks (suc d)) may ts
        reads =
            chosen (is_unlisted w) (refuse unknown) (choose (is_misplaced may) (refuse misplaced) from_deep) ts false h ∙ chosen (is_misplaced may) (refuse misplaced) from_deep ts false k
            ∙ chosen (is_deep (suc d)) (refuse too_deep) (from_bare (suc d) (note_reader w (suc d)) (note_shrinks (suc d)) may) ts false (none_above d ts)

    deeper_at_zero : (left : ℕ) → note_reader w 0 may ts ≡ stop too_deep left → (m : ℕ) × (0 ≤ m) × Past left (note_reader w m may ts)
    unfolding note_reader
    deeper_at_zero left e = by_tests (at_next (is_unlisted w) ts) (at_next (is_misplaced may) ts) (at_next (begins_note w) ts) refl refl refl e
      where
        by_tests : (a b c : Bool) → at_next (is_unlisted w) ts ≡ a → at_next (is_misplaced may) ts ≡ b → at_next (begins_note w) ts ≡ c
            → Path (Outcome Token NoteTree) (if a then stop unknown (length ts) else (if b then stop misplaced (length ts) else (if c then stop too_deep (length ts) else stop unexpected (length ts)))) (stop too_deep left)
            → (m : ℕ) × (0 ≤ m) × Past left (note_reader w m may ts)
        by_tests true b c h k l e = absurd (not_unknown (cc e))
        by_tests false true c h k l e = absurd (not_misplaced (cc e))
        by_tests false false true h k l e = let lefts : length ts ≡ left = cc e in (2, omega arith, subst (λ z. Past z (note_reader w 2 may ts)) lefts (note_enters 0 h k l))
        by_tests false false false h k l e = absurd (not_unexpected (cc e))

  pub note_deepens : (may : Token → Bool) (n : ℕ) → Deepens n (λ m. note_reader w m may)
  unfolding note_reader
  note_deepens may zero = record { wide = λ m le. note_wider w 0 m le may; shrinks = λ m le. note_shrinks m may; deeper = λ ts left e. deeper_at_zero may ts left e }
  note_deepens may (suc n) = raised n (λ m. note_reader w m may) (here_deepens n (λ m. note_reader w m) (λ other. note_deepens other n) may)

  pub notes_deepen : (may : Token → Bool) (n : ℕ) → Deepens n (λ m. notes_reader w m may)
  unfolding next_note
  notes_deepen may n = turning n (begins_note w) (λ m. next_note w m may) (λ ns. in_order n (λ m. note_reader w m may) (λ m a. pure (ns ++ (a ∷ []))) (note_deepens may n) (λ a. still_pure n (ns ++ (a ∷ [])))) []
