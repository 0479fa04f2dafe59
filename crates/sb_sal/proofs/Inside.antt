-- The readers of what stands in the parentheses of an annotation keep the laws, if the reader of the annotations inside does.
use Rattle.std.proofs.Common.{◌≡◌, ◌≤◌, ℕ, max, Bool, true, false, List, [], ◌∷◌, ◌++◌, refl, sym, ap, ◌∙◌, subst, subst₂, arith}
use Rattle.std.proofs.Math.Nat.{le-max_left, le-max_right, max-le}
use Rattle.sb_base.specs.declared.tokens.Token.{Token}
use Rattle.sb_parse.specs.Parser.{Parser, at_next, never, ◌>>=◌, pure}
use Rattle.sb_parse.specs.Lawful.{Lawful, OnHead, Joined, IsToken, Mapped}
use Rattle.sb_parse.proofs.Joining.{never_next, in_order, via, one_token, map_of}
use Rattle.sb_parse.proofs.Heads.{head_map_of}
use Rattle.sb_tree.specs.Plain.{arg_list}
use Rattle.sb_tree.specs.Trees as tree
use Rattle.sb_tree.specs.Trees.{NoteTree, ArgTree, ExprArg, NoteArg, depth_of_arg, depth_of_args}
use Rattle.sb_lexicon.specs.Lexicon.{Lexicon}
use Rattle.sb_lexicon.specs.Tokens.{unexpected, is_open, is_close, is_comma, bad_arguments}
use Rattle.sb_expr.proofs.tokens.More.{more}
use Rattle.sb_parse.proofs.Ways.{only_else}
use Rattle.sb_lexicon.proofs.Lexemes.{close_token, close_token_is}
use Rattle.sb_sign.specs.declared.spelling.Arguments.{Arguments}
use Rattle.sb_sign.specs.declared.spelling.Arguments.TheVariants as arguments
use Rattle.sb_sal.specs.Notes.{anywhere, is_bare, AreArguments, one_size, two_sizes, a_condition, memory, a_note, guarded, located}
use Rattle.sb_sal.specs.Readers.{wrong, separator, closing, one, two, inner, arguments_by, continues}
use Rattle.sb_sal.specs.Reads.{FitsNote, HasBare}
use Rattle.sb_sal.specs.Spellings.{begins_note, is_mem}
use Rattle.sb_parse.proofs.Partly.{refused_before}
use Rattle.sb_sal.proofs.Tokens.{bare_takes_nothing, close_not_comma, comma_not_close, close_not_open, close_ends_location, comma_ends_location, comma_token, comma_token_is}
use Rattle.sb_sal.proofs.Values.{FitsValue, FitsLocation, wrong_refuses, value_law, value_ends_at_close, value_ends_at_comma, location_law, IsMemory, memory_law}

-- what goes on from an annotation: nothing but a parenthesis behind one without arguments
abbrev pub more_note : Lexicon → NoteTree → Token → Bool
more_note w (tree.Note name tree.NoArgs place) t = is_open w t
more_note w (tree.Note name (tree.MoreArgs a rest) place) t = false

pub note_ends_at_close : (w : Lexicon) (n : NoteTree) (t : Token) → is_close w t ≡ true → more_note w n t ≡ false
note_ends_at_close w (tree.Note name tree.NoArgs place) t h = close_not_open w t h
note_ends_at_close w (tree.Note name (tree.MoreArgs a rest) place) t h = refl

abbrev pub more_inner : Lexicon → ArgTree → Token → Bool
more_inner w (ExprArg e) t = false
more_inner w (NoteArg n) t = more_note w n t

inner_ends_at_close : (w : Lexicon) (a : ArgTree) (t : Token) → is_close w t ≡ true → more_inner w a t ≡ false
inner_ends_at_close w (ExprArg e) t h = refl
inner_ends_at_close w (NoteArg n) t h = note_ends_at_close w n t h

-- what goes on from the last of a list
abbrev pub at_end : {T A : Type 0} → (A → T → Bool) → List A → T → Bool
at_end more [] t = false
at_end more (a ∷ []) t = more a t
at_end more (a ∷ (b ∷ rest)) t = at_end more (b ∷ rest) t

pub ends_with : {T A : Type 0} (more : A → T → Bool) (t : T) → ((a : A) → more a t ≡ false) → (as_ : List A) → at_end more as_ t ≡ false
ends_with more t each [] = refl
ends_with more t each (a ∷ []) = each a
ends_with more t each (a ∷ (b ∷ rest)) = ends_with more t each (b ∷ rest)

-- what stands in the parentheses, of so small a depth
pub record FitsInside (w : Lexicon) (below : ℕ) (may : Token → Bool) (a : Arguments) (ts : List Token) (args : List ArgTree) : Type 0 where
  pub are : AreArguments w may a ts args
  pub deep : depth_of_args (arg_list args) ≤ below

-- the laws of a reader that closes in front of a parenthesis
pub record Enclosed (w : Lexicon) (Is : List Token → List ArgTree → Type 0) (p : Parser Token (List ArgTree)) : Type 0 where
  pub goes_on : List ArgTree → Token → Bool
  pub law : Lawful Is goes_on p
  pub ends : (args : List ArgTree) (t : Token) → is_close w t ≡ true → goes_on args t ≡ false

module _ (w : Lexicon) (below : ℕ) where
  pub separator_law : Lawful (IsToken (is_comma w)) (λ _. never) (separator w below)
  unfolding separator
  separator_law =
      refused_before (is_close w) bad_arguments (one_token unexpected (is_comma w) comma_token (comma_token_is w))
      (λ ts t rest is e. ap (λ z. at_next (is_close w) (z ++ rest)) is.alone ∙ comma_not_close w t is.passes)

  pub closing_law : Lawful (IsToken (is_close w)) (λ _. never) (closing w below)
  unfolding closing
  closing_law =
      refused_before (is_comma w) bad_arguments (one_token unexpected (is_close w) close_token (close_token_is w))
      (λ ts t rest is e. ap (λ z. at_next (is_comma w) (z ++ rest)) is.alone ∙ close_not_comma w t is.passes)

  module _ (part : (Token → Bool) → Parser Token NoteTree) (may : Token → Bool) where
    -- ---- one argument, and two

    one_law : {Is : List Token → ArgTree → Type 0} {goes_on : ArgTree → Token → Bool} {p : Parser Token ArgTree} → Lawful Is goes_on p
        → Lawful (Mapped (λ a. a ∷ []) Is) (at_end goes_on) (one w below part may p)
    unfolding one
    one_law {goes_on = goes_on} P = map_of P (λ a. a ∷ []) (at_end goes_on) (λ a t. refl)

    abbrev Second : (List Token → ArgTree → Type 0) → ArgTree → List Token → List ArgTree → Type 0
    Second Is a = Joined (IsToken (is_comma w)) (λ c. Mapped (λ b. a ∷ (b ∷ [])) Is)

    second_law : {Is : List Token → ArgTree → Type 0} {goes_on : ArgTree → Token → Bool} {q : Parser Token ArgTree} → Lawful Is goes_on q
        → (a : ArgTree) → Lawful (Second Is a) (at_end goes_on) (separator w below >>= (λ c. q >>= (λ b. pure (a ∷ (b ∷ [])))))
    second_law {Is = Is} {goes_on = goes_on} {q = q} Q a =
        in_order {Second = λ c. Mapped (λ b. a ∷ (b ∷ [])) Is} {q = λ c. q >>= (λ b. pure (a ∷ (b ∷ [])))} separator_law
        (λ xs c is. map_of Q (λ b. a ∷ (b ∷ [])) (at_end goes_on) (λ b t. refl)) (λ xs c ys b rest is m e. never_next (ys ++ rest))

    two_law : {First Is : List Token → ArgTree → Type 0} {before goes_on : ArgTree → Token → Bool} {p q : Parser Token ArgTree} → Lawful First before p → Lawful Is goes_on q
        → ((a : ArgTree) (t : Token) → is_comma w t ≡ true → before a t ≡ false) → Lawful (Joined First (Second Is)) (at_end goes_on) (two w below part may p q)
    unfolding two
    two_law {First = First} {Is = Is} {before = before} {goes_on = goes_on} {q = q} P Q ends =
        in_order {Second = Second Is} {q = λ a. separator w below >>= (λ c. q >>= (λ b. pure (a ∷ (b ∷ []))))} P (λ xs a is. second_law Q a) side
      where
        side : (xs : List Token) (a : ArgTree) (ys : List Token) (args : List ArgTree) (rest : List Token) → First xs a → Second Is a ys args → at_next (at_end goes_on args) rest ≡ false
            → at_next (before a) (ys ++ rest) ≡ false
        side xs a ys args rest is j e =
            ap (λ z. at_next (before a) (z ++ rest)) (j.split ∙ ap (λ z. z ++ j.after) j.first.alone) ∙ ends a j.value j.first.passes

    -- ---- an annotation inside

    abbrev InnerText : (Token → Bool) → List Token → ArgTree → Type 0
    InnerText m = Mapped NoteArg (FitsNote w below m)

    inner_law : 1 ≤ below → (m : Token → Bool) → OnHead (begins_note w) (FitsNote w below m) (more_note w) (part m) → HasBare w m → Lawful (InnerText m) (more_inner w) (inner w below part may m)
    unfolding inner
    inner_law some m N b =
        only_else (wrong w) (head_map_of N NoteArg (more_inner w) (λ n t. refl)) (wrong_refuses w) (b.token ∷ []) (NoteArg (tree.Note b.token.text tree.NoArgs b.token.place))
        (record { value = tree.Note b.token.text tree.NoArgs b.token.place; is = (is_bare m b.token b.may_stand (bare_takes_nothing w b.token b.alone), some); same = refl })

    -- ---- by the number of arguments

    one_deep : (a : ArgTree) → depth_of_arg a ≤ below → depth_of_args (arg_list (a ∷ [])) ≤ below
    one_deep a h = let none : 0 ≤ below = omega arith in max-le h none

    two_deep : (a b : ArgTree) → depth_of_arg a ≤ below → depth_of_arg b ≤ below → depth_of_args (arg_list (a ∷ (b ∷ []))) ≤ below
    two_deep a b h k = max-le h (one_deep b k)

    first_deep : (a : ArgTree) (rest : List ArgTree) → depth_of_args (arg_list (a ∷ rest)) ≤ below → depth_of_arg a ≤ below
    first_deep a rest h = let less : depth_of_arg a ≤ max (depth_of_arg a) (depth_of_args (arg_list rest)) = le-max_left (depth_of_arg a) (depth_of_args (arg_list rest)) in omega arith

    second_deep : (a b : ArgTree) → depth_of_args (arg_list (a ∷ (b ∷ []))) ≤ below → depth_of_arg b ≤ below
    second_deep a b h =
        let less : depth_of_args (arg_list (b ∷ [])) ≤ max (depth_of_arg a) (depth_of_args (arg_list (b ∷ []))) = le-max_right (depth_of_arg a) (depth_of_args (arg_list (b ∷ []))) in
        first_deep b [] (omega arith)

    one_enclosed : {Is : List Token → ArgTree → Type 0} {goes_on : ArgTree → Token → Bool} {p : Parser Token ArgTree} (k : Arguments) → Lawful Is goes_on p
        → ((a : ArgTree) (t : Token) → is_close w t ≡ true → goes_on a t ≡ false)
        → ((ts : List Token) (a : ArgTree) → Is ts a → AreArguments w may k ts (a ∷ []) × (depth_of_arg a ≤ below))
        → ((ts : List Token) (args : List ArgTree) → AreArguments w may k ts args → depth_of_args (arg_list args) ≤ below → Mapped (λ a. a ∷ []) Is ts args)
        → Enclosed w (FitsInside w below may k) (one w below part may p)
    one_enclosed {Is = Is} {goes_on = goes_on} {p = p} k P ends to from = record {
      goes_on = at_end goes_on;
      law = via (one_law P) to_inside (λ ts args f. from ts args f.are f.deep) (one w below part may p) (λ ts. refl);
      ends = λ args t h. ends_with goes_on t (λ a. ends a t h) args;
    }
      where
        to_inside : (ts : List Token) (args : List ArgTree) → Mapped (λ a. a ∷ []) Is ts args → FitsInside w below may k ts args
        to_inside ts args m = let fits = to ts m.value m.is in subst (FitsInside w below may k ts) (sym m.same) (record { are = fits.0; deep = one_deep m.value fits.1 })

    two_enclosed : {First Is : List Token → ArgTree → Type 0} {before goes_on : ArgTree → Token → Bool} {p q : Parser Token ArgTree} (k : Arguments) → Lawful First before p → Lawful Is goes_on q
        → ((a : ArgTree) (t : Token) → is_comma w t ≡ true → before a t ≡ false) → ((a : ArgTree) (t : Token) → is_close w t ≡ true → goes_on a t ≡ false)
        → ((xs ys : List Token) (c : Token) (a b : ArgTree) → is_comma w c ≡ true → First xs a → Is ys b → AreArguments w may k (xs ++ (c ∷ ys)) (a ∷ (b ∷ [])) × (depth_of_arg a ≤ below) × (depth_of_arg b ≤ below))
        → ((ts : List Token) (args : List ArgTree) → AreArguments w may k ts args → depth_of_args (arg_list args) ≤ below → Joined First (Second Is) ts args)
        → Enclosed w (FitsInside w below may k) (two w below part may p q)
    two_enclosed {First = First} {Is = Is} {goes_on = goes_on} {p = p} {q = q} k P Q comma ends to from = record {
      goes_on = at_end goes_on;
      law = via (two_law P Q comma) to_inside (λ ts args f. from ts args f.are f.deep) (two w below part may p q) (λ ts. refl);
      ends = λ args t h. ends_with goes_on t (λ a. ends a t h) args;
    }
      where
        to_inside : (ts : List Token) (args : List ArgTree) → Joined First (Second Is) ts args → FitsInside w below may k ts args
        to_inside ts args j =
            let c = j.second.first in
            let b = j.second.second in
            let fits = to j.before j.second.after j.second.value j.value b.value c.passes j.first b.is in
            subst₂ (FitsInside w below may k) (sym (j.split ∙ ap (λ z. j.before ++ z) (j.second.split ∙ ap (λ z. z ++ j.second.after) c.alone))) (sym b.same)
            (record { are = fits.0; deep = two_deep j.value b.value fits.1 fits.2 })

    -- two texts with a comma between them
    joined : {First Is : List Token → ArgTree → Type 0} (xs ys : List Token) (c : Token) (a b : ArgTree) → is_comma w c ≡ true → First xs a → Is ys b → Joined First (Second Is) (xs ++ (c ∷ ys)) (a ∷ (b ∷ []))
    joined xs ys c a b comma first second = record {
      before = xs;
      after = c ∷ ys;
      value = a;
      split = refl;
      first = first;
      second = record { before = c ∷ []; after = ys; value = c; split = refl; first = record { alone = refl; passes = comma }; second = record { value = b; is = second; same = refl } };
    }

    single : {Is : List Token → ArgTree → Type 0} (ts : List Token) (a : ArgTree) → Is ts a → Mapped (λ a. a ∷ []) Is ts (a ∷ [])
    single ts a is = record { value = a; is = is; same = refl }

    -- ---- by the kind of arguments

    module _ (some : 1 ≤ below) where
      pub sized : Enclosed w (FitsInside w below may arguments.Size) (arguments_by w below part may arguments.Size)
      sized = one_enclosed arguments.Size (value_law w below some) (value_ends_at_close w) (λ ts a f. (one_size may ts a f.0, f.1)) from
        where
          from : (ts : List Token) (args : List ArgTree) → AreArguments w may arguments.Size ts args → depth_of_args (arg_list args) ≤ below → Mapped (λ a. a ∷ []) (FitsValue w below) ts args
          from _ _ (one_size m ts a is) deep = single ts a (is, first_deep a [] deep)

      pub conditioned : Enclosed w (FitsInside w below may arguments.Condition) (arguments_by w below part may arguments.Condition)
      conditioned = one_enclosed arguments.Condition (value_law w below some) (value_ends_at_close w) (λ ts a f. (a_condition may ts a f.0, f.1)) from
        where
          from : (ts : List Token) (args : List ArgTree) → AreArguments w may arguments.Condition ts args → depth_of_args (arg_list args) ≤ below → Mapped (λ a. a ∷ []) (FitsValue w below) ts args
          from _ _ (a_condition m ts a is) deep = single ts a (is, first_deep a [] deep)

      pub sized_twice : Enclosed w (FitsInside w below may arguments.Sizes) (arguments_by w below part may arguments.Sizes)
      sized_twice =
          two_enclosed arguments.Sizes (value_law w below some) (value_law w below some) (value_ends_at_comma w) (value_ends_at_close w)
          (λ xs ys c a b h f g. (two_sizes may xs ys c a b h f.0 g.0, f.1, g.1)) from
        where
          from : (ts : List Token) (args : List ArgTree) → AreArguments w may arguments.Sizes ts args → depth_of_args (arg_list args) ≤ below → Joined (FitsValue w below) (Second (FitsValue w below)) ts args
          from _ _ (two_sizes m xs ys c a b h is also) deep = joined xs ys c a b h (is, first_deep a (b ∷ []) deep) (also, second_deep a b deep)

      pub remembered : (s : Token) → is_mem w s ≡ true → Enclosed w (FitsInside w below may arguments.Memory) (arguments_by w below part may arguments.Memory)
      remembered s h = one_enclosed arguments.Memory (memory_law w below some s h) (λ a t k. close_ends_location w t k) to from
        where
          to : (ts : List Token) (a : ArgTree) → IsMemory w below some ts a → AreArguments w may arguments.Memory ts (a ∷ []) × (depth_of_arg a ≤ below)
          to ts a m =
              subst₂ (λ l b. AreArguments w may arguments.Memory l (b ∷ []) × (depth_of_arg b ≤ below)) (sym m.alone) (sym m.same) (memory may m.token m.is, some)

          from : (ts : List Token) (args : List ArgTree) → AreArguments w may arguments.Memory ts args → depth_of_args (arg_list args) ≤ below → Mapped (λ a. a ∷ []) (IsMemory w below some) ts args
          from _ _ (memory m t is) deep = single (t ∷ []) (ExprArg (tree.Identifier t.text t.place)) (record { token = t; alone = refl; is = is; same = refl })

      pub noted : OnHead (begins_note w) (FitsNote w below may) (more_note w) (part may) → HasBare w may → Enclosed w (FitsInside w below may arguments.Note) (arguments_by w below part may arguments.Note)
      noted N b = one_enclosed arguments.Note (inner_law some may N b) (inner_ends_at_close w) to from
        where
          to : (ts : List Token) (a : ArgTree) → InnerText may ts a → AreArguments w may arguments.Note ts (a ∷ []) × (depth_of_arg a ≤ below)
          to ts a m = subst (λ b. AreArguments w may arguments.Note ts (b ∷ []) × (depth_of_arg b ≤ below)) (sym m.same) (a_note may ts m.value m.is.0, m.is.1)

          from : (ts : List Token) (args : List ArgTree) → AreArguments w may arguments.Note ts args → depth_of_args (arg_list args) ≤ below → Mapped (λ a. a ∷ []) (InnerText may) ts args
          from _ _ (a_note m ts n is) deep = single ts (NoteArg n) (record { value = n; is = (is, first_deep (NoteArg n) [] deep); same = refl })

      pub guarded_note : OnHead (begins_note w) (FitsNote w below may) (more_note w) (part may) → HasBare w may
          → Enclosed w (FitsInside w below may arguments.GuardedNote) (arguments_by w below part may arguments.GuardedNote)
      guarded_note N b = two_enclosed arguments.GuardedNote (value_law w below some) (inner_law some may N b) (value_ends_at_comma w) (inner_ends_at_close w) to from
        where
          to : (xs ys : List Token) (c : Token) (a b : ArgTree) → is_comma w c ≡ true → FitsValue w below xs a → InnerText may ys b
              → AreArguments w may arguments.GuardedNote (xs ++ (c ∷ ys)) (a ∷ (b ∷ [])) × (depth_of_arg a ≤ below) × (depth_of_arg b ≤ below)
          to xs ys c a b h f m =
              subst (λ z. AreArguments w may arguments.GuardedNote (xs ++ (c ∷ ys)) (a ∷ (z ∷ [])) × (depth_of_arg a ≤ below) × (depth_of_arg z ≤ below)) (sym m.same)
              (guarded may xs ys c a m.value h f.0 m.is.0, f.1, m.is.1)

          from : (ts : List Token) (args : List ArgTree) → AreArguments w may arguments.GuardedNote ts args → depth_of_args (arg_list args) ≤ below
              → Joined (FitsValue w below) (Second (InnerText may)) ts args
          from _ _ (guarded m xs ys c a n h is also) deep =
              joined xs ys c a (NoteArg n) h (is, first_deep a (NoteArg n ∷ []) deep) (record { value = n; is = (also, second_deep a (NoteArg n) deep); same = refl })

      pub located_note : OnHead (begins_note w) (FitsNote w below anywhere) (more_note w) (part anywhere) → HasBare w anywhere
          → Enclosed w (FitsInside w below may arguments.LocatedNote) (arguments_by w below part may arguments.LocatedNote)
      located_note N b =
          two_enclosed arguments.LocatedNote (map_of (location_law w below some) ExprArg (λ _. continues w) (λ e t. refl)) (inner_law some anywhere N b)
          (λ a t h. comma_ends_location w t h) (inner_ends_at_close w) to from
        where
          to : (xs ys : List Token) (c : Token) (a b : ArgTree) → is_comma w c ≡ true → Mapped ExprArg (FitsLocation w below) xs a → InnerText anywhere ys b
              → AreArguments w may arguments.LocatedNote (xs ++ (c ∷ ys)) (a ∷ (b ∷ [])) × (depth_of_arg a ≤ below) × (depth_of_arg b ≤ below)
          to xs ys c a b h l m =
              subst₂ (λ y z. AreArguments w may arguments.LocatedNote (xs ++ (c ∷ ys)) (y ∷ (z ∷ [])) × (depth_of_arg y ≤ below) × (depth_of_arg z ≤ below)) (sym l.same) (sym m.same)
              (located may xs ys c l.value m.value h l.is.0 m.is.0, l.is.1, m.is.1)

          from : (ts : List Token) (args : List ArgTree) → AreArguments w may arguments.LocatedNote ts args → depth_of_args (arg_list args) ≤ below
              → Joined (Mapped ExprArg (FitsLocation w below)) (Second (InnerText anywhere)) ts args
          from _ _ (located m xs ys c e n h is also) deep =
              joined xs ys c (ExprArg e) (NoteArg n) h (record { value = e; is = (is, first_deep (ExprArg e) (NoteArg n ∷ []) deep); same = refl })
              (record { value = n; is = (also, second_deep (ExprArg e) (NoteArg n) deep); same = refl })
