-- The reader of an annotation keeps the laws, if the reader of the annotations inside does.
use Rattle.std.proofs.Common.{◌≡◌, ◌≤◌, ℕ, suc, max, Bool, true, false, ◌&&◌, not, List, [], ◌∷◌, ◌++◌, Option, Some, None, if◌then◌else◌, refl, sym, ap, ◌∙◌, subst, subst₂, inl, inr, arith}
use Rattle.std.proofs.Math.Nat.{le-max_left}
use Rattle.std.specs.Option.{option_map_or}
use Rattle.sb_base.specs.declared.tokens.Token.{Token}
use Rattle.sb_parse.specs.Parser.{Parser, at_next, choose, refuse}
use Rattle.sb_parse.specs.Lawful.{Lawful, OnHead, IsEmpty, Begun, Opened, Closed, Mapped, Either}
use Rattle.sb_parse.proofs.Joining.{nothing}
use Rattle.sb_tree.specs.Plain.{arg_list}
use Rattle.sb_tree.specs.Trees as tree
use Rattle.sb_tree.specs.Trees.{NoteTree, ArgTree, ExprArg, NoteArg, depth_of_arg, depth_of_args, depth_of_note}
use Rattle.sb_lexicon.specs.Lexicon.{Lexicon}
use Rattle.sb_lexicon.specs.Tokens.{unexpected, too_deep, is_zero, is_open, is_close, bad_arguments, unknown, misplaced}
use Rattle.sb_lexicon.proofs.Depths.{some_depth, some_room, room_is}
use Rattle.sb_parse.proofs.Ways.{and_first, and_second, goes_on_where, Refuses, one_refuses, both_refuse, only_else, halted}
use Rattle.sb_lexicon.proofs.Lexemes.{close_token, close_token_is}
use Rattle.sb_sign.specs.declared.spelling.Arguments.{Arguments}
use Rattle.sb_sign.specs.declared.spelling.Arguments.TheVariants as arguments
use Rattle.sb_sal.specs.Notes.{anywhere, IsNote, is_bare, has_arguments, AreArguments, one_size, two_sizes, a_condition, memory, a_note, guarded, located}
use Rattle.sb_sal.specs.Readers as reader
use Rattle.sb_sal.specs.Readers.{is_nothing, Head, head_of, arguments_by, in_parentheses, lacking, applied, bare, note}
use Rattle.sb_sal.specs.Reads.{FitsNote, IsFillable}
use Rattle.sb_sal.specs.Spellings.{begins_note, arguments_of, is_listed, is_unlisted}
use Rattle.sb_parse.proofs.Partly.{Nowhere, Partly, partly_via, refusing, choosing, opened_head, given, given_at, given_by, begun_head, closed_by}
use Rattle.sb_sal.proofs.Tokens.{listed_with, listed_begins, has_arguments_of, bare_by, bare_takes_nothing, bare_listed, open_token, open_token_is}
use Rattle.sb_sal.proofs.Filled.{own, own_mem, bare_anywhere, anywhere_filled}
use Rattle.sb_sal.proofs.Inside.{more_note, FitsInside, Enclosed, closing_law, sized, conditioned, sized_twice, remembered, noted, guarded_note, located_note}

-- ---- truth values

-- the order in which an annotation is judged, and the annotations first
judged : {O : Type 0} (u l b m z : Bool) (x y a d c e : O) → (u && l) ≡ false → (b && not l) ≡ false
    → (if u then a else (if l && not m then c else (if z && (l && not b) then d else (if b then x else (if l then y else e)))))
    ≡ (if b && m then x else (if l && (not b && (m && not z)) then y else (if u then a else (if l && not m then c else (if z && (l && not b) then d else e)))))
judged true true b m z x y a d c e h k = absurd (cc h)
judged true false true m z x y a d c e h k = absurd (cc k)
judged true false false m z x y a d c e h k = refl
judged false false true m z x y a d c e h k = absurd (cc k)
judged false false false m true x y a d c e h k = refl
judged false false false m false x y a d c e h k = refl
judged false true true true true x y a d c e h k = refl
judged false true true true false x y a d c e h k = refl
judged false true true false true x y a d c e h k = refl
judged false true true false false x y a d c e h k = refl
judged false true false true true x y a d c e h k = refl
judged false true false true false x y a d c e h k = refl
judged false true false false true x y a d c e h k = refl
judged false true false false false x y a d c e h k = refl

pub all_four : (a b c d : Bool) → a ≡ true → b ≡ false → c ≡ true → d ≡ false → (a && (not b && (c && not d))) ≡ true
all_four a b c d h k l m = rw (h, k, l, m) refl

pub of_four : (a b c d : Bool) → (a && (not b && (c && not d))) ≡ true → (a ≡ true) × (b ≡ false) × (c ≡ true) × (d ≡ false)
of_four true false true false h = (refl, refl, refl, refl)
of_four false b c d h = absurd (cc h)
of_four true true c d h = absurd (cc h)
of_four true false false d h = absurd (cc h)
of_four true false true true h = absurd (cc h)

-- ---- depths

pub some_note : (n : NoteTree) → 1 ≤ depth_of_note n
some_note (tree.Note name args place) = omega arith

some_arg : (a : ArgTree) → 1 ≤ depth_of_arg a
some_arg (ExprArg e) = some_depth e
some_arg (NoteArg n) = some_note n

-- an annotation has an argument
pub record HasArgument (args : List ArgTree) : Type 0 where
  pub first : ArgTree
  pub rest : List ArgTree
  pub split : args ≡ first ∷ rest

pub has_argument : (w : Lexicon) (may : Token → Bool) (a : Arguments) (ts : List Token) (args : List ArgTree) → AreArguments w may a ts args → HasArgument args
has_argument w _ _ _ _ (one_size may ts a is) = record { first = a; rest = []; split = refl }
has_argument w _ _ _ _ (two_sizes may xs ys c a b h is also) = record { first = a; rest = b ∷ []; split = refl }
has_argument w _ _ _ _ (a_condition may ts a is) = record { first = a; rest = []; split = refl }
has_argument w _ _ _ _ (memory may t is) = record { first = ExprArg (tree.Identifier t.text t.place); rest = []; split = refl }
has_argument w _ _ _ _ (a_note may ts n is) = record { first = NoteArg n; rest = []; split = refl }
has_argument w _ _ _ _ (guarded may xs ys c a n h is also) = record { first = a; rest = NoteArg n ∷ []; split = refl }
has_argument w _ _ _ _ (located may xs ys c e n h is also) = record { first = ExprArg e; rest = NoteArg n ∷ []; split = refl }

pub some_kind : (w : Lexicon) (may : Token → Bool) (a : Arguments) (ts : List Token) (args : List ArgTree) → AreArguments w may a ts args → is_nothing a ≡ false
some_kind w _ _ _ _ (one_size may ts a is) = refl
some_kind w _ _ _ _ (two_sizes may xs ys c a b h is also) = refl
some_kind w _ _ _ _ (a_condition may ts a is) = refl
some_kind w _ _ _ _ (memory may t is) = refl
some_kind w _ _ _ _ (a_note may ts n is) = refl
some_kind w _ _ _ _ (guarded may xs ys c a n h is also) = refl
some_kind w _ _ _ _ (located may xs ys c e n h is also) = refl

some_args : (args : List ArgTree) → HasArgument args → 1 ≤ depth_of_args (arg_list args)
some_args args h =
    let one : 1 ≤ depth_of_arg h.first = some_arg h.first in
    let less : depth_of_arg h.first ≤ max (depth_of_arg h.first) (depth_of_args (arg_list h.rest)) = le-max_left (depth_of_arg h.first) (depth_of_args (arg_list h.rest)) in
    subst (λ z. 1 ≤ depth_of_args (arg_list z)) (sym h.split) (omega arith)

pub note_begins : (w : Lexicon) (may : Token → Bool) (ts : List Token) (n : NoteTree) → IsNote w may ts n → at_next (begins_note w) ts ≡ true
note_begins w _ _ _ (is_bare m t stands nothing_) = listed_begins w t (listed_with w t arguments.Nothing nothing_)
note_begins w _ _ _ (has_arguments m t o c a ts args stands takes_ opens closes are) = listed_begins w t (listed_with w t a takes_)

module _ (w : Lexicon) (below : ℕ) (part : (Token → Bool) → Parser Token NoteTree) (may : Token → Bool)
    (N : (m : Token → Bool) → IsFillable w m → OnHead (begins_note w) (FitsNote w below m) (more_note w) (part m)) (F : IsFillable w may) where
  -- ---- an annotation without arguments

  abbrev is_good_bare : Token → Bool
  is_good_bare t = reader.is_bare w t && may t

  abbrev BareText : List Token → NoteTree → Type 0
  BareText = Opened is_good_bare (λ t. IsEmpty (tree.Note t.text tree.NoArgs t.place))

  bare_head : OnHead is_good_bare BareText (more_note w) (bare w below part may)
  unfolding bare
  bare_head =
      opened_head unexpected is_good_bare (reader.is_bare w) (λ t h. and_first (reader.is_bare w t) (may t) h)
      (λ t h. goes_on_where (halted (nothing (tree.Note t.text tree.NoArgs t.place)) (λ n. is_open w) bad_arguments) (more_note w) (λ ts n is u. ap (λ z. more_note w z u) is.same))

  -- ---- an annotation with arguments

  abbrev takes : Token → Bool
  takes t = is_listed w t && (not (reader.is_bare w t) && (may t && not (is_zero below)))

  abbrev tree_with : Head → List ArgTree → NoteTree
  tree_with h args = tree.Note h.name (arg_list args) h.place

  abbrev ParenthesesText : Head → List Token → NoteTree → Type 0
  ParenthesesText h = Opened (is_open w) (λ o. Mapped (tree_with h) (Closed (is_close w) (FitsInside w below may h.arguments)))

  abbrev AppliedText : List Token → NoteTree → Type 0
  AppliedText = Begun (given takes (head_of w)) ParenthesesText

  pub enclosed : (t : Token) (a : Arguments) → 1 ≤ below → may t ≡ true → arguments_of w t ≡ Some a → is_nothing a ≡ false → Enclosed w (FitsInside w below may a) (arguments_by w below part may a)
  enclosed t arguments.Nothing some m e h = absurd (cc h)
  enclosed t arguments.Size some m e h = sized w below part may some
  enclosed t arguments.Sizes some m e h = sized_twice w below part may some
  enclosed t arguments.Condition some m e h = conditioned w below part may some
  enclosed t arguments.Memory some m e h = remembered w below part may some (own w 2) (own_mem w 2 refl)
  enclosed t arguments.Note some m e h = noted w below part may some (N may F) (F.note t m e)
  enclosed t arguments.GuardedNote some m e h = guarded_note w below part may some (N may F) (F.guarded t m e)
  enclosed t arguments.LocatedNote some m e h = located_note w below part may some (N anywhere (anywhere_filled w)) (bare_anywhere w)

  -- what the name of an annotation gives
  pub record IsHead (t : Token) (h : Head) : Type 0 where
    pub gives_arguments : arguments_of w t ≡ Some h.arguments
    gives_name : h.name ≡ t.text
    gives_place : h.place ≡ t.place

  pub is_head : (t : Token) (h : Head) → head_of w t ≡ Some h → IsHead t h
  is_head t h e = go (arguments_of w t) refl e
    where
      go : (o : Option Arguments) → arguments_of w t ≡ o → option_map_or {U = Option Head} (λ a. Some (record { name = t.text; place = t.place; arguments = a })) o None ≡ Some h → IsHead t h
      go None k e = absurd (cc e)
      go (Some a) k e =
          let it : record { name = t.text; place = t.place; arguments = a } ≡ h = cc e in
          record { gives_arguments = k ∙ ap (λ z. Some z.arguments) it; gives_name = sym (ap (λ z. z.name) it); gives_place = sym (ap (λ z. z.place) it) }

  head_at : (t : Token) (a : Arguments) → arguments_of w t ≡ Some a → head_of w t ≡ Some (record { name = t.text; place = t.place; arguments = a })
  head_at t a h = ap (λ o. option_map_or (λ a. Some (record { name = t.text; place = t.place; arguments = a })) o None) h

  -- nothing goes on behind the parenthesis
  closed_off : (h : Head) (ts : List Token) (n : NoteTree) → ParenthesesText h ts n → (t : Token) → more_note w n t ≡ false
  closed_off h ts n o t =
      let args = has_argument w may h.arguments o.is.is.front o.is.value o.is.is.is.are in
      ap (λ z. more_note w z t) (o.is.same ∙ ap (tree_with h) args.split)

  lacking_refuses : (ts : List Token) → Refuses (lacking w below part may) ts
  lacking_refuses ts = both_refuse (λ t. true) (refuse bad_arguments) (refuse unexpected) ts (one_refuses bad_arguments ts) (one_refuses unexpected ts)

  parentheses_law : (h : Head) → Enclosed w (FitsInside w below may h.arguments) (arguments_by w below part may h.arguments)
      → Lawful (ParenthesesText h) (more_note w) (choose (is_open w) (in_parentheses w below part may h) (lacking w below part may))
  unfolding in_parentheses
  parentheses_law h N =
      goes_on_where (only_else (lacking w below part may) (opened_head unexpected (is_open w) (is_open w) (λ t k. k) (λ o k. closed_by (closing_law w below) N.law N.ends (tree_with h))) lacking_refuses
      (open_token ∷ (N.law.some.0 ++ (close_token ∷ []))) (tree_with h N.law.some.1) (record {
        opening = open_token;
        rest = N.law.some.0 ++ (close_token ∷ []);
        split = refl;
        passes = open_token_is w;
        is = record { value = N.law.some.1; is = record { front = N.law.some.0; closing = close_token; split = refl; is = N.law.some.2; passes = close_token_is w }; same = refl };
      })) (more_note w) (closed_off h)

  a_head : (t : Token) → takes t ≡ true → (h : Head) × (head_of w t ≡ Some h)
  a_head t k =
      let all = of_four (is_listed w t) (reader.is_bare w t) (may t) (is_zero below) k in
      let a : (a : Arguments) × (arguments_of w t ≡ Some a) = has_arguments_of w t all.0 in
      (record { name = t.text; place = t.place; arguments = a.0 }, head_at t a.0 a.1)

  behind_head : (t : Token) (h : Head) → takes t ≡ true → head_of w t ≡ Some h → Lawful (ParenthesesText h) (more_note w) (choose (is_open w) (in_parentheses w below part may h) (lacking w below part may))
  behind_head t h k e =
      let all = of_four (is_listed w t) (reader.is_bare w t) (may t) (is_zero below) k in
      let it : IsHead t h = is_head t h e in
      parentheses_law h (enclosed t h.arguments (room_is below all.3) all.2 it.gives_arguments (sym (bare_by w t h.arguments it.gives_arguments) ∙ all.1))

  applied_head : OnHead takes AppliedText (more_note w) (applied w below part may)
  unfolding applied
  applied_head = begun_head {Is = ParenthesesText} unexpected takes (head_of w) a_head behind_head

  -- ---- either

  abbrev is_misplaced : Token → Bool
  is_misplaced t = is_listed w t && not (may t)

  abbrev is_deep : Token → Bool
  is_deep t = is_zero below && (is_listed w t && not (reader.is_bare w t))

  abbrev refused : Parser Token NoteTree
  refused = choose (is_unlisted w) (refuse unknown) (choose is_misplaced (refuse misplaced) (choose is_deep (refuse too_deep) (refuse unexpected)))

  refused_refuses : (ts : List Token) → Refuses refused ts
  refused_refuses ts =
      both_refuse (is_unlisted w) (refuse unknown) (choose is_misplaced (refuse misplaced) (choose is_deep (refuse too_deep) (refuse unexpected))) ts (one_refuses unknown ts)
      (both_refuse is_misplaced (refuse misplaced) (choose is_deep (refuse too_deep) (refuse unexpected)) ts (one_refuses misplaced ts)
      (both_refuse is_deep (refuse too_deep) (refuse unexpected) ts (one_refuses too_deep ts) (one_refuses unexpected ts)))

  abbrev sorted : Parser Token NoteTree
  sorted = choose is_good_bare (bare w below part may) (choose takes (applied w below part may) refused)

  unlisted_apart : (t : Token) → (is_unlisted w t && is_listed w t) ≡ false
  unlisted_apart t = go (begins_note w t) (is_listed w t)
    where
      go : (b l : Bool) → ((b && not l) && l) ≡ false
      go true true = refl
      go true false = refl
      go false l = refl

  bare_within : (t : Token) → (reader.is_bare w t && not (is_listed w t)) ≡ false
  bare_within t = go (reader.is_bare w t) refl
    where
      go : (b : Bool) → reader.is_bare w t ≡ b → (b && not (is_listed w t)) ≡ false
      go true h = ap not (bare_listed w t h)
      go false h = refl

  note_as : (ts : List Token) → note w below part may ts ≡ sorted ts
  unfolding note
  note_as [] = refl
  note_as (t ∷ ts) =
      judged (is_unlisted w t) (is_listed w t) (reader.is_bare w t) (may t) (is_zero below) (bare w below part may (t ∷ ts)) (applied w below part may (t ∷ ts)) (refuse unknown (t ∷ ts)) (refuse too_deep (t ∷ ts))
      (refuse misplaced (t ∷ ts)) (refuse unexpected (t ∷ ts)) (unlisted_apart t) (bare_within t)

  abbrev NoteText : List Token → NoteTree → Type 0
  NoteText = Either BareText (Either AppliedText Nowhere)

  bare_apart : (ts : List Token) (n : NoteTree) (rest : List Token) → Either AppliedText Nowhere ts n → at_next (more_note w n) rest ≡ false → at_next is_good_bare (ts ++ rest) ≡ false
  bare_apart ts n rest (inr none) off = absurd none
  bare_apart ts n rest (inl b) off =
      let g = given_by takes (head_of w) b.opening b.value b.gives_it in
      ap (λ z. at_next is_good_bare (z ++ rest)) b.split ∙ ap (λ z. z && may b.opening) (of_four (is_listed w b.opening) (reader.is_bare w b.opening) (may b.opening) (is_zero below) g.0).1

  note_to : (ts : List Token) (n : NoteTree) → NoteText ts n → FitsNote w (suc below) may ts n
  note_to ts n (inl o) =
      let b : reader.is_bare w o.opening ≡ true = and_first (reader.is_bare w o.opening) (may o.opening) o.passes in
      let m : may o.opening ≡ true = and_second (reader.is_bare w o.opening) (may o.opening) o.passes in
      subst₂ (FitsNote w (suc below) may) (sym (o.split ∙ ap (λ z. o.opening ∷ z) o.is.none)) (sym o.is.same) (is_bare may o.opening m (bare_takes_nothing w o.opening b), omega arith)
  note_to ts n (inr (inr none)) = absurd none
  note_to ts n (inr (inl b)) =
      let g = given_by takes (head_of w) b.opening b.value b.gives_it in
      let all = of_four (is_listed w b.opening) (reader.is_bare w b.opening) (may b.opening) (is_zero below) g.0 in
      let h : IsHead b.opening b.value = is_head b.opening b.value g.1 in
      let o = b.is in
      let m = o.is in
      let c = m.is in
      let deep : depth_of_args (arg_list m.value) ≤ below = c.is.deep in
      subst₂ (FitsNote w (suc below) may) (sym (b.split ∙ ap (λ z. b.opening ∷ z) (o.split ∙ ap (λ z. o.opening ∷ z) c.split)))
      (sym (m.same ∙ ap (λ z. tree.Note z (arg_list m.value) b.value.place) h.gives_name ∙ ap (λ z. tree.Note b.opening.text (arg_list m.value) z) h.gives_place))
      (has_arguments may b.opening o.opening c.closing b.value.arguments c.front m.value all.2 h.gives_arguments o.passes c.passes c.is.are, omega arith)

  note_from : (ts : List Token) (n : NoteTree) → IsNote w may ts n → depth_of_note n ≤ suc below → NoteText ts n
  note_from _ _ (is_bare m t stands nothing_) le =
      inl (record { opening = t; rest = []; split = refl; passes = ap (λ z. z && may t) (bare_by w t arguments.Nothing nothing_) ∙ stands; is = record { none = refl; same = refl } })
  note_from _ _ (has_arguments m t o c a ts args stands takes_ opens closes are) le =
      let one : 1 ≤ depth_of_args (arg_list args) = some_args args (has_argument w may a ts args are) in
      let fits : depth_of_args (arg_list args) ≤ below = omega arith in
      let good : takes t ≡ true = all_four (is_listed w t) (reader.is_bare w t) (may t) (is_zero below) (listed_with w t a takes_) (bare_by w t a takes_ ∙ some_kind w may a ts args are) stands (some_room below 1 (omega arith) (omega arith)) in
      inr (inl (record {
        opening = t;
        value = record { name = t.text; place = t.place; arguments = a };
        rest = o ∷ (ts ++ (c ∷ []));
        split = refl;
        gives_it = given_at takes (head_of w) t good ∙ head_at t a takes_;
        is = record {
          opening = o;
          rest = ts ++ (c ∷ []);
          split = refl;
          passes = opens;
          is = record { value = args; is = record { front = ts; closing = c; split = refl; is = record { are = are; deep = fits }; passes = closes }; same = refl };
        };
      }))

  pub note_law : Partly (FitsNote w (suc below) may) (more_note w) (note w below part may)
  note_law =
      partly_via (choosing bare_head (choosing applied_head (refusing (more_note w) refused refused_refuses) (λ ts n rest none off. absurd none)) bare_apart) note_to (λ ts n f. note_from ts n f.0 f.1)
      (note w below part may) note_as
