-- The readers of conditions keep the laws: they read by the relation of expressions.
use Rattle.std.proofs.Common.{◌≡◌, ℕ, zero, suc, Bool, true, false, ◌||◌, List, [], ◌∷◌, ◌++◌, Option, Some, None, Ok, is_some, refl, sym, ap, ◌∙◌, subst, subst₂, append_assoc, append-nil, inl, inr, arith}
use Rattle.sb_parse.specs.Parser.{at_next, never, ◌>>=◌, pure, taken, choose, guard}
use Rattle.sb_parse.specs.Lawful.{Lawful, OnHead, Follows, Joined, Begun, Opened, Closed, IsValue, IsEmpty, Mapped, Unbarred, Either, Turns, over, turn}
use Rattle.sb_parse.proofs.Joining.{in_order, from_there, via, one_value, map_of}
use Rattle.sb_parse.proofs.Heads.{opened, opened_heads, begun, begun_heads, headed, at_head, guarded, choice_of}
use Rattle.sb_parse.proofs.Looping.{looping}
use Rattle.sb_cond.specs.declared.arithmetic.Operand.{Operand}
use Rattle.sb_cond.specs.declared.arithmetic.Operator.{Operator}
use Rattle.sb_cond.specs.declared.arithmetic.Prefix.TheVariants as prefix
use Rattle.sb_cond.specs.declared.sign.ConditionToken.{ConditionToken}
use Rattle.sb_cond.specs.declared.sign.Sign.{Sign}
use Rattle.sb_cond.specs.declared.sign.Sign.TheVariants as sign
use Rattle.sb_cond.specs.declared.expression.Entry.{Entry}
use Rattle.sb_cond.specs.declared.expression.Entry.TheVariants as entry
use Rattle.sb_cond.specs.Arithmetic.{binary, unary, selected, in_sequence, fault_of, fault_selected}
use Rattle.sb_cond.specs.Expression.{operand_of, prefix_of, operator_of, is_open, is_close, is_question, is_colon, comma_of, Level, Primary, Infix, Conditional, Sequence, IsExpression, is_operand, is_grouped, is_primary, is_prefixed, is_tighter, is_binary, is_infix, is_selected, is_conditional, is_sequence}
use Rattle.sb_cond.specs.Readers.{Reader, number_of, number_after, number_behind, number_first, number_second, number_in_sequence, telling, is_prefix, is_operator, is_comma, is_zero, group, primary, prefix_expression, operand, operation_on, infix_at, second_branch, branches, conditional, comma_on, sequence, at_entry, below}
use Rattle.sb_cond.proofs.Signs.{goes_on, goes_on_conditional, goes_on_sequence, operand_not_open, operand_not_prefix, open_not_prefix, looser, question_ends, close_ends, colon_ends, comma_ends}
use Rattle.sb_cond.proofs.Steps.{told, closed_by, perhaps_there, turned_once_more}

abbrev pub level_of : Entry → Level
level_of entry.Operand = Infix 0
level_of entry.Branch = Conditional
level_of entry.Whole = Sequence

abbrev pub goes : Entry → Operand → ConditionToken → Bool
goes entry.Operand a t = false
goes entry.Branch a t = goes_on_conditional t
goes entry.Whole a t = goes_on_sequence t

abbrev pub less_one : ℕ → ℕ
less_one zero = zero
less_one (suc left) = left

abbrev here : Sign → ConditionToken
here s = record { sign = s; at = 0 }

abbrev zero_token : ConditionToken
zero_token = here (sign.Number 0 false)

abbrev zero_operand : Operand
zero_operand = record { unsigned = false; value = Ok 0 }

-- the laws of the readers one level deeper, if there is one
abbrev pub Deeper : ℕ → Type 0
Deeper left = is_zero left ≡ false → (e : Entry) → Lawful (IsExpression (less_one left) (level_of e)) (goes e) (below left e)

module _ (left : ℕ) (P : Deeper left) where
  abbrev pub bar : Bool
  bar = is_zero left

  abbrev pub part : Entry → Reader
  part = below left

  -- ---- parentheses

  abbrev GroupedText : List ConditionToken → Operand → Type 0
  GroupedText = Opened is_open (λ o. Closed is_close (IsExpression (less_one left) Sequence))

  grouped_law : bar ≡ false → Lawful GroupedText (λ a. never) (group bar part)
  unfolding group
  grouped_law deep = opened 0 is_open (here sign.Open) refl (λ o passes. closed_by number_after is_close (here sign.Close) refl (P deep entry.Whole) (λ a t h. close_ends t h))

  abbrev PrimaryText : List ConditionToken → Operand → Type 0
  PrimaryText = Either (Unbarred bar GroupedText) (IsValue operand_of)

  to_primary : (left : ℕ) (ts : List ConditionToken) (a : Operand) → Either (Unbarred (is_zero left) (Opened is_open (λ o. Closed is_close (IsExpression (less_one left) Sequence)))) (IsValue operand_of) ts a → IsExpression left Primary ts a
  to_primary left ts a (inr v) = subst (λ l. IsExpression left Primary l a) (sym v.alone) (is_operand left v.token a v.is)
  to_primary zero ts a (inl u) = absurd (cc u.open_way)
  to_primary (suc left) ts a (inl u) =
      let c = u.is.is in
      subst (λ l. IsExpression (suc left) Primary l a) (sym (u.is.split ∙ ap (λ z. u.is.opening ∷ z) c.split)) (is_grouped left u.is.opening c.closing c.front a u.is.passes c.passes c.is)

  from_primary : (left : ℕ) (ts : List ConditionToken) (a : Operand) → IsExpression left Primary ts a → Either (Unbarred (is_zero left) (Opened is_open (λ o. Closed is_close (IsExpression (less_one left) Sequence)))) (IsValue operand_of) ts a
  from_primary _ _ _ (is_operand left t a e) = inr (record { token = t; alone = refl; is = e })
  from_primary _ _ _ (is_grouped left o c xs a opens closes is) =
      inl (record { open_way = refl; is = record { opening = o; rest = xs ++ (c ∷ []); split = refl; passes = opens; is = record { front = xs; closing = c; split = refl; is = is; passes = closes } } })

  primary_law : Lawful (IsExpression left Primary) (λ a. never) (primary bar part)
  unfolding primary
  primary_law =
      via (choice_of (guarded bar 0 (λ deep. headed (grouped_law deep) is_open opened_heads)) (one_value 0 operand_of zero_token zero_operand refl)
      (λ ts a rest v e. ap (λ l. at_next is_open (l ++ rest)) v.alone ∙ operand_not_open v.token a v.is)) (to_primary left) (from_primary left) (primary bar part) (λ ts. refl)

  -- ---- operators before an operand

  abbrev PrefixedText : ℕ → List ConditionToken → Operand → Type 0
  PrefixedText left = Begun prefix_of (λ op. Mapped (unary op) (IsExpression (less_one left) (Infix 0)))

  prefixed_law : bar ≡ false → Lawful (PrefixedText left) (λ a. never) (prefix_expression bar part)
  unfolding prefix_expression
  prefixed_law deep = begun 0 prefix_of (here sign.Not) prefix.Not refl (λ s op e. map_of (P deep entry.Operand) (unary op) (λ a. never) (λ a t. refl))

  to_operand : (left : ℕ) (ts : List ConditionToken) (a : Operand) → Either (Unbarred (is_zero left) (PrefixedText left)) (IsExpression left Primary) ts a → IsExpression left (Infix 0) ts a
  to_operand left ts a (inr is) = is_primary left ts a is
  to_operand zero ts a (inl u) = absurd (cc u.open_way)
  to_operand (suc left) ts a (inl u) =
      subst₂ (IsExpression (suc left) (Infix 0)) (sym u.is.split) (sym u.is.is.same) (is_prefixed left u.is.opening u.is.value u.is.rest u.is.is.value u.is.gives_it u.is.is.is)

  from_operand : (left : ℕ) (ts : List ConditionToken) (a : Operand) → IsExpression left (Infix 0) ts a → Either (Unbarred (is_zero left) (PrefixedText left)) (IsExpression left Primary) ts a
  from_operand _ _ _ (is_primary left xs a is) = inr is
  from_operand _ _ _ (is_prefixed left t op xs a e is) =
      inl (record { open_way = refl; is = record { opening = t; value = op; rest = xs; split = refl; gives_it = e; is = record { value = a; is = is; same = refl } } })

  primary_not_prefixed : (left : ℕ) (ts : List ConditionToken) (a : Operand) (rest : List ConditionToken) → IsExpression left Primary ts a → at_next is_prefix (ts ++ rest) ≡ false
  primary_not_prefixed _ _ _ rest (is_operand left t a e) = operand_not_prefix t a e
  primary_not_prefixed _ _ _ rest (is_grouped left o c xs a opens closes is) = open_not_prefix o opens

  operand_law : Lawful (IsExpression left (Infix 0)) (λ a. never) (operand bar part)
  unfolding operand
  operand_law =
      via (choice_of (guarded bar 0 (λ deep. headed (prefixed_law deep) is_prefix begun_heads)) primary_law (λ ts a rest is e. primary_not_prefixed left ts a rest is)) (to_operand left) (from_operand left) (operand bar part) (λ ts. refl)

  -- ---- operators between operands

  abbrev pub Turn : ℕ → Operand → List ConditionToken → Operand → Type 0
  Turn k a = Begun (operator_of (suc k)) (λ op. Mapped (binary op.1 op.0 a) (IsExpression left (Infix k)))

  pub turns_are : (k : ℕ) (a c : Operand) (xs ys : List ConditionToken) → IsExpression left (Infix (suc k)) xs a → Turns (Turn k) a ys c → IsExpression left (Infix (suc k)) (xs ++ ys) c
  turns_are k _ _ xs _ is (over a) = subst (λ l. IsExpression left (Infix (suc k)) l a) (sym (append-nil xs)) is
  turns_are k _ _ xs _ is (turn a b c us vs first rest) =
      let once : IsExpression left (Infix (suc k)) (xs ++ us) b =
      subst₂ (IsExpression left (Infix (suc k))) (sym (ap (λ l. xs ++ l) first.split)) (sym first.is.same)
      (is_binary left k first.value.1 first.opening first.value.0 xs first.rest a first.is.value first.gives_it is first.is.is) in
      subst (λ l. IsExpression left (Infix (suc k)) l c) (append_assoc xs us vs) (turns_are k b c (xs ++ us) vs once rest)

  to_infix : (k : ℕ) (ts : List ConditionToken) (a : Operand) → Joined (IsExpression left (Infix k)) (Turns (Turn k)) ts a → IsExpression left (Infix (suc k)) ts a
  to_infix k ts a j = subst (λ l. IsExpression left (Infix (suc k)) l a) (sym j.split) (turns_are k j.value a j.before j.after (is_tighter left k j.before j.value j.first) j.second)

  from_infix : (left k : ℕ) (ts : List ConditionToken) (a : Operand) → IsExpression left (Infix (suc k)) ts a
      → Joined (IsExpression left (Infix k)) (Turns (λ a. Begun (operator_of (suc k)) (λ op. Mapped (binary op.1 op.0 a) (IsExpression left (Infix k))))) ts a
  from_infix _ _ _ _ (is_tighter left k xs a is) = record { before = xs; after = []; value = a; split = sym (append-nil xs); first = is; second = over a }
  from_infix _ _ _ _ (is_binary left k at t op xs ys a b e is_left is_right) =
      let j = from_infix left k xs a is_left in
      record {
        before = j.before;
        after = j.after ++ (t ∷ ys);
        value = j.value;
        split = ap (λ l. l ++ (t ∷ ys)) j.split ∙ append_assoc j.before j.after (t ∷ ys);
        first = j.first;
        second = turned_once_more j.value a (binary at op a b) j.after (t ∷ ys) j.second (record { opening = t; value = (op, at); rest = ys; split = refl; gives_it = e; is = record { value = b; is = is_right; same = refl } });
      }

  pub operated_head : (k : ℕ) → Lawful (IsExpression left (Infix k)) (λ a. goes_on k) (infix_at bar part k) → (a : Operand) → OnHead (is_operator (suc k)) (Turn k a) (λ b. goes_on k) (operation_on bar part k (infix_at bar part k) a)
  unfolding operation_on
  operated_head k L a = at_head (is_operator (suc k)) (λ t h. with_operator t (operator_of (suc k) t) refl h) begun_heads
    where
      with_operator : (t : ConditionToken) (o : Option (Operator × ℕ)) → operator_of (suc k) t ≡ o → is_some o ≡ true
          → Lawful (Turn k a) (λ b. goes_on k) (taken 0 (operator_of (suc k)) >>= (λ op. telling (number_behind op.0 a) (infix_at bar part k) >>= (λ b. pure (binary op.1 op.0 a b))))
      with_operator t None e h = absurd (cc h)
      with_operator t (Some op) e h = begun 0 (operator_of (suc k)) t op e (λ s o is. map_of (told (number_behind o.0 a) L) (binary o.1 o.0 a) (λ b. goes_on k) (λ b r. refl))

  pub infix_law : (k : ℕ) → Lawful (IsExpression left (Infix k)) (λ a. goes_on k) (infix_at bar part k)
  unfolding infix_at
  infix_law zero = operand_law
  infix_law (suc k) = via (looping (operated_head k (infix_law k)) (λ a t h. looser k (suc k) t (omega arith) h) (infix_law k)) (to_infix k) (from_infix left k) (infix_at bar part (suc k)) (λ ts. refl)

  -- ---- `?:`

  abbrev SecondText : ℕ → Operand → Operand → List ConditionToken → Operand → Type 0
  SecondText left a b = Opened is_colon (λ c. Mapped (selected a b) (IsExpression (less_one left) Conditional))

  abbrev BranchesText : ℕ → Operand → List ConditionToken → Operand → Type 0
  BranchesText left a = Opened is_question (λ q. Joined (IsExpression (less_one left) Sequence) (SecondText left a))

  second_law : bar ≡ false → (a b : Operand) → Lawful (SecondText left a b) (λ d. goes_on_conditional) (second_branch bar part a b)
  unfolding second_branch
  second_law deep a b = opened (number_of (fault_selected a.value (fault_of b.value) None)) is_colon (here sign.Colon) refl (λ c passes. map_of (told (number_second a b) (P deep entry.Branch)) (selected a b) (λ d. goes_on_conditional) (λ d t. refl))

  branches_law : bar ≡ false → (a : Operand) → Lawful (BranchesText left a) (λ d. goes_on_conditional) (branches bar part a)
  unfolding branches
  branches_law deep a = opened 0 is_question (here sign.Question) refl (λ q passes.
      in_order {Second = SecondText left a} {q = second_branch bar part a} (told (number_first a) (P deep entry.Whole)) (λ xs b is. second_law deep a b)
      (λ xs b ys d rest is second e. ap (λ l. at_next goes_on_sequence (l ++ rest)) second.split ∙ colon_ends second.opening second.passes))

  abbrev MaybeBranches : ℕ → Operand → List ConditionToken → Operand → Type 0
  MaybeBranches left a = Either (Unbarred (is_zero left) (BranchesText left a)) (IsEmpty a)

  maybe_law : (a : Operand) → Follows (goes_on 10) (MaybeBranches left a) (λ d. goes_on_conditional) (choose is_question (guard bar (number_after a) (branches bar part a)) (pure a))
  maybe_law a = perhaps_there a (guarded bar (number_after a) (λ deep. headed (branches_law deep a) is_question opened_heads)) (λ t. refl)

  stays_apart : (a : Operand) (ys : List ConditionToken) (b : Operand) (rest : List ConditionToken) → MaybeBranches left a ys b → at_next goes_on_conditional rest ≡ false → at_next (goes_on 10) (ys ++ rest) ≡ false
  stays_apart a ys b rest (inl u) e = ap (λ l. at_next (goes_on 10) (l ++ rest)) u.is.split ∙ question_ends u.is.opening u.is.passes
  stays_apart a ys b rest (inr m) e = ap (λ l. at_next (goes_on 10) (l ++ rest)) m.none ∙ only_infix rest e
    where
      second_fails : (b c : Bool) → (b || c) ≡ false → c ≡ false
      second_fails true c h = absurd (cc h)
      second_fails false c h = h

      only_infix : (rest : List ConditionToken) → at_next goes_on_conditional rest ≡ false → at_next (goes_on 10) rest ≡ false
      only_infix [] h = refl
      only_infix (t ∷ rest) h = second_fails (is_question t) (goes_on 10 t) h

  maybe_is : (left : ℕ) (xs ys ts : List ConditionToken) (v a : Operand) → ts ≡ xs ++ ys → IsExpression left (Infix 10) xs v → MaybeBranches left v ys a → IsExpression left Conditional ts a
  maybe_is left xs ys ts v a split is (inr m) = subst₂ (IsExpression left Conditional) (sym (split ∙ ap (λ l. xs ++ l) m.none ∙ append-nil xs)) (sym m.same) (is_infix left xs v is)
  maybe_is zero xs ys ts v a split is (inl u) = absurd (cc u.open_way)
  maybe_is (suc left) xs ys ts v a split is (inl u) =
      let j : Joined (IsExpression left Sequence) (SecondText (suc left) v) u.is.rest a = u.is.is in
      let s : SecondText (suc left) v j.value j.after a = j.second in
      subst₂ (IsExpression (suc left) Conditional) (sym (split ∙ ap (λ l. xs ++ l) (u.is.split ∙ ap (λ l. u.is.opening ∷ l) (j.split ∙ ap (λ l. j.before ++ l) s.split)))) (sym s.is.same)
      (is_selected left u.is.opening s.opening xs j.before s.rest v j.value s.is.value u.is.passes s.passes is j.first s.is.is)

  to_conditional : (left : ℕ) (ts : List ConditionToken) (a : Operand) → Joined (IsExpression left (Infix 10)) (MaybeBranches left) ts a → IsExpression left Conditional ts a
  to_conditional left ts a j = maybe_is left j.before j.after ts j.value a j.split j.first j.second

  from_conditional : (left : ℕ) (ts : List ConditionToken) (a : Operand) → IsExpression left Conditional ts a → Joined (IsExpression left (Infix 10)) (MaybeBranches left) ts a
  from_conditional _ _ _ (is_infix left xs a is) = record { before = xs; after = []; value = a; split = sym (append-nil xs); first = is; second = inr (record { none = refl; same = refl }) }
  from_conditional _ _ _ (is_selected left q c xs ys zs a b d question colon first second third) = record {
    before = xs;
    after = q ∷ (ys ++ (c ∷ zs));
    value = a;
    split = refl;
    first = first;
    second = inl (record {
      open_way = refl;
      is = record {
        opening = q;
        rest = ys ++ (c ∷ zs);
        split = refl;
        passes = question;
        is = record { before = ys; after = c ∷ zs; value = b; split = refl; first = second; second = record { opening = c; rest = zs; split = refl; passes = colon; is = record { value = d; is = third; same = refl } } };
      };
    });
  }

  pub conditional_law : Lawful (IsExpression left Conditional) (λ a. goes_on_conditional) (conditional bar part)
  unfolding conditional
  conditional_law =
      via (from_there {Second = MaybeBranches left} {q = λ a. choose is_question (guard bar (number_after a) (branches bar part a)) (pure a)} (infix_law 10) (λ xs a is. maybe_law a)
      (λ xs a ys b rest is second e. stays_apart a ys b rest second e)) (to_conditional left) (from_conditional left) (conditional bar part) (λ ts. refl)

  -- ---- the comma

  abbrev pub Following : Operand → List ConditionToken → Operand → Type 0
  Following a = Begun comma_of (λ at. Mapped (in_sequence at a) (IsExpression left Conditional))

  pub followed_head : (a : Operand) → OnHead is_comma (Following a) (λ b. goes_on_conditional) (comma_on bar part a)
  unfolding comma_on
  followed_head a =
      headed (begun 0 comma_of (here sign.Comma) 0 refl (λ s at e. map_of (told (number_in_sequence at a) conditional_law) (in_sequence at a) (λ b. goes_on_conditional) (λ b t. refl))) is_comma begun_heads

  pub sequences_are : (a c : Operand) (xs ys : List ConditionToken) → IsExpression left Sequence xs a → Turns Following a ys c → IsExpression left Sequence (xs ++ ys) c
  sequences_are _ _ xs _ is (over a) = subst (λ l. IsExpression left Sequence l a) (sym (append-nil xs)) is
  sequences_are _ _ xs _ is (turn a b c us vs first rest) =
      let once : IsExpression left Sequence (xs ++ us) b =
      subst₂ (IsExpression left Sequence) (sym (ap (λ l. xs ++ l) first.split)) (sym first.is.same)
      (is_sequence left first.value first.opening xs first.rest a first.is.value first.gives_it is first.is.is) in
      subst (λ l. IsExpression left Sequence l c) (append_assoc xs us vs) (sequences_are b c (xs ++ us) vs once rest)

  to_sequence : (ts : List ConditionToken) (a : Operand) → Joined (IsExpression left Conditional) (Turns Following) ts a → IsExpression left Sequence ts a
  to_sequence ts a j = subst (λ l. IsExpression left Sequence l a) (sym j.split) (sequences_are j.value a j.before j.after (is_conditional left j.before j.value j.first) j.second)

  from_sequence : (left : ℕ) (ts : List ConditionToken) (a : Operand) → IsExpression left Sequence ts a
      → Joined (IsExpression left Conditional) (Turns (λ a. Begun comma_of (λ at. Mapped (in_sequence at a) (IsExpression left Conditional)))) ts a
  from_sequence _ _ _ (is_conditional left xs a is) = record { before = xs; after = []; value = a; split = sym (append-nil xs); first = is; second = over a }
  from_sequence _ _ _ (is_sequence left at t xs ys a b e is_left is_right) =
      let j = from_sequence left xs a is_left in
      record {
        before = j.before;
        after = j.after ++ (t ∷ ys);
        value = j.value;
        split = ap (λ l. l ++ (t ∷ ys)) j.split ∙ append_assoc j.before j.after (t ∷ ys);
        first = j.first;
        second = turned_once_more j.value a (in_sequence at a b) j.after (t ∷ ys) j.second (record { opening = t; value = at; rest = ys; split = refl; gives_it = e; is = record { value = b; is = is_right; same = refl } });
      }

  sequence_law : Lawful (IsExpression left Sequence) (λ a. goes_on_sequence) (sequence bar part)
  unfolding sequence
  sequence_law = via (looping followed_head (λ a t h. comma_ends t h) conditional_law) to_sequence (from_sequence left) (sequence bar part) (λ ts. refl)

  pub entry_law : (e : Entry) → Lawful (IsExpression left (level_of e)) (goes e) (at_entry bar part e)
  entry_law entry.Operand = operand_law
  entry_law entry.Branch = conditional_law
  entry_law entry.Whole = sequence_law

pub deeper : (left : ℕ) → Deeper left
unfolding below
deeper zero off e = absurd (cc off)
deeper (suc left) off e = entry_law left (deeper left) e

-- at every depth
pub lawful : (left : ℕ) (e : Entry) → Lawful (IsExpression left (level_of e)) (goes e) (at_entry (is_zero left) (below left) e)
lawful left e = entry_law left (deeper left) e
