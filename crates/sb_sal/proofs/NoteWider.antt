-- The readers of annotations of each depth, and those of a greater one; and what a list of annotations is at its first token, at any depth.
use Rattle.std.proofs.Common.{◌≡◌, ◌≤◌, ℕ, zero, suc, Bool, true, false, ◌&&◌, not, List, [], ◌∷◌, ◌++◌, length, nat_lt, if◌then◌else◌, refl, sym, ap, ◌∙◌, arith}
use Rattle.sb_base.specs.declared.tokens.Token.{Token}
use Rattle.sb_parse.specs.Parser.{Outcome, Parser, done, stop, at_next, and_then, ◌>>=◌, pure, token, taken, choose, guard, refuse, loop}
use Rattle.sb_parse.proofs.Heads.{chosen}
use Rattle.sb_tree.specs.Plain.{arg_list}
use Rattle.sb_tree.specs.Trees as tree
use Rattle.sb_tree.specs.Trees.{NoteTree, ArgTree, ExprArg, NoteArg}
use Rattle.sb_expr.specs.Expression.{Assignment}
use Rattle.sb_lexicon.specs.Lexicon.{Lexicon}
use Rattle.sb_expr.specs.Readers.{expr_reader}
use Rattle.sb_lexicon.specs.Tokens.{unexpected, too_deep, unknown, misplaced, is_zero, is_open, is_star}
use Rattle.sb_parse.proofs.Ways.{and_first}
use Rattle.sb_lexicon.proofs.Wider.{Held, short, same, Wider, alike, one_by_one, behind, before, guarding, choosing, turning, room_wider}
use Rattle.sb_expr.proofs.widening.EachDepth.{parts_wider}
use Rattle.sb_sign.specs.declared.spelling.Arguments.{Arguments}
use Rattle.sb_sign.specs.declared.spelling.Arguments.TheVariants as arguments
use Rattle.sb_sal.specs.Notes.{inside, anywhere}
use Rattle.sb_sal.specs.Readers.{Head, head_of, named, is_arrow, is_bare, is_return, is_place_name, ending, result, field, parameter, target, location, value, memory, separator, closing, wrong}
use Rattle.sb_sal.specs.Readers.{inner, one, two, arguments_by, in_parentheses, lacking, applied, bare, note, note_reader, next_note, notes_reader}
use Rattle.sb_sal.specs.Spellings.{begins_note, is_listed, is_unlisted}
use Rattle.sb_sal.proofs.Narrower.{narrower}
use Rattle.sb_sal.proofs.Narrower as narrow
use Rattle.sb_sal.proofs.Tokens.{listed_begins, bare_listed}

-- ---- truth values

-- a test that fails wherever another does fails at the next token with it
pub fails_too : (test other : Token → Bool) → ((t : Token) → test t ≡ false → other t ≡ false) → (ts : List Token) → at_next test ts ≡ false → at_next other ts ≡ false
fails_too test other to [] h = refl
fails_too test other to (t ∷ ts) h = to t h

deep_off : (n m : ℕ) → n ≤ m → (b : Bool) → (is_zero n && b) ≡ false → (is_zero m && b) ≡ false
deep_off zero zero le b h = h
deep_off zero (suc m) le b h = refl
deep_off (suc n) zero le b h = absurd (omega arith)
deep_off (suc n) (suc m) le b h = refl

module _ (w : Lexicon) where
  -- ---- arguments

  module _ (n m : ℕ) (le : n ≤ m) where
    value_wider : Wider (value w n) (value w m)
    unfolding value
    value_wider = choosing _ _ _ _ _ (alike _) (before (expr_reader (inside w) n Assignment) (expr_reader (inside w) m Assignment) (λ e. pure (ExprArg e)) ((parts_wider (inside w) n m 0 le).0 Assignment))

    parameter_wider : Wider (parameter w n) (parameter w m)
    unfolding parameter field
    parameter_wider =
        behind (taken unexpected (named w)) _ _
        (λ e. choosing (is_arrow w) (guard (nat_lt n 2) too_deep (field w n e)) (guard (nat_lt m 2) too_deep (field w m e)) (ending w 1 e) (ending w 1 e)
        (guarding (nat_lt n 2) (nat_lt m 2) (field w n e) (field w m e) (room_wider n m 2 le) (alike (field w n e))) (alike (ending w 1 e)))

    location_wider : Wider (location w n) (location w m)
    unfolding location result target
    location_wider =
        choosing (is_return w) (result w n) (result w m) _ _ (alike (result w n))
        (choosing (is_place_name w) (parameter w n) (parameter w m) _ _ parameter_wider
        (choosing (is_star w) (guard (nat_lt n 2) too_deep (target w n)) (guard (nat_lt m 2) too_deep (target w m)) (wrong w) (wrong w)
        (guarding (nat_lt n 2) (nat_lt m 2) (target w n) (target w m) (room_wider n m 2 le) (alike (target w n))) (alike (wrong w))))

  -- ---- one annotation

  module _ (n m : ℕ) (le : n ≤ m) (part more : (Token → Bool) → Parser Token NoteTree) (P : (may : Token → Bool) → Wider (part may) (more may)) (may : Token → Bool) where
    inner_wider : (other : Token → Bool) → Wider (inner w n part may other) (inner w m more may other)
    unfolding inner
    inner_wider other =
        choosing (begins_note w) (part other >>= (λ n. pure (NoteArg n))) (more other >>= (λ n. pure (NoteArg n))) (wrong w) (wrong w) (before (part other) (more other) (λ n. pure (NoteArg n)) (P other)) (alike (wrong w))

    one_wider : (p q : Parser Token ArgTree) → Wider p q → Wider (one w n part may p) (one w m more may q)
    unfolding one
    one_wider p q h = before p q (λ a. pure (a ∷ [])) h

    two_wider : (p q r s : Parser Token ArgTree) → Wider p q → Wider r s → Wider (two w n part may p r) (two w m more may q s)
    unfolding two separator
    two_wider p q r s h k =
        one_by_one p q (λ a. separator w n >>= (λ c. r >>= (λ b. pure (a ∷ (b ∷ []))))) (λ a. separator w m >>= (λ c. s >>= (λ b. pure (a ∷ (b ∷ []))))) h
        (λ a. behind (separator w n) (λ c. r >>= (λ b. pure (a ∷ (b ∷ [])))) (λ c. s >>= (λ b. pure (a ∷ (b ∷ [])))) (λ c. before r s (λ b. pure (a ∷ (b ∷ []))) k))

    arguments_wider : (a : Arguments) → Wider (arguments_by w n part may a) (arguments_by w m more may a)
    unfolding memory
    arguments_wider arguments.Nothing = alike (pure [])
    arguments_wider arguments.Size = one_wider (value w n) (value w m) (value_wider n m le)
    arguments_wider arguments.Sizes = two_wider (value w n) (value w m) (value w n) (value w m) (value_wider n m le) (value_wider n m le)
    arguments_wider arguments.Condition = one_wider (value w n) (value w m) (value_wider n m le)
    arguments_wider arguments.Memory = one_wider (memory w n) (memory w m) (alike (memory w n))
    arguments_wider arguments.Note = one_wider (inner w n part may may) (inner w m more may may) (inner_wider may)
    arguments_wider arguments.GuardedNote = two_wider (value w n) (value w m) (inner w n part may may) (inner w m more may may) (value_wider n m le) (inner_wider may)
    arguments_wider arguments.LocatedNote =
        two_wider (location w n >>= (λ e. pure (ExprArg e))) (location w m >>= (λ e. pure (ExprArg e))) (inner w n part may anywhere) (inner w m more may anywhere)
        (before (location w n) (location w m) (λ e. pure (ExprArg e)) (location_wider n m le)) (inner_wider anywhere)

    abbrev finished : ℕ → Head → List ArgTree → Parser Token NoteTree
    finished k h args = closing w k >>= (λ c. pure (tree.Note h.name (arg_list args) h.place))

    enclosed_wider : (h : Head) → Wider (in_parentheses w n part may h) (in_parentheses w m more may h)
    unfolding in_parentheses closing
    enclosed_wider h =
        behind (token unexpected (is_open w)) (λ o. arguments_by w n part may h.arguments >>= finished n h) (λ o. arguments_by w m more may h.arguments >>= finished m h)
        (λ o. before (arguments_by w n part may h.arguments) (arguments_by w m more may h.arguments) (finished n h) (arguments_wider h.arguments))

    applied_wider : Wider (applied w n part may) (applied w m more may)
    unfolding applied
    applied_wider =
        behind (taken unexpected (head_of w)) (λ h. choose (is_open w) (in_parentheses w n part may h) (lacking w n part may)) (λ h. choose (is_open w) (in_parentheses w m more may h) (lacking w m more may))
        (λ h. choosing (is_open w) (in_parentheses w n part may h) (in_parentheses w m more may h) (lacking w n part may) (lacking w m more may) (enclosed_wider h) (alike (lacking w n part may)))

    deep_wider : {A : Type 0} (p q : Parser Token A) → Wider p q
        → Wider (choose (λ t. is_zero n && (is_listed w t && not (is_bare w t))) (refuse too_deep) p) (choose (λ t. is_zero m && (is_listed w t && not (is_bare w t))) (refuse too_deep) q)
    deep_wider p q h ts = by_test (at_next (λ t. is_zero n && (is_listed w t && not (is_bare w t))) ts) (at_next (λ t. is_zero m && (is_listed w t && not (is_bare w t))) ts) refl refl
      where
        off : (ts : List Token) → at_next (λ t. is_zero n && (is_listed w t && not (is_bare w t))) ts ≡ false → at_next (λ t. is_zero m && (is_listed w t && not (is_bare w t))) ts ≡ false
        off [] k = refl
        off (t ∷ ts) k = deep_off n m le (is_listed w t && not (is_bare w t)) k

        by_test : (b c : Bool) → at_next (λ t. is_zero n && (is_listed w t && not (is_bare w t))) ts ≡ b → at_next (λ t. is_zero m && (is_listed w t && not (is_bare w t))) ts ≡ c
            → Held (if b then stop too_deep (length ts) else p ts) (if c then stop too_deep (length ts) else q ts)
        by_test true c k l = short (length ts) refl
        by_test false true k l = absurd (let both : true ≡ false = sym l ∙ off ts k in cc both)
        by_test false false k l = h ts

    here_wider : Wider (note w n part may) (note w m more may)
    unfolding note bare
    here_wider =
        choosing (is_unlisted w) (refuse unknown) (refuse unknown) _ _ (alike (refuse unknown))
        (choosing (λ t. is_listed w t && not (may t)) (refuse misplaced) (refuse misplaced) _ _ (alike (refuse misplaced))
        (deep_wider _ _
        (choosing (is_bare w) (bare w n part may) (bare w m more may) _ _ (alike (bare w n part may))
        (choosing (is_listed w) (applied w n part may) (applied w m more may) (refuse unexpected) (refuse unexpected) applied_wider (alike (refuse unexpected))))))

  -- ---- annotations of each depth

  -- where none begins the readers stop as unexpected, whatever room there is
  no_listed : (t : Token) → begins_note w t ≡ false → is_listed w t ≡ false
  no_listed t h = by_test (is_listed w t) refl
    where
      by_test : (b : Bool) → is_listed w t ≡ b → b ≡ false
      by_test false k = refl
      by_test true k = absurd (let both : true ≡ false = sym (listed_begins w t k) ∙ h in cc both)

  no_bare : (t : Token) → is_listed w t ≡ false → is_bare w t ≡ false
  no_bare t h = by_test (is_bare w t) refl
    where
      by_test : (b : Bool) → is_bare w t ≡ b → b ≡ false
      by_test false k = refl
      by_test true k = absurd (let both : true ≡ false = sym (bare_listed w t k) ∙ h in cc both)

  module _ (m : ℕ) (part : (Token → Bool) → Parser Token NoteTree) (may : Token → Bool) where
    abbrev is_deep : Token → Bool
    is_deep t = is_zero m && (is_listed w t && not (is_bare w t))

    abbrev from_listed : Parser Token NoteTree
    from_listed = choose (is_listed w) (applied w m part may) (refuse unexpected)

    abbrev from_bare : Parser Token NoteTree
    from_bare = choose (is_bare w) (bare w m part may) from_listed

    abbrev from_deep : Parser Token NoteTree
    from_deep = choose is_deep (refuse too_deep) from_bare

    no_deep : (t : Token) → is_listed w t ≡ false → is_deep t ≡ false
    no_deep t h = by_zero (is_zero m) (is_listed w t) h
      where
        by_zero : (z l : Bool) → l ≡ false → (z && (l && not (is_bare w t))) ≡ false
        by_zero true true k = absurd (cc k)
        by_zero true false k = refl
        by_zero false l k = refl

    unbegun : (ts : List Token) → at_next (begins_note w) ts ≡ false → from_deep ts ≡ stop unexpected (length ts)
    unbegun ts h =
        let listed : at_next (is_listed w) ts ≡ false = fails_too (begins_note w) (is_listed w) no_listed ts h in
        chosen is_deep (refuse too_deep) from_bare ts false (fails_too (is_listed w) is_deep no_deep ts listed)
        ∙ chosen (is_bare w) (bare w m part may) from_listed ts false (fails_too (is_listed w) (is_bare w) no_bare ts listed)
        ∙ chosen (is_listed w) (applied w m part may) (refuse unexpected) ts false listed

    note_starts : Wider (choose (begins_note w) (refuse too_deep) (refuse unexpected)) from_deep
    note_starts ts = by_test (at_next (begins_note w) ts) refl
      where
        by_test : (b : Bool) → at_next (begins_note w) ts ≡ b → Held (if b then stop too_deep (length ts) else stop unexpected (length ts)) (from_deep ts)
        by_test true h = short (length ts) refl
        by_test false h = same (unbegun ts h)

  pub note_wider : (n m : ℕ) → n ≤ m → (may : Token → Bool) → Wider (note_reader w n may) (note_reader w m may)
  unfolding note_reader note
  note_wider zero zero le may = alike _
  note_wider zero (suc m) le may =
      choosing (is_unlisted w) (refuse unknown) (refuse unknown) _ _ (alike (refuse unknown))
      (choosing (λ t. is_listed w t && not (may t)) (refuse misplaced) (refuse misplaced) _ _ (alike (refuse misplaced)) (note_starts m (note_reader w m) may))
  note_wider (suc n) zero le may = absurd (omega arith)
  note_wider (suc n) (suc m) le may = let below : n ≤ m = omega arith in here_wider n m below (note_reader w n) (note_reader w m) (note_wider n m below) may

  -- ---- lists of annotations

  pub notes_wider : (n m : ℕ) → n ≤ m → (may : Token → Bool) → Wider (notes_reader w n may) (notes_reader w m may)
  unfolding next_note
  notes_wider n m le may =
      turning (begins_note w) (next_note w n may) (next_note w m may) (λ ns. before (note_reader w n may) (note_reader w m may) (λ a. pure (ns ++ (a ∷ []))) (note_wider n m le may)) []

  -- what a list is at its first token
  module _ (left : ℕ) (may : Token → Bool) where
    pub no_notes : (ts : List Token) → at_next (begins_note w) ts ≡ false → notes_reader w left may ts ≡ done [] ts
    unfolding loop
    no_notes [] h = refl
    no_notes (t ∷ ts) h = ap (λ b. if b then and_then (next_note w left may [] (t ∷ ts)) (loop (begins_note w) (next_note w left may) (length ts)) else done [] (t ∷ ts)) h

    at_first : (t : Token) (ts : List Token) (n : ℕ) → begins_note w t ≡ true → note_reader w left may (t ∷ ts) ≡ stop n (length (t ∷ ts)) → notes_reader w left may (t ∷ ts) ≡ stop n (length (t ∷ ts))
    unfolding loop next_note
    at_first t ts n h e =
        ap (λ b. if b then and_then (next_note w left may [] (t ∷ ts)) (loop (begins_note w) (next_note w left may) (length ts)) else done [] (t ∷ ts)) h
        ∙ ap (λ o. and_then (and_then o (λ n. pure ([] ++ (n ∷ [])))) (loop (begins_note w) (next_note w left may) (length ts))) e

    -- the reader of one annotation behind its first test, and behind its second
    abbrev behind_place : ℕ → Parser Token NoteTree
    behind_place zero = choose (begins_note w) (refuse too_deep) (refuse unexpected)
    behind_place (suc k) = from_deep k (note_reader w k) may

    abbrev is_misplaced : Token → Bool
    is_misplaced t = is_listed w t && not (may t)

    abbrev behind_known : ℕ → Parser Token NoteTree
    behind_known k = choose is_misplaced (refuse misplaced) (behind_place k)

    one_unlisted : (t : Token) (ts : List Token) → is_unlisted w t ≡ true → (k : ℕ) → note_reader w k may (t ∷ ts) ≡ stop unknown (length (t ∷ ts))
    unfolding note_reader note
    one_unlisted t ts h zero = chosen (is_unlisted w) (refuse unknown) (behind_known zero) (t ∷ ts) true h
    one_unlisted t ts h (suc k) = chosen (is_unlisted w) (refuse unknown) (behind_known (suc k)) (t ∷ ts) true h

    pub notes_unlisted : (t : Token) (ts : List Token) → is_unlisted w t ≡ true → notes_reader w left may (t ∷ ts) ≡ stop unknown (length (t ∷ ts))
    notes_unlisted t ts h = at_first t ts unknown (and_first (begins_note w t) (not (is_listed w t)) h) (one_unlisted t ts h left)

    listed_known : (t : Token) → is_listed w t ≡ true → is_unlisted w t ≡ false
    listed_known t h = by_test (begins_note w t) (is_listed w t) h
      where
        by_test : (b c : Bool) → c ≡ true → (b && not c) ≡ false
        by_test true true k = refl
        by_test false true k = refl
        by_test b false k = absurd (cc k)

    is_out : (t : Token) → is_listed w t ≡ true → may t ≡ false → (is_listed w t && not (may t)) ≡ true
    is_out t h k = ap (λ b. b && not (may t)) h ∙ ap not k

    one_out_of_place : (t : Token) (ts : List Token) → is_listed w t ≡ true → may t ≡ false → (k : ℕ) → note_reader w k may (t ∷ ts) ≡ stop misplaced (length (t ∷ ts))
    unfolding note_reader note
    one_out_of_place t ts h k zero =
        chosen (is_unlisted w) (refuse unknown) (behind_known zero) (t ∷ ts) false (listed_known t h) ∙ chosen is_misplaced (refuse misplaced) (behind_place zero) (t ∷ ts) true (is_out t h k)
    one_out_of_place t ts h k (suc j) =
        chosen (is_unlisted w) (refuse unknown) (behind_known (suc j)) (t ∷ ts) false (listed_known t h) ∙ chosen is_misplaced (refuse misplaced) (behind_place (suc j)) (t ∷ ts) true (is_out t h k)

    pub notes_out_of_place : (t : Token) (ts : List Token) → is_listed w t ≡ true → may t ≡ false → notes_reader w left may (t ∷ ts) ≡ stop misplaced (length (t ∷ ts))
    notes_out_of_place t ts h k = at_first t ts misplaced (listed_begins w t h) (one_out_of_place t ts h k left)

  -- ---- read again with other annotations that may stand there

  -- annotations that are read at a depth are judged alike at every greater one
  pub judged_alike : (n m : ℕ) → n ≤ m → (may : Token → Bool) (ts : List Token) (ns : List NoteTree) (rest : List Token) → notes_reader w n anywhere ts ≡ done ns rest → notes_reader w m may ts ≡ notes_reader w n may ts
  judged_alike n m le may ts ns rest e = by_read (narrower w n may ts) (notes_wider n m le may ts)
    where
      not_deep : (k : ℕ) → notes_reader w n may ts ≡ stop too_deep k → narrow.Held (notes_reader w n anywhere ts) (notes_reader w n may ts) → ⊥
      not_deep k h (narrow.same s) = let both : done ns rest ≡ stop too_deep k = sym e ∙ sym s ∙ h in cc both
      not_deep k h (narrow.shorter l s) =
          let both : Path (Outcome Token (List NoteTree)) (stop 37 l) (stop 32 k) = sym s ∙ h in
          let numbers : Path ℕ 37 32 = cc both in
          omega arith

      by_read : narrow.Held (notes_reader w n anywhere ts) (notes_reader w n may ts) → Held (notes_reader w n may ts) (notes_reader w m may ts) → notes_reader w m may ts ≡ notes_reader w n may ts
      by_read r (short k h) = absurd (not_deep k h r)
      by_read r (same h) = h
