-- Behind a whole list of annotations stands no 31; and a list that is read is the longest of all.
use Rattle.std.proofs.Common.{◌≡◌, ◌≤◌, ◌⊎◌, ℕ, zero, suc, max, Bool, true, false, ◌||◌, ◌&&◌, not, List, [], ◌∷◌, ◌++◌, length, refl, sym, ap, ◌∙◌, append_assoc, inl, inr, arith, le_refl}
use Rattle.std.proofs.Math.Nat.{le-max_left, le-max_right}
use Rattle.sb_base.specs.declared.tokens.Token.{Token}
use Rattle.sb_parse.specs.Parser.{Outcome, done, stop, at_next, and_then, ◌>>=◌, pure, loop}
use Rattle.sb_parse.specs.Read.{IsLongest}
use Rattle.sb_parse.proofs.Ways.{and_fails}
use Rattle.sb_tree.specs.Plain.{arg_list, note_list}
use Rattle.sb_tree.specs.Trees as tree
use Rattle.sb_tree.specs.Trees.{NoteTree, depth_of_notes}
use Rattle.sb_lexicon.specs.Lexicon.{Lexicon}
use Rattle.sb_lexicon.specs.Tokens.{unexpected, is_zero, is_open, bad_arguments, unknown, misplaced}
use Rattle.sb_expr.proofs.telling.AnyDepth.{longest_of_all}
use Rattle.sb_expr.proofs.telling.Loops.{stands, one_more}
use Rattle.sb_sal.specs.Notes.{IsNote, is_bare, has_arguments, AreNotes, no_notes, more_notes}
use Rattle.sb_sal.specs.Readers as reader
use Rattle.sb_sal.specs.Readers.{bare, note, note_reader, next_note, notes_reader}
use Rattle.sb_sal.specs.Reads.{IsFillable}
use Rattle.sb_sal.specs.Reasons.{is_alone, ends_alone, shows_more}
use Rattle.sb_sal.specs.Spellings.{begins_note, is_listed, is_unlisted}
use Rattle.sb_sign.specs.declared.spelling.Arguments.TheVariants as arguments
use Rattle.sb_sal.proofs.Annotations.{at_end_last, note_apart, more_notes_behind, next_head, in_turns, lawful_notes, deep_list}
use Rattle.sb_sal.proofs.Deepening.{Past, read_past, stopped_past, Shrinks, shrinks_pure, shrinks_then, shrinks_choose, past_bind}
use Rattle.sb_sal.proofs.EveryDepth.{held}
use Rattle.sb_sal.proofs.Inside.{more_note, at_end, ends_with}
use Rattle.sb_sal.proofs.NoteDeepening.{note_deepens, note_enters}
use Rattle.sb_sal.proofs.Noting.{has_argument}
use Rattle.sb_sal.proofs.NoteWider.{notes_wider}
use Rattle.sb_sal.proofs.Tokens.{bare_by, listed_with, listed_begins}

either : (b c : Bool) → (b || c) ≡ true → (b ≡ true) ⊎ (c ≡ true)
either true c h = inl refl
either false c h = inr h

-- ---- what goes on from a list, in the words of the grammar

one_alone : (w : Lexicon) (n : NoteTree) (t : Token) → more_note w n t ≡ (is_alone n && is_open w t)
one_alone w (tree.Note name tree.NoArgs place) t = refl
one_alone w (tree.Note name (tree.MoreArgs a rest) place) t = refl

last_alone : (w : Lexicon) (ns : List NoteTree) (t : Token) → at_end (more_note w) ns t ≡ (ends_alone ns && is_open w t)
last_alone w [] t = refl
last_alone w (n ∷ []) t = one_alone w n t
last_alone w (n ∷ (m ∷ ns)) t = last_alone w (m ∷ ns) t

module _ (w : Lexicon) (may : Token → Bool) (F : IsFillable w may) where
  abbrev depth : List NoteTree → ℕ
  depth ns = depth_of_notes (note_list ns)

  -- ---- the loop

  loop_shrinks : (most n : ℕ) (ns : List NoteTree) → Shrinks (loop (begins_note w) (next_note w most may) n ns)
  unfolding loop next_note
  loop_shrinks most zero ns = shrinks_pure ns
  loop_shrinks most (suc n) ns =
      shrinks_choose (begins_note w) (next_note w most may ns >>= loop (begins_note w) (next_note w most may) n) (pure ns)
      (shrinks_then (next_note w most may ns) (loop (begins_note w) (next_note w most may) n)
      (shrinks_then (note_reader w most may) (λ n. pure (ns ++ (n ∷ []))) ((note_deepens w may most).shrinks most (le_refl most)) (λ n. shrinks_pure (ns ++ (n ∷ [])))) (loop_shrinks most n)) (shrinks_pure ns)

  -- behind a list the reader reads the next annotation
  next_of : (most : ℕ) (front bad : List Token) (ns : List NoteTree) → AreNotes w may front ns → depth ns ≤ most → at_next (begins_note w) bad ≡ true
      → (i : ℕ) × (notes_reader w most may (front ++ bad) ≡ and_then (next_note w most may ns bad) (loop (begins_note w) (next_note w most may) i))
  next_of most front bad ns are fits h =
      let apart : (ns : List NoteTree) (t : Token) → begins_note w t ≡ true → at_end (more_note w) ns t ≡ false = λ ns t k. ends_with (more_note w) t (λ n. note_apart w n t k) ns in
      let there = stands (next_head w most may F) apart (length (front ++ bad)) [] ns front bad (in_turns w most may F front ns are fits) h (le_refl (length (front ++ bad))) in
      let again = one_more (next_head w most may F) apart there.left ns bad h there.enough in
      (again.0, there.same ∙ again.1)

  -- ---- a word in the place of an annotation

  number_off : (n k m j : ℕ) → Path (Outcome Token (List NoteTree)) (stop n k) (stop m j) → n ≡ m
  number_off n k m j e = cc e

  judged : (d : ℕ) (ns : List NoteTree) (bad : List Token) (i : ℕ) → at_next (begins_note w) bad ≡ true
      → and_then (next_note w (suc (suc d)) may ns bad) (loop (begins_note w) (next_note w (suc (suc d)) may) i) ≡ stop unexpected (length bad) → ⊥
  unfolding next_note note_reader note
  judged d ns bad i h e = by_tests (at_next (is_unlisted w) bad) (at_next (λ t. is_listed w t && not (may t)) bad) refl refl
    where
      stopped : (n k : ℕ) → note_reader w (suc (suc d)) may bad ≡ stop n k → Path (Outcome Token (List NoteTree)) (stop n k) (stop unexpected (length bad))
      stopped n k s = sym (ap (λ o. and_then (and_then o (λ n. pure (ns ++ (n ∷ [])))) (loop (begins_note w) (next_note w (suc (suc d)) may) i)) s) ∙ e

      past : Past (length bad) (and_then (next_note w (suc (suc d)) may ns bad) (loop (begins_note w) (next_note w (suc (suc d)) may) i)) → ⊥
      past (read_past ms after r less) = let both : Path (Outcome Token (List NoteTree)) (done ms after) (stop unexpected (length bad)) = sym r ∙ e in cc both
      past (stopped_past n k r less) =
          let both : Path (Outcome Token (List NoteTree)) (stop n k) (stop unexpected (length bad)) = sym r ∙ e in
          let same : k ≡ length bad = cc both in
          omega arith

      by_tests : (a b : Bool) → at_next (is_unlisted w) bad ≡ a → at_next (λ t. is_listed w t && not (may t)) bad ≡ b → ⊥
      by_tests true b u m = let both : Path ℕ 36 31 = number_off unknown (length bad) unexpected (length bad) (stopped unknown (length bad) (rw u refl)) in omega arith
      by_tests false true u m = let both : Path ℕ 37 31 = number_off misplaced (length bad) unexpected (length bad) (stopped misplaced (length bad) (rw (u, m) refl)) in omega arith
      by_tests false false u m =
          past (past_bind (next_note w (suc (suc d)) may ns) (loop (begins_note w) (next_note w (suc (suc d)) may) i) (length bad) bad
          (past_bind (note_reader w (suc (suc d)) may) (λ n. pure (ns ++ (n ∷ []))) (length bad) bad (note_enters w may bad d u m h) (λ n. shrinks_pure (ns ++ (n ∷ [])))) (loop_shrinks (suc (suc d)) i))

  -- ---- `(` behind an annotation without arguments

  alone_halts : (d : ℕ) (s t : Token) (rest : List Token) → may s ≡ true → reader.is_bare w s ≡ true → is_listed w s ≡ true → is_open w t ≡ true → note_reader w (suc d) may (s ∷ (t ∷ rest)) ≡ stop bad_arguments (length (t ∷ rest))
  unfolding note_reader note bare
  alone_halts d s t rest stands alone listed opens =
      let known : is_unlisted w s ≡ false = and_fails (begins_note w s) (not (is_listed w s)) (ap not listed) in
      let placed : (is_listed w s && not (may s)) ≡ false = and_fails (is_listed w s) (not (may s)) (ap not stands) in
      let shallow : (is_zero d && (is_listed w s && not (reader.is_bare w s))) ≡ false =
      and_fails (is_zero d) (is_listed w s && not (reader.is_bare w s)) (and_fails (is_listed w s) (not (reader.is_bare w s)) (ap not alone)) in
      rw (known, placed, shallow, alone, opens) refl

  opened : (d : ℕ) (front : List Token) (ns : List NoteTree) → AreNotes w may front ns → depth ns ≤ suc d → (t : Token) (rest : List Token) → at_end (more_note w) ns t ≡ true
      → notes_reader w (suc d) may (front ++ (t ∷ rest)) ≡ stop unexpected (length (t ∷ rest)) → ⊥
  unfolding next_note
  opened d _ _ no_notes fits t rest h e = cc h
  opened d _ _ (more_notes xs ys ns n are is) fits t rest h e = by_note ys n is (sym (at_end_last (more_note w) ns n t) ∙ h) e
    where
      deep : depth ns ≤ suc d
      deep = (deep_list ns n (suc d) fits).0

      by_note : (ys : List Token) (n : NoteTree) → IsNote w may ys n → more_note w n t ≡ true → notes_reader w (suc d) may ((xs ++ ys) ++ (t ∷ rest)) ≡ stop unexpected (length (t ∷ rest)) → ⊥
      by_note _ _ (has_arguments m s o c a ts args stands takes opens closes inner) k f =
          let some = has_argument w may a ts args inner in
          let both : false ≡ true = sym (ap (λ z. more_note w (tree.Note s.text (arg_list z) s.place) t) some.split) ∙ k in
          cc both
      by_note _ _ (is_bare m s stands alone) k f =
          let listed : is_listed w s ≡ true = listed_with w s arguments.Nothing alone in
          let next = next_of (suc d) xs (s ∷ (t ∷ rest)) ns are deep (listed_begins w s listed) in
          let halts : note_reader w (suc d) may (s ∷ (t ∷ rest)) ≡ stop bad_arguments (length (t ∷ rest)) = alone_halts d s t rest stands (bare_by w s arguments.Nothing alone) listed k in
          let both : Path ℕ 35 31 = number_off bad_arguments (length (t ∷ rest)) unexpected (length (t ∷ rest))
          (sym (ap (λ o. and_then (and_then o (λ n. pure (ns ++ (n ∷ [])))) (loop (begins_note w) (next_note w (suc d) may) next.0)) halts)
          ∙ sym next.1 ∙ sym (ap (notes_reader w (suc d) may) (append_assoc xs (s ∷ []) (t ∷ rest))) ∙ f) in
          omega arith

  -- ---- a list as the call reads it

  pub unfinished : (left : ℕ) (ts : List Token) (k : ℕ) → notes_reader w left may ts ≡ stop unexpected k → (front bad : List Token) → ts ≡ front ++ bad → k ≡ length bad → (ns : List NoteTree) → AreNotes w may front ns → ⊥
  unfinished left ts k e front bad split left_is ns are = by_next (at_next (more_notes_behind w ns) bad) refl
    where
      -- with room for more
      stops : notes_reader w (suc (suc (max left (depth ns)))) may (front ++ bad) ≡ stop unexpected (length bad)
      stops =
          let enough : left ≤ max left (depth ns) = le-max_left left (depth ns) in
          sym (ap (notes_reader w (suc (suc (max left (depth ns)))) may) split)
          ∙ held unexpected k (notes_reader w left may ts) (notes_reader w (suc (suc (max left (depth ns)))) may ts) (notes_wider w left (suc (suc (max left (depth ns)))) (omega arith) may ts) e (λ h. let both : Path ℕ 31 32 = h in omega arith)
          ∙ ap (stop unexpected) left_is

      fits : depth ns ≤ suc (suc (max left (depth ns)))
      fits = let less : depth ns ≤ max left (depth ns) = le-max_right left (depth ns) in omega arith

      by_next : (b : Bool) → at_next (more_notes_behind w ns) bad ≡ b → ⊥
      by_next false h =
          let reads : notes_reader w (suc (suc (max left (depth ns)))) may (front ++ bad) ≡ done ns bad = (lawful_notes w (suc (suc (max left (depth ns)))) may F).complete front ns bad (are, fits) h in
          let both : Path (Outcome Token (List NoteTree)) (done ns bad) (stop unexpected (length bad)) = sym reads ∙ stops in
          cc both
      by_next true h = going bad h stops
        where
          going : (bad : List Token) → at_next (more_notes_behind w ns) bad ≡ true → notes_reader w (suc (suc (max left (depth ns)))) may (front ++ bad) ≡ stop unexpected (length bad) → ⊥
          going [] h f = cc h
          going (t ∷ rest) h f = by_token (either (begins_note w t) (at_end (more_note w) ns t) h)
            where
              by_token : (begins_note w t ≡ true) ⊎ (at_end (more_note w) ns t ≡ true) → ⊥
              by_token (inl k) = let next = next_of (suc (suc (max left (depth ns)))) front (t ∷ rest) ns are fits k in judged (max left (depth ns)) ns (t ∷ rest) next.0 k (sym next.1 ∙ f)
              by_token (inr k) = opened (suc (max left (depth ns))) front ns are fits t rest k f

  pub longest_list : (left : ℕ) (ts : List Token) (ns : List NoteTree) (rest : List Token) → notes_reader w left may ts ≡ done ns rest → IsLongest (AreNotes w may) ts ns rest × (at_next (shows_more w ns) rest ≡ false)
  longest_list left ts ns rest e =
      let all = longest_of_all (AreNotes w may) (λ ns. depth_of_notes (note_list ns)) (more_notes_behind w) (λ left. notes_reader w left may) (λ left some. lawful_notes w left may F) (λ n m le. notes_wider w n m le may) left ts ns rest e in
      (all.0, none rest all.1)
    where
      none : (rest : List Token) → at_next (more_notes_behind w ns) rest ≡ false → at_next (shows_more w ns) rest ≡ false
      none [] h = refl
      none (t ∷ rest) h = sym (ap (λ b. begins_note w t || b) (last_alone w ns t)) ∙ h
