-- The readers of annotations of each depth keep the laws; and what that comes to in the grammar's words.
use Rattle.std.proofs.Common.{◌≡◌, ◌≤◌, ℕ, zero, suc, max, Bool, true, false, ◌||◌, ◌&&◌, not, List, [], ◌∷◌, ◌++◌, refl, sym, ap, ◌∙◌, subst, append_assoc, append-nil, arith}
use Rattle.std.proofs.Math.Nat.{le-max_left, le-max_right, max-le}
use Rattle.sb_base.specs.declared.tokens.Token.{Token}
use Rattle.sb_parse.specs.Parser.{done, stop, pure, choose, refuse}
use Rattle.sb_parse.specs.Lawful.{Lawful, OnHead, Joined, IsEmpty, Mapped, Turns, over, turn}
use Rattle.sb_parse.specs.Read.{IsLongest, IsRefused}
use Rattle.sb_parse.proofs.Joining.{via, nothing}
use Rattle.sb_parse.proofs.Heads.{head_map_of}
use Rattle.sb_parse.proofs.Looping.{looping}
use Rattle.sb_parse.proofs.Reading.{longest, refused}
use Rattle.sb_sign.specs.declared.sign.Mark.TheVariants as mark
use Rattle.sb_tree.specs.Plain.{note_list}
use Rattle.sb_tree.specs.Trees as tree
use Rattle.sb_tree.specs.Trees.{NoteTree, depth_of_note, depth_of_notes}
use Rattle.sb_lexicon.specs.Lexicon.{Lexicon}
use Rattle.sb_lexicon.specs.Tokens.{unexpected, too_deep, is_open, unknown, misplaced}
use Rattle.sb_parse.proofs.Ways.{Refuses, goes_on_where, one_refuses, both_refuse, turned_once_more}
use Rattle.sb_sal.specs.Notes.{AreNotes, no_notes, more_notes}
use Rattle.sb_sal.specs.Readers.{note_reader, next_note, notes_reader}
use Rattle.sb_sal.specs.Reads.{FitsNote, FitsNotes, IsFillable}
use Rattle.sb_sal.specs.Spellings.{begins_note, is_listed, is_unlisted}
use Rattle.sb_parse.proofs.Partly.{Partly, partly_via, with_heads, refusing}
use Rattle.sb_sal.proofs.Tokens.{mark_no_note}
use Rattle.sb_sal.proofs.Inside.{more_note, at_end, ends_with}
use Rattle.sb_sal.proofs.Noting.{some_note, note_law, note_begins}

-- ---- depths of lists

list_deep : (ns : List NoteTree) (n : NoteTree) (left : ℕ) → depth_of_notes (note_list ns) ≤ left → depth_of_note n ≤ left → depth_of_notes (note_list (ns ++ (n ∷ []))) ≤ left
list_deep [] n left h k = let none : 0 ≤ left = omega arith in max-le k none
list_deep (m ∷ ns) n left h k =
    let first : depth_of_note m ≤ max (depth_of_note m) (depth_of_notes (note_list ns)) = le-max_left (depth_of_note m) (depth_of_notes (note_list ns)) in
    let later : depth_of_notes (note_list ns) ≤ max (depth_of_note m) (depth_of_notes (note_list ns)) = le-max_right (depth_of_note m) (depth_of_notes (note_list ns)) in
    let one : depth_of_note m ≤ left = omega arith in
    max-le one (list_deep ns n left (omega arith) k)

pub deep_list : (ns : List NoteTree) (n : NoteTree) (left : ℕ) → depth_of_notes (note_list (ns ++ (n ∷ []))) ≤ left → (depth_of_notes (note_list ns) ≤ left) × (depth_of_note n ≤ left)
deep_list [] n left h = let first : depth_of_note n ≤ max (depth_of_note n) 0 = le-max_left (depth_of_note n) 0 in (omega arith, omega arith)
deep_list (m ∷ ns) n left h =
    let first : depth_of_note m ≤ max (depth_of_note m) (depth_of_notes (note_list (ns ++ (n ∷ [])))) = le-max_left (depth_of_note m) (depth_of_notes (note_list (ns ++ (n ∷ [])))) in
    let later : depth_of_notes (note_list (ns ++ (n ∷ []))) ≤ max (depth_of_note m) (depth_of_notes (note_list (ns ++ (n ∷ [])))) = le-max_right (depth_of_note m) (depth_of_notes (note_list (ns ++ (n ∷ [])))) in
    let one : depth_of_note m ≤ left = omega arith in
    let both = deep_list ns n left (omega arith) in
    (max-le one both.0, both.1)

-- what goes on from a list is what goes on from its last
pub at_end_last : {T A : Type 0} (goes_on : A → T → Bool) (ns : List A) (n : A) (t : T) → at_end goes_on (ns ++ (n ∷ [])) t ≡ goes_on n t
at_end_last goes_on [] n t = refl
at_end_last goes_on (a ∷ []) n t = refl
at_end_last goes_on (a ∷ (b ∷ rest)) n t = at_end_last goes_on (b ∷ rest) n t

-- no annotation begins with a parenthesis
pub note_apart : (w : Lexicon) (n : NoteTree) (t : Token) → begins_note w t ≡ true → more_note w n t ≡ false
note_apart w (tree.Note name (tree.MoreArgs a rest) place) t h = refl
note_apart w (tree.Note name tree.NoArgs place) t h = by_test (is_open w t) refl
  where
    by_test : (b : Bool) → is_open w t ≡ b → b ≡ false
    by_test true k = let both : true ≡ false = sym h ∙ mark_no_note w mark.OpenParenthesis t k in absurd (cc both)
    by_test false k = refl

-- what goes on from a list of annotations
abbrev pub more_notes_behind : Lexicon → List NoteTree → Token → Bool
more_notes_behind w ns t = begins_note w t || at_end (more_note w) ns t

module _ (w : Lexicon) where
  -- ---- one annotation

  none_fits : (may : Token → Bool) (ts : List Token) (n : NoteTree) → FitsNote w 0 may ts n → ⊥
  none_fits may ts n f = let one : 1 ≤ depth_of_note n = some_note n in let none : depth_of_note n ≤ 0 = f.1 in absurd (omega arith)

  -- without room every token is refused
  refuses_at_once : (may : Token → Bool) (ts : List Token) → Refuses (note_reader w 0 may) ts
  unfolding note_reader
  refuses_at_once may ts =
      both_refuse (is_unlisted w) (refuse unknown) (choose (λ t. is_listed w t && not (may t)) (refuse misplaced) (choose (begins_note w) (refuse too_deep) (refuse unexpected))) ts (one_refuses unknown ts)
      (both_refuse (λ t. is_listed w t && not (may t)) (refuse misplaced) (choose (begins_note w) (refuse too_deep) (refuse unexpected)) ts (one_refuses misplaced ts)
      (both_refuse (begins_note w) (refuse too_deep) (refuse unexpected) ts (one_refuses too_deep ts) (one_refuses unexpected ts)))

  pub note_partly : (left : ℕ) (may : Token → Bool) → IsFillable w may → Partly (FitsNote w left may) (more_note w) (note_reader w left may)
  unfolding note_reader
  note_partly zero may F = partly_via (refusing (more_note w) (note_reader w zero may) (refuses_at_once may)) (λ ts n none. absurd none) (none_fits may) (note_reader w zero may) (λ ts. refl)
  note_partly (suc below) may F =
      note_law w below (note_reader w below) may (λ m G. with_heads (note_partly below m G) (begins_note w) (λ ts n f. note_begins w m ts n f.0)) F

  pub note_at : (left : ℕ) (may : Token → Bool) → IsFillable w may → OnHead (begins_note w) (FitsNote w left may) (more_note w) (note_reader w left may)
  note_at left may F = with_heads (note_partly left may F) (begins_note w) (λ ts n f. note_begins w may ts n f.0)

  -- ---- annotations one after the other

  module _ (left : ℕ) (may : Token → Bool) (F : IsFillable w may) where
    abbrev OneMore : List NoteTree → List Token → List NoteTree → Type 0
    OneMore ns = Mapped (λ n. ns ++ (n ∷ [])) (FitsNote w left may)

    pub next_head : (ns : List NoteTree) → OnHead (begins_note w) (OneMore ns) (at_end (more_note w)) (next_note w left may ns)
    unfolding next_note
    next_head ns = head_map_of (note_at left may F) (λ n. ns ++ (n ∷ [])) (at_end (more_note w)) (λ n t. at_end_last (more_note w) ns n t)

    add_all : (ms ns : List NoteTree) (xs ts : List Token) → FitsNotes w left may xs ms → Turns OneMore ms ts ns → FitsNotes w left may (xs ++ ts) ns
    add_all _ _ xs _ f (over ns) = subst (λ z. FitsNotes w left may z ns) (sym (append-nil xs)) f
    add_all _ _ xs _ f (turn ms ns os ys zs m later) =
        let next : FitsNotes w left may (xs ++ ys) (ms ++ (m.value ∷ [])) = (more_notes xs ys ms m.value f.0 m.is.0, list_deep ms m.value left f.1 m.is.1) in
        subst (λ z. FitsNotes w left may z os) (append_assoc xs ys zs) (add_all ns os (xs ++ ys) zs (subst (FitsNotes w left may (xs ++ ys)) (sym m.same) next) later)

    pub in_turns : (ts : List Token) (ns : List NoteTree) → AreNotes w may ts ns → depth_of_notes (note_list ns) ≤ left → Turns OneMore [] ts ns
    in_turns _ _ no_notes le = over []
    in_turns _ _ (more_notes xs ys ns n are is) le =
        let both = deep_list ns n left le in
        turned_once_more [] ns (ns ++ (n ∷ [])) xs ys (in_turns xs ns are both.0) (record { value = n; is = (is, both.1); same = refl })

    no_note : Lawful (IsEmpty []) (at_end (more_note w)) (pure [])
    no_note = goes_on_where (nothing []) (at_end (more_note w)) (λ ts ns is t. ap (λ z. at_end (more_note w) z t) is.same)

    pub lawful_notes : Lawful (FitsNotes w left may) (more_notes_behind w) (notes_reader w left may)
    lawful_notes = via (looping {Turn = OneMore} next_head (λ ns t h. ends_with (more_note w) t (λ n. note_apart w n t h) ns) no_note) to from (notes_reader w left may) (λ ts. refl)
      where
        none_deep : depth_of_notes (note_list []) ≤ left
        none_deep = let none : 0 ≤ left = omega arith in none

        to : (ts : List Token) (ns : List NoteTree) → Joined (IsEmpty []) (Turns OneMore) ts ns → FitsNotes w left may ts ns
        to ts ns j =
            subst (λ z. FitsNotes w left may z ns) (sym (j.split ∙ ap (λ z. z ++ j.after) j.first.none))
            (add_all [] ns [] j.after (no_notes, none_deep) (subst (λ z. Turns OneMore z j.after ns) j.first.same j.second))

        from : (ts : List Token) (ns : List NoteTree) → FitsNotes w left may ts ns → Joined (IsEmpty []) (Turns OneMore) ts ns
        from ts ns f = record { before = []; after = ts; value = []; split = refl; first = record { none = refl; same = refl }; second = in_turns ts ns f.0 f.1 }

    -- the longest list of annotations that fit
    pub notes_longest : (ts : List Token) (ns : List NoteTree) (rest : List Token) → notes_reader w left may ts ≡ done ns rest → IsLongest (FitsNotes w left may) ts ns rest
    notes_longest ts ns rest e = longest lawful_notes ts ns rest e

    -- or the first token with which none goes on
    pub notes_refused : (ts : List Token) (n k : ℕ) → notes_reader w left may ts ≡ stop n k → IsRefused (FitsNotes w left may) ts k
    notes_refused ts n k e = refused lawful_notes ts n k e
