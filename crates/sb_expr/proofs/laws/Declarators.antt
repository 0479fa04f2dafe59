-- The readers of declarators without a name keep the laws, by descent over the room for pieces.
use Rattle.std.proofs.Common.{◌≡◌, ◌⊎◌, ◌≤◌, ◌-◌, ℕ, zero, suc, Bool, true, false, ◌||◌, ◌&&◌, not, List, [], ◌∷◌, ◌++◌, length, nat_lt, if◌then◌else◌, refl, sym, ap, ◌∙◌, subst, subst₂, append_assoc, append-nil, inl, inr, arith}
use Rattle.std.proofs.lemmas.Bool.{ltb-false, le-ltb}
use Rattle.std.specs.Option.{option_map_or}
use Rattle.sb_base.specs.declared.tokens.Token.{Token}
use Rattle.sb_parse.specs.Parser.{Outcome, Parser, done, stop, at_next, never, and_then, ◌>>=◌, pure, token, choose, guard, refuse, looped}
use Rattle.sb_parse.specs.Lawful.{Lawful, OnHead, Follows, Joined, IsToken, IsEmpty, Opened, Closed, Mapped, Unbarred, Either, Turns, over, turn}
use Rattle.sb_parse.proofs.Joining.{from_there, via, one_token, map_of}
use Rattle.sb_parse.proofs.Heads.{opened, opened_heads, at_head, head_of_append, barred, guarded, choice_of, perhaps_of}
use Rattle.sb_parse.proofs.Looping.{looping}
use Rattle.sb_sign.specs.declared.sign.Keyword.TheVariants as keyword
use Rattle.sb_sign.specs.declared.sign.Mark.{Mark}
use Rattle.sb_sign.specs.declared.sign.Mark.TheVariants as mark
use Rattle.sb_sign.specs.Signs as sign
use Rattle.sb_tree.specs.Trees as tree
use Rattle.sb_tree.specs.Trees.{ExprTree, OptionalExpr, depth_of_optional_expr}
use Rattle.sb_lexicon.specs.Lexicon.{Lexicon, is_mark, is_keyword, is_type_keyword, is_type_word}
use Rattle.sb_operand.specs.Pieces.{Piece, Constant, Pointed, Arrayed, Grouped, constant_if}
use Rattle.sb_expr.specs.Expression.{Assignment, AreQualifiers, no_qualifiers, constant, restricted, IsAbstract, is_direct, is_pointer, IsDirect, is_nothing_more, is_in_parentheses, is_array, IsSize, no_size, a_size}
use Rattle.sb_operand.specs.Readers.{begins_abstract, begins_parameters, calls, one_if, PieceReader, no_declarator}
use Rattle.sb_expr.specs.Readers.{qualifier, pointed, inside, in_parentheses, sized, arrayed, direct, abstract_declarator, declarators}
use Rattle.sb_lexicon.specs.Tokens.{unexpected, too_deep, volatile, function_pointer, is_zero, is_open, is_close, is_open_bracket, is_close_bracket, is_star, is_qualifier}
use Rattle.sb_expr.specs.Reads.{FitsExpr}
use Rattle.sb_expr.proofs.tokens.More.{more, behind_pointers, is_empty, more_direct, more_abstract}
use Rattle.sb_parse.proofs.Ways.{first_fails, second_fails, or_false, or_first, or_second, and_fails, goes_on_where, following_where, follows_map, choice_else, one_refuses, both_refuse, only_else, where_begun, either_within, closing, halted, turns_law, turned_once_more}
use Rattle.sb_lexicon.proofs.Lexemes.{kind_off, mark_is, mark_alone, mark_no_keyword, close_token, close_token_is, close_bracket_token, close_bracket_token_is, star_token, star_token_is}
use Rattle.sb_expr.proofs.tokens.Bracketed.{no_more_at_bracket, no_bracket_first, mark_unqualified, no_more_at_close}
use Rattle.sb_parse.proofs.Descending.{descent_from, descent_step, descent_bottom}
use Rattle.sb_operand.proofs.Putting.{InnerFits}

-- a declarator of so many pieces, in which what stands inside a piece has room
pub record FitsPieces (w : Lexicon) (below room : ℕ) (ts : List Token) (ps : List Piece) : Type 0 where
  pub is : IsAbstract w ts ps
  pub count : length ps ≤ room
  pub sizes : InnerFits below ps

-- ---- how texts begin

module _ (w : Lexicon) where
  abbrev begins_direct : Token → Bool
  begins_direct t = is_open w t || is_open_bracket w t

  -- a text behind the pointers: empty, or with pieces none of which is a pointer in front
  record Begins (ts : List Token) (ps : List Piece) : Type 0 where
    head : at_next begins_direct ts ≡ true
    some : is_empty ps ≡ false
    behind : behind_pointers ps ≡ ps

  record Empty (ts : List Token) (ps : List Piece) : Type 0 where
    no_token : ts ≡ []
    no_piece : ps ≡ []

  direct_begins : (ts : List Token) (ps : List Piece) → IsDirect w ts ps → Empty ts ps ⊎ Begins ts ps
  direct_begins _ _ is_nothing_more = inl (record { no_token = refl; no_piece = refl })
  direct_begins _ _ (is_in_parentheses o c xs p ps opens closes is) = inr (record { head = or_first (is_open w o) (is_open_bracket w o) opens; some = refl; behind = refl })
  direct_begins _ _ (is_array o c xs ys ps size opens closes is fits) = inr (record { head = in_front (direct_begins xs ps is); some = refl; behind = refl })
    where
      in_front : Empty xs ps ⊎ Begins xs ps → at_next begins_direct (xs ++ (o ∷ (ys ++ (c ∷ [])))) ≡ true
      in_front (inl e) = ap (λ l. at_next begins_direct (l ++ (o ∷ (ys ++ (c ∷ []))))) e.no_token ∙ or_second (is_open w o) (is_open_bracket w o) opens
      in_front (inr b) = head_of_append begins_direct xs (o ∷ (ys ++ (c ∷ []))) b.head

  wider : (ts : List Token) → at_next begins_direct ts ≡ true → at_next (begins_abstract w) ts ≡ true
  wider [] h = absurd (cc h)
  wider (t ∷ ts) h = or_second (is_star w t) (is_open w t || is_open_bracket w t) h

  record Starts (ts : List Token) (ps : List Piece) : Type 0 where
    head : at_next (begins_abstract w) ts ≡ true
    some : is_empty ps ≡ false

  abstract_begins : (ts : List Token) (ps : List Piece) → IsAbstract w ts ps → Empty ts ps ⊎ Starts ts ps
  abstract_begins _ _ (is_direct xs ps is) = by_case (direct_begins xs ps is)
    where
      by_case : Empty xs ps ⊎ Begins xs ps → Empty xs ps ⊎ Starts xs ps
      by_case (inl e) = inl e
      by_case (inr b) = inr (record { head = wider xs b.head; some = b.some })
  abstract_begins _ _ (is_pointer t c xs ys ps star quals is) = inr (record { head = or_first (is_star w t) (is_open w t || is_open_bracket w t) star; some = refl })

  -- no pieces, no tokens
  pub no_pieces : (ts : List Token) (ps : List Piece) → IsAbstract w ts ps → is_empty ps ≡ true → ts ≡ []
  no_pieces ts ps is none = by_case (abstract_begins ts ps is)
    where
      by_case : Empty ts ps ⊎ Starts ts ps → ts ≡ []
      by_case (inl e) = e.no_token
      by_case (inr s) = absurd (let both : true ≡ false = sym none ∙ s.some in cc both)

  pub pieces_begin : (ts : List Token) (ps : List Piece) → IsAbstract w ts ps → is_empty ps ≡ false → at_next (begins_abstract w) ts ≡ true
  pieces_begin ts ps is some = by_case (abstract_begins ts ps is)
    where
      by_case : Empty ts ps ⊎ Starts ts ps → at_next (begins_abstract w) ts ≡ true
      by_case (inl e) = absurd (let both : true ≡ false = sym (ap is_empty e.no_piece) ∙ some in cc both)
      by_case (inr s) = s.head

  -- what begins a declarator is a mark
  by_mark_of : (test : Token → Bool) → ((t : Token) → is_star w t ≡ true → test t ≡ false) → ((t : Token) → is_open w t ≡ true → test t ≡ false) → ((t : Token) → is_open_bracket w t ≡ true → test t ≡ false)
      → (t : Token) → begins_abstract w t ≡ true → test t ≡ false
  by_mark_of test star open_ bracket t h = by_star (is_star w t) refl h
    where
      by_open : (b : Bool) → is_open w t ≡ b → (b || is_open_bracket w t) ≡ true → test t ≡ false
      by_open true k e = open_ t k
      by_open false k e = bracket t e

      by_star : (b : Bool) → is_star w t ≡ b → (b || (is_open w t || is_open_bracket w t)) ≡ true → test t ≡ false
      by_star true k e = star t k
      by_star false k e = by_open (is_open w t) refl e

  pub unqualified : (t : Token) → begins_abstract w t ≡ true → is_qualifier w t ≡ false
  unqualified = by_mark_of (is_qualifier w) (mark_unqualified w mark.Star) (mark_unqualified w mark.OpenParenthesis) (mark_unqualified w mark.OpenBracket)

  pub head_fails : (goes test : Token → Bool) → ((t : Token) → goes t ≡ true → test t ≡ false) → (ts : List Token) → at_next goes ts ≡ true → at_next test ts ≡ false
  head_fails goes test step [] h = refl
  head_fails goes test step (t ∷ ts) h = step t h

  unworded : (t : Token) → begins_abstract w t ≡ true → is_type_word w t ≡ false
  unworded = by_mark_of (is_type_word w) (by_mark mark.Star) (by_mark mark.OpenParenthesis) (by_mark mark.OpenBracket)
    where
      by_mark : (m : Mark) (t : Token) → is_mark w m t ≡ true → is_type_word w t ≡ false
      by_mark m t h = ap (λ o. option_map_or is_type_keyword o false) (mark_no_keyword w m t (mark_is w m t h))

  -- no declarator begins with a word of a type name
  pub pieces_unworded : (ts : List Token) (ps : List Piece) (later : List Token) → IsAbstract w ts ps → is_empty ps ≡ false → at_next (is_type_word w) (ts ++ later) ≡ false
  pieces_unworded ts ps later is some = head_fails (begins_abstract w) (is_type_word w) unworded (ts ++ later) (head_of_append (begins_abstract w) ts later (pieces_begin ts ps is some))

-- ---- one declarator, with room for b pieces above one

module _ (w : Lexicon) (below : ℕ) (size : ℕ → Parser Token ExprTree) (S : (n : ℕ) → suc n ≤ below → Lawful (FitsExpr w (below - n) Assignment) (more w Assignment) (size n))
    (b : ℕ) (small : suc b ≤ below) (rest : ℕ → PieceReader) (R : (k : ℕ) → k ≤ b → Lawful (FitsPieces w below (b - k)) (more_abstract w) (rest k)) where
  -- ---- qualifiers

  abbrev Nowhere : List Token → Bool → Type 0
  Nowhere ts c = ⊥

  abbrev QualifierText : Bool → List Token → Bool → Type 0
  QualifierText c = Either (Unbarred (is_zero b) (Mapped (λ t. true) (IsToken (is_keyword w keyword.Const)))) (Either (Mapped (λ t. c) (IsToken (is_keyword w keyword.Restrict))) Nowhere)

  alone : (test : Token → Bool) (c : Bool) → OnHead test (Mapped (λ t. c) (IsToken test)) (λ _. never) (token unexpected test >>= (λ t. pure c))
  alone test c = at_head test (λ t h. map_of (one_token unexpected test t h) (λ t. c) (λ _. never) (λ a t. refl)) (λ ts a m. ap (at_next test) m.is.alone ∙ m.is.passes)

  no_const : (c : Bool) (ts : List Token) (d : Bool) → Either (Mapped (λ t. c) (IsToken (is_keyword w keyword.Restrict))) Nowhere ts d → at_next (is_keyword w keyword.Const) ts ≡ false
  no_const c ts d (inl m) = ap (at_next (is_keyword w keyword.Const)) m.is.alone ∙ kind_off w (sign.is_same_keyword keyword.Restrict) keyword.Const m.value refl m.is.passes
  no_const c ts d (inr e) = absurd e

  qualifier_head : (c : Bool) → OnHead (is_qualifier w) (QualifierText c) (λ _. never) (qualifier w size b rest c)
  unfolding qualifier
  qualifier_head c =
      either_within (guarded (is_zero b) too_deep (λ room. alone (is_keyword w keyword.Const) true))
      (either_within (alone (is_keyword w keyword.Restrict) c) (barred (is_qualifier w) Nowhere (λ _. never) volatile (λ ts d e. e))
      (λ t h. or_second (is_keyword w keyword.Const t) (is_keyword w keyword.Restrict t || is_keyword w keyword.Volatile t) (or_first (is_keyword w keyword.Restrict t) (is_keyword w keyword.Volatile t) h))
      (λ ts d e. absurd e))
      (λ t h. or_first (is_keyword w keyword.Const t) (is_keyword w keyword.Restrict t || is_keyword w keyword.Volatile t) h)
      (no_const c)

  abbrev QualifierTexts : List Token → Bool → Type 0
  QualifierTexts = Turns QualifierText false

  pub qualifiers_law : Lawful QualifierTexts (λ c. is_qualifier w) (looped (is_qualifier w) (qualifier w size b rest) false)
  qualifiers_law = turns_law qualifier_head false

  are_qualifiers : (c d : Bool) (ts : List Token) → Turns QualifierText c ts d → AreQualifiers w c ts d
  are_qualifiers _ _ _ (over c) = no_qualifiers c
  are_qualifiers _ _ _ (turn c e d xs ys (inl u) later) =
      subst (λ l. AreQualifiers w c l d) (sym (ap (λ l. l ++ ys) u.is.is.alone)) (constant c d u.is.value ys u.is.is.passes (subst (λ z. AreQualifiers w z ys d) u.is.same (are_qualifiers e d ys later)))
  are_qualifiers _ _ _ (turn c e d xs ys (inr (inl m)) later) =
      subst (λ l. AreQualifiers w c l d) (sym (ap (λ l. l ++ ys) m.is.alone)) (restricted c d m.value ys m.is.passes (subst (λ z. AreQualifiers w z ys d) m.same (are_qualifiers e d ys later)))
  are_qualifiers _ _ _ (turn c e d xs ys (inr (inr m)) later) = absurd m

  has_room : (c d : Bool) (ts : List Token) → Turns QualifierText c ts d → (c ≡ true → is_zero b ≡ false) → d ≡ true → is_zero b ≡ false
  has_room _ _ _ (over c) room = room
  has_room _ _ _ (turn c e d xs ys (inl u) later) room = has_room e d ys later (λ h. u.open_way)
  has_room _ _ _ (turn c e d xs ys (inr (inl m)) later) room = has_room e d ys later (λ h. room (sym m.same ∙ h))
  has_room _ _ _ (turn c e d xs ys (inr (inr m)) later) room = absurd m

  stays_constant : (c d : Bool) (ts : List Token) → AreQualifiers w c ts d → c ≡ true → d ≡ true
  stays_constant _ _ _ (no_qualifiers c) h = h
  stays_constant _ _ _ (constant c d t ts is are) h = stays_constant true d ts are refl
  stays_constant _ _ _ (restricted c d t ts is are) h = stays_constant c d ts are h

  pub from_qualifiers : (c d : Bool) (ts : List Token) → AreQualifiers w c ts d → (d ≡ true → is_zero b ≡ false) → Turns QualifierText c ts d
  from_qualifiers _ _ _ (no_qualifiers c) room = over c
  from_qualifiers _ _ _ (constant c d t ts is are) room =
      turn c true d (t ∷ []) ts (inl (record { open_way = room (stays_constant true d ts are refl); is = record { value = t; is = record { alone = refl; passes = is }; same = refl } }))
      (from_qualifiers true d ts are room)
  from_qualifiers _ _ _ (restricted c d t ts is are) room =
      turn c c d (t ∷ []) ts (inr (inl (record { value = t; is = record { alone = refl; passes = is }; same = refl }))) (from_qualifiers c d ts are room)

  pub one_fits : (c : Bool) → (c ≡ true → is_zero b ≡ false) → one_if c ≤ b
  one_fits false room = let none : 0 ≤ b = omega arith in none
  one_fits true room = by_room b (room refl)
    where
      by_room : (b : ℕ) → is_zero b ≡ false → 1 ≤ b
      by_room zero h = absurd (cc h)
      by_room (suc b) h = omega arith

  -- ---- a pointer

  abbrev BehindStar : Token → Bool → List Token → List Piece → Type 0
  BehindStar t c = Mapped (λ ps. Pointed t.place ∷ constant_if c ps) (FitsPieces w below (b - one_if c))

  abbrev PointedText : List Token → List Piece → Type 0
  PointedText = Opened (is_star w) (λ t. Joined QualifierTexts (BehindStar t))

  -- what goes on behind a pointer and its qualifiers
  abbrev more_pointed : List Piece → Token → Bool
  more_pointed ps u = if is_empty (behind_pointers ps) then begins_abstract w u || is_qualifier w u else more_direct w (behind_pointers ps) u

  pointed_more : (t : Token) (c : Bool) (ps : List Piece) (u : Token) → more_abstract w (Pointed t.place ∷ constant_if c ps) u ≡ more_pointed ps u
  pointed_more t true ps u = refl
  pointed_more t false ps u = refl

  fewer_behind : (ps : List Piece) (u : Token) → more_pointed ps u ≡ false → more_abstract w ps u ≡ false
  fewer_behind ps u = by_test (is_empty (behind_pointers ps))
    where
      narrower : (x y z : Bool) → (x || y) ≡ false → (x || (z && y)) ≡ false
      narrower true y z h = absurd (cc h)
      narrower false y true h = h
      narrower false y false h = refl

      by_test : (e : Bool) → (if e then begins_abstract w u || is_qualifier w u else more_direct w (behind_pointers ps) u) ≡ false
          → (if e then begins_abstract w u || (not (is_empty ps) && is_qualifier w u) else more_direct w (behind_pointers ps) u) ≡ false
      by_test true h = narrower (begins_abstract w u) (is_qualifier w u) (not (is_empty ps)) h
      by_test false h = h

  enough_behind : (ts : List Token) (ps : List Piece) (later : List Token) → IsAbstract w ts ps → at_next (is_qualifier w) (ts ++ later) ≡ false → at_next (more_abstract w ps) later ≡ false → at_next (more_pointed ps) later ≡ false
  enough_behind ts ps [] is off h = refl
  enough_behind ts [] (u ∷ later) is off h =
      let plain : is_qualifier w u ≡ false = sym (ap (λ l. at_next (is_qualifier w) (l ++ (u ∷ later))) (no_pieces w ts [] is refl)) ∙ off in
      ap (λ z. z || is_qualifier w u) (first_fails (begins_abstract w u) false h) ∙ plain
  enough_behind ts (p ∷ ps) (u ∷ later) is off h = h

  behind_law : (t : Token) (c : Bool) → (c ≡ true → is_zero b ≡ false) → Follows (is_qualifier w) (BehindStar t c) (more_abstract w) (rest (one_if c) >>= (λ ps. pure (Pointed t.place ∷ constant_if c ps)))
  behind_law t c room =
      follows_map (following_where (R (one_if c) (one_fits c room)) (is_qualifier w) more_pointed (λ ts ps is u h. fewer_behind ps u h) (λ ts ps later is off h. enough_behind ts ps later is.is off h))
      (λ ps. Pointed t.place ∷ constant_if c ps) (more_abstract w) (pointed_more t c)

  behind_apart : (t : Token) (c : Bool) (ys : List Token) (qs : List Piece) (later : List Token) → BehindStar t c ys qs → at_next (more_abstract w qs) later ≡ false → at_next (is_qualifier w) (ys ++ later) ≡ false
  behind_apart t c ys qs later m h = by_pieces (is_empty m.value) refl (sym (next_as later) ∙ ap (λ z. at_next (more_abstract w z) later) (sym m.same) ∙ h)
    where
      next_as : (later : List Token) → at_next (more_abstract w (Pointed t.place ∷ constant_if c m.value)) later ≡ at_next (more_pointed m.value) later
      next_as [] = refl
      next_as (u ∷ later) = pointed_more t c m.value u

      no_behind : (ps : List Piece) → is_empty ps ≡ true → is_empty (behind_pointers ps) ≡ true
      no_behind [] e = refl
      no_behind (p ∷ ps) e = absurd (cc e)

      not_qualified : (later : List Token) → is_empty m.value ≡ true → at_next (more_pointed m.value) later ≡ false → at_next (is_qualifier w) later ≡ false
      not_qualified [] e k = refl
      not_qualified (u ∷ later) e k =
          second_fails (begins_abstract w u) (is_qualifier w u) (sym (ap (λ z. if z then begins_abstract w u || is_qualifier w u else more_direct w (behind_pointers m.value) u) (no_behind m.value e)) ∙ k)

      by_pieces : (e : Bool) → is_empty m.value ≡ e → at_next (more_pointed m.value) later ≡ false → at_next (is_qualifier w) (ys ++ later) ≡ false
      by_pieces true e k = ap (λ l. at_next (is_qualifier w) (l ++ later)) (no_pieces w ys m.value m.is.is e) ∙ not_qualified later e k
      by_pieces false e k = head_fails w (begins_abstract w) (is_qualifier w) (unqualified w) (ys ++ later) (head_of_append (begins_abstract w) ys later (pieces_begin w ys m.value m.is.is e))

  pointed_head : OnHead (is_star w) PointedText (more_abstract w) (pointed w size b rest)
  unfolding pointed
  pointed_head = at_head (is_star w) law opened_heads
    where
      law : (t : Token) → is_star w t ≡ true
          → Lawful PointedText (more_abstract w) (token unexpected (is_star w) >>= (λ t. looped (is_qualifier w) (qualifier w size b rest) false >>= (λ c. rest (one_if c) >>= (λ ps. pure (Pointed t.place ∷ constant_if c ps)))))
      law t h = opened {Is = λ s. Joined QualifierTexts (BehindStar s)} unexpected (is_star w) t h (λ s passes.
          from_there {Second = BehindStar s} {q = λ c. rest (one_if c) >>= (λ ps. pure (Pointed s.place ∷ constant_if c ps))} qualifiers_law
          (λ xs c is. behind_law s c (has_room false c xs is (λ e. cc e))) (λ xs c ys qs later is second e. behind_apart s c ys qs later second e))

  -- ---- parentheses

  abbrev InsideText : Token → List Token → List Piece → Type 0
  InsideText o = Mapped (λ ps. Grouped o.place ∷ ps) (Closed (is_close w) (λ ts ps. FitsPieces w below b ts ps × (is_empty ps ≡ false)))

  inside_law : (o : Token) → Lawful (Mapped (λ ps. Grouped o.place ∷ ps) (Closed (is_close w) (FitsPieces w below b))) (λ _. never) (inside w size b rest o)
  unfolding inside
  inside_law o =
      let all : b - 0 ≡ b = omega arith in
      closing unexpected (is_close w) close_token (close_token_is w) (subst (λ m. Lawful (FitsPieces w below m) (more_abstract w) (rest 0)) all (R 0 (omega arith))) (no_more_at_close w) (λ ps. Grouped o.place ∷ ps)

  inside_head : (o : Token) → OnHead (begins_abstract w) (InsideText o) (λ _. never) (inside w size b rest o)
  inside_head o = where_begun (inside_law o) (begins_abstract w) (InsideText o) to from own heads
    where
      close_begins_none : (t : Token) → is_close w t ≡ true → begins_abstract w t ≡ false
      close_begins_none t h = first_fails (begins_abstract w t) false (no_more_at_close w [] t h)

      to : (ts : List Token) (qs : List Piece) → Mapped (λ ps. Grouped o.place ∷ ps) (Closed (is_close w) (FitsPieces w below b)) ts qs → at_next (begins_abstract w) ts ≡ true → InsideText o ts qs
      to ts qs m h = by_pieces (is_empty m.value) refl
        where
          by_pieces : (e : Bool) → is_empty m.value ≡ e → InsideText o ts qs
          by_pieces false e = record { value = m.value; is = record { front = m.is.front; closing = m.is.closing; split = m.is.split; is = (m.is.is, e); passes = m.is.passes }; same = m.same }
          by_pieces true e =
              let alone : ts ≡ m.is.closing ∷ [] = m.is.split ∙ ap (λ l. l ++ (m.is.closing ∷ [])) (no_pieces w m.is.front m.value m.is.is.is e) in
              absurd (let both : true ≡ false = sym h ∙ ap (at_next (begins_abstract w)) alone ∙ close_begins_none m.is.closing m.is.passes in cc both)

      from : (ts : List Token) (qs : List Piece) → InsideText o ts qs → Mapped (λ ps. Grouped o.place ∷ ps) (Closed (is_close w) (FitsPieces w below b)) ts qs
      from ts qs m = record { value = m.value; is = record { front = m.is.front; closing = m.is.closing; split = m.is.split; is = m.is.is.0; passes = m.is.passes }; same = m.same }

      not_none : (front : List Token) (c : Token) → [] ≡ front ++ (c ∷ []) → ⊥
      not_none [] c e = cc e
      not_none (t ∷ front) c e = cc e

      own : (ts : List Token) (qs : List Piece) (later : List Token) → Mapped (λ ps. Grouped o.place ∷ ps) (Closed (is_close w) (FitsPieces w below b)) ts qs
          → at_next (begins_abstract w) (ts ++ later) ≡ true → at_next (begins_abstract w) ts ≡ true
      own [] qs later m h = absurd (not_none m.is.front m.is.closing m.is.split)
      own (t ∷ ts) qs later m h = h

      heads : (ts : List Token) (qs : List Piece) → InsideText o ts qs → at_next (begins_abstract w) ts ≡ true
      heads ts qs m = ap (at_next (begins_abstract w)) m.is.split ∙ head_of_append (begins_abstract w) m.is.front (m.is.closing ∷ []) (pieces_begin w m.is.front m.value m.is.is.0.is m.is.is.1)

  at_least_one : is_zero b ≡ false → 1 ≤ b
  at_least_one h = one_fits true (λ e. h)

  -- `*)`
  inside_text : (o : Token) → is_zero b ≡ false → InsideText o (star_token ∷ (close_token ∷ [])) (Grouped o.place ∷ (Pointed star_token.place ∷ []))
  inside_text o room =
      let star : IsAbstract w (star_token ∷ []) (Pointed star_token.place ∷ []) = is_pointer star_token false [] [] [] (star_token_is w) (no_qualifiers false) (is_direct [] [] is_nothing_more) in
      let none : 0 ≤ below - 0 = omega arith in
      record {
        value = Pointed star_token.place ∷ [];
        is = record { front = star_token ∷ []; closing = close_token; split = refl; is = (record { is = star; count = at_least_one room; sizes = (none, tt) }, refl); passes = close_token_is w };
        same = refl;
      }

  in_parentheses_law : is_zero b ≡ false → (t : Token) → is_open w t ≡ true → Lawful (Opened (is_open w) InsideText) (λ _. never) (in_parentheses w size b rest)
  unfolding in_parentheses
  in_parentheses_law room t h =
      opened {Is = InsideText} unexpected (is_open w) t h (λ o passes.
      only_else (choose (begins_parameters w) (refuse function_pointer) (refuse unexpected)) (inside_head o)
      (λ ts. both_refuse (begins_parameters w) (refuse function_pointer) (refuse unexpected) ts (one_refuses function_pointer ts) (one_refuses unexpected ts))
      (star_token ∷ (close_token ∷ [])) (Grouped o.place ∷ (Pointed star_token.place ∷ [])) (inside_text o room))

  -- an opening parenthesis goes on where there is no piece so far
  abbrev more_base : List Piece → Token → Bool
  more_base ps t = is_empty ps && is_open w t

  abbrev ParenText : List Token → List Piece → Type 0
  ParenText = Unbarred (is_zero b) (Opened (is_open w) InsideText)

  abbrev BaseText : List Token → List Piece → Type 0
  BaseText = Either ParenText (IsEmpty [])

  paren_head : is_zero b ≡ false → OnHead (is_open w) (Opened (is_open w) InsideText) more_base (in_parentheses w size b rest)
  paren_head room =
      at_head (is_open w) (λ t h. goes_on_where (in_parentheses_law room t h) more_base (λ ts qs o u. ap (λ z. is_empty z && is_open w u) o.is.same)) opened_heads

  pub base_law : Lawful BaseText more_base (choose (is_open w) (guard (is_zero b) too_deep (in_parentheses w size b rest)) (pure []))
  base_law = perhaps_of [] (guarded (is_zero b) too_deep paren_head) (λ t. refl)

  -- ---- arrays

  abbrev FitsSize : ℕ → List Token → OptionalExpr → Type 0
  FitsSize n ts e = IsSize w ts e × (depth_of_optional_expr e ≤ below - n)

  abbrev closed_as : (OptionalExpr → List Piece) → OptionalExpr → PieceReader
  closed_as f e = token unexpected (is_close_bracket w) >>= (λ c. pure (f e))

  abbrev NoText : (OptionalExpr → List Piece) → List Token → List Piece → Type 0
  NoText f = Mapped (λ c. f tree.NoExpr) (IsToken (is_close_bracket w))

  abbrev ExprText : ℕ → (OptionalExpr → List Piece) → List Token → List Piece → Type 0
  ExprText n f = Mapped (λ e. f (tree.AnExpr e)) (Closed (is_close_bracket w) (FitsExpr w (below - n) Assignment))

  size_law : (n : ℕ) → suc n ≤ below → (f : OptionalExpr → List Piece) → Lawful (Mapped f (Closed (is_close_bracket w) (FitsSize n))) (λ _. never) (sized w size b rest n >>= closed_as f)
  unfolding sized
  size_law n le f =
      via (choice_of (at_head (is_close_bracket w) (λ t h. map_of (one_token unexpected (is_close_bracket w) t h) (λ c. f tree.NoExpr) (λ _. never) (λ a t. refl)) (λ ts a m. ap (at_next (is_close_bracket w)) m.is.alone ∙ m.is.passes))
      (closing unexpected (is_close_bracket w) close_bracket_token (close_bracket_token_is w) (S n le) (no_more_at_bracket w) (λ e. f (tree.AnExpr e))) apart) to from (sized w size b rest n >>= closed_as f)
      (λ ts. same (at_next (is_close_bracket w) ts) ts (size n ts))
    where
      apart : (ts : List Token) (qs : List Piece) (later : List Token) → ExprText n f ts qs → at_next never later ≡ false → at_next (is_close_bracket w) (ts ++ later) ≡ false
      apart ts qs later m e =
          ap (λ l. at_next (is_close_bracket w) (l ++ later)) m.is.split ∙ ap (at_next (is_close_bracket w)) (append_assoc m.is.front (m.is.closing ∷ []) later)
          ∙ no_bracket_first w Assignment m.is.front m.value ((m.is.closing ∷ []) ++ later) m.is.is.0

      to : (ts : List Token) (qs : List Piece) → Either (NoText f) (ExprText n f) ts qs → Mapped f (Closed (is_close_bracket w) (FitsSize n)) ts qs
      to ts qs (inl m) =
          let none : 0 ≤ below - n = omega arith in
          record { value = tree.NoExpr; is = record { front = []; closing = m.value; split = m.is.alone; is = (no_size, none); passes = m.is.passes }; same = m.same }
      to ts qs (inr m) = record { value = tree.AnExpr m.value; is = record { front = m.is.front; closing = m.is.closing; split = m.is.split; is = (a_size m.is.front m.value m.is.is.0, m.is.is.1); passes = m.is.passes }; same = m.same }

      from : (ts : List Token) (qs : List Piece) → Mapped f (Closed (is_close_bracket w) (FitsSize n)) ts qs → Either (NoText f) (ExprText n f) ts qs
      from ts qs m = by_size m.is.front m.value m.is.is.0 m.is.is.1 m.is.split m.same
        where
          by_size : (front : List Token) (e : OptionalExpr) → IsSize w front e → depth_of_optional_expr e ≤ below - n → ts ≡ front ++ (m.is.closing ∷ []) → qs ≡ f e → Either (NoText f) (ExprText n f) ts qs
          by_size _ _ no_size le split same = inl (record { value = m.is.closing; is = record { alone = split; passes = m.is.passes }; same = same })
          by_size _ _ (a_size xs e is) le split same = inr (record { value = e; is = record { front = xs; closing = m.is.closing; split = split; is = (is, le); passes = m.is.passes }; same = same })

      same : (closes : Bool) (ts : List Token) (o : Outcome Token ExprTree)
          → and_then (if closes then done tree.NoExpr ts else and_then o (λ e. pure (tree.AnExpr e))) (closed_as f) ≡ (if closes then closed_as f tree.NoExpr ts else and_then o (λ e. closed_as f (tree.AnExpr e)))
      same true ts o = refl
      same false ts (done e r) = refl
      same false ts (stop m left) = refl

  abbrev ArrayText : List Piece → List Token → List Piece → Type 0
  ArrayText ps = Unbarred (nat_lt b (length ps)) (Opened (is_open_bracket w) (λ o. Mapped (λ e. Arrayed e o.place ∷ ps) (Closed (is_close_bracket w) (FitsSize (length ps)))))

  pub array_head : (ps : List Piece) → OnHead (is_open_bracket w) (ArrayText ps) more_base (arrayed w size b rest ps)
  unfolding arrayed
  array_head ps = guarded (nat_lt b (length ps)) too_deep (λ room. at_head (is_open_bracket w) (law room) opened_heads)
    where
      law : nat_lt b (length ps) ≡ false → (t : Token) → is_open_bracket w t ≡ true
          → Lawful (Opened (is_open_bracket w) (λ o. Mapped (λ e. Arrayed e o.place ∷ ps) (Closed (is_close_bracket w) (FitsSize (length ps))))) more_base
          (token unexpected (is_open_bracket w) >>= (λ o. sized w size b rest (length ps) >>= closed_as (λ e. Arrayed e o.place ∷ ps)))
      law room t h =
          let few : length ps ≤ b = ltb-false b (length ps) room in
          goes_on_where (opened {Is = λ o. Mapped (λ e. Arrayed e o.place ∷ ps) (Closed (is_close_bracket w) (FitsSize (length ps)))} unexpected (is_open_bracket w) t h
          (λ o passes. size_law (length ps) (omega arith) (λ e. Arrayed e o.place ∷ ps))) more_base (λ ts qs o u. ap (λ z. is_empty z && is_open w u) o.is.same)

  -- ---- parentheses and arrays

  abbrev more_behind : List Piece → Token → Bool
  more_behind ps t = (is_open_bracket w t || more_base ps t) || calls w ps t

  abbrev DirectText : List Token → List Piece → Type 0
  DirectText = Joined BaseText (Turns ArrayText)

  record FitsDirect (ts : List Token) (ps : List Piece) : Type 0 where
    is : IsDirect w ts ps
    count : length ps ≤ suc b
    sizes : InnerFits below ps

  pub bracket_apart : (ps : List Piece) (t : Token) → is_open_bracket w t ≡ true → more_base ps t ≡ false
  bracket_apart ps t h = and_fails (is_empty ps) (is_open w t) (mark_alone w mark.OpenBracket mark.OpenParenthesis t (mark_is w mark.OpenBracket t h) refl)

  paren_fits : (ts : List Token) (ps : List Piece) → ParenText ts ps → FitsDirect ts ps
  paren_fits ts ps u = by_pieces u.is.is.value u.is.is.is.is.0 u.is.is.is.is.1 u.is.is.same
    where
      tokens : ts ≡ u.is.opening ∷ (u.is.is.is.front ++ (u.is.is.is.closing ∷ []))
      tokens = u.is.split ∙ ap (λ l. u.is.opening ∷ l) u.is.is.is.split

      by_pieces : (qs : List Piece) → FitsPieces w below b u.is.is.is.front qs → is_empty qs ≡ false → ps ≡ Grouped u.is.opening.place ∷ qs → FitsDirect ts ps
      by_pieces [] fits some same = absurd (cc some)
      by_pieces (q ∷ qs) fits some same =
          let none : 0 ≤ below - length (q ∷ qs) = omega arith in
          let few : length (q ∷ qs) ≤ b = fits.count in
          record {
            is = subst₂ (IsDirect w) (sym tokens) (sym same) (is_in_parentheses u.is.opening u.is.is.is.closing u.is.is.is.front q qs u.is.passes u.is.is.is.passes fits.is);
            count = subst (λ z. length z ≤ suc b) (sym same) (let le : suc (length (q ∷ qs)) ≤ suc b = omega arith in le);
            sizes = subst (InnerFits below) (sym same) (none, fits.sizes);
          }

  base_fits : (ts : List Token) (ps : List Piece) → BaseText ts ps → FitsDirect ts ps
  base_fits ts ps (inl u) = paren_fits ts ps u
  base_fits ts ps (inr m) =
      let none : 0 ≤ suc b = omega arith in
      subst₂ FitsDirect (sym m.none) (sym m.same) (record { is = is_nothing_more; count = none; sizes = tt })

  array_fits : (xs : List Token) (ps : List Piece) (ys : List Token) (qs : List Piece) → FitsDirect xs ps → ArrayText ps ys qs → FitsDirect (xs ++ ys) qs
  array_fits xs ps ys qs fits u =
      let o = u.is in
      let m = u.is.is in
      let few : length ps ≤ b = ltb-false b (length ps) u.open_way in
      let count : suc (length ps) ≤ suc b = omega arith in
      let tokens : xs ++ ys ≡ xs ++ (o.opening ∷ (m.is.front ++ (m.is.closing ∷ []))) = ap (λ l. xs ++ l) (o.split ∙ ap (λ l. o.opening ∷ l) m.is.split) in
      subst₂ FitsDirect (sym tokens) (sym m.same) (record {
        is = is_array o.opening m.is.closing xs m.is.front ps m.value o.passes m.is.passes fits.is m.is.is.0;
        count = count;
        sizes = (m.is.is.1, fits.sizes);
      })

  turns_fit : (xs : List Token) (ps : List Piece) (ys : List Token) (qs : List Piece) → FitsDirect xs ps → Turns ArrayText ps ys qs → FitsDirect (xs ++ ys) qs
  turns_fit xs _ _ _ fits (over ps) = subst (λ l. FitsDirect l ps) (sym (append-nil xs)) fits
  turns_fit xs _ _ _ fits (turn ps qs rs us vs first later) = subst (λ l. FitsDirect l rs) (append_assoc xs us vs) (turns_fit (xs ++ us) qs vs rs (array_fits xs ps us qs fits first) later)

  to_direct : (ts : List Token) (ps : List Piece) → DirectText ts ps → FitsDirect ts ps
  to_direct ts ps j = subst (λ l. FitsDirect l ps) (sym j.split) (turns_fit j.before j.value j.after ps (base_fits j.before j.value j.first) j.second)

  not_zero : (n : ℕ) → 1 ≤ n → is_zero n ≡ false
  not_zero zero le = absurd (omega arith)
  not_zero (suc n) le = refl

  pub from_direct : (ts : List Token) (ps : List Piece) → IsDirect w ts ps → length ps ≤ suc b → InnerFits below ps → DirectText ts ps
  from_direct _ _ is_nothing_more count sizes = record { before = []; after = []; value = []; split = refl; first = inr (record { none = refl; same = refl }); second = over [] }
  from_direct _ _ (is_in_parentheses o c xs p ps opens closes is) count sizes =
      let all : suc (suc (length ps)) ≤ suc b = count in
      let few : suc (length ps) ≤ b = omega arith in
      record {
        before = o ∷ (xs ++ (c ∷ []));
        after = [];
        value = Grouped o.place ∷ (p ∷ ps);
        split = sym (append-nil (o ∷ (xs ++ (c ∷ []))));
        first = inl (record {
          open_way = not_zero b (omega arith);
          is = record {
            opening = o;
            rest = xs ++ (c ∷ []);
            split = refl;
            passes = opens;
            is = record { value = p ∷ ps; is = record { front = xs; closing = c; split = refl; is = (record { is = is; count = few; sizes = sizes.1 }, refl); passes = closes }; same = refl };
          };
        });
        second = over (Grouped o.place ∷ (p ∷ ps));
      }
  from_direct _ _ (is_array o c xs ys ps size opens closes is fits) count sizes =
      let all : suc (length ps) ≤ suc b = count in
      let few : length ps ≤ b = omega arith in
      let j = from_direct xs ps is (omega arith) sizes.1 in
      record {
        before = j.before;
        after = j.after ++ (o ∷ (ys ++ (c ∷ [])));
        value = j.value;
        split = ap (λ l. l ++ (o ∷ (ys ++ (c ∷ [])))) j.split ∙ append_assoc j.before j.after (o ∷ (ys ++ (c ∷ [])));
        first = j.first;
        second = turned_once_more j.value ps (Arrayed size o.place ∷ ps) j.after (o ∷ (ys ++ (c ∷ []))) j.second (record {
          open_way = le-ltb b (length ps) few;
          is = record { opening = o; rest = ys ++ (c ∷ []); split = refl; passes = opens; is = record { value = size; is = record { front = ys; closing = c; split = refl; is = (fits, sizes.0); passes = closes }; same = refl } };
        });
      }

  direct_law : Lawful FitsDirect more_behind (direct w size b rest)
  unfolding direct
  direct_law =
      via (halted (looping array_head bracket_apart base_law) (calls w) function_pointer) to_direct (λ ts ps f. from_direct ts ps f.is f.count f.sizes)
      (choose (is_open w) (guard (is_zero b) too_deep (in_parentheses w size b rest)) (pure []) >>= looped (is_open_bracket w) (arrayed w size b rest) >>= (λ ps. choose (calls w ps) (refuse function_pointer) (pure ps)))
      (λ ts. refl)

  -- ---- all declarators

  -- with pieces and no pointer in front, what goes on is the same by both words
  begun_more : (ts : List Token) (ps : List Piece) → Begins w ts ps → (t : Token) → more_abstract w ps t ≡ more_behind ps t
  begun_more ts ps s t =
      ap (λ qs. if is_empty qs then begins_abstract w t || (not (is_empty ps) && is_qualifier w t) else more_direct w qs t) s.behind
      ∙ ap (λ z. if z then begins_abstract w t || (not (is_empty ps) && is_qualifier w t) else more_direct w ps t) s.some
      ∙ ap (λ z. z || calls w ps t) (sym (or_false (is_open_bracket w t)))
      ∙ sym (ap (λ z. (is_open_bracket w t || (z && is_open w t)) || calls w ps t) s.some)

  without_star : (x y z : Bool) → ((x || (y || z)) || false) ≡ false → ((z || y) || false) ≡ false
  without_star true y z h = absurd (cc h)
  without_star false true z h = absurd (cc h)
  without_star false false true h = absurd (cc h)
  without_star false false false h = refl

  with_star : (x y z : Bool) → x ≡ false → ((z || y) || false) ≡ false → ((x || (y || z)) || false) ≡ false
  with_star true y z off h = absurd (cc off)
  with_star false y true off h = absurd (cc h)
  with_star false true false off h = absurd (cc h)
  with_star false false false off h = refl

  star_fails : (x y : Bool) → ((x || y) || false) ≡ false → x ≡ false
  star_fails x y h = first_fails x y (first_fails (x || y) false h)

  direct_fewer : (ts : List Token) (ps : List Piece) → FitsDirect ts ps → (t : Token) → more_abstract w ps t ≡ false → more_behind ps t ≡ false
  direct_fewer ts ps f t h = by_case (direct_begins w ts ps f.is)
    where
      by_case : Empty w ts ps ⊎ Begins w ts ps → more_behind ps t ≡ false
      by_case (inl e) = ap (λ qs. more_behind qs t) e.no_piece ∙ without_star (is_star w t) (is_open w t) (is_open_bracket w t) (sym (ap (λ qs. more_abstract w qs t) e.no_piece) ∙ h)
      by_case (inr s) = sym (begun_more ts ps s t) ∙ h

  direct_enough : (ts : List Token) (ps : List Piece) (later : List Token) → FitsDirect ts ps → at_next (is_star w) (ts ++ later) ≡ false → at_next (more_behind ps) later ≡ false → at_next (more_abstract w ps) later ≡ false
  direct_enough ts ps [] f off h = refl
  direct_enough ts ps (t ∷ later) f off h = by_case (direct_begins w ts ps f.is)
    where
      by_case : Empty w ts ps ⊎ Begins w ts ps → more_abstract w ps t ≡ false
      by_case (inl e) =
          ap (λ qs. more_abstract w qs t) e.no_piece
          ∙ with_star (is_star w t) (is_open w t) (is_open_bracket w t) (sym (ap (λ l. at_next (is_star w) (l ++ (t ∷ later))) e.no_token) ∙ off) (sym (ap (λ qs. more_behind qs t) e.no_piece) ∙ h)
      by_case (inr s) = begun_more ts ps s t ∙ h

  no_star : (t : Token) → begins_direct w t ≡ true → is_star w t ≡ false
  no_star t h = by_open (is_open w t) refl h
    where
      by_open : (e : Bool) → is_open w t ≡ e → (e || is_open_bracket w t) ≡ true → is_star w t ≡ false
      by_open true k g = mark_alone w mark.OpenParenthesis mark.Star t (mark_is w mark.OpenParenthesis t k) refl
      by_open false k g = mark_alone w mark.OpenBracket mark.Star t (mark_is w mark.OpenBracket t g) refl

  direct_apart : (ts : List Token) (ps : List Piece) (later : List Token) → FitsDirect ts ps → at_next (more_abstract w ps) later ≡ false → at_next (is_star w) (ts ++ later) ≡ false
  direct_apart ts ps later f h = by_case (direct_begins w ts ps f.is)
    where
      star_next : (later : List Token) → at_next (more_abstract w []) later ≡ false → at_next (is_star w) later ≡ false
      star_next [] k = refl
      star_next (t ∷ later) k = star_fails (is_star w t) (is_open w t || is_open_bracket w t) k

      by_case : Empty w ts ps ⊎ Begins w ts ps → at_next (is_star w) (ts ++ later) ≡ false
      by_case (inl e) = ap (λ l. at_next (is_star w) (l ++ later)) e.no_token ∙ star_next later (sym (ap (λ qs. at_next (more_abstract w qs) later) e.no_piece) ∙ h)
      by_case (inr s) = head_fails w (begins_direct w) (is_star w) no_star (ts ++ later) (head_of_append (begins_direct w) ts later s.head)

  pointed_fits : (place_of : Token) (c : Bool) (ps : List Piece) → (c ≡ true → is_zero b ≡ false) → length ps ≤ b - one_if c → InnerFits below ps
      → (length (Pointed place_of.place ∷ constant_if c ps) ≤ suc b) × InnerFits below (Pointed place_of.place ∷ constant_if c ps)
  pointed_fits t true ps room few sizes =
      let some : 1 ≤ b = at_least_one (room refl) in
      let le : length ps ≤ b - 1 = few in
      let count : suc (suc (length ps)) ≤ suc b = omega arith in
      let none : 0 ≤ below - length (Constant ∷ ps) = omega arith in
      let zero_fits : 0 ≤ below - length ps = omega arith in
      (count, (none, (zero_fits, sizes)))
  pointed_fits t false ps room few sizes =
      let le : length ps ≤ b - 0 = few in
      let count : suc (length ps) ≤ suc b = omega arith in
      let none : 0 ≤ below - length ps = omega arith in
      (count, (none, sizes))

  to_abstract : (ts : List Token) (ps : List Piece) → Either PointedText FitsDirect ts ps → FitsPieces w below (suc b) ts ps
  to_abstract ts ps (inr f) = record { is = is_direct ts ps f.is; count = f.count; sizes = f.sizes }
  to_abstract ts qs (inl o) =
      let j = o.is in
      let m = o.is.second in
      let fits = pointed_fits o.opening j.value m.value (has_room false j.value j.before j.first (λ e. cc e)) m.is.count m.is.sizes in
      subst₂ (FitsPieces w below (suc b)) (sym (o.split ∙ ap (λ l. o.opening ∷ l) j.split)) (sym m.same) (record {
        is = is_pointer o.opening j.value j.before j.after m.value o.passes (are_qualifiers false j.value j.before j.first) m.is.is;
        count = fits.0;
        sizes = fits.1;
      })

  pub pointed_room : (t : Token) (c : Bool) (ps : List Piece) → length (Pointed t.place ∷ constant_if c ps) ≤ suc b → InnerFits below (Pointed t.place ∷ constant_if c ps)
      → (length ps ≤ b - one_if c) × ((c ≡ true → is_zero b ≡ false) × InnerFits below ps)
  pointed_room t true ps count sizes =
      let le : suc (suc (length ps)) ≤ suc b = count in
      let few : length ps ≤ b - 1 = omega arith in
      (few, ((λ e. not_zero b (omega arith)), sizes.1.1))
  pointed_room t false ps count sizes =
      let le : suc (length ps) ≤ suc b = count in
      let few : length ps ≤ b - 0 = omega arith in
      (few, ((λ e. cc e), sizes.1))

  from_abstract : (ts : List Token) (ps : List Piece) → IsAbstract w ts ps → length ps ≤ suc b → InnerFits below ps → Either PointedText FitsDirect ts ps
  from_abstract _ _ (is_direct xs ps is) count sizes = inr (record { is = is; count = count; sizes = sizes })
  from_abstract _ _ (is_pointer t c xs ys ps star quals is) count sizes =
      let room = pointed_room t c ps count sizes in
      inl (record {
        opening = t;
        rest = xs ++ ys;
        split = refl;
        passes = star;
        is = record {
          before = xs;
          after = ys;
          value = c;
          split = refl;
          first = from_qualifiers false c xs quals room.1.0;
          second = record { value = ps; is = record { is = is; count = room.0; sizes = room.1.1 }; same = refl };
        };
      })

  pub abstract_law : Lawful (FitsPieces w below (suc b)) (more_abstract w) (abstract_declarator w size b rest)
  unfolding abstract_declarator
  abstract_law =
      via (choice_else pointed_head (following_where direct_law (is_star w) (more_abstract w) direct_fewer direct_enough) direct_apart) to_abstract
      (λ ts ps f. from_abstract ts ps f.is f.count f.sizes) (choose (is_star w) (pointed w size b rest) (direct w size b rest)) (λ ts. refl)

-- ---- with any room

no_room_law : (w : Lexicon) (below : ℕ) → Lawful (FitsPieces w below 0) (more_abstract w) (no_declarator w)
no_room_law w below =
    via (perhaps_of [] (barred (begins_abstract w) (λ ts ps. ⊥) (more_abstract w) too_deep (λ ts ps e. e)) (λ t. or_false (begins_abstract w t))) to from (no_declarator w) (λ ts. refl)
  where
    to : (ts : List Token) (ps : List Piece) → Either (λ ts ps. ⊥) (IsEmpty []) ts ps → FitsPieces w below 0 ts ps
    to ts ps (inl e) = absurd e
    to ts ps (inr m) = let none : 0 ≤ 0 = omega arith in subst₂ (FitsPieces w below 0) (sym m.none) (sym m.same) (record { is = is_direct [] [] is_nothing_more; count = none; sizes = tt })

    from : (ts : List Token) (ps : List Piece) → FitsPieces w below 0 ts ps → Either (λ ts ps. ⊥) (IsEmpty []) ts ps
    from ts [] f = inr (record { none = no_pieces w ts [] f.is refl; same = refl })
    from ts (p ∷ ps) f = absurd (let le : suc (length ps) ≤ 0 = f.count in omega arith)

module _ (w : Lexicon) (below : ℕ) (size : ℕ → Parser Token ExprTree) (S : (n : ℕ) → suc n ≤ below → Lawful (FitsExpr w (below - n) Assignment) (more w Assignment) (size n)) where
  up_to : (most room : ℕ) → room ≤ most → room ≤ below → Lawful (FitsPieces w below room) (more_abstract w) (declarators w size room 0)
  up_to most zero le small = subst (Lawful (FitsPieces w below 0) (more_abstract w)) (sym (descent_bottom (no_declarator w) (abstract_declarator w size))) (no_room_law w below)
  up_to zero (suc b) le small = absurd (omega arith)
  up_to (suc most) (suc b) le small =
      subst (Lawful (FitsPieces w below (suc b)) (more_abstract w)) (sym (descent_step (no_declarator w) (abstract_declarator w size) b))
      (abstract_law w below size S b small (declarators w size b) (λ k few. subst (Lawful (FitsPieces w below (b - k)) (more_abstract w)) (sym (descent_from (no_declarator w) (abstract_declarator w size) b k))
      (up_to most (b - k) (omega arith) (omega arith))))

  pub declarators_law : (room : ℕ) → room ≤ below → Lawful (FitsPieces w below room) (more_abstract w) (declarators w size room 0)
  declarators_law room small = up_to room room (omega arith) small
