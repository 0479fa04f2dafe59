-- Behind a name that begins a declaration and for which there is no room: where that says too deep, the declaration of some greater depth gets past that token.
use Rattle.std.proofs.Common.{◌≡◌, ◌≤◌, ◌-◌, ◌+◌, ℕ, suc, max, Bool, true, false, ◌&&◌, ◌||◌, not, List, [], ◌∷◌, length, take, nat_lt, Option, Some, None, is_some, inl, inr, if◌then◌else◌, refl, sym, ap, ◌∙◌, subst, arith}
use Rattle.std.proofs.Math.Nat.{le-max_left, le-max_right}
use Rattle.sb_base.specs.declared.interning.Name.{Name}
use Rattle.sb_base.specs.declared.tokens.Token.{Token}
use Rattle.sb_parse.specs.Parser.{Outcome, Parser, done, stop, at_next, never, and_then, ◌>>=◌, pure, choose, refuse}
use Rattle.sb_sign.specs.declared.sign.Keyword.TheVariants as keyword
use Rattle.sb_tree.specs.Plain.{decl_list}
use Rattle.sb_sign.specs.Signs as sign
use Rattle.sb_tree.specs.Trees.{NoteTree, TypeTree, depth_of_decls}
use Rattle.sb_lexicon.specs.Lexicon.{Lexicon, name_of, is_keyword, is_type_name}
use Rattle.sb_lexicon.specs.Tokens.{unexpected, too_deep, bad_arguments, unknown, misplaced, volatile, is_open, is_star}
use Rattle.sb_lexicon.proofs.Depths.{room_within}
use Rattle.sb_parse.proofs.Ways.{and_first, and_second, or_first, or_second}
use Rattle.sb_sal.specs.declared.bearer.Bearer.TheVariants as bearer
use Rattle.sb_sal.specs.Readers.{is_bare, notes_reader}
use Rattle.sb_sal.specs.Spellings.{begins_note, is_listed, is_unlisted, may_stand}
use Rattle.sb_sal.proofs.Deepening.{Past, read_past, stopped_past, past_bind, shrinks_pure, shrinks_then}
use Rattle.sb_sal.proofs.ExprDeepening.{past_by_text}
use Rattle.sb_sal.proofs.Lowered.{not_unexpected, not_bad_arguments}
use Rattle.sb_sal.proofs.NoteWider.{no_notes}
use Rattle.sb_specifier.specs.declared.seat.Seat.TheVariants as seat
use Rattle.sb_declare.specs.Reads.{FitsDeclaration}
use Rattle.sb_specifier.specs.Specified.{reading, Specified}
use Rattle.sb_parse.specs.Texts.{with_front, with_text}
use Rattle.sb_specifier.specs.Readers.{is_semicolon, is_name, is_storage_word, is_specifier_word, begins_declaration, barred, specifiers}
use Rattle.sb_declare.specs.Readers.{Opening, opening, declaration_reader}
use Rattle.sb_declarator.specs.Readers.{parts}
use Rattle.sb_declarator.proofs.deepening.Members.{past_front, shrinks_text}
use Rattle.sb_declarator.proofs.deepening.Shrinking.{specifiers_shrink}
use Rattle.sb_declare.proofs.laws.Readers.{lawful_declaration}
use Rattle.sb_declare.proofs.deepening.Each.{members_shrink_at}
use Rattle.sb_declare.proofs.deepening.Barred.{Enters, FromDepth, begins}
use Rattle.sb_initialiser.proofs.deepening.Initialisers.{initialiser_deepens}
use Rattle.sb_declare.proofs.deepening.Declarations.{declaration_past}
use Rattle.sb_declare.proofs.deepening.Readers.{scope_specifiers, scope_declarators}
use Rattle.sb_statement.specs.Readers.{Body, names_declaration, goes_on_type, is_misplaced, room_for, crowded}
use Rattle.sb_statement.proofs.tokens.Names.{name_specifies_none}
use Rattle.sb_statement.proofs.widening.Crowded.{first_so}
use Rattle.sb_statement.proofs.widening.Starts.{second_so}
use Rattle.sb_statement.proofs.deepening.Crowded.{applied_past, another_past, alone_read, GoesOnSo, by_word, by_star, by_open, by_name, ends_there}

either_way : {X : Type 0} (b c : Bool) → (b || c) ≡ true → (b ≡ true → X) → (c ≡ true → X) → X
either_way true c h P Q = P refl
either_way false c h P Q = Q h

unread : {A : Type 0} (a : A) (ts : List Token) → Past (length ts) (done a ts) → ⊥
unread a ts (read_past b rest e less) = let same : ts ≡ rest = cc e in let sizes : length ts ≡ length rest = ap length same in omega arith
unread a ts (stopped_past n k e less) = cc e

not_so : {A : Type 0} (n k left : ℕ) → (n ≡ too_deep → ⊥) → Path (Outcome Token A) (stop n k) (stop too_deep left) → ⊥
not_so n k left other e = other (cc e)

module _ (texts : List (List ℕ)) (types : List Name) (n : ℕ) (t : Token) where
  abbrev w : Lexicon
  w = reading texts types

  -- at some depth with room
  abbrev Deeper : List Token → ℕ → Type 0
  Deeper ts left = (m : ℕ) × (n ≤ m) × (nat_lt m (room_for w t) ≡ false) × Past left (declaration_reader texts m types (t ∷ ts))

  roomy : (m : ℕ) → 3 ≤ m → nat_lt m (room_for w t) ≡ false
  roomy m enough = by_kind (is_listed w t && not (is_bare w t))
    where
      by_kind : (c : Bool) → nat_lt m (if c then 3 else 2) ≡ false
      by_kind true = room_within m 3 enough
      by_kind false = room_within m 2 (omega (arith, enough))

  -- ---- behind a typedef name

  module _ (is : is_type_name w t ≡ true) where
    goes : (u : Token) → goes_on_type w u ≡ true → GoesOnSo texts types t is u
    goes u h =
        either_way (is_keyword w keyword.Const u) _ h (λ k. by_word texts types t is u (sign.keyword_of texts u) refl (or_first _ _ k))
        (λ h. either_way (is_keyword w keyword.Restrict u) _ h (λ k. by_word texts types t is u (sign.keyword_of texts u) refl (or_second (is_keyword w keyword.Const u) _ (or_first _ _ k)))
        (λ h. either_way (is_storage_word w u) _ h (λ k. by_word texts types t is u (sign.keyword_of texts u) refl (or_second (is_keyword w keyword.Const u) _ (or_second (is_keyword w keyword.Restrict u) _ k)))
        (λ h. either_way (is_star w u) _ h (by_star texts types t is u)
        (λ h. either_way (is_open w u) _ h (by_open texts types t is u)
        (λ h. either_way (is_name w u) (is_semicolon w u) h (λ k. named (name_of w u) refl k) (ends_there texts types t is u))))))
      where
        named : (o : Option Name) → name_of w u ≡ o → is_some o ≡ true → GoesOnSo texts types t is u
        named None e k = absurd (cc k)
        named (Some name) e k = by_name texts types t is u name e

    type_deeper : (u : Token) (us : List Token) → goes_on_type w u ≡ true → Deeper (u ∷ us) (length (u ∷ us))
    type_deeper u us h =
        let g : GoesOnSo texts types t is u = goes u h in
        let m : ℕ = max (n + 3) (depth_of_decls (decl_list g.declares.list)) in
        let enough : n + 3 ≤ m = le-max_left (n + 3) (depth_of_decls (decl_list g.declares.list)) in (
          m,
          omega arith,
          roomy m (omega arith),
          past_by_text (FitsDeclaration texts m types) (λ ds. never) (declaration_reader texts m types) (lawful_declaration texts m (omega arith) types) (t ∷ []) u us
              (record { rest = g.rest; tree = g.declares; is = (g.text, le-max_right (n + 3) (depth_of_decls (decl_list g.declares.list))) }),
        )

    behind_type : (ts : List Token) (left : ℕ) → Path (Outcome Token Body) (choose (is_keyword w keyword.Volatile) (refuse volatile) (choose (goes_on_type w) (refuse too_deep) (refuse unexpected)) ts) (stop too_deep left) → Deeper ts left
    behind_type [] left e = absurd (not_so unexpected 0 left (λ h. (let both : Path ℕ 31 32 = h in omega arith)) e)
    behind_type (u ∷ us) left e = by_tests (is_keyword w keyword.Volatile u) (goes_on_type w u) refl e
      where
        by_tests : (a b : Bool) → goes_on_type w u ≡ b → Path (Outcome Token Body) (if a then stop volatile (length (u ∷ us)) else (if b then stop too_deep (length (u ∷ us)) else stop unexpected (length (u ∷ us)))) (stop too_deep left)
            → Deeper (u ∷ us) left
        by_tests true b h e = absurd (not_so volatile (length (u ∷ us)) left (λ h. (let both : Path ℕ 107 32 = h in omega arith)) e)
        by_tests false false h e = absurd (not_so unexpected (length (u ∷ us)) left (λ h. (let both : Path ℕ 31 32 = h in omega arith)) e)
        by_tests false true h e = let lefts : length (u ∷ us) ≡ left = cc e in subst (Deeper (u ∷ us)) lefts (type_deeper u us h)

  -- ---- behind an annotation

  module _ (x : ℕ) where
    abbrev deep : ℕ
    deep = suc (suc x)

    abbrev notes_there : Parser Token (List NoteTree)
    notes_there = notes_reader w deep (may_stand w bearer.Function)

    abbrev specified_there : Parser Token (Specified × TypeTree)
    specified_there = specifiers texts seat.Scope deep (parts texts deep) types

    abbrev opened : List NoteTree × List Token → (Specified × TypeTree) × List Token → Opening
    opened notes s = record { outer = types; notes = notes.0; noted = notes.1; specified = s.0.0; base = s.0.1; count = length s.1 }

    abbrev behind_notes : List NoteTree × List Token → Parser Token Opening
    behind_notes notes = with_text specified_there >>= (λ s. pure (opened notes s))

    whole_past : (left : ℕ) (ts : List Token) → Past left (opening texts deep (parts texts deep) types ts) → Past left (declaration_reader texts (suc deep) types ts)
    whole_past left ts P =
        declaration_past texts 0 (parts texts) (scope_specifiers texts 0) (scope_declarators texts 0) (λ types. initialiser_deepens (reading texts types) 0) types deep (omega arith) left ts P

    notes_then : (left : ℕ) (ts : List Token) → Past left (notes_there ts) → Past left (declaration_reader texts (suc deep) types ts)
    unfolding opening
    notes_then left ts P =
        whole_past left ts (past_bind (with_text notes_there) behind_notes left ts (past_front left ts (notes_there ts) P)
        (λ notes. shrinks_then (with_text specified_there) (λ s. pure (opened notes s)) (shrinks_text specified_there (specifiers_shrink texts seat.Scope deep (parts texts deep) (members_shrink_at texts deep) types))
        (λ s. shrinks_pure (opened notes s))))

    specifiers_then : (left : ℕ) (ts rest : List Token) (ns : List NoteTree) → notes_there ts ≡ done ns rest → Past left (specified_there rest) → Past left (declaration_reader texts (suc deep) types ts)
    unfolding opening
    specifiers_then left ts rest ns h P =
        whole_past left ts (subst (λ o. Past left (and_then (with_front ts o) behind_notes)) (sym h)
        (past_bind (with_text specified_there) (λ s. pure (opened (ns, take (length ts - length rest) ts) s)) left rest (past_front left rest (specified_there rest) P) (λ s. shrinks_pure _)))

  deeper_at : (x left : ℕ) (ts : List Token) → n ≤ x → Past left (declaration_reader texts (suc (suc (suc x))) types (t ∷ ts)) → Deeper ts left
  deeper_at x left ts le P = (suc (suc (suc x)), omega arith, roomy (suc (suc (suc x))) (omega arith), P)

  -- a word in an annotation's place that is not unlisted is listed
  listed_there : (s : Token) → is_unlisted w s ≡ false → begins_note w s ≡ true → is_listed w s ≡ true
  listed_there s h k = by_tests (begins_note w s) (is_listed w s) h k
    where
      by_tests : (b l : Bool) → (b && not l) ≡ false → b ≡ true → l ≡ true
      by_tests true true h k = refl
      by_tests true false h k = absurd (cc h)
      by_tests false l h k = absurd (cc k)

  known_there : (ts : List Token) (left : ℕ) → barred {A = Body} w seat.Scope ts ≡ stop too_deep left → at_next (is_unlisted w) ts ≡ false
  known_there ts left e = by_test (at_next (is_unlisted w) ts) refl
    where
      by_test : (b : Bool) → at_next (is_unlisted w) ts ≡ b → b ≡ false
      by_test false h = refl
      by_test true h = absurd (not_so unknown (length ts) left (λ h. (let both : Path ℕ 36 32 = h in omega arith)) (sym (first_so {A = Body} _ _ _ _ h refl) ∙ e))

  placed_there : (ts : List Token) (left : ℕ) → barred {A = Body} w seat.Scope ts ≡ stop too_deep left → at_next (is_misplaced w) ts ≡ false
  placed_there ts left e = by_test (at_next (is_misplaced w) ts) refl
    where
      by_test : (b : Bool) → at_next (is_misplaced w) ts ≡ b → b ≡ false
      by_test false h = refl
      by_test true h = absurd (not_so misplaced (length ts) left (λ h. (let both : Path ℕ 37 32 = h in omega arith)) (sym (second_so {A = Body} _ _ _ _ (known_there ts left e) (first_so _ _ _ _ h refl)) ∙ e))

  -- without arguments
  module _ (bare : is_bare w t ≡ true) (placed : is_misplaced w t ≡ false) where
    bare_deeper : (ts : List Token) (left : ℕ) → at_next (is_open w) ts ≡ false → barred {A = Body} w seat.Scope ts ≡ stop too_deep left → Deeper ts left
    bare_deeper [] left opens e = absurd (not_so unexpected 0 left not_unexpected e)
    bare_deeper (s ∷ us) left opens e =
        let it : (left ≡ length (s ∷ us)) × FromDepth texts types seat.Scope (s ∷ us) = begins Body texts types seat.Scope (s ∷ us) left e in
        let x : ℕ = n + it.1.0 in
        let far : it.1.0 ≤ suc (suc x) = omega arith in
        subst (Deeper (s ∷ us)) (sym it.0) (by_note x (omega arith) (it.1.1 (suc (suc x)) far (parts texts (suc (suc x))) (members_shrink_at texts (suc (suc x)))) (begins_note w s) refl)
      where
        by_note : (x : ℕ) → n ≤ x → Enters texts types seat.Scope (suc (suc x)) (parts texts (suc (suc x))) (s ∷ us) → (b : Bool) → begins_note w s ≡ b → Deeper (s ∷ us) (length (s ∷ us))
        by_note x le E true h =
            deeper_at x (length (s ∷ us)) (s ∷ us) le (notes_then x (length (s ∷ us)) (t ∷ (s ∷ us)) (another_past w (suc (suc x)) (omega arith) t s us bare placed (listed_there s (known_there (s ∷ us) left e) h) (placed_there (s ∷ us) left e)))
        by_note x le (inl P) false h =
            absurd (unread [] (s ∷ us) (subst (Past (length (s ∷ us))) (no_notes w (suc (suc x)) (may_stand w bearer.Function) (s ∷ us) h) P))
        by_note x le (inr E) false h =
            deeper_at x (length (s ∷ us)) (s ∷ us) le (specifiers_then x (length (s ∷ us)) (t ∷ (s ∷ us)) (s ∷ us) _ (alone_read w (suc (suc x)) (omega arith) t (s ∷ us) bare placed opens h) E.1)

    behind_bare : (ts : List Token) (left : ℕ) → Path (Outcome Token Body) (choose (is_open w) (refuse bad_arguments) (barred w seat.Scope) ts) (stop too_deep left) → Deeper ts left
    behind_bare ts left e = by_open (at_next (is_open w) ts) refl e
      where
        by_open : (b : Bool) → at_next (is_open w) ts ≡ b → Path (Outcome Token Body) (if b then stop bad_arguments (length ts) else barred w seat.Scope ts) (stop too_deep left) → Deeper ts left
        by_open true h e = absurd (not_so bad_arguments (length ts) left not_bad_arguments e)
        by_open false h e = bare_deeper ts left h e

  -- with arguments
  behind_applied : is_bare w t ≡ false → is_listed w t ≡ true → is_misplaced w t ≡ false → (ts : List Token) (left : ℕ)
      → Path (Outcome Token Body) (choose (is_open w) (refuse too_deep) (choose (λ s. true) (refuse bad_arguments) (refuse unexpected)) ts) (stop too_deep left) → Deeper ts left
  behind_applied bare listed placed [] left e = absurd (not_so unexpected 0 left not_unexpected e)
  behind_applied bare listed placed (o ∷ us) left e = by_open (is_open w o) refl e
    where
      by_open : (b : Bool) → is_open w o ≡ b → Path (Outcome Token Body) (if b then stop too_deep (length (o ∷ us)) else stop bad_arguments (length (o ∷ us))) (stop too_deep left) → Deeper (o ∷ us) left
      by_open false h e = absurd (not_so bad_arguments (length (o ∷ us)) left not_bad_arguments e)
      by_open true h e =
          let lefts : length (o ∷ us) ≡ left = cc e in
          subst (Deeper (o ∷ us)) lefts (deeper_at n (length (o ∷ us)) (o ∷ us) (omega arith) (notes_then n (length (o ∷ us)) (t ∷ (o ∷ us)) (applied_past w (suc (suc n)) (omega arith) t o us listed placed bare h)))

  -- a name that begins a declaration and is no annotation
  type_named : names_declaration w t ≡ true → is_unlisted w t ≡ false → is_listed w t ≡ false → is_type_name w t ≡ true
  type_named names unlisted listed =
      by_tests (is_specifier_word w t) (is_type_name w t) (begins_note w t) (name_specifies_none texts types n t (and_second (begins_declaration w t) (is_name w t) names)) (sym (ap (λ d. begins_note w t && not d) listed) ∙ unlisted)
      (and_first (begins_declaration w t) (is_name w t) names)
    where
      by_tests : (c d e : Bool) → c ≡ false → (e && true) ≡ false → (c || (d || e)) ≡ true → d ≡ true
      by_tests true d e no_word no_note h = absurd (cc no_word)
      by_tests false true e no_word no_note h = refl
      by_tests false false true no_word no_note h = absurd (cc no_note)
      by_tests false false false no_word no_note h = absurd (cc h)

  pub crowded_deeper : (ts : List Token) (left : ℕ) → names_declaration w t ≡ true → is_unlisted w t ≡ false → is_misplaced w t ≡ false → crowded {A = Body} w t ts ≡ stop too_deep left → Deeper ts left
  crowded_deeper ts left names unlisted placed e = by_kind (is_bare w t) (is_listed w t) refl refl e
    where
      by_kind : (c d : Bool) → is_bare w t ≡ c → is_listed w t ≡ d
          → Path (Outcome Token Body) ((if c then choose (is_open w) (refuse bad_arguments) (barred w seat.Scope)
          else (if d then choose (is_open w) (refuse too_deep) (choose (λ s. true) (refuse bad_arguments) (refuse unexpected))
          else choose (is_keyword w keyword.Volatile) (refuse volatile) (choose (goes_on_type w) (refuse too_deep) (refuse unexpected)))) ts) (stop too_deep left) → Deeper ts left
      by_kind true d bare listed e = behind_bare bare placed ts left e
      by_kind false true bare listed e = behind_applied bare listed placed ts left e
      by_kind false false bare listed e = behind_type (type_named names unlisted listed) ts left e
