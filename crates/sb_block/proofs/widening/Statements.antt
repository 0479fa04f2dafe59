-- The readers of statements of each depth, and those of a greater one.
use Rattle.std.proofs.Common.{◌≡◌, ◌≤◌, ℕ, zero, suc, Bool, true, false, ◌&&◌, ◌||◌, not, List, [], ◌∷◌, ◌++◌, length, nat_lt, if◌then◌else◌, refl, sym, ap, ◌∙◌, subst, arith}
use Rattle.sb_base.specs.declared.interning.Name.{Name}
use Rattle.sb_base.specs.declared.tokens.Token.{Token}
use Rattle.sb_parse.specs.Parser.{Outcome, done, stop, at_next, and_then, pure, choose, refuse}
use Rattle.sb_sign.specs.declared.sign.Keyword.TheVariants as keyword
use Rattle.sb_tree.specs.Trees as tree
use Rattle.sb_tree.specs.Trees.{StmtTree}
use Rattle.sb_tree.specs.Plain.{decl_list}
use Rattle.sb_lexicon.specs.Lexicon.{Lexicon, is_keyword, is_type_name}
use Rattle.sb_lexicon.specs.Tokens.{unexpected, too_deep, bad_arguments, volatile, is_zero, is_open}
use Rattle.sb_lexicon.proofs.Depths.{within_room}
use Rattle.sb_parse.proofs.Ways.{and_first, and_second}
use Rattle.sb_lexicon.proofs.Wider.{Held, short, same, Wider, room_wider, by_choice, alike}
use Rattle.sb_sal.specs.Readers.{is_bare}
use Rattle.sb_sal.specs.Spellings.{begins_note, is_listed, is_unlisted}
use Rattle.sb_specifier.specs.declared.seat.Seat.TheVariants as seat
use Rattle.sb_parse.specs.Texts.{with_front}
use Rattle.sb_specifier.specs.Readers.{is_specifier_word, is_name, begins_declaration, barred}
use Rattle.sb_declare.specs.Readers.{declaration_at, declaration_reader}
use Rattle.sb_declarator.specs.Readers.{parts}
use Rattle.sb_specifier.specs.Specified.{reading}
use Rattle.sb_declare.proofs.widening.Readers.{declaration_reader_wider}
use Rattle.sb_statement.specs.Readers.{Body, Parts, names_declaration, is_misplaced, room_for, goes_on_type, crowded, declared, first_place, declaration_item, named_declaration, statements}
use Rattle.sb_statement.proofs.tokens.Names.{name_specifies_none}
use Rattle.sb_statement.proofs.widening.Crowded.{Alike, deep, stops, behind_bare, behind_applied}
use Rattle.sb_statement.proofs.widening.Typed.{behind_type}
use Rattle.sb_statement.proofs.widening.Starts.{no_statement_wider, no_block_wider, no_first_wider, no_item_wider}
use Rattle.sb_block.proofs.widening.Parts.{WiderParts, declaration_item_wider, whole_wider}

-- ---- a name that begins a declaration: without room for it, and with it

module _ (texts : List (List ℕ)) (k : ℕ) (part : Parts) (b : Body) where
  abbrev w : Lexicon
  w = reading texts b.types

  item_stops : (ts : List Token) (i l : ℕ) → declaration_at texts (suc k) (parts texts (suc k)) b.types ts ≡ stop i l → declaration_item texts (suc (suc k)) part b ts ≡ stop i l
  unfolding declaration_item declared
  item_stops ts i l e =
      ap (λ o. and_then (and_then (with_front ts o) (λ d. pure (tree.Declare (decl_list d.0.list) (first_place d.1), d.0.types))) (λ (d : StmtTree × List Name). pure (record { list = b.list ++ (d.0 ∷ []); types = d.1 }))) e

  held_alike : (t : Token) (ts : List Token) (o : Outcome Token Body) → Alike o (declaration_at texts (suc k) (parts texts (suc k)) b.types (t ∷ ts)) → Held o (declaration_item texts (suc (suc k)) part b (t ∷ ts))
  held_alike t ts o (deep l e) = short l e
  held_alike t ts o (stops i l e f) = same (item_stops (t ∷ ts) i l f ∙ sym e)

  -- what a name is that begins a declaration and is no annotation
  type_named : (t : Token) → begins_declaration w t ≡ true → is_name w t ≡ true → is_unlisted w t ≡ false → is_listed w t ≡ false → is_type_name w t ≡ true
  type_named t begins named unlisted listed = by_tests (is_specifier_word w t) (is_type_name w t) (begins_note w t) (name_specifies_none texts b.types (suc k) t named) (sym (ap (λ d. begins_note w t && not d) listed) ∙ unlisted) begins
    where
      by_tests : (c d e : Bool) → c ≡ false → (e && true) ≡ false → (c || (d || e)) ≡ true → d ≡ true
      by_tests true d e no_word no_note h = absurd (cc no_word)
      by_tests false true e no_word no_note h = refl
      by_tests false false true no_word no_note h = absurd (cc no_note)
      by_tests false false false no_word no_note h = absurd (cc h)

  crowded_alike : (t : Token) (ts : List Token) → begins_declaration w t ≡ true → is_name w t ≡ true → is_unlisted w t ≡ false → is_misplaced w t ≡ false → nat_lt (suc (suc k)) (room_for w t) ≡ false
      → Alike {A = Body} (crowded w t ts) (declaration_at texts (suc k) (parts texts (suc k)) b.types (t ∷ ts))
  crowded_alike t ts begins named unlisted placed room = by_kind (is_bare w t) (is_listed w t) refl refl
    where
      some : is_bare w t ≡ false → is_listed w t ≡ true → is_zero k ≡ false
      some bare listed =
          let least : 3 ≤ suc (suc k) = within_room (suc (suc k)) 3 (sym (ap (λ c. nat_lt (suc (suc k)) (if c && not (is_bare w t) then 3 else 2)) listed ∙ ap (λ c. nat_lt (suc (suc k)) (if not c then 3 else 2)) bare) ∙ room) in
          by_depth k least
        where
          by_depth : (k : ℕ) → 3 ≤ suc (suc k) → is_zero k ≡ false
          by_depth zero least = absurd (omega arith)
          by_depth (suc k) least = refl

      by_kind : (c d : Bool) → is_bare w t ≡ c → is_listed w t ≡ d
          → Alike {A = Body} ((if c then choose (is_open w) (refuse bad_arguments) (barred w seat.Scope)
          else (if d then choose (is_open w) (refuse too_deep) (choose (λ s. true) (refuse bad_arguments) (refuse unexpected))
          else choose (is_keyword w keyword.Volatile) (refuse volatile) (choose (goes_on_type w) (refuse too_deep) (refuse unexpected)))) ts) (declaration_at texts (suc k) (parts texts (suc k)) b.types (t ∷ ts))
      by_kind true d bare listed = behind_bare Body texts b.types k (parts texts (suc k)) t ts bare placed
      by_kind false true bare listed = behind_applied Body texts b.types k (parts texts (suc k)) t ts (some bare listed) listed placed bare
      by_kind false false bare listed = behind_type Body texts b.types k (parts texts (suc k)) t (type_named t begins named unlisted listed) ts

-- ---- the same for each depth

module _ (texts : List (List ℕ)) (n m : ℕ) (le : n ≤ m) (part more : Parts) (Inner : WiderParts part more) (Declaring : (types : List Name) → Wider (declaration_reader texts n types) (declaration_reader texts m types)) (b : Body) where
  abbrev here : Lexicon
  here = reading texts b.types

  module _ (t : Token) (ts : List Token) (begins : begins_declaration here t ≡ true) (named : is_name here t ≡ true) (unlisted : is_unlisted here t ≡ false) (placed : is_misplaced here t ≡ false) where
    two_at_least : (c : Bool) → 2 ≤ (if c then 3 else 2)
    two_at_least true = omega arith
    two_at_least false = omega arith

    without_room : (m : ℕ) → nat_lt m (room_for here t) ≡ false → Held (crowded {A = Body} here t ts) (declaration_item texts m more b (t ∷ ts))
    without_room zero room = absurd (let least : room_for here t ≤ 0 = within_room 0 (room_for here t) room in let two : 2 ≤ room_for here t = two_at_least (is_listed here t && not (is_bare here t)) in omega arith)
    without_room (suc zero) room = absurd (let least : room_for here t ≤ 1 = within_room 1 (room_for here t) room in let two : 2 ≤ room_for here t = two_at_least (is_listed here t && not (is_bare here t)) in omega arith)
    without_room (suc (suc k)) room = held_alike texts k more b t ts (crowded here t ts) (crowded_alike texts k more b t ts begins named unlisted placed room)

    abbrev by_room : (l : ℕ) → Parts → Bool → Outcome Token Body
    by_room l parts c = if c then and_then (if is_name here t then done t ts else stop unexpected (length (t ∷ ts))) (crowded here) else declaration_item texts l parts b (t ∷ ts)

    by_rooms : (c d : Bool) → nat_lt n (room_for here t) ≡ c → nat_lt m (room_for here t) ≡ d → Held (by_room n part c) (by_room m more d)
    by_rooms true true h e = same refl
    by_rooms true false h e = subst (λ c. Held (and_then (if c then done t ts else stop unexpected (length (t ∷ ts))) (crowded {A = Body} here)) (declaration_item texts m more b (t ∷ ts))) (sym named) (without_room m e)
    by_rooms false true h e = absurd (let both : false ≡ true = sym (room_wider n m (room_for here t) le h) ∙ e in cc both)
    by_rooms false false h e = declaration_item_wider texts n m le part more Inner Declaring b (t ∷ ts)

  named_held : (ts : List Token) → at_next (names_declaration here) ts ≡ true → Held (named_declaration texts n part b ts) (named_declaration texts m more b ts)
  unfolding named_declaration
  named_held [] h = absurd (cc h)
  named_held (t ∷ ts) h =
      by_choice (is_unlisted here t) _ _ _ _ (λ e. same refl)
      (λ e. by_choice (is_misplaced here t) _ _ _ _ (λ k. same refl)
      (λ k. by_rooms t ts (and_first (begins_declaration here t) (is_name here t) h) (and_second (begins_declaration here t) (is_name here t) h) e k (nat_lt n (room_for here t)) (nat_lt m (room_for here t)) refl refl))

module _ (texts : List (List ℕ)) where
  pub statements_wider : (n m : ℕ) → n ≤ m → WiderParts (statements texts n) (statements texts m)
  unfolding statements
  statements_wider zero zero le = record { statement = λ cases types. alike _; block = λ cases types. alike _; item = λ cases b. alike _; first = λ types. alike _ }
  statements_wider zero (suc m) le =
      let some : 0 ≤ m = omega arith in
      record {
        statement = no_statement_wider texts m (statements texts m);
        block = no_block_wider texts m (statements texts m);
        item = no_item_wider texts m (statements texts m) (declaration_reader_wider texts 0 m some);
        first = no_first_wider texts m (statements texts m) (declaration_reader_wider texts 0 m some);
      }
  statements_wider (suc n) zero le = absurd (omega arith)
  statements_wider (suc n) (suc m) le =
      let below : n ≤ m = omega arith in
      let Inner : WiderParts (statements texts n) (statements texts m) = statements_wider n m below in
      whole_wider texts n m below (statements texts n) (statements texts m) Inner (declaration_reader_wider texts n m below)
      (named_held texts n m below (statements texts n) (statements texts m) Inner (declaration_reader_wider texts n m below))
