-- Where readers of the items of a block stop for want of depth, deeper readers get past that token, by what is known of the readers of their parts and of declarations.
use Rattle.std.proofs.Common.{◌≡◌, ◌≤◌, ℕ, suc, Bool, true, false, List, [], ◌∷◌, length, nat_lt, if◌then◌else◌, refl, sym, ap, ◌∙◌, subst, arith}
use Rattle.sb_base.specs.declared.interning.Name.{Name}
use Rattle.sb_base.specs.declared.tokens.Token.{Token}
use Rattle.sb_parse.specs.Parser.{Outcome, Parser, done, stop, at_next, and_then, ◌>>=◌, token, choose}
use Rattle.sb_parse.specs.Descent.{at_second, choose_second}
use Rattle.sb_lexicon.specs.Lexicon.{Lexicon}
use Rattle.sb_lexicon.specs.Tokens.{unexpected, too_deep, unknown_before, misplaced_before, is_zero, is_colon}
use Rattle.sb_parse.proofs.Ways.{and_second}
use Rattle.sb_lexicon.proofs.Wider.{Wider, zero_wider, room_wider}
use Rattle.sb_sal.specs.Spellings.{is_unlisted}
use Rattle.sb_sal.proofs.Deepening.{Past, AtMost, Deepens, Deep, still_pure, at_list, most_at, deep_choice, deep_guard, moved, shrinks_second, in_order, choosing, choosing_where}
use Rattle.sb_specifier.specs.Readers.{is_name, begins_declaration}
use Rattle.sb_declare.specs.Readers.{declaration_reader}
use Rattle.sb_specifier.specs.Specified.{reading}
use Rattle.sb_declarator.proofs.deepening.Members.{text_deepens}
use Rattle.sb_declare.proofs.deepening.Readers.{declaration_reader_deepens}
use Rattle.sb_statement.specs.Readers.{Body, Parts, names_declaration, is_misplaced, room_for, crowded, only_label, declared, first, declaration_item, statement_item, named_declaration, named_item, item}
use Rattle.sb_statement.proofs.widening.Starts.{second_so}
use Rattle.sb_statement.proofs.widening.Crowded.{first_so}
use Rattle.sb_statement.proofs.deepening.Named.{crowded_deeper}
use Rattle.sb_block.proofs.deepening.Entering.{named_declaration_shrinks, item_shrinks, item_past, either_past, one_few}
use Rattle.sb_block.proofs.deepening.Statements.{DeepParts, least, unknown_not_deep, misplaced_not_deep, small, evaluated_deepens, semicolon_deepens, statement_deepens, label_deepens}

-- outcomes that are the same from a depth on
deep_same : {A : Type 0} (n most : ℕ) (o p : ℕ → Outcome Token A) → ((m : ℕ) → n ≤ m → p m ≡ o m) → Deep n most o → Deep n most p
deep_same n most o p same O = record {
  wide = λ m le. moved (p n) (p m) (o n) (o m) (same n (omega arith)) (same m le) (O.wide m le);
  shrinks = λ m le. subst (AtMost most) (sym (same m le)) (O.shrinks m le);
  deeper = λ left e. (let d : (m : ℕ) × (n ≤ m) × Past left (o m) = O.deeper left (sym (same n (omega arith)) ∙ e) in (d.0, d.1, subst (Past left) (sym (same d.0 d.1)) d.2));
}

module _ (texts : List (List ℕ)) (n : ℕ) (part : ℕ → Parts) (Inner : DeepParts n part) where
  declared_deepens : (types : List Name) → Deepens n (λ m. declared texts m (part m) types)
  unfolding declared
  declared_deepens types = in_order n _ _ (text_deepens n (λ m. declaration_reader texts m types) (declaration_reader_deepens texts n types)) (λ d. still_pure n _)

  pub first_deepens : (types : List Name) → Deepens n (λ m. first texts m (part m) types)
  unfolding first
  first_deepens types =
      choosing n _ _ _ (in_order n _ _ (semicolon_deepens texts n part Inner types) (λ c. still_pure n _))
      (choosing n _ _ _ (in_order n _ _ (declared_deepens types) (λ d. still_pure n _)) (in_order n _ _ (evaluated_deepens texts n part Inner types) (λ s. still_pure n _)))

  module _ (b : Body) where
    abbrev w : Lexicon
    w = reading texts b.types

    pub declaration_item_deepens : Deepens n (λ m. declaration_item texts m (part m) b)
    unfolding declaration_item
    declaration_item_deepens = in_order n _ _ (declared_deepens b.types) (λ d. still_pure n _)

    module _ (cases : Bool) where
      pub statement_item_deepens : Deepens n (λ m. statement_item texts m (part m) cases b)
      unfolding statement_item
      statement_item_deepens = in_order n _ _ (statement_deepens texts n part Inner cases b.types) (λ s. still_pure n _)

      -- ---- a name that begins a declaration

      module _ (Wide : (m : ℕ) → n ≤ m → Wider (item texts n (part n) cases b) (item texts m (part m) cases b)) (t : Token) (ts : List Token) (names : names_declaration w t ≡ true) where
        abbrev all : ℕ
        all = suc (length ts)

        named : is_name w t ≡ true
        named = and_second (begins_declaration w t) (is_name w t) names

        abbrev without_room : Outcome Token Body
        without_room = (token unexpected (is_name w) >>= crowded w) (t ∷ ts)

        abbrev by_room : ℕ → Outcome Token Body
        by_room m = if nat_lt m (room_for w t) then without_room else declaration_item texts m (part m) b (t ∷ ts)

        -- with room for labels, but not for all declarations
        item_is : at_second (is_colon w) (t ∷ ts) ≡ false → is_unlisted w t ≡ false → is_misplaced w t ≡ false → (m : ℕ) → is_zero m ≡ false → item texts m (part m) cases b (t ∷ ts) ≡ by_room m
        unfolding item named_item named_declaration
        item_is second listed placed m room = first_so _ _ _ _ names (second_so _ _ _ _ room (second_so _ _ _ _ second (second_so _ _ _ _ listed (second_so _ _ _ _ placed refl))))

        module _ (room : is_zero n ≡ false) (second : at_second (is_colon w) (t ∷ ts) ≡ false) (listed : is_unlisted w t ≡ false) (placed : is_misplaced w t ≡ false) where
          by_few : (c : Bool) → nat_lt n (room_for w t) ≡ c → Deep n all by_room
          by_few false h =
              deep_same n all (λ m. declaration_item texts m (part m) b (t ∷ ts)) by_room
              (λ m le. ap (λ c. if c then without_room else declaration_item texts m (part m) b (t ∷ ts)) (room_wider n m (room_for w t) le h)) (at_list n (λ m. declaration_item texts m (part m) b) declaration_item_deepens (t ∷ ts))
          by_few true h = record {
            wide = λ m le. moved (by_room n) (by_room m) (item texts n (part n) cases b (t ∷ ts)) (item texts m (part m) cases b (t ∷ ts))
                (sym (item_is second listed placed n room)) (sym (item_is second listed placed m (zero_wider n m le room))) (Wide m le (t ∷ ts));
            shrinks = λ m le. subst (AtMost all) (item_is second listed placed m (zero_wider n m le room)) (most_at (item texts m (part m) cases b) (item_shrinks texts m (part m) (small texts n part Inner m le) cases b) (t ∷ ts));
            deeper = λ left e.
                let shut : crowded w t ts ≡ stop too_deep left =
                sym (ap (λ c. and_then (if c then done t ts else stop unexpected all) (crowded {A = Body} w)) named) ∙ sym (ap (λ c. if c then without_room else declaration_item texts n (part n) b (t ∷ ts)) h) ∙ e in
                let d : (m : ℕ) × (n ≤ m) × (nat_lt m (room_for w t) ≡ false) × Past left (declaration_reader texts m b.types (t ∷ ts)) = crowded_deeper texts b.types n t ts left names listed placed shut in
                (d.0, d.1, subst (λ c. Past left (if c then without_room else declaration_item texts d.0 (part d.0) b (t ∷ ts))) (sym d.2) (item_past texts d.0 (part d.0) (small texts n part Inner d.0 d.1) cases b left (t ∷ ts) d.3));
          }

        named_deep : is_zero n ≡ false → at_second (is_colon w) (t ∷ ts) ≡ false → Deep n all (λ m. named_declaration texts m (part m) b (t ∷ ts))
        unfolding named_declaration
        named_deep room second =
            deep_choice n all (is_unlisted w t) (λ m. only_label unknown_before w (t ∷ ts)) (λ m. if is_misplaced w t then only_label (misplaced_before 1) w (t ∷ ts) else by_room m) (λ h. at_list n (λ m. only_label unknown_before w) (label_deepens texts n part Inner b.types unknown_before unknown_not_deep) (t ∷ ts))
            (λ listed. deep_choice n all (is_misplaced w t) (λ m. only_label (misplaced_before 1) w (t ∷ ts)) by_room
            (λ h. at_list n (λ m. only_label (misplaced_before 1) w) (label_deepens texts n part Inner b.types (misplaced_before 1) misplaced_not_deep) (t ∷ ts))
            (λ placed. by_few room second listed placed (nat_lt n (room_for w t)) refl))

        abbrev either : ℕ → Parser Token Body
        either m = choose_second (is_colon w) (statement_item texts m (part m) cases b) (named_declaration texts m (part m) b)

        opened : is_zero n ≡ true → (m : ℕ) × (n ≤ m) × (is_zero m ≡ false) × Past all (either m (t ∷ ts))
        opened none = let le : n ≤ 1 = least n 1 none in (1, le, refl, either_past texts 1 (part 1) (small texts n part Inner 1 le) cases b refl (t ∷ ts) named (one_few w (t ∷ ts) named))

        named_item_deep : Deep n all (λ m. named_item texts m (part m) cases b (t ∷ ts))
        unfolding named_item
        named_item_deep =
            deep_guard n all is_zero (λ m. either m (t ∷ ts)) (λ m le k. zero_wider n m le k) opened
            (λ room. deep_choice n all (at_second (is_colon w) (t ∷ ts)) (λ m. statement_item texts m (part m) cases b (t ∷ ts)) (λ m. named_declaration texts m (part m) b (t ∷ ts))
            (λ h. at_list n (λ m. statement_item texts m (part m) cases b) statement_item_deepens (t ∷ ts)) (named_deep room))
            (λ m le k. most_at (either m) (shrinks_second (is_colon w) _ _ (statement_item_deepens.shrinks m le) (named_declaration_shrinks texts m (part m) (small texts n part Inner m le) b)) (t ∷ ts))

      pub item_deepens : ((m : ℕ) → n ≤ m → Wider (item texts n (part n) cases b) (item texts m (part m) cases b)) → Deepens n (λ m. item texts m (part m) cases b)
      unfolding item
      item_deepens Wide =
          choosing_where n (names_declaration w) (λ m. named_item texts m (part m) cases b) (λ m. choose (begins_declaration w) (declaration_item texts m (part m) b) (statement_item texts m (part m) cases b)) by_list
          (λ ts h. at_list n (λ m. choose (begins_declaration w) (declaration_item texts m (part m) b) (statement_item texts m (part m) cases b))
          (choosing n (begins_declaration w) (λ m. declaration_item texts m (part m) b) (λ m. statement_item texts m (part m) cases b) declaration_item_deepens statement_item_deepens) ts)
        where
          by_list : (ts : List Token) → at_next (names_declaration w) ts ≡ true → Deep n (length ts) (λ m. named_item texts m (part m) cases b ts)
          by_list [] h = absurd (cc h)
          by_list (t ∷ ts) h = named_item_deep Wide t ts h
