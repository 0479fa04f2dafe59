-- Why the readers of members and parameters stop.
use Rattle.std.proofs.Common.{◌≡◌, ◌≤◌, ◌+◌, ◌-◌, ℕ, zero, suc, Bool, true, false, not, List, [], ◌∷◌, ◌++◌, length, nat_lt, refl, sym, ap, ◌∙◌, subst, append_assoc, length-append, arith, ◌||◌, ◌⊎◌, inl, inr, if◌then◌else◌}
use Rattle.std.proofs.lemmas.Bool.{ltb-false}
use Rattle.sb_base.specs.declared.interning.Name.{Name}
use Rattle.sb_base.specs.declared.tokens.Token.{Token}
use Rattle.sb_parse.specs.Parser.{Outcome, done, stop, at_next, and_then, pure, refuse, token, loop, looped, ◌>>=◌, choose}
use Rattle.sb_parse.specs.Lawful.{Part}
use Rattle.sb_sign.specs.declared.sign.Mark.TheVariants as mark
use Rattle.sb_tree.specs.Trees.{NoteTree, TypeTree, DeclTree, depth_of_type}
use Rattle.sb_parse.specs.Descent.{descent}
use Rattle.sb_lexicon.specs.Lexicon.{is_mark}
use Rattle.sb_lexicon.specs.Tokens.{unexpected, is_comma, is_colon, too_deep, too_many_parameters}
use Rattle.sb_lexicon.specs.Outcomes.{nowhere}
use Rattle.sb_sal.specs.declared.bearer.Bearer.TheVariants as bearer
use Rattle.sb_sal.specs.Readers.{notes_reader}
use Rattle.sb_sal.specs.Spellings.{may_stand}
use Rattle.sb_parse.proofs.Explaining.{next_is, Stops}
use Rattle.sb_specifier.specs.declared.seat.Seat.TheVariants as seat
use Rattle.sb_specifier.specs.Specified.{reading, again}
use Rattle.sb_specifier.specs.Declaration.{AreSome, first_parameter, parameter_behind, parameter_beyond}
use Rattle.sb_declarator.specs.Readers as reader
use Rattle.sb_specifier.specs.Readers.{Declarations, Parts, bit_field, variable_arguments, is_close_brace, is_semicolon, specifiers, barred, barred_by, begins_at, begins_parameter, makes_room}
use Rattle.sb_parse.specs.Texts.{with_text}
use Rattle.sb_declarator.specs.Readers.{on, member_declarator, next_member, member, members, parameter, is_full, another_parameter, next_parameter, parameters_at, parts, beyond_limit}
use Rattle.sb_specifier.specs.Reasons.{too_many, IsDeclarationReason, has_room}
use Rattle.sb_specifier.proofs.laws.More.{more_last, FitsParameters, MembersLaws}
use Rattle.sb_declarator.proofs.laws.Parameters.{Behind, behind_head, first_fits, add_one}
use Rattle.sb_declarator.proofs.telling.Declarators.{declarators_telling}
use Rattle.sb_declarator.proofs.laws.Parameter.{parameter_law}
use Rattle.sb_specifier.proofs.laws.Barring.{at_number}
use Rattle.sb_specifier.proofs.telling.Shown.{barred_telling}
use Rattle.sb_parse.proofs.Ways.{first_fails, second_fails}
use Rattle.sb_specifier.proofs.telling.Specifiers.{specifiers_telling}
use Rattle.sb_specifier.proofs.telling.Reasons.{reasons, refusing_feature, notes_telling}
use Rattle.sb_parse.proofs.Telling.{still, Tells, Telling, TellingAt, tells_behind, one_by_one, a_token, by_choice, choosing, turning, text_telling}
use Rattle.sb_declarator.proofs.laws.Parts.{members_below}

-- both readers of a part
abbrev pub TellingParts : List (List ℕ) → Parts → Type 0
TellingParts texts p = (types : List Name) → Telling (reasons texts) (p.members types) × Telling (reasons texts) (p.parameters types)

-- there are no more than 32 parameters where no token makes room for one more
room_behind : (xs ys : List Token) → has_room (xs ++ ys) ≡ false → (has_room xs ≡ false) × (has_room ys ≡ false)
room_behind [] ys h = (refl, h)
room_behind (x ∷ xs) ys h =
    let rest = room_behind xs ys (second_fails (makes_room x) (has_room (xs ++ ys)) h) in
    (ap (λ b. b || has_room xs) (first_fails (makes_room x) (has_room (xs ++ ys)) h) ∙ rest.0, rest.1)

some_count : (texts : List (List ℕ)) (types : List Name) (ts : List Token) (ds : Declarations) → AreSome texts types ts ds → has_room ts ≡ false → length ds.list ≤ 32
some_count texts _ _ _ (first_parameter types now ts d is) h = omega arith
some_count texts _ _ _ (parameter_behind types now xs ys c ds d comma are few is) h = let sizes : length (ds.list ++ (d ∷ [])) ≡ length ds.list + 1 = length-append ds.list (d ∷ []) in omega arith
some_count texts _ _ _ (parameter_beyond types now xs ys c m ds d comma are full room is) h =
    let none : makes_room m ≡ false = first_fails (makes_room m) (has_room ys) (second_fails (makes_room c) (has_room (m ∷ ys)) (room_behind xs (c ∷ (m ∷ ys)) h).1) in
    absurd (let both : true ≡ false = sym room ∙ none in cc both)

module _ (texts : List (List ℕ)) (below : ℕ) (part : ℕ → Parts) (T : (k : ℕ) → TellingParts texts (part k)) where
  pub on_telling : (types : List Name) (functions may_lack : Bool) (base : TypeTree) → Telling (reasons texts) (on texts below part types functions may_lack base)
  on_telling types functions may_lack base = declarators_telling texts types functions may_lack below part (λ k types. (T k types).1) (below - depth_of_type base)

  -- ---- members

  abbrev bit_field_at : (A : Type 0) (types : List Name) → TellingAt (reasons texts) {A = A} (is_colon (reading texts types)) (refuse bit_field)
  bit_field_at A types = refusing_feature texts A types (is_colon (reading texts types)) 3 (λ t h. h)

  member_declarator_telling : (notes : List NoteTree) (types : List Name) (base : TypeTree) → Telling (reasons texts) (member_declarator texts below part notes types base)
  unfolding member_declarator
  member_declarator_telling notes types base =
      choosing (reasons texts) (is_colon (reading texts types)) (refuse bit_field) _ (bit_field_at DeclTree types) (one_by_one (reasons texts) (on texts below part types false false base) _ (on_telling types false false base)
      (λ d. choosing (reasons texts) (is_colon (reading texts types)) (refuse bit_field) (pure (reader.member_of texts below part notes base d nowhere)) (bit_field_at DeclTree types) still))

  next_member_telling : (notes : List NoteTree) (types : List Name) (base : TypeTree) (ds : List DeclTree) → Telling (reasons texts) (next_member texts below part notes types base ds)
  unfolding next_member
  next_member_telling notes types base ds =
      one_by_one (reasons texts) (token unexpected (is_comma (reading texts types))) _ (a_token (reasons texts) (is_comma (reading texts types)))
      (λ t. one_by_one (reasons texts) (member_declarator texts below part notes types (again base)) _ (member_declarator_telling notes types (again base)) (λ d. still))

  member_telling : (ds : Declarations) → Telling (reasons texts) (member texts below part ds)
  unfolding member
  member_telling ds =
      one_by_one (reasons texts) (notes_reader (reading texts ds.types) below (may_stand (reading texts ds.types) bearer.Member)) _ (notes_telling texts ds.types below bearer.Member) (λ notes.
      one_by_one (reasons texts) (specifiers texts seat.Structure below part ds.types) _ (specifiers_telling texts seat.Structure below part (λ k types. (T k types).0) ds.types) (λ s.
      one_by_one (reasons texts) (member_declarator texts below part notes s.0.types s.1) _ (member_declarator_telling notes s.0.types s.1) (λ d.
      one_by_one (reasons texts) (looped (is_comma (reading texts s.0.types)) (next_member texts below part notes s.0.types s.1) (d ∷ [])) _
      (turning (reasons texts) (is_comma (reading texts s.0.types)) (next_member texts below part notes s.0.types s.1) (λ ds ts h. next_member_telling notes s.0.types s.1 ds ts) (d ∷ [])) (λ list.
      one_by_one (reasons texts) (token unexpected (is_semicolon (reading texts s.0.types))) _ (a_token (reasons texts) (is_semicolon (reading texts s.0.types))) (λ c. still)))))

  members_telling : (types : List Name) → Telling (reasons texts) (members texts below part types)
  unfolding members
  members_telling types =
      one_by_one (reasons texts) (member texts below part (record { list = []; types = types })) _ (member_telling (record { list = []; types = types }))
      (λ ds. turning (reasons texts) (λ t. not (is_close_brace (reading texts types) t)) (member texts below part) (λ ds ts h. member_telling ds ts) ds)

  -- ---- parameters

  parameter_telling : (ds : Declarations) → Telling (reasons texts) (parameter texts below part ds)
  unfolding parameter
  parameter_telling ds =
      one_by_one (reasons texts) (with_text (notes_reader (reading texts ds.types) below (may_stand (reading texts ds.types) bearer.Parameter))) _
      (text_telling (reasons texts) (notes_reader (reading texts ds.types) below (may_stand (reading texts ds.types) bearer.Parameter)) (notes_telling texts ds.types below bearer.Parameter)) (λ notes.
      one_by_one (reasons texts) (with_text (specifiers texts seat.Prototype below part ds.types)) _
      (text_telling (reasons texts) (specifiers texts seat.Prototype below part ds.types) (specifiers_telling texts seat.Prototype below part (λ k types. (T k types).0) ds.types)) (λ s.
      one_by_one (reasons texts) (on texts below part s.0.0.types false true s.0.1) _ (on_telling s.0.0.types false true s.0.1) (λ d. still)))

  room_telling : (ds : Declarations) → Telling (reasons texts) (token unexpected makes_room >>= (λ t. parameter texts below part ds))
  room_telling ds = one_by_one (reasons texts) (token unexpected makes_room) _ (a_token (reasons texts) makes_room) (λ t. parameter_telling ds)

  module _ (M : MembersLaws texts below part) (some : 1 ≤ below) (types : List Name) where
    abbrev Fits : List Token → Declarations → Type 0
    Fits = FitsParameters texts (suc below) types

    abbrev commas : Token → Bool
    commas = is_comma (reading texts types)

    is_full_of : (ds : Declarations) → is_full texts below part ds ≡ true → 32 ≤ length ds.list
    is_full_of ds h = ltb-false (length ds.list) 32 (not_true (nat_lt (length ds.list) 32) h)
      where
        not_true : (b : Bool) → not b ≡ true → b ≡ false
        not_true true e = absurd (cc e)
        not_true false e = refl

    full_is : (ds : Declarations) (xs : List Token) → Fits xs ds → is_full texts below part ds ≡ true → has_room xs ≡ false → length ds.list ≡ 32
    full_is ds xs f h none =
        let most : length ds.list ≤ 32 = some_count texts types xs ds f.0 none in
        let least : 32 ≤ length ds.list = is_full_of ds h in
        omega arith

    module _ (xs : List Token) (ds : Declarations) (f : Fits xs ds) (c : Token) (comma : commas c ≡ true) where
      abbrev ahead : List Token
      ahead = xs ++ (c ∷ [])

      -- what is refused behind the comma
      barred_tells : is_full texts below part ds ≡ true → (ts : List Token) → Tells (reasons texts) {A = Declarations} (ahead ++ ts) (barred_by too_many_parameters (reading texts ds.types) seat.Prototype ts)
      barred_tells full ts = by_case (at_number too_many_parameters (reading texts ds.types) seat.Prototype too_deep {A = Declarations} ts)
        where
          surplus : (t : Token) × (us : List Token) × (ts ≡ t ∷ us) × (begins_parameter (reading texts ds.types) t ≡ true) → Stops (IsDeclarationReason texts) (ahead ++ ts) too_many_parameters (length ts)
          surplus b = record {
            front = ahead;
            bad = ts;
            split = refl;
            left_is = refl;
            why = too_many (record {
              before = [];
              parameters = xs;
              comma = c;
              first = b.0;
              rest = b.1;
              types = types;
              trees = ds;
              split = refl;
              are = f.0;
              full = is_full_of ds full;
              just = full_is ds xs f full;
              is_one = comma;
              goes_on = b.2;
              begins = b.3;
            });
          }

          by_case : {o : Outcome Token Declarations} → (o ≡ barred (reading texts ds.types) seat.Prototype ts) ⊎ ((at_next (begins_at (reading texts ds.types) seat.Prototype) ts ≡ true) × (o ≡ stop too_many_parameters (length ts)))
              → Tells (reasons texts) (ahead ++ ts) o
          by_case (inl e) = subst (λ o. Tells (reasons texts) {A = Declarations} (ahead ++ ts) o) (sym e) (tells_behind (reasons texts) ahead ts (barred (reading texts ds.types) seat.Prototype ts) (barred_telling texts ds.types Declarations seat.Prototype ts))
          by_case (inr b) = subst (λ o. Tells (reasons texts) {A = Declarations} (ahead ++ ts) o) (sym b.1) (surplus (next_is (begins_at (reading texts ds.types) seat.Prototype) ts b.0))

      another_tells : (ts : List Token) → Tells (reasons texts) (ahead ++ ts) (another_parameter texts below part ds ts)
      unfolding another_parameter beyond_limit
      another_tells ts = by_count (is_full texts below part ds) refl
        where
          by_count : (b : Bool) → is_full texts below part ds ≡ b → Tells (reasons texts) (ahead ++ ts) ((if b then beyond_limit texts below part ds else parameter texts below part ds) ts)
          by_count false k = tells_behind (reasons texts) ahead ts (parameter texts below part ds ts) (parameter_telling ds ts)
          by_count true k =
              by_choice (reasons texts) (at_next makes_room ts) ((token unexpected makes_room >>= (λ t. parameter texts below part ds)) ts) (barred_by too_many_parameters (reading texts ds.types) seat.Prototype ts) (ahead ++ ts)
              (λ h. tells_behind (reasons texts) ahead ts _ (room_telling ds ts)) (λ h. barred_tells k ts)

      behind_comma : (ts : List Token) → Tells (reasons texts) (ahead ++ ts) (choose (is_mark (reading texts ds.types) mark.Ellipsis) (refuse variable_arguments) (another_parameter texts below part ds) ts)
      behind_comma ts =
          by_choice (reasons texts) (at_next (is_mark (reading texts ds.types) mark.Ellipsis) ts) (refuse variable_arguments ts) (another_parameter texts below part ds ts) (ahead ++ ts)
          (λ h. tells_behind (reasons texts) {A = Declarations} ahead ts (refuse variable_arguments ts) (refusing_feature texts Declarations ds.types (is_mark (reading texts ds.types) mark.Ellipsis) 6 (λ t h. h) ts h)) (λ h. another_tells ts)

    next_tells : (xs : List Token) (ds : Declarations) → Fits xs ds → (ts : List Token) → at_next commas ts ≡ true → Tells (reasons texts) (xs ++ ts) (next_parameter texts below part ds ts)
    unfolding next_parameter
    next_tells xs ds f [] h = absurd (cc h)
    next_tells xs ds f (c ∷ ts) h =
        subst (λ b. Tells (reasons texts) {A = Declarations} (xs ++ (c ∷ ts)) (and_then (if b then done c ts else stop unexpected (suc (length ts))) (λ t. choose (is_mark (reading texts ds.types) mark.Ellipsis) (refuse variable_arguments)
        (another_parameter texts below part ds)))) (sym h) (subst (λ l. Tells (reasons texts) {A = Declarations} l (choose (is_mark (reading texts ds.types) mark.Ellipsis) (refuse variable_arguments) (another_parameter texts below part ds) ts))
        (append_assoc xs (c ∷ []) ts) (behind_comma xs ds f c h ts))

    turns_tell : (n : ℕ) (xs : List Token) (ds : Declarations) → Fits xs ds → (ts : List Token) → Tells (reasons texts) (xs ++ ts) (loop commas (next_parameter texts below part) n ds ts)
    unfolding loop
    turns_tell zero xs ds f ts = record { front = xs; split = refl }
    turns_tell (suc n) xs ds f ts =
        by_choice (reasons texts) (at_next commas ts) (and_then (next_parameter texts below part ds ts) (loop commas (next_parameter texts below part) n)) (done ds ts) (xs ++ ts) (λ h. on_turn h (turns_tell n)) (λ h. record { front = xs; split = refl })
      where
        on_turn : at_next commas ts ≡ true → ((us : List Token) (es : Declarations) → Fits us es → (rest : List Token) → Tells (reasons texts) (us ++ rest) (loop commas (next_parameter texts below part) n es rest))
            → Tells (reasons texts) (xs ++ ts) (and_then (next_parameter texts below part ds ts) (loop commas (next_parameter texts below part) n))
        on_turn h later = go (next_parameter texts below part ds ts) refl (next_tells xs ds f ts h)
          where
            go : (o : Outcome Token Declarations) → next_parameter texts below part ds ts ≡ o → Tells (reasons texts) (xs ++ ts) o → Tells (reasons texts) (xs ++ ts) (and_then o (loop commas (next_parameter texts below part) n))
            go (stop m k) e s = s
            go (done es rest) e s =
                let u : Part (Behind texts below part M some ds) (λ ds t. more_last (reading texts []) ds.list t) es ts rest = (behind_head texts below part M some ds).sound ts es rest h e in
                subst (λ z. Tells (reasons texts) z (loop commas (next_parameter texts below part) n es rest)) (append_assoc xs u.front rest ∙ ap (λ z. xs ++ z) (sym u.split))
                (later (xs ++ u.front) es (add_one texts below part M some types xs ds u.front es f u.is) rest)

    pub parameters_telling : Telling (reasons texts) (parameters_at texts below part types)
    unfolding parameters_at
    parameters_telling ts = go (parameter texts below part (record { list = []; types = types }) ts) refl (parameter_telling (record { list = []; types = types }) ts)
      where
        go : (o : Outcome Token Declarations) → parameter texts below part (record { list = []; types = types }) ts ≡ o → Tells (reasons texts) ts o → Tells (reasons texts) ts (and_then o (looped commas (next_parameter texts below part)))
        go (stop m k) e s = s
        go (done ds rest) e s =
            let u = (parameter_law texts below part M some (record { list = []; types = types })).sound ts ds rest e in
            subst (λ z. Tells (reasons texts) z (looped commas (next_parameter texts below part) ds rest)) (sym u.split)
            (turns_tell (length rest) u.front ds (first_fits texts below part M some types u.front ds u.is) rest)

-- ---- parts of each depth

module _ (texts : List (List ℕ)) where
  pub parts_telling : (left k : ℕ) → TellingParts texts (parts texts left k)
  unfolding descent
  parts_telling zero k types = (barred_telling texts types Declarations seat.Structure, barred_telling texts types Declarations seat.Prototype)
  parts_telling (suc zero) zero types = (barred_telling texts types Declarations seat.Structure, barred_telling texts types Declarations seat.Prototype)
  parts_telling (suc (suc m)) zero types =
      (members_telling texts (suc m) (parts texts (suc m)) (parts_telling (suc m)) types, parameters_telling texts (suc m) (parts texts (suc m)) (parts_telling (suc m)) (members_below texts (suc m)) (omega arith) types)
  parts_telling (suc n) (suc k) types = parts_telling n k types
