-- The reader of the members of a structure keeps the laws, if those of members of less depth do.
use Rattle.std.proofs.Common.{◌≡◌, ◌≤◌, ◌-◌, ℕ, suc, max, Bool, true, false, ◌||◌, not, List, [], ◌∷◌, ◌++◌, length, if◌then◌else◌, refl, sym, ap, ◌∙◌, subst, subst₂, append_assoc, append-nil, arith}
use Rattle.std.proofs.Math.Nat.{le-max_left, le-max_right, max-le}
use Rattle.sb_base.specs.declared.interning.Name.{Name}
use Rattle.sb_base.specs.declared.refusals.Place.{Place}
use Rattle.sb_base.specs.declared.tokens.PpKind.TheVariants as pp_kind
use Rattle.sb_base.specs.declared.tokens.Token.{Token}
use Rattle.sb_parse.specs.Parser.{Outcome, Parser, done, stop, at_next, never, and_then, ◌>>=◌, pure, token, choose, refuse, looped}
use Rattle.sb_parse.specs.Lawful.{Lawful, OnHead, Joined, Opened, Closed, Mapped, Turns, over, turn}
use Rattle.sb_parse.proofs.Joining.{in_order, via, goes_on_as, map_of}
use Rattle.sb_parse.proofs.Heads.{opened, opened_heads, at_head, headed, head_of_append}
use Rattle.sb_parse.proofs.Looping.{looping}
use Rattle.sb_sign.specs.declared.sign.Mark.{Mark}
use Rattle.sb_sign.specs.declared.sign.Mark.TheVariants as mark
use Rattle.sb_tree.specs.Plain.{decl_list, note_list}
use Rattle.sb_sign.specs.Signs as sign
use Rattle.sb_tree.specs.Trees as tree
use Rattle.sb_tree.specs.Trees.{NoteTree, DeclTree, TypeTree, depth_of_decl, depth_of_decls, depth_of_notes, depth_of_type}
use Rattle.sb_lexicon.specs.Lexicon.{Lexicon, is_mark}
use Rattle.sb_lexicon.specs.Tokens.{unexpected, is_colon, is_comma, is_open, is_open_bracket}
use Rattle.sb_lexicon.proofs.Depths.{some_type_depth}
use Rattle.sb_lexicon.proofs.Lexemes.{mark_is, mark_alone}
use Rattle.sb_parse.proofs.Ways.{or_false, goes_on_where, closing, halted, turned_once_more}
use Rattle.sb_sal.specs.declared.bearer.Bearer.TheVariants as bearer
use Rattle.sb_sal.specs.Readers.{notes_reader}
use Rattle.sb_sal.specs.Reads.{FitsNotes}
use Rattle.sb_sal.specs.Spellings.{may_stand}
use Rattle.sb_sal.proofs.Annotations.{more_notes_behind, lawful_notes}
use Rattle.sb_sal.proofs.Filled.{filled}
use Rattle.sb_specifier.specs.declared.seat.Seat.TheVariants as seat
use Rattle.sb_specifier.specs.Specified.{reading, Specified, again, unqualified_again, same_if_listed, same_if_numbered}
use Rattle.sb_specifier.specs.Declaration.{nowhere, simple_decl, IsMember, is_member, IsDeclarator, AreMemberDeclarators, first_member, member_behind, AreMembers, first_members, members_behind}
use Rattle.sb_specifier.specs.Readers as reader
use Rattle.sb_declarator.specs.Readers.{member_of, on, member_declarator, next_member, member, members}
use Rattle.sb_specifier.specs.Readers.{Declarator, Declarations, Parts, bit_field, is_semicolon, is_close_brace, begins_declaration, specifiers}
use Rattle.sb_specifier.proofs.laws.More.{is_suffix, more_pieces, more_specified, more_declarator, more_members, FitsDeclarator, FitsMembers, MembersLaws}
use Rattle.sb_derivation.proofs.laws.Beginnings.{is_nothing_by, begins_any, some_begins, head_fails, mark_is_no_name}
use Rattle.sb_parse.proofs.Choices.{refused_first}
use Rattle.sb_declarator.proofs.laws.Declarators.{declarators_law}
use Rattle.sb_derivation.proofs.laws.Heads.{begins_specifier, specifiers_begin, member_begins, declaration_no_mark}
use Rattle.sb_declarator.proofs.laws.Parameter.{after_notes, member_is, decl_fits, fits_decl}
use Rattle.sb_specifier.proofs.laws.Specifiers.{FitsSpecifiers, specifiers_law}
use Rattle.sb_declarator.proofs.laws.Typed.{has_its_name, declarator_no_word, typed_fits, fits_typed}

-- ---- depths of lists

pub both_deep : (ds es : List DeclTree) (n : ℕ) → depth_of_decls (decl_list ds) ≤ n → depth_of_decls (decl_list es) ≤ n → depth_of_decls (decl_list (ds ++ es)) ≤ n
both_deep [] es n h k = k
both_deep (d ∷ ds) es n h k =
    let all : max (depth_of_decl d) (depth_of_decls (decl_list ds)) ≤ n = h in
    let first : depth_of_decl d ≤ max (depth_of_decl d) (depth_of_decls (decl_list ds)) = le-max_left (depth_of_decl d) (depth_of_decls (decl_list ds)) in
    let later : depth_of_decls (decl_list ds) ≤ max (depth_of_decl d) (depth_of_decls (decl_list ds)) = le-max_right (depth_of_decl d) (depth_of_decls (decl_list ds)) in
    let one : depth_of_decl d ≤ n = omega arith in
    max-le one (both_deep ds es n (omega arith) k)

pub deep_both : (ds es : List DeclTree) (n : ℕ) → depth_of_decls (decl_list (ds ++ es)) ≤ n → (depth_of_decls (decl_list ds) ≤ n) × (depth_of_decls (decl_list es) ≤ n)
deep_both [] es n h = let none : 0 ≤ n = omega arith in (none, h)
deep_both (d ∷ ds) es n h =
    let all : max (depth_of_decl d) (depth_of_decls (decl_list (ds ++ es))) ≤ n = h in
    let first : depth_of_decl d ≤ max (depth_of_decl d) (depth_of_decls (decl_list (ds ++ es))) = le-max_left (depth_of_decl d) (depth_of_decls (decl_list (ds ++ es))) in
    let later : depth_of_decls (decl_list (ds ++ es)) ≤ max (depth_of_decl d) (depth_of_decls (decl_list (ds ++ es))) = le-max_right (depth_of_decl d) (depth_of_decls (decl_list (ds ++ es))) in
    let rest = deep_both ds es n (omega arith) in
    let one : depth_of_decl d ≤ n = omega arith in
    (max-le one rest.0, rest.1)

pub one_deep : (d : DeclTree) (n : ℕ) → depth_of_decl d ≤ n → depth_of_decls (decl_list (d ∷ [])) ≤ n
one_deep d n h = let none : 0 ≤ n = omega arith in max-le h none

pub deep_one : (d : DeclTree) (n : ℕ) → depth_of_decls (decl_list (d ∷ [])) ≤ n → depth_of_decl d ≤ n
deep_one d n h = let first : depth_of_decl d ≤ max (depth_of_decl d) 0 = le-max_left (depth_of_decl d) 0 in omega arith

-- the type of a later declarator is no deeper
listed_fits : (below : ℕ) (place : Place) (members : tree.OptionalDecls) (t : TypeTree) → 1 ≤ below → depth_of_type t ≤ below → depth_of_type (same_if_listed place members t) ≤ below
listed_fits below place tree.Undeclared t some h = h
listed_fits below place (tree.Declared ds) t some h = some

numbered_fits : (below : ℕ) (place : Place) (items : tree.OptionalItems) (t : TypeTree) → 1 ≤ below → depth_of_type t ≤ below → depth_of_type (same_if_numbered place items t) ≤ below
numbered_fits below place tree.Unlisted t some h = h
numbered_fits below place (tree.Listed is) t some h = some

unqualified_fits : (below : ℕ) (u t : TypeTree) → 1 ≤ below → depth_of_type t ≤ below → depth_of_type (unqualified_again u t) ≤ below
unqualified_fits below (tree.Struct tag members place) t some h = listed_fits below place members t some h
unqualified_fits below (tree.Enum tag items place) t some h = numbered_fits below place items t some h
unqualified_fits below _ t some h = h

pub again_fits : (below : ℕ) (t : TypeTree) → 1 ≤ below → depth_of_type t ≤ below → depth_of_type (again t) ≤ below
again_fits below (tree.Const t) some h = unqualified_fits below t (tree.Const t) some h
again_fits below (tree.Struct tag members place) some h = unqualified_fits below (tree.Struct tag members place) (tree.Struct tag members place) some h
again_fits below (tree.Enum tag items place) some h = unqualified_fits below (tree.Enum tag items place) (tree.Enum tag items place) some h
again_fits below (tree.Base code place) some h = h
again_fits below _ some h = h

-- ---- a token that there is in any case

pub semicolon_token : Token
semicolon_token = record { kind = pp_kind.Punct; text = record { 0 = 4294967365 }; place = nowhere; value = 0 }

pub semicolon_token_is : (w : Lexicon) → is_semicolon w semicolon_token ≡ true
unfolding semicolon_token
semicolon_token_is w = refl

-- ---- what begins a declarator is no colon

pub no_colon : (w : Lexicon) (t : Token) → begins_any w t ≡ true → is_colon w t ≡ false
no_colon w t h = by_test (is_colon w t) refl
  where
    by_test : (b : Bool) → is_colon w t ≡ b → b ≡ false
    by_test false k = refl
    by_test true k =
        let off : (n : Mark) → sign.is_same_mark n mark.Colon ≡ false → is_mark w n t ≡ false = λ n apart. mark_alone w mark.Colon n t (mark_is w mark.Colon t k) apart in
        let none : begins_any w t ≡ false =
        ap (λ b. (b || (is_open w t || is_open_bracket w t)) || reader.is_name w t) (off mark.Star refl) ∙ ap (λ b. (b || is_open_bracket w t) || reader.is_name w t) (off mark.OpenParenthesis refl)
        ∙ ap (λ b. b || reader.is_name w t) (off mark.OpenBracket refl) ∙ mark_is_no_name w mark.Colon t k in
        absurd (let both : true ≡ false = sym h ∙ none in cc both)

module _ (texts : List (List ℕ)) (below : ℕ) (part : ℕ → Parts) (M : MembersLaws texts below part) (some : 1 ≤ below) where
  abbrev plain : Lexicon
  plain = reading texts []

  -- behind a declarator of a member
  abbrev more_member : Token → Bool
  more_member u = is_suffix plain u || is_colon plain u

  mark_ends : (m : Mark) → sign.is_same_mark mark.OpenBracket m ≡ false → sign.is_same_mark mark.OpenParenthesis m ≡ false → sign.is_same_mark mark.Colon m ≡ false → (u : Token) → is_mark plain m u ≡ true → more_member u ≡ false
  mark_ends m x y z u h =
      ap (λ b. (b || is_open plain u) || is_colon plain u) (mark_alone plain m mark.OpenBracket u (mark_is plain m u h) x) ∙ ap (λ b. b || is_colon plain u) (mark_alone plain m mark.OpenParenthesis u (mark_is plain m u h) y)
      ∙ mark_alone plain m mark.Colon u (mark_is plain m u h) z

  -- ---- the declarators of one declaration

  module _ (notes : List NoteTree) (types : List Name) where
    abbrev w : Lexicon
    w = reading texts types

    abbrev Fits : TypeTree → List Token → Declarator → Type 0
    Fits base = FitsDeclarator texts types false false below (below - depth_of_type base)

    abbrev DeclaratorText : TypeTree → List Token → DeclTree → Type 0
    DeclaratorText base = Mapped (simple_decl nowhere notes base) (Fits base)

    named_more : (base : TypeTree) (ts : List Token) (d : Declarator) → Fits base ts d → (u : Token) → is_suffix w u ≡ more_declarator w d u
    named_more base ts d f u = let n = has_its_name texts types false ts d f.is in sym (ap (λ m. more_pieces w m d.pieces u) n.1)

    begins : (base : TypeTree) (ts : List Token) (d : Declarator) → Fits base ts d → at_next (begins_any w) ts ≡ true
    begins base ts d f = let n = has_its_name texts types false ts d f.is in some_begins texts types false false ts d f.is (ap (λ m. is_nothing_by m d.pieces) n.1)

    one_law : (base : TypeTree) → depth_of_type base ≤ below → Lawful (DeclaratorText base) (λ d. more_member) (member_declarator texts below part notes types base)
    unfolding member_declarator
    one_law base deep =
        let flat : 1 ≤ depth_of_type base = some_type_depth base in
        let law = declarators_law texts types false false refl below part (λ h. cc h) (below - depth_of_type base) (omega arith) in
        refused_first (is_colon w) bit_field
        (via (map_of (halted (goes_on_where law (λ d. is_suffix w) (named_more base)) (λ d. is_colon w) bit_field) (simple_decl nowhere notes base) (λ d. more_member) (λ d u. refl)) (λ ts d m. m) (λ ts d m. m)
        (on texts below part types false false base >>= (λ d. choose (is_colon w) (refuse bit_field) (pure (member_of texts below part notes base d nowhere)))) (λ ts. same (on texts below part types false false base ts)))
        apart
      where
        behind_it : (b : Bool) (d : Declarator) (r : List Token)
            → (if b then stop bit_field (length r) else done (member_of texts below part notes base d nowhere) r)
            ≡ and_then (if b then stop bit_field (length r) else done d r) (λ d. pure (simple_decl nowhere notes base d))
        behind_it true d r = refl
        behind_it false d r = ap (λ z. done z r) (member_is texts below part notes base d nowhere)

        same : (o : Outcome Token Declarator)
            → and_then o (λ d. choose (is_colon w) (refuse bit_field) (pure (member_of texts below part notes base d nowhere)))
            ≡ and_then (and_then o (λ d. choose (is_colon w) (refuse bit_field) (pure d))) (λ d. pure (simple_decl nowhere notes base d))
        same (done d r) = behind_it (at_next (is_colon w) r) d r
        same (stop n left) = refl

        apart : (ts : List Token) (d : DeclTree) (later : List Token) → DeclaratorText base ts d → at_next (is_colon w) (ts ++ later) ≡ false
        apart ts d later m = head_fails w (begins_any w) (is_colon w) (no_colon w) (ts ++ later) (head_of_append (begins_any w) ts later (begins base ts m.value m.is))

    -- ---- with commas between them

    abbrev Behind : TypeTree → List DeclTree → List Token → List DeclTree → Type 0
    Behind base ds = Opened (is_comma w) (λ c. Mapped (λ d. ds ++ (d ∷ [])) (DeclaratorText (again base)))

    behind_head : (base : TypeTree) → depth_of_type base ≤ below → (ds : List DeclTree) → OnHead (is_comma w) (Behind base ds) (λ ds. more_member) (next_member texts below part notes types base ds)
    unfolding next_member
    behind_head base deep ds =
        at_head (is_comma w) (λ t h. opened {Is = λ c. Mapped (λ d. ds ++ (d ∷ [])) (DeclaratorText (again base))} unexpected (is_comma w) t h
        (λ c passes. map_of (one_law (again base) (again_fits below base some deep)) (λ d. ds ++ (d ∷ [])) (λ ds. more_member) (λ d u. refl))) opened_heads

    abbrev ListText : TypeTree → List Token → List DeclTree → Type 0
    ListText base = Joined (Mapped (λ d. d ∷ []) (DeclaratorText base)) (Turns (Behind base))

    abbrev list_reader : TypeTree → Parser Token (List DeclTree)
    list_reader base = member_declarator texts below part notes types base >>= (λ d. pure (d ∷ [])) >>= looped (is_comma w) (next_member texts below part notes types base)

    texts_law : (base : TypeTree) → depth_of_type base ≤ below → Lawful (ListText base) (λ ds u. is_comma w u || more_member u) (list_reader base)
    texts_law base deep =
        looping {Turn = Behind base} (behind_head base deep) (λ ds u h. mark_ends mark.Comma refl refl refl u h) (map_of (one_law base deep) (λ d. d ∷ []) (λ ds. more_member) (λ d u. refl))

    -- declarators whose trees are at most so deep
    abbrev FitsList : TypeTree → List Token → List DeclTree → Type 0
    FitsList base ts ds = AreMemberDeclarators texts types notes base ts ds × (depth_of_decls (decl_list ds) ≤ suc below)

    module _ (noted : depth_of_notes (note_list notes) ≤ below) where
      one_fits : (base : TypeTree) (ts : List Token) (d : Declarator) → depth_of_type base ≤ below → Fits base ts d → depth_of_decl (simple_decl nowhere notes base d) ≤ suc below
      one_fits base ts d deep f = decl_fits below nowhere notes base d noted (typed_fits below base d.pieces deep f.count f.sizes)

      all_fit : (base : TypeTree) → depth_of_type base ≤ below → (xs : List Token) (ds : List DeclTree) (ys : List Token) (es : List DeclTree) → FitsList base xs ds → Turns (Behind base) ds ys es → FitsList base (xs ++ ys) es
      all_fit base deep xs _ _ _ f (over ds) = subst (λ l. FitsList base l ds) (sym (append-nil xs)) f
      all_fit base deep xs _ _ _ f (turn ds ms es us vs o later) =
          let d = o.is.is.value in
          let grown : FitsList base (xs ++ (o.opening ∷ o.rest)) (ds ++ (simple_decl nowhere notes (again base) d ∷ [])) = (
            member_behind types notes base xs o.rest o.opening ds d o.passes f.0 o.is.is.is.is,
            both_deep ds (simple_decl nowhere notes (again base) d ∷ []) (suc below) f.1 (one_deep (simple_decl nowhere notes (again base) d) (suc below) (one_fits (again base) o.rest d (again_fits below base some deep) o.is.is.is)),
          ) in
          let whole : ds ++ (simple_decl nowhere notes (again base) d ∷ []) ≡ ms = ap (λ z. ds ++ (z ∷ [])) (sym o.is.is.same) ∙ sym o.is.same in
          subst (λ l. FitsList base l es) (append_assoc xs us vs) (all_fit base deep (xs ++ us) ms vs es (subst₂ (FitsList base) (ap (λ l. xs ++ l) (sym o.split)) whole grown) later)

      to_list : (base : TypeTree) → depth_of_type base ≤ below → (ts : List Token) (ds : List DeclTree) → ListText base ts ds → FitsList base ts ds
      to_list base deep ts ds j =
          let m = j.first.is in
          let first : FitsList base j.before (simple_decl nowhere notes base m.value ∷ []) =
          (first_member types notes base j.before m.value m.is.is, one_deep (simple_decl nowhere notes base m.value) (suc below) (one_fits base j.before m.value deep m.is)) in
          let whole : simple_decl nowhere notes base m.value ∷ [] ≡ j.value = ap (λ z. z ∷ []) (sym m.same) ∙ sym j.first.same in
          subst (λ l. FitsList base l ds) (sym j.split) (all_fit base deep j.before j.value j.after ds (subst (FitsList base j.before) whole first) j.second)

      fits_one : (base : TypeTree) (ts : List Token) (d : Declarator) → depth_of_decl (simple_decl nowhere notes base d) ≤ suc below → IsDeclarator texts types false false ts d → Fits base ts d
      fits_one base ts d deep is = let fits = fits_typed below base d.pieces (fits_decl below nowhere notes base d deep).1 in record { is = is; count = fits.1; sizes = fits.2 }

      from_list : (base : TypeTree) (ts : List Token) (ds : List DeclTree) → AreMemberDeclarators texts types notes base ts ds → depth_of_decls (decl_list ds) ≤ suc below → ListText base ts ds
      from_list _ _ _ (first_member _ _ base ts d is) deep = record {
        before = ts;
        after = [];
        value = simple_decl nowhere notes base d ∷ [];
        split = sym (append-nil ts);
        first = record { value = simple_decl nowhere notes base d; is = record { value = d; is = fits_one base ts d (deep_one (simple_decl nowhere notes base d) (suc below) deep) is; same = refl }; same = refl };
        second = over (simple_decl nowhere notes base d ∷ []);
      }
      from_list _ _ _ (member_behind _ _ base xs ys c ds d comma are is) deep =
          let both = deep_both ds (simple_decl nowhere notes (again base) d ∷ []) (suc below) deep in
          let j = from_list base xs ds are both.0 in
          record {
            before = j.before;
            after = j.after ++ (c ∷ ys);
            value = j.value;
            split = ap (λ l. l ++ (c ∷ ys)) j.split ∙ append_assoc j.before j.after (c ∷ ys);
            first = j.first;
            second = turned_once_more j.value ds (ds ++ (simple_decl nowhere notes (again base) d ∷ [])) j.after (c ∷ ys) j.second (record {
              opening = c;
              rest = ys;
              split = refl;
              passes = comma;
              is = record {
                value = simple_decl nowhere notes (again base) d;
                is = record { value = d; is = fits_one (again base) ys d (deep_one (simple_decl nowhere notes (again base) d) (suc below) both.1) is; same = refl };
                same = refl;
              };
            });
          }

      -- with the semicolon behind them
      list_law : (base : TypeTree) → depth_of_type base ≤ below → (f : List DeclTree → Declarations)
          → Lawful (Mapped f (Closed (is_semicolon w) (FitsList base))) (λ _. never) (list_reader base >>= (λ ds. token unexpected (is_semicolon w) >>= (λ c. pure (f ds))))
      list_law base deep f =
          closing unexpected (is_semicolon w) semicolon_token (semicolon_token_is w)
          (via (texts_law base deep) (to_list base deep) (λ ts ds is. from_list base ts ds is.0 is.1) (list_reader base) (λ ts. refl))
          (λ ds u h. ap (λ b. b || more_member u) (mark_alone plain mark.Semicolon mark.Comma u (mark_is plain mark.Semicolon u h) refl) ∙ mark_ends mark.Semicolon refl refl refl u h) f

  -- ---- one declaration of members

  -- members more, of at most this depth
  record FitsMember (ds : Declarations) (ts : List Token) (es : Declarations) : Type 0 where
    list : List DeclTree
    now : List Name
    is : IsMember texts ds.types ts (record { list = list; types = now })
    deep : depth_of_decls (decl_list list) ≤ suc below
    same : es ≡ record { list = ds.list ++ list; types = now }

  module _ (ds : Declarations) where
    abbrev here : Lexicon
    here = reading texts ds.types

    abbrev Notes : List Token → List NoteTree → Type 0
    Notes = FitsNotes here below (may_stand here bearer.Member)

    abbrev Specs : List Token → Specified × TypeTree → Type 0
    Specs = FitsSpecifiers texts seat.Structure below ds.types

    abbrev value : Specified × TypeTree → List DeclTree → Declarations
    value s list = record { list = ds.list ++ list; types = s.0.types }

    abbrev EndText : List NoteTree → Specified × TypeTree → List Token → Declarations → Type 0
    EndText notes s = Mapped (value s) (Closed (is_semicolon here) (FitsList notes s.0.types s.1))

    abbrev end_reader : List NoteTree → Specified × TypeTree → Parser Token Declarations
    end_reader notes s = list_reader notes s.0.types s.1 >>= (λ list. token unexpected (is_semicolon here) >>= (λ c. pure (value s list)))

    abbrev BehindNotes : List NoteTree → List Token → Declarations → Type 0
    BehindNotes notes = Joined Specs (EndText notes)

    end_begins : (notes : List NoteTree) (s : Specified × TypeTree) (ts : List Token) (list : List DeclTree) → AreMemberDeclarators texts s.0.types notes s.1 ts list → at_next (begins_any here) ts ≡ true
    end_begins notes s _ _ (first_member types _ base ts d is) = let n = has_its_name texts types false ts d is in some_begins texts types false false ts d is (ap (λ m. is_nothing_by m d.pieces) n.1)
    end_begins notes s _ _ (member_behind types _ base xs ys c list d comma are is) = head_of_append (begins_any here) xs (c ∷ ys) (end_begins notes s xs list are)

    specs_apart : (notes : List NoteTree) (s : Specified × TypeTree) (ts : List Token) (e : Declarations) (later : List Token) → EndText notes s ts e → at_next (more_specified plain s.1) (ts ++ later) ≡ false
    specs_apart notes s ts e later m =
        head_fails here (begins_any here) (more_specified plain s.1) (declarator_no_word here s.1) (ts ++ later)
        (head_of_append (begins_any here) ts later (ap (at_next (begins_any here)) m.is.split ∙ head_of_append (begins_any here) m.is.front (m.is.closing ∷ []) (end_begins notes s m.is.front m.value m.is.is.0)))

    abbrev behind_reader : List NoteTree → Parser Token Declarations
    behind_reader notes = specifiers texts seat.Structure below part ds.types >>= (λ s. end_reader notes s)

    behind_notes : (notes : List NoteTree) → depth_of_notes (note_list notes) ≤ below → Lawful (BehindNotes notes) (λ _. never) (behind_reader notes)
    behind_notes notes noted =
        in_order {Second = EndText notes} {q = end_reader notes} (specifiers_law texts seat.Structure below part M ds.types some)
        (λ ys s is. list_law notes s.0.types noted s.1 is.deep_enough (value s)) (λ ys s zs e later first second h. specs_apart notes s zs e later second)

    notes_apart : (notes : List NoteTree) (ys : List Token) (e : Declarations) (later : List Token) → BehindNotes notes ys e → at_next (more_notes_behind here notes) (ys ++ later) ≡ false
    notes_apart notes ys e later j =
        after_notes here notes (ys ++ later)
        (head_of_append (begins_specifier here) ys later (ap (at_next (begins_specifier here)) j.split ∙ head_of_append (begins_specifier here) j.before j.after (specifiers_begin texts seat.Structure ds.types j.before j.value.0 j.value.1 j.first.are j.first.named)))

    to_member : (ts : List Token) (e : Declarations) → Joined Notes BehindNotes ts e → FitsMember ds ts e
    to_member ts e j =
        let k = j.second in
        let m = j.second.second in
        record {
          list = m.value;
          now = k.value.0.types;
          is = subst (λ l. IsMember texts ds.types l (record { list = m.value; types = k.value.0.types })) (sym (j.split ∙ ap (λ l. j.before ++ l) (k.split ∙ ap (λ l. k.before ++ l) m.is.split)))
              (is_member ds.types j.before k.before m.is.front m.is.closing j.value k.value.0 k.value.1 m.value j.first.0 k.first.are k.first.named m.is.is.0 m.is.passes);
          deep = m.is.is.1;
          same = m.same;
        }

    -- the annotations are as deep as a member allows
    list_noted : (types : List Name) (notes : List NoteTree) (t : TypeTree) (ts : List Token) (list : List DeclTree) → AreMemberDeclarators texts types notes t ts list → depth_of_decls (decl_list list) ≤ suc below
        → (depth_of_notes (note_list notes) ≤ below) × (depth_of_type t ≤ below)
    list_noted _ _ _ _ _ (first_member types notes t ts d is) deep =
        let both = fits_decl below nowhere notes t d (deep_one (simple_decl nowhere notes t d) (suc below) deep) in
        (both.0, (fits_typed below t d.pieces both.1).0)
    list_noted _ _ _ _ _ (member_behind types notes t xs ys c list d comma are is) deep = list_noted types notes t xs list are (deep_both list (simple_decl nowhere notes (again t) d ∷ []) (suc below) deep).0

    from_member : (ts : List Token) (list : List DeclTree) (now : List Name) (es : Declarations) → IsMember texts ds.types ts es → es ≡ record { list = list; types = now } → depth_of_decls (decl_list list) ≤ suc below
        → (e : Declarations) → e ≡ record { list = ds.list ++ list; types = now } → Joined Notes BehindNotes ts e
    from_member _ list now _ (is_member _ xs ys zs c notes s t inside noted are named declared closes) whole deep e same =
        let lists : inside ≡ list = ap (λ z. z.list) whole in
        let types : s.types ≡ now = ap (λ z. z.types) whole in
        let inside_deep : depth_of_decls (decl_list inside) ≤ suc below = subst (λ l. depth_of_decls (decl_list l) ≤ suc below) (sym lists) deep in
        let both = list_noted s.types notes t zs inside declared inside_deep in
        record {
          before = xs;
          after = ys ++ (zs ++ (c ∷ []));
          value = notes;
          split = refl;
          first = (noted, both.0);
          second = record {
            before = ys;
            after = zs ++ (c ∷ []);
            value = (s, t);
            split = refl;
            first = record { are = are; named = named; deep_enough = both.1 };
            second = record {
              value = inside;
              is = record { front = zs; closing = c; split = refl; is = (declared, inside_deep); passes = closes };
              same = same ∙ sym (ap (λ z. record { list = ds.list ++ z; types = now }) lists ∙ refl) ∙ sym (ap (λ z. record { list = ds.list ++ inside; types = z }) types);
            };
          };
        }

    -- the same with parentheses otherwise
    same_list : (notes : List NoteTree) (s : Specified × TypeTree) (o : Outcome Token DeclTree)
        → and_then o (λ d. looped (is_comma here) (next_member texts below part notes s.0.types s.1) (d ∷ []) >>= (λ list. token unexpected (is_semicolon here) >>= (λ c. pure (value s list))))
        ≡ and_then (and_then (and_then o (λ d. pure (d ∷ []))) (looped (is_comma here) (next_member texts below part notes s.0.types s.1))) (λ list. token unexpected (is_semicolon here) >>= (λ c. pure (value s list)))
    same_list notes s (done d r) = refl
    same_list notes s (stop n left) = refl

    abbrev own_end : List NoteTree → Specified × TypeTree → Parser Token Declarations
    own_end notes s =
        member_declarator texts below part notes s.0.types s.1 >>= (λ d. looped (is_comma here) (next_member texts below part notes s.0.types s.1) (d ∷ []) >>= (λ list. token unexpected (is_semicolon here) >>= (λ c. pure (value s list))))

    same_specified : (notes : List NoteTree) (o : Outcome Token (Specified × TypeTree)) → and_then o (own_end notes) ≡ and_then o (end_reader notes)
    same_specified notes (done s r) = same_list notes s (member_declarator texts below part notes s.0.types s.1 r)
    same_specified notes (stop n left) = refl

    same_noted : (o : Outcome Token (List NoteTree)) → and_then o (λ notes. specifiers texts seat.Structure below part ds.types >>= own_end notes) ≡ and_then o behind_reader
    same_noted (done notes r) = same_specified notes (specifiers texts seat.Structure below part ds.types r)
    same_noted (stop n left) = refl

    member_law : Lawful (FitsMember ds) (λ _. never) (member texts below part ds)
    unfolding member
    member_law =
        via (in_order {Second = BehindNotes} {q = behind_reader} (lawful_notes here below (may_stand here bearer.Member) (filled here bearer.Member)) (λ xs notes is. behind_notes notes is.1)
        (λ xs notes ys e later first second h. notes_apart notes ys e later second)) to_member
        (λ ts e f. from_member ts f.list f.now (record { list = f.list; types = f.now }) f.is refl f.deep e f.same) (member texts below part ds) (λ ts. same_noted (notes_reader here below (may_stand here bearer.Member) ts))

  -- ---- all members

  abbrev not_closed : Token → Bool
  not_closed u = not (is_close_brace plain u)

  member_head : (ds : Declarations) → OnHead not_closed (FitsMember ds) (λ _. never) (member texts below part ds)
  member_head ds = headed (member_law ds) not_closed (λ ts e f. by_head ts (member_begins texts ds.types ts (record { list = f.list; types = f.now }) f.is))
    where
      by_head : (ts : List Token) → at_next (begins_declaration (reading texts ds.types)) ts ≡ true → at_next not_closed ts ≡ true
      by_head [] h = absurd (cc h)
      by_head (t ∷ ts) h = ap not (declaration_no_mark texts ds.types mark.CloseBrace t h)

  module _ (types : List Name) where
    abbrev none : Declarations
    none = record { list = []; types = types }

    abbrev MembersText : List Token → Declarations → Type 0
    MembersText = Joined (FitsMember none) (Turns FitsMember)

    add_all : (xs : List Token) (ds : Declarations) (ys : List Token) (es : Declarations) → FitsMembers texts (suc below) types xs ds → Turns FitsMember ds ys es → FitsMembers texts (suc below) types (xs ++ ys) es
    add_all xs _ _ _ f (over ds) = subst (λ l. FitsMembers texts (suc below) types l ds) (sym (append-nil xs)) f
    add_all xs _ _ _ f (turn ds ms es us vs m later) =
        let next : FitsMembers texts (suc below) types (xs ++ us) (record { list = ds.list ++ m.list; types = m.now }) =
        (members_behind types xs us ds (record { list = m.list; types = m.now }) f.0 m.is, both_deep ds.list m.list (suc below) f.1 m.deep) in
        subst (λ l. FitsMembers texts (suc below) types l es) (append_assoc xs us vs) (add_all (xs ++ us) ms vs es (subst (FitsMembers texts (suc below) types (xs ++ us)) (sym m.same) next) later)

    to_members : (ts : List Token) (es : Declarations) → MembersText ts es → FitsMembers texts (suc below) types ts es
    to_members ts es j =
        let first : FitsMembers texts (suc below) types j.before (record { list = j.first.list; types = j.first.now }) = (first_members types j.before (record { list = j.first.list; types = j.first.now }) j.first.is, j.first.deep) in
        subst (λ l. FitsMembers texts (suc below) types l es) (sym j.split) (add_all j.before j.value j.after es (subst (FitsMembers texts (suc below) types j.before) (sym j.first.same) first) j.second)

    from_members : (ts : List Token) (es : Declarations) → AreMembers texts types ts es → depth_of_decls (decl_list es.list) ≤ suc below → MembersText ts es
    from_members _ _ (first_members _ ts ds is) deep =
        record { before = ts; after = []; value = ds; split = sym (append-nil ts); first = record { list = ds.list; now = ds.types; is = is; deep = deep; same = refl }; second = over ds }
    from_members _ _ (members_behind _ xs ys ds es are is) deep =
        let both = deep_both ds.list es.list (suc below) deep in
        let j = from_members xs ds are both.0 in
        record {
          before = j.before;
          after = j.after ++ ys;
          value = j.value;
          split = ap (λ l. l ++ ys) j.split ∙ append_assoc j.before j.after ys;
          first = j.first;
          second = turned_once_more j.value ds (record { list = ds.list ++ es.list; types = es.types }) j.after ys j.second (record { list = es.list; now = es.types; is = is; deep = both.1; same = refl });
        }

    pub members_law : Lawful (FitsMembers texts (suc below) types) (more_members texts) (members texts below part types)
    unfolding members
    members_law =
        goes_on_as (via (looping {Turn = FitsMember} member_head (λ ds u h. refl) (member_law none)) to_members (λ ts es is. from_members ts es is.0 is.1)
        (member texts below part none >>= looped not_closed (member texts below part)) (λ ts. refl)) (more_members texts) (λ ds u. sym (or_false (not_closed u)))
