-- Types with pieces put on them: what goes on from a declarator on a type, and how deep the type is.
use Rattle.std.proofs.Common.{◌≡◌, ◌≤◌, ◌+◌, ◌-◌, ℕ, suc, Bool, true, false, ◌||◌, ◌&&◌, not, List, [], ◌∷◌, ◌++◌, length, Option, Some, None, if◌then◌else◌, refl, sym, ap, ◌∙◌, arith}
use Rattle.sb_base.specs.declared.interning.Name.{Name}
use Rattle.sb_base.specs.declared.refusals.Place.{Place}
use Rattle.sb_base.specs.declared.tokens.Token.{Token}
use Rattle.sb_parse.specs.Parser.{at_next}
use Rattle.sb_parse.specs.Lawful.{Follows}
use Rattle.sb_parse.proofs.Heads.{head_of_append}
use Rattle.sb_sign.specs.declared.sign.Keyword.{Keyword}
use Rattle.sb_sign.specs.declared.sign.Mark.TheVariants as mark
use Rattle.sb_sign.specs.Signs as sign
use Rattle.sb_tree.specs.Trees as tree
use Rattle.sb_tree.specs.Trees.{TypeTree, depth_of_type}
use Rattle.sb_lexicon.specs.declared.words.TypeWords.{TypeWords}
use Rattle.sb_lexicon.specs.Lexicon.{Lexicon, is_mark, is_type_keyword}
use Rattle.sb_operand.specs.Pieces.{Piece, Constant, Pointed, Arrayed, Called, Grouped, typed, depth_over}
use Rattle.sb_operand.specs.Readers.{begins_abstract}
use Rattle.sb_lexicon.specs.Tokens.{is_open_brace, is_qualifier}
use Rattle.sb_lexicon.specs.Words.{Said, Nothing, Words, Whole, no_words, put, worded, said_after, number_of_words, type_said, qualified_if}
use Rattle.sb_expr.proofs.tokens.More.{behind_pointers, is_empty}
use Rattle.sb_lexicon.proofs.Depths.{some_type_depth}
use Rattle.sb_lexicon.proofs.Lexemes.{mark_is, mark_alone}
use Rattle.sb_operand.proofs.Putting.{InnerFits, typed_depth, over_count, over_inner, over_fits}
use Rattle.sb_parse.proofs.Ways.{first_fails, second_fails, or_false, following_where}
use Rattle.sb_specifier.specs.declared.seat.Seat.{Seat}
use Rattle.sb_specifier.specs.Specified.{reading, Specified, unspecified, base_of, names_tag}
use Rattle.sb_specifier.specs.Declaration.{IsSpecifier, is_word, is_constant, is_restricted, is_inline, is_stored, is_defined, names_structure, names_enumeration, defines_structure, defines_enumeration, AreSpecifiers, no_specifiers, more_specifiers, IsDeclarator, is_direct, is_pointer, IsDirect, is_name, is_nameless, is_in_parentheses, is_array, is_outermost, is_function_of}
use Rattle.sb_specifier.specs.Readers as reader
use Rattle.sb_specifier.specs.Readers.{Declarator, Parts, is_storage_keyword}
use Rattle.sb_declarator.specs.Readers.{declarators}
use Rattle.sb_specifier.proofs.laws.More.{is_suffix, has_direct, is_pointed, more_specified, more_nameless, more_pieces, more_declarator, FitsDeclarator, ParametersLaws}
use Rattle.sb_derivation.proofs.laws.Beginnings.{is_nothing_by, is_nothing, begins_any, no_declarator, some_begins, unworded, head_fails, mark_is_no_name}
use Rattle.sb_declarator.proofs.laws.Declarators.{declarators_law}

-- ---- what stands outermost

or_true : (b : Bool) → (b || true) ≡ true
or_true true = refl
or_true false = refl

typed_direct : (ps : List Piece) (t : TypeTree) → has_direct (typed t ps) ≡ (has_direct t || not (is_empty (behind_pointers ps)))
typed_direct [] t = sym (or_false (has_direct t))
typed_direct (Constant ∷ ps) t = typed_direct ps (tree.Const t)
typed_direct (Pointed place ∷ ps) t = typed_direct ps (tree.Pointer t place)
typed_direct (Arrayed size place ∷ ps) t = typed_direct ps (tree.Array t size place) ∙ sym (or_true (has_direct t))
typed_direct (Called params place ∷ ps) t = typed_direct ps (tree.Function t params place) ∙ sym (or_true (has_direct t))
typed_direct (Grouped place ∷ ps) t = typed_direct ps (tree.ParenType t place) ∙ sym (or_true (has_direct t))

abbrev has_pointer : List Piece → Bool
has_pointer [] = false
has_pointer (Pointed place ∷ ps) = true
has_pointer (p ∷ ps) = has_pointer ps

typed_pointed : (ps : List Piece) (t : TypeTree) → is_empty (behind_pointers ps) ≡ true → is_pointed (typed t ps) ≡ (is_pointed t || has_pointer ps)
typed_pointed [] t h = sym (or_false (is_pointed t))
typed_pointed (Constant ∷ ps) t h = typed_pointed ps (tree.Const t) h
typed_pointed (Pointed place ∷ ps) t h = typed_pointed ps (tree.Pointer t place) h ∙ sym (or_true (is_pointed t))
typed_pointed (Arrayed size place ∷ ps) t h = absurd (cc h)
typed_pointed (Called params place ∷ ps) t h = absurd (cc h)
typed_pointed (Grouped place ∷ ps) t h = absurd (cc h)

-- ---- the types that specifiers name

abbrev pub is_base : TypeTree → Bool
is_base t = not (has_direct t || is_pointed t)

abbrev plainly : Said → Bool
plainly (Whole t) = is_base t
plainly _ = true

worded_plainly : (place : Place) (o : Option TypeWords) (r : Said) → worded place o ≡ Some r → plainly r ≡ true
worded_plainly place None r e = absurd (cc e)
worded_plainly place (Some v) r e = let same : Words v place ≡ r = cc e in ap plainly (sym same)

word_plainly : (k : Keyword) (place : Place) (said r : Said) → said_after k place said ≡ Some r → plainly r ≡ true
word_plainly k place Nothing r e = worded_plainly place (put k no_words) r e
word_plainly k place (Words v at) r e = worded_plainly at (put k v) r e
word_plainly k place (Whole t) r e = absurd (cc e)

one_plainly : (texts : List (List ℕ)) (at : Seat) (s : Specified) (ts : List Token) (r : Specified) → IsSpecifier texts at s ts r → plainly s.said ≡ true → plainly r.said ≡ true
one_plainly texts _ _ _ _ (is_word at s t k said h e) p = word_plainly k t.place s.said said e
one_plainly texts _ _ _ _ (is_constant at s t h) p = p
one_plainly texts _ _ _ _ (is_restricted at s t h) p = p
one_plainly texts _ _ _ _ (is_inline at s t h e) p = p
one_plainly texts _ _ _ _ (is_stored at s t k storage h e) p = p
one_plainly texts _ _ _ _ (is_defined at s t h e) p = refl
one_plainly texts _ _ _ _ (names_structure at s ts n place e is) p = refl
one_plainly texts _ _ _ _ (names_enumeration at s ts n place e is) p = refl
one_plainly texts _ _ _ _ (defines_structure at s xs ys o c tag place ds e is opens closes are) p = refl
one_plainly texts _ _ _ _ (defines_enumeration at s xs ys o c tag place is now comma e tagged opens closes are) p = refl

all_plainly : (texts : List (List ℕ)) (at : Seat) (s : Specified) (ts : List Token) (r : Specified) → AreSpecifiers texts at s ts r → plainly s.said ≡ true → plainly r.said ≡ true
all_plainly texts _ _ _ _ (no_specifiers at s) p = p
all_plainly texts _ _ _ _ (more_specifiers at s r q xs ys is are) p = all_plainly texts at r ys q are (one_plainly texts at s xs r is p)

base_by : (constant : Bool) (said : Said) (t : TypeTree) → plainly said ≡ true → qualified_if constant (type_said said) ≡ Some t → is_base t ≡ true
base_by constant Nothing t p e = absurd (cc e)
base_by true (Words v place) t p e = let same : tree.Const (tree.Base (number_of_words v) place) ≡ t = cc e in ap is_base (sym same)
base_by false (Words v place) t p e = let same : tree.Base (number_of_words v) place ≡ t = cc e in ap is_base (sym same)
base_by true (Whole u) t p e = let same : tree.Const u ≡ t = cc e in ap is_base (sym same) ∙ p
base_by false (Whole u) t p e = let same : u ≡ t = cc e in ap is_base (sym same) ∙ p

-- a type of no pieces
pub specified_base : (texts : List (List ℕ)) (at : Seat) (types : List Name) (ts : List Token) (s : Specified) (t : TypeTree) → AreSpecifiers texts at (unspecified types) ts s → base_of s ≡ Some t → is_base t ≡ true
specified_base texts at types ts s t are named = base_by s.constant s.said t (all_plainly texts at (unspecified types) ts s are refl) named

not_either : (b c : Bool) → not (b || c) ≡ true → (b ≡ false) × (c ≡ false)
not_either true c h = absurd (cc h)
not_either false true h = absurd (cc h)
not_either false false h = (refl, refl)

-- ---- pieces that are pointers alone begin with one

pointers_first : (texts : List (List ℕ)) (types : List Name) (functions may_lack : Bool) (ts : List Token) (d : Declarator) → IsDeclarator texts types functions may_lack ts d → is_empty (behind_pointers d.pieces) ≡ true
    → has_pointer d.pieces ≡ not (is_empty d.pieces)
pointers_first texts _ _ _ _ _ (is_direct _ _ _ _ _ (is_name types functions may_lack t n h)) e = refl
pointers_first texts _ _ _ _ _ (is_direct _ _ _ _ _ (is_nameless types functions may_lack h)) e = refl
pointers_first texts _ _ _ _ _ (is_direct _ _ _ _ _ (is_in_parentheses types functions may_lack o c xs d opens closes is begins)) e = absurd (cc e)
pointers_first texts _ _ _ _ _ (is_direct _ _ _ _ _ (is_array types functions may_lack o c xs ys size d opens closes no_function is fits)) e = absurd (cc e)
pointers_first texts _ _ _ _ _ (is_direct _ _ _ _ _ (is_outermost types functions may_lack o c xs ys zs size d fixed opens closes lacks bare is words fits some)) e = absurd (cc e)
pointers_first texts _ _ _ _ _ (is_direct _ _ _ _ _ (is_function_of types functions may_lack o c xs ys d ps opens closes may bare is are)) e = absurd (cc e)
pointers_first texts _ _ _ _ _ (is_pointer types functions may_lack t c xs ys d star quals is) e = refl

-- ---- a name stands where it may not be left out

mutual
  nameless_lacks : (texts : List (List ℕ)) (types : List Name) (functions may_lack : Bool) (ts : List Token) (d : Declarator) → IsDeclarator texts types functions may_lack ts d → d.name ≡ None → may_lack ≡ true
  nameless_lacks texts _ _ _ _ _ (is_direct types functions may_lack ts d is) h = direct_lacks texts types functions may_lack ts d is h
  nameless_lacks texts _ _ _ _ _ (is_pointer types functions may_lack t c xs ys d star quals is) h = nameless_lacks texts types functions may_lack ys d is h

  direct_lacks : (texts : List (List ℕ)) (types : List Name) (functions may_lack : Bool) (ts : List Token) (d : Declarator) → IsDirect texts types functions may_lack ts d → d.name ≡ None → may_lack ≡ true
  direct_lacks texts _ _ _ _ _ (is_name types functions may_lack t n k) h = absurd (cc h)
  direct_lacks texts _ _ _ _ _ (is_nameless types functions may_lack k) h = k
  direct_lacks texts _ _ _ _ _ (is_in_parentheses types functions may_lack o c xs d opens closes is begins) h = nameless_lacks texts types functions may_lack xs d is h
  direct_lacks texts _ _ _ _ _ (is_array types functions may_lack o c xs ys size d opens closes no_function is fits) h = direct_lacks texts types functions may_lack xs d is h
  direct_lacks texts _ _ _ _ _ (is_outermost types functions may_lack o c xs ys zs size d fixed opens closes lacks bare is words fits some) h = direct_lacks texts types functions may_lack xs d is h
  direct_lacks texts _ _ _ _ _ (is_function_of types functions may_lack o c xs ys d ps opens closes may bare is are) h = direct_lacks texts types functions may_lack xs d is h

pub has_its_name : (texts : List (List ℕ)) (types : List Name) (functions : Bool) (ts : List Token) (d : Declarator) → IsDeclarator texts types functions false ts d → (n : Name × Place) × (d.name ≡ Some n)
has_its_name texts types functions ts d is = by_name d.name refl
  where
    by_name : (o : Option (Name × Place)) → d.name ≡ o → (n : Name × Place) × (d.name ≡ Some n)
    by_name (Some n) h = (n, h)
    by_name None h = absurd (let both : false ≡ true = nameless_lacks texts types functions false ts d is h in cc both)

-- ---- what begins a declarator goes on from no specifiers

pub declarator_no_word : (w : Lexicon) (t : TypeTree) (u : Token) → begins_any w u ≡ true → more_specified w t u ≡ false
declarator_no_word w t u h =
    ap (λ b. (b || option_is_storage) || (names_tag t && is_open_brace w u)) (unworded w is_type_keyword u h) ∙ ap (λ b. b || (names_tag t && is_open_brace w u)) (unworded w is_storage_keyword u h)
    ∙ and_off (names_tag t) (is_open_brace w u) (no_brace (is_open_brace w u) refl)
  where
    option_is_storage : Bool
    option_is_storage = reader.is_storage_word w u

    and_off : (b c : Bool) → c ≡ false → (b && c) ≡ false
    and_off true c k = k
    and_off false c k = refl

    no_brace : (b : Bool) → is_open_brace w u ≡ b → is_open_brace w u ≡ false
    no_brace false k = k
    no_brace true k =
        let off : (n : _) → sign.is_same_mark n mark.OpenBrace ≡ false → is_mark w n u ≡ false = λ n apart. mark_alone w mark.OpenBrace n u (mark_is w mark.OpenBrace u k) apart in
        let none : begins_any w u ≡ false =
        ap (λ b. (b || (is_mark w mark.OpenParenthesis u || is_mark w mark.OpenBracket u)) || reader.is_name w u) (off mark.Star refl)
        ∙ ap (λ b. (b || is_mark w mark.OpenBracket u) || reader.is_name w u) (off mark.OpenParenthesis refl) ∙ ap (λ b. b || reader.is_name w u) (off mark.OpenBracket refl) ∙ mark_is_no_name w mark.OpenBrace u k in
        absurd (let both : true ≡ false = sym h ∙ none in cc both)

-- ---- a declarator on a type

abbrev pub more_typed : Lexicon → Option (Name × Place) → TypeTree → Token → Bool
more_typed w (Some n) t u = is_suffix w u
more_typed w None t u = more_nameless w t u

abbrev pub more_on : Lexicon → TypeTree → Declarator → Token → Bool
more_on w t d u = more_typed w d.name (typed t d.pieces) u

module _ (texts : List (List ℕ)) (types : List Name) (functions may_lack : Bool) where
  abbrev w : Lexicon
  w = reading texts types

  -- by how many pieces there are, where there is no name
  nameless_on : (t : TypeTree) (ts : List Token) (d : Declarator) (u : Token) → is_base t ≡ true → IsDeclarator texts types functions may_lack ts d → (ps : List Piece) → d.pieces ≡ ps
      → more_nameless w (typed t d.pieces) u ≡ (if is_empty (behind_pointers ps) then ((begins_abstract w u || reader.is_name w u) || (if not (is_empty ps) then is_qualifier w u else more_specified w t u)) else is_suffix w u)
  nameless_on t ts d u plain is ps h = by_behind (is_empty (behind_pointers ps)) refl
    where
      direct : has_direct (typed t ps) ≡ not (is_empty (behind_pointers ps))
      direct = typed_direct ps t ∙ ap (λ b. b || not (is_empty (behind_pointers ps))) (not_either (has_direct t) (is_pointed t) plain).0

      moved : more_nameless w (typed t d.pieces) u ≡ more_nameless w (typed t ps) u
      moved = ap (λ qs. more_nameless w (typed t qs) u) h

      pointed : is_empty (behind_pointers ps) ≡ true → is_pointed (typed t ps) ≡ not (is_empty ps)
      pointed e =
          typed_pointed ps t e ∙ ap (λ b. b || has_pointer ps) (not_either (has_direct t) (is_pointed t) plain).1
          ∙ sym (ap has_pointer h) ∙ pointers_first texts types functions may_lack ts d is (ap (λ qs. is_empty (behind_pointers qs)) h ∙ e) ∙ ap (λ qs. not (is_empty qs)) h

      last : (qs : List Piece) → ps ≡ qs → (if not (is_empty qs) then is_qualifier w u else more_specified w (typed t qs) u) ≡ (if not (is_empty qs) then is_qualifier w u else more_specified w t u)
      last [] k = refl
      last (q ∷ qs) k = refl

      by_behind : (b : Bool) → is_empty (behind_pointers ps) ≡ b
          → more_nameless w (typed t d.pieces) u ≡ (if is_empty (behind_pointers ps) then ((begins_abstract w u || reader.is_name w u) || (if not (is_empty ps) then is_qualifier w u else more_specified w t u)) else is_suffix w u)
      by_behind true e =
          moved ∙ ap (λ b. if b then is_suffix w u else ((begins_abstract w u || reader.is_name w u) || (if is_pointed (typed t ps) then is_qualifier w u else more_specified w (typed t ps) u))) (direct ∙ ap not e)
          ∙ ap (λ b. (begins_abstract w u || reader.is_name w u) || (if b then is_qualifier w u else more_specified w (typed t ps) u)) (pointed e)
          ∙ ap (λ b. (begins_abstract w u || reader.is_name w u) || b) (last ps refl)
          ∙ sym (ap (λ b. if b then ((begins_abstract w u || reader.is_name w u) || (if not (is_empty ps) then is_qualifier w u else more_specified w t u)) else is_suffix w u) e)
      by_behind false e =
          moved ∙ ap (λ b. if b then is_suffix w u else ((begins_abstract w u || reader.is_name w u) || (if is_pointed (typed t ps) then is_qualifier w u else more_specified w (typed t ps) u))) (direct ∙ ap not e)
          ∙ sym (ap (λ b. if b then ((begins_abstract w u || reader.is_name w u) || (if not (is_empty ps) then is_qualifier w u else more_specified w t u)) else is_suffix w u) e)

  fewer_on : (t : TypeTree) (ts : List Token) (d : Declarator) (u : Token) → is_base t ≡ true → IsDeclarator texts types functions may_lack ts d → more_on w t d u ≡ false → more_declarator w d u ≡ false
  fewer_on t ts d u plain is h = by_name d.name h
    where
      by_rest : (b : Bool) (c q m : Bool) → (if b then (c || (if not (is_empty d.pieces) then q else m)) else is_suffix w u) ≡ false → (if b then (c || (not (is_empty d.pieces) && q)) else is_suffix w u) ≡ false
      by_rest false c q m k = k
      by_rest true c q m k = by_pieces (is_empty d.pieces) (first_fails c (if not (is_empty d.pieces) then q else m) k) (second_fails c (if not (is_empty d.pieces) then q else m) k)
        where
          by_pieces : (e : Bool) → c ≡ false → (if not e then q else m) ≡ false → (c || (not e && q)) ≡ false
          by_pieces true f g = ap (λ b. b || false) f
          by_pieces false f g = ap (λ b. b || q) f ∙ g

      by_name : (n : Option (Name × Place)) → more_typed w n (typed t d.pieces) u ≡ false → more_pieces w n d.pieces u ≡ false
      by_name (Some n) k = k
      by_name None k =
          by_rest (is_empty (behind_pointers d.pieces)) (begins_abstract w u || reader.is_name w u) (is_qualifier w u) (more_specified w t u) (sym (nameless_on t ts d u plain is d.pieces refl) ∙ k)

  enough_on : (t : TypeTree) (ts : List Token) (d : Declarator) (later : List Token) → is_base t ≡ true → IsDeclarator texts types functions may_lack ts d → at_next (more_specified w t) (ts ++ later) ≡ false
      → at_next (more_declarator w d) later ≡ false → at_next (more_on w t d) later ≡ false
  enough_on t ts d [] plain is off h = refl
  enough_on t ts d (u ∷ later) plain is off h = by_name d.name refl h
    where
      bare : (ps : List Piece) → d.name ≡ None → d.pieces ≡ ps → more_pieces w None ps u ≡ false
          → (if is_empty (behind_pointers ps) then ((begins_abstract w u || reader.is_name w u) || (if not (is_empty ps) then is_qualifier w u else more_specified w t u)) else is_suffix w u) ≡ false
      bare (p ∷ ps) none e k = k
      bare [] none e k =
          let no_token : ts ≡ [] = no_declarator texts types functions may_lack ts d is (ap (λ n. is_nothing_by n d.pieces) none ∙ ap is_empty e) in
          let no_word : more_specified w t u ≡ false = sym (ap (λ l. at_next (more_specified w t) (l ++ (u ∷ later))) no_token) ∙ off in
          ap (λ b. b || more_specified w t u) (first_fails (begins_abstract w u || reader.is_name w u) false k) ∙ no_word

      by_name : (n : Option (Name × Place)) → d.name ≡ n → more_pieces w n d.pieces u ≡ false → more_typed w n (typed t d.pieces) u ≡ false
      by_name (Some n) none k = k
      by_name None none k = nameless_on t ts d u plain is d.pieces refl ∙ bare d.pieces none refl k

  -- no text of a declarator goes on from the specifiers
  pub on_apart : (t : TypeTree) (ts : List Token) (d : Declarator) (later : List Token) → is_base t ≡ true → IsDeclarator texts types functions may_lack ts d → at_next (more_on w t d) later ≡ false → at_next (more_specified w t) (ts ++ later) ≡ false
  on_apart t ts d later plain is h = by_nothing (is_nothing d) refl
    where
      nothing_is : (n : Option (Name × Place)) (ps : List Piece) → is_nothing_by n ps ≡ true → (n ≡ None) × (ps ≡ [])
      nothing_is None [] e = (refl, refl)
      nothing_is None (p ∷ ps) e = absurd (cc e)
      nothing_is (Some n) ps e = absurd (cc e)

      next_off : (later : List Token) → d.name ≡ None → d.pieces ≡ [] → at_next (more_on w t d) later ≡ false → at_next (more_specified w t) later ≡ false
      next_off [] n p k = refl
      next_off (u ∷ later) n p k =
          second_fails (begins_abstract w u || reader.is_name w u) (more_specified w t u) (sym (ap (λ m. more_typed w m (typed t d.pieces) u) n ∙ nameless_on t ts d u plain is [] p) ∙ k)

      by_nothing : (b : Bool) → is_nothing d ≡ b → at_next (more_specified w t) (ts ++ later) ≡ false
      by_nothing true e =
          let it = nothing_is d.name d.pieces e in
          ap (λ l. at_next (more_specified w t) (l ++ later)) (no_declarator texts types functions may_lack ts d is e) ∙ next_off later it.0 it.1 h
      by_nothing false e = head_fails w (begins_any w) (more_specified w t) (declarator_no_word w t) (ts ++ later) (head_of_append (begins_any w) ts later (some_begins texts types functions may_lack ts d is e))

  module _ (not_both : (functions && may_lack) ≡ false) (below : ℕ) (part : ℕ → Parts) (P : functions ≡ true → ParametersLaws texts below part) where
    -- a declarator on a type that has room for it
    pub on_law : (t : TypeTree) → is_base t ≡ true → depth_of_type t ≤ below
        → Follows (more_specified w t) (FitsDeclarator texts types functions may_lack below (below - depth_of_type t)) (more_on w t) (declarators w functions may_lack below part (below - depth_of_type t) 0)
    on_law t plain deep =
        let flat : 1 ≤ depth_of_type t = some_type_depth t in
        following_where (declarators_law texts types functions may_lack not_both below part P (below - depth_of_type t) (omega arith)) (more_specified w t) (more_on w t)
        (λ ts d f u h. fewer_on t ts d u plain f.is h) (λ ts d later f off h. enough_on t ts d later plain f.is off h)

-- ---- depths

pub typed_fits : (below : ℕ) (t : TypeTree) (ps : List Piece) → depth_of_type t ≤ below → length ps ≤ below - depth_of_type t → InnerFits (below - 1) ps → depth_of_type (typed t ps) ≤ below
typed_fits below t ps deep count sizes =
    let flat : 1 ≤ depth_of_type t = some_type_depth t in
    let all : suc (below - 1) ≡ below = omega arith in
    let over : depth_over (depth_of_type t) ps ≤ suc (below - 1) = over_fits (below - 1) (depth_of_type t) ps (omega arith) sizes in
    let whole : depth_of_type (typed t ps) ≡ depth_over (depth_of_type t) ps = typed_depth t ps in
    omega arith

pub fits_typed : (below : ℕ) (t : TypeTree) (ps : List Piece) → depth_of_type (typed t ps) ≤ below → (depth_of_type t ≤ below) × (length ps ≤ below - depth_of_type t) × InnerFits (below - 1) ps
fits_typed below t ps deep =
    let flat : 1 ≤ depth_of_type (typed t ps) = some_type_depth (typed t ps) in
    let all : suc (below - 1) ≡ below = omega arith in
    let whole : depth_of_type (typed t ps) ≡ depth_over (depth_of_type t) ps = typed_depth t ps in
    let over : depth_over (depth_of_type t) ps ≤ suc (below - 1) = omega arith in
    let count : depth_of_type t + length ps ≤ suc (below - 1) = over_count (below - 1) (depth_of_type t) ps over in
    (omega arith, omega arith, over_inner (below - 1) (depth_of_type t) ps over)
