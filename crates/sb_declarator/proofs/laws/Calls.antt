-- The reader of a declared function's parameters, with the parenthesis behind them, keeps the laws, if that of parameters does.
use Rattle.std.proofs.Common.{◌≡◌, ◌≤◌, ◌<◌, ◌-◌, ℕ, suc, max, Bool, true, false, ◌||◌, ◌&&◌, not, List, [], ◌∷◌, ◌++◌, length, nat_lt, Some, None, if◌then◌else◌, refl, sym, ap, ◌∙◌, subst, append-nil, inl, inr, arith}
use Rattle.std.proofs.lemmas.Bool.{ltb-false, ltb-true}
use Rattle.std.proofs.Math.Nat.{le-max_left, le-max_right}
use Rattle.std.specs.Option.{option_map_or}
use Rattle.sb_base.specs.declared.interning.Name.{Name}
use Rattle.sb_base.specs.declared.refusals.Place.{Place}
use Rattle.sb_base.specs.declared.tokens.PpKind.TheVariants as pp_kind
use Rattle.sb_base.specs.declared.tokens.Token.{Token}
use Rattle.sb_parse.specs.Parser.{Outcome, Parser, done, stop, at_next, never, and_then, ◌>>=◌, pure, token, choose, refuse}
use Rattle.sb_parse.specs.Lawful.{Lawful, OnHead, IsToken, Opened, Closed, Mapped, Unbarred, Either}
use Rattle.sb_parse.proofs.Joining.{via, one_token, map_of}
use Rattle.sb_parse.proofs.Heads.{opened, opened_heads, at_head, guarded, head_of_append, head_via}
use Rattle.sb_sign.specs.declared.sign.Keyword.{Keyword}
use Rattle.sb_sign.specs.declared.sign.Keyword.TheVariants as keyword
use Rattle.sb_sign.specs.declared.sign.Mark.{Mark}
use Rattle.sb_sign.specs.declared.sign.Mark.TheVariants as mark
use Rattle.sb_tree.specs.Plain.{decl_list, note_list}
use Rattle.sb_sign.specs.Signs as sign
use Rattle.sb_tree.specs.Trees as tree
use Rattle.sb_tree.specs.Trees.{DeclTree, TypeTree, NoteTree, depth_of_decl, depth_of_decls, depth_of_notes, depth_of_type}
use Rattle.sb_parse.specs.Descent.{at_second, choose_second}
use Rattle.sb_lexicon.specs.Lexicon.{Lexicon, is_mark, is_keyword, is_type_keyword, is_type_name}
use Rattle.sb_operand.specs.Pieces.{typed}
use Rattle.sb_lexicon.specs.Tokens as expr
use Rattle.sb_operand.specs.Readers.{begins_abstract}
use Rattle.sb_lexicon.specs.Tokens.{unexpected, too_deep, is_open, is_close, is_open_bracket, is_open_brace, is_qualifier}
use Rattle.sb_expr.proofs.tokens.Bracketed.{mark_unqualified}
use Rattle.sb_lexicon.proofs.Depths.{some_type_depth}
use Rattle.sb_lexicon.proofs.Lexemes.{keyword_is, mark_is, mark_alone, mark_no_keyword, close_token, close_token_is, int_token, int_token_is, name_token, name_token_is}
use Rattle.sb_parse.proofs.Seconds.{behind, Behind, behind_law, second_of}
use Rattle.sb_parse.proofs.Ways.{and_fails, closing, Refuses, one_refuses, both_refuse, only_else}
use Rattle.sb_lexicon.specs.declared.words.Kind.{Kind}
use Rattle.sb_lexicon.specs.declared.words.Kind.TheVariants as kind
use Rattle.sb_lexicon.specs.Words.{Said, Nothing, Words, no_words, said_after, type_said, qualified_if}
use Rattle.sb_sal.specs.Notes.{no_notes}
use Rattle.sb_sal.specs.Spellings.{begins_note}
use Rattle.sb_specifier.specs.declared.seat.Seat.TheVariants as seat
use Rattle.sb_specifier.specs.Specified.{reading, unspecified, saying, names_tag}
use Rattle.sb_specifier.specs.Declaration.{simple_decl, first_place, nowhere, hidden_by, IsDeclarator, is_direct, is_name, is_nameless, is_word, no_specifiers, more_specifiers, IsParameter, is_parameter, AreSome, first_parameter, parameter_behind, parameter_beyond, AreParameters, no_parameters, some_parameters}
use Rattle.sb_specifier.specs.Readers as reader
use Rattle.sb_declarator.specs.Readers as declarator
use Rattle.sb_specifier.specs.Readers.{Declarator, Declarations, Parts, begins_declaration, is_specifier_word, old_definition}
use Rattle.sb_declarator.specs.Readers.{only_void, void_parameters, parameters, function_with, called}
use Rattle.sb_specifier.proofs.laws.More.{is_suffix, has_direct, is_pointed, more_specified, more_parameter, more_last, more_parameters, FitsParameters, ParametersLaws}
use Rattle.sb_specifier.proofs.laws.Barring.{barred_refuses, barred_then}
use Rattle.sb_derivation.proofs.laws.Beginnings.{mark_is_no_name, name_is_no_mark}
use Rattle.sb_parse.proofs.Choices.{refused_first, Elsewhere, hiding}
use Rattle.sb_derivation.proofs.laws.Heads.{parameters_begin, declaration_no_mark, declaration_no_name}

-- ---- depths

pub last_depth : (ds : List DeclTree) (d : DeclTree) → depth_of_decl d ≤ depth_of_decls (decl_list (ds ++ (d ∷ [])))
last_depth [] d = le-max_left (depth_of_decl d) 0
last_depth (e ∷ ds) d =
    let later : depth_of_decl d ≤ depth_of_decls (decl_list (ds ++ (d ∷ []))) = last_depth ds d in
    let all : depth_of_decls (decl_list (ds ++ (d ∷ []))) ≤ max (depth_of_decl e) (depth_of_decls (decl_list (ds ++ (d ∷ [])))) = le-max_right (depth_of_decl e) (depth_of_decls (decl_list (ds ++ (d ∷ [])))) in
    omega arith

-- a declaration is deeper than its type
pub simple_depth : (place : Place) (ns : List NoteTree) (base : TypeTree) (d : Declarator) → suc (depth_of_type (typed base d.pieces)) ≤ depth_of_decl (simple_decl place ns base d)
simple_depth place ns base d =
    let first : depth_of_type (typed base d.pieces) ≤ max (depth_of_type (typed base d.pieces)) 0 = le-max_left (depth_of_type (typed base d.pieces)) 0 in
    let all : max (depth_of_type (typed base d.pieces)) 0 ≤ max (depth_of_notes (note_list ns)) (max (depth_of_type (typed base d.pieces)) 0) = le-max_right (depth_of_notes (note_list ns)) (max (depth_of_type (typed base d.pieces)) 0) in
    let both : depth_of_decl (simple_decl place ns base d) ≡ suc (max (depth_of_notes (note_list ns)) (max (depth_of_type (typed base d.pieces)) 0)) = refl in
    omega arith

parameter_depth : (texts : List (List ℕ)) (types now : List Name) (ts : List Token) (d : DeclTree) → IsParameter texts types ts d now → 2 ≤ depth_of_decl d
parameter_depth texts _ _ _ _ (is_parameter types xs ys zs ns s base d noted are named is) =
    let flat : 1 ≤ depth_of_type (typed base d.pieces) = some_type_depth (typed base d.pieces) in
    let more : suc (depth_of_type (typed base d.pieces)) ≤ depth_of_decl (simple_decl (first_place nowhere (xs ++ ys)) ns base d) = simple_depth (first_place nowhere (xs ++ ys)) ns base d in
    omega arith

some_depth : (texts : List (List ℕ)) (types : List Name) (ts : List Token) (ds : Declarations) → AreSome texts types ts ds → 2 ≤ depth_of_decls (decl_list ds.list)
some_depth texts _ _ _ (first_parameter types now ts d is) = let deep : 2 ≤ depth_of_decl d = parameter_depth texts types now ts d is in let last : depth_of_decl d ≤ depth_of_decls (decl_list (d ∷ [])) = last_depth [] d in omega arith
some_depth texts _ _ _ (parameter_behind types now xs ys c ds d comma are few is) =
    let deep : 2 ≤ depth_of_decl d = parameter_depth texts ds.types now ys d is in
    let last : depth_of_decl d ≤ depth_of_decls (decl_list (ds.list ++ (d ∷ []))) = last_depth ds.list d in
    omega arith
some_depth texts _ _ _ (parameter_beyond types now xs ys c m ds d comma are full room is) =
    let deep : 2 ≤ depth_of_decl d = parameter_depth texts ds.types now ys d is in
    let last : depth_of_decl d ≤ depth_of_decls (decl_list (ds.list ++ (d ∷ []))) = last_depth ds.list d in
    omega arith

-- ---- parameters do not go on with a closing parenthesis,

module _ (texts : List (List ℕ)) where
  abbrev plain : Lexicon
  plain = reading texts []

  -- nor with any mark but these
  pub last_ends : (m : Mark) → sign.is_same_mark mark.Star m ≡ false → sign.is_same_mark mark.OpenParenthesis m ≡ false → sign.is_same_mark mark.OpenBracket m ≡ false → sign.is_same_mark mark.OpenBrace m ≡ false
      → (ds : List DeclTree) (t : Token) → is_mark plain m t ≡ true → more_last plain ds t ≡ false
  last_ends m no_star no_open no_bracket no_brace ds t h = by_list ds
    where
      off : (n : Mark) → sign.is_same_mark n m ≡ false → is_mark plain n t ≡ false
      off n apart = mark_alone plain m n t (mark_is plain m t h) apart

      no_suffix : is_suffix plain t ≡ false
      no_suffix = ap (λ b. b || is_open plain t) (off mark.OpenBracket no_bracket) ∙ off mark.OpenParenthesis no_open

      none_begins : begins_abstract plain t ≡ false
      none_begins = ap (λ b. b || (is_open plain t || is_open_bracket plain t)) (off mark.Star no_star) ∙ ap (λ b. b || is_open_bracket plain t) (off mark.OpenParenthesis no_open) ∙ off mark.OpenBracket no_bracket

      no_word : is_specifier_word plain t ≡ false
      no_word = ap (λ o. option_map_or is_type_keyword o false || option_map_or reader.is_storage_keyword o false) (mark_no_keyword plain m t (mark_is plain m t h))

      by_pointed : (b : Bool) (base : TypeTree) → (if b then is_qualifier plain t else more_specified plain base t) ≡ false
      by_pointed true base = mark_unqualified plain m t h
      by_pointed false base = ap (λ b. b || (names_tag base && is_open_brace plain t)) no_word ∙ and_fails (names_tag base) (is_open_brace plain t) (off mark.OpenBrace no_brace)

      by_direct : (b : Bool) (base : TypeTree) → (if b then is_suffix plain t else ((begins_abstract plain t || reader.is_name plain t) || (if is_pointed base then is_qualifier plain t else more_specified plain base t))) ≡ false
      by_direct true base = no_suffix
      by_direct false base =
          ap (λ b. (b || reader.is_name plain t) || (if is_pointed base then is_qualifier plain t else more_specified plain base t)) none_begins
          ∙ ap (λ b. b || (if is_pointed base then is_qualifier plain t else more_specified plain base t)) (mark_is_no_name plain m t h) ∙ by_pointed (is_pointed base) base

      by_name : (d : DeclTree) → more_parameter plain d t ≡ false
      by_name (tree.Decl notes storage base (Some n) place init body) = no_suffix
      by_name (tree.Decl notes storage base None place init body) = by_direct (has_direct base) base

      by_list : (ds : List DeclTree) → more_last plain ds t ≡ false
      by_list [] = refl
      by_list (d ∷ []) = by_name d
      by_list (d ∷ (e ∷ ds)) = by_list (e ∷ ds)

  pub parameters_end : (ds : Declarations) (t : Token) → is_close plain t ≡ true → more_parameters texts ds t ≡ false
  parameters_end ds t h =
      ap (λ b. b || more_last plain ds.list t) (mark_alone plain mark.CloseParenthesis mark.Comma t (mark_is plain mark.CloseParenthesis t h) refl) ∙ last_ends mark.CloseParenthesis refl refl refl refl ds.list t h

-- ---- a token that there is in any case

abbrev void_token : Token
void_token = record { kind = pp_kind.Word; text = record { 0 = 4294967327 }; place = nowhere; value = 0 }

void_is : (w : Lexicon) → is_keyword w keyword.Void void_token ≡ true
void_is w = refl

-- ---- the parameters of a function under n pieces

module _ (texts : List (List ℕ)) (types : List Name) (functions may_lack : Bool) (below : ℕ) (part : ℕ → Parts) (room : ℕ) (rest : ℕ → Parser Token Declarator) where
  abbrev w : Lexicon
  w = reading texts types

  abbrev is_void : Token → Bool
  is_void = is_keyword w keyword.Void

  abbrev none_read : Declarations
  none_read = record { list = []; types = types }

  abbrev closed_as : (Declarations → Declarator) → Declarations → Parser Token Declarator
  closed_as f ps = token unexpected (is_close w) >>= (λ c. pure (f ps))

  abbrev FitsAll : ℕ → List Token → Declarations → Type 0
  FitsAll n ts ps = AreParameters texts types ts ps × (depth_of_decls (decl_list ps.list) ≤ below - suc n)

  abbrev pub CallText : ℕ → (Declarations → Declarator) → List Token → Declarator → Type 0
  CallText n f = Mapped f (Closed (is_close w) (FitsAll n))

  -- a closing parenthesis alone
  abbrev CloseText : (Declarations → Declarator) → List Token → Declarator → Type 0
  CloseText f = Mapped (λ c. f none_read) (IsToken (is_close w))

  close_head : (f : Declarations → Declarator) → OnHead (is_close w) (CloseText f) (λ _. never) (closed_as f none_read)
  close_head f = at_head (is_close w) (λ t h. map_of (one_token unexpected (is_close w) t h) (λ c. f none_read) (λ _. never) (λ a t. refl)) (λ ts a m. ap (at_next (is_close w)) m.is.alone ∙ m.is.passes)

  -- ---- what does not begin parameters

  abbrev old_name : Token → Bool
  old_name t = is_close w t || (reader.is_name w t && not (is_type_name w t || begins_note w t))

  begins_no_name : (ts : List Token) → at_next (begins_declaration w) ts ≡ true → at_next old_name ts ≡ false
  begins_no_name [] h = refl
  begins_no_name (t ∷ ts) h =
      ap (λ b. b || (reader.is_name w t && not (is_type_name w t || begins_note w t))) (declaration_no_mark texts types mark.CloseParenthesis t h) ∙ declaration_no_name texts types t h

  void_begins : (t : Token) → is_void t ≡ true → begins_declaration w t ≡ true
  void_begins t h =
      ap (λ o. (option_map_or is_type_keyword o false || option_map_or reader.is_storage_keyword o false) || (is_type_name w t || begins_note w t)) (keyword_is w keyword.Void t h)

  -- ---- `void` alone, where there is no room

  abbrev VoidText : (Declarations → Declarator) → List Token → Declarator → Type 0
  VoidText f = Opened is_void (λ v. CloseText f)

  abbrev goes_on : Token → Bool
  goes_on = reader.goes_on_void w

  abbrev elsewhere : {A : Type 0} → Parser Token A
  elsewhere = choose (is_keyword w keyword.Volatile) (refuse expr.volatile) (choose goes_on (refuse too_deep) (refuse unexpected))

  abbrev unbegun : {A : Type 0} → Parser Token A
  unbegun = reader.barred w seat.Prototype

  elsewhere_refuses : (ts : List Token) → Refuses {A = Declarator} elsewhere ts
  elsewhere_refuses ts =
      both_refuse (is_keyword w keyword.Volatile) (refuse expr.volatile) (choose goes_on (refuse too_deep) (refuse unexpected)) ts (one_refuses expr.volatile ts)
      (both_refuse goes_on (refuse too_deep) (refuse unexpected) ts (one_refuses too_deep ts) (one_refuses unexpected ts))

  unbegun_refuses : (ts : List Token) → Refuses {A = Declarator} unbegun ts
  unbegun_refuses ts = barred_refuses w seat.Prototype ts

  close_example : (f : Declarations → Declarator) → CloseText f (close_token ∷ []) (f none_read)
  close_example f = record { value = close_token; is = record { alone = refl; passes = close_token_is w }; same = refl }

  behind_void : (f : Declarations → Declarator) → Lawful (CloseText f) (λ _. never) (choose (is_close w) (closed_as f none_read) elsewhere)
  behind_void f = only_else elsewhere (close_head f) elsewhere_refuses (close_token ∷ []) (f none_read) (close_example f)

  void_head : (f : Declarations → Declarator) → OnHead is_void (VoidText f) (λ _. never) (token unexpected is_void >>= (λ t. choose (is_close w) (closed_as f none_read) elsewhere))
  void_head f = at_head is_void (λ t h. opened {Is = λ o. CloseText f} unexpected is_void t h (λ o passes. behind_void f)) opened_heads

  -- ---- with room

  abbrev FitsSome : ℕ → List Token → Declarations → Type 0
  FitsSome n = FitsParameters texts (below - suc n) types

  abbrev SomeText : ℕ → (Declarations → Declarator) → List Token → Declarator → Type 0
  SomeText n f = Mapped f (Closed (is_close w) (FitsSome n))

  some_law : ParametersLaws texts below part → (n : ℕ) → 2 ≤ below - suc n → (f : Declarations → Declarator) → Lawful (SomeText n f) (λ _. never) ((part (suc n)).parameters types >>= closed_as f)
  some_law P n le f = closing unexpected (is_close w) close_token (close_token_is w) (P (suc n) le types) (parameters_end texts) f

  some_text_begins : (n : ℕ) (f : Declarations → Declarator) (ts : List Token) (d : Declarator) → SomeText n f ts d → at_next (begins_declaration w) ts ≡ true
  some_text_begins n f ts d m = ap (at_next (begins_declaration w)) m.is.split ∙ head_of_append (begins_declaration w) m.is.front (m.is.closing ∷ []) (parameters_begin texts types m.is.front m.value m.is.is.0)

  some_filled : (n : ℕ) (f : Declarations → Declarator) (d : Declarator) → SomeText n f [] d → ⊥
  some_filled n f d m = let both : false ≡ true = some_text_begins n f [] d m in cc both

  -- a parameter whose type is one word
  one_word : (k : Keyword) (o : Token) (said : Said) (base : TypeTree) → sign.keyword_of texts o ≡ Some k → said_after k o.place Nothing ≡ Some said → type_said said ≡ Some base
      → (zs : List Token) (d : Declarator) → IsDeclarator texts types false true zs d → AreSome texts types (o ∷ zs) (record { list = simple_decl o.place [] base d ∷ []; types = hidden_by d.name types })
  one_word k o said base h e named zs d is =
      first_parameter types (hidden_by d.name types) (o ∷ zs) (simple_decl o.place [] base d)
      (is_parameter types [] (o ∷ []) zs [] (saying said (unspecified types)) base d no_notes
      (more_specifiers seat.Prototype (unspecified types) (saying said (unspecified types)) (saying said (unspecified types)) (o ∷ []) [] (is_word seat.Prototype (unspecified types) o k said h e)
      (no_specifiers seat.Prototype (saying said (unspecified types)))) (ap (qualified_if false) named) is)

  abbrev words_of : Kind → Place → Said
  words_of k place = Words (record { sign = no_words.sign; length = no_words.length; kind = k }) place

  abbrev unnamed : Declarator
  unnamed = record { pieces = []; name = None; inner = types }

  abbrev named_so : Declarator
  named_so = record { pieces = []; name = Some (name_token.text, name_token.place); inner = types }

  void_alone : (o : Token) → is_void o ≡ true → AreSome texts types (o ∷ []) (record { list = simple_decl o.place [] (tree.Base 0 o.place) unnamed ∷ []; types = types })
  void_alone o h = one_word keyword.Void o (words_of kind.Void o.place) (tree.Base 0 o.place) (keyword_is w keyword.Void o h) refl refl [] unnamed (is_direct types false true [] unnamed (is_nameless types false true refl))

  with_name : (k : Keyword) (o : Token) (said : Said) (base : TypeTree) → sign.keyword_of texts o ≡ Some k → said_after k o.place Nothing ≡ Some said → type_said said ≡ Some base
      → AreSome texts types (o ∷ (name_token ∷ [])) (record { list = simple_decl o.place [] base named_so ∷ []; types = hidden_by named_so.name types })
  with_name k o said base h e named =
      one_word k o said base h e named (name_token ∷ []) named_so (is_direct types false true (name_token ∷ []) named_so (is_name types false true name_token name_token.text (name_token_is w)))

  -- ---- the second token

  not_closed : ParametersLaws texts below part → (n : ℕ) → 2 ≤ below - suc n → (o u : Token) (us : List Token) (ps : Declarations) → is_void o ≡ true → FitsSome n (o ∷ (u ∷ us)) ps → is_close w u ≡ false
  not_closed P n le o u us ps h is = by_test (is_close w u) refl
    where
      alone : Declarations
      alone = record { list = simple_decl o.place [] (tree.Base 0 o.place) unnamed ∷ []; types = types }

      by_test : (b : Bool) → is_close w u ≡ b → b ≡ false
      by_test false k = refl
      by_test true k =
          let short : (part (suc n)).parameters types (o ∷ (u ∷ us)) ≡ done alone (u ∷ us) = (P (suc n) le types).complete (o ∷ []) alone (u ∷ us) (void_alone o h, le) (parameters_end texts alone u k) in
          let long : (part (suc n)).parameters types (o ∷ (u ∷ us)) ≡ done ps [] = ap ((part (suc n)).parameters types) (sym (append-nil (o ∷ (u ∷ us)))) ∙ (P (suc n) le types).complete (o ∷ (u ∷ us)) ps [] is refl in
          let both : done alone (u ∷ us) ≡ done ps [] = sym short ∙ long in
          absurd (cc both)

  -- ---- `void` first

  abbrev VoidFirst : ℕ → (Declarations → Declarator) → List Token → Declarator → Type 0
  VoidFirst n f = Opened is_void (λ o. Either (CloseText f) (Elsewhere (is_close w) (Behind o (SomeText n f))))

  abbrev void_reader : (Declarations → Declarator) → Parser Token Declarator
  void_reader f = void_parameters w functions may_lack below part room rest >>= closed_as f

  abbrev some_reader : ℕ → (Declarations → Declarator) → Parser Token Declarator
  some_reader n f = (part (suc n)).parameters types >>= closed_as f

  void_close : (f : Declarations → Declarator) (o : Token) → is_void o ≡ true → OnHead (is_close w) (CloseText f) (λ _. never) (behind o (void_reader f))
  unfolding void_parameters
  void_close f o h =
      head_via (close_head f) (λ ts d is. is) (λ ts d is. is) (behind o (void_reader f))
      (λ ts. ap (λ b. and_then (and_then (if b then done o ts else stop unexpected (suc (length ts))) (λ t. pure none_read)) (closed_as f)) h)

  void_named : (n : ℕ) → 2 ≤ below - suc n → (f : Declarations → Declarator) (o : Token) → is_void o ≡ true
      → SomeText n f (o ∷ (name_token ∷ (close_token ∷ []))) (f (record { list = simple_decl o.place [] (tree.Base 0 o.place) named_so ∷ []; types = hidden_by named_so.name types }))
  void_named n le f o h = record {
    value = record { list = simple_decl o.place [] (tree.Base 0 o.place) named_so ∷ []; types = hidden_by named_so.name types };
    is = record {
      front = o ∷ (name_token ∷ []);
      closing = close_token;
      split = refl;
      is = (with_name keyword.Void o (words_of kind.Void o.place) (tree.Base 0 o.place) (keyword_is w keyword.Void o h) refl refl, le);
      passes = close_token_is w;
    };
    same = refl;
  }

  behind_void_law : ParametersLaws texts below part → (n : ℕ) → 2 ≤ below - suc n → (f : Declarations → Declarator) (o : Token) → is_void o ≡ true
      → Lawful (Behind o (VoidFirst n f)) (λ _. never) (choose (is_close w) (behind o (void_reader f)) (behind o (some_reader n f)))
  behind_void_law P n le f o h =
      via (hiding (void_close f o h) (behind_law (some_law P n le f) (some_filled n f) o (name_token ∷ (close_token ∷ [])) value (void_named n le f o h)) filled (name_token ∷ (close_token ∷ [])) value
      (void_named n le f o h, no_close)) to from (choose (is_close w) (behind o (void_reader f)) (behind o (some_reader n f))) (λ ts. refl)
    where
      value : Declarator
      value = f (record { list = simple_decl o.place [] (tree.Base 0 o.place) named_so ∷ []; types = hidden_by named_so.name types })

      no_close : is_close w name_token ≡ false
      no_close = name_is_no_mark w mark.CloseParenthesis name_token name_token.text (name_token_is w)

      filled : (d : Declarator) → Behind o (SomeText n f) [] d → ⊥
      filled d m = none m.is.front m.is.split m.is.is.0
        where
          none : (front : List Token) → o ∷ [] ≡ front ++ (m.is.closing ∷ []) → AreSome texts types front m.value → ⊥
          none [] split are = let both : false ≡ true = parameters_begin texts types [] m.value are in cc both
          none (t ∷ []) split are = cc split
          none (t ∷ (u ∷ front)) split are = cc split

      to : (ts : List Token) (d : Declarator) → Either (CloseText f) (Elsewhere (is_close w) (Behind o (SomeText n f))) ts d → Behind o (VoidFirst n f) ts d
      to ts d is = record { opening = o; rest = ts; split = refl; passes = h; is = is }

      from : (ts : List Token) (d : Declarator) → Behind o (VoidFirst n f) ts d → Either (CloseText f) (Elsewhere (is_close w) (Behind o (SomeText n f))) ts d
      from ts d m =
          let head : m.opening ≡ o = cc m.split in
          let tail : m.rest ≡ ts = cc m.split in
          subst (λ z. Either (CloseText f) (Elsewhere (is_close w) (Behind z (SomeText n f))) ts d) head (subst (λ l. Either (CloseText f) (Elsewhere (is_close w) (Behind m.opening (SomeText n f))) l d) tail m.is)

  void_first : ParametersLaws texts below part → (n : ℕ) → 2 ≤ below - suc n → (f : Declarations → Declarator) → OnHead is_void (VoidFirst n f) (λ _. never) (choose_second (is_close w) (void_reader f) (some_reader n f))
  void_first P n le f = second_of (behind_void_law P n le f) opened_heads

  -- ---- all parameters, with room

  abbrev AllText : ℕ → (Declarations → Declarator) → List Token → Declarator → Type 0
  AllText n f = Either (VoidFirst n f) (Elsewhere is_void (SomeText n f))

  int_named : (n : ℕ) → 2 ≤ below - suc n → (f : Declarations → Declarator)
      → Elsewhere is_void (SomeText n f) (int_token ∷ (name_token ∷ (close_token ∷ []))) (f (record { list = simple_decl int_token.place [] (tree.Base 7 int_token.place) named_so ∷ []; types = hidden_by named_so.name types }))
  int_named n le f = (
    record {
      value = record { list = simple_decl int_token.place [] (tree.Base 7 int_token.place) named_so ∷ []; types = hidden_by named_so.name types };
      is = record {
        front = int_token ∷ (name_token ∷ []);
        closing = close_token;
        split = refl;
        is = (with_name keyword.Int int_token (words_of kind.Int int_token.place) (tree.Base 7 int_token.place) (int_token_is w) refl refl, le);
        passes = close_token_is w;
      };
      same = refl;
    },
    ap (λ o. option_map_or (sign.is_same_keyword keyword.Void) o false) (int_token_is w),
  )

  all_law : ParametersLaws texts below part → (n : ℕ) → 2 ≤ below - suc n → (f : Declarations → Declarator)
      → Lawful (AllText n f) (λ _. never) (choose old_name (refuse old_definition) (choose is_void (choose_second (is_close w) (void_reader f) (some_reader n f)) (some_reader n f)))
  all_law P n le f =
      refused_first old_name old_definition (hiding (void_first P n le f) (some_law P n le f) (some_filled n f) (int_token ∷ (name_token ∷ (close_token ∷ []))) _ (int_named n le f)) apart
    where
      begins : (ts : List Token) (d : Declarator) → AllText n f ts d → at_next (begins_declaration w) ts ≡ true
      begins ts d (inl o) = ap (at_next (begins_declaration w)) o.split ∙ void_begins o.opening o.passes
      begins ts d (inr m) = some_text_begins n f ts d m.0

      apart : (ts : List Token) (d : Declarator) (later : List Token) → AllText n f ts d → at_next old_name (ts ++ later) ≡ false
      apart ts d later is = begins_no_name (ts ++ later) (head_of_append (begins_declaration w) ts later (begins ts d is))

  to_call : (n : ℕ) (f : Declarations → Declarator) (ts : List Token) (d : Declarator) → AllText n f ts d → CallText n f ts d
  to_call n f ts d (inl o) = by_case o.is
    where
      by_case : Either (CloseText f) (Elsewhere (is_close w) (Behind o.opening (SomeText n f))) o.rest d → CallText n f ts d
      by_case (inl c) =
          let none : 0 ≤ below - suc n = omega arith in
          record { value = none_read; is = record { front = o.opening ∷ []; closing = c.value; split = o.split ∙ ap (λ l. o.opening ∷ l) c.is.alone; is = (no_parameters types o.opening o.passes, none); passes = c.is.passes }; same = c.same }
      by_case (inr e) = record {
        value = e.0.value;
        is = record {
          front = e.0.is.front;
          closing = e.0.is.closing;
          split = o.split ∙ e.0.is.split;
          is = (some_parameters types e.0.is.front e.0.value e.0.is.is.0 not_alone, e.0.is.is.1);
          passes = e.0.is.passes;
        };
        same = e.0.same;
      }
        where
          not_alone : (t : Token) → e.0.is.front ≡ t ∷ [] → is_void t ≡ false
          not_alone t k =
              let whole : o.opening ∷ o.rest ≡ t ∷ (e.0.is.closing ∷ []) = e.0.is.split ∙ ap (λ l. l ++ (e.0.is.closing ∷ [])) k in
              let tail : o.rest ≡ e.0.is.closing ∷ [] = cc whole in
              let both : false ≡ true = sym e.1 ∙ ap (at_next (is_close w)) tail ∙ e.0.is.passes in
              absurd (cc both)
  to_call n f ts d (inr e) =
      record { value = e.0.value; is = record { front = e.0.is.front; closing = e.0.is.closing; split = e.0.is.split; is = (some_parameters types e.0.is.front e.0.value e.0.is.is.0 not_alone, e.0.is.is.1); passes = e.0.is.passes }; same = e.0.same }
    where
      not_alone : (t : Token) → e.0.is.front ≡ t ∷ [] → is_void t ≡ false
      not_alone t k = sym (ap (at_next is_void) (e.0.is.split ∙ ap (λ l. l ++ (e.0.is.closing ∷ [])) k)) ∙ e.1

  from_call : ParametersLaws texts below part → (n : ℕ) → 2 ≤ below - suc n → (f : Declarations → Declarator) (ts : List Token) (d : Declarator) → CallText n f ts d → AllText n f ts d
  from_call P n le f ts d m = by_case m.is.front m.value m.is.is.0 m.is.is.1 m.is.split m.same
    where
      some : (front : List Token) (ps : Declarations) → AreSome texts types front ps → ((t : Token) → front ≡ t ∷ [] → is_void t ≡ false) → depth_of_decls (decl_list ps.list) ≤ below - suc n
          → ts ≡ front ++ (m.is.closing ∷ []) → d ≡ f ps → AllText n f ts d
      some [] ps are alone deep split same = absurd (let both : false ≡ true = parameters_begin texts types [] ps are in cc both)
      some (o ∷ front) ps are alone deep split same = by_void (is_void o) refl
        where
          text : SomeText n f ts d
          text = record { value = ps; is = record { front = o ∷ front; closing = m.is.closing; split = split; is = (are, deep); passes = m.is.passes }; same = same }

          second : (front : List Token) → AreSome texts types (o ∷ front) ps → ((t : Token) → o ∷ front ≡ t ∷ [] → is_void t ≡ false) → is_void o ≡ true → at_next (is_close w) (front ++ (m.is.closing ∷ [])) ≡ false
          second [] are alone k = absurd (let both : true ≡ false = sym k ∙ alone o refl in cc both)
          second (u ∷ us) are alone k = not_closed P n le o u us ps k (are, deep)

          by_void : (b : Bool) → is_void o ≡ b → AllText n f ts d
          by_void true k = inl (record { opening = o; rest = front ++ (m.is.closing ∷ []); split = split; passes = k; is = inr (subst (λ l. SomeText n f l d) split text, second front are alone k) })
          by_void false k = inr (text, ap (at_next is_void) split ∙ k)

      by_case : (front : List Token) (ps : Declarations) → AreParameters texts types front ps → depth_of_decls (decl_list ps.list) ≤ below - suc n → ts ≡ front ++ (m.is.closing ∷ []) → d ≡ f ps → AllText n f ts d
      by_case _ _ (no_parameters _ t h) deep split same =
          inl (record { opening = t; rest = m.is.closing ∷ []; split = split; passes = h; is = inl (record { value = m.is.closing; is = record { alone = refl; passes = m.is.passes }; same = same }) })
      by_case _ _ (some_parameters _ front ps are alone) deep split same = some front ps are alone deep split same

  -- ---- the reader

  roomy_same : (n : ℕ) (f : Declarations → Declarator) → nat_lt (below - suc n) 2 ≡ false → (ts : List Token)
      → (parameters w functions may_lack below part room rest n >>= closed_as f) ts ≡ choose old_name (refuse old_definition) (choose is_void (choose_second (is_close w) (void_reader f) (some_reader n f)) (some_reader n f)) ts
  unfolding parameters declarator.some_parameters
  roomy_same n f h ts =
      ap (λ b. and_then (if at_next old_name ts then stop old_definition (length ts) else (if b then only_void w functions may_lack below part room rest
      else choose is_void (choose_second (is_close w) (void_parameters w functions may_lack below part room rest) ((part (suc n)).parameters types)) ((part (suc n)).parameters types)) ts) (closed_as f)) h
      ∙ by_tests (at_next old_name ts) (at_next is_void ts) (at_second (is_close w) ts) (void_parameters w functions may_lack below part room rest ts) ((part (suc n)).parameters types ts)
    where
      by_tests : (a v s : Bool) (p q : Outcome Token Declarations)
          → and_then (if a then stop old_definition (length ts) else (if v then (if s then p else q) else q)) (closed_as f)
          ≡ (if a then stop old_definition (length ts) else (if v then (if s then and_then p (closed_as f) else and_then q (closed_as f)) else and_then q (closed_as f)))
      by_tests true v s p q = refl
      by_tests false true true p q = refl
      by_tests false true false p q = refl
      by_tests false false s p q = refl

  abbrev behind_word : Token → Parser Token Declarations
  behind_word t = choose (is_close w) (pure none_read) elsewhere

  flat_same : (n : ℕ) (f : Declarations → Declarator) → nat_lt (below - suc n) 2 ≡ true → (ts : List Token)
      → (parameters w functions may_lack below part room rest n >>= closed_as f) ts
      ≡ choose old_name (refuse old_definition) (choose is_void (token unexpected is_void >>= (λ t. choose (is_close w) (closed_as f none_read) elsewhere)) unbegun) ts
  unfolding parameters declarator.some_parameters only_void declarator.behind_void
  flat_same n f h ts =
      ap (λ b. and_then (if at_next old_name ts then stop old_definition (length ts) else (if b then only_void w functions may_lack below part room rest
      else choose is_void (choose_second (is_close w) (void_parameters w functions may_lack below part room rest) ((part (suc n)).parameters types)) ((part (suc n)).parameters types)) ts) (closed_as f)) h
      ∙ by_tests (at_next old_name ts) (at_next is_void ts) (token unexpected is_void ts)
    where
      behind_it : (c v e : Bool) (r : List Token)
          → and_then (if c then done none_read r else (if v then stop expr.volatile (length r) else (if e then stop too_deep (length r) else stop unexpected (length r)))) (closed_as f)
          ≡ (if c then closed_as f none_read r else (if v then stop expr.volatile (length r) else (if e then stop too_deep (length r) else stop unexpected (length r))))
      behind_it true v e r = refl
      behind_it false true e r = refl
      behind_it false false true r = refl
      behind_it false false false r = refl

      by_outcome : (o : Outcome Token Token) → and_then (and_then o behind_word) (closed_as f) ≡ and_then o (λ t. choose (is_close w) (closed_as f none_read) elsewhere)
      by_outcome (done t r) = behind_it (at_next (is_close w) r) (at_next (is_keyword w keyword.Volatile) r) (at_next goes_on r) r
      by_outcome (stop m k) = refl

      by_tests : (a v : Bool) (o : Outcome Token Token)
          → and_then (if a then stop old_definition (length ts) else (if v then and_then o behind_word else reader.barred w seat.Prototype ts)) (closed_as f)
          ≡ (if a then stop old_definition (length ts) else (if v then and_then o (λ t. choose (is_close w) (closed_as f none_read) elsewhere) else reader.barred w seat.Prototype ts))
      by_tests true v o = refl
      by_tests false true o = by_outcome o
      by_tests false false o = barred_then w seat.Prototype (closed_as f) ts

  flat_law : (n : ℕ) (f : Declarations → Declarator) → nat_lt (below - suc n) 2 ≡ true → Lawful (CallText n f) (λ _. never) (parameters w functions may_lack below part room rest n >>= closed_as f)
  flat_law n f h =
      via (refused_first old_name old_definition (only_else unbegun (void_head f) unbegun_refuses (void_token ∷ (close_token ∷ [])) (f none_read)
      (record { opening = void_token; rest = close_token ∷ []; split = refl; passes = (void_is w); is = close_example f })) apart) to from (parameters w functions may_lack below part room rest n >>= closed_as f) (flat_same n f h)
    where
      apart : (ts : List Token) (d : Declarator) (later : List Token) → VoidText f ts d → at_next old_name (ts ++ later) ≡ false
      apart ts d later o = begins_no_name (ts ++ later) (head_of_append (begins_declaration w) ts later (ap (at_next (begins_declaration w)) o.split ∙ void_begins o.opening o.passes))

      to : (ts : List Token) (d : Declarator) → VoidText f ts d → CallText n f ts d
      to ts d o =
          let none : 0 ≤ below - suc n = omega arith in
          record { value = none_read; is = record { front = o.opening ∷ []; closing = o.is.value; split = o.split ∙ ap (λ l. o.opening ∷ l) o.is.is.alone; is = (no_parameters types o.opening o.passes, none); passes = o.is.is.passes }; same = o.is.same }

      from : (ts : List Token) (d : Declarator) → CallText n f ts d → VoidText f ts d
      from ts d m = by_case m.is.front m.value m.is.is.0 m.is.is.1 m.is.split m.same
        where
          by_case : (front : List Token) (ps : Declarations) → AreParameters texts types front ps → depth_of_decls (decl_list ps.list) ≤ below - suc n → ts ≡ front ++ (m.is.closing ∷ []) → d ≡ f ps → VoidText f ts d
          by_case _ _ (no_parameters _ t k) deep split same =
              record { opening = t; rest = m.is.closing ∷ []; split = split; passes = k; is = record { value = m.is.closing; is = record { alone = refl; passes = m.is.passes }; same = same } }
          by_case _ _ (some_parameters _ front ps are alone) deep split same =
              let deeper : 2 ≤ depth_of_decls (decl_list ps.list) = some_depth texts types front ps are in
              let few : below - suc n < 2 = ltb-true (below - suc n) 2 h in
              absurd (omega arith)

  parameters_law : ParametersLaws texts below part → (n : ℕ) (f : Declarations → Declarator) → Lawful (CallText n f) (λ _. never) (parameters w functions may_lack below part room rest n >>= closed_as f)
  parameters_law P n f = by_room (nat_lt (below - suc n) 2) refl
    where
      by_room : (b : Bool) → nat_lt (below - suc n) 2 ≡ b → Lawful (CallText n f) (λ _. never) (parameters w functions may_lack below part room rest n >>= closed_as f)
      by_room true h = flat_law n f h
      by_room false h =
          let le : 2 ≤ below - suc n = ltb-false (below - suc n) 2 h in
          via (all_law P n le f) (to_call n f) (from_call P n le f) (parameters w functions may_lack below part room rest n >>= closed_as f) (roomy_same n f h)

  abbrev pub function_on : Declarator → Token → Declarations → Declarator
  function_on d o ps = function_with w functions may_lack below part room rest d o.place ps

  abbrev pub CalledText : Declarator → List Token → Declarator → Type 0
  CalledText d = Unbarred (nat_lt room (suc (length d.pieces))) (Opened (is_open w) (λ o. CallText (length d.pieces) (function_on d o)))

  pub called_head : ParametersLaws texts below part → (d : Declarator) → OnHead (is_open w) (CalledText d) (λ _. never) (called w functions may_lack below part room rest d)
  unfolding called
  called_head P d =
      guarded (nat_lt room (suc (length d.pieces))) too_deep (λ open_way. at_head (is_open w) (λ t h. opened {Is = λ o. CallText (length d.pieces) (function_on d o)} unexpected (is_open w) t h
      (λ o passes. parameters_law P (length d.pieces) (function_on d o))) opened_heads)
