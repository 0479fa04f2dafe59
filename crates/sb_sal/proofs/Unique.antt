-- No text of annotations has two trees.
use Rattle.std.proofs.Common.{◌≡◌, ◌≤◌, max, Bool, true, false, List, [], ◌∷◌, ◌++◌, Some, refl, sym, ap, ◌∙◌, subst, append_assoc, append-nil, arith}
use Rattle.std.proofs.Math.Nat.{le-max_left, le-max_right}
use Rattle.sb_base.specs.declared.tokens.Token.{Token}
use Rattle.sb_parse.specs.Parser.{done, at_next}
use Rattle.sb_parse.proofs.Heads.{head_of_append}
use Rattle.sb_tree.specs.Plain.{arg_list}
use Rattle.sb_tree.specs.Trees as tree
use Rattle.sb_tree.specs.Trees.{ExprTree, NoteTree, ArgTree, ExprArg, NoteArg, depth_of_expr}
use Rattle.sb_expr.specs.Expression.{Assignment}
use Rattle.sb_lexicon.specs.Lexicon.{Lexicon}
use Rattle.sb_expr.specs.Readers.{expr_reader}
use Rattle.sb_lexicon.specs.Tokens.{is_close}
use Rattle.sb_lexicon.proofs.Depths.{some_depth}
use Rattle.sb_sign.specs.declared.spelling.Arguments.{Arguments}
use Rattle.sb_sign.specs.declared.spelling.Arguments.TheVariants as arguments
use Rattle.sb_sal.specs.Notes.{inside, anywhere, IsLocation, is_result, is_parameter, is_target, is_field, IsValue, is_value, IsNote, is_bare, has_arguments, AreArguments, one_size, two_sizes, a_condition, memory, a_note, guarded, located, AreNotes, no_notes, more_notes}
use Rattle.sb_sal.specs.Readers.{is_nothing, continues, location}
use Rattle.sb_sal.specs.Spellings.{begins_note, arguments_of}
use Rattle.sb_sal.proofs.Tokens.{comma_ends_location}
use Rattle.sb_sal.proofs.Values.{more_value, value_ends_at_close, value_ends_at_comma, expr_law, location_law}
use Rattle.sb_sal.proofs.Inside.{more_note, note_ends_at_close}
use Rattle.sb_sal.proofs.Noting.{some_kind, note_begins}
use Rattle.sb_sal.proofs.Annotations.{note_apart}

module _ (w : Lexicon) where
  -- ---- arguments that begin one list are one

  value_first : (xs : List Token) (a : ArgTree) → IsValue w xs a → (ys : List Token) (b : ArgTree) → IsValue w ys b → (us vs : List Token) → xs ++ us ≡ ys ++ vs
      → at_next (more_value w a) us ≡ false → at_next (more_value w b) vs ≡ false → (a ≡ b) × (us ≡ vs)
  value_first _ _ (is_value xs e off is) _ _ (is_value ys f other also) us vs same h k =
      let some : 1 ≤ depth_of_expr e = some_depth e in
      let first : depth_of_expr e ≤ max (depth_of_expr e) (depth_of_expr f) = le-max_left (depth_of_expr e) (depth_of_expr f) in
      let second : depth_of_expr f ≤ max (depth_of_expr e) (depth_of_expr f) = le-max_right (depth_of_expr e) (depth_of_expr f) in
      let law = expr_law w (max (depth_of_expr e) (depth_of_expr f)) (omega arith) in
      let both : done e us ≡ done f vs =
      sym (law.complete xs e us (is, first) h) ∙ ap (expr_reader (inside w) (max (depth_of_expr e) (depth_of_expr f)) Assignment) same ∙ law.complete ys f vs (also, second) k in
      let trees : e ≡ f = cc both in
      (ap ExprArg trees, cc both)

  location_deep : (ts : List Token) (e : ExprTree) → IsLocation w ts e → depth_of_expr e ≤ 2
  location_deep _ _ (is_result t h) = omega arith
  location_deep _ _ (is_parameter t n h) = omega arith
  location_deep _ _ (is_target s t n star h) = omega arith
  location_deep _ _ (is_field t a f n m h arrow named) = omega arith

  location_first : (xs : List Token) (e : ExprTree) → IsLocation w xs e → (ys : List Token) (f : ExprTree) → IsLocation w ys f → (us vs : List Token) → xs ++ us ≡ ys ++ vs
      → at_next (continues w) us ≡ false → at_next (continues w) vs ≡ false → (e ≡ f) × (us ≡ vs)
  location_first xs e is ys f also us vs same h k =
      let law = location_law w 2 (omega arith) in
      let both : done e us ≡ done f vs = sym (law.complete xs e us (is, location_deep xs e is) h) ∙ ap (location w 2) same ∙ law.complete ys f vs (also, location_deep ys f also) k in
      (cc both, cc both)

  -- ---- annotations that begin one list are one

  mutual
    note_first : (may : Token → Bool) (xs : List Token) (n : NoteTree) → IsNote w may xs n → (ys : List Token) (m : NoteTree) → IsNote w may ys m → (us vs : List Token) → xs ++ us ≡ ys ++ vs
        → at_next (more_note w n) us ≡ false → at_next (more_note w m) vs ≡ false → (n ≡ m) × (us ≡ vs)
    note_first _ _ _ (is_bare may t stands nothing) _ _ (is_bare may' s stands' nothing') us vs same h k =
        let head : t ≡ s = cc same in
        (ap (λ z. tree.Note z.text tree.NoArgs z.place) head, cc same)
    note_first _ _ _ (is_bare may t stands nothing) _ _ (has_arguments may' s o c a ts args stands' takes opens closes are) us vs same h k =
        let head : t ≡ s = cc same in
        let kinds : Some arguments.Nothing ≡ Some a = sym nothing ∙ ap (arguments_of w) head ∙ takes in
        let kind : arguments.Nothing ≡ a = cc kinds in
        let none : true ≡ false = ap is_nothing kind ∙ some_kind w may' a ts args are in
        absurd (cc none)
    note_first _ _ _ (has_arguments may s o c a ts args stands takes opens closes are) _ _ (is_bare may' t stands' nothing) us vs same h k =
        let head : s ≡ t = cc same in
        let kinds : Some a ≡ Some arguments.Nothing = sym takes ∙ ap (arguments_of w) head ∙ nothing in
        let kind : a ≡ arguments.Nothing = cc kinds in
        let none : false ≡ true = sym (some_kind w may a ts args are) ∙ ap is_nothing kind in
        absurd (cc none)
    note_first _ _ _ (has_arguments may t o c a ts args stands takes opens closes are) _ _ (has_arguments may' s o' c' b ys others stands' takes' opens' closes' also) us vs same h k =
        let head : t ≡ s = cc same in
        let kinds : Some a ≡ Some b = sym takes ∙ ap (arguments_of w) head ∙ takes' in
        let kind : b ≡ a = cc kinds in
        let inner : (ts ++ (c ∷ [])) ++ us ≡ (ys ++ (c' ∷ [])) ++ vs = cc same in
        let flat : ts ++ (c ∷ us) ≡ ys ++ (c' ∷ vs) = sym (append_assoc ts (c ∷ []) us) ∙ inner ∙ append_assoc ys (c' ∷ []) vs in
        let it : (args ≡ others) × (c ∷ us ≡ c' ∷ vs) = arguments_first may a ts args are ys others (subst (λ z. AreArguments w may z ys others) kind also) c c' us vs flat closes closes' in
        let tail : us ≡ vs = cc it.1 in
        (ap (λ z. tree.Note z.text (arg_list args) z.place) head ∙ ap (λ z. tree.Note s.text (arg_list z) s.place) it.0, tail)

    arguments_first : (may : Token → Bool) (a : Arguments) (xs : List Token) (args : List ArgTree) → AreArguments w may a xs args → (ys : List Token) (others : List ArgTree) → AreArguments w may a ys others
        → (c d : Token) (us vs : List Token) → xs ++ (c ∷ us) ≡ ys ++ (d ∷ vs) → is_close w c ≡ true → is_close w d ≡ true → (args ≡ others) × (c ∷ us ≡ d ∷ vs)
    arguments_first _ _ _ _ (one_size may xs a is) _ _ (one_size may' ys b also) c d us vs same h k =
        let it = value_first xs a is ys b also (c ∷ us) (d ∷ vs) same (value_ends_at_close w a c h) (value_ends_at_close w b d k) in
        (ap (λ z. z ∷ []) it.0, it.1)
    arguments_first _ _ _ _ (a_condition may xs a is) _ _ (a_condition may' ys b also) c d us vs same h k =
        let it = value_first xs a is ys b also (c ∷ us) (d ∷ vs) same (value_ends_at_close w a c h) (value_ends_at_close w b d k) in
        (ap (λ z. z ∷ []) it.0, it.1)
    arguments_first _ _ _ _ (two_sizes may xs zs p a b comma is second) _ _ (two_sizes may' ys os q f g comma' also third) c d us vs same h k =
        let flat : xs ++ (p ∷ (zs ++ (c ∷ us))) ≡ ys ++ (q ∷ (os ++ (d ∷ vs))) = sym (append_assoc xs (p ∷ zs) (c ∷ us)) ∙ same ∙ append_assoc ys (q ∷ os) (d ∷ vs) in
        let it = value_first xs a is ys f also (p ∷ (zs ++ (c ∷ us))) (q ∷ (os ++ (d ∷ vs))) flat (value_ends_at_comma w a p comma) (value_ends_at_comma w f q comma') in
        let rest : zs ++ (c ∷ us) ≡ os ++ (d ∷ vs) = cc it.1 in
        let next = value_first zs b second os g third (c ∷ us) (d ∷ vs) rest (value_ends_at_close w b c h) (value_ends_at_close w g d k) in
        (ap (λ z. z ∷ (b ∷ [])) it.0 ∙ ap (λ z. f ∷ (z ∷ [])) next.0, next.1)
    arguments_first _ _ _ _ (memory may t is) _ _ (memory may' s also) c d us vs same h k =
        let head : t ≡ s = cc same in
        (ap (λ z. ExprArg (tree.Identifier z.text z.place) ∷ []) head, cc same)
    arguments_first _ _ _ _ (a_note may xs n is) _ _ (a_note may' ys m also) c d us vs same h k =
        let it = note_first may xs n is ys m also (c ∷ us) (d ∷ vs) same (note_ends_at_close w n c h) (note_ends_at_close w m d k) in
        (ap (λ z. NoteArg z ∷ []) it.0, it.1)
    arguments_first _ _ _ _ (guarded may xs zs p a n comma is second) _ _ (guarded may' ys os q f m comma' also third) c d us vs same h k =
        let flat : xs ++ (p ∷ (zs ++ (c ∷ us))) ≡ ys ++ (q ∷ (os ++ (d ∷ vs))) = sym (append_assoc xs (p ∷ zs) (c ∷ us)) ∙ same ∙ append_assoc ys (q ∷ os) (d ∷ vs) in
        let it = value_first xs a is ys f also (p ∷ (zs ++ (c ∷ us))) (q ∷ (os ++ (d ∷ vs))) flat (value_ends_at_comma w a p comma) (value_ends_at_comma w f q comma') in
        let rest : zs ++ (c ∷ us) ≡ os ++ (d ∷ vs) = cc it.1 in
        let next = note_first may zs n second os m third (c ∷ us) (d ∷ vs) rest (note_ends_at_close w n c h) (note_ends_at_close w m d k) in
        (ap (λ z. z ∷ (NoteArg n ∷ [])) it.0 ∙ ap (λ z. f ∷ (NoteArg z ∷ [])) next.0, next.1)
    arguments_first _ _ _ _ (located may xs zs p e n comma is second) _ _ (located may' ys os q f m comma' also third) c d us vs same h k =
        let flat : xs ++ (p ∷ (zs ++ (c ∷ us))) ≡ ys ++ (q ∷ (os ++ (d ∷ vs))) = sym (append_assoc xs (p ∷ zs) (c ∷ us)) ∙ same ∙ append_assoc ys (q ∷ os) (d ∷ vs) in
        let it = location_first xs e is ys f also (p ∷ (zs ++ (c ∷ us))) (q ∷ (os ++ (d ∷ vs))) flat (comma_ends_location w p comma) (comma_ends_location w q comma') in
        let rest : zs ++ (c ∷ us) ≡ os ++ (d ∷ vs) = cc it.1 in
        let next = note_first anywhere zs n second os m third (c ∷ us) (d ∷ vs) rest (note_ends_at_close w n c h) (note_ends_at_close w m d k) in
        (ap (λ z. ExprArg z ∷ (NoteArg n ∷ [])) it.0 ∙ ap (λ z. ExprArg f ∷ (NoteArg z ∷ [])) next.0, next.1)

  -- ---- a list, from its first annotation on

  data Row (may : Token → Bool) : List Token → List NoteTree → Type 0 where
    none : Row may [] []
    first : (xs ys : List Token) (n : NoteTree) (ns : List NoteTree) → IsNote w may xs n → Row may ys ns → Row may (xs ++ ys) (n ∷ ns)

  one_more : (may : Token → Bool) (xs ys : List Token) (ns : List NoteTree) (n : NoteTree) → Row may xs ns → IsNote w may ys n → Row may (xs ++ ys) (ns ++ (n ∷ []))
  one_more may _ ys _ n none is = subst (λ z. Row may z (n ∷ [])) (append-nil ys) (first ys [] n [] is none)
  one_more may _ ys _ n (first us vs m ns head row) is =
      subst (λ z. Row may z (m ∷ (ns ++ (n ∷ [])))) (sym (append_assoc us vs ys)) (first us (vs ++ ys) m (ns ++ (n ∷ [])) head (one_more may vs ys ns n row is))

  in_row : (may : Token → Bool) (ts : List Token) (ns : List NoteTree) → AreNotes w may ts ns → Row may ts ns
  in_row may _ _ no_notes = none
  in_row may _ _ (more_notes xs ys ns n are is) = one_more may xs ys ns n (in_row may xs ns are) is

  -- an annotation is not empty
  not_empty : (may : Token → Bool) (xs ys : List Token) (n : NoteTree) → IsNote w may xs n → [] ≡ xs ++ ys → ⊥
  not_empty may xs ys n is e = let both : false ≡ true = ap (at_next (begins_note w)) e ∙ head_of_append (begins_note w) xs ys (note_begins w may xs n is) in cc both

  row_apart : (may : Token → Bool) (n : NoteTree) (ts : List Token) (ns : List NoteTree) → Row may ts ns → at_next (more_note w n) ts ≡ false
  row_apart may n _ _ none = refl
  row_apart may n _ _ (first xs ys m ns is row) = go (xs ++ ys) (head_of_append (begins_note w) xs ys (note_begins w may xs m is))
    where
      go : (ts : List Token) → at_next (begins_note w) ts ≡ true → at_next (more_note w n) ts ≡ false
      go [] h = refl
      go (t ∷ ts) h = note_apart w n t h

  one_row : (may : Token → Bool) (ts : List Token) (ns : List NoteTree) → Row may ts ns → (us : List Token) (ms : List NoteTree) → Row may us ms → ts ≡ us → ns ≡ ms
  one_row may _ _ none _ _ none e = refl
  one_row may _ _ none _ _ (first xs ys n ns is row) e = absurd (not_empty may xs ys n is e)
  one_row may _ _ (first xs ys n ns is row) _ _ none e = absurd (not_empty may xs ys n is (sym e))
  one_row may _ _ (first xs ys n ns is row) _ _ (first us vs m ms also other) e =
      let it = note_first may xs n is us m also ys vs e (row_apart may n ys ns row) (row_apart may m vs ms other) in
      ap (λ z. z ∷ ns) it.0 ∙ ap (λ z. m ∷ z) (one_row may ys ns row vs ms other it.1)

  pub one_list : (may : Token → Bool) (ts : List Token) (ns ms : List NoteTree) → AreNotes w may ts ns → AreNotes w may ts ms → ns ≡ ms
  one_list may ts ns ms are also = one_row may ts ns (in_row may ts ns are) ts ms (in_row may ts ms also) refl
