-- Readers of declarators with more room, by what is known of the readers of parameters.
use Rattle.std.proofs.Common.{◌≡◌, ◌≤◌, ◌⊎◌, ◌-◌, ℕ, zero, suc, Bool, true, false, ◌&&◌, ◌||◌, not, List, [], ◌∷◌, length, nat_lt, if◌then◌else◌, refl, sym, ap, ◌∙◌, inl, inr, arith}
use Rattle.sb_base.specs.declared.interning.Name.{Name}
use Rattle.sb_base.specs.declared.tokens.Token.{Token}
use Rattle.sb_parse.specs.Parser.{Outcome, Parser, done, stop, at_next, and_then, ◌>>=◌, pure, token, choose, refuse}
use Rattle.sb_sign.specs.declared.sign.Keyword.TheVariants as keyword
use Rattle.sb_tree.specs.Trees.{TypeTree, depth_of_type}
use Rattle.sb_parse.specs.Descent.{descent, at_second, choose_second}
use Rattle.sb_expr.specs.Expression.{Assignment}
use Rattle.sb_lexicon.specs.Lexicon.{Lexicon, is_keyword, is_type_name}
use Rattle.sb_lexicon.specs.Tokens as expr
use Rattle.sb_expr.specs.Readers.{expr_reader}
use Rattle.sb_lexicon.specs.Tokens.{unexpected, too_deep, is_zero, is_open, is_close, is_open_bracket, is_close_bracket, is_star, is_qualifier}
use Rattle.sb_lexicon.proofs.Depths.{within_room}
use Rattle.sb_expr.proofs.widening.EachDepth.{parts_wider}
use Rattle.sb_lexicon.proofs.Wider.{Held, short, same, Wider, alike, one_by_one, behind, before, guarding, by_choice, choosing, turning, zero_wider, room_wider}
use Rattle.sb_sal.specs.Spellings.{begins_note}
use Rattle.sb_sal.proofs.Deepening.{moved}
use Rattle.sb_specifier.specs.declared.seat.Seat.TheVariants as seat
use Rattle.sb_specifier.specs.Specified.{reading, is_function, is_bare}
use Rattle.sb_specifier.specs.Readers.{Declarator, Declarations, Parts, old_definition, barred, is_name, goes_on_void}
use Rattle.sb_declarator.specs.Readers.{qualifier, pointed, inside, begins_inner, in_parentheses, name_or_none, first, size, sized, is_size_word, size_word, outermost_size, arrayed, no_parameters, behind_void, only_void, void_parameters, some_parameters, parameters, function_with, called, suffixed, is_suffix, direct, declarator_at, declarators, on}
use Rattle.sb_specifier.proofs.widening.Specifiers.{either_way, where_room}

-- what parameters with room read where `void` begins them and no parameter goes on: they are done behind it, or stop there
abbrev pub BehindVoid : Outcome Token Declarations → List Token → Type 0
BehindVoid o ts = ((ds : Declarations) × (o ≡ done ds ts)) ⊎ (o ≡ stop unexpected (length ts))

-- where both choose alike, and one choice is the same
chosen_then : {A B : Type 0} (b : Bool) (o x y : Outcome Token A) (f : A → Parser Token B) → Held (and_then x f) (and_then y f) → Held (and_then (if b then o else x) f) (and_then (if b then o else y) f)
chosen_then true o x y f h = same refl
chosen_then false o x y f h = h

-- the next token is not the one that has to come
no_token : (test : Token → Bool) (ts : List Token) → at_next test ts ≡ false → token unexpected test ts ≡ stop unexpected (length ts)
no_token test [] h = refl
no_token test (t ∷ ts) h = ap (λ b. if b then done t ts else stop unexpected (suc (length ts))) h

module _ (w : Lexicon) (functions may_lack : Bool) (n m : ℕ) (le : n ≤ m) (part more : ℕ → Parts)
    (Parameters : (k : ℕ) → 2 ≤ n - k → Wider ((part k).parameters w.types) ((more k).parameters w.types))
    (Barred : (k : ℕ) → 2 ≤ m - k → Wider (barred w seat.Prototype) ((more k).parameters w.types))
    (Void : (k : ℕ) → 2 ≤ m - k → (v : Token) (ts : List Token) → is_keyword w keyword.Void v ≡ true → at_next (is_close w) ts ≡ false → at_next (is_keyword w keyword.Volatile) ts ≡ false → at_next (goes_on_void w) ts ≡ false
    → BehindVoid ((more k).parameters w.types (v ∷ ts)) ts)
    (Volatile : (k : ℕ) → 2 ≤ m - k → (v : Token) (ts : List Token) → is_keyword w keyword.Void v ≡ true → at_next (is_keyword w keyword.Volatile) ts ≡ true → (more k).parameters w.types (v ∷ ts) ≡ stop expr.volatile (length ts)) where
  module _ (room other : ℕ) (less : room ≤ other) (rest far : ℕ → Parser Token Declarator) (Rest : is_zero room ≡ false → (k : ℕ) → Wider (rest k) (far k)) where
    -- ---- pointers and parentheses

    qualifier_wider : (c : Bool) → Wider (qualifier w functions may_lack n part room rest c) (qualifier w functions may_lack m more other far c)
    unfolding qualifier
    qualifier_wider c = choosing _ _ _ _ _ (guarding (nat_lt room 2) (nat_lt other 2) _ _ (room_wider room other 2 less) (alike _)) (alike _)

    pointed_wider : is_zero room ≡ false → Wider (pointed w functions may_lack n part room rest) (pointed w functions may_lack m more other far)
    unfolding pointed
    pointed_wider some =
        behind (token unexpected (is_star w)) _ _
        (λ t. one_by_one _ _ _ _ (turning (is_qualifier w) (qualifier w functions may_lack n part room rest) (qualifier w functions may_lack m more other far) qualifier_wider false) (λ c. before _ _ _ (Rest some _)))

    inside_wider : is_zero room ≡ false → (o : Token) → Wider (inside w functions may_lack n part room rest o) (inside w functions may_lack m more other far o)
    unfolding inside
    inside_wider some o = before (rest 0) (far 0) _ (Rest some 0)

    parentheses_wider : is_zero room ≡ false → Wider (in_parentheses w functions may_lack n part room rest) (in_parentheses w functions may_lack m more other far)
    unfolding in_parentheses
    parentheses_wider some =
        behind (token unexpected (is_open w)) _ _
        (λ o. either_way may_lack _ _ _ _
        (choosing (begins_inner w functions may_lack n part room rest) (inside w functions may_lack n part room rest o) (inside w functions may_lack m more other far o) _ _ (inside_wider some o) (alike _))
        (inside_wider some o))

    first_wider : Wider (first w functions may_lack n part room rest) (first w functions may_lack m more other far)
    unfolding first name_or_none
    first_wider = choosing (is_open w) _ _ _ _ (where_room (is_zero room) (is_zero other) _ _ (zero_wider room other less) parentheses_wider) (alike _)

    -- ---- arrays

    size_wider : (k : ℕ) → Wider (size w functions may_lack n part room rest k) (size w functions may_lack m more other far k)
    unfolding size
    size_wider k = before (expr_reader w (n - suc k) Assignment) (expr_reader w (m - suc k) Assignment) _ ((parts_wider w (n - suc k) (m - suc k) 0 (omega arith)).0 Assignment)

    sized_wider : (k : ℕ) → Wider (sized w functions may_lack n part room rest k) (sized w functions may_lack m more other far k)
    unfolding sized
    sized_wider k = choosing (is_close_bracket w) _ _ _ _ (alike _) (size_wider k)

    word_wider : (found : Bool × Bool) → Wider (size_word w functions may_lack n part room rest found) (size_word w functions may_lack m more other far found)
    unfolding size_word
    word_wider found = alike _

    outermost_wider : (k : ℕ) → Wider (outermost_size w functions may_lack n part room rest k) (outermost_size w functions may_lack m more other far k)
    unfolding outermost_size
    outermost_wider k =
        one_by_one _ _ _ _ (turning (is_size_word w functions may_lack n part room rest) (size_word w functions may_lack n part room rest) (size_word w functions may_lack m more other far) word_wider (false, false))
        (λ found. either_way found.1 _ _ _ _ (size_wider k) (sized_wider k))

    arrayed_wider : (d : Declarator) → Wider (arrayed w functions may_lack n part room rest d) (arrayed w functions may_lack m more other far d)
    unfolding arrayed
    arrayed_wider d =
        guarding (nat_lt room (suc (length d.pieces))) (nat_lt other (suc (length d.pieces))) _ _ (room_wider room other (suc (length d.pieces)) less)
        (behind (token unexpected (is_open_bracket w)) _ _ (λ o. before _ _ _ (either_way (may_lack && is_bare d.pieces) _ _ _ _ (outermost_wider (length d.pieces)) (sized_wider (length d.pieces)))))

    -- ---- parameters, and the parenthesis that closes them

    abbrev closed : (Declarations → Declarator) → Declarations → Parser Token Declarator
    closed f ps = token unexpected (is_close w) >>= (λ c. pure (f ps))

    abbrev further : ℕ → Token → List Token → Outcome Token Declarations
    further k v ts = (more k).parameters w.types (v ∷ ts)

    -- behind `void`
    behind_wider : (f : Declarations → Declarator) (k : ℕ) → 2 ≤ m - k → (v : Token) (ts : List Token) → is_keyword w keyword.Void v ≡ true
        → Held (and_then (behind_void w functions may_lack n part room rest ts) (closed f)) (and_then (choose_second (is_close w) (void_parameters w functions may_lack m more other far) ((more k).parameters w.types) (v ∷ ts)) (closed f))
    unfolding behind_void void_parameters
    behind_wider f k enough v ts void = by_close (at_next (is_close w) ts) refl
      where
        void_read : void_parameters w functions may_lack m more other far (v ∷ ts) ≡ done (no_parameters w functions may_lack m more other far) ts
        void_read = ap (λ b. and_then (if b then done v ts else stop unexpected (suc (length ts))) (λ t. pure (no_parameters w functions may_lack m more other far))) void

        refused : at_next (is_close w) ts ≡ false → BehindVoid (further k v ts) ts → and_then (further k v ts) (closed f) ≡ stop unexpected (length ts)
        refused unclosed (inl d) = ap (λ o. and_then o (closed f)) d.1 ∙ ap (λ o. and_then o (λ c. pure (f d.0))) (no_token (is_close w) ts unclosed)
        refused unclosed (inr e) = ap (λ o. and_then o (closed f)) e

        by_goes : (b : Bool) → at_next (goes_on_void w) ts ≡ b → at_next (is_close w) ts ≡ false → at_next (is_keyword w keyword.Volatile) ts ≡ false
            → Held (and_then (if b then stop too_deep (length ts) else stop unexpected (length ts)) (closed f)) (and_then (further k v ts) (closed f))
        by_goes true h unclosed plain = short (length ts) refl
        by_goes false h unclosed plain = same (refused unclosed (Void k enough v ts void unclosed plain h))

        by_volatile : (b : Bool) → at_next (is_keyword w keyword.Volatile) ts ≡ b → at_next (is_close w) ts ≡ false
            → Held (and_then (if b then stop expr.volatile (length ts) else choose (goes_on_void w) (refuse too_deep) (refuse unexpected) ts) (closed f)) (and_then (further k v ts) (closed f))
        by_volatile true h unclosed = same (ap (λ o. and_then o (closed f)) (Volatile k enough v ts void h))
        by_volatile false h unclosed = by_goes (at_next (goes_on_void w) ts) refl unclosed h

        by_close : (b : Bool) → at_next (is_close w) ts ≡ b
            → Held
            (and_then (if b then done (no_parameters w functions may_lack n part room rest) ts
            else choose (is_keyword w keyword.Volatile) (refuse expr.volatile) (choose (goes_on_void w) (refuse too_deep) (refuse unexpected)) ts) (closed f))
            (and_then (if b then void_parameters w functions may_lack m more other far (v ∷ ts) else further k v ts) (closed f))
        by_close true h = same (ap (λ o. and_then o (closed f)) void_read)
        by_close false h = by_volatile (at_next (is_keyword w keyword.Volatile) ts) refl h

    -- without room for a parameter, and with it
    abbrev near : ℕ → Parser Token Declarations
    near k = choose (is_keyword w keyword.Void) (choose_second (is_close w) (void_parameters w functions may_lack n part room rest) ((part k).parameters w.types)) ((part k).parameters w.types)

    abbrev roomy : ℕ → Parser Token Declarations
    roomy k = choose (is_keyword w keyword.Void) (choose_second (is_close w) (void_parameters w functions may_lack m more other far) ((more k).parameters w.types)) ((more k).parameters w.types)

    only_wider : (f : Declarations → Declarator) (k : ℕ) → 2 ≤ m - k → (ts : List Token) → Held (and_then (only_void w functions may_lack n part room rest ts) (closed f)) (and_then (roomy k ts) (closed f))
    unfolding only_void
    only_wider f k enough [] = before (barred w seat.Prototype) ((more k).parameters w.types) (closed f) (Barred k enough) []
    only_wider f k enough (v ∷ ts) = by_void (is_keyword w keyword.Void v) refl
      where
        by_void : (b : Bool) → is_keyword w keyword.Void v ≡ b
            → Held
            (and_then (if b then and_then (if is_keyword w keyword.Void v then done v ts else stop unexpected (suc (length ts))) (λ t. behind_void w functions may_lack n part room rest) else barred w seat.Prototype (v ∷ ts)) (closed f))
            (and_then (if b then choose_second (is_close w) (void_parameters w functions may_lack m more other far) ((more k).parameters w.types) (v ∷ ts) else (more k).parameters w.types (v ∷ ts)) (closed f))
        by_void true h =
            moved _ _ _ _ (ap (λ b. and_then (and_then (if b then done v ts else stop unexpected (suc (length ts))) (λ t. behind_void w functions may_lack n part room rest)) (closed f)) h) refl
            (behind_wider f k enough v ts h)
        by_void false h = before (barred w seat.Prototype) ((more k).parameters w.types) (closed f) (Barred k enough) (v ∷ ts)

    pub some_wider : (f : Declarations → Declarator) (k : ℕ) → Wider (some_parameters w functions may_lack n part room rest k >>= closed f) (some_parameters w functions may_lack m more other far k >>= closed f)
    unfolding some_parameters only_void behind_void void_parameters
    some_wider f k ts = by_tests (nat_lt (n - suc k) 2) (nat_lt (m - suc k) 2) refl refl
      where
        both_roomy : 2 ≤ n - suc k → Wider (near (suc k)) (roomy (suc k))
        both_roomy enough = choosing (is_keyword w keyword.Void) _ _ _ _ (λ ts. by_choice (at_second (is_close w) ts) _ _ _ _ (λ h. same refl) (λ h. Parameters (suc k) enough ts)) (Parameters (suc k) enough)

        by_tests : (b c : Bool) → nat_lt (n - suc k) 2 ≡ b → nat_lt (m - suc k) 2 ≡ c
            → Held (and_then ((if b then only_void w functions may_lack n part room rest else near (suc k)) ts) (closed f)) (and_then ((if c then only_void w functions may_lack m more other far else roomy (suc k)) ts) (closed f))
        by_tests true true h g = same refl
        by_tests true false h g = only_wider f (suc k) (within_room (m - suc k) 2 g) ts
        by_tests false true h g = absurd (let both : false ≡ true = sym (room_wider (n - suc k) (m - suc k) 2 (omega arith) h) ∙ g in cc both)
        by_tests false false h g = before (near (suc k)) (roomy (suc k)) (closed f) (both_roomy (within_room (n - suc k) 2 h)) ts

    parameters_wider : (f : Declarations → Declarator) (k : ℕ) → Wider (parameters w functions may_lack n part room rest k >>= closed f) (parameters w functions may_lack m more other far k >>= closed f)
    unfolding parameters
    parameters_wider f k ts =
        chosen_then (at_next (λ t. is_close w t || (is_name w t && not (is_type_name w t || begins_note w t))) ts) (stop old_definition (length ts)) (some_parameters w functions may_lack n part room rest k ts)
        (some_parameters w functions may_lack m more other far k ts) (closed f) (some_wider f k ts)

    called_wider : (d : Declarator) → Wider (called w functions may_lack n part room rest d) (called w functions may_lack m more other far d)
    unfolding called
    called_wider d =
        guarding (nat_lt room (suc (length d.pieces))) (nat_lt other (suc (length d.pieces))) _ _ (room_wider room other (suc (length d.pieces)) less)
        (behind (token unexpected (is_open w)) _ _ (λ o. parameters_wider (function_with w functions may_lack n part room rest d o.place) (length d.pieces)))

    -- ---- all

    suffixed_wider : (d : Declarator) → Wider (suffixed w functions may_lack n part room rest d) (suffixed w functions may_lack m more other far d)
    unfolding suffixed
    suffixed_wider d =
        choosing (is_open_bracket w) _ _ _ _ (either_way (is_function d.pieces) _ _ _ _ (alike _) (arrayed_wider d))
        (either_way (is_bare d.pieces && functions) _ _ _ _ (called_wider d) (alike _))

    direct_wider : Wider (direct w functions may_lack n part room rest) (direct w functions may_lack m more other far)
    unfolding direct
    direct_wider =
        one_by_one (first w functions may_lack n part room rest) (first w functions may_lack m more other far) _ _ first_wider
        (turning (is_suffix w functions may_lack n part room rest) (suffixed w functions may_lack n part room rest) (suffixed w functions may_lack m more other far) suffixed_wider)

    declarator_wider : Wider (declarator_at w functions may_lack n part room rest) (declarator_at w functions may_lack m more other far)
    unfolding declarator_at
    declarator_wider = choosing (is_star w) _ _ _ _ (where_room (is_zero room) (is_zero other) _ _ (zero_wider room other less) pointed_wider) direct_wider

  pub declarators_wider : (room other k : ℕ) → room ≤ other → Wider (declarators w functions may_lack n part room k) (declarators w functions may_lack m more other k)
  unfolding descent
  declarators_wider zero zero k less = declarator_wider 0 0 less (λ k. refuse unexpected) (λ k. refuse unexpected) (λ h k. alike _)
  declarators_wider zero (suc other) zero less = declarator_wider 0 (suc other) less (λ k. refuse unexpected) (declarators w functions may_lack m more other) (λ h. absurd (cc h))
  declarators_wider zero (suc other) (suc k) less = declarators_wider zero other k (omega arith)
  declarators_wider (suc room) zero k less = absurd (omega arith)
  declarators_wider (suc room) (suc other) zero less =
      declarator_wider (suc room) (suc other) less (declarators w functions may_lack n part room) (declarators w functions may_lack m more other) (λ h k. declarators_wider room other k (omega arith))
  declarators_wider (suc room) (suc other) (suc k) less = declarators_wider room other k (omega arith)

-- ---- declarators on a type

module _ (texts : List (List ℕ)) (types : List Name) (functions may_lack : Bool) (n m : ℕ) (le : n ≤ m) (part more : ℕ → Parts)
    (Parameters : (k : ℕ) → 2 ≤ n - k → Wider ((part k).parameters types) ((more k).parameters types))
    (Barred : (k : ℕ) → 2 ≤ m - k → Wider (barred (reading texts types) seat.Prototype) ((more k).parameters types))
    (Void : (k : ℕ) → 2 ≤ m - k → (v : Token) (ts : List Token) → is_keyword (reading texts types) keyword.Void v ≡ true → at_next (is_close (reading texts types)) ts ≡ false
    → at_next (is_keyword (reading texts types) keyword.Volatile) ts ≡ false → at_next (goes_on_void (reading texts types)) ts ≡ false → BehindVoid ((more k).parameters types (v ∷ ts)) ts)
    (Volatile : (k : ℕ) → 2 ≤ m - k → (v : Token) (ts : List Token) → is_keyword (reading texts types) keyword.Void v ≡ true → at_next (is_keyword (reading texts types) keyword.Volatile) ts ≡ true
    → (more k).parameters types (v ∷ ts) ≡ stop expr.volatile (length ts)) where
  pub on_wider : (base : TypeTree) → Wider (on texts n part types functions may_lack base) (on texts m more types functions may_lack base)
  on_wider base =
      declarators_wider (reading texts types) functions may_lack n m le part more Parameters Barred Void Volatile (n - depth_of_type base) (m - depth_of_type base) 0 (omega arith)
