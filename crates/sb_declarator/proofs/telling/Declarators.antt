-- Why the readers of declarators stop.
use Rattle.std.proofs.Common.{◌≡◌, ◌-◌, ℕ, zero, suc, Bool, true, false, ◌||◌, ◌&&◌, not, List, [], ◌∷◌, length, nat_lt, if◌then◌else◌, refl}
use Rattle.sb_base.specs.declared.interning.Name.{Name}
use Rattle.sb_base.specs.declared.tokens.Token.{Token}
use Rattle.sb_parse.specs.Parser.{Parser, done, stop, at_next, ◌>>=◌, pure, refuse, token, taken, looped}
use Rattle.sb_parse.proofs.Heads.{either_passes}
use Rattle.sb_sign.specs.declared.sign.Keyword.TheVariants as keyword
use Rattle.sb_tree.specs.Trees as tree
use Rattle.sb_parse.specs.Descent.{descent}
use Rattle.sb_expr.specs.Expression.{Assignment}
use Rattle.sb_lexicon.specs.Lexicon.{Lexicon, is_keyword, is_type_name}
use Rattle.sb_operand.specs.Pieces.{points}
use Rattle.sb_lexicon.specs.Tokens as expr
use Rattle.sb_expr.specs.Readers.{expr_reader}
use Rattle.sb_lexicon.specs.Tokens.{unexpected, is_zero, is_star, is_open, is_close, is_open_bracket, is_close_bracket, is_qualifier}
use Rattle.sb_parse.proofs.Ways.{or_first, or_second}
use Rattle.sb_sal.specs.Spellings.{begins_note}
use Rattle.sb_parse.proofs.Explaining.{next_is}
use Rattle.sb_specifier.specs.declared.seat.Seat.TheVariants as seat
use Rattle.sb_specifier.specs.Specified.{reading, is_function, is_bare, one_if}
use Rattle.sb_declarator.specs.Readers as reader
use Rattle.sb_specifier.specs.Readers.{Declarator, Declarations, Parts, is_name, name_at, begins_parameter, old_definition, goes_on_void}
use Rattle.sb_declarator.specs.Readers.{qualifier, pointed, inside, in_parentheses, name_or_none, first, size, sized, is_size_word, size_word, outermost_size, arrayed, only_void, void_parameters, some_parameters, parameters, called, suffixed, is_suffix, direct, declarator_at, declarators}
use Rattle.sb_specifier.specs.Reasons.{behind_void, needs_room}
use Rattle.sb_specifier.proofs.telling.Shown.{abstract_needs, word_needs, volatile_telling, barred_telling}
use Rattle.sb_specifier.proofs.telling.Reasons.{reasons, refusing_feature, barring, expr_telling}
use Rattle.sb_parse.proofs.Telling.{still, Tells, Telling, TellingAt, tells_behind, one_by_one, giving, refusing, a_token, token_turn, a_value, by_choice, choosing, choosing_any, choosing_second, by_test, turning}

module _ (texts : List (List ℕ)) (types : List Name) (functions may_lack : Bool) (below : ℕ) (part : ℕ → Parts) (P : (k : ℕ) (types : List Name) → Telling (reasons texts) ((part k).parameters types)) (room : ℕ) (rest : ℕ → Parser Token Declarator)
    (R : (k : ℕ) → Telling (reasons texts) (rest k)) where
  abbrev w : Lexicon
  w = reading texts types

  star_needs : (t : Token) → is_star w t ≡ true → needs_room w t ≡ true
  star_needs t h = abstract_needs w t (or_first (is_star w t) (is_open w t || is_open_bracket w t) h)

  open_needs : (t : Token) → is_open w t ≡ true → needs_room w t ≡ true
  open_needs t h = abstract_needs w t (or_second (is_star w t) (is_open w t || is_open_bracket w t) (or_first (is_open w t) (is_open_bracket w t) h))

  bracket_needs : (t : Token) → is_open_bracket w t ≡ true → needs_room w t ≡ true
  bracket_needs t h = abstract_needs w t (or_second (is_star w t) (is_open w t || is_open_bracket w t) (or_second (is_open w t) (is_open_bracket w t) h))

  -- ---- pointers

  qualifier_at : (c : Bool) → TellingAt (reasons texts) (is_qualifier w) (qualifier w functions may_lack below part room rest c)
  unfolding qualifier
  qualifier_at c ts h =
      by_choice (reasons texts) (at_next (is_keyword w keyword.Const) ts) _ _ ts
      (λ k. barring texts types (is_keyword w keyword.Const) (nat_lt room 2) _ (λ t e. word_needs w keyword.Const refl t e) (λ e us l. one_by_one (reasons texts) (token unexpected (is_keyword w keyword.Const)) (λ t. pure true) (a_token (reasons texts) (is_keyword w keyword.Const)) (λ t. giving (reasons texts) true) us) ts k)
      (λ k. by_choice (reasons texts) (at_next (is_keyword w keyword.Restrict) ts) _ _ ts (λ l. one_by_one (reasons texts) (token unexpected (is_keyword w keyword.Restrict)) (λ t. pure c) (a_token (reasons texts) (is_keyword w keyword.Restrict)) (λ t. giving (reasons texts) c) ts)
      (λ l. volatile_telling texts types Bool ts
      (either_passes (is_keyword w keyword.Restrict) (is_keyword w keyword.Volatile) ts (either_passes (is_keyword w keyword.Const) (λ t. is_keyword w keyword.Restrict t || is_keyword w keyword.Volatile t) ts h k) l)))

  pointed_telling : Telling (reasons texts) (pointed w functions may_lack below part room rest)
  unfolding pointed
  pointed_telling =
      one_by_one (reasons texts) (token unexpected (is_star w)) _ (a_token (reasons texts) (is_star w)) (λ t. one_by_one (reasons texts) (looped (is_qualifier w) (qualifier w functions may_lack below part room rest) false) _
      (turning (reasons texts) (is_qualifier w) (qualifier w functions may_lack below part room rest) qualifier_at false) (λ c. one_by_one (reasons texts) (rest (one_if c)) _ (R (one_if c)) (λ d. still)))

  -- ---- parentheses and names

  inside_telling : (o : Token) → Telling (reasons texts) (inside w functions may_lack below part room rest o)
  unfolding inside
  inside_telling o = one_by_one (reasons texts) (rest 0) _ (R 0) (λ d. one_by_one (reasons texts) (token unexpected (is_close w)) _ (a_token (reasons texts) (is_close w)) (λ c. still))

  parentheses_telling : Telling (reasons texts) (in_parentheses w functions may_lack below part room rest)
  unfolding in_parentheses
  parentheses_telling =
      one_by_one (reasons texts) (token unexpected (is_open w)) _ (a_token (reasons texts) (is_open w)) (λ o. by_test (reasons texts) may_lack _ _
      (choosing_any (reasons texts) (reader.begins_inner w functions may_lack below part room rest) (inside w functions may_lack below part room rest o) _ (inside_telling o)
      (choosing (reasons texts) (λ t. is_close w t || begins_parameter w t) (refuse expr.function_pointer) (refuse unexpected)
      (refusing_feature texts Declarator types (λ t. is_close w t || begins_parameter w t) 4 (λ t h. or_second (is_open w t) (is_close w t || begins_parameter w t) h)) (refusing (reasons texts) Declarator)))
      (inside_telling o))

  name_telling : Telling (reasons texts) (taken unexpected (name_at w) >>= (λ n. pure (reader.named w functions may_lack below part room rest n)))
  name_telling = one_by_one (reasons texts) (taken unexpected (name_at w)) _ (a_value (reasons texts) (name_at w)) (λ n. still)

  name_or_none_telling : Telling (reasons texts) (name_or_none w functions may_lack below part room rest)
  unfolding name_or_none
  name_or_none_telling = by_test (reasons texts) may_lack _ _ (choosing_any (reasons texts) (is_name w) _ _ name_telling (giving (reasons texts) (reader.unnamed w functions may_lack below part room rest))) name_telling

  first_telling : Telling (reasons texts) (first w functions may_lack below part room rest)
  unfolding first
  first_telling = choosing (reasons texts) (is_open w) _ _ (barring texts types (is_open w) (is_zero room) _ open_needs (λ e ts h. parentheses_telling ts)) name_or_none_telling

  -- ---- arrays

  size_telling : (n : ℕ) → Telling (reasons texts) (size w functions may_lack below part room rest n)
  unfolding size
  size_telling n = one_by_one (reasons texts) (expr_reader w (below - suc n) Assignment) _ (expr_telling texts types (below - suc n) Assignment) (λ e. giving (reasons texts) (tree.AnExpr e))

  sized_telling : (n : ℕ) → Telling (reasons texts) (sized w functions may_lack below part room rest n)
  unfolding sized
  sized_telling n = choosing_any (reasons texts) (is_close_bracket w) _ _ (giving (reasons texts) tree.NoExpr) (size_telling n)

  size_word_telling : (found : Bool × Bool) → Telling (reasons texts) (size_word w functions may_lack below part room rest found)
  unfolding size_word
  size_word_telling found ts =
      by_choice (reasons texts) (at_next (λ t. is_keyword w keyword.Static t && not found.1) ts) _ _ ts
      (λ h. one_by_one (reasons texts) (token unexpected (is_keyword w keyword.Static)) (λ t. pure (found.0, true)) (a_token (reasons texts) (is_keyword w keyword.Static)) (λ t. giving (reasons texts) {A = Bool × Bool} (found.0, true)) ts)
      (λ h. by_choice (reasons texts) (found.0 && found.1) _ _ ts (λ k. refusing (reasons texts) (Bool × Bool) ts) (λ k. choosing (reasons texts) (is_keyword w keyword.Volatile) (refuse {T = Token} {A = Bool × Bool} expr.volatile) _ (volatile_telling texts types (Bool × Bool))
      (one_by_one (reasons texts) (token unexpected (is_qualifier w)) (λ t. pure (not found.1, found.1)) (a_token (reasons texts) (is_qualifier w)) (λ t. giving (reasons texts) {A = Bool × Bool} (not found.1, found.1))) ts))

  outermost_telling : (n : ℕ) → Telling (reasons texts) (outermost_size w functions may_lack below part room rest n)
  unfolding outermost_size
  outermost_telling n =
      one_by_one (reasons texts) (looped (is_size_word w functions may_lack below part room rest) (size_word w functions may_lack below part room rest) (false, false)) _
      (turning (reasons texts) (is_size_word w functions may_lack below part room rest) (size_word w functions may_lack below part room rest) (λ b ts h. size_word_telling b ts) (false, false)) (λ found. by_test (reasons texts) found.1 _ _ (size_telling n) (sized_telling n))

  arrayed_at : (d : Declarator) → TellingAt (reasons texts) (is_open_bracket w) (arrayed w functions may_lack below part room rest d)
  unfolding arrayed
  arrayed_at d =
      barring texts types (is_open_bracket w) (nat_lt room (suc (length d.pieces))) _ bracket_needs (λ e ts h. one_by_one (reasons texts) (token unexpected (is_open_bracket w)) _ (a_token (reasons texts) (is_open_bracket w)) (λ o.
      one_by_one (reasons texts) (if may_lack && is_bare d.pieces then outermost_size w functions may_lack below part room rest (length d.pieces) else sized w functions may_lack below part room rest (length d.pieces)) _
      (by_test (reasons texts) (may_lack && is_bare d.pieces) _ _ (outermost_telling (length d.pieces)) (sized_telling (length d.pieces)))
      (λ e. one_by_one (reasons texts) (token unexpected (is_close_bracket w)) _ (a_token (reasons texts) (is_close_bracket w)) (λ c. still))) ts)

  -- ---- functions

  abbrev is_void : Token → Bool
  is_void = is_keyword w keyword.Void

  behind_void_tells : (v : Token) → is_void v ≡ true → (ts : List Token) → Tells (reasons texts) (v ∷ ts) (reader.behind_void w functions may_lack below part room rest ts)
  unfolding reader.behind_void
  behind_void_tells v h ts =
      by_choice (reasons texts) (at_next (is_close w) ts) (done (reader.no_parameters w functions may_lack below part room rest) ts) _ (v ∷ ts) (λ k. record { front = v ∷ []; split = refl })
      (λ k. by_choice (reasons texts) (at_next (is_keyword w keyword.Volatile) ts) _ _ (v ∷ ts) (λ l. tells_behind (reasons texts) {A = Declarations} (v ∷ []) ts (stop expr.volatile (length ts)) (volatile_telling texts types Declarations ts l))
      (λ l. by_choice (reasons texts) (at_next (goes_on_void w) ts) _ _ (v ∷ ts)
      (λ m. let t = next_is (goes_on_void w) ts m in record { front = v ∷ []; bad = ts; split = refl; left_is = refl; why = behind_void types [] v t.0 t.1 refl h t.2 t.3 })
      (λ m. tells_behind (reasons texts) {A = Declarations} (v ∷ []) ts (stop unexpected (length ts)) (refusing (reasons texts) Declarations ts))))

  only_void_telling : Telling (reasons texts) (only_void w functions may_lack below part room rest)
  unfolding only_void
  only_void_telling = choosing_any (reasons texts) is_void _ _ (token_turn (reasons texts) is_void (λ t. reader.behind_void w functions may_lack below part room rest) (λ t h ts. behind_void_tells t h ts)) (barred_telling texts types Declarations seat.Prototype)

  void_telling : Telling (reasons texts) (void_parameters w functions may_lack below part room rest)
  unfolding void_parameters
  void_telling = one_by_one (reasons texts) (token unexpected is_void) _ (a_token (reasons texts) is_void) (λ t. still)

  some_telling : (n : ℕ) → Telling (reasons texts) (some_parameters w functions may_lack below part room rest n)
  unfolding some_parameters
  some_telling n =
      by_test (reasons texts) (nat_lt (below - suc n) 2) _ _ only_void_telling
      (choosing_any (reasons texts) is_void _ _ (choosing_second (reasons texts) (is_close w) (void_parameters w functions may_lack below part room rest) ((part (suc n)).parameters types) void_telling (P (suc n) types)) (P (suc n) types))

  parameters_telling : (n : ℕ) → Telling (reasons texts) (parameters w functions may_lack below part room rest n)
  unfolding parameters
  parameters_telling n =
      choosing (reasons texts) (λ t. is_close w t || (is_name w t && not (is_type_name w t || begins_note w t))) (refuse old_definition) _
      (refusing_feature texts Declarations types (λ t. is_close w t || (is_name w t && not (is_type_name w t || begins_note w t))) 9 (λ t h. h)) (some_telling n)

  called_at : (d : Declarator) → TellingAt (reasons texts) (is_open w) (called w functions may_lack below part room rest d)
  unfolding called
  called_at d =
      barring texts types (is_open w) (nat_lt room (suc (length d.pieces))) _ open_needs (λ e ts h. one_by_one (reasons texts) (token unexpected (is_open w)) _ (a_token (reasons texts) (is_open w)) (λ o.
      one_by_one (reasons texts) (parameters w functions may_lack below part room rest (length d.pieces)) _ (parameters_telling (length d.pieces))
      (λ ps. one_by_one (reasons texts) (token unexpected (is_close w)) _ (a_token (reasons texts) (is_close w)) (λ c. still))) ts)

  -- ---- declarators

  by_test_at : {A : Type 0} (goes : Token → Bool) (b : Bool) (p q : Parser Token A) → TellingAt (reasons texts) goes p → TellingAt (reasons texts) goes q → TellingAt (reasons texts) goes (if b then p else q)
  by_test_at goes true p q X Y = X
  by_test_at goes false p q X Y = Y

  suffixed_at : (d : Declarator) → TellingAt (reasons texts) (is_suffix w functions may_lack below part room rest) (suffixed w functions may_lack below part room rest d)
  unfolding suffixed
  suffixed_at d ts h =
      by_choice (reasons texts) (at_next (is_open_bracket w) ts) _ _ ts
      (λ k. by_test_at (is_open_bracket w) (is_function d.pieces) (refuse unexpected) (arrayed w functions may_lack below part room rest d) (λ us l. refusing (reasons texts) Declarator us) (arrayed_at d) ts k)
      (λ k. by_test_at (is_open w) (is_bare d.pieces && functions) (called w functions may_lack below part room rest d) _ (called_at d)
      (by_test_at (is_open w) (is_bare d.pieces || points d.pieces) (refuse expr.function_pointer) (refuse unexpected)
      (refusing_feature texts Declarator types (is_open w) 4 (λ t l. or_first (is_open w t) (is_close w t || begins_parameter w t) l)) (λ us l. refusing (reasons texts) Declarator us)) ts (either_passes (is_open_bracket w) (is_open w) ts h k))

  direct_telling : Telling (reasons texts) (direct w functions may_lack below part room rest)
  unfolding direct
  direct_telling =
      one_by_one (reasons texts) (first w functions may_lack below part room rest) _ first_telling
      (λ d. turning (reasons texts) (is_suffix w functions may_lack below part room rest) (suffixed w functions may_lack below part room rest) suffixed_at d)

  pub declarator_telling : Telling (reasons texts) (declarator_at w functions may_lack below part room rest)
  unfolding declarator_at
  declarator_telling = choosing (reasons texts) (is_star w) _ _ (barring texts types (is_star w) (is_zero room) _ star_needs (λ e ts h. pointed_telling ts)) direct_telling

-- ---- with any room

module _ (texts : List (List ℕ)) (types : List Name) (functions may_lack : Bool) (below : ℕ) (part : ℕ → Parts) (P : (k : ℕ) (types : List Name) → Telling (reasons texts) ((part k).parameters types)) where
  up_to : (room k : ℕ) → Telling (reasons texts) (declarators (reading texts types) functions may_lack below part room k)
  unfolding descent
  up_to zero k = declarator_telling texts types functions may_lack below part P 0 (λ k. refuse unexpected) (λ k. refusing (reasons texts) Declarator)
  up_to (suc n) zero = declarator_telling texts types functions may_lack below part P (suc n) (declarators (reading texts types) functions may_lack below part n) (up_to n)
  up_to (suc n) (suc k) = up_to n k

  pub declarators_telling : (room : ℕ) → Telling (reasons texts) (declarators (reading texts types) functions may_lack below part room 0)
  declarators_telling room = up_to room 0
