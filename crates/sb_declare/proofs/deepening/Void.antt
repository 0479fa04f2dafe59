-- What parameters with room read behind `void` as their first token, where a parameter goes on: they get past the token behind it.
use Rattle.std.proofs.Common.{◌≡◌, ◌≤◌, ◌-◌, ℕ, zero, suc, Bool, true, false, ◌||◌, ◌&&◌, List, [], ◌∷◌, ◌++◌, length, take, nat_lt, Option, Some, None, is_some, if◌then◌else◌, refl, sym, ap, ◌∙◌, subst, arith}
use Rattle.std.specs.Option.{option_map_or}
use Rattle.sb_base.specs.declared.interning.Name.{Name}
use Rattle.sb_base.specs.declared.refusals.Place.{Place}
use Rattle.sb_base.specs.declared.tokens.Token.{Token}
use Rattle.sb_parse.specs.Descent.{descent}
use Rattle.sb_parse.specs.Parser.{Parser, done, stop, at_next, and_then, ◌>>=◌, pure, token, taken, refuse, choose, loop, looped}
use Rattle.sb_sign.specs.declared.sign.Keyword.{Keyword}
use Rattle.sb_sign.specs.declared.sign.Keyword.TheVariants as keyword
use Rattle.sb_sign.specs.declared.sign.Mark.{Mark}
use Rattle.sb_sign.specs.declared.sign.Mark.TheVariants as mark
use Rattle.sb_sign.specs.Signs as sign
use Rattle.sb_tree.specs.Trees.{TypeTree, DeclTree}
use Rattle.sb_lexicon.specs.Lexicon.{Lexicon, is_mark, is_keyword, is_type_keyword, name_of}
use Rattle.sb_operand.specs.Pieces.{points}
use Rattle.sb_lexicon.specs.Tokens as expr
use Rattle.sb_operand.specs.Readers.{begins_abstract}
use Rattle.sb_lexicon.specs.Tokens.{unexpected, too_deep, is_zero, is_comma, is_star, is_open, is_open_bracket}
use Rattle.sb_lexicon.proofs.Depths.{room_within, some_room}
use Rattle.sb_lexicon.proofs.Lexemes.{keyword_is, mark_is, mark_no_keyword, name_no_keyword}
use Rattle.sb_parse.proofs.Ways.{first_fails, second_fails}
use Rattle.sb_sal.proofs.Deepening.{Past, Shrinks, past_then, past_bind, enters, enters_taken, most_at, shrinks_pure, shrinks_refuse, shrinks_then, shrinks_choose, shrinks_looped}
use Rattle.sb_specifier.specs.declared.seat.Seat.TheVariants as seat
use Rattle.sb_specifier.specs.Specified.{reading, Specified, constantly, base_of, without, is_bare}
use Rattle.sb_specifier.specs.Readers as reader
use Rattle.sb_parse.specs.Texts.{with_front}
use Rattle.sb_declarator.specs.Readers.{first_place, member_of, on, parameter, another_parameter, next_parameter, parameters_at, arrayed, declarators, declarator_at, direct, first, in_parentheses, name_or_none, pointed, suffixed, called, is_suffix, unnamed, named}
use Rattle.sb_specifier.specs.Readers.{is_name, name_at, is_specifier_word, is_storage_keyword, Declarator, Declarations, Parts, is_inline, past_tag, specified, defined, completed, specifiers, goes_on_void}
use Rattle.sb_declare.proofs.deepening.Barred.{MembersShrink, ParametersShrink, by_done, by_token}
use Rattle.sb_declare.proofs.widening.Barred.{is_word, specified_by, by_specifier, behind_one}
use Rattle.sb_derivation.proofs.laws.Beginnings.{mark_is_no_name}
use Rattle.sb_declarator.proofs.deepening.Shrinks.{starred, starred_shrinks, enclosed, enclosed_shrinks, bracketed, bracketed_shrinks, suffixed_shrinks, declarators_shrink}
use Rattle.sb_declarator.proofs.deepening.Members.{past_front}
use Rattle.sb_declarator.proofs.deepening.Shrinking.{shrinks_loop, specified_shrinks, defined_shrinks, completed_shrinks, on_shrinks, another_shrinks, next_parameter_shrinks}
use Rattle.sb_declare.proofs.widening.Void.{no_declarator, voided, base, said, said_alone, none, no_text, from_type, one_parameter}

either_of : {R : Type 0} (a b : Bool) → (a || b) ≡ true → (a ≡ true → R) → (a ≡ false → b ≡ true → R) → R
either_of true b h P Q = P refl
either_of false b h P Q = Q refl h

-- ---- a parameter's declarator that begins with this token

module _ (w : Lexicon) (m : ℕ) (part : ℕ → Parts) (P : (k : ℕ) → 2 ≤ m - k → Shrinks ((part k).parameters w.types)) (u : Token) (us : List Token) where
  abbrev all : ℕ
  all = suc (length us)

  module _ (room : ℕ) where
    abbrev rest : ℕ → Parser Token Declarator
    rest = declarators w false true m part room

    Rest : (k : ℕ) → Shrinks (rest k)
    Rest k = declarators_shrink w false true m part P room k

    abbrev here : Parser Token Declarator
    here = declarator_at w false true m part (suc room) rest

    by_star : is_star w u ≡ true → Past all (here (u ∷ us))
    unfolding declarator_at pointed
    by_star h =
        subst (λ b. Past all (if b then (token unexpected (is_star w) >>= starred w false true m part P (suc room) rest Rest) (u ∷ us) else direct w false true m part (suc room) rest (u ∷ us))) (sym h)
        (enters unexpected (is_star w) (starred w false true m part P (suc room) rest Rest) (starred_shrinks w false true m part P (suc room) rest Rest) (u ∷ us) h)

    -- without a star
    abbrev suffixes : Declarator → Parser Token Declarator
    suffixes = looped (is_suffix w false true m part (suc room) rest) (suffixed w false true m part (suc room) rest)

    by_direct : is_star w u ≡ false → Past all (and_then (first w false true m part (suc room) rest (u ∷ us)) suffixes) → Past all (here (u ∷ us))
    unfolding declarator_at direct
    by_direct h Q = subst (λ b. Past all (if b then pointed w false true m part (suc room) rest (u ∷ us) else and_then (first w false true m part (suc room) rest (u ∷ us)) suffixes)) (sym h) Q

    behind_first : Past all (first w false true m part (suc room) rest (u ∷ us)) → Past all (and_then (first w false true m part (suc room) rest (u ∷ us)) suffixes)
    behind_first Q =
        past_then all (first w false true m part (suc room) rest (u ∷ us)) suffixes Q
        (λ d left e. most_at (suffixes d) (shrinks_looped (is_suffix w false true m part (suc room) rest) (suffixed w false true m part (suc room) rest) (suffixed_shrinks w false true m part P (suc room) rest Rest) d) left)

    enclosed_first : is_open w u ≡ true → Past all (first w false true m part (suc room) rest (u ∷ us))
    unfolding first in_parentheses
    enclosed_first k =
        subst (λ b. Past all (if b then (token unexpected (is_open w) >>= enclosed w false true m part P (suc room) rest Rest) (u ∷ us) else name_or_none w false true m part (suc room) rest (u ∷ us))) (sym k)
        (enters unexpected (is_open w) (enclosed w false true m part P (suc room) rest Rest) (enclosed_shrinks w false true m part P (suc room) rest Rest) (u ∷ us) k)

    by_open : is_star w u ≡ false → is_open w u ≡ true → Past all (here (u ∷ us))
    by_open h k = by_direct h (behind_first (enclosed_first k))

    -- without a parenthesis
    first_as : is_open w u ≡ false → first w false true m part (suc room) rest (u ∷ us) ≡ name_or_none w false true m part (suc room) rest (u ∷ us)
    unfolding first
    first_as k = ap (λ b. if b then in_parentheses w false true m part (suc room) rest (u ∷ us) else name_or_none w false true m part (suc room) rest (u ∷ us)) k

    abbrev from_name : Parser Token Declarator
    from_name = taken unexpected (name_at w) >>= (λ n. pure (named w false true m part (suc room) rest n))

    gives_name : is_name w u ≡ true → is_some (name_at w u) ≡ true
    gives_name h = by_value (name_of w u) h
      where
        by_value : (o : Option Name) → is_some o ≡ true → is_some {T = Name × Place} (option_map_or (λ n. Some (n, u.place)) o None) ≡ true
        by_value None k = absurd (cc k)
        by_value (Some n) k = refl

    name_first : is_name w u ≡ true → Past all (name_or_none w false true m part (suc room) rest (u ∷ us))
    unfolding name_or_none
    name_first k =
        subst (λ b. Past all (if b then from_name (u ∷ us) else done (unnamed w false true m part (suc room) rest) (u ∷ us))) (sym k)
        (enters_taken unexpected (name_at w) (λ n. pure (named w false true m part (suc room) rest n)) (λ n. shrinks_pure (named w false true m part (suc room) rest n)) (u ∷ us) (gives_name k))

    by_name : is_star w u ≡ false → is_open w u ≡ false → is_name w u ≡ true → Past all (here (u ∷ us))
    by_name h k l = by_direct h (behind_first (subst (Past all) (sym (first_as k)) (name_first l)))

    abbrev nothing : Declarator
    nothing = unnamed w false true m part (suc room) rest

    none_first : is_name w u ≡ false → name_or_none w false true m part (suc room) rest (u ∷ us) ≡ done nothing (u ∷ us)
    unfolding name_or_none
    none_first k = ap (λ b. if b then from_name (u ∷ us) else done nothing (u ∷ us)) k

    array_past : is_open_bracket w u ≡ true → Past all (suffixed w false true m part (suc room) rest nothing (u ∷ us))
    unfolding suffixed arrayed
    array_past h =
        subst (λ b. Past all (if b then (if nat_lt (suc room) 1 then stop too_deep all else (token unexpected (is_open_bracket w) >>= bracketed w false true m part P (suc room) rest Rest nothing) (u ∷ us))
        else (if is_bare nothing.pieces && false then called w false true m part (suc room) rest nothing else (if is_bare nothing.pieces || points nothing.pieces then refuse expr.function_pointer else refuse unexpected)) (u ∷ us))) (sym h)
        (subst (λ b. Past all (if b then stop too_deep all else (token unexpected (is_open_bracket w) >>= bracketed w false true m part P (suc room) rest Rest nothing) (u ∷ us))) (sym (room_within (suc room) 1 (omega arith)))
        (enters unexpected (is_open_bracket w) (bracketed w false true m part P (suc room) rest Rest nothing) (bracketed_shrinks w false true m part P (suc room) rest Rest nothing) (u ∷ us) h))

    suffix_past : is_open_bracket w u ≡ true → Past all (suffixes nothing (u ∷ us))
    unfolding loop
    suffix_past h =
        subst (λ b. Past all (if b then and_then (suffixed w false true m part (suc room) rest nothing (u ∷ us))
        (loop (is_suffix w false true m part (suc room) rest) (suffixed w false true m part (suc room) rest) (length us)) else done nothing (u ∷ us)))
        (sym (ap (λ b. b || is_open w u) h))
        (past_then all (suffixed w false true m part (suc room) rest nothing (u ∷ us)) (loop (is_suffix w false true m part (suc room) rest) (suffixed w false true m part (suc room) rest) (length us)) (array_past h)
        (λ d left e. most_at (loop (is_suffix w false true m part (suc room) rest) (suffixed w false true m part (suc room) rest) (length us) d)
        (shrinks_loop (is_suffix w false true m part (suc room) rest) (suffixed w false true m part (suc room) rest) (suffixed_shrinks w false true m part P (suc room) rest Rest) (length us) d) left))

    by_bracket : is_star w u ≡ false → is_open w u ≡ false → is_name w u ≡ false → is_open_bracket w u ≡ true → Past all (here (u ∷ us))
    by_bracket h k l b = by_direct h (subst (λ o. Past all (and_then o suffixes)) (sym (first_as k ∙ none_first l)) (suffix_past b))

  -- with room for it
  abbrev Begins : Type 0
  Begins = (room : ℕ) → Past all (declarator_at w false true m part (suc room) (declarators w false true m part room) (u ∷ us))

  in_room : Begins → (room : ℕ) → is_zero room ≡ false → Past all (declarators w false true m part room 0 (u ∷ us))
  unfolding descent
  in_room B zero h = absurd (cc h)
  in_room B (suc room) h = B room

-- ---- parameters behind `void`

module _ (texts : List (List ℕ)) (types : List Name) (m : ℕ) (part : ℕ → Parts) (Members : MembersShrink m part) (Parameters : ParametersShrink m part) (enough : 2 ≤ m) (v : Token) (u : Token) (us : List Token)
    (void : is_keyword (reading texts types) keyword.Void v ≡ true) where
  abbrev here_in : Lexicon
  here_in = reading texts types

  abbrev ts : List Token
  ts = u ∷ us

  abbrev left : ℕ
  left = suc (length us)

  abbrev so_far : Specified
  so_far = voided texts m part types v ts void

  abbrev as_type : TypeTree
  as_type = base texts m part types v ts void

  abbrev Read : Type 0
  Read = Past left (parameters_at texts m part types (v ∷ ts))

  -- what follows one parameter
  turns : Past left (parameter texts m part (none texts m part types v ts void) (v ∷ ts)) → Read
  unfolding parameters_at
  turns Q =
      past_bind (parameter texts m part (none texts m part types v ts void)) (looped (is_comma here_in) (next_parameter texts m part)) left (v ∷ ts) Q
      (λ ds. shrinks_looped (is_comma here_in) (next_parameter texts m part) (next_parameter_shrinks texts m part Members Parameters) ds)

  abbrev behind_type : (Specified × TypeTree) × List Token → Parser Token Declarations
  behind_type = from_type texts m part types v ts void ([], no_text texts m part types v ts void)

  type_shrinks : (s : (Specified × TypeTree) × List Token) → Shrinks (behind_type s)
  type_shrinks s = shrinks_then (on texts m part s.0.0.types false true s.0.1) _ (on_shrinks texts m part Members Parameters s.0.0.types false true s.0.1) (λ d. shrinks_pure _)

  -- ---- a word more

  by_specifiers : Past left (specifiers texts seat.Prototype m part types (v ∷ ts)) → Read
  by_specifiers Q =
      turns (subst (Past left) (sym (one_parameter texts m part types v ts void))
      (past_then left (with_front (v ∷ ts) (specifiers texts seat.Prototype m part types (v ∷ ts))) behind_type (past_front left (v ∷ ts) (specifiers texts seat.Prototype m part types (v ∷ ts)) Q)
      (λ s rest e. most_at (behind_type s) (type_shrinks s) rest)))

  abbrev more_words : Specified → Parser Token Specified
  more_words = loop (is_specifier_word (reading texts [])) (specified texts seat.Prototype m part) (length us)

  one_more : is_specifier_word here_in u ≡ true → Past left (specified texts seat.Prototype m part so_far ts) → Past left (behind_one texts types m part seat.Prototype v ts so_far ts)
  unfolding loop
  one_more h Q =
      subst (λ b. Past left (if b then and_then (specified texts seat.Prototype m part so_far ts) more_words else done so_far ts)) (sym h)
      (past_then left (specified texts seat.Prototype m part so_far ts) more_words Q
      (λ s rest e. most_at (more_words s) (shrinks_loop (is_specifier_word (reading texts [])) (specified texts seat.Prototype m part) (specified_shrinks texts seat.Prototype m part Members) (length us) s) rest))

  by_word : is_specifier_word here_in u ≡ true → Past left (specified texts seat.Prototype m part so_far ts) → Read
  by_word h Q =
      by_specifiers (subst (Past left) (sym (said texts m part types v ts void))
      (past_then left (and_then (behind_one texts types m part seat.Prototype v ts so_far ts) (defined texts seat.Prototype m part)) (λ s. completed texts seat.Prototype m part s (base_of s))
      (past_then left (behind_one texts types m part seat.Prototype v ts so_far ts) (defined texts seat.Prototype m part) (one_more h Q)
      (λ s rest e. most_at (defined texts seat.Prototype m part s) (defined_shrinks texts seat.Prototype m part Members s) rest))
      (λ s rest e. most_at (completed texts seat.Prototype m part s (base_of s)) (completed_shrinks texts seat.Prototype m part Members s (base_of s)) rest)))

  abbrev Said : Keyword → Type 0
  Said k = Past left (specified_by texts seat.Prototype m part so_far u us (Some k))

  by_key : (k : Keyword) → (is_type_keyword k || is_storage_keyword k) ≡ true → is_keyword here_in k u ≡ true → (sign.keyword_of texts u ≡ Some k → Said k) → Read
  by_key k good h Q =
      by_word (ap (λ o. option_map_or is_type_keyword o false || option_map_or is_storage_keyword o false) (keyword_is here_in k u h) ∙ good)
      (subst (Past left) (sym (by_specifier texts seat.Prototype m part so_far u us (Some k) (keyword_is here_in k u h))) (Q (keyword_is here_in k u h)))

  token_past : (test : Token → Bool) (s : Specified) → test u ≡ true → Past left (and_then ((token unexpected test >>= (λ t. pure s)) ts) (past_tag texts seat.Prototype m part))
  token_past = by_token texts types seat.Prototype m part Members u us

  by_const : is_keyword here_in keyword.Const u ≡ true → Read
  by_const h =
      by_key keyword.Const refl h
      (λ k. subst (λ b. Past left (and_then (if b then stop too_deep left else (token unexpected (is_keyword here_in keyword.Const) >>= (λ t. pure (constantly so_far))) ts) (past_tag texts seat.Prototype m part)))
      (sym (room_within m 2 enough)) (token_past (is_keyword here_in keyword.Const) (constantly so_far) h))

  by_restrict : is_keyword here_in keyword.Restrict u ≡ true → Read
  by_restrict h = by_key keyword.Restrict refl h (λ k. token_past (is_keyword here_in keyword.Restrict) so_far h)

  by_register : is_keyword here_in keyword.Register u ≡ true → Read
  by_register h = by_key keyword.Register refl h (λ k. by_done texts types seat.Prototype m part Members u us _)

  by_inline : is_keyword here_in keyword.Inline u ≡ true → Read
  by_inline h = by_key keyword.Inline refl h (λ k. token_past (is_inline texts seat.Prototype m part so_far) so_far (ap (λ o. is_word keyword.Inline o && true) k))

  -- ---- no word more

  by_mark : (k : Mark) → is_mark here_in k u ≡ true → is_specifier_word here_in u ≡ false
  by_mark k h = ap (λ o. option_map_or is_type_keyword o false || option_map_or is_storage_keyword o false) (mark_no_keyword here_in k u (mark_is here_in k u h))

  name_no_word : is_name here_in u ≡ true → is_specifier_word here_in u ≡ false
  name_no_word h = by_value (name_of here_in u) refl h
    where
      by_value : (o : Option Name) → name_of here_in u ≡ o → is_some o ≡ true → is_specifier_word here_in u ≡ false
      by_value None e k = absurd (cc k)
      by_value (Some n) e k = ap (λ o. option_map_or is_type_keyword o false || option_map_or is_storage_keyword o false) (name_no_keyword here_in n u e)

  abbrev front_of_type : (Specified × TypeTree) × List Token
  front_of_type = ((so_far, as_type), take (length (v ∷ ts) - length ts) (v ∷ ts))

  alone : is_specifier_word here_in u ≡ false → parameter texts m part (none texts m part types v ts void) (v ∷ ts) ≡ behind_type front_of_type ts
  alone h = one_parameter texts m part types v ts void ∙ ap (λ o. and_then (with_front (v ∷ ts) o) behind_type) (said_alone texts m part types v ts void h)

  room_there : is_zero (m - 1) ≡ false
  room_there = some_room (m - 1) 1 (omega arith) (omega (arith, enough))

  by_declarator : is_specifier_word here_in u ≡ false → Begins here_in m part (λ k enough. Parameters k enough types) u us → Read
  by_declarator h B =
      turns (subst (Past left) (sym (alone h))
      (past_then left (on texts m part types false true as_type ts) _ (in_room here_in m part (λ k enough. Parameters k enough types) u us B (m - 1) room_there) (λ d rest e. most_at _ (shrinks_pure _) rest)))

  -- a comma: a parameter is read before it
  done_there : is_specifier_word here_in u ≡ false → begins_abstract here_in u ≡ false → is_name here_in u ≡ false
      → (d : DeclTree) × (parameter texts m part (none texts m part types v ts void) (v ∷ ts) ≡ done (reader.one_more (none texts m part types v ts void) d types) ts)
  done_there h abstract nameless =
      (tree_of, alone h ∙ ap (λ o. and_then o continued) (no_declarator here_in m part ts abstract nameless (m - 1)))
    where
      unnamed_one : Declarator
      unnamed_one = record { pieces = []; name = None; inner = types }

      place_of : Place
      place_of = first_place texts m part (no_text texts m part types v ts void ++ front_of_type.1)

      tree_of : DeclTree
      tree_of = member_of texts m part [] as_type unnamed_one place_of

      continued : Declarator → Parser Token Declarations
      continued d = pure (reader.one_more (none texts m part types v ts void) (member_of texts m part [] as_type d place_of) (option_map_or (λ n. without n.0 types) d.name types))

  comma_past : (ds : Declarations) → is_comma here_in u ≡ true → Past left (next_parameter texts m part ds ts)
  unfolding next_parameter
  comma_past ds h =
      enters unexpected (is_comma here_in) (λ t. choose (is_mark (reading texts ds.types) mark.Ellipsis) (refuse reader.variable_arguments) (another_parameter texts m part ds))
      (λ t. shrinks_choose (is_mark here_in mark.Ellipsis) (refuse reader.variable_arguments) (another_parameter texts m part ds) (shrinks_refuse reader.variable_arguments) (another_shrinks texts m part Members Parameters ds)) ts h

  by_comma : is_specifier_word here_in u ≡ false → begins_abstract here_in u ≡ false → is_name here_in u ≡ false → is_comma here_in u ≡ true → Read
  unfolding parameters_at loop
  by_comma h abstract nameless comma =
      let d = done_there h abstract nameless in
      let ds : Declarations = reader.one_more (none texts m part types v ts void) d.0 types in
      subst (λ o. Past left (and_then o (looped (is_comma here_in) (next_parameter texts m part)))) (sym d.1)
      (subst (λ b. Past left (if b then and_then (next_parameter texts m part ds ts) (loop (is_comma here_in) (next_parameter texts m part) (length us)) else done ds ts)) (sym comma)
      (past_then left (next_parameter texts m part ds ts) (loop (is_comma here_in) (next_parameter texts m part) (length us)) (comma_past ds comma)
      (λ es rest e. most_at (loop (is_comma here_in) (next_parameter texts m part) (length us) es)
      (shrinks_loop (is_comma here_in) (next_parameter texts m part) (next_parameter_shrinks texts m part Members Parameters) (length us) es) rest)))

  -- ---- all

  abbrev P : (k : ℕ) → 2 ≤ m - k → Shrinks ((part k).parameters types)
  P k few = Parameters k few types

  by_abstract : begins_abstract here_in u ≡ true → Read
  by_abstract h =
      either_of (is_star here_in u) (is_open here_in u || is_open_bracket here_in u) h (λ k. by_declarator (by_mark mark.Star k) (λ room. by_star here_in m part P u us room k))
      (λ s k. either_of (is_open here_in u) (is_open_bracket here_in u) k (λ o. by_declarator (by_mark mark.OpenParenthesis o) (λ room. by_open here_in m part P u us room s o))
      (λ o b. by_declarator (by_mark mark.OpenBracket b) (λ room. by_bracket here_in m part P u us room s o (mark_is_no_name here_in mark.OpenBracket u b) b)))

  goes_past : goes_on_void here_in u ≡ true → Read
  goes_past h =
      either_of (begins_abstract here_in u) _ h by_abstract
      (λ off k. either_of (is_name here_in u) _ k
      (λ n. by_declarator (name_no_word n) (λ room. by_name here_in m part P u us room (first_fails (is_star here_in u) (is_open here_in u || is_open_bracket here_in u) off)
      (first_fails (is_open here_in u) (is_open_bracket here_in u) (second_fails (is_star here_in u) (is_open here_in u || is_open_bracket here_in u) off)) n))
      (λ nameless k. either_of (is_comma here_in u) _ k (λ c. by_comma (by_mark mark.Comma c) off nameless c)
      (λ c k. either_of (is_keyword here_in keyword.Const u) _ k by_const
      (λ c k. either_of (is_keyword here_in keyword.Restrict u) _ k by_restrict
      (λ r k. either_of (is_keyword here_in keyword.Register u) _ k by_register (λ g. by_inline))))))

pub void_past : (texts : List (List ℕ)) (types : List Name) (m : ℕ) (part : ℕ → Parts) → MembersShrink m part → ParametersShrink m part → 2 ≤ m → (v : Token) (ts : List Token) → is_keyword (reading texts types) keyword.Void v ≡ true
    → at_next (goes_on_void (reading texts types)) ts ≡ true → Past (length ts) (parameters_at texts m part types (v ∷ ts))
void_past texts types m part Members Parameters enough v [] void h = absurd (cc h)
void_past texts types m part Members Parameters enough v (u ∷ us) void h = goes_past texts types m part Members Parameters enough v u us void h
