-- Readers of declarators never leave more than there was, by what is known of the readers of parameters.
use Rattle.std.proofs.Common.{◌≤◌, ◌-◌, ℕ, zero, suc, Bool, true, false, ◌&&◌, ◌||◌, ◌∷◌, length, nat_lt, if◌then◌else◌, arith}
use Rattle.sb_base.specs.declared.tokens.Token.{Token}
use Rattle.sb_parse.specs.Parser.{Parser, ◌>>=◌, pure, token, choose, refuse, looped}
use Rattle.sb_parse.specs.Descent.{descent}
use Rattle.sb_expr.specs.Expression.{Assignment}
use Rattle.sb_lexicon.specs.Lexicon.{Lexicon}
use Rattle.sb_operand.specs.Pieces.{Pointed, Arrayed, constant_if, points}
use Rattle.sb_lexicon.specs.Tokens as expr
use Rattle.sb_expr.specs.Readers.{expr_reader}
use Rattle.sb_lexicon.specs.Tokens.{unexpected, too_deep, is_zero, is_close, is_close_bracket, is_qualifier}
use Rattle.sb_lexicon.proofs.Depths.{within_room}
use Rattle.sb_sal.proofs.Deepening.{Shrinks, shrinks_pure, shrinks_refuse, shrinks_token, shrinks_taken, shrinks_then, shrinks_choose, shrinks_second, shrinks_either, shrinks_guard, shrinks_looped}
use Rattle.sb_sal.proofs.ExprDeepening.{expr_deepens}
use Rattle.sb_specifier.specs.declared.seat.Seat.TheVariants as seat
use Rattle.sb_specifier.specs.Specified.{is_function, is_bare}
use Rattle.sb_specifier.specs.Readers.{Declarator, Declarations, Parts, barred, begins_parameter, with_pieces}
use Rattle.sb_declarator.specs.Readers.{qualifier, pointed, inside, begins_inner, in_parentheses, name_or_none, first, size, sized, is_size_word, size_word, outermost_size, arrayed, behind_void, only_void, void_parameters, some_parameters, parameters, called, suffixed, is_suffix, direct, declarator_at, declarators}

module _ (w : Lexicon) (functions may_lack : Bool) where
  -- ---- what is left

  module _ (m : ℕ) (part : ℕ → Parts) (Parameters : (k : ℕ) → 2 ≤ m - k → Shrinks ((part k).parameters w.types)) where
    barred_shrinks : Shrinks {A = Declarations} (barred w seat.Prototype)
    barred_shrinks =
        shrinks_choose _ _ _ (shrinks_refuse _)
        (shrinks_choose _ _ _ (shrinks_refuse _)
        (shrinks_choose _ _ _ (shrinks_refuse _)
        (shrinks_choose _ _ _ (shrinks_refuse _)
        (shrinks_choose _ _ _ (shrinks_refuse _)
        (shrinks_choose _ _ _ (shrinks_refuse _)
        (shrinks_choose _ _ _ (shrinks_refuse _) (shrinks_refuse _)))))))

    module _ (room : ℕ) (rest : ℕ → Parser Token Declarator) (Rest : (k : ℕ) → Shrinks (rest k)) where
      qualifier_shrinks : (c : Bool) → Shrinks (qualifier w functions may_lack m part room rest c)
      unfolding qualifier
      qualifier_shrinks c =
          shrinks_choose _ _ _ (shrinks_guard (nat_lt room 2) too_deep _ (λ h. shrinks_then _ _ (shrinks_token _ _) (λ t. shrinks_pure true)))
          (shrinks_choose _ _ _ (shrinks_then _ _ (shrinks_token _ _) (λ t. shrinks_pure c)) (shrinks_refuse _))

      -- behind a star
      abbrev pub starred : Token → Parser Token Declarator
      starred t = looped (is_qualifier w) (qualifier w functions may_lack m part room rest) false >>= (λ c. rest (if c then 1 else 0) >>= (λ d. pure (with_pieces (Pointed t.place ∷ constant_if c d.pieces) d)))

      pub starred_shrinks : (t : Token) → Shrinks (starred t)
      starred_shrinks t = shrinks_then _ _ (shrinks_looped (is_qualifier w) (qualifier w functions may_lack m part room rest) qualifier_shrinks false) (λ c. shrinks_then _ _ (Rest _) (λ d. shrinks_pure _))

      pointed_shrinks : Shrinks (pointed w functions may_lack m part room rest)
      unfolding pointed
      pointed_shrinks = shrinks_then _ _ (shrinks_token _ _) starred_shrinks

      inside_shrinks : (o : Token) → Shrinks (inside w functions may_lack m part room rest o)
      unfolding inside
      inside_shrinks o = shrinks_then _ _ (Rest 0) (λ d. shrinks_then _ _ (shrinks_token _ _) (λ c. shrinks_pure _))

      -- behind a parenthesis
      abbrev pub enclosed : Token → Parser Token Declarator
      enclosed o = if may_lack
          then choose (begins_inner w functions may_lack m part room rest) (inside w functions may_lack m part room rest o) (choose (λ t. is_close w t || begins_parameter w t) (refuse expr.function_pointer) (refuse unexpected))
          else inside w functions may_lack m part room rest o

      pub enclosed_shrinks : (o : Token) → Shrinks (enclosed o)
      enclosed_shrinks o = shrinks_either may_lack _ _ (λ h. shrinks_choose _ _ _ (inside_shrinks o) (shrinks_choose _ _ _ (shrinks_refuse _) (shrinks_refuse _))) (λ h. inside_shrinks o)

      first_shrinks : Shrinks (first w functions may_lack m part room rest)
      unfolding first name_or_none in_parentheses
      first_shrinks =
          shrinks_choose _ _ _ (shrinks_guard (is_zero room) too_deep _ (λ h. shrinks_then _ _ (shrinks_token _ _) enclosed_shrinks))
          (shrinks_either may_lack _ _ (λ h. shrinks_choose _ _ _ (shrinks_then _ _ (shrinks_taken _ _) (λ n. shrinks_pure _)) (shrinks_pure _)) (λ h. shrinks_then _ _ (shrinks_taken _ _) (λ n. shrinks_pure _)))

      size_shrinks : (k : ℕ) → Shrinks (size w functions may_lack m part room rest k)
      unfolding size
      size_shrinks k = shrinks_then (expr_reader w (m - suc k) Assignment) _ ((expr_deepens w Assignment (m - suc k)).shrinks (m - suc k) (omega arith)) (λ e. shrinks_pure _)

      sized_shrinks : (k : ℕ) → Shrinks (sized w functions may_lack m part room rest k)
      unfolding sized
      sized_shrinks k = shrinks_choose _ _ _ (shrinks_pure _) (size_shrinks k)

      word_shrinks : (found : Bool × Bool) → Shrinks (size_word w functions may_lack m part room rest found)
      unfolding size_word
      word_shrinks found =
          shrinks_choose _ _ _ (shrinks_then _ _ (shrinks_token _ _) (λ t. shrinks_pure _))
          (shrinks_guard (found.0 && found.1) _ _ (λ h. shrinks_choose _ _ _ (shrinks_refuse _) (shrinks_then _ _ (shrinks_token _ _) (λ t. shrinks_pure _))))

      outermost_shrinks : (k : ℕ) → Shrinks (outermost_size w functions may_lack m part room rest k)
      unfolding outermost_size
      outermost_shrinks k =
          shrinks_then _ _ (shrinks_looped (is_size_word w functions may_lack m part room rest) (size_word w functions may_lack m part room rest) word_shrinks (false, false))
          (λ found. shrinks_either found.1 _ _ (λ h. size_shrinks k) (λ h. sized_shrinks k))

      -- behind a bracket
      abbrev pub bracketed : Declarator → Token → Parser Token Declarator
      bracketed d o =
          (if may_lack && is_bare d.pieces then outermost_size w functions may_lack m part room rest (length d.pieces) else sized w functions may_lack m part room rest (length d.pieces)) >>= (λ e.
          token unexpected (is_close_bracket w) >>= (λ c. pure (with_pieces (Arrayed e o.place ∷ d.pieces) d)))

      pub bracketed_shrinks : (d : Declarator) (o : Token) → Shrinks (bracketed d o)
      bracketed_shrinks d o = shrinks_then _ _ (shrinks_either (may_lack && is_bare d.pieces) _ _ (λ h. outermost_shrinks _) (λ h. sized_shrinks _)) (λ e. shrinks_then _ _ (shrinks_token _ _) (λ c. shrinks_pure _))

      arrayed_shrinks : (d : Declarator) → Shrinks (arrayed w functions may_lack m part room rest d)
      unfolding arrayed
      arrayed_shrinks d = shrinks_guard (nat_lt room (suc (length d.pieces))) too_deep _ (λ h. shrinks_then _ _ (shrinks_token _ _) (bracketed_shrinks d))

      pub some_shrinks : (k : ℕ) → Shrinks (some_parameters w functions may_lack m part room rest k)
      unfolding some_parameters only_void behind_void void_parameters
      some_shrinks k =
          shrinks_either (nat_lt (m - suc k) 2) _ _
          (λ h. shrinks_choose _ _ _
          (shrinks_then _ _ (shrinks_token _ _) (λ t. shrinks_choose _ _ _ (shrinks_pure _) (shrinks_choose _ _ _ (shrinks_refuse _) (shrinks_choose _ _ _ (shrinks_refuse _) (shrinks_refuse _))))) barred_shrinks)
          (λ h. shrinks_choose _ _ _ (shrinks_second (is_close w) _ _ (shrinks_then _ _ (shrinks_token _ _) (λ t. shrinks_pure _)) (Parameters (suc k) (within_room (m - suc k) 2 h))) (Parameters (suc k) (within_room (m - suc k) 2 h)))

      pub parameters_shrink : (k : ℕ) → Shrinks (parameters w functions may_lack m part room rest k)
      unfolding parameters
      parameters_shrink k = shrinks_choose _ _ _ (shrinks_refuse _) (some_shrinks k)

      pub suffixed_shrinks : (d : Declarator) → Shrinks (suffixed w functions may_lack m part room rest d)
      unfolding suffixed called
      suffixed_shrinks d =
          shrinks_choose _ _ _ (shrinks_either (is_function d.pieces) _ _ (λ h. shrinks_refuse _) (λ h. arrayed_shrinks d))
          (shrinks_either (is_bare d.pieces && functions) _ _
          (λ h. shrinks_guard (nat_lt room (suc (length d.pieces))) too_deep _ (λ h. shrinks_then _ _ (shrinks_token _ _) (λ o. shrinks_then _ _ (parameters_shrink _) (λ ps. shrinks_then _ _ (shrinks_token _ _) (λ c. shrinks_pure _)))))
          (λ h. shrinks_either (is_bare d.pieces || points d.pieces) _ _ (λ h. shrinks_refuse _) (λ h. shrinks_refuse _)))

      declarator_shrinks : Shrinks (declarator_at w functions may_lack m part room rest)
      unfolding declarator_at direct
      declarator_shrinks =
          shrinks_choose _ _ _ (shrinks_guard (is_zero room) too_deep _ (λ h. pointed_shrinks))
          (shrinks_then _ _ first_shrinks (shrinks_looped (is_suffix w functions may_lack m part room rest) (suffixed w functions may_lack m part room rest) suffixed_shrinks))

    pub declarators_shrink : (room k : ℕ) → Shrinks (declarators w functions may_lack m part room k)
    unfolding descent
    declarators_shrink zero k = declarator_shrinks 0 (λ k. refuse unexpected) (λ k. shrinks_refuse unexpected)
    declarators_shrink (suc room) zero = declarator_shrinks (suc room) (declarators w functions may_lack m part room) (declarators_shrink room)
    declarators_shrink (suc room) (suc k) = declarators_shrink room k
