-- Where readers of declarators stop for want of depth, deeper readers get past that token, by what is known of the readers of parameters.
use Rattle.std.proofs.Common.{◌≡◌, ◌≤◌, ◌-◌, ◌+◌, ℕ, zero, suc, Bool, true, false, ◌&&◌, ◌||◌, not, List, [], ◌∷◌, length, nat_lt, if◌then◌else◌, refl, sym, ap, ◌∙◌, subst, arith}
use Rattle.sb_base.specs.declared.interning.Name.{Name}
use Rattle.sb_base.specs.declared.tokens.Token.{Token}
use Rattle.sb_parse.specs.Parser.{Outcome, Parser, done, stop, at_next, and_then, ◌>>=◌, pure, token, choose, refuse}
use Rattle.sb_parse.proofs.Heads.{either_passes}
use Rattle.sb_sign.specs.declared.sign.Keyword.TheVariants as keyword
use Rattle.sb_tree.specs.Trees as tree
use Rattle.sb_tree.specs.Trees.{TypeTree, depth_of_type}
use Rattle.sb_parse.specs.Descent.{descent, choose_second}
use Rattle.sb_expr.specs.Expression.{Assignment}
use Rattle.sb_lexicon.specs.Lexicon.{Lexicon, is_keyword, is_type_name}
use Rattle.sb_operand.specs.Pieces.{points}
use Rattle.sb_lexicon.specs.Tokens as expr
use Rattle.sb_expr.specs.Readers.{expr_reader}
use Rattle.sb_lexicon.specs.Tokens.{unexpected, too_deep, is_zero, is_open, is_close, is_open_bracket, is_close_bracket, is_star, is_qualifier}
use Rattle.sb_lexicon.proofs.Depths.{within_room, room_within, room_is}
use Rattle.sb_parse.proofs.Descending.{descent_from}
use Rattle.sb_lexicon.proofs.Wider.{Held, Wider}
use Rattle.sb_sal.specs.Spellings.{begins_note}
use Rattle.sb_sal.proofs.Deepening.{Past, AtMost, Shrinks, Deepens, Deep, at_list, at_lists, deep_choice, deep_still, most_stop, most_at, shrinks_pure, shrinks_refuse, shrinks_token, shrinks_then, past_bind, in_order, choosing, choosing_second, either_way, turning, turning_where, still_pure, by_test}
use Rattle.sb_sal.proofs.ExprDeepening.{expr_deepens}
use Rattle.sb_sal.proofs.Lowered.{same_from, lowered, zero_mono, zero_open, room_mono, room_open, not_unexpected, not_lacking, expects, takes, unexpecting, lacking}
use Rattle.sb_specifier.specs.declared.seat.Seat.TheVariants as seat
use Rattle.sb_specifier.specs.Specified.{reading, is_function, is_bare}
use Rattle.sb_specifier.specs.Readers.{Declarator, Declarations, Parts, old_definition, barred, is_name, name_at, goes_on_void}
use Rattle.sb_declarator.specs.Readers.{qualifier, pointed, inside, begins_inner, in_parentheses, name_or_none, first, size, sized, is_size_word, size_word, outermost_size, arrayed, no_parameters, behind_void, only_void, void_parameters, some_parameters, parameters, function_with, called, suffixed, is_suffix, direct, declarator_at, declarators, on}
use Rattle.sb_declarator.proofs.widening.Declarators.{BehindVoid, some_wider}
use Rattle.sb_specifier.proofs.deepening.Specifiers.{barred_token, barred_token_at}
use Rattle.sb_declarator.proofs.deepening.Shrinks.{starred, starred_shrinks, enclosed, enclosed_shrinks, bracketed, bracketed_shrinks, some_shrinks, parameters_shrink, suffixed_shrinks, declarators_shrink}

module _ (w : Lexicon) (functions may_lack : Bool) where
  -- ---- the readers of parameters, by depth

  -- what `barred` refuses for want of depth, and what may follow `void`, parameters of some depth with room get past
  module _ (part : ℕ → ℕ → Parts) (params_shrink : (m k : ℕ) → 2 ≤ m - k → Shrinks ((part m k).parameters w.types))
      (Barred : (m k : ℕ) → 2 ≤ m - k → Wider (barred w seat.Prototype) ((part m k).parameters w.types))
      (Begins : (n k : ℕ) (ts : List Token) (left : ℕ) → barred {A = Declarations} w seat.Prototype ts ≡ stop too_deep left → (m : ℕ) × (n ≤ m) × (2 ≤ m - k) × Past left ((part m k).parameters w.types ts))
      (Void : (m k : ℕ) → 2 ≤ m - k → (v : Token) (ts : List Token) → is_keyword w keyword.Void v ≡ true → at_next (is_close w) ts ≡ false → at_next (is_keyword w keyword.Volatile) ts ≡ false → at_next (goes_on_void w) ts ≡ false
      → BehindVoid ((part m k).parameters w.types (v ∷ ts)) ts)
      (Volatile : (m k : ℕ) → 2 ≤ m - k → (v : Token) (ts : List Token) → is_keyword w keyword.Void v ≡ true → at_next (is_keyword w keyword.Volatile) ts ≡ true → (part m k).parameters w.types (v ∷ ts) ≡ stop expr.volatile (length ts))
      (Goes : (n k : ℕ) (v : Token) (ts : List Token) → is_keyword w keyword.Void v ≡ true → at_next (is_close w) ts ≡ false → at_next (is_keyword w keyword.Volatile) ts ≡ false → at_next (goes_on_void w) ts ≡ true
      → (m : ℕ) × (n ≤ m) × (2 ≤ m - k) × Past (length ts) ((part m k).parameters w.types (v ∷ ts))) where
    module _ (c n : ℕ) (Parameters : (k : ℕ) → 2 ≤ n - k → Deepens n (λ m. (part m k).parameters w.types)) (rest : (m k : ℕ) → Parser Token Declarator) (RestShrinks : (m k : ℕ) → Shrinks (rest m k))
        (Rest : is_zero (n - c) ≡ false → (k : ℕ) → Deepens n (λ m. rest m k)) where
      -- ---- pointers and parentheses

      qualifier_deepens : (b : Bool) → Deepens n (λ m. qualifier w functions may_lack m (part m) (m - c) (rest m) b)
      unfolding qualifier
      qualifier_deepens b =
          barred_token n (is_keyword w keyword.Const) (λ m. nat_lt (m - c) 2) (λ m t. pure true) (room_mono c 2 n) (room_open c 2 n) (λ h t. still_pure n true) (λ m le h t. shrinks_pure true) _
          (choosing n _ _ _ (in_order n _ _ (expects n (is_keyword w keyword.Restrict)) (λ t. still_pure n b)) (lacking n 7))

      starred_deepens : is_zero (n - c) ≡ false → (t : Token) → Deepens n (λ m. starred w functions may_lack m (part m) (params_shrink m) (m - c) (rest m) (RestShrinks m) t)
      starred_deepens some t = in_order n _ _ (turning n (is_qualifier w) (λ m. qualifier w functions may_lack m (part m) (m - c) (rest m)) qualifier_deepens false) (λ b. in_order n _ _ (Rest some _) (λ d. still_pure n _))

      inside_deepens : is_zero (n - c) ≡ false → (o : Token) → Deepens n (λ m. inside w functions may_lack m (part m) (m - c) (rest m) o)
      unfolding inside
      inside_deepens some o = in_order n (λ m. rest m 0) _ (Rest some 0) (λ d. in_order n _ _ (expects n (is_close w)) (λ c. still_pure n _))

      enclosed_deepens : is_zero (n - c) ≡ false → (o : Token) → Deepens n (λ m. enclosed w functions may_lack m (part m) (params_shrink m) (m - c) (rest m) (RestShrinks m) o)
      enclosed_deepens some o =
          either_way n may_lack _ _ (λ h. choosing n (begins_inner w functions may_lack n (part n) (n - c) (rest n)) _ _ (inside_deepens some o) (choosing n _ _ _ (lacking n 4) (unexpecting n)))
          (λ h. inside_deepens some o)

      first_deepens : Deepens n (λ m. first w functions may_lack m (part m) (m - c) (rest m))
      unfolding first name_or_none in_parentheses
      first_deepens =
          barred_token n (is_open w) (λ m. is_zero (m - c)) (λ m. enclosed w functions may_lack m (part m) (params_shrink m) (m - c) (rest m) (RestShrinks m)) (zero_mono c n) (zero_open c n) enclosed_deepens
          (λ m le h. enclosed_shrinks w functions may_lack m (part m) (params_shrink m) (m - c) (rest m) (RestShrinks m)) _
          (either_way n may_lack _ _ (λ h. choosing n (is_name w) _ _ (in_order n _ _ (takes n (name_at w)) (λ name. still_pure n _)) (still_pure n _)) (λ h. in_order n _ _ (takes n (name_at w)) (λ name. still_pure n _)))

      -- ---- arrays

      size_deepens : (k : ℕ) → Deepens n (λ m. size w functions may_lack m (part m) (m - c) (rest m) k)
      unfolding size
      size_deepens k = in_order n (λ m. expr_reader w (m - suc k) Assignment) _ (lowered (suc k) n (λ m. expr_reader w m Assignment) (expr_deepens w Assignment (n - suc k))) (λ e. still_pure n (tree.AnExpr e))

      sized_deepens : (k : ℕ) → Deepens n (λ m. sized w functions may_lack m (part m) (m - c) (rest m) k)
      unfolding sized
      sized_deepens k = choosing n (is_close_bracket w) _ _ (still_pure n tree.NoExpr) (size_deepens k)

      word_deepens : (found : Bool × Bool) → Deepens n (λ m. size_word w functions may_lack m (part m) (m - c) (rest m) found)
      unfolding size_word
      word_deepens found =
          choosing n _ _ _ (in_order n _ _ (expects n (is_keyword w keyword.Static)) (λ t. still_pure n (found.0, true)))
          (by_test n (λ ts. found.0 && found.1) (λ m. refuse unexpected) _ (unexpecting n) (choosing n _ _ _ (lacking n 7) (in_order n _ _ (expects n (is_qualifier w)) (λ t. still_pure n (not found.1, found.1)))))

      outermost_deepens : (k : ℕ) → Deepens n (λ m. outermost_size w functions may_lack m (part m) (m - c) (rest m) k)
      unfolding outermost_size
      outermost_deepens k =
          in_order n _ _ (turning n (is_size_word w functions may_lack n (part n) (n - c) (rest n)) (λ m. size_word w functions may_lack m (part m) (m - c) (rest m)) word_deepens (false, false))
          (λ found. either_way n found.1 _ _ (λ h. size_deepens k) (λ h. sized_deepens k))

      bracketed_deepens : (d : Declarator) (o : Token) → Deepens n (λ m. bracketed w functions may_lack m (part m) (params_shrink m) (m - c) (rest m) (RestShrinks m) d o)
      bracketed_deepens d o =
          in_order n _ _ (either_way n (may_lack && is_bare d.pieces) _ _ (λ h. outermost_deepens (length d.pieces)) (λ h. sized_deepens (length d.pieces))) (λ e. in_order n _ _ (expects n (is_close_bracket w)) (λ c. still_pure n _))

      arrayed_at : (d : Declarator) (ts : List Token) → at_next (is_open_bracket w) ts ≡ true → Deep n (length ts) (λ m. arrayed w functions may_lack m (part m) (m - c) (rest m) d ts)
      unfolding arrayed
      arrayed_at d ts h =
          barred_token_at n (is_open_bracket w) (λ m. nat_lt (m - c) (suc (length d.pieces))) (λ m. bracketed w functions may_lack m (part m) (params_shrink m) (m - c) (rest m) (RestShrinks m) d) (room_mono c (suc (length d.pieces)) n)
          (room_open c (suc (length d.pieces)) n) (λ k. bracketed_deepens d) (λ m le k. bracketed_shrinks w functions may_lack m (part m) (params_shrink m) (m - c) (rest m) (RestShrinks m) d) ts h

      -- ---- parameters, and the parenthesis that closes them

      -- parameters with room
      abbrev roomy : (m k : ℕ) → Parser Token Declarations
      roomy m k = choose (is_keyword w keyword.Void) (choose_second (is_close w) (void_parameters w functions may_lack m (part m) (m - c) (rest m)) ((part m k).parameters w.types)) ((part m k).parameters w.types)

      abbrev close_with : (Declarations → Declarator) → Declarations → Parser Token Declarator
      close_with f ps = token unexpected (is_close w) >>= (λ c. pure (f ps))

      close_shrinks : (f : Declarations → Declarator) (ps : Declarations) → Shrinks (close_with f ps)
      close_shrinks f ps = shrinks_then _ _ (shrinks_token _ _) (λ c. shrinks_pure _)

      close_plain : (f : Declarations → Declarator) (ps : Declarations) (ts : List Token) (left : ℕ) → close_with f ps ts ≡ stop too_deep left → ⊥
      close_plain f ps [] left e = not_unexpected (cc e)
      close_plain f ps (t ∷ ts) left e = by_test (is_close w t) e
        where
          by_test : (b : Bool) → and_then (if b then done t ts else stop unexpected (suc (length ts))) (λ c. pure (f ps)) ≡ stop too_deep left → ⊥
          by_test true e = absurd (cc e)
          by_test false e = not_unexpected (cc e)

      close_deepens : (f : Declarations → Declarator) (ps : Declarations) → Deepens n (λ m. close_with f ps)
      close_deepens f ps = in_order n _ _ (expects n (is_close w)) (λ c. still_pure n (f ps))

      roomy_deepens : (k : ℕ) → 2 ≤ n - k → Deepens n (λ m. roomy m k)
      unfolding void_parameters
      roomy_deepens k enough =
          choosing n _ _ _ (choosing_second n (is_close w) _ _ (in_order n _ _ (expects n (is_keyword w keyword.Void)) (λ t. still_pure n _)) (Parameters k enough)) (Parameters k enough)

      past_roomy : (f : Declarations → Declarator) (m k : ℕ) → 2 ≤ m - suc k → (ts : List Token) (left : ℕ) → Past left (roomy m (suc k) ts)
          → Past left (and_then (some_parameters w functions may_lack m (part m) (m - c) (rest m) k ts) (close_with f))
      unfolding some_parameters
      past_roomy f m k enough ts left P =
          past_bind (some_parameters w functions may_lack m (part m) (m - c) (rest m) k) (close_with f) left ts
          (subst (λ b. Past left ((if b then only_void w functions may_lack m (part m) (m - c) (rest m) else roomy m (suc k)) ts)) (sym (room_within (m - suc k) 2 enough)) P) (close_shrinks f)

      abbrev Deeper : (Declarations → Declarator) → ℕ → List Token → ℕ → Type 0
      Deeper f k ts left = (m : ℕ) × (n ≤ m) × Past left (and_then (some_parameters w functions may_lack m (part m) (m - c) (rest m) k ts) (close_with f))

      -- without room: what follows `void`, or a parameter that begins otherwise
      behind_deeper : (f : Declarations → Declarator) (k : ℕ) (v : Token) (ts : List Token) (left : ℕ) → is_keyword w keyword.Void v ≡ true
          → and_then (behind_void w functions may_lack n (part n) (n - c) (rest n) ts) (close_with f) ≡ stop too_deep left
          → Deeper f k (v ∷ ts) left
      unfolding behind_void
      behind_deeper f k v ts left void e = by_close (at_next (is_close w) ts) refl e
        where
          by_goes : (b : Bool) → at_next (goes_on_void w) ts ≡ b → at_next (is_close w) ts ≡ false → at_next (is_keyword w keyword.Volatile) ts ≡ false
              → and_then {A = Declarations} (if b then stop too_deep (length ts) else stop unexpected (length ts)) (close_with f) ≡ stop too_deep left → Deeper f k (v ∷ ts) left
          by_goes true h unclosed plain g =
              let d : (m : ℕ) × (n ≤ m) × (2 ≤ m - suc k) × Past (length ts) ((part m (suc k)).parameters w.types (v ∷ ts)) = Goes n (suc k) v ts void unclosed plain h in
              let lefts : length ts ≡ left = cc g in
              (d.0, d.1, past_roomy f d.0 k d.2 (v ∷ ts) left (subst (λ z. Past z (roomy d.0 (suc k) (v ∷ ts))) lefts (reads d.0 d.3)))
            where
              reads : (m : ℕ) → Past (length ts) ((part m (suc k)).parameters w.types (v ∷ ts)) → Past (length ts) (roomy m (suc k) (v ∷ ts))
              reads m P =
                  subst (λ b. Past (length ts) (if b then (if at_next (is_close w) ts then void_parameters w functions may_lack m (part m) (m - c) (rest m) (v ∷ ts) else (part m (suc k)).parameters w.types (v ∷ ts))
                  else (part m (suc k)).parameters w.types (v ∷ ts))) (sym void)
                  (subst (λ b. Past (length ts) (if b then void_parameters w functions may_lack m (part m) (m - c) (rest m) (v ∷ ts) else (part m (suc k)).parameters w.types (v ∷ ts))) (sym unclosed) P)
          by_goes false h unclosed plain g = absurd (not_unexpected (cc g))

          by_volatile : (b : Bool) → at_next (is_keyword w keyword.Volatile) ts ≡ b → at_next (is_close w) ts ≡ false
              → and_then {A = Declarations} (if b then stop expr.volatile (length ts) else choose (goes_on_void w) (refuse too_deep) (refuse unexpected) ts) (close_with f) ≡ stop too_deep left → Deeper f k (v ∷ ts) left
          by_volatile true h unclosed g = absurd (not_lacking 7 (cc g))
          by_volatile false h unclosed g = by_goes (at_next (goes_on_void w) ts) refl unclosed h g

          by_close : (b : Bool) → at_next (is_close w) ts ≡ b
              → and_then (if b then done (no_parameters w functions may_lack n (part n) (n - c) (rest n)) ts
              else choose (is_keyword w keyword.Volatile) (refuse expr.volatile) (choose (goes_on_void w) (refuse too_deep) (refuse unexpected)) ts) (close_with f) ≡ stop too_deep left
              → Deeper f k (v ∷ ts) left
          by_close true h g = absurd (close_plain f _ ts left g)
          by_close false h g = by_volatile (at_next (is_keyword w keyword.Volatile) ts) refl h g

      only_deeper : (f : Declarations → Declarator) (k : ℕ) (ts : List Token) (left : ℕ) → and_then (only_void w functions may_lack n (part n) (n - c) (rest n) ts) (close_with f) ≡ stop too_deep left → Deeper f k ts left
      unfolding only_void
      only_deeper f k ts left e = by_void (at_next (is_keyword w keyword.Void) ts) refl e
        where
          -- a list that begins with `void`
          voided : (ts : List Token) → at_next (is_keyword w keyword.Void) ts ≡ true
              → and_then (and_then (token unexpected (is_keyword w keyword.Void) ts) (λ t. behind_void w functions may_lack n (part n) (n - c) (rest n))) (close_with f) ≡ stop too_deep left → Deeper f k ts left
          voided [] h g = absurd (cc h)
          voided (v ∷ ts) h g =
              behind_deeper f k v ts left h
              (sym (ap (λ b. and_then (and_then (if b then done v ts else stop unexpected (suc (length ts))) (λ t. behind_void w functions may_lack n (part n) (n - c) (rest n))) (close_with f)) h) ∙ g)

          begins : (o : Outcome Token Declarations) → barred w seat.Prototype ts ≡ o → at_next (is_keyword w keyword.Void) ts ≡ false → and_then o (close_with f) ≡ stop too_deep left → Deeper f k ts left
          begins (done ps after) h off g = absurd (close_plain f ps after left g)
          begins (stop i j) h off g =
              let number : i ≡ too_deep = cc g in
              let lefts : j ≡ left = cc g in
              let d : (m : ℕ) × (n ≤ m) × (2 ≤ m - suc k) × Past left ((part m (suc k)).parameters w.types ts) = Begins n (suc k) ts left (h ∙ ap (λ z. stop z j) number ∙ ap (stop too_deep) lefts) in (
                d.0,
                d.1,
                past_roomy f d.0 k d.2 ts left
                    (subst (λ b. Past left (if b then choose_second (is_close w) (void_parameters w functions may_lack d.0 (part d.0) (d.0 - c) (rest d.0)) ((part d.0 (suc k)).parameters w.types) ts
                    else (part d.0 (suc k)).parameters w.types ts)) (sym off) d.3),
              )

          by_void : (b : Bool) → at_next (is_keyword w keyword.Void) ts ≡ b
              → and_then (if b then and_then (token unexpected (is_keyword w keyword.Void) ts) (λ t. behind_void w functions may_lack n (part n) (n - c) (rest n))
              else barred w seat.Prototype ts) (close_with f) ≡ stop too_deep left → Deeper f k ts left
          by_void true h g = voided ts h g
          by_void false h g = begins (barred w seat.Prototype ts) refl h g

      some_at : (f : Declarations → Declarator) (k : ℕ) (ts : List Token) → Deep n (length ts) (λ m. and_then (some_parameters w functions may_lack m (part m) (m - c) (rest m) k ts) (close_with f))
      unfolding some_parameters
      some_at f k ts = by_room (nat_lt (n - suc k) 2) refl
        where
          wide : (m : ℕ) → n ≤ m → Held (and_then (some_parameters w functions may_lack n (part n) (n - c) (rest n) k ts) (close_with f)) (and_then (some_parameters w functions may_lack m (part m) (m - c) (rest m) k ts) (close_with f))
          wide m le =
              some_wider w functions may_lack n m le (part n) (part m) (λ k enough. (Parameters k enough).wide m le) (λ k enough. Barred m k enough) (λ k enough. Void m k enough) (λ k enough. Volatile m k enough) (n - c) (m - c)
              (omega (arith, le)) (rest n) (rest m) (λ some k. (Rest some k).wide m le) f k ts

          shrinks : (m : ℕ) → n ≤ m → AtMost (length ts) (and_then (some_parameters w functions may_lack m (part m) (m - c) (rest m) k ts) (close_with f))
          shrinks m le =
              most_at (some_parameters w functions may_lack m (part m) (m - c) (rest m) k >>= close_with f)
              (shrinks_then _ _ (some_shrinks w functions may_lack m (part m) (params_shrink m) (m - c) (rest m) (RestShrinks m) k) (close_shrinks f)) ts

          shut : nat_lt (n - suc k) 2 ≡ true → (left : ℕ) → and_then (some_parameters w functions may_lack n (part n) (n - c) (rest n) k ts) (close_with f) ≡ stop too_deep left → Deeper f k ts left
          shut h left e = only_deeper f k ts left (sym (ap (λ b. and_then ((if b then only_void w functions may_lack n (part n) (n - c) (rest n) else roomy n (suc k)) ts) (close_with f)) h) ∙ e)

          open_there : 2 ≤ n - suc k → (m : ℕ) → n ≤ m → some_parameters w functions may_lack m (part m) (m - c) (rest m) k ≡ roomy m (suc k)
          open_there enough m le = ap (λ b. if b then only_void w functions may_lack m (part m) (m - c) (rest m) else roomy m (suc k)) (room_within (m - suc k) 2 (omega arith))

          by_room : (b : Bool) → nat_lt (n - suc k) 2 ≡ b → Deep n (length ts) (λ m. and_then (some_parameters w functions may_lack m (part m) (m - c) (rest m) k ts) (close_with f))
          by_room true h = record { wide = wide; shrinks = shrinks; deeper = shut h }
          by_room false h =
              let enough : 2 ≤ n - suc k = within_room (n - suc k) 2 h in
              at_list n (λ m. some_parameters w functions may_lack m (part m) (m - c) (rest m) k >>= close_with f)
              (in_order n (λ m. some_parameters w functions may_lack m (part m) (m - c) (rest m) k) (λ m. close_with f)
              (same_from n (λ m. roomy m (suc k)) (λ m. some_parameters w functions may_lack m (part m) (m - c) (rest m) k) (open_there enough) (roomy_deepens (suc k) enough)) (close_deepens f)) ts

      parameters_deepen : (f : Declarations → Declarator) (k : ℕ) → Deepens n (λ m. parameters w functions may_lack m (part m) (m - c) (rest m) k >>= close_with f)
      unfolding parameters
      parameters_deepen f k = at_lists n _ (λ ts. by_test (at_next (λ t. is_close w t || (is_name w t && not (is_type_name w t || begins_note w t))) ts) ts)
        where
          by_test : (b : Bool) (ts : List Token) → Deep n (length ts) (λ m. and_then (if b then stop old_definition (length ts) else some_parameters w functions may_lack m (part m) (m - c) (rest m) k ts) (close_with f))
          by_test true ts = deep_still n (length ts) (stop old_definition (length ts)) (λ left e. not_lacking 9 (cc e)) (most_stop (length ts) old_definition (length ts) (omega arith))
          by_test false ts = some_at f k ts

      called_at : (d : Declarator) (ts : List Token) → at_next (is_open w) ts ≡ true → Deep n (length ts) (λ m. called w functions may_lack m (part m) (m - c) (rest m) d ts)
      unfolding called
      called_at d ts h =
          barred_token_at n (is_open w) (λ m. nat_lt (m - c) (suc (length d.pieces)))
          (λ m o. parameters w functions may_lack m (part m) (m - c) (rest m) (length d.pieces) >>= close_with (function_with w functions may_lack m (part m) (m - c) (rest m) d o.place)) (room_mono c (suc (length d.pieces)) n)
          (room_open c (suc (length d.pieces)) n) (λ k o. parameters_deepen (function_with w functions may_lack n (part n) (n - c) (rest n) d o.place) (length d.pieces))
          (λ m le k o. shrinks_then _ _ (parameters_shrink w functions may_lack m (part m) (params_shrink m) (m - c) (rest m) (RestShrinks m) (length d.pieces)) (close_shrinks _)) ts h

      -- ---- all

      suffixed_at : (d : Declarator) (ts : List Token) → at_next (is_suffix w functions may_lack n (part n) (n - c) (rest n)) ts ≡ true → Deep n (length ts) (λ m. suffixed w functions may_lack m (part m) (m - c) (rest m) d ts)
      unfolding suffixed
      suffixed_at d ts h =
          deep_choice n (length ts) (at_next (is_open_bracket w) ts) _ _ (λ k. by_function (is_function d.pieces) k) (λ k. by_bare (is_bare d.pieces && functions) (either_passes (is_open_bracket w) (is_open w) ts h k))
        where
          by_function : (b : Bool) → at_next (is_open_bracket w) ts ≡ true → Deep n (length ts) (λ m. (if b then refuse unexpected else arrayed w functions may_lack m (part m) (m - c) (rest m) d) ts)
          by_function true k = at_list n _ (unexpecting n) ts
          by_function false k = arrayed_at d ts k

          by_bare : (b : Bool) → at_next (is_open w) ts ≡ true
              → Deep n (length ts) (λ m. (if b then called w functions may_lack m (part m) (m - c) (rest m) d else (if is_bare d.pieces || points d.pieces then refuse expr.function_pointer else refuse unexpected)) ts)
          by_bare true k = called_at d ts k
          by_bare false k = at_list n _ (either_way n (is_bare d.pieces || points d.pieces) (λ m. refuse expr.function_pointer) (λ m. refuse unexpected) (λ h. lacking n 4) (λ h. unexpecting n)) ts

      declarator_deepens : Deepens n (λ m. declarator_at w functions may_lack m (part m) (m - c) (rest m))
      unfolding declarator_at direct pointed
      declarator_deepens =
          barred_token n (is_star w) (λ m. is_zero (m - c)) (λ m. starred w functions may_lack m (part m) (params_shrink m) (m - c) (rest m) (RestShrinks m)) (zero_mono c n) (zero_open c n) starred_deepens
          (λ m le h. starred_shrinks w functions may_lack m (part m) (params_shrink m) (m - c) (rest m) (RestShrinks m)) _
          (in_order n _ _ first_deepens (turning_where n (is_suffix w functions may_lack n (part n) (n - c) (rest n)) (λ m. suffixed w functions may_lack m (part m) (m - c) (rest m)) suffixed_at
          (λ m le. suffixed_shrinks w functions may_lack m (part m) (params_shrink m) (m - c) (rest m) (RestShrinks m))))

    -- ---- each depth

    -- declarators inside another one
    abbrev below_at : (m room k : ℕ) → Parser Token Declarator
    below_at m zero k = refuse unexpected
    below_at m (suc room) k = declarators w functions may_lack m (part m) room k

    declared_as : (m room : ℕ) → declarators w functions may_lack m (part m) room 0 ≡ declarator_at w functions may_lack m (part m) room (below_at m room)
    unfolding descent
    declared_as m zero = refl
    declared_as m (suc room) = refl

    below_shrinks : (m room k : ℕ) → Shrinks (below_at m room k)
    below_shrinks m zero k = shrinks_refuse unexpected
    below_shrinks m (suc room) k = declarators_shrink w functions may_lack m (part m) (params_shrink m) room k

    below_is : (m room c k : ℕ) → is_zero room ≡ false → room - suc k ≡ c → below_at m room k ≡ declarators w functions may_lack m (part m) c 0
    below_is m zero c k some e = absurd (cc some)
    below_is m (suc room) c k some e =
        descent_from (declarator_at w functions may_lack m (part m) 0 (λ k. refuse unexpected)) (λ n rest. declarator_at w functions may_lack m (part m) (suc n) rest) room k
        ∙ ap (λ n. declarators w functions may_lack m (part m) n 0) (let same : room - k ≡ c = omega arith in same)

    up_to : (n : ℕ) → ((k : ℕ) → 2 ≤ n - k → Deepens n (λ m. (part m k).parameters w.types)) → (most c : ℕ) → n - c ≤ most → Deepens n (λ m. declarators w functions may_lack m (part m) (m - c) 0)
    up_to n Parameters zero c le =
        same_from n _ _ (λ m h. declared_as m (m - c))
        (declarator_deepens c n Parameters (λ m. below_at m (m - c)) (λ m. below_shrinks m (m - c)) (λ some k. absurd (let room : 1 ≤ n - c = room_is (n - c) some in omega (arith, le, room))))
    up_to n Parameters (suc most) c le =
        same_from n _ _ (λ m h. declared_as m (m - c))
        (declarator_deepens c n Parameters (λ m. below_at m (m - c)) (λ m. below_shrinks m (m - c))
        (λ some k. same_from n (λ m. declarators w functions may_lack m (part m) (m - (suc c + k)) 0) (λ m. below_at m (m - c) k)
        (λ m h. below_is m (m - c) (m - (suc c + k)) k (zero_mono c n m h some) (let same : (m - c) - suc k ≡ m - (suc c + k) = omega arith in same))
        (up_to n Parameters most (suc c + k) (let room : 1 ≤ n - c = room_is (n - c) some in omega (arith, le, room)))))

    pub declarators_deepen : (c n : ℕ) → ((k : ℕ) → 2 ≤ n - k → Deepens n (λ m. (part m k).parameters w.types)) → Deepens n (λ m. declarators w functions may_lack m (part m) (m - c) 0)
    declarators_deepen c n Parameters = up_to n Parameters (n - c) c (omega arith)

-- ---- declarators on a type

module _ (texts : List (List ℕ)) (types : List Name) (functions may_lack : Bool) (part : ℕ → ℕ → Parts) (params_shrink : (m k : ℕ) → 2 ≤ m - k → Shrinks ((part m k).parameters types))
    (Barred : (m k : ℕ) → 2 ≤ m - k → Wider (barred (reading texts types) seat.Prototype) ((part m k).parameters types))
    (Begins : (n k : ℕ) (ts : List Token) (left : ℕ) → barred {A = Declarations} (reading texts types) seat.Prototype ts ≡ stop too_deep left → (m : ℕ) × (n ≤ m) × (2 ≤ m - k) × Past left ((part m k).parameters types ts))
    (Void : (m k : ℕ) → 2 ≤ m - k → (v : Token) (ts : List Token) → is_keyword (reading texts types) keyword.Void v ≡ true → at_next (is_close (reading texts types)) ts ≡ false
    → at_next (is_keyword (reading texts types) keyword.Volatile) ts ≡ false → at_next (goes_on_void (reading texts types)) ts ≡ false → BehindVoid ((part m k).parameters types (v ∷ ts)) ts)
    (Volatile : (m k : ℕ) → 2 ≤ m - k → (v : Token) (ts : List Token) → is_keyword (reading texts types) keyword.Void v ≡ true → at_next (is_keyword (reading texts types) keyword.Volatile) ts ≡ true
    → (part m k).parameters types (v ∷ ts) ≡ stop expr.volatile (length ts))
    (Goes : (n k : ℕ) (v : Token) (ts : List Token) → is_keyword (reading texts types) keyword.Void v ≡ true → at_next (is_close (reading texts types)) ts ≡ false → at_next (is_keyword (reading texts types) keyword.Volatile) ts ≡ false
    → at_next (goes_on_void (reading texts types)) ts ≡ true → (m : ℕ) × (n ≤ m) × (2 ≤ m - k) × Past (length ts) ((part m k).parameters types (v ∷ ts))) where
  pub on_deepens : (base : TypeTree) (n : ℕ) → ((k : ℕ) → 2 ≤ n - k → Deepens n (λ m. (part m k).parameters types)) → Deepens n (λ m. on texts m (part m) types functions may_lack base)
  on_deepens base n Parameters = declarators_deepen (reading texts types) functions may_lack part params_shrink Barred Begins Void Volatile Goes (depth_of_type base) n Parameters
