-- Readers of one token, and words that change what the tokens before them say.
use Rattle.std.proofs.Common.{◌≡◌, ◌⊎◌, ℕ, suc, Bool, true, false, ◌||◌, ◌&&◌, not, List, [], ◌∷◌, ◌++◌, length, nat_lt, Option, Some, None, if◌then◌else◌, refl, sym, ap, ◌∙◌, subst, append_assoc, append-nil, inl, inr}
use Rattle.sb_base.specs.declared.tokens.Token.{Token}
use Rattle.sb_parse.specs.Parser.{Outcome, Parser, done, stop, never, and_then, pure, looped}
use Rattle.sb_parse.specs.Lawful.{Lawful, OnHead, IsValue, Turns, over, turn}
use Rattle.sb_parse.proofs.Tokens.{by_token}
use Rattle.sb_sign.specs.declared.sign.Keyword.TheVariants as keyword
use Rattle.sb_lexicon.specs.Lexicon.{Lexicon, is_keyword}
use Rattle.sb_expr.specs.Expression.{AreQualifiers, no_qualifiers, constant, restricted}
use Rattle.sb_lexicon.specs.Tokens as expr
use Rattle.sb_lexicon.specs.Tokens.{unexpected, too_deep, is_qualifier}
use Rattle.sb_parse.proofs.Ways.{or_first, or_second, turns_law, turned_once_more}
use Rattle.sb_lexicon.proofs.Lexemes.{kind_off}
use Rattle.sb_sign.specs.Signs as sign
use Rattle.sb_specifier.specs.Declaration.{AreSizeWords, no_static, static_first, static_last}
use Rattle.sb_specifier.specs.Readers.{Declarator, Parts}
use Rattle.sb_declarator.specs.Readers.{qualifier, size_word, is_size_word}

module _ (w : Lexicon) (functions may_lack : Bool) (below : ℕ) (part : ℕ → Parts) (room : ℕ) (rest : ℕ → Parser Token Declarator) where
  abbrev is_const : Token → Bool
  is_const = is_keyword w keyword.Const

  abbrev is_restrict : Token → Bool
  is_restrict = is_keyword w keyword.Restrict

  -- ---- qualifiers of a pointer

  abbrev qualified_by : Bool → Bool → Bool → Bool → Option Bool
  qualified_by k r bar c = if k then (if bar then None else Some true) else (if r then Some c else None)

  abbrev qualified : Bool → Token → Option Bool
  qualified c t = qualified_by (is_const t) (is_restrict t) (nat_lt room 2) c

  abbrev read_by : Bool → Bool → Bool → Bool → Token → List Token → Outcome Token Bool
  read_by k r bar c t ts =
      if k then (if bar then stop too_deep (suc (length ts)) else and_then (if k then done t ts else stop unexpected (suc (length ts))) (λ t. pure true))
      else (if r then and_then (if r then done t ts else stop unexpected (suc (length ts))) (λ t. pure c) else stop expr.volatile (suc (length ts)))

  qualifier_head : (c : Bool) → OnHead (is_qualifier w) (IsValue (qualified c)) (λ _. never) (qualifier w functions may_lack below part room rest c)
  unfolding qualifier
  qualifier_head c =
      by_token (is_qualifier w) (qualified c) (qualifier w functions may_lack below part room rest c) (λ t ts a h. reads (is_const t) (is_restrict t) (nat_lt room 2) t ts a h)
      (λ t h k. stops (is_const t) (is_restrict t) (nat_lt room 2) t h) (λ t a h. inside (is_const t) (is_restrict t) (nat_lt room 2) (is_keyword w keyword.Volatile t) a h)
    where
      reads : (k r bar : Bool) (t : Token) (ts : List Token) (a : Bool) → qualified_by k r bar c ≡ Some a → read_by k r bar c t ts ≡ done a ts
      reads true r true t ts a h = absurd (cc h)
      reads true r false t ts a h = let value : true ≡ a = cc h in ap (λ z. done z ts) value
      reads false true bar t ts a h = let value : c ≡ a = cc h in ap (λ z. done z ts) value
      reads false false bar t ts a h = absurd (cc h)

      stops : (k r bar : Bool) (t : Token) → qualified_by k r bar c ≡ None → (n : ℕ) × ((ts : List Token) → read_by k r bar c t ts ≡ stop n (suc (length ts)))
      stops true r true t h = (too_deep, λ ts. refl)
      stops true r false t h = absurd (cc h)
      stops false true bar t h = absurd (cc h)
      stops false false bar t h = (expr.volatile, λ ts. refl)

      inside : (k r bar v : Bool) (a : Bool) → qualified_by k r bar c ≡ Some a → (k || (r || v)) ≡ true
      inside true r bar v a h = refl
      inside false true bar v a h = refl
      inside false false bar v a h = absurd (cc h)

  abbrev pub QualifierTexts : List Token → Bool → Type 0
  QualifierTexts = Turns (λ c. IsValue (qualified c)) false

  pub qualifiers_law : Lawful QualifierTexts (λ c. is_qualifier w) (looped (is_qualifier w) (qualifier w functions may_lack below part room rest) false)
  qualifiers_law = turns_law qualifier_head false

  -- what one qualifier says
  qualifier_is : (c d : Bool) (t : Token) → qualified c t ≡ Some d → ((is_const t ≡ true) × (d ≡ true) × (nat_lt room 2 ≡ false)) ⊎ ((is_restrict t ≡ true) × (c ≡ d))
  qualifier_is c d t h = go (is_const t) refl (is_restrict t) refl (nat_lt room 2) refl h
    where
      go : (k : Bool) → is_const t ≡ k → (r : Bool) → is_restrict t ≡ r → (bar : Bool) → nat_lt room 2 ≡ bar → qualified_by k r bar c ≡ Some d
          → ((is_const t ≡ true) × (d ≡ true) × (nat_lt room 2 ≡ false)) ⊎ ((is_restrict t ≡ true) × (c ≡ d))
      go true e r f true g h = absurd (cc h)
      go true e r f false g h = inl (e, (let value : d ≡ true = cc h in value), g)
      go false e true f bar g h = inr (f, (let value : c ≡ d = cc h in value))
      go false e false f bar g h = absurd (cc h)

  const_gives : (c : Bool) (t : Token) → is_const t ≡ true → nat_lt room 2 ≡ false → qualified c t ≡ Some true
  const_gives c t h g = ap (λ k. qualified_by k (is_restrict t) (nat_lt room 2) c) h ∙ ap (λ bar. qualified_by true (is_restrict t) bar c) g

  restrict_gives : (c : Bool) (t : Token) → is_restrict t ≡ true → qualified c t ≡ Some c
  restrict_gives c t h = ap (λ k. qualified_by k (is_restrict t) (nat_lt room 2) c) (kind_off w (sign.is_same_keyword keyword.Restrict) keyword.Const t refl h) ∙ ap (λ r. qualified_by false r (nat_lt room 2) c) h

  pub are_qualifiers : (c d : Bool) (ts : List Token) → Turns (λ c. IsValue (qualified c)) c ts d → AreQualifiers w c ts d
  are_qualifiers _ _ _ (over c) = no_qualifiers c
  are_qualifiers _ _ _ (turn c e d xs ys v later) = subst (λ l. AreQualifiers w c l d) (sym (ap (λ l. l ++ ys) v.alone)) (by_case (qualifier_is c e v.token v.is) (are_qualifiers e d ys later))
    where
      by_case : ((is_const v.token ≡ true) × (e ≡ true) × (nat_lt room 2 ≡ false)) ⊎ ((is_restrict v.token ≡ true) × (c ≡ e)) → AreQualifiers w e ys d → AreQualifiers w c (v.token ∷ ys) d
      by_case (inl k) are = constant c d v.token ys k.0 (subst (λ z. AreQualifiers w z ys d) k.1 are)
      by_case (inr k) are = restricted c d v.token ys k.0 (subst (λ z. AreQualifiers w z ys d) (sym k.1) are)

  pub has_room : (c d : Bool) (ts : List Token) → Turns (λ c. IsValue (qualified c)) c ts d → (c ≡ true → nat_lt room 2 ≡ false) → d ≡ true → nat_lt room 2 ≡ false
  has_room _ _ _ (over c) room_is = room_is
  has_room _ _ _ (turn c e d xs ys v later) room_is = has_room e d ys later (by_case (qualifier_is c e v.token v.is))
    where
      by_case : ((is_const v.token ≡ true) × (e ≡ true) × (nat_lt room 2 ≡ false)) ⊎ ((is_restrict v.token ≡ true) × (c ≡ e)) → e ≡ true → nat_lt room 2 ≡ false
      by_case (inl k) h = k.2
      by_case (inr k) h = room_is (k.1 ∙ h)

  stays_constant : (c d : Bool) (ts : List Token) → AreQualifiers w c ts d → c ≡ true → d ≡ true
  stays_constant _ _ _ (no_qualifiers c) h = h
  stays_constant _ _ _ (constant c d t ts is are) h = stays_constant true d ts are refl
  stays_constant _ _ _ (restricted c d t ts is are) h = stays_constant c d ts are h

  pub from_qualifiers : (c d : Bool) (ts : List Token) → AreQualifiers w c ts d → (d ≡ true → nat_lt room 2 ≡ false) → Turns (λ c. IsValue (qualified c)) c ts d
  from_qualifiers _ _ _ (no_qualifiers c) room_is = over c
  from_qualifiers _ _ _ (constant c d t ts is are) room_is =
      turn c true d (t ∷ []) ts (record { token = t; alone = refl; is = const_gives c t is (room_is (stays_constant true d ts are refl)) }) (from_qualifiers true d ts are room_is)
  from_qualifiers _ _ _ (restricted c d t ts is are) room_is = turn c c d (t ∷ []) ts (record { token = t; alone = refl; is = restrict_gives c t is }) (from_qualifiers c d ts are room_is)

  -- ---- words before the size of a parameter's outermost array

  abbrev is_static : Token → Bool
  is_static = is_keyword w keyword.Static

  abbrev is_volatile : Token → Bool
  is_volatile = is_keyword w keyword.Volatile

  -- `q`: qualifiers stand before `static`; `f`: it was read; `k`: the token is a qualifier that is read
  abbrev worded_by : (s k q f : Bool) → Option (Bool × Bool)
  worded_by s k q f = if s then (if f then None else Some (q, true)) else (if k then (if q && f then None else Some (not f, f)) else None)

  abbrev is_kept : Token → Bool
  is_kept t = is_const t || is_restrict t

  abbrev worded : Bool × Bool → Token → Option (Bool × Bool)
  worded found t = worded_by (is_static t) (is_kept t) found.0 found.1

  abbrev word_by : (s k r v q f : Bool) → Token → List Token → Outcome Token (Bool × Bool)
  word_by s k r v q f t ts =
      if s && not f then and_then (if s then done t ts else stop unexpected (suc (length ts))) (λ t. pure (q, true))
      else (if q && f then stop unexpected (suc (length ts))
      else (if v then stop expr.volatile (suc (length ts)) else and_then (if k || (r || v) then done t ts else stop unexpected (suc (length ts))) (λ t. pure (not f, f))))

  -- `static` is no qualifier, and `volatile` no other one
  record Apart (s k r v : Bool) : Type 0 where
    no_qualifier : s ≡ true → (k ≡ false) × (r ≡ false)
    no_other : v ≡ true → (s ≡ false) × (k ≡ false) × (r ≡ false)

  words_apart : (t : Token) → Apart (is_static t) (is_const t) (is_restrict t) (is_volatile t)
  words_apart t = record {
    no_qualifier = λ h. (kind_off w (sign.is_same_keyword keyword.Static) keyword.Const t refl h, kind_off w (sign.is_same_keyword keyword.Static) keyword.Restrict t refl h);
    no_other = λ h. (kind_off w (sign.is_same_keyword keyword.Volatile) keyword.Static t refl h, kind_off w (sign.is_same_keyword keyword.Volatile) keyword.Const t refl h, kind_off w (sign.is_same_keyword keyword.Volatile) keyword.Restrict t refl h);
  }

  word_head : (found : Bool × Bool) → OnHead (is_size_word w functions may_lack below part room rest) (IsValue (worded found)) (λ _. never) (size_word w functions may_lack below part room rest found)
  unfolding size_word
  word_head found =
      by_token (is_size_word w functions may_lack below part room rest) (worded found) (size_word w functions may_lack below part room rest found)
      (λ t ts a h. reads (is_static t) (is_const t) (is_restrict t) (is_volatile t) (words_apart t) found.0 found.1 t ts a h) (λ t h k. stops (is_static t) (is_const t) (is_restrict t) (is_volatile t) (words_apart t) found.0 found.1 t h)
      (λ t a h. inside (is_static t) (is_const t) (is_restrict t) (is_volatile t) a h)
    where
      reads : (s k r v : Bool) → Apart s k r v → (q f : Bool) (t : Token) (ts : List Token) (a : Bool × Bool) → worded_by s (k || r) q f ≡ Some a → word_by s k r v q f t ts ≡ done a ts
      reads true k r v off q true t ts a h = absurd (cc h)
      reads true k r v off q false t ts a h = let value : (q, true) ≡ a = cc h in ap (λ z. done z ts) value
      reads false k r v off true true t ts a h = absurd (none k r h)
        where
          none : (k r : Bool) → worded_by false (k || r) true true ≡ Some a → ⊥
          none true r h = cc h
          none false true h = cc h
          none false false h = cc h
      reads false true r true off q f t ts a h = absurd (cc ((off.no_other refl).1))
      reads false false true true off q f t ts a h = absurd (cc ((off.no_other refl).2))
      reads false true r false off false f t ts a h = let value : (not f, f) ≡ a = cc h in ap (λ z. done z ts) value
      reads false true r false off true false t ts a h = let value : (true, false) ≡ a = cc h in ap (λ z. done z ts) value
      reads false false true false off false f t ts a h = let value : (not f, f) ≡ a = cc h in ap (λ z. done z ts) value
      reads false false true false off true false t ts a h = let value : (true, false) ≡ a = cc h in ap (λ z. done z ts) value
      reads false false false v off q f t ts a h = absurd (cc h)

      stops : (s k r v : Bool) → Apart s k r v → (q f : Bool) (t : Token) → worded_by s (k || r) q f ≡ None → (n : ℕ) × ((ts : List Token) → word_by s k r v q f t ts ≡ stop n (suc (length ts)))
      stops true k r v off q false t h = absurd (cc h)
      stops true k r v off true true t h = (unexpected, λ ts. refl)
      stops true true r v off false true t h = absurd (cc ((off.no_qualifier refl).0))
      stops true false true v off false true t h = absurd (cc ((off.no_qualifier refl).1))
      stops true false false true off false true t h = (expr.volatile, λ ts. refl)
      stops true false false false off false true t h = (unexpected, λ ts. refl)
      stops false k r v off true true t h = (unexpected, λ ts. refl)
      stops false true r v off false f t h = absurd (cc h)
      stops false true r v off true false t h = absurd (cc h)
      stops false false true v off false f t h = absurd (cc h)
      stops false false true v off true false t h = absurd (cc h)
      stops false false false true off false f t h = (expr.volatile, λ ts. refl)
      stops false false false false off false f t h = (unexpected, λ ts. refl)
      stops false false false true off true false t h = (expr.volatile, λ ts. refl)
      stops false false false false off true false t h = (unexpected, λ ts. refl)

      inside : (s k r v : Bool) (a : Bool × Bool) → worded_by s (k || r) found.0 found.1 ≡ Some a → (s || (k || (r || v))) ≡ true
      inside true k r v a h = refl
      inside false true r v a h = refl
      inside false false true v a h = refl
      inside false false false v a h = absurd (cc h)

  abbrev pub WordTexts : List Token → Bool × Bool → Type 0
  WordTexts = Turns (λ found. IsValue (worded found)) (false, false)

  pub words_law : Lawful WordTexts (λ found. is_size_word w functions may_lack below part room rest) (looped (is_size_word w functions may_lack below part room rest) (size_word w functions may_lack below part room rest) (false, false))
  words_law = turns_law word_head (false, false)

  one_more_qualifier : (c d : Bool) (ts : List Token) (t : Token) → AreQualifiers w c ts d → is_kept t ≡ true → (e : Bool) × AreQualifiers w c (ts ++ (t ∷ [])) e
  one_more_qualifier _ _ _ t (no_qualifiers c) h = by_kind (is_const t) refl h
    where
      by_kind : (k : Bool) → is_const t ≡ k → (k || is_restrict t) ≡ true → (e : Bool) × AreQualifiers w c (t ∷ []) e
      by_kind true k h = (true, constant c true t [] k (no_qualifiers true))
      by_kind false k h = (c, restricted c c t [] h (no_qualifiers c))
  one_more_qualifier _ _ _ t (constant c d u ts is are) h = let more = one_more_qualifier true d ts t are h in (more.0, constant c more.0 u (ts ++ (t ∷ [])) is more.1)
  one_more_qualifier _ _ _ t (restricted c d u ts is are) h = let more = one_more_qualifier c d ts t are h in (more.0, restricted c more.0 u (ts ++ (t ∷ [])) is more.1)

  -- the words so far
  data SoFar : List Token → (q f : Bool) → Type 0 where
    nothing_yet : SoFar [] false false
    qualifiers_yet : (ts : List Token) (c : Bool) → AreQualifiers w false ts c → SoFar ts true false
    behind_static : (t : Token) (ts : List Token) (c : Bool) → is_static t ≡ true → AreQualifiers w false ts c → SoFar (t ∷ ts) false true
    before_static : (t : Token) (ts : List Token) (c : Bool) → AreQualifiers w false ts c → is_static t ≡ true → SoFar (ts ++ (t ∷ [])) true true

  data Next (t : Token) : (q f : Bool) → Bool × Bool → Type 0 where
    next_static : (q : Bool) → is_static t ≡ true → Next t q false (q, true)
    next_qualifier : (q f : Bool) → is_kept t ≡ true → (q && f) ≡ false → Next t q f (not f, f)

  next_of : (q f : Bool) (c : Bool × Bool) (t : Token) → worded (q, f) t ≡ Some c → Next t q f c
  next_of q f c t h = go (is_static t) refl (is_kept t) refl q f h
    where
      go : (s : Bool) → is_static t ≡ s → (k : Bool) → is_kept t ≡ k → (q f : Bool) → worded_by s k q f ≡ Some c → Next t q f c
      go true e k g q true h = absurd (cc h)
      go true e k g q false h = let value : (q, true) ≡ c = cc h in subst (Next t q false) value (next_static q e)
      go false e true g true true h = absurd (cc h)
      go false e true g true false h = let value : (true, false) ≡ c = cc h in subst (Next t true false) value (next_qualifier true false g refl)
      go false e true g false f h = let value : (not f, f) ≡ c = cc h in subst (Next t false f) value (next_qualifier false f g refl)
      go false e false g q f h = absurd (cc h)

  one_word : (q f : Bool) (c : Bool × Bool) (t : Token) (ts : List Token) → SoFar ts q f → Next t q f c → SoFar (ts ++ (t ∷ [])) c.0 c.1
  one_word _ _ _ t _ nothing_yet (next_static q h) = behind_static t [] false h (no_qualifiers false)
  one_word _ _ _ t _ nothing_yet (next_qualifier _ _ h k) = let more = one_more_qualifier false false [] t (no_qualifiers false) h in qualifiers_yet (t ∷ []) more.0 more.1
  one_word _ _ _ t _ (qualifiers_yet ts c are) (next_static q h) = before_static t ts c are h
  one_word _ _ _ t _ (qualifiers_yet ts c are) (next_qualifier _ _ h k) = let more = one_more_qualifier false c ts t are h in qualifiers_yet (ts ++ (t ∷ [])) more.0 more.1
  one_word _ _ _ t _ (behind_static u ts c is are) (next_qualifier _ _ h k) = let more = one_more_qualifier false c ts t are h in behind_static u (ts ++ (t ∷ [])) more.0 is more.1
  one_word _ _ _ t _ (before_static u ts c are is) (next_qualifier _ _ h k) = absurd (cc k)

  words_on : (xs : List Token) (b c : Bool × Bool) (ys : List Token) → SoFar xs b.0 b.1 → Turns (λ found. IsValue (worded found)) b ys c → SoFar (xs ++ ys) c.0 c.1
  words_on xs _ _ _ are (over b) = subst (λ l. SoFar l b.0 b.1) (sym (append-nil xs)) are
  words_on xs _ _ _ are (turn b m c us vs v later) =
      subst (λ l. SoFar l c.0 c.1) (append_assoc xs us vs) (words_on (xs ++ us) m c vs (subst (λ l. SoFar (xs ++ l) m.0 m.1) (sym v.alone) (one_word b.0 b.1 m v.token xs are (next_of b.0 b.1 m v.token v.is))) later)

  all_words : (ts : List Token) (q f : Bool) → SoFar ts q f → AreSizeWords w ts f
  all_words _ _ _ nothing_yet = no_static [] false (no_qualifiers false)
  all_words _ _ _ (qualifiers_yet ts c are) = no_static ts c are
  all_words _ _ _ (behind_static t ts c is are) = static_first t ts c is are
  all_words _ _ _ (before_static t ts c are is) = static_last t ts c are is

  pub are_words : (c : Bool × Bool) (ts : List Token) → WordTexts ts c → AreSizeWords w ts c.1
  are_words c ts is = all_words ts c.0 c.1 (words_on [] (false, false) c ts nothing_yet is)

  -- a qualifier goes on where none stands before a `static`
  keeps : (q f : Bool) (t : Token) → (q && f) ≡ false → is_static t ≡ false → is_kept t ≡ true → worded (q, f) t ≡ Some (not f, f)
  keeps q f t free s k = rw (s, k, free) refl

  const_kept : (t : Token) → is_const t ≡ true → (is_static t ≡ false) × (is_kept t ≡ true)
  const_kept t h = (kind_off w (sign.is_same_keyword keyword.Const) keyword.Static t refl h, or_first (is_const t) (is_restrict t) h)

  restrict_kept : (t : Token) → is_restrict t ≡ true → (is_static t ≡ false) × (is_kept t ≡ true)
  restrict_kept t h = (kind_off w (sign.is_same_keyword keyword.Restrict) keyword.Static t refl h, or_second (is_const t) (is_restrict t) h)

  stays : (f : Bool) → (not f && f) ≡ false
  stays true = refl
  stays false = refl

  abbrev WordTurns : Bool × Bool → List Token → Bool × Bool → Type 0
  WordTurns = Turns (λ found. IsValue (worded found))

  -- the first qualifier, and those behind it
  qualifier_turns : (q f : Bool) → (q && f) ≡ false → (t : Token) (ts : List Token) → (is_static t ≡ false) × (is_kept t ≡ true) → WordTurns (not f, f) ts (not f, f) → WordTurns (q, f) (t ∷ ts) (not f, f)
  qualifier_turns q f free t ts k later = turn (q, f) (not f, f) (not f, f) (t ∷ []) ts (record { token = t; alone = refl; is = keeps q f t free k.0 k.1 }) later

  more_qualifiers : (f c d : Bool) (ts : List Token) → AreQualifiers w c ts d → WordTurns (not f, f) ts (not f, f)
  more_qualifiers f _ _ _ (no_qualifiers c) = over (not f, f)
  more_qualifiers f _ _ _ (constant c d t ts is are) = qualifier_turns (not f) f (stays f) t ts (const_kept t is) (more_qualifiers f true d ts are)
  more_qualifiers f _ _ _ (restricted c d t ts is are) = qualifier_turns (not f) f (stays f) t ts (restrict_kept t is) (more_qualifiers f c d ts are)

  first_qualifiers : (c d : Bool) (ts : List Token) → AreQualifiers w c ts d → (q : Bool) × WordTexts ts (q, false)
  first_qualifiers _ _ _ (no_qualifiers c) = (false, over (false, false))
  first_qualifiers _ _ _ (constant c d t ts is are) = (true, qualifier_turns false false refl t ts (const_kept t is) (more_qualifiers false true d ts are))
  first_qualifiers _ _ _ (restricted c d t ts is are) = (true, qualifier_turns false false refl t ts (restrict_kept t is) (more_qualifiers false c d ts are))

  static_gives : (q : Bool) (t : Token) → is_static t ≡ true → worded (q, false) t ≡ Some (q, true)
  static_gives q t h = rw (h) refl

  pub from_words : (f : Bool) (ts : List Token) → AreSizeWords w ts f → (q : Bool) × WordTexts ts (q, f)
  from_words _ _ (no_static ts c are) = first_qualifiers false c ts are
  from_words _ _ (static_first t ts c is are) =
      (false, turn (false, false) (false, true) (false, true) (t ∷ []) ts (record { token = t; alone = refl; is = static_gives false t is }) (more_qualifiers true false c ts are))
  from_words _ _ (static_last t ts c are is) =
      let before = first_qualifiers false c ts are in
      (before.0, turned_once_more (false, false) (before.0, false) (before.0, true) ts (t ∷ []) before.1 (record { token = t; alone = refl; is = static_gives before.0 t is }))
