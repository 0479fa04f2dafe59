-- Why the readers of arguments stop.
use Rattle.std.proofs.Common.{◌≡◌, ℕ, Bool, true, false, ◌||◌, List, [], ◌∷◌, ◌++◌, length, nat_lt, Option, Some, None, refl, sym, ap, ◌∙◌, subst, append_assoc, append-nil}
use Rattle.std.specs.Option.{option_map_or}
use Rattle.sb_base.specs.declared.interning.Name.{Name}
use Rattle.sb_base.specs.declared.refusals.Place.{Place}
use Rattle.sb_base.specs.declared.tokens.Token.{Token}
use Rattle.sb_parse.specs.Parser.{Parser, done, at_next, ◌>>=◌, pure, refuse, token, taken, choose, guard}
use Rattle.sb_tree.specs.declared.operator.UnaryOp.TheVariants as unary
use Rattle.sb_tree.specs.Trees as tree
use Rattle.sb_tree.specs.Trees.{ExprTree, NoteTree, ArgTree, ExprArg, NoteArg}
use Rattle.sb_expr.specs.Expression.{Assignment}
use Rattle.sb_lexicon.specs.Lexicon.{Lexicon, name_of}
use Rattle.sb_expr.specs.Readers.{expr_reader}
use Rattle.sb_lexicon.specs.Tokens.{unexpected, too_deep, is_open, is_close, is_comma, is_star, begins_expr, bad_arguments, bad_kind}
use Rattle.sb_expr.proofs.telling.Reasons.{expr_reason}
use Rattle.sb_parse.proofs.Ways.{or_first, or_second}
use Rattle.sb_sign.specs.declared.spelling.Arguments.{Arguments}
use Rattle.sb_sign.specs.declared.spelling.Arguments.TheVariants as arguments
use Rattle.sb_sal.specs.Notes.{inside, place_name, anywhere, IsLocation, is_result, is_parameter, is_target, is_field}
use Rattle.sb_sal.specs.Readers.{is_arrow, is_return, is_place_name, continues, named, member_of, wrong, ending, result, field, parameter, target, location, value, memory, separator, closing, inner, two}
use Rattle.sb_sal.specs.Reasons.{Expected, AValue, ALocation, TheMemory, ANote, AComma, AClose, first_of, second_of, IsFirst, Awaits, first, comma, second, shows_other, GoesElsewhere, from_location, from_star, from_memory, IsBadArguments, takes_nothing, takes_something, shown_by, IsBadKind, IsNoteReason, no_annotation, no_place, other_arguments, other_kind, in_expression, no_text, deeper}
use Rattle.sb_sal.specs.Spellings.{begins_note, arguments_of, is_listed, is_mem}
use Rattle.sb_parse.proofs.Explaining.{Explained, behind, at_once, not_done, at_choice, at_guard, at_token, at_taken, Goes, in_turn, token_was, taken_was, next_is, mapped, reworded}
use Rattle.sb_sal.proofs.Inside.{separator_law}

-- ---- reasons in a longer list

-- the reason is the same behind more tokens
arguments_further : (w : Lexicon) (ahead front bad : List Token) → IsBadArguments w front bad → IsBadArguments w (ahead ++ front) bad
arguments_further w ahead front bad (takes_nothing before rest t o f e h k) = takes_nothing (ahead ++ before) rest t o (ap (λ z. ahead ++ z) f ∙ sym (append_assoc ahead before (t ∷ []))) e h k
arguments_further w ahead front bad (takes_something before rest t s f e h k l) = takes_something (ahead ++ before) rest t s (ap (λ z. ahead ++ z) f ∙ sym (append_assoc ahead before (t ∷ []))) e h k l
arguments_further w ahead front bad (shown_by before args rest t o s a x f e h k l m) =
    shown_by (ahead ++ before) args rest t o s a x (ap (λ z. ahead ++ z) f ∙ sym (append_assoc ahead before (t ∷ (o ∷ args)))) e h k l m

kind_further : (w : Lexicon) (ahead front bad : List Token) (count : ℕ) → IsBadKind w front bad count → IsBadKind w (ahead ++ front) bad count
kind_further w ahead front bad count r =
    record {
      before = ahead ++ r.before;
      shown = r.shown;
      rest = r.rest;
      name = r.name;
      opening = r.opening;
      next = r.next;
      kind = r.kind;
      split = ap (λ z. ahead ++ z) r.split ∙ sym (append_assoc ahead r.before (r.name ∷ (r.opening ∷ r.shown)));
      counted = r.counted;
      goes_on = r.goes_on;
      takes = r.takes;
      opens = r.opens;
      elsewhere = r.elsewhere;
    }

pub further : (w : Lexicon) (may : Token → Bool) (ahead front bad : List Token) (n : ℕ) → IsNoteReason w may front bad n → IsNoteReason w may (ahead ++ front) bad n
further w may ahead front bad _ (no_annotation t rest e h) = no_annotation t rest e h
further w may ahead front bad _ (no_place t rest e h k) = no_place t rest e h k
further w may ahead front bad _ (other_arguments r) = other_arguments (arguments_further w ahead front bad r)
further w may ahead front bad _ (other_kind count r) = other_kind count (kind_further w ahead front bad count r)
further w may ahead front bad _ (in_expression before rest n f r) = in_expression (ahead ++ before) rest n (ap (λ z. ahead ++ z) f ∙ sym (append_assoc ahead before rest)) r
further w may ahead front bad _ no_text = no_text
further w may ahead front bad _ (deeper t rest e h) = deeper t rest e h

-- where any annotation may stand, none may not
pub wherever : (w : Lexicon) (may : Token → Bool) (front bad : List Token) (n : ℕ) → IsNoteReason w anywhere front bad n → IsNoteReason w may front bad n
wherever w may front bad _ (no_annotation t rest e h) = no_annotation t rest e h
wherever w may front bad _ (no_place t rest e h k) = absurd (cc k)
wherever w may front bad _ (other_arguments r) = other_arguments r
wherever w may front bad _ (other_kind count r) = other_kind count r
wherever w may front bad _ (in_expression before rest n f r) = in_expression before rest n f r
wherever w may front bad _ no_text = no_text
wherever w may front bad _ (deeper t rest e h) = deeper t rest e h

pub deeper_by : (w : Lexicon) (may : Token → Bool) (front : List Token) (test : Token → Bool) → ((t : Token) → test t ≡ true → (is_listed w t || (is_star w t || is_arrow w t)) ≡ true)
    → (ts : List Token) → at_next test ts ≡ true → IsNoteReason w may front ts too_deep
deeper_by w may front test shows ts h = let t = next_is test ts h in deeper t.0 t.1 t.2 (shows t.0 t.3)

module _ (w : Lexicon) (below : ℕ) (may : Token → Bool) where
  -- ---- behind the parenthesis of an annotation

  abbrev pub Within : Token → Token → List Token → List Token → ℕ → Type 0
  Within t o = behind (t ∷ (o ∷ [])) (IsNoteReason w may)

  module _ (t o : Token) (a : Arguments) (takes : arguments_of w t ≡ Some a) (opens : is_open w o ≡ true) where
    shown_here : (args : List Token) (x : Expected) → Awaits w a args x → (ts : List Token) → at_next (shows_other w x) ts ≡ true → behind args (Within t o) [] ts bad_arguments
    shown_here args x awaits ts h =
        let it = next_is (shows_other w x) ts h in
        other_arguments (shown_by [] args it.1 t o it.0 a x (ap (λ z. t ∷ (o ∷ z)) (append-nil args)) it.2 takes opens awaits it.3)

    elsewhere_here : (shown : List Token) (test : Token → Bool) (ts : List Token) → at_next test ts ≡ true → ((s : Token) → test s ≡ true → GoesElsewhere w a shown s) → behind shown (Within t o) [] ts (bad_kind (length shown))
    elsewhere_here shown test ts h goes =
        let it = next_is test ts h in
        other_kind (length shown) (record {
          before = [];
          shown = shown;
          rest = it.1;
          name = t;
          opening = o;
          next = it.0;
          kind = a;
          split = ap (λ z. t ∷ (o ∷ z)) (append-nil shown);
          counted = refl;
          goes_on = it.2;
          takes = takes;
          opens = opens;
          elsewhere = goes it.0 it.3;
        })

    pub separator_why : (args : List Token) → Awaits w a args AComma → (ts : List Token) → Explained (behind args (Within t o)) ts (separator w below ts)
    unfolding separator
    separator_why args awaits ts =
        at_choice (is_close w) (refuse bad_arguments) (token unexpected (is_comma w)) ts (λ h. at_once {A = Token} bad_arguments ts (shown_here args AComma awaits ts h)) (λ h. at_token unexpected (is_comma w) ts (λ k. no_text))

    pub closing_why : (args : List Token) → Awaits w a args AClose → (ts : List Token) → Explained (behind args (Within t o)) ts (closing w below ts)
    unfolding closing
    closing_why args awaits ts =
        at_choice (is_comma w) (refuse bad_arguments) (token unexpected (is_close w)) ts (λ h. at_once {A = Token} bad_arguments ts (shown_here args AClose awaits ts h)) (λ h. at_token unexpected (is_close w) ts (λ k. no_text))

    -- a token that begins something else, where the tests are those of other arguments
    wrong_why : {A : Type 0} (args : List Token) (x : Expected) → Awaits w a args x → ((s : Token) → (is_close w s || begins_expr (inside w) s) ≡ shows_other w x s) → (ts : List Token)
        → Explained (behind args (Within t o)) ts (wrong {A = A} w ts)
    wrong_why {A = A} args x awaits same ts =
        at_choice (λ s. is_close w s || begins_expr (inside w) s) (refuse bad_arguments) (refuse unexpected) ts
        (λ h. at_once {A = A} bad_arguments ts (shown_here args x awaits ts (as_shown ts h))) (λ h. at_once {A = A} unexpected ts no_text)
      where
        as_shown : (ts : List Token) → at_next (λ s. is_close w s || begins_expr (inside w) s) ts ≡ true → at_next (shows_other w x) ts ≡ true
        as_shown [] h = absurd (cc h)
        as_shown (s ∷ ts) h = sym (same s) ∙ h

    -- ---- a size or a condition

    pub value_why : (args : List Token) → Awaits w a args AValue → (ts : List Token) → Explained (behind args (Within t o)) ts (value w below ts)
    unfolding value
    value_why args awaits ts =
        at_choice (λ s. is_close w s || is_listed w s) (refuse bad_arguments) (expr_reader (inside w) below Assignment >>= (λ e. pure (ExprArg e))) ts
        (λ h. at_once {A = ArgTree} bad_arguments ts (shown_here args AValue awaits ts h)) (λ h. mapped (expr_reader (inside w) below Assignment ts) ExprArg ts expr_why)
      where
        expr_why : Explained (behind args (Within t o)) ts (expr_reader (inside w) below Assignment ts)
        expr_why n left e =
            let r = expr_reason (inside w) below Assignment ts n left e in
            record { front = r.front; bad = r.bad; split = r.split; left_is = r.left_is; why = in_expression (t ∷ (o ∷ args)) r.front n refl r.reason }

    -- ---- an annotation inside

    pub inner_why : (part : (Token → Bool) → Parser Token NoteTree) (m : Token → Bool) → ((front bad : List Token) (n : ℕ) → IsNoteReason w m front bad n → IsNoteReason w may front bad n)
        → ((ts : List Token) → Explained (IsNoteReason w m) ts (part m ts)) → (args : List Token) → Awaits w a args ANote → (ts : List Token) → Explained (behind args (Within t o)) ts (inner w below part may m ts)
    unfolding inner
    inner_why part m to P args awaits ts =
        at_choice (begins_note w) (part m >>= (λ n. pure (NoteArg n))) (wrong w) ts
        (λ h. mapped (part m ts) NoteArg ts (reworded (λ front bad n r. further w may (t ∷ (o ∷ args)) front bad n (to front bad n r)) (P ts))) (λ h. wrong_why args ANote awaits (λ s. refl) ts)

    -- ---- two arguments

    -- the first argument that was read
    pub record FirstRead (ts rest : List Token) : Type 0 where
      pub tokens : List Token
      pub split : ts ≡ tokens ++ rest
      pub is : IsFirst w (first_of a) tokens

    pub two_why : (part : (Token → Bool) → Parser Token NoteTree) (p q : Parser Token ArgTree) (x : Expected) → second_of a ≡ Some x → (ts : List Token) → Explained (Within t o) ts (p ts)
        → ((b : ArgTree) (rest : List Token) → p ts ≡ done b rest → FirstRead ts rest) → ((args : List Token) → Awaits w a args x → (us : List Token) → Explained (behind args (Within t o)) us (q us))
        → Explained (Within t o) ts (two w below part may p q ts)
    unfolding two
    two_why part p q x seconds ts P was Q = in_turn p (λ b. separator w below >>= (λ c. q >>= (λ d. pure (b ∷ (d ∷ []))))) ts P later
      where
        later : (b : ArgTree) (rest : List Token) → p ts ≡ done b rest → Goes (Within t o) ts rest ((separator w below >>= (λ c. q >>= (λ d. pure (b ∷ (d ∷ []))))) rest)
        later b rest e = record {
          before = f.tokens;
          split = f.split;
          then_so = in_turn (separator w below) (λ c. q >>= (λ d. pure (b ∷ (d ∷ [])))) rest (separator_why f.tokens (comma a f.tokens x seconds f.is) rest) last;
        }
          where
            f : FirstRead ts rest
            f = was b rest e

            last : (c : Token) (us : List Token) → separator w below rest ≡ done c us → Goes (behind f.tokens (Within t o)) rest us ((q >>= (λ d. pure (b ∷ (d ∷ [])))) us)
            last c us k =
                let u = (separator_law w below).sound rest c us k in
                record {
                  before = c ∷ [];
                  split = u.split ∙ ap (λ z. z ++ us) u.is.alone;
                  then_so = mapped (q us) (λ d. b ∷ (d ∷ [])) us
                      (reworded (λ front bad n r. subst (λ z. Within t o z bad n) (append_assoc f.tokens (c ∷ []) front) r) (Q (f.tokens ++ (c ∷ [])) (second a f.tokens c x seconds f.is u.is.passes) us));
                }

  -- ---- a location

  named_is : (u : Token) (e : ExprTree) → named w u ≡ Some e → (n : Name) × (place_name w u ≡ Some n) × (e ≡ tree.Identifier n u.place)
  named_is u e h = go (place_name w u) refl h
    where
      go : (o : Option Name) → place_name w u ≡ o → option_map_or {U = Option ExprTree} (λ n. Some (tree.Identifier n u.place)) o None ≡ Some e → (n : Name) × (place_name w u ≡ Some n) × (e ≡ tree.Identifier n u.place)
      go None k h = absurd (cc h)
      go (Some n) k h = let same : tree.Identifier n u.place ≡ e = cc h in (n, k, sym same)

  member_is : (u : Token) (m : Name × Place) → member_of w u ≡ Some m → name_of w u ≡ Some m.0
  member_is u m h = go (name_of w u) refl h
    where
      go : (o : Option Name) → name_of w u ≡ o → option_map_or {U = Option (Name × Place)} (λ n. Some (n, u.place)) o None ≡ Some m → name_of w u ≡ Some m.0
      go None k h = absurd (cc h)
      go (Some n) k h = let same : (n, u.place) ≡ m = cc h in k ∙ ap (λ z. Some z.0) same

  module _ (t o : Token) (takes : arguments_of w t ≡ Some arguments.LocatedNote) (opens : is_open w o ≡ true) where
    -- behind a location
    ending_why : (shown : List Token) (e f : ExprTree) → IsLocation w shown f → (ts : List Token) → Explained (behind shown (Within t o)) ts (ending w (length shown) e ts)
    ending_why shown e f is ts =
        at_choice (continues w) (refuse (bad_kind (length shown))) (pure e) ts
        (λ h. at_once {A = ExprTree} (bad_kind (length shown)) ts (elsewhere_here t o arguments.LocatedNote takes opens shown (continues w) ts h (λ s k. from_location shown f s is k))) (λ h. not_done ts e ts)

    result_why : (ts : List Token) → Explained (Within t o) ts (result w below ts)
    unfolding result
    result_why ts = in_turn (token unexpected (is_return w)) (λ u. ending w 1 (tree.Identifier u.text u.place)) ts (at_token unexpected (is_return w) ts (λ h. no_text)) later
      where
        later : (u : Token) (rest : List Token) → token unexpected (is_return w) ts ≡ done u rest → Goes (Within t o) ts rest (ending w 1 (tree.Identifier u.text u.place) rest)
        later u rest e =
            let it = token_was unexpected (is_return w) ts u rest e in
            record { before = u ∷ []; split = it.0; then_so = ending_why (u ∷ []) (tree.Identifier u.text u.place) (tree.Identifier u.text u.place) (is_result u it.1) rest }

    field_why : (u : Token) (n : Name) (e : ExprTree) → place_name w u ≡ Some n → (ts : List Token) → Explained (behind (u ∷ []) (Within t o)) ts (field w below e ts)
    unfolding field
    field_why u n e named_ ts =
        in_turn (token unexpected (is_arrow w)) (λ a. taken unexpected (member_of w) >>= (λ m. ending w 3 (tree.Member e true m.0 m.1 a.place))) ts (at_token unexpected (is_arrow w) ts (λ h. no_text)) later
      where
        later : (a : Token) (rest : List Token) → token unexpected (is_arrow w) ts ≡ done a rest
            → Goes (behind (u ∷ []) (Within t o)) ts rest ((taken unexpected (member_of w) >>= (λ m. ending w 3 (tree.Member e true m.0 m.1 a.place))) rest)
        later a rest e' =
            let it = token_was unexpected (is_arrow w) ts a rest e' in
            record {
              before = a ∷ [];
              split = it.0;
              then_so = in_turn (taken unexpected (member_of w)) (λ m. ending w 3 (tree.Member e true m.0 m.1 a.place)) rest (at_taken unexpected (member_of w) rest no_text) (last it.1);
            }
          where
            last : is_arrow w a ≡ true → (m : Name × Place) (us : List Token) → taken unexpected (member_of w) rest ≡ done m us
                → Goes (behind (a ∷ []) (behind (u ∷ []) (Within t o))) rest us (ending w 3 (tree.Member e true m.0 m.1 a.place) us)
            last arrow m us k =
                let f = taken_was unexpected (member_of w) rest m us k in
                record {
                  before = f.token ∷ [];
                  split = f.split;
                  then_so = ending_why (u ∷ (a ∷ (f.token ∷ []))) (tree.Member e true m.0 m.1 a.place) (tree.Member (tree.Identifier n u.place) true m.0 f.token.place a.place)
                      (is_field u a f.token n m.0 named_ arrow (member_is f.token m f.gives_it)) us;
                }

    parameter_why : (ts : List Token) → Explained (Within t o) ts (parameter w below ts)
    unfolding parameter
    parameter_why ts =
        in_turn (taken unexpected (named w)) (λ e. choose (is_arrow w) (guard (nat_lt below 2) too_deep (field w below e)) (ending w 1 e)) ts (at_taken unexpected (named w) ts no_text) later
      where
        later : (e : ExprTree) (rest : List Token) → taken unexpected (named w) ts ≡ done e rest → Goes (Within t o) ts rest (choose (is_arrow w) (guard (nat_lt below 2) too_deep (field w below e)) (ending w 1 e) rest)
        later e rest k =
            let u = taken_was unexpected (named w) ts e rest k in
            let n = named_is u.token e u.gives_it in
            record {
              before = u.token ∷ [];
              split = u.split;
              then_so = at_choice (is_arrow w) (guard (nat_lt below 2) too_deep (field w below e)) (ending w 1 e) rest
                  (λ h. at_guard (nat_lt below 2) too_deep (field w below e) rest (deeper_by w may _ (is_arrow w) (λ s l. or_second (is_listed w s) (is_star w s || is_arrow w s) (or_second (is_star w s) (is_arrow w s) l)) rest h) (field_why u.token n.0 e n.1 rest))
                  (λ h. ending_why (u.token ∷ []) e (tree.Identifier n.0 u.token.place) (is_parameter u.token n.0 n.1) rest);
            }

    target_why : (ts : List Token) → Explained (Within t o) ts (target w below ts)
    unfolding target
    target_why ts = in_turn (token unexpected (is_star w)) behind_star ts (at_token unexpected (is_star w) ts (λ h. no_text)) later
      where
        behind_star : Token → Parser Token ExprTree
        behind_star s =
            choose (is_place_name w) (taken unexpected (named w) >>= (λ e. ending w 2 (tree.Unary unary.Deref e s.place)))
            (choose (begins_expr (inside w)) (refuse (bad_kind 1)) (refuse unexpected))

        off_name : (rest : List Token) → at_next (is_place_name w) rest ≡ false → at_next (begins_expr (inside w)) rest ≡ true
            → (u : Token) × (us : List Token) × (rest ≡ u ∷ us) × (is_place_name w u ≡ false) × (begins_expr (inside w) u ≡ true)
        off_name [] h k = absurd (cc k)
        off_name (u ∷ us) h k = (u, us, refl, h, k)

        later : (s : Token) (rest : List Token) → token unexpected (is_star w) ts ≡ done s rest → Goes (Within t o) ts rest (behind_star s rest)
        later s rest e =
            let it = token_was unexpected (is_star w) ts s rest e in
            record { before = s ∷ []; split = it.0; then_so = choices it.1 }
          where
            named_why : is_star w s ≡ true → Explained (behind (s ∷ []) (Within t o)) rest ((taken unexpected (named w) >>= (λ e. ending w 2 (tree.Unary unary.Deref e s.place))) rest)
            named_why star = in_turn (taken unexpected (named w)) (λ e. ending w 2 (tree.Unary unary.Deref e s.place)) rest (at_taken unexpected (named w) rest no_text) last
              where
                last : (e : ExprTree) (us : List Token) → taken unexpected (named w) rest ≡ done e us → Goes (behind (s ∷ []) (Within t o)) rest us (ending w 2 (tree.Unary unary.Deref e s.place) us)
                last e us k =
                    let u = taken_was unexpected (named w) rest e us k in
                    let n = named_is u.token e u.gives_it in
                    record {
                      before = u.token ∷ [];
                      split = u.split;
                      then_so = ending_why (s ∷ (u.token ∷ [])) (tree.Unary unary.Deref e s.place) (tree.Unary unary.Deref (tree.Identifier n.0 u.token.place) s.place) (is_target s u.token n.0 star n.1) us;
                    }

            star_why : is_star w s ≡ true → at_next (is_place_name w) rest ≡ false → at_next (begins_expr (inside w)) rest ≡ true → behind (s ∷ []) (Within t o) [] rest (bad_kind 1)
            star_why star h k =
                let u = off_name rest h k in
                other_kind 1 (record {
                  before = [];
                  shown = s ∷ [];
                  rest = u.1;
                  name = t;
                  opening = o;
                  next = u.0;
                  kind = arguments.LocatedNote;
                  split = refl;
                  counted = refl;
                  goes_on = u.2;
                  takes = takes;
                  opens = opens;
                  elsewhere = from_star s u.0 star u.3 u.4;
                })

            choices : is_star w s ≡ true → Explained (behind (s ∷ []) (Within t o)) rest (behind_star s rest)
            choices star =
                at_choice (is_place_name w) (taken unexpected (named w) >>= (λ e. ending w 2 (tree.Unary unary.Deref e s.place))) (choose (begins_expr (inside w)) (refuse (bad_kind 1)) (refuse unexpected)) rest
                (λ h. named_why star)
                (λ h. at_choice (begins_expr (inside w)) (refuse (bad_kind 1)) (refuse unexpected) rest (λ k. at_once {A = ExprTree} (bad_kind 1) rest (star_why star h k)) (λ k. at_once {A = ExprTree} unexpected rest no_text))

    pub location_why : (ts : List Token) → Explained (Within t o) ts (location w below ts)
    unfolding location
    location_why ts =
        at_choice (is_return w) (result w below) (choose (is_place_name w) (parameter w below) (choose (is_star w) (guard (nat_lt below 2) too_deep (target w below)) (wrong w))) ts (λ h. result_why ts)
        (λ h. at_choice (is_place_name w) (parameter w below) (choose (is_star w) (guard (nat_lt below 2) too_deep (target w below)) (wrong w)) ts (λ k. parameter_why ts)
        (λ k. at_choice (is_star w) (guard (nat_lt below 2) too_deep (target w below)) (wrong w) ts (λ l. at_guard (nat_lt below 2) too_deep (target w below) ts (deeper_by w may _ (is_star w) (λ s m. or_second (is_listed w s) (is_star w s || is_arrow w s) (or_first (is_star w s) (is_arrow w s) m)) ts l) (target_why ts))
        (λ l. wrong_why t o arguments.LocatedNote takes opens [] ALocation (first arguments.LocatedNote) (λ s. refl) ts)))

  -- ---- the word `Mem`

  module _ (t o : Token) (takes : arguments_of w t ≡ Some arguments.Memory) (opens : is_open w o ≡ true) where
    pub memory_why : (ts : List Token) → Explained (Within t o) ts (memory w below ts)
    unfolding memory
    memory_why ts =
        at_choice (is_mem w) (token unexpected (is_mem w) >>= (λ u. ending w 1 (tree.Identifier u.text u.place) >>= (λ e. pure (ExprArg e)))) (wrong w) ts
        (λ h. in_turn (token unexpected (is_mem w)) (λ u. ending w 1 (tree.Identifier u.text u.place) >>= (λ e. pure (ExprArg e))) ts (at_token unexpected (is_mem w) ts (λ k. no_text)) later)
        (λ h. wrong_why t o arguments.Memory takes opens [] TheMemory (first arguments.Memory) (λ s. refl) ts)
      where
        later : (u : Token) (rest : List Token) → token unexpected (is_mem w) ts ≡ done u rest → Goes (Within t o) ts rest ((ending w 1 (tree.Identifier u.text u.place) >>= (λ e. pure (ExprArg e))) rest)
        later u rest e =
            let it = token_was unexpected (is_mem w) ts u rest e in
            record { before = u ∷ []; split = it.0; then_so = mapped (ending w 1 (tree.Identifier u.text u.place) rest) ExprArg rest (ends it.1) }
          where
            ends : is_mem w u ≡ true → Explained (behind (u ∷ []) (Within t o)) rest (ending w 1 (tree.Identifier u.text u.place) rest)
            ends mem =
                at_choice (continues w) (refuse (bad_kind 1)) (pure (tree.Identifier u.text u.place)) rest
                (λ h. at_once {A = ExprTree} (bad_kind 1) rest (elsewhere_here t o arguments.Memory takes opens (u ∷ []) (continues w) rest h (λ s k. from_memory u s mem k))) (λ h. not_done rest (tree.Identifier u.text u.place) rest)
