-- Where fewer annotations may stand the readers do what they do where each may, or stop at one that may not stand there.
use Rattle.std.proofs.Common.{◌≡◌, ℕ, zero, suc, Bool, true, false, ◌&&◌, not, List, [], ◌∷◌, ◌++◌, length, if◌then◌else◌, refl, sym, ap, subst}
use Rattle.sb_base.specs.declared.tokens.Token.{Token}
use Rattle.sb_parse.specs.Parser.{Outcome, Parser, done, stop, at_next, and_then, ◌>>=◌, pure, token, taken, choose, refuse, loop, looped}
use Rattle.sb_tree.specs.Plain.{arg_list}
use Rattle.sb_tree.specs.Trees as tree
use Rattle.sb_tree.specs.Trees.{NoteTree, ArgTree, ExprArg, NoteArg}
use Rattle.sb_lexicon.specs.Lexicon.{Lexicon}
use Rattle.sb_lexicon.specs.Tokens.{unexpected, too_deep, unknown, misplaced, is_zero, is_open}
use Rattle.sb_sign.specs.declared.spelling.Arguments.{Arguments}
use Rattle.sb_sign.specs.declared.spelling.Arguments.TheVariants as arguments
use Rattle.sb_sal.specs.Notes.{anywhere}
use Rattle.sb_sal.specs.Readers.{Head, head_of, is_bare, value, memory, location, separator, closing, wrong, inner, one, two, arguments_by, in_parentheses, lacking, applied, bare, note, note_reader, next_note, notes_reader}
use Rattle.sb_sal.specs.Spellings.{begins_note, is_listed, is_unlisted}

pub data Held {A : Type 0} (o other : Outcome Token A) : Type 0 where
  same : other ≡ o → Held o other
  shorter : (left : ℕ) → other ≡ stop misplaced left → Held o other

abbrev pub Narrower : {A : Type 0} → Parser Token A → Parser Token A → Type 0
Narrower p q = (ts : List Token) → Held (p ts) (q ts)

alike : {A : Type 0} (p : Parser Token A) → Narrower p p
alike p ts = same refl

in_turn : {A B : Type 0} (o other : Outcome Token A) (q r : A → Parser Token B) → Held o other → ((a : A) → Narrower (q a) (r a)) → Held (and_then o q) (and_then other r)
in_turn o other q r (shorter left e) Q = shorter left (ap (λ z. and_then z r) e)
in_turn (done a rest) other q r (same e) Q = subst (λ z. Held (q a rest) (and_then z r)) (sym e) (Q a rest)
in_turn (stop n left) other q r (same e) Q = same (ap (λ z. and_then z r) e)

one_by_one : {A B : Type 0} (p s : Parser Token A) (q r : A → Parser Token B) → Narrower p s → ((a : A) → Narrower (q a) (r a)) → Narrower (p >>= q) (s >>= r)
one_by_one p s q r P Q ts = in_turn (p ts) (s ts) q r (P ts) Q

behind : {A B : Type 0} (p : Parser Token A) (q r : A → Parser Token B) → ((a : A) → Narrower (q a) (r a)) → Narrower (p >>= q) (p >>= r)
behind p q r Q = one_by_one p p q r (alike p) Q

before : {A B : Type 0} (p s : Parser Token A) (q : A → Parser Token B) → Narrower p s → Narrower (p >>= q) (s >>= q)
before p s q P = one_by_one p s q q P (λ a. alike (q a))

by_choice : {A : Type 0} (b : Bool) (o other x y : Outcome Token A) → Held o other → Held x y → Held (if b then o else x) (if b then other else y)
by_choice true o other x y P Q = P
by_choice false o other x y P Q = Q

choosing : {A : Type 0} (goes : Token → Bool) (p s q r : Parser Token A) → Narrower p s → Narrower q r → Narrower (choose goes p q) (choose goes s r)
choosing goes p s q r P Q ts = by_choice (at_next goes ts) (p ts) (s ts) (q ts) (r ts) (P ts) (Q ts)

turning : {A : Type 0} (goes : Token → Bool) (op other : A → Parser Token A) → ((a : A) → Narrower (op a) (other a)) → (a : A) → Narrower (looped goes op a) (looped goes other a)
unfolding loop
turning {A = A} goes op other Op a ts = turns (length ts) a ts
  where
    turns : (n : ℕ) (a : A) → Narrower (loop goes op n a) (loop goes other n a)
    turns zero a = alike (pure a)
    turns (suc n) a = choosing goes _ _ _ _ (one_by_one (op a) (other a) (loop goes op n) (loop goes other n) (Op a) (turns n)) (alike (pure a))

module _ (w : Lexicon) where
  -- an annotation that may not stand there is refused, and none where each may
  placed : (may : Token → Bool) {A : Type 0} (p q : Parser Token A) → Narrower p q
      → Narrower (choose (λ t. is_listed w t && not (anywhere t)) (refuse misplaced) p) (choose (λ t. is_listed w t && not (may t)) (refuse misplaced) q)
  placed may p q P ts = by_test (at_next (λ t. is_listed w t && not (may t)) ts) (at_next (λ t. is_listed w t && not (anywhere t)) ts) (never_out ts)
    where
      off : (b : Bool) → (b && false) ≡ false
      off true = refl
      off false = refl

      never_out : (ts : List Token) → at_next (λ t. is_listed w t && not (anywhere t)) ts ≡ false
      never_out [] = refl
      never_out (t ∷ ts) = off (is_listed w t)

      by_test : (b c : Bool) → c ≡ false → Held (if c then stop misplaced (length ts) else p ts) (if b then stop misplaced (length ts) else q ts)
      by_test b true h = absurd (cc h)
      by_test true false h = shorter (length ts) refl
      by_test false false h = P ts

  module _ (below : ℕ) (part : (Token → Bool) → Parser Token NoteTree) (P : (may : Token → Bool) → Narrower (part anywhere) (part may)) (may : Token → Bool) where
    inner_narrower : Narrower (inner w below part anywhere anywhere) (inner w below part may may)
    unfolding inner
    inner_narrower = choosing (begins_note w) (part anywhere >>= (λ n. pure (NoteArg n))) (part may >>= (λ n. pure (NoteArg n))) (wrong w) (wrong w) (before (part anywhere) (part may) (λ n. pure (NoteArg n)) (P may)) (alike (wrong w))

    arguments_narrower : (a : Arguments) → Narrower (arguments_by w below part anywhere a) (arguments_by w below part may a)
    unfolding one two inner
    arguments_narrower arguments.Nothing = alike (pure [])
    arguments_narrower arguments.Size = alike (one w below part may (value w below))
    arguments_narrower arguments.Sizes = alike (two w below part may (value w below) (value w below))
    arguments_narrower arguments.Condition = alike (one w below part may (value w below))
    arguments_narrower arguments.Memory = alike (one w below part may (memory w below))
    arguments_narrower arguments.Note = before (inner w below part anywhere anywhere) (inner w below part may may) (λ a. pure (a ∷ [])) inner_narrower
    arguments_narrower arguments.GuardedNote =
        behind (value w below) (λ a. separator w below >>= (λ c. inner w below part anywhere anywhere >>= (λ b. pure (a ∷ (b ∷ []))))) (λ a. separator w below >>= (λ c. inner w below part may may >>= (λ b. pure (a ∷ (b ∷ [])))))
        (λ a. behind (separator w below) (λ c. inner w below part anywhere anywhere >>= (λ b. pure (a ∷ (b ∷ [])))) (λ c. inner w below part may may >>= (λ b. pure (a ∷ (b ∷ []))))
        (λ c. before (inner w below part anywhere anywhere) (inner w below part may may) (λ b. pure (a ∷ (b ∷ []))) inner_narrower))
    arguments_narrower arguments.LocatedNote = alike (two w below part may (location w below >>= (λ e. pure (ExprArg e))) (inner w below part may anywhere))

    abbrev ended : Head → List ArgTree → Parser Token NoteTree
    ended h args = closing w below >>= (λ c. pure (tree.Note h.name (arg_list args) h.place))

    enclosed_narrower : (h : Head) → Narrower (in_parentheses w below part anywhere h) (in_parentheses w below part may h)
    unfolding in_parentheses
    enclosed_narrower h =
        behind (token unexpected (is_open w)) (λ o. arguments_by w below part anywhere h.arguments >>= ended h) (λ o. arguments_by w below part may h.arguments >>= ended h)
        (λ o. before (arguments_by w below part anywhere h.arguments) (arguments_by w below part may h.arguments) (ended h) (arguments_narrower h.arguments))

    applied_narrower : Narrower (applied w below part anywhere) (applied w below part may)
    unfolding applied
    applied_narrower =
        behind (taken unexpected (head_of w)) (λ h. choose (is_open w) (in_parentheses w below part anywhere h) (lacking w below part anywhere)) (λ h. choose (is_open w) (in_parentheses w below part may h) (lacking w below part may))
        (λ h. choosing (is_open w) (in_parentheses w below part anywhere h) (in_parentheses w below part may h) (lacking w below part may) (lacking w below part may) (enclosed_narrower h) (alike (lacking w below part may)))

    abbrev rest_of : (Token → Bool) → Parser Token NoteTree
    rest_of m =
        choose (λ t. is_zero below && (is_listed w t && not (is_bare w t))) (refuse too_deep)
        (choose (is_bare w) (bare w below part m)
        (choose (is_listed w) (applied w below part m)
        (refuse unexpected)))

    rest_narrower : Narrower (rest_of anywhere) (rest_of may)
    unfolding bare
    rest_narrower =
        choosing (λ t. is_zero below && (is_listed w t && not (is_bare w t))) (refuse too_deep) (refuse too_deep) _ _ (alike (refuse too_deep))
        (choosing (is_bare w) (bare w below part may) (bare w below part may) _ _ (alike (bare w below part may))
        (choosing (is_listed w) (applied w below part anywhere) (applied w below part may) (refuse unexpected) (refuse unexpected) applied_narrower (alike (refuse unexpected))))

    note_narrower : Narrower (note w below part anywhere) (note w below part may)
    unfolding note
    note_narrower = choosing (is_unlisted w) (refuse unknown) (refuse unknown) _ _ (alike (refuse unknown)) (placed may (rest_of anywhere) (rest_of may) rest_narrower)

  one_narrower : (left : ℕ) (may : Token → Bool) → Narrower (note_reader w left anywhere) (note_reader w left may)
  unfolding note_reader
  one_narrower zero may =
      choosing (is_unlisted w) (refuse unknown) (refuse unknown) _ _ (alike (refuse unknown))
      (placed may (choose (begins_note w) (refuse too_deep) (refuse unexpected)) (choose (begins_note w) (refuse too_deep) (refuse unexpected)) (alike (choose (begins_note w) (refuse too_deep) (refuse unexpected))))
  one_narrower (suc below) may = note_narrower below (note_reader w below) (one_narrower below) may

  -- a whole list of annotations
  pub narrower : (left : ℕ) (may : Token → Bool) → Narrower (notes_reader w left anywhere) (notes_reader w left may)
  unfolding next_note
  narrower left may = turning (begins_note w) (next_note w left anywhere) (next_note w left may) (λ ns. before (note_reader w left anywhere) (note_reader w left may) (λ n. pure (ns ++ (n ∷ []))) (one_narrower left may)) []
