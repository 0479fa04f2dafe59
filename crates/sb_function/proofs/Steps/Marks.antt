-- What the steps of the readers in code compute.
use Rattle.std.proofs.Common.{◌≡◌, ◌↔◌, Bool, true, false, List, [], ◌∷◌, length, Option, Some, None, if◌then◌else◌, IsTrue, refl, sym, ap, ◌∙◌, true≢false}
use Rattle.sb_parse.specs.Parser.{done, stop, at_next, token, taken, taken_as}
use Rattle.sb_function.specs.declared.lexeme.Lexeme.{Lexeme}
use Rattle.sb_function.specs.declared.lexeme.Lexeme.TheVariants.{Other}
use Rattle.sb_function.specs.declared.lexeme.Piece.{Piece}
use Rattle.sb_function.specs.Grammar.{◌at◌}
use Rattle.sb_function.specs.Marks.{misplaced, is_bare, is_mark, next_lexeme}
use Rattle.sb_function.specs.Reads.{given}
use Rattle.sb_function.proofs.Laws.Pieces.{is_itself, mark_is}

pub mark_there : (l : Lexeme) (ts : List Piece) (t : Piece) (rest : List Piece) → ts ≡ t ∷ rest → t.lexeme ≡ l → token misplaced (is_mark l) ts ≡ done t rest
mark_there l ts t rest e same = ap (token misplaced (is_mark l)) e ∙ ap (λ b. if b then done t rest else stop misplaced (length (t ∷ rest))) (ap (λ z. is_mark l (z at t.place)) same ∙ is_itself l t.place)

not_mark : (l : Lexeme) (t : Piece) → is_bare l ≡ true → (t.lexeme ≡ l → ⊥) → is_mark l t ≡ false
not_mark l t bare other = go (is_mark l t) refl
  where
    go : (b : Bool) → is_mark l t ≡ b → b ≡ false
    go false e = refl
    go true e = absurd (other (ap (λ z. z.lexeme) (mark_is l t bare e)))

pub mark_lacking : (l : Lexeme) (ts : List Piece) (t : Piece) (rest : List Piece) → is_bare l ≡ true → ts ≡ t ∷ rest → (t.lexeme ≡ l → ⊥) → token misplaced (is_mark l) ts ≡ stop misplaced (length ts)
mark_lacking l ts t rest bare e other =
    ap (token misplaced (is_mark l)) e ∙ ap (λ b. if b then done t rest else stop misplaced (length (t ∷ rest))) (not_mark l t bare other) ∙ ap (λ z. stop misplaced (length z)) (sym e)

pub mark_ended : (l : Lexeme) (ts : List Piece) → ts ≡ [] → token misplaced (is_mark l) ts ≡ stop misplaced 0
mark_ended l ts e = ap (token misplaced (is_mark l)) e

-- the test of the next word or mark
pub next_is : (l : Lexeme) (ts : List Piece) → (l ≡ Other → ⊥) → next_lexeme ts ≡ l → at_next (is_mark l) ts ≡ true
next_is l [] some e = absurd (some (sym e))
next_is l (t ∷ ts) some e = ap (λ z. is_mark l (z at t.place)) e ∙ is_itself l t.place

pub next_is_not : (l : Lexeme) (ts : List Piece) → is_bare l ≡ true → (next_lexeme ts ≡ l → ⊥) → at_next (is_mark l) ts ≡ false
next_is_not l [] bare other = refl
next_is_not l (t ∷ ts) bare other = not_mark l t bare other

-- what the next word or mark gives
pub taken_given : {A : Type 0} (f : Lexeme → Option A) (ts : List Piece) → f Other ≡ None → taken misplaced (λ t. f t.lexeme) ts ≡ given (f (next_lexeme ts)) ts
taken_given {A = A} f [] none = sym (ap (λ o. given o []) none)
taken_given {A = A} f (t ∷ ts) none = go (f t.lexeme)
  where
    go : (o : Option A) → taken_as misplaced o ts ≡ given o (t ∷ ts)
    go None = refl
    go (Some a) = refl

pub next_test : (l : Lexeme) (ts : List Piece) (b : Bool) → is_bare l ≡ true → (l ≡ Other → ⊥) → (IsTrue b ↔ (next_lexeme ts ≡ l)) → b ≡ at_next (is_mark l) ts
next_test l ts true bare some same = sym (next_is l ts some (same.0 refl))
next_test l ts false bare some same = sym (next_is_not l ts bare (λ e. true≢false (sym (same.1 e))))
