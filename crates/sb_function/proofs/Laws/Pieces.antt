-- Single words and marks: what the tests of readers say of a piece, and the laws of the readers that take one.
use Rattle.std.proofs.Common.{◌≡◌, Bool, true, false, List, ◌∷◌, nat_eq, refl, sym, ap, ◌∙◌, eq-eqb, eqb-true}
use Rattle.sb_base.specs.declared.refusals.Place.{Place}
use Rattle.sb_parse.specs.Parser.{at_next, expect}
use Rattle.sb_parse.specs.Lawful.{Lawful, Opened}
use Rattle.sb_parse.proofs.Joining.{via}
use Rattle.sb_parse.proofs.Heads.{opened}
use Rattle.sb_function.specs.declared.lexeme.Lexeme.{Lexeme}
use Rattle.sb_function.specs.declared.lexeme.Lexeme.TheVariants.{Void, Int, Unsigned, If, OutWrites, Named, Number, OpenParenthesis, CloseParenthesis, OpenBrace, CloseBrace, OpenBracket, CloseBracket, Comma, Semicolon, Assign, Star, Less, AtMost, Greater, AtLeast, Equal, NotEqual, Other}
use Rattle.sb_function.specs.declared.lexeme.Piece.{Piece}
use Rattle.sb_function.specs.Grammar.{◌at◌}
use Rattle.sb_function.specs.Marks.{Reader, misplaced, order_of, is_bare, is_mark, mark}

same_order : (a b : Lexeme) → is_bare a ≡ true → nat_eq (order_of a) (order_of b) ≡ true → a ≡ b
same_order Void Void k h = refl
same_order Void _ k h = absurd (cc h)
same_order Int Int k h = refl
same_order Int _ k h = absurd (cc h)
same_order Unsigned Unsigned k h = refl
same_order Unsigned _ k h = absurd (cc h)
same_order If If k h = refl
same_order If _ k h = absurd (cc h)
same_order OutWrites OutWrites k h = refl
same_order OutWrites _ k h = absurd (cc h)
same_order OpenParenthesis OpenParenthesis k h = refl
same_order OpenParenthesis _ k h = absurd (cc h)
same_order CloseParenthesis CloseParenthesis k h = refl
same_order CloseParenthesis _ k h = absurd (cc h)
same_order OpenBrace OpenBrace k h = refl
same_order OpenBrace _ k h = absurd (cc h)
same_order CloseBrace CloseBrace k h = refl
same_order CloseBrace _ k h = absurd (cc h)
same_order OpenBracket OpenBracket k h = refl
same_order OpenBracket _ k h = absurd (cc h)
same_order CloseBracket CloseBracket k h = refl
same_order CloseBracket _ k h = absurd (cc h)
same_order Comma Comma k h = refl
same_order Comma _ k h = absurd (cc h)
same_order Semicolon Semicolon k h = refl
same_order Semicolon _ k h = absurd (cc h)
same_order Assign Assign k h = refl
same_order Assign _ k h = absurd (cc h)
same_order Star Star k h = refl
same_order Star _ k h = absurd (cc h)
same_order Less Less k h = refl
same_order Less _ k h = absurd (cc h)
same_order AtMost AtMost k h = refl
same_order AtMost _ k h = absurd (cc h)
same_order Greater Greater k h = refl
same_order Greater _ k h = absurd (cc h)
same_order AtLeast AtLeast k h = refl
same_order AtLeast _ k h = absurd (cc h)
same_order Equal Equal k h = refl
same_order Equal _ k h = absurd (cc h)
same_order NotEqual NotEqual k h = refl
same_order NotEqual _ k h = absurd (cc h)
same_order Other Other k h = refl
same_order Other _ k h = absurd (cc h)
same_order (Named n) _ k h = absurd (cc k)
same_order (Number n) _ k h = absurd (cc k)

pub nowhere : Place
nowhere = record { file = 0; line = 0; col = 0 }

pub is_itself : (l : Lexeme) (p : Place) → is_mark l (l at p) ≡ true
unfolding is_mark
is_itself l p = eq-eqb (order_of l) (order_of l) refl

pub mark_is : (l : Lexeme) (t : Piece) → is_bare l ≡ true → is_mark l t ≡ true → t ≡ (l at t.place)
unfolding is_mark
mark_is l t k h = ap (λ z. z at t.place) (sym (same_order l t.lexeme k h))

pub mark_elsewhere : (l m : Lexeme) (t : Piece) → nat_eq (order_of l) (order_of m) ≡ false → is_mark m t ≡ true → is_mark l t ≡ false
unfolding is_mark
mark_elsewhere l m t k h = sym (ap (λ z. nat_eq (order_of l) z) (eqb-true _ _ h)) ∙ k

-- a word or mark, and then a text that may name its place
pub record Marked {A : Type 0} (l : Lexeme) (Is : Place → List Piece → A → Type 0) (ts : List Piece) (a : A) : Type 0 where
  pub place : Place
  pub rest : List Piece
  pub split : ts ≡ (l at place) ∷ rest
  pub is : Is place rest a

pub marked_at : {A : Type 0} {Is : Place → List Piece → A → Type 0} {more : A → Piece → Bool} {q : Place → Reader A} (l : Lexeme) → is_bare l ≡ true
    → ((p : Place) → Lawful (Is p) more (q p)) → Lawful (Marked l Is) more (expect misplaced (is_mark l) (λ t. q t.place))
marked_at {A = A} {Is = Is} {q = q} l bare Q = via (opened {Is = λ t. Is t.place} {q = λ t. q t.place} misplaced (is_mark l) (l at nowhere) (is_itself l nowhere) (λ t h. Q t.place)) to from (expect misplaced (is_mark l) (λ t. q t.place)) (λ ts. refl)
  where
    to : (ts : List Piece) (a : A) → Opened (is_mark l) (λ t. Is t.place) ts a → Marked l Is ts a
    to ts a o = record { place = o.opening.place; rest = o.rest; split = o.split ∙ ap (λ z. z ∷ o.rest) (mark_is l o.opening bare o.passes); is = o.is }

    from : (ts : List Piece) (a : A) → Marked l Is ts a → Opened (is_mark l) (λ t. Is t.place) ts a
    from ts a m = record { opening = l at m.place; rest = m.rest; split = m.split; passes = is_itself l m.place; is = m.is }

pub marked : {A : Type 0} {Is : List Piece → A → Type 0} {more : A → Piece → Bool} {q : Reader A} (l : Lexeme) → is_bare l ≡ true → Lawful Is more q → Lawful (Marked l (λ p. Is)) more (mark l q)
marked {q = q} l bare Q = marked_at {q = λ p. q} l bare (λ p. Q)

pub marked_heads : {A : Type 0} (l : Lexeme) {Is : Place → List Piece → A → Type 0} (ts : List Piece) (a : A) → Marked l Is ts a → at_next (is_mark l) ts ≡ true
marked_heads l ts a m = ap (at_next (is_mark l)) m.split ∙ is_itself l m.place
