-- The arguments as they are read off a list, one token after the other.
use Rattle.std.proofs.Common.{◌≡◌, ℕ, ◌+◌, ◌-◌, ◌≤◌, List, [], ◌∷◌, ◌++◌, Option, Some, None, ap, refl, sym, ◌∙◌, append_assoc, append-nil, inl, inr, arith}
use Rattle.std.proofs.lemmas.Bool.Decides.{eqb_tells}
use Rattle.sb_base.specs.declared.interning.Name.{Name}
use Rattle.std.specs.Option.{option_map}
use Rattle.sb_macro.specs.declared.marks.Mark.{Mark}
use Rattle.sb_macro.specs.declared.marks.Mark.TheVariants.{Open, Close, Comma}
use Rattle.sb_macro.specs.declared.stored.Part.{Part}
use Rattle.sb_macro.specs.declared.arguments.Turn.TheVariants.{Ends, Parts, Goes}
use Rattle.sb_macro.specs.Arguments.{Split, arguments, needed_arguments, turn_of, onto_first}
use Rattle.sb_macro.specs.Marks.{mark_of}
use Rattle.sb_macro.specs.Tokens.{Tok}

-- the first argument of these goes on from what was read of it
abbrev pub from : List Tok → List (List Tok) → List (List Tok)
from arg [] = []
from arg (first ∷ args) = (arg ++ first) ∷ args

-- the split of a list whose front was read as these whole arguments and this part of one
abbrev pub behind : List (List Tok) → List Tok → Option Split → Option Split
behind args arg split = option_map (λ s. (args ++ from arg s.0, s.1)) split

from_nothing : (args : List (List Tok)) → from [] args ≡ args
from_nothing [] = refl
from_nothing (first ∷ args) = refl

pub behind_nothing : (split : Option Split) → behind [] [] split ≡ split
behind_nothing None = refl
behind_nothing (Some s) = ap (λ args. Some (args, s.1)) (from_nothing s.0)

module _ (texts : List (List ℕ)) (depth : ℕ) (args : List (List Tok)) (arg : List Tok) (t : Tok) (rest : List Tok) where
  pub behind_end : turn_of (mark_of texts t.piece.text) depth ≡ Ends → behind args arg (arguments texts depth (t ∷ rest)) ≡ Some (args ++ arg ∷ [], rest)
  behind_end is = rw (is, append-nil) refl

  pub behind_comma : turn_of (mark_of texts t.piece.text) depth ≡ Parts → behind args arg (arguments texts depth (t ∷ rest)) ≡ behind (args ++ arg ∷ []) [] (arguments texts 0 rest)
  behind_comma is = rw is (parted (arguments texts 0 rest))
    where
      parted : (split : Option Split) → behind args arg (option_map (λ s. ([] ∷ s.0, s.1)) split) ≡ behind (args ++ arg ∷ []) [] split
      parted None = refl
      parted (Some s) = rw (append-nil, from_nothing s.0, append_assoc) refl

  pub behind_token : (deeper : ℕ) → turn_of (mark_of texts t.piece.text) depth ≡ Goes deeper → behind args arg (arguments texts depth (t ∷ rest)) ≡ behind args (arg ++ t ∷ []) (arguments texts deeper rest)
  behind_token deeper is = rw is (longer (arguments texts deeper rest))
    where
      onto : (more : List (List Tok)) → from arg (onto_first t more) ≡ from (arg ++ t ∷ []) more
      onto [] = refl
      onto (first ∷ more) = rw append_assoc refl

      longer : (split : Option Split) → behind args arg (option_map (λ s. (onto_first t s.0, s.1)) split) ≡ behind args (arg ++ t ∷ []) split
      longer None = refl
      longer (Some s) = ap (λ more. Some (args ++ more, s.1)) (onto s.0)

-- a comma parts arguments only where no parenthesis is open
pub parts_outside : (mark : Mark) (depth : ℕ) → turn_of mark depth ≡ Parts → depth ≡ 0
parts_outside Close depth is = elim (eqb_tells depth 0) [ inl at ↦ at.1 | inr at ↦ absurd (let e = rw at.0 at is in cc) ]
parts_outside Comma depth is = elim (eqb_tells depth 0) [ inl at ↦ at.1 | inr at ↦ absurd (let e = rw at.0 at is in cc) ]
parts_outside _ depth is = absurd (cc)

-- a token opens one parenthesis at most
pub deeper_by_one : (mark : Mark) (depth deeper : ℕ) → turn_of mark depth ≡ Goes deeper → deeper ≤ depth + 1
deeper_by_one Open depth deeper is = let e : depth + 1 ≡ deeper = cc in omega arith
deeper_by_one Close depth deeper is = elim (eqb_tells depth 0) [
  | inl at ↦ absurd (let e = rw at.0 at is in cc)
  | inr at ↦ let e : depth - 1 ≡ deeper = (let f = rw at.0 at is in cc) in omega arith
]
deeper_by_one Comma depth deeper is = elim (eqb_tells depth 0) [
  | inl at ↦ absurd (let e = rw at.0 at is in cc)
  | inr at ↦ let e : depth ≡ deeper = (let f = rw at.0 at is in cc) in omega arith
]
deeper_by_one _ depth deeper is = let e : depth ≡ deeper = cc in omega arith

pub needed_none : (body : List Part) (params : List Name) → needed_arguments body params [] ≡ []
needed_none body [] = refl
needed_none body (param ∷ params) = refl

module _ (texts : List (List ℕ)) (depth : ℕ) (all : List Tok) (args : List (List Tok)) (arg : List Tok) (t : Tok) (rest now : List Tok) where
  -- the arguments once a comma was read
  pub comma_read : now ≡ t ∷ rest → behind args arg (arguments texts depth now) ≡ arguments texts 0 all → turn_of (mark_of texts t.piece.text) depth ≡ Parts
      → (args' : List (List Tok)) (arg' : List Tok) → args' ≡ args ++ arg ∷ [] → arg' ≡ [] → behind args' arg' (arguments texts depth rest) ≡ arguments texts 0 all
  comma_read front split is args' arg' pushed empty =
      let outside = parts_outside (mark_of texts t.piece.text) depth is in
      let all_read = rw front at split in
      rw (pushed, empty) (ap (λ d. behind (args ++ arg ∷ []) [] (arguments texts d rest)) outside ∙ sym (behind_comma texts depth args arg t rest is) ∙ all_read)

  -- the arguments once a token of one was read
  pub token_read : (deeper : ℕ) → now ≡ t ∷ rest → behind args arg (arguments texts depth now) ≡ arguments texts 0 all → turn_of (mark_of texts t.piece.text) depth ≡ Goes deeper
      → (arg' : List Tok) → arg' ≡ arg ++ t ∷ [] → behind args arg' (arguments texts deeper rest) ≡ arguments texts 0 all
  token_read deeper front split is arg' pushed =
      let all_read = rw front at split in
      rw pushed (sym (behind_token texts depth args arg t rest deeper is) ∙ all_read)
