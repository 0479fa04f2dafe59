-- The reader of a pointer parameter computes what its two parts do, one after the other.
use Rattle.std.proofs.Common.{◌≡◌, ℕ, List, refl, sym, ap, ◌∙◌}
use Rattle.sb_base.specs.declared.interning.Name.{Name}
use Rattle.sb_parse.specs.Parser.{Outcome, Parser, done, stop, and_then, ◌>>=◌, pure, token, taken}
use Rattle.sb_function.specs.declared.lexeme.Lexeme.TheVariants as sign
use Rattle.sb_function.specs.declared.lexeme.Piece.{Piece}
use Rattle.sb_function.specs.declared.reading.Read.{Read}
use Rattle.sb_function.specs.declared.reading.ReadFault.{ReadFault}
use Rattle.sb_function.specs.declared.reading.ReadFault.TheVariants.{Refused, Memory}
use Rattle.sb_function.specs.Reads.{IsFault}
use Rattle.sb_function.specs.Marks.{Reader, misplaced, is_mark, mark}
use Rattle.sb_function.specs.Params.{Seen, named, size_name, pointer_name, with_pointer, size_part, name_part, pointer_param}

regrouped : {A B C : Type 0} (o : Outcome Piece A) (g : A → Reader B) (f : B → Reader C) → and_then (and_then o g) f ≡ and_then o (λ a. g a >>= f)
regrouped (done a rest) g f = refl
regrouped (stop n left) g f = refl

under : {A B : Type 0} (o : Outcome Piece A) (f g : A → Reader B) → ((a : A) (ts : List Piece) → f a ts ≡ g a ts) → and_then o f ≡ and_then o g
under (done a rest) f g h = h a rest
under (stop n left) f g h = refl

module _ (room : ℕ) (seen : Seen) where
  abbrev given : Name → Reader Seen
  given size = taken misplaced (named (pointer_name seen size)) >>= (λ n. pure (with_pointer seen size n))

  abbrev named_given : Name → Reader Seen
  named_given size = name_part seen size >>= (λ n. pure (with_pointer seen size n))

  named_so : (size : Name) (ts : List Piece) → named_given size ts ≡ mark sign.Int (mark sign.Star (given size)) ts
  unfolding name_part
  named_so size ts =
      regrouped (token misplaced (is_mark sign.Int) ts) (λ t. mark sign.Star (taken misplaced (named (pointer_name seen size)))) (λ n. pure (with_pointer seen size n))
      ∙ under (token misplaced (is_mark sign.Int) ts) (λ t. mark sign.Star (taken misplaced (named (pointer_name seen size))) >>= (λ n. pure (with_pointer seen size n))) (λ t. mark sign.Star (given size))
      (λ t us. regrouped (token misplaced (is_mark sign.Star) us) (λ u. taken misplaced (named (pointer_name seen size))) (λ n. pure (with_pointer seen size n)))

  abbrev closed : Name → Reader Name
  closed size = mark sign.CloseParenthesis (pure size)

  abbrev behind : Name → Reader Seen
  behind size = mark sign.CloseParenthesis (mark sign.Int (mark sign.Star (given size)))

  closed_so : (size : Name) (ts : List Piece) → (closed size >>= named_given) ts ≡ behind size ts
  closed_so size ts =
      regrouped (token misplaced (is_mark sign.CloseParenthesis) ts) (λ t. pure size) named_given
      ∙ under (token misplaced (is_mark sign.CloseParenthesis) ts) (λ t us. named_given size us) (λ t. mark sign.Int (mark sign.Star (given size))) (λ t us. named_so size us)

  abbrev sized : Reader Name
  sized = taken misplaced (named (size_name room seen)) >>= closed

  abbrev sized_behind : Reader Seen
  sized_behind = taken misplaced (named (size_name room seen)) >>= behind

  sized_so : (ts : List Piece) → (sized >>= named_given) ts ≡ sized_behind ts
  sized_so ts =
      regrouped (taken misplaced (named (size_name room seen)) ts) closed named_given
      ∙ under (taken misplaced (named (size_name room seen)) ts) (λ size. closed size >>= named_given) behind closed_so

  parts_so : (ts : List Piece) → (size_part room seen >>= named_given) ts ≡ pointer_param room seen ts
  unfolding size_part pointer_param
  parts_so ts =
      regrouped (token misplaced (is_mark sign.OutWrites) ts) (λ t. mark sign.OpenParenthesis sized) named_given
      ∙ under (token misplaced (is_mark sign.OutWrites) ts) (λ t. mark sign.OpenParenthesis sized >>= named_given) (λ t. mark sign.OpenParenthesis sized_behind)
      (λ t us. regrouped (token misplaced (is_mark sign.OpenParenthesis) us) (λ u. sized) named_given
      ∙ under (token misplaced (is_mark sign.OpenParenthesis) us) (λ u. sized >>= named_given) (λ u. sized_behind) (λ u vs. sized_so vs))

  pub parts_read : (ts us vs : List Piece) (size n : Name) → size_part room seen ts ≡ done size us → name_part seen size us ≡ done n vs → pointer_param room seen ts ≡ done (with_pointer seen size n) vs
  parts_read ts us vs size n first second = sym (parts_so ts) ∙ ap (λ o. and_then o named_given) first ∙ ap (λ o. and_then o (λ m. pure (with_pointer seen size m))) second

  pub parts_stop_first : (ts : List Piece) (e : ReadFault) → IsFault (size_part room seen ts) e → IsFault (pointer_param room seen ts) e
  parts_stop_first ts (Refused left) first = sym (parts_so ts) ∙ ap (λ o. and_then o named_given) first
  parts_stop_first ts Memory first = tt

  pub parts_stop_second : (ts us : List Piece) (size : Name) (e : ReadFault) → size_part room seen ts ≡ done size us → IsFault (name_part seen size us) e → IsFault (pointer_param room seen ts) e
  parts_stop_second ts us size (Refused left) first second = sym (parts_so ts) ∙ ap (λ o. and_then o named_given) first ∙ ap (λ o. and_then o (λ m. pure (with_pointer seen size m))) second
  parts_stop_second ts us size Memory first second = tt
