-- Where no declaration may follow every list is refused.
use Rattle.std.proofs.Common.{◌≡◌, ◌⊎◌, inl, inr, ℕ, Bool, true, false, ◌&&◌, not, List, length, if◌then◌else◌, refl}
use Rattle.sb_base.specs.declared.tokens.Token.{Token}
use Rattle.sb_parse.specs.Parser.{Outcome, Parser, stop, at_next, and_then, choose, refuse}
use Rattle.sb_sign.specs.declared.sign.Keyword.TheVariants as keyword
use Rattle.sb_lexicon.specs.Lexicon.{Lexicon, is_keyword}
use Rattle.sb_lexicon.specs.Tokens as expr
use Rattle.sb_lexicon.specs.SpecifierReaders.{is_floating, is_complex, is_union}
use Rattle.sb_lexicon.specs.Tokens.{unexpected, too_deep, unknown, misplaced}
use Rattle.sb_lexicon.specs.Words.{Nothing}
use Rattle.sb_parse.proofs.Ways.{Refuses, one_refuses, both_refuse}
use Rattle.sb_sal.specs.Spellings.{is_listed, is_unlisted, may_stand}
use Rattle.sb_specifier.specs.declared.seat.Seat.{Seat}
use Rattle.sb_specifier.specs.Specified.{bearer_at}
use Rattle.sb_specifier.specs.Readers.{barred, barred_by, begins_at}

one_or : {A : Type 0} (goes : Token → Bool) (n : ℕ) (q : Parser Token A) (ts : List Token) → Refuses q ts → Refuses (choose goes (refuse n) q) ts
one_or goes n q ts Q = both_refuse goes (refuse n) q ts (one_refuses n ts) Q

then_refused : {A B : Type 0} (b : Bool) (n left : ℕ) (o : Outcome Token A) (r : Outcome Token B) (f : A → Parser Token B) → and_then o f ≡ r → and_then (if b then stop n left else o) f ≡ (if b then stop n left else r)
then_refused true n left o r f h = refl
then_refused false n left o r f h = h

module _ (n : ℕ) (w : Lexicon) (seat : Seat) where
  abbrev out_of_place : Token → Bool
  out_of_place t = is_listed w t && not (may_stand w (bearer_at seat) t)

  abbrev begun : {A : Type 0} → Parser Token A
  begun = choose (begins_at w seat) (refuse n) (refuse unexpected)

  abbrev complex_or : {A : Type 0} → Parser Token A
  complex_or = choose (is_complex w Nothing) (refuse expr.complex) begun

  abbrev volatile_or : {A : Type 0} → Parser Token A
  volatile_or = choose (is_keyword w keyword.Volatile) (refuse expr.volatile) complex_or

  abbrev union_or : {A : Type 0} → Parser Token A
  union_or = choose (is_union w Nothing) (refuse expr.union) volatile_or

  abbrev floating_or : {A : Type 0} → Parser Token A
  floating_or = choose (is_floating w Nothing) (refuse expr.floating) union_or

  abbrev misplaced_or : {A : Type 0} → Parser Token A
  misplaced_or = choose out_of_place (refuse misplaced) floating_or

  pub all_refused : {A : Type 0} (ts : List Token) → Refuses {A = A} (barred_by n w seat) ts
  all_refused ts =
      one_or (is_unlisted w) unknown misplaced_or ts (one_or out_of_place misplaced floating_or ts (one_or (is_floating w Nothing) expr.floating union_or ts (one_or (is_union w Nothing) expr.union volatile_or ts
      (one_or (is_keyword w keyword.Volatile) expr.volatile complex_or ts (one_or (is_complex w Nothing) expr.complex begun ts (one_or (begins_at w seat) n (refuse unexpected) ts (one_refuses unexpected ts)))))))

  pub refused_so : {A B : Type 0} (f : A → Parser Token B) (ts : List Token) → and_then (barred_by {A = A} n w seat ts) f ≡ barred_by {A = B} n w seat ts
  refused_so f ts =
      then_refused (at_next (is_unlisted w) ts) unknown (length ts) (misplaced_or ts) (misplaced_or ts) f
      (then_refused (at_next out_of_place ts) misplaced (length ts) (floating_or ts) (floating_or ts) f
      (then_refused (at_next (is_floating w Nothing) ts) expr.floating (length ts) (union_or ts) (union_or ts) f
      (then_refused (at_next (is_union w Nothing) ts) expr.union (length ts) (volatile_or ts) (volatile_or ts) f
      (then_refused (at_next (is_keyword w keyword.Volatile) ts) expr.volatile (length ts) (complex_or ts) (complex_or ts) f
      (then_refused (at_next (is_complex w Nothing) ts) expr.complex (length ts) (begun ts) (begun ts) f
      (then_refused (at_next (begins_at w seat) ts) n (length ts) (stop unexpected (length ts)) (stop unexpected (length ts)) f refl))))))

  -- it stops as another number would have it, or at a token with which a declaration may begin
  abbrev Begins : {A : Type 0} → List Token → Outcome Token A → Type 0
  Begins ts o = (at_next (begins_at w seat) ts ≡ true) × (o ≡ stop n (length ts))

  earlier : {A : Type 0} (ts : List Token) (b : Bool) (s o x : Outcome Token A) → (o ≡ x) ⊎ Begins ts o → ((if b then s else o) ≡ (if b then s else x)) ⊎ Begins ts (if b then s else o)
  earlier ts true s o x e = inl refl
  earlier ts false s o x e = e

  last : {A : Type 0} (ts : List Token) (b : Bool) (o s x : Outcome Token A) → at_next (begins_at w seat) ts ≡ b → o ≡ stop n (length ts) → ((if b then o else s) ≡ (if b then x else s)) ⊎ Begins ts (if b then o else s)
  last ts true o s x k e = inr (k, e)
  last ts false o s x k e = inl refl

  pub at_number : (m : ℕ) {A : Type 0} (ts : List Token) → (barred_by {A = A} n w seat ts ≡ barred_by m w seat ts) ⊎ Begins ts (barred_by {A = A} n w seat ts)
  at_number m {A = A} ts =
      earlier ts (at_next (is_unlisted w) ts) (refuse unknown ts) _ _ (earlier ts (at_next out_of_place ts) (refuse misplaced ts) _ _ (earlier ts (at_next (is_floating w Nothing) ts) (refuse expr.floating ts) _ _
      (earlier ts (at_next (is_union w Nothing) ts) (refuse expr.union ts) _ _ (earlier ts (at_next (is_keyword w keyword.Volatile) ts) (refuse expr.volatile ts) _ _
      (earlier ts (at_next (is_complex w Nothing) ts) (refuse expr.complex ts) _ _ (last ts (at_next (begins_at w seat) ts) (refuse n ts) (refuse unexpected ts) (refuse m ts) refl refl))))))

pub barred_refuses : (w : Lexicon) (seat : Seat) {A : Type 0} (ts : List Token) → Refuses {A = A} (barred w seat) ts
barred_refuses w seat ts = all_refused too_deep w seat ts

pub barred_then : (w : Lexicon) (seat : Seat) {A B : Type 0} (f : A → Parser Token B) (ts : List Token) → and_then (barred {A = A} w seat ts) f ≡ barred {A = B} w seat ts
barred_then w seat f ts = refused_so too_deep w seat f ts
