-- The reader of a type name keeps the laws, if those of the parts of its tree do.
use Rattle.std.proofs.Common.{◌≡◌, ◌≤◌, ◌<◌, ◌+◌, ◌-◌, ℕ, suc, Bool, true, false, ◌||◌, ◌&&◌, List, [], ◌∷◌, ◌++◌, length, refl, sym, ap, ◌∙◌, subst₂, arith}
use Rattle.sb_base.specs.declared.tokens.Token.{Token}
use Rattle.sb_parse.specs.Parser.{at_next, ◌>>=◌, pure}
use Rattle.sb_parse.specs.Lawful.{Lawful, Follows, Joined, Mapped}
use Rattle.sb_parse.proofs.Joining.{from_there, via}
use Rattle.sb_tree.specs.Trees.{TypeTree, depth_of_type}
use Rattle.sb_lexicon.specs.Lexicon.{Lexicon, is_type_word}
use Rattle.sb_operand.specs.Pieces.{Piece, Declared, type_of, typed, depth_over}
use Rattle.sb_expr.specs.Expression.{Assignment, IsType, is_type}
use Rattle.sb_expr.specs.Readers.{Parts, declarators, size_at, type_named}
use Rattle.sb_lexicon.specs.SpecifierReaders.{base_type}
use Rattle.sb_lexicon.specs.Tokens.{is_zero}
use Rattle.sb_expr.specs.Reads.{FitsType}
use Rattle.sb_expr.proofs.tokens.More.{LawfulParts, more_abstract, more_type, is_empty}
use Rattle.sb_parse.proofs.Ways.{first_fails, second_fails, following_where, follows_map}
use Rattle.sb_operand.proofs.Putting.{typed_depth, over_count, over_inner, over_fits}
use Rattle.sb_lexicon.proofs.laws.Specifiers.{FitsBase, base_depth, base_law}
use Rattle.sb_expr.proofs.laws.Declarators.{FitsPieces, no_pieces, pieces_unworded, declarators_law}

module _ (w : Lexicon) (below : ℕ) (part : ℕ → Parts) (P : (k : ℕ) → k < below → LawfulParts w (below - k) (part k)) where
  abbrev declared : TypeTree → List Piece → Declared
  declared t ps = record { base = t; pieces = ps }

  abbrev DeclaratorText : TypeTree → List Token → Declared → Type 0
  DeclaratorText t = Mapped (declared t) (FitsPieces w below (suc below - depth_of_type t))

  enough : (t : TypeTree) (ts : List Token) (ps : List Piece) (later : List Token) → FitsPieces w below (suc below - depth_of_type t) ts ps
      → at_next (is_type_word w) (ts ++ later) ≡ false → at_next (more_abstract w ps) later ≡ false → at_next (more_type w (declared t ps)) later ≡ false
  enough t ts ps [] f off h = refl
  enough t ts ps (u ∷ later) f off h = by_pieces (is_empty ps) refl
    where
      by_pieces : (e : Bool) → is_empty ps ≡ e → ((is_empty ps && is_type_word w u) || more_abstract w ps u) ≡ false
      by_pieces true e =
          let plain : is_type_word w u ≡ false = sym (ap (λ l. at_next (is_type_word w) (l ++ (u ∷ later))) (no_pieces w ts ps f.is e)) ∙ off in
          ap (λ z. (z && is_type_word w u) || more_abstract w ps u) e ∙ ap (λ z. z || more_abstract w ps u) plain ∙ h
      by_pieces false e = ap (λ z. (z && is_type_word w u) || more_abstract w ps u) e ∙ h

  declarator_law : (xs : List Token) (t : TypeTree) → FitsBase w below xs t
      → Follows (is_type_word w) (DeclaratorText t) (more_type w) (declarators w (size_at w below part) (suc below - depth_of_type t) 0 >>= (λ ps. pure (declared t ps)))
  declarator_law xs t is =
      let flat : 1 ≤ depth_of_type t = base_depth w below xs t is in
      follows_map (following_where (declarators_law w below (size_at w below part) (λ n le. (P n le).expr Assignment) (suc below - depth_of_type t) (omega arith)) (is_type_word w) (λ ps. more_type w (declared t ps))
      (λ ts ps f u h. second_fails (is_empty ps && is_type_word w u) (more_abstract w ps u) h) (enough t)) (declared t) (more_type w) (λ ps u. refl)

  apart : (t : TypeTree) (ys : List Token) (d : Declared) (later : List Token) → DeclaratorText t ys d → at_next (more_type w d) later ≡ false → at_next (is_type_word w) (ys ++ later) ≡ false
  apart t ys d later m h = by_pieces (is_empty m.value) refl (ap (λ z. at_next (more_type w z) later) (sym m.same) ∙ h)
    where
      not_worded : (later : List Token) → is_empty m.value ≡ true → at_next (more_type w (declared t m.value)) later ≡ false → at_next (is_type_word w) later ≡ false
      not_worded [] e k = refl
      not_worded (u ∷ later) e k =
          first_fails (is_type_word w u) (more_abstract w m.value u) (sym (ap (λ z. (z && is_type_word w u) || more_abstract w m.value u) e) ∙ k)

      by_pieces : (e : Bool) → is_empty m.value ≡ e → at_next (more_type w (declared t m.value)) later ≡ false → at_next (is_type_word w) (ys ++ later) ≡ false
      by_pieces true e k = ap (λ l. at_next (is_type_word w) (l ++ later)) (no_pieces w ys m.value m.is.is e) ∙ not_worded later e k
      by_pieces false e k = pieces_unworded w ys m.value later m.is.is e

  to : (ts : List Token) (d : Declared) → Joined (FitsBase w below) DeclaratorText ts d → FitsType w (suc below) ts d
  to ts d j =
      let b = j.first in
      let m = j.second in
      let deep : depth_of_type j.value ≤ suc below = b.deep in
      let few : length m.value ≤ suc below - depth_of_type j.value = m.is.count in
      let over : depth_over (depth_of_type j.value) m.value ≤ suc below = over_fits below (depth_of_type j.value) m.value (omega arith) m.is.sizes in
      let whole : depth_of_type (typed j.value m.value) ≡ depth_over (depth_of_type j.value) m.value = typed_depth j.value m.value in
      let fits : depth_of_type (typed j.value m.value) ≤ suc below = omega arith in
      subst₂ (FitsType w (suc below)) (sym j.split) (sym m.same) (is_type j.before j.after b.says j.value m.value b.are b.named m.is.is, fits)

  pub from : (ts : List Token) (d : Declared) → IsType w ts d → depth_of_type (type_of d) ≤ suc below → Joined (FitsBase w below) DeclaratorText ts d
  from _ _ (is_type xs ys s base ps are named is) le =
      let whole : depth_of_type (typed base ps) ≡ depth_over (depth_of_type base) ps = typed_depth base ps in
      let over : depth_over (depth_of_type base) ps ≤ suc below = omega arith in
      let count : depth_of_type base + length ps ≤ suc below = over_count below (depth_of_type base) ps over in
      record {
        before = xs;
        after = ys;
        value = base;
        split = refl;
        first = record { says = s; are = are; named = named; deep = omega arith };
        second = record { value = ps; is = record { is = is; count = omega arith; sizes = over_inner below (depth_of_type base) ps over }; same = refl };
      }

  pub lawful_type : Lawful (FitsType w (suc below)) (more_type w) (type_named w below part)
  unfolding type_named
  lawful_type =
      via (from_there {Second = DeclaratorText} {q = λ t. declarators w (size_at w below part) (suc below - depth_of_type t) 0 >>= (λ ps. pure (declared t ps))} (base_law w below) declarator_law
      (λ xs t ys d later first second e. apart t ys d later second e)) to (λ ts d is. from ts d is.0 is.1)
      (base_type w (is_zero below) >>= (λ t. declarators w (size_at w below part) (suc below - depth_of_type t) 0 >>= (λ ps. pure (declared t ps)))) (λ ts. refl)
