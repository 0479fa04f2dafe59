-- String literals that are joined.
use Rattle.std.proofs.Common.{◌≡◌, ◌++◌, ◌∷◌, [], ℕ, ◌<◌, ◌+◌, List, refl, append_assoc, append-nil, add-one, take, length, get_or}
use Rattle.std.proofs.Math.Seq.{take-suc}
use Rattle.std.proofs.lemmas.Option.{slice_get-get_or}
use Rattle.sb_base.specs.declared.refusals.Stop.{Stop}
use Rattle.sb_base.specs.declared.refusals.Stop.TheVariants.{Refused}
use Rattle.sb_lex.specs.declared.piece.PpToken.{PpToken}
use Rattle.sb_lex.specs.Values.{IsText}
use Rattle.sb_directive.specs.Lines.{spelling}
use Rattle.sb_prep.specs.Tokens.{NameBytes}
use Rattle.sb_prep.specs.Tokens.NameBytes.{none, one}
use Rattle.sb_prep.specs.Converting.{IsBadLiteral}

-- one literal more behind the others
one_more : (texts : List (List ℕ)) (ts : List PpToken) (t : PpToken) (bytes more : List ℕ) → NameBytes texts ts bytes → IsText (spelling texts t) more → NameBytes texts (ts ++ t ∷ []) (bytes ++ more)
one_more texts _ t _ more none named = rw append-nil at (one t [] more [] named none)
one_more texts _ t _ more (one u ts bytes rest is others) named =
    rw (append_assoc bytes rest more) (one u (ts ++ t ∷ []) bytes (rest ++ more) is (one_more texts ts t rest more others named))

module _ (texts : List (List ℕ)) (ts : List PpToken) where
  pub next_literal : (n : ℕ) (default : PpToken) (bytes more : List ℕ) → n < length ts → NameBytes texts (take n ts) bytes → IsText (spelling texts (get_or ts n default)) more → NameBytes texts (take (n + 1) ts) (bytes ++ more)
  next_literal n default bytes more within before named =
      rw (add-one, take-suc ts n default within) (one_more texts (take n ts) (get_or ts n default) bytes more before named)

  pub bad_literal : (n : ℕ) (default : PpToken) (bytes : List ℕ) (stop : Stop) → n < length ts → NameBytes texts (take n ts) bytes → ((more : List ℕ) → IsText (spelling texts (get_or ts n default)) more → ⊥)
      → stop ≡ Refused (record { number = 4; place = (get_or ts n default).place; feature = 0 }) → IsBadLiteral texts ts stop
  bad_literal n default bytes stop within before nameless is =
      rw is (record { good = n; bytes = bytes; bad = get_or ts n default; before = before; there = slice_get-get_or ts n default within; nameless = nameless; place_is = refl }, refl, refl)
