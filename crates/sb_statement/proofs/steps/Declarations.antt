-- A declaration that begins with a name and has no room.
use Rattle.std.proofs.Common.{◌≡◌, ℕ, true, false, nat_lt, List, refl, subst}
use Rattle.sb_base.specs.declared.tokens.Token.{Token}
use Rattle.sb_parse.specs.Parser.{done, at_next, token}
use Rattle.sb_lexicon.specs.declared.reading.ReadFault.{ReadFault}
use Rattle.sb_lexicon.specs.Lexicon.{Lexicon}
use Rattle.sb_lexicon.specs.Meaning.{IsFault}
use Rattle.sb_lexicon.specs.Tokens.{unexpected}
use Rattle.sb_sal.specs.Spellings.{is_unlisted}
use Rattle.sb_specifier.specs.Readers.{is_name}
use Rattle.sb_specifier.specs.Specified.{reading}
use Rattle.sb_statement.specs.Meaning.{nested}
use Rattle.sb_statement.specs.Readers as spec
use Rattle.sb_statement.specs.Readers.{Body, room_for, is_misplaced, crowded}

module _ (texts : List (List ℕ)) (below : ℕ) (b : Body) (ts : List Token) (t : Token) (rest : List Token) where
  crowded_at : at_next (is_unlisted (reading texts b.types)) ts ≡ false → at_next (is_misplaced (reading texts b.types)) ts ≡ false → at_next (λ t. nat_lt below (room_for (reading texts b.types) t)) ts ≡ true
      → token unexpected (is_name (reading texts b.types)) ts ≡ done t rest → nested spec.named_declaration texts below b ts ≡ crowded {A = Body} (reading texts b.types) t rest
  unfolding spec.named_declaration
  crowded_at listed placed lacks named = rw (listed, placed, lacks, named) refl

  pub named_crowded : (w : Lexicon) → w ≡ reading texts b.types → at_next (is_unlisted w) ts ≡ false → at_next (is_misplaced w) ts ≡ false → at_next (λ t. nat_lt below (room_for w t)) ts ≡ true
      → token unexpected (is_name w) ts ≡ done t rest → (fault : ReadFault) → IsFault (crowded {A = Body} w t rest) fault → IsFault (nested spec.named_declaration texts below b ts) fault
  named_crowded w is listed placed lacks named fault why =
      rw (crowded_at (subst (λ v. at_next (is_unlisted v) ts ≡ false) is listed) (subst (λ v. at_next (is_misplaced v) ts ≡ false) is placed) (subst (λ v. at_next (λ t. nat_lt below (room_for v t)) ts ≡ true) is lacks) (subst (λ v. token unexpected (is_name v) ts ≡ done t rest) is named))
      (subst (λ v. IsFault (crowded {A = Body} v t rest) fault) is why)
