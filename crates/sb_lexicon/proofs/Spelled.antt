-- How a token of a table is spelled.
use Rattle.std.proofs.Common.{◌≡◌, ℕ, ◌<◌, ◌^◌, true, List, nat_lt, ap, if◌then◌else◌, arith}
use Rattle.sb_base.specs.declared.tokens.Token.{Token}
use Rattle.sb_sign.specs.Signs.{spelling_of}
use Rattle.sb_lexicon.specs.Annotations.{word_of, own_word}

pub spelled : (texts : List (List ℕ)) (t : Token) → t.text.0 < 2 ^ 32 → word_of texts t ≡ spelling_of texts t
spelled texts t small =
    let is : nat_lt t.text.0 (2 ^ 33) ≡ true = grind arith in
    ap (λ b. if b then spelling_of texts t else own_word t.value) is
