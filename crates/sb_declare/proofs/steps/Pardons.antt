-- Files have no token that pardons annotations: no table has its number.
use Rattle.std.proofs.Common.{◌≡◌, ◌<◌, ◌≤◌, ◌^◌, ℕ, Bool, true, false, ◌||◌, List, [], ◌∷◌, length, nat_lt, if◌then◌else◌, refl, ap, ◌∙◌, arith}
use Rattle.sb_base.specs.declared.tokens.Token.{Token}
use Rattle.sb_parse.specs.Parser.{done, stop, at_next, and_then, pure, token}
use Rattle.sb_parse.proofs.Ways.{and_fails}
use Rattle.sb_lexicon.specs.Lexicon.{Lexicon}
use Rattle.sb_lexicon.specs.Tokens.{unexpected, misplaced_before}
use Rattle.sb_lexicon.proofs.Depths.{room_within}
use Rattle.sb_specifier.specs.Specified.{reading}
use Rattle.sb_specifier.specs.Readers.{ends_nameless, is_header, is_pardon, is_semicolon, shows_object}
use Rattle.sb_declare.specs.Readers.{pardoned}

pub none_spelled : (t : Token) → t.text.0 < 2 ^ 32 → is_pardon t ≡ false
none_spelled t h = let most : t.text.0 ≤ 2 ^ 33 = omega (arith, h) in and_fails (is_header t.kind) (nat_lt (2 ^ 33) t.text.0) (room_within (2 ^ 33) t.text.0 most)

-- a declaration without a name ends with a semicolon
pub ends_as : (w : Lexicon) (ts : List Token) → at_next is_pardon ts ≡ false → at_next (is_semicolon w) ts ≡ at_next (ends_nameless w) ts
ends_as w [] h = refl
ends_as w (t ∷ ts) h = by_test (is_semicolon w t) (is_pardon t) h
  where
    by_test : (b c : Bool) → c ≡ false → b ≡ (b || c)
    by_test true c h = refl
    by_test false true h = absurd (cc h)
    by_test false false h = refl

-- and no text goes on where annotations are misplaced
pub none_pardoned : {A : Type 0} (texts : List (List ℕ)) (count : ℕ) (a : A) (ts : List Token) → at_next (shows_object (reading texts [])) ts ≡ false → at_next is_pardon ts ≡ false
    → pardoned texts count a ts ≡ stop unexpected (length ts)
none_pardoned texts count a [] shows h = refl
none_pardoned texts count a (t ∷ ts) shows h =
    ap (λ b. if b then stop (misplaced_before count) (length (t ∷ ts)) else and_then (token unexpected is_pardon (t ∷ ts)) (λ t. pure a)) shows
    ∙ ap (λ b. and_then (if b then done t ts else stop unexpected (length (t ∷ ts))) (λ t. pure a)) h
