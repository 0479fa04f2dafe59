-- The spellings before the `>` of a header name.
use Rattle.std.proofs.Common.{◌≡◌, ◌++◌, ◌<◌, ◌≤◌, ◌+◌, [], ℕ, List, Bool, Option, Some, None, suc, true, false, refl, append_assoc, add-one, drop, length, get_or, drop-cons}
use Rattle.std.proofs.Math.ListN.{drop_of_length-le}
use Rattle.std.specs.Prelude.{codes}
use Rattle.sb_base.specs.declared.refusals.Place.{Place}
use Rattle.sb_lex.specs.declared.piece.PpToken.{PpToken}
use Rattle.sb_directive.specs.Lines.{spelling, is_spelled}
use Rattle.sb_directive.specs.Headers.{with_space, before_text, up_to_angle}

space_first : (spaced : Bool) (text : List ℕ) → with_space spaced text ≡ with_space spaced [] ++ text
space_first true text = refl
space_first false text = refl

joined : (text space spelled : List ℕ) (rest : Option (List ℕ × Place)) → before_text text (before_text (space ++ spelled) rest) ≡ before_text ((text ++ space) ++ spelled) rest
joined text space spelled None = refl
joined text space spelled (Some more) = simp append_assoc

-- the spellings of the pieces so far go before those of the rest
pub record Gathered (texts : List (List ℕ)) (all : List PpToken) (text : List ℕ) (n : ℕ) : Type 0 where
  pub whole : up_to_angle texts all ≡ before_text text (up_to_angle texts (drop n all))

module _ (texts : List (List ℕ)) (all : List PpToken) where
  pub Gathered-none : Gathered texts all [] 0
  Gathered-none = record { whole = same (up_to_angle texts all) }
    where
      same : (found : _) → found ≡ before_text [] found
      same None = refl
      same (Some text) = refl

  pub Gathered-closed : (text : List ℕ) (n : ℕ) (default : PpToken) → n < length all → Gathered texts all text n → is_spelled (codes ">") texts (get_or all n default) ≡ true
      → Some (text ++ with_space (get_or all n default).spaced [], (get_or all n default).place) ≡ up_to_angle texts all
  Gathered-closed text n default within gathered closes = rw (gathered.whole, drop-cons all n default within, closes) refl

  pub Gathered-more : (text : List ℕ) (n : ℕ) (default : PpToken) → n < length all → Gathered texts all text n → is_spelled (codes ">") texts (get_or all n default) ≡ false
      → Gathered texts all ((text ++ with_space (get_or all n default).spaced []) ++ spelling texts (get_or all n default)) (n + 1)
  Gathered-more text n default within gathered other =
      let t = get_or all n default in
      record { whole = rw (gathered.whole, add-one, drop-cons all n default within, other, space_first t.spaced (spelling texts t)) (joined text (with_space t.spaced []) (spelling texts t) (up_to_angle texts (drop (suc n) all))) }

  pub Gathered-open : (text : List ℕ) (n : ℕ) → length all ≤ n → Gathered texts all text n → None ≡ up_to_angle texts all
  Gathered-open text n past gathered = rw (gathered.whole, drop_of_length-le all past) refl
