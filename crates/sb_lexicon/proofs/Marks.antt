-- What a table of punctuators gives a token.
use Rattle.std.proofs.Common.{◌≡◌, ◌+◌, ℕ, Bool, true, false, ◌||◌, not, Option, Some, None, is_some, if◌then◌else◌, refl, sym, ap, ◌∙◌}
use Rattle.std.specs.Option.{option_map_or}
use Rattle.sb_base.specs.declared.refusals.Place.{Place}
use Rattle.sb_base.specs.declared.tokens.PpKind.{PpKind}
use Rattle.sb_base.specs.declared.tokens.PpKind.TheVariants as kind
use Rattle.sb_base.specs.declared.tokens.Token.{Token}
use Rattle.sb_sign.specs.declared.sign.Mark.{Mark}
use Rattle.sb_tree.specs.Trees.{ExprTree, Number, depth_of_expr}
use Rattle.sb_lexicon.specs.Lexicon.{Lexicon, operand_of, by_mark}
use Rattle.sb_lexicon.specs.Tokens.{is_colon}
use Rattle.sb_lexicon.specs.Outcomes.{nowhere}

-- ---- tokens that there are in any case

-- the language's own word that stands so far past the table of names
abbrev own : PpKind → ℕ → Token
own k n = record { kind = k; text = record { 0 = 4294967296 + n }; place = nowhere; value = 0 }

pub colon_token : Token
colon_token = own kind.Punct 68

pub colon_token_is : (w : Lexicon) → is_colon w colon_token ≡ true
unfolding colon_token
colon_token_is w = refl

pub number_token : Token
number_token = own kind.Number 0

pub number_tree : ExprTree
number_tree = Number number_token.text 0 nowhere

pub number_token_is : (w : Lexicon) → operand_of w number_token ≡ Some number_tree
unfolding number_token number_tree
number_token_is w = refl

pub flat_number : depth_of_expr number_tree ≡ 1
unfolding number_tree
flat_number = refl

-- ---- truth values

pub if_so : (b c : Bool) → (if b then c else true) ≡ true → b ≡ true → c ≡ true
if_so true c h e = h
if_so false c h e = absurd (cc e)

pub flipped : (b : Bool) → not b ≡ true → b ≡ false
flipped true h = absurd (cc h)
flipped false h = refl

pub both_false : (b c : Bool) → not (b || c) ≡ true → (b ≡ false) × (c ≡ false)
both_false true c h = absurd (cc h)
both_false false true h = absurd (cc h)
both_false false false h = (refl, refl)

-- ---- what a table of marks gives a token

some_with : {A B : Type 0} (f : A → B) (o : Option A) → is_some (option_map_or (λ a. Some (f a)) o None) ≡ is_some o
some_with f None = refl
some_with f (Some a) = refl

pub by_its_mark : {A : Type 0} (gives : Mark → Option A) (place : Place) (o : Option Mark) (m : Mark) → o ≡ Some m → is_some (by_mark gives place o) ≡ is_some (gives m)
by_its_mark gives place o m h = ap (λ x. is_some (by_mark gives place x)) h ∙ some_with (λ a. (a, place)) (gives m)

pub has_mark : {A : Type 0} (gives : Mark → Option A) (place : Place) (o : Option Mark) → is_some (by_mark gives place o) ≡ true → (m : Mark) × (o ≡ Some m) × (is_some (gives m) ≡ true)
has_mark gives place None h = absurd (cc h)
has_mark gives place (Some m) h = (m, refl, sym (some_with (λ a. (a, place)) (gives m)) ∙ h)

pub gives_value : {A : Type 0} (gives : Mark → Option A) (place : Place) (o : Option Mark) (a : A) (at : Place) → by_mark gives place o ≡ Some (a, at) → (m : Mark) × (o ≡ Some m) × (gives m ≡ Some a)
gives_value gives place None a at h = absurd (cc h)
gives_value {A = A} gives place (Some m) a at h = go (gives m) refl h
  where
    go : (o : Option A) → gives m ≡ o → option_map_or {U = Option (A × Place)} (λ b. Some (b, place)) o None ≡ Some (a, at) → (n : Mark) × (Some m ≡ Some n) × (gives n ≡ Some a)
    go None e k = absurd (cc k)
    go (Some b) e k = let same : Path (A × Place) (b, place) (a, at) = cc k in (m, refl, e ∙ ap (λ x. Some x.0) same)
