-- Why a list of tokens is refused, in the grammar's words.
use Rattle.std.specs.Prelude.{◌≡◌, ℕ, Bool, true, false, ◌||◌, List, [], ◌∷◌, ◌++◌, length, drop, Result, Ok, Err, if◌then◌else◌, nat_eq}
use Rattle.sb_base.specs.declared.refusals.Refusal.{Refusal}
use Rattle.sb_base.specs.declared.refusals.Stop.{Stop}
use Rattle.sb_base.specs.declared.refusals.Stop.TheVariants.{Refused, Memory}
use Rattle.sb_base.specs.declared.tokens.Token.{Token}
use Rattle.sb_parse.specs.Parser.{Parser, stop, at_next}
use Rattle.sb_parse.specs.Read.{CanBegin, IsLongest}
use Rattle.sb_sign.specs.declared.sign.Keyword.TheVariants as keyword
use Rattle.sb_lexicon.specs.Annotations.{is_listed}
use Rattle.sb_lexicon.specs.Lexicon.{Lexicon, is_keyword, begins_type}
use Rattle.sb_lexicon.specs.Outcomes.{IsStop, IsRefusedThere}
use Rattle.sb_lexicon.specs.Tokens.{unexpected, too_deep, lacks, is_open, is_close, is_open_brace}

-- a token with which a text goes on that has a feature that the profile leaves out: floating types, unions, pointers to functions, `volatile`, complex types, compound literals
abbrev pub shows : Lexicon → ℕ → Token → Bool
shows w feature t =
    if nat_eq feature 1 then is_keyword w keyword.Float t || is_keyword w keyword.Double t
    else (if nat_eq feature 2 then is_keyword w keyword.Union t
    else (if nat_eq feature 4 then is_open w t || (is_close w t || (begins_type w t || (is_keyword w keyword.Register t || (is_keyword w keyword.Inline t || is_listed w t))))
    else (if nat_eq feature 7 then is_keyword w keyword.Volatile t
    else (if nat_eq feature 8 then is_keyword w keyword.Complex t || is_keyword w keyword.Imaginary t
    else (if nat_eq feature 16 then is_open_brace w t
    else false)))))

-- Behind the first tokens of some text a list goes on badly. `Is`: the texts, however deep.
pub data IsReason {A : Type 0} (w : Lexicon) (Is : List Token → A → Type 0) (front : List Token) : List Token → ℕ → Type 0 where
  -- the list ends there
  ends : IsReason w Is front [] unexpected
  -- no text goes on so
  no_text : (t : Token) (rest : List Token) → (CanBegin Is (front ++ (t ∷ [])) → ⊥) → IsReason w Is front (t ∷ rest) unexpected
  -- only texts that are too deep go on so
  deeper : (t : Token) (rest : List Token) → CanBegin Is (front ++ (t ∷ [])) → IsReason w Is front (t ∷ rest) too_deep
  -- only texts with a feature that the profile leaves out go on so
  feature : (t : Token) (rest : List Token) (n : ℕ) → shows w n t ≡ true → (CanBegin Is (front ++ (t ∷ [])) → ⊥) → IsReason w Is front (t ∷ rest) (lacks n)

-- A list is refused for a reason: some text, however deep, begins as the list does up to the last `left` tokens, and there it goes on badly.
pub record IsRefusedFor {A : Type 0} (w : Lexicon) (Is : List Token → A → Type 0) (ts : List Token) (n left : ℕ) : Type 0 where
  pub front : List Token
  pub bad : List Token
  pub split : ts ≡ front ++ bad
  pub left_is : left ≡ length bad
  pub good : CanBegin Is front
  pub reason : IsReason w Is front bad n

-- The refusal of a list of tokens whose last part `ts` is read: all is said of one number and one token. `p` reads the texts that fit; those of any depth are texts by `Is`.
pub record IsRefusedBecause {A : Type 0} (w : Lexicon) (p : Parser Token A) (Fits Is : List Token → A → Type 0) (spares : Token → Bool) (tokens ts : List Token) (r : Refusal) : Type 0 where
  pub number : ℕ
  pub left : ℕ
  pub is : IsStop tokens number left r
  pub stops : p ts ≡ stop number left
  pub refused : IsRefusedThere Fits ts left
  pub because : IsRefusedFor w Is ts number left
  -- what stands before a 31 is no text of any depth, wherever the 31 stands, unless the token there is spared
  pub unfinished : number ≡ unexpected → at_next spares because.bad ≡ false → (a : A) → Is because.front a → ⊥

-- What a call says of texts of any depth: its answer is the longest of all, and behind it no token shows a feature that the profile leaves out (`lacking`); a refusal has a reason.
-- `gives a e`: e is how the call answers a.
abbrev pub HasReason : {A E : Type 0} → Lexicon → Parser Token A → (Fits Is : List Token → A → Type 0) → (spares : Token → Bool) → (lacking : A → Token → Bool) → (A → E → Type 0) → List Token → (next now : ℕ)
    → Result E Stop → Type 0
HasReason w p Fits Is spares lacking gives tokens next now (Ok e) = (a : _) × IsLongest Is (drop next tokens) a (drop now tokens) × (at_next (lacking a) (drop now tokens) ≡ false) × gives a e
HasReason w p Fits Is spares lacking gives tokens next now (Err (Refused r)) = IsRefusedBecause w p Fits Is spares tokens (drop next tokens) r
HasReason w p Fits Is spares lacking gives tokens next now (Err Memory) = Unit {0}
