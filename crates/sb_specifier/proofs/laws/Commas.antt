-- Parts of a list, each of which a comma may follow, keep the laws.
use Rattle.std.proofs.Common.{◌≡◌, Bool, true, false, ◌||◌, ◌&&◌, not, List, [], ◌∷◌, ◌++◌, ℕ, if◌then◌else◌, refl, sym, ap, ◌∙◌, inl, inr}
use Rattle.sb_base.specs.declared.tokens.Token.{Token}
use Rattle.sb_parse.specs.Parser.{Parser, at_next, ◌>>=◌, pure, refuse, token, choose}
use Rattle.sb_parse.specs.Lawful.{Lawful, OnHead, Joined, IsToken, IsEmpty, Mapped, Either}
use Rattle.sb_parse.proofs.Joining.{from_there, one_token, map_of}
use Rattle.sb_parse.proofs.Heads.{at_head, head_via, perhaps_of, barred}
use Rattle.sb_lexicon.specs.Lexicon.{Lexicon}
use Rattle.sb_lexicon.specs.Tokens.{unexpected, is_comma}
use Rattle.sb_parse.proofs.Ways.{first_fails, second_fails, following_where, follows_map}

-- ---- whether a comma stands there

abbrev pub CommaText : Lexicon → List Token → Bool → Type 0
CommaText w = Either (Mapped (λ t. true) (IsToken (is_comma w))) (IsEmpty false)

abbrev pub comma_or_none : Lexicon → Parser Token Bool
comma_or_none w = choose (is_comma w) (token unexpected (is_comma w) >>= (λ t. pure true)) (pure false)

abbrev more_comma : Lexicon → Bool → Token → Bool
more_comma w b t = not b && is_comma w t

comma_law : (w : Lexicon) → Lawful (CommaText w) (more_comma w) (comma_or_none w)
comma_law w = perhaps_of false (at_head (is_comma w) (λ t h. map_of (one_token unexpected (is_comma w) t h) (λ t. true) (more_comma w) (λ a t. refl)) heads) (λ t. refl)
  where
    heads : (ts : List Token) (b : Bool) → Mapped (λ t. true) (IsToken (is_comma w)) ts b → at_next (is_comma w) ts ≡ true
    heads ts b m = ap (at_next (is_comma w)) m.is.alone ∙ m.is.passes

-- behind a part and a comma nothing more goes on, and behind a part without one it does, or what goes on from the part
module _ {V B : Type 0} {IsUnit : List Token → V → Type 0} {more : V → Token → Bool} {u : Parser Token V} (w : Lexicon) (U : Lawful IsUnit more u) (f : V → Bool → B) (other : B → Token → Bool)
    (same : (v : V) (m : Bool) (t : Token) → other (f v m) t ≡ (if m then false else (is_comma w t || more v t))) (ends : (v : V) (t : Token) → is_comma w t ≡ true → more v t ≡ false) where
  abbrev pub CommaBehind : V → List Token → B → Type 0
  CommaBehind v = Mapped (f v) (CommaText w)

  fewer : (v : V) (m : Bool) (t : Token) → other (f v m) t ≡ false → more_comma w m t ≡ false
  fewer v true t h = refl
  fewer v false t h = first_fails (is_comma w t) (more v t) (sym (same v false t) ∙ h)

  no_more : (v : V) (rest : List Token) → at_next (other (f v false)) rest ≡ false → at_next (more v) rest ≡ false
  no_more v [] h = refl
  no_more v (t ∷ rest) h = second_fails (is_comma w t) (more v t) (sym (same v false t) ∙ h)

  enough : (v : V) (ts : List Token) (m : Bool) (rest : List Token) → CommaText w ts m → at_next (more v) (ts ++ rest) ≡ false → at_next (more_comma w m) rest ≡ false → at_next (other (f v m)) rest ≡ false
  enough v ts m [] is h e = refl
  enough v ts true (t ∷ rest) is h e = same v true t
  enough v ts false (t ∷ rest) (inl is) h e = absurd (cc is.same)
  enough v ts false (t ∷ rest) (inr is) h e =
      let plain : more v t ≡ false = sym (ap (λ l. at_next (more v) (l ++ (t ∷ rest))) is.none) ∙ h in
      same v false t ∙ ap (λ b. b || more v t) e ∙ plain

  apart : (v : V) (ys : List Token) (b : B) (rest : List Token) → CommaBehind v ys b → at_next (other b) rest ≡ false → at_next (more v) (ys ++ rest) ≡ false
  apart v ys b rest m h = go m.value m.is (sym (ap (λ z. at_next (other z) rest) m.same) ∙ h)
    where
      go : (c : Bool) → CommaText w ys c → at_next (other (f v c)) rest ≡ false → at_next (more v) (ys ++ rest) ≡ false
      go c (inl is) e = ap (λ l. at_next (more v) (l ++ rest)) is.is.alone ∙ ends v is.value is.is.passes
      go c (inr is) e = ap (λ l. at_next (more v) (l ++ rest)) is.none ∙ no_more v rest (sym (ap (λ z. at_next (other (f v z)) rest) is.same) ∙ e)

  pub with_comma : Lawful (Joined IsUnit CommaBehind) other (u >>= (λ v. comma_or_none w >>= (λ m. pure (f v m))))
  with_comma =
      from_there {Second = CommaBehind} {q = λ v. comma_or_none w >>= (λ m. pure (f v m))} U
      (λ xs v is. follows_map (following_where (comma_law w) (more v) (λ m t. other (f v m) t) (λ ts m is t h. fewer v m t h) (enough v)) (f v) other (λ m t. refl))
      (λ xs v ys b rest is second e. apart v ys b rest second e)
