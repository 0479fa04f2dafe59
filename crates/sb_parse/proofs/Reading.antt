-- What the laws of a parser come to in the subject's words.
use Rattle.std.proofs.Common.{◌≡◌, ℕ, Bool, false, List, [], ◌∷◌, ◌++◌, length, refl, sym, ap, ◌∙◌, append_assoc, append-nil, subst}
use Rattle.sb_parse.specs.Parser.{Outcome, Parser, done, stop, peeked, at_next, ended, whole}
use Rattle.sb_parse.specs.Lawful.{Part, Stuck, Lawful}
use Rattle.sb_parse.specs.Read.{CanBegin, IsLongest, IsRefused}

module _ {T A : Type 0} {Is : List T → A → Type 0} {more : A → T → Bool} {p : Parser T A} (P : Lawful Is more p) where
  -- a text is read whole
  alone : (ts : List T) (a : A) → Is ts a → p ts ≡ done a []
  alone ts a is = ap p (sym (append-nil ts)) ∙ P.complete ts a [] is refl

  pub one_tree : (ts : List T) (a b : A) → Is ts a → Is ts b → a ≡ b
  one_tree ts a b x y = let both : done a [] ≡ done b [] = sym (alone ts a x) ∙ alone ts b y in cc both

  -- No text goes on with the token at which the parser stops.
  pub none_goes_on : (ts : List T) (n left : ℕ) → (s : Stuck Is p ts n left) → (t : T) (tail : List T) → s.bad ≡ t ∷ tail → CanBegin Is (s.front ++ (t ∷ [])) → ⊥
  none_goes_on ts n left s t tail e c =
      let halt : p (s.front ++ (t ∷ c.rest)) ≡ stop n (length (t ∷ c.rest)) = s.sticks (t ∷ c.rest) (sym (ap peeked e)) in
      let reads : p (s.front ++ (t ∷ c.rest)) ≡ done c.tree [] = alone (s.front ++ (t ∷ c.rest)) c.tree (subst (λ z. Is z c.tree) (append_assoc s.front (t ∷ []) c.rest) c.is) in
      let both : done c.tree [] ≡ stop n (length (t ∷ c.rest)) = sym reads ∙ halt in
      cc both

  no_text : (ts : List T) (n left : ℕ) → (s : Stuck Is p ts n left) → (a : A) → s.bad ≡ [] → Is s.front a → ⊥
  no_text ts n left s a e is =
      let halt : p (s.front ++ []) ≡ stop n 0 = s.sticks [] (sym (ap peeked e)) in
      let both : done a [] ≡ stop n 0 = sym (P.complete s.front a [] is refl) ∙ halt in
      cc both

  pub refused : (ts : List T) (n left : ℕ) → p ts ≡ stop n left → IsRefused Is ts left
  refused ts n left e =
      let s : Stuck Is p ts n left = P.stuck ts n left e in
      record { front = s.front; bad = s.bad; split = s.split; left_is = s.left_is; good = record { rest = s.rest; tree = s.tree; is = s.can }; first = none_goes_on ts n left s; short = no_text ts n left s }

  -- No text goes on with the token after the text that the parser read.
  ends_there : (run : List T) (a : A) (rest : List T) → Is run a → at_next (more a) rest ≡ false → (t : T) (tail : List T) → rest ≡ t ∷ tail → CanBegin Is (run ++ (t ∷ [])) → ⊥
  ends_there run a rest is ends t tail e c =
      let reads : p (run ++ (t ∷ c.rest)) ≡ done c.tree [] = alone (run ++ (t ∷ c.rest)) c.tree (subst (λ z. Is z c.tree) (append_assoc run (t ∷ []) c.rest) c.is) in
      let halts : p (run ++ (t ∷ c.rest)) ≡ done a (t ∷ c.rest) = P.complete run a (t ∷ c.rest) is (sym (ap (at_next (more a)) e) ∙ ends) in
      let both : done c.tree [] ≡ done a (t ∷ c.rest) = sym reads ∙ halts in
      cc both

  pub longest : (ts : List T) (a : A) (rest : List T) → p ts ≡ done a rest → IsLongest Is ts a rest
  longest ts a rest e =
      let u : Part Is more a ts rest = P.sound ts a rest e in
      record { front = u.front; split = u.split; is = u.is; ends = ends_there u.front a rest u.is u.ends }

  -- ---- the whole list

  pub whole_complete : (n : ℕ) (ts : List T) (a : A) → Is ts a → whole n p ts ≡ done a []
  whole_complete n ts a is = ap (ended n) (alone ts a is)

  pub whole_sound : (n : ℕ) (ts : List T) (a : A) (rest : List T) → whole n p ts ≡ done a rest → Is ts a
  whole_sound n ts a rest e = go (p ts) refl e
    where
      go : (o : Outcome T A) → p ts ≡ o → ended n o ≡ done a rest → Is ts a
      go (done b []) w h =
          let value : b ≡ a = cc h in
          let u : Part Is more b ts [] = P.sound ts b [] w in
          subst (Is ts) value (subst (λ z. Is z b) (sym (u.split ∙ append-nil u.front)) u.is)
      go (done b (t ∷ r)) w h = absurd (cc h)
      go (stop m left) w h = absurd (cc h)

  pub whole_refused : (n : ℕ) (ts : List T) (m left : ℕ) → whole n p ts ≡ stop m left → IsRefused Is ts left
  whole_refused n ts m left e = go (p ts) refl e
    where
      go : (o : Outcome T A) → p ts ≡ o → ended n o ≡ stop m left → IsRefused Is ts left
      go (done b []) w h = absurd (cc h)
      go (done b (t ∷ r)) w h =
          let lefts : left ≡ length (t ∷ r) = cc h in
          let u : Part Is more b ts (t ∷ r) = P.sound ts b (t ∷ r) w in
          record {
            front = u.front;
            bad = t ∷ r;
            split = u.split;
            left_is = lefts;
            good = record { rest = []; tree = b; is = subst (λ z. Is z b) (sym (append-nil u.front)) u.is };
            first = ends_there u.front b (t ∷ r) u.is u.ends;
            short = λ a none is. cc none;
          }
      go (stop i j) w h =
          let lefts : j ≡ left = cc h in
          refused ts i left (w ∙ ap (stop i) lefts)
