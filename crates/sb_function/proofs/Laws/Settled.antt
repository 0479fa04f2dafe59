-- Sizes by name and sizes by position say the same, where names differ.
use Rattle.std.proofs.Common.{◌≡◌, ℕ, zero, suc, Bool, true, false, ◌||◌, ◌&&◌, List, [], ◌∷◌, ◌++◌, map, length, Some, slice_get, if◌then◌else◌, refl, sym, ap, ◌∙◌, inl, inr, subst, append_assoc}
use Rattle.sb_base.specs.declared.interning.Name.{Name}
use Rattle.sb_base.specs.declared.refusals.Place.{Place}
use Rattle.sb_function.specs.declared.lexeme.Lexeme.TheVariants as sign
use Rattle.sb_function.specs.declared.lexeme.Piece.{Piece}
use Rattle.sb_function.specs.declared.syntax.Param.{Param}
use Rattle.sb_function.specs.declared.syntax.ParamKind.TheVariants as kind
use Rattle.sb_function.specs.declared.written.Written.{Written}
use Rattle.sb_function.specs.declared.written.WrittenKind.{WrittenKind}
use Rattle.sb_function.specs.declared.written.WrittenKind.TheVariants.{Int, Unsigned, OutWrites}
use Rattle.sb_function.specs.Grammar.{◌at◌, same_name, is_among, AreDistinct, names_of, is_number, IsParam, is_int, is_unsigned, is_out_writes, AreParams, one, more}
use Rattle.sb_function.specs.Params.{written_names, counts, has_number, place_of, placed_kind, placed, settled}
use Rattle.sb_function.proofs.Laws.Distinct.{same_name_is, same_name_refl, is_among_at}
use Rattle.sb_function.proofs.Laws.Naming
use Rattle.sb_function.proofs.Laws.ParamTexts.{IsWritten, wrote_int, wrote_unsigned, wrote_pointer, IsRest, closed_at, goes_to, sized, Sizes}

-- ---- from names to positions

pub at_map : {A B : Type 0} (f : A → B) (xs : List A) (k : ℕ) (x : A) → slice_get xs k ≡ Some x → slice_get (map f xs) k ≡ Some (f x)
at_map f [] k x h = absurd (cc h)
at_map f (y ∷ ys) zero x h = let same : y ≡ x = cc h in ap (λ z. Some (f z)) same
at_map f (y ∷ ys) (suc k) x h = at_map f ys k x h

has_among : (n : Name) (ws : List Written) → has_number n ws ≡ true → is_among n (written_names ws) ≡ true
has_among n [] h = absurd (cc h)
has_among n (w ∷ ws) h = elim (Naming.one_of (same_name n w.name && counts w.kind) (has_number n ws) h) [
  | inl e ↦ Naming.or_first (same_name n w.name) (is_among n (written_names ws)) (Naming.both_true (same_name n w.name) (counts w.kind) e).0
  | inr e ↦ Naming.or_second (same_name n w.name) (is_among n (written_names ws)) (has_among n ws e)
]

-- the number parameter of a name stands at the place of the name
number_at : (n : Name) (ws : List Written) → AreDistinct (written_names ws) → has_number n ws ≡ true → (w : Written) × (slice_get ws (place_of n (written_names ws)) ≡ Some w) × (w.name ≡ n) × (counts w.kind ≡ true)
number_at n [] d h = absurd (cc h)
number_at n (w ∷ ws) d h = go (same_name n w.name) refl (number_at n ws d.1)
  where
    go : (b : Bool) → same_name n w.name ≡ b
        → (has_number n ws ≡ true → (v : Written) × (slice_get ws (place_of n (written_names ws)) ≡ Some v) × (v.name ≡ n) × (counts v.kind ≡ true))
        → (v : Written) × (slice_get (w ∷ ws) (if b then 0 else suc (place_of n (written_names ws))) ≡ Some v) × (v.name ≡ n) × (counts v.kind ≡ true)
    go true e later = (
      w,
      refl,
      sym (same_name_is n w.name e),
      elim (Naming.one_of (same_name n w.name && counts w.kind) (has_number n ws) h) [
        | inl f ↦ (Naming.both_true (same_name n w.name) (counts w.kind) f).1
        | inr f ↦ Naming.never_both (is_among w.name (written_names ws)) (ap (λ z. is_among z (written_names ws)) (sym (same_name_is n w.name e)) ∙ has_among n ws f) d.0
      ],
    )
    go false e later = elim (Naming.one_of (same_name n w.name && counts w.kind) (has_number n ws) h) [
      | inl f ↦ Naming.never_both (same_name n w.name) (Naming.both_true (same_name n w.name) (counts w.kind) f).0 e
      | inr f ↦ (let v : (v : Written) × (slice_get ws (place_of n (written_names ws)) ≡ Some v) × (v.name ≡ n) × (counts v.kind ≡ true) = later f in (v.0, v.1, v.2, v.3))
    ]

same_count : (names : List Name) (k : WrittenKind) → is_number (placed_kind names k) ≡ counts k
same_count names Int = refl
same_count names Unsigned = refl
same_count names (OutWrites size) = refl

pub param_placed : (all : List Written) → AreDistinct (written_names all) → (ts : List Piece) (w : Written) → IsWritten ts w → sized (λ s. has_number s all) w.kind → IsParam (settled all) ts (placed (written_names all) w)
param_placed all d _ _ (wrote_int n p q) s = is_int n p q
param_placed all d _ _ (wrote_unsigned n p q r) s = is_unsigned n p q r
param_placed all d _ _ (wrote_pointer n size p q r s t u v) h =
    let w : (w : Written) × (slice_get all (place_of size (written_names all)) ≡ Some w) × (w.name ≡ size) × (counts w.kind ≡ true) = number_at size all d h in
    subst (λ z. IsParam (settled all) (sign.OutWrites at p ∷ sign.OpenParenthesis at q ∷ sign.Named z at r ∷ sign.CloseParenthesis at s ∷ sign.Int at t ∷ sign.Star at u ∷ sign.Named n at v ∷ [])
    (record { name = n; kind = kind.OutWrites (place_of size (written_names all)) })) w.2
    (is_out_writes n (place_of size (written_names all)) (placed (written_names all) w.0) p q r s t u v (at_map (placed (written_names all)) all (place_of size (written_names all)) w.0 w.1) (same_count (written_names all) w.0.kind ∙ w.3))

-- a first parameter and the rest, as the grammar has them
pub params_placed : (all : List Written) → AreDistinct (written_names all) → (xs ys : List Piece) (w : Written) (ws : List Written) → IsWritten xs w → IsRest ys ws → Sizes (λ s. has_number s all) (w ∷ ws)
    → (zs : List Piece) × (p : Place) × (xs ++ ys ≡ zs ++ (sign.CloseParenthesis at p ∷ [])) × AreParams (settled all) zs (map (placed (written_names all)) (w ∷ ws))
params_placed all d xs _ w _ is (closed_at p) s = (xs, p, refl, one xs (placed (written_names all) w) (param_placed all d xs w is s.0))
params_placed all d xs _ w _ is (goes_to us vs v ws p next rest) s =
    let later : (zs : List Piece) × (q : Place) × (us ++ vs ≡ zs ++ (sign.CloseParenthesis at q ∷ [])) × AreParams (settled all) zs (map (placed (written_names all)) (v ∷ ws)) = params_placed all d us vs v ws next rest s.1 in (
      xs ++ (sign.Comma at p ∷ later.0),
      later.1,
      ap (λ z. xs ++ (sign.Comma at p ∷ z)) later.2 ∙ sym (append_assoc xs (sign.Comma at p ∷ later.0) (sign.CloseParenthesis at later.1 ∷ [])),
      more xs later.0 (placed (written_names all) w) (map (placed (written_names all)) (v ∷ ws)) p (param_placed all d xs w is s.0) later.3,
    )

-- ---- from positions to names

abbrev pub has_param : Name → List Param → Bool
has_param n [] = false
has_param n (p ∷ rest) = (same_name n p.name && is_number p.kind) || has_param n rest

place_is : (params : List Param) → AreDistinct (names_of params) → (k : ℕ) (a : Param) → slice_get params k ≡ Some a → place_of a.name (names_of params) ≡ k
place_is [] d k a h = absurd (cc h)
place_is (p ∷ rest) d zero a h = let same : p ≡ a = cc h in ap (λ b. if b then 0 else suc (place_of a.name (names_of rest))) (ap (λ z. same_name a.name z.name) same ∙ same_name_refl a.name)
place_is (p ∷ rest) d (suc k) a h =
    ap (λ b. if b then 0 else suc (place_of a.name (names_of rest))) (Naming.false_if (same_name a.name p.name) (λ e.
    Naming.never_both (is_among p.name (names_of rest)) (ap (λ z. is_among z (names_of rest)) (sym (same_name_is a.name p.name e)) ∙ is_among_at rest k a h) d.0))
    ∙ ap suc (place_is rest d.1 k a h)

has_param_at : (params : List Param) (k : ℕ) (a : Param) → slice_get params k ≡ Some a → is_number a.kind ≡ true → has_param a.name params ≡ true
has_param_at [] k a h c = absurd (cc h)
has_param_at (p ∷ rest) zero a h c =
    let same : p ≡ a = cc h in
    Naming.or_first (same_name a.name p.name && is_number p.kind) (has_param a.name rest)
    (Naming.and_both (same_name a.name p.name) (is_number p.kind) (ap (λ z. same_name a.name z.name) same ∙ same_name_refl a.name) (ap (λ z. is_number z.kind) same ∙ c))
has_param_at (p ∷ rest) (suc k) a h c = Naming.or_second (same_name a.name p.name && is_number p.kind) (has_param a.name rest) (has_param_at rest k a h c)

pub param_written : (all : List Param) → AreDistinct (names_of all) → (ts : List Piece) (a : Param) → IsParam all ts a → (w : Written) × IsWritten ts w × (a ≡ placed (names_of all) w) × sized (λ s. has_param s all) w.kind
param_written all d _ _ (is_int n p q) = (record { name = n; kind = Int }, wrote_int n p q, refl, tt)
param_written all d _ _ (is_unsigned n p q r) = (record { name = n; kind = Unsigned }, wrote_unsigned n p q r, refl, tt)
param_written all d _ _ (is_out_writes n k x p q r s t u v there c) =
    (record { name = n; kind = OutWrites x.name }, wrote_pointer n x.name p q r s t u v, ap (λ z. let a : Param = record { name = n; kind = kind.OutWrites z } in a) (sym (place_is all d k x there)), has_param_at all k x there c)

pub record Unsettled (all : List Param) (ts : List Piece) (ps : List Param) : Type 0 where
  pub first_text : List Piece
  pub rest_text : List Piece
  pub first : Written
  pub rest : List Written
  pub split : ts ≡ first_text ++ rest_text
  pub first_is : IsWritten first_text first
  pub rest_is : IsRest rest_text rest
  pub same : ps ≡ map (placed (names_of all)) (first ∷ rest)
  pub sizes : Sizes (λ s. has_param s all) (first ∷ rest)

pub params_written : (all : List Param) → AreDistinct (names_of all) → (ts : List Piece) (ps : List Param) (p : Place) → AreParams all ts ps → Unsettled all (ts ++ (sign.CloseParenthesis at p ∷ [])) ps
params_written all d _ _ p (one ts a is) =
    let w : (w : Written) × IsWritten ts w × (a ≡ placed (names_of all) w) × sized (λ s. has_param s all) w.kind = param_written all d ts a is in
    record { first_text = ts; rest_text = sign.CloseParenthesis at p ∷ []; first = w.0; rest = []; split = refl; first_is = w.1; rest_is = closed_at p; same = ap (λ z. z ∷ []) w.2; sizes = (w.3, tt) }
params_written all d _ _ p (more xs ys a rest q is are) =
    let w : (w : Written) × IsWritten xs w × (a ≡ placed (names_of all) w) × sized (λ s. has_param s all) w.kind = param_written all d xs a is in
    let u : Unsettled all (ys ++ (sign.CloseParenthesis at p ∷ [])) rest = params_written all d ys rest p are in
    record {
      first_text = xs;
      rest_text = sign.Comma at q ∷ (u.first_text ++ u.rest_text);
      first = w.0;
      rest = u.first ∷ u.rest;
      split = append_assoc xs (sign.Comma at q ∷ ys) (sign.CloseParenthesis at p ∷ []) ∙ ap (λ z. xs ++ (sign.Comma at q ∷ z)) u.split;
      first_is = w.1;
      rest_is = goes_to u.first_text u.rest_text u.first u.rest q u.first_is u.rest_is;
      same = ap (λ z. z ∷ rest) w.2 ∙ ap (λ z. placed (names_of all) w.0 ∷ z) u.same;
      sizes = (w.3, u.sizes);
    }

pub names_placed : (names : List Name) (ws : List Written) → names_of (map (placed names) ws) ≡ written_names ws
names_placed names [] = refl
names_placed names (w ∷ ws) = ap (λ z. w.name ∷ z) (names_placed names ws)

pub has_placed : (names : List Name) (n : Name) (ws : List Written) → has_param n (map (placed names) ws) ≡ has_number n ws
has_placed names n [] = refl
has_placed names n (w ∷ ws) = ap (λ b. (same_name n w.name && b) || has_param n (map (placed names) ws)) (same_count names w.kind) ∙ ap (λ b. (same_name n w.name && counts w.kind) || b) (has_placed names n ws)

pub length_map : {A B : Type 0} (f : A → B) (xs : List A) → length (map f xs) ≡ length xs
length_map f [] = refl
length_map f (x ∷ xs) = ap suc (length_map f xs)
