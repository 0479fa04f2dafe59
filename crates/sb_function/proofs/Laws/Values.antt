-- The words that give a value, and the relation's words for them.
use Rattle.std.proofs.Common.{◌≡◌, ◌^◌, ℕ, Bool, true, false, List, [], ◌∷◌, Option, Some, None, nat_lt, slice_get, if◌then◌else◌, refl, sym, ap, ◌∙◌, subst, ltb-true, lt-ltb}
use Rattle.sb_base.specs.declared.interning.Name.{Name}
use Rattle.sb_function.specs.declared.lexeme.Lexeme.{Lexeme}
use Rattle.sb_function.specs.declared.lexeme.Lexeme.TheVariants as sign
use Rattle.sb_function.specs.declared.lexeme.Piece.{Piece}
use Rattle.sb_function.specs.declared.syntax.Comparison.{Comparison}
use Rattle.sb_function.specs.declared.syntax.Comparison.TheVariants as comparison
use Rattle.sb_function.specs.declared.syntax.Param.{Param}
use Rattle.sb_function.specs.declared.syntax.ParamKind.{ParamKind}
use Rattle.sb_function.specs.declared.syntax.ParamKind.TheVariants.{Int, Unsigned, OutWrites}
use Rattle.sb_function.specs.declared.syntax.Simple.{Simple}
use Rattle.sb_function.specs.declared.syntax.Simple.TheVariants as simple
use Rattle.sb_function.specs.Grammar.{◌at◌, AreDistinct, names_of, is_number, type_of, agree, IsSimple, is_constant, is_param, IsComparison, is_less, is_at_most, is_greater, is_at_least, is_equal, is_not_equal}
use Rattle.sb_function.specs.Statements.{found, number_of_kind, number_found, pointer_of_kind, pointer_found, simple_at, array_at, comparison_at, of_type, of_int, right_at, value_at}
use Rattle.sb_function.proofs.Laws.Distinct.{found_is, is_found}

-- ---- numbers and number parameters

pub simple_is : (params : List Param) (t : Piece) (s : Simple) → simple_at params t.lexeme ≡ Some s → IsSimple params (t ∷ []) s
unfolding simple_at
simple_is params t s h = by_lexeme t.lexeme refl h
  where
    constant_is : (n : ℕ) (b : Bool) → nat_lt n (2 ^ 31) ≡ b → (if b then Some (simple.Number n) else None) ≡ Some s → IsSimple params (sign.Number n at t.place ∷ []) s
    constant_is n true e w = let same : simple.Number n ≡ s = cc w in subst (IsSimple params (sign.Number n at t.place ∷ [])) same (is_constant n t.place (ltb-true _ _ e))
    constant_is n false e w = absurd (cc w)

    of_kind : (n : Name) (k : ℕ) (x : ParamKind) → found n params ≡ Some (k, x) → number_of_kind k x ≡ Some s → IsSimple params (sign.Named n at t.place ∷ []) s
    of_kind n k (OutWrites size) e w = absurd (cc w)
    of_kind n k Int e w =
        let there : (a : Param) × (slice_get params k ≡ Some a) × (a.name ≡ n) × (a.kind ≡ Int) = found_is n params k Int e in
        let same : simple.Param k ≡ s = cc w in
        subst (IsSimple params (sign.Named n at t.place ∷ [])) same (subst (λ z. IsSimple params (sign.Named z at t.place ∷ []) (simple.Param k)) there.2 (is_param k there.0 t.place there.1 (ap is_number there.3)))
    of_kind n k Unsigned e w =
        let there : (a : Param) × (slice_get params k ≡ Some a) × (a.name ≡ n) × (a.kind ≡ Unsigned) = found_is n params k Unsigned e in
        let same : simple.Param k ≡ s = cc w in
        subst (IsSimple params (sign.Named n at t.place ∷ [])) same (subst (λ z. IsSimple params (sign.Named z at t.place ∷ []) (simple.Param k)) there.2 (is_param k there.0 t.place there.1 (ap is_number there.3)))

    param_is : (n : Name) (o : Option (ℕ × ParamKind)) → found n params ≡ o → number_found o ≡ Some s → IsSimple params (sign.Named n at t.place ∷ []) s
    param_is n None e w = absurd (cc w)
    param_is n (Some f) e w = of_kind n f.0 f.1 e w

    by_lexeme : (l : Lexeme) → t.lexeme ≡ l → simple_at params l ≡ Some s → IsSimple params (t ∷ []) s
    by_lexeme (sign.Number n) e w = subst (λ z. IsSimple params (z at t.place ∷ []) s) (sym e) (constant_is n (nat_lt n (2 ^ 31)) refl w)
    by_lexeme (sign.Named n) e w = subst (λ z. IsSimple params (z at t.place ∷ []) s) (sym e) (param_is n (found n params) refl w)
    by_lexeme _ e w = absurd (cc w)

pub is_simple : (params : List Param) → AreDistinct (names_of params) → (ts : List Piece) (s : Simple) → IsSimple params ts s → (t : Piece) × (ts ≡ t ∷ []) × (simple_at params t.lexeme ≡ Some s)
unfolding simple_at
is_simple params d _ _ (is_constant n p below) = (sign.Number n at p, refl, ap (λ b. if b then Some (simple.Number n) else None) (lt-ltb n (2 ^ 31) below))
is_simple params d _ _ (is_param k a p there counts) = (sign.Named a.name at p, refl, ap number_found (is_found params d k a there) ∙ of_kind a.kind counts)
  where
    of_kind : (x : ParamKind) → is_number x ≡ true → number_of_kind k x ≡ Some (simple.Param k)
    of_kind Int h = refl
    of_kind Unsigned h = refl
    of_kind (OutWrites size) h = absurd (cc h)

-- ---- pointers

pub array_is : (params : List Param) (t : Piece) (k : ℕ) → array_at params t.lexeme ≡ Some k
    → (a : Param) × (size : ℕ) × (t ≡ (sign.Named a.name at t.place)) × (slice_get params k ≡ Some a) × (a.kind ≡ OutWrites size)
unfolding array_at
array_is params t k h = by_lexeme t.lexeme refl h
  where
    of_kind : (n : Name) (j : ℕ) (x : ParamKind) → t.lexeme ≡ sign.Named n → found n params ≡ Some (j, x) → pointer_of_kind j x ≡ Some k
        → (a : Param) × (size : ℕ) × (t ≡ (sign.Named a.name at t.place)) × (slice_get params k ≡ Some a) × (a.kind ≡ OutWrites size)
    of_kind n j Int l e w = absurd (cc w)
    of_kind n j Unsigned l e w = absurd (cc w)
    of_kind n j (OutWrites size) l e w =
        let there : (a : Param) × (slice_get params j ≡ Some a) × (a.name ≡ n) × (a.kind ≡ OutWrites size) = found_is n params j (OutWrites size) e in
        let same : j ≡ k = cc w in
        (there.0, size, ap (λ z. z at t.place) (l ∙ ap sign.Named (sym there.2)), ap (slice_get params) (sym same) ∙ there.1, there.3)

    param_is : (n : Name) (o : Option (ℕ × ParamKind)) → t.lexeme ≡ sign.Named n → found n params ≡ o → pointer_found o ≡ Some k
        → (a : Param) × (size : ℕ) × (t ≡ (sign.Named a.name at t.place)) × (slice_get params k ≡ Some a) × (a.kind ≡ OutWrites size)
    param_is n None l e w = absurd (cc w)
    param_is n (Some f) l e w = of_kind n f.0 f.1 l e w

    by_lexeme : (l : Lexeme) → t.lexeme ≡ l → array_at params l ≡ Some k → (a : Param) × (size : ℕ) × (t ≡ (sign.Named a.name at t.place)) × (slice_get params k ≡ Some a) × (a.kind ≡ OutWrites size)
    by_lexeme (sign.Named n) e w = param_is n (found n params) e refl w
    by_lexeme _ e w = absurd (cc w)

pub is_array : (params : List Param) → AreDistinct (names_of params) → (k : ℕ) (a : Param) (size : ℕ) → slice_get params k ≡ Some a → a.kind ≡ OutWrites size → array_at params (sign.Named a.name) ≡ Some k
unfolding array_at
is_array params d k a size there e = ap pointer_found (is_found params d k a there) ∙ ap (pointer_of_kind k) e

-- ---- comparisons

pub comparison_is : (l : Lexeme) (op : Comparison) → comparison_at l ≡ Some op → IsComparison l op
unfolding comparison_at
comparison_is sign.Less op h = let same : comparison.Less ≡ op = cc h in subst (IsComparison sign.Less) same is_less
comparison_is sign.AtMost op h = let same : comparison.AtMost ≡ op = cc h in subst (IsComparison sign.AtMost) same is_at_most
comparison_is sign.Greater op h = let same : comparison.Greater ≡ op = cc h in subst (IsComparison sign.Greater) same is_greater
comparison_is sign.AtLeast op h = let same : comparison.AtLeast ≡ op = cc h in subst (IsComparison sign.AtLeast) same is_at_least
comparison_is sign.Equal op h = let same : comparison.Equal ≡ op = cc h in subst (IsComparison sign.Equal) same is_equal
comparison_is sign.NotEqual op h = let same : comparison.NotEqual ≡ op = cc h in subst (IsComparison sign.NotEqual) same is_not_equal
comparison_is _ op h = absurd (cc h)

pub is_comparison : (l : Lexeme) (op : Comparison) → IsComparison l op → comparison_at l ≡ Some op
unfolding comparison_at
is_comparison _ _ is_less = refl
is_comparison _ _ is_at_most = refl
is_comparison _ _ is_greater = refl
is_comparison _ _ is_at_least = refl
is_comparison _ _ is_equal = refl
is_comparison _ _ is_not_equal = refl

-- ---- types that agree

pub right_is : (params : List Param) (left : Simple) (l : Lexeme) (s : Simple) → right_at params left l ≡ Some s → (simple_at params l ≡ Some s) × (agree (type_of params left) (type_of params s) ≡ true)
unfolding right_at
right_is params left l s h = go (simple_at params l) refl h
  where
    go : (o : Option Simple) → simple_at params l ≡ o → of_type params (type_of params left) o ≡ Some s → (simple_at params l ≡ Some s) × (agree (type_of params left) (type_of params s) ≡ true)
    go None e w = absurd (cc w)
    go (Some r) e w = kept (agree (type_of params left) (type_of params r)) refl w
      where
        kept : (b : Bool) → agree (type_of params left) (type_of params r) ≡ b → (if b then Some r else None) ≡ Some s → (simple_at params l ≡ Some s) × (agree (type_of params left) (type_of params s) ≡ true)
        kept true k v = let same : r ≡ s = cc v in (e ∙ ap Some same, ap (λ z. agree (type_of params left) (type_of params z)) (sym same) ∙ k)
        kept false k v = absurd (cc v)

pub is_right : (params : List Param) (left : Simple) (l : Lexeme) (s : Simple) → simple_at params l ≡ Some s → agree (type_of params left) (type_of params s) ≡ true → right_at params left l ≡ Some s
unfolding right_at
is_right params left l s h k = ap (of_type params (type_of params left)) h ∙ ap (λ b. if b then Some s else None) k

pub value_is : (params : List Param) (l : Lexeme) (s : Simple) → value_at params l ≡ Some s → (simple_at params l ≡ Some s) × (agree (type_of params s) (Some Int) ≡ true)
unfolding value_at
value_is params l s h = go (simple_at params l) refl h
  where
    go : (o : Option Simple) → simple_at params l ≡ o → of_int params o ≡ Some s → (simple_at params l ≡ Some s) × (agree (type_of params s) (Some Int) ≡ true)
    go None e w = absurd (cc w)
    go (Some r) e w = kept (agree (type_of params r) (Some Int)) refl w
      where
        kept : (b : Bool) → agree (type_of params r) (Some Int) ≡ b → (if b then Some r else None) ≡ Some s → (simple_at params l ≡ Some s) × (agree (type_of params s) (Some Int) ≡ true)
        kept true k v = let same : r ≡ s = cc v in (e ∙ ap Some same, ap (λ z. agree (type_of params z) (Some Int)) (sym same) ∙ k)
        kept false k v = absurd (cc v)

pub is_value : (params : List Param) (l : Lexeme) (s : Simple) → simple_at params l ≡ Some s → agree (type_of params s) (Some Int) ≡ true → value_at params l ≡ Some s
unfolding value_at
is_value params l s h k = ap (of_int params) h ∙ ap (λ b. if b then Some s else None) k

-- ---- a number of the text always fits

pub zero_is_simple : (params : List Param) → simple_at params (sign.Number 0) ≡ Some (simple.Number 0)
unfolding simple_at
zero_is_simple params = refl

pub zero_is_right : (params : List Param) (left : Simple) → right_at params left (sign.Number 0) ≡ Some (simple.Number 0)
unfolding right_at
zero_is_right params left = is_right params left (sign.Number 0) (simple.Number 0) (zero_is_simple params) (takes_any (type_of params left))
  where
    takes_any : (t : Option ParamKind) → agree t None ≡ true
    takes_any None = refl
    takes_any (Some x) = refl

pub zero_is_value : (params : List Param) → value_at params (sign.Number 0) ≡ Some (simple.Number 0)
zero_is_value params = is_value params (sign.Number 0) (simple.Number 0) (zero_is_simple params) refl

pub less_is_comparison : comparison_at sign.Less ≡ Some comparison.Less
unfolding comparison_at
less_is_comparison = refl
