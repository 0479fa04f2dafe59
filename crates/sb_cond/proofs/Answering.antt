-- A line has one list of tokens and at most one truth, and is not refused where it has one.
use Rattle.std.proofs.Common.{◌≡◌, ◌<◌, ℕ, zero, suc, Bool, List, [], ◌∷◌, ◌++◌, length, slice_get, Option, Some, None, Ok, Err, arith, refl, sym, ap, ◌∙◌, subst, inl, inr, append_assoc, append-nil}
use Rattle.std.proofs.lemmas.List.{same_from_push}
use Rattle.std.proofs.lemmas.Option.{slice_get_within, some_pair_parts}
use Rattle.sb_base.specs.declared.refusals.Place.{Place}
use Rattle.sb_base.specs.declared.refusals.Refusal.{Refusal}
use Rattle.sb_base.specs.declared.tokens.PpKind.{PpKind}
use Rattle.sb_base.specs.declared.tokens.PpKind.TheVariants as kind
use Rattle.sb_lex.specs.declared.piece.PpToken.{PpToken}
use Rattle.sb_lex.specs.Values.{IsCharacter, character, char_value}
use Rattle.sb_parse.specs.Read.{IsRefused}
use Rattle.sb_parse.proofs.Reading.{one_tree}
use Rattle.sb_cond.specs.declared.arithmetic.Operand.{Operand}
use Rattle.sb_cond.specs.declared.sign.ConditionToken.{ConditionToken}
use Rattle.sb_cond.specs.declared.sign.Sign.{Sign}
use Rattle.sb_cond.specs.Arithmetic.{is_true}
use Rattle.sb_cond.specs.Condition.{IsCharacterSign, HasSign, HasSignIn, IsTokenOf, AreTokens, IsCondition, HasTruth, IsRefusedAt, no_value, no_condition, LineHolds, LineRefused}
use Rattle.sb_cond.proofs.Judging.{reads}

-- ---- one list of tokens

one_character : (text : List ℕ) (v w : ℕ) → IsCharacter text v → IsCharacter text w → v ≡ w
one_character text v w a b =
    let whole : a.body ++ 39 ∷ [] ≡ b.body ++ 39 ∷ [] = cc (a.quoted, b.quoted) in
    let body = (same_from_push a.body b.body 39 39 whole).0 in
    let both : ◌≡◌ {A = Option (ℕ × List ℕ)} (Some (a.byte, [])) (Some (b.byte, [])) = sym a.alone ∙ ap character body ∙ b.alone in
    let bytes : a.byte ≡ b.byte = (some_pair_parts a.byte b.byte [] [] both).0 in
    a.converted ∙ ap char_value bytes ∙ sym b.converted

one_character_sign : (text : List ℕ) (s r : Sign) → IsCharacterSign text s → IsCharacterSign text r → s ≡ r
one_character_sign text s r (inl a) (inl b) = let value = one_character text a.0 b.0 a.1 b.1 in cc
one_character_sign text s r (inl a) (inr b) = absurd (b.0 a.0 a.1)
one_character_sign text s r (inr a) (inl b) = absurd (a.0 b.0 b.1)
one_character_sign text s r (inr a) (inr b) = a.1 ∙ sym b.1

one_sign : (k : PpKind) (text : List ℕ) (s r : Sign) → HasSign k text s → HasSign k text r → s ≡ r
one_sign kind.Char text s r a b = one_character_sign text s r a b
one_sign kind.Word text s r a b = a ∙ sym b
one_sign kind.Number text s r a b = a ∙ sym b
one_sign kind.Punct text s r a b = a ∙ sym b
one_sign kind.Text text s r a b = a ∙ sym b
one_sign kind.Header text s r a b = a ∙ sym b

one_sign_in : (k : PpKind) (text : Option (List ℕ)) (s r : Sign) → HasSignIn k text s → HasSignIn k text r → s ≡ r
one_sign_in k None s r a b = a ∙ sym b
one_sign_in k (Some text) s r a b = one_sign k text s r a b

one_token : (texts : List (List ℕ)) (k : ℕ) (piece : PpToken) (s t : ConditionToken) → IsTokenOf texts k piece s → IsTokenOf texts k piece t → s ≡ t
one_token texts k piece s t a b =
    let signs = one_sign_in piece.kind (slice_get texts piece.text.0) s.sign t.sign a.sign b.sign in
    let places : s.at ≡ t.at = a.at ∙ sym b.at in
    ap (λ (z : Sign). record { sign = z; at = s.at }) signs ∙ ap (λ (n : ℕ). record { sign = t.sign; at = n }) places

-- lists of one length that agree at each place
same_at_each : {A : Type 0} (xs ys : List A) → length xs ≡ length ys → ((k : ℕ) (x y : A) → slice_get xs k ≡ Some x → slice_get ys k ≡ Some y → x ≡ y) → xs ≡ ys
same_at_each [] [] count each = refl
same_at_each [] (y ∷ ys) count each = absurd (omega arith)
same_at_each (x ∷ xs) [] count each = absurd (omega arith)
same_at_each (x ∷ xs) (y ∷ ys) count each =
    ap (λ z. z ∷ xs) (each 0 x y refl refl) ∙ ap (λ l. y ∷ l) (same_at_each xs ys (omega arith) (λ k u v at_u at_v. each (suc k) u v at_u at_v))

some_there : {A : Type 0} (xs : List A) (k : ℕ) → k < length xs → (x : A) × (slice_get xs k ≡ Some x)
some_there [] k within = absurd (omega arith)
some_there (x ∷ xs) zero within = (x, refl)
some_there (x ∷ xs) (suc k) within = some_there xs k (omega arith)

pub one_list : (texts : List (List ℕ)) (line : List PpToken) (xs ys : List ConditionToken) → AreTokens texts line xs → AreTokens texts line ys → xs ≡ ys
one_list texts line xs ys a b = same_at_each xs ys (a.count ∙ sym b.count) (λ k x y at_x at_y.
    let within = slice_get_within xs k x at_x in
    let piece : (p : PpToken) × (slice_get line k ≡ Some p) = some_there line k (omega (arith, a.count, within)) in
    one_token texts k piece.0 x y (a.each k piece.0 x piece.1 at_x) (b.each k piece.0 y piece.1 at_y))

-- ---- one truth

one_truth : (tokens : List ConditionToken) (b c : Bool) → HasTruth tokens b → HasTruth tokens c → b ≡ c
one_truth tokens b c x y =
    let same : x.operand ≡ y.operand = one_tree reads tokens x.operand y.operand x.is y.is in
    let both : Ok x.value ≡ Ok y.value = sym x.valued ∙ ap (λ (a : Operand). a.value) same ∙ y.valued in
    let values : x.value ≡ y.value = cc both in
    x.truth ∙ ap is_true values ∙ sym y.truth

not_refused : (tokens : List ConditionToken) (left : ℕ) (a : Operand) → IsCondition tokens a → IsRefused IsCondition tokens left → ⊥
not_refused tokens left a is r = go r.bad r.split refl
  where
    go : (bad : List ConditionToken) → tokens ≡ r.front ++ bad → r.bad ≡ bad → ⊥
    go [] split e = r.short a e (subst (λ l. IsCondition l a) (split ∙ append-nil r.front) is)
    go (t ∷ tail) split e = r.first t tail e (record { rest = tail; tree = a; is = subst (λ l. IsCondition l a) (split ∙ sym (append_assoc r.front (t ∷ []) tail)) is })

no_refusal : (tokens : List ConditionToken) (at : ℕ) (b : Bool) → HasTruth tokens b → IsRefusedAt tokens at → ⊥
no_refusal tokens _ b x (no_value a at is valued) =
    let same : x.operand ≡ a = one_tree reads tokens x.operand a x.is is in
    let values : Ok x.value ≡ Err at = sym x.valued ∙ ap (λ (o : Operand). o.value) same ∙ valued in
    cc values
no_refusal tokens _ b x (no_condition front bad fault split refused has) = not_refused tokens (length bad) x.operand x.is refused

pub one_answer : (texts : List (List ℕ)) (line : List PpToken) (b c : Bool) → LineHolds texts line b → LineHolds texts line c → b ≡ c
one_answer texts line b c x y = one_truth y.tokens b c (subst (λ l. HasTruth l b) (one_list texts line x.tokens y.tokens x.are y.are) x.truth) y.truth

pub never_refused : (texts : List (List ℕ)) (line : List PpToken) (end : Place) (b : Bool) (refusal : Refusal) → LineHolds texts line b → LineRefused texts line end refusal → ⊥
never_refused texts line end b refusal x y = no_refusal y.tokens y.at b (subst (λ l. HasTruth l b) (one_list texts line x.tokens y.tokens x.are y.are) x.truth) y.refused
