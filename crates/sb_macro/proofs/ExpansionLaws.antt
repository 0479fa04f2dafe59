-- A text has one expansion, or it is refused with one number at one place.
use Rattle.std.proofs.Common.{◌≡◌, ◌≤◌, ◌<◌, ◌+◌, ◌-◌, ℕ, zero, suc, List, [], ◌∷◌, ◌++◌, Some, ap, sym, ◌∙◌, refl, subst, inl, inr, append-nil, arith, length, length-append}
use Rattle.std.specs.List.{slice_get}
use Rattle.std.proofs.lemmas.Bool.Decides.{eqb_tells, leb_tells}
use Rattle.sb_base.specs.declared.refusals.Place.{Place}
use Rattle.sb_macro.specs.Expansion.{Scope, Step, step, Kept, Replaced, Unclosed, Miscounted, Gives, start, kept, replaced, Stops, too_many, unclosed, miscounted, inside, AreSmall, EachGives}
use Rattle.sb_macro.specs.Macros.{Macro}
use Rattle.sb_macro.specs.Replacement.{replacement}
use Rattle.sb_macro.specs.Tokens.{Tok}

-- of two ways to read a list, one goes on from the other
pub data Together (scope : Scope) (out : List Tok) (last : List Tok) (other : List Tok) (end : List Tok) : Type 0 where
  goes_on : (more : List Tok) → Gives scope last more end → other ≡ out ++ more → Together scope out last other end
  went_on : (more : List Tok) → Gives scope end more last → out ≡ other ++ more → Together scope out last other end

one_more : (scope : Scope) (t : Tok) (out last other end : List Tok) → Together scope out last other end → Together scope (t ∷ out) last (t ∷ other) end
one_more scope t out last other end (goes_on more g is) = goes_on more g (ap (λ l. t ∷ l) is)
one_more scope t out last other end (went_on more g is) = went_on more g (ap (λ l. t ∷ l) is)

-- two steps of one token are one
kept_replaced : {s : Step} {m : Macro} {args : List (List Tok)} {after : List Tok} → s ≡ Kept → s ≡ Replaced m args after → ⊥
kept_replaced kept_is is = absurd (let e = sym kept_is ∙ is in cc)

-- the parts of one replacement
record SameParts (m n : Macro) (args others : List (List Tok)) (after later : List Tok) : Type 0 where
  same_macro : m ≡ n
  same_args : args ≡ others
  same_after : after ≡ later

same_parts : (s : Step) (m n : Macro) (args others : List (List Tok)) (after later : List Tok) → s ≡ Replaced m args after → s ≡ Replaced n others later → SameParts m n args others after later
same_parts s m n args others after later is also =
    let e : Replaced m args after ≡ Replaced n others later = sym is ∙ also in
    record { same_macro = cc; same_args = cc; same_after = cc }

-- lists of one length that agree at each place
same_at_each : (xs ys : List (List Tok)) → length xs ≡ length ys → ((k : ℕ) (x y : List Tok) → slice_get xs k ≡ Some x → slice_get ys k ≡ Some y → x ≡ y) → xs ≡ ys
same_at_each [] [] len same = refl
same_at_each [] (y ∷ ys) len same = absurd (omega arith)
same_at_each (x ∷ xs) [] len same = absurd (omega arith)
same_at_each (x ∷ xs) (y ∷ ys) len same =
    let first = same zero x y refl refl in
    let others = same_at_each xs ys (omega arith) (λ k a b at also. same (suc k) a b at also) in
    cc

-- an argument at each place of a list of the same length
there_too : (xs ys : List (List Tok)) (k : ℕ) (x : List Tok) → length xs ≡ length ys → slice_get xs k ≡ Some x → (y : List Tok) × (slice_get ys k ≡ Some y)
there_too [] ys k x len at = absurd (cc)
there_too (a ∷ xs) [] k x len at = absurd (omega arith)
there_too (a ∷ xs) (b ∷ ys) zero x len at = (b, refl)
there_too (a ∷ xs) (b ∷ ys) (suc k) x len at = there_too xs ys k x (omega arith) at

-- a whole expansion goes on to nothing
whole : (scope : Scope) (out other : List Tok) → Together scope out [] other [] → out ≡ other
whole scope out other (goes_on more g is) = ended more g is
  where
    ended : (more : List Tok) → Gives scope [] more [] → other ≡ out ++ more → out ≡ other
    ended _ (start _) is = sym (is ∙ append-nil out)
whole scope out other (went_on more g is) = ended more g is
  where
    ended : (more : List Tok) → Gives scope [] more [] → out ≡ other ++ more → out ≡ other
    ended _ (start _) is = is ∙ append-nil other

pub together : (scope : Scope) (list out last other end : List Tok) → Gives scope list out last → Gives scope list other end → Together scope out last other end
together scope list _ _ other end (start _) second = goes_on other second refl
together scope _ _ last _ _ (kept t rest out _ is first) (start _) = went_on (t ∷ out) (kept t rest out last is first) refl
together scope _ _ last _ end (kept t rest out _ is first) (kept _ _ other _ also second) = one_more scope t out last other end (together scope rest out last other end first second)
together scope _ _ last other end (kept t rest out _ is first) (replaced _ _ _ _ n others fuller later also all small each second) = absurd (kept_replaced is also)
together scope _ out last _ _ (replaced t rest _ _ m args fulls after is all small each first) (start _) = went_on out (replaced t rest out last m args fulls after is all small each first) refl
together scope _ out last _ _ (replaced t rest _ _ m args fulls after is all small each first) (kept _ _ other _ also second) = absurd (kept_replaced also is)
together scope _ out last other end (replaced t rest _ _ m args fulls after is all small each first) (replaced _ _ _ _ n others fuller later also all_too small_too each_too second) =
    let same = same_parts (step scope t rest) m n args others after later is also in
    let equal : length fulls ≡ length fuller = all ∙ ap length same.same_args ∙ sym all_too in
    let same_fulls = same_at_each fulls fuller equal (λ k x y at at_too.
    let arg = there_too fulls args k x all at in
    let arg_too : slice_get others k ≡ Some arg.0 = ap (λ l. slice_get l k) (sym same.same_args) ∙ arg.1 in
    whole scope x y (together scope arg.0 x [] y [] (each k arg.0 x arg.1 at) (each_too k arg.0 y arg_too at_too))) in
    let list : replacement n fuller t ++ later ≡ replacement m fulls t ++ after =
    ap (λ l. replacement n l t ++ later) (sym same_fulls) ∙ ap (λ k. replacement k fulls t ++ later) (sym same.same_macro) ∙ ap (λ l. replacement m fulls t ++ l) (sym same.same_after) in
    together scope (replacement m fulls t ++ after) out last other end first (subst (λ l. Gives scope l other end) list second)

-- a text has one expansion
pub one_expansion : (scope : Scope) (list out other : List Tok) → Gives scope list out [] → Gives scope list other [] → out ≡ other
one_expansion scope list out other first second = whole scope out other (together scope list out [] other [] first second)

-- nothing goes on from here within so many tokens more
pub record Held (scope : Scope) (left : ℕ) (list : List Tok) : Type 0 where
  pub held : (out last : List Tok) → Gives scope list out last → length out ≤ left → (out ≡ []) × (last ≡ list)

pub held_full : (scope : Scope) (left : ℕ) (t : Tok) (rest : List Tok) → step scope t rest ≡ Kept → left ≡ 0 → Held scope left (t ∷ rest)
held_full scope left t rest is full = record { held = λ out last g few. at (t ∷ rest) out last refl g few }
  where
    at : (list out last : List Tok) → list ≡ t ∷ rest → Gives scope list out last → length out ≤ left → (out ≡ []) × (last ≡ list)
    at _ _ _ same (start _) few = (refl, refl)
    at _ _ _ same (kept _ _ _ _ _ _) few = absurd (omega arith)
    at _ _ _ same (replaced u list _ _ m args fulls after also _ _ _ _) few =
        absurd (kept_replaced is (let here : u ≡ t = cc in let behind : list ≡ rest = cc in ap (λ x. step scope x rest) (sym here) ∙ ap (step scope u) (sym behind) ∙ also))

-- a step that neither keeps the token nor replaces it with arguments that can be expanded
held_stuck : (scope : Scope) (left : ℕ) (t : Tok) (rest : List Tok) → (step scope t rest ≡ Kept → ⊥)
    → ((m : Macro) (args fulls : List (List Tok)) (after : List Tok) → step scope t rest ≡ Replaced m args after → length fulls ≡ length args → AreSmall scope.room fulls → EachGives scope args fulls → ⊥)
    → Held scope left (t ∷ rest)
held_stuck scope left t rest not_kept not_replaced = record { held = λ out last g few. at (t ∷ rest) out last refl g }
  where
    at : (list out last : List Tok) → list ≡ t ∷ rest → Gives scope list out last → (out ≡ []) × (last ≡ list)
    at _ _ _ same (start _) = (refl, refl)
    at _ _ _ same (kept u list _ _ is _) = absurd (not_kept (let here : u ≡ t = cc in let behind : list ≡ rest = cc in ap (λ x. step scope x rest) (sym here) ∙ ap (step scope u) (sym behind) ∙ is))
    at _ _ _ same (replaced u list _ _ m args fulls after is all small each _) =
        absurd (not_replaced m args fulls after (let here : u ≡ t = cc in let behind : list ≡ rest = cc in ap (λ x. step scope x rest) (sym here) ∙ ap (step scope u) (sym behind) ∙ is) all small each)

pub unclosed_kept : {s : Step} → s ≡ Unclosed → s ≡ Kept → ⊥
unclosed_kept is kept_is = absurd (let e = sym is ∙ kept_is in cc)

pub unclosed_replaced : {s : Step} {m : Macro} {args : List (List Tok)} {after : List Tok} → s ≡ Unclosed → s ≡ Replaced m args after → ⊥
unclosed_replaced is also = absurd (let e = sym is ∙ also in cc)

miscounted_kept : {s : Step} → s ≡ Miscounted → s ≡ Kept → ⊥
miscounted_kept is kept_is = absurd (let e = sym is ∙ kept_is in cc)

miscounted_replaced : {s : Step} {m : Macro} {args : List (List Tok)} {after : List Tok} → s ≡ Miscounted → s ≡ Replaced m args after → ⊥
miscounted_replaced is also = absurd (let e = sym is ∙ also in cc)

pub unclosed_miscounted : {s : Step} → s ≡ Unclosed → s ≡ Miscounted → ⊥
unclosed_miscounted is also = absurd (let e = sym is ∙ also in cc)

pub held_unclosed : (scope : Scope) (left : ℕ) (t : Tok) (rest : List Tok) → step scope t rest ≡ Unclosed → Held scope left (t ∷ rest)
held_unclosed scope left t rest is = held_stuck scope left t rest (unclosed_kept is) (λ m args fulls after also all small each. unclosed_replaced is also)

pub held_miscounted : (scope : Scope) (left : ℕ) (t : Tok) (rest : List Tok) → step scope t rest ≡ Miscounted → Held scope left (t ∷ rest)
held_miscounted scope left t rest is = held_stuck scope left t rest (miscounted_kept is) (λ m args fulls after also all small each. miscounted_replaced is also)

pub held_inside : (scope : Scope) (left : ℕ) (t : Tok) (rest : List Tok) (m : Macro) (args : List (List Tok)) (after : List Tok) (k : ℕ) (arg : List Tok)
    → step scope t rest ≡ Replaced m args after → slice_get args k ≡ Some arg → ((full : List Tok) → Gives scope arg full [] → length full ≤ scope.room → ⊥) → Held scope left (t ∷ rest)
held_inside scope left t rest m args after k arg is at refused =
    held_stuck scope left t rest (λ kept_is. kept_replaced kept_is is) (λ n others fuller later also all small each.
    let same = same_parts (step scope t rest) m n args others after later is also in
    let other_at : slice_get others k ≡ Some arg = ap (λ l. slice_get l k) (sym same.same_args) ∙ at in
    let full = there_too others fuller k arg (sym all) other_at in
    refused full.0 (each k arg full.0 other_at full.1) (small k full.0 full.1))

pub ends_nowhere : (scope : Scope) (out last : List Tok) → Gives scope [] out last → last ≡ []
ends_nowhere scope _ _ (start _) = refl

-- where nothing goes on, no expansion ends
halted : (scope : Scope) (list out : List Tok) (t : Tok) (rest : List Tok) (left : ℕ) (all : List Tok) → Gives scope list out (t ∷ rest) → Held scope left (t ∷ rest) → scope.room ≡ length out + left
    → Gives scope list all [] → length all ≤ scope.room → ⊥
halted scope list out t rest left all front here room whole_list few = at (together scope list out (t ∷ rest) all [] front whole_list)
  where
    at : Together scope out (t ∷ rest) all [] → ⊥
    at (goes_on more g is) =
        let shorter : length more ≤ left = omega (arith, ap length is, length-append out more) in
        let none = here.held more [] g shorter in absurd (let e = none.1 in cc)
    at (went_on more g is) = absurd (let e = ends_nowhere scope more (t ∷ rest) g in cc)

-- a text that is refused has no expansion
pub exclusive : (scope : Scope) (last : Place) (list : List Tok) (number : ℕ) (place : Place) (all : List Tok) → Stops scope last list number place → Gives scope list all [] → length all ≤ scope.room → ⊥
exclusive scope last list _ _ all (too_many _ _ out t rest front full is) g few = halted scope list out t rest 0 all front (held_full scope 0 t rest is refl) (omega arith) g few
exclusive scope last list _ _ all (unclosed _ _ out t rest front room is) g few =
    halted scope list out t rest (scope.room - length out) all front (held_unclosed scope _ t rest is) (omega arith) g few
exclusive scope last list _ _ all (miscounted _ _ out t rest front room is) g few =
    halted scope list out t rest (scope.room - length out) all front (held_miscounted scope _ t rest is) (omega arith) g few
exclusive scope last list _ _ all (inside _ _ out t rest front room m args fulls after is small each arg at end number place stops) g few =
    halted scope list out t rest (scope.room - length out) all front
    (held_inside scope _ t rest m args after (length fulls) arg is at (λ full gives fits. exclusive scope end arg number place full stops gives fits)) (omega arith) g few

-- why a text is refused at the token t, before which it gave out
data At (scope : Scope) (last : Place) (out : List Tok) (t : Tok) (rest : List Tok) : ℕ → Place → Type 0 where
  at_full : step scope t rest ≡ Kept → At scope last out t rest 16 t.piece.place
  at_unclosed : step scope t rest ≡ Unclosed → At scope last out t rest 14 last
  at_miscounted : step scope t rest ≡ Miscounted → At scope last out t rest 13 t.piece.place
  at_inside : (m : Macro) (args fulls : List (List Tok)) (after : List Tok) → step scope t rest ≡ Replaced m args after → AreSmall scope.room fulls → EachGives scope args fulls
      → (arg : List Tok) → slice_get args (length fulls) ≡ Some arg → (end : Place) (number : ℕ) (place : Place) → Stops scope end arg number place → At scope last out t rest number t.piece.place

-- where and why a text is refused
data View (scope : Scope) (last : Place) (list : List Tok) (number : ℕ) (place : Place) : Type 0 where
  view : (out : List Tok) (t : Tok) (rest : List Tok) (left : ℕ) → Gives scope list out (t ∷ rest) → Held scope left (t ∷ rest) → scope.room ≡ length out + left → At scope last out t rest number place
      → View scope last list number place

seen : (scope : Scope) (last : Place) (list : List Tok) (number : ℕ) (place : Place) → Stops scope last list number place → View scope last list number place
seen scope last list _ _ (too_many _ _ out t rest front full is) = view out t rest 0 front (held_full scope 0 t rest is refl) (omega arith) (at_full is)
seen scope last list _ _ (unclosed _ _ out t rest front room is) = view out t rest (scope.room - length out) front (held_unclosed scope _ t rest is) (omega arith) (at_unclosed is)
seen scope last list _ _ (miscounted _ _ out t rest front room is) = view out t rest (scope.room - length out) front (held_miscounted scope _ t rest is) (omega arith) (at_miscounted is)
seen scope last list _ _ (inside _ _ out t rest front room m args fulls after is small each arg at end number place stops) =
    view out t rest (scope.room - length out) front
    (held_inside scope _ t rest m args after (length fulls) arg is at (λ full gives fits. exclusive scope end arg number place full stops gives fits)) (omega arith)
    (at_inside m args fulls after is small each arg at end number place stops)

moved_to : (scope : Scope) (last : Place) (out other : List Tok) (t u : Tok) (rest later : List Tok) (number : ℕ) (place : Place) → other ≡ out → u ∷ later ≡ t ∷ rest
    → At scope last other u later number place → At scope last out t rest number place
moved_to scope last out other t u rest later number place same list at =
    let here : u ≡ t = cc in
    let behind : later ≡ rest = cc in
    subst (λ l. At scope last l t rest number place) same (subst (λ x. At scope last other x rest number place) here (subst (λ l. At scope last other u l number place) behind at))

-- two refusals of a text stand at one token
arrived : (scope : Scope) (last : Place) (list out : List Tok) (t : Tok) (rest : List Tok) (left number : ℕ) (place : Place) → Gives scope list out (t ∷ rest) → Held scope left (t ∷ rest)
    → scope.room ≡ length out + left → View scope last list number place → At scope last out t rest number place
arrived scope last list out t rest left number place front here room (view other u later more_left second there room_too why) =
    at (together scope list out (t ∷ rest) other (u ∷ later) front second)
  where
    at : Together scope out (t ∷ rest) other (u ∷ later) → At scope last out t rest number place
    at (goes_on more g is) =
        let shorter : length more ≤ left = omega (arith, ap length is, length-append out more) in
        let none = here.held more (u ∷ later) g shorter in
        moved_to scope last out other t u rest later number place (is ∙ ap (λ l. out ++ l) none.0 ∙ append-nil out) none.1 why
    at (went_on more g is) =
        let shorter : length more ≤ more_left = omega (arith, ap length is, length-append other more) in
        let none = there.held more (t ∷ rest) g shorter in
        moved_to scope last out other t u rest later number place (sym (is ∙ ap (λ l. other ++ l) none.0 ∙ append-nil other)) (sym none.1) why

-- an element within a list
element : (xs : List (List Tok)) (k : ℕ) → k < length xs → (x : List Tok) × (slice_get xs k ≡ Some x)
element [] k within = absurd (omega arith)
element (x ∷ xs) zero within = (x, refl)
element (x ∷ xs) (suc k) within = element xs k (omega arith)

module _ (scope : Scope) (other : Place) (out : List Tok) (t : Tok) (rest : List Tok) where
  same_full : (n : ℕ) (p : Place) → step scope t rest ≡ Kept → At scope other out t rest n p → (16 ≡ n) × (t.piece.place ≡ p)
  same_full _ _ is (at_full also) = (refl, refl)
  same_full _ _ is (at_unclosed also) = absurd (unclosed_kept also is)
  same_full _ _ is (at_miscounted also) = absurd (miscounted_kept also is)
  same_full _ _ is (at_inside m args fulls after also small each arg at end number place stops) = absurd (kept_replaced is also)

  same_unclosed : (last : Place) (n : ℕ) (p : Place) → step scope t rest ≡ Unclosed → At scope other out t rest n p → (14 ≡ n) × (last ≡ other → last ≡ p)
  same_unclosed last _ _ is (at_full also) = absurd (unclosed_kept is also)
  same_unclosed last _ _ is (at_unclosed also) = (refl, λ same. same)
  same_unclosed last _ _ is (at_miscounted also) = absurd (unclosed_miscounted is also)
  same_unclosed last _ _ is (at_inside m args fulls after also small each arg at end number place stops) = absurd (unclosed_replaced is also)

  same_miscounted : (n : ℕ) (p : Place) → step scope t rest ≡ Miscounted → At scope other out t rest n p → (13 ≡ n) × (t.piece.place ≡ p)
  same_miscounted _ _ is (at_full also) = absurd (miscounted_kept is also)
  same_miscounted _ _ is (at_unclosed also) = absurd (unclosed_miscounted also is)
  same_miscounted _ _ is (at_miscounted also) = (refl, refl)
  same_miscounted _ _ is (at_inside m args fulls after also small each arg at end number place stops) = absurd (miscounted_replaced is also)

  module _ (m : Macro) (args fulls : List (List Tok)) (after : List Tok) (is : step scope t rest ≡ Replaced m args after) (small : AreSmall scope.room fulls) (each : EachGives scope args fulls)
      (arg : List Tok) (at : slice_get args (length fulls) ≡ Some arg) (refused : (full : List Tok) → Gives scope arg full [] → length full ≤ scope.room → ⊥) where
    -- of two refusals of arguments of one call the same argument is the first
    same_argument : (fuller : List (List Tok)) → AreSmall scope.room fuller → EachGives scope args fuller → (second : List Tok) → slice_get args (length fuller) ≡ Some second
        → ((full : List Tok) → Gives scope second full [] → length full ≤ scope.room → ⊥) → second ≡ arg
    same_argument fuller small_too each_too second at_too refused_too = elim (eqb_tells (length fulls) (length fuller)) [
      | inl equal ↦ let e : Some second ≡ Some arg = sym at_too ∙ ap (slice_get args) (sym equal.1) ∙ at in cc
      | inr differ ↦ elim (leb_tells (length fulls) (length fuller)) [
        | inl fewer ↦
            let full = element fuller (length fulls) (omega arith) in
            absurd (refused full.0 (each_too (length fulls) arg full.0 at full.1) (small_too (length fulls) full.0 full.1))
        | inr more ↦
            let full = element fulls (length fuller) more.1 in
            absurd (refused_too full.0 (each (length fuller) second full.0 at_too full.1) (small (length fuller) full.0 full.1))
      ]
    ]

    same_inside : (number n : ℕ) (p : Place) → ((end : Place) (k : ℕ) (q : Place) → Stops scope end arg k q → number ≡ k) → At scope other out t rest n p → (number ≡ n) × (t.piece.place ≡ p)
    same_inside number _ _ one (at_full also) = absurd (kept_replaced also is)
    same_inside number _ _ one (at_unclosed also) = absurd (unclosed_replaced also is)
    same_inside number _ _ one (at_miscounted also) = absurd (miscounted_replaced also is)
    same_inside number _ _ one (at_inside n others fuller later also small_too each_too second at_too end k q stops) =
        let same = same_parts (step scope t rest) m n args others after later is also in
        let args_are = sym same.same_args in
        let argument = same_argument fuller small_too (subst (λ l. EachGives scope l fuller) args_are each_too) second (subst (λ l. slice_get l (length fuller) ≡ Some second) args_are at_too)
        (λ full gives fits. exclusive scope end second k q full stops gives fits) in
        (one end k q (subst (λ l. Stops scope end l k q) argument stops), refl)

-- a text is refused with one number, and at one place
pub one_stop : (scope : Scope) (last other : Place) (list : List Tok) (number n : ℕ) (place p : Place) → Stops scope last list number place → Stops scope other list n p
    → (number ≡ n) × (last ≡ other → place ≡ p)
one_stop scope last other list _ n _ p (too_many _ _ out t rest front full is) second =
    let there = arrived scope other list out t rest 0 n p front (held_full scope 0 t rest is refl) (omega arith) (seen scope other list n p second) in
    let same = same_full scope other out t rest n p is there in (same.0, λ _. same.1)
one_stop scope last other list _ n _ p (unclosed _ _ out t rest front room is) second =
    let there = arrived scope other list out t rest (scope.room - length out) n p front (held_unclosed scope _ t rest is) (omega arith) (seen scope other list n p second) in
    same_unclosed scope other out t rest last n p is there
one_stop scope last other list _ n _ p (miscounted _ _ out t rest front room is) second =
    let there = arrived scope other list out t rest (scope.room - length out) n p front (held_miscounted scope _ t rest is) (omega arith) (seen scope other list n p second) in
    let same = same_miscounted scope other out t rest n p is there in (same.0, λ _. same.1)
one_stop scope last other list _ n _ p (inside _ _ out t rest front room m args fulls after is small each arg at end number place stops) second =
    let refused = λ (full : List Tok) (gives : Gives scope arg full []) (fits : length full ≤ scope.room). exclusive scope end arg number place full stops gives fits in
    let there = arrived scope other list out t rest (scope.room - length out) n p front (held_inside scope _ t rest m args after (length fulls) arg is at refused) (omega arith) (seen scope other list n p second) in
    let same = same_inside scope other out t rest m args fulls after is small each arg at refused number n p (λ e k q more. (one_stop scope end e arg number k place q stops more).0) there in (same.0, λ _. same.1)
