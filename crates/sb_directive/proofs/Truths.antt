-- Where a condition is refused.
use Rattle.std.proofs.Common.{◌≡◌, ◌∙◌, ◌⊎◌, ◌<◌, ◌∷◌, ◌-◌, inl, inr, [], ℕ, suc, List, Bool, true, false, Result, Ok, Err, MatchResult, IfOk, IfErr, if◌then◌else◌, Option, Some, None, arith, ap, sym, subst, refl, length, get_or}
use Rattle.std.specs.List.{All}
use Rattle.std.specs.Option.{option_map}
use Rattle.std.proofs.lemmas.Option.{slice_get_cases}
use Rattle.std.proofs.lemmas.List.Elements.{All-nil, All-cons, All-weaker, All-contains}
use Rattle.sb_base.specs.declared.interning.Name.{Name}
use Rattle.sb_base.specs.declared.refusals.Place.{Place}
use Rattle.sb_base.specs.declared.refusals.Refusal.{Refusal}
use Rattle.sb_base.specs.declared.refusals.Stop.{Stop}
use Rattle.sb_base.specs.declared.refusals.Stop.TheVariants as stop
use Rattle.sb_lex.specs.declared.piece.PpToken.{PpToken}
use Rattle.sb_macro.specs.declared.ending.End.{End}
use Rattle.sb_macro.specs.declared.ending.End.TheVariants as end
use Rattle.sb_macro.specs.Endings.{EndsAmong}
use Rattle.sb_cond.specs.Condition.{LineHolds, LineRefused, IsLineFault, place_in}
use Rattle.sb_cond.specs.Front.{FrontRefused}
use Rattle.sb_directive.specs.Conditions.{HasTruth, HasNoTruth, StopsBehind, comes_first, sooner}
use Rattle.sb_directive.specs.Judging.{IsFirstRefusal, ending_of, refusal_of}
use Rattle.sb_directive.specs.Preparing.{IsPreparation}
use Rattle.sb_directive.specs.Defined.{HasName, HasNoName, Prepared, replaced_by}
use Rattle.sb_directive.specs.Ending.{Ending, Ended, Refused}
use Rattle.sb_directive.specs.Limits.{most_tokens}
use Rattle.sb_directive.specs.Lines.{end_of}
use Rattle.sb_directive.specs.Rules.{Table, IsExpansion, HasEnded}
use Rattle.sb_directive.specs.Stopping.{IsStop, IsAmong}
use Rattle.sb_directive.proofs.RulesOnce.{whole_expands}

-- ---- places of pieces

here : (t : PpToken) (ts : List PpToken) → IsAmong (t ∷ ts) t.place
here t ts = record { piece = t; contained = (0, omega arith, refl); here = refl }

behind : (t : PpToken) (ts : List PpToken) (place : Place) → IsAmong ts place → IsAmong (t ∷ ts) place
behind t ts place among =
    let at = among.contained in
    record { piece = among.piece; contained = (suc at.0, omega arith, at.2); here = among.here }

at_index : (ts : List PpToken) (k : ℕ) (t : PpToken) → k < length ts → get_or ts k t ≡ t → IsAmong ts t.place
at_index ts k t within is = record { piece = t; contained = (k, within, is); here = refl }

pub place_at : (ts : List PpToken) (end : Place) (k : ℕ) → (place_in ts end k ≡ end) ⊎ IsAmong ts (place_in ts end k)
place_at ts end k = elim (slice_get_cases ts k).1 [ inl found ↦ inr (rw found.2 (at_index ts k found.0 found.1 found.3)) | inr none ↦ inl (rw none.1 refl) ]

pub end_at : (at : Place) (ts : List PpToken) → (end_of at ts ≡ at) ⊎ IsAmong ts (end_of at ts)
end_at at ts =
    let k = length ts - 1 in
    elim (slice_get_cases ts k).1 [ inl found ↦ inr (rw found.2 (at_index ts k found.0 found.1 found.3)) | inr none ↦ inl (rw none.1 refl) ]

pub among_within : (line prepared : List PpToken) (place : Place) → All (λ t. IsAmong line t.place) prepared → IsAmong prepared place → IsAmong line place
among_within line prepared place each among = subst (IsAmong line) among.here (All-contains (λ t. IsAmong line t.place) prepared among.piece each among.contained)

pub all_within : (line prepared out : List PpToken) → All (λ t. IsAmong line t.place) prepared → All (λ t. IsAmong prepared t.place) out → All (λ t. IsAmong line t.place) out
all_within line prepared out each all = All-weaker (λ t. IsAmong prepared t.place) (λ t. IsAmong line t.place) (λ t among. among_within line prepared t.place each among) out all

-- ---- places of a prepared line

module _ (texts : List (List ℕ)) where
  behind_name : {ts rest : List PpToken} {name : Name} (place : Place) → HasName texts ts name rest → IsAmong rest place → IsAmong ts place
  behind_name place (HasName.bare name rest word) among = behind name rest place among
  behind_name place (HasName.wrapped open1 name close rest opens word end) among = behind open1 (name ∷ close ∷ rest) place (behind name (close ∷ rest) place (behind close rest place among))

  nameless_among : (t : PpToken) {ts : List PpToken} {place : Place} → HasNoName texts t.place ts place → IsAmong (t ∷ ts) place
  nameless_among t HasNoName.ends = here t []
  nameless_among t (HasNoName.no_name u ts word opens) = behind t (u ∷ ts) u.place (here u ts)
  nameless_among t (HasNoName.ends_inside open1 opens) = behind t (open1 ∷ []) open1.place (here open1 [])
  nameless_among t (HasNoName.no_name_inside open1 u ts opens word) = behind t (open1 ∷ u ∷ ts) u.place (behind open1 (u ∷ ts) u.place (here u ts))
  nameless_among t (HasNoName.ends_behind open1 name opens word) = behind t (open1 ∷ name ∷ []) name.place (behind open1 (name ∷ []) name.place (here name []))
  nameless_among t (HasNoName.no_close open1 name u ts opens word end) =
      behind t (open1 ∷ name ∷ u ∷ ts) u.place (behind open1 (name ∷ u ∷ ts) u.place (behind name (u ∷ ts) u.place (here u ts)))

module _ (limit : ℕ) (table : Table) where
  pub refused_among : {texts later : List (List ℕ)} {line out : List PpToken} {number : ℕ} {place : Place} → Prepared limit table texts line out later (Refused number place) → IsAmong line place
  refused_among {place = place} (Prepared.other texts later t ts out end plain rest) = behind t ts place (refused_among rest)
  refused_among {place = place} (Prepared.replaced texts later t ts rest out end name number digit is has digit_is some at more) =
      behind t ts place (behind_name texts place has (refused_among more))
  refused_among (Prepared.no_name texts t ts place is has) = nameless_among texts t has
  refused_among (Prepared.no_room texts t ts rest name is has lacks) = here t ts

  pub prepared_among : {texts later : List (List ℕ)} {line out : List PpToken} {end : Ending} → Prepared limit table texts line out later end → All (λ t. IsAmong line t.place) out
  prepared_among (Prepared.ended texts) = All-nil (λ t. IsAmong [] t.place)
  prepared_among (Prepared.other texts later t ts out end plain rest) =
      All-cons (λ u. IsAmong (t ∷ ts) u.place) t out (here t ts) (All-weaker (λ u. IsAmong ts u.place) (λ u. IsAmong (t ∷ ts) u.place) (λ u among. behind t ts u.place among) out (prepared_among rest))
  prepared_among (Prepared.replaced texts later t ts rest out end name number digit is has digit_is some at more) =
      All-cons (λ u. IsAmong (t ∷ ts) u.place) (replaced_by t number) out (here t ts)
      (All-weaker (λ u. IsAmong rest u.place) (λ u. IsAmong (t ∷ ts) u.place) (λ u among. behind t ts u.place (behind_name texts u.place has among)) out (prepared_among more))
  prepared_among (Prepared.no_name texts t ts place is has) = All-nil (λ u. IsAmong (t ∷ ts) u.place)
  prepared_among (Prepared.no_room texts t ts rest name is has lacks) = All-nil (λ u. IsAmong (t ∷ ts) u.place)

-- ---- conditions

-- the 26 of a front stands among its pieces, or at its end
front_among : (texts : List (List ℕ)) (given : List PpToken) (end place : Place) → FrontRefused texts given end (Some place) → (place ≡ end) ⊎ IsAmong given place
front_among texts given end place found = by_position found.at found.is
  where
    by_position : (at : Option ℕ) → Some place ≡ option_map (place_in given end) at → (place ≡ end) ⊎ IsAmong given place
    by_position None is = absurd (cc is)
    by_position (Some k) is =
        let same : place ≡ place_in given end k = cc is in
        elim (place_at given end k) [ inl ends ↦ inl (same ∙ ends) | inr among ↦ inr (rw same among) ]

-- so the sooner of it and of a refusal at its end does
sooner_among : (texts : List (List ℕ)) (given : List PpToken) (number : ℕ) (place : Place) (first : Option Place) → FrontRefused texts given place first
    → ((sooner number place first).1 ≡ place) ⊎ IsAmong given (sooner number place first).1
sooner_among texts given number place None found = inl refl
sooner_among texts given number place (Some first) found = by_order (comes_first first number place)
  where
    by_order : (before : Bool) → ((if◌then◌else◌ {A = ℕ × Place} before (26, first) (number, place)).1 ≡ place) ⊎ IsAmong given (if◌then◌else◌ {A = ℕ × Place} before (26, first) (number, place)).1
    by_order true = front_among texts given place first found
    by_order false = inl refl

pub first_is : (texts : List (List ℕ)) (given : List PpToken) (number n : ℕ) (place p : Place) (first : Option Place) (why : Stop) → FrontRefused texts given place first
    → ◌≡◌ {A = ℕ × Place} (sooner number place first) (n, p) → why ≡ stop.Refused (record { number = n; place = p; feature = 0 }) → IsFirstRefusal texts given number place why
first_is texts given number n place p first why found so is = subst (IsFirstRefusal texts given number place) (sym is) (first, found, so, refl)

module _ (limit : ℕ) (texts : List (List ℕ)) (table : Table) (at : Place) (line : List PpToken) where
  -- where a condition is refused
  abbrev pub IsUntrue : Stop → Type 0
  IsUntrue = IsStop (λ number place. HasNoTruth limit texts table at line number place × ((place ≡ at) ⊎ IsAmong line place))

  -- a place of a line, or of its word
  abbrev IsHere : Place → Type 0
  IsHere place = (place ≡ at) ⊎ IsAmong line place

  stops : (given : List PpToken) (later : List (List ℕ)) (number : ℕ) (place : Place) (why : Stop) → StopsBehind limit texts table at line given number place later
      → IsHere place → All (λ t. IsAmong line t.place) given → IsFirstRefusal later given number place why → IsUntrue why
  stops given later number place stop.Memory behind among all first = tt
  stops given later number place (stop.Refused r) behind among all found =
      let there : (sooner number place found.0).1 ≡ r.place = ap (λ (x : ℕ × Place). x.1) found.2 in
      let here : IsHere (sooner number place found.0).1 = elim (sooner_among later given number place found.0 found.1) [
        | inl same ↦ subst IsHere (sym same) among
        | inr inside ↦ inr (among_within line given (sooner number place found.0).1 all inside)
      ] in
      ((HasNoTruth.stopped given number r.number place r.place found.0 later behind found.1 found.2, subst IsHere there here), found.3)

  preparation_among : (pieces : List PpToken) (later : List (List ℕ)) (refusal : Option Refusal) → IsPreparation limit table texts line pieces later refusal → All (λ t. IsAmong line t.place) pieces
  preparation_among pieces later None made = prepared_among limit table made
  preparation_among pieces later (Some r) made = prepared_among limit table made.0

  end_here : (pieces : List PpToken) → All (λ t. IsAmong line t.place) pieces → IsHere (end_of at pieces)
  end_here pieces each = elim (end_at at pieces) [ inl same ↦ inl same | inr among ↦ inr (among_within line pieces (end_of at pieces) each among) ]

  -- a line is refused so, behind these pieces
  abbrev IsStopped : List PpToken → List (List ℕ) → ℕ × Place → Type 0
  IsStopped given later x = StopsBehind limit texts table at line given x.0 x.1 later × IsHere x.1

  same_stop : (given : List PpToken) (later : List (List ℕ)) (x y : ℕ × Place) → ◌≡◌ {A = Option (ℕ × Place)} (Some x) (Some y) → IsStopped given later x → IsStopped given later y
  same_stop given later x y is stops = let same : x ≡ y = cc is in subst (IsStopped given later) same stops

  stopped_by : (pieces given : List PpToken) (later : List (List ℕ)) (refusal : Option Refusal) (how : End) (x : ℕ × Place) → IsPreparation limit table texts line pieces later refusal
      → HasEnded later table most_tokens pieces given how → EndsAmong pieces how → refusal_of (ending_of refusal) how (end_of at pieces) ≡ Some x → IsStopped given later x
  stopped_by pieces given later None (end.Refused n p) x made ended among is =
      same_stop given later (n, p) x is (StopsBehind.in_macros pieces given Ended n p later made ended, inr (among_within line pieces p (prepared_among limit table made) among))
  stopped_by pieces given later (Some r) (end.Refused n p) x made ended among is =
      same_stop given later (n, p) x is
      (StopsBehind.in_macros pieces given (Refused r.number r.place) n p later made.0 ended, inr (among_within line pieces p (prepared_among limit table made.0) among))
  stopped_by pieces given later None end.Open x made ended among is =
      same_stop given later (14, end_of at pieces) x is (StopsBehind.in_call pieces given later made ended, end_here pieces (prepared_among limit table made))
  stopped_by pieces given later (Some r) end.Open x made ended among is =
      same_stop given later (r.number, r.place) x is (StopsBehind.at_operator pieces given end.Open r.number r.place later made.0 ended refl, inr (refused_among limit table made.0))
  stopped_by pieces given later None end.Whole x made ended among is = absurd (cc is)
  stopped_by pieces given later (Some r) end.Whole x made ended among is =
      same_stop given later (r.number, r.place) x is (StopsBehind.at_operator pieces given end.Whole r.number r.place later made.0 ended refl, inr (refused_among limit table made.0))

  pub refused : (pieces given : List PpToken) (later : List (List ℕ)) (refusal : Option Refusal) (how : End) (x : ℕ × Place) (why : Stop)
      → IsPreparation limit table texts line pieces later refusal → HasEnded later table most_tokens pieces given how → All (λ t. IsAmong pieces t.place) given × EndsAmong pieces how
      → refusal_of (ending_of refusal) how (end_of at pieces) ≡ Some x → IsFirstRefusal later given x.0 x.1 why → IsUntrue why
  refused pieces given later refusal how x why made ended among is first =
      let each = preparation_among pieces later refusal made in
      let stop = stopped_by pieces given later refusal how x made ended among.1 is in
      stops given later x.0 x.1 why stop.0 stop.1 (all_within line pieces given each among.0) first

  judged_among : (out : List PpToken) (k : ℕ) (place : Place) → All (λ t. IsAmong line t.place) out → place ≡ place_in out (end_of at line) k → (place ≡ at) ⊎ IsAmong line place
  judged_among out k place all is =
      elim (place_at out (end_of at line) k) [
        | inl ends ↦ elim (end_at at line) [ inl empty ↦ inl (is ∙ ends ∙ empty) | inr last ↦ inr (rw (is, ends) last) ]
        | inr among ↦ inr (rw is (among_within line out (place_in out (end_of at line) k) all among))
      ]

  pub judged : (prepared out : List PpToken) (later : List (List ℕ)) (result : Result Bool Stop) → Prepared limit table texts line prepared later Ended → IsExpansion later table most_tokens prepared out
      → All (λ t. IsAmong prepared t.place) out → IfOk result (LineHolds later out) → IfErr result (IsLineFault later out (end_of at line))
      → MatchResult result (λ truth. HasTruth limit texts table at line truth later) IsUntrue
  judged prepared out later (Ok truth) made expansion all good bad = HasTruth.holds prepared out truth later made expansion good
  judged prepared out later (Err stop.Memory) made expansion all good bad = tt
  judged prepared out later (Err (stop.Refused r)) made expansion all good bad =
      let featureless = ap (λ (x : Refusal). x.feature) bad.is in
      let same : r ≡ record { number = r.number; place = r.place; feature = 0 } = ap (λ (f : ℕ). let x : Refusal = record { number = r.number; place = r.place; feature = f } in x) featureless in (
        (
          HasNoTruth.no_condition prepared out r.number r.place later made expansion (subst (λ (x : Refusal). LineRefused later out (end_of at line) x) same bad),
          judged_among out bad.at r.place (all_within line prepared out (prepared_among limit table made) all) (ap (λ (x : Refusal). x.place) bad.is),
        ),
        featureless,
      )

  -- nothing refuses it before
  pub judged_whole : (pieces given : List PpToken) (later : List (List ℕ)) (refusal : Option Refusal) (how : End) (result : Result Bool Stop)
      → IsPreparation limit table texts line pieces later refusal → HasEnded later table most_tokens pieces given how → All (λ t. IsAmong pieces t.place) given × EndsAmong pieces how
      → refusal_of (ending_of refusal) how (end_of at pieces) ≡ None → IfOk result (LineHolds later given) → IfErr result (IsLineFault later given (end_of at line))
      → MatchResult result (λ truth. HasTruth limit texts table at line truth later) IsUntrue
  judged_whole pieces given later None end.Whole result made ended among is good bad =
      judged pieces given later result made (whole_expands later table most_tokens pieces given end.Whole ended refl) among.0 good bad
  judged_whole pieces given later refusal (end.Refused n p) result made ended among is good bad = absurd (cc is)
  judged_whole pieces given later None end.Open result made ended among is good bad = absurd (cc is)
  judged_whole pieces given later (Some r) end.Open result made ended among is good bad = absurd (cc is)
  judged_whole pieces given later (Some r) end.Whole result made ended among is good bad = absurd (cc is)
