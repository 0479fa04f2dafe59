-- The first operator without a value is one, and so is the place at which a line, or the front of one, is refused.
use Rattle.std.proofs.Common.{◌≡◌, ℕ, List, [], ◌∷◌, ◌++◌, length, Option, Some, None, Ok, Err, unwrap_or, refl, sym, ap, ◌∙◌, subst, append_assoc, append-nil, inl, inr}
use Rattle.std.specs.Option.{option_map}
use Rattle.sb_base.specs.declared.refusals.Place.{Place}
use Rattle.sb_base.specs.declared.refusals.Refusal.{Refusal}
use Rattle.sb_lex.specs.declared.piece.PpToken.{PpToken}
use Rattle.sb_parse.specs.Parser.{Outcome, done, stop}
use Rattle.sb_parse.specs.Read.{CanBegin, IsRefused}
use Rattle.sb_parse.proofs.Places.{one_place, none_is_refused}
use Rattle.sb_parse.proofs.Reading.{one_tree}
use Rattle.sb_cond.specs.declared.arithmetic.Operand.{Operand}
use Rattle.sb_cond.specs.declared.sign.ConditionToken.{ConditionToken}
use Rattle.sb_cond.specs.Arithmetic.{fault_of}
use Rattle.sb_cond.specs.Condition.{IsCondition, HasFault, whole, cut, IsRefusedAt, no_value, no_condition, LineRefused, place_in}
use Rattle.sb_cond.specs.Front.{IsRefusedIn, begins, goes_wrong, FrontRefused}
use Rattle.sb_cond.specs.Readers.{fault_in}
use Rattle.sb_cond.proofs.Answering.{one_list}
use Rattle.sb_cond.proofs.CutReading.{EndsWith, at_cut}
use Rattle.sb_cond.proofs.Fronts.{same_front}
use Rattle.sb_cond.proofs.Judging.{reader, reads}

-- that of what the reader gives
fault_told : Outcome ConditionToken Operand → Option ℕ
fault_told (done a rest) = fault_of a.value
fault_told (stop n left) = fault_in n

told : (xs : List ConditionToken) (f : Option ℕ) → HasFault xs f → fault_told (reader xs) ≡ f
unfolding fault_told
told _ _ (whole xs a is) = ap fault_told (ap reader (sym (append-nil xs)) ∙ reads.complete xs a [] is refl)
told _ _ (cut xs f c) = by_end (at_cut c)
  where
    by_end : EndsWith (reader xs) f → fault_told (reader xs) ≡ f
    by_end (inl s) = ap fault_told s.is ∙ s.fault
    by_end (inr r) = ap fault_told r.is ∙ r.fault

pub one_fault : (xs : List ConditionToken) (f g : Option ℕ) → HasFault xs f → HasFault xs g → f ≡ g
one_fault xs f g a b = sym (told xs f a) ∙ told xs g b

-- ---- lines

one_position : (ts : List ConditionToken) (at other : ℕ) → IsRefusedAt ts at → IsRefusedAt ts other → at ≡ other
one_position ts at other (no_value a _ is valued) (no_value b _ are valued2) =
    let same : Err at ≡ Err other = sym valued ∙ ap (λ (o : Operand). o.value) (one_tree reads ts a b is are) ∙ valued2 in
    cc same
one_position ts at _ (no_value a _ is valued) (no_condition front bad fault split refused has) = absurd (none_is_refused IsCondition ts (length bad) a refused is)
one_position ts _ other (no_condition front bad fault split refused has) (no_value a _ is valued) = absurd (none_is_refused IsCondition ts (length bad) a refused is)
one_position ts _ _ (no_condition front bad fault split refused has) (no_condition back other fault2 split2 refused2 has2) =
    let same = same_front front back bad other (sym split ∙ split2) (one_place IsCondition ts (length bad) (length other) refused refused2) in
    let faults = one_fault back fault fault2 (subst (λ l. HasFault l fault) same.0 has) has2 in
    ap (λ f. unwrap_or f (length front)) faults ∙ ap (λ l. unwrap_or fault2 (length l)) same.0

pub one_line_refusal : (texts : List (List ℕ)) (line : List PpToken) (end : Place) (r q : Refusal) → LineRefused texts line end r → LineRefused texts line end q → r ≡ q
one_line_refusal texts line end r q a b =
    let tokens = one_list texts line a.tokens b.tokens a.are b.are in
    let same = one_position b.tokens a.at b.at (subst (λ l. IsRefusedAt l a.at) tokens a.refused) b.refused in
    a.is ∙ ap (λ (k : ℕ). let z : Refusal = record { number = 26; place = place_in line end k; feature = 0 } in z) same ∙ sym b.is

-- ---- fronts

cannot_go_on : (ts front rest : List ConditionToken) (bad : ConditionToken) → ts ≡ front ++ (bad ∷ rest) → (CanBegin IsCondition (front ++ (bad ∷ [])) → ⊥) → CanBegin IsCondition ts → ⊥
cannot_go_on ts front rest bad split halts c =
    let whole_text = append_assoc (front ++ (bad ∷ [])) rest c.rest in
    halts record {
      rest = rest ++ c.rest;
      tree = c.tree;
      is = subst (λ l. IsCondition l c.tree) (ap (λ l. l ++ c.rest) (split ∙ sym (append_assoc front (bad ∷ []) rest)) ∙ whole_text) c.is;
    }

goes_refused : (ts front rest : List ConditionToken) (bad : ConditionToken) → ts ≡ front ++ (bad ∷ rest) → CanBegin IsCondition front → (CanBegin IsCondition (front ++ (bad ∷ [])) → ⊥)
    → IsRefused IsCondition ts (length (bad ∷ rest))
goes_refused ts front rest bad split good halts =
    record {
      front = front;
      bad = bad ∷ rest;
      split = split;
      left_is = refl;
      good = good;
      first = λ (t : ConditionToken) (tail : List ConditionToken) (is : bad ∷ rest ≡ t ∷ tail) (c : CanBegin IsCondition (front ++ (t ∷ []))).
          let same : t ≡ bad = cc is in halts (subst (λ x. CanBegin IsCondition (front ++ (x ∷ []))) same c);
      short = λ (a : Operand) (none : bad ∷ rest ≡ []) (is : IsCondition front a). absurd (cc none);
    }

one_place_in : (ts : List ConditionToken) (a b : Option ℕ) → IsRefusedIn ts a → IsRefusedIn ts b → a ≡ b
one_place_in ts a b (begins _ good has) (begins _ good2 has2) = one_fault ts a b has has2
one_place_in ts a _ (begins _ good has) (goes_wrong front rest bad fault split good2 halts has2) = absurd (cannot_go_on ts front rest bad split halts good)
one_place_in ts _ b (goes_wrong front rest bad fault split good2 halts has2) (begins _ good has) = absurd (cannot_go_on ts front rest bad split halts good)
one_place_in ts _ _ (goes_wrong front rest bad fault split good halts has) (goes_wrong back more other fault2 split2 good2 halts2 has2) =
    let counts = one_place IsCondition ts (length (bad ∷ rest)) (length (other ∷ more)) (goes_refused ts front rest bad split good halts) (goes_refused ts back more other split2 good2 halts2) in
    let same = same_front front back (bad ∷ rest) (other ∷ more) (sym split ∙ split2) counts in
    let faults = one_fault back fault fault2 (subst (λ l. HasFault l fault) same.0 has) has2 in
    ap (λ f. Some (unwrap_or f (length front))) faults ∙ ap (λ l. Some (unwrap_or fault2 (length l))) same.0

pub one_front : (texts : List (List ℕ)) (line : List PpToken) (end : Place) (p q : Option Place) → FrontRefused texts line end p → FrontRefused texts line end q → p ≡ q
one_front texts line end p q a b =
    let tokens = one_list texts line a.tokens b.tokens a.are b.are in
    let same = one_place_in b.tokens a.at b.at (subst (λ l. IsRefusedIn l a.at) tokens a.refused) b.refused in
    a.is ∙ ap (option_map (place_in line end)) same ∙ sym b.is
