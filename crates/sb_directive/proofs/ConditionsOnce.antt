-- A condition has one answer.
use Rattle.std.proofs.Common.{◌≡◌, ◌∙◌, ℕ, List, Bool, false, Option, Some, None, ap, refl, sym}
use Rattle.sb_base.specs.Names.{IsDistinct}
use Rattle.sb_base.specs.declared.refusals.Place.{Place}
use Rattle.sb_base.specs.declared.refusals.Refusal.{Refusal}
use Rattle.sb_lex.specs.declared.piece.PpToken.{PpToken}
use Rattle.sb_macro.specs.declared.ending.End.{End}
use Rattle.sb_macro.specs.declared.ending.End.TheVariants as end
use Rattle.sb_cond.specs.Front.{FrontRefused}
use Rattle.sb_cond.proofs.Answering.{one_answer, never_refused}
use Rattle.sb_cond.proofs.Faults.{one_line_refusal, one_front}
use Rattle.sb_directive.specs.Conditions.{HasTruth, HasNoTruth, HasOneAnswer, StopsBehind, is_refused, sooner}
use Rattle.sb_directive.specs.Defined.{Prepared}
use Rattle.sb_directive.specs.Ending.{Ending, Ended, Refused}
use Rattle.sb_directive.specs.Judging.{refusal_of}
use Rattle.sb_directive.specs.Limits.{most_tokens}
use Rattle.sb_directive.specs.Lines.{end_of}
use Rattle.sb_directive.specs.Rules.{Table, IsExpansion, HasEnded}
use Rattle.sb_directive.proofs.OnePreparation.{one_preparation}
use Rattle.sb_directive.proofs.RulesOnce as once
use Rattle.sb_directive.proofs.RulesOnce.{one_expansion}

module _ (limit : ℕ) (texts : List (List ℕ)) (table : Table) (at : Place) (line : List PpToken) (distinct : IsDistinct texts) where
  once_made : (out more : List PpToken) (later other : List (List ℕ)) (end stop : Ending) → Prepared limit table texts line out later end → Prepared limit table texts line more other stop
      → (out ≡ more) × (later ≡ other) × (end ≡ stop)
  once_made = one_preparation limit table texts line distinct

  -- the line up to macros
  record Becomes (out : List PpToken) (later : List (List ℕ)) : Type 0 where
    prepared : List PpToken
    made : Prepared limit table texts line prepared later Ended
    expansion : IsExpansion later table most_tokens prepared out

  one_list : (out other : List PpToken) (later more : List (List ℕ)) → Becomes out later → Becomes other more → (out ≡ other) × (later ≡ more)
  one_list out other later more a b =
      let p = once_made a.prepared b.prepared later more Ended Ended a.made b.made in
      let there = rw (p.0, p.1) at a.expansion in
      (one_expansion more table most_tokens b.prepared out other there b.expansion, p.1)

  -- what a line is before its condition is judged as a whole
  record Seen (given : List PpToken) (how : Option (ℕ × Place)) (later : List (List ℕ)) : Type 0 where
    pieces : List PpToken
    ending : Ending
    end : End
    made : Prepared limit table texts line pieces later ending
    ended : HasEnded later table most_tokens pieces given end
    is : refusal_of ending end (end_of at pieces) ≡ how

  seen : (given : List PpToken) (number : ℕ) (place : Place) (later : List (List ℕ)) → StopsBehind limit texts table at line given number place later → Seen given (Some (number, place)) later
  seen given _ _ later (StopsBehind.in_macros pieces _ ending number place _ made ended) =
      record { pieces = pieces; ending = ending; end = end.Refused number place; made = made; ended = ended; is = refl }
  seen given _ _ later (StopsBehind.in_call pieces _ _ made ended) = record { pieces = pieces; ending = Ended; end = end.Open; made = made; ended = ended; is = refl }
  seen given _ _ later (StopsBehind.at_operator pieces _ how number place _ made ended open1) =
      record { pieces = pieces; ending = Refused number place; end = how; made = made; ended = ended; is = at_end how open1 }
    where
      at_end : (how : End) → is_refused how ≡ false → refusal_of (Refused number place) how (end_of at pieces) ≡ Some (number, place)
      at_end end.Whole open1 = refl
      at_end end.Open open1 = refl
      at_end (end.Refused n p) open1 = absurd (cc open1)

  whole_seen : (out : List PpToken) (later : List (List ℕ)) → Becomes out later → Seen out None later
  whole_seen out later a = record {
    pieces = a.prepared;
    ending = Ended;
    end = end.Whole;
    made = a.made;
    ended = once.expansion_ends later table most_tokens a.prepared out a.expansion;
    is = refl;
  }

  same_seen : (given back : List PpToken) (how also : Option (ℕ × Place)) (later other : List (List ℕ)) → Seen given how later → Seen back also other → (given ≡ back) × (how ≡ also) × (later ≡ other)
  same_seen given back how also later other a b =
      let p = once_made a.pieces b.pieces later other a.ending b.ending a.made b.made in
      let ended : HasEnded other table most_tokens b.pieces given a.end = rw (p.0, p.1) at a.ended in
      let e = once.one_end other table most_tokens b.pieces given back a.end b.end ended b.ended in
      let same : refusal_of a.ending a.end (end_of at a.pieces) ≡ refusal_of b.ending b.end (end_of at b.pieces) =
      ap (λ x. refusal_of x a.end (end_of at a.pieces)) p.2 ∙ ap (λ x. refusal_of b.ending x (end_of at a.pieces)) e.1 ∙ ap (λ l. refusal_of b.ending b.end (end_of at l)) p.0 in
      (e.0, sym a.is ∙ same ∙ b.is, p.1)

  no_halt : (out given : List PpToken) (later other : List (List ℕ)) (number : ℕ) (place : Place) → Becomes out later → StopsBehind limit texts table at line given number place other → ⊥
  no_halt out given later other number place a stops =
      let same = same_seen out given None (Some (number, place)) later other (whole_seen out later a) (seen given number place other stops) in
      let none : None ≡ Some (number, place) = same.1 in
      cc none

  pub one_truth : (a b : Bool) (later other : List (List ℕ)) → HasTruth limit texts table at line a later → HasTruth limit texts table at line b other → (a ≡ b) × (later ≡ other)
  one_truth a b later other (HasTruth.holds prepared out _ _ made expansion holds) (HasTruth.holds prepared2 out2 _ _ made2 expansion2 holds2) =
      let l = one_list out out2 later other (record { prepared = prepared; made = made; expansion = expansion }) (record { prepared = prepared2; made = made2; expansion = expansion2 }) in
      (one_answer other out2 a b (rw (l.0, l.1) at holds) holds2, l.1)

  pub never_both : (a : Bool) (later : List (List ℕ)) (number : ℕ) (place : Place) → HasTruth limit texts table at line a later → HasNoTruth limit texts table at line number place → ⊥
  never_both a later number place (HasTruth.holds prepared out _ _ made expansion holds) (HasNoTruth.stopped given m _ there _ first other stops refused is) =
      no_halt out given later other m there (record { prepared = prepared; made = made; expansion = expansion }) stops
  never_both a later number place (HasTruth.holds prepared out _ _ made expansion holds) (HasNoTruth.no_condition prepared2 out2 _ _ other made2 expansion2 refused) =
      let l = one_list out out2 later other (record { prepared = prepared; made = made; expansion = expansion }) (record { prepared = prepared2; made = made2; expansion = expansion2 }) in
      never_refused other out2 (end_of at line) a (record { number = number; place = place; feature = 0 }) (rw (l.0, l.1) at holds) refused

  one_stop : (given back : List PpToken) (number n : ℕ) (place p : Place) (first second : Option Place) (later other : List (List ℕ)) → StopsBehind limit texts table at line given number place later
      → StopsBehind limit texts table at line back n p other → FrontRefused later given place first → FrontRefused other back p second → sooner number place first ≡ sooner n p second
  one_stop given back number n place p first second later other stops also refused again =
      let same = same_seen given back (Some (number, place)) (Some (n, p)) later other (seen given number place later stops) (seen back n p other also) in
      let both : ◌≡◌ {A = ℕ × Place} (number, place) (n, p) = cc same.1 in
      let numbers : number ≡ n = ap (λ (x : ℕ × Place). x.0) both in
      let places : place ≡ p = ap (λ (x : ℕ × Place). x.1) both in
      let moved : FrontRefused other back p first = rw (same.0, same.2, places) at refused in
      let firsts = one_front other back p first second moved again in
      ap (λ k. sooner k place first) numbers ∙ ap (λ q. sooner n q first) places ∙ ap (sooner n p) firsts

  pub one_refusal : (number n : ℕ) (place p : Place) → HasNoTruth limit texts table at line number place → HasNoTruth limit texts table at line n p → (number ≡ n) × (place ≡ p)
  one_refusal number n place p (HasNoTruth.stopped given m _ there _ first later stops refused is) (HasNoTruth.stopped back k _ here _ second other also again is_too) =
      let same : ◌≡◌ {A = ℕ × Place} (number, place) (n, p) = sym is ∙ one_stop given back m k there here first second later other stops also refused again ∙ is_too in
      (ap (λ (x : ℕ × Place). x.0) same, ap (λ (x : ℕ × Place). x.1) same)
  one_refusal number n place p (HasNoTruth.stopped given m _ there _ first later stops refused is) (HasNoTruth.no_condition prepared out _ _ other made expansion bad) =
      absurd (no_halt out given other later m there (record { prepared = prepared; made = made; expansion = expansion }) stops)
  one_refusal number n place p (HasNoTruth.no_condition prepared out _ _ later made expansion bad) (HasNoTruth.stopped back m _ there _ first other stops refused is) =
      absurd (no_halt out back later other m there (record { prepared = prepared; made = made; expansion = expansion }) stops)
  one_refusal number n place p (HasNoTruth.no_condition prepared out _ _ later made expansion bad) (HasNoTruth.no_condition prepared2 out2 _ _ later2 made2 expansion2 bad2) =
      let l = one_list out out2 later later2 (record { prepared = prepared; made = made; expansion = expansion }) (record { prepared = prepared2; made = made2; expansion = expansion2 }) in
      let one = one_line_refusal later2 out2 (end_of at line) (record { number = number; place = place; feature = 0 }) (record { number = n; place = p; feature = 0 }) (rw (l.0, l.1) at bad) bad2 in
      (ap (λ (r : Refusal). r.number) one, ap (λ (r : Refusal). r.place) one)

-- where no text has two numbers, a condition has one answer
pub one_condition : (limit : ℕ) (texts : List (List ℕ)) (table : Table) (at : Place) (line : List PpToken) → IsDistinct texts → HasOneAnswer limit texts table at line
one_condition limit texts table at line distinct =
    record { truth = one_truth limit texts table at line distinct; never = never_both limit texts table at line distinct; refusal = one_refusal limit texts table at line distinct }
