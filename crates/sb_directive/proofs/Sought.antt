-- the header that the pieces behind `include` name, and where they are refused
use Rattle.std.proofs.Common.{◌≡◌, ℕ, ◌<◌, inl, inr, Bool, true, false, List, [], ◌∷◌, length, get_or, Option, Some, None, Result, Ok, Err, refl, sym, subst, arith, nat_eq, if◌then◌else◌}
use Rattle.std.specs.Prelude.{codes}
use Rattle.std.specs.List.{All, AllByRecursion}
use Rattle.std.proofs.lemmas.List.Elements.{recursion_from_All}
use Rattle.sb_base.specs.declared.refusals.Place.{Place}
use Rattle.sb_base.specs.declared.refusals.Stop.{Stop}
use Rattle.sb_base.specs.declared.refusals.Stop.TheVariants as stop
use Rattle.sb_base.specs.declared.tokens.PpKind.{PpKind}
use Rattle.sb_base.specs.declared.tokens.PpKind.TheVariants as kind
use Rattle.sb_lex.specs.declared.piece.PpToken.{PpToken}
use Rattle.sb_macro.specs.declared.ending.End.{End}
use Rattle.sb_macro.specs.declared.ending.End.TheVariants as end
use Rattle.sb_macro.specs.Endings.{EndsAmong}
use Rattle.sb_directive.specs.declared.seeking.SoughtHeader.{SoughtHeader}
use Rattle.sb_directive.specs.Headers.{Header, Angle, Quote, Beginning, Names, Bad, Ends, named, inside, header_spelled, before_text, with_space, up_to_angle, angle_of, beginning_by, beginning, is_header}
use Rattle.sb_directive.specs.Limits.{most_tokens}
use Rattle.sb_directive.specs.Lines.{end_of, spelling, is_spelled}
use Rattle.sb_directive.specs.Rules.{Table, HasEnded}
use Rattle.sb_directive.specs.Seeking.{Sought, Named, Unnamed, bad_of, is_at, sought_in, sought_before, sought_open, sought_by, Seeks, IsSeekResult, HasSought}
use Rattle.sb_directive.specs.Sources.{header_seen}
use Rattle.sb_directive.specs.Stopping.{IsStop, IsAmong}
use Rattle.sb_macro.proofs.GivenPlaces.{pieces_among}
use Rattle.sb_directive.proofs.Truths.{end_at}

module _ (P : Place → Type 0) where
  -- what is seen stands at such a place
  abbrev At : Beginning → Type 0
  At (Names header place) = P place
  At (Bad place) = P place
  At Ends = Unit {0}

  abbrev Stands : Sought → Type 0
  Stands (Named header place) = P place
  Stands (Unnamed number place) = P place

  at_named : (header : List ℕ → Header) (at closing : Place) (name : List ℕ) → P at → P closing → At (named header at closing name)
  at_named header at closing [] here there = there
  at_named header at closing (b ∷ bs) here there = here

  at_spelled : (at : Place) (text : List ℕ) → P at → At (header_spelled at text)
  at_spelled at [] here = here
  at_spelled at (b ∷ bs) here = by (nat_eq b 60)
    where
      by : (angle : Bool) → At (if angle then named Angle at at (inside (b ∷ bs)) else named Quote at at (inside (b ∷ bs)))
      by true = at_named Angle at at (inside (b ∷ bs)) here here
      by false = at_named Quote at at (inside (b ∷ bs)) here here

  abbrev Closes : Option (List ℕ × Place) → Type 0
  Closes None = Unit {0}
  Closes (Some found) = P found.1

  closes_before : (text : List ℕ) (found : Option (List ℕ × Place)) → Closes found → Closes (before_text text found)
  closes_before text None closes = tt
  closes_before text (Some found) closes = closes

  closes_at : (here : Bool) (space text : List ℕ) (place : Place) (found : Option (List ℕ × Place)) → P place → Closes found → Closes (if here then Some (space, place) else before_text text found)
  closes_at true space text place found at closes = at
  closes_at false space text place found at closes = closes_before text found closes

  closes_up : (texts : List (List ℕ)) (ts : List PpToken) → AllByRecursion (λ t. P t.place) ts → Closes (up_to_angle texts ts)
  closes_up texts [] ats = tt
  closes_up texts (t ∷ ts) ats =
      closes_at (is_spelled (codes ">") texts t) (with_space t.spaced []) (with_space t.spaced (spelling texts t)) t.place (up_to_angle texts ts) ats.0 (closes_up texts ts ats.1)

  at_angle : (at : Place) (found : Option (List ℕ × Place)) → P at → Closes found → At (angle_of at found)
  at_angle at None here closes = tt
  at_angle at (Some found) here closes = at_named Angle at found.1 found.0 here closes

  at_by : (k : PpKind) (texts : List (List ℕ)) (t : PpToken) (ts : List PpToken) → AllByRecursion (λ u. P u.place) (t ∷ ts) → At (beginning_by k texts t ts)
  at_by kind.Header texts t ts ats = at_spelled t.place (spelling texts t) ats.0
  at_by kind.Text texts t ts ats = at_named Quote t.place t.place (inside (spelling texts t)) ats.0 ats.0
  at_by kind.Punct texts t ts ats = by (is_spelled (codes "<") texts t)
    where
      by : (opens : Bool) → At (if opens then angle_of t.place (up_to_angle texts ts) else Bad t.place)
      by true = at_angle t.place (up_to_angle texts ts) ats.0 (closes_up texts ts ats.1)
      by false = ats.0
  at_by kind.Word texts t ts ats = ats.0
  at_by kind.Number texts t ts ats = ats.0
  at_by kind.Char texts t ts ats = ats.0

  at_beginning : (texts : List (List ℕ)) (out : List PpToken) → AllByRecursion (λ t. P t.place) out → At (beginning texts out)
  at_beginning texts [] ats = tt
  at_beginning texts (t ∷ ts) ats = at_by t.kind texts t ts ats

  stands_in : (b : Beginning) (end : Place) → At b → P end → Stands (sought_in b end)
  stands_in (Names header place) end at last = at
  stands_in (Bad place) end at last = at
  stands_in Ends end at last = last

  abbrev AtEnd : End → Type 0
  AtEnd (end.Refused number place) = P place
  AtEnd _ = Unit {0}

  abbrev BadAt : Option Place → Type 0
  BadAt None = Unit {0}
  BadAt (Some bad) = P bad

  bad_at : (b : Beginning) → At b → BadAt (bad_of b)
  bad_at (Names header place) at = tt
  bad_at (Bad place) at = at
  bad_at Ends at = tt

  stands_before : (bad : Option Place) (number : ℕ) (place : Place) → BadAt bad → P place → Stands (sought_before bad number place)
  stands_before None number place at here = here
  stands_before (Some bad) number place at here = by (is_at bad place)
    where
      by : (same : Bool) → Stands (if same then Unnamed number place else Unnamed 24 bad)
      by true = here
      by false = at

  stands_open : (bad : Option Place) (last : Place) → BadAt bad → P last → Stands (sought_open bad last)
  stands_open None last at here = here
  stands_open (Some bad) last at here = at

  stands_by : (b : Beginning) (how : End) (last : Place) → At b → AtEnd how → P last → Stands (sought_by b how last)
  stands_by b end.Whole last at there here = stands_in b last at here
  stands_by b end.Open last at there here = stands_open (bad_of b) last (bad_at b at) here
  stands_by b (end.Refused number place) last at there here = stands_before (bad_of b) number place (bad_at b at) there

head_among : (t : PpToken) (ts : List PpToken) → IsAmong (t ∷ ts) t.place
head_among t ts = record { piece = t; contained = (0, omega arith, refl); here = refl }

end_among : (t : PpToken) (ts : List PpToken) → IsAmong (t ∷ ts) (end_of t.place (t ∷ ts))
end_among t ts = elim (end_at t.place (t ∷ ts)) [ inl first ↦ subst (IsAmong (t ∷ ts)) (sym first) (head_among t ts) | inr among ↦ among ]

at_end : (list : List PpToken) (how : End) → EndsAmong list how → AtEnd (IsAmong list) how
at_end list end.Whole there = tt
at_end list end.Open there = tt
at_end list (end.Refused number place) there = there

-- what is sought at one of the pieces is the answer
answers : (texts : List (List ℕ)) (table : Table) (behind : List PpToken) (sought : Sought) (result : Result SoughtHeader Stop) → Stands (IsAmong behind) sought
    → ((s : Sought) → s ≡ sought → Seeks texts table behind s) → HasSought sought result → IsSeekResult texts table behind result
answers texts table behind sought (Ok found) stands seeks told = record { sought = seeks (Named (header_seen found.header) found.place) (sym told); among = subst (Stands (IsAmong behind)) told stands }
answers texts table behind sought (Err stop.Memory) stands seeks told = tt
answers texts table behind sought (Err (stop.Refused r)) stands seeks told =
    ((seeks (Unnamed r.number r.place) (sym told.0), subst (Stands (IsAmong behind)) told.0 stands), told.1)

module _ (texts : List (List ℕ)) (table : Table) where
  pub stands : (behind : List PpToken) (d : PpToken) (b : Beginning) (result : Result SoughtHeader Stop) → 0 < length behind → is_header (get_or behind 0 d) ≡ true
      → b ≡ beginning texts behind → HasSought (sought_in b (get_or behind 0 d).place) result → IsSeekResult texts table behind result
  stands [] d b result some kind is told = absurd (omega arith)
  stands (t ∷ ts) d b result some kind is told =
      let begins = at_beginning (IsAmong (t ∷ ts)) texts (t ∷ ts) (pieces_among (t ∷ ts)) in
      answers texts table (t ∷ ts) (sought_in (beginning texts (t ∷ ts)) t.place) result (stands_in (IsAmong (t ∷ ts)) (beginning texts (t ∷ ts)) t.place begins (head_among t ts))
      (λ s same. Seeks.as_it_stands t ts s kind same) (subst (λ x. HasSought (sought_in x t.place) result) is told)

  pub replaced : (behind given : List PpToken) (how : End) (d : PpToken) (b : Beginning) (result : Result SoughtHeader Stop) → 0 < length behind → is_header (get_or behind 0 d) ≡ false
      → HasEnded texts table most_tokens behind given how → All (λ t. IsAmong behind t.place) given → EndsAmong behind how → b ≡ beginning texts given
      → HasSought (sought_by b how (end_of (get_or behind 0 d).place behind)) result → IsSeekResult texts table behind result
  replaced [] given how d b result some kind ended all there is told = absurd (omega arith)
  replaced (t ∷ ts) given how d b result some kind ended all there is told =
      let begins = at_beginning (IsAmong (t ∷ ts)) texts given (recursion_from_All (λ u. IsAmong (t ∷ ts) u.place) given all) in
      let last = end_of t.place (t ∷ ts) in
      answers texts table (t ∷ ts) (sought_by (beginning texts given) how last) result
      (stands_by (IsAmong (t ∷ ts)) (beginning texts given) how last begins (at_end (t ∷ ts) how there) (end_among t ts))
      (λ s same. Seeks.by_macros t ts given how s kind ended same) (subst (λ x. HasSought (sought_by x how last) result) is told)
