-- An expansion gives one list before it ends, and ends in one way.
use Rattle.std.proofs.Common.{◌≡◌, ◌≤◌, ◌+◌, ◌-◌, ℕ, List, [], ◌∷◌, ◌++◌, Some, None, Result, Ok, Err, IfOk, ap, sym, ◌∙◌, refl, subst, append-nil, arith, length, length-append, map}
use Rattle.std.specs.List.{All}
use Rattle.std.specs.declared.alloc.AllocError.{AllocError}
use Rattle.std.proofs.lemmas.List.{length-map}
use Rattle.sb_base.specs.declared.refusals.Place.{Place}
use Rattle.sb_lex.specs.declared.piece.PpToken.{PpToken}
use Rattle.sb_lex.specs.Places.{IsAmong}
use Rattle.sb_macro.specs.declared.ending.End.{End}
use Rattle.sb_macro.specs.declared.ending.End.TheVariants as end
use Rattle.sb_macro.specs.declared.ending.Given.{Given}
use Rattle.sb_macro.specs.declared.halt.Halt.{Halt}
use Rattle.sb_macro.specs.declared.halt.Halt.TheVariants.{Refused}
use Rattle.sb_macro.specs.Endings.{Ends, EndsAt, EndsAmong, TextEnds, IsOnlyEnd, whole, before, too_many, in_call, miscounted, inside, text_ends}
use Rattle.sb_macro.specs.Expansion.{Scope, step, Unclosed, Gives, Stops, Expanded, expands, place_of_last}
use Rattle.sb_macro.specs.Halts.{nowhere}
use Rattle.sb_macro.specs.Replacing.{StopsWith, halt_of}
use Rattle.sb_macro.specs.Tokens.{Tok, fresh}
use Rattle.sb_macro.proofs.Expanding.{given_whole}
use Rattle.sb_macro.proofs.ExpansionLaws.{Together, goes_on, went_on, together, Held, held_full, held_unclosed, held_miscounted, held_inside, one_expansion, exclusive, one_stop, unclosed_kept, unclosed_miscounted, unclosed_replaced}
use Rattle.sb_macro.proofs.GivenPlaces.{text_among}

-- how a list is refused whose expansion ends so, where last is the place of its last piece
abbrev pub StopsSo : Scope → Place → List Tok → End → Type 0
StopsSo scope last list end.Whole = Unit {0}
StopsSo scope last list end.Open = Stops scope last list 14 last
StopsSo scope last list (end.Refused number place) = Stops scope last list number place

module _ (scope : Scope) (list : List Tok) where
  pub stops_at : (last : Place) (out : List Tok) (t : Tok) (rest : List Tok) (how : End) → Gives scope list out (t ∷ rest) → EndsAt scope (length out) t rest how → StopsSo scope last list how
  stops_at last out t rest _ gives (too_many kept full) = Stops.too_many last list out t rest gives full kept
  stops_at last out t rest _ gives (in_call is room) = Stops.unclosed last list out t rest gives room is
  stops_at last out t rest _ gives (miscounted is room) = Stops.miscounted last list out t rest gives room is
  stops_at last out t rest _ gives (inside m args fulls after is room small each arg at there number place stops) =
      Stops.inside last list out t rest gives room m args fulls after is small each arg at there number place stops

  pub stops_so : (last : Place) (out : List Tok) (how : End) → Ends scope list out how → StopsSo scope last list how
  stops_so last _ _ (whole out gives few) = tt
  stops_so last _ _ (before out t rest how gives at) = stops_at last out t rest how gives at

  -- where an expansion does not go on
  record Stuck (out : List Tok) (t : Tok) (rest : List Tok) : Type 0 where
    left : ℕ
    front : Gives scope list out (t ∷ rest)
    here : Held scope left (t ∷ rest)
    room : scope.room ≡ length out + left

  stuck : (out : List Tok) (t : Tok) (rest : List Tok) (how : End) → Gives scope list out (t ∷ rest) → EndsAt scope (length out) t rest how → Stuck out t rest
  stuck out t rest _ gives (too_many kept full) = record { left = 0; front = gives; here = held_full scope 0 t rest kept refl; room = omega arith }
  stuck out t rest _ gives (in_call is room) = record { left = scope.room - length out; front = gives; here = held_unclosed scope _ t rest is; room = omega arith }
  stuck out t rest _ gives (miscounted is room) = record { left = scope.room - length out; front = gives; here = held_miscounted scope _ t rest is; room = omega arith }
  stuck out t rest _ gives (inside m args fulls after is room small each arg at there number place stops) = record {
    left = scope.room - length out;
    front = gives;
    here = held_inside scope _ t rest m args after (length fulls) arg is at (λ full more fits. exclusive scope there arg number place full stops more fits);
    room = omega arith;
  }

  -- two expansions of one list come to one place
  one_place : (out other : List Tok) (t u : Tok) (rest later : List Tok) → Stuck out t rest → Stuck other u later → (out ≡ other) × (◌≡◌ {A = List Tok} (t ∷ rest) (u ∷ later))
  one_place out other t u rest later a b = at (together scope list out (t ∷ rest) other (u ∷ later) a.front b.front)
    where
      at : Together scope out (t ∷ rest) other (u ∷ later) → (out ≡ other) × (◌≡◌ {A = List Tok} (t ∷ rest) (u ∷ later))
      at (goes_on more g is) =
          let shorter : length more ≤ a.left = omega (arith, ap length is, length-append out more, a.room, b.room) in
          let none = a.here.held more (u ∷ later) g shorter in
          (sym (is ∙ ap (λ l. out ++ l) none.0 ∙ append-nil out), sym none.1)
      at (went_on more g is) =
          let shorter : length more ≤ b.left = omega (arith, ap length is, length-append other more, a.room, b.room) in
          let none = b.here.held more (t ∷ rest) g shorter in
          (is ∙ ap (λ l. other ++ l) none.0 ∙ append-nil other, none.1)

  -- a whole expansion does not end before
  not_before : (all out : List Tok) (t : Tok) (rest : List Tok) (how : End) → Gives scope list all [] → length all ≤ scope.room → Gives scope list out (t ∷ rest) → EndsAt scope (length out) t rest how → ⊥
  not_before all out t rest _ gives few front (too_many kept full) = exclusive scope nowhere list 16 t.piece.place all (Stops.too_many nowhere list out t rest front full kept) gives few
  not_before all out t rest _ gives few front (in_call is room) = exclusive scope nowhere list 14 nowhere all (Stops.unclosed nowhere list out t rest front room is) gives few
  not_before all out t rest _ gives few front (miscounted is room) = exclusive scope nowhere list 13 t.piece.place all (Stops.miscounted nowhere list out t rest front room is) gives few
  not_before all out t rest _ gives few front (inside m args fulls after is room small each arg at there number place stops) =
      exclusive scope nowhere list number t.piece.place all (Stops.inside nowhere list out t rest front room m args fulls after is small each arg at there number place stops) gives few

module _ (scope : Scope) (count : ℕ) (t : Tok) (rest : List Tok) where
  never_whole : (how : End) → EndsAt scope count t rest how → how ≡ end.Whole → ⊥
  never_whole _ (too_many kept full) is = cc is
  never_whole _ (in_call step room) is = cc is
  never_whole _ (miscounted step room) is = cc is
  never_whole _ (inside m args fulls after step room small each arg at there number place stops) is = cc is

  -- an expansion that ends with an open call ends at one
  open_step : (how : End) → EndsAt scope count t rest how → how ≡ end.Open → step scope t rest ≡ Unclosed
  open_step _ (too_many kept full) is = absurd (cc is)
  open_step _ (in_call step room) is = step
  open_step _ (miscounted step room) is = absurd (cc is)
  open_step _ (inside m args fulls after step room small each arg at there number place stops) is = absurd (cc is)

  step_open : (how : End) → EndsAt scope count t rest how → step scope t rest ≡ Unclosed → how ≡ end.Open
  step_open _ (too_many kept full) is = absurd (unclosed_kept is kept)
  step_open _ (in_call step room) is = refl
  step_open _ (miscounted step room) is = absurd (unclosed_miscounted is step)
  step_open _ (inside m args fulls after step room small each arg at there number place stops) is = absurd (unclosed_replaced is step)

one_way : (scope : Scope) (list out other : List Tok) (t u : Tok) (rest later : List Tok) (how also : End) → Gives scope list out (t ∷ rest) → Gives scope list other (u ∷ later)
    → ◌≡◌ {A = List Tok} (t ∷ rest) (u ∷ later) → EndsAt scope (length out) t rest how → EndsAt scope (length other) u later also → how ≡ also
one_way scope list out other t u rest later end.Whole also front second same a b = absurd (never_whole scope (length out) t rest end.Whole a refl)
one_way scope list out other t u rest later how end.Whole front second same a b = absurd (never_whole scope (length other) u later end.Whole b refl)
one_way scope list out other t u rest later end.Open also front second same a b =
    let here : t ≡ u = cc same in
    let behind : rest ≡ later = cc same in
    let is = open_step scope (length out) t rest end.Open a refl in
    sym (step_open scope (length other) u later also b (subst (λ x. step scope x later ≡ Unclosed) here (subst (λ l. step scope t l ≡ Unclosed) behind is)))
one_way scope list out other t u rest later how end.Open front second same a b =
    let here : u ≡ t = cc same in
    let behind : later ≡ rest = cc same in
    let is = open_step scope (length other) u later end.Open b refl in
    step_open scope (length out) t rest how a (subst (λ x. step scope x rest ≡ Unclosed) here (subst (λ l. step scope u l ≡ Unclosed) behind is))
one_way scope list out other t u rest later (end.Refused number place) (end.Refused n p) front second same a b =
    let stops = stops_at scope list nowhere out t rest (end.Refused number place) front a in
    let again = stops_at scope list nowhere other u later (end.Refused n p) second b in
    let one = one_stop scope nowhere nowhere list number n place p stops again in
    ap (λ (k : ℕ). end.Refused k place) one.0 ∙ ap (λ (q : Place). end.Refused n q) (one.1 refl)

pub one_end : (scope : Scope) (list out other : List Tok) (how also : End) → Ends scope list out how → Ends scope list other also → (out ≡ other) × (how ≡ also)
one_end scope list _ _ _ _ (whole out gives few) (whole other more fits) = (one_expansion scope list out other gives more, refl)
one_end scope list _ _ _ _ (whole out gives few) (before other u later also second b) = absurd (not_before scope list out other u later also gives few second b)
one_end scope list _ _ _ _ (before out t rest how front a) (whole other more fits) = absurd (not_before scope list other out t rest how more fits front a)
one_end scope list _ _ _ _ (before out t rest how front a) (before other u later also second b) =
    let same = one_place scope list out other t u rest later (stuck scope list out t rest how front a) (stuck scope list other u later also second b) in
    (same.0, one_way scope list out other t u rest later how also front second same.1 a b)

pub few_given : (scope : Scope) (list out : List Tok) (how : End) → Ends scope list out how → length out ≤ scope.room
few_given scope list _ _ (whole out gives few) = few
few_given scope list _ _ (before out t rest how gives at) = by_end at
  where
    by_end : {how : End} → EndsAt scope (length out) t rest how → length out ≤ scope.room
    by_end (too_many kept full) = omega arith
    by_end (in_call is room) = room
    by_end (miscounted is room) = room
    by_end (inside m args fulls after is room small each arg at there number place stops) = room

-- ---- texts

pub one_text_end : (scope : Scope) (list pieces : List PpToken) (how : End) → TextEnds scope list pieces how → IsOnlyEnd scope list pieces how
one_text_end scope list pieces how (text_ends out ends is) = λ others other again. by_other others other again
  where
    by_other : (others : List PpToken) (other : End) → TextEnds scope list others other → (others ≡ pieces) × (other ≡ how)
    by_other others other (text_ends more also is_too) =
        let same = one_end scope (fresh list) more out other how also ends in
        (is_too ∙ ap (map (λ t. t.piece)) same.0 ∙ sym is, same.1)

pub few_pieces : (scope : Scope) (list pieces : List PpToken) (how : End) → TextEnds scope list pieces how → length pieces ≤ scope.room
few_pieces scope list pieces how (text_ends out ends is) =
    let short = few_given scope (fresh list) out how ends in
    rw is (rw length-map short)

pub text_whole : (scope : Scope) (list pieces : List PpToken) (how : End) → TextEnds scope list pieces how → how ≡ end.Whole → Expanded scope list pieces
text_whole scope list pieces how (text_ends out ends is) how_is = let given = given_whole scope (fresh list) out how ends how_is in expands out given.0 given.1 is

pub whole_text : (scope : Scope) (list pieces : List PpToken) → Expanded scope list pieces → TextEnds scope list pieces end.Whole
whole_text scope list pieces (expands out gives few is) = text_ends out (whole out gives few) is

pub text_stops : (scope : Scope) (list pieces : List PpToken) (how : End) → TextEnds scope list pieces how → StopsSo scope (place_of_last list) (fresh list) how
text_stops scope list pieces how (text_ends out ends is) = stops_so scope (fresh list) (place_of_last list) out how ends

pub text_expands : (scope : Scope) (list pieces : List PpToken) (how : End) (last : Place) → TextEnds scope list pieces how → halt_of how last ≡ None → Expanded scope list pieces
text_expands scope list pieces end.Whole last ends is = text_whole scope list pieces end.Whole ends refl
text_expands scope list pieces end.Open last ends is = absurd (cc is)
text_expands scope list pieces (end.Refused number place) last ends is = absurd (cc is)

pub text_halts : (scope : Scope) (list pieces : List PpToken) (how : End) (last : Place) (halt : Halt) → last ≡ place_of_last list → TextEnds scope list pieces how → halt_of how last ≡ Some halt
    → StopsWith scope (place_of_last list) (fresh list) halt
text_halts scope list pieces end.Whole last halt last_is ends is = absurd (cc is)
text_halts scope list pieces end.Open last halt last_is ends is =
    let same : Refused 14 (place_of_last list) ≡ halt = ap (Refused 14) (sym last_is) ∙ cc is in
    subst (StopsWith scope (place_of_last list) (fresh list)) same (text_stops scope list pieces end.Open ends)
text_halts scope list pieces (end.Refused number place) last halt last_is ends is =
    let same : Refused number place ≡ halt = cc is in
    subst (StopsWith scope (place_of_last list) (fresh list)) same (text_stops scope list pieces (end.Refused number place) ends)

-- ---- of what may lack memory

module _ (scope : Scope) (list : List PpToken) where
  abbrev IsGiven : Result Given AllocError → Type 0
  IsGiven result = IfOk result (λ given. TextEnds scope list given.pieces.items given.end)

  pub few_if_given : (result : Result Given AllocError) → IsGiven result → IfOk result (λ given. length given.pieces.items ≤ scope.room)
  few_if_given (Ok given) ends = few_pieces scope list given.pieces.items given.end ends
  few_if_given (Err fault) ends = tt

  pub among_if_given : (result : Result Given AllocError) → IsGiven result → IfOk result (λ given. All (λ t. IsAmong list t.place) given.pieces.items × EndsAmong list given.end)
  among_if_given (Ok given) ends = text_among scope list given.pieces.items given.end ends
  among_if_given (Err fault) ends = tt

  pub only_if_given : (result : Result Given AllocError) → IsGiven result → IfOk result (λ given. IsOnlyEnd scope list given.pieces.items given.end)
  only_if_given (Ok given) ends = one_text_end scope list given.pieces.items given.end ends
  only_if_given (Err fault) ends = tt
