-- What an expansion gives, and its refusal, stand at places of the list.
use Rattle.std.proofs.Common.{◌<◌, ◌-◌, ℕ, zero, suc, Bool, true, false, List, [], ◌∷◌, ◌++◌, Option, Some, None, sym, refl, subst, arith, if◌then◌else◌, drop, length, map, nat_eq}
use Rattle.std.specs.List.{All, AllByRecursion, flat_map, slice_get}
use Rattle.std.specs.Option.{option_map, option_map_or}
use Rattle.std.proofs.lemmas.List.Elements.{All-from_recursion}
use Rattle.sb_base.specs.declared.interning.Name.{Name}
use Rattle.sb_base.specs.declared.refusals.Place.{Place}
use Rattle.sb_base.specs.declared.refusals.Stop.{Stop}
use Rattle.sb_base.specs.declared.refusals.Stop.TheVariants as stop
use Rattle.sb_lex.specs.declared.piece.PpToken.{PpToken}
use Rattle.sb_lex.specs.Places.{IsAmong}
use Rattle.sb_macro.specs.declared.arguments.Turn.{Turn}
use Rattle.sb_macro.specs.declared.arguments.Turn.TheVariants.{Ends, Parts, Goes}
use Rattle.sb_macro.specs.declared.stored.Part.{Part}
use Rattle.sb_macro.specs.Arguments.{Split, arguments, arguments_for, onto_first, split_at, turn_of}
use Rattle.sb_macro.specs.declared.ending.End.{End}
use Rattle.sb_macro.specs.Endings as ending
use Rattle.sb_macro.specs.Endings.{EndsAt, EndsAmong, TextEnds, text_ends}
use Rattle.sb_macro.specs.Expansion.{Scope, Step, step, step_of, step_by, step_with, called_macro, Replaced, Miscounted, Gives, start, kept, replaced, Stops, too_many, unclosed, miscounted, inside, Expanded, expands, IsStop, place_of_last}
use Rattle.sb_macro.specs.Halts.{nowhere}
use Rattle.sb_macro.specs.Macros.{Macro, param_of}
use Rattle.sb_macro.specs.Marks.{mark_of}
use Rattle.sb_macro.specs.Places.{StopsAmong}
use Rattle.sb_macro.specs.Replacement.{argument, hidden_by, with_lead, argument_token, replacement, standing, standing_at}
use Rattle.sb_macro.specs.Tokens.{Tok, fresh}
use Rattle.sb_macro.proofs.ExpansionLaws.{ends_nowhere}

module _ (P : Place → Type 0) where
  -- so are the places of all these tokens
  abbrev At : List Tok → Type 0
  At = AllByRecursion (λ t. P t.piece.place)

  at_append : (ts us : List Tok) → At ts → At us → At (ts ++ us)
  at_append [] us ats more = more
  at_append (t ∷ ts) us ats more = (ats.0, at_append ts us ats.1 more)

  -- so is what follows the arguments
  abbrev After : Option Split → Type 0
  After None = Unit {0}
  After (Some split) = At split.1

  after_parted : (split : Option Split) → After split → After (option_map (λ s. ([] ∷ s.0, s.1)) split)
  after_parted None after = tt
  after_parted (Some split) after = after

  after_onto : (t : Tok) (split : Option Split) → After split → After (option_map (λ s. (onto_first t s.0, s.1)) split)
  after_onto t None after = tt
  after_onto t (Some split) after = after

  after_turn : (turn : Turn) (t : Tok) (rest : List Tok) (more : ℕ → Option Split) → At rest → ((depth : ℕ) → After (more depth)) → After (split_at turn t rest more)
  after_turn Ends t rest more ats after = ats
  after_turn Parts t rest more ats after = after_parted (more 0) (after 0)
  after_turn (Goes depth) t rest more ats after = after_onto t (more depth) (after depth)

  after_arguments : (texts : List (List ℕ)) (depth : ℕ) (list : List Tok) → At list → After (arguments texts depth list)
  after_arguments texts depth [] ats = tt
  after_arguments texts depth (t ∷ rest) ats =
      after_turn (turn_of (mark_of texts t.piece.text) depth) t rest (λ deeper. arguments texts deeper rest) ats.1 (λ deeper. after_arguments texts deeper rest ats.1)

  -- so is what follows a replaced name and its arguments
  abbrev Behind : Step → Type 0
  Behind (Replaced m args after) = At after
  Behind _ = Unit {0}

  behind_counted : (m : Macro) (args : List (List Tok)) (after : List Tok) (enough : Bool) → At after → Behind (if enough then Replaced m args after else Miscounted)
  behind_counted m args after true ats = ats
  behind_counted m args after false ats = tt

  behind_with : (m : Macro) (params : List Name) (split : Option Split) → After split → Behind (step_with m params split)
  behind_with m params None after = tt
  behind_with m params (Some split) after = behind_counted m _ split.1 (nat_eq (length (arguments_for params split.0)) (length params)) after

  behind_open : (rest : List Tok) → At rest → At (drop 1 rest)
  behind_open [] ats = tt
  behind_open (t ∷ rest) ats = ats.1

  behind_by : (texts : List (List ℕ)) (m : Macro) (params : Option (List Name)) (rest : List Tok) → At rest → Behind (step_by texts m params rest)
  behind_by texts m None rest ats = ats
  behind_by texts m (Some params) rest ats = behind_with m params (arguments texts 0 (drop 1 rest)) (after_arguments texts 0 (drop 1 rest) (behind_open rest ats))

  behind_of : (texts : List (List ℕ)) (rest : List Tok) (m : Option Macro) → At rest → Behind (step_of texts rest m)
  behind_of texts rest None ats = tt
  behind_of texts rest (Some m) ats = behind_by texts m m.params rest ats

  behind_step : (scope : Scope) (t : Tok) (rest : List Tok) → At rest → Behind (step scope t rest)
  behind_step scope t rest ats = behind_of scope.texts rest (called_macro scope t rest) ats

  -- so is what stands in place of a name
  at_led : (first spaced : Bool) (ts : List Tok) → At ts → At (with_lead first spaced ts)
  at_led first spaced [] ats = tt
  at_led first spaced (t ∷ ts) ats = ats

  at_moved : (place : Place) (hidden : List Name) (ts : List Tok) → P place → At (map (λ u. argument_token place hidden u.piece.spaced u) ts)
  at_moved place hidden [] here = tt
  at_moved place hidden (t ∷ ts) here = (here, at_moved place hidden ts here)

  at_argument : (place : Place) (hidden : List Name) (spaced : Bool) (ts : List Tok) → P place → At (argument place hidden spaced ts)
  at_argument place hidden spaced [] here = tt
  at_argument place hidden spaced (t ∷ ts) here = (here, at_moved place hidden ts here)

  at_standing : (place : Place) (hidden : List Name) (fulls : List (List Tok)) (part : Part) (param : Option ℕ) → P place → At (standing_at place hidden fulls part param)
  at_standing place hidden fulls part None here = (here, tt)
  at_standing place hidden fulls part (Some k) here = at_argument place hidden part.spaced _ here

  at_body : (m : Macro) (fulls : List (List Tok)) (place : Place) (hidden : List Name) (body : List Part) → P place → At (flat_map (standing m fulls place hidden) body)
  at_body m fulls place hidden [] here = tt
  at_body m fulls place hidden (part ∷ body) here =
      at_append (standing m fulls place hidden part) (flat_map (standing m fulls place hidden) body) (at_standing place hidden fulls part (param_of m.params part.text) here)
      (at_body m fulls place hidden body here)

  at_replacement : (m : Macro) (fulls : List (List Tok)) (t : Tok) → P t.piece.place → At (replacement m fulls t)
  at_replacement m fulls t here = at_led t.piece.first t.piece.spaced _ (at_body m fulls t.piece.place (hidden_by m t) m.body here)

  -- what a list gives, and what is still to be read, stands at such places where the list does
  at_given : (scope : Scope) (list out last : List Tok) → Gives scope list out last → At list → At out × At last
  at_given scope list _ _ (start _) ats = (tt, ats)
  at_given scope _ _ last (kept t rest out _ is gives) ats =
      let more = at_given scope rest out last gives ats.1 in ((ats.0, more.0), more.1)
  at_given scope _ out last (replaced t rest _ _ m args fulls after is all small each gives) ats =
      let behind : At after = subst Behind is (behind_step scope t rest ats.1) in
      at_given scope (replacement m fulls t ++ after) out last gives (at_append (replacement m fulls t) after (at_replacement m fulls t ats.0) behind)

  -- so does its refusal
  at_stop : (scope : Scope) (last : Place) (list : List Tok) (number : ℕ) (place : Place) → Stops scope last list number place → At list → P last → P place
  at_stop scope last list _ _ (too_many _ _ out t rest gives full is) ats end = (at_given scope list out (t ∷ rest) gives ats).1.0
  at_stop scope last list _ _ (unclosed _ _ out t rest gives room is) ats end = end
  at_stop scope last list _ _ (miscounted _ _ out t rest gives room is) ats end = (at_given scope list out (t ∷ rest) gives ats).1.0
  at_stop scope last list _ _ (inside _ _ out t rest gives room m args fulls after is small each arg at ends number place stops) ats end =
      (at_given scope list out (t ∷ rest) gives ats).1.0

-- ---- the pieces of a text

among_more : (t : PpToken) (ts : List PpToken) (place : Place) → IsAmong ts place → IsAmong (t ∷ ts) place
among_more t ts place among =
    let k = among.contained.0 in
    record { piece = among.piece; contained = (suc k, omega (arith, among.contained.1), among.contained.2); here = among.here }

pub among_first : (t : PpToken) (ts : List PpToken) → IsAmong (t ∷ ts) t.place
among_first t ts = record { piece = t; contained = (0, omega arith, refl); here = refl }

among_also : (t : PpToken) (ts us : List PpToken) → AllByRecursion (λ u. IsAmong ts u.place) us → AllByRecursion (λ u. IsAmong (t ∷ ts) u.place) us
among_also t ts [] ats = tt
among_also t ts (u ∷ us) ats = (among_more t ts u.place ats.0, among_also t ts us ats.1)

-- each piece stands at one of the pieces
pub pieces_among : (list : List PpToken) → AllByRecursion (λ t. IsAmong list t.place) list
pieces_among [] = tt
pieces_among (t ∷ ts) = (among_first t ts, among_also t ts ts (pieces_among ts))

at_fresh : (P : Place → Type 0) (list : List PpToken) → AllByRecursion (λ t. P t.place) list → At P (fresh list)
at_fresh P [] ats = tt
at_fresh P (t ∷ ts) ats = (ats.0, at_fresh P ts ats.1)

at_itself : (list : List PpToken) → At (IsAmong list) (fresh list)
at_itself list = at_fresh (IsAmong list) list (pieces_among list)

among_at : (list : List PpToken) (k : ℕ) → k < length list → IsAmong list (option_map_or (λ t. t.place) (slice_get list k) nowhere)
among_at [] k within = absurd (omega arith)
among_at (t ∷ ts) zero within = among_first t ts
among_at (t ∷ ts) (suc k) within = among_more t ts _ (among_at ts k (omega arith))

none_stops : (scope : Scope) (last : Place) (number : ℕ) (place : Place) → Stops scope last [] number place → ⊥
none_stops scope last _ _ (too_many _ _ out t rest gives full is) = absurd (let e = ends_nowhere scope out (t ∷ rest) gives in cc)
none_stops scope last _ _ (unclosed _ _ out t rest gives room is) = absurd (let e = ends_nowhere scope out (t ∷ rest) gives in cc)
none_stops scope last _ _ (miscounted _ _ out t rest gives room is) = absurd (let e = ends_nowhere scope out (t ∷ rest) gives in cc)
none_stops scope last _ _ (inside _ _ out t rest gives room m args fulls after is small each arg at ends number place stops) =
    absurd (let e = ends_nowhere scope out (t ∷ rest) gives in cc)

-- the refusal of a text stands at one of its pieces
pub stop_among : (scope : Scope) (list : List PpToken) (number : ℕ) (place : Place) → Stops scope (place_of_last list) (fresh list) number place → IsAmong list place
stop_among scope [] number place stops = absurd (none_stops scope (place_of_last []) number place stops)
stop_among scope (t ∷ ts) number place stops =
    at_stop (IsAmong (t ∷ ts)) scope (place_of_last (t ∷ ts)) (fresh (t ∷ ts)) number place stops (at_itself (t ∷ ts)) (among_at (t ∷ ts) (length (t ∷ ts) - 1) (omega arith))

at_pieces : (P : Place → Type 0) (out : List Tok) → At P out → AllByRecursion (λ (t : PpToken). P t.place) (map (λ t. t.piece) out)
at_pieces P [] ats = tt
at_pieces P (t ∷ out) ats = (ats.0, at_pieces P out ats.1)

-- each piece of an expansion stands at one of the pieces of the text
pub expanded_among : (scope : Scope) (list pieces : List PpToken) → Expanded scope list pieces → All (λ t. IsAmong list t.place) pieces
expanded_among scope list pieces (expands out gives few is) =
    subst (λ l. All (λ (t : PpToken). IsAmong list t.place) l) (sym is)
    (All-from_recursion (λ (t : PpToken). IsAmong list t.place) _ (at_pieces (IsAmong list) out (at_given (IsAmong list) scope (fresh list) out [] gives (at_itself list)).0))

pub stops_among : (scope : Scope) (list : List PpToken) (end : Stop) → IsStop scope list end → StopsAmong list end
stops_among scope list (stop.Refused r) stops = stop_among scope list r.number r.place stops.0
stops_among scope list stop.Memory stops = tt

-- so does what a text gives before its expansion ends, and the refusal that ends it
pub text_among : (scope : Scope) (list pieces : List PpToken) (how : End) → TextEnds scope list pieces how → All (λ t. IsAmong list t.place) pieces × EndsAmong list how
text_among scope list pieces how (text_ends out ends is) =
    let places = at_ends out how ends in (
      subst (λ l. All (λ (t : PpToken). IsAmong list t.place) l) (sym is)
          (All-from_recursion (λ (t : PpToken). IsAmong list t.place) _ (at_pieces (IsAmong list) out places.0)),
      places.1,
    )
  where
    by_end : (out : List Tok) (t : Tok) (rest : List Tok) (how : End) → At (IsAmong list) (t ∷ rest) → EndsAt scope (length out) t rest how → EndsAmong list how
    by_end out t rest _ ats (ending.too_many stays full) = ats.0
    by_end out t rest _ ats (ending.in_call open1 few) = tt
    by_end out t rest _ ats (ending.miscounted bad few) = ats.0
    by_end out t rest _ ats (ending.inside m args fulls after also few small each arg at there number place stops) = ats.0

    at_ends : (out : List Tok) (how : End) → ending.Ends scope (fresh list) out how → At (IsAmong list) out × EndsAmong list how
    at_ends _ _ (ending.whole out gives few) = ((at_given (IsAmong list) scope (fresh list) out [] gives (at_itself list)).0, tt)
    at_ends _ _ (ending.before out t rest how gives at) =
        let places = at_given (IsAmong list) scope (fresh list) out (t ∷ rest) gives (at_itself list) in (places.0, by_end out t rest how places.1 at)
