-- The steps of an expansion.
use Rattle.std.proofs.Common.{◌≡◌, ◌≤◌, ◌<◌, ◌+◌, ℕ, suc, List, [], ◌∷◌, ◌++◌, Option, Some, None, Result, Ok, Err, IfOk, Vec, ap, sym, ◌∙◌, subst, inl, inr, append_assoc, append-nil, arith, length, length-append, drop}
use Rattle.std.specs.List.{slice_get}
use Rattle.sb_base.specs.declared.refusals.Place.{Place}
use Rattle.std.specs.declared.alloc.AllocError.{AllocError}
use Rattle.std.specs.declared.alloc.Global.{Global}
use Rattle.sb_macro.specs.declared.ending.End.{End}
use Rattle.sb_macro.specs.declared.ending.End.TheVariants as end
use Rattle.sb_macro.specs.declared.expansion.Reached.{Reached}
use Rattle.sb_macro.specs.declared.halt.Halt.{Halt}
use Rattle.sb_macro.specs.declared.halt.Halt.TheVariants as halts
use Rattle.sb_macro.specs.declared.marked.Marked.{Marked}
use Rattle.sb_macro.specs.Endings.{Ends, EndsAt, whole, too_many, in_call, miscounted, inside}
use Rattle.sb_macro.specs.Expansion.{Scope, Step, step, step_of, step_by, called_macro, Replaced, Gives, start, kept, replaced, Stops, AreSmall, EachGives}
use Rattle.sb_macro.specs.Halts.{nowhere}
use Rattle.sb_macro.specs.Macros.{Macro}
use Rattle.sb_macro.specs.Replacing.{AreRefused, EndsThere, IsEndAt, IsReplaced, IsWhole, Replaces, StopsInside, number_of, replaces, stops_inside}
use Rattle.sb_macro.specs.Tokens.{Tok, toks}
use Rattle.sb_macro.proofs.Lists.{drop_front, push_places}

-- what the tokens that are still to be read give goes on from what the list gave so far
abbrev pub Reach : Scope → List Tok → List Tok → List Tok → Type 0
Reach scope list out pending = (more last : List Tok) → Gives scope pending more last → Gives scope list (out ++ more) last

-- an expansion on its way: the tokens before now gave out
pub record IsExpanding (scope : Scope) (list out now : List Tok) : Type 0 where
  pub reach : Reach scope list out now
  pub room : length out ≤ scope.room

-- the first of these arguments are expanded, and these are left
pub record AreExpanding (scope : Scope) (args fulls left : List (List Tok)) : Type 0 where
  pub left_are : left ≡ drop (length fulls) args
  pub all : length fulls + length left ≡ length args
  pub small : AreSmall scope.room fulls
  pub each : EachGives scope args fulls

module _ (scope : Scope) (list out : List Tok) (t : Tok) (rest : List Tok) where
  -- a token that stays
  pub kept_on : IsExpanding scope list out (t ∷ rest) → called_macro scope t rest ≡ None → length out < scope.room → IsExpanding scope list (out ++ t ∷ []) rest
  kept_on e none room = record {
    reach = λ more last g. rw append_assoc (e.reach (t ∷ more) last (kept t rest more last (ap (step_of scope.texts rest) none) g));
    room = omega (arith, length-append out (t ∷ []));
  }

  -- a name that is replaced
  pub replaced_on : (now : List Tok) → IsExpanding scope list out (t ∷ rest) → Replaces scope t rest now → IsExpanding scope list out now
  replaced_on now e (replaces m args fulls after is full now_is) = record {
    reach = λ more last g.
        e.reach more last (replaced t rest more last m args fulls after is full.all full.small full.each (subst (λ l. Gives scope l more last) now_is g));
    room = e.room;
  }

  -- what the tokens before this one gave
  pub before : IsExpanding scope list out (t ∷ rest) → Gives scope list out (t ∷ rest)
  before e = rw (append-nil out) at (e.reach [] (t ∷ rest) (start (t ∷ rest)))

  -- one token more than there is room for
  pub no_room : IsExpanding scope list out (t ∷ rest) → called_macro scope t rest ≡ None → scope.room ≤ length out → Ends scope list out (end.Refused 16 t.piece.place)
  no_room e none full = Ends.before out t rest (end.Refused 16 t.piece.place) (before e) (too_many (ap (step_of scope.texts rest) none) (omega (arith, e.room)))

  -- a name at which the expansion ends
  pub ends_there : (how : End) → IsExpanding scope list out (t ∷ rest) → EndsThere scope t rest how → Ends scope list out how
  ends_there how e ends = Ends.before out t rest how (before e) (ends (length out) e.room)

pub all_given : (scope : Scope) (list out : List Tok) → IsExpanding scope list out [] → Ends scope list out end.Whole
all_given scope list out e = Ends.whole out (rw (append-nil out) at (e.reach [] [] (start []))) e.room

-- the step at a name that is called
pub step_called : (scope : Scope) (t : Tok) (rest : List Tok) (m : Macro) (s : Step) → called_macro scope t rest ≡ Some m → step_by scope.texts m m.params rest ≡ s → step scope t rest ≡ s
step_called scope t rest m s is by = ap (step_of scope.texts rest) is ∙ by

-- an argument is refused where it is expanded by itself
pub ends_inside : (scope : Scope) (t : Tok) (rest : List Tok) (m : Macro) (args : List (List Tok)) (after : List Tok) (number : ℕ)
    → step scope t rest ≡ Replaced m args after → StopsInside scope args number → EndsThere scope t rest (end.Refused number t.piece.place)
ends_inside scope t rest m args after number is (stops_inside fulls small each arg at last place stops) =
    λ count room. inside m args fulls after is room small each arg at last number place stops

-- so the expansion ends at the name
pub ended_inside : (scope : Scope) (t : Tok) (rest now : List Tok) (m : Macro) (args : List (List Tok)) (after : List Tok) (halt : Halt) (result : Result (Option End) AllocError)
    → step scope t rest ≡ Replaced m args after → AreRefused scope args halt → IsEndAt halt t.piece.place result → IfOk result (IsReplaced scope t rest now)
ended_inside scope t rest now m args after (halts.Refused number there) (Ok how) is refused at =
    subst (IsReplaced scope t rest now) (sym at) (ends_inside scope t rest m args after number is refused)
ended_inside scope t rest now m args after (halts.Refused number there) (Err fault) is refused at = tt
ended_inside scope t rest now m args after halts.Memory (Ok how) is refused at = absurd at
ended_inside scope t rest now m args after halts.Memory (Err fault) is refused at = tt

-- a list whose expansion ends as a whole
pub given_whole : (scope : Scope) (list out : List Tok) (how : End) → Ends scope list out how → how ≡ end.Whole → Gives scope list out [] × (length out ≤ scope.room)
given_whole scope list _ _ (whole out gives few) is = (gives, few)
given_whole scope list _ _ (Ends.before out t rest _ gives at) is = by_end at is
  where
    by_end : {how : End} → EndsAt scope (length out) t rest how → how ≡ end.Whole → Gives scope list out [] × (length out ≤ scope.room)
    by_end (too_many stays full) is = absurd (cc is)
    by_end (in_call unclosed few) is = absurd (cc is)
    by_end (miscounted bad few) is = absurd (cc is)
    by_end (inside m args fulls after also few small each arg at there k place stops) is = absurd (cc is)

-- a list whose expansion does not end as a whole is refused by that number
pub refused_by : (scope : Scope) (list out : List Tok) (how : End) (number : ℕ) (last : Place) → Ends scope list out how → number_of how ≡ Some number → (place : Place) × Stops scope last list number place
refused_by scope list _ _ number last (whole out gives few) is = absurd (cc is)
refused_by scope list _ _ number last (Ends.before out t rest _ gives at) is = by_end at is
  where
    by_end : {how : End} → EndsAt scope (length out) t rest how → number_of how ≡ Some number → (place : Place) × Stops scope last list number place
    by_end (too_many stays full) is =
        let same : 16 ≡ number = cc is in (t.piece.place, subst (λ n. Stops scope last list n t.piece.place) same (Stops.too_many last list out t rest gives full stays))
    by_end (in_call unclosed few) is = let same : 14 ≡ number = cc is in (last, subst (λ n. Stops scope last list n last) same (Stops.unclosed last list out t rest gives few unclosed))
    by_end (miscounted bad few) is =
        let same : 13 ≡ number = cc is in (t.piece.place, subst (λ n. Stops scope last list n t.piece.place) same (Stops.miscounted last list out t rest gives few bad))
    by_end (inside m args fulls after also few small each arg at there k place stops) is =
        let same : k ≡ number = cc is in
        (t.piece.place, subst (λ n. Stops scope last list n t.piece.place) same (Stops.inside last list out t rest gives few m args fulls after also small each arg at there k place stops))

module _ (scope : Scope) (args fulls : List (List Tok)) (arg : List Tok) (left : List (List Tok)) where
  -- one argument more is expanded
  pub argument_on : (full : List Tok) → AreExpanding scope args fulls (arg ∷ left) → Gives scope arg full [] → length full ≤ scope.room → AreExpanding scope args (fulls ++ full ∷ []) left
  argument_on full e gives room =
      let front = drop_front args (length fulls) arg left e.left_are in
      let longer : length (fulls ++ full ∷ []) ≡ suc (length fulls) = omega (arith, length-append fulls (full ∷ [])) in
      record {
        left_are = rw longer front.1;
        all = omega (arith, e.all);
        small = λ k other at. elim (push_places fulls full other k at) [
          | inl there ↦ e.small k other there
          | inr here ↦ subst (λ l. length l ≤ scope.room) here.1 room
        ];
        each = λ k a other at_args at. elim (push_places fulls full other k at) [
          | inl there ↦ e.each k a other at_args there
          | inr here ↦
              let same : arg ≡ a = (let p : Some arg ≡ Some a = sym front.0 ∙ ap (slice_get args) (sym here.0) ∙ at_args in cc) in
              subst (λ l. Gives scope a l []) here.1 (subst (λ l. Gives scope l full []) same gives)
        ];
      }

  -- one gives all
  pub argument_goes : (result : Result Reached AllocError) (full : Vec Marked Global) → AreExpanding scope args fulls (arg ∷ left) → IfOk result (λ r. Ends scope arg (toks r.tokens.items) r.end)
      → IsWhole result (Ok full) → AreExpanding scope args (fulls ++ toks full.items ∷ []) left
  argument_goes (Err fault) full e ends is = absurd is
  argument_goes (Ok reached) full e ends is =
      let given = given_whole scope arg (toks reached.tokens.items) reached.end ends is.0 in
      let on = argument_on (toks reached.tokens.items) e given.0 given.1 in
      subst (λ (v : Vec Marked Global). AreExpanding scope args (fulls ++ toks v.items ∷ []) left) (sym is.1) on

  -- one is refused
  pub argument_halts : (result : Result Reached AllocError) (halt : Halt) → AreExpanding scope args fulls (arg ∷ left) → IfOk result (λ r. Ends scope arg (toks r.tokens.items) r.end)
      → IsWhole result (Err halt) → AreRefused scope args halt
  argument_halts (Err fault) halt e ends is = subst (AreRefused scope args) (sym is) tt
  argument_halts (Ok reached) halts.Memory e ends is = absurd is
  argument_halts (Ok reached) (halts.Refused number place) e ends is =
      let stops = refused_by scope arg (toks reached.tokens.items) reached.end number nowhere ends is in
      stops_inside fulls e.small e.each arg (drop_front args (length fulls) arg left e.left_are).0 nowhere stops.0 stops.1
