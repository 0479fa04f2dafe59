-- The reader of what stands behind a declarator keeps the laws.
use Rattle.std.proofs.Common.{◌≡◌, ◌≤◌, ℕ, zero, suc, Bool, true, false, ◌||◌, not, max, List, [], ◌∷◌, ◌++◌, if◌then◌else◌, refl, sym, ap, ◌∙◌, subst, append_assoc, append-nil, inl, inr, arith, nat_lt}
use Rattle.std.proofs.Math.Nat.{le-max_left, le-max_right, max-le}
use Rattle.sb_base.specs.declared.interning.Name.{Name}
use Rattle.sb_base.specs.declared.tokens.Token.{Token}
use Rattle.sb_parse.specs.Parser.{Parser, at_next, ◌>>=◌, pure, refuse, token, choose, looped}
use Rattle.sb_parse.specs.Lawful.{Lawful, OnHead, Joined, IsEmpty, Mapped, Opened, Closed, Unbarred, Either, Turns, over, turn}
use Rattle.sb_parse.proofs.Joining.{via, map_of}
use Rattle.sb_parse.proofs.Heads.{opened, opened_heads, at_head, guarded, headed, head_of_append, choice_of, perhaps_of, barred}
use Rattle.sb_sign.specs.declared.sign.Mark.TheVariants as mark
use Rattle.sb_tree.specs.Plain.{init_list}
use Rattle.sb_tree.specs.Trees as tree
use Rattle.sb_tree.specs.Trees.{InitTree, OptionalInit, depth_of_expr, depth_of_init, depth_of_inits, depth_of_optional_init}
use Rattle.sb_expr.specs.Expression.{Assignment}
use Rattle.sb_lexicon.specs.Lexicon.{Lexicon, is_mark}
use Rattle.sb_lexicon.specs.Tokens.{unexpected, too_deep, is_comma, is_open_brace, is_open_bracket, begins_expr}
use Rattle.sb_expr.specs.Reads.{FitsExpr}
use Rattle.sb_expr.proofs.tokens.Begins.{expr_begins, begins_with_no_brace}
use Rattle.sb_lexicon.proofs.Depths.{some_depth, within_room, room_within}
use Rattle.sb_expr.proofs.tokens.Ends.{comma_ends, assignment_ends}
use Rattle.sb_lexicon.proofs.Lexemes.{mark_is, mark_alone}
use Rattle.sb_expr.proofs.tokens.More.{more_assignment}
use Rattle.sb_expr.proofs.Tying.{lawful_parts}
use Rattle.sb_parse.proofs.Ways.{closing, goes_on_where, turned_once_more}
use Rattle.sb_specifier.specs.Specified.{reading}
use Rattle.sb_initialiser.specs.Initialiser.{IsInitialiser, is_value, is_list, AreInitialisers, first_initialiser, initialiser_behind, comma_behind}
use Rattle.sb_declare.specs.Declaration.{IsInitialised, no_initialiser, an_initialiser}
use Rattle.sb_specifier.specs.Readers.{is_semicolon, Parts, designated, begins_designator, is_assign, is_close_brace}
use Rattle.sb_initialiser.specs.Readers.{Initialisers, next_initialiser, braces, initialiser_at, initialiser}
use Rattle.sb_declare.specs.Readers.{initialised}
use Rattle.sb_specifier.proofs.laws.Commas.{CommaText, comma_or_none, with_comma}
use Rattle.sb_parse.proofs.Choices.{asked_if}
use Rattle.sb_specifier.proofs.laws.Names.{close_brace_token, close_brace_token_is, mark_begins_none}
use Rattle.sb_parse.proofs.Turning.{turning}
use Rattle.sb_initialiser.proofs.laws.Initialisers.{more_init, FitsInitialiser, deep_init, initialiser_law}

abbrev pub FitsInitialised : Lexicon → ℕ → List Token → OptionalInit → Type 0
FitsInitialised w below ts init = IsInitialised w ts init × (depth_of_optional_init init ≤ below)

abbrev pub more_initialised : Lexicon → OptionalInit → Token → Bool
more_initialised w tree.NoInit t = is_assign w t
more_initialised w (tree.AnInit i) t = more_init w i t

module _ (texts : List (List ℕ)) (below : ℕ) (part : ℕ → Parts) (types : List Name) where
  abbrev reads : Lexicon
  reads = reading texts types

  abbrev InitialisedText : List Token → OptionalInit → Type 0
  InitialisedText = Either (Unbarred (nat_lt below 2) (Opened (is_assign reads) (λ a. Mapped tree.AnInit (FitsInitialiser reads below)))) (IsEmpty tree.NoInit)

  reads_law : nat_lt below 2 ≡ false → Lawful (FitsInitialiser reads below) (more_init reads) (initialiser reads below)
  reads_law room = by_depth below (within_room below 2 room)
    where
      by_depth : (n : ℕ) → 2 ≤ n → Lawful (FitsInitialiser reads n) (more_init reads) (initialiser reads n)
      by_depth zero two = absurd (omega arith)
      by_depth (suc n) two = initialiser_law reads n (omega arith)

  to_initialised : (ts : List Token) (i : OptionalInit) → InitialisedText ts i → FitsInitialised reads below ts i
  to_initialised ts i (inl u) = let o = u.is in rw (o.split, o.is.same) (an_initialiser o.opening o.rest o.is.value o.passes o.is.is.0, o.is.is.1)
  to_initialised ts i (inr e) = rw (e.none, e.same) (no_initialiser, omega arith)

  from_initialised : (ts : List Token) (i : OptionalInit) → IsInitialised reads ts i → depth_of_optional_init i ≤ below → InitialisedText ts i
  from_initialised _ _ no_initialiser deep = inr (record { none = refl; same = refl })
  from_initialised _ _ (an_initialiser a ts i assigns is) deep =
      let least : 2 ≤ depth_of_init i = deep_init reads ts i is in
      inl (record { open_way = room_within below 2 (omega arith); is = record { opening = a; rest = ts; split = refl; passes = assigns; is = record { value = i; is = (is, deep); same = refl } } })

  pub initialised_law : Lawful (FitsInitialised reads below) (more_initialised reads) (initialised texts below part types)
  unfolding initialised
  initialised_law =
      via (perhaps_of tree.NoInit (guarded (nat_lt below 2) too_deep (λ room. at_head (is_assign reads)
      (λ t h. opened {Is = λ a. Mapped tree.AnInit (FitsInitialiser reads below)} {q = λ a. initialiser reads below >>= (λ i. pure (tree.AnInit i))} unexpected (is_assign reads) t h
      (λ a passes. map_of (reads_law room) tree.AnInit (more_initialised reads) (λ i t. refl)))
      (λ ts i o. opened_heads ts i o))) (λ t. refl))
      to_initialised (λ ts i f. from_initialised ts i f.0 f.1) (initialised texts below part types) (λ ts. refl)
