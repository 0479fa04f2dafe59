-- The reasons of declarations stay so behind more tokens; refusals that have one, and expressions and annotations.
use Rattle.std.proofs.Common.{◌≡◌, ℕ, Bool, true, false, List, [], ◌∷◌, ◌++◌, refl, sym, ap, ◌∙◌, append_assoc}
use Rattle.sb_base.specs.declared.interning.Name.{Name}
use Rattle.sb_base.specs.declared.tokens.Token.{Token}
use Rattle.sb_parse.specs.Parser.{Outcome, Parser, done, stop, refuse, guard}
use Rattle.sb_expr.specs.Expression.{Level, IsExpr}
use Rattle.sb_expr.specs.Readers.{expr_reader}
use Rattle.sb_lexicon.specs.Tokens.{unexpected, too_deep, lacks}
use Rattle.sb_lexicon.proofs.Grounds.{Fair}
use Rattle.sb_expr.proofs.telling.EachDepth.{parts_grounded}
use Rattle.sb_expr.proofs.telling.Reasons.{expr_reason}
use Rattle.sb_sal.specs.declared.bearer.Bearer.{Bearer}
use Rattle.sb_sal.specs.Readers.{notes_reader}
use Rattle.sb_sal.specs.Spellings.{may_stand}
use Rattle.sb_sal.proofs.Annotations.{lawful_notes}
use Rattle.sb_parse.proofs.Explaining.{next_is}
use Rattle.sb_sal.proofs.Filled.{filled}
use Rattle.sb_sal.proofs.NoteReasons.{notes_reason}
use Rattle.sb_specifier.specs.Specified.{reading}
use Rattle.sb_specifier.specs.Reasons.{IsDeclarationReason, in_notes, in_expression, feature, deeper, behind_void, too_many, misplaced, no_text, shows, needs_room}
use Rattle.sb_parse.proofs.Telling.{Reasons, Tells, Telling, TellingAt, stopping}

module _ (texts : List (List ℕ)) where
  abbrev Why : List Token → List Token → ℕ → Type 0
  Why = IsDeclarationReason texts

  longer : (xs before behind front : List Token) → front ≡ before ++ behind → xs ++ front ≡ (xs ++ before) ++ behind
  longer xs before behind front e = ap (λ z. xs ++ z) e ∙ sym (append_assoc xs before behind)

  pub further : (xs front bad : List Token) (n : ℕ) → Why front bad n → Why (xs ++ front) bad n
  further xs front bad _ (in_notes now bearer before behind n e r) = in_notes now bearer (xs ++ before) behind n (longer xs before behind front e) r
  further xs front bad _ (in_expression now level before behind n e r) = in_expression now level (xs ++ before) behind n (longer xs before behind front e) r
  further xs front bad _ (feature now n t rest e h) = feature now n t rest e h
  further xs front bad _ (deeper now t rest e h) = deeper now t rest e h
  further xs front bad _ (behind_void now before v t rest e h k l) = behind_void now (xs ++ before) v t rest (longer xs before (v ∷ []) front e) h k l
  further xs front bad _ (too_many r) =
      too_many (record {
        before = xs ++ r.before;
        parameters = r.parameters;
        comma = r.comma;
        first = r.first;
        rest = r.rest;
        types = r.types;
        trees = r.trees;
        split = longer xs r.before (r.parameters ++ (r.comma ∷ [])) front r.split;
        are = r.are;
        full = r.full;
        just = r.just;
        is_one = r.is_one;
        goes_on = r.goes_on;
        begins = r.begins;
      })
  further xs front bad _ (misplaced count r) =
      misplaced count (record {
        before = xs ++ r.before;
        ahead = r.ahead;
        note = r.note;
        others = r.others;
        shown = r.shown;
        outer = r.outer;
        notes = r.notes;
        declared = r.declared;
        split = longer xs r.before ((r.ahead ++ (r.note ∷ r.others)) ++ r.shown) front r.split;
        counted = r.counted;
        are_notes = r.are_notes;
        listed = r.listed;
        not_there = r.not_there;
        declares = r.declares;
      })
  further xs front bad _ no_text = no_text

  abbrev pub reasons : Reasons Token
  reasons = record { number = unexpected; why = IsDeclarationReason texts; further = further; plain = λ front bad. no_text }

  -- ---- refusals

  pub refusing_feature : (A : Type 0) (now : List Name) (goes : Token → Bool) (n : ℕ) → ((t : Token) → goes t ≡ true → shows (reading texts now) n t ≡ true) → TellingAt reasons {A = A} goes (refuse (lacks n))
  refusing_feature A now goes n some ts h = let t = next_is goes ts h in stopping reasons A (lacks n) ts (feature now n t.0 t.1 t.2 (some t.0 t.3))

  pub refusing_deep : (A : Type 0) (now : List Name) (goes : Token → Bool) → ((t : Token) → goes t ≡ true → needs_room (reading texts now) t ≡ true) → TellingAt reasons {A = A} goes (refuse too_deep)
  refusing_deep A now goes some ts h = let t = next_is goes ts h in stopping reasons A too_deep ts (deeper now t.0 t.1 t.2 (some t.0 t.3))

  pub barring : {A : Type 0} (now : List Name) (goes : Token → Bool) (bar : Bool) (p : Parser Token A) → ((t : Token) → goes t ≡ true → needs_room (reading texts now) t ≡ true) → (bar ≡ false → TellingAt reasons goes p) → TellingAt reasons goes (guard bar too_deep p)
  barring {A = A} now goes true p some P ts h = refusing_deep A now goes some ts h
  barring now goes false p some P ts h = P refl ts h

  -- ---- expressions and annotations

  pub expr_telling : (now : List Name) (left : ℕ) (level : Level) → Telling reasons (expr_reader (reading texts now) left level)
  expr_telling now left level ts = go (expr_reader (reading texts now) left level ts) refl ((parts_grounded (reading texts now) left 0).0 level ts)
    where
      go : (o : Outcome Token _) → expr_reader (reading texts now) left level ts ≡ o → Fair (reading texts now) (IsExpr (reading texts now) level) ts o → Tells reasons ts o
      go (done a rest) e f = record { front = f.front; split = f.split }
      go (stop n k) e f =
          let r = expr_reason (reading texts now) left level ts n k e in
          record { front = r.front; bad = r.bad; split = r.split; left_is = r.left_is; why = in_expression now level [] r.front n refl r.reason }

  pub notes_telling : (now : List Name) (left : ℕ) (at : Bearer) → Telling reasons (notes_reader (reading texts now) left (may_stand (reading texts now) at))
  notes_telling now left at ts = go (notes_reader (reading texts now) left (may_stand (reading texts now) at) ts) refl
    where
      go : (o : Outcome Token _) → notes_reader (reading texts now) left (may_stand (reading texts now) at) ts ≡ o → Tells reasons ts o
      go (done a rest) e = let u = (lawful_notes (reading texts now) left (may_stand (reading texts now) at) (filled (reading texts now) at)).sound ts a rest e in record { front = u.front; split = u.split }
      go (stop n k) e =
          let r = notes_reason (reading texts now) left (may_stand (reading texts now) at) (filled (reading texts now) at) ts n k e in
          record { front = r.front; bad = r.bad; split = r.split; left_is = r.left_is; why = in_notes now at [] r.front n refl r.reason }
