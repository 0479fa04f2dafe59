-- statements: what each owes the machine follows from what its parts owe
use Rattle.std.proofs.Common.{◌≡◌, ℕ, zero, suc, List, [], ◌∷◌, ◌++◌, map, slice_get, Bool, true, false, Some, sym, subst}
use Rattle.sb_base.specs.declared.refusals.Place.{Place}
use Rattle.sb_term.specs.Asks.{Done, after_it, Always}
use Rattle.sb_term.specs.AskLaws.{always-after_it, always_weaker}
use Rattle.sb_function.specs.declared.syntax.Simple.{Simple}
use Rattle.sb_function.specs.declared.syntax.Comparison.{Comparison}
use Rattle.sb_function.specs.declared.syntax.Param.{Param}
use Rattle.sb_picture.specs.declared.picture.Picture.{Picture}
use Rattle.sb_store.specs.declared.warning.Warning.{Warning}
use Rattle.sb_function.specs.Syntax.{Plain, Skip, Then, Store, Choose}
use Rattle.sb_picture.specs.Memory.{Memory}
use Rattle.sb_picture.specs.Machine.{Held, Outcome, Next, Faulted, number_of, compares, After, Branch, Runs}
use Rattle.sb_picture.specs.Contract.{Enters, EndsWell, Safe}
use Rattle.sb_store.specs.Stores.{Judged, store_rule}
use Rattle.sb_judge.specs.Splits.{Sides, split, joined, split_all}
use Rattle.sb_picture.specs.Tidying.{tidied}
use Rattle.sb_judge.specs.Entry.{enter}
use Rattle.sb_judge.specs.Walks.{Walked, store_all, walk}
use Rattle.sb_picture.specs.Describes.{Setting, Describes, Covered}
use Rattle.sb_picture.specs.Laws.{TidyLaw}
use Rattle.sb_judge.specs.Laws.{IsCovered, StoreOwes, StoreLaw, SplitOwes, SplitLaw, Entered, EntryLaw, WalkOwes, WalkLaw, FunctionLaw}
use Rattle.sb_picture.proofs.Soundness.Items.{slice_get-map_at}
use Rattle.sb_judge.proofs.Soundness.Sequel.{Among, among_same, among_left, among_right, covered_among, covered_here, since_tidied, ends_among, ends_then, ends_tidied}

-- each described picture of a list is covered by what a statement gives
abbrev Covers : Plain → List Picture → Walked → Type 0
Covers body ps w = (at : ℕ) (p : Picture) (params : List Param) (args : List Held) (before m : Memory) (σ : Setting) → slice_get ps at ≡ Some p
    → Describes params args before m p σ → w.warnings ≡ [] → (fuel : ℕ) (end : Outcome) → Runs fuel args body m end → IsCovered params args before p σ m w.pictures end

-- a store in each picture of a list, where some have been given
record StoresOwe (array : ℕ) (index value : Simple) (place : Place) (ps : List Picture) (out w : Walked) : Type 0 where
  grows : w.warnings ≡ [] → out.warnings ≡ []
  stay : Among out.pictures w.pictures
  covers : Covers (Store array index value place) ps w

no_item : {A : Type 0} (at : ℕ) (x : A) → slice_get [] at ≡ Some x → ⊥
no_item at x e = cc

module _ (store_law : StoreLaw) (array : ℕ) (index value : Simple) (place : Place) where
  stores_owe : (ps : List Picture) (out : Walked) → Always (StoresOwe array index value place ps out) (store_all array index value place ps out)
  stores_owe [] out = record { grows = λ e. e; stay = among_same out.pictures; covers = λ at p params args before m σ e d clean fuel end runs. absurd (no_item at p e) }
  stores_owe (p ∷ ps) out =
      always-after_it (StoreOwes array index value place p out.warnings) (StoresOwe array index value place (p ∷ ps) out) (store_rule array index value place p out.warnings)
      (λ j. store_all array index value place ps (with j))
      (store_law array index value place p out.warnings)
      (λ j one. always_weaker (StoresOwe array index value place ps (with j)) (StoresOwe array index value place (p ∷ ps) out)
      (store_all array index value place ps (with j)) (λ w more. joins j one w more) (stores_owe ps (with j)))
    where
      with : Judged → Walked
      with j = record { pictures = out.pictures ++ j.picture ∷ []; warnings = j.warnings }

      joins : (j : Judged) → StoreOwes array index value place p out.warnings j → (w : Walked) → StoresOwe array index value place ps (with j) w
          → StoresOwe array index value place (p ∷ ps) out w
      joins j one w more = record {
        grows = λ e. one.grows (more.grows e);
        stay = among_left out.pictures (j.picture ∷ []) w.pictures more.stay;
        covers = covers;
      }
        where
          covers : Covers (Store array index value place) (p ∷ ps) w
          covers zero q params args before m σ e d clean fuel end runs =
              let D : Picture → Type 0 = λ x. IsCovered params args before x σ m w.pictures end in
              let same : p ≡ q = cc in
              let E : Picture → Type 0 = λ x. Describes params args before m x σ in
              subst D same
              (ends_among params args before p σ m (j.picture ∷ []) w.pictures
              (among_right out.pictures (j.picture ∷ []) w.pictures more.stay) end
              (one.covers params args before m σ (subst E (sym same) d) (more.grows clean) fuel end runs))
          covers (suc at) q params args before m σ e d clean fuel end runs = more.covers at q params args before m σ e d clean fuel end runs

-- a condition over a list of pictures, where some have been given
record SplitsOwe (left : Simple) (op : Comparison) (right : Simple) (ps : List Picture) (out s : Sides) : Type 0 where
  trues : Among out.trues s.trues
  falses : Among out.falses s.falses
  covers : (at : ℕ) (p : Picture) (params : List Param) (args : List Held) (before m : Memory) (σ : Setting) → slice_get ps at ≡ Some p
      → Describes params args before m p σ
      → Branch (compares op (number_of args left) (number_of args right)) (Covered params args before p σ m m s.trues) (Covered params args before p σ m m s.falses)

branch_then : (b : Bool) (P Q R S : Type 0) → (P → R) → (Q → S) → Branch b P Q → Branch b R S
branch_then true P Q R S f g h = f h
branch_then false P Q R S f g h = g h

module _ (split_law : SplitLaw) (left : Simple) (op : Comparison) (right : Simple) where
  splits_owe : (ps : List Picture) (out : Sides) → Always (SplitsOwe left op right ps out) (split_all left op right ps out)
  splits_owe [] out = record { trues = among_same out.trues; falses = among_same out.falses; covers = λ at p params args before m σ e d. absurd (no_item at p e) }
  splits_owe (p ∷ ps) out =
      always-after_it (SplitOwes left op right p) (SplitsOwe left op right (p ∷ ps) out) (split left op right p) (λ s. split_all left op right ps (joined out s))
      (split_law left op right p)
      (λ s one. always_weaker (SplitsOwe left op right ps (joined out s)) (SplitsOwe left op right (p ∷ ps) out)
      (split_all left op right ps (joined out s)) (λ t more. joins s one t more) (splits_owe ps (joined out s)))
    where
      joins : (s : Sides) → SplitOwes left op right p s → (t : Sides) → SplitsOwe left op right ps (joined out s) t → SplitsOwe left op right (p ∷ ps) out t
      joins s one t more = record {
        trues = among_left out.trues s.trues t.trues more.trues;
        falses = among_left out.falses s.falses t.falses more.falses;
        covers = covers;
      }
        where
          covers : (at : ℕ) (q : Picture) (params : List Param) (args : List Held) (before m : Memory) (σ : Setting) → slice_get (p ∷ ps) at ≡ Some q
              → Describes params args before m q σ
              → Branch (compares op (number_of args left) (number_of args right)) (Covered params args before q σ m m t.trues) (Covered params args before q σ m m t.falses)
          covers zero q params args before m σ e d =
              let same : p ≡ q = cc in
              let E : Picture → Type 0 = λ x. Describes params args before m x σ in
              let D : Picture → Type 0 = λ x. Branch (compares op (number_of args left) (number_of args right)) (Covered params args before x σ m m t.trues) (Covered params args before x σ m m t.falses) in
              subst D same
              (branch_then (compares op (number_of args left) (number_of args right))
              (Covered params args before p σ m m s.trues) (Covered params args before p σ m m s.falses)
              (Covered params args before p σ m m t.trues) (Covered params args before p σ m m t.falses)
              (covered_among params args before p σ m m s.trues t.trues (among_right out.trues s.trues t.trues more.trues))
              (covered_among params args before p σ m m s.falses t.falses (among_right out.falses s.falses t.falses more.falses))
              (one params args before m σ (subst E (sym same) d)))
          covers (suc at) q params args before m σ e d = more.covers at q params args before m σ e d

module _ (store_law : StoreLaw) (split_law : SplitLaw) (tidy_law : TidyLaw) where
  -- the statement that follows goes on from each tidied picture
  then_owes : (first rest : Plain) (ps : List Picture) (ws : List Warning) (w : Walked) → WalkOwes first ps ws w
      → (v : Walked) → WalkOwes rest (map tidied w.pictures) w.warnings v → WalkOwes (Then first rest) ps ws v
  then_owes first rest ps ws w one v more = record {
    grows = λ e. one.grows (more.grows e);
    covers = λ at p params args before m σ e d clean fuel end runs.
        goes at p params args before m σ e d clean fuel end runs.0 (one.covers at p params args before m σ e d (more.grows clean) fuel runs.0 runs.1) runs.2;
  }
    where
      goes : (at : ℕ) (p : Picture) (params : List Param) (args : List Held) (before m : Memory) (σ : Setting) → slice_get ps at ≡ Some p
          → Describes params args before m p σ → v.warnings ≡ [] → (fuel : ℕ) (end mid : Outcome) → IsCovered params args before p σ m w.pictures mid
          → After (λ n e. Runs fuel args rest n e) mid end → IsCovered params args before p σ m v.pictures end
      goes at p params args before m σ e d clean fuel end (Next n) c runs =
          ends_then params args before p (tidied c.picture) σ c.setting m n v.pictures (since_tidied params args before p c.picture σ c.setting m n c.since) end
          (more.covers c.at (tidied c.picture) params args before n c.setting (slice_get-map_at tidied w.pictures c.at c.picture c.stands)
          (tidy_law params args before n c.picture c.setting c.describes) clean fuel end runs)
      goes at p params args before m σ e d clean fuel end (Faulted fault place) c runs = absurd c

  choose_owes : (left : Simple) (op : Comparison) (right : Simple) (body : Plain) (ps : List Picture) (ws : List Warning) (s : Sides)
      → SplitsOwe left op right ps (record { trues = []; falses = [] }) s → (w : Walked) → WalkOwes body s.trues ws w
      → WalkOwes (Choose left op right body) ps ws (record { pictures = map tidied w.pictures ++ s.falses; warnings = w.warnings })
  choose_owes left op right body ps ws s splits w one = record {
    grows = one.grows;
    covers = λ at p params args before m σ e d clean fuel end runs.
        goes p params args before m σ clean fuel end (compares op (number_of args left) (number_of args right))
        (splits.covers at p params args before m σ e d) runs;
  }
    where
      goes : (p : Picture) (params : List Param) (args : List Held) (before m : Memory) (σ : Setting)
          → w.warnings ≡ [] → (fuel : ℕ) (end : Outcome) (b : Bool)
          → Branch b (Covered params args before p σ m m s.trues) (Covered params args before p σ m m s.falses)
          → Branch b (Runs fuel args body m end) (end ≡ Next m) → IsCovered params args before p σ m (map tidied w.pictures ++ s.falses) end
      goes p params args before m σ clean fuel end true c runs =
          ends_among params args before p σ m (map tidied w.pictures) (map tidied w.pictures ++ s.falses)
          (among_left (map tidied w.pictures) s.falses (map tidied w.pictures ++ s.falses) (among_same (map tidied w.pictures ++ s.falses))) end
          (ends_tidied params args before tidy_law p σ m w.pictures end
          (ends_then params args before p c.picture σ c.setting m m w.pictures c.since end
          (one.covers c.at c.picture params args before m c.setting c.stands c.describes clean fuel end runs)))
      goes p params args before m σ clean fuel end false c runs =
          let D : Outcome → Type 0 = λ x. IsCovered params args before p σ m (map tidied w.pictures ++ s.falses) x in
          subst D (sym runs)
          (covered_among params args before p σ m m s.falses (map tidied w.pictures ++ s.falses)
          (among_right (map tidied w.pictures) s.falses (map tidied w.pictures ++ s.falses) (among_same (map tidied w.pictures ++ s.falses))) c)

  skip_owes : (ps : List Picture) (ws : List Warning) → WalkOwes Skip ps ws (record { pictures = ps; warnings = ws })
  skip_owes ps ws = record {
    grows = λ e. e;
    covers = λ at p params args before m σ e d clean fuel end runs.
        (let D : Outcome → Type 0 = λ x. IsCovered params args before p σ m ps x in subst D (sym runs) (covered_here params args before at p σ m ps e d));
  }

  pub walk_law : WalkLaw
  walk_law Skip ps ws = skip_owes ps ws
  walk_law (Then first rest) ps ws =
      always-after_it (WalkOwes first ps ws) (WalkOwes (Then first rest) ps ws) (walk first ps ws) (λ w. walk rest (map tidied w.pictures) w.warnings)
      (walk_law first ps ws)
      (λ w one. always_weaker (WalkOwes rest (map tidied w.pictures) w.warnings) (WalkOwes (Then first rest) ps ws) (walk rest (map tidied w.pictures) w.warnings)
      (then_owes first rest ps ws w one) (walk_law rest (map tidied w.pictures) w.warnings))
  walk_law (Store array index value place) ps ws =
      always_weaker (StoresOwe array index value place ps (record { pictures = []; warnings = ws })) (WalkOwes (Store array index value place) ps ws)
      (store_all array index value place ps (record { pictures = []; warnings = ws }))
      (λ w owes. record { grows = owes.grows; covers = owes.covers })
      (stores_owe store_law array index value place ps (record { pictures = []; warnings = ws }))
  walk_law (Choose left op right body) ps ws =
      always-after_it (SplitsOwe left op right ps (record { trues = []; falses = [] })) (WalkOwes (Choose left op right body) ps ws)
      (split_all left op right ps (record { trues = []; falses = [] }))
      (λ s. after_it (walk body s.trues ws) (λ w. Done (record { pictures = map tidied w.pictures ++ s.falses; warnings = w.warnings })))
      (splits_owe split_law left op right ps (record { trues = []; falses = [] }))
      (λ s splits. always-after_it (WalkOwes body s.trues ws) (WalkOwes (Choose left op right body) ps ws) (walk body s.trues ws)
      (λ w. Done (record { pictures = map tidied w.pictures ++ s.falses; warnings = w.warnings }))
      (walk_law body s.trues ws) (λ w one. choose_owes left op right body ps ws s splits w one))

ends_well : (params : List Param) (args : List Held) (p : Picture) (σ : Setting) (m : Memory) (qs : List Picture) (end : Outcome)
    → IsCovered params args m p σ m qs end → EndsWell params args m end
ends_well params args p σ m qs (Next now) c = (c.describes).kept
ends_well params args p σ m qs (Faulted fault place) c = c

-- a function without a warning is safe: its entry describes each state that it lets in, and its body goes on from there
pub function_law : EntryLaw → WalkLaw → FunctionLaw
function_law entry_law walks f =
    always-after_it (λ ps. (args : List Held) (m : Memory) → Enters f.params m args → Entered f.params args m ps) (λ ws. ws ≡ [] → Safe f)
    (enter f.params) (λ ps. after_it (walk f.body ps []) (λ w. Done w.warnings)) (entry_law f.params)
    (λ ps entered. always-after_it (WalkOwes f.body ps []) (λ ws. ws ≡ [] → Safe f) (walk f.body ps []) (λ w. Done w.warnings) (walks f.body ps [])
    (λ w owes clean fuel m args enters end runs.
    let e = entered args m enters in
    ends_well f.params args e.picture e.setting m w.pictures end
    (owes.covers e.at e.picture f.params args m m e.setting e.stands e.describes clean fuel end runs)))
