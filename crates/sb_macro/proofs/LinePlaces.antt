-- The refusal of a line stands at one of its pieces and names no feature.
use Rattle.std.proofs.Common.{◌≡◌, ◌<◌, ℕ, Bool, true, false, List, [], ◌∷◌, Option, Some, None, Result, Ok, Err, ap, refl, sym, subst, arith, if◌then◌else◌, length}
use Rattle.std.specs.List.{AllByRecursion}
use Rattle.sb_base.specs.declared.interning.Name.{Name}
use Rattle.sb_base.specs.declared.refusals.Place.{Place}
use Rattle.sb_base.specs.declared.refusals.Refusal.{Refusal}
use Rattle.sb_base.specs.declared.refusals.Stop.{Stop}
use Rattle.sb_base.specs.declared.refusals.Stop.TheVariants as stop
use Rattle.sb_lex.specs.declared.piece.PpToken.{PpToken}
use Rattle.sb_lex.specs.Places.{IsAmong}
use Rattle.sb_macro.specs.declared.lines.Expected.{Expected}
use Rattle.sb_macro.specs.declared.lines.Expected.TheVariants.{First}
use Rattle.sb_macro.specs.declared.lines.Listed.{Listed}
use Rattle.sb_macro.specs.declared.lines.Listed.TheVariants.{Named, Separated, Ended, Bad}
use Rattle.sb_macro.specs.Defines.{IsRefused, conflicts, malformed, RefusesLine}
use Rattle.sb_macro.specs.Definition.{Listing, definition, definition_of, first_hash, is_hash_mark, listed, listing_on, lists_params, parameters, replacement_at, replacement_list, with_body, with_params}
use Rattle.sb_macro.specs.Expansion.{is_word}
use Rattle.sb_macro.specs.Halts.{nowhere, refusal}
use Rattle.sb_macro.specs.Macros.{Macro}
use Rattle.sb_macro.specs.Marks.{mark_of}
use Rattle.sb_macro.specs.Places.{StopsAmong}
use Rattle.sb_macro.proofs.GivenPlaces.{among_first, pieces_among}

module _ (P : Place → Type 0) where
  abbrev At : List PpToken → Type 0
  At = AllByRecursion (λ t. P t.place)

  -- the refusal stands at such a place and names no feature
  abbrev IsPlain : Refusal → Type 0
  IsPlain r = P r.place × (r.feature ≡ 0)

  -- so does the refusal, if there is one
  abbrev Refuses : {A : Type 0} → Result A Refusal → Type 0
  Refuses (Ok found) = Unit {0}
  Refuses (Err r) = IsPlain r

  -- and what is left behind a list of parameters
  abbrev Leaves : Listing → Type 0
  Leaves (Ok listing) = At listing.1
  Leaves (Err r) = IsPlain r

  leaves_on : (l : Listed) (params : List Name) (t : PpToken) (rest : List PpToken) (more : Expected → List Name → Listing) → P t.place → At rest
      → ((next : Expected) (all : List Name) → Leaves (more next all)) → Leaves (listing_on l params t rest more)
  leaves_on Named params t rest more here ats on = on _ _
  leaves_on Separated params t rest more here ats on = on _ _
  leaves_on Ended params t rest more here ats on = ats
  leaves_on (Bad number) params t rest more here ats on = (here, refl)

  leaves_parameters : (texts : List (List ℕ)) (expected : Expected) (params : List Name) (last : Place) (list : List PpToken) → P last → At list
      → Leaves (parameters texts expected params last list)
  leaves_parameters texts expected params last [] end ats = (end, refl)
  leaves_parameters texts expected params last (t ∷ rest) end ats =
      leaves_on (listed texts expected params t) params t rest (λ next all. parameters texts next all t.place rest) ats.0 ats.1
      (λ next all. leaves_parameters texts next all t.place rest ats.0 ats.1)

  abbrev Found : Option PpToken → Type 0
  Found None = Unit {0}
  Found (Some t) = P t.place

  found_hash : (texts : List (List ℕ)) (list : List PpToken) → At list → Found (first_hash texts list)
  found_hash texts [] ats = tt
  found_hash texts (t ∷ list) ats = at (is_hash_mark (mark_of texts t.text)) (found_hash texts list ats.1)
    where
      at : (is : Bool) → Found (first_hash texts list) → Found (if is then Some t else first_hash texts list)
      at true later = ats.0
      at false later = later

  refuses_body : (name : Name) (params : Option (List Name)) (list : List PpToken) (hash : Option PpToken) → Found hash → Refuses (with_body name params (replacement_at list hash))
  refuses_body name params list None found = tt
  refuses_body name params list (Some t) found = (found, refl)

  refuses_params : (texts : List (List ℕ)) (name : Name) (listing : Listing) → Leaves listing → Refuses (with_params texts name listing)
  refuses_params texts name (Ok listing) leaves = refuses_body name (Some listing.0) listing.1 (first_hash texts listing.1) (found_hash texts listing.1 leaves)
  refuses_params texts name (Err r) leaves = leaves

  refuses_rest : (texts : List (List ℕ)) (name : Name) (rest : List PpToken) → At rest → Refuses (definition_of texts name rest)
  refuses_rest texts name [] ats = tt
  refuses_rest texts name (t ∷ rest) ats = at (lists_params texts t)
    where
      at : (lists : Bool) → Refuses (if lists then with_params texts name (parameters texts First [] t.place rest) else with_body name None (replacement_list texts (t ∷ rest)))
      at true = refuses_params texts name (parameters texts First [] t.place rest) (leaves_parameters texts First [] t.place rest ats.0 ats.1)
      at false = refuses_body name None (t ∷ rest) (first_hash texts (t ∷ rest)) (found_hash texts (t ∷ rest) ats)

  refuses_line : (texts : List (List ℕ)) (name : PpToken) (rest : List PpToken) → At (name ∷ rest) → Refuses (definition texts (name ∷ rest))
  refuses_line texts name rest ats = at (is_word name.kind)
    where
      at : (word : Bool) → Refuses (if word then definition_of texts name.text rest else Err (refusal 11 name.place))
      at true = refuses_rest texts name.text rest ats.1
      at false = (ats.0, refl)

-- the refusal of a line that is not empty stands at one of its pieces
pub refused_among : (texts : List (List ℕ)) (table : List Macro) (line : List PpToken) (r : Refusal) → IsRefused texts table line r → 0 < length line → IsAmong line r.place
refused_among texts table _ _ (conflicts name rest other stands differs) some = among_first name rest
refused_among texts table [] _ (malformed _ r new reads) some = absurd (omega arith)
refused_among texts table (t ∷ ts) _ (malformed _ r new reads) some =
    (subst (Refuses (IsAmong (t ∷ ts))) reads (refuses_line (IsAmong (t ∷ ts)) texts t ts (pieces_among (t ∷ ts)))).0

pub line_among : (texts : List (List ℕ)) (table : List Macro) (line : List PpToken) (end : Stop) → RefusesLine texts table line end → 0 < length line → StopsAmong line end
line_among texts table line (stop.Refused r) refuses some = refused_among texts table line r refuses some
line_among texts table line stop.Memory refuses some = tt

-- a refusal of a line names no feature
pub refused_plain : (texts : List (List ℕ)) (table : List Macro) (line : List PpToken) (r : Refusal) → IsRefused texts table line r → r.feature ≡ 0
refused_plain texts table _ _ (conflicts name rest other stands differs) = refl
refused_plain texts table [] _ (malformed _ r new reads) = let e : ◌≡◌ {A = Result Macro Refusal} (Err (refusal 11 nowhere)) (Err r) = reads in let same : refusal 11 nowhere ≡ r = cc in ap (λ (x : Refusal). x.feature) (sym same)
refused_plain texts table (t ∷ ts) _ (malformed _ r new reads) =
    (subst (Refuses (IsAmong (t ∷ ts))) reads (refuses_line (IsAmong (t ∷ ts)) texts t ts (pieces_among (t ∷ ts)))).1
