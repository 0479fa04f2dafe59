-- the units of some files, one after another
use Rattle.std.proofs.Common.{◌≡◌, ◌<◌, ◌≤◌, ◌+◌, ℕ, List, [], ◌∷◌, ◌++◌, length, Option, Err, map, get_or, drop, refl, sym, ap, ◌∙◌, subst, arith, add-one, append_assoc, append-nil, length-append}
use Rattle.std.proofs.Math.Seq.{drop-cons}
use Rattle.std.proofs.Math.ListN.{drop_of_length-le}
use Rattle.sb_base.specs.declared.refusals.Place.{Place}
use Rattle.sb_base.specs.declared.refusals.Refusal.{Refusal}
use Rattle.sb_base.specs.declared.tokens.Token.{Token}
use Rattle.sb_parse.specs.Read.{IsRefused}
use Rattle.sb_parse.proofs.Places.{none_is_refused}
use Rattle.sb_prep.specs.Ending.{Ended}
use Rattle.sb_prep.specs.Unit.{IsUnit}
use Rattle.sb_prep.specs.Reading.{IsUnitRefused}
use Rattle.sb_prep.specs.Stopping.{IsFault}
use Rattle.sb_prep.specs.declared.fault.UnitFault.{UnitFault}
use Rattle.sb_prep.specs.declared.fault.UnitFault.TheVariants as stop
use Rattle.sb_function.specs.declared.lexeme.Piece.{Piece}
use Rattle.sb_top.specs.declared.sets.SetFault.{SetFault}
use Rattle.sb_top.specs.declared.sets.SetFault.TheVariants.{Unread, Memory}
use Rattle.sb_function.specs.Syntax.{FunctionTree}
use Rattle.sb_function.specs.Grammar.{IsFile}
use Rattle.sb_function.specs.Grammar.AreFunctions.{ended as nothing}
use Rattle.sb_function.specs.Lexemes.{pieces_of}
use Rattle.sb_top.specs.Sets.{Ending, Whole, Stopped, HasTree, IsRefusedUnit, UnitEndsAs, AreUnits, AreRead, IsRefusedAt, IsUnreadAt, EndAs, UnitReadAs, ReadAs}
use Rattle.sb_top.specs.Sets.IsRefusedUnit.{by_preprocessor}
use Rattle.sb_top.specs.Sets.AreUnits.{none, next, refused}
use Rattle.sb_top.specs.Sets.AreRead.{ended, read}
use Rattle.sb_top.specs.Sets.IsUnreadAt.{here, behind}

-- what the units of the files that are left give stands behind those that were found
pub record Goes (held : Option (List ℕ → Option (List ℕ))) (limit : ℕ) (texts files names : List (List ℕ)) (found : List (List Token)) (now there rest : List (List ℕ)) : Type 0 where
  pub on : (more : List (List Token)) (later last : List (List ℕ)) (end : Ending) → AreUnits held limit now there rest more later last end → AreUnits held limit texts files names (found ++ more) later last end

pub goes_next : (held : Option (List ℕ → Option (List ℕ))) (limit : ℕ) (texts files names : List (List ℕ)) (found : List (List Token)) (now there rest middle between left : List (List ℕ)) (name : List ℕ) (tokens : List Token)
    → Goes held limit texts files names found now there rest → rest ≡ name ∷ left → IsUnit held limit name now there tokens middle between Ended → HasTree middle tokens
    → Goes held limit texts files names (found ++ (tokens ∷ [])) middle between left
goes_next held limit texts files names found now there rest middle between left name tokens goes split is has = record {
  on = λ more later last end are.
      subst (λ z. AreUnits held limit texts files names z later last end) (sym (append_assoc found (tokens ∷ []) more))
      (goes.on (tokens ∷ more) later last end (subst (λ z. AreUnits held limit now there z (tokens ∷ more) later last end) (sym split)
      (next now there middle between later last left name tokens more end is has are)));
}

pub goes_refused : (held : Option (List ℕ → Option (List ℕ))) (limit : ℕ) (texts files names : List (List ℕ)) (found : List (List Token)) (now there rest later last left : List (List ℕ)) (name : List ℕ) (r : Refusal)
    → Goes held limit texts files names found now there rest → rest ≡ name ∷ left → IsRefusedUnit held limit name now there later last r
    → AreUnits held limit texts files names (found ++ []) later last (Stopped r)
goes_refused held limit texts files names found now there rest later last left name r goes split is =
    goes.on [] later last (Stopped r) (subst (λ z. AreUnits held limit now there z [] later last (Stopped r)) (sym split)
    (refused now there later last left name r is))

pub goes_end : (held : Option (List ℕ → Option (List ℕ))) (limit : ℕ) (texts files names : List (List ℕ)) (found : List (List Token)) (now there rest : List (List ℕ))
    → Goes held limit texts files names found now there rest → rest ≡ [] → AreUnits held limit texts files names found now there Whole
goes_end held limit texts files names found now there rest goes over =
    subst (λ z. AreUnits held limit texts files names z now there Whole) (append-nil found)
    (goes.on [] now there Whole (subst (λ z. AreUnits held limit now there z [] now there Whole) (sym over) (none now there)))

-- what is read of the units that are left stands behind the functions that were read
pub record ReadsOn (texts : List (List ℕ)) (units : List (List Token)) (found : List FunctionTree) (rest : List (List Token)) : Type 0 where
  pub read_on : (more : List FunctionTree) → AreRead texts rest more → AreRead texts units (found ++ more)
  pub unread_on : (place : Place) → IsUnreadAt texts rest place → IsUnreadAt texts units place

pub reads_next : (texts : List (List ℕ)) (units rest left : List (List Token)) (found functions : List FunctionTree) (tokens : List Token)
    → ReadsOn texts units found rest → rest ≡ tokens ∷ left → IsFile (pieces_of texts tokens) functions → ReadsOn texts units (found ++ functions) left
reads_next texts units rest left found functions tokens goes split is = record {
  read_on = λ more are.
      subst (AreRead texts units) (sym (append_assoc found functions more))
      (goes.read_on (functions ++ more) (subst (λ z. AreRead texts z (functions ++ more)) (sym split) (read tokens left functions more is are)));
  unread_on = λ place there. goes.unread_on place (subst (λ z. IsUnreadAt texts z place) (sym split) (behind tokens left functions place is there));
}

pub reads_refused : (texts : List (List ℕ)) (units rest left : List (List Token)) (found : List FunctionTree) (tokens : List Token) (at : Piece) (place : Place)
    → ReadsOn texts units found rest → rest ≡ tokens ∷ left → IsRefusedAt (pieces_of texts tokens) at → place ≡ at.place → IsUnreadAt texts units place
reads_refused texts units rest left found tokens at place goes split is place_is =
    goes.unread_on place (subst (λ z. IsUnreadAt texts z place) (sym split) (subst (IsUnreadAt texts (tokens ∷ left)) (sym place_is) (here tokens left at is)))

pub reads_end : (texts : List (List ℕ)) (units rest : List (List Token)) (found : List FunctionTree) → ReadsOn texts units found rest → rest ≡ [] → AreRead texts units found
reads_end texts units rest found goes over = subst (AreRead texts units) (append-nil found) (goes.read_on [] (subst (λ z. AreRead texts z []) (sym over) ended))

-- ---- lists that are walked

-- what is left of a list begins with the element that is met
pub dropped : {A B : Type 0} (f : A → B) (xs : List A) (i : ℕ) (x : A) → i < length xs → x ≡ get_or xs i x → map f (drop i xs) ≡ f x ∷ map f (drop (i + 1) xs)
dropped f xs i x within is = ap (map f) (drop-cons xs i x within) ∙ rw (← is, add-one) refl

pub none_left : {A B : Type 0} (f : A → B) (xs : List A) (i : ℕ) → length xs ≤ i → map f (drop i xs) ≡ []
none_left f xs i past = ap (map f) (drop_of_length-le xs past)

-- ---- refused pieces

pub refused_some : (ts : List Piece) (left : ℕ) → IsRefused IsFile ts left → 0 < length ts
refused_some [] left r = absurd (none_is_refused IsFile [] left [] r (record { are = nothing; distinct = tt }))
refused_some (t ∷ ts) left r = omega arith

left_within : (front bad : List Piece) (ts : List Piece) (left : ℕ) → ts ≡ front ++ bad → left ≡ length bad → left ≤ length ts
left_within front bad ts left split left_is = let whole = ap length split in let parts = length-append front bad in omega (arith, whole, parts, left_is)

pub refused_within : (ts : List Piece) (left : ℕ) → IsRefused IsFile ts left → left ≤ length ts
refused_within ts left r = left_within r.front r.bad ts left r.split r.left_is

-- ---- the answers of code

-- a unit that its preprocessing does not end is not whole
pub unit_stops : (Y : Type 0) (held : Option (List ℕ → Option (List ℕ))) (limit : ℕ) (name : List ℕ) (texts files later last : List (List ℕ)) (fault : UnitFault)
    → IsFault (IsUnitRefused held limit name texts files last) fault → UnitEndsAs {Y = Y} held limit name texts files later last (Err fault)
unit_stops Y held limit name texts files later last (stop.Refused r) told =
    let is : IsUnitRefused held limit name texts files last r.number r.place = told.0 in (
      is.later,
      subst (λ z. IsRefusedUnit held limit name texts files is.later last (record { number = r.number; place = r.place; feature = z })) (sym told.1)
          (by_preprocessor is.tokens r.number r.place is.refused),
    )
unit_stops Y held limit name texts files later last stop.Read told = tt
unit_stops Y held limit name texts files later last stop.Memory told = tt

-- a unit that is not whole ends the units
pub units_stop : (Y Z : Type 0) (held now_held : Option (List ℕ → Option (List ℕ))) (limit now_limit : ℕ) (texts files names : List (List ℕ)) (found : List (List Token)) (now there rest later last left : List (List ℕ)) (name : List ℕ) (fault : UnitFault)
    → now_held ≡ held → now_limit ≡ limit → Goes held limit texts files names found now there rest → rest ≡ name ∷ left
    → UnitEndsAs {Y = Y} now_held now_limit name now there later last (Err fault)
    → EndAs {Y = Y} {Z = Z} held limit texts files names later last (Err fault)
units_stop Y Z held now_held limit now_limit texts files names found now there rest later last left name (stop.Refused r) same most goes split told =
    let is : IsRefusedUnit now_held now_limit name now there told.0 last r = told.1 in
    let moved : IsRefusedUnit held limit name now there told.0 last r = subst (λ h. IsRefusedUnit h limit name now there told.0 last r) same
    (subst (λ m. IsRefusedUnit now_held m name now there told.0 last r) most is) in
    (found ++ [], told.0, goes_refused held limit texts files names found now there rest told.0 last left name r goes split moved)
units_stop Y Z held now_held limit now_limit texts files names found now there rest later last left name stop.Read same most goes split told = tt
units_stop Y Z held now_held limit now_limit texts files names found now there rest later last left name stop.Memory same most goes split told = tt

pub units_go : (held now_held : Option (List ℕ → Option (List ℕ))) (limit now_limit : ℕ) (texts files names : List (List ℕ)) (found : List (List Token)) (now there rest middle between left : List (List ℕ)) (name : List ℕ) (tokens : List Token)
    → now_held ≡ held → now_limit ≡ limit → Goes held limit texts files names found now there rest → rest ≡ name ∷ left → IsUnit now_held now_limit name now there tokens middle between Ended × HasTree middle tokens
    → Goes held limit texts files names (found ++ (tokens ∷ [])) middle between left
units_go held now_held limit now_limit texts files names found now there rest middle between left name tokens same most goes split is =
    goes_next held limit texts files names found now there rest middle between left name tokens goes split
    (subst (λ h. IsUnit h limit name now there tokens middle between Ended) same (subst (λ m. IsUnit now_held m name now there tokens middle between Ended) most is.0)) is.1

-- a unit that is no text ends the reading
pub reads_stop : (Y Z : Type 0) (texts : List (List ℕ)) (units rest left : List (List Token)) (found : List FunctionTree) (tokens : List Token) (fault : SetFault)
    → ReadsOn texts units found rest → rest ≡ tokens ∷ left → UnitReadAs {Z = Y} (pieces_of texts tokens) (Err fault) → ReadAs {Z = Z} texts units (Err fault)
reads_stop Y Z texts units rest left found tokens (Unread place) goes split is = reads_refused texts units rest left found tokens is.0 place goes split is.1 is.2
reads_stop Y Z texts units rest left found tokens Memory goes split is = tt
