-- a unit, from its file to its tokens
use Rattle.std.proofs.Common.{◌≡◌, ◌≤◌, arith, drop, Bool, true, length-drop, ℕ, ◌<◌, List, [], ◌∷◌, ◌++◌, length, Option, Some, Result, Ok, Err, MatchResult, slice_get, refl, sym, ◌∙◌, ap, subst}
use Rattle.std.specs.declared.alloc.Global.{Global}
use Rattle.std.specs.declared.vec.Vec.{Vec}
use Rattle.std.proofs.lemmas.List.Elements.{All-nil, All-cons, All-get_or}
use Rattle.std.proofs.lemmas.Option.{slice_get_within, get_or_from_slice_get}
use Rattle.sb_base.specs.Found.{Found, Whole as Present, IsFound}
use Rattle.sb_base.specs.Names.{with_text}
use Rattle.sb_base.specs.declared.refusals.Place.{Place}
use Rattle.sb_base.specs.declared.refusals.Stop.{Stop}
use Rattle.sb_base.specs.declared.refusals.Stop.TheVariants as stop
use Rattle.sb_base.specs.declared.tokens.Token.{Token}
use Rattle.sb_lex.specs.Faults.{IsNoPieces}
use Rattle.sb_lex.specs.Lexing.{PiecesOf, End, Whole, Stopped}
use Rattle.sb_lex.specs.declared.piece.PpToken.{PpToken}
use Rattle.sb_directive.specs.Ending.{Ending, Ended, Refused}
use Rattle.sb_directive.specs.Lines.{end_of}
use Rattle.sb_directive.specs.Stopping.{IsStop}
use Rattle.sb_prep.specs.declared.fault.UnitFault.{UnitFault}
use Rattle.sb_prep.specs.declared.fault.UnitFault.TheVariants as fault
use Rattle.sb_prep.specs.Reading.{IsFileRead, IsFileRefused, HasPieces, HasNoPieces, IsUnitRefused}
use Rattle.sb_prep.specs.Standing.{Standing, moved_to, start}
use Rattle.sb_prep.specs.Stopping.{IsFault, IsKept, IsIn, AreIn, AreTokensIn, fault_of_stop}
use Rattle.sb_prep.specs.Tokens.{is_text_kind, Converts, IsNoTokens, texts_in_front}
use Rattle.sb_prep.specs.Unit.{Progress, with_file, with_names, beginning, file_start, Leaves, IsUnit}
use Rattle.sb_prep.proofs.Held.{IsPieceIn, drop_in, pieces_in, kept_with}
use Rattle.sb_prep.proofs.Requests.{head_in, tail_in}

-- ---- the place by which tokens are refused is that of a piece

refusal_in : (count n m : ℕ) (p q : Place) → IsIn count p → Refused n p ≡ Refused m q → IsIn count q
refusal_in count n m p q here e = let same : p ≡ q = cc in subst (λ r. r.file < count) same here

pub converts_in : (count number : ℕ) (place : Place) {limit : ℕ} {texts later : List (List ℕ)} {ps : List PpToken} {ts : List Token} {end : Ending}
    → Converts limit texts ps ts later end → end ≡ Refused number place → AreIn count ps → IsIn count place
converts_in count number place (Converts.ended texts) is held = absurd (cc)
converts_in count number place (Converts.token texts later t ts more end value kind has rest) is held = converts_in count number place rest is (tail_in count t ts held)
converts_in count number place (Converts.no_value texts t ts kind none) is held = refusal_in count 4 number t.place place (head_in count t ts held) is
converts_in count number place (Converts.literals texts later t ts more end bytes n kind names room numbered rest) is held =
    converts_in count number place rest is (drop_in count (texts_in_front (t ∷ ts)) (t ∷ ts) held)
converts_in count number place (Converts.no_bytes texts t u ts bytes good kind within names at none) is held =
    refusal_in count 4 number u.place place (rw (get_or_from_slice_get (t ∷ ts) good u u at) at (All-get_or (IsPieceIn count) (t ∷ ts) good u (slice_get_within (t ∷ ts) good u at) held.all)) is
converts_in count number place (Converts.no_room texts t ts bytes kind names none) is held = refusal_in count 28 number t.place place (head_in count t ts held) is

-- ---- each token stands where a piece does, and no two stand for one

abbrev IsTokenIn : ℕ → Token → Type 0
IsTokenIn count t = t.place.file < count

no_tokens_in : (count : ℕ) → AreTokensIn count []
no_tokens_in count = record { all = All-nil (IsTokenIn count) }

token_in : (count : ℕ) (t : Token) (ts : List Token) → t.place.file < count → AreTokensIn count ts → AreTokensIn count (t ∷ ts)
token_in count t ts here rest = record { all = All-cons (IsTokenIn count) t ts here rest.all }

pub tokens_in : (count : ℕ) {limit : ℕ} {texts later : List (List ℕ)} {ps : List PpToken} {ts : List Token} {end : Ending} → Converts limit texts ps ts later end → AreIn count ps → AreTokensIn count ts
tokens_in count (Converts.token texts later t ts more end value kind has rest) held = token_in count _ more (head_in count t ts held) (tokens_in count rest (tail_in count t ts held))
tokens_in count (Converts.literals texts later t ts more end bytes n kind names room numbered rest) held =
    token_in count _ more (head_in count t ts held) (tokens_in count rest (drop_in count (texts_in_front (t ∷ ts)) (t ∷ ts) held))
tokens_in count _ held = no_tokens_in count

behind_literals : (t : PpToken) (ts : List PpToken) (first : Bool) → is_text_kind t.kind ≡ first → first ≡ true → length (drop (texts_in_front (t ∷ ts)) (t ∷ ts)) ≤ length ts
behind_literals t ts first is holds = rw (is ∙ holds) (omega (arith, length-drop {A = PpToken}))

pub as_many : {limit : ℕ} {texts later : List (List ℕ)} {ps : List PpToken} {ts : List Token} {end : Ending} → Converts limit texts ps ts later end → length ts ≤ length ps
as_many (Converts.token texts later t ts more end value kind has rest) = let less : length more ≤ length ts = as_many rest in omega arith
as_many (Converts.literals texts later t ts more end bytes n kind names room numbered rest) =
    let less : length more ≤ length (drop (texts_in_front (t ∷ ts)) (t ∷ ts)) = as_many rest in
    let some : length (drop (texts_in_front (t ∷ ts)) (t ∷ ts)) ≤ length ts = behind_literals t ts true kind refl in
    omega arith
as_many _ = omega arith

-- ---- the pieces of the file of a unit

pub lexed : (old new : Standing) (file : ℕ) (found : Found) (bytes : List ℕ) (halt : Stop) → found ≡ Present bytes → IsNoPieces file old.limit old.at.texts bytes new.at.texts halt
    → IsStop (HasNoPieces old file found new) halt
lexed old new file found bytes stop.Memory is none = tt
lexed old new file found bytes (stop.Refused r) is none = (
  subst (λ f. HasNoPieces old file found new r.number (record { file = f; line = r.place.line; col = r.place.col })) (sym none.2)
      (HasNoPieces.not_pieces bytes none.0 r.number r.place.line r.place.col is none.1),
  none.3,
)

pub lexed_result : (old new : Standing) (file : ℕ) (found : Found) (bytes : List ℕ) (result : Result (Vec PpToken Global) Stop) → found ≡ Present bytes
    → MatchResult result (λ out. PiecesOf file old.limit old.at.texts bytes out.items new.at.texts Whole) (IsNoPieces file old.limit old.at.texts bytes new.at.texts)
    → MatchResult result (λ pieces. HasPieces old file found new pieces.items) (IsStop (HasNoPieces old file found new))
lexed_result old new file found bytes (Ok out) is told = (bytes, is, told)
lexed_result old new file found bytes (Err halt) is told = lexed old new file found bytes halt is told

-- ---- the unit

module _ (held : Option (List ℕ → Option (List ℕ))) (name : List ℕ) (number : ℕ) (found : Found) (zero first second : Standing) (start_is : zero ≡ start zero.limit zero.at.texts zero.at.files)
    (numbered : slice_get first.at.files number ≡ Some name) (moved : first ≡ moved_to zero (with_file zero.at name)) (had : IsFound held name found)
    (lexed_to : second ≡ moved_to first (with_names first.at second.at.texts)) where
  files_are : second.at.files ≡ with_text zero.at.files name
  files_are = ap (λ s. s.at.files) lexed_to ∙ ap (λ s. s.at.files) moved

  number_is : slice_get (with_text zero.at.files name) number ≡ Some name
  number_is = rw (ap (λ s. s.at.files) moved) at numbered

  limit_is : second.limit ≡ zero.limit
  limit_is = ap (λ s. s.limit) lexed_to ∙ ap (λ s. s.limit) moved

  out_is : second.out ≡ []
  out_is = ap (λ s. s.out) lexed_to ∙ ap (λ s. s.out) moved ∙ ap (λ s. s.out) start_is

  begins_at : second.at ≡ beginning second.at.texts (with_text zero.at.files name)
  begins_at = ap (λ s. s.at) lexed_to ∙ ap (λ s. with_names s.at second.at.texts) moved ∙ ap (λ s. with_names (with_file s.at name) second.at.texts) start_is

  pub number_in : number < length second.at.files
  number_in = rw (ap (λ s. s.at.files) lexed_to) (slice_get_within first.at.files number name numbered)

  pub kept : IsKept zero.at.files second.at.files
  kept = rw files_are (kept_with zero.at.files name)

  lexed_from : (bytes : List ℕ) (ps : List PpToken) (end : End) → PiecesOf number first.limit first.at.texts bytes ps second.at.texts end → PiecesOf number zero.limit zero.at.texts bytes ps second.at.texts end
  lexed_from bytes ps end pieces = rw (ap (λ s. s.limit) moved, ap (λ s. s.at.texts) moved) at pieces

  no_pieces : (refusal : ℕ) (place : Place) → HasNoPieces first number found second refusal place → IsUnitRefused held zero.limit name zero.at.texts zero.at.files second.at.files refusal place
  no_pieces _ _ (HasNoPieces.missing is same) = record { tokens = []; later = zero.at.texts; refused = rw files_are (IsUnit.not_there number number_is (rw is at had)); within = number_in }
  no_pieces _ _ (HasNoPieces.too_big is same) = record { tokens = []; later = zero.at.texts; refused = rw files_are (IsUnit.too_long number number_is (rw is at had)); within = number_in }
  no_pieces _ _ (HasNoPieces.not_pieces bytes ps refusal row col is pieces) = record {
    tokens = [];
    later = second.at.texts;
    refused = rw files_are (IsUnit.not_pieces number refusal row col bytes ps second.at.texts number_is (rw is at had) (lexed_from bytes ps (Stopped refusal row col) pieces));
    within = number_in;
  }

  pub not_read : (halt : Stop) → IsStop (HasNoPieces first number found second) halt → IsFault (IsUnitRefused held zero.limit name zero.at.texts zero.at.files second.at.files) (fault_of_stop halt)
  not_read stop.Memory told = tt
  not_read (stop.Refused r) told = (no_pieces r.number r.place told.0, told.1)

  module _ (pieces : List PpToken) (had_pieces : HasPieces first number found second pieces) (third : Standing) where
    pub pieces_held : AreIn (length second.at.files) pieces
    pieces_held = pieces_in (length second.at.files) number first.limit number_in had_pieces.2

    found_is : IsFound held name (Present had_pieces.0)
    found_is = rw had_pieces.1 at had

    leaves_from : (given : List PpToken) (later : Progress) (end : Ending) → Leaves held second.limit 0 number (end_of (file_start number) pieces) [] second.at pieces given later end
        → Leaves held zero.limit 0 number (end_of (file_start number) pieces) [] (beginning second.at.texts (with_text zero.at.files name)) pieces given later end
    leaves_from given later end leaves =
        subst (λ p. Leaves held zero.limit 0 number (end_of (file_start number) pieces) [] p pieces given later end) begins_at
        (subst (λ l. Leaves held l 0 number (end_of (file_start number) pieces) [] second.at pieces given later end) limit_is leaves)

    stopped : (refusal : ℕ) (place : Place) → IsFileRefused held 0 number pieces second third refusal place → IsUnitRefused held zero.limit name zero.at.texts zero.at.files third.at.files refusal place
    stopped refusal place refused = record {
      tokens = [];
      later = refused.later.texts;
      refused = subst (λ files. IsUnit held zero.limit name zero.at.texts zero.at.files [] refused.later.texts files (Refused refusal place)) refused.files_are
          (IsUnit.stops number refusal had_pieces.0 pieces refused.given second.at.texts refused.later place number_is found_is (lexed_from had_pieces.0 pieces Whole had_pieces.2)
          (leaves_from refused.given refused.later (Refused refusal place) refused.leaves));
      within = refused.within;
    }

    pub file_refused : (end : UnitFault) → IsFault (IsFileRefused held 0 number pieces second third) end → IsFault (IsUnitRefused held zero.limit name zero.at.texts zero.at.files third.at.files) end
    file_refused fault.Read told = tt
    file_refused fault.Memory told = tt
    file_refused (fault.Refused r) told = (stopped r.number r.place told.0, told.1)

    module _ (read : IsFileRead held 0 number pieces second third) (same : third.limit ≡ second.limit) (fourth : Standing) (converted_to : fourth ≡ moved_to third (with_names third.at fourth.at.texts)) where
      given_is : third.out ≡ read.given
      given_is = read.out_is ∙ ap (λ out. out ++ read.given) out_is

      pub converted : (ts : List Token) (end : Ending) → Converts third.limit third.at.texts third.out ts fourth.at.texts end
          → IsUnit held zero.limit name zero.at.texts zero.at.files ts fourth.at.texts fourth.at.files end
      converted ts end converts =
          subst (λ files. IsUnit held zero.limit name zero.at.texts zero.at.files ts fourth.at.texts files end) (sym (ap (λ s. s.at.files) converted_to))
          (IsUnit.tokens number had_pieces.0 pieces read.given second.at.texts fourth.at.texts third.at ts end number_is found_is (lexed_from had_pieces.0 pieces Whole had_pieces.2)
          (leaves_from read.given third.at Ended read.leaves) (rw (same ∙ limit_is, given_is) at converts))

      pub no_tokens : (halt : Stop) → AreIn (length third.at.files) third.out → IsNoTokens third.limit third.at.texts third.out fourth.at.texts halt
          → IsFault (IsUnitRefused held zero.limit name zero.at.texts zero.at.files fourth.at.files) (fault_of_stop halt)
      no_tokens stop.Memory in_files told = tt
      no_tokens (stop.Refused r) in_files told = (
        record {
          tokens = told.0.0;
          later = fourth.at.texts;
          refused = converted told.0.0 (Refused r.number r.place) told.0.1;
          within = rw (ap (λ s. s.at.files) converted_to) (converts_in (length third.at.files) r.number r.place told.0.1 refl in_files);
        },
        told.1,
      )
