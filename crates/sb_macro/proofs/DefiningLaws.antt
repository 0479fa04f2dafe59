-- A line is read as a definition exactly where it is one.
use Rattle.std.proofs.Common.{◌≡◌, ◌&&◌, ℕ, Bool, true, false, not, List, [], ◌∷◌, ◌++◌, Option, Some, None, Result, Ok, Err, ap, refl, sym, ◌∙◌, subst, append_assoc, if◌then◌else◌, MatchResult}
use Rattle.sb_base.specs.declared.interning.Name.{Name}
use Rattle.sb_base.specs.declared.refusals.Place.{Place}
use Rattle.sb_base.specs.declared.refusals.Refusal.{Refusal}
use Rattle.sb_base.specs.declared.tokens.PpKind.{PpKind}
use Rattle.sb_base.specs.declared.tokens.PpKind.TheVariants.{Word}
use Rattle.sb_lex.specs.declared.piece.PpToken.{PpToken}
use Rattle.sb_macro.specs.declared.halt.Halt.{Halt}
use Rattle.sb_macro.specs.declared.halt.Halt.TheVariants.{Refused, Memory}
use Rattle.sb_macro.specs.declared.stored.Stored.{Stored}
use Rattle.sb_macro.specs.Adding.{HasCompared, IsAddition}
use Rattle.sb_macro.specs.declared.lines.Expected.{Expected}
use Rattle.sb_macro.specs.declared.lines.Expected.TheVariants.{First, Next, Separator}
use Rattle.sb_macro.specs.declared.lines.Listed.{Listed}
use Rattle.sb_macro.specs.declared.lines.Listed.TheVariants.{Named, Separated, Ended, Bad}
use Rattle.sb_macro.specs.declared.marks.Mark.{Mark}
use Rattle.sb_macro.specs.declared.marks.Mark.TheVariants.{Open, Close, Comma, Dots, Hash, Other}
use Rattle.sb_macro.specs.Defines.{IsIdentifierList, one, more, OpensList, Defines, object_like, without_params, with_params, IsDefined, defined, conflicts, malformed, RefusesLine, macro_at}
use Rattle.sb_macro.specs.Definition as spec
use Rattle.sb_macro.specs.Definition.{listed, listed_as, listing_on, parameters, first_hash, parts, replacement_at, replacement_list, with_body, lists_params, definition, definition_of, IsFault}
use Rattle.sb_macro.specs.Expansion.{is_word, is_open}
use Rattle.sb_macro.specs.Halts.{refusal, stop_of}
use Rattle.sb_macro.specs.Macros.{Macro, macro_named, macro_of}
use Rattle.sb_macro.specs.Marks.{mark_of}

word_kind : (kind : PpKind) → is_word kind ≡ true → kind ≡ Word
word_kind Word is = refl
word_kind _ is = absurd (cc)

both_true : (a b : Bool) → (a && b) ≡ true → (a ≡ true) × (b ≡ true)
both_true true b e = (refl, e)
both_true false b e = absurd (cc)

not_true : (b : Bool) → not b ≡ true → b ≡ false
not_true true e = absurd (cc)
not_true false e = refl

first_separator : First ≡ Separator → ⊥
first_separator e = absurd (cc)

next_separator : Next ≡ Separator → ⊥
next_separator e = absurd (cc)

first_next : First ≡ Next → ⊥
first_next e = absurd (cc)

separator_next : Separator ≡ Next → ⊥
separator_next e = absurd (cc)

-- what each answer says of the piece
named_means : (mark : Mark) (expected : Expected) (is_new : Bool) → listed_as mark expected is_new ≡ Named → (mark ≡ Other) × (is_new ≡ true) × (expected ≡ Separator → ⊥)
named_means Other First true e = (refl, refl, first_separator)
named_means Other Next true e = (refl, refl, next_separator)
named_means Open First true e = absurd (cc)
named_means Open First false e = absurd (cc)
named_means Open Next true e = absurd (cc)
named_means Open Next false e = absurd (cc)
named_means Open Separator true e = absurd (cc)
named_means Open Separator false e = absurd (cc)
named_means Close First true e = absurd (cc)
named_means Close First false e = absurd (cc)
named_means Close Next true e = absurd (cc)
named_means Close Next false e = absurd (cc)
named_means Close Separator true e = absurd (cc)
named_means Close Separator false e = absurd (cc)
named_means Comma First true e = absurd (cc)
named_means Comma First false e = absurd (cc)
named_means Comma Next true e = absurd (cc)
named_means Comma Next false e = absurd (cc)
named_means Comma Separator true e = absurd (cc)
named_means Comma Separator false e = absurd (cc)
named_means Dots First true e = absurd (cc)
named_means Dots First false e = absurd (cc)
named_means Dots Next true e = absurd (cc)
named_means Dots Next false e = absurd (cc)
named_means Dots Separator true e = absurd (cc)
named_means Dots Separator false e = absurd (cc)
named_means Hash First true e = absurd (cc)
named_means Hash First false e = absurd (cc)
named_means Hash Next true e = absurd (cc)
named_means Hash Next false e = absurd (cc)
named_means Hash Separator true e = absurd (cc)
named_means Hash Separator false e = absurd (cc)
named_means Other First false e = absurd (cc)
named_means Other Next false e = absurd (cc)
named_means Other Separator true e = absurd (cc)
named_means Other Separator false e = absurd (cc)

separated_means : (mark : Mark) (expected : Expected) (is_new : Bool) → listed_as mark expected is_new ≡ Separated → (mark ≡ Comma) × (expected ≡ Separator)
separated_means Comma Separator true e = (refl, refl)
separated_means Comma Separator false e = (refl, refl)
separated_means Open First true e = absurd (cc)
separated_means Open First false e = absurd (cc)
separated_means Open Next true e = absurd (cc)
separated_means Open Next false e = absurd (cc)
separated_means Open Separator true e = absurd (cc)
separated_means Open Separator false e = absurd (cc)
separated_means Close First true e = absurd (cc)
separated_means Close First false e = absurd (cc)
separated_means Close Next true e = absurd (cc)
separated_means Close Next false e = absurd (cc)
separated_means Close Separator true e = absurd (cc)
separated_means Close Separator false e = absurd (cc)
separated_means Comma First true e = absurd (cc)
separated_means Comma First false e = absurd (cc)
separated_means Comma Next true e = absurd (cc)
separated_means Comma Next false e = absurd (cc)
separated_means Dots First true e = absurd (cc)
separated_means Dots First false e = absurd (cc)
separated_means Dots Next true e = absurd (cc)
separated_means Dots Next false e = absurd (cc)
separated_means Dots Separator true e = absurd (cc)
separated_means Dots Separator false e = absurd (cc)
separated_means Hash First true e = absurd (cc)
separated_means Hash First false e = absurd (cc)
separated_means Hash Next true e = absurd (cc)
separated_means Hash Next false e = absurd (cc)
separated_means Hash Separator true e = absurd (cc)
separated_means Hash Separator false e = absurd (cc)
separated_means Other First true e = absurd (cc)
separated_means Other First false e = absurd (cc)
separated_means Other Next true e = absurd (cc)
separated_means Other Next false e = absurd (cc)
separated_means Other Separator true e = absurd (cc)
separated_means Other Separator false e = absurd (cc)

ended_means : (mark : Mark) (expected : Expected) (is_new : Bool) → listed_as mark expected is_new ≡ Ended → (mark ≡ Close) × (expected ≡ Next → ⊥)
ended_means Close First true e = (refl, first_next)
ended_means Close First false e = (refl, first_next)
ended_means Close Separator true e = (refl, separator_next)
ended_means Close Separator false e = (refl, separator_next)
ended_means Open First true e = absurd (cc)
ended_means Open First false e = absurd (cc)
ended_means Open Next true e = absurd (cc)
ended_means Open Next false e = absurd (cc)
ended_means Open Separator true e = absurd (cc)
ended_means Open Separator false e = absurd (cc)
ended_means Close Next true e = absurd (cc)
ended_means Close Next false e = absurd (cc)
ended_means Comma First true e = absurd (cc)
ended_means Comma First false e = absurd (cc)
ended_means Comma Next true e = absurd (cc)
ended_means Comma Next false e = absurd (cc)
ended_means Comma Separator true e = absurd (cc)
ended_means Comma Separator false e = absurd (cc)
ended_means Dots First true e = absurd (cc)
ended_means Dots First false e = absurd (cc)
ended_means Dots Next true e = absurd (cc)
ended_means Dots Next false e = absurd (cc)
ended_means Dots Separator true e = absurd (cc)
ended_means Dots Separator false e = absurd (cc)
ended_means Hash First true e = absurd (cc)
ended_means Hash First false e = absurd (cc)
ended_means Hash Next true e = absurd (cc)
ended_means Hash Next false e = absurd (cc)
ended_means Hash Separator true e = absurd (cc)
ended_means Hash Separator false e = absurd (cc)
ended_means Other First true e = absurd (cc)
ended_means Other First false e = absurd (cc)
ended_means Other Next true e = absurd (cc)
ended_means Other Next false e = absurd (cc)
ended_means Other Separator true e = absurd (cc)
ended_means Other Separator false e = absurd (cc)

-- the list of parameters was read so far: these tokens stand before the next
data HasRead (texts : List (List ℕ)) : Expected → List PpToken → List Name → Type 0 where
  nothing : HasRead texts First [] []
  a_list : (list : List PpToken) (params : List Name) → IsIdentifierList texts list params → HasRead texts Separator list params
  a_comma : (list : List PpToken) (params : List Name) (comma : PpToken) → IsIdentifierList texts list params → mark_of texts comma.text ≡ Comma → HasRead texts Next (list ++ comma ∷ []) params

-- how a list of parameters ends
data Ends (texts : List (List ℕ)) (front : List PpToken) (list : List PpToken) (all : List Name) (after : List PpToken) : Type 0 where
  ends_empty : (close : PpToken) → mark_of texts close.text ≡ Close → front ++ list ≡ close ∷ after → all ≡ [] → Ends texts front list all after
  ends_list : (read : List PpToken) (close : PpToken) → IsIdentifierList texts read all → mark_of texts close.text ≡ Close → front ++ list ≡ read ++ close ∷ after → Ends texts front list all after

named_on : (texts : List (List ℕ)) (expected : Expected) (front : List PpToken) (params : List Name) (t : PpToken) → HasRead texts expected front params
    → listed texts expected params t ≡ Named → HasRead texts Separator (front ++ t ∷ []) (params ++ t.text ∷ [])
named_on texts First front params t nothing is =
    let means = named_means (mark_of texts t.text) First _ is in
    let new = both_true _ _ means.1 in
    a_list _ _ (one t (record { word = word_kind t.kind new.0; plain = means.0 }))
named_on texts Separator front params t (a_list list params' read) is = absurd ((named_means (mark_of texts t.text) Separator _ is).2 refl)
named_on texts Next front params t (a_comma list params' comma read is_comma) is =
    let means = named_means (mark_of texts t.text) Next _ is in
    let new = both_true _ _ means.1 in
    let whole = more list params comma t read is_comma (record { word = word_kind t.kind new.0; plain = means.0 }) (not_true _ new.1) in
    a_list _ _ (subst (λ l. IsIdentifierList texts l (params ++ t.text ∷ [])) (sym (append_assoc list (comma ∷ []) (t ∷ []))) whole)

ended_at : (texts : List (List ℕ)) (expected : Expected) (front : List PpToken) (params : List Name) (t : PpToken) (rest : List PpToken) → HasRead texts expected front params
    → listed texts expected params t ≡ Ended → Ends texts front (t ∷ rest) params rest
ended_at texts First front params t rest nothing is = ends_empty t (ended_means (mark_of texts t.text) First _ is).0 refl refl
ended_at texts Separator front params t rest (a_list list params' read) is = ends_list list t read (ended_means (mark_of texts t.text) Separator _ is).0 refl
ended_at texts Next front params t rest (a_comma list params' comma read is_comma) is = absurd ((ended_means (mark_of texts t.text) Next _ is).1 refl)

separated_on : (texts : List (List ℕ)) (expected : Expected) (front : List PpToken) (params : List Name) (t : PpToken) → HasRead texts expected front params
    → listed texts expected params t ≡ Separated → HasRead texts Next (front ++ t ∷ []) params
separated_on texts First front params t nothing is = absurd (first_separator (separated_means (mark_of texts t.text) First _ is).1)
separated_on texts Separator front params t (a_list list params' read) is = a_comma list params t read (separated_means (mark_of texts t.text) Separator _ is).0
separated_on texts Next front params t (a_comma list params' comma read is_comma) is = absurd (next_separator (separated_means (mark_of texts t.text) Next _ is).1)

-- one piece later
ends_before : (texts : List (List ℕ)) (front : List PpToken) (t : PpToken) (list : List PpToken) (all : List Name) (after : List PpToken)
    → Ends texts (front ++ t ∷ []) list all after → Ends texts front (t ∷ list) all after
ends_before texts front t list all after (ends_empty close closes is none) = ends_empty close closes (sym (append_assoc front (t ∷ []) list) ∙ is) none
ends_before texts front t list all after (ends_list read close listed closes is) = ends_list read close listed closes (sym (append_assoc front (t ∷ []) list) ∙ is)

listing_step : (texts : List (List ℕ)) (expected : Expected) (front : List PpToken) (params : List Name) (t : PpToken) (rest : List PpToken) (all : List Name) (after : List PpToken)
    → HasRead texts expected front params
    → ((next : Expected) (more : List Name) → HasRead texts next (front ++ t ∷ []) more → parameters texts next more t.place rest ≡ Ok (all, after) → Ends texts (front ++ t ∷ []) rest all after)
    → (l : Listed) → listed texts expected params t ≡ l → listing_on l params t rest (λ next more. parameters texts next more t.place rest) ≡ Ok (all, after)
    → Ends texts front (t ∷ rest) all after
listing_step texts expected front params t rest all after read on Named is e =
    ends_before texts front t rest all after (on Separator (params ++ t.text ∷ []) (named_on texts expected front params t read is) e)
listing_step texts expected front params t rest all after read on Separated is e =
    ends_before texts front t rest all after (on Next params (separated_on texts expected front params t read is) e)
listing_step texts expected front params t rest all after read on Ended is e =
    let listing : ◌≡◌ {A = List Name × List PpToken} (params, rest) (all, after) = cc in
    let same_all = ap (λ (p : List Name × List PpToken). p.0) listing in
    let same_after = ap (λ (p : List Name × List PpToken). p.1) listing in
    subst (λ l. Ends texts front (t ∷ rest) l after) same_all (subst (λ l. Ends texts front (t ∷ rest) params l) same_after (ended_at texts expected front params t rest read is))
listing_step texts expected front params t rest all after read on (Bad number) is e = absurd (cc)

-- a list of parameters that is read is one
parameters_read : (texts : List (List ℕ)) (expected : Expected) (front : List PpToken) (params : List Name) (last : Place) (rest : List PpToken) (all : List Name) (after : List PpToken)
    → HasRead texts expected front params → parameters texts expected params last rest ≡ Ok (all, after) → Ends texts front rest all after
parameters_read texts expected front params last [] all after read e = absurd (cc)
parameters_read texts expected front params last (t ∷ rest) all after read e =
    listing_step texts expected front params t rest all after read
    (λ next more has is. parameters_read texts next (front ++ t ∷ []) more t.place rest all after has is) (listed texts expected params t) refl e

body_read : (name : Name) (params : Option (List Name)) (list : List PpToken) (hash : Option PpToken) (m : Macro) → with_body name params (replacement_at list hash) ≡ Ok m
    → (hash ≡ None) × (record { name = name; params = params; body = parts list } ≡ m)
body_read name params list None m e = (refl, (let f : ◌≡◌ {A = Macro} (record { name = name; params = params; body = parts list }) m = cc in f))
body_read name params list (Some t) m e = absurd (cc)

opens_list : (texts : List (List ℕ)) (t : PpToken) → lists_params texts t ≡ true → OpensList texts t
opens_list texts t is =
    let both = both_true _ _ is in
    record { opens = open_mark (mark_of texts t.text) both.0; directly = not_true t.spaced both.1 }
  where
    open_mark : (mark : Mark) → is_open mark ≡ true → mark ≡ Open
    open_mark Open e = refl
    open_mark _ e = absurd (cc)

function_read : (texts : List (List ℕ)) (name t : PpToken) (rest : List PpToken) (m : Macro) → name.kind ≡ Word → OpensList texts t → (found : spec.Listing)
    → parameters texts First [] t.place rest ≡ found → spec.with_params texts name.text found ≡ Ok m → Defines texts (name ∷ t ∷ rest) m
function_read texts name t rest m word opens (Err r) is e = absurd (cc)
function_read texts name t rest m word opens (Ok listing) is e =
    let body = body_read name.text (Some listing.0) listing.1 (first_hash texts listing.1) m e in
    subst (Defines texts (name ∷ t ∷ rest)) body.1 (ended (parameters_read texts First [] [] t.place rest listing.0 listing.1 nothing is) body.0)
  where
    ended : Ends texts [] rest listing.0 listing.1 → first_hash texts listing.1 ≡ None → Defines texts (name ∷ t ∷ rest) (record { name = name.text; params = Some listing.0; body = parts listing.1 })
    ended (ends_empty close closes split none) plain =
        subst (λ l. Defines texts (name ∷ t ∷ l) (record { name = name.text; params = Some listing.0; body = parts listing.1 })) (sym split)
        (subst (λ l. Defines texts (name ∷ t ∷ close ∷ listing.1) (record { name = name.text; params = Some l; body = parts listing.1 })) (sym none)
        (without_params name t close listing.1 word opens closes plain))
    ended (ends_list list close is_list closes split) plain =
        subst (λ l. Defines texts (name ∷ t ∷ l) (record { name = name.text; params = Some listing.0; body = parts listing.1 })) (sym split)
        (with_params name t list close listing.0 listing.1 word opens is_list closes plain)

definition_of_read : (texts : List (List ℕ)) (name : PpToken) (rest : List PpToken) (m : Macro) → name.kind ≡ Word → definition_of texts name.text rest ≡ Ok m → Defines texts (name ∷ rest) m
definition_of_read texts name [] m word e =
    let body = body_read name.text None [] None m e in subst (Defines texts (name ∷ [])) body.1 (object_like name [] word (λ begins. begins) refl)
definition_of_read texts name (t ∷ rest) m word e = at (lists_params texts t) refl e
  where
    at : (lists : Bool) → lists_params texts t ≡ lists
        → (if lists then spec.with_params texts name.text (parameters texts First [] t.place rest) else with_body name.text None (replacement_list texts (t ∷ rest))) ≡ Ok m
        → Defines texts (name ∷ t ∷ rest) m
    at true is e = function_read texts name t rest m word (opens_list texts t is) (parameters texts First [] t.place rest) refl e
    at false is e =
        let body = body_read name.text None (t ∷ rest) (first_hash texts (t ∷ rest)) m e in
        subst (Defines texts (name ∷ t ∷ rest)) body.1 (object_like name (t ∷ rest) word (λ begins. no_list begins) body.0)
      where
        no_list : OpensList texts t → ⊥
        no_list begins = let lists : lists_params texts t ≡ true = rw (begins.opens, begins.directly) refl in absurd (cc)

-- a line that is read as a definition is one
pub definition_reads : (texts : List (List ℕ)) (line : List PpToken) (m : Macro) → definition texts line ≡ Ok m → Defines texts line m
definition_reads texts [] m e = absurd (cc)
definition_reads texts (name ∷ rest) m e = at (is_word name.kind) refl e
  where
    at : (word : Bool) → is_word name.kind ≡ word → (if word then definition_of texts name.text rest else Err (refusal 11 name.place)) ≡ Ok m → Defines texts (name ∷ rest) m
    at true is e = definition_of_read texts name rest m (word_kind name.kind is) e
    at false is e = absurd (cc)

-- the parameters of a list are read, whatever follows it
list_read : (texts : List (List ℕ)) (list : List PpToken) (params : List Name) (last : Place) → IsIdentifierList texts list params
    → (end : Place) × ((tail : List PpToken) → parameters texts First [] last (list ++ tail) ≡ parameters texts Separator params end tail)
list_read texts _ _ last (one t is) = (t.place, λ tail. rw (is.plain, is.word) refl)
list_read texts _ _ last (more list params comma t read is_comma is new) =
    let before = list_read texts list params last read in
    (t.place, λ tail. rw (append_assoc list (comma ∷ t ∷ []) tail) (before.1 (comma ∷ t ∷ tail) ∙ rw (is_comma, is.plain, is.word, new) refl))

-- and a definition is read as such
pub defines_read : (texts : List (List ℕ)) (line : List PpToken) (m : Macro) → Defines texts line m → definition texts line ≡ Ok m
defines_read texts _ _ (object_like name [] word plain whole) = rw word refl
defines_read texts _ _ (object_like name (t ∷ body) word plain whole) = rw word (at (lists_params texts t) refl)
  where
    at : (lists : Bool) → lists_params texts t ≡ lists
        → (if lists then spec.with_params texts name.text (parameters texts First [] t.place body) else with_body name.text None (replacement_list texts (t ∷ body)))
        ≡ Ok (record { name = name.text; params = None; body = parts (t ∷ body) })
    at true is = absurd (plain (opens_list texts t is))
    at false is = rw whole refl
defines_read texts _ _ (without_params name t close body word opens closes whole) = rw (word, opens.opens, opens.directly, closes, whole) refl
defines_read texts _ _ (with_params name t list close params body word opens is_list closes whole) =
    let found = list_read texts list params t.place is_list in
    rw (word, opens.opens, opens.directly, found.1 (close ∷ body), closes, whole) refl

-- the name that a definition defines is the one that the line begins with
pub defines_named : (texts : List (List ℕ)) (table : List Macro) (line : List PpToken) (m : Macro) → Defines texts line m → macro_at table line ≡ macro_named table m.name
defines_named texts table _ _ (object_like name body word plain whole) = rw word refl
defines_named texts table _ _ (without_params name t close body word opens closes whole) = rw word refl
defines_named texts table _ _ (with_params name t list close params body word opens is_list closes whole) = rw word refl

-- a line has one definition
pub defines_one : (texts : List (List ℕ)) (line : List PpToken) (m other : Macro) → Defines texts line m → Defines texts line other → m ≡ other
defines_one texts line m other first second =
    let same : ◌≡◌ {A = Result Macro Refusal} (Ok m) (Ok other) = sym (defines_read texts line m first) ∙ defines_read texts line other second in cc

module _ (texts : List (List ℕ)) (table : List Macro) (line : List PpToken) (m : Macro) (reads : definition texts line ≡ Ok m) where
  -- a macro whose name is new
  pub defined_new : macro_at table line ≡ None → (macro_named table m.name ≡ None) × IsDefined texts table line (table ++ m ∷ [])
  defined_new new =
      let is = definition_reads texts line m reads in
      let none = sym (defines_named texts table line m is) ∙ new in
      (none, defined m is (λ other there. absurd (let e = sym none ∙ there in cc)) (rw none refl))

  -- a macro that stands
  pub defined_same : macro_at table line ≡ Some m → IsDefined texts table line table
  defined_same stands =
      let is = definition_reads texts line m reads in
      let there = sym (defines_named texts table line m is) ∙ stands in
      defined m is (λ other at. let e = sym at ∙ there in cc) (rw there refl)

-- the line is refused where it was read as none, and its name has no macro
pub refused_new : (texts : List (List ℕ)) (table : List Macro) (line : List PpToken) (halt : Halt) → macro_at table line ≡ None → IsFault (definition texts line) halt
    → RefusesLine texts table line (stop_of halt)
refused_new texts table line (Refused number place) new fault = malformed line (refusal number place) new fault
refused_new texts table line Memory new fault = tt

-- what comes of a line whose name has a macro
pub compared_says : (texts : List (List ℕ)) (table : List Macro) (name : PpToken) (rest : List PpToken) (parsed : Result Stored Halt) (other : Macro) (result : Result (Option Stored) Halt)
    → MatchResult parsed (λ stored. definition texts (name ∷ rest) ≡ Ok (macro_of stored)) (IsFault (definition texts (name ∷ rest)))
    → macro_at table (name ∷ rest) ≡ Some other → HasCompared parsed other name.place result
    → MatchResult result (IsAddition texts table (name ∷ rest)) (λ halt. RefusesLine texts table (name ∷ rest) (stop_of halt))
compared_says texts table name rest (Ok stored) other (Ok None) reads there same = (macro_of stored, reads, there ∙ ap Some same)
compared_says texts table name rest (Ok stored) other (Ok (Some added)) reads there same = absurd same
compared_says texts table name rest (Ok stored) other (Err (Refused number at)) reads there (differs, twelve, place) =
    rw (twelve, place) (conflicts name rest other there (λ is. differs (defines_one texts (name ∷ rest) other (macro_of stored) is (definition_reads texts (name ∷ rest) (macro_of stored) reads))))
compared_says texts table name rest (Ok stored) other (Err Memory) reads there same = tt
compared_says texts table name rest (Err (Refused n p)) other (Ok added) fault there same = absurd same
compared_says texts table name rest (Err (Refused n p)) other (Err (Refused number at)) fault there (twelve, place) =
    rw (twelve, place) (conflicts name rest other there (λ is. not_both (defines_read texts (name ∷ rest) other is) fault))
  where
    not_both : definition texts (name ∷ rest) ≡ Ok other → definition texts (name ∷ rest) ≡ Err (refusal n p) → ⊥
    not_both ok err = absurd (let e : ◌≡◌ {A = Result Macro Refusal} (Ok other) (Err (refusal n p)) = sym ok ∙ err in cc)
compared_says texts table name rest (Err (Refused n p)) other (Err Memory) fault there same = tt
compared_says texts table name rest (Err Memory) other (Ok added) fault there same = absurd same
compared_says texts table name rest (Err Memory) other (Err (Refused number at)) fault there same = absurd same
compared_says texts table name rest (Err Memory) other (Err Memory) fault there same = tt

pub compared_line : (texts : List (List ℕ)) (table : List Macro) (line : List PpToken) (name : PpToken) (rest : List PpToken) (parsed : Result Stored Halt) (other : Macro) (result : Result (Option Stored) Halt)
    → name ∷ rest ≡ line → MatchResult parsed (λ stored. definition texts line ≡ Ok (macro_of stored)) (IsFault (definition texts line))
    → macro_at table line ≡ Some other → HasCompared parsed other name.place result
    → MatchResult result (IsAddition texts table line) (λ halt. RefusesLine texts table line (stop_of halt))
compared_line texts table line name rest parsed other result is =
    subst (λ l. MatchResult parsed (λ stored. definition texts l ≡ Ok (macro_of stored)) (IsFault (definition texts l)) → macro_at table l ≡ Some other
    → HasCompared parsed other name.place result → MatchResult result (IsAddition texts table l) (λ halt. RefusesLine texts table l (stop_of halt)))
    is (compared_says texts table name rest parsed other result)

module _ (texts : List (List ℕ)) (table : List Macro) (line : List PpToken) where
  pub nothing_added : IsAddition texts table line None → IsDefined texts table line table
  nothing_added (m, reads, there) = defined_same texts table line m reads there

  pub one_added : (stored : Stored) → IsAddition texts table line (Some stored) → (macro_named table stored.name ≡ None) × IsDefined texts table line (table ++ macro_of stored ∷ [])
  one_added stored (reads, new) = defined_new texts table line (macro_of stored) reads new
