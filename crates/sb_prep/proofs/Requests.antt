-- what the line of a directive asks for, by the pieces that it has
use Rattle.std.proofs.Common.{◌≡◌, ℕ, ◌<◌, Bool, true, false, not, List, [], ◌∷◌, length, drop, refl, subst, arith, if◌then◌else◌, codes}
use Rattle.std.proofs.lemmas.List.Elements.{All-head, All-tail}
use Rattle.sb_base.specs.declared.refusals.Place.{Place}
use Rattle.sb_lex.specs.declared.piece.PpToken.{PpToken}
use Rattle.sb_directive.specs.declared.asks.Asks.{Asks}
use Rattle.sb_directive.specs.declared.asks.Asks.TheVariants as asked
use Rattle.sb_directive.specs.declared.directive.Branch.{Branch}
use Rattle.sb_directive.specs.declared.directive.Directive.{Directive}
use Rattle.sb_directive.specs.declared.directive.Directive.TheVariants.{Null, If, Ifdef, Ifndef, Elif, Else, Endif, Include, Define, Undef, Line, Error, Pragma, Unknown}
use Rattle.sb_directive.specs.Asking.{asks, asks_of, on_word, on_branch, on_end, on_define, on_include, on_pragma}
use Rattle.sb_directive.specs.Branches.{is_read, new_branch, skipped_branch, may_read, next_group, last_group}
use Rattle.sb_directive.specs.Lines.{is_word, is_spelled, place_of, directive_of}
use Rattle.sb_directive.specs.Rules.{Table, is_macro}
use Rattle.sb_prep.specs.Stopping.{IsIn, AreIn}
use Rattle.sb_prep.proofs.Held.{IsPieceIn, drop_in}

pub head_in : (count : ℕ) (t : PpToken) (ts : List PpToken) → AreIn count (t ∷ ts) → IsIn count t.place
head_in count t ts held = All-head (IsPieceIn count) t ts held.all

pub tail_in : (count : ℕ) (t : PpToken) (ts : List PpToken) → AreIn count (t ∷ ts) → AreIn count ts
tail_in count t ts held = record { all = All-tail (IsPieceIn count) t ts held.all }

pub word_in : (count : ℕ) (line : List PpToken) → 0 < length line → AreIn count line → IsIn count (place_of line)
word_in count [] some held = absurd (omega arith)
word_in count (hash ∷ []) some held = head_in count hash [] held
word_in count (hash ∷ word ∷ rest) some held = head_in count word rest (tail_in count hash (word ∷ rest) held)

same_place : (n m : ℕ) (p q : Place) → asked.Refused n p ≡ asked.Refused m q → p ≡ q
same_place n m p q e = cc

moved_in : (count n m : ℕ) (p q : Place) → IsIn count p → asked.Refused n p ≡ asked.Refused m q → IsIn count q
moved_in count n m p q here e = subst (λ r. r.file < count) (same_place n m p q e) here

if_case : {Q : Type 0} (target : Asks) (r : Bool) (x y : Asks) → (x ≡ target → Q) → (y ≡ target → Q) → (if r then x else y) ≡ target → Q
if_case target true x y f g e = f e
if_case target false x y f g e = g e

word_case : {Q : Type 0} (target : Asks) (at : Place) (f : PpToken → Asks) (rest : List PpToken) → (asked.Refused 24 at ≡ target → Q)
    → ((t : PpToken) (ts : List PpToken) → rest ≡ t ∷ ts → f t ≡ target → Q) → ((t : PpToken) (ts : List PpToken) → rest ≡ t ∷ ts → asked.Refused 24 t.place ≡ target → Q)
    → on_word at f rest ≡ target → Q
word_case target at f [] none word other e = none e
word_case target at f (t ∷ ts) none word other e = if_case target (is_word t) (f t) (asked.Refused 24 t.place) (word t ts refl) (other t ts refl) e

branch_case : {Q : Type 0} (target : Asks) (at : Place) (f : Branch → Asks) (bs : List Branch) → (asked.Refused 25 at ≡ target → Q) → ((b : Branch) → f b ≡ target → Q) → on_branch at f bs ≡ target → Q
branch_case target at f [] none some e = none e
branch_case target at f (b ∷ bs) none some e = if_case target b.after_else (asked.Refused 25 at) (f b) none (some b) e

module _ (count number : ℕ) (place at : Place) (at_in : IsIn count at) where
  here : (n : ℕ) → asked.Refused n at ≡ asked.Refused number place → IsIn count place
  here n e = moved_in count n number at place at_in e

  word_refused : (f : PpToken → Asks) (rest : List PpToken) → AreIn count rest → ((t : PpToken) → f t ≡ asked.Refused number place → ⊥) → on_word at f rest ≡ asked.Refused number place → IsIn count place
  word_refused f rest held never e =
      word_case (asked.Refused number place) at f rest (here 24) (λ t ts is same. absurd (never t same))
      (λ t ts is same. moved_in count 24 number t.place place (head_in count t ts (rw is at held)) same) e

  branch_refused : (f : Branch → Asks) (bs : List Branch) → ((b : Branch) → f b ≡ asked.Refused number place → ⊥) → on_branch at f bs ≡ asked.Refused number place → IsIn count place
  branch_refused f bs never e = branch_case (asked.Refused number place) at f bs (here 25) (λ b same. absurd (never b same)) e

  end_refused : (bs : List Branch) → on_end at bs ≡ asked.Refused number place → IsIn count place
  end_refused [] e = here 25 e
  end_refused (b ∷ bs) e = absurd (cc)

  define_refused : (rest : List PpToken) → on_define at rest ≡ asked.Refused number place → IsIn count place
  define_refused [] e = here 11 e
  define_refused (t ∷ ts) e = absurd (cc)

  include_refused : (rest : List PpToken) → on_include at rest ≡ asked.Refused number place → IsIn count place
  include_refused [] e = here 24 e
  include_refused (t ∷ ts) e = absurd (cc)

  pragma_refused : (texts : List (List ℕ)) (rest : List PpToken) → on_pragma texts rest ≡ asked.Refused number place → IsIn count place
  pragma_refused texts [] e = absurd (cc)
  pragma_refused texts (t ∷ ts) e = if_case (asked.Refused number place) (is_spelled (codes "once") texts t) asked.Once asked.Nothing (λ f. absurd (cc)) (λ f. absurd (cc)) e

  module _ (texts : List (List ℕ)) (table : Table) (bs : List Branch) (rest : List PpToken) (held : AreIn count rest) where
    where_read : (x y : Asks) → (x ≡ asked.Refused number place → IsIn count place) → (y ≡ asked.Refused number place → ⊥) → (if is_read bs then x else y) ≡ asked.Refused number place → IsIn count place
    where_read x y f g e = if_case (asked.Refused number place) (is_read bs) x y f (λ same. absurd (g same)) e

    refused_in : (directive : Directive) → asks_of texts table bs at rest directive ≡ asked.Refused number place → IsIn count place
    refused_in Null e = absurd (cc)
    refused_in If e = where_read asked.OpensIf (asked.Opens skipped_branch) (λ f. absurd (cc)) (λ f. cc) e
    refused_in Ifdef e = where_read (on_word at (λ t. asked.Opens (new_branch (is_macro table t.text))) rest) (asked.Opens skipped_branch) (word_refused (λ t. asked.Opens (new_branch (is_macro table t.text))) rest held (λ t f. cc)) (λ f. cc) e
    refused_in Ifndef e = where_read (on_word at (λ t. asked.Opens (new_branch (not (is_macro table t.text)))) rest) (asked.Opens skipped_branch) (word_refused (λ t. asked.Opens (new_branch (not (is_macro table t.text)))) rest held (λ t f. cc)) (λ f. cc) e
    refused_in Elif e = branch_refused (λ b. if may_read b then asked.TurnsIf b else asked.Becomes (next_group b false)) bs (λ b f. if_case (asked.Refused number place) (may_read b) (asked.TurnsIf b) (asked.Becomes (next_group b false)) (λ s. cc) (λ s. cc) f) e
    refused_in Else e = branch_refused (λ b. asked.Becomes (last_group b)) bs (λ b f. cc) e
    refused_in Endif e = end_refused bs e
    refused_in Include e = where_read (on_include at rest) asked.Nothing (include_refused rest) (λ f. cc) e
    refused_in Define e = where_read (on_define at rest) asked.Nothing (define_refused rest) (λ f. cc) e
    refused_in Undef e = where_read (on_word at (λ t. asked.Undefines t.text) rest) asked.Nothing (word_refused (λ t. asked.Undefines t.text) rest held (λ t f. cc)) (λ f. cc) e
    refused_in Line e = where_read (asked.Refused 15 at) asked.Nothing (here 15) (λ f. cc) e
    refused_in Error e = where_read (asked.Refused 27 at) asked.Nothing (here 27) (λ f. cc) e
    refused_in Pragma e = where_read (on_pragma texts rest) asked.Nothing (pragma_refused texts rest) (λ f. cc) e
    refused_in Unknown e = where_read (asked.Refused 24 at) asked.Nothing (here 24) (λ f. cc) e

-- the place by which a line is refused is in a file that has a number
pub line_refused_in : (count number : ℕ) (place : Place) (texts : List (List ℕ)) (table : Table) (bs : List Branch) (line : List PpToken) → 0 < length line → AreIn count line
    → asks texts table bs line ≡ asked.Refused number place → IsIn count place
line_refused_in count number place texts table bs line some held e =
    refused_in count number place (place_of line) (word_in count line some held) texts table bs (drop 2 line) (drop_in count 2 line held) (directive_of texts line) e

-- ---- `#include` and `#define` have pieces behind their words

-- a request that neither refuses, nor speaks of branches, nor is made of a line without pieces behind its word
record NeedsPieces (target : Asks) : Type 0 where
  no_refusal : (number : ℕ) (place : Place) → asked.Refused number place ≡ target → ⊥
  not_nothing : asked.Nothing ≡ target → ⊥
  no_opening : (b : Branch) → asked.Opens b ≡ target → ⊥
  no_opening_if : asked.OpensIf ≡ target → ⊥
  no_turn : (b : Branch) → asked.TurnsIf b ≡ target → ⊥
  no_change : (b : Branch) → asked.Becomes b ≡ target → ⊥
  no_end : asked.Closes ≡ target → ⊥

module _ (target : Asks) (needs : NeedsPieces target) where
  word_some : (f : PpToken → Asks) (at : Place) (rest : List PpToken) → on_word at f rest ≡ target → 0 < length rest
  word_some f at [] e = absurd (needs.no_refusal 24 at e)
  word_some f at (t ∷ ts) e = omega arith

  define_some : (at : Place) (rest : List PpToken) → on_define at rest ≡ target → 0 < length rest
  define_some at [] e = absurd (needs.no_refusal 11 at e)
  define_some at (t ∷ ts) e = omega arith

  include_some : (at : Place) (rest : List PpToken) → on_include at rest ≡ target → 0 < length rest
  include_some at [] e = absurd (needs.no_refusal 24 at e)
  include_some at (t ∷ ts) e = omega arith

  pragma_some : (texts : List (List ℕ)) (rest : List PpToken) → on_pragma texts rest ≡ target → 0 < length rest
  pragma_some texts [] e = absurd (needs.not_nothing e)
  pragma_some texts (t ∷ ts) e = omega arith

  no_branch : (f : Branch → Asks) (at : Place) (bs : List Branch) → ((b : Branch) → f b ≡ target → ⊥) → on_branch at f bs ≡ target → ⊥
  no_branch f at bs never e = branch_case target at f bs (needs.no_refusal 25 at) never e

  no_closing : (at : Place) (bs : List Branch) → on_end at bs ≡ target → ⊥
  no_closing at [] e = needs.no_refusal 25 at e
  no_closing at (b ∷ bs) e = needs.no_end e

  module _ (texts : List (List ℕ)) (table : Table) (bs : List Branch) (at : Place) (rest : List PpToken) where
    some_where_read : (x y : Asks) → (x ≡ target → 0 < length rest) → (y ≡ target → ⊥) → (if is_read bs then x else y) ≡ target → 0 < length rest
    some_where_read x y f g e = if_case target (is_read bs) x y f (λ same. absurd (g same)) e

    pieces_behind : (directive : Directive) → asks_of texts table bs at rest directive ≡ target → 0 < length rest
    pieces_behind Null e = absurd (needs.not_nothing e)
    pieces_behind If e = some_where_read asked.OpensIf (asked.Opens skipped_branch) (λ f. absurd (needs.no_opening_if f)) (needs.no_opening skipped_branch) e
    pieces_behind Ifdef e = some_where_read (on_word at (λ t. asked.Opens (new_branch (is_macro table t.text))) rest) (asked.Opens skipped_branch) (word_some (λ t. asked.Opens (new_branch (is_macro table t.text))) at rest) (needs.no_opening skipped_branch) e
    pieces_behind Ifndef e = some_where_read (on_word at (λ t. asked.Opens (new_branch (not (is_macro table t.text)))) rest) (asked.Opens skipped_branch) (word_some (λ t. asked.Opens (new_branch (not (is_macro table t.text)))) at rest) (needs.no_opening skipped_branch) e
    pieces_behind Elif e = absurd (no_branch (λ b. if may_read b then asked.TurnsIf b else asked.Becomes (next_group b false)) at bs (λ b f. if_case target (may_read b) (asked.TurnsIf b) (asked.Becomes (next_group b false)) (needs.no_turn b) (needs.no_change (next_group b false)) f) e)
    pieces_behind Else e = absurd (no_branch (λ b. asked.Becomes (last_group b)) at bs (λ b f. needs.no_change (last_group b) f) e)
    pieces_behind Endif e = absurd (no_closing at bs e)
    pieces_behind Include e = some_where_read (on_include at rest) asked.Nothing (include_some at rest) needs.not_nothing e
    pieces_behind Define e = some_where_read (on_define at rest) asked.Nothing (define_some at rest) needs.not_nothing e
    pieces_behind Undef e = some_where_read (on_word at (λ t. asked.Undefines t.text) rest) asked.Nothing (word_some (λ t. asked.Undefines t.text) at rest) needs.not_nothing e
    pieces_behind Line e = some_where_read (asked.Refused 15 at) asked.Nothing (λ f. absurd (needs.no_refusal 15 at f)) needs.not_nothing e
    pieces_behind Error e = some_where_read (asked.Refused 27 at) asked.Nothing (λ f. absurd (needs.no_refusal 27 at f)) needs.not_nothing e
    pieces_behind Pragma e = some_where_read (on_pragma texts rest) asked.Nothing (pragma_some texts rest) needs.not_nothing e
    pieces_behind Unknown e = some_where_read (asked.Refused 24 at) asked.Nothing (λ f. absurd (needs.no_refusal 24 at f)) needs.not_nothing e

include_needs : NeedsPieces asked.Includes
include_needs = record {
  no_refusal = λ number place e. cc e;
  not_nothing = λ e. cc e;
  no_opening = λ b e. cc e;
  no_opening_if = λ e. cc e;
  no_turn = λ b e. cc e;
  no_change = λ b e. cc e;
  no_end = λ e. cc e;
}

define_needs : NeedsPieces asked.Defines
define_needs = record {
  no_refusal = λ number place e. cc e;
  not_nothing = λ e. cc e;
  no_opening = λ b e. cc e;
  no_opening_if = λ e. cc e;
  no_turn = λ b e. cc e;
  no_change = λ b e. cc e;
  no_end = λ e. cc e;
}

pub include_has_pieces : (texts : List (List ℕ)) (table : Table) (bs : List Branch) (line : List PpToken) → asks texts table bs line ≡ asked.Includes → 0 < length (drop 2 line)
include_has_pieces texts table bs line e = pieces_behind asked.Includes include_needs texts table bs (place_of line) (drop 2 line) (directive_of texts line) e

pub define_has_pieces : (texts : List (List ℕ)) (table : Table) (bs : List Branch) (line : List PpToken) → asks texts table bs line ≡ asked.Defines → 0 < length (drop 2 line)
define_has_pieces texts table bs line e = pieces_behind asked.Defines define_needs texts table bs (place_of line) (drop 2 line) (directive_of texts line) e
