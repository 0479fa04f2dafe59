-- Which groups of an if-section are read, in the words of C99 6.10.1, for the laws that directives keep (src/sections.rt).
use Rattle.std.specs.Prelude.{◌≡◌, ◌⊎◌, ℕ, suc, Bool, true, false, not, List, [], ◌∷◌, ◌++◌, All, map, length, drop, Option, Some, None, IfSome, option_map, option_and_then, option_to_list}
use Rattle.sb_lex.specs.declared.piece.PpToken.{PpToken}
use Rattle.sb_directive.specs.declared.directive.Branch.{Branch}
use Rattle.sb_directive.specs.declared.directive.Directive.{Directive}
use Rattle.sb_directive.specs.declared.directive.Directive.TheVariants.{If, Ifdef, Ifndef, Elif, Else}
use Rattle.sb_directive.specs.declared.asks.Asks.{Asks}
use Rattle.sb_directive.specs.declared.asks.Asks.TheVariants.{OpensIf, TurnsIf}
use Rattle.sb_directive.specs.Lines.{directive_of}
use Rattle.sb_directive.specs.Asking.{asks, branches_after, branches_if}
use Rattle.sb_directive.specs.Rules.{Table, is_macro}

-- the number of the first condition that holds, counted from 0
abbrev pub first_true : List Bool → Option ℕ
first_true [] = None
first_true (true ∷ conditions) = Some 0
first_true (false ∷ conditions) = option_map suc (first_true conditions)

-- ---- the lines of a section

-- The line of a directive, with the tables that stand there. `holds`: what the expression behind `if` or `elif` comes to, where it is evaluated
pub record Turn : Type 0 where
  pub texts : List (List ℕ)
  pub table : Table
  pub line : List PpToken
  pub holds : Bool

abbrev pub directive : Turn → Directive
directive t = directive_of t.texts t.line

-- whether the word behind `ifdef` or `ifndef` names a macro
abbrev pub names_macro : Table → List PpToken → Bool
names_macro table [] = false
names_macro table (word ∷ more) = is_macro table word.text

abbrev pub condition_of : Turn → Directive → Bool
condition_of t Ifdef = names_macro t.table (drop 2 t.line)
condition_of t Ifndef = not (names_macro t.table (drop 2 t.line))
condition_of t _ = t.holds

-- whether the condition of the line holds
abbrev pub condition : Turn → Bool
condition t = condition_of t (directive t)

-- an if-section as far as it has come: its first line, its `#elif`s in their order, and its `#else`, if that has come
pub record Section : Type 0 where
  pub first : Turn
  pub elifs : List Turn
  pub last : Option Turn

abbrev pub begins_section : Directive → Type 0
begins_section d = (d ≡ If) ⊎ ((d ≡ Ifdef) ⊎ (d ≡ Ifndef))

pub record IsSection (s : Section) : Type 0 where
  pub first : begins_section (directive s.first)
  pub elifs : All (λ t. directive t ≡ Elif) s.elifs
  pub last : IfSome s.last (λ t. directive t ≡ Else)

abbrev pub lines : Section → List Turn
lines s = (s.first ∷ s.elifs) ++ option_to_list s.last

-- in their order, without the `#else`, which has none
abbrev pub conditions : Section → List Bool
conditions s = map condition (s.first ∷ s.elifs)

-- Paragraph 6, of the group that stands now: its condition is the first that holds; of the group of the `#else`: none holds. In text that is read
--   `#if 0`, `#elif 1`, `#elif 1`, `#else`: the second group is read, and no other
--   `#if 1`, `#elif` and any expression, `#else`: the first, and the expression is not evaluated
--   `#if 0`, `#else`: the last
-- and in text that is skipped, as of `#if 1` in the group of an `#if 0`, none is
abbrev pub IsChosen : Section → Type 0
IsChosen s = chosen s.last
  where
    chosen : Option Turn → Type 0
    chosen None = first_true (conditions s) ≡ Some (length s.elifs)
    chosen (Some t) = first_true (conditions s) ≡ None

-- ---- the branches behind lines

abbrev pub either_of : Option (List Branch) → Option (List Branch) → Option (List Branch)
either_of None other = other
either_of (Some bs) other = Some bs

-- behind a line that asks so, for a condition or not; nothing where the line is refused
abbrev pub turned : Asks → Bool → List Branch → Option (List Branch)
turned asks holds bs = either_of (branches_after asks bs) (branches_if asks holds bs)

abbrev pub behind : List Branch → Turn → Option (List Branch)
behind bs t = turned (asks t.texts t.table bs t.line) t.holds bs

abbrev pub behind_all : List Turn → List Branch → Option (List Branch)
behind_all [] bs = Some bs
behind_all (t ∷ ts) bs = option_and_then (behind_all ts) (behind bs t)

-- a section that has come so far in these branches, and the branches there
pub record Stands (s : Section) (bs now : List Branch) : Type 0 where
  pub is : IsSection s
  pub come : behind_all (lines s) bs ≡ Some now

-- whether the line asks what its expression comes to
abbrev pub is_evaluated : Asks → Bool
is_evaluated OpensIf = true
is_evaluated (TurnsIf b) = true
is_evaluated _ = false

-- the lines of sections, each in a group of the one behind it in the list
abbrev pub nested_lines : List Section → List Turn
nested_lines [] = []
nested_lines (s ∷ outer) = nested_lines outer ++ lines s
