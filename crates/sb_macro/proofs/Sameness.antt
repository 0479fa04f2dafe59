-- What `==` says of names and of the pieces of replacement lists.
use Rattle.std.proofs.Common.{◌≡◌, Bool, true, false, ap, refl, subst, rules, not, IsTrue, ◌↔◌, List, Some}
use Rattle.std.specs.Bool.{Decides}
use Rattle.std.proofs.lemmas.Bool.Decides.{Decides-eqb, Decides-and, Decides-like}
use denote.Enum.Bare.{same_true, sameb}
use mathlib.Core.Bool.{beq}
use Rattle.sb_base.specs.declared.interning.Name.{Name}
use Rattle.sb_base.specs.contracts.interning.NamePartialEq.TheImpl.{eq-value as name_eq}
use Rattle.sb_base.specs.declared.tokens.PpKind.{PpKind}
use Rattle.sb_base.specs.declared.tokens.PpKind.TheVariants.{Word, Number, Char, Text, Header, Punct}
use Rattle.sb_base.specs.contracts.tokens.PpKind.{the_type}
use Rattle.sb_macro.specs.declared.stored.Part.{Part}
use Rattle.sb_macro.specs.declared.stored.Stored.{Stored}
use Rattle.sb_macro.specs.Macros.{Macro, macro_of, params_of}
use Rattle.sb_macro.specs.contracts.stored.PartPartialEq.TheImpl.{eq-value as part_eq}

pub name_decides : (a b : Name) → Decides ((name_eq).it a b) (a ≡ b)
name_decides a b =
    Decides-like _ (λ e. ap {B = Name} (λ n. record { 0 = n }) e) (λ e. ap (λ (n : Name). n.0) e) (Decides-eqb a.0 b.0)

kind_same : (k : PpKind) → sameb the_type k k ≡ true
kind_same Word = refl
kind_same Number = refl
kind_same Char = refl
kind_same Text = refl
kind_same Header = refl
kind_same Punct = refl

kind_decides : (a b : PpKind) → Decides (sameb the_type a b) (a ≡ b)
kind_decides a b = (same_true the_type (search rules) a b, λ e. subst (λ k. sameb the_type a k ≡ true) e (kind_same a))

flag_decides : (a b : Bool) → Decides (beq a b) (a ≡ b)
flag_decides true true = (λ _. refl, λ _. refl)
flag_decides true false = (λ e. cc, λ e. cc)
flag_decides false true = (λ e. cc, λ e. cc)
flag_decides false false = (λ _. refl, λ _. refl)

pub part_decides : (a b : Part) → Decides ((part_eq).it a b) (a ≡ b)
part_decides a b =
    Decides-like _ (λ e i. record { kind = e.0 i; text = e.1.0 i; spaced = e.1.1 i })
    (λ e. (ap (λ (p : Part). p.kind) e, (ap (λ (p : Part). p.text) e, ap (λ (p : Part). p.spaced) e)))
    (Decides-and _ _ (kind_decides a.kind b.kind) (Decides-and _ _ (name_decides a.text b.text) (flag_decides a.spaced b.spaced)))

pub true_where_not : (b : Bool) → false ≡ not b → b ≡ true
true_where_not true e = refl
true_where_not false e = cc

pub params_same : (xs ys : List Name) → (xs ≡ ys) ↔ (Some xs ≡ Some ys)
params_same xs ys = (ap Some, λ e. cc)

-- macros are identical where their names, their parameters and their replacement lists are
pub macros_same : (a b : Stored) (bodies : Bool) → a.name ≡ b.name → params_of a.params ≡ params_of b.params → Decides bodies (a.body.items ≡ b.body.items) → IsTrue bodies ↔ (macro_of a ≡ macro_of b)
macros_same a b bodies names params d =
    (Decides-like bodies (λ e i. record { name = names i; params = params i; body = e i }) (λ e. ap (λ (m : Macro). m.body) e) d)
