-- Why the reader of translation units stops: each stop has a reason.
use Rattle.std.proofs.Common.{◌≡◌, ◌≤◌, ℕ, true, false, List, [], ◌++◌, length, Result, Ok, Err, refl, sym, ap, ◌∙◌, subst, arith}
use Rattle.sb_base.specs.declared.interning.Name.{Name}
use Rattle.sb_base.specs.declared.refusals.Stop.{Stop}
use Rattle.sb_base.specs.declared.refusals.Stop.TheVariants.{Refused, Memory}
use Rattle.sb_base.specs.declared.tokens.Token.{Token}
use Rattle.sb_parse.specs.Parser.{Outcome, Parser, done, stop, at_next, and_then, ◌>>=◌, choose}
use Rattle.sb_parse.specs.Lawful.{Part}
use Rattle.sb_parse.proofs.Explaining.{Stops}
use Rattle.sb_specifier.specs.Specified.{reading}
use Rattle.sb_specifier.specs.Readers as declaring
use Rattle.sb_specifier.specs.Readers.{Declarator, Declarations, ends_nameless}
use Rattle.sb_declare.specs.Readers.{Opening, opening, nameless, declarator_in, rest_of_declaration}
use Rattle.sb_declarator.specs.Readers.{parts}
use Rattle.sb_parse.proofs.Telling.{Tells, Telling, tells_behind, by_choice, mapping, turning}
use Rattle.sb_specifier.proofs.telling.Reasons.{reasons}
use Rattle.sb_declare.proofs.laws.Scoping.{FitsOpening, more_opening}
use Rattle.sb_declare.proofs.laws.Scoped.{opening_law}
use Rattle.sb_declarator.proofs.laws.Parts.{members_below, parameters_below}
use Rattle.sb_declarator.proofs.telling.Parts.{parts_telling}
use Rattle.sb_declare.proofs.telling.Declarations.{Counted, declarator_counted, rest_tells, nameless_tells, opening_telling}
use Rattle.sb_unit.specs.Readers.{defines, defined, external_behind, external, unit_reader}
use Rattle.sb_unit.specs.Reads.{IsUnitRead}
use Rattle.sb_statement.specs.Reasons.{IsUnitReason}
use Rattle.sb_unit.specs.Reasons.{IsRefusedUnit, HasUnitReason}
use Rattle.sb_block.proofs.telling.Statements.{unit_reasons, lifted, statements_tell}
use Rattle.sb_unit.proofs.laws.Units.{unit_refused}
use Rattle.sb_unit.proofs.widening.Units.{unit_at_every_depth, unit_at_end}
use Rattle.sb_unit.proofs.deepening.Units.{unit_at_some_depth}

module _ (texts : List (List ℕ)) (below : ℕ) (some : 1 ≤ below) where
  defined_tells : (o : Opening) (d : Declarator × ℕ) → Telling (unit_reasons texts) (defined texts below o d)
  unfolding defined
  defined_tells o d = mapping (unit_reasons texts) _ _ ((statements_tell texts below).block false _)

  module _ (types : List Name) (start : List Token) (o : Opening) (f : FitsOpening texts below types start o) where
    abbrev at_first : List Token → List Token
    at_first ts = (o.noted ++ f.specified) ++ ts

    behind_tells : (v : Declarator × ℕ) (shown : List Token) → v.1 ≡ length shown → (ts : List Token) → Tells (unit_reasons texts) ((o.noted ++ shown) ++ ts) (external_behind texts below o v ts)
    unfolding external_behind
    behind_tells v shown counted ts =
        by_choice (unit_reasons texts) (at_next (defines texts below v.0) ts) (defined texts below o v ts) (rest_of_declaration texts below (parts texts below) o v ts) ((o.noted ++ shown) ++ ts)
        (λ h. tells_behind (unit_reasons texts) (o.noted ++ shown) ts (defined texts below o v ts) (defined_tells o v ts))
        (λ h. lifted texts ((o.noted ++ shown) ++ ts) (rest_of_declaration texts below (parts texts below) o v ts)
        (rest_tells texts below (parts texts below) (parts_telling texts below) (members_below texts below) (parameters_below texts below) some types start o f v shown counted ts))

    named_tells : (ts : List Token) → Tells (unit_reasons texts) (at_first ts) (and_then (declarator_in texts below (parts texts below) o o.specified.types o.base o.count ts) (external_behind texts below o))
    named_tells ts =
        go (declarator_in texts below (parts texts below) o o.specified.types o.base o.count ts)
        (declarator_counted texts below (parts texts below) (parts_telling texts below) (members_below texts below) (parameters_below texts below) some types start o f o.specified.types o.base f.base_deep o.count f.specified f.count_is ts)
      where
        go : (q : Outcome Token (Declarator × ℕ)) → Counted texts below (parts texts below) (parts_telling texts below) (members_below texts below) (parameters_below texts below) some types start o f (λ v. v.1) (at_first ts) q
            → Tells (unit_reasons texts) (at_first ts) (and_then q (external_behind texts below o))
        go (stop n left) s = lifted texts {A = Declarator × ℕ} (at_first ts) (stop n left) s
        go (done v rest) c = subst (λ z. Tells (unit_reasons texts) z (external_behind texts below o v rest)) (sym c.split) (behind_tells v c.shown c.counted rest)

    after_tells : (ts : List Token) → Tells (unit_reasons texts) (at_first ts)
        (choose (ends_nameless (reading texts types)) (nameless texts below (parts texts below) o (declaring.place_of_base o.base))
        (declarator_in texts below (parts texts below) o o.specified.types o.base o.count >>= external_behind texts below o) ts)
    after_tells ts =
        by_choice (unit_reasons texts) (at_next (ends_nameless (reading texts types)) ts) _ _ (at_first ts)
        (λ h. lifted texts (at_first ts) (nameless texts below (parts texts below) o (declaring.place_of_base o.base) ts)
        (nameless_tells texts below (parts texts below) (parts_telling texts below) (members_below texts below) (parameters_below texts below) some types start o f ts h)) (λ h. named_tells ts)

  external_tells : (ds : Declarations) → Telling (unit_reasons texts) (external texts below ds)
  unfolding external
  external_tells ds = mapping (unit_reasons texts) _ _ reads
    where
      after : Opening → Parser Token Declarations
      after o = choose (ends_nameless (reading texts ds.types)) (nameless texts below (parts texts below) o (declaring.place_of_base o.base))
          (declarator_in texts below (parts texts below) o o.specified.types o.base o.count >>= external_behind texts below o)

      go : (ts : List Token) (q : Outcome Token Opening) → opening texts below (parts texts below) ds.types ts ≡ q → Tells (reasons texts) ts q → Tells (unit_reasons texts) ts (and_then q after)
      go ts (stop n left) e s = lifted texts {A = Opening} ts (stop n left) s
      go ts (done o rest) e x =
          let u : Part (FitsOpening texts below ds.types) (more_opening texts below) o ts rest =
          (opening_law texts below (parts texts below) (members_below texts below) (parameters_below texts below) some ds.types).sound ts o rest e in
          subst (λ z. Tells (unit_reasons texts) z (after o rest)) (sym (u.split ∙ ap (λ z. z ++ rest) (u.is.split ∙ ap (λ z. z ++ u.is.specified) (sym u.is.noted_is)))) (after_tells ds.types u.front o u.is rest)

      reads : Telling (unit_reasons texts) (opening texts below (parts texts below) ds.types >>= after)
      reads ts = go ts (opening texts below (parts texts below) ds.types ts) refl
          (opening_telling texts below (parts texts below) (parts_telling texts below) (members_below texts below) (parameters_below texts below) some ds.types ts)

module _ (texts : List (List ℕ)) where
  unit_tells : Telling (unit_reasons texts) (unit_reader texts)
  unit_tells = turning (unit_reasons texts) (λ t. true) (external texts 199) (λ ds ts h. external_tells texts 199 (omega arith) ds ts) (record { list = []; types = [] })

  -- what a list of tokens is refused for
  pub unit_reason : (ts : List Token) (n k : ℕ) → unit_reader texts ts ≡ stop n k → IsRefusedUnit texts ts n k
  unit_reason ts n k e =
      let s : Stops (IsUnitReason texts) ts n k = subst (Tells (unit_reasons texts) ts) e (unit_tells ts) in
      record {
        front = s.front;
        bad = s.bad;
        split = s.split;
        left_is = s.left_is;
        reason = s.why;
        at_every_depth = λ not_deep. unit_at_every_depth texts ts n k e not_deep s.front s.bad s.split s.left_is;
        at_end = λ not_deep. unit_at_end texts ts n k e not_deep s.front s.bad s.split;
        at_some_depth = λ deep. unit_at_some_depth texts ts k (e ∙ ap (λ z. stop z k) deep) s.front s.bad s.split s.left_is;
      }

  pub unit_has_reason : {E : Type 0} (gives : Declarations → E → Type 0) (tokens : List Token) (result : Result E Stop) → IsUnitRead gives texts tokens result → HasUnitReason texts tokens result
  unit_has_reason gives tokens (Ok e) is = tt
  unit_has_reason gives tokens (Err (Refused r)) is = record {
    number = is.number;
    left = is.left;
    is = is.is;
    stops = is.stops;
    refused = unit_refused texts tokens is.number is.left is.stops;
    because = unit_reason tokens is.number is.left is.stops;
  }
  unit_has_reason gives tokens (Err Memory) is = tt
