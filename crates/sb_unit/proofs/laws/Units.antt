-- The reader of translation units keeps the laws; and what that comes to in the grammar's words.
use Rattle.std.proofs.Common.{◌≡◌, ◌≤◌, ℕ, suc, max, Bool, true, false, List, [], ◌∷◌, ◌++◌, refl, sym, ap, ◌∙◌, subst, append_assoc, append-nil, arith, Result, Ok, Err}
use Rattle.std.proofs.Math.Nat.{le-max_left, le-max_right}
use Rattle.sb_base.specs.declared.refusals.Stop.{Stop}
use Rattle.sb_base.specs.declared.refusals.Stop.TheVariants.{Refused, Memory}
use Rattle.sb_base.specs.declared.interning.Name.{Name}
use Rattle.sb_base.specs.declared.tokens.Token.{Token}
use Rattle.sb_parse.specs.Parser.{Parser, done, stop, at_next, never, looped}
use Rattle.sb_parse.specs.Lawful.{Part, Lawful, OnHead, IsEmpty, Joined, Mapped, Turns, over, turn}
use Rattle.sb_parse.specs.Read.{HasOneTree, IsRefused}
use Rattle.sb_parse.proofs.Joining.{via, map_of, nothing}
use Rattle.sb_parse.proofs.Heads.{headed}
use Rattle.sb_parse.proofs.Looping.{looping}
use Rattle.sb_parse.proofs.Reading.{one_tree, refused}
use Rattle.sb_tree.specs.Plain.{decl_list}
use Rattle.sb_tree.specs.Trees.{depth_of_decls}
use Rattle.sb_parse.proofs.Ways.{turned_once_more}
use Rattle.sb_specifier.specs.declared.seat.Seat.TheVariants as seat
use Rattle.sb_specifier.specs.Specified.{reading}
use Rattle.sb_specifier.specs.Readers.{Declarations, begins_declaration}
use Rattle.sb_derivation.proofs.laws.Heads.{declaration_begins}
use Rattle.sb_declarator.proofs.laws.Members.{both_deep, deep_both}
use Rattle.sb_unit.specs.Readers.{external, unit_reader}
use Rattle.sb_unit.specs.Reads.{FitsUnit, IsUnitRead, IsUnitAnswer}
use Rattle.sb_unit.specs.Units as grammar
use Rattle.sb_unit.specs.Units.{IsExternal, IsUnit}
use Rattle.sb_statement.proofs.tokens.Begins.{declared_begins}
use Rattle.sb_unit.proofs.laws.Externals.{FitsExternal, external_law}

abbrev pub anything : Token → Bool
anything t = true

module _ (texts : List (List ℕ)) where
  external_begins : (types : List Name) (ts : List Token) (ds : Declarations) → IsExternal texts types ts ds → at_next (begins_declaration (reading texts types)) ts ≡ true
  external_begins _ _ _ (grammar.declares types ts ds is) = declared_begins texts types ts ds is
  external_begins _ _ _ (grammar.defines types xs ys zs js us notes s base d body b is function judged block) =
      declaration_begins texts types _ seat.Scope xs ys (zs ++ (js ++ us)) notes s base b.are_notes b.are_specifiers b.names

  some_token : (types : List Name) (ts : List Token) → at_next (begins_declaration (reading texts types)) ts ≡ true → at_next anything ts ≡ true
  some_token types [] h = absurd (cc h)
  some_token types (t ∷ ts) h = refl

  module _ (below : ℕ) (some : 1 ≤ below) where
    abbrev none : Declarations
    none = record { list = []; types = [] }

    abbrev behind : Declarations → Declarations → Declarations
    behind ds es = record { list = ds.list ++ es.list; types = es.types }

    abbrev OneMore : Declarations → List Token → Declarations → Type 0
    OneMore ds = Mapped (behind ds) (FitsExternal texts below some ds.types)

    external_head : (ds : Declarations) → OnHead anything (OneMore ds) (λ es. never) (external texts below ds)
    unfolding external
    external_head ds =
        headed (map_of (external_law texts below some ds.types) (behind ds) (λ es. never) (λ es t. refl)) anything (λ ts es m. some_token ds.types ts (external_begins ds.types ts m.value m.is.0))

    abbrev UnitText : List Token → Declarations → Type 0
    UnitText = Joined (IsEmpty none) (Turns OneMore)

    abbrev Fits : List Token → Declarations → Type 0
    Fits ts ds = IsUnit texts ts ds × (depth_of_decls (decl_list ds.list) ≤ suc below)

    -- the whole list is read
    abbrev pub unit_at : Parser Token Declarations
    unit_at = looped anything (external texts below) none

    add_one : (xs ys : List Token) (ds es : Declarations) → Fits xs ds → OneMore ds ys es → Fits (xs ++ ys) es
    add_one xs ys ds es f m = subst (Fits (xs ++ ys)) (sym m.same) (grammar.external_behind xs ys ds m.value f.0 m.is.0, both_deep ds.list m.value.list (suc below) f.1 m.is.1)

    add_all : (xs ts : List Token) (ds es : Declarations) → Fits xs ds → Turns OneMore ds ts es → Fits (xs ++ ts) es
    add_all xs _ _ _ f (over ds) = subst (λ z. Fits z ds) (sym (append-nil xs)) f
    add_all xs _ _ _ f (turn ds ms es ys zs m later) = subst (λ z. Fits z es) (append_assoc xs ys zs) (add_all (xs ++ ys) zs ms es (add_one xs ys ds ms f m) later)

    to_unit : (ts : List Token) (ds : Declarations) → UnitText ts ds → Fits ts ds
    to_unit ts ds j =
        let flat : 0 ≤ suc below = omega arith in
        subst (λ z. Fits z ds) (sym (j.split ∙ ap (λ z. z ++ j.after) j.first.none)) (add_all [] j.after none ds (grammar.nothing, flat) (subst (λ z. Turns OneMore z j.after ds) j.first.same j.second))

    in_turns : (ts : List Token) (ds : Declarations) → IsUnit texts ts ds → depth_of_decls (decl_list ds.list) ≤ suc below → Turns OneMore none ts ds
    in_turns _ _ grammar.nothing le = over none
    in_turns _ _ (grammar.external_behind xs ys ds es are is) le =
        let both = deep_both ds.list es.list (suc below) le in
        turned_once_more none ds (behind ds es) xs ys (in_turns xs ds are both.0) (record { value = es; is = (is, both.1); same = refl })

    from_unit : (ts : List Token) (ds : Declarations) → Fits ts ds → UnitText ts ds
    from_unit ts ds f = record { before = []; after = ts; value = none; split = refl; first = record { none = refl; same = refl }; second = in_turns ts ds f.0 f.1 }

    pub unit_law : Lawful Fits (λ ds t. true) unit_at
    unit_law = via (looping {Turn = OneMore} external_head (λ ds t h. refl) (nothing none)) to_unit from_unit unit_at (λ ts. refl)

  -- ---- in the grammar's words

  -- no list of tokens is two units
  pub one_unit : HasOneTree (IsUnit texts)
  one_unit ts ds es is also =
      let first : depth_of_decls (decl_list ds.list) ≤ max (depth_of_decls (decl_list ds.list)) (depth_of_decls (decl_list es.list)) = le-max_left (depth_of_decls (decl_list ds.list)) (depth_of_decls (decl_list es.list)) in
      let second : depth_of_decls (decl_list es.list) ≤ max (depth_of_decls (decl_list ds.list)) (depth_of_decls (decl_list es.list)) = le-max_right (depth_of_decls (decl_list ds.list)) (depth_of_decls (decl_list es.list)) in
      one_tree (unit_law (suc (max (depth_of_decls (decl_list ds.list)) (depth_of_decls (decl_list es.list)))) (omega arith)) ts ds es (is, omega arith) (also, omega arith)

  -- what is read is all of the list, and a unit
  pub unit_read : (ts : List Token) (ds : Declarations) (rest : List Token) → unit_reader texts ts ≡ done ds rest → FitsUnit texts ts ds × (rest ≡ [])
  unit_read ts ds rest e =
      let u : Part (FitsUnit texts) (λ ds t. true) ds ts rest = (unit_law 199 (omega arith)).sound ts ds rest e in
      let none : rest ≡ [] = ended rest u.ends in
      (subst (λ z. FitsUnit texts z ds) (sym (u.split ∙ ap (λ z. u.front ++ z) none ∙ append-nil u.front)) u.is, none)
    where
      ended : (us : List Token) → at_next (λ t. true) us ≡ false → us ≡ []
      ended [] h = refl
      ended (u ∷ us) h = absurd (cc h)

  -- each unit that is not too deep is read
  pub unit_complete : (ts : List Token) (ds : Declarations) → FitsUnit texts ts ds → unit_reader texts ts ≡ done ds []
  unit_complete ts ds is = ap (unit_reader texts) (sym (append-nil ts)) ∙ (unit_law 199 (omega arith)).complete ts ds [] is refl

  -- a list that is none is refused at the first token with which no unit goes on
  pub unit_refused : (ts : List Token) (n k : ℕ) → unit_reader texts ts ≡ stop n k → IsRefused (FitsUnit texts) ts k
  unit_refused ts n k e = refused (unit_law 199 (omega arith)) ts n k e

  -- ---- what a call answers

  module _ {E : Type 0} (gives : Declarations → E → Type 0) (tokens : List Token) where
    pub unit_answer : (result : Result E Stop) → IsUnitRead gives texts tokens result → IsUnitAnswer gives texts tokens result
    unit_answer (Ok e) is = (is.0, (unit_read tokens is.0 [] is.1).0, is.2)
    unit_answer (Err (Refused r)) is = (is.number, is.left, is.is, unit_refused tokens is.number is.left is.stops)
    unit_answer (Err Memory) is = tt
