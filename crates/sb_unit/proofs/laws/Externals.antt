-- The reader of declarations outside of functions and of functions with their bodies keeps the laws.
use Rattle.std.proofs.Common.{◌≡◌, ◌≤◌, ◌+◌, ℕ, suc, max, Bool, true, false, ◌&&◌, List, [], ◌∷◌, ◌++◌, length, refl, sym, ap, ◌∙◌, subst, subst₂, inl, inr, append_assoc, arith}
use Rattle.std.proofs.Math.Nat.{le-max_left, le-max_right, max-le}
use Rattle.sb_base.specs.declared.interning.Name.{Name}
use Rattle.sb_base.specs.declared.tokens.Token.{Token}
use Rattle.sb_parse.specs.Parser.{Parser, at_next, never, ◌>>=◌, choose}
use Rattle.sb_parse.specs.Lawful.{Lawful, OnHead, Joined, Mapped, Either}
use Rattle.sb_parse.proofs.Joining.{via, map_of, in_order}
use Rattle.sb_parse.proofs.Heads.{choice_of, at_head}
use Rattle.sb_sign.specs.declared.sign.Mark.{Mark}
use Rattle.sb_sign.specs.declared.sign.Mark.TheVariants as mark
use Rattle.sb_sign.specs.Signs as sign
use Rattle.sb_tree.specs.Plain.{decl_list, note_list}
use Rattle.sb_tree.specs.Trees as tree
use Rattle.sb_tree.specs.Trees.{StmtTree, TypeTree, NoteTree, depth_of_stmt, depth_of_notes, depth_of_type, depth_of_decls}
use Rattle.sb_lexicon.specs.Lexicon.{Lexicon, is_mark}
use Rattle.sb_lexicon.specs.Tokens.{is_open_brace}
use Rattle.sb_operand.specs.Pieces.{typed}
use Rattle.sb_lexicon.proofs.Lexemes.{mark_is, mark_alone}
use Rattle.sb_parse.proofs.Ways.{and_first, and_fails}
use Rattle.sb_specifier.specs.Specified.{reading, declares_function}
use Rattle.sb_declare.specs.Declaration.{IsJudged, no_initialiser, an_initialiser, declared_by, declaration_of}
use Rattle.sb_declare.specs.Readers as declaring
use Rattle.sb_specifier.specs.Readers.{place_of_base, Declarator, Declarations, ends_nameless}
use Rattle.sb_declare.specs.Readers.{Opening, opening, nameless, declarator_in}
use Rattle.sb_declarator.specs.Readers.{parts}
use Rattle.sb_specifier.proofs.laws.More.{is_suffix}
use Rattle.sb_declare.proofs.laws.Scoping.{FitsOpening, more_opening, FitsFirst, more_in, IsRest, an_end, another, FitsRest, FitsNameless}
use Rattle.sb_declare.proofs.laws.Scoped.{no_suffix, no_first, opening_law, first_law}
use Rattle.sb_declare.proofs.laws.Rests.{rest_law}
use Rattle.sb_declare.proofs.laws.Declarations.{nameless_head, opening_nameless, nameless_off, opening_first, rest_apart, After, to_declaration, from_declaration}
use Rattle.sb_declare.proofs.laws.Listed.{declared_is, declaration_is}
use Rattle.sb_declarator.proofs.laws.Parts.{members_below, parameters_below}
use Rattle.sb_declarator.proofs.laws.Typed.{typed_fits, fits_typed}
use Rattle.sb_unit.specs.Readers.{defines, defined, external_behind}
use Rattle.sb_unit.specs.Units as grammar
use Rattle.sb_statement.specs.Statement.{IsBlock}
use Rattle.sb_unit.specs.Units.{IsExternal}
use Rattle.sb_statement.proofs.laws.Fits.{FitsBlock}
use Rattle.sb_statement.proofs.tokens.Begins.{block_begins}
use Rattle.sb_block.proofs.laws.Tying.{lawful_statements}

module _ (texts : List (List ℕ)) (below : ℕ) (some : 1 ≤ below) (types : List Name) where
  abbrev w : Lexicon
  w = reading texts types

  abbrev plain : Lexicon
  plain = reading texts []

  abbrev pub FitsExternal : List Token → Declarations → Type 0
  FitsExternal ts ds = IsExternal texts types ts ds × (depth_of_decls (decl_list ds.list) ≤ suc below)

  -- ---- a function with its body

  abbrev function_of : Opening → Declarator → StmtTree → Declarations
  function_of o d s = record {
    list = declaring.declaration_of texts below (parts texts below) o o.base d tree.NoInit (tree.AStmt s) ∷ [];
    types = declaring.declared_by texts below (parts texts below) o d.name o.specified.types;
  }

  -- the typedef names in force in the body
  abbrev inside : Opening → Declarator → List Name
  inside o d = declaring.declared_by texts below (parts texts below) o d.name d.inner

  abbrev BodyText : Opening → Declarator → List Token → Declarations → Type 0
  BodyText o d ts ds = (declares_function d.pieces ≡ true) × Mapped (function_of o d) (FitsBlock texts below false (inside o d)) ts ds

  body_begins : (o : Opening) (d : Declarator) (ts : List Token) (ds : Declarations) → BodyText o d ts ds → at_next (defines texts below d) ts ≡ true
  body_begins o d ts ds b = by_head ts (block_begins texts false (inside o d) ts b.1.value b.1.is.0)
    where
      by_head : (ts : List Token) → at_next (is_open_brace (reading texts (inside o d))) ts ≡ true → at_next (defines texts below d) ts ≡ true
      by_head [] h = absurd (cc h)
      by_head (t ∷ ts) h = ap (λ c. c && is_open_brace plain t) b.0 ∙ h

  body_head : (o : Opening) (d : Declarator) (count : ℕ) → OnHead (defines texts below d) (BodyText o d) (λ ds. never) (defined texts below o (d, count))
  unfolding defined
  body_head o d count =
      at_head (defines texts below d) (λ t h.
      via (map_of ((lawful_statements texts below some).block false (inside o d)) (function_of o d) (λ ds. never) (λ s u. refl)) (λ ts ds m. (and_first (declares_function d.pieces) (is_open_brace plain t) h, m)) (λ ts ds b. b.1)
      (defined texts below o (d, count)) (λ ts. refl)) (body_begins o d)

  brace_off : (t : Token) → is_open_brace plain t ≡ true → is_suffix plain t ≡ false
  brace_off t h = no_suffix texts mark.OpenBrace refl refl t h

  -- ---- behind an opening

  module _ (start : List Token) (o : Opening) (f : FitsOpening texts below types start o) where
    abbrev FirstText : List Token → Declarator × ℕ → Type 0
    FirstText = FitsFirst texts below o o.specified.types o.base o.count

    abbrev BehindText : Declarator × ℕ → List Token → Declarations → Type 0
    BehindText v = Either (BodyText o v.0) (FitsRest texts below o v.0)

    mark_off : (m : Mark) → sign.is_same_mark mark.OpenBrace m ≡ false → (t : Token) → is_mark plain m t ≡ true → is_open_brace plain t ≡ false
    mark_off m other t h = mark_alone plain m mark.OpenBrace t (mark_is plain m t h) other

    rest_no_brace : (d : Declarator) (ts : List Token) (ds : Declarations) → IsRest texts below o d ts ds → (us : List Token) → at_next (is_open_brace plain) us ≡ false → at_next (is_open_brace plain) (ts ++ us) ≡ false
    rest_no_brace d _ _ (an_end _ _ no_initialiser) us h = h
    rest_no_brace d _ _ (an_end _ _ (an_initialiser a ts i assigns is)) us h = mark_off mark.Assign refl a assigns
    rest_no_brace d _ _ (another xs ys c ds e now comma is declares) us h =
        ap (at_next (is_open_brace plain)) (append_assoc xs (c ∷ ys) us) ∙ rest_no_brace d xs ds is (c ∷ (ys ++ us)) (mark_off mark.Comma refl c comma)

    rest_undefined : (d : Declarator) (ts : List Token) (ds : Declarations) (later : List Token) → FitsRest texts below o d ts ds → at_next (defines texts below d) (ts ++ later) ≡ false
    rest_undefined d ts ds later r =
        by_head (ts ++ later) (ap (λ l. at_next (is_open_brace plain) (l ++ later)) r.split ∙ ap (at_next (is_open_brace plain)) (append_assoc r.front (r.closing ∷ []) later)
        ∙ rest_no_brace d r.front ds r.is (r.closing ∷ later) (mark_off mark.Semicolon refl r.closing r.closes))
      where
        by_head : (us : List Token) → at_next (is_open_brace plain) us ≡ false → at_next (defines texts below d) us ≡ false
        by_head [] h = refl
        by_head (u ∷ us) h = and_fails (declares_function d.pieces) (is_open_brace plain u) h

    behind_law : (ts : List Token) (v : Declarator × ℕ) → FirstText ts v → Lawful (BehindText v) (λ ds. never) (external_behind texts below o v)
    unfolding external_behind
    behind_law ts v g =
        choice_of (body_head o v.0 v.1) (rest_law texts below (parts texts below) (members_below texts below) (parameters_below texts below) some types start o f ts v g) (λ us ds later r h. rest_undefined v.0 us ds later r)

    behind_apart : (v : Declarator × ℕ) (ts : List Token) (ds : Declarations) (later : List Token) → BehindText v ts ds → at_next (more_in texts below o v) (ts ++ later) ≡ false
    behind_apart v ts ds later (inr r) = rest_apart texts below (parts texts below) (members_below texts below) (parameters_below texts below) some types start o f v.0 ts ds r v later
    behind_apart v ts ds later (inl b) = by_head ts (block_begins texts false (inside o v.0) ts b.1.value b.1.is.0)
      where
        by_head : (ts : List Token) → at_next (is_open_brace plain) ts ≡ true → at_next (more_in texts below o v) (ts ++ later) ≡ false
        by_head [] h = absurd (cc h)
        by_head (t ∷ ts) h = no_first texts below o (declares_function v.0.pieces) t (brace_off t h)

    named_law : Lawful (Joined FirstText BehindText) (λ ds. never) (declarator_in texts below (parts texts below) o o.specified.types o.base o.count >>= external_behind texts below o)
    named_law =
        in_order {Second = BehindText} {q = external_behind texts below o} (first_law texts below (parts texts below) (members_below texts below) (parameters_below texts below) some types start o f o.specified.types o.base f.base_deep o.count)
        behind_law (λ xs v ys ds later first second h. behind_apart v ys ds later second)

    named_apart : (test : Token → Bool) → ((ts : List Token) (v : Declarator × ℕ) (later : List Token) → FirstText ts v → at_next test (ts ++ later) ≡ false) → (ts : List Token) (ds : Declarations) (later : List Token)
        → Joined FirstText BehindText ts ds → at_next test (ts ++ later) ≡ false
    named_apart test off ts ds later j = ap (λ l. at_next test (l ++ later)) j.split ∙ ap (at_next test) (append_assoc j.before j.after later) ∙ off j.before j.value (j.after ++ later) j.first

    abbrev EndText : List Token → Declarations → Type 0
    EndText = FitsNameless texts below o (place_of_base o.base)

    after_law : Lawful (Either EndText (Joined FirstText BehindText)) (λ ds. never)
        (choose (ends_nameless w) (nameless texts below (parts texts below) o (place_of_base o.base)) (declarator_in texts below (parts texts below) o o.specified.types o.base o.count >>= external_behind texts below o))
    after_law =
        choice_of (nameless_head texts below (parts texts below) (members_below texts below) (parameters_below texts below) some types start o f) named_law
        (λ ts ds later j h. named_apart (ends_nameless w) (nameless_off texts below (parts texts below) (members_below texts below) (parameters_below texts below) some types start o f) ts ds later j)

    after_apart : (ts : List Token) (ds : Declarations) (later : List Token) → Either EndText (Joined FirstText BehindText) ts ds → at_next (more_opening texts below o) (ts ++ later) ≡ false
    after_apart ts ds later (inl n) = opening_nameless texts below (parts texts below) (members_below texts below) (parameters_below texts below) some types start o f ts ds later n
    after_apart ts ds later (inr j) = named_apart (more_opening texts below o) (opening_first texts below (parts texts below) (members_below texts below) (parameters_below texts below) some types start o f) ts ds later j

  abbrev AfterExternal : Opening → List Token → Declarations → Type 0
  AfterExternal o =
      Either (FitsNameless texts below o (place_of_base o.base)) (Joined (FitsFirst texts below o o.specified.types o.base o.count) (λ v. Either (BodyText o v.0) (FitsRest texts below o v.0)))

  abbrev pub external_reader : Parser Token Declarations
  external_reader = opening texts below (parts texts below) types >>= (λ o.
      choose (ends_nameless w) (nameless texts below (parts texts below) o (place_of_base o.base))
      (declarator_in texts below (parts texts below) o o.specified.types o.base o.count >>= external_behind texts below o))

  joined_law : Lawful (Joined (FitsOpening texts below types) AfterExternal) (λ ds. never) external_reader
  joined_law =
      in_order {Second = AfterExternal} (opening_law texts below (parts texts below) (members_below texts below) (parameters_below texts below) some types) (λ start o f. after_law start o f)
      (λ start o ts ds later f a h. after_apart start o f ts ds later a)

  -- ---- in the grammar's words

  function_deep : (notes : List NoteTree) (t : TypeTree) (s : StmtTree) → max (suc (max (depth_of_notes (note_list notes)) (max (depth_of_type t) (max 0 (depth_of_stmt s))))) 0 ≤ suc below
      → max (depth_of_notes (note_list notes)) (max (depth_of_type t) (max 0 (depth_of_stmt s))) ≤ below
  function_deep notes t s le =
      let whole : suc (max (depth_of_notes (note_list notes)) (max (depth_of_type t) (max 0 (depth_of_stmt s)))) ≤ max (suc (max (depth_of_notes (note_list notes)) (max (depth_of_type t) (max 0 (depth_of_stmt s))))) 0 = le-max_left _ _ in
      omega arith

  -- annotations, a type and a body that fit, and no deeper
  function_fits : (o : Opening) (d : Declarator) (s : StmtTree) → depth_of_notes (note_list o.notes) ≤ below → depth_of_type (typed o.base d.pieces) ≤ below → depth_of_stmt s ≤ below
      → depth_of_decls (decl_list (declaration_of o.notes o.specified o.base d tree.NoInit (tree.AStmt s) ∷ [])) ≤ suc below
  function_fits o d s h k l =
      let none : 0 ≤ below = omega arith in
      let all : max (depth_of_notes (note_list o.notes)) (max (depth_of_type (typed o.base d.pieces)) (max 0 (depth_of_stmt s))) ≤ below = max-le h (max-le k (max-le none l)) in
      let whole : suc (max (depth_of_notes (note_list o.notes)) (max (depth_of_type (typed o.base d.pieces)) (max 0 (depth_of_stmt s)))) ≤ suc below = omega arith in
      let zero_fits : 0 ≤ suc below = omega arith in
      max-le whole zero_fits

  to_external : (ts : List Token) (ds : Declarations) → Joined (FitsOpening texts below types) AfterExternal ts ds → FitsExternal ts ds
  to_external ts ds j = by_case j.value j.first j.split j.second
    where
      declares : Joined (FitsOpening texts below types) (After texts below (parts texts below) (members_below texts below) (parameters_below texts below) some types) ts ds → FitsExternal ts ds
      declares k = let f = to_declaration texts below (parts texts below) (members_below texts below) (parameters_below texts below) some types ts ds k in (grammar.declares types ts ds f.0, f.1)

      by_case : (o : Opening) → FitsOpening texts below types j.before o → ts ≡ j.before ++ j.after → AfterExternal o j.after ds → FitsExternal ts ds
      by_case o f split (inl n) = declares (record { before = j.before; after = j.after; value = o; split = split; first = f; second = inl n })
      by_case o f split (inr k) = by_rest k.second
        where
          by_rest : Either (BodyText o k.value.0) (FitsRest texts below o k.value.0) k.after ds → FitsExternal ts ds
          by_rest (inr r) =
              declares (record { before = j.before; after = j.after; value = o; split = split; first = f; second = inr (record { before = k.before; after = k.after; value = k.value; split = k.split; first = k.first; second = r }) })
          by_rest (inl b) =
              let m = b.1 in
              let text : f.noted ++ (f.specified ++ (k.first.front ++ (k.first.judged ++ k.after))) ≡ ts =
              sym (split ∙ ap (λ l. l ++ j.after) f.split ∙ append_assoc f.noted f.specified j.after
              ∙ ap (λ l. f.noted ++ (f.specified ++ l)) (k.split ∙ ap (λ l. l ++ k.after) k.first.split ∙ append_assoc k.first.front k.first.judged k.after)) in
              let judged_is : IsJudged true f.noted k.first.judged =
              subst (λ c. IsJudged true c k.first.judged) f.noted_is (subst (λ c. IsJudged c o.noted k.first.judged) b.0 k.first.judged_is) in
              let body : IsBlock texts false (declared_by o.specified k.value.0.name k.value.0.inner) k.after m.value =
              subst (λ z. IsBlock texts false z k.after m.value) (declared_is texts below (parts texts below) o k.value.0.name k.value.0.inner) m.is.0 in
              let value : record { list = declaration_of o.notes o.specified o.base k.value.0 tree.NoInit (tree.AStmt m.value) ∷ []; types = declared_by o.specified k.value.0.name o.specified.types } ≡ ds =
              sym (m.same ∙ ap (λ z. record { list = z ∷ []; types = declaring.declared_by texts below (parts texts below) o k.value.0.name o.specified.types }) (declaration_is texts below (parts texts below) o o.base k.value.0 tree.NoInit (tree.AStmt m.value))
              ∙ ap (λ z. record { list = declaration_of o.notes o.specified o.base k.value.0 tree.NoInit (tree.AStmt m.value) ∷ []; types = z }) (declared_is texts below (parts texts below) o k.value.0.name o.specified.types)) in
              subst₂ FitsExternal text value (
                grammar.defines types f.noted f.specified k.first.front k.first.judged k.after o.notes o.specified o.base k.value.0 m.value f.begins k.first.is.is b.0 judged_is body,
                function_fits o k.value.0 m.value f.notes_deep (typed_fits below o.base k.value.0.pieces f.base_deep k.first.is.count k.first.is.sizes) m.is.1,
              )

  from_external : (ts : List Token) (ds : Declarations) → IsExternal texts types ts ds → depth_of_decls (decl_list ds.list) ≤ suc below → Joined (FitsOpening texts below types) AfterExternal ts ds
  from_external _ _ (grammar.declares _ ts ds is) le = wider (from_declaration texts below (parts texts below) (members_below texts below) (parameters_below texts below) some types ts ds is le)
    where
      wider : Joined (FitsOpening texts below types) (After texts below (parts texts below) (members_below texts below) (parameters_below texts below) some types) ts ds → Joined (FitsOpening texts below types) AfterExternal ts ds
      wider j = by_case j.value j.first j.split j.second
        where
          by_case : (o : Opening) → FitsOpening texts below types j.before o → ts ≡ j.before ++ j.after → After texts below (parts texts below) (members_below texts below) (parameters_below texts below) some types o j.after ds
              → Joined (FitsOpening texts below types) AfterExternal ts ds
          by_case o f split (inl n) = record { before = j.before; after = j.after; value = o; split = split; first = f; second = inl n }
          by_case o f split (inr k) =
              record { before = j.before; after = j.after; value = o; split = split; first = f; second = inr (record { before = k.before; after = k.after; value = k.value; split = k.split; first = k.first; second = inr k.second }) }
  from_external _ _ (grammar.defines _ xs ys zs js us notes s base d body b is function judged block) le =
      let deep : max (depth_of_notes (note_list notes)) (max (depth_of_type (typed base d.pieces)) (max 0 (depth_of_stmt body))) ≤ below = function_deep notes (typed base d.pieces) body le in
      let first : depth_of_notes (note_list notes) ≤ max (depth_of_notes (note_list notes)) (max (depth_of_type (typed base d.pieces)) (max 0 (depth_of_stmt body))) = le-max_left _ _ in
      let later : max (depth_of_type (typed base d.pieces)) (max 0 (depth_of_stmt body)) ≤ max (depth_of_notes (note_list notes)) (max (depth_of_type (typed base d.pieces)) (max 0 (depth_of_stmt body))) =
      le-max_right (depth_of_notes (note_list notes)) (max (depth_of_type (typed base d.pieces)) (max 0 (depth_of_stmt body))) in
      let type : depth_of_type (typed base d.pieces) ≤ max (depth_of_type (typed base d.pieces)) (max 0 (depth_of_stmt body)) = le-max_left (depth_of_type (typed base d.pieces)) (max 0 (depth_of_stmt body)) in
      let last : max 0 (depth_of_stmt body) ≤ max (depth_of_type (typed base d.pieces)) (max 0 (depth_of_stmt body)) = le-max_right (depth_of_type (typed base d.pieces)) (max 0 (depth_of_stmt body)) in
      let inner : depth_of_stmt body ≤ max 0 (depth_of_stmt body) = le-max_right 0 (depth_of_stmt body) in
      let notes_deep : depth_of_notes (note_list notes) ≤ below = omega arith in
      let type_deep : depth_of_type (typed base d.pieces) ≤ below = omega arith in
      let body_deep : depth_of_stmt body ≤ below = omega arith in
      let room = fits_typed below base d.pieces type_deep in
      record {
        before = xs ++ ys;
        after = zs ++ (js ++ us);
        value = record { outer = types; notes = notes; noted = xs; specified = s; base = base; count = length ys };
        split = sym (append_assoc xs ys (zs ++ (js ++ us)));
        first = record { noted = xs; specified = ys; split = refl; begins = b; outer_is = refl; noted_is = refl; count_is = refl; notes_deep = notes_deep; base_deep = room.0 };
        second = inr (record {
          before = zs ++ js;
          after = us;
          value = (d, length ys + length (zs ++ js));
          split = sym (append_assoc zs js us);
          first = record {
            front = zs;
            judged = js;
            split = refl;
            is = record { is = is; count = room.1; sizes = room.2 };
            judged_is = subst (λ c. IsJudged c xs js) (sym function) judged;
            count_is = refl;
          };
          second = inl (
            function,
            record {
              value = body;
              is = (subst (λ z. IsBlock texts false z us body) (sym (declared_is texts below (parts texts below) (record { outer = types; notes = notes; noted = xs; specified = s; base = base; count = length ys }) d.name d.inner)) block, body_deep);
              same = sym (ap (λ z. record { list = z ∷ []; types = declaring.declared_by texts below (parts texts below) (record { outer = types; notes = notes; noted = xs; specified = s; base = base; count = length ys }) d.name s.types })
                  (declaration_is texts below (parts texts below) (record { outer = types; notes = notes; noted = xs; specified = s; base = base; count = length ys }) base d tree.NoInit (tree.AStmt body))
                  ∙ ap (λ z. record { list = declaration_of notes s base d tree.NoInit (tree.AStmt body) ∷ []; types = z })
                  (declared_is texts below (parts texts below) (record { outer = types; notes = notes; noted = xs; specified = s; base = base; count = length ys }) d.name s.types));
            },
          );
        });
      }

  pub external_law : Lawful FitsExternal (λ ds. never) external_reader
  external_law = via joined_law to_external (λ ts ds is. from_external ts ds is.0 is.1) external_reader (λ ts. refl)
