-- The readers of the rest of a declaration behind its first declarator, and of one without a name, keep the laws.
use Rattle.std.proofs.Common.{◌≡◌, ◌≤◌, ◌+◌, ℕ, zero, suc, Bool, true, false, ◌||◌, List, [], ◌∷◌, ◌++◌, length, if◌then◌else◌, refl, sym, ap, ◌∙◌, subst, subst₂, append_assoc, append-nil}
use Rattle.sb_base.specs.declared.interning.Name.{Name}
use Rattle.sb_base.specs.declared.tokens.Token.{Token}
use Rattle.sb_parse.specs.Parser.{Outcome, Parser, done, stop, at_next, never, and_then, ◌>>=◌, pure, token, guard, loop, looped}
use Rattle.sb_parse.specs.Lawful.{Part, Lawful, OnHead, Joined, Opened, Closed, Mapped, Unbarred, Turns, over, turn}
use Rattle.sb_parse.proofs.Joining.{via}
use Rattle.sb_parse.proofs.Heads.{opened, opened_heads, at_head, guarded}
use Rattle.sb_parse.proofs.Looping.{looping}
use Rattle.sb_parse.proofs.Alike.{same_loop}
use Rattle.sb_sign.specs.declared.sign.Mark.TheVariants as mark
use Rattle.sb_tree.specs.Plain.{decl_list}
use Rattle.sb_tree.specs.Trees as tree
use Rattle.sb_tree.specs.Trees.{DeclTree, depth_of_type, depth_of_decl, depth_of_decls}
use Rattle.sb_lexicon.specs.Tokens.{unexpected, is_comma}
use Rattle.sb_lexicon.proofs.Lexemes.{mark_is, mark_alone}
use Rattle.sb_parse.proofs.Ways.{closing, turned_once_more}
use Rattle.sb_specifier.specs.Specified.{reading, again}
use Rattle.sb_declare.specs.Declaration.{IsDeclared, is_declared, IsInitialised, declared_by, declaration_of}
use Rattle.sb_declare.specs.Readers as reader
use Rattle.sb_specifier.specs.Readers.{Declarator, Declarations, Parts, is_semicolon}
use Rattle.sb_declare.specs.Readers.{Opening, Listing, behind, next_declarator, rest_of_declaration}
use Rattle.sb_specifier.proofs.laws.More.{MembersLaws, ParametersLaws}
use Rattle.sb_initialiser.proofs.laws.Initialisers.{init_ends, init_ends_at_semicolon}
use Rattle.sb_declare.proofs.laws.Listed.{again_base, more_listed, is_none, listed_ends, declared_is, declaration_is, declared_fits, fits_declared}
use Rattle.sb_declarator.proofs.laws.Members.{semicolon_token, semicolon_token_is, both_deep, deep_both, one_deep, deep_one, again_fits}
use Rattle.sb_declare.proofs.laws.Scoping.{FitsOpening, FitsFirst, IsRest, an_end, another, FitsRest}
use Rattle.sb_declare.proofs.laws.Scoped.{plain, no_suffix, no_first, base_is, listing, BehindText, alone_law, later_law}
use Rattle.sb_declarator.proofs.laws.Typed.{typed_fits, fits_typed}

module _ (texts : List (List ℕ)) (below : ℕ) (part : ℕ → Parts) (M : MembersLaws texts below part) (P : ParametersLaws texts below part) (some : 1 ≤ below)
    (types : List Name) (start : List Token) (o : Opening) (f : FitsOpening texts below types start o) where
  again_deep : depth_of_type (again o.base) ≤ below
  again_deep = again_fits below o.base some f.base_deep

  abbrev more : Listing → Token → Bool
  more l = more_listed texts below o (reading texts l.types) l.list

  -- ---- one declarator more

  abbrev Later : Listing → List Token → Listing → Type 0
  Later l = Joined (FitsFirst texts below o l.types (again o.base) (suc l.count)) (BehindText texts below part M P some types start o f l.types (again o.base) again_deep (suc l.count) l.list)

  abbrev Turn : Listing → List Token → Listing → Type 0
  Turn l = Unbarred (is_none texts below o l.list) (Opened (is_comma (plain texts)) (λ c. Later l))

  abbrev next : Listing → Parser Token Listing
  next l = next_declarator texts below part o l

  -- the same, but that it stops behind nothing
  abbrev guarded_next : Listing → Parser Token Listing
  guarded_next l = guard (is_none texts below o l.list) 0 (next l)

  next_head : (l : Listing) → OnHead (is_comma (plain texts)) (Turn l) more (guarded_next l)
  unfolding next_declarator
  next_head l =
      guarded (is_none texts below o l.list) 0 (λ open_way. at_head (is_comma (plain texts)) (λ t h. opened {Is = λ c. Later l} unexpected (is_comma (plain texts)) t h
      (λ c passes. later_law texts below part M P some types start o f l.types (again o.base) again_deep (suc l.count) l.list (again_base o.base (base_is texts below part M P some types start o f)) open_way)) opened_heads)

  added_some : (ds : List DeclTree) (d : DeclTree) → is_none texts below o (ds ++ (d ∷ [])) ≡ false
  added_some [] d = refl
  added_some (e ∷ ds) d = refl

  listing_some : (l m : Listing) (ts : List Token) → Turn l ts m → is_none texts below o m.list ≡ false
  listing_some l m ts u = ap (λ z. is_none texts below o z.list) u.is.is.second.same ∙ added_some l.list _

  -- ---- all of them

  comma_ends : (l : Listing) (t : Token) → is_comma (plain texts) t ≡ true → more l t ≡ false
  comma_ends l t h =
      listed_ends texts below o (reading texts l.types) t (mark_alone (plain texts) mark.Comma mark.Assign t (mark_is (plain texts) mark.Comma t h) refl)
      (λ function. no_first texts below o function t (no_suffix texts mark.Comma refl refl t h)) (λ i. init_ends (reading texts l.types) i t h) l.list

  semicolon_ends : (l : Listing) (t : Token) → is_semicolon (plain texts) t ≡ true → (is_comma (plain texts) t || more l t) ≡ false
  semicolon_ends l t h =
      ap (λ b. b || more l t) (mark_alone (plain texts) mark.Semicolon mark.Comma t (mark_is (plain texts) mark.Semicolon t h) refl)
      ∙ listed_ends texts below o (reading texts l.types) t (mark_alone (plain texts) mark.Semicolon mark.Assign t (mark_is (plain texts) mark.Semicolon t h) refl)
      (λ function. no_first texts below o function t (no_suffix texts mark.Semicolon refl refl t h)) (λ i. init_ends_at_semicolon (reading texts l.types) i t h) l.list

  module _ (named : List Token) (v : Declarator × ℕ) (g : FitsFirst texts below o o.specified.types o.base o.count named v) where
    abbrev Base : List Token → Listing → Type 0
    Base = BehindText texts below part M P some types start o f o.specified.types o.base f.base_deep o.count [] v

    abbrev base_reader : Parser Token Listing
    base_reader = behind texts below part o o.base [] o.specified.types v

    abbrev AllText : List Token → Listing → Type 0
    AllText = Joined Base (Turns Turn)

    base_law : Lawful Base more base_reader
    base_law = alone_law texts below part M P some types start o f o.specified.types o.base f.base_deep o.count [] refl v

    all_law : Lawful AllText (λ l t. is_comma (plain texts) t || more l t) (base_reader >>= looped (is_comma (plain texts)) guarded_next)
    all_law = looping {Turn = Turn} next_head comma_ends base_law

    abbrev finished : Listing → Declarations
    finished l = record { list = l.list; types = l.types }

    abbrev finish : Listing → Parser Token Declarations
    finish l = token unexpected (is_semicolon (plain texts)) >>= (λ c. pure (finished l))

    abbrev ClosedText : List Token → Declarations → Type 0
    ClosedText = Mapped finished (Closed (is_semicolon (plain texts)) AllText)

    closed_law : Lawful ClosedText (λ _. never) (base_reader >>= looped (is_comma (plain texts)) guarded_next >>= finish)
    closed_law = closing unexpected (is_semicolon (plain texts)) semicolon_token (semicolon_token_is (plain texts)) all_law semicolon_ends finished

    same_reader : (ts : List Token) → rest_of_declaration texts below part o v ts ≡ (base_reader >>= looped (is_comma (plain texts)) guarded_next >>= finish) ts
    unfolding rest_of_declaration
    same_reader ts = by_outcome (base_reader ts) refl
      where
        guards : (b : Bool) → b ≡ false → (l : Listing) (us : List Token) → next l us ≡ (if b then stop 0 (length us) else next l us)
        guards true h l us = absurd (cc h)
        guards false h l us = refl

        stays : (l : Listing) → is_none texts below o l.list ≡ false → (us : List Token) (m : Listing) (rest : List Token) → at_next (is_comma (plain texts)) us ≡ true → guarded_next l us ≡ done m rest → is_none texts below o m.list ≡ false
        stays l fine us m rest h e = let u : Part (Turn l) more m us rest = (next_head l).sound us m rest h e in listing_some l m u.front u.is

        by_outcome : (q : Outcome Token Listing) → base_reader ts ≡ q → and_then (and_then q (looped (is_comma (plain texts)) next)) finish ≡ and_then (and_then q (looped (is_comma (plain texts)) guarded_next)) finish
        by_outcome (stop n left) e = refl
        by_outcome (done l rest) e =
            let u : Part Base more l ts rest = base_law.sound ts l rest e in
            let fine : is_none texts below o l.list ≡ false = ap (λ z. is_none texts below o z.list) u.is.same in
            ap (λ z. and_then z finish) (same_loop (is_comma (plain texts)) next guarded_next (λ l. is_none texts below o l.list ≡ false) (λ l fine us. guards (is_none texts below o l.list) fine l us) stays l fine rest)

    -- ---- in the grammar's words

    abbrev Rest : List Token → Listing → Type 0
    Rest ts l = IsRest texts below o v.0 ts (finished l) × (depth_of_decls (decl_list l.list) ≤ suc below)

    first_rest : (ts : List Token) (l : Listing) → Base ts l → Rest ts l
    first_rest ts l m =
        let init = m.value.0 in
        let at = declared_is texts below part o v.0.name o.specified.types in
        let is : IsInitialised (reading texts (declared_by o.specified v.0.name o.specified.types)) ts init = subst (λ z. IsInitialised (reading texts z) ts init) at m.is.0.0 in
        let tree_is = declaration_is texts below part o o.base v.0 init tree.NoStmt in
        let deep : depth_of_decl (declaration_of o.notes o.specified o.base v.0 init tree.NoStmt) ≤ suc below =
        declared_fits below o.notes o.specified o.base v.0 init f.notes_deep (typed_fits below o.base v.0.pieces f.base_deep g.is.count g.is.sizes) m.is.0.1 in
        let whole : Path Declarations (record { list = declaration_of o.notes o.specified o.base v.0 init tree.NoStmt ∷ []; types = declared_by o.specified v.0.name o.specified.types }) (finished l) =
        sym (ap finished m.same ∙ ap (λ z. record { list = z ∷ []; types = reader.declared_by texts below part o v.0.name o.specified.types }) tree_is
        ∙ ap (λ z. record { list = declaration_of o.notes o.specified o.base v.0 init tree.NoStmt ∷ []; types = z }) at) in
        subst (λ z. IsRest texts below o v.0 ts z × (depth_of_decls (decl_list z.list) ≤ suc below)) whole
        (an_end ts init is, one_deep (declaration_of o.notes o.specified o.base v.0 init tree.NoStmt) (suc below) deep)

    add_one : (xs : List Token) (l : Listing) (us : List Token) (m : Listing) → Rest xs l → Turn l us m → Rest (xs ++ us) m
    add_one xs l us m r u =
        let c = u.is.opening in
        let j = u.is.is in
        let h = u.is.is.first in
        let d = u.is.is.value.0 in
        let k = u.is.is.second in
        let init = u.is.is.second.value.0 in
        let at = declared_is texts below part o d.name l.types in
        let inits : IsInitialised (reading texts (declared_by o.specified d.name l.types)) j.after init = subst (λ z. IsInitialised (reading texts z) j.after init) at k.is.0.0 in
        let tree_is = declaration_is texts below part o (again o.base) d init tree.NoStmt in
        let deep : depth_of_decl (declaration_of o.notes o.specified (again o.base) d init tree.NoStmt) ≤ suc below =
        declared_fits below o.notes o.specified (again o.base) d init f.notes_deep (typed_fits below (again o.base) d.pieces again_deep h.is.count h.is.sizes) k.is.0.1 in
        let whole : Path Declarations (record { list = l.list ++ (declaration_of o.notes o.specified (again o.base) d init tree.NoStmt ∷ []); types = declared_by o.specified d.name l.types }) (finished m) =
        sym (ap finished k.same ∙ ap (λ z. record { list = l.list ++ (z ∷ []); types = reader.declared_by texts below part o d.name l.types }) tree_is
        ∙ ap (λ z. record { list = l.list ++ (declaration_of o.notes o.specified (again o.base) d init tree.NoStmt ∷ []); types = z }) at) in
        let text : c ∷ (h.front ++ (h.judged ++ j.after)) ≡ us = sym (u.is.split ∙ ap (λ z. c ∷ z) (j.split ∙ ap (λ z. z ++ j.after) h.split ∙ append_assoc h.front h.judged j.after)) in
        subst₂ (λ z w. IsRest texts below o v.0 z w × (depth_of_decls (decl_list w.list) ≤ suc below)) (ap (λ z. xs ++ z) text) whole (
          another xs (h.front ++ (h.judged ++ j.after)) c (finished l) (declaration_of o.notes o.specified (again o.base) d init tree.NoStmt) (declared_by o.specified d.name l.types) u.is.passes r.0
              (is_declared l.types h.front h.judged j.after d init h.is.is h.judged_is inits),
          both_deep l.list (declaration_of o.notes o.specified (again o.base) d init tree.NoStmt ∷ []) (suc below) r.1
              (one_deep (declaration_of o.notes o.specified (again o.base) d init tree.NoStmt) (suc below) deep),
        )

    add_all : (xs : List Token) (l : Listing) (ys : List Token) (m : Listing) → Rest xs l → Turns Turn l ys m → Rest (xs ++ ys) m
    add_all xs _ _ _ r (over l) = subst (λ z. Rest z l) (sym (append-nil xs)) r
    add_all xs _ _ _ r (turn l m n us vs u later) = subst (λ z. Rest z n) (append_assoc xs us vs) (add_all (xs ++ us) m vs n (add_one xs l us m r u) later)

    to_rest : (ts : List Token) (ds : Declarations) → ClosedText ts ds → FitsRest texts below o v.0 ts ds
    to_rest ts ds m =
        let j = m.is.is in
        let r = add_all j.before j.value j.after m.value (first_rest j.before j.value j.first) j.second in
        subst (FitsRest texts below o v.0 ts) (sym m.same)
        (record { front = m.is.front; closing = m.is.closing; split = m.is.split; is = subst (λ z. IsRest texts below o v.0 z (finished m.value)) (sym j.split) r.0; closes = m.is.passes; deep = r.1 })

    record Found (ts : List Token) (ds : Declarations) : Type 0 where
      listed : Listing
      joined : AllText ts listed
      same : finished listed ≡ ds

    -- the turn of a declarator more
    record NextTurn (l : Listing) (ts : List Token) (d : DeclTree) (now : List Name) : Type 0 where
      listed : Listing
      is : Turn l ts listed
      same : finished listed ≡ record { list = l.list ++ (d ∷ []); types = now }

    next_turn : (l : Listing) → is_none texts below o l.list ≡ false → (c : Token) → is_comma (plain texts) c ≡ true → (ys : List Token) (d : DeclTree) (now : List Name)
        → IsDeclared texts o.noted o.notes o.specified (again o.base) l.types ys d now → depth_of_decl d ≤ suc below → NextTurn l (c ∷ ys) d now
    next_turn l open_way c comma _ _ _ (is_declared _ xs js ys d init is judged inits) deep =
        let fits = fits_declared below o.notes o.specified (again o.base) d init deep in
        let room = fits_typed below (again o.base) d.pieces fits.1 in
        let at = declared_is texts below part o d.name l.types in
        let tree_is = declaration_is texts below part o (again o.base) d init tree.NoStmt in
        record {
          listed = listing texts below part M P some types start o f l.types (again o.base) again_deep (suc l.count) l.list (d, suc l.count + length (xs ++ js)) (init, ys);
          is = record {
            open_way = open_way;
            is = record {
              opening = c;
              rest = xs ++ (js ++ ys);
              split = refl;
              passes = comma;
              is = record {
                before = xs ++ js;
                after = ys;
                value = (d, suc l.count + length (xs ++ js));
                split = sym (append_assoc xs js ys);
                first = record { front = xs; judged = js; split = refl; is = record { is = is; count = room.1; sizes = room.2 }; judged_is = judged; count_is = refl };
                second = record { value = (init, ys); is = ((subst (λ z. IsInitialised (reading texts z) ys init) (sym at) inits, fits.2), refl); same = refl };
              };
            };
          };
          same = ap (λ z. record { list = l.list ++ (z ∷ []); types = reader.declared_by texts below part o d.name l.types }) tree_is
              ∙ ap (λ z. record { list = l.list ++ (declaration_of o.notes o.specified (again o.base) d init tree.NoStmt ∷ []); types = z }) at;
        }

    found_some : (ts : List Token) (l : Listing) → AllText ts l → is_none texts below o l.list ≡ false
    found_some ts l j = turns_some j.value l j.after j.second (ap (λ z. is_none texts below o z.list) j.first.same)
      where
        turns_some : (l m : Listing) (ts : List Token) → Turns Turn l ts m → is_none texts below o l.list ≡ false → is_none texts below o m.list ≡ false
        turns_some _ _ _ (over l) h = h
        turns_some _ _ _ (turn l m n us vs u later) h = turns_some m n vs later (listing_some l m us u)

    from_rest : (ts : List Token) (ds : Declarations) → IsRest texts below o v.0 ts ds → depth_of_decls (decl_list ds.list) ≤ suc below → Found ts ds
    from_rest _ _ (an_end ts init is) deep =
        let fits = fits_declared below o.notes o.specified o.base v.0 init (deep_one (declaration_of o.notes o.specified o.base v.0 init tree.NoStmt) (suc below) deep) in
        let at = declared_is texts below part o v.0.name o.specified.types in
        let tree_is = declaration_is texts below part o o.base v.0 init tree.NoStmt in
        let value = listing texts below part M P some types start o f o.specified.types o.base f.base_deep o.count [] v (init, ts) in
        record {
          listed = value;
          joined = record {
            before = ts;
            after = [];
            value = value;
            split = sym (append-nil ts);
            first = record { value = (init, ts); is = ((subst (λ z. IsInitialised (reading texts z) ts init) (sym at) is, fits.2), refl); same = refl };
            second = over value;
          };
          same = ap (λ z. record { list = z ∷ []; types = reader.declared_by texts below part o v.0.name o.specified.types }) tree_is
              ∙ ap (λ z. record { list = declaration_of o.notes o.specified o.base v.0 init tree.NoStmt ∷ []; types = z }) at;
        }
    from_rest _ _ (another xs ys c ds d now comma is declares) deep =
        let both = deep_both ds.list (d ∷ []) (suc below) deep in
        let x = from_rest xs ds is both.0 in
        let l = x.listed in
        let j = x.joined in
        let at : ds.types ≡ l.types = sym (ap (λ z. z.types) x.same) in
        let n = next_turn l (found_some xs l j) c comma ys d now (subst (λ z. IsDeclared texts o.noted o.notes o.specified (again o.base) z ys d now) at declares) (deep_one d (suc below) both.1) in
        record {
          listed = n.listed;
          joined = record {
            before = j.before;
            after = j.after ++ (c ∷ ys);
            value = j.value;
            split = ap (λ z. z ++ (c ∷ ys)) j.split ∙ append_assoc j.before j.after (c ∷ ys);
            first = j.first;
            second = turned_once_more j.value l n.listed j.after (c ∷ ys) j.second n.is;
          };
          same = n.same ∙ ap (λ z. record { list = z.list ++ (d ∷ []); types = now }) x.same;
        }

    from_closed : (ts : List Token) (ds : Declarations) → FitsRest texts below o v.0 ts ds → ClosedText ts ds
    from_closed ts ds r =
        let x = from_rest r.front ds r.is r.deep in
        record { value = x.listed; is = record { front = r.front; closing = r.closing; split = r.split; is = x.joined; passes = r.closes }; same = sym x.same }

    pub rest_law : Lawful (FitsRest texts below o v.0) (λ _. never) (rest_of_declaration texts below part o v)
    rest_law = via closed_law to_rest from_closed (rest_of_declaration texts below part o v) same_reader
