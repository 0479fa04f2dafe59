-- The reader of parameters, of which there are at most 32, keeps the laws.
use Rattle.std.proofs.Common.{◌≡◌, ◌≤◌, ℕ, suc, Bool, true, false, ◌&&◌, not, List, [], ◌∷◌, ◌++◌, length, nat_lt, if◌then◌else◌, refl, sym, ap, ◌∙◌, subst, subst₂, append_assoc, append-nil, arith}
use Rattle.std.proofs.lemmas.Bool.{ltb-true, ltb-false, lt-ltb}
use Rattle.std.specs.Option.{option_map_or}
use Rattle.sb_base.specs.declared.interning.Name.{Name}
use Rattle.sb_base.specs.declared.tokens.PpKind.{PpKind}
use Rattle.sb_base.specs.declared.tokens.PpKind.TheVariants as kind
use Rattle.sb_base.specs.declared.tokens.Token.{Token}
use Rattle.sb_parse.specs.Parser.{at_next, ◌>>=◌, token, looped}
use Rattle.sb_parse.specs.Lawful.{Lawful, OnHead, Joined, Opened, Turns, over, turn}
use Rattle.sb_parse.proofs.Joining.{via}
use Rattle.sb_parse.proofs.Heads.{opened, opened_heads, at_head, head_of_append}
use Rattle.sb_parse.proofs.Looping.{looping}
use Rattle.sb_sign.specs.declared.sign.Mark.{Mark}
use Rattle.sb_sign.specs.declared.sign.Mark.TheVariants as mark
use Rattle.sb_sign.specs.Signs as sign
use Rattle.sb_tree.specs.Plain.{decl_list}
use Rattle.sb_tree.specs.Trees.{DeclTree, depth_of_decl, depth_of_decls}
use Rattle.sb_lexicon.specs.Lexicon.{Lexicon, is_mark}
use Rattle.sb_lexicon.specs.Outcomes.{nowhere}
use Rattle.sb_lexicon.specs.Tokens.{unexpected, too_many_parameters, is_comma}
use Rattle.sb_parse.proofs.Ways.{turned_once_more, only_else}
use Rattle.sb_specifier.specs.declared.seat.Seat.TheVariants as seat
use Rattle.sb_specifier.specs.Specified.{reading}
use Rattle.sb_specifier.specs.Declaration.{AreSome, first_parameter, parameter_behind, parameter_beyond}
use Rattle.sb_specifier.specs.Readers.{Declarations, Parts, one_more, variable_arguments, barred_by, begins_declaration, is_header, makes_room}
use Rattle.sb_declarator.specs.Readers.{is_full, parameter, beyond_limit, another_parameter, next_parameter, parameters_at}
use Rattle.sb_specifier.proofs.laws.Barring.{all_refused}
use Rattle.sb_specifier.proofs.laws.More.{more_last, more_parameters, FitsParameters, MembersLaws}
use Rattle.sb_declarator.proofs.laws.Calls.{last_ends}
use Rattle.sb_parse.proofs.Choices.{refused_first}
use Rattle.sb_derivation.proofs.laws.Heads.{parameter_begins, declaration_no_mark}
use Rattle.sb_declarator.proofs.laws.Members.{both_deep, deep_both, one_deep, deep_one}
use Rattle.sb_declarator.proofs.laws.Parameter.{FitsOne, parameter_law}

-- ---- a token that makes room

room_token : Token
room_token = record { kind = kind.Header; text = record { 0 = 8589934593 }; place = nowhere; value = 0 }

room_token_is : makes_room room_token ≡ true
unfolding room_token
room_token_is = refl

room_no_mark : (w : Lexicon) (m : Mark) (t : Token) → makes_room t ≡ true → is_mark w m t ≡ false
room_no_mark w m t h = by_kind t.kind _ (sign.spelling_of w.texts t) h
  where
    by_kind : (k : PpKind) (b : Bool) (text : List ℕ) → (is_header k && b) ≡ true → option_map_or (sign.is_same_mark m) (sign.mark_by k text) false ≡ false
    by_kind kind.Header b text h = refl
    by_kind _ b text h = absurd (cc h)

module _ (texts : List (List ℕ)) (below : ℕ) (part : ℕ → Parts) (M : MembersLaws texts below part) (some : 1 ≤ below) where
  abbrev plain : Lexicon
  plain = reading texts []

  abbrev pub none : List Name → Declarations
  none types = record { list = []; types = types }

  abbrev full : Declarations → Bool
  full = is_full texts below part

  abbrev pub One : Declarations → List Token → Declarations → Type 0
  One = FitsOne texts below part M some

  abbrev more_value : Declarations → Token → Bool
  more_value ds u = more_last plain ds.list u

  -- a parameter, and behind 32 one for which a token makes room
  abbrev pub Another : Bool → Declarations → List Token → Declarations → Type 0
  Another false ds = One ds
  Another true ds = Opened makes_room (λ m. One ds)

  abbrev pub Behind : Declarations → List Token → Declarations → Type 0
  Behind ds = Opened (is_comma plain) (λ c. Another (full ds) ds)

  beyond_head : (ds : Declarations) → OnHead makes_room (Another true ds) more_value (token unexpected makes_room >>= (λ t. parameter texts below part ds))
  beyond_head ds = at_head makes_room (λ t h. opened {Is = λ m. One ds} unexpected makes_room t h (λ m room. parameter_law texts below part M some ds)) opened_heads

  another_law : (b : Bool) (ds : Declarations) → Lawful (Another b ds) more_value (if b then beyond_limit texts below part ds else parameter texts below part ds)
  unfolding beyond_limit
  another_law false ds = parameter_law texts below part M some ds
  another_law true ds =
      let text = (parameter_law texts below part M some ds).some in
      only_else (barred_by too_many_parameters (reading texts ds.types) seat.Prototype) (beyond_head ds) (all_refused too_many_parameters (reading texts ds.types) seat.Prototype) (room_token ∷ text.0) text.1
      (record { opening = room_token; rest = text.0; split = refl; passes = room_token_is; is = text.2 })

  pub behind_head : (ds : Declarations) → OnHead (is_comma plain) (Behind ds) more_value (next_parameter texts below part ds)
  unfolding next_parameter another_parameter
  behind_head ds =
      at_head (is_comma plain)
      (λ t h. opened {Is = λ c. Another (full ds) ds} unexpected (is_comma plain) t h (λ c passes. refused_first (is_mark plain mark.Ellipsis) variable_arguments (another_law (full ds) ds) (apart (full ds)))) opened_heads
    where
      no_ellipsis : (ts : List Token) → at_next (begins_declaration (reading texts ds.types)) ts ≡ true → at_next (is_mark plain mark.Ellipsis) ts ≡ false
      no_ellipsis [] h = refl
      no_ellipsis (t ∷ ts) h = declaration_no_mark texts ds.types mark.Ellipsis t h

      room_first : (ts : List Token) → at_next makes_room ts ≡ true → at_next (is_mark plain mark.Ellipsis) ts ≡ false
      room_first [] h = refl
      room_first (t ∷ ts) h = room_no_mark plain mark.Ellipsis t h

      apart : (b : Bool) (ts : List Token) (es : Declarations) (later : List Token) → Another b ds ts es → at_next (is_mark plain mark.Ellipsis) (ts ++ later) ≡ false
      apart false ts es later f = no_ellipsis (ts ++ later) (head_of_append (begins_declaration (reading texts ds.types)) ts later (parameter_begins texts ds.types f.now ts f.decl f.is))
      apart true ts es later o = room_first (ts ++ later) (head_of_append makes_room ts later (opened_heads ts es o))

  not_full : (ds : Declarations) → full ds ≡ false → suc (length ds.list) ≤ 32
  not_full ds h = by_test (nat_lt (length ds.list) 32) refl h
    where
      by_test : (b : Bool) → nat_lt (length ds.list) 32 ≡ b → not b ≡ false → suc (length ds.list) ≤ 32
      by_test true k g = ltb-true (length ds.list) 32 k
      by_test false k g = absurd (cc g)

  is_full_of : (ds : Declarations) → full ds ≡ true → 32 ≤ length ds.list
  is_full_of ds h = ltb-false (length ds.list) 32 (by_test (nat_lt (length ds.list) 32) h)
    where
      by_test : (b : Bool) → not b ≡ true → b ≡ false
      by_test true e = absurd (cc e)
      by_test false e = refl

  full_of : (ds : Declarations) → 32 ≤ length ds.list → full ds ≡ true
  full_of ds le = let off : nat_lt (length ds.list) 32 ≡ false = grind arith in ap not off

  full_not : (ds : Declarations) → suc (length ds.list) ≤ 32 → full ds ≡ false
  full_not ds le = ap not (lt-ltb (length ds.list) 32 le)

  module _ (types : List Name) where
    abbrev SomeText : List Token → Declarations → Type 0
    SomeText = Joined (One (none types)) (Turns Behind)

    abbrev Fits : List Token → Declarations → Type 0
    Fits = FitsParameters texts (suc below) types

    pub add_one : (xs : List Token) (ds : Declarations) (us : List Token) (ms : Declarations) → Fits xs ds → Behind ds us ms → Fits (xs ++ us) ms
    add_one xs ds us ms f u = subst (λ l. Fits (xs ++ l) ms) (sym u.split) (by_count (full ds) refl u.rest u.is)
      where
        deep : (d : DeclTree) (now : List Name) → depth_of_decl d ≤ suc below → depth_of_decls (decl_list (one_more ds d now).list) ≤ suc below
        deep d now h = both_deep ds.list (d ∷ []) (suc below) f.1 (one_deep d (suc below) h)

        by_count : (b : Bool) → full ds ≡ b → (ys : List Token) → Another b ds ys ms → Fits (xs ++ (u.opening ∷ ys)) ms
        by_count false k ys one =
            subst (Fits (xs ++ (u.opening ∷ ys))) (sym one.same) (parameter_behind types one.now xs ys u.opening ds one.decl u.passes f.0 (not_full ds k) one.is, deep one.decl one.now one.deep)
        by_count true k ys o =
            let next : Fits (xs ++ (u.opening ∷ (o.opening ∷ o.rest))) (one_more ds o.is.decl o.is.now) =
            (parameter_beyond types o.is.now xs o.rest u.opening o.opening ds o.is.decl u.passes f.0 (is_full_of ds k) o.passes o.is.is, deep o.is.decl o.is.now o.is.deep) in
            subst₂ (λ l. Fits (xs ++ (u.opening ∷ l))) (sym o.split) (sym o.is.same) next

    add_all : (xs : List Token) (ds : Declarations) (ys : List Token) (es : Declarations) → Fits xs ds → Turns Behind ds ys es → Fits (xs ++ ys) es
    add_all xs _ _ _ f (over ds) = subst (λ l. Fits l ds) (sym (append-nil xs)) f
    add_all xs _ _ _ f (turn ds ms es us vs u later) = subst (λ l. Fits l es) (append_assoc xs us vs) (add_all (xs ++ us) ms vs es (add_one xs ds us ms f u) later)

    pub first_fits : (ts : List Token) (ds : Declarations) → One (none types) ts ds → Fits ts ds
    first_fits ts ds f =
        let first : Fits ts (record { list = f.decl ∷ []; types = f.now }) = (first_parameter types f.now ts f.decl f.is, one_deep f.decl (suc below) f.deep) in
        subst (Fits ts) (sym f.same) first

    to_some : (ts : List Token) (es : Declarations) → SomeText ts es → Fits ts es
    to_some ts es j = subst (λ l. Fits l es) (sym j.split) (add_all j.before j.value j.after es (first_fits j.before j.value j.first) j.second)

    -- one more behind the last
    one_behind : (xs : List Token) (ds : Declarations) (c : Token) (ys : List Token) (es : Declarations) → SomeText xs ds → is_comma plain c ≡ true → Another (full ds) ds ys es → SomeText (xs ++ (c ∷ ys)) es
    one_behind xs ds c ys es j comma a = record {
      before = j.before;
      after = j.after ++ (c ∷ ys);
      value = j.value;
      split = ap (λ l. l ++ (c ∷ ys)) j.split ∙ append_assoc j.before j.after (c ∷ ys);
      first = j.first;
      second = turned_once_more j.value ds es j.after (c ∷ ys) j.second (record { opening = c; rest = ys; split = refl; passes = comma; is = a });
    }

    from_some : (ts : List Token) (es : Declarations) → AreSome texts types ts es → depth_of_decls (decl_list es.list) ≤ suc below → SomeText ts es
    from_some _ _ (first_parameter _ now ts d is) deep = record {
      before = ts;
      after = [];
      value = record { list = d ∷ []; types = now };
      split = sym (append-nil ts);
      first = record { decl = d; now = now; is = is; deep = deep_one d (suc below) deep; same = refl };
      second = over (record { list = d ∷ []; types = now });
    }
    from_some _ _ (parameter_behind _ now xs ys c ds d comma are few is) deep =
        let both = deep_both ds.list (d ∷ []) (suc below) deep in
        one_behind xs ds c ys (one_more ds d now) (from_some xs ds are both.0) comma
        (subst (λ b. Another b ds ys (one_more ds d now)) (sym (full_not ds few)) (record { decl = d; now = now; is = is; deep = deep_one d (suc below) both.1; same = refl }))
    from_some _ _ (parameter_beyond _ now xs ys c m ds d comma are least room is) deep =
        let both = deep_both ds.list (d ∷ []) (suc below) deep in
        one_behind xs ds c (m ∷ ys) (one_more ds d now) (from_some xs ds are both.0) comma
        (subst (λ b. Another b ds (m ∷ ys) (one_more ds d now)) (sym (full_of ds least))
        (record { opening = m; rest = ys; split = refl; passes = room; is = record { decl = d; now = now; is = is; deep = deep_one d (suc below) both.1; same = refl } }))

    pub parameters_law : Lawful (FitsParameters texts (suc below) types) (more_parameters texts) (parameters_at texts below part types)
    unfolding parameters_at
    parameters_law =
        via (looping {Turn = Behind} behind_head (λ ds u h. last_ends texts mark.Comma refl refl refl refl ds.list u h) (parameter_law texts below part M some (none types))) to_some (λ ts es is. from_some ts es is.0 is.1)
        (parameter texts below part (none types) >>= looped (is_comma plain) (next_parameter texts below part)) (λ ts. refl)
