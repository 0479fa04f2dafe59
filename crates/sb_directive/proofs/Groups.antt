-- The branches behind the lines of if-sections, and which groups are read.
use Rattle.std.proofs.Common.{◌≡◌, ◌∙◌, ◌⊎◌, ◌↔◌, ◌∷◌, ◌++◌, ◌&&◌, ◌||◌, inl, inr, [], ℕ, suc, List, Bool, true, false, not, Option, Some, None, arith, ap, sym, subst, refl, length, map, drop, if◌then◌else◌}
use Rattle.std.specs.Prelude.{All, IfSome, is_some, option_map, option_and_then, option_to_list}
use Rattle.std.proofs.lemmas.List.{append-nil, length-map}
use Rattle.std.proofs.lemmas.Option.{option_and_then_some}
use Rattle.std.proofs.lemmas.List.Elements.{All-nil, All-cons, All-head, All-tail}
use Rattle.sb_base.specs.declared.refusals.Place.{Place}
use Rattle.sb_lex.specs.declared.piece.PpToken.{PpToken}
use Rattle.sb_directive.specs.declared.directive.Branch.{Branch}
use Rattle.sb_directive.specs.declared.directive.Directive.{Directive}
use Rattle.sb_directive.specs.declared.directive.Directive.TheVariants.{If, Ifdef, Ifndef, Elif, Else, Endif}
use Rattle.sb_directive.specs.declared.asks.Asks.{Asks}
use Rattle.sb_directive.specs.declared.asks.Asks.TheVariants.{Opens, Becomes, OpensIf, TurnsIf, Refused}
use Rattle.sb_directive.specs.Asking.{asks, asks_of, on_word}
use Rattle.sb_directive.specs.Branches.{is_read, new_branch, skipped_branch, may_read, next_group, last_group}
use Rattle.sb_directive.specs.Lines.{place_of, is_word}
use Rattle.sb_directive.specs.Rules.{Table, is_macro}
use Rattle.sb_directive.specs.Sections.{Section, Stands, IsSection, IsChosen, Turn, turned, behind, behind_all, begins_section, condition, condition_of, conditions, directive, first_true, is_evaluated, lines, names_macro, nested_lines}

-- ---- one line

-- a branch whose `#else` has not come
abbrev plain : Bool → Bool → Bool → Branch
plain around reads taken = record { around = around; reads = reads; taken = taken; after_else = false }

-- of a new section
abbrev opened : Bool → Bool → Branch
opened read holds = plain read (read && holds) (read && holds)

opens_if : (read holds : Bool) (bs now : List Branch) → turned (if read then OpensIf else Opens skipped_branch) holds bs ≡ Some now → now ≡ opened read holds ∷ bs
opens_if true holds bs now is = sym (cc is)
opens_if false holds bs now is = sym (cc is)

opens_word : (is_it m holds : Bool) (at : Place) (bs now : List Branch) → turned (if is_it then Opens (new_branch m) else Refused 24 at) holds bs ≡ Some now → now ≡ opened true m ∷ bs
opens_word true m holds at bs now is = sym (cc is)
opens_word false m holds at bs now is = absurd (cc is)

module _ (table : Table) (at : Place) (holds : Bool) (bs now : List Branch) where
  opens_ifdef : (read : Bool) (rest : List PpToken) → turned (if read then on_word at (λ t. Opens (new_branch (is_macro table t.text))) rest else Opens skipped_branch) holds bs ≡ Some now
      → now ≡ opened read (names_macro table rest) ∷ bs
  opens_ifdef false rest is = sym (cc is)
  opens_ifdef true [] is = absurd (cc is)
  opens_ifdef true (t ∷ ts) is = opens_word (is_word t) (is_macro table t.text) holds t.place bs now is

  opens_ifndef : (read : Bool) (rest : List PpToken) → turned (if read then on_word at (λ t. Opens (new_branch (not (is_macro table t.text)))) rest else Opens skipped_branch) holds bs ≡ Some now
      → now ≡ opened read (not (names_macro table rest)) ∷ bs
  opens_ifndef false rest is = sym (cc is)
  opens_ifndef true [] is = absurd (cc is)
  opens_ifndef true (t ∷ ts) is = opens_word (is_word t) (not (is_macro table t.text)) holds t.place bs now is

-- what a line asks for whose directive is so
asks_as : (t : Turn) (bs : List Branch) (d : Directive) → directive t ≡ d → asks t.texts t.table bs t.line ≡ asks_of t.texts t.table bs (place_of t.line) (drop 2 t.line) d
asks_as t bs d is = ap (λ d. asks_of t.texts t.table bs (place_of t.line) (drop 2 t.line) d) is

behind_as : (t : Turn) (bs : List Branch) (d : Directive) → directive t ≡ d → behind bs t ≡ turned (asks_of t.texts t.table bs (place_of t.line) (drop 2 t.line) d) t.holds bs
behind_as t bs d is = ap (λ a. turned a t.holds bs) (asks_as t bs d is)

condition_as : (t : Turn) (d : Directive) → directive t ≡ d → condition t ≡ condition_of t d
condition_as t d is = ap (condition_of t) is

begins : (t : Turn) (bs now : List Branch) → begins_section (directive t) → behind bs t ≡ Some now → now ≡ opened (is_read bs) (condition t) ∷ bs
begins t bs now (inl d) is = rw (condition_as t If d) (opens_if (is_read bs) t.holds bs now (sym (behind_as t bs If d) ∙ is))
begins t bs now (inr (inl d)) is = rw (condition_as t Ifdef d) (opens_ifdef t.table (place_of t.line) t.holds bs now (is_read bs) (drop 2 t.line) (sym (behind_as t bs Ifdef d) ∙ is))
begins t bs now (inr (inr d)) is = rw (condition_as t Ifndef d) (opens_ifndef t.table (place_of t.line) t.holds bs now (is_read bs) (drop 2 t.line) (sym (behind_as t bs Ifndef d) ∙ is))

begun_if : (read holds : Bool) (bs : List Branch) → is_some (turned (if read then OpensIf else Opens skipped_branch) holds bs) ≡ true
begun_if true holds bs = refl
begun_if false holds bs = refl

begun_skipped : (read holds : Bool) (a : Asks) (bs : List Branch) → read ≡ false → is_some (turned (if read then a else Opens skipped_branch) holds bs) ≡ true
begun_skipped false holds a bs is = refl
begun_skipped true holds a bs is = absurd (cc is)

pub begun : (bs : List Branch) (t : Turn) → begins_section (directive t) → (directive t ≡ If) ⊎ (is_read bs ≡ false) → is_some (behind bs t) ≡ true
begun bs t first (inl is) = ap is_some (behind_as t bs If is) ∙ begun_if (is_read bs) t.holds bs
begun bs t (inl is) (inr skip) = ap is_some (behind_as t bs If is) ∙ begun_skipped (is_read bs) t.holds OpensIf bs skip
begun bs t (inr (inl is)) (inr skip) =
    ap is_some (behind_as t bs Ifdef is) ∙ begun_skipped (is_read bs) t.holds (on_word (place_of t.line) (λ u. Opens (new_branch (is_macro t.table u.text))) (drop 2 t.line)) bs skip
begun bs t (inr (inr is)) (inr skip) =
    ap is_some (behind_as t bs Ifndef is) ∙ begun_skipped (is_read bs) t.holds (on_word (place_of t.line) (λ u. Opens (new_branch (not (is_macro t.table u.text)))) (drop 2 t.line)) bs skip

elif_by : (around reads taken holds : Bool) (bs : List Branch)
    → turned (if may_read (plain around reads taken) then TurnsIf (plain around reads taken) else Becomes (next_group (plain around reads taken) false)) holds (plain around reads taken ∷ bs)
    ≡ Some (plain around (around && (not taken && holds)) (taken || (around && holds)) ∷ bs)
elif_by false reads false holds bs = refl
elif_by false reads true holds bs = refl
elif_by true reads false holds bs = refl
elif_by true reads true holds bs = refl

elif_turns : (t : Turn) (around reads taken : Bool) (bs : List Branch) → directive t ≡ Elif
    → behind (plain around reads taken ∷ bs) t ≡ Some (plain around (around && (not taken && condition t)) (taken || (around && condition t)) ∷ bs)
elif_turns t around reads taken bs is = rw (condition_as t Elif is) (behind_as t (plain around reads taken ∷ bs) Elif is ∙ elif_by around reads taken t.holds bs)

else_by : (after_else holds : Bool) (at : Place) (b c : Branch) (bs : List Branch) → after_else ≡ false → turned (if after_else then Refused 25 at else Becomes c) holds (b ∷ bs) ≡ Some (c ∷ bs)
else_by false holds at b c bs is = refl
else_by true holds at b c bs is = absurd (cc is)

else_turns : (t : Turn) (b : Branch) (bs : List Branch) → b.after_else ≡ false → directive t ≡ Else → behind (b ∷ bs) t ≡ Some (last_group b ∷ bs)
else_turns t b bs open1 is = behind_as t (b ∷ bs) Else is ∙ else_by b.after_else t.holds (place_of t.line) b (last_group b) bs open1

evaluated_by : (after_else may : Bool) (at : Place) (b c : Branch) → after_else ≡ false → is_evaluated (if after_else then Refused 25 at else (if may then TurnsIf b else Becomes c)) ≡ may
evaluated_by false false at b c is = refl
evaluated_by false true at b c is = refl
evaluated_by true may at b c is = absurd (cc is)

elif_evaluated : (t : Turn) (b : Branch) (bs : List Branch) → b.after_else ≡ false → directive t ≡ Elif → is_evaluated (asks t.texts t.table (b ∷ bs) t.line) ≡ may_read b
elif_evaluated t b bs open1 is = ap is_evaluated (asks_as t (b ∷ bs) Elif is) ∙ evaluated_by b.after_else (may_read b) (place_of t.line) b (next_group b false) open1

evaluated_if : (read : Bool) → is_evaluated (if read then OpensIf else Opens skipped_branch) ≡ read
evaluated_if true = refl
evaluated_if false = refl

pub evaluated_first : (bs : List Branch) (t : Turn) → directive t ≡ If → is_evaluated (asks t.texts t.table bs t.line) ≡ is_read bs
evaluated_first bs t is = ap is_evaluated (asks_as t bs If is) ∙ evaluated_if (is_read bs)

-- ---- all `#elif`s

-- the branch behind `#elif`s whose conditions are so
abbrev turns : Bool → Bool → Bool → List Bool → Branch
turns around reads taken [] = plain around reads taken
turns around reads taken (c ∷ cs) = turns around (around && (not taken && c)) (taken || (around && c)) cs

elifs_turn : (ts : List Turn) → All (λ t. directive t ≡ Elif) ts → (around reads taken : Bool) (bs : List Branch)
    → behind_all ts (plain around reads taken ∷ bs) ≡ Some (turns around reads taken (map condition ts) ∷ bs)
elifs_turn [] all around reads taken bs = refl
elifs_turn (t ∷ ts) all around reads taken bs =
    ap (option_and_then (behind_all ts)) (elif_turns t around reads taken bs (All-head (λ t. directive t ≡ Elif) t ts all))
    ∙ elifs_turn ts (All-tail (λ t. directive t ≡ Elif) t ts all) around (around && (not taken && condition t)) (taken || (around && condition t)) bs

no_else : (around reads taken : Bool) (cs : List Bool) → (turns around reads taken cs).after_else ≡ false
no_else around reads taken [] = refl
no_else around reads taken (c ∷ cs) = no_else around (around && (not taken && c)) (taken || (around && c)) cs

skipped : (cs : List Bool) → turns false false false cs ≡ plain false false false
skipped [] = refl
skipped (c ∷ cs) = skipped cs

passed : (cs : List Bool) → turns true false true cs ≡ plain true false true
passed [] = refl
passed (c ∷ cs) = passed cs

-- ---- the first condition that holds

not_true : {P : Type 0} → false ≡ true → P
not_true is = absurd (cc is)

never_zero : (o : Option ℕ) → option_map suc o ≡ Some 0 → ⊥
never_zero None is = cc is
never_zero (Some k) is = let e : suc k ≡ 0 = cc is in omega arith

one_less : (o : Option ℕ) (k : ℕ) → option_map suc o ≡ Some (suc k) → o ≡ Some k
one_less None k is = absurd (cc is)
one_less (Some i) k is = let e : suc i ≡ suc k = cc is in let f : i ≡ k = omega arith in ap Some f

none_less : (o : Option ℕ) → option_map suc o ≡ None → o ≡ None
none_less None is = refl
none_less (Some i) is = absurd (cc is)

reads_first : (c : Bool) (cs others : List Bool) → ((turns true c c cs).reads ≡ true) ↔ (first_true (c ∷ (cs ++ others)) ≡ Some (length cs))
reads_first true [] others = (λ is. refl, λ is. refl)
reads_first true (d ∷ cs) others = (
  λ is. let e : false ≡ true = sym (ap (λ (b : Branch). b.reads) (passed cs)) ∙ is in not_true e,
  λ is. let e : 0 ≡ suc (length cs) = cc is in absurd (let f : ⊥ = omega arith in f),
)
reads_first false [] others = (λ is. not_true is, λ is. absurd (never_zero (first_true others) is))
reads_first false (d ∷ cs) others =
    let more = reads_first d cs others in
    (λ is. ap (option_map suc) (more.0 is), λ is. more.1 (one_less (first_true (d ∷ (cs ++ others))) (length cs) is))

may_first : (c : Bool) (cs : List Bool) → (may_read (turns true c c cs) ≡ true) ↔ (first_true (c ∷ cs) ≡ None)
may_first true [] = (λ is. not_true is, λ is. absurd (cc is))
may_first true (d ∷ cs) = (λ is. let e : false ≡ true = sym (ap may_read (passed cs)) ∙ is in not_true e, λ is. absurd (cc is))
may_first false [] = (λ is. refl, λ is. refl)
may_first false (d ∷ cs) =
    let more = may_first d cs in
    (λ is. ap (option_map suc) (more.0 is), λ is. more.1 (none_less (first_true (d ∷ cs)) is))

-- the same where the text around is read or not
reads_where : (read c : Bool) (cs others : List Bool) → ((turns read (read && c) (read && c) cs).reads ≡ true) ↔ ((read ≡ true) × (first_true (c ∷ (cs ++ others)) ≡ Some (length cs)))
reads_where true c cs others = let at = reads_first c cs others in (λ is. (refl, at.0 is), λ is. at.1 is.1)
reads_where false c cs others = (λ is. let e : false ≡ true = sym (ap (λ (b : Branch). b.reads) (skipped cs)) ∙ is in not_true e, λ is. not_true is.0)

may_where : (read c : Bool) (cs : List Bool) → (may_read (turns read (read && c) (read && c) cs) ≡ true) ↔ ((read ≡ true) × (first_true (c ∷ cs) ≡ None))
may_where true c cs = let at = may_first c cs in (λ is. (refl, at.0 is), λ is. at.1 is.1)
may_where false c cs = (λ is. let e : false ≡ true = sym (ap may_read (skipped cs)) ∙ is in not_true e, λ is. not_true is.0)

-- ---- a section

behind_by : (f g h : List Branch → Option (List Branch)) → ((bs : List Branch) → f bs ≡ option_and_then g (h bs)) → (o : Option (List Branch))
    → option_and_then f o ≡ option_and_then g (option_and_then h o)
behind_by f g h same None = refl
behind_by f g h same (Some bs) = same bs

behind_both : (ts us : List Turn) (bs : List Branch) → behind_all (ts ++ us) bs ≡ option_and_then (behind_all us) (behind_all ts bs)
behind_both [] us bs = refl
behind_both (t ∷ ts) us bs = behind_by (behind_all (ts ++ us)) (behind_all us) (behind_all ts) (behind_both ts us) (behind bs t)

-- the innermost branch behind the conditions of a section, in text that is read or not
abbrev comes : Bool → Bool → List Bool → Branch
comes read c cs = turns read (read && c) (read && c) cs

-- behind the first line and the `#elif`s
elifs_come : (t : Turn) (ts : List Turn) (bs now : List Branch) → begins_section (directive t) → All (λ t. directive t ≡ Elif) ts → behind_all (t ∷ ts) bs ≡ Some now
    → now ≡ comes (is_read bs) (condition t) (map condition ts) ∷ bs
elifs_come t ts bs now first all is =
    option_and_then_some (behind_all ts) (behind bs t) now is
    (λ middle turned_is more.
    let same : middle ≡ opened (is_read bs) (condition t) ∷ bs = begins t bs middle first turned_is in
    let end : behind_all ts (opened (is_read bs) (condition t) ∷ bs) ≡ Some now = subst (λ m. behind_all ts m ≡ Some now) same more in
    let both : Some now ≡ Some (comes (is_read bs) (condition t) (map condition ts) ∷ bs) =
    sym end ∙ elifs_turn ts all (is_read bs) (is_read bs && condition t) (is_read bs && condition t) bs in
    cc both)

-- the innermost branch of a section that has come so far
abbrev last_branch : Option Turn → Branch → Branch
last_branch None b = b
last_branch (Some e) b = last_group b

comes_to : (t : Turn) (ts : List Turn) (last : Option Turn) (bs now : List Branch) → begins_section (directive t) → All (λ t. directive t ≡ Elif) ts → IfSome last (λ t. directive t ≡ Else)
    → behind_all ((t ∷ ts) ++ option_to_list last) bs ≡ Some now → now ≡ last_branch last (comes (is_read bs) (condition t) (map condition ts)) ∷ bs
comes_to t ts None bs now first all end is =
    elifs_come t ts bs now first all (subst (λ ls. behind_all ls bs ≡ Some now) (append-nil (t ∷ ts)) is)
comes_to t ts (Some e) bs now first all end is =
    let b = comes (is_read bs) (condition t) (map condition ts) in
    option_and_then_some (behind_all (e ∷ [])) (behind_all (t ∷ ts) bs) now (sym (behind_both (t ∷ ts) (e ∷ []) bs) ∙ is)
    (λ middle is_middle more.
    let same : middle ≡ b ∷ bs = elifs_come t ts bs middle first all is_middle in
    let turned_is : behind (b ∷ bs) e ≡ Some (last_group b ∷ bs) = else_turns e b bs (no_else (is_read bs) (is_read bs && condition t) (is_read bs && condition t) (map condition ts)) end in
    let both : behind_all (e ∷ []) (b ∷ bs) ≡ Some (last_group b ∷ bs) = ap (option_and_then (behind_all [])) turned_is in
    let found : Some now ≡ Some (last_group b ∷ bs) = sym more ∙ (ap (behind_all (e ∷ [])) same ∙ both) in
    cc found)

stands : (s : Section) (last : Option Turn) (bs now : List Branch) → Stands s bs now → s.last ≡ last → now ≡ last_branch last (comes (is_read bs) (condition s.first) (map condition s.elifs)) ∷ bs
stands s last bs now at is =
    let found = comes_to s.first s.elifs s.last bs now at.is.first at.is.elifs at.is.last at.come in
    subst (λ l. now ≡ last_branch l (comes (is_read bs) (condition s.first) (map condition s.elifs)) ∷ bs) is found

length_is : (ts : List Turn) → length (map condition ts) ≡ length ts
length_is ts = length-map ts condition

pub group : (s : Section) (bs now : List Branch) (others : List Bool) → Stands s bs now → s.last ≡ None
    → (is_read now ≡ true) ↔ ((is_read bs ≡ true) × (first_true (conditions s ++ others) ≡ Some (length s.elifs)))
group s bs now others at none =
    let where_read = reads_where (is_read bs) (condition s.first) (map condition s.elifs) others in
    let found = stands s None bs now at none in
    let counted = subst (λ n. ((comes (is_read bs) (condition s.first) (map condition s.elifs)).reads ≡ true) ↔ ((is_read bs ≡ true) × (first_true (conditions s ++ others) ≡ Some n))) (length_is s.elifs) where_read in
    subst (λ m. (is_read m ≡ true) ↔ ((is_read bs ≡ true) × (first_true (conditions s ++ others) ≡ Some (length s.elifs)))) (sym found) counted

pub otherwise : (s : Section) (bs now : List Branch) (e : Turn) → Stands s bs now → s.last ≡ Some e
    → (is_read now ≡ true) ↔ ((is_read bs ≡ true) × (first_true (conditions s) ≡ None))
otherwise s bs now e at some =
    let where_read = may_where (is_read bs) (condition s.first) (map condition s.elifs) in
    subst (λ m. (is_read m ≡ true) ↔ ((is_read bs ≡ true) × (first_true (conditions s) ≡ None))) (sym (stands s (Some e) bs now at some)) where_read

pub one_group : (s u : Section) (bs now later : List Branch) (others more : List Bool) → Stands s bs now → Stands u bs later → s.last ≡ None → u.last ≡ None
    → conditions s ++ others ≡ conditions u ++ more → is_read now ≡ true → is_read later ≡ true → length s.elifs ≡ length u.elifs
one_group s u bs now later others more at there none none2 same first second =
    let one = ((group s bs now others at none).0 first).1 in
    let two = ((group u bs later more there none2).0 second).1 in
    let both : Some (length s.elifs) ≡ Some (length u.elifs) = sym one ∙ (ap first_true same ∙ two) in
    cc both

pub or_the_last : (s u : Section) (bs now later : List Branch) (others : List Bool) (e : Turn) → Stands s bs now → Stands u bs later → s.last ≡ None → u.last ≡ Some e
    → conditions s ++ others ≡ conditions u → is_read now ≡ true → is_read later ≡ true → ⊥
or_the_last s u bs now later others e at there none some same first second =
    let one = ((group s bs now others at none).0 first).1 in
    let two = ((otherwise u bs later e there some).0 second).1 in
    let both : Some (length s.elifs) ≡ None = sym one ∙ (ap first_true same ∙ two) in
    absurd (cc both)

pub evaluated : (s : Section) (bs now : List Branch) (t : Turn) → Stands s bs now → s.last ≡ None → directive t ≡ Elif
    → (is_evaluated (asks t.texts t.table now t.line) ≡ true) ↔ ((is_read bs ≡ true) × (first_true (conditions s) ≡ None))
evaluated s bs now t at none is =
    let c = condition s.first in
    let cs = map condition s.elifs in
    let b = comes (is_read bs) c cs in
    let asked_is : is_evaluated (asks t.texts t.table (b ∷ bs) t.line) ≡ may_read b = elif_evaluated t b bs (no_else (is_read bs) (is_read bs && c) (is_read bs && c) cs) is in
    let here = subst (λ a. (a ≡ true) ↔ ((is_read bs ≡ true) × (first_true (conditions s) ≡ None))) (sym asked_is) (may_where (is_read bs) c cs) in
    subst (λ m. (is_evaluated (asks t.texts t.table m t.line) ≡ true) ↔ ((is_read bs ≡ true) × (first_true (conditions s) ≡ None))) (sym (stands s None bs now at none)) here

refused_by : (t : Turn) (b : Branch) (bs : List Branch) → b.after_else ≡ true → (directive t ≡ Elif) ⊎ (directive t ≡ Else) → asks t.texts t.table (b ∷ bs) t.line ≡ Refused 25 (place_of t.line)
refused_by t b bs closed (inl is) = asks_as t (b ∷ bs) Elif is ∙ ap (λ k. if k then Refused 25 (place_of t.line) else (if may_read b then TurnsIf b else Becomes (next_group b false))) closed
refused_by t b bs closed (inr is) = asks_as t (b ∷ bs) Else is ∙ ap (λ k. if k then Refused 25 (place_of t.line) else Becomes (last_group b)) closed

pub refused : (s : Section) (bs now : List Branch) (e t : Turn) → Stands s bs now → s.last ≡ Some e → (directive t ≡ Elif) ⊎ (directive t ≡ Else)
    → asks t.texts t.table now t.line ≡ Refused 25 (place_of t.line)
refused s bs now e t at some is =
    let b = last_group (comes (is_read bs) (condition s.first) (map condition s.elifs)) in
    subst (λ m. asks t.texts t.table m t.line ≡ Refused 25 (place_of t.line)) (sym (stands s (Some e) bs now at some)) (refused_by t b bs refl is)

pub ended : (s : Section) (bs now : List Branch) (t : Turn) → Stands s bs now → directive t ≡ Endif → behind now t ≡ Some bs
ended s bs now t at is =
    let b = last_branch s.last (comes (is_read bs) (condition s.first) (map condition s.elifs)) in
    let end : behind (b ∷ bs) t ≡ Some bs = behind_as t (b ∷ bs) Endif is in
    subst (λ m. behind m t ≡ Some bs) (sym (stands s s.last bs now at refl)) end

accepted_by : (t : Turn) (ts : List Turn) (last : Option Turn) (bs middle : List Branch) → begins_section (directive t) → All (λ t. directive t ≡ Elif) ts → IfSome last (λ t. directive t ≡ Else)
    → behind bs t ≡ Some middle → (now : List Branch) × (behind_all ((t ∷ ts) ++ option_to_list last) bs ≡ Some now)
accepted_by t ts last bs middle first all end is =
    let c = condition t in
    let cs = map condition ts in
    let b = comes (is_read bs) c cs in
    let same : middle ≡ opened (is_read bs) c ∷ bs = begins t bs middle first is in
    let one : behind_all (t ∷ ts) bs ≡ behind_all ts middle = ap (option_and_then (behind_all ts)) is in
    let two : behind_all ts middle ≡ behind_all ts (opened (is_read bs) c ∷ bs) = ap (behind_all ts) same in
    let come : behind_all (t ∷ ts) bs ≡ Some (b ∷ bs) = one ∙ (two ∙ elifs_turn ts all (is_read bs) (is_read bs && c) (is_read bs && c) bs) in
    by_last last end come
  where
    by_last : (last : Option Turn) → IfSome last (λ t. directive t ≡ Else) → behind_all (t ∷ ts) bs ≡ Some (comes (is_read bs) (condition t) (map condition ts) ∷ bs)
        → (now : List Branch) × (behind_all ((t ∷ ts) ++ option_to_list last) bs ≡ Some now)
    by_last None end come = (comes (is_read bs) (condition t) (map condition ts) ∷ bs, subst (λ ls. behind_all ls bs ≡ Some (comes (is_read bs) (condition t) (map condition ts) ∷ bs)) (sym (append-nil (t ∷ ts))) come)
    by_last (Some e) end come =
        let b = comes (is_read bs) (condition t) (map condition ts) in
        let turned_is : behind (b ∷ bs) e ≡ Some (last_group b ∷ bs) = else_turns e b bs (no_else (is_read bs) (is_read bs && condition t) (is_read bs && condition t) (map condition ts)) end in
        let both : behind_all (e ∷ []) (b ∷ bs) ≡ Some (last_group b ∷ bs) = ap (option_and_then (behind_all [])) turned_is in
        (last_group b ∷ bs, behind_both (t ∷ ts) (e ∷ []) bs ∙ (ap (option_and_then (behind_all (e ∷ []))) come ∙ both))

pub accepted : (s : Section) (bs middle : List Branch) → IsSection s → behind bs s.first ≡ Some middle → (now : List Branch) × (behind_all (lines s) bs ≡ Some now)
accepted s bs middle is turned_is = accepted_by s.first s.elifs s.last bs middle is.first is.elifs is.last turned_is

-- ---- sections in one another

chosen_by : (t : Turn) (ts : List Turn) (last : Option Turn) (bs now : List Branch) → Stands (record { first = t; elifs = ts; last = last }) bs now
    → (is_read now ≡ true) ↔ ((is_read bs ≡ true) × IsChosen (record { first = t; elifs = ts; last = last }))
chosen_by t ts None bs now at =
    let s : Section = record { first = t; elifs = ts; last = None } in
    subst (λ cs. (is_read now ≡ true) ↔ ((is_read bs ≡ true) × (first_true cs ≡ Some (length ts)))) (append-nil (conditions s)) (group s bs now [] at refl)
chosen_by t ts (Some e) bs now at = otherwise (record { first = t; elifs = ts; last = Some e }) bs now e at refl

pub nested : (ss : List Section) (now : List Branch) → All IsSection ss → behind_all (nested_lines ss) [] ≡ Some now → (is_read now ≡ true) ↔ All IsChosen ss
nested [] now all is =
    let same : now ≡ [] = sym (cc is) in
    (λ read. All-nil IsChosen, λ chosen. ap is_read same)
nested (s ∷ ss) now all is =
    option_and_then_some (behind_all (lines s)) (behind_all (nested_lines ss) []) now (sym (behind_both (nested_lines ss) (lines s) []) ∙ is)
    (λ middle is_middle more.
    let outer = nested ss middle (All-tail IsSection s ss all) is_middle in
    let here = chosen_by s.first s.elifs s.last middle now (record { is = All-head IsSection s ss all; come = more }) in (
      λ read. let both = here.0 read in All-cons IsChosen s ss both.1 (outer.0 both.0),
      λ chosen. here.1 (outer.1 (All-tail IsChosen s ss chosen), All-head IsChosen s ss chosen),
    ))
