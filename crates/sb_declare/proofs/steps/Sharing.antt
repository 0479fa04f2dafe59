-- The readers of a declaration by what its declarators share.
use Rattle.std.proofs.Common.{◌≡◌, ◌+◌, ◌-◌, ℕ, zero, suc, Bool, true, false, not, List, [], length, take, Option, None, Some, if◌then◌else◌, refl, ap, sym, ◌∙◌, subst}
use Rattle.sb_base.specs.declared.interning.Name.{Name}
use Rattle.sb_base.specs.declared.refusals.Place.{Place}
use Rattle.sb_base.specs.declared.tokens.Token.{Token}
use Rattle.sb_parse.specs.Parser.{Outcome, Parser, done, stop, at_next, and_then, ◌>>=◌, pure, token, loop, looped}
use Rattle.sb_tree.specs.declared.syntax.Storage.{Storage}
use Rattle.sb_tree.specs.declared.syntax.Storage.TheVariants as storage
use Rattle.sb_tree.specs.Trees as tree
use Rattle.sb_tree.specs.Trees.{TypeTree, DeclTree, depth_of_type}
use Rattle.sb_lexicon.specs.declared.reading.ReadFault.{ReadFault}
use Rattle.sb_lexicon.specs.declared.reading.ReadFault.TheVariants.{Refused, Memory}
use Rattle.sb_lexicon.specs.Lexicon.{is_mark}
use Rattle.sb_lexicon.specs.Meaning.{stop_number, IsFault}
use Rattle.sb_lexicon.specs.Tokens.{unexpected, misplaced_before, is_comma}
use Rattle.sb_sign.specs.declared.sign.Mark.TheVariants as mark
use Rattle.sb_declare.specs.declared.sharing.Shared.{Shared}
use Rattle.sb_specifier.specs.Meaning.{plain_later, type_in}
use Rattle.sb_declare.specs.Openings as part
use Rattle.sb_specifier.specs.Readers.{place_of_base, is_pardon, shows_object, Declarator, Declarations, Parts}
use Rattle.sb_declare.specs.Readers as reader
use Rattle.sb_declarator.specs.Readers.{declarators, parts}
use Rattle.sb_declare.specs.Readers.{Opening, Listing, all_stand, pardoned}
use Rattle.sb_parse.specs.Texts.{with_front}
use Rattle.sb_specifier.specs.Specified.{reading, storage_of, again, declares_function}
use Rattle.sb_lexicon.proofs.Loops.{fault_first}

-- ---- readers in turn

then_same : {A B : Type 0} (o : Outcome Token A) (f g : A → Parser Token B) → ((a : A) (ts : List Token) → f a ts ≡ g a ts) → and_then o f ≡ and_then o g
then_same (done a rest) f g h = h a rest
then_same (stop n left) f g h = refl

loop_same : {A : Type 0} (goes : Token → Bool) (op other : A → Parser Token A) → ((a : A) (ts : List Token) → op a ts ≡ other a ts) → (n : ℕ) (a : A) (ts : List Token) → loop goes op n a ts ≡ loop goes other n a ts
unfolding loop
loop_same goes op other h zero a ts = refl
loop_same goes op other h (suc n) a ts =
    ap (λ o. if at_next goes ts then and_then o (loop goes op n) else done a ts) (h a ts)
    ∙ ap (λ o. if at_next goes ts then o else done a ts) (then_same (other a ts) (loop goes op n) (loop goes other n) (λ b rest. loop_same goes op other h n b rest))

-- ---- annotations

abbrev stopped : {A B : Type 0} → Outcome Token A → Outcome Token B
stopped (done a rest) = stop 0 0
stopped (stop n left) = stop n left

abbrev shown_or : {C : Type 0} → ℕ → List Token → C → Bool → Outcome Token C
shown_or before ts c z = if z then stop (misplaced_before before) (length ts) else and_then (token unexpected is_pardon ts) (λ t. pure c)

-- the value that stands there does not change how annotations are judged
pub judged_faults : {A B : Type 0} (texts : List (List ℕ)) (function : Bool) (noted : List Token) (count : ℕ) (a : A) (b : B) (ts : List Token) (e : ReadFault)
    → IsFault (reader.judged_by texts function noted count a ts) e → IsFault (reader.judged_by texts function noted count b ts) e
judged_faults texts function noted count a b ts Memory stops = stops
judged_faults {A} {B} texts function noted count a b ts (Refused reason k) stops = by_stand (all_stand function noted) stops
  where
    by_token : (o : Outcome Token Token) → and_then o (λ t. pure a) ≡ stop (stop_number reason) k → and_then o (λ t. pure b) ≡ stop (stop_number reason) k
    by_token (done t mid) e = absurd (cc e)
    by_token (stop n l) e = ap stopped e

    by_shown : (z : Bool) → shown_or (length noted + count) ts a z ≡ stop (stop_number reason) k → shown_or (length noted + count) ts b z ≡ stop (stop_number reason) k
    by_shown true e = ap stopped e
    by_shown false e = by_token (token unexpected is_pardon ts) e

    by_stand : (z : Bool) → (if z then pure a else pardoned texts (length noted + count) a) ts ≡ stop (stop_number reason) k → (if z then pure b else pardoned texts (length noted + count) b) ts ≡ stop (stop_number reason) k
    by_stand true e = absurd (cc e)
    by_stand false e = by_shown (at_next (shows_object (reading texts [])) ts) e

-- ---- a value that what is read last does not change

pub ended : {A B C : Type 0} (o : Outcome Token A) (p : Parser Token B) (c : C) (b : B) (rest : List Token) → and_then o (λ a. p) ≡ done b rest → and_then o (λ a. p >>= (λ t. pure c)) ≡ done c rest
ended (done a mid) p c b rest e = ap (λ x. and_then x (λ t. pure c)) e
ended (stop n left) p c b rest e = absurd (cc e)

pub ended_faults : {A B C : Type 0} (o : Outcome Token A) (p : Parser Token B) (c : C) (e : ReadFault) → IsFault (and_then o (λ a. p)) e → IsFault (and_then o (λ a. p >>= (λ t. pure c))) e
ended_faults o p c Memory stops = stops
ended_faults (done a mid) p c (Refused reason left) stops = ap (λ x. and_then x (λ t. pure c)) stops
ended_faults (stop n k) p c (Refused reason left) stops = ap stopped stops

-- ---- one declarator

same_typedef : (s : Storage) → reader.is_typedef s ≡ part.is_typedef s
same_typedef storage.Typedef = refl
same_typedef storage.Extern = refl
same_typedef storage.Static = refl
same_typedef storage.Plain = refl

pub declared_by_is : (texts : List (List ℕ)) (below : ℕ) (inner : ℕ → Parts) (o : Opening) (n : Option (Name × Place)) (types : List Name) → reader.declared_by texts below inner o n types ≡ part.declared_as (storage_of o.specified) n types
declared_by_is texts below inner o None types = refl
declared_by_is texts below inner o (Some n) types = refl

module _ (texts : List (List ℕ)) (below : ℕ) (o : Opening) where
  pub declarator_is : (types : List Name) (base : TypeTree) (count : ℕ) (ts : List Token)
      → reader.declarator_in texts below (parts texts below) o types base count ts ≡ part.declarator_on texts below o.noted (storage_of o.specified) types (depth_of_type base) count ts
  unfolding reader.declarator_in
  declarator_is types base count ts = rw (same_typedef (storage_of o.specified)) refl

  pub behind_is : (base : TypeTree) (ds : List DeclTree) (types : List Name) (d : Declarator × ℕ) (ts : List Token)
      → reader.behind texts below (parts texts below) o base ds types d ts ≡ part.behind texts below o.notes (storage_of o.specified) base ds types d ts
  unfolding reader.behind reader.initialised
  behind_is base ds types d ts = rw (declared_by_is texts below (parts texts below) o d.0.name types) refl

-- ---- the base type

same_place : (t : TypeTree) → place_of_base t ≡ place_of_base t
same_place (tree.Base code place) = refl
same_place (tree.Struct tag members place) = refl
same_place (tree.Enum tag items place) = refl
same_place (tree.Defined name place) = refl
same_place (tree.Const t) = same_place t
same_place (tree.Pointer t place) = refl
same_place (tree.Array t size place) = refl
same_place (tree.Function t params place) = refl
same_place (tree.ParenType t place) = refl
same_place (tree.Same place) = refl

-- ---- declarations by what their declarators share

module _ (texts : List (List ℕ)) (below : ℕ) (o : Opening) (s : Shared) (notes : part.notes_of texts below s ≡ o.notes) (noted : s.noted.now ≡ o.noted)
    (stored : s.storage ≡ storage_of o.specified) (later : plain_later s.later ≡ again o.base) where
  shared_declarator : (types : List Name) (base : TypeTree) (count : ℕ) (ts : List Token) → base ≡ again o.base
      → reader.declarator_in texts below (parts texts below) o types (again o.base) count ts ≡ part.declarator_on texts below s.noted.now s.storage types (depth_of_type base) count ts
  shared_declarator types base count ts is = declarator_is texts below o types (again o.base) count ts
      ∙ ap (λ l. part.declarator_on texts below l (storage_of o.specified) types (depth_of_type (again o.base)) count ts) (sym noted)
      ∙ ap (λ l. part.declarator_on texts below s.noted.now l types (depth_of_type (again o.base)) count ts) (sym stored)
      ∙ ap (λ t. part.declarator_on texts below s.noted.now s.storage types (depth_of_type t) count ts) (sym is)

  shared_behind : (base : TypeTree) (ds : List DeclTree) (types : List Name) (d : Declarator × ℕ) (ts : List Token)
      → reader.behind texts below (parts texts below) o base ds types d ts ≡ part.behind texts below (part.notes_of texts below s) s.storage base ds types d ts
  shared_behind base ds types d ts = behind_is texts below o base ds types d ts
      ∙ ap (λ ns. part.behind texts below ns (storage_of o.specified) base ds types d ts) (sym notes)
      ∙ ap (λ l. part.behind texts below (part.notes_of texts below s) l base ds types d ts) (sym stored)

  next_is : (l : Listing) (ts : List Token) → reader.next_declarator texts below (parts texts below) o l ts ≡ part.next_declarator texts below s l ts
  unfolding reader.next_declarator
  next_is l ts = then_same (token unexpected (is_comma (reading texts l.types)) ts)
      (λ t. reader.declarator_in texts below (parts texts below) o l.types (again o.base) (suc l.count) >>= reader.behind texts below (parts texts below) o (again o.base) l.list l.types)
      (λ t. part.declarator_on texts below s.noted.now s.storage l.types (depth_of_type (plain_later s.later)) (suc l.count) >>= part.behind texts below (part.notes_of texts below s) s.storage (plain_later s.later) l.list l.types)
      (λ t mid.
      ap (λ x. and_then x (reader.behind texts below (parts texts below) o (again o.base) l.list l.types)) (shared_declarator l.types (plain_later s.later) (suc l.count) mid later)
      ∙ then_same (part.declarator_on texts below s.noted.now s.storage l.types (depth_of_type (plain_later s.later)) (suc l.count) mid)
      (reader.behind texts below (parts texts below) o (again o.base) l.list l.types) (part.behind texts below (part.notes_of texts below s) s.storage (plain_later s.later) l.list l.types)
      (λ d rest. shared_behind (again o.base) l.list l.types d rest
      ∙ ap (λ base. part.behind texts below (part.notes_of texts below s) s.storage base l.list l.types d rest) (sym later)))

  pub rest_is : (d : Declarator × ℕ) (ts : List Token) → reader.rest_of_declaration texts below (parts texts below) o d ts ≡ part.rest_behind texts below s o.base o.specified.types d ts
  unfolding reader.rest_of_declaration
  rest_is d ts =
      ap (λ x. and_then (and_then x (looped (is_comma (reading texts o.specified.types)) (reader.next_declarator texts below (parts texts below) o))) ending) (shared_behind o.base [] o.specified.types d ts)
      ∙ ap (λ x. and_then x ending) (then_same (part.behind texts below (part.notes_of texts below s) s.storage o.base [] o.specified.types d ts)
      (looped (is_comma (reading texts o.specified.types)) (reader.next_declarator texts below (parts texts below) o)) (part.next_declarators texts below s)
      (λ l rest. loop_same (is_mark (reading texts []) mark.Comma) (reader.next_declarator texts below (parts texts below) o) (part.next_declarator texts below s) next_is (length rest) l rest))
    where
      ending : Listing → Parser Token Declarations
      ending l = token unexpected (is_mark (reading texts o.specified.types) mark.Semicolon) >>= (λ c. pure (record { list = l.list; types = l.types }))

  pub nameless_is : (ts : List Token) → o.base ≡ type_in o.specified → part.nameless texts below o ts ≡ part.nameless_behind texts below s o.specified o.count ts
  unfolding reader.nameless
  nameless_is ts is =
      ap (λ l. and_then (reader.judged_by texts false l o.count first ts) ending) (sym noted) ∙ by_stand (all_stand false s.noted.now)
    where
      first : Declarations
      first = reader.nameless_of texts below (parts texts below) o (place_of_base o.base)

      last : Declarations
      last = part.nameless_of (part.notes_of texts below s) s.storage o.specified

      alike : first ≡ last
      alike = rw (same_place o.base, is, notes, stored) refl

      ending : Declarations → Parser Token Declarations
      ending ds = token unexpected (is_mark (reading texts o.specified.types) mark.Semicolon) >>= (λ c. pure ds)

      by_token : (x : Outcome Token Token) → and_then (and_then x (λ t. pure first)) ending ≡ and_then (and_then x (λ t. pure false)) (λ p. ending last)
      by_token (done t rest) = ap (λ ds. ending ds rest) alike
      by_token (stop n left) = refl

      by_shown : (z : Bool) → and_then (shown_or (length s.noted.now + o.count) ts first z) ending
          ≡ and_then (shown_or (length s.noted.now + o.count) ts false z) (λ p. ending last)
      by_shown true = refl
      by_shown false = by_token (token unexpected is_pardon ts)

      by_stand : (z : Bool) → and_then ((if z then pure first else pardoned texts (length s.noted.now + o.count) first) ts) ending
          ≡ and_then ((if z then pure false else pardoned texts (length s.noted.now + o.count) false) ts) (λ p. ending last)
      by_stand true = ap (λ ds. ending ds ts) alike
      by_stand false = by_shown (at_next (shows_object (reading texts [])) ts)

-- ---- readers behind the first steps of each

text_faults : {A : Type 0} (o : Outcome Token A) (ts : List Token) (e : ReadFault) → IsFault o e → IsFault (with_front ts o) e
text_faults o ts (Refused reason left) stops = ap (with_front ts) stops
text_faults o ts Memory stops = stops

module _ (texts : List (List ℕ)) (below : ℕ) (noted : List Token) (st : Storage) (types : List Name) (depth count : ℕ) (ts : List Token) where
  abbrev declarators_here : Outcome Token Declarator
  declarators_here = declarators (reading texts types) (not (part.is_typedef st)) false below (parts texts below) (below - depth) 0 ts

  module _ (d : Declarator) (rest : List Token) (read : declarators_here ≡ done d rest) where
    abbrev so_far : ℕ
    so_far = count + length (take (length ts - length rest) ts)

    pub judged_stops : (e : ReadFault) → IsFault (reader.judged_by texts (declares_function d.pieces) noted so_far (declares_function d.pieces) rest) e → IsFault (part.declarator_on texts below noted st types depth count ts) e
    judged_stops e stops = rw read (fault_first _ _ e (text_faults _ ts e (judged_faults texts (declares_function d.pieces) noted so_far (declares_function d.pieces) d rest e stops)))

    pub judged_stands : all_stand (declares_function d.pieces) noted ≡ true → part.declarator_on texts below noted st types depth count ts ≡ done (d, so_far) rest
    judged_stands stand = rw (read, stand) refl

-- a comma is read, and what the declarator behind it stands on is known
module _ (texts : List (List ℕ)) (below : ℕ) (s : Shared) (l : Listing) (ts : List Token) (t : Token) (mid : List Token) (comma : token unexpected (is_mark (reading texts l.types) mark.Comma) ts ≡ done t mid)
    (types : List Name) (same : types ≡ l.types) (depth : ℕ) (deep : depth ≡ depth_of_type (plain_later s.later)) (count : ℕ) (counted : count ≡ suc l.count) where
  abbrev declared_here : Outcome Token (Declarator × ℕ)
  declared_here = part.declarator_on texts below s.noted.now s.storage types depth count mid

  declared_there : declared_here ≡ part.declarator_on texts below s.noted.now s.storage l.types (depth_of_type (plain_later s.later)) (suc l.count) mid
  declared_there = ap (λ ns. part.declarator_on texts below s.noted.now s.storage ns depth count mid) same
      ∙ ap (λ n. part.declarator_on texts below s.noted.now s.storage l.types n count mid) deep
      ∙ ap (λ n. part.declarator_on texts below s.noted.now s.storage l.types (depth_of_type (plain_later s.later)) n mid) counted

  behind_comma : part.next_declarator texts below s l ts ≡ and_then declared_here (part.behind texts below (part.notes_of texts below s) s.storage (plain_later s.later) l.list l.types)
  behind_comma =
      ap (λ o. and_then o (λ c. part.declarator_on texts below s.noted.now s.storage l.types (depth_of_type (plain_later s.later)) (suc l.count) >>= part.behind texts below (part.notes_of texts below s) s.storage (plain_later s.later) l.list l.types)) comma
      ∙ ap (λ o. and_then o (part.behind texts below (part.notes_of texts below s) s.storage (plain_later s.later) l.list l.types)) (sym declared_there)

  pub next_faults : (e : ReadFault) → IsFault declared_here e → IsFault (part.next_declarator texts below s l ts) e
  next_faults e stops = subst (λ o. IsFault o e) (sym behind_comma) (fault_first declared_here _ e stops)

  pub next_then : (d : Declarator × ℕ) (rest : List Token) → declared_here ≡ done d rest
      → part.next_declarator texts below s l ts ≡ part.behind texts below (part.notes_of texts below s) s.storage (plain_later s.later) l.list l.types d rest
  next_then d rest read = behind_comma ∙ ap (λ o. and_then o (part.behind texts below (part.notes_of texts below s) s.storage (plain_later s.later) l.list l.types)) read
