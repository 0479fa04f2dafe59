-- Readers of specifiers and members behind the first steps of each.
use Rattle.std.proofs.Common.{◌≡◌, ℕ, ◌-◌, ◌&&◌, true, false, List, [], ◌∷◌, ◌++◌, length, Option, None, Some, if◌then◌else◌, refl, ap, sym, ◌∙◌, subst}
use Rattle.sb_base.specs.declared.interning.Name.{Name}
use Rattle.sb_base.specs.declared.tokens.Token.{Token}
use Rattle.sb_parse.specs.Parser.{Outcome, done, stop, at_next, and_then, pure, token, looped}
use Rattle.sb_tree.specs.Trees.{TypeTree, NoteTree, DeclTree, depth_of_type}
use Rattle.sb_lexicon.specs.declared.reading.ReadFault.{ReadFault}
use Rattle.sb_lexicon.specs.declared.reading.ReadFault.TheVariants.{Refused, Memory}
use Rattle.sb_sign.specs.declared.sign.Keyword.TheVariants as keyword
use Rattle.sb_lexicon.specs.Lexicon.{is_keyword}
use Rattle.sb_lexicon.specs.Words.{Nothing, is_nothing}
use Rattle.sb_lexicon.specs.Meaning.{stop_number, IsFault, StopsAt}
use Rattle.sb_lexicon.specs.Tokens.{unexpected, is_comma, is_colon}
use Rattle.sb_parse.proofs.Choices.{and_then_assoc}
use Rattle.sb_lexicon.proofs.Loops.{fault_first}
use Rattle.sb_sal.specs.declared.bearer.Bearer.TheVariants as bearer
use Rattle.sb_sal.specs.Readers.{notes_reader}
use Rattle.sb_sal.specs.Spellings.{may_stand}
use Rattle.sb_derivation.specs.declared.members.Heading.{Heading}
use Rattle.sb_specifier.specs.declared.seat.Seat.{Seat}
use Rattle.sb_specifier.specs.declared.seat.Seat.TheVariants as seat
use Rattle.sb_specifier.specs.Declaration.{nowhere}
use Rattle.sb_derivation.specs.Parts.{notes_at, simple_decl}
use Rattle.sb_declarator.specs.Meaning.{nested, inside, heading_members}
use Rattle.sb_specifier.specs.Meaning.{type_in, plain_later}
use Rattle.sb_specifier.specs.Parts.{completed}
use Rattle.sb_declarator.specs.Parts as part
use Rattle.sb_specifier.specs.Readers as spec
use Rattle.sb_specifier.specs.Readers.{Declarator, Declarations, Parts, bit_field, is_specifier_word, tagged, structure, specified, keyword_specifiers, defined, specifiers}
use Rattle.sb_declarator.specs.Readers.{parts, declarators, member, next_member, member_declarator}
use Rattle.sb_specifier.specs.Specified.{Specified, reading, unspecified, saying, base_of, again}

-- a stop of a reader, and the fault that says so
pub stops_is : {A : Type 0} (o : Outcome Token A) (n left : ℕ) (e : ReadFault) → o ≡ stop n left → StopsAt n left e → IsFault o e
stops_is o n left (Refused reason k) e s = e ∙ ap (λ m. stop m left) (sym s.0) ∙ ap (λ m. stop (stop_number reason) m) (sym s.1)
stops_is o n left Memory e s = absurd s

-- ---- specifiers

same_completed : (texts : List (List ℕ)) (at : Seat) (below : ℕ) (inner : ℕ → Parts) (s : Specified) (t : Option TypeTree) (rest : List Token) → spec.completed texts at below inner s t rest ≡ completed s t rest
same_completed texts at below inner s None rest = refl
same_completed texts at below inner s (Some t) rest = refl

pub specifiers_at : (texts : List (List ℕ)) (at : Seat) (below : ℕ) (types : List Name) (ts : List Token) (s later : Specified) (mid rest : List Token)
    → looped (is_specifier_word (reading texts [])) (nested specified texts at below) (unspecified types) ts ≡ done s mid → nested defined texts at below s mid ≡ done later rest
    → nested specifiers texts at below types ts ≡ completed later (base_of later) rest
unfolding specifiers keyword_specifiers
specifiers_at texts at below types ts s later mid rest words all = rw (words, all) (same_completed texts at below (parts texts below) later (base_of later) rest)

-- a structure does not look at what the specifiers before it say of a type
pub structure_first : (texts : List (List ℕ)) (at : Seat) (below : ℕ) (s u : Specified) (ts : List Token)
    → at_next (λ t. is_keyword (reading texts s.types) keyword.Struct t && is_nothing s.said) ts ≡ true → u ≡ saying Nothing s → nested specified texts at below s ts ≡ part.tagged_structure texts below u ts
unfolding specified tagged structure
structure_first texts at below s u ts first same = rw (same, first) refl

-- ---- members

pub member_declarator_at : (texts : List (List ℕ)) (below room : ℕ) (notes : List NoteTree) (types : List Name) (base : TypeTree) (ts : List Token) (d : Declarator) (rest : List Token)
    → at_next (is_colon (reading texts types)) ts ≡ false → room ≡ below - depth_of_type base → declarators (reading texts types) false false below (parts texts below) room 0 ts ≡ done d rest
    → part.member_declarator texts below notes types base ts ≡ (if at_next (is_colon (reading texts types)) rest then stop bit_field (length rest) else done (simple_decl notes base d nowhere) rest)
member_declarator_at texts below room notes types base ts d rest none is read = rw (none, sym is, read) refl

pub later_member_at : (texts : List (List ℕ)) (below : ℕ) (h : Heading) (notes : List NoteTree) (base : TypeTree) (ts : List Token) (comma : Token) (mid : List Token)
    → token unexpected (is_comma (reading texts h.types.now)) ts ≡ done comma mid → notes_at texts h.outer.now bearer.Member below h.noted.now ≡ notes → base ≡ plain_later h.later
    → heading_members part.later_member texts below h ts ≡ part.member_declarator texts below notes h.types.now base mid
later_member_at texts below h notes base ts comma mid read noted is =
    ap (λ o. and_then o (λ t. part.member_declarator texts below (notes_at texts h.outer.now bearer.Member below h.noted.now) h.types.now (plain_later h.later))) read
    ∙ ap (λ l. part.member_declarator texts below l h.types.now (plain_later h.later) mid) noted
    ∙ ap (λ t. part.member_declarator texts below notes h.types.now t mid) (sym is)

-- one more member behind those before it
pub one_more_member : (texts : List (List ℕ)) (below : ℕ) (h : Heading) (ds : List DeclTree) (ts : List Token)
    → heading_members part.next_member texts below h ds ts ≡ and_then (heading_members part.later_member texts below h ts) (λ d. pure (ds ++ (d ∷ [])))
one_more_member texts below h ds ts =
    sym (and_then_assoc (token unexpected (is_comma (reading texts h.types.now)) ts) (λ t. part.member_declarator texts below (notes_at texts h.outer.now bearer.Member below h.noted.now) h.types.now (plain_later h.later)) (λ d. pure (ds ++ (d ∷ []))))

module _ (texts : List (List ℕ)) (below : ℕ) (ds : Declarations) (ts : List Token) (notes : List NoteTree) (mid : List Token)
    (noted : notes_reader (reading texts ds.types) below (may_stand (reading texts ds.types) bearer.Member) ts ≡ done notes mid) where
  pub member_faults : (e : ReadFault) → IsFault (nested specifiers texts seat.Structure below ds.types mid) e → IsFault (inside member texts below ds ts) e
  unfolding member
  member_faults e stops = rw noted (fault_first _ _ e stops)

  member_at : (s : Specified) (base : TypeTree) (rest : List Token) → nested specifiers texts seat.Structure below ds.types mid ≡ done (s, base) rest
      → inside member texts below ds ts ≡ part.declared_members texts below notes s.types base (again base) ds.list rest
  unfolding member next_member member_declarator
  member_at s base rest found = rw (noted, found) refl

  pub member_then : (P : Outcome Token Declarations → Type 0) (s : Specified) (rest : List Token) (types : List Name) (tree later : TypeTree)
      → nested specifiers texts seat.Structure below ds.types mid ≡ done (s, type_in s) rest → types ≡ s.types → tree ≡ type_in s → later ≡ again (type_in s)
      → P (part.declared_members texts below notes types tree later ds.list rest) → P (inside member texts below ds ts)
  member_then P s rest types tree later found same_types same_tree same_later p =
      subst P (sym (member_at s (type_in s) rest found))
      (subst (λ l. P (part.declared_members texts below notes s.types (type_in s) l ds.list rest)) same_later
      (subst (λ t. P (part.declared_members texts below notes s.types t later ds.list rest)) same_tree
      (subst (λ l. P (part.declared_members texts below notes l tree later ds.list rest)) same_types p)))
