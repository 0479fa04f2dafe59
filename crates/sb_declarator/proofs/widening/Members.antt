-- Readers of members and parameters with more room, by what is known of annotations, specifiers and declarators.
use Rattle.std.proofs.Common.{◌≤◌, ◌∷◌, ℕ, Bool, true, false, not, List, [], if◌then◌else◌, ap}
use Rattle.sb_base.specs.declared.interning.Name.{Name}
use Rattle.sb_base.specs.declared.tokens.Token.{Token}
use Rattle.sb_parse.specs.Parser.{Outcome, Parser, ◌>>=◌, refuse, token, looped}
use Rattle.sb_sign.specs.declared.sign.Mark.TheVariants as mark
use Rattle.sb_tree.specs.Trees.{TypeTree, DeclTree, NoteTree}
use Rattle.sb_lexicon.specs.Lexicon.{is_mark}
use Rattle.sb_lexicon.specs.Tokens.{unexpected, too_many_parameters, is_comma, is_colon}
use Rattle.sb_lexicon.proofs.Wider.{Held, short, same, Wider, alike, one_by_one, behind, before, choosing, turning}
use Rattle.sb_sal.specs.declared.bearer.Bearer.TheVariants as bearer
use Rattle.sb_sal.specs.Readers.{notes_reader}
use Rattle.sb_sal.specs.Spellings.{may_stand}
use Rattle.sb_specifier.specs.declared.seat.Seat.{Seat}
use Rattle.sb_specifier.specs.declared.seat.Seat.TheVariants as seat
use Rattle.sb_specifier.specs.Specified.{reading, again}
use Rattle.sb_parse.specs.Texts.{with_front, with_text}
use Rattle.sb_specifier.specs.Readers.{barred_by, is_close_brace, makes_room, bit_field, variable_arguments, Declarations, Parts, specifiers}
use Rattle.sb_declarator.specs.Readers.{on, member_declarator, next_member, member, members, parameter, is_full, beyond_limit, another_parameter, next_parameter, parameters_at}

-- ---- the tokens that were read stand beside the value

with_front_held : {A : Type 0} (ts : List Token) (o other : Outcome Token A) → Held o other → Held (with_front ts o) (with_front ts other)
with_front_held ts o other (short left e) = short left (ap (with_front ts) e)
with_front_held ts o other (same e) = same (ap (with_front ts) e)

pub text_wider : {A : Type 0} (p q : Parser Token A) → Wider p q → Wider (with_text p) (with_text q)
text_wider p q P ts = with_front_held ts (p ts) (q ts) (P ts)

module _ (texts : List (List ℕ)) (n m : ℕ) (le : n ≤ m) (part more : ℕ → Parts)
    (Notes : (types : List Name) (may : Token → Bool) → Wider (notes_reader (reading texts types) n may) (notes_reader (reading texts types) m may))
    (Specifiers : (seat : Seat) (types : List Name) → Wider (specifiers texts seat n part types) (specifiers texts seat m more types))
    (Declarators : (types : List Name) (functions may_lack : Bool) (base : TypeTree) → Wider (on texts n part types functions may_lack base) (on texts m more types functions may_lack base)) where
  -- ---- members

  declarator_wider : (notes : List NoteTree) (types : List Name) (base : TypeTree) → Wider (member_declarator texts n part notes types base) (member_declarator texts m more notes types base)
  unfolding member_declarator
  declarator_wider notes types base =
      choosing (is_colon (reading texts types)) (refuse bit_field) (refuse bit_field) _ _ (alike (refuse bit_field))
      (before (on texts n part types false false base) (on texts m more types false false base) _ (Declarators types false false base))

  next_wider : (notes : List NoteTree) (types : List Name) (base : TypeTree) (ds : List DeclTree) → Wider (next_member texts n part notes types base ds) (next_member texts m more notes types base ds)
  unfolding next_member
  next_wider notes types base ds =
      behind (token unexpected (is_comma (reading texts types))) _ _
      (λ t. before (member_declarator texts n part notes types (again base)) (member_declarator texts m more notes types (again base)) _ (declarator_wider notes types (again base)))

  member_wider : (ds : Declarations) → Wider (member texts n part ds) (member texts m more ds)
  unfolding member
  member_wider ds =
      one_by_one (notes_reader (reading texts ds.types) n (may_stand (reading texts ds.types) bearer.Member)) (notes_reader (reading texts ds.types) m (may_stand (reading texts ds.types) bearer.Member)) _ _
      (Notes ds.types (may_stand (reading texts ds.types) bearer.Member)) (λ notes.
      one_by_one (specifiers texts seat.Structure n part ds.types) (specifiers texts seat.Structure m more ds.types) _ _ (Specifiers seat.Structure ds.types) (λ s.
      one_by_one (member_declarator texts n part notes s.0.types s.1) (member_declarator texts m more notes s.0.types s.1) _ _ (declarator_wider notes s.0.types s.1) (λ d.
      before (looped (is_comma (reading texts s.0.types)) (next_member texts n part notes s.0.types s.1) (d ∷ [])) (looped (is_comma (reading texts s.0.types)) (next_member texts m more notes s.0.types s.1) (d ∷ [])) _
      (turning (is_comma (reading texts s.0.types)) (next_member texts n part notes s.0.types s.1) (next_member texts m more notes s.0.types s.1) (next_wider notes s.0.types s.1) (d ∷ [])))))

  pub members_wider : (types : List Name) → Wider (members texts n part types) (members texts m more types)
  unfolding members
  members_wider types =
      one_by_one (member texts n part (record { list = []; types = types })) (member texts m more (record { list = []; types = types })) _ _ (member_wider (record { list = []; types = types }))
      (turning (λ t. not (is_close_brace (reading texts types) t)) (member texts n part) (member texts m more) member_wider)

  -- ---- parameters

  parameter_wider : (ds : Declarations) → Wider (parameter texts n part ds) (parameter texts m more ds)
  unfolding parameter
  parameter_wider ds =
      one_by_one (with_text (notes_reader (reading texts ds.types) n (may_stand (reading texts ds.types) bearer.Parameter))) (with_text (notes_reader (reading texts ds.types) m (may_stand (reading texts ds.types) bearer.Parameter))) _ _
      (text_wider (notes_reader (reading texts ds.types) n (may_stand (reading texts ds.types) bearer.Parameter)) (notes_reader (reading texts ds.types) m (may_stand (reading texts ds.types) bearer.Parameter))
      (Notes ds.types (may_stand (reading texts ds.types) bearer.Parameter))) (λ notes.
      one_by_one (with_text (specifiers texts seat.Prototype n part ds.types)) (with_text (specifiers texts seat.Prototype m more ds.types)) _ _
      (text_wider (specifiers texts seat.Prototype n part ds.types) (specifiers texts seat.Prototype m more ds.types) (Specifiers seat.Prototype ds.types)) (λ s.
      before (on texts n part s.0.0.types false true s.0.1) (on texts m more s.0.0.types false true s.0.1) _ (Declarators s.0.0.types false true s.0.1)))

  beyond_wider : (ds : Declarations) → Wider (beyond_limit texts n part ds) (beyond_limit texts m more ds)
  unfolding beyond_limit
  beyond_wider ds =
      choosing makes_room (token unexpected makes_room >>= (λ t. parameter texts n part ds)) (token unexpected makes_room >>= (λ t. parameter texts m more ds)) _ _
      (behind (token unexpected makes_room) _ _ (λ t. parameter_wider ds)) (alike (barred_by too_many_parameters (reading texts ds.types) seat.Prototype))

  another_wider : (ds : Declarations) → Wider (another_parameter texts n part ds) (another_parameter texts m more ds)
  unfolding another_parameter
  another_wider ds = by_count (is_full texts n part ds)
    where
      by_count : (b : Bool) → Wider (if b then beyond_limit texts n part ds else parameter texts n part ds) (if b then beyond_limit texts m more ds else parameter texts m more ds)
      by_count true = beyond_wider ds
      by_count false = parameter_wider ds

  next_parameter_wider : (ds : Declarations) → Wider (next_parameter texts n part ds) (next_parameter texts m more ds)
  unfolding next_parameter
  next_parameter_wider ds =
      behind (token unexpected (is_comma (reading texts ds.types))) _ _
      (λ t. choosing (is_mark (reading texts ds.types) mark.Ellipsis) (refuse variable_arguments) (refuse variable_arguments) (another_parameter texts n part ds) (another_parameter texts m more ds) (alike (refuse variable_arguments))
      (another_wider ds))

  pub parameters_wider : (types : List Name) → Wider (parameters_at texts n part types) (parameters_at texts m more types)
  unfolding parameters_at
  parameters_wider types =
      one_by_one (parameter texts n part (record { list = []; types = types })) (parameter texts m more (record { list = []; types = types })) _ _ (parameter_wider (record { list = []; types = types }))
      (turning (is_comma (reading texts types)) (next_parameter texts n part) (next_parameter texts m more) next_parameter_wider)
