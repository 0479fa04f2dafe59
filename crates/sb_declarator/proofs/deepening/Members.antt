-- Where readers of members and parameters stop for want of depth those of some greater depth get past that token, by what is known of annotations, specifiers and declarators.
use Rattle.std.proofs.Common.{◌≡◌, ◌≤◌, ◌-◌, ℕ, Bool, true, false, not, List, [], ◌∷◌, length, take, nat_lt, refl, ap, ◌∙◌}
use Rattle.sb_base.specs.declared.interning.Name.{Name}
use Rattle.sb_base.specs.declared.tokens.Token.{Token}
use Rattle.sb_parse.specs.Parser.{Outcome, Parser, done, stop, ◌>>=◌, choose, refuse, token, looped}
use Rattle.sb_sign.specs.declared.sign.Mark.TheVariants as mark
use Rattle.sb_tree.specs.Trees.{TypeTree, DeclTree, NoteTree}
use Rattle.sb_lexicon.specs.Lexicon.{is_mark}
use Rattle.sb_lexicon.specs.Tokens.{unexpected, too_deep, floating, union, volatile, complex, unknown, misplaced, too_many_parameters, is_comma, is_colon}
use Rattle.sb_sal.specs.declared.bearer.Bearer.TheVariants as bearer
use Rattle.sb_sal.specs.Readers.{notes_reader}
use Rattle.sb_sal.specs.Spellings.{may_stand}
use Rattle.sb_sal.proofs.Deepening.{Past, read_past, stopped_past, AtMost, Shrinks, Deepens, most_done, most_stop, most_at, shrinks_at, still_pure, still_refuse, still_token, in_order, choosing, either_way, turning}
use Rattle.sb_specifier.specs.declared.seat.Seat.{Seat}
use Rattle.sb_specifier.specs.declared.seat.Seat.TheVariants as seat
use Rattle.sb_specifier.specs.Specified.{reading, again}
use Rattle.sb_parse.specs.Texts.{with_front, with_text}
use Rattle.sb_specifier.specs.Readers.{barred_by, is_close_brace, is_semicolon, makes_room, bit_field, variable_arguments, Declarations, Parts, specifiers}
use Rattle.sb_declarator.specs.Readers.{on, member_declarator, next_member, member, members, parameter, beyond_limit, another_parameter, next_parameter, parameters_at}
use Rattle.sb_declarator.proofs.widening.Members.{text_wider}

-- ---- the tokens that were read stand beside the value

pub most_front : {A : Type 0} (most : ℕ) (ts : List Token) (o : Outcome Token A) → AtMost most o → AtMost most (with_front ts o)
most_front most ts (done a rest) O = most_done most (a, take (length ts - length rest) ts) rest (O.read a rest refl)
most_front most ts (stop i k) O = most_stop most i k (O.stopped i k refl)

pub past_front : {A : Type 0} (left : ℕ) (ts : List Token) (o : Outcome Token A) → Past left o → Past left (with_front ts o)
past_front left ts o (read_past a rest e less) = read_past (a, take (length ts - length rest) ts) rest (ap (with_front ts) e) less
past_front left ts o (stopped_past i k e less) = stopped_past i k (ap (with_front ts) e) less

pub shrinks_text : {A : Type 0} (p : Parser Token A) → Shrinks p → Shrinks (with_text p)
shrinks_text p P = shrinks_at (with_text p) (λ ts. most_front (length ts) ts (p ts) (most_at p P ts))

stopped_front : {A : Type 0} (ts : List Token) (o : Outcome Token A) (i left : ℕ) → with_front ts o ≡ stop i left → o ≡ stop i left
stopped_front ts (done a rest) i left e = absurd (cc e)
stopped_front {A = A} ts (stop j k) i left e = let number : j ≡ i = cc e in let lefts : k ≡ left = cc e in ap (λ z. stop z k) number ∙ ap (stop i) lefts

pub text_deepens : {A : Type 0} (n : ℕ) (p : ℕ → Parser Token A) → Deepens n p → Deepens n (λ m. with_text (p m))
text_deepens n p P = record {
  wide = λ m le. text_wider (p n) (p m) (P.wide m le);
  shrinks = λ m le. shrinks_text (p m) (P.shrinks m le);
  deeper = λ ts left e. let d : (m : ℕ) × (n ≤ m) × Past left (p m ts) = P.deeper ts left (stopped_front ts (p n ts) too_deep left e) in (d.0, d.1, past_front left ts (p d.0 ts) d.2);
}

module _ (texts : List (List ℕ)) (n : ℕ) (part : ℕ → ℕ → Parts)
    (Notes : (types : List Name) (may : Token → Bool) → Deepens n (λ m. notes_reader (reading texts types) m may))
    (Specifiers : (seat : Seat) (types : List Name) → Deepens n (λ m. specifiers texts seat m (part m) types))
    (Declarators : (types : List Name) (functions may_lack : Bool) (base : TypeTree) → Deepens n (λ m. on texts m (part m) types functions may_lack base)) where
  -- ---- members

  declarator_deepens : (notes : List NoteTree) (types : List Name) (base : TypeTree) → Deepens n (λ m. member_declarator texts m (part m) notes types base)
  unfolding member_declarator
  declarator_deepens notes types base =
      choosing n (is_colon (reading texts types)) (λ m. refuse bit_field) _ (still_refuse n bit_field (λ e. cc e))
      (in_order n (λ m. on texts m (part m) types false false base) _ (Declarators types false false base)
      (λ d. choosing n (is_colon (reading texts types)) (λ m. refuse bit_field) _ (still_refuse n bit_field (λ e. cc e)) (still_pure n _)))

  next_deepens : (notes : List NoteTree) (types : List Name) (base : TypeTree) (ds : List DeclTree) → Deepens n (λ m. next_member texts m (part m) notes types base ds)
  unfolding next_member
  next_deepens notes types base ds =
      in_order n (λ m. token unexpected (is_comma (reading texts types))) _ (still_token n unexpected (is_comma (reading texts types)) (λ e. cc e))
      (λ t. in_order n (λ m. member_declarator texts m (part m) notes types (again base)) _ (declarator_deepens notes types (again base)) (λ d. still_pure n _))

  member_deepens : (ds : Declarations) → Deepens n (λ m. member texts m (part m) ds)
  unfolding member
  member_deepens ds =
      in_order n (λ m. notes_reader (reading texts ds.types) m (may_stand (reading texts ds.types) bearer.Member)) _ (Notes ds.types (may_stand (reading texts ds.types) bearer.Member)) (λ notes.
      in_order n (λ m. specifiers texts seat.Structure m (part m) ds.types) _ (Specifiers seat.Structure ds.types) (λ s.
      in_order n (λ m. member_declarator texts m (part m) notes s.0.types s.1) _ (declarator_deepens notes s.0.types s.1) (λ d.
      in_order n (λ m. looped (is_comma (reading texts s.0.types)) (next_member texts m (part m) notes s.0.types s.1) (d ∷ [])) _
      (turning n (is_comma (reading texts s.0.types)) (λ m. next_member texts m (part m) notes s.0.types s.1) (next_deepens notes s.0.types s.1) (d ∷ [])) (λ list.
      in_order n (λ m. token unexpected (is_semicolon (reading texts s.0.types))) _ (still_token n unexpected (is_semicolon (reading texts s.0.types)) (λ e. cc e)) (λ c. still_pure n _)))))

  pub members_deepen : (types : List Name) → Deepens n (λ m. members texts m (part m) types)
  unfolding members
  members_deepen types =
      in_order n (λ m. member texts m (part m) (record { list = []; types = types })) _ (member_deepens (record { list = []; types = types }))
      (turning n (λ t. not (is_close_brace (reading texts types) t)) (λ m. member texts m (part m)) member_deepens)

  -- ---- parameters

  parameter_deepens : (ds : Declarations) → Deepens n (λ m. parameter texts m (part m) ds)
  unfolding parameter
  parameter_deepens ds =
      in_order n (λ m. with_text (notes_reader (reading texts ds.types) m (may_stand (reading texts ds.types) bearer.Parameter))) _
      (text_deepens n (λ m. notes_reader (reading texts ds.types) m (may_stand (reading texts ds.types) bearer.Parameter)) (Notes ds.types (may_stand (reading texts ds.types) bearer.Parameter))) (λ notes.
      in_order n (λ m. with_text (specifiers texts seat.Prototype m (part m) ds.types)) _ (text_deepens n (λ m. specifiers texts seat.Prototype m (part m) ds.types) (Specifiers seat.Prototype ds.types)) (λ s.
      in_order n (λ m. on texts m (part m) s.0.0.types false true s.0.1) _ (Declarators s.0.0.types false true s.0.1) (λ d. still_pure n _)))

  -- a refusal that no depth mends
  refused_deepens : (k : ℕ) → ((k ≡ too_deep) → ⊥) → (goes : Token → Bool) (r : ℕ → Parser Token Declarations) → Deepens n r → Deepens n (λ m. choose goes (refuse k) (r m))
  refused_deepens k other goes r R = choosing n goes (λ m. refuse k) r (still_refuse n k other) R

  beyond_deepens : (ds : Declarations) → Deepens n (λ m. beyond_limit texts m (part m) ds)
  unfolding beyond_limit
  beyond_deepens ds =
      choosing n makes_room (λ m. token unexpected makes_room >>= (λ t. parameter texts m (part m) ds)) (λ m. barred_by too_many_parameters (reading texts ds.types) seat.Prototype)
      (in_order n (λ m. token unexpected makes_room) _ (still_token n unexpected makes_room (λ e. cc e)) (λ t. parameter_deepens ds))
      (refused_deepens unknown (λ e. cc e) _ _ (refused_deepens misplaced (λ e. cc e) _ _ (refused_deepens floating (λ e. cc e) _ _ (refused_deepens union (λ e. cc e) _ _ (refused_deepens volatile (λ e. cc e) _ _
      (refused_deepens complex (λ e. cc e) _ _ (refused_deepens too_many_parameters (λ e. cc e) _ _ (still_refuse n unexpected (λ e. cc e)))))))))

  another_deepens : (ds : Declarations) → Deepens n (λ m. another_parameter texts m (part m) ds)
  unfolding another_parameter
  another_deepens ds =
      either_way n (not (nat_lt (length ds.list) 32)) (λ m. beyond_limit texts m (part m) ds) (λ m. parameter texts m (part m) ds) (λ h. beyond_deepens ds) (λ h. parameter_deepens ds)

  next_parameter_deepens : (ds : Declarations) → Deepens n (λ m. next_parameter texts m (part m) ds)
  unfolding next_parameter
  next_parameter_deepens ds =
      in_order n (λ m. token unexpected (is_comma (reading texts ds.types))) _ (still_token n unexpected (is_comma (reading texts ds.types)) (λ e. cc e))
      (λ t. choosing n (is_mark (reading texts ds.types) mark.Ellipsis) (λ m. refuse variable_arguments) (λ m. another_parameter texts m (part m) ds) (still_refuse n variable_arguments (λ e. cc e)) (another_deepens ds))

  pub parameters_deepen : (types : List Name) → Deepens n (λ m. parameters_at texts m (part m) types)
  unfolding parameters_at
  parameters_deepen types =
      in_order n (λ m. parameter texts m (part m) (record { list = []; types = types })) _ (parameter_deepens (record { list = []; types = types }))
      (turning n (is_comma (reading texts types)) (λ m. next_parameter texts m (part m)) next_parameter_deepens)
