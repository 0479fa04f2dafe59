use Rattle.std.proofs.Common.{◌≡◌, ◌≤◌, ◌-◌, ◌∙◌, [], ◌∷◌, ◌++◌, max, if◌then◌else◌, sym, ap, refl, subst, length, arith, ◌+◌}
use Rattle.std.proofs.lemmas.Result.{err_from_is_err_and}
use Rattle.sb_parse.specs.Parser.{done, stop, and_then, pure, looped}
use Rattle.sb_tree.specs.Plain.{plain_decls, plain_notes, plain_type, decl_list}
use Rattle.sb_tree.specs.Trees.{depth_of_decl, depth_of_decls}
use Rattle.sb_operand.specs.Meaning.{plain_pieces}
use Rattle.sb_lexicon.specs.Meaning.{IsFault, meant}
use Rattle.sb_lexicon.proofs.Loops.{loop_ends, loop_over, loop_goes, loop_faults, fault_first}
use Rattle.sb_operand.proofs.Lists.{count_of_pieces}
use Rattle.sb_sal.specs.Readers.{notes_reader}
use Rattle.sb_sal.specs.Spellings.{may_stand}
use Rattle.sb_sal.specs.declared.bearer.Bearer.TheVariants as bearer
use Rattle.sb_derivation.specs.Meaning.{plain_declarations, plain_untyped}
use Rattle.sb_declarator.specs.Meaning.{nested}
use Rattle.sb_specifier.specs.Meaning.{plain_later, plain_specified, type_in}
use Rattle.sb_specifier.specs.Declaration.{nowhere}
use Rattle.sb_derivation.specs.Declarators.{names_inside, plain_declarator, hidden_by}
use Rattle.sb_derivation.specs.Parts.{simple_decl}
use Rattle.sb_declarator.specs.Parts.{declared_members}
use Rattle.sb_declarator.specs.Readers.{parts}
use Rattle.sb_specifier.specs.Readers.{bit_field, specifiers, specified, is_specifier_word}
use Rattle.sb_specifier.specs.Specified.{reading, unspecified, is_function}
use Rattle.sb_specifier.proofs.Growing.{more_decls, depth_of_more_decls}
use Rattle.sb_derivation.proofs.Growing.{depth_of_simple}
use Rattle.sb_declarator.proofs.steps.Members.{stops_is, structure_first, specifiers_at, member_declarator_at, later_member_at, one_more_member, member_faults, member_then}
use Rattle.sb_declarator.proofs.steps.Parts.{no_members, some_members, structure_at}
use Rattle.sb_declarator.proofs.steps.Declarators.{at_room, called_at, starred_at, behind_open, inside_at, pointed_at, suffixed_by}
use Rattle.sb_declarator.proofs.steps.Parameters.{inner_at, parameter_behind_at, same_declarations, parameter_at}
use Rattle.sb_specifier.specs.declared.seat.Seat.TheVariants as seat
use Rattle.sb_specifier.specs.Readers as spec
use Rattle.sb_declarator.proofs.+declaring.Goals as goal

pub specifier_list::keyword_specifiers-returns-then-not-is_specifier_next-clause-read : goal.specifier_list::keyword_specifiers-returns-then-not-is_specifier_next-clause-read
specifier_list::keyword_specifiers-returns-then-not-is_specifier_next-clause-read t c = loop_ends _ _ (plain_specified c.args.first) c.args.tokens.now c.loop-turn._turn (length c.args.tokens.now) (plain_specified c.loop-turn.found.value) c.loop-turn.found.rest.now c.loop-turn.invariant.0 (sym c.if-not-is_specifier_next.ensures)

pub specifier_list::keyword_specifiers-returns-in_err-found-clause-read : goal.specifier_list::keyword_specifiers-returns-in_err-found-clause-read
specifier_list::keyword_specifiers-returns-in_err-found-clause-read t c =
    let p = err_from_is_err_and c.from_residual.result c.from_residual.ensures.1 in
    rw (p.1, p.2) (loop_faults _ _ (plain_specified c.args.first) c.args.tokens.now c.loop-turn._turn (length c.args.tokens.now) (plain_specified c.loop-turn.found.value) c.loop-turn.found.rest.now c.loop-turn.invariant.0 c.loop-turn-test.true (sym c.if-not-is_specifier_next.ensures) _ c.in_err-found.ensures.read)

pub specifier_list::keyword_specifiers-loop-turn-preserved : goal.specifier_list::keyword_specifiers-loop-turn-preserved
specifier_list::keyword_specifiers-loop-turn-preserved t c =
    (loop_goes _ _ (plain_specified c.args.first) c.args.tokens.now c.loop-turn._turn (length c.args.tokens.now) (plain_specified c.loop-turn.found.value) c.loop-turn.found.rest.now c.loop-turn.invariant.0 c.loop-turn-test.true (sym c.if-not-is_specifier_next.ensures) (plain_specified c.in_ok-found.found.value) c.in_ok-found.found.rest.now c.in_ok-found.ensures.read, c.in_ok-found.ensures.known, c.in_ok-found.ensures.fits)

pub specifier_list::keyword_specifiers-returns-clause-read : goal.specifier_list::keyword_specifiers-returns-clause-read
specifier_list::keyword_specifiers-returns-clause-read t c = loop_over _ _ (plain_specified c.args.first) c.args.tokens.now c.loop-turn._turn (length c.args.tokens.now) (plain_specified c.loop-turn.found.value) c.loop-turn.found.rest.now c.loop-turn.invariant.0 c.loop-turn-test.false

pub members::next_members-returns-then-not-is_mark_next-clause-read : goal.members::next_members-returns-then-not-is_mark_next-clause-read
members::next_members-returns-then-not-is_mark_next-clause-read t c = (loop_ends _ _ (plain_decls c.args.first.list.items) c.args.first.rest.now c.loop-turn._turn (length c.args.first.rest.now) (plain_decls c.loop-turn.found.list.items) c.loop-turn.found.rest.now c.loop-turn.invariant.0 (sym c.if-not-is_mark_next.ensures), c.loop-turn.invariant.1)

pub members::next_members-returns-in_err-next-clause-read : goal.members::next_members-returns-in_err-next-clause-read
members::next_members-returns-in_err-next-clause-read t c =
    let p = err_from_is_err_and c.from_residual.result c.from_residual.ensures.1 in
    rw (p.1, p.2) (loop_faults _ _ (plain_decls c.args.first.list.items) c.args.first.rest.now c.loop-turn._turn (length c.args.first.rest.now) (plain_decls c.loop-turn.found.list.items) c.loop-turn.found.rest.now c.loop-turn.invariant.0 c.loop-turn-test.true (sym c.if-not-is_mark_next.ensures) _ (rw (one_more_member c.args.names.now.texts c.args.below c.args.heading.now (plain_decls c.loop-turn.found.list.items) c.loop-turn.found.rest.now) (fault_first _ _ _ c.in_err-next.ensures.read)))

pub members::next_members-loop-turn-preserved : goal.members::next_members-loop-turn-preserved
members::next_members-loop-turn-preserved t c =
    let before = plain_decls c.loop-turn.found.list.items in
    (loop_goes _ _ (plain_decls c.args.first.list.items) c.args.first.rest.now c.loop-turn._turn (length c.args.first.rest.now) (plain_decls c.loop-turn.found.list.items) c.loop-turn.found.rest.now c.loop-turn.invariant.0 c.loop-turn-test.true (sym c.if-not-is_mark_next.ensures) (plain_decls c.in_ok-found.found.list.items) c.in_ok-found.found.rest.now (one_more_member c.args.names.now.texts c.args.below c.args.heading.now (plain_decls c.loop-turn.found.list.items) c.loop-turn.found.rest.now ∙ ap (λ o. and_then o (λ d. pure (before ++ (d ∷ [])))) c.in_ok-next.ensures.read.0 ∙ ap (λ l. done l c.in_ok-next.next.rest.now) (sym c.in_ok-found.ensures.list) ∙ ap (λ r. done (plain_decls c.in_ok-found.found.list.items) r) (sym c.in_ok-found.ensures.rest)), c.in_ok-found.ensures.known, omega (arith, c.in_ok-found.ensures.depth, c.loop-turn.invariant.2, c.in_ok-next.ensures.depth))

pub members::next_members-returns-clause-read : goal.members::next_members-returns-clause-read
members::next_members-returns-clause-read t c = (loop_over _ _ (plain_decls c.args.first.list.items) c.args.first.rest.now c.loop-turn._turn (length c.args.first.rest.now) (plain_decls c.loop-turn.found.list.items) c.loop-turn.found.rest.now c.loop-turn.invariant.0 c.loop-turn-test.false, c.loop-turn.invariant.1)

pub members::more_members-returns-then-not-is_other_next-clause-read : goal.members::more_members-returns-then-not-is_other_next-clause-read
members::more_members-returns-then-not-is_other_next-clause-read t c = (loop_ends _ _ (plain_declarations c.args.first) c.args.tokens.now c.loop-turn._turn (length c.args.tokens.now) (plain_declarations c.loop-turn.found.value) c.loop-turn.found.rest.now c.loop-turn.invariant.0 (sym c.if-not-is_other_next.ensures), c.loop-turn.invariant.1)

pub members::more_members-returns-in_err-found-clause-read : goal.members::more_members-returns-in_err-found-clause-read
members::more_members-returns-in_err-found-clause-read t c =
    let p = err_from_is_err_and c.from_residual.result c.from_residual.ensures.1 in
    rw (p.1, p.2) (loop_faults _ _ (plain_declarations c.args.first) c.args.tokens.now c.loop-turn._turn (length c.args.tokens.now) (plain_declarations c.loop-turn.found.value) c.loop-turn.found.rest.now c.loop-turn.invariant.0 c.loop-turn-test.true (sym c.if-not-is_other_next.ensures) _ c.in_err-found.ensures.read)

pub members::more_members-loop-turn-preserved : goal.members::more_members-loop-turn-preserved
members::more_members-loop-turn-preserved t c =
    (loop_goes _ _ (plain_declarations c.args.first) c.args.tokens.now c.loop-turn._turn (length c.args.tokens.now) (plain_declarations c.loop-turn.found.value) c.loop-turn.found.rest.now c.loop-turn.invariant.0 c.loop-turn-test.true (sym c.if-not-is_other_next.ensures) (plain_declarations c.in_ok-found.found.value) c.in_ok-found.found.rest.now c.in_ok-found.ensures.read.0, c.in_ok-found.ensures.read.1, c.in_ok-found.ensures.depth)

pub members::more_members-returns-clause-read : goal.members::more_members-returns-clause-read
members::more_members-returns-clause-read t c = (loop_over _ _ (plain_declarations c.args.first) c.args.tokens.now c.loop-turn._turn (length c.args.tokens.now) (plain_declarations c.loop-turn.found.value) c.loop-turn.found.rest.now c.loop-turn.invariant.0 c.loop-turn-test.false, c.loop-turn.invariant.1)

pub members::members-returns-then-left-lt2-clause-read : goal.members::members-returns-then-left-lt2-clause-read
members::members-returns-then-left-lt2-clause-read t c =
    rw (no_members c.args.names.now.texts c.args.left c.args.types c.args.tokens.now c.if-left-lt2.true) c.barred.ensures

pub members::members-returns-clause-read : goal.members::members-returns-clause-read
members::members-returns-clause-read t c =
    let some : 2 ≤ c.args.left = omega (arith, c.if-left-lt2.false) in
    rw (some_members c.args.names.now.texts c.args.left c.args.types c.args.tokens.now some) c.some_members.ensures.read

pub specifier_list::structure-returns-in_err-found-clause-read : goal.specifier_list::structure-returns-in_err-found-clause-read
specifier_list::structure-returns-in_err-found-clause-read t c =
    let p = err_from_is_err_and c.from_residual-in_err-found.result c.from_residual-in_err-found.ensures.1 in
    rw (p.1, p.2, structure_at c.args.names.now.texts c.args.below c.room_inside-left.result (plain_untyped c.args.so_far) c.args.tag c.args.place c.args.tokens.now c.in_ok-open.open.value c.in_ok-open.open.rest.now c.room_inside-left.ensures (omega (arith, c.if-left-lt2.false)) c.in_ok-open.ensures) (fault_first _ _ _ c.in_err-found.ensures.read)

pub specifier_list::structure-returns-in_err-close-clause-read : goal.specifier_list::structure-returns-in_err-close-clause-read
specifier_list::structure-returns-in_err-close-clause-read t c =
    let p = err_from_is_err_and c.from_residual-in_err-close.result c.from_residual-in_err-close.ensures.1 in
    rw (p.1, p.2, structure_at c.args.names.now.texts c.args.below c.room_inside-left.result (plain_untyped c.args.so_far) c.args.tag c.args.place c.args.tokens.now c.in_ok-open.open.value c.in_ok-open.open.rest.now c.room_inside-left.ensures (omega (arith, c.if-left-lt2.false)) c.in_ok-open.ensures, c.in_ok-found.ensures.read.0) (fault_first _ _ _ c.in_err-close.ensures)

pub specifier_list::structure-returns-clause-read : goal.specifier_list::structure-returns-clause-read
specifier_list::structure-returns-clause-read t c =
    rw (structure_at c.args.names.now.texts c.args.below c.room_inside-left.result (plain_untyped c.args.so_far) c.args.tag c.args.place c.args.tokens.now c.in_ok-open.open.value c.in_ok-open.open.rest.now c.room_inside-left.ensures (omega (arith, c.if-left-lt2.false)) c.in_ok-open.ensures, c.in_ok-found.ensures.read.0, c.in_ok-close.ensures) refl

pub members::next_member-returns-clause-read : goal.members::next_member-returns-clause-read
members::next_member-returns-clause-read t c =
    rw (later_member_at c.args.names.now.texts c.args.below c.args.heading.now (plain_notes c.in_ok-notes.notes.list.items) (plain_type c.in_ok-base.base.tree.value) c.args.tokens.now c.in_ok-comma.comma.value c.in_ok-comma.comma.rest.now c.in_ok-comma.ensures c.in_ok-notes.ensures.list c.in_ok-base.ensures.tree) c.member_declarator.ensures.read

pub members::member-returns-in_err-found-clause-read : goal.members::member-returns-in_err-found-clause-read
members::member-returns-in_err-found-clause-read t c =
    let texts = c.args.names.now.texts in
    let p = err_from_is_err_and c.from_residual-in_err-found.result c.from_residual-in_err-found.ensures.1 in
    let noted = c.in_ok-notes.ensures.read.0 in
    let stops = c.in_err-found.ensures.read in
    rw (p.1, p.2) (member_faults texts c.args.below (plain_declarations c.args.so_far) c.args.tokens.now (plain_notes c.in_ok-notes.notes.list.items) c.in_ok-notes.notes.rest.now noted c.in_err-found.field-0.0 stops)

pub members::member-returns-in_err-all-clause-read : goal.members::member-returns-in_err-all-clause-read
members::member-returns-in_err-all-clause-read t c =
    let texts = c.args.names.now.texts in
    let p = err_from_is_err_and c.from_residual-in_err-all.result c.from_residual-in_err-all.ensures.1 in
    let noted = c.in_ok-notes.ensures.read.0 in
    let found = c.in_ok-found.ensures.read in
    rw (p.1, p.2) (member_then texts c.args.below (plain_declarations c.args.so_far) c.args.tokens.now (plain_notes c.in_ok-notes.notes.list.items) c.in_ok-notes.notes.rest.now noted (λ o. IsFault o c.in_err-all.field-0.0)
    (plain_specified c.in_ok-found.found.value) c.in_ok-found.found.rest.now _ _ _ found refl c.in_ok-base.ensures.tree c.later-later.ensures c.in_err-all.ensures.read)

pub members::member-returns-clause-read : goal.members::member-returns-clause-read
members::member-returns-clause-read t c =
    let texts = c.args.names.now.texts in
    let noted = c.in_ok-notes.ensures.read.0 in
    let found = c.in_ok-found.ensures.read in
    let all : declared_members texts c.args.below (plain_notes c.in_ok-notes.notes.list.items) c.in_ok-found.found.value.types (plain_type c.in_ok-base.base.tree.value) (plain_later c.later-later.result) (plain_decls c.args.so_far.list.items) c.in_ok-found.found.rest.now ≡ done (record { list = plain_decls c.in_ok-all.all.list.items; types = c.in_ok-found.found.value.types }) c.in_ok-all.all.rest.now = c.in_ok-all.ensures.read.0 in (
      member_then texts c.args.below (plain_declarations c.args.so_far) c.args.tokens.now (plain_notes c.in_ok-notes.notes.list.items) c.in_ok-notes.notes.rest.now noted
          (λ o. o ≡ done (record { list = plain_decls c.in_ok-all.all.list.items; types = c.in_ok-found.found.value.types }) c.in_ok-all.all.rest.now)
          (plain_specified c.in_ok-found.found.value) c.in_ok-found.found.rest.now _ _ _ found refl c.in_ok-base.ensures.tree c.later-later.ensures all,
      c.in_ok-all.ensures.read.1,
    )

pub members::member_declarator-returns-then-is_mark_next-2-clause-read : goal.members::member_declarator-returns-then-is_mark_next-2-clause-read
members::member_declarator-returns-then-is_mark_next-2-clause-read t c =
    let rest = c.in_ok-found.found.rest.now in
    stops_is _ bit_field (length rest) _ (member_declarator_at c.args.names.now.texts c.args.below (c.args.below - c.args.base.depth) (plain_notes c.args.notes.list.items) c.args.types.now (plain_type c.args.base.tree.value) c.args.tokens.now (plain_declarator c.args.types.now c.in_ok-found.found.value) rest (sym c.if-is_mark_next.ensures) (ap (λ n. c.args.below - n) c.requires.base) c.in_ok-found.ensures.read.0
    ∙ ap (λ b. if b then stop bit_field (length rest) else done (simple_decl (plain_notes c.args.notes.list.items) (plain_type c.args.base.tree.value) (plain_declarator c.args.types.now c.in_ok-found.found.value) nowhere) rest) (sym c.if-is_mark_next-2.ensures)) c.lacks-then-is_mark_next-2.ensures

pub members::member_declarator-returns-clause-read : goal.members::member_declarator-returns-clause-read
members::member_declarator-returns-clause-read t c =
    let rest = c.in_ok-found.found.rest.now in
    let d = c.in_ok-found.found.value in
    let deep = depth_of_simple (plain_notes c.args.notes.list.items) (plain_type c.args.base.tree.value) d.pieces.items d.name (names_inside [] d.inner) nowhere c.args.notes.depth c.args.base.depth d.depth c.requires.notes c.requires.base c.in_ok-found.ensures.read.1 in (
      member_declarator_at c.args.names.now.texts c.args.below (c.args.below - c.args.base.depth) (plain_notes c.args.notes.list.items) c.args.types.now (plain_type c.args.base.tree.value) c.args.tokens.now (plain_declarator c.args.types.now d) rest (sym c.if-is_mark_next.ensures) (ap (λ n. c.args.below - n) c.requires.base) c.in_ok-found.ensures.read.0
          ∙ ap (λ b. if b then stop bit_field (length rest) else done (simple_decl (plain_notes c.args.notes.list.items) (plain_type c.args.base.tree.value) (plain_declarator c.args.types.now d) nowhere) rest) (sym c.if-is_mark_next-2.ensures)
          ∙ ap (λ t. done t rest) (sym c.in_ok-tree.ensures),
      omega (arith, c.max.ensures, c.max-depth.ensures, c.len-count.ensures, deep, ap depth_of_decl c.in_ok-tree.ensures),
    )

pub specifier_list::specified-returns-then-is_tag_next-clause-read : goal.specifier_list::specified-returns-then-is_tag_next-clause-read
specifier_list::specified-returns-then-is_tag_next-clause-read t c =
    rw (structure_first c.args.names.now.texts c.args.seat c.args.below (plain_specified c.args.so_far) (plain_untyped c.of.result) c.args.tokens.now (sym c.if-is_tag_next.ensures) c.of.ensures.same) c.tagged_structure.ensures.read

pub specifier_list::specifiers-returns-clause-read : goal.specifier_list::specifiers-returns-clause-read
specifier_list::specifiers-returns-clause-read t c =
    let texts = c.args.names.now.texts in
    let start : plain_specified c.none-none.result ≡ unspecified c.args.types.now = c.none-none.ensures.none ∙ ap unspecified c.in_ok-clone.ensures.cases in
    let words = subst (λ s. looped (is_specifier_word (reading texts [])) (nested specified texts c.args.seat c.args.below) s c.args.tokens.now ≡ done (plain_specified c.in_ok-words.words.value) c.in_ok-words.words.rest.now) start c.in_ok-words.ensures.read in
    rw (specifiers_at texts c.args.seat c.args.below c.args.types.now c.args.tokens.now (plain_specified c.in_ok-words.words.value) (plain_specified c.in_ok-all.all.value) c.in_ok-words.words.rest.now c.in_ok-all.all.rest.now words c.in_ok-all.ensures.read) c.completed.ensures.read

pub declarators::declarator_within-returns-clause-read : goal.declarators::declarator_within-returns-clause-read
declarators::declarator_within-returns-clause-read t c = rw (at_room (meant c.args.lexicon.now) c.args.functions c.args.may_lack c.args.below c.args.room c.args.tokens.now) c.declarator_at.ensures.read

pub declarators::suffixes-returns-then-not-is_suffix_next-clause-read : goal.declarators::suffixes-returns-then-not-is_suffix_next-clause-read
declarators::suffixes-returns-then-not-is_suffix_next-clause-read t c = (
  loop_ends _ _ (plain_declarator c.args.lexicon.now.types.now c.args.first.value) c.args.first.rest.now c.loop-turn._turn (length c.args.first.rest.now) (plain_declarator c.args.lexicon.now.types.now c.loop-turn.found.value) c.loop-turn.found.rest.now c.loop-turn.invariant.0
      (sym c.if-not-is_suffix_next.ensures),
  c.loop-turn.invariant.1,
)

pub declarators::suffixes-returns-in_err-found-clause-read : goal.declarators::suffixes-returns-in_err-found-clause-read
declarators::suffixes-returns-in_err-found-clause-read t c =
    let p = err_from_is_err_and c.from_residual.result c.from_residual.ensures.1 in
    rw (p.1, p.2) (loop_faults _ _ (plain_declarator c.args.lexicon.now.types.now c.args.first.value) c.args.first.rest.now c.loop-turn._turn (length c.args.first.rest.now) (plain_declarator c.args.lexicon.now.types.now c.loop-turn.found.value) c.loop-turn.found.rest.now c.loop-turn.invariant.0
    c.loop-turn-test.true (sym c.if-not-is_suffix_next.ensures) _ c.in_err-found.ensures.read)

pub declarators::suffixes-loop-turn-preserved : goal.declarators::suffixes-loop-turn-preserved
declarators::suffixes-loop-turn-preserved t c = (
  loop_goes _ _ (plain_declarator c.args.lexicon.now.types.now c.args.first.value) c.args.first.rest.now c.loop-turn._turn (length c.args.first.rest.now) (plain_declarator c.args.lexicon.now.types.now c.loop-turn.found.value) c.loop-turn.found.rest.now c.loop-turn.invariant.0
      c.loop-turn-test.true (sym c.if-not-is_suffix_next.ensures) (plain_declarator c.args.lexicon.now.types.now c.in_ok-found.found.value) c.in_ok-found.found.rest.now c.in_ok-found.ensures.read.0,
  c.in_ok-found.ensures.read.1,
  c.in_ok-found.ensures.bounds,
)

pub declarators::suffixes-returns-clause-read : goal.declarators::suffixes-returns-clause-read
declarators::suffixes-returns-clause-read t c = (
  loop_over _ _ (plain_declarator c.args.lexicon.now.types.now c.args.first.value) c.args.first.rest.now c.loop-turn._turn (length c.args.first.rest.now) (plain_declarator c.args.lexicon.now.types.now c.loop-turn.found.value) c.loop-turn.found.rest.now c.loop-turn.invariant.0 c.loop-turn-test.false,
  c.loop-turn.invariant.1,
)

pub declarators::called-returns-in_err-params-clause-read : goal.declarators::called-returns-in_err-params-clause-read
declarators::called-returns-in_err-params-clause-read t c =
    let counted : length c.args.so_far.value.pieces.items ≡ c.len-count.result = omega (arith, c.len-count.ensures) in
    let p = err_from_is_err_and c.from_residual-in_err-params.result c.from_residual-in_err-params.ensures.1 in
    rw (
      p.1,
      p.2,
      called_at (meant c.args.lexicon.now) c.args.functions c.args.may_lack c.args.below c.args.room c.len-count.result (plain_declarator c.args.lexicon.now.types.now c.args.so_far.value) c.args.so_far.rest.now c.in_ok-open.open.value c.in_ok-open.open.rest.now
          (count_of_pieces c.args.so_far.value.pieces.items ∙ counted) c.requires.bare (omega (arith, c.len.ensures, c.len-count.ensures, c.if-len-room.false)) c.in_ok-open.ensures,
    ) (fault_first _ _ _ c.in_err-params.ensures.read)

pub declarators::called-returns-in_err-close-clause-read : goal.declarators::called-returns-in_err-close-clause-read
declarators::called-returns-in_err-close-clause-read t c =
    let counted : length c.args.so_far.value.pieces.items ≡ c.len-count.result = omega (arith, c.len-count.ensures) in
    let p = err_from_is_err_and c.from_residual-in_err-close.result c.from_residual-in_err-close.ensures.1 in
    rw (
      p.1,
      p.2,
      called_at (meant c.args.lexicon.now) c.args.functions c.args.may_lack c.args.below c.args.room c.len-count.result (plain_declarator c.args.lexicon.now.types.now c.args.so_far.value) c.args.so_far.rest.now c.in_ok-open.open.value c.in_ok-open.open.rest.now
          (count_of_pieces c.args.so_far.value.pieces.items ∙ counted) c.requires.bare (omega (arith, c.len.ensures, c.len-count.ensures, c.if-len-room.false)) c.in_ok-open.ensures,
      c.in_ok-params.ensures.read.0,
    ) (fault_first _ _ _ c.in_err-close.ensures)

pub declarators::called-returns-clause-read : goal.declarators::called-returns-clause-read
declarators::called-returns-clause-read t c =
    let counted : length c.args.so_far.value.pieces.items ≡ c.len-count.result = omega (arith, c.len-count.ensures) in (
      rw (
        called_at (meant c.args.lexicon.now) c.args.functions c.args.may_lack c.args.below c.args.room c.len-count.result (plain_declarator c.args.lexicon.now.types.now c.args.so_far.value) c.args.so_far.rest.now c.in_ok-open.open.value c.in_ok-open.open.rest.now
            (count_of_pieces c.args.so_far.value.pieces.items ∙ counted) c.requires.bare (omega (arith, c.len.ensures, c.len-count.ensures, c.if-len-room.false)) c.in_ok-open.ensures,
        c.in_ok-params.ensures.read.0,
        c.in_ok-close.ensures,
        c.in_ok-whole.ensures.list,
        c.in_ok-whole.ensures.name,
      ) refl,
      c.in_ok-whole.ensures.known,
    )

pub declarators::declarator_at-returns-clause-read : goal.declarators::declarator_at-returns-clause-read
declarators::declarator_at-returns-clause-read t c =
    let some : 1 ≤ c.args.room = omega (arith, c.if-room-eq0.false) in
    rw (starred_at (meant c.args.lexicon.now) c.args.functions c.args.may_lack c.args.below c.args.room c.args.tokens.now some (sym c.if-not-is_mark_next.ensures)) c.pointed.ensures.read

pub declarators::in_parentheses-returns-then-not-may_lack-clause-read : goal.declarators::in_parentheses-returns-then-not-may_lack-clause-read
declarators::in_parentheses-returns-then-not-may_lack-clause-read t c =
    rw (behind_open (meant c.args.lexicon.now) c.args.functions c.args.may_lack c.args.below c.args.room c.args.tokens.now c.in_ok-open.open.value c.in_ok-open.open.rest.now c.if-not-may_lack.true c.in_ok-open.ensures) c.inside.ensures.read

pub declarators::inside-returns-in_err-close-clause-read : goal.declarators::inside-returns-in_err-close-clause-read
declarators::inside-returns-in_err-close-clause-read t c =
    let p = err_from_is_err_and c.from_residual-in_err-close.result c.from_residual-in_err-close.ensures.1 in
    rw (p.1, p.2, inside_at (meant c.args.lexicon.now) c.args.functions c.args.may_lack c.args.below c.args.room c.args.opening.value c.args.opening.rest.now c.requires.some, c.in_ok-inner.ensures.read.0) (fault_first _ _ _ c.in_err-close.ensures)

pub declarators::pointed-returns-in_err-inner-clause-read : goal.declarators::pointed-returns-in_err-inner-clause-read
declarators::pointed-returns-in_err-inner-clause-read t c =
    let p = err_from_is_err_and c.from_residual-in_err-inner.result c.from_residual-in_err-inner.ensures.1 in
    rw (p.1, p.2, pointed_at (meant c.args.lexicon.now) c.args.functions c.args.may_lack c.args.below c.args.room c.room_behind-left.result c.in_ok-constant.constant.value c.args.tokens.now c.in_ok-star.star.value c.in_ok-star.star.rest.now c.in_ok-constant.constant.rest.now c.room_behind-left.ensures c.in_ok-star.ensures c.in_ok-constant.ensures.read) (fault_first _ _ _ c.in_err-inner.ensures.read)

pub declarators::pointed-returns-clause-read : goal.declarators::pointed-returns-clause-read
declarators::pointed-returns-clause-read t c =
    (rw (pointed_at (meant c.args.lexicon.now) c.args.functions c.args.may_lack c.args.below c.args.room c.room_behind-left.result c.in_ok-constant.constant.value c.args.tokens.now c.in_ok-star.star.value c.in_ok-star.star.rest.now c.in_ok-constant.constant.rest.now c.room_behind-left.ensures c.in_ok-star.ensures c.in_ok-constant.ensures.read, c.in_ok-inner.ensures.read.0, c.in_ok-pointing.ensures.list, c.in_ok-pointing.ensures.name, c.in_ok-pointing.ensures.inner) refl, c.in_ok-pointing.ensures.known)

pub declarators::suffixed-returns-then-is_mark_next-clause-read : goal.declarators::suffixed-returns-then-is_mark_next-clause-read
declarators::suffixed-returns-then-is_mark_next-clause-read t c =
    rw (suffixed_by (meant c.args.lexicon.now) c.args.functions c.args.may_lack c.args.below c.args.room (plain_declarator c.args.lexicon.now.types.now c.args.so_far.value) c.args.so_far.rest.now (sym c.if-is_mark_next.ensures) (ap (λ l. is_function (plain_pieces l)) (sym c.as_slice.ensures.value) ∙ sym c.if-is_function.ensures)) c.arrayed.ensures.read

pub parameters::more_parameters-returns-then-not-is_mark_next-clause-read : goal.parameters::more_parameters-returns-then-not-is_mark_next-clause-read
parameters::more_parameters-returns-then-not-is_mark_next-clause-read t c = (loop_ends _ _ (plain_declarations c.args.first) c.args.tokens.now c.loop-turn._turn (length c.args.tokens.now) (plain_declarations c.loop-turn.found.value) c.loop-turn.found.rest.now c.loop-turn.invariant.0 (sym c.if-not-is_mark_next.ensures), c.loop-turn.invariant.1)

pub parameters::more_parameters-returns-in_err-found-clause-read : goal.parameters::more_parameters-returns-in_err-found-clause-read
parameters::more_parameters-returns-in_err-found-clause-read t c =
    let p = err_from_is_err_and c.from_residual.result c.from_residual.ensures.1 in
    rw (p.1, p.2) (loop_faults _ _ (plain_declarations c.args.first) c.args.tokens.now c.loop-turn._turn (length c.args.tokens.now) (plain_declarations c.loop-turn.found.value) c.loop-turn.found.rest.now c.loop-turn.invariant.0 c.loop-turn-test.true (sym c.if-not-is_mark_next.ensures) _ c.in_err-found.ensures.read)

pub parameters::more_parameters-loop-turn-preserved : goal.parameters::more_parameters-loop-turn-preserved
parameters::more_parameters-loop-turn-preserved t c =
    (loop_goes _ _ (plain_declarations c.args.first) c.args.tokens.now c.loop-turn._turn (length c.args.tokens.now) (plain_declarations c.loop-turn.found.value) c.loop-turn.found.rest.now c.loop-turn.invariant.0 c.loop-turn-test.true (sym c.if-not-is_mark_next.ensures) (plain_declarations c.in_ok-found.found.value) c.in_ok-found.found.rest.now c.in_ok-found.ensures.read.0, c.in_ok-found.ensures.read.1, c.in_ok-found.ensures.depth)

pub parameters::more_parameters-returns-clause-read : goal.parameters::more_parameters-returns-clause-read
parameters::more_parameters-returns-clause-read t c = (loop_over _ _ (plain_declarations c.args.first) c.args.tokens.now c.loop-turn._turn (length c.args.tokens.now) (plain_declarations c.loop-turn.found.value) c.loop-turn.found.rest.now c.loop-turn.invariant.0 c.loop-turn-test.false, c.loop-turn.invariant.1)

pub parameters::inner_parameters-returns-clause-read : goal.parameters::inner_parameters-returns-clause-read
parameters::inner_parameters-returns-clause-read t c =
    rw (inner_at c.args.lexicon.now.names.now.texts c.args.below c.args.count (c.args.below - (c.args.count + 2)) c.args.lexicon.now.types.now c.args.tokens.now refl (omega (arith, c.requires.room))) c.parameters_at.ensures.read

pub parameters::parameter_behind-returns-clause-read : goal.parameters::parameter_behind-returns-clause-read
parameters::parameter_behind-returns-clause-read t c =
    let d = c.in_ok-found.found.value in
    let rest = c.in_ok-found.found.rest.now in
    let notes = plain_notes c.args.notes.list.items in
    let base = plain_type c.args.base.tree.value in
    let before = plain_decls c.args.so_far.list.items in
    let tree = simple_decl notes base (plain_declarator c.args.lexicon.now.types.now d) c.args.place in
    let list : plain_decls c.push.new.self.items ≡ before ++ (tree ∷ []) = ap plain_decls c.in_ok-push.ensures.items ∙ more_decls c.args.so_far.list.items c.in_ok-tree.tree ∙ ap (λ t. before ++ (t ∷ [])) c.in_ok-tree.ensures in
    let types : c.in_ok-types.types ≡ hidden_by d.name c.args.lexicon.now.types.now = c.in_ok-types.ensures in
    let deep = depth_of_simple notes base d.pieces.items d.name (names_inside [] d.inner) c.args.place c.args.notes.depth c.args.base.depth d.depth c.requires.notes c.requires.base c.in_ok-found.ensures.read.1 in
    let all : depth_of_decls (decl_list (plain_decls c.push.new.self.items)) ≡ max (depth_of_decls (decl_list before)) (depth_of_decl tree) = ap (λ l. depth_of_decls (decl_list l)) list ∙ depth_of_more_decls before tree in (
      parameter_behind_at (meant c.args.lexicon.now) c.args.below (c.args.below - c.args.base.depth) notes base c.args.place before c.args.so_far.rest.now (plain_declarator c.args.lexicon.now.types.now d) rest (ap (λ n. c.args.below - n) c.requires.base) c.in_ok-found.ensures.read.0
          ∙ same_declarations _ _ _ _ rest (sym list) (sym types),
      omega (arith, all, deep, c.requires.known, c.max.ensures, c.max-2.ensures, c.max-depth.ensures, c.len-count.ensures),
    )

pub parameters::parameter-returns-clause-read : goal.parameters::parameter-returns-clause-read
parameters::parameter-returns-clause-read t c =
    let texts = c.args.names.now.texts in
    let noted = c.in_ok-notes.ensures.read.0 in
    let said = c.in_ok-found.ensures.read in
    rw (parameter_at texts c.args.below (plain_declarations c.args.so_far) c.args.tokens.now (plain_notes c.in_ok-notes.notes.list.items) c.in_ok-notes.notes.rest.now (plain_specified c.in_ok-found.found.value) (type_in (plain_specified c.in_ok-found.found.value)) c.in_ok-found.found.rest.now noted said, sym c.in_ok-base.ensures.tree, sym c.first_place-place.ensures) c.parameter_behind.ensures.read
