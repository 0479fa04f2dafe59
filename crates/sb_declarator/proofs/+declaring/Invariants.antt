use Rattle.std.proofs.Common.{◌≡◌, ◌≤◌, ◌+◌, ◌*◌, ◌-◌, Bool, [], length, not}
use Rattle.sb_base.specs.declared.tokens.Token.{Token}
use Rattle.sb_parse.specs.Parser.{loop}
use Rattle.sb_tree.specs.Plain.{plain_decls}
use Rattle.sb_sign.specs.declared.sign.Mark.TheVariants as mark
use Rattle.sb_lexicon.specs.Lexicon.{is_mark, is_mark as marked}
use Rattle.sb_lexicon.specs.Meaning.{meant}
use Rattle.sb_derivation.specs.Meaning.{plain_declarations, AreKnown, IsListKnown}
use Rattle.sb_declarator.specs.Meaning.{nested, inside, heading_members}
use Rattle.sb_specifier.specs.Meaning.{plain_specified, IsKnown, IsRoomy}
use Rattle.sb_declarator.specs.Parts.{next_member}
use Rattle.sb_specifier.specs.Specified.{reading}
use Rattle.sb_derivation.specs.Declarators.{plain_declarator, IsDeep, IsSized, is_suffix}
use Rattle.sb_declarator.specs.Declarators.{roomy}
use Rattle.sb_specifier.specs.Readers as specifier
use Rattle.sb_declarator.specs.Readers as spec
use Rattle.sb_declarator.proofs.+declaring.Given as goal

abbrev pub decreases-members::members : goal.decreases-members::members
decreases-members::members l = 20000 * l.left

abbrev pub decreases-members::some_members : goal.decreases-members::some_members
decreases-members::some_members l = 20000 * l.below + 10900

abbrev pub decreases-members::more_members : goal.decreases-members::more_members
decreases-members::more_members l = 20000 * l.below + 10800

abbrev pub decreases-members::member : goal.decreases-members::member
decreases-members::member l = 20000 * l.below + 10700

abbrev pub decreases-members::declared_members : goal.decreases-members::declared_members
decreases-members::declared_members l = 20000 * l.below + 10600

abbrev pub decreases-members::next_members : goal.decreases-members::next_members
decreases-members::next_members l = 20000 * l.below + 10500

abbrev pub decreases-members::next_member : goal.decreases-members::next_member
decreases-members::next_member l = 20000 * l.below + 10400

abbrev pub decreases-members::member_declarator : goal.decreases-members::member_declarator
decreases-members::member_declarator l = 20000 * l.below + 10300

abbrev pub decreases-specifier_list::specifiers : goal.decreases-specifier_list::specifiers
decreases-specifier_list::specifiers l = 20000 * l.below + 190

abbrev pub decreases-specifier_list::defined : goal.decreases-specifier_list::defined
decreases-specifier_list::defined l = 20000 * l.below + 180

abbrev pub decreases-specifier_list::keyword_specifiers : goal.decreases-specifier_list::keyword_specifiers
decreases-specifier_list::keyword_specifiers l = 20000 * l.below + 170

abbrev pub decreases-specifier_list::specified : goal.decreases-specifier_list::specified
decreases-specifier_list::specified l = 20000 * l.below + 160

abbrev pub decreases-specifier_list::tagged_structure : goal.decreases-specifier_list::tagged_structure
decreases-specifier_list::tagged_structure l = 20000 * l.below + 150

abbrev pub decreases-specifier_list::structure : goal.decreases-specifier_list::structure
decreases-specifier_list::structure l = 20000 * l.below + 140

abbrev pub invariant-specifier_list::keyword_specifiers-loop-turn : goal.invariant-specifier_list::keyword_specifiers-loop-turn
invariant-specifier_list::keyword_specifiers-loop-turn l =
    let goes = specifier.is_specifier_word (reading l.fn.names.texts []) in
    let turn = nested specifier.specified l.fn.names.texts l.fn.seat l.fn.below in
    (loop goes turn (length l.fn.tokens) (plain_specified l.fn.first) l.fn.tokens
    ≡ loop goes turn (length l.fn.tokens - l._turn) (plain_specified l.found.value) l.found.rest.now)
    × IsKnown l.found.value
    × IsRoomy l.fn.below l.found.value

abbrev pub invariant-members::next_members-loop-turn : goal.invariant-members::next_members-loop-turn
invariant-members::next_members-loop-turn l =
    let goes = is_mark (reading l.fn.names.texts []) mark.Comma in
    let turn = heading_members next_member l.fn.names.texts l.fn.below l.fn.heading in
    (loop goes turn (length l.fn.first.rest.now) (plain_decls l.fn.first.list.items) l.fn.first.rest.now
    ≡ loop goes turn (l.most - l._turn) (plain_decls l.found.list.items) l.found.rest.now)
    × IsListKnown l.found
    × (l.found.depth ≤ l.fn.below + 1)

abbrev pub invariant-members::more_members-loop-turn : goal.invariant-members::more_members-loop-turn
invariant-members::more_members-loop-turn l =
    let goes : Token → Bool = λ t. not (is_mark (reading l.fn.names.texts []) mark.CloseBrace t) in
    let turn = inside spec.member l.fn.names.texts l.fn.below in
    (loop goes turn (length l.fn.tokens) (plain_declarations l.fn.first) l.fn.tokens
    ≡ loop goes turn (length l.fn.tokens - l._turn) (plain_declarations l.found.value) l.found.rest.now)
    × AreKnown l.found.value
    × (l.found.value.depth ≤ l.fn.below + 1)

abbrev pub decreases-declarators::declarator_within : goal.decreases-declarators::declarator_within
decreases-declarators::declarator_within l = 20000 * l.below + 20 * l.room + 215

abbrev pub decreases-declarators::declarator_at : goal.decreases-declarators::declarator_at
decreases-declarators::declarator_at l = 20000 * l.below + 20 * l.room + 214

abbrev pub decreases-declarators::pointed : goal.decreases-declarators::pointed
decreases-declarators::pointed l = 20000 * l.below + 20 * l.room + 213

abbrev pub decreases-declarators::direct : goal.decreases-declarators::direct
decreases-declarators::direct l = 20000 * l.below + 20 * l.room + 213

abbrev pub decreases-declarators::suffixes : goal.decreases-declarators::suffixes
decreases-declarators::suffixes l = 20000 * l.below + 20 * l.room + 212

abbrev pub decreases-declarators::suffixed : goal.decreases-declarators::suffixed
decreases-declarators::suffixed l = 20000 * l.below + 20 * l.room + 211

abbrev pub decreases-declarators::called : goal.decreases-declarators::called
decreases-declarators::called l = 20000 * l.below + 20 * l.room + 210

abbrev pub decreases-declarators::first : goal.decreases-declarators::first
decreases-declarators::first l = 20000 * l.below + 20 * l.room + 212

abbrev pub decreases-declarators::in_parentheses : goal.decreases-declarators::in_parentheses
decreases-declarators::in_parentheses l = 20000 * l.below + 20 * l.room + 211

abbrev pub decreases-declarators::inside : goal.decreases-declarators::inside
decreases-declarators::inside l = 20000 * l.below + 20 * l.room + 210

abbrev pub decreases-parameters::parameters : goal.decreases-parameters::parameters
decreases-parameters::parameters l = 20000 * l.below + 199

abbrev pub invariant-declarators::suffixes-loop-turn : goal.invariant-declarators::suffixes-loop-turn
invariant-declarators::suffixes-loop-turn l =
    let w = meant l.fn.lexicon in
    let turn = roomy spec.suffixed w l.fn.functions l.fn.may_lack l.fn.below l.fn.room in
    (loop (is_suffix w) turn (length l.fn.first.rest.now) (plain_declarator l.fn.lexicon.types.now l.fn.first.value) l.fn.first.rest.now
    ≡ loop (is_suffix w) turn (l.most - l._turn) (plain_declarator l.fn.lexicon.types.now l.found.value) l.found.rest.now)
    × IsDeep l.found.value
    × IsSized l.fn.below l.fn.room l.found.value

abbrev pub decreases-parameters::some_parameters : goal.decreases-parameters::some_parameters
decreases-parameters::some_parameters l = 20000 * l.below + 198

abbrev pub decreases-parameters::inner_parameters : goal.decreases-parameters::inner_parameters
decreases-parameters::inner_parameters l = 20000 * l.below + 197

abbrev pub decreases-parameters::parameters_at : goal.decreases-parameters::parameters_at
decreases-parameters::parameters_at l = 20000 * l.below + 9500

abbrev pub decreases-parameters::more_parameters : goal.decreases-parameters::more_parameters
decreases-parameters::more_parameters l = 20000 * l.below + 9400

abbrev pub decreases-parameters::next_parameter : goal.decreases-parameters::next_parameter
decreases-parameters::next_parameter l = 20000 * l.below + 9300

abbrev pub decreases-parameters::another_parameter : goal.decreases-parameters::another_parameter
decreases-parameters::another_parameter l = 20000 * l.below + 9250

abbrev pub decreases-parameters::parameter : goal.decreases-parameters::parameter
decreases-parameters::parameter l = 20000 * l.below + 9200

abbrev pub decreases-parameters::parameter_behind : goal.decreases-parameters::parameter_behind
decreases-parameters::parameter_behind l = 20000 * l.below + 9100

abbrev pub invariant-parameters::more_parameters-loop-turn : goal.invariant-parameters::more_parameters-loop-turn
invariant-parameters::more_parameters-loop-turn l =
    let goes = marked (reading l.fn.names.texts []) mark.Comma in
    let turn = inside spec.next_parameter l.fn.names.texts l.fn.below in
    (loop goes turn (length l.fn.tokens) (plain_declarations l.fn.first) l.fn.tokens
    ≡ loop goes turn (l._turn-end - l._turn) (plain_declarations l.found.value) l.found.rest.now)
    × AreKnown l.found.value
    × (l.found.value.depth ≤ l.fn.below + 1)
