-- The parts of the longer readers that are functions of their own in code.
use Rattle.std.specs.Prelude.{Bool, true, ◌&&◌, not}
use Rattle.sb_base.specs.declared.tokens.Token.{Token}
use Rattle.sb_parse.specs.Parser.{Parser, ◌>>=◌, pure, refuse, token, taken, choose}
use Rattle.sb_tree.specs.declared.operator.UnaryOp.TheVariants as unary
use Rattle.sb_tree.specs.Trees as tree
use Rattle.sb_tree.specs.Trees.{ExprTree, NoteTree, ArgTree, ExprArg, NoteArg}
use Rattle.sb_lexicon.specs.Lexicon.{Lexicon}
use Rattle.sb_lexicon.specs.Tokens.{unexpected, too_deep, bad_arguments, bad_kind, unknown, misplaced, is_open, is_close, is_comma, is_star, begins_expr}
use Rattle.sb_sal.specs.Notes.{inside}
use Rattle.sb_sal.specs.Readers.{is_arrow, is_return, is_bare, is_place_name, named, member_of, ending, wrong}
use Rattle.sb_sal.specs.Spellings.{begins_note, is_listed, is_unlisted, is_mem}

-- ---- locations

abbrev pub result : Lexicon → Parser Token ExprTree
result w = token unexpected (is_return w) >>= (λ t. ending w 1 (tree.Identifier t.text t.place))

abbrev pub field : Lexicon → ExprTree → Parser Token ExprTree
field w e = token unexpected (is_arrow w) >>= (λ a. taken unexpected (member_of w) >>= (λ m. ending w 3 (tree.Member e true m.0 m.1 a.place)))

abbrev pub target : Lexicon → Parser Token ExprTree
target w = token unexpected (is_star w) >>= (λ s.
    choose (is_place_name w) (taken unexpected (named w) >>= (λ e. ending w 2 (tree.Unary unary.Deref e s.place)))
    (choose (begins_expr (inside w)) (refuse (bad_kind 1)) (refuse unexpected)))

-- ---- arguments

abbrev pub memory : Lexicon → Parser Token ArgTree
memory w = choose (is_mem w) (token unexpected (is_mem w) >>= (λ t. ending w 1 (tree.Identifier t.text t.place) >>= (λ e. pure (ExprArg e)))) (wrong w)

abbrev pub separator : Lexicon → Parser Token Token
separator w = choose (is_close w) (refuse bad_arguments) (token unexpected (is_comma w))

abbrev pub closing : Lexicon → Parser Token Token
closing w = choose (is_comma w) (refuse bad_arguments) (token unexpected (is_close w))

abbrev pub inner : Lexicon → ((Token → Bool) → Parser Token NoteTree) → (Token → Bool) → Parser Token ArgTree
inner w part may = choose (begins_note w) (part may >>= (λ n. pure (NoteArg n))) (wrong w)

-- ---- annotations

abbrev pub bare : Lexicon → Parser Token NoteTree
bare w = token unexpected (is_bare w) >>= (λ t. choose (is_open w) (refuse bad_arguments) (pure (tree.Note t.text tree.NoArgs t.place)))

abbrev pub lacking : Parser Token NoteTree
lacking = choose (λ t. true) (refuse bad_arguments) (refuse unexpected)

-- without room for an annotation
abbrev pub no_note : Lexicon → (Token → Bool) → Parser Token NoteTree
no_note w may =
    choose (is_unlisted w) (refuse unknown)
    (choose (λ t. is_listed w t && not (may t)) (refuse misplaced)
    (choose (begins_note w) (refuse too_deep)
    (refuse unexpected)))
