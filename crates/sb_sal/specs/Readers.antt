-- The readers of annotations, as functions on the tokens that are left. Beside the numbers of readers of expressions a stop has 35 where a token shows another number or kind of arguments,
-- 36 for a word that is no annotation, 37 for an annotation that may not stand there, and 1000 and a count where the tokens show an argument of another kind that began so many tokens before.
use Rattle.std.specs.Prelude.{ℕ, zero, suc, Bool, true, false, ◌&&◌, ◌||◌, not, List, [], ◌∷◌, ◌++◌, nat_lt, Option, Some, None, is_some}
use Rattle.std.specs.Option.{option_map_or}
use Rattle.sb_base.specs.declared.interning.Name.{Name}
use Rattle.sb_base.specs.declared.refusals.Place.{Place}
use Rattle.sb_base.specs.declared.tokens.Token.{Token}
use Rattle.sb_parse.specs.Parser.{Parser, ◌>>=◌, pure, refuse, token, taken, choose, guard, looped}
use Rattle.sb_tree.specs.declared.operator.UnaryOp.TheVariants as unary
use Rattle.sb_sign.specs.declared.sign.Keyword.TheVariants as keyword
use Rattle.sb_sign.specs.declared.sign.Mark.TheVariants as mark
use Rattle.sb_tree.specs.Plain.{arg_list}
use Rattle.sb_sign.specs.Signs as sign
use Rattle.sb_tree.specs.Trees as tree
use Rattle.sb_tree.specs.Trees.{ExprTree, NoteTree, ArgTree, ExprArg, NoteArg}
use Rattle.sb_expr.specs.Expression.{Assignment}
use Rattle.sb_lexicon.specs.Lexicon.{Lexicon, is_mark, is_keyword, name_of, binary_at, assignment_of}
use Rattle.sb_expr.specs.Readers.{expr_reader}
use Rattle.sb_lexicon.specs.Tokens.{unexpected, too_deep, bad_arguments, bad_kind, unknown, misplaced, is_zero, is_open, is_close, is_comma, is_star, is_question, is_suffix, begins_expr}
use Rattle.sb_sign.specs.declared.spelling.Arguments.{Arguments}
use Rattle.sb_sign.specs.declared.spelling.Arguments.TheVariants as arguments
use Rattle.sb_sal.specs.Notes.{inside, place_name, anywhere}
use Rattle.sb_sal.specs.Spellings.{begins_note, arguments_of, is_listed, is_unlisted, is_mem}

-- ---- tests of one token

abbrev pub is_arrow : Lexicon → Token → Bool
is_arrow w = is_mark w mark.Arrow

abbrev pub is_return : Lexicon → Token → Bool
is_return w = is_keyword w keyword.Return

abbrev pub is_infix : Lexicon → Token → Bool
is_infix w t = option_map_or (λ m. is_some (binary_at m)) (sign.mark_of w.texts t) false && not (is_comma w t)

-- an expression that is a location goes on with this token
abbrev pub continues : Lexicon → Token → Bool
continues w t = is_suffix w t || (is_infix w t || (is_question w t || is_some (assignment_of w t)))

abbrev pub is_nothing : Arguments → Bool
is_nothing arguments.Nothing = true
is_nothing _ = false

abbrev pub is_bare : Lexicon → Token → Bool
is_bare w t = option_map_or is_nothing (arguments_of w t) false

pub record Head : Type 0 where
  pub name : Name
  pub place : Place
  pub arguments : Arguments

abbrev pub head_of : Lexicon → Token → Option Head
head_of w t = option_map_or (λ a. Some (record { name = t.text; place = t.place; arguments = a })) (arguments_of w t) None

abbrev pub named : Lexicon → Token → Option ExprTree
named w t = option_map_or (λ n. Some (tree.Identifier n t.place)) (place_name w t) None

abbrev pub is_place_name : Lexicon → Token → Bool
is_place_name w t = is_some (place_name w t)

abbrev pub member_of : Lexicon → Token → Option (Name × Place)
member_of w t = option_map_or (λ n. Some (n, t.place)) (name_of w t) None

-- ---- arguments

-- a token that begins an argument of another kind, or none
abbrev pub wrong : {A : Type 0} → Lexicon → Parser Token A
wrong w = choose (λ t. is_close w t || begins_expr (inside w) t) (refuse bad_arguments) (refuse unexpected)

-- a location ends there, unless the expression goes on; `count`: its tokens
abbrev pub ending : Lexicon → ℕ → ExprTree → Parser Token ExprTree
ending w count e = choose (continues w) (refuse (bad_kind count)) (pure e)

module _ (w : Lexicon) (below : ℕ) where
  unfoldable pub result : Parser Token ExprTree
  result = token unexpected (is_return w) >>= (λ t. ending w 1 (tree.Identifier t.text t.place))

  unfoldable pub field : ExprTree → Parser Token ExprTree
  field e = token unexpected (is_arrow w) >>= (λ a. taken unexpected (member_of w) >>= (λ m. ending w 3 (tree.Member e true m.0 m.1 a.place)))

  unfoldable pub parameter : Parser Token ExprTree
  parameter = taken unexpected (named w) >>= (λ e. choose (is_arrow w) (guard (nat_lt below 2) too_deep (field e)) (ending w 1 e))

  -- behind `*`
  unfoldable pub target : Parser Token ExprTree
  target = token unexpected (is_star w) >>= (λ s.
      choose (is_place_name w) (taken unexpected (named w) >>= (λ e. ending w 2 (tree.Unary unary.Deref e s.place)))
      (choose (begins_expr (inside w)) (refuse (bad_kind 1)) (refuse unexpected)))

  unfoldable pub location : Parser Token ExprTree
  location =
      choose (is_return w) result
      (choose (is_place_name w) parameter
      (choose (is_star w) (guard (nat_lt below 2) too_deep target)
      (wrong w)))

  -- a size or a condition
  unfoldable pub value : Parser Token ArgTree
  value = choose (λ t. is_close w t || is_listed w t) (refuse bad_arguments) (expr_reader (inside w) below Assignment >>= (λ e. pure (ExprArg e)))

  unfoldable pub memory : Parser Token ArgTree
  memory = choose (is_mem w) (token unexpected (is_mem w) >>= (λ t. ending w 1 (tree.Identifier t.text t.place) >>= (λ e. pure (ExprArg e)))) (wrong w)

  -- the comma between two arguments
  unfoldable pub separator : Parser Token Token
  separator = choose (is_close w) (refuse bad_arguments) (token unexpected (is_comma w))

  -- the parenthesis behind the last argument
  unfoldable pub closing : Parser Token Token
  closing = choose (is_comma w) (refuse bad_arguments) (token unexpected (is_close w))

  -- `part may`: the reader of an annotation inside this one; `may`: the annotations that may stand there
  module _ (part : (Token → Bool) → Parser Token NoteTree) (may : Token → Bool) where
    unfoldable pub inner : (Token → Bool) → Parser Token ArgTree
    inner may = choose (begins_note w) (part may >>= (λ n. pure (NoteArg n))) (wrong w)

    unfoldable pub one : Parser Token ArgTree → Parser Token (List ArgTree)
    one p = p >>= (λ a. pure (a ∷ []))

    unfoldable pub two : Parser Token ArgTree → Parser Token ArgTree → Parser Token (List ArgTree)
    two p q = p >>= (λ a. separator >>= (λ c. q >>= (λ b. pure (a ∷ (b ∷ [])))))

    abbrev pub arguments_by : Arguments → Parser Token (List ArgTree)
    arguments_by arguments.Nothing = pure []
    arguments_by arguments.Size = one value
    arguments_by arguments.Sizes = two value value
    arguments_by arguments.Condition = one value
    arguments_by arguments.Memory = one memory
    arguments_by arguments.Note = one (inner may)
    arguments_by arguments.GuardedNote = two value (inner may)
    arguments_by arguments.LocatedNote = two (location >>= (λ e. pure (ExprArg e))) (inner anywhere)

    unfoldable pub in_parentheses : Head → Parser Token NoteTree
    in_parentheses h = token unexpected (is_open w) >>= (λ o. arguments_by h.arguments >>= (λ args. closing >>= (λ c. pure (tree.Note h.name (arg_list args) h.place))))

    -- another token than `(` shows that the arguments are missing; at the end they could still follow
    abbrev pub lacking : Parser Token NoteTree
    lacking = choose (λ t. true) (refuse bad_arguments) (refuse unexpected)

    -- an annotation with arguments
    unfoldable pub applied : Parser Token NoteTree
    applied = taken unexpected (head_of w) >>= (λ h. choose (is_open w) (in_parentheses h) lacking)

    unfoldable pub bare : Parser Token NoteTree
    bare = token unexpected (is_bare w) >>= (λ t. choose (is_open w) (refuse bad_arguments) (pure (tree.Note t.text tree.NoArgs t.place)))

    unfoldable pub note : Parser Token NoteTree
    note =
        choose (is_unlisted w) (refuse unknown)
        (choose (λ t. is_listed w t && not (may t)) (refuse misplaced)
        (choose (λ t. is_zero below && (is_listed w t && not (is_bare w t))) (refuse too_deep)
        (choose (is_bare w) bare
        (choose (is_listed w) applied
        (refuse unexpected)))))

-- the reader of annotations of this depth
unfoldable pub note_reader : Lexicon → ℕ → (Token → Bool) → Parser Token NoteTree
note_reader w zero may =
    choose (is_unlisted w) (refuse unknown)
    (choose (λ t. is_listed w t && not (may t)) (refuse misplaced)
    (choose (begins_note w) (refuse too_deep)
    (refuse unexpected)))
note_reader w (suc below) may = note w below (note_reader w below) may

unfoldable pub next_note : Lexicon → ℕ → (Token → Bool) → List NoteTree → Parser Token (List NoteTree)
next_note w left may ns = note_reader w left may >>= (λ n. pure (ns ++ (n ∷ [])))

abbrev pub notes_reader : Lexicon → ℕ → (Token → Bool) → Parser Token (List NoteTree)
notes_reader w left may = looped (begins_note w) (next_note w left may) []
