-- Which lists of tokens are annotations, and the tree of each.
use Rattle.std.specs.Prelude.{◌≡◌, Bool, true, false, List, [], ◌∷◌, ◌++◌, Option, Some, None, if◌then◌else◌}
use Rattle.sb_base.specs.declared.interning.Name.{Name}
use Rattle.sb_base.specs.declared.tokens.Token.{Token}
use Rattle.sb_parse.specs.Parser.{at_next}
use Rattle.sb_tree.specs.declared.operator.UnaryOp.TheVariants as unary
use Rattle.sb_sign.specs.declared.sign.Keyword.TheVariants as keyword
use Rattle.sb_sign.specs.declared.sign.Mark.TheVariants as mark
use Rattle.sb_tree.specs.Plain.{arg_list}
use Rattle.sb_tree.specs.Trees as tree
use Rattle.sb_tree.specs.Trees.{ExprTree, NoteTree, ArgTree, ExprArg, NoteArg}
use Rattle.sb_expr.specs.Expression.{Assignment, IsExpr}
use Rattle.sb_lexicon.specs.Lexicon.{Lexicon, is_mark, is_keyword, name_of}
use Rattle.sb_sign.specs.declared.spelling.Arguments.{Arguments}
use Rattle.sb_sign.specs.declared.spelling.Arguments.TheVariants as arguments
use Rattle.sb_sal.specs.Spellings.{arguments_of, is_listed, is_mem}

-- inside the parentheses of an annotation
abbrev pub inside : Lexicon → Lexicon
inside w = record { texts = w.texts; types = w.types; in_note = true }

-- a name that is no annotation's
abbrev pub place_name : Lexicon → Token → Option Name
place_name w t = if is_listed w t then None else name_of w t

-- what an annotation can be moved to: a parameter, what it points to, a member of that, or the result
pub data IsLocation (w : Lexicon) : List Token → ExprTree → Type 0 where
  -- `_At_(return, ..)`
  is_result : (t : Token) → is_keyword w keyword.Return t ≡ true → IsLocation w (t ∷ []) (tree.Identifier t.text t.place)
  -- `_At_(p, ..)`
  is_parameter : (t : Token) (n : Name) → place_name w t ≡ Some n → IsLocation w (t ∷ []) (tree.Identifier n t.place)
  -- `_At_(*p, ..)`
  is_target : (s t : Token) (n : Name) → is_mark w mark.Star s ≡ true → place_name w t ≡ Some n → IsLocation w (s ∷ (t ∷ [])) (tree.Unary unary.Deref (tree.Identifier n t.place) s.place)
  -- `_At_(p->f, ..)`
  is_field : (t a f : Token) (n m : Name) → place_name w t ≡ Some n → is_mark w mark.Arrow a ≡ true → name_of w f ≡ Some m
      → IsLocation w (t ∷ (a ∷ (f ∷ []))) (tree.Member (tree.Identifier n t.place) true m f.place a.place)

-- a size or a condition: an expression that does not begin with the name of an annotation
pub data IsValue (w : Lexicon) : List Token → ArgTree → Type 0 where
  -- the argument of `_In_reads_` or `_When_`
  is_value : (ts : List Token) (e : ExprTree) → at_next (is_listed w) ts ≡ false → IsExpr (inside w) Assignment ts e → IsValue w ts (ExprArg e)

-- any annotation may stand there
abbrev pub anywhere : Token → Bool
anywhere t = true

-- `may`: the annotations that may stand there; one that is moved to a location stands on that and not there
mutual
  pub data IsNote (w : Lexicon) : (Token → Bool) → List Token → NoteTree → Type 0 where
    -- as `_In_`
    is_bare : (may : Token → Bool) (t : Token) → may t ≡ true → arguments_of w t ≡ Some arguments.Nothing → IsNote w may (t ∷ []) (tree.Note t.text tree.NoArgs t.place)
    -- as `_In_reads_(n)`
    has_arguments : (may : Token → Bool) (t o c : Token) (a : Arguments) (ts : List Token) (args : List ArgTree) → may t ≡ true → arguments_of w t ≡ Some a
        → is_mark w mark.OpenParenthesis o ≡ true → is_mark w mark.CloseParenthesis c ≡ true → AreArguments w may a ts args → IsNote w may (t ∷ (o ∷ (ts ++ (c ∷ [])))) (tree.Note t.text (arg_list args) t.place)

  -- what stands in the parentheses
  pub data AreArguments (w : Lexicon) : (Token → Bool) → Arguments → List Token → List ArgTree → Type 0 where
    -- as `_Out_writes_(n)`
    one_size : (may : Token → Bool) (ts : List Token) (a : ArgTree) → IsValue w ts a → AreArguments w may arguments.Size ts (a ∷ [])
    -- as `_Out_writes_to_(n, m)`
    two_sizes : (may : Token → Bool) (xs ys : List Token) (c : Token) (a b : ArgTree) → is_mark w mark.Comma c ≡ true → IsValue w xs a → IsValue w ys b
        → AreArguments w may arguments.Sizes (xs ++ (c ∷ ys)) (a ∷ (b ∷ []))
    -- as `_Pre_satisfies_(c)`
    a_condition : (may : Token → Bool) (ts : List Token) (a : ArgTree) → IsValue w ts a → AreArguments w may arguments.Condition ts (a ∷ [])
    -- `__drv_allocatesMem(Mem)`
    memory : (may : Token → Bool) (t : Token) → is_mem w t ≡ true → AreArguments w may arguments.Memory (t ∷ []) (ExprArg (tree.Identifier t.text t.place) ∷ [])
    -- as `_Success_` and `_Always_` have one inside
    a_note : (may : Token → Bool) (ts : List Token) (n : NoteTree) → IsNote w may ts n → AreArguments w may arguments.Note ts (NoteArg n ∷ [])
    -- `_When_(c, ..)`
    guarded : (may : Token → Bool) (xs ys : List Token) (c : Token) (a : ArgTree) (n : NoteTree) → is_mark w mark.Comma c ≡ true → IsValue w xs a → IsNote w may ys n
        → AreArguments w may arguments.GuardedNote (xs ++ (c ∷ ys)) (a ∷ (NoteArg n ∷ []))
    -- `_At_(p, ..)`
    located : (may : Token → Bool) (xs ys : List Token) (c : Token) (e : ExprTree) (n : NoteTree) → is_mark w mark.Comma c ≡ true → IsLocation w xs e → IsNote w anywhere ys n
        → AreArguments w may arguments.LocatedNote (xs ++ (c ∷ ys)) (ExprArg e ∷ (NoteArg n ∷ []))

-- annotations one after the other
pub data AreNotes (w : Lexicon) (may : Token → Bool) : List Token → List NoteTree → Type 0 where
  no_notes : AreNotes w may [] []
  more_notes : (xs ys : List Token) (ns : List NoteTree) (n : NoteTree) → AreNotes w may xs ns → IsNote w may ys n → AreNotes w may (xs ++ ys) (ns ++ (n ∷ []))
