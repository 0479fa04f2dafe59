-- The arguments of a call of a function-like macro (C99 6.10.3 paragraphs 4, 10 and 11).
use Rattle.std.specs.Prelude.{ℕ, ◌+◌, ◌-◌, Bool, true, false, List, [], ◌∷◌, Option, Some, None, if◌then◌else◌, nat_eq}
use Rattle.std.specs.List.{list_any}
use Rattle.std.specs.Option.{option_map}
use Rattle.sb_base.specs.declared.interning.Name.{Name}
use Rattle.sb_macro.specs.declared.marks.Mark.{Mark}
use Rattle.sb_macro.specs.declared.marks.Mark.TheVariants.{Open, Close, Comma}
use Rattle.sb_macro.specs.declared.stored.Part.{Part}
use Rattle.sb_macro.specs.declared.arguments.Turn.{Turn}
use Rattle.sb_macro.specs.declared.arguments.Turn.TheVariants.{Ends, Parts, Goes}
use Rattle.sb_macro.specs.Marks.{mark_of}
use Rattle.sb_macro.specs.Macros.{same_name}
use Rattle.sb_macro.specs.Tokens.{Tok}

-- what a token does to the arguments, where so many parentheses are open: a comma outside of parentheses parts them
abbrev pub turn_of : Mark → ℕ → Turn
turn_of Open depth = Goes (depth + 1)
turn_of Close depth = if nat_eq depth 0 then Ends else Goes (depth - 1)
turn_of Comma depth = if nat_eq depth 0 then Parts else Goes depth
turn_of _ depth = Goes depth

-- the arguments, and what follows the `)` that closes them
abbrev pub Split : Type 0
Split = List (List Tok) × List Tok

abbrev pub onto_first : Tok → List (List Tok) → List (List Tok)
onto_first t [] = []
onto_first t (arg ∷ args) = (t ∷ arg) ∷ args

abbrev pub split_at : Turn → Tok → List Tok → (ℕ → Option Split) → Option Split
split_at Ends t rest more = Some ([] ∷ [], rest)
split_at Parts t rest more = option_map (λ split. ([] ∷ split.0, split.1)) (more 0)
split_at (Goes depth) t rest more = option_map (λ split. (onto_first t split.0, split.1)) (more depth)

-- the arguments at the front of the list, where so many parentheses are open in the first of them; nothing if the list
-- ends before they are closed
abbrev pub arguments : List (List ℕ) → ℕ → List Tok → Option Split
arguments texts depth [] = None
arguments texts depth (t ∷ rest) = split_at (turn_of (mark_of texts t.piece.text) depth) t rest (λ deeper. arguments texts deeper rest)

-- where a macro has no parameters, one empty argument is none
abbrev pub arguments_for : List Name → List (List Tok) → List (List Tok)
arguments_for [] ([] ∷ []) = []
arguments_for params args = args

-- whether the replacement list has the parameter
abbrev pub occurs : List Part → Name → Bool
occurs body param = list_any (λ part. same_name part.text param) body

-- the arguments that are to be expanded: those whose parameters the replacement list lacks count as empty
abbrev pub needed_arguments : List Part → List Name → List (List Tok) → List (List Tok)
needed_arguments body [] args = []
needed_arguments body (param ∷ params) [] = []
needed_arguments body (param ∷ params) (arg ∷ args) = (if occurs body param then arg else []) ∷ needed_arguments body params args

-- whether there is one argument, and it is empty
abbrev pub is_one_empty : List (List Tok) → Bool
is_one_empty ([] ∷ []) = true
is_one_empty _ = false
