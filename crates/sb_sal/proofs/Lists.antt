-- Lists of annotations and of arguments with one more at the end.
use Rattle.std.proofs.Common.{◌≡◌, List, [], ◌∷◌, ◌++◌, max, refl, ap, ◌∙◌, arith}
use Rattle.sb_tree.specs.declared.syntax.Arg.{Arg}
use Rattle.sb_tree.specs.declared.syntax.Note.{Note}
use Rattle.sb_tree.specs.Plain.{plain_arg, plain_args, plain_note, plain_notes, arg_list, note_list}
use Rattle.sb_tree.specs.Trees.{ArgTree, NoteTree, depth_of_arg, depth_of_args, depth_of_note, depth_of_notes}

pub more_notes : (ns : List Note) (n : Note) → plain_notes (ns ++ (n ∷ [])) ≡ plain_notes ns ++ (plain_note n ∷ [])
more_notes [] n = refl
more_notes (m ∷ ns) n = ap (λ l. plain_note m ∷ l) (more_notes ns n)

pub depth_of_more : (ns : List NoteTree) (n : NoteTree) → depth_of_notes (note_list (ns ++ (n ∷ []))) ≡ max (depth_of_notes (note_list ns)) (depth_of_note n)
depth_of_more [] n = omega arith
depth_of_more (m ∷ ns) n = ap (λ k. max (depth_of_note m) k) (depth_of_more ns n) ∙ (omega arith)

pub more_args : (args : List Arg) (a : Arg) → plain_args (args ++ (a ∷ [])) ≡ plain_args args ++ (plain_arg a ∷ [])
more_args [] a = refl
more_args (b ∷ bs) a = ap (λ l. plain_arg b ∷ l) (more_args bs a)

pub depth_of_more_args : (args : List ArgTree) (a : ArgTree) → depth_of_args (arg_list (args ++ (a ∷ []))) ≡ max (depth_of_args (arg_list args)) (depth_of_arg a)
depth_of_more_args [] a = omega arith
depth_of_more_args (b ∷ bs) a = ap (λ k. max (depth_of_arg b) k) (depth_of_more_args bs a) ∙ (omega arith)
