-- What the reader of a whole text says in the subject's words.
use Rattle.std.proofs.Common.{◌≡◌, ◌<◌, ◌≤◌, ℕ, List, [], ◌∷◌, length, Result, Ok, Err, Vec, Global, IfOk, refl, sym, ap, ◌∙◌, subst, arith}
use Rattle.sb_parse.specs.Parser.{done, stop, ended}
use Rattle.sb_parse.specs.Read.{IsRefused}
use Rattle.sb_function.specs.declared.lexeme.Piece.{Piece}
use Rattle.sb_function.specs.declared.reading.ReadFault.{ReadFault}
use Rattle.sb_function.specs.declared.reading.ReadFault.TheVariants.{Refused, Memory}
use Rattle.sb_function.specs.declared.syntax.Function.{Function}
use Rattle.sb_function.specs.Syntax.{FunctionTree}
use Rattle.sb_function.specs.Grammar.{IsFile}
use Rattle.sb_function.specs.Marks.{misplaced}
use Rattle.sb_function.specs.Reads.{IsFault}
use Rattle.sb_function.specs.Files.{functions, file}
use Rattle.sb_function.specs.Trees.{trees, ReadsWhole, IsReadAs}
use Rattle.sb_function.proofs.Laws.Files.{is_read, reads, is_refused}

ended_now : (fs : List FunctionTree) (rest : List Piece) → length rest ≤ 0 → ended misplaced (done fs rest) ≡ done fs []
ended_now fs [] h = refl
ended_now fs (t ∷ rest) h = absurd (omega arith)

goes_on : (fs : List FunctionTree) (rest : List Piece) → 0 < length rest → ended misplaced (done fs rest) ≡ stop misplaced (length rest)
goes_on fs [] h = absurd (omega arith)
goes_on fs (t ∷ rest) h = refl

pub whole_ends : (ts : List Piece) (fs : List FunctionTree) (rest : List Piece) → functions ts ≡ done fs rest → length rest ≤ 0 → file ts ≡ done fs []
unfolding file
whole_ends ts fs rest e h = ap (ended misplaced) e ∙ ended_now fs rest h

pub whole_stops : (ts : List Piece) (fs : List FunctionTree) (rest : List Piece) → functions ts ≡ done fs rest → 0 < length rest → file ts ≡ stop misplaced (length rest)
unfolding file
whole_stops ts fs rest e h = ap (ended misplaced) e ∙ goes_on fs rest h

pub whole_fault : (ts : List Piece) (e : ReadFault) → IsFault (functions ts) e → IsFault (file ts) e
unfolding file
whole_fault ts (Refused left) h = ap (ended misplaced) h
whole_fault ts Memory h = tt

pub tree_read : (ts : List Piece) (r : Result (Vec Function Global) ReadFault) → ReadsWhole (file ts) r → IfOk r (λ v. IsFile ts (trees v.items))
tree_read ts (Ok v) h = is_read ts (trees v.items) [] h
tree_read ts (Err e) h = tt

pub all_read : (ts : List Piece) (r : Result (Vec Function Global) ReadFault) → ReadsWhole (file ts) r → (fs : List FunctionTree) → IsFile ts fs → IsReadAs fs r
all_read ts (Ok v) h fs is = let both : done (trees v.items) [] ≡ done fs [] = sym h ∙ reads ts fs is in cc both
all_read ts (Err (Refused left)) h fs is = let both : done fs [] ≡ stop misplaced left = sym (reads ts fs is) ∙ h in cc both
all_read ts (Err Memory) h fs is = tt

pub refused_there : (ts : List Piece) (r : Result (Vec Function Global) ReadFault) → ReadsWhole (file ts) r → (left : ℕ) → r ≡ Err (Refused left) → IsRefused IsFile ts left
refused_there ts r h left e = is_refused ts misplaced left (subst (ReadsWhole (file ts)) e h)
