-- What is said of the readers of statements: which texts fit, and which tokens go on from a statement.
use Rattle.std.proofs.Common.{refl}
use Rattle.std.specs.Prelude.{◌≡◌, ◌⊎◌, ℕ, ◌≤◌, Bool, false, ◌&&◌, List, [], ◌∷◌, ◌++◌}
use Rattle.sb_base.specs.declared.interning.Name.{Name}
use Rattle.sb_base.specs.declared.tokens.Token.{Token}
use Rattle.sb_parse.specs.Parser.{never}
use Rattle.sb_parse.specs.Lawful.{Lawful}
use Rattle.sb_sign.specs.declared.sign.Keyword.TheVariants as keyword
use Rattle.sb_tree.specs.Trees.{StmtTree, depth_of_stmt, depth_of_optional_stmt}
use Rattle.sb_lexicon.specs.Lexicon.{Lexicon, is_keyword}
use Rattle.sb_specifier.specs.Specified.{reading}
use Rattle.sb_statement.specs.Readers.{Body, First, Parts}
use Rattle.sb_statement.specs.Statement.{takes_else, IsDeclared, IsFirst, IsStatement, IsBlock}

-- keywords and punctuators are the same whatever names are types
abbrev pub plain : List (List ℕ) → Lexicon
plain texts = reading texts []

abbrev pub is_else : List (List ℕ) → Token → Bool
is_else texts = is_keyword (plain texts) keyword.Else

abbrev pub more_statement : List (List ℕ) → StmtTree → Token → Bool
more_statement texts s t = takes_else s && is_else texts t

-- ---- statements

abbrev pub FitsStatement : List (List ℕ) → ℕ → Bool → List Name → List Token → StmtTree → Type 0
FitsStatement texts left cases types ts s = IsStatement texts cases types ts s × (depth_of_stmt s ≤ left)

abbrev pub FitsBlock : List (List ℕ) → ℕ → Bool → List Name → List Token → StmtTree → Type 0
FitsBlock texts left cases types ts s = IsBlock texts cases types ts s × (depth_of_stmt s ≤ left)

abbrev pub FitsFirst : List (List ℕ) → ℕ → List Name → List Token → First → Type 0
FitsFirst texts left types ts f = IsFirst texts types ts f × (depth_of_optional_stmt f.first ≤ left)

-- one statement or declaration behind others in a block
pub record OneItem (texts : List (List ℕ)) (left : ℕ) (cases : Bool) (b : Body) (ts : List Token) (c : Body) : Type 0 where
  pub statement : StmtTree
  pub types : List Name
  pub is : (IsStatement texts cases b.types ts statement × (types ≡ b.types)) ⊎ IsDeclared texts b.types ts statement types
  pub fits : depth_of_stmt statement ≤ left
  pub same : c ≡ record { list = b.list ++ (statement ∷ []); types = types }

abbrev pub more_last : List (List ℕ) → List StmtTree → Token → Bool
more_last texts [] t = false
more_last texts (s ∷ []) t = more_statement texts s t
more_last texts (s ∷ (o ∷ ss)) t = more_last texts (o ∷ ss) t

-- what goes on from a list of statements goes on from its last
pub last_more : (texts : List (List ℕ)) (ss : List StmtTree) (s : StmtTree) (t : Token) → more_last texts (ss ++ (s ∷ [])) t ≡ more_statement texts s t
last_more texts [] s t = refl
last_more texts (r ∷ []) s t = refl
last_more texts (r ∷ (o ∷ ss)) s t = last_more texts (o ∷ ss) s t

abbrev pub more_body : List (List ℕ) → Body → Token → Bool
more_body texts b t = more_last texts b.list t

pub record LawfulStatements (texts : List (List ℕ)) (left : ℕ) (p : Parts) : Type 0 where
  pub statement : (cases : Bool) (types : List Name) → Lawful (FitsStatement texts left cases types) (more_statement texts) (p.statement cases types)
  pub block : (cases : Bool) (types : List Name) → Lawful (FitsBlock texts left cases types) (λ s. never) (p.block cases types)
  pub item : (cases : Bool) (b : Body) → Lawful (OneItem texts left cases b) (more_body texts) (p.item cases b)
  pub first : (types : List Name) → Lawful (FitsFirst texts left types) (λ f. never) (p.first types)
