-- Which tokens go on from the declarators of a declaration, by their trees; and depths of those trees.
use Rattle.std.proofs.Common.{◌≡◌, ◌≤◌, ℕ, suc, max, Bool, true, false, ◌||◌, List, [], ◌∷◌, ◌++◌, Option, Some, None, if◌then◌else◌, refl, sym, ap, ◌∙◌, arith}
use Rattle.std.proofs.Math.Nat.{le-max_left, le-max_right, max-le}
use Rattle.sb_base.specs.declared.interning.Name.{Name}
use Rattle.sb_base.specs.declared.refusals.Place.{Place}
use Rattle.sb_base.specs.declared.tokens.Token.{Token}
use Rattle.sb_tree.specs.Plain.{note_list}
use Rattle.sb_tree.specs.Trees as tree
use Rattle.sb_tree.specs.Trees.{NoteTree, TypeTree, InitTree, OptionalInit, DeclTree, depth_of_decl, depth_of_notes, depth_of_type, depth_of_optional_init}
use Rattle.sb_lexicon.specs.Lexicon.{Lexicon}
use Rattle.sb_operand.specs.Pieces.{Piece, Constant, Pointed, Arrayed, Called, Grouped, typed}
use Rattle.sb_sal.proofs.Inside.{at_end, ends_with}
use Rattle.sb_specifier.specs.Specified.{Specified, again, unqualified_again, same_if_listed, same_if_numbered, declares_function, is_bare}
use Rattle.sb_declare.specs.Declaration.{declared_by, declaration_of}
use Rattle.sb_declare.specs.Readers as reader
use Rattle.sb_specifier.specs.Readers.{Declarator, Parts, is_assign}
use Rattle.sb_declare.specs.Readers.{Opening}
use Rattle.sb_initialiser.proofs.laws.Initialisers.{more_init}
use Rattle.sb_declare.proofs.laws.Initialised.{more_initialised}
use Rattle.sb_declare.proofs.laws.Scoping.{more_first}
use Rattle.sb_declarator.proofs.laws.Typed.{is_base}

-- ---- a function, by its type

abbrev pub is_function_type : TypeTree → Bool
is_function_type (tree.Function t params place) = true
is_function_type (tree.ParenType t place) = is_function_type t
is_function_type _ = false

bare_no_function : (ps : List Piece) → is_bare ps ≡ true → declares_function ps ≡ false
bare_no_function [] h = refl
bare_no_function (Grouped place ∷ ps) h = bare_no_function ps h
bare_no_function (Constant ∷ ps) h = absurd (cc h)
bare_no_function (Pointed place ∷ ps) h = absurd (cc h)
bare_no_function (Arrayed size place ∷ ps) h = absurd (cc h)
bare_no_function (Called params place ∷ ps) h = absurd (cc h)

behind_other : (ps : List Piece) → (if is_bare ps then false else declares_function ps) ≡ declares_function ps
behind_other ps = by_test (is_bare ps) refl
  where
    by_test : (b : Bool) → is_bare ps ≡ b → (if b then false else declares_function ps) ≡ declares_function ps
    by_test true h = sym (bare_no_function ps h)
    by_test false h = refl

behind_function : (ps : List Piece) → (if is_bare ps then true else declares_function ps) ≡ (is_bare ps || declares_function ps)
behind_function ps = by_test (is_bare ps)
  where
    by_test : (b : Bool) → (if b then true else declares_function ps) ≡ (b || declares_function ps)
    by_test true = refl
    by_test false = refl

-- with pieces put on a type the outermost one that is no parenthesis decides
function_over : (ps : List Piece) (t : TypeTree) → is_function_type (typed t ps) ≡ (if is_bare ps then is_function_type t else declares_function ps)
function_over [] t = refl
function_over (Grouped place ∷ ps) t = function_over ps (tree.ParenType t place)
function_over (Called params place ∷ ps) t = function_over ps (tree.Function t params place) ∙ behind_function ps
function_over (Constant ∷ ps) t = function_over ps (tree.Const t) ∙ behind_other ps
function_over (Pointed place ∷ ps) t = function_over ps (tree.Pointer t place) ∙ behind_other ps
function_over (Arrayed size place ∷ ps) t = function_over ps (tree.Array t size place) ∙ behind_other ps

pub function_of : (ps : List Piece) (t : TypeTree) → is_function_type t ≡ false → is_function_type (typed t ps) ≡ declares_function ps
function_of ps t plain = function_over ps t ∙ ap (λ b. if is_bare ps then b else declares_function ps) plain ∙ behind_other ps

-- what specifiers name is no function

pub base_no_function : (t : TypeTree) → is_base t ≡ true → is_function_type t ≡ false
base_no_function (tree.Function t params place) h = absurd (cc h)
base_no_function (tree.ParenType t place) h = absurd (cc h)
base_no_function _ h = refl

listed_again : (place : Place) (members : tree.OptionalDecls) (t : TypeTree) → is_base t ≡ true → is_base (same_if_listed place members t) ≡ true
listed_again place tree.Undeclared t h = h
listed_again place (tree.Declared ds) t h = refl

numbered_again : (place : Place) (items : tree.OptionalItems) (t : TypeTree) → is_base t ≡ true → is_base (same_if_numbered place items t) ≡ true
numbered_again place tree.Unlisted t h = h
numbered_again place (tree.Listed is) t h = refl

unqualified_base : (u t : TypeTree) → is_base t ≡ true → is_base (unqualified_again u t) ≡ true
unqualified_base (tree.Struct tag members place) t h = listed_again place members t h
unqualified_base (tree.Enum tag items place) t h = numbered_again place items t h
unqualified_base _ t h = h

pub again_base : (t : TypeTree) → is_base t ≡ true → is_base (again t) ≡ true
again_base (tree.Const t) h = unqualified_base t (tree.Const t) h
again_base (tree.Struct tag members place) h = unqualified_base (tree.Struct tag members place) (tree.Struct tag members place) h
again_base (tree.Enum tag items place) h = unqualified_base (tree.Enum tag items place) (tree.Enum tag items place) h
again_base (tree.Base code place) h = h
again_base _ h = h

-- ---- what goes on from a list of declarators with their initialisers

module _ (texts : List (List ℕ)) (below : ℕ) (o : Opening) where
  abbrev pub more_behind : Lexicon → Bool → OptionalInit → Token → Bool
  more_behind w function tree.NoInit t = is_assign w t || more_first texts below o function t
  more_behind w function (tree.AnInit i) t = more_init w i t

  abbrev pub more_later : Lexicon → DeclTree → Token → Bool
  more_later w (tree.Decl notes storage base name place init body) t = more_behind w (is_function_type base) init t

  -- behind the first, what goes on from the declarator itself is read before
  abbrev pub more_alone : Lexicon → DeclTree → Token → Bool
  more_alone w (tree.Decl notes storage base name place init body) t = more_initialised w init t

  abbrev pub more_listed : Lexicon → List DeclTree → Token → Bool
  more_listed w [] t = false
  more_listed w (d ∷ []) t = more_alone w d t
  more_listed w (d ∷ (e ∷ ds)) t = at_end (more_later w) (e ∷ ds) t

  abbrev pub is_none : List DeclTree → Bool
  is_none [] = true
  is_none (d ∷ ds) = false

  last_later : (w : Lexicon) (ds : List DeclTree) (e : DeclTree) (t : Token) → at_end (more_later w) (ds ++ (e ∷ [])) t ≡ more_later w e t
  last_later w [] e t = refl
  last_later w (d ∷ []) e t = refl
  last_later w (d ∷ (f ∷ ds)) e t = last_later w (f ∷ ds) e t

  pub listed_later : (w : Lexicon) (ds : List DeclTree) (e : DeclTree) (t : Token) → is_none ds ≡ false → more_listed w (ds ++ (e ∷ [])) t ≡ more_later w e t
  listed_later w [] e t h = absurd (cc h)
  listed_later w (d ∷ []) e t h = refl
  listed_later w (d ∷ (f ∷ ds)) e t h = last_later w (f ∷ ds) e t

  -- a token that goes on from none of them
  pub listed_ends : (w : Lexicon) (t : Token) → is_assign w t ≡ false → ((function : Bool) → more_first texts below o function t ≡ false) → ((i : InitTree) → more_init w i t ≡ false) → (ds : List DeclTree) → more_listed w ds t ≡ false
  listed_ends w t no_assign no_first no_init = by_list
    where
      by_init : (init : OptionalInit) → more_initialised w init t ≡ false
      by_init tree.NoInit = no_assign
      by_init (tree.AnInit i) = no_init i

      alone : (d : DeclTree) → more_alone w d t ≡ false
      alone (tree.Decl notes storage base name place init body) = by_init init

      behind : (function : Bool) (init : OptionalInit) → more_behind w function init t ≡ false
      behind function tree.NoInit = ap (λ b. b || more_first texts below o function t) no_assign ∙ no_first function
      behind function (tree.AnInit i) = no_init i

      later : (d : DeclTree) → more_later w d t ≡ false
      later (tree.Decl notes storage base name place init body) = behind (is_function_type base) init

      by_list : (ds : List DeclTree) → more_listed w ds t ≡ false
      by_list [] = refl
      by_list (d ∷ []) = alone d
      by_list (d ∷ (e ∷ ds)) = ends_with (more_later w) t later (e ∷ ds)

-- ---- the readers' words for the grammar's

module _ (texts : List (List ℕ)) (below : ℕ) (part : ℕ → Parts) (o : Opening) where
  pub declared_is : (n : Option (Name × Place)) (types : List Name) → reader.declared_by texts below part o n types ≡ declared_by o.specified n types
  declared_is None types = refl
  declared_is (Some n) types = refl

  pub declaration_is : (base : TypeTree) (d : Declarator) (init : OptionalInit) (body : tree.OptionalStmt) → reader.declaration_of texts below part o base d init body ≡ declaration_of o.notes o.specified base d init body
  declaration_is base d init body = refl

-- ---- depths

-- of annotations, a type and an initialiser that fit, and no deeper
pub declared_fits : (below : ℕ) (ns : List NoteTree) (s : Specified) (base : TypeTree) (d : Declarator) (init : OptionalInit) → depth_of_notes (note_list ns) ≤ below → depth_of_type (typed base d.pieces) ≤ below
    → depth_of_optional_init init ≤ below → depth_of_decl (declaration_of ns s base d init tree.NoStmt) ≤ suc below
declared_fits below ns s base d init noted deep inits =
    let none : 0 ≤ below = omega arith in
    let most : max (depth_of_notes (note_list ns)) (max (depth_of_type (typed base d.pieces)) (max (depth_of_optional_init init) 0)) ≤ below = max-le noted (max-le deep (max-le inits none)) in
    omega arith

pub fits_declared : (below : ℕ) (ns : List NoteTree) (s : Specified) (base : TypeTree) (d : Declarator) (init : OptionalInit) → depth_of_decl (declaration_of ns s base d init tree.NoStmt) ≤ suc below
    → (depth_of_notes (note_list ns) ≤ below) × (depth_of_type (typed base d.pieces) ≤ below) × (depth_of_optional_init init ≤ below)
fits_declared below ns s base d init le =
    let n = depth_of_notes (note_list ns) in
    let t = depth_of_type (typed base d.pieces) in
    let i = depth_of_optional_init init in
    let all : suc (max (depth_of_notes (note_list ns)) (max (depth_of_type (typed base d.pieces)) (max (depth_of_optional_init init) 0))) ≤ suc below = le in
    let first : depth_of_notes (note_list ns) ≤ max (depth_of_notes (note_list ns)) (max (depth_of_type (typed base d.pieces)) (max (depth_of_optional_init init) 0)) = le-max_left n (max t (max i 0)) in
    let second : max (depth_of_type (typed base d.pieces)) (max (depth_of_optional_init init) 0) ≤ max (depth_of_notes (note_list ns)) (max (depth_of_type (typed base d.pieces)) (max (depth_of_optional_init init) 0)) = le-max_right n (max t (max i 0)) in
    let third : depth_of_type (typed base d.pieces) ≤ max (depth_of_type (typed base d.pieces)) (max (depth_of_optional_init init) 0) = le-max_left t (max i 0) in
    let fourth : max (depth_of_optional_init init) 0 ≤ max (depth_of_type (typed base d.pieces)) (max (depth_of_optional_init init) 0) = le-max_right t (max i 0) in
    let fifth : depth_of_optional_init init ≤ max (depth_of_optional_init init) 0 = le-max_left i 0 in
    (omega arith, omega arith, omega arith)
