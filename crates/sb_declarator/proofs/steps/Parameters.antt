-- The parts of the readers of parameters.
use Rattle.std.proofs.Common.{◌≡◌, ◌≤◌, ◌-◌, ◌+◌, ℕ, zero, suc, true, false, List, [], ◌∷◌, ◌++◌, length, take, refl, sym, ap, ◌∙◌, arith}
use Rattle.sb_base.specs.declared.interning.Name.{Name}
use Rattle.sb_base.specs.declared.tokens.Token.{Token}
use Rattle.sb_base.specs.declared.refusals.Place.{Place}
use Rattle.sb_parse.specs.Parser.{Outcome, done}
use Rattle.sb_tree.specs.declared.syntax.Decl.{Decl}
use Rattle.sb_tree.specs.Plain.{plain_decls}
use Rattle.sb_tree.specs.Trees.{NoteTree, TypeTree, DeclTree, depth_of_type}
use Rattle.sb_lexicon.specs.Lexicon.{Lexicon}
use Rattle.sb_parse.specs.Descent.{descent}
use Rattle.sb_parse.proofs.Descending.{descent_from, descent_step}
use Rattle.sb_sal.specs.declared.bearer.Bearer.TheVariants as bearer
use Rattle.sb_sal.specs.Readers.{notes_reader}
use Rattle.sb_sal.specs.Spellings.{may_stand}
use Rattle.sb_specifier.specs.declared.seat.Seat.TheVariants as seat
use Rattle.sb_derivation.specs.Declarators.{first_in, first_of, hidden_by}
use Rattle.sb_declarator.specs.Declarators.{parameter_behind}
use Rattle.sb_declarator.specs.Meaning.{nested, inside}
use Rattle.sb_derivation.specs.Parts.{simple_decl}
use Rattle.sb_specifier.specs.Specified.{Specified, reading}
use Rattle.sb_specifier.specs.Readers.{Declarator, Declarations, Parts, specifiers}
use Rattle.sb_declarator.specs.Readers.{parts, no_parts, parts_at, declarators, parameter, parameters_at, first_place}

pub first_place_in : (texts : List (List ℕ)) (below : ℕ) (part : ℕ → Parts) (ts : List Token) → first_place texts below part ts ≡ first_in ts
first_place_in texts below part [] = refl
first_place_in texts below part (t ∷ ts) = refl

pub count_of_decls : (ds : List Decl) → length (plain_decls ds) ≡ length ds
count_of_decls [] = refl
count_of_decls (d ∷ ds) = ap suc (count_of_decls ds)

-- the parameters under so many pieces by the readers of the depth that is left
pub inner_at : (texts : List (List ℕ)) (below count m : ℕ) (types : List Name) (ts : List Token) → m ≡ below - (count + 2) → 1 ≤ m
    → (parts texts below (suc count)).parameters types ts ≡ parameters_at texts m (parts texts m) types ts
inner_at texts below count zero types ts is some = absurd (omega arith)
inner_at texts below count (suc n) types ts is some =
    let left : below - suc count ≡ suc (suc n) = omega (arith, is) in
    ap (λ (p : Parts). p.parameters types ts)
    (descent_from (no_parts texts) (parts_at texts) below (suc count) ∙ ap (λ k. descent (no_parts texts) (parts_at texts) k 0) left ∙ descent_step (no_parts texts) (parts_at texts) (suc n))

pub parameter_behind_at : (w : Lexicon) (below room : ℕ) (notes : List NoteTree) (base : TypeTree) (place : Place) (ds : List DeclTree) (ts : List Token) (d : Declarator) (rest : List Token)
    → room ≡ below - depth_of_type base → declarators w false true below (parts w.texts below) room 0 ts ≡ done d rest
    → parameter_behind w below notes base place ds ts ≡ done (record { list = ds ++ (simple_decl notes base d place ∷ []); types = hidden_by d.name w.types }) rest
parameter_behind_at w below room notes base place ds ts d rest is read = rw (sym is, read) refl

pub same_declarations : (a b : List DeclTree) (s t : List Name) (rest : List Token) → a ≡ b → s ≡ t → Path (Outcome Token Declarations) (done (record { list = a; types = s }) rest) (done (record { list = b; types = t }) rest)
same_declarations a b s t rest e f = rw (e, f) refl

-- a parameter, whose annotations and specifiers are read
pub parameter_at : (texts : List (List ℕ)) (below : ℕ) (ds : Declarations) (ts : List Token) (ns : List NoteTree) (behind : List Token) (s : Specified) (base : TypeTree) (rest : List Token)
    → notes_reader (reading texts ds.types) below (may_stand (reading texts ds.types) bearer.Parameter) ts ≡ done ns behind
    → nested specifiers texts seat.Prototype below ds.types behind ≡ done (s, base) rest
    → inside parameter texts below ds ts ≡ parameter_behind (reading texts s.types) below ns base (first_of ts behind rest) ds.list rest
unfolding parameter
parameter_at texts below ds ts ns behind s base rest noted said =
    rw (noted, said) (ap (λ (place : Place). parameter_behind (reading texts s.types) below ns base place ds.list rest)
    (first_place_in texts below (parts texts below) (take (length ts - length behind) ts ++ take (length behind - length rest) behind)))
