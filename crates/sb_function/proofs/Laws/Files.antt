-- The readers of functions and files keep the laws: they read by the grammar's relation.
use Rattle.std.proofs.Common.{◌≡◌, ℕ, Bool, true, false, not, ◌||◌, List, [], ◌∷◌, ◌++◌, Some, None, if◌then◌else◌, refl, sym, ap, ◌∙◌, subst, subst₂, append_assoc, append-nil}
use Rattle.sb_base.specs.declared.interning.Name.{Name}
use Rattle.sb_base.specs.declared.refusals.Place.{Place}
use Rattle.sb_parse.specs.Parser.{done, stop, never, ◌>>=◌, pure}
use Rattle.sb_parse.specs.Lawful.{Lawful, Joined, Begun, IsEmpty, Mapped, Turns, over, turn}
use Rattle.sb_parse.specs.Read.{IsRefused}
use Rattle.sb_parse.proofs.Joining.{never_next, in_order, via, nothing, map_of}
use Rattle.sb_parse.proofs.Heads.{begun, headed}
use Rattle.sb_parse.proofs.Looping.{looping}
use Rattle.sb_parse.proofs.Reading
use Rattle.sb_function.specs.declared.lexeme.Lexeme.{Lexeme}
use Rattle.sb_function.specs.declared.lexeme.Lexeme.TheVariants as sign
use Rattle.sb_function.specs.declared.lexeme.Piece.{Piece}
use Rattle.sb_function.specs.declared.syntax.Param.{Param}
use Rattle.sb_function.specs.Syntax.{Plain, FunctionTree}
use Rattle.sb_function.specs.Grammar.{◌at◌, is_among, AreDistinct, IsFunction, is_function, AreFunctions, ended, after, IsFile}
use Rattle.sb_function.specs.Marks.{misplaced, is_mark, mark, name_of}
use Rattle.sb_function.specs.Params.{name_if}
use Rattle.sb_function.specs.Statements.{block_rest, statement}
use Rattle.sb_function.specs.Files.{function_names, with_place, new_name, function, function_more, functions, file}
use Rattle.sb_function.proofs.Laws.Pieces.{nowhere, is_itself, mark_is, Marked, marked, marked_heads}
use Rattle.sb_function.proofs.Laws.Naming
use Rattle.sb_function.proofs.Laws.Params
use Rattle.sb_function.proofs.Laws.ParamBack.{ParamsText, params_law}
use Rattle.sb_function.proofs.Laws.Statements.{RestText, body_law}

new_name_is : (fs : List FunctionTree) (t : Piece) (v : Name × Place) → new_name fs t ≡ Some v → (t ≡ (sign.Named v.0 at v.1)) × (is_among v.0 (function_names fs) ≡ false)
new_name_is fs t v h = by_lexeme t.lexeme refl h
  where
    kept : (m : Name) (b : Bool) → t.lexeme ≡ sign.Named m → not (is_among m (function_names fs)) ≡ b → with_place t.place (if b then Some m else None) ≡ Some v
        → (t ≡ (sign.Named v.0 at v.1)) × (is_among v.0 (function_names fs) ≡ false)
    kept m true l e w =
        let same : Path (Name × Place) (m, t.place) v = cc w in
        (ap (λ z. z at t.place) l ∙ ap (λ (z : Name × Place). sign.Named z.0 at z.1) same, ap (λ (z : Name × Place). is_among z.0 (function_names fs)) (sym same) ∙ Naming.not_true _ e)
    kept m false l e w = absurd (cc w)

    by_lexeme : (l : Lexeme) → t.lexeme ≡ l → with_place t.place (name_if (λ n. not (is_among n (function_names fs))) (name_of l)) ≡ Some v → (t ≡ (sign.Named v.0 at v.1)) × (is_among v.0 (function_names fs) ≡ false)
    by_lexeme (sign.Named m) e w = kept m (not (is_among m (function_names fs))) e refl w
    by_lexeme _ e w = absurd (cc w)

is_new_name : (fs : List FunctionTree) (n : Name) (p : Place) → is_among n (function_names fs) ≡ false → new_name fs (sign.Named n at p) ≡ Some (n, p)
is_new_name fs n p h = ap (λ b. with_place p (if not b then Some n else None)) h

abbrev tree : Name × Place → List Param → Plain → FunctionTree
tree named ps body = record { name = named.0; place = named.1; params = ps; body = body }

abbrev FunctionText : List FunctionTree → List Piece → FunctionTree → Type 0
FunctionText fs =
    Marked sign.Void (λ p. Begun (new_name fs) (λ named. Marked sign.OpenParenthesis (λ q. Joined ParamsText (λ ps. Marked sign.OpenBrace (λ r. Mapped (tree named ps) (RestText ps 99))))))

function_law : (fs : List FunctionTree) → Lawful (FunctionText fs) Params.still (function fs)
unfolding function
function_law fs =
    marked sign.Void refl (begun misplaced (new_name fs) (sign.Named (Naming.new_to (function_names fs)) at nowhere) (Naming.new_to (function_names fs), nowhere)
    (is_new_name fs (Naming.new_to (function_names fs)) nowhere (Naming.is_new (function_names fs))) (λ t named ok.
    marked sign.OpenParenthesis refl (in_order {Second = λ ps. Marked sign.OpenBrace (λ r. Mapped (tree named ps) (RestText ps 99))}
    {q = λ ps. mark sign.OpenBrace (block_rest ps (statement ps 99) >>= (λ body. pure (tree named ps body)))} params_law
    (λ xs ps is. marked sign.OpenBrace refl (map_of (body_law ps is.distinct 99) (tree named ps) Params.still (λ a s. refl)))
    (λ xs ps ys f rest u v e. never_next (ys ++ rest)))))

to_function : (fs : List FunctionTree) (ts : List Piece) (f : FunctionTree) → FunctionText fs ts f → IsFunction ts f × (is_among f.name (function_names fs) ≡ false)
to_function fs ts f h =
    let name : Begun _ _ h.rest f = h.is in
    let open_it : Marked _ _ name.rest f = name.is in
    let both : Joined _ _ open_it.rest f = open_it.is in
    let ps : ParamsText both.before both.value = both.first in
    let brace : Marked _ _ both.after f = both.second in
    let body : Mapped _ _ brace.rest f = brace.is in
    let named : (name.opening ≡ (sign.Named name.value.0 at name.value.1)) × (is_among name.value.0 (function_names fs) ≡ false) = new_name_is fs name.opening name.value name.gives_it in
    let end : List Piece = sign.CloseBrace at body.is.closing.place ∷ [] in
    let last : brace.rest ≡ body.is.front ++ end = body.is.split ∙ ap (λ z. body.is.front ++ (z ∷ [])) (mark_is sign.CloseBrace body.is.closing refl body.is.passes) in
    let inner : open_it.rest ≡ ps.front ++ (sign.CloseParenthesis at ps.place ∷ sign.OpenBrace at brace.place ∷ (body.is.front ++ end)) =
    both.split ∙ ap (λ z. z ++ both.after) ps.split ∙ append_assoc ps.front (sign.CloseParenthesis at ps.place ∷ []) both.after
    ∙ ap (λ z. ps.front ++ (sign.CloseParenthesis at ps.place ∷ z)) (brace.split ∙ ap (λ z. sign.OpenBrace at brace.place ∷ z) last) in
    let text : ts ≡ sign.Void at h.place ∷ sign.Named name.value.0 at name.value.1 ∷ sign.OpenParenthesis at open_it.place ∷ (ps.front ++ (sign.CloseParenthesis at ps.place ∷ sign.OpenBrace at brace.place ∷ (body.is.front ++ end))) =
    cc (h.split, name.split, named.0, open_it.split, inner) in (
      subst₂ IsFunction (sym text) (sym body.same)
          (is_function name.value.0 both.value body.value ps.front body.is.front h.place name.value.1 open_it.place ps.place brace.place body.is.closing.place ps.are ps.few ps.distinct body.is.is.0 body.is.is.1),
      ap (λ z. is_among z.name (function_names fs)) body.same ∙ named.1,
    )

from_function : (fs : List FunctionTree) (ts : List Piece) (f : FunctionTree) → IsFunction ts f → is_among f.name (function_names fs) ≡ false → FunctionText fs ts f
from_function fs _ _ (is_function n ps body xs ys p q r s t u are few distinct list deep) fresh =
    let end : List Piece = sign.CloseBrace at u ∷ [] in
    record {
      place = p;
      rest = sign.Named n at q ∷ sign.OpenParenthesis at r ∷ (xs ++ (sign.CloseParenthesis at s ∷ sign.OpenBrace at t ∷ (ys ++ end)));
      split = refl;
      is = record {
        opening = sign.Named n at q;
        value = (n, q);
        rest = sign.OpenParenthesis at r ∷ (xs ++ (sign.CloseParenthesis at s ∷ sign.OpenBrace at t ∷ (ys ++ end)));
        split = refl;
        gives_it = is_new_name fs n q fresh;
        is = record {
          place = r;
          rest = xs ++ (sign.CloseParenthesis at s ∷ sign.OpenBrace at t ∷ (ys ++ end));
          split = refl;
          is = record {
            before = xs ++ (sign.CloseParenthesis at s ∷ []);
            after = sign.OpenBrace at t ∷ (ys ++ end);
            value = ps;
            split = sym (append_assoc xs (sign.CloseParenthesis at s ∷ []) (sign.OpenBrace at t ∷ (ys ++ end)));
            first = record { front = xs; place = s; split = refl; are = are; few = few; distinct = distinct };
            second = record {
              place = t;
              rest = ys ++ end;
              split = refl;
              is = record { value = body; is = record { front = ys; closing = sign.CloseBrace at u; split = refl; is = (list, deep); passes = is_itself sign.CloseBrace u }; same = refl };
            };
          };
        };
      };
    }

-- ---- the functions of a file

abbrev Turn : List FunctionTree → List Piece → List FunctionTree → Type 0
Turn fs = Mapped (λ f. fs ++ (f ∷ [])) (FunctionText fs)

names_append : (fs : List FunctionTree) (f : FunctionTree) → function_names (fs ++ (f ∷ [])) ≡ function_names fs ++ (f.name ∷ [])
names_append [] f = refl
names_append (g ∷ fs) f = ap (λ z. g.name ∷ z) (names_append fs f)

names_join : (fs gs : List FunctionTree) → function_names (fs ++ gs) ≡ function_names fs ++ function_names gs
names_join [] gs = refl
names_join (f ∷ fs) gs = ap (λ z. f.name ∷ z) (names_join fs gs)

turns_add : (fs out : List FunctionTree) (ts : List Piece) → AreDistinct (function_names fs) → Turns Turn fs ts out → (added : List FunctionTree) × (out ≡ fs ++ added) × AreFunctions ts added × AreDistinct (function_names out)
turns_add fs out ts d (over a) = ([], sym (append-nil a), ended, d)
turns_add fs out ts d (turn a b c xs ys is k) =
    let f : IsFunction xs is.value × (is_among is.value.name (function_names a) ≡ false) = to_function a xs is.value is.is in
    let names : function_names b ≡ function_names a ++ (is.value.name ∷ []) = ap function_names is.same ∙ names_append a is.value in
    let later : (added : List FunctionTree) × (c ≡ b ++ added) × AreFunctions ys added × AreDistinct (function_names c) =
    turns_add b c ys (subst AreDistinct (sym names) (Naming.distinct_append (function_names a) is.value.name d f.1)) k in
    (is.value ∷ later.0, later.1 ∙ ap (λ z. z ++ later.0) is.same ∙ append_assoc a (is.value ∷ []) later.0, after xs ys is.value later.0 f.0 later.2, later.3)

adds_turns : (ts : List Piece) (added : List FunctionTree) → AreFunctions ts added → (fs : List FunctionTree) → AreDistinct (function_names (fs ++ added)) → Turns Turn fs ts (fs ++ added)
adds_turns _ _ ended fs d = subst (Turns Turn fs []) (sym (append-nil fs)) (over fs)
adds_turns _ _ (after xs ys f rest is are) fs d =
    let whole : (fs ++ (f ∷ [])) ++ rest ≡ fs ++ (f ∷ rest) = append_assoc fs (f ∷ []) rest in
    let fresh : is_among f.name (function_names fs) ≡ false =
    Naming.apart_back (function_names fs) (f.name ∷ function_names rest) f.name (subst AreDistinct (names_join fs (f ∷ rest)) d) (Naming.among_head f.name (function_names rest)) in
    subst (Turns Turn fs (xs ++ ys)) whole
    (turn fs (fs ++ (f ∷ [])) ((fs ++ (f ∷ [])) ++ rest) xs ys (record { value = f; is = from_function fs xs f is fresh; same = refl })
    (adds_turns ys rest are (fs ++ (f ∷ [])) (subst (λ z. AreDistinct (function_names z)) (sym whole) d)))

abbrev pub goes_on : List FunctionTree → Piece → Bool
goes_on fs t = is_mark sign.Void t || never t

pub functions_law : Lawful IsFile goes_on functions
unfolding functions function_more
functions_law =
    via (looping {Turn = Turn} {more = Params.still} {op = function_more} (λ fs. headed (map_of (function_law fs) (λ f. fs ++ (f ∷ [])) Params.still (λ a t. refl)) (is_mark sign.Void) (λ ts gs m. marked_heads sign.Void ts m.value m.is)) (λ a t h. refl) (nothing []))
    to from functions (λ ts. refl)
  where
    to : (ts : List Piece) (fs : List FunctionTree) → Joined (IsEmpty []) (Turns Turn) ts fs → IsFile ts fs
    to ts fs j =
        let t : (added : List FunctionTree) × (fs ≡ j.value ++ added) × AreFunctions j.after added × AreDistinct (function_names fs) = turns_add j.value fs j.after (subst (λ z. AreDistinct (function_names z)) (sym j.first.same) tt) j.second in
        let list : fs ≡ t.0 = t.1 ∙ ap (λ z. z ++ t.0) j.first.same in
        let text : ts ≡ j.after = j.split ∙ ap (λ z. z ++ j.after) j.first.none in
        record { are = subst₂ AreFunctions (sym text) (sym list) t.2; distinct = t.3 }

    from : (ts : List Piece) (fs : List FunctionTree) → IsFile ts fs → Joined (IsEmpty []) (Turns Turn) ts fs
    from ts fs f = record { before = []; after = ts; value = []; split = refl; first = record { none = refl; same = refl }; second = adds_turns ts fs f.are [] f.distinct }

-- ---- whole texts

-- a text has one tree
pub one_tree : (ts : List Piece) (a b : List FunctionTree) → IsFile ts a → IsFile ts b → a ≡ b
one_tree ts a b x y = Reading.one_tree functions_law ts a b x y

pub is_read : (ts : List Piece) (fs rest : _) → file ts ≡ done fs rest → IsFile ts fs
unfolding file
is_read ts fs rest e = Reading.whole_sound functions_law misplaced ts fs rest e

pub reads : (ts : List Piece) (fs : List FunctionTree) → IsFile ts fs → file ts ≡ done fs []
unfolding file
reads ts fs is = Reading.whole_complete functions_law misplaced ts fs is

pub is_refused : (ts : List Piece) (n left : ℕ) → file ts ≡ stop n left → IsRefused IsFile ts left
unfolding file
is_refused ts n left e = Reading.whole_refused functions_law misplaced ts n left e
