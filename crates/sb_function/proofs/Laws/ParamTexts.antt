-- The readers of parameters read by the grammar's relation: the conditions that they check name by name are those on the whole list.
use Rattle.std.proofs.Common.{◌≡◌, ◌≤◌, ℕ, zero, suc, Bool, true, false, not, List, [], ◌∷◌, ◌++◌, length, refl, sym, ap, ◌∙◌, inl, inr, subst, arith, append_assoc, append-nil}
use Rattle.sb_base.specs.declared.interning.Name.{Name}
use Rattle.sb_base.specs.declared.refusals.Place.{Place}
use Rattle.sb_parse.specs.Lawful.{Begun}
use Rattle.sb_function.specs.declared.lexeme.Lexeme.TheVariants as sign
use Rattle.sb_function.specs.declared.lexeme.Piece.{Piece}
use Rattle.sb_function.specs.declared.written.Written.{Written}
use Rattle.sb_function.specs.declared.written.WrittenKind.{WrittenKind}
use Rattle.sb_function.specs.declared.written.WrittenKind.TheVariants.{Int, Unsigned, OutWrites}
use Rattle.sb_function.specs.Grammar.{◌at◌, same_name, is_among, AreDistinct}
use Rattle.sb_function.specs.Params.{Seen, written_names, counts, has_number, without, is_known, pending_with, number_name, size_name, pointer_name, with_number, with_pointer, is_zero}
use Rattle.sb_function.proofs.Laws.Distinct.{same_name_is}
use Rattle.sb_function.proofs.Laws.Pieces.{Marked}
use Rattle.sb_function.proofs.Laws.Naming
use Rattle.sb_function.proofs.Laws.Params

-- ---- parameters as they are written

pub data IsWritten : List Piece → Written → Type 0 where
  wrote_int : (n : Name) (p q : Place) → IsWritten (sign.Int at p ∷ sign.Named n at q ∷ []) (record { name = n; kind = Int })
  wrote_unsigned : (n : Name) (p q r : Place) → IsWritten (sign.Unsigned at p ∷ sign.Int at q ∷ sign.Named n at r ∷ []) (record { name = n; kind = Unsigned })
  wrote_pointer : (n size : Name) (p q r s t u v : Place)
      → IsWritten (sign.OutWrites at p ∷ sign.OpenParenthesis at q ∷ sign.Named size at r ∷ sign.CloseParenthesis at s ∷ sign.Int at t ∷ sign.Star at u ∷ sign.Named n at v ∷ []) (record { name = n; kind = OutWrites size })

-- what follows a parameter, up to the parenthesis
pub data IsRest : List Piece → List Written → Type 0 where
  closed_at : (p : Place) → IsRest (sign.CloseParenthesis at p ∷ []) []
  goes_to : (xs ys : List Piece) (w : Written) (ws : List Written) (p : Place) → IsWritten xs w → IsRest ys ws → IsRest (sign.Comma at p ∷ (xs ++ ys)) (w ∷ ws)

abbrev pub sized : (Name → Bool) → WrittenKind → Type 0
sized test Int = Unit {0}
sized test Unsigned = Unit {0}
sized test (OutWrites size) = test size ≡ true

-- each size passes the test
abbrev pub Sizes : (Name → Bool) → List Written → Type 0
Sizes test [] = Unit {0}
Sizes test (w ∷ ws) = sized test w.kind × Sizes test ws

pub sized_weaker : (f g : Name → Bool) → ((s : Name) → f s ≡ true → g s ≡ true) → (k : WrittenKind) → sized f k → sized g k
sized_weaker f g h Int s = tt
sized_weaker f g h Unsigned s = tt
sized_weaker f g h (OutWrites size) s = h size s

pub sizes_weaker : (f g : Name → Bool) → ((s : Name) → f s ≡ true → g s ≡ true) → (ws : List Written) → Sizes f ws → Sizes g ws
sizes_weaker f g h [] s = tt
sizes_weaker f g h (w ∷ ws) s = (sized_weaker f g h w.kind s.0, sizes_weaker f g h ws s.1)

sizes_append : (f : Name → Bool) (ws : List Written) (w : Written) → Sizes f ws → sized f w.kind → Sizes f (ws ++ (w ∷ []))
sizes_append f [] w s t = (t, tt)
sizes_append f (v ∷ ws) w s t = (s.0, sizes_append f ws w s.1 t)

-- ---- what a parameter that was read adds

known_number : (seen : Seen) (k : WrittenKind) (n m : Name) → counts k ≡ true → is_known seen m ≡ true → is_known (with_number seen k n) m ≡ true
known_number seen k n m c h = elim (Naming.one_of (has_number m seen.written) (is_among m seen.pending) h) [
  | inl e ↦ Naming.or_first (has_number m (seen.written ++ (record { name = n; kind = k } ∷ []))) (is_among m (without n seen.pending)) (Params.has_append m seen.written (record { name = n; kind = k }) e)
  | inr e ↦ elim (Naming.true_or_false (same_name n m)) [
    | inl f ↦ Naming.or_first (has_number m (seen.written ++ (record { name = n; kind = k } ∷ []))) (is_among m (without n seen.pending))
        (ap (λ z. has_number z (seen.written ++ (record { name = n; kind = k } ∷ []))) (sym (same_name_is n m f)) ∙ Params.has_last n seen.written k c)
    | inr f ↦ Naming.or_second (has_number m (seen.written ++ (record { name = n; kind = k } ∷ []))) (is_among m (without n seen.pending)) (Naming.stays_without n m seen.pending e f)
  ]
]

pub among_pending_with : (seen : Seen) (size m : Name) → is_among m seen.pending ≡ true → is_among m (pending_with seen size) ≡ true
among_pending_with seen size m h = elim (Naming.true_or_false (is_known seen size)) [
  | inl e ↦ ap (is_among m) (Params.with_known seen size e) ∙ h
  | inr e ↦ ap (is_among m) (Params.with_new seen size e) ∙ Naming.or_second (same_name m size) (is_among m seen.pending) h
]

known_pointer : (seen : Seen) (size n m : Name) → is_known seen m ≡ true → is_known (with_pointer seen size n) m ≡ true
known_pointer seen size n m h = elim (Naming.one_of (has_number m seen.written) (is_among m seen.pending) h) [
  | inl e ↦ Naming.or_first (has_number m (seen.written ++ (record { name = n; kind = OutWrites size } ∷ []))) (is_among m (pending_with seen size)) (Params.has_append m seen.written (record { name = n; kind = OutWrites size }) e)
  | inr e ↦ Naming.or_second (has_number m (seen.written ++ (record { name = n; kind = OutWrites size } ∷ []))) (is_among m (pending_with seen size)) (among_pending_with seen size m e)
]

pub record Adds (seen : Seen) (ts : List Piece) (s : Seen) : Type 0 where
  pub added : Written
  pub is : IsWritten ts added
  pub adds : s.written ≡ seen.written ++ (added ∷ [])
  pub fresh : is_among added.name (written_names seen.written) ≡ false
  pub keeps : (m : Name) → is_known seen m ≡ true → is_known s m ≡ true
  pub size : sized (is_known s) added.kind

adds_number : (room : ℕ) (seen : Seen) (k : WrittenKind) (ts : List Piece) (s : Seen) → Params.NumberText room seen k ts s
    → (n : Name) × (t : Piece) × (ts ≡ t ∷ []) × (t ≡ (sign.Named n at t.place)) × (is_among n (written_names seen.written) ≡ false) × (s ≡ with_number seen k n)
adds_number room seen k ts s m =
    let it : (m.is.token ≡ (sign.Named m.value at m.is.token.place)) × (number_name room seen m.value ≡ true) = Params.named_is (number_name room seen) m.is.token m.value m.is.is in
    (m.value, m.is.token, m.is.alone, it.0, (Params.number_is room seen m.value it.1).0, m.same)

pub param_adds : (room : ℕ) (seen : Seen) (ts : List Piece) (s : Seen) → Params.ParamText room seen ts s → Adds seen ts s
param_adds room seen ts s (inl m) =
    let a : (n : Name) × (t : Piece) × (m.rest ≡ t ∷ []) × (t ≡ (sign.Named n at t.place)) × (is_among n (written_names seen.written) ≡ false) × (s ≡ with_number seen Int n) = adds_number room seen Int m.rest s m.is in
    let text : ts ≡ sign.Int at m.place ∷ sign.Named a.0 at a.1.place ∷ [] = cc (m.split, a.2, a.3) in
    record {
      added = record { name = a.0; kind = Int };
      is = subst (λ z. IsWritten z (record { name = a.0; kind = Int })) (sym text) (wrote_int a.0 m.place a.1.place);
      adds = ap (λ z. z.written) a.5;
      fresh = a.4;
      keeps = λ x h. ap (λ z. is_known z x) a.5 ∙ known_number seen Int a.0 x refl h;
      size = tt;
    }
param_adds room seen ts s (inr (inl m)) =
    let a : (n : Name) × (t : Piece) × (m.is.rest ≡ t ∷ []) × (t ≡ (sign.Named n at t.place)) × (is_among n (written_names seen.written) ≡ false) × (s ≡ with_number seen Unsigned n) = adds_number room seen Unsigned m.is.rest s m.is.is in
    let text : ts ≡ sign.Unsigned at m.place ∷ sign.Int at m.is.place ∷ sign.Named a.0 at a.1.place ∷ [] = cc (m.split, m.is.split, a.2, a.3) in
    record {
      added = record { name = a.0; kind = Unsigned };
      is = subst (λ z. IsWritten z (record { name = a.0; kind = Unsigned })) (sym text) (wrote_unsigned a.0 m.place m.is.place a.1.place);
      adds = ap (λ z. z.written) a.5;
      fresh = a.4;
      keeps = λ x h. ap (λ z. is_known z x) a.5 ∙ known_number seen Unsigned a.0 x refl h;
      size = tt;
    }
param_adds room seen ts s (inr (inr u)) =
    let out : Marked _ _ ts s = u.is in
    let parenthesis : Marked _ _ out.rest s = out.is in
    let size : Begun _ _ parenthesis.rest s = parenthesis.is in
    let close : Marked _ _ size.rest s = size.is in
    let int : Marked _ _ close.rest s = close.is in
    let star : Marked _ _ int.rest s = int.is in
    let name : Begun _ _ star.rest s = star.is in
    let size_it : (size.opening ≡ (sign.Named size.value at size.opening.place)) × (size_name room seen size.value ≡ true) = Params.named_is (size_name room seen) size.opening size.value size.gives_it in
    let name_it : (name.opening ≡ (sign.Named name.value at name.opening.place)) × (pointer_name seen size.value name.value ≡ true) = Params.named_is (pointer_name seen size.value) name.opening name.value name.gives_it in
    let state : s ≡ with_pointer seen size.value name.value = name.is.same in
    let text : ts ≡ sign.OutWrites at out.place ∷ sign.OpenParenthesis at parenthesis.place ∷ sign.Named size.value at size.opening.place ∷ sign.CloseParenthesis at close.place ∷ sign.Int at int.place ∷ sign.Star at star.place ∷ sign.Named name.value at name.opening.place ∷ []
    = cc (out.split, parenthesis.split, size.split, size_it.0, close.split, int.split, star.split, name.split, name_it.0, name.is.none) in
    record {
      added = record { name = name.value; kind = OutWrites size.value };
      is = subst (λ z. IsWritten z (record { name = name.value; kind = OutWrites size.value })) (sym text) (wrote_pointer name.value size.value out.place parenthesis.place size.opening.place close.place int.place star.place name.opening.place);
      adds = ap (λ z. z.written) state;
      fresh = (Params.pointer_is seen size.value name.value name_it.1).0;
      keeps = λ x h. ap (λ z. is_known z x) state ∙ known_pointer seen size.value name.value x h;
      size = ap (λ z. is_known z size.value) state ∙ Params.known_then seen size.value name.value;
    }

pub record Ends (room : ℕ) (seen : Seen) (ts : List Piece) (all : List Written) : Type 0 where
  pub added : List Written
  pub whole : all ≡ seen.written ++ added
  pub is : IsRest ts added
  pub few : length added ≤ room
  pub distinct : AreDistinct (written_names all)
  pub sizes : Sizes (λ s. has_number s all) all

closing_ends : (room : ℕ) (seen : Seen) (ts : List Piece) (all : List Written) → Sizes (is_known seen) seen.written → AreDistinct (written_names seen.written) → Params.ClosingText seen ts all → Ends room seen ts all
closing_ends room seen ts all s d u =
    let none : (m : Name) → is_among m seen.pending ≡ false = nothing_pending seen.pending u.open_way in
    let same : all ≡ seen.written = u.is.is.same in
    let text : ts ≡ sign.CloseParenthesis at u.is.place ∷ [] = u.is.split ∙ ap (λ z. sign.CloseParenthesis at u.is.place ∷ z) u.is.is.none in
    record {
      added = [];
      whole = same ∙ sym (append-nil seen.written);
      is = subst (λ z. IsRest z []) (sym text) (closed_at u.is.place);
      few = omega arith;
      distinct = subst (λ z. AreDistinct (written_names z)) (sym same) d;
      sizes = subst (λ z. Sizes (λ s. has_number s z) z) (sym same) (sizes_weaker (is_known seen) (λ s. has_number s seen.written) (λ m h.
          elim (Naming.one_of (has_number m seen.written) (is_among m seen.pending) h) [ inl e ↦ e | inr e ↦ Naming.never_both (is_among m seen.pending) e (none m) ]) seen.written s);
    }
  where
    nothing_pending : (p : List Name) → not (is_zero (length p)) ≡ false → (m : Name) → is_among m p ≡ false
    nothing_pending [] h m = refl
    nothing_pending (x ∷ p) h m = absurd (cc h)

pub tail_ends : (room : ℕ) (seen : Seen) (ts : List Piece) (all : List Written) → Sizes (is_known seen) seen.written → AreDistinct (written_names seen.written) → Params.TailText room seen ts all → Ends room seen ts all
tail_ends zero seen ts all s d (inl u) = absurd (cc u.open_way)
tail_ends zero seen ts all s d (inr u) = closing_ends zero seen ts all s d u
tail_ends (suc room) seen ts all s d (inr u) = closing_ends (suc room) seen ts all s d u
tail_ends (suc room) seen ts all s d (inl m) = go (λ us x y k. tail_ends room m.is.value us all x y k)
  where
    go : ((us : List Piece) → Sizes (is_known m.is.value) m.is.value.written → AreDistinct (written_names m.is.value.written) → Params.TailText room m.is.value us all → Ends room m.is.value us all) → Ends (suc room) seen ts all
    go later =
        let b : Adds seen m.is.before m.is.value = param_adds room seen m.is.before m.is.value m.is.first in
        let names : written_names m.is.value.written ≡ written_names seen.written ++ (b.added.name ∷ []) = ap written_names b.adds ∙ Params.names_append seen.written b.added in
        let e : Ends room m.is.value m.is.after all = later m.is.after
        (subst (λ z. Sizes (is_known m.is.value) z) (sym b.adds) (sizes_append (is_known m.is.value) seen.written b.added (sizes_weaker (is_known seen) (is_known m.is.value) b.keeps seen.written s) b.size))
        (subst AreDistinct (sym names) (Naming.distinct_append (written_names seen.written) b.added.name d b.fresh))
        m.is.second in
        let text : ts ≡ sign.Comma at m.place ∷ (m.is.before ++ m.is.after) = m.split ∙ ap (λ z. sign.Comma at m.place ∷ z) m.is.split in
        let few : length e.added ≤ room = e.few in
        record {
          added = b.added ∷ e.added;
          whole = e.whole ∙ ap (λ z. z ++ e.added) b.adds ∙ append_assoc seen.written (b.added ∷ []) e.added;
          is = subst (λ z. IsRest z (b.added ∷ e.added)) (sym text) (goes_to m.is.before m.is.after b.added e.added m.place b.is e.is);
          few = omega arith;
          distinct = e.distinct;
          sizes = e.sizes;
        }
