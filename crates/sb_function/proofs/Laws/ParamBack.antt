-- What the grammar has as parameters, the readers read.
use Rattle.std.proofs.Common.{◌≡◌, ◌⊎◌, ◌≤◌, ℕ, zero, suc, Bool, true, false, not, ◌&&◌, List, [], ◌∷◌, ◌++◌, map, length, refl, sym, ap, ◌∙◌, inl, inr, subst, arith, append_assoc, append-nil, le-ltb}
use Rattle.sb_base.specs.declared.interning.Name.{Name}
use Rattle.sb_base.specs.declared.refusals.Place.{Place}
use Rattle.sb_parse.specs.Lawful.{Lawful, Joined, Mapped}
use Rattle.sb_parse.proofs.Joining.{never_next, in_order, via, map_of}
use Rattle.sb_function.specs.declared.lexeme.Lexeme.TheVariants as sign
use Rattle.sb_function.specs.declared.lexeme.Piece.{Piece}
use Rattle.sb_function.specs.declared.syntax.Param.{Param}
use Rattle.sb_function.specs.declared.written.Written.{Written}
use Rattle.sb_function.specs.declared.written.WrittenKind.{WrittenKind}
use Rattle.sb_function.specs.declared.written.WrittenKind.TheVariants.{Int, Unsigned, OutWrites}
use Rattle.sb_function.specs.Grammar.{◌at◌, same_name, is_among, AreDistinct, names_of, AreParams}
use Rattle.sb_function.specs.Params.{Seen, written_names, counts, has_number, without, is_known, pending_with, number_name, size_name, pointer_name, with_number, with_pointer, is_zero, placed, settled, params}
use Rattle.sb_function.proofs.Laws.Distinct.{same_name_is, same_name_refl}
use Rattle.sb_function.proofs.Laws.Naming
use Rattle.sb_function.proofs.Laws.Params
use Rattle.sb_function.proofs.Laws.ParamTexts.{IsWritten, wrote_int, wrote_unsigned, wrote_pointer, IsRest, closed_at, goes_to, sized, Sizes, sizes_weaker, Adds, param_adds, Ends, tail_ends}
use Rattle.sb_function.proofs.Laws.Settled.{params_placed, has_param, Unsettled, params_written, names_placed, has_placed, length_map}

abbrev next_by : Seen → Name → WrittenKind → Seen
next_by seen n Int = with_number seen Int n
next_by seen n Unsigned = with_number seen Unsigned n
next_by seen n (OutWrites size) = with_pointer seen size n

-- the state behind a parameter
abbrev next_seen : Seen → Written → Seen
next_seen seen w = next_by seen w.name w.kind

-- what holds of a state where these parameters are still to come
record Opens (seen : Seen) (rest : List Written) : Type 0 where
  distinct : AreDistinct (written_names (seen.written ++ rest))
  sizes : Sizes (λ s. has_number s (seen.written ++ rest)) rest
  pending : (m : Name) → is_among m seen.pending ≡ true → has_number m rest ≡ true
  apart : AreDistinct seen.pending

names_join : (us vs : List Written) → written_names (us ++ vs) ≡ written_names us ++ written_names vs
names_join [] vs = refl
names_join (u ∷ us) vs = ap (λ z. u.name ∷ z) (names_join us vs)

has_join : (n : Name) (us vs : List Written) → has_number n (us ++ vs) ≡ true → (has_number n us ≡ true) ⊎ (has_number n vs ≡ true)
has_join n [] vs h = inr h
has_join n (u ∷ us) vs h = elim (Naming.one_of (same_name n u.name && counts u.kind) (has_number n (us ++ vs)) h) [
  | inl e ↦ inl (Naming.or_first (same_name n u.name && counts u.kind) (has_number n us) e)
  | inr e ↦ elim (has_join n us vs e) [ inl f ↦ inl (Naming.or_second (same_name n u.name && counts u.kind) (has_number n us) f) | inr f ↦ inr f ]
]

has_among : (n : Name) (ws : List Written) → has_number n ws ≡ true → is_among n (written_names ws) ≡ true
has_among n [] h = absurd (cc h)
has_among n (w ∷ ws) h = elim (Naming.one_of (same_name n w.name && counts w.kind) (has_number n ws) h) [
  | inl e ↦ Naming.or_first (same_name n w.name) (is_among n (written_names ws)) (Naming.both_true (same_name n w.name) (counts w.kind) e).0
  | inr e ↦ Naming.or_second (same_name n w.name) (is_among n (written_names ws)) (has_among n ws e)
]

-- a number parameter is later, if it is not this one
has_later : (m : Name) (w : Written) (ws : List Written) → has_number m (w ∷ ws) ≡ true → (same_name m w.name && counts w.kind) ≡ false → has_number m ws ≡ true
has_later m w ws h k = elim (Naming.one_of (same_name m w.name && counts w.kind) (has_number m ws) h) [ inl e ↦ Naming.never_both (same_name m w.name && counts w.kind) e k | inr e ↦ e ]

and_first : (a b : Bool) → a ≡ false → (a && b) ≡ false
and_first a b h = ap (λ z. z && b) h

and_second : (a b : Bool) → b ≡ false → (a && b) ≡ false
and_second true b h = h
and_second false b h = refl

module _ (seen : Seen) (w : Written) (rest : List Written) (o : Opens seen (w ∷ rest)) where
  names_split : AreDistinct (written_names seen.written ++ (w.name ∷ written_names rest))
  names_split = subst AreDistinct (names_join seen.written (w ∷ rest)) o.distinct

  here_new : is_among w.name (written_names seen.written) ≡ false
  here_new = Naming.apart_back (written_names seen.written) (w.name ∷ written_names rest) w.name names_split (Naming.among_head w.name (written_names rest))

  -- a number parameter that is later is none of the names so far, nor this one
  later_new : (m : Name) → has_number m rest ≡ true → (is_among m (written_names seen.written) ≡ false) × (same_name m w.name ≡ false)
  later_new m h =
      let among : is_among m (written_names rest) ≡ true = has_among m rest h in
      let tail : AreDistinct (w.name ∷ written_names rest) = Naming.distinct_later (written_names seen.written) (w.name ∷ written_names rest) names_split in (
        Naming.apart_back (written_names seen.written) (w.name ∷ written_names rest) m names_split (Naming.or_second (same_name m w.name) (is_among m (written_names rest)) among),
        Naming.false_if (same_name m w.name) (λ e. Naming.never_both (is_among w.name (written_names rest)) (ap (λ z. is_among z (written_names rest)) (sym (same_name_is m w.name e)) ∙ among) tail.0),
      )

  -- what is pending behind a pointer is later
  pointer_pending : (size : Name) → w.kind ≡ OutWrites size → (m : Name) → is_among m (pending_with seen size) ≡ true → has_number m rest ≡ true
  pointer_pending size points m h = elim (Naming.true_or_false (is_known seen size)) [
    | inl e ↦ old (ap (is_among m) (sym (Params.with_known seen size e)) ∙ h)
    | inr e ↦ elim (Naming.one_of (same_name m size) (is_among m seen.pending) (ap (is_among m) (sym (Params.with_new seen size e)) ∙ h)) [
      | inl f ↦ ap (λ z. has_number z rest) (same_name_is m size f) ∙ fresh e
      | inr f ↦ old f
    ]
  ]
    where
      no_number : (n : Name) → (same_name n w.name && counts w.kind) ≡ false
      no_number n = and_second (same_name n w.name) (counts w.kind) (ap counts points)

      old : is_among m seen.pending ≡ true → has_number m rest ≡ true
      old k = has_later m w rest (o.pending m k) (no_number m)

      there : has_number size (seen.written ++ (w ∷ rest)) ≡ true
      there = subst (sized (λ s. has_number s (seen.written ++ (w ∷ rest)))) points o.sizes.0

      fresh : is_known seen size ≡ false → has_number size rest ≡ true
      fresh e = elim (has_join size seen.written (w ∷ rest) there) [
        | inl f ↦ Naming.never_both (has_number size seen.written) f (Naming.or_neither (has_number size seen.written) (is_among size seen.pending) e).0
        | inr f ↦ has_later size w rest f (no_number size)
      ]

  number_pending : (m : Name) → is_among m (without w.name seen.pending) ≡ true → has_number m rest ≡ true
  number_pending m h = has_later m w rest (o.pending m (Naming.without_in w.name m seen.pending h)) (and_first (same_name m w.name) (counts w.kind) (Naming.false_if (same_name m w.name) (λ e.
      Naming.never_both (is_among w.name (without w.name seen.pending)) (ap (λ z. is_among z (without w.name seen.pending)) (sym (same_name_is m w.name e)) ∙ h) (Naming.gone_without w.name seen.pending o.apart))))

  opens_as : (s : Seen) → s.written ≡ seen.written ++ (w ∷ []) → ((m : Name) → is_among m s.pending ≡ true → has_number m rest ≡ true) → AreDistinct s.pending → Opens s rest
  opens_as s e pending apart =
      let whole : s.written ++ rest ≡ seen.written ++ (w ∷ rest) = ap (λ z. z ++ rest) e ∙ append_assoc seen.written (w ∷ []) rest in
      record { distinct = subst (λ z. AreDistinct (written_names z)) (sym whole) o.distinct; sizes = subst (λ z. Sizes (λ s. has_number s z) rest) (sym whole) o.sizes.1; pending = pending; apart = apart }

  pointer_apart : (size : Name) → AreDistinct (pending_with seen size)
  pointer_apart size = elim (Naming.true_or_false (is_known seen size)) [
    | inl e ↦ subst AreDistinct (sym (Params.with_known seen size e)) o.apart
    | inr e ↦ subst AreDistinct (sym (Params.with_new seen size e)) ((Naming.or_neither (has_number size seen.written) (is_among size seen.pending) e).1, o.apart)
  ]

  pointer_longer : (size : Name) → length seen.pending ≤ length (pending_with seen size)
  pointer_longer size = elim (Naming.true_or_false (is_known seen size)) [
    | inl e ↦ subst (λ z. length seen.pending ≤ length z) (sym (Params.with_known seen size e)) (omega arith)
    | inr e ↦ subst (λ z. length seen.pending ≤ length z) (sym (Params.with_new seen size e)) (omega arith)
  ]

opens_next : (seen : Seen) (n : Name) (k : WrittenKind) (rest : List Written) → Opens seen (record { name = n; kind = k } ∷ rest) → Opens (next_by seen n k) rest
opens_next seen n Int rest o = opens_as seen (record { name = n; kind = Int }) rest o (with_number seen Int n) refl (number_pending seen (record { name = n; kind = Int }) rest o) (Naming.distinct_without n seen.pending o.apart)
opens_next seen n Unsigned rest o = opens_as seen (record { name = n; kind = Unsigned }) rest o (with_number seen Unsigned n) refl (number_pending seen (record { name = n; kind = Unsigned }) rest o) (Naming.distinct_without n seen.pending o.apart)
opens_next seen n (OutWrites size) rest o = opens_as seen (record { name = n; kind = OutWrites size }) rest o (with_pointer seen size n) refl
    (pointer_pending seen (record { name = n; kind = OutWrites size }) rest o size refl) (pointer_apart seen (record { name = n; kind = OutWrites size }) rest o size)

shrinks : (seen : Seen) (n : Name) (k : WrittenKind) (rest : List Written) → Opens seen (record { name = n; kind = k } ∷ rest) → length seen.pending ≤ suc (length (next_by seen n k).pending)
shrinks seen n Int rest o = Naming.length_without n seen.pending
shrinks seen n Unsigned rest o = Naming.length_without n seen.pending
shrinks seen n (OutWrites size) rest o = let more : length seen.pending ≤ length (pending_with seen size) = pointer_longer seen (record { name = n; kind = OutWrites size }) rest o size in omega arith

-- there are at least as many parameters to come as sizes are pending
enough : (rest : List Written) (seen : Seen) → Opens seen rest → length seen.pending ≤ length rest
enough [] seen o = none seen.pending o.pending
  where
    none : (p : List Name) → ((m : Name) → is_among m p ≡ true → has_number m [] ≡ true) → length p ≤ 0
    none [] h = omega arith
    none (x ∷ p) h = absurd (cc (h x (Naming.among_head x p)))
enough (w ∷ rest) seen o =
    let later : length (next_seen seen w).pending ≤ length rest = enough rest (next_seen seen w) (opens_next seen w.name w.kind rest o) in
    let most : length seen.pending ≤ suc (length (next_seen seen w).pending) = shrinks seen w.name w.kind rest o in
    omega arith

number_back : (room : ℕ) (seen : Seen) (n : Name) (k : WrittenKind) (rest : List Written) → Opens seen (record { name = n; kind = k } ∷ rest) → length (without n seen.pending) ≤ length rest → length rest ≤ room → number_name room seen n ≡ true
number_back room seen n k rest o most few = Params.is_number room seen n (
  here_new seen (record { name = n; kind = k }) rest o,
  elim (Naming.true_or_false (is_among n seen.pending)) [
    | inl e ↦ inl e
    | inr e ↦ (let same : length (without n seen.pending) ≡ length seen.pending = Naming.same_without n seen.pending e in inr (omega arith))
  ],
)

param_back : (room : ℕ) (seen : Seen) (ts : List Piece) (w : Written) (rest : List Written) → Opens seen (w ∷ rest) → length rest ≤ room → IsWritten ts w → Params.ParamText room seen ts (next_seen seen w)
param_back room seen _ _ rest o few (wrote_int n p q) =
    let most : length (without n seen.pending) ≤ length rest = enough rest (with_number seen Int n) (opens_next seen n Int rest o) in
    inl (record {
      place = p;
      rest = sign.Named n at q ∷ [];
      split = refl;
      is = record { value = n; is = record { token = sign.Named n at q; alone = refl; is = Params.names_it (number_name room seen) n q (number_back room seen n Int rest o most few) }; same = refl };
    })
param_back room seen _ _ rest o few (wrote_unsigned n p q r) =
    let most : length (without n seen.pending) ≤ length rest = enough rest (with_number seen Unsigned n) (opens_next seen n Unsigned rest o) in
    inr (inl (record {
      place = p;
      rest = sign.Int at q ∷ sign.Named n at r ∷ [];
      split = refl;
      is = record {
        place = q;
        rest = sign.Named n at r ∷ [];
        split = refl;
        is = record { value = n; is = record { token = sign.Named n at r; alone = refl; is = Params.names_it (number_name room seen) n r (number_back room seen n Unsigned rest o most few) }; same = refl };
      };
    }))
param_back room seen _ _ rest o few (wrote_pointer n size p q r s t u v) =
    let w : Written = record { name = n; kind = OutWrites size } in
    let most : length (pending_with seen size) ≤ length rest = enough rest (with_pointer seen size n) (opens_next seen n (OutWrites size) rest o) in
    let longer : length seen.pending ≤ length (pending_with seen size) = pointer_longer seen w rest o size in
    let fits : Params.SizeIs room seen size = elim (Naming.true_or_false (is_known seen size)) [
      | inl e ↦ inl e
      | inr e ↦ (let new : pending_with seen size ≡ size ∷ seen.pending = Params.with_new seen size e in
          let less : suc (length seen.pending) ≤ length rest = subst (λ z. length z ≤ length rest) new most in
          let later : has_number size rest ≡ true = pointer_pending seen w rest o size refl size (ap (is_among size) new ∙ Naming.among_head size seen.pending) in
          inr ((later_new seen w rest o size later).0, omega arith))
    ] in
    let apart : is_among n (pending_with seen size) ≡ false = Naming.false_if (is_among n (pending_with seen size)) (λ e.
    Naming.never_both (same_name n n) (same_name_refl n) (later_new seen w rest o n (pointer_pending seen w rest o size refl n e)).1) in
    inr (inr (record {
      open_way = le-ltb room (length seen.pending) (omega arith);
      is = record {
        place = p;
        rest = sign.OpenParenthesis at q ∷ sign.Named size at r ∷ sign.CloseParenthesis at s ∷ sign.Int at t ∷ sign.Star at u ∷ sign.Named n at v ∷ [];
        split = refl;
        is = record {
          place = q;
          rest = sign.Named size at r ∷ sign.CloseParenthesis at s ∷ sign.Int at t ∷ sign.Star at u ∷ sign.Named n at v ∷ [];
          split = refl;
          is = record {
            opening = sign.Named size at r;
            value = size;
            rest = sign.CloseParenthesis at s ∷ sign.Int at t ∷ sign.Star at u ∷ sign.Named n at v ∷ [];
            split = refl;
            gives_it = Params.names_it (size_name room seen) size r (Params.is_size room seen size fits);
            is = record {
              place = s;
              rest = sign.Int at t ∷ sign.Star at u ∷ sign.Named n at v ∷ [];
              split = refl;
              is = record {
                place = t;
                rest = sign.Star at u ∷ sign.Named n at v ∷ [];
                split = refl;
                is = record {
                  place = u;
                  rest = sign.Named n at v ∷ [];
                  split = refl;
                  is = record {
                    opening = sign.Named n at v;
                    value = n;
                    rest = [];
                    split = refl;
                    gives_it = Params.names_it (pointer_name seen size) n v (Params.is_pointer seen size n (here_new seen w rest o, apart));
                    is = record { none = refl; same = refl };
                  };
                };
              };
            };
          };
        };
      };
    }))

written_next : (seen : Seen) (n : Name) (k : WrittenKind) → (next_by seen n k).written ≡ seen.written ++ (record { name = n; kind = k } ∷ [])
written_next seen n Int = refl
written_next seen n Unsigned = refl
written_next seen n (OutWrites size) = refl

closing_back : (seen : Seen) (p : Place) → Opens seen [] → Params.ClosingText seen (sign.CloseParenthesis at p ∷ []) (seen.written ++ [])
closing_back seen p o = record { open_way = ap not (none (length seen.pending) (enough [] seen o)); is = record { place = p; rest = []; split = refl; is = record { none = refl; same = append-nil seen.written } } }
  where
    none : (k : ℕ) → k ≤ 0 → is_zero k ≡ true
    none zero h = refl
    none (suc k) h = absurd (omega arith)

tail_back : (room : ℕ) (seen : Seen) (ts : List Piece) (rest : List Written) → Opens seen rest → length rest ≤ room → IsRest ts rest → Params.TailText room seen ts (seen.written ++ rest)
tail_back zero seen _ _ o few (closed_at p) = inr (closing_back seen p o)
tail_back (suc room) seen _ _ o few (closed_at p) = inr (closing_back seen p o)
tail_back zero seen _ _ o few (goes_to xs ys w ws p is rest) = absurd (omega arith)
tail_back (suc room) seen _ _ o few (goes_to xs ys w ws p is rest) =
    let less : length ws ≤ room = omega arith in
    let whole : (next_seen seen w).written ++ ws ≡ seen.written ++ (w ∷ ws) = ap (λ z. z ++ ws) (written_next seen w.name w.kind) ∙ append_assoc seen.written (w ∷ []) ws in
    inl (record {
      place = p;
      rest = xs ++ ys;
      split = refl;
      is = record {
        before = xs;
        after = ys;
        value = next_seen seen w;
        split = refl;
        first = param_back room seen xs w ws o less is;
        second = subst (Params.TailText room (next_seen seen w) ys) whole (tail_back room (next_seen seen w) ys ws (opens_next seen w.name w.kind ws o) less rest);
      };
    })

-- ---- the parameters of a function, up to the parenthesis behind them

pub record ParamsText (ts : List Piece) (ps : List Param) : Type 0 where
  pub front : List Piece
  pub place : Place
  pub split : ts ≡ front ++ (sign.CloseParenthesis at place ∷ [])
  pub are : AreParams ps front ps
  pub few : length ps ≤ 32
  pub distinct : AreDistinct (names_of ps)

abbrev none_yet : Seen
none_yet = record { written = []; pending = [] }

abbrev ReadText : List Piece → List Param → Type 0
ReadText = Mapped settled (Joined (Params.ParamText 31 none_yet) (Params.TailText 31))

to_params : (ts : List Piece) (ps : List Param) → ReadText ts ps → ParamsText ts ps
to_params ts ps m =
    let a : Adds none_yet m.is.before m.is.value = param_adds 31 none_yet m.is.before m.is.value m.is.first in
    let alone : m.is.value.written ≡ a.added ∷ [] = a.adds in
    let e : Ends 31 m.is.value m.is.after m.value = tail_ends 31 m.is.value m.is.after m.value (subst (Sizes (is_known m.is.value)) (sym alone) (a.size, tt)) (subst (λ z. AreDistinct (written_names z)) (sym alone) (refl, tt)) m.is.second in
    let all : m.value ≡ a.added ∷ e.added = e.whole ∙ ap (λ z. z ++ e.added) alone in
    let sizes : Sizes (λ s. has_number s m.value) (a.added ∷ e.added) = subst (Sizes (λ s. has_number s m.value)) all e.sizes in
    let p : (zs : List Piece) × (p : Place) × (m.is.before ++ m.is.after ≡ zs ++ (sign.CloseParenthesis at p ∷ [])) × AreParams (settled m.value) zs (map (placed (written_names m.value)) (a.added ∷ e.added))
    = params_placed m.value e.distinct m.is.before m.is.after a.added e.added a.is e.is sizes in
    let few : length e.added ≤ 31 = e.few in
    let size : length (settled m.value) ≡ suc (length e.added) = length_map (placed (written_names m.value)) m.value ∙ ap length all in
    subst (ParamsText ts) (sym m.same) (record {
      front = p.0;
      place = p.1;
      split = m.is.split ∙ p.2;
      are = subst (λ z. AreParams (settled m.value) p.0 (map (placed (written_names m.value)) z)) (sym all) p.3;
      few = omega arith;
      distinct = subst AreDistinct (sym (names_placed (written_names m.value) m.value)) e.distinct;
    })

from_params : (ts : List Piece) (ps : List Param) → ParamsText ts ps → ReadText ts ps
from_params ts ps t =
    let u : Unsettled ps (t.front ++ (sign.CloseParenthesis at t.place ∷ [])) ps = params_written ps t.distinct t.front ps t.place t.are in
    let ws : List Written = u.first ∷ u.rest in
    let names : names_of ps ≡ written_names ws = ap names_of u.same ∙ names_placed (names_of ps) ws in
    let settles : ps ≡ settled ws = u.same ∙ ap (λ z. map (placed z) ws) names in
    let sizes : Sizes (λ s. has_number s ws) ws = sizes_weaker (λ s. has_param s ps) (λ s. has_number s ws) (λ s h. sym (has_placed (names_of ps) s ws) ∙ ap (has_param s) (sym u.same) ∙ h) ws u.sizes in
    let few : length ps ≤ 32 = t.few in
    let size : length ps ≡ suc (length u.rest) = ap length u.same ∙ length_map (placed (names_of ps)) ws in
    let o : Opens none_yet ws = record { distinct = subst AreDistinct names t.distinct; sizes = sizes; pending = λ m h. absurd (cc h); apart = tt } in
    let less : length u.rest ≤ 31 = omega arith in
    let first : Opens (next_seen none_yet u.first) u.rest = opens_next none_yet u.first.name u.first.kind u.rest o in
    let whole : (next_seen none_yet u.first).written ++ u.rest ≡ ws = ap (λ z. z ++ u.rest) (written_next none_yet u.first.name u.first.kind) in
    record {
      value = ws;
      same = settles;
      is = record {
        before = u.first_text;
        after = u.rest_text;
        value = next_seen none_yet u.first;
        split = t.split ∙ u.split;
        first = param_back 31 none_yet u.first_text u.first u.rest o less u.first_is;
        second = subst (Params.TailText 31 (next_seen none_yet u.first) u.rest_text) whole (tail_back 31 (next_seen none_yet u.first) u.rest_text u.rest first less u.rest_is);
      };
    }

pub params_law : Lawful ParamsText Params.still params
unfolding params
params_law =
    via (map_of (in_order {Second = Params.TailText 31} (Params.param_law 31 none_yet start) (λ xs s is. Params.tail_law 31 s (Params.good_after 31 none_yet start xs s is)) (λ xs s ys b rest u v e. never_next (ys ++ rest)))
    settled Params.still (λ a t. refl))
    to_params from_params params (λ ts. refl)
  where
    start : Params.Good 32 none_yet
    start = record { fits = omega arith; apart = λ n h. absurd (cc h); distinct = tt; sizes = inr (omega arith) }
