-- The readers of parameters keep the laws, as long as the places that are left can give all sizes that are pending.
use Rattle.std.proofs.Common.{◌≡◌, ◌⊎◌, ◌≤◌, ◌<◌, ℕ, zero, suc, Bool, true, false, not, ◌||◌, ◌&&◌, List, [], ◌∷◌, ◌++◌, length, Some, None, nat_le, nat_lt, if◌then◌else◌, refl, sym, ap, ◌∙◌, inl, inr, subst, arith, le-leb, leb-true, lt-ltb, ltb-true, ltb-false}
use Rattle.sb_base.specs.declared.interning.Name.{Name}
use Rattle.sb_parse.specs.Parser.{never, ◌>>=◌, pure}
use Rattle.sb_parse.specs.Lawful.{Lawful, OnHead, Joined, IsValue, Begun, IsEmpty, Mapped, Unbarred, Either}
use Rattle.sb_parse.proofs.Joining.{never_next, in_order, nothing, map_of, one_value}
use Rattle.sb_parse.proofs.Heads.{begun, headed, guarded, either_of, only_of}
use Rattle.sb_function.specs.declared.lexeme.Lexeme.{Lexeme}
use Rattle.sb_function.specs.declared.lexeme.Lexeme.TheVariants as sign
use Rattle.sb_function.specs.declared.lexeme.Piece.{Piece}
use Rattle.sb_function.specs.declared.written.Written.{Written}
use Rattle.sb_function.specs.declared.written.WrittenKind.{WrittenKind}
use Rattle.sb_function.specs.declared.written.WrittenKind.TheVariants.{Int, Unsigned, OutWrites}
use Rattle.sb_function.specs.Grammar.{◌at◌, same_name, is_among, AreDistinct}
use Rattle.sb_function.specs.Marks.{misplaced, is_mark, mark, name_of}
use Rattle.sb_function.specs.Params.{Seen, written_names, counts, has_number, without, is_known, pending_with, number_name, size_name, pointer_name, name_if, named, with_number, with_pointer, number_param, pointer_param, param, is_zero, closing, params_after}
use Rattle.sb_function.proofs.Laws.Distinct.{same_name_is, same_name_refl}
use Rattle.sb_function.proofs.Laws.Pieces.{nowhere, mark_elsewhere, Marked, marked, marked_heads}
use Rattle.sb_function.proofs.Laws.Naming

-- nothing that these readers read goes on by itself
abbrev pub still : {A : Type 0} → A → Piece → Bool
still a = never

-- ---- a name that passes a test

pub names_it : (test : Name → Bool) (n : Name) (p : _) → test n ≡ true → named test (sign.Named n at p) ≡ Some n
names_it test n p h = ap (λ b. if b then Some n else None) h

pub named_is : (test : Name → Bool) (t : Piece) (n : Name) → named test t ≡ Some n → (t ≡ (sign.Named n at t.place)) × (test n ≡ true)
named_is test t n h = by_lexeme t.lexeme refl h
  where
    kept : (m : Name) (b : Bool) → t.lexeme ≡ sign.Named m → test m ≡ b → (if b then Some m else None) ≡ Some n → (t ≡ (sign.Named n at t.place)) × (test n ≡ true)
    kept m true l e w = let same : m ≡ n = cc w in (ap (λ z. z at t.place) (l ∙ ap sign.Named same), ap test (sym same) ∙ e)
    kept m false l e w = absurd (cc w)

    by_lexeme : (l : Lexeme) → t.lexeme ≡ l → name_if test (name_of l) ≡ Some n → (t ≡ (sign.Named n at t.place)) × (test n ≡ true)
    by_lexeme (sign.Named m) e w = kept m (test m) e refl w
    by_lexeme _ e w = absurd (cc w)

-- ---- what holds of the parameters so far, where `slots` more may come

pub record Good (slots : ℕ) (seen : Seen) : Type 0 where
  pub fits : length seen.pending ≤ slots
  pub apart : (n : Name) → is_among n seen.pending ≡ true → is_among n (written_names seen.written) ≡ false
  pub distinct : AreDistinct seen.pending
  -- there is a name for the size of a pointer
  pub sizes : ((n : Name) × (is_known seen n ≡ true)) ⊎ (suc (length seen.pending) < slots)

pub names_append : (ws : List Written) (w : Written) → written_names (ws ++ (w ∷ [])) ≡ written_names ws ++ (w.name ∷ [])
names_append [] w = refl
names_append (v ∷ ws) w = ap (λ z. v.name ∷ z) (names_append ws w)

pub has_append : (n : Name) (ws : List Written) (w : Written) → has_number n ws ≡ true → has_number n (ws ++ (w ∷ [])) ≡ true
has_append n [] w h = absurd (cc h)
has_append n (v ∷ ws) w h = elim (Naming.one_of (same_name n v.name && counts v.kind) (has_number n ws) h) [
  | inl e ↦ Naming.or_first (same_name n v.name && counts v.kind) (has_number n (ws ++ (w ∷ []))) e
  | inr e ↦ Naming.or_second (same_name n v.name && counts v.kind) (has_number n (ws ++ (w ∷ []))) (has_append n ws w e)
]

pub has_last : (n : Name) (ws : List Written) (k : WrittenKind) → counts k ≡ true → has_number n (ws ++ (record { name = n; kind = k } ∷ [])) ≡ true
has_last n [] k h = Naming.or_first (same_name n n && counts k) false (Naming.and_both (same_name n n) (counts k) (same_name_refl n) h)
has_last n (v ∷ ws) k h = Naming.or_second (same_name n v.name && counts v.kind) (has_number n (ws ++ (record { name = n; kind = k } ∷ []))) (has_last n ws k h)

not_last : (ws : List Written) (w : Written) (m : Name) → is_among m (written_names ws) ≡ false → same_name m w.name ≡ false → is_among m (written_names (ws ++ (w ∷ []))) ≡ false
not_last ws w m h k = Naming.false_if (is_among m (written_names (ws ++ (w ∷ [])))) (λ e.
    elim (Naming.among_either m (written_names ws) (w.name ∷ []) (ap (is_among m) (sym (names_append ws w)) ∙ e)) [
      | inl f ↦ Naming.never_both (is_among m (written_names ws)) f h
      | inr f ↦ Naming.never_both (same_name m w.name) (sym (ap (same_name m) (Naming.among_one m w.name f)) ∙ same_name_refl m) k
    ])

abbrev pub NumberIs : ℕ → Seen → Name → Type 0
NumberIs room seen n = (is_among n (written_names seen.written) ≡ false) × ((is_among n seen.pending ≡ true) ⊎ (length seen.pending ≤ room))

pub number_is : (room : ℕ) (seen : Seen) (n : Name) → number_name room seen n ≡ true → NumberIs room seen n
number_is room seen n h =
    let two : (not (is_among n (written_names seen.written)) ≡ true) × ((is_among n seen.pending || nat_le (length seen.pending) room) ≡ true) = Naming.both_true _ _ h in
    (Naming.not_true _ two.0, elim (Naming.one_of (is_among n seen.pending) (nat_le (length seen.pending) room) two.1) [ inl e ↦ inl e | inr e ↦ inr (leb-true _ _ e) ])

pub is_number : (room : ℕ) (seen : Seen) (n : Name) → NumberIs room seen n → number_name room seen n ≡ true
is_number room seen n h = Naming.and_both (not (is_among n (written_names seen.written))) (is_among n seen.pending || nat_le (length seen.pending) room) (ap not h.0)
    (elim h.1 [ inl e ↦ Naming.or_first (is_among n seen.pending) (nat_le (length seen.pending) room) e | inr e ↦ Naming.or_second (is_among n seen.pending) (nat_le (length seen.pending) room) (le-leb (length seen.pending) room e) ])

abbrev pub SizeIs : ℕ → Seen → Name → Type 0
SizeIs room seen n = (is_known seen n ≡ true) ⊎ ((is_among n (written_names seen.written) ≡ false) × (length seen.pending < room))

pub size_is : (room : ℕ) (seen : Seen) (n : Name) → size_name room seen n ≡ true → SizeIs room seen n
size_is room seen n h = elim (Naming.one_of (is_known seen n) (not (is_among n (written_names seen.written)) && nat_lt (length seen.pending) room) h) [
  | inl e ↦ inl e
  | inr e ↦ (let two : (not (is_among n (written_names seen.written)) ≡ true) × (nat_lt (length seen.pending) room ≡ true) = Naming.both_true _ _ e in inr (Naming.not_true _ two.0, ltb-true _ _ two.1))
]

pub is_size : (room : ℕ) (seen : Seen) (n : Name) → SizeIs room seen n → size_name room seen n ≡ true
is_size room seen n (inl e) = Naming.or_first (is_known seen n) (not (is_among n (written_names seen.written)) && nat_lt (length seen.pending) room) e
is_size room seen n (inr e) = Naming.or_second (is_known seen n) (not (is_among n (written_names seen.written)) && nat_lt (length seen.pending) room)
    (Naming.and_both (not (is_among n (written_names seen.written))) (nat_lt (length seen.pending) room) (ap not e.0) (lt-ltb (length seen.pending) room e.1))

abbrev pub PointerIs : Seen → Name → Name → Type 0
PointerIs seen size n = (is_among n (written_names seen.written) ≡ false) × (is_among n (pending_with seen size) ≡ false)

pub pointer_is : (seen : Seen) (size n : Name) → pointer_name seen size n ≡ true → PointerIs seen size n
pointer_is seen size n h =
    let two : (not (is_among n (written_names seen.written)) ≡ true) × (not (is_among n (pending_with seen size)) ≡ true) = Naming.both_true _ _ h in
    (Naming.not_true _ two.0, Naming.not_true _ two.1)

pub is_pointer : (seen : Seen) (size n : Name) → PointerIs seen size n → pointer_name seen size n ≡ true
is_pointer seen size n h = Naming.and_both (not (is_among n (written_names seen.written))) (not (is_among n (pending_with seen size))) (ap not h.0) (ap not h.1)

-- ---- what a size adds

pub with_known : (seen : Seen) (size : Name) → is_known seen size ≡ true → pending_with seen size ≡ seen.pending
with_known seen size h = ap (λ b. if b then seen.pending else size ∷ seen.pending) h

pub with_new : (seen : Seen) (size : Name) → is_known seen size ≡ false → pending_with seen size ≡ size ∷ seen.pending
with_new seen size h = ap (λ b. if b then seen.pending else size ∷ seen.pending) h

-- the size is known then, and so is each that was
pub known_then : (seen : Seen) (size n : Name) → is_known (with_pointer seen size n) size ≡ true
known_then seen size n = go (is_known seen size) refl
  where
    go : (b : Bool) → is_known seen size ≡ b → is_known (with_pointer seen size n) size ≡ true
    go true h = elim (Naming.one_of (has_number size seen.written) (is_among size seen.pending) h) [
      | inl e ↦ Naming.or_first (has_number size (seen.written ++ (record { name = n; kind = OutWrites size } ∷ []))) (is_among size (pending_with seen size)) (has_append size seen.written (record { name = n; kind = OutWrites size }) e)
      | inr e ↦ Naming.or_second (has_number size (seen.written ++ (record { name = n; kind = OutWrites size } ∷ []))) (is_among size (pending_with seen size)) (ap (is_among size) (with_known seen size h) ∙ e)
    ]
    go false h = Naming.or_second (has_number size (seen.written ++ (record { name = n; kind = OutWrites size } ∷ []))) (is_among size (pending_with seen size)) (ap (is_among size) (with_new seen size h) ∙ Naming.among_head size seen.pending)

-- ---- what holds after a parameter

pub good_number : (room : ℕ) (seen : Seen) (k : WrittenKind) (n : Name) → counts k ≡ true → Good (suc room) seen → NumberIs room seen n → Good room (with_number seen k n)
good_number room seen k n c g is = record {
  fits = elim is.1 [
    | inl e ↦ (let less : suc (length (without n seen.pending)) ≡ length seen.pending = Naming.shorter_without n seen.pending e in let most : length seen.pending ≤ suc room = g.fits in omega arith)
    | inr e ↦ elim (Naming.true_or_false (is_among n seen.pending)) [
      | inl f ↦ (let less : suc (length (without n seen.pending)) ≡ length seen.pending = Naming.shorter_without n seen.pending f in omega arith)
      | inr f ↦ (let same : length (without n seen.pending) ≡ length seen.pending = Naming.same_without n seen.pending f in omega arith)
    ]
  ];
  apart = λ m h. not_last seen.written (record { name = n; kind = k }) m (g.apart m (Naming.without_in n m seen.pending h)) (Naming.false_if (same_name m n) (λ e.
      Naming.never_both (is_among n (without n seen.pending)) (ap (λ z. is_among z (without n seen.pending)) (sym (same_name_is m n e)) ∙ h) (Naming.gone_without n seen.pending g.distinct)));
  distinct = Naming.distinct_without n seen.pending g.distinct;
  sizes = inl (n, Naming.or_first (has_number n (seen.written ++ (record { name = n; kind = k } ∷ []))) (is_among n (without n seen.pending)) (has_last n seen.written k c));
}

pub good_pointer : (room : ℕ) (seen : Seen) (size n : Name) → Good (suc room) seen → length seen.pending ≤ room → SizeIs room seen size → PointerIs seen size n → Good room (with_pointer seen size n)
good_pointer room seen size n g most is points = go (is_known seen size) refl
  where
    others : (m : Name) → is_among m (pending_with seen size) ≡ true → is_among m (written_names seen.written) ≡ false → is_among m (written_names (seen.written ++ (record { name = n; kind = OutWrites size } ∷ []))) ≡ false
    others m h k = not_last seen.written (record { name = n; kind = OutWrites size }) m k (Naming.false_if (same_name m n) (λ e.
        Naming.never_both (is_among n (pending_with seen size)) (ap (λ z. is_among z (pending_with seen size)) (sym (same_name_is m n e)) ∙ h) points.1))

    new_size : is_known seen size ≡ false → (is_among size (written_names seen.written) ≡ false) × (length seen.pending < room)
    new_size h = elim is [ inl e ↦ Naming.never_both (is_known seen size) e h | inr e ↦ e ]

    go : (b : Bool) → is_known seen size ≡ b → Good room (with_pointer seen size n)
    go true h = record {
      fits = subst (λ z. length z ≤ room) (sym (with_known seen size h)) most;
      apart = λ m e. others m e (g.apart m (ap (is_among m) (sym (with_known seen size h)) ∙ e));
      distinct = subst AreDistinct (sym (with_known seen size h)) g.distinct;
      sizes = inl (size, known_then seen size n);
    }
    go false h =
        let not_in : is_among size seen.pending ≡ false = (Naming.or_neither (has_number size seen.written) (is_among size seen.pending) h).1 in
        record {
          fits = subst (λ z. length z ≤ room) (sym (with_new seen size h)) (new_size h).1;
          apart = λ m e. others m e (elim (Naming.one_of (same_name m size) (is_among m seen.pending) (ap (is_among m) (sym (with_new seen size h)) ∙ e)) [
            | inl f ↦ ap (λ z. is_among z (written_names seen.written)) (same_name_is m size f) ∙ (new_size h).0
            | inr f ↦ g.apart m f
          ]);
          distinct = subst AreDistinct (sym (with_new seen size h)) (not_in, g.distinct);
          sizes = inl (size, known_then seen size n);
        }

-- ---- names that there are

some_number : (room : ℕ) (seen : Seen) → Good (suc room) seen → (n : Name) × (number_name room seen n ≡ true)
some_number room seen g = go seen.pending refl
  where
    go : (p : List Name) → seen.pending ≡ p → (n : Name) × (number_name room seen n ≡ true)
    go [] e = (Naming.new_to (written_names seen.written), is_number room seen (Naming.new_to (written_names seen.written)) (Naming.is_new (written_names seen.written), inr (subst (λ z. length z ≤ room) (sym e) (omega arith))))
    go (m ∷ rest) e =
        let among : is_among m seen.pending ≡ true = ap (is_among m) e ∙ Naming.among_head m rest in
        (m, is_number room seen m (g.apart m among, inl among))

some_size : (room : ℕ) (seen : Seen) → Good (suc room) seen → (n : Name) × (size_name room seen n ≡ true)
some_size room seen g = elim g.sizes [
  | inl e ↦ (e.0, is_size room seen e.0 (inl e.1))
  | inr e ↦ (Naming.new_to (written_names seen.written), is_size room seen (Naming.new_to (written_names seen.written)) (inr (Naming.is_new (written_names seen.written), (let less : suc (length seen.pending) < suc room = e in omega arith))))
]

some_pointer : (seen : Seen) (size : Name) → (n : Name) × (pointer_name seen size n ≡ true)
some_pointer seen size =
    let all : List Name = written_names seen.written ++ pending_with seen size in
    let fresh : is_among (Naming.new_to all) all ≡ false = Naming.is_new all in (
      Naming.new_to all,
      is_pointer seen size (Naming.new_to all) (
        Naming.false_if _ (λ e. Naming.never_both (is_among (Naming.new_to all) all) (Naming.among_append (Naming.new_to all) (written_names seen.written) (pending_with seen size) e) fresh),
        Naming.false_if _ (λ e. Naming.never_both (is_among (Naming.new_to all) all) (Naming.among_later (Naming.new_to all) (written_names seen.written) (pending_with seen size) e) fresh),
      ),
    )

-- ---- the readers

module _ (room : ℕ) (seen : Seen) where
  abbrev pub NumberText : WrittenKind → List Piece → Seen → Type 0
  NumberText k = Mapped (with_number seen k) (IsValue (named (number_name room seen)))

  number_text : Good (suc room) seen → (k : WrittenKind) → Lawful (NumberText k) still (number_param room seen k)
  unfolding number_param
  number_text g k =
      let n : (n : Name) × (number_name room seen n ≡ true) = some_number room seen g in
      map_of (one_value misplaced (named (number_name room seen)) (sign.Named n.0 at nowhere) n.0 (names_it (number_name room seen) n.0 nowhere n.1)) (with_number seen k) still (λ a t. refl)

  abbrev pub PointerText : List Piece → Seen → Type 0
  PointerText =
      Marked sign.OutWrites (λ p. Marked sign.OpenParenthesis (λ q. Begun (named (size_name room seen)) (λ size.
      Marked sign.CloseParenthesis (λ r. Marked sign.Int (λ s. Marked sign.Star (λ t. Begun (named (pointer_name seen size)) (λ n. IsEmpty (with_pointer seen size n))))))))

  pointer_text : Good (suc room) seen → Lawful PointerText still (pointer_param room seen)
  unfolding pointer_param
  pointer_text g =
      let s : (n : Name) × (size_name room seen n ≡ true) = some_size room seen g in
      marked sign.OutWrites refl (marked sign.OpenParenthesis refl (
      begun misplaced (named (size_name room seen)) (sign.Named s.0 at nowhere) s.0 (names_it (size_name room seen) s.0 nowhere s.1) (λ x size ok.
      marked sign.CloseParenthesis refl (marked sign.Int refl (marked sign.Star refl (
      begun misplaced (named (pointer_name seen size)) (sign.Named (some_pointer seen size).0 at nowhere) (some_pointer seen size).0
      (names_it (pointer_name seen size) (some_pointer seen size).0 nowhere (some_pointer seen size).1) (λ y n fine. nothing (with_pointer seen size n))))))))

  abbrev pub ParamText : List Piece → Seen → Type 0
  ParamText = Either (Marked sign.Int (λ p. NumberText Int)) (Either (Marked sign.Unsigned (λ p. Marked sign.Int (λ q. NumberText Unsigned))) (Unbarred (nat_lt room (length seen.pending)) PointerText))

  pub param_law : Good (suc room) seen → Lawful ParamText still (param room seen)
  unfolding param
  param_law g =
      let int : Lawful (Marked sign.Int (λ p. NumberText Int)) still (mark sign.Int (number_param room seen Int)) = marked sign.Int refl (number_text g Int) in
      only_of misplaced
      (either_of (headed int (is_mark sign.Int) (marked_heads sign.Int))
      (either_of (headed (marked sign.Unsigned refl (marked sign.Int refl (number_text g Unsigned))) (is_mark sign.Unsigned) (marked_heads sign.Unsigned))
      (guarded (nat_lt room (length seen.pending)) misplaced (λ w. headed (pointer_text g) (is_mark sign.OutWrites) (marked_heads sign.OutWrites)))
      (λ t h. mark_elsewhere sign.Unsigned sign.OutWrites t refl h))
      (λ t h. elim (Naming.one_of (is_mark sign.Unsigned t) (is_mark sign.OutWrites t) h) [ inl e ↦ mark_elsewhere sign.Int sign.Unsigned t refl e | inr e ↦ mark_elsewhere sign.Int sign.OutWrites t refl e ]))
      int.some.0 int.some.1 (inl int.some.2)

  value_test : (test : Name → Bool) (ts : List Piece) (n : Name) → IsValue (named test) ts n → test n ≡ true
  value_test test ts n v = (named_is test v.token n v.is).1

  pub good_after : Good (suc room) seen → (ts : List Piece) (s : Seen) → ParamText ts s → Good room s
  good_after g ts s (inl m) = subst (Good room) (sym m.is.same) (good_number room seen Int m.is.value refl g (number_is room seen m.is.value (value_test (number_name room seen) m.rest m.is.value m.is.is)))
  good_after g ts s (inr (inl m)) = subst (Good room) (sym m.is.is.same) (good_number room seen Unsigned m.is.is.value refl g (number_is room seen m.is.is.value (value_test (number_name room seen) m.is.rest m.is.is.value m.is.is.is)))
  good_after g ts s (inr (inr u)) =
      let size : Begun _ _ u.is.is.rest s = u.is.is.is in
      let name : Begun _ _ size.is.is.is.rest s = size.is.is.is.is in
      subst (Good room) (sym name.is.same) (good_pointer room seen size.value name.value g (ltb-false _ _ u.open_way)
      (size_is room seen size.value (named_is (size_name room seen) size.opening size.value size.gives_it).1)
      (pointer_is seen size.value name.value (named_is (pointer_name seen size.value) name.opening name.value name.gives_it).1))

abbrev pub ClosingText : Seen → List Piece → List Written → Type 0
ClosingText seen = Unbarred (not (is_zero (length seen.pending))) (Marked sign.CloseParenthesis (λ p. IsEmpty seen.written))

abbrev pub TailText : ℕ → Seen → List Piece → List Written → Type 0
TailText zero seen = Either (Unbarred true (IsEmpty seen.written)) (ClosingText seen)
TailText (suc room) seen = Either (Marked sign.Comma (λ p. Joined (ParamText room seen) (TailText room))) (ClosingText seen)

closing_law : (seen : Seen) → OnHead (is_mark sign.CloseParenthesis) (ClosingText seen) still (closing seen)
closing_law seen = guarded (not (is_zero (length seen.pending))) misplaced (λ w. headed (marked sign.CloseParenthesis refl (nothing seen.written)) (is_mark sign.CloseParenthesis) (marked_heads sign.CloseParenthesis))

pub tail_law : (room : ℕ) (seen : Seen) → Good room seen → Lawful (TailText room seen) still (params_after room seen)
unfolding params_after
tail_law zero seen g =
    only_of misplaced (either_of (guarded {p = pure seen.written} true misplaced (λ w. absurd (cc w))) (closing_law seen) (λ t h. mark_elsewhere sign.Comma sign.CloseParenthesis t refl h))
    (sign.CloseParenthesis at nowhere ∷ []) seen.written (inr (record { open_way = no_more; is = record { place = nowhere; rest = []; split = refl; is = record { none = refl; same = refl } } }))
  where
    none_left : (k : ℕ) → k ≤ 0 → is_zero k ≡ true
    none_left zero h = refl
    none_left (suc k) h = absurd (omega arith)

    no_more : not (is_zero (length seen.pending)) ≡ false
    no_more = ap not (none_left (length seen.pending) g.fits)
tail_law (suc room) seen g = further (λ s h. tail_law room s h)
  where
    further : ((s : Seen) → Good room s → Lawful (TailText room s) still (params_after room s)) → Lawful (TailText (suc room) seen) still (params_after (suc room) seen)
    further later =
        let next : Lawful (Marked sign.Comma (λ p. Joined (ParamText room seen) (TailText room))) still (mark sign.Comma (param room seen >>= params_after room)) =
        marked sign.Comma refl (in_order {Second = TailText room} {q = params_after room} (param_law room seen g) (λ xs s is. later s (good_after room seen g xs s is)) (λ xs s ys b rest u v e. never_next (ys ++ rest))) in
        only_of misplaced (either_of (headed next (is_mark sign.Comma) (marked_heads sign.Comma)) (closing_law seen) (λ t h. mark_elsewhere sign.Comma sign.CloseParenthesis t refl h)) next.some.0 next.some.1 (inl next.some.2)
