-- A text has one reading: at most one list of pieces, or one refusal.
use Rattle.std.proofs.Common.{◌≡◌, ◌≤◌, ◌<◌, ◌-◌, ◌⊎◌, inl, inr, ◌∷◌, [], ℕ, List, Bool, true, false, Some, arith, sym, ◌∙◌, refl, subst, suc, take, drop, slice_get}
use Rattle.sb_base.specs.Names.{holds_text, with_text, IsDistinct}
use Rattle.sb_base.proofs.Texts.{with_held, with_new, distinct_with_new}
use Rattle.sb_base.specs.declared.tokens.PpKind.{PpKind}
use Rattle.sb_lex.specs.declared.spot.Spot.{Spot}
use Rattle.sb_lex.specs.declared.scan.Scan.{Scan}
use Rattle.sb_lex.specs.declared.item.Item.{Item}
use Rattle.sb_lex.specs.declared.item.Line.{Line}
use Rattle.sb_lex.specs.declared.item.Line.TheVariants.{Begin}
use Rattle.sb_lex.specs.declared.item.What.{What}
use Rattle.sb_lex.specs.declared.item.What.TheVariants.{Newline, Gap, Piece}
use Rattle.sb_lex.specs.declared.piece.PpToken.{PpToken}
use Rattle.sb_lex.specs.Splicing.{bytes_of}
use Rattle.sb_lex.specs.Items.{is_begin, line_after, Longest}
use Rattle.sb_lex.specs.Values.{HasValue}
use Rattle.sb_lex.specs.Lexing.{most_pieces, End, Takes, NeverEnds, HasRoom, Lexes}
use Rattle.sb_lex.specs.Lexing.End.{Whole, Stopped}
use Rattle.sb_lex.specs.Lexing.Lexes.{ended, newline, gap, piece, unending, bad, many, full}
use Rattle.sb_lex.specs.Faults.{IsRefusal}

-- ---- the table of names

by_held : (texts : List (List ℕ)) (text : List ℕ) → IsDistinct texts → (held : Bool) → holds_text texts text ≡ held → IsDistinct (with_text texts text)
by_held texts text distinct true is = rw (← with_held texts text is) distinct
by_held texts text distinct false is = rw (with_new texts text is) (distinct_with_new texts text distinct is)

distinct_with : (texts : List (List ℕ)) (text : List ℕ) → IsDistinct texts → IsDistinct (with_text texts text)
distinct_with texts text distinct = by_held texts text distinct (holds_text texts text) refl

-- ---- what stands at the front

not_longer : (scan : Scan) (bytes : List ℕ) (n m : ℕ) → Longest scan bytes n → Longest scan bytes m → n < m → ⊥
not_longer scan bytes n m first second less = cc (first.longest m less second.within, second.fitting)

same_length : (scan : Scan) (bytes : List ℕ) (n m : ℕ) → Longest scan bytes n → Longest scan bytes m → n ≡ m
same_length scan bytes n m first second = omega (arith, not_longer scan bytes n m first second, not_longer scan bytes m n second first)

-- an item that does not end, or one that does
data Front : Type 0 where
  Unended : (number : ℕ) → Front
  Taken : (what : What) (size : ℕ) → Front

abbrev IsFront : Line → List Spot → Front → Type 0
IsFront line xs (Unended number) = (item : Item) × NeverEnds line xs item × (item.refusal ≡ number)
IsFront line xs (Taken what size) = (item : Item) × Takes line xs item size (drop size xs) × (item.what ≡ what)

never_taken : (line : Line) (xs rest : List Spot) (item other : Item) (size : ℕ) → NeverEnds line xs item → Takes line xs other size rest → ⊥
never_taken line xs rest item other size never takes =
    let same : item ≡ other = sym never.0 ∙ takes.here in
    cc ((rw same at never.1) (size - other.opening), takes.sized.longest.fitting)

same_size : (line : Line) (xs rest more : List Spot) (item other : Item) (size long : ℕ) → Takes line xs item size rest → Takes line xs other long more → size ≡ long
same_size line xs rest more item other size long first second =
    let same : item ≡ other = sym first.here ∙ second.here in
    let left = same_length other.scan (bytes_of (drop other.opening xs)) (size - other.opening) (long - other.opening) (rw same at first.sized.longest) second.sized.longest in
    let opened : other.opening ≤ size = rw same at first.sized.opened in
    omega (arith, second.sized.opened)

same_front : (line : Line) (xs : List Spot) (front other : Front) → IsFront line xs front → IsFront line xs other → front ≡ other
same_front line xs (Unended n) (Unended m) first second = let same : first.0 ≡ second.0 = sym first.1.0 ∙ second.1.0 in cc (same, first.2, second.2)
same_front line xs (Unended n) (Taken what size) first second = absurd (never_taken line xs (drop size xs) first.0 second.0 size first.1 second.1)
same_front line xs (Taken what size) (Unended m) first second = absurd (never_taken line xs (drop size xs) second.0 first.0 size second.1 first.1)
same_front line xs (Taken what size) (Taken other long) first second =
    let same : first.0 ≡ second.0 = sym first.1.here ∙ second.1.here in
    let sizes = same_size line xs _ _ first.0 second.0 size long first.1 second.1 in
    cc (same, sizes, first.2, second.2)

-- ---- refusals of a piece

module _ (limit count : ℕ) (texts : List (List ℕ)) (kind : PpKind) (text : List ℕ) where
  abbrev IsGood : Type 0
  IsGood = HasValue kind text × (count < most_pieces) × HasRoom limit texts text

  good_refused : (number : ℕ) → IsGood → IsRefusal limit count texts kind text number → ⊥
  good_refused number good (inl b) = b.1 good.0
  good_refused number good (inr (inl m)) = omega (arith, good.1, m.2)
  good_refused number good (inr (inr f)) = f.3 good.2

  one_refusal : (number other : ℕ) → IsRefusal limit count texts kind text number → IsRefusal limit count texts kind text other → number ≡ other
  one_refusal number other (inl b) (inl c) = cc (b.0, c.0)
  one_refusal number other (inl b) (inr (inl c)) = absurd (b.1 c.1)
  one_refusal number other (inl b) (inr (inr c)) = absurd (b.1 c.1)
  one_refusal number other (inr (inl b)) (inl c) = absurd (c.1 b.1)
  one_refusal number other (inr (inl b)) (inr (inl c)) = cc (b.0, c.0)
  one_refusal number other (inr (inl b)) (inr (inr c)) = absurd (omega (arith, b.2, c.2))
  one_refusal number other (inr (inr b)) (inl c) = absurd (c.1 b.1)
  one_refusal number other (inr (inr b)) (inr (inl c)) = absurd (omega (arith, b.2, c.2))
  one_refusal number other (inr (inr b)) (inr (inr c)) = cc (b.0, c.0)

-- ---- what a reading says of the front and of the rest

module _ (file limit : ℕ) (line : Line) (spaced : Bool) (count : ℕ) (texts : List (List ℕ)) (x : Spot) (xs : List Spot) (ps : List PpToken) (later : List (List ℕ)) (end : End) where
  abbrev Fault : ℕ → Type 0
  Fault number = (ps ≡ []) × (later ≡ texts) × (end ≡ Stopped number x.line x.col)

  record Named (kind : PpKind) (text : List ℕ) (behind : List Spot) : Type 0 where
    good : IsGood limit count texts kind text
    number : ℕ
    got : slice_get (with_text texts text) number ≡ Some text
    tail : List PpToken
    is : ps ≡ record { kind = kind; text = record { 0 = number }; place = record { file = file; line = x.line; col = x.col }; first = is_begin line; spaced = spaced } ∷ tail
    rest : Lexes file limit (line_after line kind text) false (suc count) (with_text texts text) behind tail later end

  record Refused (kind : PpKind) (text : List ℕ) : Type 0 where
    number : ℕ
    refusal : IsRefusal limit count texts kind text number
    fault : Fault number

  abbrev Behind : Front → Type 0
  Behind (Unended number) = Fault number
  Behind (Taken Newline size) = Lexes file limit Begin true count texts (drop size (x ∷ xs)) ps later end
  Behind (Taken Gap size) = Lexes file limit line true count texts (drop size (x ∷ xs)) ps later end
  Behind (Taken (Piece kind) size) = Named kind (take size (bytes_of (x ∷ xs))) (drop size (x ∷ xs)) ⊎ Refused kind (take size (bytes_of (x ∷ xs)))

  record Opened : Type 0 where
    front : Front
    is : IsFront line (x ∷ xs) front
    behind : Behind front

normal : {line : Line} {xs rest : List Spot} {item : Item} {size : ℕ} → Takes line xs item size rest → Takes line xs item size (drop size xs)
normal takes = record { here = takes.here; sized = takes.sized; behind_is = refl }

module _ (file limit : ℕ) where
  opened : {line : Line} {spaced : Bool} {count : ℕ} {texts : List (List ℕ)} {x : Spot} {xs : List Spot} {ps : List PpToken} {later : List (List ℕ)} {end : End} → Lexes file limit line spaced count texts (x ∷ xs) ps later end
      → Opened file limit line spaced count texts x xs ps later end
  opened (newline line spaced count texts later x xs rest ps end item size takes what lexes) =
      record { front = Taken Newline size; is = (item, normal takes, what); behind = rw takes.behind_is at lexes }
  opened (gap line spaced count texts later x xs rest ps end item size takes what lexes) = record { front = Taken Gap size; is = (item, normal takes, what); behind = rw takes.behind_is at lexes }
  opened (piece line spaced count texts later x xs rest ps end item size kind text number takes what is valued few room got lexes) =
      record {
        front = Taken (Piece kind) size;
        is = (item, normal takes, what);
        behind = inl record { good = let good : IsGood limit count texts kind text = (valued, few, room) in rw is at good; number = number; got = rw is at got; tail = ps; is = refl; rest = rw (takes.behind_is, is) at lexes };
      }
  opened (unending line spaced count texts x xs item never) = record { front = Unended item.refusal; is = (item, never, refl); behind = (refl, refl, refl) }
  opened (bad line spaced count texts x xs rest item size kind takes what none) =
      record { front = Taken (Piece kind) size; is = (item, normal takes, what); behind = inr record { number = 4; refusal = inl (refl, none); fault = (refl, refl, refl) } }
  opened (many line spaced count texts x xs rest item size kind takes what valued most) =
      record { front = Taken (Piece kind) size; is = (item, normal takes, what); behind = inr record { number = 5; refusal = inr (inl (refl, valued, most)); fault = (refl, refl, refl) } }
  opened (full line spaced count texts x xs rest item size kind takes what valued few none) =
      record { front = Taken (Piece kind) size; is = (item, normal takes, what); behind = inr record { number = 28; refusal = inr (inr (refl, valued, few, none)); fault = (refl, refl, refl) } }

  -- the rest of a reading whose front is known
  behind_front : {line : Line} {spaced : Bool} {count : ℕ} {texts : List (List ℕ)} {x : Spot} {xs : List Spot} {ps : List PpToken} {later : List (List ℕ)} {end : End} (front : Front) → IsFront line (x ∷ xs) front
      → Lexes file limit line spaced count texts (x ∷ xs) ps later end → Behind file limit line spaced count texts x xs ps later end front
  behind_front {line = line} {spaced = spaced} {count = count} {texts = texts} {x = x} {xs = xs} {ps = ps} {later = later} {end = end} front is lexes =
      let open_there = opened lexes in
      subst (Behind file limit line spaced count texts x xs ps later end) (same_front line (x ∷ xs) open_there.front front open_there.is is) open_there.behind

  abbrev IsSame : List PpToken → List PpToken → List (List ℕ) → List (List ℕ) → End → End → Type 0
  IsSame ps qs later more end other = (ps ≡ qs) × (later ≡ more) × (end ≡ other)

  at_end : {line : Line} {spaced : Bool} {count : ℕ} {texts : List (List ℕ)} {qs : List PpToken} {more : List (List ℕ)} {other : End} → Lexes file limit line spaced count texts [] qs more other → IsSame [] qs texts more Whole other
  at_end (ended line spaced count texts) = (refl, refl, refl)

  -- a piece is refused in each reading by one number
  refused_once : (line : Line) (spaced : Bool) (count : ℕ) (texts : List (List ℕ)) (x : Spot) (xs : List Spot) (qs : List PpToken) (more : List (List ℕ)) (other : End) (item : Item) (size : ℕ) (kind : PpKind) (number : ℕ)
      → Takes line (x ∷ xs) item size (drop size (x ∷ xs)) → item.what ≡ Piece kind → IsRefusal limit count texts kind (take size (bytes_of (x ∷ xs))) number
      → Lexes file limit line spaced count texts (x ∷ xs) qs more other → IsSame [] qs texts more (Stopped number x.line x.col) other
  refused_once line spaced count texts x xs qs more other item size kind number takes what refusal second =
      elim (behind_front (Taken (Piece kind) size) (item, takes, what) second) [
        | inl named ↦ absurd (good_refused limit count texts kind (take size (bytes_of (x ∷ xs))) number named.good refusal)
        | inr refused ↦
            let same = one_refusal limit count texts kind (take size (bytes_of (x ∷ xs))) number refused.number refusal refused.refusal in
            (sym refused.fault.0, sym refused.fault.1, cc (same, refused.fault.2))
      ]

  pub one_reading : {line : Line} {spaced : Bool} {count : ℕ} {texts : List (List ℕ)} {xs : List Spot} {ps qs : List PpToken} {later more : List (List ℕ)} {end other : End} → IsDistinct texts
      → Lexes file limit line spaced count texts xs ps later end → Lexes file limit line spaced count texts xs qs more other → IsSame ps qs later more end other
  one_reading distinct (ended line spaced count texts) second = at_end second
  one_reading distinct (newline line spaced count texts later x xs rest ps end item size takes what lexes) second =
      one_reading distinct lexes (rw (← takes.behind_is) at (behind_front (Taken Newline size) (item, normal takes, what) second))
  one_reading distinct (gap line spaced count texts later x xs rest ps end item size takes what lexes) second =
      one_reading distinct lexes (rw (← takes.behind_is) at (behind_front (Taken Gap size) (item, normal takes, what) second))
  one_reading distinct (piece line spaced count texts later x xs rest ps end item size kind text number takes what is valued few room got lexes) second =
      elim (behind_front (Taken (Piece kind) size) (item, normal takes, what) second) [
        | inl named ↦
            let numbers : number ≡ named.number = distinct_with texts text distinct number named.number text got (rw (← is) at named.got) in
            let more = one_reading (distinct_with texts text distinct) lexes (rw (← is, ← takes.behind_is) at named.rest) in
            (cc (numbers, more.0, named.is), more.1, more.2)
        | inr refused ↦ absurd (good_refused limit count texts kind text refused.number (valued, few, room) (rw (← is) at refused.refusal))
      ]
  one_reading distinct (unending line spaced count texts x xs item never) second =
      let fault = behind_front (Unended item.refusal) (item, never, refl) second in (sym fault.0, sym fault.1, sym fault.2)
  one_reading distinct (bad line spaced count texts x xs rest item size kind takes what none) second =
      refused_once line spaced count texts x xs _ _ _ item size kind 4 (normal takes) what (inl (refl, none)) second
  one_reading distinct (many line spaced count texts x xs rest item size kind takes what valued most) second =
      refused_once line spaced count texts x xs _ _ _ item size kind 5 (normal takes) what (inr (inl (refl, valued, most))) second
  one_reading distinct (full line spaced count texts x xs rest item size kind takes what valued few none) second =
      refused_once line spaced count texts x xs _ _ _ item size kind 28 (normal takes) what (inr (inr (refl, valued, few, none))) second
