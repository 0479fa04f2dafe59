-- Families of parsers of lower and higher depths, and parsers that stop otherwise than for want of depth.
use Rattle.std.proofs.Common.{◌≡◌, ◌≤◌, ◌+◌, ◌-◌, ℕ, zero, suc, Bool, false, Option, nat_lt, sym, ap, ◌∙◌, subst, arith}
use Rattle.sb_base.specs.declared.tokens.Token.{Token}
use Rattle.sb_parse.specs.Parser.{Parser, token, taken, refuse}
use Rattle.sb_lexicon.specs.Tokens.{unexpected, too_deep, unknown, misplaced, bad_arguments, lacks, is_zero}
use Rattle.sb_lexicon.proofs.Depths.{room_within, some_room}
use Rattle.sb_lexicon.proofs.Wider.{Wider, zero_wider, room_wider}
use Rattle.sb_sal.proofs.Deepening.{Past, Shrinks, Deepens, moved, still_token, still_taken, still_refuse}

-- ---- other families

-- the same from a depth on
pub same_from : {A : Type 0} (n : ℕ) (p q : ℕ → Parser Token A) → ((m : ℕ) → n ≤ m → q m ≡ p m) → Deepens n p → Deepens n q
same_from n p q alike P = record {
  wide = λ m le ts. moved (q n ts) (q m ts) (p n ts) (p m ts) (ap (λ r. r ts) (alike n (omega arith))) (ap (λ r. r ts) (alike m le)) (P.wide m le ts);
  shrinks = λ m le. subst Shrinks (sym (alike m le)) (P.shrinks m le);
  deeper = λ ts left e.
      let d : (m : ℕ) × (n ≤ m) × Past left (p m ts) = P.deeper ts left (sym (ap (λ r. r ts) (alike n (omega arith))) ∙ e) in
      (d.0, d.1, subst (λ r. Past left (r ts)) (sym (alike d.0 d.1)) d.2);
}

-- those of one depth more
pub raised : {A : Type 0} (n : ℕ) (p : ℕ → Parser Token A) → Deepens n (λ m. p (suc m)) → Deepens (suc n) p
raised {A = A} n p P = record {
  wide = wide;
  shrinks = shrinks;
  deeper = λ ts left e. (let d : (m : ℕ) × (n ≤ m) × Past left (p (suc m) ts) = P.deeper ts left e in (suc d.0, (let le : n ≤ d.0 = d.1 in omega arith), d.2));
}
  where
    wide : (m : ℕ) → suc n ≤ m → Wider (p (suc n)) (p m)
    wide zero le = absurd (omega arith)
    wide (suc m) le = P.wide m (omega arith)

    shrinks : (m : ℕ) → suc n ≤ m → Shrinks (p m)
    shrinks zero le = absurd (omega arith)
    shrinks (suc m) le = P.shrinks m (omega arith)

-- those of so many depths less
pub lowered : {A : Type 0} (c n : ℕ) (p : ℕ → Parser Token A) → Deepens (n - c) p → Deepens n (λ m. p (m - c))
lowered c n p P = record {
  wide = λ m le. P.wide (m - c) (omega arith);
  shrinks = λ m le. P.shrinks (m - c) (omega arith);
  deeper = λ ts left e.
      let d : (m : ℕ) × (n - c ≤ m) × Past left (p m ts) = P.deeper ts left e in
      let le : n - c ≤ d.0 = d.1 in
      let back : d.0 ≡ (d.0 + c) - c = omega arith in
      (d.0 + c, omega arith, subst (λ k. Past left (p k ts)) back d.2);
}

-- bars of so many depths less
pub zero_mono : (c n m : ℕ) → n ≤ m → is_zero (n - c) ≡ false → is_zero (m - c) ≡ false
zero_mono c n m le h = zero_wider (n - c) (m - c) (omega arith) h

pub room_mono : (c d n m : ℕ) → n ≤ m → nat_lt (n - c) d ≡ false → nat_lt (m - c) d ≡ false
room_mono c d n m le h = room_wider (n - c) (m - c) d (omega arith) h

pub zero_open : (c n : ℕ) → (m : ℕ) × (n ≤ m) × (is_zero (m - c) ≡ false)
zero_open c n = (suc (n + c), omega arith, some_room (suc (n + c) - c) 1 (omega arith) (omega arith))

pub room_open : (c d n : ℕ) → (m : ℕ) × (n ≤ m) × (nat_lt (m - c) d ≡ false)
room_open c d n = (n + c + d, omega arith, room_within (n + c + d - c) d (omega arith))

-- ---- parsers that stop otherwise

pub not_unexpected : unexpected ≡ too_deep → ⊥
not_unexpected h = let both : Path ℕ 31 32 = h in omega arith

pub not_unknown : unknown ≡ too_deep → ⊥
not_unknown h = let both : Path ℕ 36 32 = h in omega arith

pub not_misplaced : misplaced ≡ too_deep → ⊥
not_misplaced h = let both : Path ℕ 37 32 = h in omega arith

pub not_bad_arguments : bad_arguments ≡ too_deep → ⊥
not_bad_arguments h = let both : Path ℕ 35 32 = h in omega arith

pub not_lacking : (k : ℕ) → lacks k ≡ too_deep → ⊥
not_lacking k h = let both : 100 + k ≡ 32 = h in omega arith

pub expects : (n : ℕ) (test : Token → Bool) → Deepens n (λ m. token unexpected test)
expects n test = still_token n unexpected test not_unexpected

pub takes : {A : Type 0} (n : ℕ) (gives : Token → Option A) → Deepens n (λ m. taken unexpected gives)
takes n gives = still_taken n unexpected gives not_unexpected

pub unexpecting : {A : Type 0} (n : ℕ) → Deepens {A = A} n (λ m. refuse unexpected)
unexpecting n = still_refuse n unexpected not_unexpected

pub lacking : {A : Type 0} (n k : ℕ) → Deepens {A = A} n (λ m. refuse (lacks k))
lacking n k = still_refuse n (lacks k) (not_lacking k)
