-- the first entry of a merge
use Rattle.std.specs.Prelude.{◌≡◌, ℕ, ◌+◌, ◌<◌, true, List, ◌++◌, length, ℤ}
use Rattle.sb_term.specs.declared.entry.Entry.{Entry}
use Rattle.sb_term.specs.Linear.{keep, merged, are_narrow}

-- the merge of xs and ys is an entry, where it is not zero, before the merge of what is left
pub record IsFront (a b : ℤ) (xs ys : List Entry) (symbol : ℕ) (coefficient : ℤ) (more_xs more_ys : List Entry) : Type 0 where
  pub is : merged a b xs ys ≡ keep symbol coefficient (merged a b more_xs more_ys)
  pub fewer : length more_xs + length more_ys < length xs + length ys

-- a merge of xs and ys on its way: `out` stands, left and right are still to be merged
pub record IsMerging (a b : ℤ) (xs ys left right out : List Entry) : Type 0 where
  pub is : out ++ merged a b left right ≡ merged a b xs ys
  pub same : are_narrow (merged a b left right) ≡ are_narrow (merged a b xs ys)
  pub left_narrow : are_narrow left ≡ true
  pub right_narrow : are_narrow right ≡ true
