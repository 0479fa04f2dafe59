-- what reading a text does to the table of names
use Rattle.std.specs.Prelude.{◌≡◌, ◌≤◌, length}
use Rattle.sb_base.specs.Names.{NameTable, IsDistinct}
use Rattle.sb_lex.specs.Faults.{KeepsNumbers}

-- it keeps its limit and the numbers of its texts, and stays without a text twice and within its limit if it was so
pub record KeepsTable (old new : NameTable) : Type 0 where
  pub limit : new.limit ≡ old.limit
  pub numbers : KeepsNumbers old.texts new.texts
  pub distinct : IsDistinct old.texts → IsDistinct new.texts
  pub within : length old.texts ≤ old.limit → length new.texts ≤ new.limit
