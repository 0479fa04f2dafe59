-- the tree of a file as the laws speak of it
use Rattle.std.specs.Prelude.{ℕ, List}
use Rattle.sb_base.specs.declared.interning.Name.{Name}
use Rattle.sb_base.specs.declared.refusals.Place.{Place}
use Rattle.sb_function.specs.declared.syntax.Param.{Param}
use Rattle.sb_function.specs.declared.syntax.Simple.{Simple}
use Rattle.sb_function.specs.declared.syntax.Comparison.{Comparison}

-- a list of statements is `Then first (Then second Skip)`, and a block is its list
pub data Plain : Type 0 where
  Skip : Plain
  Then : Plain → Plain → Plain
  Store : (array : ℕ) (index value : Simple) (place : Place) → Plain
  Choose : (left : Simple) (op : Comparison) (right : Simple) (body : Plain) → Plain

pub record FunctionTree : Type 0 where
  pub name : Name
  pub place : Place
  pub params : List Param
  pub body : Plain
