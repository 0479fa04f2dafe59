-- what tidying owes the machine
use Rattle.std.specs.Prelude.{List}
use Rattle.sb_function.specs.declared.syntax.Param.{Param}
use Rattle.sb_picture.specs.declared.picture.Picture.{Picture}
use Rattle.sb_picture.specs.Memory.{Memory}
use Rattle.sb_picture.specs.Machine.{Held}
use Rattle.sb_picture.specs.Describes.{Setting, Describes}
use Rattle.sb_picture.specs.Tidying.{tidied}

-- tidying changes neither the setting nor what is described
abbrev pub TidyLaw : Type 0
TidyLaw = (params : List Param) (args : List Held) (before m : Memory) (p : Picture) (σ : Setting) → Describes params args before m p σ → Describes params args before m (tidied p) σ
