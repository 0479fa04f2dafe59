-- The bases of members as a list.
use Rattle.std.specs.Prelude.{List, Option, Some, None, Vec}
use Rattle.std.specs.declared.alloc.Global.{Global}
use Rattle.std.specs.List.{All}
use Rattle.sb_core.specs.declared.layout.Base.{Base}
use Rattle.sb_layout.specs.Faults.{IsSmall}

abbrev pub listed : Option (Vec Base Global) → Option (List Base)
listed None = None
listed (Some bases) = Some bases.items

abbrev pub AreSmall : Option (Vec Base Global) → Type 0
AreSmall None = Unit {0}
AreSmall (Some bases) = All IsSmall bases.items
