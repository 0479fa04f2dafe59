-- What is read off the line of a `#define`.
use Rattle.std.specs.Prelude.{◌≡◌, Ok}
use Rattle.sb_macro.specs.declared.lines.Parameters.{Parameters}
use Rattle.sb_macro.specs.Definition.{Listing}

-- the parameters were read, and the rest is left
abbrev pub AreRead : Listing → Parameters → Type 0
AreRead listing found = listing ≡ Ok (found.params.items, found.rest.now)
