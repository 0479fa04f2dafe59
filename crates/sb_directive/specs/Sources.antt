-- header names and sources of the code as those of the definitions
use Rattle.std.specs.Prelude.{ℕ, List, Option, Some, None}
use Rattle.std.specs.declared.alloc.Global.{Global}
use Rattle.sb_base.specs.declared.refusals.Place.{Place}
use Rattle.std.specs.declared.vec.Vec.{Vec}
use Rattle.sb_directive.specs.declared.headers.HeaderName.{HeaderName}
use Rattle.sb_directive.specs.declared.headers.HeaderName.TheVariants as name
use Rattle.sb_directive.specs.declared.headers.Source.{Source as SourceText}
use Rattle.sb_directive.specs.declared.headers.Beginning.{Beginning as BeginningFound}
use Rattle.sb_directive.specs.declared.headers.Beginning.TheVariants as found
use Rattle.sb_directive.specs.declared.headers.Closed.{Closed}
use Rattle.sb_directive.specs.Headers.{Header, Angle, Quote, Beginning, Names, Bad, Ends, Source, BuiltIn, File}

abbrev pub header_seen : HeaderName → Header
header_seen (name.Angle bytes) = Angle bytes.items
header_seen (name.Quote bytes) = Quote bytes.items

abbrev pub beginning_seen : BeginningFound → Beginning
beginning_seen (found.Names header place) = Names (header_seen header) place
beginning_seen (found.Bad place) = Bad place
beginning_seen found.Ends = Ends

abbrev pub closed_seen : Closed → List ℕ × Place
closed_seen c = (c.text.items, c.closing)

abbrev pub source_by_text : List ℕ → Option (Vec ℕ Global) → Source
source_by_text name None = File name
source_by_text name (Some text) = BuiltIn name text.items

abbrev pub source_seen : SourceText → Source
source_seen s = source_by_text s.name.items s.text
