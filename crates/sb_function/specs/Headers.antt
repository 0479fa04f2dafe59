-- The parameters so far in code as the reader of the grammar has them.
use Rattle.sb_function.specs.declared.params.Header.{Header}
use Rattle.sb_function.specs.Params.{Seen}

abbrev pub seen_of : Header → Seen
seen_of h = record { written = h.written.items; pending = h.pending.items }
