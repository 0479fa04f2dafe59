use Rattle.std.proofs.Common.{◌≡◌, take}
use Rattle.std.specs.List.{flat_map}
use Rattle.sb_macro.specs.Macros.{macro_of}
use Rattle.sb_macro.specs.Replacement.{standing}
use Rattle.sb_macro.specs.Tokens.{toks, fulls_of}
use Rattle.sb_macro.proofs.replacing.replacement.Given as goal

abbrev pub invariant-loop-part : goal.invariant-loop-part
invariant-loop-part l =
    toks l.tokens.items ≡ flat_map (standing (macro_of l.stored) (fulls_of l.fulls) l.spot.place l.spot.hidden.now) (take l.part-index l.stored.body.items)
