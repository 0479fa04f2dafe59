use Rattle.std.proofs.Common.{map, string_bytes}
use Rattle.sb_top.proofs.Defined.{clean_is_safe}
use Rattle.sb_top.proofs.prefast.Goals as goal

-- src/lib.rt
pub returns-in-Ok-put-clause-safe : goal.returns-in-Ok-put-clause-safe
returns-in-Ok-put-clause-safe g c =
    clean_is_safe (g.L.Library.held c.args.lib.now) (map string_bytes c.args.words.now) c.in-Ok.reply.status c.in-Ok.reply.text.items c.in-Ok.ensures.defined
