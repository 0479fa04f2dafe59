use Rattle.std.proofs.Common.{◌∙◌}
use Rattle.sb_top.proofs.Appending.{extended_thrice, numbered}
use Rattle.sb_top.proofs.texts.append_assigned.Goals as goal

pub returns : goal.returns
returns c =
    let written = extended_thrice c.append_ratio.result c.args.out.now.items c.append_label.new.out.items c.extend_from_slice.new.self.items c.append_ratio.new.out.items
    _ _ _ c.in_ok-append_label.ensures c.in_ok-extend_from_slice.ensures.items c.append_ratio.ensures in
    let middle = c.as_bytes.ensures.value ∙ c.in_ok-middle.ensures.ok in
    rw (← c.get.ensures.value) (numbered c.append_ratio.result c.args.out.now.items c.append_ratio.new.out.items _ c.as_bytes.result.now _ _ middle written)
