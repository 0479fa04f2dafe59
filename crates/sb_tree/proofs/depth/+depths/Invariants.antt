-- What the loops over lists keep: the depth of the parts so far.
use Rattle.std.proofs.Common.{◌≡◌, take}
use Rattle.sb_tree.specs.Depths.{exprs_depth, items_depth, args_depth, notes_depth, inits_depth, decls_depth, stmts_depth}
use Rattle.sb_tree.proofs.depth.+depths.Given as goal

abbrev pub invariant-depth_of_exprs-loop-part : goal.invariant-depth_of_exprs-loop-part
invariant-depth_of_exprs-loop-part l = l.depth ≡ exprs_depth (take l.part-index l.list)

abbrev pub invariant-depth_of_items-loop-part : goal.invariant-depth_of_items-loop-part
invariant-depth_of_items-loop-part l = l.depth ≡ items_depth (take l.part-index l.list)

abbrev pub invariant-depth_of_args-loop-part : goal.invariant-depth_of_args-loop-part
invariant-depth_of_args-loop-part l = l.depth ≡ args_depth (take l.part-index l.list)

abbrev pub invariant-depth_of_notes-loop-part : goal.invariant-depth_of_notes-loop-part
invariant-depth_of_notes-loop-part l = l.depth ≡ notes_depth (take l.part-index l.list)

abbrev pub invariant-depth_of_inits-loop-part : goal.invariant-depth_of_inits-loop-part
invariant-depth_of_inits-loop-part l = l.depth ≡ inits_depth (take l.part-index l.list)

abbrev pub invariant-depth_of_decls-loop-part : goal.invariant-depth_of_decls-loop-part
invariant-depth_of_decls-loop-part l = l.depth ≡ decls_depth (take l.part-index l.list)

abbrev pub invariant-depth_of_stmts-loop-part : goal.invariant-depth_of_stmts-loop-part
invariant-depth_of_stmts-loop-part l = l.depth ≡ stmts_depth (take l.part-index l.list)
