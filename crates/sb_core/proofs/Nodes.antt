-- The plain trees of blocks and of their sections.
use Rattle.std.specs.Prelude.{◌≡◌, ℕ, Vec}
use Rattle.std.specs.declared.alloc.Global.{Global}
use Rattle.std.proofs.Common.{ap, ◌∙◌}
use Rattle.sb_core.specs.Plain.{plain_statement, plain_section, plain_statements, plain_sections, statement_step, section_step, statement_list, section_list}
use Rattle.sb_core.specs.Trees as core
use Rattle.sb_core.specs.Trees.{Statement, SectionTree}
use Rattle.sb_core.specs.declared.statement.CoreStmt.{CoreStmt, map-CoreStmt, fold_out-CoreStmt, out-CoreStmt}
use Rattle.sb_core.specs.declared.statement.Section.{Section, fold_out-Section}
use Rattle.sb_core.specs.declared.statement.CoreStmt.TheOpen as layer
use Rattle.sb_core.specs.declared.statement.CoreStmt.TheViews.{Block, outs-Block}

abbrev plain_layer : layer.CoreStmt-F CoreStmt Section → layer.CoreStmt-F Statement SectionTree
plain_layer = map-CoreStmt CoreStmt Section Statement SectionTree plain_statement plain_section

opened : (s : CoreStmt) → plain_statement s ≡ statement_step (plain_layer (out-CoreStmt s))
unfolding plain_statement plain_section
opened = fold_out-CoreStmt Statement SectionTree statement_step section_step

pub plain_block : (locals : Vec ℕ Global) (sections : Vec Section Global) → plain_statement (Block locals sections) ≡ core.Block locals.items (section_list (plain_sections sections.items))
plain_block locals sections = opened (Block locals sections) ∙ ap (λ l. statement_step (plain_layer l)) (outs-Block locals sections)

pub plain_section_is : (s : Section) → plain_section s ≡ core.Section s.label (statement_list (plain_statements s.list.items))
unfolding plain_statement plain_section
plain_section_is = fold_out-Section Statement SectionTree statement_step section_step
