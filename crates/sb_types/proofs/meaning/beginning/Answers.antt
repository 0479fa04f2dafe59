use Rattle.sb_types.proofs.FirstTypes.{first_table}
use Rattle.sb_types.proofs.meaning.beginning.Goals as goal

pub returns : goal.returns
returns c = first_table
