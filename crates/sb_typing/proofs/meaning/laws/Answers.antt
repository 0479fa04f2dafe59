use Rattle.sb_typing.proofs.Conversions.{promotes, is_common, keeps_values, keeps_width}
use Rattle.sb_typing.proofs.meaning.laws.Goals as goal

pub returns-clause-promotes : goal.returns-clause-promotes
returns-clause-promotes c = promotes

pub returns-clause-common : goal.returns-clause-common
returns-clause-common c = is_common

pub returns-clause-values : goal.returns-clause-values
returns-clause-values c = keeps_values

pub returns-clause-width : goal.returns-clause-width
returns-clause-width c = keeps_width
