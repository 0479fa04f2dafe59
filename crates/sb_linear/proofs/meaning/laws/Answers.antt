use Rattle.sb_linear.proofs.Evaluation.{keeps_value}
use Rattle.sb_linear.proofs.Forms.{forms}
use Rattle.sb_linear.proofs.meaning.laws.Goals as goal

pub returns-clause-forms : goal.returns-clause-forms
returns-clause-forms c = forms

pub returns-clause-value : goal.returns-clause-value
returns-clause-value c = keeps_value
