-- a function without a warning is safe, whatever lawful answers come
use Rattle.sb_judge.specs.Laws.{WalkLaw, FunctionLaw}
use Rattle.sb_judge.proofs.Soundness.Stores.{store_law}
use Rattle.sb_picture.proofs.Soundness.Tidied.{tidy_law}
use Rattle.sb_judge.proofs.Soundness.Split.{split_law}
use Rattle.sb_judge.proofs.Soundness.Entered.{entry_law}
use Rattle.sb_judge.proofs.Soundness.Walked.{walk_law, function_law}

pub statements_owe : WalkLaw
statements_owe = walk_law store_law split_law tidy_law

pub functions_are_safe : FunctionLaw
functions_are_safe = function_law entry_law statements_owe
