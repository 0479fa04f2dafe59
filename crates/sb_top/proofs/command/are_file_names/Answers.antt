use Rattle.std.proofs.Common.{string_bytes, length}
use Rattle.sb_top.proofs.FileNames.{are_named, some_there}
use Rattle.sb_top.proofs.command.are_file_names.Goals as goal

pub returns-then-words-le-MOST_FILES : goal.returns-then-words-le-MOST_FILES
returns-then-words-le-MOST_FILES c =
    are_named string_bytes c.args.words.now c.name_files.result (some_there (length c.args.words.now) c.is_empty.result c.is_empty.ensures c.if-words-le-MOST_FILES.true.0) c.if-words-le-MOST_FILES.true.1 c.name_files.ensures
