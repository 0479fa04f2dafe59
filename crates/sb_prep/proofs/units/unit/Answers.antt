use Rattle.std.proofs.Common.{◌≡◌}
use Rattle.sb_prep.specs.Standing.{start}
use Rattle.sb_prep.proofs.Additions.{names_kept, names_distinct, files_distinct, files_few}
use Rattle.sb_prep.proofs.OneUnit.{only_outcome}
use Rattle.sb_prep.proofs.units.unit.Goals as goal

pub returns-clause-only : goal.returns-clause-only
returns-clause-only g c =
    let start_is : c.new-state.result ≡ start c.args.names.now.limit c.args.names.now.texts c.args.files.now = rw (c.replace-own_names.ensures.value, c.replace-own_files.ensures.value) at c.new-state.ensures.start in
    rw (c.into_tables-later_names.ensures.names, c.into_tables-later_names.ensures.files)
    (λ texts files told is. only_outcome (g.L.Library.held c.args.lib.now) c.args.names.now.limit c.args.name.now c.args.names.now.texts c.args.files.now c.tokens_of-result.new.state.at.texts c.tokens_of-result.new.state.at.files
    c.tokens_of-result.result (rw start_is at c.tokens_of-result.ensures.tokens) texts files told is)

pub returns-clause-names : goal.returns-clause-names
returns-clause-names g c =
    let start_is : c.new-state.result ≡ start c.args.names.now.limit c.args.names.now.texts c.args.files.now = rw (c.replace-own_names.ensures.value, c.replace-own_files.ensures.value) at c.new-state.ensures.start in
    rw c.into_tables-later_names.ensures.names
    (names_kept (g.L.Library.held c.args.lib.now) c.args.names.now.limit c.args.name.now c.args.names.now.texts c.args.files.now c.tokens_of-result.new.state.at.texts c.tokens_of-result.new.state.at.files
    c.tokens_of-result.result (rw start_is at c.tokens_of-result.ensures.tokens))

pub returns-clause-distinct : goal.returns-clause-distinct
returns-clause-distinct g c =
    let start_is : c.new-state.result ≡ start c.args.names.now.limit c.args.names.now.texts c.args.files.now = rw (c.replace-own_names.ensures.value, c.replace-own_files.ensures.value) at c.new-state.ensures.start in
    rw c.into_tables-later_names.ensures.names
    (names_distinct (g.L.Library.held c.args.lib.now) c.args.names.now.limit c.args.name.now c.args.names.now.texts c.args.files.now c.tokens_of-result.new.state.at.texts c.tokens_of-result.new.state.at.files
    c.tokens_of-result.result (rw start_is at c.tokens_of-result.ensures.tokens))

pub returns-clause-distinct_files : goal.returns-clause-distinct_files
returns-clause-distinct_files g c =
    let start_is : c.new-state.result ≡ start c.args.names.now.limit c.args.names.now.texts c.args.files.now = rw (c.replace-own_names.ensures.value, c.replace-own_files.ensures.value) at c.new-state.ensures.start in
    rw c.into_tables-later_names.ensures.files
    (files_distinct (g.L.Library.held c.args.lib.now) c.args.names.now.limit c.args.name.now c.args.names.now.texts c.args.files.now c.tokens_of-result.new.state.at.texts c.tokens_of-result.new.state.at.files
    c.tokens_of-result.result (rw start_is at c.tokens_of-result.ensures.tokens))

pub returns-clause-few : goal.returns-clause-few
returns-clause-few g c =
    let start_is : c.new-state.result ≡ start c.args.names.now.limit c.args.names.now.texts c.args.files.now = rw (c.replace-own_names.ensures.value, c.replace-own_files.ensures.value) at c.new-state.ensures.start in
    rw c.into_tables-later_names.ensures.files
    (files_few (g.L.Library.held c.args.lib.now) c.args.names.now.limit c.args.name.now c.args.names.now.texts c.args.files.now c.tokens_of-result.new.state.at.texts c.tokens_of-result.new.state.at.files
    c.tokens_of-result.result (rw start_is at c.tokens_of-result.ensures.tokens))
