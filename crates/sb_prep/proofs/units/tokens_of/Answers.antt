use Rattle.std.proofs.Common.{length, arith, ap}
use Rattle.std.proofs.lemmas.Result.{err_from_is_err_and}
use Rattle.sb_base.specs.Found.{seen}
use Rattle.sb_directive.specs.Ending.{Ended}
use Rattle.sb_prep.specs.Stopping.{IsKept}
use Rattle.sb_prep.proofs.Held.{kept_on}
use Rattle.sb_prep.proofs.WholeUnit.{number_in, kept, not_read, pieces_held, file_refused, converted, no_tokens, tokens_in, as_many}
use Rattle.sb_prep.proofs.units.tokens_of.Goals as goal
use Rattle.sb_prep.proofs.units.tokens_of.Goals.{After-read_file}

kept_to : (g : _) (c : After-read_file g) → IsKept c.args.state.now.at.files c.read_file.new.state.at.files
kept_to g c =
    kept_on c.args.state.now.at.files c.pieces_of.new.state.at.files c.read_file.new.state.at.files
    (kept (g.L.Library.held c.args.lib.now) c.args.name.now c.in_ok-file.file (seen c.in_ok-found.found) c.args.state.now c.number.new.self c.pieces_of.new.state c.requires.start
    c.in_ok-file.ensures.number c.in_ok-file.ensures.moved c.in_ok-found.ensures.found c.pieces_of.ensures.moved)
    c.read_file.ensures.kept

pub returns-in_err-pieces-clause-tokens : goal.returns-in_err-pieces-clause-tokens
returns-in_err-pieces-clause-tokens g c =
    let p = err_from_is_err_and c.from_residual-in_err-pieces.result c.from_residual-in_err-pieces.ensures.1 in
    rw (p.1, p.2) (not_read (g.L.Library.held c.args.lib.now) c.args.name.now c.in_ok-file.file (seen c.in_ok-found.found) c.args.state.now c.number.new.self c.pieces_of.new.state c.requires.start
    c.in_ok-file.ensures.number c.in_ok-file.ensures.moved c.in_ok-found.ensures.found c.pieces_of.ensures.moved _ c.in_err-pieces.ensures.pieces)

pub read_file-requires-clause-numbered : goal.read_file-requires-clause-numbered
read_file-requires-clause-numbered g c =
    number_in (g.L.Library.held c.args.lib.now) c.args.name.now c.in_ok-file.file (seen c.in_ok-found.found) c.args.state.now c.number.new.self c.pieces_of.new.state c.requires.start
    c.in_ok-file.ensures.number c.in_ok-file.ensures.moved c.in_ok-found.ensures.found c.pieces_of.ensures.moved

pub read_file-requires-clause-held : goal.read_file-requires-clause-held
read_file-requires-clause-held g c =
    rw c.deref.ensures.value (pieces_held (g.L.Library.held c.args.lib.now) c.args.name.now c.in_ok-file.file (seen c.in_ok-found.found) c.args.state.now c.number.new.self c.pieces_of.new.state c.requires.start
    c.in_ok-file.ensures.number c.in_ok-file.ensures.moved c.in_ok-found.ensures.found c.pieces_of.ensures.moved c.in_ok-pieces.pieces.items c.in_ok-pieces.ensures.pieces c.pieces_of.new.state)

pub returns-in_err-read_file-clause-tokens : goal.returns-in_err-read_file-clause-tokens
returns-in_err-read_file-clause-tokens g c =
    let p = err_from_is_err_and c.from_residual-in_err-read_file.result c.from_residual-in_err-read_file.ensures.1 in
    rw (p.1, p.2) (file_refused (g.L.Library.held c.args.lib.now) c.args.name.now c.in_ok-file.file (seen c.in_ok-found.found) c.args.state.now c.number.new.self c.pieces_of.new.state c.requires.start
    c.in_ok-file.ensures.number c.in_ok-file.ensures.moved c.in_ok-found.ensures.found c.pieces_of.ensures.moved c.in_ok-pieces.pieces.items c.in_ok-pieces.ensures.pieces c.read_file.new.state _
    (rw (c.in_ok-found.ensures.held, c.deref.ensures.value) at c.in_err-read_file.ensures.read))

pub returns-in_err-read_file-clause-kept : goal.returns-in_err-read_file-clause-kept
returns-in_err-read_file-clause-kept g c = kept_to g (goal.at.returns-in_err-read_file-clause-kept g c).After-read_file

pub returns-in_err-tokens-clause-tokens : goal.returns-in_err-tokens-clause-tokens
returns-in_err-tokens-clause-tokens g c =
    let p = err_from_is_err_and c.from_residual-in_err-tokens.result c.from_residual-in_err-tokens.ensures.1 in
    rw (p.1, p.2) (no_tokens (g.L.Library.held c.args.lib.now) c.args.name.now c.in_ok-file.file (seen c.in_ok-found.found) c.args.state.now c.number.new.self c.pieces_of.new.state c.requires.start
    c.in_ok-file.ensures.number c.in_ok-file.ensures.moved c.in_ok-found.ensures.found c.pieces_of.ensures.moved c.in_ok-pieces.pieces.items c.in_ok-pieces.ensures.pieces c.read_file.new.state
    (rw (c.in_ok-found.ensures.held, c.deref.ensures.value) at c.in_ok-read_file.ensures.read) c.in_ok-read_file.ensures.limit c.tokens.new.self c.tokens.ensures.moved _ c.in_err-tokens.ensures.held c.in_err-tokens.ensures.tokens)

pub returns-in_err-tokens-clause-kept : goal.returns-in_err-tokens-clause-kept
returns-in_err-tokens-clause-kept g c = rw (ap (λ s. s.at.files) c.tokens.ensures.moved) (kept_to g (goal.at.returns-in_err-tokens-clause-kept g c).After-read_file)

pub returns-clause-tokens : goal.returns-clause-tokens
returns-clause-tokens g c =
    converted (g.L.Library.held c.args.lib.now) c.args.name.now c.in_ok-file.file (seen c.in_ok-found.found) c.args.state.now c.number.new.self c.pieces_of.new.state c.requires.start
    c.in_ok-file.ensures.number c.in_ok-file.ensures.moved c.in_ok-found.ensures.found c.pieces_of.ensures.moved c.in_ok-pieces.pieces.items c.in_ok-pieces.ensures.pieces c.read_file.new.state
    (rw (c.in_ok-found.ensures.held, c.deref.ensures.value) at c.in_ok-read_file.ensures.read) c.in_ok-read_file.ensures.limit c.tokens.new.self c.tokens.ensures.moved c.in_ok-tokens.tokens.items Ended c.in_ok-tokens.ensures.tokens

pub returns-clause-kept : goal.returns-clause-kept
returns-clause-kept g c = rw (ap (λ s. s.at.files) c.tokens.ensures.moved) (kept_to g (goal.at.returns-clause-kept g c).After-read_file)

pub returns-clause-places : goal.returns-clause-places
returns-clause-places g c = rw (ap (λ s. s.at.files) c.tokens.ensures.moved) (tokens_in (length c.read_file.new.state.at.files) c.in_ok-tokens.ensures.tokens c.tokens.ensures.held)

pub returns-clause-most : goal.returns-clause-most
returns-clause-most g c = let few = as_many c.in_ok-tokens.ensures.tokens in let given = c.tokens.ensures.given in omega arith
