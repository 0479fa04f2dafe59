use Rattle.std.proofs.Common.{Err, ap}
use Rattle.std.proofs.lemmas.Result.{err_from_is_err_and}
use Rattle.sb_prep.proofs.Beginnings.{room_for, no_room_for, Begins-literals, refused_room, refused_literal}
use Rattle.sb_prep.proofs.tokens.literal_token.Goals as goal

pub returns-in_err-bytes-clause-token : goal.returns-in_err-bytes-clause-token
returns-in_err-bytes-clause-token c =
    let bad = rw (c.split_at.ensures.front, c.literal_count.ensures.count) at c.in_err-bytes.ensures.joined in
    let p = err_from_is_err_and c.from_residual.result c.from_residual.ensures.1 in
    rw (p.1, p.2) (refused_literal _ _ _ c.args.first.now _ c.requires.first c.requires.literal bad)

pub returns-in-Ok-clause-token : goal.returns-in-Ok-clause-token
returns-in-Ok-clause-token c =
    let named = rw (c.split_at.ensures.front, c.literal_count.ensures.count) at c.in_ok-bytes.ensures.joined in
    let made = c.in-Ok.ensures in
    let number = rw (made.texts, c.deref.ensures.value) at made.number in
    let room = room_for c.args.names.now.limit c.args.names.now.texts c.deref.result.now (λ full. let bad = made.full.1 full in cc) in
    rw (made.texts, c.deref.ensures.value, c.split_at.ensures.back, c.literal_count.ensures.count)
    (Begins-literals _ _ _ c.args.first.now _ _ c.requires.first c.requires.literal named (rw c.deref.ensures.value at room) number)

pub returns-in-Err-Full-clause-token : goal.returns-in-Err-Full-clause-token
returns-in-Err-Full-clause-token c =
    let named = rw (c.split_at.ensures.front, c.literal_count.ensures.count) at c.in_ok-bytes.ensures.joined in
    let why = c.in-Err-Full.ensures in
    let full = why.full.0 (ap Err c.in-Err-Full.field-0-is) in
    let room = no_room_for c.args.names.now.limit c.args.names.now.texts c.deref.result.now full in
    rw (why.err, c.stop_at.ensures) (refused_room _ _ _ c.args.first.now _ c.requires.first c.requires.literal named (rw c.deref.ensures.value at room))
