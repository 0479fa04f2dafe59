use Rattle.std.proofs.Common.{◌≡◌, ◌≤◌, length, arith, sym, ap, ◌∙◌}
use Rattle.std.proofs.lemmas.Result.{err_from_is_err_and}
use Rattle.std.proofs.lemmas.List.{length-drop}
use Rattle.sb_lex.proofs.Reading.{Goes-whole, Goes-space, Goes-piece, Goes-unending, Goes-refused, few_more}
use Rattle.sb_base.specs.Names.{NameTable, IsDistinct}
use Rattle.sb_lex.specs.Faults.{KeepsNumbers}
use Rattle.sb_lex.specs.Tables.{KeepsTable}
use Rattle.sb_lex.proofs.lexer.pieces.Goals as goal

kept_on : (old middle new : NameTable) → KeepsTable old middle → new.limit ≡ middle.limit → KeepsNumbers middle.texts new.texts → (IsDistinct middle.texts → IsDistinct new.texts)
    → (length middle.texts ≤ middle.limit → length new.texts ≤ new.limit) → KeepsTable old new
kept_on old middle new kept limit numbers distinct within = record {
  limit = limit ∙ kept.limit;
  numbers = λ number text held. numbers number text (kept.numbers number text held);
  distinct = λ d. distinct (kept.distinct d);
  within = λ w. within (kept.within w);
}

pub returns-clause-pieces : goal.returns-clause-pieces
returns-clause-pieces c = Goes-whole _ _ _ _ _ _ _ _ _ c.items.invariant.goes (sym c.in_default.is ∙ c.peek.ensures)

pub returns-in_default-size-clause-pieces : goal.returns-in_default-size-clause-pieces
returns-in_default-size-clause-pieces c =
    let fault = Goes-unending _ _ _ _ _ _ _ _ _ c.in-Some.spot c.item_at-item.result c.items.invariant.goes c.in-Some.ensures c.item_at-item.ensures.item c.in_default-size.ensures in
    rw (c.stop_at.ensures, c.place-place.ensures) fault

pub items-preserved-in_default-what : goal.items-preserved-in_default-what
items-preserved-in_default-what c =
    let stands = c.items.invariant in
    record {
      goes = Goes-space _ _ _ _ _ _ _ _ _ _ _ c.in-Some.spot c.item_at-item.result _ stands.goes c.in-Some.ensures c.item_at-item.ensures.item c.in-Some-size.ensures c.skip.ensures c.in_default-what.not-Piece c.behind_space-line.ensures.newline c.behind_space-line.ensures.other;
      short = omega (arith, ap length c.skip.ensures, length-drop c.in-Some-size.size c.items.rest, stands.short);
      few = stands.few;
      table = stands.table;
    }

pub returns-in_err-name-clause-pieces : goal.returns-in_err-name-clause-pieces
returns-in_err-name-clause-pieces c =
    let stands = c.items.invariant in
    let counted : c.len.result ≡ length c.items.pieces.items = omega (arith, c.len.ensures, c.items.pieces.ok.0) in
    let fault = Goes-refused _ _ _ _ _ _ _ _ c.number_of.new.names.texts _ c.in-Some.spot c.item_at-item.result _ c.in-Piece.kind _ _ _ _ c.in_err-name.field-0.0 stands.goes c.in-Some.ensures c.item_at-item.ensures.item c.in-Some-size.ensures c.in-Piece.is (c.as_slice-spelling.ensures.value ∙ c.in-Ok.ensures.text) stands.table.limit counted c.place-place.ensures c.in_err-name.ensures.named in
    let p = err_from_is_err_and c.from_residual.result c.from_residual.ensures.1 in
    rw (p.1, p.2) fault

pub items-preserved : goal.items-preserved
items-preserved c =
    let stands = c.items.invariant in
    let found = c.in_ok-name.ensures in
    let counted : c.len.result ≡ length c.items.pieces.items = omega (arith, c.len.ensures, c.items.pieces.ok.0) in
    let named = rw (stands.table.limit, counted) at found.named in
    let goes = Goes-piece _ _ _ _ _ _ _ _ c.number_of.new.names.texts _ _ c.in-Some.spot c.item_at-item.result _ c.in-Piece.kind _ c.in_ok-name.name c.place-place.result stands.goes c.in-Some.ensures c.item_at-item.ensures.item c.in-Some-size.ensures c.in-Ok.ensures.place c.in-Piece.is (c.as_slice-spelling.ensures.value ∙ c.in-Ok.ensures.text) named in
    record {
      goes = rw (c.in-Ok-push.ensures.items, c.place-place.ensures, c.is_begin.ensures, c.after-line.ensures) goes;
      short = omega (arith, ap length c.in-Ok.ensures.place, length-drop c.in-Some-size.size c.items.rest, stands.short);
      few = few_more _ _ _ _ c.in-Ok-push.ensures.items counted found.named.1;
      table = kept_on _ _ _ stands.table found.limit found.numbers found.distinct found.within;
    }

pub returns-in_err-name-clause-table : goal.returns-in_err-name-clause-table
returns-in_err-name-clause-table c =
    let found = c.in_err-name.ensures in
    kept_on _ _ _ c.items.invariant.table found.limit found.numbers found.distinct found.within

pub returns-in_default-size-clause-table : goal.returns-in_default-size-clause-table
returns-in_default-size-clause-table c = c.items.invariant.table

pub returns-clause-table : goal.returns-clause-table
returns-clause-table c = c.items.invariant.table
