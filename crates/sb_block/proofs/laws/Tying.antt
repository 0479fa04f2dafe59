-- The readers of statements of each depth keep the laws; and what that comes to in the grammar's words.
use Rattle.std.proofs.Common.{◌≡◌, ◌≤◌, ℕ, zero, suc, Bool, true, false, not, List, [], ◌∷◌, refl, ap, arith}
use Rattle.sb_base.specs.declared.interning.Name.{Name}
use Rattle.sb_base.specs.declared.tokens.Token.{Token}
use Rattle.sb_parse.specs.Parser.{at_next, refuse}
use Rattle.sb_parse.specs.Lawful.{OnHead}
use Rattle.sb_parse.proofs.Heads.{headed}
use Rattle.sb_sign.specs.declared.sign.Mark.TheVariants as mark
use Rattle.sb_tree.specs.Trees.{depth_of_stmt}
use Rattle.sb_lexicon.specs.Tokens.{too_deep}
use Rattle.sb_parse.proofs.Ways.{Refuses, one_refuses, both_refuse}
use Rattle.sb_specifier.specs.declared.seat.Seat.TheVariants as seat
use Rattle.sb_specifier.specs.Specified.{reading}
use Rattle.sb_specifier.specs.Readers.{is_close_brace, barred}
use Rattle.sb_specifier.proofs.laws.Barring.{barred_refuses}
use Rattle.sb_parse.proofs.Choices.{refusing}
use Rattle.sb_statement.specs.Readers.{Body, begins_statement, statements}
use Rattle.sb_statement.proofs.laws.Chains.{AMark}
use Rattle.sb_statement.proofs.laws.Fits.{plain, more_body, OneItem, LawfulStatements}
use Rattle.sb_block.proofs.laws.Blocks.{some_stmt, block_law}
use Rattle.sb_statement.proofs.tokens.Begins.{begins_item, item_off, item_begins}
use Rattle.sb_block.proofs.laws.Statements.{statement_law}
use Rattle.sb_block.proofs.laws.Items.{item_law}
use Rattle.sb_statement.proofs.laws.First.{first_law}

module _ (texts : List (List ℕ)) where
  not_closed : (types : List Name) (ts : List Token) → at_next (begins_item (reading texts types)) ts ≡ true → at_next (λ t. not (is_close_brace (plain texts) t)) ts ≡ true
  not_closed types [] h = absurd (cc h)
  not_closed types (t ∷ ts) h = ap not (item_off texts types (AMark mark.CloseBrace) t refl refl h)

  none_fits : (cases : Bool) (b c : Body) (ts : List Token) → OneItem texts 0 cases b ts c → ⊥
  none_fits cases b c ts o = let some : 1 ≤ depth_of_stmt o.statement = some_stmt o.statement in let none : depth_of_stmt o.statement ≤ 0 = o.fits in absurd (omega arith)

  -- items without room are refused
  no_items : (cases : Bool) (b : Body) (ts : List Token) → Refuses ((statements texts 0).item cases b) ts
  unfolding statements
  no_items cases b ts = both_refuse (begins_statement (reading texts b.types) cases) (refuse too_deep) (barred (reading texts b.types) seat.Scope) ts (one_refuses too_deep ts) (barred_refuses (reading texts b.types) seat.Scope ts)

  items_at : (left : ℕ) (cases : Bool) → (1 ≤ left → LawfulStatements texts left (statements texts left)) → (b : Body) → OnHead (λ t. not (is_close_brace (plain texts) t)) (OneItem texts left cases b) (more_body texts) ((statements texts left).item cases b)
  items_at zero cases S b = refusing (λ t. not (is_close_brace (plain texts) t)) (OneItem texts 0 cases b) (more_body texts) ((statements texts 0).item cases b) (no_items cases b) (λ ts c o. none_fits cases b c ts o)
  items_at (suc below) cases S b = headed ((S (omega arith)).item cases b) (λ t. not (is_close_brace (plain texts) t)) (λ ts c o. not_closed b.types ts (item_begins texts (suc below) cases b c ts o))

  pub lawful_statements : (left : ℕ) → 1 ≤ left → LawfulStatements texts left (statements texts left)
  unfolding statements
  lawful_statements zero some = absurd (omega arith)
  lawful_statements (suc below) some =
      let S : 1 ≤ below → LawfulStatements texts below (statements texts below) = lawful_statements below in
      record {
        statement = λ cases types. statement_law texts below (statements texts below) types cases S (items_at below false S);
        block = λ cases types. block_law texts below (statements texts below) types cases (items_at below cases S);
        item = λ cases b. item_law texts below (statements texts below) cases b S (items_at below false S);
        first = λ types. first_law texts below (statements texts below) types;
      }
