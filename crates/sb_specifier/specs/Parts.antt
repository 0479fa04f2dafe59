-- The parts of the readers of specifiers that are functions of their own in code.
use Rattle.std.specs.Prelude.{ℕ, suc, ◌+◌, ◌-◌, Bool, true, false, ◌&&◌, not, List, [], ◌∷◌, ◌++◌, nat_lt, Option, Some, None, if◌then◌else◌}
use Rattle.sb_base.specs.declared.interning.Name.{Name}
use Rattle.sb_base.specs.declared.refusals.Place.{Place}
use Rattle.sb_base.specs.declared.tokens.Token.{Token}
use Rattle.sb_parse.specs.Parser.{Parser, ◌>>=◌, pure, refuse, token, taken, choose, guard, looped}
use Rattle.sb_sign.specs.declared.sign.Keyword.{Keyword}
use Rattle.sb_sign.specs.declared.sign.Keyword.TheVariants as keyword
use Rattle.sb_tree.specs.Plain.{item_list}
use Rattle.sb_tree.specs.Trees as tree
use Rattle.sb_tree.specs.Trees.{OptionalExpr, TypeTree}
use Rattle.sb_expr.specs.Expression.{Conditional}
use Rattle.sb_lexicon.specs.Lexicon.{Lexicon, is_keyword, is_type_name}
use Rattle.sb_lexicon.specs.Tokens as expr
use Rattle.sb_expr.specs.Readers.{expr_reader}
use Rattle.sb_lexicon.specs.SpecifierReaders.{is_floating, is_union, is_complex}
use Rattle.sb_lexicon.specs.Tokens.{unexpected, too_deep, is_zero, is_comma, is_open_brace}
use Rattle.sb_lexicon.specs.Words.{Whole, is_nothing}
use Rattle.sb_specifier.specs.declared.seat.Seat.{Seat}
use Rattle.sb_specifier.specs.Readers.{Declarations, Items, barred, barred_by, is_assign, is_close_brace, is_name, is_storage_word, name_at, storage_after, word_after, is_structure}
use Rattle.sb_specifier.specs.Specified.{Specified, without, reading, saying, constantly, scoped, one_if, depth_said, is_tag_alone}

-- ---- enumerations

-- a comma, where there is one
abbrev pub comma_behind : Lexicon → Parser Token Bool
comma_behind w = choose (is_comma w) (token unexpected (is_comma w) >>= (λ t. pure true)) (pure false)

abbrev pub item_value : Lexicon → ℕ → Parser Token OptionalExpr
item_value w left = choose (is_assign w) (guard (is_zero left) too_deep (token unexpected (is_assign w) >>= (λ t. expr_reader w left Conditional >>= (λ e. pure (tree.AnExpr e))))) (pure tree.NoExpr)

abbrev pub item : List (List ℕ) → ℕ → Items → Parser Token Items
item texts left is = if is.more
    then taken unexpected (name_at (reading texts is.types)) >>= (λ n. item_value (reading texts is.types) left >>= (λ v. comma_behind (reading texts is.types) >>= (λ more.
    pure (record { list = is.list ++ (tree.Item n.0 v n.1 ∷ []); types = without n.0 is.types; more = more }))))
    else refuse unexpected

abbrev pub items : List (List ℕ) → ℕ → List Name → Parser Token Items
items texts left types = item texts left (record { list = []; types = types; more = true }) >>= looped (is_name (reading texts types)) (item texts left)

abbrev pub enumeration : List (List ℕ) → ℕ → Specified → Option Name → Place → Parser Token Specified
enumeration texts below s tag place = token unexpected (is_open_brace (reading texts s.types)) >>= (λ o. items texts (below - suc (one_if s.constant)) s.types >>= (λ is.
    token unexpected (is_close_brace (reading texts s.types)) >>= (λ c. pure (scoped is.types (saying (Whole (tree.Enum tag (tree.Listed (item_list is.list)) place)) s)))))

-- ---- specifiers

abbrev pub tagged_enumeration : List (List ℕ) → ℕ → Specified → Parser Token Specified
tagged_enumeration texts below s = token unexpected (is_keyword (reading texts s.types) keyword.Enum) >>= (λ t.
    choose (is_open_brace (reading texts s.types)) (enumeration texts below s None t.place)
    (taken unexpected (name_at (reading texts s.types)) >>= (λ n. choose (is_open_brace (reading texts s.types)) (enumeration texts below s (Some n.0) n.1)
    (pure (saying (Whole (tree.Enum (Some n.0) tree.Unlisted n.1)) s)))))

abbrev pub constant : List (List ℕ) → ℕ → Specified → Parser Token Specified
constant texts below s = guard (not s.constant && nat_lt below (suc (depth_said s.said))) too_deep (token unexpected (is_keyword (reading texts s.types) keyword.Const) >>= (λ t. pure (constantly s)))

-- a word of an arithmetic type, or one that is left out
abbrev pub word_or_lacking : List (List ℕ) → Specified → Parser Token Specified
word_or_lacking texts s =
    choose (is_floating (reading texts s.types) s.said) (refuse expr.floating)
    (choose (is_union (reading texts s.types) s.said) (refuse expr.union)
    (choose (is_keyword (reading texts s.types) keyword.Volatile) (refuse expr.volatile)
    (choose (is_complex (reading texts s.types) s.said) (refuse expr.complex)
    (taken unexpected (word_after (reading texts s.types) s)))))

abbrev pub is_inline : List (List ℕ) → Seat → Token → Bool
is_inline texts seat t = is_keyword (reading texts []) keyword.Inline t && not (is_structure seat)

-- a word that says nothing that a tree keeps
abbrev pub skipped : List (List ℕ) → Keyword → Specified → Parser Token Specified
skipped texts k s = token unexpected (is_keyword (reading texts s.types) k) >>= (λ t. pure s)

-- one specifier that begins with a keyword, and names no tag
abbrev pub tagless : List (List ℕ) → Seat → ℕ → Specified → Parser Token Specified
tagless texts seat below s =
    choose (is_keyword (reading texts s.types) keyword.Const) (constant texts below s)
    (choose (is_keyword (reading texts s.types) keyword.Restrict) (token unexpected (is_keyword (reading texts s.types) keyword.Restrict) >>= (λ t. pure s))
    (choose (is_inline texts seat) (token unexpected (is_inline texts seat) >>= (λ t. pure s))
    (choose (is_storage_word (reading texts s.types)) (taken unexpected (storage_after (reading texts s.types) seat s))
    (word_or_lacking texts s))))

-- a brace defines what a tag names: it stands at the tag, and behind no other specifier
abbrev pub past_tag : List (List ℕ) → Specified → Parser Token Specified
past_tag texts s = choose (λ t. is_tag_alone s.said && is_open_brace (reading texts s.types) t) (refuse unexpected) (pure s)

abbrev pub names_type : List (List ℕ) → Specified → Token → Bool
names_type texts s t = is_nothing s.said && is_type_name (reading texts s.types) t

abbrev pub typedef_name : List (List ℕ) → Specified → Parser Token Specified
typedef_name texts s = token unexpected (names_type texts s) >>= (λ t. pure (saying (Whole (tree.Defined t.text t.place)) s))

abbrev pub completed : Specified → Option TypeTree → Parser Token (Specified × TypeTree)
completed s None = refuse unexpected
completed s (Some t) = pure (s, t)

-- ---- declarations

-- where no declaration of a seat may follow
abbrev pub none_follows : ℕ → Lexicon → Seat → Parser Token Declarations
none_follows = barred_by

-- where no declaration of a seat has room
abbrev pub no_declaration : Lexicon → Seat → Parser Token Declarations
no_declaration = barred
