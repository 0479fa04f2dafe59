-- What the values of the readers in code stand for in the definitions, and what a reader in code owes the reader that it computes.
use Rattle.std.specs.Prelude.{◌≡◌, ℕ, Some, Result, Ok, Err}
use Rattle.sb_base.specs.declared.tokens.Token.{Token}
use Rattle.sb_parse.specs.Parser.{Outcome, done, stop}
use Rattle.sb_tree.specs.Trees as tree
use Rattle.sb_lexicon.specs.declared.lexicon.Lexicon as declared_lexicon
use Rattle.sb_lexicon.specs.declared.reading.Feature.{Feature}
use Rattle.sb_lexicon.specs.declared.reading.Feature.TheVariants as feature
use Rattle.sb_lexicon.specs.declared.reading.Read.{Read}
use Rattle.sb_lexicon.specs.declared.reading.ReadFault.{ReadFault}
use Rattle.sb_lexicon.specs.declared.reading.ReadFault.TheVariants.{Refused, Memory}
use Rattle.sb_lexicon.specs.declared.reading.Reason.{Reason}
use Rattle.sb_lexicon.specs.declared.reading.Reason.TheVariants as reason
use Rattle.sb_lexicon.specs.declared.specifiers.Said as declared_said
use Rattle.sb_lexicon.specs.declared.specifiers.Said.TheVariants as said
use Rattle.sb_lexicon.specs.declared.specifiers.Specifiers as declared_specifiers
use Rattle.sb_lexicon.specs.Lexicon.{Lexicon}
use Rattle.sb_lexicon.specs.Tokens.{unexpected, too_deep, lacks, bad_arguments, bad_kind, unknown, unknown_before, misplaced, misplaced_before, too_many_parameters}
use Rattle.sb_lexicon.specs.Words.{Said, Nothing, Words, Whole, Specifiers}

-- what tokens are read by
abbrev pub meant : declared_lexicon.Lexicon → Lexicon
meant w = record { texts = w.names.now.texts; types = w.types.now; in_note = w.in_note }

abbrev pub feature_number : Feature → ℕ
feature_number feature.Floating = 1
feature_number feature.Union = 2
feature_number feature.BitField = 3
feature_number feature.FunctionPointer = 4
feature_number feature.VariableArray = 5
feature_number feature.VariableArguments = 6
feature_number feature.Volatile = 7
feature_number feature.Complex = 8
feature_number feature.OldDefinition = 9
feature_number feature.BackwardGoto = 10
feature_number feature.GotoIntoBlock = 11
feature_number feature.PointerCast = 12
feature_number feature.NumberCast = 13
feature_number feature.StructByValue = 14
feature_number feature.Designated = 15
feature_number feature.CompoundLiteral = 16

-- the number of a stop
abbrev pub stop_number : Reason → ℕ
stop_number reason.Unexpected = unexpected
stop_number reason.TooDeep = too_deep
stop_number (reason.Feature f) = lacks (feature_number f)
stop_number reason.Arguments = bad_arguments
stop_number (reason.ArgumentBefore count) = bad_kind count
stop_number reason.UnknownAnnotation = unknown
stop_number reason.UnknownAnnotationBefore = unknown_before
stop_number reason.Misplaced = misplaced
stop_number (reason.MisplacedBefore count) = misplaced_before count
stop_number reason.TooManyParameters = too_many_parameters

-- memory may be wanting anywhere
abbrev pub IsFault : {A : Type 0} → Outcome Token A → ReadFault → Type 0
IsFault o (Refused reason left) = o ≡ stop (stop_number reason) left
IsFault o Memory = Unit {0}

abbrev pub StopsAt : ℕ → ℕ → ReadFault → Type 0
StopsAt n left (Refused reason k) = (stop_number reason ≡ n) × (k ≡ left)
StopsAt n left Memory = ⊥

abbrev pub Gives : {A : Type 0} → Outcome Token A → Result (Read A) ReadFault → Type 0
Gives o (Ok r) = o ≡ done r.value r.rest.now
Gives o (Err e) = IsFault o e

-- the same where the value stands for another
abbrev pub GivesAs : {A B : Type 0} → (B → A) → Outcome Token A → Result (Read B) ReadFault → Type 0
GivesAs plain o (Ok r) = o ≡ done (plain r.value) r.rest.now
GivesAs plain o (Err e) = IsFault o e

abbrev pub plain_said : declared_said.Said → Said
plain_said said.Nothing = Nothing
plain_said (said.Words v place) = Words v place
plain_said (said.Struct tag place) = Whole (tree.Struct (Some tag) tree.Undeclared place)
plain_said (said.Enum tag place) = Whole (tree.Enum (Some tag) tree.Unlisted place)
plain_said (said.Defined name place) = Whole (tree.Defined name place)

abbrev pub plain_specifiers : declared_specifiers.Specifiers → Specifiers
plain_specifiers s = record { said = plain_said s.said; constant = s.constant }
