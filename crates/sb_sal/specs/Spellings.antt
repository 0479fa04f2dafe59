-- On which declarations annotations stand (SAL 2.0), and how they are spelled.
use Rattle.std.specs.Prelude.{ℕ, Bool, true, false, ◌&&◌, ◌||◌, not, List, is_some, codes}
use Rattle.std.specs.Str.{bytes_eq}
use Rattle.sb_base.specs.declared.tokens.Token.{Token}
use Rattle.sb_lexicon.specs.Lexicon.{Lexicon, name_of}
use Rattle.sb_sal.specs.declared.bearer.Bearer.{Bearer}
use Rattle.sb_sal.specs.declared.bearer.Bearer.TheVariants as bearer
pub use Rattle.sb_sign.specs.Spellings.{of_input, of_update, of_output_extent, of_output, of_result, of_field, of_condition, arguments_in, is_capital, begins_reserved, looks_like_note, begins_with}
pub use Rattle.sb_lexicon.specs.Annotations.{own_word, word_of, begins_note, arguments_of, is_listed, is_unlisted}

abbrev pub is_mem : Lexicon → Token → Bool
is_mem w t = is_some (name_of w t) && bytes_eq (word_of w.texts t) (codes "Mem")

-- ---- on which declarations an annotation may stand

abbrev pub is_of_parameter : List ℕ → Bool
is_of_parameter text = begins_with text (codes "_In_") || (begins_with text (codes "_Out_") || (begins_with text (codes "_Inout_") || begins_with text (codes "_Outptr_")))

abbrev pub is_of_member : List ℕ → Bool
is_of_member text = begins_with text (codes "_Field_")

abbrev pub is_of_function : List ℕ → Bool
is_of_function text = begins_with text (codes "_Ret_") || (bytes_eq text (codes "__drv_allocatesMem") || (bytes_eq text (codes "_Success_") || (bytes_eq text (codes "_Use_decl_annotations_")
    || (bytes_eq text (codes "_Check_return_") || bytes_eq text (codes "_Must_inspect_result_")))))

abbrev pub on_parameter : List ℕ → Bool
on_parameter text = not (is_of_member text) && not (is_of_function text)

abbrev pub on_function : List ℕ → Bool
on_function text = not (is_of_member text) && not (is_of_parameter text)

-- the annotations that may stand on a declaration of a kind; on other objects and on types none does, and where the kind is not known yet each may
abbrev pub may_stand_by : Bearer → List ℕ → Bool
may_stand_by bearer.Parameter text = on_parameter text
may_stand_by bearer.Member text = is_of_member text
may_stand_by bearer.Function text = on_function text
may_stand_by bearer.Object text = false
may_stand_by bearer.Any text = true

abbrev pub may_stand : Lexicon → Bearer → Token → Bool
may_stand w bearer t = may_stand_by bearer (word_of w.texts t)
