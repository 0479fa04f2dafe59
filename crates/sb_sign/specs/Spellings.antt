-- The spellings of annotations (SAL 2.0) with the arguments that each takes.
use Rattle.std.specs.Prelude.{ℕ, Bool, false, ◌&&◌, ◌||◌, List, ◌∷◌, length, take, nat_eq, nat_lt, Option, Some, None, if◌then◌else◌, codes}
use Rattle.std.specs.Str.{bytes_eq}
use Rattle.sb_sign.specs.Signs.{first_some}
use Rattle.sb_sign.specs.declared.spelling.Arguments.{Arguments}
use Rattle.sb_sign.specs.declared.spelling.Arguments.TheVariants as arguments

-- annotations of what is read
abbrev pub of_input : List ℕ → Option Arguments
of_input text =
    if bytes_eq text (codes "_In_") then Some arguments.Nothing
    else (if bytes_eq text (codes "_In_opt_") then Some arguments.Nothing
    else (if bytes_eq text (codes "_In_z_") then Some arguments.Nothing
    else (if bytes_eq text (codes "_In_opt_z_") then Some arguments.Nothing
    else (if bytes_eq text (codes "_In_reads_") then Some arguments.Size
    else (if bytes_eq text (codes "_In_reads_bytes_") then Some arguments.Size
    else (if bytes_eq text (codes "_In_reads_opt_") then Some arguments.Size
    else (if bytes_eq text (codes "_In_reads_bytes_opt_") then Some arguments.Size
    else (if bytes_eq text (codes "_In_range_") then Some arguments.Sizes
    else None))))))))

-- annotations of what is changed in place, and of pointers that are set
abbrev pub of_update : List ℕ → Option Arguments
of_update text =
    if bytes_eq text (codes "_Inout_") then Some arguments.Nothing
    else (if bytes_eq text (codes "_Inout_opt_") then Some arguments.Nothing
    else (if bytes_eq text (codes "_Outptr_") then Some arguments.Nothing
    else (if bytes_eq text (codes "_Outptr_result_maybenull_") then Some arguments.Nothing
    else (if bytes_eq text (codes "_Inout_updates_") then Some arguments.Size
    else (if bytes_eq text (codes "_Inout_updates_bytes_") then Some arguments.Size
    else (if bytes_eq text (codes "_Inout_updates_opt_") then Some arguments.Size
    else (if bytes_eq text (codes "_Outptr_result_buffer_") then Some arguments.Size
    else None)))))))

-- annotations of what is written whole, up to a zero, in part, or within a range
abbrev pub of_output_extent : List ℕ → Option Arguments
of_output_extent text =
    if bytes_eq text (codes "_Out_writes_all_") then Some arguments.Size
    else (if bytes_eq text (codes "_Out_writes_bytes_all_") then Some arguments.Size
    else (if bytes_eq text (codes "_Out_writes_all_opt_") then Some arguments.Size
    else (if bytes_eq text (codes "_Out_writes_z_") then Some arguments.Size
    else (if bytes_eq text (codes "_Out_writes_to_") then Some arguments.Sizes
    else (if bytes_eq text (codes "_Out_writes_bytes_to_") then Some arguments.Sizes
    else (if bytes_eq text (codes "_Out_writes_to_opt_") then Some arguments.Sizes
    else (if bytes_eq text (codes "_Out_range_") then Some arguments.Sizes
    else None)))))))

-- annotations of what is written
abbrev pub of_output : List ℕ → Option Arguments
of_output text =
    if bytes_eq text (codes "_Out_") then Some arguments.Nothing
    else (if bytes_eq text (codes "_Out_opt_") then Some arguments.Nothing
    else (if bytes_eq text (codes "_Out_writes_") then Some arguments.Size
    else (if bytes_eq text (codes "_Out_writes_bytes_") then Some arguments.Size
    else (if bytes_eq text (codes "_Out_writes_opt_") then Some arguments.Size
    else (if bytes_eq text (codes "_Out_writes_bytes_opt_") then Some arguments.Size
    else of_output_extent text)))))

-- annotations of results
abbrev pub of_result : List ℕ → Option Arguments
of_result text =
    if bytes_eq text (codes "_Ret_notnull_") then Some arguments.Nothing
    else (if bytes_eq text (codes "_Ret_maybenull_") then Some arguments.Nothing
    else (if bytes_eq text (codes "_Ret_z_") then Some arguments.Nothing
    else (if bytes_eq text (codes "_Ret_writes_") then Some arguments.Size
    else (if bytes_eq text (codes "_Ret_writes_bytes_") then Some arguments.Size
    else (if bytes_eq text (codes "_Ret_writes_maybenull_") then Some arguments.Size
    else (if bytes_eq text (codes "_Ret_writes_bytes_maybenull_") then Some arguments.Size
    else (if bytes_eq text (codes "_Ret_range_") then Some arguments.Sizes
    else None)))))))

-- annotations of members
abbrev pub of_field : List ℕ → Option Arguments
of_field text =
    if bytes_eq text (codes "_Field_size_") then Some arguments.Size
    else (if bytes_eq text (codes "_Field_size_full_") then Some arguments.Size
    else (if bytes_eq text (codes "_Field_size_opt_") then Some arguments.Size
    else (if bytes_eq text (codes "_Field_size_part_") then Some arguments.Sizes
    else None)))

-- conditions, and annotations around others
abbrev pub of_condition : List ℕ → Option Arguments
of_condition text =
    if bytes_eq text (codes "_Use_decl_annotations_") then Some arguments.Nothing
    else (if bytes_eq text (codes "_Check_return_") then Some arguments.Nothing
    else (if bytes_eq text (codes "_Must_inspect_result_") then Some arguments.Nothing
    else (if bytes_eq text (codes "_Pre_satisfies_") then Some arguments.Condition
    else (if bytes_eq text (codes "_Post_satisfies_") then Some arguments.Condition
    else (if bytes_eq text (codes "_Success_") then Some arguments.Condition
    else (if bytes_eq text (codes "__drv_allocatesMem") then Some arguments.Memory
    else (if bytes_eq text (codes "_Always_") then Some arguments.Note
    else (if bytes_eq text (codes "_On_failure_") then Some arguments.Note
    else (if bytes_eq text (codes "_When_") then Some arguments.GuardedNote
    else (if bytes_eq text (codes "_At_") then Some arguments.LocatedNote
    else None))))))))))

-- the arguments of the annotation that is spelled so
abbrev pub arguments_in : List ℕ → Option Arguments
arguments_in text = first_some (of_input text) (first_some (of_update text) (first_some (of_output text) (first_some (of_result text) (first_some (of_field text) (of_condition text)))))

-- ---- words that look like an annotation: `_` and a capital letter, or `__drv_`

abbrev pub is_capital : ℕ → Bool
is_capital b = nat_lt 64 b && nat_lt b 91

abbrev pub begins_reserved : List ℕ → Bool
begins_reserved (a ∷ (b ∷ rest)) = nat_eq a 95 && is_capital b
begins_reserved _ = false

abbrev pub looks_like_note : List ℕ → Bool
looks_like_note text = begins_reserved text || bytes_eq (take 6 text) (codes "__drv_")

abbrev pub begins_with : List ℕ → List ℕ → Bool
begins_with text front = bytes_eq (take (length front) text) front
