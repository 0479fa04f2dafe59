-- which groups of an `#if` are read (C99 6.10.1)
use Rattle.std.specs.Prelude.{Bool, true, false, ◌&&◌, ◌||◌, not, List, [], ◌∷◌}
use Rattle.sb_directive.specs.declared.directive.Branch.{Branch}

-- the text is read where each group around it is; the branches stand innermost first
abbrev pub is_read : List Branch → Bool
is_read [] = true
is_read (b ∷ bs) = b.reads

-- a new `#if` in text that is read, whose condition is so
abbrev pub new_branch : Bool → Branch
new_branch holds = record { around = true; reads = holds; taken = holds; after_else = false }

-- a new `#if` in text that is skipped
abbrev pub skipped_branch : Branch
skipped_branch = record { around = false; reads = false; taken = false; after_else = false }

-- the condition of an `#elif` counts where no group was read yet
abbrev pub may_read : Branch → Bool
may_read b = b.around && not b.taken

-- behind an `#elif` whose condition is so
abbrev pub next_group : Branch → Bool → Branch
next_group b holds = record { around = b.around; reads = holds; taken = b.taken || holds; after_else = false }

-- behind an `#else`
abbrev pub last_group : Branch → Branch
last_group b = record { around = b.around; reads = may_read b; taken = true; after_else = true }
