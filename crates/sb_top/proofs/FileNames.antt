-- the names of files among the words of a command line
use Rattle.std.proofs.Common.{◌≡◌, ◌≤◌, ℕ, zero, suc, Bool, false, nat_eq, List, length, map, arith}
use Rattle.std.specs.List.{list_all}
use Rattle.std.proofs.lemmas.List.{length-map}
use Rattle.std.proofs.lemmas.List.Folds.{list_all-map}
use Rattle.std.proofs.lemmas.Bool.{le-leb}
use Rattle.sb_top.specs.Words.{is_file_name, are_file_names}

-- 1 to 256 words that name files each
pub are_named : {Z : Type 0} (f : Z → List ℕ) (ws : List Z) (b : Bool) → 1 ≤ length ws → length ws ≤ 256 → b ≡ list_all (λ w. is_file_name (f w)) ws → b ≡ are_file_names (map f ws)
are_named f ws b some few is = rw (length-map ws f, le-leb 1 (length ws) some, le-leb (length ws) 256 few, list_all-map is_file_name f ws) is

-- a list that is not empty
pub some_there : (n : ℕ) (empty : Bool) → empty ≡ nat_eq n 0 → empty ≡ false → 1 ≤ n
some_there zero empty is not = cc
some_there (suc n) empty is not = omega arith
