-- where a cursor stands in a file
use Rattle.std.specs.Prelude.{◌≡◌, ℕ, ◌+◌, ◌≤◌, Bool, false, ◌&&◌, List, nat_eq, if◌then◌else◌, length, drop}
use Rattle.sb_lex.specs.Items.{byte_at}

-- a carriage return that belongs to the end of a line stands here
abbrev pub begins_return : List ℕ → Bool
begins_return bytes = nat_eq (byte_at bytes 0) 13 && nat_eq (byte_at bytes 1) 10

-- how many bytes the splice has that stands here, 0 if none does
abbrev pub splice_length : List ℕ → ℕ
splice_length bytes =
    if nat_eq (byte_at bytes 0) 92 then (if nat_eq (byte_at bytes 1) 10 then 2 else (if begins_return (drop 1 bytes) then 3 else 0))
    else 0

-- lines and columns of a file of at most 4 MiB
pub record IsNear (line col : ℕ) (bytes : List ℕ) : Type 0 where
  pub lines : line + length bytes ≤ 4194305
  pub cols : col + length bytes ≤ 4194305

-- the first of these bytes is one of the text
pub record IsInside (line col : ℕ) (bytes : List ℕ) : Type 0 where
  pub near : IsNear line col bytes
  pub no_return : begins_return bytes ≡ false
  pub no_splice : splice_length bytes ≡ 0
