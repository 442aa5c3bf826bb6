-- The bytes of names, of pins and in modules.
use Rattle.std.specs.Prelude.{ℕ, ◌==◌, Bool, ◌||◌}
use Rattle.std.specs.Char.{is_ascii_alphanumeric}

-- an ASCII letter, a digit or `_`
abbrev pub is_name_byte : ℕ → Bool
is_name_byte c = is_ascii_alphanumeric c || c == 95
