-- Texts of any bytes in reports and replies, escaped.
use Rattle.std.specs.Prelude.{ℕ, ◌+◌, ◌/◌, ◌%◌, List, [], ◌∷◌, Bool, ◌||◌, ◌&&◌, ◌==◌, nat_lt}
use Rattle.std.specs.Prelude.{nat_le, if◌then◌else◌, flat_map}

-- A-Z a-z 0-9 . _ - /
abbrev pub is_plain : ℕ → Bool
is_plain b =
    (nat_le 48 b && nat_le b 57) || (nat_le 65 b && nat_le b 90) || (nat_le 97 b && nat_le b 122)
    || b == 45 || b == 46 || b == 47 || b == 95

-- upper case
abbrev pub hex_digit : ℕ → ℕ
hex_digit n = if nat_lt n 10 then 48 + n else 55 + n

-- the byte as it is, if it is plain, else '%' and two hexadecimal digits
unfoldable pub escaped_byte : ℕ → List ℕ
escaped_byte b = if is_plain b then b ∷ [] else 37 ∷ hex_digit (b / 16) ∷ hex_digit (b % 16) ∷ []

abbrev pub escaped : List ℕ → List ℕ
escaped text = flat_map escaped_byte text
