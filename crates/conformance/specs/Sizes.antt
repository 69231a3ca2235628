-- How many values a request has. Definitions only.
use Rattle.std.specs.Prelude.{ℕ, ◌+◌, ◌-◌, ◌/◌, Option, None, Some, ◌||◌, if◌then◌else◌, nat_lt}

-- the header of a request: four words
abbrev pub header : ℕ
header = 32

-- with the header at most 64 KiB
abbrev pub most_values : ℕ
most_values = (65536 - header) / 8

-- of two blocks together; none where that is too many, or where fewer bytes than the header's were got
unfoldable pub values_end : ℕ → ℕ → ℕ → Option ℕ
values_end got first second = if nat_lt got header || nat_lt most_values (first + second) then None else Some (first + second)
