-- The calls on an object in memory have the numbers 1, 2, 3, .., of which a list names those that
-- are to fail.
-- Source: this project's own interface to files and sinks.
use Rattle.std.specs.Prelude.{ℕ, ◌+◌, Option, Some, None, nat_lt, if◌then◌else◌}
use Rattle.bd_files.specs.Devices.{last_count}

-- the number of the call after the next one; a list of 64-bit numbers names no call past the
-- largest of them
abbrev pub number_after : Option ℕ → Option ℕ
number_after None = None
number_after (Some number) = if nat_lt number last_count then Some (number + 1) else None
