-- The limits of texts, designs and runs.
use Rattle.std.specs.Prelude.{ℕ}

-- the most bytes of a text that is no proof, and so the most parts of a list in it
abbrev pub longest_text : ℕ
longest_text = 1048576

-- the most items of a list of a design, which may be of two texts
abbrev pub most_items : ℕ
most_items = 2097152

-- the most cycles of a trail
abbrev pub most_cycles : ℕ
most_cycles = 16
