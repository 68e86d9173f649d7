-- The reads that are built, by memory and address.
use Rattle.std.specs.Prelude.{ℕ, Bool, ◌==◌, ◌&&◌, List, Option}
use Rattle.std.specs.Map.{lookup}
use Rattle.bd_memory.specs.declared.reads.ReadKey.{ReadKey}

abbrev pub is_read : ℕ → ℕ → ℕ → ℕ → Bool
is_read memory address m a = (memory == m) && (address == a)

abbrev pub is_key : ReadKey → ReadKey → Bool
is_key k l = is_read k.memory k.address l.memory l.address

-- the word that is kept for a memory at an address
abbrev pub known : List (ReadKey × ℕ) → ℕ → ℕ → Option ℕ
known words m a = lookup (is_key (record { memory = m; address = a })) words
