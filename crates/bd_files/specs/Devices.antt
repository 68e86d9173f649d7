-- What a collection of files holds and a sink has taken, and how their faults are counted.
-- Source: this project's own interface to the files and streams of the system that runs it.
use Rattle.std.specs.Prelude.{◌≡◌, ◌≢◌, ◌⊎◌, ℕ, ◌+◌, ◌-◌, ◌^◌, ◌<◌, List, ◌++◌, take, ◌==◌, if◌then◌else◌, Option, Some, None}
use Rattle.std.specs.Option.{option_map}
use Rattle.bd_files.specs.declared.devices.FileCall.{FileCall}

-- what is held under each name, a name being the bytes of its text: the file's bytes, or nothing
abbrev pub Held : Type 0
Held = List ℕ → Option (List ℕ)

-- a call that answered `Failed`: its kind and the name that it was given
abbrev pub Blame : Type 0
Blame = FileCall × List ℕ

-- a call on files: a load of a name, of which at most so many bytes are asked for, or a save of
-- bytes under a name
pub data Call : Type 0 where
  loading : List ℕ → ℕ → Call
  saving : List ℕ → List ℕ → Call

-- these calls were made after those before, where the object tells its calls; it may stop telling
abbrev pub Makes : Option (List Call) → Option (List Call) → List Call → Type 0
Makes None None calls = Unit {0}
Makes None (Some after) calls = ⊥
Makes (Some before) None calls = Unit {0}
Makes (Some before) (Some after) calls = after ≡ before ++ calls

-- so many puts were made, where the object tells the number that each raises; it may stop telling
abbrev pub Counts : Option ℕ → Option ℕ → ℕ → Type 0
Counts None None puts = Unit {0}
Counts None (Some after) puts = ⊥
Counts (Some before) None puts = Unit {0}
Counts (Some before) (Some after) puts = after ≡ before + puts

-- the largest 64-bit number, where a count of faults stays
abbrev pub last_count : ℕ
last_count = 2 ^ 64 - 1

-- the count of faults rose, unless it stood at its last value
abbrev pub Rose : ℕ → ℕ → Type 0
Rose old new = old ≢ last_count → old < new

-- `bytes` are what is held under the name, or of more than `most` bytes the first `most + 1`
abbrev pub IsLoaded : Option Held → List ℕ → ℕ → List ℕ → Type 0
IsLoaded None name most bytes = Unit {0}
IsLoaded (Some held) name most bytes = option_map (take (most + 1)) (held name) ≡ Some bytes

-- these bytes are held under the name
abbrev pub Holds : Option Held → List ℕ → List ℕ → Type 0
Holds None name bytes = Unit {0}
Holds (Some held) name bytes = held name ≡ Some bytes

-- what is held under every other name stands as it was
abbrev pub KeepsOthers : Option Held → Option Held → List ℕ → Type 0
KeepsOthers None after name = after ≡ None
KeepsOthers (Some held) None name = ⊥
KeepsOthers (Some held) (Some after) name =
    (other : List ℕ) → other ≢ name → after other ≡ held other

-- all the bytes were appended to what was written
abbrev pub Appends : Option (List ℕ) → Option (List ℕ) → List ℕ → Type 0
Appends old new bytes = new ≡ option_map (λ written. written ++ bytes) old

-- some of the first bytes, maybe none or all, were appended to what was written
abbrev pub AppendsPrefix : Option (List ℕ) → Option (List ℕ) → List ℕ → Type 0
AppendsPrefix old new bytes = (kept : ℕ) × Appends old new (take kept bytes)

-- a put of these bytes: all of them were appended, or the count of faults rose and some of the
-- first were
abbrev pub PutsOrFaults : {S : Type 0} → (S → Option (List ℕ)) → (S → ℕ) → S → S → List ℕ → Type 0
PutsOrFaults written faults old new bytes =
    Appends (written old) (written new) bytes
    ⊎ (Rose (faults old) (faults new) × AppendsPrefix (written old) (written new) bytes)

-- a count after one more fault
abbrev pub count_after : ℕ → ℕ
count_after count = if count == last_count then count else count + 1

-- how many faults came, and the call that the last one came from
pub record FaultRecord : Type 0 where
  pub count : ℕ
  pub blame : Option Blame

-- the record after a fault of this call
abbrev pub faulted : FaultRecord → FileCall → List ℕ → FaultRecord
faulted faults call name = record { count = count_after faults.count; blame = Some (call, name) }
