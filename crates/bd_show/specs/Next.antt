-- The command that goes on from a case or a trail that is saved.
use Rattle.std.specs.Prelude.{ℕ, List, [], ◌∷◌, ◌++◌, codes, Option, Some, None}
use Rattle.bd_about.specs.declared.asking.Finding.{Finding}
use Rattle.bd_about.specs.declared.asking.Finding.TheVariants.{Wrong}
use Rattle.bd_app.specs.Words.{Name}
use Rattle.bd_show.specs.Files.{Names}

abbrev pub spaced_if : Option Name → List ℕ
spaced_if None = []
spaced_if (Some name) = 32 ∷ name

-- an empty line, and `next: bd_view COMMAND PIPE SPEC SAVED INV`, where there is an INV
abbrev pub next_line : List ℕ → Names → Name → List ℕ
next_line command names saved =
    codes "\nnext: bd_view" ++ (32 ∷ command ++ (32 ∷ names.pipe ++ (32 ∷ names.spec
    ++ (32 ∷ saved ++ (spaced_if names.inv ++ codes "\n")))))

-- this line after `wrong`, if a name is given
abbrev pub goes_on : List ℕ → Names → Option Name → Finding → List ℕ
goes_on command names (Some saved) (Wrong k) = next_line command names saved
goes_on command names _ _ = []
