-- What items name, in the program's own terms.
use Rattle.std.specs.Prelude.{ℕ, Bool, true, false, List, [], ◌∷◌, Option, Some, None}
use Rattle.std.specs.Borrow.{Bor}
use Rattle.bd_syntax.specs.Forms.{ItemView}
use Rattle.bd_syntax.specs.declared.form.Spot.{Spot}
use Rattle.bd_typer.specs.Declarations.{declared_name, entry_name, symbol_name, next_name, flush_offset, steps_offset}
use Rattle.bd_typer.specs.Joined.{flush_count, steps_count}
use Rattle.bd_typer.specs.declared.declarations.Role.{Role}
use Rattle.bd_typer.specs.declared.declarations.Role.TheVariants.{Declared, Entry, Symbol, Next}
use Rattle.bd_typer.specs.declared.declarations.Once.{Once}
use Rattle.bd_typer.specs.declared.declarations.Once.TheVariants.{Flush, Steps}
use Rattle.bd_typer.specs.declared.declarations.Counted.{Counted}
use Rattle.bd_typer.specs.inner.Located.{first_offset}

abbrev pub role_name : Role → ItemView → Option Spot
role_name Declared = declared_name
role_name Entry = entry_name
role_name Symbol = symbol_name
role_name Next = next_name

abbrev pub count_offset : Once → ItemView → Option ℕ
count_offset Flush = flush_offset
count_offset Steps = steps_offset

abbrev pub item_count : Once → ItemView → Option ℕ
item_count Flush = flush_count
item_count Steps = steps_count

-- the name that a reference has, if there is one
abbrev pub given : Option (Bor Spot) → List Spot
given None = []
given (Some name) = name.now ∷ []

abbrev pub counted_again : Bool → Option ℕ → ℕ → Counted
counted_again false again offset = record { given = true; again = again }
counted_again true again offset = record { given = true; again = first_offset again (Some offset) }

-- what was given, once an item is
abbrev pub counted_with : Counted → Option ℕ → Counted
counted_with c None = c
counted_with c (Some offset) = counted_again c.given c.again offset
