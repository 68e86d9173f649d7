-- Pairs of symbols that an equation compares.
use Rattle.std.specs.Prelude.{◌&&◌, ◌||◌, Bool, List, Option}
use Rattle.std.specs.List.{list_any}
use Rattle.bd_terms.specs.declared.node.Sym.{Sym}
use Rattle.bd_function.specs.Tables.{is_symbol}
use Rattle.bd_about.specs.declared.compared.SymbolPair.{SymbolPair}
use Rattle.bd_about.specs.inner.Owned.{is_found}

-- whether the pair is of these two, in this order
abbrev pub is_pair : Sym → Sym → SymbolPair → Bool
is_pair one other p = is_symbol one p.one && is_symbol other p.other

-- whether one of the pairs is
abbrev pub has_pair : List SymbolPair → Sym → Sym → Bool
has_pair pairs one other = list_any (is_pair one other) pairs

-- whether the symbols that are found for two variables are these two, in either order
abbrev pub are_found : Option Sym → Option Sym → Sym → Sym → Bool
are_found from to one other =
    (is_found (λ s. is_symbol s one) from && is_found (λ s. is_symbol s other) to)
    || (is_found (λ s. is_symbol s other) from && is_found (λ s. is_symbol s one) to)
