-- The arity and sort that a design gives its symbols: functions and predicates, first latches and memories, inputs.
use Rattle.std.specs.Prelude.{◌≡◌, ℕ, List, ◌⊎◌, Contains, Option, Some, None, slice_get}
use Rattle.bd_model.specs.DesignView.{DesignView, PortView}
use Rattle.bd_model.specs.Fits.{result_sort}
use Rattle.bd_model.specs.declared.design.Sort.{Sort}
use Rattle.bd_model.specs.declared.design.Sort.TheVariants as sort
use Rattle.bd_model.specs.declared.design.Symbol.{Symbol}
use Rattle.bd_model.specs.declared.design.Entry as entry
use Rattle.bd_terms.specs.declared.node.Sym.{Sym}
use Rattle.bd_terms.specs.declared.node.Sym.TheVariants as sym
use Rattle.bd_terms.specs.declared.node.Node.{Node}
use Rattle.bd_terms.specs.Graph.{Extends, KeepsSymbol, Use, uses}

abbrev pub function_use : ℕ → Option Symbol → Option Use
function_use f (Some y) =
    Some (record { symbol = sym.Function f; arity = y.arity; sort = result_sort y })
function_use f None = None

-- a first memory is a function of an address
abbrev pub sort_use : Sym → Sort → Use
sort_use s sort.Memory = record { symbol = s; arity = 1; sort = sort.Word }
sort_use s sort.Bool = record { symbol = s; arity = 0; sort = sort.Bool }
sort_use s sort.Word = record { symbol = s; arity = 0; sort = sort.Word }

abbrev pub entry_use : ℕ → Option entry.Entry → Option Use
entry_use i (Some x) = Some (sort_use (sym.Entry i) x.sort)
entry_use i None = None

abbrev pub port_use : ℕ → Option PortView → Option Use
port_use i (Some p) = Some (sort_use (sym.Input i) p.sort)
port_use i None = None

-- the arity and sort that the design gives a symbol, if it is one of the design's
abbrev pub declared_use : DesignView → Sym → Option Use
declared_use d (sym.Function f) = function_use f (slice_get d.symbols f)
declared_use d (sym.Entry i) = entry_use i (slice_get d.pipe.entries i)
declared_use d (sym.Input i) = port_use i (slice_get d.pipe.ports i)
declared_use d (sym.Address i) = None
declared_use d (sym.Var n) = None

abbrev pub IsDeclared : DesignView → Use → Type 0
IsDeclared d u = declared_use d u.symbol ≡ Some u

-- each symbol of the design that the graph holds has there the arity and sort that the design gives it
pub record KeepsDesign (d : DesignView) (nodes : List Node) : Type 0 where
  pub keeps : (u : Use) → IsDeclared d u → KeepsSymbol nodes u.symbol u.arity u.sort

-- the graph grows by further nodes, which apply symbols of the design alone, with their arity and sort
pub record GrowsWithin (d : DesignView) (old new : List Node) : Type 0 where
  pub extends : Extends old new
  pub within : (u : Use) → Contains (uses new) u → Contains (uses old) u ⊎ IsDeclared d u
