-- A design as clauses see it, without pointers and capacities.
use Rattle.std.specs.Prelude.{ℕ, List, map}
use Rattle.bd_model.specs.ExprView.{ExprView, expr_view, expr_views, list_of_views}
use Rattle.bd_model.specs.declared.design.Sort.{Sort}
use Rattle.bd_model.specs.declared.design.Symbol.{Symbol}
use Rattle.bd_model.specs.declared.design.Entry.{Entry}
use Rattle.bd_model.specs.declared.design.Port.{Port}
use Rattle.bd_model.specs.declared.design.Local.{Local}
use Rattle.bd_model.specs.declared.design.Exact.{Exact}
use Rattle.bd_model.specs.declared.design.Machine.{Machine}
use Rattle.bd_model.specs.declared.design.Design.{Design}

pub record LocalView : Type 0 where
  pub sort : Sort
  pub value : ExprView

pub record PortView : Type 0 where
  pub name : List ℕ
  pub sort : Sort
  pub idle : ExprView

pub record ExactView : Type 0 where
  pub count : ℕ
  pub when : ExprView

pub record MachineView : Type 0 where
  pub entries : List Entry
  pub ports : List PortView
  pub locals : List LocalView
  pub nexts : List ExprView

pub record DesignView : Type 0 where
  pub pipe : MachineView
  pub spec : MachineView
  pub symbols : List Symbol
  pub visible : List ℕ
  pub flush : ℕ
  pub steps : ℕ
  pub inv_locals : List LocalView
  pub inv : ExprView
  pub exact : List ExactView
  pub distinct : List (List ℕ)

abbrev pub local_view : Local → LocalView
local_view l = record { sort = l.sort; value = expr_view l.value }

abbrev pub port_view : Port → PortView
port_view p = record { name = p.name; sort = p.sort; idle = expr_view p.idle }

abbrev pub exact_view : Exact → ExactView
exact_view e = record { count = e.count; when = expr_view e.when }

abbrev pub machine_view : Machine → MachineView
machine_view m = record {
  entries = m.entries;
  ports = map port_view m.ports;
  locals = map local_view m.locals;
  nexts = list_of_views (expr_views m.nexts);
}

abbrev pub design_view : Design → DesignView
design_view d = record {
  pipe = machine_view d.pipe;
  spec = machine_view d.spec;
  symbols = d.symbols;
  visible = d.visible;
  flush = d.flush;
  steps = d.steps;
  inv_locals = map local_view d.inv_locals;
  inv = expr_view d.inv;
  exact = map exact_view d.exact;
  distinct = d.distinct;
}
