-- What maps and sets of names hold, and what is kept of a file.
use Rattle.std.specs.Prelude.{ℕ, Bool, List, map, Option, Some, None, nat_eq}
use Rattle.indexmap.specs.IndexMap.{get_by}
use Rattle.indexmap.specs.IndexSet.{contains_by}
use lib.Pointwise.{pointwise}
use Rattle.bd_model.specs.declared.design.Symbol as symbol
use Rattle.bd_model.specs.ExprView.{expr_view}
use Rattle.bd_model.specs.DesignView.{local_view, port_view, exact_view}
use Rattle.bd_typer.specs.declared.names.Meaning.{Meaning}
use Rattle.bd_typer.specs.declared.names.NameMap.{NameMap}
use Rattle.bd_typer.specs.declared.names.Outer.{Outer}
use Rattle.bd_typer.specs.declared.names.Lookup.{Lookup}
use Rattle.bd_typer.specs.declared.names.NameSet.{NameSet}
use Rattle.bd_typer.specs.declared.scope.Scope.{Scope}
use Rattle.bd_typer.specs.declared.walk.Typed.{Typed}
use Rattle.bd_typer.specs.NameMap as names
use Rattle.bd_typer.specs.Walk as walk
use Rattle.bd_typer.specs.Joined as joined
use Rattle.bd_model.specs.Abstraction.{abstraction_view}
use Rattle.bd_typer.specs.declared.joining.Claims.{Claims}
use Rattle.bd_typer.specs.declared.joining.TypedInv.{TypedInv}
use Rattle.bd_typer.specs.declared.joining.TypedMachine.{TypedMachine}

abbrev pub meanings : NameMap → List ℕ → Option Meaning
meanings names text = get_by (λ key. pointwise nat_eq text key.now) names.map

-- what a text means in a file, else what it means outside
abbrev pub or_else : Option Meaning → Option Meaning → Option Meaning
or_else (Some meaning) outer = Some meaning
or_else None outer = outer

abbrev pub meanings_within : Option Outer → names.NameMap → names.NameMap
meanings_within None own = own
meanings_within (Some outer) own = λ text.
    or_else (own text) (names.shared_names (meanings outer.pipe.now) (meanings outer.spec.now) text)

abbrev pub lookup_names : Lookup → List ℕ → Option Meaning
lookup_names lookup = meanings_within lookup.outer (meanings lookup.own.now)

abbrev pub members : NameSet → List ℕ → Bool
members texts text = contains_by (λ key. pointwise nat_eq text key.now) texts.set

abbrev pub scope_view : Scope → List symbol.Symbol → names.Scope
scope_view scope symbols = record {
  names = meanings scope.names;
  entries = scope.entries;
  inputs = scope.inputs;
  symbols = symbols;
}

abbrev pub typed_view : Option Outer → Typed → walk.Typed
typed_view outer t = record {
  names = meanings_within outer (meanings t.names);
  ports = map port_view t.ports;
  locals = map local_view t.locals;
  flags = t.flags.items;
  nexts = map expr_view t.nexts.items;
  exact = map exact_view t.exact;
  distinct = t.distinct;
}

abbrev pub inv_view : TypedInv → joined.TypedInv
inv_view inv = record { locals = map local_view inv.locals; value = expr_view inv.value }

abbrev pub claims_view : Claims → joined.Claims
claims_view c = record { abs = abstraction_view c.abs; inv = inv_view c.inv }

abbrev pub machine_view : TypedMachine → List symbol.Symbol → joined.TypedMachine
machine_view m symbols = record {
  entries = m.entries;
  symbols = symbols;
  typed = typed_view None m.typed;
}
