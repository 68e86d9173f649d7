use Rattle.std.proofs.Common.{◌≡◌, List, ◌++◌, ℕ, Bor, map, ap, ◌∙◌, sym}
use Rattle.std.proofs.lemmas.Simd.{map-map}
use Rattle.bd_model.specs.DesignView.{PortView, port_view}
use Rattle.bd_model.specs.declared.design.Symbol.{Symbol}
use Rattle.bd_model.specs.declared.design.Entry.{Entry}
use Rattle.bd_model.specs.declared.design.Port.{Port}
use Rattle.bd_case.proofs.Remaining.{map_end}
use Rattle.bd_case.proofs.frame.names.Goals as goal

pub returns : goal.returns
returns c =
    let texts = λ (ns : List (Bor (List ℕ))). map (λ (b : Bor (List ℕ)). b.now) ns in
    let symbol_name = λ (y : Symbol). y.name in
    let entry_name = λ (x : Entry). x.name in
    let port_name = λ (p : Port). p.name in
    let symbols : texts c.loop-symbol.names.items ≡ map symbol_name c.args.design.now.symbols =
    map_end symbol_name (texts c.loop-symbol.names.items) c.as_slice-symbol-items.result.now c.loop-symbol.symbol-index _ c.loop-symbol-test.false c.loop-symbol.invariant
    ∙ ap (map symbol_name) c.as_slice-symbol-items.ensures in
    let entries : texts c.loop-entry.names.items ≡ texts c.loop-symbol.names.items ++ map entry_name c.args.design.now.pipe.entries =
    map_end entry_name (texts c.loop-entry.names.items) c.as_slice-entry-items.result.now c.loop-entry.entry-index _ c.loop-entry-test.false c.loop-entry.invariant
    ∙ ap (λ xs. texts c.loop-symbol.names.items ++ map entry_name xs) c.as_slice-entry-items.ensures in
    let ports : texts c.loop-port.names.items ≡ texts c.loop-entry.names.items ++ map port_name c.args.design.now.pipe.ports =
    map_end port_name (texts c.loop-port.names.items) c.as_slice-port-items.result.now c.loop-port.port-index _ c.loop-port-test.false c.loop-port.invariant
    ∙ ap (λ xs. texts c.loop-entry.names.items ++ map port_name xs) c.as_slice-port-items.ensures in
    ports
    ∙ ap (λ front. front ++ map port_name c.args.design.now.pipe.ports) (entries ∙ ap (λ front. front ++ map entry_name c.args.design.now.pipe.entries) symbols)
    ∙ ap (λ rest. (map symbol_name c.args.design.now.symbols ++ map entry_name c.args.design.now.pipe.entries) ++ rest)
    (sym (map-map (λ (p : PortView). p.name) port_view c.args.design.now.pipe.ports))
