use Rattle.std.proofs.Common.{◌≡◌, ◌+◌, ◌++◌, ◌∷◌, [], get_or, take, sym, subst}
use Rattle.std.proofs.lemmas.List.{take_more}
use Rattle.bd_transitive.specs.declared.graph.Edge.{Edge}
use Rattle.bd_transitive.proofs.Ends.{no_edge}
use Rattle.bd_verify.specs.Kept.{AddsRows, AreVariables}
use Rattle.bd_verify.proofs.AddedRows.{AddsRows-keeps, AddsRows-none, AddsRows-trans, AreVariables-more, AreVariables-none}
use Rattle.bd_verify.proofs.numbers.Numbers.variables.Goals as goal

pub loop-edge-init : goal.loop-edge-init
loop-edge-init c =
    let n = c.args.self.now in
    record {
      numbered = c.requires;
      rows = AddsRows-none [] n.vars n.atoms c.requires.rows;
      variables = subst (AreVariables n.atoms []) (sym c.in_ok-variables.ensures.items) (AreVariables-none n.atoms);
    }

pub loop-edge-preserved : goal.loop-edge-preserved
loop-edge-preserved c =
    let old = c.args.self.now in
    let mid = c.loop-edge.self in
    let new = c.variable.new.self in
    let edges = c.args.edges.now in
    let i = c.loop-edge.edge-index in
    let edge : Edge = get_or edges i no_edge in
    let inv = c.loop-edge.invariant in
    let h = c.in_ok-variable.ensures in
    let next : take (i + 1) edges ≡ take i edges ++ edge ∷ [] = take_more edges i no_edge c.loop-edge-test.true in
    record {
      numbered = h.numbered;
      rows = subst (λ l. AddsRows l old.vars old.atoms new.vars new.atoms) (sym next)
          (AddsRows-trans (take i edges) (edge ∷ []) old.vars old.atoms mid.vars mid.atoms new.vars new.atoms inv.rows h.rows);
      variables = subst (λ l. AreVariables new.atoms l c.push.new.self.items) (sym next)
          (subst (AreVariables new.atoms (take i edges ++ edge ∷ [])) (sym c.in_ok-push.ensures.items)
          (AreVariables-more mid.atoms new.atoms (take i edges) c.loop-edge.variables.items edge c.in_ok-variable.field-0 inv.variables (AddsRows-keeps (edge ∷ []) mid.vars mid.atoms new.vars new.atoms h.rows) h.row));
    }
