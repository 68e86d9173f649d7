-- Tseitin's form has no more variables than there are nodes, since each is that of a node of its own.
use Rattle.std.proofs.Common.{◌≡◌, ℕ, ◌+◌, ◌<◌, ◌≤◌, true, false, List, length, get_or, eqb, ap, sym, ◌∙◌, arith}
use Rattle.std.specs.List.{list_any}
use Rattle.std.proofs.lemmas.Bool.{eqb-true, ne_eqb}
use Rattle.std.proofs.lemmas.List.{get_or_default}
use Rattle.std.proofs.lemmas.Map.Keys.{IsDistinct-from_apart}
use Rattle.std.proofs.lemmas.Map.Steps.{length-le_from_distinct_below}
use Rattle.std.proofs.lemmas.Map.Views.{Contains-from_any}
use Rattle.std.proofs.lemmas.Option.{slice_get_within}
use Rattle.bd_prop.specs.declared.node.PropNode.{PropNode}
use Rattle.bd_cnf.specs.Literal.{Literal, literal}
use Rattle.bd_tseitin.specs.declared.row.AtomVar.{AtomVar}
use Rattle.bd_tseitin.specs.Form.{IsTseitin}

pub few-variables : (nodes : List PropNode) (root vars : ℕ) (clauses : List (List Literal)) (rows : List AtomVar) (most : ℕ) → IsTseitin nodes root vars clauses rows → length nodes < most → vars < most
few-variables nodes root vars clauses rows most form small =
    let fewer : length form.gates ≤ length nodes = length-le_from_distinct_below form.gates (length nodes) (IsDistinct-from_apart eqb form.gates apart) within in
    omega (arith, form.counted, small, fewer)
  where
    variable_at : (k d : ℕ) → k < length form.gates → form.literal_of (get_or form.gates k d) ≡ literal (k + 1) true
    variable_at k d lt = ap form.literal_of (get_or_default form.gates k d 0 lt) ∙ form.numbered k lt

    apart : (i j d : ℕ) → i < j → j < length form.gates → eqb (get_or form.gates i d) (get_or form.gates j d) ≡ false
    apart i j d less lt = ne_eqb (get_or form.gates i d) (get_or form.gates j d) (λ same.
        let one : literal (i + 1) true ≡ literal (j + 1) true = sym (variable_at i d (omega arith)) ∙ ap form.literal_of same ∙ variable_at j d lt in
        let number : i + 1 ≡ j + 1 = ap (λ (l : Literal). l.var) one in
        absurd (omega arith))

    within : (q : ℕ) → list_any (eqb q) form.gates ≡ true → q < length nodes
    within q h =
        let gate = (form.are_gates q).0 (Contains-from_any eqb-true q form.gates h) in
        slice_get_within nodes q gate.0 gate.1
