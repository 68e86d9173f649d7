-- A case from values of atoms, as a fact that needs no memory.
use Rattle.std.proofs.Common.{◌≡◌, ℕ, zero, suc, ◌+◌, ◌≤◌, Bool, false, List, length, get_or, take, slice_get, Option, None, Some, unwrap_or, refl, ap, subst, arith}
use Rattle.std.proofs.Math.Seq.{take-length}
use Rattle.std.proofs.lemmas.Option.{slice_get-get_or}
use Rattle.bd_model.specs.DesignView.{DesignView}
use Rattle.bd_model.specs.Fits.{Fits}
use Rattle.bd_model.specs.declared.case.Case.{Case}
use Rattle.bd_model.specs.declared.table.Scalar.{Scalar}
use Rattle.bd_model.specs.declared.table.Scalar.TheVariants as scalar
use Rattle.bd_symbolic.specs.Widened.{HasLawfulSymbols}
use Rattle.bd_terms.specs.declared.node.Node.{Node}
use Rattle.bd_terms.specs.declared.node.Node.TheVariants.{True}
use Rattle.bd_terms.specs.Denotation.{World}
use Rattle.bd_terms.specs.Graph.{IsGraph}
use Rattle.bd_function.specs.declared.flat.FlatSym.{FlatSym}
use Rattle.bd_function.specs.Flat.{IsFlat}
use Rattle.bd_function.specs.Tables.{sym_tables, world_of_tables}
use Rattle.bd_prop.specs.declared.atom.Atom.{Atom}
use Rattle.bd_transitive.specs.declared.graph.Order.{Order}
use Rattle.bd_transitive.specs.Orders.{IsOrder}
use Rattle.bd_transitive.specs.Triangle.{MeetsTriangles, value_at}
use Rattle.bd_lift.specs.Decoded.{AreDecodedBy, decoded_word, edge_truths}
use Rattle.bd_lift.specs.Lifted.{AreKnown, IsLifted, TellsApart}
use Rattle.bd_lift.specs.inner.Built.{IsBuilt, functions_of, inputs_of, state_of}
use Rattle.bd_lift.specs.inner.Steps.{AreDecodedSo, decoded_at}
use Rattle.bd_lift.proofs.Decoding.{AreDecodedBy-sorts, AreDecodedSo-more, AreDecodedSo-none}
use Rattle.bd_lift.proofs.Fitting.{IsSettled, built-fits}
use Rattle.bd_lift.proofs.Worlds.{built-lifted}
use Rattle.bd_verify.proofs.ClassesExist.{HasClasses, classes-exist}

-- what is decoded of the first so many nodes
decoded-to : (nodes : List Node) → IsGraph nodes → (word : ℕ → ℕ) (atoms : List (Atom × Bool)) (n : ℕ) → n ≤ length nodes → (h : ℕ → Option Scalar) × AreDecodedSo (take n nodes) word atoms h
decoded-to nodes g word atoms zero le = (λ y. None, AreDecodedSo-none word atoms (λ y. None))
decoded-to nodes g word atoms (suc n) le =
    let before = decoded-to nodes g word atoms n (omega (arith, le)) in
    let node : Node = get_or nodes n True in
    let at : slice_get nodes n ≡ Some node = slice_get-get_or nodes n True (omega (arith, le)) in
    let is : n + 1 ≡ suc n = omega arith in
    let h : ℕ → Option Scalar = λ y. decoded_at word atoms node y (before.0 y) in
    (h, subst (λ k. AreDecodedSo (take k nodes) word atoms h) is (AreDecodedSo-more nodes g n node at word atoms before.0 h before.1 (λ y. refl)))

values-exist : (nodes : List Node) → IsGraph nodes → (order : Order) (atoms : List (Atom × Bool)) (classes : List ℕ) → (v : ℕ → Scalar) × AreDecodedBy nodes order atoms classes v
values-exist nodes g order atoms classes =
    let all = decoded-to nodes g (decoded_word order classes) atoms (length nodes) (omega arith) in
    let so : AreDecodedSo nodes (decoded_word order classes) atoms all.0 = subst (λ l. AreDecodedSo l (decoded_word order classes) atoms all.0) (take-length nodes) all.1 in (
      λ x. unwrap_or (all.0 x) (scalar.Bool false),
      record {
        words = λ x p. ap (λ o. unwrap_or o (scalar.Bool false)) (so.words x p);
        truths = λ x p. ap (λ o. unwrap_or o (scalar.Bool false)) (so.truths x p);
      },
    )

-- a fitting case that is lifted from the values
pub record HasCase (d : DesignView) (nodes : List Node) (syms : List FlatSym) (order : Order) (atoms : List (Atom × Bool)) : Type 0 where
  pub case : Case
  pub fits : Fits d case
  pub lifted : IsLifted nodes syms order atoms case

module _ (d : DesignView) (nodes : List Node) (root : ℕ) (syms : List FlatSym) (order : Order) (atoms : List (Atom × Bool)) where
  pub case-exists : HasLawfulSymbols d → IsGraph nodes → AreKnown d nodes syms → IsFlat nodes root syms → IsOrder order → MeetsTriangles order (value_at (edge_truths atoms order.edges))
      → TellsApart d syms order (value_at (edge_truths atoms order.edges)) → HasCase d nodes syms order atoms
  case-exists lawful g known flat is meets apart =
      let c : HasClasses order (value_at (edge_truths atoms order.edges)) = classes-exist order is (value_at (edge_truths atoms order.edges)) meets in
      let decoded = values-exist nodes g order atoms c.classes in
      let v : ℕ → Scalar = decoded.0 in
      let w : World = world_of_tables (sym_tables v nodes syms) in
      let k : Case = record { interp = functions_of (length order.vertices) w d.symbols; state = state_of w d.pipe.entries; inputs = inputs_of w d.pipe.ports } in
      let built : IsBuilt d (length order.vertices) w k.interp k.state k.inputs = record { functions = refl; entries = refl; ports = refl } in
      let settled : IsSettled d nodes syms order atoms c.classes v = record {
        lawful = lawful;
        known = known;
        root = root;
        flat = flat;
        order_is = is;
        are = record { agrees = c.agrees; below = c.below };
        by = decoded.1;
        sorts = AreDecodedBy-sorts nodes order atoms c.classes v decoded.1;
        apart = apart;
      } in
      record {
        case = k;
        fits = built-fits d nodes syms order atoms c.classes v settled k built;
        lifted = built-lifted d nodes syms order atoms c.classes v settled k built;
      }
