-- What truth terms say, and what stays where a graph grows.
use Rattle.std.proofs.Common.{◌≡◌, ℕ, Bool, true, false, ◌&&◌, ◌||◌, not, List, refl, ap, sym, subst}
use Rattle.std.specs.Prelude.{◌↔◌, ◌⊎◌, IsTrue}
use Rattle.std.proofs.lemmas.Bool.Decides.{Decides-and, Decides-not, Decides-or}
use Rattle.bd_model.specs.DesignView.{DesignView}
use Rattle.bd_model.specs.declared.design.Sort.{Sort}
use Rattle.bd_model.specs.declared.table.Scalar.{Scalar}
use Rattle.bd_model.specs.declared.table.Table.{Table}
use Rattle.bd_model.specs.declared.table.Value.{Value}
use Rattle.bd_terms.specs.declared.node.Node.{Node}
use Rattle.bd_terms.specs.Graph.{Extends}
use Rattle.bd_terms.specs.Denotation.{World, Truth, Denotes, truth, truth_of}
use Rattle.bd_terms.specs.Graph.{HasSort as TermHasSort}
use Rattle.bd_symbolic.specs.declared.state.SymState.{SymState}
use Rattle.bd_symbolic.specs.Symbolic.{DenoteValues, HaveSorts}
use Rattle.bd_symbolic.specs.States.{DenotesState, StateHasSorts}
use Rattle.bd_symbolic.proofs.Growing.{Denote-Extends}
use Rattle.bd_goal.specs.inner.Shown.{IsVisible, Says}
use Rattle.bd_symbolic.proofs.Arms.{truth-Extends}
use Rattle.bd_symbolic.proofs.States.{HaveSorts-inside, HaveSorts-Extends}

-- what a term says is what its truth value says
pub says_by : (w : World) (nodes : List Node) (id : ℕ) (claim : Type 0) (value : Bool) → truth w nodes id ≡ value → IsTrue value ↔ claim → Says w nodes id claim
says_by w nodes id claim value is h = subst (λ b. IsTrue b ↔ claim) (sym is) h

pub Says-later : (w : World) (old new : List Node) (id : ℕ) (s : Sort) (claim : Type 0) → Extends old new → TermHasSort old id s → Says w old id claim → Says w new id claim
Says-later w old new id s claim e h k = says_by w new id claim (truth w old id) (truth-Extends w old new e id s h) k

-- it says what is the same
pub Says-same : (w : World) (nodes : List Node) (id : ℕ) (claim other : Type 0) → claim ↔ other → Says w nodes id claim → Says w nodes id other
Says-same w nodes id claim other same k = (λ h. same.0 (k.0 h), λ h. k.1 (same.1 h))

pub Says-and : (w : World) (old new : List Node) (a b id : ℕ) (P Q : Type 0) → Says w old a P → Says w old b Q → Denotes new id (λ w. Truth (truth w old a && truth w old b)) → Says w new id (P × Q)
Says-and w old new a b id P Q h k is = says_by w new id (P × Q) (truth w old a && truth w old b) (ap truth_of (is.is w)) (Decides-and _ _ h k)

pub Says-or : (w : World) (old new : List Node) (a b id : ℕ) (P Q : Type 0) → Says w old a P → Says w old b Q → Denotes new id (λ w. Truth (truth w old a || truth w old b)) → Says w new id (P ⊎ Q)
Says-or w old new a b id P Q h k is = says_by w new id (P ⊎ Q) (truth w old a || truth w old b) (ap truth_of (is.is w)) (Decides-or _ _ h k)

pub Says-not : (w : World) (old new : List Node) (a id : ℕ) (P : Type 0) → Says w old a P → Denotes new id (λ w. Truth (not (truth w old a))) → Says w new id (¬ P)
Says-not w old new a id P h is = says_by w new id (¬ P) (not (truth w old a)) (ap truth_of (is.is w)) (Decides-not _ h)

implied : {P Q : Type 0} → (a b : Bool) → IsTrue a ↔ P → IsTrue b ↔ Q → IsTrue (not a || b) ↔ (P → Q)
implied true b h k = (λ t p. k.0 t, λ f. k.1 (f (h.0 refl)))
implied false b h k = (λ t p. absurd (cc (h.1 p)), λ f. refl)

pub Says-implies : (w : World) (old new : List Node) (a b id : ℕ) (P Q : Type 0) → Says w old a P → Says w old b Q → Denotes new id (λ w. Truth (not (truth w old a) || truth w old b)) → Says w new id (P → Q)
Says-implies w old new a b id P Q h k is = says_by w new id (P → Q) (not (truth w old a) || truth w old b) (ap truth_of (is.is w)) (implied _ _ h k)

-- what is true
pub Says-true : (w : World) (nodes : List Node) (id : ℕ) (P : Type 0) → Denotes nodes id (λ w. Truth true) → P → Says w nodes id P
Says-true w nodes id P is p = (λ h. p, λ h. ap truth_of (is.is w))

pub StateHasSorts-later : (d : DesignView) (old new : List Node) → Extends old new → (state : SymState) → StateHasSorts d.pipe old state → StateHasSorts d.pipe new state
StateHasSorts-later d old new e state h = record {
  entries = HaveSorts-Extends old new e state.entries _ h.entries;
  inputs = HaveSorts-Extends old new e state.inputs _ h.inputs;
}

pub IsVisible-later : (d : DesignView) (old new : List Node) → Extends old new → (visible : SymState) → IsVisible d old visible → IsVisible d new visible
IsVisible-later d old new e visible h = record { sorted = HaveSorts-Extends old new e visible.entries _ h.sorted; inputs = h.inputs }

-- terms of sorts denote the same values
pub values-later : (w : World) (old new : List Node) → Extends old new → (ids : List ℕ) (sorts : List Sort) (values : List Value) → HaveSorts old ids sorts → DenoteValues w old ids values → DenoteValues w new ids values
values-later w old new e ids sorts values h k = Denote-Extends _ w old new e ids values (HaveSorts-inside old ids sorts h) k

pub DenotesState-later : (d : DesignView) (w : World) (old new : List Node) → Extends old new → (state : SymState) (interp : List Table) (values : List Value) (inputs : List Scalar)
    → StateHasSorts d.pipe old state → DenotesState d w old state interp values inputs → DenotesState d w new state interp values inputs
DenotesState-later d w old new e state interp values inputs h k = record {
  world = k.world;
  entries = Denote-Extends _ w old new e state.entries values (HaveSorts-inside old state.entries _ h.entries) k.entries;
  inputs = Denote-Extends _ w old new e state.inputs inputs (HaveSorts-inside old state.inputs _ h.inputs) k.inputs;
}
