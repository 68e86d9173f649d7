-- Sorts are kept: by the value of an expression, by a cycle of either machine, and along a run.
use Rattle.std.proofs.Common.{append-nil, append_assoc, ◌≡◌, ℕ, Bool, true, false, List, [], ◌∷◌, ◌++◌, map, sym, ◌∙◌}
use Rattle.std.specs.Prelude.{Some, slice_get, if◌then◌else◌, nat_eq}
use Rattle.std.specs.List.{AllZip, AllByRecursion}
use lib.Pointwise.{pointwise}
use Rattle.bd_list.specs.Grown.{grown}
use Rattle.bd_model.specs.ExprView.{ExprView, Truth, Entry, Input, Local, Not, And, Or, Implies, Iff, Equal, Ite, Read, Write, Apply}
use Rattle.bd_model.specs.Table.{row_value, at}
use Rattle.bd_model.specs.DesignView.{LocalView, MachineView, DesignView, PortView}
use Rattle.bd_model.specs.Value.{Env, value_of, truth, table_of, no_table, let_value, env_of}
use Rattle.bd_model.specs.Cycle.{step, after}
use Rattle.bd_model.specs.Fits.{scalar_sort, value_sort, result_sort, RowFits, TableFits, InterpFits, ValuesFit, ScalarsFit, StateFits, InputsFit}
use Rattle.bd_model.specs.Lawful.{Context, HasSort, LetsHaveSorts, context_of, IsLawfulMachine, IsLawful}
use Rattle.bd_model.specs.declared.table.Scalar.{Scalar}
use Rattle.bd_model.specs.declared.table.Scalar.TheVariants as scalar
use Rattle.bd_model.specs.declared.table.Row.{Row}
use Rattle.bd_model.specs.declared.table.Table.{Table}
use Rattle.bd_model.specs.declared.table.Value.{Value}
use Rattle.bd_model.specs.declared.design.Sort.{Sort}
use Rattle.bd_model.specs.declared.design.Symbol.{Symbol}
use Rattle.bd_model.specs.declared.design.Entry as entry
use Rattle.bd_model.proofs.Pairs.{AllZip-at, AllZip-append, AllZip-map_first, AllZip-map_right}

-- the names stand for values of their sorts
pub record EnvFits (c : Context) (e : Env) : Type 0 where
  pub tables : (f : ℕ) (y : Symbol) → slice_get c.symbols f ≡ Some y → (args : List ℕ) → scalar_sort (at (table_of e.interp f) args) ≡ result_sort y
  pub state : AllZip (λ s v. value_sort v ≡ s) c.entries e.state
  pub inputs : AllZip (λ s x. scalar_sort x ≡ s) c.inputs e.inputs
  pub locals : AllZip (λ s v. value_sort v ≡ s) c.locals e.locals

row_value-sort : (y : Symbol) (rs : List Row) (args : List ℕ) (default : Scalar) → AllByRecursion (RowFits y) rs → scalar_sort default ≡ result_sort y → scalar_sort (row_value rs args default) ≡ result_sort y
row_value-sort y [] args default h k = k
row_value-sort y (r ∷ rs) args default h k =
    elim (pointwise nat_eq r.args args) as (λ b. scalar_sort (if b then r.value else row_value rs args default) ≡ result_sort y) [ true ↦ h.0.value | false ↦ row_value-sort y rs args default h.1 k ]

-- a fitting table gives values of its symbol's sort
pub at-sort : (y : Symbol) (t : Table) → TableFits y t → (args : List ℕ) → scalar_sort (at t args) ≡ result_sort y
at-sort y t h args = row_value-sort y t.rows args t.default h.rows h.default

value_sort-ite : (b : Bool) (v w : Value) (s : Sort) → value_sort v ≡ s → value_sort w ≡ s → value_sort (if b then v else w) ≡ s
value_sort-ite true v w s p q = p
value_sort-ite false v w s p q = q

-- an expression that has a sort has a value of it
pub value_sort-value_of : (c : Context) (e : Env) → EnvFits c e → (t : ExprView) (s : Sort) → HasSort c t s → value_sort (value_of e t) ≡ s
value_sort-value_of c e h (Truth b) s p = sym p
value_sort-value_of c e h (Entry i) s p = AllZip-at (λ s v. value_sort v ≡ s) c.entries e.state (truth false) h.state i s p
value_sort-value_of c e h (Input i) s p = AllZip-at (λ s x. scalar_sort x ≡ s) c.inputs e.inputs (scalar.Bool false) h.inputs i s p
value_sort-value_of c e h (Local i) s p = AllZip-at (λ s v. value_sort v ≡ s) c.locals e.locals (truth false) h.locals i s p
value_sort-value_of c e h (Not t) s p = sym p.0
value_sort-value_of c e h (And ts) s p = sym p.0
value_sort-value_of c e h (Or ts) s p = sym p.0
value_sort-value_of c e h (Implies a b) s p = sym p.0
value_sort-value_of c e h (Iff a b) s p = sym p.0
value_sort-value_of c e h (Equal a b) s p = sym p.0
value_sort-value_of c e h (Ite q a b) s p =
    value_sort-ite _ _ _ s (value_sort-value_of c e h a s p.1) (value_sort-value_of c e h b s p.2)
value_sort-value_of c e h (Read m a) s p = sym p.0
value_sort-value_of c e h (Write m a d) s p = sym p.0
value_sort-value_of c e h (Apply f ts) s p =
    let (y, there, is, count) = p.0 in h.tables f y there _ ∙ sym is

-- the values of lets have the lets' sorts, after those done
let_values-sort : (c : Context) (interp : List Table) (state : List Value) (inputs : List Scalar) → (ls : List LocalView) (sorts : List Sort) (done : List Value)
    → ((sorts : List Sort) (done : List Value) → AllZip (λ s v. value_sort v ≡ s) sorts done → EnvFits (record c { locals = sorts }) (record { interp = interp; state = state; inputs = inputs; locals = done }))
    → LetsHaveSorts (record c { locals = sorts }) ls → AllZip (λ s v. value_sort v ≡ s) sorts done
    → AllZip (λ s v. value_sort v ≡ s) (sorts ++ map (λ (l : LocalView). l.sort) ls) (grown (let_value interp state inputs) done ls)
let_values-sort c interp state inputs [] sorts done fits lawful h = rw append-nil h
let_values-sort c interp state inputs (l ∷ ls) sorts done fits lawful h =
    let rest = let_values-sort c interp state inputs ls (sorts ++ l.sort ∷ []) _ fits lawful.1
    (AllZip-append (λ s v. value_sort v ≡ s) sorts done _ _ h (value_sort-value_of _ _ (fits sorts done h) l.value l.sort lawful.0)) in
    rw append_assoc at rest

-- a machine's expressions are valued where their names have their sorts
pub EnvFits-env_of : (d : DesignView) (m : MachineView) (interp : List Table) (state : List Value) (inputs : List Scalar) → IsLawfulMachine d m → InterpFits d interp → ValuesFit m.entries state → ScalarsFit m.ports inputs
    → EnvFits (context_of d m) (env_of m.locals interp state inputs)
EnvFits-env_of d m interp state inputs lawful fits state_fits inputs_fit =
    let tables : (f : ℕ) (y : Symbol) → slice_get d.symbols f ≡ Some y → (args : List ℕ) → scalar_sort (at (table_of interp f) args) ≡ result_sort y =
    λ f y there args. at-sort y (table_of interp f) (AllZip-at TableFits d.symbols interp no_table fits.tables f y there) args in
    let states : AllZip (λ s v. value_sort v ≡ s) (context_of d m).entries state =
    (AllZip-map_first (λ s v. value_sort v ≡ s) (λ (e : entry.Entry). e.sort) m.entries state).1 state_fits in
    let ins : AllZip (λ s x. scalar_sort x ≡ s) (context_of d m).inputs inputs =
    (AllZip-map_first (λ s x. scalar_sort x ≡ s) (λ (p : PortView). p.sort) m.ports inputs).1 inputs_fit in
    record {
      tables = tables;
      state = states;
      inputs = ins;
      locals = let_values-sort (context_of d m) interp state inputs m.locals [] []
          (λ sorts done h. record { tables = tables; state = states; inputs = ins; locals = h }) lawful.locals tt;
    }

-- a cycle of a lawful machine takes values of its entries' sorts to such values
pub ValuesFit-step : (d : DesignView) (m : MachineView) (interp : List Table) (state : List Value) (inputs : List Scalar) → IsLawfulMachine d m → InterpFits d interp → ValuesFit m.entries state → ScalarsFit m.ports inputs
    → ValuesFit m.entries (step m interp state inputs)
ValuesFit-step d m interp state inputs lawful fits state_fits inputs_fit =
    let env = EnvFits-env_of d m interp state inputs lawful fits state_fits inputs_fit in
    AllZip-map_right (λ (x : entry.Entry) e. HasSort (context_of d m) e x.sort) (λ (x : entry.Entry) v. value_sort v ≡ x.sort) (value_of (env_of m.locals interp state inputs))
    (λ x e p. value_sort-value_of (context_of d m) _ env e x.sort p) m.entries m.nexts lawful.nexts

-- a cycle of the pipeline takes a fitting state to a fitting state
pub StateFits-step : (d : DesignView) (interp : List Table) (state : List Value) (inputs : List Scalar) → IsLawful d → InterpFits d interp → StateFits d state → InputsFit d inputs → StateFits d (step d.pipe interp state inputs)
StateFits-step d interp state inputs lawful fits state_fits inputs_fit =
    ValuesFit-step d d.pipe interp state inputs lawful.pipe fits state_fits inputs_fit

-- a run with fitting inputs stays at fitting states
pub StateFits-after : (d : DesignView) (interp : List Table) → IsLawful d → InterpFits d interp → (inputs : List (List Scalar)) (state : List Value) → StateFits d state → AllByRecursion (InputsFit d) inputs → StateFits d (after d interp state inputs)
StateFits-after d interp lawful fits [] state h k = h
StateFits-after d interp lawful fits (x ∷ xs) state h k =
    StateFits-after d interp lawful fits xs (step d.pipe interp state x) (StateFits-step d interp state x lawful fits h k.0) k.1
