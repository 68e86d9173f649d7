-- A design of one bit, which turns in each cycle, is lawful.
use Rattle.std.proofs.Common.{◌≡◌, ◌≢◌, ℕ, List, [], ◌∷◌, refl, arith}
use Rattle.std.specs.List.{AllPairs}
use Rattle.bd_model.specs.DesignView.{DesignView, MachineView}
use Rattle.bd_model.specs.ExprView.{Entry, Not, Truth}
use Rattle.bd_model.specs.Lawful.{IsLawful, IsLawfulMachine}
use Rattle.bd_model.specs.declared.design.Entry as entry
use Rattle.bd_model.specs.declared.design.Sort.TheVariants as sort
use Rattle.std.specs.Prelude.{true}

abbrev turning : MachineView
turning = record {
  entries = record { name = 97 ∷ []; sort = sort.Bool } ∷ [];
  ports = [];
  locals = [];
  nexts = Not (Entry 0) ∷ [];
}

abbrev turning_bit : DesignView
turning_bit = record {
  pipe = turning;
  spec = turning;
  symbols = [];
  visible = 0 ∷ [];
  flush = 0;
  steps = 1;
  inv_locals = [];
  inv = Truth true;
  exact = [];
  distinct = [];
}

-- one item is no two
alone : {X : Type 0} (x : X) → AllPairs ◌≢◌ (x ∷ [])
alone x = λ i j d below within. absurd (omega (arith, below, within))

machine_lawful : IsLawfulMachine turning_bit turning
machine_lawful = record {
  locals = tt;
  nexts = ((refl, refl), tt);
  local_limits = tt;
  next_limits = ((omega arith, omega arith), tt);
  short = (omega arith, omega arith, omega arith);
}

pub some_design : (d : DesignView) × IsLawful d
some_design = (
  turning_bit,
  record {
    pipe = machine_lawful;
    spec = machine_lawful;
    ports = tt;
    no_spec_inputs = refl;
    inv_locals = tt;
    inv = refl;
    inv_local_limits = tt;
    inv_limits = (omega arith, omega arith);
    exact = tt;
    distinct = tt;
    names = (record { spelled = refl; short = omega arith; no_keyword = refl }, tt);
    different_names = alone _;
    visible = (refl, tt);
    visible_once = alone 0;
    arities = tt;
    flush = omega arith;
    steps = omega arith;
    short = (omega arith, omega arith, omega arith, omega arith);
  },
)
