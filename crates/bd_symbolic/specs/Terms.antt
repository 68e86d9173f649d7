-- The terms that names stand for where an expression is built.
use Rattle.std.specs.Prelude.{ℕ, List}
use Rattle.bd_model.specs.DesignView.{DesignView}
use Rattle.bd_symbolic.specs.declared.state.SymState.{SymState}

-- those of entries, inputs and lets
pub record Terms : Type 0 where
  pub design : DesignView
  pub entries : List ℕ
  pub inputs : List ℕ
  pub lets : List ℕ

-- those of a state of terms and of lets
abbrev pub terms_of : DesignView → SymState → List ℕ → Terms
terms_of d state lets =
    record { design = d; entries = state.entries; inputs = state.inputs; lets = lets }
