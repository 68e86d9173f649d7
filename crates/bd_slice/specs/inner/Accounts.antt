-- What the facts found of a value of a run account for.
use Rattle.std.specs.Prelude.{◌≡◌, ⊤, ◌+◌, ℕ, List, take, slice_index_or, Option, None, Some, false}
use Rattle.bd_model.specs.DesignView.{DesignView, MachineView, design_view}
use Rattle.bd_model.specs.Value.{Env, scalar_of, truth}
use Rattle.bd_model.specs.declared.case.Case.{Case}
use Rattle.bd_model.specs.declared.table.Scalar.{Scalar}
use Rattle.bd_model.specs.declared.table.Value.{Value}
use Rattle.bd_slice.specs.Run.{state_at, inputs_in, let_values_in, word_at}
use Rattle.bd_slice.specs.Reasons.{AllHold, IsReason}
use Rattle.bd_slice.specs.declared.finding.Found.{Found}
use Rattle.bd_slice.specs.declared.place.Column.{Column}
use Rattle.bd_slice.specs.declared.place.Column.TheVariants as column
use Rattle.bd_slice.specs.declared.reason.Reason.{Reason}
use Rattle.bd_slice.specs.declared.subject.Cycle.{Cycle}
use Rattle.bd_slice.specs.declared.subject.Cycle.TheVariants as cycle
use Rattle.bd_slice.specs.declared.subject.Subject.{Subject}
use Rattle.bd_slice.specs.declared.subject.Subject.TheVariants as subject
use Rattle.bd_slice.specs.declared.reason.Run.{Run}
use Rattle.bd_slice.specs.History.{IsHistory, HasCycle, HasColumn, HasSubject}
use Rattle.bd_slice.specs.Columns.{column_state}

-- the facts are true, and lead to the value in each case in which they are
pub record Accounts (d : DesignView) (c : Case) (meaning : Case → Scalar) (f : Found) :
    Type 0 where
  pub facts : AllHold d c f.facts.items
  pub local : (o : Case) → AllHold d o f.facts.items → meaning o ≡ f.value

-- a value as a scalar, or its word at an address
abbrev pub part_of : Option ℕ → Value → Scalar
part_of None v = scalar_of v
part_of (Some a) v = word_at v a

-- what names stand for in a cycle of another case after so many of its lets
abbrev pub env_after : DesignView → Case → Cycle → ℕ → Env
env_after d o which count = record {
  interp = o.interp;
  state = state_at d o which;
  inputs = inputs_in d o which;
  locals = take count (let_values_in d o which);
}

-- the machine that makes a cycle
abbrev pub machine_in : DesignView → Cycle → MachineView
machine_in d (cycle.Step n) = d.spec
machine_in d other = d.pipe

-- a cycle of flushing
abbrev pub IsFlushCycle : Cycle → Type 0
IsFlushCycle (cycle.FlushBefore n) = ⊤
IsFlushCycle (cycle.FlushAfter n) = ⊤
IsFlushCycle other = ⊥

-- what is found for a value, as its reason
abbrev pub IsReasonFor : DesignView → Case → Subject → Found → Type 0
IsReasonFor d c s f = IsReason d c (record { subject = s; value = f.value; facts = f.facts })

-- what holds of a cycle, a column or a value where the values at hand are those of the run
abbrev pub InCycle : Run → Cycle → (DesignView → Case → Type 0) → Type 0
InCycle r which P =
    let d = design_view r.design.now in
    IsHistory d r.case.now r.history.now → HasCycle d which → P d r.case.now

abbrev pub InColumn : Run → Column → (DesignView → Case → Type 0) → Type 0
InColumn r which P =
    let d = design_view r.design.now in
    IsHistory d r.case.now r.history.now → HasColumn d which → P d r.case.now

abbrev pub InRun : Run → Subject → (DesignView → Case → Type 0) → Type 0
InRun r s P =
    let d = design_view r.design.now in
    IsHistory d r.case.now r.history.now → HasSubject d s → P d r.case.now

-- an entry's value in a column, of which this part is meant
abbrev pub entry_in : DesignView → Case → Column → ℕ → Option ℕ → Scalar
entry_in d o which i part = part_of part (slice_index_or (column_state d o which) i (truth false))

-- an entry as a value of the run
abbrev pub entry_subject : Column → ℕ → Option ℕ → Subject
entry_subject which i None = subject.Latch which i
entry_subject which i (Some a) = subject.Cell which i a

abbrev pub let_subject : Cycle → ℕ → Option ℕ → Subject
let_subject which i None = subject.Let which i
let_subject which i (Some a) = subject.LetCell which i a
