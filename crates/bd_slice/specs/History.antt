-- The values of a run, cycle by cycle, and which values a run has.
use Rattle.std.specs.Prelude.{◌≡◌, ◌<◌, ◌≤◌, ⊤, ℕ, ◌+◌, List, Some, length, slice_get}
use Rattle.bd_model.specs.DesignView.{DesignView}
use Rattle.bd_model.specs.declared.case.Case.{Case}
use Rattle.bd_slice.specs.Run.{state_at, inputs_in, let_values_in}
use Rattle.bd_slice.specs.declared.moment.History.{History}
use Rattle.bd_slice.specs.declared.moment.Moment.{Moment}
use Rattle.bd_slice.specs.declared.place.Column.{Column}
use Rattle.bd_slice.specs.declared.place.Column.TheVariants as column
use Rattle.bd_slice.specs.declared.subject.Cycle.{Cycle}
use Rattle.bd_slice.specs.declared.subject.Cycle.TheVariants as cycle
use Rattle.bd_slice.specs.declared.subject.Subject.{Subject}
use Rattle.bd_slice.specs.declared.subject.Subject.TheVariants as subject

-- a cycle's values in the run of a case
abbrev pub moment_in : DesignView → Case → Cycle → Moment
moment_in d c which = record {
  state = state_at d c which;
  inputs = inputs_in d c which;
  lets = let_values_in d c which;
}

-- the values of so many cycles
pub record AreMoments (cycles : ℕ) (moments : ℕ → Moment) (ms : List Moment) : Type 0 where
  pub count : length ms ≡ cycles
  pub each : (n : ℕ) → n < cycles → slice_get ms n ≡ Some (moments n)

-- the values of the run of a case; in each row the last are of the cycle that would come next
pub record IsHistory (d : DesignView) (c : Case) (h : History) : Type 0 where
  pub first : h.first ≡ moment_in d c cycle.Case
  pub before : AreMoments (d.flush + 1) (λ n. moment_in d c (cycle.FlushBefore n)) h.before
  pub after : AreMoments (d.flush + 1) (λ n. moment_in d c (cycle.FlushAfter n)) h.after
  pub steps : AreMoments (d.steps + 1) (λ n. moment_in d c (cycle.Step n)) h.steps
  pub kept : h.kept ≡ moment_in d c cycle.Invariant

-- the cycles that a run has, with the one that would come next in each row
abbrev pub HasCycle : DesignView → Cycle → Type 0
HasCycle d (cycle.FlushBefore n) = n ≤ d.flush
HasCycle d (cycle.FlushAfter n) = n ≤ d.flush
HasCycle d (cycle.Step n) = n ≤ d.steps
HasCycle d other = ⊤

-- the states of the diagram
abbrev pub HasColumn : DesignView → Column → Type 0
HasColumn d (column.Before n) = n ≤ d.flush
HasColumn d (column.After n) = n ≤ d.flush
HasColumn d (column.Steps n) = n ≤ d.steps

-- the values of a run
abbrev pub HasSubject : DesignView → Subject → Type 0
HasSubject d (subject.Latch which i) = HasColumn d which
HasSubject d (subject.Cell which i a) = HasColumn d which
HasSubject d (subject.Input which i) = HasCycle d which
HasSubject d (subject.Let which i) = HasCycle d which
HasSubject d (subject.LetCell which i a) = HasCycle d which
HasSubject d subject.Invariant = ⊤
