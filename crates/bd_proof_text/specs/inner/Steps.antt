-- A step over one line, as it is taken.
use Rattle.std.specs.Prelude.{◌≡◌, Bool, false, [], ◌∷◌, ◌++◌}
use Rattle.bd_lrat.specs.declared.line.Line.{Line}
use Rattle.bd_lrat.specs.Database.{after}
use Rattle.bd_lrat.specs.Log.{adds_empty}
use Rattle.bd_proof_text.specs.declared.fault.ReadFault.{ReadFault}
use Rattle.bd_proof_text.specs.declared.fault.ReadFault.TheVariants as read
use Rattle.bd_proof_text.specs.declared.reading.Reader.{Reader}
use Rattle.bd_proof_text.specs.ProofText.{Step, Passed, Accepted, Faulty}

-- what stands and the lines read after the step, and whether it ends the proof
abbrev pub Takes : Step → Reader → Reader → Bool → Type 0
Takes Passed old new ends = (new.checker ≡ old.checker) × (new.log ≡ old.log) × (ends ≡ false)
Takes (Accepted line) old new ends = (new.checker ≡ after old.checker line) × (new.log ≡ old.log ++ line ∷ []) × (ends ≡ adds_empty line)
Takes (Faulty e) old new ends = ⊥

-- the step's fault, unless memory ran out
abbrev pub Refuses : Step → ReadFault → Type 0
Refuses taken (read.Bad e) = taken ≡ Faulty e
Refuses taken read.Memory = Unit {0}

-- the line is accepted on what stood, and added
pub record Adds (line : Line) (old new : Reader) : Type 0 where
  pub checker : new.checker ≡ after old.checker line
  pub log : new.log ≡ old.log ++ line ∷ []
