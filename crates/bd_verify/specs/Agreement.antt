-- Verdicts on one design agree, however they were found: whatever two of them say, both have one word (positive equality
-- changes what is asked of a solver, and no verdict: Bryant, German and Velev 2001).
use Rattle.std.specs.Prelude.{◌≡◌, ◌≢◌, Bool}
use Rattle.bd_model.specs.DesignView.{DesignView}
use Rattle.bd_model.specs.Lawful.{IsLawful}
use Rattle.bd_verify.specs.declared.verdict.Verdict.{Verdict}
use Rattle.bd_verify.specs.declared.verdict.Verdict.TheVariants as verdict
use Rattle.bd_verify.specs.Verdict.{Says}

-- the word of a verdict, without what it carries
pub data Word : Type 0 where
  Correct : Word
  Wrong : Word
  Void : Word
  Undecided : Word

abbrev pub word_of : Verdict → Word
word_of (verdict.Correct met work) = Correct
word_of (verdict.Wrong which c work) = Wrong
word_of (verdict.Void work) = Void
word_of (verdict.Undecided asked work) = Undecided

-- two verdicts that say so of one lawful design, neither of which is undecided, have one word
abbrev pub VerdictsAgree : Type 0
VerdictsAgree =
    (d : DesignView) (given : Bool) (a b : Verdict) → IsLawful d → Says d given a → Says d given b
    → word_of a ≢ Undecided → word_of b ≢ Undecided → word_of a ≡ word_of b
