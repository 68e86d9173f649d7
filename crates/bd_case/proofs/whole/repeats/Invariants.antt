use Rattle.std.proofs.Common.{◌≡◌, [], drop}
use Rattle.bd_case.specs.Reading.{repeats, constants}
use Rattle.bd_case.proofs.whole.repeats.Given as goal

abbrev pub invariant-loop-f : goal.invariant-loop-f
invariant-loop-f l = repeats l.values.keys (constants l.interp (drop l.f-index l.f-items)) ≡ repeats [] (constants l.interp l.f-items)
