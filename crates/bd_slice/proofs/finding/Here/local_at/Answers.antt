use Rattle.std.proofs.Common.{◌<◌, ◌≤◌, length, arith}
use Rattle.bd_slice.proofs.Explaining.{explains_local_at, explains_no_local_at}
use Rattle.bd_slice.proofs.finding.Here.local_at.Goals as goal

pub returns-then-place-count : goal.returns-then-place-count
returns-then-place-count c =
    let past : length c.args.self.lets.now ≤ c.args.number = omega arith in
    explains_no_local_at _ _ _ _ _ past c.plain.ensures.value c.plain.ensures.facts

pub returns : goal.returns
returns c =
    let within : c.args.number < length c.args.self.lets.now = omega arith in
    explains_local_at _ _ _ _ c.args.address _ within c.in_ok-found.ensures.value c.word_of-value.ensures c.in_ok-found.ensures.facts
