use Rattle.std.proofs.Common.{refl}
use Rattle.bd_slice.proofs.Following.{follows_at, follows_scalar, follows_memory}
use Rattle.bd_slice.proofs.slice.spot_of.Goals as goal

pub returns-in_ok-kept_at-in-Latch-clause-follows : goal.returns-in_ok-kept_at-in-Latch-clause-follows
returns-in_ok-kept_at-in-Latch-clause-follows c = λ o values h f has.
    let kept = rw (← c.in_ok-kept_at-in-Latch.ensures) at (follows_at o _ _ c.in-Latch.i f) in
    let scalar = rw (← c.scalar.ensures) at (follows_scalar o _ _ kept) in
    rw c.in-Latch.is (scalar has)

pub returns-in_ok-read-in-Cell-clause-follows : goal.returns-in_ok-read-in-Cell-clause-follows
returns-in_ok-read-in-Cell-clause-follows c = λ o values h f has.
    let kept = rw (← c.in_ok-kept_at-in-Cell.ensures) at (follows_at o _ _ c.in-Cell.i f) in
    let memory = rw (← c.in_ok-memory-in-Cell.ensures) at (follows_memory o _ _ kept) in
    let word = c.in_ok-read-in-Cell.ensures.follows o _ c.in-Cell.address h memory (λ n. refl) in
    rw c.in-Cell.is (c.scalar-in-Cell.ensures o _ word has)
