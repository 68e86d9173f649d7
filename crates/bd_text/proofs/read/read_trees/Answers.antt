use Rattle.std.proofs.Common.{◌≡◌, length, arith, ap}
use Rattle.std.proofs.lemmas.Result.{IfOk-weaker}
use Rattle.bd_text.specs.inner.Progress.{openings_of}
use Rattle.bd_text.proofs.Readable.{spelled_readable}
use Rattle.bd_text.proofs.Steps.{whole_text}
use Rattle.bd_text.proofs.read.read_trees.Goals as goal

pub returns-clause-no_fault : goal.returns-clause-no_fault
returns-clause-no_fault c =
    let at_end : c.loop-at.at ≡ length c.args.bytes.now = omega (arith, c.loop-at.invariant.within) in
    IfOk-weaker c.finish.result _ _ (λ trees h.
    (whole_text c.args.bytes.now _ (rw (at_end, ap openings_of h.0) at c.loop-at.invariant)).0) c.finish.ensures.ok

pub returns-clause-trees : goal.returns-clause-trees
returns-clause-trees c =
    let at_end : c.loop-at.at ≡ length c.args.bytes.now = omega (arith, c.loop-at.invariant.within) in
    IfOk-weaker c.finish.result _ _ (λ trees h.
    rw h.1 (whole_text c.args.bytes.now _ (rw (at_end, ap openings_of h.0) at c.loop-at.invariant)).1) c.finish.ensures.ok

pub returns-clause-shallow : goal.returns-clause-shallow
returns-clause-shallow c =
    let at_end : c.loop-at.at ≡ length c.args.bytes.now = omega (arith, c.loop-at.invariant.within) in
    IfOk-weaker c.finish.result _ _ (λ trees h.
    let read = whole_text c.args.bytes.now _ (rw (at_end, ap openings_of h.0) at c.loop-at.invariant) in
    rw h.1 (spelled_readable c.args.bytes.now _ read.0 read.1).1) c.finish.ensures.ok
