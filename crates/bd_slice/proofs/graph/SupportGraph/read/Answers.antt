use Rattle.std.proofs.Common.{◌∙◌, ◌<◌, ◌≤◌, length, arith, ap}
use Rattle.std.proofs.lemmas.Bool.{eq-eqb, ne_eqb}
use Rattle.bd_model.specs.Table.{read}
use Rattle.bd_slice.proofs.Following.{reads_under, reads_past, reads_met, next_link, reads_end}
use Rattle.bd_slice.proofs.graph.SupportGraph.read.Goals as goal
use Rattle.bd_slice.proofs.graph.SupportGraph.read.Goals.{in-Under+in_ok-node-in-Under, in-Write+in_ok-node-in-Write+else-at-address}

pub returns-then-at-address-clause-grows : goal.returns-then-at-address-clause-grows
returns-then-at-address-clause-grows c = λ d o h. c.loop-link.invariant.grows d o (c.in_ok-node-in-Write.ensures.grows d o (c.in_ok-both-in-Write.ensures.grows d o h))

pub returns-then-at-address-clause-follows : goal.returns-then-at-address-clause-follows
returns-then-at-address-clause-follows c = λ o m a h follows address has.
    let case = c.args.case.now in
    let both = c.in_ok-both-in-Write.ensures in
    let next = c.in_ok-node-in-Write.ensures in
    let reached = both.grows case o h in
    let before = next.grows case o reached in
    let node = both.first case o h has in
    let old = next.first case o reached node in
    let is_at = address (c.loop-link.invariant.comes o before old) in
    let within : c.loop-link.link-index < length c.as_slice-link-items.result.now = omega arith in
    let here = next_link o _ _ _ _ _ _ m within c.in-Write.is (c.loop-link.invariant.reads o before old m follows) in
    ap (λ n. read m n) is_at ∙ reads_met o _ _ _ _ _ m here (next.second case o reached node) (eq-eqb _ _ c.if-at-address.true) (both.second case o h has)

pub loop-link-preserved : goal.loop-link-preserved
loop-link-preserved c = elim c.match-link.branch [
  | in-Under+in_ok-node-in-Under w ↦
      let case = c.args.case.now in
      let within : c.loop-link.link-index < length c.as_slice-link-items.result.now = omega arith in
      let next = w.in_ok-node-in-Under.ensures in
      rw (w.self-is, w.node-is) (record {
        grows = λ d o h. c.loop-link.invariant.grows d o (next.grows d o h);
        comes = λ o h has. c.loop-link.invariant.comes o (next.grows case o h) (next.first case o h has);
        reads = λ o h has m follows.
            reads_under o _ _ _ _ m
            (next_link o _ _ _ _ _ _ m within w.in-Under.is (c.loop-link.invariant.reads o (next.grows case o h) (next.first case o h has) m follows))
            (next.second case o h has);
      })
  | in-Write+in_ok-node-in-Write+else-at-address w ↦
      let case = c.args.case.now in
      let within : c.loop-link.link-index < length c.as_slice-link-items.result.now = omega arith in
      let next = w.in_ok-node-in-Write.ensures in
      rw (w.self-is, w.node-is) (record {
        grows = λ d o h. c.loop-link.invariant.grows d o (next.grows d o h);
        comes = λ o h has. c.loop-link.invariant.comes o (next.grows case o h) (next.first case o h has);
        reads = λ o h has m follows.
            reads_past o _ _ _ _ _ m
            (next_link o _ _ _ _ _ _ m within w.in-Write.is (c.loop-link.invariant.reads o (next.grows case o h) (next.first case o h has) m follows))
            (next.second case o h has) (ne_eqb _ _ w.if-at-address.false);
      })
]

pub returns-clause-grows : goal.returns-clause-grows
returns-clause-grows c = λ d o h. c.loop-link.invariant.grows d o (c.in_ok-read.ensures.grows d o h)

pub returns-clause-follows : goal.returns-clause-follows
returns-clause-follows c = λ o m a h follows address has.
    let case = c.args.case.now in
    let before = c.in_ok-read.ensures.grows case o h in
    let node = c.in_ok-read.ensures.has o h has in
    let is_at = address (c.loop-link.invariant.comes o before node) in
    let past : length c.as_slice-link-items.result.now ≤ c.loop-link.link-index = omega arith in
    ap (λ n. read m n) is_at
    ∙ reads_end o _ _ _ _ m past (c.loop-link.invariant.reads o before node m follows)
    ∙ c.in_ok-read.ensures.follows o h has
