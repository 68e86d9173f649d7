use Rattle.std.proofs.Common.{◌≡◌, suc, ◌+◌, ◌≤◌, cond, length, count_by, Ok, sym, ap, ◌∙◌, arith}
use Rattle.std.proofs.lemmas.List.Sums.{count_by-le-length}
use Rattle.bd_proof_text.specs.ProofText.{line_count, proof_from}
use Rattle.bd_proof_text.specs.Tokens.{is_feed}
use Rattle.bd_proof_text.proofs.Pieces.{length-pieces}
use Rattle.bd_proof_text.proofs.Refutes.{text-refutes}
use Rattle.bd_proof_text.proofs.Steps.{proof-step}
use Rattle.bd_proof_text.proofs.reading.read_proof.Goals as goal

pub loop-text-init : goal.loop-text-init
loop-text-init c =
    let bytes = c.args.bytes.now in
    let count : length c.new-lines.result ≡ line_count bytes = ap length c.new-lines.ensures ∙ length-pieces is_feed bytes in
    record {
      read = λ i. proof_from (line_count bytes) (sym c.in_ok-new.ensures i) (sym c.new-2.ensures i) 1 (sym c.new-lines.ensures i);
      counted = omega arith;
    }

pub overflow_add-number : goal.overflow_add-number
overflow_add-number c =
    let some : length c.loop-text.lines ≡ suc (length c.next_line.new.self) = ap length c.in-Some.ensures in
    let few : count_by is_feed c.args.bytes.now ≤ length c.args.bytes.now = count_by-le-length is_feed c.args.bytes.now in
    omega (arith, c.loop-text.invariant.counted)

pub returns-then-ends-clause-refutes : goal.returns-then-ends-clause-refutes
returns-then-ends-clause-refutes c =
    let last = line_count c.args.bytes.now in
    let old = c.loop-text.reader in
    let new = c.step.new.self in
    let number = c.loop-text.number + 1 in
    let texts = c.next_line.new.self in
    text-refutes c.args.cnf.now c.args.bytes.now new.log
    (c.loop-text.invariant.read ∙ ap (proof_from last old.checker old.log number) c.in-Some.ensures
    ∙ proof-step last old new number c.in-Some.text.now texts c.in_ok-ends.ends c.in_ok-ends.ensures.ok
    ∙ ap (λ b. cond b (Ok new.log) (proof_from last new.checker new.log (number + 1) texts)) c.if-ends.true)
