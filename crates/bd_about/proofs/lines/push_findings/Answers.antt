use Rattle.std.proofs.Common.{◌≡◌, ◌++◌, ℕ, List, []}
use Rattle.std.proofs.lemmas.Result.{on_ok_weaker}
use Rattle.std.specs.Prelude.{codes}
use Rattle.bd_about.specs.Lines.{asked_line, finding_line, less_flushed_line, reset_line}
use Rattle.bd_about.proofs.Appending.{put-more}
use Rattle.bd_about.proofs.lines.push_findings.Goals as goal

pub returns : goal.returns
returns c =
    let r = c.args.findings.now in
    let out = c.args.out.now.items in
    let one : List ℕ = finding_line (codes "as it is         ") r.own [] in
    let two : List ℕ = one ++ less_flushed_line r.own r.less_flushed in
    let three : List ℕ = two ++ asked_line (codes "one flush more   ") r.more_flushed (codes ", so the flush is too short") in
    let four : List ℕ = three ++ asked_line (codes "one step more    ") r.more_steps (codes ", so the steps are too few") in
    let five : List ℕ = four ++ asked_line (codes "no invariant     ") r.without_invariant (codes ", so the invariant can be left out") in
    let six : List ℕ = five ++ reset_line r.reset in
    let first : c.push_line.new.out.items ≡ out ++ one = c.in_ok-push_line.ensures in
    let second : c.push_less_flushed.new.out.items ≡ out ++ two = put-more out _ _ one _ first c.in_ok-push_less_flushed.ensures in
    let third : c.push_asked.new.out.items ≡ out ++ three = put-more out _ _ two _ second c.in_ok-push_asked.ensures in
    let fourth : c.push_asked-2.new.out.items ≡ out ++ four = put-more out _ _ three _ third c.in_ok-push_asked-2.ensures in
    let fifth : c.push_asked-3.new.out.items ≡ out ++ five = put-more out _ _ four _ fourth c.in_ok-push_asked-3.ensures in
    let sixth : c.push_reset.new.out.items ≡ out ++ six = put-more out _ _ five _ fifth c.in_ok-push_reset.ensures in
    on_ok_weaker c.push_asked-4.result (put-more out _ _ six (asked_line (codes "(exact 0 true)   ") r.without_steps (codes ", so this pipeline may never fetch")) sixth) c.push_asked-4.ensures
