use Rattle.std.proofs.Common.{◌≡◌, ◌++◌, List, ℕ, subst}
use Rattle.std.proofs.lemmas.Result.{on_ok_weaker}
use Rattle.std.specs.Prelude.{OnOk, codes}
use Rattle.bd_about.specs.Lines.{finding_line}
use Rattle.bd_about.specs.PartLines.{counted}
use Rattle.bd_about.proofs.Appending.{put-more}
use Rattle.bd_about.proofs.conjuncts.push_conjunct.Goals as goal

pub returns : goal.returns
returns c =
    let out = c.args.out.now.items in
    let first = counted (codes "no conjunct ") c.args.number in
    let line = λ (meaning : List ℕ). finding_line (codes "    ") c.args.found meaning in
    subst (λ (meaning : List ℕ). OnOk c.push_line.result (c.push_line.new.out.items ≡ out ++ (first ++ line meaning))) c.conjunct_meaning.ensures
    (on_ok_weaker c.push_line.result (put-more out _ _ first (line c.conjunct_meaning.result.now) c.in_ok-push_count.ensures) c.push_line.ensures)
