use Rattle.std.proofs.Common.{◌≡◌, ◌++◌, ◌∙◌, ℕ, List, length, ap}
use Rattle.std.proofs.lemmas.Result.{on_ok_weaker}
use Rattle.std.specs.Prelude.{codes}
use Rattle.bd_about.specs.PartLines.{counted}
use Rattle.bd_about.proofs.Appending.{put-count, put-more}
use Rattle.bd_about.proofs.part_lines.push_both.Goals as goal

pub returns : goal.returns
returns c =
    let out = c.args.out.now.items in
    let what : List ℕ = codes "both             functions and predicates " in
    let one : List ℕ = counted what (length c.args.design.now.symbols) in
    let two : List ℕ = one ++ counted (codes ", distinct groups ") (length c.args.design.now.distinct) in
    let first : c.push_count.new.out.items ≡ out ++ one = c.in_ok-push_count.ensures ∙ ap (λ k. out ++ counted what k) c.len-symbols.ensures in
    let second : c.push_count-2.new.out.items ≡ out ++ two =
    put-count (codes ", distinct groups ") out c.push_count.new.out.items c.push_count-2.new.out.items one _ _ c.len.ensures first c.in_ok-push_count-2.ensures in
    on_ok_weaker c.end_line.result (put-more out c.push_count-2.new.out.items c.end_line.new.out.items two (codes "\n") second) c.end_line.ensures
