use Rattle.std.proofs.Common.{◌≡◌, ◌++◌, ℕ, List, length, map, ap, sym, ◌∙◌}
use Rattle.std.proofs.lemmas.List.{length-map}
use Rattle.std.proofs.lemmas.Result.{on_ok_weaker}
use Rattle.std.specs.Prelude.{codes}
use Rattle.bd_model.specs.DesignView.{exact_view, local_view, port_view}
use Rattle.bd_about.specs.PartLines.{counted}
use Rattle.bd_about.proofs.Appending.{put-count, put-more}
use Rattle.bd_about.proofs.part_lines.push_pipeline.Goals as goal

pub returns : goal.returns
returns c =
    let d = c.args.design.now in
    let out = c.args.out.now.items in
    let what : List ℕ = codes "pipeline         entries " in
    let one : List ℕ = counted what (length d.pipe.entries) in
    let two : List ℕ = one ++ counted (codes ", inputs ") (length (map port_view d.pipe.ports)) in
    let three : List ℕ = two ++ counted (codes ", lets ") (length (map local_view d.pipe.locals)) in
    let four : List ℕ = three ++ counted (codes ", flush ") d.flush in
    let five : List ℕ = four ++ counted (codes ", steps ") d.steps in
    let six : List ℕ = five ++ counted (codes ", exact items ") (length (map exact_view d.exact)) in
    let first : c.push_count.new.out.items ≡ out ++ one = c.in_ok-push_count.ensures ∙ ap (λ k. out ++ counted what k) c.len.ensures in
    let second : c.push_count-2.new.out.items ≡ out ++ two =
    put-count (codes ", inputs ") out _ _ one _ _ (c.len-2.ensures ∙ sym (length-map d.pipe.ports port_view)) first c.in_ok-push_count-2.ensures in
    let third : c.push_count-3.new.out.items ≡ out ++ three =
    put-count (codes ", lets ") out _ _ two _ _ (c.len-3.ensures ∙ sym (length-map d.pipe.locals local_view)) second c.in_ok-push_count-3.ensures in
    let fourth : c.push_count-4.new.out.items ≡ out ++ four = put-more out _ _ three _ third c.in_ok-push_count-4.ensures in
    let fifth : c.push_count-5.new.out.items ≡ out ++ five = put-more out _ _ four _ fourth c.in_ok-push_count-5.ensures in
    let sixth : c.push_count-6.new.out.items ≡ out ++ six =
    put-count (codes ", exact items ") out _ _ five _ _ (c.len-4.ensures ∙ sym (length-map d.exact exact_view)) fifth c.in_ok-push_count-6.ensures in
    on_ok_weaker c.end_line.result (put-more out _ _ six (codes "\n") sixth) c.end_line.ensures
