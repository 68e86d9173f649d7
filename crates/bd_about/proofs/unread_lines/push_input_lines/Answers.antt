use Rattle.std.proofs.Common.{◌++◌, ◌∙◌, ap, get_or, map}
use Rattle.std.specs.Prelude.{codes, option_copied, option_map}
use Rattle.std.proofs.lemmas.Option.{slice_get-map}
use Rattle.bd_model.specs.DesignView.{port_view}
use Rattle.bd_about.specs.UnreadLines.{input_line, unread_line}
use Rattle.bd_about.proofs.NextLines.{lent, next_line, with_line, without_line}
use Rattle.bd_about.proofs.unread_lines.push_input_lines.Goals as goal
use Rattle.bd_about.proofs.unread_lines.push_input_lines.Goals.{in-Some+in_ok-push_line, in_default}

pub loop-place-preserved : goal.loop-place-preserved
loop-place-preserved c =
    let place = get_or c.args.places.now c.loop-place.place-index 0 in
    let out = c.loop-place.out.items in
    let found = slice_get-map port_view c.args.ports.now place ∙ ap (option_map port_view) (lent _ c.args.ports.now place c.get.result c.get.ensures.lookup.1 c.get.ensures.lookup.3) in
    next_line input_line (map port_view c.args.ports.now) c.args.places.now c.loop-place.place-index out c.match-get.out.items _ c.loop-place-test.true
    (elim c.match-get.branch [
      | in-Some+in_ok-push_line w ↦ with_line input_line _ (port_view w.in-Some.port.now) out _ (found ∙ ap (λ r. option_map port_view (option_copied r)) w.in-Some.is)
          (ap (λ v. v.items) w.out-is ∙ w.in_ok-push_line.ensures ∙ ap (λ n. out ++ unread_line (codes "input ") n) w.as_slice.ensures)
      | in_default w ↦ without_line input_line _ out _ (found ∙ ap (λ r. option_map port_view (option_copied r)) w.in_default.is) (ap (λ v. v.items) w.out-is)
    ]) c.loop-place.invariant
