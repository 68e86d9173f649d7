use Rattle.std.proofs.Common.{◌≡◌, ◌++◌, drop, map}
use Rattle.bd_model.specs.DesignView.{port_view}
use Rattle.bd_about.specs.UnreadLines.{input_line, lines_at}
use Rattle.bd_about.proofs.unread_lines.push_input_lines.Given as goal

abbrev pub invariant-loop-place : goal.invariant-loop-place
invariant-loop-place l = l.out.items ++ lines_at input_line (map port_view l.ports) (drop l.place-index l.places) ≡ l.fn.out.items ++ lines_at input_line (map port_view l.ports) l.places
