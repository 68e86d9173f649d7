use Rattle.std.proofs.Common.{◌++◌, ◌∙◌, ap, ap₂, get_or}
use Rattle.std.specs.Prelude.{option_copied}
use Rattle.bd_about.specs.UnreadLines.{symbol_line, unread_line}
use Rattle.bd_about.proofs.NextLines.{lent, next_line, with_line, without_line}
use Rattle.bd_about.proofs.unread_lines.push_symbol_lines.Goals as goal
use Rattle.bd_about.proofs.unread_lines.push_symbol_lines.Goals.{in-Some+in_ok-push_line, in_default}

pub loop-place-preserved : goal.loop-place-preserved
loop-place-preserved c =
    let place = get_or c.args.places.now c.loop-place.place-index 0 in
    let out = c.loop-place.out.items in
    let found = lent _ c.args.symbols.now place c.get.result c.get.ensures.lookup.1 c.get.ensures.lookup.3 in
    next_line symbol_line c.args.symbols.now c.args.places.now c.loop-place.place-index out c.match-get.out.items _ c.loop-place-test.true
    (elim c.match-get.branch [
      | in-Some+in_ok-push_line w ↦ with_line symbol_line _ w.in-Some.symbol.now out _ (found ∙ ap option_copied w.in-Some.is)
          (ap (λ v. v.items) w.out-is ∙ w.in_ok-push_line.ensures ∙ ap₂ (λ k n. out ++ unread_line k n) w.symbol_kind.ensures w.as_slice.ensures)
      | in_default w ↦ without_line symbol_line _ out _ (found ∙ ap option_copied w.in_default.is) (ap (λ v. v.items) w.out-is)
    ]) c.loop-place.invariant
