use Rattle.std.proofs.Common.{◌≡◌, ◌++◌, ◌∙◌, ℕ, List, ap, refl}
use Rattle.std.specs.Prelude.{codes, option_copied, option_map}
use Rattle.std.proofs.lemmas.Option.{slice_get-map}
use Rattle.std.proofs.lemmas.Result.{on_ok_weaker}
use Rattle.bd_model.specs.DesignView.{port_view}
use Rattle.bd_about.specs.ComparedLines.{input_words}
use Rattle.bd_about.proofs.Appending.{put-more, put-ok}
use Rattle.bd_about.proofs.NextLines.{lent, with_line, without_line}
use Rattle.bd_about.proofs.compared_lines.push_input.Goals as goal

pub returns-in_ok-extend_from_slice-in-Some : goal.returns-in_ok-extend_from_slice-in-Some
returns-in_ok-extend_from_slice-in-Some c =
    let out = c.args.out.now.items in
    let port = c.in-Some.port.now in
    let found = slice_get-map port_view c.args.ports.now c.args.place
    ∙ ap (option_map port_view) (lent _ c.args.ports.now c.args.place c.get.result c.get.ensures.lookup.1 c.get.ensures.lookup.3 ∙ ap option_copied c.in-Some.is) in
    let one : List ℕ = codes "the input " in
    let first : c.extend_from_slice.new.self.items ≡ out ++ one = c.in_ok-extend_from_slice-in-Some.ensures.items in
    on_ok_weaker c.extend_from_slice-in-Some.result
    (λ last. with_line input_words _ (port_view port) out _ found (put-more out _ _ one port.name first (last ∙ ap (λ name. c.extend_from_slice.new.self.items ++ name) c.as_slice.ensures)))
    (put-ok c.extend_from_slice-in-Some.result c.extend_from_slice.new.self.items _ c.as_slice.result.now c.extend_from_slice-in-Some.ensures.items)

pub returns-in-None : goal.returns-in-None
returns-in-None c =
    let found = slice_get-map port_view c.args.ports.now c.args.place
    ∙ ap (option_map port_view) (lent _ c.args.ports.now c.args.place c.get.result c.get.ensures.lookup.1 c.get.ensures.lookup.3 ∙ ap option_copied c.in-None.is) in
    without_line input_words _ c.args.out.now.items c.args.out.now.items found refl
