use Rattle.std.proofs.Common.{◌≡◌, ◌∙◌, ap, sym, Some}
use Rattle.std.specs.Prelude.{option_map}
use Rattle.bd_app.specs.Loading.{bytes_of}
use Rattle.bd_show.specs.inner.Loaded.{texts_view}
use Rattle.bd_show.proofs.Readable.{started_result, started_spec}
use Rattle.bd_show.proofs.Refusals.{refused_start}
use Rattle.bd_show.proofs.read.started.Goals as goal
use Rattle.bd_show.proofs.read.started.Goals.{in-Some, in-None}

pub returns-clause-refused : goal.returns-clause-refused
returns-clause-refused c =
    let same : option_map (λ b. b.now) c.match-texts.start ≡ bytes_of c.args.texts.now.inv = elim c.match-texts.branch [
      | in-Some w ↦ ap (option_map (λ b. b.now)) w.start-is ∙ ap Some w.as_slice.ensures.value ∙ sym (ap bytes_of w.in-Some.is)
      | in-None w ↦ ap (option_map (λ b. b.now)) w.start-is ∙ sym (ap bytes_of w.in-None.is)
    ] in
    refused_start (texts_view c.args.texts.now) _ _ _ c.design_with.result c.design_with.ensures.exact c.as_slice-pipe.ensures.value c.as_slice-spec.ensures.value same

pub returns-clause-readable : goal.returns-clause-readable
returns-clause-readable c =
    started_result (texts_view c.args.texts.now) _ _ _ c.design_with.result c.design_with.ensures.exact c.as_slice-pipe.ensures.value

pub returns-clause-spec_readable : goal.returns-clause-spec_readable
returns-clause-spec_readable c =
    started_spec (texts_view c.args.texts.now) _ _ _ c.design_with.result c.design_with.ensures.exact c.as_slice-spec.ensures.value
