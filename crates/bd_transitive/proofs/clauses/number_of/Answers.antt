use Rattle.std.proofs.Common.{ap, slice_get, ◌∙◌}
use Rattle.std.specs.Prelude.{unwrap_or}
use Rattle.std.proofs.lemmas.Option.{slice_get_within}
use Rattle.bd_transitive.proofs.SpanEq.{slice_get-position}
use Rattle.bd_transitive.proofs.clauses.number_of.Goals as goal

pub returns : goal.returns
returns c =
    let spans = c.args.spans.now.keys in
    let at = ap (slice_get spans) (c.unwrap_or.ensures ∙ ap (λ o. unwrap_or o 0) c.get_index_of.ensures.index) ∙ slice_get-position spans c.args.span c.requires in
    record { value = at; within = slice_get_within spans c.unwrap_or.result c.args.span at }
