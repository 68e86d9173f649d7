use Rattle.bd_app.specs.Generate.{gen_meaning, gen_of}
use Rattle.bd_app.specs.inner.Loaded.{sources_view}
use Rattle.bd_app.proofs.Effects.{memory_done, unchanged}
use Rattle.bd_app.proofs.Sources.{gen_done}
use Rattle.bd_app.proofs.command.generate.answer.Goals as goal

pub returns-in_err-sources : goal.returns-in_err-sources
returns-in_err-sources c = λ files. memory_done (gen_meaning (gen_of c.args.options)) files files c.from_residual.result c.from_residual.ensures.1 (unchanged files)

pub returns-in_err-lead : goal.returns-in_err-lead
returns-in_err-lead c = λ files. memory_done (gen_meaning (gen_of c.args.options)) files files c.from_residual-in_err-lead.result c.from_residual-in_err-lead.ensures.1 (unchanged files)

pub returns : goal.returns
returns c = λ files.
    gen_done (gen_of c.args.options) files (sources_view c.in_ok-sources.sources) c.answer_on.result c.in_ok-sources.ensures.generated (rw (c.as_str.ensures.value, c.in_ok-lead.ensures) at c.answer_on.ensures)
