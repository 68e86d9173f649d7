use Rattle.std.proofs.Common.{◌≡◌, ◌∙◌, sym, false}
use Rattle.std.specs.Prelude.{slice_index_or}
use Rattle.bd_model.specs.Table.{read}
use Rattle.bd_model.specs.Value.{memory_of, truth}
use Rattle.bd_slice.proofs.graph.SupportGraph.read_base.Goals as goal

pub returns-in_ok-both-in-Entry-clause-grows : goal.returns-in_ok-both-in-Entry-clause-grows
returns-in_ok-both-in-Entry-clause-grows c = λ d o h. c.in_ok-cell-in-Entry.ensures.grows d o (c.in_ok-both-in-Entry.ensures.grows d o h)

pub returns-in_ok-both-in-Entry-clause-has : goal.returns-in_ok-both-in-Entry-clause-has
returns-in_ok-both-in-Entry-clause-has c = λ o h has. c.in_ok-both-in-Entry.ensures.first c.args.case.now o h has

pub returns-in_ok-both-in-Entry-clause-follows : goal.returns-in_ok-both-in-Entry-clause-follows
returns-in_ok-both-in-Entry-clause-follows c = λ o h has.
    let case = c.args.case.now in
    let both = c.in_ok-both-in-Entry.ensures in
    let cell = c.in_ok-cell-in-Entry.ensures.agrees case o (both.grows case o h) (both.second case o h has) in
    let word : c.word_at.result ≡ read (memory_of (slice_index_or case.state c.in-Entry.entry (truth false))) c.args.address = rw (c.word_at.ensures, c.as_slice.ensures) in
    rw c.in-Entry.is (cell ∙ sym word)
