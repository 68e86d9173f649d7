use Rattle.std.proofs.Common.{◌≡◌, Some, sym, ◌∙◌, option_copied, if◌then◌else◌}
use Rattle.std.proofs.lemmas.Result.{IfOk-weaker}
use Rattle.bd_equality.specs.declared.wanted.Wanted.{Wanted}
use Rattle.bd_equality.specs.inner.Sets.{done_in, is_wanted, known}
use Rattle.bd_equality.specs.inner.Steps.{Settles}
use Rattle.bd_equality.proofs.Finishing.{unknown}
use Rattle.bd_equality.proofs.Stepping.{Settles-keep}
use Rattle.bd_equality.proofs.encoding.Encoding.finish.Goals as goal

pub returns : goal.returns
returns c =
    let nodes = c.args.flat.now.graph in
    let syms = c.args.flat.now.syms in
    let marked = option_copied c.args.marked in
    let e = c.args.self.now in
    let q = c.args.wanted.now in
    let done = done_in c.args.way.now c.in_ok-node.node in
    IfOk-weaker c.keep.result (λ _. (w : Wanted) → known c.keep.new.self w ≡ (if is_wanted q w then Some done else known e.settled w)) (λ _. Settles nodes syms marked e.settled c.make.new.prop c.keep.new.self q)
    (λ _ keeps.
    Settles-keep nodes syms marked e.settled c.keep.new.self q done (unknown e.settled q c.get.result c.get.ensures (sym c.is_some.ensures ∙ c.if-is_some.false)) keeps e.prop c.make.new.prop c.requires.encoding c.in_ok-node.ensures)
    c.keep.ensures
