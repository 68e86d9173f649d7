use Rattle.std.proofs.Common.{◌≡◌, ◌++◌, map, inl, refl, sym, ◌∙◌, option_copied}
use Rattle.std.proofs.lemmas.Result.{IfOk-weaker}
use Rattle.bd_equality.specs.declared.wanted.Visit.TheVariants.{Enter}
use Rattle.bd_equality.specs.inner.Split.{parts}
use Rattle.bd_equality.specs.inner.Steps.{Enters}
use Rattle.bd_equality.proofs.Finishing.{entered_of, known_of}
use Rattle.bd_equality.proofs.Rowing.{alike_of}
use Rattle.bd_equality.proofs.encoding.Encoding.enter.Goals as goal

pub returns-then-is_some : goal.returns-then-is_some
returns-then-is_some c = inl (refl, known_of c.args.self.now.settled c.args.wanted.now c.get.result c.get.ensures (sym c.is_some.ensures ∙ c.if-is_some.true))

pub push_parts-requires-clause-way : goal.push_parts-requires-clause-way
push_parts-requires-clause-way c = alike_of c.args.flat.now.graph c.args.flat.now.syms (option_copied c.args.marked) c.args.wanted.now c.in_ok-way.way c.in_ok-way.ensures

pub returns : goal.returns
returns c =
    let nodes = c.args.flat.now.graph in
    let syms = c.args.flat.now.syms in
    let marked = option_copied c.args.marked in
    let s = c.args.self.now.settled in
    let p = c.args.wanted.now in
    IfOk-weaker c.push_parts.result (λ _. c.push_parts.new.visits.items ≡ c.push.new.visits.items ++ map Enter (parts nodes syms p c.in_ok-way.way)) (λ _. Enters nodes syms marked s c.args.visits.now.items c.push_parts.new.visits.items p)
    (λ _ e. entered_of nodes syms marked s c.args.visits.now.items c.push.new.visits.items c.push_parts.new.visits.items p c.in_ok-way.way c.in_ok-way.ensures c.in_ok-push.ensures e) c.push_parts.ensures
