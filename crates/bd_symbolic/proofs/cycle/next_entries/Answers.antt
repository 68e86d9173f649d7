use Rattle.bd_model.specs.DesignView.{design_view, machine_view}
use Rattle.bd_symbolic.proofs.Growing.{Grows-trans}
use Rattle.bd_symbolic.proofs.States.{AreTerms-state}
use Rattle.bd_symbolic.proofs.Cycles.{IfOk-follows, lets_sorted, after_lets, nexts_sorted, cycle_sorted, cycle_denotes, over_made}
use Rattle.bd_symbolic.proofs.cycle.next_entries.Goals as goal

pub sym_lets-requires-clause-terms : goal.sym_lets-requires-clause-terms
sym_lets-requires-clause-terms c = AreTerms-state (design_view c.args.design.now) (machine_view c.args.machine.now) c.args.graph.now c.args.state.now _ c.requires.keeps c.requires.sorted tt

pub sym_lets-requires-clause-sorted : goal.sym_lets-requires-clause-sorted
sym_lets-requires-clause-sorted c = lets_sorted (design_view c.args.design.now) (machine_view c.args.machine.now) c.args.graph.now c.args.state.now c.requires.lawful c.requires.sorted

pub next_terms-requires-clause-terms : goal.next_terms-requires-clause-terms
next_terms-requires-clause-terms c =
    after_lets (design_view c.args.design.now) (machine_view c.args.machine.now) c.args.graph.now _ c.args.state.now _ c.requires.keeps c.requires.sorted c.sym_lets.ensures.grows c.in_ok-lets.ensures.lets

pub next_terms-requires-clause-sorted : goal.next_terms-requires-clause-sorted
next_terms-requires-clause-sorted c =
    nexts_sorted (design_view c.args.design.now) (machine_view c.args.machine.now) c.args.graph.now _ c.args.state.now _ c.requires.lawful c.requires.sorted c.sym_lets.ensures.grows c.in_ok-lets.ensures.lets

pub sym_lets-requires-clause-limits : goal.sym_lets-requires-clause-limits
sym_lets-requires-clause-limits c = c.requires.lawful.local_limits

pub next_terms-requires-clause-limits : goal.next_terms-requires-clause-limits
next_terms-requires-clause-limits c = c.requires.lawful.next_limits

pub returns-clause-sorted : goal.returns-clause-sorted
returns-clause-sorted c =
    IfOk-follows _ _ c.next_terms.result
    (λ ids h. cycle_sorted (design_view c.args.design.now) (machine_view c.args.machine.now) c.args.graph.now c.sym_lets.new.graph c.next_terms.new.graph c.args.state.now _ ids c.requires.lawful c.requires.sorted c.sym_lets.ensures.grows c.in_ok-lets.ensures.lets h)
    c.next_terms.ensures.terms

pub returns-clause-denotes : goal.returns-clause-denotes
returns-clause-denotes c =
    IfOk-follows _ _ c.next_terms.result
    (λ ids h. cycle_denotes (design_view c.args.design.now) (machine_view c.args.machine.now) c.args.graph.now c.sym_lets.new.graph c.next_terms.new.graph c.args.state.now _ ids c.requires.sorted c.sym_lets.ensures.grows c.in_ok-lets.ensures.lets h)
    c.next_terms.ensures.terms

pub returns-clause-grows : goal.returns-clause-grows
returns-clause-grows c = Grows-trans (design_view c.args.design.now) _ _ _ c.sym_lets.ensures.grows c.next_terms.ensures.grows

pub returns-clause-made : goal.returns-clause-made
returns-clause-made c =
    let m = machine_view c.args.machine.now in
    IfOk-follows _ _ c.next_terms.result
    (λ ids h. over_made (design_view c.args.design.now) c.args.graph.now c.sym_lets.new.graph c.next_terms.new.graph c.args.state.now m.locals m.nexts _ ids c.next_terms.ensures.grows.extends c.in_ok-lets.ensures.lets h)
    c.next_terms.ensures.terms
