use Rattle.bd_model.specs.DesignView.{PortView, design_view}
use Rattle.bd_model.specs.Lawful.{IsLawfulPort, IsWithinLimits}
use Rattle.bd_symbolic.proofs.Widening.{AllByRecursion-weaker}
use Rattle.bd_symbolic.proofs.Growing.{Grows-trans}
use Rattle.bd_symbolic.proofs.States.{AreTerms-state}
use Rattle.bd_symbolic.proofs.Cycles.{lets_sorted, after_lets, idles, idles_sorted, idle_denotes, over_made}
use Rattle.bd_symbolic.proofs.flush.idle_inputs.Goals as goal

pub sym_lets-requires-clause-terms : goal.sym_lets-requires-clause-terms
sym_lets-requires-clause-terms c = AreTerms-state (design_view c.args.design.now) (design_view c.args.design.now).pipe c.args.graph.now c.args.state.now _ c.requires.keeps c.requires.sorted tt

pub sym_lets-requires-clause-sorted : goal.sym_lets-requires-clause-sorted
sym_lets-requires-clause-sorted c = lets_sorted (design_view c.args.design.now) (design_view c.args.design.now).pipe c.args.graph.now c.args.state.now c.requires.lawful.pipe c.requires.sorted

pub idle_terms-requires-clause-terms : goal.idle_terms-requires-clause-terms
idle_terms-requires-clause-terms c =
    after_lets (design_view c.args.design.now) (design_view c.args.design.now).pipe c.args.graph.now _ c.args.state.now _ c.requires.keeps c.requires.sorted c.sym_lets.ensures.grows c.in_ok-lets.ensures.lets

pub idle_terms-requires-clause-sorted : goal.idle_terms-requires-clause-sorted
idle_terms-requires-clause-sorted c =
    idles_sorted (design_view c.args.design.now) c.args.graph.now _ c.args.state.now _ c.requires.lawful c.requires.sorted c.sym_lets.ensures.grows c.in_ok-lets.ensures.lets

pub sym_lets-requires-clause-limits : goal.sym_lets-requires-clause-limits
sym_lets-requires-clause-limits c = c.requires.lawful.pipe.local_limits

pub idle_terms-requires-clause-limits : goal.idle_terms-requires-clause-limits
idle_terms-requires-clause-limits c =
    let d = design_view c.args.design.now in
    AllByRecursion-weaker (IsLawfulPort d) (λ (p : PortView). IsWithinLimits p.idle) (λ p h. h.limits) d.pipe.ports c.requires.lawful.ports

pub returns-in_err-inputs-clause-grows : goal.returns-in_err-inputs-clause-grows
returns-in_err-inputs-clause-grows c = Grows-trans (design_view c.args.design.now) _ _ _ c.sym_lets.ensures.grows c.idle_terms.ensures.grows

pub returns-clause-idle : goal.returns-clause-idle
returns-clause-idle c =
    idle_denotes (design_view c.args.design.now) c.args.graph.now c.sym_lets.new.graph c.idle_terms.new.graph c.args.state.now _ _ c.requires.lawful c.len-terms.ensures.graph c.requires.sorted c.sym_lets.ensures.grows c.in_ok-lets.ensures.lets c.in_ok-inputs.ensures.terms

pub returns-clause-grows : goal.returns-clause-grows
returns-clause-grows c = Grows-trans (design_view c.args.design.now) _ _ _ c.sym_lets.ensures.grows c.idle_terms.ensures.grows

pub returns-clause-made : goal.returns-clause-made
returns-clause-made c =
    let d = design_view c.args.design.now in
    over_made d c.args.graph.now c.sym_lets.new.graph c.idle_terms.new.graph c.args.state.now d.pipe.locals (idles d.pipe.ports) _ _ c.idle_terms.ensures.grows.extends c.in_ok-lets.ensures.lets c.in_ok-inputs.ensures.terms
