use Rattle.bd_verify.proofs.reduction.negated.Goals as goal

pub returns : goal.returns
returns c = record {
  negation = c.mk_not.new.self;
  negation_root = c.in_ok-negation.negation;
  negated = c.in_ok-negation.ensures.form;
  gathered = c.in_ok-gathered.ensures.gathered;
  graph = c.in_ok-gathered.ensures.graph;
  inside = c.in_ok-gathered.ensures.inside;
}
