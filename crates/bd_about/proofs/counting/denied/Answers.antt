use Rattle.bd_about.proofs.counting.denied.Goals as goal

pub returns : goal.returns
returns c = record {
  nodes = c.in_ok-denied.denied.prop;
  root = c.in_ok-denied.denied.root;
  negation = c.in_ok-denied.ensures;
  different = c.in_ok-formula.ensures.different;
  form = c.in_ok-formula.ensures.form.0;
}
