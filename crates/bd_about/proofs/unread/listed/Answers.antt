use Rattle.bd_about.proofs.Unmarked.{all_listed}
use Rattle.bd_about.proofs.unread.listed.Goals as goal

pub returns : goal.returns
returns c =
    all_listed c.args.design.now c.args.pipe.now c.args.spec.now c.args.inv.now _ c.requires.pipe c.requires.spec c.requires.inv
    (rw (c.deref.ensures.value, c.len-lets.ensures) at c.in_ok-unset.ensures)
    (rw (c.deref-2.ensures.value, c.len-spec_lets.ensures) at c.in_ok-unset-2.ensures)
    (rw (c.deref-3.ensures.value, c.len-inv_lets.ensures) at c.in_ok-unset-3.ensures)
    (rw (c.deref-4.ensures.value, c.deref-5.ensures.value, c.len-entries.ensures) at c.in_ok-unset-4.ensures)
    (rw (c.deref-6.ensures.value, c.len-inputs.ensures) at c.in_ok-unset-5.ensures)
    (rw (c.deref-7.ensures.value, c.deref-8.ensures.value, c.deref-9.ensures.value, c.len-symbols.ensures) at c.in_ok-unset-6.ensures)
