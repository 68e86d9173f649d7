use Rattle.std.proofs.Common.{◌<◌, ◌≤◌, ◌≡◌, length, false, sym, ap, ◌∙◌, arith}
use Rattle.std.proofs.lemmas.List.{get_or_read}
use Rattle.bd_model.specs.Fits.{value_sort}
use Rattle.bd_model.specs.Value.{truth}
use Rattle.bd_model.specs.declared.design.Entry.{Entry}
use Rattle.bd_slice.specs.inner.Followed.{FollowsKept}
use Rattle.bd_slice.proofs.Cycles.{zip_take, zip_all, same_sorts, same_lengths}
use Rattle.bd_slice.proofs.graph.SupportGraph.state_of.Goals as goal

pub loop-entry-preserved : goal.loop-entry-preserved
loop-entry-preserved c =
    let case = c.args.case.now in
    let items = c.as_slice-value-items.result.now in
    let i = c.loop-entry.entry in
    let within : c.loop-entry.entry < length c.as_slice-value-items.result.now = omega arith in
    record {
      grows = λ d o h. c.loop-entry.invariant.grows d o (c.in_ok-entry_of.ensures.grows d o h);
      follows = λ d o h fits other.
          let here = rw c.as_slice-value-items.ensures at (get_or_read items i c.value-item.result within c.value-item.is (truth false)) in
          let sorts = same_sorts d.pipe.entries case.state o.case.state i (truth false) fits.state other.state (rw c.as_slice-value-items.ensures at within) in
          zip_take (FollowsKept o) _ _ o.case.state i (truth false) _ sorts.0 (c.loop-entry.invariant.follows d o (c.in_ok-entry_of.ensures.grows case o h) fits other) c.in_ok-push.ensures.items
          (c.in_ok-entry_of.ensures.follows case o h (sym here) (sorts.1 ∙ ap value_sort (sym here)));
    }

pub returns-clause-follows : goal.returns-clause-follows
returns-clause-follows c = λ d o h fits other.
    let case = c.args.case.now in
    let size = same_lengths (λ (e : Entry) v. value_sort v ≡ e.sort) d.pipe.entries case.state o.case.state fits.state other.state in
    let end : length o.case.state ≤ c.loop-entry.entry = omega (arith, size, c.loop-entry-test.false, ap length c.as_slice-value-items.ensures) in
    zip_all (FollowsKept o) _ o.case.state c.loop-entry.entry end (c.loop-entry.invariant.follows d o h fits other)
