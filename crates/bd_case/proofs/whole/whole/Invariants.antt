use Rattle.std.proofs.Common.{◌≡◌, length}
use Rattle.std.specs.Iterator.Adapters.{zip_first, zip_second}
use Rattle.std.specs.Slice.Iter.{iter_rest}
use Rattle.std.specs.Vec.Iter.{into_iter_items, into_iter_len}
use Rattle.bd_syntax.proofs.EachForm.{with_front}
use Rattle.bd_case.specs.Reading.{whole_form}
use Rattle.bd_case.proofs.whole.whole.Given as goal

abbrev pub invariant-loop-kind : goal.invariant-loop-kind
invariant-loop-kind l = record {
  next : (goal.iterator-loop-kind).can_next l.kind-iterator;
  finite : (goal.iterator-loop-kind).is_finite l.kind-iterator;
  sized : into_iter_len (zip_second l.kind-iterator) ≡ length (into_iter_items (zip_second l.kind-iterator));
  read :
      with_front l.tables.items (whole_form l.offset (iter_rest (zip_first l.kind-iterator)) (into_iter_items (zip_second l.kind-iterator)))
      ≡ whole_form l.offset l.kinds l.fn.given.items;
}
