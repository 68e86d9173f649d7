use Rattle.std.proofs.Common.{◌≡◌, ℕ, Some, None, ap, length, subst}
use Rattle.std.specs.Prelude.{nat_eq, if◌then◌else◌}
use Rattle.std.specs.Map.{lookup}
use Rattle.bd_transitive.specs.Triangle.{class_of}
use Rattle.std.specs.Cmp.{unsigned_Decides}
use Rattle.std.proofs.lemmas.Map.Made.{IsDistinct-from_AllPairs}
use Rattle.bd_function.specs.Values.{held, scalar_of}
use Rattle.bd_lift.specs.Decoded.{AreDecodedBy, is_end}
use Rattle.bd_lift.specs.inner.Steps.{AreDecodedSo, word_by}
use Rattle.bd_lift.proofs.Decoding.{AreDecodedSo-by}
use Rattle.bd_list.proofs.Results.{if_ok}
use Rattle.bd_lift.proofs.decode.decode.Goals as goal

pub end_classes-requires : goal.end_classes-requires
end_classes-requires c = IsDistinct-from_AllPairs unsigned_Decides c.args.order.now.vertices c.requires.vertices

pub returns : goal.returns
returns c =
    let order = c.args.order.now in
    if_ok (λ v. AreDecodedSo c.args.flat.now.graph (word_by c.in_ok-ends.ends.entries (length c.as_slice-2.result.now)) c.args.values.now (held v))
    (λ v. AreDecodedBy c.args.flat.now.graph order c.args.values.now c.args.classes.now (scalar_of v)) c.decode_all.result c.decode_all.ensures
    (λ v h. AreDecodedSo-by c.args.flat.now.graph order c.args.classes.now c.args.values.now c.in_ok-ends.ends.entries (held v)
    (subst (λ l. (x : ℕ) → lookup (nat_eq x) c.in_ok-ends.ends.entries ≡ (if is_end order.edges x then Some (class_of order.vertices l x) else None)) c.as_slice.ensures c.in_ok-ends.ensures)
    (subst (λ n. AreDecodedSo c.args.flat.now.graph (word_by c.in_ok-ends.ends.entries n) c.args.values.now (held v)) (ap length c.as_slice-2.ensures) h))
