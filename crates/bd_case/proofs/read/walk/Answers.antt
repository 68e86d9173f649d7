use Rattle.std.proofs.Common.{◌+◌, length, ap, arith}
use Rattle.bd_model.specs.DesignView.{design_view}
use Rattle.bd_case.proofs.ReadsBack.{kinds_room}
use Rattle.bd_case.proofs.read.walk.Goals as goal

pub trail_from-requires : goal.trail_from-requires
trail_from-requires c =
    let frame = c.in_ok-frame.frame in
    omega (
      arith,
      kinds_room frame.layout.version (design_view frame.design.now),
      ap length c.in_ok-frame.ensures.frame.kinds,
      c.in_ok-tables.ensures.count,
      ap length c.deref-2.ensures.value,
      ap (λ d. length d.symbols + length d.pipe.entries) c.in_ok-frame.ensures.design,
    )
