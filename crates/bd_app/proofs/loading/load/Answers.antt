use Rattle.std.proofs.Common.{◌<◌, ◌≤◌, length, refl}
use Rattle.bd_app.specs.Files.{most_bytes}
use Rattle.bd_app.proofs.Loads.{loaded_short, long_held}
use Rattle.bd_app.proofs.loading.load.Goals as goal

pub returns-then-as_slice-most-clause-loaded : goal.returns-then-as_slice-most-clause-loaded
returns-then-as_slice-most-clause-loaded g c =
    let few : length c.in-Ok.bytes.items ≤ most_bytes c.args.file = rw (c.as_slice.ensures.value, c.most_bytes-most.ensures) at c.if-as_slice-most.true in
    loaded_short (g.F.Files.held c.args.files.now) (c.args.file, c.args.name.now) c.in-Ok.bytes.items (rw c.most_bytes-most.ensures at c.in-Ok.ensures.loaded) few

pub returns-then-as_slice-most-clause-left : goal.returns-then-as_slice-most-clause-left
returns-then-as_slice-most-clause-left g c = record {
  fault = tt;
  leaves = record { blame = c.in-Ok.ensures.else_keeps_blame (λ is. cc is); held = c.in-Ok.ensures.holds_the_same; never_falls = c.in-Ok.ensures.never_falls };
  called = rw c.most_bytes-most.ensures at c.in-Ok.ensures.called;
}

pub returns-else-as_slice-most-clause-left : goal.returns-else-as_slice-most-clause-left
returns-else-as_slice-most-clause-left g c =
    let many : most_bytes c.args.file < length c.in-Ok.bytes.items = rw (c.as_slice.ensures.value, c.most_bytes-most.ensures) at c.if-as_slice-most.false in
    record {
      fault = (
        refl,
        long_held (g.F.Files.held c.args.files.now) (c.args.file, c.args.name.now) c.in-Ok.bytes.items (rw c.most_bytes-most.ensures at c.in-Ok.ensures.loaded) many,
        c.in-Ok.ensures.else_keeps_blame (λ is. cc is),
      );
      leaves = record { blame = tt; held = c.in-Ok.ensures.holds_the_same; never_falls = c.in-Ok.ensures.never_falls };
      called = rw c.most_bytes-most.ensures at c.in-Ok.ensures.called;
    }
