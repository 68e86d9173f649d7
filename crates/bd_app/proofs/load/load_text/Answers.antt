use Rattle.bd_typer.specs.declared.fault.Text.TheVariants as text
use Rattle.std.proofs.Common.{refl}
use Rattle.bd_app.specs.Files.{design_names}
use Rattle.bd_app.proofs.Loads.{all_held, few_third, first_fails, last_fails, last_loads, loads_next, named_fails, named_loads, one_fails, one_loads, short_file}
use Rattle.bd_app.proofs.load.load_text.Goals as goal

pub returns-in_err-pipe-clause-left : goal.returns-in_err-pipe-clause-left
returns-in_err-pipe-clause-left g c = first_fails c.from_residual.result c.from_residual.ensures.1 (one_fails c.in_err-pipe.ensures.left)

pub returns-in_err-spec-clause-left : goal.returns-in_err-spec-clause-left
returns-in_err-spec-clause-left g c =
    let held = g.F.Files.held c.args.files.now in
    loads_next (short_file held (text.Pipe, c.args.names.design.pipe.now) _ c.in_ok-pipe.ensures.loaded) (one_loads c.in_ok-pipe.ensures.left)
    (first_fails c.from_residual-in_err-spec.result c.from_residual-in_err-spec.ensures.1 (one_fails c.in_err-spec.ensures.left))

pub returns-in_err-text-clause-left : goal.returns-in_err-text-clause-left
returns-in_err-text-clause-left g c =
    let held = g.F.Files.held in
    loads_next (short_file (held c.args.files.now) (text.Pipe, c.args.names.design.pipe.now) _ c.in_ok-pipe.ensures.loaded) (one_loads c.in_ok-pipe.ensures.left)
    (loads_next (short_file (held c.load.new.files) (text.Spec, c.args.names.design.spec.now) _ c.in_ok-spec.ensures.loaded) (one_loads c.in_ok-spec.ensures.left)
    (first_fails c.from_residual-in_err-text.result c.from_residual-in_err-text.ensures.1 (one_fails c.in_err-text.ensures.left)))

pub returns-in_err-third-clause-left : goal.returns-in_err-third-clause-left
returns-in_err-third-clause-left g c =
    let held = g.F.Files.held in
    loads_next (short_file (held c.args.files.now) (text.Pipe, c.args.names.design.pipe.now) _ c.in_ok-pipe.ensures.loaded) (one_loads c.in_ok-pipe.ensures.left)
    (loads_next (short_file (held c.load.new.files) (text.Spec, c.args.names.design.spec.now) _ c.in_ok-spec.ensures.loaded) (one_loads c.in_ok-spec.ensures.left)
    (loads_next (short_file (held c.load-2.new.files) (c.args.file, c.args.names.text.now) _ c.in_ok-text.ensures.loaded) (one_loads c.in_ok-text.ensures.left)
    (last_fails c.from_residual-in_err-third.result c.from_residual-in_err-third.ensures.1 (named_fails (rw c.file.ensures at c.in_err-third.ensures.left)))))

pub returns-clause-left : goal.returns-clause-left
returns-clause-left g c =
    let held = g.F.Files.held in
    loads_next (short_file (held c.args.files.now) (text.Pipe, c.args.names.design.pipe.now) _ c.in_ok-pipe.ensures.loaded) (one_loads c.in_ok-pipe.ensures.left)
    (loads_next (short_file (held c.load.new.files) (text.Spec, c.args.names.design.spec.now) _ c.in_ok-spec.ensures.loaded) (one_loads c.in_ok-spec.ensures.left)
    (loads_next (short_file (held c.load-2.new.files) (c.args.file, c.args.names.text.now) _ c.in_ok-text.ensures.loaded) (one_loads c.in_ok-text.ensures.left)
    (last_loads _ (named_loads (rw c.file.ensures at c.in_ok-third.ensures.left)))))

pub returns-clause-loaded : goal.returns-clause-loaded
returns-clause-loaded g c =
    let held = g.F.Files.held c.args.files.now in
    all_held held (design_names c.args.names.design) _ refl c.in_ok-pipe.ensures.loaded (rw c.in_ok-pipe.ensures.left.leaves.held at c.in_ok-spec.ensures.loaded)
    (rw (c.file.ensures, c.in_ok-text.ensures.left.leaves.held, c.in_ok-spec.ensures.left.leaves.held, c.in_ok-pipe.ensures.left.leaves.held) at c.in_ok-third.ensures.loaded)

pub returns-clause-loaded_text : goal.returns-clause-loaded_text
returns-clause-loaded_text g c = rw (c.in_ok-spec.ensures.left.leaves.held, c.in_ok-pipe.ensures.left.leaves.held) at c.in_ok-text.ensures.loaded

pub returns-clause-few : goal.returns-clause-few
returns-clause-few g c = record {
  pipe = c.in_ok-pipe.ensures.few;
  spec = c.in_ok-spec.ensures.few;
  third = few_third c.args.names.design.premise _ (rw c.file.ensures at c.in_ok-third.ensures.few);
}
