use Rattle.std.proofs.Common.{ap, sym, ◌∙◌, map}
use Rattle.std.proofs.lemmas.List.{map_push, length-map}
use Rattle.bd_model.specs.DesignView.{exact_view, local_view, port_view}
use Rattle.bd_model.specs.ExprView.{expr_view}
use Rattle.bd_model.specs.Lawful.{uses_input}
use Rattle.bd_syntax.specs.Forms.{expression_of}
use Rattle.bd_typer.specs.declared.names.Meaning.TheVariants.{Local}
use Rattle.bd_typer.specs.NameMap.{declare}
use Rattle.bd_typer.specs.inner.Held.{meanings, meanings_within, typed_view}
use Rattle.bd_typer.proofs.Steps.{kept, let_ok, within_declare}
use Rattle.bd_typer.proofs.walk.Typed.local.Goals as goal

pub returns : goal.returns
returns c =
    let outer = c.args.outer in
    let old = c.args.self.now in
    let new = c.keep.new.self in
    let value = c.in_ok-value.value in
    let uses = uses_input old.flags.items (expr_view value) in
    let names = meanings_within outer (meanings old.names) in
    let e = c.in_ok-keep.ensures in
    let typed = rw (c.lookup.ensures.own, c.lookup.ensures.outer) at c.in_ok-value.ensures in
    let_ok c.args.inputs (typed_view outer old) c.args.name.now c.args.sort (expression_of c.args.value.now) (expr_view value) (typed_view outer new) typed
    (kept (typed_view outer old) (typed_view outer new) c.args.name.now.text c.args.sort (expr_view value)
    (ap (meanings_within outer) e.names ∙ within_declare outer (meanings old.names) c.args.name.now.text _ ∙ ap (λ n. declare names c.args.name.now.text (Local n c.args.sort uses)) (sym (length-map old.locals local_view)))
    (ap (map port_view) e.ports)
    (ap (map local_view) e.locals ∙ map_push local_view old.locals _)
    e.flags
    (ap (λ v. map expr_view v.items) e.nexts)
    (ap (map exact_view) e.exact)
    e.distinct)
