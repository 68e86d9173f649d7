use Rattle.std.proofs.Common.{slice_set, ◌++◌, ◌∷◌, [], ap, ◌∙◌}
use Rattle.bd_function.specs.declared.flat.FlatSym.{FlatSym}
use Rattle.bd_function.proofs.Rows.{set-with_row}
use Rattle.bd_function.proofs.eliminate.push.Goals as goal

pub returns : goal.returns
returns c =
    let old = c.args.rows.now.items in
    let held : FlatSym = c.index_mut.result.now in
    ap (λ l. slice_set old c.args.place (record { sym = held.sym; rows = l })) c.in_ok-push.ensures.ok
    ∙ ap (λ (s : FlatSym). slice_set old c.args.place (record { sym = s.sym; rows = s.rows ++ c.args.row ∷ [] })) c.index_mut.ensures.value
    ∙ set-with_row old c.args.place _ c.args.row c.requires
