use Rattle.std.proofs.Common.{◌≡◌, ◌&&◌, is_none, sym, ap, ◌∙◌}
use Rattle.std.specs.List.{list_any}
use Rattle.bd_lrat.specs.Database.{database_of}
use Rattle.bd_lrat.specs.Log.{adds_empty, refused_from}
use Rattle.bd_lrat.proofs.AcceptedLogs.{none_from_not_some, refutation_is}
use Rattle.bd_lrat.proofs.Soundness.{refutation_sound}
use Rattle.bd_lrat.proofs.refutation.refutes.Goals as goal

pub returns-then-is_none-clause-refutation : goal.returns-then-is_none-clause-refutation
returns-then-is_none-clause-refutation c =
    let p = c.args.cnf.now in
    let lines = c.args.log.now in
    let none : c.is_none.result ≡ is_none (refused_from 1 (database_of p) lines) = none_from_not_some c.in_ok-refused.refused c.is_none.result c.is_none.ensures ∙ ap is_none c.in_ok-refused.ensures in
    refutation_is p lines c.adds_empty.result (c.adds_empty.ensures ∙ ap (λ b. b && list_any adds_empty lines) (sym c.if-is_none.true ∙ none))

pub returns-then-is_none-clause-sound : goal.returns-then-is_none-clause-sound
returns-then-is_none-clause-sound c h =
    let p = c.args.cnf.now in
    let lines = c.args.log.now in
    let none : c.is_none.result ≡ is_none (refused_from 1 (database_of p) lines) = none_from_not_some c.in_ok-refused.refused c.is_none.result c.is_none.ensures ∙ ap is_none c.in_ok-refused.ensures in
    refutation_sound p lines ((refutation_is p lines c.adds_empty.result (c.adds_empty.ensures ∙ ap (λ b. b && list_any adds_empty lines) (sym c.if-is_none.true ∙ none))).0 h)

pub returns-else-is_none-clause-refutation : goal.returns-else-is_none-clause-refutation
returns-else-is_none-clause-refutation c =
    let p = c.args.cnf.now in
    let lines = c.args.log.now in
    let none : c.is_none.result ≡ is_none (refused_from 1 (database_of p) lines) = none_from_not_some c.in_ok-refused.refused c.is_none.result c.is_none.ensures ∙ ap is_none c.in_ok-refused.ensures in
    refutation_is p lines c.is_none.result (c.if-is_none.false ∙ ap (λ b. b && list_any adds_empty lines) (sym c.if-is_none.false ∙ none))
