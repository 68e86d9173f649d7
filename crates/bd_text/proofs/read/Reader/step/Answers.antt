use Rattle.std.proofs.Common.{◌<◌, length, get_or, rules, arith}
use Rattle.std.proofs.lemmas.Result.{IfOk-weaker, IfErr-weaker}
use Rattle.bd_text.specs.Layout.{IsSeparator}
use Rattle.bd_text.specs.inner.Progress.{openings_of}
use Rattle.bd_text.proofs.Openings.{length-openings_of, OnBad-weaker, step_closes}
use Rattle.bd_text.proofs.Steps.{step_separator, step_comment, step_atom, step_open, fault_in_comment}
use Rattle.bd_text.proofs.read.Reader.step.Goals as goal

pub returns-in-59-clause-read : goal.returns-in-59-clause-read
returns-in-59-clause-read c =
    IfOk-weaker c.comment_end.result _ _ (λ end h. step_comment c.args.bytes.now c.args.at end _ _ c.requires.read c.in-59.is h.0 h.1) c.comment_end.ensures.ok

pub returns-in-59-clause-fault : goal.returns-in-59-clause-fault
returns-in-59-clause-fault c =
    IfErr-weaker c.comment_end.result _ _ (λ fault. OnBad-weaker fault _ _ (λ o code h.
    rw h.2 (fault_in_comment c.args.bytes.now c.args.at o _ _ c.requires.read c.in-59.is h.0 h.1 h.3))) c.comment_end.ensures.fault

pub returns-in-40-clause-read : goal.returns-in-40-clause-read
returns-in-40-clause-read c =
    IfOk-weaker c.begin_list.result _ _ (λ next h.
    let room : length (openings_of c.args.self.now.open_lists.items) < 200 = omega (arith, h.1, length-openings_of c.args.self.now.open_lists.items) in
    rw (h.0, h.2, h.3) (step_open c.args.bytes.now c.args.at _ _ c.requires.read c.requires.inside c.in-40.is room)) c.begin_list.ensures.ok

pub returns-in-41-clause-read : goal.returns-in-41-clause-read
returns-in-41-clause-read c =
    IfOk-weaker c.end_list.result _ _ (λ next h.
    rw h.0 (step_closes c.args.bytes.now c.args.at _ _ _ _ c.requires.read c.requires.inside c.in-41.is h.1)) c.end_list.ensures.ok

pub returns-in-33-to-126-clause-read : goal.returns-in-33-to-126-clause-read
returns-in-33-to-126-clause-read c =
    IfOk-weaker c.read_atom.result _ _ (λ next h.
    rw (h.1, h.2) (step_atom c.args.bytes.now c.args.at next _ _ c.requires.read h.0)) c.read_atom.ensures.ok

pub returns-then-is_separator-clause-read : goal.returns-then-is_separator-clause-read
returns-then-is_separator-clause-read c =
    let sep : IsSeparator (get_or c.args.bytes.now c.args.at 0) = search rules in
    step_separator c.args.bytes.now c.args.at _ _ c.requires.read c.requires.inside sep
