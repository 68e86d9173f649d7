use Rattle.std.proofs.Common.{◌≡◌, ◌+◌, ◌∷◌, ◌++◌, ◌∙◌, [], List, Some, Contains, get_or, take, sym, ap, subst, arith}
use Rattle.std.proofs.lemmas.List.{take_more, take_all}
use Rattle.bd_transitive.specs.declared.span.Span.{Span}
use Rattle.bd_transitive.specs.inner.Spans.{AddsFan, IsEarlier, span, span_between}
use Rattle.bd_transitive.proofs.Fans.{AddsFan-none, AddsFan-push, across_there, third_apart, triangle_made}
use Rattle.bd_transitive.proofs.clauses.push_fan.Goals as goal

pub loop-d-init : goal.loop-d-init
loop-d-init c = AddsFan-none c.args.spans.now.keys c.args.variables.now c.args.e c.args.clauses.now

pub number_of-f-requires : goal.number_of-f-requires
number_of-f-requires c =
    let spans = c.args.spans.now.keys in
    let d = get_or c.args.row.now c.loop-d.d-index 0 in
    let is : c.between.result ≡ span_between (get_or spans d (span 0 0)).high (get_or spans c.args.e (span 0 0)).high =
    c.between.ensures ∙ ap (λ (l : List Span). span_between (get_or l d (span 0 0)).high (get_or l c.args.e (span 0 0)).high) c.as_slice-all.ensures.keys in
    subst (Contains spans) (sym is) (across_there c.requires.complete.0 spans c.requires.complete.1 c.args.e d (c.requires.row c.loop-d.d-index 0 (omega arith)))

pub push_triangle-requires-clause-rising : goal.push_triangle-requires-clause-rising
push_triangle-requires-clause-rising c = (c.requires.row c.loop-d.d-index 0 (omega arith)).before

pub push_triangle-requires-clause-third : goal.push_triangle-requires-clause-third
push_triangle-requires-clause-third c =
    let spans = c.args.spans.now.keys in
    let d = get_or c.args.row.now c.loop-d.d-index 0 in
    let e = c.args.e in
    let f = c.number_of-f.result in
    let is : c.between.result ≡ span_between (get_or spans d (span 0 0)).high (get_or spans e (span 0 0)).high =
    c.between.ensures ∙ ap (λ (l : List Span). span_between (get_or l d (span 0 0)).high (get_or l e (span 0 0)).high) c.as_slice-all.ensures.keys in
    third_apart c.requires.complete.0 spans c.requires.complete.1 d e f
    (triangle_made c.requires.complete.0 spans c.requires.complete.1 e d (c.requires.row c.loop-d.d-index 0 (omega arith)) f (c.number_of-f.ensures.value ∙ ap Some is))

pub loop-d-preserved : goal.loop-d-preserved
loop-d-preserved c =
    let spans = c.args.spans.now.keys in
    let row = c.args.row.now in
    let i = c.loop-d.d-index in
    let d = get_or row i 0 in
    let e = c.args.e in
    let f = c.number_of-f.result in
    let is : c.between.result ≡ span_between (get_or spans d (span 0 0)).high (get_or spans e (span 0 0)).high =
    c.between.ensures ∙ ap (λ (l : List Span). span_between (get_or l d (span 0 0)).high (get_or l e (span 0 0)).high) c.as_slice-all.ensures.keys in
    let earlier : IsEarlier spans e d = c.requires.row i 0 (omega arith) in
    let made = triangle_made c.requires.complete.0 spans c.requires.complete.1 e d earlier f (c.number_of-f.ensures.value ∙ ap Some is) in
    let next : take (i + 1) row ≡ take i row ++ d ∷ [] = take_more row i 0 (omega arith) in
    subst (λ l. AddsFan spans c.args.variables.now l e c.args.clauses.now c.push_triangle.new.clauses) (sym next)
    (AddsFan-push spans c.args.variables.now (take i row) d e f c.args.clauses.now c.loop-d.clauses c.push_triangle.new.clauses c.loop-d.invariant made c.in_ok-push_triangle.ensures)

pub returns : goal.returns
returns c =
    let row = c.args.row.now in
    let i = c.loop-d.d-index in
    let all : take i row ≡ row = take_all i row (omega arith) in
    subst (λ l. AddsFan c.args.spans.now.keys c.args.variables.now l c.args.e c.args.clauses.now c.loop-d.clauses) all c.loop-d.invariant
