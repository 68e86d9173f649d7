use Rattle.std.proofs.Common.{◌≡◌, ◌∙◌, ◌+◌, ◌<◌, ◌++◌, ◌∷◌, [], List, ℕ, Bor, length, map, take, sym, subst, rules}
use Rattle.std.specs.List.{concat}
use Rattle.std.proofs.lemmas.List.{take_all}
use Rattle.bd_web.proofs.Parts.{cut_each, cut_whole, left_over, split_is, too_short}
use Rattle.bd_web.proofs.cut.cut.Goals as goal

abbrev now_of : Bor (List ℕ) → List ℕ
now_of part = part.now

pub returns-in_default-clause-not_parts : goal.returns-in_default-clause-not_parts
returns-in_default-clause-not_parts c =
    λ is. too_short c.args.bytes.now c.args.lengths.now (map now_of c.loop-length.parts.items) c.loop-length.rest.now c.loop-length.length-index c.loop-length.invariant.whole c.loop-length.invariant.each c.loop-length-test.true c.in_default.ensures.cases

pub loop-length-preserved : goal.loop-length-preserved
loop-length-preserved c =
    let pushed : c.push.new.self.items ≡ c.loop-length.parts.items ++ c.in-Some.part ∷ [] = search rules in
    let cut = c.in-Some.ensures.cases in
    record {
      whole = subst (λ items. c.args.bytes.now ≡ concat (map now_of items) ++ c.in-Some.after.now) (sym pushed) (cut_whole now_of c.args.bytes.now c.loop-length.parts.items c.in-Some.part c.loop-length.rest.now c.in-Some.after.now c.loop-length.invariant.whole (split_is _ _ _ _ cut));
      each = subst (λ items. map length (map now_of items) ≡ take (c.loop-length.length-index + 1) c.args.lengths.now) (sym pushed) (cut_each now_of c.args.lengths.now c.loop-length.parts.items c.in-Some.part c.loop-length.length-index c.loop-length.invariant.each cut.3 c.loop-length-test.true);
    }

pub returns-clause-not_parts : goal.returns-clause-not_parts
returns-clause-not_parts c =
    let more : 0 < length c.loop-length.rest.now = search rules in
    λ is. left_over c.args.bytes.now c.args.lengths.now (map now_of c.loop-length.parts.items) c.loop-length.rest.now c.loop-length.invariant.whole (c.loop-length.invariant.each ∙ take_all c.loop-length.length-index c.args.lengths.now c.loop-length-test.false) more
