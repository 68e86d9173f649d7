use Rattle.std.proofs.Common.{◌≡◌, ◌++◌, ◌∷◌, [], ap, ◌∙◌, arith, option_copied}
use Rattle.std.proofs.lemmas.Grind.{common_steps}
use Rattle.bd_equality.specs.declared.wanted.Visit.TheVariants.{Enter, Finish}
use Rattle.bd_equality.proofs.Settling.{IsSettling-end, IsSettling-enters, IsSettling-settled, IsSettling-start, smaller-enter, smaller-top, top_parts, top_wanted, top_way, width}
use Rattle.bd_equality.proofs.encoding.Encoding.settle.Goals as goal

pub loop-visit-init : goal.loop-visit-init
loop-visit-init c = record {
  encoding = c.requires.encoding;
  stays = λ w k. k;
  settling =
      IsSettling-start c.args.flat.now.graph c.requires.graph c.args.flat.now.syms c.args.flat.now.root c.args.flat.now.flat (option_copied c.args.marked) c.args.self.now.settled c.push.new.self.items c.args.wanted.now
      (c.in_ok-push.ensures.items ∙ ap (λ l. l ++ Enter c.args.wanted.now ∷ []) c.new-visits.ensures.items) c.requires.wanted;
}

pub enter-requires-clause-wanted : goal.enter-requires-clause-wanted
enter-requires-clause-wanted c =
    top_wanted c.args.flat.now.graph c.requires.graph c.args.flat.now.syms c.args.flat.now.root c.args.flat.now.flat (option_copied c.args.marked) c.loop-visit.self.settled c.loop-visit.visits.items c.pop.new.self.items (Enter c.in-Enter.entered) c.args.wanted.now
    (c.in-Some.ensures.items ∙ ap (λ v. c.pop.new.self.items ++ v ∷ []) c.in-Enter.is) c.loop-visit.invariant.settling

pub loop-visit-smaller-in-Continue-branch-2 : goal.loop-visit-smaller-in-Continue-branch-2
loop-visit-smaller-in-Continue-branch-2 c =
    let is = c.in-Some.ensures.items ∙ ap (λ v. c.pop.new.self.items ++ v ∷ []) c.in-Enter.is in
    smaller-enter c.args.flat.now.graph c.requires.graph c.args.flat.now.syms c.args.flat.now.root c.args.flat.now.flat (option_copied c.args.marked) c.loop-visit.self.settled c.loop-visit.visits.items c.pop.new.self.items c.enter.new.visits.items c.in-Enter.entered
    (top_wanted c.args.flat.now.graph c.requires.graph c.args.flat.now.syms c.args.flat.now.root c.args.flat.now.flat (option_copied c.args.marked) c.loop-visit.self.settled c.loop-visit.visits.items c.pop.new.self.items (Enter c.in-Enter.entered) c.args.wanted.now
    is c.loop-visit.invariant.settling)
    is c.in_ok-enter-in-Enter.ensures

pub loop-visit-preserved-in-Continue-branch-2 : goal.loop-visit-preserved-in-Continue-branch-2
loop-visit-preserved-in-Continue-branch-2 c = record {
  encoding = c.loop-visit.invariant.encoding;
  stays = c.loop-visit.invariant.stays;
  settling =
      IsSettling-enters c.args.flat.now.graph c.requires.graph c.args.flat.now.syms c.args.flat.now.root c.args.flat.now.flat (option_copied c.args.marked) c.loop-visit.self.settled c.loop-visit.visits.items c.pop.new.self.items c.enter.new.visits.items c.in-Enter.entered c.args.wanted.now
      (c.in-Some.ensures.items ∙ ap (λ v. c.pop.new.self.items ++ v ∷ []) c.in-Enter.is) c.in_ok-enter-in-Enter.ensures c.loop-visit.invariant.settling;
}

pub finish-requires-clause-wanted : goal.finish-requires-clause-wanted
finish-requires-clause-wanted c =
    top_wanted c.args.flat.now.graph c.requires.graph c.args.flat.now.syms c.args.flat.now.root c.args.flat.now.flat (option_copied c.args.marked) c.loop-visit.self.settled c.loop-visit.visits.items c.pop.new.self.items (Finish c.in-Finish.waiting c.in-Finish.way) c.args.wanted.now
    (c.in-Some.ensures.items ∙ ap (λ v. c.pop.new.self.items ++ v ∷ []) c.in-Finish.is) c.loop-visit.invariant.settling

pub finish-requires-clause-way : goal.finish-requires-clause-way
finish-requires-clause-way c =
    top_way c.args.flat.now.graph c.requires.graph c.args.flat.now.syms c.args.flat.now.root c.args.flat.now.flat (option_copied c.args.marked) c.loop-visit.self.settled c.loop-visit.visits.items c.pop.new.self.items c.in-Finish.waiting c.in-Finish.way c.args.wanted.now
    (c.in-Some.ensures.items ∙ ap (λ v. c.pop.new.self.items ++ v ∷ []) c.in-Finish.is) c.loop-visit.invariant.settling

pub finish-requires-clause-parts : goal.finish-requires-clause-parts
finish-requires-clause-parts c =
    top_parts c.args.flat.now.graph c.requires.graph c.args.flat.now.syms c.args.flat.now.root c.args.flat.now.flat (option_copied c.args.marked) c.loop-visit.self.settled c.loop-visit.visits.items c.pop.new.self.items c.in-Finish.waiting c.in-Finish.way c.args.wanted.now
    (c.in-Some.ensures.items ∙ ap (λ v. c.pop.new.self.items ++ v ∷ []) c.in-Finish.is) c.loop-visit.invariant.settling

pub loop-visit-smaller : goal.loop-visit-smaller
loop-visit-smaller c =
    smaller-top (width c.args.flat.now.syms) c.loop-visit.visits.items c.pop.new.self.items (Finish c.in-Finish.waiting c.in-Finish.way) (c.in-Some.ensures.items ∙ ap (λ v. c.pop.new.self.items ++ v ∷ []) c.in-Finish.is)

pub loop-visit-preserved : goal.loop-visit-preserved
loop-visit-preserved c =
    let s = c.in_ok-finish-in-Finish.ensures in
    record {
      encoding = s.encoding;
      stays = λ w k. s.stays w (c.loop-visit.invariant.stays w k);
      settling =
          IsSettling-settled c.args.flat.now.graph c.requires.graph c.args.flat.now.syms c.args.flat.now.root c.args.flat.now.flat (option_copied c.args.marked) c.loop-visit.self.settled c.finish.new.self.settled c.loop-visit.visits.items c.pop.new.self.items
          (Finish c.in-Finish.waiting c.in-Finish.way) c.args.wanted.now
          (c.in-Some.ensures.items ∙ ap (λ v. c.pop.new.self.items ++ v ∷ []) c.in-Finish.is) s.stays s.known c.loop-visit.invariant.settling;
    }

pub returns : goal.returns
returns c =
    let none : c.loop-visit.visits.items ≡ [] = grind (arith, common_steps) in
    record {
      encoding = c.loop-visit.invariant.encoding;
      stays = c.loop-visit.invariant.stays;
      known =
          IsSettling-end c.args.flat.now.graph c.requires.graph c.args.flat.now.syms c.args.flat.now.root c.args.flat.now.flat (option_copied c.args.marked) c.loop-visit.self.settled c.loop-visit.visits.items c.args.wanted.now none
          c.loop-visit.invariant.settling;
    }
