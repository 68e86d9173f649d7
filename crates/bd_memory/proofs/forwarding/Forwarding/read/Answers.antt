-- Reads are built from the lowest memory up.
use Rattle.std.proofs.Common.{sym, ◌∙◌, subst}
use Rattle.bd_memory.specs.inner.Forwarding.{IsMadeState, IsReadState}
use Rattle.bd_memory.proofs.Loop.{IsReading-push, kept-Holds, popped-smaller, popped-waits}
use Rattle.bd_memory.proofs.forwarding.Forwarding.read.Goals as goal

pub returns-in-Some-clause-means : goal.returns-in-Some-clause-means
returns-in-Some-clause-means g c = c.requires.0.words c.args.memory c.args.address c.in-Some.word (sym c.get.ensures ∙ c.in-Some.is)

pub returns-in-Some-clause-made : goal.returns-in-Some-clause-made
returns-in-Some-clause-made g c = c.requires.0.made_words c.args.memory c.args.address c.in-Some.word (sym c.get.ensures ∙ c.in-Some.is)

pub loop-waiting-preserved-in-Waits : goal.loop-waiting-preserved-in-Waits
loop-waiting-preserved-in-Waits g c =
    IsReading-push c.args.old.now g.root c.args.self.now.places.items c.loop-waiting.self c.read_from_below.new.self c.args.address c.args.memory
    c.loop-waiting.waiting.items c.push.new.self.items c.loop-waiting.here c.in-Waits.below c.loop-waiting.invariant
    c.in_ok-below.ensures.holds c.in_ok-below.ensures.address c.in_ok-below.ensures.places c.in_ok-below.ensures.reads
    (subst (IsReadState c.args.old.now c.read_from_below.new.self c.loop-waiting.here c.args.address) c.in-Waits.is c.in_ok-below.ensures.step)
    c.in_ok-push-in-Waits.ensures.items

pub loop-waiting-smaller : goal.loop-waiting-smaller
loop-waiting-smaller g c =
    popped-smaller c.args.old.now g.root c.args.self.now.places.items c.loop-waiting.self c.read_from_below.new.self c.keep.new.self c.args.address c.args.memory
    c.loop-waiting.waiting.items c.pop.new.self.items c.loop-waiting.here c.in-Some-pop.above c.in-Word.word c.loop-waiting.invariant
    c.in_ok-below.ensures.reads c.in_ok-keep-in-Word.ensures c.in-Some-pop.ensures.items

pub loop-waiting-preserved : goal.loop-waiting-preserved
loop-waiting-preserved g c = record {
  holds =
      kept-Holds c.args.old.now g.root c.read_from_below.new.self c.keep.new.self c.args.address c.loop-waiting.here c.in-Word.word
      c.in_ok-below.ensures.holds c.in_ok-below.ensures.address
      (subst (IsReadState c.args.old.now c.read_from_below.new.self c.loop-waiting.here c.args.address) c.in-Word.is c.in_ok-below.ensures.step)
      (subst (IsMadeState c.args.old.now c.read_from_below.new.self c.loop-waiting.here c.args.address) c.in-Word.is c.in_ok-below.ensures.made) c.in_ok-keep-in-Word.ensures;
  address = c.in_ok-below.ensures.address;
  places_stay = c.in_ok-below.ensures.places ∙ c.loop-waiting.invariant.places_stay;
  waits =
      popped-waits c.args.old.now g.root c.args.self.now.places.items c.loop-waiting.self c.read_from_below.new.self c.keep.new.self c.args.address c.args.memory
      c.loop-waiting.waiting.items c.pop.new.self.items c.loop-waiting.here c.in-Some-pop.above c.in-Word.word c.loop-waiting.invariant
      c.in_ok-below.ensures.reads c.in_ok-keep-in-Word.ensures c.in-Some-pop.ensures.items;
}

pub returns-in-None-clause-holds : goal.returns-in-None-clause-holds
returns-in-None-clause-holds g c =
    kept-Holds c.args.old.now g.root c.read_from_below.new.self c.keep.new.self c.args.address c.loop-waiting.here c.in-Word.word
    c.in_ok-below.ensures.holds c.in_ok-below.ensures.address
    (subst (IsReadState c.args.old.now c.read_from_below.new.self c.loop-waiting.here c.args.address) c.in-Word.is c.in_ok-below.ensures.step)
    (subst (IsMadeState c.args.old.now c.read_from_below.new.self c.loop-waiting.here c.args.address) c.in-Word.is c.in_ok-below.ensures.made) c.in_ok-keep-in-Word.ensures
