use Rattle.std.proofs.Common.{◌+◌, ◌<◌, ℕ, List, Option, length, drop, get_or, rules, arith, refl, inl, inr, subst, sym, map}
use Rattle.std.proofs.lemmas.List.{drop_all, drop_more}
use Rattle.std.proofs.lemmas.Grind.{common_steps}
use Rattle.bd_files.specs.Devices.{Appends, AppendsPrefix, Counts, Rose}
use Rattle.bd_files.specs.Pieces.{PutsEach}
use Rattle.bd_files.proofs.Puts.{AppendsPrefix-pieces}
use Rattle.bd_files.proofs.pieces.put_pieces.Goals as goal

pub returns-in_err-put-clause-prefix : goal.returns-in_err-put-clause-prefix
returns-in_err-put-clause-prefix g c =
    let cut = AppendsPrefix-pieces (λ p. p.now) _ _ _ _ _ _ c.loop-piece-test.true c.loop-piece.invariant.written c.in_err-put.ensures.prefix in
    search (rules, cut)

-- a piece was put, and then the rest
then_rest : {S X : Type 0} (written : S → Option (List ℕ)) (faults : S → ℕ) (puts : S → Option ℕ) (f : X → List ℕ) (xs : List X) (i : ℕ) (d : X) (s next after : S) → i < length xs
    → Counts (puts s) (puts next) 1 → Appends (written s) (written next) (f (get_or xs i d)) → PutsEach written faults puts next after (map f (drop (i + 1) xs))
    → PutsEach written faults puts s after (map f (drop i xs))
then_rest written faults puts f xs i d s next after lt one put rest =
    subst (λ l. PutsEach written faults puts s after (map f l)) (sym (drop_more xs i d lt)) (next, one, inl (put, rest))

-- a put of a piece failed, and nothing was put after it
then_none : {S X : Type 0} (written : S → Option (List ℕ)) (faults : S → ℕ) (puts : S → Option ℕ) (f : X → List ℕ) (xs : List X) (i : ℕ) (d : X) (s next : S) → i < length xs
    → Counts (puts s) (puts next) 1 → AppendsPrefix (written s) (written next) (f (get_or xs i d)) → Rose (faults s) (faults next)
    → PutsEach written faults puts s next (map f (drop i xs))
then_none written faults puts f xs i d s next lt one put rose =
    subst (λ l. PutsEach written faults puts s next (map f l)) (sym (drop_more xs i d lt)) (next, one, inr (put, rose, refl))

pub loop-piece-preserved : goal.loop-piece-preserved
loop-piece-preserved g c = record {
  written = grind (arith, common_steps);
  each = λ after rest. c.loop-piece.invariant.each after (then_rest g.S.Sink.written g.S.Sink.faults g.S.Sink.puts (λ p. p.now) c.args.pieces.now c.loop-piece.piece-index _ _ _ after c.loop-piece-test.true
      c.in_ok-put.ensures.counted c.in_ok-put.ensures.appended rest);
  counted = search rules;
}

pub returns-in_err-put-clause-each : goal.returns-in_err-put-clause-each
returns-in_err-put-clause-each g c =
    c.loop-piece.invariant.each _ (then_none g.S.Sink.written g.S.Sink.faults g.S.Sink.puts (λ p. p.now) c.args.pieces.now c.loop-piece.piece-index _ _ _ c.loop-piece-test.true
    c.in_err-put.ensures.counted c.in_err-put.ensures.prefix c.in_err-put.ensures.failed_rose)

pub returns-clause-each : goal.returns-clause-each
returns-clause-each g c =
    c.loop-piece.invariant.each c.loop-piece.sink
    (subst (λ l. PutsEach g.S.Sink.written g.S.Sink.faults g.S.Sink.puts c.loop-piece.sink c.loop-piece.sink (map (λ p. p.now) l)) (sym (drop_all c.loop-piece.piece-index c.args.pieces.now c.loop-piece-test.false)) refl)
