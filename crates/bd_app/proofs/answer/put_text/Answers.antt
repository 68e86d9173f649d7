use Rattle.std.proofs.Common.{◌∙◌, map}
use Rattle.std.proofs.lemmas.List.{length-map}
use Rattle.std.proofs.lemmas.List.Concat.{concat_is}
use Rattle.std.proofs.lemmas.List.Folds.{flat_map-map}
use Rattle.bd_app.proofs.answer.put_text.Goals as goal

pub returns-clause-pieces : goal.returns-clause-pieces
returns-clause-pieces g c = record {
  pieces = map (λ p. p.now) c.args.pieces.now;
  whole = concat_is (map (λ p. p.now) c.args.pieces.now) ∙ flat_map-map (λ bytes. bytes) (λ p. p.now) c.args.pieces.now;
  count = length-map c.args.pieces.now (λ p. p.now);
  each = c.put_pieces.ensures.each;
}
