use Rattle.std.proofs.Common.{◌∙◌, ap}
use Rattle.std.specs.Prelude.{Option}
use Rattle.std.specs.Str.Parse.{ExplainsUnsignedError, HasUnsignedDigitsIfOk, ParsesUnsigned, without_leading_plus}
use Rattle.clap.specs.Matches.{found_of, one_text}
use Rattle.clap.proofs.WalkLemmas.{one_text-rows}
use Rattle.clap.specs.Walk.{Text}
use Rattle.bd_app.specs.Words.{digits_number, ◌>>=◌}
use Rattle.bd_app.proofs.WordValues.{number_found, number_read}
use Rattle.bd_app.proofs.words.number_at.Goals as goal

pub returns : goal.returns
returns c =
    number_found (one_text (found_of c.args.matches.now) c.args.id.now) c.get_one.result c.get_one.ensures.none
    (λ t is. number_read (λ bs r. ParsesUnsigned 32 10 bs r × ExplainsUnsignedError 10 bs r × HasUnsignedDigitsIfOk bs r) (λ bs r given. given.0) t c.get_one.result (c.get_one.ensures.value t is))
    ∙ ap (λ (o : Option Text). o >>= λ t. digits_number (without_leading_plus t)) (one_text-rows (found_of c.args.matches.now) c.args.id.now)
