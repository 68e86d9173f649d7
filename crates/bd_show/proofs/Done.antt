-- The answer to the question that the words ask is the answer to the words.
use Rattle.std.proofs.Common.{◌≡◌, ℕ, List, subst}
use Rattle.std.specs.Prelude.{Some, Result}
use Rattle.std.specs.declared.alloc.AllocError.{AllocError}
use Rattle.bd_app.specs.Meaning.{FilesSeen}
use Rattle.bd_show.specs.Commands.{taken}
use Rattle.bd_show.specs.Meaning.{IsAnswered, Question}
use Rattle.bd_show.specs.Program.{IsDone}
use Rattle.bd_show.specs.declared.answer.Answer.{Answer}
use Rattle.bd_show.specs.inner.Answered.{IsDoneOn, ended_of, text_of}

pub done_on : (words : List (List ℕ)) (q : Question) (a b : FilesSeen) (r : Result Answer AllocError) → taken words ≡ Some q → IsDoneOn q a b r → IsDone words a b (ended_of r) (text_of r)
done_on words q a b r asks is = record {
  unasked = λ none. absurd (cc (asks, none));
  untouched = λ none. absurd (cc (asks, none));
  answered = λ p also. let same : q ≡ p = cc (asks, also) in subst (λ x. IsAnswered x a b (ended_of r) (text_of r)) same is;
}
