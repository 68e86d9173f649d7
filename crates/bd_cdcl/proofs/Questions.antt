-- How many questions were asked, one after another.
use Rattle.std.proofs.Common.{ℕ, ◌+◌, ◌≤◌, Option, None, Some, arith}
use Rattle.std.specs.Prelude.{Result, Ok, Err, OnOk}
use Rattle.bd_cdcl.specs.Asks.{Asks, AsksAtMost}

asks_nothing : (count : Option ℕ) → Asks count count 0
asks_nothing None = tt
asks_nothing (Some n) = omega arith

-- none was
pub none_asked : (count : Option ℕ) (most : ℕ) → AsksAtMost count count most
none_asked count most = record { questions = 0; within = omega arith; asks = asks_nothing count }

-- one was
pub one_asked : (before after : Option ℕ) → Asks before after 1 → AsksAtMost before after 1
one_asked before after asks = record { questions = 1; within = omega arith; asks = asks }

-- questions after others
pub asks_after : (before between after : Option ℕ) (m n : ℕ) → Asks before between m → Asks between after n → Asks before after (m + n)
asks_after None None None m n first second = tt
asks_after None None (Some c) m n first second = second
asks_after None (Some b) after m n first second = absurd first
asks_after (Some a) None None m n first second = tt
asks_after (Some a) None (Some c) m n first second = absurd second
asks_after (Some a) (Some b) None m n first second = tt
asks_after (Some a) (Some b) (Some c) m n first second = omega arith

-- at most so many are at most more
pub more_allowed : (before after : Option ℕ) (few many : ℕ) → few ≤ many → AsksAtMost before after few → AsksAtMost before after many
more_allowed before after few many less asked =
    let within : asked.questions ≤ few = asked.within in
    record { questions = asked.questions; within = omega arith; asks = asked.asks }

-- one at most after one
pub one_more : (before between after : Option ℕ) → Asks before between 1 → AsksAtMost between after 1 → AsksAtMost before after 2
one_more before between after first more =
    let within : more.questions ≤ 1 = more.within in
    record { questions = 1 + more.questions; within = omega arith; asks = asks_after before between after 1 more.questions first more.asks }

-- one after one
pub two_asked : {X E : Type 0} (before between after : Option ℕ) (r : Result X E) → Asks before between 1 → OnOk r (Asks between after 1) → OnOk r (Asks before after 2)
two_asked before between after (Ok v) first second = asks_after before between after 1 1 first second
two_asked before between after (Err e) first second = tt
