-- The growing insert on its four slices: what was lent, what the rule says of it, and an answer that meets the contract.
use Rattle.std.specs.Prelude.{List, ◌≡◌, ℕ}
use Rattle.rules.specs.Answers.{Outcome}
use Rattle.rules.specs.Calls.{insert}
use Rattle.rules.specs.Growing as rule
use Rattle.rules.specs.Growing.{LentHalves, in_use, GrowOutcome, grow}
use Rattle.parts.specs.Halves.{of_half, lent_halves}
use Rattle.halves.specs.Answers.{Four}
use Rattle.parts.specs.declared.Growing.{Growing}
use Rattle.growth.specs.Growth.{grown_by, grow_left}
use Rattle.growth.specs.declared.GrowAnswer.{GrowAnswer}

-- four slices and a record, lent
abbrev pub lent_on : Four → Growing → LentHalves
lent_on s g = lent_halves s.lower_words s.lower_deltas s.upper_words s.upper_deltas g

-- what the rule says of a growing insert
abbrev pub ruled : Four → Growing → (k v : ℕ) → GrowOutcome
ruled s g k v = grow (lent_on s g) k v

-- and of its first insert, at fixed size
abbrev pub first_insert : Four → Growing → (k v : ℕ) → Outcome
first_insert s g k v = insert (in_use (lent_on s g)) k v

-- an answer, and what was left, meet the contract of the growing insert
abbrev pub Meets : Four → Growing → (k v : ℕ) → GrowAnswer → Four → Type 0
Meets s g k v r s' =
    grown_by r s'.lower_words s'.lower_deltas s'.upper_words s'.upper_deltas
    ≡ grow_left (ruled s g k v) g s.lower_words s.lower_deltas s.upper_words s.upper_deltas

-- the words and the deltas of one half
abbrev pub words_of : rule.Half → Four → List ℕ
words_of h s = of_half h s.lower_words s.upper_words

abbrev pub deltas_of : rule.Half → Four → List ℕ
deltas_of h s = of_half h s.lower_deltas s.upper_deltas
