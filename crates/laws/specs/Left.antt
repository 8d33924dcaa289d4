-- What it is to leave all, and what an answer makes of live.
use Rattle.std.specs.Prelude.{◌≡◌, ℕ, ◌+◌, ◌-◌}
use Rattle.rules.specs.Cells.{Counts}
use Rattle.rules.specs.Answers.{Said, found, absent, new, replaced, revived, removed, refused, nothing, Outcome}

-- all is left: nothing is changed, and the counts stay
pub record Leaves (c : Counts) (o : Outcome) : Type 0 where
  pub change : o.change ≡ nothing
  pub counts : o.counts ≡ c

-- New and Revived add 1 to live, Removed takes 1, every other answer leaves it
abbrev pub live_after : Said → ℕ → ℕ
live_after new n = n + 1
live_after revived n = n + 1
live_after (removed v) n = n - 1
live_after (found v) n = n
live_after absent n = n
live_after (replaced v) n = n
live_after (refused r l) n = n
