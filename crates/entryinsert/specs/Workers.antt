-- How the contracts of the workers speak.
use Rattle.std.specs.Prelude.{cond, [], ℕ}
use Rattle.rules.specs.Cells.{Cells, Counts}
use Rattle.rules.specs.Answers.{refused, Outcome, leave}
use Rattle.rules.specs.Calls.{find_in, insert_stored}
use Rattle.rules.specs.Entries.{Action, keeping, replacing, inserting, is_found, uncounted}
use Rattle.entryinsert.specs.declared.giving.Doing.{Doing}
use Rattle.entryinsert.specs.declared.giving.Doing.TheVariants.{Refuse, Keep, Replace}

-- what is done with an Occupied entry, as an action
abbrev pub doing : Doing → ℕ → Action
doing Refuse v = inserting v
doing Keep v = keeping v
doing Replace v = replacing v

-- a Vacant entry's insert behind the checks: Stale where a find gives a value
unfoldable pub put_in : (S null : ℕ) → Cells → (ℕ → ℕ) → Counts → (h k v : ℕ) → Outcome
put_in S null cs value c h k v =
    cond (is_found (find_in S null cs value h k).said) (leave (refused 7 []) 0 c) (uncounted (insert_stored S null cs value c h k v))
