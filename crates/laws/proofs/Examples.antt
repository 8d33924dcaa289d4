-- The rules give exactly what worked examples 1 to 7 of document 01 say: computed. Assumes nothing.
use mathlib.Core.List.{map}
use mathlib.Core.Path.{◌≡◌, refl}
use Rattle.hashers.specs.Keys.{hash_of}
use Rattle.rules.specs.Sizes.{is_power, is_size}
use Rattle.rules.specs.Walk.{follow, walk, probe}
use Rattle.rules.specs.Answers.{settle}
use Rattle.rules.specs.Calls.{find_in, find, remove_in, remove, insert_seen, insert_met, insert_stored, insert}
use Rattle.cells.specs.Layout.{is_shaped, fresh_words, done_by}
use Rattle.laws.specs.Examples.{run, ran, gives, examples}

-- every case gives its answers, its counts and its table
pub examples_hold : map ran examples ≡ map gives examples
unfolding hash_of is_power is_size follow walk probe settle find_in find remove_in remove insert_seen insert_met insert_stored insert is_shaped fresh_words done_by run
examples_hold = refl
