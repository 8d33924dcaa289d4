-- The rules give exactly what worked example 8 of document 01 says of C = 8: computed. Assumes nothing.
use mathlib.Core.List.{map}
use mathlib.Core.Path.{◌≡◌, refl}
use Rattle.util.specs.Power.{first_of, round_up}
use Rattle.hashers.specs.Keys.{hash_of}
use Rattle.rules.specs.Sizes.{is_power, is_size}
use Rattle.rules.specs.Walk.{follow, walk, probe}
use Rattle.rules.specs.Answers.{settle}
use Rattle.rules.specs.Calls.{insert_seen, insert_met, insert_stored}
use Rattle.rules.specs.Sound.{count}
use Rattle.rules.specs.Growth.{sample, first_size}
use Rattle.rules.specs.Moves.{move_cells, move_all}
use Rattle.rules.specs.Growing.{tries, rounds, grow}
use Rattle.cells.specs.Layout.{fresh_words}
use Rattle.growthlaws.specs.Worked.{ran, gives, examples}

-- "With C=8, live 4 is moved and 5 is NoRoom"
pub example_8_holds : map ran examples ≡ map gives examples
unfolding hash_of is_power is_size follow walk probe settle insert_seen insert_met insert_stored count sample first_size round_up first_of move_cells move_all tries rounds grow fresh_words
example_8_holds = refl
