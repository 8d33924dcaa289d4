-- The worked history, computed. Assumes nothing.
use mathlib.Core.Path.{◌≡◌, refl}
use Rattle.hashers.specs.Keys.{hash_of}
use Rattle.rules.specs.Sizes.{is_power, is_size}
use Rattle.rules.specs.Walk.{follow, walk, probe}
use Rattle.rules.specs.Answers.{settle}
use Rattle.rules.specs.Calls as rule
use Rattle.rules.specs.Calls.{find_in, remove_in, insert_seen, insert_met, insert_stored}
use Rattle.rules.specs.Cursor.{set_at, set_value}
use Rattle.rules.specs.Entries.{stale, use_entry}
use Rattle.rules.specs.Moves.{move_cells, move_all}
use Rattle.rules.specs.Moves as moves
use Rattle.cells.specs.Layout.{is_shaped, fresh_words, done_by}
use Rattle.census.specs.Stores.{live_of}
use Rattle.census.specs.Calls.{history, final}
use Rattle.census.specs.Worked.{eight, seven, did}

-- what the calls did
pub worked_history : history 7 eight seven ≡ did
unfolding hash_of is_power is_size follow walk probe settle rule.find find_in rule.remove remove_in insert_seen insert_met insert_stored rule.insert set_at set_value stale use_entry move_cells move_all moves.move is_shaped fresh_words done_by
worked_history = refl

-- 5 and 6 are left
pub worked_live : live_of (final 7 eight seven) ≡ 2
unfolding hash_of is_power is_size follow walk probe settle rule.find find_in rule.remove remove_in insert_seen insert_met insert_stored rule.insert set_at set_value stale use_entry move_cells move_all moves.move is_shaped fresh_words done_by
worked_live = refl
