-- A small history: seven calls on a fresh table of 8 cells. Hasher: Simple.
use Rattle.std.specs.Prelude.{List, [], ◌∷◌}
use Rattle.hashers.specs.declared.Hasher.TheVariants.{Simple}
use Rattle.rules.specs.Entries.{vacant, inserting}
use Rattle.cells.specs.Layout.{fresh_words, fresh_deltas}
use Rattle.census.specs.History.{Event, put, drop, still}
use Rattle.census.specs.Stores.{Store}
use Rattle.census.specs.Calls.{insert, remove, act, set, move, on, Calls}
use Rattle.census.specs.Starts.{fresh_alone}

abbrev pub eight : Store
eight = fresh_alone 8 Simple

-- 5 is inserted, removed and inserted again; 0 is refused; 6 is inserted by an entry; cell 5 is set; all moves to 16 cells
abbrev pub seven : Calls 7 eight
seven = (
  on (insert 5 50),
  (
    on (remove 5),
    (
      on (insert 5 51),
      (on (insert 0 1), (on (act (record { key = 6; hash = 6; place = vacant }) (inserting 60)), (on (set 5 52), (on (move (fresh_words 16) (fresh_deltas 16)), tt)))),
    ),
  ),
)

abbrev pub did : List Event
did = put 5 ∷ drop 5 ∷ put 5 ∷ still ∷ put 6 ∷ still ∷ still ∷ []
