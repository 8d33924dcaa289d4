-- Each case of each answer, by 01's number and values; and what a call left.
use Rattle.std.specs.Prelude.{cond, List, [], ◌∷◌, ℕ, Option, Some, None, Result, Ok, Err}
use Rattle.hashers.specs.declared.Hasher.{Hasher}
use Rattle.rules.specs.Answers.{Said, found, absent, removed, refused, Answer}
use Rattle.cells.specs.Layout.{Done, Left, counts_of, size_in, is_shaped, fresh_words, fresh_deltas}
use Rattle.cells.specs.Workers.{put_said}
use Rattle.cells.specs.declared.Table.{Table}
use Rattle.cells.specs.declared.ShapeError.{ShapeError}
use Rattle.cells.specs.declared.insert.InsertSaid.{InsertSaid}
use Rattle.hashmap.specs.declared.LookupError.{LookupError}
use Rattle.hashmap.specs.declared.LookupError.TheVariants as lookups
use Rattle.hashmap.specs.declared.FindAnswer.{FindAnswer}
use Rattle.hashmap.specs.declared.RemoveAnswer.{RemoveAnswer}
use Rattle.hashmap.specs.declared.Removing.{Removing}
use Rattle.hashmap.specs.declared.InsertError.{InsertError}
use Rattle.hashmap.specs.declared.InsertError.TheVariants as inserts
use Rattle.hashmap.specs.declared.InsertAnswer.{InsertAnswer}

abbrev pub lookup_failed : LookupError → Said
lookup_failed lookups.Shape = refused 1 []
lookup_failed lookups.ZeroHash = refused 2 []
lookup_failed lookups.Broken = refused 5 []

abbrev pub find_said : Result (Option ℕ) LookupError → Said
find_said (Ok (Some v)) = found v
find_said (Ok None) = absent
find_said (Err e) = lookup_failed e

abbrev pub find_answer : FindAnswer → Answer
find_answer r = record { said = find_said r.said; looked = r.looked }

abbrev pub remove_said : Result (Option ℕ) LookupError → Said
remove_said (Ok (Some v)) = removed v
remove_said (Ok None) = absent
remove_said (Err e) = lookup_failed e

abbrev pub remove_done : Removing → List ℕ → List ℕ → Done
remove_done r ws ds =
    record { said = remove_said r.said; looked = r.looked; counts = counts_of r.live; words = ws; deltas = ds }

abbrev pub remove_left : RemoveAnswer → List ℕ → List ℕ → Left
remove_left r ws ds =
    record {
      done = record { said = remove_said r.said; looked = r.looked; counts = counts_of r.table.live; words = ws; deltas = ds };
      hasher = r.table.hasher;
    }

abbrev pub insert_failed : InsertError → Said
insert_failed inserts.Shape = refused 1 []
insert_failed inserts.ZeroHash = refused 2 []
insert_failed inserts.Null = refused 3 []
insert_failed (inserts.Full at) = refused 4 (at.position ∷ [])
insert_failed inserts.Broken = refused 5 []

abbrev pub insert_said : Result InsertSaid InsertError → Said
insert_said (Ok s) = put_said s
insert_said (Err e) = insert_failed e

abbrev pub insert_left : InsertAnswer → List ℕ → List ℕ → Left
insert_left r ws ds =
    record {
      done = record { said = insert_said r.said; looked = r.looked; counts = counts_of r.table.live; words = ws; deltas = ds };
      hasher = r.table.hasher;
    }

-- ---- clear: a fresh table of the lent size with the hasher given; 1 leaves all

-- what is said: the record of the fresh table, or a refusal
pub data Clear : Type 0 where
  cleared : Table → Clear
  refuses : ℕ → Clear

pub record Cleared : Type 0 where
  pub said : Clear
  pub words : List ℕ
  pub deltas : List ℕ

unfoldable pub clear_rule : List ℕ → List ℕ → Hasher → Cleared
clear_rule ws ds hasher =
    cond (is_shaped ws ds)
    (record { said = cleared (record { hasher = hasher; live = 0 }); words = fresh_words (size_in ds); deltas = fresh_deltas (size_in ds) })
    (record { said = refuses 1; words = ws; deltas = ds })

abbrev pub clear_said : Result Table ShapeError → Clear
clear_said (Ok t) = cleared t
clear_said (Err e) = refuses 1

abbrev pub clear_left : Result Table ShapeError → List ℕ → List ℕ → Cleared
clear_left r ws ds = record { said = clear_said r; words = ws; deltas = ds }
