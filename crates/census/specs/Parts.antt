-- Calls on the parts of two halves: what they leave, put back into the half in use.
use Rattle.std.specs.Prelude.{List, ◌++◌, ℕ, length, drop}
use Rattle.parts.specs.Halves.{half_of, used_words, used_deltas, with_table}
use Rattle.halves.specs.Answers.{four, in_lower, in_upper}
use Rattle.order.specs.Runs.{Memory}
use Rattle.census.specs.Stores.{TwoHalves, Store, alone, halved, move_from, moved_to}
use Rattle.census.specs.Calls.{Call, find, make, step, insert, remove, act, set, move, after_call}

-- the first 3S words and 2S deltas of the half in use, with the table record: a table alone, as a call at fixed size is lent it
abbrev pub parts_of : TwoHalves → Memory
parts_of h =
    record {
      words = used_words h.slices.lower_words h.slices.upper_words h.growing;
      deltas = used_deltas h.slices.lower_deltas h.slices.upper_deltas h.growing;
      table = h.growing.table;
    }

-- a part lies over the front of its half, whose rest stays
abbrev pub over_front : (part : List ℕ) → List ℕ → List ℕ
over_front part half = part ++ drop (length part) half

-- what a table's words, deltas and record make of the halves whose parts they are
abbrev pub put_back : TwoHalves → Memory → TwoHalves
put_back h m =
    let used = half_of h.growing.half in
    record {
      slices =
          four (in_lower used (over_front m.words) h.slices.lower_words) (in_lower used (over_front m.deltas) h.slices.lower_deltas)
          (in_upper used (over_front m.words) h.slices.upper_words) (in_upper used (over_front m.deltas) h.slices.upper_deltas);
      growing = with_table h.growing m.table;
    }

abbrev pub back_in : TwoHalves → Store → Store
back_in h (alone m) = halved (put_back h m)
back_in h (halved x) = halved x

-- A call on the parts. A move that succeeds makes its destination the table from then on; else the halves have their parts back.
abbrev pub on_parts : TwoHalves → Call → Store
on_parts h (find k) = back_in h (after_call (alone (parts_of h)) (find k))
on_parts h (make k) = back_in h (after_call (alone (parts_of h)) (make k))
on_parts h (step position) = back_in h (after_call (alone (parts_of h)) (step position))
on_parts h (insert k v) = back_in h (after_call (alone (parts_of h)) (insert k v))
on_parts h (remove k) = back_in h (after_call (alone (parts_of h)) (remove k))
on_parts h (act e a) = back_in h (after_call (alone (parts_of h)) (act e a))
on_parts h (set i v) = back_in h (after_call (alone (parts_of h)) (set i v))
on_parts h (move ws ds) =
    let o = move_from (alone (parts_of h)) ws ds in
    moved_to (halved (put_back h (parts_of h))) ws ds o o.ended
