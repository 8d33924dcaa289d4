-- On an unsound table replacing by an entry at once and inserting its key can part: computed. Assumes nothing.
use mathlib.Core.Logic.{◌≢◌}
use mathlib.Core.Path.{◌≡◌, refl, sym, ap, ◌∙◌}
use Prim.Native.Nat.{ℕ}
use native.Mathlib.Omega.{arith}
use Rattle.hashers.specs.Keys.{hash_of}
use Rattle.rules.specs.Sizes.{is_power, is_size}
use Rattle.rules.specs.Walk.{follow, walk, probe}
use Rattle.rules.specs.Answers.{Outcome, settle}
use Rattle.rules.specs.Calls.{insert_seen, insert_met, insert_stored, insert}
use Rattle.rules.specs.Entries.{made, make_in, entry_of, stale, uncounted, use_entry, replace_by}
use Rattle.cells.specs.Layout.{is_shaped, fresh_words}
use Rattle.entrylaws.specs.Apart.{apart, entry8, replaced8, inserted8}

-- the key's entry is Occupied
pub apart_made : entry_of apart 8 ≡ made entry8
unfolding hash_of is_power is_size follow walk is_shaped fresh_words make_in entry_of
apart_made = refl

pub apart_replaced : replace_by apart entry8 9 ≡ replaced8
unfolding hash_of is_power is_size is_shaped fresh_words settle stale use_entry
apart_replaced = refl

pub apart_inserted : uncounted (insert apart 8 9) ≡ inserted8
unfolding hash_of is_power is_size follow walk probe settle insert_seen insert_met insert_stored insert is_shaped fresh_words
apart_inserted = refl

-- so the two differ
pub replace_and_insert_part : replace_by apart entry8 9 ≢ uncounted (insert apart 8 9)
replace_and_insert_part q =
    let e : replaced8 ≡ inserted8 = sym apart_replaced ∙ q ∙ apart_inserted in
    let z : ◌≡◌ {A = ℕ} 1 2 = ap (λ (o : Outcome). o.counts.live) e in
    omega arith
