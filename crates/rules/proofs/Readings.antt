-- What the definitions say at the places where document 01 is easily read another way: small tables, computed. Assumes nothing.
use mathlib.Core.Bool.{true, false}
use mathlib.Core.List.{List, [], ◌∷◌}
use mathlib.Core.Path.{◌≡◌, refl}
use Prim.Native.Nat.{ℕ, ◌-◌, ◌^◌}
use lib.ListN.{get_or}
use Rattle.rules.specs.Sizes.{is_power, is_size}
use Rattle.rules.specs.Cells.{Lent}
use Rattle.rules.specs.Walk.{follow, walk, probe}
use Rattle.rules.specs.Answers.{Said, found, absent, new, replaced, removed, refused, unlinked, as_second, store, fill, Answer, leave, settle}
use Rattle.rules.specs.Calls.{find_in, find, remove_in, remove, insert_seen, insert_met, insert_stored, insert}

-- a table of 8 cells under Simple, with null 99: each column by its cells
abbrev table : (hashes values firsts seconds : List ℕ) → ℕ → Lent
table hs vs fs ss live =
    record {
      shaped = true;
      params = record { S = 8; null = 99; hash_of = λ k. k };
      cells = record { hash = λ i. get_or hs i 0; key = λ i. get_or hs i 0; first = λ i. get_or fs i 0; second = λ i. get_or ss i 0 };
      value = λ i. get_or vs i 99;
      counts = record { live = live };
    }

abbrev says : Said → ℕ → Answer
says s n = record { said = s; looked = n }

-- an empty home does not end a find: its first delta is followed
pub past_empty_home : find (table (0 ∷ 8 ∷ []) (99 ∷ 5 ∷ []) (1 ∷ []) [] 1) 8 ≡ says (found 5) 2
unfolding find find_in walk follow
past_empty_home = refl

-- but an insert uses it at once
pub empty_home_used : insert (table (0 ∷ 8 ∷ []) (99 ∷ 5 ∷ []) (1 ∷ []) [] 1) 8 6
    ≡ record { said = new; looked = 1; counts = record { live = 2 }; change = fill 0 8 8 6 unlinked }
unfolding insert insert_stored insert_seen settle walk follow
empty_home_used = refl

-- seven links: the cell that the last one reaches is still looked at
pub last_link_looked_at : find (table (1 ∷ 2 ∷ 3 ∷ 4 ∷ 5 ∷ 6 ∷ 7 ∷ 8 ∷ []) (0 ∷ 0 ∷ 0 ∷ 0 ∷ 0 ∷ 0 ∷ 0 ∷ 5 ∷ []) (1 ∷ []) (0 ∷ 1 ∷ 1 ∷ 1 ∷ 1 ∷ 1 ∷ 1 ∷ 1 ∷ []) 8) 8 ≡ says (found 5) 8
unfolding find find_in walk follow
last_link_looked_at = refl

-- and only a delta after it that is not 0 is Broken, which reports S
pub broken_after_last_link : find (table (1 ∷ 2 ∷ 3 ∷ 4 ∷ 5 ∷ 6 ∷ 7 ∷ 8 ∷ []) (0 ∷ 0 ∷ 0 ∷ 0 ∷ 0 ∷ 0 ∷ 0 ∷ 5 ∷ []) (1 ∷ []) (0 ∷ 1 ∷ 1 ∷ 1 ∷ 1 ∷ 1 ∷ 1 ∷ 1 ∷ []) 8) 16 ≡ says (refused 5 []) 8
unfolding find find_in walk follow
broken_after_last_link = refl

pub absent_after_last_link : find (table (1 ∷ 2 ∷ 3 ∷ 4 ∷ 5 ∷ 6 ∷ 7 ∷ 8 ∷ []) (0 ∷ 0 ∷ 0 ∷ 0 ∷ 0 ∷ 0 ∷ 0 ∷ 5 ∷ []) (1 ∷ []) (0 ∷ 1 ∷ 1 ∷ 1 ∷ 1 ∷ 1 ∷ 1 ∷ 0 ∷ []) 8) 16 ≡ says absent 8
unfolding find find_in walk follow
absent_after_last_link = refl

-- a removed key is Absent to find
pub removed_is_absent : find (table (0 ∷ 1 ∷ []) (99 ∷ 99 ∷ []) [] [] 0) 1 ≡ says absent 1
unfolding find find_in walk follow
removed_is_absent = refl

-- a remove sets the value to null and nothing else
pub remove_stores_null : remove (table (8 ∷ 16 ∷ []) (5 ∷ 6 ∷ []) (1 ∷ []) [] 2) 8
    ≡ record { said = removed 5; looked = 1; counts = record { live = 1 }; change = store 0 99 }
unfolding remove remove_in settle walk follow
remove_stores_null = refl

-- live 0: of a live cell Broken, of no cell Absent
pub remove_at_live_0 : remove (table (8 ∷ []) (5 ∷ []) [] [] 0) 8 ≡ leave (refused 5 []) 1 (record { live = 0 })
unfolding remove remove_in settle walk follow
remove_at_live_0 = refl

pub no_remove_at_live_0 : remove (table (8 ∷ []) (5 ∷ []) [] [] 0) 16 ≡ leave absent 1 (record { live = 0 })
unfolding remove remove_in settle walk follow
no_remove_at_live_0 = refl

-- live S: an empty cell in reach is Broken, and the probe that found it counts; a live cell met is replaced
pub insert_at_live_s : insert (table (8 ∷ 1 ∷ []) (5 ∷ 6 ∷ []) [] [] 8) 16 7 ≡ leave (refused 5 []) 3 (record { live = 8 })
unfolding insert insert_stored insert_seen settle walk follow probe
insert_at_live_s = refl

pub replace_at_live_s : insert (table (8 ∷ 1 ∷ []) (5 ∷ 6 ∷ []) [] [] 8) 8 7
    ≡ record { said = replaced 5; looked = 1; counts = record { live = 8 }; change = store 0 7 }
unfolding insert insert_stored insert_seen insert_met settle walk follow
replace_at_live_s = refl

-- live above S is 1, before anything else; a null value is 3 before a zero hash is 2
pub live_above_s : insert (table [] [] [] [] 9) 0 99 ≡ leave (refused 1 []) 0 (record { live = 9 })
unfolding insert
live_above_s = refl

pub null_before_zero_hash : insert (table [] [] [] [] 0) 0 99 ≡ leave (refused 3 []) 0 (record { live = 0 })
unfolding insert
null_before_zero_hash = refl

-- the tail's second delta takes the distance, and no other delta is written
pub link_at_tail : insert (table (8 ∷ 16 ∷ 3 ∷ []) (5 ∷ 6 ∷ 7 ∷ []) (1 ∷ []) [] 3) 24 4
    ≡ record { said = new; looked = 4; counts = record { live = 4 }; change = fill 3 24 24 4 (as_second 1 2) }
unfolding insert insert_stored insert_seen settle walk follow probe
link_at_tail = refl

-- positions are whole numbers: a full table's last key carries a position that wrapped past 2^64
pub full_wraps : insert (table (1 ∷ 2 ∷ 3 ∷ 4 ∷ 5 ∷ 6 ∷ 7 ∷ 8 ∷ []) (0 ∷ 0 ∷ 0 ∷ 0 ∷ 0 ∷ 0 ∷ 0 ∷ 0 ∷ []) [] [] 8) (2 ^ 64 - 1) 4 ≡ leave (refused 4 (7 ∷ [])) 8 (record { live = 8 })
unfolding insert insert_stored insert_seen settle walk follow probe
full_wraps = refl

pub full_not_reduced : insert (table (1 ∷ 2 ∷ 3 ∷ 4 ∷ 5 ∷ 6 ∷ 7 ∷ 8 ∷ []) (0 ∷ 0 ∷ 0 ∷ 0 ∷ 0 ∷ 0 ∷ 0 ∷ 0 ∷ []) [] [] 8) 9 4 ≡ leave (refused 4 (17 ∷ [])) 8 (record { live = 8 })
unfolding insert insert_stored insert_seen settle walk follow probe
full_not_reduced = refl

-- sizes: powers of two from 8 to 65,536
pub sizes : (is_size 4 ≡ false) × (is_size 8 ≡ true) × (is_size 12 ≡ false) × (is_size 65536 ≡ true) × (is_size 131072 ≡ false)
unfolding is_size is_power
sizes = (refl, refl, refl, refl, refl)
