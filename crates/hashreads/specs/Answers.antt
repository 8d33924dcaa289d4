-- What is said: each case by 01's number and values.
use Rattle.std.specs.Prelude.{cond, List, ℕ, Bool, true, false, Option, Some, None, Result, Ok, Err}
use Rattle.rules.specs.Answers.{Said, found, absent, new, replaced, revived, removed, refused}
use Rattle.cells.specs.Layout.{size_in, is_shaped}
use Rattle.cells.specs.declared.ShapeError.{ShapeError}
use Rattle.hashmap.specs.declared.LookupError.{LookupError}
use Rattle.hashmap.specs.declared.LookupError.TheVariants as lookups
use Rattle.hashreads.specs.declared.KeyValue.{KeyValue}

-- a number, or a refusal by its number
pub data Capacity : Type 0 where
  cells : ℕ → Capacity
  refuses : ℕ → Capacity

abbrev pub capacity_said : Result ℕ ShapeError → Capacity
capacity_said (Ok n) = cells n
capacity_said (Err e) = refuses 1

unfoldable pub capacity_rule : List ℕ → List ℕ → Capacity
capacity_rule ws ds = cond (is_shaped ws ds) (cells (size_in ds)) (refuses 1)

pub data Contains : Type 0 where
  yes : Contains
  no : Contains
  refusing : ℕ → Contains

abbrev pub contains_said : Result Bool LookupError → Contains
contains_said (Ok true) = yes
contains_said (Ok false) = no
contains_said (Err lookups.Shape) = refusing 1
contains_said (Err lookups.ZeroHash) = refusing 2
contains_said (Err lookups.Broken) = refusing 5

-- by what a find says: only found, absent and refusals arise
abbrev pub contains : Said → Contains
contains (found v) = yes
contains absent = no
contains new = no
contains (replaced v) = no
contains revived = no
contains (removed v) = no
contains (refused n l) = refusing n

pub data Pair : Type 0 where
  pair : (k v : ℕ) → Pair
  missing : Pair
  refusal : ℕ → Pair

abbrev pub key_value_said : Result (Option KeyValue) LookupError → Pair
key_value_said (Ok (Some p)) = pair p.key p.value
key_value_said (Ok None) = missing
key_value_said (Err lookups.Shape) = refusal 1
key_value_said (Err lookups.ZeroHash) = refusal 2
key_value_said (Err lookups.Broken) = refusal 5

abbrev pub key_value : ℕ → Said → Pair
key_value k (found v) = pair k v
key_value k absent = missing
key_value k new = missing
key_value k (replaced v) = missing
key_value k revived = missing
key_value k (removed v) = missing
key_value k (refused n l) = refusal n
