-- One outcome for each call of hashreads. Assumes nothing.
use mathlib.Core.Bool.{Bool, true, false}
use mathlib.Core.List.{List}
use mathlib.Core.Path.{◌≡◌, refl}
use Prim.Native.Nat.{ℕ, zero, suc}
use lib.Dec.{eqb}
use Rattle.std.specs.Prelude.{Option, Some, None, Result, Ok, Err}
use Rattle.rules.specs.Calls.{find as find·rule}
use Rattle.cells.specs.Layout.{lent}
use Rattle.cells.specs.declared.Table.{Table}
use Rattle.hashreads.specs.Answers.{Capacity, cells, refuses, capacity_said, capacity_rule, Contains, yes, no, refusing, contains_said, contains, Pair, pair, missing, refusal, key_value_said, key_value}
use Rattle.cells.specs.declared.ShapeError.{ShapeError}
use Rattle.hashmap.specs.declared.LookupError.{LookupError}
use Rattle.hashmap.specs.declared.LookupError.TheVariants as lookups
use Rattle.hashreads.specs.declared.KeyValue.{KeyValue}
use Rattle.outcomes.proofs.One.{both, one}

pub len_one_outcome : (table : Table) (r₁ r₂ : ℕ) → r₁ ≡ table.live → r₂ ≡ table.live → r₁ ≡ r₂
len_one_outcome table r₁ r₂ e₁ e₂ = both e₁ e₂

pub is_empty_one_outcome : (table : Table) (r₁ r₂ : Bool) → r₁ ≡ eqb table.live 0 → r₂ ≡ eqb table.live 0 → r₁ ≡ r₂
is_empty_one_outcome table r₁ r₂ e₁ e₂ = both e₁ e₂

abbrev uncapacity : Capacity → Result ℕ ShapeError
uncapacity (cells n) = Ok n
uncapacity (refuses n) = Err (record {})

capacity_back : (a : Result ℕ ShapeError) → uncapacity (capacity_said a) ≡ a
capacity_back (Ok n) = refl
capacity_back (Err e) = refl

pub capacity_one_outcome : (words deltas : List ℕ) (r₁ r₂ : Result ℕ ShapeError) → capacity_said r₁ ≡ capacity_rule words deltas → capacity_said r₂ ≡ capacity_rule words deltas → r₁ ≡ r₂
capacity_one_outcome words deltas r₁ r₂ e₁ e₂ = one capacity_said uncapacity capacity_back r₁ r₂ (both e₁ e₂)

abbrev unfailed : ℕ → LookupError
unfailed zero = lookups.Broken
unfailed (suc zero) = lookups.Shape
unfailed (suc (suc zero)) = lookups.ZeroHash
unfailed (suc (suc (suc n))) = lookups.Broken

abbrev uncontains : Contains → Result Bool LookupError
uncontains yes = Ok true
uncontains no = Ok false
uncontains (refusing n) = Err (unfailed n)

contains_back : (a : Result Bool LookupError) → uncontains (contains_said a) ≡ a
contains_back (Ok true) = refl
contains_back (Ok false) = refl
contains_back (Err lookups.Shape) = refl
contains_back (Err lookups.ZeroHash) = refl
contains_back (Err lookups.Broken) = refl

pub contains_key_one_outcome : (words deltas : List ℕ) (table : Table) (key : ℕ) (r₁ r₂ : Result Bool LookupError)
    → contains_said r₁ ≡ contains (find·rule (lent words deltas table) key).said
    → contains_said r₂ ≡ contains (find·rule (lent words deltas table) key).said
    → r₁ ≡ r₂
contains_key_one_outcome words deltas table key r₁ r₂ e₁ e₂ = one contains_said uncontains contains_back r₁ r₂ (both e₁ e₂)

abbrev unpair : Pair → Result (Option KeyValue) LookupError
unpair (pair k v) = Ok (Some (record { key = k; value = v }))
unpair missing = Ok None
unpair (refusal n) = Err (unfailed n)

pair_back : (a : Result (Option KeyValue) LookupError) → unpair (key_value_said a) ≡ a
pair_back (Ok (Some p)) = refl
pair_back (Ok None) = refl
pair_back (Err lookups.Shape) = refl
pair_back (Err lookups.ZeroHash) = refl
pair_back (Err lookups.Broken) = refl

pub get_key_value_one_outcome : (words deltas : List ℕ) (table : Table) (key : ℕ) (r₁ r₂ : Result (Option KeyValue) LookupError)
    → key_value_said r₁ ≡ key_value key (find·rule (lent words deltas table) key).said
    → key_value_said r₂ ≡ key_value key (find·rule (lent words deltas table) key).said
    → r₁ ≡ r₂
get_key_value_one_outcome words deltas table key r₁ r₂ e₁ e₂ = one key_value_said unpair pair_back r₁ r₂ (both e₁ e₂)
