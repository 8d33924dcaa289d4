-- One outcome for each call of hashmap. Assumes nothing.
use mathlib.Core.List.{List, [], ◌∷◌}
use mathlib.Core.Path.{◌≡◌, refl, ap}
use Prim.Native.Nat.{ℕ, zero, suc}
use Rattle.std.specs.Prelude.{Option, Some, None, Result, Ok, Err}
use Rattle.hashers.specs.declared.Hasher.{Hasher}
use Rattle.rules.specs.Answers.{Said, found, absent, new, replaced, revived, removed, refused, Answer}
use Rattle.rules.specs.Calls.{find as find·rule, remove as remove·rule, insert as insert·rule}
use Rattle.cells.specs.Layout.{Left, lent, left_by}
use Rattle.cells.specs.declared.Table.{Table}
use Rattle.cells.specs.declared.ShapeError.{ShapeError}
use Rattle.cells.specs.declared.insert.InsertSaid.{InsertSaid}
use Rattle.cells.specs.declared.insert.InsertSaid.TheVariants as puts
use Rattle.hashmap.specs.Answers.{find_said, find_answer, remove_said, remove_left, insert_said, insert_left, Clear, cleared, refuses, Cleared, clear_said, clear_left, clear_rule}
use Rattle.hashmap.specs.declared.LookupError.{LookupError}
use Rattle.hashmap.specs.declared.LookupError.TheVariants as lookups
use Rattle.hashmap.specs.declared.FindAnswer.{FindAnswer}
use Rattle.hashmap.specs.declared.RemoveAnswer.{RemoveAnswer}
use Rattle.hashmap.specs.declared.InsertError.{InsertError}
use Rattle.hashmap.specs.declared.InsertError.TheVariants as inserts
use Rattle.hashmap.specs.declared.InsertAnswer.{InsertAnswer}
use Rattle.outcomes.proofs.One.{both, one}

-- ---- clear

-- the answer that is said so
abbrev unclear : Clear → Result Table ShapeError
unclear (cleared t) = Ok t
unclear (refuses n) = Err (record {})

clear_back : (a : Result Table ShapeError) → unclear (clear_said a) ≡ a
clear_back (Ok t) = refl
clear_back (Err e) = refl

pub clear_one_outcome : (words deltas : List ℕ) (hasher : Hasher) (r₁ r₂ : Result Table ShapeError) (words₁ deltas₁ words₂ deltas₂ : List ℕ)
    → clear_left r₁ words₁ deltas₁ ≡ clear_rule words deltas hasher
    → clear_left r₂ words₂ deltas₂ ≡ clear_rule words deltas hasher
    → (r₁ ≡ r₂) × (words₁ ≡ words₂) × (deltas₁ ≡ deltas₂)
clear_one_outcome words deltas hasher r₁ r₂ words₁ deltas₁ words₂ deltas₂ e₁ e₂ =
    let e = both e₁ e₂ in
    (one clear_said unclear clear_back r₁ r₂ (ap (λ (y : Cleared). y.said) e), ap (λ (y : Cleared). y.words) e, ap (λ (y : Cleared). y.deltas) e)

-- ---- find

abbrev unfailed : ℕ → LookupError
unfailed zero = lookups.Broken
unfailed (suc zero) = lookups.Shape
unfailed (suc (suc zero)) = lookups.ZeroHash
unfailed (suc (suc (suc n))) = lookups.Broken

abbrev unfind : Said → Result (Option ℕ) LookupError
unfind (found v) = Ok (Some v)
unfind absent = Ok None
unfind (refused n l) = Err (unfailed n)
unfind new = Ok None
unfind (replaced v) = Ok None
unfind revived = Ok None
unfind (removed v) = Ok None

find_back : (a : Result (Option ℕ) LookupError) → unfind (find_said a) ≡ a
find_back (Ok (Some v)) = refl
find_back (Ok None) = refl
find_back (Err lookups.Shape) = refl
find_back (Err lookups.ZeroHash) = refl
find_back (Err lookups.Broken) = refl

abbrev unfound : Answer → FindAnswer
unfound y = record { said = unfind y.said; looked = y.looked }

found_back : (a : FindAnswer) → unfound (find_answer a) ≡ a
found_back a = λ i. record { said = find_back a.said i; looked = a.looked }

-- two answers of any of the finds that read alike
pub find_answer_one : (a b : FindAnswer) → find_answer a ≡ find_answer b → a ≡ b
find_answer_one a b e = one find_answer unfound found_back a b e

pub find_one_outcome : (words deltas : List ℕ) (table : Table) (key : ℕ) (r₁ r₂ : FindAnswer)
    → find_answer r₁ ≡ find·rule (lent words deltas table) key
    → find_answer r₂ ≡ find·rule (lent words deltas table) key
    → r₁ ≡ r₂
find_one_outcome words deltas table key r₁ r₂ e₁ e₂ = find_answer_one r₁ r₂ (both e₁ e₂)

-- ---- remove

abbrev unremove : Said → Result (Option ℕ) LookupError
unremove (removed v) = Ok (Some v)
unremove absent = Ok None
unremove (refused n l) = Err (unfailed n)
unremove new = Ok None
unremove (replaced v) = Ok None
unremove revived = Ok None
unremove (found v) = Ok None

remove_back : (a : Result (Option ℕ) LookupError) → unremove (remove_said a) ≡ a
remove_back (Ok (Some v)) = refl
remove_back (Ok None) = refl
remove_back (Err lookups.Shape) = refl
remove_back (Err lookups.ZeroHash) = refl
remove_back (Err lookups.Broken) = refl

-- what a remove says, from a growing table too
pub remove_said_one : (a b : Result (Option ℕ) LookupError) → remove_said a ≡ remove_said b → a ≡ b
remove_said_one a b e = one remove_said unremove remove_back a b e

pub remove_one_outcome : (words deltas : List ℕ) (table : Table) (key : ℕ) (r₁ r₂ : RemoveAnswer) (words₁ words₂ : List ℕ)
    → remove_left r₁ words₁ deltas ≡ left_by (remove·rule (lent words deltas table) key) table words deltas
    → remove_left r₂ words₂ deltas ≡ left_by (remove·rule (lent words deltas table) key) table words deltas
    → (r₁ ≡ r₂) × (words₁ ≡ words₂)
remove_one_outcome words deltas table key r₁ r₂ words₁ words₂ e₁ e₂ =
    let e = both e₁ e₂ in
    let s = remove_said_one r₁.said r₂.said (ap (λ (y : Left). y.done.said) e) in
    (λ i. record { said = s i; looked = (e i).done.looked; table = record { hasher = (e i).hasher; live = (e i).done.counts.live } }, ap (λ (y : Left). y.done.words) e)

-- ---- insert

abbrev uninsert : Said → Result InsertSaid InsertError
uninsert new = Ok puts.New
uninsert (replaced v) = Ok (puts.Replaced v)
uninsert revived = Ok puts.Revived
uninsert (refused zero l) = Err inserts.Broken
uninsert (refused (suc zero) l) = Err inserts.Shape
uninsert (refused (suc (suc zero)) l) = Err inserts.ZeroHash
uninsert (refused (suc (suc (suc zero))) l) = Err inserts.Null
uninsert (refused (suc (suc (suc (suc zero)))) []) = Err inserts.Broken
uninsert (refused (suc (suc (suc (suc zero)))) (p ∷ l)) = Err (inserts.Full (record { position = p }))
uninsert (refused (suc (suc (suc (suc (suc n))))) l) = Err inserts.Broken
uninsert (found v) = Err inserts.Broken
uninsert absent = Err inserts.Broken
uninsert (removed v) = Err inserts.Broken

insert_back : (a : Result InsertSaid InsertError) → uninsert (insert_said a) ≡ a
insert_back (Ok puts.New) = refl
insert_back (Ok (puts.Replaced v)) = refl
insert_back (Ok puts.Revived) = refl
insert_back (Err inserts.Shape) = refl
insert_back (Err inserts.ZeroHash) = refl
insert_back (Err inserts.Null) = refl
insert_back (Err (inserts.Full at)) = refl
insert_back (Err inserts.Broken) = refl

pub insert_one_outcome : (words deltas : List ℕ) (table : Table) (key value : ℕ) (r₁ r₂ : InsertAnswer) (words₁ deltas₁ words₂ deltas₂ : List ℕ)
    → insert_left r₁ words₁ deltas₁ ≡ left_by (insert·rule (lent words deltas table) key value) table words deltas
    → insert_left r₂ words₂ deltas₂ ≡ left_by (insert·rule (lent words deltas table) key value) table words deltas
    → (r₁ ≡ r₂) × (words₁ ≡ words₂) × (deltas₁ ≡ deltas₂)
insert_one_outcome words deltas table key value r₁ r₂ words₁ deltas₁ words₂ deltas₂ e₁ e₂ =
    let e = both e₁ e₂ in
    let s = one insert_said uninsert insert_back r₁.said r₂.said (ap (λ (y : Left). y.done.said) e) in (
      λ i. record { said = s i; looked = (e i).done.looked; table = record { hasher = (e i).hasher; live = (e i).done.counts.live } },
      ap (λ (y : Left). y.done.words) e,
      ap (λ (y : Left). y.done.deltas) e,
    )
