-- One outcome for each call of hashentry. Assumes nothing.
use Rattle.std.specs.Prelude.{Result, Ok, Err}
use mathlib.Core.List.{List}
use mathlib.Core.Path.{◌≡◌, refl, ap}
use Prim.Native.Nat.{ℕ, zero, suc}
use Rattle.rules.specs.Answers.{Said, found, absent, new, replaced, revived, removed, refused}
use Rattle.rules.specs.Entries as rule
use Rattle.rules.specs.Entries.{Making, made, refuses, entry_of, get_by, replace_by, remove_by}
use Rattle.cells.specs.Layout.{Left, lent, left_by}
use Rattle.cells.specs.declared.Table.{Table}
use Rattle.entries.specs.Answers.{place_of, entry_in, left_as}
use Rattle.hashentry.specs.Answers.{making, get_said, replace_said, replace_left, entry_remove_said, remove_left, Keyed, with_key, remove_entry_left}
use Rattle.entries.specs.declared.record.Place.{Place}
use Rattle.entries.specs.declared.record.Place.TheVariants.{Occupied, Vacant}
use Rattle.entries.specs.declared.record.Entry.{Entry}
use Rattle.hashmap.specs.declared.LookupError.{LookupError}
use Rattle.hashmap.specs.declared.LookupError.TheVariants as lookups
use Rattle.hashentry.specs.declared.occupied.GetError.{GetError}
use Rattle.hashentry.specs.declared.occupied.GetError.TheVariants as gets
use Rattle.hashentry.specs.declared.occupied.ReplaceError.{ReplaceError}
use Rattle.hashentry.specs.declared.occupied.ReplaceError.TheVariants as replaces
use Rattle.hashentry.specs.declared.occupied.EntryRemoveError.{EntryRemoveError}
use Rattle.hashentry.specs.declared.occupied.EntryRemoveError.TheVariants as removes
use Rattle.hashentry.specs.declared.occupied.EntryRemoveAnswer.{EntryRemoveAnswer}
use Rattle.hashentry.specs.declared.occupied.RemoveEntryAnswer.{RemoveEntryAnswer}
use Rattle.outcomes.proofs.One.{both, one}

-- ---- entry and key

-- the entry that is read so
abbrev unplace : rule.Place → Place
unplace (rule.occupied i) = Occupied (record { index = i })
unplace rule.vacant = Vacant

place_back : (a : Place) → unplace (place_of a) ≡ a
place_back (Occupied cell) = refl
place_back Vacant = refl

abbrev pub unentry : rule.Entry → Entry
unentry e = record { key = e.key; hash = e.hash; place = unplace e.place }

pub entry_back : (a : Entry) → unentry (entry_in a) ≡ a
entry_back a = λ i. record { key = a.key; hash = a.hash; place = place_back a.place i }

abbrev unmake : Making → Result Entry LookupError
unmake (made e) = Ok (unentry e)
unmake (refuses (suc zero)) = Err lookups.Shape
unmake (refuses (suc (suc zero))) = Err lookups.ZeroHash
unmake (refuses (suc (suc (suc n)))) = Err lookups.Broken
unmake (refuses zero) = Err lookups.Broken

make_back : (a : Result Entry LookupError) → unmake (making a) ≡ a
make_back (Ok e) = ap Ok (entry_back e)
make_back (Err lookups.Shape) = refl
make_back (Err lookups.ZeroHash) = refl
make_back (Err lookups.Broken) = refl

pub entry_one_outcome : (words deltas : List ℕ) (table : Table) (key : ℕ) (r₁ r₂ : Result Entry LookupError)
    → making r₁ ≡ entry_of (lent words deltas table) key
    → making r₂ ≡ entry_of (lent words deltas table) key
    → r₁ ≡ r₂
entry_one_outcome words deltas table key r₁ r₂ e₁ e₂ = one making unmake make_back r₁ r₂ (both e₁ e₂)

pub key_one_outcome : (entry : Entry) (r₁ r₂ : ℕ) → r₁ ≡ entry.key → r₂ ≡ entry.key → r₁ ≡ r₂
key_one_outcome entry r₁ r₂ e₁ e₂ = both e₁ e₂

-- ---- get

abbrev unget : Said → Result ℕ GetError
unget (found v) = Ok v
unget (refused (suc zero) l) = Err gets.Shape
unget (refused (suc (suc zero)) l) = Err gets.ZeroHash
unget (refused (suc (suc (suc n))) l) = Err gets.Stale
unget (refused zero l) = Err gets.Stale
unget absent = Err gets.Stale
unget new = Err gets.Stale
unget (replaced v) = Err gets.Stale
unget revived = Err gets.Stale
unget (removed v) = Err gets.Stale

get_back : (a : Result ℕ GetError) → unget (get_said a) ≡ a
get_back (Ok v) = refl
get_back (Err gets.Shape) = refl
get_back (Err gets.ZeroHash) = refl
get_back (Err gets.Stale) = refl

pub get_one_outcome : (words deltas : List ℕ) (table : Table) (entry : Entry) (r₁ r₂ : Result ℕ GetError)
    → get_said r₁ ≡ (get_by (lent words deltas table) (entry_in entry)).said
    → get_said r₂ ≡ (get_by (lent words deltas table) (entry_in entry)).said
    → r₁ ≡ r₂
get_one_outcome words deltas table entry r₁ r₂ e₁ e₂ = one get_said unget get_back r₁ r₂ (both e₁ e₂)

-- ---- replace

abbrev unreplace : Said → Result ℕ ReplaceError
unreplace (replaced v) = Ok v
unreplace (refused (suc zero) l) = Err replaces.Shape
unreplace (refused (suc (suc zero)) l) = Err replaces.ZeroHash
unreplace (refused (suc (suc (suc zero))) l) = Err replaces.Null
unreplace (refused (suc (suc (suc (suc n)))) l) = Err replaces.Stale
unreplace (refused zero l) = Err replaces.Stale
unreplace (found v) = Err replaces.Stale
unreplace absent = Err replaces.Stale
unreplace new = Err replaces.Stale
unreplace revived = Err replaces.Stale
unreplace (removed v) = Err replaces.Stale

replace_back : (a : Result ℕ ReplaceError) → unreplace (replace_said a) ≡ a
replace_back (Ok v) = refl
replace_back (Err replaces.Shape) = refl
replace_back (Err replaces.ZeroHash) = refl
replace_back (Err replaces.Null) = refl
replace_back (Err replaces.Stale) = refl

pub replace_one_outcome : (words deltas : List ℕ) (table : Table) (entry : Entry) (value : ℕ) (r₁ r₂ : Result ℕ ReplaceError) (words₁ words₂ : List ℕ)
    → replace_left table r₁ words₁ deltas ≡ left_by (replace_by (lent words deltas table) (entry_in entry) value) table words deltas
    → replace_left table r₂ words₂ deltas ≡ left_by (replace_by (lent words deltas table) (entry_in entry) value) table words deltas
    → (r₁ ≡ r₂) × (words₁ ≡ words₂)
replace_one_outcome words deltas table entry value r₁ r₂ words₁ words₂ e₁ e₂ =
    let e = both e₁ e₂ in
    (one replace_said unreplace replace_back r₁ r₂ (ap (λ (y : Left). y.done.said) e), ap (λ (y : Left). y.done.words) e)

-- ---- remove

abbrev unremove : Said → Result ℕ EntryRemoveError
unremove (removed v) = Ok v
unremove (refused (suc zero) l) = Err removes.Shape
unremove (refused (suc (suc zero)) l) = Err removes.ZeroHash
unremove (refused (suc (suc (suc (suc (suc zero))))) l) = Err removes.Broken
unremove (refused (suc (suc (suc (suc (suc (suc n)))))) l) = Err removes.Stale
unremove (refused (suc (suc (suc (suc zero)))) l) = Err removes.Stale
unremove (refused (suc (suc (suc zero))) l) = Err removes.Stale
unremove (refused zero l) = Err removes.Stale
unremove (found v) = Err removes.Stale
unremove absent = Err removes.Stale
unremove new = Err removes.Stale
unremove (replaced v) = Err removes.Stale
unremove revived = Err removes.Stale

remove_back : (a : Result ℕ EntryRemoveError) → unremove (entry_remove_said a) ≡ a
remove_back (Ok v) = refl
remove_back (Err removes.Shape) = refl
remove_back (Err removes.ZeroHash) = refl
remove_back (Err removes.Broken) = refl
remove_back (Err removes.Stale) = refl

-- the record that a call hands back
pub same_table : (s s' : Said) (t t' : Table) (ws ds ws' ds' : List ℕ) → left_as s t ws ds ≡ left_as s' t' ws' ds' → t ≡ t'
same_table s s' t t' ws ds ws' ds' e = λ i. record { hasher = (e i).hasher; live = (e i).done.counts.live }

pub remove_one_outcome : (words deltas : List ℕ) (table : Table) (entry : Entry) (r₁ r₂ : EntryRemoveAnswer) (words₁ words₂ : List ℕ)
    → remove_left r₁ words₁ deltas ≡ left_by (remove_by (lent words deltas table) (entry_in entry)) table words deltas
    → remove_left r₂ words₂ deltas ≡ left_by (remove_by (lent words deltas table) (entry_in entry)) table words deltas
    → (r₁ ≡ r₂) × (words₁ ≡ words₂)
remove_one_outcome words deltas table entry r₁ r₂ words₁ words₂ e₁ e₂ =
    let e = both e₁ e₂ in
    let s = one entry_remove_said unremove remove_back r₁.said r₂.said (ap (λ (y : Left). y.done.said) e) in
    let t = same_table _ _ r₁.table r₂.table words₁ deltas words₂ deltas e in
    (λ i. record { said = s i; table = t i }, ap (λ (y : Left). y.done.words) e)

pub remove_entry_one_outcome : (words deltas : List ℕ) (table : Table) (entry : Entry) (r₁ r₂ : RemoveEntryAnswer) (words₁ words₂ : List ℕ)
    → remove_entry_left r₁ words₁ deltas ≡ with_key entry.key (left_by (remove_by (lent words deltas table) (entry_in entry)) table words deltas)
    → remove_entry_left r₂ words₂ deltas ≡ with_key entry.key (left_by (remove_by (lent words deltas table) (entry_in entry)) table words deltas)
    → (r₁ ≡ r₂) × (words₁ ≡ words₂)
remove_entry_one_outcome words deltas table entry r₁ r₂ words₁ words₂ e₁ e₂ =
    let k = ap (λ (y : Keyed). y.key) (both e₁ e₂) in
    let e = ap (λ (y : Keyed). y.left) (both e₁ e₂) in
    let s = one entry_remove_said unremove remove_back r₁.said r₂.said (ap (λ (y : Left). y.done.said) e) in
    let t = same_table _ _ r₁.table r₂.table words₁ deltas words₂ deltas e in
    (λ i. record { said = s i; key = k i; table = t i }, ap (λ (y : Left). y.done.words) e)
