-- Every call, on a table alone or in two halves, is a step by its event. Assumes nothing.
use mathlib.Core.Logic.{inl, inr}
use mathlib.Core.Path.{◌≡◌, refl, sym, ap, subst}
use Prim.Native.Nat.{ℕ, ◌≤◌, ◌<◌}
use Rattle.rules.specs.Cells.{Lent, shape}
use Rattle.rules.specs.Answers.{Outcome}
use Rattle.rules.specs.Calls as rule
use Rattle.rules.specs.Cursor.{set_value}
use Rattle.rules.specs.Entries.{Place, Entry, Action, use_shape, use_entry}
use Rattle.rules.specs.Growing as growing
use Rattle.rules.specs.Growing.{LentHalves, in_use}
use Rattle.laws.specs.Ways as ways
use Rattle.laws.specs.Ways.{InsertChecked, RemoveChecked}
use Rattle.laws.proofs.Ways.{insert_checked, remove_checked}
use Rattle.laws.proofs.Within.{stored_within, insert_within, remove_within}
use Rattle.sound.specs.State.{after, SoundTable, Sized}
use Rattle.sound.proofs.Positions.{size_wraps}
use Rattle.sound.proofs.Slices.{lent_sized, lent_after_insert, lent_after_remove}
use Rattle.entrylaws.specs.Uses as uses
use Rattle.entrylaws.specs.Uses.{Usable, UseWay}
use Rattle.entrylaws.proofs.Ways.{use_way}
use Rattle.entrylaws.proofs.OnSound.{use_shaped, use_below}
use Rattle.entrylaws.proofs.ByKey.{lent_after_use}
use Rattle.walked.specs.Ways as sets
use Rattle.walked.specs.Ways.{SetWay}
use Rattle.walked.proofs.Ways.{set_way}
use Rattle.walked.proofs.Slices.{lent_after_set}
use Rattle.growthlaws.proofs.Checks.{passed_size}
use Rattle.grownlaws.proofs.After.{lent_halves_lem}
use Rattle.census.specs.History.{Event}
use Rattle.census.specs.Steps.{Step}
use Rattle.census.specs.Events.{event_by}
use Rattle.census.specs.Stores.{TwoHalves, Store, alone, halved, lent_two, table_in, left}
use Rattle.census.specs.Calls.{Call, find, make, step, insert, remove, act, set, move, on, clear, grow, CallOn, after_call, next, event_on, event}
use Rattle.census.proofs.Keys.{stay}
use Rattle.census.proofs.Fixed.{insert_step, remove_step, use_step, set_step}
use Rattle.census.proofs.Grown.{grow_step}
use Rattle.census.proofs.Halves.{Placed, halved_after}
use Rattle.census.proofs.After.{grown_again}
use Rattle.census.proofs.Cleared.{clear_step, clear_halves_step}
use Rattle.census.proofs.MovedTo.{moved_step}

-- ---- where the changes of a call are made

module _ (l : Lent) (sized : Sized l) where
  some : shape l ≡ 0 → 1 ≤ l.params.S
  some e = (size_wraps l.params.S (sized e)).some

  pub insert_placed : (k v : ℕ) → Placed l (rule.insert l k v)
  insert_placed k v = go _ (insert_checked l k v) refl
    where
      go : (o : Outcome) → InsertChecked l k v o → rule.insert l k v ≡ o → Placed l o
      go o (ways.by1 a e) q = inl (ap (λ (o : Outcome). o.change) e)
      go o (ways.by3 a b e) q = inl (ap (λ (o : Outcome). o.change) e)
      go o (ways.by2 a b d e) q = inl (ap (λ (o : Outcome). o.change) e)
      go o (ways.past a b d e) q = inr (a, rw (← q) (insert_within l some k v))

  pub remove_placed : (k : ℕ) → Placed l (rule.remove l k)
  remove_placed k = go _ (remove_checked l k) refl
    where
      go : (o : Outcome) → RemoveChecked l k o → rule.remove l k ≡ o → Placed l o
      go o (ways.by1 a e) q = inl (ap (λ (o : Outcome). o.change) e)
      go o (ways.by2 a d e) q = inl (ap (λ (o : Outcome). o.change) e)
      go o (ways.past a d e) q = inr (a, rw (← q) (remove_within l some k))

  pub use_placed : (e : Entry) (a : Action) → Placed l (use_entry l e a)
  use_placed e a = go _ (use_way l e a)
    where
      inside : (i : ℕ) → Usable l e a i → i < l.params.S
      inside i u = use_below l i (subst (λ (x : Place). use_shape l x ≡ 0) u.at u.past.shape)

      go : (o : Outcome) → UseWay l e a o → Placed l o
      go o (uses.by1 x q) = inl (ap (λ (o : Outcome). o.change) q)
      go o (uses.by3 x y q) = inl (ap (λ (o : Outcome). o.change) q)
      go o (uses.by2 x y z q) = inl (ap (λ (o : Outcome). o.change) q)
      go o (uses.by7 x y q) = inl (ap (λ (o : Outcome). o.change) q)
      go o (uses.reads i u x q) = inl (ap (λ (o : Outcome). o.change) q)
      go o (uses.replaces i v u x q) = inr (use_shaped l e.place u.past.shape, rw q (inside i u))
      go o (uses.removes i u x y q) = inr (use_shaped l e.place u.past.shape, rw q (inside i u))
      go o (uses.under i u x y q) = inl (ap (λ (o : Outcome). o.change) q)
      go o (uses.inserts v u x q) =
          let p = use_shaped l e.place u.past.shape in
          inr (p, rw q (stored_within l.params.S l.params.null l.cells l.value l.counts (l.params.hash_of e.key) e.key (some p) v))

  pub set_placed : (i v : ℕ) → Placed l (set_value l i v)
  set_placed i v = go _ (set_way l i v)
    where
      go : (o : Outcome) → SetWay l i v o → Placed l o
      go o (sets.by1 a e) = inl (ap (λ (o : Outcome). o.change) e)
      go o (sets.by1_index a u e) = inl (ap (λ (o : Outcome). o.change) e)
      go o (sets.by3 a u n e) = inl (ap (λ (o : Outcome). o.change) e)
      go o (sets.lacks a u n t e) = inl (ap (λ (o : Outcome). o.change) e)
      go o (sets.sets a u n t e) = inr (a, rw e u)

-- ---- what is left, lent again

abbrev Again : Store → Outcome → Type 0
Again s o = table_in (left s o) ≡ after (table_in s) o

sized_in : (s : Store) → Sized (table_in s)
sized_in (alone m) = lent_sized m.words m.deltas m.table
sized_in (halved h) = passed_size (lent_two h)

again : (h : TwoHalves) (o : Outcome) → Placed (table_in (halved h)) o → Again (halved h) o
again h o w = halved_after h.slices.lower_words h.slices.lower_deltas h.slices.upper_words h.slices.upper_deltas h.growing o w

insert_again : (s : Store) (k v : ℕ) → Again s (rule.insert (table_in s) k v)
insert_again (alone m) k v = lent_after_insert m.words m.deltas m.table k v
insert_again (halved h) k v = again h _ (insert_placed (table_in (halved h)) (sized_in (halved h)) k v)

remove_again : (s : Store) (k : ℕ) → Again s (rule.remove (table_in s) k)
remove_again (alone m) k = lent_after_remove m.words m.deltas m.table k
remove_again (halved h) k = again h _ (remove_placed (table_in (halved h)) (sized_in (halved h)) k)

use_again : (s : Store) → SoundTable (table_in s) → (e : Entry) (a : Action) → Again s (use_entry (table_in s) e a)
use_again (alone m) t e a = lent_after_use m.words m.deltas m.table t e a
use_again (halved h) t e a = again h _ (use_placed (table_in (halved h)) (sized_in (halved h)) e a)

set_again : (s : Store) (i v : ℕ) → Again s (set_value (table_in s) i v)
set_again (alone m) i v = lent_after_set m.words m.deltas m.table i v
set_again (halved h) i v = again h _ (set_placed (table_in (halved h)) (sized_in (halved h)) i v)

-- ---- each call

by : (s : Store) (e : Event) (o : Outcome) → Again s o → Step (table_in s) e (after (table_in s) o) → Step (table_in s) e (table_in (left s o))
by s e o q x = subst (λ (n : Lent). Step (table_in s) e n) (sym q) x

on_step : (s : Store) → SoundTable (table_in s) → (c : Call) → Step (table_in s) (event_on s c) (table_in (after_call s c))
on_step s t (find k) = stay (table_in s) t
on_step s t (make k) = stay (table_in s) t
on_step s t (step position) = stay (table_in s) t
on_step s t (insert k v) = by s _ (rule.insert (table_in s) k v) (insert_again s k v) (insert_step (table_in s) (sized_in s) t k v)
on_step s t (remove k) = by s _ (rule.remove (table_in s) k) (remove_again s k) (remove_step (table_in s) (sized_in s) t k)
on_step s t (act e a) = by s _ (use_entry (table_in s) e a) (use_again s t e a) (use_step (table_in s) (sized_in s) t e a)
on_step s t (set i v) = by s _ (set_value (table_in s) i v) (set_again s i v) (set_step (table_in s) (sized_in s) t i v)
on_step s t (move ws ds) = moved_step s ws ds t

grown_step : (h : TwoHalves) → SoundTable (table_in (halved h)) → (k v : ℕ) → Step (table_in (halved h)) (event (halved h) (grow k v)) (table_in (next (halved h) (grow k v)))
grown_step h t k v =
    subst (λ (n : LentHalves). Step (in_use (lent_two h)) (event_by k (growing.grow (lent_two h) k v).said) (in_use n))
    (sym (grown_again h.slices.lower_words h.slices.lower_deltas h.slices.upper_words h.slices.upper_deltas h.growing k v))
    (grow_step (lent_two h) (lent_halves_lem h.slices h.growing) t k v)

-- any call on a sound table is a step by its event
pub call_step : (s : Store) → SoundTable (table_in s) → (c : CallOn s) → Step (table_in s) (event s c) (table_in (next s c))
call_step (alone m) t (on c) = on_step (alone m) t c
call_step (alone m) t (clear hasher) = clear_step m hasher t
call_step (halved h) t (on c) = on_step (halved h) t c
call_step (halved h) t (clear size hasher) = clear_halves_step h size hasher t
call_step (halved h) t (grow k v) = grown_step h t k v
