-- What a Vacant entry's insert hands back. Assumes nothing.
use Rattle.std.specs.Prelude.{Ok, Err}
use mathlib.Core.Bool.{true, false}
use mathlib.Core.List.{List, []}
use mathlib.Core.Path.{◌≡◌, refl, sym, ap, ◌∙◌}
use Prim.Native.Nat.{ℕ}
use Rattle.rules.specs.Cells.{Cells}
use Rattle.rules.specs.Walk.{Stop, walk}
use Rattle.rules.specs.Answers.{Said, refused, Change, nothing, store, fill, Answer}
use Rattle.rules.specs.Calls.{find_at, find_in, insert_stored}
use Rattle.rules.specs.Entries.{occupied, vacant, Entry, is_found, entry_after}
use Rattle.steps.specs.Steps.{Ends}
use Rattle.steps.proofs.Branches.{find_ends}
use Rattle.cells.specs.declared.Table.{Table}
use Rattle.cells.specs.declared.insert.InsertSaid.{InsertSaid}
use Rattle.cells.specs.declared.insert.InsertSaid.TheVariants as says
use Rattle.cells.specs.declared.insert.WalkError.{WalkError}
use Rattle.cells.specs.declared.insert.WalkError.TheVariants as fails
use Rattle.cells.specs.declared.insert.Inserted.{Inserted}
use Rattle.cells.specs.Layout.{Done, done_by, counts_of}
use Rattle.cells.specs.Workers.{put_said, walk_failed, answer_said, answer_of, worker_said, place_by, place_after, InsertedBy}
use Rattle.entryinsert.specs.Answers.{handed_by}
use Rattle.entryinsert.specs.Workers.{put_in}

-- ---- the entry after a change, by the place of its key

module _ (e : Entry) where
  kept : (c : Change) → place_after c ≡ vacant → entry_after e c ≡ e
  kept nothing p = refl
  kept (store i v) p = cc
  kept (fill i h k v l) p = cc

  moved : (c : Change) (i : ℕ) → place_after c ≡ occupied i → entry_after e c ≡ record { key = e.key; hash = e.hash; place = occupied i }
  moved nothing i p = cc
  moved (store j v) i p = λ t. record { key = e.key; hash = e.hash; place = p t }
  moved (fill j h k v l) i p = λ t. record { key = e.key; hash = e.hash; place = p t }

there : (i : ℕ) (x : InsertSaid) → place_by i (put_said x) ≡ occupied i
there i says.New = refl
there i (says.Replaced v) = refl
there i says.Revived = refl

nowhere : (i : ℕ) (x : WalkError) → place_by i (walk_failed x) ≡ vacant
nowhere i (fails.Full at) = refl
nowhere i fails.Broken = refl

-- ---- what put hands back

module _ (S null : ℕ) (cs : Cells) (value : ℕ → ℕ) (t : Table) (h k v : ℕ) (ws ds : List ℕ) (e : Entry) (s : Stop) {n : ℕ} (w : Ends s n (walk S cs h k)) where
  found_again : is_found (find_in S null cs value h k).said ≡ is_found (find_at S null value s)
  found_again = ap (λ (a : Answer). is_found a.said) (sym (find_ends S null cs value h k w s refl))

  -- found again: Stale, and all is left
  pub put_stale : true ≡ is_found (find_at S null value s)
      → record { entry = e; left = record { done = record { said = refused 7 []; looked = 0; counts = counts_of t.live; words = ws; deltas = ds }; hasher = t.hasher } } ≡ handed_by (put_in S null cs value (counts_of t.live) h k v) e t ws ds
  unfolding put_in done_by
  put_stale f = rw (found_again, ← f)

  -- not found: what the insert did, without its count
  module _ (f : false ≡ is_found (find_at S null value s)) {r : Inserted} {ws' ds' : List ℕ} (d : InsertedBy r (insert_stored S null cs value (counts_of t.live) h k v) ws ds ws' ds') where
    said_as : (insert_stored S null cs value (counts_of t.live) h k v).said ≡ worker_said r.said
    unfolding done_by
    said_as = sym (ap (λ (x : Done). x.said) d.done)

    handed : (told : Said) → told ≡ worker_said r.said → (e' : Entry) → entry_after e (insert_stored S null cs value (counts_of t.live) h k v).change ≡ e'
        → record { entry = e'; left = record { done = record { said = told; looked = 0; counts = counts_of r.live; words = ws'; deltas = ds' }; hasher = t.hasher } } ≡ handed_by (put_in S null cs value (counts_of t.live) h k v) e t ws ds
    unfolding put_in done_by
    handed told et e' ee =
        rw (found_again, ← f)
        (λ j. record {
          entry = sym ee j;
          left =
              record {
                done =
                    record {
                      said = (et ∙ sym said_as) j;
                      looked = 0;
                      counts = (d.done j).counts;
                      words = (d.done j).words;
                      deltas = (d.done j).deltas;
                    };
                hasher = t.hasher;
              };
        })

    pub put_refused : (x : WalkError) → answer_of r.said ≡ Err x → (told : Said) → told ≡ walk_failed x
        → record { entry = e; left = record { done = record { said = told; looked = 0; counts = counts_of r.live; words = ws'; deltas = ds' }; hasher = t.hasher } } ≡ handed_by (put_in S null cs value (counts_of t.live) h k v) e t ws ds
    put_refused x q told et =
        let es = ap answer_said q in
        handed told (et ∙ sym es) e (kept e _ (sym d.cell ∙ ap (place_by r.at) (said_as ∙ es) ∙ nowhere r.at x))

    pub put_inserted : (x : InsertSaid) → answer_of r.said ≡ Ok x → (told : Said) → told ≡ put_said x
        → record { entry = record { key = e.key; hash = e.hash; place = occupied r.at }; left = record { done = record { said = told; looked = 0; counts = counts_of r.live; words = ws'; deltas = ds' }; hasher = t.hasher } } ≡ handed_by (put_in S null cs value (counts_of t.live) h k v) e t ws ds
    put_inserted x q told et =
        let es = ap answer_said q in
        handed told (et ∙ sym es) _ (moved e _ r.at (sym d.cell ∙ ap (place_by r.at) (said_as ∙ es) ∙ there r.at x))
